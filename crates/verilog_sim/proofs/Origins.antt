-- Assignments that read nets where they come from say the same.
use Rattle.std.proofs.Common.{◌≡◌, ◌≢◌, ℕ, zero, suc, ◌+◌, ◌-◌, ◌*◌, ◌/◌, ◌%◌, ◌^◌, ◌<◌, ◌≤◌, Bool}
use Rattle.std.proofs.Common.{true, false, cond, eqb, ltb, List, [], ◌∷◌, ◌++◌, map, length, get_or}
use Rattle.std.proofs.Common.{set, Some, refl, sym, ap, ◌∙◌, subst, ⊎_elim, arith, get_or-set_other}
use Rattle.std.proofs.Common.{get_or-set_same}
use Rattle.std.specs.Prelude.{slice_get}
use Rattle.std.proofs.lemmas.Bool.{cases_eq, cases_lt}
use Rattle.std.proofs.lemmas.Option.{slice_get_within, slice_get-get_or}
use Rattle.std.proofs.lemmas.List.{length-set}
use Rattle.rtl_ir.specs.declared.design.Module.{Module}
use Rattle.rtl_ir.specs.declared.design.Assign.{Assign}
use Rattle.rtl_ir.specs.declared.design.Update.{Update}
use Rattle.rtl_ir.specs.declared.design.Target.{Target}
use Rattle.rtl_ir.specs.declared.design.Target.TheVariants.{Reg, Cell as Place}
use Rattle.rtl_ir.specs.declared.design.Expr.{Expr}
use Rattle.rtl_ir.specs.declared.design.Expr.TheVariants.{Net as Plain, Literal, Not, Binary, Concat, Repeat, Part, Choose, Cell}
use Rattle.rtl_ir.specs.Value.{Family, Contents, value, width_of, repeated, is_reg, depth_of}
use Rattle.rtl_ir.specs.Edge.{Fits, with_cell, written, updated, updated_all}
use Rattle.rtl_ir.specs.Operands.{reads, IsRead, target_net, target_mem}
use Rattle.rtl_ir.specs.Typed.{IsTyped, is_given, target_width, IsUpdateTyped}
use Rattle.rtl_ir.specs.Formed.{IsFormedExpr, IsFormedAssign, IsFormedUpdate}
use Rattle.rtl_ir.proofs.Ports.{value_agrees, assigned_at, assigned_of}
use Rattle.verilog_sim.specs.Runnable.{Follows, Chain, IsRunnable, IsOrderOf}
use Rattle.verilog_sim.specs.Runnable.Follows.{by}
use Rattle.verilog_sim.specs.Runnable.Chain.{stay, on}
use Rattle.verilog_sim.specs.Settled.{IsInOrder}
use Rattle.verilog_sim.specs.Feeding.{AreNetsBelow}
use Rattle.verilog_sim.specs.Origins.{expr_at, assign_at, target_at, update_at, with_origin, Hold, AreTold, AreAtOrigins, with_lists, StandFor, DoesSame}
use Rattle.verilog_sim.proofs.Gathering.{PushedAt, pushed_at, get_left, get_last}
use Rattle.verilog_sim.proofs.Gathering.PushedAt.{before, last}
use Rattle.verilog_sim.proofs.Joining.{sign_typed}
use Rattle.verilog_sim.proofs.Sitting.{of_map, to_map}

module _ (os : List ℕ) where
  reads_at : (e : Expr) → reads (expr_at os e) ≡ map (λ n. get_or os n 0) (reads e)
  reads_at (Plain n) = refl
  reads_at (Literal x) = refl
  reads_at (Not n) = refl
  reads_at (Binary s n o) = refl
  reads_at (Concat n o) = refl
  reads_at (Repeat k n) = refl
  reads_at (Part n hi lo) = refl
  reads_at (Choose n o p) = refl
  reads_at (Cell k n) = refl

  -- what is read there is the origin of what was read
  read_at : (e : Expr) (n : ℕ) → IsRead (expr_at os e) n → (t : ℕ) × IsRead e t × (get_or os t 0 ≡ n)
  read_at e n r =
      let q = of_map (λ t. get_or os t 0) (reads e) r.0 n (sym (ap (λ (l : List ℕ). slice_get l r.0) (reads_at e)) ∙ r.1) in
      (q.0, (r.0, q.1), q.2)

  formed_at : (m : Module) (e : Expr) → ((n : ℕ) → n < length m.nets → get_or os n 0 < length m.nets) → IsFormedExpr m e → IsFormedExpr m (expr_at os e)
  formed_at m e inside f = by_case e (λ n r. (let q = read_at e n r in subst (λ (x : ℕ). x < length m.nets) q.2 (inside q.0 (f.nets q.0 q.1)))) f
    where
      by_case : (e : Expr) → ((n : ℕ) → IsRead (expr_at os e) n → n < length m.nets) → IsFormedExpr m e → IsFormedExpr m (expr_at os e)
      by_case (Plain n) nets f = record { nets = nets; mem = f.mem; numbers = f.numbers }
      by_case (Literal x) nets f = record { nets = nets; mem = f.mem; numbers = f.numbers }
      by_case (Not n) nets f = record { nets = nets; mem = f.mem; numbers = f.numbers }
      by_case (Binary s n o) nets f = record { nets = nets; mem = f.mem; numbers = f.numbers }
      by_case (Concat n o) nets f = record { nets = nets; mem = f.mem; numbers = f.numbers }
      by_case (Repeat k n) nets f = record { nets = nets; mem = f.mem; numbers = f.numbers }
      by_case (Part n hi lo) nets f = record { nets = nets; mem = f.mem; numbers = f.numbers }
      by_case (Choose n o p) nets f = record { nets = nets; mem = f.mem; numbers = f.numbers }
      by_case (Cell k n) nets f = record { nets = nets; mem = f.mem; numbers = f.numbers }

  typed_at : (m : Module) (w : ℕ) (e : Expr) → ((n : ℕ) → IsRead e n → width_of m (get_or os n 0) ≡ width_of m n) → IsTyped m w e → IsTyped m w (expr_at os e)
  typed_at m w (Plain n) h t = h n (0, refl) ∙ t
  typed_at m w (Literal x) h t = t
  typed_at m w (Not n) h t = h n (0, refl) ∙ t
  typed_at m w (Binary s n o) h t = sign_typed s w (width_of m n) (width_of m o) (width_of m (get_or os n 0)) (width_of m (get_or os o 0)) (h n (0, refl)) (h o (1, refl)) t
  typed_at m w (Concat n o) h t = omega (arith, h n (0, refl), h o (1, refl), t)
  typed_at m w (Repeat k n) h t = ap (λ x. k * x) (h n (0, refl)) ∙ t
  typed_at m w (Part n hi lo) h t = (t.0, omega (arith, t.1, h n (0, refl)), t.2)
  typed_at m w (Choose n o p) h t = (h n (0, refl) ∙ t.0, h o (1, refl) ∙ t.1, h p (2, refl) ∙ t.2)
  typed_at m w (Cell k n) h t = t

  value_at : (m : Module) (c : Contents) (v : Family) (w : ℕ) (e : Expr)
      → ((n : ℕ) → IsRead e n → width_of m (get_or os n 0) ≡ width_of m n)
      → value m c v w (expr_at os e) ≡ value m c (λ n. v (get_or os n 0)) w e
  value_at m c v w (Plain n) h = refl
  value_at m c v w (Literal x) h = refl
  value_at m c v w (Not n) h = refl
  value_at m c v w (Binary s n o) h = refl
  value_at m c v w (Concat n o) h = ap (λ x. v (get_or os n 0) * 2 ^ x + v (get_or os o 0)) (h o (1, refl))
  value_at m c v w (Repeat k n) h = ap (λ x. repeated k x (v (get_or os n 0))) (h n (0, refl))
  value_at m c v w (Part n hi lo) h = refl
  value_at m c v w (Choose n o p) h = refl
  value_at m c v w (Cell k n) h = refl

-- each net is its own origin at first
pub own_at_first : (m : Module) (order : List Assign) (os : List ℕ) → length os ≡ length m.nets → ((n : ℕ) → n < length m.nets → get_or os n 0 ≡ n) → AreAtOrigins m order os [] 0
own_at_first m order os size own =
    record {
      nets = size;
      inside = λ n lt. subst (λ (x : ℕ). x < length m.nets) (sym (own n lt)) lt;
      own = λ n lt. ap (λ k. get_or os k 0) (own n lt);
      widths = λ n lt. ap (width_of m) (own n lt);
      size = refl;
      targets = λ i a b at bt. absurd (cc);
      formed = λ i b bt. absurd (cc);
      typed = λ i b bt. absurd (cc);
      unread = λ i j b a le bt. absurd (cc);
      free = λ n j a lt le at e. own n lt;
      told = λ c v h. record { origins = λ n lt. ap v (own n lt); assigned = λ i a less. absurd (omega arith) };
    }

module _ (m : Module) (order : List Assign) (o : IsInOrder m order) (os : List ℕ) (new : List Assign) (i : ℕ) (p : AreAtOrigins m order os new i) where
  -- one assignment more
  module _ (a : Assign) (at : slice_get order i ≡ Some a) (f : IsFormedAssign m a) where
    abbrev direct : Assign
    direct = assign_at os a

    widths_read : (n : ℕ) → IsRead a.expr n → width_of m (get_or os n 0) ≡ width_of m n
    widths_read n read = p.widths n (f.expr.nets n read)

    direct_formed : IsFormedAssign m direct
    direct_formed = record { target = f.target; expr = formed_at os m a.expr p.inside f.expr }

    direct_typed : IsTyped m (width_of m a.target) (expr_at os a.expr)
    direct_typed = typed_at os m (width_of m a.target) a.expr widths_read (o.typed i a at)

    targets : (j : ℕ) (x y : Assign) → slice_get order j ≡ Some x → PushedAt new direct j y → y.target ≡ x.target
    targets j x y xt (before lt e) = p.targets j x y xt e
    targets j x y xt (last q e) =
        let xt' : slice_get order i ≡ Some x = subst (λ (k : ℕ). slice_get order k ≡ Some x) (q ∙ p.size) xt in
        let r : a ≡ x = cc in
        sym (ap (λ (z : Assign). z.target) e) ∙ ap (λ (z : Assign). z.target) r

    formed : (j : ℕ) (y : Assign) → PushedAt new direct j y → IsFormedAssign m y
    formed j y (before lt e) = p.formed j y e
    formed j y (last q e) = subst (IsFormedAssign m) e direct_formed

    typed : (j : ℕ) (y : Assign) → PushedAt new direct j y → IsTyped m (width_of m y.target) y.expr
    typed j y (before lt e) = p.typed j y e
    typed j y (last q e) = subst (λ (z : Assign). IsTyped m (width_of m z.target) z.expr) e direct_typed

    unread : (j k : ℕ) (y x : Assign) → j ≤ k → PushedAt new direct j y → slice_get order k ≡ Some x → IsRead y.expr x.target → ⊥
    unread j k y x le (before lt e) xt read = p.unread j k y x le e xt read
    unread j k y x le (last q e) xt read =
        let r = read_at os a.expr x.target (subst (λ (z : Assign). IsRead z.expr x.target) (sym e) read) in
        let past : i ≤ k = omega (arith, le, q, p.size) in
        let own : get_or os r.0 0 ≡ r.0 = p.free r.0 k x (f.expr.nets r.0 r.1) past xt (sym r.2) in
        o.unread i k a x past at xt (subst (IsRead a.expr) (sym own ∙ r.2) r.1)

    told : (c : Contents) (v : Family) → Hold m c v (new ++ direct ∷ []) → AreTold m c v order os (i + 1)
    told c v h = record { origins = old.origins; assigned = λ j x less xt. ⊎_elim (λ lt. old.assigned j x lt xt) (λ ge. here j x (omega arith) xt) (cases_lt j i) }
      where
        old : AreTold m c v order os i
        old = p.told c v (λ j y e. h j y (get_left new direct j (slice_get_within new j y e) ∙ e))

        is : v a.target ≡ value m c v (width_of m a.target) a.expr
        is =
            h (length new) direct (get_last new direct)
            ∙ value_at os m c v (width_of m a.target) a.expr widths_read
            ∙ value_agrees m c (λ n. v (get_or os n 0)) v (width_of m a.target) a.expr (λ n read. old.origins n (f.expr.nets n read))

        here : (j : ℕ) (x : Assign) → j ≡ i → slice_get order j ≡ Some x → v x.target ≡ value m c v (width_of m x.target) x.expr
        here j x q xt =
            let xt' : slice_get order i ≡ Some x = subst (λ (k : ℕ). slice_get order k ≡ Some x) q xt in
            let r : a ≡ x = cc in
            subst (λ (z : Assign). v z.target ≡ value m c v (width_of m z.target) z.expr) r is

    pub one_more_direct : AreAtOrigins m order os (new ++ direct ∷ []) (i + 1)
    one_more_direct =
        record {
          nets = p.nets;
          inside = p.inside;
          own = p.own;
          widths = p.widths;
          size = length_more;
          targets = λ j x y xt yt. targets j x y xt (pushed_at new direct j y yt);
          formed = λ j y yt. formed j y (pushed_at new direct j y yt);
          typed = λ j y yt. typed j y (pushed_at new direct j y yt);
          unread = λ j k y x le yt xt read. unread j k y x le (pushed_at new direct j y yt) xt read;
          free = λ n j x lt le xt e. p.free n j x lt (omega arith) xt e;
          told = told;
        }
      where
        length_more : length (new ++ direct ∷ []) ≡ i + 1
        length_more = Rattle.std.proofs.Common.length-append new (direct ∷ []) ∙ ap (λ k. k + 1) p.size

  -- a copy among them, whose origin is noted: that is its own, and no other net has come from the copy
  module _ (k t : ℕ) (b : Assign) (bt : slice_get new k ≡ Some b) (is : b.expr ≡ Plain t) (source : get_or os t 0 ≡ t)
      (unused : (n : ℕ) → n < length m.nets → b.target ≡ get_or os n 0 → get_or os n 0 ≡ n) where
    reads_it : IsRead b.expr t
    reads_it = subst (λ (e : Expr). IsRead e t) (sym is) (0, refl)

    inside_it : t < length m.nets
    inside_it = (p.formed k b bt).expr.nets t reads_it

    target_in : b.target < length os
    target_in = (let lt = (p.formed k b bt).target in omega (arith, lt, p.nets))

    width_it : width_of m t ≡ width_of m b.target
    width_it = subst (IsTyped m (width_of m b.target)) is (p.typed k b bt)

    same_there : get_or (set os b.target t) b.target 0 ≡ t
    same_there = get_or-set_same os b.target t 0 target_in

    at_net : (P : ℕ → ℕ → Type 0) → P b.target t → ((n : ℕ) → n < length m.nets → P n (get_or os n 0)) → (n : ℕ) → n < length m.nets → P n (get_or (set os b.target t) n 0)
    at_net P here other n lt =
        ⊎_elim
        (λ e. subst (λ (x : ℕ). P x (get_or (set os b.target t) x 0)) (sym e) (subst (P b.target) (sym same_there) here))
        (λ ne. subst (P n) (sym (get_or-set_other os b.target n t 0 ne)) (other n lt))
        (cases_eq n b.target)

    at_source : get_or (set os b.target t) t 0 ≡ t
    at_source =
        ⊎_elim
        (λ e. subst (λ (x : ℕ). get_or (set os b.target t) x 0 ≡ t) (sym e) same_there)
        (λ ne. get_or-set_other os b.target t t 0 ne ∙ source)
        (cases_eq t b.target)

    own_it : (n : ℕ) → n < length m.nets → get_or (set os b.target t) (get_or (set os b.target t) n 0) 0 ≡ get_or (set os b.target t) n 0
    own_it n lt = ⊎_elim at_target elsewhere (cases_eq n b.target)
      where
        at_target : n ≡ b.target → get_or (set os b.target t) (get_or (set os b.target t) n 0) 0 ≡ get_or (set os b.target t) n 0
        at_target e =
            let q : get_or (set os b.target t) n 0 ≡ t = ap (λ x. get_or (set os b.target t) x 0) e ∙ same_there in
            ap (λ x. get_or (set os b.target t) x 0) q ∙ at_source ∙ sym q

        elsewhere : n ≢ b.target → get_or (set os b.target t) (get_or (set os b.target t) n 0) 0 ≡ get_or (set os b.target t) n 0
        elsewhere ne =
            let q : get_or (set os b.target t) n 0 ≡ get_or os n 0 = get_or-set_other os b.target n t 0 ne in
            let there : get_or (set os b.target t) (get_or os n 0) 0 ≡ get_or os n 0 = ⊎_elim
            (λ e. absurd (ne (sym (unused n lt (sym e)) ∙ e)))
            (λ off. get_or-set_other os b.target (get_or os n 0) t 0 off ∙ p.own n lt)
            (cases_eq (get_or os n 0) b.target) in
            ap (λ x. get_or (set os b.target t) x 0) q ∙ there ∙ sym q

    free_it : (j : ℕ) (x : Assign) → i ≤ j → slice_get order j ≡ Some x → x.target ≡ t → ⊥
    free_it j x le xt e = (let lt = slice_get_within new k b bt in p.unread k j b x (omega (arith, lt, le, p.size)) bt xt (subst (IsRead b.expr) (sym e) reads_it))

    pub one_origin : AreAtOrigins m order (set os b.target t) new i
    one_origin =
        record {
          nets = length-set os b.target t ∙ p.nets;
          inside = at_net (λ n x. x < length m.nets) inside_it p.inside;
          own = own_it;
          widths = at_net (λ n x. width_of m x ≡ width_of m n) width_it p.widths;
          size = p.size;
          targets = p.targets;
          formed = p.formed;
          typed = p.typed;
          unread = p.unread;
          free = λ n j x lt le xt. at_net (λ y z. x.target ≡ z → z ≡ y) (λ e. absurd (free_it j x le xt e)) (λ y less e. p.free y j x less le xt e) n lt;
          told = λ c v h. (let old = p.told c v h in record { origins = at_net (λ n x. v x ≡ v n) (sym (h k b bt ∙ ap (value m c v (width_of m b.target)) is)) old.origins; assigned = old.assigned });
        }

-- what is read at an origin is its own origin
pub source_own : (m : Module) (order : List Assign) (os : List ℕ) (new : List Assign) (i : ℕ) → AreAtOrigins m order os new i
    → (a : Assign) → IsFormedAssign m a → (t : ℕ) → IsRead (expr_at os a.expr) t → get_or os t 0 ≡ t
source_own m order os new i p a f t read =
    let q = read_at os a.expr t read in
    subst (λ (x : ℕ). get_or os x 0 ≡ x) q.2 (p.own q.0 (f.expr.nets q.0 q.1))

-- an assignment more, and its origin where it is a copy
pub origin_noted : (m : Module) (order : List Assign) (o : IsInOrder m order) (os : List ℕ)
    (new : List Assign) (i k : ℕ) (b : Assign) → slice_get new k ≡ Some b
    → ((t : ℕ) → IsRead b.expr t → get_or os t 0 ≡ t)
    → ((n : ℕ) → n < length m.nets → b.target ≡ get_or os n 0 → get_or os n 0 ≡ n)
    → AreAtOrigins m order os new i → AreAtOrigins m order (with_origin b.expr b.target os) new i
origin_noted m order o os new i k b bt source unused p = by_case b.expr refl
  where
    by_case : (e : Expr) → b.expr ≡ e → AreAtOrigins m order (with_origin e b.target os) new i
    by_case (Plain t) is = one_origin m order o os new i p k t b bt is
        (source t (subst (λ (e : Expr). IsRead e t) (sym is) (0, refl))) unused
    by_case (Literal x) is = p
    by_case (Not n) is = p
    by_case (Binary s n q) is = p
    by_case (Concat n q) is = p
    by_case (Repeat j n) is = p
    by_case (Part n hi lo) is = p
    by_case (Choose n q r) is = p
    by_case (Cell j n) is = p

-- the module with other lists
module _ (m : Module) (as' : List Assign) (us : List Update) where
  abbrev other : Module
  other = with_lists m as' us

  typed_in : (w : ℕ) (e : Expr) → IsTyped m w e → IsTyped other w e
  typed_in w (Plain n) t = t
  typed_in w (Literal x) t = t
  typed_in w (Not n) t = t
  typed_in w (Binary s n o) t = t
  typed_in w (Concat n o) t = t
  typed_in w (Repeat k n) t = t
  typed_in w (Part n hi lo) t = t
  typed_in w (Choose n o p) t = t
  typed_in w (Cell k n) t = t

  value_in : (c : Contents) (v : Family) (w : ℕ) (e : Expr) → value other c v w e ≡ value m c v w e
  value_in c v w (Plain n) = refl
  value_in c v w (Literal x) = refl
  value_in c v w (Not n) = refl
  value_in c v w (Binary s n o) = refl
  value_in c v w (Concat n o) = refl
  value_in c v w (Repeat k n) = refl
  value_in c v w (Part n hi lo) = refl
  value_in c v w (Choose n o p) = refl
  value_in c v w (Cell k n) = refl

  formed_in : (a : Assign) → IsFormedAssign m a → IsFormedAssign other a
  formed_in a f = record { target = f.target; expr = record { nets = f.expr.nets; mem = f.expr.mem; numbers = f.expr.numbers } }

-- updates at origins
target_net_at : (m : Module) (os : List ℕ) (t : Target) → ((n : ℕ) → n < length m.nets → get_or os n 0 < length m.nets) → target_net t < length m.nets → target_net (target_at os t) < length m.nets
target_net_at m os (Reg n) inside lt = lt
target_net_at m os (Place k a) inside lt = inside a lt

target_mem_at : (os : List ℕ) (t : Target) → target_mem (target_at os t) ≡ target_mem t
target_mem_at os (Reg n) = refl
target_mem_at os (Place k a) = refl

target_width_at : (m : Module) (os : List ℕ) (t : Target) → target_width m (target_at os t) ≡ target_width m t
target_width_at m os (Reg n) = refl
target_width_at m os (Place k a) = refl

target_width_in : (m : Module) (as' : List Assign) (us : List Update) (t : Target) → target_width (with_lists m as' us) t ≡ target_width m t
target_width_in m as' us (Reg n) = refl
target_width_in m as' us (Place k a) = refl

reg_at : (os : List ℕ) (t : Target) (n : ℕ) → target_at os t ≡ Reg n → t ≡ Reg n
reg_at os (Reg k) n e = e
reg_at os (Place k a) n e = absurd (cc)

written_at : (m n : Module) (v : Family) (os : List ℕ) (t : Target) (x : ℕ) (c : Contents)
    → n.mems ≡ m.mems → v (target_net (target_at os t)) ≡ v (target_net t)
    → written n v (target_at os t) x c ≡ written m v t x c
written_at m n v os (Reg r) x c e same = refl
written_at m n v os (Place k a) x c e same =
    ap (λ y. cond (ltb y (depth_of n k)) (with_cell k y x c) c) same
    ∙ ap (λ (l : List _). cond (ltb (v a) (Rattle.rtl_ir.specs.Value.mem_depth (slice_get l k))) (with_cell k (v a) x c) c) e

updated_at : (m n : Module) (v : Family) (os : List ℕ) (u : Update) (c : Contents)
    → n.mems ≡ m.mems → ((k : ℕ) → k < length m.nets → v (get_or os k 0) ≡ v k)
    → AreNetsBelow (length m.nets) u → updated n v (update_at os u) c ≡ updated m v u c
updated_at m n v os u c e same b =
    ap (λ y. cond (eqb y 1) (written n v (target_at os u.target) (v (get_or os u.value 0)) c) c) (same u.enable b.enable)
    ∙ ap (λ y. cond (eqb (v u.enable) 1) (written n v (target_at os u.target) y c) c) (same u.value b.value)
    ∙ ap (λ y. cond (eqb (v u.enable) 1) y c) (written_at m n v os u.target (v u.value) c e (by_target u.target b.net))
  where
    by_target : (t : Target) → target_net t < length m.nets → v (target_net (target_at os t)) ≡ v (target_net t)
    by_target (Reg r) lt = refl
    by_target (Place k a) lt = same a lt

updates_at_same : (m n : Module) (v : Family) (os : List ℕ) (us : List Update) (c : Contents)
    → n.mems ≡ m.mems → ((k : ℕ) → k < length m.nets → v (get_or os k 0) ≡ v k)
    → ((j : ℕ) (u : Update) → slice_get us j ≡ Some u → AreNetsBelow (length m.nets) u)
    → updated_all n v (map (update_at os) us) c ≡ updated_all m v us c
updates_at_same m n v os [] c e same b = refl
updates_at_same m n v os (u ∷ us) c e same b =
    ap (updated_all n v (map (update_at os) us)) (updated_at m n v os u c e same (b 0 u refl))
    ∙ updates_at_same m n v os us (updated m v u c) e same (λ j x at. b (suc j) x at)

-- a net that is read for another one is given no value from that one's assignment on
behind : (m : Module) → ((j k : ℕ) (b a : Assign) → j ≤ k → slice_get m.assigns j ≡ Some b
    → slice_get m.assigns k ≡ Some a → IsRead b.expr a.target → ⊥) → (a b : ℕ) → Chain m a b
    → (j : ℕ) (x : Assign) → slice_get m.assigns j ≡ Some x → IsRead x.expr b
    → (k : ℕ) (y : Assign) → j ≤ k → slice_get m.assigns k ≡ Some y → y.target ≢ a
behind m unread a b stay j x xt read k y le yt e = unread j k x y le xt yt (subst (IsRead x.expr) (sym e) read)
behind m unread a b (on ch (by i n z zt rd)) j x xt read k y le yt e =
    ⊎_elim
    (λ lt. behind m unread a n ch i z zt rd k y (omega arith) yt e)
    (λ ge. unread j i x z ge xt zt read)
    (cases_lt i j)

no_loop : (m : Module) → ((j k : ℕ) (b a : Assign) → j ≤ k → slice_get m.assigns j ≡ Some b → slice_get m.assigns k ≡ Some a → IsRead b.expr a.target → ⊥) → (a b : ℕ) → Chain m a b → Follows m b a → ⊥
no_loop m unread a b ch (by j n x xt read) = behind m unread x.target n ch j x xt read j x (omega arith) xt refl

pub stand_for : (m : Module) (order : List Assign) (os : List ℕ) (new : List Assign)
    → IsRunnable m → IsOrderOf m order → AreAtOrigins m order os new (length order)
    → StandFor m os new (map (update_at os) m.updates)
stand_for m order os new r o p =
    record {
      runnable = runnable;
      ordered = record { in_order = record { typed = runnable.typed; unread = unread; once = once }; all = λ k a at. (k, at); from = λ k a at. (k, at) };
      fits = fits;
      after = λ c v f. updates_at_same m (with_lists m new us) v os m.updates c refl (p.told c v (hold c v f)).origins below;
      origins = record {
        size = p.nets;
        inside = p.inside;
        own = p.own;
        same = λ c v n f lt. (p.told c v (hold c v f)).origins n lt;
      };
    }
  where
    us : List Update
    us = map (update_at os) m.updates

    none : Assign
    none = record { target = 0; expr = Plain 0 }

    below : (j : ℕ) (u : Update) → slice_get m.updates j ≡ Some u → AreNetsBelow (length m.nets) u
    below j u at = (let f = r.updates j u at in record { enable = f.enable; value = f.value; net = f.net })

    -- the assignment of the order at a place
    from_order : (i : ℕ) (b : Assign) → slice_get new i ≡ Some b → (a : Assign) × (slice_get order i ≡ Some a) × (b.target ≡ a.target)
    from_order i b bt =
        let lt = slice_get_within new i b bt in
        let at : slice_get order i ≡ Some (get_or order i none) = slice_get-get_or order i none (omega (arith, lt, p.size)) in
        (get_or order i none, at, p.targets i (get_or order i none) b at bt)

    unread : (j k : ℕ) (b a : Assign) → j ≤ k → slice_get new j ≡ Some b → slice_get new k ≡ Some a → IsRead b.expr a.target → ⊥
    unread j k b a le bt at read = (let q = from_order k a at in p.unread j k b q.0 le bt q.1 (subst (IsRead b.expr) q.2 read))

    once : (j k : ℕ) (b a : Assign) → j < k → slice_get new j ≡ Some b → slice_get new k ≡ Some a → b.target ≢ a.target
    once j k b a lt bt at e = (let x = from_order j b bt in let y = from_order k a at in o.in_order.once j k x.0 y.0 lt x.1 y.1 (sym x.2 ∙ e ∙ y.2))

    one : (j k : ℕ) (b a : Assign) → slice_get new j ≡ Some b → slice_get new k ≡ Some a → b.target ≡ a.target → j ≡ k
    one j k b a bt at e =
        ⊎_elim (λ lt. absurd (once j k b a lt bt at e)) (λ ge. ⊎_elim (λ lt. absurd (once k j a b lt at bt (sym e))) (λ le. (let q : j ≡ k = omega arith in q)) (cases_lt k j)) (cases_lt j k)

    update_of : (k : ℕ) (w : Update) → slice_get us k ≡ Some w → (u : Update) × (slice_get m.updates k ≡ Some u) × (update_at os u ≡ w)
    update_of k w wt = of_map (update_at os) m.updates k w wt

    formed_update : (k : ℕ) (w : Update) → slice_get us k ≡ Some w → IsFormedUpdate (with_lists m new us) w
    formed_update k w wt =
        let q = update_of k w wt in
        let f = r.updates k q.0 q.1 in
        subst (IsFormedUpdate (with_lists m new us)) q.2
        (record {
          enable = p.inside q.0.enable f.enable;
          value = p.inside q.0.value f.value;
          net = target_net_at m os q.0.target p.inside f.net;
          mem = λ j e. f.mem j (sym (target_mem_at os q.0.target) ∙ e);
        })

    typed_update : (k : ℕ) (w : Update) → slice_get us k ≡ Some w → IsUpdateTyped (with_lists m new us) w
    typed_update k w wt =
        let q = update_of k w wt in
        let f = r.updates k q.0 q.1 in
        let t = r.update_widths k q.0 q.1 in
        subst (IsUpdateTyped (with_lists m new us)) q.2
        (record {
          enable = p.widths q.0.enable f.enable ∙ t.enable;
          value = p.widths q.0.value f.value ∙ t.value ∙ sym (target_width_at m os q.0.target) ∙ sym (target_width_in m new us (target_at os q.0.target));
        })

    runnable : IsRunnable (with_lists m new us)
    runnable =
        record {
          nets = r.nets;
          mems = r.mems;
          assigns = λ k b bt. formed_in m new us b (p.formed k b bt);
          typed = λ k b bt. typed_in m new us (width_of m b.target) b.expr (p.typed k b bt);
          given = λ k b bt. (let q = from_order k b bt in let f = o.from k q.0 q.1 in ap (is_given m) q.2 ∙ r.given f.0 q.0 f.1);
          one = one;
          free = no_loop (with_lists m new us) unread;
          updates = formed_update;
          update_widths = typed_update;
          regs = λ k n w wt e. (let q = update_of k w wt in r.regs k n q.0 q.1 (reg_at os q.0.target n (ap (λ (x : Update). x.target) q.2 ∙ e)));
          updated = λ n h. (let u = r.updated n h in (u.0, update_at os u.1, to_map (update_at os) m.updates u.0 u.1 u.2, ap (target_at os) u.3));
        }

    hold : (c : Contents) (v : Family) → Fits (with_lists m new us) c v → Hold m c v new
    hold c v f i b bt = assigned_at (with_lists m new us) c v new i b f.assigned bt ∙ value_in m new us c v (width_of m b.target) b.expr

    fits : (c : Contents) (v : Family) → Fits (with_lists m new us) c v → Fits m c v
    fits c v f =
        record {
          words = f.words;
          assigned = assigned_of m c v m.assigns (λ k a at. (let q = o.all k a at in (p.told c v (hold c v f)).assigned q.0 a (slice_get_within order q.0 a q.1) q.1));
          kept = f.kept;
        }

-- what holds of a module that does the same
pub runnable_same : {m n : Module} {os : List ℕ} → DoesSame m n os → IsRunnable n
runnable_same e = subst IsRunnable (sym e.lists) e.stand.runnable

pub ordered_same : {m n : Module} {os : List ℕ} → DoesSame m n os → IsOrderOf n n.assigns
ordered_same {n = n} e = subst (λ (x : Module). IsOrderOf x n.assigns) (sym e.lists) e.stand.ordered

pub nets_same : {m n : Module} {os : List ℕ} → DoesSame m n os → n.nets ≡ m.nets
nets_same e = ap (λ (x : Module). x.nets) e.lists

pub mems_same : {m n : Module} {os : List ℕ} → DoesSame m n os → n.mems ≡ m.mems
mems_same e = ap (λ (x : Module). x.mems) e.lists

pub ports_same : {m n : Module} {os : List ℕ} → DoesSame m n os → n.ports ≡ m.ports
ports_same e = ap (λ (x : Module). x.ports) e.lists
