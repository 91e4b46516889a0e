-- Which modules stand in the module that a join or a copy makes.
use Rattle.std.proofs.Common.{◌≡◌, ℕ, zero, suc, ◌+◌, ◌-◌, ◌<◌, List, [], ◌∷◌, ◌++◌, map, length, Option, Some, None, refl, sym, ap, ◌∙◌, subst, ⊎_elim, arith}
use Rattle.std.specs.Prelude.{slice_get, option_map}
use Rattle.std.proofs.lemmas.Bool.{cases_lt}
use Rattle.std.proofs.lemmas.Option.{slice_get_within, slice_get-map}
use Rattle.rtl_ir.specs.declared.design.Design.{Design}
use Rattle.rtl_ir.specs.declared.design.Module.{Module}
use Rattle.rtl_ir.specs.declared.design.Net.{Net}
use Rattle.rtl_ir.specs.declared.design.Mem.{Mem}
use Rattle.rtl_ir.specs.declared.design.Assign.{Assign}
use Rattle.rtl_ir.specs.declared.design.Update.{Update}
use Rattle.rtl_ir.specs.declared.design.Target.{Target}
use Rattle.rtl_ir.specs.declared.design.Target.TheVariants.{Reg, Cell as Place}
use Rattle.rtl_ir.specs.declared.design.Expr.{Expr}
use Rattle.rtl_ir.specs.declared.design.Expr.TheVariants.{Net as Plain, Literal, Not, Binary, Concat, Repeat, Part, Choose, Cell}
use Rattle.rtl_ir.specs.Value.{net_width, net_kept, mem_depth}
use Rattle.rtl_ir.specs.Operands.{target_net, target_mem}
use Rattle.rtl_ir.specs.Typed.{mem_width}
use Rattle.verilog_sim.specs.Relocation.{bare_net, bare_mem, relocated_expr, relocated_assign, relocated_target, relocated_update, joins_of}
use Rattle.verilog_sim.specs.Flattened.{IsCopied, IsJoined}
use Rattle.verilog_sim.proofs.Cutting.{IsOutside, AreOutside, Sits, Ranged}

pub get_left : {A : Type 0} (xs ys : List A) (k : ℕ) → k < length xs → slice_get (xs ++ ys) k ≡ slice_get xs k
get_left [] ys k lt = absurd (omega arith)
get_left (x ∷ xs) ys zero lt = refl
get_left (x ∷ xs) ys (suc k) lt = get_left xs ys k (omega arith)

pub get_right : {A : Type 0} (xs ys : List A) (k : ℕ) → slice_get (xs ++ ys) (length xs + k) ≡ slice_get ys k
get_right [] ys k = ap (slice_get ys) (let e : 0 + k ≡ k = omega arith in e)
get_right (x ∷ xs) ys k = let e : length (x ∷ xs) + k ≡ suc (length xs + k) = omega arith in ap (slice_get (x ∷ (xs ++ ys))) e ∙ get_right xs ys k

pub some_left : {A : Type 0} (xs ys : List A) (k : ℕ) (x : A) → slice_get xs k ≡ Some x → slice_get (xs ++ ys) k ≡ Some x
some_left xs ys k x e = get_left xs ys k (slice_get_within xs k x e) ∙ e

-- what stands in a list that was put together stands in one of the two
pub data Side {A : Type 0} (xs ys : List A) (k : ℕ) (x : A) : Type 0 where
  left : k < length xs → slice_get xs k ≡ Some x → Side xs ys k x
  right : (j : ℕ) → k ≡ length xs + j → slice_get ys j ≡ Some x → Side xs ys k x

pub side_of : {A : Type 0} (xs ys : List A) (k : ℕ) (x : A) → slice_get (xs ++ ys) k ≡ Some x → Side xs ys k x
side_of xs ys k x e = ⊎_elim (λ lt. left lt (sym (get_left xs ys k lt) ∙ e))
    (λ ge. (let q : length xs + (k - length xs) ≡ k = omega arith in right (k - length xs)
    (sym q) (sym (get_right xs ys (k - length xs)) ∙ ap (slice_get (xs
    ++ ys)) q ∙ e))) (cases_lt k (length xs))

pub some_of_map : {A B : Type 0} (f : A → B) (o : Option A) (y : B) → option_map f o ≡ Some y → (x : A) × (o ≡ Some x) × (f x ≡ y)
some_of_map f None y e = absurd (cc)
some_of_map f (Some x) y e = (x, refl, cc)

pub of_map : {A B : Type 0} (f : A → B) (xs : List A) (k : ℕ) (y : B) → slice_get (map f xs) k ≡ Some y → (x : A) × (slice_get xs k ≡ Some x) × (f x ≡ y)
of_map f xs k y e = some_of_map f (slice_get xs k) y (sym (slice_get-map f xs k) ∙ e)

pub to_map : {A B : Type 0} (f : A → B) (xs : List A) (k : ℕ) (x : A) → slice_get xs k ≡ Some x → slice_get (map f xs) k ≡ Some (f x)
to_map f xs k x e = slice_get-map f xs k ∙ ap (option_map f) e

pub map_same : {A : Type 0} (f : A → A) (xs : List A) → ((x : A) → f x ≡ x) → map f xs ≡ xs
map_same f [] h = refl
map_same f (x ∷ xs) h = ap (λ y. y ∷ map f xs) (h x) ∙ ap (λ l. x ∷ l) (map_same f xs h)

append_nil : {A : Type 0} (xs : List A) → xs ++ [] ≡ xs
append_nil [] = refl
append_nil (x ∷ xs) = ap (λ l. x ∷ l) (append_nil xs)

pub none : (n : ℕ) → 0 + n ≡ n
none n = omega arith

pub expr_same : (e : Expr) → relocated_expr 0 0 e ≡ e
expr_same (Plain n) = ap Plain (none n)
expr_same (Literal x) = refl
expr_same (Not n) = ap Not (none n)
expr_same (Binary s n o) = ap (λ i. Binary s i (0 + o)) (none n) ∙ ap (Binary s n) (none o)
expr_same (Concat n o) = ap (λ i. Concat i (0 + o)) (none n) ∙ ap (Concat n) (none o)
expr_same (Repeat k n) = ap (Repeat k) (none n)
expr_same (Part n hi lo) = ap (λ i. Part i hi lo) (none n)
expr_same (Choose n o p) = ap (λ i. Choose i (0 + o) (0 + p)) (none n) ∙ ap (λ i. Choose n i (0 + p)) (none o) ∙ ap (Choose n o) (none p)
expr_same (Cell k n) = ap (λ i. Cell i (0 + n)) (none k) ∙ ap (Cell k) (none n)

abbrev pub assign_made : ℕ → Expr → Assign
assign_made t e = record { target = t; expr = e }

pub assign_same : (a : Assign) → relocated_assign 0 0 a ≡ a
assign_same a = ap (λ t. assign_made t (relocated_expr 0 0 a.expr)) (none a.target) ∙ ap (assign_made a.target) (expr_same a.expr)

target_same : (t : Target) → relocated_target 0 0 t ≡ t
target_same (Reg n) = ap Reg (none n)
target_same (Place k a) = ap (λ i. Place i (0 + a)) (none k) ∙ ap (Place k) (none a)

abbrev update_made : ℕ → Target → ℕ → Update
update_made e t x = record { enable = e; target = t; value = x }

pub update_same : (u : Update) → relocated_update 0 0 u ≡ u
update_same u = ap (λ i. update_made i (relocated_target 0 0 u.target) (0 + u.value))
    (none u.enable) ∙ ap (λ t. update_made u.enable t (0 + u.value)) (target_same u.target) ∙ ap
    (update_made u.enable u.target) (none u.value)

-- names say nothing of widths
width_bare : (o : Option Net) → net_width (option_map bare_net o) ≡ net_width o
width_bare None = refl
width_bare (Some n) = refl

kept_bare : (o : Option Net) → net_kept (option_map bare_net o) ≡ net_kept o
kept_bare None = refl
kept_bare (Some n) = refl

depth_bare : (o : Option Mem) → mem_depth (option_map bare_mem o) ≡ mem_depth o
depth_bare None = refl
depth_bare (Some n) = refl

words_bare : (o : Option Mem) → mem_width (option_map bare_mem o) ≡ mem_width o
words_bare None = refl
words_bare (Some n) = refl

net_right : (inner n : Module) (xs : List Net) → n.nets ≡ xs ++ map bare_net inner.nets → (k : ℕ) → slice_get n.nets (length xs + k) ≡ option_map bare_net (slice_get inner.nets k)
net_right inner n xs e k = ap (λ (l : List Net). slice_get l (length xs + k)) e ∙ get_right xs (map bare_net inner.nets) k ∙ slice_get-map bare_net inner.nets k

mem_right : (inner n : Module) (xs : List Mem) → n.mems ≡ xs ++ map bare_mem inner.mems → (k : ℕ) → slice_get n.mems (length xs + k) ≡ option_map bare_mem (slice_get inner.mems k)
mem_right inner n xs e k = ap (λ (l : List Mem). slice_get l (length xs + k)) e ∙ get_right xs (map bare_mem inner.mems) k ∙ slice_get-map bare_mem inner.mems k

outside_below : (m : Module) → Ranged m → (nets mems : ℕ) → AreOutside (length m.nets) nets (length m.mems) mems m.updates
outside_below m r nets mems j u at = by_target u.target (r.updates j u at).net (r.updates j u at).mem
  where
    by_target : (t : Target) → target_net t < length m.nets → ((k : ℕ) → target_mem t ≡ Some k → k < length m.mems) → IsOutside (length m.nets) nets (length m.mems) mems t
    by_target (Reg r) net mem = λ k lt e. omega (arith, net, e)
    by_target (Place i a) net mem = λ k lt e. omega (arith, mem i refl, e)

outside_above : (b c : ℕ) (us : List Update) → AreOutside 0 b 0 c (map (relocated_update b c) us)
outside_above b c us j w at =
    let q = of_map (relocated_update b c) us j w at in
    subst (λ (u : Update). IsOutside 0 b 0 c u.target) q.2 (by_target q.0.target)
  where
    by_target : (t : Target) → IsOutside 0 b 0 c (relocated_target b c t)
    by_target (Reg r) = λ k lt e. omega (arith, lt, e)
    by_target (Place i a) = λ k lt e. omega (arith, lt, e)

-- the module that became a part
pub sits_inner : {d : Design} {m n : Module} {s : _} (j : IsJoined d m s n) → Ranged m → Sits (length m.nets) (length m.mems) j.inner n
sits_inner {m = m} {n = n} j r =
    record {
      widths = λ k lt. ap net_width (net_right j.inner n m.nets j.nets k) ∙ width_bare (slice_get j.inner.nets k);
      regs = λ k lt. ap net_kept (net_right j.inner n m.nets j.nets k) ∙ kept_bare (slice_get j.inner.nets k);
      depths = λ k lt. ap mem_depth (mem_right j.inner n m.mems j.mems k) ∙ depth_bare (slice_get j.inner.mems k);
      word_widths = λ k lt. ap mem_width (mem_right j.inner n m.mems j.mems k) ∙ words_bare (slice_get j.inner.mems k);
      assigns = λ k a at. (
        length m.assigns + k,
        ap (λ (l : List Assign). slice_get l (length m.assigns + k)) j.assigns
            ∙ some_left (m.assigns ++ moved) (joins_of
            (length m.nets) j.inner.ports j.part.nets) (length m.assigns + k)
            (relocated_assign (length m.nets) (length m.mems) a)
            (get_right m.assigns moved k ∙ to_map (relocated_assign (length m.nets)
            (length m.mems)) j.inner.assigns k a at),
      );
      before = m.updates;
      behind = [];
      updates = j.updates ∙ ap (λ l. m.updates ++ l) (sym (append_nil (map (relocated_update (length m.nets) (length m.mems)) j.inner.updates)));
      apart = outside_below m r (length j.inner.nets) (length j.inner.mems);
      apart_behind = λ k u at. absurd (cc);
    }
  where
    moved : List Assign
    moved = map (relocated_assign (length m.nets) (length m.mems)) j.inner.assigns

-- the module that had the instance
pub sits_outer : {d : Design} {m n : Module} {s : _} (j : IsJoined d m s n) → Sits 0 0 m n
sits_outer {m = m} {n = n} j =
    record {
      widths = λ k lt. ap net_width (net_at k lt);
      regs = λ k lt. ap net_kept (net_at k lt);
      depths = λ k lt. ap mem_depth (mem_at k lt);
      word_widths = λ k lt. ap mem_width (mem_at k lt);
      assigns = λ k a at. (
        k,
        ap (λ (l : List Assign). slice_get l k) j.assigns
            ∙ some_left (m.assigns ++ moved) (joins_of
            (length m.nets) j.inner.ports j.part.nets) k (relocated_assign 0 0 a)
            (some_left m.assigns moved k (relocated_assign 0 0 a)
            (at ∙ ap Some (sym (assign_same a)))),
      );
      before = [];
      behind = map (relocated_update (length m.nets) (length m.mems)) j.inner.updates;
      updates = j.updates ∙ ap (λ l. l ++ map (relocated_update (length m.nets) (length m.mems)) j.inner.updates) (sym (map_same (relocated_update 0 0) m.updates update_same));
      apart = λ k u at. absurd (cc);
      apart_behind = outside_above (length m.nets) (length m.mems) j.inner.updates;
    }
  where
    moved : List Assign
    moved = map (relocated_assign (length m.nets) (length m.mems)) j.inner.assigns

    net_at : (k : ℕ) → k < length m.nets → slice_get n.nets (0 + k) ≡ slice_get m.nets k
    net_at k lt = ap (slice_get n.nets) (none k) ∙ ap (λ (l : List Net). slice_get l k) j.nets ∙ get_left m.nets (map bare_net j.inner.nets) k lt

    mem_at : (k : ℕ) → k < length m.mems → slice_get n.mems (0 + k) ≡ slice_get m.mems k
    mem_at k lt = ap (slice_get n.mems) (none k) ∙ ap (λ (l : List Mem). slice_get l k) j.mems ∙ get_left m.mems (map bare_mem j.inner.mems) k lt

-- the module that was copied
pub sits_copied : {m n : Module} → IsCopied m n → Sits 0 0 m n
sits_copied {m = m} {n = n} j =
    record {
      widths = λ k lt. ap net_width (net_right m n [] j.nets k) ∙ width_bare (slice_get m.nets k);
      regs = λ k lt. ap net_kept (net_right m n [] j.nets k) ∙ kept_bare (slice_get m.nets k);
      depths = λ k lt. ap mem_depth (mem_right m n [] j.mems k) ∙ depth_bare (slice_get m.mems k);
      word_widths = λ k lt. ap mem_width (mem_right m n [] j.mems k) ∙ words_bare (slice_get m.mems k);
      assigns = λ k a at. (k, ap (λ (l : List Assign). slice_get l k) j.assigns ∙ to_map (relocated_assign 0 0) m.assigns k a at);
      before = [];
      behind = [];
      updates = j.updates ∙ sym (append_nil (map (relocated_update 0 0) m.updates));
      apart = λ k u at. absurd (cc);
      apart_behind = λ k u at. absurd (cc);
    }
