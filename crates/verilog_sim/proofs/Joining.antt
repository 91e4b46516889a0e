-- The assignments, instances and drivers of a module with one more part: where each of them comes from.
use Rattle.std.proofs.Common.{◌≡◌, ℕ, zero, suc, ◌+◌, ◌*◌, ◌<◌, ◌≤◌, List, [], ◌∷◌, ◌++◌, map, length, Option, Some, None, refl, sym, ap, ◌∙◌, subst, arith}
use Rattle.std.specs.Prelude.{slice_get, option_map}
use Rattle.rtl_ir.specs.declared.design.Design.{Design}
use Rattle.rtl_ir.specs.declared.design.Module.{Module}
use Rattle.rtl_ir.specs.declared.design.Port.{Port}
use Rattle.rtl_ir.specs.declared.design.Assign.{Assign}
use Rattle.rtl_ir.specs.declared.design.Instance.{Instance}
use Rattle.rtl_ir.specs.declared.design.Sign.{Sign}
use Rattle.rtl_ir.specs.declared.design.Expr.{Expr}
use Rattle.rtl_ir.specs.declared.design.Expr.TheVariants.{Net as Plain, Literal, Not, Binary, Concat, Repeat, Part, Choose, Cell}
use Rattle.rtl_ir.specs.Value.{width_of}
use Rattle.rtl_ir.specs.Operands.{reads, IsRead, mem_read, bit_numbers}
use Rattle.rtl_ir.specs.Formed.{IsFormedExpr}
use Rattle.rtl_ir.specs.Typed.{IsTyped, IsSignTyped}
use Rattle.rtl_ir.specs.Rules.{Connection}
use Rattle.verilog_sim.specs.Relocation.{relocated_expr, relocated_assign, relocated_instance, join_of, joins_of}
use Rattle.verilog_sim.specs.declared.scope.Scope.{Scope}
use Rattle.verilog_sim.specs.Flattened.{IsJoined}
use Rattle.verilog_sim.proofs.Cutting.{Sits}
use Rattle.verilog_sim.proofs.Sitting.{Side, left, right, side_of, of_map}

-- a moved expression reads the moved nets
pub reads_relocated : (b c : ℕ) (e : Expr) → reads (relocated_expr b c e) ≡ map (λ n. b + n) (reads e)
reads_relocated b c (Plain n) = refl
reads_relocated b c (Literal x) = refl
reads_relocated b c (Not n) = refl
reads_relocated b c (Binary s n o) = refl
reads_relocated b c (Concat n o) = refl
reads_relocated b c (Repeat k n) = refl
reads_relocated b c (Part n hi lo) = refl
reads_relocated b c (Choose n o p) = refl
reads_relocated b c (Cell k n) = refl

mem_relocated : (b c : ℕ) (e : Expr) → mem_read (relocated_expr b c e) ≡ option_map (λ k. c + k) (mem_read e)
mem_relocated b c (Plain n) = refl
mem_relocated b c (Literal x) = refl
mem_relocated b c (Not n) = refl
mem_relocated b c (Binary s n o) = refl
mem_relocated b c (Concat n o) = refl
mem_relocated b c (Repeat k n) = refl
mem_relocated b c (Part n hi lo) = refl
mem_relocated b c (Choose n o p) = refl
mem_relocated b c (Cell k n) = refl

numbers_relocated : (b c : ℕ) (e : Expr) → bit_numbers (relocated_expr b c e) ≡ bit_numbers e
numbers_relocated b c (Plain n) = refl
numbers_relocated b c (Literal x) = refl
numbers_relocated b c (Not n) = refl
numbers_relocated b c (Binary s n o) = refl
numbers_relocated b c (Concat n o) = refl
numbers_relocated b c (Repeat k n) = refl
numbers_relocated b c (Part n hi lo) = refl
numbers_relocated b c (Choose n o p) = refl
numbers_relocated b c (Cell k n) = refl

pub read_moved : (b c : ℕ) (e : Expr) (n : ℕ) → IsRead (relocated_expr b c e) n → (t : ℕ) × IsRead e t × (b + t ≡ n)
read_moved b c e n r =
    let q = of_map (λ t. b + t) (reads e) r.0 n (sym (ap (λ (l : List ℕ). slice_get l r.0) (reads_relocated b c e)) ∙ r.1) in
    (q.0, (r.0, q.1), q.2)

some_moved : (c k : ℕ) (o : Option ℕ) → option_map (λ i. c + i) o ≡ Some k → (i : ℕ) × (o ≡ Some i) × (c + i ≡ k)
some_moved c k None e = absurd (cc)
some_moved c k (Some i) e = (i, refl, cc)

-- a moved expression is formed where its numbers stand in a larger module
pub formed_relocated : (b c : ℕ) (inner n : Module) → b + length inner.nets ≤ length n.nets
    → c + length inner.mems ≤ length n.mems → (e : Expr) → IsFormedExpr inner e
    → IsFormedExpr n (relocated_expr b c e)
formed_relocated b c inner n nets mems e f =
    record {
      nets = λ k r. (let q = read_moved b c e k r in omega (arith, f.nets q.0 q.1, q.2));
      mem = λ k r. (let q = some_moved c k (mem_read e) (sym (mem_relocated b c e) ∙ r) in omega (arith, f.mem q.0 q.1, q.2));
      numbers = λ i x at. f.numbers i x (sym (ap (λ (l : List ℕ). slice_get l i) (numbers_relocated b c e)) ∙ at);
    }

-- an expression is formed in a larger module
pub formed_wider : (m n : Module) → length m.nets ≤ length n.nets → length m.mems ≤ length n.mems → (e : Expr) → IsFormedExpr m e → IsFormedExpr n e
formed_wider m n nets mems e f = record { nets = λ k r. omega (arith, f.nets k r); mem = λ k r. omega (arith, f.mem k r); numbers = f.numbers }

pub sign_typed : (s : Sign) (w a b x y : ℕ) → x ≡ a → y ≡ b → IsSignTyped s w a b → IsSignTyped s w x y
sign_typed s w a b x y e f t = subst (λ (i : ℕ). IsSignTyped s w i y) (sym e) (subst (λ (i : ℕ). IsSignTyped s w a i) (sym f) t)

module _ (b c : ℕ) (inner n : Module) (s : Sits b c inner n) where
  pub typed_relocated : (w : ℕ) (e : Expr) → IsFormedExpr inner e → IsTyped inner w e → IsTyped n w (relocated_expr b c e)
  typed_relocated w (Plain k) f t = s.widths k (f.nets k (0, refl)) ∙ t
  typed_relocated w (Literal x) f t = t
  typed_relocated w (Not k) f t = s.widths k (f.nets k (0, refl)) ∙ t
  typed_relocated w (Binary o i j) f t = sign_typed o w (width_of inner i) (width_of inner j)
      (width_of n (b + i)) (width_of n (b + j)) (s.widths i (f.nets i (
        0,
        refl,
      ))) (s.widths j (f.nets j (1, refl))) t
  typed_relocated w (Concat i j) f t = ap (λ x. x + width_of n (b + j)) (s.widths i (f.nets i (0, refl))) ∙ ap (λ x. width_of inner i + x) (s.widths j (f.nets j (1, refl))) ∙ t
  typed_relocated w (Repeat k i) f t = ap (λ x. k * x) (s.widths i (f.nets i (0, refl))) ∙ t
  typed_relocated w (Part i hi lo) f t = (t.0, subst (λ (x : ℕ). hi < x) (sym (s.widths i (f.nets i (0, refl)))) t.1, t.2)
  typed_relocated w (Choose i j k) f t = (s.widths i (f.nets i (0, refl)) ∙ t.0, s.widths j (f.nets j (1, refl)) ∙ t.1, s.widths k (f.nets k (2, refl)) ∙ t.2)
  typed_relocated w (Cell k i) f t = s.word_widths k (f.mem k refl) ∙ t

-- an assignment that joins a port
pub record JoinAt (b : ℕ) (ps : List Port) (ns : List ℕ) (i : ℕ) (a : Assign) : Type 0 where
  pub port : Port
  pub net : ℕ
  pub at : slice_get ps i ≡ Some port
  pub joins : slice_get ns i ≡ Some net
  pub is : join_of b port net ≡ a

of_joins : (b : ℕ) (ps : List Port) (ns : List ℕ) (i : ℕ) (a : Assign) → slice_get (joins_of b ps ns) i ≡ Some a → JoinAt b ps ns i a
of_joins b [] ns i a e = absurd (cc)
of_joins b (p ∷ ps) [] i a e = absurd (cc)
of_joins b (p ∷ ps) (n ∷ ns) zero a e = record { port = p; net = n; at = refl; joins = refl; is = cc }
of_joins b (p ∷ ps) (n ∷ ns) (suc i) a e = let q = of_joins b ps ns i a e in record { port = q.port; net = q.net; at = q.at; joins = q.joins; is = q.is }

-- how many assignments a module with one more part has before those that join ports
abbrev pub own_assigns : (m inner : Module) → List Assign
own_assigns m inner = m.assigns ++ map (relocated_assign (length m.nets) (length m.mems)) inner.assigns

pub data Assigning {d : Design} {m n : Module} {s : Scope} (j : IsJoined d m s n) (k : ℕ) (a : Assign) : Type 0 where
  by_outer : slice_get m.assigns k ≡ Some a → Assigning j k a
  by_inner : (i : ℕ) (x : Assign) → k ≡ length m.assigns + i → slice_get j.inner.assigns i ≡ Some x → relocated_assign (length m.nets) (length m.mems) x ≡ a → Assigning j k a
  by_join : (i : ℕ) → k ≡ length (own_assigns m j.inner) + i → JoinAt (length m.nets) j.inner.ports j.part.nets i a → Assigning j k a

pub assigning : {d : Design} {m n : Module} {s : Scope} (j : IsJoined d m s n) (k : ℕ) (a : Assign) → slice_get n.assigns k ≡ Some a → Assigning j k a
assigning {m = m} j k a e = by_side (side_of (own_assigns m j.inner) (joins_of (length m.nets) j.inner.ports j.part.nets) k a (sym (ap (λ (l : List Assign). slice_get l k) j.assigns) ∙ e))
  where
    by_own : Side m.assigns (map (relocated_assign (length m.nets) (length m.mems)) j.inner.assigns) k a → Assigning j k a
    by_own (left lt at) = by_outer at
    by_own (right i is at) = let q = of_map (relocated_assign (length m.nets) (length m.mems)) j.inner.assigns i a at in by_inner i q.0 is q.1 q.2

    by_side : Side (own_assigns m j.inner) (joins_of (length m.nets) j.inner.ports j.part.nets) k a → Assigning j k a
    by_side (left lt at) = by_own (side_of m.assigns (map (relocated_assign (length m.nets) (length m.mems)) j.inner.assigns) k a at)
    by_side (right i is at) = by_join i is (of_joins (length m.nets) j.inner.ports j.part.nets i a at)

-- a port of an instance of a part
pub record ConnectionIn (d : Design) (inner : Module) (b k i : ℕ) (y : Module) (p : Port) (net : ℕ) : Type 0 where
  pub part : Instance
  pub of : slice_get inner.instances k ≡ Some part
  pub is : slice_get d.modules part.«module» ≡ Some y
  pub at : slice_get y.ports i ≡ Some p
  pub own : ℕ
  pub joins : slice_get part.nets i ≡ Some own
  pub moved : b + own ≡ net

abbrev pub connection_of : {d : Design} {inner : Module} {b k i : ℕ} {y : Module} {p : Port} {net : ℕ} → ConnectionIn d inner b k i y p net → Connection d inner k i
connection_of {y = y} {p = p} c = record { part = c.part; of = c.of; inner = y; is = c.is; port = p; at = c.at; net = c.own; joins = c.joins }

pub connection_in :
    (d : Design) (inner n : Module) (b last k i : ℕ) → slice_get n.instances (last + k) ≡ option_map (relocated_instance b) (slice_get inner.instances k)
    → (e : Connection d n (last + k) i) → ConnectionIn d inner b k i e.inner e.port e.net
connection_in d inner n b last k i inst e = by_instance (slice_get inner.instances k) refl (sym inst ∙ e.of)
  where
    by_instance : (o : Option Instance) → slice_get inner.instances k ≡ o → option_map (relocated_instance b) o ≡ Some e.part → ConnectionIn d inner b k i e.inner e.port e.net
    by_instance None f g = absurd (cc)
    by_instance (Some x) f g =
        let same : relocated_instance b x ≡ e.part = cc in
        let net = of_map (λ t. b + t) x.nets i e.net (ap (λ (y : Instance). slice_get y.nets i) same ∙ e.joins) in
        record { part = x; of = f; is = ap (λ (y : Instance). slice_get d.modules y.«module») same ∙ e.is; at = e.at; own = net.0; joins = net.1; moved = net.2 }
