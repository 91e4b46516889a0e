-- Widths of ports and of the nets that they are joined to.
use Rattle.std.proofs.Common.{◌≡◌, ◌≢◌, ℕ, ◌+◌, ◌<◌, ◌≤◌, length, Some, sym, ◌∙◌, ap, subst, arith, ◌⊎◌, inl, inr}
use Rattle.std.specs.Prelude.{slice_get}
use Rattle.std.proofs.lemmas.Bool.{cases_lt}
use Rattle.std.proofs.lemmas.Option.{slice_get_within}
use Rattle.rtl_ir.specs.declared.design.Design.{Design}
use Rattle.rtl_ir.specs.declared.design.Module.{Module}
use Rattle.rtl_ir.specs.declared.design.Instance.{Instance}
use Rattle.rtl_ir.specs.declared.design.Port.{Port}
use Rattle.rtl_ir.specs.Value.{width_of}
use Rattle.rtl_ir.specs.Rules.{Connection}
use Rattle.rtl_ir.specs.Faults.{IsFirst}
use Rattle.rtl_check.specs.FirstFault.{IsBadAssign, IsBadUpdate, IsBadPort, IsBadInstance}
use Rattle.rtl_ir.specs.Typed.{IsTyped, IsUpdateTyped}
use Rattle.rtl_ir.specs.declared.design.Assign.{Assign}
use Rattle.rtl_ir.specs.declared.design.Update.{Update}
use Rattle.rtl_check.proofs.Places.{some_is}
use Rattle.rtl_check.proofs.Parted.{Joined, connection, inner_is, port_is}

abbrev pub Fits : (d : Design) (m : Module) (k j : ℕ) → Connection d m k j → Type 0
Fits d m k j e = width_of e.inner e.port.net ≡ width_of m e.net

pub bad_here : (d : Design) (m : Module) (k j : ℕ) (i : Instance) (inner : Module) (p : Port)
    (net : ℕ) → Joined d m k j i inner p net → width_of inner p.net ≢ width_of m net
    → ((x : ℕ) (e : Connection d m k x) → x < j → Fits d m k x e) → IsFirst (IsBadPort d m k) j
bad_here d m k j i inner p net h ne before =
    record { holds = (connection d m k j i inner p net h, ne); earlier = λ x lt bad. bad.1 (before x bad.0 lt) }

fits_here : (d : Design) (m : Module) (k j : ℕ) (i : Instance) (inner : Module) (p : Port)
    (net : ℕ) → Joined d m k j i inner p net → width_of inner p.net ≡ width_of m net
    → (e : Connection d m k j) → Fits d m k j e
fits_here d m k j i inner p net h same e =
    let w = inner_is i inner h.of h.is e in
    let q = port_is i inner p net h e in
    ap (λ (x : Module). width_of x e.port.net) w.1 ∙ ap (λ (x : Port). width_of inner x.net) q.0 ∙ same ∙ sym (ap (width_of m) q.1)

pub more_fit : (d : Design) (m : Module) (k j : ℕ) (i : Instance) (inner : Module) (p : Port)
    (net : ℕ) → Joined d m k j i inner p net → width_of inner p.net ≡ width_of m net
    → ((x : ℕ) (e : Connection d m k x) → x < j → Fits d m k x e)
    → (x : ℕ) (e : Connection d m k x) → x < j + 1 → Fits d m k x e
more_fit d m k j i inner p net h same before x e lt = by_place (cases_lt x j)
  where
    by_place : (x < j) ⊎ (j ≤ x) → Fits d m k x e
    by_place (inl less) = before x e less
    by_place (inr ge) =
        let q : j ≡ x = omega arith in
        let all : (y : ℕ) → j ≡ y → (f : Connection d m k y) → Fits d m k y f =
        λ y r. subst (λ (z : ℕ). (f : Connection d m k z) → Fits d m k z f) r (fits_here d m k j i inner p net h same) in
        all x q e

pub all_fit : (d : Design) (m : Module) (k j : ℕ) (i : Instance) (inner : Module)
    → slice_get m.instances k ≡ Some i → slice_get d.modules i.module ≡ Some inner
    → length inner.ports ≤ j → ((x : ℕ) (e : Connection d m k x) → x < j → Fits d m k x e)
    → (x : ℕ) (e : Connection d m k x) → Fits d m k x e
all_fit d m k j i inner of is past before x e =
    let w = inner_is i inner of is e in
    let q : slice_get inner.ports x ≡ Some e.port = ap (λ (y : Module). slice_get y.ports x) (sym w.1) ∙ e.at in
    before x e (omega (arith, slice_get_within inner.ports x e.port q))

-- the instances before a number and one more
pub more_parts : (d : Design) (m : Module) (n : ℕ) → ((j : ℕ) (e : Connection d m n j)
    → Fits d m n j e) → ((k j : ℕ) (e : Connection d m k j) → k < n → Fits d m k j e)
    → (k j : ℕ) (e : Connection d m k j) → k < n + 1 → Fits d m k j e
more_parts d m n here before k j e lt = by_place (cases_lt k n)
  where
    by_place : (k < n) ⊎ (n ≤ k) → Fits d m k j e
    by_place (inl less) = before k j e less
    by_place (inr ge) =
        let q : n ≡ k = omega arith in
        let all : (y : ℕ) → n ≡ y → (x : ℕ) (f : Connection d m y x) → Fits d m y x f =
        λ y r. subst (λ (z : ℕ). (x : ℕ) (f : Connection d m z x) → Fits d m z x f) r here in
        all k q j e

-- the port that breaks the rule, and the net that it is joined to
pub record BadPort (d : Design) (m : Module) (k j net : ℕ) : Type 0 where
  pub connected : Connection d m k j
  pub instance : IsFirst (IsBadInstance d m) k
  pub port : IsFirst (IsBadPort d m k) j
  pub joins : connected.net ≡ net

pub bad_part : (d : Design) (m : Module) (k j : ℕ) (i : Instance) (net : ℕ)
    → slice_get m.instances k ≡ Some i → slice_get i.nets j ≡ Some net
    → IsFirst (IsBadPort d m k) j → ((n x : ℕ) (e : Connection d m n x) → n < k
    → Fits d m n x e) → BadPort d m k j net
bad_part d m k j i net of at first before =
    let e = first.holds.0 in
    let p : e.part ≡ i = some_is (sym e.of ∙ of) in
    let q : slice_get e.part.nets j ≡ slice_get i.nets j = ap (λ (x : Instance). slice_get x.nets j) p in
    record {
      connected = e;
      instance = record { holds = (j, first.holds); earlier = λ n lt bad. bad.1.1 (before n bad.0 bad.1.0 lt) };
      port = first;
      joins = some_is (sym e.joins ∙ q ∙ at);
    }

pub no_bad_assign : (m : Module) → ((j : ℕ) (a : Assign) → slice_get m.assigns j ≡ Some a → IsTyped m (width_of m a.target) a.expr) → (j : ℕ) → IsBadAssign m j → ⊥
no_bad_assign m all j bad = bad.2 (all j bad.0 bad.1)

pub no_bad_update : (m : Module) → ((j : ℕ) (u : Update) → slice_get m.updates j ≡ Some u → IsUpdateTyped m u) → (j : ℕ) → IsBadUpdate m j → ⊥
no_bad_update m all j bad = bad.2 (all j bad.0 bad.1)
