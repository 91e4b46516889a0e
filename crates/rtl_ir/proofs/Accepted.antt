-- What the proofs use of an accepted design, by module.
use Rattle.std.proofs.Common.{◌≡◌, ℕ, zero, suc, ◌<◌, List, [], ◌∷◌, length, take, Some, false, refl, ◌∙◌, arith}
use Rattle.std.specs.Prelude.{slice_get}
use Rattle.std.proofs.lemmas.List.{length-take}
use Rattle.rtl_ir.specs.declared.design.Design.{Design}
use Rattle.rtl_ir.specs.declared.design.Module.{Module}
use Rattle.rtl_ir.specs.declared.design.Instance.{Instance}
use Rattle.rtl_ir.specs.declared.design.Port.{Port}
use Rattle.rtl_ir.specs.Value.{is_reg}
use Rattle.rtl_ir.specs.Rules.{HasDrivers, HasUpdates, HasWidths, IsLevelled, IsAccepted}

pub record Sound (d : Design) (number : ℕ) (m : Module) : Type 0 where
  pub earlier : (k : ℕ) (i : Instance) → slice_get m.instances k ≡ Some i → i.module < number
  pub ports : (k : ℕ) (i : Instance) (inner : Module) → slice_get m.instances k ≡ Some i → slice_get d.modules i.module ≡ Some inner → length i.nets ≡ length inner.ports
  pub apart : (i j : ℕ) (p q : Port) → slice_get m.ports i ≡ Some p → slice_get m.ports j ≡ Some q → p.net ≡ q.net → i ≡ j
  pub wires : (i : ℕ) (p : Port) → slice_get m.ports i ≡ Some p → is_reg m p.net ≡ false
  pub driven : HasDrivers d m
  pub updated : HasUpdates m
  pub widths : HasWidths d m
  pub levelled : IsLevelled d m

get_take : {A : Type 0} (xs : List A) (n k : ℕ) → k < n → slice_get (take n xs) k ≡ slice_get xs k
get_take xs zero k lt = absurd (omega arith)
get_take [] (suc n) k lt = refl
get_take (x ∷ xs) (suc n) zero lt = refl
get_take (x ∷ xs) (suc n) (suc k) lt = get_take xs n k (omega arith)

pub sound_at : {d : Design} → IsAccepted d → (number : ℕ) (m : Module) → slice_get d.modules number ≡ Some m → Sound d number m
sound_at {d = d} h number m e =
    let f = h.formed.each number m e in
    let s = h.sound number m e in
    record {
      earlier = λ k i at. earlier k i ((f.instances k i at).is_earlier);
      ports = λ k i inner at is. (f.instances k i at).ports inner (get_take d.modules number i.module (earlier k i ((f.instances k i at).is_earlier)) ∙ is);
      apart = f.apart;
      wires = λ i p at. (f.ports i p at).wire;
      driven = s.driven;
      updated = s.updated;
      widths = s.widths;
      levelled = s.levelled;
    }
  where
    earlier : (k : ℕ) (i : Instance) → i.module < length (take number d.modules) → i.module < number
    earlier k i lt = omega (arith, length-take number d.modules)
