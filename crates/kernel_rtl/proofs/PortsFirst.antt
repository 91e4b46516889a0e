-- The ports of a module that grew are its first nets.
use Rattle.std.proofs.Common.{◌≡◌, ℕ, suc, ◌+◌, List, [], ◌∷◌, map, Some, refl, ap, ◌∙◌, arith}
use Rattle.std.specs.Prelude.{slice_get}
use Rattle.rtl_ir.specs.declared.design.Port.{Port}
use Rattle.rtl_ir.specs.declared.design.Module.{Module}
use Rattle.rtl_delays.specs.Extends.{Extends}
use Rattle.rtl_delays.specs.Partial.{IsPartial}
use Rattle.rtl_reading.specs.Reads.{numbers_from, IsPortsFirst}

-- ports whose nets are their numbers from n on
numbered_from : (n : ℕ) (ps : List Port) → ((k : ℕ) (p : Port) → slice_get ps k ≡ Some p → p.net ≡ n + k) → map (λ (p : Port). p.net) ps ≡ numbers_from n ps
numbered_from n [] h = refl
numbered_from n (p ∷ ps) h =
    let first : p.net ≡ n = let e = h 0 p refl in omega (arith, e) in
    let rest = numbered_from (n + 1) ps (λ k q at. let e = h (suc k) q at in omega (arith, e)) in
    ap (λ k. k ∷ map (λ (q : Port). q.net) ps) first ∙ ap (λ ks. n ∷ ks) rest

pub ports_first : (m n : Module) → Extends m n → IsPartial m → IsPortsFirst n
ports_first m n x h = numbered_from 0 n.ports (λ k p at. let e = (x.partial h).ports k p at in omega (arith, e))
