-- Casts by shifts.
use Rattle.std.proofs.Common.{◌≡◌, ℕ, ◌-◌, ◌≤◌, ◌^◌, sym, ap, ◌∙◌, arith, pos, ◌*ℤ◌}
use Rattle.fix_arith.specs.declared.types.StreamType.{StreamType}
use Rattle.fix_arith.specs.declared.types.StreamType.TheVariants.{UInt, Int, Fix, Bool as OneBit}
use Rattle.fix_arith.specs.declared.types.RoundMode.{RoundMode}
use Rattle.fix_arith.specs.Types.{width_of, frac_of}
use Rattle.fix_arith.specs.Values.{value_of, reduced}
use Rattle.fix_arith.specs.Rounding.{rounded}
use Rattle.fix_arith.specs.Table.{cast_of}
use Rattle.fix_arith.proofs.Casts.{widened, narrowed}

pub frac_within : (t : StreamType) → frac_of t ≤ width_of t
frac_within (UInt bits) = omega arith
frac_within (Int bits) = omega arith
frac_within (Fix whole frac signed) = omega arith
frac_within OneBit = omega arith

-- as many bits behind the point, or more
pub cast_more : (mode : RoundMode) (from to : StreamType) (a old new w : ℕ) → old ≡ frac_of from
    → new ≡ frac_of to → w ≡ width_of to → old ≤ new
    → reduced w (value_of from a *ℤ pos (2 ^ (new - old))) ≡ cast_of mode from to a
cast_more mode from to a old new w e f g h =
    let z = value_of from a in
    ap (reduced w) (sym (widened mode z old new h))
    ∙ ap (λ k. reduced k (rounded mode (z *ℤ pos (2 ^ new)) (2 ^ old))) g
    ∙ ap (λ k. reduced (width_of to) (rounded mode (z *ℤ pos (2 ^ k)) (2 ^ old))) f
    ∙ ap (λ k. reduced (width_of to) (rounded mode (z *ℤ pos (2 ^ frac_of to)) (2 ^ k))) e

-- fewer
pub cast_less : (mode : RoundMode) (from to : StreamType) (a old new w : ℕ) → old ≡ frac_of from
    → new ≡ frac_of to → w ≡ width_of to → new ≤ old
    → reduced w (rounded mode (value_of from a) (2 ^ (old - new))) ≡ cast_of mode from to a
cast_less mode from to a old new w e f g h =
    let z = value_of from a in
    ap (reduced w) (sym (narrowed mode z old new h))
    ∙ ap (λ k. reduced k (rounded mode (z *ℤ pos (2 ^ new)) (2 ^ old))) g
    ∙ ap (λ k. reduced (width_of to) (rounded mode (z *ℤ pos (2 ^ k)) (2 ^ old))) f
    ∙ ap (λ k. reduced (width_of to) (rounded mode (z *ℤ pos (2 ^ frac_of to)) (2 ^ k))) e
