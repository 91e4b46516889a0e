-- The nets of the ports that keep one value, and calls that say the same.
use Rattle.std.proofs.Common.{◌≡◌, ℕ, ◌+◌, ◌-◌, ◌*◌, ◌^◌, ◌<◌, ◌≤◌, Bool, true, false, List, length, get_or, sym, ap, ◌∙◌, ⊎_elim, arith}
use Rattle.std.proofs.Math.Pow.{pow_mono}
use Rattle.std.proofs.lemmas.Bool.{cases_lt}
use Rattle.std.proofs.lemmas.Nat.{pow_pos}
use Rattle.std.proofs.lemmas.List.{length-append, get_or_append_left, get_or-append_right}
use Rattle.rtl_ir.specs.declared.design.Module.{Module}
use Rattle.rtl_ir.specs.Value.{bit}
use Rattle.rtl_ir.specs.Ports.{Shape, net_at, nets_from, second_nets_from, first_scalar, outer_of}
use Rattle.verilog_sim.specs.declared.offer.Offer.{Offer}
use Rattle.verilog_sim.specs.Calls.{nothing}
use Rattle.verilog_sim.proofs.Shapes.{nets_get, seconds_get, length_nets, length_seconds}

pub length_steady : (m : Module) (s : Shape) → length (outer_of s m).steady ≡ length s.kernels + length s.scalars
length_steady m s = omega (
  arith,
  length-append (second_nets_from m 3 s.kernels)
      (nets_from m (first_scalar s) s.scalars),
  length_seconds m 3 s.kernels,
  length_nets m (first_scalar s) s.scalars,
)

-- the net of a port that keeps one value
pub steady_net : (m : Module) (s : Shape) (k i : ℕ) → k < length s.kernels + length s.scalars
    → (k < length s.kernels → i ≡ 3 + 2 * k) → (length s.kernels ≤ k → i ≡ 2 + length s.kernels + k)
    → get_or (outer_of s m).steady k 0 ≡ net_at m i
steady_net m s k i within ticks scalar = ⊎_elim of_kernel of_scalar (cases_lt k (length s.kernels))
  where
    of_kernel : k < length s.kernels → get_or (outer_of s m).steady k 0 ≡ net_at m i
    of_kernel lt =
        get_or_append_left (second_nets_from m 3 s.kernels) (nets_from m (first_scalar s) s.scalars) 0 k (omega (arith, length_seconds m 3 s.kernels))
        ∙ seconds_get m 3 k s.kernels lt ∙ ap (net_at m) (sym (ticks lt))

    of_scalar : length s.kernels ≤ k → get_or (outer_of s m).steady k 0 ≡ net_at m i
    of_scalar ge =
        let e : first_scalar s + (k - length s.kernels) ≡ i = (let q = scalar ge in omega arith) in
        get_or-append_right (second_nets_from m 3 s.kernels) (nets_from m (first_scalar s) s.scalars) (length s.kernels) k 0 (length_seconds m 3 s.kernels) ge
        ∙ nets_get m (first_scalar s) (k - length s.kernels) s.scalars (omega arith) ∙ ap (net_at m) e

pub bit_fits : (b : Bool) (w : ℕ) → 1 ≤ w → bit b < 2 ^ w
bit_fits true w h = let p : 2 ^ 1 ≤ 2 ^ w = pow_mono h in omega arith
bit_fits false w h = pow_pos w

-- the lists of a call say the same as those that were read, as far as there are streams and kernels
pub record SaysSame (offers offers' : List Offer) (accepts accepts' holds holds' : List Bool) : Type 0 where
  pub offers_same : (k : ℕ) → get_or offers k nothing ≡ get_or offers' k nothing
  pub accepts_same : (k : ℕ) → get_or accepts k false ≡ get_or accepts' k false
  pub holds_same : (k : ℕ) → get_or holds k false ≡ get_or holds' k false
