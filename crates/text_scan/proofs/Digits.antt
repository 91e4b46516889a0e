-- What digits say.
use Rattle.std.proofs.Common.{◌≡◌, ◌+◌, ◌*◌, ◌<◌, ◌≤◌, ℕ, List, [], ◌∷◌, length, get_or, drop, ap, arith, drop-cons, add-one}
use Rattle.std.proofs.Math.Nat.{mul-le-mul_left}
use Rattle.grammar.specs.Bytes.{digits_value, hex_value}

-- more digits say no less
grows : (base v : ℕ) (ds : List ℕ) → 1 ≤ base → v ≤ digits_value base v ds
grows base v [] h = omega arith
grows base v (d ∷ ds) h =
    let a = grows base (v * base + hex_value d) ds h in
    let b : v * 1 ≤ v * base = mul-le-mul_left v h in
    omega arith

-- a digit after which the number is large already
pub large_at : (base v limit said : ℕ) (ds : List ℕ) (i : ℕ) → 1 ≤ base → i < length ds → digits_value base v (drop i ds) ≡ said → limit ≤ v * base + hex_value (get_or ds i 0) → limit ≤ said
large_at base v limit said ds i h lt e l =
    let f : drop i ds ≡ get_or ds i 0 ∷ drop (i + 1) ds = rw add-one (drop-cons ds i 0 lt) in
    let g = ap (digits_value base v) f in
    let a = grows base (v * base + hex_value (get_or ds i 0)) (drop (i + 1) ds) h in
    omega arith
