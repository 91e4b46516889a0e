-- The tokens of a source end within it.
use Rattle.std.proofs.Common.{◌≡◌, ℕ, zero, suc, ◌+◌, ◌<◌, ◌^◌, List, [], ◌∷◌, length, get_or, ap, arith, length-append}
use Rattle.std.specs.List.{All}
use Rattle.maxj_tokens.specs.Tokens.{written}
use Rattle.maxj_tokens.specs.Scanning.{PlacedToken, ReadsAt}
use Rattle.text_scan.specs.Places as places
use Rattle.maxj_tokens.proofs.Lexemes.{written_is}
use Rattle.maxj_syntax.specs.Building.{EndsIn}

more : (t : PlacedToken) (ts : List PlacedToken) → EndsIn t
    → ((n : ℕ) (d : PlacedToken) → n < length ts → EndsIn (get_or ts n d))
    → (n : ℕ) (d : PlacedToken) → n < length (t ∷ ts) → EndsIn (get_or (t ∷ ts) n d)
more t ts e a zero d h = e
more t ts e a (suc n) d h = a n d (omega (arith, h))

none : (n : ℕ) (d : PlacedToken) → n < length {A = PlacedToken} [] → EndsIn (get_or [] n d)
none n d h = absurd (omega (arith, h))

pub ends_in : {n : ℕ} {bytes left : List ℕ} {ts : List PlacedToken} → ReadsAt n bytes ts left → n + length bytes < 2 ^ 32 → All EndsIn ts
ends_in places.ReadsAt.end h = none
ends_in (places.ReadsAt.skip {rest = rest} gap g r) h = ends_in r (omega (arith, h, length-append gap rest))
ends_in {n = n} (places.ReadsAt.token {rest = rest} {t = t} {ts = ts} word w r) h =
    let e : length (written t) ≡ length word = ap length (written_is word t w.is) in
    more (record { token = t; place = n }) ts (omega (arith, h, e, length-append word rest)) (ends_in r (omega (arith, h, length-append word rest)))
