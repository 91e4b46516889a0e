-- A text has one list of tokens.
use Rattle.std.proofs.Common.{◌≡◌, ℕ, List, [], refl}
use Rattle.rtl_text.specs.Tokens.{Token, IsTokens}
use Rattle.text_scan.specs.Places as places
use Rattle.text_scan.proofs.Readings.{one_list, rest_behind}
use Rattle.verilog_syntax.specs.Scanning.{ReadsAt, PlacedToken, HasNoToken, IsStuck}

pub one_reading : {bytes : List ℕ} {ts us : List Token} → IsTokens bytes ts → IsTokens bytes us → us ≡ ts
one_reading r s = one_list refl r s

-- a text with no token at a place isn't read
stuck_at : {k : ℕ} {rest : List ℕ} {vs : List PlacedToken} → ReadsAt k rest vs [] → IsStuck rest → ⊥
stuck_at places.ReadsAt.end s = s.some refl
stuck_at (places.ReadsAt.skip {rest = rest} gap g r) s = s.no_gap gap rest refl g
stuck_at (places.ReadsAt.token {rest = rest} {t = t} word n r) s = s.no_token word rest t refl n

pub not_read : {bytes : List ℕ} {place : ℕ} {us : List Token} → IsTokens bytes us → HasNoToken bytes place → ⊥
not_read s h = let (vs, k, w) = rest_behind refl h.read s in stuck_at w h.stuck
