-- A place where a source has its first fault.
use Rattle.std.proofs.Common.{◌≡◌, ◌∙◌, ◌-◌, ◌≤◌, ℕ, false, true, List, [], ◌∷◌, ◌++◌, length, map, refl, sym, ap, append_assoc, length-append, arith}
use Rattle.grammar.specs.Tokens.{IsNext, Gaps}
use Rattle.maxj_tokens.specs.Tokens.{Token, token_of, OpensNone, Apart, is_followed}
use Rattle.text_scan.specs.Gaps.{BeginsNoGap}
use Rattle.maxj_tokens.specs.Scanning.{PlacedToken, ReadsAt, BeginsNoToken, HasFault, IsFault}
use Rattle.maxj_tokens.specs.Reading.{Takes}
use Rattle.text_scan.proofs.Places as places

apart : {word rest : List ℕ} {t : Token} → IsNext Gaps token_of OpensNone word rest t → is_followed t rest ≡ false → IsNext Gaps token_of Apart word rest t
apart n f = record { is = n.is; longest = n.longest; begins = n.begins; apart = (n.apart, f) }

pub took : {text rest behind : List ℕ} {ts : List PlacedToken} {t : Token}
    → ReadsAt 0 text ts rest → length rest ≤ length text → Takes rest t behind
    → is_followed t behind ≡ false → ReadsAt 0 text (ts
    ++ record { token = t; place = length text - length rest } ∷ []) behind
took read within (word, e, w) f = places.took read within word e (apart w f)

-- the first fault stands behind what is read and these bytes
fault_behind : {text rest left : List ℕ} {ts : List PlacedToken} → ReadsAt 0 text ts rest → (bytes : List ℕ) → rest ≡ bytes ++ left → IsFault rest left → HasFault text (length text - length left) left
fault_behind {text = text} {rest = rest} {left = left} {ts = ts} r bytes split fault =
    let (f, e) = places.front r in
    let whole : text ≡ (f ++ bytes) ++ left = e ∙ ap (λ l. f ++ l) split ∙ sym (append_assoc f bytes left) in
    record {
      before = f ++ bytes;
      split = whole;
      at = (let m = ap length whole in let n = length-append (f ++ bytes) left in omega arith);
      tokens = map (λ (p : PlacedToken). p.token) ts;
      rest = rest;
      read = places.plain r;
      fault = fault;
    }

pub no_token : {text rest : List ℕ} {ts : List PlacedToken} → ReadsAt 0 text ts rest → (rest ≡ [] → ⊥) → BeginsNoGap rest → BeginsNoToken rest → HasFault text (length text - length rest) rest
no_token r some gap none = fault_behind r [] refl (IsFault.stuck (record { some = some; no_gap = gap; no_token = none }))

pub followed : {text rest behind : List ℕ} {ts : List PlacedToken} {t : Token}
    → ReadsAt 0 text ts rest → Takes rest t behind → is_followed t behind ≡ true
    → HasFault text (length text - length behind) behind
followed {t = t} r (word, e, w) f = fault_behind r word e (IsFault.followed word (record { token = t; split = e; next = w; followed = f }))
