-- A source has one list of tokens, or a fault.
use Rattle.std.proofs.Common.{◌≡◌, ◌∙◌, ℕ, true, false, List, [], ◌++◌, length, Some, refl, sym, ap, arith}
use Rattle.std.proofs.lemmas.List.{length-append}
use Rattle.grammar.specs.Tokens.{Reads, IsNext, Gaps}
use Rattle.grammar.proofs.Reading.{same_next}
use Rattle.text_scan.specs.Places as places
use Rattle.text_scan.proofs.ByteTests.{clash}
use Rattle.text_scan.proofs.Places.{plain}
use Rattle.text_scan.proofs.Readings as readings
use Rattle.text_scan.proofs.Readings.{same_gap, nil_front, same_some, rest_behind}
use Rattle.maxj_tokens.specs.Tokens.{Token, token_of, OpensNone, Apart, is_followed}
use Rattle.maxj_tokens.specs.Scanning.{PlacedToken, ReadsAt, AreTokens, HasFault, IsFault}

pub one_reading : {bytes : List ℕ} {ts us : List PlacedToken} → AreTokens bytes ts → AreTokens bytes us → us ≡ ts
one_reading r s = readings.one_reading refl r s

opened : {word rest : List ℕ} {t : Token} → IsNext Gaps token_of Apart word rest t → IsNext Gaps token_of OpensNone word rest t
opened n = record { is = n.is; longest = n.longest; begins = n.begins; apart = n.apart.0 }

true_or_not : {t u : Token} {rest back : List ℕ} → is_followed t rest ≡ true → is_followed u back ≡ false → t ≡ u → rest ≡ back → ⊥
true_or_not {t = t} {u = u} {rest = rest} {back = back} h g e f = clash h (ap (λ x. is_followed x rest) e ∙ ap (is_followed u) f ∙ g)

-- what has a fault here isn't read
faulty : {k : ℕ} {rest left : List ℕ} {vs : List PlacedToken} → ReadsAt k rest vs [] → IsFault rest left → ⊥
faulty places.ReadsAt.end (IsFault.stuck s) = s.some refl
faulty (places.ReadsAt.skip {rest = rest} gap g r) (IsFault.stuck s) = s.no_gap gap rest refl g
faulty (places.ReadsAt.token {rest = rest} {t = t} word n r) (IsFault.stuck s) = s.no_token word rest t refl (opened n)
faulty places.ReadsAt.end (IsFault.followed
    {rest = left} number f) = let e = nil_front number left f.split in let is = f.next.is in let
    g : token_of [] ≡ Some f.token = ap token_of (sym e) ∙ is in absurd (cc)
faulty (places.ReadsAt.skip {rest = rest} gap g r) (IsFault.followed number f) = f.next.begins gap rest (sym f.split) g
faulty (places.ReadsAt.token {rest = rest} {t = t} word n r) (IsFault.followed number f) =
    let same = same_next Gaps token_of OpensNone (opened n) f.next f.split in
    let token : Some t ≡ Some f.token = sym n.is ∙ ap token_of same.0 ∙ f.next.is in
    true_or_not f.followed n.apart.1 (same_some (sym token)) (sym same.1)

pub not_read : {bytes left : List ℕ} {place : ℕ} {us : List PlacedToken} → AreTokens bytes us → HasFault bytes place left → ⊥
not_read s h = let (vs, k, w) = rest_behind refl h.read (plain s) in faulty w h.fault

-- bytes have one first fault

fault_gap : {text left : List ℕ} → IsFault text left → (gap rest : List ℕ) → text ≡ gap ++ rest → Gaps gap rest → ⊥
fault_gap (IsFault.stuck s) gap rest e g = s.no_gap gap rest e g
fault_gap (IsFault.followed number f) gap rest e g = f.next.begins gap rest (sym f.split ∙ e) g

fault_token : {text left : List ℕ} → IsFault text left → (word rest : List ℕ) (t : Token) → text ≡ word ++ rest → IsNext Gaps token_of Apart word rest t → ⊥
fault_token (IsFault.stuck s) word rest t e n = s.no_token word rest t e (opened n)
fault_token (IsFault.followed number f) word rest t e n =
    let same = same_next Gaps token_of OpensNone (opened n) f.next (sym e ∙ f.split) in
    let token : Some t ≡ Some f.token = sym n.is ∙ ap token_of same.0 ∙ f.next.is in
    true_or_not f.followed n.apart.1 (same_some (sym token)) (sym same.1)

at_one_place : {xs ys left behind : List ℕ} → xs ≡ ys → IsFault xs left → IsFault ys behind → behind ≡ left
at_one_place e (IsFault.stuck s) (IsFault.stuck t) = sym e
at_one_place {behind = behind} e (IsFault.stuck s) (IsFault.followed number f) = absurd (s.no_token number behind f.token (e ∙ f.split) f.next)
at_one_place {left = left} e (IsFault.followed number f) (IsFault.stuck t) = absurd (t.no_token number left f.token (sym e ∙ f.split) f.next)
at_one_place e (IsFault.followed number f) (IsFault.followed other g) = sym (same_next Gaps token_of OpensNone f.next g.next (sym f.split ∙ e ∙ g.split)).1

one_fault_behind : {xs ys rest back left behind : List ℕ} {ts us : List Token}
    → Reads Gaps token_of Apart xs ts rest → Reads Gaps token_of Apart ys us back → xs ≡ ys
    → IsFault rest left → IsFault back behind → behind ≡ left
one_fault_behind Reads.end Reads.end e f g = at_one_place e f g
one_fault_behind Reads.end (Reads.skip {rest = rest} gap k s) e f g = absurd (fault_gap f gap rest e k)
one_fault_behind Reads.end (Reads.token {rest = rest} {t = t} word n s) e f g = absurd (fault_token f word rest t e n)
one_fault_behind (Reads.skip {rest = rest} gap k r) Reads.end e f g = absurd (fault_gap g gap rest (sym e) k)
one_fault_behind (Reads.token {rest = rest} {t = t} word n r) Reads.end e f g = absurd (fault_token g word rest t (sym e) n)
one_fault_behind (Reads.skip gap k r) (Reads.skip other l s) e f g = one_fault_behind r s (same_gap k l e).1 f g
one_fault_behind (Reads.skip {rest = rest} gap k r) (Reads.token word n s) e f g = absurd (n.begins gap rest (sym e) k)
one_fault_behind (Reads.token word n r) (Reads.skip {rest = rest} gap k s) e f g = absurd (n.begins gap rest e k)
one_fault_behind (Reads.token word n r) (Reads.token other m s) e f g = one_fault_behind r s (same_next Gaps token_of Apart n m e).1 f g

pub one_left : {bytes left behind : List ℕ} {place other : ℕ} → HasFault bytes place left → HasFault bytes other behind → behind ≡ left
one_left h g = one_fault_behind h.read g.read refl h.fault g.fault

pub one_place : {bytes left behind : List ℕ} {place other : ℕ} → HasFault bytes place left → HasFault bytes other behind → other ≡ place
one_place {left = left} {behind = behind} h g =
    let a = ap length h.split in
    let b = ap length g.split in
    let e = ap length (one_left h g) in
    let i = h.at in
    let j = g.at in
    omega (arith, a, b, e, i, j, length-append h.before left, length-append g.before behind)
