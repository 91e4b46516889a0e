use Rattle.std.proofs.Common.{◌≡◌, ◌∙◌, ◌+◌, List, ℕ, ◌++◌, Option, Some, None, MatchOption, IfSome, IfNone, length, take, drop, true, false, sym, ap, Bor, nat_eq}
use Rattle.std.specs.Cmp.Lexicographic.{pointwise}
use Rattle.std.proofs.lemmas.List.{take-append-drop}
use Rattle.std.proofs.Math.Seq.{take-append_seam}
use Rattle.std.proofs.lemmas.Slice.Eq.{bytes_eq-Decides}
use Rattle.text_scan.proofs.ByteTests.{bytes_same, clash}
use Rattle.text_scan.proofs.bytes.after.Goals as goal

IsStripped : List ℕ → List ℕ → Option (Bor (List ℕ)) → Type 0
IsStripped text front r = MatchOption r (pointwise nat_eq (take (length front) text) front
    ≡ false) (λ x. (pointwise nat_eq (take (length front) text) front ≡ true)
    × (x.now ≡ drop (length front) text) × (length x.now + length front ≡ length text))

some : (text front : List ℕ) (r : Option (Bor (List ℕ))) → IsStripped text front r → IfSome r (λ rest. text ≡ front ++ rest.now)
unfolding IsStripped
some text front None h = tt
some text front (Some x) h =
    let (e, f, _) = h in
    sym (take-append-drop (length front) text) ∙ ap (λ l. l ++ drop (length front) text) (bytes_same _ _ e) ∙ ap (λ l. front ++ l) (sym f)

none : (text front : List ℕ) (r : Option (Bor (List ℕ))) → IsStripped text front r → IfNone r ((rest : List ℕ) → text ≡ front ++ rest → ⊥)
unfolding IsStripped
none text front None h = λ rest e. clash ((bytes_eq-Decides (take (length front) text) front).1 (ap (take (length front)) e ∙ take-append_seam front rest)) h
none text front (Some x) h = tt

pub returns-clause-some : goal.returns-clause-some
unfolding IsStripped
returns-clause-some c = some c.args.text.now c.args.front.now c.strip_prefix.result c.strip_prefix.ensures.cases

pub returns-clause-none : goal.returns-clause-none
unfolding IsStripped
returns-clause-none c = none c.args.text.now c.args.front.now c.strip_prefix.result c.strip_prefix.ensures.cases
