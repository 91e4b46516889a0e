use Rattle.std.proofs.Common.{◌≡◌, ◌∙◌, ℕ, ◌<◌, ◌^◌, Some, None, sym, subst, arith}
use Rattle.std.proofs.lemmas.Bool.{false≢true}
use Rattle.kernel_words.proofs.given.is_word_or_none.Goals as goal

some_same : (x y : ℕ) → Some x ≡ Some y → x ≡ y
some_same x y e = cc

not_none : (x : ℕ) → None ≡ Some x → ⊥
not_none x e = cc

pub returns-in-Some-clause-yes : goal.returns-in-Some-clause-yes
returns-in-Some-clause-yes c = λ e x q. subst (λ k. k < 2 ^ c.args.width) (some_same c.in-Some.bits x (sym c.in-Some.is ∙ q)) (c.is_word.ensures.yes e)

pub returns-in-Some-clause-no : goal.returns-in-Some-clause-no
returns-in-Some-clause-no c = λ e all.
    let most = c.is_word.ensures.no e in
    let least = all c.in-Some.bits c.in-Some.is in
    omega (arith, most, least)

pub returns-in-None-clause-yes : goal.returns-in-None-clause-yes
returns-in-None-clause-yes c = λ e x q. absurd (not_none x (sym c.in-None.is ∙ q))

pub returns-in-None-clause-no : goal.returns-in-None-clause-no
returns-in-None-clause-no c = λ e all. false≢true (sym e)
