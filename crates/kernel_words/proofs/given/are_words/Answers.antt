use Rattle.std.proofs.Common.{◌≡◌, ◌∙◌, ℕ, zero, suc, ◌<◌, ◌≤◌, List, [], ◌∷◌, length, get_or, Option, Some, None, refl, sym, ap, arith, ⊎_elim}
use Rattle.std.proofs.lemmas.Bool.{false≢true, cases_lt}
use Rattle.stream_equations.specs.Equations.{chosen}
use Rattle.kernel_words.proofs.given.are_words.Goals as goal

not_none : (x : ℕ) → None ≡ Some x → ⊥
not_none x e = cc

chosen_is : (words : List (Option ℕ)) (k : ℕ) (d : Option ℕ) → k < length words → chosen words k ≡ get_or words k d
chosen_is [] k d h = absurd (omega (arith, h))
chosen_is (w ∷ ws) zero d h = by_word w
  where
    by_word : (w : Option ℕ) → chosen (w ∷ ws) 0 ≡ w
    by_word None = refl
    by_word (Some x) = refl
chosen_is (w ∷ ws) (suc k) d h = chosen_is ws k d (omega (arith, h))

chosen_past : (words : List (Option ℕ)) (k x : ℕ) → length words ≤ k → chosen words k ≡ Some x → ⊥
chosen_past [] k x h e = not_none x e
chosen_past (w ∷ ws) zero x h e = omega (arith, h)
chosen_past (w ∷ ws) (suc k) x h e = chosen_past ws k x (omega (arith, h)) e

pub returns-then-not-is_word_or_none-clause-yes : goal.returns-then-not-is_word_or_none-clause-yes
returns-then-not-is_word_or_none-clause-yes c = λ e k x q. absurd (false≢true e)

pub returns-then-not-is_word_or_none-clause-no : goal.returns-then-not-is_word_or_none-clause-no
returns-then-not-is_word_or_none-clause-no c = λ e all.
    c.is_word_or_none.ensures.no c.if-not-is_word_or_none.true
    (λ x q. all c.loop-word.word-index x (chosen_is c.args.words.now c.loop-word.word-index None c.loop-word-test.true ∙ q))

pub loop-word-preserved : goal.loop-word-preserved
loop-word-preserved c = λ k x l q. ⊎_elim
    (λ (g : k < c.loop-word.word-index). c.loop-word.invariant k x g q)
    (λ (g : c.loop-word.word-index ≤ k).
    let at : k ≡ c.loop-word.word-index = omega (arith, l, g) in
    c.is_word_or_none.ensures.yes c.if-not-is_word_or_none.false x
    (sym (chosen_is c.args.words.now c.loop-word.word-index None c.loop-word-test.true) ∙ ap (chosen c.args.words.now) (sym at) ∙ q))
    (cases_lt k c.loop-word.word-index)

pub returns-clause-yes : goal.returns-clause-yes
returns-clause-yes c = λ e k x q. ⊎_elim
    (λ (l : k < c.loop-word.word-index). c.loop-word.invariant k x l q)
    (λ (g : c.loop-word.word-index ≤ k).
    let done = c.loop-word-test.false in
    absurd (chosen_past c.args.words.now k x (omega (arith, done, g)) q))
    (cases_lt k c.loop-word.word-index)

pub returns-clause-no : goal.returns-clause-no
returns-clause-no c = λ e all. false≢true (sym e)
