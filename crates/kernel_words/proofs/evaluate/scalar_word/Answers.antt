use Rattle.std.proofs.Common.{◌≡◌, ◌∙◌, ℕ, zero, suc, List, [], ◌∷◌, get_or, Some, ap}
use Rattle.std.specs.Prelude.{slice_get}
use Rattle.kernel_words.proofs.evaluate.scalar_word.Goals as goal

got : (xs : List ℕ) (n x : ℕ) → slice_get xs n ≡ Some x → x ≡ get_or xs n 0
got [] n x e = absurd (cc)
got (y ∷ ys) zero x e = cc
got (y ∷ ys) (suc n) x e = got ys n x e

pub returns : goal.returns
returns c = got c.args.run.now.scalars c.index.result c.at.result.now c.at.ensures ∙ ap (λ n. get_or c.args.run.now.scalars n 0) c.index.ensures.number
