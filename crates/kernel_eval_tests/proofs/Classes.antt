-- The class of a number is a kernel's.
use Rattle.std.proofs.Common.{◌≡◌, ◌∙◌, ℕ, zero, suc, List, [], ◌∷◌, refl, sym, ap}
use Rattle.std.specs.Prelude.{Some, false, slice_get}
use Rattle.maxj_syntax.specs.Cells.{Cell}
use Rattle.maxj_syntax.specs.Tree.{ClassTree, ClassesAre}
use Rattle.maxj_syntax.specs.declared.tree.Class.{Class}

some-same : {a b : Class} → Some a ≡ Some b → a ≡ b
some-same e = cc

pub kernel-at : (cells : List Cell) (classes : List Class) (trees : List ClassTree) (n : ℕ) (c : Class)
    → ClassesAre cells classes trees → slice_get classes n ≡ Some c → c.manager ≡ false
    → (kernel : ClassTree) × (slice_get trees n ≡ Some kernel) × (kernel.manager ≡ false)
kernel-at cells [] trees n c are at host = cc
kernel-at cells (d ∷ ds) [] n c are at host = absurd are
kernel-at cells (d ∷ ds) (t ∷ ts) zero c are at host =
    (t, refl, sym are.0.manager ∙ ap (λ x. x.manager) (some-same at) ∙ host)
kernel-at cells (d ∷ ds) (t ∷ ts) (suc n) c are at host = kernel-at cells ds ts n c are.1 at host
