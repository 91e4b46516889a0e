-- One dot further inwards.
use Rattle.std.proofs.Common.{◌∙◌, ap, is_some}
use Rattle.kernel_meaning.specs.Names as Names
use Rattle.kernel_plans.proofs.Dotted.{some_dotted}
use Rattle.kernel_plans.proofs.paths.root.Goals as goal

pub loop-base-preserved : goal.loop-base-preserved
loop-base-preserved c =
    let e = c.in-Some.ensures.some in
    let i = c.loop-base.invariant in
    record {
      word = i.word ∙ ap Names.root_word e;
      place = i.place ∙ ap Names.root_place e;
      path = λ s. i.path s ∙ (ap (λ t. is_some (Names.path_of s t)) e ∙ some_dotted _ _);
    }
