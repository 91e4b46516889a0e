use Rattle.std.proofs.Common.{rules, ◌≡◌, ap, sym, ◌∙◌}
use Rattle.kernel_plans.specs.Tables.{named_in, number_in}
use Rattle.kernel_plans.proofs.KernelNumbers.{plain_names}
use Rattle.kernel_plans.proofs.kernels.KernelClasses.number.Goals as goal

pub returns : goal.returns
returns c =
    let name = c.args.name.now in
    let numbers = c.self.inside.numbers in
    let found : c.copied.result ≡ named_in numbers name = search rules in
    found ∙ (sym (plain_names numbers.entries name) ∙ ap (λ e. number_in e name) c.self.view_is)
