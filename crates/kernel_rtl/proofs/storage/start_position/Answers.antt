use Rattle.std.proofs.Common.{◌∙◌}
use Rattle.std.proofs.lemmas.Result.{IfOk-weaker}
use Rattle.kernel_rtl.proofs.Starting.{position_added}
use Rattle.kernel_rtl.proofs.storage.start_position.Goals as goal

pub returns : goal.returns
returns c =
    IfOk-weaker c.register.result _ _
    (λ s a. position_added c.args.netlist.now c.register.new.self c.from_vec-name.result s c.requires
    (c.from_vec-name.ensures ∙ c.in_ok-to_vec.ensures.items_if_clones_equal (λ x y e. e)) a) c.register.ensures
