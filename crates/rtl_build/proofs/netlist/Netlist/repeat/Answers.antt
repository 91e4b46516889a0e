use Rattle.std.proofs.Common.{ap, refl, arith, ◌∙◌}
use Rattle.std.proofs.lemmas.Result.{IfOk-weaker}
use Rattle.rtl_ir.specs.Value.{repeated, width_of}
use Rattle.rtl_build.proofs.Growing.{same_value}
use Rattle.rtl_build.proofs.netlist.Netlist.repeat.Goals as goal

pub returns : goal.returns
returns c =
    let one = ap (width_of c.args.self.now) c.net.ensures ∙ c.requires.bit.width ∙ c.requires.one in
    rw (← c.net.ensures) (IfOk-weaker _ _ _ (λ s made. same_value 1 c.args.times _ made (omega arith) refl (λ d v h. ap (λ w. repeated c.args.times w (v c.net.result)) one)) c.wire.ensures)
