use Rattle.std.proofs.Common.{◌*◌, ◌+◌, ◌^◌, ◌∙◌, ap, refl, arith}
use Rattle.std.proofs.lemmas.Result.{IfOk-weaker}
use Rattle.rtl_ir.specs.Value.{width_of}
use Rattle.rtl_build.proofs.Growing.{same_value}
use Rattle.rtl_build.proofs.netlist.Netlist.concat.Goals as goal

pub returns : goal.returns
returns c =
    let wide = ap (width_of c.args.self.now) c.net-2.ensures ∙ c.requires.low.width in
    rw (← c.net.ensures, ← c.net-2.ensures) (IfOk-weaker _ _ _
    (λ s made. same_value 1 (c.args.high.width + c.args.low.width) _ made (omega arith) refl
    (λ d v h. ap (λ w. v c.net.result * 2 ^ w + v c.net-2.result) wide)) c.wire.ensures)
