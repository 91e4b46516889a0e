use Rattle.std.proofs.lemmas.Result.{IfOk-weaker}
use Rattle.rtl_ops.specs.Fragments.{IsFragment}
use Rattle.rtl_ops.proofs.operations.fragment.Goals as goal

pub returns : goal.returns
returns c =
    IfOk-weaker _ _ (IsFragment c.args.netlist.now c.operation.new.netlist c.args.op c.args.mode c.args.types.now c.args.args.now c.args.amount c.args.out)
    (λ s made. record { adds = made.adds; signal = made.signal; width = made.width; value = made.value; keeps = made.keeps; before = made.before }) c.operation.ensures
