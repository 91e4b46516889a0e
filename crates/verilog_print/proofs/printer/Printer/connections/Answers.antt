use Rattle.std.proofs.Common.{◌≡◌, ◌++◌, ◌∙◌, [], sym, ap}
use Rattle.std.specs.List.{zip}
use Rattle.std.specs.Iterator.Adapters.{zip_first, zip_second}
use Rattle.std.specs.Slice.Iter.{iter_rest}
use Rattle.std.proofs.lemmas.List.{append-nil}
use Rattle.std.proofs.lemmas.Slice.Zip.{either_empty_from_Zip}
use Rattle.verilog_print.specs.Printed.{connection_text}
use Rattle.verilog_print.proofs.Steps.{pieces_left, zip_none}
use Rattle.verilog_print.proofs.printer.Printer.connections.Goals as goal

pub returns-clause-ok : goal.returns-clause-ok
returns-clause-ok c =
    let left = c.loop-port.port-iterator in
    let none : zip (iter_rest (zip_first left)) (iter_rest (zip_second left)) ≡ [] = zip_none _ _ (either_empty_from_Zip left c.next.new.self c.next.result c.in-None.is c.next.ensures.steps) in
    sym (c.loop-port.invariant.0 ∙ ap (λ l. c.loop-port.self.text
    ++ pieces_left (connection_text c.args.outer.now c.args.inner.now.nets)
    c.loop-port.separator.now l) none ∙ append-nil c.loop-port.self.text)
