use Rattle.std.proofs.Common.{◌≡◌, length, ap, ◌∙◌, arith}
use Rattle.rtl_ir.specs.Names.{is_name}
use Rattle.project_design.proofs.Making.{fifo_named, one_fifo}
use Rattle.project_design.proofs.fifos.add_fifo.Goals as goal

pub fifo-requires-clause-named : goal.fifo-requires-clause-named
fifo-requires-clause-named c = ap is_name c.in_ok-name.ensures ∙ fifo_named c.len.result (let e = c.len.ensures in let s = c.args.modules.now.small in let o = c.args.modules.now.ok.0 in omega arith)

pub returns : goal.returns
returns c =
    let count : c.len.result ≡ length c.args.modules.now.items = (let o = c.args.modules.now.ok.0 in let e = c.len.ensures in omega arith) in
    one_fifo c.len.result c.args.width c.args.depth c.in_ok-name.name c.in_ok-fifo.field-0 c.args.modules.now.items _ count c.in_ok-name.ensures c.in_ok-fifo.ensures c.in_ok-push.ensures.items
