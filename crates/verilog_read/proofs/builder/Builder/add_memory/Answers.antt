use Rattle.std.proofs.Common.{◌∙◌, sym, subst}
use Rattle.rtl_ir.specs.declared.design.Mem.{Mem}
use Rattle.verilog_read.specs.Walk.{HasTables}
use Rattle.verilog_read.proofs.builder.Builder.add_memory.Goals as goal

pub returns-clause-tables : goal.returns-clause-tables
returns-clause-tables c = λ t.
    let m = c.args.self.now.module in
    let k : Mem = record { name = c.in_ok-text.field-0; width = c.args.width; depth = c.args.depth } in
    subst (λ mems. HasTables (record m { mems = mems }) c.add_memory.new.self)
    (sym c.in_ok-push.ensures.ok) (c.in_ok-add_memory.ensures m k c.in_ok-text.ensures
    (c.in_ok-number.ensures ∙ c.len.ensures) t)
