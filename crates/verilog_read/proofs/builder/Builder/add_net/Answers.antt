use Rattle.std.proofs.Common.{◌∙◌, sym, subst, refl}
use Rattle.rtl_ir.specs.declared.design.Net.{Net}
use Rattle.verilog_read.specs.Walk.{HasTables}
use Rattle.verilog_read.proofs.builder.Builder.add_net.Goals as goal

pub returns-clause-tables : goal.returns-clause-tables
returns-clause-tables c = λ t.
    let m = c.args.self.now.module in
    let n : Net = record { name = c.in_ok-text.field-0; width = c.args.width; reg = c.args.reg } in
    subst (λ nets. HasTables (record m { nets = nets }) c.add_net.new.self)
    (sym c.in_ok-push.ensures.ok) (c.in_ok-add_net.ensures m n c.in_ok-text.ensures refl
    (c.in_ok-number.ensures ∙ c.len.ensures) t)
