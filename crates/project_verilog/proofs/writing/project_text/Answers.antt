use Rattle.std.proofs.Common.{refl}
use Rattle.project_verilog.proofs.Whole.{design_is, text_is}
use Rattle.project_verilog.proofs.writing.project_text.Goals as goal

pub text_of-requires-clause-accepted : goal.text_of-requires-clause-accepted
text_of-requires-clause-accepted c =
    (design_is c.args.table.now c.args.project.now c.in_ok-made.made c.in_ok-made.ensures.made
    c.in_ok-design.design c.in_ok-design.ensures).accepted

pub text_of-requires-clause-ports_first : goal.text_of-requires-clause-ports_first
text_of-requires-clause-ports_first c =
    (design_is c.args.table.now c.args.project.now c.in_ok-made.made c.in_ok-made.ensures.made
    c.in_ok-design.design c.in_ok-design.ensures).ports_first

pub returns-clause-made : goal.returns-clause-made
returns-clause-made c =
    let own = c.in_ok-made.made in
    text_is c.args.table.now c.args.project.now own c.in_ok-made.ensures.made c.in_ok-design.design
    c.in_ok-design.ensures
    (record { text = c.in_ok-text.text; parts = own.parts; links = own.links }) c.in_ok-text.ensures
    refl refl
