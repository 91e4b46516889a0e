use Rattle.std.proofs.Common.{◌∙◌, length, ap}
use Rattle.std.proofs.lemmas.Result.{IfOk-weaker}
use Rattle.rtl_ir.specs.declared.design.Module.{Module}
use Rattle.rtl_delays.specs.Names.{register_name}
use Rattle.rtl_delays.specs.Names.MayName.{Numbered}
use Rattle.rtl_delays.proofs.Extends.{register_extends}
use Rattle.rtl_delays.proofs.Stored.{register_stored}
use Rattle.rtl_delays.proofs.registers.start_register.Goals as goal

pub returns-clause-extends : goal.returns-clause-extends
returns-clause-extends c = IfOk-weaker c.register.result _ _
    (λ s a. register_extends c.requires.sound (Numbered (c.in_ok-name.ensures ∙ ap register_name (c.len.ensures ∙ ap (λ (x : Module). length x.nets) c.module.ensures.whole))) a)
    c.register.ensures

pub returns-clause-stored : goal.returns-clause-stored
returns-clause-stored c = IfOk-weaker c.register.result _ _ (λ s a. register_stored a) c.register.ensures
