use Rattle.std.proofs.Common.{ap, sym, ◌∙◌}
use Rattle.rtl_ir.specs.declared.design.Module.{Module}
use Rattle.rtl_delays.specs.Steps.{writes_reg}
use Rattle.kernel_parts_tests.proofs.Kept.{inputs_on}
use Rattle.kernel_parts_tests.proofs.delays.add_register.Goals as goal

pub start_register-requires-clause-sound : goal.start_register-requires-clause-sound
start_register-requires-clause-sound c = c.in_ok-inputs.ensures.has.sound

pub follow-requires : goal.follow-requires
follow-requires c =
    let made = c.in_ok-register.ensures in
    let has = inputs_on made.extends c.in_ok-inputs.ensures.has in
    record {
      sound = made.extends.sound;
      register = made.register.register;
      free = ap (writes_reg _) (ap (λ (m : Module). m.updates) made.register.is ∙ c.in_ok-inputs.ensures.alone.updates);
      run = has.run.signal;
      bit = has.run.width;
      from = has.narrow.signal;
      same = has.narrow.width ∙ sym made.register.width;
    }
