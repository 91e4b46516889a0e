use Rattle.std.proofs.Common.{◌≡◌, true, sym, subst}
use Rattle.std.proofs.lemmas.Result.{on_ok_weaker}
use Rattle.std.specs.Prelude.{OnOk}
use Rattle.rtl_delays.specs.declared.elements.Element.{Element}
use Rattle.rtl_delays.specs.Steps.{writes_reg}
use Rattle.rtl_delays.specs.Delays.{IsDelay, of_net}
use Rattle.rtl_delays.specs.Elements.{shown, advances_of, reg_of}
use Rattle.rtl_delays.proofs.elements.close_element.Goals as goal

pub returns-in-Register-clause-still : goal.returns-in-Register-clause-still
returns-in-Register-clause-still c = on_ok_weaker c.follow.result (λ h. h c.args.reset.net) c.follow.ensures.still

pub returns-in-Register-clause-delay : goal.returns-in-Register-clause-delay
returns-in-Register-clause-delay c =
    let P : Element → Type 0 = λ e. OnOk c.follow.result (IsDelay c.follow.new.netlist c.args.run.net c.args.reset.net (of_net c.args.from.net) (shown e).net (advances_of e)) in
    subst P (sym c.in-Register.is) (on_ok_weaker c.follow.result (λ h. h c.args.reset.net) c.follow.ensures.delay)

pub returns-in-Ring-clause-delay : goal.returns-in-Ring-clause-delay
returns-in-Ring-clause-delay c =
    let P : Element → Type 0 = λ e. OnOk c.close_ring.result (IsDelay c.close_ring.new.netlist c.args.run.net c.args.reset.net (of_net c.args.from.net) (shown e).net (advances_of e)) in
    subst P (sym c.in-Ring.is) c.close_ring.ensures.delay

pub returns-in-Register-clause-written : goal.returns-in-Register-clause-written
returns-in-Register-clause-written c =
    let P : Element → Type 0 = λ e. OnOk c.follow.result (writes_reg (reg_of e) c.follow.new.netlist.updates ≡ true) in
    subst P (sym c.in-Register.is) c.follow.ensures.written
