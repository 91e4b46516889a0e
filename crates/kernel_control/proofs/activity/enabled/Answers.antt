use Rattle.std.proofs.Common.{◌&&◌, eqb, refl, sym, ap, ◌∙◌, subst, arith}
use Rattle.std.proofs.lemmas.Result.{IfOk-weaker}
use Rattle.rtl_ir.specs.Value.{bit}
use Rattle.rtl_build.proofs.Growing.{as_it_stands, same_value}
use Rattle.kernel_control.specs.Nets.{MayEnable, net_of}
use Rattle.kernel_control.specs.Due.{is_let}
use Rattle.kernel_control.proofs.Bits.{as_bit, bit_fits, both_bits, and_true}
use Rattle.kernel_control.proofs.activity.enabled.Goals as goal

pub returns-in-Some : goal.returns-in-Some
returns-in-Some c =
    let active = c.requires.active in
    let net = c.args.active.net in
    let enable = subst (MayEnable c.args.netlist.now) c.in-Some.is c.requires.enable in
    IfOk-weaker _ _ _ (λ s made. same_value 1 1 _ made (omega arith) active.width (λ d v h.
    let h0 = made.before d v h in
    both_bits (v net) (v c.in-Some.enable.net) (bit_fits active h0) (bit_fits enable h0)
    ∙ ap (λ o. bit (eqb (v net) 1 && is_let (net_of o) v)) (sym c.in-Some.is))) c.binary.ensures

pub returns-in-None : goal.returns-in-None
returns-in-None c =
    let active = c.requires.active in
    let net = c.args.active.net in
    same_value 1 1 _ (as_it_stands c.args.active 1 (λ v. v net) active.signal (λ d v h. refl)) (omega arith) active.width
    (λ d v h.
    as_bit (v net) (bit_fits active h) ∙ ap bit (and_true (eqb (v net) 1))
    ∙ ap (λ o. bit (eqb (v net) 1 && is_let (net_of o) v)) (sym c.in-None.is))
