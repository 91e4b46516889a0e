use Rattle.std.proofs.Common.{sym, ◌∙◌, ap, arith}
use Rattle.std.proofs.lemmas.Option.{slice_get_within}
use Rattle.rtl_ir.specs.Formed.{name_of}
use Rattle.rtl_check.proofs.WidthTests.{bad_part, more_parts}
use Rattle.rtl_check.proofs.widths.bad_port.Goals as goal

pub at-inner-requires : goal.at-inner-requires
at-inner-requires c = rw c.index.ensures.number (c.requires.instances c.loop-number.number c.at-instance.result.now c.at-instance.ensures).is_earlier

pub bad_place-requires : goal.bad_place-requires
bad_place-requires c = (c.requires.instances c.loop-number.number c.at-instance.result.now c.at-instance.ensures).ports c.at-inner.result.now (rw (sym c.index.ensures.number) c.at-inner.ensures)

pub net_name-requires : goal.net_name-requires
net_name-requires c = (c.requires.instances c.loop-number.number c.at-instance.result.now c.at-instance.ensures).nets c.in-Some.place c.at.result.now c.at.ensures

pub returns-in-Some-clause-some : goal.returns-in-Some-clause-some
returns-in-Some-clause-some c =
    let d = c.args.design.now in let m = c.args.module.now in let k = c.loop-number.number in
    let bad = bad_part d m k c.in-Some.place c.at-instance.result.now c.at.result.now
    c.at-instance.ensures c.at.ensures (c.in-Some.ensures.some d k c.at-instance.ensures
    (rw (sym c.index.ensures.number) c.at-inner.ensures)) c.loop-number.invariant in
    (k, c.in-Some.place, bad.connected, bad.instance, bad.port, c.net_name.ensures ∙ ap (name_of m) (sym bad.joins))

pub loop-number-preserved : goal.loop-number-preserved
loop-number-preserved c =
    let d = c.args.design.now in let m = c.args.module.now in let k = c.loop-number.number in
    more_parts d m k (c.in_default.ensures.none d k c.at-instance.ensures (rw (sym c.index.ensures.number) c.at-inner.ensures)) c.loop-number.invariant

pub returns-clause-none : goal.returns-clause-none
returns-clause-none c = λ k j e.
    c.loop-number.invariant k j e (omega (arith, slice_get_within c.args.module.now.instances k e.part e.of))
