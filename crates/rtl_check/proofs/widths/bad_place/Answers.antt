use Rattle.std.proofs.Common.{◌≡◌, arith}
use Rattle.rtl_ir.specs.Value.{width_of}
use Rattle.rtl_check.proofs.WidthTests.{bad_here, more_fit, all_fit}
use Rattle.rtl_check.proofs.widths.bad_place.Goals as goal

pub returns-then-width-clause-some : goal.returns-then-width-clause-some
returns-then-width-clause-some c = λ d k of is.
    let m = c.args.module.now in let i = c.args.instance.now in let inner = c.args.inner.now in
    bad_here d m k c.loop-place.place i inner c.at-port.result.now c.at-net.result.now
    (record { of = of; is = is; at = c.at-port.ensures; joins = c.at-net.ensures })
    (λ e. c.if-width.true (cc (
      e,
      c.width.ensures,
      c.width-in-loop-place.ensures,
    ))) (c.loop-place.invariant d k of is)

pub loop-place-preserved : goal.loop-place-preserved
loop-place-preserved c = λ d k of is.
    let m = c.args.module.now in let i = c.args.instance.now in let inner = c.args.inner.now in
    let same : width_of inner c.at-port.result.now.net ≡ width_of m c.at-net.result.now = cc (c.if-width.false, c.width.ensures, c.width-in-loop-place.ensures) in
    more_fit d m k c.loop-place.place i inner c.at-port.result.now c.at-net.result.now
    (record { of = of; is = is; at = c.at-port.ensures; joins = c.at-net.ensures }) same
    (c.loop-place.invariant d k of is)

pub returns-clause-none : goal.returns-clause-none
returns-clause-none c = λ d k of is.
    all_fit d c.args.module.now k c.loop-place.place c.args.instance.now c.args.inner.now of is (omega arith) (c.loop-place.invariant d k of is)
