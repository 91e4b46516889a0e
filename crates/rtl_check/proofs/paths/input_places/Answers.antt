use Rattle.std.proofs.Common.{◌≡◌, ◌<◌, ◌^◌, ℕ, length, subst, arith}
use Rattle.rtl_check.specs.Paths.{ArePlaces}
use Rattle.rtl_check.proofs.Pathed.{place_more, place_skipped}
use Rattle.rtl_check.proofs.paths.input_places.Goals as goal

pub loop-input-preserved-then-port : goal.loop-input-preserved-then-port
loop-input-preserved-then-port c = record {
  size = c.loop-input.invariant.size;
  places = place_skipped c.args.module.now c.loop-input.input c.loop-input.places.items c.at-port.result.now c.at-port.ensures c.if-port.true c.loop-input.invariant.places;
}

pub loop-input-preserved : goal.loop-input-preserved
loop-input-preserved c =
    let p = c.at-port.result.now in
    let small : p.net < 2 ^ 32 = c.index-net.ensures.range in
    let lt = c.requires.nets c.loop-input.input p c.at-port.ensures small in
    rw c.index-net.ensures.number (record {
      size = c.loop-input.invariant.size;
      places = place_more c.args.module.now c.loop-input.input c.loop-input.places.items p
          c.requires.apart c.at-port.ensures c.if-port.false (omega (
            arith,
            lt,
            c.loop-input.invariant.size,
          )) c.loop-input.invariant.places;
    })

pub returns-clause-places : goal.returns-clause-places
returns-clause-places c =
    let m = c.args.module.now in
    let n : c.loop-input.input ≡ length m.ports = omega arith in
    subst (λ (k : ℕ). ArePlaces m k c.loop-input.places.items) n c.loop-input.invariant.places
