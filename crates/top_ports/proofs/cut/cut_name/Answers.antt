use Rattle.top_ports.proofs.CutLemmas.{cut_here, cut_past}
use Rattle.top_ports.proofs.cut.cut_name.Goals as goal

pub returns-then-byte-eq36 : goal.returns-then-byte-eq36
returns-then-byte-eq36 c = cut_here c.args.name.now c.loop-place.place c.loop-place-test.true c.if-byte-eq36.true c.loop-place.invariant

pub returns : goal.returns
returns c = cut_past c.args.name.now c.loop-place.place c.loop-place-test.false c.loop-place.invariant
