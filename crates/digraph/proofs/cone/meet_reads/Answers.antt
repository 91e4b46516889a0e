use Rattle.std.proofs.Common.{◌≡◌, ◌∙◌, ◌<◌, length, get_or, sym, ap, arith}
use Rattle.std.proofs.lemmas.Grind.{get_or_default_zero}
use Rattle.digraph.specs.Graph.{reads_of}
use Rattle.digraph.proofs.FanIns.{meets_next, left_same, met_size}
use Rattle.digraph.proofs.cone.meet_reads.Goals as goal

pub loop-i-preserved : goal.loop-i-preserved
loop-i-preserved c =
    let g = c.args.graph.now in let number = c.args.number in let i = c.loop-i.i in
    let node = get_or c.args.nodes.now.items c.args.done 0 in
    let reads = c.reads_at-reads.result.now in let read = get_or reads i 0 in
    let seen = c.loop-i.seen in let nodes = c.loop-i.nodes.items in let marked = c.meet.new.seen in let listed = c.meet.new.nodes.items in
    let is_node = c.index.ensures ∙ get_or_default_zero c.args.nodes.now.items c.args.done c.index.result.now (omega arith) in
    let e : reads ≡ reads_of g node = c.reads_at-reads.ensures ∙ ap (λ n. reads_of g n) is_node in
    let lt : i < length (reads_of g node) = omega (arith, ap length e) in
    let is : get_or (reads_of g node) i 0 ≡ read = ap (λ l. get_or l i 0) (sym e) in
    let met = rw c.read_at.ensures at c.in_ok-meet.ensures in
    record {
      size = met_size number read seen nodes marked listed met ∙ c.loop-i.invariant.size;
      left = left_same number read seen nodes marked listed (omega (arith, c.requires.graph node i lt, is, c.loop-i.invariant.size)) met ∙ c.loop-i.invariant.left;
      meets = λ end h. meets_next g end number seen nodes marked listed c.args.done node i read c.requires.graph lt is met (c.loop-i.invariant.meets end h);
    }
