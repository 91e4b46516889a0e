use Rattle.std.proofs.Common.{◌≡◌, ◌+◌, ◌<◌, ◌^◌, ◌++◌, ℕ, length, get_or, refl, subst, arith}
use Rattle.std.proofs.lemmas.Option.{slice_get-get_or}
use Rattle.rtl_check.specs.Paths.{AreJoined, IsPassed}
use Rattle.rtl_check.proofs.Places.{item_at}
use Rattle.rtl_check.proofs.Marked.{item_of}
use Rattle.rtl_check.proofs.Edges.{steps_row, passed_same, adds_now, small_now}
use Rattle.rtl_check.proofs.paths.add_paths.Goals as goal

pub loop-output-preserved-then-len-eq0 : goal.loop-output-preserved-then-len-eq0
loop-output-preserved-then-len-eq0 c =
    let i = c.args.instance.now in let table = c.args.table.now in let n = c.loop-output.output in let inputs = c.index-table-output.result in
    let at = item_at table table n inputs refl (omega arith) c.index-table-output.is in
    record {
      added = passed_same i table n inputs c.args.graph.now c.loop-output.graph at (omega (arith, c.if-len-eq0.true, c.len.ensures)) c.loop-output.invariant.added;
      small = c.loop-output.invariant.small;
    }

pub joined-requires-clause-within : goal.joined-requires-clause-within
joined-requires-clause-within c = λ n p is.
    let table = c.args.table.now in let output = c.loop-output.output in let inputs = c.index-table-output.result in
    let at = item_at table table output inputs refl (omega arith) c.index-table-output.is in
    c.requires.inputs (record { input = p; output = output }) (inputs, n, at, is)

pub at-requires : goal.at-requires
at-requires c =
    let table = c.args.table.now in let output = c.loop-output.output in let inputs = c.index-table-output.result in
    let at = item_at table table output inputs refl (omega arith) c.index-table-output.is in
    let first = item_of inputs 0 (omega (arith, c.if-len-eq0.false, c.len.ensures)) in
    c.requires.outputs (record { input = first.0; output = output }) (inputs, 0, at, first.1)

pub loop-output-preserved : goal.loop-output-preserved
loop-output-preserved c =
    let i = c.args.instance.now in let table = c.args.table.now in let n = c.loop-output.output in let inputs = c.index-table-output.result in
    let at = item_at table table n inputs refl (omega arith) c.index-table-output.is in
    let to = c.at.result.now in let g = c.loop-output.graph in let e = c.index-number.ensures.number in
    let d = c.index-graph-number.result in let old = get_or g to d in let there = get_or g c.index-number.result d in let now = c.join.new.self in let nets = c.in_ok-joined.joined in
    let to_small : to < 2 ^ 32 = omega arith in
    let lt : to < length g = let w = c.requires.nets n to c.at.ensures to_small in omega arith in
    let was = slice_get-get_or g to d lt in
    let joined : AreJoined i inputs (length inputs) nets = c.in_ok-joined.ensures in
    let is : now ≡ old ++ nets = subst (λ (k : ℕ). now ≡ get_or g k d ++ nets) e c.in_ok-join.ensures in
    rw e (record {
      added = adds_now (IsPassed i table n) (IsPassed i table
          (n + 1)) c.args.graph.now g to old nets now was is
          (steps_row i table n to inputs nets at c.at.ensures joined) c.loop-output.invariant.added;
      small = λ s. small_now g to old nets now was is joined.small (c.loop-output.invariant.small s);
    })
