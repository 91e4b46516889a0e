use Rattle.std.proofs.Common.{◌≡◌, ◌<◌, ◌≤◌, ◌+◌, ◌∙◌, ◌++◌, ◌∷◌, [], ℕ, List, length, take, drop, slice_index, sym, ap, subst, arith}
use Rattle.std.proofs.lemmas.List.{length_push}
use Rattle.digraph.specs.Graph.{Reaches}
use Rattle.rtl_check.specs.Paths.{AreAmong, ArePaths}
use Rattle.rtl_check.proofs.Places.{written_back}
use Rattle.rtl_check.proofs.Pathed.{among_same, row_more, row_skipped, outputs_done}
use Rattle.rtl_check.proofs.paths.port_paths.Goals as goal

pub loop-output-preserved-then-not-port : goal.loop-output-preserved-then-not-port
loop-output-preserved-then-not-port c =
    let m = c.args.module.now in let g = c.args.graph.now in let output = c.loop-output.output in let table = c.loop-output.table in
    let is : c.push.new.self ≡ table ++ [] ∷ [] = c.in_ok-push.ensures.ok ∙ ap (λ (l : List ℕ). table ++ l ∷ []) c.none.ensures in
    record {
      paths = subst (ArePaths (Reaches g) m (λ i o. o < output + 1)) (sym is)
          (row_skipped (Reaches g) m table output c.at-port.result.now c.at-port.ensures
          c.if-not-port.true c.loop-output.invariant.paths);
      rows = ap length is ∙ length_push table [] ∙ ap (λ (k : ℕ). k + 1) c.loop-output.invariant.rows;
      size = c.loop-output.invariant.size;
      seen = λ x. omega (arith, c.loop-output.invariant.seen x);
    }

pub loop-output-preserved : goal.loop-output-preserved
loop-output-preserved c =
    let m = c.args.module.now in let g = c.args.graph.now in let p = c.at-port.result.now in let output = c.loop-output.output in let table = c.loop-output.table in
    let are = c.in_ok-places.ensures.places in
    let fan = rw c.index-end.ensures.number at c.in_ok-nodes.ensures.nodes in
    let nodes = c.in_ok-nodes.nodes.items in let places = c.in_ok-places.places.items in let found = c.in_ok-inputs.inputs in let row = c.in_ok-of.field-0 in
    let listed = subst (λ (l : List ℕ). AreAmong places l (length l) found) c.as_slice-in-loop-output.ensures.value (rw c.as_slice.ensures.value at c.in_ok-inputs.ensures) in
    let among = among_same places nodes found row (length nodes) c.in_ok-of.ensures listed in
    let items = c.loop-output.seen.items in let new = c.fan_in.new.seen in
    let same : take c.loop-output.seen.len (new
    ++ drop (length new) items) ≡ new = written_back c.loop-output.seen.len new items
    (omega (arith, c.in_ok-nodes.ensures.size, c.loop-output.invariant.size)) (omega arith) in
    let is : c.push-in-loop-output.new.self ≡ table ++ row ∷ [] = c.in_ok-push-2.ensures.ok in
    record {
      paths = subst (ArePaths (Reaches g) m (λ i o. o < output + 1)) (sym is)
          (row_more g m table output p row nodes places c.at-port.ensures c.if-not-port.false
          are fan among c.loop-output.invariant.rows c.loop-output.invariant.paths);
      rows = ap length is ∙ length_push table row ∙ ap (λ (k : ℕ). k + 1) c.loop-output.invariant.rows;
      size = ap length same ∙ c.in_ok-nodes.ensures.size;
      seen = λ x. subst (λ (l : List ℕ). slice_index l x ≤ c.loop-output.output + 1) (sym same) (c.in_ok-nodes.ensures.earlier x);
    }

pub returns : goal.returns
returns c = outputs_done (Reaches c.args.graph.now) c.args.module.now c.loop-output.output c.loop-output.table (omega arith) c.loop-output.invariant.paths
