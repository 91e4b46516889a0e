use Rattle.std.proofs.Common.{◌≡◌, ◌+◌, List, map, take, sym, subst}
use Rattle.serde_json.specs.View.{view}
use Rattle.latency_table.specs.Names.{operations}
use Rattle.latency_table.specs.declared.table.Entry.{Entry}
use Rattle.latency_table.proofs.EntryLemmas.{read_beside, kept_beside, kept_more, fault_later, all_kept, no_fault}
use Rattle.latency_table.proofs.reading.read_rows.Goals as goal

pub loop-op-preserved : goal.loop-op-preserved
loop-op-preserved c =
    let d = view c.args.file.now in
    let i = c.loop-op.op-index in
    let entry = c.in_ok-read_entry.field-0 in
    record {
      kept = subst (λ (es : List Entry). map (read_beside d) (take (i + 1) operations) ≡ map kept_beside es) (sym c.in_ok-push.ensures.ok)
          (kept_more d operations i _ c.loop-op.entries entry c.loop-op-test.true c.in_ok-read_entry.ensures c.loop-op.invariant.kept);
      left = fault_later d operations i _ entry _ c.loop-op-test.true c.in_ok-read_entry.ensures c.loop-op.invariant.left;
    }

pub returns : goal.returns
returns c =
    let d = view c.args.file.now in
    let i = c.loop-op.op-index in (
      all_kept d c.loop-op.entries i c.loop-op-test.false c.loop-op.invariant.kept,
      no_fault d i _ c.loop-op-test.false c.loop-op.invariant.left,
    )
