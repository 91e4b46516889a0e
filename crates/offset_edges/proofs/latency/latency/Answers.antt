use Rattle.std.proofs.Common.{◌≡◌, ◌∙◌, ap, sym}
use Rattle.stream_graph.specs.declared.node.Kind.TheVariants as K
use Rattle.latency_table.specs.Tables.{latency_of}
use Rattle.stream_graph.specs.LookUps.{kind_at}
use Rattle.offset_edges.specs.Latencies.{latency_as}
use Rattle.stream_graph.proofs.NodeLemmas.{orderly}
use Rattle.stream_graph.proofs.Reading.{view_read}
use Rattle.offset_edges.proofs.LatencyLemmas.{decides}
use Rattle.offset_edges.proofs.latency.latency.Goals as goal
use Rattle.offset_edges.proofs.latency.latency.Goals.{In-Operation}

-- the kind that was read
read_it : (c : In-Operation) → kind_at c.args.kernel.now.nodes c.args.number ≡ K.Operation
    c.in-Operation.op c.in-Operation.field-1 c.in-Operation.field-2
read_it c =
    ap (λ v. v.kind) (sym (view_read c.args.kernel.now.nodes c.new.result c.args.number
    c.node.result c.new.ensures c.node.ensures))
    ∙ c.in-Operation.is

pub width_for-width-requires-clause-place : goal.width_for-width-requires-clause-place
width_for-width-requires-clause-place c =
    decides c.in-Operation.op _
    ((orderly c.args.kernel.now.nodes c.args.kernel.now.made).operations c.args.number
    c.in-Operation.op
    c.in-Operation.field-1 c.in-Operation.field-2 c.requires (read_it c))

pub returns-in-Some-clause-ok : goal.returns-in-Some-clause-ok
returns-in-Some-clause-ok c =
    let nodes = c.args.kernel.now.nodes in
    ap (latency_as c.args.table.now nodes c.args.number) (read_it (goal.at.returns-in-Some-clause-ok
    c).In-Operation)
    ∙ ap (latency_of c.args.table.now c.in-Operation.op) (sym c.width_for-width.ensures)
    ∙ sym c.latency.ensures.value ∙ c.in-Some.is

pub returns-in-None-clause-err : goal.returns-in-None-clause-err
returns-in-None-clause-err c =
    record {
      operation = (
        c.in-Operation.field-1,
        c.in-Operation.field-2,
        read_it
            (goal.at.returns-in-None-clause-err c).In-Operation,
      );
      of_width = c.width_for-width.ensures;
      none = sym c.latency.ensures.value ∙ c.in-None.is;
    }
