use Rattle.std.proofs.Common.{◌<◌, ◌^◌, arith}
use Rattle.std.specs.Prelude.{codes}
use Rattle.schedule_report.proofs.FieldLemmas.{head_name, nodes_field, edges_field, field_same, from_edges, from_bits}
use Rattle.schedule_report.proofs.fields.head_of.Goals as goal

pub returns-in_err-nodes-clause-none : goal.returns-in_err-nodes-clause-none
returns-in_err-nodes-clause-none c = rw c.from_residual-in_err-nodes.ensures (λ name nodes edges bits h.
    let split = c.split_front-split in
    let parts =
    head_name c.args.line.now c.in_ok-text.text.now split.result.front.now split.result.rest.now name nodes edges bits c.in_ok-text.ensures.some
    split.ensures.joined split.ensures.front split.ensures.rest h in
    c.in_err-nodes.ensures.none nodes (from_edges edges bits) (nodes_field split.result.rest.now nodes edges bits parts.1 h.nodes_small))

pub returns-in_err-edges-clause-none : goal.returns-in_err-edges-clause-none
returns-in_err-edges-clause-none c = rw c.from_residual-in_err-edges.ensures (λ name nodes edges bits h.
    let split = c.split_front-split in
    let parts =
    head_name c.args.line.now c.in_ok-text.text.now split.result.front.now split.result.rest.now name nodes edges bits c.in_ok-text.ensures.some
    split.ensures.joined split.ensures.front split.ensures.rest h in
    let fits : 2 ^ 32 < 2 ^ 64 = omega arith in
    let first =
    field_same split.result.rest.now (codes " nodes ") (2 ^ 32) (2 ^ 32) c.in_ok-nodes.nodes.value nodes c.in_ok-nodes.nodes.rest.now
    (from_edges edges bits) fits fits c.in_ok-nodes.ensures.some
    (nodes_field split.result.rest.now nodes edges bits parts.1 h.nodes_small) in
    c.in_err-edges.ensures.none edges (from_bits bits) (edges_field c.in_ok-nodes.nodes.rest.now edges bits first.1 h.edges_small))

pub returns-in_err-bits-clause-none : goal.returns-in_err-bits-clause-none
returns-in_err-bits-clause-none c = rw c.from_residual-in_err-bits.ensures (λ name nodes edges bits h.
    let split = c.split_front-split in
    let parts =
    head_name c.args.line.now c.in_ok-text.text.now split.result.front.now split.result.rest.now name nodes edges bits c.in_ok-text.ensures.some
    split.ensures.joined split.ensures.front split.ensures.rest h in
    let fits : 2 ^ 32 < 2 ^ 64 = omega arith in
    let first =
    field_same split.result.rest.now (codes " nodes ") (2 ^ 32) (2 ^ 32) c.in_ok-nodes.nodes.value nodes c.in_ok-nodes.nodes.rest.now
    (from_edges edges bits) fits fits c.in_ok-nodes.ensures.some
    (nodes_field split.result.rest.now nodes edges bits parts.1 h.nodes_small) in
    let second =
    field_same c.in_ok-nodes.nodes.rest.now (codes " edges ") (2 ^ 32) (2 ^ 32) c.in_ok-edges.edges.value edges c.in_ok-edges.edges.rest.now
    (from_bits bits) fits fits c.in_ok-edges.ensures.some
    (edges_field c.in_ok-nodes.nodes.rest.now edges bits first.1 h.edges_small) in
    c.in_err-bits.ensures.none bits (record { text_is = second.1; small = h.bits_small }))
