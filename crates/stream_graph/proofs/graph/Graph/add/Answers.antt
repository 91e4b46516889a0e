use Rattle.std.proofs.Common.{◌++◌, ◌∷◌, [], ap, subst, sym, ◌∙◌}
use Rattle.std.specs.Prelude.{slice_set}
use Rattle.stream_graph.specs.declared.node.Kind.TheVariants as K
use Rattle.stream_graph.specs.Graphs.{call_by}
use Rattle.stream_graph.specs.Steps.{Adds}
use Rattle.stream_graph.proofs.Adding.{on_ok, plain_row, after_plain, after_connect, after_digit, few, narrow}
use Rattle.stream_graph.proofs.graph.Graph.add.Goals as goal

pub gain-requires-clause-few : goal.gain-requires-clause-few
gain-requires-clause-few c =
    few c.args.self.now.bytes.items.items c.args.self.now.operands.items.items c.args.row c.in-ChainDigit.chain
    c.index-in-ChainDigit.result c.in-ChainDigit.digit c.args.nodes.now.items
    c.index_mut-in-ChainDigit.result.now
    c.in-ChainDigit.is c.requires.may c.index-in-ChainDigit.ensures.number c.index_mut-in-ChainDigit.ensures.value

pub gain-requires-clause-bits : goal.gain-requires-clause-bits
gain-requires-clause-bits c =
    narrow c.args.self.now.bytes.items.items c.args.self.now.operands.items.items c.args.row c.in-ChainDigit.chain
    c.index-in-ChainDigit.result c.in-ChainDigit.digit c.args.nodes.now.items
    c.index_mut-in-ChainDigit.result.now
    c.in-ChainDigit.is c.requires.may c.index-in-ChainDigit.ensures.number c.index_mut-in-ChainDigit.ensures.value

pub returns-in-Connect : goal.returns-in-Connect
returns-in-Connect c =
    on_ok c.push.result _ _
    (λ e. subst (λ o. Adds c.args.nodes.now.items (call_by c.args.self.now.bytes.items.items
    c.args.self.now.operands.items.items c.args.row)
    (slice_set c.args.nodes.now.items c.index.result (record c.index_mut.result.now { operands = o }))) (sym e)
    (after_connect c.args.self.now.bytes.items.items c.args.self.now.operands.items.items c.args.row
    c.in-Connect.feed c.in-Connect.value c.index.result c.args.nodes.now.items c.index_mut.result.now
    c.in-Connect.is c.requires.may c.index.ensures.number c.index_mut.ensures.value))
    c.push.ensures.ok

pub returns-in_ok-push-in-ChainDigit-2 : goal.returns-in_ok-push-in-ChainDigit-2
returns-in_ok-push-in-ChainDigit-2 c =
    after_digit c.args.self.now.bytes.items.items c.args.self.now.operands.items.items c.args.row
    c.in-ChainDigit.chain c.index-in-ChainDigit.result c.in-ChainDigit.digit c.args.nodes.now.items
    c.push-in-ChainDigit-2.new.self.items
    c.index_mut-in-ChainDigit.result.now c.gain.new.self
    (record c.in_ok-part-in-ChainDigit.part { digits = c.push-in-ChainDigit.new.self })
    c.in-ChainDigit.is c.requires.may c.index-in-ChainDigit.ensures.number c.index_mut-in-ChainDigit.ensures.value
    c.in_ok-place-in-ChainDigit.ensures.gained
    (record {
      kind = ap (λ v. v.kind) c.in_ok-part-in-ChainDigit.ensures.view ∙ ap K.Part
          c.in_ok-place-in-ChainDigit.ensures.place;
      t = ap (λ v. v.t) c.in_ok-part-in-ChainDigit.ensures.view;
      controlled = ap (λ v. v.controlled) c.in_ok-part-in-ChainDigit.ensures.view;
      operands = c.in_ok-part-in-ChainDigit.ensures.operands;
      named = c.in_ok-part-in-ChainDigit.ensures.name;
      digits = c.in_ok-push-in-ChainDigit.ensures.ok ∙ ap (λ l. l ++ c.in-ChainDigit.digit ∷ [])
          c.in_ok-part-in-ChainDigit.ensures.digits;
    })
    c.in_ok-push-in-ChainDigit-2.ensures.items

pub returns-in_ok-push-in_default : goal.returns-in_ok-push-in_default
returns-in_ok-push-in_default c =
    after_plain (call_by c.args.self.now.bytes.items.items c.args.self.now.operands.items.items c.args.row)
    c.args.nodes.now.items c.push-in_default.new.self.items c.in_ok-node-in_default.node
    (plain_row c.args.self.now.bytes.items.items c.args.self.now.operands.items.items c.args.row
    c.in_default.not-Connect c.in_default.not-ChainDigit)
    c.in_ok-node-in_default.ensures c.in_ok-push-in_default.ensures.items
