use Rattle.std.proofs.Common.{◌∙◌, ◌++◌, ◌∷◌, [], sym, ap, subst, length, length-append, arith}
use Rattle.maxj_syntax.specs.declared.draft.Packed.{Packed}
use Rattle.maxj_syntax.specs.Store.{drafts, AreEnds}
use Rattle.maxj_syntax.proofs.Store.{as_many, ends_more, one_more}
use Rattle.maxj_syntax.proofs.nodes.Nodes.push.Goals as goal

pub invariant_of-self-in-Ok : goal.invariant_of-self-in-Ok
invariant_of-self-in-Ok c =
    let q : Packed = record { kind = c.args.node.kind; word = c.args.node.word; span = c.args.node.span; end = c.saturating_add-end.result } in
    let kids = c.in_ok-extend_from_slice.ensures.items in
    let size = ap length kids ∙ length-append c.self.inside.children.items c.as_slice.result.now in
    let own = ap length c.as_slice.ensures in
    let items = c.in-Ok.ensures.ok in
    subst (λ l. AreEnds 0 l (length c.extend_from_slice.new.self.items)) (sym items)
    (ends_more 0 c.self.inside.packed (length c.self.inside.children.items) (length c.extend_from_slice.new.self.items) q c.self.invariant
    (omega (
      arith,
      c.saturating_add-end.ensures,
      c.len-start.ensures,
      c.len.ensures,
      c.if-end.false,
    )) (omega (
      arith,
      size,
      own,
      c.saturating_add-end.ensures,
      c.len-start.ensures,
      c.len.ensures,
      c.if-end.false,
    )))

pub returns-in-Ok-clause-number : goal.returns-in-Ok-clause-number
returns-in-Ok-clause-number c = c.len-number.ensures ∙ sym (as_many 0 c.self.inside.packed c.self.inside.children.items) ∙ ap length c.self.view_is

pub returns-in-Ok-clause-nodes : goal.returns-in-Ok-clause-nodes
returns-in-Ok-clause-nodes c =
    let q : Packed = record { kind = c.args.node.kind; word = c.args.node.word; span = c.args.node.span; end = c.saturating_add-end.result } in
    let kids = c.in_ok-extend_from_slice.ensures.items ∙ ap (λ l. c.self.inside.children.items ++ l) c.as_slice.ensures in
    let own = ap length c.as_slice.ensures in
    let items = c.in-Ok.ensures.ok in
    ap (λ l. drafts 0 l c.extend_from_slice.new.self.items) items ∙ ap (λ l. drafts 0 (c.self.inside.packed ++ q ∷ []) l) kids
    ∙ one_more 0 c.self.inside.packed c.self.inside.children.items c.args.node.children q
    c.self.invariant (omega (
      arith,
      own,
      c.saturating_add-end.ensures,
      c.len-start.ensures,
      c.len.ensures,
      c.if-end.false,
    ))
    ∙ ap (λ l. l ++ c.args.node ∷ []) c.self.view_is
