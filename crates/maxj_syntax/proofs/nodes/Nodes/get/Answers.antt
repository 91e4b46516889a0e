use Rattle.std.proofs.Common.{◌≡◌, ◌∙◌, ◌<◌, ◌-◌, Some, None, length, slice_get, take, drop, sym, ap, subst, arith}
use Rattle.std.proofs.lemmas.Option.{slice_get_within}
use Rattle.maxj_syntax.specs.Store.{start_at}
use Rattle.maxj_syntax.proofs.Store.{draft_of, draft_at, start_within, none_at}
use Rattle.maxj_syntax.proofs.nodes.Nodes.get.Goals as goal

pub returns-in_err-packed-clause-none : goal.returns-in_err-packed-clause-none
returns-in_err-packed-clause-none c =
    let e : slice_get c.self.inside.packed c.args.id ≡ None = sym c.in_err-packed.ensures in
    rw c.from_residual.ensures (ap (λ l. slice_get l c.args.id) (sym c.self.view_is) ∙ none_at 0 c.self.inside.packed c.self.inside.children.items c.args.id e)

pub start_of-start-requires : goal.start_of-start-requires
start_of-start-requires c =
    subst (λ l. c.args.id < length l) (sym c.as_slice.ensures) (slice_get_within c.self.inside.packed c.args.id c.in_ok-packed.packed.now (sym c.in_ok-packed.ensures))

pub offset_bounds-deref-start : goal.offset_bounds-deref-start
offset_bounds-deref-start c =
    let b = start_within 0 c.self.inside.packed (length c.self.inside.children.items) c.args.id c.in_ok-packed.packed.now c.self.invariant (sym c.in_ok-packed.ensures) in
    let s = c.start_of-start.ensures ∙ ap (λ l. start_at 0 l c.args.id) c.as_slice.ensures in
    let size = ap length c.deref.ensures.value in
    let fits = c.deref.type_inv in
    omega (arith, b.0, b.1, s, size, fits.0, fits.1)

pub slice_bounds-children-count : goal.slice_bounds-children-count
slice_bounds-children-count c =
    let b = start_within 0 c.self.inside.packed (length c.self.inside.children.items) c.args.id c.in_ok-packed.packed.now c.self.invariant (sym c.in_ok-packed.ensures) in
    let s = c.start_of-start.ensures ∙ ap (λ l. start_at 0 l c.args.id) c.as_slice.ensures in
    omega (arith, b.0, s)

pub slice_bounds-children-start : goal.slice_bounds-children-start
slice_bounds-children-start c =
    let b = start_within 0 c.self.inside.packed (length c.self.inside.children.items) c.args.id c.in_ok-packed.packed.now c.self.invariant (sym c.in_ok-packed.ensures) in
    let s = c.start_of-start.ensures ∙ ap (λ l. start_at 0 l c.args.id) c.as_slice.ensures in
    let size = ap length c.deref.ensures.value in
    omega (arith, b.0, b.1, s, size)

pub slice_bounds-children-end : goal.slice_bounds-children-end
slice_bounds-children-end c =
    let b = start_within 0 c.self.inside.packed (length c.self.inside.children.items) c.args.id c.in_ok-packed.packed.now c.self.invariant (sym c.in_ok-packed.ensures) in
    let s = c.start_of-start.ensures ∙ ap (λ l. start_at 0 l c.args.id) c.as_slice.ensures in
    let size = ap length c.deref.ensures.value in
    omega (arith, b.0, b.1, s, size)

pub returns-clause-some : goal.returns-clause-some
returns-clause-some c =
    let p = c.in_ok-packed.packed.now in
    let n = c.args.id in
    let ds = c.self.inside.packed in
    let kids = c.self.inside.children.items in
    let s = c.start_of-start.ensures ∙ ap (λ l. start_at 0 l n) c.as_slice.ensures in
    ap (λ l. slice_get l c.args.id) (sym c.self.view_is) ∙ draft_at 0 ds kids n p (sym c.in_ok-packed.ensures)
    ∙ ap (λ k. Some (draft_of p (take (p.end - k) (drop k kids)))) (sym s)
    ∙ ap (λ l. Some (draft_of p (take (p.end - c.start_of-start.result) (drop c.start_of-start.result l)))) (sym c.deref.ensures.value)
