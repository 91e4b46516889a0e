-- The binding at the place has the value.
use Rattle.std.proofs.Common.{◌∙◌, ◌<◌, length, sym, ap, subst}
use Rattle.kernel_meaning.specs.Places.{assigned_at}
use Rattle.kernel_meaning.proofs.Indexed.{how-many, indexed-set, bindings-set}
use Rattle.kernel_meaning.proofs.bindings.Bindings.set.Goals as goal

pub invariant_of-self : goal.invariant_of-self
invariant_of-self c =
    let items = c.self.inside.entries.items in
    let below = subst (λ n. c.args.place < n) (ap length (sym c.self.view_is) ∙ how-many items)
    c.requires in
    indexed-set items c.args.place c.index_mut.result.now c.args.value c.self.inside.places below
    c.index_mut.ensures.value c.self.invariant

pub returns : goal.returns
returns c =
    let items = c.self.inside.entries.items in
    let below = subst (λ n. c.args.place < n) (ap length (sym c.self.view_is) ∙ how-many items)
    c.requires in
    bindings-set items c.args.place c.index_mut.result.now c.args.value below
    c.index_mut.ensures.value
    ∙ ap (assigned_at c.args.place c.args.value) c.self.view_is
