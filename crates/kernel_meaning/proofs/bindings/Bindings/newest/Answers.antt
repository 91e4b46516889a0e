-- The binding at the place of a name.
use Rattle.std.proofs.Common.{◌≡◌, ◌∙◌, ◌<◌, Some, length, sym, ap, subst}
use Rattle.std.specs.Option.{option_copied}
use Rattle.kernel_meaning.specs.Names.{bound_in}
use Rattle.kernel_meaning.specs.Places.{place_in}
use Rattle.kernel_meaning.specs.Index.{bindings_of}
use Rattle.kernel_meaning.proofs.PlaceLaws.{place-below, no-place-unbound}
use Rattle.kernel_meaning.proofs.Indexed.{how-many, newest-at}
use Rattle.kernel_meaning.proofs.bindings.Bindings.newest.Goals as goal

pub returns-in_err-place : goal.returns-in_err-place
returns-in_err-place c =
    ap option_copied c.from_residual.ensures
    ∙ sym (no-place-unbound c.args.name.now c.args.self.now (sym c.in_err-place.ensures))

pub index-requires : goal.index-requires
index-requires c =
    let entries = c.self.inside.entries in
    let below : c.in_ok-place.place < length c.args.self.now =
    place-below c.args.name.now c.args.self.now c.in_ok-place.place (sym c.in_ok-place.ensures) in
    subst (λ n. c.in_ok-place.place < n)
    (ap length (sym c.self.view_is) ∙ how-many entries.items ∙ sym entries.ok.0) below

pub returns : goal.returns
returns c =
    let items = c.self.inside.entries.items in
    let at : place_in c.args.name.now (bindings_of items) ≡ Some c.in_ok-place.place =
    ap (place_in c.args.name.now) c.self.view_is ∙ sym c.in_ok-place.ensures in
    newest-at c.args.name.now items c.in_ok-place.place c.index.result.now at c.index.ensures
    ∙ ap (bound_in c.args.name.now) c.self.view_is
