-- The binding of the entry at the place.
use Rattle.std.proofs.Common.{◌≡◌, ◌∙◌, ◌≤◌, length, Some, None, refl, ap, sym, subst}
use Rattle.std.specs.Prelude.{slice_get}
use Rattle.std.specs.Option.{option_copied}
use Rattle.std.proofs.lemmas.Option.{slice_get_past, slice_get_read}
use Rattle.kernel_meaning.proofs.Indexed.{binding_at, at-place}
use Rattle.kernel_meaning.proofs.bindings.Bindings.at.Goals as goal

pub returns-in_err-get : goal.returns-in_err-get
returns-in_err-get c =
    let items = c.self.inside.entries.items in
    let past : length c.deref.result.now ≤ c.args.place = c.in_err-get.ensures.lookup.3 in
    let none : slice_get items c.args.place ≡ None =
    subst (λ l. slice_get l c.args.place ≡ None) c.deref.ensures.value
    (slice_get_past c.deref.result.now c.args.place past) in
    ap option_copied c.from_residual.ensures ∙ ap binding_at (sym none)
    ∙ at-place items c.args.place c.args.self.now c.self.view_is

pub returns : goal.returns
returns c =
    let items = c.self.inside.entries.items in
    let x = c.in_ok-get.field-0.now in
    let now = c.deref.result.now in
    let look = c.in_ok-get.ensures.lookup in
    let some : slice_get items c.args.place ≡ Some x =
    subst (λ l. slice_get l c.args.place ≡ Some x) c.deref.ensures.value
    (slice_get_read now (length now) c.args.place x refl look.3.0 look.1) in
    ap binding_at (sym some) ∙ at-place items c.args.place c.args.self.now c.self.view_is
