-- The name has the place of the binding that is added.
use Rattle.std.proofs.Common.{rules, ◌≡◌, ◌∙◌, ◌++◌, [], ◌∷◌, length, Some, cond, sym, ap, subst}
use Rattle.std.specs.Str.{bytes_eq}
use Rattle.kernel_meaning.specs.Index.{found_in, IsIndex}
use Rattle.kernel_meaning.proofs.Found.{found-after}
use Rattle.kernel_meaning.proofs.Indexed.{indexed-more}
use Rattle.kernel_meaning.proofs.bindings.Bindings.push.Goals as goal

pub invariant_of-self-2 : goal.invariant_of-self-2
invariant_of-self-2 c =
    let entries = c.self.inside.entries in
    let old = c.self.inside.places in
    let new = c.insert.new.self in
    let key = c.in_ok-name.name in
    let place = c.len.result in
    let named : key.items ≡ c.args.binding.name = search rules in
    let at : place ≡ length entries.items = c.len.ensures ∙ c.reserve.ensures.len ∙ entries.ok.0 in
    let all : c.push.new.self.items
    ≡ entries.items ++ record { binding = c.args.binding; hidden = c.in_ok-hidden.hidden } ∷ [] =
    c.in_ok-push.ensures.items
    ∙ ap (λ l. l ++ record { binding = c.args.binding; hidden = c.in_ok-hidden.hidden } ∷ [])
    c.reserve.ensures.items in
    subst (λ l. IsIndex l new) (sym all)
    (indexed-more entries.items (record { binding = c.args.binding; hidden = c.in_ok-hidden.hidden })
    old new place c.self.invariant at
    (c.in_ok-hidden.ensures.old ∙ ap (found_in old) named)
    (λ other. found-after key.items old new (Some place) c.in_ok-hidden.ensures.updates other
    ∙ ap (λ n. cond (bytes_eq n other) (Some place) (found_in old other)) named))
