-- The binding that the newest one hid is found again.
use Rattle.std.proofs.Common.{◌∙◌, cond, IsSome, sym, ap, subst}
use Rattle.std.specs.Str.{bytes_eq}
use Rattle.kernel_meaning.specs.Index.{found_in, IsIndex}
use Rattle.kernel_meaning.proofs.Indexed.{newest-has, indexed-less}
use Rattle.kernel_meaning.proofs.bindings.Bindings.take_newest.Goals as goal

pub restore-requires : goal.restore-requires
restore-requires c =
    let index = subst (λ l. IsIndex l c.self.inside.places) c.in_ok-entry.ensures.items c.self.invariant in
    subst (λ n. IsSome (found_in c.self.inside.places n)) (sym c.as_bytes.ensures)
    (newest-has c.pop.new.self.items c.in_ok-entry.entry c.self.inside.places index)

pub invariant_of-self-2 : goal.invariant_of-self-2
invariant_of-self-2 c =
    let old = c.self.inside.places in
    let hidden = c.in_ok-entry.entry.hidden in
    indexed-less c.pop.new.self.items c.in_ok-entry.entry old c.restore.new.places
    (subst (λ l. IsIndex l old) c.in_ok-entry.ensures.items c.self.invariant)
    (λ other. c.restore.ensures other
    ∙ ap (λ n. cond (bytes_eq n other) hidden (found_in old other)) c.as_bytes.ensures)
