-- The name alone has another place.
use Rattle.std.proofs.Common.{◌∙◌, Some, None, cond, sym, ap}
use Rattle.std.specs.Str.{bytes_eq}
use Rattle.kernel_meaning.specs.Index.{found_in}
use Rattle.kernel_meaning.proofs.Found.{found-after}
use Rattle.kernel_meaning.proofs.bindings.restore.Goals as goal

pub returns-in-Some-get_mut : goal.returns-in-Some-get_mut
returns-in-Some-get_mut c = λ other.
    let name = c.args.name.now in
    let old = c.args.places.now in
    let place = c.in-Some.place in
    found-after name old (c.get_mut.follows.lender place) (Some place)
    ((c.get_mut.follows.holds place).3 c.requires) other
    ∙ ap (λ o. cond (bytes_eq name other) o (found_in old other)) (sym c.in-Some.is)

pub returns-in-None : goal.returns-in-None
returns-in-None c = λ other.
    let name = c.args.name.now in
    let old = c.args.places.now in
    found-after name old c.swap_remove.new.self None c.swap_remove.ensures.updates other
    ∙ ap (λ o. cond (bytes_eq name other) o (found_in old other)) (sym c.in-None.is)
