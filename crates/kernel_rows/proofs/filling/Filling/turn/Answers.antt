-- The next element is nothing.
use Rattle.std.proofs.Common.{◌≡◌, ◌<◌, ◌-◌, length, slice_index, subst, refl, arith}
use Rattle.kernel_rows.proofs.FillingTurns.{nothing_comes}
use Rattle.kernel_rows.proofs.filling.Filling.turn.Goals as goal

pub returns-then-below-eq0-clause-turn : goal.returns-then-below-eq0-clause-turn
returns-then-below-eq0-clause-turn c =
    let old = c.args.self.now in
    let sizes = c.args.sizes.now in
    let depth = c.len-depth.ensures in
    let short : length old.elements < slice_index sizes c.len-depth.result =
    omega (arith, c.len.ensures, c.if-len-sizes.false) in
    let few : length old.elements < slice_index sizes (length old.outer) =
    subst (λ n. length old.elements < slice_index sizes n) depth short in
    let none : length sizes - length old.outer - 1 ≡ 0 =
    omega (arith, depth, c.if-below-eq0.true) in
    nothing_comes c.args.of sizes old (record old { elements = c.push.new.self }) few none
    c.requires refl c.in_ok-push.ensures.ok refl
