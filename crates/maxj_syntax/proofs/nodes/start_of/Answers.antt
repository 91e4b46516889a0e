use Rattle.std.proofs.Common.{◌≡◌, sym, suc, arith}
use Rattle.maxj_syntax.proofs.Store.{start_behind, start_first}
use Rattle.maxj_syntax.proofs.nodes.start_of.Goals as goal

pub returns-in-Some : goal.returns-in-Some
returns-in-Some c =
    let e : c.args.number ≡ suc c.in-Some.before = (let h = c.in-Some.ensures in omega (arith, h)) in
    sym (start_behind 0 c.args.packed.now c.args.number c.in-Some.before _ e c.requires)

pub returns-in-None : goal.returns-in-None
returns-in-None c = sym (start_first 0 c.args.packed.now c.args.number (let h = c.in-None.ensures in omega (arith, h)))
