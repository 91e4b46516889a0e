use Rattle.std.proofs.Common.{ℕ, refl, arith, rules, FitsSigned, w64, below_more}
use Rattle.std.proofs.lemmas.Int.{ints}
use Rattle.cycle_find.specs.Constraints.{numbers_of, Meets}
use Rattle.cycle_find.proofs.Reading.{meets_read, read_meets}
use Rattle.cycle_find.proofs.check.solve_ok.Goals as goal

pub returns-then-x-arc-clause-broken : goal.returns-then-x-arc-clause-broken
returns-then-x-arc-clause-broken c =
    let a = c.arc_number-arc.result in
    let x = numbers_of c.args.x.now in
    let f : FitsSigned w64 a.need = search rules in
    record {
      arc = search rules;
      broken = λ m. omega (
        arith,
        ints,
        f,
        c.if-x-arc.true,
        c.requires.within a.to,
        c.requires.within a.from,
        meets_read c.as_slice-list.result.now c.args.arcs.now.list x c.loop-j.j a
            c.as_slice-list.ensures c.arc_number-arc.ensures m,
      );
      before = search rules;
    }

pub loop-j-preserved : goal.loop-j-preserved
loop-j-preserved c =
    let a = c.arc_number-arc.result in
    let x = numbers_of c.args.x.now in
    let f : FitsSigned w64 a.need = search rules in
    let P : ℕ → Type 0 = λ i. Meets x c.as_slice-list.result.now i in
    below_more P _ c.loop-j.invariant
    (read_meets c.as_slice-list.result.now c.as_slice-list.result.now x c.loop-j.j a refl
    c.arc_number-arc.ensures (omega (
      arith,
      ints,
      f,
      c.if-x-arc.false,
      c.requires.within a.to,
      c.requires.within a.from,
    )))
