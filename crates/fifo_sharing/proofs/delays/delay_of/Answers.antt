-- The delay fits, since times and needs are small, and isn't below 0, since the times are legal.
use Rattle.std.proofs.Common.{◌≡◌, ◌*◌, ap, ◌∙◌, arith}
use Rattle.std.proofs.lemmas.Int.{ints}
use Rattle.cycle_find.specs.declared.arcs.Arc.{Arc}
use Rattle.cycle_find.specs.Constraints.{numbers_of, arc_at, start_of, end_of, need_of}
use Rattle.fifo_sharing.proofs.Collecting.{need_small}
use Rattle.fifo_sharing.proofs.delays.delay_of.Goals as goal

pub overflow_sub-result-2 : goal.overflow_sub-result-2
overflow_sub-result-2 c =
    let j = 2 * c.args.edge in
    let list = c.args.problem.now.arcs.list in
    let arc : c.arc_number-arc.result ≡ arc_at list j = c.arc_number-arc.ensures
    ∙ ap (λ arcs. arc_at arcs j) c.as_slice.ensures in
    let need : c.arc_number-arc.result.need ≡ need_of list j = ap (λ (a : Arc). a.need) arc in
    let near = need_small c.args.problem.now.arcs c.requires.arcs j c.requires.edge in
    let late = c.requires.within c.arc_number-arc.result.to in
    let early = c.requires.within c.arc_number-arc.result.from in
    omega (arith, ints, need, near, late, early)

pub overflow_cast-result-3 : goal.overflow_cast-result-3
overflow_cast-result-3 c =
    let j = 2 * c.args.edge in
    let list = c.args.problem.now.arcs.list in
    let arc : c.arc_number-arc.result ≡ arc_at list j = c.arc_number-arc.ensures
    ∙ ap (λ arcs. arc_at arcs j) c.as_slice.ensures in
    let x = numbers_of c.args.times.now in
    let need : c.arc_number-arc.result.need ≡ need_of list j = ap (λ (a : Arc). a.need) arc in
    let to : x c.arc_number-arc.result.to ≡ x (end_of list j) = ap (λ (a : Arc). x a.to) arc in
    let from : x c.arc_number-arc.result.from ≡ x (start_of list j) = ap (λ (a : Arc). x a.from) arc
    in
    let near = need_small c.args.problem.now.arcs c.requires.arcs j c.requires.edge in
    let late = c.requires.within c.arc_number-arc.result.to in
    let early = c.requires.within c.arc_number-arc.result.from in
    let legal = c.requires.legal j c.requires.edge in
    omega (arith, ints, need, to, from, near, late, early, legal)

pub returns : goal.returns
returns c =
    let j = 2 * c.args.edge in
    let list = c.args.problem.now.arcs.list in
    let arc : c.arc_number-arc.result ≡ arc_at list j = c.arc_number-arc.ensures
    ∙ ap (λ arcs. arc_at arcs j) c.as_slice.ensures in
    let x = numbers_of c.args.times.now in
    let need : c.arc_number-arc.result.need ≡ need_of list j = ap (λ (a : Arc). a.need) arc in
    let to : x c.arc_number-arc.result.to ≡ x (end_of list j) = ap (λ (a : Arc). x a.to) arc in
    let from : x c.arc_number-arc.result.from ≡ x (start_of list j) = ap (λ (a : Arc). x a.from) arc
    in
    let near = need_small c.args.problem.now.arcs c.requires.arcs j c.requires.edge in
    let late = c.requires.within c.arc_number-arc.result.to in
    let early = c.requires.within c.arc_number-arc.result.from in
    let legal = c.requires.legal j c.requires.edge in
    omega (arith, ints, need, to, from, near, late, early, legal)
