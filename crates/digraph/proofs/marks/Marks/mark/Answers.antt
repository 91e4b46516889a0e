use Rattle.std.proofs.Common.{◌∙◌, ◌/◌, ◌<◌, arith, ap, length}
use Rattle.std.proofs.lemmas.Grind.{get_or_default_zero}
use Rattle.digraph.specs.Rows.{is_marked}
use Rattle.digraph.proofs.Marking.{marked_now, marked_beside}
use Rattle.digraph.proofs.marks.Marks.mark.Goals as goal

pub returns-clause-marked : goal.returns-clause-marked
returns-clause-marked c = marked_now c.self.inside.words.items c.args.number c.index_mut.result.now (omega (arith, c.requires, ap length c.self.view_is))

pub returns-clause-others : goal.returns-clause-others
returns-clause-others c = λ n ne.
    let words = c.self.inside.words.items in let word = c.index_mut.result.now in
    let lt : c.args.number / 64 < length words = omega (arith, c.requires, ap length c.self.view_is) in
    marked_beside words c.args.number word n lt (c.index_mut.ensures.value ∙ get_or_default_zero words _ word lt) ne ∙ ap (λ l. is_marked l n) c.self.view_is
