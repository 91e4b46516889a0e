use Rattle.std.proofs.Common.{◌∙◌, length, sym, ap}
use Rattle.digraph.specs.Rows.{items_of}
use Rattle.digraph.proofs.Marking.{picked_length}
use Rattle.digraph.proofs.row.Row.len.Goals as goal

pub returns-in-Marked : goal.returns-in-Marked
returns-in-Marked g c =
    let row = c.in-Marked.row in
    sym (picked_length row.marks.value row.items.value row.other row.len) ∙ ap (λ kept. length (items_of kept)) (sym c.in-Marked.is) ∙ ap length c.self.view_is
