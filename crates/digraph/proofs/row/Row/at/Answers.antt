use Rattle.std.proofs.Common.{◌≡◌, ◌∙◌, length, sym, ap, arith}
use Rattle.digraph.specs.Rows.{items_of}
use Rattle.digraph.proofs.Marking.{picked_length}
use Rattle.digraph.proofs.row.Row.at.Goals as goal

pub at-requires-in-Marked : goal.at-requires-in-Marked
at-requires-in-Marked g c =
    let row = c.in-Marked.row in
    let size : length c.args.self.now ≡ row.len = sym (sym
    (picked_length row.marks.value row.items.value row.other row.len) ∙ ap
    (λ kept. length (items_of kept)) (sym c.in-Marked.is) ∙ ap length c.self.view_is) in
    omega (arith, size, c.requires)
