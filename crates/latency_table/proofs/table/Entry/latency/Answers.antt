use Rattle.std.proofs.Common.{ℕ, Option, Some, option_map, sym, ap, ◌∙◌, subst}
use Rattle.latency_table.specs.Rows.{IsOfWidth}
use Rattle.latency_table.proofs.GreatestLemmas.{row_at-IsOfWidth, row_at-at_most}
use Rattle.latency_table.proofs.table.Entry.latency.Goals as goal

pub returns-in-Some-clause-of_width : goal.returns-in-Some-clause-of_width
returns-in-Some-clause-of_width c =
    let s = c.args.self.now in
    subst (λ (o : Option ℕ). IsOfWidth s.rows c.args.width o)
    (ap (option_map (λ r. r.latency)) (sym c.in-Some.ensures) ∙ ap Some (sym c.from.ensures))
    (row_at-IsOfWidth s.rows c.args.width s.in_range)

pub returns-in-Some-clause-at_most : goal.returns-in-Some-clause-at_most
returns-in-Some-clause-at_most c =
    let s = c.args.self.now in
    rw c.from.ensures (row_at-at_most s.rows c.args.width c.in-Some.row.now s.in_range c.in-Some.ensures)

pub returns-in-None-clause-of_width : goal.returns-in-None-clause-of_width
returns-in-None-clause-of_width c =
    let s = c.args.self.now in
    subst (λ (o : Option ℕ). IsOfWidth s.rows c.args.width o)
    (ap (option_map (λ r. r.latency)) (sym c.in-None.ensures))
    (row_at-IsOfWidth s.rows c.args.width s.in_range)
