use Rattle.std.proofs.Common.{◌≡◌, ◌∙◌, ℕ, Bool, false, Option, Some, None, is_some, refl, sym, ap}
use Rattle.verilog_read.proofs.Tables.{declared_more, declared_again}
use Rattle.verilog_read.proofs.table.Table.declare.Goals as goal

absent : (o : Option ℕ) (b : Bool) → b ≡ is_some o → b ≡ false → o ≡ None
absent None b e f = refl
absent (Some x) b e f = absurd (cc)

pub returns-in_ok-insert : goal.returns-in_ok-insert
returns-in_ok-insert c = λ names t is q.
    declared_more names c.args.name.now q.now c.args.number _ _ (t q) (c.in_ok-insert.ensures.updates.0 q) (sym (t c.args.name) ∙ absent _ _ c.contains_key.ensures c.if-not-contains_key.true) is

pub returns-else-not-contains_key : goal.returns-else-not-contains_key
returns-else-not-contains_key c = λ names t is q.
    t q ∙ declared_again names c.args.name.now q.now (ap is_some (sym (t c.args.name)) ∙ sym c.contains_key.ensures ∙ c.if-not-contains_key.false)
