use Rattle.std.proofs.Common.{◌≡◌, ◌∙◌, sym, subst, length, get_or, ap, arith}
use Rattle.verilog_sim.specs.Contents.{family_of}
use Rattle.verilog_sim.specs.Updates.{IsTargetSafe, held_by}
use Rattle.verilog_sim.proofs.Holding.{held_written}
use Rattle.verilog_sim.proofs.Writes.{memory_written}
use Rattle.verilog_sim.proofs.clock.write.Goals as goal

pub returns-in-Reg-clause-written : goal.returns-in-Reg-clause-written
returns-in-Reg-clause-written c =
    let safe = subst (IsTargetSafe (length c.args.values.now) (length c.args.memories.now)) c.in-Reg.is c.requires.safe.target in
    let on : get_or c.args.values.now c.args.update.now.enable 0 ≡ 1 = sym c.read.ensures ∙ c.if-read-eq1.true in
    λ m us k at depths. (
      depths,
      rw (on, c.in-Reg.is, ← c.read-word.ensures, c.set.ensures)
          (held_written us c.args.ahead.now c.args.memories.now k c.in-Reg.net c.read-word.result c.args.update.now at c.in-Reg.is
          (omega (arith, safe, c.requires.nets))),
    )

pub returns-in-Cell-clause-written : goal.returns-in-Cell-clause-written
returns-in-Cell-clause-written c =
    let safe = subst (IsTargetSafe (length c.args.values.now) (length c.args.memories.now)) c.in-Cell.is c.requires.safe.target in
    let on : get_or c.args.values.now c.args.update.now.enable 0 ≡ 1 = sym c.read.ensures ∙ c.if-read-eq1.true in
    let mem : c.index.result ≡ c.in-Cell.k = c.index.ensures.number in
    rw (on, c.in-Cell.is, ← mem, ← c.get.ensures, ← c.read-word.ensures)
    (λ m us k at depths. memory_written m
    (family_of c.args.values.now) (held_by us c.args.ahead.now) c.args.memories.now c.index.result
    c.get.result c.read-word.result
    (get_or c.args.memories.now c.index.result c.index-memories-index.result)
    c.write.new.self (omega (
      arith,
      mem,
      safe.0,
    )) (ap (get_or c.args.memories.now c.index.result)
    c.index-memories-index.is) c.write.ensures depths)
