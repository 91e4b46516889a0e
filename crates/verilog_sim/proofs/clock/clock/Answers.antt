use Rattle.std.proofs.Common.{◌≡◌, length, refl, subst, sym, ◌∙◌}
use Rattle.std.proofs.lemmas.List.{at_drop_all}
use Rattle.std.proofs.lemmas.Option.{slice_get_read}
use Rattle.rtl_ir.specs.declared.design.Update.{Update}
use Rattle.rtl_ir.specs.Edge.{updated, updated_all}
use Rattle.verilog_sim.specs.Contents.{family_of, contents_of}
use Rattle.verilog_sim.specs.Updates.{held_by}
use Rattle.verilog_sim.proofs.Writes.{one_update}
use Rattle.verilog_sim.proofs.clock.clock.Goals as goal

pub loop-update-preserved : goal.loop-update-preserved
loop-update-preserved c =
    let us = c.args.updates.now in
    let i = c.loop-update.update-index in
    let u = c.update-item.result in
    let at = slice_get_read us (length us) i u refl c.loop-update-test.true c.update-item.is in (
      c.write.ensures.nets ∙ c.loop-update.invariant.0,
      λ n free. c.write.ensures.others n (free i u at) ∙ c.loop-update.invariant.1 n free,
      λ m depths. (
          let before = c.loop-update.invariant.2 m depths in
          let now = c.write.ensures.written m us i at before.0 in
          let is = subst (λ (x : Update). contents_of (held_by us c.write.new.ahead) c.write.new.memories
          ≡ updated m (family_of c.args.values.now) x
          (contents_of (held_by us c.loop-update.ahead) c.loop-update.memories)) c.update-item.is now.1 in (
            now.0,
            one_update m (family_of c.args.values.now) us i u (contents_of (held_by us c.args.ahead.now) c.args.memories.now)
                (contents_of (held_by us c.loop-update.ahead) c.loop-update.memories)
                (contents_of (held_by us c.write.new.ahead) c.write.new.memories) c.loop-update-test.true is before.1,
          )),
    )

pub returns-clause-written : goal.returns-clause-written
returns-clause-written c = λ m depths.
    let us = c.args.updates.now in
    let last = c.loop-update.invariant.2 m depths in (
      last.0,
      sym (at_drop_all (λ xs. updated_all m (family_of c.args.values.now) xs
          (contents_of (held_by us c.loop-update.ahead) c.loop-update.memories)) us
          c.loop-update.update-index c.loop-update-test.false) ∙ last.1,
    )
