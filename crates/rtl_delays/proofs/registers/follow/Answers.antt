use Rattle.std.proofs.Common.{ap, refl}
use Rattle.std.proofs.lemmas.Result.{on_ok_weaker}
use Rattle.rtl_ir.specs.declared.design.Module.{Module}
use Rattle.rtl_delays.proofs.Extends.{may_update, update_extends, has_added, still_update, register_leaves}
use Rattle.rtl_delays.proofs.Kept.{written_by}
use Rattle.rtl_delays.proofs.Stored.{update_stored}
use Rattle.rtl_delays.proofs.Delaying.{register_delays}
use Rattle.rtl_delays.proofs.registers.follow.Goals as goal

pub returns : goal.returns
returns c =
    let q = c.requires in
    let m = c.args.netlist.now in
    let n = c.update.new.self in
    let may = may_update m c.args.run c.args.register c.args.from q.run q.register q.from q.bit q.same q.free in
    record {
      is = on_ok_weaker c.update.result (λ a. a.is) c.update.ensures;
      extends = on_ok_weaker c.update.result (λ a. update_extends q.sound may a) c.update.ensures;
      still = on_ok_weaker c.update.result (λ a reset. still_update m n _ c.args.run.net reset (ap (λ (k : Module). k.updates) a.is) (λ d f h r s. r)) c.update.ensures;
      others = on_ok_weaker c.update.result (λ a. register_leaves m n c.args.register.net c.args.run.net c.args.from.net (ap (λ (k : Module). k.updates) a.is)) c.update.ensures;
      stored = on_ok_weaker c.update.result (λ a. update_stored a) c.update.ensures;
      written = on_ok_weaker c.update.result (λ a. written_by n _ c.args.register.net refl (has_added a)) c.update.ensures;
      delay = on_ok_weaker c.update.result
          (λ a reset. register_delays n c.args.run.net reset c.args.from.net c.args.register.net
          ((update_extends q.sound may a).regs c.args.register.net q.register.register)
          (has_added a)) c.update.ensures;
    }
