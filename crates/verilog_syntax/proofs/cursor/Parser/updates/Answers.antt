use Rattle.std.proofs.Common.{◌∙◌, sym, refl}
use Rattle.std.proofs.lemmas.Result.{err_from_is_err_and}
use Rattle.verilog_syntax.specs.Trees.{left}
use Rattle.verilog_syntax.proofs.Exits.{err_is, failed, then}
use Rattle.verilog_syntax.proofs.Plans.{pass, finish}
use Rattle.verilog_syntax.proofs.Productions
use Rattle.std.proofs.Common.{◌++◌, map, ap, subst, arith}
use Rattle.std.proofs.lemmas.List.{append-nil}
use Rattle.verilog_syntax.specs.Parsing.{Reads, UpdatesOf}
use Rattle.verilog_syntax.specs.Trees.{update_view}
use Rattle.verilog_syntax.proofs.Exits.{no_memory}
use Rattle.verilog_syntax.proofs.Plans.{again, no_more, same, wait}
use Rattle.verilog_syntax.proofs.Fronts.{all_none}
use Rattle.verilog_syntax.proofs.Loops
use Rattle.verilog_syntax.proofs.cursor.Parser.updates.Goals as goal

pub returns-in_err-update-clause-exact : goal.returns-in_err-update-clause-exact
returns-in_err-update-clause-exact c =
    rw (err_is (err_from_is_err_and c.from_residual.result c.from_residual.ensures.1))
    (failed (λ t g. g) (pass (again Productions.updates
    (λ w. map update_view c.loop-self.updates
    ++ w) (λ below e. e) c.loop-self.invariant.read
    (Loops.update_goes _ (sym c.begins.ensures ∙ c.loop-self-test.true)))
    (all_none _)) c.in_err-update.ensures.exact)

pub returns-in_err-push-clause-exact : goal.returns-in_err-push-clause-exact
returns-in_err-push-clause-exact c =
    rw (err_is (err_from_is_err_and c.from_residual-in_err-push.result c.from_residual-in_err-push.ensures.1)) (no_memory refl)

pub loop-self-init : goal.loop-self-init
loop-self-init c = record {
  read = same (λ w. sym (ap (λ l. map update_view l ++ w) c.new-updates.ensures)) (wait UpdatesOf (λ w. tt) (left c.args.self.now));
  fewer = omega arith;
}

pub loop-self-preserved : goal.loop-self-preserved
loop-self-preserved c = record {
  read = same (Loops.map_more update_view c.loop-self.updates _ _ c.in_ok-push.ensures.ok)
      (then (λ t g. g) (pass (again Productions.updates
      (λ w. map update_view c.loop-self.updates
      ++ w) (λ below e. e) c.loop-self.invariant.read (Loops.update_goes _
      (sym c.begins.ensures ∙ c.loop-self-test.true))) (all_none _)) c.in_ok-update.ensures.exact);
  fewer = (let b = c.in_ok-update.ensures.fewer in let d = c.loop-self.invariant.fewer in omega arith);
}

pub returns-clause-exact : goal.returns-clause-exact
returns-clause-exact c =
    subst (λ l. Reads UpdatesOf (left c.args.self.now) (left c.loop-self.self) l) (append-nil (map update_view c.loop-self.updates))
    (finish (no_more Productions.updates (λ w. map update_view c.loop-self.updates ++ w) (λ below e. e) c.loop-self.invariant.read (Loops.no_update _ (sym c.begins.ensures ∙ c.loop-self-test.false))))
