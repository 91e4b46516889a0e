use Rattle.std.proofs.Common.{◌∙◌, sym, refl}
use Rattle.std.proofs.lemmas.Result.{err_from_is_err_and}
use Rattle.verilog_syntax.specs.Trees.{left}
use Rattle.verilog_syntax.proofs.Exits.{err_is, failed, then}
use Rattle.verilog_syntax.proofs.Plans.{pass, finish}
use Rattle.verilog_syntax.proofs.Productions
use Rattle.std.proofs.Common.{◌++◌, map, ap, subst, arith}
use Rattle.std.proofs.lemmas.List.{append-nil}
use Rattle.verilog_syntax.specs.Parsing.{Reads, ItemsOf}
use Rattle.verilog_syntax.specs.Trees.{item_view}
use Rattle.verilog_syntax.proofs.Exits.{no_memory}
use Rattle.verilog_syntax.proofs.Plans.{again, no_more, same, wait}
use Rattle.verilog_syntax.proofs.Fronts.{all_none}
use Rattle.verilog_syntax.proofs.Loops
use Rattle.verilog_syntax.proofs.cursor.Parser.items.Goals as goal

pub returns-in_err-item-clause-exact : goal.returns-in_err-item-clause-exact
returns-in_err-item-clause-exact c =
    rw (err_is (err_from_is_err_and c.from_residual.result c.from_residual.ensures.1))
    (failed (λ t g. g) (pass (again Productions.items (λ w. map item_view c.loop-alloc.items
    ++ w) (λ below e. e) c.loop-alloc.invariant.read
    (Loops.item_goes _ (sym c.begins_item.ensures ∙ c.loop-alloc-test.true)))
    (all_none _)) c.in_err-item.ensures.exact)

pub returns-in_err-push-clause-exact : goal.returns-in_err-push-clause-exact
returns-in_err-push-clause-exact c =
    rw (err_is (err_from_is_err_and c.from_residual-in_err-push.result c.from_residual-in_err-push.ensures.1)) (no_memory refl)

pub loop-alloc-init : goal.loop-alloc-init
loop-alloc-init c = record {
  read = same (λ w. sym (ap (λ l. map item_view l ++ w) c.new-items.ensures)) (wait ItemsOf (λ w. tt) (left c.args.self.now));
  fewer = omega arith;
}

pub loop-alloc-preserved : goal.loop-alloc-preserved
loop-alloc-preserved c = record {
  read = same (Loops.map_more item_view c.loop-alloc.items _ _ c.in_ok-push.ensures.ok)
      (then (λ t g. g) (pass (again Productions.items (λ w. map item_view c.loop-alloc.items
      ++ w) (λ below e. e) c.loop-alloc.invariant.read (Loops.item_goes _
      (sym c.begins_item.ensures ∙ c.loop-alloc-test.true)))
      (all_none _)) c.in_ok-item.ensures.exact);
  fewer = (let b = c.in_ok-item.ensures.fewer in let d = c.loop-alloc.invariant.fewer in omega arith);
}

pub returns-clause-exact : goal.returns-clause-exact
returns-clause-exact c =
    subst (λ l. Reads ItemsOf (left c.args.self.now) (left c.loop-alloc.self) l) (append-nil (map item_view c.loop-alloc.items))
    (finish (no_more Productions.items (λ w. map item_view c.loop-alloc.items ++ w) (λ below e. e) c.loop-alloc.invariant.read (Loops.no_item _ (sym c.begins_item.ensures ∙ c.loop-alloc-test.false))))
