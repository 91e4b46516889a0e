use Rattle.std.proofs.Common.{subst, map, arith}
use Rattle.std.proofs.lemmas.List.{take_all}
use Rattle.std.proofs.lemmas.Result.{err_from_is_err_and}
use Rattle.verilog_syntax.specs.Trees.{update_view}
use Rattle.rtl_reading.specs.Uses.{updates_uses}
use Rattle.verilog_read.specs.Walk.{AllDeclared, IsUpdated}
use Rattle.verilog_read.proofs.FirstUse.{err_is}
use Rattle.verilog_read.proofs.Seq.{get_split}
use Rattle.verilog_read.proofs.Updates.{updated_more, updated_fault}
use Rattle.verilog_read.proofs.items.add_updates.Goals as goal

pub returns-in_err-update : goal.returns-in_err-update
returns-in_err-update c = λ sc m h t.
    rw (err_is (err_from_is_err_and c.from_residual.result c.from_residual.ensures.1))
    (updated_fault sc m (get_split c.args.trees.now c.loop-tree.tree-index _ (omega arith)) _ (c.loop-tree.invariant sc m h t).known (c.in_err-update.ensures sc m h t))

pub loop-tree-preserved : goal.loop-tree-preserved
loop-tree-preserved c = λ sc m h t.
    updated_more sc m (get_split c.args.trees.now c.loop-tree.tree-index _
    (omega arith)) c.args.updates.now c.loop-tree.updates c.push.new.self
    c.in_ok-update.update (c.loop-tree.invariant sc m h t)
    (c.in_ok-update.ensures sc m h t) c.in_ok-push.ensures.ok

pub returns : goal.returns
returns c = λ sc m h t.
    let all = take_all c.loop-tree.tree-index c.args.trees.now (omega arith) in
    subst (λ l. AllDeclared (updates_uses sc (map update_view l)) (IsUpdated m (map update_view l) c.args.updates.now c.loop-tree.updates)) all (c.loop-tree.invariant sc m h t)
