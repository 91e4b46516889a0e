use Rattle.std.proofs.Common.{◌≡◌, ◌∙◌, sym, refl}
use Rattle.std.proofs.lemmas.Result.{err_from_is_err_and}
use Rattle.verilog_syntax.specs.Trees.{left}
use Rattle.verilog_syntax.proofs.Exits.{err_is, failed, then}
use Rattle.verilog_syntax.proofs.Plans.{begin, pass, finish}
use Rattle.verilog_syntax.proofs.Productions
use Rattle.std.proofs.Common.{[], ◌∷◌, ◌++◌, map, ap, subst}
use Rattle.std.proofs.lemmas.List.{append-nil}
use Rattle.verilog_syntax.specs.Parsing.{Reads, FileOf}
use Rattle.verilog_syntax.specs.Trees.{module_view}
use Rattle.verilog_syntax.proofs.Exits.{no_memory}
use Rattle.verilog_syntax.proofs.Plans.{again, no_more, same}
use Rattle.verilog_syntax.proofs.Fronts.{all_none}
use Rattle.verilog_syntax.proofs.Loops
use Rattle.verilog_syntax.proofs.cursor.Parser.file.Goals as goal

pub returns-in_err-first : goal.returns-in_err-first
returns-in_err-first c =
    rw (err_is (err_from_is_err_and c.from_residual.result c.from_residual.ensures.1)) (failed (λ t g. g) (begin Productions.file_plans _) c.in_err-first.ensures.exact)

pub returns-in_err-push : goal.returns-in_err-push
returns-in_err-push c =
    rw (err_is (err_from_is_err_and c.from_residual-in_err-push.result c.from_residual-in_err-push.ensures.1)) (no_memory refl)

pub returns-in_err-next : goal.returns-in_err-next
returns-in_err-next c =
    rw (err_is (err_from_is_err_and c.from_residual-in_err-next.result
    c.from_residual-in_err-next.ensures.1)) (failed (λ t g. g)
    (pass (again Productions.modules (λ w. map module_view c.loop-alloc.modules
    ++ w) (λ below e. e) c.loop-alloc.invariant (Loops.module_goes _
    (sym c.begins.ensures ∙ c.loop-alloc-test.true))) (all_none _)) c.in_err-next.ensures.exact)

pub returns-in_err-push-2 : goal.returns-in_err-push-2
returns-in_err-push-2 c =
    rw (err_is (err_from_is_err_and c.from_residual-in_err-push-2.result c.from_residual-in_err-push-2.ensures.1)) (no_memory refl)

pub loop-alloc-init : goal.loop-alloc-init
loop-alloc-init c =
    let e : c.push.new.self ≡ c.in_ok-first.first ∷ [] = c.in_ok-push.ensures.ok ∙ ap (λ l. l ++ c.in_ok-first.first ∷ []) c.new-modules.ensures in
    same (λ w. sym (ap (λ l. map module_view l ++ w) e)) (then (λ t g. g) (begin Productions.file_plans _) c.in_ok-first.ensures.exact)

pub loop-alloc-preserved : goal.loop-alloc-preserved
loop-alloc-preserved c = same
    (Loops.map_more module_view c.loop-alloc.modules _ _ c.in_ok-push-2.ensures.ok)
    (then (λ t g. g) (pass (again Productions.modules (λ w. map module_view c.loop-alloc.modules
    ++ w) (λ below e. e) c.loop-alloc.invariant (Loops.module_goes _
    (sym c.begins.ensures ∙ c.loop-alloc-test.true))) (all_none _)) c.in_ok-next.ensures.exact)

pub returns : goal.returns
returns c =
    subst (λ l. Reads FileOf (left c.args.self.now) (left c.loop-alloc.self) l) (append-nil (map module_view c.loop-alloc.modules))
    (finish (no_more Productions.modules (λ w. map module_view c.loop-alloc.modules ++ w) (λ below e. e) c.loop-alloc.invariant (Loops.no_module _ (sym c.begins.ensures ∙ c.loop-alloc-test.false))))
