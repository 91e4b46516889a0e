use Rattle.std.proofs.Common.{◌≡◌, ◌∙◌, sym, refl}
use Rattle.std.proofs.lemmas.Result.{err_from_is_err_and}
use Rattle.verilog_syntax.specs.Trees.{left}
use Rattle.verilog_syntax.specs.declared.keyword.Piece.TheVariants.{Sign}
use Rattle.verilog_syntax.specs.declared.mark.Mark.TheVariants as marks
use Rattle.verilog_syntax.proofs.Exits.{err_is, failed_fixed, failed, then}
use Rattle.verilog_syntax.proofs.Plans.{begin, pass, finish}
use Rattle.verilog_syntax.proofs.Productions
use Rattle.verilog_syntax.proofs.Refusals
use Rattle.std.proofs.Common.{[], ◌∷◌, ◌++◌, map, ap, subst, arith}
use Rattle.std.proofs.lemmas.List.{append-nil}
use Rattle.verilog_syntax.specs.Parsing.{Reads, ConnectionsOf}
use Rattle.verilog_syntax.specs.Trees.{connection_view}
use Rattle.verilog_syntax.proofs.Exits.{no_memory}
use Rattle.verilog_syntax.proofs.Plans.{again, no_more, same}
use Rattle.verilog_syntax.proofs.Loops
use Rattle.verilog_syntax.proofs.cursor.Parser.connections.Goals as goal

pub returns-in_err-first-clause-exact : goal.returns-in_err-first-clause-exact
returns-in_err-first-clause-exact c =
    rw (err_is (err_from_is_err_and c.from_residual.result c.from_residual.ensures.1)) (failed (λ t g. g) (begin Productions.connections_plans _) c.in_err-first.ensures.exact)

pub returns-in_err-push-clause-exact : goal.returns-in_err-push-clause-exact
returns-in_err-push-clause-exact c =
    rw (err_is (err_from_is_err_and c.from_residual-in_err-push.result c.from_residual-in_err-push.ensures.1)) (no_memory refl)

pub returns-in_err-expect-clause-exact : goal.returns-in_err-expect-clause-exact
returns-in_err-expect-clause-exact c =
    rw (err_is (err_from_is_err_and c.from_residual-in_err-expect.result
    c.from_residual-in_err-expect.ensures.1)) (failed_fixed
    (again Productions.more_connections (λ w. map connection_view c.loop-self.connections
    ++ w) (λ below e. e) c.loop-self.invariant.read
    (Loops.comma_goes _ (sym c.begins.ensures ∙ c.loop-self-test.true)))
    c.in_err-expect.ensures.exact)

pub returns-in_err-next-clause-exact : goal.returns-in_err-next-clause-exact
returns-in_err-next-clause-exact c =
    rw (err_is (err_from_is_err_and c.from_residual-in_err-next.result
    c.from_residual-in_err-next.ensures.1)) (failed (λ t g. g)
    (pass (again Productions.more_connections
    (λ w. map connection_view c.loop-self.connections
    ++ w) (λ below e. e) c.loop-self.invariant.read
    (Loops.comma_goes _ (sym c.begins.ensures ∙ c.loop-self-test.true)))
    c.in_ok-expect.ensures.exact) c.in_err-next.ensures.exact)

pub returns-in_err-push-2-clause-exact : goal.returns-in_err-push-2-clause-exact
returns-in_err-push-2-clause-exact c =
    rw (err_is (err_from_is_err_and c.from_residual-in_err-push-2.result c.from_residual-in_err-push-2.ensures.1)) (no_memory refl)

pub loop-self-init : goal.loop-self-init
loop-self-init c =
    let e : c.push.new.self ≡ c.in_ok-first.first ∷ [] = c.in_ok-push.ensures.ok ∙ ap (λ l. l ++ c.in_ok-first.first ∷ []) c.new-connections.ensures in
    record {
      read = same (λ w. sym (ap (λ l. map connection_view l ++ w) e)) (then (λ t g. g) (begin Productions.connections_plans _) c.in_ok-first.ensures.exact);
      fewer = c.in_ok-first.ensures.fewer;
    }

pub loop-self-preserved : goal.loop-self-preserved
loop-self-preserved c = record {
  read = same (Loops.map_more connection_view c.loop-self.connections _ _
      c.in_ok-push-2.ensures.ok) (then (λ t g. g) (pass
      (again Productions.more_connections (λ w. map connection_view c.loop-self.connections
      ++ w) (λ below e. e) c.loop-self.invariant.read (Loops.comma_goes _
      (sym c.begins.ensures ∙ c.loop-self-test.true))) c.in_ok-expect.ensures.exact)
      c.in_ok-next.ensures.exact);
  fewer = (let a = c.in_ok-expect.ensures.fewer in let b = c.in_ok-next.ensures.fewer in let d = c.loop-self.invariant.fewer in omega arith);
}

pub returns-clause-exact : goal.returns-clause-exact
returns-clause-exact c =
    subst (λ l. Reads ConnectionsOf (left c.args.self.now) (left c.loop-self.self) l) (append-nil (map connection_view c.loop-self.connections))
    (finish (no_more Productions.more_connections
    (λ w. map connection_view c.loop-self.connections
    ++ w) (λ below e. e) c.loop-self.invariant.read
    (Refusals.no_piece (Sign marks.Comma) (sym c.begins.ensures ∙ c.loop-self-test.false))))
