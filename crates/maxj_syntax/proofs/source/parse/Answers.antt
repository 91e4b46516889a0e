use Rattle.std.proofs.Common.{refl, sym, subst, arith}
use Rattle.std.specs.Prelude.{IfErr}
use Rattle.std.proofs.lemmas.Result.{err_from_is_err_and}
use Rattle.maxj_syntax.specs.Outcomes.{FailsToRead}
use Rattle.maxj_syntax.proofs.Ends.{ends_in}
use Rattle.maxj_syntax.proofs.Sources.{scan_fails, outside_fails, excess_fails, parse_fails, project_fails, read_all}
use Rattle.maxj_syntax.proofs.source.parse.Goals as goal

pub returns-in_err-tokens-clause-err : goal.returns-in_err-tokens-clause-err
returns-in_err-tokens-clause-err c =
    let p = err_from_is_err_and c.from_residual.result c.from_residual.ensures.1 in
    subst (λ r. IfErr r (λ e. FailsToRead c.args.bytes.now e)) (sym p.1) (subst (λ e. FailsToRead c.args.bytes.now e) (sym p.2) (scan_fails c.args.bytes.now _ c.in_err-tokens.ensures.stuck))

pub returns-in-Some-clause-err : goal.returns-in-Some-clause-err
returns-in-Some-clause-err c =
    let read = c.in_ok-tokens.ensures.tokens in
    outside_fails c.args.bytes.now c.in_ok-tokens.tokens read c.in-Some.place c.in-Some.ensures.some

pub returns-in-Some-first_excess-clause-err : goal.returns-in-Some-first_excess-clause-err
returns-in-Some-first_excess-clause-err c =
    let read = c.in_ok-tokens.ensures.tokens in
    excess_fails c.args.bytes.now c.in_ok-tokens.tokens read c.in_default.ensures.none c.in-Some-first_excess.place c.in-Some-first_excess.ensures.some

pub parse_tokens-requires : goal.parse_tokens-requires
parse_tokens-requires c =
    let read = c.in_ok-tokens.ensures.tokens in
    ends_in read (omega (arith, c.requires))

pub returns-in_err-program-clause-err : goal.returns-in_err-program-clause-err
returns-in_err-program-clause-err c =
    let read = c.in_ok-tokens.ensures.tokens in
    let p = err_from_is_err_and c.from_residual-in_err-program.result c.from_residual-in_err-program.ensures.1 in
    subst (λ r. IfErr r (λ e. FailsToRead c.args.bytes.now e)) (sym p.1)
    (subst (λ e. FailsToRead c.args.bytes.now e) (sym p.2)
    (parse_fails c.args.bytes.now c.in_ok-tokens.tokens read c.in_default.ensures.none
    c.in_default-first_excess.ensures.none _ _ refl c.in_err-program.ensures.err))

pub returns-then-branch-clause-err : goal.returns-then-branch-clause-err
returns-then-branch-clause-err c =
    let read = c.in_ok-tokens.ensures.tokens in
    project_fails c.args.bytes.now c.in_ok-tokens.tokens read c.in_default.ensures.none
    c.in_default-first_excess.ensures.none c.in_ok-program.program
    c.in_ok-program.ensures.ok c.in_ok-is_no_project.field-0 c.in_ok-is_no_project.ensures
    c.if-branch.true

pub returns-clause-ok : goal.returns-clause-ok
returns-clause-ok c =
    let read = c.in_ok-tokens.ensures.tokens in
    read_all c.args.bytes.now c.in_ok-tokens.tokens read c.in_default.ensures.none
    c.in_default-first_excess.ensures.none c.in_ok-program.program
    c.in_ok-program.ensures.ok c.in_ok-is_no_project.field-0 c.in_ok-is_no_project.ensures
    c.if-branch.false
