use Rattle.std.proofs.Common.{refl, sym, subst}
use Rattle.std.proofs.lemmas.Result.{err_from_is_err_and}
use Rattle.verilog_read.specs.Answers.{AreTokens}
use Rattle.verilog_read.proofs.FirstUse.{err_is}
use Rattle.verilog_read.proofs.Whole.{scan_refused, scan_excluded, formed, tree_refused}
use Rattle.verilog_read.proofs.Whole.{tree_excluded, rule_refused, rule_excluded, port_refused}
use Rattle.verilog_read.proofs.Whole.{port_excluded, read_as, only_design, up_to_numbers, excluded}
use Rattle.verilog_read.proofs.read.Goals as goal

pub returns-in_err-tokens-clause-refused : goal.returns-in_err-tokens-clause-refused
returns-in_err-tokens-clause-refused c = rw (err_is (err_from_is_err_and c.from_residual.result c.from_residual.ensures.1)) (scan_refused c.in_err-tokens.ensures.err)

pub returns-in_err-tokens-clause-every : goal.returns-in_err-tokens-clause-every
returns-in_err-tokens-clause-every c = λ d r. rw (err_is (err_from_is_err_and c.from_residual.result c.from_residual.ensures.1)) (scan_excluded d r c.in_err-tokens.ensures.err)

pub returns-in_err-design-clause-refused : goal.returns-in_err-design-clause-refused
returns-in_err-design-clause-refused c =
    let tokens = c.in_ok-tokens.tokens in
    let at = c.in_ok-tokens.ensures.ok in
    rw (err_is (err_from_is_err_and c.from_residual-in_err-design.result c.from_residual-in_err-design.ensures.1))
    (tree_refused c.args.bytes.now tokens at refl c.in_err-design.ensures.err)

pub returns-in_err-design-clause-every : goal.returns-in_err-design-clause-every
returns-in_err-design-clause-every c = λ d r.
    let tokens = c.in_ok-tokens.tokens in
    let at = c.in_ok-tokens.ensures.ok in
    rw (err_is (err_from_is_err_and c.from_residual-in_err-design.result c.from_residual-in_err-design.ensures.1))
    (tree_excluded c.args.bytes.now tokens at d r c.in_err-design.ensures.err)

pub keep_rules-requires : goal.keep_rules-requires
keep_rules-requires c =
    let tokens = c.in_ok-tokens.tokens in
    let at = c.in_ok-tokens.ensures.ok in
    formed c.args.bytes.now tokens at c.in_ok-design.design c.in_ok-design.ensures.ok

pub returns-in_err-keep_rules-clause-refused : goal.returns-in_err-keep_rules-clause-refused
returns-in_err-keep_rules-clause-refused c =
    let tokens = c.in_ok-tokens.tokens in
    let at = c.in_ok-tokens.ensures.ok in
    rw (err_is (err_from_is_err_and c.from_residual-in_err-keep_rules.result c.from_residual-in_err-keep_rules.ensures.1))
    (rule_refused c.args.bytes.now tokens at c.in_ok-design.design c.in_ok-design.ensures.ok c.in_err-keep_rules.ensures.err)

pub returns-in_err-keep_rules-clause-every : goal.returns-in_err-keep_rules-clause-every
returns-in_err-keep_rules-clause-every c = λ d r.
    let tokens = c.in_ok-tokens.tokens in
    let at = c.in_ok-tokens.ensures.ok in
    rw (err_is (err_from_is_err_and c.from_residual-in_err-keep_rules.result c.from_residual-in_err-keep_rules.ensures.1))
    (rule_excluded c.args.bytes.now tokens at c.in_ok-design.design c.in_ok-design.ensures.ok d r c.in_err-keep_rules.ensures.err)

pub returns-in_err-can_run-clause-refused : goal.returns-in_err-can_run-clause-refused
returns-in_err-can_run-clause-refused c =
    let tokens = c.in_ok-tokens.tokens in
    let at = c.in_ok-tokens.ensures.ok in
    rw (err_is (err_from_is_err_and c.from_residual-in_err-can_run.result c.from_residual-in_err-can_run.ensures.1))
    (port_refused c.args.bytes.now tokens at c.in_ok-design.design c.in_ok-design.ensures.ok c.in_ok-keep_rules.ensures.ok c.in_err-can_run.ensures.err)

pub returns-in_err-can_run-clause-every : goal.returns-in_err-can_run-clause-every
returns-in_err-can_run-clause-every c = λ d r.
    let tokens = c.in_ok-tokens.tokens in
    let at = c.in_ok-tokens.ensures.ok in
    rw (err_is (err_from_is_err_and c.from_residual-in_err-can_run.result c.from_residual-in_err-can_run.ensures.1))
    (port_excluded c.args.bytes.now tokens at c.one_shape.ensures.right c.in_ok-design.design c.in_ok-design.ensures.ok d r c.in_err-can_run.ensures.err)

pub returns-clause-read : goal.returns-clause-read
returns-clause-read c =
    let tokens = c.in_ok-tokens.tokens in
    let at = c.in_ok-tokens.ensures.ok in
    read_as c.args.bytes.now tokens at c.in_ok-design.design c.in_ok-design.ensures.ok c.in_ok-keep_rules.ensures.ok c.in_ok-can_run.ensures.ok

pub returns-clause-exact : goal.returns-clause-exact
returns-clause-exact c =
    let tokens = c.in_ok-tokens.tokens in
    let at = c.in_ok-tokens.ensures.ok in
    excluded c.args.bytes.now tokens at c.one_shape.ensures.right c.in_ok-design.design c.in_ok-design.ensures.ok
    (read_as c.args.bytes.now tokens at c.in_ok-design.design c.in_ok-design.ensures.ok c.in_ok-keep_rules.ensures.ok c.in_ok-can_run.ensures.ok)

pub returns-clause-only : goal.returns-clause-only
returns-clause-only c =
    let tokens = c.in_ok-tokens.tokens in
    let at = c.in_ok-tokens.ensures.ok in
    only_design c.args.bytes.now tokens at c.in_ok-design.design c.in_ok-design.ensures.ok c.in_ok-keep_rules.ensures.ok

pub returns-clause-same : goal.returns-clause-same
returns-clause-same c =
    let tokens = c.in_ok-tokens.tokens in
    let at = c.in_ok-tokens.ensures.ok in
    up_to_numbers c.args.bytes.now tokens at c.in_ok-design.design c.in_ok-design.ensures.ok c.in_ok-keep_rules.ensures.ok
