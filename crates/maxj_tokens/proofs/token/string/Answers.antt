use Rattle.std.proofs.Common.{sym, subst}
use Rattle.maxj_tokens.specs.Tokens.{Token}
use Rattle.maxj_tokens.specs.Scanning.{BeginsNoToken}
use Rattle.maxj_tokens.specs.Reading.{Takes}
use Rattle.text_scan.proofs.ByteTests.{if_none}
use Rattle.maxj_tokens.proofs.Fronts.{string_taken, no_string_closed}
use Rattle.maxj_tokens.proofs.token.string.Goals as goal

pub returns-in_err-rest-clause-none : goal.returns-in_err-rest-clause-none
returns-in_err-rest-clause-none c =
    let s = c.split_front in
    if_none c.from_residual-in_err-rest.result (BeginsNoToken c.args.text.now)
    (no_string_closed c.args.text.now c.in_ok-inner.inner.now s.result.front.now
    s.result.rest.now c.requires.quote c.in_ok-inner.ensures.some s.ensures.joined
    s.ensures.front s.ensures.rest c.in_err-rest.ensures.none)

pub returns-clause-some : goal.returns-clause-some
returns-clause-some c =
    let s = c.split_front in
    let rest = c.in_ok-rest.rest.now in
    subst (λ l. Takes c.args.text.now (Token.Str l) rest) (sym c.before-2.ensures)
    (string_taken c.args.text.now c.in_ok-inner.inner.now s.result.front.now s.result.rest.now
    rest c.requires.gap c.in_ok-inner.ensures.some s.ensures.joined s.ensures.front
    c.in_ok-rest.ensures.some)
