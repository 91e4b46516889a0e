use Rattle.std.proofs.Common.{List, ℕ, ◌-◌, length, take, inl, inr, sym, subst}
use Rattle.maxj_tokens.specs.Tokens.{Token}
use Rattle.text_scan.specs.Gaps.{BeginsNoGap}
use Rattle.maxj_tokens.specs.Reading.{Takes, TakesPlain, PassesSuffix, LacksDecimal}
use Rattle.maxj_tokens.proofs.Numbers.{decimal_taken, whole_taken, suffix_taken}
use Rattle.maxj_tokens.proofs.number.number.Goals as goal

passed : (text mid rest : List ℕ) → BeginsNoGap text → LacksDecimal text → TakesPlain text mid → PassesSuffix mid rest → Takes text (Token.Whole (take (length text - length rest) text)) rest
passed text mid rest gap lacks p (inl (b, e, h)) = suffix_taken text mid rest b gap lacks p e h
passed text mid rest gap lacks p (inr (e, h)) = subst (λ l. Takes text (Token.Whole (take (length text - length l) text)) l) (sym e) (whole_taken text mid gap lacks p h)

pub returns-in-Some : goal.returns-in-Some
returns-in-Some c =
    let (w, e, h, o) = c.in-Some.ensures.some in
    subst (λ l. Takes c.args.text.now (Token.Decimal l) c.in-Some.rest.now) (sym c.before-in-Some.ensures) (decimal_taken c.args.text.now w c.in-Some.rest.now c.requires.gap e h o)

pub returns : goal.returns
returns c =
    let rest = c.after_suffix-rest.result.now in
    subst (λ l. Takes c.args.text.now (Token.Whole l) rest) (sym c.before-2.ensures)
    (passed c.args.text.now c.after_plain.result.now rest c.requires.gap
    c.in_default.ensures.none c.after_plain.ensures c.after_suffix-rest.ensures)
