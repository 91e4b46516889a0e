use Rattle.std.proofs.Common.{◌≡◌, ◌∙◌, ◌<◌, ◌≤◌, ◌^◌, arith, ap, sym, subst}
use Rattle.grammar.specs.Bytes.{digits_value, decimal_value}
use Rattle.std.proofs.lemmas.Nat.{pow_pos}
use Rattle.verilog_syntax.specs.Scanning.{literal_width, literal_value}
use Rattle.verilog_syntax.proofs.Digits.{width_is, digits_are}
use Rattle.verilog_syntax.proofs.number.literal.Goals as goal

pub returns-in-Some-eq0 : goal.returns-in-Some-eq0
returns-in-Some-eq0 c =
    let s = c.split_front-split in
    let w = ap decimal_value (width_is c.args.bytes.now s.result.front.now s.result.rest.now s.ensures.joined s.ensures.front s.ensures.rest) in
    let n = c.in-Some-eq0.ensures in
    λ h. let a = h.0.0 in omega arith

pub returns-in-None : goal.returns-in-None
returns-in-None c =
    let s = c.split_front-split in
    let w = ap decimal_value (width_is c.args.bytes.now s.result.front.now s.result.rest.now s.ensures.joined s.ensures.front s.ensures.rest) in
    let n = c.in-None.ensures in
    λ h. let a = h.0.1 in omega arith

pub new-requires-clause-fits : goal.new-requires-clause-fits
new-requires-clause-fits c =
    let n = c.in-Some-number.ensures.1 in
    let g = c.greatest.ensures in
    let p = pow_pos c.in-Some.width in
    omega arith

pub returns-in-Some-number : goal.returns-in-Some-number
returns-in-Some-number c =
    let s = c.split_front-split in
    let w = ap decimal_value (width_is c.args.bytes.now s.result.front.now s.result.rest.now s.ensures.joined s.ensures.front s.ensures.rest) in
    let v = ap (digits_value 16 0) (digits_are c.args.bytes.now s.result.front.now s.result.rest.now s.ensures.joined s.ensures.front s.ensures.rest ∙ sym c.behind_quote.ensures) in
    let n = c.in-Some.ensures in
    let m = c.in-Some-number.ensures in
    let g = c.greatest.ensures in
    let p = pow_pos c.in-Some.width in
    let width : c.in-Some.width ≡ literal_width c.args.bytes.now = cc in
    let bits : c.in-Some-number.bits ≡ literal_value c.args.bytes.now = cc in
    let fits : c.in-Some-number.bits < 2 ^ c.in-Some.width = omega arith in
    let some : 1 ≤ c.in-Some.width = omega arith in
    let most : c.in-Some.width ≤ 128 = omega arith in (
      ((subst (λ x. 1 ≤ x) width some, subst (λ x. x ≤ 128) width most), subst (λ x. x < 2 ^ literal_width c.args.bytes.now) bits (subst (λ x. c.in-Some-number.bits < 2 ^ x) width fits)),
      c.new.ensures.width ∙ width,
      c.new.ensures.bits ∙ bits,
    )

pub returns-in-None-number : goal.returns-in-None-number
returns-in-None-number c =
    let s = c.split_front-split in
    let w = ap decimal_value (width_is c.args.bytes.now s.result.front.now s.result.rest.now s.ensures.joined s.ensures.front s.ensures.rest) in
    let v = ap (digits_value 16 0) (digits_are c.args.bytes.now s.result.front.now s.result.rest.now s.ensures.joined s.ensures.front s.ensures.rest ∙ sym c.behind_quote.ensures) in
    let n = c.in-Some.ensures in
    let m = c.in-None-number.ensures in
    let g = c.greatest.ensures in
    let p = pow_pos c.in-Some.width in
    let width : literal_width c.args.bytes.now ≡ c.in-Some.width = cc in
    λ h.
    let a : literal_value c.args.bytes.now < 2 ^ c.in-Some.width = subst (λ x. literal_value c.args.bytes.now < 2 ^ x) width h.1 in
    omega arith
