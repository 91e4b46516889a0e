use Rattle.std.proofs.Common.{rules, ◌≡◌, ◌≤◌, ◌^◌, ◌∙◌, ap, sym, subst, arith, pos, ◌*ℤ◌, unsigned_abs}
use Rattle.fix_arith.specs.Literals.{IsWritable, literal_of}
use Rattle.fix_arith.specs.Rounding.{rounded}
use Rattle.fix_arith.specs.Types.{width_of}
use Rattle.fix_arith.specs.Values.{signed_of, IsValue, value_of, reduced}
use Rattle.fix_arith.specs.Integers.{exact}
use Rattle.fix_arith.proofs.Words.{size_of_is_value, read_back}
use Rattle.fix_arith.proofs.literals.literal.Goals as goal

pub returns-in_default : goal.returns-in_default
returns-in_default c =
    let n = c.args.number.now in
    let z = literal_of n c.args.mode c.args.out in
    let writable : IsWritable n c.args.out = search rules in
    let large : 2 ^ 128 ≤ unsigned_abs z = subst (λ f. 2 ^ 128 ≤ unsigned_abs
    (rounded c.args.mode (signed_of n.negative n.digits *ℤ pos (2 ^ f))
    (10 ^ n.tens))) c.frac.ensures c.in_default.ensures.none in
    (writable, λ (v : IsValue c.args.out z). let small = size_of_is_value c.args.out z c.requires v in omega arith)

pub returns-else-equals : goal.returns-else-equals
returns-else-equals c =
    let n = c.args.number.now in
    let z = literal_of n c.args.mode c.args.out in
    let writable : IsWritable n c.args.out = search rules in
    let is : exact c.in-Some.value ≡ z = c.in-Some.ensures.some ∙ ap (λ f. rounded c.args.mode (signed_of n.negative n.digits *ℤ pos (2 ^ f)) (10 ^ n.tens)) c.frac.ensures in (
      writable,
      λ (v : IsValue c.args.out z).
          let bits : c.reduced-word.result.bits ≡ reduced
          (width_of c.args.out) z = c.reduced-word.ensures.bits ∙ ap
          (λ w. reduced w (exact c.in-Some.value)) c.width.ensures ∙ ap
          (reduced (width_of c.args.out)) is in
          let same : exact c.of_word.result ≡ exact c.in-Some.value = c.of_word.ensures.value ∙ ap (value_of c.args.out) bits ∙ read_back c.args.out z v ∙ sym is in
          let yes = c.equals.ensures.1 same in
          let no = c.if-equals.false in
          cc,
    )
