use Rattle.std.proofs.Common.{◌≡◌, ◌<◌, ◌^◌, ◌∙◌, ◌≤◌, ap, sym, subst, refl, arith, IfSome, IsTrue}
use Rattle.fix_arith.specs.declared.types.StreamType.TheVariants.{UInt}
use Rattle.fix_arith.specs.Types.{width_of}
use Rattle.fix_arith.specs.Typing.{first, is_fix}
use Rattle.fix_arith.specs.Table.{GivesType, bits_of}
use Rattle.fix_arith.proofs.Operands.{option_width, first_type, first_is, second_is, two_within, first_width, second_width}
use Rattle.fix_arith.proofs.Comparisons.{compares_two, compared}
use Rattle.fix_arith.proofs.Residues.{sum_bits, difference_bits, negation_bits}
use Rattle.fix_arith.proofs.table.apply.Goals as goal

pub returns-in-Mux-clause-width : goal.returns-in-Mux-clause-width
returns-in-Mux-clause-width c =
    let gives = subst (λ op. GivesType op c.args.types.now c.args.amount c.args.out) c.in-Mux.is c.requires.gives in
    subst (λ r. IfSome r (λ w. w.width ≡ width_of c.args.out)) (sym c.chosen.ensures) (option_width c.args.args.now c.args.types.now c.args.out _ c.requires.words gives.1.one_type gives.1.result)

pub returns-in-Neg-clause-bits : goal.returns-in-Neg-clause-bits
returns-in-Neg-clause-bits c =
    let gives = subst (λ op. GivesType op c.args.types.now c.args.amount c.args.out) c.in-Neg.is c.requires.gives in
    let a = c.index-args-0.result in
    let at = first_is c.args.args.now c.args.types.now a c.requires.words (omega (arith, gives.0)) c.index-args-0.is in
    let e = negation_bits (first c.args.types.now) a.bits a.width c.sub.result.bits at.1 a.fits (cc c.sub.ensures.bits) in
    rw c.in-Neg.is (cc)

pub returns-in-Add-clause-bits : goal.returns-in-Add-clause-bits
returns-in-Add-clause-bits c =
    let gives = subst (λ op. GivesType op c.args.types.now c.args.amount c.args.out) c.in-Add.is c.requires.gives in
    let a = c.index-args-0.result in
    let b = c.index-args-1.result in
    let at = first_is c.args.args.now c.args.types.now a c.requires.words (omega (arith, gives.0)) c.index-args-0.is in
    let bt = second_is c.args.args.now c.args.types.now b c.requires.words gives.1.one_type (omega (arith, gives.0)) c.index-args-1.is in
    let e = sum_bits (first c.args.types.now) a.bits b.bits a.width c.add.result.bits at.1 c.add.ensures.bits in
    rw c.in-Add.is (cc)

pub returns-in-Sub-clause-bits : goal.returns-in-Sub-clause-bits
returns-in-Sub-clause-bits c =
    let gives = subst (λ op. GivesType op c.args.types.now c.args.amount c.args.out) c.in-Sub.is c.requires.gives in
    let a = c.index-args-0.result in
    let b = c.index-args-1-in-Sub.result in
    let at = first_is c.args.args.now c.args.types.now a c.requires.words (omega (arith, gives.0)) c.index-args-0.is in
    let bt = second_is c.args.args.now c.args.types.now b c.requires.words gives.1.one_type (omega (arith, gives.0)) c.index-args-1-in-Sub.is in
    let fits : b.bits < 2 ^ a.width = subst (λ w. b.bits < 2 ^ w) (bt.1 ∙ sym at.1) b.fits in
    let e = difference_bits (first c.args.types.now) a.bits b.bits a.width c.sub-in-Sub.result.bits at.1 fits c.sub-in-Sub.ensures.bits in
    rw c.in-Sub.is (cc)

pub bounds-args-1 : goal.bounds-args-1
bounds-args-1 c =
    let gives = subst (λ op. GivesType op c.args.types.now c.args.amount c.args.out) c.in-Add.is c.requires.gives in
    two_within c.args.args.now c.args.types.now c.requires.words gives.0

pub bounds-args-1-in-Sub : goal.bounds-args-1-in-Sub
bounds-args-1-in-Sub c =
    let gives = subst (λ op. GivesType op c.args.types.now c.args.amount c.args.out) c.in-Sub.is c.requires.gives in
    two_within c.args.args.now c.args.types.now c.requires.words gives.0

pub bounds-args-1-in-Mul : goal.bounds-args-1-in-Mul
bounds-args-1-in-Mul c =
    let gives = subst (λ op. GivesType op c.args.types.now c.args.amount c.args.out) c.in-Mul.is c.requires.gives in
    two_within c.args.args.now c.args.types.now c.requires.words gives.0

pub bounds-args-1-in-Div : goal.bounds-args-1-in-Div
bounds-args-1-in-Div c =
    let gives = subst (λ op. GivesType op c.args.types.now c.args.amount c.args.out) c.in-Div.is c.requires.gives in
    two_within c.args.args.now c.args.types.now c.requires.words gives.0

pub bounds-args-1-in-And : goal.bounds-args-1-in-And
bounds-args-1-in-And c =
    let gives = subst (λ op. GivesType op c.args.types.now c.args.amount c.args.out) c.in-And.is c.requires.gives in
    two_within c.args.args.now c.args.types.now c.requires.words gives.0

pub bounds-args-1-in-Or : goal.bounds-args-1-in-Or
bounds-args-1-in-Or c =
    let gives = subst (λ op. GivesType op c.args.types.now c.args.amount c.args.out) c.in-Or.is c.requires.gives in
    two_within c.args.args.now c.args.types.now c.requires.words gives.0

pub bounds-args-1-in-Xor : goal.bounds-args-1-in-Xor
bounds-args-1-in-Xor c =
    let gives = subst (λ op. GivesType op c.args.types.now c.args.amount c.args.out) c.in-Xor.is c.requires.gives in
    two_within c.args.args.now c.args.types.now c.requires.words gives.0

pub bounds-args-1-in-Eq : goal.bounds-args-1-in-Eq
bounds-args-1-in-Eq c =
    let two = compares_two c.args.op c.args.types.now c.args.amount c.args.out c.in-Eq.is c.requires.gives in
    two_within c.args.args.now c.args.types.now c.requires.words two.0

pub product-requires-clause-word_type : goal.product-requires-clause-word_type
product-requires-clause-word_type c =
    let gives = subst (λ op. GivesType op c.args.types.now c.args.amount c.args.out) c.in-Mul.is c.requires.gives in
    c.requires.types 0 (UInt 0) (omega (arith, gives.0))

pub product-requires-clause-first : goal.product-requires-clause-first
product-requires-clause-first c =
    let gives = subst (λ op. GivesType op c.args.types.now c.args.amount c.args.out) c.in-Mul.is c.requires.gives in
    first_width c.args.args.now c.args.types.now c.index-args-0.result c.requires.words (omega (arith, gives.0)) c.index-args-0.is

pub product-requires-clause-second : goal.product-requires-clause-second
product-requires-clause-second c =
    let gives = subst (λ op. GivesType op c.args.types.now c.args.amount c.args.out) c.in-Mul.is c.requires.gives in
    second_width c.args.args.now c.args.types.now c.index-args-1-in-Mul.result c.requires.words gives.1.one_type gives.0 c.index-args-1-in-Mul.is

pub quotient-requires-clause-word_type : goal.quotient-requires-clause-word_type
quotient-requires-clause-word_type c =
    let gives = subst (λ op. GivesType op c.args.types.now c.args.amount c.args.out) c.in-Div.is c.requires.gives in
    c.requires.types 0 (UInt 0) (omega (arith, gives.0))

pub quotient-requires-clause-first : goal.quotient-requires-clause-first
quotient-requires-clause-first c =
    let gives = subst (λ op. GivesType op c.args.types.now c.args.amount c.args.out) c.in-Div.is c.requires.gives in
    first_width c.args.args.now c.args.types.now c.index-args-0.result c.requires.words (omega (arith, gives.0)) c.index-args-0.is

pub quotient-requires-clause-second : goal.quotient-requires-clause-second
quotient-requires-clause-second c =
    let gives = subst (λ op. GivesType op c.args.types.now c.args.amount c.args.out) c.in-Div.is c.requires.gives in
    second_width c.args.args.now c.args.types.now c.index-args-1-in-Div.result c.requires.words gives.1.one_type gives.0 c.index-args-1-in-Div.is

pub order-requires-clause-word_type : goal.order-requires-clause-word_type
order-requires-clause-word_type c =
    let two = compares_two c.args.op c.args.types.now c.args.amount c.args.out c.in-Eq.is c.requires.gives in
    c.requires.types 0 (UInt 0) (omega (arith, two.0))

pub order-requires-clause-first : goal.order-requires-clause-first
order-requires-clause-first c =
    let two = compares_two c.args.op c.args.types.now c.args.amount c.args.out c.in-Eq.is c.requires.gives in
    first_width c.args.args.now c.args.types.now c.index-args-0.result c.requires.words (omega (arith, two.0)) c.index-args-0.is

pub order-requires-clause-second : goal.order-requires-clause-second
order-requires-clause-second c =
    let two = compares_two c.args.op c.args.types.now c.args.amount c.args.out c.in-Eq.is c.requires.gives in
    second_width c.args.args.now c.args.types.now c.index-args-1-in-Eq.result c.requires.words two.1.0 two.0 c.index-args-1-in-Eq.is

pub product-requires-clause-narrow : goal.product-requires-clause-narrow
product-requires-clause-narrow c =
    let gives = subst (λ op. GivesType op c.args.types.now c.args.amount c.args.out) c.in-Mul.is c.requires.gives in
    subst (λ t. IsTrue (is_fix t) → width_of t ≤ 64) (sym (first_type c.args.types.now (omega (arith, gives.0)))) (gives.1.narrow refl)

pub returns-in-Eq-clause-bits : goal.returns-in-Eq-clause-bits
returns-in-Eq-clause-bits c =
    let two = compares_two c.args.op c.args.types.now c.args.amount c.args.out c.in-Eq.is c.requires.gives in
    let a = c.index-args-0.result in
    let b = c.index-args-1-in-Eq.result in
    let at = first_is c.args.args.now c.args.types.now a c.requires.words (omega (arith, two.0)) c.index-args-0.is in
    let bt = second_is c.args.args.now c.args.types.now b c.requires.words two.1.0 (omega (arith, two.0)) c.index-args-1-in-Eq.is in
    compared c.args.op c.args.mode c.args.types.now (bits_of c.args.args.now) c.args.amount c.args.out c.in-Eq.is _ a.bits b.bits
    c.bit.result.bits c.order.result c.holds.result (first_type c.args.types.now (omega (arith, two.0))) at.0 bt.0
    c.order.ensures c.holds.ensures c.bit.ensures.bits

pub returns-in-Eq-clause-width : goal.returns-in-Eq-clause-width
returns-in-Eq-clause-width c =
    let two = compares_two c.args.op c.args.types.now c.args.amount c.args.out c.in-Eq.is c.requires.gives in
    c.bit.ensures.width ∙ sym (ap width_of two.1.1)

pub returns-in-Not-clause-width : goal.returns-in-Not-clause-width
returns-in-Not-clause-width c =
    let gives = subst (λ op. GivesType op c.args.types.now c.args.amount c.args.out) c.in-Not.is c.requires.gives in
    let at = first_is c.args.args.now c.args.types.now c.index-args-0.result c.requires.words (omega (arith, gives.0)) c.index-args-0.is in
    c.not.ensures.width ∙ at.1 ∙ sym (ap width_of gives.1.result)

pub returns-in-Add-clause-width : goal.returns-in-Add-clause-width
returns-in-Add-clause-width c =
    let gives = subst (λ op. GivesType op c.args.types.now c.args.amount c.args.out) c.in-Add.is c.requires.gives in
    let at = first_is c.args.args.now c.args.types.now c.index-args-0.result c.requires.words (omega (arith, gives.0)) c.index-args-0.is in
    c.add.ensures.width ∙ at.1 ∙ sym (ap width_of gives.1.result)

pub returns-in-Sub-clause-width : goal.returns-in-Sub-clause-width
returns-in-Sub-clause-width c =
    let gives = subst (λ op. GivesType op c.args.types.now c.args.amount c.args.out) c.in-Sub.is c.requires.gives in
    let at = first_is c.args.args.now c.args.types.now c.index-args-0.result c.requires.words (omega (arith, gives.0)) c.index-args-0.is in
    c.sub-in-Sub.ensures.width ∙ at.1 ∙ sym (ap width_of gives.1.result)

pub returns-in-And-clause-width : goal.returns-in-And-clause-width
returns-in-And-clause-width c =
    let gives = subst (λ op. GivesType op c.args.types.now c.args.amount c.args.out) c.in-And.is c.requires.gives in
    let at = first_is c.args.args.now c.args.types.now c.index-args-0.result c.requires.words (omega (arith, gives.0)) c.index-args-0.is in
    c.and.ensures.width ∙ at.1 ∙ sym (ap width_of gives.1.result)

pub returns-in-Or-clause-width : goal.returns-in-Or-clause-width
returns-in-Or-clause-width c =
    let gives = subst (λ op. GivesType op c.args.types.now c.args.amount c.args.out) c.in-Or.is c.requires.gives in
    let at = first_is c.args.args.now c.args.types.now c.index-args-0.result c.requires.words (omega (arith, gives.0)) c.index-args-0.is in
    c.or.ensures.width ∙ at.1 ∙ sym (ap width_of gives.1.result)

pub returns-in-Xor-clause-width : goal.returns-in-Xor-clause-width
returns-in-Xor-clause-width c =
    let gives = subst (λ op. GivesType op c.args.types.now c.args.amount c.args.out) c.in-Xor.is c.requires.gives in
    let at = first_is c.args.args.now c.args.types.now c.index-args-0.result c.requires.words (omega (arith, gives.0)) c.index-args-0.is in
    c.xor.ensures.width ∙ at.1 ∙ sym (ap width_of gives.1.result)

pub add-requires : goal.add-requires
add-requires c =
    let gives = subst (λ op. GivesType op c.args.types.now c.args.amount c.args.out) c.in-Add.is c.requires.gives in
    first_width c.args.args.now c.args.types.now c.index-args-0.result c.requires.words (omega (arith, gives.0)) c.index-args-0.is
    ∙ sym (second_width c.args.args.now c.args.types.now c.index-args-1.result c.requires.words gives.1.one_type gives.0 c.index-args-1.is)

pub sub-requires-in-Sub : goal.sub-requires-in-Sub
sub-requires-in-Sub c =
    let gives = subst (λ op. GivesType op c.args.types.now c.args.amount c.args.out) c.in-Sub.is c.requires.gives in
    first_width c.args.args.now c.args.types.now c.index-args-0.result c.requires.words (omega (arith, gives.0)) c.index-args-0.is
    ∙ sym (second_width c.args.args.now c.args.types.now c.index-args-1-in-Sub.result c.requires.words gives.1.one_type gives.0 c.index-args-1-in-Sub.is)

pub and-requires : goal.and-requires
and-requires c =
    let gives = subst (λ op. GivesType op c.args.types.now c.args.amount c.args.out) c.in-And.is c.requires.gives in
    first_width c.args.args.now c.args.types.now c.index-args-0.result c.requires.words (omega (arith, gives.0)) c.index-args-0.is
    ∙ sym (second_width c.args.args.now c.args.types.now c.index-args-1-in-And.result c.requires.words gives.1.one_type gives.0 c.index-args-1-in-And.is)

pub or-requires : goal.or-requires
or-requires c =
    let gives = subst (λ op. GivesType op c.args.types.now c.args.amount c.args.out) c.in-Or.is c.requires.gives in
    first_width c.args.args.now c.args.types.now c.index-args-0.result c.requires.words (omega (arith, gives.0)) c.index-args-0.is
    ∙ sym (second_width c.args.args.now c.args.types.now c.index-args-1-in-Or.result c.requires.words gives.1.one_type gives.0 c.index-args-1-in-Or.is)

pub xor-requires : goal.xor-requires
xor-requires c =
    let gives = subst (λ op. GivesType op c.args.types.now c.args.amount c.args.out) c.in-Xor.is c.requires.gives in
    first_width c.args.args.now c.args.types.now c.index-args-0.result c.requires.words (omega (arith, gives.0)) c.index-args-0.is
    ∙ sym (second_width c.args.args.now c.args.types.now c.index-args-1-in-Xor.result c.requires.words gives.1.one_type gives.0 c.index-args-1-in-Xor.is)

pub returns-in-And-clause-bits : goal.returns-in-And-clause-bits
returns-in-And-clause-bits c =
    let gives = subst (λ op. GivesType op c.args.types.now c.args.amount c.args.out) c.in-And.is c.requires.gives in
    let at = first_is c.args.args.now c.args.types.now c.index-args-0.result c.requires.words (omega (arith, gives.0)) c.index-args-0.is in
    let bt = second_is c.args.args.now c.args.types.now c.index-args-1-in-And.result c.requires.words gives.1.one_type (omega (arith, gives.0)) c.index-args-1-in-And.is in
    let e = c.and.ensures.bits in
    rw c.in-And.is (cc)

pub returns-in-Or-clause-bits : goal.returns-in-Or-clause-bits
returns-in-Or-clause-bits c =
    let gives = subst (λ op. GivesType op c.args.types.now c.args.amount c.args.out) c.in-Or.is c.requires.gives in
    let at = first_is c.args.args.now c.args.types.now c.index-args-0.result c.requires.words (omega (arith, gives.0)) c.index-args-0.is in
    let bt = second_is c.args.args.now c.args.types.now c.index-args-1-in-Or.result c.requires.words gives.1.one_type (omega (arith, gives.0)) c.index-args-1-in-Or.is in
    let e = c.or.ensures.bits in
    rw c.in-Or.is (cc)

pub returns-in-Xor-clause-bits : goal.returns-in-Xor-clause-bits
returns-in-Xor-clause-bits c =
    let gives = subst (λ op. GivesType op c.args.types.now c.args.amount c.args.out) c.in-Xor.is c.requires.gives in
    let at = first_is c.args.args.now c.args.types.now c.index-args-0.result c.requires.words (omega (arith, gives.0)) c.index-args-0.is in
    let bt = second_is c.args.args.now c.args.types.now c.index-args-1-in-Xor.result c.requires.words gives.1.one_type (omega (arith, gives.0)) c.index-args-1-in-Xor.is in
    let e = c.xor.ensures.bits in
    rw c.in-Xor.is (cc)
