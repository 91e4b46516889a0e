use Rattle.std.proofs.Common.{◌≡◌, ◌∙◌, ℕ, ◌<◌, ◌^◌, List, [], ◌∷◌, map, Option, Some, None, ap, sym, subst, arith}
use Rattle.std.specs.Prelude.{pos}
use Rattle.fix_arith.specs.declared.types.StreamType.{StreamType}
use Rattle.fix_arith.specs.Types.{width_of}
use Rattle.fix_arith.specs.Table.{applied, GivesType}
use Rattle.stream_graph.specs.LookUps.{operands_at, width_at, type_at}
use Rattle.kernel_types.proofs.Typing.{typed}
use Rattle.kernel_words.specs.Streams.{values_of}
use Rattle.kernel_words.proofs.Operating.{one_item, first_none, one_word}
use Rattle.kernel_words.proofs.evaluate.unary_word.Goals as goal

pub returns-in_err-a-clause-right : goal.returns-in_err-a-clause-right
returns-in_err-a-clause-right c =
    let nodes = c.args.kernel.now.nodes in
    let xs = operands_at c.args.kernel.now.nodes c.args.node in
    let val : ℕ → Option ℕ = λ u. values_of c.args.streams.now u (pos c.args.tick) in
    let f : List ℕ → Option ℕ = λ ws. applied c.args.op c.args.mode (map (type_at c.args.kernel.now.nodes) (operands_at c.args.kernel.now.nodes c.args.node)) ws
    c.args.amount (type_at c.args.kernel.now.nodes c.args.node) in
    let none : c.from_residual.result ≡ None = c.from_residual.ensures in
    let one = c.requires.one in
    none ∙ sym (first_none val f xs (omega (arith, one)) (sym (c.in_err-a.ensures.bits ∙ ap val c.operand-one.ensures.is)))

pub apply-requires-clause-words : goal.apply-requires-clause-words
apply-requires-clause-words c =
    ap (λ (w : ℕ). w ∷ []) (c.in_ok-a.ensures.width ∙ sym (ap width_of c.type_of-first.ensures.is))

pub apply-requires-clause-gives : goal.apply-requires-clause-gives
apply-requires-clause-gives c =
    let types : map (type_at c.args.kernel.now.nodes) (operands_at c.args.kernel.now.nodes c.args.node) ≡ c.type_of-first.result ∷ [] =
    ap (map (type_at c.args.kernel.now.nodes)) (one_item (operands_at c.args.kernel.now.nodes c.args.node) 0 c.requires.one)
    ∙ ap (λ (t : StreamType). t ∷ []) (sym (c.type_of-first.ensures.is ∙ ap (type_at c.args.kernel.now.nodes) c.operand-one.ensures.is)) in
    subst (λ ts. GivesType c.args.op ts c.args.amount c.type_of-out.result) types
    (subst (λ t. GivesType c.args.op (map (type_at c.args.kernel.now.nodes) (operands_at c.args.kernel.now.nodes c.args.node)) c.args.amount t) (sym c.type_of-out.ensures.is)
    ((typed c.args.kernel.now.nodes c.args.kernel.now.made).operations c.args.node c.args.op c.args.mode c.args.amount c.requires.node c.requires.kind))

pub returns-in_err-word-clause-right : goal.returns-in_err-word-clause-right
returns-in_err-word-clause-right c =
    let nodes = c.args.kernel.now.nodes in
    let xs = operands_at c.args.kernel.now.nodes c.args.node in
    let val : ℕ → Option ℕ = λ u. values_of c.args.streams.now u (pos c.args.tick) in
    let f : List ℕ → Option ℕ = λ ws. applied c.args.op c.args.mode (map (type_at c.args.kernel.now.nodes) (operands_at c.args.kernel.now.nodes c.args.node)) ws
    c.args.amount (type_at c.args.kernel.now.nodes c.args.node) in
    let types : map (type_at c.args.kernel.now.nodes) (operands_at c.args.kernel.now.nodes c.args.node) ≡ c.type_of-first.result ∷ [] =
    ap (map (type_at c.args.kernel.now.nodes)) (one_item (operands_at c.args.kernel.now.nodes c.args.node) 0 c.requires.one)
    ∙ ap (λ (t : StreamType). t ∷ []) (sym (c.type_of-first.ensures.is ∙ ap (type_at c.args.kernel.now.nodes) c.operand-one.ensures.is)) in
    let none : c.from_residual-in_err-word.result ≡ None = c.from_residual-in_err-word.ensures in
    none ∙ c.in_err-word.ensures.bits
    ∙ ap (λ ts. applied c.args.op c.args.mode ts (c.in_ok-a.a.bits ∷ []) c.args.amount c.type_of-out.result) (sym types)
    ∙ ap (λ t. applied c.args.op c.args.mode (map (type_at c.args.kernel.now.nodes) (operands_at c.args.kernel.now.nodes c.args.node)) (c.in_ok-a.a.bits ∷ [])
    c.args.amount t) c.type_of-out.ensures.is
    ∙ sym (one_word val f xs c.in_ok-a.a.bits c.requires.one (sym (c.in_ok-a.ensures.bits ∙ ap val c.operand-one.ensures.is)))

pub returns-clause-right : goal.returns-clause-right
returns-clause-right c =
    let nodes = c.args.kernel.now.nodes in
    let xs = operands_at c.args.kernel.now.nodes c.args.node in
    let val : ℕ → Option ℕ = λ u. values_of c.args.streams.now u (pos c.args.tick) in
    let f : List ℕ → Option ℕ = λ ws. applied c.args.op c.args.mode (map (type_at c.args.kernel.now.nodes) (operands_at c.args.kernel.now.nodes c.args.node)) ws
    c.args.amount (type_at c.args.kernel.now.nodes c.args.node) in
    let types : map (type_at c.args.kernel.now.nodes) (operands_at c.args.kernel.now.nodes c.args.node) ≡ c.type_of-first.result ∷ [] =
    ap (map (type_at c.args.kernel.now.nodes)) (one_item (operands_at c.args.kernel.now.nodes c.args.node) 0 c.requires.one)
    ∙ ap (λ (t : StreamType). t ∷ []) (sym (c.type_of-first.ensures.is ∙ ap (type_at c.args.kernel.now.nodes) c.operand-one.ensures.is)) in
    ap (λ (x : ℕ). Some x) c.bits.ensures ∙ c.in_ok-word.ensures.bits
    ∙ ap (λ ts. applied c.args.op c.args.mode ts (c.in_ok-a.a.bits ∷ []) c.args.amount c.type_of-out.result) (sym types)
    ∙ ap (λ t. applied c.args.op c.args.mode (map (type_at c.args.kernel.now.nodes) (operands_at c.args.kernel.now.nodes c.args.node)) (c.in_ok-a.a.bits ∷ [])
    c.args.amount t) c.type_of-out.ensures.is
    ∙ sym (one_word val f xs c.in_ok-a.a.bits c.requires.one (sym (c.in_ok-a.ensures.bits ∙ ap val c.operand-one.ensures.is)))

pub returns-clause-small : goal.returns-clause-small
returns-clause-small c =
    subst (λ x. x < 2 ^ width_at c.args.kernel.now.nodes c.args.node) (sym c.bits.ensures)
    (subst (λ w. c.in_ok-word.word.bits < 2 ^ w) (c.in_ok-word.ensures.width ∙ ap width_of c.type_of-out.ensures.is) c.in_ok-word.word.fits)
