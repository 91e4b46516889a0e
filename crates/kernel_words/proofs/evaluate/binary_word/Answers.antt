use Rattle.std.proofs.Common.{◌≡◌, ◌∙◌, ℕ, ◌<◌, ◌^◌, List, [], ◌∷◌, map, Option, Some, None, ap, sym, subst, arith}
use Rattle.std.specs.Prelude.{pos}
use Rattle.fix_arith.specs.declared.types.StreamType.{StreamType}
use Rattle.fix_arith.specs.Types.{width_of}
use Rattle.fix_arith.specs.Table.{applied, GivesType}
use Rattle.stream_graph.specs.LookUps.{operands_at, operand_at, width_at, type_at}
use Rattle.kernel_types.proofs.Typing.{typed}
use Rattle.kernel_words.specs.Streams.{values_of}
use Rattle.kernel_words.proofs.Operating.{two_items, first_none, second_none, two_words}
use Rattle.kernel_words.proofs.evaluate.binary_word.Goals as goal

pub returns-in_err-a-clause-right : goal.returns-in_err-a-clause-right
returns-in_err-a-clause-right c =
    let nodes = c.args.kernel.now.nodes in
    let xs = operands_at c.args.kernel.now.nodes c.args.node in
    let val : ℕ → Option ℕ = λ u. values_of c.args.streams.now u (pos c.args.tick) in
    let f : List ℕ → Option ℕ = λ ws. applied c.args.op c.args.mode (map (type_at c.args.kernel.now.nodes) (operands_at c.args.kernel.now.nodes c.args.node)) ws
    c.args.amount (type_at c.args.kernel.now.nodes c.args.node) in
    let none : c.from_residual.result ≡ None = c.from_residual.ensures in
    let two = c.requires.two in
    none ∙ sym (first_none val f xs (omega (arith, two)) (sym (c.in_err-a.ensures.bits ∙ ap val c.operand-one.ensures.is)))

pub returns-in_err-b-clause-right : goal.returns-in_err-b-clause-right
returns-in_err-b-clause-right c =
    let nodes = c.args.kernel.now.nodes in
    let xs = operands_at c.args.kernel.now.nodes c.args.node in
    let val : ℕ → Option ℕ = λ u. values_of c.args.streams.now u (pos c.args.tick) in
    let f : List ℕ → Option ℕ = λ ws. applied c.args.op c.args.mode (map (type_at c.args.kernel.now.nodes) (operands_at c.args.kernel.now.nodes c.args.node)) ws
    c.args.amount (type_at c.args.kernel.now.nodes c.args.node) in
    let none : c.from_residual-in_err-b.result ≡ None = c.from_residual-in_err-b.ensures in
    none ∙ sym (second_none val f xs c.in_ok-a.a.bits c.requires.two (sym (c.in_ok-a.ensures.bits ∙ ap val c.operand-one.ensures.is))
    (sym (c.in_err-b.ensures.bits ∙ ap val c.operand-other.ensures.is)))

pub apply-requires-clause-words : goal.apply-requires-clause-words
apply-requires-clause-words c =
    ap (λ (w : ℕ). w ∷ c.in_ok-b.b.width ∷ []) (c.in_ok-a.ensures.width ∙ sym (ap width_of c.type_of-first.ensures.is))
    ∙ ap (λ (w : ℕ). width_of c.type_of-first.result ∷ w ∷ []) (c.in_ok-b.ensures.width ∙ sym (ap width_of c.type_of-second.ensures.is))

pub apply-requires-clause-gives : goal.apply-requires-clause-gives
apply-requires-clause-gives c =
    let types : map (type_at c.args.kernel.now.nodes) (operands_at c.args.kernel.now.nodes c.args.node) ≡ c.type_of-first.result ∷ c.type_of-second.result ∷ [] =
    ap (map (type_at c.args.kernel.now.nodes)) (two_items (operands_at c.args.kernel.now.nodes c.args.node) 0 c.requires.two)
    ∙ ap (λ (t : StreamType). t ∷ type_at c.args.kernel.now.nodes (operand_at c.args.kernel.now.nodes c.args.node 1) ∷ []) (sym (c.type_of-first.ensures.is ∙ ap (type_at
    c.args.kernel.now.nodes) c.operand-one.ensures.is))
    ∙ ap (λ (t : StreamType). c.type_of-first.result ∷ t ∷ []) (sym (c.type_of-second.ensures.is ∙ ap (type_at c.args.kernel.now.nodes) c.operand-other.ensures.is)) in
    subst (λ ts. GivesType c.args.op ts c.args.amount c.type_of-out.result) types
    (subst (λ t. GivesType c.args.op (map (type_at c.args.kernel.now.nodes) (operands_at c.args.kernel.now.nodes c.args.node)) c.args.amount t) (sym c.type_of-out.ensures.is)
    ((typed c.args.kernel.now.nodes c.args.kernel.now.made).operations c.args.node c.args.op c.args.mode c.args.amount c.requires.node c.requires.kind))

pub returns-in_err-word-clause-right : goal.returns-in_err-word-clause-right
returns-in_err-word-clause-right c =
    let nodes = c.args.kernel.now.nodes in
    let xs = operands_at c.args.kernel.now.nodes c.args.node in
    let val : ℕ → Option ℕ = λ u. values_of c.args.streams.now u (pos c.args.tick) in
    let f : List ℕ → Option ℕ = λ ws. applied c.args.op c.args.mode (map (type_at c.args.kernel.now.nodes) (operands_at c.args.kernel.now.nodes c.args.node)) ws
    c.args.amount (type_at c.args.kernel.now.nodes c.args.node) in
    let types : map (type_at c.args.kernel.now.nodes) (operands_at c.args.kernel.now.nodes c.args.node) ≡ c.type_of-first.result ∷ c.type_of-second.result ∷ [] =
    ap (map (type_at c.args.kernel.now.nodes)) (two_items (operands_at c.args.kernel.now.nodes c.args.node) 0 c.requires.two)
    ∙ ap (λ (t : StreamType). t ∷ type_at c.args.kernel.now.nodes (operand_at c.args.kernel.now.nodes c.args.node 1) ∷ []) (sym (c.type_of-first.ensures.is ∙ ap (type_at
    c.args.kernel.now.nodes) c.operand-one.ensures.is))
    ∙ ap (λ (t : StreamType). c.type_of-first.result ∷ t ∷ []) (sym (c.type_of-second.ensures.is ∙ ap (type_at c.args.kernel.now.nodes) c.operand-other.ensures.is)) in
    let none : c.from_residual-in_err-word.result ≡ None = c.from_residual-in_err-word.ensures in
    none ∙ c.in_err-word.ensures.bits
    ∙ ap (λ ts. applied c.args.op c.args.mode ts (c.in_ok-a.a.bits ∷ c.in_ok-b.b.bits ∷ []) c.args.amount c.type_of-out.result) (sym types)
    ∙ ap (λ t. applied c.args.op c.args.mode (map (type_at c.args.kernel.now.nodes) (operands_at c.args.kernel.now.nodes c.args.node)) (c.in_ok-a.a.bits ∷
    c.in_ok-b.b.bits ∷ []) c.args.amount t) c.type_of-out.ensures.is
    ∙ sym (two_words val f xs c.in_ok-a.a.bits c.in_ok-b.b.bits c.requires.two (sym (c.in_ok-a.ensures.bits ∙ ap val c.operand-one.ensures.is)) (sym
    (c.in_ok-b.ensures.bits ∙ ap val c.operand-other.ensures.is)))

pub returns-clause-right : goal.returns-clause-right
returns-clause-right c =
    let nodes = c.args.kernel.now.nodes in
    let xs = operands_at c.args.kernel.now.nodes c.args.node in
    let val : ℕ → Option ℕ = λ u. values_of c.args.streams.now u (pos c.args.tick) in
    let f : List ℕ → Option ℕ = λ ws. applied c.args.op c.args.mode (map (type_at c.args.kernel.now.nodes) (operands_at c.args.kernel.now.nodes c.args.node)) ws
    c.args.amount (type_at c.args.kernel.now.nodes c.args.node) in
    let types : map (type_at c.args.kernel.now.nodes) (operands_at c.args.kernel.now.nodes c.args.node) ≡ c.type_of-first.result ∷ c.type_of-second.result ∷ [] =
    ap (map (type_at c.args.kernel.now.nodes)) (two_items (operands_at c.args.kernel.now.nodes c.args.node) 0 c.requires.two)
    ∙ ap (λ (t : StreamType). t ∷ type_at c.args.kernel.now.nodes (operand_at c.args.kernel.now.nodes c.args.node 1) ∷ []) (sym (c.type_of-first.ensures.is ∙ ap (type_at
    c.args.kernel.now.nodes) c.operand-one.ensures.is))
    ∙ ap (λ (t : StreamType). c.type_of-first.result ∷ t ∷ []) (sym (c.type_of-second.ensures.is ∙ ap (type_at c.args.kernel.now.nodes) c.operand-other.ensures.is)) in
    ap (λ (x : ℕ). Some x) c.bits.ensures ∙ c.in_ok-word.ensures.bits
    ∙ ap (λ ts. applied c.args.op c.args.mode ts (c.in_ok-a.a.bits ∷ c.in_ok-b.b.bits ∷ []) c.args.amount c.type_of-out.result) (sym types)
    ∙ ap (λ t. applied c.args.op c.args.mode (map (type_at c.args.kernel.now.nodes) (operands_at c.args.kernel.now.nodes c.args.node)) (c.in_ok-a.a.bits ∷
    c.in_ok-b.b.bits ∷ []) c.args.amount t) c.type_of-out.ensures.is
    ∙ sym (two_words val f xs c.in_ok-a.a.bits c.in_ok-b.b.bits c.requires.two (sym (c.in_ok-a.ensures.bits ∙ ap val c.operand-one.ensures.is)) (sym
    (c.in_ok-b.ensures.bits ∙ ap val c.operand-other.ensures.is)))

pub returns-clause-small : goal.returns-clause-small
returns-clause-small c =
    subst (λ x. x < 2 ^ width_at c.args.kernel.now.nodes c.args.node) (sym c.bits.ensures)
    (subst (λ w. c.in_ok-word.word.bits < 2 ^ w) (c.in_ok-word.ensures.width ∙ ap width_of c.type_of-out.ensures.is) c.in_ok-word.word.fits)
