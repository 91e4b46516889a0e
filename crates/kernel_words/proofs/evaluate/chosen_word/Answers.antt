use Rattle.std.proofs.Common.{◌≡◌, ◌∙◌, ℕ, ◌+◌, ◌<◌, ◌^◌, Option, Some, None, ap, sym, refl, arith}
use Rattle.std.specs.Prelude.{pos, IfSome}
use Rattle.mx_bits.specs.declared.op.Op.TheVariants.{Mux}
use Rattle.stream_graph.specs.LookUps.{operands_at, width_at, type_at}
use Rattle.kernel_types.proofs.Typing.{typed}
use Rattle.kernel_words.specs.Streams.{values_of}
use Rattle.kernel_words.proofs.Operating.{mux_some, no_selector, no_option, an_option}
use Rattle.kernel_words.proofs.Small.{option_small}
use Rattle.kernel_words.proofs.evaluate.chosen_word.Goals as goal

pub operand-requires-clause-place : goal.operand-requires-clause-place
operand-requires-clause-place c =
    mux_some Mux (type_at c.args.kernel.now.nodes) (operands_at c.args.kernel.now.nodes c.args.node) c.requires.kind.amount (type_at c.args.kernel.now.nodes c.args.node)
    ((typed c.args.kernel.now.nodes c.args.kernel.now.made).operations c.args.node Mux c.requires.kind.mode c.requires.kind.amount c.requires.node c.requires.kind.is)

pub returns-in_err-selector-clause-right : goal.returns-in_err-selector-clause-right
returns-in_err-selector-clause-right c =
    let val : ℕ → Option ℕ = λ u. values_of c.args.streams.now u (pos c.args.tick) in
    let none : c.from_residual.result ≡ None = c.from_residual.ensures in
    let some = mux_some Mux (type_at c.args.kernel.now.nodes) (operands_at c.args.kernel.now.nodes c.args.node) c.requires.kind.amount (type_at c.args.kernel.now.nodes c.args.node)
    ((typed c.args.kernel.now.nodes c.args.kernel.now.made).operations c.args.node Mux c.requires.kind.mode c.requires.kind.amount c.requires.node c.requires.kind.is) in
    none ∙ sym (no_selector val (operands_at c.args.kernel.now.nodes c.args.node) some
    (sym (c.in_err-selector.ensures ∙ ap val c.operand.ensures.is)))

pub overflow_sub-operand_count : goal.overflow_sub-operand_count
overflow_sub-operand_count c =
    let some = mux_some Mux (type_at c.args.kernel.now.nodes) (operands_at c.args.kernel.now.nodes c.args.node) c.requires.kind.amount (type_at c.args.kernel.now.nodes c.args.node)
    ((typed c.args.kernel.now.nodes c.args.kernel.now.made).operations c.args.node Mux c.requires.kind.mode c.requires.kind.amount c.requires.node c.requires.kind.is) in
    let count = c.operand_count.ensures in
    omega (arith, some, count)

pub returns-then-selector-operand_count-clause-right : goal.returns-then-selector-operand_count-clause-right
returns-then-selector-operand_count-clause-right c =
    let val : ℕ → Option ℕ = λ u. values_of c.args.streams.now u (pos c.args.tick) in
    let some = mux_some Mux (type_at c.args.kernel.now.nodes) (operands_at c.args.kernel.now.nodes c.args.node) c.requires.kind.amount (type_at c.args.kernel.now.nodes c.args.node)
    ((typed c.args.kernel.now.nodes c.args.kernel.now.made).operations c.args.node Mux c.requires.kind.mode c.requires.kind.amount c.requires.node c.requires.kind.is) in
    let count = c.operand_count.ensures in
    let test = c.if-selector-operand_count.true in
    sym (no_option val (operands_at c.args.kernel.now.nodes c.args.node) c.in_ok-selector.selector some
    (sym (c.in_ok-selector.ensures ∙ ap val c.operand.ensures.is)) (omega (arith, count, test)))

pub operand-requires-2-clause-place : goal.operand-requires-2-clause-place
operand-requires-2-clause-place c =
    let count = c.operand_count.ensures in
    let test = c.if-selector-operand_count.false in
    omega (arith, count, test)

pub returns-clause-right : goal.returns-clause-right
returns-clause-right c =
    let val : ℕ → Option ℕ = λ u. values_of c.args.streams.now u (pos c.args.tick) in
    let count = c.operand_count.ensures in
    let test = c.if-selector-operand_count.false in
    c.word-2.ensures ∙ ap val c.operand-2.ensures.is
    ∙ sym (an_option val (operands_at c.args.kernel.now.nodes c.args.node) c.in_ok-selector.selector _
    (sym (c.in_ok-selector.ensures ∙ ap val c.operand.ensures.is)) (omega (arith, count, test)) refl)

if_some : (w : Option ℕ) (m : ℕ) → ((x : ℕ) → w ≡ Some x → x < m) → IfSome w (λ x. x < m)
if_some None m h = tt
if_some (Some x) m h = h x refl

pub returns-clause-small : goal.returns-clause-small
returns-clause-small c =
    let count = c.operand_count.ensures in
    let test = c.if-selector-operand_count.false in
    let nodes = c.args.kernel.now.nodes in
    if_some _ (2 ^ width_at c.args.kernel.now.nodes c.args.node)
    (λ x e. option_small c.args.kernel.now.nodes (typed c.args.kernel.now.nodes c.args.kernel.now.made) (values_of c.args.streams.now) c.requires.words c.args.node
    c.in_ok-selector.selector (c.in_ok-selector.selector + 1) x (pos c.args.tick) c.requires.kind.mode c.requires.kind.amount c.requires.node c.requires.kind.is
    (omega (arith, count, test)) refl
    (sym (c.word-2.ensures ∙ ap (λ u. values_of c.args.streams.now u (pos c.args.tick)) c.operand-2.ensures.is) ∙ e))
