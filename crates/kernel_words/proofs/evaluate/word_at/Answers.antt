use Rattle.std.proofs.Common.{◌≡◌, ◌∙◌, ℕ, ◌/◌, ◌%◌, ◌<◌, ◌≤◌, ◌^◌, Option, Some, None, refl, ap, sym, subst, arith}
use Rattle.std.specs.Prelude.{ℤ, pos, negsuc, ◌+ℤ◌, unsigned_abs, IfSome}
use Rattle.std.proofs.lemmas.Int.{to_z-of_z}
use mir.Val.{to_z, of_z, SFits}
use mir.Syntax.{w32}
use Rattle.std.proofs.lemmas.Nat.{pow_pos}
use Rattle.counter_chains.specs.Chains.{bits_below, part_at, chain_at}
use Rattle.stream_graph.specs.declared.node.Kind.TheVariants as K
use Rattle.stream_graph.specs.LookUps.{operand_at, width_at, digits_at}
use Rattle.stream_graph.proofs.NodeLemmas.{orderly}
use Rattle.stream_equations.specs.Equations.{right_side}
use Rattle.kernel_family.specs.Steps.{keeps}
use Rattle.kernel_types.specs.Types.{is_like, counts}
use Rattle.kernel_types.proofs.Typing.{typed}
use Rattle.kernel_types.proofs.Counting.{counters}
use Rattle.kernel_words.specs.Streams.{given_of, values_of}
use Rattle.kernel_words.specs.Sides.{is_part}
use Rattle.kernel_words.proofs.Parting.{parted}
use Rattle.kernel_words.proofs.Small.{alone_chain, like_small, hold_small}
use Rattle.kernel_words.proofs.evaluate.word_at.Goals as goal

small_fits : (k : ℤ) → unsigned_abs k ≤ 1048576 → SFits w32 k
small_fits (pos n) h = record { sfits = omega (arith, h) }
small_fits (negsuc n) h = record { sfits = omega (arith, h) }

if_some : (w : Option ℕ) (m : ℕ) → ((x : ℕ) → w ≡ Some x → x < m) → IfSome w (λ x. x < m)
if_some None m h = tt
if_some (Some x) m h = h x refl

of_some : (w : Option ℕ) (m y : ℕ) → w ≡ Some y → y < m → IfSome w (λ x. x < m)
of_some w m y e h = subst (λ v. IfSome v (λ x. x < m)) (sym e) h

below_mod : (x b y m : ℕ) → 0 < b → x % b ≡ y → b ≡ m → y < m
below_mod x b y m h e q = omega (arith, h, e, q)

pub input_word-requires-clause-taken : goal.input_word-requires-clause-taken
input_word-requires-clause-taken c =
    c.requires.ready.count (sym c.kind_of.ensures ∙ c.in-Input.is)

pub first_word-requires-clause-kind : goal.first_word-requires-clause-kind
first_word-requires-clause-kind c =
    ap is_like (sym c.kind_of.ensures ∙ c.in-Output.is)

pub first_word-requires-in-Feed-clause-kind : goal.first_word-requires-in-Feed-clause-kind
first_word-requires-in-Feed-clause-kind c =
    ap is_like (sym c.kind_of.ensures ∙ c.in-Feed.is)

pub operation_word-requires-clause-kind : goal.operation_word-requires-clause-kind
operation_word-requires-clause-kind c =
    (sym c.kind_of.ensures ∙ c.in-Operation.is)

pub offset_word-requires-clause-kind : goal.offset_word-requires-clause-kind
offset_word-requires-clause-kind c =
    let few = ((orderly c.args.kernel.now.nodes c.args.kernel.now.made).offsets c.args.node c.in-Offset.ticks c.requires.node (sym c.kind_of.ensures ∙ c.in-Offset.is)).2 in
    let same : to_z w32 (of_z w32 c.in-Offset.ticks) ≡ c.in-Offset.ticks = to_z-of_z w32 c.in-Offset.ticks (small_fits c.in-Offset.ticks few) in
    (sym c.kind_of.ensures ∙ c.in-Offset.is) ∙ ap (λ (k : ℤ). K.Offset k) (sym same)

pub hold_word-requires-clause-kind : goal.hold_word-requires-clause-kind
hold_word-requires-clause-kind c =
    (sym c.kind_of.ensures ∙ c.in-Hold.is)

pub hold_word-requires-clause-before : goal.hold_word-requires-clause-before
hold_word-requires-clause-before c =
    λ s e. c.requires.ready.before s e (ap keeps (sym c.kind_of.ensures ∙ c.in-Hold.is)) ∙ ap (right_side c.args.kernel.now.nodes (given_of c.args.run.now) (values_of
    c.args.streams.now) c.args.node s) (sym c.kind_of.ensures ∙ c.in-Hold.is)

pub counted_word-requires-clause-kind : goal.counted_word-requires-clause-kind
counted_word-requires-clause-kind c =
    ap counts (sym c.kind_of.ensures ∙ c.in-Counter.is)

pub counted_word-requires-clause-before : goal.counted_word-requires-clause-before
counted_word-requires-clause-before c =
    λ s e. c.requires.ready.before s e (ap keeps (sym c.kind_of.ensures ∙ c.in-Counter.is)) ∙ ap (right_side c.args.kernel.now.nodes (given_of c.args.run.now) (values_of
    c.args.streams.now) c.args.node s) (sym c.kind_of.ensures ∙ c.in-Counter.is)
    ∙ ap (λ (x : ℕ). Some x) (alone_chain (digits_at c.args.kernel.now.nodes c.args.node) s ((counters c.args.kernel.now.nodes c.args.kernel.now.made).alone c.args.node
    c.requires.node (sym c.kind_of.ensures ∙ c.in-Counter.is)))

pub counted_word-requires-in-Chain-clause-kind : goal.counted_word-requires-in-Chain-clause-kind
counted_word-requires-in-Chain-clause-kind c =
    ap counts (sym c.kind_of.ensures ∙ c.in-Chain.is)

pub counted_word-requires-in-Chain-clause-before : goal.counted_word-requires-in-Chain-clause-before
counted_word-requires-in-Chain-clause-before c =
    λ s e. c.requires.ready.before s e (ap keeps (sym c.kind_of.ensures ∙ c.in-Chain.is)) ∙ ap (right_side c.args.kernel.now.nodes (given_of c.args.run.now) (values_of
    c.args.streams.now) c.args.node s) (sym c.kind_of.ensures ∙ c.in-Chain.is)

pub part_word-requires-clause-kind : goal.part_word-requires-clause-kind
part_word-requires-clause-kind c =
    (sym c.kind_of.ensures ∙ c.in-Part.is)

pub part_word-requires-clause-chain : goal.part_word-requires-clause-chain
part_word-requires-clause-chain c =
    c.requires.ready.chain (ap is_part (sym c.kind_of.ensures ∙ c.in-Part.is))
    ∙ ap (right_side c.args.kernel.now.nodes (given_of c.args.run.now) (values_of c.args.streams.now) (operand_at c.args.kernel.now.nodes c.args.node 0) c.args.tick)
    ((counters c.args.kernel.now.nodes c.args.kernel.now.made).parts c.args.node c.in-Part.number c.requires.node (sym c.kind_of.ensures ∙ c.in-Part.is)).chain

pub returns-in-Input-clause-right : goal.returns-in-Input-clause-right
returns-in-Input-clause-right c =
    c.input_word.ensures.right ∙ sym (ap (right_side c.args.kernel.now.nodes (given_of c.args.run.now) (values_of c.args.streams.now) c.args.node c.args.tick) (sym
    c.kind_of.ensures ∙ c.in-Input.is))

pub returns-in-Output-clause-right : goal.returns-in-Output-clause-right
returns-in-Output-clause-right c =
    c.first_word.ensures ∙ sym (ap (right_side c.args.kernel.now.nodes (given_of c.args.run.now) (values_of c.args.streams.now) c.args.node c.args.tick) (sym
    c.kind_of.ensures ∙ c.in-Output.is))

pub returns-in-Output-clause-small : goal.returns-in-Output-clause-small
returns-in-Output-clause-small c =
    if_some _ (2 ^ width_at c.args.kernel.now.nodes c.args.node) (λ x e. like_small c.args.kernel.now.nodes (typed c.args.kernel.now.nodes c.args.kernel.now.made)
    (values_of c.args.streams.now) c.requires.words c.args.node x (pos c.args.tick) c.requires.node (ap is_like (sym c.kind_of.ensures ∙ c.in-Output.is)) (sym
    c.first_word.ensures ∙ e))

pub returns-in-Feed-clause-right : goal.returns-in-Feed-clause-right
returns-in-Feed-clause-right c =
    c.first_word-in-Feed.ensures ∙ sym (ap (right_side c.args.kernel.now.nodes (given_of c.args.run.now) (values_of c.args.streams.now) c.args.node c.args.tick) (sym
    c.kind_of.ensures ∙ c.in-Feed.is))

pub returns-in-Feed-clause-small : goal.returns-in-Feed-clause-small
returns-in-Feed-clause-small c =
    if_some _ (2 ^ width_at c.args.kernel.now.nodes c.args.node) (λ x e. like_small c.args.kernel.now.nodes (typed c.args.kernel.now.nodes c.args.kernel.now.made)
    (values_of c.args.streams.now) c.requires.words c.args.node x (pos c.args.tick) c.requires.node (ap is_like (sym c.kind_of.ensures ∙ c.in-Feed.is)) (sym
    c.first_word-in-Feed.ensures ∙ e))

pub returns-in-Scalar-clause-right : goal.returns-in-Scalar-clause-right
returns-in-Scalar-clause-right c =
    ap (λ (x : ℕ). Some x) c.scalar_word.ensures ∙ sym (ap (right_side c.args.kernel.now.nodes (given_of c.args.run.now) (values_of c.args.streams.now) c.args.node
    c.args.tick) (sym c.kind_of.ensures ∙ c.in-Scalar.is))

pub returns-in-Scalar-clause-small : goal.returns-in-Scalar-clause-small
returns-in-Scalar-clause-small c =
    subst (λ x. x < 2 ^ width_at c.args.kernel.now.nodes c.args.node) (sym c.scalar_word.ensures) (c.requires.given.scalar c.args.node c.requires.node (sym
    c.kind_of.ensures ∙ c.in-Scalar.is))

pub returns-in-Constant-clause-right : goal.returns-in-Constant-clause-right
returns-in-Constant-clause-right c =
    ap (λ (x : ℕ). Some x) c.bits.ensures ∙ sym (ap (right_side c.args.kernel.now.nodes (given_of c.args.run.now) (values_of c.args.streams.now) c.args.node c.args.tick)
    (sym c.kind_of.ensures ∙ c.in-Constant.is))

pub returns-in-Constant-clause-small : goal.returns-in-Constant-clause-small
returns-in-Constant-clause-small c =
    subst (λ x. x < 2 ^ width_at c.args.kernel.now.nodes c.args.node) (sym c.bits.ensures)
    (subst (λ w. c.in-Constant.word.bits < 2 ^ w) ((typed c.args.kernel.now.nodes c.args.kernel.now.made).constants c.args.node c.in-Constant.word c.requires.node (sym
    c.kind_of.ensures ∙ c.in-Constant.is)) c.in-Constant.word.fits)

pub returns-in-Operation-clause-right : goal.returns-in-Operation-clause-right
returns-in-Operation-clause-right c =
    c.operation_word.ensures.right ∙ sym (ap (right_side c.args.kernel.now.nodes (given_of c.args.run.now) (values_of c.args.streams.now) c.args.node c.args.tick) (sym
    c.kind_of.ensures ∙ c.in-Operation.is))

pub returns-in-Offset-clause-right : goal.returns-in-Offset-clause-right
returns-in-Offset-clause-right c =
    let few = ((orderly c.args.kernel.now.nodes c.args.kernel.now.made).offsets c.args.node c.in-Offset.ticks c.requires.node (sym c.kind_of.ensures ∙ c.in-Offset.is)).2 in
    let same : to_z w32 (of_z w32 c.in-Offset.ticks) ≡ c.in-Offset.ticks = to_z-of_z w32 c.in-Offset.ticks (small_fits c.in-Offset.ticks few) in
    (c.offset_word.ensures ∙ ap (λ (k : ℤ). values_of c.args.streams.now (operand_at c.args.kernel.now.nodes c.args.node 0) (pos c.args.tick +ℤ k)) same) ∙ sym (ap
    (right_side c.args.kernel.now.nodes (given_of c.args.run.now) (values_of c.args.streams.now) c.args.node c.args.tick) (sym c.kind_of.ensures ∙ c.in-Offset.is))

pub returns-in-Offset-clause-small : goal.returns-in-Offset-clause-small
returns-in-Offset-clause-small c =
    if_some _ (2 ^ width_at c.args.kernel.now.nodes c.args.node) (λ x e. like_small c.args.kernel.now.nodes (typed c.args.kernel.now.nodes c.args.kernel.now.made)
    (values_of c.args.streams.now) c.requires.words c.args.node x _ c.requires.node (ap is_like (sym c.kind_of.ensures ∙ c.in-Offset.is)) (sym c.offset_word.ensures ∙ e))

pub returns-in-Hold-clause-right : goal.returns-in-Hold-clause-right
returns-in-Hold-clause-right c =
    c.hold_word.ensures ∙ sym (ap (right_side c.args.kernel.now.nodes (given_of c.args.run.now) (values_of c.args.streams.now) c.args.node c.args.tick) (sym
    c.kind_of.ensures ∙ c.in-Hold.is))

pub returns-in-Hold-clause-small : goal.returns-in-Hold-clause-small
returns-in-Hold-clause-small c =
    if_some _ (2 ^ width_at c.args.kernel.now.nodes c.args.node) (λ x e. hold_small c.args.kernel.now.nodes (typed c.args.kernel.now.nodes c.args.kernel.now.made)
    (values_of c.args.streams.now) c.requires.words c.args.node c.args.tick x c.requires.node (ap is_like (sym c.kind_of.ensures ∙ c.in-Hold.is)) (sym c.hold_word.ensures ∙ e))

pub returns-in-Counter-clause-right : goal.returns-in-Counter-clause-right
returns-in-Counter-clause-right c =
    c.counted_word.ensures ∙ ap (λ (x : ℕ). Some x) (sym (alone_chain (digits_at c.args.kernel.now.nodes c.args.node) c.args.tick ((counters c.args.kernel.now.nodes
    c.args.kernel.now.made).alone c.args.node c.requires.node (sym c.kind_of.ensures ∙ c.in-Counter.is)))) ∙ sym (ap (right_side c.args.kernel.now.nodes (given_of
    c.args.run.now) (values_of c.args.streams.now) c.args.node c.args.tick) (sym c.kind_of.ensures ∙ c.in-Counter.is))

pub returns-in-Chain-clause-right : goal.returns-in-Chain-clause-right
returns-in-Chain-clause-right c =
    c.counted_word-in-Chain.ensures ∙ sym (ap (right_side c.args.kernel.now.nodes (given_of c.args.run.now) (values_of c.args.streams.now) c.args.node c.args.tick) (sym
    c.kind_of.ensures ∙ c.in-Chain.is))

pub returns-in-Counter-clause-small : goal.returns-in-Counter-clause-small
returns-in-Counter-clause-small c =
    let counting = (counters c.args.kernel.now.nodes c.args.kernel.now.made).counting c.args.node c.requires.node (ap counts (sym c.kind_of.ensures ∙ c.in-Counter.is)) in
    of_some _ (2 ^ width_at c.args.kernel.now.nodes c.args.node) (chain_at (digits_at c.args.kernel.now.nodes c.args.node) c.args.tick) c.counted_word.ensures
    (subst (λ w. chain_at (digits_at c.args.kernel.now.nodes c.args.node) c.args.tick < 2 ^ w) (sym counting.bits) (c.chains_by_ticks.ensures.fits (digits_at
    c.args.kernel.now.nodes c.args.node) c.args.tick counting.digits))

pub returns-in-Chain-clause-small : goal.returns-in-Chain-clause-small
returns-in-Chain-clause-small c =
    let counting = (counters c.args.kernel.now.nodes c.args.kernel.now.made).counting c.args.node c.requires.node (ap counts (sym c.kind_of.ensures ∙ c.in-Chain.is)) in
    of_some _ (2 ^ width_at c.args.kernel.now.nodes c.args.node) (chain_at (digits_at c.args.kernel.now.nodes c.args.node) c.args.tick) c.counted_word-in-Chain.ensures
    (subst (λ w. chain_at (digits_at c.args.kernel.now.nodes c.args.node) c.args.tick < 2 ^ w) (sym counting.bits) (c.chains_by_ticks.ensures.fits (digits_at
    c.args.kernel.now.nodes c.args.node) c.args.tick counting.digits))

pub returns-in-Part-clause-right : goal.returns-in-Part-clause-right
returns-in-Part-clause-right c =
    c.part_word.ensures ∙ sym (ap (right_side c.args.kernel.now.nodes (given_of c.args.run.now) (values_of c.args.streams.now) c.args.node c.args.tick) (sym
    c.kind_of.ensures ∙ c.in-Part.is))

pub returns-in-Part-clause-small : goal.returns-in-Part-clause-small
returns-in-Part-clause-small c =
    let p = parted c.args.kernel.now.nodes c.args.node c.in-Part.number (typed c.args.kernel.now.nodes c.args.kernel.now.made) (counters c.args.kernel.now.nodes
    c.args.kernel.now.made) c.requires.node (sym c.kind_of.ensures ∙ c.in-Part.is) in
    let ds = digits_at c.args.kernel.now.nodes (operand_at c.args.kernel.now.nodes c.args.node 0) in
    of_some _ (2 ^ width_at c.args.kernel.now.nodes c.args.node) (part_at ds c.in-Part.number c.args.tick) c.part_word.ensures
    (below_mod (chain_at ds c.args.tick / 2 ^ bits_below ds c.in-Part.number) (2 ^ p.part.digit.bits) (part_at ds c.in-Part.number c.args.tick) (2 ^ width_at
    c.args.kernel.now.nodes c.args.node) (pow_pos p.part.digit.bits)
    (c.chains_by_ticks.ensures.parts ds c.in-Part.number c.args.tick p.part.digit p.digits p.part.at) (ap (λ w. 2 ^ w) (sym p.part.bits)))
