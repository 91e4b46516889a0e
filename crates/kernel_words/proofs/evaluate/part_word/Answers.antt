use Rattle.std.proofs.Common.{◌≡◌, ◌∙◌, ℕ, ◌+◌, ◌-◌, ◌/◌, ◌%◌, ◌<◌, ◌≤◌, ◌^◌, length, Some, None, ap, sym, subst, arith}
use Rattle.std.specs.Prelude.{pos}
use Rattle.counter_chains.specs.Chains.{bits_of, bits_below, chain_at}
use Rattle.stream_graph.specs.LookUps.{operand_at, width_at, digits_at}
use Rattle.kernel_types.proofs.Typing.{typed}
use Rattle.kernel_types.proofs.Counting.{counters}
use Rattle.kernel_words.specs.Streams.{values_of}
use Rattle.kernel_words.proofs.Parting.{parted}
use Rattle.kernel_words.proofs.evaluate.part_word.Goals as goal

some_same : (x y : ℕ) → Some x ≡ Some y → x ≡ y
some_same x y e = cc

not_none : (x : ℕ) → None ≡ Some x → ⊥
not_none x e = cc

pub operand-chain-requires-clause-place : goal.operand-chain-requires-clause-place
operand-chain-requires-clause-place c =
    let p = parted c.args.kernel.now.nodes c.args.node c.args.number (typed c.args.kernel.now.nodes c.args.kernel.now.made) (counters c.args.kernel.now.nodes
    c.args.kernel.now.made) c.requires.node c.requires.kind in
    let one = p.part.one in
    omega (arith, one)

pub returns-in_err-bits : goal.returns-in_err-bits
returns-in_err-bits c =
    absurd (not_none _ (c.in_err-bits.ensures ∙ ap (λ u. values_of c.args.streams.now u (pos c.args.tick)) c.operand-chain.ensures.is ∙ c.requires.chain))

pub bits_below-low-requires-clause-place : goal.bits_below-low-requires-clause-place
bits_below-low-requires-clause-place c =
    let p = parted c.args.kernel.now.nodes c.args.node c.args.number (typed c.args.kernel.now.nodes c.args.kernel.now.made) (counters c.args.kernel.now.nodes
    c.args.kernel.now.made) c.requires.node c.requires.kind in
    subst (λ ds. c.args.number < length ds) (sym (c.digits_of.ensures ∙ ap (digits_at c.args.kernel.now.nodes) c.operand-chain.ensures.is)) p.within

pub bits_below-low-requires-clause-few : goal.bits_below-low-requires-clause-few
bits_below-low-requires-clause-few c =
    let p = parted c.args.kernel.now.nodes c.args.node c.args.number (typed c.args.kernel.now.nodes c.args.kernel.now.made) (counters c.args.kernel.now.nodes
    c.args.kernel.now.made) c.requires.node c.requires.kind in
    subst (λ ds. bits_of ds ≤ 128) (sym (c.digits_of.ensures ∙ ap (digits_at c.args.kernel.now.nodes) c.operand-chain.ensures.is)) p.few

pub overflow_add-high : goal.overflow_add-high
overflow_add-high c =
    let p = parted c.args.kernel.now.nodes c.args.node c.args.number (typed c.args.kernel.now.nodes c.args.kernel.now.made) (counters c.args.kernel.now.nodes
    c.args.kernel.now.made) c.requires.node c.requires.kind in
    let low = c.bits_below-low.ensures ∙ ap (λ ds. bits_below ds c.args.number) (c.digits_of.ensures ∙ ap (digits_at c.args.kernel.now.nodes) c.operand-chain.ensures.is) in
    let fits = p.fits in
    let few = p.few in
    let width = c.width_of.ensures.is in
    omega (arith, low, fits, few, width)

pub new-requires-clause-fits : goal.new-requires-clause-fits
new-requires-clause-fits c =
    let p = parted c.args.kernel.now.nodes c.args.node c.args.number (typed c.args.kernel.now.nodes c.args.kernel.now.made) (counters c.args.kernel.now.nodes
    c.args.kernel.now.made) c.requires.node c.requires.kind in
    let nodes = c.args.kernel.now.nodes in
    let ds = digits_at c.args.kernel.now.nodes (operand_at c.args.kernel.now.nodes c.args.node 0) in
    let bits : c.in_ok-bits.bits ≡ chain_at ds c.args.tick =
    some_same _ _ (c.in_ok-bits.ensures ∙ ap (λ u. values_of c.args.streams.now u (pos c.args.tick)) c.operand-chain.ensures.is ∙ c.requires.chain) in
    let width : bits_of ds ≡ c.width_of-2.result =
    sym (c.width_of-2.ensures.is ∙ ap (width_at c.args.kernel.now.nodes) c.operand-chain.ensures.is ∙ p.wide) in
    subst (λ w. c.in_ok-bits.bits < 2 ^ w) width
    (subst (λ x. x < 2 ^ bits_of ds) (sym bits) (c.chains_by_ticks.ensures.fits ds c.args.tick p.digits))

pub part-requires-clause-within : goal.part-requires-clause-within
part-requires-clause-within c =
    let p = parted c.args.kernel.now.nodes c.args.node c.args.number (typed c.args.kernel.now.nodes c.args.kernel.now.made) (counters c.args.kernel.now.nodes
    c.args.kernel.now.made) c.requires.node c.requires.kind in
    let low = c.bits_below-low.ensures ∙ ap (λ ds. bits_below ds c.args.number) (c.digits_of.ensures ∙ ap (digits_at c.args.kernel.now.nodes) c.operand-chain.ensures.is) in
    let fits = p.fits in
    let width = c.width_of.ensures.is in
    let some = c.width_of.ensures.some in
    let wide = c.new.ensures.width ∙ c.width_of-2.ensures.is ∙ ap (width_at c.args.kernel.now.nodes) c.operand-chain.ensures.is ∙ p.wide in
    omega (arith, low, fits, width, some, wide)

pub returns : goal.returns
returns c =
    let p = parted c.args.kernel.now.nodes c.args.node c.args.number (typed c.args.kernel.now.nodes c.args.kernel.now.made) (counters c.args.kernel.now.nodes
    c.args.kernel.now.made) c.requires.node c.requires.kind in
    let ds = digits_at c.args.kernel.now.nodes (operand_at c.args.kernel.now.nodes c.args.node 0) in
    let bits : c.in_ok-bits.bits ≡ chain_at ds c.args.tick =
    some_same _ _ (c.in_ok-bits.ensures ∙ ap (λ u. values_of c.args.streams.now u (pos c.args.tick)) c.operand-chain.ensures.is ∙ c.requires.chain) in
    let low : c.bits_below-low.result ≡ bits_below ds c.args.number =
    c.bits_below-low.ensures ∙ ap (λ ds. bits_below ds c.args.number) (c.digits_of.ensures ∙ ap (digits_at c.args.kernel.now.nodes) c.operand-chain.ensures.is) in
    let some = c.width_of.ensures.some in
    let same : c.width_of.result ≡ p.part.digit.bits = c.width_of.ensures.is ∙ p.part.bits in
    let size : c.bits_below-low.result + (c.width_of.result - 1) - c.bits_below-low.result + 1 ≡ p.part.digit.bits = omega (arith, some, same) in
    ap (λ (x : ℕ). Some x)
    (c.bits.ensures ∙ c.part.ensures.bits
    ∙ ap (λ w. c.new.result.bits / 2 ^ c.bits_below-low.result % 2 ^ w) size
    ∙ ap (λ x. x / 2 ^ c.bits_below-low.result % 2 ^ p.part.digit.bits) (c.new.ensures.bits ∙ bits)
    ∙ ap (λ l. chain_at ds c.args.tick / 2 ^ l % 2 ^ p.part.digit.bits) low
    ∙ c.chains_by_ticks.ensures.parts ds c.args.number c.args.tick p.part.digit p.digits p.part.at)
