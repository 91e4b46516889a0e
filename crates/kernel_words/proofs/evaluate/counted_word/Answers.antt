use Rattle.std.proofs.Common.{◌≡◌, ◌∙◌, ℕ, suc, ◌-◌, ◌<◌, ◌^◌, Some, None, ap, sym, subst}
use Rattle.std.specs.Prelude.{All}
use Rattle.counter_chains.specs.Digits.{IsDigit}
use Rattle.counter_chains.specs.Chains.{bits_of, chain_at}
use Rattle.counter_chains.specs.Steps.{IsState}
use Rattle.stream_graph.specs.LookUps.{digits_at}
use Rattle.kernel_types.proofs.Counting.{counters}
use Rattle.kernel_words.proofs.Holding.{one_back}
use Rattle.kernel_words.proofs.evaluate.counted_word.Goals as goal

some_same : (x y : ℕ) → Some x ≡ Some y → x ≡ y
some_same x y e = cc

not_none : (x : ℕ) → None ≡ Some x → ⊥
not_none x e = cc

pub returns-then-tick-eq0 : goal.returns-then-tick-eq0
returns-then-tick-eq0 c =
    let ds = digits_at c.args.kernel.now.nodes c.args.node in
    ap (λ (x : ℕ). Some x) (sym (ap (chain_at ds) c.if-tick-eq0.true ∙ c.chains_by_ticks.ensures.begins ds))

pub returns-in_err-bits : goal.returns-in_err-bits
returns-in_err-bits c =
    absurd (not_none _ (c.in_err-bits.ensures ∙ c.requires.before (c.args.tick - 1) (one_back c.args.tick c.if-tick-eq0.false)))

pub new-state-requires-clause-fits : goal.new-state-requires-clause-fits
new-state-requires-clause-fits c =
    let ds = digits_at c.args.kernel.now.nodes c.args.node in
    let counting = (counters c.args.kernel.now.nodes c.args.kernel.now.made).counting c.args.node c.requires.node c.requires.kind in
    let bits : c.in_ok-bits.bits ≡ chain_at ds (c.args.tick - 1) =
    some_same _ _ (c.in_ok-bits.ensures ∙ c.requires.before (c.args.tick - 1) (one_back c.args.tick c.if-tick-eq0.false)) in
    let width : bits_of ds ≡ c.width_of.result = sym (c.width_of.ensures.is ∙ counting.bits) in
    subst (λ w. c.in_ok-bits.bits < 2 ^ w) width
    (subst (λ x. x < 2 ^ bits_of ds) (sym bits) (c.chains_by_ticks.ensures.fits ds (c.args.tick - 1) counting.digits))

pub step-requires-clause-digits : goal.step-requires-clause-digits
step-requires-clause-digits c =
    let counting = (counters c.args.kernel.now.nodes c.args.kernel.now.made).counting c.args.node c.requires.node c.requires.kind in
    subst (All IsDigit) (sym c.digits_of.ensures) counting.digits

pub step-requires-clause-wide : goal.step-requires-clause-wide
step-requires-clause-wide c =
    let counting = (counters c.args.kernel.now.nodes c.args.kernel.now.made).counting c.args.node c.requires.node c.requires.kind in
    c.new-state.ensures.width ∙ c.width_of.ensures.is ∙ counting.bits ∙ sym (ap bits_of c.digits_of.ensures)

pub step-requires-clause-state : goal.step-requires-clause-state
step-requires-clause-state c =
    let ds = digits_at c.args.kernel.now.nodes c.args.node in
    let counting = (counters c.args.kernel.now.nodes c.args.kernel.now.made).counting c.args.node c.requires.node c.requires.kind in
    let bits : c.in_ok-bits.bits ≡ chain_at ds (c.args.tick - 1) =
    some_same _ _ (c.in_ok-bits.ensures ∙ c.requires.before (c.args.tick - 1) (one_back c.args.tick c.if-tick-eq0.false)) in
    subst (λ xs. IsState xs c.new-state.result.bits) (sym c.digits_of.ensures)
    (subst (IsState ds) (sym (c.new-state.ensures.bits ∙ bits)) (c.chains_by_ticks.ensures.states ds (c.args.tick - 1) counting.digits))

pub returns : goal.returns
returns c =
    let ds = digits_at c.args.kernel.now.nodes c.args.node in
    let bits : c.in_ok-bits.bits ≡ chain_at ds (c.args.tick - 1) =
    some_same _ _ (c.in_ok-bits.ensures ∙ c.requires.before (c.args.tick - 1) (one_back c.args.tick c.if-tick-eq0.false)) in
    ap (λ (x : ℕ). Some x)
    (c.bits.ensures
    ∙ c.step.ensures.ticks (c.args.tick - 1) (c.new-state.ensures.bits ∙ bits ∙ ap (λ xs. chain_at xs (c.args.tick - 1)) (sym c.digits_of.ensures))
    ∙ ap (λ xs. chain_at xs (suc (c.args.tick - 1))) c.digits_of.ensures
    ∙ ap (chain_at ds) (sym (one_back c.args.tick c.if-tick-eq0.false)))
