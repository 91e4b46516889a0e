use Rattle.std.proofs.Common.{true, ◌∙◌, ◌+◌, ◌^◌, ◌≡◌, ◌<◌, ℕ, List, Some, length, map, get_or, refl, sym, subst, arith}
use Rattle.std.specs.Prelude.{slice_get}
use Rattle.std.specs.List.{All}
use Rattle.std.proofs.lemmas.Option.{slice_get_read}
use Rattle.std.proofs.lemmas.List.{length-map}
use Rattle.verilog_sim.specs.declared.batch.Entry.{Entry}
use Rattle.verilog_sim.specs.declared.instruction.Step.{Step}
use Rattle.verilog_sim.specs.Instructions.{IsSafe, IsStepSafe, step_value}
use Rattle.verilog_sim.specs.Batches.{instruction_of}
use Rattle.verilog_sim.proofs.Batching.{one_of_all, mapped_at}
use Rattle.verilog_sim.proofs.InOrder.{instruction_between, instructions_between, target_below}
use Rattle.verilog_sim.proofs.HalfLists.{length_words, get_words, set_low, read_low}
use Rattle.verilog_sim.specs.Halves.{words}
use Rattle.verilog_sim.specs.Settled.{Progress}
use Rattle.verilog_sim.proofs.narrow.settle_entries.Goals as goal

-- the instruction of an entry
instruction_at : {R : Type 0} (step : R → Step) (entries : List (Entry R)) (i : ℕ) (e : Entry R)
    → i < length entries → e ≡ get_or entries i e
    → slice_get (map (instruction_of step) entries) i ≡ Some (instruction_of step e)
instruction_at step entries i e lt is = mapped_at (instruction_of step) entries i e (slice_get_read entries (length entries) i e refl lt is)

entry_safe : {R : Type 0} (step : R → Step) (entries : List (Entry R)) (n k i : ℕ) (e : Entry R)
    → All (IsSafe n k) (map (instruction_of step) entries) → i < length entries
    → e ≡ get_or entries i e → IsSafe n k (instruction_of step e)
entry_safe step entries n k i e all lt is = one_of_all (IsSafe n k) (map (instruction_of step) entries) i (instruction_of step e) all (instruction_at step entries i e lt is)

pub value-requires-clause-some : goal.value-requires-clause-some
value-requires-clause-some g c = (entry_safe g.R.Operation.step c.args.entries.now _ _ c.loop-entry.entry-index c.entry-item.result c.requires.safe c.loop-entry-test.true c.entry-item.is).some

pub value-requires-clause-at_most : goal.value-requires-clause-at_most
value-requires-clause-at_most g c = (entry_safe g.R.Operation.step c.args.entries.now _ _ c.loop-entry.entry-index c.entry-item.result c.requires.safe c.loop-entry-test.true c.entry-item.is).half refl

pub value-requires-clause-safe : goal.value-requires-clause-safe
value-requires-clause-safe g c =
    let safe = entry_safe g.R.Operation.step c.args.entries.now _ _ c.loop-entry.entry-index c.entry-item.result c.requires.safe c.loop-entry-test.true c.entry-item.is in
    (subst (λ (n : ℕ). IsStepSafe n (length c.args.memories.now) (g.R.Operation.step c.entry-item.result.reads)) (sym c.loop-entry.auto.low) safe.step)

pub bounds-low-index : goal.bounds-low-index
bounds-low-index g c =
    let safe = entry_safe g.R.Operation.step c.args.entries.now _ _ c.loop-entry.entry-index c.entry-item.result c.requires.safe c.loop-entry-test.true c.entry-item.is in
    omega (arith, safe.target, c.index.ensures.number, c.loop-entry.auto.low)

pub loop-entry-preserved : goal.loop-entry-preserved
loop-entry-preserved g c =
    let e = c.entry-item.result in
    let i = c.loop-entry.entry-index in
    let step = g.R.Operation.step in
    let l = instruction_of step e in
    let x = c.value.result in
    let low = c.loop-entry.low in
    let memories = c.args.memories.now in
    let instructions = map (instruction_of step) c.args.entries.now in
    let safe = entry_safe step c.args.entries.now _ _ i e c.requires.safe c.loop-entry-test.true c.entry-item.is in
    let at = instruction_at step c.args.entries.now i e c.loop-entry-test.true c.entry-item.is in
    λ high size m order old before rest are o h p.
    let same : length low ≡ length high = c.loop-entry.auto.low ∙ size in
    let now = c.loop-entry.invariant high size m order old before rest are o h p in
    let below = target_below m order memories before instructions rest old (words low high) i (length before + i) l are at refl now in
    let both = get_words low high e.target same in
    let none : get_or high e.target 0 ≡ 0 = omega (arith, below, both) in
    let is = subst (λ (f : ℕ → ℕ). step_value memories f e.width (step e.reads) < 2 ^ 64 → x ≡ step_value memories f e.width (step e.reads)) (read_low low high same) c.value.ensures in
    rw c.index.ensures.number
    (subst (λ (v : List ℕ). Progress m order memories old v (length before + (i + 1))) (sym (set_low low high e.target x same none))
    (instruction_between m order memories before instructions rest old (words low high) i l x true
    (λ _. refl) are o h at (omega (
      arith,
      safe.target,
      c.loop-entry.auto.low,
      length_words low high same,
    )) safe.some safe.at_most (λ f. is (f refl)) now))

pub returns : goal.returns
returns g c = λ high size m order old before rest are o h p.
    instructions_between m order c.args.memories.now before (map
    (instruction_of g.R.Operation.step) c.args.entries.now) old
    (words c.loop-entry.low high) c.loop-entry.entry-index (omega (
      arith,
      c.loop-entry-test.false,
      c.loop-entry.auto.entry-index-end,
      length-map c.args.entries.now (instruction_of g.R.Operation.step),
    ))
    (c.loop-entry.invariant high size m order old before rest are o h p)
