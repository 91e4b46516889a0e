use Rattle.std.proofs.Common.{◌≡◌, ◌∙◌, ℕ, List, length, map, sym, ap, subst}
use Rattle.std.specs.Vec.{with_items}
use Rattle.std.specs.List.{All}
use Rattle.verilog_sim.specs.Instructions.{IsSafe}
use Rattle.verilog_sim.specs.Batches.{instruction_of, Advances}
use Rattle.verilog_sim.specs.Halves.{words}
use Rattle.verilog_sim.proofs.HalfLists.{length_words}
use Rattle.verilog_sim.proofs.Edges.{back}
use Rattle.verilog_sim.proofs.values.Values.settle.Goals as goal

pub settle_entries-requires : goal.settle_entries-requires
settle_entries-requires g c =
    let s = c.self.inside in
    let same : length c.args.self.now ≡ length c.as_mut_slice.result.now = sym
    (ap length c.self.view_is) ∙ length_words s.low.items s.high.items c.self.invariant ∙
    sym (ap length c.as_mut_slice.ensures.value) in
    record { safe = subst (λ (n : ℕ). All (IsSafe n (length c.args.memories.now)) (map (instruction_of g.R.Operation.step) c.args.entries.now)) same c.requires.safe }

pub returns-clause-advances : goal.returns-clause-advances
returns-clause-advances g c =
    let s = c.self.inside in
    let instructions = map (instruction_of g.R.Operation.step) c.args.entries.now in
    let items : (with_items s.low c.settle_entries.new.low).items
    ≡ c.settle_entries.new.low = back s.low c.settle_entries.new.low
    c.as_mut_slice.result.now c.settle_entries.auto.low c.as_mut_slice.ensures.value in
    let done = c.settle_entries.ensures s.high.items (ap length c.as_mut_slice.ensures.value ∙ c.self.invariant) in
    subst (λ (v : List ℕ). Advances instructions c.args.memories.now v
    (words (with_items s.low c.settle_entries.new.low).items s.high.items))
    (ap (λ (l : List ℕ). words l s.high.items) c.as_mut_slice.ensures.value ∙ c.self.view_is)
    (subst (λ (l : List ℕ). Advances instructions c.args.memories.now (words c.as_mut_slice.result.now s.high.items) (words l s.high.items)) (sym items) done)

pub returns-clause-size : goal.returns-clause-size
returns-clause-size g c =
    let s = c.self.inside in
    let items : (with_items s.low c.settle_entries.new.low).items
    ≡ c.settle_entries.new.low = back s.low c.settle_entries.new.low
    c.as_mut_slice.result.now c.settle_entries.auto.low c.as_mut_slice.ensures.value in
    let size : length (with_items s.low c.settle_entries.new.low).items ≡ length s.low.items = ap length items ∙ c.settle_entries.auto.low ∙ ap length c.as_mut_slice.ensures.value in
    length_words (with_items s.low c.settle_entries.new.low).items s.high.items
    (size ∙ c.self.invariant) ∙ size ∙ sym
    (length_words s.low.items s.high.items c.self.invariant) ∙ ap length c.self.view_is
