use Rattle.std.proofs.Common.{◌≡◌, ℕ, ◌<◌, List, Some, length, get_or, refl, subst, replicate, ap, ◌∙◌}
use Rattle.std.specs.Prelude.{slice_get}
use Rattle.std.proofs.lemmas.Option.{slice_get_read}
use Rattle.rtl_ir.specs.declared.design.Mem.{Mem}
use Rattle.verilog_sim.specs.Runnable.{IsSizedMem}
use Rattle.verilog_sim.specs.Start.{words_at_start}
use Rattle.verilog_sim.proofs.Pushing.{mapped_more}
use Rattle.verilog_sim.proofs.start.memories.Goals as goal

formed_at : (items mems : List Mem) (k : ℕ) (n : Mem) → ((j : ℕ) (x : Mem) → slice_get mems j ≡ Some x → IsSizedMem x) → items ≡ mems → k < length items → n ≡ get_or items k n → IsSizedMem n
formed_at items mems k n formed e lt is = formed k n (subst (λ (l : List Mem). slice_get l k ≡ Some n) e (slice_get_read items (length items) k n refl lt is))

pub reduce-word-requires-clause-some : goal.reduce-word-requires-clause-some
reduce-word-requires-clause-some c =
    (formed_at c.as_slice-memory-items.result.now c.args.module.now.mems
    c.loop-memory.memory-index c.memory-item.result c.requires c.as_slice-memory-items.ensures
    c.loop-memory-test.true c.memory-item.is).some

pub reduce-word-requires-clause-at_most : goal.reduce-word-requires-clause-at_most
reduce-word-requires-clause-at_most c =
    (formed_at c.as_slice-memory-items.result.now c.args.module.now.mems
    c.loop-memory.memory-index c.memory-item.result c.requires c.as_slice-memory-items.ensures
    c.loop-memory-test.true c.memory-item.is).at_most

pub loop-memory-preserved : goal.loop-memory-preserved
loop-memory-preserved c =
    let x = c.memory-item.result in
    mapped_more (words_at_start c.args.fill) c.as_slice-memory-items.result.now c.loop-memory.memory-index x
    c.loop-memory.memories.items c.push.new.self.items c.in_ok-new.field-0 c.loop-memory-test.true c.memory-item.is
    c.loop-memory.invariant c.in_ok-push.ensures.items (c.in_ok-new.ensures ∙ ap (replicate x.depth) c.reduce-word.ensures)
