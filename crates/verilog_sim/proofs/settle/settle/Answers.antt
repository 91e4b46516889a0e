use Rattle.std.proofs.Common.{◌≡◌, ◌+◌, ◌++◌, ◌<◌, List, Some, [], ◌∷◌, length, length-append, take, get_or, refl, sym, ap, subst, ◌∙◌, arith}
use Rattle.std.specs.Prelude.{slice_get}
use Rattle.std.specs.List.{All}
use Rattle.std.proofs.lemmas.Option.{slice_get_read}
use Rattle.std.proofs.lemmas.List.{take_more, take_all, get_or_append_left, get_or-append-add}
use Rattle.verilog_sim.specs.declared.batch.Batch.{Batch}
use Rattle.verilog_sim.specs.declared.instruction.Instruction.{Instruction}
use Rattle.verilog_sim.specs.Instructions.{IsSafe}
use Rattle.verilog_sim.specs.Compiled.{AreInstructionsOf}
use Rattle.verilog_sim.specs.Batches.{instructions_in, instructions_of_all}
use Rattle.verilog_sim.specs.Settled.{Progress}
use Rattle.verilog_sim.proofs.Batching.{instructions_around, instructions_more}
use Rattle.verilog_sim.proofs.InOrder.{at_start, at_last}
use Rattle.verilog_sim.proofs.settle.settle.Goals as goal

-- the middle of what holds of all items
middle : {A : Type 0} (P : A → Type 0) (xs ys zs : List A) → All P ((xs ++ ys) ++ zs) → All P ys
middle P xs ys zs h k d lt =
    let within : length xs + k < length (xs ++ ys) = omega (arith, length-append xs ys) in
    let e : get_or ((xs ++ ys) ++ zs) (length xs + k) d ≡ get_or ys k d = get_or_append_left (xs ++ ys) zs d (length xs + k) within ∙ get_or-append-add xs ys k d in
    subst P e (h (length xs + k) d (omega (arith, length-append (xs ++ ys) zs)))

pub settle_batch-requires : goal.settle_batch-requires
settle_batch-requires c =
    let batches = c.args.batches.now in
    let i = c.loop-batch.batch-index in
    let b = c.batch-item.result in
    let at : slice_get batches i ≡ Some b = slice_get_read batches (length batches) i b refl c.loop-batch-test.true c.batch-item.is in
    let around = instructions_around batches i b at in
    rw c.loop-batch.invariant.0
    (record {
      safe = middle (IsSafe (length c.args.values.now) (length c.args.memories.now))
          (instructions_of_all (take i batches)) (instructions_in b) around.0
          (subst (All (IsSafe (length c.args.values.now)
          (length c.args.memories.now))) around.1 c.requires.safe);
    })

pub loop-batch-init : goal.loop-batch-init
loop-batch-init c = (refl, λ m assigns are o h. at_start m assigns c.args.memories.now c.args.values.now h)

pub loop-batch-preserved : goal.loop-batch-preserved
loop-batch-preserved c = (
  c.settle_batch.ensures.size ∙ c.loop-batch.invariant.0,
  λ m assigns are o h.
      let batches = c.args.batches.now in
      let i = c.loop-batch.batch-index in
      let b = c.batch-item.result in
      let at : slice_get batches i ≡ Some b = slice_get_read batches (length batches) i b refl c.loop-batch-test.true c.batch-item.is in
      let around = instructions_around batches i b at in
      let parts = subst (AreInstructionsOf m assigns) around.1 are in
      let more : instructions_of_all (take (i + 1) batches) ≡ instructions_of_all (take i batches)
      ++ instructions_in b = ap instructions_of_all (take_more batches i b c.loop-batch-test.true ∙ ap
      (λ (x : Batch). take i batches ++ x
      ∷ []) (sym c.batch-item.is)) ∙ instructions_more (take i batches) b in
      let done = c.settle_batch.ensures.advances m assigns c.args.values.now (instructions_of_all (take i batches)) around.0 parts o h (c.loop-batch.invariant.1 m assigns are o h) in
      subst (λ (ls : List Instruction). Progress m assigns c.args.memories.now c.args.values.now c.settle_batch.new.values (length ls)) (sym more) done,
)

pub returns : goal.returns
returns c = λ m assigns are o h.
    let batches = c.args.batches.now in
    let all : instructions_of_all batches ≡ instructions_of_all
    (take c.loop-batch.batch-index batches) = ap instructions_of_all
    (sym (take_all c.loop-batch.batch-index batches c.loop-batch-test.false)) in
    let size = ap length all in
    at_last m assigns c.args.memories.now
    (instructions_of_all batches) c.args.values.now c.loop-batch.values
    (length (instructions_of_all (take c.loop-batch.batch-index batches))) are (omega (
      arith,
      size,
    )) (c.loop-batch.invariant.1 m assigns are o h)
