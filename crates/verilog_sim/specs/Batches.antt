-- The instructions that stand in batches.
use Rattle.std.specs.Prelude.{◌≡◌, Bool, ℕ, true, false, List, [], ◌∷◌, ◌++◌, length, map}
use Rattle.rtl_ir.specs.declared.design.Module.{Module}
use Rattle.rtl_ir.specs.declared.design.Assign.{Assign}
use Rattle.verilog_sim.specs.Compiled.{AreInstructionsOf}
use Rattle.verilog_sim.specs.Settled.{IsInOrder, AreWords, Progress}
use Rattle.verilog_sim.specs.declared.instruction.Step.{Step}
use Rattle.verilog_sim.specs.declared.instruction.Step.TheVariants.{Copy, Not, Add, Sub, Mul, And, Or, Xor, Eq, Lt, Concat, Part, Choose, Cell}
use Rattle.verilog_sim.specs.declared.instruction.Instruction.{Instruction}
use Rattle.verilog_sim.specs.declared.batch.Entry.{Entry}
use Rattle.verilog_sim.specs.declared.batch.Batch.{Batch}
use Rattle.verilog_sim.specs.declared.batch.Batch.TheVariants.{General, Aliases, Complements, Sums}
use Rattle.verilog_sim.specs.declared.batch.Batch.TheVariants.{Differences, Products, Conjunctions}
use Rattle.verilog_sim.specs.declared.batch.Batch.TheVariants.{Disjunctions, ExclusiveOrs}
use Rattle.verilog_sim.specs.declared.batch.Batch.TheVariants.{Equalities, Orders, Concatenations}
use Rattle.verilog_sim.specs.declared.batch.Batch.TheVariants.{PartSelects, Choices, MemoryReads}

-- the instruction of an entry, where its operation is this step
abbrev pub instruction_of : {R : Type 0} → (R → Step) → Entry R → Instruction
instruction_of step e = record { target = e.target; width = e.width; narrow = true; step = step e.reads }

-- the instructions of a batch
abbrev pub instructions_in : Batch → List Instruction
instructions_in (General instructions) = instructions.items
instructions_in (Aliases entries) = map (instruction_of (λ s. Copy s.net)) entries.items
instructions_in (Complements entries) = map (instruction_of (λ s. Not s.net)) entries.items
instructions_in (Sums entries) = map (instruction_of (λ s. Add s.left s.right)) entries.items
instructions_in (Differences entries) = map (instruction_of (λ s. Sub s.left s.right)) entries.items
instructions_in (Products entries) = map (instruction_of (λ s. Mul s.left s.right)) entries.items
instructions_in (Conjunctions entries) = map (instruction_of (λ s. And s.left s.right)) entries.items
instructions_in (Disjunctions entries) = map (instruction_of (λ s. Or s.left s.right)) entries.items
instructions_in (ExclusiveOrs entries) = map (instruction_of (λ s. Xor s.left s.right)) entries.items
instructions_in (Equalities entries) = map (instruction_of (λ s. Eq s.left s.right)) entries.items
instructions_in (Orders entries) = map (instruction_of (λ s. Lt s.left s.right)) entries.items
instructions_in (Concatenations entries) = map (instruction_of (λ s. Concat s.high s.low s.low_width)) entries.items
instructions_in (PartSelects entries) = map (instruction_of (λ s. Part s.net s.low_bit)) entries.items
instructions_in (Choices entries) = map (instruction_of (λ s. Choose s.test s.one s.zero)) entries.items
instructions_in (MemoryReads entries) = map (instruction_of (λ s. Cell s.memory s.address)) entries.items

-- the instructions of batches, one batch after another
abbrev pub instructions_of_all : List Batch → List Instruction
instructions_of_all [] = []
instructions_of_all (b ∷ bs) = instructions_in b ++ instructions_of_all bs

-- an instruction was added behind those of a batch, or the batch is as before
abbrev pub IsAddedInstruction : Instruction → Batch → Batch → Bool → Type 0
IsAddedInstruction l old new true = instructions_in new ≡ instructions_in old ++ l ∷ []
IsAddedInstruction l old new false = instructions_in new ≡ instructions_in old

-- from values at which the assignments before these instructions hold to values at which those of the instructions hold too, for each
-- module and each order of assignments in which the instructions stand
abbrev pub Advances : List Instruction → List (List ℕ) → List ℕ → List ℕ → Type 0
Advances instructions memories values later =
    (m : Module) (order : List Assign) (old : List ℕ) (before rest : List Instruction)
    → AreInstructionsOf m order ((before ++ instructions) ++ rest)
    → IsInOrder m order
    → AreWords m old memories
    → Progress m order memories old values (length before)
    → Progress m order memories old later (length (before ++ instructions))
