-- What an instruction of the list computes, and when it is safe.
use Rattle.std.specs.Prelude.{◌≡◌, true, ℕ, zero, suc, ◌+◌, ◌-◌, ◌*◌, ◌/◌, ◌%◌, ◌^◌}
use Rattle.std.specs.Prelude.{◌<◌, ◌≤◌, List, [], if◌then◌else◌, nat_eq, nat_lt, slice_index}
use Rattle.std.specs.Prelude.{slice_index_or, bit_and, bit_or, bit_xor}
use Rattle.rtl_ir.specs.Value.{quotient}
use Rattle.verilog_sim.specs.declared.instruction.Step.{Step}
use Rattle.verilog_sim.specs.declared.instruction.Step.TheVariants.{Copy, Literal, Not, Add, Sub}
use Rattle.verilog_sim.specs.declared.instruction.Step.TheVariants.{Mul, Div, And, Or, Xor, Eq, Lt}
use Rattle.verilog_sim.specs.declared.instruction.Step.TheVariants.{Concat, Repeat, Part, Choose}
use Rattle.verilog_sim.specs.declared.instruction.Step.TheVariants.{Cell}
use Rattle.verilog_sim.specs.declared.instruction.Instruction.{Instruction}

-- the nets and memories that a step reads are there, and its shifts are below 128
abbrev pub IsStepSafe : ℕ → ℕ → Step → Type 0
IsStepSafe n k (Copy a) = a < n
IsStepSafe n k (Literal word) = Unit {0}
IsStepSafe n k (Not a) = a < n
IsStepSafe n k (Add a b) = (a < n) × (b < n)
IsStepSafe n k (Sub a b) = (a < n) × (b < n)
IsStepSafe n k (Mul a b) = (a < n) × (b < n)
IsStepSafe n k (Div a b) = (a < n) × (b < n)
IsStepSafe n k (And a b) = (a < n) × (b < n)
IsStepSafe n k (Or a b) = (a < n) × (b < n)
IsStepSafe n k (Xor a b) = (a < n) × (b < n)
IsStepSafe n k (Eq a b) = (a < n) × (b < n)
IsStepSafe n k (Lt a b) = (a < n) × (b < n)
IsStepSafe n k (Concat a b low) = (a < n) × (b < n) × (low < 128)
IsStepSafe n k (Repeat times low a) = (1 ≤ times) × (2 ≤ times → low < 128) × (a < n)
IsStepSafe n k (Part a low) = (a < n) × (low < 128)
IsStepSafe n k (Choose a b c) = (a < n) × (b < n) × (c < n)
IsStepSafe n k (Cell i a) = (i < k) × (a < n)

pub record IsSafe (n k : ℕ) (instruction : Instruction) : Type 0 where
  pub target : instruction.target < n
  pub some : 1 ≤ instruction.width
  pub at_most : instruction.width ≤ 128
  pub half : instruction.narrow ≡ true → instruction.width ≤ 64
  pub step : IsStepSafe n k instruction.step

-- a word once more behind what stands there
abbrev pub joined : ℕ → ℕ → ℕ → ℕ
joined high low word = bit_or (high * 2 ^ low % 2 ^ 128) word

abbrev pub again : ℕ → ℕ → ℕ → ℕ
again zero low word = word
again (suc k) low word = joined (again k low word) low word

-- the value of a step for a net of w bits
abbrev pub step_value : List (List ℕ) → (ℕ → ℕ) → ℕ → Step → ℕ
step_value mems v w (Copy a) = v a
step_value mems v w (Literal word) = word
step_value mems v w (Not a) = (2 ^ 128 - 1 - v a) % 2 ^ w
step_value mems v w (Add a b) = (v a + v b) % 2 ^ w
step_value mems v w (Sub a b) = (v a + (2 ^ 128 - v b)) % 2 ^ 128 % 2 ^ w
step_value mems v w (Mul a b) = (v a * v b) % 2 ^ w
step_value mems v w (Div a b) = quotient (v a) (v b)
step_value mems v w (And a b) = bit_and (v a) (v b)
step_value mems v w (Or a b) = bit_or (v a) (v b)
step_value mems v w (Xor a b) = bit_xor (v a) (v b)
step_value mems v w (Eq a b) = if nat_eq (v a) (v b) then 1 else 0
step_value mems v w (Lt a b) = if nat_lt (v a) (v b) then 1 else 0
step_value mems v w (Concat a b low) = joined (v a) low (v b)
step_value mems v w (Repeat times low a) = again (times - 1) low (v a)
step_value mems v w (Part a low) = (v a / 2 ^ low) % 2 ^ w
step_value mems v w (Choose a b c) = if nat_eq (v a) 1 then v b else v c
step_value mems v w (Cell i a) = slice_index (slice_index_or mems i []) (v a)
