-- The instructions of assignments.
use Rattle.std.specs.Prelude.{◌≡◌, ◌≤◌, ℕ, true, List, length, Some, slice_get}
use Rattle.rtl_ir.specs.declared.design.Module.{Module}
use Rattle.rtl_ir.specs.declared.design.Assign.{Assign}
use Rattle.rtl_ir.specs.declared.design.Sign.{Sign}
use Rattle.rtl_ir.specs.declared.design.Sign.TheVariants.{Add, Sub, Mul, Div, And, Or, Xor, Eq, Lt}
use Rattle.rtl_ir.specs.declared.design.Expr.{Expr}
use Rattle.rtl_ir.specs.declared.design.Expr.TheVariants.{Net as Plain, Literal, Not, Binary, Concat, Repeat, Part, Choose, Cell}
use Rattle.rtl_ir.specs.Value.{width_of}
use Rattle.rtl_ir.specs.Operands.{IsRead}
use Rattle.verilog_sim.specs.declared.instruction.Step.{Step}
use Rattle.verilog_sim.specs.declared.instruction.Step.TheVariants.{Copy, Literal as DoLiteral}
use Rattle.verilog_sim.specs.declared.instruction.Step.TheVariants.{Not as DoNot, Add as DoAdd}
use Rattle.verilog_sim.specs.declared.instruction.Step.TheVariants.{Sub as DoSub, Mul as DoMul}
use Rattle.verilog_sim.specs.declared.instruction.Step.TheVariants.{Div as DoDiv, And as DoAnd, Or as DoOr}
use Rattle.verilog_sim.specs.declared.instruction.Step.TheVariants.{Xor as DoXor, Eq as DoEq, Lt as DoLt}
use Rattle.verilog_sim.specs.declared.instruction.Step.TheVariants.{Concat as DoConcat, Repeat as DoRepeat}
use Rattle.verilog_sim.specs.declared.instruction.Step.TheVariants.{Part as DoPart, Choose as DoChoose}
use Rattle.verilog_sim.specs.declared.instruction.Step.TheVariants.{Cell as DoCell}
use Rattle.verilog_sim.specs.declared.instruction.Instruction.{Instruction}

-- a step is that of an operator on two nets
abbrev pub IsBinary : Sign → ℕ → ℕ → Step → Type 0
IsBinary Add n o (DoAdd a b) = (a ≡ n) × (b ≡ o)
IsBinary Sub n o (DoSub a b) = (a ≡ n) × (b ≡ o)
IsBinary Mul n o (DoMul a b) = (a ≡ n) × (b ≡ o)
IsBinary Div n o (DoDiv a b) = (a ≡ n) × (b ≡ o)
IsBinary And n o (DoAnd a b) = (a ≡ n) × (b ≡ o)
IsBinary Or n o (DoOr a b) = (a ≡ n) × (b ≡ o)
IsBinary Xor n o (DoXor a b) = (a ≡ n) × (b ≡ o)
IsBinary Eq n o (DoEq a b) = (a ≡ n) × (b ≡ o)
IsBinary Lt n o (DoLt a b) = (a ≡ n) × (b ≡ o)
IsBinary s n o x = ⊥

-- a step is that of an expression
abbrev pub IsStepOf : Module → Expr → Step → Type 0
IsStepOf m (Plain n) (Copy a) = a ≡ n
IsStepOf m (Literal x) (DoLiteral word) = word ≡ x.bits
IsStepOf m (Not n) (DoNot a) = a ≡ n
IsStepOf m (Binary s n o) x = IsBinary s n o x
IsStepOf m (Concat n o) (DoConcat a b low) = (a ≡ n) × (b ≡ o) × (low ≡ width_of m o)
IsStepOf m (Repeat k n) (DoRepeat times low a) = (times ≡ k) × (low ≡ width_of m n) × (a ≡ n)
IsStepOf m (Part n hi lo) (DoPart a low) = (a ≡ n) × (low ≡ lo)
IsStepOf m (Choose n o p) (DoChoose a b c) = (a ≡ n) × (b ≡ o) × (c ≡ p)
IsStepOf m (Cell k n) (DoCell i a) = (i ≡ k) × (a ≡ n)
IsStepOf m e s = ⊥

-- an assignment to a net of at most 64 bits that reads such nets alone
pub record IsNarrow (m : Module) (a : Assign) : Type 0 where
  pub target : width_of m a.target ≤ 64
  pub reads : (n : ℕ) → IsRead a.expr n → width_of m n ≤ 64

pub record IsInstructionOf (m : Module) (a : Assign) (instruction : Instruction) : Type 0 where
  pub target : instruction.target ≡ a.target
  pub width : instruction.width ≡ width_of m a.target
  pub step : IsStepOf m a.expr instruction.step
  pub narrow : instruction.narrow ≡ true → IsNarrow m a

-- the instructions of the first so many assignments, in their order
pub record AreInstructions (m : Module) (assigns : List Assign) (instructions : List Instruction) (count : ℕ) : Type 0 where
  pub size : length instructions ≡ count
  pub each : (i : ℕ) (a : Assign) (l : Instruction) → slice_get assigns i ≡ Some a → slice_get instructions i ≡ Some l → IsInstructionOf m a l

-- the instructions of these assignments
abbrev pub AreInstructionsOf : Module → List Assign → List Instruction → Type 0
AreInstructionsOf m assigns instructions = AreInstructions m assigns instructions (length assigns)
