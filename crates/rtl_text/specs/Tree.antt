-- The tree of a Verilog text, by names.
use Rattle.std.specs.Prelude.{ℕ, List}
use Rattle.rtl_ir.specs.declared.design.Sign.{Sign}

abbrev pub Name : Type 0
Name = List ℕ

pub data PortTree : Type 0 where
  InputPort : ℕ → Name → PortTree  -- its width in bits, and its name
  OutputPort : ℕ → Name → PortTree

pub data ExprTree : Type 0 where
  PlainTree : Name → ExprTree
  LiteralTree : ℕ → ℕ → ExprTree  -- its width in bits, and its value
  NotTree : Name → ExprTree
  BinaryTree : Sign → Name → Name → ExprTree
  ConcatTree : Name → Name → ExprTree  -- the high part, and the low part
  RepeatTree : ℕ → Name → ExprTree
  PartTree : Name → ℕ → ℕ → ExprTree  -- the highest bit, and the lowest one
  ChooseTree : Name → Name → Name → ExprTree  -- the condition, the value at 1, and the value at 0
  CellTree : Name → Name → ExprTree  -- a memory, and the address

pub data UpdateTree : Type 0 where
  RegisterUpdate : Name → Name → Name → UpdateTree  -- the enable, the register, and the value
  CellUpdate : Name → Name → Name → Name → UpdateTree  -- the enable, the memory, the address, and the value

-- a port of an instance, and the net that it is joined to
pub record Connection : Type 0 where
  pub port : Name
  pub net : Name

pub data ItemTree : Type 0 where
  WireItem : ℕ → Name → ItemTree  -- its width in bits, and its name
  RegisterItem : ℕ → Name → ItemTree
  MemoryItem : ℕ → Name → ℕ → ItemTree  -- the width of its words, its name, and their number
  AssignItem : Name → ExprTree → ItemTree
  AlwaysItem : List UpdateTree → ItemTree
  InstanceItem : Name → Name → List Connection → ItemTree  -- the module, the instance's name, and what its ports are joined to

pub record ModuleTree : Type 0 where
  pub name : Name
  pub ports : List PortTree
  pub items : List ItemTree
