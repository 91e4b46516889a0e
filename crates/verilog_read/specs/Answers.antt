-- What the steps of a reader answer.
use Rattle.std.specs.Prelude.{◌≡◌, ◌⊎◌, ℕ, List, [], ◌∷◌, map, Some, None}
use Rattle.grammar.specs.Grammar.{Derives}
use Rattle.rtl_ir.specs.declared.design.Module.{Module}
use Rattle.rtl_ir.specs.declared.design.Design.{Design}
use Rattle.rtl_ir.specs.declared.error.RtlError.{RtlError}
use Rattle.rtl_ir.specs.declared.error.RtlError.TheVariants as rules
use Rattle.rtl_ir.specs.Flat.{top_of}
use Rattle.rtl_ir.specs.Ports.{Shape, ports_of}
use Rattle.rtl_text.specs.Tree.{ModuleTree}
use Rattle.rtl_text.specs.Productions.{Is, Choice, File}
use Rattle.rtl_check.specs.FirstFault.{IsFirstFault}
use Rattle.top_ports.specs.Shapes.{IsTop, IsFirstWrong}
use Rattle.verilog_syntax.specs.Scanning.{ReadsAt, HasNoToken, placed_view}
use Rattle.verilog_syntax.specs.Parsed.{tokens_of, IsFirstBad}
use Rattle.verilog_syntax.specs.declared.token.Placed.{Placed}
use Rattle.rtl_reading.specs.Uses.{unknown_in}
use Rattle.verilog_read.specs.Walk.{AreSaid}
use Rattle.verilog_read.specs.declared.fault.Fault.{Fault}
use Rattle.verilog_read.specs.declared.fault.Fault.TheVariants as faults
use Rattle.verilog_read.specs.declared.error.VerilogError.{VerilogError}
use Rattle.verilog_read.specs.declared.error.VerilogError.TheVariants.{NoToken, Syntax, Rtl, PortShape, NoMemory}

-- the bytes are these tokens
abbrev pub AreTokens : List ℕ → List Placed → Type 0
AreTokens bytes tokens = ReadsAt 0 bytes (map placed_view tokens) []

pub data IsScanFault (bytes : List ℕ) : VerilogError → Type 0 where
  memory : IsScanFault bytes NoMemory
  stuck : (place : ℕ) → HasNoToken bytes place → IsScanFault bytes (NoToken place)

-- the tokens are these modules and no other ones
pub record AreTrees (tokens : List Placed) (trees : List ModuleTree) : Type 0 where
  pub derived : Derives Is Choice (File trees ∷ []) (tokens_of tokens)
  pub only : (others : List ModuleTree) → Derives Is Choice (File others ∷ []) (tokens_of tokens) → others ≡ trees

pub record IsDesign (tokens : List Placed) (d : Design) : Type 0 where
  pub trees : List ModuleTree
  pub are : AreTrees tokens trees
  pub known : unknown_in trees ≡ None
  pub said : AreSaid trees d.modules

pub data IsTreeFault (tokens : List Placed) (size : ℕ) : VerilogError → Type 0 where
  memory : IsTreeFault tokens size NoMemory
  syntax_at : (place : ℕ) → IsFirstBad tokens size place → IsTreeFault tokens size (Syntax place)
  unknown : (name : List ℕ) (trees : List ModuleTree) → AreTrees tokens trees
      → unknown_in trees ≡ Some name → IsTreeFault tokens size (Rtl (rules.Unknown name))

pub data BreaksRule (d : Design) : VerilogError → Type 0 where
  memory : BreaksRule d NoMemory
  rule : (e : RtlError) → IsFirstFault d e → BreaksRule d (Rtl e)

pub record CanRun (d : Design) : Type 0 where
  pub top : Module
  pub is_top : top_of d ≡ Some top
  pub shape : Shape
  pub is_run : IsTop top shape

pub data HasWrongPort (d : Design) : VerilogError → Type 0 where
  memory : HasWrongPort d NoMemory
  port : (top : Module) (name : List ℕ) → top_of d ≡ Some top → IsFirstWrong (ports_of top) name → HasWrongPort d (PortShape name)

-- the error that says a fault
abbrev pub IsRefusal : Fault → VerilogError → Type 0
IsRefusal faults.NoMemory e = e ≡ NoMemory
IsRefusal (faults.Unknown name) e = (e ≡ NoMemory) ⊎ (e ≡ Rtl (rules.Unknown name.now))

abbrev pub SaysBroken : RtlError → VerilogError → Type 0
SaysBroken rules.NoMemory e = e ≡ NoMemory
SaysBroken other e = e ≡ Rtl other
