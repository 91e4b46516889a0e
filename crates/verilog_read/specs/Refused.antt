-- Why a text is refused.
use Rattle.std.specs.Prelude.{◌≡◌, ℕ, List, [], map, length, Some, slice_index_or}
use Rattle.grammar.specs.Grammar.{FirstBad}
use Rattle.rtl_ir.specs.declared.design.Module.{Module}
use Rattle.rtl_ir.specs.declared.design.Design.{Design}
use Rattle.rtl_ir.specs.declared.error.RtlError.{RtlError}
use Rattle.rtl_ir.specs.declared.error.RtlError.TheVariants as rules
use Rattle.rtl_ir.specs.Flat.{top_of}
use Rattle.rtl_ir.specs.Ports.{Shape, ports_of}
use Rattle.rtl_ir.specs.Rules.{IsAccepted}
use Rattle.rtl_check.specs.FirstFault.{IsFirstFault}
use Rattle.rtl_text.specs.Tree.{ModuleTree}
use Rattle.rtl_text.specs.Productions.{Is, Choice}
use Rattle.verilog_syntax.specs.Scanning.{PlacedToken, ReadsAt, HasNoToken}
use Rattle.verilog_syntax.specs.Parsed.{IsFile}
use Rattle.top_ports.specs.Shapes.{IsTop, IsFirstWrong}
use Rattle.rtl_reading.specs.Uses.{unknown_in}
use Rattle.rtl_reading.specs.Reads.{IsText, ReadsAs}
use Rattle.verilog_read.specs.declared.error.VerilogError.{VerilogError}
use Rattle.verilog_read.specs.declared.error.VerilogError.TheVariants as errors

-- the token at this place is the first that no text has after the tokens before it, or the text has too few
pub record IsSyntaxFault (bytes : List ℕ) (place : ℕ) : Type 0 where
  pub tokens : List PlacedToken
  pub read : ReadsAt 0 bytes tokens []
  pub token : ℕ
  pub bad : FirstBad Is Choice IsFile (map (λ (t : PlacedToken). t.token) tokens) token
  pub at : place ≡ slice_index_or (map (λ (t : PlacedToken). t.place) tokens) token (length bytes)

-- the name is the first that is used and not declared before
pub record IsUnknown (bytes : List ℕ) (name : List ℕ) : Type 0 where
  pub trees : List ModuleTree
  pub is : IsText bytes trees
  pub unknown : unknown_in trees ≡ Some name

-- the design of the text breaks a rule, and this is its first fault
pub record IsRuleFault (bytes : List ℕ) (e : RtlError) : Type 0 where
  pub design : Design
  pub reads : ReadsAs bytes design
  pub fault : IsFirstFault design e

-- the design of the text keeps all rules, and this is the first wrong port of its top module
pub record IsPortFault (bytes : List ℕ) (name : List ℕ) : Type 0 where
  pub design : Design
  pub reads : ReadsAs bytes design
  pub accepted : IsAccepted design
  pub top : Module
  pub is_top : top_of design ≡ Some top
  pub wrong : IsFirstWrong (ports_of top) name

abbrev pub IsRtlFault : List ℕ → RtlError → Type 0
IsRtlFault bytes (rules.Unknown name) = IsUnknown bytes name
IsRtlFault bytes (rules.SameName name) = IsRuleFault bytes (rules.SameName name)
IsRtlFault bytes (rules.TwoDrivers name) = IsRuleFault bytes (rules.TwoDrivers name)
IsRtlFault bytes (rules.NoDriver name) = IsRuleFault bytes (rules.NoDriver name)
IsRtlFault bytes (rules.Width name) = IsRuleFault bytes (rules.Width name)
IsRtlFault bytes (rules.CombLoop names) = IsRuleFault bytes (rules.CombLoop names)
IsRtlFault bytes rules.NoMemory = ⊥

-- the cause of a refusal
abbrev pub Refuses : List ℕ → VerilogError → Type 0
Refuses bytes (errors.NoToken place) = HasNoToken bytes place
Refuses bytes (errors.Syntax place) = IsSyntaxFault bytes place
Refuses bytes (errors.Rtl e) = IsRtlFault bytes e
Refuses bytes (errors.PortShape name) = IsPortFault bytes name
Refuses bytes errors.NoMemory = ⊥

-- a text that is read: its design keeps all rules, and its top module can be run
pub record IsReadAs (bytes : List ℕ) (d : Design) : Type 0 where
  pub reads : ReadsAs bytes d
  pub accepted : IsAccepted d
  pub top : Module
  pub is_top : top_of d ≡ Some top
  pub shape : Shape
  pub is_run : IsTop top shape
