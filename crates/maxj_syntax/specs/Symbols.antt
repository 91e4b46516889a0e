-- The symbols that the parser reads.
use Rattle.std.specs.Prelude.{ℕ, Bool, List}
use Rattle.maxj_syntax.specs.declared.symbol.TokenClass.{TokenClass}
use Rattle.maxj_syntax.specs.declared.symbol.Effect.{Effect}
use Rattle.maxj_syntax.specs.declared.symbol.Action.{Action}
use Rattle.maxj_syntax.specs.declared.symbol.Rule.{Rule}
use Rattle.maxj_syntax.specs.declared.symbol.Inside.{Inside as InsideOf}
use Rattle.maxj_syntax.specs.declared.symbol.Named.{Named as NamedOf}
use Rattle.maxj_syntax.specs.declared.symbol.Named.TheVariants as R
use Rattle.maxj_syntax.specs.declared.symbol.Fixed.{Fixed}
use Rattle.maxj_syntax.specs.declared.symbol.Fixed.TheVariants as F
use Rattle.maxj_syntax.specs.declared.symbol.Symbol.{Symbol as SymbolOf}
use Rattle.maxj_syntax.specs.declared.symbol.Symbol.TheVariants as Y
use Rattle.maxj_syntax.specs.declared.symbol.ClassKind.{ClassKind}

-- where a member of a class stands: what the class is, its name, and whether its constructor is still to come
pub record Inside : Type 0 where
  pub kind : ClassKind
  pub class : List ℕ
  pub unmade : Bool

-- a rule that speaks of a name, or whose next token is a name that what follows speaks of
pub data Named : Type 0 where
  ClassName : Named
  Parent : List ℕ → Named
  Members : Inside → Named
  Head : Inside → Named
  After : Inside → Bool → Bool → Named  -- whether the name before is that of the class and of its constructor, and whether it is `Memory`
  FirstParam : ClassKind → Named

-- what the parser is to read next
pub data Symbol : Type 0 where
  Mark : TokenClass → Effect → Symbol
  Name : List ℕ → Effect → Symbol
  Sub : Rule → Symbol
  Call : Named → Symbol
  Act : Action → Symbol

abbrev pub inside_view : InsideOf → Inside
inside_view i = record { kind = i.kind; class = i.class.now; unmade = i.unmade }

abbrev pub named_view : NamedOf → Named
named_view (R.Parent w) = Parent w.now
named_view (R.Members i) = Members (inside_view i)
named_view (R.Head i) = Head (inside_view i)
named_view (R.After i first) = After (inside_view i) first.own first.memory

abbrev pub fixed_view : Fixed → Symbol
fixed_view (F.Mark c e) = Mark c e
fixed_view (F.Sub r) = Sub r
fixed_view F.ClassName = Call ClassName
fixed_view (F.FirstParam m) = Call (FirstParam m)
fixed_view (F.Act a) = Act a

abbrev pub symbol_view : SymbolOf → Symbol
symbol_view (Y.Fixed f) = fixed_view f
symbol_view (Y.Name w e) = Name w.now e
symbol_view (Y.Named n) = Call (named_view n)
