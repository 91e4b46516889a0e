-- What operations leave is kept, and what they give is fit.
use Rattle.std.proofs.Common.{◌≡◌, ℕ, ℤ, suc, ◌+◌, List, [], ◌∷◌, ◌++◌, refl, ap, true, false, Ok, Err, length, arith}
use Rattle.std.specs.Prelude.{Bool, Result, unsigned_abs}
use Rattle.mx_bits.specs.declared.op.Op.{Op}
use Rattle.fix_arith.specs.declared.types.RoundMode.{RoundMode}
use Rattle.fix_arith.specs.declared.types.StreamType.{StreamType}
use Rattle.fix_arith.specs.declared.types.TypeError.{TypeError}
use Rattle.fix_arith.specs.Types.{HasWidth}
use Rattle.fix_arith.specs.Table.{GivesType}
use Rattle.kernel_meaning.specs.declared.value.Value.{Value}
use Rattle.kernel_meaning.specs.declared.value.Value.TheVariants as V
use Rattle.kernel_meaning.specs.declared.state.State.{State}
use Rattle.kernel_meaning.specs.declared.error.EvalError.{EvalError}
use Rattle.kernel_meaning.specs.Answer.{Outcome, Fails, Does}
use Rattle.kernel_meaning.specs.Typing.{typing}
use Rattle.kernel_meaning.specs.Outcomes
use Rattle.kernel_meaning.specs.StreamRows
use Rattle.kernel_meaning.proofs.TypingLaws.{AllWidths, MayHave}
use Rattle.kernel_rows.specs.Fit.{IsFit, AreFit}
use Rattle.kernel_rows.specs.Kept.{IsKept, Keeps}

abbrev pub Holds : State → Outcome → Type 0
Holds old (Fails e) = Unit {0}
Holds old (Does calls value new) = IsFit value × Keeps old new

-- what an outcome gives is fit, and what it leaves is kept
pub record KeptOutcome (old : State) (outcome : Outcome) : Type 0 where
  pub holds : Holds old outcome

pub kept_if : (test : Bool) (e : EvalError) (old : State) (o : Outcome)
    → (test ≡ true → KeptOutcome old o) → KeptOutcome old (Outcomes.where_so test e o)
kept_if true e old o h = h refl
kept_if false e old o h = record { holds = tt }

pub with_made : (state : State) (made : ℕ) → IsKept state
    → Keeps state (record state { made = made })
with_made state made s = record {
  kept = record {
    variables = s.variables;
    fields = s.fields;
    arrays = s.arrays;
    digits = s.digits;
  };
  variables = refl;
  fields = refl;
  left = omega arith;
}

-- operands of so many values
pub record Typed (count : ℕ) (o : StreamRows.Operands) : Type 0 where
  pub widths : AllWidths o.types
  pub many : length o.types ≡ count

abbrev pub AreTyped : ℕ → Result StreamRows.Operands TypeError → Type 0
AreTyped count (Err e) = Unit {0}
AreTyped count (Ok o) = Typed count o

pub record OkTyped (count : ℕ) (r : Result StreamRows.Operands TypeError) : Type 0 where
  pub typed : AreTyped count r

node_typed : (n : ℕ) (u : StreamType) (count : ℕ) (r : Result StreamRows.Operands TypeError)
    → HasWidth u → OkTyped count r → OkTyped (suc count) (StreamRows.with_node n u r)
node_typed n u count (Err e) w f = record { typed = tt }
node_typed n u count (Ok o) w f =
    record { typed = record { widths = (w, f.typed.widths); many = ap suc f.typed.many } }

constant_typed : (bits n : ℕ) (u : StreamType) (count : ℕ)
    (r : Result StreamRows.Operands TypeError) → HasWidth u → OkTyped count r
    → OkTyped (suc count) (StreamRows.with_constant bits n u r)
constant_typed bits n u count (Err e) w f = record { typed = tt }
constant_typed bits n u count (Ok o) w f =
    record { typed = record { widths = (w, f.typed.widths); many = ap suc f.typed.many } }

literal_typed : (r : Result ℕ TypeError) (t : StreamType) (made count : ℕ)
    (others : ℕ → Result StreamRows.Operands TypeError) → HasWidth t
    → ((made : ℕ) → OkTyped count (others made))
    → OkTyped (suc count) (StreamRows.literal_before r made t others)
literal_typed (Err e) t made count others w h = record { typed = tt }
literal_typed (Ok bits) t made count others w h =
    constant_typed bits made t count (others (made + 1)) w (h (made + 1))

operands_typed : (mode : RoundMode) (t : StreamType) (values : List Value) (made : ℕ)
    → HasWidth t → AreFit values
    → OkTyped (length values) (StreamRows.operands_of mode t made values)
operands_typed mode t [] made w f = record { typed = record { widths = tt; many = refl } }
operands_typed mode t (V.Stream n u feed ∷ values) made w f =
    node_typed n u (length values) _ f.0 (operands_typed mode t values made w f.1)
operands_typed mode t (V.Int n ∷ values) made w f =
    literal_typed _ t made (length values) _ w (λ made. operands_typed mode t values made w f.1)
operands_typed mode t (V.Literal negative digits tens ∷ values) made w f =
    literal_typed _ t made (length values) _ w (λ made. operands_typed mode t values made w f.1)
operands_typed mode t (_ ∷ values) made w f = record { typed = tt }

made_of : (at : ℕ) (op : Op) (mode : RoundMode) (amount : ℕ) (o : StreamRows.Operands)
    (state : State) (r : Result StreamType TypeError) → IsKept state
    → ((t : StreamType) → r ≡ Ok t → GivesType op o.types amount t × HasWidth t)
    → KeptOutcome state (StreamRows.operation_of at op mode amount o state r)
made_of at op mode amount o state (Err e) s h = record { holds = tt }
made_of at op mode amount o state (Ok t) s h =
    record { holds = ((h t refl).1, with_made state (o.made + 1) s) }

made_by : (at : ℕ) (op : Op) (amount : ℤ) (given : List StreamType) (state : State) (count : ℕ)
    (r : Result StreamRows.Operands TypeError) → OkTyped count r → IsKept state
    → MayHave op amount given count
    → KeptOutcome state (StreamRows.operation_by at op amount given state r)
made_by at op amount given state count (Err e) f s h = record { holds = tt }
made_by at op amount given state count (Ok o) f s h =
    made_of at op (StreamRows.mode_of state.modes) (unsigned_abs amount) o state
    (typing op (o.types ++ given) amount) s (λ t e. h o.types t f.typed.many f.typed.widths e)

pub operation_kept : (at : ℕ) (op : Op) (amount : ℤ) (t : StreamType) (given : List StreamType)
    (values : List Value) (state : State) → HasWidth t → AreFit values → IsKept state
    → MayHave op amount given (length values)
    → KeptOutcome state (StreamRows.operation at op amount t given values state)
operation_kept at op amount t given values state w v s h =
    made_by at op amount given state (length values) _
    (operands_typed (StreamRows.mode_of state.modes) t values state.made w v) s h
