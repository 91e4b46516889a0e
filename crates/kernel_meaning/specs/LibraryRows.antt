-- The calls of the library that make nodes.
use Rattle.std.specs.Prelude.{
  ◌==◌,
  ℕ,
  ◌+◌,
  suc,
  nat_le,
  List,
  [],
  ◌∷◌,
  true,
  false,
  Option,
  Some,
  None,
  Result,
  Ok,
  Err,
  ℤ,
  pos,
  nat_lt,
  unsigned_abs,
}
use Rattle.std.specs.Int.{is_negative}
use Rattle.counter_chains.specs.declared.digits.CounterDigit.{CounterDigit}
use Rattle.counter_chains.specs.Digits.{digit_of, simple_of}
use Rattle.counter_chains.specs.declared.digits.CounterError.{CounterError}
use Rattle.counter_chains.specs.declared.digits.CounterError.TheVariants.{TooWide}
use Rattle.fix_arith.specs.declared.types.TypeError.TheVariants.{TypesDiffer}
use Rattle.fix_arith.specs.declared.types.RoundMode.{RoundMode}
use Rattle.fix_arith.specs.declared.types.TypeError.{TypeError}
use Rattle.fix_arith.specs.declared.types.StreamType.{StreamType}
use Rattle.fix_arith.specs.declared.types.StreamType.TheVariants as T
use Rattle.kernel_calls.specs.declared.call.Call.TheVariants as C
use Rattle.kernel_meaning.specs.declared.state.Digit.{Digit}
use Rattle.kernel_meaning.specs.declared.value.Value.{Value}
use Rattle.kernel_meaning.specs.declared.state.State.{State}
use Rattle.kernel_meaning.specs.declared.error.EvalError.TheVariants as E
use Rattle.kernel_meaning.specs.declared.value.Value.TheVariants as V
use Rattle.kernel_meaning.specs.declared.plan.Side.TheVariants as W
use Rattle.kernel_meaning.specs.Answer.{Outcome, Fails, Does}
use Rattle.kernel_meaning.specs.Typing.{same_type, literal_bits}
use Rattle.kernel_meaning.specs.Outcomes.{gives, wrong, makes, where_so, ends, with_name}
use Rattle.kernel_meaning.specs.StreamRows.{mode_of, is_bit}
use Rattle.kernel_meaning.specs.ManagerRows.{joined}

abbrev pub new_instance : ℕ → List Value → State → Outcome
new_instance at (V.«Type» t ∷ []) state = makes (C.Feed t) t true state
new_instance at _ state = wrong at

abbrev pub with_control : ℕ → StreamType → Outcome → Outcome
with_control at t outcome = where_so (is_bit t) (E.Typing at TypesDiffer) outcome

abbrev pub input : ℕ → List Value → State → Outcome
input at (V.Str name ∷ V.«Type» t ∷ []) state =
    with_name at name (makes (C.Input name t None) t false state)
input at (V.Str name ∷ V.«Type» t ∷ V.Stream c u feed ∷ []) state =
    with_control at u (with_name at name (makes (C.Input name t (Some c)) t false state))
input at _ state = wrong at

abbrev pub output : ℕ → List Value → State → Outcome
output at (V.Str name ∷ V.Stream n t feed ∷ V.«Type» u ∷ []) state =
    where_so (same_type t u) (E.Typing at TypesDiffer)
    (with_name at name (ends (C.Output name n None t) state))
output at (V.Str name ∷ V.Stream n t feed ∷ V.«Type» u ∷ V.Stream c w other ∷ []) state =
    where_so (same_type t u) (E.Typing at TypesDiffer)
    (with_control at w (with_name at name (ends (C.Output name n (Some c) t) state)))
output at _ state = wrong at

abbrev pub scalar : ℕ → List Value → State → Outcome
scalar at (V.Str name ∷ V.«Type» t ∷ []) state =
    with_name at name (makes (C.Scalar name t) t false state)
scalar at _ state = wrong at

abbrev pub constant_by : ℕ → StreamType → Result ℕ TypeError → State → Outcome
constant_by at t (Err e) state = Fails (E.Typing at e)
constant_by at t (Ok bits) state = makes (C.Constant bits t) t false state

abbrev pub constant : ℕ → List Value → State → Outcome
constant at (V.«Type» t ∷ V.Int n ∷ []) state =
    constant_by at t (literal_bits (mode_of state.modes) (is_negative n) (unsigned_abs n) 0 t) state
constant at (V.«Type» t ∷ V.Literal negative digits tens ∷ []) state =
    constant_by at t (literal_bits (mode_of state.modes) negative digits tens t) state
constant at _ state = wrong at

abbrev pub offset : ℕ → List Value → State → Outcome
offset at (V.Stream n t feed ∷ V.Int k ∷ []) state =
    where_so (nat_le (unsigned_abs k) 1048576) (E.OffsetRange at k)
    (makes (C.Offset n k t) t false state)
offset at _ state = wrong at

abbrev pub counter_by : ℕ → Result CounterDigit CounterError → State → Outcome
counter_by at (Err e) state = Fails (E.Counter at e)
counter_by at (Ok d) state = makes (C.Counter d) (T.UInt d.bits) false state

abbrev pub counter_of : ℕ → ℤ → Option ℤ → State → Outcome
counter_of at (pos (suc n)) max state =
    elim (nat_lt n 128) [
      | true ↦ counter_by at (simple_of (suc n) max) state
      | false ↦ Fails
          (E.TypeRange at)
    ]
counter_of at bits max state = Fails (E.TypeRange at)

abbrev pub counter : ℕ → List Value → State → Outcome
counter at (V.Int bits ∷ []) state = counter_of at bits None state
counter at (V.Int bits ∷ V.Int max ∷ []) state = counter_of at bits (Some max) state
counter at _ state = wrong at

abbrev pub make_chain : State → Outcome
make_chain state = Does (C.Chain ∷ []) (V.Chain state.made) (record state { made = state.made + 1 })

-- the bits of a chain's digits so far
abbrev pub bits_of : List Digit → ℕ → ℕ
bits_of [] chain = 0
bits_of (d ∷ ds) chain = bits_of ds chain + elim (d.chain == chain) [ true ↦ d.bits | false ↦ 0 ]

abbrev pub digit_by : ℕ → ℕ → Result CounterDigit CounterError → State → Outcome
digit_by at chain (Err e) state = Fails (E.Counter at e)
digit_by at chain (Ok d) state =
    where_so (nat_le (bits_of state.digits chain + d.bits) 128)
    (E.Counter at (TooWide (bits_of state.digits chain + d.bits)))
    (Does (C.ChainDigit chain d ∷ []) (V.Stream state.made (T.UInt d.bits) false)
    (record state {
      made = state.made + 1;
      digits =
          record { chain = chain; bits = d.bits } ∷ state.digits;
    }))

abbrev pub add_counter : ℕ → List Value → State → Outcome
add_counter at (V.Chain chain ∷ V.Int max ∷ V.Int inc ∷ []) state =
    digit_by at chain (digit_of max inc) state
add_counter at _ state = wrong at

abbrev pub hold : ℕ → List Value → State → Outcome
hold at (V.Stream n t feed ∷ V.Stream m u other ∷ []) state =
    with_control at u (makes (C.Hold n m t) t false state)
hold at _ state = wrong at

abbrev pub pop : ℕ → List RoundMode → State → Outcome
pop at [] state = Fails (E.PopEmpty at)
pop at (mode ∷ modes) state = gives V.Nothing (record state { modes = modes })

-- the left side is a feed and the right side a stream, of one type; or, in a manager, they are ends
-- that may stand on their sides
abbrev pub connect : ℕ → List Value → State → Outcome
connect at (V.Stream n t true ∷ V.Stream m u feed ∷ []) state =
    where_so (same_type t u) (E.Typing at TypesDiffer) (Does (C.Connect n m ∷ []) V.Nothing state)
connect at (V.Link left W.Left ∷ V.Link right W.Right ∷ []) state = joined left right state
connect at _ state = wrong at
