-- Each row keeps what a building run keeps, and gives a value that is fit.
use Rattle.std.proofs.Common.{
  ◌≡◌,
  ℕ,
  ℤ,
  pos,
  negsuc,
  zero,
  suc,
  ◌+◌,
  ◌≤◌,
  ◌<◌,
  List,
  [],
  ◌∷◌,
  ◌++◌,
  refl,
  arith,
  inl,
  inr,
  true,
  false,
  Ok,
  Err,
  Some,
  None,
  subst,
  length,
}
use Rattle.std.specs.Prelude.{Option, Bool, Result, if◌then◌else◌, nat_le, nat_lt, ◌&&◌, not, ◌==◌, is_none}
use Rattle.std.specs.List.{list_all}
use Rattle.std.specs.Fmt.{signed_decimal}
use Rattle.std.proofs.lemmas.Bool.Decides.{nat_tests}
use Rattle.mx_bits.specs.declared.op.Op.{Op}
use Rattle.mx_bits.specs.declared.op.Op.TheVariants as O
use Rattle.counter_chains.specs.declared.digits.CounterDigit.{CounterDigit}
use Rattle.counter_chains.specs.declared.digits.CounterError.{CounterError}
use Rattle.counter_chains.specs.declared.digits.CounterError.TheVariants.{TooWide}
use Rattle.counter_chains.specs.Digits.{digit_of, simple_of, IsDigit}
use Rattle.fix_arith.specs.declared.types.TypeError.TheVariants.{TypesDiffer}
use Rattle.fix_arith.specs.declared.types.RoundMode.{RoundMode}
use Rattle.fix_arith.specs.declared.types.StreamType.{StreamType}
use Rattle.fix_arith.specs.declared.types.StreamType.TheVariants as T
use Rattle.fix_arith.specs.declared.types.TypeError.{TypeError}
use Rattle.fix_arith.specs.Types.{width_of, HasWidth}
use Rattle.kernel_calls.specs.declared.call.Call.{Call}
use Rattle.kernel_calls.specs.declared.call.Call.TheVariants as C
use Rattle.kernel_calls.specs.Laws.{is_port_name}
use Rattle.kernel_meaning.specs.declared.value.Value.{Value}
use Rattle.kernel_meaning.specs.declared.value.Value.TheVariants as V
use Rattle.kernel_meaning.specs.declared.state.State.{State}
use Rattle.kernel_meaning.specs.declared.row.Row.{Row}
use Rattle.kernel_meaning.specs.declared.row.Row.TheVariants as R
use Rattle.kernel_meaning.specs.declared.row.Sign.{Sign}
use Rattle.kernel_meaning.specs.declared.row.Sign.TheVariants as S
use Rattle.kernel_meaning.specs.declared.error.EvalError.TheVariants as E
use Rattle.kernel_meaning.specs.declared.plan.Arg.{Arg}
use Rattle.kernel_meaning.specs.declared.plan.Plan.{Plan}
use Rattle.kernel_meaning.specs.declared.plan.Side.TheVariants as W
use Rattle.kernel_meaning.specs.declared.error.EvalError.{EvalError}
use Rattle.kernel_meaning.specs.Answer.{Outcome, Fails, Does}
use Rattle.kernel_meaning.specs.Arrays.{element}
use Rattle.kernel_meaning.specs.Typing.{same_type}
use Rattle.kernel_meaning.specs.ArrayRows
use Rattle.kernel_meaning.specs.HostRows
use Rattle.kernel_meaning.specs.LibraryRows
use Rattle.kernel_meaning.specs.ManagerRows
use Rattle.kernel_meaning.specs.Outcomes
use Rattle.kernel_meaning.specs.Rows
use Rattle.kernel_meaning.specs.SignRows
use Rattle.kernel_meaning.specs.StreamRows
use Rattle.kernel_meaning.specs.TypeRows
use Rattle.kernel_meaning.proofs.DigitLaws.{digit_has_bits}
use Rattle.kernel_meaning.proofs.TypingLaws.{
  both_left,
  both_right,
  MayHave,
  may_two,
  may_neg,
  may_not,
  may_shl,
  may_shr,
  may_mux,
  may_cast,
  may_round,
}
use Rattle.kernel_rows.specs.Fit.{IsFit, AreFit}
use Rattle.kernel_rows.specs.Given.{IsDone, IsGiven}
use Rattle.kernel_rows.specs.Kept.{IsFitRow, IsKept, Keeps, RowKeeps, ValueKeeps}
use Rattle.kernel_rows.specs.declared.done.Done.{Done}
use Rattle.kernel_rows.proofs.OperationKept.{KeptOutcome, kept_if, with_made, operation_kept}
use Rattle.kernel_rows.proofs.ArraysKept.{element_fit, arrays_by_kept}

module _ (state : State) (s : IsKept state) where
  same : Keeps state state
  same = record { kept = s; variables = refl; fields = refl; left = omega arith }

  given : (value : Value) → IsFit value → KeptOutcome state (Outcomes.gives value state)
  given value v = record { holds = (v, same) }

  kept_makes : (call : Call) (t : StreamType) (feed : Bool) → HasWidth t
      → KeptOutcome state (Outcomes.makes call t feed state)
  kept_makes call t feed w = record { holds = (w, with_made state (state.made + 1) s) }

  -- Numbers, booleans and strings.

  quotient_kept : (at : ℕ) (x y : ℤ) → KeptOutcome state (HostRows.quotient at x y state)
  quotient_kept at x (pos zero) = record { holds = tt }
  quotient_kept at x (pos (suc y)) = given _ tt
  quotient_kept at x (negsuc y) = given _ tt

  remainder_kept : (at : ℕ) (x y : ℤ) → KeptOutcome state (HostRows.remainder at x y state)
  remainder_kept at x (pos zero) = record { holds = tt }
  remainder_kept at x (pos (suc y)) = given _ tt
  remainder_kept at x (negsuc y) = given _ tt

  whole_kept : (sign : Sign) (at : ℕ) (x y : ℤ)
      → KeptOutcome state (HostRows.whole_between sign at x y state)
  whole_kept S.Divide at x y = quotient_kept at x y
  whole_kept S.Remainder at x y = remainder_kept at x y
  whole_kept S.StreamEqual at x y = record { holds = tt }
  whole_kept S.StreamNotEqual at x y = record { holds = tt }
  whole_kept _ at x y = given _ tt

  flag_kept : (sign : Sign) (at : ℕ) (a b : Bool)
      → KeptOutcome state (HostRows.flag_between sign at a b state)
  flag_kept S.And at a b = given _ tt
  flag_kept S.Or at a b = given _ tt
  flag_kept S.Xor at a b = given _ tt
  flag_kept S.Equal at a b = given _ tt
  flag_kept S.NotEqual at a b = given _ tt
  flag_kept _ at a b = record { holds = tt }

  text_kept : (at : ℕ) (text : List ℕ) → KeptOutcome state (HostRows.text_of at text state)
  text_kept at text = kept_if _ _ state _ (λ e. given (V.Str text) tt)

  texts_kept : (sign : Sign) (at : ℕ) (a b : List ℕ)
      → KeptOutcome state (HostRows.texts_between sign at a b state)
  texts_kept S.Add at a b = text_kept at (a ++ b)
  texts_kept _ at a b = record { holds = tt }

  -- Streams.

  stream_width : (values : List Value) (t : StreamType) → AreFit values
      → StreamRows.first_stream values ≡ Some t → HasWidth t
  stream_width [] t v e = absurd (cc)
  stream_width (V.Stream n u feed ∷ values) t v e = let p : u ≡ t = cc in subst HasWidth p v.0
  stream_width (_ ∷ values) t v e = stream_width values t v.1 e

  with_kept : (at : ℕ) (sign : Sign) (a b : Value) (t : Option StreamType)
      → ((u : StreamType) → t ≡ Some u → HasWidth u) → AreFit (a ∷ b ∷ [])
      → KeptOutcome state (SignRows.operation_with at (SignRows.op_of sign) t (a ∷ b ∷ []) state)
  with_kept at sign a b None w v =
      elim (SignRows.op_of sign) as (λ o.
      KeptOutcome state (SignRows.operation_with at o None (a ∷ b ∷ []) state))
      [ None ↦ record { holds = tt } | Some op ↦ record { holds = tt } ]
  with_kept at S.Add a b (Some t) w v =
      operation_kept at O.Add (pos 0) t [] (a ∷ b ∷ []) state (w t refl) v s
      (may_two O.Add refl)
  with_kept at S.Subtract a b (Some t) w v =
      operation_kept at O.Sub (pos 0) t [] (a ∷ b ∷ []) state (w t refl) v s
      (may_two O.Sub refl)
  with_kept at S.Multiply a b (Some t) w v =
      operation_kept at O.Mul (pos 0) t [] (a ∷ b ∷ []) state (w t refl) v s
      (may_two O.Mul refl)
  with_kept at S.Divide a b (Some t) w v =
      operation_kept at O.Div (pos 0) t [] (a ∷ b ∷ []) state (w t refl) v s
      (may_two O.Div refl)
  with_kept at S.And a b (Some t) w v =
      operation_kept at O.And (pos 0) t [] (a ∷ b ∷ []) state (w t refl) v s
      (may_two O.And refl)
  with_kept at S.Or a b (Some t) w v =
      operation_kept at O.Or (pos 0) t [] (a ∷ b ∷ []) state (w t refl) v s
      (may_two O.Or refl)
  with_kept at S.Xor a b (Some t) w v =
      operation_kept at O.Xor (pos 0) t [] (a ∷ b ∷ []) state (w t refl) v s
      (may_two O.Xor refl)
  with_kept at S.StreamEqual a b (Some t) w v =
      operation_kept at O.Eq (pos 0) t [] (a ∷ b ∷ []) state (w t refl) v s
      (may_two O.Eq refl)
  with_kept at S.StreamNotEqual a b (Some t) w v =
      operation_kept at O.Ne (pos 0) t [] (a ∷ b ∷ []) state (w t refl) v s
      (may_two O.Ne refl)
  with_kept at S.Less a b (Some t) w v =
      operation_kept at O.Lt (pos 0) t [] (a ∷ b ∷ []) state (w t refl) v s
      (may_two O.Lt refl)
  with_kept at S.LessEqual a b (Some t) w v =
      operation_kept at O.Le (pos 0) t [] (a ∷ b ∷ []) state (w t refl) v s
      (may_two O.Le refl)
  with_kept at S.Greater a b (Some t) w v =
      operation_kept at O.Gt (pos 0) t [] (a ∷ b ∷ []) state (w t refl) v s
      (may_two O.Gt refl)
  with_kept at S.GreaterEqual a b (Some t) w v =
      operation_kept at O.Ge (pos 0) t [] (a ∷ b ∷ []) state (w t refl) v s
      (may_two O.Ge refl)
  with_kept at _ a b (Some t) w v = record { holds = tt }

  plain_kept : (sign : Sign) (at : ℕ) (a b : Value) → IsFit a → IsFit b →
      KeptOutcome state (Outcomes.where_so (StreamRows.is_operand a && StreamRows.is_operand b)
      (E.WrongKind at) (SignRows.operation_with at (SignRows.op_of sign)
      (StreamRows.first_stream (a ∷ b ∷ [])) (a ∷ b ∷ []) state))
  plain_kept sign at a b v w =
      kept_if _ _ state _ (λ e. with_kept at sign a b (StreamRows.first_stream (a ∷ b ∷ []))
      (λ u p. stream_width (a ∷ b ∷ []) u (v, (w, tt)) p) (v, (w, tt)))

  stream_kept : (sign : Sign) (at : ℕ) (a b : Value) → IsFit a → IsFit b
      → KeptOutcome state (SignRows.stream_between sign at a b state)
  stream_kept S.ShiftLeft at (V.Stream n t feed) (V.Int k) v w =
      operation_kept at O.Shl k t [] (V.Stream n t feed ∷ []) state v (v, tt) s (may_shl k)
  stream_kept S.ShiftRight at (V.Stream n t feed) (V.Int k) v w =
      operation_kept at O.Shr k t [] (V.Stream n t feed ∷ []) state v (v, tt) s (may_shr k)
  stream_kept sign at a b v w = plain_kept sign at a b v w

  between_kept : (sign : Sign) (at : ℕ) (a b : Value) → IsFit a → IsFit b
      → KeptOutcome state (SignRows.between sign at a b state)
  between_kept sign at (V.Stream n t feed) b v w = stream_kept sign at (V.Stream n t feed) b v w
  between_kept sign at a (V.Stream n t feed) v w = stream_kept sign at a (V.Stream n t feed) v w
  between_kept sign at (V.Int x) (V.Int y) v w = whole_kept sign at x y
  between_kept sign at (V.Flag a) (V.Flag b) v w = flag_kept sign at a b
  between_kept sign at (V.Str a) (V.Str b) v w = texts_kept sign at a b
  between_kept sign at (V.Str a) (V.Int y) v w = texts_kept sign at a (signed_decimal y)
  between_kept sign at (V.Int x) (V.Str b) v w = texts_kept sign at (signed_decimal x) b
  between_kept sign at _ _ v w = record { holds = tt }

  two_kept : (sign : Sign) (at : ℕ) (values : List Value) → AreFit values
      → KeptOutcome state (SignRows.between_two sign at values state)
  two_kept sign at (a ∷ b ∷ []) v = between_kept sign at a b v.0 v.1.0
  two_kept sign at _ v = record { holds = tt }

  mux_by_kept : (at : ℕ) (selector : Value) (options : List Value) (u : Option StreamType)
      → ((t : StreamType) → u ≡ Some t → HasWidth t) → IsFit selector
      → AreFit options →
      KeptOutcome state (StreamRows.mux_by at selector options u state)
  mux_by_kept at (V.Stream n t feed) options (Some u) w v vs =
      kept_if _ _ state _ (λ e. operation_kept at O.Mux (pos 0) u [] (V.Stream n t feed ∷ options)
      state (w u refl) (v, vs) s (may_mux (length options)))
  mux_by_kept at _ options _ w v vs = record { holds = tt }

  mux_kept : (at : ℕ) (values : List Value) → AreFit values
      → KeptOutcome state (StreamRows.mux at values state)
  mux_kept at [] v = record { holds = tt }
  mux_kept at (selector ∷ options) v =
      mux_by_kept at selector options (StreamRows.first_stream options)
      (λ t e. stream_width options t v.1 e) v.0 v.1

  choose_kept : (at : ℕ) (values : List Value) → AreFit values
      → KeptOutcome state (StreamRows.choose at values state)
  choose_kept at (V.Stream n t feed ∷ a ∷ b ∷ []) v =
      let chosen = StreamRows.mux at (V.Stream n t feed ∷ b ∷ a ∷ []) state in
      kept_if (list_all StreamRows.is_operand (a ∷ b ∷ [])
      && not (is_none (StreamRows.first_stream (a ∷ b ∷ [])))) (E.WrongKind at) state
      (Outcomes.where_so (StreamRows.is_bit t) (E.Typing at TypesDiffer) chosen)
      (λ e. kept_if (StreamRows.is_bit t) (E.Typing at TypesDiffer) state chosen
      (λ f. mux_kept at (V.Stream n t feed ∷ b ∷ a ∷ []) (v.0, (v.1.1.0, (v.1.0, tt)))))
  choose_kept at _ v = record { holds = tt }

  may_cast_by : (b : Bool) (u : StreamType) → HasWidth u
      → MayHave (if b then O.Round else O.Cast) (pos 0) (u ∷ []) 1
  may_cast_by true u w = may_round u w
  may_cast_by false u w = may_cast u w

  cast_kept : (at : ℕ) (values : List Value) → AreFit values
      → KeptOutcome state (StreamRows.cast at values state)
  cast_kept at (V.Stream n t feed ∷ V.«Type» u ∷ []) v =
      operation_kept at (StreamRows.cast_op t u) (pos 0) t (u ∷ []) (V.Stream n t feed ∷ []) state v.0 (v.0, tt) s (may_cast_by _ u v.1.0)
  cast_kept at _ v = record { holds = tt }

  prefix_kept : (at : ℕ) (op : Op) (values : List Value) → MayHave op (pos 0) [] 1
      → AreFit values → KeptOutcome state (SignRows.prefixed at op values state)
  prefix_kept at op (V.Stream n t feed ∷ []) m v =
      operation_kept at op (pos 0) t [] (V.Stream n t feed ∷ []) state v.0 v s m
  prefix_kept at op _ m v = record { holds = tt }

  minus_kept : (at : ℕ) (values : List Value) → AreFit values
      → KeptOutcome state (SignRows.minus at values state)
  minus_kept at (V.Int n ∷ []) v = given _ tt
  minus_kept at (V.Literal false digits tens ∷ []) v = given _ v.0
  minus_kept at values v = prefix_kept at O.Neg values may_neg v

  turned_kept : (at : ℕ) (values : List Value) → AreFit values
      → KeptOutcome state (SignRows.complemented at values state)
  turned_kept at (V.Int n ∷ []) v = given _ tt
  turned_kept at values v = prefix_kept at O.Not values may_not v

  denied_kept : (at : ℕ) (values : List Value)
      → KeptOutcome state (SignRows.negated at values state)
  denied_kept at (V.Flag b ∷ []) = given _ tt
  denied_kept at _ = record { holds = tt }

  -- Arrays.

  read_kept : (at : ℕ) (found : Option Value)
      → ((value : Value) → found ≡ Some value → IsFit value)
      → KeptOutcome state (ArrayRows.read at found state)
  read_kept at None h = record { holds = tt }
  read_kept at (Some V.Nothing) h = record { holds = tt }
  read_kept at (Some value) h = given value (h value refl)

  indexed_kept : (at : ℕ) (values : List Value)
      → KeptOutcome state (ArrayRows.indexed at values state)
  indexed_kept at (V.Array n of ∷ V.Int place ∷ []) =
      read_kept at (element state.arrays n place)
      (λ value e. element_fit state.arrays n place value s.arrays e)
  indexed_kept at _ = record { holds = tt }

  long_kept : (at : ℕ) (values : List Value) → KeptOutcome state (ArrayRows.long at values state)
  long_kept at (V.Array n of ∷ []) = given _ tt
  long_kept at _ = record { holds = tt }

  -- Types.

  at_least : (n m : ℕ) → nat_le n m ≡ true → n ≤ m
  at_least n m e = grind (arith, nat_tests)

  below : (n m : ℕ) → nat_lt n m ≡ true → n < m
  below n m e = grind (arith, nat_tests)

  of_width_kept : (at : ℕ) (n : ℤ) (type : ℕ → StreamType) → ((n : ℕ) → width_of (type n) ≡ n)
      → KeptOutcome state (TypeRows.of_width at n type state)
  of_width_kept at (pos zero) type h = record { holds = tt }
  of_width_kept at (pos (suc n)) type h =
      kept_if _ _ state _ (λ e. given (V.«Type» (type (suc n))) (let w = h (suc n) in let l =
      below n 128 e in (omega arith, omega arith)))
  of_width_kept at (negsuc n) type h = record { holds = tt }

  width_kept : (at : ℕ) (type : ℕ → StreamType) (values : List Value)
      → ((n : ℕ) → width_of (type n) ≡ n)
      → KeptOutcome state (TypeRows.width_type at type values state)
  width_kept at type (V.Int n ∷ []) h = of_width_kept at n type h
  width_kept at type _ h = record { holds = tt }

  fix_of_kept : (at : ℕ) (whole frac : ℤ) (signed : Bool)
      → KeptOutcome state (TypeRows.fix_of at whole frac signed state)
  fix_of_kept at (pos whole) (pos frac) signed =
      kept_if _ _ state _ (λ e. given (V.«Type» (T.Fix whole frac signed)) (
        at_least 1 (whole + frac) (both_left (nat_le 1 (whole + frac)) _ e),
        at_least (whole + frac)
            128 (both_right (nat_le 1 (whole + frac)) _ e),
      ))
  fix_of_kept at _ _ signed = record { holds = tt }

  fix_kept : (at : ℕ) (signed : Bool) (values : List Value)
      → KeptOutcome state (TypeRows.fix_type at signed values state)
  fix_kept at signed (V.Int whole ∷ V.Int frac ∷ []) = fix_of_kept at whole frac signed
  fix_kept at signed _ = record { holds = tt }

  -- The library.

  feed_kept : (at : ℕ) (values : List Value) → AreFit values
      → KeptOutcome state (LibraryRows.new_instance at values state)
  feed_kept at (V.«Type» t ∷ []) v = kept_makes _ t true v.0
  feed_kept at _ v = record { holds = tt }

  input_kept : (at : ℕ) (values : List Value) → AreFit values
      → KeptOutcome state (LibraryRows.input at values state)
  input_kept at (V.Str name ∷ V.«Type» t ∷ []) v =
      kept_if _ _ state _ (λ e. kept_makes (C.Input name t None) t false v.1.0)
  input_kept at (V.Str name ∷ V.«Type» t ∷ V.Stream c u feed ∷ []) v =
      let made = Outcomes.makes (C.Input name t (Some c)) t false state in
      kept_if (StreamRows.is_bit u) (E.Typing at TypesDiffer) state
      (Outcomes.with_name at name made) (λ b. kept_if (is_port_name name) (E.BadPortName at) state
      made (λ e. kept_makes (C.Input name t (Some c)) t false v.1.0))
  input_kept at _ v = record { holds = tt }

  ends_kept : (call : Call) → KeptOutcome state (Outcomes.ends call state)
  ends_kept call = record { holds = (tt, with_made state (state.made + 1) s) }

  output_kept : (at : ℕ) (values : List Value) → KeptOutcome state (LibraryRows.output at values state)
  output_kept at (V.Str name ∷ V.Stream n t feed ∷ V.«Type» u ∷ []) =
      let ended = Outcomes.ends (C.Output name n None t) state in
      kept_if (same_type t u) (E.Typing at TypesDiffer) state (Outcomes.with_name at name ended)
      (λ p. kept_if (is_port_name name) (E.BadPortName at) state ended
      (λ e. ends_kept (C.Output name n None t)))
  output_kept at (V.Str name ∷ V.Stream n t feed ∷ V.«Type» u ∷ V.Stream c w other ∷ []) =
      let ended = Outcomes.ends (C.Output name n (Some c) t) state in
      let called = Outcomes.with_name at name ended in
      kept_if (same_type t u) (E.Typing at TypesDiffer) state
      (LibraryRows.with_control at w called) (λ p. kept_if (StreamRows.is_bit w)
      (E.Typing at TypesDiffer) state called (λ b. kept_if (is_port_name name) (E.BadPortName at)
      state ended (λ e. ends_kept (C.Output name n (Some c) t))))
  output_kept at _ = record { holds = tt }

  scalar_kept : (at : ℕ) (values : List Value) → AreFit values
      → KeptOutcome state (LibraryRows.scalar at values state)
  scalar_kept at (V.Str name ∷ V.«Type» t ∷ []) v =
      kept_if _ _ state _ (λ e. kept_makes (C.Scalar name t) t false v.1.0)
  scalar_kept at _ v = record { holds = tt }

  constant_by_kept : (at : ℕ) (t : StreamType) (r : Result ℕ TypeError) → HasWidth t
      → KeptOutcome state (LibraryRows.constant_by at t r state)
  constant_by_kept at t (Err e) w = record { holds = tt }
  constant_by_kept at t (Ok bits) w = kept_makes (C.Constant bits t) t false w

  constant_kept : (at : ℕ) (values : List Value) → AreFit values
      → KeptOutcome state (LibraryRows.constant at values state)
  constant_kept at (V.«Type» t ∷ V.Int n ∷ []) v = constant_by_kept at t _ v.0
  constant_kept at (V.«Type» t ∷ V.Literal negative digits tens ∷ []) v =
      constant_by_kept at t _ v.0
  constant_kept at _ v = record { holds = tt }

  offset_kept : (at : ℕ) (values : List Value) → AreFit values
      → KeptOutcome state (LibraryRows.offset at values state)
  offset_kept at (V.Stream n t feed ∷ V.Int k ∷ []) v =
      kept_if _ _ state _ (λ e. kept_makes (C.Offset n k t) t false v.0)
  offset_kept at _ v = record { holds = tt }

  digit_width : (d : CounterDigit) → IsDigit d → HasWidth (T.UInt d.bits)
  digit_width d i = digit_has_bits d i

  counter_by_kept : (at : ℕ) (r : Result CounterDigit CounterError)
      → ((d : CounterDigit) → r ≡ Ok d → IsDigit d)
      → KeptOutcome state (LibraryRows.counter_by at r state)
  counter_by_kept at (Err e) h = record { holds = tt }
  counter_by_kept at (Ok d) h =
      kept_makes (C.Counter d) (T.UInt d.bits) false (digit_width d (h d refl))

  counter_in : (at n : ℕ) (max : Option ℤ) (b : Bool) → nat_lt n 128 ≡ b
      → KeptOutcome state
      (elim b [
        | true ↦ LibraryRows.counter_by at (simple_of (suc n) max) state
        | false ↦ Fails
            (E.TypeRange at)
      ])
  counter_in at n max true e = counter_by_kept at (simple_of (suc n) max) (λ d p. let l =
      below n 128 e in inr (suc n, max, omega arith, omega arith, p))
  counter_in at n max false e = record { holds = tt }

  counter_of_kept : (at : ℕ) (bits : ℤ) (max : Option ℤ)
      → KeptOutcome state (LibraryRows.counter_of at bits max state)
  counter_of_kept at (pos zero) max = record { holds = tt }
  counter_of_kept at (pos (suc n)) max = counter_in at n max (nat_lt n 128) refl
  counter_of_kept at (negsuc n) max = record { holds = tt }

  counter_kept : (at : ℕ) (values : List Value)
      → KeptOutcome state (LibraryRows.counter at values state)
  counter_kept at (V.Int bits ∷ []) = counter_of_kept at bits None
  counter_kept at (V.Int bits ∷ V.Int max ∷ []) = counter_of_kept at bits (Some max)
  counter_kept at _ = record { holds = tt }

  chain_kept : KeptOutcome state (LibraryRows.make_chain state)
  chain_kept = record { holds = (tt, with_made state (state.made + 1) s) }

  counts_kept : (chain bits other : ℕ) (b : Bool)
      → LibraryRows.bits_of state.digits chain + bits ≤ 128 → (chain == other) ≡ b
      → LibraryRows.bits_of state.digits other + elim b [ true ↦ bits | false ↦ 0 ] ≤ 128
  counts_kept chain bits other true l e =
      let p : chain ≡ other = grind (arith, nat_tests) in
      subst (λ n. LibraryRows.bits_of state.digits n + bits ≤ 128) p l
  counts_kept chain bits other false l e = let d = s.digits other in omega arith

  digit_by_kept : (at chain : ℕ) (r : Result CounterDigit CounterError)
      → ((d : CounterDigit) → r ≡ Ok d → IsDigit d)
      → KeptOutcome state (LibraryRows.digit_by at chain r state)
  digit_by_kept at chain (Err e) h = record { holds = tt }
  digit_by_kept at chain (Ok d) h =
      let bits = LibraryRows.bits_of state.digits chain + d.bits in
      kept_if (nat_le bits 128) (E.Counter at (TooWide bits)) state
      (Does (C.ChainDigit chain d ∷ []) (V.Stream state.made (T.UInt d.bits) false)
      (record state {
        made = state.made + 1;
        digits = record { chain = chain; bits = d.bits } ∷ state.digits;
      }))
      (λ e. record {
        holds = (
          digit_width d (h d refl),
          record {
            kept = record {
              variables = s.variables;
              fields = s.fields;
              arrays = s.arrays;
              digits = λ other. counts_kept chain d.bits other (chain == other)
                  (at_least bits 128 e) refl;
            };
            variables = refl;
            fields = refl;
            left = omega arith;
          },
        );
      })

  add_kept : (at : ℕ) (values : List Value)
      → KeptOutcome state (LibraryRows.add_counter at values state)
  add_kept at (V.Chain chain ∷ V.Int max ∷ V.Int inc ∷ []) =
      digit_by_kept at chain (digit_of max inc) (λ d e. inl (max, inc, e))
  add_kept at _ = record { holds = tt }

  hold_kept : (at : ℕ) (values : List Value) → AreFit values
      → KeptOutcome state (LibraryRows.hold at values state)
  hold_kept at (V.Stream n t feed ∷ V.Stream m u other ∷ []) v =
      kept_if _ _ state _ (λ b. kept_makes (C.Hold n m t) t false v.0)
  hold_kept at _ v = record { holds = tt }

  with_modes : (modes : List RoundMode) → Keeps state (record state { modes = modes })
  with_modes modes = record {
    kept = record {
      variables = s.variables;
      fields = s.fields;
      arrays = s.arrays;
      digits = s.digits;
    };
    variables = refl;
    fields = refl;
    left = omega arith;
  }

  pop_kept : (at : ℕ) (modes : List RoundMode) → KeptOutcome state (LibraryRows.pop at modes state)
  pop_kept at [] = record { holds = tt }
  pop_kept at (mode ∷ modes) = record { holds = (tt, with_modes modes) }

  -- Managers.

  planned : (plan : Plan) (value : Value) → IsFit value
      → KeptOutcome state (Does [] value (ManagerRows.with_plan state plan))
  planned plan value v = record {
    holds = (
      v,
      record {
        kept = record {
          variables = s.variables;
          fields = s.fields;
          arrays = s.arrays;
          digits = s.digits;
        };
        variables = refl;
        fields = refl;
        left = omega arith;
      },
    );
  }

  connect_kept : (at : ℕ) (values : List Value)
      → KeptOutcome state (LibraryRows.connect at values state)
  connect_kept at (V.Stream n t true ∷ V.Stream m u feed ∷ []) =
      kept_if (same_type t u) (E.Typing at TypesDiffer) state
      (Does (C.Connect n m ∷ []) V.Nothing state) (λ e. record { holds = (tt, same) })
  connect_kept at (V.Link left W.Left ∷ V.Link right W.Right ∷ []) = planned _ V.Nothing tt
  connect_kept at _ = record { holds = tt }

  from_kept : (at : ℕ) (values : List Value)
      → KeptOutcome state (ManagerRows.stream_from_cpu at values state)
  from_kept at (V.Str name ∷ []) = kept_if _ _ state _ (λ e. planned _ _ tt)
  from_kept at _ = record { holds = tt }

  to_kept : (at : ℕ) (values : List Value)
      → KeptOutcome state (ManagerRows.stream_to_cpu at values state)
  to_kept at (V.Str name ∷ []) = kept_if _ _ state _ (λ e. planned _ _ tt)
  to_kept at _ = record { holds = tt }

  input_of_kept : (at : ℕ) (values : List Value)
      → KeptOutcome state (ManagerRows.kernel_input at values state)
  input_of_kept at (V.Block kernel ∷ V.Str name ∷ []) = kept_if _ _ state _ (λ e. given _ tt)
  input_of_kept at _ = record { holds = tt }

  output_of_kept : (at : ℕ) (values : List Value)
      → KeptOutcome state (ManagerRows.kernel_output at values state)
  output_of_kept at (V.Block kernel ∷ V.Str name ∷ []) = kept_if _ _ state _ (λ e. given _ tt)
  output_of_kept at _ = record { holds = tt }

  by_kept : (at : ℕ) (name : List ℕ) (class : ℕ) (args : Option (List Arg))
      → KeptOutcome state (ManagerRows.kernel_by at name class args state)
  by_kept at name class None = record { holds = tt }
  by_kept at name class (Some args) = planned _ _ tt

  pub added_kept : (at : ℕ) (name : List ℕ) (class : ℕ) (values : List Value)
      → KeptOutcome state (ManagerRows.kernel_added at name class values state)
  added_kept at name class values = by_kept at name class (ManagerRows.args_of values)

  pub row_kept : (row : Row) (at : ℕ) (values : List Value) → IsFitRow row → AreFit values
      → KeptOutcome state (Rows.row_of row at values state)
  unfolding Rows.row_of
  row_kept (R.Gives value) at values r v = given value r
  row_kept (R.OwnMethod name) at values r v = record { holds = tt }
  row_kept (R.Binary sign) at values r v = two_kept sign at values v
  row_kept R.Negate at values r v = minus_kept at values v
  row_kept R.Complement at values r v = turned_kept at values v
  row_kept R.Not at values r v = denied_kept at values
  row_kept R.LeastInt at values r v = given _ tt
  row_kept R.Element at values r v = indexed_kept at values
  row_kept R.Length at values r v = long_kept at values
  row_kept (R.NewArray of) at values r v =
      arrays_by_kept at of (ArrayRows.sizes_of values) state s
  row_kept R.UIntType at values r v = width_kept at T.UInt values (λ n. refl)
  row_kept R.IntType at values r v = width_kept at T.Int values (λ n. refl)
  row_kept (R.FixType signed) at values r v = fix_kept at signed values
  row_kept R.WrongArguments at values r v = record { holds = tt }
  row_kept R.NewInstance at values r v = feed_kept at values v
  row_kept R.Cast at values r v = cast_kept at values v
  row_kept R.AddCounter at values r v = add_kept at values
  row_kept R.Input at values r v = input_kept at values v
  row_kept R.Output at values r v = output_kept at values
  row_kept R.ScalarInput at values r v = scalar_kept at values v
  row_kept R.ConstantVar at values r v = constant_kept at values v
  row_kept R.Offset at values r v = offset_kept at values v
  row_kept R.Mux at values r v = mux_kept at values v
  row_kept R.Choose at values r v = choose_kept at values v
  row_kept R.SimpleCounter at values r v = counter_kept at values
  row_kept R.MakeCounterChain at values r v = chain_kept
  row_kept R.StreamHold at values r v = hold_kept at values v
  row_kept (R.PushRounding mode) at values r v = record { holds = (tt, with_modes _) }
  row_kept R.PopRounding at values r v = pop_kept at state.modes
  row_kept R.Connect at values r v = connect_kept at values
  row_kept R.StreamFromCpu at values r v = from_kept at values
  row_kept R.StreamToCpu at values r v = to_kept at values
  row_kept R.KernelInput at values r v = input_of_kept at values
  row_kept R.KernelOutput at values r v = output_of_kept at values

-- the same of what the code answers
kept_done : (old new : State) (outcome : Outcome) (result : Result Done EvalError)
    → KeptOutcome old outcome → IsDone new outcome result → RowKeeps old new result
kept_done old new outcome (Ok done) k d = let e : outcome ≡ Does done.calls done.value new = d in
    (subst (KeptOutcome old) e k).holds
kept_done old new outcome (Err e) k d = tt

pub done_keeps : (row : Row) (at : ℕ) (values : List Value) (old new : State)
    (result : Result Done EvalError) → IsFitRow row → AreFit values → IsKept old
    → IsDone new (Rows.row_of row at values old) result → RowKeeps old new result
done_keeps row at values old new result r f s d =
    kept_done old new _ result (row_kept old s row at values r f) d

given_keeps : (old new : State) (outcome : Outcome) (result : Result Value EvalError)
    → KeptOutcome old outcome → IsGiven new outcome result → ValueKeeps old new result
given_keeps old new outcome (Ok value) k g = let e : outcome ≡ Does [] value new = g in
    (subst (KeptOutcome old) e k).holds
given_keeps old new outcome (Err e) k g = tt

pub added_keeps : (at : ℕ) (name : List ℕ) (class : ℕ) (values : List Value) (old new : State)
    (result : Result Value EvalError) → IsKept old
    → IsGiven new (ManagerRows.kernel_added at name class values old) result
    → ValueKeeps old new result
added_keeps at name class values old new result s g =
    given_keeps old new _ result (added_kept old s at name class values) g
