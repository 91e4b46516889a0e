-- Each row is lawful.
use Rattle.std.proofs.Common.{
  ◌≡◌,
  ℕ,
  ℤ,
  pos,
  negsuc,
  zero,
  suc,
  ◌+◌,
  ◌-◌,
  ◌<◌,
  ◌≤◌,
  List,
  [],
  ◌∷◌,
  ◌++◌,
  refl,
  ap,
  sym,
  ◌∙◌,
  arith,
  inl,
  inr,
  true,
  false,
  Ok,
  Err,
  Some,
  None,
  subst,
  length,
}
use Rattle.std.specs.Prelude.{
  Option,
  Bool,
  Result,
  if◌then◌else◌,
  unsigned_abs,
  nat_le,
  nat_lt,
  ◌&&◌,
  not,
  ◌==◌,
  slice_get,
}
use Rattle.std.specs.Prelude.{map, is_none}
use Rattle.std.specs.List.{list_all}
use Rattle.std.specs.Fmt.{signed_decimal}
use Rattle.std.proofs.lemmas.Bool.Decides.{nat_tests}
use Rattle.mx_bits.specs.declared.op.Op.{Op}
use Rattle.mx_bits.specs.declared.op.Op.TheVariants as O
use Rattle.counter_chains.specs.declared.digits.CounterDigit.{CounterDigit}
use Rattle.counter_chains.specs.declared.digits.CounterError.{CounterError}
use Rattle.counter_chains.specs.declared.digits.CounterError.TheVariants.{TooWide}
use Rattle.fix_arith.specs.declared.types.TypeError.TheVariants.{TypesDiffer}
use Rattle.counter_chains.specs.Digits.{digit_of, simple_of, IsDigit}
use Rattle.fix_arith.specs.declared.types.RoundMode.{RoundMode}
use Rattle.fix_arith.specs.declared.types.StreamType.{StreamType}
use Rattle.fix_arith.specs.declared.types.StreamType.TheVariants as T
use Rattle.fix_arith.specs.declared.types.TypeError.{TypeError}
use Rattle.fix_arith.specs.Types.{width_of, HasWidth}
use Rattle.kernel_calls.specs.declared.call.Call.{Call}
use Rattle.kernel_calls.specs.declared.call.Call.TheVariants as C
use Rattle.kernel_calls.specs.Calls.{Makes, count_of, bits_in}
use Rattle.kernel_calls.specs.Laws.{IsStream, IsControl, IsLawful}
use Rattle.kernel_meaning.specs.declared.value.Declared.{Declared}
use Rattle.kernel_meaning.specs.declared.value.Value.{Value}
use Rattle.kernel_meaning.specs.declared.value.Value.TheVariants as V
use Rattle.kernel_meaning.specs.declared.state.State.{State}
use Rattle.kernel_meaning.specs.declared.row.Row.{Row}
use Rattle.kernel_meaning.specs.declared.row.Row.TheVariants as R
use Rattle.kernel_meaning.specs.declared.row.Sign.{Sign}
use Rattle.kernel_meaning.specs.declared.row.Sign.TheVariants as S
use Rattle.kernel_meaning.specs.declared.error.EvalError.TheVariants as E
use Rattle.kernel_meaning.specs.Answer.{Fails, Does}
use Rattle.kernel_meaning.specs.Arrays.{array_of, element, nested, new_array, Grown, many}
use Rattle.kernel_meaning.specs.Typing.{same_type}
use Rattle.kernel_meaning.specs.ArrayRows
use Rattle.kernel_meaning.specs.HostRows
use Rattle.kernel_meaning.specs.LibraryRows
use Rattle.kernel_meaning.specs.Outcomes
use Rattle.kernel_meaning.specs.Rows
use Rattle.kernel_meaning.specs.SignRows
use Rattle.kernel_meaning.specs.StreamRows
use Rattle.kernel_meaning.specs.TypeRows
use Rattle.kernel_meaning.specs.Ways.{combined, combined_by, stepped, first_byte}
use Rattle.kernel_meaning.specs.Signs.{sign_of}
use Rattle.kernel_meaning.specs.Plans.{Library}
use Rattle.kernel_meaning.proofs.Kept.{History, with_call, IsHeld, AreHeld, AreFilled, Sound}
use Rattle.kernel_meaning.proofs.Later.{one_later, newest, bound_later, filled_later}
use Rattle.kernel_meaning.proofs.Going.{GoodOutcome, all_hold}
use Rattle.kernel_meaning.proofs.Ways.{array_sound}
use Rattle.kernel_meaning.proofs.PlanLaws.{RowSound}
use Rattle.kernel_meaning.proofs.DigitLaws.{digit_has_bits}
use Rattle.kernel_meaning.proofs.TypingLaws.{
  LiteralFits,
  literal_fits,
  same_is,
  both_left,
  both_right,
  MayHave,
  may_two,
  may_neg,
  may_not,
  may_shl,
  may_shr,
  may_mux,
  may_cast,
  may_round,
}
use Rattle.kernel_meaning.proofs.RowLaws.{
  MakesOne,
  sound_made,
  stream_made,
  good_makes,
  good_if,
  operation_good,
}
use Rattle.kernel_meaning.specs.declared.plan.Side.TheVariants as W
use Rattle.kernel_meaning.proofs.ManagerLaws.{
  joined_good,
  from_good,
  to_good,
  input_of_good,
  output_of_good,
}

no_more : (n : ℕ) → n + 0 ≡ n
no_more n = omega arith

at_least : (n m : ℕ) → nat_le n m ≡ true → n ≤ m
at_least n m e = grind (arith, nat_tests)

below : (n m : ℕ) → nat_lt n m ≡ true → n < m
below n m e = grind (arith, nat_tests)

module _ {library : Library} (so_far : History library) (state : State)
    (s : Sound so_far state) where
  given : (value : Value) → IsHeld so_far value → GoodOutcome so_far (Outcomes.gives value state)
  given value v = all_hold so_far [] value state tt v s

  -- Numbers, booleans and strings.

  quotient_good : (at : ℕ) (x y : ℤ) → GoodOutcome so_far (HostRows.quotient at x y state)
  quotient_good at x (pos zero) = record { holds = tt }
  quotient_good at x (pos (suc y)) = given _ tt
  quotient_good at x (negsuc y) = given _ tt

  remainder_good : (at : ℕ) (x y : ℤ) → GoodOutcome so_far (HostRows.remainder at x y state)
  remainder_good at x (pos zero) = record { holds = tt }
  remainder_good at x (pos (suc y)) = given _ tt
  remainder_good at x (negsuc y) = given _ tt

  whole_good : (sign : Sign) (at : ℕ) (x y : ℤ)
      → GoodOutcome so_far (HostRows.whole_between sign at x y state)
  whole_good S.Divide at x y = quotient_good at x y
  whole_good S.Remainder at x y = remainder_good at x y
  whole_good S.StreamEqual at x y = record { holds = tt }
  whole_good S.StreamNotEqual at x y = record { holds = tt }
  whole_good _ at x y = given _ tt

  flag_good : (sign : Sign) (at : ℕ) (a b : Bool)
      → GoodOutcome so_far (HostRows.flag_between sign at a b state)
  flag_good S.And at a b = given _ tt
  flag_good S.Or at a b = given _ tt
  flag_good S.Xor at a b = given _ tt
  flag_good S.Equal at a b = given _ tt
  flag_good S.NotEqual at a b = given _ tt
  flag_good _ at a b = record { holds = tt }

  text_good : (at : ℕ) (text : List ℕ) → GoodOutcome so_far (HostRows.text_of at text state)
  text_good at text =
      good_if _ _ so_far _ tt (λ e. given (V.Str text) (at_least (length text) 64 e))

  texts_good : (sign : Sign) (at : ℕ) (a b : List ℕ)
      → GoodOutcome so_far (HostRows.texts_between sign at a b state)
  texts_good S.Add at a b = text_good at (a ++ b)
  texts_good _ at a b = record { holds = tt }

  -- Streams.

  stream_width : (values : List Value) (t : StreamType) → AreHeld so_far values
      → StreamRows.first_stream values ≡ Some t → HasWidth t
  stream_width [] t v e = absurd (cc)
  stream_width (V.Stream n u feed ∷ values) t v e = let p : u ≡ t = cc in subst HasWidth p v.0.0
  stream_width (_ ∷ values) t v e = stream_width values t v.1 e

  with_good : (at : ℕ) (sign : Sign) (a b : Value) (t : Option StreamType)
      → ((u : StreamType) → t ≡ Some u → HasWidth u) → AreHeld so_far (a ∷ b ∷ [])
      → GoodOutcome so_far (SignRows.operation_with at (SignRows.op_of sign) t (a ∷ b ∷ []) state)
  with_good at sign a b None w v =
      elim (SignRows.op_of sign) as (λ o.
      GoodOutcome so_far (SignRows.operation_with at o None (a ∷ b ∷ []) state))
      [ None ↦ record { holds = tt } | Some op ↦ record { holds = tt } ]
  with_good at S.Add a b (Some t) w v =
      operation_good at O.Add (pos 0) t [] (a ∷ b ∷ []) so_far state (w t refl) v s
      (may_two O.Add refl)
  with_good at S.Subtract a b (Some t) w v =
      operation_good at O.Sub (pos 0) t [] (a ∷ b ∷ []) so_far state (w t refl) v s
      (may_two O.Sub refl)
  with_good at S.Multiply a b (Some t) w v =
      operation_good at O.Mul (pos 0) t [] (a ∷ b ∷ []) so_far state (w t refl) v s
      (may_two O.Mul refl)
  with_good at S.Divide a b (Some t) w v =
      operation_good at O.Div (pos 0) t [] (a ∷ b ∷ []) so_far state (w t refl) v s
      (may_two O.Div refl)
  with_good at S.And a b (Some t) w v =
      operation_good at O.And (pos 0) t [] (a ∷ b ∷ []) so_far state (w t refl) v s
      (may_two O.And refl)
  with_good at S.Or a b (Some t) w v =
      operation_good at O.Or (pos 0) t [] (a ∷ b ∷ []) so_far state (w t refl) v s
      (may_two O.Or refl)
  with_good at S.Xor a b (Some t) w v =
      operation_good at O.Xor (pos 0) t [] (a ∷ b ∷ []) so_far state (w t refl) v s
      (may_two O.Xor refl)
  with_good at S.StreamEqual a b (Some t) w v =
      operation_good at O.Eq (pos 0) t [] (a ∷ b ∷ []) so_far state (w t refl) v s
      (may_two O.Eq refl)
  with_good at S.StreamNotEqual a b (Some t) w v =
      operation_good at O.Ne (pos 0) t [] (a ∷ b ∷ []) so_far state (w t refl) v s
      (may_two O.Ne refl)
  with_good at S.Less a b (Some t) w v =
      operation_good at O.Lt (pos 0) t [] (a ∷ b ∷ []) so_far state (w t refl) v s
      (may_two O.Lt refl)
  with_good at S.LessEqual a b (Some t) w v =
      operation_good at O.Le (pos 0) t [] (a ∷ b ∷ []) so_far state (w t refl) v s
      (may_two O.Le refl)
  with_good at S.Greater a b (Some t) w v =
      operation_good at O.Gt (pos 0) t [] (a ∷ b ∷ []) so_far state (w t refl) v s
      (may_two O.Gt refl)
  with_good at S.GreaterEqual a b (Some t) w v =
      operation_good at O.Ge (pos 0) t [] (a ∷ b ∷ []) so_far state (w t refl) v s
      (may_two O.Ge refl)
  with_good at _ a b (Some t) w v = record { holds = tt }

  plain_good : (sign : Sign) (at : ℕ) (a b : Value) → IsHeld so_far a → IsHeld so_far b →
      GoodOutcome so_far (Outcomes.where_so (StreamRows.is_operand a && StreamRows.is_operand b)
      (E.WrongKind at) (SignRows.operation_with at (SignRows.op_of sign)
      (StreamRows.first_stream (a ∷ b ∷ [])) (a ∷ b ∷ []) state))
  plain_good sign at a b v w =
      good_if _ _ so_far _ tt (λ e. with_good at sign a b (StreamRows.first_stream (a ∷ b ∷ []))
      (λ u p. stream_width (a ∷ b ∷ []) u (v, (w, tt)) p) (v, (w, tt)))

  stream_good : (sign : Sign) (at : ℕ) (a b : Value) → IsHeld so_far a → IsHeld so_far b
      → GoodOutcome so_far (SignRows.stream_between sign at a b state)
  stream_good S.ShiftLeft at (V.Stream n t feed) (V.Int k) v w =
      operation_good at O.Shl k t [] (V.Stream n t feed ∷ []) so_far state v.0 (v, tt) s (may_shl k)
  stream_good S.ShiftRight at (V.Stream n t feed) (V.Int k) v w =
      operation_good at O.Shr k t [] (V.Stream n t feed ∷ []) so_far state v.0 (v, tt) s (may_shr k)
  stream_good sign at a b v w = plain_good sign at a b v w

  between_good : (sign : Sign) (at : ℕ) (a b : Value) → IsHeld so_far a → IsHeld so_far b
      → GoodOutcome so_far (SignRows.between sign at a b state)
  between_good sign at (V.Stream n t feed) b v w = stream_good sign at (V.Stream n t feed) b v w
  between_good sign at a (V.Stream n t feed) v w = stream_good sign at a (V.Stream n t feed) v w
  between_good sign at (V.Int x) (V.Int y) v w = whole_good sign at x y
  between_good sign at (V.Flag a) (V.Flag b) v w = flag_good sign at a b
  between_good sign at (V.Str a) (V.Str b) v w = texts_good sign at a b
  between_good sign at (V.Str a) (V.Int y) v w = texts_good sign at a (signed_decimal y)
  between_good sign at (V.Int x) (V.Str b) v w = texts_good sign at (signed_decimal x) b
  between_good sign at _ _ v w = record { holds = tt }

  two_good : (sign : Sign) (at : ℕ) (values : List Value) → AreHeld so_far values
      → GoodOutcome so_far (SignRows.between_two sign at values state)
  two_good sign at (a ∷ b ∷ []) v = between_good sign at a b v.0 v.1.0
  two_good sign at _ v = record { holds = tt }

  mux_by_good : (at : ℕ) (selector : Value) (options : List Value) (u : Option StreamType)
      → ((t : StreamType) → u ≡ Some t → HasWidth t) → IsHeld so_far selector
      → AreHeld so_far options →
      GoodOutcome so_far (StreamRows.mux_by at selector options u state)
  mux_by_good at (V.Stream n t feed) options (Some u) w v vs =
      good_if _ _ so_far _ tt (λ e. operation_good at O.Mux (pos 0) u [] (V.Stream n t feed ∷ options)
      so_far state (w u refl) (v, vs) s (may_mux (length options)))
  mux_by_good at _ options _ w v vs = record { holds = tt }

  mux_good : (at : ℕ) (values : List Value) → AreHeld so_far values
      → GoodOutcome so_far (StreamRows.mux at values state)
  mux_good at [] v = record { holds = tt }
  mux_good at (selector ∷ options) v =
      mux_by_good at selector options (StreamRows.first_stream options)
      (λ t e. stream_width options t v.1 e) v.0 v.1

  choose_good : (at : ℕ) (values : List Value) → AreHeld so_far values
      → GoodOutcome so_far (StreamRows.choose at values state)
  choose_good at (V.Stream n t feed ∷ a ∷ b ∷ []) v =
      let chosen = StreamRows.mux at (V.Stream n t feed ∷ b ∷ a ∷ []) state in
      good_if (list_all StreamRows.is_operand (a ∷ b ∷ [])
      && not (is_none (StreamRows.first_stream (a ∷ b ∷ [])))) (E.WrongKind at) so_far
      (Outcomes.where_so (StreamRows.is_bit t) (E.Typing at TypesDiffer) chosen)
      tt (λ e. good_if (StreamRows.is_bit t) (E.Typing at TypesDiffer) so_far chosen tt
      (λ f. mux_good at (V.Stream n t feed ∷ b ∷ a ∷ []) (v.0, (v.1.1.0, (v.1.0, tt)))))
  choose_good at _ v = record { holds = tt }

  may_cast_by : (b : Bool) (u : StreamType) → HasWidth u
      → MayHave (if b then O.Round else O.Cast) (pos 0) (u ∷ []) 1
  may_cast_by true u w = may_round u w
  may_cast_by false u w = may_cast u w

  cast_good : (at : ℕ) (values : List Value) → AreHeld so_far values
      → GoodOutcome so_far (StreamRows.cast at values state)
  cast_good at (V.Stream n t feed ∷ V.«Type» u ∷ []) v =
      operation_good at (StreamRows.cast_op t u) (pos 0) t (u ∷ []) (V.Stream n t feed ∷ []) so_far
      state v.0.0 (v.0, tt) s (may_cast_by _ u v.1.0)
  cast_good at _ v = record { holds = tt }

  prefix_good : (at : ℕ) (op : Op) (values : List Value) → MayHave op (pos 0) [] 1
      → AreHeld so_far values → GoodOutcome so_far (SignRows.prefixed at op values state)
  prefix_good at op (V.Stream n t feed ∷ []) m v =
      operation_good at op (pos 0) t [] (V.Stream n t feed ∷ []) so_far state v.0.0 v s m
  prefix_good at op _ m v = record { holds = tt }

  minus_good : (at : ℕ) (values : List Value) → AreHeld so_far values
      → GoodOutcome so_far (SignRows.minus at values state)
  minus_good at (V.Int n ∷ []) v = given _ tt
  minus_good at (V.Literal false digits tens ∷ []) v = given _ tt
  minus_good at values v = prefix_good at O.Neg values may_neg v

  turned_good : (at : ℕ) (values : List Value) → AreHeld so_far values
      → GoodOutcome so_far (SignRows.complemented at values state)
  turned_good at (V.Int n ∷ []) v = given _ tt
  turned_good at values v = prefix_good at O.Not values may_not v

  denied_good : (at : ℕ) (values : List Value)
      → GoodOutcome so_far (SignRows.negated at values state)
  denied_good at (V.Flag b ∷ []) = given _ tt
  denied_good at _ = record { holds = tt }

  -- Arrays.

  read_good : (at : ℕ) (found : Option Value)
      → ((value : Value) → found ≡ Some value → IsHeld so_far value)
      → GoodOutcome so_far (ArrayRows.read at found state)
  read_good at None h = record { holds = tt }
  read_good at (Some V.Nothing) h = record { holds = tt }
  read_good at (Some value) h = given value (h value refl)

  at_sound : (values : List Value) (place : ℕ) (value : Value) → AreHeld so_far values
      → slice_get values place ≡ Some value → IsHeld so_far value
  at_sound [] place value v e = absurd (cc)
  at_sound (w ∷ ws) zero value v e = let p : w ≡ value = cc in subst (IsHeld so_far) p v.0
  at_sound (w ∷ ws) (suc place) value v e = at_sound ws place value v.1 e

  element_sound : (n : ℕ) (place : ℤ) (value : Value) → element state.arrays n place ≡ Some value
      → IsHeld so_far value
  element_sound n (pos place) value e =
      at_sound (array_of state.arrays n) place value (array_sound so_far state.arrays n s.arrays) e
  element_sound n (negsuc place) value e = absurd (cc)

  indexed_good : (at : ℕ) (values : List Value)
      → GoodOutcome so_far (ArrayRows.indexed at values state)
  indexed_good at (V.Array n of ∷ V.Int place ∷ []) =
      read_good at (element state.arrays n place) (λ value e. element_sound n place value e)
  indexed_good at _ = record { holds = tt }

  long_good : (at : ℕ) (values : List Value) → GoodOutcome so_far (ArrayRows.long at values state)
  long_good at (V.Array n of ∷ []) = given _ tt
  long_good at _ = record { holds = tt }

  -- what arrays that are made hold
  pub record Held (g : Grown) : Type 0 where
    pub values : AreHeld so_far g.values
    pub arrays : AreFilled so_far g.arrays

  joined_sound : (vs ws : List Value) → AreHeld so_far vs → AreHeld so_far ws
      → AreHeld so_far (vs ++ ws)
  joined_sound [] ws p q = q
  joined_sound (v ∷ vs) ws p q = (p.0, joined_sound vs ws p.1 q)

  filled_one : (arrays : List (List Value)) (values : List Value) → AreHeld so_far values
      → AreFilled so_far arrays → AreFilled so_far (arrays ++ values ∷ [])
  filled_one [] values v h = (v, tt)
  filled_one (w ∷ ws) values v h = (h.0, filled_one ws values v h.1)

  many_good : (n : ℕ) (one : List (List Value) → Grown) (arrays : List (List Value))
      → ((arrays : List (List Value)) → AreFilled so_far arrays → Held (one arrays))
      → AreFilled so_far arrays → Held (many n one arrays)
  many_good zero one arrays h a = record { values = tt; arrays = a }
  many_good (suc n) one arrays h a =
      let first = h arrays a in
      let others = many_good n one (one arrays).arrays h first.arrays in
      record {
        values = joined_sound (one arrays).values _ first.values others.values;
        arrays =
            others.arrays;
      }

  array_good : (of : Declared) (sizes : List ℕ) (arrays : List (List Value))
      → AreFilled so_far arrays → Held (new_array of sizes arrays)
  array_good of [] arrays a = record { values = (tt, tt); arrays = a }
  array_good of (size ∷ sizes) arrays a =
      let m = many_good size (new_array of sizes) arrays (λ arrays a. array_good of sizes arrays a)
      a in
      record { values = (tt, tt); arrays = filled_one _ _ m.values m.arrays }

  first_sound : (values : List Value) → AreHeld so_far values
      → IsHeld so_far (ArrayRows.first_of_all values)
  first_sound [] v = tt
  first_sound (value ∷ values) v = v.0

  arrays_good : (of : Declared) (sizes : List ℕ)
      → GoodOutcome so_far (ArrayRows.new_arrays of sizes state)
  arrays_good of sizes =
      let g = array_good of sizes state.arrays s.arrays in
      let new = record state {
        arrays = (new_array of sizes state.arrays).arrays;
        left =
            state.left - nested sizes;
      } in
      good_if (nat_le (nested sizes) state.left) E.StepLimit so_far
      (Does [] (ArrayRows.first_of_all (new_array of sizes state.arrays).values) new)
      tt (λ e. all_hold so_far [] (ArrayRows.first_of_all (new_array of sizes state.arrays).values) new
      tt (first_sound _ g.values)
      (record {
        made = s.made;
        variables = s.variables;
        fields = s.fields;
        arrays =
            g.arrays;
        digits = s.digits;
        plan = s.plan;
      }))

  arrays_by_good : (at : ℕ) (of : Declared) (sizes : Option (List ℤ))
      → GoodOutcome so_far (ArrayRows.arrays_by at of sizes state)
  arrays_by_good at of None = record { holds = tt }
  arrays_by_good at of (Some sizes) =
      elim (list_all ArrayRows.is_size sizes) as
      (λ b. GoodOutcome so_far
      (elim b [
        | true ↦ ArrayRows.new_arrays of (map unsigned_abs sizes) state
        | false ↦ Fails
            (E.ArrayRange at)
      ])) [
        | true ↦ arrays_good of (map unsigned_abs sizes)
        | false ↦ record { holds = tt }
      ]

  -- Types.

  of_width_good : (at : ℕ) (n : ℤ) (type : ℕ → StreamType) → ((n : ℕ) → width_of (type n) ≡ n)
      → GoodOutcome so_far (TypeRows.of_width at n type state)
  of_width_good at (pos zero) type h = record { holds = tt }
  of_width_good at (pos (suc n)) type h =
      good_if _ _ so_far _ tt (λ e. given (V.«Type» (type (suc n))) (let w = h (suc n) in let l =
      below n 128 e in (omega arith, omega arith)))
  of_width_good at (negsuc n) type h = record { holds = tt }

  width_good : (at : ℕ) (type : ℕ → StreamType) (values : List Value)
      → ((n : ℕ) → width_of (type n) ≡ n)
      → GoodOutcome so_far (TypeRows.width_type at type values state)
  width_good at type (V.Int n ∷ []) h = of_width_good at n type h
  width_good at type _ h = record { holds = tt }

  fix_of_good : (at : ℕ) (whole frac : ℤ) (signed : Bool)
      → GoodOutcome so_far (TypeRows.fix_of at whole frac signed state)
  fix_of_good at (pos whole) (pos frac) signed =
      good_if _ _ so_far _ tt (λ e. given (V.«Type» (T.Fix whole frac signed)) (
        at_least 1 (whole + frac) (both_left (nat_le 1 (whole + frac)) _ e),
        at_least (whole + frac)
            128 (both_right (nat_le 1 (whole + frac)) _ e),
      ))
  fix_of_good at _ _ signed = record { holds = tt }

  fix_good : (at : ℕ) (signed : Bool) (values : List Value)
      → GoodOutcome so_far (TypeRows.fix_type at signed values state)
  fix_good at signed (V.Int whole ∷ V.Int frac ∷ []) = fix_of_good at whole frac signed
  fix_good at signed _ = record { holds = tt }

  -- The library.

  is_bit_good : (n : ℕ) (t : StreamType) → IsStream so_far.calls n t → StreamRows.is_bit t ≡ true
      → IsControl so_far.calls n
  is_bit_good n T.Bool i e = inl i
  is_bit_good n (T.UInt m) i e = let p : m ≡ 1 =
      grind (arith, nat_tests) in inr (subst (λ k. IsStream so_far.calls n (T.UInt k)) p i)
  is_bit_good n (T.Int m) i e = absurd (cc)
  is_bit_good n (T.Fix w f g) i e = absurd (cc)

  feed_good : (at : ℕ) (values : List Value) → AreHeld so_far values
      → GoodOutcome so_far (LibraryRows.new_instance at values state)
  feed_good at (V.«Type» t ∷ []) v =
      let m : MakesOne (C.Feed t) = record { one = refl; no_bits = λ chain. refl } in
      all_hold so_far (C.Feed t ∷ []) (V.Stream state.made t true)
      (record state { made = state.made + 1 }) (v.0, tt) (
        v.0,
        stream_made (C.Feed t) t so_far state m refl s,
        λ e. subst (λ n. Makes (C.Feed t ∷ so_far.calls) n (C.Feed t)) (sym s.made)
            (newest (C.Feed t) so_far.calls refl),
      ) (sound_made (C.Feed t) so_far state m s)
  feed_good at _ v = record { holds = tt }

  input_good : (at : ℕ) (values : List Value) → AreHeld so_far values
      → GoodOutcome so_far (LibraryRows.input at values state)
  input_good at (V.Str name ∷ V.«Type» t ∷ []) v =
      good_if _ _ so_far _ tt (λ e. good_makes (C.Input name t None) t so_far state
      (record { one = refl; no_bits = λ chain. refl }) refl v.1.0
      ((e, v.0), v.1.0, tt) s)
  input_good at (V.Str name ∷ V.«Type» t ∷ V.Stream c u feed ∷ []) v =
      good_if _ _ so_far _ tt (λ b. good_if _ _ so_far _ tt
      (λ e. good_makes (C.Input name t (Some c)) t so_far state
      (record { one = refl; no_bits = λ chain. refl }) refl v.1.0
      ((e, v.0), v.1.0, is_bit_good c u v.1.1.0.1 b) s))
  input_good at _ v = record { holds = tt }

  ends_good : (call : Call) → MakesOne call → IsLawful so_far.calls call
      → GoodOutcome so_far (Outcomes.ends call state)
  ends_good call m l =
      all_hold so_far (call ∷ []) V.Nothing (record state { made = state.made + 1 }) (l, tt) tt
      (sound_made call so_far state m s)

  output_good : (at : ℕ) (values : List Value) → AreHeld so_far values
      → GoodOutcome so_far (LibraryRows.output at values state)
  output_good at (V.Str name ∷ V.Stream n t feed ∷ V.«Type» u ∷ []) v =
      good_if _ _ so_far _ tt (λ p. good_if _ _ so_far _ tt
      (λ e. ends_good (C.Output name n None t) (record { one = refl; no_bits = λ chain. refl })
      ((e, v.0), v.1.0.1, tt, v.1.0.0)))
  output_good at (V.Str name ∷ V.Stream n t feed ∷ V.«Type» u ∷ V.Stream c w other ∷ []) v =
      good_if _ _ so_far _ tt (λ p. good_if _ _ so_far _ tt (λ b. good_if _ _ so_far _ tt (λ e.
      ends_good (C.Output name n (Some c) t) (record { one = refl; no_bits = λ chain. refl })
      ((e, v.0), v.1.0.1, is_bit_good c w v.1.1.1.0.1 b, v.1.0.0))))
  output_good at _ v = record { holds = tt }

  scalar_good : (at : ℕ) (values : List Value) → AreHeld so_far values
      → GoodOutcome so_far (LibraryRows.scalar at values state)
  scalar_good at (V.Str name ∷ V.«Type» t ∷ []) v =
      good_if _ _ so_far _ tt (λ e. good_makes (C.Scalar name t) t so_far state
      (record { one = refl; no_bits = λ chain. refl }) refl v.1.0 ((e, v.0), v.1.0) s)
  scalar_good at _ v = record { holds = tt }

  constant_by_good : (at : ℕ) (t : StreamType) (r : Result ℕ TypeError) → HasWidth t
      → LiteralFits t r → GoodOutcome so_far (LibraryRows.constant_by at t r state)
  constant_by_good at t (Err e) w f = record { holds = tt }
  constant_by_good at t (Ok bits) w f =
      good_makes (C.Constant bits t) t so_far state (record { one = refl; no_bits = λ chain. refl })
      refl w (w, f) s

  constant_good : (at : ℕ) (values : List Value) → AreHeld so_far values
      → GoodOutcome so_far (LibraryRows.constant at values state)
  constant_good at (V.«Type» t ∷ V.Int n ∷ []) v =
      constant_by_good at t _ v.0 (literal_fits (StreamRows.mode_of state.modes) _ _ 0 t)
  constant_good at (V.«Type» t ∷ V.Literal negative digits tens ∷ []) v =
      constant_by_good at t _ v.0 (literal_fits (StreamRows.mode_of state.modes) negative digits
      tens t)
  constant_good at _ v = record { holds = tt }

  offset_good : (at : ℕ) (values : List Value) → AreHeld so_far values
      → GoodOutcome so_far (LibraryRows.offset at values state)
  offset_good at (V.Stream n t feed ∷ V.Int k ∷ []) v =
      good_if _ _ so_far _ tt (λ e. good_makes (C.Offset n k t) t so_far state
      (record { one = refl; no_bits = λ chain. refl }) refl v.0.0
      (v.0.1, at_least (unsigned_abs k) 1048576 e, v.0.0) s)
  offset_good at _ v = record { holds = tt }

  digit_width : (d : CounterDigit) → IsDigit d → HasWidth (T.UInt d.bits)
  digit_width d i = digit_has_bits d i

  counter_by_good : (at : ℕ) (r : Result CounterDigit CounterError)
      → ((d : CounterDigit) → r ≡ Ok d → IsDigit d)
      → GoodOutcome so_far (LibraryRows.counter_by at r state)
  counter_by_good at (Err e) h = record { holds = tt }
  counter_by_good at (Ok d) h =
      good_makes (C.Counter d) (T.UInt d.bits) so_far state
      (record { one = refl; no_bits = λ chain. refl }) refl (digit_width d (h d refl))
      (h d refl) s

  counter_in : (at n : ℕ) (max : Option ℤ) (b : Bool) → nat_lt n 128 ≡ b
      → GoodOutcome so_far
      (elim b [
        | true ↦ LibraryRows.counter_by at (simple_of (suc n) max) state
        | false ↦ Fails
            (E.TypeRange at)
      ])
  counter_in at n max true e = counter_by_good at (simple_of (suc n) max) (λ d p. let l =
      below n 128 e in inr (suc n, max, omega arith, omega arith, p))
  counter_in at n max false e = record { holds = tt }

  counter_of_good : (at : ℕ) (bits : ℤ) (max : Option ℤ)
      → GoodOutcome so_far (LibraryRows.counter_of at bits max state)
  counter_of_good at (pos zero) max = record { holds = tt }
  counter_of_good at (pos (suc n)) max = counter_in at n max (nat_lt n 128) refl
  counter_of_good at (negsuc n) max = record { holds = tt }

  counter_good : (at : ℕ) (values : List Value)
      → GoodOutcome so_far (LibraryRows.counter at values state)
  counter_good at (V.Int bits ∷ []) = counter_of_good at bits None
  counter_good at (V.Int bits ∷ V.Int max ∷ []) = counter_of_good at bits (Some max)
  counter_good at _ = record { holds = tt }

  chain_good : GoodOutcome so_far (LibraryRows.make_chain state)
  chain_good =
      all_hold so_far (C.Chain ∷ []) (V.Chain state.made)
      (record state { made = state.made + 1 }) (tt, tt)
      (subst (λ n. Makes (C.Chain ∷ so_far.calls) n C.Chain) (sym s.made)
      (newest C.Chain so_far.calls refl))
      (sound_made C.Chain so_far state (record { one = refl; no_bits = λ chain. refl }) s)

  digit_by_good : (at chain : ℕ) (r : Result CounterDigit CounterError)
      → Makes so_far.calls chain C.Chain
      → ((d : CounterDigit) → r ≡ Ok d → IsDigit d)
      → GoodOutcome so_far (LibraryRows.digit_by at chain r state)
  digit_by_good at chain (Err e) m h = record { holds = tt }
  digit_by_good at chain (Ok d) m h =
      let i = h d refl in
      let call = C.ChainDigit chain d in
      let bits = LibraryRows.bits_of state.digits chain + d.bits in
      let value = V.Stream state.made (T.UInt d.bits) false in
      let new = record state {
        made = state.made + 1;
        digits =
            record { chain = chain; bits = d.bits } ∷ state.digits;
      } in
      good_if (nat_le bits 128) (E.Counter at (TooWide bits)) so_far (Does (call ∷ []) value new)
      tt (λ e. all_hold so_far (call ∷ []) value new
      ((m, i, subst (λ n. n + d.bits ≤ 128) (s.digits chain) (at_least bits 128 e)), tt) (
        digit_width d i,
        (
          call,
          subst (λ n. Makes (call ∷ so_far.calls) n call) (sym s.made)
              (newest call so_far.calls refl),
          refl,
        ),
        λ x. absurd (cc),
      )
      (record {
        made = ap (λ n. n + 1) s.made;
        variables = bound_later so_far (with_call call so_far) state.variables (one_later call so_far)
            s.variables;
        fields = bound_later so_far (with_call call so_far) state.fields (one_later call so_far) s.fields;
        arrays = filled_later so_far (with_call call so_far) state.arrays (one_later call so_far) s.arrays;
        digits = λ other. ap (λ n. n + elim (chain == other) [ true ↦ d.bits | false ↦ 0 ])
            (s.digits other);
        plan = s.plan;
      }))

  add_good : (at : ℕ) (values : List Value) → AreHeld so_far values
      → GoodOutcome so_far (LibraryRows.add_counter at values state)
  add_good at (V.Chain chain ∷ V.Int max ∷ V.Int inc ∷ []) v =
      digit_by_good at chain (digit_of max inc) v.0 (λ d e. inl (max, inc, e))
  add_good at _ v = record { holds = tt }

  hold_good : (at : ℕ) (values : List Value) → AreHeld so_far values
      → GoodOutcome so_far (LibraryRows.hold at values state)
  hold_good at (V.Stream n t feed ∷ V.Stream m u other ∷ []) v =
      good_if _ _ so_far _ tt (λ b. good_makes (C.Hold n m t) t so_far state
      (record { one = refl; no_bits = λ chain. refl }) refl v.0.0
      (v.0.1, is_bit_good m u v.1.0.1 b, v.0.0) s)
  hold_good at _ v = record { holds = tt }

  with_modes : (modes : List RoundMode)
      → GoodOutcome so_far (Outcomes.gives V.Nothing (record state { modes = modes }))
  with_modes modes = all_hold so_far [] V.Nothing (record state { modes = modes }) tt tt (record {
    made = s.made;
    variables = s.variables;
    fields = s.fields;
    arrays = s.arrays;
    digits = s.digits;
    plan = s.plan;
  })

  pop_good : (at : ℕ) (modes : List RoundMode) → GoodOutcome so_far (LibraryRows.pop at modes state)
  pop_good at [] = record { holds = tt }
  pop_good at (mode ∷ modes) = with_modes modes

  connect_good : (at : ℕ) (values : List Value) → AreHeld so_far values
      → GoodOutcome so_far (LibraryRows.connect at values state)
  connect_good at (V.Stream n t true ∷ V.Stream m u feed ∷ []) v =
      let l = one_later (C.Connect n m) so_far in
      good_if (same_type t u) (E.Typing at TypesDiffer) so_far
      (Does (C.Connect n m ∷ []) V.Nothing state)
      tt (λ e. all_hold so_far (C.Connect n m ∷ []) V.Nothing state
      ((t, v.0.2 refl, subst (IsStream so_far.calls m) (sym (same_is t u e)) v.1.0.1), tt) tt
      (record {
        made = s.made ∙ sym (no_more (count_of so_far.calls));
        variables = bound_later so_far (with_call (C.Connect n m) so_far) state.variables l s.variables;
        fields = bound_later so_far (with_call (C.Connect n m) so_far) state.fields l s.fields;
        arrays = filled_later so_far (with_call (C.Connect n m) so_far) state.arrays l s.arrays;
        digits = λ chain. s.digits chain ∙ sym (no_more (bits_in so_far.calls chain));
        plan = s.plan;
      }))
  connect_good at (V.Link left W.Left ∷ V.Link right W.Right ∷ []) v =
      joined_good so_far state left right v.0 v.1.0 s
  connect_good at _ v = record { holds = tt }

  pub row_good : (row : Row) (at : ℕ) (values : List Value) → RowSound so_far row
      → AreHeld so_far values → GoodOutcome so_far (Rows.row_of row at values state)
  unfolding Rows.row_of
  row_good (R.Gives value) at values r v = given value r
  row_good (R.OwnMethod name) at values r v = record { holds = tt }
  row_good (R.Binary sign) at values r v = two_good sign at values v
  row_good R.Negate at values r v = minus_good at values v
  row_good R.Complement at values r v = turned_good at values v
  row_good R.Not at values r v = denied_good at values
  row_good R.LeastInt at values r v = given _ tt
  row_good R.Element at values r v = indexed_good at values
  row_good R.Length at values r v = long_good at values
  row_good (R.NewArray of) at values r v = arrays_by_good at of (ArrayRows.sizes_of values)
  row_good R.UIntType at values r v = width_good at T.UInt values (λ n. refl)
  row_good R.IntType at values r v = width_good at T.Int values (λ n. refl)
  row_good (R.FixType signed) at values r v = fix_good at signed values
  row_good R.WrongArguments at values r v = record { holds = tt }
  row_good R.NewInstance at values r v = feed_good at values v
  row_good R.Cast at values r v = cast_good at values v
  row_good R.AddCounter at values r v = add_good at values v
  row_good R.Input at values r v = input_good at values v
  row_good R.Output at values r v = output_good at values v
  row_good R.ScalarInput at values r v = scalar_good at values v
  row_good R.ConstantVar at values r v = constant_good at values v
  row_good R.Offset at values r v = offset_good at values v
  row_good R.Mux at values r v = mux_good at values v
  row_good R.Choose at values r v = choose_good at values v
  row_good R.SimpleCounter at values r v = counter_good at values
  row_good R.MakeCounterChain at values r v = chain_good
  row_good R.StreamHold at values r v = hold_good at values v
  row_good (R.PushRounding mode) at values r v = with_modes (mode ∷ state.modes)
  row_good R.PopRounding at values r v = pop_good at state.modes
  row_good R.Connect at values r v = connect_good at values v
  row_good R.StreamFromCpu at values r v = from_good so_far state at values v s
  row_good R.StreamToCpu at values r v = to_good so_far state at values v s
  row_good R.KernelInput at values r v = input_of_good so_far state at values v s
  row_good R.KernelOutput at values r v = output_of_good so_far state at values v s

  combined_by_good : (sign : Option Sign) (at : ℕ) (old value : Value) → IsHeld so_far old
      → IsHeld so_far value → GoodOutcome so_far (combined_by sign at old value state)
  combined_by_good None at old value v w = record { holds = tt }
  combined_by_good (Some sign) at old value v w = between_good sign at old value v w

  pub combined_good : (sign : List ℕ) (at : ℕ) (old value : Value) → IsHeld so_far old
      → IsHeld so_far value → GoodOutcome so_far (combined sign at old value state)
  combined_good sign at old value v w =
      combined_by_good (sign_of (first_byte sign)) at old value v w

  pub stepped_good : (sign : List ℕ) (at : ℕ) (old : Value)
      → GoodOutcome so_far (stepped sign at old state)
  stepped_good sign at (V.Int n) = combined_good sign at (V.Int n) (V.Int (pos 1)) tt tt
  stepped_good sign at _ = record { holds = tt }
