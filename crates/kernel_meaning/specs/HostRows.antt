-- Operators on numbers, booleans and strings, as in Java.
use Rattle.std.specs.Prelude.{
  ◌&&◌,
  ◌||◌,
  ℕ,
  zero,
  nat_le,
  List,
  ◌++◌,
  length,
  Bool,
  true,
  false,
  not,
  ℤ,
  pos,
  int_le,
  unsigned_abs,
  int_lt,
  int_rem,
}
use Rattle.std.specs.Int.{
  int_wrapping_add,
  int_wrapping_sub,
  int_wrapping_mul,
  int_wrapping_div,
  int_bit_and,
  int_bit_or,
  int_bit_xor,
  int_shl,
  int_shr,
  int_rem_euclid,
  w32,
}
use Rattle.std.specs.Ordering.{int_cmp, is_eq}
use Rattle.kernel_meaning.specs.declared.row.Sign.{Sign}
use Rattle.kernel_meaning.specs.declared.state.State.{State}
use Rattle.kernel_meaning.specs.declared.row.Sign.TheVariants as S
use Rattle.kernel_meaning.specs.declared.error.EvalError.TheVariants as E
use Rattle.kernel_meaning.specs.declared.value.Value.TheVariants as V
use Rattle.kernel_meaning.specs.Answer.{Outcome, Fails}
use Rattle.kernel_meaning.specs.Outcomes.{gives, wrong, where_so}

abbrev pub quotient : ℕ → ℤ → ℤ → State → Outcome
quotient at x (pos zero) state = Fails (E.DivByZero at)
quotient at x y state = gives (V.Int (int_wrapping_div w32 x y)) state

abbrev pub remainder : ℕ → ℤ → ℤ → State → Outcome
remainder at x (pos zero) state = Fails (E.DivByZero at)
remainder at x y state = gives (V.Int (int_rem x y)) state

-- how far a number is shifted
abbrev pub shift : ℤ → ℕ
shift y = unsigned_abs (int_rem_euclid y (pos 32))

abbrev pub whole_between : Sign → ℕ → ℤ → ℤ → State → Outcome
whole_between S.Add at x y state = gives (V.Int (int_wrapping_add w32 x y)) state
whole_between S.Subtract at x y state = gives (V.Int (int_wrapping_sub w32 x y)) state
whole_between S.Multiply at x y state = gives (V.Int (int_wrapping_mul w32 x y)) state
whole_between S.Divide at x y state = quotient at x y state
whole_between S.Remainder at x y state = remainder at x y state
whole_between S.And at x y state = gives (V.Int (int_bit_and w32 x y)) state
whole_between S.Or at x y state = gives (V.Int (int_bit_or w32 x y)) state
whole_between S.Xor at x y state = gives (V.Int (int_bit_xor w32 x y)) state
whole_between S.ShiftLeft at x y state = gives (V.Int (int_shl w32 x (shift y))) state
whole_between S.ShiftRight at x y state = gives (V.Int (int_shr x (shift y))) state
whole_between S.Less at x y state = gives (V.Flag (int_lt x y)) state
whole_between S.LessEqual at x y state = gives (V.Flag (int_le x y)) state
whole_between S.Greater at x y state = gives (V.Flag (int_lt y x)) state
whole_between S.GreaterEqual at x y state = gives (V.Flag (int_le y x)) state
whole_between S.Equal at x y state = gives (V.Flag (is_eq (int_cmp x y))) state
whole_between S.NotEqual at x y state = gives (V.Flag (not (is_eq (int_cmp x y)))) state
whole_between _ at x y state = wrong at

abbrev pub same_flag : Bool → Bool → Bool
same_flag true b = b
same_flag false b = not b

abbrev pub flag_between : Sign → ℕ → Bool → Bool → State → Outcome
flag_between S.And at a b state = gives (V.Flag (a && b)) state
flag_between S.Or at a b state = gives (V.Flag (a || b)) state
flag_between S.Xor at a b state = gives (V.Flag (not (same_flag a b))) state
flag_between S.Equal at a b state = gives (V.Flag (same_flag a b)) state
flag_between S.NotEqual at a b state = gives (V.Flag (not (same_flag a b))) state
flag_between _ at a b state = wrong at

-- strings of at most 64 bytes
abbrev pub text_of : ℕ → List ℕ → State → Outcome
text_of at text state = where_so (nat_le (length text) 64) (E.TextTooLong at)
    (gives (V.Str text) state)

abbrev pub texts_between : Sign → ℕ → List ℕ → List ℕ → State → Outcome
texts_between S.Add at a b state = text_of at (a ++ b) state
texts_between _ at a b state = wrong at
