-- The last row that isn't above a width is the greatest.
use Rattle.std.proofs.Common.{◌≡◌, ℕ, ◌<◌, ◌≤◌, zero, suc, List, [], ◌∷◌, length, map, reverse}
use Rattle.std.proofs.Common.{get_or, Option, Some, None, option_map, Bool, true, false, ◌&&◌, cond}
use Rattle.std.proofs.Common.{nat_lt, nat_le, refl, sym, ap, subst, ◌∙◌, arith}
use Rattle.std.specs.List.{All, Contains, find, list_all}
use Rattle.std.specs.Option.{option_or}
use Rattle.std.proofs.lemmas.List.Elements.{All-cons}
use Rattle.std.proofs.lemmas.List.Folds.{find-append}
use mathlib.Core.List.{reverse-cons}
use Rattle.std.proofs.lemmas.Bool.{false≢true}
use Rattle.std.proofs.lemmas.Bool.Decides.{nat_tests}
use Rattle.latency_table.specs.Rows.{rise_above, is_in_range, are_in_range, row_at, IsOfWidth}
use Rattle.latency_table.specs.declared.rows.Row.{Row}

below_of : (m n : ℕ) → nat_lt m n ≡ true → m < n
below_of m n e = grind (arith, nat_tests)

within_of : (m n : ℕ) → true ≡ nat_le m n → m ≤ n
within_of m n e = grind (arith, nat_tests)

above_of : (m n : ℕ) → false ≡ nat_le m n → n < m
above_of m n e = grind (arith, nat_tests)

both : (a b : Bool) → (a && b) ≡ true → (a ≡ true) × (b ≡ true)
both true b e = (refl, e)
both false b e = absurd (false≢true e)

-- the widths of rows that rise above one are above it
rise-All : (low least : ℕ) (rows : List Row) → low ≤ least → rise_above least (map (λ r. r.from) rows) ≡ true → All (λ (r : Row). low < r.from) rows
rise-All low least [] h e = λ k d within. absurd (omega arith)
rise-All low least (row ∷ rows) h e =
    let parts = both (nat_lt least row.from) (rise_above row.from (map (λ r. r.from) rows)) e in
    let first = below_of least row.from parts.0 in
    All-cons (λ (r : Row). low < r.from) row rows (omega arith) (rise-All low row.from rows (omega arith) parts.1)

-- no row whose width isn't above this one has a greater width than the chosen one
abbrev IsGreatest : List Row → ℕ → Option Row → Type 0
IsGreatest rows width None = All (λ (r : Row). width < r.from) rows
IsGreatest rows width (Some row) = Contains rows row × (row.from ≤ width) × All (λ (r : Row). r.from ≤ width → r.from ≤ row.from) rows

one_more : (row : Row) (rows : List Row) (width : ℕ) (chosen : Option Row) (test : Bool) → test ≡ nat_le row.from width
    → All (λ (r : Row). row.from < r.from) rows → IsGreatest rows width chosen → IsGreatest (row ∷ rows) width (option_or chosen (cond test (Some row) None))
one_more row rows width None true e above g = (
  (0, omega arith, refl),
  within_of row.from width e,
  All-cons (λ (r : Row). r.from ≤ width → r.from ≤ row.from) row rows (λ h. omega arith) (λ k d within h. absurd (omega (arith, g k d within))),
)
one_more row rows width None false e above g =
    let first = above_of row.from width e in All-cons (λ (r : Row). width < r.from) row rows first g
one_more row rows width (Some last) test e above g =
    let at : row.from < last.from = subst (λ (r : Row). row.from < r.from) g.0.2 (above g.0.0 last g.0.1) in (
      (suc g.0.0, omega (arith, g.0.1), g.0.2),
      g.1,
      All-cons (λ (r : Row). r.from ≤ width → r.from ≤ last.from) row rows (λ h. omega arith) g.2,
    )

row_at-IsGreatest : (rows : List Row) (width least : ℕ) → rise_above least (map (λ r. r.from) rows) ≡ true → IsGreatest rows width (row_at rows width)
row_at-IsGreatest [] width least e = λ k d within. absurd (omega arith)
row_at-IsGreatest (row ∷ rows) width least e =
    let parts = both (nat_lt least row.from) (rise_above row.from (map (λ r. r.from) rows)) e in
    subst (IsGreatest (row ∷ rows) width) (sym (ap (find (λ r. nat_le r.from width)) (reverse-cons row rows) ∙ find-append (λ r. nat_le r.from width) (reverse rows) (row ∷ [])))
    (one_more row rows width (row_at rows width) (nat_le row.from width) refl (rise-All row.from row.from rows (omega arith) parts.1) (row_at-IsGreatest rows width row.from parts.1))

is_of_width : (rows : List Row) (width : ℕ) (chosen : Option Row) → IsGreatest rows width chosen → IsOfWidth rows width (option_map (λ r. r.latency) chosen)
is_of_width rows width None g = g
is_of_width rows width (Some row) g = (row, g.0, refl, g.1, g.2)

-- so the latency of rows that are in range is that of the greatest width
pub row_at-IsOfWidth : (rows : List Row) (width : ℕ) → are_in_range rows ≡ true → IsOfWidth rows width (option_map (λ r. r.latency) (row_at rows width))
row_at-IsOfWidth rows width e =
    is_of_width rows width _ (row_at-IsGreatest rows width 0 (both (rise_above 0 (map (λ r. r.from) rows)) _ e).0)

-- each row is in range
in_range_at : (rows : List Row) (k : ℕ) (d : Row) → list_all is_in_range rows ≡ true → k < length rows → is_in_range (get_or rows k d) ≡ true
in_range_at [] k d e h = absurd (omega arith)
in_range_at (row ∷ rows) zero d e h = (both (is_in_range row) (list_all is_in_range rows) e).0
in_range_at (row ∷ rows) (suc k) d e h = in_range_at rows k d (both (is_in_range row) (list_all is_in_range rows) e).1 (omega arith)

-- so is the row of a width
pub row_at-at_most : (rows : List Row) (width : ℕ) (row : Row) → are_in_range rows ≡ true → Some row ≡ row_at rows width → row.latency ≤ 64
row_at-at_most rows width row e is =
    let parts = both (rise_above 0 (map (λ r. r.from) rows)) (list_all is_in_range rows) e in
    let g = subst (IsGreatest rows width) (sym is) (row_at-IsGreatest rows width 0 parts.0) in
    let in_range = subst (λ (r : Row). is_in_range r ≡ true) g.0.2 (in_range_at rows g.0.0 row parts.1 g.0.1) in
    within_of row.latency 64 (sym (both (nat_le row.from 128) (nat_le row.latency 64) in_range).1)
