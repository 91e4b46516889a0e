-- Rows read one after another.
use Rattle.std.proofs.Common.{◌≡◌, ℕ, ◌<◌, ◌≤◌, ◌+◌, length, drop, get_or, List, [], ◌∷◌, ◌++◌, map}
use Rattle.std.proofs.Common.{Option, Some, None, option_map, option_and_then, Bool, true, false}
use Rattle.std.proofs.Common.{◌&&◌, cond, nat_lt, refl, sym, ap, ◌∙◌, append_assoc, append-nil}
use Rattle.std.specs.List.{list_all}
use Rattle.std.proofs.lemmas.List.{drop_all}
use Rattle.serde_json.specs.Data.{Data}
use Rattle.serde_json.specs.View.{view, items_view}
use Rattle.serde_json.specs.declared.value.Value.{Value}
use Rattle.latency_table.proofs.ItemLemmas.{items-items_of, mapped_left}
use Rattle.serde_json.specs.Find.{as_array}
use Rattle.latency_table.specs.Rows.{items, row_of, row_above, all_rows, rise_above, is_in_range, rows_of}
use Rattle.latency_table.specs.declared.rows.Row.{Row}

-- the rows of a list, where their widths rise above one
abbrev pub rows_above : ℕ → List Data → Option (List Row)
rows_above least [] = Some []
rows_above least (d ∷ ds) = option_and_then (λ row. option_map (λ rows. row ∷ rows) (rows_above row.from ds)) (row_above least d)

-- rows that are in range
are_above : ℕ → List Row → Bool
are_above least rows = rise_above least (map (λ r. r.from) rows) && list_all is_in_range rows

chosen : ℕ → List Row → Option (List Row)
chosen least rows = cond (are_above least rows) (Some rows) None

one_before : (row : Row) (test : Bool) (rows : List Row) → option_map (λ rs. row ∷ rs) (cond test (Some rows) None) ≡ cond test (Some (row ∷ rows)) None
one_before row true rows = refl
one_before row false rows = refl

none_chosen : {A : Type 0} (test : Bool) (x : A) → None ≡ cond (test && false) (Some x) None
none_chosen true x = refl
none_chosen false x = refl

-- a row before others is chosen where it is in range and they are
row_before : (row : Row) (a b : Bool) (rest : Option (List Row))
    → option_and_then (λ r. option_map (λ rows. r ∷ rows) (option_and_then (chosen r.from) rest)) (cond (a && b) (Some row) None)
    ≡ option_and_then (λ rows. cond ((a && rise_above row.from (map (λ r. r.from) rows)) && (b && list_all is_in_range rows)) (Some (row ∷ rows)) None) rest
unfolding chosen are_above
row_before row true true None = refl
row_before row true true (Some rows) = one_before row _ rows
row_before row true false None = refl
row_before row true false (Some rows) = none_chosen (rise_above row.from (map (λ r. r.from) rows)) (row ∷ rows)
row_before row false b None = refl
row_before row false b (Some rows) = refl

chosen_after : (least : ℕ) (row : Row) (rest : Option (List Row))
    → option_and_then (chosen least) (option_map (λ rows. row ∷ rows) rest)
    ≡ option_and_then (λ rows. cond ((nat_lt least row.from && rise_above row.from (map (λ r. r.from) rows)) && (is_in_range row && list_all is_in_range rows)) (Some (row ∷ rows)) None) rest
unfolding chosen are_above
chosen_after least row None = refl
chosen_after least row (Some rows) = refl

with_row : (least : ℕ) (ds : List Data) (row : Option Row)
    → ((least : ℕ) → rows_above least ds ≡ option_and_then (chosen least) (all_rows ds))
    → option_and_then (λ r. option_map (λ rows. r ∷ rows) (rows_above r.from ds)) (option_and_then (λ r. cond (nat_lt least r.from && is_in_range r) (Some r) None) row)
    ≡ option_and_then (chosen least) (option_and_then (λ r. option_map (λ rows. r ∷ rows) (all_rows ds)) row)
with_row least ds None others = refl
with_row least ds (Some row) others =
    ap (λ (f : Row → Option (List Row)). option_and_then f (cond (nat_lt least row.from && is_in_range row) (Some row) None)) (λ i. λ r. option_map (λ rows. r ∷ rows) (others r.from i))
    ∙ row_before row (nat_lt least row.from) (is_in_range row) (all_rows ds)
    ∙ sym (chosen_after least row (all_rows ds))

-- they are all rows, where these are in range
all_above : (least : ℕ) (ds : List Data) → rows_above least ds ≡ option_and_then (chosen least) (all_rows ds)
unfolding chosen are_above
all_above least [] = refl
all_above least (d ∷ ds) = with_row least ds (row_of d) (λ n. all_above n ds)

on_array : {A B C : Type 0} (f : A → Option B) (g : B → Option C) (o : Option A) → option_and_then g (option_and_then f o) ≡ option_and_then (λ a. option_and_then g (f a)) o
on_array f g None = refl
on_array f g (Some a) = refl

pub rows_read : (d : Data) → rows_of d ≡ option_and_then (λ ds. rows_above 0 (items ds)) (as_array d)
unfolding chosen are_above
rows_read d =
    on_array (λ ds. all_rows (items ds)) (chosen 0) (as_array d)
    ∙ ap (λ f. option_and_then f (as_array d)) (λ i. λ ds. sym (all_above 0 (items ds)) i)

-- one more row before the rest
pub more_before : {A : Type 0} (done : List A) (a : A) (rest : Option (List A)) → option_map (λ r. done ++ r) (option_map (λ r. a ∷ r) rest) ≡ option_map (λ r. (done ++ a ∷ []) ++ r) rest
more_before done a None = refl
more_before done a (Some r) = ap Some (sym (append_assoc done (a ∷ []) r))

read_of_items : (d : Data) (vs : List Value) → Some (items_view vs) ≡ as_array d → rows_of d ≡ rows_above 0 (map view vs)
read_of_items d vs e = rows_read d ∙ sym (ap (option_and_then (λ ds. rows_above 0 (items ds))) e) ∙ ap (rows_above 0) (items-items_of (map view vs))

-- a pair that says no row
pub none_here : (d : Data) (vs xs : List Value) (i least : ℕ) (rows : List Row) (x : Value) → Some (items_view vs) ≡ as_array d → xs ≡ vs
    → rows_above 0 (map view xs) ≡ option_map (λ rest. rows ++ rest) (rows_above least (map view (drop i xs))) → i < length xs → x ≡ get_or xs i x
    → row_above least (view x) ≡ None → rows_of d ≡ None
none_here d vs xs i least rows x e same kept h at none =
    read_of_items d vs e ∙ ap (λ ys. rows_above 0 (map view ys)) (sym same) ∙ kept
    ∙ ap (λ ds. option_map (λ rest. rows ++ rest) (rows_above least ds)) (mapped_left view xs i x h at)
    ∙ ap (λ o. option_map (λ rest. rows ++ rest) (option_and_then (λ row. option_map (λ rest. row ∷ rest) (rows_above row.from (map view (drop (i + 1) xs)))) o)) none

-- all pairs have said their rows
pub rows_all : (d : Data) (vs xs : List Value) (i least : ℕ) (rows : List Row) → Some (items_view vs) ≡ as_array d → xs ≡ vs
    → rows_above 0 (map view xs) ≡ option_map (λ rest. rows ++ rest) (rows_above least (map view (drop i xs))) → length xs ≤ i → rows_of d ≡ Some rows
rows_all d vs xs i least rows e same kept h =
    read_of_items d vs e ∙ ap (λ ys. rows_above 0 (map view ys)) (sym same) ∙ kept
    ∙ ap (λ ys. option_map (λ rest. rows ++ rest) (rows_above least (map view ys))) (drop_all i xs h) ∙ ap Some (append-nil rows)
