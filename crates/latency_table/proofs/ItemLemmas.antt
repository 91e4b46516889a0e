-- The items of an array.
use Rattle.std.proofs.Common.{◌≡◌, ◌≢◌, ℕ, suc, ◌<◌, ◌≤◌, ◌+◌, ◌&&◌, List, [], ◌∷◌, length, drop, get_or, map, Some, None, option_and_then, true, false, refl, sym, ap, ◌∙◌, add-one}
use Rattle.std.proofs.Math.Seq.{drop-cons}
use Rattle.std.specs.List.{list_all}
use Rattle.std.specs.Option.{option_map_or}
use Rattle.std.proofs.lemmas.List.{length-map, drop_all}
use Rattle.std.proofs.lemmas.List.Folds.{list_all-map}
use Rattle.serde_json.specs.View.{view, items_of, items_view}
use Rattle.serde_json.specs.Data.{Data}
use Rattle.serde_json.specs.Find.{as_array}
use Rattle.serde_json.specs.declared.value.Value.{Value}
use Rattle.latency_table.specs.Rows.{items, two_of, pair_of, is_pair, are_pairs}

-- the items of a list of data
pub items-items_of : (ds : List Data) → items (items_of ds) ≡ ds
items-items_of [] = refl
items-items_of (d ∷ ds) = ap (λ rest. d ∷ rest) (items-items_of ds)

pub ruleset item_steps = (items-items_of, list_all-map)

-- more or fewer than two are no pair
not_two : (ds : List Data) → length ds ≢ 2 → two_of ds ≡ None
not_two [] h = refl
not_two (a ∷ []) h = refl
not_two (a ∷ b ∷ []) h = absurd (h refl)
not_two (a ∷ b ∷ c ∷ rest) h = refl

pub no_pair : (d : Data) (vs : List Value) → Some (items_view vs) ≡ as_array d → length vs ≢ 2 → None ≡ pair_of d
no_pair d vs e h =
    sym (ap (option_and_then (λ ds. two_of (items ds))) (sym e) ∙ ap two_of (items-items_of (map view vs)) ∙ not_two (map view vs) (rw length-map h))

-- each item is tested
pub are_pairs_of : (d : Data) (vs : List Value) → Some (items_view vs) ≡ as_array d → are_pairs d ≡ list_all is_pair (map view vs)
are_pairs_of d vs e = sym (ap (λ o. option_map_or (λ ds. list_all is_pair (items ds)) o false) e) ∙ ap (list_all is_pair) (items-items_of (map view vs))

-- the items from one on
pub mapped_left : {X Y : Type 0} (f : X → Y) (xs : List X) (i : ℕ) (x : X) → i < length xs → x ≡ get_or xs i x → map f (drop i xs) ≡ f x ∷ map f (drop (i + 1) xs)
mapped_left f xs i x h e = ap (map f) (drop-cons xs i x h ∙ ap (λ y. y ∷ drop (suc i) xs) (sym e)) ∙ ap (λ n. f x ∷ map f (drop n xs)) (sym (add-one i))

-- the test of all pairs, where some passed
pub fails_here : (d : Data) (vs xs : List Value) (i : ℕ) (x : Value) → Some (items_view vs) ≡ as_array d → xs ≡ vs
    → list_all is_pair (map view xs) ≡ list_all is_pair (map view (drop i xs)) → i < length xs → x ≡ get_or xs i x
    → is_pair (view x) ≡ false → are_pairs d ≡ false
fails_here d vs xs i x e same kept h at fails =
    are_pairs_of d vs e ∙ ap (λ ys. list_all is_pair (map view ys)) (sym same) ∙ kept ∙ ap (list_all is_pair) (mapped_left view xs i x h at)
    ∙ ap (λ t. t && list_all is_pair (map view (drop (i + 1) xs))) fails

pub all_pass : (d : Data) (vs xs : List Value) (i : ℕ) → Some (items_view vs) ≡ as_array d → xs ≡ vs
    → list_all is_pair (map view xs) ≡ list_all is_pair (map view (drop i xs)) → length xs ≤ i → are_pairs d ≡ true
all_pass d vs xs i e same kept h =
    are_pairs_of d vs e ∙ ap (λ ys. list_all is_pair (map view ys)) (sym same) ∙ kept ∙ ap (λ ys. list_all is_pair (map view ys)) (drop_all i xs h)
