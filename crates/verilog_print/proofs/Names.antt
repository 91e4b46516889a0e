-- Lists of names, and lists of uses that are all declared.
use Rattle.std.proofs.Common.{◌≡◌, ◌∙◌, ℕ, zero, suc, ◌<◌, Bool, true, false, ◌&&◌, ◌||◌, not, List, [], ◌∷◌, ◌++◌, length, refl, sym, ap, arith, Some, None}
use Rattle.std.specs.Prelude.{slice_get, bytes_eq}
use Rattle.std.proofs.lemmas.List.Folds.{list_any-append}
use Rattle.std.proofs.lemmas.Option.{slice_get_within}
use Rattle.std.proofs.lemmas.Slice.Eq.{bytes_eq-Decides}
use Rattle.rtl_ir.specs.Rules.{AllDiffer}
use Rattle.rtl_text.specs.Tree.{Name}
use Rattle.verilog_print.proofs.Letters.{not_so}
use Rattle.rtl_reading.specs.Uses.{Use, is_in, first_undeclared}

abbrev pub AllKnown : List Use → Type 0
AllKnown [] = Unit {0}
AllKnown (u ∷ us) = (u.declared ≡ true) × AllKnown us

pub none_unknown : (us : List Use) → AllKnown us → first_undeclared us ≡ None
none_unknown [] h = refl
none_unknown (u ∷ us) (h, k) = rw h (none_unknown us k)

pub known_both : (us vs : List Use) → AllKnown us → AllKnown vs → AllKnown (us ++ vs)
known_both [] vs h k = k
known_both (u ∷ us) vs (h, t) k = (h, known_both us vs t k)

-- tests
pub or_true : (a : Bool) → (a || true) ≡ true
or_true true = refl
or_true false = refl

pub both_true : (a b : Bool) → a ≡ true → b ≡ false → (a && not b) ≡ true
both_true a b h k = rw (h, k) refl

pub in_first : (name : Name) (xs ys : List Name) → is_in name xs ≡ true → is_in name (xs ++ ys) ≡ true
in_first name xs ys h = rw (list_any-append (bytes_eq name) xs ys, h) refl

pub in_second : (name : Name) (xs ys : List Name) → is_in name ys ≡ true → is_in name (xs ++ ys) ≡ true
in_second name xs ys h = rw (list_any-append (bytes_eq name) xs ys, h) (or_true (is_in name xs))

wider : (a b c d e : Bool) → ((a || b) || d) ≡ true → ((a || (b || c)) || (d || e)) ≡ true
wider true b c d e h = refl
wider false true c d e h = refl
wider false false true d e h = refl
wider false false false true e h = refl
wider false false false false e h = cc

-- where the second and the third of three lists grow
pub in_wider : (name : Name) (xs ys more zs others : List Name) → is_in name (xs ++ ys ++ zs) ≡ true → is_in name (xs ++ (ys ++ more) ++ (zs ++ others)) ≡ true
in_wider name xs ys more zs others h =
    let old : ((is_in name xs || is_in name ys) || is_in name zs) ≡ true = ap
    (λ b. b || is_in name zs) (sym (list_any-append (bytes_eq name) xs ys)) ∙ sym
    (list_any-append (bytes_eq name) (xs ++ ys) zs) ∙ h in
    rw (
      list_any-append (bytes_eq name) (xs ++ (ys ++ more)) (zs ++ others),
      list_any-append (bytes_eq name) xs (ys ++ more),
      list_any-append (bytes_eq name) ys more,
      list_any-append (bytes_eq name) zs others,
    )
    (wider (is_in name xs) (is_in name ys) (is_in name more) (is_in name zs) (is_in name others) old)

-- an element is in its list
pub in_at : (xs : List Name) (k : ℕ) (name : Name) → slice_get xs k ≡ Some name → is_in name xs ≡ true
in_at [] k name e = cc
in_at (x ∷ xs) zero name e = let same : name ≡ x = cc in rw ((bytes_eq-Decides name x).1 same) refl
in_at (x ∷ xs) (suc k) name e = rw (in_at xs k name e) (or_true (bytes_eq name x))

place_from : (name x : Name) (xs : List Name) → (is_in name xs ≡ true → (k : ℕ)
    × (slice_get xs k ≡ Some name)) → (b : Bool) → bytes_eq name x ≡ b
    → (b || is_in name xs) ≡ true → (k : ℕ) × (slice_get (x ∷ xs) k ≡ Some name)
place_from name x xs f true e h = let same : name ≡ x = (bytes_eq-Decides name x).0 e in (zero, ap Some (sym same))
place_from name x xs f false e h = let (k, at) = f h in (suc k, at)

-- what is in a list is one of its elements
pub place_of : (name : Name) (xs : List Name) → is_in name xs ≡ true → (k : ℕ) × (slice_get xs k ≡ Some name)
place_of name [] h = cc
place_of name (x ∷ xs) h = place_from name x xs (place_of name xs) (bytes_eq name x) refl h

pub get_first : {A : Type 0} (xs ys : List A) (k : ℕ) (x : A) → slice_get xs k ≡ Some x → slice_get (xs ++ ys) k ≡ Some x
get_first [] ys k x e = cc
get_first (y ∷ xs) ys zero x e = e
get_first (y ∷ xs) ys (suc k) x e = get_first xs ys k x e

get_seam : {A : Type 0} (xs : List A) (y : A) (ys : List A) → slice_get (xs ++ y ∷ ys) (length xs) ≡ Some y
get_seam [] y ys = refl
get_seam (x ∷ xs) y ys = get_seam xs y ys

-- where all names differ, none is among those before it
pub not_before : (xs : List Name) (y : Name) (ys : List Name) → AllDiffer (xs ++ y ∷ ys) → is_in y xs ≡ false
not_before xs y ys d =
    not_so (is_in y xs) (λ h. let (
      k,
      at,
    ) = place_of y xs h in let within : k
    < length xs = slice_get_within xs k y at in let same : k ≡ length xs = d k (length xs) y
    (get_first xs (y ∷ ys) k y at) (get_seam xs y ys) in absurd (omega arith))
