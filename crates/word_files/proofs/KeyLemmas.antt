-- Sets of names.
use Rattle.std.proofs.Common.{◌≡◌, List, ℕ, [], ◌∷◌, ◌++◌, ◌||◌, ◌&&◌, ◌↔◌, IsTrue, not, Bor, Bool}
use Rattle.std.proofs.Common.{true, false, cond, bytes_eq, nat_cmp, BTreeSet, suc, take, drop}
use Rattle.std.proofs.Common.{length, get_or, map, ◌<◌, ◌+◌, add-one, sym, ap, ◌∙◌, refl}
use Rattle.std.specs.BTreeSet as sorted
use Rattle.std.specs.Cmp.Lexicographic.{slice_cmp, nat_list_eq_equiv}
use Rattle.std.specs.List.{list_any, list_all}
use Rattle.std.proofs.lemmas.Map.Text.{is_eq-slice_cmp}
use Rattle.std.proofs.lemmas.List.Folds.{list_any-append}
use Rattle.std.proofs.lemmas.Bool.{false≢true}
use Rattle.std.proofs.lemmas.Grind.{take_at_read}
use Rattle.std.proofs.Math.Seq.{drop-cons}
use Rattle.std.proofs.lemmas.List.{map-append}
use Rattle.word_files.specs.Keys.{HasKeys}
use Rattle.word_files.specs.RunFiles.{files, is_shared, SameNames}

or_if : (a b : Bool) → cond a true b ≡ (a || b)
or_if true b = refl
or_if false b = refl

-- one more name
pub one_more : (s n : BTreeSet (Bor (List ℕ))) (k : Bor (List ℕ)) (names : List (List ℕ))
    → sorted.Updates (λ x y. slice_cmp nat_cmp x.now y.now) s n k true → HasKeys s names
    → HasKeys n (k.now ∷ names)
one_more s n k names u has q =
    u.0 q ∙ ap (λ b. cond b true (sorted.contains (λ x y. slice_cmp nat_cmp x.now y.now) s q)) (is_eq-slice_cmp k.now q.now ∙ nat_list_eq_equiv.symm k.now q.now)
    ∙ or_if (bytes_eq q.now k.now) (sorted.contains (λ x y. slice_cmp nat_cmp x.now y.now) s q) ∙ ap (λ b. bytes_eq q.now k.now || b) (has q)

or_comm : (a b : Bool) → (a || (b || false)) ≡ (b || a)
or_comm true true = refl
or_comm true false = refl
or_comm false true = refl
or_comm false false = refl

-- the same where the new name stands last
pub one_last : (s n : BTreeSet (Bor (List ℕ))) (k : Bor (List ℕ)) (names : List (List ℕ))
    → sorted.Updates (λ x y. slice_cmp nat_cmp x.now y.now) s n k true → HasKeys s names
    → HasKeys n (names ++ k.now ∷ [])
one_last s n k names u has q =
    one_more s n k names u has q ∙ sym (list_any-append (bytes_eq q.now) names (k.now ∷ []) ∙ or_comm (list_any (bytes_eq q.now) names) (bytes_eq q.now k.now))

-- the files of the streams from one on
pub files_left : (xs : List (List ℕ × List ℕ)) (i : ℕ) (x : List ℕ × List ℕ) → i < length xs → x ≡ get_or xs i x → files (drop i xs) ≡ x.1 ∷ files (drop (i + 1) xs)
files_left xs i x h e = ap files (drop-cons xs i x h ∙ ap (λ y. y ∷ drop (suc i) xs) (sym e)) ∙ ap (λ n. x.1 ∷ files (drop n xs)) (sym (add-one i))

was_there : (b : Bool) → not b ≡ false → b ≡ true
was_there true e = refl
was_there false e = sym e

was_not_there : (b : Bool) → not b ≡ true → b ≡ false
was_not_there true e = sym e
was_not_there false e = refl

-- a file that is taken is shared
pub shared_here : (s : BTreeSet (Bor (List ℕ))) (k : Bor (List ℕ)) (names rest : List (List ℕ))
    → HasKeys s names → not (sorted.contains (λ x y. slice_cmp nat_cmp x.now y.now) s k) ≡ false
    → is_shared names (k.now ∷ rest) ≡ true
shared_here s k names rest has e = ap (λ b. b || is_shared (k.now ∷ names) rest) (sym (has k) ∙ was_there _ e)

-- a file that is not taken is taken from then on
pub apart_here : (s : BTreeSet (Bor (List ℕ))) (k : Bor (List ℕ)) (names rest : List (List ℕ))
    → HasKeys s names → not (sorted.contains (λ x y. slice_cmp nat_cmp x.now y.now) s k) ≡ true
    → is_shared names (k.now ∷ rest) ≡ is_shared (k.now ∷ names) rest
apart_here s k names rest has e = ap (λ b. b || is_shared (k.now ∷ names) rest) (sym (has k) ∙ was_not_there _ e)

-- what a function gives of the items up to one
pub mapped_taken : {X Y : Type 0} (f : X → Y) (xs : List X) (i : ℕ) (x : X) → i < length xs → x ≡ get_or xs i x → map f (take (i + 1) xs) ≡ map f (take i xs) ++ f x ∷ []
mapped_taken f xs i x h e = ap (map f) ((take_at_read xs i x h).1 ∙ ap (λ y. take i xs ++ y ∷ []) (sym e)) ∙ map-append f (take i xs) (x ∷ [])

-- a test of the items from one on
pub all_left : {X : Type 0} (test : X → Bool) (xs : List X) (i : ℕ) (x : X) → i < length xs → x ≡ get_or xs i x → list_all test (drop i xs) ≡ (test x && list_all test (drop (i + 1) xs))
all_left test xs i x h e =
    ap (list_all test) (drop-cons xs i x h ∙ ap (λ y. y ∷ drop (suc i) xs) (sym e)) ∙ ap (λ n. test x && list_all test (drop n xs)) (sym (add-one i))

at_name : List ℕ → Bor (List ℕ)
at_name name = record { ref_ptr = (0, 0); now = name }

is_same : (a b : Bool) → (a ≡ true → b ≡ true) → (b ≡ true → a ≡ true) → a ≡ b
is_same true b f g = sym (f refl)
is_same false true f g = g refl
is_same false false f g = refl

-- sets that are parts of each other have the same names
pub same_names : (s t : BTreeSet (Bor (List ℕ))) (xs ys : List (List ℕ)) → HasKeys s xs
    → HasKeys t ys → sorted.IsSubset (λ x y. slice_cmp nat_cmp x.now y.now) s t
    → sorted.IsSubset (λ x y. slice_cmp nat_cmp x.now y.now) t s → SameNames xs ys
unfolding at_name
same_names s t xs ys h k f g name =
    is_same _ _
    (λ e. sym (k (at_name name)) ∙ f (at_name name) (h (at_name name) ∙ e))
    (λ e. sym (h (at_name name)) ∙ g (at_name name) (k (at_name name) ∙ e))

-- and a set of the same names has each name of the other
pub is_part : (s t : BTreeSet (Bor (List ℕ))) (xs ys : List (List ℕ)) → HasKeys s xs → HasKeys t ys → SameNames xs ys → sorted.IsSubset (λ x y. slice_cmp nat_cmp x.now y.now) s t
is_part s t xs ys h k e q there = k q ∙ sym (e q.now) ∙ sym (h q) ∙ there

pub same_decides : (s t : BTreeSet (Bor (List ℕ))) (xs ys : List (List ℕ)) → HasKeys s xs
    → HasKeys t ys → (within around both : Bool) → IsTrue within
    ↔ sorted.IsSubset (λ x y. slice_cmp nat_cmp x.now y.now) s t → IsTrue around
    ↔ sorted.IsSubset (λ x y. slice_cmp nat_cmp x.now y.now) t s → both ≡ (within && around)
    → IsTrue both ↔ SameNames xs ys
same_decides s t xs ys h k true around both f g e =
    (λ r. same_names s t xs ys h k (f.0 refl) (g.0 (sym e ∙ r)), λ n. e ∙ g.1 (is_part t s ys xs k h (λ name. sym (n name))))
same_decides s t xs ys h k false around both f g e =
    (λ r. absurd (false≢true (sym e ∙ r)), λ n. absurd (false≢true (f.1 (is_part s t xs ys h k n))))
