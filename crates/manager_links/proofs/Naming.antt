-- Names that are met one after another.
use Rattle.std.proofs.Common.{◌≡◌, ℕ, Bool, true, false, cond, ◌||◌, not, nat_eq, List, [], ◌∷◌, ◌++◌, refl, sym, ap, ◌∙◌}
use Rattle.std.specs.Borrow.{Bor}
use Rattle.std.specs.Cmp.Lexicographic.{pointwise, bytes_decides, nat_list_eq_equiv}
use Rattle.std.specs.HashSet.{HashSet, contains}
use Rattle.std.specs.List.{Contains, list_any}
use Rattle.std.proofs.lemmas.List.Folds.{list_any-append}
use Rattle.std.proofs.lemmas.Map.Views.{Contains-from_any, list_any-from_Contains}

-- just these names were met
abbrev pub HaveMet : {S : Type 0} → HashSet (Bor (List ℕ)) S → List (List ℕ) → Type 0
HaveMet met names =
    (q : Bor (List ℕ)) → contains (λ x y. pointwise nat_eq x.now y.now) met q
    ≡ list_any (pointwise nat_eq q.now) names

pub is_there : (names : List (List ℕ)) (name : List ℕ)
    → list_any (pointwise nat_eq name) names ≡ true → Contains names name
is_there names name e = Contains-from_any (λ x y. (bytes_decides x y).0) name names e

pub is_new : (names : List (List ℕ)) (name : List ℕ)
    → list_any (pointwise nat_eq name) names ≡ false → Contains names name → ⊥
is_new names name e c = let there = list_any-from_Contains nat_list_eq_equiv name names c in absurd (cc)

-- what the answer of a set says, whether a name was new to it
pub was_new : (fresh old any : Bool) → fresh ≡ not old → old ≡ any → fresh ≡ true → any ≡ false
was_new fresh old true e f g = absurd (cc (ap not f))
was_new fresh old false e f g = refl

pub was_there : (fresh old any : Bool) → fresh ≡ not old → old ≡ any → fresh ≡ false → any ≡ true
was_there fresh old true e f g = refl
was_there fresh old false e f g = absurd (cc (ap not f))

-- a set of names with one more
pub met_more : (name q : List ℕ) (names : List (List ℕ)) (before after : Bool)
    → after ≡ cond (pointwise nat_eq name q) true before
    → before ≡ list_any (pointwise nat_eq q) names
    → after ≡ list_any (pointwise nat_eq q) (names ++ name ∷ [])
met_more name q names before after a b =
    a ∙ either (pointwise nat_eq name q) (pointwise nat_eq q name) before turned
    ∙ ap (λ x. x || (pointwise nat_eq q name || false)) b
    ∙ sym (list_any-append (pointwise nat_eq q) names (name ∷ []))
  where
    turned : pointwise nat_eq name q ≡ pointwise nat_eq q name
    turned = nat_list_eq_equiv.symm name q

    either : (x y z : Bool) → x ≡ y → cond x true z ≡ (z || (y || false))
    either true true true e = refl
    either true true false e = refl
    either true false z e = absurd (cc)
    either false true z e = absurd (cc)
    either false false true e = refl
    either false false false e = refl
