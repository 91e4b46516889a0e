-- A table of names, once a name has another place, or none.
use Rattle.std.proofs.Common.{◌≡◌, ◌∙◌, ℕ, Bool, true, false, cond, List, refl, sym, subst}
use Rattle.std.specs.Prelude.{Option, nat_eq}
use Rattle.std.specs.Cmp.Lexicographic.{pointwise, nat_list_eq_equiv}
use Rattle.std.specs.Global.{Vec}
use Rattle.std.specs.HashMap.{HashMap, UpdatesBy}
use Rattle.std.specs.Map.{lookup, IsKeyTest, AreApart, KeepsOthers}
use Rattle.std.specs.Str.{bytes_eq}
use Rattle.text_scan.proofs.ByteTests.{bytes_same}
use Rattle.kernel_meaning.specs.Index.{found_in}

-- whether two keys are equal
abbrev pub same_keys : Vec ℕ → Vec ℕ → Bool
same_keys k l = pointwise nat_eq k.items l.items

-- whether a key is a name
abbrev pub is_key : List ℕ → Vec ℕ → Bool
is_key name key = pointwise nat_eq name key.items

apart : (name other key : List ℕ) → bytes_eq name other ≡ false → bytes_eq name key ≡ true
    → bytes_eq other key ≡ false
apart name other key n y =
    nat_list_eq_equiv.symm other key ∙ sym (nat_list_eq_equiv.congr name key other y) ∙ n

others : {X : Type 0} (test : Vec ℕ → Bool) (old new : List (Vec ℕ × X))
    → KeepsOthers same_keys test old new → (other : Vec ℕ → Bool) → IsKeyTest same_keys other
    → AreApart test other → lookup other new ≡ lookup other old
unfolding KeepsOthers
others test old new h = h

pub found-after : {S : Type 0} (name : List ℕ) (old new : HashMap (Vec ℕ) ℕ S) (place : Option ℕ)
    → UpdatesBy same_keys (is_key name) old new place → (other : List ℕ)
    → found_in new other ≡ cond (bytes_eq name other) place (found_in old other)
found-after name old new place h other = by (bytes_eq name other) refl
  where
    by : (b : Bool) → bytes_eq name other ≡ b
        → found_in new other ≡ cond b place (found_in old other)
    by true e = subst (λ n. found_in new n ≡ place) (bytes_same name other e) h.1
    by false e =
        others (is_key name) old.entries new.entries h.3 (is_key other)
        (λ k l. nat_list_eq_equiv.congr other k.items l.items) (λ k. apart name other k.items e)
