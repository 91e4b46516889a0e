-- Items of lists that stand first, or again.
use Rattle.std.specs.Prelude.{◌≡◌, ◌≢◌, List, ◌∷◌, ◌++◌, All}
use Rattle.std.specs.List.{AllPairs, Contains}

-- no item stands twice
abbrev pub AllDiffer : {A : Type 0} → List A → Type 0
AllDiffer items = AllPairs (λ one other. one ≢ other) items

-- the first item of which a fact holds
pub record IsFirst {A : Type 0} (P : A → Type 0) (items : List A) (item : A) : Type 0 where
  pub before : List A
  pub after : List A
  pub split : items ≡ before ++ item ∷ after
  pub none : All (λ other. P other → ⊥) before
  pub holds : P item

-- the first item that stands again
pub record IsFirstAgain {A : Type 0} (items : List A) (item : A) : Type 0 where
  pub before : List A
  pub after : List A
  pub split : items ≡ before ++ item ∷ after
  pub differ : AllDiffer before
  pub again : Contains before item
