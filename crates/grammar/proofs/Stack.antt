-- Derives and Begins with a stack: the parts that are still to come, the next one first.
use Rattle.std.specs.Prelude.{◌≡◌, ◌⊎◌, List, [], ◌∷◌, Bool, true, false, Option, Some, None}
use Rattle.grammar.specs.Stack.{all_empty, may_all, Follow}

abbrev pub AllFollow : {P T : Type 0} → (P → T → Bool) → (P → Bool) → (P → T → Bool) → P → List P → Type 0
AllFollow may empties peeks p [] = Unit {0}
AllFollow may empties peeks p (q ∷ rest) = Follow may empties peeks p q rest × AllFollow may empties peeks p rest

-- What a parser that looks at one token takes of a grammar: the tokens that may begin each part (may), whether it may derive
-- the empty list (empties), the tokens with which it goes on where it could end (peeks), and the choice that it takes.
pub record Predicts {P T : Type 0} (Is : P → T → Type 0) (Choice : P → List P → Type 0) (may : P
    → T → Bool) (empties : P → Bool) (peeks : P → T → Bool) (choose : P → Option T
    → Option (List P)) : Type 0 where
  pub is_may : (p : P) (t : T) → Is p t → may p t ≡ true
  pub choice_may : (p : P) (qs : List P) (t : T) → Choice p qs → may_all may empties qs t ≡ true → may p t ≡ true
  pub choice_empty : (p : P) (qs : List P) → Choice p qs → all_empty empties qs ≡ true → empties p ≡ true
  pub exact : (p : P) (qs : List P) (t : T) → Choice p qs → (may_all may empties qs t ≡ true)
      ⊎ ((all_empty empties qs ≡ true) × (peeks p t ≡ false)) → choose p (Some t) ≡ Some qs
  pub exact_end : (p : P) (qs : List P) → Choice p qs → all_empty empties qs ≡ true → choose p None ≡ Some qs
  pub sound : (p : P) (t : Option T) (qs : List P) → choose p t ≡ Some qs → Choice p qs
  pub follow : (p : P) (qs : List P) → Choice p qs → AllFollow may empties peeks p qs
  pub one_kind : (p : P) (qs : List P) (t : T) → Choice p qs → Is p t → ⊥
