-- White space and comments at the front of a text.
use Rattle.std.specs.Prelude.{◌≡◌, ℕ, List, ◌++◌}
use Rattle.grammar.specs.Tokens.{Gaps}

-- white space or a comment stands at the front, and the rest behind it
abbrev pub Skips : List ℕ → List ℕ → Type 0
Skips text rest = (gap : List ℕ) × (text ≡ gap ++ rest) × Gaps gap rest

abbrev pub BeginsNoGap : List ℕ → Type 0
BeginsNoGap text = (gap rest : List ℕ) → text ≡ gap ++ rest → Gaps gap rest → ⊥
