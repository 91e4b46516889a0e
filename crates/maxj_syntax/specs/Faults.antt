-- The faults of the tokens of a source: the first one that no source has there, and classes that are no project.
use Rattle.std.specs.Prelude.{◌≡◌, ◌⊎◌, ◌≤◌, ◌<◌, ◌+◌, ℕ, Bool, true, false, List, [], ◌∷◌, ◌++◌, length, take, map, slice_index_or, if◌then◌else◌}
use Rattle.std.specs.Str.{bytes_eq}
use Rattle.maxj_tokens.specs.Scanning.{PlacedToken}
use Rattle.maxj_syntax.specs.Tree.{ClassTree}
use Rattle.maxj_syntax.specs.Productions.{IsFile}

-- the first token that no source has after the tokens before it

-- with some others behind them the tokens are a source
abbrev pub BeginsSource : List PlacedToken → Type 0
BeginsSource tokens = (more : List PlacedToken) × (classes : List ClassTree) × IsFile (tokens ++ more) classes

-- The token with this number is the first with which the tokens begin no source; at the end of the tokens, they are no whole one.
pub record IsFirstMisplaced (tokens : List PlacedToken) (number : ℕ) : Type 0 where
  pub within : number ≤ length tokens
  pub begun : BeginsSource (take number tokens)
  pub bad : number < length tokens → BeginsSource (take (number + 1) tokens) → ⊥
  pub none : (classes : List ClassTree) → IsFile tokens classes → ⊥

-- the place of a token in bytes, or the size of the source past the last one
abbrev pub place_of : List PlacedToken → ℕ → ℕ → ℕ
place_of tokens size number = slice_index_or (map (λ (t : PlacedToken). t.place) tokens) number size

pub record IsMisplaced (tokens : List PlacedToken) (size place : ℕ) : Type 0 where
  pub number : ℕ
  pub bad : IsFirstMisplaced tokens number
  pub at : place ≡ place_of tokens size number

-- classes that are no project

abbrev pub kernels_in : List ClassTree → ℕ
kernels_in [] = 0
kernels_in (c ∷ cs) = if c.manager then kernels_in cs else 1 + kernels_in cs

abbrev pub managers_in : List ClassTree → ℕ
managers_in [] = 0
managers_in (c ∷ cs) = if c.manager then 1 + managers_in cs else managers_in cs

abbrev pub has_class : List ℕ → List ClassTree → Bool
has_class name [] = false
has_class name (c ∷ cs) = if bytes_eq name c.name then true else has_class name cs

abbrev pub has_twins : List ClassTree → Bool
has_twins [] = false
has_twins (c ∷ cs) = if has_class c.name cs then true else has_twins cs

-- no kernel, two managers, two classes of one name, or several kernels without a manager
abbrev pub IsNoProject : List ClassTree → Type 0
IsNoProject cs = (kernels_in cs ≡ 0) ⊎ ((2 ≤ managers_in cs) ⊎ ((has_twins cs ≡ true) ⊎ ((2 ≤ kernels_in cs) × (managers_in cs ≡ 0))))
