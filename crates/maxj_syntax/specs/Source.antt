-- What a source is, and what its first fault is.
use Rattle.std.specs.Prelude.{ℕ, List, length}
use Rattle.maxj_tokens.specs.Scanning.{PlacedToken, AreTokens, HasStrayByte, HasNoToken}
use Rattle.maxj_syntax.specs.Tree.{ClassTree}
use Rattle.maxj_syntax.specs.Productions.{IsFile}
use Rattle.maxj_tokens.specs.Faults.{IsFirst, HasNone, IsOutside, IsExcess}
use Rattle.maxj_syntax.specs.Faults.{IsMisplaced, IsNoProject}

-- the bytes are tokens, all within the profile
pub record AreInside (bytes : List ℕ) (tokens : List PlacedToken) : Type 0 where
  pub read : AreTokens bytes tokens
  pub inside : HasNone IsOutside tokens

-- and none of them stands too deep or too far
pub record AreWithin (bytes : List ℕ) (tokens : List PlacedToken) : Type 0 where
  pub inside : AreInside bytes tokens
  pub within : HasNone IsExcess tokens

-- the bytes are a source with these classes
pub record IsSourceOf (bytes : List ℕ) (classes : List ClassTree) : Type 0 where
  pub tokens : List PlacedToken
  pub within : AreWithin bytes tokens
  pub file : IsFile tokens classes
  pub project : IsNoProject classes → ⊥

-- a fault of a source
pub data Fault : Type 0 where
  StrayByte : ℕ → Fault  -- a byte that stands in no source outside comments, at this place
  NoToken : ℕ → Fault  -- no token begins at this place
  Misplaced : ℕ → Fault  -- no source has the token at this place after those before it
  Outside : ℕ → Fault  -- the token at this place is out of profile
  Excess : ℕ → Fault  -- the token at this place stands too deep or too far
  NoProject : Fault  -- the classes are no project

-- the fault is the one that is told of the bytes
abbrev pub HasFirst : List ℕ → Fault → Type 0
HasFirst bytes (StrayByte place) = HasStrayByte bytes place
HasFirst bytes (NoToken place) = HasNoToken bytes place
HasFirst bytes (Outside place) = (tokens : List PlacedToken) × AreTokens bytes tokens × IsFirst IsOutside tokens place
HasFirst bytes (Excess place) = (tokens : List PlacedToken) × AreInside bytes tokens × IsFirst IsExcess tokens place
HasFirst bytes (Misplaced place) = (tokens : List PlacedToken) × AreWithin bytes tokens × IsMisplaced tokens (length bytes) place
HasFirst bytes NoProject = (tokens : List PlacedToken) × (classes : List ClassTree) × AreWithin bytes tokens × IsFile tokens classes × IsNoProject classes
