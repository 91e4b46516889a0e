-- In which join each terminal stands.
use Rattle.std.specs.Prelude.{◌≡◌, ◌⊎◌, ℕ, List, Option, Some, None, length, slice_get, IsSomeAnd}
use Rattle.std.specs.List.{Any, Contains}
use Rattle.kernel_meaning.specs.declared.plan.Join.{Join}
use Rattle.kernel_meaning.specs.declared.plan.Plan.{Plan}
use Rattle.stream_graph.specs.declared.kernel.Kernel.{Kernel}
use Rattle.manager_links.specs.declared.ends.Ends.{Ends}
use Rattle.manager_links.specs.declared.error.EndName.{EndName}
use Rattle.manager_links.specs.declared.error.LinkError.{LinkError}
use Rattle.manager_links.specs.declared.error.LinkError.TheVariants as L
use Rattle.manager_links.specs.Lists.{IsFirst, IsFirstAgain}
use Rattle.manager_links.specs.Rules.{IsUnlinked}
use Rattle.manager_links.specs.Terminals.{
  Terminal,
  left_terminal,
  right_terminal,
  ends_of,
  terminals,
  said_as,
}

-- a join stands at this number
abbrev pub IsTaken : List (Option ℕ) → ℕ → Type 0
IsTaken places number = (join : ℕ) × (slice_get places number ≡ Some (Some join))

-- a join of these numbers ends at this terminal
abbrev pub IsEndAt : List Ends → ℕ → ℕ → Type 0
IsEndAt numbers number join =
    IsSomeAnd (slice_get numbers join) (λ ends. (ends.left ≡ number) ⊎ (ends.right ≡ number))

-- for each terminal whether it is among those at which joins end, and by which join
pub record ArePlaced (ends : List Terminal) (numbers : List Ends) (ended : List Terminal)
    (places : List (Option ℕ)) : Type 0
  where
    pub size : length places ≡ length ends
    pub free : (number : ℕ) (end : Terminal) → slice_get ends number ≡ Some end
        → slice_get places number ≡ Some None → Contains ended end → ⊥
    pub taken : (number join : ℕ) (end : Terminal) → slice_get ends number ≡ Some end
        → slice_get places number ≡ Some (Some join) → Contains ended end
    pub by : (number join : ℕ) → slice_get places number ≡ Some (Some join)
        → IsEndAt numbers number join

-- the join ends at the first terminal and at the second one
pub record Joins (ends : List Terminal) (one other : ℕ) (join : Join) : Type 0 where
  pub either :
      ((slice_get ends one ≡ Some (left_terminal join.left))
      × (slice_get ends other ≡ Some (right_terminal join.right)))
      ⊎ ((slice_get ends one ≡ Some (right_terminal join.right))
      × (slice_get ends other ≡ Some (left_terminal join.left)))

-- for each terminal another one that a join ends at with it
pub record ArePartners (ends : List Terminal) (joins : List Join) (partners : List ℕ) : Type 0
  where
    pub size : length partners ≡ length ends
    pub each : (number other : ℕ) → slice_get partners number ≡ Some other
        → Any (Joins ends number other) joins

-- the first end that stood in an earlier join
pub record IsFirstTwice (plan : Plan) (kernels : List Kernel) (said : EndName) : Type 0 where
  pub end : Terminal
  pub first : IsFirstAgain (ends_of plan.joins) end
  pub is : said ≡ said_as kernels end

abbrev pub SaysTwice : Plan → List Kernel → LinkError → Type 0
SaysTwice plan kernels (L.LinkedTwice said) = IsFirstTwice plan kernels said
SaysTwice plan kernels error = error ≡ L.NoMemory

-- the first terminal that stands in no join
pub record IsFirstUnlinked (plan : Plan) (kernels : List Kernel) (said : EndName) : Type 0 where
  pub end : Terminal
  pub first : IsFirst (IsUnlinked plan) (terminals plan kernels) end
  pub is : said ≡ said_as kernels end

abbrev pub SaysUnlinked : Plan → List Kernel → LinkError → Type 0
SaysUnlinked plan kernels (L.Unlinked said) = IsFirstUnlinked plan kernels said
SaysUnlinked plan kernels error = error ≡ L.NoMemory
