-- On the way to the chains: the delays of each producer, and the chains of the producers so far.
use Rattle.std.specs.Prelude.{◌≡◌, ℕ, ◌<◌, ◌*◌, pos, [], ◌↔◌, List, length, slice_index_or, All, Contains}
use Rattle.std.specs.List.Sorted.{IsStrictlyIncreasing}
use Rattle.cycle_find.specs.Constraints.{Numbers}
use Rattle.schedule_problem.specs.declared.problem.Problem.{Problem}
use Rattle.fifo_sharing.specs.declared.chain.Chain.{Chain}
use Rattle.fifo_sharing.specs.Chains.{IsDelayOf, IsChainOf, producer_of, delay_of, producers}

-- some edge below number n of this producer has this delay, which is above 0
abbrev pub IsDelayBelow : Problem → Numbers → ℕ → ℕ → ℕ → Type 0
IsDelayBelow p x n producer delay = (j : ℕ) × (j < n) × (2 * j < length p.arcs.list)
    × (producer_of p j ≡ producer) × (delay_of p x j ≡ pos delay) × (0 < delay)

-- list number v has the delays above 0 of those edges of node v whose number is below n
abbrev pub AreDelaysBelow : Problem → Numbers → ℕ → List (List ℕ) → Type 0
AreDelaysBelow p x n delays = (v delay : ℕ)
    → Contains (slice_index_or delays v []) delay ↔ IsDelayBelow p x n v delay

-- the chains of the producers below number n
pub record AreChainsBelow (p : Problem) (x : Numbers) (n : ℕ) (chains : List Chain) : Type 0 where
  pub rising : IsStrictlyIncreasing (producers chains)
  pub below : All (λ producer. producer < n) (producers chains)
  pub each : All (λ chain. IsChainOf (IsDelayOf p x chain.producer) chain) chains
  pub all : (producer delay : ℕ) → producer < n → IsDelayOf p x producer delay
      → Contains (producers chains) producer
