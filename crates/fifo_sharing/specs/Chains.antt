-- The chains of words that the consumers of each producer share.
use Rattle.std.specs.Prelude.{
  ◌≡◌,
  ℕ,
  ◌<◌,
  ◌≤◌,
  ◌*◌,
  ◌-◌,
  ℤ,
  pos,
  ◌-ℤ◌,
  ◌↔◌,
  List,
  length,
  map,
  slice_index,
  All,
  Contains,
}
use Rattle.std.specs.List.Sorted.{IsStrictlyIncreasing}
use Rattle.cycle_find.specs.Constraints.{Numbers, start_of, end_of, need_of}
use Rattle.schedule_problem.specs.declared.problem.Problem.{Problem}
use Rattle.fifo_sharing.specs.declared.chain.Chain.{Chain}

-- edge number j of a problem is its arc number 2 * j, from the producer to the consumer
abbrev pub producer_of : Problem → ℕ → ℕ
producer_of p j = start_of p.arcs.list (2 * j)

abbrev pub consumer_of : Problem → ℕ → ℕ
consumer_of p j = end_of p.arcs.list (2 * j)

-- the delay of an edge is the time from producer to consumer, less the arc's need
abbrev pub delay_of : Problem → Numbers → ℕ → ℤ
delay_of p x j = (x (consumer_of p j) -ℤ x (producer_of p j)) -ℤ need_of p.arcs.list (2 * j)

-- some edge of this producer has this delay, which is above 0
abbrev pub IsDelayOf : Problem → Numbers → ℕ → ℕ → Type 0
IsDelayOf p x producer delay = (j : ℕ) × (2 * j < length p.arcs.list) × (producer_of p j ≡ producer)
    × (delay_of p x j ≡ pos delay) × (0 < delay)

-- a chain for such delays: it is tapped at each of them, in rising order, and is as long as the
-- greatest
pub record IsChainOf (IsDelay : ℕ → Type 0) (chain : Chain) : Type 0 where
  pub taps : (delay : ℕ) → Contains chain.taps delay ↔ IsDelay delay
  pub rising : IsStrictlyIncreasing chain.taps
  pub longest : IsDelay chain.words
  pub most : (delay : ℕ) → IsDelay delay → delay ≤ chain.words
  pub last : slice_index chain.taps (length chain.taps - 1) ≡ chain.words

abbrev pub producers : List Chain → List ℕ
producers chains = map (λ chain. chain.producer) chains

-- the chains of a problem at these times: one for each producer that has a delay above 0, by rising
-- producers
pub record AreChains (p : Problem) (x : Numbers) (chains : List Chain) : Type 0 where
  pub rising : IsStrictlyIncreasing (producers chains)
  pub each : All (λ chain. IsChainOf (IsDelayOf p x chain.producer) chain) chains
  pub all : (producer delay : ℕ) → IsDelayOf p x producer delay
      → Contains (producers chains) producer

-- no two lists are both the chains of a problem at these times
abbrev pub HaveOneList : Problem → Numbers → Type 0
HaveOneList p x = (a b : List Chain) → AreChains p x a → AreChains p x b → a ≡ b
