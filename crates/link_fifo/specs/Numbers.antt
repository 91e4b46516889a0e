-- The numbers of the netlist of a FIFO.
use Rattle.std.specs.Prelude.{◌≡◌, ℕ, ◌+◌, ◌-◌, ◌<◌, ◌≤◌, ◌%◌, ◌^◌}
use Rattle.mx_bits.specs.declared.word.Word.{Word}
use Rattle.link_fifo.specs.declared.numbers.Steps.{Steps}
use Rattle.link_fifo.specs.declared.numbers.Numbers.{Numbers}

-- the word is this number, of so many bits
pub record IsNumber (bits number : ℕ) (word : Word) : Type 0 where
  pub number_is : word.bits ≡ number
  pub width : word.width ≡ bits

-- the numbers of a counter of so many bits that goes up to this one
pub record AreSteps (bits last : ℕ) (s : Steps) : Type 0 where
  pub zero_is : IsNumber bits 0 s.zero
  pub one_is : IsNumber bits 1 s.one
  pub last_is : IsNumber bits last s.last

-- the numbers of a FIFO of this depth, with so many bits for its places and its counts
pub record AreNumbers (depth places counts : ℕ) (n : Numbers) : Type 0 where
  pub place_is : AreSteps places (depth - 1) n.place
  pub count_is : AreSteps counts depth n.count
  pub wide_depth_is : IsNumber (counts + 1) depth n.wide_depth
  pub low_depth_is : IsNumber places (depth % 2 ^ places) n.low_depth
  pub before_place_is : IsNumber (counts + 1 - places) 0 n.before_place
  pub before_count_is : IsNumber 1 0 n.before_count
  pub high_is : IsNumber 1 1 n.high

-- so many bits hold the number, and fewer don't
pub record IsLeast (bits number : ℕ) : Type 0 where
  pub holds : number < 2 ^ bits
  pub least : 2 ^ (bits - 1) ≤ number
