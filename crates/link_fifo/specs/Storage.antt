-- What a module stores between edges, in bits.
use Rattle.std.specs.Prelude.{◌≡◌, ℕ, ◌+◌, ◌*◌, ◌-◌}
use Rattle.rtl_ir.specs.declared.design.Module.{Module}
use Rattle.rtl_delays.specs.Stored.{stored_bits}
use Rattle.link_fifo.specs.Numbers.{IsLeast}

-- The module stores `depth` words of this width, a place of the least number of bits that holds the
-- last place, and a count of the least number of bits that holds the depth, and nothing else.
pub record StoresQueue (m : Module) (width depth : ℕ) : Type 0 where
  pub place_bits : ℕ
  pub place_least : IsLeast place_bits (depth - 1)
  pub count_bits : ℕ
  pub count_least : IsLeast count_bits depth
  pub all : stored_bits m ≡ width * depth + (place_bits + count_bits)
