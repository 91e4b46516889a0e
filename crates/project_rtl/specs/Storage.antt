-- What the top module of a design has with all its instances: bits that are stored, and nets.
use Rattle.std.specs.Prelude.{
  ℕ,
  ◌+◌,
  ◌-◌,
  ◌*◌,
  List,
  [],
  ◌∷◌,
  ◌++◌,
  length,
  slice_index,
  sum_by,
}
use Rattle.rtl_ir.specs.declared.design.Instance.{Instance}
use Rattle.rtl_ir.specs.declared.design.Module.{Module}
use Rattle.rtl_ir.specs.declared.design.Design.{Design}
use Rattle.counter_chains.specs.Digits.{least_bits}
use Rattle.rtl_delays.specs.Stored.{stored_bits}
use Rattle.manager_links.specs.declared.links.Links.{Links}
use Rattle.manager_links.specs.declared.project.Project.{Project}
use Rattle.project_rtl.specs.Projects.{Queue, queues_of}

-- what a module has of its own and with all its instances, where these are of the modules before it
abbrev pub total_with : (Module → ℕ) → List ℕ → Module → ℕ
total_with own totals m =
    own m + sum_by (λ (i : Instance). slice_index totals i.«module») m.instances

-- those of these modules behind those of the modules before them
abbrev pub totals_after : (Module → ℕ) → List ℕ → List Module → List ℕ
totals_after own totals [] = totals
totals_after own totals (m ∷ ms) = totals_after own (totals ++ total_with own totals m ∷ []) ms

-- What the top module of a design has with all its instances. A module stands after those that it
-- has instances of.
abbrev pub total_of : (Module → ℕ) → Design → ℕ
total_of own d = slice_index (totals_after own [] d.modules) (length d.modules - 1)

-- the bits of the registers and memories of all of it, which are kept between edges
abbrev pub all_bits : Design → ℕ
all_bits d = total_of stored_bits d

abbrev pub net_count : Module → ℕ
net_count m = length m.nets

-- how many wires and registers all of it has
abbrev pub all_nets : Design → ℕ
all_nets d = total_of net_count d

-- the bits of a FIFO: its words, a place of the fewest bits that hold the last place, and a count of
-- the fewest that hold its depth
abbrev pub queue_bits : Queue → ℕ
queue_bits queue =
    queue.width * queue.depth + (least_bits (queue.depth - 1) + least_bits queue.depth)

-- those of the FIFOs of all streams of the host and of all links
abbrev pub fifo_bits : Project → Links → ℕ
fifo_bits project made = sum_by queue_bits (queues_of project made)
