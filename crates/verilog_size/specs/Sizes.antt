-- How large a design is, and that its text is not much larger.
use Rattle.std.specs.Prelude.{ℕ, ◌+◌, ◌*◌, ◌≤◌, List, length}
use Rattle.std.specs.List.{All, sum_by}
use Rattle.rtl_ir.specs.declared.design.Instance.{Instance}
use Rattle.rtl_ir.specs.declared.design.Module.{Module}
use Rattle.rtl_ir.specs.declared.design.Design.{Design}
use Rattle.rtl_ir.specs.Formed.{IsFormedModule}
use Rattle.rtl_ir.specs.Rules.{IsSound, IsAccepted}
use Rattle.rtl_reading.specs.Reads.{IsPortsFirst}
use Rattle.verilog_print.specs.Lines.{text_of_lines, design_lines}
use Rattle.verilog_size.specs.Names.{HasShortNames, HasOwnNames, inner_names, design_names}

-- the names of a module and of what it declares have at most so many bytes each
pub record HasNamesUpTo (most : ℕ) (m : Module) : Type 0 where
  pub own : length m.name ≤ most
  pub short : HasShortNames most m
  pub instances : All (λ (i : Instance). length i.name ≤ most) m.instances

-- one for an instance, and for each net joined to it
abbrev pub instance_size : Instance → ℕ
instance_size i = 1 + length i.nets

-- two for a module, one for each port, net and memory, and the sizes of its instances.
-- Assignments and updates are not counted: each gives a net its value, or writes a memory that has
-- no other update
abbrev pub size_of : Module → ℕ
size_of m = 2 + length m.ports + length m.nets + length m.mems + sum_by instance_size m.instances

abbrev pub design_size : Design → ℕ
design_size d = sum_by size_of d.modules

-- the text of an accepted design has at most 100 bytes for each part, beside the names in it
abbrev pub TextsAreSmall : Type 0
TextsAreSmall =
    (d : Design)
    → IsAccepted d
    → length (text_of_lines (design_lines d)) ≤ 100 * design_size d + design_names d

-- the names in a module, beside its own and those of its instances, are few, by how long those are
-- that it declares
abbrev pub NamesAreFew : Type 0
NamesAreFew =
    (d : Design) (earlier : List Module) (m : Module) (most : ℕ)
    → IsFormedModule earlier m
    → IsSound d m
    → HasShortNames most m
    → inner_names m ≤ 5 * most * (length m.ports + length m.nets + length m.mems)

-- and by how long the names of its ports are and its own: a port's name stands where it is listed,
-- declared and given its value, and each net or memory has its own name twice and those of three nets
-- that its value reads
abbrev pub OwnNamesAreFew : Type 0
OwnNamesAreFew =
    (d : Design) (earlier : List Module) (m : Module) (most own : ℕ)
    → IsFormedModule earlier m
    → IsSound d m
    → IsPortsFirst m
    → HasOwnNames most own m
    → inner_names m
    ≤ 3 * most * length m.ports + (2 * own + 3 * most) * (length m.nets + length m.mems)

-- so a text has at most so many bytes for each part, by how long the names of its design are
abbrev pub TextsAreSmallByNames : Type 0
TextsAreSmallByNames =
    (d : Design) (most : ℕ)
    → IsAccepted d
    → All (HasNamesUpTo most) d.modules
    → length (text_of_lines (design_lines d)) ≤ (5 * most + 100) * design_size d
