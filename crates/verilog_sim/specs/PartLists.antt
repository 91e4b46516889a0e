-- What the parts of a design hold, from the words that its flat module holds.
use Rattle.std.specs.Prelude.{ℕ, ◌-◌, List, [], ◌∷◌, ◌++◌, length, map, take, drop, Option, Some, None, if◌then◌else◌, nat_lt}
use Rattle.rtl_ir.specs.declared.design.Module.{Module}
use Rattle.rtl_ir.specs.Flat.{Path}
use Rattle.verilog_sim.specs.declared.scope.Scope.{Scope}
use Rattle.verilog_sim.specs.State.{PartContents, PartValues}

-- so many items from a first one on
abbrev pub cut_list : {A : Type 0} → ℕ → ℕ → List A → List A
cut_list first count xs = take count (drop first xs)

-- the part with so many nets from a first one on, and with so many memories
abbrev pub cut_part : Path → ℕ → ℕ → ℕ → ℕ → List ℕ → List (List ℕ) → PartContents
cut_part path first nets first_mem mems regs cells = record {
  path = path;
  regs = cut_list first nets regs;
  cells = cut_list first_mem mems cells;
}

-- the path of a part, before an instance with this number became a part of the module: the module's instances from that
-- number on are those of the instance
abbrev pub path_before : ℕ → ℕ → Path → Path
path_before last k p = if nat_lt k last then k ∷ p else last ∷ (k - last) ∷ p

-- the part at a path, before an instance became a part of the module: of the module itself the two that it then was
abbrev pub split_at : Scope → Path → List ℕ → List (List ℕ) → List PartContents
split_at s [] regs cells =
    cut_part [] 0 s.first_net 0 s.first_mem regs cells
    ∷ cut_part (s.instance ∷ []) s.first_net s.nets s.first_mem s.mems regs cells
    ∷ []
split_at s (k ∷ p) regs cells = record { path = path_before s.instance k p; regs = regs; cells = cells } ∷ []

-- the same of all parts
abbrev pub parts_before : Scope → List PartContents → List PartContents
parts_before s [] = []
parts_before s (x ∷ xs) = split_at s x.path x.regs x.cells ++ parts_before s xs

-- the parts before all these instances became parts of the module, the first one first
abbrev pub parts_first : List Scope → List PartContents → List PartContents
parts_first [] xs = xs
parts_first (s ∷ ss) xs = parts_before s (parts_first ss xs)

-- the part at a path, where the top module has so many nets and memories
abbrev pub top_at : ℕ → ℕ → Path → List ℕ → List (List ℕ) → PartContents
top_at nets mems [] regs cells = cut_part [] 0 nets 0 mems regs cells
top_at nets mems (k ∷ p) regs cells = record { path = k ∷ p; regs = regs; cells = cells }

abbrev pub tops_at : ℕ → ℕ → List PartContents → List PartContents
tops_at nets mems [] = []
tops_at nets mems (x ∷ xs) = top_at nets mems x.path x.regs x.cells ∷ tops_at nets mems xs

-- the parts of a design with this top module, whose flat module holds these words
abbrev pub parts_of : Option Module → List Scope → List ℕ → List (List ℕ) → List PartContents
parts_of None ss held memories = []
parts_of (Some m) ss held memories =
    tops_at (length m.nets) (length m.mems) (parts_first ss (record { path = []; regs = held; cells = memories } ∷ []))

-- what stands in the place of registers, as values of nets
abbrev pub as_values : PartContents → PartValues
as_values x = record { path = x.path; nets = x.regs }

-- the values of the nets of the parts, where these are those of the flat module
abbrev pub values_of : Option Module → List Scope → List ℕ → List PartValues
values_of m ss values = map as_values (parts_of m ss values [])
