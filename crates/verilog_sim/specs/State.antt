-- What a simulator holds between its calls.
use Rattle.std.specs.Prelude.{ℕ, List, [], ◌∷◌, Bool, true, false, ◌&&◌, if◌then◌else◌, nat_eq}
use Rattle.rtl_ir.specs.declared.design.Design.{Design}
use Rattle.rtl_ir.specs.Run.{Outer}
use Rattle.rtl_ir.specs.Value.{Family, Contents}
use Rattle.rtl_ir.specs.Flat.{Path, AllContents, Families}
use Rattle.verilog_sim.specs.Contents.{family_of, contents_of}

-- what the registers of one part of a design hold, by their nets, and the words of each of its memories
pub record PartContents : Type 0 where
  pub path : Path
  pub regs : List ℕ
  pub cells : List (List ℕ)

-- the values of the nets of one part of a design
pub record PartValues : Type 0 where
  pub path : Path
  pub nets : List ℕ

-- the design, the nets of its outer ports, the values of the ports that keep one value, what the registers and memories of its
-- parts hold, and the values of their nets in the last edge: those of the top module and of each instance, by its path
pub record State : Type 0 where
  pub design : Design
  pub outer : Outer
  pub steady : List ℕ
  pub parts : List PartContents
  pub last : List PartValues

-- whether two paths are the same
abbrev pub is_path : Path → Path → Bool
is_path [] [] = true
is_path [] (j ∷ q) = false
is_path (k ∷ p) [] = false
is_path (k ∷ p) (j ∷ q) = nat_eq k j && is_path p q

-- what the part at a path holds, and 0 everywhere where no part is there
abbrev pub held_at : List PartContents → Path → Contents
held_at [] p = record { regs = λ n. 0; cells = λ k a. 0 }
held_at (x ∷ xs) p = if is_path x.path p then contents_of x.regs x.cells else held_at xs p

-- what the registers and memories of each part of the design hold
abbrev pub contents : State → AllContents
contents s = λ p. held_at s.parts p

-- the values of the nets of the part at a path, and 0 everywhere where no part is there
abbrev pub values_at : List PartValues → Path → Family
values_at [] p = λ n. 0
values_at (x ∷ xs) p = if is_path x.path p then family_of x.nets else values_at xs p

-- the values of the nets of each part in the last edge
abbrev pub last_family : State → Families
last_family s = λ p. values_at s.last p
