-- What a flat module says of the parts of a design: families and contents by paths.
use Rattle.std.specs.Prelude.{ℕ, ◌+◌, List, [], ◌∷◌, length, Option, Some, None, if◌then◌else◌, nat_lt, nat_eq}
use Rattle.rtl_ir.specs.declared.design.Module.{Module}
use Rattle.rtl_ir.specs.Value.{Family, Contents}
use Rattle.rtl_ir.specs.Flat.{Path, AllContents, Families}
use Rattle.verilog_sim.specs.declared.scope.Scope.{Scope}

-- so many nets from a first one on, and 0 past them
abbrev pub cut_family : ℕ → ℕ → Family → Family
cut_family first nets v = λ n. if nat_lt n nets then v (first + n) else 0

-- the same of contents, also of so many memories
abbrev pub cut_contents : ℕ → ℕ → ℕ → ℕ → Contents → Contents
cut_contents first nets first_mem mems c = record {
  regs = λ n. if nat_lt n nets then c.regs (first + n) else 0;
  cells = λ k a. if nat_lt k mems then c.cells (first_mem + k) a else 0;
}

abbrev pub no_family : Family
no_family = λ n. 0

abbrev pub no_contents : Contents
no_contents = record { regs = λ n. 0; cells = λ k a. 0 }

-- a part that stands in a module, whose instances are those of the module from a number on
abbrev pub within_part : {A : Type 0} → ℕ → (A → A) → (Path → A) → Path → A
within_part last f x [] = f (x [])
within_part last f x (k ∷ p) = x ((last + k) ∷ p)

-- a module whose last instance, of this number, was made a part of it
abbrev pub with_part : {A : Type 0} → ℕ → A → (A → A) → (A → A) → (Path → A) → Path → A
with_part last none f g x [] = f (x [])
with_part last none f g x (k ∷ p) = if nat_lt k last then x (k ∷ p) else if nat_eq k last then within_part last g x p else none

abbrev pub families_before : Scope → Families → Families
families_before s = with_part s.instance no_family (cut_family 0 s.first_net) (cut_family s.first_net s.nets)

abbrev pub contents_before : Scope → AllContents → AllContents
contents_before s = with_part s.instance no_contents (cut_contents 0 s.first_net 0 s.first_mem) (cut_contents s.first_net s.nets s.first_mem s.mems)

-- all instances that were made parts, the first one first
abbrev pub families_first : List Scope → Families → Families
families_first [] v = v
families_first (s ∷ ss) v = families_before s (families_first ss v)

abbrev pub contents_first : List Scope → AllContents → AllContents
contents_first [] c = c
contents_first (s ∷ ss) c = contents_before s (contents_first ss c)

-- the family of a module without instances
abbrev pub alone : Family → Families
alone v [] = v
alone v (k ∷ p) = no_family

abbrev pub alone_contents : Contents → AllContents
alone_contents c [] = c
alone_contents c (k ∷ p) = no_contents

-- by the paths of a design with this top module
abbrev pub families_of : Module → List Scope → Family → Families
families_of m ss v = within_part 0 (cut_family 0 (length m.nets)) (families_first ss (alone v))

abbrev pub contents_by_path : Option Module → List Scope → Contents → AllContents
contents_by_path None ss c = λ p. no_contents
contents_by_path (Some m) ss c = within_part 0 (cut_contents 0 (length m.nets) 0 (length m.mems)) (contents_first ss (alone_contents c))
