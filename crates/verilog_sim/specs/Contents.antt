-- What lists of words say: a family of values, and the contents of registers and memories.
use Rattle.std.specs.Prelude.{◌≡◌, ℕ, List, [], length, slice_index, slice_index_or}
use Rattle.rtl_ir.specs.declared.design.Module.{Module}
use Rattle.rtl_ir.specs.Value.{Family, Contents, depth_of}

-- one value for each net, and 0 past the last one
abbrev pub family_of : List ℕ → Family
family_of values = λ n. slice_index values n

-- what registers hold by their net, and the words of each memory
abbrev pub contents_of : List ℕ → List (List ℕ) → Contents
contents_of held memories = record { regs = λ n. slice_index held n; cells = λ k a. slice_index (slice_index_or memories k []) a }

-- each memory has as many words as it is deep
abbrev pub HasDepths : Module → List (List ℕ) → Type 0
HasDepths m memories = (k : ℕ) → length (slice_index_or memories k []) ≡ depth_of m k
