-- What expressions and updates name: nets and memories, by number.
use Rattle.std.specs.Prelude.{◌≡◌, ℕ, slice_get, List, [], ◌∷◌, Option, Some, None}
use Rattle.rtl_ir.specs.declared.design.Expr.{Expr}
use Rattle.rtl_ir.specs.declared.design.Expr.TheVariants.{Net as Plain, Literal, Not, Binary, Concat, Repeat, Part, Choose, Cell}
use Rattle.rtl_ir.specs.declared.design.Target.{Target}
use Rattle.rtl_ir.specs.declared.design.Target.TheVariants.{Reg, Cell as Place}

-- the nets that an expression reads
abbrev pub reads : Expr → List ℕ
reads (Plain n) = n ∷ []
reads (Literal x) = []
reads (Not n) = n ∷ []
reads (Binary s a b) = a ∷ b ∷ []
reads (Concat a b) = a ∷ b ∷ []
reads (Repeat k n) = n ∷ []
reads (Part n hi lo) = n ∷ []
reads (Choose n a b) = n ∷ a ∷ b ∷ []
reads (Cell k n) = n ∷ []

-- a net is one of those that an expression reads
abbrev pub IsRead : Expr → ℕ → Type 0
IsRead e n = (i : ℕ) × (slice_get (reads e) i ≡ Some n)

-- the memory that an expression reads
abbrev pub mem_read : Expr → Option ℕ
mem_read (Plain n) = None
mem_read (Literal x) = None
mem_read (Not n) = None
mem_read (Binary s a b) = None
mem_read (Concat a b) = None
mem_read (Repeat k n) = None
mem_read (Part n hi lo) = None
mem_read (Choose n a b) = None
mem_read (Cell k n) = Some k

-- the numbers that a replication or a part has beside its net
abbrev pub bit_numbers : Expr → List ℕ
bit_numbers (Plain n) = []
bit_numbers (Literal x) = []
bit_numbers (Not n) = []
bit_numbers (Binary s a b) = []
bit_numbers (Concat a b) = []
bit_numbers (Repeat k n) = k ∷ []
bit_numbers (Part n hi lo) = hi ∷ lo ∷ []
bit_numbers (Choose n a b) = []
bit_numbers (Cell k n) = []

-- the net that a target names: the register, or the address of a word
abbrev pub target_net : Target → ℕ
target_net (Reg n) = n
target_net (Place k a) = a

-- the memory that a target names
abbrev pub target_mem : Target → Option ℕ
target_mem (Reg n) = None
target_mem (Place k a) = Some k
