-- The values of nets before the first edge.
use Rattle.std.specs.Prelude.{◌≡◌, ◌⊎◌, ℕ, ◌<◌, List, length, Some, slice_get, slice_index}
use Rattle.rtl_ir.specs.declared.design.Assign.{Assign}
use Rattle.rtl_ir.specs.declared.design.Expr.TheVariants.{Literal}
use Rattle.mx_bits.specs.declared.word.Word.{Word}

-- an assignment of a literal to a net
pub record IsLiteralAt (assigns : List Assign) (n x : ℕ) : Type 0 where
  pub place : ℕ
  pub assign : Assign
  pub word : Word
  pub at : slice_get assigns place ≡ Some assign
  pub target : assign.target ≡ n
  pub literal : assign.expr ≡ Literal word
  pub bits : x ≡ word.bits

-- each net that one of the first so many assignments gives a literal has the word of one, and all others have what they had
pub record AreLiteralsSet (assigns : List Assign) (old new : List ℕ) (count : ℕ) : Type 0 where
  pub size : length new ≡ length old
  pub each : (k : ℕ) (a : Assign) (x : Word) → k < count → slice_get assigns k ≡ Some a
      → a.expr ≡ Literal x → IsLiteralAt assigns a.target (slice_index new a.target)
  pub others : (n : ℕ) → (slice_index new n ≡ slice_index old n) ⊎ IsLiteralAt assigns n (slice_index new n)
