-- The graph of what feeds each net of a module, and the ways from its inputs to its outputs.
use Rattle.std.specs.Prelude.{ℕ, List}
use Rattle.rtl_ir.specs.declared.design.Design.{Design}
use Rattle.rtl_ir.specs.declared.design.Module.{Module}
use Rattle.rtl_ir.specs.Rules.{Feeds}
use Rattle.digraph.specs.Graph.{Reads}

-- in the graph of a module a net reads those that feed it
pub record IsGraphOf (d : Design) (m : Module) (g : List (List ℕ)) : Type 0 where
  pub fed : (a b : ℕ) → Reads g b a → Feeds d m a b
  pub reads : (a b : ℕ) → Feeds d m a b → Reads g b a
