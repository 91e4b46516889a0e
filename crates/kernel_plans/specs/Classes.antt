-- A class as definitions see it.
use Rattle.std.specs.Prelude.{ℕ, List, Option, None}
use Rattle.maxj_syntax.specs.Cells.{Cell}
use Rattle.maxj_syntax.specs.Tree.{Trees}
use Rattle.kernel_meaning.specs.Constructors.{members_of}
use Rattle.kernel_meaning.specs.Methods.{params_of}
use Rattle.kernel_meaning.specs.Nodes.{tree_at}
use Rattle.kernel_meaning.specs.Plans as Plans
use Rattle.kernel_plans.specs.Tables.{number_in}
use Rattle.kernel_plans.specs.declared.class.Library.{Library}
use Rattle.kernel_plans.specs.declared.class.Library.TheVariants as L

-- the library that a class may use
abbrev pub library_of : Library → Plans.Library
library_of L.OfKernel = Plans.OfKernel
library_of (L.OfManager kernels) = Plans.OfManager (number_in kernels.now)

-- a class: the nodes of its source, its own node, and the library that it may use
pub record ClassView : Type 0 where
  pub cells : List Cell
  pub node : ℕ
  pub library : Library

abbrev pub members : ClassView → Trees
members class = members_of (tree_at class.cells class.node)

-- what a call in the class may name
abbrev pub scope : ClassView → Plans.Scope
scope class = record { library = library_of class.library; methods = params_of (members class) }

-- the number of the kernel's class of a name, in a manager
abbrev pub kernel_in : Plans.Library → List ℕ → Option ℕ
kernel_in Plans.OfKernel name = None
kernel_in (Plans.OfManager kernels) name = kernels name
