-- What names stand for: the methods of a class, and the kernels of a source.
use Rattle.std.specs.Prelude.{◌≡◌, ◌-◌, ℕ, List, Option, Some, None, nat_eq, bytes_eq, map}
use Rattle.std.specs.Borrow.{Bor}
use Rattle.std.specs.Cmp.Lexicographic.{pointwise}
use Rattle.std.specs.HashMap.{HashMap, get_by}
use Rattle.std.specs.Map.{lookup}
use Rattle.mx_base.specs.declared.span.Span.{Span}
use Rattle.maxj_syntax.specs.Cells.{Cell}
use Rattle.maxj_syntax.specs.Tree.{Tree, Node, Trees, Cons}
use Rattle.maxj_syntax.specs.declared.tree.NodeKind.TheVariants as N
use Rattle.kernel_meaning.specs.Methods.{method_of}
use Rattle.kernel_meaning.specs.Nodes.{tree_at}
use Rattle.kernel_meaning.specs.Plans.{number_of_trees}
use Rattle.kernel_plans.specs.declared.methods.Method.{Method}
use Rattle.kernel_plans.specs.declared.methods.Methods.{Methods}

-- what a name stands for
abbrev pub named_in : {X S : Type 0} → HashMap (Bor (List ℕ)) X S → List ℕ → Option X
named_in table name = get_by (λ key. pointwise nat_eq name key.now) table

-- the entries of names and numbers
abbrev pub entries_of : {S : Type 0} → HashMap (Bor (List ℕ)) ℕ S → List (List ℕ × ℕ)
entries_of table = map (λ entry. (entry.0.now, entry.1)) table.entries

-- the number of a name
abbrev pub number_in : List (List ℕ × ℕ) → List ℕ → Option ℕ
number_in entries name = lookup (bytes_eq name) entries

-- the node is that of the method which was found: its result, and its parameters with the block
pub record IsMethodAt (cells : List Cell) (found : Option (Tree × Trees)) (node : ℕ) : Type 0 where
  pub word : List ℕ
  pub span : Span
  pub result : Tree
  pub rest : Trees
  pub tree : tree_at cells node ≡ Node N.Method word span (Cons result rest)
  pub first : found ≡ Some (result, rest)

-- no method was found, or the one of this node
abbrev pub IsMethod : List Cell → Option (Tree × Trees) → Option ℕ → Type 0
IsMethod cells found None = found ≡ None
IsMethod cells found (Some node) = IsMethodAt cells found node

-- how many parameters the method has that was found
abbrev pub params_in : Option (Tree × Trees) → Option ℕ
params_in found = elim found [ None ↦ None | Some method ↦ Some (number_of_trees method.1 - 1) ]

abbrev pub node_in : Option Method → Option ℕ
node_in None = None
node_in (Some method) = Some method.node

abbrev pub count_in : Option Method → Option ℕ
count_in None = None
count_in (Some method) = Some method.params

-- by each name there is the first method of it among the members
pub record Stands (cells : List Cell) (members : Trees) (methods : Methods) (name : List ℕ)
    : Type 0 where
  pub node : IsMethod cells (method_of name members) (node_in (named_in methods.by_name name))
  pub params : count_in (named_in methods.by_name name) ≡ params_in (method_of name members)

abbrev pub AreMethods : List Cell → Trees → Methods → Type 0
AreMethods cells members methods = (name : List ℕ) → Stands cells members methods name
