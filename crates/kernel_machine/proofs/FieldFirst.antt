-- The fields of a class.
use Rattle.std.proofs.Common.{◌≡◌, ◌∙◌, ◌<◌, ◌≤◌, ◌+◌, ℕ, suc, List, length, Some, Ok, refl, ap, arith}
use Rattle.std.specs.Prelude.{Option}
use Rattle.maxj_syntax.specs.Cells.{Cell}
use Rattle.maxj_syntax.specs.Tree.{Tree, Node, Trees, Nil, Cons}
use Rattle.maxj_syntax.specs.declared.tree.NodeKind.{NodeKind}
use Rattle.maxj_syntax.specs.declared.tree.NodeKind.TheVariants as N
use Rattle.kernel_meaning.specs.declared.state.State.{State}
use Rattle.kernel_meaning.specs.declared.value.Declared.{Declared}
use Rattle.kernel_meaning.specs.declared.value.Spot.TheVariants.{Field}
use Rattle.kernel_meaning.specs.Answer.{Next}
use Rattle.kernel_meaning.specs.Constructors.{set_fields, members_of}
use Rattle.kernel_meaning.specs.Plans.{number_of_trees}
use Rattle.kernel_meaning.specs.Run.{Place, initial}
use Rattle.kernel_meaning.specs.Values.{declared_by}
use Rattle.kernel_plans.specs.declared.branch.Branch.{Branch}
use Rattle.kernel_plans.specs.Trees.{trees_of, tree_of, branch_tree}
use Rattle.kernel_plans.specs.Classes.{ClassView, members}
use Rattle.kernel_machine.specs.Left.{from_place}
use Rattle.kernel_machine.specs.Positions.{IsPart}
use Rattle.kernel_machine.proofs.Places

-- a field with its type
pub field-typed : (cells : List Cell) (here : Place) (field : Branch) (type : Tree) (of : Declared)
    (before : ℕ) (others : Trees) (state : State) (next : Next) → field.kind ≡ N.Field
    → trees_of cells field.id field.children.now
    ≡ Cons type (from_place 1 (trees_of cells field.id field.children.now))
    → declared_by type ≡ Ok of
    → set_fields here before (Cons (branch_tree cells field) others) state next
    ≡ initial here field.span.from of (Field before)
    (from_place 1 (trees_of cells field.id field.children.now)) state
    (λ state. set_fields here (suc before) others state next)
field-typed cells here field type of before others state next kind parts typed =
    by field.kind (trees_of cells field.id field.children.now) _ kind parts
  where
    by : (k : NodeKind) (trees inner : Trees) → k ≡ N.Field → trees ≡ Cons type inner
        → set_fields here before (Cons (Node k field.word.now field.span trees) others) state next
        ≡ initial here field.span.from of (Field before) inner state
        (λ state. set_fields here (suc before) others state next)
    by k trees inner e f = rw (e, f, typed) refl

-- the members are the parts of the class's node
pub members-are : (class : ClassView) (node : Branch)
    → tree_of class.cells (Some class.node) ≡ branch_tree class.cells node
    → members class ≡ trees_of class.cells node.id node.children.now
members-are class node e = ap members_of e

pub members-many : (class : ClassView) (node : Branch)
    → tree_of class.cells (Some class.node) ≡ branch_tree class.cells node
    → number_of_trees (members class) ≡ length node.children.now
members-many class node e =
    ap number_of_trees (members-are class node e)
    ∙ Places.how-many class.cells node.id node.children.now

-- the member at a place, and none past the last
pub member-at : (class : ClassView) (node member : Branch) (place : ℕ) (part : Option ℕ)
    → tree_of class.cells (Some class.node) ≡ branch_tree class.cells node
    → IsPart node place part → place < length node.children.now
    → tree_of class.cells part ≡ branch_tree class.cells member
    → from_place place (members class)
    ≡ Cons (branch_tree class.cells member) (from_place (place + 1) (members class))
member-at class node member place part e says below same =
    let behind : suc place ≡ place + 1 = omega arith in
    rw (members-are class node e, ← behind) (says class.cells below
    ∙ ap (λ t. Cons t (from_place (suc place) (trees_of class.cells node.id node.children.now))) same)

pub members-end : (class : ClassView) (node : Branch) (place : ℕ)
    → tree_of class.cells (Some class.node) ≡ branch_tree class.cells node
    → length node.children.now ≤ place → from_place place (members class) ≡ Nil
members-end class node place e past =
    rw (members-are class node e) (Places.from-past class.cells node.id node.children.now place past)
