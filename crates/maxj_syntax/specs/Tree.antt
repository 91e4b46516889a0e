-- The tree of a source.
use Rattle.std.specs.Prelude.{◌≡◌, ◌<◌, ℕ, Bool, List, [], ◌∷◌, Some, slice_get}
use Rattle.mx_base.specs.declared.span.Span.{Span}
use Rattle.maxj_syntax.specs.declared.tree.NodeKind.{NodeKind}
use Rattle.maxj_syntax.specs.Cells.{Cell}
use Rattle.maxj_syntax.specs.declared.tree.Class.{Class}
use Rattle.maxj_syntax.specs.declared.tree.Program.{Program}

mutual
  -- a kind, a word, the bytes that it stands for, and the trees below
  pub data Tree : Type 0 where
    Node : NodeKind → List ℕ → Span → Trees → Tree

  pub data Trees : Type 0 where
    Nil : Trees
    Cons : Tree → Trees → Trees

abbrev pub join : Trees → Trees → Trees
join Nil us = us
join (Cons t ts) us = Cons t (join ts us)

abbrev pub one : Tree → Trees
one t = Cons t Nil

abbrev pub two : Tree → Tree → Trees
two a b = Cons a (Cons b Nil)

pub record ClassTree : Type 0 where
  pub name : List ℕ
  pub manager : Bool
  pub tree : Tree

abbrev mutual
  -- the node n is the root of the tree; its children have smaller numbers
  pub IsAt : List Cell → ℕ → Tree → Type 0
  IsAt nodes n (Node k w s children) = (cell : Cell) × (slice_get nodes n ≡ Some cell)
      × (cell.kind ≡ k) × (cell.word ≡ w) × (cell.span ≡ s) × AreAt nodes n cell.children children

  pub AreAt : List Cell → ℕ → List ℕ → Trees → Type 0
  AreAt nodes top numbers Nil = numbers ≡ []
  AreAt nodes top numbers (Cons tree trees) = (n : ℕ) × (rest : List ℕ) × (numbers ≡ n ∷ rest) × (n < top) × IsAt nodes n tree × AreAt nodes top rest trees

pub record ClassIs (nodes : List Cell) (c : Class) (t : ClassTree) : Type 0 where
  pub name : c.name ≡ t.name
  pub manager : c.manager ≡ t.manager
  pub node : IsAt nodes c.node t.tree

-- the classes are these trees, in order
abbrev pub ClassesAre : List Cell → List Class → List ClassTree → Type 0
ClassesAre nodes [] [] = Unit {0}
ClassesAre nodes (c ∷ cs) (t ∷ ts) = ClassIs nodes c t × ClassesAre nodes cs ts
ClassesAre nodes [] (t ∷ ts) = ⊥
ClassesAre nodes (c ∷ cs) [] = ⊥

abbrev pub ProgramIs : Program → List ClassTree → Type 0
ProgramIs p ts = ClassesAre p.tree p.classes ts
