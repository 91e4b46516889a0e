-- A member more in the table of methods.
use Rattle.std.proofs.Common.{◌≡◌, ℕ, ◌-◌, Bool, true, false, cond, List, [], ◌∷◌, length, Some, refl, sym, ap, subst, ◌∙◌, arith}
use Rattle.std.specs.Prelude.{bytes_eq, nat_lt, if◌then◌else◌}
use Rattle.mx_base.specs.declared.span.Span.{Span}
use Rattle.maxj_syntax.specs.Cells.{Cell}
use Rattle.maxj_syntax.specs.Tree.{Tree, Node, Trees, Cons}
use Rattle.maxj_syntax.specs.declared.tree.NodeKind.{NodeKind}
use Rattle.maxj_syntax.specs.declared.tree.NodeKind.TheVariants as N
use Rattle.kernel_meaning.specs.Methods.{method_of}
use Rattle.kernel_meaning.specs.Nodes.{child_by, tree_at}
use Rattle.kernel_meaning.specs.Plans.{number_of_trees}
use Rattle.kernel_plans.specs.Trees.{trees_of}
use Rattle.kernel_plans.specs.Tables.{named_in, IsMethod, params_in, node_in, count_in, Stands}
use Rattle.kernel_plans.specs.declared.methods.Methods.{Methods}

pub count : (cells : List Cell) (id : ℕ) (children : List ℕ)
    → number_of_trees (trees_of cells id children) ≡ length children
count cells id [] = refl
count cells id (c ∷ cs) = let e = count cells id cs in omega (arith, e)

module _ (cells : List Cell) (members : Trees) (n params : ℕ) (word : List ℕ) (span : Span)
    (result : Tree) (rest : Trees) (old new : Methods) (name : List ℕ) where
  first_of_all : (tree : Tree) → tree ≡ tree_at cells n
      → tree ≡ Node N.Method word span (Cons result rest) → params ≡ number_of_trees rest - 1
      → (b : Bool) → bytes_eq word name ≡ b
      → named_in new.by_name name
      ≡ cond b (Some (record { node = n; params = params })) (named_in old.by_name name)
      → Stands cells members old name → Stands cells (Cons tree members) new name
  first_of_all tree at is p true e f h =
      let found : method_of name (Cons tree members) ≡ Some (result, rest) =
      ap (λ t. method_of name (Cons t members)) is
      ∙ ap (λ b. if b then Some (result, rest) else method_of name members) e in
      let there : IsMethod cells (method_of name (Cons tree members)) (Some n) = record {
        word = word;
        span = span;
        result = result;
        rest = rest;
        tree = sym at ∙ is;
        first = found;
      } in
      record {
        node = subst (λ o. IsMethod cells (method_of name (Cons tree members)) (node_in o)) (sym f)
            there;
        params = ap count_in f ∙ (ap Some p ∙ sym (ap params_in found));
      }
  first_of_all tree at is p false e f h =
      let found : method_of name (Cons tree members) ≡ method_of name members =
      ap (λ t. method_of name (Cons t members)) is
      ∙ ap (λ b. if b then Some (result, rest) else method_of name members) e in
      record {
        node = subst (λ o. IsMethod cells (method_of name (Cons tree members)) (node_in o)) (sym f)
            (subst (λ m. IsMethod cells m (node_in (named_in old.by_name name))) (sym found) h.node);
        params = ap count_in f ∙ (h.params ∙ sym (ap params_in found));
      }

-- a method before the others is the first one of its name
pub put_method : (cells : List Cell) (members : Trees) (n params : ℕ) (kind : NodeKind)
    (word : List ℕ) (span : Span) (id : ℕ) (children : List ℕ) (old new : Methods) (name : List ℕ)
    → (tree : Tree) → tree ≡ tree_at cells n
    → tree ≡ Node kind word span (trees_of cells id children) → kind ≡ N.Method
    → (length children ≡ 0 → ⊥) → params ≡ length children - 2
    → named_in new.by_name name
    ≡ cond (bytes_eq word name) (Some (record { node = n; params = params }))
    (named_in old.by_name name)
    → Stands cells members old name → Stands cells (Cons tree members) new name
put_method cells members n params kind word span id [] old new name tree at is k some p f h =
    absurd (some refl)
put_method cells members n params kind word span id (c ∷ cs) old new name tree at is k some p f h =
    let number = count cells id cs in
    let q : params ≡ number_of_trees (trees_of cells id cs) - 1 = omega (arith, p, number) in
    first_of_all cells members n params word span (child_by (tree_at cells) c (nat_lt c id))
    (trees_of cells id cs) old new name tree at
    (is ∙ ap (λ k. Node k word span (trees_of cells id (c ∷ cs))) k) q (bytes_eq word name) refl f h
