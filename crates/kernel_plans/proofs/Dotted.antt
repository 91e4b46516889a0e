-- Names with dots between them, from the last dot inwards.
use Rattle.std.proofs.Common.{◌≡◌, ◌∙◌, ℕ, suc, List, [], ◌∷◌, Some, None, true, false, refl, ap, sym}
use Rattle.std.specs.Prelude.{Option, Bool, is_some, if◌then◌else◌}
use Rattle.std.specs.Borrow.{Bor}
use Rattle.mx_base.specs.declared.span.Span.{Span}
use Rattle.maxj_syntax.specs.Tree.{Tree, Trees, Node, Nil, Cons}
use Rattle.maxj_syntax.specs.declared.tree.NodeKind.{NodeKind}
use Rattle.maxj_syntax.specs.declared.tree.NodeKind.TheVariants as N
use Rattle.kernel_meaning.specs.Names.{dotted, path_of, root_word, root_place}
use Rattle.kernel_meaning.specs.declared.state.State.{State}
use Rattle.kernel_plans.specs.Dots.{IsUndotted}

-- how many dots stand in a path
abbrev pub dots : Tree → ℕ
dots (Node N.Dot word span (Cons base Nil)) = suc (dots base)
dots (Node _ word span trees) = 0

-- the path with these names behind it, the first one next to it
abbrev pub on_dots : Option (List ℕ) → List (Bor (List ℕ)) → Option (List ℕ)
on_dots path [] = path
on_dots path (word ∷ words) = on_dots (dotted path word.now) words

pub another_kind : (kind : NodeKind) (word : List ℕ) (span : Span) (trees : Trees)
    → (kind ≡ N.Dot → ⊥) → IsUndotted (Node kind word span trees)
another_kind N.Dot word span trees h = absurd (h refl)
another_kind _ word span trees h = tt

pub undotted_word : (kind : NodeKind) (word : List ℕ) (span : Span) (trees : Trees)
    → IsUndotted (Node kind word span trees) → root_word (Node kind word span trees) ≡ word
undotted_word N.Dot word span Nil h = refl
undotted_word N.Dot word span (Cons base Nil) h = absurd h
undotted_word N.Dot word span (Cons base (Cons other trees)) h = refl
undotted_word _ word span trees h = refl

pub undotted_place : (kind : NodeKind) (word : List ℕ) (span : Span) (trees : Trees)
    → IsUndotted (Node kind word span trees) → root_place (Node kind word span trees) ≡ span.from
undotted_place N.Dot word span Nil h = refl
undotted_place N.Dot word span (Cons base Nil) h = absurd h
undotted_place N.Dot word span (Cons base (Cons other trees)) h = refl
undotted_place _ word span trees h = refl

pub undotted_path : (s : State) (kind : NodeKind) (word : List ℕ) (span : Span) (trees : Trees)
    → IsUndotted (Node kind word span trees)
    → path_of s (Node kind word span trees) ≡ path_of s (Node kind word span Nil)
undotted_path s N.Dot word span Nil h = refl
undotted_path s N.Dot word span (Cons base Nil) h = absurd h
undotted_path s N.Dot word span (Cons base (Cons other trees)) h = refl
undotted_path s _ word span trees h = refl

-- a name behind a dot makes a path of a path alone
pub some_dotted : (path : Option (List ℕ)) (word : List ℕ)
    → is_some (dotted path word) ≡ is_some path
some_dotted None word = refl
some_dotted (Some path) word = refl

some_on_dots : (path : Option (List ℕ)) (words : List (Bor (List ℕ)))
    → is_some (on_dots path words) ≡ is_some path
some_on_dots path [] = refl
some_on_dots path (word ∷ words) = some_on_dots (dotted path word.now) words ∙ some_dotted path word.now

either_word : (b : Bool) (word : List ℕ) → is_some (if b then None else Some word) ≡ true
    → (if b then None else Some word) ≡ Some word
either_word true word h = cc
either_word false word h = refl

name_path : (s : State) (kind : NodeKind) (word : List ℕ) (span : Span)
    → is_some (path_of s (Node kind word span Nil)) ≡ true
    → path_of s (Node kind word span Nil) ≡ Some word
name_path s N.Name word span h = either_word _ word h
name_path s N.Dot word span h = cc
name_path s _ word span h = cc

-- where what stands before all dots begins a path, it is its word
pub path_begins : (s : State) (kind : NodeKind) (word : List ℕ) (span : Span) (trees : Trees)
    (behind : List (Bor (List ℕ))) → IsUndotted (Node kind word span trees)
    → is_some (on_dots (path_of s (Node kind word span trees)) behind) ≡ true
    → path_of s (Node kind word span trees) ≡ Some word
path_begins s kind word span trees behind h some =
    let e = undotted_path s kind word span trees h in
    let begun = sym (some_on_dots (path_of s (Node kind word span trees)) behind) ∙ some in
    e ∙ name_path s kind word span (ap is_some (sym e) ∙ begun)
