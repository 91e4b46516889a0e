-- What the parser's steps read and build: a stack of trees that aren't whole yet, and the classes that are.
use Rattle.std.specs.Prelude.{◌≡◌, ◌-◌, ℕ, List, [], ◌∷◌, ◌++◌, Bool, true, length, take, codes}
use Rattle.mx_base.specs.declared.span.Span.{Span}
use Rattle.maxj_syntax.specs.declared.tree.NodeKind.{NodeKind}
use Rattle.maxj_syntax.specs.declared.tree.NodeKind.TheVariants as N
use Rattle.maxj_syntax.specs.declared.symbol.TokenClass.{TokenClass}
use Rattle.maxj_syntax.specs.declared.symbol.Effect.{Effect}
use Rattle.maxj_syntax.specs.declared.symbol.Effect.TheVariants.{Skip, Leaf, Push, Over, Text}
use Rattle.maxj_syntax.specs.declared.symbol.Action.{Action}
use Rattle.maxj_syntax.specs.declared.symbol.Action.TheVariants.{Begin, Wrap, Turn, Into, End, Inner, Named, Hole, Memory, Declare, Keep}
use Rattle.maxj_syntax.specs.declared.symbol.Rule.{Rule}
use Rattle.maxj_tokens.specs.Tokens.{Token, written}
use Rattle.maxj_tokens.specs.Scanning.{PlacedToken, span_of, from_of}
use Rattle.maxj_syntax.specs.Tree.{Tree, Node, Trees, Nil, Cons, one, ClassTree}
use Rattle.maxj_syntax.specs.TokenClasses.{Accepts, leaf_kind}
use Rattle.maxj_syntax.specs.Productions.{is_name, absent, is_manager}
use Rattle.maxj_syntax.specs.Symbols.{Symbol, Mark, Name, Sub, Call, Act}
use Rattle.maxj_syntax.specs.Symbols as Y
use Rattle.maxj_syntax.specs.Moves.{Move, NamedMove}
use Rattle.maxj_syntax.specs.declared.symbol.ClassKind.{ClassKind}

-- a tree that is being built, and the tokens from its begin on
pub data Entry : Type 0 where
  At : List PlacedToken → Tree → Entry

-- what stands below: at the ground the classes that are whole
pub data Below : Type 0 where
  Ground : List ClassTree → Below
  On : Entry → Below → Below

-- the tokens from xs up to ys
abbrev pub between : List PlacedToken → List PlacedToken → Span
between xs ys = span_of (take (length xs - length ys) xs)

abbrev pub no_span : Span
no_span = record { from = 0; to = 0 }

abbrev pub fresh : NodeKind → List ℕ → Tree
fresh k w = Node k w no_span Nil

abbrev pub add_last : Trees → Tree → Trees
add_last Nil t = one t
add_last (Cons u us) t = Cons u (add_last us t)

abbrev pub add : Tree → Tree → Tree
add (Node k w s cs) t = Node k w s (add_last cs t)

abbrev pub text_of : Tree → List ℕ
text_of (Node k w s cs) = w

abbrev pub with_text : List ℕ → Tree → Tree
with_text w (Node k v s cs) = Node k w s cs

abbrev pub turned : NodeKind → Tree → Tree
turned k (Node j w s cs) = Node k w s cs

abbrev pub spanned : Span → Tree → Tree
spanned s (Node k w r cs) = Node k w s cs

abbrev pub tree_of : Entry → Tree
tree_of (At x t) = t

abbrev pub start_of : Entry → List PlacedToken
start_of (At x t) = x

abbrev pub add_classes : Below → List ClassTree → Below
add_classes (Ground ds) cs = Ground (ds ++ cs)
add_classes (On e s) cs = On e (add_classes s cs)

abbrev pub class_of : ClassKind → Tree → ClassTree
class_of m t = record { name = text_of t; manager = is_manager m; tree = t }

-- the type of memories
abbrev pub memory_type : List PlacedToken → List PlacedToken → Tree
memory_type xs ys = Node N.Plain (codes "Memory") (between xs ys) Nil

-- the top of the stack and what stands below it: a token t is read from xs, and ys is left
abbrev pub read_top : Effect → Token → List PlacedToken → List PlacedToken → Entry → Entry
read_top Skip t xs ys b = b
read_top Leaf t xs ys b = At xs (Node (leaf_kind t) (written t) (between xs ys) Nil)
read_top (Push k) t xs ys b = At xs (Node k (written t) (between xs ys) Nil)
read_top (Over k) t xs ys b = At (start_of b) (Node k (written t) no_span (one (tree_of b)))
read_top Text t xs ys b = At (start_of b) (with_text (written t) (tree_of b))

abbrev pub read_below : Effect → Entry → Below → Below
read_below Skip b s = s
read_below Leaf b s = On b s
read_below (Push k) b s = On b s
read_below (Over k) b s = s
read_below Text b s = s

-- the same of a step, with xs still to be read
abbrev pub act_top : Action → List PlacedToken → Entry → Below → Entry
act_top (Begin k) xs b s = At xs (fresh k [])
act_top (Wrap k) xs b s = At (start_of b) (Node k [] no_span (one (tree_of b)))
act_top (Turn k) xs b s = At (start_of b) (turned k (tree_of b))
act_top Into xs b (Ground cs) = b
act_top Into xs b (On c s) = At (start_of c) (add (tree_of c) (tree_of b))
act_top End xs b s = At (start_of b) (spanned (between (start_of b) xs) (tree_of b))
act_top Inner xs b (Ground cs) = b
act_top Inner xs b (On c s) = At (start_of c) (tree_of b)
act_top Named xs b (Ground cs) = b
act_top Named xs b (On c s) = At (start_of c) (with_text (text_of (tree_of b)) (tree_of c))
act_top Hole xs b s = At xs (absent (from_of xs))
act_top Memory xs b s = At (start_of b) (memory_type (start_of b) xs)
act_top Declare xs b (Ground cs) = b
act_top Declare xs b (On c s) = At (start_of c) (Node N.Local (text_of (tree_of b)) no_span (one (memory_type (start_of c) (start_of b))))
act_top (Keep m) xs b (Ground cs) = b
act_top (Keep m) xs b (On c s) = c

abbrev pub act_below : Action → Entry → Below → Below
act_below (Begin k) b s = On b s
act_below (Wrap k) b s = s
act_below (Turn k) b s = s
act_below Into b (Ground cs) = Ground cs
act_below Into b (On c s) = s
act_below End b s = s
act_below Inner b (Ground cs) = Ground cs
act_below Inner b (On c s) = s
act_below Named b (Ground cs) = Ground cs
act_below Named b (On c s) = s
act_below Hole b s = On b s
act_below Memory b s = s
act_below Declare b (Ground cs) = Ground cs
act_below Declare b (On c s) = s
act_below (Keep m) b (Ground cs) = Ground cs
act_below (Keep m) b (On c s) = add_classes s (class_of m (tree_of b) ∷ [])

-- the symbols are read from xs up to ys, and the stack with b on top of s becomes the one with c on top of r
pub data Goes : List Symbol → Entry → Below → List PlacedToken → Entry → Below → List PlacedToken → Type 0 where
  none : {b : Entry} {s : Below} {xs : List PlacedToken} → Goes [] b s xs b s xs
  mark : {k : TokenClass} {e : Effect} {ps : List Symbol} {b c : Entry} {s r : Below} {t : PlacedToken} {xs ys : List PlacedToken} → Accepts k t.token
      → Goes ps (read_top e t.token (t ∷ xs) xs b) (read_below e b s) xs c r ys → Goes (Mark k e ∷ ps) b s (t ∷ xs) c r ys
  name : {w : List ℕ} {e : Effect} {ps : List Symbol} {b c : Entry} {s r : Below}
      {t : PlacedToken} {xs ys : List PlacedToken} → (t.token ≡ Token.Word w) × (is_name w ≡ true)
      → Goes ps (read_top e t.token (t ∷ xs) xs b) (read_below e b s) xs c r ys → Goes (Name w e ∷ ps) b s (t ∷ xs) c r ys
  act : {a : Action} {ps : List Symbol} {b c : Entry} {s r : Below} {xs ys : List PlacedToken}
      → Goes ps (act_top a xs b s) (act_below a b s) xs c r ys → Goes (Act a ∷ ps) b s xs c r ys
  rule : {p : Rule} {qs ps : List Symbol} {b m c : Entry} {s q r : Below}
      {xs ms ys : List PlacedToken} → Move p qs → Goes qs b s xs m q ms → Goes ps m q ms c r ys
      → Goes (Sub p ∷ ps) b s xs c r ys
  call : {n : Y.Named} {qs ps : List Symbol} {b m c : Entry} {s q r : Below}
      {xs ms ys : List PlacedToken} → NamedMove n qs → Goes qs b s xs m q ms
      → Goes ps m q ms c r ys → Goes (Call n ∷ ps) b s xs c r ys
