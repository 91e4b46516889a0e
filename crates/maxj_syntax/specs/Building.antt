-- How nodes hold trees that are being built, and how far the parser has come.
use Rattle.std.specs.Prelude.{◌≡◌, ℕ, ◌<◌, ◌-◌, ◌+◌, ◌^◌, List, [], ◌∷◌, ◌++◌, Option, Some, None, drop, length, reverse, map, Bool, true, false}
use Rattle.grammar.specs.Stack.{Leads, Ends}
use Rattle.mx_base.specs.declared.span.Span.{Span}
use Rattle.maxj_syntax.specs.declared.tree.NodeKind.{NodeKind}
use Rattle.maxj_syntax.specs.declared.tree.NodeKind.TheVariants as N
use Rattle.maxj_syntax.specs.declared.draft.Draft.{Draft}
use Rattle.maxj_syntax.specs.declared.draft.NodeWord.{NodeWord}
use Rattle.maxj_syntax.specs.declared.draft.NodeWord.TheVariants as W
use Rattle.maxj_syntax.specs.Cells.{Cell, word_in, cells_of}
use Rattle.maxj_syntax.specs.declared.tree.Class.{Class}
use Rattle.maxj_syntax.specs.declared.tree.Program.{Program}
use Rattle.maxj_syntax.specs.declared.build.Unfinished.{Unfinished}
use Rattle.maxj_syntax.specs.declared.build.Builder.{Builder}
use Rattle.maxj_syntax.specs.declared.symbol.Effect.{Effect}
use Rattle.maxj_syntax.specs.declared.symbol.Action.{Action}
use Rattle.maxj_syntax.specs.declared.symbol.Rule.{Rule}
use Rattle.maxj_syntax.specs.declared.symbol.Symbol.{Symbol as SymbolOf}
use Rattle.maxj_syntax.specs.declared.parser.Settled.{Settled}
use Rattle.maxj_syntax.specs.declared.parser.Settled.TheVariants as T
use Rattle.maxj_syntax.specs.declared.parser.ParseError.{ParseError}
use Rattle.maxj_syntax.specs.declared.parser.ParseError.TheVariants as E
use Rattle.maxj_tokens.specs.Tokens.{Token, written}
use Rattle.maxj_tokens.specs.Scanning.{PlacedToken}
use Rattle.maxj_syntax.specs.Tree.{Node, Nil, one, ClassTree, AreAt, ClassesAre}
use Rattle.maxj_syntax.specs.Productions.{IsFile}
use Rattle.maxj_syntax.specs.Faults.{IsFirstMisplaced, IsMisplaced}
use Rattle.maxj_syntax.specs.declared.kind.Kind.{Kind}
use Rattle.maxj_syntax.specs.TokenClasses.{Accepts}
use Rattle.maxj_syntax.specs.Productions.{is_name}
use Rattle.maxj_syntax.specs.Table.{choices, guards}
use Rattle.maxj_syntax.specs.Symbols.{Symbol, Mark, Name, Sub, Call, symbol_view}
use Rattle.maxj_syntax.specs.Choosing.{Is, Choice, may, empties, peeks, choose, pick}
use Rattle.maxj_syntax.specs.Steps.{Entry, At, Below, Ground, On, Goes, fresh, no_span, start_of, tree_of, with_text, read_top, read_below, act_top, act_below}

abbrev pub IsOpen : List Cell → List PlacedToken → Unfinished → Entry → Type 0
IsOpen nodes tokens o (At x (Node k w s children)) =
    (x ≡ drop o.start tokens) × (o.node.kind ≡ k) × (word_in tokens o.node.word ≡ w) × (o.node.span ≡ s) × AreAt nodes (length nodes) o.node.children children

-- below the tree on top stand these, and at the ground the whole classes
abbrev pub AreUnder : List Cell → List Class → List PlacedToken → List Unfinished → Below → Type 0
AreUnder nodes classes tokens [] (Ground cs) = ClassesAre nodes classes cs
AreUnder nodes classes tokens (o ∷ os) (On e s) = IsOpen nodes tokens o e × AreUnder nodes classes tokens os s
AreUnder nodes classes tokens [] (On e s) = ⊥
AreUnder nodes classes tokens (o ∷ os) (Ground cs) = ⊥

abbrev pub AreOpen : List Cell → List Class → List PlacedToken → List Unfinished → Entry → Below → Type 0
AreOpen nodes classes tokens [] b s = ⊥
AreOpen nodes classes tokens (o ∷ os) b s = IsOpen nodes tokens o b × AreUnder nodes classes tokens os s

-- the builder holds the tree b, and s below it
abbrev pub Holds : List PlacedToken → Builder → Entry → Below → Type 0
Holds tokens builder b s = AreOpen (cells_of tokens builder.nodes) builder.classes tokens (reverse builder.unfinished.items) b s

-- what a step does to the builder, with xs still to be read
abbrev pub Acts : List PlacedToken → Action → List PlacedToken → Builder → Builder → Type 0
Acts tokens a xs old new = (b : Entry) (s : Below) → Holds tokens old b s → Holds tokens new (act_top a xs b s) (act_below a b s)

-- what a token does to it
abbrev pub Takes : List PlacedToken → Effect → Token → List PlacedToken → List PlacedToken → Builder → Builder → Type 0
Takes tokens e t xs ys old new = (b : Entry) (s : Below) → Holds tokens old b s → Holds tokens new (read_top e t xs ys b) (read_below e b s)

-- a step that the tokens to be read have no part in
abbrev pub Does : Action → Builder → Builder → Type 0
Does a old new = (tokens xs : List PlacedToken) → Acts tokens a xs old new

-- a new tree without children
abbrev pub Adds : NodeKind → NodeWord → Span → ℕ → Builder → Builder → Type 0
Adds k w span start old new = (tokens : List PlacedToken) (b : Entry) (s : Below)
    → Holds tokens old b s → Holds tokens new (At (drop start tokens)
    (Node k (word_in tokens w) span Nil)) (On b s)

-- the tree on top becomes the first child of a new one
abbrev pub Wraps : NodeKind → NodeWord → Builder → Builder → Type 0
Wraps k w old new = (tokens : List PlacedToken) (b : Entry) (s : Below) → Holds tokens old b s
    → Holds tokens new (At (start_of b) (Node k (word_in tokens w) no_span (one (tree_of b)))) s

abbrev pub Texts : NodeWord → Builder → Builder → Type 0
Texts w old new = (tokens : List PlacedToken) (b : Entry) (s : Below) → Holds tokens old b s
    → Holds tokens new (At (start_of b) (with_text (word_in tokens w) (tree_of b))) s

-- a node without children
pub record IsLeaf (node : Draft) (k : NodeKind) (w : NodeWord) (span : Span) : Type 0 where
  pub kind : node.kind ≡ k
  pub word : node.word ≡ w
  pub span_is : node.span ≡ span
  pub children : node.children ≡ []

-- a local variable of the type of memories, whose node is one more of the nodes
pub record IsMemoryLocal (old new : List Draft) (w : NodeWord) (span : Span) (node : Draft) : Type 0 where
  pub memory : Draft
  pub leaf : IsLeaf memory N.Plain W.Memory span
  pub nodes : new ≡ old ++ memory ∷ []
  pub kind : node.kind ≡ N.Local
  pub word : node.word ≡ w
  pub span_is : node.span ≡ no_span
  pub children : node.children ≡ length old ∷ []

-- the stack, the top first
abbrev pub todo : List SymbolOf → List Symbol
todo stack = map symbol_view (reverse stack)

abbrev pub AllEnds : List Symbol → Type 0
AllEnds [] = Unit {0}
AllEnds (p ∷ ps) = Ends may empties peeks p ps × AllEnds ps

abbrev pub bottom : Entry
bottom = At [] (fresh N.Empty [])

-- a builder that has begun nothing: one tree below all others, no class and no node
abbrev pub AreBottom : ℕ → List Unfinished → Type 0
AreBottom n (o ∷ []) = (o.start ≡ n) × (o.node.kind ≡ N.Empty) × (o.node.word ≡ W.Nothing) × (o.node.span ≡ no_span) × (o.node.children ≡ [])
AreBottom n _ = ⊥

abbrev pub IsBottom : ℕ → Builder → Type 0
IsBottom n builder =
    AreBottom n builder.unfinished.items × (builder.classes ≡ []) × (builder.nodes ≡ [])

-- The parser has read the tokens up to ys, is to read the symbols, and has built what they are read with.
abbrev pub Reached : List PlacedToken → List PlacedToken → List Symbol → Builder → Type 0
Reached tokens ys symbols builder =
    Leads Is Choice (Sub Rule.File ∷ []) tokens symbols ys × AllEnds symbols × (b : Entry) × (s : Below) × Holds tokens builder b s
    × ((c : Entry) (q : Below) → Goes symbols b s ys c q [] → Goes (Sub Rule.File ∷ []) bottom (Ground []) tokens c q [])
    × ((c : Entry) (q : Below) → Goes (Sub Rule.File ∷ []) bottom (Ground []) tokens c q [] → Goes symbols b s ys c q [])

-- with what the stack begins: after is what stands below
abbrev pub Settles : Settled → List PlacedToken → List PlacedToken → List Symbol → Builder → Type 0
Settles (T.Token k e) tokens ys after builder = Reached tokens ys (Mark k e ∷ after) builder
Settles (T.Name w e) tokens ys after builder = Reached tokens ys (Name w.now e ∷ after) builder
Settles T.Empty tokens ys after builder = Reached tokens ys [] builder
Settles T.Stuck tokens ys after builder = IsFirstMisplaced tokens (length tokens - length ys)

-- a rule's choice stands on the stack in its place, or there is none
abbrev pub IsExpanded : Symbol → Option PlacedToken → List Symbol → List Symbol → Bool → Type 0
IsExpanded p t old new true = (qs : List Symbol) × (choose p t ≡ Some qs) × (new ≡ qs ++ old)
IsExpanded p t old new false = choose p t ≡ None

-- a rule, whatever it speaks of
abbrev pub IsRule : Symbol → Type 0
IsRule (Sub r) = Unit {0}
IsRule (Call n) = Unit {0}
IsRule _ = ⊥

-- the same of a rule that speaks of no name, at a token of this kind
abbrev pub IsChosen : Rule → Option Kind → List Symbol → List Symbol → Bool → Type 0
IsChosen r k old new true = (qs : List Symbol) × (pick (guards r) (choices r) k ≡ Some qs) × (new ≡ qs ++ old)
IsChosen r k old new false = pick (guards r) (choices r) k ≡ None

-- the stack begins with the token, which has this effect
abbrev pub token_of_word : List ℕ → Token
token_of_word w = Token.Word w

abbrev pub IsTaken : Settled → Token → Effect → Type 0
IsTaken (T.Token k e) t f = Accepts k t × (e ≡ f)
IsTaken (T.Name w e) t f = ((t ≡ Token.Word w.now) × (is_name w.now ≡ true)) × (e ≡ f)
IsTaken T.Empty t f = ⊥
IsTaken T.Stuck t f = ⊥

-- it doesn't
abbrev pub IsRefused : Settled → Token → Type 0
IsRefused (T.Token k e) t = Accepts k t → ⊥
IsRefused (T.Name w e) t = (t ≡ Token.Word w.now) × (is_name w.now ≡ true) → ⊥
IsRefused T.Empty t = Unit {0}
IsRefused T.Stuck t = Unit {0}

-- a token ends at a place of 32 bits
abbrev pub EndsIn : PlacedToken → Type 0
EndsIn t = t.place + length (written t.token) < 2 ^ 32

-- the tokens are a file, the nodes hold its classes, and no other classes are read in these tokens
pub record IsTheFileOf (tokens : List PlacedToken) (nodes : List Cell) (held : List Class) : Type 0 where
  pub classes : List ClassTree
  pub file : IsFile tokens classes
  pub only : (others : List ClassTree) → IsFile tokens others → others ≡ classes
  pub program : ClassesAre nodes held classes

abbrev pub IsTheFile : List PlacedToken → Program → Type 0
IsTheFile tokens p = IsTheFileOf tokens p.tree p.classes

-- why there is none
abbrev pub FailsToParse : List PlacedToken → ℕ → ParseError → Type 0
FailsToParse tokens size E.NoMemory = Unit {0}
FailsToParse tokens size (E.Misplaced place) = IsMisplaced tokens size place
