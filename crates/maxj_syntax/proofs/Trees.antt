-- Nodes that hold trees, and what the steps do to them.
use Rattle.std.proofs.Common.{◌≡◌, ℕ, zero, suc, ◌<◌, ◌≤◌, Bool, List, [], ◌∷◌, ◌++◌, Some, refl, sym, ap, subst, ◌∙◌, length, length-append, arith, slice_get, reverse, drop, take, min, ◌-◌}
use Rattle.std.proofs.lemmas.List.{length-drop}
use Rattle.std.proofs.lemmas.List.{reverse-append, map-append}
use Rattle.std.proofs.Math.ListN.{length-map}
use Rattle.mx_base.specs.declared.span.Span.{Span}
use Rattle.maxj_syntax.specs.declared.tree.NodeKind.{NodeKind}
use Rattle.maxj_syntax.specs.declared.tree.NodeKind.TheVariants as N
use Rattle.maxj_syntax.specs.declared.draft.Draft.{Draft}
use Rattle.maxj_syntax.specs.declared.draft.NodeWord.TheVariants as W
use Rattle.maxj_syntax.specs.Cells.{Cell, word_in, cell_in, cells_of}
use Rattle.maxj_syntax.specs.declared.tree.Class.{Class}
use Rattle.maxj_syntax.specs.declared.build.Unfinished.{Unfinished}
use Rattle.maxj_syntax.specs.declared.symbol.Action.TheVariants.{Into, Declare, Keep, Named}
use Rattle.maxj_tokens.specs.Scanning.{PlacedToken, span_of}
use Rattle.maxj_syntax.specs.Tree.{Tree, Node, Trees, Nil, Cons, one, ClassTree, IsAt, AreAt, ClassIs, ClassesAre}
use Rattle.maxj_syntax.specs.Steps.{Entry, At, Below, Ground, On, act_top, act_below, add_last, no_span, tree_of, start_of, add_classes, class_of, memory_type, between}
use Rattle.maxj_syntax.specs.Building.{IsOpen, AreUnder, AreOpen, IsLeaf}
use Rattle.maxj_syntax.specs.declared.symbol.ClassKind.{ClassKind}
use Rattle.maxj_syntax.specs.Productions.{is_manager}

-- the nodes with their words

pub cells_more : (tokens : List PlacedToken) (old new : List Draft) (d : Draft) → new ≡ old ++ d ∷ [] → cells_of tokens new ≡ cells_of tokens old ++ cell_in tokens d ∷ []
cells_more tokens old new d e = ap (cells_of tokens) e ∙ map-append (cell_in tokens) old (d ∷ [])

pub cells_number : (tokens : List PlacedToken) (ds : List Draft) (n : ℕ) → n ≡ length ds → n ≡ length (cells_of tokens ds)
cells_number tokens ds n e = e ∙ sym (length-map ds (cell_in tokens))

get_append : (xs ys : List Cell) (n : ℕ) (x : Cell) → slice_get xs n ≡ Some x → slice_get (xs ++ ys) n ≡ Some x
get_append [] ys n x e = absurd (cc)
get_append (y ∷ xs) ys zero x e = e
get_append (y ∷ xs) ys (suc n) x e = get_append xs ys n x e

get_last : (xs : List Cell) (x : Cell) → slice_get (xs ++ x ∷ []) (length xs) ≡ Some x
get_last [] x = refl
get_last (y ∷ xs) x = get_last xs x

mutual
  keeps : (t : Tree) (nodes more : List Cell) (n : ℕ) → IsAt nodes n t → IsAt (nodes ++ more) n t
  keeps (Node k w s ts) nodes more n a = (a.0, get_append nodes more n a.0 a.1, a.2, a.3, a.4, keep ts nodes more n n a.0.children (omega arith) a.5)

  keep : (ts : Trees) (nodes more : List Cell) (top high : ℕ) (ns : List ℕ) → top ≤ high → AreAt nodes top ns ts → AreAt (nodes ++ more) high ns ts
  keep Nil nodes more top high ns h a = a
  keep (Cons t ts) nodes more top high ns h a = (a.0, a.1, a.2, omega (arith, h, a.3), keeps t nodes more a.0 a.4, keep ts nodes more top high a.1 h a.5)

-- a node that is whole
pub close : (nodes : List Cell) (tokens : List PlacedToken) (o : Unfinished)
    (x : List PlacedToken) (t : Tree) → IsOpen nodes tokens o (At x t)
    → IsAt (nodes ++ cell_in tokens o.node ∷ []) (length nodes) t
close nodes tokens o x (Node k w s ts) a = (
  cell_in tokens o.node,
  get_last nodes (cell_in tokens o.node),
  a.1,
  a.2,
  a.3,
  keep ts nodes (cell_in tokens o.node
      ∷ []) (length nodes) (length nodes) o.node.children (omega arith) a.4,
)

last_child : (ts : Trees) (t : Tree) (nodes : List Cell) (top n : ℕ) (ns : List ℕ) → AreAt nodes top ns ts → n < top → IsAt nodes n t → AreAt nodes top (ns ++ n ∷ []) (add_last ts t)
last_child Nil t nodes top n ns a h b = (n, [], rw a refl, h, b, refl)
last_child (Cons u us) t nodes top n ns a h b = (a.0, a.1 ++ n ∷ [], rw a.2 refl, a.3, a.4, last_child us t nodes top n a.1 a.5 h b)

pub classes_more : (nodes more : List Cell) (cs : List Class) (ts : List ClassTree) → ClassesAre nodes cs ts → ClassesAre (nodes ++ more) cs ts
classes_more nodes more [] [] a = tt
classes_more nodes more [] (t ∷ ts) a = absurd a
classes_more nodes more (c ∷ cs) [] a = absurd a
classes_more nodes more (c ∷ cs) (t ∷ ts) a = (record { name = a.0.name; manager = a.0.manager; node = keeps t.tree nodes more c.node a.0.node }, classes_more nodes more cs ts a.1)

classes_last : (nodes : List Cell) (cs : List Class) (ts : List ClassTree) (c : Class) (t : ClassTree) → ClassesAre nodes cs ts → ClassIs nodes c t → ClassesAre nodes (cs ++ c ∷ []) (ts ++ t ∷ [])
classes_last nodes [] [] c t a b = (b, tt)
classes_last nodes [] (u ∷ ts) c t a b = absurd a
classes_last nodes (d ∷ cs) [] c t a b = absurd a
classes_last nodes (d ∷ cs) (u ∷ ts) c t a b = (a.0, classes_last nodes cs ts c t a.1 b)

is_more : (nodes more : List Cell) (tokens : List PlacedToken) (o : Unfinished) (e : Entry) → IsOpen nodes tokens o e → IsOpen (nodes ++ more) tokens o e
is_more nodes more tokens o (At x (Node k w s ts)) a = (a.0, a.1, a.2, a.3, keep ts nodes more (length nodes) (length (nodes ++ more)) o.node.children (omega (arith, length-append nodes more)) a.4)

under_more : (nodes more : List Cell) (classes : List Class) (tokens : List PlacedToken)
    (os : List Unfinished) (s : Below) → AreUnder nodes classes tokens os s
    → AreUnder (nodes ++ more) classes tokens os s
under_more nodes more classes tokens [] (Ground cs) a = classes_more nodes more classes cs a
under_more nodes more classes tokens [] (On e s) a = absurd a
under_more nodes more classes tokens (o ∷ os) (Ground cs) a = absurd a
under_more nodes more classes tokens (o ∷ os) (On e s) a = (is_more nodes more tokens o e a.0, under_more nodes more classes tokens os s a.1)

open_under : (nodes : List Cell) (classes : List Class) (tokens : List PlacedToken)
    (os : List Unfinished) (b : Entry) (s : Below) → AreOpen nodes classes tokens os b s
    → AreUnder nodes classes tokens os (On b s)
open_under nodes classes tokens [] b s a = absurd a
open_under nodes classes tokens (o ∷ os) b s a = a

-- the one on top, and those below
pub top_of_list : (tokens : List PlacedToken) (nodes : List Cell) (classes : List Class)
    (old os : List Unfinished) (o : Unfinished) (b : Entry) (s : Below) → old ≡ os ++ o ∷ []
    → AreOpen nodes classes tokens (reverse old) b s → IsOpen nodes tokens o b
    × AreUnder nodes classes tokens (reverse os) s
top_of_list tokens nodes classes old os o b s e h = subst (λ l. AreOpen nodes classes tokens l b s) (ap reverse e ∙ reverse-append os (o ∷ [])) h

pub onto : (tokens : List PlacedToken) (nodes : List Cell) (classes : List Class)
    (new os : List Unfinished) (o : Unfinished) (b : Entry) (s : Below) → new ≡ os ++ o ∷ []
    → IsOpen nodes tokens o b → AreUnder nodes classes tokens (reverse os) s
    → AreOpen nodes classes tokens (reverse new) b s
onto tokens nodes classes new os o b s e i h = subst (λ l. AreOpen nodes classes tokens l b s) (sym (ap reverse e ∙ reverse-append os (o ∷ []))) (i, h)

-- and the next one
pub next_below : (tokens : List PlacedToken) (nodes : List Cell) (classes : List Class)
    (old os : List Unfinished) (o : Unfinished) (s : Below) → old ≡ os ++ o ∷ []
    → AreUnder nodes classes tokens (reverse old) s
    → (e : Entry) × (r : Below) × (s ≡ On e r) × IsOpen nodes tokens o e × AreUnder nodes classes tokens (reverse os) r
next_below tokens nodes classes old os o (Ground cs) e h = absurd (subst (λ l. AreUnder nodes classes tokens l (Ground cs)) (ap reverse e ∙ reverse-append os (o ∷ [])) h)
next_below tokens nodes classes old os o (On c r) e h = let i = subst (λ l. AreUnder nodes classes tokens l (On c r)) (ap reverse e ∙ reverse-append os (o ∷ [])) h in (c, r, refl, i.0, i.1)

-- or the ground
pub no_below : (tokens : List PlacedToken) (nodes : List Cell) (classes : List Class)
    (old : List Unfinished) (s : Below) → old ≡ []
    → AreUnder nodes classes tokens (reverse old) s → (cs : List ClassTree) × (s ≡ Ground cs)
no_below tokens nodes classes old (Ground cs) e h = (cs, refl)
no_below tokens nodes classes old (On c r) e h = absurd (subst (λ l. AreUnder nodes classes tokens (reverse l) (On c r)) e h)

-- a new one on top
pub pushed : (tokens : List PlacedToken) (nodes : List Cell) (classes : List Class)
    (old new : List Unfinished) (o : Unfinished) (e b : Entry) (s : Below) → new ≡ old ++ o ∷ []
    → IsOpen nodes tokens o e → AreOpen nodes classes tokens (reverse old) b s
    → AreOpen nodes classes tokens (reverse new) e (On b s)
pushed tokens nodes classes old new o e b s g i h = onto tokens nodes classes new old o e (On b s) g i (open_under nodes classes tokens (reverse old) b s h)

-- the one on top becomes the first child of another
pub wrapped : (tokens : List PlacedToken) (nodes more : List Cell) (classes : List Class)
    (old os new : List Unfinished) (o p : Unfinished) (k : NodeKind) (w : List ℕ) (n : ℕ)
    (b : Entry) (s : Below) → old ≡ os ++ o ∷ [] → more ≡ nodes ++ cell_in tokens o.node ∷ []
    → new ≡ os ++ p ∷ [] → n ≡ length nodes
    → p.start ≡ o.start → p.node.kind ≡ k → word_in tokens p.node.word ≡ w → p.node.span ≡ no_span → p.node.children ≡ n ∷ [] → AreOpen nodes classes tokens (reverse old) b s
    → AreOpen more classes tokens (reverse new) (At (start_of b) (Node k w no_span (one (tree_of b)))) s
wrapped tokens nodes more classes old os new o p k w n (At x (Node j v r ts)) s e f g z a u c d q h =
    let t = top_of_list tokens nodes classes old os o (At x (Node j v r ts)) s e h in
    let i = close nodes tokens o x (Node j v r ts) t.0 in
    subst (λ l. AreOpen l classes tokens (reverse new) (At x
    (Node k w no_span (one (Node j v r ts)))) s) (sym f) (onto tokens (nodes
    ++ cell_in tokens o.node ∷ []) classes new os p
    (At x (Node k w no_span (one (Node j v r ts)))) s g
    (t.0.0 ∙ ap (λ m. drop m tokens) (sym a), u, c, d, (length nodes, [], q ∙ ap (λ m. m ∷ []) z, omega (arith, length-append nodes (cell_in tokens o.node ∷ [])), i, refl))
    (under_more nodes (cell_in tokens o.node ∷ []) classes tokens (reverse os) s t.1))

-- the one on top becomes the last child of the one below
pub entered : (tokens xs : List PlacedToken) (nodes more : List Cell) (classes : List Class)
    (old mid os new : List Unfinished) (o p q : Unfinished) (n : ℕ) (b : Entry) (s : Below)
    → old ≡ mid ++ o ∷ [] → mid ≡ os ++ p ∷ [] → more ≡ nodes ++ cell_in tokens o.node ∷ []
    → new ≡ os ++ q ∷ [] → n ≡ length nodes
    → q.start ≡ p.start → q.node.kind ≡ p.node.kind → q.node.word ≡ p.node.word
    → q.node.span ≡ p.node.span → q.node.children ≡ p.node.children ++ n ∷ []
    → AreOpen nodes classes tokens (reverse old) b s
    → AreOpen more classes tokens (reverse new) (act_top Into xs b s) (act_below Into b s)
entered tokens xs nodes more classes old mid os new o p q n (At x t) (Ground cs) e f g z l a u v d c h =
    let i = top_of_list tokens nodes classes old mid o (At x t) (Ground cs) e h in
    let j = next_below tokens nodes classes mid os p (Ground cs) f i.1 in
    absurd (let k = j.2 in cc)
entered tokens xs nodes more classes old mid os new o p q n (At x t) (On (At y (Node k w r ts)) s) e f g z l a u v d c h =
    let i = top_of_list tokens nodes classes old mid o (At x t) (On (At y (Node k w r ts)) s) e h in
    let j = subst (λ m. AreUnder nodes classes tokens m (On (At y (Node k w r ts)) s)) (ap reverse f ∙ reverse-append os (p ∷ [])) i.1 in
    let m = close nodes tokens o x t i.0 in
    let kids = keep ts nodes (cell_in tokens o.node ∷ []) (length nodes) (length (nodes
    ++ cell_in tokens o.node ∷ [])) p.node.children (omega (
      arith,
      length-append nodes (cell_in tokens o.node ∷ []),
    )) j.0.4 in
    let all = last_child ts t (nodes ++ cell_in tokens o.node
    ∷ []) (length (nodes ++ cell_in tokens o.node
    ∷ [])) (length nodes) p.node.children kids (omega (
      arith,
      length-append nodes (cell_in tokens o.node ∷ []),
    )) m in
    subst (λ l. AreOpen l classes tokens (reverse new) (At y (Node k w r (add_last ts t))) s)
    (sym g) (onto tokens (nodes ++ cell_in tokens o.node
    ∷ []) classes new os q (At y (Node k w r (add_last ts t))) s z (
      j.0.0 ∙ ap (λ m. drop m tokens) (sym a),
      u ∙ j.0.1,
      ap (word_in tokens) v ∙ j.0.2,
      d ∙ j.0.3,
      subst (λ l. AreAt (nodes ++ cell_in tokens o.node
          ∷ []) (length (nodes ++ cell_in tokens o.node
          ∷ [])) l (add_last ts t)) (sym (c ∙ ap (λ m. p.node.children ++ m ∷ []) l)) all,
    )
    (under_more nodes (cell_in tokens o.node ∷ []) classes tokens (reverse os) s j.1))

-- the one below gets the word of the one on top
pub renamed : (tokens xs : List PlacedToken) (nodes : List Cell) (classes : List Class)
    (old mid os new : List Unfinished) (o p q : Unfinished) (b : Entry) (s : Below)
    → old ≡ mid ++ o ∷ [] → mid ≡ os ++ p ∷ [] → new ≡ os ++ q ∷ []
    → q.start ≡ p.start → q.node.kind ≡ p.node.kind → q.node.word ≡ o.node.word
    → q.node.span ≡ p.node.span → q.node.children ≡ p.node.children
    → AreOpen nodes classes tokens (reverse old) b s
    → AreOpen nodes classes tokens (reverse new) (act_top Named xs b s) (act_below Named b s)
renamed tokens xs nodes classes old mid os new o p q (At x t) (Ground cs) e f g a u v d c h =
    let i = top_of_list tokens nodes classes old mid o (At x t) (Ground cs) e h in
    let j = next_below tokens nodes classes mid os p (Ground cs) f i.1 in
    absurd (let k = j.2 in cc)
renamed tokens xs nodes classes old mid os new o p q (At x (Node l m n us)) (On (At y (Node k w r ts)) s) e f g a u v d c h =
    let i = top_of_list tokens nodes classes old mid o (At x (Node l m n us)) (On (At y (Node k w r ts)) s) e h in
    let j = subst (λ l. AreUnder nodes classes tokens l (On (At y (Node k w r ts)) s)) (ap reverse f ∙ reverse-append os (p ∷ [])) i.1 in
    onto tokens nodes classes new os q (At y (Node k m r ts)) s g (
      j.0.0 ∙ ap (λ m. drop m tokens) (sym a),
      u ∙ j.0.1,
      ap (word_in tokens) v ∙ i.0.2,
      d ∙ j.0.3,
      subst (λ l. AreAt nodes (length nodes) l ts) (sym c) j.0.4,
    ) j.1

-- the one on top is alone
pub alone : (tokens : List PlacedToken) (nodes : List Cell) (classes : List Class)
    (old mid new : List Unfinished) (o : Unfinished) (b : Entry) (s : Below) (P : Entry → Below
    → Type 0) → old ≡ mid ++ o ∷ [] → mid ≡ [] → new ≡ mid ++ o ∷ []
    → ((cs : List ClassTree) → AreOpen nodes classes tokens (reverse new) b (Ground cs) → P b (Ground cs)) → AreOpen nodes classes tokens (reverse old) b s → P b s
alone tokens nodes classes old mid new o b s P e f g k h =
    let i = top_of_list tokens nodes classes old mid o b s e h in
    let j = no_below tokens nodes classes mid s f i.1 in
    subst (λ r. P b r) (sym j.1) (k j.0 (onto tokens nodes classes new mid o b (Ground j.0) g i.0 (subst (λ r. AreUnder nodes classes tokens (reverse mid) r) j.1 i.1)))

-- the one on top changes
pub replaced : (tokens : List PlacedToken) (nodes : List Cell) (classes : List Class)
    (old os new : List Unfinished) (o p : Unfinished) (b e : Entry) (s : Below) → old ≡ os ++ o
    ∷ [] → new ≡ os ++ p ∷ [] → (IsOpen nodes tokens o b → IsOpen nodes tokens p e)
    → AreOpen nodes classes tokens (reverse old) b s
    → AreOpen nodes classes tokens (reverse new) e s
replaced tokens nodes classes old os new o p b e s f g k h = let i = top_of_list tokens nodes classes old os o b s f h in onto tokens nodes classes new os p e s g (k i.0) i.1

-- the one on top is a whole class
add_class : (nodes : List Cell) (classes : List Class) (tokens : List PlacedToken)
    (os : List Unfinished) (s : Below) (c : Class) (t : ClassTree)
    → AreUnder nodes classes tokens os s → ClassIs nodes c t
    → AreUnder nodes (classes ++ c ∷ []) tokens os (add_classes s (t ∷ []))
add_class nodes classes tokens [] (Ground cs) c t a b = classes_last nodes classes cs c t a b
add_class nodes classes tokens [] (On e s) c t a b = absurd a
add_class nodes classes tokens (o ∷ os) (Ground cs) c t a b = absurd a
add_class nodes classes tokens (o ∷ os) (On e s) c t a b = (a.0, add_class nodes classes tokens os s c t a.1 b)

pub kept : (tokens xs : List PlacedToken) (nodes more : List Cell) (classes all : List Class)
    (old mid os new : List Unfinished) (o p : Unfinished) (m : ClassKind) (c : Class) (n : ℕ)
    (b : Entry) (s : Below) → old ≡ mid ++ o ∷ [] → mid ≡ os ++ p ∷ [] → more ≡ nodes
    ++ cell_in tokens o.node ∷ [] → all ≡ classes ++ c ∷ [] → new ≡ os ++ p ∷ []
    → c.name ≡ word_in tokens o.node.word → c.manager ≡ is_manager m → c.node ≡ n → n ≡ length nodes
    → AreOpen nodes classes tokens (reverse old) b s
    → AreOpen more all tokens (reverse new) (act_top (Keep m) xs b s) (act_below (Keep m) b s)
kept tokens xs nodes more classes all old mid os new o p m c n (At x t) (Ground cs) e f g d l u v w z h =
    let i = top_of_list tokens nodes classes old mid o (At x t) (Ground cs) e h in
    let j = next_below tokens nodes classes mid os p (Ground cs) f i.1 in
    absurd (let k = j.2 in cc)
kept tokens xs nodes more classes all old mid os new o p m c n (At x (Node j y r ts)) (On q s) e f g d l2 u v w z h =
    let i = top_of_list tokens nodes classes old mid o (At x (Node j y r ts)) (On q s) e h in
    let a = subst (λ l. AreUnder nodes classes tokens l (On q s)) (ap reverse f ∙ reverse-append os (p ∷ [])) i.1 in
    let k = under_more nodes (cell_in tokens o.node ∷ []) classes tokens (p ∷ reverse os) (On q s) a in
    let whole : IsAt (nodes ++ cell_in tokens o.node
    ∷ []) c.node (Node j y r ts) = subst (λ l. IsAt (nodes ++ cell_in tokens o.node
    ∷ []) l (Node j y r ts)) (sym (w ∙ z)) (close nodes tokens o x (Node j y r ts) i.0) in
    let is : ClassIs (nodes ++ cell_in tokens o.node ∷ []) c (class_of m (Node j y r ts)) = record { name = u ∙ i.0.2; manager = v; node = whole } in
    subst (λ l. AreOpen l all tokens (reverse new) q (add_classes s (class_of m (Node j y r ts)
    ∷ []))) (sym g) (subst (λ l. AreOpen (nodes ++ cell_in tokens o.node
    ∷ []) l tokens (reverse new) q (add_classes s (class_of m (Node j y r ts) ∷ []))) (sym d)
    (onto tokens (nodes ++ cell_in tokens o.node ∷ []) (classes ++ c
    ∷ []) new os p q (add_classes s (class_of m (Node j y r ts)
    ∷ [])) l2 k.0 (add_class (nodes ++ cell_in tokens o.node
    ∷ []) classes tokens (reverse os) s c (class_of m (Node j y r ts)) k.1 is)))

-- a name becomes a local variable of the type of memories
pub declared : (tokens xs : List PlacedToken) (nodes more : List Cell) (classes : List Class)
    (old mid os new : List Unfinished) (o p q : Unfinished) (node : Draft) (span : Span) (n : ℕ)
    (b : Entry) (s : Below) → old ≡ mid ++ o ∷ [] → mid ≡ os ++ p ∷ [] → more ≡ nodes
    ++ cell_in tokens node ∷ [] → new ≡ os ++ q ∷ []
    → n ≡ length nodes → IsLeaf node N.Plain W.Memory span
    → span ≡ between (drop p.start tokens) (drop o.start tokens) → q.start ≡ p.start
    → q.node.kind ≡ N.Local → q.node.word ≡ o.node.word → q.node.span ≡ no_span
    → q.node.children ≡ n ∷ []
    → AreOpen nodes classes tokens (reverse old) b s → AreOpen more classes tokens (reverse new) (act_top Declare xs b s) (act_below Declare b s)
declared tokens xs nodes more classes old mid os new o p q node span n (At x t) (Ground cs) e f g z l i r a k w d c h =
    let j = top_of_list tokens nodes classes old mid o (At x t) (Ground cs) e h in
    let m = next_below tokens nodes classes mid os p (Ground cs) f j.1 in
    absurd (let u = m.2 in cc)
declared tokens xs nodes more classes old mid os new o p q node span n (At x (Node j y u ts)) (On (At x2 (Node j2 y2 u2 ts2)) s) e f g z l i r a k w d c h =
    let v = top_of_list tokens nodes classes old mid o (At x (Node j y u ts)) (On (At x2 (Node j2 y2 u2 ts2)) s) e h in
    let m = subst (λ m. AreUnder nodes classes tokens m (On (At x2 (Node j2 y2 u2 ts2)) s)) (ap reverse f ∙ reverse-append os (p ∷ [])) v.1 in
    let spans : span ≡ between x2 x = r ∙ ap (λ l. between l (drop o.start tokens)) (sym m.0.0) ∙ ap (λ l. between x2 l) (sym v.0.0) in
    let type : IsAt (nodes ++ cell_in tokens node
    ∷ []) (length nodes) (memory_type x2 x) = (
      cell_in tokens node,
      get_last nodes (cell_in tokens node),
      i.kind,
      ap (word_in tokens) i.word,
      i.span_is ∙ spans,
      i.children,
    ) in
    subst (λ l. AreOpen l classes tokens (reverse new) (At x2
    (Node N.Local y no_span (one (memory_type x2 x)))) s) (sym g) (onto tokens (nodes
    ++ cell_in tokens node ∷ []) classes new os q (At x2
    (Node N.Local y no_span (one (memory_type x2 x)))) s z (
      m.0.0 ∙ ap (λ m. drop m tokens) (sym a),
      k,
      ap (word_in tokens) w ∙ v.0.2,
      d,
      (
        length nodes,
        [],
        c ∙ ap (λ m. m ∷ []) l,
        omega (
          arith,
          length-append nodes (cell_in tokens node ∷ []),
        ),
        type,
        refl,
      ),
    )
    (under_more nodes (cell_in tokens node ∷ []) classes tokens (reverse os) s m.1))

pub declared_span : (ts : List PlacedToken) (p o m : ℕ) → m ≡ min o (length ts) → span_of (take (m - p) (drop p ts)) ≡ between (drop p ts) (drop o ts)
declared_span ts p o m e =
    let a = length-drop p ts in
    let b = length-drop o ts in
    let n : m - p ≡ length (drop p ts) - length (drop o ts) = omega (arith, a, b, e) in
    ap (λ k. span_of (take k (drop p ts))) n
