-- What the parser's steps read is what the productions derive.
use Rattle.std.proofs.Common.{◌≡◌, ℕ, Bool, true, false, List, [], ◌∷◌, ◌++◌, refl, sym, ap, subst, ◌∙◌, codes, append_assoc}
use Rattle.mx_base.specs.declared.span.Span.{Span}
use Rattle.maxj_syntax.specs.declared.level.Level.{Level}
use Rattle.maxj_syntax.specs.declared.tree.NodeKind.{NodeKind}
use Rattle.maxj_syntax.specs.declared.tree.NodeKind.TheVariants as N
use Rattle.maxj_syntax.specs.declared.symbol.Form.{Form}
use Rattle.maxj_syntax.specs.declared.symbol.Site.{Site}
use Rattle.maxj_syntax.specs.declared.symbol.Rule.{Rule}
use Rattle.maxj_tokens.specs.Tokens.{Token, written, is_among}
use Rattle.maxj_tokens.specs.Scanning.{PlacedToken, from_of}
use Rattle.maxj_syntax.specs.Tree.{Tree, Node, Trees, Nil, Cons, join, one, two, ClassTree}
use Rattle.maxj_syntax.specs.Productions.{Above, Part, Is, Choice, absent, is_name, parent}
use Rattle.maxj_syntax.specs.Symbols.{Inside, Symbol, Mark, Name, Sub, Call, Act}
use Rattle.maxj_syntax.specs.Symbols as Y
use Rattle.maxj_syntax.specs.Moves.{Move, NamedMove, onward, ordered, looser, close, is_own}
use Rattle.maxj_syntax.specs.Steps.{Entry, At, Below, Ground, On, Goes, with_text, text_of, between}
use Rattle.maxj_syntax.specs.Steps.{no_span, fresh, add, add_last, turned, spanned, tree_of}
use Rattle.maxj_syntax.specs.Steps.{start_of, add_classes, class_of, memory_type}
use Rattle.std.proofs.lemmas.List.{append-nil}
use Rattle.maxj_syntax.specs.TokenClasses.{IsNameToken}
use Rattle.text_scan.proofs.ByteTests.{bytes_same}
use Rattle.maxj_syntax.proofs.Fits.{and_left, and_right}
use Rattle.maxj_syntax.proofs.Segments.{Seg, then, link, parted, made, tok}
use Rattle.maxj_syntax.proofs.Meanings.{shape, named_shape, top_of, adds, Reads, IsName, IsDotted}
use Rattle.maxj_syntax.proofs.Meanings.{IsNew, IsNewName, IsWordName, IsMemory, IsLess, IsGreater}
use Rattle.maxj_syntax.proofs.Meanings.{IsBegun, IsHead, handed_word, IsHandedBy, Target, Follows}
use Rattle.maxj_syntax.proofs.Meanings.{Result, NamedResult}
use Rattle.maxj_syntax.specs.declared.symbol.ClassKind.{ClassKind}

join_one : (cs : Trees) (u : Tree) (us : Trees) → join (add_last cs u) us ≡ join cs (Cons u us)
join_one Nil u us = refl
join_one (Cons c cs) u us = ap (λ l. Cons c l) (join_one cs u us)

pub adds_is : (k : NodeKind) (w : List ℕ) (p : Span) (cs ts : Trees) → adds (Node k w p cs) ts ≡ Node k w p (join cs ts)
adds_is k w p cs Nil = ap (λ l. Node k w p l) (sym (join_nil cs))
  where
    join_nil : (cs : Trees) → join cs Nil ≡ cs
    join_nil Nil = refl
    join_nil (Cons c cs) = ap (λ l. Cons c l) (join_nil cs)
adds_is k w p cs (Cons u us) = adds_is k w p (add_last cs u) us ∙ ap (λ l. Node k w p l) (join_one cs u us)

-- a tree with its children, ended
pub closed : (k : NodeKind) (w : List ℕ) (q p : Span) (cs ts : Trees) (v : Tree) → v ≡ adds (Node k w q cs) ts → spanned p v ≡ Node k w p (join cs ts)
closed k w q p cs ts v e = ap (λ t. spanned p t) (e ∙ adds_is k w q cs ts)

abbrev end : {xs : List PlacedToken} → Seg [] xs xs
end = Seg.none

-- a place is a postfix form too
abbrev opened : List Part → List Part
opened (Part.Place a ∷ ps) = Part.Open a ∷ ps
opened ps = ps

open_choice : {xs ms ys : List PlacedToken} {p : Part} {qs ps : List Part} → Choice (between xs ms) p qs → Seg qs xs ms → Seg (opened qs) xs ms → Seg ps ms ys → Seg (opened (p ∷ ps)) xs ys
open_choice Choice.place_name d o r = Seg.choice Choice.name d r
open_choice Choice.place_index d o r = Seg.choice Choice.index o r
open_choice c d o r = Seg.choice c d r

open_seg : {ps : List Part} {xs ys : List PlacedToken} → Seg ps xs ys → Seg (opened ps) xs ys
open_seg Seg.none = Seg.none
open_seg (Seg.token {p = p} i d) = open_token p i d
  where
    open_token : (p : Part) {t : PlacedToken} {ps : List Part} {xs ys : List PlacedToken} → Is p t → Seg ps xs ys → Seg (opened (p ∷ ps)) (t ∷ xs) ys
    open_token (Part.Place a) i d = elim i [ ]
    open_token p i d = Seg.token i d
open_seg (Seg.choice c d r) = open_choice c d (open_seg d) r

place_open : {a : Tree} {xs ys : List PlacedToken} → Reads (Part.Place a) xs ys → Reads (Part.Open a) xs ys
place_open d = open_seg d

prefixed : {a : Tree} {x y : List PlacedToken} → Reads (Part.Open a) x y → Reads (Part.Joined Level.Prefixes a) x y
prefixed g = made Choice.no_prefix (made Choice.open_form g)

type_of_name : {a : Tree} {x y : List PlacedToken} → IsName a x y → Reads (Part.Type_ (turned N.Plain a)) x y
type_of_name {x = x} {y = y} g = subst (λ z. Reads (Part.Type_ (turned N.Plain z)) x y) (sym g.1) (made Choice.just_base (made Choice.base_name g.2))

place_of_name : {a : Tree} {x y : List PlacedToken} → IsName a x y → Reads (Part.Place a) x y
place_of_name {x = x} {y = y} g = subst (λ z. Reads (Part.Place z) x y) (sym g.1) (made Choice.place_name g.2)

abbrev IsAdded : Tree → Tree → List PlacedToken → List PlacedToken → Type 0
IsAdded t v xs ys = (ts : Trees) × (v ≡ adds t ts) × Reads (Part.Args ts) xs ys

call_tree : {a v : Tree} {x xs m n l : List PlacedToken} → IsName a x xs
    → Reads (Part.Sign_ (codes "(")) xs m → IsAdded (turned N.Call a) v m n
    → Reads (Part.Sign_ (codes ")")) n l → Reads (Part.Call (spanned (between x l) v)) x l
call_tree {v = v} {x = x} {xs = xs} {l = l} g o h c =
    let e = closed N.Call g.0 (between x xs) (between x l) Nil h.0 v (h.1 ∙ ap (λ z. adds (turned N.Call z) h.0) g.1) in
    subst (λ z. Reads (Part.Call z) x l) (sym e) (made Choice.call_name (link g.2 (link o (link h.2 c))))

dotted_tree : {a v : Tree} {x xs m n l : List PlacedToken} → IsDotted a x xs
    → Reads (Part.Sign_ (codes "(")) xs m → IsAdded (turned N.DotCall a) v m n
    → Reads (Part.Sign_ (codes ")")) n l → Reads (Part.Call (spanned (between x l) v)) x l
dotted_tree {v = v} {x = x} {l = l} g o h c =
    let e = closed N.DotCall g.0 no_span (between x l) (one g.1) h.0 v (h.1 ∙ ap (λ z. adds (turned N.DotCall z) h.0) g.2) in
    subst (λ z. Reads (Part.Call z) x l) (sym e) (made Choice.call_dot (then g.3 (link o (link h.2 c))))

dot_tree : {a : Tree} {x xs : List PlacedToken} → IsDotted a x xs → Reads (Part.Open (spanned (between x xs) a)) x xs
dot_tree {x = x} {xs = xs} g = subst (λ z. Reads (Part.Open (spanned (between x xs) z)) x xs) (sym g.2) (made Choice.dot g.3)

new_tree : {a p v : Tree} {x y xs m n l : List PlacedToken} → IsNewName (At y p) (At x a) xs
    → Reads (Part.Sign_ (codes "(")) xs m → IsAdded (with_text (text_of p) a) v m n
    → Reads (Part.Sign_ (codes ")")) n l → Reads (Part.Call (spanned (between x l) v)) x l
new_tree {a = a} {v = v} {x = x} {l = l} g o h c =
    let f = ap (λ z. adds (with_text (text_of z) a) h.0) g.2 ∙ ap (λ z. adds (with_text g.1 z) h.0) g.0.0 in
    let e = closed N.New g.1 no_span (between x l) Nil h.0 v (h.1 ∙ f) in
    subst (λ z. Reads (Part.Call z) x l) (sym e) (made Choice.call_new (link g.0.1 (link g.3 (link o (link h.2 c)))))

array_tree : {a p v : Tree} {x y xs n : List PlacedToken} → IsNew a x y
    → Reads (Part.Base p) y xs → (ts : Trees) × (v ≡ adds (turned N.NewArray (add a p)) ts)
    × Reads (Part.Sizes ts) xs n → Reads (Part.Array (spanned (between x n) v)) x n
array_tree {p = p} {v = v} {x = x} {n = n} g b h =
    let e = closed N.NewArray [] no_span (between x n) (one p) h.0 v (h.1 ∙ ap (λ z. adds (turned N.NewArray (add z p)) h.0) g.0) in
    subst (λ z. Reads (Part.Array z) x n) (sym e) (made Choice.array (link g.1 (link b h.2)))

base_of_name : (b c : Entry) (y : List PlacedToken) → IsNewName b c y → Reads (Part.Base (tree_of b)) (start_of b) y
base_of_name b c y g = subst (λ z. Reads (Part.Base z) (start_of b) y) (sym g.2) (made Choice.base_name g.3)

-- the tails of all levels and the right side of a connection
onwards : (x : List PlacedToken) (a : Tree) (s : Below) (xs : List PlacedToken) (P : Type 0) (Q : Entry → Below → List PlacedToken → Type 0) → (P → Reads (Part.Joined Level.Prefixes a) x xs)
    → ((v : Tree) (ys : List PlacedToken) → (P → Reads (Part.Simple v) x ys) → Q (At x v) s ys) → Follows onward (At x a) s xs Q
onwards x a s xs P Q g f =
    λ v0 m0 h0. λ v1 m1 h1. λ v2 m2 h2. λ v3 m3 h3. λ v4 m4 h4. λ v5 m5 h5. λ v6 m6 h6. λ v7 m7 h7. λ v8 m8 h8. λ v9 m9 h9. λ c mc hc. λ t m e i. λ w n k.
    f _ n (λ p. made Choice.connect (link (hc (h9 (made (Choice.tighter Above.ors)
    (h8 (made (Choice.tighter Above.ands) (h7 (made (Choice.tighter Above.bit_ors)
    (h6 (made (Choice.tighter Above.bit_xors) (h5 (made (Choice.tighter Above.bit_ands)
    (h4 (made (Choice.tighter Above.equalities) (h3
    (made (Choice.tighter Above.orders) (h2 (made (Choice.tighter Above.shifts)
    (h1 (made (Choice.tighter Above.sums) (h0 (made (Choice.tighter Above.products)
    (g p)))))))))))))))))))))) (tok e i k)))

site_end : (d : Site) (x : List PlacedToken) (v : Tree) (s : Below) (ys : List PlacedToken) (P : Type 0) (Q : Entry → Below → List PlacedToken → Type 0) → (P → Reads (Part.Simple v) x ys)
    → ((zs : List PlacedToken) → (P → Target d v x zs) → Q (At x v) s zs) → Follows (close d) (At x v) s ys Q
site_end Site.Alone x v s ys P Q h k = λ t m e i. k m (λ p. made Choice.simple_stmt (link (h p) (tok e i end)))
site_end Site.Loop x v s ys P Q h k = k ys (λ p i. made Choice.first_simple (h p))

-- lists of trees
add_is_join : (cs : Trees) (t : Tree) → add_last cs t ≡ join cs (one t)
add_is_join Nil t = refl
add_is_join (Cons c cs) t = ap (λ l. Cons c l) (add_is_join cs t)

pub add_adds : (t : Tree) (ps : Trees) (b : Tree) → add (adds t ps) b ≡ adds t (join ps (one b))
add_adds t Nil b = refl
add_adds t (Cons p ps) b = add_adds (add t p) ps b

pub add_twice : (s : Below) (cs bs : List ClassTree) → add_classes (add_classes s cs) bs ≡ add_classes s (cs ++ bs)
add_twice (Ground ds) cs bs = ap (λ l. Ground l) (append_assoc ds cs bs)
add_twice (On e s) cs bs = ap (λ r. On e r) (add_twice s cs bs)

pub add_none : (s : Below) → s ≡ add_classes s []
add_none (Ground ds) = ap (λ l. Ground l) (sym (append-nil ds))
add_none (On e s) = ap (λ r. On e r) (add_none s)

-- tokens that are read as another part too
as_word : (w : List ℕ) (qs : List Part) {at : Span} {A : Type 0} → Choice at (Part.Word_ w) qs → A
as_word w qs c = elim c [ ]

as_sign : (s : List ℕ) (qs : List Part) {at : Span} {A : Type 0} → Choice at (Part.Sign_ s) qs → A
as_sign s qs c = elim c [ ]

as_id : (w : List ℕ) (qs : List Part) {at : Span} {A : Type 0} → Choice at (Part.Id w) qs → A
as_id w qs c = elim c [ ]

word_id : {w : List ℕ} {x y : List PlacedToken} → is_name w ≡ true → Reads (Part.Word_ w) x y → Reads (Part.Id w) x y
word_id e (Seg.token i Seg.none) = Seg.token (i, e) Seg.none
word_id {w = w} e (Seg.choice {qs = qs} c d r) = as_word w qs c

id_word : {w : List ℕ} {x y : List PlacedToken} → Reads (Part.Id w) x y → Reads (Part.Word_ w) x y
id_word (Seg.token i Seg.none) = Seg.token i.0 Seg.none
id_word {w = w} (Seg.choice {qs = qs} c d r) = as_id w qs c

sign_of : {s : List ℕ} {ss : List (List ℕ)} {x y : List PlacedToken} → is_among s ss ≡ true → Reads (Part.Sign_ s) x y → Reads (Part.SignOf ss s) x y
sign_of e (Seg.token i Seg.none) = Seg.token (i, e) Seg.none
sign_of {s = s} e (Seg.choice {qs = qs} c d r) = as_sign s qs c

name_of : {w : List ℕ} {t : Tree} {x y : List PlacedToken} → is_name w ≡ true → IsWordName w t x y → IsName t x y
name_of {w = w} e g = (w, g.0, word_id e g.1)

open_of_name : {t : Tree} {x y : List PlacedToken} → IsName t x y → Reads (Part.Open t) x y
open_of_name g = place_open (place_of_name g)

up : {a : Tree} {x y : List PlacedToken} → Reads (Part.Joined Level.Prefixes a) x y → Reads (Part.Joined Level.Shifts a) x y
up d = made (Choice.tighter Above.shifts) (made (Choice.tighter Above.sums) (made (Choice.tighter Above.products) d))

-- an order whose left side is read
less_order : {t r : Tree} {x y z : List PlacedToken} → IsLess t x y → Reads (Part.Joined Level.Shifts r) y z → Reads (Part.Joined Level.Orders (spanned (between x z) (add t r))) x z
less_order {r = r} {x = x} {z = z} g d =
    subst (λ u. Reads (Part.Joined Level.Orders (spanned (between x z) (add u r))) x z) (sym g.2)
    (made (Choice.joined Above.orders) (link (made (Choice.tighter Above.orders) (up (prefixed (open_of_name (name_of refl g.3))))) (link (sign_of refl g.4) d)))

greater_order : {t r : Tree} {x y z : List PlacedToken} → IsGreater t x y → Reads (Part.Joined Level.Shifts r) y z → Reads (Part.Joined Level.Orders (spanned (between x z) (add t r))) x z
greater_order {r = r} {x = x} {z = z} g d =
    subst (λ u. Reads (Part.Joined Level.Orders (spanned (between x z) (add u r))) x z) (sym g.2) (made (Choice.joined Above.orders) (link g.3 (link (sign_of refl g.4) d)))

-- the tails of the levels above the orders, and the right side of a connection
looser_then : (ps : List Symbol) (x : List PlacedToken) (a : Tree) (s : Below)
    (xs : List PlacedToken) (P : Type 0) (Q : Entry → Below → List PlacedToken → Type 0)
    → (P → Reads (Part.Joined Level.Orders a) x xs)
    → ((v : Tree) (ys : List PlacedToken) → (P → Reads (Part.Simple v) x ys) → Follows ps (At x v) s ys Q) → Follows (looser ++ ps) (At x a) s xs Q
looser_then ps x a s xs P Q g f =
    λ v4 m4 h4. λ v5 m5 h5. λ v6 m6 h6. λ v7 m7 h7. λ v8 m8 h8. λ v9 m9 h9. λ c mc hc. λ t m e i. λ w n k.
    f _ n (λ p. made Choice.connect (link (hc (h9 (made (Choice.tighter Above.ors)
    (h8 (made (Choice.tighter Above.ands) (h7 (made (Choice.tighter Above.bit_ors)
    (h6 (made (Choice.tighter Above.bit_xors) (h5 (made (Choice.tighter Above.bit_ands)
    (h4 (made (Choice.tighter Above.equalities) (g p)))))))))))))) (tok e i k)))

looser_end : (d : Site) (x : List PlacedToken) (a : Tree) (s : Below) (xs : List PlacedToken)
    (P : Type 0) (Q : Entry → Below → List PlacedToken → Type 0)
    → (P → Reads (Part.Joined Level.Orders a) x xs)
    → ((v : Tree) (ys : List PlacedToken) → (P → Target d v x ys) → Q (At x v) s ys) → Follows (looser ++ close d) (At x a) s xs Q
looser_end d x a s xs P Q g f = looser_then (close d) x a s xs P Q g (λ v ys h. site_end d x v s ys P Q h (λ zs k. f v zs k))

ordered_end : (d : Site) (x : List PlacedToken) (a : Tree) (y : List PlacedToken) (r : Tree) (s : Below) (xs : List PlacedToken) (P : Type 0) (Q : Entry → Below → List PlacedToken → Type 0)
    → (P → Reads (Part.Joined Level.Orders (spanned (between x xs) (add a r))) x xs)
    → ((v : Tree) (ys : List PlacedToken) → (P → Target d v x ys) → Q (At x v) s ys)
    → Follows (ordered ++ close d) (At y r) (On (At x a) s) xs Q
ordered_end d x a y r s xs P Q g f = λ v m h. looser_end d x v s m P Q (λ p. h (g p)) f

-- with nothing below, of which nothing is said
ordered_ground : (d : Site) (y : List PlacedToken) (r : Tree) (cs : List ClassTree) (xs : List PlacedToken) (Q : Entry → Below → List PlacedToken → Type 0)
    → ((v : Tree) (ys : List PlacedToken) → Q (At y v) (Ground cs) ys) → Follows (ordered ++ close d) (At y r) (Ground cs) xs Q
ordered_ground d y r cs xs Q f = λ v m h. looser_end d y v (Ground cs) m ⊥ Q (λ p. absurd p) (λ v ys k. f v ys)

handed_tree : {w : List ℕ} {t : PlacedToken} {x y : List PlacedToken} → x ≡ t ∷ y → t.token ≡ Token.Word w → Reads (Part.HandedType w (Node N.Plain (written t.token) (between x y) Nil)) x y
handed_tree {w = w} {x = x} {y = y} e i = subst (λ v. Reads (Part.HandedType w (Node N.Plain v (between x y) Nil)) x y) (sym (ap written i)) (made Choice.handed_type (tok e i end))

void_tree : {t : PlacedToken} {x y : List PlacedToken} → x ≡ t ∷ y → t.token ≡ Token.Word (codes "void") → Reads (Part.Result (Node N.Plain (written t.token) (between x y) Nil)) x y
void_tree {x = x} {y = y} e i = subst (λ v. Reads (Part.Result (Node N.Plain v (between x y) Nil)) x y) (sym (ap written i)) (made Choice.void_result (tok e i end))

handed_by : (m : ClassKind) {p : List ℕ} {q : Tree} {x y : List PlacedToken} → IsHandedBy m p q x y → Reads (Part.Handed (handed_word m) p (spanned (between x y) q)) x y
handed_by m {p = p} {x = x} {y = y} g = subst (λ z. Reads (Part.Handed (handed_word m) p (spanned (between x y) z)) x y) (sym g.1) (made Choice.handed g.2)

memory_base : {q : Tree} {x y m n z : List PlacedToken} → IsMemory q x y
    → Reads (Part.Sign_ (codes "<")) y m → Reads (Part.Word_ (codes "DFEVar")) m n
    → Reads (Part.Sign_ (codes ">")) n z → Reads (Part.Base (spanned (between x z) q)) x z
memory_base {x = x} {z = z} g a b c = subst (λ u. Reads (Part.Base (spanned (between x z) u)) x z) (sym g.0) (made Choice.base_memory (link g.1 (link a (link b c))))

pub method_tree : {a p r : Tree} {w : List ℕ} (v : Tree) (ts : Trees) (q : Span)
    → a ≡ Node N.Method w no_span (one r) → p ≡ adds a ts
    → spanned q (add p v) ≡ Node N.Method w q (Cons r (join ts (one v)))
method_tree {a = a} {p = p} {r = r} {w = w} v ts q e f =
    ap (λ z. spanned q (add z v)) (f ∙ ap (λ z. adds z ts) e ∙ adds_is N.Method w no_span (one r) ts) ∙ ap (λ l. Node N.Method w q (Cons r l)) (add_is_join ts v)

method_head : {t : Tree} {x y : List PlacedToken} → IsHead N.Field t x y → IsHead N.Method (turned N.Method t) x y
method_head g = let r = parted g.3 in let q = parted r.2 in (g.0, g.1, ap (λ z. turned N.Method z) g.2, link r.1 (link (made Choice.type_result q.1) q.2))

step : {r : Rule} {qs : List Symbol} → Move r qs → (b : Entry) (s : Below) (xs : List PlacedToken) → Follows qs b s xs (Result r b s xs)
step Move.expr b s xs = λ v m h. λ w n k. (_, refl, refl, k h)
step Move.cond (At x c) s xs = λ q m1 e1 i1. λ a m2 h2. λ q2 m3 e3 i3. λ d m4 h4. (_, refl, refl, λ g. made Choice.cond (link g (tok e1 i1 (link h2 (tok e3 i3 h4)))))
step Move.no_cond (At x c) s xs = (_, refl, refl, λ g. made Choice.no_cond g)
step (Move.operand u) b s xs = λ v m h. λ w n k. (_, refl, refl, k (made (Choice.tighter u) h))
step (Move.tail u) (At x a) s xs = λ t m e i. λ b n h. λ v l g. (_, refl, refl, λ d. g (made (Choice.joined u) (link d (tok e i h))))
step Move.no_tail (At x a) s xs = (_, refl, refl, λ d. d)
step Move.prefix b s xs = λ t m e i. λ a n h. (_, refl, refl, made Choice.prefix (tok e i h))
step Move.no_prefix b s xs = λ v m h. (_, refl, refl, made Choice.no_prefix h)
step Move.literal b s xs = λ t m e i. λ v n h. (_, refl, refl, h (made Choice.literal (tok e i end)))
step Move.value_word b s xs = λ t m e i. λ v n h. (_, refl, refl, h (made Choice.value_word (tok e i end)))
step Move.name b s xs = λ t m e i. λ v n h. λ w l k. (_, refl, refl, k (h ((written t.token), refl, tok e i end)))
step Move.parentheses b s xs = λ t m e i. λ v n h. λ u l f j. λ w o k. (_, refl, refl, k (made Choice.parentheses (tok e i (link h (tok f j end)))))
step Move.new b s xs = λ t m e i. λ v n h. (_, refl, refl, h (refl, tok e i end))
step Move.called (At x a) s xs = λ t m e i. λ v n h. λ u l f j. (_, refl, refl, λ g. made Choice.call (call_tree g (tok e i end) h (tok f j end)))
step Move.not_called (At x a) s xs = (_, refl, refl, λ g. subst (λ z. Reads (Part.Open z) x xs) (sym g.1) (made Choice.name g.2))
step Move.args (At x a) s xs = λ v m h. λ w n k. (_, refl, refl, (Cons v k.0, k.1, made Choice.args (link h k.2)))
step Move.no_args (At x a) s xs = (_, refl, refl, (Nil, refl, made Choice.no_args end))
step Move.more_args (At x a) s xs = λ t m0 e i. λ v m h. λ w n k. (_, refl, refl, (Cons v k.0, k.1, made Choice.more_args (tok e i (link h k.2))))
step Move.no_more_args (At x a) s xs = (_, refl, refl, (Nil, refl, made Choice.no_more_args end))
step Move.dot (At x a) s xs = λ t m e i. λ u n f j. λ v o h. λ w l k. (_, refl, refl, λ g. k (h ((written u.token), a, refl, link (made Choice.open_form g) (tok e i (tok f j end)))))
step Move.index (At x a) s xs = λ t m e i. λ v n h. λ u o f j. λ w l k. (_, refl, refl, λ g. k (made Choice.index (link g (tok e i (link h (tok f j end))))))
step Move.no_post (At x a) s xs = (_, refl, refl, λ g. made Choice.open_form g)
step Move.dot_call (At x a) s xs = λ t m e i. λ v n h. λ u l f j. (_, refl, refl, λ g. made Choice.call (dotted_tree g (tok e i end) h (tok f j end)))
step Move.dot_name (At x a) s xs = (_, refl, refl, λ g. dot_tree g)
step Move.new_name (At x a) s xs = λ t m e i. λ v n h. (_, refl, refl, λ g. h (g, (written t.token), refl, tok e i.0 end))
step Move.new_word (At x a) s xs = λ t m e i. λ v n h. λ w l k. (_, refl, refl, λ g. k (array_tree g (made Choice.base_word (tok e i end)) h))
step Move.new_call b (Ground cs) xs = λ t m e i. λ v n h. λ u l f j. λ w o k. (_, refl, refl, tt)
step Move.new_call (At y p) (On (At x a) s) xs = λ t m e i. λ v n h. λ u l f j. λ w o k. (_, refl, refl, λ g. k (made Choice.call (new_tree g (tok e i end) h (tok f j end))))
step Move.new_array b (Ground cs) xs = λ v n h. λ w o k. (_, refl, refl, tt)
step Move.new_array (At y p) (On (At x a) s) xs = λ v n h. λ w o k. (_, refl, refl, λ g. k (array_tree g.0 (base_of_name (At y p) (At x a) xs g) h))
step Move.sizes (At x a) s xs = λ t m e i. λ v n h. λ u o f j. λ w l k. (_, refl, refl, (Cons v k.0, k.1, made Choice.sizes (tok e i (link h (tok f j k.2)))))
step Move.more_sizes (At x a) s xs = λ w l k. (_, refl, refl, (k.0, k.1, made Choice.more_sizes k.2))
step Move.no_more_sizes (At x a) s xs = (_, refl, refl, (Nil, refl, made Choice.no_more_sizes end))
step Move.fresh_dot (At x a) s xs = λ t m e i. λ u n f j. λ v o h. λ w l k. (_, refl, refl, λ g. k (h ((written u.token), a, refl, link (made Choice.array_form g) (tok e i (tok f j end)))))
step Move.no_fresh_dot (At x a) s xs = (_, refl, refl, λ g. made Choice.array_form g)
step Move.simple_name b s xs = λ t m e i. λ v n h. (_, refl, refl, h ((written t.token), refl, tok e i end))
step Move.simple_other b s xs = λ v m h. (_, refl, refl, h)
step Move.name_called (At x a) s xs = λ t m e i. λ v n h. λ u l f j. λ w o k. (_, refl, refl, λ g. k (call_tree g (tok e i end) h (tok f j end)))
step Move.name_place (At x a) s xs = λ v m h. (_, refl, refl, λ g. h (place_of_name g))
step Move.other_prefix b s xs = λ t m e i. λ a n h. onwards xs _ (On b s) n (Unit {0}) (Result Rule.Other b s xs) (λ p. made Choice.prefix (tok e i h)) (λ v ys f. (_, refl, refl, f tt))
step Move.other_literal b s xs = λ t m e i. λ v n h. (_, refl, refl, h (made Choice.literal (tok e i end)))
step Move.other_parentheses b s xs = λ t m e i. λ v n h. λ u l f j. λ w o k. (_, refl, refl, k (made Choice.parentheses (tok e i (link h (tok f j end)))))
step Move.other_value b s xs = λ t m e i. λ v n h. (_, refl, refl, h (made Choice.value_word (tok e i end)))
step Move.other_new b s xs = λ t m e i. λ v n h. (_, refl, refl, h (refl, tok e i end))
step Move.stmt_new_name (At x a) s xs = λ t m e i. λ v n h. (_, refl, refl, λ g. h (g, (written t.token), refl, tok e i.0 end))
step Move.stmt_new_word (At x a) s xs = λ t m e i. λ v n h. λ w l k. (_, refl, refl, λ g. k (array_tree g (made Choice.base_word (tok e i end)) h))
step Move.stmt_new_call b (Ground cs) xs = λ t m e i. λ v n h. λ u l f j. λ w o k. (_, refl, refl, tt)
step Move.stmt_new_call (At y p) (On (At x a) s) xs = λ t m e i. λ v n h. λ u l f j. λ w o k. (_, refl, refl, λ g. k (new_tree g (tok e i end) h (tok f j end)))
step Move.stmt_new_array b (Ground cs) xs = λ v n h. λ w o k. (_, refl, refl, tt)
step Move.stmt_new_array (At y p) (On (At x a) s) xs = λ v n h. λ w o k. (_, refl, refl, λ g. k (array_tree g.0 (base_of_name (At y p) (At x a) xs g) h))
step Move.place_index (At x a) s xs = λ t m e i. λ v n h. λ u o f j. λ w l k. (_, refl, refl, λ g. k (made Choice.place_index (link g (tok e i (link h (tok f j end))))))
step Move.place_bare (At x a) s xs = λ v m h. (_, refl, refl, h)
step Move.set (At x a) s xs = λ t m e i. λ v n h. (_, refl, refl, λ g. made Choice.set (link g (tok e i h)))
step Move.count (At x a) s xs = λ t m e i. (_, refl, refl, λ g. made Choice.count (link g (tok e i end)))
step Move.bare_dot (At x a) s xs = λ t m e i. λ u n f j. λ v o h. (_, refl, refl, λ g. h ((written u.token), a, refl, link (made Choice.open_form (place_open g)) (tok e i (tok f j end))))
step Move.bare_onward (At x a) s xs = onwards x a s xs (Reads (Part.Place a) x xs) (Result Rule.Bare (At x a) s xs) (λ g. prefixed (place_open g)) (λ v ys f. (_, refl, refl, f))
step Move.call_index (At x a) s xs = λ t m e i. λ v n h. λ u o f j. λ w l k. (_, refl, refl, λ g. k (made Choice.index (link (made Choice.call g) (tok e i (link h (tok f j end))))))
step Move.call_dot (At x a) s xs = λ t m e i. λ u n f j. λ v o h. (_, refl, refl, λ g. h ((written u.token), a, refl, link (made Choice.open_form (made Choice.call g)) (tok e i (tok f j end))))
step Move.call_onward (At x a) s xs = onwards x a s xs (Reads (Part.Call a) x xs) (Result (Rule.Rest Form.Call) (At x a) s xs) (λ g. prefixed (made Choice.call g)) (λ v ys f. (_, refl, refl, f))
step Move.run (At x a) s xs = (_, refl, refl, λ g. made Choice.run g)
step Move.free_index (At x a) s xs = λ t m e i. λ v n h. λ u o f j. λ w l k. (_, refl, refl, λ g. k (made Choice.index (link g (tok e i (link h (tok f j end))))))
step Move.free_dot (At x a) s xs = λ t m e i. λ u n f j. λ v o h. (_, refl, refl, λ g. h ((written u.token), a, refl, link (made Choice.open_form g) (tok e i (tok f j end))))
step Move.free_onward (At x a) s xs = onwards x a s xs (Reads (Part.Open a) x xs) (Result (Rule.Rest Form.Free) (At x a) s xs) (λ g. prefixed g) (λ v ys f. (_, refl, refl, f))
step Move.array_dot (At x a) s xs = λ t m e i. λ u n f j. λ v o h. (_, refl, refl, λ g. h ((written u.token), a, refl, link (made Choice.array_form g) (tok e i (tok f j end))))
step Move.array_onward (At x a) s xs = onwards x a s xs (Reads (Part.Array a) x xs)
    (Result (Rule.Rest Form.Fresh) (At x a) s xs) (λ g. made Choice.no_prefix
    (made Choice.array_form g)) (λ v ys f. (_, refl, refl, f))
step Move.dotted_call (At x a) s xs = λ t m e i. λ v n h. λ u l f j. λ w o k. (_, refl, refl, λ g. k (dotted_tree g (tok e i end) h (tok f j end)))
step Move.dotted_name (At x a) s xs = λ w o k. (_, refl, refl, λ g. k (dot_tree g))
step Move.type_name b s xs = λ t m e i. λ v n h. (_, refl, refl, h (made Choice.just_base (made Choice.base_name (tok e i.0 end))))
step Move.type_word b s xs = λ t m e i. λ v n h. (_, refl, refl, h (made Choice.just_base (made Choice.base_word (tok e i end))))
step Move.dims (At x a) s xs = λ t m e i. λ u n f j. λ v l h. (_, refl, refl, λ g. h (made Choice.array_of (link g (tok e i (tok f j end)))))
step Move.no_dims (At x a) s xs = (_, refl, refl, λ g. g)
step Move.init b s xs = λ v m h. (_, refl, refl, made Choice.init_expr h)
step Move.braces b s xs = λ t m e i. λ v n h. λ u l f j. (
  _,
  refl,
  refl,
  subst (λ z. Reads (Part.Init z) xs l) (sym (closed N.Braces [] no_span
      (between xs l) Nil h.0 v h.1)) (made Choice.init_braces (tok e i (link h.2 (tok f j end)))),
)
step Move.inits (At x a) s xs = λ v m h. λ w n k. (_, refl, refl, (Cons v k.0, k.1, made Choice.inits (link h k.2)))
step Move.no_inits (At x a) s xs = (_, refl, refl, (Nil, refl, made Choice.no_inits end))
step Move.more_inits (At x a) s xs = λ t m0 e i. λ v m h. λ w n k. (_, refl, refl, (Cons v k.0, k.1, made Choice.more_inits (tok e i (link h k.2))))
step Move.no_more_inits (At x a) s xs = (_, refl, refl, (Nil, refl, made Choice.no_more_inits end))
step Move.block b s xs = λ t m e i. λ v n h. λ u l f j. (
  _,
  refl,
  refl,
  subst (λ z. Reads (Part.Block z) xs l) (sym (closed N.Block [] no_span
      (between xs l) Nil h.0 v h.1)) (made Choice.block (tok e i (link h.2 (tok f j end)))),
)
step Move.stmts (At x a) s xs = λ v m h. λ w n k. (_, refl, refl, (Cons v k.0, k.1, made Choice.stmts (link h k.2)))
step Move.no_stmts (At x a) s xs = (_, refl, refl, (Nil, refl, made Choice.no_stmts end))
step Move.stmt_block b s xs = λ v m h. (_, refl, refl, made Choice.block_stmt h)
step Move.stmt_final b s xs = λ t m e i. λ v n h. λ u o f j. λ w l k. (_, refl, refl, k ((written u.token), v, refl, link (made Choice.final (tok e i end)) (link h (tok f j end))))
step Move.stmt_word b s xs = λ t m e i. λ v n h. λ u o f j. λ w l k.
    (_, refl, refl, k ((written u.token), v, refl, link (made Choice.not_final end) (link (h (made Choice.just_base (made Choice.base_word (tok e i end)))) (tok f j end))))
step Move.stmt_name b s xs = λ t m e i. λ v n h. (_, refl, refl, h ((written t.token), refl, tok e i.0 end))
step Move.stmt_other b s xs = λ v m h. λ t n e i. (_, refl, refl, made Choice.simple_stmt (link h (tok e i end)))
step Move.stmt_return b s xs = λ t m e i. λ v n h. (_, refl, refl, made Choice.return_stmt (h refl (tok e i end)))
step Move.stmt_if b s xs = λ t1 m1 e1 i1. λ t2 m2 e2 i2. λ c m3 h3. λ t4 m4 e4 i4. λ d m5 h5. λ v m6 h6. (
  _,
  refl,
  refl,
  subst (λ z. Reads (Part.Stmt z) xs m6) (sym (closed N.If [] no_span (between xs m6) (Cons c (Cons d h6.0)) h6.1 v (h6.2 ∙ ap (λ z. adds z h6.1) (adds_is N.If [] no_span (two c d) h6.0))))
      (made Choice.if_stmt (tok e1 i1 (tok e2 i2 (link h3 (tok e4 i4 (link h5 h6.3)))))),
)
step Move.stmt_while b s xs = λ t1 m1 e1 i1. λ t2 m2 e2 i2. λ c m3 h3. λ t4 m4 e4 i4. λ d m5 h5. (_, refl, refl, made Choice.while_stmt (tok e1 i1 (tok e2 i2 (link h3 (tok e4 i4 h5)))))
step Move.stmt_for b s xs = λ t1 m1 e1 i1. λ t2 m2 e2 i2. λ f m3 h3. λ t4 m4 e4 i4. λ c m5 h5. λ t6 m6 e6 i6. λ p m7 h7. λ t8 m8 e8 i8. λ d m9 h9. (
  _,
  refl,
  refl,
  made Choice.for_stmt (tok e1 i1 (tok e2 i2
      (link (h3 t4.place (ap from_of e4)) (tok e4 (
        i4,
        refl,
      ) (link (h5 t6.place (ap from_of e6)) (tok e6 (
        i6,
        refl,
      ) (link (h7 t8.place (ap from_of e8)) (tok e8 (i8, refl) h9)))))))),
)
step Move.stmt_empty b s xs = λ t m e i. (_, refl, refl, made Choice.empty_stmt (tok e i end))
step (Move.then_name {d = Site.Alone}) (At x a) s xs = λ t m e i. λ v n h. (
  _,
  refl,
  refl,
  λ g. h (
    (written t.token),
    turned N.Plain a,
    refl,
    link (made Choice.not_final end) (link (type_of_name g) (tok e i end)),
  ),
)
step (Move.then_name {d = Site.Loop}) (At x a) s xs = λ t m e i. λ v n h. (_, refl, refl, λ g. h ((written t.token), turned N.Plain a, refl, link (type_of_name g) (tok e i end)))
step Move.then_bracket (At x a) s xs = λ t m e i. λ v n h. (_, refl, refl, λ g. h xs g (tok e i end))
step (Move.then_called {d = d}) (At x a) s xs = λ t m e i. λ v n h. λ u l f j. λ w o k.
    site_end d x w s o (IsName a x xs) (Result (Rule.NameThen d) (At x a) s xs) (λ g. k (call_tree g (tok e i end) h (tok f j end))) (λ zs q. (_, refl, refl, q))
step (Move.then_bare {d = d}) (At x a) s xs = λ v m h. site_end d x v s m (IsName a x xs) (Result (Rule.NameThen d) (At x a) s xs) (λ g. h (place_of_name g)) (λ zs q. (_, refl, refl, q))
step (Move.then_dims {d = Site.Alone}) (At x a) s xs = λ t m e i. λ v n h. λ u o f j. λ w l k.
    (_, refl, refl, λ m0 g q. k ((written u.token), v, refl, link (made Choice.not_final end) (link (h (made Choice.array_of (link (type_of_name g) (link q (tok e i end))))) (tok f j end))))
step (Move.then_dims {d = Site.Loop}) (At x a) s xs = λ t m e i. λ v n h. λ u o f j. λ w l k.
    (_, refl, refl, λ m0 g q. k ((written u.token), v, refl, link (h (made Choice.array_of (link (type_of_name g) (link q (tok e i end))))) (tok f j end)))
step (Move.then_index {d = d}) (At x a) s xs = λ v n h. λ t m e i. λ w l k.
    site_end d x w s l ((m0 : List PlacedToken) × IsName a x m0
    × Reads (Part.Sign_ (codes "[")) m0 xs) (Result (Rule.BracketThen d) (At x a) s xs)
    (λ p. k (made Choice.place_index (link (place_of_name p.1)
    (link p.2 (link h (tok e i end)))))) (λ zs q. (_, refl, refl, λ m0 g r. q (m0, g, r)))
step Move.declared (At x a) s xs = λ t m e i. (
  _,
  refl,
  refl,
  λ g. subst (λ z. Reads (Part.Stmt (spanned (between x m) z)) x m) (sym g.2)
      (made Choice.local (then g.3 (link (made Choice.no_init end) (tok e i end)))),
)
step Move.declared_init (At x a) s xs = λ t m e i. λ v n h. λ u l f j.
    (_, refl, refl, λ g. subst (λ z. Reads (Part.Stmt (spanned (between x l) (add z v))) x l) (sym g.2) (made Choice.local (then g.3 (link (made Choice.some_init (tok e i h)) (tok f j end)))))
step Move.declared_loop (At x a) s xs = λ t m e i. λ v n h.
    (_, refl, refl, λ g q. subst (λ z. Reads (Part.First (spanned (between x n) (add z v)) q) x n) (sym g.2) (made Choice.first_local (then g.3 (tok e i h))))
step Move.return_none (At x a) s xs = λ t m e i. (_, refl, refl, λ q g. subst (λ z. Reads (Part.Returning (spanned (between x m) z)) x m) (sym q) (made Choice.return_nothing (link g (tok e i end))))
step Move.return_value (At x a) s xs = λ v n h. λ t m e i.
    (_, refl, refl, λ q g. subst (λ z. Reads (Part.Returning (spanned (between x m) (add z v))) x m) (sym q) (made Choice.return_value (link g (link h (tok e i end)))))
step Move.else_tail (At x a) s xs = λ t m e i. λ v n h. (_, refl, refl, h xs (tok e i end))
step Move.no_else (At x a) s xs = (_, refl, refl, (Nil, Nil, refl, link (made Choice.no_else_if end) (made Choice.no_else end)))
step Move.else_if (At x a) s xs = λ t1 m1 e1 i1. λ t2 m2 e2 i2. λ c m3 h3. λ t4 m4 e4 i4. λ d m5 h5. λ v m6 h6.
    (_, refl, refl, λ y g. let r = parted h6.3 in (Cons c (Cons d h6.0), h6.1, h6.2, link (made Choice.else_if (link g (tok e1 i1 (tok e2 i2 (link h3 (tok e4 i4 (link h5 r.1))))))) r.2))
step Move.otherwise (At x a) s xs = λ v m h. (_, refl, refl, λ y g. (Nil, one v, refl, link (made Choice.no_else_if end) (made Choice.otherwise (link g h))))
step Move.body_block b s xs = λ v m h. (_, refl, refl, made Choice.body_block h)
step Move.body_simple b s xs = λ v m h. λ t n e i. (_, refl, refl, made Choice.body_simple (link h (tok e i end)))
step Move.body_return b s xs = λ t m e i. λ v n h. (_, refl, refl, made Choice.body_return (h refl (tok e i end)))
step Move.first_word b s xs = λ t m e i. λ v n h. λ u o f j. λ w l k.
    (_, refl, refl, λ q z. k ((written u.token), v, refl, link (h (made Choice.just_base (made Choice.base_word (tok e i end)))) (tok f j end)) q)
step Move.first_name b s xs = λ t m e i. λ v n h. (_, refl, refl, λ q z. h ((written t.token), refl, tok e i.0 end) q)
step Move.first_other b s xs = λ v m h. (_, refl, refl, λ q z. made Choice.first_simple h)
step Move.no_first b s xs = (_, refl, refl, λ q z. subst (λ n. Reads (Part.First (absent (from_of xs)) n) xs xs) z (made Choice.no_first end))
step Move.test b s xs = λ v m h. (_, refl, refl, λ q z. made Choice.test h)
step Move.no_test b s xs = (_, refl, refl, λ q z. subst (λ n. Reads (Part.Test (absent (from_of xs)) n) xs xs) z (made Choice.no_test end))
step Move.step b s xs = λ v m h. (_, refl, refl, λ q z. made Choice.step h)
step Move.no_step b s xs = (_, refl, refl, λ q z. subst (λ n. Reads (Part.Step (absent (from_of xs)) n) xs xs) z (made Choice.no_step end))
step Move.file b s xs = λ p m0 h0. λ i m1 h1. λ c m2 h2. λ cs m3 h3. (h2.0 ∷ cs, refl, add_twice s c cs ∙ ap (λ l. add_classes s (l ++ cs)) h2.1, made Choice.file (link h0 (link h1 (link h2.2 h3))))
step Move.package_line b s xs = λ t m e i. λ v n h. λ u l f j. (tt, refl, refl, made Choice.package_line (tok e i (link h (tok f j end))))
step Move.no_package b s xs = (tt, refl, refl, made Choice.no_package end)
step Move.path b s xs = λ t m e i. λ v n h. (tt, refl, refl, made Choice.path (tok e i h))
step Move.more_path b s xs = λ t m e i. λ u n f j. λ v l h. (tt, refl, refl, made Choice.more_path (tok e i (tok f j h)))
step Move.no_more_path b s xs = (tt, refl, refl, made Choice.no_more_path end)
step Move.imports b s xs = λ t m e i. λ v1 m1 h1. λ u m2 f j. λ v3 m3 h3. λ w m4 g k. λ v5 m5 h5.
    (tt, refl, refl, let r = parted h3 in made Choice.imports (link (made Choice.import_line (tok e i (link h1 (link (made Choice.path (tok f j r.1)) (link r.2 (tok g k end)))))) h5))
step Move.no_imports b s xs = (tt, refl, refl, made Choice.no_imports end)
step Move.static b s xs = λ t m e i. (tt, refl, refl, made Choice.static_import (tok e i end))
step Move.not_static b s xs = (tt, refl, refl, made Choice.no_static end)
step Move.import_more b s xs = λ t m e i. λ v n h. (tt, refl, refl, h xs (tok e i end))
step Move.no_import_more b s xs = (tt, refl, refl, link (made Choice.no_more_path end) (made Choice.not_all end))
step Move.import_name b s xs = λ t m e i. λ v n h. (tt, refl, refl, λ x g. let r = parted h in link (made Choice.more_path (link g (tok e i r.1))) r.2)
step Move.import_all b s xs = λ t m e i. (tt, refl, refl, λ x g. link (made Choice.no_more_path end) (made Choice.all (link g (tok e i end))))
step Move.classes b s xs = λ c m h. λ cs n k. (h.0 ∷ cs, refl, add_twice s c cs ∙ ap (λ l. add_classes s (l ++ cs)) h.1, made Choice.more_classes (link h.2 k))
step Move.no_classes b s xs = ([], refl, add_none s, made Choice.no_classes end)
step Move.class b s xs = λ v m h. λ t n e i. λ k l g. (k ∷ [], refl, refl, (k, refl, g refl (link h (tok e i end))))
step Move.mods b s xs = λ t m e i. λ v n h. (tt, refl, refl, made Choice.mods (tok e i h))
step Move.no_mods b s xs = (tt, refl, refl, made Choice.no_mods end)
step Move.declares_field (At x a) s xs = λ t m e i. (
  _,
  refl,
  refl,
  λ g. subst (λ z. Reads (Part.Member (spanned (between x m) z)) x m) (sym g.2)
      (made Choice.field (then g.3 (link (made Choice.no_init end) (tok e i end)))),
)
step Move.declares_value (At x a) s xs = λ t m e i. λ v n h. λ u l f j.
    (_, refl, refl, λ g. subst (λ z. Reads (Part.Member (spanned (between x l) (add z v))) x l) (sym g.2) (made Choice.field (then g.3 (link (made Choice.some_init (tok e i h)) (tok f j end)))))
step Move.declares_method (At x a) s xs = λ v m h. (_, refl, refl, λ g. h (method_head g))
step Move.method_rest (At x a) s xs = λ t m e i. λ p n h. λ u l f j. λ v o k.
    (_, refl, refl, λ g. subst (λ z. Reads (Part.Member z) x o) (sym (method_tree v h.0 (between x o) g.2 h.1)) (made Choice.method (then g.3 (tok e i (link h.2 (tok f j k))))))
step Move.params (At x a) s xs = λ v m h. λ w n k. (_, refl, refl, (Cons v k.0, k.1, made Choice.params (link h k.2)))
step Move.no_params (At x a) s xs = (_, refl, refl, (Nil, refl, made Choice.no_params end))
step Move.more_params (At x a) s xs = λ t m0 e i. λ v m h. λ w n k. (_, refl, refl, (Cons v k.0, k.1, made Choice.more_params (tok e i (link h k.2))))
step Move.no_more_params (At x a) s xs = (_, refl, refl, (Nil, refl, made Choice.no_more_params end))
step Move.param b s xs = λ f m0 h0. λ v m h. λ t n e i. (_, refl, refl, made Choice.param (link h0 (link h (tok e i end))))
step Move.final b s xs = λ t m e i. (tt, refl, refl, made Choice.final (tok e i end))
step Move.not_final b s xs = (tt, refl, refl, made Choice.not_final end)
step Move.kernel_opening b s xs = λ f m0 h0. λ t m e i. λ v n h. (_, refl, refl, h (_, refl, link h0 (handed_tree e i)))
step Move.manager_opening b s xs = λ f m0 h0. λ t m e i. λ v n h. (_, refl, refl, h (_, refl, link h0 (handed_tree e i)))
step Move.kernel_opened b (Ground cs) xs = λ v m h. (_, refl, refl, tt)
step Move.kernel_opened (At y q) (On (At x a) s) xs = λ v m h. (_, refl, refl, λ p g. (Cons (spanned (between y xs) q) h.0, h.1, made Choice.kernel_opening (link (handed_by ClassKind.Kernel g) h.2)))
step Move.manager_opened b (Ground cs) xs = (_, refl, refl, tt)
step Move.manager_opened (At y q) (On (At x a) s) xs = (_, refl, refl, λ p g. (one (spanned (between y xs) q), refl, made Choice.manager_opening (handed_by ClassKind.Manager g)))
step Move.super_rest b (Ground cs) xs = λ t1 m1 e1 i1. λ t2 m2 e2 i2. λ v m3 h3. λ t4 m4 e4 i4. (_, refl, refl, tt)
step Move.super_rest (At y q) (On (At x a) s) xs = λ t1 m1 e1 i1. λ t2 m2 e2 i2. λ v m3 h3. λ t4 m4 e4 i4. (
  _,
  refl,
  refl,
  λ p f g. (
    spanned (between y m4) v,
    refl,
    subst (λ z. Reads (Part.CtorBlock p z) y m4) (sym (closed N.Block [] no_span
        (between y m4) Nil h3.0 v (h3.1 ∙ ap (λ z. adds z h3.0) f)))
        (made Choice.ctor_block (then g (tok e1 i1 (tok e2 i2 (link h3.2 (tok e4 i4 end)))))),
  ),
)
step Move.type_memory b s xs = λ t m e i. λ v n h. λ w l k. (_, refl, refl, k (made Choice.just_base (h (ap (λ z. Node N.Plain (written z) (between xs m) Nil) i, tok e i end))))
step Move.memory_type (At x a) s xs = λ t1 m1 e1 i1. λ t2 m2 e2 i2. λ t3 m3 e3 i3. (_, refl, refl, λ g. memory_base g (tok e1 i1 end) (tok e2 i2 end) (tok e3 i3 end))
step Move.no_memory_type (At x a) s xs = (_, refl, refl, λ g. subst (λ z. Reads (Part.Base z) x xs) (sym g.0) (made Choice.base_name (word_id refl g.1)))
step Move.new_memory (At x a) s xs = λ t m e i. λ v n h. (_, refl, refl, λ g. h g (ap (λ z. Node N.Plain (written z) (between xs m) Nil) i, tok e i end))
step Move.new_memories b (Ground cs) xs = λ t1 m1 e1 i1. λ t2 m2 e2 i2. λ t3 m3 e3 i3. λ v n h. λ w o k. (_, refl, refl, tt)
step Move.new_memories (At y p) (On
    (At x a) s) xs = λ t1 m1 e1 i1. λ t2 m2 e2 i2. λ t3 m3 e3 i3. λ v n h. λ w o k. (
      _,
      refl,
      refl,
      λ g q. k (array_tree g (memory_base q (tok e1 i1 end) (tok e2 i2 end) (tok e3 i3 end)) h),
    )
step Move.new_plain_memory b (Ground cs) xs = λ v m h. (_, refl, refl, tt)
step Move.new_plain_memory (At y p) (On (At x a) s) xs = λ v m h. (_, refl, refl, λ g q. h (g, codes "Memory", q.0, word_id refl q.1))
step Move.stmt_new_memory (At x a) s xs = λ t m e i. λ v n h. (_, refl, refl, λ g. h g (ap (λ z. Node N.Plain (written z) (between xs m) Nil) i, tok e i end))
step Move.stmt_new_memories b (Ground cs) xs = λ t1 m1 e1 i1. λ t2 m2 e2 i2. λ t3 m3 e3 i3. λ v n h. λ w o k. (_, refl, refl, tt)
step Move.stmt_new_memories (At y p) (On
    (At x a) s) xs = λ t1 m1 e1 i1. λ t2 m2 e2 i2. λ t3 m3 e3 i3. λ v n h. λ w o k. (
      _,
      refl,
      refl,
      λ g q. k (array_tree g (memory_base q (tok e1 i1 end) (tok e2 i2 end) (tok e3 i3 end)) h),
    )
step Move.stmt_new_plain_memory b (Ground cs) xs = λ v m h. (_, refl, refl, tt)
step Move.stmt_new_plain_memory (At y p) (On (At x a) s) xs = λ v m h. (_, refl, refl, λ g q. h (g, codes "Memory", q.0, word_id refl q.1))
step Move.stmt_memory b s xs = λ t m e i. λ v n h. (_, refl, refl, h (ap (λ z. Node N.Name (written z) (between xs m) Nil) i, tok e i end))
step Move.first_memory b s xs = λ t m e i. λ v n h. (_, refl, refl, λ q z. h (ap (λ z. Node N.Name (written z) (between xs m) Nil) i, tok e i end) q)
step (Move.memory_name {d = Site.Alone}) (At x a) s xs = λ t m e i. λ v n h. (
  _,
  refl,
  refl,
  λ g. h (
    written t.token,
    turned N.Plain a,
    refl,
    link (made Choice.not_final end) (link (type_of_name (name_of refl g)) (tok e i end)),
  ),
)
step (Move.memory_name {d = Site.Loop}) (At x a) s xs = λ t m e i. λ v n h. (_, refl, refl, λ g. h (written t.token, turned N.Plain a, refl, link (type_of_name (name_of refl g)) (tok e i end)))
step Move.memory_bracket (At x a) s xs = λ t m e i. λ v n h. (_, refl, refl, λ g. h xs (name_of refl g) (tok e i end))
step (Move.memory_called {d = d}) (At x a) s xs = λ t m e i. λ v n h. λ u l f j. λ w o k.
    site_end d x w s o (IsWordName (codes "Memory") a x xs) (Result (Rule.MemoryThen d) (At x a) s xs) (λ g. k (call_tree (name_of refl g) (tok e i end) h (tok f j end))) (λ zs q. (_, refl, refl, q))
step Move.memory_less (At x a) s xs = λ t m e i. λ v n h. (_, refl, refl, λ g. h (a, xs, ap (λ z. Node N.Binary (written z) no_span (one a)) i, g, tok e i end))
step (Move.memory_bare {d = d}) (At x a) s xs = λ v m h. site_end d x v s m
    (IsWordName (codes "Memory") a x xs) (Result (Rule.MemoryThen d) (At x a) s xs)
    (λ g. h (place_of_name (name_of refl g))) (λ zs q. (_, refl, refl, q))
step Move.less_dfevar (At x a) s xs = λ t m e i. λ v n h. (_, refl, refl, λ g. h g (ap (λ z. Node N.Name (written z) (between xs m) Nil) i, tok e i end))
step (Move.less_other {d = d}) (At x a) s xs = λ o m0 h0. λ v1 m1 h1. λ v2 m2 h2. λ v3 m3 h3.
    ordered_end d x a xs v3 s m3 (IsLess a x xs) (Result (Rule.LessThen d) (At x a) s xs)
    (λ g. less_order g (h3 (made (Choice.tighter Above.shifts)
    (h2 (made (Choice.tighter Above.sums) (h1 (made
    (Choice.tighter Above.products) h0))))))) (λ v ys q. (_, refl, refl, q))
step Move.dfevar_greater b (Ground cs) xs = λ t m e i. λ v n h. (_, refl, refl, tt)
step Move.dfevar_greater (At y q) (On (At x a) s) xs = λ t m e i. λ v n h. (
  _,
  refl,
  refl,
  λ g k. h (
    _,
    xs,
    ap (λ z. Node N.Binary (written z) no_span (one (spanned (between x xs) (add a q)))) i,
    less_order g (up (prefixed (open_of_name (name_of refl k)))),
    tok e i end,
    made Choice.base_memory (link g.3.1 (link g.4 (link k.1 (tok e i end)))),
  ),
)
step (Move.dfevar_further {d = d}) (At y q)
    (Ground cs) xs = λ o m0 h0. λ v1 m1 h1. λ v2 m2 h2. λ v3 m3 h3. ordered_ground d y v3 cs m3
    (Result (Rule.DFEVarThen d) (At y q) (Ground cs) xs) (λ v ys. (_, refl, refl, tt))
step (Move.dfevar_further {d = d}) (At y q) (On (At x a) s) xs = λ o m0 h0. λ v1 m1 h1. λ v2 m2 h2. λ v3 m3 h3.
    ordered_end d x a y v3 s m3 (IsLess a x y × IsWordName (codes "DFEVar") q y xs) (Result (Rule.DFEVarThen d) (At y q) (On (At x a) s) xs)
    (λ p. less_order p.0 (h3 (made (Choice.tighter Above.shifts)
    (h2 (made (Choice.tighter Above.sums) (h1 (made (Choice.tighter Above.products)
    (made Choice.no_prefix (h0 (name_of refl p.1)))))))))) (λ v ys f. (
      _,
      refl,
      refl,
      λ g k. f (g, k),
    ))
step (Move.dfevar_tighter {d = d}) (At y q) (Ground cs) xs = λ o m0 h0. ordered_ground d y o cs m0 (Result (Rule.DFEVarThen d) (At y q) (Ground cs) xs) (λ v ys. (_, refl, refl, tt))
step (Move.dfevar_tighter {d = d}) (At y q) (On (At x a) s) xs = λ o m0 h0.
    ordered_end d x a y o s m0 (IsLess a x y
    × IsWordName (codes "DFEVar") q y xs) (Result (Rule.DFEVarThen d) (At y q)
    (On (At x a) s) xs) (λ p. less_order p.0 (h0 (prefixed
    (open_of_name (name_of refl p.1))))) (λ v ys f. (_, refl, refl, λ g k. f (g, k)))
step (Move.dfevar_order {d = d}) (At y q) (Ground cs) xs = λ t m e i. λ r m1 h1.
    λ v2 m2 h2. looser_end d y v2 (Ground cs) m2 ⊥ (Result (Rule.DFEVarThen d) (At y q) (Ground cs) xs) (λ p. absurd p) (λ v ys k. (_, refl, refl, tt))
step (Move.dfevar_order {d = d}) (At y q) (On (At x a) s) xs = λ t m e i. λ r m1 h1.
    ordered_end d x (Node N.Binary (written t.token) no_span
    (one (spanned (between x xs) (add a q)))) m r s m1 (IsLess a x y
    × IsWordName (codes "DFEVar") q y xs) (Result (Rule.DFEVarThen d) (At y q)
    (On (At x a) s) xs)
    (λ p. made (Choice.joined Above.orders) (link (less_order p.0 (up (prefixed (open_of_name (name_of refl p.1))))) (tok e i.0 h1))) (λ v ys f. (_, refl, refl, λ g k. f (g, k)))
step (Move.dfevar_looser {d = d}) (At y q) (Ground cs) xs = looser_end d y
    (spanned (between y xs) q) (Ground cs) xs ⊥ (Result (Rule.DFEVarThen d) (At y q)
    (Ground cs) xs) (λ p. absurd p) (λ v ys k. (_, refl, refl, tt))
step (Move.dfevar_looser {d = d}) (At y q) (On (At x a) s) xs =
    looser_end d x (spanned (between x xs) (add a q)) s xs (IsLess a x y
    × IsWordName (codes "DFEVar") q y xs) (Result (Rule.DFEVarThen d) (At y q)
    (On (At x a) s) xs) (λ p. less_order p.0 (up (prefixed
    (open_of_name (name_of refl p.1))))) (λ v ys f. (_, refl, refl, λ g k. f (g, k)))
step Move.greater_name (At x a) s xs = λ t m e i. λ v n h. (_, refl, refl, λ g. h g (written t.token, refl, tok e i end))
step (Move.greater_dims {d = Site.Alone}) (At x a) s xs = λ t m e i. λ u n f j. λ v l h. λ w o g k. λ z q r.
    (_, refl, refl, λ p. r (written w.token, v, refl, link (made Choice.not_final end) (link (h (made Choice.array_of (link (made Choice.just_base p.5) (tok e i (tok f j end))))) (tok g k end))))
step (Move.greater_dims {d = Site.Loop}) (At x a) s xs = λ t m e i. λ u n f j. λ v l h. λ w o g k. λ z q r.
    (_, refl, refl, λ p. r (written w.token, v, refl, link (h (made Choice.array_of (link (made Choice.just_base p.5) (tok e i (tok f j end))))) (tok g k end)))
step (Move.greater_other {d = d}) (At x a) s xs = λ o m0 h0. λ v1 m1 h1. λ v2 m2 h2. λ v3 m3 h3.
    ordered_end d x a xs v3 s m3 (IsGreater a x xs) (Result (Rule.GreaterThen d) (At x a) s xs)
    (λ g. greater_order g (h3 (made (Choice.tighter Above.shifts)
    (h2 (made (Choice.tighter Above.sums) (h1 (made
    (Choice.tighter Above.products) h0))))))) (λ v ys q. (_, refl, refl, q))
step Move.memory_declared b (Ground cs) xs = λ v n h. (_, refl, refl, tt)
step (Move.memory_declared {d = Site.Alone}) (At y q) (On (At x a) s) xs = λ v n h.
    (_, refl, refl, λ g k. h (k.0, memory_type x y, ap (λ z. Node N.Local (text_of z) no_span (one (memory_type x y))) k.1, link (made Choice.not_final end) (link (made Choice.just_base g.5) k.2)))
step (Move.memory_declared {d = Site.Loop}) (At y q) (On (At x a) s) xs = λ v n h.
    (_, refl, refl, λ g k. h (k.0, memory_type x y, ap (λ z. Node N.Local (text_of z) no_span (one (memory_type x y))) k.1, link (made Choice.just_base g.5) k.2))
step (Move.memory_further {d = d}) (At y q)
    (Ground cs) xs = λ c m0 h0. λ p m1 h1. λ v2 m2 h2. λ v3 m3 h3. λ v4 m4 h4. ordered_ground d
    y v4 cs m4 (Result (Rule.MemoryName d) (At y q) (Ground cs) xs) (λ v ys. (_, refl, refl, tt))
step (Move.memory_further {d = d}) (At y q) (On (At x a) s) xs = λ c m0 h0. λ p m1 h1. λ v2 m2 h2. λ v3 m3 h3. λ v4 m4 h4.
    ordered_end d x a y v4 s m4 (IsGreater a x y × IsName q y xs) (Result (Rule.MemoryName d) (At y q) (On (At x a) s) xs)
    (λ p. greater_order p.0 (h4 (made (Choice.tighter Above.shifts)
    (h3 (made (Choice.tighter Above.sums) (h2 (made (Choice.tighter Above.products)
    (made Choice.no_prefix (h1 (h0 p.1)))))))))) (λ v ys f. (_, refl, refl, λ g k. f (g, k)))
step Move.memory_set (At x a) s xs = λ t m e i. λ v n h. (_, refl, refl, λ g. made Choice.set (link g (tok e i h)))
step Move.memory_count (At x a) s xs = λ t m e i. (_, refl, refl, λ g. made Choice.count (link g (tok e i end)))
step Move.memory_dot (At x a) s xs = λ t m e i. λ u n f j. λ v o h. (_, refl, refl, λ g. h (written u.token, a, refl, link (made Choice.open_form (place_open g)) (tok e i (tok f j end))))
step Move.memory_tighter (At x a) s xs = λ v m h. λ v4 m4 h4.
    looser_then [] x v4 s m4 (Reads (Part.Place a) x xs) (Result Rule.MemoryBare (At x a) s xs)
    (λ g. h4 (made (Choice.tighter Above.orders) (h (prefixed (place_open g)))))
    (λ v ys f. (_, refl, refl, f))
step Move.memory_order (At x a) s xs = λ t m e i. λ r m1 h1. λ v4 m4 h4.
    looser_then [] x v4 s m4 (Reads (Part.Place a) x xs) (Result Rule.MemoryBare (At x a) s xs)
    (λ g. h4 (made (Choice.joined Above.orders) (link
    (made (Choice.tighter Above.orders) (up (prefixed (place_open g)))) (tok e i.0 h1))))
    (λ v ys f. (_, refl, refl, f))
step Move.memory_looser (At x a) s xs = looser_then [] x a s xs (Reads (Part.Place a) x xs)
    (Result Rule.MemoryBare (At x a) s xs) (λ g. made (Choice.tighter Above.orders)
    (up (prefixed (place_open g)))) (λ v ys f. (_, refl, refl, f))
step Move.other_name b s xs = λ t m e i. λ c m1 h1. λ p m2 h2. (_, refl, refl, made Choice.no_prefix (h2 (h1 (written t.token, refl, tok e i.0 end))))
step Move.other_nameless b s xs = λ v m h. (_, refl, refl, h)
step Move.nameless_prefix b s xs = λ t m e i. λ a n h. (_, refl, refl, made Choice.prefix (tok e i h))
step Move.nameless_literal b s xs = λ t m e i. λ v n h. (_, refl, refl, made Choice.no_prefix (h (made Choice.literal (tok e i end))))
step Move.nameless_value b s xs = λ t m e i. λ v n h. (_, refl, refl, made Choice.no_prefix (h (made Choice.value_word (tok e i end))))
step Move.nameless_parentheses b s xs = λ t m e i. λ v n h. λ u l f j. λ w o k. (_, refl, refl, made Choice.no_prefix (k (made Choice.parentheses (tok e i (link h (tok f j end))))))
step Move.nameless_new b s xs = λ t m e i. λ v n h. (_, refl, refl, made Choice.no_prefix (h (refl, tok e i end)))
step Move.further_called (At x a) s xs = λ t m e i. λ v n h. λ u l f j. λ w o k. (_, refl, refl, λ g. k (made Choice.call (call_tree g (tok e i end) h (tok f j end))))
step Move.further_dot (At x a) s xs = λ t m e i. λ u n f j. λ v o h. λ w l k. (
  _,
  refl,
  refl,
  λ g. k (h (
    written u.token,
    a,
    refl,
    link (made Choice.open_form (open_of_name g)) (tok e i (tok f j end)),
  )),
)
step Move.further_index (At x a) s xs = λ t m e i. λ v n h. λ u o f j. λ w l k. (_, refl, refl, λ g. k (made Choice.index (link (open_of_name g) (tok e i (link h (tok f j end))))))
step Move.tighter_product (At x a) s xs = λ t m e i. λ r n h. λ v1 m1 h1. λ v2 m2 h2. λ v3 m3 h3. (
  _,
  refl,
  refl,
  λ g. h3 (made (Choice.tighter Above.shifts)
      (h2 (made (Choice.tighter Above.sums) (h1 (made (Choice.joined Above.products)
      (link (made (Choice.tighter Above.products) g) (tok e i h))))))),
)
step Move.tighter_sum (At x a) s xs = λ t m e i. λ r n h. λ v2 m2 h2. λ v3 m3 h3.
    (_, refl, refl, λ g. h3 (made (Choice.tighter Above.shifts) (h2 (made (Choice.joined Above.sums) (link (made (Choice.tighter Above.sums) (made (Choice.tighter Above.products) g)) (tok e i h))))))
step Move.tighter_shift (At x a) s xs = λ t m e i. λ r n h. λ v3 m3 h3. (_, refl, refl, λ g. h3 (made (Choice.joined Above.shifts) (link (up g) (tok e i h))))

-- the same of the rules that speak of names

own_name : (i : Inside) (w : List ℕ) → true ≡ is_own i w → (i.unmade ≡ true) × (w ≡ i.class)
own_name i w e = (and_left i.unmade _ (sym e), bytes_same w i.class (and_right i.unmade _ (sym e)))

ctor_tree : (i : Inside) (w : List ℕ) (p q v : Tree) (x y : List PlacedToken) (kids : Trees)
    → q ≡ fresh N.Field [] → p ≡ Node N.Plain w (between x y) Nil → w ≡ i.class → (at : Span)
    → v ≡ spanned at (adds (turned N.Ctor (with_text (text_of p) q)) kids)
    → v ≡ Node N.Ctor i.class at kids
ctor_tree i w p q v x y kids e f g at h =
    h ∙ ap (λ z. spanned at (adds (turned N.Ctor (with_text (text_of z) q)) kids)) f ∙ ap
    (λ z. spanned at (adds (turned N.Ctor (with_text w z)) kids)) e ∙ ap
    (λ c. spanned at (adds (fresh N.Ctor c) kids)) g ∙ ap (λ z. spanned at z)
    (adds_is N.Ctor i.class no_span Nil kids)

class_mean : {w : List ℕ} {a : Tree} {x xs n : List PlacedToken} {k : ClassTree}
    {t u : PlacedToken} {m : List PlacedToken} → xs ≡ t ∷ m → (t.token ≡ Token.Word w)
    × (is_name w ≡ true) → m ≡ u ∷ n → u.token ≡ Token.Word (codes "extends")
    → (ys : List PlacedToken) → (with_text (written t.token) a ≡ fresh N.Class w
    → Seg (Part.Mods ∷ Part.Word_ (codes "class") ∷ Part.Id w ∷ Part.Word_ (codes "extends")
    ∷ []) x n → Reads (Part.Class_ k) x ys) → a ≡ fresh N.Class []
    → Seg (Part.Mods ∷ Part.Word_ (codes "class") ∷ []) x xs → Reads (Part.Class_ k) x ys
class_mean {t = t} e i f j ys h g q = h (ap (λ z. with_text (written t.token) z) g ∙ ap (λ z. fresh N.Class (written z)) i.0) (then q (tok e i (tok f j end)))

class_body : {w : List ℕ} {a v : Tree} {x xs m n l o : List PlacedToken} (b : ClassKind)
    → Reads (Part.Word_ (parent b)) xs m → Reads (Part.Sign_ (codes "{")) m n → (ts : Trees)
    × (v ≡ adds a ts) × Reads (Part.Members b w true ts) n l → Reads (Part.Sign_ (codes "}")) l o
    → a ≡ fresh N.Class w → Seg (Part.Mods ∷ Part.Word_ (codes "class") ∷ Part.Id w ∷ Part.Word_ (codes "extends") ∷ []) x xs → Reads (Part.Class_ (class_of b (spanned (between x o) v))) x o
class_body {w = w} {v = v} {x = x} {o = o} b e f h g q r =
    subst (λ z. Reads (Part.Class_ (class_of b z)) x o)
    (sym (closed N.Class w no_span (between x o) Nil h.0 v (h.1 ∙ ap (λ z. adds z h.0) q)))
    (made Choice.one_class (then r (link e (link f (link h.2 g)))))

field_head : {q d : Tree} {x y l m : List PlacedToken} {u : PlacedToken} → IsBegun q x y
    → Reads (Part.Type_ d) y l → l ≡ u ∷ m → IsNameToken u.token
    → IsHead N.Field (with_text (written u.token) (add q d)) x m
field_head {d = d} {u = u} g h f j = (written u.token, d, ap (λ z. with_text (written u.token) (add z d)) g.0, link g.1 (link h (tok f j end)))

named_step : {n : Y.Named} {qs : List Symbol} → NamedMove n qs → (b : Entry) (s : Below) (xs : List PlacedToken) → Follows qs b s xs (NamedResult n b s xs)
named_step (NamedMove.class_name {w = w} ni) (At x a) (Ground cs) xs = λ t m e i. λ u n f j. λ v l h. (_, refl, refl, class_mean e i f j l h)
named_step (NamedMove.class_name {w = w} ni) (At x a) (On c s) xs = λ t m e i. λ u n f j. λ v l h. (_, refl, refl, class_mean e i f j l h)
named_step NamedMove.kernel (At x a) (Ground cs) xs = λ t m e i. λ u n f j. λ v l h. λ z o g k. (
  class_of ClassKind.Kernel (spanned (between x o) v),
  refl,
  refl,
  class_body ClassKind.Kernel (tok e i end) (tok f j end) h (tok g k end),
)
named_step NamedMove.kernel (At x a) (On c s) xs = λ t m e i. λ u n f j. λ v l h. λ z o g k. (
  class_of ClassKind.Kernel (spanned (between x o) v),
  refl,
  refl,
  class_body ClassKind.Kernel (tok e i end) (tok f j end) h (tok g k end),
)
named_step NamedMove.manager (At x a) (Ground cs) xs = λ t m e i. λ u n f j. λ v l h. λ z o g k. (
  class_of ClassKind.Manager (spanned (between x o) v),
  refl,
  refl,
  class_body ClassKind.Manager (tok e i end) (tok f j end) h (tok g k end),
)
named_step NamedMove.manager (At x a) (On c s) xs = λ t m e i. λ u n f j. λ v l h. λ z o g k. (
  class_of ClassKind.Manager (spanned (between x o) v),
  refl,
  refl,
  class_body ClassKind.Manager (tok e i end) (tok f j end) h (tok g k end),
)
named_step NamedMove.member (At x a) s xs = λ u m h. λ v n k. (_, refl, refl, k (refl, h))
named_step NamedMove.no_member (At x a) s xs = (_, refl, refl, (Nil, refl, made Choice.no_members end))
named_step NamedMove.void_method b (Ground cs) xs = λ t m e i. λ u n f j. λ v l h. λ w o k. (_, refl, refl, tt)
named_step NamedMove.void_method (At y q) (On (At x a) s) xs = λ t m e i. λ u n f j. λ v l h. λ w o k. (
  _,
  refl,
  refl,
  λ g. (
    Cons v k.0,
    k.1,
    made Choice.member (link (h (
      written u.token,
      _,
      ap (λ z. turned N.Method (with_text (written u.token)
          (add z (Node N.Plain (written t.token) (between xs m) Nil)))) g.0,
      link g.1 (link (void_tree e i) (tok f j end)),
    )) k.2),
  ),
)
named_step NamedMove.word_member b (Ground cs) xs = λ t m e i. λ d n h. λ u l f j. λ v o k. λ w z r. (_, refl, refl, tt)
named_step NamedMove.word_member (At y q) (On (At x a) s) xs = λ t m e i. λ d n h. λ u l f j. λ v o k. λ w z r.
    (_, refl, refl, λ g. (Cons v r.0, r.1, made Choice.member (link (k (field_head g (h (made Choice.just_base (made Choice.base_word (tok e i end)))) f j)) r.2)))
named_step (NamedMove.name_member {w = w} ni) b (Ground cs) xs = λ t m e i. λ v n h. (_, refl, refl, tt)
named_step (NamedMove.name_member {w = w} ni) (At y q) (On (At x a) s) xs = λ t m e i. λ v n h. (
  _,
  refl,
  refl,
  λ g. h g w (ap (λ z. Node N.Plain (written z) (between xs m) Nil) i.0)
      (tok e i end) refl refl,
)
named_step NamedMove.after_type b (Ground cs) xs = λ d n h. λ u l f j. λ v o k. λ w z r. (_, refl, refl, tt)
named_step NamedMove.after_type b (On c (Ground cs)) xs = λ d n h. λ u l f j. λ v o k. λ w z r. (_, refl, refl, tt)
named_step NamedMove.after_type (At p a0) (On (At y q) (On (At x a) s)) xs = λ d n h. λ u l f j. λ v o k. λ w z r. (
  _,
  refl,
  refl,
  λ g w0 e0 r0 o0 m0. (Cons v r.0, r.1, made Choice.member (link (k (field_head g (h (subst (λ z. Reads (Part.Type_ z) p xs) (sym e0) (made Choice.just_base (made Choice.base_name r0)))) f j)) r.2)),
)
named_step NamedMove.after_memory b (Ground cs) xs = λ t1 m1 e1 i1. λ t2 m2 e2 i2. λ t3 m3 e3 i3. λ d n h. λ u l f j. λ v o k. λ w z r. (_, refl, refl, tt)
named_step NamedMove.after_memory b (On c (Ground cs)) xs = λ t1 m1 e1 i1. λ t2 m2 e2 i2. λ t3 m3 e3 i3. λ d n h. λ u l f j. λ v o k. λ w z r. (_, refl, refl, tt)
named_step NamedMove.after_memory (At p a0) (On (At y q) (On (At x a) s)) xs = λ t1 m1 e1 i1. λ t2 m2 e2 i2. λ t3 m3 e3 i3. λ d n h. λ u l f j. λ v o k. λ w z r. (
  _,
  refl,
  refl,
  λ g w0 e0 r0 o0 m0.
      let same = bytes_same w0 (codes "Memory") (sym m0) in
      let is : IsMemory a0 p xs = (e0 ∙ ap (λ c. Node N.Plain c (between p xs) Nil) same, subst (λ c. Reads (Part.Word_ c) p xs) same (id_word r0)) in
      (Cons v r.0, r.1, made Choice.member (link (k (field_head g (h (made Choice.just_base (memory_base is (tok e1 i1 end) (tok e2 i2 end) (tok e3 i3 end)))) f j)) r.2)),
)
named_step NamedMove.after_ctor b (Ground cs) xs = λ t m e j. λ v n h. λ w z r. (_, refl, refl, tt)
named_step NamedMove.after_ctor b (On c (Ground cs)) xs = λ t m e j. λ v n h. λ w z r. (_, refl, refl, tt)
named_step (NamedMove.after_ctor {i = i}) (At p a0) (On (At y q) (On (At x a) s)) xs = λ t m e j. λ v n h. λ w z r. (
  _,
  refl,
  refl,
  λ g w0 e0 r0 o0 m0.
      let own = own_name i w0 o0 in
      let tree = ctor_tree i w0 a0 q v p xs (join h.1 (one h.2)) g.0 e0 own.1 (between y n) h.3 in
      let name : Reads (Part.Id i.class) p xs = subst (λ c. Reads (Part.Id c) p xs) own.1 r0 in
      let ctor : Reads (Part.Ctor i.kind i.class v) y n = subst (λ u. Reads (Part.Ctor i.kind i.class u) y n) (sym tree) (made Choice.ctor (link g.1 (link name (tok e j h.4)))) in
      (Cons v r.0, r.1, subst (λ u. Reads (Part.Members i.kind i.class u (Cons v r.0)) y z) (sym own.0) (made Choice.the_ctor (link ctor r.2))),
)
named_step (NamedMove.first_param ni) b (Ground cs) xs = λ t m e j. λ v n h. λ u1 m1 e1 i1. λ u2 m2 e2 i2. λ u3 m3 e3 i3. λ u4 m4 e4 i4. λ u5 m5 e5 i5. λ z l k. (_, refl, refl, tt)
named_step (NamedMove.first_param {w = w} ni) (At y q) (On (At x a) s) xs = λ t m e j. λ v n h. λ u1 m1 e1 i1. λ u2 m2 e2 i2. λ u3 m3 e3 i3. λ u4 m4 e4 i4. λ u5 m5 e5 i5. λ z l k. (
  _,
  refl,
  refl,
  λ g.
      let r = h w (g.0, ap (λ z. with_text (written t.token) z) g.1 ∙ ap (λ z. Node N.Param (written z) no_span (one g.0)) j.0, then g.2 (tok e j end)) in
      let c = k w refl (tok e2 i2 (tok e3 i3 (tok e4 i4 (tok e5 i5 end)))) in
      (w, r.0, c.0, c.1 ∙ ap (λ t. spanned (between x l) (add t c.0)) r.1 ∙ ap (λ t. spanned (between x l) t) (add_adds a r.0 c.0), link r.2 (tok e1 i1 c.2)),
)

-- what the symbols read, whatever holds of all that they may leave
pub run : {ps : List Symbol} {b c : Entry} {s q : Below} {xs ys : List PlacedToken} → Goes ps b s xs c q ys → (Q : Entry → Below → List PlacedToken → Type 0) → Follows ps b s xs Q → Q c q ys
run Goes.none Q f = f
run (Goes.mark {t = t} {xs = xs} i g) Q f = run g Q (f t xs refl i)
run (Goes.name {t = t} {xs = xs} i g) Q f = run g Q (f t xs refl i)
run (Goes.act g) Q f = run g Q f
run (Goes.rule {p = p} {ps = ps} {b = b} {m = m} {s = s} {q = q} {xs = xs} {ms = ms} v d g) Q f =
    let r = run d (Result p b s xs) (step v b s xs) in
    run g Q (subst (λ z. Follows ps z q ms Q) (sym r.1) (subst (λ z. Follows ps (top_of (shape p) b s xs r.0) z ms Q) (sym r.2) (f r.0 ms r.3)))
run (Goes.call {n = n} {ps = ps} {b = b} {m = m} {s = s} {q = q} {xs = xs} {ms = ms} v d g) Q f =
    let r = run d (NamedResult n b s xs) (named_step v b s xs) in
    run g Q (subst (λ z. Follows ps z q ms Q) (sym r.1) (subst (λ z. Follows ps (top_of (named_shape n) b s xs r.0) z ms Q) (sym r.2) (f r.0 ms r.3)))

-- a file that the parser reads is one with the classes that it builds
pub sound : {b c : Entry} {s q : Below} {xs ys : List PlacedToken} → Goes (Sub Rule.File ∷ []) b s xs c q ys → (v : List ClassTree) × (c ≡ b) × (q ≡ add_classes s v) × Reads (Part.File v) xs ys
sound {b = b} {s = s} {xs = xs} g = run g (Result Rule.File b s xs) (λ v m h. (v, refl, refl, h))
