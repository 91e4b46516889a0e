-- How a part is read: one part after the other, with choices by the next token.
use Rattle.std.proofs.Common.{◌≡◌, ◌∙◌, ◌⊎◌, inl, inr, List, [], ◌∷◌, ◌++◌, refl, sym, ap, subst, append_assoc, arith}
use Rattle.std.proofs.lemmas.List.{append-nil}
use Rattle.grammar.specs.Grammar.{Derives}
use Rattle.grammar.specs.Stack.{Starts}
use Rattle.grammar.proofs.Leftmost.{starts_then, joined, one}
use Rattle.rtl_ir.specs.declared.design.Sign.TheVariants.{Add}
use Rattle.rtl_text.specs.Tokens.{Token}
use Rattle.rtl_text.specs.Tree.{PlainTree, InputPort, RegisterUpdate, WireItem}
use Rattle.rtl_text.specs.Productions.{Part, Is, Choice}
use Rattle.verilog_syntax.specs.Parsing.{Symbol, NameOf, NumberTo, LiteralOf, OperatorOf, RangeOf}
use Rattle.verilog_syntax.specs.Parsing.{PortOf, PortsOf, MorePortsOf, ExprOf, UpdateOf, UpdatesOf}
use Rattle.verilog_syntax.specs.Parsing.{ConnectionOf, ConnectionsOf, MoreConnectionsOf, ItemOf}
use Rattle.verilog_syntax.specs.Parsing.{ItemsOf, ModuleOf, ModulesOf, FileOf, TreeOf, part, IsTree}
use Rattle.verilog_syntax.specs.Parsing.{GoesOn, Ends, ended, end_token, Reads, Stops, ReadsAll}
use Rattle.verilog_syntax.specs.Parsing.{StopsAll}

pub data Plan (V : Type 0) : Type 0 where
  done : V → Plan V  -- nothing more: the tree
  read : (s : Symbol) → (TreeOf s → Plan V) → Plan V
  fixed : List Part → Plan V → Plan V  -- parts that have no trees
  either : Plan V → Plan V → Plan V

-- a way through a plan
abbrev pub Path : {V : Type 0} → Plan V → Type 0
Path (done v) = Unit {0}
Path (read s k) = (a : TreeOf s) × IsTree s a × Path (k a)
Path (fixed ps k) = Path k
Path (either p q) = Path p ⊎ Path q

abbrev pub value : {V : Type 0} (p : Plan V) → Path p → V
value (done v) x = v
value (read s k) x = value (k x.0) x.2
value (fixed ps k) x = value k x
value (either p q) (inl x) = value p x
value (either p q) (inr x) = value q x

abbrev pub stack : {V : Type 0} (p : Plan V) → Path p → List Part
stack (done v) x = []
stack (read s k) x = part s x.0 ∷ stack (k x.0) x.2
stack (fixed ps k) x = ps ++ stack k x
stack (either p q) (inl x) = stack p x
stack (either p q) (inr x) = stack q x

-- each symbol has a tree
some : (s : Symbol) → (a : TreeOf s) × IsTree s a
some NameOf = ([], tt)
some (NumberTo n) = (0, omega arith)
some LiteralOf = (record { width = 1; value = 0 }, ((omega arith, omega arith), omega arith))
some OperatorOf = (Add, tt)
some RangeOf = (0, tt)
some PortOf = (InputPort 0 [], tt)
some PortsOf = ([], tt)
some MorePortsOf = ([], tt)
some ExprOf = (PlainTree [], tt)
some UpdateOf = (RegisterUpdate [] [] [], tt)
some UpdatesOf = ([], tt)
some ConnectionOf = (record { port = []; net = [] }, tt)
some ConnectionsOf = ([], tt)
some MoreConnectionsOf = ([], tt)
some ItemOf = (WireItem 0 [], tt)
some ItemsOf = ([], tt)
some ModuleOf = (record { name = []; ports = []; items = [] }, tt)
some ModulesOf = ([], tt)
some FileOf = ([], tt)

some_path : {V : Type 0} (p : Plan V) → Path p
some_path (done v) = tt
some_path (read s k) = let x = some s in (x.0, x.1, some_path (k x.0))
some_path (fixed ps k) = some_path k
some_path (either p q) = inl (some_path p)

-- Of the part the plan is left, from ys on.
pub record Left (s : Symbol) (p : Plan (TreeOf s)) (xs ys : List Token) : Type 0 where
  pub taken : List Token
  pub split : xs ≡ taken ++ ys
  pub all : (w : TreeOf s) → IsTree s w
  pub only : (w : TreeOf s) → (below : List Part) → Ends s below → (u back : List Token) → (u ≡ [] → ⊥) → ended ys ≡ u ++ back → Starts Is Choice (part s w ∷ below) (taken ++ u)
      → (x : Path p) × (w ≡ value p x) × Starts Is Choice (stack p x ++ below) u
  pub begins : (x : Path p) (below : List Part) (u : List Token) → Starts Is Choice (stack p x ++ below) u → Starts Is Choice (part s (value p x) ∷ below) (taken ++ u)
  pub derives : (x : Path p) (u : List Token) → Derives Is Choice (stack p x) u → Derives Is Choice (part s (value p x) ∷ []) (taken ++ u)

some_more : (a u : List Token) → (u ≡ [] → ⊥) → a ++ u ≡ [] → ⊥
some_more [] u n e = n e
some_more (x ∷ a) u n e = cc

ended_behind : {ys : List Token} (zs r u back : List Token) → ys ≡ r ++ zs → ended zs ≡ u ++ back → ended ys ≡ (r ++ u) ++ back
ended_behind {ys = ys} zs r u back e f =
    ap ended e ∙ append_assoc r zs (end_token ∷ []) ∙ ap (λ l. r ++ l) f ∙ sym (append_assoc r u back)

split_behind : {xs ys : List Token} (zs a b : List Token) → xs ≡ a ++ ys → ys ≡ b ++ zs → xs ≡ (a ++ b) ++ zs
split_behind zs a b e f = e ∙ ap (λ l. a ++ l) f ∙ sym (append_assoc a b zs)

assoc_starts : {ps : List Part} (a b u : List Token) → Starts Is Choice ps (a ++ (b ++ u)) → Starts Is Choice ps ((a ++ b) ++ u)
assoc_starts {ps = ps} a b u s = subst (λ l. Starts Is Choice ps l) (sym (append_assoc a b u)) s

assoc_back : {ps : List Part} (a b u : List Token) → Starts Is Choice ps ((a ++ b) ++ u) → Starts Is Choice ps (a ++ (b ++ u))
assoc_back {ps = ps} a b u s = subst (λ l. Starts Is Choice ps l) (append_assoc a b u) s

assoc_derives : {ps : List Part} (a b u : List Token) → Derives Is Choice ps (a ++ (b ++ u)) → Derives Is Choice ps ((a ++ b) ++ u)
assoc_derives {ps = ps} a b u s = subst (λ l. Derives Is Choice ps l) (sym (append_assoc a b u)) s

-- the part itself is left
pub wait : (s : Symbol) → ((w : TreeOf s) → IsTree s w) → (xs : List Token) → Left s (read s (λ a. done a)) xs xs
wait s all xs = record {
  taken = [];
  split = refl;
  all = all;
  only = λ w below e u back n f st. ((w, all w, tt), refl, st);
  begins = λ x below u st. st;
  derives = λ x u d. d;
}

-- what the choices of a symbol are
pub record Plans (s : Symbol) (p : Plan (TreeOf s)) : Type 0 where
  pub all : (w : TreeOf s) → IsTree s w
  pub from : (x : Path p) → Choice (part s (value p x)) (stack p x)
  pub to : (w : TreeOf s) (ps : List Part) → Choice (part s w) ps → (x : Path p) × (w ≡ value p x) × (ps ≡ stack p x)
  pub no_token : (w : TreeOf s) (t : Token) → Is (part s w) t → ⊥

pub begin : {s : Symbol} {p : Plan (TreeOf s)} → Plans s p → (xs : List Token) → Left s p xs xs
begin {s = s} {p = p} g xs = record {
  taken = [];
  split = refl;
  all = g.all;
  only = λ w below e u back n f st. picked w below u n st;
  begins = λ x below u st. Starts.pick (stack p x) (g.from x) st;
  derives = λ x u d. one Is Choice (g.from x) d;
}
  where
    picked : (w : TreeOf s) (below : List Part) (u : List Token) → (u ≡ [] → ⊥) → Starts Is Choice (part s w ∷ below) u → (x : Path p) × (w ≡ value p x) × Starts Is Choice (stack p x ++ below) u
    picked w below u n Starts.end = absurd (n refl)
    picked w below u n (Starts.eat i st) = absurd (g.no_token w _ i)
    picked w below u n (Starts.pick qs c st) =
        let (x, e, f) = g.to w qs c in
        (x, e, subst (λ l. Starts Is Choice (l ++ below) u) f st)

module _ {s : Symbol} {xs ys zs : List Token} where
  pub next : {q : Symbol} {k : TreeOf q → Plan (TreeOf s)} {a : TreeOf q} → ((b : TreeOf q) (x : Path (k b)) (below : List Part) → Ends s below → Ends q (stack (k b) x ++ below))
      → Left s (read q k) xs ys → Reads q ys zs a → Left s (k a) xs zs
  next {q = q} {k = k} {a = a} ends l r = record {
    taken = l.taken ++ r.read;
    split = split_behind zs l.taken r.read l.split r.split;
    all = l.all;
    only = λ w below e u back n f st.
        let (x, g, t) = l.only w below e (r.read ++ u) back (some_more r.read u n) (ended_behind zs r.read u back r.split f) (assoc_back l.taken r.read u st) in
        step w below e u back n f x g t;
    begins = λ x below u st. assoc_starts l.taken r.read u (l.begins (a, r.valid, x) below (r.read ++ u) (starts_then Is Choice (stack (k a) x ++ below) u r.derived st));
    derives = λ x u d. assoc_derives l.taken r.read u (l.derives (a, r.valid, x) (r.read ++ u) (joined Is Choice r.derived d));
  }
    where
      step : (w : TreeOf s) (below : List Part) → Ends s below → (u back : List Token)
          → (u ≡ [] → ⊥) → ended zs ≡ u ++ back → (x : Path (read q k)) → w ≡ value (read q k) x
          → Starts Is Choice (stack (read q k) x ++ below) (r.read ++ u)
          → (x : Path (k a)) × (w ≡ value (k a) x) × Starts Is Choice (stack (k a) x ++ below) u
      step w below e u back n f (b, v, x) g t =
          let (same, t) = r.only b v (stack (k b) x ++ below) (ends b x below e) u back n f t in
          subst (λ c. (x : Path (k c)) → w ≡ value (k c) x
          → Starts Is Choice (stack (k c) x ++ below) u → (x : Path (k a))
          × (w ≡ value (k a) x) × Starts Is Choice (stack (k a) x
          ++ below) u) (sym same) (λ x g t. (x, g, t)) x g t

  pub pass : {ps : List Part} {k : Plan (TreeOf s)} → Left s (fixed ps k) xs ys → ReadsAll ps ys zs → Left s k xs zs
  pass {ps = ps} {k = k} l r = record {
    taken = l.taken ++ r.read;
    split = split_behind zs l.taken r.read l.split r.split;
    all = l.all;
    only = λ w below e u back n f st.
        let (x, g, t) = l.only w below e (r.read ++ u) back (some_more r.read u n) (ended_behind zs r.read u back r.split f) (assoc_back l.taken r.read u st) in
        (x, g, r.only (stack k x ++ below) u back n f (subst (λ ls. Starts Is Choice ls (r.read ++ u)) (append_assoc ps (stack k x) below) t));
    begins = λ x below u st. assoc_starts l.taken r.read u (l.begins x below (r.read
        ++ u) (subst (λ ls. Starts Is Choice ls (r.read
        ++ u)) (sym (append_assoc ps (stack k x) below)) (starts_then Is Choice (stack k x
        ++ below) u r.derived st)));
    derives = λ x u d. assoc_derives l.taken r.read u (l.derives x (r.read ++ u) (joined Is Choice r.derived d));
  }

  pub fail : {q : Symbol} {k : TreeOf q → Plan (TreeOf s)} → ((b : TreeOf q) (x : Path (k b)) (below : List Part) → Ends s below → Ends q (stack (k b) x ++ below))
      → Left s (read q k) xs ys → Stops q ys zs → Stops s xs zs
  fail {q = q} {k = k} ends l r =
      let x : Path (read q k) = (r.tree, r.valid, some_path (k r.tree)) in
      record {
        read = l.taken ++ r.read;
        split = split_behind zs l.taken r.read l.split r.split;
        tree = value (read q k) x;
        valid = l.all (value (read q k) x);
        begun = λ below. l.begins x below r.read (r.begun (stack (k r.tree) (some_path (k r.tree)) ++ below));
        bad = λ t back f b v below e st.
            let (y, _, st) = l.only b below e (r.read ++ t ∷ []) back (some_more r.read (t ∷ []) (λ g. cc)) (ended_behind zs r.read (t ∷ []) back r.split f) (assoc_back l.taken r.read (t ∷ []) st) in
            r.bad t back f y.0 y.1 (stack (k y.0) y.2 ++ below) (ends y.0 y.2 below e) st;
      }

  pub fail_fixed : {ps : List Part} {k : Plan (TreeOf s)} → Left s (fixed ps k) xs ys → StopsAll ps ys zs → Stops s xs zs
  fail_fixed {ps = ps} {k = k} l r =
      let x : Path k = some_path k in
      record {
        read = l.taken ++ r.read;
        split = split_behind zs l.taken r.read l.split r.split;
        tree = value k x;
        valid = l.all (value k x);
        begun = λ below. l.begins x below r.read (subst (λ ls. Starts Is Choice ls r.read) (sym (append_assoc ps (stack k x) below)) (r.begun (stack k x ++ below)));
        bad = λ t back f b v below e st.
            let (y, _, st) = l.only b below e (r.read ++ t ∷ []) back (some_more r.read (t ∷ []) (λ g. cc)) (ended_behind zs r.read (t ∷ []) back r.split f) (assoc_back l.taken r.read (t ∷ []) st) in
            r.bad t back f (stack k y ++ below) (subst (λ ls. Starts Is Choice ls (r.read ++ t ∷ [])) (append_assoc ps (stack k y) below) st);
      }

pub finish : {s : Symbol} {xs ys : List Token} {a : TreeOf s} → Left s (done a) xs ys → Reads s xs ys a
finish {s = s} {a = a} l = record {
  read = l.taken;
  split = l.split;
  valid = l.all a;
  derived = subst (λ u. Derives Is Choice (part s a ∷ []) u) (append-nil l.taken) (l.derives tt [] Derives.none);
  only = λ b v below e u back n f st. let (_, g, st) = l.only b below e u back n f st in (g, st);
}

-- The next token does not begin the plan, and neither does what may stand behind the part.
pub record Refuses (s : Symbol) (p : Plan (TreeOf s)) (ys : List Token) : Type 0 where
  pub none : (x : Path p) (below : List Part) → Ends s below → (t : Token) (u back : List Token) → ended ys ≡ t ∷ back → Starts Is Choice (stack p x ++ below) (t ∷ u) → ⊥

first_is : (zs : List Token) (u back : List Token) → (u ≡ [] → ⊥) → zs ≡ u ++ back → (t : Token) × (v : List Token) × (u ≡ t ∷ v) × (zs ≡ t ∷ (v ++ back))
first_is zs [] back n e = absurd (n refl)
first_is zs (t ∷ v) back n e = (t, v, refl, e)

module _ {s : Symbol} {p q : Plan (TreeOf s)} {xs ys : List Token} where
  pub take_left : Left s (either p q) xs ys → Refuses s q ys → Left s p xs ys
  take_left l r = record {
    taken = l.taken;
    split = l.split;
    all = l.all;
    only = λ w below e u back n f st. let (x, g, st) = l.only w below e u back n f st in chosen w below e u back n f x g st;
    begins = λ x below u st. l.begins (inl x) below u st;
    derives = λ x u d. l.derives (inl x) u d;
  }
    where
      chosen : (w : TreeOf s) (below : List Part) → Ends s below → (u back : List Token)
          → (u ≡ [] → ⊥) → ended ys ≡ u ++ back → (x : Path (either p q))
          → w ≡ value (either p q) x → Starts Is Choice (stack (either p q) x ++ below) u
          → (x : Path p) × (w ≡ value p x) × Starts Is Choice (stack p x ++ below) u
      chosen w below e u back n f (inl x) g st = (x, g, st)
      chosen w below e u back n f (inr x) g st =
          let (t, v, same, f) = first_is (ended ys) u back n f in
          absurd (r.none x below e t v (v ++ back) f (subst (λ l. Starts Is Choice (stack q x ++ below) l) same st))

  pub take_right : Left s (either p q) xs ys → Refuses s p ys → Left s q xs ys
  take_right l r = record {
    taken = l.taken;
    split = l.split;
    all = l.all;
    only = λ w below e u back n f st. let (x, g, st) = l.only w below e u back n f st in chosen w below e u back n f x g st;
    begins = λ x below u st. l.begins (inr x) below u st;
    derives = λ x u d. l.derives (inr x) u d;
  }
    where
      chosen : (w : TreeOf s) (below : List Part) → Ends s below → (u back : List Token)
          → (u ≡ [] → ⊥) → ended ys ≡ u ++ back → (x : Path (either p q))
          → w ≡ value (either p q) x → Starts Is Choice (stack (either p q) x ++ below) u
          → (x : Path q) × (w ≡ value q x) × Starts Is Choice (stack q x ++ below) u
      chosen w below e u back n f (inr x) g st = (x, g, st)
      chosen w below e u back n f (inl x) g st =
          let (t, v, same, f) = first_is (ended ys) u back n f in
          absurd (r.none x below e t v (v ++ back) f (subst (λ l. Starts Is Choice (stack p x ++ below) l) same st))

-- nothing goes on with the next token
pub stuck : {s : Symbol} {p : Plan (TreeOf s)} {xs ys : List Token} → Left s p xs ys → Refuses s p ys → Stops s xs ys
stuck {s = s} {p = p} l r = record {
  read = l.taken;
  split = l.split;
  tree = value p (some_path p);
  valid = l.all (value p (some_path p));
  begun = λ below. subst (λ u. Starts Is Choice (part s (value p (some_path p)) ∷ below) u) (append-nil l.taken) (l.begins (some_path p) below [] Starts.end);
  bad = λ t back f b v below e st.
      let (x, _, st) = l.only b below e (t ∷ []) back (λ g. cc) f st in
      r.none x below e t [] back f st;
}

-- Lists: the part q that is left is an item m, and then q again.
pub record Repeats (q m : Symbol) (front : List Part) (add : TreeOf m → TreeOf q → TreeOf q) : Type 0 where
  pub no_token : (w : TreeOf q) (t : Token) → Is (part q w) t → ⊥
  pub all : (w : TreeOf q) → IsTree q w
  pub all_items : (w : TreeOf m) → IsTree m w
  pub end : TreeOf q
  pub none : Choice (part q end) []
  pub more : (a : TreeOf m) (w : TreeOf q) → Choice (part q (add a w)) (front ++ (part m a ∷ part q w ∷ []))
  pub cases : (w : TreeOf q) (ps : List Part) → Choice (part q w) ps → ((w ≡ end) × (ps ≡ [])) ⊎ ((a : TreeOf m) × (v : TreeOf q) × (w ≡ add a v) × (ps ≡ front ++ (part m a ∷ part q v ∷ [])))

module _ {s q m : Symbol} {front : List Part} {add : TreeOf m → TreeOf q → TreeOf q} (g : Repeats q m front add) (f : TreeOf q → TreeOf s)
    (ends : (below : List Part) → Ends s below → Ends q below) {xs ys : List Token} (l : Left s (read q (λ w. done (f w))) xs ys) where
  -- the next token begins one more item
  pub again : ((t : Token) (back : List Token) → ended ys ≡ t ∷ back → GoesOn q t) → Left s (fixed front (read m (λ a. read q (λ w. done (f (add a w)))))) xs ys
  again goes = record {
    taken = l.taken;
    split = l.split;
    all = l.all;
    only = λ w below e u back n h st. let ((v, _, _), k, st) = l.only w below e u back n h st in one_more w below e u back n h v k st;
    begins = λ x below u st. l.begins (add x.0 x.2.0, g.all _, tt) below u (Starts.pick (front ++ (part m x.0 ∷ part q x.2.0 ∷ [])) (g.more x.0 x.2.0) st);
    derives = λ x u d. l.derives (add x.0 x.2.0, g.all _, tt) u (one Is Choice (g.more x.0 x.2.0) d);
  }
    where
      one_more : (w : TreeOf s) (below : List Part) → Ends s below → (u back : List Token) → (u ≡ [] → ⊥) → ended ys ≡ u ++ back → (v : TreeOf q) → w ≡ f v → Starts Is Choice (part q v ∷ below) u
          → (x : Path (fixed front (read m (λ a. read q (λ w. done (f (add a w)))))))
          × (w ≡ value (fixed front (read m (λ a. read q (λ w. done (f (add a w)))))) x)
          × Starts Is Choice (stack (fixed front (read m
          (λ a. read q (λ w. done (f (add a w)))))) x ++ below) u
      one_more w below e u back n h v k Starts.end = absurd (n refl)
      one_more w below e u back n h v k (Starts.eat i st) = absurd (g.no_token v _ i)
      one_more w below e u back n h v k (Starts.pick qs c st) =
          elim (g.cases v qs c) [
            | inl z ↦ (
                let (t, r, same, h) = first_is (ended ys) u back n h in
                let st : Starts Is Choice (qs ++ below) u = st in
                absurd (ends below e t r (goes t (r ++ back) h) (subst (λ l. Starts Is Choice below l) same (subst (λ l. Starts Is Choice (l ++ below) u) z.1 st))))
            | inr z ↦ (
                let (a, b, same, split) = z in
                ((a, g.all_items a, (b, g.all b, tt)), k ∙ ap f same, subst (λ l. Starts Is Choice (l ++ below) u) split st))
          ]

  -- the next token begins none
  pub no_more : Refuses q (fixed front (read m (λ a. read q (λ w. done (add a w))))) ys → Left s (done (f g.end)) xs ys
  no_more r = record {
    taken = l.taken;
    split = l.split;
    all = l.all;
    only = λ w below e u back n h st. let ((v, _, _), k, st) = l.only w below e u back n h st in over w below e u back n h v k st;
    begins = λ x below u st. l.begins (g.end, g.all _, tt) below u (Starts.pick [] g.none st);
    derives = λ x u d. l.derives (g.end, g.all _, tt) u (one Is Choice g.none d);
  }
    where
      over : (w : TreeOf s) (below : List Part) → Ends s below → (u back : List Token) → (u ≡ [] → ⊥) → ended ys ≡ u ++ back → (v : TreeOf q) → w ≡ f v → Starts Is Choice (part q v ∷ below) u
          → (x : Unit {0}) × (w ≡ f g.end) × Starts Is Choice below u
      over w below e u back n h v k Starts.end = absurd (n refl)
      over w below e u back n h v k (Starts.eat i st) = absurd (g.no_token v _ i)
      over w below e u back n h v k (Starts.pick qs c st) =
          elim (g.cases v qs c) [
            | inl z ↦ (tt, k ∙ ap f z.0, subst (λ l. Starts Is Choice (l ++ below) u) z.1 st)
            | inr z ↦ (
                let (a, b, same, split) = z in
                let (t, t', eq, h) = first_is (ended ys) u back n h in
                absurd (r.none (
                  a,
                  g.all_items a,
                  (
                    b,
                    g.all b,
                    tt,
                  ),
                ) below (ends below e) t t' (t'
                ++ back) h (subst (λ l. Starts Is Choice ((front
                ++ (part m a ∷ part q b ∷ [])) ++ below) l) eq
                (subst (λ l. Starts Is Choice (l ++ below) u) split st))))
          ]

-- another word for the tree
pub same : {s q : Symbol} {f h : TreeOf q → TreeOf s} {xs ys : List Token} → ((w : TreeOf q) → f w ≡ h w) → Left s (read q (λ w. done (f w))) xs ys → Left s (read q (λ w. done (h w))) xs ys
same {s = s} e l = record {
  taken = l.taken;
  split = l.split;
  all = l.all;
  only = λ w below n u back o g st. let (x, k, st) = l.only w below n u back o g st in (x, k ∙ e x.0, st);
  begins = λ x below u st. subst (λ v. Starts Is Choice (part s v ∷ below) (l.taken ++ u)) (e x.0) (l.begins x below u st);
  derives = λ x u d. subst (λ v. Derives Is Choice (part s v ∷ []) (l.taken ++ u)) (e x.0) (l.derives x u d);
}
