-- The steps of a search.
use Rattle.std.proofs.Common.{◌≡◌, ◌≢◌, ℕ, ◌+◌, ◌-◌, ◌<◌, ◌≤◌, Bool, true, false, List, [], ◌∷◌, ◌++◌, length, get_or, set, take, refl, subst, sym, ap, ◌∙◌, arith, ◌⊎◌, inl, inr}
use Rattle.std.proofs.lemmas.Grind.{common_steps, get_or_default_zero}
use Rattle.std.proofs.lemmas.Bool.{cases_lt, cases_eq}
use Rattle.std.proofs.lemmas.List.{get_or-set_same, get_or-set_other, get_or-take}
use Rattle.std.proofs.Math.ListN.{get_or-append}
use Rattle.std.proofs.Math.Seq.{get_or-append_seam}
use Rattle.digraph.specs.Graph.{reads_of, IsGraph}
use Rattle.digraph.specs.declared.search.Search.{Search as State}
use Rattle.digraph.specs.Search.{Searches, IsOn, IsOpened, IsClosed, IsStuck, work, weight}
use Rattle.std.proofs.lemmas.List.Sums.{sum_by-set}

-- the last node of the path waits for this one
pub record Waits (g : List (List ℕ)) (path next : List ℕ) (x : ℕ) : Type 0 where
  pub link : (j : ℕ) → j + 1 ≡ length path → (get_or next j 0 < length (reads_of g (get_or path j 0))) × (get_or (reads_of g (get_or path j 0)) (get_or next j 0) 0 ≡ x)

-- a place before the end of a longer list
pub old : (p : List ℕ) (x j : ℕ) → j < length p → get_or (p ++ x ∷ []) j 0 ≡ get_or p j 0
old p x j h = get_or-append p (x ∷ []) 0 j h

pub longer : (p : List ℕ) (x : ℕ) → length (p ++ x ∷ []) ≡ length p + 1
longer p x = grind (arith, common_steps)

-- what holds of each item of a list and of one more
pushed : (P : ℕ → Type 0) (p : List ℕ) (x j : ℕ) → ((i : ℕ) → i < length p → P (get_or p i 0)) → P x → j < length (p ++ x ∷ []) → P (get_or (p ++ x ∷ []) j 0)
pushed P p x j all here h = by_place (cases_lt j (length p))
  where
    by_place : (j < length p) ⊎ (length p ≤ j) → P (get_or (p ++ x ∷ []) j 0)
    by_place (inl lt) = subst P (sym (old p x j lt)) (all j lt)
    by_place (inr ge) =
        let q : j ≡ length p = omega (arith, longer p x) in
        subst P (sym (ap (λ k. get_or (p ++ x ∷ []) k 0) q ∙ get_or-append_seam p x [] 0)) here

-- a place of a list without its last item
short : (p : List ℕ) (j : ℕ) → j < length (take (length p - 1) p) → j + 1 < length p
short p j h = grind (arith, common_steps)

front : (p : List ℕ) (j : ℕ) → j + 1 < length p → get_or (take (length p - 1) p) j 0 ≡ get_or p j 0
front p j h = get_or-take (length p - 1) p j 0 (omega arith)

shorter : (p : List ℕ) → length (take (length p - 1) p) ≡ length p - 1
shorter p = grind (arith, common_steps)

-- a rank beside the new one
beside : (r : List ℕ) (x v y : ℕ) → 0 < get_or r y 0 → get_or r x 0 ≡ 0 → get_or (set r x v) y 0 ≡ get_or r y 0
beside r x v y h z = get_or-set_other r x y v 0 (λ (e : y ≡ x). absurd (omega (arith, ap (λ i. get_or r i 0) e)))

pub opens : (g : List (List ℕ)) (r : List ℕ) (f : List Bool) (p n o : List ℕ) (x : ℕ)
    → Searches g r f p n o → Waits g p n x → x < length g → get_or f x false ≡ true
    → get_or r x 0 ≡ 0 → Searches g r (set f x false) (p ++ x ∷ []) (n ++ 0 ∷ []) o
opens g r f p n o x s w lt fresh zero =
    record {
      ranks = s.ranks;
      marks = grind (arith, common_steps, s.marks);
      nexts = grind (arith, common_steps, s.nexts);
      counted = s.counted;
      placed = s.placed;
      back = s.back;
      behind = s.behind;
      rising = s.rising;
      nodes = λ j h. pushed (λ y. y < length g) p x j s.nodes lt h;
      unranked = λ j h. pushed (λ y. get_or r y 0 ≡ 0) p x j s.unranked zero h;
      known = λ j h. grind (arith, common_steps, s.known);
      apart = λ i j l h. grind (arith, common_steps, s.apart, s.known);
      within = λ j h. grind (arith, common_steps, s.within);
      ready = λ j i h l. ready j i h l (cases_lt j (length p));
      waits = λ j h. waits j h (cases_lt (j + 1) (length p));
      linked = λ j h. linked j h (cases_lt (j + 1) (length p));
      opened = λ y h e z. opened y h e z (cases_eq y x);
    }
  where
    ready : (j i : ℕ) → j < length (p ++ x ∷ []) → i < get_or (n ++ 0 ∷ []) j 0 → (j < length p) ⊎ (length p ≤ j) → 0 < get_or r (get_or (reads_of g (get_or (p ++ x ∷ []) j 0)) i 0) 0
    ready j i h l (inl lt) =
        let l' : i < get_or n j 0 = omega (arith, old n 0 j (omega (arith, s.nexts))) in
        rw (old p x j lt) (s.ready j i lt l')
    ready j i h l (inr ge) =
        let q : j ≡ length n = omega (arith, longer p x, s.nexts) in
        absurd (omega (arith, ap (λ k. get_or (n ++ 0 ∷ []) k 0) q, get_or-append_seam n 0 [] 0))

    waits : (j : ℕ) → j + 1 < length (p ++ x ∷ []) → (j + 1 < length p) ⊎ (length p ≤ j + 1) → get_or (n ++ 0 ∷ []) j 0 < length (reads_of g (get_or (p ++ x ∷ []) j 0))
    waits j h (inl lt) = rw (old p x j (omega arith), old n 0 j (omega (arith, s.nexts))) (s.waits j lt)
    waits j h (inr ge) =
        let b : j < length p = omega (arith, longer p x) in
        rw (old p x j b, old n 0 j (omega (arith, s.nexts))) ((w.link j (omega (arith, longer p x))).0)

    linked : (j : ℕ) → j + 1 < length (p ++ x ∷ []) → (j + 1 < length p) ⊎ (length p ≤ j + 1)
        → get_or (reads_of g (get_or (p ++ x ∷ []) j 0)) (get_or (n ++ 0
        ∷ []) j 0) 0 ≡ get_or (p ++ x ∷ []) (j + 1) 0
    linked j h (inl lt) = rw (old p x j (omega arith), old n 0 j (omega (arith, s.nexts)), old p x (j + 1) lt) (s.linked j lt)
    linked j h (inr ge) =
        let b : j < length p = omega (arith, longer p x) in
        let q : j + 1 ≡ length p = omega (arith, longer p x) in
        rw (old p x j b, old n 0 j (omega (arith, s.nexts))) ((w.link j q).1 ∙ sym (ap (λ k. get_or (p ++ x ∷ []) k 0) q ∙ get_or-append_seam p x [] 0))

    opened : (y : ℕ) → y < length g → get_or (set f x false) y false ≡ false → get_or r y 0 ≡ 0 → (y ≡ x) ⊎ (y ≡ x → ⊥) → IsOn (p ++ x ∷ []) y
    opened y h e z (inl q) = (length p, omega (arith, longer p x), get_or-append_seam p x [] 0 ∙ sym q)
    opened y h e z (inr q) =
        let on = s.opened y h (sym (get_or-set_other f x y false false q) ∙ e) z in
        (on.0, omega (arith, on.1, longer p x), old p x on.0 on.1 ∙ on.2)

pub advances : (g : List (List ℕ)) (r : List ℕ) (f : List Bool) (p n o : List ℕ) (top at : ℕ)
    → Searches g r f p n o → top + 1 ≡ length p → at ≤ length (reads_of g (get_or p top 0))
    → ((i : ℕ) → i < at → 0 < get_or r (get_or (reads_of g (get_or p top 0)) i 0) 0)
    → Searches g r f p (set n top at) o
advances g r f p n o top at s e le ready =
    record {
      ranks = s.ranks;
      marks = s.marks;
      nexts = grind (arith, common_steps, s.nexts);
      counted = s.counted;
      placed = s.placed;
      back = s.back;
      behind = s.behind;
      rising = s.rising;
      nodes = s.nodes;
      unranked = s.unranked;
      known = s.known;
      apart = s.apart;
      within = λ j h. grind (arith, common_steps, s.within);
      ready = λ j i h l. grind (arith, common_steps, s.ready, ready);
      waits = λ j h. grind (arith, common_steps, s.waits);
      linked = λ j h. grind (arith, common_steps, s.linked);
      opened = s.opened;
    }

pub closes : (g : List (List ℕ)) (r : List ℕ) (f : List Bool) (p n o : List ℕ) (top x : ℕ)
    → Searches g r f p n o → top + 1 ≡ length p → get_or p top 0 ≡ x
    → ((i : ℕ) → i < length (reads_of g x) → 0 < get_or r (get_or (reads_of g x) i 0) 0)
    → Searches g (set r x (length o + 1)) f (take (length p - 1) p) (take (length n - 1) n) (o
    ++ x ∷ [])
closes g r f p n o top x s e is all =
    record {
      ranks = grind (arith, common_steps, s.ranks);
      marks = s.marks;
      nexts = shorter n ∙ ap (λ k. k - 1) s.nexts ∙ sym (shorter p);
      counted = λ y. counted y (cases_eq y x);
      placed = λ i h. placed i h (cases_lt i (length o));
      back = λ y h. back y h (cases_eq y x);
      behind = λ b i h l. behind b i h l (cases_eq b x);
      rising = λ b i h l. rising b i h l (cases_eq b x);
      nodes = λ j h. rw (front p j (short p j h)) (s.nodes j (omega (arith, short p j h)));
      unranked = λ j h. rw (front p j (short p j h)) (unranked j (short p j h));
      known = λ j h. rw (front p j (short p j h)) (s.known j (omega (arith, short p j h)));
      apart = λ i j l h. rw (front p j (short p j h), front p i (omega (arith, short p j h))) (s.apart i j l (omega (arith, short p j h)));
      within = λ j h. rw (front p j (short p j h), front n j (omega (arith, s.nexts, short p j h))) (s.within j (omega (arith, short p j h)));
      ready = λ j i h l. rw (front p j (short p j h)) (ready j i (short p j h) (omega (arith, front n j (omega (arith, s.nexts, short p j h)))));
      waits = λ j h. rw (front p j (omega (arith, shorter p)), front n j (omega (arith, s.nexts, shorter p))) (s.waits j (omega (arith, shorter p)));
      linked = λ j h. rw (front p j (omega (arith, shorter p)), front n j (omega (arith, s.nexts, shorter p)), front p (j + 1) (omega (arith, shorter p))) (s.linked j (omega (arith, shorter p)));
      opened = λ y h e' z. opened y h e' z;
    }
  where
    size : x < length r
    size = omega (arith, s.nodes top (omega arith), s.ranks)

    zero : get_or r x 0 ≡ 0
    zero = rw (sym is) (s.unranked top (omega arith))

    here : get_or (set r x (length o + 1)) x 0 ≡ length o + 1
    here = get_or-set_same r x (length o + 1) 0 size

    counted : (y : ℕ) → (y ≡ x) ⊎ (y ≡ x → ⊥) → get_or (set r x (length o + 1)) y 0 ≤ length (o ++ x ∷ [])
    counted y (inl q) = omega (arith, ap (λ k. get_or (set r x (length o + 1)) k 0) q, here, longer o x)
    counted y (inr q) = omega (arith, get_or-set_other r x y (length o + 1) 0 q, s.counted y, longer o x)

    placed : (i : ℕ) → i < length (o ++ x ∷ []) → (i < length o) ⊎ (length o ≤ i) → get_or (set r x (length o + 1)) (get_or (o ++ x ∷ []) i 0) 0 ≡ i + 1
    placed i h (inl lt) =
        let at = s.placed i lt in
        ap (λ k. get_or (set r x (length o + 1)) k 0) (old o x i lt) ∙ beside r x (length o + 1) (get_or o i 0) (omega arith) zero ∙ at
    placed i h (inr ge) =
        let q : i ≡ length o = omega (arith, longer o x) in
        ap (λ k. get_or (set r x (length o + 1)) (get_or (o ++ x ∷ []) k 0) 0) q ∙ ap (λ k. get_or (set r x (length o + 1)) k 0) (get_or-append_seam o x [] 0) ∙ here ∙ ap (λ k. k + 1) (sym q)

    back : (y : ℕ) → 0 < get_or (set r x (length o + 1)) y 0 → (y ≡ x) ⊎ (y ≡ x → ⊥) → get_or (o ++ x ∷ []) (get_or (set r x (length o + 1)) y 0 - 1) 0 ≡ y
    back y h (inl q) =
        let e : get_or (set r x (length o + 1)) y 0 - 1 ≡ length o = omega (arith, ap (λ k. get_or (set r x (length o + 1)) k 0) q, here) in
        ap (λ k. get_or (o ++ x ∷ []) k 0) e ∙ get_or-append_seam o x [] 0 ∙ sym q
    back y h (inr q) =
        let e = get_or-set_other r x y (length o + 1) 0 q in
        ap (λ k. get_or (o ++ x ∷ []) (k - 1) 0) e ∙ old o x (get_or r y 0 - 1) (omega (arith, s.counted y)) ∙ s.back y (omega arith)

    behind : (b i : ℕ) → 0 < get_or (set r x (length o + 1)) b 0 → i < length (reads_of g b) → (b ≡ x) ⊎ (b ≡ x → ⊥) → 0 < get_or (set r x (length o + 1)) (get_or (reads_of g b) i 0) 0
    behind b i h l (inl q) =
        let a : 0 < get_or r (get_or (reads_of g b) i 0) 0 = rw q (all i (rw (sym q) l)) in
        rw (beside r x (length o + 1) (get_or (reads_of g b) i 0) a zero) a
    behind b i h l (inr q) =
        let a : 0 < get_or r (get_or (reads_of g b) i 0) 0 = s.behind b i (omega (arith, get_or-set_other r x b (length o + 1) 0 q)) l in
        rw (beside r x (length o + 1) (get_or (reads_of g b) i 0) a zero) a

    rising : (b i : ℕ) → 0 < get_or (set r x (length o + 1)) b 0 → i < length (reads_of g b)
        → (b ≡ x) ⊎ (b ≡ x → ⊥) → get_or (set r x (length o + 1)) (get_or (reads_of g b) i 0) 0
        < get_or (set r x (length o + 1)) b 0
    rising b i h l (inl q) =
        let a : 0 < get_or r (get_or (reads_of g b) i 0) 0 = rw q (all i (rw (sym q) l)) in
        omega (arith, beside r x (length o + 1) (get_or (reads_of g b) i 0) a zero, s.counted (get_or (reads_of g b) i 0), ap (λ k. get_or (set r x (length o + 1)) k 0) q, here)
    rising b i h l (inr q) =
        let o' = get_or-set_other r x b (length o + 1) 0 q in
        let a : 0 < get_or r (get_or (reads_of g b) i 0) 0 = s.behind b i (omega (arith, o')) l in
        omega (arith, beside r x (length o + 1) (get_or (reads_of g b) i 0) a zero, s.rising b i (omega (arith, o')) l, o')

    unranked : (j : ℕ) → j + 1 < length p → get_or (set r x (length o + 1)) (get_or p j 0) 0 ≡ 0
    unranked j h =
        get_or-set_other r x (get_or p j 0) (length o + 1) 0 (λ (q : get_or p j 0 ≡ x). s.apart j top (omega arith) (omega arith) (q ∙ sym is)) ∙ s.unranked j (omega arith)

    ready : (j i : ℕ) → j + 1 < length p → i < get_or n j 0 → 0 < get_or (set r x (length o + 1)) (get_or (reads_of g (get_or p j 0)) i 0) 0
    ready j i h l =
        let a = s.ready j i (omega arith) l in
        rw (beside r x (length o + 1) (get_or (reads_of g (get_or p j 0)) i 0) a zero) a

    opened : (y : ℕ) → y < length g → get_or f y false ≡ false → get_or (set r x (length o + 1)) y 0 ≡ 0 → IsOn (take (length p - 1) p) y
    opened y h e' z =
        let ne : y ≢ x = λ (q : y ≡ x). absurd (omega (arith, ap (λ k. get_or (set r x (length o + 1)) k 0) q, here)) in
        let on = s.opened y h e' (sym (get_or-set_other r x y (length o + 1) 0 ne) ∙ z) in
        let nt : on.0 ≢ top = λ (q : on.0 ≡ top). ne (sym on.2 ∙ ap (λ k. get_or p k 0) q ∙ is) in
        let lt : on.0 + 1 < length p = omega (arith, on.1, nt) in
        (on.0, omega (arith, shorter p), front p on.0 lt ∙ on.2)

-- the reads of the top node that are behind it, and those that were passed over
pub all_ready : (g : List (List ℕ)) (r : List ℕ) (f : List Bool) (p n o : List ℕ) (top at i : ℕ)
    → Searches g r f p n o → top < length p → ((k : ℕ) → get_or n top 0 ≤ k → k < at
    → 0 < get_or r (get_or (reads_of g (get_or p top 0)) k 0) 0) → i < at
    → 0 < get_or r (get_or (reads_of g (get_or p top 0)) i 0) 0
all_ready g r f p n o top at i s lt passed h = by_place (cases_lt i (get_or n top 0))
  where
    by_place : (i < get_or n top 0) ⊎ (get_or n top 0 ≤ i) → 0 < get_or r (get_or (reads_of g (get_or p top 0)) i 0) 0
    by_place (inl l) = s.ready top i lt l
    by_place (inr l) = passed i l h

-- after the last node of the path was closed
pub record Closed (g : List (List ℕ)) (s t : State) : Type 0 where
  pub searches : Searches g t.rank.items t.fresh.items t.path.items t.next.items t.order.items
  pub kept : (y : ℕ) → 0 < get_or s.rank.items y 0 → 0 < get_or t.rank.items y 0
  pub root : 0 < length t.path.items → get_or t.path.items 0 0 ≡ get_or s.path.items 0 0
  pub ended : length t.path.items ≡ 0 → 0 < get_or t.rank.items (get_or s.path.items 0 0) 0
  pub less : work t.fresh.items t.path.items < work s.fresh.items s.path.items

pub closed : (g : List (List ℕ)) (s t : State) (top x at : ℕ)
    → Searches g s.rank.items s.fresh.items s.path.items s.next.items s.order.items
    → top + 1 ≡ length s.path.items → get_or s.path.items top 0 ≡ x
    → ((k : ℕ) → get_or s.next.items top 0 ≤ k → k < at
    → 0 < get_or s.rank.items (get_or (reads_of g x) k 0) 0) → at ≡ length (reads_of g x)
    → IsClosed s t x → Closed g s t
closed g s t top x at h e is passed whole c =
    record {
      searches = rw (c.rank, c.fresh, c.path, c.next, c.order) (closes g s.rank.items s.fresh.items s.path.items s.next.items s.order.items top x h e is all);
      kept = λ y pos. rw (c.rank, beside s.rank.items x (length s.order.items + 1) y pos zero) pos;
      root = λ some. ap (λ (l : List ℕ). get_or l 0 0) c.path ∙ front s.path.items 0 (omega (arith, shorter s.path.items, ap (λ (l : List ℕ). length l) c.path));
      ended = λ none. rw (c.rank) (rw (first none) (omega (arith, get_or-set_same s.rank.items x (length s.order.items + 1) 0 size)));
      less = rw (c.fresh, c.path, shorter s.path.items) (omega arith);
    }
  where
    zero : get_or s.rank.items x 0 ≡ 0
    zero = rw (sym is) (h.unranked top (omega arith))

    size : x < length s.rank.items
    size = omega (arith, h.nodes top (omega arith), h.ranks)

    first : length t.path.items ≡ 0 → get_or s.path.items 0 0 ≡ x
    first none =
        let z : 0 ≡ top = omega (arith, shorter s.path.items, ap (λ (l : List ℕ). length l) c.path) in
        ap (λ k. get_or s.path.items k 0) z ∙ is

    all : (i : ℕ) → i < length (reads_of g x) → 0 < get_or s.rank.items (get_or (reads_of g x) i 0) 0
    all i l =
        rw (sym is) (all_ready g s.rank.items s.fresh.items s.path.items s.next.items s.order.items top at i h (omega arith) (λ k a b. rw is (passed k a b)) (omega arith))

-- after a node was opened
pub opened : (g : List (List ℕ)) (s t : State) (r : List ℕ) (f : List Bool) (p n o : List ℕ)
    (x : ℕ) → Searches g r f p n o → Waits g p n x → x < length g → get_or f x false ≡ true
    → get_or r x 0 ≡ 0 → s.rank.items ≡ r → s.fresh.items ≡ f → s.path.items ≡ p
    → s.next.items ≡ n → s.order.items ≡ o → IsOpened s t x
    → Searches g t.rank.items t.fresh.items t.path.items t.next.items t.order.items
opened g s t r f p n o x h w lt fresh zero er ef ep en eo c =
    rw (c.rank, c.fresh, c.path, c.next, c.order, er, ef, ep, en, eo) (opens g r f p n o x h w lt fresh zero)

pub work_less : (s t : State) (f : List Bool) (p : List ℕ) (x : ℕ) → x < length f
    → get_or f x false ≡ true → s.fresh.items ≡ f → s.path.items ≡ p → IsOpened s t x
    → work t.fresh.items t.path.items < work f p
work_less s t f p x lt fresh ef ep c =
    rw (c.fresh, c.path, ef, ep) (omega (arith, sum_by-set weight f x false false lt, ap weight fresh, longer p x))

-- a node that waits for one on the path
pub stuck : (g : List (List ℕ)) (r : List ℕ) (f : List Bool) (p n o : List ℕ) (x at : ℕ) → Searches g r f p n o → Waits g p n x → 0 < length p → at < length p → get_or p at 0 ≡ x → IsStuck g p at
stuck g r f p n o x at h w some lt is =
    let l = w.link (length p - 1) (omega arith) in
    record {
      place = lt;
      nodes = h.nodes;
      each = λ j b. (get_or n j 0, h.waits j b, h.linked j b);
      last = (get_or n (length p - 1) 0, l.0, l.1 ∙ sym is);
    }

pub waits_set : (g : List (List ℕ)) (p n : List ℕ) (top at x : ℕ) → top + 1 ≡ length p
    → length n ≡ length p → at < length (reads_of g (get_or p top 0))
    → get_or (reads_of g (get_or p top 0)) at 0 ≡ x → Waits g p (set n top at) x
waits_set g p n top at x e len lt is = record { link = link }
  where
    link : (j : ℕ) → j + 1 ≡ length p → (get_or (set n top at) j 0 < length (reads_of g (get_or p j 0))) × (get_or (reads_of g (get_or p j 0)) (get_or (set n top at) j 0) 0 ≡ x)
    link j h =
        let q : j ≡ top = omega arith in
        rw (q, get_or-set_same n top at 0 (omega arith)) (lt, is)

-- the last node of the path waits for one of its reads
pub record Waiting (g : List (List ℕ)) (r : List ℕ) (f : List Bool) (p n o : List ℕ) (x : ℕ) : Type 0 where
  pub searches : Searches g r f p n o
  pub waits : Waits g p n x
  pub node : x < length g
  pub zero : get_or r x 0 ≡ 0
  pub some : 0 < length p

pub waiting : (g : List (List ℕ)) (r : List ℕ) (f : List Bool) (p n o : List ℕ)
    (top node at : ℕ) (reads : List ℕ) → IsGraph g → Searches g r f p n o → top + 1 ≡ length p
    → node ≡ get_or p top node → reads ≡ reads_of g node → at ≤ length reads → at ≢ length reads
    → ((k : ℕ) → get_or n top 0 ≤ k → k < at → 0 < get_or r (get_or reads k 0) 0)
    → (at < length reads → get_or r (get_or reads at 0) 0 ≡ 0)
    → Waiting g r f p (set n top at) o (get_or reads at 0)
waiting g r f p n o top node at reads graph s e is row le ne passed zero =
    record {
      searches = advances g r f p n o top at s e (rw here (omega (
        arith,
        ap (λ (l : List ℕ). length l) row,
      ))) (λ i h. all_ready g r f p n o top at i s
          (omega arith) (λ k a b. rw (here, sym row) (passed k a b)) h);
      waits = waits_set g p n top at (get_or reads at 0) e s.nexts (rw here (omega (arith, ap (λ (l : List ℕ). length l) row))) (rw (here, row) refl);
      node = rw row (graph node at (omega (arith, ap (λ (l : List ℕ). length l) row)));
      zero = zero (omega arith);
      some = omega arith;
    }
  where
    here : get_or p top 0 ≡ node
    here = sym (is ∙ get_or_default_zero p top node (omega arith))
