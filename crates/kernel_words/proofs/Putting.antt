-- Streams of which one word more is known.
use Rattle.std.proofs.Common.{
  ◌≡◌,
  ◌∙◌,
  ℕ,
  zero,
  suc,
  ◌≤◌,
  ◌<◌,
  Bool,
  true,
  false,
  cond,
  ◌&&◌,
  ltb,
  List,
  length,
  get_or,
  Option,
  Some,
  None,
  refl,
  sym,
  ap,
  subst,
  arith,
  inl,
  inr,
  ◌⊎◌,
  ⊎_elim,
}
use Rattle.std.specs.Prelude.{ℤ, pos, negsuc, ◌+ℤ◌, ◌^◌}
use Rattle.std.proofs.lemmas.Bool.{false≢true, ltb-true, lt-ltb, cases_lt, cases_eq}
use Rattle.std.proofs.lemmas.Int.{ints}
use Rattle.stream_graph.specs.declared.node.Kind.TheVariants as K
use Rattle.stream_graph.specs.declared.node.Node.{Node}
use Rattle.stream_graph.specs.LookUps.{kind_at, operands_at, operand_at, width_at}
use Rattle.stream_graph.proofs.NodeLemmas.{IsOrderly}
use Rattle.stream_equations.specs.Equations.{enabled, count_before, right_side}
use Rattle.kernel_types.specs.Types.{AreTyped}
use Rattle.kernel_family.specs.declared.place.Place.{Place}
use Rattle.kernel_words.specs.declared.run.KernelRun.{KernelRun}
use Rattle.kernel_words.specs.declared.streams.Streams.{Streams}
use Rattle.kernel_family.specs.Steps.{keeps, ahead, IsStep, over, back}
use Rattle.kernel_words.specs.Streams.{given_of, shown, cell_at, values_of, AreWords}
use Rattle.kernel_words.specs.Filling.{is_open, cell_of, IsPut, IsPlace, IsKnown, AreKnown, IsFilling, IsTaken, StayKnown}
use Rattle.kernel_family.proofs.Sides.{ReadSame, enabled_same, same_side, count_same}
use Rattle.kernel_family.proofs.Families.{keeps_now}

no_word : (b : Bool) (u v : Option ℕ) → cond (b && false) u None ≡ cond (b && false) v None
no_word true u v = refl
no_word false u v = refl

shown_word : (word : Option ℕ) → shown (cell_of word) ≡ word
shown_word None = refl
shown_word (Some bits) = refl

known_word : (word : Option ℕ) → is_open (cell_of word) ≡ false
known_word None = refl
known_word (Some bits) = refl

-- the word of a place of the run is what its cell shows
pub value_there : (streams : Streams) (n t : ℕ) → n < streams.nodes → t < streams.ticks
    → values_of streams n (pos t) ≡ shown (cell_at streams n t)
value_there streams n t h l =
    ap (λ b. cond (b && ltb t streams.ticks) (shown (cell_at streams n t)) None) (lt-ltb n streams.nodes h)
    ∙ ap (λ b. cond b (shown (cell_at streams n t)) None) (lt-ltb t streams.ticks l)

-- a node that keeps something is known in all ticks before one in which it is
pub back_known : (nodes : List Node) (run : KernelRun) (streams : Streams) (taken : List ℕ) → IsFilling nodes run streams taken
    → (n t s : ℕ) → keeps (kind_at nodes n) ≡ true → n < length nodes → t < streams.ticks
    → IsKnown streams (record { node = n; tick = t }) → s ≤ t → IsKnown streams (record { node = n; tick = s })
back_known nodes run streams taken f n zero s k h l known m =
    let e : 0 ≡ s = omega (arith, m) in
    subst (λ u. IsKnown streams (record { node = n; tick = u })) e known
back_known nodes run streams taken f n (suc t) s k h l known m = ⊎_elim
    (λ (g : s < suc t).
    back_known nodes run streams taken f n t s k h (omega (arith, l))
    (f.closed (record { node = n; tick = suc t }) (record { node = h; tick = l }) known (record { node = n; tick = t })
    (back k refl refl) (record { node = h; tick = omega (arith, l) })) (omega (arith, g)))
    (λ (g : suc t ≤ s).
    let e : suc t ≡ s = omega (arith, m, g) in
    subst (λ u. IsKnown streams (record { node = n; tick = u })) e known)
    (cases_lt s (suc t))

module _ (nodes : List Node) (run : KernelRun) (o : IsOrderly nodes) (typed : AreTyped nodes) (old new : Streams)
    (taken later : List ℕ) (a : Place) (word : Option ℕ) (f : IsFilling nodes run old taken)
    (at : IsPlace nodes old.ticks a) (free_cell : is_open (cell_at old a.node a.tick) ≡ true)
    (known : AreKnown nodes old a) (put : IsPut old new a word)
  where
    abbrev IsOther : ℕ → ℕ → Type 0
    IsOther n t = n ≡ a.node → t ≡ a.tick → ⊥

    decide : (n t : ℕ) → ((n ≡ a.node) × (t ≡ a.tick)) ⊎ IsOther n t
    decide n t = ⊎_elim
        (λ (p : n ≡ a.node). ⊎_elim (λ (q : t ≡ a.tick). inl (p, q)) (λ (q : t ≡ a.tick → ⊥). inr (λ x y. q y)) (cases_eq t a.tick))
        (λ (p : n ≡ a.node → ⊥). inr (λ x y. p x))
        (cases_eq n a.node)

    known_other : (b : Place) → IsKnown old b → IsOther b.node b.tick
    known_other b k n t = false≢true (sym k ∙ (λ i. is_open (cell_at old (n i) (t i))) ∙ free_cell)

    same_value : (n : ℕ) (t : ℤ) → ((s : ℕ) → t ≡ pos s → IsOther n s) → values_of new n t ≡ values_of old n t
    same_value n (negsuc t) h = refl
    same_value n (pos t) h =
        ap (λ m. cond (ltb n m && ltb t new.ticks) (shown (cell_at new n t)) None) put.nodes
        ∙ ap (λ m. cond (ltb n old.nodes && ltb t m) (shown (cell_at new n t)) None) put.ticks
        ∙ by_test (ltb t old.ticks) refl
      where
        by_test : (b : Bool) → ltb t old.ticks ≡ b
            → cond (ltb n old.nodes && ltb t old.ticks) (shown (cell_at new n t)) None
            ≡ cond (ltb n old.nodes && ltb t old.ticks) (shown (cell_at old n t)) None
        by_test true e =
            ap (λ c. cond (ltb n old.nodes && ltb t old.ticks) (shown c) None)
            (put.others n t (ltb-true t old.ticks e) (h t refl))
        by_test false e =
            ap (λ b. cond (ltb n old.nodes && b) (shown (cell_at new n t)) None) e
            ∙ no_word (ltb n old.nodes) (shown (cell_at new n t)) (shown (cell_at old n t))
            ∙ sym (ap (λ b. cond (ltb n old.nodes && b) (shown (cell_at old n t)) None) e)

    value_here : values_of new a.node (pos a.tick) ≡ word
    value_here =
        let n = at.node in
        let t = at.tick in
        let sized = f.sized in
        let nodes_same = put.nodes in
        let ticks_same = put.ticks in
        value_there new a.node a.tick (omega (arith, n, sized, nodes_same)) (omega (arith, t, ticks_same))
        ∙ ap shown put.here ∙ shown_word word

    pub known_here : IsKnown new a
    known_here = ap is_open put.here ∙ known_word word

    pub known_new : StayKnown nodes old new
    known_new b h k = ap is_open (put.others b.node b.tick h.tick (known_other b k)) ∙ k

    known_old : (b : Place) → IsPlace nodes old.ticks b → IsOther b.node b.tick → IsKnown new b → IsKnown old b
    known_old b h other k = sym (ap is_open (put.others b.node b.tick h.tick other)) ∙ k

    to_old : (b : Place) → IsPlace nodes new.ticks b → IsPlace nodes old.ticks b
    to_old b h = record { node = h.node; tick = subst (λ t. b.tick < t) put.ticks h.tick }

    -- what a known place reads didn't change
    read_same : (b : Place) → IsPlace nodes old.ticks b → AreKnown nodes old b
        → ReadSame nodes (values_of new) (values_of old) b.node b.tick
    read_same b h all = record { now = now; before = before }
      where
        now : (i : ℕ) → i < length (operands_at nodes b.node)
            → values_of new (operand_at nodes b.node i) (pos b.tick +ℤ ahead (kind_at nodes b.node))
            ≡ values_of old (operand_at nodes b.node i) (pos b.tick +ℤ ahead (kind_at nodes b.node))
        now i l = same_value (operand_at nodes b.node i) (pos b.tick +ℤ ahead (kind_at nodes b.node)) (λ s e p q.
            let c : Place = record { node = operand_at nodes b.node i; tick = s } in
            let inside : s < old.ticks = subst (λ t. t < old.ticks) (sym q) at.tick in
            known_other c (all c (over i l refl (sym e)) (record { node = o.operands b.node i h.node l; tick = inside })) p q)

        here : (s : ℕ) → keeps (kind_at nodes b.node) ≡ true → s ≤ b.tick → IsPlace nodes old.ticks (record { node = b.node; tick = s })
        here s e m = record { node = h.node; tick = (let l = h.tick in omega (arith, l, m)) }

        zeroth : keeps (kind_at nodes b.node) ≡ true → (s : ℕ) → pos s ≡ (pos s +ℤ ahead (kind_at nodes b.node))
        zeroth e s = let z = keeps_now (kind_at nodes b.node) e in omega (arith, ints, z)

        operand_known : keeps (kind_at nodes b.node) ≡ true → (i s : ℕ) → i < length (operands_at nodes b.node) → s ≤ b.tick
            → IsKnown old (record { node = operand_at nodes b.node i; tick = s })
        operand_known e i s l m = ⊎_elim
            (λ (g : s < b.tick). earlier b.tick refl g)
            (λ (g : b.tick ≤ s).
            let same : s ≡ b.tick = omega (arith, g, m) in
            all (record { node = operand_at nodes b.node i; tick = s })
            (over i l refl (zeroth e s ∙ ap (λ t. pos t +ℤ ahead (kind_at nodes b.node)) same))
            (record { node = o.operands b.node i h.node l; tick = (here s e m).tick }))
            (cases_lt s b.tick)
          where
            earlier : (t : ℕ) → b.tick ≡ t → s < t → IsKnown old (record { node = operand_at nodes b.node i; tick = s })
            earlier zero q g = absurd (omega (arith, g))
            earlier (suc t) q g =
                let lt : t < old.ticks = (let x = h.tick in omega (arith, x, q)) in
                let last = all (record { node = b.node; tick = t }) (back e refl q) (record { node = h.node; tick = lt }) in
                let mine = back_known nodes run old taken f b.node t s e h.node lt last (omega (arith, g)) in
                f.closed (record { node = b.node; tick = s }) (here s e m) mine
                (record { node = operand_at nodes b.node i; tick = s }) (over i l refl (zeroth e s))
                (record { node = o.operands b.node i h.node l; tick = (here s e m).tick })

        before : keeps (kind_at nodes b.node) ≡ true → (i s : ℕ) → i < length (operands_at nodes b.node) → s ≤ b.tick
            → values_of new (operand_at nodes b.node i) (pos s) ≡ values_of old (operand_at nodes b.node i) (pos s)
        before e i s l m = same_value (operand_at nodes b.node i) (pos s) (λ u q.
            let same : s ≡ u = omega (arith, ints, q) in
            subst (λ v. IsOther (operand_at nodes b.node i) v) same
            (known_other (record { node = operand_at nodes b.node i; tick = s }) (operand_known e i s l m)))

    side_same : (b : Place) → IsPlace nodes old.ticks b → AreKnown nodes old b
        → right_side nodes (given_of run) (values_of new) b.node b.tick (kind_at nodes b.node)
        ≡ right_side nodes (given_of run) (values_of old) b.node b.tick (kind_at nodes b.node)
    side_same b h all =
        same_side nodes (values_of new) (values_of old) typed (given_of run) b.node b.tick h.node (read_same b h all)

    module _ (right : word ≡ right_side nodes (given_of run) (values_of old) a.node a.tick (kind_at nodes a.node))
        (small : (x : ℕ) → word ≡ Some x → x < 2 ^ width_at nodes a.node) (count : IsTaken nodes old taken later a)
      where
        right_new : (b : Place) → IsPlace nodes new.ticks b → IsKnown new b
            → values_of new b.node (pos b.tick)
            ≡ right_side nodes (given_of run) (values_of new) b.node b.tick (kind_at nodes b.node)
        right_new b h k = by_place (decide b.node b.tick)
          where
            by_place : ((b.node ≡ a.node) × (b.tick ≡ a.tick)) ⊎ IsOther b.node b.tick
                → values_of new b.node (pos b.tick)
                ≡ right_side nodes (given_of run) (values_of new) b.node b.tick (kind_at nodes b.node)
            by_place (inl p) =
                let e : a ≡ b = sym (λ i. record { node = p.0 i; tick = p.1 i }) in
                subst (λ (c : Place). values_of new c.node (pos c.tick)
                ≡ right_side nodes (given_of run) (values_of new) c.node c.tick (kind_at nodes c.node)) e
                (value_here ∙ right ∙ sym (side_same a at known))
            by_place (inr other) =
                let g = to_old b h in
                let was = known_old b g other k in
                same_value b.node (pos b.tick) (λ s q. let same : b.tick ≡ s = omega (arith, ints, q) in subst (IsOther b.node) same other)
                ∙ f.right b g was ∙ sym (side_same b g (f.closed b g was))

        closed_new : (b : Place) → IsPlace nodes new.ticks b → IsKnown new b → AreKnown nodes new b
        closed_new b h k d s i = by_place (decide b.node b.tick)
          where
            by_place : ((b.node ≡ a.node) × (b.tick ≡ a.tick)) ⊎ IsOther b.node b.tick → IsKnown new d
            by_place (inl p) =
                let e : b ≡ a = λ j. record { node = p.0 j; tick = p.1 j } in
                known_new d (to_old d i) (known d (subst (λ c. IsStep nodes c d) e s) (to_old d i))
            by_place (inr other) =
                let g = to_old b h in
                known_new d (to_old d i) (f.closed b g (known_old b g other k) d s (to_old d i))

        words_new : AreWords nodes (values_of new)
        words_new n (negsuc t) x h e = absurd (cc)
        words_new n (pos t) x h e = by_place (decide n t)
          where
            by_place : ((n ≡ a.node) × (t ≡ a.tick)) ⊎ IsOther n t → x < 2 ^ width_at nodes n
            by_place (inl p) =
                let there : values_of new a.node (pos a.tick) ≡ Some x =
                (λ i. values_of new (sym p.0 i) (pos (sym p.1 i))) ∙ e in
                subst (λ m. x < 2 ^ width_at nodes m) (sym p.0) (small x (sym value_here ∙ there))
            by_place (inr other) =
                f.words n (pos t) x h
                (sym (same_value n (pos t) (λ s q. let same : t ≡ s = omega (arith, ints, q) in subst (IsOther n) same other)) ∙ e)

        -- the ticks of a known input that are enabled are those that were
        counted_before : (b : Place) → IsPlace nodes old.ticks b → AreKnown nodes old b → keeps (kind_at nodes b.node) ≡ true
            → (s : ℕ) → s ≤ b.tick → enabled nodes (values_of new) b.node s ≡ enabled nodes (values_of old) b.node s
        counted_before b h all e s m =
            enabled_same nodes (values_of new) (values_of old) b.node s (λ i l. (read_same b h all).before e i s l m)

        counts_same : (b : Place) → IsPlace nodes old.ticks b → AreKnown nodes old b → keeps (kind_at nodes b.node) ≡ true
            → (t : ℕ) → t ≤ suc b.tick
            → count_before (enabled nodes (values_of new) b.node) t ≡ count_before (enabled nodes (values_of old) b.node) t
        counts_same b h all e t m =
            count_same (enabled nodes (values_of new) b.node) (enabled nodes (values_of old) b.node) t
            (λ s l. counted_before b h all e s (omega (arith, l, m)))

        -- up to the place, the ticks of a node that keeps something are known now
        known_up_to : keeps (kind_at nodes a.node) ≡ true → (t : ℕ) → t ≤ a.tick → IsKnown new (record { node = a.node; tick = t })
        known_up_to e t m = ⊎_elim
            (λ (l : t < a.tick). earlier a.tick refl l)
            (λ (g : a.tick ≤ t).
            let same : a.tick ≡ t = omega (arith, g, m) in
            subst (λ u. IsKnown new (record { node = a.node; tick = u })) same known_here)
            (cases_lt t a.tick)
          where
            earlier : (u : ℕ) → a.tick ≡ u → t < u → IsKnown new (record { node = a.node; tick = t })
            earlier zero q l = absurd (omega (arith, l))
            earlier (suc u) q l =
                let inside : suc u < old.ticks = subst (λ v. v < old.ticks) q at.tick in
                let last = known (record { node = a.node; tick = u }) (back e refl q) (record { node = at.node; tick = omega (arith, inside) }) in
                known_new (record { node = a.node; tick = t }) (record { node = at.node; tick = omega (arith, inside, l) })
                (back_known nodes run old taken f a.node u t e at.node (omega (arith, inside)) last (omega (arith, l)))

        counted_here : kind_at nodes a.node ≡ K.Input
            → get_or later a.node 0 ≡ count_before (enabled nodes (values_of new) a.node) (suc a.tick)
        counted_here k =
            let e : keeps (kind_at nodes a.node) ≡ true = ap keeps k in
            let told : get_or taken a.node 0 ≡ count_before (enabled nodes (values_of old) a.node) a.tick =
            f.counted a at k free_cell (λ s q. known (record { node = a.node; tick = s }) (back e refl q)
            (record { node = at.node; tick = (let l = at.tick in omega (arith, l, q)) })) in
            let now : enabled nodes (values_of new) a.node a.tick ≡ enabled nodes (values_of old) a.node a.tick =
            counted_before a at known e a.tick (omega arith) in
            let before : count_before (enabled nodes (values_of new) a.node) a.tick ≡ count_before (enabled nodes (values_of old) a.node) a.tick =
            counts_same a at known e a.tick (omega arith) in
            let so_far : get_or taken a.node 0 ≡ count_before (enabled nodes (values_of new) a.node) a.tick = told ∙ sym before in
            count.here k
            ∙ ap (λ b. cond b (suc (get_or taken a.node 0)) (get_or taken a.node 0)) (sym now)
            ∙ ap (λ x. cond (enabled nodes (values_of new) a.node a.tick) (suc x) x) so_far

        counted_mine : (t : ℕ) → t < old.ticks → kind_at nodes a.node ≡ K.Input → is_open (cell_at new a.node t) ≡ true
            → ((s : ℕ) → t ≡ suc s → IsKnown new (record { node = a.node; tick = s }))
            → get_or later a.node 0 ≡ count_before (enabled nodes (values_of new) a.node) t
        counted_mine t l k free before = ⊎_elim
            (λ (g : a.tick < t). after t refl g)
            (λ (g : t ≤ a.tick). absurd (false≢true (sym (known_up_to (ap keeps k) t g) ∙ free)))
            (cases_lt a.tick t)
          where
            never : (s : ℕ) → a.tick < s → s < old.ticks → IsKnown new (record { node = a.node; tick = s }) → ⊥
            never s g m n =
                let was = known_old (record { node = a.node; tick = s }) (record { node = at.node; tick = m })
                (λ p q. omega (arith, q, g)) n in
                false≢true (sym (back_known nodes run old taken f a.node s a.tick (ap keeps k) at.node m was (omega (arith, g))) ∙ free_cell)

            after : (u : ℕ) → t ≡ u → a.tick < u → get_or later a.node 0 ≡ count_before (enabled nodes (values_of new) a.node) t
            after zero q g = absurd (omega (arith, g))
            after (suc s) q g = ⊎_elim
                (λ (m : a.tick < s). absurd (never s m (omega (arith, l, q)) (before s q)))
                (λ (m : s ≤ a.tick).
                let same : suc a.tick ≡ t = omega (arith, m, g, q) in
                subst (λ v. get_or later a.node 0 ≡ count_before (enabled nodes (values_of new) a.node) v) same (counted_here k))
                (cases_lt a.tick s)

        counted_other : (b : Place) → IsPlace nodes old.ticks b → (b.node ≡ a.node → ⊥) → kind_at nodes b.node ≡ K.Input
            → is_open (cell_at new b.node b.tick) ≡ true
            → ((s : ℕ) → b.tick ≡ suc s → IsKnown new (record { node = b.node; tick = s }))
            → get_or later b.node 0 ≡ count_before (enabled nodes (values_of new) b.node) b.tick
        counted_other b g other k free before =
            count.rest b.node other ∙ f.counted b g k was was_before ∙ sym (counts b.tick refl)
          where
            was : is_open (cell_at old b.node b.tick) ≡ true
            was = sym (ap is_open (put.others b.node b.tick g.tick (λ p q. other p))) ∙ free

            place : (s : ℕ) → b.tick ≡ suc s → IsPlace nodes old.ticks (record { node = b.node; tick = s })
            place s q = record { node = g.node; tick = (let l = g.tick in omega (arith, l, q)) }

            was_before : (s : ℕ) → b.tick ≡ suc s → IsKnown old (record { node = b.node; tick = s })
            was_before s q = known_old (record { node = b.node; tick = s }) (place s q) (λ p r. other p) (before s q)

            counts : (t : ℕ) → b.tick ≡ t
                → count_before (enabled nodes (values_of new) b.node) b.tick ≡ count_before (enabled nodes (values_of old) b.node) b.tick
            counts zero q =
                ap (count_before (enabled nodes (values_of new) b.node)) q ∙ sym (ap (count_before (enabled nodes (values_of old) b.node)) q)
            counts (suc s) q =
                let c : Place = record { node = b.node; tick = s } in
                counts_same c (place s q) (f.closed c (place s q) (was_before s q)) (ap keeps k) b.tick (omega (arith, q))

        counted_new : (b : Place) → IsPlace nodes new.ticks b → kind_at nodes b.node ≡ K.Input
            → is_open (cell_at new b.node b.tick) ≡ true
            → ((s : ℕ) → b.tick ≡ suc s → IsKnown new (record { node = b.node; tick = s }))
            → get_or later b.node 0 ≡ count_before (enabled nodes (values_of new) b.node) b.tick
        counted_new b h k free before = ⊎_elim
            (λ (p : b.node ≡ a.node).
            subst (λ m. get_or later m 0 ≡ count_before (enabled nodes (values_of new) m) b.tick) (sym p)
            (counted_mine b.tick (to_old b h).tick (subst (λ m. kind_at nodes m ≡ K.Input) p k)
            (subst (λ m. is_open (cell_at new m b.tick) ≡ true) p free)
            (λ s e. subst (λ m. IsKnown new (record { node = m; tick = s })) p (before s e))))
            (λ (p : b.node ≡ a.node → ⊥). counted_other b (to_old b h) p k free before)
            (cases_eq b.node a.node)

        pub filled : IsFilling nodes run new later
        filled = record {
          sized = put.nodes ∙ f.sized;
          timed = put.ticks ∙ f.timed;
          counts = count.counts ∙ f.counts;
          right = right_new;
          closed = closed_new;
          words = words_new;
          counted = counted_new;
        }
