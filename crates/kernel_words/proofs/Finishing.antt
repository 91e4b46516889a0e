-- Streams at the begin, and when all words are known.
use Rattle.std.proofs.Common.{replicate, ◌≡◌, ◌∙◌, ℕ, zero, suc, ◌+◌, ◌++◌, [], ◌∷◌, take, ⊎_elim, ◌≤◌, ◌<◌, Bool}
use Rattle.std.proofs.Common.{true, false, cond, ◌&&◌, ltb, List, length, get_or, Option, None, refl, ap, sym, subst, arith}
use Rattle.std.specs.Prelude.{ℤ, pos, negsuc}
use Rattle.std.proofs.lemmas.Bool.{false≢true, ltb-true, cases_lt}
use Rattle.std.proofs.lemmas.List.{get_or_past, get_or-replicate, length-replicate}
use Rattle.std.proofs.lemmas.Int.{ints}
use Rattle.stream_graph.specs.declared.node.Node.{Node}
use Rattle.stream_equations.specs.Equations.{StreamEquations, IsInRun, count_before}
use Rattle.kernel_family.specs.declared.place.Place.{Place}
use Rattle.kernel_words.specs.declared.cell.Cell.TheVariants.{Open}
use Rattle.kernel_words.specs.declared.run.KernelRun.{KernelRun}
use Rattle.kernel_words.specs.declared.streams.Streams.{Streams}
use Rattle.kernel_words.specs.Streams.{given_of, shown, cell_at, values_of, AreWords}
use Rattle.kernel_words.specs.Filling.{is_open, IsPlace, IsKnown, IsFilling, StayKnown}

both_none : (b : Bool) (u : Option ℕ) → cond (b && false) u None ≡ None
both_none true u = refl
both_none false u = refl

either_none : (b : Bool) → cond b (shown Open) None ≡ None
either_none true = refl
either_none false = refl

-- ---- at the begin

module _ (nodes : List Node) (run : KernelRun) (streams : Streams) (taken : List ℕ) (sized : streams.nodes ≡ length nodes)
    (timed : streams.ticks ≡ run.ticks) (counts : length taken ≡ length nodes) (none : (n : ℕ) → get_or taken n 0 ≡ 0)
    (free : (n t : ℕ) → cell_at streams n t ≡ Open)
  where
    never : (a : Place) → IsKnown streams a → ⊥
    never a k = false≢true (sym k ∙ ap is_open (free a.node a.tick))

    no_words : AreWords nodes (values_of streams)
    no_words n (negsuc t) x h e = absurd (cc)
    no_words n (pos t) x h e =
        let q : values_of streams n (pos t) ≡ None =
        ap (λ c. cond (ltb n streams.nodes && ltb t streams.ticks) (shown c) None) (free n t)
        ∙ either_none (ltb n streams.nodes && ltb t streams.ticks) in
        absurd (cc)

    pub nothing_known : IsFilling nodes run streams taken
    nothing_known = record {
      sized = sized;
      timed = timed;
      counts = counts;
      right = λ a h k. absurd (never a k);
      closed = λ a h k. absurd (never a k);
      words = no_words;
      counted = λ a h k e before. by_tick a a.tick refl before;
    }
      where
        by_tick : (a : Place) (t : ℕ) → a.tick ≡ t → ((s : ℕ) → a.tick ≡ suc s → IsKnown streams (record { node = a.node; tick = s }))
            → get_or taken a.node 0 ≡ count_before (Rattle.stream_equations.specs.Equations.enabled nodes (values_of streams) a.node) a.tick
        by_tick a zero q before = none a.node ∙ sym (ap (count_before (Rattle.stream_equations.specs.Equations.enabled nodes (values_of streams) a.node)) q)
        by_tick a (suc s) q before = absurd (never (record { node = a.node; tick = s }) (before s q))

-- ---- at the end

-- there are no words outside a run
pub past_run : (streams : Streams) (n : ℕ) (t : ℤ) → (IsInRun streams.ticks t → ⊥) → values_of streams n t ≡ None
past_run streams n (negsuc t) out = refl
past_run streams n (pos t) out = by_test (ltb t streams.ticks) refl
  where
    by_test : (b : Bool) → ltb t streams.ticks ≡ b → values_of streams n (pos t) ≡ None
    by_test true e =
        let l = ltb-true t streams.ticks e in
        absurd (out (omega (arith, ints), omega (arith, ints, l)))
    by_test false e =
        ap (λ b. cond (ltb n streams.nodes && b) (shown (cell_at streams n t)) None) e ∙ both_none (ltb n streams.nodes) (shown (cell_at streams n t))

pub all_known : (nodes : List Node) (run : KernelRun) (streams : Streams) (taken : List ℕ) → IsFilling nodes run streams taken
    → ((b : Place) → IsPlace nodes streams.ticks b → IsKnown streams b) → StreamEquations nodes (given_of run) (values_of streams)
all_known nodes run streams taken f known = record {
  inside = λ n t h l.
      let a : Place = record { node = n; tick = t } in
      let at : IsPlace nodes streams.ticks a = record { node = h; tick = subst (λ k. t < k) (sym f.timed) l } in
      f.right a at (known a at);
  outside = λ n t out. past_run streams n t (λ h. out (subst (λ k. IsInRun k t) f.timed h));
}

-- ---- the loops

pub zeros : (xs : List ℕ) (n i : ℕ) → xs ≡ replicate n 0 → get_or xs i 0 ≡ 0
zeros xs n i e = ap (λ ys. get_or ys i 0) e ∙ ⊎_elim
    (λ (l : i < n). get_or-replicate n i 0 0 l)
    (λ (g : n ≤ i). let len = length-replicate {A = ℕ} n 0 in get_or_past (replicate n 0) i 0 (omega (arith, g, len)))
    (cases_lt i n)

pub zeros_length : (xs : List ℕ) (n : ℕ) → xs ≡ replicate n 0 → length xs ≡ n
zeros_length xs n e = ap (λ (ys : List ℕ). length ys) e ∙ length-replicate {A = ℕ} n 0

take_front : (xs ys : List ℕ) → take (length xs) (xs ++ ys) ≡ xs
take_front [] ys = refl
take_front (x ∷ xs) ys = ap (λ zs. x ∷ zs) (take_front xs ys)

pub written_back : (xs ys : List ℕ) (n : ℕ) → n ≡ length xs → take n (xs ++ ys) ≡ xs
written_back xs ys n e = ap (λ k. take k (xs ++ ys)) e ∙ take_front xs ys

module _ (nodes : List Node) (old new : Streams) (same : new.ticks ≡ old.ticks) (kept : StayKnown nodes old new) where
  to_old : (b : Place) → IsPlace nodes new.ticks b → IsPlace nodes old.ticks b
  to_old b h = record { node = h.node; tick = subst (λ t. b.tick < t) same h.tick }

  pub still_known : (n : ℕ) → ((b : Place) → IsPlace nodes old.ticks b → b.node < n → IsKnown old b)
      → (b : Place) → IsPlace nodes new.ticks b → b.node < n → IsKnown new b
  still_known n known b h l = kept b (to_old b h) (known b (to_old b h) l)

  pub next_tick : (n t : ℕ) → ((b : Place) → IsPlace nodes old.ticks b → b.node ≡ n → b.tick < t → IsKnown old b)
      → IsKnown new (record { node = n; tick = t }) → (b : Place) → IsPlace nodes new.ticks b → b.node ≡ n → b.tick < t + 1 → IsKnown new b
  next_tick n t known here b h e l = ⊎_elim
      (λ (g : b.tick < t). kept b (to_old b h) (known b (to_old b h) e g))
      (λ (g : t ≤ b.tick).
      let at : t ≡ b.tick = omega (arith, l, g) in
      let place : record { node = n; tick = t } ≡ b = λ i. record { node = sym e i; tick = at i } in
      subst (IsKnown new) place here)
      (cases_lt b.tick t)

pub next_node : (nodes : List Node) (streams : Streams) (n t : ℕ) → streams.ticks ≤ t
    → ((b : Place) → IsPlace nodes streams.ticks b → b.node < n → IsKnown streams b)
    → ((b : Place) → IsPlace nodes streams.ticks b → b.node ≡ n → b.tick < t → IsKnown streams b)
    → (b : Place) → IsPlace nodes streams.ticks b → b.node < n + 1 → IsKnown streams b
next_node nodes streams n t all before here b h l = ⊎_elim
    (λ (g : b.node < n). before b h g)
    (λ (g : n ≤ b.node). here b h (omega (arith, l, g)) (let k = h.tick in omega (arith, k, all)))
    (cases_lt b.node n)
