-- A built module runs as its kernel, edge after edge.
use Rattle.std.proofs.Common.{
  ◌≡◌,
  ℕ,
  zero,
  suc,
  ◌+◌,
  ◌-◌,
  ◌%◌,
  ◌^◌,
  ◌<◌,
  ◌≤◌,
  ⊎_elim,
  Bool,
  true,
  false,
  not,
  cond,
  ◌&&◌,
  ◌||◌,
  leb,
  eqb,
  List,
  [],
  ◌∷◌,
  length,
  map,
  Some,
  None,
  refl,
  sym,
  ap,
  ◌∙◌,
  subst,
  arith,
  add-one,
}
use Rattle.std.specs.Prelude.{All, slice_get, pos, ◌-ℤ◌}
use Rattle.std.proofs.Math.Nat.{mod-eq_of_lt}
use Rattle.std.proofs.lemmas.Bool.{false≢true, eqb-true, cases_lt}
use Rattle.std.proofs.lemmas.Int.{ints}
use Rattle.std.proofs.lemmas.List.Elements.{All-head, All-tail}
use Rattle.rtl_ir.specs.declared.design.Module.{Module}
use Rattle.rtl_ir.specs.declared.design.Update.{Update}
use Rattle.rtl_ir.specs.Value.{Family, Contents, bit}
use Rattle.rtl_ir.specs.Edge.{Edges, after_edge, updated_all, written}
use Rattle.rtl_ir.specs.Grow.{Holds}
use Rattle.rtl_ir.specs.Run.{Same}
use Rattle.rtl_ir.proofs.Grow.{fits_holds}
use Rattle.stream_graph.specs.declared.node.Kind.TheVariants as K
use Rattle.stream_graph.specs.declared.node.Node.{Node}
use Rattle.stream_graph.specs.LookUps.{kind_at, operands_at}
use Rattle.stream_graph.specs.Kinds.{is_offset, control_in}
use Rattle.stream_equations.specs.Equations.{
  GivenRun,
  Values,
  StreamEquations,
  enabled,
  enabled_by,
  count_before,
}
use Rattle.stream_equations.specs.Words.{IsGuarded, port_words}
use Rattle.rtl_delays.specs.Delays.{IsWord, NoReset, Delays, IsDelay}
use Rattle.rtl_delays.proofs.Moves.{edge_steps, edges_step}
use Rattle.kernel_control.specs.Ports.{PortChannel, ModuleNets, scalars_of}
use Rattle.kernel_control.specs.Refines.{
  TimedRun,
  is_active,
  last_time,
  timed_run,
  all_valid,
  all_ready,
  advances,
  IsGiven,
  StandsAgree,
  Takes,
  Gives,
  next_position,
  KernelRuns,
  AreSteady,
  RunsAs,
}
use Rattle.kernel_refinement.specs.States.{IsCounter, Counts, Keeps}
use Rattle.rtl_delays.specs.Extends.{AllOff}
use Rattle.kernel_control.specs.IsControl.{AreValid, ControlAt}
use Rattle.kernel_control.specs.Due.{is_let}
use Rattle.kernel_refinement.specs.Built.{
  Layout,
  has_taps,
  is_shown,
  IsPortWord,
  IsHoldWord,
  HasWord,
  OutputBuilt,
  IsBuilt,
}
use Rattle.kernel_refinement.proofs.Words.{both, active_from, word_at, count_due}
use Rattle.kernel_refinement.proofs.Values.{inside}
use Rattle.kernel_refinement.proofs.Claims.{
  word,
  as_word,
  first,
  due_at,
  first_at,
  Scene,
  known,
  reads,
  dues,
}

-- ---- tests

not_true : (b : Bool) → not b ≡ true → b ≡ false
not_true true h = absurd (false≢true h)
not_true false h = refl

-- an update off leaves, and one on is a number
test_bit : (b : Bool) → eqb (bit b) 1 ≡ b
test_bit true = refl
test_bit false = refl

is_on : (go : Bool) → bit go ≡ 1 → go ≡ true
is_on true h = refl
is_on false h = absurd (omega (arith, h))

-- ---- inputs

-- a due input is valid where all are
valid_at : (k : TimedRun) (p : ℕ) (xs : List PortChannel) (f : Family) (i : ℕ) (x : PortChannel) → slice_get xs i ≡ Some x → all_valid k p xs f ≡ true
    → k.due x.node p ≡ true → f x.channel.valid ≡ 1
valid_at k p [] f i x e valid due = cc
valid_at k p (y ∷ ys) f zero x e valid due =
    let same : y ≡ x = cc in
    let w = (both (not (k.due y.node p) || eqb (f y.channel.valid) 1) (all_valid k p ys f) valid).0 in
    let P : PortChannel → Type 0 = λ z. not (k.due z.node p) || eqb (f z.channel.valid) 1 ≡ true in
    eqb-true (f x.channel.valid) 1 (ap (λ b. not b || eqb (f x.channel.valid) 1) (sym due) ∙ subst P same w)
valid_at k p (y ∷ ys) f (suc i) x e valid due =
    valid_at k p ys f i x e (both (not (k.due y.node p) || eqb (f y.channel.valid) 1) (all_valid k p ys f) valid).1 due

-- the next word of a due input that is valid
stands_at : (k : TimedRun) (p : ℕ) (xs : List PortChannel) (f : Family) (i : ℕ) (x : PortChannel) → StandsAgree k p xs f → slice_get xs i ≡ Some x
    → k.due x.node p ≡ true → f x.channel.valid ≡ 1 → IsWord (k.in_word x.node (count_before (k.due x.node) p)) (f x.channel.word)
stands_at k p [] f i x h e due valid = cc
stands_at k p (y ∷ ys) f zero x h e due valid =
    let same : y ≡ x = cc in
    let R : PortChannel → Type 0 = λ z. k.due z.node p ≡ true → f z.channel.valid ≡ 1
    → IsWord (k.in_word z.node (count_before (k.due z.node) p)) (f z.channel.word) in
    let here : R x = subst R same h.0 in
    here due valid
stands_at k p (y ∷ ys) f (suc i) x h e due valid = stands_at k p ys f i x h.1 e due valid

-- ---- edges without an advance

-- where no update is enabled, nothing changes
all_off : (m : Module) (f : Family) (us : List Update) (c : Contents) → AllOff f us → updated_all m f us c ≡ c
all_off m f [] c h = refl
all_off m f (u ∷ us) c h = ap (λ b. updated_all m f us (cond b (written m f u.target (f u.value) c) c)) h.0 ∙ all_off m f us c h.1

no_reset : (q : ModuleNets) (count : ℕ) (scalars : List ℕ) (vs : List Family) → AreSteady q count scalars vs → NoReset q.reset vs
no_reset q count scalars [] h = tt
no_reset q count scalars (v ∷ vs) h = (h.0, no_reset q count scalars vs h.3)

-- ---- positions

next_is : (go : Bool) (p most : ℕ) → most ≤ 2 ^ 47 → (go ≡ true → p < most) → cond go ((p + 1) % 2 ^ 48) p ≡ next_position go p
next_is true p most small live =
    let lt = live refl in
    let e : (p + 1) % 2 ^ 48 ≡ p + 1 = mod-eq_of_lt (omega arith) in
    e ∙ add-one p
next_is false p most small live = refl

next_most : (go : Bool) (p most : ℕ) → p ≤ most → (go ≡ true → p < most) → next_position go p ≤ most
next_most true p most le live = let lt = live refl in omega arith
next_most false p most le live = le

-- what an advance says
advanced : (k : TimedRun) (q : ModuleNets) (p : ℕ) (f : Family) → advances k q p f ≡ true → (k.ends p ≡ false) × (all_valid k p q.inputs f ≡ true)
advanced k q p f go =
    let first = both (not (eqb (f q.hold) 1)) (not (k.ends p) && (all_valid k p q.inputs f && all_ready k p q.outputs f)) go in
    let second = both (not (k.ends p)) (all_valid k p q.inputs f && all_ready k p q.outputs f) first.1 in
    (not_true (k.ends p) second.0, (both (all_valid k p q.inputs f) (all_ready k p q.outputs f) second.1).0)

-- past the last node there is no control
unshown : (nodes : List Node) (times : ℕ → ℕ) (l : Layout) (r : GivenRun) (val : Values) (n p : ℕ) (f : Family) → length nodes ≤ n
    → is_shown nodes times l r.ticks n p f ≡ due_at nodes times r val n p
unshown nodes times l r val n p f past = by_kind nodes n past
  where
    by_kind : (xs : List Node) (k : ℕ) → length xs ≤ k
        → is_active (times n) r.ticks p && is_let (control_in (kind_at xs k) (l.taps n)) f
        ≡ is_active (times n) r.ticks p && enabled_by val (control_in (kind_at xs k) (operands_at xs k)) (p - times n)
    by_kind [] k h = refl
    by_kind (x ∷ xs) zero h = absurd (omega arith)
    by_kind (x ∷ xs) (suc k) h = by_kind xs k (omega arith)

-- ---- two runs of which ports are due at the same time

module _ (k j : TimedRun) (q : ModuleNets) (p : ℕ) (f : Family) (same : (n : ℕ) → k.due n p ≡ j.due n p) where
  same_valid : (xs : List PortChannel) → all_valid k p xs f ≡ all_valid j p xs f
  same_valid [] = refl
  same_valid (x ∷ xs) =
      ap (λ b. (not b || eqb (f x.channel.valid) 1) && all_valid k p xs f) (same x.node)
      ∙ ap (λ b. (not (j.due x.node p) || eqb (f x.channel.valid) 1) && b) (same_valid xs)

  same_ready : (xs : List PortChannel) → all_ready k p xs f ≡ all_ready j p xs f
  same_ready [] = refl
  same_ready (x ∷ xs) =
      ap (λ b. (not b || eqb (f x.channel.ready) 1) && all_ready k p xs f) (same x.node)
      ∙ ap (λ b. (not (j.due x.node p) || eqb (f x.channel.ready) 1) && b) (same_ready xs)

  same_advance : k.ends p ≡ j.ends p → advances k q p f ≡ advances j q p f
  same_advance e =
      ap (λ b. not (eqb (f q.hold) 1) && (not b && (all_valid k p q.inputs f && all_ready k p q.outputs f))) e
      ∙ ap (λ b. not (eqb (f q.hold) 1) && (not (j.ends p) && (b && all_ready k p q.outputs f))) (same_valid q.inputs)
      ∙ ap (λ b. not (eqb (f q.hold) 1) && (not (j.ends p) && (all_valid j p q.inputs f && b))) (same_ready q.outputs)

-- what is shown of one of them where it advances is shown of the other one, and where neither advances
module _ (k j : TimedRun) (p : ℕ) (f : Family) (go : Bool) (same : go ≡ true → (n : ℕ) → k.due n p ≡ j.due n p) where
  moved : (n : ℕ) → bit (go && j.due n p) ≡ bit (go && k.due n p)
  moved n = by_go go same
    where
      by_go : (b : Bool) → (b ≡ true → (n : ℕ) → k.due n p ≡ j.due n p) → bit (b && j.due n p) ≡ bit (b && k.due n p)
      by_go true s = ap bit (sym (s refl n))
      by_go false s = refl

  takes_as : (xs : List PortChannel) → Takes j p go xs f → Takes k p go xs f
  takes_as [] h = tt
  takes_as (x ∷ xs) h = (h.0 ∙ moved x.node, takes_as xs h.1)

  valid_as : (xs : List PortChannel) → AreValid j p go xs f → AreValid k p go xs f
  valid_as [] h = tt
  valid_as (x ∷ xs) h = (h.0 ∙ moved x.node, valid_as xs h.1)

both_ways : (a b : Bool) → (a ≡ true → b ≡ true) → (b ≡ true → a ≡ true) → a ≡ b
both_ways true b f g = sym (f refl)
both_ways false true f g = g refl
both_ways false false f g = refl

-- ---- ports

module _ (nodes : List Node) (times : ℕ → ℕ) (r : GivenRun) (val : Values) where
  -- the number of a due word
  count_is : (n p : ℕ) → times n ≤ p → p < times n + r.ticks
      → count_before ((timed_run nodes times r val).due n) p ≡ count_before (enabled nodes val n) (p - times n)
  count_is n p from to =
      let at : p ≡ times n + (p - times n) = omega arith in
      ap (count_before ((timed_run nodes times r val).due n)) at
      ∙ count_due ((timed_run nodes times r val).due n) (enabled nodes val n) (times n) r.ticks (p - times n) (λ k. refl) (omega arith)

  -- the word of an output at a position is that of its number
  given_is : (n p x : ℕ) → due_at nodes times r val n p ≡ true → IsWord (word val times n p) x
      → IsGiven ((timed_run nodes times r val).out_word n (count_before ((timed_run nodes times r val).due n) p)) x
  given_is n p x due h =
      let on = both (is_active (times n) r.ticks p) (enabled nodes val n (p - times n)) due in
      let in' = active_from (times n) r.ticks p on.0 in
      let tick : pos (p - times n) ≡ pos p -ℤ pos (times n) = omega (arith, ints, in'.0) in
      let at : slice_get (port_words nodes r val n) (count_before ((timed_run nodes times r val).due n) p) ≡ Some (val n (pos (p - times n))) =
      ap (slice_get (port_words nodes r val n)) (count_is n p in'.0 in'.1)
      ∙ word_at (enabled nodes val n) (λ t. val n (pos t)) r.ticks (p - times n) (omega (arith, in'.0, in'.1)) on.1 in
      subst (λ o. IsGiven o x) (sym at) (as_word x (ap (val n) tick) h)

  -- a due input that is valid has its word
  input_given : (m : Module) (q : ModuleNets) (l : Layout) (p : ℕ) (c : Contents) (f : Family) → Holds m c f → StandsAgree (timed_run nodes times r val) p q.inputs f → (n : ℕ) (w : IsPortWord m q l n)
      → due_at nodes times r val n p ≡ true → f w.port.channel.valid ≡ 1
      → IsWord (r.source n (count_before (enabled nodes val n) (p - times n))) (l.word n f)
  input_given m q l p c f holds stands n w due valid =
      let k = timed_run nodes times r val in
      let on = both (is_active (times n) r.ticks p) (enabled nodes val n (p - times n)) due in
      let in' = active_from (times n) r.ticks p on.0 in
      let here : IsWord (r.source w.port.node (count_before (k.due w.port.node) p)) (f w.port.channel.word) =
      stands_at k p q.inputs f w.place w.port stands w.at (ap (λ n. k.due n p) w.node ∙ due) valid in
      let P : ℕ → Type 0 = λ n. IsWord (r.source n (count_before (k.due n) p)) (f w.port.channel.word) in
      let Q : ℕ → Type 0 = λ j. IsWord (r.source n j) (f w.port.channel.word) in
      subst (IsWord (r.source n (count_before (enabled nodes val n) (p - times n)))) (w.word c f holds)
      (subst Q (count_is n p in'.0 in'.1) (subst P w.node here))

-- ---- edge after edge

module _ (m : Module) (nodes : List Node) (ticks times : ℕ → ℕ) (q : ModuleNets) (run : ℕ) (l : Layout) (r : GivenRun) (val : Values)
    (b : IsBuilt m nodes ticks times q run l) (eqs : StreamEquations nodes r val) (guarded : IsGuarded nodes r val) (small : r.ticks ≤ 2 ^ 40)
  where
    -- what each delay, each counter and each store shows from here on
    pub record Lines (p : ℕ) (vs : List Family) : Type 0 where
      pub delays : (u a d : ℕ) → u < length nodes → is_offset (kind_at nodes u) ≡ false → IsDelay m run q.reset (l.word u) a (suc d)
          → Delays run (l.word u) a (word val times u) (suc d) p vs
      pub counters : (to time : ℕ) (digit : ℕ → ℕ) → IsCounter m run q.reset to time digit → Counts run to time digit p vs
      pub stores : (n : ℕ) (h : IsHoldWord m nodes times q run l n) → n < length nodes → kind_at nodes n ≡ K.Hold
          → Keeps run h.on h.tap h.kept (due_at nodes times r val n) (first_at nodes times val n) p vs

    -- one edge
    module _ (p : ℕ) (c : Contents) (f : Family) (vs : List Family) (holds : Holds m c f) (count : f q.ticks ≡ r.ticks)
        (scalars : Same q.scalars (map r.scalar (scalars_of nodes)) f) (at : c.regs q.position ≡ p) (most : p ≤ r.ticks + last_time nodes times)
        (lines : Lines p (f ∷ vs)) (stands : StandsAgree (timed_run nodes times r val) p q.inputs f)
      where
        here : f q.position ≡ p
        here = holds.kept q.position b.control.position.register ∙ at

        -- as the nets show it
        abbrev shown : TimedRun
        shown = record {
          due = λ n p'. is_shown nodes times l r.ticks n p' f;
          ends = (timed_run nodes times r val).ends;
          in_word = r.source;
          out_word = λ n j. None;
        }

        shown_control : ControlAt q run shown p f
        shown_control =
            subst (λ n. ControlAt q run shown n f) here
            (b.control.shows shown c f r.ticks holds count small (subst (λ n. n ≤ r.ticks + last_time nodes times) (sym here) most) (λ n. refl) refl)

        scene : ((n : ℕ) (w : IsPortWord m q l n) → due_at nodes times r val n p ≡ true → is_shown nodes times l r.ticks n p f ≡ true
            → f w.port.channel.valid ≡ 1) → Scene m nodes ticks times q run l r val p c f
        scene valid = record {
          eqs = eqs;
          guarded = guarded;
          each = b.each;
          holds = holds;
          small = small;
          count = count;
          position = here;
          most = most;
          scalars = scalars;
          late = λ u a d lt ok delay. (lines.delays u a d lt ok delay).0;
          counted = λ to time digit counter le. (lines.counters to time digit counter).0 le (omega (arith, b.small));
          stored = λ n h lt kind. (lines.stores n h lt kind).0;
          given = λ n lt kind due on.
              let w = subst (HasWord m nodes times q run l n) kind (b.each n lt).word in
              input_given nodes times r val m q l p c f holds stands n w due (valid n w due on);
        }

        dues_all : Scene m nodes ticks times q run l r val p c f → (n : ℕ) → (timed_run nodes times r val).due n p ≡ shown.due n p
        dues_all s n = ⊎_elim
            (λ (lt : n < length nodes). sym (dues m nodes ticks times q run l r val p c f s n lt))
            (λ (ge : length nodes ≤ n). sym (unshown nodes times l r val n p f ge))
            (cases_lt n (length nodes))

        -- where the kernel advances its due inputs are valid
        by_kernel : advances (timed_run nodes times r val) q p f ≡ true → Scene m nodes ticks times q run l r val p c f
        by_kernel go = scene (λ n w due on.
            valid_at (timed_run nodes times r val) p q.inputs f w.place w.port w.at (advanced (timed_run nodes times r val) q p f go).1
            (ap (λ n. (timed_run nodes times r val).due n p) w.node ∙ due))

        -- where the nets show an advance those inputs are valid that they show as due
        by_nets : advances shown q p f ≡ true → Scene m nodes ticks times q run l r val p c f
        by_nets go = scene (λ n w due on.
            valid_at shown p q.inputs f w.place w.port w.at (advanced shown q p f go).1 (ap (λ n. shown.due n p) w.node ∙ on))

        advance_is : advances (timed_run nodes times r val) q p f ≡ advances shown q p f
        advance_is = both_ways (advances (timed_run nodes times r val) q p f) (advances shown q p f)
            (λ go. sym (same_advance (timed_run nodes times r val) shown q p f (dues_all (by_kernel go)) refl) ∙ go)
            (λ go. same_advance (timed_run nodes times r val) shown q p f (dues_all (by_nets go)) refl ∙ go)

        control : ControlAt q run (timed_run nodes times r val) p f
        control =
            let k = timed_run nodes times r val in
            let go = advances k q p f in
            let same : go ≡ true → (n : ℕ) → k.due n p ≡ shown.due n p = λ on. dues_all (by_kernel on) in
            record {
              runs = shown_control.runs ∙ ap bit (sym advance_is);
              ended = shown_control.ended;
              takes = takes_as k shown p f go same q.inputs (subst (λ g. Takes shown p g q.inputs f) (sym advance_is) shown_control.takes);
              valid = valid_as k shown p f go same q.outputs (subst (λ g. AreValid shown p g q.outputs f) (sym advance_is) shown_control.valid);
            }

        live : advances (timed_run nodes times r val) q p f ≡ true → p < r.ticks + last_time nodes times
        live go =
            let e : leb (r.ticks + last_time nodes times) p ≡ false = (advanced (timed_run nodes times r val) q p f go).0 in
            grind (arith, e)

        gives : (go : Bool) → (go ≡ true → Scene m nodes ticks times q run l r val p c f) → (xs : List PortChannel) → All (OutputBuilt m nodes l) xs
            → AreValid (timed_run nodes times r val) p go xs f → Gives (timed_run nodes times r val) p go xs f
        gives go scene' [] built valid = tt
        gives go scene' (x ∷ xs) built valid = (
          valid.0,
          (λ due.
              let now = both go ((timed_run nodes times r val).due x.node p) due in
              let o = All-head (OutputBuilt m nodes l) x xs built in
              let lt : x.node < length nodes = inside nodes x.node (λ s. let e : K.Scalar ≡ K.Output = sym s ∙ o.output in cc) in
              let net = known m nodes ticks times q run l r val p c f (scene' now.0) x.node lt (ap is_offset o.output) in
              given_is nodes times r val x.node p (f x.channel.word) now.1 (subst (IsWord (word val times x.node p)) (sym (o.word c f holds)) net)),
          gives go scene' xs (All-tail (OutputBuilt m nodes l) x xs built) valid.1,
        )

        -- what a store asks for where it advances
        store : (n : ℕ) (h : IsHoldWord m nodes times q run l n) → n < length nodes → kind_at nodes n ≡ K.Hold
            → advances (timed_run nodes times r val) q p f ≡ true
            → (f h.on ≡ bit (due_at nodes times r val n p)) × (due_at nodes times r val n p ≡ true → IsWord (first_at nodes times val n p) (f h.tap))
        store n h lt kind go =
            let s = by_kernel go in (
              h.store c f r.ticks holds count small (subst (λ n. n ≤ r.ticks + last_time nodes times) (sym here) most)
                  ∙ ap (λ j. bit (is_shown nodes times l r.ticks n j f)) here ∙ ap bit (dues m nodes ticks times q run l r val p c f s n lt),
              λ due.
                  let on = both (is_active (times n) r.ticks p) (enabled nodes val n (p - times n)) due in
                  let le = (active_from (times n) r.ticks p on.0).0 in
                  first val f (pos (p - times n)) (operands_at nodes n) (l.taps n) h.tap
                  (reads m nodes ticks times q run l r val p c f s n lt (ap has_taps kind) le) h.first,
            )

        on_is : eqb (f run) 1 ≡ advances (timed_run nodes times r val) q p f
        on_is = ap (λ n. eqb n 1) control.runs ∙ test_bit (advances (timed_run nodes times r val) q p f)

        going : f run ≡ 1 → advances (timed_run nodes times r val) q p f ≡ true
        going on = is_on (advances (timed_run nodes times r val) q p f) (sym control.runs ∙ on)

        next_lines : Lines (next_position (advances (timed_run nodes times r val) q p f) p) vs
        next_lines = record {
          delays = λ u a d lt ok delay.
              subst (λ t. Delays run (l.word u) a (word val times u) (suc d) (cond t (suc p) p) vs) on_is
              ((lines.delays u a d lt ok delay).1 (λ on. known m nodes ticks times q run l r val p c f (by_kernel (going on)) u lt ok));
          counters = λ to time digit counter. subst (λ t. Counts run to time digit (cond t (suc p) p) vs) on_is (lines.counters to time digit counter).1;
          stores = λ n h lt kind.
              subst (λ t. Keeps run h.on h.tap h.kept (due_at nodes times r val n) (first_at nodes times val n) (cond t (suc p) p) vs) on_is
              ((lines.stores n h lt kind).1 (λ on. store n h lt kind (going on)));
        }

    runs : (p : ℕ) (c : Contents) (vs : List Family) → Edges m c vs → AreSteady q r.ticks (map r.scalar (scalars_of nodes)) vs → c.regs q.position ≡ p
        → p ≤ r.ticks + last_time nodes times → Lines p vs → KernelRuns m (timed_run nodes times r val) q p c vs
    runs p c [] h steady at most lines = tt
    runs p c (f ∷ vs) h steady at most lines = λ stands.
        let k = timed_run nodes times r val in
        let go = advances k q p f in
        let holds = fits_holds m c f h.0 in
        let step = edge_steps m c f b.sound h.0 in
        let shown = control p c f vs holds steady.1 steady.2 at most lines stands in
        let live' = live p c f vs holds steady.1 steady.2 at most lines stands in (
          record {
            position = here p c f vs holds steady.1 steady.2 at most lines stands;
            ended = shown.ended;
            takes = shown.takes;
            gives = gives p c f vs holds steady.1 steady.2 at most lines stands go (by_kernel p c f vs holds steady.1 steady.2 at most lines stands) q.outputs
                b.outputs shown.valid;
            keeps = λ off.
                let still = b.still c f holds (shown.runs ∙ ap bit off) steady.0 in
                let same = all_off m f m.updates c still in
                record { regs = λ n reg. ap (λ (d : Contents). d.regs n) same; cells = λ k a. ap (λ (d : Contents). d.cells k a) same };
          },
          runs (next_position go p) (after_edge m c f) vs h.1 steady.3
              (b.control.position.steps c f (after_edge m c f) step steady.0
              ∙ ap (λ t. cond t ((f q.position + 1) % 2 ^ 48) (c.regs q.position)) (on_is p c f vs holds steady.1 steady.2 at most lines stands)
              ∙ ap (λ n. cond go ((n + 1) % 2 ^ 48) (c.regs q.position)) (here p c f vs holds steady.1 steady.2 at most lines stands)
              ∙ ap (λ n. cond go ((p + 1) % 2 ^ 48) n) at
              ∙ next_is go p (r.ticks + last_time nodes times) (omega (arith, b.small)) live')
              (next_most go p (r.ticks + last_time nodes times) most live')
              (next_lines p c f vs holds steady.1 steady.2 at most lines stands),
        )

-- a built module runs as its kernel
pub built_runs : (m : Module) (nodes : List Node) (ticks times : ℕ → ℕ) (q : ModuleNets) (run : ℕ) (l : Layout) → IsBuilt m nodes ticks times q run l
    → RunsAs m q nodes times
built_runs m nodes ticks times q run l b = λ r val c v vs small eqs guarded edges reset steady.
    let scalars = map r.scalar (scalars_of nodes) in
    let steps = edges_step m c (v ∷ vs) b.sound edges in
    let none = no_reset q r.ticks scalars vs steady in
    runs m nodes ticks times q run l r val b eqs guarded small 0 (after_edge m c v) vs edges.1 steady
    (b.control.position.cleared c v (after_edge m c v) (edge_steps m c v b.sound edges.0) reset)
    (omega arith)
    (record {
      delays = λ u a d lt ok delay. delay (word val times u) c v vs steps reset none;
      counters = λ to time digit counter. counter c v vs steps reset none;
      stores = λ n h lt kind. h.keeper (due_at nodes times r val n) (first_at nodes times val n) c v vs steps reset none;
    })
