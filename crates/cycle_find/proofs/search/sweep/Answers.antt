use Rattle.std.proofs.Common.{◌≡◌, ◌≢◌, ℕ, ◌+◌, ◌-◌, ◌<◌, ◌≤◌, ⊎_elim, Bool, true, false, Option}
use Rattle.std.proofs.Common.{Some, None, IfNone, MatchOption, length, get_or, sum, List, sym, ap}
use Rattle.std.proofs.Common.{◌∙◌, subst, arith, rules, below_more}
use Rattle.std.proofs.lemmas.Bool.{cases_eq}
use Rattle.cycle_find.specs.declared.arcs.Arc.{Arc}
use Rattle.cycle_find.specs.Constraints.{Meets, Solves, end_of, start_of}
use Rattle.cycle_find.specs.Search.{Rises, so_far, place_at}
use Rattle.cycle_find.proofs.search.sweep.Goals as goal
use Rattle.cycle_find.proofs.search.sweep.Goals.{then-raise+else-x-node, else-raise}

-- what is known of the node raised last
Last : List ℕ → List ℕ → List Arc → Bool → ℕ → Option ℕ → Type 0
Last start x list back j last = MatchOption last ((x ≡ start) × ((i : ℕ) → i < j → Meets (so_far start) list (place_at (length list) back i))) (λ v. (v < length x) × (sum start < sum x))

grown : (start x : List ℕ) (list : List Arc) (back : Bool) (j : ℕ) (last : Option ℕ) → Last start x list back j last → sum start ≤ sum x
unfolding Last
grown start x list back j None h = let e : sum x ≡ sum start = ap sum h.0 in omega (arith, e)
grown start x list back j (Some v) h = omega (arith, h.1)

-- no arc asked for more
kept : (start x new : List ℕ) (list : List Arc) (back : Bool) (j : ℕ) (last : Option ℕ)
    → Last start x list back j last → new ≡ x
    → Meets (so_far x) list (place_at (length list) back j) → Last start new list back (j + 1) last
unfolding Last
kept start x new list back j None h same m =
    let P : List ℕ → Type 0 = λ l. Meets (so_far l) list (place_at (length list) back j) in
    let Q : ℕ → Type 0 = λ i. Meets (so_far start) list (place_at (length list) back i) in
    (same ∙ h.0, below_more Q j h.1 (subst P h.0 m))
kept start x new list back j (Some v) h same m =
    let P : List ℕ → Type 0 = λ l. (v < length l) × (sum start < sum l) in
    subst P (sym same) h

pub loop-step-preserved : goal.loop-step-preserved
unfolding Last
loop-step-preserved c =
    let old = c.loop-step.x in
    let new = c.raise.new.x in
    let start = c.args.x.now in
    let list = c.args.list.now in
    let j = c.loop-step.step in
    let back = c.args.back in
    let k = c.place_at-j.result in
    let at : k ≡ place_at (length list) back j = c.place_at-j.ensures in
    elim c.if-raise.branch [
      | then-raise+else-x-node w ↦ (
          let node = w.arc_number-node.result.to in
          let here : node ≡ end_of list k = ap (λ (a : Arc). a.to) w.arc_number-node.ensures in
          let rises : Rises old new (start_of list k) (end_of list k) c.args.size = w.if-raise.ensures.rises (search rules) in
          let P : Option ℕ → Type 0 = λ last. MatchOption last ((new ≡ start)
          × ((i : ℕ) → i < j + 1 → Meets (so_far start) list
          (place_at (length list) back i))) (λ v. (v < length new) × (sum start < sum new)) in
          record {
            raised = w.if-raise.ensures.raised;
            within = λ v. ⊎_elim
                (λ (q : v ≡ end_of list k). let e : get_or new v 0 ≡ get_or new node 0 = ap (λ k. get_or new k 0) (q ∙ sym here) in omega (arith, e, w.if-x-node.false))
                (λ (d : v ≢ end_of list k). omega (arith, rises.others v d, c.loop-step.invariant.within v))
                (cases_eq v (end_of list k));
            last = subst P (sym w.last-is) (search rules, omega (arith, rises.more, grown start old list back j c.loop-step.last c.loop-step.invariant.last));
          })
      | else-raise w ↦ (
          let met : (new ≡ old) × Meets (so_far old) list k = w.if-raise.ensures.met (search rules) in
          let P : List ℕ → Type 0 = λ l. (v : ℕ) → get_or l v 0 ≤ c.args.limit in
          let Q : Option ℕ → Type 0 = λ last. MatchOption last ((new ≡ start)
          × ((i : ℕ) → i < j + 1 → Meets (so_far start) list
          (place_at (length list) back i))) (λ v. (v < length new) × (sum start < sum new)) in
          record {
            raised = w.if-raise.ensures.raised;
            within = subst P (sym met.0) c.loop-step.invariant.within;
            last = subst Q (sym w.last-is) (kept start old new list back j c.loop-step.last c.loop-step.invariant.last met.0 (subst (λ i. Meets (so_far old) list i) at met.1));
          })
    ]

-- each arc is met at some step
every : (list : List Arc) (x : List ℕ) (back : Bool) → ((i : ℕ) → i < length list → Meets (so_far x) list (place_at (length list) back i)) → Solves (so_far x) list
every list x true h j l =
    let i = length list - 1 - j in
    let e : length list - 1 - i ≡ j = omega (arith, l) in
    subst (λ k. Meets (so_far x) list k) e (h i (omega (arith, l)))
every list x false h j l = h j l

solved : (start x : List ℕ) (list : List Arc) (back : Bool) (step : ℕ) (last : Option ℕ) → Last start x list back step last → step ≡ length list
    → IfNone last (Solves (so_far x) list)
unfolding Last
solved start x list back step None h e = subst (λ l. Solves (so_far l) list) (sym h.0) (every list start back (λ i l. h.1 i (omega (arith, l, e))))
solved start x list back step (Some v) h e = tt

pub returns-clause-solved : goal.returns-clause-solved
unfolding Last
returns-clause-solved c =
    solved c.args.x.now c.loop-step.x c.args.list.now c.args.back c.loop-step.step c.loop-step.last c.loop-step.invariant.last
    (omega (arith, c.loop-step-test.false, c.loop-step.auto.step-end))
