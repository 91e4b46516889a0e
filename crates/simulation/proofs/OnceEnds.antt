-- Two runs of one setup go the same way, and so they end alike.
use Rattle.std.proofs.Common.{◌≡◌, ℕ, ◌+◌, ◌<◌, ◌≤◌, ◌^◌, Bool, true, false, not, List, [], ◌∷◌, length, map, Option, Some, None, refl, sym, ap, ◌∙◌, subst, ⊎_elim, arith}
use mathlib.Core.Path.{fun_ext}
use Rattle.std.specs.Prelude.{slice_get, nat_eq, option_and_then}
use Rattle.std.proofs.lemmas.Bool.{true≢false, false≢true, cases_lt}
use Rattle.std.proofs.lemmas.Option.{slice_get_within}
use Rattle.rtl_ir.specs.declared.design.Module.{Module}
use Rattle.rtl_ir.specs.Value.{Family}
use Rattle.rtl_ir.specs.Flat.{Path, AllContents, Families, FitsFlat, EdgesFlat, module_at, after_part, after_flat}
use Rattle.rtl_ir.specs.Parts.{own_of}
use Rattle.rtl_ir.specs.OneRun.{SameOnParts}
use Rattle.rtl_ir.specs.Run.{Event, Driven, left_of}
use Rattle.stall_source.specs.Stalls.{Answers, IsDecided}
use Rattle.simulation.specs.Inputs.{InputFile, LineFault, words_of, fault_behind}
use Rattle.simulation.specs.Asked.{IsAsked, AreAsked}
use Rattle.simulation.specs.Runs.{Setup, AllIdleAtZero, IsDoneAt, UndoneBefore, Looks, fault_at, ReadableBefore, contents_after, IsRun}
use Rattle.simulation.specs.Ends.{End, Done, Limit, Stopped, left_after, Ends, done, limit, stopped}
use Rattle.simulation.proofs.OnceInputs.{SameOutside}
use Rattle.simulation.proofs.OnceEdge.{SameEvents, same_idle, same_reset, same_edge}

-- what a run asks of a pattern is in the range in which it is decided, and each input has a file
pub record IsBounded (s : Setup) : Type 0 where
  pub pick : s.pick < 2 ^ 64
  pub edges : s.edges < 2 ^ 64
  pub ports : length s.outer.inputs + length s.outer.outputs + length s.outer.holds ≤ 2 ^ 32
  pub files : length s.inputs ≡ length s.outer.inputs

-- families that agree on the outer nets are one on all parts
abbrev pub IsFixed : Setup → Type 0
IsFixed s = (c : AllContents) (v w : Families) → FitsFlat s.design s.top c v → FitsFlat s.design s.top c w → SameOutside s.outer (v []) (w []) → SameOnParts s.design s.top v w

not_same : (a b : Bool) → not a ≡ not b → a ≡ b
not_same true true e = refl
not_same true false e = absurd (false≢true e)
not_same false true e = absurd (true≢false e)
not_same false false e = refl

module _ (stalls : Answers) (decided : IsDecided stalls) (s : Setup) (bounded : IsBounded s) (fixed : IsFixed s) where
  same_asked : (n : ℕ) (e f : Event) → n ≤ s.edges → IsAsked stalls s.pick n s.outer e → IsAsked stalls s.pick n s.outer f → SameEvents s.outer e f
  same_asked n e f within h g = record {
    offers = λ k lt. answer k (omega (arith, lt, bounded.ports)) (e.offers k) (f.offers k) (h.offers k lt) (g.offers k lt);
    accepts = λ k lt. answer (length s.outer.inputs + k) (omega (arith, lt, bounded.ports)) (e.accepts k) (f.accepts k) (h.accepts k lt) (g.accepts k lt);
    held = λ k lt. decided s.pick n (length s.outer.inputs + length s.outer.outputs + k) bounded.pick early (omega (arith, lt, bounded.ports)) (e.held k) (f.held k) (h.held k lt) (g.held k lt);
  }
    where
      early : n < 2 ^ 64
      early = omega (arith, within, bounded.edges)

      answer : (port : ℕ) → port < 2 ^ 32 → (a b : Bool) → stalls s.pick n port (not a) → stalls s.pick n port (not b) → a ≡ b
      answer port lt a b x y = not_same a b (decided s.pick n port bounded.pick early lt (not a) (not b) x y)

  done_once : (c : AllContents) (a b : Bool) → IsDoneAt s c a → IsDoneAt s c b → a ≡ b
  done_once c a b h g =
      let same : h.family [] ≡ g.family [] = fixed c h.family g.family h.fits g.fits (same_idle s.outer s.steady (h.family []) (g.family []) h.idle g.idle) [] s.top refl in
      h.answer_is ∙ ap (λ (v : Family). nat_eq (v s.outer.done) 1) same ∙ sym g.answer_is

  same_after : (c : AllContents) (v w : Families) → SameOnParts s.design s.top v w → after_flat s.design s.top c v ≡ after_flat s.design s.top c w
  same_after c v w same = fun_ext (λ p. at_part p (module_at s.design s.top p) refl)
    where
      at_part : (p : Path) (part : Option Module) → module_at s.design s.top p ≡ part → after_part part (c p) (v p) ≡ after_part part (c p) (w p)
      at_part p None e = refl
      at_part p (Some part) e = ap (λ (x : Family). after_part (Some part) (c p) x) (same p part e)

  -- an input that has a fault is one of the outer inputs
  faulty_input : (k : ℕ) (fault : LineFault) → fault_at s k ≡ Some fault → k < length s.outer.inputs
  faulty_input k fault h = by_file (slice_get s.inputs k) refl h
    where
      by_file : (file : Option InputFile) → slice_get s.inputs k ≡ file → option_and_then fault_behind file ≡ Some fault → k < length s.outer.inputs
      by_file None e f = absurd (cc)
      by_file (Some file) e f = omega (arith, slice_get_within s.inputs k file e, bounded.files)

  also_looks : (e f : Event) (left : List (List ℕ)) (k : ℕ) (fault : LineFault) → SameEvents s.outer e f → fault_at s k ≡ Some fault → Looks e left k → Looks f left k
  also_looks e f left k fault same is h = (sym (same.offers k (faulty_input k fault is)) ∙ h.0, h.1)

  -- in the edge after so many others this input is the first that looks for a line that it can't read
  record StopsAt (n : ℕ) (left : List (List ℕ)) (fault : LineFault) : Type 0 where
    event : Event
    asked : IsAsked stalls s.pick n s.outer event
    input : ℕ
    looks : Looks event left input
    is : fault_at s input ≡ Some fault
    earlier : (j : ℕ) → j < input → Looks event left j → fault_at s j ≡ None

  -- a run ends so after this many edges, with these contents and these words left
  abbrev EndsAt : ℕ → AllContents → List (List ℕ) → End → Type 0
  EndsAt n c left (Done k) = (k ≡ n) × (n ≤ s.edges) × IsDoneAt s c true
  EndsAt n c left (Limit k) = (k ≡ n) × (n ≡ s.edges) × IsDoneAt s c false
  EndsAt n c left (Stopped fault) = (n < s.edges) × IsDoneAt s c false × StopsAt n left fault

  in_time : (n : ℕ) (c : AllContents) (left : List (List ℕ)) (a : End) → EndsAt n c left a → n ≤ s.edges
  in_time n c left (Done k) h = h.1
  in_time n c left (Limit k) h = let e = h.1 in omega (arith, e)
  in_time n c left (Stopped fault) h = let lt = h.0 in omega (arith, lt)

  stops_once : (n : ℕ) (left : List (List ℕ)) (a b : LineFault) → n ≤ s.edges → StopsAt n left a → StopsAt n left b → a ≡ b
  stops_once n left a b within h g =
      ⊎_elim
      (λ lt. absurd (not_before n left a b within h g lt))
      (λ ge. ⊎_elim (λ gt. absurd (not_before n left b a within g h gt)) (λ le. here (omega (arith, ge, le))) (cases_lt g.input h.input))
      (cases_lt h.input g.input)
    where
      not_before : (n : ℕ) (left : List (List ℕ)) (a b : LineFault) → n ≤ s.edges → (h : StopsAt n left a) → (g : StopsAt n left b) → h.input < g.input → ⊥
      not_before n left a b within h g lt =
          let same = same_asked n h.event g.event within h.asked g.asked in
          let none : fault_at s h.input ≡ None = g.earlier h.input lt (also_looks h.event g.event left h.input a same h.is h.looks) in
          let some : fault_at s h.input ≡ Some a = h.is in
          absurd (cc)

      here : h.input ≡ g.input → a ≡ b
      here e =
          let f : Some a ≡ Some b = sym h.is ∙ ap (fault_at s) e ∙ g.is in
          cc

  not_done : {A : Type 0} (c : AllContents) → IsDoneAt s c true → IsDoneAt s c false → A
  not_done c h g = absurd (true≢false (done_once c true false h g))

  ends_once : (n : ℕ) (c : AllContents) (left : List (List ℕ)) (a b : End) → EndsAt n c left a → EndsAt n c left b → a ≡ b
  ends_once n c left (Done k) (Done l) h g = ap Done (h.0 ∙ sym g.0)
  ends_once n c left (Done k) (Limit l) h g = not_done c h.2 g.2
  ends_once n c left (Done k) (Stopped b) h g = not_done c h.2 g.1
  ends_once n c left (Limit k) (Done l) h g = not_done c g.2 h.2
  ends_once n c left (Limit k) (Limit l) h g = ap Limit (h.0 ∙ sym g.0)
  ends_once n c left (Limit k) (Stopped b) h g = let e = h.1 in let lt = g.0 in absurd (omega (arith, e, lt))
  ends_once n c left (Stopped a) (Done l) h g = not_done c g.2 h.1
  ends_once n c left (Stopped a) (Limit l) h g = let e = g.1 in let lt = h.0 in absurd (omega (arith, e, lt))
  ends_once n c left (Stopped a) (Stopped b) h g = ap Stopped (stops_once n left a b (in_time n c left (Stopped a) h) h.2 g.2)

  -- the rest of a run, after so many edges
  record Rest (n : ℕ) (c : AllContents) (left : List (List ℕ)) (es : List Event) (vs : List Families) (a : End) : Type 0 where
    edges : EdgesFlat s.design s.top c vs
    asked : AreAsked stalls s.pick n s.outer es
    driven : Driven s.outer s.steady left es (own_of vs)
    idle : AllIdleAtZero s.outer.inputs (own_of vs)
    undone : UndoneBefore s c vs
    readable : ReadableBefore s left es (own_of vs)
    count : ℕ
    counted : count ≡ n + length vs
    ends : EndsAt count (contents_after s c vs) (left_after s.outer.inputs left (own_of vs)) a

  rest_in_time : {n : ℕ} {c : AllContents} {left : List (List ℕ)} {es : List Event} {vs : List Families} {a : End} → Rest n c left es vs a → n + length vs ≤ s.edges
  rest_in_time {c = c} {left = left} {vs = vs} {a = a} r = omega (arith, r.counted, in_time r.count (contents_after s c vs) (left_after s.outer.inputs left (own_of vs)) a r.ends)

  at_end : {n : ℕ} {c : AllContents} {left : List (List ℕ)} {es : List Event} {a : End} → Rest n c left es [] a → EndsAt n c left a
  at_end {n = n} {c = c} {left = left} {a = a} r =
      let e : r.count ≡ n = omega (arith, r.counted) in
      subst (λ (i : ℕ). EndsAt i c left a) e r.ends

  after_first : {n : ℕ} {c : AllContents} {left : List (List ℕ)} {e : Event} {es : List Event}
      {v : Families} {vs : List Families} {a : End} → Rest n c left (e ∷ es) (v ∷ vs) a
      → Rest (n + 1) (after_flat s.design s.top c v) (left_of s.outer.inputs left (v [])) es vs a
  after_first r = record {
    edges = r.edges.1;
    asked = r.asked.1;
    driven = r.driven.1;
    idle = r.idle.1;
    undone = r.undone.1;
    readable = r.readable.1;
    count = r.count;
    counted = omega (arith, r.counted);
    ends = r.ends;
  }

  -- where a run ends, no run goes on
  not_on : (n : ℕ) (c : AllContents) (left : List (List ℕ)) (f : Event) (fs : List Event) (w : Families) (ws : List Families) (a b : End) → EndsAt n c left a → Rest n c left (f ∷ fs) (w ∷ ws) b → ⊥
  not_on n c left f fs w ws (Done k) b h r = not_done c h.2 r.undone.0
  not_on n c left f fs w ws (Limit k) b h r = let e = h.1 in absurd (omega (arith, e, rest_in_time r))
  not_on n c left f fs w ws (Stopped fault) b h r =
      let x = h.2 in
      let same = same_asked n x.event f (omega (arith, rest_in_time r)) x.asked r.asked.0 in
      let none : fault_at s x.input ≡ None = r.readable.0 x.input (also_looks x.event f left x.input fault same x.is x.looks) in
      let some : fault_at s x.input ≡ Some fault = x.is in
      absurd (cc)

  rests_meet : (n : ℕ) (c : AllContents) (left : List (List ℕ)) (es fs : List Event) (vs ws : List Families) (a b : End) → Rest n c left es vs a → Rest n c left fs ws b → a ≡ b
  rests_meet n c left es fs [] [] a b h g = ends_once n c left a b (at_end h) (at_end g)
  rests_meet n c left es [] [] (w ∷ ws) a b h g = absurd g.driven
  rests_meet n c left es (f ∷ fs) [] (w ∷ ws) a b h g = absurd (not_on n c left f fs w ws a b (at_end h) g)
  rests_meet n c left [] fs (v ∷ vs) ws a b h g = absurd h.driven
  rests_meet n c left (e ∷ es) fs (v ∷ vs) [] a b h g = absurd (not_on n c left e es v vs b a (at_end g) h)
  rests_meet n c left (e ∷ es) [] (v ∷ vs) (w ∷ ws) a b h g = absurd g.driven
  rests_meet n c left (e ∷ es) (f ∷ fs) (v ∷ vs) (w ∷ ws) a b h g =
      let events = same_asked n e f (omega (arith, rest_in_time h)) h.asked.0 g.asked.0 in
      let same = fixed c v w h.edges.0 g.edges.0 (same_edge s.outer s.steady left e f (v []) (w []) events h.driven.0 g.driven.0 h.idle.0 g.idle.0) in
      let lefts : left_of s.outer.inputs left (w []) ≡ left_of s.outer.inputs left (v []) = ap (left_of s.outer.inputs left) (sym (same [] s.top refl)) in
      let other : Rest (n + 1) (after_flat s.design s.top c v)
      (left_of s.outer.inputs left (w [])) fs ws b = subst
      (λ (x : AllContents). Rest (n + 1) x (left_of s.outer.inputs left (w [])) fs ws b)
      (sym (same_after c v w same)) (after_first g) in
      rests_meet (n + 1) (after_flat s.design s.top c v) (left_of s.outer.inputs left (v [])) es fs vs ws a b (after_first h)
      (subst (λ (l : List (List ℕ)). Rest (n + 1) (after_flat s.design s.top c v) l fs ws b) lefts other)

  -- the run of an end, and where that is
  record Ending (r : Families) (vs : List Families) (a : End) : Type 0 where
    run : IsRun stalls s r vs
    ends : EndsAt (length vs) (contents_after s s.contents (r ∷ vs)) (left_after s.outer.inputs (map words_of s.inputs) (own_of vs)) a

  ending : {r : Families} {vs : List Families} {a : End} → Ends stalls s r vs a → Ending r vs a
  ending (done run within is) = record { run = run; ends = (refl, within, is) }
  ending (limit run last is) = record { run = run; ends = (refl, last, is) }
  ending (stopped fault run within is x) = record { run = run; ends = (within, is, record { event = x.event; asked = x.asked; input = x.input; looks = x.looks; is = x.is; earlier = x.earlier }) }

  whole : {r : Families} {vs : List Families} {a : End} → (x : Ending r vs a) → Rest 0 (after_flat s.design s.top s.contents r) (map words_of s.inputs) x.run.events vs a
  whole {vs = vs} x = record {
    edges = x.run.edges.1;
    asked = x.run.asked;
    driven = x.run.driven.1;
    idle = x.run.idle.1;
    undone = x.run.undone;
    readable = x.run.readable;
    count = length vs;
    counted = omega arith;
    ends = x.ends;
  }

  pub runs_end_alike : (r q : Families) (vs ws : List Families) (a b : End) → Ends stalls s r vs a → Ends stalls s q ws b → a ≡ b
  runs_end_alike r q vs ws a b h g =
      let x = ending h in
      let y = ending g in
      let same = fixed s.contents r q x.run.edges.0 y.run.edges.0 (same_reset s.outer s.steady (r []) (q []) x.run.driven.0 y.run.driven.0 x.run.idle.0 y.run.idle.0) in
      rests_meet 0 (after_flat s.design s.top s.contents r) (map words_of s.inputs) x.run.events y.run.events vs ws a b (whole x)
      (subst (λ (c : AllContents). Rest 0 c (map words_of s.inputs) y.run.events ws b) (sym (same_after s.contents r q same)) (whole y))
