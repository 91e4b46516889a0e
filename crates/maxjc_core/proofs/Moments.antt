-- Moments of a run before which done isn't 1, and the edge after them in which nothing is offered.
use Rattle.std.proofs.Common.{
  ◌≡◌,
  ℕ,
  zero,
  suc,
  ◌+◌,
  ◌<◌,
  ◌≤◌,
  ◌^◌,
  Bool,
  true,
  false,
  not,
  nat_eq,
  List,
  [],
  ◌∷◌,
  ◌++◌,
  length,
  map,
  refl,
  sym,
  ap,
  ◌∙◌,
  subst,
  arith,
}
use Rattle.std.proofs.lemmas.Bool.{false≢true}
use Rattle.rtl_ir.specs.Value.{Family}
use Rattle.rtl_ir.specs.Flat.{AllContents, Families, FitsFlat, EdgesFlat, after_flat}
use Rattle.rtl_ir.specs.Parts.{own_of}
use Rattle.rtl_ir.specs.Run.{
  Channel,
  Outer,
  Event,
  AllZero,
  NoneOffered,
  NoneAccepted,
  OfferedAll,
  AcceptedAll,
  HeldAll,
  Under,
  Driven,
  IsDriven,
  IsReset,
  left_of,
}
use Rattle.stall_source.specs.Stalls.{Answers, IsFreeAtZero}
use Rattle.simulation.specs.Inputs.{words_of}
use Rattle.simulation.specs.Asked.{AreAsked}
use Rattle.simulation.specs.Runs.{Setup, IsIdle, IsDoneAt, UndoneBefore, contents_after}
use Rattle.simulation.proofs.Snoc.{own_snoc}
use Rattle.project_rtl.specs.Times.{IsDoneBy}
use Rattle.maxjc_core.proofs.Freely.{AllFree, AllWait, done-last}

-- ---- at pattern number 0

not-false : (b : Bool) → not b ≡ false → b ≡ true
not-false true e = refl
not-false false e = absurd (false≢true (sym e))

-- at pattern number 0 no port stalls
pub asked-free : (stalls : Answers) → IsFreeAtZero stalls → (n : ℕ) (o : Outer) (es : List Event)
    → n + length es ≤ 2 ^ 64
    → length o.inputs + length o.outputs + length o.holds ≤ 2 ^ 32
    → AreAsked stalls 0 n o es → AllFree o es
asked-free stalls free n o [] early few asked = tt
asked-free stalls free n o (e ∷ es) early few asked = (
  record {
    offers = λ k lt. not-false (e.offers k)
        (free n k now (omega (arith, lt, few)) (not (e.offers k)) (asked.0.offers k lt));
    accepts = λ k lt. not-false (e.accepts k)
        (free n (length o.inputs + k) now (omega (arith, lt, few)) (not (e.accepts k)) (asked.0.accepts k lt));
    held = λ k lt. free n (length o.inputs + length o.outputs + k) now (omega (arith, lt, few))
        (e.held k) (asked.0.held k lt);
  },
  asked-free stalls free (n + 1) o es (omega (arith, early)) few asked.1,
)
  where
    now : n < 2 ^ 64
    now = omega (arith, early)

-- ---- an edge more in which all inputs are 0

idle-event : Event
idle-event = record { offers = λ k. false; accepts = λ k. false; held = λ k. false }

none-held : (k : ℕ) (ns : List ℕ) (v : Family) → AllZero ns v → HeldAll idle-event k ns v
unfolding idle-event
none-held k [] v h = tt
none-held k (n ∷ ns) v h = (h.0, none-held (k + 1) ns v h.1)

none-offered : (k : ℕ) (chs : List Channel) (left : List (List ℕ)) (v : Family)
    → length chs ≡ length left → NoneOffered chs v → OfferedAll idle-event k chs left v
unfolding idle-event
none-offered k [] [] v same h = tt
none-offered k [] (ws ∷ left) v same h = absurd (omega (arith, same))
none-offered k (ch ∷ chs) [] v same h = absurd (omega (arith, same))
none-offered k (ch ∷ chs) (ws ∷ left) v same h =
    (h.0, none-offered (k + 1) chs left v (omega (arith, same)) h.1)

none-accepted : (k : ℕ) (chs : List Channel) (v : Family) → NoneAccepted chs v
    → AcceptedAll idle-event k chs v
unfolding idle-event
none-accepted k [] v h = tt
none-accepted k (ch ∷ chs) v h = (h.0, none-accepted (k + 1) chs v h.1)

idle-edge : (o : Outer) (steady : List ℕ) (left : List (List ℕ)) (v : Family)
    → length o.inputs ≡ length left → IsIdle o steady v → Under o steady left idle-event v
idle-edge o steady left v same idle = record {
  clock = idle.clock;
  reset = idle.reset;
  steadily = idle.steadily;
  held = none-held 0 o.holds v idle.not_held;
  offered = none-offered 0 o.inputs left v same idle.none_offered;
  accepted = none-accepted 0 o.outputs v idle.none_accepted;
}

left-length : (chs : List Channel) (left : List (List ℕ)) (v : Family)
    → length chs ≡ length left → length chs ≡ length (left_of chs left v)
left-length [] left v same = same
left-length (ch ∷ chs) [] v same = same
left-length (ch ∷ chs) (ws ∷ left) v same =
    let r = left-length chs left v (omega (arith, same)) in omega (arith, r)

driven-idle : (o : Outer) (steady : List ℕ) (left : List (List ℕ)) (es : List Event)
    (vs : List Family) (v : Family) → length o.inputs ≡ length left → IsIdle o steady v
    → Driven o steady left es vs
    → Driven o steady left (es ++ idle-event ∷ []) (vs ++ v ∷ [])
driven-idle o steady left [] [] v same idle d = (idle-edge o steady left v same idle, tt)
driven-idle o steady left [] (w ∷ vs) v same idle d = absurd d
driven-idle o steady left (e ∷ es) [] v same idle d = absurd d
driven-idle o steady left (e ∷ es) (w ∷ vs) v same idle d =
    (d.0, driven-idle o steady (left_of o.inputs left w) es vs v (left-length o.inputs left w same) idle d.1)

edges-idle : (s : Setup) (c : AllContents) (vs : List Families) (v : Families)
    → EdgesFlat s.design s.top c vs → FitsFlat s.design s.top (contents_after s c vs) v
    → EdgesFlat s.design s.top c (vs ++ v ∷ [])
edges-idle s c [] v e f = (f, tt)
edges-idle s c (u ∷ vs) v e f = (e.0, edges-idle s (after_flat s.design s.top c u) vs v e.1 f)

-- ---- moments before which done isn't 1

-- so many edges from these contents on, in which no port stalls, and after which done isn't 1
pub record IsUndoneAfter (s : Setup) (c : AllContents) (left : List (List ℕ)) (n : ℕ) : Type 0 where
  pub vs : List Families
  pub events : List Event
  pub edges : EdgesFlat s.design s.top c vs
  pub driven : Driven s.outer s.steady left events (own_of vs)
  pub free : AllFree s.outer events
  pub many : length vs ≡ n
  pub undone : IsDoneAt s (contents_after s c vs) false

-- the first edges of a run before each of which done isn't 1
pub first-edges : (s : Setup) (c : AllContents) (left : List (List ℕ)) (n : ℕ) (es : List Event)
    (vs : List Families) → EdgesFlat s.design s.top c vs
    → Driven s.outer s.steady left es (own_of vs) → AllFree s.outer es → UndoneBefore s c vs
    → n < length vs → IsUndoneAfter s c left n
first-edges s c left n es [] edges driven free undone less = absurd (omega (arith, less))
first-edges s c left n [] (v ∷ vs) edges driven free undone less = absurd driven
first-edges s c left zero (e ∷ es) (v ∷ vs) edges driven free undone less = record {
  vs = [];
  events = [];
  edges = tt;
  driven = tt;
  free = tt;
  many = refl;
  undone = undone.0;
}
first-edges s c left (suc n) (e ∷ es) (v ∷ vs) edges driven free undone less =
    let r = first-edges s (after_flat s.design s.top c v) (left_of s.outer.inputs left (v [])) n es vs
    edges.1 driven.1 free.1 undone.1 (omega (arith, less)) in
    record {
      vs = v ∷ r.vs;
      events = e ∷ r.events;
      edges = (edges.0, r.edges);
      driven = (driven.0, r.driven);
      free = (free.0, r.free);
      many = ap suc r.many;
      undone = r.undone;
    }

pub event-count : (o : Outer) (steady : List ℕ) (left : List (List ℕ)) (es : List Event)
    (vs : List Family) → Driven o steady left es vs → length es ≡ length vs
event-count o steady left [] [] d = refl
event-count o steady left [] (v ∷ vs) d = absurd d
event-count o steady left (e ∷ es) [] d = absurd d
event-count o steady left (e ∷ es) (v ∷ vs) d =
    ap suc (event-count o steady (left_of o.inputs left v) es vs d.1)

pub own-count : (vs : List Families) → length (own_of vs) ≡ length vs
own-count [] = refl
own-count (v ∷ vs) = ap suc (own-count vs)

-- in every run of a setup the design is done behind so many edges in which nothing waits
abbrev pub IsDoneIn : Setup → ℕ → List ℕ → Type 0
IsDoneIn s most reads =
    (restart : Families) (vs : List Families) (events : List Event)
    → EdgesFlat s.design s.top s.contents (restart ∷ vs)
    → IsDriven s.outer s.steady (map words_of s.inputs) events (own_of (restart ∷ vs))
    → IsDoneBy s.outer most reads (map words_of s.inputs) 0 events (own_of vs)

-- So there is no moment behind so many edges before which it isn't.
pub never-undone : (s : Setup) (most n : ℕ) (reads : List ℕ) (restart : Families)
    → IsDoneIn s most reads → length reads ≤ length s.outer.inputs
    → length s.outer.inputs ≡ length (map words_of s.inputs) → AllWait reads (map words_of s.inputs)
    → FitsFlat s.design s.top s.contents restart → IsReset s.outer s.steady (restart []) → most ≤ n
    → IsUndoneAfter s (after_flat s.design s.top s.contents restart) (map words_of s.inputs) n → ⊥
never-undone s most n reads restart done few same wait fits reset enough u =
    let words = map words_of s.inputs in
    let v = u.undone.family in
    let events = u.events ++ idle-event ∷ [] in
    let own : own_of (u.vs ++ v ∷ []) ≡ own_of u.vs ++ v [] ∷ [] = own_snoc u.vs v in
    let after = after_flat s.design s.top s.contents restart in
    let edges = edges-idle s after u.vs v u.edges u.undone.fits in
    let driven : Driven s.outer s.steady words events (own_of (u.vs ++ v ∷ [])) =
    subst (λ (l : List Family). Driven s.outer s.steady words events l) (sym own)
    (driven-idle s.outer s.steady words u.events (own_of u.vs) (v []) same u.undone.idle u.driven) in
    let by = subst (λ (l : List Family). IsDoneBy s.outer most reads words 0 events l) own
    (done restart (u.vs ++ v ∷ []) events (fits, edges) (reset, driven)) in
    let counted = own-count u.vs in
    let is : v [] s.outer.done ≡ 1 =
    done-last s.outer most reads words 0 u.events (own_of u.vs) idle-event (v []) u.free
    (event-count s.outer s.steady words u.events (own_of u.vs) u.driven) few wait
    (omega (arith, counted, u.many, enough)) by in
    false≢true (u.undone.answer_is ∙ ap (λ x. nat_eq x 1) is)
