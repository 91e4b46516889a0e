-- A run with one edge more at its end.
use Rattle.std.proofs.Common.{◌≡◌, ℕ, ◌+◌, Bool, true, false, cond, List, [], ◌∷◌, ◌++◌, length, map, None, refl, sym, ap, ◌∙◌, subst, arith}
use Rattle.rtl_ir.specs.Value.{Family}
use Rattle.rtl_ir.specs.Flat.{AllContents, Families, FitsFlat, EdgesFlat, after_flat}
use Rattle.rtl_ir.specs.Parts.{own_of}
use Rattle.rtl_ir.specs.Run.{IsReset, Channel, Outer, Event, moves, moved, left_of, Under, Driven}
use Rattle.stall_source.specs.Stalls.{Answers}
use Rattle.simulation.specs.Inputs.{words_of}
use Rattle.simulation.specs.Asked.{IsAsked, AreAsked}
use Rattle.simulation.specs.Runs.{Setup, IdleAtZero, AllIdleAtZero, IsDoneAt, UndoneBefore, Looks, fault_at, ReadableBefore, contents_after, IsRun}
use Rattle.simulation.specs.Ends.{left_after}

pub own_snoc : (vs : List Families) (v : Families) → own_of (vs ++ v ∷ []) ≡ own_of vs ++ v [] ∷ []
own_snoc [] v = refl
own_snoc (u ∷ vs) v = ap (λ (l : List Family). u [] ∷ l) (own_snoc vs v)

pub contents_snoc : (s : Setup) (c : AllContents) (vs : List Families) (v : Families) → contents_after s c (vs ++ v ∷ []) ≡ after_flat s.design s.top (contents_after s c vs) v
contents_snoc s c [] v = refl
contents_snoc s c (u ∷ vs) v = contents_snoc s (after_flat s.design s.top c u) vs v

edges_snoc : (s : Setup) (c : AllContents) (vs : List Families) (v : Families)
    → EdgesFlat s.design s.top c vs → FitsFlat s.design s.top (contents_after s c vs) v
    → EdgesFlat s.design s.top c (vs ++ v ∷ [])
edges_snoc s c [] v e f = (f, tt)
edges_snoc s c (u ∷ vs) v e f = (e.0, edges_snoc s (after_flat s.design s.top c u) vs v e.1 f)

asked_snoc : (stalls : Answers) (pick n m : ℕ) (o : Outer) (es : List Event) (e : Event)
    → n + length es ≡ m → AreAsked stalls pick n o es → IsAsked stalls pick m o e
    → AreAsked stalls pick n o (es ++ e ∷ [])
asked_snoc stalls pick n m o [] e at a b = (subst (λ i. IsAsked stalls pick i o e) (sym (let z : n + 0 ≡ m = at in omega (arith, z))) b, tt)
asked_snoc stalls pick n m o (x ∷ es) e at a b = (a.0, asked_snoc stalls pick (n + 1) m o es e (omega (arith, at)) a.1 b)

pub left_snoc : (chs : List Channel) (words : List (List ℕ)) (vs : List Family) (v : Family) → left_after chs words (vs ++ v ∷ []) ≡ left_of chs (left_after chs words vs) v
left_snoc chs words [] v = refl
left_snoc chs words (u ∷ vs) v = left_snoc chs (left_of chs words u) vs v

driven_snoc : (o : Outer) (steady : List ℕ) (words : List (List ℕ)) (es : List Event)
    (vs : List Family) (e : Event) (v : Family) → Driven o steady words es vs
    → Under o steady (left_after o.inputs words vs) e v
    → Driven o steady words (es ++ e ∷ []) (vs ++ v ∷ [])
driven_snoc o steady words [] [] e v d u = (u, tt)
driven_snoc o steady words [] (w ∷ vs) e v d u = absurd d
driven_snoc o steady words (x ∷ es) [] e v d u = absurd d
driven_snoc o steady words (x ∷ es) (w ∷ vs) e v d u = (d.0, driven_snoc o steady (left_of o.inputs words w) es vs e v d.1 u)

driven_length : (o : Outer) (steady : List ℕ) (words : List (List ℕ)) (es : List Event) (vs : List Family) → Driven o steady words es vs → length es ≡ length vs
driven_length o steady words [] [] d = refl
driven_length o steady words [] (w ∷ vs) d = absurd d
driven_length o steady words (x ∷ es) [] d = absurd d
driven_length o steady words (x ∷ es) (w ∷ vs) d = let r = driven_length o steady (left_of o.inputs words w) es vs d.1 in omega (arith, r)

own_length : (vs : List Families) → length (own_of vs) ≡ length vs
own_length [] = refl
own_length (v ∷ vs) = let r = own_length vs in omega (arith, r)

idle_snoc : (chs : List Channel) (vs : List Family) (v : Family) → AllIdleAtZero chs vs → IdleAtZero chs v → AllIdleAtZero chs (vs ++ v ∷ [])
idle_snoc chs [] v a i = (i, tt)
idle_snoc chs (u ∷ vs) v a i = (a.0, idle_snoc chs vs v a.1 i)

undone_snoc : (s : Setup) (c : AllContents) (vs : List Families) (v : Families) → UndoneBefore s c vs → IsDoneAt s (contents_after s c vs) false → UndoneBefore s c (vs ++ v ∷ [])
undone_snoc s c [] v u d = (d, tt)
undone_snoc s c (w ∷ vs) v u d = (u.0, undone_snoc s (after_flat s.design s.top c w) vs v u.1 d)

readable_snoc : (s : Setup) (left : List (List ℕ)) (es : List Event) (vs : List Family)
    (e : Event) (v : Family) → length es ≡ length vs → ReadableBefore s left es vs
    → ((k : ℕ) → Looks e (left_after s.outer.inputs left vs) k → fault_at s k ≡ None)
    → ReadableBefore s left (es ++ e ∷ []) (vs ++ v ∷ [])
readable_snoc s left [] [] e v size r n = (n, tt)
readable_snoc s left [] (w ∷ vs) e v size r n = absurd (omega (arith, size))
readable_snoc s left (x ∷ es) [] e v size r n = absurd (omega (arith, size))
readable_snoc s left (x ∷ es) (w ∷ vs) e v size r n = (r.0, readable_snoc s (left_of s.outer.inputs left w) es vs e v (omega (arith, size)) r.1 n)

-- the words that left an output, with those of one edge more
pub moved_snoc : (ch : Channel) (vs : List Family) (v : Family) → moved ch (vs ++ v ∷ []) ≡ cond (moves ch v) (moved ch vs ++ v ch.word ∷ []) (moved ch vs)
moved_snoc ch [] v = refl
moved_snoc ch (u ∷ vs) v = by (moves ch u) (moves ch v) (moved_snoc ch vs v)
  where
    by : (a b : Bool) → moved ch (vs ++ v ∷ []) ≡ cond b (moved ch vs ++ v ch.word ∷ []) (moved ch vs)
        → cond a (u ch.word ∷ moved ch (vs ++ v ∷ [])) (moved ch (vs ++ v
        ∷ [])) ≡ cond b (cond a (u ch.word ∷ moved ch vs) (moved ch vs) ++ v ch.word
        ∷ []) (cond a (u ch.word ∷ moved ch vs) (moved ch vs))
    by a b e = elim a as (λ x. cond x (u ch.word ∷ moved ch (vs ++ v ∷ [])) (moved ch (vs ++ v
        ∷ [])) ≡ cond b (cond x (u ch.word ∷ moved ch vs) (moved ch vs) ++ v ch.word
        ∷ []) (cond x (u ch.word ∷ moved ch vs) (moved ch vs))) [
          | true ↦ ap (λ l. u ch.word ∷ l) e ∙ out b
          | false ↦ e
        ]
      where
        out : (b : Bool) → u ch.word ∷ cond b (moved ch vs ++ v ch.word ∷ []) (moved ch vs) ≡ cond b (u ch.word ∷ moved ch vs ++ v ch.word ∷ []) (u ch.word ∷ moved ch vs)
        out true = refl
        out false = refl

-- an edge more
pub run_more :
    (stalls : Answers) (s : Setup) (restart : Families) (vs : List Families) (r : IsRun stalls s restart vs) (e : Event) (v : Families)
    → FitsFlat s.design s.top (contents_after s s.contents (restart ∷ vs)) v
    → IsAsked stalls s.pick (length vs) s.outer e
    → Under s.outer s.steady (left_after s.outer.inputs (map words_of s.inputs) (own_of vs)) e (v [])
    → IdleAtZero s.outer.inputs (v [])
    → IsDoneAt s (contents_after s s.contents (restart ∷ vs)) false
    → ((k : ℕ) → Looks e (left_after s.outer.inputs (map words_of s.inputs) (own_of vs)) k → fault_at s k ≡ None)
    → IsRun stalls s restart (vs ++ v ∷ [])
run_more stalls s restart vs r e v fits asked under idle undone readable =
    let size : length r.events ≡ length (own_of vs) = driven_length s.outer s.steady (map words_of s.inputs) r.events (own_of vs) r.driven.1 in
    record {
      edges = edges_snoc s s.contents (restart ∷ vs) v r.edges fits;
      events = r.events ++ e ∷ [];
      asked = asked_snoc stalls s.pick 0 (length vs) s.outer r.events e (omega (arith, size, own_length vs)) r.asked asked;
      driven = (
        r.driven.0,
        subst (λ (l : List Family). Driven s.outer s.steady
            (map words_of s.inputs) (r.events ++ e
            ∷ []) l) (sym (own_snoc vs v)) (driven_snoc s.outer s.steady
            (map words_of s.inputs) r.events (own_of vs) e (v []) r.driven.1 under),
      );
      idle = (r.idle.0, subst (AllIdleAtZero s.outer.inputs) (sym (own_snoc vs v)) (idle_snoc s.outer.inputs (own_of vs) (v []) r.idle.1 idle));
      undone = undone_snoc s (after_flat s.design s.top s.contents restart) vs v r.undone undone;
      readable = subst (ReadableBefore s (map words_of s.inputs) (r.events ++ e
          ∷ [])) (sym (own_snoc vs v)) (readable_snoc s (map words_of s.inputs) r.events
          (own_of vs) e (v []) size r.readable readable);
    }

-- no edge but the reset edge
pub run_none :
    (stalls : Answers) (s : Setup) (restart : Families)
    → FitsFlat s.design s.top s.contents restart
    → IsReset s.outer s.steady (restart [])
    → IdleAtZero s.outer.inputs (restart [])
    → IsRun stalls s restart []
run_none stalls s restart fits reset idle =
    record {
      edges = (fits, tt);
      events = [];
      asked = tt;
      driven = (reset, tt);
      idle = (idle, tt);
      undone = tt;
      readable = tt;
    }
