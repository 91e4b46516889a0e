-- Edge after edge a network keeps its times.
use Rattle.std.proofs.Common.{◌≡◌, ℕ, suc, ◌+◌, ◌<◌, ◌≤◌, Bool, true, false, cond, List, [], ◌∷◌, length, sym, ap, ◌∙◌, subst, arith}
use Rattle.std.specs.Prelude.{nat_lt}
use Rattle.rtl_ir.specs.Value.{Contents, bit}
use Rattle.rtl_ir.specs.Edge.{after_edge}
use Rattle.rtl_ir.specs.Flat.{Families}
use Rattle.rtl_ir.specs.Parts.{own_of}
use Rattle.rtl_ir.specs.Run.{Outer, Event, moves, moved, Driven, left_of}
use Rattle.kernel_control.specs.Refines.{StandsAgree}
use Rattle.project_rtl.specs.Times.{is_unstalled, still_of, next_count, unstalled_in, IsDoneBy}
use Rattle.project_runs.proofs.Network.{Kernels, Giver, Taker, Leaves, Input, Fifo, IsGiver, IsTaker, family_in, goes, next_at, taker_channel, taker_family}
use Rattle.project_runs.proofs.Network.{AreShown, IsRunning, next_taken, next_queue, AllRun}
use Rattle.project_runs.proofs.Networks.{IsNetwork}
use Rattle.project_runs.proofs.Edges.{next_running, stands}
use Rattle.project_on_time.proofs.Counts.{moves_on}
use Rattle.project_on_time.proofs.Schedule.{Timing, TakesInTime, IsScheduled, NotValid, AreAround, IsInTime, AreReached, LeftInTime}
use Rattle.project_on_time.proofs.Keeping.{valid_all, ready_all, goes_on, free_at, word_there, room_there, free_of, in_time_next}

-- what is shown
pub record IsKept {I : Type 0} (o : Outer) (fifo : I → Fifo) (b : Timing I) (es : List Event) (Vs : List Families) (left : List (List ℕ)) (still : List ℕ) (N : ℕ) (n : I → ℕ) : Type 0 where
  pub left_by : (x : I) → LeftInTime (b.taken x) (unstalled_in o still left N es (own_of Vs)) (n x) (fifo x).taker Vs
  pub done : IsDoneBy o b.most still left N es (own_of Vs)

pub left_none : (T : ℕ → ℕ) (N n : ℕ) (t : Taker) → T N ≤ n → LeftInTime T N n t []
left_none T N n (Leaves x) h = omega arith
left_none T N n (Input k y) h = tt

left_more : (T : ℕ → ℕ) (N n : ℕ) (ks : Kernels) (t : Taker) (V : Families) (Vs : List Families)
    → LeftInTime T N (cond (moves (taker_channel t) (taker_family ks t V)) (suc n) n) t Vs → LeftInTime T N n t (V ∷ Vs)
left_more T N n ks (Input k y) V Vs h = tt
left_more T N n ks (Leaves x) V Vs h = by (moves x (V [])) h
  where
    by : (m : Bool) → T N ≤ cond m (suc n) n + length (moved x (own_of Vs)) → T N ≤ n + length (cond m (V [] x.word ∷ moved x (own_of Vs)) (moved x (own_of Vs)))
    by true h = omega arith
    by false h = h

-- no word waits where all have been taken
none_waits : (ks : Kernels) (o : Outer) (start last : ℕ → ℕ) (f : Fifo) (most : ℕ) (G T : ℕ → ℕ) (at : ℕ → ℕ) (left : List (List ℕ)) (N n : ℕ) (q : List ℕ) (V : Families) (Vs : List Families)
    → most ≤ N → T N ≤ n → IsRunning ks at left f n q (V ∷ Vs) → (t : Taker) → TakesInTime ks o start last f most G T t
    → V (f.number ∷ []) 6 ≡ taker_family ks t V (taker_channel t).valid → NotValid t (V [])
none_waits ks o start last f most G T at left N n q V Vs le taken r (Input k y) takes valid = tt
none_waits ks o start last f most G T at left N n q V Vs le taken r (Leaves x) takes valid =
    let all = takes.spent N (n + length q) at left le r.given in
    let none : length q ≡ 0 = omega arith in
    sym valid ∙ r.shows.0.valid ∙ ap (λ j. bit (nat_lt 0 j)) none

pub times_kept : {I : Type 0} (ks : Kernels) (o : Outer) (fifo : I → Fifo) (b : Timing I) (steady : List ℕ) (es : List Event) (Vs : List Families)
    (at : ℕ → ℕ) (c : ℕ → Contents) (left : List (List ℕ)) (still : List ℕ) (N : ℕ) (n : I → ℕ) (q : I → List ℕ)
    → IsNetwork ks o fifo → IsScheduled ks o fifo b
    → AreAround ks o fifo b.hold Vs
    → Driven o steady left es (own_of Vs)
    → ((x : I) → IsRunning ks at left (fifo x) (n x) (q x) Vs)
    → AllRun ks at c Vs
    → AreReached ks b.start b.last at N
    → ((x : I) → IsInTime (b.total x) (b.given x) (b.taken x) still (fifo x).giver N (n x) (n x + length (q x)))
    → IsKept o fifo b es Vs left still N n
times_kept ks o fifo b steady [] [] at c left still N n q net sched around driven running runs reached times =
    record { left_by = λ x. left_none (b.taken x) N (n x) (fifo x).taker (times x).taken; done = tt }
times_kept ks o fifo b steady (e ∷ es) [] at c left still N n q net sched around driven running runs reached times = absurd driven
times_kept ks o fifo b steady [] (V ∷ Vs) at c left still N n q net sched around driven running runs reached times = absurd driven
times_kept {I = I} ks o fifo b steady (e ∷ es) (V ∷ Vs) at c left still N n q net sched around driven running runs reached times =
    let u = is_unstalled o e still left in
    let M = next_count u N in
    let agree : (k : ℕ) → k < ks.count → StandsAgree (ks.timed k) (at k) (ks.nets k).inputs (family_in ks k V) = λ k lt.
    stands ks fifo at left n q k (ks.nets k).inputs V Vs (λ i y e. net.fed k i y lt e) running in
    let shown : AreShown ks at c V = λ k lt. (runs k lt (agree k lt)).0 in
    let later : AllRun ks (next_at ks at V) (λ k. after_edge (ks.body k) (c k) (family_in ks k V)) Vs = λ k lt. (runs k lt (agree k lt)).1 in
    let must : (k : ℕ) → k < ks.count → u ≡ true → at k < b.last k → at k + b.start k ≡ N → 1 ≤ bit (goes ks at V k) = λ k lt un below just.
    let free = free_of o e still left un in
    let t = ks.timed k in
    let kv = family_in ks k V in
    let held : kv (ks.nets k).hold ≡ 0 = around.0.held k lt ∙ free_at e 0 o.holds (V []) k (b.hold k) free.free driven.0.held (sched.holds k lt) in
    let valid = valid_all t (at k) (ks.nets k).inputs kv
    (λ i y is due. let f = net.fed k i y lt is in let x = f.from in
    word_there ks o b.start b.last (fifo x) b.most (b.total x) (b.given x) (b.taken x) at left still N (n x) k (q x) y V Vs f.taker (sched.takes x) (running x) (times x) just due) in
    let ready = ready_all t (at k) (ks.nets k).outputs kv
    (λ i y is due. let d = sched.drained k i y lt is in let x = d.to in
    room_there ks b.start b.last (fifo x) (b.total x) (b.given x) (b.taken x) at left still N (n x) k (q x) y V Vs d.giver (sched.gives x) (running x) (times x) just due) in
    let g = ap bit (goes_on t (ks.nets k) (at k) kv held (sched.running k (at k) below) valid ready) in
    omega (arith, g) in
    let reached_next : AreReached ks b.start b.last (next_at ks at V) M = λ k lt.
    moves_on u (goes ks at V k) N (b.start k) (b.last k) (at k) (reached k lt) (must k lt) in
    let running_next : (x : I) → IsRunning ks (next_at ks at V) (left_of o.inputs left (V [])) (fifo x) (next_taken ks (fifo x) V (n x)) (next_queue (fifo x) V (q x)) Vs = λ x.
    next_running ks o at c left e V Vs (fifo x) (n x) (q x) shown driven.0.offered (net.between x) (running x) in
    let times_next : (x : I) → IsInTime (b.total x) (b.given x) (b.taken x) (still_of o.inputs still (V [])) (fifo x).giver M (next_taken ks (fifo x) V (n x))
    (next_taken ks (fifo x) V (n x) + length (next_queue (fifo x) V (q x))) = λ x.
    in_time_next ks o b.start b.last (fifo x) b.most (b.total x) (b.given x) (b.taken x) at left still e u N (n x) (q x) V Vs
    (free_of o e still left) driven.0.offered driven.0.accepted (running x) (times x)
    (net.between x).giver (sched.gives x) (sched.takes x)
    (λ k y is. let i = subst (λ (g : Giver). IsGiver ks o (fifo x).word g) is (net.between x).giver in reached_next k i.0)
    (λ k y is. let i = subst (λ (t : Taker). IsTaker ks t) is (net.between x).taker in reached_next k i.0)
    (running_next x) in
    let rest = times_kept ks o fifo b steady es Vs (next_at ks at V) (λ k. after_edge (ks.body k) (c k) (family_in ks k V)) (left_of o.inputs left (V [])) (still_of o.inputs still (V [])) M
    (λ x. next_taken ks (fifo x) V (n x)) (λ x. next_queue (fifo x) V (q x)) net sched around.1 driven.1 running_next later reached_next times_next in
    record {
      left_by = λ x. left_more (b.taken x) (unstalled_in o (still_of o.inputs still (V [])) (left_of o.inputs left (V [])) M es (own_of Vs)) (n x) ks (fifo x).taker V Vs (rest.left_by x);
      done = (
        λ le.
            around.0.done
            (λ k lt. let far = reached k lt in let after = sched.after N k le lt in (shown k lt).ended ∙ ap bit (sched.ended k (at k) (omega arith)))
            (λ x.
            none_waits ks o b.start b.last (fifo x) b.most (b.given x) (b.taken x) at left N (n x) (q x) V Vs le (times x).taken (running x) (fifo x).taker (sched.takes x)
            (running x).wired.0.taker.valid),
        rest.done,
      );
    }
