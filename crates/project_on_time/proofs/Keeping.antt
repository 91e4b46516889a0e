-- One edge of a network that keeps its times.
use Rattle.std.proofs.Common.{◌≡◌, ℕ, zero, suc, ◌+◌, ◌-◌, ◌<◌, ◌≤◌, Bool, true, false, not, cond, ◌&&◌, ◌||◌, eqb, inl, inr}
use Rattle.std.proofs.Common.{List, [], ◌∷◌, ◌++◌, Some, length, drop, refl, sym, ap, ◌∙◌, subst, arith, length-append, eq-eqb}
use Rattle.std.specs.Prelude.{slice_get, min}
use Rattle.std.proofs.lemmas.Bool.{false≢true, lt-ltb, ne_eqb, cases_lt}
use Rattle.std.proofs.lemmas.Option.{same_Some}
use Rattle.rtl_ir.specs.Value.{Family, bit}
use Rattle.rtl_ir.specs.Flat.{Families}
use Rattle.rtl_ir.specs.Run.{Channel, Outer, Event, moves, Offered, OfferedAll, AcceptedAll, HeldAll, left_of}
use Rattle.stream_equations.specs.Equations.{count_before}
use Rattle.kernel_control.specs.Ports.{PortChannel, ModuleNets}
use Rattle.kernel_control.specs.Refines.{TimedRun, all_valid, all_ready, advances}
use Rattle.link_fifo.specs.Netlist.{input, output}
use Rattle.project_rtl.specs.Times.{none_held, all_accept, all_offer, has_one, is_unstalled, still_of, next_count}
use Rattle.project_runs.proofs.Steps.{both_true, same_moves}
use Rattle.project_runs.proofs.Steps as steps
use Rattle.project_runs.proofs.Network.{Kernels, Giver, Words, Output, Taker, Leaves, Input, Fifo, IsGiver, family_in, next_at}
use Rattle.project_runs.proofs.Network.{giver_channel, giver_family, taker_channel, taker_family, HasGiven, HasTaken, IsRunning, next_taken, next_queue}
use Rattle.project_runs.proofs.Edges.{offered_at}
use Rattle.project_on_time.proofs.Counts.{grows}
use Rattle.project_on_time.proofs.Schedule.{IsPortTime, GivesInTime, TakesInTime, IsStill, IsInTime}

-- ---- tests

both : (a b : Bool) → a ≡ true → b ≡ true → a && b ≡ true
both true b e f = f
both false b e f = absurd (false≢true e)

if_due : (due a : Bool) → (due ≡ true → a ≡ true) → not due || a ≡ true
if_due true a h = h refl
if_due false a h = refl

pub valid_all : (t : TimedRun) (p : ℕ) (ys : List PortChannel) (v : Family)
    → ((i : ℕ) (y : PortChannel) → slice_get ys i ≡ Some y → t.due y.node p ≡ true → v y.channel.valid ≡ 1) → all_valid t p ys v ≡ true
valid_all t p [] v h = refl
valid_all t p (y ∷ ys) v h =
    both (not (t.due y.node p) || eqb (v y.channel.valid) 1) (all_valid t p ys v)
    (if_due (t.due y.node p) (eqb (v y.channel.valid) 1) (λ d. eq-eqb (v y.channel.valid) 1 (h 0 y refl d)))
    (valid_all t p ys v (λ i z e d. h (suc i) z e d))

pub ready_all : (t : TimedRun) (p : ℕ) (ys : List PortChannel) (v : Family)
    → ((i : ℕ) (y : PortChannel) → slice_get ys i ≡ Some y → t.due y.node p ≡ true → v y.channel.ready ≡ 1) → all_ready t p ys v ≡ true
ready_all t p [] v h = refl
ready_all t p (y ∷ ys) v h =
    both (not (t.due y.node p) || eqb (v y.channel.ready) 1) (all_ready t p ys v)
    (if_due (t.due y.node p) (eqb (v y.channel.ready) 1) (λ d. eq-eqb (v y.channel.ready) 1 (h 0 y refl d)))
    (ready_all t p ys v (λ i z e d. h (suc i) z e d))

-- a kernel that isn't held and hasn't ended advances where its due inputs are valid and its due outputs have room
pub goes_on : (t : TimedRun) (q : ModuleNets) (p : ℕ) (v : Family) → v q.hold ≡ 0 → t.ends p ≡ false
    → all_valid t p q.inputs v ≡ true → all_ready t p q.outputs v ≡ true → advances t q p v ≡ true
goes_on t q p v free runs valid ready =
    ap (λ n. not (eqb n 1) && (not (t.ends p) && (all_valid t p q.inputs v && all_ready t p q.outputs v))) free
    ∙ ap (λ b. not b && (all_valid t p q.inputs v && all_ready t p q.outputs v)) runs
    ∙ both (all_valid t p q.inputs v) (all_ready t p q.outputs v) valid ready

-- ---- by number

pub accepts_at : (e : Event) (k : ℕ) (chs : List Channel) (v : Family) (i : ℕ) (x : Channel)
    → all_accept e k chs ≡ true → AcceptedAll e k chs v → slice_get chs i ≡ Some x → v x.ready ≡ 1
accepts_at e k [] v i x u h a = absurd (cc)
accepts_at e k (ch ∷ chs) v zero x u h a =
    let b = both_true (e.accepts k) (all_accept e (k + 1) chs) u in
    ap (λ (y : Channel). v y.ready) (sym (same_Some ch x a)) ∙ h.0 ∙ ap bit b.0
accepts_at e k (ch ∷ chs) v (suc i) x u h a =
    let b = both_true (e.accepts k) (all_accept e (k + 1) chs) u in
    accepts_at e (k + 1) chs v i x b.1 h.1 a

pub free_at : (e : Event) (k : ℕ) (holds : List ℕ) (v : Family) (i n : ℕ) → none_held e k holds ≡ true → HeldAll e k holds v → slice_get holds i ≡ Some n → v n ≡ 0
free_at e k [] v i n u h a = absurd (cc)
free_at e k (m ∷ holds) v zero n u h a =
    let b = both_true (not (e.held k)) (none_held e (k + 1) holds) u in
    ap v (sym (same_Some m n a)) ∙ h.0 ∙ off (e.held k) b.0
  where
    off : (b : Bool) → not b ≡ true → bit b ≡ 0
    off true h = absurd (false≢true h)
    off false h = refl
free_at e k (m ∷ holds) v (suc i) n u h a =
    let b = both_true (not (e.held k)) (none_held e (k + 1) holds) u in
    free_at e (k + 1) holds v i n b.1 h.1 a

pub offers_at : (e : Event) (k : ℕ) (still : List ℕ) (left : List (List ℕ)) (i s : ℕ) (r : List ℕ)
    → all_offer e k still left ≡ true → slice_get still i ≡ Some s → slice_get left i ≡ Some r
    → eqb s 0 || (e.offers (k + i) && has_one r) ≡ true
offers_at e k [] left i s r u a b = absurd (cc)
offers_at e k (n ∷ still) [] i s r u a b = absurd (cc)
offers_at e k (n ∷ still) (ws ∷ left) zero s r u a b =
    let z : k ≡ k + 0 = omega arith in
    ap (λ j. eqb s 0 || (e.offers j && has_one r)) (sym z)
    ∙ ap (λ j. eqb j 0 || (e.offers k && has_one r)) (sym (same_Some n s a))
    ∙ ap (λ (l : List ℕ). eqb n 0 || (e.offers k && has_one l)) (sym (same_Some ws r b))
    ∙ (both_true (eqb n 0 || (e.offers k && has_one ws)) (all_offer e (k + 1) still left) u).0
offers_at e k (n ∷ still) (ws ∷ left) (suc i) s r u a b =
    let z : k + 1 + i ≡ k + suc i = omega arith in
    ap (λ j. eqb s 0 || (e.offers j && has_one r)) (sym z)
    ∙ offers_at e (k + 1) still left i s r (both_true (eqb n 0 || (e.offers k && has_one ws)) (all_offer e (k + 1) still left) u).1 a b

pub still_at : (chs : List Channel) (still : List ℕ) (v : Family) (i s : ℕ) (x : Channel)
    → slice_get chs i ≡ Some x → slice_get still i ≡ Some s → slice_get (still_of chs still v) i ≡ Some (cond (moves x v) (s - 1) s)
still_at [] still v i s x a b = absurd (cc)
still_at (ch ∷ chs) [] v i s x a b = absurd (cc)
still_at (ch ∷ chs) (n ∷ still) v zero s x a b =
    ap (λ (y : Channel). Some (cond (moves y v) (n - 1) n)) (same_Some ch x a) ∙ ap (λ (j : ℕ). Some (cond (moves x v) (j - 1) j)) (same_Some n s b)
still_at (ch ∷ chs) (n ∷ still) v (suc i) s x a b = still_at chs still v i s x a b

-- ---- counts

-- a port of a kernel that is as far as it has to be has as many words
pub port_bound : (ks : Kernels) (start last : ℕ → ℕ) (k : ℕ) (y : PortChannel) (C : ℕ → ℕ) (N p : ℕ) → IsPortTime ks start last k y C
    → min (N - start k) (last k) ≤ p → C N ≤ count_before ((ks.timed k).due y.node) p
port_bound ks start last k y C N p h le =
    let due = (ks.timed k).due y.node in
    let is = h.is N in
    elim (cases_lt (N - start k) (last k)) [
      | inl lt ↦ let a = (grows due).up (N - start k) p (omega arith) in omega arith
      | inr ge ↦
          let a = (grows due).up (last k) p (omega arith) in
          let b = h.most (N - start k) in
          omega arith
    ]

-- the host takes a word more where one waits
leaves_more : (u m : Bool) (G T : ℕ → ℕ) (N n w : ℕ) → T N ≤ n → G N ≤ w → n ≤ w → T (N + 1) ≤ G N → T (N + 1) ≤ T N + 1
    → (u ≡ true → n < w → m ≡ true) → T (next_count u N) ≤ cond m (suc n) n
leaves_more true true G T N n w taken given le behind slow must = omega arith
leaves_more true false G T N n w taken given le behind slow must = elim (cases_lt n w) [
  | inl lt ↦ absurd (false≢true (must refl lt))
  | inr ge ↦ omega arith
]
leaves_more false true G T N n w taken given le behind slow must = omega arith
leaves_more false false G T N n w taken given le behind slow must = taken

-- it gives one more where one is to be read yet and there is room
gives_more : (u m : Bool) (G T : ℕ → ℕ) (N n w total : ℕ) → T N ≤ n → G N ≤ w → G N ≤ T N + 1 → G (N + 1) ≤ G N + 1 → G (N + 1) ≤ total
    → (u ≡ true → w < total → w < n + 2 → m ≡ true) → G (next_count u N) ≤ cond m (suc w) w
gives_more true true G T N n w total taken given near slow most must = omega arith
gives_more true false G T N n w total taken given near slow most must = elim (cases_lt w total) [
  | inl lt ↦
      elim (cases_lt w (n + 2)) [
        | inl room ↦ absurd (false≢true (must refl lt room))
        | inr full ↦ omega arith
      ]
  | inr ge ↦ omega arith
]
gives_more false true G T N n w total taken given near slow most must = omega arith
gives_more false false G T N n w total taken given near slow most must = given

total_next : (mo mi : Bool) (n : ℕ) (q : List ℕ) (w : ℕ) → (mo ≡ true → 0 < length q)
    → cond mo (suc n) n + length (cond mo (drop 1 q) q ++ cond mi (w ∷ []) []) ≡ cond mi (suc (n + length q)) (n + length q)
total_next true mi n [] w h = absurd (let g : 0 < 0 = h refl in omega arith)
total_next true true n (a ∷ q) w h = simp length-append (omega arith)
total_next true false n (a ∷ q) w h = simp length-append (omega arith)
total_next false true n q w h = simp length-append (omega arith)
total_next false false n q w h = simp length-append (omega arith)

still_less : (m : Bool) (total w : ℕ) → cond m (total - w - 1) (total - w) ≡ total - cond m (suc w) w
still_less true total w = omega arith
still_less false total w = refl

-- a word that the host offers moves where there is room
offered_moves : (offers : Bool) (x : Channel) (r : List ℕ) (v : Family) → Offered offers x r v → offers && has_one r ≡ true → v x.ready ≡ 1 → moves x v ≡ true
offered_moves false x r v h u ready = absurd (false≢true u)
offered_moves true x [] v h u ready = absurd (false≢true u)
offered_moves true x (w ∷ ws) v h u ready = ap (λ n. eqb n 1 && eqb (v x.ready) 1) h.0 ∙ ap (λ n. eqb n 1) ready

unread : (s : ℕ) (b : Bool) → eqb s 0 || b ≡ true → 0 < s → b ≡ true
unread s b h some = ap (λ a. a || b) (sym (ne_eqb s 0 (λ e. absurd (omega arith)))) ∙ h

-- ---- a FIFO

moves_by : (x : Channel) (v : Family) → v x.valid ≡ 1 → v x.ready ≡ 1 → moves x v ≡ true
moves_by x v valid ready = ap (λ n. eqb n 1 && eqb (v x.ready) 1) valid ∙ ap (λ n. eqb n 1) ready

-- a kernel that is just as far as it has to be has a word at an input that is due
pub word_there : (ks : Kernels) (o : Outer) (start last : ℕ → ℕ) (f : Fifo) (most total : ℕ) (G T : ℕ → ℕ) (at : ℕ → ℕ) (left : List (List ℕ)) (still : List ℕ)
    (N n k : ℕ) (q : List ℕ) (y : PortChannel) (V : Families) (Vs : List Families)
    → f.taker ≡ Input k y → TakesInTime ks o start last f most G T f.taker → IsRunning ks at left f n q (V ∷ Vs)
    → IsInTime total G T still f.giver N n (n + length q)
    → at k + start k ≡ N → (ks.timed k).due y.node (at k) ≡ true → family_in ks k V y.channel.valid ≡ 1
word_there ks o start last f most total G T at left still N n k q y V Vs is takes r h e due =
    let P : Taker → Type 0 = λ t. TakesInTime ks o start last f most G T t × HasTaken ks at t n × (V (f.number ∷ []) 6 ≡ taker_family ks t V (taker_channel t).valid) in
    let p : P (Input k y) = subst P is (takes, r.taken, r.wired.0.taker.valid) in
    let d : N - start k ≡ at k = omega arith in
    let less : T N < G N = p.0.1 N (omega arith) (ap ((ks.timed k).due y.node) d ∙ due) in
    let count : T N ≡ n = p.0.0.is N ∙ ap (λ j. count_before ((ks.timed k).due y.node) j) d ∙ p.1 in
    let given = h.given in
    let some : 0 < length q = omega arith in
    sym p.2 ∙ r.shows.0.valid ∙ ap bit (lt-ltb 0 (length q) some)

-- and room at an output that is due
pub room_there : (ks : Kernels) (start last : ℕ → ℕ) (f : Fifo) (total : ℕ) (G T : ℕ → ℕ) (at : ℕ → ℕ) (left : List (List ℕ)) (still : List ℕ)
    (N n k : ℕ) (q : List ℕ) (y : PortChannel) (V : Families) (Vs : List Families)
    → f.giver ≡ Output k y → GivesInTime ks start last total G T f.depth f.giver → IsRunning ks at left f n q (V ∷ Vs)
    → IsInTime total G T still f.giver N n (n + length q)
    → at k + start k ≡ N → (ks.timed k).due y.node (at k) ≡ true → family_in ks k V y.channel.ready ≡ 1
room_there ks start last f total G T at left still N n k q y V Vs is gives r h e due =
    let P : Giver → Type 0 = λ g. GivesInTime ks start last total G T f.depth g × HasGiven ks at left g (n + length q) × (V (f.number ∷ []) 4 ≡ giver_family ks g V (giver_channel g).ready) in
    let p : P (Output k y) = subst P is (gives, r.given, r.wired.0.giver.ready) in
    let d : N - start k ≡ at k = omega arith in
    let less : G N < f.depth + T N = p.0.1 N (omega arith) (ap ((ks.timed k).due y.node) d ∙ due) in
    let count : G N ≡ n + length q = p.0.0.is N ∙ ap (λ j. count_before ((ks.timed k).due y.node) j) d ∙ p.1 in
    let taken = h.taken in
    let room : length q < f.depth = omega arith in
    sym p.2 ∙ r.shows.0.ready ∙ ap bit (lt-ltb (length q) f.depth room)

-- what an edge in which nothing waits for the host says
pub record IsFree (o : Outer) (e : Event) (still : List ℕ) (left : List (List ℕ)) : Type 0 where
  pub free : none_held e 0 o.holds ≡ true
  pub accepts : all_accept e 0 o.outputs ≡ true
  pub offers : all_offer e 0 still left ≡ true

pub free_of : (o : Outer) (e : Event) (still : List ℕ) (left : List (List ℕ)) → is_unstalled o e still left ≡ true → IsFree o e still left
free_of o e still left h =
    let a = both_true (none_held e 0 o.holds) (all_accept e 0 o.outputs && all_offer e 0 still left) h in
    let b = both_true (all_accept e 0 o.outputs) (all_offer e 0 still left) a.1 in
    record { free = a.0; accepts = b.0; offers = b.1 }

module _ (ks : Kernels) (o : Outer) (start last : ℕ → ℕ) (f : Fifo) (most total : ℕ) (G T : ℕ → ℕ) (at : ℕ → ℕ) (left : List (List ℕ)) (still : List ℕ)
    (e : Event) (u : Bool) (N n : ℕ) (q : List ℕ) (V : Families) (Vs : List Families)
    (free : u ≡ true → IsFree o e still left) (offered : OfferedAll e 0 o.inputs left (V [])) (accepted : AcceptedAll e 0 o.outputs (V []))
    (r : IsRunning ks at left f n q (V ∷ Vs)) (h : IsInTime total G T still f.giver N n (n + length q)) where
  abbrev a : Family
  a = V (f.number ∷ [])

  -- how many were taken behind the edge
  keep_taken : (t : Taker) → TakesInTime ks o start last f most G T t
      → a 6 ≡ taker_family ks t V (taker_channel t).valid
      → ((k : ℕ) (y : PortChannel) → t ≡ Input k y → min (next_count u N - start k) (last k) ≤ next_at ks at V k)
      → HasTaken ks (next_at ks at V) t (cond (moves (taker_channel t) (taker_family ks t V)) (suc n) n)
      → T (next_count u N) ≤ cond (moves (taker_channel t) (taker_family ks t V)) (suc n) n
  keep_taken (Input k y) takes valid reached taken =
      let b = port_bound ks start last k y T (next_count u N) (next_at ks at V k) takes.0 (reached k y refl) in
      let g = taken in
      omega (arith, b, g)
  keep_taken (Leaves x) takes valid reached taken =
      let v : Family = V [] in
      let w = n + length q in
      let must : u ≡ true → n < w → moves x v ≡ true = λ c lt.
      moves_by x v (sym valid ∙ r.shows.0.valid ∙ ap bit (lt-ltb 0 (length q) (omega arith)))
      (accepts_at e 0 o.outputs v takes.place x (free c).accepts accepted takes.at) in
      leaves_more u (moves x v) G T N n w h.taken h.given (omega arith) (takes.behind N) (takes.slow N) must

  -- and how many were given
  keep_given : (g : Giver) → GivesInTime ks start last total G T f.depth g → IsGiver ks o f.word g
      → a 4 ≡ giver_family ks g V (giver_channel g).ready
      → ((k : ℕ) (y : PortChannel) → g ≡ Output k y → min (next_count u N - start k) (last k) ≤ next_at ks at V k)
      → HasGiven ks at left g (n + length q)
      → IsStill still total (n + length q) g
      → HasGiven ks (next_at ks at V) (left_of o.inputs left (V [])) g (cond (moves (giver_channel g) (giver_family ks g V)) (suc (n + length q)) (n + length q))
      → G (next_count u N) ≤ cond (moves (giver_channel g) (giver_family ks g V)) (suc (n + length q)) (n + length q)
  keep_given (Output k y) gives is ready reached before still_is given =
      let b = port_bound ks start last k y G (next_count u N) (next_at ks at V k) gives.0 (reached k y refl) in
      let g = given in
      omega (arith, b, g)
  keep_given (Words i x ws) gives is ready reached before still_is given =
      let v : Family = V [] in
      let w = n + length q in
      let must : u ≡ true → w < total → w < n + 2 → moves x v ≡ true = λ c lt room.
      let two = gives.depth_is in
      let rest = drop w ws in
      let some = unread (total - w) (e.offers (0 + i) && has_one rest) (offers_at e 0 still left i (total - w) rest (free c).offers still_is before) (omega arith) in
      offered_moves (e.offers (0 + i)) x rest v (offered_at e 0 o.inputs left v i x rest offered is.0 before) some
      (sym ready ∙ r.shows.0.ready ∙ ap bit (lt-ltb (length q) f.depth (omega arith))) in
      gives_more u (moves x v) G T N n w total h.taken h.given (gives.near N) (gives.slow N) (gives.most (N + 1)) must

  keep_still : (g : Giver) → IsGiver ks o f.word g → IsStill still total (n + length q) g
      → IsStill (still_of o.inputs still (V [])) total (cond (moves (giver_channel g) (giver_family ks g V)) (suc (n + length q)) (n + length q)) g
  keep_still (Output k y) is still_is = tt
  keep_still (Words i x ws) is still_is =
      still_at o.inputs still (V []) i (total - (n + length q)) x is.0 still_is
      ∙ ap (λ (j : ℕ). Some j) (still_less (moves x (V [])) total (n + length q))

  -- how many words are given behind the edge
  given_next : next_taken ks f V n + length (next_queue f V q)
      ≡ cond (moves (giver_channel f.giver) (giver_family ks f.giver V)) (suc (n + length q)) (n + length q)
  given_next =
      let gv = giver_family ks f.giver V in
      let tv = taker_family ks f.taker V in
      let from = r.wired.0.giver in
      let to = r.wired.0.taker in
      let mi : moves input a ≡ moves (giver_channel f.giver) gv = same_moves input (giver_channel f.giver) a gv from.valid from.ready in
      let mo : moves output a ≡ moves (taker_channel f.taker) tv = same_moves output (taker_channel f.taker) a tv to.valid to.ready in
      ap (λ b. cond b (suc n) n + length (next_queue f V q)) (sym mo)
      ∙ total_next (moves output a) (moves input a) n q (a 2) (steps.has_one f.depth q a r.shows.0)
      ∙ ap (λ b. cond b (suc (n + length q)) (n + length q)) mi

  pub in_time_next : IsGiver ks o f.word f.giver → GivesInTime ks start last total G T f.depth f.giver → TakesInTime ks o start last f most G T f.taker
      → ((k : ℕ) (y : PortChannel) → f.giver ≡ Output k y → min (next_count u N - start k) (last k) ≤ next_at ks at V k)
      → ((k : ℕ) (y : PortChannel) → f.taker ≡ Input k y → min (next_count u N - start k) (last k) ≤ next_at ks at V k)
      → IsRunning ks (next_at ks at V) (left_of o.inputs left (V [])) f (next_taken ks f V n) (next_queue f V q) Vs
      → IsInTime total G T (still_of o.inputs still (V [])) f.giver (next_count u N) (next_taken ks f V n) (next_taken ks f V n + length (next_queue f V q))
  in_time_next is gives takes giver_reached taker_reached next =
      let count = given_next in
      let P : ℕ → Type 0 = λ w. HasGiven ks (next_at ks at V) (left_of o.inputs left (V [])) f.giver w in
      let given = keep_given f.giver gives is r.wired.0.giver.ready giver_reached r.given h.still_is (subst P count next.given) in
      let Q : ℕ → Type 0 = λ w. IsStill (still_of o.inputs still (V [])) total w f.giver in
      record {
        given = let g = given in omega (arith, g, count);
        taken = keep_taken f.taker takes r.wired.0.taker.valid taker_reached next.taken;
        still_is = subst Q (sym count) (keep_still f.giver is h.still_is);
      }
