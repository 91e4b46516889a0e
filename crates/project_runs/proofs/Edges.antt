-- One edge of a network: what each side of a FIFO does, and the FIFO's state behind the edge.
use Rattle.std.proofs.Common.{◌≡◌, ℕ, zero, suc, ◌+◌, Bool, true, not, cond, ◌&&◌, ◌||◌, eqb, List, [], ◌∷◌, Option, Some, length, drop, refl, sym, ap, ◌∙◌, subst, arith, eqb-true}
use Rattle.std.specs.Prelude.{slice_get}
use Rattle.rtl_ir.specs.Value.{Family, Contents}
use Rattle.rtl_ir.specs.Flat.{Families}
use Rattle.rtl_ir.specs.Parts.{own_of}
use Rattle.rtl_ir.specs.Run.{Channel, Outer, Event, moves, moved, Offered, OfferedAll, left_of}
use Rattle.rtl_delays.specs.Delays.{IsWord}
use Rattle.stream_equations.specs.Equations.{count_before}
use Rattle.kernel_control.specs.Ports.{PortChannel, ModuleNets}
use Rattle.kernel_control.specs.Refines.{TimedRun, all_valid, all_ready, advances, IsGiven, StandsAgree, Takes, Gives}
use Rattle.link_fifo.specs.Queue.{queue_after}
use Rattle.link_fifo.specs.Netlist.{input, output}
use Rattle.project_runs.proofs.Steps.{both_true, same_moves, takes_one, gives_one, has_one, has_valid, due_next, drop_if, offered_word}
use Rattle.project_runs.proofs.Steps.{AgreeFrom, holds_next, head_agrees, left_more, given_word, word_of}
use Rattle.project_runs.proofs.Network.{Kernels, Giver, Words, Output, Taker, Leaves, Input, Fifo, IsGiver, IsTaker, IsBetween, family_in, goes, next_at}
use Rattle.project_runs.proofs.Network.{giver_channel, giver_family, taker_channel, taker_family, AreShown, HasGiven, HasTaken, IsRunning, next_taken, next_queue, IsFed, HasLeft}

-- ---- a port of a kernel

-- where the kernel advances, each due input is valid and each due output has room
record Advancing (k : TimedRun) (q : ModuleNets) (p : ℕ) (v : Family) : Type 0 where
  valid : all_valid k p q.inputs v ≡ true
  ready : all_ready k p q.outputs v ≡ true

advancing : (k : TimedRun) (q : ModuleNets) (p : ℕ) (v : Family) → advances k q p v ≡ true → Advancing k q p v
advancing k q p v h =
    let a = both_true (not (eqb (v q.hold) 1)) (not (k.ends p) && (all_valid k p q.inputs v && all_ready k p q.outputs v)) h in
    let b = both_true (not (k.ends p)) (all_valid k p q.inputs v && all_ready k p q.outputs v) a.1 in
    let c = both_true (all_valid k p q.inputs v) (all_ready k p q.outputs v) b.1 in
    record { valid = c.0; ready = c.1 }

input_moves : (k : TimedRun) (p : ℕ) (go : Bool) (xs : List PortChannel) (v : Family) (i : ℕ) (x : PortChannel)
    → slice_get xs i ≡ Some x → Takes k p go xs v → (go ≡ true → all_valid k p xs v ≡ true)
    → moves x.channel v ≡ go && k.due x.node p
input_moves k p go [] v i x e t h = absurd (cc)
input_moves k p go (z ∷ xs) v zero x e t h =
    let same : z ≡ x = cc in
    let one : go ≡ true → not (k.due z.node p) || eqb (v z.channel.valid) 1 ≡ true = λ g. (both_true (not (k.due z.node p) || eqb (v z.channel.valid) 1) _ (h g)).0 in
    subst (λ (y : PortChannel). moves y.channel v ≡ go && k.due y.node p) same
    (takes_one go (k.due z.node p) (v z.channel.valid) (v z.channel.ready) t.0 one)
input_moves k p go (z ∷ xs) v (suc i) x e t h =
    input_moves k p go xs v i x e t.1 (λ g. (both_true (not (k.due z.node p) || eqb (v z.channel.valid) 1) _ (h g)).1)

-- what is said of one output of a kernel in an edge
record IsOne (k : TimedRun) (p : ℕ) (go : Bool) (y : PortChannel) (v : Family) : Type 0 where
  moves : moves y.channel v ≡ go && k.due y.node p
  word : go && k.due y.node p ≡ true → IsGiven (k.out_word y.node (count_before (k.due y.node) p)) (v y.channel.word)

output_moves : (k : TimedRun) (p : ℕ) (go : Bool) (ys : List PortChannel) (v : Family) (i : ℕ) (y : PortChannel)
    → slice_get ys i ≡ Some y → Gives k p go ys v → (go ≡ true → all_ready k p ys v ≡ true) → IsOne k p go y v
output_moves k p go [] v i y e g r = absurd (cc)
output_moves k p go (z ∷ ys) v zero y e g r =
    let same : z ≡ y = cc in
    let room : go ≡ true → not (k.due z.node p) || eqb (v z.channel.ready) 1 ≡ true = λ h. (both_true (not (k.due z.node p) || eqb (v z.channel.ready) 1) _ (r h)).0 in
    subst (λ (x : PortChannel). IsOne k p go x v) same
    (record { moves = gives_one go (k.due z.node p) (v z.channel.valid) (v z.channel.ready) g.0 room; word = g.1 })
output_moves k p go (z ∷ ys) v (suc i) y e g r =
    output_moves k p go ys v i y e g.2 (λ h. (both_true (not (k.due z.node p) || eqb (v z.channel.ready) 1) _ (r h)).1)

-- ---- a stream of the host

pub offered_at : (e : Event) (k : ℕ) (chs : List Channel) (left : List (List ℕ)) (v : Family) (i : ℕ) (x : Channel) (r : List ℕ)
    → OfferedAll e k chs left v → slice_get chs i ≡ Some x → slice_get left i ≡ Some r → Offered (e.offers (k + i)) x r v
offered_at e k [] left v i x r h a b = absurd (cc)
offered_at e k (ch ∷ chs) [] v i x r h a b = absurd (cc)
offered_at e k (ch ∷ chs) (ws ∷ left) v zero x r h a b =
    let same : ch ≡ x = cc in
    let so : ws ≡ r = cc in
    let z : k ≡ k + 0 = omega arith in
    subst (λ (n : ℕ). Offered (e.offers n) x r v) z
    (subst (λ (l : List ℕ). Offered (e.offers k) x l v) so (subst (λ (y : Channel). Offered (e.offers k) y ws v) same h.0))
offered_at e k (ch ∷ chs) (ws ∷ left) v (suc i) x r h a b =
    let z : k + 1 + i ≡ k + suc i = omega arith in
    subst (λ (n : ℕ). Offered (e.offers n) x r v) z (offered_at e (k + 1) chs left v i x r h.1 a b)

left_at : (chs : List Channel) (left : List (List ℕ)) (v : Family) (i : ℕ) (x : Channel) (r : List ℕ)
    → slice_get chs i ≡ Some x → slice_get left i ≡ Some r → slice_get (left_of chs left v) i ≡ Some (cond (moves x v) (drop 1 r) r)
left_at [] left v i x r a b = absurd (cc)
left_at (ch ∷ chs) [] v i x r a b = absurd (cc)
left_at (ch ∷ chs) (ws ∷ left) v zero x r a b =
    let same : ch ≡ x = cc in
    let so : ws ≡ r = cc in
    ap (λ (y : Channel). Some (cond (moves y v) (drop 1 ws) ws)) same ∙ ap (λ (l : List ℕ). Some (cond (moves x v) (drop 1 l) l)) so
left_at (ch ∷ chs) (ws ∷ left) v (suc i) x r a b = left_at chs left v i x r a b

-- ---- the sides of a FIFO

-- the giver after an edge: it gave a word more where one moved, and that is its next one
record Given (ks : Kernels) (at : ℕ → ℕ) (left : List (List ℕ)) (word : ℕ → Option (Option ℕ)) (g : Giver) (n : ℕ) (v : Family) : Type 0 where
  count : HasGiven ks at left g (cond (moves (giver_channel g) v) (suc n) n)
  next : moves (giver_channel g) v ≡ true → IsGiven (word n) (v (giver_channel g).word)

gives : (ks : Kernels) (o : Outer) (at : ℕ → ℕ) (c : ℕ → Contents) (left : List (List ℕ)) (e : Event) (V : Families) (word : ℕ → Option (Option ℕ)) (g : Giver) (n : ℕ)
    → AreShown ks at c V → OfferedAll e 0 o.inputs left (V []) → IsGiver ks o word g → HasGiven ks at left g n
    → Given ks (next_at ks at V) (left_of o.inputs left (V [])) word g n (giver_family ks g V)
gives ks o at c left e V word (Words i x ws) n shown offered is h =
    let v : Family = V [] in
    record {
      count = left_at o.inputs left v i x (drop n ws) is.0 h ∙ ap (λ (l : List ℕ). Some l) (drop_if (moves x v) n ws);
      next = λ m.
          let valid = (both_true (eqb (v x.valid) 1) (eqb (v x.ready) 1) m).0 in
          subst (λ (w : Option (Option ℕ)). IsGiven w (v x.word)) (sym (is.1 n))
          (offered_word (e.offers (0 + i)) x ws n v (offered_at e 0 o.inputs left v i x (drop n ws) offered is.0 h) valid);
    }
gives ks o at c left e V word (Output k y) n shown offered is h =
    let t = ks.timed k in
    let q = ks.nets k in
    let v = family_in ks k V in
    let go = goes ks at V k in
    let one = output_moves t (at k) go q.outputs v is.1.place y is.1.at (shown k is.0).gives (λ g. (advancing t q (at k) v g).ready) in
    record {
      count = due_next (t.due y.node) go (moves y.channel v) (at k) n one.moves h;
      next = λ m.
          let w = one.word (sym one.moves ∙ m) in
          let numbered = subst (λ (j : ℕ). IsGiven (t.out_word y.node j) (v y.channel.word)) h w in
          subst (λ (o : Option (Option ℕ)). IsGiven o (v y.channel.word)) (sym (is.2 n)) numbered;
    }

-- the taker after an edge
takes : (ks : Kernels) (at : ℕ → ℕ) (c : ℕ → Contents) (V : Families) (t : Taker) (n : ℕ)
    → AreShown ks at c V → IsTaker ks t → HasTaken ks at t n
    → HasTaken ks (next_at ks at V) t (cond (moves (taker_channel t) (taker_family ks t V)) (suc n) n)
takes ks at c V (Leaves x) n shown is h = tt
takes ks at c V (Input k y) n shown is h =
    let t = ks.timed k in
    let q = ks.nets k in
    let v = family_in ks k V in
    let go = goes ks at V k in
    let m = input_moves t (at k) go q.inputs v is.1.place y is.1.at (shown k is.0).takes (λ g. (advancing t q (at k) v g).valid) in
    due_next (t.due y.node) go (moves y.channel v) (at k) n m h

-- ---- a FIFO

-- the word that stands at the taker is its next one
first_word : (ks : Kernels) (at : ℕ → ℕ) (left : List (List ℕ)) (f : Fifo) (n : ℕ) (q : List ℕ) (V : Families) (Vs : List Families)
    → IsRunning ks at left f n q (V ∷ Vs)
    → taker_family ks f.taker V (taker_channel f.taker).valid ≡ 1
    → IsGiven (f.word n) (taker_family ks f.taker V (taker_channel f.taker).word)
first_word ks at left f n q V Vs r valid =
    let a : Family = V (f.number ∷ []) in
    let to = r.wired.0.taker in
    let some = has_valid f.depth q a r.shows.0 (to.valid ∙ valid) in
    head_agrees f.word n _ q r.agree some (sym to.word ∙ r.shows.0.first some)

pub next_running : (ks : Kernels) (o : Outer) (at : ℕ → ℕ) (c : ℕ → Contents) (left : List (List ℕ)) (e : Event) (V : Families) (Vs : List Families) (f : Fifo) (n : ℕ) (q : List ℕ)
    → AreShown ks at c V → OfferedAll e 0 o.inputs left (V []) → IsBetween ks o f
    → IsRunning ks at left f n q (V ∷ Vs)
    → IsRunning ks (next_at ks at V) (left_of o.inputs left (V [])) f (next_taken ks f V n) (next_queue f V q) Vs
next_running ks o at c left e V Vs f n q shown offered is r =
    let a : Family = V (f.number ∷ []) in
    let gv = giver_family ks f.giver V in
    let tv = taker_family ks f.taker V in
    let from = r.wired.0.giver in
    let to = r.wired.0.taker in
    let total = n + length q in
    let mi : moves input a ≡ moves (giver_channel f.giver) gv = same_moves input (giver_channel f.giver) a gv from.valid from.ready in
    let mo : moves output a ≡ moves (taker_channel f.taker) tv = same_moves output (taker_channel f.taker) a tv to.valid to.ready in
    let g = gives ks o at c left e V f.word f.giver total shown offered is.giver r.given in
    let word : moves input a ≡ true → IsGiven (f.word total) (a 2) = λ h.
    subst (λ (w : ℕ). IsGiven (f.word total) w) (sym from.word) (g.next (sym mi ∙ h)) in
    let next = holds_next f.word (moves output a) (moves input a) n total q (a 2) (record { agree = r.agree; count = refl }) (has_one f.depth q a r.shows.0) word in
    let P : Bool → Type 0 = λ b. AgreeFrom f.word (cond b (suc n) n) (queue_after input output a q) in
    let count : cond (moves (giver_channel f.giver) gv) (suc total) total ≡ next_taken ks f V n + length (queue_after input output a q) =
    ap (λ b. cond b (suc total) total) (sym mi) ∙ sym next.count ∙ ap (λ b. cond b (suc n) n + length (queue_after input output a q)) mo in
    record {
      wired = r.wired.1;
      shows = r.shows.1;
      agree = subst P mo next.agree;
      given = subst (λ (k : ℕ). HasGiven ks (next_at ks at V) (left_of o.inputs left (V [])) f.giver k) count g.count;
      taken = takes ks at c V f.taker n shown is.taker r.taken;
    }

-- ---- what leaves

pub none_yet : (word : ℕ → Option (Option ℕ)) (n : ℕ) (t : Taker) → HasLeft word n t []
none_yet word n (Leaves x) = tt
none_yet word n (Input k y) = tt

pub left_next : (ks : Kernels) (at : ℕ → ℕ) (left : List (List ℕ)) (f : Fifo) (n : ℕ) (q : List ℕ) (V : Families) (Vs : List Families)
    → IsRunning ks at left f n q (V ∷ Vs)
    → HasLeft f.word (next_taken ks f V n) f.taker Vs
    → HasLeft f.word n f.taker (V ∷ Vs)
left_next ks at left f n q V Vs r h = more f.taker (first_word ks at left f n q V Vs r) h
  where
    more : (t : Taker)
        → (taker_family ks t V (taker_channel t).valid ≡ 1 → IsGiven (f.word n) (taker_family ks t V (taker_channel t).word))
        → HasLeft f.word (cond (moves (taker_channel t) (taker_family ks t V)) (suc n) n) t Vs
        → HasLeft f.word n t (V ∷ Vs)
    more (Input k y) first h = tt
    more (Leaves x) first h =
        left_more f.word (moves x (V [])) n (V [] x.word) (moved x (own_of Vs))
        (λ m. first (eqb-true (V [] x.valid) 1 (both_true (eqb (V [] x.valid) 1) (eqb (V [] x.ready) 1) m).0)) h

-- ---- what stands at a kernel's inputs

stands_one : (ks : Kernels) (at : ℕ → ℕ) (left : List (List ℕ)) (f : Fifo) (n k : ℕ) (q : List ℕ) (y : PortChannel) (V : Families) (Vs : List Families)
    → f.taker ≡ Input k y
    → ((j : ℕ) → (ks.timed k).in_word y.node j ≡ word_of (f.word j))
    → IsRunning ks at left f n q (V ∷ Vs)
    → family_in ks k V y.channel.valid ≡ 1
    → IsWord ((ks.timed k).in_word y.node (count_before ((ks.timed k).due y.node) (at k))) (family_in ks k V y.channel.word)
stands_one ks at left f n k q y V Vs is words r valid =
    let P : Taker → Type 0 = λ t. taker_family ks t V (taker_channel t).valid ≡ 1 → IsGiven (f.word n) (taker_family ks t V (taker_channel t).word) in
    let Q : Taker → Type 0 = λ t. HasTaken ks at t n in
    let first : P (Input k y) = subst P is (first_word ks at left f n q V Vs r) in
    let taken : Q (Input k y) = subst Q is r.taken in
    let w = given_word (f.word n) (family_in ks k V y.channel.word) (first valid) in
    let here = subst (λ (o : Option ℕ). IsWord o (family_in ks k V y.channel.word)) (sym (words n)) w in
    subst (λ (j : ℕ). IsWord ((ks.timed k).in_word y.node j) (family_in ks k V y.channel.word)) (sym taken) here

pub stands : {I : Type 0} (ks : Kernels) (fifo : I → Fifo) (at : ℕ → ℕ) (left : List (List ℕ)) (n : I → ℕ) (q : I → List ℕ) (k : ℕ) (ys : List PortChannel) (V : Families) (Vs : List Families)
    → ((i : ℕ) (y : PortChannel) → slice_get ys i ≡ Some y → IsFed ks fifo k y)
    → ((x : I) → IsRunning ks at left (fifo x) (n x) (q x) (V ∷ Vs))
    → StandsAgree (ks.timed k) (at k) ys (family_in ks k V)
stands ks fifo at left n q k [] V Vs fed r = tt
stands ks fifo at left n q k (y ∷ ys) V Vs fed r =
    let f = fed 0 y refl in (
      λ due valid. stands_one ks at left (fifo f.from) (n f.from) k (q f.from) y V Vs f.taker f.words (r f.from) valid,
      stands ks fifo at left n q k ys V Vs (λ i z e. fed (suc i) z e) r,
    )
