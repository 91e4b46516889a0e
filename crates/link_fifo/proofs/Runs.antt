-- Every run of the netlist is a run of the queue.
use Rattle.std.proofs.Common.{◌≡◌, ℕ, ◌+◌, ◌-◌, ◌<◌, Bool, true, false, cond, eqb, ltb, List}
use Rattle.std.proofs.Common.{[], ◌∷◌, ◌++◌, length, drop, refl, sym, ap, ◌∙◌, subst, arith, append-nil}
use Rattle.std.proofs.lemmas.Bool.{ltb-true, lt-ltb}
use Rattle.rtl_ir.specs.Value.{Family, Contents, bit}
use Rattle.rtl_ir.specs.Edge.{Edges, after_edge}
use Rattle.rtl_ir.specs.Run.{moves}
use Rattle.link_fifo.specs.declared.numbers.Numbers.{Numbers}
use Rattle.link_fifo.specs.Numbers.{AreNumbers}
use Rattle.link_fifo.specs.Netlist.{fifo_of, input, output}
use Rattle.rtl_delays.specs.Delays.{NoReset}
use Rattle.link_fifo.specs.Queue.{queue_after, Shown, IsQueue, IsFifo}
use Rattle.link_fifo.proofs.Ring.{wrap, wrap_below, wrap_next, Ring, empty, leaves, comes, put}
use Rattle.link_fifo.proofs.Shows.{Sizes, Shows, shows, After, after, reset_regs, sure_first, sure_second, test_bit}

wrap_inside : (d place : ℕ) → place < d → wrap d (place + 0) ≡ place
wrap_inside d place h = ap (λ b. cond b (place + 0) (place + 0 - d)) (lt-ltb (place + 0) d (omega arith)) ∙ omega arith

-- the ring after an edge
ring_after :
    (mi mo : Bool) (d place count x : ℕ) (cells : ℕ → ℕ) (q : List ℕ)
    → Ring d place count cells q
    → (mi ≡ true → length q < d)
    → (mo ≡ true → 0 < length q)
    → Ring d (cond mo (wrap d (place + 1)) place) (cond mi (cond mo count (count + 1)) (cond mo (count - 1) count))
    (cond mi (put cells (wrap d (place + count)) x) cells) (cond mo (drop 1 q) q ++ cond mi (x ∷ []) [])
ring_after true true d place count x cells q r i o =
    let one = leaves d place count cells q (o refl) r in
    let len : length (drop 1 q) < d = omega (arith, one.counted, r.counted, r.room, o refl) in
    let two = comes d (wrap d (place + 1)) (count - 1) x cells (drop 1 q) len one in
    let back : count - 1 + 1 ≡ count = omega (arith, r.counted, o refl) in
    let at : wrap d (wrap d (place + 1) + (count - 1)) ≡ wrap d (place + count) =
    wrap_next d place (count - 1) r.within (omega (arith, r.counted, r.room, o refl)) ∙ ap (λ n. wrap d (place + n)) back in
    let P : ℕ → ℕ → Type 0 = λ n a. Ring d (wrap d (place + 1)) n (put cells a x) (drop 1 q ++ x ∷ []) in
    subst (P count) at (subst (λ (n : ℕ). P n (wrap d (wrap d (place + 1) + (count - 1)))) back two)
ring_after true false d place count x cells q r i o = comes d place count x cells q (i refl) r
ring_after false true d place count x cells q r i o =
    let P : List ℕ → Type 0 = λ l. Ring d (wrap d (place + 1)) (count - 1) cells l in
    subst P (sym (append-nil (drop 1 q))) (leaves d place count cells q (o refl) r)
ring_after false false d place count x cells q r i o =
    let P : List ℕ → Type 0 = λ l. Ring d place count cells l in
    subst P (sym (append-nil q)) r

shown : (d place count : ℕ) (c : Contents) (v : Family) (q : List ℕ) → Ring d place count (c.cells 0) q → Shows d place count c v → Shown d input output q v
shown d place count c v q r s =
    record {
      ready = s.ready ∙ ap (λ n. bit (ltb n d)) r.counted;
      valid = s.valid ∙ ap (λ n. bit (ltb 0 n)) r.counted;
      first = λ h. s.first ∙ ap (c.cells 0) (sym (wrap_inside d place r.within)) ∙ r.held 0 h;
    }

next_ring :
    (name : List ℕ) (w d p q place count : ℕ) (k : Numbers) (c : Contents) (v : Family) (l : List ℕ)
    → Sizes d p q
    → Ring d place count (c.cells 0) l
    → Shows d place count c v
    → After d c (after_edge (fifo_of name w d p q k) c v) v
    → Ring d ((after_edge (fifo_of name w d p q k) c v).regs 8) ((after_edge (fifo_of name w d p q k) c v).regs 9)
    ((after_edge (fifo_of name w d p q k) c v).cells 0) (queue_after input output v l)
next_ring name w d p q place count k c v l z r s a =
    let mi = moves input v in
    let mo = moves output v in
    let i : mi ≡ true → length l < d = λ h.
    let g : count < d = ltb-true count d (sure_second (eqb (v 3) 1) (ltb count d) (v 4) s.ready h) in
    omega (arith, r.counted) in
    let o : mo ≡ true → 0 < length l = λ h.
    let g : 0 < count = ltb-true 0 count (sure_first (ltb 0 count) (eqb (v 7) 1) (v 6) s.valid h) in
    omega (arith, r.counted) in
    let low : v 42 < d = rw s.address (wrap_below d (place + count) (omega (arith, r.within, r.counted, r.room, z.positive))) in
    let cells =
    a.cells low
    ∙ ap (λ b. cond b (put (c.cells 0) (v 42) (v 2)) (c.cells 0)) (ap (λ x. eqb x 1) s.takes ∙ test_bit mi)
    ∙ ap (λ n. cond mi (put (c.cells 0) n (v 2)) (c.cells 0)) s.address in
    rw (a.place ∙ s.next_place, a.count ∙ s.next_count, cells) (ring_after mi mo d place count (v 2) (c.cells 0) l r i o)

runs :
    (name : List ℕ) (w d p q place count : ℕ) (k : Numbers) (c : Contents) (vs : List Family) (l : List ℕ)
    → AreNumbers d p q k
    → Sizes d p q
    → Ring d place count (c.cells 0) l
    → c.regs 8 ≡ place
    → c.regs 9 ≡ count
    → Edges (fifo_of name w d p q k) c vs
    → NoReset 1 vs
    → IsQueue d input output l vs
runs name w d p q place count k c [] l is z r e8 e9 h n = tt
runs name w d p q place count k c (v ∷ vs) l is z r e8 e9 h n =
    let s = shows name w d p q place count k c v is z r.within (omega (arith, r.counted, r.room)) e8 e9 n.0 h.0 in
    let a = after name w d p q k c v is h.0 in
    let next = after_edge (fifo_of name w d p q k) c v in (
      shown d place count c v l r s,
      runs name w d p q (next.regs 8) (next.regs 9) k next vs (queue_after input output v l) is z
          (next_ring name w d p q place count k c v l z r s a) refl refl h.1 n.1,
    )

pub is_fifo : (name : List ℕ) (w d p q : ℕ) (k : Numbers) → AreNumbers d p q k → Sizes d p q → IsFifo (fifo_of name w d p q k) d 1 input output
is_fifo name w d p q k is z c v vs h reset none =
    let a = after name w d p q k c v is h.0 in
    let z' = reset_regs name w d p q k c v is reset h.0 in
    let next = after_edge (fifo_of name w d p q k) c v in
    runs name w d p q 0 0 k next vs [] is z (empty d (next.cells 0) z.positive) (a.place ∙ z'.0) (a.count ∙ z'.1) h.1 none
