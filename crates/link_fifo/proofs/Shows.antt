-- What one edge of the netlist shows.
use Rattle.std.proofs.Common.{◌≡◌, ℕ, zero, suc, ◌+◌, ◌-◌, ◌*◌, ◌/◌, ◌%◌, ◌^◌, ◌<◌, ◌≤◌, Bool}
use Rattle.std.proofs.Common.{true, false, cond, ◌&&◌, eqb, ltb, List, refl, sym, ap, ◌∙◌, ⊎_elim, arith}
use Rattle.std.specs.Prelude.{bit_and}
use Rattle.std.proofs.lemmas.Bool.{false≢true, ltb-true, lt-ltb, cases_lt}
use Rattle.std.proofs.lemmas.Bool.Decides.{nat_tests}
use Rattle.std.proofs.Math.Nat.{mod-eq_of_lt, add-mod_right, div-one}
use Rattle.std.proofs.lemmas.Nat.{pow-add}
use Rattle.mx_bits.specs.declared.word.Word.{Word}
use Rattle.rtl_ir.specs.Value.{Family, Contents, bit}
use Rattle.rtl_ir.specs.Edge.{Fits, after_edge, with_reg, with_cell}
use Rattle.rtl_ir.specs.Run.{moves}
use Rattle.link_fifo.specs.declared.numbers.Numbers.{Numbers}
use Rattle.link_fifo.specs.Numbers.{IsNumber, AreNumbers}
use Rattle.link_fifo.specs.Netlist.{fifo_of, input, output}
use Rattle.link_fifo.proofs.Ring.{wrap, put}

-- the assignments, one by one
record Nets (depth p q : ℕ) (c : Contents) (v : Family) : Type 0 where
  n11 : v 11 ≡ bit (eqb (v 9) depth)
  n4 : v 4 ≡ 1 - v 11
  n13 : v 13 ≡ bit (eqb (v 9) 0)
  n6 : v 6 ≡ 1 - v 13
  n5 : v 5 ≡ cond (ltb (v 8) depth) (c.cells 0 (v 8)) 0
  n14 : v 14 ≡ bit_and (v 3) (v 4)
  n15 : v 15 ≡ bit_and (v 6) (v 7)
  n17 : v 17 ≡ bit (eqb (v 8) (depth - 1))
  n19 : v 19 ≡ (v 8 + 1) % 2 ^ p
  n21 : v 21 ≡ cond (eqb (v 17) 1) 0 (v 19)
  n22 : v 22 ≡ cond (eqb (v 15) 1) (v 21) (v 8)
  n23 : v 23 ≡ cond (eqb (v 1) 1) 0 (v 22)
  n25 : v 25 ≡ (v 9 + 1) % 2 ^ q
  n26 : v 26 ≡ (v 9 + (2 ^ q - 1)) % 2 ^ q
  n27 : v 27 ≡ cond (eqb (v 15) 1) (v 9) (v 25)
  n28 : v 28 ≡ cond (eqb (v 15) 1) (v 26) (v 9)
  n29 : v 29 ≡ cond (eqb (v 14) 1) (v 27) (v 28)
  n30 : v 30 ≡ cond (eqb (v 1) 1) 0 (v 29)
  n31 : v 31 ≡ 1
  n36 : v 36 ≡ (v 8 + v 9) % 2 ^ (q + 1)
  n38 : v 38 ≡ bit (ltb (v 36) depth)
  n39 : v 39 ≡ (v 36 / 2 ^ 0) % 2 ^ (p - 1 + 1 - 0)
  n41 : v 41 ≡ (v 39 + (2 ^ p - depth % 2 ^ p)) % 2 ^ p
  n42 : v 42 ≡ cond (eqb (v 38) 1) (v 39) (v 41)

-- the numbers, with the nets that have them
number : {bits n : ℕ} {x : Word} (y : ℕ) → IsNumber bits n x → y ≡ x.bits → y ≡ n
number y is e = e ∙ is.number_is

nets :
    (name : List ℕ) (w depth p q : ℕ) (k : Numbers) (c : Contents) (v : Family)
    → AreNumbers depth p q k
    → Fits (fifo_of name w depth p q k) c v
    → Nets depth p q c v
nets name w depth p q k c v is f =
    let r0 = f.assigned in
    let r1 = r0.1 in
    let r2 = r1.1 in
    let r3 = r2.1 in
    let r4 = r3.1 in
    let r5 = r4.1 in
    let r6 = r5.1 in
    let r7 = r6.1 in
    let r8 = r7.1 in
    let r9 = r8.1 in
    let r10 = r9.1 in
    let r11 = r10.1 in
    let r12 = r11.1 in
    let r13 = r12.1 in
    let r14 = r13.1 in
    let r15 = r14.1 in
    let r16 = r15.1 in
    let r17 = r16.1 in
    let r18 = r17.1 in
    let r19 = r18.1 in
    let r20 = r19.1 in
    let r21 = r20.1 in
    let r22 = r21.1 in
    let r23 = r22.1 in
    let r24 = r23.1 in
    let r25 = r24.1 in
    let r26 = r25.1 in
    let r27 = r26.1 in
    let r28 = r27.1 in
    let r29 = r28.1 in
    let r30 = r29.1 in
    let r31 = r30.1 in
    let r32 = r31.1 in
    let r33 = r32.1 in
    let r34 = r33.1 in
    let r35 = r34.1 in
    record {
      n11 = r1.0 ∙ ap (λ x. bit (eqb (v 9) x)) (number _ is.count_is.last_is r0.0);
      n4 = r2.0;
      n13 = r4.0 ∙ ap (λ x. bit (eqb (v 9) x)) (number _ is.count_is.zero_is r3.0);
      n6 = r5.0;
      n5 = r6.0;
      n14 = r7.0;
      n15 = r8.0;
      n17 = r10.0 ∙ ap (λ x. bit (eqb (v 8) x)) (number _ is.place_is.last_is r9.0);
      n19 = r12.0 ∙ ap (λ x. (v 8 + x) % 2 ^ p) (number _ is.place_is.one_is r11.0);
      n21 = r14.0 ∙ ap (λ x. cond (eqb (v 17) 1) x (v 19)) (number _ is.place_is.zero_is r13.0);
      n22 = r15.0;
      n23 = r16.0 ∙ ap (λ x. cond (eqb (v 1) 1) x (v 22)) (number _ is.place_is.zero_is r13.0);
      n25 = r18.0 ∙ ap (λ x. (v 9 + x) % 2 ^ q) (number _ is.count_is.one_is r17.0);
      n26 = r19.0 ∙ ap (λ x. (v 9 + (2 ^ q - x)) % 2 ^ q) (number _ is.count_is.one_is r17.0);
      n27 = r20.0;
      n28 = r21.0;
      n29 = r22.0;
      n30 = r23.0 ∙ ap (λ x. cond (eqb (v 1) 1) x (v 29)) (number _ is.count_is.zero_is r3.0);
      n31 = number _ is.high_is r24.0;
      n36 =
          r29.0
          ∙ ap (λ x. (x + v 35) % 2 ^ (q + 1)) (r27.0 ∙ ap (λ x. x * 2 ^ p + v 8) (number _ is.before_place_is r25.0) ∙ omega arith)
          ∙ ap (λ x. (v 8 + x) % 2 ^ (q + 1)) (r28.0 ∙ ap (λ x. x * 2 ^ q + v 9) (number _ is.before_count_is r26.0) ∙ omega arith);
      n38 = r31.0 ∙ ap (λ x. bit (ltb (v 36) x)) (number _ is.wide_depth_is r30.0);
      n39 = r32.0;
      n41 = r34.0 ∙ ap (λ x. (v 39 + (2 ^ p - x)) % 2 ^ p) (number _ is.low_depth_is r33.0);
      n42 = r35.0;
    }

-- numbers that the netlist computes with, against the queue's
ready_is : (count depth : ℕ) → count ≤ depth → 1 - bit (eqb count depth) ≡ bit (ltb count depth)
ready_is count depth h = grind (arith, nat_tests)

valid_is : (count : ℕ) → 1 - bit (eqb count 0) ≡ bit (ltb 0 count)
valid_is count = grind (arith, nat_tests)

and_is : (a b : ℕ) → a < 2 → b < 2 → bit_and a b ≡ bit (eqb a 1 && eqb b 1)
and_is zero zero h k = refl
and_is zero (suc zero) h k = refl
and_is (suc zero) zero h k = refl
and_is (suc zero) (suc zero) h k = refl
and_is (suc (suc a)) b h k = absurd (omega arith)
and_is a (suc (suc b)) h k = absurd (omega arith)

bit_small : (b : Bool) → bit b < 2
bit_small true = omega arith
bit_small false = omega arith

pub test_bit : (b : Bool) → eqb (bit b) 1 ≡ b
test_bit true = refl
test_bit false = refl

next_place : (depth p place : ℕ) → place < depth → depth ≤ 2 ^ p → cond (eqb place (depth - 1)) 0 ((place + 1) % 2 ^ p) ≡ wrap depth (place + 1)
next_place depth p place h k =
    ⊎_elim
    (λ (lt : place + 1 < depth).
    let e : (place + 1) % 2 ^ p ≡ place + 1 = mod-eq_of_lt (omega arith) in
    grind (arith, nat_tests))
    (λ (ge : depth ≤ place + 1). grind (arith, nat_tests))
    (cases_lt (place + 1) depth)

less_one : (q count : ℕ) → 0 < count → count < 2 ^ q → (count + (2 ^ q - 1)) % 2 ^ q ≡ count - 1
less_one q count h k =
    let e : count + (2 ^ q - 1) ≡ count - 1 + 2 ^ q = omega arith in
    rw (e, add-mod_right) (mod-eq_of_lt (omega arith))

-- the low bits of a net
part_is : (p s : ℕ) → 1 ≤ p → (s / 2 ^ 0) % 2 ^ (p - 1 + 1 - 0) ≡ s % 2 ^ p
part_is p s some =
    let bits : p - 1 + 1 - 0 ≡ p = omega arith in
    ap (λ x. x % 2 ^ (p - 1 + 1 - 0)) (div-one s) ∙ ap (λ x. s % 2 ^ x) bits

-- a number from m on, and below twice that, is that much less
less_round : (m s : ℕ) → m ≤ s → s < m + m → s % m ≡ s - m
less_round m s h k =
    let e : s ≡ s - m + m = omega arith in
    ap (λ x. x % m) e ∙ add-mod_right (s - m) m ∙ mod-eq_of_lt (omega arith)

-- the number less the depth, round m
low_less :
    (m depth s : ℕ)
    → 0 < depth
    → depth ≤ m
    → depth ≤ s
    → s < depth + depth
    → (s % m + (m - depth % m)) % m ≡ s - depth
low_less m depth s some fits h k =
    ⊎_elim
    (λ (lt : depth < m).
    let d : depth % m ≡ depth = mod-eq_of_lt lt in
    ⊎_elim
    (λ (below : s < m).
    let e : s % m ≡ s = mod-eq_of_lt below in
    let f : s + (m - depth) ≡ s - depth + m = omega arith in
    rw (d, e, f, add-mod_right) (mod-eq_of_lt (omega arith)))
    (λ (above : m ≤ s).
    let e : s % m ≡ s - m = less_round m s above (omega arith) in
    let f : s - m + (m - depth) ≡ s - depth = omega arith in
    rw (d, e, f) (mod-eq_of_lt (omega arith)))
    (cases_lt s m))
    (λ (ge : m ≤ depth).
    let d : depth % m ≡ 0 = less_round m depth ge (omega arith) ∙ omega arith in
    let e : s % m ≡ s - m = less_round m s (omega arith) (omega arith) in
    let f : s - m + (m - 0) ≡ s - depth + m = omega arith in
    rw (d, e, f, add-mod_right) (mod-eq_of_lt (omega arith)))
    (cases_lt depth m)

-- the low bits of the sum where it is below the depth, and else those of the sum less the depth
abbrev low_address : ℕ → ℕ → ℕ → ℕ
low_address depth m s = cond (ltb s depth) (s % m) ((s % m + (m - depth % m)) % m)

low_is : (depth m s : ℕ) → s < depth + depth → depth ≤ m → low_address depth m s ≡ wrap depth s
low_is depth m s h k =
    ⊎_elim
    (λ (lt : s < depth).
    let e : s % m ≡ s = mod-eq_of_lt (omega arith) in
    let t : ltb s depth ≡ true = lt-ltb s depth lt in
    rw (t, e) refl)
    (λ (ge : depth ≤ s).
    let e : (s % m + (m - depth % m)) % m ≡ s - depth = low_less m depth s (omega arith) k ge h in
    ap (λ x. cond (ltb s depth) (s % m) x) e ∙ grind (arith, nat_tests))
    (cases_lt s depth)

address_is : (depth p q s : ℕ) → s < depth + depth → depth ≤ 2 ^ p → depth < 2 ^ q → low_address depth (2 ^ p) (s % 2 ^ (q + 1)) ≡ wrap depth s
address_is depth p q s h places counts =
    let more : 2 ^ (q + 1) ≡ 2 ^ q * 2 = pow-add 2 q 1 in
    let e : s % 2 ^ (q + 1) ≡ s = mod-eq_of_lt (omega arith) in
    ap (low_address depth (2 ^ p)) e ∙ low_is depth (2 ^ p) s h places

-- how wide the numbers are
pub record Sizes (depth p q : ℕ) : Type 0 where
  pub positive : 0 < depth
  pub some : 1 ≤ p
  pub places : depth ≤ 2 ^ p
  pub counts : depth < 2 ^ q

-- one edge that is no reset edge, at a place and with a count
pub record Shows (depth place count : ℕ) (c : Contents) (v : Family) : Type 0 where
  pub ready : v 4 ≡ bit (ltb count depth)
  pub valid : v 6 ≡ bit (ltb 0 count)
  pub first : v 5 ≡ c.cells 0 place
  pub takes : v 14 ≡ bit (moves input v)
  pub gives : v 15 ≡ bit (moves output v)
  pub next_place : v 23 ≡ cond (moves output v) (wrap depth (place + 1)) place
  pub next_count : v 30 ≡ cond (moves input v) (cond (moves output v) count (count + 1)) (cond (moves output v) (count - 1) count)
  pub address : v 42 ≡ wrap depth (place + count)

place_step :
    (depth p q place count : ℕ) (c : Contents) (v : Family)
    → Sizes depth p q
    → Nets depth p q c v
    → v 8 ≡ place
    → place < depth
    → v 1 ≡ 0
    → v 15 ≡ bit (moves output v)
    → v 23 ≡ cond (moves output v) (wrap depth (place + 1)) place
place_step depth p q place count c v z n at within reset gives =
    n.n23
    ∙ ap (λ x. cond (eqb x 1) 0 (v 22)) reset
    ∙ n.n22
    ∙ ap (λ b. cond b (v 21) (v 8)) (ap (λ x. eqb x 1) gives ∙ test_bit (moves output v))
    ∙ ap (λ x. cond (moves output v) x (v 8))
    (n.n21 ∙ ap (λ b. cond b 0 (v 19)) (ap (λ x. eqb x 1) n.n17 ∙ test_bit (eqb (v 8) (depth - 1)))
    ∙ ap (λ x. cond (eqb (v 8) (depth - 1)) 0 x) n.n19
    ∙ ap (λ x. cond (eqb x (depth - 1)) 0 ((x + 1) % 2 ^ p)) at
    ∙ next_place depth p place within z.places)
    ∙ ap (λ x. cond (moves output v) (wrap depth (place + 1)) x) at

-- a word moves out only where there is one, and in only where there is room
pub sure_first : (a y : Bool) (x : ℕ) → x ≡ bit a → eqb x 1 && y ≡ true → a ≡ true
sure_first true y x e h = refl
sure_first false y x e h = absurd (false≢true (ap (λ n. eqb n 1 && y) (sym e) ∙ h))

pub sure_second : (b a : Bool) (x : ℕ) → x ≡ bit a → b && eqb x 1 ≡ true → a ≡ true
sure_second b true x e h = refl
sure_second true false x e h = absurd (false≢true (ap (λ n. eqb n 1) (sym e) ∙ h))
sure_second false false x e h = absurd (false≢true h)

count_is :
    (mi mo : Bool) (depth q count : ℕ)
    → count ≤ depth
    → depth < 2 ^ q
    → (mi ≡ true → count < depth)
    → (mo ≡ true → 0 < count)
    → cond mi (cond mo count ((count + 1) % 2 ^ q)) (cond mo ((count + (2 ^ q - 1)) % 2 ^ q) count)
    ≡ cond mi (cond mo count (count + 1)) (cond mo (count - 1) count)
count_is true true depth q count h k i o = refl
count_is true false depth q count h k i o = mod-eq_of_lt (omega (arith, i refl))
count_is false true depth q count h k i o = less_one q count (o refl) (omega arith)
count_is false false depth q count h k i o = refl

count_step :
    (depth p q count : ℕ) (c : Contents) (v : Family)
    → Sizes depth p q
    → Nets depth p q c v
    → v 9 ≡ count
    → count ≤ depth
    → v 1 ≡ 0
    → v 14 ≡ bit (moves input v)
    → v 15 ≡ bit (moves output v)
    → (moves input v ≡ true → count < depth)
    → (moves output v ≡ true → 0 < count)
    → v 30 ≡ cond (moves input v) (cond (moves output v) count (count + 1)) (cond (moves output v) (count - 1) count)
count_step depth p q count c v z n at most reset takes gives i o =
    let mi = moves input v in
    let mo = moves output v in
    let tm : eqb (v 15) 1 ≡ mo = ap (λ x. eqb x 1) gives ∙ test_bit mo in
    n.n30
    ∙ ap (λ x. cond (eqb x 1) 0 (v 29)) reset
    ∙ n.n29
    ∙ ap (λ b. cond b (v 27) (v 28)) (ap (λ x. eqb x 1) takes ∙ test_bit mi)
    ∙ ap (λ x. cond mi x (v 28)) (n.n27 ∙ ap (λ b. cond b (v 9) (v 25)) tm ∙ ap (λ x. cond mo (v 9) x) n.n25 ∙ ap (λ x. cond mo x ((x + 1) % 2 ^ q)) at)
    ∙ ap (λ x. cond mi (cond mo count ((count + 1) % 2 ^ q)) x)
    (n.n28 ∙ ap (λ b. cond b (v 26) (v 9)) tm ∙ ap (λ x. cond mo x (v 9)) n.n26 ∙ ap (λ x. cond mo ((x + (2 ^ q - 1)) % 2 ^ q) x) at)
    ∙ count_is mi mo depth q count most z.counts i o

pub shows :
    (name : List ℕ) (w depth p q place count : ℕ) (k : Numbers) (c : Contents) (v : Family)
    → AreNumbers depth p q k
    → Sizes depth p q
    → place < depth
    → count ≤ depth
    → c.regs 8 ≡ place
    → c.regs 9 ≡ count
    → v 1 ≡ 0
    → Fits (fifo_of name w depth p q k) c v
    → Shows depth place count c v
shows name w depth p q place count k c v is z within most e8 e9 reset f =
    let n = nets name w depth p q k c v is f in
    let at8 : v 8 ≡ place = f.kept 8 refl ∙ e8 in
    let at9 : v 9 ≡ count = f.kept 9 refl ∙ e9 in
    let s3 : v 3 < 2 = f.words 3 in
    let s7 : v 7 < 2 = f.words 7 in
    let ready : v 4 ≡ bit (ltb count depth) = n.n4 ∙ ap (λ x. 1 - x) (n.n11 ∙ ap (λ x. bit (eqb x depth)) at9) ∙ ready_is count depth most in
    let valid : v 6 ≡ bit (ltb 0 count) = n.n6 ∙ ap (λ x. 1 - x) (n.n13 ∙ ap (λ x. bit (eqb x 0)) at9) ∙ valid_is count in
    let takes : v 14 ≡ bit (moves input v) = n.n14 ∙ and_is (v 3) (v 4) s3 (rw ready (bit_small (ltb count depth))) in
    let gives : v 15 ≡ bit (moves output v) = n.n15 ∙ and_is (v 6) (v 7) (rw valid (bit_small (ltb 0 count))) s7 in
    let i : moves input v ≡ true → count < depth = λ h. ltb-true count depth (sure_second (eqb (v 3) 1) (ltb count depth) (v 4) ready h) in
    let o : moves output v ≡ true → 0 < count = λ h. ltb-true 0 count (sure_first (ltb 0 count) (eqb (v 7) 1) (v 6) valid h) in
    record {
      ready = ready;
      valid = valid;
      first = n.n5 ∙ ap (λ x. cond (ltb x depth) (c.cells 0 x) 0) at8 ∙ ap (λ b. cond b (c.cells 0 place) 0) (lt-ltb place depth within);
      takes = takes;
      gives = gives;
      next_place = place_step depth p q place count c v z n at8 within reset gives;
      next_count = count_step depth p q count c v z n at9 most reset takes gives i o;
      address =
          n.n42
          ∙ ap (λ b. cond b (v 39) (v 41)) (ap (λ x. eqb x 1) n.n38 ∙ test_bit (ltb (v 36) depth))
          ∙ ap (λ x. cond (ltb (v 36) depth) (v 39) x) n.n41
          ∙ ap (λ x. cond (ltb (v 36) depth) x ((x + (2 ^ p - depth % 2 ^ p)) % 2 ^ p)) (n.n39 ∙ part_is p (v 36) z.some)
          ∙ ap (low_address depth (2 ^ p))
          (n.n36 ∙ ap (λ x. (x + v 9) % 2 ^ (q + 1)) at8 ∙ ap (λ x. (place + x) % 2 ^ (q + 1)) at9)
          ∙ address_is depth p q (place + count) (omega arith) z.places z.counts;
    }

-- the contents after the edge
pub record After (depth : ℕ) (c d : Contents) (v : Family) : Type 0 where
  pub place : d.regs 8 ≡ v 23
  pub count : d.regs 9 ≡ v 30
  pub cells : v 42 < depth → d.cells 0 ≡ cond (eqb (v 14) 1) (put (c.cells 0) (v 42) (v 2)) (c.cells 0)

abbrev both_regs : Contents → Family → Contents
both_regs c v = with_reg 9 (v 30) (with_reg 8 (v 23) c)

after_is :
    (name : List ℕ) (w depth p q : ℕ) (k : Numbers) (c : Contents) (v : Family)
    → v 31 ≡ 1
    → after_edge (fifo_of name w depth p q k) c v
    ≡ cond (eqb (v 14) 1) (cond (ltb (v 42) depth) (with_cell 0 (v 42) (v 2) (both_regs c v)) (both_regs c v)) (both_regs c v)
after_is name w depth p q k c v e = rw e refl

regs_of : (a b : Bool) (c d : Contents) (n : ℕ) → c.regs n ≡ d.regs n → (cond a (cond b c d) d).regs n ≡ d.regs n
regs_of true true c d n e = e
regs_of true false c d n e = refl
regs_of false b c d n e = refl

cells_of : (a b : Bool) (c d : Contents) (x : ℕ → ℕ) → b ≡ true → c.cells 0 ≡ x → (cond a (cond b c d) d).cells 0 ≡ cond a x (d.cells 0)
cells_of true true c d x h e = e
cells_of true false c d x h e = absurd (false≢true h)
cells_of false b c d x h e = refl

pub after :
    (name : List ℕ) (w depth p q : ℕ) (k : Numbers) (c : Contents) (v : Family)
    → AreNumbers depth p q k
    → Fits (fifo_of name w depth p q k) c v
    → After depth c (after_edge (fifo_of name w depth p q k) c v) v
after name w depth p q k c v is f =
    let n = nets name w depth p q k c v is f in
    let e = after_is name w depth p q k c v n.n31 in
    let d = both_regs c v in
    let written = with_cell 0 (v 42) (v 2) d in
    record {
      place = ap (λ (x : Contents). x.regs 8) e ∙ regs_of (eqb (v 14) 1) (ltb (v 42) depth) written d 8 refl;
      count = ap (λ (x : Contents). x.regs 9) e ∙ regs_of (eqb (v 14) 1) (ltb (v 42) depth) written d 9 refl;
      cells = λ h.
          ap (λ (x : Contents). x.cells 0) e
          ∙ cells_of (eqb (v 14) 1) (ltb (v 42) depth) written d (put (c.cells 0) (v 42) (v 2)) (lt-ltb (v 42) depth h) refl;
    }

-- after a reset edge there are no words
pub reset_regs :
    (name : List ℕ) (w depth p q : ℕ) (k : Numbers) (c : Contents) (v : Family)
    → AreNumbers depth p q k
    → v 1 ≡ 1
    → Fits (fifo_of name w depth p q k) c v
    → (v 23 ≡ 0) × (v 30 ≡ 0)
reset_regs name w depth p q k c v is h f =
    let n = nets name w depth p q k c v is f in
    (n.n23 ∙ ap (λ x. cond (eqb x 1) 0 (v 22)) h, n.n30 ∙ ap (λ x. cond (eqb x 1) 0 (v 29)) h)
