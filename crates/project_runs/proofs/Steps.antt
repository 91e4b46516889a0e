-- One edge of a FIFO between what gives it words and what takes them, as plain facts.
use Rattle.std.proofs.Common.{◌≡◌, ℕ, zero, suc, ◌+◌, ◌<◌, Bool, true, false, not, cond, ◌&&◌, ◌||◌, eqb, ltb, List, [], ◌∷◌, ◌++◌, Option, Some, None}
use Rattle.std.proofs.Common.{length, drop, get_or, refl, sym, ap, ◌∙◌, subst, arith, append-nil, length-append, option_and_then}
use Rattle.std.specs.Prelude.{slice_get}
use Rattle.std.proofs.lemmas.Bool.{false≢true, ltb-true}
use Rattle.rtl_ir.specs.Value.{Family, bit}
use Rattle.rtl_ir.specs.Run.{Channel, moves, Offered, Agrees}
use Rattle.rtl_delays.specs.Delays.{IsWord}
use Rattle.stream_equations.specs.Equations.{count_before}
use Rattle.kernel_control.specs.Refines.{IsGiven, next_position}
use Rattle.link_fifo.specs.Queue.{Shown}
use Rattle.link_fifo.specs.Netlist.{input, output}

-- ---- tests

pub both_true : (a b : Bool) → a && b ≡ true → (a ≡ true) × (b ≡ true)
both_true true b h = (refl, h)
both_true false b h = absurd (false≢true h)

pub needed : (due a : Bool) → due ≡ true → not due || a ≡ true → a ≡ true
needed true a e h = h
needed false a e h = absurd (false≢true e)

pub test_bit : (b : Bool) → eqb (bit b) 1 ≡ b
test_bit true = refl
test_bit false = refl

-- a test that follows from another adds nothing
pub absorbed : (a b : Bool) → (b ≡ true → a ≡ true) → a && b ≡ b
absorbed true b h = refl
absorbed false true h = h refl
absorbed false false h = refl

pub absorbed_right : (a b : Bool) → (a ≡ true → b ≡ true) → a && b ≡ a
absorbed_right true b h = h refl
absorbed_right false b h = refl

pub same_moves : (c d : Channel) (v w : Family) → v c.valid ≡ w d.valid → v c.ready ≡ w d.ready → moves c v ≡ moves d w
same_moves c d v w e f = ap (λ n. eqb n 1 && eqb (v c.ready) 1) e ∙ ap (λ n. eqb (w d.valid) 1 && eqb n 1) f

-- an input takes a word just where the kernel advances and it is due
pub takes_one : (go due : Bool) (valid ready : ℕ) → ready ≡ bit (go && due) → (go ≡ true → not due || eqb valid 1 ≡ true) → eqb valid 1 && eqb ready 1 ≡ go && due
takes_one go due valid ready e h =
    ap (λ n. eqb valid 1 && eqb n 1) e ∙ ap (λ b. eqb valid 1 && b) (test_bit (go && due))
    ∙ absorbed (eqb valid 1) (go && due) (λ t. let b = both_true go due t in needed due (eqb valid 1) b.1 (h b.0))

-- an output gives one just there
pub gives_one : (go due : Bool) (valid ready : ℕ) → valid ≡ bit (go && due) → (go ≡ true → not due || eqb ready 1 ≡ true) → eqb valid 1 && eqb ready 1 ≡ go && due
gives_one go due valid ready e h =
    ap (λ n. eqb n 1 && eqb ready 1) e ∙ ap (λ b. b && eqb ready 1) (test_bit (go && due))
    ∙ absorbed_right (go && due) (eqb ready 1) (λ t. let b = both_true go due t in needed due (eqb ready 1) b.1 (h b.0))

-- ---- queues

-- a queue gives a word only where it has one
pub has_one : (depth : ℕ) (q : List ℕ) (b : Family) → Shown depth input output q b → moves output b ≡ true → 0 < length q
has_one depth q b s h =
    let e = both_true (eqb (b 6) 1) (eqb (b 7) 1) h in
    ltb-true 0 (length q) (sym (test_bit (ltb 0 (length q))) ∙ ap (λ n. eqb n 1) (sym s.valid) ∙ e.0)

-- it is valid only where it has one
pub has_valid : (depth : ℕ) (q : List ℕ) (b : Family) → Shown depth input output q b → b 6 ≡ 1 → 0 < length q
has_valid depth q b s h = ltb-true 0 (length q) (sym (test_bit (ltb 0 (length q))) ∙ ap (λ n. eqb n 1) (sym s.valid) ∙ ap (λ n. eqb n 1) h)

-- ---- how many words were due

pub due_step : (due : ℕ → Bool) (go : Bool) (p : ℕ) → count_before due (next_position go p) ≡ cond (go && due p) (suc (count_before due p)) (count_before due p)
due_step due true p = refl
due_step due false p = refl

-- so many words more, where one moved
pub due_next : (due : ℕ → Bool) (go moved : Bool) (p n : ℕ) → moved ≡ go && due p → count_before due p ≡ n → count_before due (next_position go p) ≡ cond moved (suc n) n
due_next due go moved p n e f =
    due_step due go p ∙ ap (λ b. cond b (suc (count_before due p)) (count_before due p)) (sym e) ∙ ap (λ k. cond moved (suc k) k) f

-- ---- words of the host

drop_suc : {A : Type 0} (n : ℕ) (l : List A) → drop 1 (drop n l) ≡ drop (suc n) l
drop_suc zero l = refl
drop_suc (suc n) [] = refl
drop_suc (suc n) (a ∷ l) = drop_suc n l

pub drop_if : {A : Type 0} (b : Bool) (n : ℕ) (l : List A) → cond b (drop 1 (drop n l)) (drop n l) ≡ drop (cond b (suc n) n) l
drop_if true n l = drop_suc n l
drop_if false n l = refl

-- a word that the host has
abbrev pub known : Option ℕ → Option (Option ℕ)
known None = None
known (Some w) = Some (Some w)

-- the word, where there is one and it is defined
abbrev pub word_of : Option (Option ℕ) → Option ℕ
word_of o = option_and_then (λ word. word) o

pub word_of_known : (o : Option ℕ) → word_of (known o) ≡ o
word_of_known None = refl
word_of_known (Some w) = refl

-- a word that the host offers is the next one
pub offered_word : (b : Bool) (x : Channel) (ws : List ℕ) (n : ℕ) (v : Family) → Offered b x (drop n ws) v → eqb (v x.valid) 1 ≡ true → IsGiven (known (slice_get ws n)) (v x.word)
offered_word true x [] zero v h e = absurd (false≢true (ap (λ n. eqb n 1) (sym h) ∙ e))
offered_word true x [] (suc n) v h e = absurd (false≢true (ap (λ n. eqb n 1) (sym h) ∙ e))
offered_word false x [] n v h e = absurd (false≢true (ap (λ n. eqb n 1) (sym h) ∙ e))
offered_word true x (w ∷ ws) zero v h e = h.1
offered_word false x (w ∷ ws) zero v h e = absurd (false≢true (ap (λ n. eqb n 1) (sym h) ∙ e))
offered_word b x (w ∷ ws) (suc n) v h e = offered_word b x ws n v h e

-- ---- the words of a FIFO

-- the words from this number on: there are so many, and they are those of the stream
abbrev pub AgreeFrom : (ℕ → Option (Option ℕ)) → ℕ → List ℕ → Type 0
AgreeFrom word n [] = Unit {0}
AgreeFrom word n (w ∷ ws) = IsGiven (word n) w × AgreeFrom word (n + 1) ws

pub at_number : (word : ℕ → Option (Option ℕ)) (m n w : ℕ) → m ≡ n → IsGiven (word m) w → IsGiven (word n) w
at_number word m n w e g = let P : ℕ → Type 0 = λ k. IsGiven (word k) w in subst P e g

agree_push : (word : ℕ → Option (Option ℕ)) (n : ℕ) (q : List ℕ) (w : ℕ) → AgreeFrom word n q → IsGiven (word (n + length q)) w → AgreeFrom word n (q ++ w ∷ [])
agree_push word n [] w h e = (at_number word (n + length {A = ℕ} []) n w (omega arith) e, tt)
agree_push word n (a ∷ q) w h e =
    (h.0, agree_push word (n + 1) q w h.1 (at_number word (n + length (a ∷ q)) (n + 1 + length q) w (omega arith) e))

-- the words in a FIFO, after so many that were taken, are the stream's
pub record Holds (word : ℕ → Option (Option ℕ)) (n total : ℕ) (q : List ℕ) : Type 0 where
  pub agree : AgreeFrom word n q
  pub count : n + length q ≡ total

pub holds_next : (word : ℕ → Option (Option ℕ)) (mo mi : Bool) (n total : ℕ) (q : List ℕ) (w : ℕ)
    → Holds word n total q → (mo ≡ true → 0 < length q) → (mi ≡ true → IsGiven (word total) w)
    → Holds word (cond mo (suc n) n) (cond mi (suc total) total) (cond mo (drop 1 q) q ++ cond mi (w ∷ []) [])
holds_next word true mi n total [] w h o i = absurd (let g : 0 < 0 = o refl in omega arith)
holds_next word true mi n total (a ∷ q) w h o i =
    let e : n + 1 ≡ suc n = omega arith in
    let P : ℕ → Type 0 = λ k. AgreeFrom word k q in
    holds_next word false mi (suc n) total q w (record { agree = subst P e h.agree.1; count = omega (arith, h.count) }) (λ e. absurd (false≢true e)) i
holds_next word false true n total q w h o i =
    record {
      agree = agree_push word n q w h.agree (at_number word total (n + length q) w (sym h.count) (i refl));
      count = simp length-append (omega (arith, h.count));
    }
holds_next word false false n total q w h o i =
    let P : List ℕ → Type 0 = λ l. Holds word n total l in
    subst P (sym (append-nil q)) h

pub head_agrees : (word : ℕ → Option (Option ℕ)) (n w : ℕ) (q : List ℕ) → AgreeFrom word n q → 0 < length q → w ≡ get_or q 0 0 → IsGiven (word n) w
head_agrees word n w [] h l e = absurd (omega arith)
head_agrees word n w (a ∷ q) h l e = let P : ℕ → Type 0 = λ m. IsGiven (word n) m in subst P (sym e) h.0

pub left_more : (word : ℕ → Option (Option ℕ)) (mo : Bool) (n w : ℕ) (ws : List ℕ) → (mo ≡ true → IsGiven (word n) w) → AgreeFrom word (cond mo (suc n) n) ws → AgreeFrom word n (cond mo (w ∷ ws) ws)
left_more word true n w ws i h = let e : suc n ≡ n + 1 = omega arith in let P : ℕ → Type 0 = λ k. AgreeFrom word k ws in (i refl, subst P e h)
left_more word false n w ws i h = h

-- a word that is there is that of the equations where these have one
pub given_word : (o : Option (Option ℕ)) (w : ℕ) → IsGiven o w → IsWord (word_of o) w
given_word None w h = absurd h
given_word (Some word) w h = h

-- ---- words that agree one by one agree with a beginning of the list

agrees_front : (x : ℕ) (o : Option ℕ) (xs : List ℕ) (ws : List (Option ℕ)) → IsWord o x → Agrees xs ws → Agrees (x ∷ xs) (o ∷ ws)
agrees_front x None xs ws h a = a
agrees_front x (Some w) xs ws h a = (h, a)

agrees_at : (ws : List (Option ℕ)) (n x : ℕ) (xs : List ℕ) → IsGiven (slice_get ws n) x → Agrees xs (drop (n + 1) ws) → Agrees (x ∷ xs) (drop n ws)
agrees_at [] n x xs h a = absurd h
agrees_at (o ∷ ws) zero x xs h a = agrees_front x o xs ws h a
agrees_at (o ∷ ws) (suc n) x xs h a = agrees_at ws n x xs h (let e : suc n + 1 ≡ suc (n + 1) = omega arith in subst (λ k. Agrees xs (drop k (o ∷ ws))) e a)

pub agrees_from : (ws : List (Option ℕ)) (n : ℕ) (xs : List ℕ) → AgreeFrom (λ k. slice_get ws k) n xs → Agrees xs (drop n ws)
agrees_from ws n [] h = tt
agrees_from ws n (x ∷ xs) h = agrees_at ws n x xs h.0 (agrees_from ws (n + 1) xs h.1)

-- no word leaves in the reset edge
pub none_left : (x : Channel) (v : Family) (ws : List ℕ) → v x.ready ≡ 0 → cond (moves x v) (v x.word ∷ ws) ws ≡ ws
none_left x v ws e = ap (λ n. cond (eqb (v x.valid) 1 && eqb n 1) (v x.word ∷ ws) ws) e ∙ off (eqb (v x.valid) 1)
  where
    off : (b : Bool) → cond (b && false) (v x.word ∷ ws) ws ≡ ws
    off true = refl
    off false = refl
