-- The lines of words put into the files of outputs.
use Rattle.std.proofs.Common.{◌≡◌, ◌≢◌, ℕ, ◌+◌, ◌<◌, ◌≤◌, true, false, cond, nat_lt, List, [], ◌∷◌}
use Rattle.std.proofs.Common.{◌++◌, length, map, set, take, get_or, Some, inl, inr, refl, sym, ap}
use Rattle.std.proofs.Common.{◌∙◌, subst, ⊎_elim, append_assoc, arith}
use Rattle.std.specs.Prelude.{IsSome, is_some, slice_get}
use Rattle.std.proofs.lemmas.Bool.{cases_eq, cases_lt}
use Rattle.std.proofs.lemmas.Bool.Decides.{nat_tests}
use Rattle.std.proofs.lemmas.List.{append-nil, length_push, take-append-le, take_all}
use Rattle.std.proofs.lemmas.Option.{slice_get_within}
use Rattle.mx_base.specs.Files.{Name, Held, Holds, Lacks, ChangesOnly, file_of}
use Rattle.verilog_sim.specs.declared.offer.Event.{Event}
use Rattle.word_files.specs.Written.{lower_digits, digit_count, Puts}
use Rattle.simulation.specs.Inward.{unmoved}
use Rattle.simulation.specs.Outputs.{lines_of_words, ChangesOnlyOutputs}
use Rattle.simulation.specs.Outward.{output_of, IsPut, ArePut, DifferInName, with_moved, all_with_moved}
use Rattle.simulation.specs.declared.output.Output.{Output}
use Rattle.simulation.proofs.Lists.{in_set, each_push, in_take, get_set_other, map_at, map_from, same_some}
use Rattle.simulation.proofs.Reading.{lacks_told}

abbrev pub line : ℕ → ℕ → List ℕ
line width w = lower_digits (digit_count width) w ++ 10 ∷ []

lines_push : (width : ℕ) (ws : List ℕ) (w : ℕ) → lines_of_words width (ws ++ w ∷ []) ≡ lines_of_words width ws ++ line width w
lines_push width [] w = append-nil (line width w)
lines_push width (x ∷ ws) w = ap (λ l. line width x ++ l) (lines_push width ws w) ∙ sym (append_assoc (line width x) (lines_of_words width ws) (line width w))

-- a line is put
pub put_one :
    (held later : Held) (words : List ℕ) (old new : Output) (w : ℕ) (p : IsPut held words old)
    → new.width ≡ old.width
    → (written : List ℕ) → Holds later new.writer.name written
    → Puts p.file old.writer.waiting.items (line old.width w) written new.writer.waiting.items
    → IsPut later (words ++ w ∷ []) new
put_one held later words old new w p width written holds (inl put) =
    record {
      file = written;
      holds = holds;
      all = ap (λ f. f ++ new.writer.waiting.items) put.0 ∙ ap (λ x. p.file
          ++ x) put.1 ∙ sym (append_assoc p.file old.writer.waiting.items
          (line old.width w)) ∙ ap (λ x. x
          ++ line old.width w) p.all ∙ sym (lines_push old.width words w) ∙ ap
          (λ n. lines_of_words n (words ++ w ∷ [])) (sym width);
      count = p.count;
      counted = (let q = p.counted in omega (arith, length_push words w));
      begun = put.0 ∙ p.begun ∙ ap (lines_of_words old.width) (sym (take-append-le p.count words (w ∷ []) p.counted)) ∙ ap (λ n. lines_of_words n (take p.count (words ++ w ∷ []))) (sym width);
    }
put_one held later words old new w p width written holds (inr put) =
    let all : written ≡ lines_of_words new.width (words ++ w
    ∷ []) = put.0 ∙ sym (append_assoc p.file old.writer.waiting.items
    (line old.width w)) ∙ ap (λ x. x
    ++ line old.width w) p.all ∙ sym (lines_push old.width words w) ∙ ap
    (λ n. lines_of_words n (words ++ w ∷ [])) (sym width) in
    record {
      file = written;
      holds = holds;
      all = ap (λ x. written ++ x) put.1 ∙ append-nil written ∙ all;
      count = length (words ++ w ∷ []);
      counted = omega arith;
      begun = all ∙ ap (lines_of_words new.width) (sym (take_all (length (words ++ w ∷ [])) (words ++ w ∷ []) (omega arith)));
    }

pub with_moved_true : (words : List ℕ) (e : Event) → e.moved ≡ true → words ++ e.word ∷ [] ≡ with_moved words e
with_moved_true words e moved = sym (ap (λ t. cond t (words ++ e.word ∷ []) words) moved)

-- a call on one file of these changes no other
pub only_more : (named : List (Name × ℕ)) (first held later : Held) (k : ℕ) (o : Name × ℕ)
    → slice_get named k ≡ Some o → ChangesOnlyOutputs named first held
    → ChangesOnly o.0 held later → ChangesOnlyOutputs named first later
only_more named first held later k o at before now =
    record { told = now.told ∙ before.told; others = λ q none. now.others q (none k o at) ∙ before.others q none }

pub unchanged : (named : List (Name × ℕ)) (held : Held) → ChangesOnlyOutputs named held held
unchanged named held = record { told = refl; others = λ q none. refl }

-- a file of which a call changes nothing
pub put_stays : (held later : Held) (words : List ℕ) (o : Output) → file_of later o.writer.name ≡ file_of held o.writer.name → IsPut held words o → IsPut later words o
put_stays held later words o same p = record { file = p.file; holds = same ∙ p.holds; all = p.all; count = p.count; counted = p.counted; begun = p.begun }

-- the file of another output
pub other_file : (os : List Output) (named : List (Name
    × ℕ)) (held later : Held) (j k : ℕ) (o x : Output) → map output_of os ≡ named
    → DifferInName named → slice_get os j ≡ Some o → slice_get os k ≡ Some x → j ≢ k
    → ChangesOnly x.writer.name held later
    → file_of later o.writer.name ≡ file_of held o.writer.name
other_file os named held later j k o x is apart ej ek n only =
    only.others o.writer.name
    (λ same. n (apart j k (output_of o) (output_of x) (ap (λ (l : List (Name
    × ℕ)). slice_get l j) (sym is) ∙ map_at output_of os j o ej) (ap (λ (l : List (Name
    × ℕ)). slice_get l k) (sym is) ∙ map_at output_of os k x ek) same))

-- the words of the outputs before one, with those that moved
abbrev pub some_moved : (ℕ → List ℕ) → List Event → ℕ → ℕ → List ℕ
some_moved words events k j = cond (nat_lt j k) (with_moved (words j) (get_or events j unmoved)) (words j)

some_before : (words : ℕ → List ℕ) (events : List Event) (k j : ℕ) → j < k → some_moved words events k j ≡ with_moved (words j) (get_or events j unmoved)
some_before words events k j lt =
    let yes : nat_lt j k ≡ true = grind (arith, nat_tests) in ap (λ t. cond t (with_moved (words j) (get_or events j unmoved)) (words j)) yes

some_after : (words : ℕ → List ℕ) (events : List Event) (k j : ℕ) → k ≤ j → some_moved words events k j ≡ words j
some_after words events k j le =
    let no : nat_lt j k ≡ false = grind (arith, nat_tests) in ap (λ t. cond t (with_moved (words j) (get_or events j unmoved)) (words j)) no

-- the same whether one before or after is counted
some_other : (words : ℕ → List ℕ) (events : List Event) (k j : ℕ) → j ≢ k → some_moved words events k j ≡ some_moved words events (k + 1) j
some_other words events k j n = ⊎_elim
    (λ lt. some_before words events k j lt ∙ sym (some_before words events (k + 1) j (omega arith)))
    (λ ge. some_after words events k j ge ∙ sym (some_after words events (k + 1) j (omega arith)))
    (cases_lt j k)

pub put_none : (held : Held) (words : ℕ → List ℕ) (events : List Event) (os : List Output) → ArePut held words os → ArePut held (some_moved words events 0) os
put_none held words events os put = λ j o e. subst (λ ws. IsPut held ws o) (sym (some_after words events 0 j (omega arith))) (put j o e)

pub put_all : (held : Held) (words : ℕ
    → List ℕ) (events : List Event) (k : ℕ) (os : List Output) → length os ≤ k
    → ArePut held (some_moved words events k) os → ArePut held (all_with_moved words events) os
put_all held words events k os le put = λ j o e.
    subst (λ ws. IsPut held ws o) (some_before words events k j (let w = slice_get_within os j o e in omega arith)) (put j o e)

pub put_more :
    (held later : Held) (words : ℕ → List ℕ) (events : List Event) (named : List (Name × ℕ)) (os : List Output) (k : ℕ) (x new : Output)
    → map output_of os ≡ named → DifferInName named → slice_get os k ≡ Some x → ChangesOnly x.writer.name held later
    → ((ws : List ℕ) → IsPut held ws x → IsPut later (with_moved ws (get_or events k unmoved)) new)
    → ArePut held (some_moved words events k) os → ArePut later (some_moved words events (k + 1)) (set os k new)
put_more held later words events named os k x new is apart at only step put = λ j o e. in_set os k j new o e
    (λ q lt same.
    subst (λ i. IsPut later (some_moved words events (k + 1) i) o) (sym q)
    (subst (λ y. IsPut later (some_moved words events (k + 1) k) y) (sym same)
    (subst (λ ws. IsPut later ws new) (sym (some_before words events (k + 1) k (omega arith)))
    (step (words k) (subst (λ ws. IsPut held ws x) (some_after words events k k (omega arith)) (put k x at))))))
    (λ n there. subst (λ ws. IsPut later ws o) (some_other words events k j n)
    (put_stays held later (some_moved words events k j) o
    (other_file os named held later j k o x is apart there at n only) (put j o there)))

-- a file that holds lines is not lacking
pub not_lacking : (first held : Held) (os : List Output) (k : ℕ) (x : Output)
    → slice_get os k ≡ Some x → (is_some held ≡ is_some first)
    → (IsSome first → (words : ℕ → List ℕ) × ArePut held words os) → Lacks held x.writer.name → ⊥
not_lacking first held os k x at told put lacks =
    let p = put (sym told ∙ lacks_told held x.writer.name lacks) in
    let h = (p.1 k x at).holds in cc

-- the files before one are whole
abbrev pub SomeWhole : Held → (ℕ → List ℕ) → List (Name × ℕ) → ℕ → Type 0
SomeWhole held words named k = (j : ℕ) (o : Name × ℕ) → j < k → slice_get named j ≡ Some o → Holds held o.0 (lines_of_words o.1 (words j))

-- and those from one on are as they were
abbrev pub RestPut : Held → (ℕ → List ℕ) → List Output → ℕ → Type 0
RestPut held words os k = (j : ℕ) (o : Output) → k ≤ j → slice_get os j ≡ Some o → IsPut held (words j) o

pub whole_more :
    (held later : Held) (words : ℕ → List ℕ) (named : List (Name × ℕ)) (os : List Output) (k : ℕ) (x : Output)
    → map output_of os ≡ named → DifferInName named → slice_get os k ≡ Some x → ChangesOnly x.writer.name held later
    → Holds later x.writer.name (lines_of_words x.width (words k))
    → SomeWhole held words named k → SomeWhole later words named (k + 1)
whole_more held later words named os k x is apart at only here whole j o lt e = ⊎_elim
    (λ q.
    let same : output_of x ≡ o = same_some (slice_get named j) (output_of x) o (ap (slice_get named) q ∙ ap (λ (l : List (Name × ℕ)). slice_get l k) (sym is) ∙ map_at output_of os k x at) e in
    subst (λ i. Holds later o.0 (lines_of_words o.1 (words i))) (sym q) (subst (λ (y : Name × ℕ). Holds later y.0 (lines_of_words y.1 (words k))) same here))
    (λ n.
    let there = map_from output_of os j o (ap (λ (l : List (Name × ℕ)). slice_get l j) is ∙ e) in
    let stays : file_of later o.0 ≡ file_of held o.0 = subst (λ (y : Name
    × ℕ). file_of later y.0 ≡ file_of held y.0) there.2
    (other_file os named held later j k there.0 x is apart there.1 at n only) in
    stays ∙ whole j o (omega arith) e)
    (cases_eq j k)

pub rest_more :
    (held later : Held) (words : ℕ → List ℕ) (named : List (Name × ℕ)) (os : List Output) (k : ℕ) (x new : Output)
    → map output_of os ≡ named → DifferInName named → slice_get os k ≡ Some x → ChangesOnly x.writer.name held later
    → RestPut held words os k → RestPut later words (set os k new) (k + 1)
rest_more held later words named os k x new is apart at only rest j o le e =
    let n : j ≢ k = omega arith in
    let there = sym (get_set_other os k j new n) ∙ e in
    put_stays held later (words j) o (other_file os named held later j k o x is apart there at n only) (rest j o (omega arith) there)

-- a file that is put is not lacking
pub put_not_lacking : (held : Held) (words : List ℕ) (x : Output) → IsPut held words x → Lacks held x.writer.name → ⊥
put_not_lacking held words x p lacks = let h = p.holds in cc

-- the line of a word that moved is put
pub put_event :
    (held later : Held) (words : List ℕ) (old new : Output) (e : Event) (p : IsPut held words old)
    → e.moved ≡ true → new.width ≡ old.width → new.writer.name ≡ old.writer.name
    → (written waiting : List ℕ) → new.writer.waiting.items ≡ waiting → Holds later old.writer.name written
    → Puts p.file old.writer.waiting.items (line old.width e.word) written waiting
    → IsPut later (with_moved words e) new
put_event held later words old new e p moved width name written waiting is holds puts =
    subst (λ ws. IsPut later ws new) (with_moved_true words e moved)
    (put_one held later words old new e.word p width written (subst (λ (n : Name). Holds later n written) (sym name) holds)
    (subst (λ w. Puts p.file old.writer.waiting.items (line old.width e.word) written w) (sym is) puts))

-- a file is made behind others
pub put_created :
    (held later : Held) (named : List (Name × ℕ)) (os : List Output) (n : ℕ) (x : Output)
    → DifferInName named → map output_of os ≡ take n named → length os ≡ n → slice_get named n ≡ Some (output_of x)
    → ChangesOnly x.writer.name held later → IsPut later [] x
    → ArePut held (λ k. []) os → ArePut later (λ k. []) (os ++ x ∷ [])
put_created held later named os n x apart is size at only here put = each_push (λ j o. IsPut later [] o) os x
    (λ j o e.
    let there = in_take n named j (output_of o) (ap (λ (l : List (Name × ℕ)). slice_get l j) (sym is) ∙ map_at output_of os j o e) in
    let lt = slice_get_within os j o e in
    put_stays held later [] o (only.others o.writer.name (λ same. let q = apart j n (output_of o) (output_of x) there at same in absurd (omega arith))) (put j o e))
    here
