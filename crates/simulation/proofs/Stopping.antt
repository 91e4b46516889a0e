-- What a call that fails leaves in the files of outputs.
use Rattle.std.proofs.Common.{◌≡◌, ◌≢◌, ℕ, ◌+◌, ◌<◌, ◌≤◌, List, [], length, map, take, Some, Ok, Err, Result, refl, sym, ap, ◌∙◌, subst, ⊎_elim, arith}
use Rattle.std.specs.Prelude.{OnErr, slice_get}
use Rattle.std.proofs.lemmas.Bool.{cases_lt}
use Rattle.mx_base.specs.Files.{Name, Held, Holds, ChangesOnly, file_of}
use Rattle.simulation.specs.Outputs.{lines_of_words, AreCreatedTo, HoldLinesBut}
use Rattle.simulation.specs.Outward.{output_of, IsPut, ArePut, DifferInName}
use Rattle.simulation.specs.declared.output.Output.{Output}
use Rattle.simulation.proofs.Lists.{map_at, map_from, item_in, in_take, same_some}
use Rattle.simulation.proofs.Writing.{SomeWhole, RestPut}

-- a call on one file changes none of the others
others_stay : (named : List (Name × ℕ)) (held later : Held) (n k : ℕ) (x o : Name × ℕ)
    → DifferInName named → slice_get named n ≡ Some x → slice_get named k ≡ Some o → k ≢ n
    → ChangesOnly x.0 held later → file_of later o.0 ≡ file_of held o.0
others_stay named held later n k x o apart at there differ only = only.others o.0 (λ same. differ (apart k n o x there at same))

-- the files from this one on are as they were
abbrev pub StayBehind : ℕ → List (Name × ℕ) → Held → Held → Type 0
StayBehind n named first held = (k : ℕ) (o : Name × ℕ) → n ≤ k → slice_get named k ≡ Some o → file_of held o.0 ≡ file_of first o.0

pub stay_more : (named : List (Name × ℕ)) (first held later : Held) (n : ℕ) (x : Name × ℕ)
    → DifferInName named → slice_get named n ≡ Some x → ChangesOnly x.0 held later
    → StayBehind n named first held → StayBehind (n + 1) named first later
stay_more named first held later n x apart at only stay k o le there =
    let differ : k ≢ n = omega arith in
    others_stay named held later n k x o apart at there differ only ∙ stay k o (omega arith) there

pub none_created : (named : List (Name × ℕ)) (held : Held) → (n : ℕ) × AreCreatedTo n named held held
none_created named held = (0, record { created = λ k o lt there. absurd (omega arith); behind = λ k o lt there. refl })

-- a file that was created holds nothing
is_empty : (held : Held) (o : Output) → IsPut held [] o → Holds held o.writer.name []
is_empty held o p =
    let none : p.count ≡ 0 = (let q = p.counted in omega arith) in
    let file : p.file ≡ [] = p.begun ∙ ap (λ n. lines_of_words o.width (take n [])) none in
    p.holds ∙ ap (λ (f : List ℕ). Some (Some f)) file

pub stopped_at :
    (first held later : Held) (named : List (Name × ℕ)) (os : List Output) (n : ℕ) (x : Name × ℕ)
    → DifferInName named → map output_of os ≡ take n named → length os ≡ n → slice_get named n ≡ Some x
    → ChangesOnly x.0 held later → ArePut held (λ k. []) os → StayBehind n named first held → AreCreatedTo n named first later
stopped_at first held later named os n x apart is size at only put stay = record {
  created = λ k o lt there. created k o lt there (item_in os k (omega (arith, size)));
  behind = λ k o lt there. (
      let differ : k ≢ n = omega arith in
      others_stay named held later n k x o apart at there differ only ∙ stay k o (omega arith) there);
}
  where
    created : (k : ℕ) (o : Name × ℕ) → k < n → slice_get named k ≡ Some o → (y : Output) × (slice_get os k ≡ Some y) → Holds later o.0 []
    created k o lt there y =
        let same : output_of y.0 ≡ o = same_some (slice_get named k) (output_of y.0) o
        (in_take n named k (output_of y.0) (ap (λ (l : List (Name
        × ℕ)). slice_get l k) (sym is) ∙ map_at output_of os k y.0 y.1)) there in
        let empty : Holds held o.0 [] = subst (λ (z : Name × ℕ). Holds held z.0 []) same (is_empty held y.0 (put k y.0 y.1)) in
        let differ : k ≢ n = omega arith in
        others_stay named held later n k x o apart at there differ only ∙ empty

-- the files that hold lines of words, where a call on one of them follows
pub hold_but : (held later : Held) (named : List (Name × ℕ)) (n : ℕ) (x : Name × ℕ)
    → DifferInName named → slice_get named n ≡ Some x → ChangesOnly x.0 held later
    → HoldLinesBut n named held → HoldLinesBut n named later
hold_but held later named n x apart at only hold k o differ there =
    let h = hold k o differ there in
    (h.0, others_stay named held later n k x o apart at there differ only ∙ h.1)

put_holds : (held : Held) (words : List ℕ) (o : Output) → IsPut held words o → (ws : List ℕ) × Holds held o.writer.name (lines_of_words o.width ws)
put_holds held words o p = (take p.count words, p.holds ∙ ap (λ (f : List ℕ). Some (Some f)) p.begun)

pub put_hold : (held : Held) (words : ℕ → List ℕ) (os : List Output) (named : List (Name × ℕ)) (n : ℕ) → map output_of os ≡ named → ArePut held words os → HoldLinesBut n named held
put_hold held words os named n is put k o differ there =
    let y = map_from output_of os k o (ap (λ (l : List (Name × ℕ)). slice_get l k) is ∙ there) in
    subst (λ (z : Name × ℕ). (ws : List ℕ) × Holds held z.0 (lines_of_words z.1 ws)) y.2 (put_holds held (words k) y.0 (put k y.0 y.1))

pub whole_hold : (held : Held) (words : ℕ → List ℕ) (os : List Output) (named : List (Name
    × ℕ)) (n : ℕ) → map output_of os ≡ named → SomeWhole held words named n
    → RestPut held words os n → HoldLinesBut n named held
whole_hold held words os named n is whole rest k o differ there = ⊎_elim
    (λ lt. (words k, whole k o lt there))
    (λ le.
    let y = map_from output_of os k o (ap (λ (l : List (Name × ℕ)). slice_get l k) is ∙ there) in
    subst (λ (z : Name × ℕ). (ws : List ℕ) × Holds held z.0 (lines_of_words z.1 ws)) y.2 (put_holds held (words k) y.0 (rest k y.0 le y.1)))
    (cases_lt k n)

pub on_err_under : {T E P : Type 0} (r : Result T E) (Q : Type 0) → (P → OnErr r Q) → OnErr r (P → Q)
on_err_under (Ok x) Q f = tt
on_err_under (Err e) Q f = f
