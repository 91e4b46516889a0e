-- Paths from inputs to outputs, as they are found one by one; and the graph of a module.
use Rattle.std.proofs.Common.{◌≡◌, ℕ, ◌+◌, ◌<◌, ◌≤◌, true, false, List, [], ◌∷◌, ◌++◌, length, set, get_or, Option, Some, None, refl, sym, ◌∙◌, ap, subst, arith, ◌⊎◌, inl, inr, ⊎_elim}
use Rattle.std.specs.Prelude.{slice_get}
use Rattle.std.proofs.lemmas.Bool.{cases_lt, cases_eq, false≢true}
use Rattle.std.proofs.lemmas.Option.{slice_get_within}
use Rattle.rtl_ir.specs.declared.design.Module.{Module}
use Rattle.rtl_ir.specs.declared.design.Port.{Port}
use Rattle.digraph.specs.Graph.{Reaches}
use Rattle.digraph.specs.FanIn.{IsFanIn}
use Rattle.rtl_check.specs.Paths.{PortPath, HasPath, AreAmong, IsPath, ArePaths, IsInput, ArePlaces, ArePortsApart}
use Rattle.rtl_check.specs.Picked.{HasSame}
use Rattle.rtl_check.proofs.Places.{at_set, beside_set, in_front, at_seam, pushed_at, some_is}

-- the paths of a table with one row more
row_cases : (table : List (List ℕ)) (row : List ℕ) (x : PortPath) → HasPath (table ++ row ∷ []) x → HasPath table x ⊎ ((x.output ≡ length table) × ((n : ℕ) × (slice_get row n ≡ Some x.input)))
row_cases table row x h =
    ⊎_elim (λ old. inl (h.0, h.1, old, h.3)) (λ new. inr (new.0, (h.1, ap (λ (l : List ℕ). slice_get l h.1) new.1 ∙ h.3))) (pushed_at table x.output row h.0 h.2)

-- the paths to one output more
pub row_more : (g : List (List ℕ)) (m : Module) (table : List (List ℕ)) (output : ℕ) (p : Port)
    (row nodes : List ℕ) (places : List (Option ℕ)) → slice_get m.ports output ≡ Some p
    → p.output ≡ true → ArePlaces m (length m.ports) places → IsFanIn g p.net nodes
    → AreAmong places nodes (length nodes) row → length table ≡ output
    → ArePaths (Reaches g) m (λ i o. o < output) table
    → ArePaths (Reaches g) m (λ i o. o < output + 1) (table ++ row ∷ [])
row_more g m table output p row nodes places at out are fan among size h =
    record {
      sound = λ x has. ⊎_elim (λ old. h.sound x old) (λ new. here x new) (row_cases table row x has);
      whole = λ x lt path. by_place x path lt (cases_lt x.output output);
    }
  where
    here : (x : PortPath) → (x.output ≡ length table) × ((n : ℕ) × (slice_get row n ≡ Some x.input)) → IsPath (Reaches g) m x
    here x e =
        let w = among.sound e.1.0 x.input e.1.1 in
        let q = are.sound (get_or nodes w.0 0) x.input w.2 in
        record {
          input = q.0;
          input_at = q.1;
          is_input = q.2;
          output = p;
          output_at = ap (slice_get m.ports) (e.0 ∙ size) ∙ at;
          is_output = out;
          leads = subst (λ n. Reaches g n p.net) (sym q.3) (fan.sound w.0 w.1);
        }

    by_place : (x : PortPath) → IsPath (Reaches g) m x → x.output < output + 1 → (x.output < output) ⊎ (output ≤ x.output) → HasPath (table ++ row ∷ []) x
    by_place x path t (inl lt) = let w = h.whole x lt path in (w.0, w.1, in_front table (row ∷ []) x.output w.0 w.2, w.3)
    by_place x path t (inr ge) =
        let e : x.output ≡ output = omega arith in
        let b : path.output ≡ p = some_is (sym path.output_at ∙ ap (slice_get m.ports) e ∙ at) in
        let w = fan.whole path.input.net (subst (λ (y : Port). Reaches g path.input.net y.net) b path.leads) in
        let is = are.whole path.input.net x.input (slice_get_within m.ports x.input path.input path.input_at) (path.input, path.input_at, path.is_input, refl) in
        let found = among.whole w.0 x.input w.1 (ap (slice_get places) w.2 ∙ is) in
        (row, found.0, ap (slice_get (table ++ row ∷ [])) (e ∙ sym size) ∙ at_seam table row [], found.1)

-- no path ends at an input
pub row_skipped : (L : ℕ → ℕ → Type 0) (m : Module) (table : List (List ℕ)) (output : ℕ)
    (p : Port) → slice_get m.ports output ≡ Some p → p.output ≡ false
    → ArePaths L m (λ i o. o < output) table → ArePaths L m (λ i o. o < output + 1) (table ++ []
    ∷ [])
row_skipped L m table output p at input h =
    record {
      sound = λ x has. ⊎_elim (λ old. h.sound x old) (λ new. absurd (none x new)) (row_cases table [] x has);
      whole = λ x t path. let w = h.whole x (by_place x path t (cases_lt x.output output)) path in (w.0, w.1, in_front table ([] ∷ []) x.output w.0 w.2, w.3);
    }
  where
    none : (x : PortPath) → (x.output ≡ length table) × ((n : ℕ) × (slice_get [] n ≡ Some x.input)) → ⊥
    none x e = let q = e.1.1 in cc

    by_place : (x : PortPath) → IsPath L m x → x.output < output + 1 → (x.output < output) ⊎ (output ≤ x.output) → x.output < output
    by_place x path t (inl lt) = lt
    by_place x path t (inr ge) =
        let e : x.output ≡ output = omega arith in
        let a : path.output ≡ p = some_is (sym path.output_at ∙ ap (slice_get m.ports) e ∙ at) in
        absurd (false≢true (sym input ∙ ap (λ (y : Port). y.output) (sym a) ∙ path.is_output))

pub no_rows : (L : ℕ → ℕ → Type 0) (m : Module) → ArePaths L m (λ i o. o < 0) []
no_rows L m = record { sound = λ x has. absurd (let q = has.2 in cc); whole = λ x lt path. absurd (omega (arith, lt)) }

pub outputs_done : (L : ℕ → ℕ → Type 0) (m : Module) (output : ℕ) (table : List (List ℕ)) → length m.ports ≤ output → ArePaths L m (λ i o. o < output) table → ArePaths L m (λ i o. Unit {0}) table
outputs_done L m output table past h =
    record { sound = h.sound; whole = λ x t path. h.whole x (omega (arith, slice_get_within m.ports x.output path.output path.output_at)) path }

-- a net more, which is an input
pub among_more : (places : List (Option ℕ)) (nodes inputs : List ℕ) (count input : ℕ)
    → slice_get places (get_or nodes count 0) ≡ Some (Some input)
    → AreAmong places nodes count inputs → AreAmong places nodes (count + 1) (inputs ++ input ∷ [])
among_more places nodes inputs count input at h =
    record {
      sound = λ n i is. ⊎_elim (λ old. let w = h.sound n i old in (
        w.0,
        omega (arith, w.1),
        w.2,
      )) (λ new. (
        count,
        omega arith,
        at ∙ ap (λ (k : ℕ). Some (Some k)) new.1,
      )) (pushed_at inputs n input i is);
      whole = λ j i lt is. by_place j i lt is (cases_lt j count);
    }
  where
    by_place : (j i : ℕ) → j < count + 1 → slice_get places (get_or nodes j 0) ≡ Some (Some i) → (j < count) ⊎ (count ≤ j) → (n : ℕ) × (slice_get (inputs ++ input ∷ []) n ≡ Some i)
    by_place j i lt is (inl less) = let w = h.whole j i less is in (w.0, in_front inputs (input ∷ []) w.0 i w.1)
    by_place j i lt is (inr ge) =
        let e : j ≡ count = omega arith in
        let q : input ≡ i = some_is (some_is (sym at ∙ ap (λ (n : ℕ). slice_get places (get_or nodes n 0)) (sym e) ∙ is)) in
        (length inputs, at_seam inputs input [] ∙ ap (λ (k : ℕ). Some k) q)

-- a net more, which is no input
pub among_skipped : (places : List (Option ℕ)) (nodes inputs : List ℕ) (count : ℕ)
    → slice_get places (get_or nodes count 0) ≡ Some None → AreAmong places nodes count inputs
    → AreAmong places nodes (count + 1) inputs
among_skipped places nodes inputs count at h =
    record {
      sound = λ n i is. let w = h.sound n i is in (w.0, omega (arith, w.1), w.2);
      whole = λ j i lt is. h.whole j i (by_place j i lt is (cases_lt j count)) is;
    }
  where
    none_some : {i : ℕ} → None ≡ Some i → ⊥
    none_some e = cc

    by_place : (j i : ℕ) → j < count + 1 → slice_get places (get_or nodes j 0) ≡ Some (Some i) → (j < count) ⊎ (count ≤ j) → j < count
    by_place j i lt is (inl less) = less
    by_place j i lt is (inr ge) =
        let e : j ≡ count = omega arith in
        absurd (none_some (some_is (sym at ∙ ap (λ (n : ℕ). slice_get places (get_or nodes n 0)) (sym e) ∙ is)))

pub none_among : (places : List (Option ℕ)) (nodes : List ℕ) → AreAmong places nodes 0 []
none_among places nodes = record { sound = λ n i is. absurd (cc); whole = λ j i lt is. absurd (omega (arith, lt)) }

-- the same inputs in another list
pub among_same : (places : List (Option ℕ)) (nodes found row : List ℕ) (count : ℕ) → HasSame found row → AreAmong places nodes count found → AreAmong places nodes count row
among_same places nodes found row count same h =
    record {
      sound = λ n i is. let w = (same i).1 (n, is) in h.sound w.0 i w.1;
      whole = λ j i lt is. (same i).0 (h.whole j i lt is);
    }

-- one input more has its place
pub place_more : (m : Module) (input : ℕ) (places : List (Option ℕ)) (p : Port)
    → ArePortsApart m → slice_get m.ports input ≡ Some p → p.output ≡ false
    → p.net < length places → ArePlaces m input places
    → ArePlaces m (input + 1) (set places p.net (Some input))
place_more m input places p apart at is_in lt h =
    record { sound = λ n i is. sound n i is (cases_eq n p.net); whole = λ n i less is. whole n i less is (cases_eq n p.net) }
  where
    here : slice_get (set places p.net (Some input)) p.net ≡ Some (Some input)
    here = at_set places p.net (Some input) lt

    sound : (n i : ℕ) → slice_get (set places p.net (Some input)) n ≡ Some (Some i) → (n ≡ p.net) ⊎ (n ≡ p.net → ⊥) → IsInput m n i
    sound n i is (inl e) =
        let q : input ≡ i = some_is (some_is (sym here ∙ ap (slice_get (set places p.net (Some input))) (sym e) ∙ is)) in
        (p, ap (slice_get m.ports) (sym q) ∙ at, is_in, sym e)
    sound n i is (inr d) = h.sound n i (sym (beside_set places p.net n (Some input) d) ∙ is)

    whole : (n i : ℕ) → i < input + 1 → IsInput m n i → (n ≡ p.net) ⊎ (n ≡ p.net → ⊥) → slice_get (set places p.net (Some input)) n ≡ Some (Some i)
    whole n i less (q, q_at, q_no, q_net) (inl e) =
        let same : i ≡ input = apart i input q p q_at at (q_net ∙ e) in
        ap (slice_get (set places p.net (Some input))) e ∙ here ∙ ap (λ k. Some (Some k)) (sym same)
    whole n i less (q, q_at, q_no, q_net) (inr d) = beside_set places p.net n (Some input) d ∙ h.whole n i (before (cases_lt i input)) (q, q_at, q_no, q_net)
      where
        before : (i < input) ⊎ (input ≤ i) → i < input
        before (inl l) = l
        before (inr ge) =
            let e : i ≡ input = omega arith in
            absurd (d (sym q_net ∙ ap (λ (x : Port). x.net) (some_is (sym q_at ∙ ap (slice_get m.ports) e ∙ at))))

-- an output has none
pub place_skipped : (m : Module) (input : ℕ) (places : List (Option ℕ)) (p : Port) → slice_get m.ports input ≡ Some p → p.output ≡ true → ArePlaces m input places → ArePlaces m (input + 1) places
place_skipped m input places p at out h =
    record { sound = h.sound; whole = λ n i less is. h.whole n i (before i less is (cases_lt i input)) is }
  where
    before : (i : ℕ) → i < input + 1 → {n : ℕ} → IsInput m n i → (i < input) ⊎ (input ≤ i) → i < input
    before i less is (inl l) = l
    before i less (q, q_at, q_no, q_net) (inr ge) =
        let e : i ≡ input = omega arith in
        let same : q ≡ p = some_is (sym q_at ∙ ap (slice_get m.ports) e ∙ at) in
        absurd (false≢true (sym q_no ∙ ap (λ (x : Port). x.output) same ∙ out))

-- at first no net has one
pub no_places : (m : Module) (places : List (Option ℕ)) → ((n i : ℕ) → slice_get places n ≡ Some (Some i) → ⊥) → ArePlaces m 0 places
no_places m places none = record { sound = λ n i is. absurd (none n i is); whole = λ n i less is. absurd (omega (arith, less)) }
