-- Inputs looked at one by one, and their words taken.
use Rattle.std.proofs.Common.{◌≡◌, ◌≢◌, ℕ, ◌+◌, ◌^◌, ◌<◌, Bool, false, List, [], length, set, get_or, Option, Some, None, refl, sym, ap, ◌∙◌, subst, ⊎_elim, arith}
use Rattle.std.specs.Prelude.{IsSome, slice_get, option_and_then}
use Rattle.std.proofs.lemmas.Bool.{cases_eq}
use Rattle.std.proofs.lemmas.List.{length-set, get_or-set_same, get_or-set_other}
use Rattle.std.proofs.lemmas.Option.{slice_get_within}
use Rattle.mx_base.specs.Files.{Name, Held, Holds}
use Rattle.mx_bits.specs.declared.word.Word.{Word}
use Rattle.verilog_sim.specs.declared.offer.Offer.{Offer}
use Rattle.verilog_sim.specs.declared.offer.Event.{Event}
use Rattle.verilog_sim.specs.Calls.{nothing}
use Rattle.simulation.specs.Inputs.{InputFile, fault_behind}
use Rattle.simulation.specs.Inward.{IsAt, AreAt, IsReady, AreReady, Stops, IsFirstStop, unmoved, IsTaken, AreTaken, with_waiting, words_behind}
use Rattle.simulation.specs.declared.input.Input.{Input}
use Rattle.simulation.specs.declared.stop.Stop.{Stop}
use Rattle.simulation.proofs.Lists.{each_more, each_set, same_some, item_in}
use Rattle.simulation.proofs.Reading.{found_or_lacking}

pub taken_more :
    (events : List Event) (old now : List Input) (k : ℕ) (x new : Input)
    → slice_get now k ≡ Some x → slice_get now k ≡ slice_get old k → IsTaken (get_or events k unmoved).moved x new
    → AreTaken events old now k → AreTaken events old (set now k new) (k + 1)
taken_more events old now k x new at same taken below = λ j i n lt e f.
    each_more (λ j n. (i : Input) → slice_get old j ≡ Some i → IsTaken (get_or events j unmoved).moved i n) now k new
    (λ j n lt f i e. below j i n lt e f)
    (λ i e. subst (λ y. IsTaken (get_or events k unmoved).moved y new) (same_some (slice_get now k) x i at (same ∙ e)) taken)
    j n lt f i e

-- the inputs with one looked at
pub at_more :
    (held : Held) (fs : List InputFile) (lefts : List (List ℕ)) (now : List Input) (k : ℕ) (x new : Input)
    → slice_get now k ≡ Some x → ((f : InputFile) (left : List ℕ) → IsAt held f left x → IsAt held f left new)
    → AreAt held fs lefts now → AreAt held fs lefts (set now k new)
at_more held fs lefts now k x new at stands are =
    record {
      files = are.files ∙ sym (length-set now k new);
      lists = are.lists ∙ sym (length-set now k new);
      each = λ j f left i ef el ei.
          each_set (λ j i. (f : InputFile) (left : List ℕ) → slice_get fs j ≡ Some f → slice_get lefts j ≡ Some left → IsAt held f left i) now k new
          (λ j i ei f left ef el. are.each j f left i ef el ei)
          (λ f left ef el. stands f left (are.each k f left x ef el at))
          j i ei f left ef el;
    }

pub ready_more :
    (held : Held) (stalled : List Bool) (fs : List InputFile) (lefts : List (List ℕ)) (now : List Input) (offers : List Offer) (k : ℕ) (x new : Input) (offer : Offer)
    → k < length offers → slice_get now k ≡ Some x
    → ((f : InputFile) (left : List ℕ) → IsAt held f left x → IsReady held (get_or stalled k false) f left new offer)
    → AreAt held fs lefts now → AreReady held stalled fs lefts now offers k → AreReady held stalled fs lefts (set now k new) (set offers k offer) (k + 1)
ready_more held stalled fs lefts now offers k x new offer lt at ready are below = λ j f left i less ef el ei.
    each_more (λ j i. (f : InputFile) (left : List ℕ) → slice_get fs j ≡ Some f
    → slice_get lefts j ≡ Some left
    → IsReady held (get_or stalled j false) f left i
    (get_or (set offers k offer) j nothing)) now k new
    (λ j i less ei f left ef el.
    let n : j ≢ k = omega arith in
    subst (IsReady held (get_or stalled j false) f left i) (sym (get_or-set_other offers k j offer nothing n)) (below j f left i less ef el ei))
    (λ f left ef el. subst (IsReady held (get_or stalled k false) f left new) (sym (get_or-set_same offers k offer nothing lt)) (ready f left (are.each k f left x ef el at)))
    j i less ei f left ef el

pub words_more :
    (named : List (Name × ℕ)) (offers : List Offer) (k : ℕ) (offer : Offer) (width : ℕ)
    → k < length offers → ((i : Name × ℕ) → slice_get named k ≡ Some i → i.1 ≡ width) → offer.word < 2 ^ width
    → ((j : ℕ) (i : Name × ℕ) → j < k → slice_get named j ≡ Some i → (get_or offers j nothing).word < 2 ^ i.1)
    → (j : ℕ) (i : Name × ℕ) → j < k + 1 → slice_get named j ≡ Some i → (get_or (set offers k offer) j nothing).word < 2 ^ i.1
words_more named offers k offer width lt is fits below j i less e = ⊎_elim
    (λ q.
    let w : i.1 ≡ width = is i (ap (slice_get named) (sym q) ∙ e) in
    let here : get_or (set offers k offer) j nothing ≡ offer = ap (λ n. get_or (set offers k offer) n nothing) q ∙ get_or-set_same offers k offer nothing lt in
    subst (λ (o : Offer). o.word < 2 ^ i.1) (sym here) (subst (λ n. offer.word < 2 ^ n) (sym w) fits))
    (λ n. subst (λ (o : Offer). o.word < 2 ^ i.1) (sym (get_or-set_other offers k j offer nothing n)) (below j i (omega arith) e))
    (cases_eq j k)

-- where an input has no word left, none waits
no_word : (o : Option Word) (ws : List ℕ) → [] ≡ with_waiting o ws → o ≡ None
no_word None ws e = refl
no_word (Some w) ws e = absurd (cc)

none_left : (held : Held) (f : InputFile) (i : Input) → IsSome held → IsAt held f [] i → i.waiting ≡ None
none_left held f i told at = ⊎_elim
    (λ (found : (file : List ℕ) × Holds held f.name file). no_word i.waiting (words_behind f.width found.0 i) (at.within found.0 found.1).left_is)
    (λ lacks. (at.lacking lacks).none_waits)
    (found_or_lacking held f.name told)

-- the inputs before one, which were looked at, can read on
pub earlier_read :
    (held : Held) (stalled : List Bool) (fs : List InputFile) (lefts : List (List ℕ)) (now : List Input) (offers : List Offer) (n : ℕ)
    → IsSome held → AreAt held fs lefts now → AreReady held stalled fs lefts now offers n
    → (j : ℕ) → j < n → get_or stalled j false ≡ false → slice_get lefts j ≡ Some [] → option_and_then fault_behind (slice_get fs j) ≡ None
earlier_read held stalled fs lefts now offers n told are ready j lt free empty =
    let within = slice_get_within lefts j [] empty in
    let f = item_in fs j (omega (arith, are.files, are.lists)) in
    let i = item_in now j (omega (arith, are.lists)) in
    let none = none_left held f.0 i.0 told (are.each j f.0 [] i.0 f.1 empty i.1) in
    ap (option_and_then fault_behind) f.1 ∙ ((ready j f.0 [] i.0 lt f.1 empty i.1).looked told free none).at_end

pub first_stop :
    (held : Held) (counted : Type 0) (stalled : List Bool) (fs : List InputFile) (lefts : List (List ℕ)) (now : List Input) (offers : List Offer) (k : ℕ) (x : Input) (stop : Stop)
    → slice_get now k ≡ Some x → get_or stalled k false ≡ false
    → ((f : InputFile) (left : List ℕ) → IsAt held f left x → Stops held counted f left stop)
    → AreAt held fs lefts now → AreReady held stalled fs lefts now offers k
    → IsFirstStop held counted stalled fs lefts stop
first_stop held counted stalled fs lefts now offers k x stop at free stops are ready =
    let within = slice_get_within now k x at in
    let f = item_in fs k (omega (arith, are.files)) in
    let l = item_in lefts k (omega (arith, are.lists)) in
    record {
      input = k;
      file = f.0;
      left = l.0;
      is = f.1;
      has = l.1;
      free = free;
      stops = stops f.0 l.0 (are.each k f.0 l.0 x f.1 l.1 at);
      earlier = λ told. earlier_read held stalled fs lefts now offers k told are ready;
    }
