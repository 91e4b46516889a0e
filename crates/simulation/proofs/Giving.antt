-- What is given to an edge, as a run sees it.
use Rattle.std.proofs.Common.{◌≡◌, ◌⊎◌, ℕ, suc, ◌+◌, ◌<◌, Bool, true, false, not, cond, List, [], ◌∷◌, length, map, get_or, Option, Some, None, inl, inr, refl, sym, ap, ◌∙◌, subst, arith}
use Rattle.std.specs.Prelude.{IsSome, slice_get}
use Rattle.std.proofs.lemmas.Bool.{false≢true}
use Rattle.std.proofs.lemmas.Option.{slice_get_within}
use Rattle.mx_base.specs.Files.{Held, Holds, Lacks}
use Rattle.mx_bits.specs.declared.word.Word.{Word}
use Rattle.rtl_ir.specs.Value.{Family, bit}
use Rattle.rtl_ir.specs.Run.{Channel, Outer, Event, Same, Offered, OfferedAll, AcceptedAll, HeldAll, AllZero, NoneOffered, NoneAccepted, IsReset, Under}
use Rattle.stall_source.specs.Stalls.{Answers}
use Rattle.verilog_sim.specs.declared.offer.Offer.{Offer}
use Rattle.verilog_sim.specs.Calls.{Given, nothing}
use Rattle.simulation.specs.Inputs.{InputFile}
use Rattle.simulation.specs.Asked.{IsAsked}
use Rattle.simulation.specs.Runs.{IdleAtZero, IsIdle}
use Rattle.simulation.specs.Inward.{with_waiting, words_behind, IsAt, AreAt, IsReady, AreReady, offer_of}
use Rattle.simulation.specs.declared.input.Input.{Input}
use Rattle.simulation.proofs.Lists.{item_in}
use Rattle.simulation.proofs.Reading.{found_or_lacking}

-- ---- nothing is given
same_length : (ns xs : List ℕ) (v : Family) → Same ns xs v → length ns ≡ length xs
same_length [] [] v s = refl
same_length [] (x ∷ xs) v s = absurd s
same_length (n ∷ ns) [] v s = absurd s
same_length (n ∷ ns) (x ∷ xs) v s = let r = same_length ns xs v s.1 in omega (arith, r)

none_held : (ns : List ℕ) {A : Type 0} (xs : List A) (v : Family) → Same ns (map bit (map (λ x. false) xs)) v → AllZero ns v
none_held [] xs v s = tt
none_held (n ∷ ns) [] v s = absurd s
none_held (n ∷ ns) (x ∷ xs) v s = (s.0, none_held ns xs v s.1)

none_offered : (chs : List Channel) {A : Type 0} (xs : List A) (v : Family) → Same (map (λ (c : Channel). c.valid) chs) (map (λ (x : Offer). bit x.valid) (map (λ c. nothing) xs)) v → NoneOffered chs v
none_offered [] xs v s = tt
none_offered (ch ∷ chs) [] v s = absurd s
none_offered (ch ∷ chs) (x ∷ xs) v s = (s.0, none_offered chs xs v s.1)

no_words : (chs : List Channel) {A : Type 0} (xs : List A) (v : Family) → Same (map (λ (c : Channel). c.word) chs) (map (λ (x : Offer). x.word) (map (λ c. nothing) xs)) v → IdleAtZero chs v
no_words [] xs v s = tt
no_words (ch ∷ chs) [] v s = absurd s
no_words (ch ∷ chs) (x ∷ xs) v s = (λ _. s.0, no_words chs xs v s.1)

none_accepted : (chs : List Channel) {A : Type 0} (xs : List A) (v : Family) → Same (map (λ (c : Channel). c.ready) chs) (map bit (map (λ c. false) xs)) v → NoneAccepted chs v
none_accepted [] xs v s = tt
none_accepted (ch ∷ chs) [] v s = absurd s
none_accepted (ch ∷ chs) (x ∷ xs) v s = (s.0, none_accepted chs xs v s.1)

-- an outer with nothing given, with reset or without
abbrev pub GivenAlone : Outer → Bool → List ℕ → Family → Type 0
GivenAlone o reset steady v = Given o reset steady (map (λ c. nothing) o.inputs) (map (λ c. false) o.outputs) (map (λ n. false) o.holds) v

pub reset_of : (o : Outer) (steady : List ℕ) (v : Family) → GivenAlone o true steady v → IsReset o steady v
reset_of o steady v g =
    record {
      clock = g.clock;
      reset = g.restarts;
      steadily = g.steadily;
      not_held = none_held o.holds o.holds v g.held;
      none_offered = none_offered o.inputs o.inputs v g.valid;
      none_accepted = none_accepted o.outputs o.outputs v g.accepted;
    }

pub idle_alone : (o : Outer) (reset : Bool) (steady : List ℕ) (v : Family) → GivenAlone o reset steady v → IdleAtZero o.inputs v
idle_alone o reset steady v g = no_words o.inputs o.inputs v g.words

pub idle_of : (o : Outer) (steady : List ℕ) (v : Family) → GivenAlone o false steady v → IsIdle o steady v
idle_of o steady v g =
    record {
      clock = g.clock;
      reset = g.restarts;
      steadily = g.steadily;
      not_held = none_held o.holds o.holds v g.held;
      none_offered = none_offered o.inputs o.inputs v g.valid;
      words = no_words o.inputs o.inputs v g.words;
      none_accepted = none_accepted o.outputs o.outputs v g.accepted;
    }

-- ---- what a pattern says of the ports, from which the event of an edge is made
abbrev pub event_from : List Bool → ℕ → ℕ → Event
event_from stalled ins outs = record {
  offers = λ k. not (get_or stalled k false);
  accepts = λ k. not (get_or stalled (ins + k) false);
  held = λ k. get_or stalled (ins + outs + k) false;
}

not_not : (b : Bool) → not (not b) ≡ b
not_not true = refl
not_not false = refl

pub asked_from :
    (stalls : Answers) (pick edge : ℕ) (o : Outer) (stalled : List Bool)
    → length stalled ≡ length o.inputs + length o.outputs + length o.holds
    → ((port : ℕ) → port < length stalled → stalls pick edge port (get_or stalled port false))
    → IsAsked stalls pick edge o (event_from stalled (length o.inputs) (length o.outputs))
asked_from stalls pick edge o stalled size asked =
    record {
      offers = λ k lt. subst (stalls pick edge k) (sym (not_not (get_or stalled k false))) (asked k (omega arith));
      accepts = λ k lt. subst (stalls pick edge (length o.inputs + k)) (sym (not_not (get_or stalled (length o.inputs + k) false))) (asked (length o.inputs + k) (omega arith));
      held = λ k lt. asked (length o.inputs + length o.outputs + k) (omega arith);
    }

held_from : (e : Event) (ns : List ℕ) (bs : List Bool) (k : ℕ) (v : Family) → Same ns (map bit bs) v → ((j : ℕ) → j < length bs → get_or bs j false ≡ e.held (k + j)) → HeldAll e k ns v
held_from e [] bs k v s h = tt
held_from e (n ∷ ns) [] k v s h = absurd s
held_from e (n ∷ ns) (b ∷ bs) k v s h =
    (s.0 ∙ ap bit (h 0 (omega arith) ∙ ap e.held (omega arith)), held_from e ns bs (k + 1) v s.1 (λ j lt. h (suc j) (omega arith) ∙ ap e.held (omega arith)))

accepted_from : (e : Event) (chs : List Channel) (bs : List Bool) (k : ℕ) (v : Family)
    → Same (map (λ (c : Channel). c.ready) chs) (map bit bs) v
    → ((j : ℕ) → j < length bs → get_or bs j false ≡ e.accepts (k + j)) → AcceptedAll e k chs v
accepted_from e [] bs k v s h = tt
accepted_from e (ch ∷ chs) [] k v s h = absurd s
accepted_from e (ch ∷ chs) (b ∷ bs) k v s h =
    (s.0 ∙ ap bit (h 0 (omega arith) ∙ ap e.accepts (omega arith)), accepted_from e chs bs (k + 1) v s.1 (λ j lt. h (suc j) (omega arith) ∙ ap e.accepts (omega arith)))

-- what is offered of the words that are left
abbrev pub IsOffered : Bool → List ℕ → Offer → Type 0
IsOffered true (w ∷ ws) o = (o.valid ≡ true) × (o.word ≡ w)
IsOffered true [] o = (o.valid ≡ false) × (o.word ≡ 0)
IsOffered false ws o = (o.valid ≡ false) × (o.word ≡ 0)

one_offered : (free : Bool) (ch : Channel) (ws : List ℕ) (o : Offer) (v : Family) → v ch.word ≡ o.word → v ch.valid ≡ bit o.valid → IsOffered free ws o → Offered free ch ws v
one_offered true ch (w ∷ ws) o v word valid is = (valid ∙ ap bit is.0, word ∙ is.1)
one_offered true ch [] o v word valid is = valid ∙ ap bit is.0
one_offered false ch ws o v word valid is = valid ∙ ap bit is.0

offered_from :
    (e : Event) (chs : List Channel) (lefts : List (List ℕ)) (offers : List Offer) (k : ℕ) (v : Family)
    → Same (map (λ (c : Channel). c.word) chs) (map (λ (x : Offer). x.word) offers) v
    → Same (map (λ (c : Channel). c.valid) chs) (map (λ (x : Offer). bit x.valid) offers) v
    → length lefts ≡ length chs
    → ((j : ℕ) (ws : List ℕ) → slice_get lefts j ≡ Some ws → IsOffered (e.offers (k + j)) ws (get_or offers j nothing))
    → OfferedAll e k chs lefts v
offered_from e [] [] offers k v word valid size is = tt
offered_from e [] (ws ∷ lefts) offers k v word valid size is = absurd (omega (arith, size))
offered_from e (ch ∷ chs) [] offers k v word valid size is = absurd (omega (arith, size))
offered_from e (ch ∷ chs) (ws ∷ lefts) [] k v word valid size is = absurd word
offered_from e (ch ∷ chs) (ws ∷ lefts) (o ∷ offers) k v word valid size is = (
  one_offered (e.offers k) ch ws o v word.0 valid.0 (subst (λ b. IsOffered b ws o) (ap e.offers (omega arith)) (is 0 ws refl)),
  offered_from e chs lefts offers (k + 1) v word.1 valid.1 (omega (arith, size)) (λ j xs at. subst (λ b. IsOffered b xs (get_or offers j nothing)) (ap e.offers (omega arith)) (is (suc j) xs at)),
)

not_valid : (b : Bool) → bit b ≡ 0 → b ≡ false
not_valid true e = absurd (omega (arith, e))
not_valid false e = refl

idle_from :
    (chs : List Channel) (offers : List Offer) (v : Family)
    → Same (map (λ (c : Channel). c.word) chs) (map (λ (x : Offer). x.word) offers) v
    → Same (map (λ (c : Channel). c.valid) chs) (map (λ (x : Offer). bit x.valid) offers) v
    → ((j : ℕ) → j < length offers → (get_or offers j nothing).valid ≡ false → (get_or offers j nothing).word ≡ 0)
    → IdleAtZero chs v
idle_from [] offers v word valid is = tt
idle_from (ch ∷ chs) [] v word valid is = absurd word
idle_from (ch ∷ chs) (o ∷ offers) v word valid is =
    (λ z. word.0 ∙ is 0 (omega arith) (not_valid o.valid (sym valid.0 ∙ z)), idle_from chs offers v word.1 valid.1 (λ j lt. is (suc j) (omega arith)))

-- ---- an input that was looked at
-- the word that waits is the first that is left
pub waiting_first : (held : Held) (f : InputFile) (left : List ℕ) (i : Input) → IsSome held → IsAt held f left i → (w : Word) → i.waiting ≡ Some w → (rest : List ℕ) × (left ≡ w.bits ∷ rest)
waiting_first held f left i told at w waits = by (found_or_lacking held f.name told)
  where
    by : ((file : List ℕ) × Holds held f.name file) ⊎ Lacks held f.name → (rest : List ℕ) × (left ≡ w.bits ∷ rest)
    by (inl found) = (words_behind f.width found.0 i, (at.within found.0 found.1).left_is ∙ ap (λ o. with_waiting o (words_behind f.width found.0 i)) waits)
    by (inr lacks) = absurd (let n = (at.lacking lacks).none_waits in cc)

pub offered_at : (held : Held) (stalled : Bool) (f : InputFile) (left : List ℕ) (i : Input)
    (o : Offer) → IsSome held → IsAt held f left i → IsReady held stalled f left i o
    → IsOffered (not stalled) left o
offered_at held true f left i o told at r = (ap (λ (x : Offer). x.valid) r.offer_is, ap (λ (x : Offer). x.word) r.offer_is)
offered_at held false f left i o told at r = by i.waiting refl
  where
    by : (w : Option Word) → i.waiting ≡ w → IsOffered true left o
    by None none =
        let e : o ≡ nothing = r.offer_is ∙ ap offer_of none in
        subst (λ ws. IsOffered true ws o) (sym (r.looked told refl none).none_left) (ap (λ (x : Offer). x.valid) e, ap (λ (x : Offer). x.word) e)
    by (Some w) waits =
        let e : o ≡ record { valid = true; word = w.bits } = r.offer_is ∙ ap offer_of waits in
        let first = waiting_first held f left i told at w waits in
        subst (λ ws. IsOffered true ws o) (sym first.1) (ap (λ (x : Offer). x.valid) e, ap (λ (x : Offer). x.word) e)

-- no word stands where nothing is valid
zero_word : (stalled : Bool) (w : Option Word) (o : Offer) → o ≡ cond stalled nothing (offer_of w) → o.valid ≡ false → o.word ≡ 0
zero_word true w o e v = ap (λ (x : Offer). x.word) e
zero_word false None o e v = ap (λ (x : Offer). x.word) e
zero_word false (Some w) o e v = absurd (false≢true (sym v ∙ ap (λ (x : Offer). x.valid) e))

-- ---- an edge of a run
module _
    (held : Held) (o : Outer) (steady : List ℕ) (fs : List InputFile) (lefts : List (List ℕ)) (is : List Input)
    (stalled : List Bool) (offers : List Offer) (accepts holds : List Bool) (v : Family)
    (told : IsSome held) (at : AreAt held fs lefts is) (ready : AreReady held stalled fs lefts is offers (length is))
    (inputs : length is ≡ length o.inputs) (given : Given o false steady offers accepts holds v)
    (offered : length offers ≡ length o.inputs)
  where
    pub under_from :
        ((k : ℕ) → k < length accepts → get_or accepts k false ≡ not (get_or stalled (length o.inputs + k) false))
        → ((k : ℕ) → get_or holds k false ≡ get_or stalled (length o.inputs + length o.outputs + k) false)
        → Under o steady lefts (event_from stalled (length o.inputs) (length o.outputs)) v
    under_from accept hold =
        record {
          clock = given.clock;
          reset = given.restarts;
          steadily = given.steadily;
          held = held_from (event_from stalled (length o.inputs)
              (length o.outputs)) o.holds holds 0 v given.held
              (λ j lt. hold j ∙ ap (λ n. get_or stalled
              (length o.inputs + length o.outputs + n) false) (omega arith));
          offered = offered_from (event_from stalled (length o.inputs) (length o.outputs)) o.inputs lefts offers 0 v given.words given.valid (omega (arith, at.lists)) (λ j ws e. (
              let within = slice_get_within lefts j ws e in
              let f = item_in fs j (omega (arith, at.files, at.lists)) in
              let i = item_in is j (omega (arith, at.lists)) in
              let here = offered_at held (get_or stalled j false) f.0 ws i.0
              (get_or offers j nothing) told (at.each j f.0 ws i.0 f.1 e i.1)
              (ready j f.0 ws i.0 (slice_get_within is j i.0 i.1) f.1 e i.1) in
              subst (λ n. IsOffered (not (get_or stalled n false)) ws (get_or offers j nothing)) (omega arith) here));
          accepted = accepted_from (event_from stalled (length o.inputs)
              (length o.outputs)) o.outputs accepts 0 v given.accepted
              (λ j lt. accept j lt ∙ ap (λ n. not (get_or stalled (length o.inputs + n) false))
              (omega arith));
        }

    pub idle_at_zero : IdleAtZero o.inputs v
    idle_at_zero =
        idle_from o.inputs offers v given.words given.valid (λ j lt invalid. (
        let f = item_in fs j (omega (arith, at.files)) in
        let ws = item_in lefts j (omega (arith, at.lists)) in
        let i = item_in is j (omega arith) in
        let r = ready j f.0 ws.0 i.0 (slice_get_within is j i.0 i.1) f.1 ws.1 i.1 in
        zero_word (get_or stalled j false) i.0.waiting (get_or offers j nothing) r.offer_is invalid))
