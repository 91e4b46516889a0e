-- An edge more of a run that goes on.
use Rattle.std.proofs.Common.{◌≡◌, ℕ, zero, suc, ◌+◌, Bool, true, false, ◌&&◌, cond, List, [], ◌∷◌, ◌++◌, length, map, drop, get_or, Option, Some, None, refl, sym, ap, ◌∙◌, subst, arith}
use Rattle.std.specs.Prelude.{IsSome, slice_get, nat_eq}
use Rattle.std.proofs.lemmas.Bool.{false≢true}
use Rattle.std.proofs.lemmas.Bool.Decides.{nat_tests}
use Rattle.std.proofs.lemmas.List.{length-map, map-append, get_or_append_left, get_or-append-add, get_or-drop}
use Rattle.std.proofs.lemmas.Option.{slice_get_within, get_or_from_slice_get}
use Rattle.mx_base.specs.Files.{Name, Held, file_of}
use Rattle.mx_bits.specs.declared.word.Word.{Word}
use Rattle.rtl_ir.specs.Value.{Family, bit}
use Rattle.rtl_ir.specs.Run.{Channel, Same, moves, left_of}
use Rattle.verilog_sim.specs.declared.offer.Offer.{Offer}
use Rattle.verilog_sim.specs.declared.offer.Event.{Event as Seen}
use Rattle.verilog_sim.specs.Calls.{nothing, event_of}
use Rattle.word_files.specs.declared.reader.WordReader.{WordReader}
use Rattle.word_files.specs.WordFiles.{Follows, IsUnread}
use Rattle.word_files.specs.Lines.{lines_of}
use Rattle.simulation.specs.Inputs.{InputFile, words_in}
use Rattle.simulation.specs.Outputs.{ChangesOnlyOutputs}
use Rattle.simulation.specs.Inward.{input_of, with_waiting, words_behind, IsWithin, IsAt, AreAt, IsReady, AreReady, offer_of, unmoved, IsTaken, AreTaken}
use Rattle.simulation.specs.Outward.{IsPut, ArePut, with_moved, all_with_moved, moved_at, all_moved}
use Rattle.simulation.specs.Benches.{AreOther}
use Rattle.simulation.specs.declared.input.Input.{Input}
use Rattle.simulation.specs.declared.output.Output.{Output}
use Rattle.simulation.proofs.Lists.{item_in, map_at}
use Rattle.simulation.proofs.Snoc.{moved_snoc}

-- ---- the words that are left
left_length : (chs : List Channel) (lefts : List (List ℕ)) (v : Family) → length (left_of chs lefts v) ≡ length lefts
left_length [] lefts v = refl
left_length (ch ∷ chs) [] v = refl
left_length (ch ∷ chs) (ws ∷ lefts) v = let r = left_length chs lefts v in omega (arith, r)

left_at : (chs : List Channel) (lefts : List (List ℕ)) (v : Family) (k : ℕ) (ch : Channel)
    (ws : List ℕ) → slice_get chs k ≡ Some ch → slice_get lefts k ≡ Some ws
    → slice_get (left_of chs lefts v) k ≡ Some (cond (moves ch v) (drop 1 ws) ws)
left_at [] lefts v k ch ws e f = absurd (cc)
left_at (c ∷ chs) [] v k ch ws e f = absurd (cc)
left_at (c ∷ chs) (x ∷ lefts) v zero ch ws e f = let p : c ≡ ch = cc in let q : x
    ≡ ws = cc in ap (λ (d : Channel). Some (cond (moves d v) (drop 1 x) x)) p ∙ ap
    (λ l. Some (cond (moves ch v) (drop 1 l) l)) q
left_at (c ∷ chs) (x ∷ lefts) v (suc k) ch ws e f = left_at chs lefts v k ch ws e f

-- ---- what is seen of the streams
seen_input : (v : Family) (ins outs : List Channel) (events : List Seen) (k : ℕ) (ch : Channel)
    → events ≡ map (event_of v) (ins ++ outs) → slice_get ins k ≡ Some ch
    → get_or events k unmoved ≡ event_of v ch
seen_input v ins outs events k ch is at =
    let lt = slice_get_within ins k ch at in
    ap (λ (l : List Seen). get_or l k unmoved) (is ∙ map-append (event_of v) ins outs)
    ∙ get_or_append_left (map (event_of v) ins) (map (event_of v) outs) unmoved k (omega (arith, length-map ins (event_of v)))
    ∙ get_or_from_slice_get (map (event_of v) ins) k (event_of v ch) unmoved (map_at (event_of v) ins k ch at)

pub seen_output : (v : Family) (ins outs : List Channel) (events : List Seen) (k : ℕ)
    (ch : Channel) → events ≡ map (event_of v) (ins ++ outs) → slice_get outs k ≡ Some ch
    → get_or (drop (length ins) events) k unmoved ≡ event_of v ch
seen_output v ins outs events k ch is at =
    get_or-drop (length ins) events k unmoved
    ∙ ap (λ (l : List Seen). get_or l (length ins + k) unmoved) (is ∙ map-append (event_of v) ins outs)
    ∙ ap (λ n. get_or (map (event_of v) ins ++ map (event_of v) outs) (n + k) unmoved) (sym (length-map ins (event_of v)))
    ∙ get_or-append-add (map (event_of v) ins) (map (event_of v) outs) k unmoved
    ∙ get_or_from_slice_get (map (event_of v) outs) k (event_of v ch) unmoved (map_at (event_of v) outs k ch at)

-- ---- an input whose word was taken
same_within : (f : InputFile) (file left later : List ℕ) (i j : Input) → j.reader ≡ i.reader
    → later ≡ with_waiting j.waiting (words_behind f.width file i) → IsWithin f file left i
    → IsWithin f file later j
same_within f file left later i j reader is w =
    let behind : words_behind f.width file j ≡ words_behind f.width file i = ap (λ (r : WordReader). words_in f.width (drop r.lines (lines_of file))) reader in
    record {
      follows = subst (Follows file) (sym reader) w.follows;
      lines = w.lines;
      count = w.count ∙ ap (λ (r : WordReader). r.lines + length (words_in f.width (drop r.lines (lines_of file)))) (sym reader);
      left_is = is ∙ ap (with_waiting j.waiting) (sym behind);
    }

moved_valid : (ch : Channel) (v : Family) → moves ch v ≡ true → v ch.valid ≡ 1
moved_valid ch v m = by (nat_eq (v ch.valid) 1) refl
  where
    by : (b : Bool) → nat_eq (v ch.valid) 1 ≡ b → v ch.valid ≡ 1
    by true e = grind (arith, nat_tests, e)
    by false e = absurd (false≢true (sym (ap (λ b. b && nat_eq (v ch.ready) 1) e) ∙ m))

valid_waits : (stalled : Bool) (w : Option Word) (o : Offer) → o ≡ cond stalled nothing (offer_of w) → bit o.valid ≡ 1 → (x : Word) × (w ≡ Some x)
valid_waits true w o e v = absurd (let z : bit false ≡ 1 = sym (ap (λ (x : Offer). bit x.valid) e) ∙ v in omega (arith, z))
valid_waits false None o e v = absurd (let z : bit false ≡ 1 = sym (ap (λ (x : Offer). bit x.valid) e) ∙ v in omega (arith, z))
valid_waits false (Some x) o e v = (x, refl)

module _ (held : Held) (f : InputFile) (left : List ℕ) (i j : Input) (told : IsSome held) (at : IsAt held f left i) where
  not_taken : IsTaken false i j → IsAt held f left j
  not_taken t =
      record {
        name = ap (λ (r : WordReader). r.name) t.reader ∙ at.name;
        width = ap (λ (r : WordReader). r.width) t.reader ∙ at.width;
        unrefused = ap (λ (r : WordReader). r.refusal) t.reader ∙ at.unrefused;
        within = λ file holds. same_within f file left left i j t.reader
            ((at.within file holds).left_is ∙ ap (λ w. with_waiting w
            (words_behind f.width file i)) (sym t.waiting)) (at.within file holds);
        lacking = λ lacks. (let l = at.lacking lacks in record { lines = l.lines; none_left = l.none_left; none_waits = t.waiting ∙ l.none_waits; unread = subst IsUnread (sym t.reader) l.unread });
      }

  taken : IsTaken true i j → (x : Word) → i.waiting ≡ Some x → IsAt held f (drop 1 left) j
  taken t x waits =
      record {
        name = ap (λ (r : WordReader). r.name) t.reader ∙ at.name;
        width = ap (λ (r : WordReader). r.width) t.reader ∙ at.width;
        unrefused = ap (λ (r : WordReader). r.refusal) t.reader ∙ at.unrefused;
        within = λ file holds. (
            let is : left ≡ x.bits ∷ words_behind f.width file i = (at.within file holds).left_is ∙ ap (λ w. with_waiting w (words_behind f.width file i)) waits in
            same_within f file left (drop 1 left) i j t.reader (ap (drop 1) is ∙ ap (λ w. with_waiting w (words_behind f.width file i)) (sym t.waiting)) (at.within file holds));
        lacking = λ lacks. absurd (let n = (at.lacking lacks).none_waits in cc);
      }

  moved_on : (stalled : Bool) (o : Offer) (ch : Channel) (v : Family) (moves_is : Bool)
      → moves ch v ≡ moves_is → IsReady held stalled f left i o → v ch.valid ≡ bit o.valid
      → IsTaken moves_is i j → IsAt held f (cond moves_is (drop 1 left) left) j
  moved_on stalled o ch v true m r valid t =
      let w = valid_waits stalled i.waiting o r.offer_is (sym valid ∙ moved_valid ch v m) in
      taken t w.0 w.1
  moved_on stalled o ch v false m r valid t = not_taken t

valid_at : (chs : List Channel) (offers : List Offer) (v : Family) (k : ℕ) (ch : Channel)
    → Same (map (λ (c : Channel). c.valid) chs) (map (λ (x : Offer). bit x.valid) offers) v
    → slice_get chs k ≡ Some ch → v ch.valid ≡ bit (get_or offers k nothing).valid
valid_at [] offers v k ch s e = absurd (cc)
valid_at (c ∷ chs) [] v k ch s e = absurd s
valid_at (c ∷ chs) (o ∷ offers) v zero ch s e = let q : c ≡ ch = cc in ap (λ (d : Channel). v d.valid) (sym q) ∙ s.0
valid_at (c ∷ chs) (o ∷ offers) v (suc k) ch s e = valid_at chs offers v k ch s.1 e

-- the inputs after the edge
pub inputs_after :
    (held : Held) (fs : List InputFile) (lefts : List (List ℕ)) (is js : List Input) (stalled : List Bool) (offers : List Offer) (events : List Seen) (ins outs : List Channel) (v : Family)
    → IsSome held → AreAt held fs lefts is → AreReady held stalled fs lefts is offers (length is) → AreTaken events is js (length is)
    → length js ≡ length is → length is ≡ length ins → events ≡ map (event_of v) (ins ++ outs)
    → Same (map (λ (c : Channel). c.valid) ins) (map (λ (x : Offer). bit x.valid) offers) v
    → AreAt held fs (left_of ins lefts v) js
inputs_after held fs lefts is js stalled offers events ins outs v told at ready takes size inputs seen valid =
    record {
      files = at.files ∙ sym size;
      lists = left_length ins lefts v ∙ at.lists ∙ sym size;
      each = λ k f left j ef el ej. (
          let lt = slice_get_within js k j ej in
          let i = item_in is k (omega arith) in
          let ch = item_in ins k (omega arith) in
          let ws = item_in lefts k (omega (arith, at.lists)) in
          let here = at.each k f ws.0 i.0 ef ws.1 i.1 in
          let same : left ≡ cond (moves ch.0 v) (drop 1 ws.0) ws.0 = (let q = left_at ins lefts v k ch.0 ws.0 ch.1 ws.1 in cc) in
          let t : IsTaken (moves ch.0 v) i.0 j = subst (λ (e : Seen). IsTaken e.moved i.0 j) (seen_input v ins outs events k ch.0 seen ch.1) (takes k i.0 j (slice_get_within is k i.0 i.1) i.1 ej) in
          subst (λ l. IsAt held f l j) (sym same)
          (moved_on held f ws.0 i.0 j told here (get_or stalled k false)
          (get_or offers k nothing) ch.0 v (moves ch.0 v) refl
          (ready k f ws.0 i.0 (slice_get_within is k i.0 i.1) ef ws.1 i.1)
          (valid_at ins offers v k ch.0 valid ch.1) t));
    }

-- ---- files that don't change
at_stays : (held later : Held) (f : InputFile) (left : List ℕ) (i : Input) → file_of later f.name ≡ file_of held f.name → IsAt held f left i → IsAt later f left i
at_stays held later f left i same at =
    record { name = at.name; width = at.width; unrefused = at.unrefused; within = λ file holds. at.within file (sym same ∙ holds); lacking = λ lacks. at.lacking (sym same ∙ lacks) }

pub are_at_stays : (held later : Held) (fs : List InputFile) (lefts : List (List ℕ))
    (is : List Input) (named : List (Name × ℕ)) → ChangesOnlyOutputs named held later
    → AreOther (map input_of is) named → AreAt held fs lefts is → AreAt later fs lefts is
are_at_stays held later fs lefts is named only other at =
    record {
      files = at.files;
      lists = at.lists;
      each = λ k f left i ef el ei. (
          let here = at.each k f left i ef el ei in
          at_stays held later f left i (only.others f.name (λ j o eo. λ same. other k j (input_of i) o (map_at input_of is k i ei) eo (here.name ∙ same))) here);
    }

-- ---- the words that left
pub outputs_after :
    (held later : Held) (chs : List Channel) (vs : List Family) (v : Family) (events : List Seen) (os : List Output)
    → length os ≡ length chs → ((k : ℕ) (ch : Channel) → slice_get chs k ≡ Some ch → get_or events k unmoved ≡ event_of v ch)
    → ArePut later (all_with_moved (all_moved chs vs) events) os → ArePut later (all_moved chs (vs ++ v ∷ [])) os
outputs_after held later chs vs v events os size seen put = λ k o e.
    let ch = item_in chs k (let w = slice_get_within os k o e in omega arith) in
    let same : all_with_moved (all_moved chs vs) events k ≡ all_moved chs (vs ++ v ∷ []) k =
    ap (λ (s : Seen). with_moved (moved_at (slice_get chs k) vs) s) (seen k ch.0 ch.1)
    ∙ ap (λ (c : Option Channel). with_moved (moved_at c vs) (event_of v ch.0)) ch.1
    ∙ sym (moved_snoc ch.0 vs v) ∙ ap (λ (c : Option Channel). moved_at c (vs ++ v ∷ [])) (sym ch.1) in
    subst (λ ws. IsPut later ws o) same (put k o e)
