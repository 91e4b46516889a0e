-- A run on its bench: an edge more, and how it ends.
use Rattle.std.proofs.Common.{◌≡◌, ℕ, ◌+◌, ◌<◌, ◌≤◌, Bool, true, false, not, cond, zero, suc, ◌&&◌}
use Rattle.std.proofs.Common.{List, [], ◌∷◌, ◌++◌, length, map, drop, take, get_or, Option, Some}
use Rattle.std.proofs.Common.{Result, Ok, Err, refl, sym, ap, ◌∙◌, subst, arith}
use Rattle.std.specs.Prelude.{IsSome, IfOk, IfErr, OnOk, slice_get, option_and_then, nat_eq}
use Rattle.std.proofs.lemmas.List.{length_push}
use Rattle.std.proofs.lemmas.Option.{slice_get_within}
use Rattle.mx_base.specs.Files.{Name, Held, Holds}
use Rattle.rtl_ir.specs.declared.design.Design.{Design}
use Rattle.rtl_ir.specs.declared.design.Module.{Module}
use Rattle.rtl_ir.specs.Value.{Family}
use Rattle.rtl_ir.specs.Flat.{AllContents, Families, FitsFlat, after_flat}
use Rattle.rtl_ir.specs.Parts.{own_of}
use Rattle.rtl_ir.specs.Run.{Channel, Outer, NoneAccepted, moved, left_of}
use Rattle.stall_source.specs.Stalls.{Answers}
use Rattle.verilog_sim.specs.declared.offer.Offer.{Offer}
use Rattle.verilog_sim.specs.declared.offer.Event.{Event as Seen}
use Rattle.verilog_sim.specs.State.{State, contents, last_family}
use Rattle.verilog_sim.specs.Calls.{Given, event_of, IsEdge, IsResetEdge, IsDone}
use Rattle.simulation.specs.Inputs.{InputFile, words_of, fault_behind}
use Rattle.simulation.specs.Inputs as lines
use Rattle.simulation.specs.Outputs.{lines_of_words, AreWritten, AreBegun, ChangesOnlyOutputs}
use Rattle.simulation.specs.Runs.{Setup, IsDoneAt, contents_after}
use Rattle.simulation.specs.Ends.{Done, Limit, Stopped, Ends, left_after}
use Rattle.simulation.specs.Ends.Ends.{done, limit, stopped}
use Rattle.simulation.specs.Answers.{Tells, Finishes, IsMissing}
use Rattle.simulation.specs.Inward.{input_of, AreAt, AreReady, AreTaken, IsFirstStop, IsFaulty}
use Rattle.simulation.specs.Outward.{output_of, IsPut, ArePut, AreWhole, all_with_moved, moved_at, all_moved}
use Rattle.simulation.specs.Benches.{IsOf, Begins, Going, AreOther}
use Rattle.simulation.specs.declared.input.Input.{Input}
use Rattle.simulation.specs.declared.output.Output.{Output}
use Rattle.simulation.specs.declared.stop.Outcome.{Outcome}
use Rattle.simulation.specs.declared.stop.Stop.{Stop}
use Rattle.simulation.specs.declared.stop.Stop.TheVariants as stops
use Rattle.simulation.proofs.Lists.{map_from}
use Rattle.simulation.proofs.Reading.{turned}
use Rattle.simulation.proofs.Looking.{earlier_read}
use Rattle.simulation.proofs.Giving.{GivenAlone, event_from, asked_from, under_from, idle_at_zero, reset_of, idle_alone, idle_of}
use Rattle.simulation.proofs.Snoc.{own_snoc, left_snoc, contents_snoc, run_more, run_none}
use Rattle.simulation.proofs.Stepping.{inputs_after, are_at_stays, outputs_after, seen_output}

-- ---- what the calls of the simulator say, in the words of the setup
fits_of : (s : Setup) (sim : State) (c : AllContents) (m : Module) (v : Families) → IsOf s sim → contents sim ≡ c → FitsFlat sim.design m (contents sim) v → FitsFlat s.design m c v
fits_of s sim c m v is e f = subst (λ (d : Design). FitsFlat d m c v) is.design (subst (λ (x : AllContents). FitsFlat sim.design m x v) e f)

after_of : (s : Setup) (sim later : State) (c : AllContents) (m : Module) (v : Families)
    → IsOf s sim → contents sim ≡ c → contents later ≡ after_flat sim.design m (contents sim) v
    → contents later ≡ after_flat s.design m c v
after_of s sim later c m v is e f = f ∙ ap (λ (x : AllContents). after_flat sim.design m x v) e ∙ ap (λ (d : Design). after_flat d m c v) is.design

given_of : (s : Setup) (sim : State) (reset : Bool) (offers : List Offer)
    (accepts holds : List Bool) (v : Family) → IsOf s sim
    → Given sim.outer reset sim.steady offers accepts holds v
    → Given s.outer reset s.steady offers accepts holds v
given_of s sim reset offers accepts holds v is g = subst
    (λ (x : List ℕ). Given s.outer reset x offers accepts holds v) is.steady
    (subst (λ (o : Outer). Given o reset sim.steady offers accepts holds v) is.outer g)

alone_of : (s : Setup) (sim : State) (reset : Bool) (v : Family) → IsOf s sim → GivenAlone sim.outer reset sim.steady v → GivenAlone s.outer reset s.steady v
alone_of s sim reset v is g = subst (λ (x : List ℕ). GivenAlone s.outer reset x v) is.steady (subst (λ (o : Outer). GivenAlone o reset sim.steady v) is.outer g)

pub done_of : (s : Setup) (sim : State) (c : AllContents) (answer : Bool) → IsOf s sim → contents sim ≡ c → IsDone s.top sim answer → IsDoneAt s c answer
done_of s sim c answer is e d =
    record {
      family = d.family;
      fits = fits_of s sim c s.top d.family is e d.settled.fits;
      idle = idle_of s.outer s.steady (d.family []) (alone_of s sim false (d.family []) is d.settled.given);
      answer_is = d.answer_is ∙ ap (λ (o : Outer). nat_eq (d.family [] o.done) 1) is.outer;
    }

-- ---- the reset edge
-- no word moves where none is accepted
unready : (a : Bool) (r : ℕ) (l : List ℕ) → r ≡ 0 → cond (a && nat_eq r 1) l [] ≡ []
unready true r l e = ap (λ n. cond (nat_eq n 1) l []) e
unready false r l e = refl

none_moved : (chs : List Channel) (v : Family) (k : ℕ) → NoneAccepted chs v → moved_at (slice_get chs k) (v ∷ []) ≡ []
none_moved [] v k n = refl
none_moved (ch ∷ chs) v zero n = unready (nat_eq (v ch.valid) 1) (v ch.ready) (v ch.word ∷ []) n.0
none_moved (ch ∷ chs) v (suc k) n = none_moved chs v k n.1

pub began :
    (stalls : Answers) (s : Setup) (held : Held) (sim later : State) (is : List Input) (os : List Output)
    → Begins s held sim is os → IsResetEdge s.top sim later → later ≡ record sim { parts = later.parts; last = later.last }
    → Going stalls s held later is os 0
began stalls s held sim later is os b r kept =
    let restart = last_family later in
    let given = alone_of s sim true (restart []) b.is r.settled.given in
    let reset = reset_of s.outer s.steady (restart []) given in
    record {
      restart = restart;
      vs = [];
      run = run_none stalls s restart (fits_of s sim s.contents s.top restart b.is b.held r.settled.fits) reset (idle_alone s.outer true s.steady (restart []) given);
      count = refl;
      is = record { design = ap (λ (x : State). x.design) kept ∙ b.is.design; outer = ap (λ (x : State). x.outer) kept ∙ b.is.outer; steady = ap (λ (x : State). x.steady) kept ∙ b.is.steady };
      held = after_of s sim later s.contents s.top restart b.is b.held r.after;
      at = b.at;
      put = λ k o e. subst (λ ws. IsPut held ws o) (sym (none_moved s.outer.outputs (restart []) k reset.none_accepted)) (b.put k o e);
    }

-- ---- an edge more
pub went :
    (stalls : Answers) (s : Setup) (held later : Held) (edge : ℕ) (sim next : State) (is js ks : List Input) (os ps : List Output)
    (stalled : List Bool) (offers : List Offer) (accepts holds : List Bool) (events : List Seen) (named : List (Name × ℕ))
    → IsSome held → (g : Going stalls s held sim is os edge) → IsDone s.top sim false
    → length js ≡ length sim.outer.inputs → length ks ≡ length js → length ps ≡ length sim.outer.outputs → length offers ≡ length sim.outer.inputs
    → length stalled ≡ length sim.outer.inputs + length sim.outer.outputs + length sim.outer.holds
    → ((port : ℕ) → port < length stalled → stalls s.pick edge port (get_or stalled port false))
    → AreAt held s.inputs (left_after s.outer.inputs (map words_of s.inputs) (own_of g.vs)) js
    → AreReady held stalled s.inputs (left_after s.outer.inputs (map words_of s.inputs) (own_of g.vs)) js offers (length js)
    → ((k : ℕ) → k < length accepts → get_or accepts k false ≡ not (get_or stalled (length sim.outer.inputs + k) false))
    → ((k : ℕ) → get_or holds k false ≡ get_or stalled (length sim.outer.inputs + length sim.outer.outputs + k) false)
    → IsEdge s.top offers accepts holds sim next events → next ≡ record sim { parts = next.parts; last = next.last }
    → AreTaken events js ks (length js)
    → ChangesOnlyOutputs named held later → AreOther (map input_of ks) named
    → ArePut later (all_with_moved (all_moved s.outer.outputs (own_of (g.restart ∷ g.vs))) (drop (length sim.outer.inputs) events)) ps
    → Going stalls s later next ks ps (edge + 1)
went stalls s held later edge sim next is js ks os ps stalled offers accepts holds events named
    told g not_done inputs takes outputs offered ports asked at ready accept hold r kept taken
    only other put =
    let c = contents_after s s.contents (g.restart ∷ g.vs) in
    let v = last_family next in
    let o = s.outer in
    let left = left_after o.inputs (map words_of s.inputs) (own_of g.vs) in
    let fits = fits_of s sim c s.top v g.is g.held r.settled.fits in
    let given = given_of s sim false offers accepts holds (v []) g.is r.settled.given in
    let ins : length sim.outer.inputs ≡ length o.inputs = ap (λ (x : Outer). length x.inputs) g.is.outer in
    let outs : length sim.outer.outputs ≡ length o.outputs = ap (λ (x : Outer). length x.outputs) g.is.outer in
    let sizes : length stalled ≡ length o.inputs + length o.outputs + length o.holds = ports ∙ ap (λ (x : Outer). length x.inputs + length x.outputs + length x.holds) g.is.outer in
    let seen : events ≡ map (event_of (v [])) (o.inputs ++ o.outputs) = r.events_are ∙ ap (λ (x : Outer). map (event_of (v [])) (x.inputs ++ x.outputs)) g.is.outer in
    let e = event_from stalled (length o.inputs) (length o.outputs) in
    let accept' : (k : ℕ) → k < length accepts → get_or accepts k false ≡ not (get_or stalled (length o.inputs + k) false) = λ k lt. accept k lt ∙ ap (λ n. not (get_or stalled (n + k) false)) ins in
    let hold' : (k : ℕ) → get_or holds k false ≡ get_or stalled
    (length o.inputs + length o.outputs + k) false = λ k. hold k ∙ ap
    (λ n. get_or stalled (n + length sim.outer.outputs + k) false) ins ∙ ap
    (λ n. get_or stalled (length o.inputs + n + k) false) outs in
    let under = under_from held o s.steady s.inputs left js stalled offers accepts holds (v []) told at ready (inputs ∙ ins) given (offered ∙ ins) accept' hold' in
    let idle = idle_at_zero held o s.steady s.inputs left js stalled offers accepts holds (v []) told at ready (inputs ∙ ins) given (offered ∙ ins) in
    record {
      restart = g.restart;
      vs = g.vs ++ v ∷ [];
      run = run_more stalls s g.restart g.vs g.run e v fits
          (asked_from stalls s.pick (length g.vs) o stalled sizes (λ port lt. subst (λ n. stalls s.pick n port (get_or stalled port false)) (sym g.count) (asked port lt)))
          under idle (done_of s sim c false g.is g.held not_done)
          (λ k looks. (
          let within = slice_get_within left k [] looks.1 in
          earlier_read held stalled s.inputs left js offers (length js) told at ready k (omega (arith, at.lists)) (turned true (get_or stalled k false) (sym looks.0)) looks.1));
      count = length_push g.vs v ∙ ap (λ n. n + 1) g.count;
      is = record { design = ap (λ (x : State). x.design) kept ∙ g.is.design; outer = ap (λ (x : State). x.outer) kept ∙ g.is.outer; steady = ap (λ (x : State). x.steady) kept ∙ g.is.steady };
      held = after_of s sim next c s.top v g.is g.held r.after ∙ sym (contents_snoc s s.contents (g.restart ∷ g.vs) v);
      at = subst (λ (l : List (List ℕ)). AreAt later s.inputs l ks)
          (sym (ap (left_after o.inputs (map words_of s.inputs))
          (own_snoc g.vs v) ∙ left_snoc o.inputs (map words_of s.inputs) (own_of g.vs) (v [])))
          (are_at_stays held later s.inputs (left_of o.inputs left (v [])) ks named only other
          (inputs_after held s.inputs left js ks stalled offers events o.inputs o.outputs (v []) told at ready taken takes (inputs ∙ ins) seen given.valid));
      put = subst (λ (l : List Family). ArePut later (all_moved o.outputs l) ps) (sym (own_snoc (g.restart ∷ g.vs) v))
          (outputs_after held later o.outputs (own_of (g.restart
          ∷ g.vs)) (v []) (drop (length o.inputs) events) ps (outputs ∙ outs)
          (λ k ch at. seen_output (v []) o.inputs o.outputs events k ch seen at)
          (subst (λ n. ArePut later (all_with_moved (all_moved o.outputs (own_of (g.restart ∷ g.vs))) (drop n events)) ps) ins put));
    }

-- ---- what the output files hold of the words that left
pub begun_of : (held : Held) (chs : List Channel) (vs : List Family) (os : List Output) → ArePut held (all_moved chs vs) os → AreBegun held vs chs (map output_of os)
begun_of held chs vs os put = λ k ch n e at.
    let o = map_from output_of os k n at in
    let p = put k o.0 o.1 in
    let words : all_moved chs vs k ≡ moved ch vs = ap (λ (c : Option Channel). moved_at c vs) e in
    let file : p.file ≡ lines_of_words n.1 (take p.count (moved ch vs)) = p.begun ∙ ap
    (λ ws. lines_of_words o.0.width (take p.count ws)) words ∙ ap (λ (x : Name
    × ℕ). lines_of_words x.1 (take p.count (moved ch vs))) o.2 in
    (p.count, subst (λ (x : Name). Holds held x (lines_of_words n.1 (take p.count (moved ch vs)))) (ap (λ (x : Name × ℕ). x.0) o.2) (subst (Holds held o.0.writer.name) file p.holds))

pub written_of : (held : Held) (chs : List Channel) (vs : List Family) (named : List (Name × ℕ)) → AreWhole held (all_moved chs vs) named → AreWritten held vs chs named
written_of held chs vs named whole = λ k ch n e at.
    subst (λ ws. Holds held n.0 (lines_of_words n.1 ws)) (ap (λ (c : Option Channel). moved_at c vs) e) (whole k n at)

-- ---- how a run ends
module _ (stalls : Answers) (s : Setup) (held : Held) (sim : State) (is : List Input) (os : List Output) (edge : ℕ) (g : Going stalls s held sim is os edge) where
  left : List (List ℕ)
  left = left_after s.outer.inputs (map words_of s.inputs) (own_of g.vs)

  -- an input that can't read on
  stops_at :
      (counted : Type 0) (stalled : List Bool) (stop : Stop) (fault : lines.LineFault)
      → IsSome held → edge < s.edges → IsDone s.top sim false
      → length stalled ≡ length s.outer.inputs + length s.outer.outputs + length s.outer.holds
      → ((port : ℕ) → port < length stalled → stalls s.pick edge port (get_or stalled port false))
      → (f : IsFirstStop held counted stalled s.inputs left stop) → IsFaulty f.file f.left fault
      → Ends stalls s g.restart g.vs (Stopped fault)
  unfolding left
  stops_at counted stalled stop fault told lt not_done ports asked f faulty =
      stopped fault g.run (let c = g.count in omega arith) (done_of s sim (contents_after s s.contents (g.restart ∷ g.vs)) false g.is g.held not_done)
      (record {
        event = event_from stalled (length s.outer.inputs) (length s.outer.outputs);
        asked = asked_from stalls s.pick (length g.vs) s.outer stalled ports (λ port lt. subst (λ n. stalls s.pick n port (get_or stalled port false)) (sym g.count) (asked port lt));
        input = f.input;
        looks = (ap not f.free, f.has ∙ ap (λ (l : List ℕ). Some l) faulty.none_left);
        is = ap (option_and_then fault_behind) f.is ∙ faulty.behind;
        earlier = λ j less looks. f.earlier told j less (turned true (get_or stalled j false) (sym looks.0)) looks.1;
      })

  pub tells_stop :
      (counted : Type 0) (stalled : List Bool) (stop : Stop)
      → IsSome held → edge < s.edges → IsDone s.top sim false
      → length stalled ≡ length s.outer.inputs + length s.outer.outputs + length s.outer.holds
      → ((port : ℕ) → port < length stalled → stalls s.pick edge port (get_or stalled port false))
      → IsFirstStop held counted stalled s.inputs (left_after s.outer.inputs (map words_of s.inputs) (own_of g.vs)) stop
      → Tells stalls s (map output_of os) held (Err stop)
  unfolding left
  tells_stop counted stalled (stops.TooManyCells n) told lt not_done ports asked f = tt
  tells_stop counted stalled (stops.BadLine file line) told lt not_done ports asked f =
      record {
        restart = g.restart;
        vs = g.vs;
        ends = stops_at counted stalled (stops.BadLine file line) (lines.BadLine file line) told lt not_done ports asked f (f.stops told);
        begun = begun_of held s.outer.outputs (own_of (g.restart ∷ g.vs)) os g.put;
      }
  tells_stop counted stalled (stops.WordRange file line) told lt not_done ports asked f =
      record {
        restart = g.restart;
        vs = g.vs;
        ends = stops_at counted stalled (stops.WordRange file line) (lines.WordRange file line) told lt not_done ports asked f (f.stops told);
        begun = begun_of held s.outer.outputs (own_of (g.restart ∷ g.vs)) os g.put;
      }
  tells_stop counted stalled stops.ReadFault told lt not_done ports asked f =
      record {
        restart = g.restart;
        vs = g.vs;
        run = g.run;
        within = (let c = g.count in omega arith);
        begun = begun_of held s.outer.outputs (own_of (g.restart ∷ g.vs)) os g.put;
      }
  tells_stop counted stalled stops.WriteFault told lt not_done ports asked f = tt
  tells_stop counted stalled stops.NoMemory told lt not_done ports asked f = tt

  pub missing_stop :
      (counted : Type 0) (stalled : List Bool)
      → IsSome held → edge < s.edges → IsDone s.top sim false
      → length stalled ≡ length s.outer.inputs + length s.outer.outputs + length s.outer.holds
      → ((port : ℕ) → port < length stalled → stalls s.pick edge port (get_or stalled port false))
      → (f : IsFirstStop held counted stalled s.inputs (left_after s.outer.inputs (map words_of s.inputs) (own_of g.vs)) stops.ReadFault)
      → IsFaulty f.file f.left lines.Missing
      → IsMissing stalls s
  unfolding left
  missing_stop counted stalled told lt not_done ports asked f faulty =
      record { restart = g.restart; vs = g.vs; ends = stops_at counted stalled stops.ReadFault lines.Missing told lt not_done ports asked f faulty }

  -- the port done, or the most edges
  pub ends_done : edge ≤ s.edges → IsDone s.top sim true → Ends stalls s g.restart g.vs (Done edge)
  ends_done le d = subst (λ n. Ends stalls s g.restart g.vs (Done n)) g.count
      (done g.run (let c = g.count in omega arith) (done_of s sim
      (contents_after s s.contents (g.restart ∷ g.vs)) true g.is g.held d))

  pub ends_limit : edge ≡ s.edges → IsDone s.top sim false → Ends stalls s g.restart g.vs (Limit edge)
  ends_limit same d = subst (λ n. Ends stalls s g.restart g.vs (Limit n)) g.count (limit g.run (g.count ∙ same) (done_of s sim (contents_after s s.contents (g.restart ∷ g.vs)) false g.is g.held d))

-- ---- the end of a run
pub ends_at :
    (stalls : Answers) (s : Setup) (held : Held) (sim : State) (is : List Input) (os : List Output) (edge : ℕ) (g : Going stalls s held sim is os edge) (answer : Bool)
    → edge ≤ s.edges → (answer ≡ false → edge ≡ s.edges) → IsDone s.top sim answer → Ends stalls s g.restart g.vs (cond answer (Done edge) (Limit edge))
ends_at stalls s held sim is os edge g true le same d = ends_done stalls s held sim is os edge g le d
ends_at stalls s held sim is os edge g false le same d = ends_limit stalls s held sim is os edge g (same refl) d

pub finishes :
    (stalls : Answers) (s : Setup) (held later : Held) (sim : State) (is : List Input) (os : List Output) (edge : ℕ) (named : List (Name × ℕ)) (g : Going stalls s held sim is os edge) (answer : Bool)
    → edge ≤ s.edges → (answer ≡ false → edge ≡ s.edges) → IsDone s.top sim answer
    → AreWhole later (all_moved s.outer.outputs (own_of (g.restart ∷ g.vs))) named
    → Finishes stalls s named later (cond answer (Done edge) (Limit edge))
finishes stalls s held later sim is os edge named g answer le same d whole =
    record { restart = g.restart; vs = g.vs; ends = ends_at stalls s held sim is os edge g answer le same d; written = written_of later s.outer.outputs (own_of (g.restart ∷ g.vs)) named whole }

pub tells_end :
    (stalls : Answers) (s : Setup) (named : List (Name × ℕ)) (later : Held) (r : Result Outcome Stop) (answer : Bool) (edges : ℕ)
    → IfOk r (λ o. (o.done ≡ answer) × (o.edges ≡ edges)) → IfErr r (λ e. e ≡ stops.WriteFault)
    → OnOk r (Finishes stalls s named later (cond answer (Done edges) (Limit edges)))
    → Tells stalls s named later r
tells_end stalls s named later (Ok o) answer edges is wrong f =
    subst (λ b. Finishes stalls s named later (cond b (Done o.edges) (Limit o.edges))) (sym is.0) (subst (λ n. Finishes stalls s named later (cond answer (Done n) (Limit n))) (sym is.1) f)
tells_end stalls s named later (Err e) answer edges is wrong f = subst (λ x. Tells stalls s named later (Err x)) (sym wrong) tt

-- what is told of files that don't differ by these calls
pub others_then : (named : List (Name × ℕ)) (first held later : Held) → ChangesOnlyOutputs named first held → ChangesOnlyOutputs named held later → ChangesOnlyOutputs named first later
others_then named first held later a b = record { told = b.told ∙ a.told; others = λ q none. b.others q none ∙ a.others q none }
