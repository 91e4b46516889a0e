-- What the calls of an edge ask for, and what they leave.
use Rattle.std.proofs.Common.{◌≡◌, ℕ, ◌+◌, ◌^◌, ◌<◌, Bool, List, [], length, map, drop, get_or, Vec, Global, Some, Result, Ok, Err, refl, sym, ap, ◌∙◌, subst, arith}
use Rattle.std.specs.Prelude.{OnOk, slice_get}
use Rattle.std.specs.Vec.{with_items}
use Rattle.std.proofs.lemmas.List.{length-map}
use Rattle.std.proofs.lemmas.Option.{slice_get_within}
use Rattle.mx_base.specs.Files.{Name}
use Rattle.rtl_ir.specs.declared.design.Module.{Module}
use Rattle.rtl_ir.specs.Flat.{top_of}
use Rattle.rtl_ir.specs.Run.{Outer}
use Rattle.verilog_sim.specs.declared.offer.Offer.{Offer}
use Rattle.verilog_sim.specs.declared.offer.Event.{Event as Seen}
use Rattle.verilog_sim.specs.State.{State, last_family}
use Rattle.verilog_sim.specs.Calls.{nothing, IsEdge}
use Rattle.verilog_sim.specs.Simulates.{AreOffered}
use Rattle.verilog_sim.proofs.Edges.{back}
use Rattle.simulation.specs.Errors.{IsReadStop}
use Rattle.simulation.specs.declared.stop.Stop.{Stop}
use Rattle.simulation.specs.declared.stop.Stop.TheVariants as stops
use Rattle.simulation.specs.Inward.{input_of, AreUnrefused, AreOfWidths}
use Rattle.simulation.specs.Outward.{output_of, AreOfWidth, DifferInName}
use Rattle.simulation.specs.Benches.{HaveWidthsOf, IsBench, AreOther}
use Rattle.simulation.specs.declared.bench.Bench.{Bench}
use Rattle.simulation.proofs.Lists.{item_in}
use Rattle.simulation.proofs.Stepping.{seen_output}

pub on_ok_from : {T E : Type 0} (r : Result T E) {P : Type 0} → P → OnOk r P
on_ok_from (Ok x) p = p
on_ok_from (Err e) p = tt

pub on_ok_under : {T E P : Type 0} (r : Result T E) (Q : Type 0) → (P → OnOk r Q) → OnOk r (P → Q)
on_ok_under (Ok x) Q f = f
on_ok_under (Err e) Q f = tt

-- a list that was lent and written is as long as it was
pub lent_length : {X : Type 0} (v : Vec X Global) (new old : List X) → length new ≡ length old → old ≡ v.items → length (with_items v new).items ≡ length v.items
lent_length v new old e same = ap length (back v new old e same) ∙ e ∙ ap length same

-- the words that are offered have the widths of their ports
pub offers_fit : (sim : State) (named : List (Name × ℕ)) (offers : List Offer)
    → length named ≡ length sim.outer.inputs → HaveWidthsOf sim named sim.outer.inputs
    → AreOfWidths named offers → (m : Module) → top_of sim.design ≡ Some m
    → AreOffered m sim.outer offers
offers_fit sim named offers size widths words m top = λ k ch at.
    let n = item_in named k (let w = slice_get_within sim.outer.inputs k ch at in omega arith) in
    subst (λ w. (get_or offers k nothing).word < 2 ^ w) (widths m top k n.0 ch n.1 at) (words k n.0 n.1)

-- so have those that are seen at the outputs
pub seen_fit : (sim next : State) (named : List (Name
    × ℕ)) (m : Module) (offers : List Offer) (accepts holds : List Bool) (events : List Seen)
    → length named ≡ length sim.outer.outputs → HaveWidthsOf sim named sim.outer.outputs
    → top_of sim.design ≡ Some m → IsEdge m offers accepts holds sim next events
    → AreOfWidth named (drop (length sim.outer.inputs) events)
seen_fit sim next named m offers accepts holds events size widths top r = λ k n at.
    let ch = item_in sim.outer.outputs k (let w = slice_get_within named k n at in omega arith) in
    let seen = seen_output (last_family next []) sim.outer.inputs sim.outer.outputs events k ch.0 r.events_are ch.1 in
    let fits = (r.settled.fits.each [] m refl).words ch.0.word in
    subst (λ (e : Seen). e.word < 2 ^ n.1) (sym seen) (subst (λ w. last_family next [] ch.0.word < 2 ^ w) (sym (widths m top k n ch.0 at ch.1)) fits)

-- a bench whose parts are as long and as wide as they were
pub bench_after :
    (b new : Bench)
    → IsBench b
    → new.sim ≡ record b.sim { parts = new.sim.parts; last = new.sim.last }
    → map input_of new.inputs.items ≡ map input_of b.inputs.items
    → map output_of new.outputs.items ≡ map output_of b.outputs.items
    → AreUnrefused new.inputs.items
    → length new.stalled.items ≡ length b.stalled.items
    → length new.offers.items ≡ length b.offers.items
    → length new.accepts.items ≡ length b.accepts.items
    → length new.events.items ≡ length b.events.items
    → IsBench new
bench_after b new is kept inputs outputs unrefused stalled offers accepts events =
    let design : new.sim.design ≡ b.sim.design = ap (λ (x : State). x.design) kept in
    let outer : b.sim.outer ≡ new.sim.outer = sym (ap (λ (x : State). x.outer) kept) in
    let ins : length b.sim.outer.inputs ≡ length new.sim.outer.inputs = ap (λ (o : Outer). length o.inputs) outer in
    let outs : length b.sim.outer.outputs ≡ length new.sim.outer.outputs = ap (λ (o : Outer). length o.outputs) outer in
    let holds : length b.sim.outer.holds ≡ length new.sim.outer.holds = ap (λ (o : Outer). length o.holds) outer in
    let in_length : length new.inputs.items ≡ length b.inputs.items = sym (length-map new.inputs.items input_of) ∙ ap length inputs ∙ length-map b.inputs.items input_of in
    let out_length : length new.outputs.items ≡ length b.outputs.items = sym (length-map new.outputs.items output_of) ∙ ap length outputs ∙ length-map b.outputs.items output_of in
    record {
      top = is.top;
      is_top = ap top_of design ∙ is.is_top;
      inputs = in_length ∙ is.inputs ∙ ins;
      outputs = out_length ∙ is.outputs ∙ outs;
      stalled = stalled ∙ is.stalled ∙ ap (λ (o : Outer). length o.inputs + length o.outputs + length o.holds) outer;
      ports = (let p = is.ports in omega arith);
      offers = offers ∙ is.offers ∙ ins;
      accepts = accepts ∙ is.accepts ∙ outs;
      events = events ∙ is.events ∙ ap (λ (o : Outer). length o.inputs + length o.outputs) outer;
      input_widths = λ m top k n c en ec. is.input_widths m (ap top_of (sym design) ∙ top) k n c
          (ap (λ (l : List (Name × ℕ)). slice_get l k) (sym inputs) ∙ en)
          (ap (λ (o : Outer). slice_get o.inputs k) outer ∙ ec);
      output_widths = λ m top k n c en ec. is.output_widths m
          (ap top_of (sym design) ∙ top) k n c (ap (λ (l : List (Name
          × ℕ)). slice_get l k) (sym outputs) ∙ en) (ap
          (λ (o : Outer). slice_get o.outputs k) outer ∙ ec);
      unrefused = unrefused;
      apart = subst DifferInName (sym outputs) is.apart;
      others = subst (λ (l : List (Name × ℕ)). AreOther l (map output_of new.outputs.items)) (sym inputs) (subst (AreOther (map input_of b.inputs.items)) (sym outputs) is.others);
    }

pub no_write_stop : (e : Stop) → IsReadStop e → e ≡ stops.WriteFault → ⊥
no_write_stop (stops.TooManyCells n) is q = is
no_write_stop (stops.BadLine file line) is q = absurd (cc)
no_write_stop (stops.WordRange file line) is q = absurd (cc)
no_write_stop stops.ReadFault is q = absurd (cc)
no_write_stop stops.WriteFault is q = is
no_write_stop stops.NoMemory is q = absurd (cc)
