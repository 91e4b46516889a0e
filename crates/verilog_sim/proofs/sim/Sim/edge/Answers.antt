use Rattle.std.proofs.Common.{◌≡◌, ℕ, ◌+◌, ◌++◌, false, List, Some, length, subst, sym, ap, ◌∙◌}
use Rattle.std.specs.Prelude.{slice_get}
use Rattle.std.specs.Vec.{with_items}
use Rattle.rtl_ir.specs.declared.design.Module.{Module}
use Rattle.rtl_ir.specs.declared.design.Update.{Update}
use Rattle.rtl_ir.specs.declared.interface.StreamPorts.{StreamPorts}
use Rattle.rtl_ir.specs.Interfaces.{stream_channel}
use Rattle.rtl_ir.specs.Flat.{top_of}
use Rattle.verilog_sim.specs.declared.offer.Event.{Event}
use Rattle.verilog_sim.specs.State.{State}
use Rattle.verilog_sim.specs.Contents.{family_of}
use Rattle.verilog_sim.specs.Calls.{event_of, IsEdge}
use Rattle.verilog_sim.specs.Simulates.{AreOffered}
use Rattle.verilog_sim.specs.Updates.{held_by}
use Rattle.verilog_sim.proofs.Edges.{run, held, state, back, ready_at, last_at, stepped_on, stepped_back, nets_within, streams_counted, edge_is}
use Rattle.verilog_sim.proofs.sim.Sim.edge.Goals as goal

pub step-requires : goal.step-requires
step-requires c =
    let x = c.self.inside in
    let s = c.self.invariant in (
      run s,
      x.origins.items,
      x.interface.now.done,
      ready_at s c.as_slice-2.result.now c.as_slice.result.now c.as_mut_slice.result.now c.args.offers.now
          c.as_slice-2.ensures c.as_slice.ensures.value c.as_mut_slice.ensures.value
          (subst (λ (st : State). (m : Module) → top_of st.design ≡ Some m → AreOffered m st.outer c.args.offers.now)
          (sym c.self.view_is) c.requires.words),
      last_at s c.as_mut_slice.result.now c.as_mut_slice.ensures.value,
      s.program,
    )

pub tell-requires-clause-nets : goal.tell-requires-clause-nets
tell-requires-clause-nets c =
    let x = c.self.inside in
    let s = c.self.invariant in
    let done = c.step.ensures (run s) x.origins.items x.interface.now.done
    (ready_at s c.as_slice-2.result.now c.as_slice.result.now c.as_mut_slice.result.now c.args.offers.now
    c.as_slice-2.ensures c.as_slice.ensures.value c.as_mut_slice.ensures.value
    (subst (λ (st : State). (m : Module) → top_of st.design ≡ Some m → AreOffered m st.outer c.args.offers.now)
    (sym c.self.view_is) c.requires.words)) (last_at s c.as_mut_slice.result.now c.as_mut_slice.ensures.value) s.program in
    nets_within s c.step.new.values done.1.words.nets

pub tell-requires-clause-events : goal.tell-requires-clause-events
tell-requires-clause-events c =
    streams_counted c.self.invariant c.args.events.now (subst
    (λ (st : State). length c.args.events.now ≡ length st.outer.inputs + length st.outer.outputs)
    (sym c.self.view_is) c.requires.events)

pub invariant_of-self : goal.invariant_of-self
invariant_of-self c =
    let x = c.self.inside in
    let s = c.self.invariant in
    let done = c.step.ensures (run s) x.origins.items x.interface.now.done
    (ready_at s c.as_slice-2.result.now c.as_slice.result.now c.as_mut_slice.result.now c.args.offers.now
    c.as_slice-2.ensures c.as_slice.ensures.value c.as_mut_slice.ensures.value
    (subst (λ (st : State). (m : Module) → top_of st.design ≡ Some m → AreOffered m st.outer c.args.offers.now)
    (sym c.self.view_is) c.requires.words)) (last_at s c.as_mut_slice.result.now c.as_mut_slice.ensures.value) s.program in
    let memories : c.step.new.memories ≡ (with_items x.memories c.step.new.memories).items = sym
    (back x.memories c.step.new.memories c.as_mut_slice.result.now c.step.auto.memories
    c.as_mut_slice.ensures.value) in
    stepped_on s c.as_slice-2.result.now c.as_slice.result.now c.step.new.ahead c.step.new.values c.step.new.memories
    (with_items x.memories c.step.new.memories).items c.as_slice-2.ensures c.as_slice.ensures.value memories done.0 done.1

pub returns-clause-edge : goal.returns-clause-edge
returns-clause-edge c = λ m e.
    let x = c.self.inside in
    let s = c.self.invariant in
    let done = c.step.ensures (run s) x.origins.items x.interface.now.done
    (ready_at s c.as_slice-2.result.now c.as_slice.result.now c.as_mut_slice.result.now c.args.offers.now
    c.as_slice-2.ensures c.as_slice.ensures.value c.as_mut_slice.ensures.value
    (subst (λ (st : State). (m : Module) → top_of st.design ≡ Some m → AreOffered m st.outer c.args.offers.now)
    (sym c.self.view_is) c.requires.words)) (last_at s c.as_mut_slice.result.now c.as_mut_slice.ensures.value) s.program in
    let memories : c.step.new.memories ≡ (with_items x.memories c.step.new.memories).items = sym
    (back x.memories c.step.new.memories c.as_mut_slice.result.now c.step.auto.memories
    c.as_mut_slice.ensures.value) in
    let top : top_of x.design.now ≡ Some m = subst (λ (st : State). top_of st.design ≡ Some m) (sym c.self.view_is) e in
    let stepped = stepped_back (run s) x.origins.items x.interface.now false c.as_slice.result.now x.steady.items c.args.offers.now
    c.args.accepts.now c.args.holds.now (held_by c.as_slice-2.result.now x.ahead) (held s) c.as_mut_slice.result.now x.memories.items
    c.step.new.values (held_by c.as_slice-2.result.now c.step.new.ahead) (held_by x.updates c.step.new.ahead)
    c.step.new.memories (with_items x.memories c.step.new.memories).items done.2 c.as_slice.ensures.value
    (ap (λ (l : List Update). held_by l x.ahead) c.as_slice-2.ensures) c.as_mut_slice.ensures.value
    (ap (λ (l : List Update). held_by l c.step.new.ahead) c.as_slice-2.ensures) memories in
    let told : (k : ℕ) (y : StreamPorts) (t : Event) → slice_get (x.interface.now.inputs ++ x.interface.now.outputs)
    k ≡ Some y → slice_get c.tell.new.events k ≡ Some t
    → t ≡ event_of (family_of c.step.new.values) (stream_channel y) = c.tell.ensures in
    let lengths = subst (λ (st : State). (length c.args.offers.now ≡ length st.outer.inputs)
    × (length c.args.accepts.now ≡ length st.outer.outputs) × (length c.args.holds.now ≡ length st.outer.holds)
    × (length c.args.events.now ≡ length st.outer.inputs + length st.outer.outputs)) (sym c.self.view_is)
    (c.requires.offers, c.requires.accepts, c.requires.holds, c.requires.events) in
    subst (λ (st : State). IsEdge m c.args.offers.now c.args.accepts.now c.args.holds.now st
    (state x.design.now x.interface.now x.scopes.items x.origins.items x.steady.items
    (held_by x.updates c.step.new.ahead) (with_items x.memories c.step.new.memories).items c.step.new.values) c.tell.new.events) c.self.view_is
    (edge_is s m c.args.offers.now c.args.accepts.now c.args.holds.now (held_by x.updates c.step.new.ahead)
    c.step.new.values (with_items x.memories c.step.new.memories).items c.tell.new.events top lengths.0 lengths.1
    lengths.2 stepped (c.tell.auto.events ∙ lengths.3) told)
