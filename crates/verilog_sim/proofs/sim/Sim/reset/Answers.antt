use Rattle.std.proofs.Common.{◌≡◌, true, List, [], Some, subst, sym, ap}
use Rattle.std.specs.Vec.{with_items}
use Rattle.rtl_ir.specs.declared.design.Update.{Update}
use Rattle.rtl_ir.specs.Flat.{top_of}
use Rattle.verilog_sim.specs.State.{State}
use Rattle.rtl_ir.specs.Interfaces.{nets_of}
use Rattle.verilog_sim.specs.Calls.{IsResetEdge}
use Rattle.verilog_sim.specs.Updates.{held_by}
use Rattle.verilog_sim.proofs.Edges.{run, held, state, back, none_offered, ready_at, last_at, stepped_on, stepped_back, reset_is}
use Rattle.verilog_sim.proofs.sim.Sim.reset.Goals as goal

pub step-requires : goal.step-requires
step-requires c =
    let x = c.self.inside in
    let s = c.self.invariant in (
      run s,
      x.origins.items,
      x.interface.now.done,
      ready_at s c.as_slice-2.result.now c.as_slice.result.now c.as_mut_slice.result.now []
          c.as_slice-2.ensures c.as_slice.ensures.value c.as_mut_slice.ensures.value
          (λ k e. none_offered k (nets_of x.interface.now)),
      last_at s c.as_mut_slice.result.now c.as_mut_slice.ensures.value,
      s.program,
    )

pub invariant_of-self : goal.invariant_of-self
invariant_of-self c =
    let x = c.self.inside in
    let s = c.self.invariant in
    let done = c.step.ensures (run s) x.origins.items x.interface.now.done
    (ready_at s c.as_slice-2.result.now c.as_slice.result.now c.as_mut_slice.result.now []
    c.as_slice-2.ensures c.as_slice.ensures.value c.as_mut_slice.ensures.value
    (λ k e. none_offered k (nets_of x.interface.now))) (last_at s c.as_mut_slice.result.now c.as_mut_slice.ensures.value) s.program in
    let memories : c.step.new.memories ≡ (with_items x.memories c.step.new.memories).items = sym
    (back x.memories c.step.new.memories c.as_mut_slice.result.now c.step.auto.memories
    c.as_mut_slice.ensures.value) in
    stepped_on s c.as_slice-2.result.now c.as_slice.result.now c.step.new.ahead c.step.new.values c.step.new.memories
    (with_items x.memories c.step.new.memories).items c.as_slice-2.ensures c.as_slice.ensures.value memories done.0 done.1

pub returns-clause-edge : goal.returns-clause-edge
returns-clause-edge c = λ m e.
    let x = c.self.inside in
    let s = c.self.invariant in
    let done = c.step.ensures (run s) x.origins.items x.interface.now.done
    (ready_at s c.as_slice-2.result.now c.as_slice.result.now c.as_mut_slice.result.now []
    c.as_slice-2.ensures c.as_slice.ensures.value c.as_mut_slice.ensures.value
    (λ k e. none_offered k (nets_of x.interface.now))) (last_at s c.as_mut_slice.result.now c.as_mut_slice.ensures.value) s.program in
    let memories : c.step.new.memories ≡ (with_items x.memories c.step.new.memories).items = sym
    (back x.memories c.step.new.memories c.as_mut_slice.result.now c.step.auto.memories
    c.as_mut_slice.ensures.value) in
    let top : top_of x.design.now ≡ Some m = subst (λ (st : State). top_of st.design ≡ Some m) (sym c.self.view_is) e in
    let stepped = stepped_back (run s) x.origins.items x.interface.now true c.as_slice.result.now x.steady.items []
    [] [] (held_by c.as_slice-2.result.now x.ahead) (held s) c.as_mut_slice.result.now x.memories.items
    c.step.new.values (held_by c.as_slice-2.result.now c.step.new.ahead) (held_by x.updates c.step.new.ahead)
    c.step.new.memories (with_items x.memories c.step.new.memories).items done.2 c.as_slice.ensures.value
    (ap (λ (l : List Update). held_by l x.ahead) c.as_slice-2.ensures) c.as_mut_slice.ensures.value
    (ap (λ (l : List Update). held_by l c.step.new.ahead) c.as_slice-2.ensures) memories in
    subst (λ (st : State). IsResetEdge m st
    (state x.design.now x.interface.now x.scopes.items x.origins.items x.steady.items
    (held_by x.updates c.step.new.ahead) (with_items x.memories c.step.new.memories).items c.step.new.values)) c.self.view_is
    (reset_is s m (held_by x.updates c.step.new.ahead) c.step.new.values (with_items x.memories c.step.new.memories).items top stepped)
