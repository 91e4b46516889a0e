use Rattle.std.proofs.Common.{◌≡◌, ℕ, false, List, [], Some, refl, subst, sym, ap, ◌∙◌}
use Rattle.rtl_ir.specs.Interfaces.{nets_of}
use Rattle.rtl_ir.specs.Flat.{top_of}
use Rattle.verilog_sim.specs.State.{State}
use Rattle.verilog_sim.specs.Calls.{IsDone}
use Rattle.verilog_sim.specs.Simulates.{AreKept, IsEvaluated}
use Rattle.verilog_sim.proofs.Ahead.{looked_same}
use Rattle.verilog_sim.proofs.Edges.{run, held, state, kept_back, none_offered, ready_at, kept_on, done_is}
use Rattle.verilog_sim.proofs.sim.Sim.done.Goals as goal

pub is_done-requires : goal.is_done-requires
is_done-requires c =
    let x = c.self.inside in
    let s = c.self.invariant in
    let r = ready_at s x.updates c.as_slice.result.now c.as_slice-2.result.now [] refl c.as_slice.ensures.value
    c.as_slice-2.ensures.value (λ k e. none_offered k (nets_of x.interface.now)) in
    (run s, x.origins.items, x.updates, held s, r, s.program)

pub invariant_of-self : goal.invariant_of-self
invariant_of-self c =
    let x = c.self.inside in
    let s = c.self.invariant in
    let r = ready_at s x.updates c.as_slice.result.now c.as_slice-2.result.now [] refl c.as_slice.ensures.value
    c.as_slice-2.ensures.value (λ k e. none_offered k (nets_of x.interface.now)) in
    let done = c.is_done.ensures (run s) x.origins.items x.updates (held s) r s.program in
    let kept = kept_back (run s) x.interface.now c.as_slice.result.now x.steady.items (held s) (held s)
    c.is_done.new.values c.as_slice-2.result.now x.memories.items done.kept
    c.as_slice.ensures.value refl c.as_slice-2.ensures.value in
    let same = looked_same (run s) x.interface.now x.updates x.steady.items x.ahead c.is_done.new.values x.memories.items
    s.simulable.runnable refl s.kept kept in
    kept_on s x.steady.items c.is_done.new.values x.values x.memories.items
    (subst (λ (l : List ℕ). AreKept (run s) x.interface.now x.steady.items l c.is_done.new.values x.memories.items) (sym same) kept)
    s.last

pub returns-clause-done : goal.returns-clause-done
returns-clause-done c = λ m e.
    let x = c.self.inside in
    let s = c.self.invariant in
    let r = ready_at s x.updates c.as_slice.result.now c.as_slice-2.result.now [] refl c.as_slice.ensures.value
    c.as_slice-2.ensures.value (λ k e. none_offered k (nets_of x.interface.now)) in
    let done = c.is_done.ensures (run s) x.origins.items x.updates (held s) r s.program in
    let top : top_of x.design.now ≡ Some m = subst (λ (st : State). top_of st.design ≡ Some m) (sym c.self.view_is) e in
    let at : IsEvaluated (run s) x.interface.now false x.steady.items [] [] [] (held s) x.memories.items done.values =
    subst (λ (l : List ℕ). IsEvaluated (run s) x.interface.now false l [] [] [] (held s) x.memories.items done.values) c.as_slice.ensures.value
    (subst (λ (l : List (List ℕ)). IsEvaluated (run s) x.interface.now false c.as_slice.result.now [] [] []
    (held s) l done.values) c.as_slice-2.ensures.value done.evaluated) in
    subst (λ (st : State). IsDone m st c.is_done.result) c.self.view_is
    (done_is s m done.values c.is_done.result top at done.answer_is)

pub returns-clause-kept : goal.returns-clause-kept
returns-clause-kept c =
    let x = c.self.inside in
    let s = c.self.invariant in
    let r = ready_at s x.updates c.as_slice.result.now c.as_slice-2.result.now [] refl c.as_slice.ensures.value
    c.as_slice-2.ensures.value (λ k e. none_offered k (nets_of x.interface.now)) in
    let done = c.is_done.ensures (run s) x.origins.items x.updates (held s) r s.program in
    let kept = kept_back (run s) x.interface.now c.as_slice.result.now x.steady.items (held s) (held s)
    c.is_done.new.values c.as_slice-2.result.now x.memories.items done.kept
    c.as_slice.ensures.value refl c.as_slice-2.ensures.value in
    let same = looked_same (run s) x.interface.now x.updates x.steady.items x.ahead c.is_done.new.values x.memories.items
    s.simulable.runnable refl s.kept kept in
    ap (λ (l : List ℕ). state x.design.now x.interface.now x.scopes.items x.origins.items x.steady.items l x.memories.items x.values) same
    ∙ c.self.view_is
