use Rattle.std.proofs.Common.{◌≡◌, ◌+◌, ℕ, List, [], ◌++◌, length, refl, ap, sym, ◌∙◌, arith}
use Rattle.std.proofs.lemmas.List.{length-map}
use Rattle.std.proofs.lemmas.Result.{err_from_is_err_and}
use Rattle.rtl_ir.specs.Flat.{top_of}
use Rattle.rtl_ir.specs.Ports.{outer_of}
use Rattle.rtl_ir.specs.Run.{Outer}
use Rattle.verilog_sim.specs.State.{State, contents}
use Rattle.simulation.proofs.Lists.{same_some}
use Rattle.simulation.proofs.Making.{refusal_of, formed_top, steady_length, few, bench_made, begins_made}
use Rattle.simulation.proofs.Shaping.{steady_fit, input_widths, output_widths}
use Rattle.simulation.proofs.Stopping.{none_created}
use Rattle.simulation.proofs.bench.Bench.new.Goals as goal

pub returns-in_err-sim-clause-too_many : goal.returns-in_err-sim-clause-too_many
returns-in_err-sim-clause-too_many g c = λ many.
    let p = err_from_is_err_and c.from_residual-in_err-sim.result c.from_residual-in_err-sim.ensures.1 in
    rw (p.1, p.2) (refusal_of _ _ c.in_err-sim.ensures.refusal, refl, tt)

pub new-requires-clause-ports : goal.new-requires-clause-ports
new-requires-clause-ports g c =
    let q = c.requires.shape in
    (q.0, q.2, c.requires.ports q.0 q.2)

pub set_all-requires-clause-ports : goal.set_all-requires-clause-ports
set_all-requires-clause-ports g c =
    let d = c.args.design.now in
    let q = c.requires.shape in
    let sim = c.in_ok-sim.sim in
    ap (λ (l : List ℕ). length l + length c.as_slice-2.result.now) c.as_slice.ensures ∙ ap (λ (l : List ℕ). length c.args.plan.ticks + length l) c.as_slice-2.ensures
    ∙ steady_length d q.0 q.1 c.args.plan q.3 q.4 ∙ ap (λ (o : Outer). length o.steady) (sym (c.in_ok-sim.ensures.outer q.0 q.1 q.2 q.3))
    ∙ sym (length-map sim.outer.steady (λ n. 0)) ∙ ap length (sym c.in_ok-sim.ensures.steady)

pub set_all-requires-clause-small : goal.set_all-requires-clause-small
set_all-requires-clause-small g c =
    let d = c.args.design.now in
    let q = c.requires.shape in
    let sim = c.in_ok-sim.sim in
    let size : length sim.steady ≡ length
    (outer_of q.1 q.0).steady = ap length c.in_ok-sim.ensures.steady ∙ length-map
    sim.outer.steady (λ n. 0) ∙ ap (λ (o : Outer). length o.steady)
    (c.in_ok-sim.ensures.outer q.0 q.1 q.2 q.3) in
    omega (arith, size, few d q.0 q.1 c.args.plan q.3 q.4 c.requires.accepted q.2 c.in_ok-sim.ensures.small)

pub set_all-requires-clause-widths : goal.set_all-requires-clause-widths
set_all-requires-clause-widths g c = λ m top k value at.
    let d = c.args.design.now in
    let q = c.requires.shape in
    let same : q.0 ≡ m = same_some (top_of d) q.0 m q.2 (ap top_of (sym c.in_ok-sim.ensures.design) ∙ top) in
    let fits = steady_fit q.0 q.1 c.args.plan q.3 q.4 k value (rw (c.as_slice.ensures, c.as_slice-2.ensures) at at) in
    rw (c.in_ok-sim.ensures.outer q.0 q.1 q.2 q.3, ← same) fits

pub open-requires : goal.open-requires
open-requires g c =
    let q = c.requires.shape in
    record { widths = input_widths _ q.0 q.1 c.args.plan (formed_top c.args.design.now q.0 c.requires.accepted q.2) q.3 q.4 }

pub create_all-requires-clause-widths : goal.create_all-requires-clause-widths
create_all-requires-clause-widths g c =
    let q = c.requires.shape in
    output_widths _ q.0 q.1 c.args.plan (formed_top c.args.design.now q.0 c.requires.accepted q.2) q.3 q.4

pub returns-clause-bench : goal.returns-clause-bench
returns-clause-bench g c =
    let d = c.args.design.now in
    let q = c.requires.shape in
    let p = c.args.plan in
    let made = c.set_all.ensures in
    bench_made d q.0 q.1 p _ c.requires.accepted q.2 q.3 q.4 c.requires.apart c.in_ok-sim.ensures.small
    (ap (λ (x : State). x.design) made ∙ c.in_ok-sim.ensures.design)
    (ap (λ (x : State). x.outer) made ∙ c.in_ok-sim.ensures.outer q.0 q.1 q.2 q.3)
    c.in_ok-readers.ensures.named c.in_ok-readers.ensures.begin c.in_ok-writers.ensures.named
    (omega (arith, c.in_ok-stalled.stalled.ok.0, c.in_ok-stalled.ensures.len, c.len-inputs.ensures, c.len-outputs.ensures, c.len-kernels.ensures))
    (sym c.in_ok-offers.offers.ok.0 ∙ c.in_ok-offers.ensures.len ∙ c.len-inputs.ensures)
    (sym c.in_ok-accepts.accepts.ok.0 ∙ c.in_ok-accepts.ensures.len ∙ c.len-outputs.ensures)
    (omega (arith, c.in_ok-events.events.ok.0, c.in_ok-events.ensures.len, c.len-inputs.ensures, c.len-outputs.ensures))

pub returns-clause-begun : goal.returns-clause-begun
returns-clause-begun g c = λ told. ((λ k. []), c.in_ok-writers.ensures.made told)

pub returns-clause-begins : goal.returns-clause-begins
returns-clause-begins g c = λ m s top has told.
    let d = c.args.design.now in
    let made = c.set_all.ensures in
    let steady : c.set_all.new.sim.steady ≡ c.args.plan.ticks
    ++ c.args.plan.scalars = ap (λ (x : State). x.steady) made ∙ ap (λ (l : List ℕ). l
    ++ c.as_slice-2.result.now) c.as_slice.ensures ∙ ap (λ (l : List ℕ). c.args.plan.ticks
    ++ l) c.as_slice-2.ensures in
    begins_made d m s c.args.plan (g.F.Files.held c.args.files.now)
    (g.F.Files.held c.create_all.new.files) c.set_all.new.sim c.in_ok-readers.readers.items
    c.in_ok-writers.writers.items c.requires.apart
    (ap (λ (x : State). x.design) made ∙ c.in_ok-sim.ensures.design)
    (ap (λ (x : State). x.outer) made ∙ c.in_ok-sim.ensures.outer m s top has)
    steady (ap contents made ∙ c.in_ok-sim.ensures.start m top)
    c.in_ok-readers.ensures.named c.in_ok-readers.ensures.begin c.in_ok-writers.ensures.others (c.in_ok-writers.ensures.made told)

pub returns-in_err-sim-clause-stopped : goal.returns-in_err-sim-clause-stopped
returns-in_err-sim-clause-stopped g c =
    let p = err_from_is_err_and c.from_residual-in_err-sim.result c.from_residual-in_err-sim.ensures.1 in
    rw (p.1) (λ told. none_created c.args.plan.outputs (g.F.Files.held c.args.files.now))

pub returns-in_err-readers-clause-stopped : goal.returns-in_err-readers-clause-stopped
returns-in_err-readers-clause-stopped g c =
    let p = err_from_is_err_and c.from_residual-in_err-readers.result c.from_residual-in_err-readers.ensures.1 in
    rw (p.1) (λ told. none_created c.args.plan.outputs (g.F.Files.held c.args.files.now))

pub returns-in_err-stalled-clause-stopped : goal.returns-in_err-stalled-clause-stopped
returns-in_err-stalled-clause-stopped g c =
    let p = err_from_is_err_and c.from_residual.result c.from_residual.ensures.1 in
    rw (p.1) (λ told. none_created c.args.plan.outputs (g.F.Files.held c.args.files.now))

pub returns-in_err-offers-clause-stopped : goal.returns-in_err-offers-clause-stopped
returns-in_err-offers-clause-stopped g c =
    let p = err_from_is_err_and c.from_residual-in_err-offers.result c.from_residual-in_err-offers.ensures.1 in
    rw (p.1) (λ told. none_created c.args.plan.outputs (g.F.Files.held c.args.files.now))

pub returns-in_err-accepts-clause-stopped : goal.returns-in_err-accepts-clause-stopped
returns-in_err-accepts-clause-stopped g c =
    let p = err_from_is_err_and c.from_residual-in_err-accepts.result c.from_residual-in_err-accepts.ensures.1 in
    rw (p.1) (λ told. none_created c.args.plan.outputs (g.F.Files.held c.args.files.now))

pub returns-in_err-events-clause-stopped : goal.returns-in_err-events-clause-stopped
returns-in_err-events-clause-stopped g c =
    let p = err_from_is_err_and c.from_residual-in_err-events.result c.from_residual-in_err-events.ensures.1 in
    rw (p.1) (λ told. none_created c.args.plan.outputs (g.F.Files.held c.args.files.now))

pub returns-in_err-writers-clause-stopped : goal.returns-in_err-writers-clause-stopped
returns-in_err-writers-clause-stopped g c =
    let p = err_from_is_err_and c.from_residual-in_err-writers.result c.from_residual-in_err-writers.ensures.1 in
    rw (p.1) c.in_err-writers.ensures.stopped
