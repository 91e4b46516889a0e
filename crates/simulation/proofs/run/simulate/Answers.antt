use Rattle.std.proofs.Common.{◌≡◌, ◌⊎◌, ℕ, List, inl, inr, refl, sym, ◌∙◌, subst, arith}
use Rattle.std.proofs.lemmas.Result.{err_from_is_err_and, on_err_weaker}
use Rattle.mx_base.specs.Counts.{Rose}
use Rattle.mx_base.specs.Files.{Name}
use Rattle.stall_source.specs.Stalls.{Answers}
use Rattle.simulation.specs.Answers.{Tells, IsMissing}
use Rattle.simulation.specs.Outputs.{ChangesOnlyOutputs, HoldLinesBut}
use Rattle.simulation.specs.Plans.{setup_of}
use Rattle.rtl_ir.specs.declared.design.Module.{Module}
use Rattle.rtl_ir.specs.Flat.{top_of}
use Rattle.rtl_ir.specs.Ports.{HasShape}
use Rattle.simulation.proofs.Exact.{exact, not_cells, one_way}
use Rattle.simulation.proofs.Lists.{same_some}
use Rattle.simulation.proofs.Running.{others_then}
use Rattle.simulation.proofs.Stopping.{on_err_under}
use Rattle.simulation.proofs.run.simulate.Goals as goal

pub returns-clause-tells : goal.returns-clause-tells
returns-clause-tells g c = λ m s top has told.
    let stalls : Answers = λ pick edge port answer. g.G.Fn.post c.args.stalls.now.test (pick, (edge, (port, tt))) answer in
    let setup = setup_of c.args.design.now m s c.args.plan (g.F.Files.held c.args.files.now) in
    let e = c.in_ok-bench.ensures in
    let now = e.others.told ∙ told in
    subst (λ (l : List (Name × ℕ)). Tells stalls setup l (g.F.Files.held c.run.new.files) c.run.result) e.named
    (c.run.ensures.tells setup (record { top = top; picked = refl; counted = refl }) (λ _. e.begins m s top has told) now)

pub returns-clause-read_fault : goal.returns-clause-read_fault
returns-clause-read_fault g c = λ m s top has fault.
    let stalls : Answers = λ pick edge port answer. g.G.Fn.post c.args.stalls.now.test (pick, (edge, (port, tt))) answer in
    let setup = setup_of c.args.design.now m s c.args.plan (g.F.Files.held c.args.files.now) in
    let e = c.in_ok-bench.ensures in
    subst (λ n. Rose n (g.F.Files.read_faults c.run.new.files) ⊎ IsMissing stalls setup) e.read_quiet
    (c.run.ensures.missing setup (record { top = top; picked = refl; counted = refl }) (λ told. e.begins m s top has (sym e.others.told ∙ told)) fault)

pub returns-clause-others : goal.returns-clause-others
returns-clause-others g c =
    let e = c.in_ok-bench.ensures in
    others_then c.args.plan.outputs (g.F.Files.held c.args.files.now) (g.F.Files.held c.new.new.files) (g.F.Files.held c.run.new.files) e.others
    (subst (λ (l : List (Name × ℕ)). ChangesOnlyOutputs l (g.F.Files.held c.new.new.files) (g.F.Files.held c.run.new.files)) e.named c.run.ensures.others)

pub returns-clause-exact : goal.returns-clause-exact
returns-clause-exact g c = λ m s top has told cells restart vs end ends.
    let stalls : Answers = λ pick edge port answer. g.G.Fn.post c.args.stalls.now.test (pick, (edge, (port, tt))) answer in
    let d = c.args.design.now in
    let p = c.args.plan in
    let held = g.F.Files.held c.args.files.now in
    let later = g.F.Files.held c.run.new.files in
    let setup = setup_of d m s p held in
    let e = c.in_ok-bench.ensures in
    let q = c.requires.shape in
    let same : q.0 ≡ m = same_some (top_of d) q.0 m q.2 top in
    let has' : HasShape m q.1 = subst (λ (x : Module). HasShape x q.1) same q.3 in
    let begun = e.begins m s top has told in
    let begun' = e.begins m q.1 top has' told in
    let tells : Tells stalls setup p.outputs later c.run.result = subst (λ (l : List (Name × ℕ)). Tells stalls setup l later c.run.result) e.named
    (c.run.ensures.tells setup (record { top = top; picked = refl; counted = refl }) (λ _. begun) (e.others.told ∙ told)) in
    exact stalls setup p.outputs later c.run.result (not_cells c.run.result c.run.ensures.errors) tells restart vs end ends
    (λ r ws a x. one_way stalls c.requires.decided d m s q.1 p held c.requires.accepted top has'
    q.4 cells (omega arith) (omega arith)
    (sym begun.is.outer ∙ begun'.is.outer) restart r vs ws end a ends x)

pub returns-in_err-bench-clause-leaves : goal.returns-in_err-bench-clause-leaves
returns-in_err-bench-clause-leaves g c =
    let p = err_from_is_err_and c.from_residual.result c.from_residual.ensures.1 in
    rw (p.1) (λ told. inl (c.in_err-bench.ensures.stopped told))

pub returns-clause-leaves : goal.returns-clause-leaves
returns-clause-leaves g c =
    let e = c.in_ok-bench.ensures in
    on_err_under c.run.result _ (λ told.
    on_err_weaker c.run.result (λ f. inr (subst (λ (l : List (Name × ℕ)). (n : ℕ) × HoldLinesBut n l (g.F.Files.held c.run.new.files)) e.named (f (e.others.told ∙ told)))) c.run.ensures.stopped)
