use Rattle.std.proofs.Common.{◌≡◌, ◌⊎◌, ℕ, true, false, cond, List, ◌∷◌, Err, map, refl, ap, sym, ◌∙◌, subst, arith}
use Rattle.std.specs.Prelude.{IsSome}
use Rattle.std.proofs.lemmas.Result.{err_from_is_err_and, on_ok_weaker, on_err_weaker}
use Rattle.mx_base.specs.Files.{Name}
use Rattle.rtl_ir.specs.Flat.{top_of}
use Rattle.rtl_ir.specs.Parts.{own_of}
use Rattle.stall_source.specs.Stalls.{Answers}
use Rattle.verilog_sim.specs.State.{State}
use Rattle.verilog_sim.specs.Calls.{IsDone}
use Rattle.simulation.specs.Answers.{Tells, Finishes, IsMissing}
use Rattle.simulation.specs.Ends.End.{Done, Limit}
use Rattle.simulation.specs.declared.stop.Stop.TheVariants as stops
use Rattle.mx_base.specs.Counts.{Rose}
use Rattle.simulation.specs.Outputs.{ChangesOnlyOutputs, HoldLinesBut}
use Rattle.simulation.specs.Outward.{output_of, AreWhole, all_moved}
use Rattle.simulation.specs.Benches.{Going}
use Rattle.simulation.proofs.Benching.{bench_after}
use Rattle.simulation.proofs.Running.{began, finishes, tells_end, others_then}
use Rattle.simulation.proofs.Writing.{unchanged}
use Rattle.simulation.proofs.Stopping.{on_err_under}
use Rattle.simulation.proofs.bench.Bench.run.Goals as goal

pub loop-edge-init : goal.loop-edge-init
loop-edge-init g c =
    let stalls : Answers = λ pick edge port answer. g.G.Fn.post c.args.stalls.now.test (pick, (edge, (port, tt))) answer in
    let b = c.args.self.now in
    let held = g.F.Files.held c.args.files.now in
    record {
      bench = bench_after b _ c.requires.bench c.reset.ensures.kept refl refl c.requires.bench.unrefused refl refl refl refl;
      begun = c.requires.begun;
      named = refl;
      design = ap (λ (x : State). x.design) c.reset.ensures.kept;
      others = unchanged (map output_of b.outputs.items) held;
      read_quiet = refl;
      write_quiet = refl;
      going = λ s is begins told. (
          let b' = begins told in
          began stalls s held b.sim c.reset.new.self b.inputs.items b.outputs.items b' (c.reset.ensures.edge s.top (ap top_of b'.is.design ∙ is.top)) c.reset.ensures.kept);
    }

pub loop-edge-preserved : goal.loop-edge-preserved
loop-edge-preserved g c =
    let stalls : Answers = λ pick edge port answer. g.G.Fn.post c.args.stalls.now.test (pick, (edge, (port, tt))) answer in
    let l = c.loop-edge in
    let b = l.self in
    let first = c.args.self.now in
    let held = g.F.Files.held c.args.files.now in
    let now = g.F.Files.held l.files in
    let later = g.F.Files.held c.edge.new.files in
    let e = c.in_ok-edge.ensures in
    let named = map output_of first.outputs.items in
    let same : c.done.new.self ≡ b.sim = c.done.ensures.kept in
    record {
      bench = e.bench;
      begun = λ told. e.begun (l.invariant.others.told ∙ told);
      named = e.named ∙ l.invariant.named;
      design = e.same ∙ ap (λ (x : State). x.design) same ∙ l.invariant.design;
      others = others_then named held now later l.invariant.others (subst (λ (x : List (Name × ℕ)). ChangesOnlyOutputs x now later) l.invariant.named e.others);
      read_quiet = e.read_quiet (λ q. cc) ∙ l.invariant.read_quiet;
      write_quiet = e.write_quiet (λ q. cc) ∙ l.invariant.write_quiet;
      going = λ s is begins told. (
          let run = l.invariant.going s is begins told in
          let not_done : IsDone s.top c.done.new.self false = subst
          (λ (x : State). IsDone s.top x false) (sym same)
          (subst (IsDone s.top b.sim) c.if-done.false
          (c.done.ensures.done s.top (ap top_of run.is.design ∙ is.top))) in
          e.goes s c.args.edges is not_done (λ _. subst (λ (x : State). Going stalls s now x b.inputs.items b.outputs.items l.edge) (sym same) run) (l.invariant.others.told ∙ told));
    }

pub returns-in_err-edge-clause-tells : goal.returns-in_err-edge-clause-tells
returns-in_err-edge-clause-tells g c = λ s is begins told.
    let stalls : Answers = λ pick edge port answer. g.G.Fn.post c.args.stalls.now.test (pick, (edge, (port, tt))) answer in
    let l = c.loop-edge in
    let b = l.self in
    let now = g.F.Files.held l.files in
    let later = g.F.Files.held c.edge.new.files in
    let e = c.in_err-edge.ensures in
    let same : c.done.new.self ≡ b.sim = c.done.ensures.kept in
    let run = l.invariant.going s is begins told in
    let not_done : IsDone s.top c.done.new.self false = subst
    (λ (x : State). IsDone s.top x false) (sym same)
    (subst (IsDone s.top b.sim) c.if-done.false (c.done.ensures.done s.top
    (ap top_of run.is.design ∙ is.top))) in
    let p = err_from_is_err_and c.from_residual.result c.from_residual.ensures.1 in
    rw (p.1, p.2)
    (subst (λ (x : List (Name × ℕ)). Tells stalls s x later (Err c.in_err-edge.field-0.0)) l.invariant.named
    (e.tells s c.args.edges is not_done c.loop-edge-test.true (λ _. subst (λ (x : State). Going stalls s now x b.inputs.items b.outputs.items l.edge) (sym same) run) (l.invariant.others.told ∙ told)))

pub returns-in_err-edge-clause-missing : goal.returns-in_err-edge-clause-missing
returns-in_err-edge-clause-missing g c = λ s is begins fault.
    let stalls : Answers = λ pick edge port answer. g.G.Fn.post c.args.stalls.now.test (pick, (edge, (port, tt))) answer in
    let l = c.loop-edge in
    let b = l.self in
    let now = g.F.Files.held l.files in
    let e = c.in_err-edge.ensures in
    let same : c.done.new.self ≡ b.sim = c.done.ensures.kept in
    let p = err_from_is_err_and c.from_residual.result c.from_residual.ensures.1 in
    let error : c.in_err-edge.field-0.0 ≡ stops.ReadFault = (let x = p.1 in let y = p.2 in cc) in
    let before = λ (told : IsSome now). sym l.invariant.others.told ∙ told in
    subst (λ n. Rose n (g.F.Files.read_faults c.edge.new.files) ⊎ IsMissing stalls s) l.invariant.read_quiet
    (e.missing s c.args.edges is
    (λ told. let run = l.invariant.going s is begins (before told) in
    subst (λ (x : State). IsDone s.top x false) (sym same) (subst (IsDone s.top b.sim) c.if-done.false (c.done.ensures.done s.top (ap top_of run.is.design ∙ is.top))))
    c.loop-edge-test.true
    (λ told. subst (λ (x : State). Going stalls s now x b.inputs.items b.outputs.items l.edge) (sym same) (l.invariant.going s is begins (before told)))
    (ap Err error))

pub returns-then-done-clause-tells : goal.returns-then-done-clause-tells
returns-then-done-clause-tells g c = λ s is begins told.
    let stalls : Answers = λ pick edge port answer. g.G.Fn.post c.args.stalls.now.test (pick, (edge, (port, tt))) answer in
    let l = c.loop-edge in
    let b = l.self in
    let now = g.F.Files.held l.files in
    let later = g.F.Files.held c.end.new.files in
    let run = l.invariant.going s is begins told in
    let named = map output_of c.args.self.now.outputs.items in
    let words = all_moved s.outer.outputs (own_of (run.restart ∷ run.vs)) in
    let done : IsDone s.top b.sim true = subst (IsDone s.top b.sim) c.if-done.true (c.done.ensures.done s.top (ap top_of run.is.design ∙ is.top)) in
    tells_end stalls s named later c.end.result true l.edge c.end.ensures.outcome c.end.ensures.errors
    (on_ok_weaker c.end.result
    (λ (whole : AreWhole later words (map output_of b.outputs.items)).
    finishes stalls s now later b.sim b.inputs.items b.outputs.items l.edge named run true (omega (arith, is.counted)) (λ q. absurd (cc)) done (subst (AreWhole later words) l.invariant.named whole))
    (c.end.ensures.whole words run.put))

pub returns-clause-tells : goal.returns-clause-tells
returns-clause-tells g c = λ s is begins told.
    let stalls : Answers = λ pick edge port answer. g.G.Fn.post c.args.stalls.now.test (pick, (edge, (port, tt))) answer in
    let l = c.loop-edge in
    let b = l.self in
    let now = g.F.Files.held l.files in
    let later = g.F.Files.held c.end-2.new.files in
    let run = l.invariant.going s is begins told in
    let named = map output_of c.args.self.now.outputs.items in
    let words = all_moved s.outer.outputs (own_of (run.restart ∷ run.vs)) in
    let last : l.edge ≡ c.args.edges = omega (arith, l.auto.edge-end) in
    let answer = c.done-done.result in
    let done : IsDone s.top b.sim answer = c.done-done.ensures.done s.top (ap top_of run.is.design ∙ is.top) in
    tells_end stalls s named later c.end-2.result answer c.args.edges c.end-2.ensures.outcome c.end-2.ensures.errors
    (on_ok_weaker c.end-2.result
    (λ (whole : AreWhole later words (map output_of b.outputs.items)).
    subst (λ n. Finishes stalls s named later (cond answer (Done n) (Limit n))) last
    (finishes stalls s now later b.sim b.inputs.items b.outputs.items l.edge named run answer
    (omega (arith, is.counted)) (λ _. last ∙ sym is.counted) done
    (subst (AreWhole later words) l.invariant.named whole)))
    (c.end-2.ensures.whole words run.put))

pub returns-in_err-edge-clause-stopped : goal.returns-in_err-edge-clause-stopped
returns-in_err-edge-clause-stopped g c =
    let l = c.loop-edge in
    let p = err_from_is_err_and c.from_residual.result c.from_residual.ensures.1 in
    rw (p.1) (λ told. subst (λ (x : List (Name × ℕ)). (n : ℕ) × HoldLinesBut n x (g.F.Files.held c.edge.new.files)) l.invariant.named (c.in_err-edge.ensures.stopped (l.invariant.others.told ∙ told)))

pub returns-then-done-clause-stopped : goal.returns-then-done-clause-stopped
returns-then-done-clause-stopped g c =
    let l = c.loop-edge in
    on_err_under c.end.result _ (λ told.
    on_err_weaker c.end.result (λ f. subst (λ (x : List (Name × ℕ)). (n : ℕ)
    × HoldLinesBut n x (g.F.Files.held c.end.new.files)) l.invariant.named
    (f (l.invariant.others.told ∙ told))) c.end.ensures.stopped)

pub returns-clause-stopped : goal.returns-clause-stopped
returns-clause-stopped g c =
    let l = c.loop-edge in
    on_err_under c.end-2.result _ (λ told.
    on_err_weaker c.end-2.result (λ f. subst (λ (x : List (Name × ℕ)). (n : ℕ)
    × HoldLinesBut n x (g.F.Files.held c.end-2.new.files)) l.invariant.named
    (f (l.invariant.others.told ∙ told))) c.end-2.ensures.stopped)
