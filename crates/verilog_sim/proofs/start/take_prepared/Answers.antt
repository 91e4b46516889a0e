use Rattle.std.proofs.Common.{◌≡◌, ℕ, List, Some, map, length, subst, sym, ap, ◌∙◌, arith}
use Rattle.std.specs.Prelude.{slice_get}
use Rattle.rtl_ir.specs.declared.design.Net.{Net}
use Rattle.rtl_ir.specs.declared.design.Mem.{Mem}
use Rattle.rtl_ir.specs.declared.design.Port.{Port}
use Rattle.rtl_ir.specs.declared.design.Module.{Module}
use Rattle.rtl_ir.specs.declared.design.Update.{Update}
use Rattle.verilog_sim.specs.Simulates.{AreKept, AreValues, IsPrepared, IsProgramOf}
use Rattle.verilog_sim.specs.Start.{AreFilled, words_at_start}
use Rattle.verilog_sim.specs.Updates.{held_by}
use Rattle.verilog_sim.proofs.Origins.{runnable_same, ordered_same, nets_same, mems_same, ports_same}
use Rattle.verilog_sim.proofs.start.take_prepared.Goals as goal

pub program_of-requires-clause-runnable : goal.program_of-requires-clause-runnable
program_of-requires-clause-runnable c = runnable_same c.in_ok-origins.ensures

pub program_of-requires-clause-ordered : goal.program_of-requires-clause-ordered
program_of-requires-clause-ordered c = ordered_same c.in_ok-origins.ensures

pub program_of-requires-clause-ports : goal.program_of-requires-clause-ports
program_of-requires-clause-ports c = λ i p at.
    let e = c.in_ok-origins.ensures in
    omega (
      arith,
      c.requires.ports i p (subst (λ (l : List Port). slice_get l i ≡ Some p) (ports_same e) at),
      ap length (nets_same e),
    )

pub program_of-requires-clause-net : goal.program_of-requires-clause-net
program_of-requires-clause-net c = omega (arith, c.requires.net, ap length (nets_same c.in_ok-origins.ensures))

pub program_of-requires-clause-origins : goal.program_of-requires-clause-origins
program_of-requires-clause-origins c =
    let e = c.in_ok-origins.ensures in
    ap length c.as_slice.ensures.value ∙ e.stand.origins.size ∙ sym (ap length (nets_same e))

pub start_of-requires-clause-runnable : goal.start_of-requires-clause-runnable
start_of-requires-clause-runnable c = runnable_same c.in_ok-origins.ensures

pub start_of-requires-clause-small : goal.start_of-requires-clause-small
start_of-requires-clause-small c = omega (arith, c.requires.small, ap length (nets_same c.in_ok-origins.ensures))

pub returns-clause-held : goal.returns-clause-held
returns-clause-held c =
    subst (λ (us : List Update). AreFilled c.args.fill c.args.«module».now.nets (held_by us c.in_ok-start.start.ahead))
    (sym c.replace-updates.ensures.value)
    (subst (λ (l : List Net). AreFilled c.args.fill l (held_by c.read_at_origins.new.«module».updates c.in_ok-start.start.ahead))
    (nets_same c.in_ok-origins.ensures) c.in_ok-start.ensures.held)

pub returns-clause-memories : goal.returns-clause-memories
returns-clause-memories c =
    c.in_ok-start.ensures.memories
    ∙ ap (λ (l : List Mem). map (words_at_start c.args.fill) l) (mems_same c.in_ok-origins.ensures)

pub returns-clause-prepared : goal.returns-clause-prepared
returns-clause-prepared c =
    let i = c.args.interface.now in
    let e = c.in_ok-origins.ensures in
    let run = c.read_at_origins.new.«module» in
    let os = c.in_ok-origins.origins.items in
    let start = c.in_ok-start.start in
    subst (λ (us : List Update). IsPrepared c.args.«module».now i c.in_ok-program.program us os start.steady.items start.ahead
    start.values start.memories.items) (sym c.replace-updates.ensures.value)
    (record {
      assigns = run.assigns;
      stand = e.stand;
      program = subst (λ (x : Module). IsProgramOf x os i.done c.in_ok-program.program) e.lists
          (subst (λ (l : List ℕ). IsProgramOf run l i.done c.in_ok-program.program) c.as_slice.ensures.value c.in_ok-program.ensures);
      kept = subst (λ (x : Module). AreKept x i start.steady.items (held_by run.updates start.ahead) start.ahead start.memories.items) e.lists
          c.in_ok-start.ensures.kept;
      first = subst (λ (x : Module). AreValues x start.values start.memories.items) e.lists c.in_ok-start.ensures.first;
    })
