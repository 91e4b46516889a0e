use Rattle.std.proofs.Common.{◌≡◌, ℕ, ◌^◌, ◌≤◌, ◌-◌, List, [], Some, length, min, subst, sym, ap, ◌∙◌, arith}
use Rattle.rtl_ir.specs.declared.design.Module.{Module}
use Rattle.rtl_ir.specs.Flat.{top_of, AllContents}
use Rattle.rtl_ir.specs.declared.design.Design.{Design}
use Rattle.rtl_ir.specs.declared.interface.Interface.{Interface}
use Rattle.rtl_ir.specs.Interfaces.{IsInterface, shape_of}
use Rattle.verilog_sim.specs.declared.scope.Scope.{Scope}
use Rattle.verilog_sim.specs.Flattened.{IsFlat}
use Rattle.verilog_sim.proofs.Counting.{outer_once}
use Rattle.verilog_sim.proofs.Gifting.{done_below}
use Rattle.rtl_ir.specs.Rules.{AllHold}
use Rattle.verilog_sim.specs.PartLists.{parts_of}
use Rattle.verilog_sim.specs.State.{held_at}
use Rattle.verilog_sim.proofs.PartLists.{parts_say}
use Rattle.verilog_sim.specs.Start.{IsFilled, filled}
use Rattle.verilog_sim.specs.Updates.{held_by}
use Rattle.verilog_sim.proofs.Starting.{contents_filled, part_filled, all_words}
use Rattle.verilog_sim.proofs.Accepting.{runnable_of}
use Rattle.verilog_sim.proofs.Whole.{placed_flat}
use Rattle.verilog_sim.proofs.Fronts.{flat_cells, ports_flat}
use Rattle.verilog_sim.proofs.sim.Sim.new.Goals as goal

-- the count is the number of all cells, where it isn't too large
small_of : (cells all : ℕ) → cells ≤ 2 ^ 26 → cells ≡ min all (2 ^ 64 - 1) → all ≤ 2 ^ 26
small_of cells all le e = omega (arith, le, e)

pub flatten-requires-clause-small : goal.flatten-requires-clause-small
flatten-requires-clause-small c = small_of c.in_ok-cells.cells _ c.if-cells-gt-MOST_CELLS.false c.in_ok-cells.ensures

-- the ports that are read are those of the top module of the flat one
is_interface : {d : Design} {n : Module} {ss : List Scope} {m : Module} (i : Interface) → (f : IsFlat d ss n)
    → top_of d ≡ Some m → IsInterface m i → IsInterface f.top i
is_interface i f e is = let g = f.is_top in subst (λ (x : Module). IsInterface x i) (cc) is

pub prepare-requires-clause-runnable : goal.prepare-requires-clause-runnable
prepare-requires-clause-runnable c = runnable_of c.args.design.now c.in_ok-flat.flat.«module»
    (placed_flat c.args.design.now c.requires.accepted c.in_ok-flat.ensures)

pub prepare-requires-clause-small : goal.prepare-requires-clause-small
prepare-requires-clause-small c = omega (
  arith,
  flat_cells c.args.design.now c.requires.accepted
      c.in_ok-flat.ensures (small_of c.in_ok-cells.cells _ c.if-cells-gt-MOST_CELLS.false c.in_ok-cells.ensures),
)

pub prepare-requires-clause-ports : goal.prepare-requires-clause-ports
prepare-requires-clause-ports c = λ i p at.
    ((placed_flat c.args.design.now c.requires.accepted c.in_ok-flat.ensures).ports i p at).net

pub prepare-requires-clause-net : goal.prepare-requires-clause-net
prepare-requires-clause-net c =
    let f = c.in_ok-flat.ensures in
    let placed = placed_flat c.args.design.now c.requires.accepted f in
    done_below f.top c.in_ok-flat.flat.«module».ports c.args.interface.now
    (length c.in_ok-flat.flat.«module».nets) (is_interface c.args.interface.now f c.requires.ports.1
    c.requires.ports.2) (ports_flat c.args.design.now c.requires.accepted f)
    (λ k p at. (placed.ports k p at).net)

pub invariant_of-result : goal.invariant_of-result
invariant_of-result c =
    let d = c.args.design.now in
    let f = c.in_ok-flat.ensures in
    let placed = placed_flat d c.requires.accepted f in
    let i = c.args.interface.now in
    let is = is_interface i f c.requires.ports.1 c.requires.ports.2 in
    let made = c.in_ok-prepared.ensures.prepared in
    record {
      accepted = c.requires.accepted;
      flat = c.in_ok-flat.flat.«module»;
      is_flat = f;
      assigns = made.assigns;
      stand = made.stand;
      simulable = record {
        runnable = made.stand.runnable;
        top = f.top;
        is = is;
        ports = ports_flat d c.requires.accepted f;
        apart = placed.apart;
        formed = λ k p at. (let q = placed.ports k p at in record { net = q.net; wire = q.wire });
      };
      program = made.program;
      has = is;
      kept = made.kept;
      last = made.first;
    }

pub returns-clause-outer : goal.returns-clause-outer
returns-clause-outer c = λ m s e h.
    let i = c.args.interface.now in
    let same : c.requires.ports.0 ≡ m = (let f = c.requires.ports.1 in cc) in
    let is : IsInterface m i = subst (λ (x : Module). IsInterface x i) same c.requires.ports.2 in
    is.nets ∙ outer_once m (shape_of i) s is.shape h

pub returns-clause-steady : goal.returns-clause-steady
returns-clause-steady c = c.in_ok-prepared.ensures.steady

pub returns-clause-filled : goal.returns-clause-filled
returns-clause-filled c = λ m e.
    let f = c.in_ok-flat.ensures in
    let scopes = c.in_ok-flat.flat.scopes.items in
    let start = c.in_ok-prepared.prepared.start in
    let same : f.top ≡ m = (let g = f.is_top in cc) in
    let at = parts_say (top_of c.args.design.now) scopes (held_by c.in_ok-prepared.prepared.updates start.ahead) start.memories.items
    ∙ contents_filled c.args.design.now c.requires.accepted scopes c.in_ok-flat.flat.«module» f c.args.fill
    (held_by c.in_ok-prepared.prepared.updates start.ahead) start.memories.items c.in_ok-prepared.ensures.held c.in_ok-prepared.ensures.memories in
    subst (λ (x : Module). IsFilled x c.args.fill (held_at
    (parts_of (top_of c.args.design.now) scopes (held_by c.in_ok-prepared.prepared.updates start.ahead) start.memories.items) [])) same
    (subst (λ (u : AllContents). IsFilled f.top c.args.fill (u [])) (sym at) (part_filled f.top c.args.fill))

pub returns-clause-start : goal.returns-clause-start
returns-clause-start c = λ m e.
    let f = c.in_ok-flat.ensures in
    let scopes = c.in_ok-flat.flat.scopes.items in
    let start = c.in_ok-prepared.prepared.start in
    let same : f.top ≡ m = (let g = f.is_top in cc) in
    parts_say (top_of c.args.design.now) scopes (held_by c.in_ok-prepared.prepared.updates start.ahead) start.memories.items
    ∙ contents_filled c.args.design.now c.requires.accepted scopes c.in_ok-flat.flat.«module» f c.args.fill
    (held_by c.in_ok-prepared.prepared.updates start.ahead) start.memories.items c.in_ok-prepared.ensures.held c.in_ok-prepared.ensures.memories
    ∙ ap (λ x. filled c.args.design.now x c.args.fill) same

pub returns-clause-words : goal.returns-clause-words
returns-clause-words c = λ m e.
    let f = c.in_ok-flat.ensures in
    let scopes = c.in_ok-flat.flat.scopes.items in
    let start = c.in_ok-prepared.prepared.start in
    let same : f.top ≡ m = (let g = f.is_top in cc) in
    let at = parts_say (top_of c.args.design.now) scopes (held_by c.in_ok-prepared.prepared.updates start.ahead) start.memories.items
    ∙ contents_filled c.args.design.now c.requires.accepted scopes c.in_ok-flat.flat.«module» f c.args.fill
    (held_by c.in_ok-prepared.prepared.updates start.ahead) start.memories.items c.in_ok-prepared.ensures.held c.in_ok-prepared.ensures.memories in
    subst (λ (x : Module). AllHold c.args.design.now x (λ p. held_at
    (parts_of (top_of c.args.design.now) scopes (held_by c.in_ok-prepared.prepared.updates start.ahead) start.memories.items) p)) same
    (subst (AllHold c.args.design.now f.top) (sym at) (all_words c.args.design.now f.top c.args.fill))
