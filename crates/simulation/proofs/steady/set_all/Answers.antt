use Rattle.std.proofs.Common.{◌≡◌, ◌<◌, ◌+◌, ℕ, List, ◌++◌, set, take, length, get_or, ap, sym, ◌∙◌, arith}
use Rattle.std.proofs.lemmas.List.{length-set, length-append, take_more_same, take-set, take_all, get_or-set_same}
use Rattle.std.proofs.lemmas.Option.{slice_get-get_or}
use Rattle.rtl_ir.specs.Flat.{top_of}
use Rattle.verilog_sim.specs.State.{State}
use Rattle.simulation.proofs.steady.set_all.Goals as goal

pub set-requires-clause-port : goal.set-requires-clause-port
set-requires-clause-port c = omega (arith, c.loop-port.invariant.size, c.requires.ports)

pub set-requires-clause-value : goal.set-requires-clause-value
set-requires-clause-value c = λ m top.
    let l = c.loop-port in
    let all = c.args.ticks.now ++ c.args.scalars.now in
    let lt : l.port < length all = omega (arith, length-append c.args.ticks.now c.args.scalars.now) in
    let fits = c.requires.widths m (ap (λ (s : State). top_of s.design) (sym l.invariant.kept) ∙ top) l.port (get_or all l.port 0) (slice_get-get_or all l.port 0 lt) in
    rw (c.value_at.ensures, l.invariant.kept) fits

pub loop-port-preserved : goal.loop-port-preserved
loop-port-preserved c =
    let l = c.loop-port in
    let all = c.args.ticks.now ++ c.args.scalars.now in
    let steady : c.set.new.self.steady ≡ set l.sim.steady l.port c.value_at.result = ap (λ (s : State). s.steady) c.set.ensures in
    let lt : l.port < length all = omega (arith, length-append c.args.ticks.now c.args.scalars.now) in
    let less : l.port < length l.sim.steady = omega (arith, l.invariant.size, c.requires.ports) in
    record {
      size = ap length steady ∙ length-set l.sim.steady l.port c.value_at.result ∙ l.invariant.size;
      kept = c.set.ensures ∙ ap (λ (s : State). record s
          { steady = set l.sim.steady l.port c.value_at.result }) l.invariant.kept ∙ ap
          (λ (x : List ℕ). record c.args.sim.now { steady = x }) (sym steady);
      set = ap (take (l.port + 1)) steady ∙ take_more_same
          (set l.sim.steady l.port c.value_at.result) all l.port 0 (omega (
            arith,
            length-set l.sim.steady l.port c.value_at.result,
          )) lt
          (take-set l.sim.steady l.port c.value_at.result ∙ l.invariant.set)
          (get_or-set_same l.sim.steady l.port c.value_at.result 0 less ∙ c.value_at.ensures);
    }

pub returns : goal.returns
returns c =
    let l = c.loop-port in
    let all = c.args.ticks.now ++ c.args.scalars.now in
    let size = length-append c.args.ticks.now c.args.scalars.now in
    let set : l.sim.steady ≡ all = sym (take_all l.port l.sim.steady (omega (arith, l.invariant.size, c.requires.ports))) ∙ l.invariant.set ∙ take_all l.port all (omega (arith, size)) in
    l.invariant.kept ∙ ap (λ (x : List ℕ). record c.args.sim.now { steady = x }) set
