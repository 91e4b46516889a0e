use Rattle.std.proofs.Common.{◌≡◌, map}
use Rattle.std.specs.Prelude.{IsSome}
use Rattle.simulation.specs.Benches.{IsBench, IsSetup, Begins, Going}
use Rattle.simulation.specs.Outputs.{ChangesOnlyOutputs}
use Rattle.simulation.specs.Outward.{output_of, IsBegunAt}
use Rattle.simulation.specs.Runs.{Setup}
use Rattle.simulation.proofs.bench.Bench.run.Given as goal

abbrev pub invariant-loop-edge : goal.invariant-loop-edge
invariant-loop-edge g l = record {
  bench : IsBench l.self;
  begun : IsSome (g.F.Files.held l.fn.files) → IsBegunAt (g.F.Files.held l.files) l.self.outputs.items;
  named : map output_of l.self.outputs.items ≡ map output_of l.fn.self.outputs.items;
  design : l.self.sim.design ≡ l.fn.self.sim.design;
  others : ChangesOnlyOutputs (map output_of l.fn.self.outputs.items) (g.F.Files.held l.fn.files) (g.F.Files.held l.files);
  read_quiet : g.F.Files.read_faults l.files ≡ g.F.Files.read_faults l.fn.files;
  write_quiet : g.F.Files.write_faults l.files ≡ g.F.Files.write_faults l.fn.files;
  going : (s : Setup) → IsSetup s l.pick l.fn.edges
      → (IsSome (g.F.Files.held l.fn.files) → Begins s (g.F.Files.held l.fn.files) l.fn.self.sim l.fn.self.inputs.items l.fn.self.outputs.items)
      → IsSome (g.F.Files.held l.fn.files)
      → Going (λ pick edge port answer. g.G.Fn.post l.stalls.test (
        pick,
        (edge, (port, tt)),
      ) answer) s
      (g.F.Files.held l.files) l.self.sim l.self.inputs.items l.self.outputs.items l.edge;
}
