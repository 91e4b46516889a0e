use Rattle.std.proofs.Common.{◌≡◌, ℕ, List, map}
use Rattle.simulation.specs.Outputs.{ChangesOnlyOutputs}
use Rattle.simulation.specs.Outward.{output_of, ArePut}
use Rattle.simulation.proofs.Writing.{some_moved}
use Rattle.simulation.proofs.outputs.put_all.Given as goal

abbrev pub invariant-loop-k : goal.invariant-loop-k
invariant-loop-k g l = record {
  named : map output_of l.outputs ≡ map output_of l.fn.outputs;
  put : (words : ℕ → List ℕ) → ArePut (g.F.Files.held l.fn.files) words l.fn.outputs → ArePut (g.F.Files.held l.files) (some_moved words l.events l.k) l.outputs;
  others : ChangesOnlyOutputs (map output_of l.fn.outputs) (g.F.Files.held l.fn.files) (g.F.Files.held l.files);
  read_quiet : g.F.Files.read_faults l.files ≡ g.F.Files.read_faults l.fn.files;
  quiet : g.F.Files.write_faults l.files ≡ g.F.Files.write_faults l.fn.files;
}
