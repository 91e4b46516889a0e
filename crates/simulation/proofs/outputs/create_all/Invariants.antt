use Rattle.std.proofs.Common.{◌≡◌, [], length, map}
use Rattle.std.specs.Prelude.{IsSome}
use Rattle.simulation.specs.Outputs.{ChangesOnlyOutputs}
use Rattle.simulation.specs.Outward.{output_of, ArePut}
use Rattle.simulation.proofs.Stopping.{StayBehind}
use Rattle.simulation.proofs.outputs.create_all.Given as goal

abbrev pub invariant-loop-name : goal.invariant-loop-name
invariant-loop-name g l = record {
  named : map output_of l.outputs.items ≡ l.yielded;
  made : IsSome (g.F.Files.held l.fn.files) → ArePut (g.F.Files.held l.files) (λ k. []) l.outputs.items;
  stay : StayBehind (length l.yielded) l.fn.named (g.F.Files.held l.fn.files) (g.F.Files.held l.files);
  others : ChangesOnlyOutputs l.fn.named (g.F.Files.held l.fn.files) (g.F.Files.held l.files);
  read_quiet : g.F.Files.read_faults l.files ≡ g.F.Files.read_faults l.fn.files;
  quiet : g.F.Files.write_faults l.files ≡ g.F.Files.write_faults l.fn.files;
}
