use Rattle.std.proofs.Common.{◌≡◌, ◌≤◌, ◌<◌, ℕ, List, Some, map}
use Rattle.std.specs.Prelude.{slice_get}
use Rattle.mx_base.specs.Files.{Name, Holds}
use Rattle.simulation.specs.Outputs.{ChangesOnlyOutputs, lines_of_words}
use Rattle.simulation.specs.Outward.{output_of, IsPut, ArePut}
use Rattle.simulation.specs.declared.output.Output.{Output}
use Rattle.simulation.proofs.outputs.flush_all.Given as goal

abbrev pub invariant-loop-k : goal.invariant-loop-k
invariant-loop-k g l = record {
  named : map output_of l.outputs ≡ map output_of l.fn.outputs;
  whole : (words : ℕ → List ℕ) → ArePut (g.F.Files.held l.fn.files) words l.fn.outputs
      → (j : ℕ) (o : Name × ℕ) → j < l.k → slice_get (map output_of l.fn.outputs) j ≡ Some o
      → Holds (g.F.Files.held l.files) o.0 (lines_of_words o.1 (words j));
  rest : (words : ℕ → List ℕ) → ArePut (g.F.Files.held l.fn.files) words l.fn.outputs → (j : ℕ) (o : Output) → l.k ≤ j → slice_get l.outputs j ≡ Some o → IsPut (g.F.Files.held l.files) (words j) o;
  others : ChangesOnlyOutputs (map output_of l.fn.outputs) (g.F.Files.held l.fn.files) (g.F.Files.held l.files);
  read_quiet : g.F.Files.read_faults l.files ≡ g.F.Files.read_faults l.fn.files;
  quiet : g.F.Files.write_faults l.files ≡ g.F.Files.write_faults l.fn.files;
}
