use Rattle.std.proofs.Common.{◌≡◌, ◌^◌, ◌<◌, ℕ, Some, List, map, slice_index_or}
use Rattle.std.specs.Prelude.{slice_get}
use Rattle.mx_base.specs.Files.{Name}
use Rattle.verilog_sim.specs.Calls.{nothing}
use Rattle.simulation.specs.Inputs.{InputFile}
use Rattle.simulation.specs.Inward.{input_of, AreUnrefused, AreAt, AreReady}
use Rattle.simulation.proofs.inputs.offer_all.Given as goal

abbrev pub invariant-loop-k : goal.invariant-loop-k
invariant-loop-k g l = record {
  same : g.F.Files.held l.files ≡ g.F.Files.held l.fn.files;
  quiet : g.F.Files.read_faults l.files ≡ g.F.Files.read_faults l.fn.files;
  write_quiet : g.F.Files.write_faults l.files ≡ g.F.Files.write_faults l.fn.files;
  named : map input_of l.inputs ≡ map input_of l.fn.inputs;
  unrefused : AreUnrefused l.inputs;
  words : (j : ℕ) (i : Name × ℕ) → j < l.k → slice_get (map input_of l.fn.inputs) j ≡ Some i → (slice_index_or l.offers j nothing).word < 2 ^ i.1;
  stand : (fs : List InputFile) (lefts : List (List ℕ)) → AreAt (g.F.Files.held l.fn.files) fs lefts l.fn.inputs → AreAt (g.F.Files.held l.fn.files) fs lefts l.inputs;
  ready : (fs : List InputFile) (lefts : List (List ℕ)) → AreAt (g.F.Files.held l.fn.files) fs lefts l.fn.inputs → AreReady (g.F.Files.held l.fn.files) l.stalled fs lefts l.inputs l.offers l.k;
}
