use Rattle.std.proofs.Common.{◌≡◌, take}
use Rattle.std.specs.Prelude.{IsSome}
use Rattle.std.specs.List.{AllZip}
use Rattle.simulation.specs.Outputs.{ChangesOnlyOutputs}
use Rattle.maxjc_core.specs.ExpectEnds.{HoldsLines}
use Rattle.maxjc_core.proofs.expect_command.write_outputs.Given as goal

-- the outputs so far hold their words, and no other file has changed
abbrev pub invariant-loop-number : goal.invariant-loop-number
invariant-loop-number g l = record {
  written :
      IsSome (g.F.Files.held l.fn.files)
      → AllZip (HoldsLines (g.F.Files.held l.files)) (take l.number l.fn.outputs)
      (take l.number l.fn.words);
  only : ChangesOnlyOutputs l.fn.outputs (g.F.Files.held l.fn.files) (g.F.Files.held l.files);
  read_quiet : g.F.Files.read_faults l.files ≡ g.F.Files.read_faults l.fn.files;
  quiet : g.F.Files.write_faults l.files ≡ g.F.Files.write_faults l.fn.files;
}
