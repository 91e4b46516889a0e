use Rattle.std.proofs.Common.{◌≡◌, take}
use Rattle.std.specs.Prelude.{IsSome}
use Rattle.std.specs.List.{AllZip}
use Rattle.maxjc_core.specs.ExpectStops.{AreWithin}
use Rattle.maxjc_core.specs.InputWords.{readings_of, HaveWords}
use Rattle.maxjc_core.proofs.input_words.input_words.Given as goal

-- the files so far were read, and nothing has changed
abbrev pub invariant-loop-number : goal.invariant-loop-number
invariant-loop-number g l = record {
  same : g.F.Files.held l.files ≡ g.F.Files.held l.fn.files;
  read_quiet : g.F.Files.read_faults l.files ≡ g.F.Files.read_faults l.fn.files;
  write_quiet : g.F.Files.write_faults l.files ≡ g.F.Files.write_faults l.fn.files;
  words :
      IsSome (g.F.Files.held l.fn.files)
      → HaveWords (g.F.Files.held l.fn.files)
      (take l.number (readings_of l.fn.plan.ticks l.fn.hosts l.fn.plan.inputs)) l.lists;
  within :
      AllZip AreWithin (take l.number (readings_of l.fn.plan.ticks l.fn.hosts l.fn.plan.inputs))
      l.lists;
}
