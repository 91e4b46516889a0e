use Rattle.std.proofs.Common.{◌≡◌, ℕ, Some, map, take}
use Rattle.mx_base.specs.Files.{Name}
use Rattle.rtl_ir.specs.declared.interface.StreamPorts.{StreamPorts}
use Rattle.simulation.specs.Plans.{look_up}
use Rattle.simulation.proofs.planning.files.Given as goal

-- the files and widths of the streams so far
abbrev pub invariant-loop-stream : goal.invariant-loop-stream
invariant-loop-stream l = record {
  names : map (λ (f : Name × ℕ). Some f.0) l.files ≡ map (λ (s : StreamPorts). look_up l.fn.list s.name) (take l.stream-index l.stream-items);
  widths : map (λ (f : Name × ℕ). f.1) l.files ≡ map (λ (s : StreamPorts). s.width) (take l.stream-index l.stream-items);
}
