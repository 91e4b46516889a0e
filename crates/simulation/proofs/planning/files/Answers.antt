use Rattle.std.proofs.Common.{ℕ, Some, map, refl, sym, ap, ◌∙◌}
use Rattle.mx_base.specs.Files.{Name}
use Rattle.rtl_ir.specs.declared.interface.StreamPorts.{StreamPorts}
use Rattle.simulation.specs.Plans.{look_up}
use Rattle.simulation.proofs.LookUps.{found_value, port_there, has_name, one_mapped}
use Rattle.simulation.proofs.planning.files.Goals as goal

pub index-requires : goal.index-requires
index-requires c =
    has_name c.in_ok-named.named c.args.list.now c.as_bytes.result.now c.stream-item.result.name c.as_bytes.ensures c.in_ok-named.ensures
    (port_there c.args.list.now (λ
    (s : StreamPorts). s.name) c.args.streams.now c.as_slice-stream-items.result.now
    c.loop-stream.stream-index c.stream-item.result c.requires
    c.as_slice-stream-items.ensures c.loop-stream-test.true c.stream-item.is)

pub loop-stream-preserved : goal.loop-stream-preserved
loop-stream-preserved c =
    let found = found_value c.in_ok-named.named c.args.list.now c.as_bytes.result.now c.stream-item.result.name c.index.result.now c.as_bytes.ensures c.in_ok-named.ensures c.index.ensures in
    let file : Name × ℕ = (c.in_ok-copy.field-0, c.stream-item.result.width) in
    record {
      names =
          ap (map (λ (f : Name × ℕ). Some f.0)) c.in_ok-push.ensures.ok
          ∙ one_mapped (λ (f : Name × ℕ). Some f.0) (λ
          (s : StreamPorts). look_up c.args.list.now s.name) c.loop-stream.files file
          c.as_slice-stream-items.result.now c.loop-stream.stream-index c.stream-item.result
          c.loop-stream-test.true c.stream-item.is
          (ap Some c.in_ok-copy.ensures ∙ sym found) c.loop-stream.invariant.names;
      widths =
          ap (map (λ (f : Name × ℕ). f.1)) c.in_ok-push.ensures.ok
          ∙ one_mapped (λ (f : Name × ℕ). f.1) (λ
          (s : StreamPorts). s.width) c.loop-stream.files file
          c.as_slice-stream-items.result.now c.loop-stream.stream-index c.stream-item.result
          c.loop-stream-test.true c.stream-item.is refl c.loop-stream.invariant.widths;
    }
