use Rattle.std.proofs.Common.{◌≡◌, ℕ, List, Some, length, set, sym, ap, ◌∙◌, arith}
use Rattle.std.specs.Prelude.{slice_get}
use Rattle.std.proofs.lemmas.List.{length-set}
use Rattle.rtl_ir.specs.declared.interface.KernelPorts.{KernelPorts}
use Rattle.rtl_ir.specs.declared.interface.ScalarPort.{ScalarPort}
use Rattle.rtl_ir.specs.declared.interface.StreamPorts.{StreamPorts}
use Rattle.rtl_ir.specs.Value.{bit}
use Rattle.verilog_sim.specs.Gifts.{kernel_gifts, scalar_gifts, input_gifts, output_gifts, written}
use Rattle.verilog_sim.proofs.Written.{length_written}
use Rattle.verilog_sim.proofs.GiftSteps.{all_written}
use Rattle.verilog_sim.proofs.Gifting.{kernel_nets, scalar_nets, input_nets, output_nets}
use Rattle.verilog_sim.proofs.drive.drive.Goals as goal

-- how many values there are after the first two, and after each list
after_two : (v a b : List ℕ) (n m x y : ℕ) → a ≡ set v n x → b ≡ set a m y → length b ≡ length v
after_two v a b n m x y e f = ap length f ∙ length-set a m y ∙ ap length e ∙ length-set v n x

after_list : (v a b : List ℕ) (gs : List (ℕ × ℕ)) → b ≡ written a gs → length a ≡ length v → length b ≡ length v
after_list v a b gs e same = ap length e ∙ length_written a gs ∙ same

pub set-requires : goal.set-requires
set-requires c = c.requires.nets.0

pub set-requires-2 : goal.set-requires-2
set-requires-2 c = omega (arith, c.requires.nets.1.0, ap length c.set.ensures, length-set c.args.values.now c.args.interface.now.clock 0)

pub drive_kernels-requires : goal.drive_kernels-requires
drive_kernels-requires c =
    let g = c.args.stimulus.now in
    let i = c.args.interface.now in
    let v = c.args.values.now in
    let size = after_two v c.set.new.self c.set-2.new.self i.clock i.reset 0 c.bit_of.result c.set.ensures c.set-2.ensures in
    record {
      nets = λ k x at.
          (let at' : slice_get i.kernels k ≡ Some x = ap (λ (l : List KernelPorts). slice_get l k) (sym c.as_slice-kernels.ensures) ∙ at in
          let r = kernel_nets (length v) i g.reset g.steady.now g.offers.now g.accepts.now g.holds.now c.requires.nets k x at' in
          (omega (arith, r.0, size), omega (arith, r.1, size)));
    }

pub drive_scalars-requires-clause-nets : goal.drive_scalars-requires-clause-nets
drive_scalars-requires-clause-nets c = λ k x at.
    let g = c.args.stimulus.now in
    let i = c.args.interface.now in
    let v = c.args.values.now in
    let two = after_two v c.set.new.self c.set-2.new.self i.clock i.reset 0 c.bit_of.result c.set.ensures c.set-2.ensures in
    let size = after_list v c.set-2.new.self c.drive_kernels.new.values
    (kernel_gifts g.steady.now g.holds.now 0 c.as_slice-kernels.result.now) c.drive_kernels.ensures two in
    let at' : slice_get i.scalars k ≡ Some x = ap (λ (l : List ScalarPort). slice_get l k) (sym c.as_slice.ensures) ∙ at in
    let r = scalar_nets (length v) i g.reset g.steady.now g.offers.now g.accepts.now g.holds.now c.requires.nets k x at' in
    omega (arith, r, size)

pub drive_inputs-requires : goal.drive_inputs-requires
drive_inputs-requires c =
    let g = c.args.stimulus.now in
    let i = c.args.interface.now in
    let v = c.args.values.now in
    let two = after_two v c.set.new.self c.set-2.new.self i.clock i.reset 0 c.bit_of.result c.set.ensures c.set-2.ensures in
    let three = after_list v c.set-2.new.self c.drive_kernels.new.values
    (kernel_gifts g.steady.now g.holds.now 0 c.as_slice-kernels.result.now) c.drive_kernels.ensures two in
    let size = after_list v c.drive_kernels.new.values c.drive_scalars.new.values
    (scalar_gifts g.steady.now (length c.as_slice-kernels.result.now) c.as_slice.result.now)
    c.drive_scalars.ensures three in
    record {
      nets = λ k x at.
          (let at' : slice_get i.inputs k ≡ Some x = ap (λ (l : List StreamPorts). slice_get l k) (sym c.as_slice-2.ensures) ∙ at in
          let r = input_nets (length v) i g.reset g.steady.now g.offers.now g.accepts.now g.holds.now c.requires.nets k x at' in
          (omega (arith, r.0, size), omega (arith, r.1, size)));
    }

pub drive_outputs-requires : goal.drive_outputs-requires
drive_outputs-requires c =
    let g = c.args.stimulus.now in
    let i = c.args.interface.now in
    let v = c.args.values.now in
    let two = after_two v c.set.new.self c.set-2.new.self i.clock i.reset 0 c.bit_of.result c.set.ensures c.set-2.ensures in
    let three = after_list v c.set-2.new.self c.drive_kernels.new.values
    (kernel_gifts g.steady.now g.holds.now 0 c.as_slice-kernels.result.now) c.drive_kernels.ensures two in
    let four = after_list v c.drive_kernels.new.values c.drive_scalars.new.values
    (scalar_gifts g.steady.now (length c.as_slice-kernels.result.now) c.as_slice.result.now)
    c.drive_scalars.ensures three in
    let size = after_list v c.drive_scalars.new.values c.drive_inputs.new.values
    (input_gifts g.offers.now 0 c.as_slice-2.result.now) c.drive_inputs.ensures four in
    record {
      nets = λ k x at.
          (let at' : slice_get i.outputs k ≡ Some x = ap (λ (l : List StreamPorts). slice_get l k) (sym c.as_slice-3.ensures) ∙ at in
          let r = output_nets (length v) i g.reset g.steady.now g.offers.now g.accepts.now g.holds.now c.requires.nets k x at' in
          omega (arith, r, size));
    }

pub returns : goal.returns
returns c =
    let g = c.args.stimulus.now in
    let i = c.args.interface.now in
    let v = c.args.values.now in
    let s = g.steady.now in
    let h = g.holds.now in
    all_written (set (set v i.clock 0) i.reset (bit g.reset)) c.drive_kernels.new.values c.drive_scalars.new.values
    c.drive_inputs.new.values c.drive_outputs.new.values
    (kernel_gifts s h 0 i.kernels) (scalar_gifts s (length i.kernels) i.scalars) (input_gifts g.offers.now 0 i.inputs) (output_gifts g.accepts.now 0 i.outputs)
    (c.drive_kernels.ensures
    ∙ ap (λ (l : List KernelPorts). written c.set-2.new.self (kernel_gifts s h 0 l)) c.as_slice-kernels.ensures
    ∙ ap (λ (l : List ℕ). written l (kernel_gifts s h 0 i.kernels))
    (c.set-2.ensures ∙ ap (λ (l : List ℕ). set l i.reset c.bit_of.result) c.set.ensures
    ∙ ap (set (set v i.clock 0) i.reset) c.bit_of.ensures))
    (c.drive_scalars.ensures
    ∙ ap (λ (n : ℕ). written c.drive_kernels.new.values (scalar_gifts s n c.as_slice.result.now)) (ap length c.as_slice-kernels.ensures)
    ∙ ap (λ (l : List ScalarPort). written c.drive_kernels.new.values (scalar_gifts s (length i.kernels) l)) c.as_slice.ensures)
    (c.drive_inputs.ensures ∙ ap (λ (l : List StreamPorts). written c.drive_scalars.new.values (input_gifts g.offers.now 0 l)) c.as_slice-2.ensures)
    (c.drive_outputs.ensures ∙ ap (λ (l : List StreamPorts). written c.drive_inputs.new.values (output_gifts g.accepts.now 0 l)) c.as_slice-3.ensures)
