-- The ports of an interface by their numbers, and what is given to them.
use Rattle.std.proofs.Common.{◌≡◌, ℕ, zero, suc, ◌+◌, ◌-◌, ◌*◌, ◌<◌, Bool, false, List, [], ◌∷◌, length, map, get_or, Some, refl, sym, ap, ◌∙◌, subst, arith}
use Rattle.std.specs.Prelude.{slice_get}
use Rattle.std.proofs.lemmas.Option.{slice_get_within}
use Rattle.std.proofs.lemmas.List.{length-map, get_or-map, get_or_append_left, get_or-append_right}
use Rattle.rtl_ir.specs.declared.design.Module.{Module}
use Rattle.rtl_ir.specs.declared.interface.Interface.{Interface}
use Rattle.rtl_ir.specs.declared.interface.KernelPorts.{KernelPorts}
use Rattle.rtl_ir.specs.declared.interface.ScalarPort.{ScalarPort}
use Rattle.rtl_ir.specs.declared.interface.StreamPorts.{StreamPorts}
use Rattle.rtl_ir.specs.Interfaces.{IsInterface, shape_of, stream_shape, scalar_shape, stream_channel}
use Rattle.rtl_ir.specs.Ports.{shape_ports, first_scalar, first_input, first_output, net_at, second_nets_from, nets_from}
use Rattle.rtl_ir.specs.Run.{Channel, Outer}
use Rattle.verilog_sim.specs.declared.offer.Offer.{Offer}
use Rattle.verilog_sim.specs.Gifts.{gifts, kernel_gifts, scalar_gifts, input_gifts, output_gifts}
use Rattle.verilog_sim.proofs.Shapes.{ViewAt, PortAt, port_at, net_is, clock_at, reset_at, hold_at}
use Rattle.verilog_sim.proofs.Shapes.{ticks_at, scalar_at, word_at, valid_at, accept_at, nets_get}
use Rattle.verilog_sim.proofs.Shapes.{seconds_get, channels_get, channel_at, length_seconds}
use Rattle.verilog_sim.proofs.Rising.{InputAt, Rising, next, rising_append, rising_kernels, rising_scalars, rising_inputs_of, rising_outputs_of}

pub got : {A : Type 0} (xs : List A) (k : ℕ) (x d : A) → slice_get xs k ≡ Some x → get_or xs k d ≡ x
got [] k x d e = absurd (cc)
got (y ∷ ys) zero x d e = (let r : y ≡ x = cc in r)
got (y ∷ ys) (suc k) x d e = got ys k x d e

module _ (m : Module) (i : Interface) (is : IsInterface m i) where
  kernels : length (shape_of i).kernels ≡ length i.kernels
  kernels = length-map i.kernels (λ (k : KernelPorts). k.name)

  scalars : length (shape_of i).scalars ≡ length i.scalars
  scalars = length-map i.scalars scalar_shape

  inputs : length (shape_of i).inputs ≡ length i.inputs
  inputs = length-map i.inputs stream_shape

  outputs : length (shape_of i).outputs ≡ length i.outputs
  outputs = length-map i.outputs stream_shape

  input_here : (k w n : ℕ) → PortAt m k w false → n ≡ net_at m k → InputAt m.ports k n
  input_here k w n p e = record { port = p.port; at = p.at; input = p.output; net = sym (net_is m k w false p) ∙ sym e }

  hold_net : (k : ℕ) (x : KernelPorts) → slice_get i.kernels k ≡ Some x → x.hold ≡ net_at m (2 + 2 * k)
  hold_net k x at =
      let within = slice_get_within i.kernels k x at in
      ap (λ (y : KernelPorts). y.hold) (sym (got i.kernels k x x at))
      ∙ sym (get_or-map (λ (y : KernelPorts). y.hold) i.kernels k x 0 within)
      ∙ ap (λ (o : Outer). get_or o.holds k 0) is.nets
      ∙ seconds_get m 2 k (shape_of i).kernels (omega (arith, within, kernels))

  ticks_net : (k : ℕ) (x : KernelPorts) → slice_get i.kernels k ≡ Some x → x.ticks ≡ net_at m (3 + 2 * k)
  ticks_net k x at =
      let within = slice_get_within i.kernels k x at in
      ap (λ (y : KernelPorts). y.ticks) (sym (got i.kernels k x x at))
      ∙ sym (get_or-map (λ (y : KernelPorts). y.ticks) i.kernels k x 0 within)
      ∙ sym (get_or_append_left (map (λ (y : KernelPorts). y.ticks) i.kernels)
      (map (λ (s : ScalarPort). s.net) i.scalars) 0 k (omega
      (arith, within, length-map i.kernels (λ (y : KernelPorts). y.ticks))))
      ∙ ap (λ (o : Outer). get_or o.steady k 0) is.nets
      ∙ get_or_append_left (second_nets_from m 3 (shape_of i).kernels)
      (nets_from m (first_scalar (shape_of i)) (shape_of i).scalars) 0 k
      (omega (arith, within, kernels, length_seconds m 3 (shape_of i).kernels))
      ∙ seconds_get m 3 k (shape_of i).kernels (omega (arith, within, kernels))

  scalar_net : (k : ℕ) (x : ScalarPort) → slice_get i.scalars k ≡ Some x → x.net ≡ net_at m (first_scalar (shape_of i) + k)
  scalar_net k x at =
      let within = slice_get_within i.scalars k x at in
      let j : ℕ = length i.kernels + k in
      let back : j - length i.kernels ≡ k = omega arith in
      ap (λ (y : ScalarPort). y.net) (sym (got i.scalars k x x at))
      ∙ sym (get_or-map (λ (y : ScalarPort). y.net) i.scalars k x 0 within)
      ∙ ap (λ n. get_or (map (λ (s : ScalarPort). s.net) i.scalars) n 0) (sym back)
      ∙ sym (get_or-append_right (map (λ (y : KernelPorts). y.ticks) i.kernels)
      (map (λ (s : ScalarPort). s.net) i.scalars) (length i.kernels) j 0
      (length-map i.kernels (λ (y : KernelPorts). y.ticks)) (omega arith))
      ∙ ap (λ (o : Outer). get_or o.steady j 0) is.nets
      ∙ get_or-append_right (second_nets_from m 3 (shape_of i).kernels)
      (nets_from m (first_scalar (shape_of i)) (shape_of i).scalars) (length i.kernels) j 0
      (length_seconds m 3 (shape_of i).kernels ∙ kernels) (omega arith)
      ∙ ap (λ n. get_or (nets_from m (first_scalar (shape_of i)) (shape_of i).scalars) n 0) back
      ∙ nets_get m (first_scalar (shape_of i)) k (shape_of i).scalars (omega (arith, within, scalars))

  pub input_net : (k : ℕ) (x : StreamPorts) → slice_get i.inputs k ≡ Some x → stream_channel x ≡ channel_at m (first_input (shape_of i) + 3 * k)
  input_net k x at =
      let within = slice_get_within i.inputs k x at in
      ap stream_channel (sym (got i.inputs k x x at))
      ∙ sym (get_or-map stream_channel i.inputs k x (channel_at m 0) within)
      ∙ ap (λ (o : Outer). get_or o.inputs k (channel_at m 0)) is.nets
      ∙ channels_get m (first_input (shape_of i)) k (shape_of i).inputs (channel_at m 0) (omega (arith, within, inputs))

  pub output_net : (k : ℕ) (x : StreamPorts) → slice_get i.outputs k ≡ Some x → stream_channel x ≡ channel_at m (first_output (shape_of i) + 3 * k)
  output_net k x at =
      let within = slice_get_within i.outputs k x at in
      ap stream_channel (sym (got i.outputs k x x at))
      ∙ sym (get_or-map stream_channel i.outputs k x (channel_at m 0) within)
      ∙ ap (λ (o : Outer). get_or o.outputs k (channel_at m 0)) is.nets
      ∙ channels_get m (first_output (shape_of i)) k (shape_of i).outputs (channel_at m 0) (omega (arith, within, outputs))

  port : (k w : ℕ) → ViewAt (shape_ports (shape_of i)) k w false → (n : ℕ) → n ≡ net_at m k → InputAt m.ports k n
  port k w v n e = input_here k w n (port_at m (shape_of i) k w false is.shape v) e

  of_kernel : (k : ℕ) (x : KernelPorts) → slice_get i.kernels k ≡ Some x → InputAt m.ports (2 + 2 * k) x.hold × InputAt m.ports (2 + 2 * k + 1) x.ticks
  of_kernel k x at =
      let within = slice_get_within i.kernels k x at in
      let less : k < length (shape_of i).kernels = omega (arith, within, kernels) in
      let e : 3 + 2 * k ≡ 2 + 2 * k + 1 = omega arith in (
        port (2 + 2 * k) 1 (hold_at (shape_of i) k (2 + 2 * k) less refl) x.hold (hold_net k x at),
        subst (λ (n : ℕ). InputAt m.ports n x.ticks) e (port (3 + 2 * k) 48 (ticks_at (shape_of i) k (3 + 2 * k) less refl) x.ticks (ticks_net k x at)),
      )

  of_scalar : (k : ℕ) (x : ScalarPort) → slice_get i.scalars k ≡ Some x → InputAt m.ports (first_scalar (shape_of i) + k) x.net
  of_scalar k x at =
      let within = slice_get_within i.scalars k x at in
      let v = scalar_at (shape_of i) k (first_scalar (shape_of i) + k) (omega (arith, within, scalars)) refl in
      port (first_scalar (shape_of i) + k) v.0 v.1 x.net (scalar_net k x at)

  of_input : (k : ℕ) (x : StreamPorts) → slice_get i.inputs k ≡ Some x
      → InputAt m.ports (first_input (shape_of i) + 3 * k) x.word
      × InputAt m.ports (first_input (shape_of i) + 3 * k + 1) x.valid
  of_input k x at =
      let within = slice_get_within i.inputs k x at in
      let less : k < length (shape_of i).inputs = omega (arith, within, inputs) in
      let place : first_input (shape_of i) + 3 * k + 1 ≡ first_input (shape_of i) + 1 + 3 * k = omega arith in
      let v = word_at (shape_of i) k (first_input (shape_of i) + 3 * k) less refl in (
        port (first_input (shape_of i) + 3 * k) v.0 v.1 x.word (ap (λ (c : Channel). c.word) (input_net k x at)),
        port (first_input (shape_of i) + 3 * k + 1) 1 (valid_at (shape_of i) k (first_input (shape_of i) + 3 * k + 1)
            less place) x.valid (ap (λ (c : Channel). c.valid) (input_net k x at)),
      )

  of_output : (k : ℕ) (x : StreamPorts) → slice_get i.outputs k ≡ Some x → InputAt m.ports (first_output (shape_of i) + 3 * k + 2) x.ready
  of_output k x at =
      let within = slice_get_within i.outputs k x at in
      let less : k < length (shape_of i).outputs = omega (arith, within, outputs) in
      let place : first_output (shape_of i) + 3 * k + 2 ≡ first_output (shape_of i) + 2 + 3 * k = omega arith in
      port (first_output (shape_of i) + 3 * k + 2) 1 (accept_at (shape_of i) k (first_output (shape_of i) + 3 * k + 2)
      less place) x.ready (ap (λ (c : Channel). c.ready) (output_net k x at))

  -- what is given is given to input ports, one port after another
  pub gifts_rise : (reset : Bool) (steady : List ℕ) (offers : List Offer) (accepts holds : List Bool)
      → Rising m.ports 0 (gifts i reset steady offers accepts holds) (first_output (shape_of i) + 3 * length i.outputs)
  gifts_rise reset steady offers accepts holds =
      next 0 (omega arith) (port 0 1 (clock_at (shape_of i)) i.clock (ap (λ (o : Outer). o.clock) is.nets))
      (next 1 (omega arith) (port 1 1 (reset_at (shape_of i)) i.reset (ap (λ (o : Outer). o.reset) is.nets))
      (rising_append m.ports (rising_append m.ports (rising_append m.ports ks ss) xs) ys))
    where
      ks : Rising m.ports 2 (kernel_gifts steady holds 0 i.kernels) (first_scalar (shape_of i))
      ks = let e : 2 + 2 * length i.kernels ≡ first_scalar (shape_of i) = omega (arith, kernels) in subst
          (λ (n : ℕ). Rising m.ports 2 (kernel_gifts steady holds 0 i.kernels) n) e
          (rising_kernels m.ports steady holds 0 2 i.kernels of_kernel)

      ss : Rising m.ports (first_scalar (shape_of i)) (scalar_gifts steady (length i.kernels) i.scalars) (first_input (shape_of i))
      ss = let e : first_scalar (shape_of i) + length i.scalars ≡ first_input (shape_of i) = omega
          (arith, scalars) in subst (λ (n : ℕ). Rising m.ports (first_scalar (shape_of i))
          (scalar_gifts steady (length i.kernels) i.scalars) n) e
          (rising_scalars m.ports steady (length i.kernels) (first_scalar (shape_of i)) i.scalars of_scalar)

      xs : Rising m.ports (first_input (shape_of i)) (input_gifts offers 0 i.inputs) (first_output (shape_of i))
      xs = let e : first_input (shape_of i) + 3 * length i.inputs ≡ first_output (shape_of i) = omega
          (arith, inputs) in subst (λ (n : ℕ). Rising m.ports (first_input (shape_of i))
          (input_gifts offers 0 i.inputs) n) e (rising_inputs_of m.ports offers 0 (first_input (shape_of i)) i.inputs
          of_input)

      ys : Rising m.ports (first_output (shape_of i)) (output_gifts accepts 0 i.outputs) (first_output (shape_of i) + 3 * length i.outputs)
      ys = rising_outputs_of m.ports accepts 0 (first_output (shape_of i)) i.outputs of_output
