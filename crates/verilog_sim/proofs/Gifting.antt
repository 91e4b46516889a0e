-- What is given to the ports of a module that can be simulated.
use Rattle.std.proofs.Common.{◌≡◌, ℕ, suc, ◌+◌, ◌-◌, ◌*◌, ◌^◌, ◌<◌, ◌≤◌, Bool, true, false, List, [], ◌∷◌, ◌++◌, length, map, get_or, Some, refl, sym, ap, ◌∙◌, subst, arith}
use Rattle.std.specs.Prelude.{slice_get, option_map}
use Rattle.std.proofs.lemmas.Bool.{false≢true}
use Rattle.std.proofs.lemmas.Nat.{pow_pos}
use Rattle.std.proofs.lemmas.Option.{slice_get_within, slice_get-map, slice_get-get_or}
use Rattle.std.proofs.lemmas.List.{length-map, get_or-map, get_or_append_left, get_or-append_right}
use Rattle.rtl_ir.specs.declared.design.Module.{Module}
use Rattle.rtl_ir.specs.declared.design.Assign.{Assign}
use Rattle.rtl_ir.specs.declared.design.Port.{Port}
use Rattle.rtl_ir.specs.declared.interface.Interface.{Interface}
use Rattle.rtl_ir.specs.declared.interface.KernelPorts.{KernelPorts}
use Rattle.rtl_ir.specs.declared.interface.ScalarPort.{ScalarPort}
use Rattle.rtl_ir.specs.declared.interface.StreamPorts.{StreamPorts}
use Rattle.rtl_ir.specs.Interfaces.{IsInterface, nets_of, shape_of, stream_channel}
use Rattle.rtl_ir.specs.Ports.{first_output, done_port, port_net, port_view}
use Rattle.rtl_ir.specs.Run.{Outer}
use Rattle.rtl_ir.specs.Typed.{is_input, is_given}
use Rattle.rtl_ir.specs.Value.{width_of, is_reg}
use Rattle.rtl_ir.proofs.Ports.{input_at}
use Rattle.verilog_sim.specs.declared.offer.Offer.{Offer}
use Rattle.verilog_sim.specs.Calls.{nothing}
use Rattle.verilog_sim.specs.Gifts.{Every, gifts, kernel_gifts, scalar_gifts, input_gifts, output_gifts, written}
use Rattle.verilog_sim.specs.Settled.{AreWords, Settles}
use Rattle.verilog_sim.specs.Simulates.{IsSimulable, AreConstant, AreOffered, IsEvaluatedBy}
use Rattle.verilog_sim.proofs.Compiling.{width_in}
use Rattle.verilog_sim.proofs.Evaluated.{given_input}
use Rattle.verilog_sim.proofs.Outer.{bit_fits}
use Rattle.verilog_sim.proofs.Shapes.{length_shape}
use Rattle.verilog_sim.proofs.Written.{Apart, length_written, written_other, written_all, written_fits}
use Rattle.verilog_sim.proofs.Rising.{Rising, rising_apart, rising_inputs, rising_within}
use Rattle.verilog_sim.proofs.Facing.{got, gifts_rise}
use Rattle.verilog_sim.proofs.Told.{all_left, all_right}
use Rattle.verilog_sim.proofs.GiftSteps.{kernels_within, scalars_within, inputs_within, outputs_within}

pub every_map : {A : Type 0} {P Q : A → Type 0} → ((x : A) → P x → Q x) → (xs : List A) → Every P xs → Every Q xs
every_map f [] e = tt
every_map f (x ∷ xs) e = (f x e.0, every_map f xs e.1)

every_append : {A : Type 0} (P : A → Type 0) (xs ys : List A) → Every P xs → Every P ys → Every P (xs ++ ys)
every_append P [] ys a b = b
every_append P (x ∷ xs) ys a b = (a.0, every_append P xs ys a.1 b)

-- ---- the nets of what is given, where all are among so many
module _ (n : ℕ) (i : Interface) (reset : Bool) (steady : List ℕ) (offers : List Offer) (accepts holds : List Bool)
    (e : Every (λ (g : ℕ × ℕ). g.0 < n) (gifts i reset steady offers accepts holds)) where
  abbrev P : ℕ × ℕ → Type 0
  P g = g.0 < n

  abbrev ks : List (ℕ × ℕ)
  ks = kernel_gifts steady holds 0 i.kernels

  abbrev ss : List (ℕ × ℕ)
  ss = scalar_gifts steady (length i.kernels) i.scalars

  abbrev xs : List (ℕ × ℕ)
  xs = input_gifts offers 0 i.inputs

  abbrev ys : List (ℕ × ℕ)
  ys = output_gifts accepts 0 i.outputs

  pub kernel_nets : (k : ℕ) (x : KernelPorts) → slice_get i.kernels k ≡ Some x → (x.hold < n) × (x.ticks < n)
  kernel_nets = kernels_within n steady holds 0 i.kernels (all_left P ks ss (all_left P (ks ++ ss) xs (all_left P (ks ++ ss ++ xs) ys e.1.1)))

  pub scalar_nets : (k : ℕ) (x : ScalarPort) → slice_get i.scalars k ≡ Some x → x.net < n
  scalar_nets = scalars_within n steady (length i.kernels) i.scalars (all_right P ks ss (all_left P (ks ++ ss) xs (all_left P (ks ++ ss ++ xs) ys e.1.1)))

  pub input_nets : (k : ℕ) (x : StreamPorts) → slice_get i.inputs k ≡ Some x → (x.word < n) × (x.valid < n)
  input_nets = inputs_within n offers 0 i.inputs (all_right P (ks ++ ss) xs (all_left P (ks ++ ss ++ xs) ys e.1.1))

  pub output_nets : (k : ℕ) (x : StreamPorts) → slice_get i.outputs k ≡ Some x → x.ready < n
  output_nets = outputs_within n accepts 0 i.outputs (all_right P (ks ++ ss ++ xs) ys e.1.1)

-- ---- what is given has the widths of its nets
module _ (w : ℕ → ℕ) where
  abbrev Fit : ℕ × ℕ → Type 0
  Fit g = g.1 < 2 ^ w g.0

  kernels_fit :
      (steady : List ℕ) (holds : List Bool) (j : ℕ) (xs : List KernelPorts)
      → ((k : ℕ) (x : KernelPorts) → slice_get xs k ≡ Some x → (1 ≤ w x.hold) × (get_or steady (j + k) 0 < 2 ^ w x.ticks))
      → Every Fit (kernel_gifts steady holds j xs)
  kernels_fit steady holds j [] f = tt
  kernels_fit steady holds j (x ∷ xs) f =
      let here = f 0 x refl in
      let e : j + 0 ≡ j = omega arith in (
        bit_fits (get_or holds j false) (w x.hold) here.0,
        (subst (λ (n : ℕ). get_or steady n 0 < 2 ^ w x.ticks) e here.1, kernels_fit steady holds (j + 1) xs rest),
      )
    where
      rest : (k : ℕ) (y : KernelPorts) → slice_get xs k ≡ Some y → (1 ≤ w y.hold) × (get_or steady (j + 1 + k) 0 < 2 ^ w y.ticks)
      rest k y at = let e : j + suc k ≡ j + 1 + k = omega arith in subst (λ (n : ℕ). (1 ≤ w y.hold) × (get_or steady n 0 < 2 ^ w y.ticks)) e (f (suc k) y at)

  scalars_fit :
      (steady : List ℕ) (j : ℕ) (xs : List ScalarPort) → ((k : ℕ) (x : ScalarPort) → slice_get xs k ≡ Some x → get_or steady (j + k) 0 < 2 ^ w x.net)
      → Every Fit (scalar_gifts steady j xs)
  scalars_fit steady j [] f = tt
  scalars_fit steady j (x ∷ xs) f =
      let e : j + 0 ≡ j = omega arith in
      (subst (λ (n : ℕ). get_or steady n 0 < 2 ^ w x.net) e (f 0 x refl), scalars_fit steady (j + 1) xs rest)
    where
      rest : (k : ℕ) (y : ScalarPort) → slice_get xs k ≡ Some y → get_or steady (j + 1 + k) 0 < 2 ^ w y.net
      rest k y at = let e : j + suc k ≡ j + 1 + k = omega arith in subst (λ (n : ℕ). get_or steady n 0 < 2 ^ w y.net) e (f (suc k) y at)

  inputs_fit :
      (offers : List Offer) (j : ℕ) (xs : List StreamPorts)
      → ((k : ℕ) (x : StreamPorts) → slice_get xs k ≡ Some x → (1 ≤ w x.valid) × ((get_or offers (j + k) nothing).word < 2 ^ w x.word))
      → Every Fit (input_gifts offers j xs)
  inputs_fit offers j [] f = tt
  inputs_fit offers j (x ∷ xs) f =
      let here = f 0 x refl in
      let e : j + 0 ≡ j = omega arith in (
        subst (λ (n : ℕ). (get_or offers n nothing).word < 2 ^ w x.word) e here.1,
        (bit_fits (get_or offers j nothing).valid (w x.valid) here.0, inputs_fit offers (j + 1) xs rest),
      )
    where
      rest : (k : ℕ) (y : StreamPorts) → slice_get xs k ≡ Some y → (1 ≤ w y.valid) × ((get_or offers (j + 1 + k) nothing).word < 2 ^ w y.word)
      rest k y at = let e : j + suc k ≡ j + 1 + k = omega arith in subst
          (λ (n : ℕ). (1 ≤ w y.valid) × ((get_or offers n nothing).word < 2 ^ w y.word)) e (f (suc k) y at)

  outputs_fit : (accepts : List Bool) (j : ℕ) (xs : List StreamPorts)
      → ((k : ℕ) (x : StreamPorts) → slice_get xs k ≡ Some x → 1 ≤ w x.ready) → Every Fit (output_gifts accepts j xs)
  outputs_fit accepts j [] f = tt
  outputs_fit accepts j (x ∷ xs) f = (bit_fits (get_or accepts j false) (w x.ready) (f 0 x refl), outputs_fit accepts (j + 1) xs (λ k y at. f (suc k) y at))

-- ---- the ports that keep one value
ticks_at : (i : Interface) (k : ℕ) (x : KernelPorts) → slice_get i.kernels k ≡ Some x → get_or (nets_of i).steady k 0 ≡ x.ticks
ticks_at i k x at =
    let within = slice_get_within i.kernels k x at in
    get_or_append_left (map (λ (y : KernelPorts). y.ticks) i.kernels) (map (λ (s : ScalarPort). s.net) i.scalars) 0 k
    (omega (arith, within, length-map i.kernels (λ (y : KernelPorts). y.ticks)))
    ∙ get_or-map (λ (y : KernelPorts). y.ticks) i.kernels k x 0 within
    ∙ ap (λ (y : KernelPorts). y.ticks) (got i.kernels k x x at)

scalar_at : (i : Interface) (k : ℕ) (x : ScalarPort) → slice_get i.scalars k ≡ Some x → get_or (nets_of i).steady (length i.kernels + k) 0 ≡ x.net
scalar_at i k x at =
    let within = slice_get_within i.scalars k x at in
    let back : length i.kernels + k - length i.kernels ≡ k = omega arith in
    get_or-append_right (map (λ (y : KernelPorts). y.ticks) i.kernels) (map (λ (s : ScalarPort). s.net) i.scalars)
    (length i.kernels) (length i.kernels + k) 0 (length-map i.kernels (λ (y : KernelPorts). y.ticks)) (omega arith)
    ∙ ap (λ n. get_or (map (λ (s : ScalarPort). s.net) i.scalars) n 0) back
    ∙ get_or-map (λ (s : ScalarPort). s.net) i.scalars k x 0 within
    ∙ ap (λ (s : ScalarPort). s.net) (got i.scalars k x x at)

-- ---- a module that can be simulated
module _ (m : Module) (i : Interface) (p : IsSimulable m i) (reset : Bool) (steady : List ℕ) (offers : List Offer) (accepts holds : List Bool) where
  abbrev all : List (ℕ × ℕ)
  all = gifts i reset steady offers accepts holds

  rises : Rising m.ports 0 all (first_output (shape_of i) + 3 * length i.outputs)
  rises = subst (λ (l : List Port). Rising l 0 all (first_output (shape_of i) + 3 * length i.outputs)) (sym p.ports)
      (gifts_rise p.top i p.is reset steady offers accepts holds)

  pub given_within : Every (λ (g : ℕ × ℕ). g.0 < length m.nets) all
  given_within = rising_within m.ports (length m.nets) (λ k q at. (p.formed k q at).net) rises

  pub given_inputs : Every (λ (g : ℕ × ℕ). is_input m.ports g.0 ≡ true) all
  given_inputs = rising_inputs m.ports rises

  given_apart : Apart all
  given_apart = rising_apart m.ports p.apart rises

  -- registers are given nothing, and neither are targets of assignments
  off_regs : (n : ℕ) → is_reg m n ≡ true → Every (λ (g : ℕ × ℕ). g.0 ≡ n → ⊥) all
  off_regs n e =
      every_map (λ g f same. (let q = input_at m.ports g.0 f in false≢true
      (sym (subst (λ (x : ℕ). is_reg m x ≡ false) (q.net ∙ same) (p.formed q.place q.port q.at).wire) ∙ e))) all
      given_inputs

  off_targets : (n : ℕ) → is_given m n ≡ false → Every (λ (g : ℕ × ℕ). g.0 ≡ n → ⊥) all
  off_targets n e = every_map (λ g f same. false≢true (sym e ∙ ap (is_given m) (sym same) ∙ given_input m g.0 f)) all given_inputs

  some : (n : ℕ) → n < length m.nets → 1 ≤ width_of m n
  some n lt = (width_in m n p.runnable lt).0

  pub given_fits :
      length steady ≡ length i.kernels + length i.scalars
      → ((k : ℕ) → k < length steady → get_or steady k 0 < 2 ^ width_of m (get_or (nets_of i).steady k 0))
      → AreOffered m (nets_of i) offers
      → Every (λ (g : ℕ × ℕ). g.1 < 2 ^ width_of m g.0) all
  given_fits size words offered = (
    pow_pos (width_of m i.clock),
    (
      bit_fits reset (width_of m i.reset) (some i.reset given_within.1.0),
      every_append Q (ks' ++ ss' ++ xs') ys'
          (every_append Q (ks' ++ ss') xs' (every_append Q ks' ss' kernels scalars) inputs) outputs,
    ),
  )
    where
      Q : ℕ × ℕ → Type 0
      Q g = g.1 < 2 ^ width_of m g.0

      ks' : List (ℕ × ℕ)
      ks' = kernel_gifts steady holds 0 i.kernels

      ss' : List (ℕ × ℕ)
      ss' = scalar_gifts steady (length i.kernels) i.scalars

      xs' : List (ℕ × ℕ)
      xs' = input_gifts offers 0 i.inputs

      ys' : List (ℕ × ℕ)
      ys' = output_gifts accepts 0 i.outputs

      kernels : Every Q ks'
      kernels = kernels_fit (width_of m) steady holds 0 i.kernels (λ k x at.
          (let e : k ≡ 0 + k = omega arith in (
            some x.hold (kernel_nets (length m.nets) i reset steady offers accepts holds given_within k x at).0,
            subst (λ (n : ℕ). get_or steady n 0 < 2 ^ width_of m x.ticks) e
                (subst (λ (n : ℕ). get_or steady k 0 < 2 ^ width_of m n) (ticks_at i k x at)
                (words k (omega (arith, size, slice_get_within i.kernels k x at)))),
          )))

      scalars : Every Q ss'
      scalars = scalars_fit (width_of m) steady (length i.kernels) i.scalars (λ k x at.
          subst (λ (n : ℕ). get_or steady (length i.kernels + k) 0 < 2 ^ width_of m n) (scalar_at i k x at)
          (words (length i.kernels + k) (omega (arith, size, slice_get_within i.scalars k x at))))

      inputs : Every Q xs'
      inputs = inputs_fit (width_of m) offers 0 i.inputs (λ k x at.
          (let e : k ≡ 0 + k = omega arith in (
            some x.valid (input_nets (length m.nets) i reset steady offers accepts holds given_within k x at).1,
            subst (λ (n : ℕ). (get_or offers n nothing).word < 2 ^ width_of m x.word) e
                (offered k (stream_channel x) (slice_get-map stream_channel i.inputs k
                ∙ ap (option_map stream_channel) at)),
          )))

      outputs : Every Q ys'
      outputs = outputs_fit (width_of m) accepts 0 i.outputs
          (λ k x at. some x.ready (output_nets (length m.nets) i reset steady offers accepts holds given_within k x at))

  -- given one after another
  within_of : (old : List ℕ) → length old ≡ length m.nets → Every (λ (g : ℕ × ℕ). g.0 < length old) all
  within_of old e = subst (λ (n : ℕ). Every (λ (g : ℕ × ℕ). g.0 < n) all) (sym e) given_within

  pub driven_words : (old : List ℕ) (memories : List (List ℕ)) → AreWords m old memories
      → Every (λ (g : ℕ × ℕ). g.1 < 2 ^ width_of m g.0) all → AreWords m (written old all) memories
  driven_words old memories w fits =
      record {
        nets = length_written old all ∙ w.nets;
        words = written_fits (width_of m) old all w.words
            (within_of old w.nets) fits;
        depths = w.depths;
        cells = w.cells;
      }

  -- what some assignments give, from the registers and inputs on
  pub by_instructions :
      (assigns : List Assign) (held old new : List ℕ) (memories : List (List ℕ))
      → ((n : ℕ) → is_reg m n ≡ true → get_or old n 0 ≡ get_or held n 0) → AreConstant m old → length old ≡ length m.nets
      → AreWords m (written old all) memories → Settles m assigns memories (written old all) new
      → IsEvaluatedBy m assigns i reset steady offers accepts holds held memories new
  by_instructions assigns held old new memories l constant size w s =
      record {
        driven = written old all;
        words = w;
        kept = λ n e. written_other old n all (off_regs n e) ∙ l n e;
        constant = λ k a x at lit. written_other old a.target all (off_targets a.target (p.runnable.given k a at)) ∙ constant k a x at lit;
        given = written_all old all (within_of old size) given_apart;
        settles = s;
      }

-- the port done, where the nets of all ports are below a bound
pub done_below : (top : Module) (ports : List Port) (i : Interface) (bound : ℕ) → IsInterface top i → ports ≡ top.ports
    → ((k : ℕ) (p : Port) → slice_get ports k ≡ Some p → p.net < bound) → i.done < bound
done_below top ports i bound is same below =
    let s = shape_of i in
    let size = length_shape s in
    let views = ap length is.shape in
    let mapped = length-map top.ports (port_view top) in
    let port = get_or top.ports (done_port s) (record { net = 0; output = false }) in
    let at : slice_get top.ports (done_port s) ≡ Some port = slice_get-get_or top.ports (done_port s)
    (record { net = 0; output = false }) (omega (arith, size, views, mapped)) in
    let here : slice_get ports (done_port s) ≡ Some port = ap (λ (l : List Port). slice_get l (done_port s)) same ∙ at in
    let e : i.done ≡ port.net = ap (λ (o : Outer). o.done) is.nets ∙ ap port_net at in
    let lt = below (done_port s) port here in
    omega (arith, e, lt)

pub done_in : (m : Module) (i : Interface) (p : IsSimulable m i) → i.done < length m.nets
done_in m i p = done_below p.top m.ports i (length m.nets) p.is p.ports (λ k q at. (p.formed k q at).net)
