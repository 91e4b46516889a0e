-- The numbers of the nets of a kernel's ports, and which of them differ.
use Rattle.std.proofs.Common.{
  ◌≡◌,
  ℕ,
  suc,
  ◌+◌,
  ◌*◌,
  ◌<◌,
  ◌≤◌,
  false,
  eqb,
  List,
  [],
  ◌∷◌,
  ◌++◌,
  map,
  length,
  Option,
  refl,
  sym,
  ap,
  ◌∙◌,
  subst,
  arith,
  length-append,
}
use Rattle.std.specs.Prelude.{All, codes}
use Rattle.std.proofs.lemmas.List.Elements.{All-nil, All-cons, All-append}
use Rattle.rtl_ir.specs.declared.design.Module.{Module}
use Rattle.rtl_ir.specs.Ports.{PortView, ports_of, port_view, port_net, net_at, host_input_ports, host_output_ports, output_port}
use Rattle.rtl_build.specs.declared.signal.Signal.{Signal}
use Rattle.rtl_delays.specs.Driven.{is_driven}
use Rattle.rtl_delays.specs.Partial.{IsPartial}
use Rattle.rtl_delays.proofs.Added.{item_at}
use Rattle.rtl_delays.proofs.Lists.{or_both}
use Rattle.stream_graph.specs.declared.node.Node.{Node}
use Rattle.kernel_control.specs.Ports.{
  scalar_ports,
  port_shape,
  module_ports,
  channels_of,
  scalars_of,
  inputs_of,
  outputs_of,
  first_input,
  first_output,
  ended_port,
  PortChannel,
}
use Rattle.kernel_control.specs.Nets.{told_ports}
use Rattle.kernel_control.specs.Outputs.{is_one_of, AreUndriven}
use Rattle.kernel_ports.specs.declared.signals.StreamSignals.{StreamSignals}
use Rattle.kernel_ports.specs.HasKernelPorts.{channel_of}
use Rattle.kernel_rtl.specs.Words.{data_nets}
use Rattle.kernel_rtl.specs.Handshakes.{input_handshake, output_handshake}
use Rattle.kernel_rtl.proofs.Numbers.{map_length, all_weaker}
use Rattle.kernel_rtl.proofs.Finishing.{count_scalars, count_inputs, count_outputs}

-- ---- rising numbers

-- these numbers rise, from the first one of two on and up to before the second one
abbrev pub Rise : ℕ → ℕ → List ℕ → Type 0
Rise lo hi [] = lo ≤ hi
Rise lo hi (n ∷ ns) = (lo ≤ n) × Rise (n + 1) hi ns

rise_ends : (lo hi : ℕ) (ns : List ℕ) → Rise lo hi ns → lo ≤ hi
rise_ends lo hi [] h = h
rise_ends lo hi (n ∷ ns) h = let a = h.0 in let b = rise_ends (n + 1) hi ns h.1 in omega (arith, a, b)

pub rise_under : (lo hi : ℕ) (ns : List ℕ) → Rise lo hi ns → All (λ n. n < hi) ns
rise_under lo hi [] h = All-nil (λ n. n < hi)
rise_under lo hi (n ∷ ns) h = let b = rise_ends (n + 1) hi ns h.1 in All-cons (λ k. k < hi) n ns (omega (arith, b)) (rise_under (n + 1) hi ns h.1)

rise_on : (lo mid hi : ℕ) (xs ys : List ℕ) → Rise lo mid xs → Rise mid hi ys → Rise lo hi (xs ++ ys)
rise_on lo mid hi [] [] h g = omega (arith, h, g)
rise_on lo mid hi [] (y ∷ ys) h g = ((let a = g.0 in omega (arith, a, h)), g.1)
rise_on lo mid hi (x ∷ xs) ys h g = (h.0, rise_on (x + 1) mid hi xs ys h.1 g)

pub unequal : (a b : ℕ) → (a ≡ b → ⊥) → eqb a b ≡ false
unequal a b h = grind (arith, h)

pub none_of : (ns : List ℕ) (n : ℕ) → All (λ k. k ≡ n → ⊥) ns → is_one_of ns n ≡ false
none_of [] n h = refl
none_of (k ∷ ks) n h = or_both (eqb k n) (is_one_of ks n) (unequal k n (h 0 k (omega arith))) (none_of ks n (λ i d lt. h (suc i) d (omega arith)))

rise_above : (lo hi : ℕ) (ns : List ℕ) → Rise lo hi ns → All (λ n. lo ≤ n) ns
rise_above lo hi [] h = All-nil (λ n. lo ≤ n)
rise_above lo hi (n ∷ ns) h =
    All-cons (λ k. lo ≤ k) n ns h.0
    (all_weaker (λ k. n + 1 ≤ k) (λ k. lo ≤ k) ns (rise_above (n + 1) hi ns h.1) (λ k q. let a = h.0 in omega (arith, a, q)))

-- those that rise are not driven where each is not
pub undriven_from : (m : Module) (lo hi : ℕ) (ns : List ℕ) → Rise lo hi ns → All (λ n. is_driven n m.assigns ≡ false) ns → AreUndriven m ns
undriven_from m lo hi [] h free = tt
undriven_from m lo hi (n ∷ ns) h free = (
  free 0 n (omega arith),
  none_of ns n (all_weaker (λ k. n + 1 ≤ k) (λ k. k ≡ n → ⊥) ns (rise_above (n + 1) hi ns h.1) (λ k q e. omega (arith, q, e))),
  undriven_from m (n + 1) hi ns h.1 (λ i d lt. free (suc i) d (omega arith)),
)

-- ---- nets of ports

abbrev pub words_of : List PortChannel → List ℕ
words_of xs = map (λ (x : PortChannel). x.channel.word) xs

abbrev pub valids_of : List PortChannel → List ℕ
valids_of xs = map (λ (x : PortChannel). x.channel.valid) xs

abbrev pub readies_of : List PortChannel → List ℕ
readies_of xs = map (λ (x : PortChannel). x.channel.ready) xs

-- a number is one of every third from the first one on, and so many more
pub record IsPlace (first more : ℕ) (n : ℕ) : Type 0 where
  pub step : ℕ
  pub is : n ≡ first + 3 * step + more

pub port_number : (m : Module) → IsPartial m → (k : ℕ) → k < length m.ports → net_at m k ≡ k
port_number m p k lt = let x = item_at m.ports k lt in ap port_net x.1 ∙ p.ports k x.0 x.1

-- every third number, as many as the list is long
abbrev pub thirds : ℕ → List ℕ → List ℕ
thirds k [] = []
thirds k (n ∷ ns) = k ∷ thirds (k + 3) ns

thirds_rise : (lo k hi : ℕ) (ns : List ℕ) → lo ≤ k → lo ≤ hi → k + 3 * length ns ≤ hi + 2 → Rise lo hi (thirds k ns)
thirds_rise lo k hi [] a b c = b
thirds_rise lo k hi (n ∷ ns) a b c = (a, thirds_rise (k + 1) (k + 3) hi ns (omega arith) (omega (arith, c)) (omega (arith, c)))

thirds_place : (first more k : ℕ) (ns : List ℕ) → IsPlace first more k → All (IsPlace first more) (thirds k ns)
thirds_place first more k [] h = All-nil (IsPlace first more)
thirds_place first more k (n ∷ ns) h =
    All-cons (IsPlace first more) k (thirds (k + 3) ns) h
    (thirds_place first more (k + 3) ns (record { step = h.step + 1; is = let e = h.is in omega (arith, e) }))

module _ (m : Module) (partial : IsPartial m) where
  words_are : (k : ℕ) (ns : List ℕ) → k + 3 * length ns ≤ length m.ports → words_of (channels_of m k ns) ≡ thirds k ns
  words_are k [] h = refl
  words_are k (n ∷ ns) h =
      ap (λ x. x ∷ words_of (channels_of m (k + 3) ns)) (port_number m partial k (omega (arith, h)))
      ∙ ap (λ xs. k ∷ xs) (words_are (k + 3) ns (omega (arith, h)))

  valids_are : (k j : ℕ) (ns : List ℕ) → j ≡ k + 1 → k + 3 * length ns ≤ length m.ports → valids_of (channels_of m k ns) ≡ thirds j ns
  valids_are k j [] e h = refl
  valids_are k j (n ∷ ns) e h =
      ap (λ x. x ∷ valids_of (channels_of m (k + 3) ns)) (port_number m partial (k + 1) (omega (arith, h)) ∙ sym e)
      ∙ ap (λ xs. j ∷ xs) (valids_are (k + 3) (j + 3) ns (omega (arith, e)) (omega (arith, h)))

  readies_are : (k j : ℕ) (ns : List ℕ) → j ≡ k + 2 → k + 3 * length ns ≤ length m.ports → readies_of (channels_of m k ns) ≡ thirds j ns
  readies_are k j [] e h = refl
  readies_are k j (n ∷ ns) e h =
      ap (λ x. x ∷ readies_of (channels_of m (k + 3) ns)) (port_number m partial (k + 2) (omega (arith, h)) ∙ sym e)
      ∙ ap (λ xs. j ∷ xs) (readies_are (k + 3) (j + 3) ns (omega (arith, e)) (omega (arith, h)))

-- how many ports a kernel's module has
pub ports_counted : (m : Module) (nodes : List Node) → ports_of m ≡ module_ports nodes → length m.ports ≡ ended_port nodes + 1
ports_counted m nodes e =
    let count = sym (map_length (port_view m) m.ports) ∙ ap length e in
    let a = count_scalars (map (port_shape nodes) (scalars_of nodes)) in
    let b = count_inputs (map (port_shape nodes) (inputs_of nodes)) in
    let c = count_outputs (map (port_shape nodes) (outputs_of nodes)) in
    let f = map_length (port_shape nodes) (scalars_of nodes) in
    let g = map_length (port_shape nodes) (inputs_of nodes) in
    let h = map_length (port_shape nodes) (outputs_of nodes) in
    let all = length-append (scalars ++ ins ++ outs) (output_port (codes "ended$") 1 ∷ []) in
    let most = length-append (scalars ++ ins) outs in
    let some = length-append scalars ins in
    omega (arith, count, a, b, c, f, g, h, all, most, some)
  where
    scalars : List PortView
    scalars = scalar_ports (map (port_shape nodes) (scalars_of nodes))

    ins : List PortView
    ins = host_input_ports (map (port_shape nodes) (inputs_of nodes))

    outs : List PortView
    outs = host_output_ports (map (port_shape nodes) (outputs_of nodes))

-- ---- the nets of a kernel's streams

map_map : {A B C : Type 0} (f : A → B) (g : B → C) (xs : List A) → map g (map f xs) ≡ map (λ x. g (f x)) xs
map_map f g [] = refl
map_map f g (x ∷ xs) = ap (λ l. g (f x) ∷ l) (map_map f g xs)

told_are : (times : ℕ → ℕ) (enables : ℕ → Option Signal) (xs ys : List StreamSignals)
    → told_ports (map (input_handshake times enables) xs ++ map (output_handshake times enables) ys)
    ≡ readies_of (map channel_of xs) ++ valids_of (map channel_of ys)
told_are times enables [] [] = refl
told_are times enables [] (y ∷ ys) = ap (λ l. y.valid.net ∷ l) (told_are times enables [] ys)
told_are times enables (x ∷ xs) ys = ap (λ l. x.ready.net ∷ l) (told_are times enables xs ys)

-- What is known of the nets of a kernel's ports.
pub record AreNumbered (m : Module) (nodes : List Node) (xs ys : List StreamSignals) (ended : ℕ) : Type 0 where
  pub partial : IsPartial m
  pub ports : ports_of m ≡ module_ports nodes
  pub inputs : map channel_of xs ≡ channels_of m (first_input nodes) (inputs_of nodes)
  pub outputs : map channel_of ys ≡ channels_of m (first_output nodes) (outputs_of nodes)
  pub last : ended ≡ net_at m (ended_port nodes)

module _ (m : Module) (nodes : List Node) (xs ys : List StreamSignals) (ended : ℕ) (n : AreNumbered m nodes xs ys ended) where
  data_are : data_nets ys ≡ thirds (first_output nodes) (outputs_of nodes)
  data_are =
      let count = ports_counted m nodes n.ports in
      sym (map_map channel_of (λ (x : PortChannel). x.channel.word) ys) ∙ ap words_of n.outputs
      ∙ words_are m n.partial (first_output nodes) (outputs_of nodes) (omega (arith, count))

  valid_are : valids_of (map channel_of ys) ≡ thirds (first_output nodes + 1) (outputs_of nodes)
  valid_are =
      let count = ports_counted m nodes n.ports in
      ap valids_of n.outputs ∙ valids_are m n.partial (first_output nodes) (first_output nodes + 1) (outputs_of nodes) refl (omega (arith, count))

  ready_are : readies_of (map channel_of xs) ≡ thirds (first_input nodes + 2) (inputs_of nodes)
  ready_are =
      let count = ports_counted m nodes n.ports in
      ap readies_of n.inputs ∙ readies_are m n.partial (first_input nodes) (first_input nodes + 2) (inputs_of nodes) refl (omega (arith, count))

  pub ended_is : ended ≡ ended_port nodes
  ended_is = let count = ports_counted m nodes n.ports in n.last ∙ port_number m n.partial (ended_port nodes) (omega (arith, count))

  pub data_rise : Rise (first_output nodes) (ended_port nodes) (data_nets ys)
  data_rise = subst (Rise (first_output nodes) (ended_port nodes)) (sym data_are)
      (thirds_rise (first_output nodes) (first_output nodes) (ended_port nodes) (outputs_of nodes) (omega arith) (omega arith) (omega arith))

  data_places : All (IsPlace (first_output nodes) 0) (data_nets ys)
  data_places = subst (All (IsPlace (first_output nodes) 0)) (sym data_are)
      (thirds_place (first_output nodes) 0 (first_output nodes) (outputs_of nodes) (record { step = 0; is = omega arith }))

  abbrev pub told : (ℕ → ℕ) → (ℕ → Option Signal) → List ℕ
  told times enables = told_ports (map (input_handshake times enables) xs ++ map (output_handshake times enables) ys)

  told_split : (times : ℕ → ℕ) (enables : ℕ → Option Signal)
      → told times enables ≡ thirds (first_input nodes + 2) (inputs_of nodes) ++ thirds (first_output nodes + 1) (outputs_of nodes)
  told_split times enables = told_are times enables xs ys ∙ ap (λ l. l ++ valids_of (map channel_of ys)) ready_are
      ∙ ap (λ l. thirds (first_input nodes + 2) (inputs_of nodes) ++ l) valid_are

  pub told_rise : (times : ℕ → ℕ) (enables : ℕ → Option Signal) → Rise (first_input nodes) (ended_port nodes) (told times enables)
  told_rise times enables = subst (Rise (first_input nodes) (ended_port nodes)) (sym (told_split times enables))
      (rise_on (first_input nodes) (first_output nodes) (ended_port nodes) (thirds (first_input nodes + 2) (inputs_of nodes))
      (thirds (first_output nodes + 1) (outputs_of nodes))
      (thirds_rise (first_input nodes) (first_input nodes + 2) (first_output nodes) (inputs_of nodes) (omega arith) (omega arith) (omega arith))
      (thirds_rise (first_output nodes) (first_output nodes + 1) (ended_port nodes) (outputs_of nodes) (omega arith) (omega arith) (omega arith)))

  ready_other : (k : ℕ) → k < first_output nodes → is_one_of (data_nets ys) k ≡ false
  ready_other k lt = none_of (data_nets ys) k
      (all_weaker (λ j. first_output nodes ≤ j) (λ j. j ≡ k → ⊥) (data_nets ys) (rise_above (first_output nodes) (ended_port nodes) (data_nets ys) data_rise)
      (λ j q e. omega (arith, q, e, lt)))

  valid_other : (k : ℕ) → IsPlace (first_output nodes) 1 k → is_one_of (data_nets ys) k ≡ false
  valid_other k h = none_of (data_nets ys) k
      (all_weaker (IsPlace (first_output nodes) 0) (λ j. j ≡ k → ⊥) (data_nets ys) data_places
      (λ j q e. let a = q.is in let b = h.is in omega (arith, a, b, e)))

  pub ended_other : is_one_of (data_nets ys) ended ≡ false
  ended_other = none_of (data_nets ys) ended
      (all_weaker (λ j. j < ended_port nodes) (λ j. j ≡ ended → ⊥) (data_nets ys)
      (rise_under (first_output nodes) (ended_port nodes) (data_nets ys) data_rise)
      (λ j q e. let a = ended_is in omega (arith, q, e, a)))

  pub told_other : (times : ℕ → ℕ) (enables : ℕ → Option Signal) → All (λ k. is_one_of (data_nets ys) k ≡ false) (told times enables)
  told_other times enables =
      let P : ℕ → Type 0 = λ k. is_one_of (data_nets ys) k ≡ false in
      subst (All P) (sym (told_split times enables))
      (All-append P (thirds (first_input nodes + 2) (inputs_of nodes)) (thirds (first_output nodes + 1) (outputs_of nodes))
      (all_weaker (λ j. j < first_output nodes) P (thirds (first_input nodes + 2) (inputs_of nodes))
      (rise_under (first_input nodes) (first_output nodes) (thirds (first_input nodes + 2) (inputs_of nodes))
      (thirds_rise (first_input nodes) (first_input nodes + 2) (first_output nodes) (inputs_of nodes) (omega arith) (omega arith) (omega arith)))
      (λ j q. ready_other j q))
      (all_weaker (IsPlace (first_output nodes) 1) P (thirds (first_output nodes + 1) (outputs_of nodes))
      (thirds_place (first_output nodes) 1 (first_output nodes + 1) (outputs_of nodes) (record { step = 0; is = omega arith }))
      (λ j q. valid_other j q)))

  pub ended_untold : (times : ℕ → ℕ) (enables : ℕ → Option Signal) → is_one_of (told times enables) ended ≡ false
  ended_untold times enables =
      let ns = told times enables in
      none_of ns ended
      (all_weaker (λ j. j < ended_port nodes) (λ j. j ≡ ended → ⊥) ns
      (rise_under (first_input nodes) (ended_port nodes) ns (told_rise times enables))
      (λ j q e. let a = ended_is in omega (arith, q, e, a)))
