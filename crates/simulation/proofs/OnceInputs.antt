-- Two families that agree on the outer nets of a run agree at all inputs of a module of this shape.
use Rattle.std.proofs.Common.{◌≡◌, ℕ, zero, suc, ◌+◌, ◌*◌, true, false, List, [], ◌∷◌, ◌++◌, length, Some, refl, sym, ap, ◌∙◌, subst, arith, append_assoc}
use Rattle.std.specs.Prelude.{slice_get, codes}
use Rattle.std.specs.Option.{option_map}
use Rattle.std.proofs.lemmas.Bool.{true≢false}
use Rattle.std.proofs.lemmas.Option.{slice_get-map}
use Rattle.mx_base.specs.Files.{Name}
use Rattle.rtl_ir.specs.declared.design.Module.{Module}
use Rattle.rtl_ir.specs.Value.{Family}
use Rattle.rtl_ir.specs.Run.{Channel, Outer}
use Rattle.rtl_ir.specs.Typed.{is_input}
use Rattle.rtl_ir.specs.Ports.{Shape, PortView, output_port, kernel_ports, scalar_ports}
use Rattle.rtl_ir.specs.Ports.{host_input_ports, host_output_ports, shape_ports, port_view}
use Rattle.rtl_ir.specs.Ports.{HasShape, port_net, net_at, nets_from, second_nets_from}
use Rattle.rtl_ir.specs.Ports.{channels_from, first_scalar, first_input, first_output, outer_of}
use Rattle.rtl_ir.proofs.Ports.{InputAt, input_at}

abbrev pub SameNets : List ℕ → Family → Family → Type 0
SameNets [] v w = Unit {0}
SameNets (n ∷ ns) v w = (v n ≡ w n) × SameNets ns v w

-- the same words are offered
abbrev pub SameOffers : List Channel → Family → Family → Type 0
SameOffers [] v w = Unit {0}
SameOffers (ch ∷ chs) v w = (v ch.valid ≡ w ch.valid) × (v ch.word ≡ w ch.word) × SameOffers chs v w

-- the same outputs are accepted
abbrev pub SameAccepts : List Channel → Family → Family → Type 0
SameAccepts [] v w = Unit {0}
SameAccepts (ch ∷ chs) v w = (v ch.ready ≡ w ch.ready) × SameAccepts chs v w

pub record SameOutside (o : Outer) (v w : Family) : Type 0 where
  pub clock : v o.clock ≡ w o.clock
  pub reset : v o.reset ≡ w o.reset
  pub holds : SameNets o.holds v w
  pub steady : SameNets o.steady v w
  pub offers : SameOffers o.inputs v w
  pub accepts : SameAccepts o.outputs v w

abbrev done_ports : List PortView
done_ports = output_port (codes "done") 1 ∷ []

-- the nets of a list and of one behind it
parts : (ms ns : List ℕ) (v w : Family) → SameNets (ms ++ ns) v w → SameNets ms v w × SameNets ns v w
parts [] ns v w h = (tt, h)
parts (m ∷ ms) ns v w h = let r = parts ms ns v w h.1 in ((h.0, r.0), r.1)

module _ (m : Module) (v w : Family) where
  -- the inputs among these ports, of which the first has this number
  abbrev SameInputs : ℕ → List PortView → Type 0
  SameInputs k [] = Unit {0}
  SameInputs k (x ∷ xs) = (x.output ≡ false → v (net_at m k) ≡ w (net_at m k)) × SameInputs (k + 1) xs

  from : (j k : ℕ) (l : List PortView) → j ≡ k → SameInputs j l → SameInputs k l
  from j k l e h = subst (λ (i : ℕ). SameInputs i l) e h

  outwards : {A : Type 0} → true ≡ false → A
  outwards e = absurd (true≢false e)

  of_kernels : (k j n : ℕ) (kernels : List (List ℕ)) (rest : List PortView) → j ≡ k + 1
      → n ≡ k + 2 * length kernels → SameNets (second_nets_from m k kernels) v w
      → SameNets (second_nets_from m j kernels) v w → SameInputs n rest
      → SameInputs k (kernel_ports kernels ++ rest)
  of_kernels k j n [] rest e f holds ticks after = from n k rest (omega (arith, f)) after
  of_kernels k j n (x ∷ kernels) rest e f holds ticks after = (
    λ _. holds.0,
    (
      λ _. subst (λ (i : ℕ). v (net_at m i) ≡ w (net_at m i)) e ticks.0,
      from (k + 2) (k + 1 + 1) (kernel_ports kernels ++ rest) (omega arith) (of_kernels (k + 2) (j + 2) n kernels rest (omega (arith, e)) (omega (arith, f)) holds.1 ticks.1 after),
    ),
  )

  of_scalars : (k n : ℕ) (scalars : List (Name × Name × ℕ)) (rest : List PortView)
      → n ≡ k + length scalars → SameNets (nets_from m k scalars) v w → SameInputs n rest
      → SameInputs k (scalar_ports scalars ++ rest)
  of_scalars k n [] rest f same after = from n k rest (omega (arith, f)) after
  of_scalars k n (x ∷ scalars) rest f same after = (λ _. same.0, of_scalars (k + 1) n scalars rest (omega (arith, f)) same.1 after)

  of_inputs : (k n : ℕ) (inputs : List (Name × ℕ)) (rest : List PortView)
      → n ≡ k + 3 * length inputs → SameOffers (channels_from m k inputs) v w
      → SameInputs n rest → SameInputs k (host_input_ports inputs ++ rest)
  of_inputs k n [] rest f same after = from n k rest (omega (arith, f)) after
  of_inputs k n (x ∷ inputs) rest f same after = (
    λ _. same.1,
    (
      λ _. same.0,
      (
        λ e. outwards e,
        from (k + 3) (k + 1 + 1 + 1) (host_input_ports inputs ++ rest) (omega arith) (of_inputs (k + 3) n inputs rest (omega (arith, f)) same.2 after),
      ),
    ),
  )

  of_outputs : (k n : ℕ) (outputs : List (Name × ℕ)) (rest : List PortView)
      → n ≡ k + 3 * length outputs → SameAccepts (channels_from m k outputs) v w
      → SameInputs n rest → SameInputs k (host_output_ports outputs ++ rest)
  of_outputs k n [] rest f same after = from n k rest (omega (arith, f)) after
  of_outputs k n (x ∷ outputs) rest f same after =
      let third : k + 2 ≡ k + 1 + 1 = omega arith in (
        λ e. outwards e,
        (
          λ e. outwards e,
          (
            λ _. subst (λ (i : ℕ). v (net_at m i) ≡ w (net_at m i)) third same.0,
            from (k + 3) (k + 1 + 1 + 1) (host_output_ports outputs ++ rest) (omega arith) (of_outputs (k + 3) n outputs rest (omega (arith, f)) same.1 after),
          ),
        ),
      )

  of_shape : (s : Shape) → SameOutside (outer_of s m) v w → SameInputs 0 (shape_ports s)
  of_shape s h = (
    λ _. h.clock,
    (
      λ _. h.reset,
      from 2 (0 + 1 + 1) _ (omega arith) (subst (λ (l : List PortView). SameInputs 2 l) (sym grouped) in_order),
    ),
  )
    where
      grouped : kernel_ports s.kernels ++ scalar_ports s.scalars ++ host_input_ports s.inputs
          ++ host_output_ports s.outputs ++ done_ports ≡ kernel_ports s.kernels
          ++ (scalar_ports s.scalars ++ (host_input_ports s.inputs
          ++ (host_output_ports s.outputs ++ done_ports)))
      grouped =
          append_assoc (kernel_ports s.kernels ++ scalar_ports s.scalars ++ host_input_ports s.inputs) (host_output_ports s.outputs) done_ports
          ∙ append_assoc (kernel_ports s.kernels ++ scalar_ports s.scalars) (host_input_ports s.inputs) (host_output_ports s.outputs ++ done_ports)
          ∙ append_assoc (kernel_ports s.kernels) (scalar_ports s.scalars) (host_input_ports s.inputs ++ (host_output_ports s.outputs ++ done_ports))

      steady : SameNets (second_nets_from m 3 s.kernels) v w × SameNets (nets_from m (first_scalar s) s.scalars) v w
      steady = parts (second_nets_from m 3 s.kernels) (nets_from m (first_scalar s) s.scalars) v w h.steady

      in_order : SameInputs 2 (kernel_ports s.kernels ++ (scalar_ports s.scalars ++ (host_input_ports s.inputs ++ (host_output_ports s.outputs ++ done_ports))))
      in_order =
          of_kernels 2 3 (first_scalar s) s.kernels _ (omega arith) refl h.holds steady.0
          (of_scalars (first_scalar s) (first_input s) s.scalars _ refl steady.1
          (of_inputs (first_input s) (first_output s) s.inputs _ refl h.offers
          (of_outputs (first_output s) (first_output s + 3 * length s.outputs) s.outputs _ refl h.accepts
          (λ e. outwards e, tt))))

  at_place : (k i : ℕ) (l : List PortView) (x : PortView) → SameInputs k l → slice_get l i ≡ Some x → x.output ≡ false → v (net_at m (k + i)) ≡ w (net_at m (k + i))
  at_place k i [] x h at inward = absurd (cc)
  at_place k zero (y ∷ l) x h at inward =
      let same : y ≡ x = cc in
      let place : k ≡ k + 0 = omega arith in
      subst (λ (j : ℕ). v (net_at m j) ≡ w (net_at m j)) place (h.0 (ap (λ (z : PortView). z.output) same ∙ inward))
  at_place k (suc i) (y ∷ l) x h at inward =
      let place : k + 1 + i ≡ k + suc i = omega arith in
      subst (λ (j : ℕ). v (net_at m j) ≡ w (net_at m j)) place (at_place (k + 1) i l x h.1 at inward)

  pub same_inputs : (s : Shape) → HasShape m s → SameOutside (outer_of s m) v w → (n : ℕ) → is_input m.ports n ≡ true → v n ≡ w n
  same_inputs s has h n input =
      let i : InputAt m.ports n = input_at m.ports n input in
      let at : slice_get (shape_ports s) i.place ≡ Some (port_view m i.port) = ap
      (λ (l : List PortView). slice_get l i.place) (sym has) ∙ slice_get-map
      (port_view m) m.ports i.place ∙ ap (option_map (port_view m)) i.at in
      let net : net_at m (0 + i.place) ≡ n = (let e : 0 + i.place ≡ i.place = omega arith in ap (net_at m) e ∙ ap port_net i.at ∙ i.net) in
      subst (λ (j : ℕ). v j ≡ w j) net (at_place 0 i.place (shape_ports s) (port_view m i.port) (of_shape s h) at i.input)
