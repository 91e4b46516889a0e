-- The host outputs of an accepted design have different names.
use Rattle.std.proofs.Common.{◌≡◌, ℕ, zero, suc, ◌+◌, ◌*◌, ◌-◌, ◌<◌, List, [], ◌∷◌, ◌++◌, length, take, map, codes, inl, inr, Some, option_map, sym, ap, ◌∙◌, arith}
use Rattle.std.specs.Prelude.{slice_get}
use Rattle.std.proofs.lemmas.Option.{slice_get-map, slice_get_cases}
use Rattle.mx_base.specs.Files.{Name}
use Rattle.rtl_ir.specs.declared.design.Design.{Design}
use Rattle.rtl_ir.specs.declared.design.Module.{Module}
use Rattle.rtl_ir.specs.declared.design.Net.{Net}
use Rattle.rtl_ir.specs.declared.design.Mem.{Mem}
use Rattle.rtl_ir.specs.declared.design.Instance.{Instance}
use Rattle.rtl_ir.specs.Flat.{top_of}
use Rattle.rtl_ir.specs.Formed.{name_of, net_name, IsFormedModule}
use Rattle.rtl_ir.specs.Ports.{Shape, PortView, input_port, output_port, kernel_ports, scalar_ports, host_input_ports, host_output_ports, shape_ports, port_view, HasShape}
use Rattle.rtl_ir.specs.Rules.{AllDiffer, names_of, IsAccepted}
use Rattle.simulation.proofs.Places.{MappedAt, mapped_at, before_others, behind_others}

-- the port of the data of an output
data_port : Name × ℕ → PortView
data_port y = output_port (codes "out$" ++ y.0 ++ codes "$data") y.1

at_output : (outputs : List (Name × ℕ)) (i : ℕ) (y : Name × ℕ) → slice_get outputs i ≡ Some y → slice_get (host_output_ports outputs) (3 * i) ≡ Some (data_port y)
unfolding data_port
at_output [] i y at = absurd (cc)
at_output (x ∷ xs) zero y at = let same : x ≡ y = cc in ap (λ (z : Name × ℕ). Some (data_port z)) same
at_output (x ∷ xs) (suc i) y at =
    let place : 3 * suc i ≡ suc (suc (suc (3 * i))) = omega arith in
    ap (slice_get (host_output_ports (x ∷ xs))) place ∙ at_output xs i y at

-- the ports before those of the outputs
first_ports : Shape → List PortView
first_ports s = input_port (codes "clk") 1 ∷ input_port (codes "reset") 1 ∷ (kernel_ports s.kernels ++ scalar_ports s.scalars ++ host_input_ports s.inputs)

at_port : (s : Shape) (i : ℕ) (y : Name × ℕ) → slice_get s.outputs i ≡ Some y → slice_get (shape_ports s) (length (first_ports s) + 3 * i) ≡ Some (data_port y)
unfolding first_ports
at_port s i y at =
    before_others (first_ports s ++ host_output_ports s.outputs) (output_port (codes "done") 1 ∷ []) (length (first_ports s) + 3 * i) (data_port y)
    (behind_others (first_ports s) (host_output_ports s.outputs) (3 * i) ∙ at_output s.outputs i y at)

-- the net of a port has the port's name
name_there : (m : Module) (n : ℕ) → n < length m.nets → slice_get (names_of m) n ≡ Some (name_of m n)
name_there m n within = elim (slice_get_cases m.nets n).1 [
  | inl w ↦
      before_others (map (λ (x : Net). x.name) m.nets ++ map (λ (k : Mem). k.name) m.mems) (map (λ (i : Instance). i.name) m.instances) n (name_of m n)
      (before_others (map (λ (x : Net). x.name) m.nets) (map (λ (k : Mem). k.name) m.mems) n (name_of m n)
      (slice_get-map (λ (x : Net). x.name) m.nets n ∙ ap (option_map (λ (x : Net). x.name)) w.2 ∙ ap Some (sym (ap net_name w.2))))
  | inr w ↦ absurd (omega (arith, w.0))
]

-- outputs of one name are one
module _ (d : Design) (m : Module) (s : Shape) (accepted : IsAccepted d) (top : top_of d ≡ Some m) (has : HasShape m s) where
  place_of : ℕ → ℕ
  place_of i = length (first_ports s) + 3 * i

  -- the port of an output
  port_of : (i : ℕ) (y : Name × ℕ) → slice_get s.outputs i ≡ Some y → MappedAt (port_view m) m.ports (place_of i) (data_port y)
  unfolding place_of
  port_of i y at = mapped_at (port_view m) m.ports (place_of i) (data_port y) (ap (λ l. slice_get l (place_of i)) has ∙ at_port s i y at)

  pub names_differ : AllDiffer (map (λ (y : Name × ℕ). y.0) s.outputs)
  unfolding place_of data_port
  names_differ i j name at_i at_j =
      let y = mapped_at (λ (y : Name × ℕ). y.0) s.outputs i name at_i in
      let z = mapped_at (λ (y : Name × ℕ). y.0) s.outputs j name at_j in
      let p = port_of i y.item y.at in
      let q = port_of j z.item z.at in
      let formed : IsFormedModule (take (length d.modules - 1) d.modules) m = accepted.formed.each (length d.modules - 1) m top in
      let names : AllDiffer (names_of m) = (accepted.sound (length d.modules - 1) m top).names in
      let one_name : name_of m p.item.net ≡ name_of m q.item.net =
      ap (λ (v : PortView). v.name) p.is
      ∙ ap (λ n. codes "out$" ++ n ++ codes "$data") (y.is ∙ sym z.is)
      ∙ sym (ap (λ (v : PortView). v.name) q.is)
      in
      let one_net : p.item.net ≡ q.item.net =
      names p.item.net q.item.net (name_of m p.item.net)
      (name_there m p.item.net (formed.ports (place_of i) p.item p.at).net)
      (name_there m q.item.net (formed.ports (place_of j) q.item q.at).net ∙ ap Some (sym one_name))
      in
      let one_place : place_of i ≡ place_of j = formed.apart (place_of i) (place_of j) p.item q.item p.at q.at one_net in
      omega (arith, one_place)
