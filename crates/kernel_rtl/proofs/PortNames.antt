-- What a finished module is asked of its ports.
use Rattle.std.proofs.Common.{◌≡◌, ℕ, suc, ◌<◌, Bool, true, false, not, ◌&&◌, ◌||◌, List, [], ◌∷◌, map, length, Some, refl, sym, ap, ◌∙◌}
use Rattle.std.specs.Prelude.{slice_get, codes}
use Rattle.std.specs.List.{list_all, list_any}
use Rattle.rtl_ir.specs.declared.design.Module.{Module}
use Rattle.rtl_ir.specs.Names.{is_name}
use Rattle.rtl_ir.specs.Formed.{name_of}
use Rattle.rtl_ir.specs.Ports.{PortView, port_view, ports_of}
use Rattle.rtl_delays.specs.Partial.{IsPartial, HasPortNames, is_own_name, is_named_port, is_bit_port}
use Rattle.rtl_delays.proofs.Added.{within}
use Rattle.kernel_ports.specs.HasKernelPorts.{HasNamedPorts}
use Rattle.kernel_rtl.proofs.Numbers.{map_got}

all_from : {A : Type 0} (test : A → Bool) (xs : List A) → ((i : ℕ) (x : A) → slice_get xs i ≡ Some x → test x ≡ true) → list_all test xs ≡ true
all_from test [] h = refl
all_from test (x ∷ xs) h = ap (λ b. b && list_all test xs) (h 0 x refl) ∙ all_from test xs (λ i y e. h (suc i) y e)

any_mapped : {A B : Type 0} (f : A → B) (test : B → Bool) (xs : List A) → list_any test (map f xs) ≡ list_any (λ x. test (f x)) xs
any_mapped f test [] = refl
any_mapped f test (x ∷ xs) = ap (λ b. test (f x) || b) (any_mapped f test xs)

both_true : (a b : Bool) → a ≡ true → b ≡ false → a && not b ≡ true
both_true a b e f = ap (λ x. x && not b) e ∙ ap not f

-- port number k has net number k
port_is : (m : Module) → IsPartial m → (i : ℕ) (v : PortView) → slice_get (ports_of m) i ≡ Some v → (i < length m.ports) × (v.name ≡ name_of m i)
port_is m p i v e =
    let g = map_got (port_view m) m.ports i v e in
    (within m.ports i g.0 g.1.0, sym (ap (λ (x : PortView). x.name) g.1.1) ∙ ap (name_of m) (p.ports i g.0 g.1.0))

pub has_port_names : (m : Module) → IsPartial m → HasNamedPorts m → HasPortNames (ports_of m)
has_port_names m p n = record {
  named = all_from is_named_port (ports_of m) (λ i v e.
      let at = port_is m p i v e in
      both_true (is_name v.name) (is_own_name v.name) (ap is_name at.1 ∙ n.port_names i at.0) (ap is_own_name at.1 ∙ n.port_apart i at.0));
  differ = λ i j name a b.
      let x = map_got (λ (v : PortView). v.name) (ports_of m) i name a in
      let y = map_got (λ (v : PortView). v.name) (ports_of m) j name b in
      let at = port_is m p i x.0 x.1.0 in
      let to = port_is m p j y.0 y.1.0 in
      n.ports_differ i j at.0 to.0 (sym at.1 ∙ x.1.1 ∙ sym y.1.1 ∙ to.1);
  clock = any_mapped (port_view m) (is_bit_port (codes "clk")) m.ports ∙ n.clock;
  reset = any_mapped (port_view m) (is_bit_port (codes "reset")) m.ports ∙ n.reset;
}
