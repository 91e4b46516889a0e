-- The ports of a module that has ports alone, by their numbers.
use Rattle.std.proofs.Common.{◌≡◌, ℕ, zero, suc, ◌+◌, ◌<◌, ◌≤◌, Bool, true, false, ◌&&◌, ◌||◌, List, [], ◌∷◌, ◌++◌, length, Some, None, refl, sym, ap, ◌∙◌, subst, arith}
use Rattle.std.specs.Prelude.{slice_get, nat_eq, Option}
use Rattle.std.proofs.lemmas.Bool.Decides.{nat_tests}
use Rattle.std.specs.Option.{option_map}
use Rattle.std.proofs.lemmas.Option.{slice_get-map}
use Rattle.rtl_ir.specs.declared.design.Net.{Net}
use Rattle.rtl_ir.specs.declared.design.Port.{Port}
use Rattle.rtl_ir.specs.declared.design.Module.{Module}
use Rattle.rtl_ir.specs.Value.{width_of, net_width}
use Rattle.rtl_ir.specs.Formed.{name_of}
use Rattle.rtl_ir.specs.Ports.{PortView, port_view, ports_of, port_net, net_at}
use Rattle.rtl_build.specs.Wires.{is_output}
use Rattle.rtl_delays.specs.Partial.{HasPortsAlone, IsPartial}
use Rattle.kernel_ports.proofs.Adding.{below}

-- port number k is as declared, and is net number k
pub record IsPortAt (m : Module) (k : ℕ) (v : PortView) : Type 0 where
  pub net : net_at m k ≡ k
  pub within : k < length m.nets
  pub name : name_of m k ≡ v.name
  pub width : width_of m k ≡ v.width
  pub output : is_output m.ports k ≡ v.output
  pub some : 1 ≤ v.width
  pub at_most : v.width ≤ 128

-- from number k on the ports are as declared
abbrev pub Stand : Module → ℕ → List PortView → Type 0
Stand m k [] = Unit {0}
Stand m k (v ∷ vs) = IsPortAt m k v × Stand m (k + 1) vs

no_net : (xs : List Net) (k : ℕ) → k < length xs → slice_get xs k ≡ None → ⊥
no_net [] k lt e = absurd (omega arith)
no_net (x ∷ xs) zero lt e = cc
no_net (x ∷ xs) (suc k) lt e = no_net xs k (omega arith) e

no_output : (ps : List Port) (n : ℕ) → ((k : ℕ) (p : Port) → slice_get ps k ≡ Some p → n < p.net) → is_output ps n ≡ false
no_output [] n h = refl
no_output (p ∷ ps) n h =
    let lt : n < p.net = h 0 p refl in
    let other : nat_eq p.net n ≡ false = grind (arith, nat_tests) in
    rw other (no_output ps n (λ k q e. h (suc k) q e))

its_own : (a b : Bool) → b ≡ false → (true && a) || b ≡ a
its_own true b h = refl
its_own false b h = h

-- ports whose nets are their numbers from j on
output_at : (ps : List Port) (j : ℕ) → ((k : ℕ) (p : Port) → slice_get ps k ≡ Some p → p.net ≡ j + k) → (k : ℕ) (p : Port)
    → slice_get ps k ≡ Some p → is_output ps p.net ≡ p.output
output_at [] j h k p e = absurd (cc)
output_at (q ∷ ps) j h zero p e =
    let is : q ≡ p = cc in
    let here : q.net ≡ j = let a = h 0 q refl in omega (arith, a) in
    let same : nat_eq q.net q.net ≡ true = grind (arith, nat_tests) in
    let none : is_output ps q.net ≡ false = no_output ps q.net (λ k r g. let a = h (suc k) r g in omega (arith, a, here)) in
    let own : is_output (q ∷ ps) q.net ≡ q.output = ap (λ b. (b && q.output) || is_output ps q.net) same ∙ its_own q.output (is_output ps q.net) none in
    subst (λ (r : Port). is_output (q ∷ ps) r.net ≡ r.output) is own
output_at (q ∷ ps) j h (suc k) p e =
    let here : q.net ≡ j + 0 = h 0 q refl in
    let there : p.net ≡ j + suc k = h (suc k) p e in
    let other : nat_eq q.net p.net ≡ false = grind (arith, nat_tests) in
    let rest : is_output ps p.net ≡ p.output = output_at ps (j + 1) (λ i r g. let a = h (suc i) r g in omega (arith, a)) k p e in
    rw other rest

-- a port that is declared is there
pub port_at : (m : Module) → HasPortsAlone m → (k : ℕ) (v : PortView) → slice_get (ports_of m) k ≡ Some v → IsPortAt m k v
port_at m alone k v e = by_port (slice_get m.ports k) refl
  where
    h : IsPartial m
    h = alone.partial

    by_port : (x : Option Port) → slice_get m.ports k ≡ x → IsPortAt m k v
    by_port None f = let g : slice_get (ports_of m) k ≡ None = slice_get-map (port_view m) m.ports k ∙ ap (option_map (port_view m)) f in absurd (cc)
    by_port (Some p) f =
        let g : slice_get (ports_of m) k ≡ Some (port_view m p) = slice_get-map (port_view m) m.ports k ∙ ap (option_map (port_view m)) f in
        let view : port_view m p ≡ v = let q : Some (port_view m p) ≡ Some v = sym g ∙ e in cc in
        let number : p.net ≡ k = h.ports k p f in
        let within : p.net < length m.nets = below m h k p f in
        let wide = wide_at (slice_get m.nets k) refl (subst (λ n. n < length m.nets) number within) in
        let width : width_of m k ≡ v.width = ap (width_of m) (sym number) ∙ ap (λ (x : PortView). x.width) view in
        record {
          net = ap port_net f ∙ number;
          within = subst (λ n. n < length m.nets) number within;
          name = ap (name_of m) (sym number) ∙ ap (λ (x : PortView). x.name) view;
          width = width;
          output = ap (is_output m.ports) (sym number) ∙ output_at m.ports 0 (λ i q r. let a = h.ports i q r in omega (arith, a)) k p f
              ∙ ap (λ (x : PortView). x.output) view;
          some = let a = wide.0 in omega (arith, a, width);
          at_most = let a = wide.1 in omega (arith, a, width);
        }
      where
        wide_at : (x : Option Net) → slice_get m.nets k ≡ x → k < length m.nets → (1 ≤ width_of m k) × (width_of m k ≤ 128)
        wide_at None f lt = absurd (no_net m.nets k lt f)
        wide_at (Some x) f lt =
            let w = h.widths k x f in
            let e : width_of m k ≡ x.width = ap net_width f in
            (let a = w.0 in omega (arith, a, e), let a = w.1 in omega (arith, a, e))

-- all that are declared are there
stand_from : (m : Module) → HasPortsAlone m → (vs : List PortView) (j : ℕ)
    → ((k : ℕ) (v : PortView) → slice_get vs k ≡ Some v → slice_get (ports_of m) (j + k) ≡ Some v) → Stand m j vs
stand_from m alone [] j h = tt
stand_from m alone (v ∷ vs) j h = (
  port_at m alone j v (subst (λ i. slice_get (ports_of m) i ≡ Some v) (let e : j + 0 ≡ j = omega arith in e) (h 0 v refl)),
  stand_from m alone vs (j + 1)
      (λ k u e. subst (λ i. slice_get (ports_of m) i ≡ Some u) (let e : j + suc k ≡ j + 1 + k = omega arith in e) (h (suc k) u e)),
)

pub all_stand : (m : Module) → HasPortsAlone m → Stand m 0 (ports_of m)
all_stand m alone = stand_from m alone (ports_of m) 0 (λ k v e. subst (λ i. slice_get (ports_of m) i ≡ Some v) (let e : k ≡ 0 + k = omega arith in e) e)

pub first_stand : (m : Module) (k : ℕ) (us vs : List PortView) → Stand m k (us ++ vs) → Stand m k us
first_stand m k [] vs h = tt
first_stand m k (u ∷ us) vs h = (h.0, first_stand m (k + 1) us vs h.1)

pub rest_stand : (m : Module) (k j : ℕ) (us vs : List PortView) → j ≡ k + length us → Stand m k (us ++ vs) → Stand m j vs
rest_stand m k j [] vs e h = subst (λ i. Stand m i vs) (let f : k ≡ j = omega arith in f) h
rest_stand m k j (u ∷ us) vs e h = rest_stand m (k + 1) j us vs (omega arith) h.1
