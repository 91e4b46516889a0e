-- Modules that have ports alone.
use Rattle.std.proofs.Common.{◌≡◌, ℕ, ◌+◌, ◌<◌, ◌≤◌, Bool, false, inl, inr, List, [], ◌∷◌, length, Some, refl, sym, ap, ◌∙◌, subst, arith, length-append}
use Rattle.std.specs.Prelude.{slice_get, ◌⊎◌}
use Rattle.rtl_ir.specs.declared.design.Net.{Net}
use Rattle.rtl_ir.specs.declared.design.Mem.{Mem}
use Rattle.rtl_ir.specs.declared.design.Port.{Port}
use Rattle.rtl_ir.specs.declared.design.Assign.{Assign}
use Rattle.rtl_ir.specs.declared.design.Update.{Update}
use Rattle.rtl_ir.specs.declared.design.Module.{Module}
use Rattle.rtl_ir.specs.Value.{net_kept, is_reg}
use Rattle.rtl_build.specs.declared.signal.Signal.{Signal}
use Rattle.rtl_build.specs.Wires.{empty}
use Rattle.rtl_build.specs.Ports.{AddsPort, with_port}
use Rattle.rtl_delays.specs.Steps.{IsSound}
use Rattle.rtl_delays.specs.Ordered.{IsOrderedAssign}
use Rattle.rtl_delays.specs.Partial.{IsOwnName, IsPartialMem, IsPartialAssign, IsPartialUpdate, IsPartial, HasPortsAlone}
use Rattle.rtl_delays.specs.Names.{HasNoPosition}
use Rattle.rtl_delays.proofs.Lists.{get_last, get_within}
use Rattle.rtl_delays.proofs.Grown.{parted, one_item, within_name, below_or}
use Rattle.rtl_delays.proofs.Added.{within}
use Rattle.rtl_delays.proofs.Extends.{empty_sound, port_sound}

none : {A : Type 0} (P : A → Type 0) (l : List A) → l ≡ [] → (i : ℕ) (a : A) → slice_get l i ≡ Some a → P a
none P [] e i a h = cc
none P (x ∷ l) e i a h = cc

pub empty_alone : (name : List ℕ) → HasPortsAlone (empty name)
empty_alone name = record {
  partial = record {
    sound = empty_sound name;
    ordered = λ j a e. none (λ (a : Assign). IsOrderedAssign (empty name) a) [] refl j a e;
    front = omega arith;
    ports = λ k p e. none (λ (p : Port). p.net ≡ k) [] refl k p e;
    port_wires = λ k lt. refl;
    widths = λ k x e. none (λ (x : Net). (1 ≤ x.width) × (x.width ≤ 128)) [] refl k x e;
    names = λ k x le e. none (λ (x : Net). IsOwnName k x.name) [] refl k x e;
    position = λ j k a b e f. let lt = within_name (empty name) j e in absurd (omega (arith, lt));
    wired = λ k x le e r. cc;
    mems = λ k x e. none (λ (x : Mem). IsPartialMem k x) [] refl k x e;
    assigns = λ j a e. none (λ (a : Assign). IsPartialAssign (empty name) a) [] refl j a e;
    single = λ i j a b e f same. none (λ (a : Assign). i ≡ j) [] refl i a e;
    updates = λ j u e. none (λ (u : Update). IsPartialUpdate (empty name) u) [] refl j u e;
  };
  nets = refl;
  mems = refl;
  assigns = refl;
  updates = refl;
  instances = refl;
}

-- no net past the ports has a name
pub no_position : (m : Module) → length m.nets ≡ length m.ports → HasNoPosition m
no_position m same k le e = let lt = within_name m k e in absurd (omega (arith, lt, le, same))

pub port_alone : {m n : Module} {name : List ℕ} {w : ℕ} {output : Bool} {s : Signal} → HasPortsAlone m → 1 ≤ w → w ≤ 128 → AddsPort m n name w output s → HasPortsAlone n
port_alone {m} {n} {name} {w} {output} h some most adds = subst HasPortsAlone (sym adds.is) (all (subst (λ (k : Module). IsSound k) adds.is (port_sound h.partial.sound adds)))
  where
    new : Module
    new = with_port m name w output

    y : Net
    y = record { name = name; width = w; reg = false }

    q : Port
    q = record { net = length m.nets; output = output }

    p : IsPartial m
    p = h.partial

    nets : length new.nets ≡ length m.nets + 1
    nets = length-append m.nets (y ∷ [])

    ports : length new.ports ≡ length m.ports + 1
    ports = length-append m.ports (q ∷ [])

    same : length new.nets ≡ length new.ports
    same = let e = h.nets in omega (arith, nets, ports, e)

    port_at : (k : ℕ) (x : Port) → slice_get new.ports k ≡ Some x → x.net ≡ k
    port_at k x e = elim (parted m.ports (q ∷ []) k x e) [
      | inl r ↦ p.ports k x r.0
      | inr r ↦ (let o = one_item q r.0 x r.2 in let z = o.0 in let at = r.1 in let l = h.nets in let t : length m.nets ≡ x.net = ap (λ (x : Port). x.net) o.1 in omega (arith, z, at, l, t))
    ]

    wire_at : (k : ℕ) → k < length new.ports → is_reg new k ≡ false
    wire_at k lt = elim (parted_below k lt) [
      | inl r ↦ ap net_kept (get_within m.nets (y ∷ []) k (let l = h.nets in omega (arith, r, l))) ∙ p.port_wires k r
      | inr r ↦ ap (is_reg new) (let l = h.nets in let e : k ≡ length m.nets = omega (arith, r, l) in e) ∙ ap net_kept (get_last m.nets y)
    ]
      where
        parted_below : (k : ℕ) → k < length new.ports → (k < length m.ports) ⊎ (k ≡ length m.ports)
        parted_below k lt = elim (below_or k (length m.ports)) [ inl r ↦ inl r | inr r ↦ inr (omega (arith, r, lt, ports)) ]

    width_at : (k : ℕ) (x : Net) → slice_get new.nets k ≡ Some x → (1 ≤ x.width) × (x.width ≤ 128)
    width_at k x e = elim (parted m.nets (y ∷ []) k x e)
        [ inl r ↦ p.widths k x r.0 | inr r ↦ subst (λ (x : Net). (1 ≤ x.width) × (x.width ≤ 128)) (one_item y r.0 x r.2).1 (some, most) ]

    past : (k : ℕ) (x : Net) → length new.ports ≤ k → slice_get new.nets k ≡ Some x → ⊥
    past k x le e = let lt = within new.nets k x e in absurd (omega (arith, lt, le, same))

    all : IsSound new → HasPortsAlone new
    all sound = record {
      partial = record {
        sound = sound;
        ordered = λ j a e. none (λ (a : Assign). IsOrderedAssign new a) m.assigns h.assigns j a e;
        front = omega (arith, same);
        ports = port_at;
        port_wires = wire_at;
        widths = width_at;
        names = λ k x le e. absurd (past k x le e);
        position = λ j k a b e f. absurd (no_position new same j a e);
        wired = λ k x le e r. absurd (past k x le e);
        mems = λ k x e. none (λ (x : Mem). IsPartialMem k x) m.mems h.mems k x e;
        assigns = λ j a e. none (λ (a : Assign). IsPartialAssign new a) m.assigns h.assigns j a e;
        single = λ i j a b e f same. none (λ (a : Assign). i ≡ j) m.assigns h.assigns i a e;
        updates = λ j u e. none (λ (u : Update). IsPartialUpdate new u) m.updates h.updates j u e;
      };
      nets = same;
      mems = h.mems;
      assigns = h.assigns;
      updates = h.updates;
      instances = h.instances;
    }
