-- Modules that grow by ports, and outputs that are given values.
use Rattle.std.proofs.Common.{◌≡◌, ℕ, ◌+◌, ◌<◌, Bool, true, false, ◌&&◌, ◌||◌, List, [], ◌∷◌, ◌++◌, length, refl, sym, ap, ◌∙◌, subst, arith, length-append, append-nil}
use Rattle.std.specs.Prelude.{slice_get, nat_eq}
use Rattle.std.proofs.lemmas.Bool.Decides.{nat_tests}
use Rattle.rtl_ir.specs.declared.design.Net.{Net}
use Rattle.rtl_ir.specs.declared.design.Port.{Port}
use Rattle.rtl_ir.specs.declared.design.Module.{Module}
use Rattle.rtl_ir.specs.declared.design.Assign.{Assign}
use Rattle.rtl_ir.specs.declared.design.Expr.{Expr}
use Rattle.rtl_ir.specs.declared.design.Expr.TheVariants.{Net as Plain, Literal, Not, Binary, Concat, Repeat, Part, Choose, Cell}
use Rattle.rtl_ir.specs.Value.{Family, Contents, value, width_of, net_width}
use Rattle.rtl_ir.specs.Edge.{Assigned}
use Rattle.rtl_ir.specs.Grow.{Grows, Holds}
use Rattle.rtl_ir.proofs.Grow.{width_kept, holds_before}
use Rattle.rtl_build.specs.declared.signal.Signal.{Signal}
use Rattle.rtl_build.specs.Wires.{is_output, ArePortsIn, IsOpen}
use Rattle.rtl_build.specs.Signals.{HasSignal}
use Rattle.rtl_build.specs.Ports.{AddsPort, HasOutput, Drives, with_port, with_assign}
use Rattle.rtl_build.proofs.Growing.{open_net, larger, wire, gets, signal, get_last, last_assigned, no_output, signal_kept}

-- the module with these nets and ports
abbrev pub ported : Module → List Net → List Port → Module
ported m nets ps = record { name = m.name; ports = ps; nets = nets; mems = m.mems; assigns = m.assigns; updates = m.updates; instances = m.instances }

abbrev port : ℕ → Bool → Port
port n output = record { net = n; output = output }

ports_and : (n : ℕ) (ps : List Port) (p : Port) → ArePortsIn n ps → p.net < n → ArePortsIn n (ps ++ p ∷ [])
ports_and n [] p h lt = (lt, tt)
ports_and n (q ∷ ps) p h lt = (h.0, ports_and n ps p h.1 lt)

pub open_port : (m : Module) (nets : List Net) (ps : List Port) (x : Net) (n : ℕ)
    (output : Bool) → IsOpen m → n ≡ length m.nets → nets ≡ m.nets ++ x ∷ [] → ps ≡ m.ports
    ++ port n output ∷ [] → IsOpen (ported m nets ps)
open_port m nets ps x n output is_open at nets_are ports_are =
    let more = open_net m nets x is_open nets_are in
    let len : length nets ≡ length m.nets + 1 = ap length nets_are ∙ length-append m.nets (x ∷ []) in
    record {
      range = more.range;
      ports = subst (ArePortsIn (length nets)) (sym ports_are) (ports_and (length nets) m.ports (port n output) more.ports (omega arith));
    }

net_grows : (m : Module) (nets : List Net) (x : Net) → nets ≡ m.nets ++ x ∷ [] → Grows m (larger m nets m.assigns)
net_grows m nets x nets_are = record {
  more_nets = x ∷ [];
  nets = nets_are;
  more_mems = [];
  mems = sym (append-nil m.mems);
  more_assigns = [];
  assigns = sym (append-nil m.assigns);
  more_updates = [];
  updates = sym (append-nil m.updates);
  ports = refl;
  instances = refl;
}

-- a value hangs on no port
value_free : (m : Module) (nets : List Net) (ps : List Port) (c : Contents) (v : Family) (w : ℕ) (e : Expr) → value (ported m nets ps) c v w e ≡ value (larger m nets m.assigns) c v w e
value_free m nets ps c v w (Plain k) = refl
value_free m nets ps c v w (Literal x) = refl
value_free m nets ps c v w (Not k) = refl
value_free m nets ps c v w (Binary s a b) = refl
value_free m nets ps c v w (Concat a b) = refl
value_free m nets ps c v w (Repeat t k) = refl
value_free m nets ps c v w (Part k hi lo) = refl
value_free m nets ps c v w (Choose k a b) = refl
value_free m nets ps c v w (Cell k a) = refl

assigned_free : (m : Module) (nets : List Net) (ps : List Port) (c : Contents) (v : Family) (l : List Assign) → Assigned (ported m nets ps) c v l → Assigned (larger m nets m.assigns) c v l
assigned_free m nets ps c v [] h = tt
assigned_free m nets ps c v (a ∷ l) h = (h.0 ∙ value_free m nets ps c v (width_of (ported m nets ps) a.target) a.expr, assigned_free m nets ps c v l h.1)

other_port : (ps : List Port) (p : Port) (n : ℕ) → nat_eq p.net n ≡ false → is_output (ps ++ p ∷ []) n ≡ is_output ps n
other_port [] p n e = rw e refl
other_port (q ∷ ps) p n e = ap (λ b. (nat_eq q.net n && q.output) || b) (other_port ps p n e)

its_own : (b : Bool) → (true && b) || false ≡ b
its_own true = refl
its_own false = refl

last_port : (ps : List Port) (n : ℕ) (output : Bool) → ArePortsIn n ps → is_output (ps ++ port n output ∷ []) n ≡ output
last_port [] n output h =
    let same : nat_eq n n ≡ true = grind (arith, nat_tests) in
    ap (λ b. (b && output) || false) same ∙ its_own output
last_port (q ∷ ps) n output h =
    let other : nat_eq q.net n ≡ false = grind (arith, nat_tests, h.0) in
    ap (λ b. (b && q.output) || is_output (ps ++ port n output ∷ []) n) other ∙ last_port ps n output h.1

-- one port more
pub adds_port : (m : Module) (nets : List Net) (ps : List Port) (name : List ℕ) (w n : ℕ)
    (output : Bool) → IsOpen m → n ≡ length m.nets → nets ≡ m.nets ++ wire name w ∷ []
    → ps ≡ m.ports ++ port n output ∷ [] → AddsPort m (ported m nets ps) name w output (signal n w)
adds_port m nets ps name w n output is_open at nets_are ports_are =
    let len : length nets ≡ length m.nets + 1 = ap length nets_are ∙ length-append m.nets (wire name w ∷ []) in
    let grows = net_grows m nets (wire name w) nets_are in
    let here : ps ≡ m.ports ++ port (length m.nets) output ∷ [] = ports_are ∙ ap (λ k. m.ports ++ port k output ∷ []) at in
    let apart : (t : ℕ) → t < length m.nets → is_output ps t ≡ is_output m.ports t = λ t lt.
    let other : nat_eq (length m.nets) t ≡ false = grind (arith, nat_tests, lt) in
    ap (λ l. is_output l t) here ∙ other_port m.ports (port (length m.nets) output) t other in
    record {
      is = ap (λ l. ported m l ps) nets_are ∙ ap (ported m (m.nets ++ wire name w ∷ [])) here;
      net = at;
      width = refl;
      within = omega arith;
      direction = ap (is_output ps) at ∙ ap (λ l. is_output l (length m.nets)) here ∙ last_port m.ports (length m.nets) output is_open.ports;
      wide = ap (λ (l : List Net). net_width (slice_get l n)) nets_are ∙ ap (λ k. net_width (slice_get (m.nets ++ wire name w ∷ []) k)) at ∙ ap net_width (get_last m.nets (wire name w));
      keeps = λ t h. record {
        net = omega (arith, h.net);
        inner = apart t.net h.net ∙ h.inner;
        width = width_kept m (larger m nets m.assigns) grows t.net h.net ∙ h.width;
        some = h.some;
        at_most = h.at_most;
      };
      outputs = λ t h. record {
        net = omega (arith, h.net);
        output = apart t.net h.net ∙ h.output;
        width = width_kept m (larger m nets m.assigns) grows t.net h.net ∙ h.width;
      };
      before = λ c v h. holds_before m (larger m nets m.assigns) grows is_open.range c v (record {
        words = h.words;
        assigned = assigned_free m nets ps c v m.assigns h.assigned;
        kept = h.kept;
      });
    }

-- one assignment more
pub drives : (m : Module) (assigns : List Assign) (output source : Signal) → IsOpen m
    → assigns ≡ m.assigns ++ gets output.net (Plain source.net) ∷ []
    → Drives m (larger m m.nets assigns) output source
drives m assigns output source is_open assigns_are =
    let new = larger m m.nets assigns in
    let grows : Grows m new = record {
      more_nets = [];
      nets = sym (append-nil m.nets);
      more_mems = [];
      mems = sym (append-nil m.mems);
      more_assigns = gets output.net (Plain source.net) ∷ [];
      assigns = assigns_are;
      more_updates = [];
      updates = sym (append-nil m.updates);
      ports = refl;
      instances = refl;
    } in
    let Q : Contents → Family → List Assign → Type 0 = λ c v l. Assigned new c v l in
    record {
      is = ap (λ l. larger m m.nets l) assigns_are;
      value = λ c v h. last_assigned new c v m.assigns (gets output.net (Plain source.net)) (subst (Q c v) assigns_are h.assigned);
      keeps = λ t h. signal_kept m new grows t h;
      outputs = λ t h. record { net = h.net; output = h.output; width = h.width };
      before = λ c v h. holds_before m new grows is_open.range c v h;
    }
