-- Ports that are added one after another.
use Rattle.std.proofs.Common.{◌≡◌, ℕ, zero, suc, ◌+◌, ◌<◌, ◌≤◌, Bool, false, List, [], ◌∷◌, ◌++◌, map, length, Some, refl, sym, ap, ◌∙◌, arith, length-append, append-nil, append_assoc}
use Rattle.std.specs.Prelude.{slice_get}
use Rattle.rtl_ir.specs.declared.design.Net.{Net}
use Rattle.rtl_ir.specs.declared.design.Port.{Port}
use Rattle.rtl_ir.specs.declared.design.Module.{Module}
use Rattle.rtl_ir.specs.Value.{net_width}
use Rattle.rtl_ir.specs.Formed.{net_name}
use Rattle.rtl_ir.specs.Ports.{PortView, port_view, ports_of}
use Rattle.rtl_build.specs.declared.signal.Signal.{Signal}
use Rattle.rtl_build.specs.Ports.{AddsPort, with_port}
use Rattle.rtl_delays.specs.Partial.{HasPortsAlone, IsPartial}
use Rattle.rtl_delays.proofs.Lists.{get_within, get_last}
use Rattle.rtl_delays.proofs.Begun.{port_alone}
use Rattle.kernel_ports.specs.Added.{AddsPorts}

within : {A : Type 0} (l : List A) (k : ℕ) (x : A) → slice_get l k ≡ Some x → k < length l
within [] k x e = cc
within (y ∷ l) zero x e = omega arith
within (y ∷ l) (suc k) x e = let q = within l k x e in omega (arith, q)

-- the ports of these nets
abbrev AreBelow : Module → List Port → Type 0
AreBelow m ps = (k : ℕ) (p : Port) → slice_get ps k ≡ Some p → p.net < length m.nets

-- the nets that stood look as before where nets were added at the end
view_kept : (m n : Module) (more : List Net) → n.nets ≡ m.nets ++ more → (p : Port) → p.net < length m.nets → port_view n p ≡ port_view m p
view_kept m n more e p lt =
    let same : slice_get n.nets p.net ≡ slice_get m.nets p.net = ap (λ (l : List Net). slice_get l p.net) e ∙ get_within m.nets more p.net lt in
    ap (λ x. record { name = net_name x; width = net_width x; output = p.output }) same

pub views_kept : (m n : Module) (more : List Net) → n.nets ≡ m.nets ++ more → (ps : List Port) → AreBelow m ps → map (port_view n) ps ≡ map (port_view m) ps
views_kept m n more e [] h = refl
views_kept m n more e (p ∷ ps) h =
    let first : port_view n p ≡ port_view m p = view_kept m n more e p (h 0 p refl) in
    let rest : map (port_view n) ps ≡ map (port_view m) ps = views_kept m n more e ps (λ k q r. h (suc k) q r) in
    ap (λ v. v ∷ map (port_view n) ps) first ∙ ap (λ vs. port_view m p ∷ vs) rest

-- the ports of a module that keeps the rules have nets
pub below : (m : Module) → IsPartial m → AreBelow m m.ports
below m h k p e =
    let at = h.ports k p e in
    let lt = within m.ports k p e in
    let front = h.front in
    omega (arith, at, lt, front)

map-append : {A B : Type 0} (f : A → B) (xs ys : List A) → map f (xs ++ ys) ≡ map f xs ++ map f ys
map-append f [] ys = refl
map-append f (x ∷ xs) ys = ap (λ l. f x ∷ l) (map-append f xs ys)

-- one port was added
pub port_added : {m n : Module} {name : List ℕ} {w : ℕ} {output : Bool} {s : Signal}
    → HasPortsAlone m → 1 ≤ w → w ≤ 128 → AddsPort m n name w output s
    → AddsPorts m n (record { name = name; width = w; output = output } ∷ [])
port_added {m} {n} {name} {w} {output} {s} alone some most adds = record {
  name = ap (λ (x : Module). x.name) adds.is;
  ports = ap ports_of adds.is ∙ seen;
  nets = ap (λ (x : Module). length x.nets) adds.is ∙ length-append m.nets (y ∷ []);
  alone = port_alone alone some most adds;
}
  where
    y : Net
    y = record { name = name; width = w; reg = false }

    q : Port
    q = record { net = length m.nets; output = output }

    new : Module
    new = with_port m name w output

    last : port_view new q ≡ record { name = name; width = w; output = output }
    last = ap (λ x. record { name = net_name x; width = net_width x; output = output }) (get_last m.nets y)

    seen : ports_of new ≡ ports_of m ++ record { name = name; width = w; output = output } ∷ []
    seen = map-append (port_view new) m.ports (q ∷ [])
        ∙ ap (λ vs. vs ++ port_view new q ∷ []) (views_kept m new (y ∷ []) refl m.ports (below m alone.partial))
        ∙ ap (λ v. ports_of m ++ v ∷ []) last

-- the signal of a new port
pub signal_added : {m n : Module} {name : List ℕ} {w : ℕ} {output : Bool} {s : Signal}
    → AddsPort m n name w output s → s ≡ record { net = length m.nets; width = w }
signal_added {m} {n} {name} {w} {output} {s} adds = ap (λ k. pair k s.width) adds.net ∙ ap (pair (length m.nets)) adds.width
  where
    pair : ℕ → ℕ → Signal
    pair k v = record { net = k; width = v }

-- ports, and then more ports
pub adds_on : {l m n : Module} {xs ys : List PortView} → AddsPorts l m xs → AddsPorts m n ys → AddsPorts l n (xs ++ ys)
adds_on {l} {m} {n} {xs} {ys} p q = record {
  name = q.name ∙ p.name;
  ports = q.ports ∙ ap (λ vs. vs ++ ys) p.ports ∙ append_assoc (ports_of l) xs ys;
  nets = let a = p.nets in let b = q.nets in let e = length-append xs ys in omega (arith, a, b, e);
  alone = q.alone;
}

-- ---- ports of which some are left

-- the ports that stand, with those that are left, are the old ones with all of these
pub record AreLeft (old now : Module) (left all : List PortView) : Type 0 where
  pub name : now.name ≡ old.name
  pub ports : ports_of now ++ left ≡ ports_of old ++ all
  pub nets : length now.nets + length left ≡ length old.nets + length all
  pub alone : HasPortsAlone now

pub all_left : {m : Module} {all : List PortView} → HasPortsAlone m → AreLeft m m all all
all_left alone = record { name = refl; ports = refl; nets = refl; alone = alone }

pub fewer_left : {old now new : Module} {some left all : List PortView} → AreLeft old now (some ++ left) all → AddsPorts now new some → AreLeft old new left all
fewer_left {old} {now} {new} {some} {left} {all} h p = record {
  name = p.name ∙ h.name;
  ports = ap (λ vs. vs ++ left) p.ports ∙ append_assoc (ports_of now) some left ∙ h.ports;
  nets = let a = p.nets in let b = h.nets in let e = length-append some left in omega (arith, a, b, e);
  alone = p.alone;
}

pub none_left : {old now : Module} {left all : List PortView} → AreLeft old now left all → left ≡ [] → AddsPorts old now all
none_left {old} {now} {left} {all} h e = record {
  name = h.name;
  ports = sym (append-nil (ports_of now)) ∙ ap (λ vs. ports_of now ++ vs) (sym e) ∙ h.ports;
  nets = let a = h.nets in let b : length left ≡ 0 = ap length e in omega (arith, a, b);
  alone = h.alone;
}
