-- Which registers there are, what is written and what is driven, in modules that grow.
use Rattle.std.proofs.Common.{◌≡◌, ℕ, zero, suc, ◌+◌, ◌<◌, Bool, true, false, ◌||◌, eqb, inl, inr, List, [], ◌∷◌, ◌++◌, length, map, Some, refl, sym, ap, ◌∙◌, arith, append-nil}
use Rattle.std.proofs.lemmas.Bool.{false≢true}
use Rattle.std.specs.Prelude.{slice_get, ◌⊎◌}
use Rattle.rtl_ir.specs.declared.design.Net.{Net}
use Rattle.rtl_ir.specs.declared.design.Port.{Port}
use Rattle.rtl_ir.specs.declared.design.Module.{Module}
use Rattle.rtl_ir.specs.declared.design.Update.{Update}
use Rattle.rtl_ir.specs.declared.design.Target.TheVariants.{Reg}
use Rattle.rtl_ir.specs.Value.{net_width, net_kept, is_reg, width_of}
use Rattle.rtl_ir.specs.Formed.{net_name, name_of}
use Rattle.rtl_ir.specs.Ports.{PortView, port_view, ports_of}
use Rattle.rtl_ir.specs.Grow.{Grows}
use Rattle.rtl_ir.proofs.Grow.{width_kept}
use Rattle.rtl_build.specs.declared.signal.Signal.{Signal}
use Rattle.rtl_build.specs.Wires.{AddsWires}
use Rattle.rtl_build.specs.Ports.{AddsPort, Drives, with_port}
use Rattle.rtl_build.specs.Storage.{AddsRegister, AddsMemory, AddsUpdate, ReadsCell}
use Rattle.rtl_delays.specs.Steps.{is_target, writes_reg, HasUpdate}
use Rattle.rtl_delays.specs.Driven.{is_driven}
use Rattle.rtl_delays.specs.Partial.{IsPartial}
use Rattle.rtl_delays.specs.Extends.{AddsNoRegister, AddsOneRegister}
use Rattle.rtl_delays.proofs.Grown.{parted, reg_within, driven_more, same_name}
use Rattle.rtl_delays.proofs.Added.{item_at, wire_of_net, within, more_of}
use Rattle.rtl_delays.proofs.Lists.{get_last}
use Rattle.rtl_delays.proofs.Accepted.{writes_at}

abbrev view : List ℕ → ℕ → Bool → PortView
view name w output = record { name = name; width = w; output = output }

-- a register that was added is one of the nets that were
new_reg : (m n : Module) (g : Grows m n) (k : ℕ) → is_reg n k ≡ true → (is_reg m k ≡ true) ⊎ ((i : ℕ) × ((x : Net) × ((k ≡ length m.nets + i) × ((slice_get g.more_nets i ≡ Some x) × (x.reg ≡ true)))))
new_reg m n g k h =
    let it = item_at n.nets k (reg_within n.nets k h) in
    let kept : it.0.reg ≡ true = sym (ap net_kept it.1) ∙ h in
    elim (parted m.nets g.more_nets k it.0 (sym (ap (λ l. slice_get l k) g.nets) ∙ it.1))
    [ inl r ↦ inl (ap net_kept r.0 ∙ kept) | inr r ↦ inr (r.0, (it.0, (r.1, (r.2, kept)))) ]

-- wires are no registers
pub wires_no_register : {m n : Module} {most : ℕ} → AddsWires m n most → AddsNoRegister m n
wires_no_register {m} {n} adds k h = elim (new_reg m n adds.grows k h) [
  | inl r ↦ r
  | inr r ↦ (let w = wire_of_net n (length m.nets) adds.grows.more_nets adds.grows.more_assigns adds.wires r.0 r.1.0 r.1.1.1.0 in absurd (false≢true (sym w.1.1.wire ∙ r.1.1.1.1)))
]

same_nets_no_register : (m n : Module) → n.nets ≡ m.nets → AddsNoRegister m n
same_nets_no_register m n e k h = sym (ap (λ (l : List Net). net_kept (slice_get l k)) e) ∙ h

pub memory_no_register : {m n : Module} {name : List ℕ} {w depth j : ℕ} → AddsMemory m n name w depth j → AddsNoRegister m n
memory_no_register {m} {n} adds = same_nets_no_register m n (ap (λ (k : Module). k.nets) adds.is)

pub update_no_register : {m n : Module} {u : Update} → AddsUpdate m n u → AddsNoRegister m n
update_no_register {m} {n} adds = same_nets_no_register m n (ap (λ (k : Module). k.nets) adds.is)

pub drive_no_register : {m n : Module} {output source : Signal} → Drives m n output source → AddsNoRegister m n
drive_no_register {m} {n} adds = same_nets_no_register m n (ap (λ (k : Module). k.nets) adds.is)

last_reg : (l : List Net) (x : Net) (k : ℕ) → net_kept (slice_get (l ++ x ∷ []) k) ≡ true → (net_kept (slice_get l k) ≡ true) ⊎ ((k ≡ length l) × (x.reg ≡ true))
last_reg [] x zero h = inr (refl, h)
last_reg [] x (suc k) h = absurd (false≢true h)
last_reg (y ∷ l) x zero h = inl h
last_reg (y ∷ l) x (suc k) h = elim (last_reg l x k h) [ inl r ↦ inl r | inr r ↦ inr (ap suc r.0, r.1) ]

pub cell_no_register : {m n : Module} {j : ℕ} {address s : Signal} → ReadsCell m n j address s → AddsNoRegister m n
cell_no_register {m} {n} adds k h = elim (last_reg m.nets _ k (sym (ap (λ (x : Module). is_reg x k) adds.is) ∙ h)) [ inl r ↦ r | inr r ↦ absurd (false≢true r.1) ]

pub register_one : {m n : Module} {name : List ℕ} {w : ℕ} {s : Signal} → AddsRegister m n name w s → AddsOneRegister m n s.net
register_one {m} {n} {s = s} adds k h other = elim (last_reg m.nets _ k (sym (ap (λ (x : Module). is_reg x k) adds.is) ∙ h))
    [ inl r ↦ r | inr r ↦ (let at = adds.net in let e = r.0 in let one : eqb s.net k ≡ true = grind (arith, at, e) in absurd (false≢true (sym other ∙ one))) ]

-- one call after another
pub no_register_on : (l m n : Module) → AddsNoRegister l m → AddsNoRegister m n → AddsNoRegister l n
no_register_on l m n a b k h = a k (b k h)

pub one_register_on : (l m n : Module) (r : ℕ) → AddsOneRegister l m r → AddsNoRegister m n → AddsOneRegister l n r
one_register_on l m n r a b k h other = a k (b k h) other

-- ---- what is written or driven stays so

pub written_by : (m : Module) (u : Update) (r : ℕ) → u.target ≡ Reg r → HasUpdate m u → writes_reg r m.updates ≡ true
written_by m u r t h = writes_at m.updates h.0 u r h.1 t

writes_more : (n : ℕ) (xs ys : List Update) → writes_reg n xs ≡ true → writes_reg n (xs ++ ys) ≡ true
writes_more n [] ys h = absurd (false≢true h)
writes_more n (x ∷ xs) ys h = step (is_target n x.target) h (λ q. writes_more n xs ys q)
  where
    step : (b : Bool) → b || writes_reg n xs ≡ true → (writes_reg n xs ≡ true → writes_reg n (xs ++ ys) ≡ true) → b || writes_reg n (xs ++ ys) ≡ true
    step true h k = refl
    step false h k = k h

pub written_kept : (m n : Module) (r : ℕ) → Grows m n → writes_reg r m.updates ≡ true → writes_reg r n.updates ≡ true
written_kept m n r g h = ap (writes_reg r) g.updates ∙ writes_more r m.updates g.more_updates h

pub driven_kept : (m n : Module) (k : ℕ) → Grows m n → is_driven k m.assigns ≡ true → is_driven k n.assigns ≡ true
driven_kept m n k g h = ap (is_driven k) g.assigns ∙ driven_more k m.assigns g.more_assigns h

-- ---- the ports, as they are declared

view_kept : (m n : Module) (g : Grows m n) (p : Port) → p.net < length m.nets → port_view n p ≡ port_view m p
view_kept m n g p lt =
    let name = same_name m n g p.net lt in
    let width = width_kept m n g p.net lt in
    ap (λ t. view t (width_of n p.net) p.output) name ∙ ap (λ w. view (name_of m p.net) w p.output) width

views_kept : (m n : Module) (g : Grows m n) (ps : List Port) → ((k : ℕ) (p : Port) → slice_get ps k ≡ Some p → p.net < length m.nets) → map (port_view n) ps ≡ map (port_view m) ps
views_kept m n g [] h = refl
views_kept m n g (p ∷ ps) h = ap (λ v. v ∷ map (port_view n) ps) (view_kept m n g p (h 0 p refl)) ∙ ap (λ vs. port_view m p ∷ vs) (views_kept m n g ps (λ k q e. h (suc k) q e))

port_within : (m : Module) → IsPartial m → (k : ℕ) (p : Port) → slice_get m.ports k ≡ Some p → p.net < length m.nets
port_within m p k x e = let at = p.ports k x e in let lt = within m.ports k x e in let f = p.front in omega (arith, at, lt, f)

-- a module that grows has the same ports
pub ports_kept : (m n : Module) → Grows m n → IsPartial m → ports_of n ≡ ports_of m
ports_kept m n g p = ap (map (port_view n)) g.ports ∙ views_kept m n g m.ports (port_within m p)

map_both : {A B : Type 0} (f : A → B) (xs ys : List A) → map f (xs ++ ys) ≡ map f xs ++ map f ys
map_both f [] ys = refl
map_both f (x ∷ xs) ys = ap (λ l. f x ∷ l) (map_both f xs ys)

-- one port more
pub port_added : {m n : Module} {name : List ℕ} {w : ℕ} {output : Bool} {s : Signal} → IsPartial m → AddsPort m n name w output s → ports_of n ≡ ports_of m ++ view name w output ∷ []
port_added {m} {n} {name} {w} {output} p adds = ap ports_of adds.is ∙ all
  where
    new : Module
    new = with_port m name w output

    x : Net
    x = record { name = name; width = w; reg = false }

    larger : Module
    larger = record m { nets = m.nets ++ x ∷ [] }

    g : Grows m larger
    g = more_of m larger (x ∷ []) [] [] [] refl (sym (append-nil m.mems)) (sym (append-nil m.assigns)) (sym (append-nil m.updates)) refl refl

    at : slice_get new.nets (length m.nets) ≡ Some x
    at = get_last m.nets x

    last : port_view new (record { net = length m.nets; output = output }) ≡ view name w output
    last = ap (λ t. view t (width_of new (length m.nets)) output) (ap net_name at) ∙ ap (λ u. view name u output) (ap net_width at)

    all : ports_of new ≡ ports_of m ++ view name w output ∷ []
    all = map_both (port_view new) m.ports ((record { net = length m.nets; output = output }) ∷ [])
        ∙ ap (λ vs. vs ++ map (port_view new) ((record { net = length m.nets; output = output }) ∷ [])) (views_kept m larger g m.ports (port_within m p))
        ∙ ap (λ v. map (port_view m) m.ports ++ v ∷ []) last
