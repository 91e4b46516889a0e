-- A finished module that kept the rules of designs while it grew keeps all of them.
use Rattle.std.proofs.Common.{◌≡◌, ℕ, zero, suc, ◌+◌, ◌<◌, ◌≤◌, ◌^◌, Bool, true, false, cond, ◌&&◌, ◌||◌, eqb, inl, inr, List, [], ◌∷◌, ◌++◌, length, map, Some, refl, sym, ap, ◌∙◌, subst, arith}
use Rattle.std.proofs.lemmas.Bool.{false≢true, eqb-true}
use Rattle.std.specs.List.{list_all, list_any}
use Rattle.std.specs.Prelude.{slice_get, codes, not}
use Rattle.rtl_ir.specs.declared.design.Net.{Net}
use Rattle.rtl_ir.specs.declared.design.Mem.{Mem}
use Rattle.rtl_ir.specs.declared.design.Port.{Port}
use Rattle.rtl_ir.specs.declared.design.Module.{Module}
use Rattle.rtl_ir.specs.declared.design.Design.{Design}
use Rattle.rtl_ir.specs.declared.design.Assign.{Assign}
use Rattle.rtl_ir.specs.declared.design.Update.{Update}
use Rattle.rtl_ir.specs.declared.design.Instance.{Instance}
use Rattle.rtl_ir.specs.declared.design.Expr.{Expr}
use Rattle.rtl_ir.specs.declared.design.Expr.TheVariants.{Net as Plain, Literal, Not, Binary, Concat, Repeat, Part, Choose, Cell as Word_at}
use Rattle.rtl_ir.specs.declared.design.Target.{Target}
use Rattle.rtl_ir.specs.declared.design.Target.TheVariants.{Reg, Cell}
use Rattle.rtl_ir.specs.Value.{net_kept, is_reg}
use Rattle.rtl_ir.specs.Operands.{mem_read, target_net, target_mem}
use Rattle.rtl_ir.specs.Typed.{is_input, is_given}
use Rattle.rtl_ir.specs.Names.{is_name}
use Rattle.rtl_ir.specs.Formed.{net_name, name_of, has_bit_input, IsFormedNet, IsFormedModule}
use Rattle.rtl_ir.specs.Ports.{PortView, port_view, ports_of}
use Rattle.rtl_ir.specs.Grow.{IsIn}
use Rattle.rtl_ir.specs.Rules.{names_of, AllDiffer, Driver, ByAssign, ByPort, Drives, HasDrivers, HasUpdates, Feeds, by_assign, by_part, IsLevelled, IsSound as KeepsRules}
use Rattle.rtl_build.specs.Wires.{is_output}
use Rattle.rtl_delays.specs.Steps.{is_target, is_mem_target, writes_reg, writes_mem, IsFree, Apart, IsTargetIn, IsKept}
use Rattle.rtl_delays.specs.Names.{memory_name}
use Rattle.rtl_delays.specs.Driven.{is_driven}
use Rattle.rtl_delays.specs.Partial.{IsOwnName, IsPartial, IsFinished, is_own_name, is_named_port, is_bit_port}
use Rattle.rtl_delays.proofs.Lists.{or_first, or_second}
use Rattle.rtl_delays.proofs.Grown.{parted, in_at, target_at, driven_at, below_or}
use Rattle.rtl_delays.proofs.Added.{item_at, within}
use Rattle.rtl_delays.proofs.Spelled.{own_named, memory_named, own_is, memory_own, own_number, memory_number, memory_other}

-- ---- names

map_at : {A B : Type 0} (f : A → B) (l : List A) (i : ℕ) (y : B) → slice_get (map f l) i ≡ Some y → (x : A) × ((slice_get l i ≡ Some x) × (f x ≡ y))
map_at f [] i y e = cc
map_at f (x ∷ l) zero y e = (x, (refl, let g : f x ≡ y = cc in g))
map_at f (x ∷ l) (suc i) y e = map_at f l i y e

map_length : {A B : Type 0} (f : A → B) (l : List A) → length (map f l) ≡ length l
map_length f [] = refl
map_length f (x ∷ l) = ap suc (map_length f l)

map_get : {A B : Type 0} (f : A → B) (l : List A) (i : ℕ) (x : A) → slice_get l i ≡ Some x → slice_get (map f l) i ≡ Some (f x)
map_get f [] i x e = cc
map_get f (y ∷ l) zero x e = let same : y ≡ x = cc in ap (λ z. Some (f z)) same
map_get f (y ∷ l) (suc i) x e = map_get f l i x e

both : (a b : Bool) → (a && b) ≡ true → (a ≡ true) × (b ≡ true)
both true b h = (refl, h)
both false b h = absurd (false≢true h)

all_at : {A : Type 0} (P : A → Bool) (l : List A) → list_all P l ≡ true → (i : ℕ) (x : A) → slice_get l i ≡ Some x → P x ≡ true
all_at P [] h i x e = cc
all_at P (y ∷ l) h zero x e = let same : y ≡ x = cc in ap P (sym same) ∙ (both (P y) (list_all P l) h).0
all_at P (y ∷ l) h (suc i) x e = all_at P l (both (P y) (list_all P l) h).1 i x e

-- the port of a number, as it is declared
view_at : (m : Module) → IsPartial m → (k : ℕ) → k < length m.ports → (v : PortView) × ((slice_get (ports_of m) k ≡ Some v) × (v.name ≡ name_of m k))
view_at m p k lt =
    let it = item_at m.ports k lt in
    (port_view m it.0, (map_get (port_view m) m.ports k it.0 it.1, ap (name_of m) (p.ports k it.0 it.1)))

port_names : (m : Module) → IsPartial m → IsFinished m → (k : ℕ) → k < length m.ports → is_name (name_of m k) ≡ true
port_names m p f k lt =
    let v = view_at m p k lt in
    ap is_name (sym v.1.1) ∙ (both (is_name v.0.name) (not (is_own_name v.0.name)) (all_at is_named_port (ports_of m) f.ports.named k v.0 v.1.0)).0

port_apart : (m : Module) → IsPartial m → IsFinished m → (k : ℕ) → k < length m.ports → is_own_name (name_of m k) ≡ false
port_apart m p f k lt =
    let v = view_at m p k lt in
    ap is_own_name (sym v.1.1) ∙ turned (is_own_name v.0.name) (both (is_name v.0.name) (not (is_own_name v.0.name)) (all_at is_named_port (ports_of m) f.ports.named k v.0 v.1.0)).1
  where
    turned : (b : Bool) → not b ≡ true → b ≡ false
    turned true h = absurd (false≢true h)
    turned false h = refl

ports_differ : (m : Module) → IsPartial m → IsFinished m → (j k : ℕ) → j < length m.ports → k < length m.ports → name_of m j ≡ name_of m k → j ≡ k
ports_differ m p f j k a b same =
    let v = view_at m p j a in
    let w = view_at m p k b in
    let at : slice_get (map (λ (v : PortView). v.name) (ports_of m)) j ≡ Some (name_of m k) = map_get (λ (v : PortView). v.name) (ports_of m) j v.0 v.1.0 ∙ ap (λ n. Some n) (v.1.1 ∙ same) in
    let too : slice_get (map (λ (v : PortView). v.name) (ports_of m)) k ≡ Some (name_of m k) = map_get (λ (v : PortView). v.name) (ports_of m) k w.0 w.1.0 ∙ ap (λ n. Some n) w.1.1 in
    f.ports.differ j k (name_of m k) at too

any_map : {A B : Type 0} (f : A → B) (P : B → Bool) (l : List A) → list_any P (map f l) ≡ list_any (λ x. P (f x)) l
any_map f P [] = refl
any_map f P (x ∷ l) = ap (λ b. P (f x) || b) (any_map f P l)

bit_input : (m : Module) (name : List ℕ) → list_any (is_bit_port name) (ports_of m) ≡ true → has_bit_input m name ≡ true
bit_input m name h = sym (any_map (port_view m) (is_bit_port name) m.ports) ∙ h

-- what a name of a module is of
data Named (m : Module) (i : ℕ) (name : List ℕ) : Type 0 where
  OfPort : i < length m.ports → name_of m i ≡ name → Named m i name
  OfNet : length m.ports ≤ i → i < 2 ^ 64 → name_of m i ≡ name → IsOwnName i name → Named m i name
  OfMem : (k : ℕ) → i ≡ length m.nets + k → k < 2 ^ 64 → name ≡ memory_name k → Named m i name

named_net : (m : Module) → IsPartial m → IsFinished m → (i : ℕ) (x : Net) → slice_get m.nets i ≡ Some x → Named m i x.name
named_net m p f i x e = elim (below_or i (length m.ports)) [
  | inl lt ↦ OfPort lt (ap net_name e)
  | inr le ↦ OfNet le (let q = within m.nets i x e in let few = f.few_nets in omega (arith, q, few)) (ap net_name e) (p.names i x le e)
]

abbrev net_names : Module → List (List ℕ)
net_names m = map (λ (n : Net). n.name) m.nets

abbrev mem_names : Module → List (List ℕ)
mem_names m = map (λ (k : Mem). k.name) m.mems

abbrev part_names : Module → List (List ℕ)
part_names m = map (λ (i : Instance). i.name) m.instances

named_at : (m : Module) → IsPartial m → IsFinished m → (i : ℕ) (name : List ℕ) → slice_get (names_of m) i ≡ Some name → Named m i name
named_at m p f i name e = elim (parted (net_names m ++ mem_names m) (part_names m) i name e) [ inl h ↦ of_first h.0 | inr h ↦ of_part h.0 h.2 ]
  where
    of_part : (k : ℕ) → slice_get (part_names m) k ≡ Some name → Named m i name
    of_part k e = let none : slice_get [] k ≡ Some name = sym (ap (λ (l : List Instance). slice_get (map (λ (i : Instance). i.name) l) k) f.alone) ∙ e in absurd (cc)

    of_first : slice_get (net_names m ++ mem_names m) i ≡ Some name → Named m i name
    of_first e = elim (parted (net_names m) (mem_names m) i name e) [
      | inl h ↦ (let r = map_at (λ (n : Net). n.name) m.nets i name h.0 in subst (Named m i) r.1.1 (named_net m p f i r.0 r.1.0))
      | inr h ↦ (
          let r = map_at (λ (k : Mem). k.name) m.mems h.0 name h.2 in
          let at = h.1 in
          let l = map_length (λ (n : Net). n.name) m.nets in
          let q = within m.mems h.0 r.0 r.1.0 in
          let few = f.few_mems in
          OfMem h.0 (omega (arith, at, l)) (omega (arith, q, few)) (sym r.1.1 ∙ (p.mems h.0 r.0 r.1.0).name)
          )
    ]

one_name : (m : Module) → IsPartial m → IsFinished m → (i j : ℕ) (name : List ℕ) → Named m i name → Named m j name → i ≡ j
one_name m p f i j name (OfPort a e) (OfPort b g) = ports_differ m p f i j a b (e ∙ sym g)
one_name m p f i j name (OfPort a e) (OfNet b few g own) = absurd (false≢true (sym (port_apart m p f i a) ∙ ap is_own_name e ∙ own_is j name few own))
one_name m p f i j name (OfPort a e) (OfMem k at few g) = absurd (false≢true (sym (port_apart m p f i a) ∙ ap is_own_name e ∙ memory_own k name few g))
one_name m p f i j name (OfNet a few e own) (OfPort b g) = absurd (false≢true (sym (port_apart m p f j b) ∙ ap is_own_name g ∙ own_is i name few own))
one_name m p f i j name (OfNet a few e own) (OfNet b few' g own') = own_number i j name few few' own own' (λ q. p.position i j a b (e ∙ q) (g ∙ q))
one_name m p f i j name (OfNet a few e own) (OfMem k at few' g) = absurd (memory_other i k name own g)
one_name m p f i j name (OfMem k at few e) (OfPort b g) = absurd (false≢true (sym (port_apart m p f j b) ∙ ap is_own_name g ∙ memory_own k name few e))
one_name m p f i j name (OfMem k at few e) (OfNet b few' g own) = absurd (memory_other j k name own e)
one_name m p f i j name (OfMem k at few e) (OfMem l at' few' g) = let q = memory_number k l name few few' e g in omega (arith, at, at', q)

names_differ : (m : Module) → IsPartial m → IsFinished m → AllDiffer (names_of m)
names_differ m p f i j name e g = one_name m p f i j name (named_at m p f i name e) (named_at m p f j name g)

-- ---- drivers

abbrev first_drive : ℕ → List Assign → ℕ
first_drive n [] = 0
first_drive n (a ∷ l) = cond (eqb a.target n) 0 (suc (first_drive n l))

found : (n : ℕ) (l : List Assign) → is_driven n l ≡ true → (a : Assign) × ((slice_get l (first_drive n l) ≡ Some a) × (a.target ≡ n))
found n [] h = absurd (false≢true h)
found n (a ∷ l) h = by_test (eqb a.target n) refl h (λ q. found n l q)
  where
    by_test : (b : Bool) → eqb a.target n ≡ b → b || is_driven n l ≡ true
        → (is_driven n l ≡ true → (x : Assign) × ((slice_get l (first_drive n l) ≡ Some x) × (x.target ≡ n)))
        → (x : Assign) × ((slice_get (a ∷ l) (cond b 0 (suc (first_drive n l))) ≡ Some x) × (x.target ≡ n))
    by_test true e h k = (a, (refl, eqb-true a.target n e))
    by_test false e h k = k h

-- a port is an input or an output
port_input : (ps : List Port) (k : ℕ) (p : Port) (n : ℕ) → slice_get ps k ≡ Some p → p.net ≡ n → p.output ≡ false → is_input ps n ≡ true
port_input [] k p n e at o = cc
port_input (x ∷ ps) zero p n e at o =
    let same : x ≡ p = cc in
    let one : eqb p.net n ≡ true = grind (arith, at) in
    ap (λ (y : Port). (eqb y.net n && not y.output) || is_input ps n) same ∙ ap (λ b. (b && not p.output) || is_input ps n) one ∙ ap (λ b. (not b) || is_input ps n) o
port_input (x ∷ ps) (suc k) p n e at o = ap (λ b. (eqb x.net n && not x.output) || b) (port_input ps k p n e at o) ∙ either (eqb x.net n && not x.output)
  where
    either : (b : Bool) → b || true ≡ true
    either true = refl
    either false = refl

port_output : (ps : List Port) (k : ℕ) (p : Port) (n : ℕ) → slice_get ps k ≡ Some p → p.net ≡ n → p.output ≡ true → is_output ps n ≡ true
port_output [] k p n e at o = cc
port_output (x ∷ ps) zero p n e at o =
    let same : x ≡ p = cc in
    let one : eqb p.net n ≡ true = grind (arith, at) in
    ap (λ (y : Port). (eqb y.net n && y.output) || is_output ps n) same ∙ ap (λ b. (b && p.output) || is_output ps n) one ∙ ap (λ b. b || is_output ps n) o
port_output (x ∷ ps) (suc k) p n e at o = ap (λ b. (eqb x.net n && x.output) || b) (port_output ps k p n e at o) ∙ either (eqb x.net n && x.output)
  where
    either : (b : Bool) → b || true ≡ true
    either true = refl
    either false = refl

-- each net that is to have an assignment has one
all_driven : (m : Module) → IsPartial m → IsFinished m → (n : ℕ) → n < length m.nets → is_given m n ≡ false → is_driven n m.assigns ≡ true
all_driven m p f n lt free = elim (below_or n (length m.ports)) [
  | inl h ↦ (let it = item_at m.ports n h in f.driven n (of_port it.0 it.1 (p.ports n it.0 it.1) it.0.output refl))
  | inr h ↦ (let it = item_at m.nets n lt in p.wired n it.0 h it.1 (sym (ap net_kept it.1) ∙ or_first (is_reg m n) (is_input m.ports n) free))
]
  where
    of_port : (x : Port) → slice_get m.ports n ≡ Some x → x.net ≡ n → (b : Bool) → x.output ≡ b → is_output m.ports n ≡ true
    of_port x e at true o = port_output m.ports n x n e at o
    of_port x e at false o = absurd (false≢true (sym (or_second (is_reg m n) (is_input m.ports n) free) ∙ port_input m.ports n x n e at o))

no_instance : (m : Module) (k : ℕ) (i : Instance) → m.instances ≡ [] → slice_get m.instances k ≡ Some i → ⊥
no_instance m k i none e = let h : slice_get [] k ≡ Some i = sym (ap (λ (l : List Instance). slice_get l k) none) ∙ e in absurd (cc)

driven : (d : Design) (m : Module) → IsPartial m → IsFinished m → HasDrivers d m
driven d m p f = record {
  driver = λ n. ByAssign (first_drive n m.assigns);
  some = λ n lt free. let r = found n m.assigns (all_driven m p f n lt free) in (r.0, r.1.0, r.1.1);
  only = λ n x h. only n x h;
}
  where
    only : (n : ℕ) (x : Driver) → Drives d m x n → (n < length m.nets) × (is_given m n ≡ false) × (x ≡ ByAssign (first_drive n m.assigns))
    only n (ByAssign j) h =
        let a = h.0 in
        let lt = (in_at (length m.nets) (length m.mems) m.assigns p.sound.range j a h.1).0 in
        let e = h.2 in
        let r = found n m.assigns (subst (λ t. is_driven t m.assigns ≡ true) e (driven_at m.assigns j a h.1)) in
        (omega (arith, lt, e), sym (ap (is_given m) e) ∙ (p.assigns j a h.1).free, ap ByAssign (p.single j (first_drive n m.assigns) a r.0 h.1 r.1.0 (e ∙ sym r.1.1)))
    only n (ByPort k j) h = absurd (no_instance m k h.0.part f.alone h.0.of)

-- ---- updates

abbrev first_write : ℕ → List Update → ℕ
first_write n [] = 0
first_write n (u ∷ us) = cond (is_target n u.target) 0 (suc (first_write n us))

is_reg_target : (n : ℕ) (t : Target) → is_target n t ≡ true → t ≡ Reg n
is_reg_target n (Reg k) h = ap Reg (eqb-true k n h)
is_reg_target n (Cell k a) h = absurd (false≢true h)

found_write : (n : ℕ) (us : List Update) → writes_reg n us ≡ true → (u : Update) × ((slice_get us (first_write n us) ≡ Some u) × (u.target ≡ Reg n))
found_write n [] h = absurd (false≢true h)
found_write n (u ∷ us) h = by_test (is_target n u.target) refl h (λ q. found_write n us q)
  where
    by_test : (b : Bool) → is_target n u.target ≡ b → b || writes_reg n us ≡ true
        → (writes_reg n us ≡ true → (x : Update) × ((slice_get us (first_write n us) ≡ Some x) × (x.target ≡ Reg n)))
        → (x : Update) × ((slice_get (u ∷ us) (cond b 0 (suc (first_write n us))) ≡ Some x) × (x.target ≡ Reg n))
    by_test true e h k = (u, (refl, is_reg_target n u.target e))
    by_test false e h k = k h

or_true : (b : Bool) → b || true ≡ true
or_true true = refl
or_true false = refl

pub writes_at : (us : List Update) (j : ℕ) (u : Update) (n : ℕ) → slice_get us j ≡ Some u → u.target ≡ Reg n → writes_reg n us ≡ true
writes_at [] j u n e t = cc
writes_at (w ∷ us) zero u n e t =
    let same : w ≡ u = cc in
    let one : eqb n n ≡ true = grind arith in
    ap (λ (x : Update). is_target n x.target || writes_reg n us) same ∙ ap (λ x. is_target n x || writes_reg n us) t ∙ ap (λ b. b || writes_reg n us) one
writes_at (w ∷ us) (suc j) u n e t = ap (λ b. is_target n w.target || b) (writes_at us j u n e t) ∙ or_true (is_target n w.target)

writes_mem_at : (us : List Update) (j : ℕ) (u : Update) (k a : ℕ) → slice_get us j ≡ Some u → u.target ≡ Cell k a → writes_mem k us ≡ true
writes_mem_at [] j u k a e t = cc
writes_mem_at (w ∷ us) zero u k a e t =
    let same : w ≡ u = cc in
    let one : eqb k k ≡ true = grind arith in
    ap (λ (x : Update). is_mem_target k x.target || writes_mem k us) same ∙ ap (λ x. is_mem_target k x || writes_mem k us) t ∙ ap (λ b. b || writes_mem k us) one
writes_mem_at (w ∷ us) (suc j) u k a e t = ap (λ b. is_mem_target k w.target || b) (writes_mem_at us j u k a e t) ∙ or_true (is_mem_target k w.target)

apart_regs : (us : List Update) → Apart us → (i j : ℕ) (u v : Update) (n : ℕ) → slice_get us i ≡ Some u → slice_get us j ≡ Some v → u.target ≡ Reg n → v.target ≡ Reg n → i ≡ j
apart_regs [] h i j u v n e f s t = cc
apart_regs (w ∷ us) h zero zero u v n e f s t = refl
apart_regs (w ∷ us) h zero (suc j) u v n e f s t =
    let same : w ≡ u = cc in
    absurd (false≢true (sym (subst (IsFree us) (ap (λ (x : Update). x.target) same ∙ s) h.0) ∙ writes_at us j v n f t))
apart_regs (w ∷ us) h (suc i) zero u v n e f s t =
    let same : w ≡ v = cc in
    absurd (false≢true (sym (subst (IsFree us) (ap (λ (x : Update). x.target) same ∙ t) h.0) ∙ writes_at us i u n e s))
apart_regs (w ∷ us) h (suc i) (suc j) u v n e f s t = ap suc (apart_regs us h.1 i j u v n e f s t)

apart_mems : (us : List Update) → Apart us → (i j : ℕ) (u v : Update) (k a b : ℕ) → slice_get us i ≡ Some u → slice_get us j ≡ Some v → u.target ≡ Cell k a → v.target ≡ Cell k b → i ≡ j
apart_mems [] h i j u v k a b e f s t = cc
apart_mems (w ∷ us) h zero zero u v k a b e f s t = refl
apart_mems (w ∷ us) h zero (suc j) u v k a b e f s t =
    let same : w ≡ u = cc in
    absurd (false≢true (sym (subst (IsFree us) (ap (λ (x : Update). x.target) same ∙ s) h.0) ∙ writes_mem_at us j v k b f t))
apart_mems (w ∷ us) h (suc i) zero u v k a b e f s t =
    let same : w ≡ v = cc in
    absurd (false≢true (sym (subst (IsFree us) (ap (λ (x : Update). x.target) same ∙ t) h.0) ∙ writes_mem_at us i u k a e s))
apart_mems (w ∷ us) h (suc i) (suc j) u v k a b e f s t = ap suc (apart_mems us h.1 i j u v k a b e f s t)

updated : (m : Module) → IsPartial m → IsFinished m → HasUpdates m
updated m p f = record {
  update = λ n. first_write n m.updates;
  some = λ n reg. let r = found_write n m.updates (f.written n reg) in (r.0, r.1.0, r.1.1);
  only = λ n j u e t.
      let r = found_write n m.updates (writes_at m.updates j u n e t) in
      (subst (IsKept m) t (p.updates j u e).kept, apart_regs m.updates p.sound.apart j (first_write n m.updates) u r.0 n e r.1.0 t r.1.1);
  of_mems = λ k i j a b u v e g s t. apart_mems m.updates p.sound.apart i j u v k a b e g s t;
}

-- ---- levels

abbrev rank : Module → ℕ → ℕ
rank m n = cond (is_output m.ports n) (length m.nets) n

levelled : (d : Design) (m : Module) → IsPartial m → IsFinished m → IsLevelled d m
levelled d m p f = record { rank = rank m; rising = λ a b h. rising h refl }
  where
    rises : (a n : ℕ) → n < length m.nets → is_output m.ports n ≡ false → (is_output m.ports a ≡ false → n < a) → rank m n < rank m a
    rises a n lt inner earlier = by_target (is_output m.ports a) refl
      where
        low : rank m n ≡ n
        low = ap (λ b. cond b (length m.nets) n) inner

        by_target : (b : Bool) → is_output m.ports a ≡ b → rank m n < cond b (length m.nets) a
        by_target true e = omega (arith, low, lt)
        by_target false e = let q = earlier e in omega (arith, low, q)

    rising : {l : Module} {a b : ℕ} → Feeds d l a b → l ≡ m → rank m a < rank m b
    rising (by_assign j n a e r) q =
        let o = p.ordered j a (ap (λ (l : Module). slice_get l.assigns j) (sym q) ∙ e) in
        rises a.target n (o.within n r) (o.inner n r) (o.earlier n r)
    rising (by_part k j l c e o i w) q = absurd (no_instance m k c.part f.alone (ap (λ (l : Module). slice_get l.instances k) (sym q) ∙ c.of))

pub keeps_rules : (d : Design) (m : Module) → IsPartial m → IsFinished m → KeepsRules d m
keeps_rules d m p f = record {
  names = names_differ m p f;
  driven = driven d m p f;
  updated = updated m p f;
  widths = record {
    typed = λ j a e. (p.assigns j a e).typed;
    updates = λ j u e. (p.updates j u e).typed;
    joined = λ k j c. absurd (no_instance m k c.part f.alone c.of);
  };
  levelled = levelled d m p f;
}

-- ---- form

mem_in : (nets mems : ℕ) (e : Expr) → IsIn nets mems e → (k : ℕ) → mem_read e ≡ Some k → k < mems
mem_in nets mems (Plain n) i k h = cc
mem_in nets mems (Literal x) i k h = cc
mem_in nets mems (Not n) i k h = cc
mem_in nets mems (Binary s a b) i k h = cc
mem_in nets mems (Concat a b) i k h = cc
mem_in nets mems (Repeat t n) i k h = cc
mem_in nets mems (Part n hi lo) i k h = cc
mem_in nets mems (Choose n a b) i k h = cc
mem_in nets mems (Word_at j n) i k h = let e : j ≡ k = cc in subst (λ x. x < mems) e i.0

net_in : (nets mems : ℕ) (t : Target) → IsTargetIn nets mems t → target_net t < nets
net_in nets mems (Reg n) i = i
net_in nets mems (Cell k a) i = i.1

target_mem_in : (nets mems : ℕ) (t : Target) → IsTargetIn nets mems t → (k : ℕ) → target_mem t ≡ Some k → k < mems
target_mem_in nets mems (Reg n) i k h = cc
target_mem_in nets mems (Cell j a) i k h = let e : j ≡ k = cc in subst (λ x. x < mems) e i.0

net_is_name : (m : Module) → IsPartial m → IsFinished m → (k : ℕ) (x : Net) → slice_get m.nets k ≡ Some x → IsFormedNet x
net_is_name m p f k x e = record {
  name = elim (below_or k (length m.ports)) [
    | inl lt ↦ subst (λ n. is_name n ≡ true) (ap net_name e) (port_names m p f k lt)
    | inr le ↦ own_named k x.name (let q = within m.nets k x e in let few = f.few_nets in omega (arith, q, few)) (p.names k x le e)
  ];
  some = (p.widths k x e).0;
  at_most = (p.widths k x e).1;
}

pub formed : (earlier : List Module) (m : Module) → IsPartial m → IsFinished m → IsFormedModule earlier m
formed earlier m p f = record {
  name = f.name;
  nets = net_is_name m p f;
  mems = λ k x e.
      let h = p.mems k x e in
      record {
        name = ap is_name h.name ∙ memory_named k (let q = within m.mems k x e in let few = f.few_mems in omega (arith, q, few));
        some = h.some;
        at_most = h.at_most;
        words = h.words;
        words_at_most = h.words_at_most;
      };
  ports = λ k x e.
      let at = p.ports k x e in
      let lt = within m.ports k x e in
      let front = p.front in
      record { net = omega (arith, at, lt, front); wire = ap (is_reg m) at ∙ p.port_wires k lt };
  apart = λ j k x y e g same. sym (p.ports j x e) ∙ same ∙ p.ports k y g;
  assigns = λ k a e.
      let r = in_at (length m.nets) (length m.mems) m.assigns p.sound.range k a e in
      record {
        target = r.0;
        expr = record {
          nets = (p.ordered k a e).within;
          mem = mem_in (length m.nets) (length m.mems) a.expr r.1;
          numbers = (p.assigns k a e).numbers;
        };
      };
  updates = λ k u e.
      let h = p.updates k u e in
      let r = target_at (length m.nets) (length m.mems) m.updates p.sound.updates k u e in
      record {
        enable = h.enable;
        value = h.value;
        net = net_in (length m.nets) (length m.mems) u.target r;
        mem = target_mem_in (length m.nets) (length m.mems) u.target r;
      };
  instances = λ k i e. absurd (no_instance m k i f.alone e);
  clock = bit_input m (codes "clk") f.ports.clock;
  reset = bit_input m (codes "reset") f.ports.reset;
}
