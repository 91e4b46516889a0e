-- Modules that grow by wires, one after another.
use Rattle.std.proofs.Common.{◌≡◌, ℕ, ◌+◌, ◌*◌, ◌<◌, ◌≤◌, ◌^◌, List, [], ◌∷◌, ◌++◌, Option, Some, IfSome, false, length, refl, sym, ap, ◌∙◌, subst, arith, length-append, append-nil, append_assoc}
use Rattle.std.specs.Prelude.{slice_get, nat_eq}
use Rattle.std.proofs.lemmas.Bool.Decides.{nat_tests}
use Rattle.rtl_ir.specs.declared.design.Net.{Net}
use Rattle.rtl_ir.specs.declared.design.Port.{Port}
use Rattle.rtl_ir.specs.declared.design.Module.{Module}
use Rattle.rtl_ir.specs.declared.design.Assign.{Assign}
use Rattle.rtl_ir.specs.declared.design.Sign.{Sign}
use Rattle.rtl_ir.specs.declared.design.Expr.{Expr}
use Rattle.rtl_ir.specs.declared.design.Expr.TheVariants.{Net as Plain, Literal, Not, Binary, Concat, Repeat, Part, Choose, Cell}
use Rattle.rtl_ir.specs.Value.{Family, Contents, value, width_of, net_width}
use Rattle.rtl_ir.specs.Edge.{Assigned}
use Rattle.rtl_ir.specs.Operands.{reads, bit_numbers}
use Rattle.rtl_ir.specs.Typed.{IsTyped, IsSignTyped}
use Rattle.rtl_ir.specs.Grow.{IsIn, AllIn, Grows, Holds}
use Rattle.rtl_ir.proofs.Grow.{width_kept, value_kept, holds_before}
use Rattle.rtl_build.specs.declared.signal.Signal.{Signal}
use Rattle.rtl_build.specs.Wires.{is_output, AreInner, ArePortsIn, IsOpen, wire_name, MayBeWire, IsWire, AreWires, AddsWires}
use Rattle.rtl_build.specs.Signals.{HasSignal, no_contents, Makes, MakesWhere}

-- nets before some number are nets before a greater one
pub in_more : (a b k j : ℕ) (e : Expr) → a ≤ b → k ≤ j → IsIn a k e → IsIn b j e
in_more a b k j (Plain n) h g i = omega arith
in_more a b k j (Literal x) h g i = tt
in_more a b k j (Not n) h g i = omega arith
in_more a b k j (Binary s x y) h g i = (omega arith, omega arith)
in_more a b k j (Concat x y) h g i = (omega arith, omega arith)
in_more a b k j (Repeat t n) h g i = omega arith
in_more a b k j (Part n hi lo) h g i = omega arith
in_more a b k j (Choose n x y) h g i = (omega arith, omega arith, omega arith)
in_more a b k j (Cell x n) h g i = (omega arith, omega arith)

pub all_in : (a b k : ℕ) (l : List Assign) (x : Assign) → a ≤ b → AllIn a k l → x.target < b → IsIn b k x.expr → AllIn b k (l ++ x ∷ [])
all_in a b k [] x h i t e = (t, e, tt)
all_in a b k (y ∷ l) x h i t e = (omega (arith, i.0), in_more a b k k y.expr h (omega arith) i.1, all_in a b k l x h i.2 t e)

pub range_in_more : (a b k j : ℕ) (l : List Assign) → a ≤ b → k ≤ j → AllIn a k l → AllIn b j l
range_in_more a b k j [] h g i = tt
range_in_more a b k j (y ∷ l) h g i = (omega (arith, i.0), in_more a b k j y.expr h g i.1, range_in_more a b k j l h g i.2)

pub last_assigned : (m : Module) (c : Contents) (v : Family) (l : List Assign) (x : Assign) → Assigned m c v (l ++ x ∷ []) → v x.target ≡ value m c v (width_of m x.target) x.expr
last_assigned m c v [] x h = h.0
last_assigned m c v (y ∷ l) x h = last_assigned m c v l x h.1

pub get_last : (l : List Net) (x : Net) → slice_get (l ++ x ∷ []) (length l) ≡ Some x
get_last [] x = refl
get_last (y ∷ l) x = get_last l x

-- an operator's widths in the larger module
sign_typed : (s : Sign) (w a b a' b' : ℕ) → a' ≡ a → b' ≡ b → IsSignTyped s w a b → IsSignTyped s w a' b'
sign_typed s w a b a' b' e f h = let P : ℕ → ℕ → Type 0 = λ x y. IsSignTyped s w x y in subst (λ x. P x b') (sym e) (subst (P a) (sym f) h)

-- what is typed over the first nets is typed in the larger module
pub typed_kept : (m n : Module) → Grows m n → (e : Expr) (w k : ℕ) → k ≤ length m.nets → IsIn k 0 e → IsTyped m w e → IsTyped n w e
typed_kept m n g (Plain a) w k le i t = width_kept m n g a (omega arith) ∙ t
typed_kept m n g (Literal x) w k le i t = t
typed_kept m n g (Not a) w k le i t = width_kept m n g a (omega arith) ∙ t
typed_kept m n g (Binary s a b) w k le i t = sign_typed s w (width_of m a) (width_of m b) _ _ (width_kept m n g a (omega (arith, i.0))) (width_kept m n g b (omega (arith, i.1))) t
typed_kept m n g (Concat a b) w k le i t =
    let x = width_kept m n g a (omega (arith, i.0)) in
    let y = width_kept m n g b (omega (arith, i.1)) in
    omega arith
typed_kept m n g (Repeat x a) w k le i t = ap (λ y. x * y) (width_kept m n g a (omega arith)) ∙ t
typed_kept m n g (Part a hi lo) w k le i t = let x = width_kept m n g a (omega arith) in (t.0, omega (arith, t.1), t.2)
typed_kept m n g (Choose c a b) w k le i t = (width_kept m n g c (omega (arith, i.0)) ∙ t.0, width_kept m n g a (omega (arith, i.1)) ∙ t.1, width_kept m n g b (omega (arith, i.2)) ∙ t.2)
typed_kept m n g (Cell j a) w k le i t = absurd (omega (arith, i.0))

wire_kept : (m n : Module) → Grows m n → (k : ℕ) (net : Net) (a : Assign) → k ≤ length m.nets → IsWire m k net a → IsWire n k net a
wire_kept m n g k net a le h = record {
  name = h.name;
  some = h.some;
  at_most = h.at_most;
  wire = h.wire;
  target = h.target;
  earlier = h.earlier;
  inner = subst (λ ps. AreInner ps (reads a.expr)) (sym g.ports) h.inner;
  numbers = h.numbers;
  typed = typed_kept m n g a.expr net.width k le h.earlier h.typed;
}

pub wires_kept : (m n : Module) → Grows m n → (k : ℕ) (nets : List Net) (assigns : List Assign) → k + length nets ≤ length m.nets → AreWires m k nets assigns → AreWires n k nets assigns
wires_kept m n g k [] [] le h = tt
wires_kept m n g k [] (a ∷ assigns) le h = absurd h
wires_kept m n g k (x ∷ nets) [] le h = absurd h
wires_kept m n g k (x ∷ nets) (a ∷ assigns) le h = (wire_kept m n g k x a (omega arith) h.0, wires_kept m n g (k + 1) nets assigns (omega arith) h.1)

wires_on : (m : Module) (k j : ℕ) (xs ys : List Net) (as' bs : List Assign) → j ≡ k + length xs → AreWires m k xs as' → AreWires m j ys bs → AreWires m k (xs ++ ys) (as' ++ bs)
wires_on m k j [] ys [] bs e h q = let f : j ≡ k = omega arith in subst (λ i. AreWires m i ys bs) f q
wires_on m k j [] ys (a ∷ as') bs e h q = absurd h
wires_on m k j (x ∷ xs) ys [] bs e h q = absurd h
wires_on m k j (x ∷ xs) ys (a ∷ as') bs e h q = (h.0, wires_on m (k + 1) j xs ys as' bs (omega arith) h.1 q)

abbrev pub both : (l m n : Module) → Grows l m → Grows m n → Grows l n
both l m n g h = record {
  more_nets = g.more_nets ++ h.more_nets;
  nets = h.nets ∙ ap (λ x. x ++ h.more_nets) g.nets ∙ append_assoc l.nets g.more_nets h.more_nets;
  more_mems = g.more_mems ++ h.more_mems;
  mems = h.mems ∙ ap (λ x. x ++ h.more_mems) g.mems ∙ append_assoc l.mems g.more_mems h.more_mems;
  more_assigns = g.more_assigns ++ h.more_assigns;
  assigns = h.assigns ∙ ap (λ x. x ++ h.more_assigns) g.assigns ∙ append_assoc l.assigns g.more_assigns h.more_assigns;
  more_updates = g.more_updates ++ h.more_updates;
  updates = h.updates ∙ ap (λ x. x ++ h.more_updates) g.updates ∙ append_assoc l.updates g.more_updates h.more_updates;
  ports = h.ports ∙ g.ports;
  instances = h.instances ∙ g.instances;
}

-- wires, and then more wires
pub adds_on : (l m n : Module) (j k i : ℕ) → AddsWires l m j → AddsWires m n k → j + k ≤ i → AddsWires l n i
adds_on l m n j k i p q h =
    let size : length m.nets ≡ length l.nets + length p.grows.more_nets = ap length p.grows.nets ∙ length-append l.nets p.grows.more_nets in
    record {
      grows = both l m n p.grows q.grows;
      name = q.name ∙ p.name;
      mems = q.mems ∙ p.mems;
      updates = q.updates ∙ p.updates;
      wires = wires_on n (length l.nets) (length m.nets) p.grows.more_nets q.grows.more_nets p.grows.more_assigns q.grows.more_assigns size
          (wires_kept m n q.grows (length l.nets) p.grows.more_nets p.grows.more_assigns (omega arith) p.wires) q.wires;
      count = omega (arith, p.count, q.count);
    }

-- no wire at all
pub adds_none : (m : Module) (k : ℕ) → AddsWires m m k
adds_none m k = record {
  grows = record {
    more_nets = [];
    nets = sym (append-nil m.nets);
    more_mems = [];
    mems = sym (append-nil m.mems);
    more_assigns = [];
    assigns = sym (append-nil m.assigns);
    more_updates = [];
    updates = sym (append-nil m.updates);
    ports = refl;
    instances = refl;
  };
  name = refl;
  mems = refl;
  updates = refl;
  wires = tt;
  count = omega arith;
}

pub signal_kept : (m n : Module) → Grows m n → (s : Signal) → HasSignal m s → HasSignal n s
signal_kept m n g s h =
    let size : length n.nets ≡ length m.nets + length g.more_nets = ap length g.nets ∙ length-append m.nets g.more_nets in
    record {
      net = omega (arith, h.net);
      inner = ap (λ ps. is_output ps s.net) g.ports ∙ h.inner;
      width = width_kept m n g s.net h.net ∙ h.width;
      some = h.some;
      at_most = h.at_most;
    }

-- an expression that reads no memory
no_memory : (m : Module) (c : Contents) (v : Family) (w n : ℕ) (e : Expr) → IsIn n 0 e → value m c v w e ≡ value m no_contents v w e
no_memory m c v w n (Plain a) i = refl
no_memory m c v w n (Literal x) i = refl
no_memory m c v w n (Not a) i = refl
no_memory m c v w n (Binary s a b) i = refl
no_memory m c v w n (Concat a b) i = refl
no_memory m c v w n (Repeat x a) i = refl
no_memory m c v w n (Part a hi lo) i = refl
no_memory m c v w n (Choose x a b) i = refl
no_memory m c v w n (Cell j a) i = absurd (omega (arith, i.0))

abbrev pub wire : List ℕ → ℕ → Net
wire name w = record { name = name; width = w; reg = false }

abbrev pub gets : ℕ → Expr → Assign
gets n e = record { target = n; expr = e }

abbrev pub larger : Module → List Net → List Assign → Module
larger m nets assigns = record { name = m.name; ports = m.ports; nets = nets; mems = m.mems; assigns = assigns; updates = m.updates; instances = m.instances }

abbrev pub signal : ℕ → ℕ → Signal
signal n w = record { net = n; width = w }

-- a net past those of the ports is no output
pub no_output : (n : ℕ) (ps : List Port) → ArePortsIn n ps → is_output ps n ≡ false
no_output n [] h = refl
no_output n (p ∷ ps) h =
    let other : nat_eq p.net n ≡ false = grind (arith, nat_tests, h.0) in
    rw (other, no_output n ps h.1) refl

ports_in_more : (n k : ℕ) (ps : List Port) → n ≤ k → ArePortsIn n ps → ArePortsIn k ps
ports_in_more n k [] le h = tt
ports_in_more n k (p ∷ ps) le h = (omega (arith, h.0), ports_in_more n k ps le h.1)

-- a net more, which nothing names yet
pub open_net : (m : Module) (nets : List Net) (x : Net) → IsOpen m → nets ≡ m.nets ++ x ∷ [] → IsOpen (larger m nets m.assigns)
open_net m nets x is_open nets_are =
    let len : length nets ≡ length m.nets + 1 = ap length nets_are ∙ length-append m.nets (x ∷ []) in
    record {
      range = range_in_more (length m.nets) (length nets) (length m.mems) (length m.mems) m.assigns (omega arith) (omega arith) is_open.range;
      ports = ports_in_more (length m.nets) (length nets) m.ports (omega arith) is_open.ports;
    }

-- an assignment more, over nets of the module
pub open_assign : (m : Module) (assigns : List Assign) (x : Assign) → IsOpen m
    → x.target < length m.nets → IsIn (length m.nets) (length m.mems) x.expr
    → assigns ≡ m.assigns ++ x ∷ [] → IsOpen (larger m m.nets assigns)
open_assign m assigns x is_open target expr assigns_are =
    let P : List Assign → Type 0 = λ l. AllIn (length m.nets) (length m.mems) l in
    record {
      range = subst P (sym assigns_are) (all_in (length m.nets) (length m.nets) (length m.mems) m.assigns x (omega arith) is_open.range target expr);
      ports = is_open.ports;
    }

-- a wire more
pub open_wire : (m : Module) (nets : List Net) (assigns : List Assign) (name : List ℕ) (w n : ℕ)
    (e : Expr) → IsOpen m → MayBeWire m w e → n ≡ length m.nets → nets ≡ m.nets ++ wire name w
    ∷ [] → assigns ≡ m.assigns ++ gets n e ∷ [] → IsOpen (larger m nets assigns)
open_wire m nets assigns name w n e is_open may at nets_are assigns_are =
    let len : length nets ≡ length m.nets + 1 = ap length nets_are ∙ length-append m.nets (wire name w ∷ []) in
    open_assign (larger m nets m.assigns) assigns (gets n e) (open_net m nets (wire name w) is_open nets_are) (omega arith)
    (in_more (length m.nets) (length nets) 0 (length m.mems) e (omega arith) (omega arith) may.within) assigns_are

-- one wire more
pub one_wire : (m : Module) (nets : List Net) (assigns : List Assign) (name : List ℕ) (w n : ℕ)
    (e : Expr) → IsOpen m → MayBeWire m w e → n ≡ length m.nets → name ≡ wire_name n
    → nets ≡ m.nets ++ wire name w ∷ [] → assigns ≡ m.assigns ++ gets n e ∷ []
    → Makes m (larger m nets assigns) 1 w (λ v. value m no_contents v w e) (signal n w)
one_wire m nets assigns name w n e is_open may at named nets_are assigns_are =
    let read = may.within in
    let new : Module = larger m nets assigns in
    let len : length nets ≡ length m.nets + 1 = ap length nets_are ∙ length-append m.nets (wire name w ∷ []) in
    let grows : Grows m new = record {
      more_nets = wire name w ∷ [];
      nets = nets_are;
      more_mems = [];
      mems = sym (append-nil m.mems);
      more_assigns = gets n e ∷ [];
      assigns = assigns_are;
      more_updates = [];
      updates = sym (append-nil m.updates);
      ports = refl;
      instances = refl;
    } in
    let width : width_of new n ≡ w = ap (λ (l : List Net). net_width
    (slice_get l n)) nets_are ∙ ap (λ k. net_width (slice_get (m.nets ++ wire name w
    ∷ []) k)) at ∙ ap net_width (get_last m.nets (wire name w)) in
    record {
      adds = record {
        grows = grows;
        name = refl;
        mems = refl;
        updates = refl;
        wires = (
          record {
            name = named ∙ ap wire_name at;
            some = may.some;
            at_most = may.at_most;
            wire = refl;
            target = at;
            earlier = read;
            inner = may.inner;
            numbers = may.numbers;
            typed = typed_kept m new grows e w (length m.nets) (omega arith) read may.typed;
          },
          tt,
        );
        count = omega arith;
      };
      signal = record { net = omega arith; inner = ap (is_output m.ports) at ∙ no_output (length m.nets) m.ports is_open.ports; width = width; some = may.some; at_most = may.at_most };
      width = refl;
      value = λ c v h.
          let Q : List Assign → Type 0 = λ l. Assigned new c v l in
          last_assigned new c v m.assigns (gets n e) (subst Q assigns_are h.assigned)
          ∙ ap (λ k. value new c v k e) width
          ∙ value_kept m new grows c v w e (in_more (length m.nets) (length m.nets) 0 (length m.mems) e (omega arith) (omega arith) read)
          ∙ no_memory m c v w (length m.nets) e read;
      keeps = λ t h. signal_kept m new grows t h;
      before = λ c v h. holds_before m new grows is_open.range c v h;
    }

pub adds_more : {l n : Module} {k : ℕ} (i : ℕ) → AddsWires l n k → k ≤ i → AddsWires l n i
adds_more i p h = record { grows = p.grows; name = p.name; mems = p.mems; updates = p.updates; wires = p.wires; count = omega (arith, p.count) }

-- What a signal's value is may be said in another way.
pub same_value : {l n : Module} {k w : ℕ} {f : Family → ℕ} {s : Signal} (i u : ℕ) (g : Family → ℕ)
    → Makes l n k w f s → k ≤ i → w ≡ u → ((c : Contents) (v : Family) → Holds n c v → f v ≡ g v) → Makes l n i u g s
same_value i u g p h e same = record {
  adds = adds_more i p.adds h;
  signal = p.signal;
  width = p.width ∙ e;
  value = λ c v q. p.value c v q ∙ same c v q;
  keeps = p.keeps;
  before = p.before;
}

-- Wires, and then more wires whose value may be said by that of the first.
pub goes_on : {l m n : Module} {j k x w : ℕ} {f g : Family → ℕ} {s t : Signal} (i u : ℕ) (h : Family → ℕ)
    → Makes l m j x f s → Makes m n k w g t → j + k ≤ i → w ≡ u
    → ((c : Contents) (v : Family) → Holds n c v → v s.net ≡ f v → g v ≡ h v) → Makes l n i u h t
goes_on {l} {m} {n} {j} {k} i u h p q le e same = record {
  adds = adds_on l m n j k i p.adds q.adds le;
  signal = q.signal;
  width = q.width ∙ e;
  value = λ c v r. q.value c v r ∙ same c v r (p.value c v (q.before c v r));
  keeps = λ s r. q.keeps s (p.keeps s r);
  before = λ c v r. p.before c v (q.before c v r);
}

-- no wire: the signal stands already
pub as_it_stands : {m : Module} (s : Signal) (i : ℕ) (f : Family → ℕ) → HasSignal m s → ((c : Contents) (v : Family) → Holds m c v → v s.net ≡ f v) → Makes m m i s.width f s
as_it_stands {m} s i f has value = record {
  adds = adds_none m i;
  signal = has;
  width = refl;
  value = value;
  keeps = λ t h. h;
  before = λ c v h. h;
}

-- a signal's value is a word of its width
pub word_fits : {m : Module} {c : Contents} {v : Family} (s : Signal) → HasSignal m s → Holds m c v → v s.net < 2 ^ s.width
word_fits {v = v} s has h = subst (λ w. v s.net < 2 ^ w) has.width (h.words s.net has.net)

-- a value that may be undefined
pub made_where : {l n : Module} {k w : ℕ} {f : Family → ℕ} {s : Signal} (i u : ℕ) (g : Family → Option ℕ)
    → Makes l n k w f s → k ≤ i → w ≡ u → ((c : Contents) (v : Family) → Holds n c v → IfSome (g v) (λ x. f v ≡ x)) → MakesWhere l n i u g s
made_where {f = f} {s = s} i u g p h e same = record {
  adds = adds_more i p.adds h;
  signal = p.signal;
  width = p.width ∙ e;
  value = λ c v q. subst (λ x. IfSome (g v) (λ y. x ≡ y)) (sym (p.value c v q)) (same c v q);
  keeps = p.keeps;
  before = p.before;
}

pub goes_on_where : {l m n : Module} {j k x w : ℕ} {f g : Family → ℕ} {s t : Signal} (i u : ℕ) (h : Family → Option ℕ)
    → Makes l m j x f s → Makes m n k w g t → j + k ≤ i → w ≡ u
    → ((c : Contents) (v : Family) → Holds n c v → v s.net ≡ f v → IfSome (h v) (λ y. g v ≡ y)) → MakesWhere l n i u h t
goes_on_where {j = j} {k = k} i u h p q le e same = made_where i u h (goes_on i u _ p q le e (λ c v r d. refl)) (omega arith) refl (λ c v r. same c v r (p.value c v (q.before c v r)))

pub some_is : {o : Option ℕ} {x y : ℕ} → o ≡ Some x → y ≡ x → IfSome o (λ z. y ≡ z)
some_is {y = y} e f = subst (λ o. IfSome o (λ z. y ≡ z)) (sym e) f

pub same_where : {l n : Module} {k w : ℕ} {f : Family → Option ℕ} {s : Signal} (i u : ℕ) (g : Family → Option ℕ)
    → MakesWhere l n k w f s → k ≤ i → w ≡ u → ((v : Family) → f v ≡ g v) → MakesWhere l n i u g s
same_where {s = s} i u g p h e same = record {
  adds = adds_more i p.adds h;
  signal = p.signal;
  width = p.width ∙ e;
  value = λ c v q. subst (λ o. IfSome o (λ y. v s.net ≡ y)) (same v) (p.value c v q);
  keeps = p.keeps;
  before = p.before;
}
