-- What each call of a builder adds keeps the rules of designs.
use Rattle.std.proofs.Common.{◌≡◌, ℕ, zero, suc, ◌+◌, ◌<◌, ◌≤◌, Bool, true, false, ◌&&◌, ◌||◌, eqb, inl, inr, List, [], ◌∷◌, ◌++◌, length, Some, refl, sym, ap, ◌∙◌, subst, arith, length-append}
use Rattle.std.proofs.lemmas.Bool.{false≢true, eqb-true}
use Rattle.std.specs.Prelude.{slice_get, codes, not, ◌⊎◌}
use Rattle.rtl_ir.specs.declared.design.Net.{Net}
use Rattle.rtl_ir.specs.declared.design.Mem.{Mem}
use Rattle.rtl_ir.specs.declared.design.Port.{Port}
use Rattle.rtl_ir.specs.declared.design.Module.{Module}
use Rattle.rtl_ir.specs.declared.design.Assign.{Assign}
use Rattle.rtl_ir.specs.declared.design.Update.{Update}
use Rattle.rtl_ir.specs.declared.design.Expr.TheVariants.{Net as Plain, Cell}
use Rattle.rtl_ir.specs.declared.design.Target.{Target}
use Rattle.rtl_ir.specs.declared.design.Target.TheVariants as targets
use Rattle.rtl_ir.specs.Operands.{bit_numbers}
use Rattle.rtl_ir.specs.Value.{net_width, net_kept, is_reg, width_of}
use Rattle.rtl_ir.specs.Typed.{word_width, IsTyped, is_input, is_given, target_width}
use Rattle.rtl_ir.specs.Formed.{net_name, name_of}
use Rattle.rtl_ir.specs.Grow.{AllIn, Grows}
use Rattle.rtl_build.specs.declared.signal.Signal.{Signal}
use Rattle.rtl_build.specs.Wires.{is_output, wire_name, AllSmall, IsWire, AreWires, AddsWires}
use Rattle.rtl_build.specs.Signals.{HasSignal}
use Rattle.rtl_build.specs.Ports.{HasOutput, with_assign}
use Rattle.rtl_build.specs.Storage.{with_register, with_memory, with_update, with_cell}
use Rattle.rtl_delays.specs.Steps.{IsKept, IsSound}
use Rattle.rtl_delays.proofs.MayUpdate.{MayUpdate}
use Rattle.rtl_delays.specs.Names.{register_name, memory_name, HasNoPosition, MayName}
use Rattle.rtl_delays.specs.Names.MayName.{Numbered, Position}
use Rattle.rtl_delays.specs.Ordered.{IsOrdered}
use Rattle.rtl_delays.specs.Driven.{is_driven}
use Rattle.rtl_delays.specs.Partial.{IsOwnName, IsPartialMem, IsPartialAssign, IsPartialUpdate, IsPartial}
use Rattle.rtl_delays.specs.Partial.IsOwnName.{OfWire, OfRegister, OfPosition}
use Rattle.rtl_delays.proofs.Lists.{get_last, or_both}
use Rattle.rtl_delays.proofs.Grown.{parted, one_item, driven_at, within_name, IsNewNet, More}

-- ---- names

abbrev pub first_byte : List ℕ → ℕ
first_byte [] = 0
first_byte (b ∷ bs) = b

pub wire_other : (k : ℕ) (name : List ℕ) → name ≡ wire_name k → name ≡ codes "position" → ⊥
wire_other k name e f = let g : 119 ≡ 112 = ap first_byte (sym e ∙ f) in absurd (omega (arith, g))

pub register_other : (k : ℕ) (name : List ℕ) → name ≡ register_name k → name ≡ codes "position" → ⊥
register_other k name e f = let g : 114 ≡ 112 = ap first_byte (sym e ∙ f) in absurd (omega (arith, g))

pub item_at : {A : Type 0} (l : List A) (k : ℕ) → k < length l → (x : A) × (slice_get l k ≡ Some x)
item_at [] k h = absurd (omega (arith, h))
item_at (x ∷ l) zero h = (x, refl)
item_at (x ∷ l) (suc k) h = item_at l k (omega (arith, h))

-- no net that was added is named `position`, if none of these is
others_named : (m n : Module) (g : Grows m n) → ((i : ℕ) (x : Net)
    → slice_get g.more_nets i ≡ Some x → x.name ≡ codes "position" → ⊥) → (k : ℕ)
    → length m.nets ≤ k → name_of n k ≡ codes "position" → ⊥
others_named m n g none k le e =
    let it = item_at n.nets k (within_name n k e) in
    let named : it.0.name ≡ codes "position" = sym (ap net_name it.1) ∙ e in
    elim (parted m.nets g.more_nets k it.0 (sym (ap (λ l. slice_get l k) g.nets) ∙ it.1))
    [ inl h ↦ (let lt = h.1 in absurd (omega (arith, lt, le))) | inr h ↦ none h.0 it.0 h.2 named ]

-- ---- ports

past_input : (ps : List Port) (t : ℕ) → ((k : ℕ) (p : Port) → slice_get ps k ≡ Some p → p.net < t) → is_input ps t ≡ false
past_input [] t h = refl
past_input (p ∷ ps) t h =
    let lt = h 0 p refl in
    let other : eqb p.net t ≡ false = grind (arith, lt) in
    ap (λ b. (b && not p.output) || is_input ps t) other ∙ past_input ps t (λ k q e. h (suc k) q e)

pub within : {A : Type 0} (l : List A) (k : ℕ) (x : A) → slice_get l k ≡ Some x → k < length l
within [] k x e = cc
within (y ∷ l) zero x e = omega arith
within (y ∷ l) (suc k) x e = let q = within l k x e in omega (arith, q)

-- a net past the ports is no input
no_input : (m : Module) → IsPartial m → (t : ℕ) → length m.nets ≤ t → is_input m.ports t ≡ false
no_input m p t le = past_input m.ports t (λ k x e. let at = p.ports k x e in let lt = within m.ports k x e in let f = p.front in omega (arith, at, lt, f, le))

pub output_port : (ps : List Port) (t : ℕ) → is_output ps t ≡ true → (k : ℕ) × ((p : Port) × ((slice_get ps k ≡ Some p) × ((p.net ≡ t) × (p.output ≡ true))))
output_port [] t h = absurd (false≢true h)
output_port (p ∷ ps) t h = by_test (eqb p.net t) p.output refl refl h (λ q. output_port ps t q)
  where
    by_test : (a b : Bool) → eqb p.net t ≡ a → p.output ≡ b → (a && b) || is_output ps t ≡ true
        → (is_output ps t ≡ true → (k : ℕ) × ((x : Port) × ((slice_get ps k ≡ Some x) × ((x.net ≡ t) × (x.output ≡ true)))))
        → (k : ℕ) × ((x : Port) × ((slice_get (p ∷ ps) k ≡ Some x) × ((x.net ≡ t) × (x.output ≡ true))))
    by_test true true e f q rest = (0, (p, (refl, (eqb-true p.net t e, f))))
    by_test true false e f q rest = let r = rest q in (suc r.0, r.1)
    by_test false b e f q rest = let r = rest q in (suc r.0, r.1)

pub input_port : (ps : List Port) (t : ℕ) → is_input ps t ≡ true → (k : ℕ) × ((p : Port) × ((slice_get ps k ≡ Some p) × ((p.net ≡ t) × (p.output ≡ false))))
input_port [] t h = absurd (false≢true h)
input_port (p ∷ ps) t h = by_test (eqb p.net t) p.output refl refl h (λ q. input_port ps t q)
  where
    by_test : (a b : Bool) → eqb p.net t ≡ a → p.output ≡ b → (a && not b) || is_input ps t ≡ true
        → (is_input ps t ≡ true → (k : ℕ) × ((x : Port) × ((slice_get ps k ≡ Some x) × ((x.net ≡ t) × (x.output ≡ false)))))
        → (k : ℕ) × ((x : Port) × ((slice_get (p ∷ ps) k ≡ Some x) × ((x.net ≡ t) × (x.output ≡ false))))
    by_test true false e f q rest = (0, (p, (refl, (eqb-true p.net t e, f))))
    by_test true true e f q rest = let r = rest q in (suc r.0, r.1)
    by_test false b e f q rest = let r = rest q in (suc r.0, r.1)

-- an output is no input
output_free : (m : Module) → IsPartial m → (t : ℕ) → is_output m.ports t ≡ true → is_given m t ≡ false
output_free m p t h =
    let o = output_port m.ports t h in
    let at : o.0 ≡ t = sym (p.ports o.0 o.1.0 o.1.1.0) ∙ o.1.1.1.0 in
    let lt = within m.ports o.0 o.1.0 o.1.1.0 in
    or_both (is_reg m t) (is_input m.ports t) (p.port_wires t (omega (arith, at, lt))) (by_test (is_input m.ports t) refl o at)
  where
    by_test : (b : Bool) → is_input m.ports t ≡ b → (o : (k : ℕ) × ((x : Port) × ((slice_get m.ports k ≡ Some x) × ((x.net ≡ t) × (x.output ≡ true))))) → o.0 ≡ t → is_input m.ports t ≡ false
    by_test false e o at = e
    by_test true e o at =
        let i = input_port m.ports t e in
        let same : i.0 ≡ o.0 = sym (p.ports i.0 i.1.0 i.1.1.0) ∙ i.1.1.1.0 ∙ sym at in
        let two : Some i.1.0 ≡ Some o.1.0 = sym i.1.1.0 ∙ ap (slice_get m.ports) same ∙ o.1.1.0 in
        let one : i.1.0 ≡ o.1.0 = cc in
        absurd (false≢true (sym i.1.1.1.1 ∙ ap (λ (x : Port). x.output) one ∙ o.1.1.1.1))

-- ---- assignments

pub past_undriven : (nets mems : ℕ) (l : List Assign) (t : ℕ) → AllIn nets mems l → nets ≤ t → is_driven t l ≡ false
past_undriven nets mems [] t h le = refl
past_undriven nets mems (a ∷ l) t h le =
    let lt = h.0 in
    let other : eqb a.target t ≡ false = grind (arith, lt, le) in
    or_both (eqb a.target t) (is_driven t l) other (past_undriven nets mems l t h.2 le)

small_at : (xs : List ℕ) → AllSmall xs → (i x : ℕ) → slice_get xs i ≡ Some x → x ≤ 128
small_at [] h i x e = cc
small_at (y ∷ xs) h zero x e = let f : y ≡ x = cc in subst (λ z. z ≤ 128) f h.0
small_at (y ∷ xs) h (suc i) x e = small_at xs h.1 i x e

-- ---- wires

pub wire_of_net : (m : Module) (k : ℕ) (nets : List Net) (assigns : List Assign)
    → AreWires m k nets assigns → (i : ℕ) (x : Net) → slice_get nets i ≡ Some x → (a : Assign)
    × ((slice_get assigns i ≡ Some a) × IsWire m (k + i) x a)
wire_of_net m k [] assigns w i x e = cc
wire_of_net m k (y ∷ nets) [] w i x e = absurd w
wire_of_net m k (y ∷ nets) (b ∷ assigns) w zero x e =
    let f : y ≡ x = cc in
    let n : k ≡ k + 0 = omega arith in
    (b, (refl, subst (λ j. IsWire m j x b) n (subst (λ z. IsWire m k z b) f w.0)))
wire_of_net m k (y ∷ nets) (b ∷ assigns) w (suc i) x e =
    let r = wire_of_net m (k + 1) nets assigns w.1 i x e in
    let n : k + 1 + i ≡ k + suc i = omega arith in
    (r.0, (r.1.0, subst (λ j. IsWire m j x r.0) n r.1.1))

wire_of_assign : (m : Module) (k : ℕ) (nets : List Net) (assigns : List Assign)
    → AreWires m k nets assigns → (i : ℕ) (a : Assign) → slice_get assigns i ≡ Some a
    → (x : Net) × ((slice_get nets i ≡ Some x) × IsWire m (k + i) x a)
wire_of_assign m k nets [] w i a e = cc
wire_of_assign m k [] (b ∷ assigns) w i a e = absurd w
wire_of_assign m k (y ∷ nets) (b ∷ assigns) w zero a e =
    let f : b ≡ a = cc in
    let n : k ≡ k + 0 = omega arith in
    (y, (refl, subst (λ j. IsWire m j y a) n (subst (λ z. IsWire m k y z) f w.0)))
wire_of_assign m k (y ∷ nets) (b ∷ assigns) w (suc i) a e =
    let r = wire_of_assign m (k + 1) nets assigns w.1 i a e in
    let n : k + 1 + i ≡ k + suc i = omega arith in
    (r.0, (r.1.0, subst (λ j. IsWire m j r.0 a) n r.1.1))

get_right : {A : Type 0} (xs ys : List A) (i : ℕ) → slice_get (xs ++ ys) (length xs + i) ≡ slice_get ys i
get_right [] ys i = let e : 0 + i ≡ i = omega arith in ap (slice_get ys) e
get_right (x ∷ xs) ys i = let e : suc (length xs) + i ≡ suc (length xs + i) = omega arith in ap (slice_get (x ∷ xs ++ ys)) e ∙ get_right xs ys i

pub wires_more : (m n : Module) (most : ℕ) → IsPartial m → (adds : AddsWires m n most) → IsSound n → (IsOrdered m → IsOrdered n) → More m n adds.grows
wires_more m n most p adds sound ordered = record {
  sound = sound;
  ordered = ordered;
  nets = λ i x e.
      let w = wire_of_net n (length m.nets) g.more_nets g.more_assigns adds.wires i x e in
      record {
        some = w.1.1.some;
        at_most = w.1.1.at_most;
        name = OfWire w.1.1.name;
        wired = λ r. subst (λ t. is_driven t n.assigns ≡ true) w.1.1.target
            (driven_at n.assigns (length m.assigns + i) w.0
            (ap (λ l. slice_get l
            (length m.assigns + i)) g.assigns ∙ get_right m.assigns g.more_assigns i ∙ w.1.0));
      };
  position = inl (others_named m n g (λ i x e f. let w = wire_of_net n (length m.nets) g.more_nets g.more_assigns adds.wires i x e in wire_other (length m.nets + i) x.name w.1.1.name f));
  mems = λ i x e. absurd (no_mems i x e);
  assigns = λ i a e.
      let w = wire_of_assign n (length m.nets) g.more_nets g.more_assigns adds.wires i a e in
      let at : slice_get n.nets (length m.nets + i) ≡ Some w.0 = ap (λ l. slice_get l (length m.nets + i)) g.nets ∙ get_right m.nets g.more_nets i ∙ w.1.0 in
      let t = w.1.1.target in
      record {
        free = or_both (is_reg n a.target) (is_input n.ports a.target)
            (ap (is_reg n) t ∙ ap net_kept at ∙ w.1.1.wire)
            (ap (λ ps. is_input ps a.target) g.ports ∙ no_input m p a.target (omega (arith, t)));
        typed = subst (λ v. IsTyped n v a.expr) (sym (ap (width_of n) t ∙ ap net_width at)) w.1.1.typed;
        numbers = small_at (bit_numbers a.expr) w.1.1.numbers;
      };
  fresh = λ i a e.
      let w = wire_of_assign n (length m.nets) g.more_nets g.more_assigns adds.wires i a e in
      let t = w.1.1.target in
      past_undriven (length m.nets) (length m.mems) m.assigns a.target p.sound.range (omega (arith, t));
  single = λ i j a b e f same.
      let v = (wire_of_assign n (length m.nets) g.more_nets g.more_assigns adds.wires i a e).1.1.target in
      let w = (wire_of_assign n (length m.nets) g.more_nets g.more_assigns adds.wires j b f).1.1.target in
      omega (arith, v, w, same);
  updates = λ i u e. absurd (no_updates i u e);
}
  where
    g : Grows m n
    g = adds.grows

    none : {A : Type 0} (xs ys : List A) → xs ≡ xs ++ ys → (i : ℕ) (x : A) → slice_get ys i ≡ Some x → ⊥
    none xs ys e i x h = let l = within ys i x h in let s = ap length e ∙ length-append xs ys in absurd (omega (arith, l, s))

    no_mems : (i : ℕ) (x : Mem) → slice_get g.more_mems i ≡ Some x → ⊥
    no_mems i x e = none m.mems g.more_mems (sym adds.mems ∙ g.mems) i x e

    no_updates : (i : ℕ) (u : Update) → slice_get g.more_updates i ≡ Some u → ⊥
    no_updates i u e = none m.updates g.more_updates (sym adds.updates ∙ g.updates) i u e

-- ---- what isn't a wire

-- a module with these lists more
abbrev pub more_of : (m n : Module) (a : List Net) (b : List Mem) (x : List Assign) (u : List Update)
    → n.nets ≡ m.nets ++ a → n.mems ≡ m.mems ++ b → n.assigns ≡ m.assigns ++ x → n.updates ≡ m.updates ++ u → n.ports ≡ m.ports → n.instances ≡ m.instances → Grows m n
more_of m n a b x u e f g h p i = record {
  more_nets = a;
  nets = e;
  more_mems = b;
  mems = f;
  more_assigns = x;
  assigns = g;
  more_updates = u;
  updates = h;
  ports = p;
  instances = i;
}

-- the one item of a list, and none of an empty one
only_one : {A : Type 0} (P : ℕ → A → Type 0) (x : A) → P 0 x → (i : ℕ) (a : A) → slice_get (x ∷ []) i ≡ Some a → P i a
only_one P x h zero a e = let f : x ≡ a = cc in subst (P 0) f h
only_one P x h (suc i) a e = cc

no_item : {A : Type 0} (P : ℕ → A → Type 0) (i : ℕ) (a : A) → slice_get [] i ≡ Some a → P i a
no_item P i a e = cc

single_one : (x : Assign) (i j : ℕ) (a b : Assign) → slice_get (x ∷ []) i ≡ Some a → slice_get (x ∷ []) j ≡ Some b → a.target ≡ b.target → i ≡ j
single_one x i j a b e f same = (one_item x i a e).0 ∙ sym (one_item x j b f).0

at_zero : (n : ℕ) → n ≡ n + 0
at_zero n = omega arith

pub register_more : (m : Module) (name : List ℕ) (w : ℕ) → IsPartial m → 1 ≤ w → w ≤ 128 → MayName m name → (g : Grows m (with_register m name w))
    → g.more_nets ≡ (record { name = name; width = w; reg = true }) ∷ [] → g.more_mems ≡ [] → g.more_assigns ≡ [] → g.more_updates ≡ []
    → IsSound (with_register m name w) → (IsOrdered m → IsOrdered (with_register m name w)) → More m (with_register m name w) g
register_more m name w p some most may g en em ea eu sound ordered = record {
  sound = sound;
  ordered = ordered;
  nets = λ i x e. only_one (λ i x. IsNewNet n (length m.nets + i) x) y new i x (sym (ap (λ l. slice_get l i) en) ∙ e);
  position = place may;
  mems = λ i x e. no_item (λ i x. IsPartialMem (length m.mems + i) x) i x (sym (ap (λ l. slice_get l i) em) ∙ e);
  assigns = λ i x e. no_item (λ i x. IsPartialAssign n x) i x (sym (ap (λ l. slice_get l i) ea) ∙ e);
  fresh = λ i x e. no_item (λ i x. is_driven x.target m.assigns ≡ false) i x (sym (ap (λ l. slice_get l i) ea) ∙ e);
  single = λ i j a b e f same. no_item (λ i x. i ≡ j) i a (sym (ap (λ l. slice_get l i) ea) ∙ e);
  updates = λ i x e. no_item (λ i x. IsPartialUpdate n x) i x (sym (ap (λ l. slice_get l i) eu) ∙ e);
}
  where
    n : Module
    n = with_register m name w

    y : Net
    y = record { name = name; width = w; reg = true }

    own : MayName m name → IsOwnName (length m.nets + 0) name
    own (Numbered e) = OfRegister (e ∙ ap register_name (at_zero (length m.nets)))
    own (Position e h) = OfPosition e

    new : IsNewNet n (length m.nets + 0) y
    new = record { some = some; at_most = most; name = own may; wired = λ r. absurd (false≢true (sym r)) }

    place : MayName m name → ((k : ℕ) → length m.nets ≤ k → name_of n k ≡ codes "position" → ⊥) ⊎ (HasNoPosition m × (length n.nets ≡ length m.nets + 1))
    place (Numbered e) = inl (others_named m n g (λ i x h f. let o = one_item y i x (sym (ap (λ l. slice_get l i) en) ∙ h) in register_other (length m.nets) name e (ap (λ (z : Net). z.name) o.1 ∙ f)))
    place (Position e h) = inr (h, length-append m.nets (y ∷ []))

pub memory_more : (m : Module) (name : List ℕ) (w depth : ℕ) → name ≡ memory_name (length m.mems) → 1 ≤ w → w ≤ 128 → 1 ≤ depth → depth ≤ 268435456 → (g : Grows m (with_memory m name w depth))
    → g.more_nets ≡ [] → g.more_mems ≡ (record { name = name; width = w; depth = depth }) ∷ [] → g.more_assigns ≡ [] → g.more_updates ≡ []
    → IsSound (with_memory m name w depth) → (IsOrdered m → IsOrdered (with_memory m name w depth)) → More m (with_memory m name w depth) g
memory_more m name w depth named some most deep few g en em ea eu sound ordered = record {
  sound = sound;
  ordered = ordered;
  nets = λ i x e. no_item (λ i x. IsNewNet n (length m.nets + i) x) i x (sym (ap (λ l. slice_get l i) en) ∙ e);
  position = inl (others_named m n g (λ i x e. no_item (λ i (x : Net). x.name ≡ codes "position" → ⊥) i x (sym (ap (λ l. slice_get l i) en) ∙ e)));
  mems = λ i x e. only_one (λ i x. IsPartialMem (length m.mems + i) x) y (record {
    name = named ∙ ap memory_name (at_zero (length m.mems));
    some = some;
    at_most = most;
    words = deep;
    words_at_most = few;
  }) i x (sym (ap (λ l. slice_get l i) em) ∙ e);
  assigns = λ i x e. no_item (λ i x. IsPartialAssign n x) i x (sym (ap (λ l. slice_get l i) ea) ∙ e);
  fresh = λ i x e. no_item (λ i x. is_driven x.target m.assigns ≡ false) i x (sym (ap (λ l. slice_get l i) ea) ∙ e);
  single = λ i j a b e f same. no_item (λ i x. i ≡ j) i a (sym (ap (λ l. slice_get l i) ea) ∙ e);
  updates = λ i x e. no_item (λ i x. IsPartialUpdate n x) i x (sym (ap (λ l. slice_get l i) eu) ∙ e);
}
  where
    n : Module
    n = with_memory m name w depth

    y : Mem
    y = record { name = name; width = w; depth = depth }

pub cell_more : (m : Module) (k : ℕ) (address : ℕ) → IsPartial m → 1 ≤ word_width m k → word_width m k ≤ 128 → (g : Grows m (with_cell m k address))
    → g.more_nets ≡ (record {
      name = wire_name (length m.nets);
      width = word_width m k;
      reg = false;
    }) ∷ [] → g.more_mems ≡ [] → g.more_assigns ≡ (record { target = length m.nets; expr = Cell k address }) ∷ [] → g.more_updates ≡ []
    → IsSound (with_cell m k address) → (IsOrdered m → IsOrdered (with_cell m k address)) → More m (with_cell m k address) g
cell_more m k address p some most g en em ea eu sound ordered = record {
  sound = sound;
  ordered = ordered;
  nets = λ i x e. only_one (λ i x. IsNewNet n (length m.nets + i) x) y new i x (sym (ap (λ l. slice_get l i) en) ∙ e);
  position = inl (others_named m n g (λ i x h f. let o = one_item y i x
      (sym (ap (λ l. slice_get l i) en) ∙ h) in wire_other (length m.nets)
      (wire_name (length m.nets)) refl (ap (λ (z : Net). z.name) o.1 ∙ f)));
  mems = λ i x e. no_item (λ i x. IsPartialMem (length m.mems + i) x) i x (sym (ap (λ l. slice_get l i) em) ∙ e);
  assigns = λ i x e. only_one (λ i x. IsPartialAssign n x) a assigned i x (sym (ap (λ l. slice_get l i) ea) ∙ e);
  fresh = λ i x e. only_one (λ i (x : Assign). is_driven x.target m.assigns ≡ false) a
      (past_undriven (length m.nets) (length m.mems) m.assigns (length m.nets) p.sound.range
      (omega arith)) i x (sym (ap (λ l. slice_get l i) ea) ∙ e);
  single = λ i j b c e f same. single_one a i j b c (sym (ap (λ l. slice_get l i) ea) ∙ e) (sym (ap (λ l. slice_get l j) ea) ∙ f) same;
  updates = λ i x e. no_item (λ i x. IsPartialUpdate n x) i x (sym (ap (λ l. slice_get l i) eu) ∙ e);
}
  where
    n : Module
    n = with_cell m k address

    y : Net
    y = record { name = wire_name (length m.nets); width = word_width m k; reg = false }

    a : Assign
    a = record { target = length m.nets; expr = Cell k address }

    at : slice_get n.nets (length m.nets) ≡ Some y
    at = get_last m.nets y

    new : IsNewNet n (length m.nets + 0) y
    new = record {
      some = some;
      at_most = most;
      name = OfWire (ap wire_name (at_zero (length m.nets)));
      wired = λ r. subst (λ t. is_driven t n.assigns ≡ true) (at_zero (length m.nets)) (driven_at n.assigns (length m.assigns) a (get_last m.assigns a));
    }

    assigned : IsPartialAssign n a
    assigned = record {
      free = or_both (is_reg n (length m.nets)) (is_input n.ports (length m.nets)) (ap net_kept at) (no_input m p (length m.nets) (omega arith));
      typed = sym (ap net_width at);
      numbers = λ i x e. no_item (λ i x. x ≤ 128) i x e;
    }

pub drive_more : (m : Module) (output source : Signal) → IsPartial m → HasOutput m output → HasSignal m source → source.width ≡ output.width → is_driven output.net m.assigns ≡ false
    → (g : Grows m (with_assign m (record { target = output.net; expr = Plain source.net })))
    → g.more_nets ≡ [] → g.more_mems ≡ [] → g.more_assigns ≡ (record { target = output.net; expr = Plain source.net }) ∷ [] → g.more_updates ≡ []
    → IsSound (with_assign m (record { target = output.net; expr = Plain source.net })) → (IsOrdered m → IsOrdered (with_assign m (record { target = output.net; expr = Plain source.net })))
    → More m (with_assign m (record { target = output.net; expr = Plain source.net })) g
drive_more m output source p out has same undriven g en em ea eu sound ordered = record {
  sound = sound;
  ordered = ordered;
  nets = λ i x e. no_item (λ i x. IsNewNet n (length m.nets + i) x) i x (sym (ap (λ l. slice_get l i) en) ∙ e);
  position = inl (others_named m n g (λ i x e. no_item (λ i (x : Net). x.name ≡ codes "position" → ⊥) i x (sym (ap (λ l. slice_get l i) en) ∙ e)));
  mems = λ i x e. no_item (λ i x. IsPartialMem (length m.mems + i) x) i x (sym (ap (λ l. slice_get l i) em) ∙ e);
  assigns = λ i x e. only_one (λ i x. IsPartialAssign n x) a assigned i x (sym (ap (λ l. slice_get l i) ea) ∙ e);
  fresh = λ i x e. only_one (λ i (x : Assign). is_driven x.target m.assigns ≡ false) a undriven i x (sym (ap (λ l. slice_get l i) ea) ∙ e);
  single = λ i j b c e f same. single_one a i j b c (sym (ap (λ l. slice_get l i) ea) ∙ e) (sym (ap (λ l. slice_get l j) ea) ∙ f) same;
  updates = λ i x e. no_item (λ i x. IsPartialUpdate n x) i x (sym (ap (λ l. slice_get l i) eu) ∙ e);
}
  where
    a : Assign
    a = record { target = output.net; expr = Plain source.net }

    n : Module
    n = with_assign m a

    assigned : IsPartialAssign n a
    assigned = record {
      free = output_free m p output.net out.output;
      typed = has.width ∙ same ∙ sym out.width;
      numbers = λ i x e. no_item (λ i x. x ≤ 128) i x e;
    }

pub update_more : (m : Module) (u : Update) → MayUpdate m u → (g : Grows m (with_update m u))
    → g.more_nets ≡ [] → g.more_mems ≡ [] → g.more_assigns ≡ [] → g.more_updates ≡ u ∷ []
    → IsSound (with_update m u) → (IsOrdered m → IsOrdered (with_update m u)) → More m (with_update m u) g
update_more m u may g en em ea eu sound ordered = record {
  sound = sound;
  ordered = ordered;
  nets = λ i x e. no_item (λ i x. IsNewNet n (length m.nets + i) x) i x (sym (ap (λ l. slice_get l i) en) ∙ e);
  position = inl (others_named m n g (λ i x e. no_item (λ i (x : Net). x.name ≡ codes "position" → ⊥) i x (sym (ap (λ l. slice_get l i) en) ∙ e)));
  mems = λ i x e. no_item (λ i x. IsPartialMem (length m.mems + i) x) i x (sym (ap (λ l. slice_get l i) em) ∙ e);
  assigns = λ i x e. no_item (λ i x. IsPartialAssign n x) i x (sym (ap (λ l. slice_get l i) ea) ∙ e);
  fresh = λ i x e. no_item (λ i x. is_driven x.target m.assigns ≡ false) i x (sym (ap (λ l. slice_get l i) ea) ∙ e);
  single = λ i j a b e f same. no_item (λ i x. i ≡ j) i a (sym (ap (λ l. slice_get l i) ea) ∙ e);
  updates = λ i x e. only_one (λ i x. IsPartialUpdate n x) u written i x (sym (ap (λ l. slice_get l i) eu) ∙ e);
}
  where
    n : Module
    n = with_update m u

    same_kept : (t : Target) → IsKept m t → IsKept n t
    same_kept (targets.Reg k) h = h
    same_kept (targets.Cell k b) h = h

    same_width : (t : Target) → target_width n t ≡ target_width m t
    same_width (targets.Reg k) = refl
    same_width (targets.Cell k b) = refl

    written : IsPartialUpdate n u
    written = record {
      enable = may.enable;
      value = may.value;
      kept = same_kept u.target may.kept;
      typed = record { enable = may.typed.enable; value = may.typed.value ∙ sym (same_width u.target) };
    }
