-- Modules that grow by each call of a builder, and one call after another.
use Rattle.std.proofs.Common.{◌≡◌, ℕ, zero, suc, ◌+◌, ◌<◌, ◌≤◌, true, false, eqb, List, [], ◌∷◌, ◌++◌, length, Option, Some, None, refl, sym, ap, ◌∙◌, subst, arith, length-append, append-nil}
use Rattle.std.proofs.lemmas.Bool.{false≢true}
use Rattle.std.specs.Prelude.{slice_get, bit_or}
use Rattle.rtl_ir.specs.declared.design.Net.{Net}
use Rattle.rtl_ir.specs.declared.design.Mem.{Mem}
use Rattle.rtl_ir.specs.declared.design.Module.{Module}
use Rattle.rtl_ir.specs.declared.design.Assign.{Assign}
use Rattle.rtl_ir.specs.declared.design.Update.{Update}
use Rattle.rtl_ir.specs.declared.design.Expr.TheVariants.{Net as Plain, Cell as Word_at}
use Rattle.rtl_ir.specs.declared.design.Target.TheVariants.{Reg, Cell}
use Rattle.rtl_ir.specs.Value.{Family, Contents, net_kept, mem_depth, is_reg}
use Rattle.rtl_ir.specs.Typed.{mem_width, word_width}
use Rattle.rtl_ir.specs.Grow.{AllIn, Grows, Holds}
use Rattle.rtl_ir.proofs.Grow.{holds_before, grows_on, width_kept}
use Rattle.rtl_build.specs.declared.signal.Signal.{Signal}
use Rattle.rtl_build.specs.Wires.{is_output, wire_name, AreWires, AddsWires, empty}
use Rattle.rtl_build.specs.Signals.{HasSignal, Makes, MakesWhere}
use Rattle.rtl_build.specs.Ports.{HasOutput, AddsPort, Drives, with_port, with_assign}
use Rattle.rtl_build.specs.Storage.{HasRegister, HasMemory, AddsRegister, AddsMemory, AddsUpdate, ReadsCell, with_register, with_memory, with_update, with_cell}
use Rattle.rtl_build.proofs.Growing.{in_more, range_in_more, all_in, signal_kept}
use Rattle.rtl_delays.specs.Steps.{HasUpdate, writes_reg, writes_mem, Apart, UpdatesIn, IsSound}
use Rattle.rtl_delays.specs.Extends.{Extends, AllOff, KeepsStill, LeavesFree}
use Rattle.rtl_delays.proofs.MayUpdate.{MayUpdate}
use Rattle.rtl_delays.specs.Names.{memory_name, MayName}
use Rattle.rtl_delays.specs.Ordered.{IsOrdered}
use Rattle.rtl_delays.specs.Partial.{IsPartial}
use Rattle.rtl_delays.specs.Driven.{is_driven}
use Rattle.rtl_delays.proofs.Lists.{get_left, get_within, get_last}
use Rattle.rtl_delays.proofs.Moves.{step_before}
use Rattle.rtl_delays.proofs.Grown.{grown}
use Rattle.rtl_delays.proofs.Added.{more_of, wires_more, register_more, memory_more, cell_more, drive_more, update_more}
use Rattle.rtl_delays.proofs.Targets.{updates_more, updates_last, last_reg, last_mem, apart_last}
use Rattle.rtl_delays.proofs.Levels.{same_ordered, last_ordered, output_ordered, cell_ordered, wires_ordered}

reg_within : (l : List Net) (k : ℕ) → net_kept (slice_get l k) ≡ true → k < length l
reg_within [] k h = absurd (false≢true h)
reg_within (x ∷ l) zero h = omega arith
reg_within (x ∷ l) (suc k) h = let q = reg_within l k h in omega arith

pub more_nets : {m n : Module} → Grows m n → length m.nets ≤ length n.nets
more_nets {m} {n} g = let size : length n.nets ≡ length m.nets + length g.more_nets = ap length g.nets ∙ length-append m.nets g.more_nets in omega (arith, size)

pub more_mems : {m n : Module} → Grows m n → length m.mems ≤ length n.mems
more_mems {m} {n} g = let size : length n.mems ≡ length m.mems + length g.more_mems = ap length g.mems ∙ length-append m.mems g.more_mems in omega (arith, size)

reg_kept : (m n : Module) → Grows m n → (k : ℕ) → is_reg m k ≡ true → is_reg n k ≡ true
reg_kept m n g k reg = ap (λ (l : List Net). net_kept (slice_get l k)) g.nets ∙ ap net_kept (get_within m.nets g.more_nets k (reg_within m.nets k reg)) ∙ reg

words_kept : (m n : Module) → Grows m n → (k : ℕ) → k < length m.mems → word_width n k ≡ word_width m k
words_kept m n g k h = ap (λ (l : List Mem). mem_width (slice_get l k)) g.mems ∙ ap mem_width (get_within m.mems g.more_mems k h)

pub extends : (m n : Module) → Grows m n → IsSound m → IsSound n → (IsOrdered m → IsOrdered n) → (IsPartial m → IsPartial n) → n.name ≡ m.name → Extends m n
extends m n g old sound ordered partial named = record {
  partial = partial;
  grows = g;
  name = named;
  sound = sound;
  keeps = λ t h. signal_kept m n g t h;
  outputs = λ t h. record {
    net = let a = h.net in let b = more_nets g in omega (arith, a, b);
    output = ap (λ ps. is_output ps t.net) g.ports ∙ h.output;
    width = width_kept m n g t.net h.net ∙ h.width;
  };
  registers = λ t h. record {
    net = let a = h.net in let b = more_nets g in omega (arith, a, b);
    register = reg_kept m n g t.net h.register;
    width = width_kept m n g t.net h.net ∙ h.width;
  };
  memories = λ k h. let e = words_kept m n g k h.within in record {
    within = let a = h.within in let b = more_mems g in omega (arith, a, b);
    some = let a = h.some in omega (arith, a, e);
    at_most = let a = h.at_most in omega (arith, a, e);
  };
  regs = reg_kept m n g;
  depths = λ k h. ap (λ (l : List Mem). mem_depth (slice_get l k)) g.mems ∙ ap mem_depth (get_within m.mems g.more_mems k h);
  widths = words_kept m n g;
  before = λ c v h. holds_before m n g old.range c v h;
  steps = λ c v d h. step_before m n g old c v d h;
  updated = λ u h. (h.0, ap (λ l. slice_get l h.0) g.updates ∙ get_left m.updates g.more_updates h.0 u h.1);
  ordered = ordered;
}

-- the module itself
pub extends_same : {m : Module} → IsSound m → Extends m m
extends_same {m} sound = extends m m (record {
  more_nets = [];
  nets = sym (append-nil m.nets);
  more_mems = [];
  mems = sym (append-nil m.mems);
  more_assigns = [];
  assigns = sym (append-nil m.assigns);
  more_updates = [];
  updates = sym (append-nil m.updates);
  ports = refl;
  instances = refl;
}) sound sound (λ h. h) (λ h. h) refl

-- one call after another
pub extends_on : {l m n : Module} → Extends l m → Extends m n → Extends l n
extends_on {l} {m} {n} a b = record {
  grows = grows_on l m n a.grows b.grows;
  name = b.name ∙ a.name;
  sound = b.sound;
  keeps = λ t h. b.keeps t (a.keeps t h);
  outputs = λ t h. b.outputs t (a.outputs t h);
  registers = λ t h. b.registers t (a.registers t h);
  memories = λ k h. b.memories k (a.memories k h);
  regs = λ k h. b.regs k (a.regs k h);
  depths = λ k h. b.depths k (let q = more_mems a.grows in omega (arith, q, h)) ∙ a.depths k h;
  widths = λ k h. b.widths k (let q = more_mems a.grows in omega (arith, q, h)) ∙ a.widths k h;
  before = λ c v h. a.before c v (b.before c v h);
  steps = λ c v d h. a.steps c v d (b.steps c v d h);
  updated = λ u h. b.updated u (a.updated u h);
  ordered = λ h. b.ordered (a.ordered h);
  partial = λ h. b.partial (a.partial h);
}

-- ---- wires

all_append : (a k : ℕ) (xs ys : List Assign) → AllIn a k xs → AllIn a k ys → AllIn a k (xs ++ ys)
all_append a k [] ys h i = i
all_append a k (x ∷ xs) ys h i = (h.0, h.1, all_append a k xs ys h.2 i)

wires_in : (m : Module) (n a k : ℕ) (nets : List Net) (assigns : List Assign) → n + length nets ≤ a → AreWires m n nets assigns → AllIn a k assigns
wires_in m n a k [] [] le w = tt
wires_in m n a k [] (y ∷ assigns) le w = absurd w
wires_in m n a k (x ∷ nets) [] le w = absurd w
wires_in m n a k (x ∷ nets) (y ∷ assigns) le w = (
  let t = w.0.target in omega (arith, t, le),
  in_more n a 0 k y.expr (omega (arith, le)) (omega arith) w.0.earlier,
  wires_in m (n + 1) a k nets assigns (omega (arith, le)) w.1,
)

-- any run of wires
pub wires_extends : {m n : Module} {most : ℕ} → IsSound m → AddsWires m n most → Extends m n
wires_extends {m} {n} {most} sound adds =
    let g = adds.grows in
    let nets : length n.nets ≡ length m.nets + length g.more_nets = ap length g.nets ∙ length-append m.nets g.more_nets in
    let mems : length n.mems ≡ length m.mems = ap length adds.mems in
    let A : List Assign → Type 0 = λ l. AllIn (length n.nets) (length n.mems) l in
    let U : List Update → Type 0 = λ us. UpdatesIn (length n.nets) (length n.mems) us in
    let new : IsSound n = record {
      range = subst A (sym g.assigns) (all_append (length n.nets) (length n.mems) m.assigns g.more_assigns
          (range_in_more (length m.nets) (length n.nets) (length m.mems) (length n.mems) m.assigns (omega arith) (omega arith) sound.range)
          (wires_in n (length m.nets) (length n.nets) (length n.mems) g.more_nets g.more_assigns (omega arith) adds.wires));
      updates = subst U (sym adds.updates) (updates_more (length m.nets) (length n.nets) (length m.mems) (length n.mems) m.updates (omega arith) (omega arith) sound.updates);
      apart = subst Apart (sym adds.updates) sound.apart;
    } in
    let ordered : IsOrdered m → IsOrdered n = λ h. wires_ordered m n most h adds in
    extends m n g sound new ordered (λ p. grown m n g p (wires_more m n most p adds new ordered)) adds.name

pub makes_extends : {m n : Module} {most w : ℕ} {f : Family → ℕ} {s : Signal} → IsSound m → Makes m n most w f s → Extends m n
makes_extends sound made = wires_extends sound made.adds

pub makes_where_extends : {m n : Module} {most w : ℕ} {f : Family → Option ℕ} {s : Signal} → IsSound m → MakesWhere m n most w f s → Extends m n
makes_where_extends sound made = wires_extends sound made.adds

-- ---- what isn't a wire

-- a register, which has a name of its own
pub register_extends : {m n : Module} {name : List ℕ} {w : ℕ} {s : Signal} → IsSound m → MayName m name → AddsRegister m n name w s → Extends m n
register_extends {m} {n} {name} {w} sound named adds = subst (Extends m) (sym adds.is) all
  where
    new : Module
    new = with_register m name w

    all : Extends m new
    all =
        let x : Net = record { name = name; width = w; reg = true } in
        let len : length new.nets ≡ length m.nets + 1 = length-append m.nets (x ∷ []) in
        let g = (more_of m new (x ∷ []) [] [] [] refl (sym (append-nil m.mems)) (sym (append-nil m.assigns)) (sym (append-nil m.updates)) refl refl) in
        let holds : IsSound new = record {
          range = range_in_more (length m.nets) (length new.nets) (length m.mems) (length m.mems) m.assigns (omega arith) (omega arith) sound.range;
          updates = updates_more (length m.nets) (length new.nets) (length m.mems) (length m.mems) m.updates (omega arith) (omega arith) sound.updates;
          apart = sound.apart;
        } in
        let ordered : IsOrdered m → IsOrdered new = λ h. same_ordered m new refl refl (omega arith) h in
        extends m new g sound holds ordered (λ p. grown m new g p
        (register_more m name w p (let q = adds.signal.some in let e = adds.width in omega
        (arith, q, e)) (let q = adds.signal.at_most in let e = adds.width in omega (
          arith,
          q,
          e,
        )) named g refl refl refl refl holds ordered)) refl

-- a memory, with the name of its number, of 1 to 128 bits and 1 to 2^28 words
pub memory_extends : {m n : Module} {name : List ℕ} {w depth k : ℕ} → IsSound m
    → name ≡ memory_name (length m.mems) → 1 ≤ w → w ≤ 128 → 1 ≤ depth → depth ≤ 268435456
    → AddsMemory m n name w depth k → Extends m n
memory_extends {m} {n} {name} {w} {depth} sound named some most deep few adds = subst (Extends m) (sym adds.is) all
  where
    new : Module
    new = with_memory m name w depth

    all : Extends m new
    all =
        let x : Mem = record { name = name; width = w; depth = depth } in
        let len : length new.mems ≡ length m.mems + 1 = length-append m.mems (x ∷ []) in
        let g = (more_of m new [] (x ∷ []) [] [] (sym (append-nil m.nets)) refl (sym (append-nil m.assigns)) (sym (append-nil m.updates)) refl refl) in
        let holds : IsSound new = record {
          range = range_in_more (length m.nets) (length m.nets) (length m.mems) (length new.mems) m.assigns (omega arith) (omega arith) sound.range;
          updates = updates_more (length m.nets) (length m.nets) (length m.mems) (length new.mems) m.updates (omega arith) (omega arith) sound.updates;
          apart = sound.apart;
        } in
        let ordered : IsOrdered m → IsOrdered new = λ h. same_ordered m new refl refl (omega arith) h in
        extends m new g sound holds ordered (λ p. grown m new g p (memory_more m name w depth named some most deep few g refl refl refl refl holds ordered)) refl

-- a wire of a memory's word
pub cell_extends : {m n : Module} {k : ℕ} {address s : Signal} → IsSound m → HasMemory m k → HasSignal m address → ReadsCell m n k address s → Extends m n
cell_extends {m} {n} {k} {address} sound memory has adds = subst (Extends m) (sym adds.is) all
  where
    new : Module
    new = with_cell m k address.net

    all : Extends m new
    all =
        let x : Net = record { name = wire_name (length m.nets); width = word_width m k; reg = false } in
        let a : Assign = record { target = length m.nets; expr = Word_at k address.net } in
        let len : length new.nets ≡ length m.nets + 1 = length-append m.nets (x ∷ []) in
        let at = has.net in
        let g = (more_of m new (x ∷ []) [] (a ∷ []) [] refl (sym (append-nil m.mems)) refl (sym (append-nil m.updates)) refl refl) in
        let holds : IsSound new = record {
          range = all_in (length m.nets) (length new.nets) (length m.mems) m.assigns a (omega arith) sound.range (omega arith) (memory.within, omega (arith, at));
          updates = updates_more (length m.nets) (length new.nets) (length m.mems) (length m.mems) m.updates (omega arith) (omega arith) sound.updates;
          apart = sound.apart;
        } in
        let ordered : IsOrdered m → IsOrdered new = λ h. last_ordered m new a refl refl (omega arith) (cell_ordered new (length m.nets) k address.net (omega (arith, at)) at has.inner) h in
        extends m new g sound holds ordered (λ p. grown m new g p (cell_more m k address.net p memory.some memory.at_most g refl refl refl refl holds ordered)) refl

-- an output's value, which it didn't have yet
pub drive_extends : {m n : Module} {output source : Signal} → IsSound m → HasOutput m output
    → HasSignal m source → source.width ≡ output.width → is_driven output.net m.assigns ≡ false
    → Drives m n output source → Extends m n
drive_extends {m} {n} {output} {source} sound out has same undriven adds = subst (Extends m) (sym adds.is) all
  where
    a : Assign
    a = record { target = output.net; expr = Plain source.net }

    new : Module
    new = with_assign m a

    all : Extends m new
    all =
        let g = (more_of m new [] [] (a ∷ []) [] (sym (append-nil m.nets)) (sym (append-nil m.mems)) refl (sym (append-nil m.updates)) refl refl) in
        let holds : IsSound new = record {
          range = all_in (length m.nets) (length m.nets) (length m.mems) m.assigns a (omega arith) sound.range out.net has.net;
          updates = sound.updates;
          apart = sound.apart;
        } in
        let ordered : IsOrdered m → IsOrdered new = λ h. last_ordered m new a refl refl (omega arith) (output_ordered new output.net source.net has.net has.inner out.output) h in
        extends m new g sound holds ordered (λ p. grown m new g p (drive_more m output source p out has same undriven g refl refl refl refl holds ordered)) refl

-- an update of what nothing writes yet
pub update_extends : {m n : Module} {u : Update} → IsSound m → MayUpdate m u → AddsUpdate m n u → Extends m n
update_extends {m} {n} {u} sound may adds = subst (Extends m) (sym adds.is) all
  where
    new : Module
    new = with_update m u

    all : Extends m new
    all =
        let g = (more_of m new [] [] [] (u ∷ []) (sym (append-nil m.nets)) (sym (append-nil m.mems)) (sym (append-nil m.assigns)) refl refl refl) in
        let holds : IsSound new = record {
          range = sound.range;
          updates = updates_last (length m.nets) (length m.mems) m.updates u sound.updates may.target;
          apart = apart_last m.updates u sound.apart may.free;
        } in
        let ordered : IsOrdered m → IsOrdered new = λ h. same_ordered m new refl refl (omega arith) h in
        extends m new g sound holds ordered (λ p. grown m new g p (update_more m u may g refl refl refl refl holds ordered)) refl

-- by what `update` and `write` ask for
pub may_update : (m : Module) (enable register value : Signal) → HasSignal m enable
    → HasRegister m register → HasSignal m value → enable.width ≡ 1
    → value.width ≡ register.width → writes_reg register.net m.updates ≡ false
    → MayUpdate m (record { enable = enable.net; target = Reg register.net; value = value.net })
may_update m enable register value e r v one same free = record {
  free = free;
  enable = e.net;
  value = v.net;
  target = r.net;
  kept = r.register;
  typed = record { enable = e.width ∙ one; value = v.width ∙ same ∙ sym r.width };
}

pub may_write : (m : Module) (enable : Signal) (k : ℕ) (address value : Signal)
    → HasSignal m enable → k < length m.mems → HasSignal m address → HasSignal m value
    → enable.width ≡ 1 → value.width ≡ word_width m k → writes_mem k m.updates ≡ false
    → MayUpdate m (record { enable = enable.net; target = Cell k address.net; value = value.net })
may_write m enable k address value e within a v one same free = record {
  free = free;
  enable = e.net;
  value = v.net;
  target = (within, a.net);
  kept = within;
  typed = record { enable = e.width ∙ one; value = v.width ∙ same };
}

-- the module has the update that was added
pub has_added : {m n : Module} {u : Update} → AddsUpdate m n u → HasUpdate n u
has_added {m} {n} {u} adds = subst (λ k. HasUpdate k u) (sym adds.is) (length m.updates, get_last m.updates u)

-- ---- modules that have ports alone

pub empty_sound : (name : List ℕ) → IsSound (empty name)
empty_sound name = record { range = tt; updates = tt; apart = tt }

pub port_sound : {m n : Module} {name : List ℕ} {w : ℕ} {output : _} {s : Signal} → IsSound m → AddsPort m n name w output s → IsSound n
port_sound {m} {n} {name} {w} {output} sound adds = subst IsSound (sym adds.is) all
  where
    new : Module
    new = with_port m name w output

    all : IsSound new
    all =
        let len : length new.nets ≡ length m.nets + 1 = length-append m.nets (record { name = name; width = w; reg = false } ∷ []) in
        record {
          range = range_in_more (length m.nets) (length new.nets) (length m.mems) (length m.mems) m.assigns (omega arith) (omega arith) sound.range;
          updates = updates_more (length m.nets) (length new.nets) (length m.mems) (length m.mems) m.updates (omega arith) (omega arith) sound.updates;
          apart = sound.apart;
        }

-- ---- where nothing changes

off_last : (f : Family) (us : List Update) (u : Update) → AllOff f us → eqb (f u.enable) 1 ≡ false → AllOff f (us ++ u ∷ [])
off_last f [] u h k = (k, tt)
off_last f (w ∷ us) u h k = (h.0, off_last f us u h.1 k)

pub still_same : (m n : Module) (run reset : ℕ) → n.updates ≡ m.updates → KeepsStill m n run reset
still_same m n run reset e c f h r s off = subst (AllOff f) (sym e) off

pub still_on : (l m n : Module) (run reset : ℕ) → KeepsStill l m run reset → KeepsStill m n run reset → Extends m n → KeepsStill l n run reset
still_on l m n run reset p q e c f h r s off = q c f h r s (p c f (e.before c f h) r s off)

pub still_update : (m n : Module) (u : Update) (run reset : ℕ) → n.updates ≡ m.updates ++ u ∷ []
    → ((c : Contents) (f : Family) → Holds n c f → f run ≡ 0 → f reset ≡ 0 → f u.enable ≡ 0)
    → KeepsStill m n run reset
still_update m n u run reset e zero' c f h r s off = subst (AllOff f) (sym e) (off_last f m.updates u off (ap (λ x. eqb x 1) (zero' c f h r s)))

-- neither of two bits
pub or_zero : (x a b : ℕ) → x ≡ bit_or a b → a ≡ 0 → b ≡ 0 → x ≡ 0
or_zero x a b e f g = e ∙ ap (λ y. bit_or y b) f ∙ ap (bit_or 0) g

-- ---- what is still not written

pub register_leaves : (m n : Module) (r e x : ℕ) → n.updates ≡ m.updates ++ (record { enable = e; target = Reg r; value = x }) ∷ [] → LeavesFree m n r None
register_leaves m n r e x h = record {
  regs = λ k f d. ap (writes_reg k) h ∙ last_reg k m.updates _ f d;
  mems = λ k f d. ap (writes_mem k) h ∙ last_mem k m.updates _ f refl;
}

pub ring_leaves : (m l n : Module) (r e x k a f y : ℕ) → l.updates ≡ m.updates
    ++ (record { enable = e; target = Reg r; value = x }) ∷ [] → n.updates ≡ l.updates
    ++ (record { enable = f; target = Cell k a; value = y }) ∷ [] → LeavesFree m n r (Some k)
ring_leaves m l n r e x k a f y h g = record {
  regs = λ j w d. ap (writes_reg j) g ∙ last_reg j l.updates _ (ap (writes_reg j) h ∙ last_reg j m.updates _ w d) refl;
  mems = λ j w d. ap (writes_mem j) g ∙ last_mem j l.updates _ (ap (writes_mem j) h ∙ last_mem j m.updates _ w refl) d;
}
