-- Modules that grow by registers, memories and updates.
use Rattle.std.proofs.Common.{◌≡◌, ℕ, ◌+◌, ◌<◌, ◌≤◌, true, false, Some, List, [], ◌∷◌, ◌++◌, length, refl, sym, ap, ◌∙◌, subst, arith, length-append, append-nil}
use Rattle.std.specs.Prelude.{slice_get}
use Rattle.rtl_ir.specs.declared.design.Net.{Net}
use Rattle.rtl_ir.specs.declared.design.Mem.{Mem}
use Rattle.rtl_ir.specs.declared.design.Update.{Update}
use Rattle.rtl_ir.specs.declared.design.Module.{Module}
use Rattle.rtl_ir.specs.declared.design.Instance.{Instance}
use Rattle.rtl_ir.specs.declared.design.Assign.{Assign}
use Rattle.rtl_ir.specs.declared.design.Expr.{Expr}
use Rattle.rtl_ir.specs.declared.design.Expr.TheVariants.{Net as Plain, Literal, Not, Binary, Concat, Repeat, Part, Choose, Cell}
use Rattle.rtl_ir.specs.Edge.{Assigned}
use Rattle.rtl_ir.specs.Value.{Family, Contents, value, width_of, net_width, net_kept, mem_depth, is_reg}
use Rattle.rtl_ir.specs.Typed.{mem_width, word_width}
use Rattle.rtl_ir.specs.Grow.{Grows}
use Rattle.rtl_ir.proofs.Grow.{holds_before}
use Rattle.rtl_build.specs.declared.signal.Signal.{Signal}
use Rattle.rtl_build.specs.Wires.{is_output, IsOpen, wire_name}
use Rattle.rtl_build.specs.Storage.{AddsRegister, AddsUpdate, AddsMemory, HasMemory, ReadsCell, AddsInstance, Keeps, with_register, with_update, with_memory}
use Rattle.rtl_build.proofs.Growing.{larger, signal, wire, gets, get_last, last_assigned, open_net, open_assign, no_output, signal_kept, range_in_more}

-- the module with these memories and updates
abbrev pub stored : Module → List Mem → List Update → Module
stored m mems updates = record { name = m.name; ports = m.ports; nets = m.nets; mems = mems; assigns = m.assigns; updates = updates; instances = m.instances }

keeps_of : (m n : Module) → Grows m n → IsOpen m → Keeps m n
keeps_of m n g is_open = record { grows = g; signals = λ t h. signal_kept m n g t h; before = λ c v h. holds_before m n g is_open.range c v h }

abbrev pub register : List ℕ → ℕ → Net
register name w = record { name = name; width = w; reg = true }

pub adds_register : (m : Module) (nets : List Net) (name : List ℕ) (w n : ℕ) → IsOpen m → 1 ≤ w
    → w ≤ 128 → n ≡ length m.nets → nets ≡ m.nets ++ register name w ∷ []
    → AddsRegister m (larger m nets m.assigns) name w (signal n w)
adds_register m nets name w n is_open some most at nets_are =
    let new = larger m nets m.assigns in
    let x = register name w in
    let len : length nets ≡ length m.nets + 1 = ap length nets_are ∙ length-append m.nets (x ∷ []) in
    let last : slice_get nets n ≡ Some x = ap (λ (l : List Net). slice_get l n) nets_are ∙ ap (slice_get (m.nets ++ x ∷ [])) at ∙ get_last m.nets x in
    let kept : is_reg new n ≡ true = ap net_kept last in
    let grows : Grows m new = record {
      more_nets = x ∷ [];
      nets = nets_are;
      more_mems = [];
      mems = sym (append-nil m.mems);
      more_assigns = [];
      assigns = sym (append-nil m.assigns);
      more_updates = [];
      updates = sym (append-nil m.updates);
      ports = refl;
      instances = refl;
    } in
    record {
      is = ap (λ l. larger m l m.assigns) nets_are;
      net = at;
      width = refl;
      signal = record {
        net = omega arith;
        inner = subst (λ k. is_output m.ports k ≡ false) (sym at) (no_output (length m.nets) m.ports is_open.ports);
        width = ap net_width last;
        some = some;
        at_most = most;
      };
      register = record { net = omega arith; register = kept; width = ap net_width last };
      value = λ c v h. h.kept n kept;
      keeps = keeps_of m new grows is_open;
    }

pub open_update : (m : Module) (updates : List Update) → IsOpen m → IsOpen (stored m m.mems updates)
open_update m updates is_open = record { range = is_open.range; ports = is_open.ports }

pub adds_update : (m : Module) (updates : List Update) (u : Update) → IsOpen m → updates ≡ m.updates ++ u ∷ [] → AddsUpdate m (stored m m.mems updates) u
adds_update m updates u is_open updates_are =
    let grows : Grows m (stored m m.mems updates) = record {
      more_nets = [];
      nets = sym (append-nil m.nets);
      more_mems = [];
      mems = sym (append-nil m.mems);
      more_assigns = [];
      assigns = sym (append-nil m.assigns);
      more_updates = u ∷ [];
      updates = updates_are;
      ports = refl;
      instances = refl;
    } in
    record { is = ap (λ l. stored m m.mems l) updates_are; keeps = keeps_of m (stored m m.mems updates) grows is_open }

abbrev pub memory : List ℕ → ℕ → ℕ → Mem
memory name w depth = record { name = name; width = w; depth = depth }

last_memory : (l : List Mem) (x : Mem) → slice_get (l ++ x ∷ []) (length l) ≡ Some x
last_memory [] x = refl
last_memory (y ∷ l) x = last_memory l x

pub open_memory : (m : Module) (mems : List Mem) (x : Mem) → IsOpen m → mems ≡ m.mems ++ x ∷ [] → IsOpen (stored m mems m.updates)
open_memory m mems x is_open mems_are =
    let len : length mems ≡ length m.mems + 1 = ap length mems_are ∙ length-append m.mems (x ∷ []) in
    record { range = range_in_more (length m.nets) (length m.nets) (length m.mems) (length mems) m.assigns (omega arith) (omega arith) is_open.range; ports = is_open.ports }

pub adds_memory : (m : Module) (mems : List Mem) (name : List ℕ) (w depth n : ℕ) → IsOpen m
    → n ≡ length m.mems → mems ≡ m.mems ++ memory name w depth ∷ []
    → AddsMemory m (stored m mems m.updates) name w depth n
adds_memory m mems name w depth n is_open at mems_are =
    let x = memory name w depth in
    let len : length mems ≡ length m.mems + 1 = ap length mems_are ∙ length-append m.mems (x ∷ []) in
    let last : slice_get mems n ≡ Some x = ap (λ (l : List Mem). slice_get l n) mems_are ∙ ap (slice_get (m.mems ++ x ∷ [])) at ∙ last_memory m.mems x in
    let grows : Grows m (stored m mems m.updates) = record {
      more_nets = [];
      nets = sym (append-nil m.nets);
      more_mems = x ∷ [];
      mems = mems_are;
      more_assigns = [];
      assigns = sym (append-nil m.assigns);
      more_updates = [];
      updates = sym (append-nil m.updates);
      ports = refl;
      instances = refl;
    } in
    record {
      is = ap (λ l. stored m l m.updates) mems_are;
      number = at;
      within = omega arith;
      width = ap mem_width last;
      depth = ap mem_depth last;
      keeps = keeps_of m (stored m mems m.updates) grows is_open;
    }

-- a wire of a memory's word
pub open_cell :
    (m : Module) (nets : List Net) (assigns : List Assign) (name : List ℕ) (w n k a : ℕ)
    → IsOpen m → k < length m.mems → a < length m.nets → n ≡ length m.nets → nets ≡ m.nets ++ wire name w ∷ [] → assigns ≡ m.assigns ++ gets n (Cell k a) ∷ [] → IsOpen (larger m nets assigns)
open_cell m nets assigns name w n k a is_open memory address at nets_are assigns_are =
    let len : length nets ≡ length m.nets + 1 = ap length nets_are ∙ length-append m.nets (wire name w ∷ []) in
    open_assign (larger m nets m.assigns) assigns (gets n (Cell k a)) (open_net m nets (wire name w) is_open nets_are) (omega arith) (memory, omega arith) assigns_are

pub reads_cell :
    (m : Module) (nets : List Net) (assigns : List Assign) (name : List ℕ) (w n k : ℕ) (address : Signal)
    → IsOpen m → HasMemory m k → w ≡ word_width m k → n ≡ length m.nets → name ≡ wire_name n → nets ≡ m.nets ++ wire name w ∷ [] → assigns ≡ m.assigns ++ gets n (Cell k address.net) ∷ []
    → ReadsCell m (larger m nets assigns) k address (signal n w)
reads_cell m nets assigns name w n k address is_open has wide at named nets_are assigns_are =
    let new = larger m nets assigns in
    let x = wire name w in
    let e = Cell k address.net in
    let len : length nets ≡ length m.nets + 1 = ap length nets_are ∙ length-append m.nets (x ∷ []) in
    let last : slice_get nets n ≡ Some x = ap (λ (l : List Net). slice_get l n) nets_are ∙ ap (slice_get (m.nets ++ x ∷ [])) at ∙ get_last m.nets x in
    let grows : Grows m new = record {
      more_nets = x ∷ [];
      nets = nets_are;
      more_mems = [];
      mems = sym (append-nil m.mems);
      more_assigns = gets n e ∷ [];
      assigns = assigns_are;
      more_updates = [];
      updates = sym (append-nil m.updates);
      ports = refl;
      instances = refl;
    } in
    let Q : Contents → Family → List Assign → Type 0 = λ c v l. Assigned new c v l in
    record {
      is =
          ap (λ l. larger m l assigns) (nets_are ∙ ap (λ t. m.nets ++ wire t w ∷ []) (named ∙ ap wire_name at) ∙ ap (λ x. m.nets ++ wire (wire_name (length m.nets)) x ∷ []) wide)
          ∙ ap (larger m (m.nets ++ wire (wire_name (length m.nets)) (word_width m k) ∷ [])) (assigns_are ∙ ap (λ j. m.assigns ++ gets j e ∷ []) at);
      net = at;
      signal = record {
        net = omega arith;
        inner = subst (λ j. is_output m.ports j ≡ false) (sym at) (no_output (length m.nets) m.ports is_open.ports);
        width = ap net_width last;
        some = omega (arith, has.some);
        at_most = omega (arith, has.at_most);
      };
      width = wide;
      value = λ c v h. last_assigned new c v m.assigns (gets n e) (subst (Q c v) assigns_are h.assigned);
      keeps = keeps_of m new grows is_open;
    }

-- the module with these instances
abbrev pub housed : Module → List Instance → Module
housed m instances = record { name = m.name; ports = m.ports; nets = m.nets; mems = m.mems; assigns = m.assigns; updates = m.updates; instances = instances }

-- a value hangs on no instance
value_free : (m : Module) (l : List Instance) (c : Contents) (v : Family) (w : ℕ) (e : Expr) → value (housed m l) c v w e ≡ value m c v w e
value_free m l c v w (Plain k) = refl
value_free m l c v w (Literal x) = refl
value_free m l c v w (Not k) = refl
value_free m l c v w (Binary s a b) = refl
value_free m l c v w (Concat a b) = refl
value_free m l c v w (Repeat t k) = refl
value_free m l c v w (Part k hi lo) = refl
value_free m l c v w (Choose k a b) = refl
value_free m l c v w (Cell k a) = refl

assigned_free : (m : Module) (is : List Instance) (c : Contents) (v : Family) (l : List Assign) → Assigned (housed m is) c v l → Assigned m c v l
assigned_free m is c v [] h = tt
assigned_free m is c v (a ∷ l) h = (h.0 ∙ value_free m is c v (width_of m a.target) a.expr, assigned_free m is c v l h.1)

pub open_instance : (m : Module) (l : List Instance) → IsOpen m → IsOpen (housed m l)
open_instance m l is_open = record { range = is_open.range; ports = is_open.ports }

pub adds_instance : (m : Module) (l : List Instance) (i : Instance) → l ≡ m.instances ++ i ∷ [] → AddsInstance m (housed m l) i
adds_instance m l i l_is = record {
  is = ap (housed m) l_is;
  signals = λ t h. record { net = h.net; inner = h.inner; width = h.width; some = h.some; at_most = h.at_most };
  before = λ c v h. record { words = h.words; assigned = assigned_free m l c v m.assigns h.assigned; kept = h.kept };
}
