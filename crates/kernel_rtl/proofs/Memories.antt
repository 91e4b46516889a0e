-- How many memories the module of a kernel has.
use Rattle.std.proofs.Common.{
  ◌≡◌,
  ◌⊎◌,
  inl,
  inr,
  ℕ,
  zero,
  suc,
  ◌+◌,
  ◌*◌,
  ◌<◌,
  ◌≤◌,
  true,
  cond,
  List,
  [],
  ◌∷◌,
  ◌++◌,
  length,
  Some,
  refl,
  sym,
  ap,
  ◌∙◌,
  arith,
  length-append,
}
use Rattle.std.specs.Prelude.{slice_get}
use Rattle.std.proofs.Math.Nat.{mul-pos}
use Rattle.rtl_ir.specs.declared.design.Module.{Module}
use Rattle.rtl_ir.specs.declared.design.Net.{Net}
use Rattle.rtl_ir.specs.declared.design.Mem.{Mem}
use Rattle.rtl_ir.specs.Value.{net_width}
use Rattle.rtl_ir.specs.Grow.{Grows}
use Rattle.rtl_build.specs.declared.signal.Signal.{Signal}
use Rattle.rtl_delays.specs.Extends.{Extends}
use Rattle.rtl_delays.specs.Partial.{IsPartial, HasPortsAlone}
use Rattle.rtl_delays.specs.Stored.{net_bits, mem_bits, stored_bits}
use Rattle.rtl_delays.proofs.Added.{item_at}
use Rattle.rtl_delays.proofs.Grown.{parted}
use Rattle.stream_graph.specs.declared.node.Node.{Node}
use Rattle.kernel_layout.specs.declared.layout.Layout.{Layout}
use Rattle.kernel_stages.specs.Numbers.{ring_count}
use Rattle.kernel_rtl.specs.declared.storage.Storage.{Storage}
use Rattle.kernel_rtl.specs.Storage.{AddsPosition, AddsStorage}
use Rattle.kernel_rtl.proofs.Finishing.{net_both, mem_both, reg_of_net}

-- memories that have bits and hold none are none
no_mems : (xs : List Mem) → ((i : ℕ) (x : Mem) → slice_get xs i ≡ Some x → 0 < x.width * x.depth) → mem_bits xs ≡ 0 → length xs ≡ 0
no_mems [] h z = refl
no_mems (x ∷ xs) h z = let some = h 0 x refl in absurd (omega (arith, some, z))

-- an item of the second of two lists
get_right : (xs ys : List Mem) (i : ℕ) → slice_get (xs ++ ys) (length xs + i) ≡ slice_get ys i
get_right [] ys i = let e : 0 + i ≡ i = omega arith in ap (slice_get ys) e
get_right (x ∷ xs) ys i =
    let e : suc (length xs) + i ≡ suc (length xs + i) = omega arith in
    ap (slice_get (x ∷ xs ++ ys)) e ∙ get_right xs ys i

-- a module whose new memories hold no bits has none
mems_by_bits : (m n : Module) (g : Grows m n) → mem_bits g.more_mems ≡ 0 → IsPartial n → length n.mems ≡ length m.mems
mems_by_bits m n g none partial =
    let size : length n.mems ≡ length m.mems + length g.more_mems = ap length g.mems ∙ length-append m.mems g.more_mems in
    let new = no_mems g.more_mems some none in
    omega (arith, size, new)
  where
    some : (i : ℕ) (x : Mem) → slice_get g.more_mems i ≡ Some x → 0 < x.width * x.depth
    some i x e =
        let p = partial.mems (length m.mems + i) x (ap (λ l. slice_get l (length m.mems + i)) g.mems ∙ get_right m.mems g.more_mems i ∙ e) in
        let bits = p.some in
        let words = p.words in
        let wide : 0 < x.width = omega (arith, bits) in
        let deep : 0 < x.depth = omega (arith, words) in
        mul-pos wide deep

-- nor has a module that stores no more bits than before
mems_by_stored : (m n : Module) → Grows m n → stored_bits n ≡ stored_bits m → IsPartial n → length n.mems ≡ length m.mems
mems_by_stored m n g stored partial =
    let nets = ap net_bits g.nets ∙ net_both m.nets g.more_nets in
    let mems = ap mem_bits g.mems ∙ mem_both m.mems g.more_mems in
    let none : mem_bits g.more_mems ≡ 0 = omega (arith, nets, mems, stored) in
    mems_by_bits m n g none partial

-- nets store the bits of each register among them
reg_bits : (xs : List Net) (i : ℕ) (x : Net) → slice_get xs i ≡ Some x → x.reg ≡ true → x.width ≤ net_bits xs
reg_bits [] i x e r = absurd (cc)
reg_bits (y ∷ xs) zero x e r =
    let same : y ≡ x = cc in
    let reg : y.reg ≡ true = ap (λ (n : Net). n.reg) same ∙ r in
    let head : cond y.reg y.width 0 ≡ y.width = ap (λ b. cond b y.width 0) reg in
    let width : y.width ≡ x.width = ap (λ (n : Net). n.width) same in
    omega (arith, head, width)
reg_bits (y ∷ xs) (suc i) x e r = let rest = reg_bits xs i x e r in omega (arith, rest)

-- the position is a register, which takes all bits that are added with it
pub position_mems : (l m : Module) (s : Signal) → HasPortsAlone l → AddsPosition l m s → length m.mems ≡ length l.mems
position_mems l m s alone p =
    let nets = ap net_bits g.nets ∙ net_both l.nets g.more_nets in
    let mems = ap mem_bits g.mems ∙ mem_both l.mems g.more_mems in
    let stored = p.stored in
    let own = wide in
    let none : mem_bits g.more_mems ≡ 0 = omega (arith, nets, mems, stored, own) in
    mems_by_bits l m g none (p.extends.partial alone.partial)
  where
    g : Grows l m
    g = p.extends.grows

    by_item : (x : Net) → slice_get m.nets s.net ≡ Some x
        → ((slice_get l.nets s.net ≡ Some x) × (s.net < length l.nets)) ⊎ ((i : ℕ) × (s.net ≡ length l.nets + i) × (slice_get g.more_nets i ≡ Some x))
        → 48 ≤ net_bits g.more_nets
    by_item x e (inl h) =
        let lt = h.1 in
        let last = p.last in
        let one = p.nets in
        absurd (omega (arith, lt, last, one))
    by_item x e (inr h) =
        let bits = reg_bits g.more_nets h.0 x h.2 (reg_of_net m s.net x e p.wide.register.register) in
        let width : x.width ≡ 48 = sym (ap net_width e) ∙ p.wide.register.width ∙ p.wide.width in
        omega (arith, bits, width)

    wide : 48 ≤ net_bits g.more_nets
    wide =
        let x = item_at m.nets s.net p.wide.register.net in
        by_item x.0 x.1 (parted l.nets g.more_nets s.net x.0 (ap (λ q. slice_get q s.net) (sym g.nets) ∙ x.1))

-- the memories after each step together
pub mem_count : (a b c d e f : Module) (nodes : List Node) (plan : Layout) (storage : Storage) → HasPortsAlone a
    → AddsStorage a b nodes plan storage → Extends b c → Extends c d → Extends d e
    → stored_bits c ≡ stored_bits b → stored_bits d ≡ stored_bits c → stored_bits e ≡ stored_bits d → f.mems ≡ e.mems
    → length f.mems ≤ ring_count plan.waits
mem_count a b c d e f nodes plan storage alone s x y z p q r same =
    let at_c : IsPartial c = x.partial (s.extends.partial alone.partial) in
    let at_d : IsPartial d = y.partial at_c in
    let none : length a.mems ≡ 0 = ap length alone.mems in
    let first = s.mems in
    let words = mems_by_stored b c x.grows p at_c in
    let control = mems_by_stored c d y.grows q at_d in
    let closed = mems_by_stored d e z.grows r (z.partial at_d) in
    let last = ap length same in
    omega (arith, none, first, words, control, closed, last)
