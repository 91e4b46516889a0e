-- What a design of a project has in all: the bits that the kernels' modules and the FIFOs store, and
-- the nets of all of its modules.
use Rattle.std.proofs.Common.{◌≡◌, ℕ, zero, suc, ◌+◌, ◌-◌, ◌*◌, ◌<◌, ◌≤◌, ◌^◌, Bool, true, false, cond, List, [], ◌∷◌, ◌++◌, map, Some, length, refl, sym, ap, ◌∙◌, arith, length-append, append_assoc}
use Rattle.std.specs.Prelude.{slice_get, slice_index, sum, sum_by, codes}
use Rattle.std.specs.List.{All}
use Rattle.std.proofs.lemmas.List.{length-map, get_or-append-add, append-nil}
use Rattle.std.proofs.lemmas.List.Elements.{All-head, All-tail, All-append}
use Rattle.std.proofs.lemmas.List.Sums.{sum_by-cons, sum_by-append, sum-map}
use Rattle.std.proofs.lemmas.Option.{same_Some}
use Rattle.std.proofs.Math.Nat.{mul-le-mul, le_refl}
use Rattle.rtl_ir.specs.declared.design.Net.{Net}
use Rattle.rtl_ir.specs.declared.design.Mem.{Mem}
use Rattle.rtl_ir.specs.declared.design.Port.{Port}
use Rattle.rtl_ir.specs.declared.design.Instance.{Instance}
use Rattle.rtl_ir.specs.declared.design.Module.{Module}
use Rattle.rtl_ir.specs.declared.design.Design.{Design}
use Rattle.rtl_ir.specs.Formed.{IsFormedNet, IsFormedMem}
use Rattle.rtl_ir.specs.Value.{net_kept, net_width}
use Rattle.rtl_ir.specs.Ports.{PortView, port_view, input_port}
use Rattle.rtl_delays.specs.Stored.{net_bits, mem_bits, stored_bits}
use Rattle.link_fifo.specs.Fifo.{IsFifoModule}
use Rattle.manager_links.specs.declared.links.Links.{Links}
use Rattle.manager_links.specs.declared.project.Project.{Project}
use Rattle.project_rtl.specs.Tops.{range, fifo_count}
use Rattle.project_rtl.specs.Projects.{Queue, queues_of, AreFifos}
use Rattle.project_rtl.specs.Storage.{total_with, totals_after, total_of, all_bits, net_count, all_nets, queue_bits, fifo_bits}
use Rattle.project_rtl.specs.Designs.{StoresParts}
use Rattle.verilog_size.proofs.Slices.{found}
use Rattle.project_sizes.proofs.Facts.{all_fifos}
use Rattle.project_sizes.proofs.LeastBits.{least_are}

-- ---- a FIFO

few_net_bits : (nets : List Net) → ((k : ℕ) (n : Net) → slice_get nets k ≡ Some n → IsFormedNet n) → net_bits nets ≤ length nets * 128
few_net_bits [] formed = omega arith
few_net_bits (n ∷ nets) formed =
    let here = by_kind n.reg (formed 0 n refl).at_most in
    let rest = few_net_bits nets (λ k. formed (suc k)) in
    omega (arith, here, rest)
  where
    by_kind : (b : Bool) → n.width ≤ 128 → cond b n.width 0 ≤ 128
    by_kind true h = h
    by_kind false h = omega arith

few_mem_bits : (mems : List Mem) → ((k : ℕ) (x : Mem) → slice_get mems k ≡ Some x → IsFormedMem x) → mem_bits mems ≤ length mems * 2 ^ 35
few_mem_bits [] formed = omega arith
few_mem_bits (x ∷ mems) formed =
    let own = formed 0 x refl in
    let here : x.width * x.depth ≤ 128 * 2 ^ 28 = mul-le-mul own.at_most own.words_at_most in
    let rest = few_mem_bits mems (λ k. formed (suc k)) in
    omega (arith, here, rest)

-- what stands in a list of images is one of an item
map_back : {A B : Type 0} (f : A → B) (xs : List A) (k : ℕ) (y : B) → slice_get (map f xs) k ≡ Some y → (x : A) × (slice_get xs k ≡ Some x) × (f x ≡ y)
map_back f [] k y e = absurd (cc)
map_back f (x ∷ xs) zero y e = (x, refl, same_Some (f x) y e)
map_back f (x ∷ xs) (suc k) y e = map_back f xs k y e

module _ (name : List ℕ) (width depth : ℕ) (m : Module) (is : IsFifoModule name width depth m) where
  -- its words have some bits
  some_width : 1 ≤ width
  some_width = by_port (map_back (port_view m) m.ports 2 (input_port (codes "in$data") width) (ap (λ (l : List PortView). slice_get l 2) is.ports))
    where
      by_net : (p : Port) → port_view m p ≡ input_port (codes "in$data") width → (n : Net) → slice_get m.nets p.net ≡ Some n → 1 ≤ width
      by_net p view n at =
          let wide : net_width (slice_get m.nets p.net) ≡ width = ap (λ (v : PortView). v.width) view in
          let own : net_width (slice_get m.nets p.net) ≡ n.width = ap net_width at in
          let some = ((is.formed []).nets p.net n at).some in
          omega (arith, wide, own, some)

      by_port : (p : Port) × (slice_get m.ports 2 ≡ Some p) × (port_view m p ≡ input_port (codes "in$data") width) → 1 ≤ width
      by_port h = let net = found m.nets h.0.net ((is.formed []).ports 2 h.0 h.1).net in by_net h.0 h.2 net.0 net.1

  -- it is not deeper than a memory can be
  small_depth : depth < 2 ^ 128
  small_depth =
      let formed = is.formed [] in
      let nets = few_net_bits m.nets formed.nets in
      let mems = few_mem_bits m.mems formed.mems in
      let few = is.few in
      let few_mems = is.few_mems in
      let all = is.stored.all in
      let words : 1 * depth ≤ width * depth = mul-le-mul some_width (le_refl depth) in
      omega (arith, nets, mems, few, few_mems, all, words)

  -- a FIFO stores what is counted for it
  pub stored : stored_bits m ≡ queue_bits (record { width = width; depth = depth })
  stored =
      let s = is.stored in
      let small = small_depth in
      let p = least_are s.place_bits (depth - 1) s.place_least (omega (arith, small)) in
      let q = least_are s.count_bits depth s.count_least small in
      let all = s.all in
      omega (arith, p, q, all)

-- the FIFOs store what is counted for them
fifos_bits : (number : ℕ) (queues : List Queue) (fifos : List Module) → AreFifos number queues fifos → sum_by stored_bits fifos ≡ sum_by queue_bits queues
fifos_bits number [] [] h = refl
fifos_bits number [] (m ∷ ms) h = absurd h
fifos_bits number (q ∷ queues) [] h = absurd h
fifos_bits number (q ∷ queues) (m ∷ ms) h =
    let here : stored_bits m ≡ queue_bits q = stored _ q.width q.depth m h.0 in
    let rest = fifos_bits (number + 1) queues ms h.1 in
    let a = sum_by-cons stored_bits m ms in
    let b = sum_by-cons queue_bits q queues in
    a ∙ ap (λ n. n + sum_by stored_bits ms) here ∙ ap (λ n. queue_bits q + n) rest ∙ sym b

-- the FIFOs have at most 64 nets each
fifos_nets : (number : ℕ) (queues : List Queue) (fifos : List Module) → AreFifos number queues fifos → sum_by net_count fifos ≤ 64 * length queues
fifos_nets number [] [] h = omega arith
fifos_nets number [] (m ∷ ms) h = absurd h
fifos_nets number (q ∷ queues) [] h = absurd h
fifos_nets number (q ∷ queues) (m ∷ ms) h =
    let few = h.0.few in
    let rest = fifos_nets (number + 1) queues ms h.1 in
    let a = sum_by-cons net_count m ms in
    omega (arith, few, rest, a)

-- ---- the modules before the top

-- the module has no instances
abbrev pub IsLeaf : Module → Type 0
IsLeaf m = m.instances ≡ []

-- such a module has its own alone
alone : (own : Module → ℕ) (totals : List ℕ) (m : Module) → IsLeaf m → total_with own totals m ≡ own m
alone own totals m none =
    let s = ap (λ (is : List Instance). sum_by (λ (i : Instance). slice_index totals i.«module») is) none in
    omega (arith, s)

after_leaves : (own : Module → ℕ) (ms rest : List Module) (totals : List ℕ) → All IsLeaf ms → totals_after own totals (ms ++ rest) ≡ totals_after own (totals ++ map own ms) rest
after_leaves own [] rest totals h = ap (λ l. totals_after own l rest) (sym (append-nil totals))
after_leaves own (m ∷ ms) rest totals h =
    ap (λ b. totals_after own (totals ++ b ∷ []) (ms ++ rest)) (alone own totals m (All-head IsLeaf m ms h))
    ∙ after_leaves own ms rest (totals ++ own m ∷ []) (All-tail IsLeaf m ms h)
    ∙ ap (λ l. totals_after own l rest) (append_assoc totals (own m ∷ []) (map own ms))

-- ---- the top

-- nets of which none is a register store nothing
no_bits : (nets : List Net) → ((n : ℕ) → net_kept (slice_get nets n) ≡ false) → net_bits nets ≡ 0
no_bits [] h = refl
no_bits (x ∷ nets) h =
    let e : cond x.reg x.width 0 ≡ 0 = ap (λ b. cond b x.width 0) (h 0) in
    let rest = no_bits nets (λ n. h (suc n)) in
    omega (arith, e, rest)

-- what all instances have, by the numbers of their modules
by_module : (totals : List ℕ) (is : List Instance)
    → sum_by (λ (i : Instance). slice_index totals i.«module») is ≡ sum_by (λ k. slice_index totals k) (map (λ (i : Instance). i.«module») is)
by_module totals [] = refl
by_module totals (i ∷ is) =
    let a = sum_by-cons (λ (j : Instance). slice_index totals j.«module») i is in
    let b = sum_by-cons (λ k. slice_index totals k) i.«module» (map (λ (j : Instance). j.«module») is) in
    let c = by_module totals is in
    omega (arith, a, b, c)

-- the items of a list that stand behind others, by their numbers
sum_range : (before xs : List ℕ) → sum_by (λ k. slice_index (before ++ xs) k) (range (length before) (length xs)) ≡ sum xs
sum_range before [] = refl
sum_range before (x ∷ xs) =
    let at : ℕ → ℕ = λ k. slice_index (before ++ x ∷ xs) k in
    let n = length before in
    let z : n ≡ n + 0 = omega arith in
    let here : at n ≡ x = ap at z ∙ get_or-append-add before (x ∷ xs) 0 0 in
    let joined : (before ++ x ∷ []) ++ xs ≡ before ++ x ∷ xs = append_assoc before (x ∷ []) xs in
    let size : n + 1 ≡ length (before ++ x ∷ []) = sym (length-append before (x ∷ [])) in
    let rest : sum_by at (range (n + 1) (length xs)) ≡ sum xs =
    ap (λ k. sum_by at (range k (length xs))) size
    ∙ ap (λ l. sum_by (λ k. slice_index l k) (range (length (before ++ x ∷ [])) (length xs))) (sym joined)
    ∙ sum_range (before ++ x ∷ []) xs in
    let a = sum_by-cons at n (range (n + 1) (length xs)) in
    let b = sum_by-cons (λ (y : ℕ). y) x xs in
    omega (arith, here, rest, a, b)

-- ---- all of it

module _ (own : Module → ℕ) (project : Project) (made : Links) (inners : List Module) (d : Design) (top : Module)
    (parts : StoresParts project made inners d top) (leaves : All IsLeaf inners) where
  -- the modules before the top
  abbrev inside : List Module
  inside = parts.fifos ++ inners

  -- what they have
  abbrev before : List ℕ
  before = map own inside

  modules : d.modules ≡ inside ++ top ∷ []
  modules = parts.modules ∙ sym (append_assoc parts.fifos inners (top ∷ []))

  -- with the top behind them they are those of all modules
  after : totals_after own [] d.modules ≡ before ++ total_with own before top ∷ []
  after =
      ap (λ l. totals_after own [] l) modules
      ∙ after_leaves own inside (top ∷ []) []
      (All-append IsLeaf parts.fifos inners (all_fifos IsLeaf 0 (queues_of project made) parts.fifos parts.are_fifos (λ n width depth f fifo. fifo.no_instances)) leaves)

  length_before : length before ≡ length parts.fifos + length inners
  length_before = length-map inside own ∙ length-append parts.fifos inners

  -- the last module stands behind them
  last : length d.modules - 1 ≡ length before + 0
  last =
      let a = ap (λ (l : List Module). length l) modules ∙ length-append inside (top ∷ []) in
      let b = length-map inside own in
      omega (arith, a, b)

  -- what the design has is what the top has with its instances
  all_is_top : total_of own d ≡ total_with own before top
  all_is_top =
      ap (λ k. slice_index (totals_after own [] d.modules) k) last
      ∙ ap (λ l. slice_index l (length before + 0)) after
      ∙ get_or-append-add before (total_with own before top ∷ []) 0 0

  -- the instances of the top have what all modules before it have
  of_instances : sum_by (λ (i : Instance). slice_index before i.«module») top.instances ≡ sum before
  of_instances =
      by_module before top.instances
      ∙ ap (λ l. sum_by (λ k. slice_index before k) l) (parts.once ∙ ap (λ k. range 0 k) (sym length_before))
      ∙ sum_range [] before

  -- the design has what the FIFOs, the kernels' modules and the top module have of their own
  total : total_of own d ≡ sum_by own parts.fifos + sum_by own inners + own top
  total =
      let a = all_is_top in
      let b = of_instances in
      let all = sum-map own inside in
      let both = sum_by-append own parts.fifos inners in
      omega (arith, a, b, all, both)

module _ (project : Project) (made : Links) (inners : List Module) (d : Design) (top : Module)
    (parts : StoresParts project made inners d top) (leaves : All IsLeaf inners) where
  -- the design stores the bits of the kernels' modules and those of the FIFOs, and none in the top
  pub bits : all_bits d ≡ sum_by stored_bits inners + fifo_bits project made
  bits =
      let all = total stored_bits project made inners d top parts leaves in
      let fifos = fifos_bits 0 (queues_of project made) parts.fifos parts.are_fifos in
      let nets = no_bits top.nets parts.no_registers in
      let mems = ap mem_bits parts.no_memories in
      omega (arith, all, fifos, nets, mems)

  -- the design has the nets of the kernels' modules and of the top, and at most 64 for a FIFO
  pub wires : length (queues_of project made) ≡ fifo_count project
      → all_nets d ≤ sum_by net_count inners + length top.nets + 64 * fifo_count project
  wires count =
      let all = total net_count project made inners d top parts leaves in
      let fifos = fifos_nets 0 (queues_of project made) parts.fifos parts.are_fifos in
      omega (arith, all, fifos, count)
