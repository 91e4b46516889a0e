-- Stages that rise, one after another.
use Rattle.std.proofs.Common.{◌≡◌, ℕ, suc, ◌+◌, ◌-◌, ◌*◌, ◌<◌, ◌≤◌, ◌^◌, List, [], ◌∷◌, ◌++◌, length, get_or, nat_lt, if◌then◌else◌, refl, sym, ap, ◌∙◌, subst, arith}
use Rattle.std.specs.Prelude.{All, sum_by}
use Rattle.std.specs.List.Sorted.{IsStrictlyIncreasing}
use Rattle.std.specs.Int.Count.{leading_of_zero}
use Rattle.std.proofs.lemmas.Bool.Decides.{nat_tests}
use Rattle.std.proofs.lemmas.List.Sums.{sum_by-cons}
use Rattle.rtl_ir.specs.declared.design.Module.{Module}
use Rattle.rtl_delays.specs.declared.elements.Element.{Element}
use Rattle.rtl_delays.specs.declared.elements.Element.TheVariants.{Register, Ring}
use Rattle.rtl_delays.specs.Elements.{advances_of, starting_nets, starting_mems, closing_nets, HasElement, IsLean, pointer_bits}
use Rattle.rtl_delays.proofs.Pointers.{pointer_is, pointer_only}
use Rattle.kernel_stages.specs.Numbers.{differences, last_from, rings_from, ring_count, register_count, wait_count}
use Rattle.kernel_stages.specs.Numbers.{AreRising, place_bits, pointer_bits as stage_bits, pipeline_bits, all_word_bits, all_pointer_bits}
use Rattle.kernel_stages.specs.Chains.{ring_delays}

-- each of these numbers is above the one before it, by at most 2^28, and the first one above `prior`
abbrev pub Climbs : ℕ → List ℕ → Type 0
Climbs prior [] = Unit {0}
Climbs prior (s ∷ ss) = (prior < s) × (s - prior ≤ 2 ^ 28) × Climbs s ss

rest_rises : (s : ℕ) (ss : List ℕ) → IsStrictlyIncreasing (s ∷ ss) → IsStrictlyIncreasing ss
rest_rises s ss r k lt =
    let P : ℕ → Type 0 = λ n. get_or ss k 0 < get_or (s ∷ ss) n 0 in
    let e : suc k + 1 ≡ suc (k + 1) = omega arith in
    subst P e (r (suc k) (omega (arith, lt)))

climb :
    (prior : ℕ) (ss : List ℕ) → IsStrictlyIncreasing ss → (0 < length ss → prior < get_or ss 0 0) → All (λ d. d ≤ 2 ^ 28) (differences prior ss)
    → Climbs prior ss
climb prior [] r f n = tt
climb prior (s ∷ ss) r f n = (
  f (omega arith),
  n 0 0 (omega arith),
  climb s ss (rest_rises s ss r) (λ lt. r 0 (omega (arith, lt))) (λ k d lt. n (suc k) d (omega (arith, lt))),
)

pub climbs : (stages : List ℕ) → AreRising stages → Climbs 0 stages
climbs stages a = climb 0 stages a.rising (λ lt. a.positive 0 0 lt) a.near

-- ---- bits

-- a ring's pointer has the bits of its number of words, and a register none
pub lean_bits : (m : Module) (e : Element) → HasElement m e → IsLean e → advances_of e ≤ 2 ^ 28 → pointer_bits e ≡ place_bits (advances_of e)
lean_bits m (Register s) h l le = let z = leading_of_zero 32 in omega (arith, z)
lean_bits m (Ring r) h l le = pointer_only r.words r.pointer.width (place_bits r.words) l (pointer_is r.words h.some (omega (arith, le)))

-- the bits of the delays that are left, of these stages after `prior`
abbrev pub BitsLeft : ℕ → ℕ → ℕ → ℕ → List ℕ → List ℕ → Type 0
BitsLeft now old w prior all ss =
    now + w * last_from prior ss + sum_by place_bits (differences prior ss) ≡ old + w * prior + (w * last_from 0 all + stage_bits all)

pub left_from :
    (now old w prior : ℕ) (all ss : List ℕ) (s : ℕ) (rest : List ℕ) → ss ≡ s ∷ rest → BitsLeft now old w prior all ss
    → now + w * last_from s rest + (place_bits (s - prior) + sum_by place_bits (differences s rest)) ≡ old + w * prior + (w * last_from 0 all + stage_bits all)
left_from now old w prior all ss s rest e h =
    ap (λ q. now + w * last_from s rest + q) (sym (sum_by-cons place_bits (s - prior) (differences s rest))) ∙ subst (BitsLeft now old w prior all) e h

pub none_left : (now old w prior : ℕ) (all ss : List ℕ) → ss ≡ [] → BitsLeft now old w prior all ss → now ≡ old + w * last_from 0 all + stage_bits all
none_left now old w prior all ss e h = let q = subst (BitsLeft now old w prior all) e h in omega (arith, q)

-- the bits that are left, one delay further
pub bits_left :
    (now next old w prior a s ptr last all more : ℕ) → prior + a ≡ s → next ≡ now + w * a + ptr
    → now + w * last + (ptr + more) ≡ old + w * prior + all → next + w * last + more ≡ old + w * s + all
bits_left now next old w prior a s ptr last all more e f g = subst (λ x. next + w * last + more ≡ old + w * x + all) e (omega (arith, f, g))

-- ---- bits of all nodes

-- the bits of the delays of the nodes that are left
abbrev pub NodesLeft : ℕ → ℕ → List ℕ → List ℕ → List (List ℕ) → Type 0
NodesLeft now total ws ls ss = now + pipeline_bits ws ls + all_word_bits ws ss + all_pointer_bits ss ≡ total

pub nodes_left :
    (now next total w l : ℕ) (ws more ls less : List ℕ) (s : List ℕ) (ss rest : List (List ℕ)) → ws ≡ w ∷ more → ls ≡ l ∷ less → ss ≡ s ∷ rest
    → next ≡ now + w * l + w * last_from 0 s + stage_bits s → NodesLeft now total ws ls ss → NodesLeft next total more less rest
nodes_left now next total w l ws more ls less s ss rest e f g grown h =
    let first : NodesLeft now total (w ∷ more) ls ss = subst (λ xs. NodesLeft now total xs ls ss) e h in
    let second : NodesLeft now total (w ∷ more) (l ∷ less) ss = subst (λ xs. NodesLeft now total (w ∷ more) xs ss) f first in
    let all : NodesLeft now total (w ∷ more) (l ∷ less) (s ∷ rest) = subst (NodesLeft now total (w ∷ more) (l ∷ less)) g second in
    omega (arith, grown, all)

pub no_nodes : (now total : ℕ) (ws ls : List ℕ) (ss : List (List ℕ)) → ws ≡ [] → ss ≡ [] → NodesLeft now total ws ls ss → now ≡ total
no_nodes now total ws ls ss e f h =
    let q : NodesLeft now total [] ls [] = subst (NodesLeft now total [] ls) f (subst (λ xs. NodesLeft now total xs ls ss) e h) in
    omega (arith, q)

-- ---- nets and memories

-- 1 where a stage comes more than one advance after `prior`, and else 0
abbrev ring_at : ℕ → ℕ → ℕ
ring_at prior s = if nat_lt (prior + 1) s then 1 else 0

-- a delay of one advance is no ring
no_ring : (prior s : ℕ) → prior + 1 ≡ s → ring_at prior s ≡ 0
no_ring prior s e = grind (arith, nat_tests)

-- one of more advances is a ring
one_ring : (prior words s : ℕ) → 2 ≤ words → prior + words ≡ s → ring_at prior s ≡ 1
one_ring prior words s some e = grind (arith, nat_tests)

-- a delay has a memory where its stage comes more than one advance after `prior`
pub element_mems :
    (m : Module) (e : Element) (prior s : ℕ) → HasElement m e → prior + advances_of e ≡ s
    → starting_mems e ≡ ring_at prior s
element_mems m (Register r) prior s h e = sym (no_ring prior s e)
element_mems m (Ring r) prior s h e = sym (one_ring prior r.words s h.some e)

-- it has one net more than memories
pub element_nets : (e : Element) → starting_nets e ≡ 1 + starting_mems e
element_nets (Register r) = refl
element_nets (Ring r) = refl

-- it is a ring where it has a memory
pub element_rings : (e : Element) (es : List Element) → ring_delays (e ∷ es) ≡ starting_mems e + ring_delays es
element_rings (Register r) es = omega arith
element_rings (Ring r) es = refl

-- closing it adds at most 8 nets for its memory
pub element_closing : (e : Element) → closing_nets e ≡ 8 * starting_mems e
element_closing (Register r) = refl
element_closing (Ring r) = refl

-- the rings of one list of delays and of another
pub rings_both : (xs ys : List Element) → ring_delays (xs ++ ys) ≡ ring_delays xs + ring_delays ys
rings_both [] ys = omega arith
rings_both (e ∷ xs) ys =
    let all = element_rings e (xs ++ ys) in
    let some = element_rings e xs in
    let rest = rings_both xs ys in
    omega (arith, all, some, rest)

-- the memories of the delays that are left, one delay further
pub mems_left :
    (now next total prior s added : ℕ) (ss rest : List ℕ) → ss ≡ s ∷ rest → added ≡ ring_at prior s → next ≡ now + added
    → now + rings_from prior ss ≡ total → next + rings_from s rest ≡ total
mems_left now next total prior s added ss rest e f g h =
    let size : rings_from prior ss ≡ ring_at prior s + rings_from s rest = ap (rings_from prior) e in
    omega (arith, size, f, g, h)

-- their nets
pub nets_left :
    (now next total prior s added : ℕ) (ss rest : List ℕ) → ss ≡ s ∷ rest → added ≡ ring_at prior s → next ≡ now + (1 + added)
    → now + (length ss + rings_from prior ss) ≡ total → next + (length rest + rings_from s rest) ≡ total
nets_left now next total prior s added ss rest e f g h =
    let long = ap length e in
    let size : rings_from prior ss ≡ ring_at prior s + rings_from s rest = ap (rings_from prior) e in
    omega (arith, long, size, f, g, h)

-- no delays are left
pub no_mems_left : (now total prior : ℕ) (ss : List ℕ) → ss ≡ [] → now + rings_from prior ss ≡ total → now ≡ total
no_mems_left now total prior ss e h = let size : rings_from prior ss ≡ 0 = ap (rings_from prior) e in omega (arith, size, h)

pub no_nets_left : (now total prior : ℕ) (ss : List ℕ) → ss ≡ [] → now + (length ss + rings_from prior ss) ≡ total → now ≡ total
no_nets_left now total prior ss e h =
    let long = ap length e in
    let size : rings_from prior ss ≡ 0 = ap (rings_from prior) e in
    omega (arith, long, size, h)

-- the nets of the delays of the nodes that are left, one node further
pub nodes_nets_left :
    (now next total l : ℕ) (ls less : List ℕ) (s : List ℕ) (ss rest : List (List ℕ)) → ls ≡ l ∷ less → ss ≡ s ∷ rest
    → next ≡ now + l + length s + rings_from 0 s → now + (register_count ls + wait_count ss + ring_count ss) ≡ total
    → next + (register_count less + wait_count rest + ring_count rest) ≡ total
nodes_nets_left now next total l ls less s ss rest d e f h =
    let registers = ap register_count d in
    let long = ap wait_count e in
    let size = ap ring_count e in
    omega (arith, registers, long, size, f, h)

-- their memories
pub nodes_mems_left :
    (now next total : ℕ) (s : List ℕ) (ss rest : List (List ℕ)) → ss ≡ s ∷ rest → next ≡ now + rings_from 0 s → now + ring_count ss ≡ total
    → next + ring_count rest ≡ total
nodes_mems_left now next total s ss rest e f h = let size = ap ring_count e in omega (arith, size, f, h)

-- no nodes are left
pub no_nodes_nets :
    (now total : ℕ) (ls : List ℕ) (ss : List (List ℕ)) → ls ≡ [] → ss ≡ [] → now + (register_count ls + wait_count ss + ring_count ss) ≡ total
    → now ≡ total
no_nodes_nets now total ls ss d e h =
    let registers = ap register_count d in
    let long = ap wait_count e in
    let size = ap ring_count e in
    omega (arith, registers, long, size, h)

pub no_nodes_mems : (now total : ℕ) (ss : List (List ℕ)) → ss ≡ [] → now + ring_count ss ≡ total → now ≡ total
no_nodes_mems now total ss e h = let size = ap ring_count e in omega (arith, size, h)
