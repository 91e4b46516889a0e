-- By how many wires the states of a kernel step: each counter of a chain came with a part.
use Rattle.std.proofs.Common.{◌≡◌, ◌+◌, ◌-◌, ◌*◌, ◌≤◌, ◌∷◌, ◌++◌}
use Rattle.std.proofs.Common.{ℕ, zero, suc, Bool, true, false, cond, eqb, ltb, List, [], length, get_or, Some, refl, ap, arith, inl, inr, length-append}
use Rattle.std.specs.Prelude.{sum_by, slice_get}
use Rattle.std.proofs.lemmas.List.Sums.{sum_by-cons, sum_by-le}
use Rattle.counter_chains.specs.declared.digits.CounterDigit.{CounterDigit}
use Rattle.kernel_calls.specs.declared.call.Call.{Call}
use Rattle.kernel_calls.specs.declared.call.Call.TheVariants as C
use Rattle.kernel_calls.specs.Calls.{count_of, nodes_of, Makes}
use Rattle.stream_graph.specs.declared.node.Kind.{Kind}
use Rattle.stream_graph.specs.declared.node.Node.{Node}
use Rattle.stream_graph.specs.Nodes.{digits_to, IsKind, digits_by, AreNodes}
use Rattle.stream_graph.specs.LookUps.{no_node}
use Rattle.stream_graph.proofs.Facts.{makes_older}
use Rattle.stream_graph.proofs.CallLemmas.{makes_next}
use Rattle.kernel_states.specs.States.{has_state, state_count, step_nets}

-- ---- sums over the numbers of nodes

sum_below : (ℕ → ℕ) → ℕ → ℕ
sum_below f zero = 0
sum_below f (suc n) = sum_below f n + f n

from_first : (f : ℕ → ℕ) (n : ℕ) → sum_below f (suc n) ≡ f 0 + sum_below (λ k. f (suc k)) n
unfolding sum_below
from_first f zero = omega arith
from_first f (suc n) = let e = from_first f n in omega (arith, e)

sum_is : {X : Type 0} (f : X → ℕ) (xs : List X) (d : X) → sum_by f xs ≡ sum_below (λ n. f (get_or xs n d)) (length xs)
unfolding sum_below
sum_is f [] d = refl
sum_is f (x ∷ xs) d =
    let e = sum_by-cons f x xs in
    let g = from_first (λ n. f (get_or (x ∷ xs) n d)) (length xs) in
    let h = sum_is f xs d in
    omega (arith, e, g, h)

sum_parted : (f g h : ℕ → ℕ) → ((n : ℕ) → f n ≤ 10 * g n + h n) → (n : ℕ) → sum_below f n ≤ 10 * sum_below g n + sum_below h n
unfolding sum_below
sum_parted f g h each zero = omega arith
sum_parted f g h each (suc n) = let e = sum_parted f g h each n in let q = each n in omega (arith, e, q)

no_sum : (n : ℕ) → sum_below (λ k. 0) n ≡ 0
unfolding sum_below
no_sum zero = refl
no_sum (suc n) = let e = no_sum n in omega (arith, e)

-- one more at one number
one_more : (f g : ℕ → ℕ) (at : ℕ) → ((n : ℕ) → g n ≤ f n + cond (eqb at n) 1 0) → (n : ℕ) → sum_below g n ≤ sum_below f n + cond (ltb at n) 1 0
unfolding sum_below
one_more f g at each zero = omega arith
one_more f g at each (suc n) =
    let e = one_more f g at each n in
    let q = each n in
    let r = both at n in
    omega (arith, e, q, r)
  where
    both : (at n : ℕ) → cond (ltb at n) 1 0 + cond (eqb at n) 1 0 ≤ cond (ltb at (suc n)) 1 0
    both at n = grind arith

-- ---- what calls cost

-- the wires of a call's node, without those of the counters of a chain
cost : Call → ℕ
cost (C.Hold value store t) = 8
cost (C.Counter d) = 18
cost C.Chain = 8
cost _ = 0

all_cost : List Call → ℕ
all_cost [] = 0
all_cost (call ∷ older) = all_cost older + cost call

-- how many counters the calls give to chains
parts_in : List Call → ℕ
parts_in [] = 0
parts_in (C.ChainDigit chain d ∷ older) = parts_in older + 1
parts_in (call ∷ older) = parts_in older

costs_few : (so_far : List Call) → 10 * parts_in so_far + all_cost so_far ≤ 18 * count_of so_far
unfolding cost all_cost parts_in
costs_few [] = omega arith
costs_few (C.ChainDigit chain d ∷ older) = let e = costs_few older in omega (arith, e)
costs_few (call ∷ older) = let e = costs_few older in omega (arith, e)

digits_sum : (so_far : List Call) (n : ℕ) → sum_below (λ k. length (digits_to so_far k)) n ≤ parts_in so_far
unfolding parts_in
digits_sum [] n = let e = no_sum n in omega (arith, e)
digits_sum (C.ChainDigit chain d ∷ older) n =
    let e = digits_sum older n in
    let q = one_more (λ k. length (digits_to older k)) (λ k. length (digits_to (C.ChainDigit chain d ∷ older) k)) chain
    (λ k. longer (digits_to older k) (eqb chain k)) n in
    let r = at_most (ltb chain n) in
    omega (arith, e, q, r)
  where
    longer : (ds : List CounterDigit) (b : Bool) → length (ds ++ cond b (d ∷ []) []) ≤ length ds + cond b 1 0
    longer ds true = omega (arith, length-append ds (d ∷ []))
    longer ds false = omega (arith, length-append {A = CounterDigit} ds [])

    at_most : (b : Bool) → cond b 1 0 ≤ 1
    at_most true = omega arith
    at_most false = omega arith
digits_sum (call ∷ older) n = digits_sum older n

calls_sum : (so_far : List Call) (f : ℕ → ℕ) → ((n : ℕ) (call : Call) → Makes so_far n call → f n ≤ cost call)
    → sum_below f (count_of so_far) ≤ all_cost so_far
unfolding sum_below all_cost
calls_sum [] f each = omega arith
calls_sum (call ∷ older) f each = elim (makes_next call older) [
  | inl p ↦ (let e = calls_sum older f (λ n c h. each n c (makes_older call older n c h)) in
      let q = each (count_of older) call p.0 in
      let s : count_of older + nodes_of call ≡ suc (count_of older) = let z = p.1 in omega (arith, z) in
      let r = ap (sum_below f) s in
      omega (arith, e, q, r))
  | inr z ↦ (let e = calls_sum older f (λ n c h. each n c (makes_older call older n c h)) in
      let s : count_of older + nodes_of call ≡ count_of older = omega (arith, z) in
      let r = ap (sum_below f) s in
      omega (arith, e, r))
]

cost_call : (so_far : List Call) (n : ℕ) (call : Call) (kind : Kind) (ds : List CounterDigit) → IsKind so_far n call kind
    → ds ≡ digits_by so_far n call → cond (has_state kind) (10 * length ds + 8) 0 ≤ 10 * length (digits_to so_far n) + cost call
unfolding cost
cost_call so_far n (C.Constant bits t) kind ds i e =
    let none = ap (λ k. cond (has_state k) (10 * length ds + 8) 0) i.1 in
    omega (arith, none)
cost_call so_far n (C.Connect feed value) kind ds i e = absurd i
cost_call so_far n call kind ds i e =
    let k = ap (λ k. cond (has_state k) (10 * length ds + 8) 0) i in
    let d = ap (λ (xs : List CounterDigit). length xs) e in
    omega (arith, k, d)

-- ---- the nodes of a kernel

pub got : {X : Type 0} (xs : List X) (n : ℕ) (x d : X) → slice_get xs n ≡ Some x → x ≡ get_or xs n d
got [] n x d e = absurd (cc)
got (y ∷ ys) zero x d e = cc
got (y ∷ ys) (suc n) x d e = got ys n x d e

-- the wires of a node
wires : Node → ℕ
wires node = cond (has_state node.view.kind) (10 * length node.digits + 8) 0

pub few_nets : (so_far : List Call) (nodes : List Node) → AreNodes so_far nodes → step_nets nodes ≤ 18 * length nodes
unfolding wires
few_nets so_far nodes a =
    let f : ℕ → ℕ = λ n. wires (get_or nodes n no_node) in
    let g : ℕ → ℕ = λ n. length (digits_to so_far n) in
    let h : ℕ → ℕ = λ n. f n - 10 * g n in
    let all = sum_is wires nodes no_node in
    let parted = sum_parted f g h (λ n. omega arith) (length nodes) in
    let digits = digits_sum so_far (length nodes) in
    let calls = calls_sum so_far h (λ n call m.
    let p = a.each n call m in
    let q = cost_call so_far n call p.0.view.kind p.0.digits p.2.kind p.2.digits in
    let s : wires p.0 ≡ f n = ap wires (got nodes n p.0 no_node p.1) in
    omega (arith, q, s)) in
    let count = a.count in
    let same = ap (sum_below h) count in
    let few = costs_few so_far in
    omega (arith, all, parted, digits, calls, count, same, few)

pub few_states : (nodes : List Node) → state_count nodes ≤ length nodes
few_states nodes =
    let most = sum_by-le (λ (node : Node). cond (has_state node.view.kind) 1 0) 1 nodes (λ k d lt. one (has_state (get_or nodes k d).view.kind)) in
    omega (arith, most)
  where
    one : (b : Bool) → cond b 1 0 ≤ 1
    one true = omega arith
    one false = omega arith
