-- Faults of nodes are those of the calls that made them.
use Rattle.std.proofs.Common.{◌≡◌, ℕ, zero, suc, ◌+◌, ◌≤◌, ◌<◌, ◌&&◌, Bool, true, false, List, [], ◌∷◌, length, refl, ap, sym, ◌∙◌, arith, subst, inl, inr, ◌⊎◌, get_or}
use Rattle.std.specs.Prelude.{Some, ◌==◌, nat_le, slice_get}
use Rattle.std.proofs.lemmas.Option.{slice_get_within}
use Rattle.std.proofs.lemmas.Bool.Decides.{nat_tests}
use Rattle.fix_arith.specs.declared.types.StreamType.{StreamType}
use Rattle.kernel_calls.specs.declared.call.Call.{Call}
use Rattle.kernel_calls.specs.declared.call.Call.TheVariants as C
use Rattle.kernel_calls.specs.Calls.{count_of, nodes_of, Makes}
use Rattle.stream_graph.specs.declared.fault.Fault.{Fault}
use Rattle.stream_graph.specs.declared.fault.Fault.TheVariants.{EmptyChain, ConnectedTwice, Unconnected}
use Rattle.stream_graph.specs.declared.node.Kind.{Kind}
use Rattle.stream_graph.specs.declared.node.Node.{Node}
use Rattle.stream_graph.specs.Nodes.{IsKind, IsNode, AreNodes}
use Rattle.stream_graph.specs.Faults.{Breaks, NoneBreaks, IsFirst, has_fault, HasAt, NoneHas}
use Rattle.stream_graph.specs.Kinds.{is_feed, is_chain}
use Rattle.stream_graph.proofs.Facts.{makes_newest, makes_older}
use Rattle.stream_graph.proofs.Adding.{got_at}

-- each number below the count is that of a node

pub makes_some : (so_far : List Call) (n : ℕ) → n < count_of so_far → (call : Call) × Makes so_far n call
makes_some [] n h = absurd (omega arith)
makes_some (newest ∷ older) n h = by_place (below_or n (count_of older)) (λ l. makes_some older n l)
  where
    below_or : (a b : ℕ) → (a < b) ⊎ (b ≤ a)
    below_or a zero = inr (omega arith)
    below_or zero (suc b) = inl (omega arith)
    below_or (suc a) (suc b) = elim (below_or a b) [ inl h ↦ inl (omega arith) | inr h ↦ inr (omega arith) ]

    one : (call : Call) → 0 < nodes_of call → nodes_of call ≡ 1
    one (C.Connect feed value) h = absurd (omega arith)
    one _ h = refl

    few : (call : Call) → nodes_of call ≤ 1
    few (C.Feed t) = omega arith
    few _ = omega arith

    by_place : (n < count_of older) ⊎ (count_of older ≤ n) →
        (n < count_of older → (call : Call) × Makes older n call) → (call : Call) × Makes (newest ∷ older) n call
    by_place (inl l) there = let m = there l in (m.0, makes_older newest older n m.0 m.1)
    by_place (inr l) there =
        let f = few newest in
        let e : count_of older ≡ n = omega arith in (
          newest,
          subst (λ k. Makes (newest ∷ older) k newest) e
              (makes_newest newest older (one newest (omega arith))),
        )

-- the kind of a chain and of a feed

chain_call : (so_far : List Call) (n : ℕ) (call : Call) (kind : Kind) → IsKind so_far n call kind →
    is_chain kind ≡ true → call ≡ C.Chain
chain_call so_far n (C.Constant bits t) kind is e = let f = ap is_chain is.1 in absurd (cc)
chain_call so_far n (C.Connect feed value) kind is e = absurd is
chain_call so_far n C.Chain kind is e = refl
chain_call so_far n _ kind is e = let f = ap is_chain is in absurd (cc)

feed_call : (so_far : List Call) (n : ℕ) (call : Call) (kind : Kind) → IsKind so_far n call kind →
    is_feed kind ≡ true → (t : StreamType) × (call ≡ C.Feed t)
feed_call so_far n (C.Constant bits t) kind is e = let f = ap is_feed is.1 in absurd (cc)
feed_call so_far n (C.Feed t) kind is e = (t, refl)
feed_call so_far n (C.Connect feed value) kind is e = absurd is
feed_call so_far n _ kind is e = let f = ap is_feed is in absurd (cc)

left_of : (a b : Bool) → (a && b) ≡ true → a ≡ true
left_of true b e = refl
left_of false b e = e

right_of : (a b : Bool) → (a && b) ≡ true → b ≡ true
right_of true b e = e
right_of false b e = absurd (cc)

both : (a b : Bool) → a ≡ true → b ≡ true → (a && b) ≡ true
both true b p q = q
both false b p q = absurd (cc)

is_none : (n : ℕ) → (n == 0) ≡ true → n ≡ 0
is_none n e = grind (arith, nat_tests)

none_of : {A : Type 0} (xs : List A) → (length xs == 0) ≡ true → xs ≡ []
none_of [] e = refl
none_of (x ∷ xs) e = let z : length (x ∷ xs) ≡ 0 = is_none (length (x ∷ xs)) e in absurd (omega arith)

two_of : (n : ℕ) → nat_le 2 n ≡ true → 2 ≤ n
two_of n e = grind (arith, nat_tests)

is_two : (n : ℕ) → 2 ≤ n → nat_le 2 n ≡ true
is_two n h = grind (arith, nat_tests)

-- the node at a number, and the call that made it
record At (so_far : List Call) (n : ℕ) (node : Node) : Type 0 where
  pub call : Call
  pub makes : Makes so_far n call
  pub is : IsNode so_far n call node

at_number : (so_far : List Call) (nodes : List Node) (n : ℕ) (node : Node) → AreNodes so_far nodes →
    slice_get nodes n ≡ Some node → At so_far n node
at_number so_far nodes n node a e =
    let within : n < length nodes = slice_get_within nodes n node e in
    let count = a.count in
    let m = makes_some so_far n (omega arith) in
    let found = a.each n m.0 m.1 in
    let f = found.1 in
    let same : found.0 ≡ node = cc in
    record { call = m.0; makes = m.1; is = subst (λ x. IsNode so_far n m.0 x) same found.2 }

-- a node shows a fault where its number breaks the rule

pub broken : (fault : Fault) (so_far : List Call) (nodes : List Node) (n : ℕ) → AreNodes so_far nodes →
    HasAt fault nodes n → Breaks fault so_far n
broken EmptyChain so_far nodes n a h =
    let at = at_number so_far nodes n h.0 a h.1 in
    let is_it : at.call ≡ C.Chain = chain_call so_far n at.call h.0.view.kind at.is.kind
    (left_of (is_chain h.0.view.kind) _ h.2) in
    let node : IsNode so_far n C.Chain h.0 = subst (λ c. IsNode so_far n c h.0) is_it at.is in (
      subst (λ c. Makes so_far n c) is_it at.makes,
      sym node.digits ∙ none_of h.0.digits
          (right_of (is_chain h.0.view.kind) _ h.2),
    )
broken ConnectedTwice so_far nodes n a h =
    let at = at_number so_far nodes n h.0 a h.1 in
    let is_it = feed_call so_far n at.call h.0.view.kind at.is.kind (left_of (is_feed h.0.view.kind) _ h.2) in
    let node : IsNode so_far n (C.Feed is_it.0) h.0 = subst (λ c. IsNode so_far n c h.0) is_it.1 at.is in (
      is_it.0,
      subst (λ c. Makes so_far n c) is_it.1 at.makes,
      subst (λ l. 2 ≤ length l) node.operands
          (two_of (length h.0.operands) (right_of (is_feed h.0.view.kind) _ h.2)),
    )
broken Unconnected so_far nodes n a h =
    let at = at_number so_far nodes n h.0 a h.1 in
    let is_it = feed_call so_far n at.call h.0.view.kind at.is.kind (left_of (is_feed h.0.view.kind) _ h.2) in
    let node : IsNode so_far n (C.Feed is_it.0) h.0 = subst (λ c. IsNode so_far n c h.0) is_it.1 at.is in (
      is_it.0,
      subst (λ c. Makes so_far n c) is_it.1 at.makes,
      sym node.operands ∙ none_of h.0.operands
          (right_of (is_feed h.0.view.kind) _ h.2),
    )

pub shown : (fault : Fault) (so_far : List Call) (nodes : List Node) (n : ℕ) → AreNodes so_far nodes →
    Breaks fault so_far n → HasAt fault nodes n
shown EmptyChain so_far nodes n a b =
    let f = a.each n C.Chain b.0 in
    (f.0, f.1, both (is_chain f.0.view.kind) _ (ap is_chain f.2.kind) (ap (λ l. length l == 0) (f.2.digits ∙ b.1)))
shown ConnectedTwice so_far nodes n a b =
    let f = a.each n (C.Feed b.0) b.1 in (
      f.0,
      f.1,
      both (is_feed f.0.view.kind) _ (ap is_feed f.2.kind)
          (is_two (length f.0.operands) (subst (λ l. 2 ≤ length l) (sym f.2.operands) b.2)),
    )
shown Unconnected so_far nodes n a b =
    let f = a.each n (C.Feed b.0) b.1 in
    (f.0, f.1, both (is_feed f.0.view.kind) _ (ap is_feed f.2.kind) (ap (λ l. length l == 0) (f.2.operands ∙ b.2)))

pub none_broken : (fault : Fault) (so_far : List Call) (nodes : List Node) → AreNodes so_far nodes →
    NoneHas fault nodes → NoneBreaks fault so_far
none_broken fault so_far nodes a h = λ n b. h n (shown fault so_far nodes n a b)

pub first_broken : (fault : Fault) (so_far : List Call) (nodes : List Node) (n : ℕ) → AreNodes so_far nodes →
    IsFirst (HasAt fault nodes) n → IsFirst (Breaks fault so_far) n
first_broken fault so_far nodes n a f = record {
  holds = broken fault so_far nodes n a f.holds;
  earlier = λ k l b.
      f.earlier k l (shown fault so_far nodes k a b);
}

-- a search for the first node with a fault

pub found : (fault : Fault) (nodes : List Node) (i k : ℕ) (node : Node) (b : Bool) → k ≡ i → i < length nodes →
    node ≡ get_or nodes i node → b ≡ has_fault fault node → b ≡ true → ((m : ℕ) → m < i → HasAt fault nodes m → ⊥) →
    IsFirst (HasAt fault nodes) k
found fault nodes i k node b e h at has t earlier =
    subst (λ m. IsFirst (HasAt fault nodes) m) (sym e)
    (record { holds = (node, got_at nodes i node h at, sym has ∙ t); earlier = earlier })

same_number : (m i : ℕ) → m < i + 1 → (m < i) ⊎ (m ≡ i)
same_number m zero h = inr (omega arith)
same_number zero (suc i) h = inl (omega arith)
same_number (suc m) (suc i) h = elim (same_number m i (omega arith))
    [ inl l ↦ inl (omega arith) | inr e ↦ inr (omega arith) ]

pub not_here : (fault : Fault) (nodes : List Node) (i : ℕ) (node : Node) (b : Bool) → i < length nodes →
    node ≡ get_or nodes i node → b ≡ has_fault fault node → b ≡ false →
    ((m : ℕ) → m < i → HasAt fault nodes m → ⊥) →
    (m : ℕ) → m < i + 1 → HasAt fault nodes m → ⊥
not_here fault nodes i node b h at has f earlier m l here = by_place (same_number m i l)
  where
    by_place : (m < i) ⊎ (m ≡ i) → ⊥
    by_place (inl lt) = earlier m lt here
    by_place (inr e) =
        let there = got_at nodes i node h at in
        let mine : slice_get nodes i ≡ Some here.0 = subst (λ k. slice_get nodes k ≡ Some here.0) e here.1 in
        let same : here.0 ≡ node = cc in
        let yes : has_fault fault node ≡ true = subst (λ x. has_fault fault x ≡ true) same here.2 in
        absurd (cc)

pub none_at_all : (fault : Fault) (nodes : List Node) (i : ℕ) → length nodes ≤ i →
    ((m : ℕ) → m < i → HasAt fault nodes m → ⊥) → NoneHas fault nodes
none_at_all fault nodes i h earlier = λ n here. let l = slice_get_within nodes n here.0 here.1 in earlier n
    (omega arith) here
