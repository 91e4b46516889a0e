-- The operands of a node, as they are read one by one.
use Rattle.std.proofs.Common.{arith, ◌≡◌, ◌∙◌, ◌<◌, ◌+◌, ℕ, zero, suc, nat_lt, Bool, true, false, List, [], ◌∷◌, ◌++◌, length, get_or, refl, sym, subst, ap}
use Rattle.std.specs.Prelude.{slice_get, Some}
use Rattle.std.specs.Option.{option_map}
use Rattle.std.proofs.lemmas.List.{get_or_default}
use Rattle.cycle_find.specs.Constraints.{Numbers}
use Rattle.stream_graph.specs.declared.node.Node.{Node}
use Rattle.stream_graph.specs.LookUps.{operands_at, operand_at}
use Rattle.stream_graph.proofs.Reading.{operands_read}
use Rattle.kernel_layout.specs.declared.reads.Read.{Read}
use Rattle.kernel_layout.specs.Reads.{IsRead, AreReadsBelow, AreReadsOf, no_read}
use Rattle.kernel_layout.specs.Layouts.{AreReads}

-- an item of a list to which one more was added
pub push_before : {X : Type 0} (xs : List X) (x d : X) (i : ℕ) → i < length xs → get_or (xs ++ x ∷ []) i d ≡ get_or xs i d
push_before [] x d i h = absurd (omega arith)
push_before (y ∷ xs) x d zero h = refl
push_before (y ∷ xs) x d (suc i) h = push_before xs x d i (omega (arith, h))

pub push_last : {X : Type 0} (xs : List X) (x d : X) (i : ℕ) → i ≡ length xs → get_or (xs ++ x ∷ []) i d ≡ x
push_last [] x d zero h = refl
push_last [] x d (suc i) h = absurd (omega (arith, h))
push_last (y ∷ xs) x d zero h = absurd (omega (arith, h))
push_last (y ∷ xs) x d (suc i) h = push_last xs x d i (omega (arith, h))

pub push_length : {X : Type 0} (xs : List X) (x : X) → length (xs ++ x ∷ []) ≡ length xs + 1
push_length [] x = refl
push_length (y ∷ xs) x = let e = push_length xs x in omega (arith, e)

-- what holds of each item, by its place, holds when one more was added of which it holds
pub each_more : {X : Type 0} (P : ℕ → X → Type 0) (xs : List X) (x d : X) (n : ℕ) → length xs ≡ n → ((i : ℕ) → i < n → P i (get_or xs i d)) → P n x
    → (i : ℕ) → i < n + 1 → P i (get_or (xs ++ x ∷ []) i d)
each_more P xs x d n size each last i h = by_last (nat_lt i n) refl
  where
    by_last : (b : Bool) → nat_lt i n ≡ b → P i (get_or (xs ++ x ∷ []) i d)
    by_last true q =
        let l : i < n = grind (arith, q) in
        subst (λ y. P i y) (sym (push_before xs x d i (omega (arith, size, l)))) (each i l)
    by_last false q =
        let e : i ≡ n = grind (arith, q, h) in
        subst (λ k. P k (get_or (xs ++ x ∷ []) k d)) (sym e) (subst (λ y. P n y) (sym (push_last xs x d n (sym size))) last)

pub one_read_more : (nodes : List Node) (s : Numbers) (reader n : ℕ) (reads : List Read) (read : Read) → AreReadsBelow nodes s reader n reads
    → IsRead nodes s reader (operand_at nodes reader n) read → AreReadsBelow nodes s reader (n + 1) (reads ++ read ∷ [])
one_read_more nodes s reader n reads read a h =
    let size = a.counted in
    let more = push_length reads read in
    record {
      counted = omega (arith, size, more);
      each = each_more (λ i r. IsRead nodes s reader (operand_at nodes reader i) r) reads read no_read n a.counted a.each h;
    }

pub one_node_more : (nodes : List Node) (s : Numbers) (n : ℕ) (all : List (List Read)) (reads : List Read) → AreReads nodes s n all
    → AreReadsOf nodes s n reads → AreReads nodes s (n + 1) (all ++ reads ∷ [])
one_node_more nodes s n all reads a h =
    let size = a.counted in
    let more = push_length all reads in
    record { counted = omega (arith, size, more); each = each_more (λ i rs. AreReadsOf nodes s i rs) all reads [] n a.counted a.each h }

-- an operand of a node and its place
pub item_is : (nodes : List Node) (id reader index item : ℕ) (operands : List ℕ) → id ≡ reader
    → option_map (λ (node : Node). node.operands) (slice_get nodes id) ≡ Some operands → index < length operands → item ≡ get_or operands index item
    → (index < length (operands_at nodes reader)) × (item ≡ operand_at nodes reader index)
item_is nodes id reader index item operands e r l is =
    let same = operands_read nodes id reader operands e r in
    let within : index < length (operands_at nodes reader) = subst (λ (xs : List ℕ). index < length xs) same l in
    (within, is ∙ ap (λ xs. get_or xs index item) same ∙ get_or_default (operands_at nodes reader) index item 0 within)
