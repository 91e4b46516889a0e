-- The numbers of the nodes of a kind, node by node.
use Rattle.std.proofs.Common.{◌≡◌, ℕ, ◌+◌, ◌<◌, Bool, true, false, List, [], ◌∷◌, ◌++◌, drop, length, get_or, refl, sym, ap, ◌∙◌, add-one, append_assoc}
use Rattle.std.specs.Prelude.{if◌then◌else◌}
use Rattle.std.proofs.Math.Seq.{drop-cons}
use Rattle.stream_graph.specs.declared.node.Kind.{Kind}
use Rattle.stream_graph.specs.declared.node.Node.{Node}
use Rattle.stream_graph.specs.LookUps.{kind_at, no_node}
use Rattle.stream_graph.specs.KernelPorts.{numbers_from}

pub drop_front : {A : Type 0} (xs : List A) (i : ℕ) (d : A) → i < length xs → drop i xs ≡ get_or xs i d ∷ drop (i + 1) xs
drop_front xs i d h = rw (add-one, drop-cons xs i d) refl

next_number : (is_kind : Kind → Bool) (k : ℕ) (nodes : List Node) → k < length nodes
    → numbers_from is_kind k (drop k nodes)
    ≡ (if is_kind (kind_at nodes k) then k ∷ numbers_from is_kind (k + 1) (drop (k + 1) nodes) else numbers_from is_kind (k + 1) (drop (k + 1) nodes))
next_number is_kind k nodes lt = ap (numbers_from is_kind k) (drop_front nodes k no_node lt)

pub number_taken : (is_kind : Kind → Bool) (k : ℕ) (nodes : List Node) (made all : List ℕ) → k < length nodes → is_kind (kind_at nodes k) ≡ true
    → made ++ numbers_from is_kind k (drop k nodes) ≡ all → (made ++ k ∷ []) ++ numbers_from is_kind (k + 1) (drop (k + 1) nodes) ≡ all
number_taken is_kind k nodes made all lt e h =
    append_assoc made (k ∷ []) (numbers_from is_kind (k + 1) (drop (k + 1) nodes))
    ∙ ap (λ b. made ++ (if b then k ∷ numbers_from is_kind (k + 1) (drop (k + 1) nodes) else numbers_from is_kind (k + 1) (drop (k + 1) nodes))) (sym e)
    ∙ ap (λ l. made ++ l) (sym (next_number is_kind k nodes lt))
    ∙ h

pub number_passed : (is_kind : Kind → Bool) (k : ℕ) (nodes : List Node) (made all : List ℕ) → k < length nodes → is_kind (kind_at nodes k) ≡ false
    → made ++ numbers_from is_kind k (drop k nodes) ≡ all → made ++ numbers_from is_kind (k + 1) (drop (k + 1) nodes) ≡ all
number_passed is_kind k nodes made all lt e h =
    ap (λ b. made ++ (if b then k ∷ numbers_from is_kind (k + 1) (drop (k + 1) nodes) else numbers_from is_kind (k + 1) (drop (k + 1) nodes))) (sym e)
    ∙ ap (λ l. made ++ l) (sym (next_number is_kind k nodes lt))
    ∙ h
