-- What holds of the edges of every kernel.
use Rattle.std.proofs.Common.{
  ◌≡◌,
  ℕ,
  zero,
  suc,
  ◌+◌,
  ◌*◌,
  ◌≤◌,
  ◌<◌,
  ◌^◌,
  Bool,
  true,
  false,
  List,
  [],
  ◌∷◌,
  ◌++◌,
  length,
  take,
  get_or,
  ap,
  sym,
  ◌∙◌,
  subst,
  arith,
  add-one,
  ⊎_elim,
  length-append,
}
use Rattle.std.specs.Prelude.{All, pos, if◌then◌else◌}
use Rattle.std.specs.List.{flat_map}
use Rattle.std.proofs.lemmas.Bool.{cases_Bool}
use Rattle.std.proofs.lemmas.List.{get_or_default, take_more, flat_map_more}
use Rattle.std.proofs.lemmas.List.Elements.{All-nil, All-cons, All-append}
use Rattle.stream_graph.specs.declared.node.Node.{Node}
use Rattle.offset_edges.specs.declared.edge.Edge.{Edge}
use Rattle.stream_graph.specs.LookUps.{kind_at, operands_at, operand_at}
use Rattle.offset_edges.specs.Edges.{
  source_of,
  edge_of,
  edges_into,
  edges_below,
  edges_of,
  edge_at,
  IsSmall,
  IsEdge,
}
use Rattle.stream_graph.specs.Kinds.{is_steady, is_offset}
use Rattle.stream_graph.proofs.NodeLemmas.{IsOrderly}
use Rattle.offset_edges.proofs.SourceLemmas.{source_known}

picked : {X : Type 0} (b : Bool) (x y : X) (P : X → Type 0) → P x → P y → P (if b then x else y)
picked true x y P p q = p
picked false x y P p q = q

pub all_flat : {X Y : Type 0} (P : Y → Type 0) (f : X → List Y) (xs : List X)
    → All (λ x. All P (f x)) xs → All P (flat_map f xs)
all_flat P f [] a = All-nil P
all_flat P f (x ∷ xs) a = All-append P (f x) (flat_map f xs) (a 0 x (omega arith)) (all_flat P f xs
    (λ k d h. a (suc k) d (omega arith)))

pub few_flat : {X Y : Type 0} (f : X → List Y) (xs : List X) → ((x : X) → length (f x) ≤ 1)
    → length (flat_map f xs) ≤ length xs
few_flat f [] h = omega arith
few_flat {X} {Y} f (x ∷ xs) h =
    let r = few_flat f xs h in
    let e = h x in
    let l = length-append (f x) (flat_map f xs) in
    omega arith

module _ (nodes : List Node) (o : IsOrderly nodes) (few : length nodes ≤ 4096) where
  edge_one : (reader operand : ℕ) → length (edge_of nodes reader operand) ≤ 1
  edge_one reader operand =
      picked (is_steady (kind_at nodes (source_of nodes operand).node)) []
      (record {
        from = (source_of nodes operand).node;
        to = reader;
        offset = (source_of nodes
            operand).offset;
      } ∷ [])
      (λ es. length es ≤ 1) (omega arith) (omega arith)

  edge_is : (reader operand : ℕ) → reader < length nodes
      → is_offset (kind_at nodes reader) ≡ false →
      operand < length nodes → All (IsEdge nodes) (edge_of nodes reader operand)
  edge_is reader operand h f l = ⊎_elim
      (λ (s : is_steady (kind_at nodes (source_of nodes operand).node) ≡ true).
      subst (λ b. All (IsEdge nodes) (if b then [] else edge ∷ [])) (sym s) (All-nil (IsEdge
      nodes)))
      (λ (s : is_steady (kind_at nodes (source_of nodes operand).node) ≡ false).
      let k = source_known nodes o operand l in
      let below = k.node in
      let size = k.offset in
      subst (λ b. All (IsEdge nodes) (if b then [] else edge ∷ [])) (sym s)
      (All-cons (IsEdge nodes) edge []
      (record {
        small = record { from = below; to = h; offset = omega arith };
        stream = s;
        source =
            k.stream;
        reader = f;
      })
      (All-nil (IsEdge nodes))))
      (cases_Bool (is_steady (kind_at nodes (source_of nodes operand).node)))
    where
      edge : Edge
      edge = record {
        from = (source_of nodes operand).node;
        to = reader;
        offset = (source_of nodes
            operand).offset;
      }

  into_is : (n : ℕ) → n < length nodes → All (IsEdge nodes) (edges_into nodes n)
  into_is n h = ⊎_elim
      (λ (e : is_offset (kind_at nodes n) ≡ true).
      subst (λ b. All (IsEdge nodes) (if b then [] else flat_map (edge_of nodes n) (operands_at
      nodes n))) (sym e) (All-nil (IsEdge nodes)))
      (λ (e : is_offset (kind_at nodes n) ≡ false).
      subst (λ b. All (IsEdge nodes) (if b then [] else flat_map (edge_of nodes n) (operands_at
      nodes n))) (sym e)
      (all_flat (IsEdge nodes) (edge_of nodes n) (operands_at nodes n)
      (λ k d l. subst (λ m. All (IsEdge nodes) (edge_of nodes n m)) (get_or_default (operands_at
      nodes n) k 0 d l)
      (edge_is n (operand_at nodes n k) h e (o.operands n k h l)))))
      (cases_Bool (is_offset (kind_at nodes n)))

  into_few : (n : ℕ) → n < length nodes → length (edges_into nodes n) ≤ 65
  into_few n h =
      let f = few_flat (edge_of nodes n) (operands_at nodes n) (edge_one n) in
      let s = o.few n h in
      picked (is_offset (kind_at nodes n)) [] (flat_map (edge_of nodes n) (operands_at nodes n)) (λ
      es. length es ≤ 65)
      (omega arith) (omega arith)

  below_is : (n : ℕ) → n ≤ length nodes → All (IsEdge nodes) (edges_below nodes n)
  below_is zero h = All-nil (IsEdge nodes)
  below_is (suc n) h = All-append (IsEdge nodes) (edges_below nodes n) (edges_into nodes n)
      (below_is n (omega arith)) (into_is n (omega arith))

  below_few : (n : ℕ) → n ≤ length nodes → length (edges_below nodes n) ≤ 65 * n
  below_few zero h = omega arith
  below_few (suc n) h =
      let r = below_few n (omega arith) in
      let i = into_few n (omega arith) in
      let l = length-append (edges_below nodes n) (edges_into nodes n) in
      omega arith

  pub edges_are : All (IsEdge nodes) (edges_of nodes)
  edges_are = below_is (length nodes) (omega arith)

  pub edges_few : length (edges_of nodes) ≤ 2 ^ 19
  edges_few = let r = below_few (length nodes) (omega arith) in omega arith

  pub edges_small : (j : ℕ) → j < length (edges_of nodes)
      → IsSmall (length nodes) (edge_at (edges_of nodes) j)
  edges_small j h = (edges_are j (record { from = 0; to = 0; offset = pos 0 }) h).small

-- one more node's edges
pub below_more : (nodes : List Node) (n : ℕ) → edges_below nodes (n + 1) ≡ edges_below nodes n ++
    edges_into nodes n
below_more nodes n = rw add-one

-- one more operand, over which an edge was added or none
pub one_more : {X Y : Type 0} (f : X → List Y) (new old first added : List Y) (xs : List X) (i : ℕ)
    (x d : X) →
    old ≡ first ++ flat_map f (take i xs) → i < length xs → x ≡ get_or xs i d → added ≡ f x
    → new ≡ old ++ added →
    new ≡ first ++ flat_map f (take (i + 1) xs)
one_more f new old first added xs i x d r h e a n =
    n ∙ ap (λ ys. ys ++ added) r ∙ ap (λ ys. (first ++ flat_map f (take i xs)) ++ ys) (a ∙ ap f e)
    ∙ flat_map_more f first (take i xs) (get_or xs i d)
    ∙ ap (λ ys. first ++ flat_map f ys) (sym (take_more xs i d h))
