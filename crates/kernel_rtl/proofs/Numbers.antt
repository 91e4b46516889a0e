-- The numbers of nodes of a kind, and lists by their items.
use Rattle.std.proofs.Common.{
  ◌≡◌,
  ℕ,
  zero,
  suc,
  ◌+◌,
  ◌<◌,
  ◌≤◌,
  Bool,
  true,
  false,
  cond,
  List,
  [],
  ◌∷◌,
  map,
  length,
  get_or,
  Some,
  refl,
  sym,
  ap,
  ◌∙◌,
  subst,
  arith,
}
use Rattle.std.specs.Prelude.{All, slice_get}
use Rattle.std.proofs.lemmas.Bool.{false≢true}
use Rattle.std.proofs.lemmas.List.Elements.{All-nil, All-cons}
use Rattle.stream_graph.specs.declared.node.Kind.{Kind}
use Rattle.stream_graph.specs.declared.node.Kind.TheVariants as K
use Rattle.stream_graph.specs.declared.node.Node.{Node}
use Rattle.stream_graph.specs.Kinds.{is_input, is_output, is_scalar}
use Rattle.stream_graph.specs.LookUps.{kind_at}
use Rattle.kernel_control.specs.Ports.{numbers_from, scalars_of, inputs_of, outputs_of}
use Rattle.kernel_control.specs.Refines.{greatest_time}

-- ---- lists

pub map_length : {A B : Type 0} (f : A → B) (xs : List A) → length (map f xs) ≡ length xs
map_length f [] = refl
map_length f (x ∷ xs) = ap suc (map_length f xs)

pub map_get : {A B : Type 0} (f : A → B) (xs : List A) (i : ℕ) (x : A) → slice_get xs i ≡ Some x → slice_get (map f xs) i ≡ Some (f x)
map_get f [] i x h = absurd (cc)
map_get f (y ∷ xs) zero x h = let e : y ≡ x = cc in ap (λ z. Some (f z)) e
map_get f (y ∷ xs) (suc i) x h = map_get f xs i x h

pub map_got : {A B : Type 0} (f : A → B) (xs : List A) (i : ℕ) (y : B) → slice_get (map f xs) i ≡ Some y → (x : A) × ((slice_get xs i ≡ Some x) × (f x ≡ y))
map_got f [] i y h = absurd (cc)
map_got f (x ∷ xs) zero y h = (x, (refl, (let e : f x ≡ y = cc in e)))
map_got f (x ∷ xs) (suc i) y h = map_got f xs i y h

pub all_mapped : {A B : Type 0} (f : A → B) (P : B → Type 0) (xs : List A) → All (λ x. P (f x)) xs → All P (map f xs)
all_mapped f P [] h = All-nil P
all_mapped f P (x ∷ xs) h = All-cons P (f x) (map f xs) (h 0 x (omega arith)) (all_mapped f P xs (λ i d lt. h (suc i) d (omega arith)))

pub all_unmapped : {A B : Type 0} (f : A → B) (P : B → Type 0) (xs : List A) → All P (map f xs) → All (λ x. P (f x)) xs
all_unmapped f P [] h = All-nil (λ x. P (f x))
all_unmapped f P (x ∷ xs) h = All-cons (λ x. P (f x)) x xs (h 0 (f x) (omega arith)) (all_unmapped f P xs (λ i d lt. h (suc i) d (omega arith)))

pub all_weaker : {A : Type 0} (P Q : A → Type 0) (xs : List A) → All P xs → ((x : A) → P x → Q x) → All Q xs
all_weaker P Q xs h f i d lt = f (get_or xs i d) (h i d lt)

pub all_both : {A : Type 0} (P Q : A → Type 0) (xs : List A) → All P xs → All Q xs → All (λ x. P x × Q x) xs
all_both P Q xs h g i d lt = (h i d lt, g i d lt)

-- the item at a place
pub item_at : {A : Type 0} (P : A → Type 0) (xs : List A) → All P xs → (i : ℕ) (x : A) → slice_get xs i ≡ Some x → P x
item_at P [] h i x e = absurd (cc)
item_at P (y ∷ xs) h zero x e = let q : y ≡ x = cc in subst P q (h 0 y (omega arith))
item_at P (y ∷ xs) h (suc i) x e = item_at P xs (λ j d lt. h (suc j) d (omega arith)) i x e

-- ---- numbers of a kind

pub record IsOfKind (is_kind : Kind → Bool) (k : ℕ) (xs : List Node) (n : ℕ) : Type 0 where
  pub at : ℕ
  pub sum : n ≡ k + at
  pub within : at < length xs
  pub kind : is_kind (kind_at xs at) ≡ true

one_later : (is_kind : Kind → Bool) (k : ℕ) (x : Node) (xs : List Node) (n : ℕ) → IsOfKind is_kind (k + 1) xs n → IsOfKind is_kind k (x ∷ xs) n
one_later is_kind k x xs n h = record {
  at = suc h.at;
  sum = let e = h.sum in omega (arith, e);
  within = let e = h.within in omega (arith, e);
  kind = h.kind;
}

pub all_of_kind : (is_kind : Kind → Bool) (k : ℕ) (xs : List Node) → All (IsOfKind is_kind k xs) (numbers_from is_kind k xs)
all_of_kind is_kind k [] = All-nil (IsOfKind is_kind k [])
all_of_kind is_kind k (x ∷ xs) = by_test (all_of_kind is_kind (k + 1) xs) (is_kind x.view.kind) refl
  where
    rest : List ℕ
    rest = numbers_from is_kind (k + 1) xs

    P : ℕ → Type 0
    P = IsOfKind is_kind k (x ∷ xs)

    later : All P rest → (b : Bool) → is_kind x.view.kind ≡ b → All P (cond b (k ∷ rest) rest)
    later h true e = All-cons P k rest (record { at = 0; sum = omega arith; within = omega arith; kind = e }) h
    later h false e = h

    by_test : All (IsOfKind is_kind (k + 1) xs) rest → (b : Bool) → is_kind x.view.kind ≡ b → All P (numbers_from is_kind k (x ∷ xs))
    by_test those b e =
        let all : All P rest = all_weaker (IsOfKind is_kind (k + 1) xs) P rest those (λ n h. one_later is_kind k x xs n h) in
        subst (λ c. All P (cond c (k ∷ rest) rest)) (sym e) (later all b e)

pub has_number : (is_kind : Kind → Bool) (k : ℕ) (xs : List Node) (i : ℕ) → i < length xs → is_kind (kind_at xs i) ≡ true
    → (j : ℕ) × (slice_get (numbers_from is_kind k xs) j ≡ Some (k + i))
has_number is_kind k [] i lt h = absurd (omega arith)
has_number is_kind k (x ∷ xs) zero lt h = (
  0,
  ap (λ b. slice_get (cond b (k ∷ numbers_from is_kind (k + 1) xs) (numbers_from is_kind (k + 1) xs)) 0) h
      ∙ ap Some (zero_sum k),
)
  where
    zero_sum : (n : ℕ) → n ≡ n + 0
    zero_sum n = omega arith
has_number is_kind k (x ∷ xs) (suc i) lt h = by_test (has_number is_kind (k + 1) xs i (omega arith) h) (is_kind x.view.kind) refl
  where
    rest : List ℕ
    rest = numbers_from is_kind (k + 1) xs

    next_sum : (n p : ℕ) → n + 1 + p ≡ n + suc p
    next_sum n p = omega arith

    by_test : (j : ℕ) × (slice_get rest j ≡ Some (k + 1 + i)) → (b : Bool) → is_kind x.view.kind ≡ b
        → (j : ℕ) × (slice_get (numbers_from is_kind k (x ∷ xs)) j ≡ Some (k + suc i))
    by_test q true e = (suc q.0, ap (λ b. slice_get (cond b (k ∷ rest) rest) (suc q.0)) e ∙ q.1 ∙ ap Some (next_sum k i))
    by_test q false e = (q.0, ap (λ b. slice_get (cond b (k ∷ rest) rest) q.0) e ∙ q.1 ∙ ap Some (next_sum k i))

pub is_the_input : (k : Kind) → is_input k ≡ true → k ≡ K.Input
is_the_input K.Input h = refl
is_the_input _ h = absurd (false≢true h)

pub is_the_output : (k : Kind) → is_output k ≡ true → k ≡ K.Output
is_the_output K.Output h = refl
is_the_output _ h = absurd (false≢true h)

pub is_the_scalar : (k : Kind) → is_scalar k ≡ true → k ≡ K.Scalar
is_the_scalar K.Scalar h = refl
is_the_scalar _ h = absurd (false≢true h)

-- the inputs are nodes that are inputs
pub record IsNodeOf (nodes : List Node) (of : Kind) (n : ℕ) : Type 0 where
  pub within : n < length nodes
  pub kind : kind_at nodes n ≡ of

are_of : (is_kind : Kind → Bool) (of : Kind) (nodes : List Node) → ((k : Kind) → is_kind k ≡ true → k ≡ of)
    → All (IsNodeOf nodes of) (numbers_from is_kind 0 nodes)
are_of is_kind of nodes known =
    all_weaker (IsOfKind is_kind 0 nodes) (IsNodeOf nodes of) (numbers_from is_kind 0 nodes) (all_of_kind is_kind 0 nodes)
    (λ n h.
    let same : n ≡ h.at = let e = h.sum in omega (arith, e) in
    subst (IsNodeOf nodes of) (sym same) (record { within = h.within; kind = known (kind_at nodes h.at) h.kind }))

pub inputs_are : (nodes : List Node) → All (IsNodeOf nodes K.Input) (inputs_of nodes)
inputs_are nodes = are_of is_input K.Input nodes is_the_input

pub outputs_are : (nodes : List Node) → All (IsNodeOf nodes K.Output) (outputs_of nodes)
outputs_are nodes = are_of is_output K.Output nodes is_the_output

pub scalars_are : (nodes : List Node) → All (IsNodeOf nodes K.Scalar) (scalars_of nodes)
scalars_are nodes = are_of is_scalar K.Scalar nodes is_the_scalar

pub greatest_small : (times : ℕ → ℕ) (b : ℕ) (ns : List ℕ) → All (λ n. times n ≤ b) ns → greatest_time times ns ≤ b
greatest_small times b [] h = omega arith
greatest_small times b (n ∷ ns) h =
    let here = h 0 n (omega arith) in
    let rest = greatest_small times b ns (λ i d lt. h (suc i) d (omega arith)) in
    omega (arith, here, rest)
