-- A word for each node of kernels, where those of the scalars are given one after another.
use Rattle.std.proofs.Common.{
  ◌≡◌,
  ◌∙◌,
  ◌≤◌,
  ◌<◌,
  ◌+◌,
  ◌-◌,
  ℕ,
  zero,
  suc,
  Bool,
  true,
  false,
  cond,
  List,
  [],
  ◌∷◌,
  ◌++◌,
  length,
  map,
  take,
  drop,
  get_or,
  Some,
  arith,
  refl,
  ap,
  ap₂,
  sym,
  subst,
  append-nil,
  append_assoc,
  length-append,
  length-drop,
}
use Rattle.std.specs.Prelude.{slice_get, slice_index}
use Rattle.std.specs.List.{flat_map}
use Rattle.std.specs.Option.{option_map}
use Rattle.std.proofs.lemmas.Grind.{flat_map-append, take_at_read}
use Rattle.std.proofs.lemmas.List.{
  get_or_append_left,
  get_or_push,
  get_or-drop,
  length-map,
  length-take-le,
  map-append,
}
use Rattle.std.proofs.lemmas.List.Folds.{length-flat_map-take}
use Rattle.std.proofs.Math.Seq.{take-add}
use Rattle.kernel_control.specs.Ports.{numbers_from, scalars_of}
use Rattle.stream_graph.specs.LookUps.{kind_at, no_node, node_at}
use Rattle.project_rtl.specs.Shapes.{scalar_shape, scalar_shapes}
use Rattle.stream_graph.specs.declared.kernel.Kernel.{Kernel}
use Rattle.stream_graph.specs.declared.node.Kind.{Kind}
use Rattle.stream_graph.specs.declared.node.Kind.TheVariants as K
use Rattle.stream_graph.specs.declared.node.Node.{Node}
use Rattle.stream_graph.specs.declared.node.NodeView.{NodeView}
use Rattle.stream_graph.specs.Kinds.{is_scalar}
use Rattle.maxjc_core.specs.ExpectStops.{AreNodeLists, AreNodeWords}

-- ---- what the code reads of a node

view_read : (nodes : List Node) (n : ℕ) (view : NodeView)
    → option_map (λ (node : Node). node.view) (slice_get nodes n) ≡ Some view
    → (node_at nodes n).view ≡ view
view_read [] n view e = absurd (cc)
view_read (node ∷ nodes) zero view e = cc
view_read (node ∷ nodes) (suc n) view e = view_read nodes n view e

pub kind_read : (nodes : List Node) (id n : ℕ) (view : NodeView) → id ≡ n
    → option_map (λ (node : Node). node.view) (slice_get nodes id) ≡ Some view
    → kind_at nodes n ≡ view.kind
kind_read nodes id n view same e =
    ap (λ (v : NodeView). v.kind)
    (view_read nodes n view
    (subst (λ i. option_map (λ (node : Node). node.view) (slice_get nodes i) ≡ Some view) same e))

pub no-scalar : (kind : Kind) → (kind ≡ K.Scalar → ⊥) → is_scalar kind ≡ false
no-scalar K.Scalar other = absurd (other refl)
no-scalar _ other = refl

-- ---- the scalars among the first nodes

-- those of one node more
numbers-more : (n : ℕ) (nodes : List Node) (node : Node)
    → numbers_from is_scalar n (nodes ++ node ∷ [])
    ≡ numbers_from is_scalar n nodes ++ cond (is_scalar node.view.kind) ((n + length nodes) ∷ []) []
numbers-more n [] node =
    let e : n ≡ n + 0 = omega arith in
    ap (λ j. cond (is_scalar node.view.kind) (j ∷ []) []) e
numbers-more n (x ∷ xs) node =
    let e : n + 1 + length xs ≡ n + suc (length xs) = omega arith in
    ap (λ (l : List ℕ). cond (is_scalar x.view.kind) (n ∷ l) l)
    (numbers-more (n + 1) xs node ∙ ap (λ (j : ℕ). rest ++ last j) e)
    ∙ by (is_scalar x.view.kind)
  where
    rest : List ℕ
    rest = numbers_from is_scalar (n + 1) xs

    last : ℕ → List ℕ
    last j = cond (is_scalar node.view.kind) (j ∷ []) []

    end : List ℕ
    end = last (n + suc (length xs))

    by : (b : Bool) → cond b (n ∷ (rest ++ end)) (rest ++ end) ≡ cond b (n ∷ rest) rest ++ end
    by true = refl
    by false = refl

next-scalars : (nodes : List Node) (n : ℕ) → n < length nodes
    → scalars_of (take (n + 1) nodes)
    ≡ scalars_of (take n nodes) ++ cond (is_scalar (kind_at nodes n)) (n ∷ []) []
next-scalars nodes n lt =
    let size = length-take-le n nodes (omega (arith, lt)) in
    let here : 0 + length (take n nodes) ≡ n = omega (arith, size) in
    ap scalars_of (take_at_read nodes n no_node lt).1
    ∙ numbers-more 0 (take n nodes) (node_at nodes n)
    ∙ ap (λ (j : ℕ). scalars_of (take n nodes) ++ last j) here
  where
    last : ℕ → List ℕ
    last j = cond (is_scalar (kind_at nodes n)) (j ∷ []) []

-- they are no more than those of all nodes
few : (n : ℕ) (nodes : List Node) (i : ℕ)
    → length (numbers_from is_scalar n (take i nodes)) ≤ length (numbers_from is_scalar n nodes)
few n [] zero = omega arith
few n [] (suc i) = omega arith
few n (x ∷ xs) zero = omega arith
few n (x ∷ xs) (suc i) = by (few (n + 1) xs i) (is_scalar x.view.kind)
  where
    some : List ℕ
    some = numbers_from is_scalar (n + 1) (take i xs)

    all : List ℕ
    all = numbers_from is_scalar (n + 1) xs

    by : length some ≤ length all
        → (b : Bool) → length (cond b (n ∷ some) some) ≤ length (cond b (n ∷ all) all)
    by rest true = omega (arith, rest)
    by rest false = rest

-- one more is among them where this node is a scalar
pub counted : (nodes : List Node) (n : ℕ) → n < length nodes → is_scalar (kind_at nodes n) ≡ true
    → length (scalars_of (take (n + 1) nodes)) ≡ length (scalars_of (take n nodes)) + 1
counted nodes n lt is =
    ap length
    (next-scalars nodes n lt
    ∙ ap (λ b. scalars_of (take n nodes) ++ cond b (n ∷ []) []) is)
    ∙ length-append (scalars_of (take n nodes)) (n ∷ [])

pub passed : (nodes : List Node) (n : ℕ) → n < length nodes → is_scalar (kind_at nodes n) ≡ false
    → scalars_of (take (n + 1) nodes) ≡ scalars_of (take n nodes)
passed nodes n lt is =
    next-scalars nodes n lt
    ∙ ap (λ b. scalars_of (take n nodes) ++ cond b (n ∷ []) []) is
    ∙ append-nil (scalars_of (take n nodes))

-- its word is one of those that are given
pub has-word : (nodes : List Node) (n first next most : ℕ) → n < length nodes
    → is_scalar (kind_at nodes n) ≡ true → next ≡ first + length (scalars_of (take n nodes))
    → first + length (scalars_of nodes) ≤ most → next < most
has-word nodes n first next most lt is at room =
    let one = counted nodes n lt is in
    let all = few 0 nodes (n + 1) in
    omega (arith, one, all, at, room)

-- ---- their words

-- the words of the first nodes stay where others stand behind them
kept : (n : ℕ) (nodes : List Node) (words more : List ℕ) → n + length nodes ≤ length words
    → map (slice_index (words ++ more)) (numbers_from is_scalar n nodes)
    ≡ map (slice_index words) (numbers_from is_scalar n nodes)
kept n [] words more le = refl
kept n (x ∷ xs) words more le =
    by (kept (n + 1) xs words more (omega (arith, le))) (is_scalar x.view.kind)
  where
    numbers : List ℕ
    numbers = numbers_from is_scalar (n + 1) xs

    by : map (slice_index (words ++ more)) numbers ≡ map (slice_index words) numbers
        → (b : Bool)
        → map (slice_index (words ++ more)) (cond b (n ∷ numbers) numbers)
        ≡ map (slice_index words) (cond b (n ∷ numbers) numbers)
    by rest true =
        ap₂ (λ (y : ℕ) (ys : List ℕ). y ∷ ys)
        (get_or_append_left words more 0 n (omega (arith, le))) rest
    by rest false = rest

kept-first : (nodes : List Node) (n : ℕ) (words more : List ℕ) → n < length nodes → length words ≡ n
    → map (slice_index (words ++ more)) (scalars_of (take n nodes))
    ≡ map (slice_index words) (scalars_of (take n nodes))
kept-first nodes n words more lt each =
    let size = length-take-le n nodes (omega (arith, lt)) in
    kept 0 (take n nodes) words more (omega (arith, size, each))

-- a node that is no scalar takes none
pub words-passed : (nodes : List Node) (n : ℕ) (words : List ℕ) (word : ℕ) (own : List ℕ)
    → n < length nodes → is_scalar (kind_at nodes n) ≡ false → length words ≡ n
    → map (slice_index words) (scalars_of (take n nodes)) ≡ own
    → map (slice_index (words ++ word ∷ [])) (scalars_of (take (n + 1) nodes)) ≡ own
words-passed nodes n words word own lt is each so_far =
    ap (map (slice_index (words ++ word ∷ []))) (passed nodes n lt is)
    ∙ kept-first nodes n words (word ∷ []) lt each
    ∙ so_far

-- a scalar takes the next one
pub word-taken : (nodes : List Node) (n : ℕ) (words all : List ℕ) (first next : ℕ)
    → n < length nodes → is_scalar (kind_at nodes n) ≡ true → length words ≡ n
    → next ≡ first + length (scalars_of (take n nodes))
    → map (slice_index words) (scalars_of (take n nodes)) ≡ take (next - first) (drop first all)
    → next < length all
    → map (slice_index (words ++ get_or all next 0 ∷ [])) (scalars_of (take (n + 1) nodes))
    ≡ take (next + 1 - first) (drop first all)
word-taken nodes n words all first next lt is each at so_far within =
    let size : length (drop first all) ≡ length all - first = length-drop first all in
    let one : next + 1 - first ≡ m + 1 = omega (arith, at) in
    let here : next - first ≡ m = omega (arith, at) in
    let read : get_or (drop first all) m 0 ≡ word =
    get_or-drop first all m 0 ∙ ap (λ i. get_or all i 0) (sym at) in
    ap (map (slice_index (words ++ word ∷ [])))
    (next-scalars nodes n lt ∙ ap (λ b. before ++ cond b (n ∷ []) []) is)
    ∙ map-append (slice_index (words ++ word ∷ [])) before (n ∷ [])
    ∙ ap₂ (λ (ys : List ℕ) (y : ℕ). ys ++ y ∷ [])
    (kept-first nodes n words (word ∷ []) lt each ∙ so_far
    ∙ ap (λ i. take i (drop first all)) here)
    (get_or_push words word 0 n each ∙ sym read)
    ∙ sym (take_at_read (drop first all) m 0 (omega (arith, size, at, within))).1
    ∙ ap (λ i. take i (drop first all)) (sym one)
  where
    before : List ℕ
    before = scalars_of (take n nodes)

    m : ℕ
    m = length before

    word : ℕ
    word = get_or all next 0

-- ---- those of kernels

-- how many scalars the first kernels have
pub scalars-more : (kernels : List Kernel) (i : ℕ) (kernel : Kernel) → i < length kernels
    → kernel ≡ get_or kernels i kernel
    → length (flat_map scalar_shapes (take (i + 1) kernels))
    ≡ length (flat_map scalar_shapes (take i kernels)) + length (scalars_of kernel.nodes)
scalars-more kernels i kernel lt at =
    ap (λ ks. length (flat_map scalar_shapes ks))
    ((take_at_read kernels i kernel lt).1 ∙ ap (λ k. take i kernels ++ k ∷ []) (sym at))
    ∙ ap length (flat_map-append scalar_shapes (take i kernels) (kernel ∷ []))
    ∙ length-append (flat_map scalar_shapes (take i kernels)) (scalar_shapes kernel ++ [])
    ∙ ap (λ l. length (flat_map scalar_shapes (take i kernels)) + length l)
    (append-nil (scalar_shapes kernel))
    ∙ ap (λ j. length (flat_map scalar_shapes (take i kernels)) + j)
    (length-map (scalars_of kernel.nodes) (scalar_shape kernel))

pub scalars-left : (kernels : List Kernel) (i : ℕ) (kernel : Kernel) (next most : ℕ)
    → i < length kernels → kernel ≡ get_or kernels i kernel
    → next ≡ length (flat_map scalar_shapes (take i kernels))
    → most ≡ length (flat_map scalar_shapes kernels)
    → next + length (scalars_of kernel.nodes) ≤ most
scalars-left kernels i kernel next most lt at before all =
    let count : length (scalar_shapes (get_or kernels i kernel)) ≡ length (scalars_of kernel.nodes) =
    ap (λ (k : Kernel). length (scalar_shapes k)) (sym at)
    ∙ length-map (scalars_of kernel.nodes) (scalar_shape kernel) in
    let room = length-flat_map-take scalar_shapes kernels i kernel lt in
    omega (arith, count, room, before, all)

lists-more : (kernels : List Kernel) (lists : List (List ℕ)) (all : List ℕ) (kernel : Kernel)
    (words own : List ℕ) → AreNodeLists kernels lists all → AreNodeWords kernel words own
    → AreNodeLists (kernels ++ kernel ∷ []) (lists ++ words ∷ []) (all ++ own)
lists-more [] [] all kernel words own are is =
    (own, [], is, refl, ap (λ l. l ++ own) are ∙ sym (append-nil own))
lists-more [] (l ∷ lists) all kernel words own are is = absurd are
lists-more (k ∷ kernels) [] all kernel words own are is = absurd are
lists-more (k ∷ kernels) (l ∷ lists) all kernel words own are is = (
  are.0,
  are.1 ++ own,
  are.2,
  lists-more kernels lists are.1 kernel words own are.3 is,
  ap (λ s. s ++ own) are.4 ∙ append_assoc are.0 are.1 own,
)

pub lists-taken : (kernels : List Kernel) (i : ℕ) (kernel : Kernel) (lists : List (List ℕ))
    (words all : List ℕ) (next then : ℕ) → i < length kernels
    → kernel ≡ get_or kernels i kernel → then ≡ next + length (scalars_of kernel.nodes)
    → AreNodeLists (take i kernels) lists (take next all)
    → AreNodeWords kernel words (take (then - next) (drop next all))
    → AreNodeLists (take (i + 1) kernels) (lists ++ words ∷ []) (take then all)
lists-taken kernels i kernel lists words all next then lt at more are is =
    let split : next + (then - next) ≡ then = omega (arith, more) in
    subst (λ ks. AreNodeLists ks (lists ++ words ∷ []) (take then all))
    (sym ((take_at_read kernels i kernel lt).1 ∙ ap (λ k. take i kernels ++ k ∷ []) (sym at)))
    (subst (λ s. AreNodeLists (take i kernels ++ kernel ∷ []) (lists ++ words ∷ []) s)
    (sym (take-add next (then - next) all) ∙ ap (λ j. take j all) split)
    (lists-more (take i kernels) lists (take next all) kernel words
    (take (then - next) (drop next all)) are is))
