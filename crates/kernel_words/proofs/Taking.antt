-- The words that inputs take.
use Rattle.std.proofs.Common.{◌≡◌, ◌∙◌, ℕ, zero, suc, ◌*◌, ◌≤◌, ◌<◌, ◌^◌, Bool, true, false, cond, List, [], ◌∷◌, length, get_or, Option, Some, None, refl, ap, sym, subst, arith}
use Rattle.std.specs.Prelude.{slice_get, option_and_then, IfSome, pos}
use Rattle.std.proofs.Math.ListN.{set}
use Rattle.std.proofs.lemmas.Bool.{false≢true}
use Rattle.std.proofs.lemmas.Int.{ints}
use Rattle.std.proofs.lemmas.List.{length-set, get_or-set_same, get_or-set_other}
use Rattle.stream_graph.specs.declared.node.Kind.{Kind}
use Rattle.stream_graph.specs.declared.node.Kind.TheVariants as K
use Rattle.stream_graph.specs.declared.node.Node.{Node}
use Rattle.stream_graph.specs.Kinds.{is_input}
use Rattle.stream_graph.specs.LookUps.{kind_at, operand_at}
use Rattle.stream_graph.proofs.NodeLemmas.{IsOrderly}
use Rattle.stream_equations.specs.Equations.{chosen, count_before, enabled, right_side}
use Rattle.kernel_family.specs.declared.place.Place.{Place}
use Rattle.kernel_family.specs.Steps.{keeps, ahead, over, back}
use Rattle.kernel_types.specs.Types.{AreCounting}
use Rattle.kernel_words.specs.declared.run.KernelRun.{KernelRun}
use Rattle.kernel_words.specs.declared.streams.Streams.{Streams}
use Rattle.kernel_words.specs.Streams.{given_of, cell_at, values_of}
use Rattle.kernel_words.specs.Sides.{is_part, IsReady}
use Rattle.kernel_words.specs.Filling.{is_open, IsPlace, AreKnown, IsFilling, IsTaken}

pub got : {X : Type 0} (xs : List X) (n : ℕ) (x d : X) → slice_get xs n ≡ Some x → get_or xs n d ≡ x
got [] n x d e = absurd (cc)
got (y ∷ ys) zero x d e = cc
got (y ∷ ys) (suc n) x d e = got ys n x d e

pub chosen_some : (words : List (Option ℕ)) (n : ℕ) (w : Option ℕ) → slice_get words n ≡ Some w → w ≡ chosen words n
chosen_some words n w e = sym (ap (option_and_then (λ x. x)) e)

pub chosen_none : (words : List (Option ℕ)) (n : ℕ) → slice_get words n ≡ None → None ≡ chosen words n
chosen_none words n e = sym (ap (option_and_then (λ x. x)) e)

pub count_most : (test : ℕ → Bool) (t : ℕ) → count_before test t ≤ t
count_most test zero = omega arith
count_most test (suc t) = by_test (test t) (count_most test t)
  where
    by_test : (b : Bool) → count_before test t ≤ t → cond b (suc (count_before test t)) (count_before test t) ≤ suc t
    by_test true h = omega (arith, h)
    by_test false h = omega (arith, h)

-- ---- how many

pub input_kind : (kind : Kind) → is_input kind ≡ true → kind ≡ K.Input
input_kind K.Input e = refl
input_kind kind e = absurd (cc)

pub not_input : (nodes : List Node) (streams : Streams) (taken : List ℕ) (a : Place) → is_input (kind_at nodes a.node) ≡ false
    → IsTaken nodes streams taken taken a
not_input nodes streams taken a e =
    record { counts = refl; rest = λ n h. refl; here = λ k. absurd (false≢true (sym e ∙ ap is_input k)) }

pub not_enabled : (nodes : List Node) (streams : Streams) (taken : List ℕ) (a : Place) → enabled nodes (values_of streams) a.node a.tick ≡ false
    → IsTaken nodes streams taken taken a
not_enabled nodes streams taken a e = record {
  counts = refl;
  rest = λ n h. refl;
  here = λ k. sym (ap (λ b. cond b (suc (get_or taken a.node 0)) (get_or taken a.node 0)) e);
}

pub one_more : (nodes : List Node) (streams : Streams) (taken : List ℕ) (a : Place) (x : ℕ) → enabled nodes (values_of streams) a.node a.tick ≡ true
    → a.node < length taken → x ≡ suc (get_or taken a.node 0) → IsTaken nodes streams taken (set taken a.node x) a
one_more nodes streams taken a x e h q = record {
  counts = length-set taken a.node x;
  rest = λ n other. get_or-set_other taken a.node n x 0 other;
  here = λ k. get_or-set_same taken a.node x 0 h ∙ q
      ∙ sym (ap (λ b. cond b (suc (get_or taken a.node 0)) (get_or taken a.node 0)) e);
}

pub tick_small : (m k t b : ℕ) → 0 < m → t < k → m * k ≤ b → t < b
tick_small m k t b some h l =
    let q : k ≤ m * k = grind (arith, some) in
    omega (arith, h, l, q)

pub some_of : (w : Option ℕ) (m x : ℕ) → IfSome w (λ y. y < m) → w ≡ Some x → x < m
some_of w m x h e = subst (λ v. IfSome v (λ y. y < m)) e h

-- ---- what is ready

part_now : (kind : Kind) → is_part kind ≡ true → ahead kind ≡ pos 0
part_now (K.Part place) e = refl
part_now kind e = absurd (cc)

module _ (nodes : List Node) (run : KernelRun) (o : IsOrderly nodes) (counting : AreCounting nodes) (streams : Streams) (taken : List ℕ) (a : Place)
    (f : IsFilling nodes run streams taken) (at : IsPlace nodes streams.ticks a) (free : is_open (cell_at streams a.node a.tick) ≡ true)
    (known : AreKnown nodes streams a)
  where
    earlier : (s : ℕ) → a.tick ≡ suc s → IsPlace nodes streams.ticks (record { node = a.node; tick = s })
    earlier s q = record { node = at.node; tick = (let l = at.tick in omega (arith, l, q)) }

    pub counted : kind_at nodes a.node ≡ K.Input → get_or taken a.node 0 ≡ count_before (enabled nodes (values_of streams) a.node) a.tick
    counted k = f.counted a at k free (λ s q. known (record { node = a.node; tick = s }) (back (ap keeps k) refl q) (earlier s q))

    pub taken_few : kind_at nodes a.node ≡ K.Input → get_or taken a.node 0 < 2 ^ 24
    taken_few k =
        let few = streams.few in
        let sized = f.sized in
        let n = at.node in
        let small = tick_small streams.nodes streams.ticks a.tick (2 ^ 24) (omega (arith, n, sized)) at.tick few in
        let most = count_most (enabled nodes (values_of streams) a.node) a.tick in
        let is = counted k in
        omega (arith, small, most, is)

    pub tick_few : a.tick < 2 ^ 24
    tick_few =
        let few = streams.few in
        let sized = f.sized in
        let n = at.node in
        tick_small streams.nodes streams.ticks a.tick (2 ^ 24) (omega (arith, n, sized)) at.tick few

    chain_ready : (place : ℕ) → kind_at nodes a.node ≡ K.Part place
        → values_of streams (operand_at nodes a.node 0) (pos a.tick)
        ≡ right_side nodes (given_of run) (values_of streams) (operand_at nodes a.node 0) a.tick (kind_at nodes (operand_at nodes a.node 0))
    chain_ready place k =
        let p = counting.parts a.node place at.node k in
        let b : Place = record { node = operand_at nodes a.node 0; tick = a.tick } in
        let one = p.one in
        let still = part_now (kind_at nodes a.node) (ap is_part k) in
        let there : IsPlace nodes streams.ticks b = record { node = p.inside; tick = at.tick } in
        f.right b there (known b (over 0 (omega (arith, one)) refl (omega (arith, ints, still))) there)

    part_kind : (kind : Kind) → is_part kind ≡ true → (place : ℕ) × (kind ≡ K.Part place)
    part_kind (K.Part place) e = (place, refl)
    part_kind kind e = absurd (cc)

    pub ready : (n count : ℕ) → n ≡ a.node → count ≡ get_or taken a.node 0
        → IsReady nodes (given_of run) (values_of streams) n a.tick count
    ready n count e q = subst (λ m. IsReady nodes (given_of run) (values_of streams) m a.tick count) (sym e) (record {
      count = λ k. q ∙ counted k;
      before = λ s t k.
          f.right (record { node = a.node; tick = s }) (earlier s t)
          (known (record { node = a.node; tick = s }) (back k refl t) (earlier s t));
      chain = λ k. let p = part_kind (kind_at nodes a.node) k in chain_ready p.0 p.1;
    })
