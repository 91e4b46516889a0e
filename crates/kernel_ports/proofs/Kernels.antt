-- What a kernel keeps of its ports: names that are plain and differ within a kind, and widths.
use Rattle.std.proofs.Common.{◌≡◌, ℕ, ◌<◌, Bool, true, false, ◌||◌, List, [], ◌∷◌, length, refl, sym, ap, ◌∙◌, arith, inl, inr}
use Rattle.std.specs.Prelude.{◌⊎◌, bytes_eq}
use Rattle.std.proofs.Math.Bool.{Bool-set}
use Rattle.std.proofs.Math.Logic.{∥∥₁_elim}
use Rattle.kernel_calls.specs.declared.call.Call.{Call}
use Rattle.kernel_calls.specs.declared.call.Call.TheVariants as C
use Rattle.kernel_calls.specs.Calls.{count_of, nodes_of, Makes}
use Rattle.kernel_calls.specs.Laws.{IsLawful, is_port_name}
use Rattle.stream_graph.specs.declared.node.Kind.{Kind}
use Rattle.stream_graph.specs.declared.node.Kind.TheVariants as K
use Rattle.stream_graph.specs.declared.node.Node.{Node}
use Rattle.stream_graph.specs.Kernels.{AreKernel}
use Rattle.stream_graph.specs.Nodes.{later, name_by, IsKind, AreNodes}
use Rattle.stream_graph.specs.Ports.{is_again, AllDiffer}
use Rattle.stream_graph.specs.Steps.{WereLawful}
use Rattle.stream_graph.proofs.NamesDiffer.{DidDiffer, did_later, or_first, or_second}
use Rattle.stream_graph.specs.LookUps.{node_at, kind_at}
use Rattle.stream_graph.proofs.CallLemmas.{made_below, makes_cases, were_later}
use Rattle.stream_graph.proofs.NodeLemmas.{of_node}

-- ---- which port a call makes: 1 an input, 2 an output, 3 a scalar, and 0 none

abbrev pub role_by : Call → ℕ
role_by (C.Input name t control) = 1
role_by (C.Output name value control t) = 2
role_by (C.Scalar name t) = 3
role_by _ = 0

abbrev pub role_of : Kind → ℕ
role_of K.Input = 1
role_of K.Output = 2
role_of K.Scalar = 3
role_of _ = 0

role_kept : (so_far : List Call) (n : ℕ) (call : Call) (kind : Kind) → IsKind so_far n call kind → role_of kind ≡ role_by call
role_kept so_far n (C.Constant bits t) kind i = ap role_of i.1
role_kept so_far n (C.Connect feed value) kind i = absurd i
role_kept so_far n _ kind i = ap role_of i

-- ---- no port has the name of an earlier one of its kind

-- a call whose name is new has another name than the newest call of its kind, and is new among the older ones
again_newest : (newest : Call) (older : List Call) (call : Call) → is_again (newest ∷ older) call ≡ false
    → role_by newest ≡ role_by call → 0 < role_by call → bytes_eq (name_by call) (name_by newest) ≡ false
again_newest (C.Input a s c) older (C.Input b t d) h e lt = or_first _ _ h
again_newest (C.Output a v c s) older (C.Output b w d t) h e lt = or_first _ _ h
again_newest (C.Scalar a s) older (C.Scalar b t) h e lt = or_first _ _ h
again_newest newest older call h e lt = absurd (omega arith)

again_older : (newest : Call) (older : List Call) (call : Call) → is_again (newest ∷ older) call ≡ false → is_again older call ≡ false
again_older (C.Input a s c) older (C.Input b t d) h = or_second _ _ h
again_older (C.Output a v c s) older (C.Output b w d t) h = or_second _ _ h
again_older (C.Scalar a s) older (C.Scalar b t) h = or_second _ _ h
again_older newest older call h = h

-- a call whose name is new has another name than each call of its kind
differs_from : (so_far : List Call) (call : Call) (n : ℕ) (old : Call) → is_again so_far call ≡ false → Makes so_far n old
    → role_by old ≡ role_by call → 0 < role_by call → bytes_eq (name_by call) (name_by old) ≡ false
differs_from [] call n old h m e lt = absurd m
differs_from (newest ∷ older) call n old h m e lt = by_newest (makes_cases newest older n old m)
    (λ g. differs_from older call n old (again_older newest older call h) g e lt)
  where
    by_newest : ((nodes_of newest ≡ 1) × (n ≡ count_of older) × (old ≡ newest)) ⊎ Makes older n old
        → (Makes older n old → bytes_eq (name_by call) (name_by old) ≡ false) → bytes_eq (name_by call) (name_by old) ≡ false
    by_newest (inl p) rest =
        ap (λ c. bytes_eq (name_by call) (name_by c)) p.2 ∙ again_newest newest older call h (ap role_by (sym p.2) ∙ e) lt
    by_newest (inr g) rest = rest g

calls_differ : (so_far : List Call) → DidDiffer so_far → (n m : ℕ) (a b : Call) → Makes so_far n a → Makes so_far m b → n < m
    → role_by a ≡ role_by b → 0 < role_by b → bytes_eq (name_by b) (name_by a) ≡ false
calls_differ [] w n m a b h k lt e some = absurd h
calls_differ (newest ∷ older) w n m a b h k lt e some = by_newest (makes_cases newest older n a h) (makes_cases newest older m b k)
    (λ g q. calls_differ older w.1 n m a b g q lt e some)
  where
    by_newest : ((nodes_of newest ≡ 1) × (n ≡ count_of older) × (a ≡ newest)) ⊎ Makes older n a
        → ((nodes_of newest ≡ 1) × (m ≡ count_of older) × (b ≡ newest)) ⊎ Makes older m b
        → (Makes older n a → Makes older m b → bytes_eq (name_by b) (name_by a) ≡ false) → bytes_eq (name_by b) (name_by a) ≡ false
    by_newest (inl p) (inl q) rest = let x = p.1 in let y = q.1 in absurd (omega arith)
    by_newest (inl p) (inr q) rest = let x = p.1 in let y = made_below older m b q in absurd (omega arith)
    by_newest (inr g) (inl q) rest =
        differs_from older b n a (ap (is_again older) q.2 ∙ w.0) g e some
    by_newest (inr g) (inr q) rest = rest g q

-- the name of a port is a letter, and then letters, digits and `_`
call_named : (so_far : List Call) (call : Call) → IsLawful so_far call → 0 < role_by call → is_port_name (name_by call) ≡ true
call_named so_far (C.Input name t control) l lt = l.0.0
call_named so_far (C.Output name value control t) l lt = l.0.0
call_named so_far (C.Scalar name t) l lt = l.0.0
call_named so_far _ l lt = absurd (omega arith)

-- ---- nodes

-- ports of a kind have names that are plain and differ
pub record AreNamed (nodes : List Node) : Type 0 where
  pub plain : (n : ℕ) → n < length nodes → 0 < role_of (kind_at nodes n) → is_port_name (node_at nodes n).name ≡ true
  pub differ :
      (n m : ℕ)
      → n < m
      → m < length nodes
      → role_of (kind_at nodes n) ≡ role_of (kind_at nodes m)
      → 0 < role_of (kind_at nodes m)
      → bytes_eq (node_at nodes m).name (node_at nodes n).name ≡ false

named_so_far : (so_far : List Call) (nodes : List Node) → WereLawful so_far → DidDiffer so_far → AreNodes so_far nodes → AreNamed nodes
named_so_far so_far nodes w d a = record {
  plain = λ n h lt.
      let o = of_node so_far nodes n w a h in
      let r = role_kept so_far n o.call (kind_at nodes n) o.is.kind in
      ap is_port_name o.is.name ∙ call_named o.was.older o.call o.was.lawful (omega (arith, r, lt));
  differ = λ n m lt h e some.
      let x = of_node so_far nodes n w a (omega (arith, lt, h)) in
      let y = of_node so_far nodes m w a h in
      let r = role_kept so_far n x.call (kind_at nodes n) x.is.kind in
      let s = role_kept so_far m y.call (kind_at nodes m) y.is.kind in
      ap (λ t. bytes_eq t (node_at nodes n).name) y.is.name
      ∙ ap (λ t. bytes_eq (name_by y.call) t) x.is.name
      ∙ calls_differ so_far d n m x.call y.call x.makes y.makes lt (omega (arith, r, s, e)) (omega (arith, s, some));
}

pub named : (nodes : List Node) → ∥ AreKernel nodes ∥₁ → AreNamed nodes
named nodes kernel =
    ∥∥₁_elim {P = AreNamed nodes} kernel (hlevel (λ (n : ℕ). Bool-set))
    (λ k. named_so_far (later [] k.0) nodes (were_later [] k.0 tt k.1) (did_later [] k.0 tt k.2.names) k.3)
