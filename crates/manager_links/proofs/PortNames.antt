-- What a kernel keeps of its inputs and outputs: names that are plain, and that differ within a kind.
use Rattle.std.proofs.Common.{◌≡◌, ℕ, ◌<◌, Bool, true, false, ◌||◌, List, [], ◌∷◌, refl, sym, ap, ◌∙◌, subst, arith, inl, inr}
use Rattle.std.specs.Prelude.{◌⊎◌, Option, Some, None, bytes_eq, slice_get}
use Rattle.std.specs.Cmp.Lexicographic.{bytes_decides}
use Rattle.std.proofs.Math.Logic.{∥∥₁_elim}
use Rattle.std.proofs.Props.{props}
use Rattle.std.proofs.lemmas.Bool.{cases_order}
use Rattle.std.proofs.lemmas.Option.{slice_get_within, get_or_from_slice_get}
use Rattle.kernel_calls.specs.declared.call.Call.{Call}
use Rattle.kernel_calls.specs.declared.call.Call.TheVariants as C
use Rattle.kernel_calls.specs.Calls.{count_of, nodes_of, Makes}
use Rattle.kernel_calls.specs.Laws.{IsLawful, is_port_name}
use Rattle.stream_graph.specs.declared.kernel.Kernel.{Kernel}
use Rattle.stream_graph.specs.declared.node.Kind.{Kind}
use Rattle.stream_graph.specs.declared.node.Node.{Node}
use Rattle.stream_graph.specs.Nodes.{later, name_by, IsKind, AreNodes}
use Rattle.stream_graph.specs.Ports.{is_again, AllDiffer}
use Rattle.stream_graph.specs.Steps.{WereLawful}
use Rattle.stream_graph.proofs.NamesDiffer.{DidDiffer, did_later, or_first, or_second}
use Rattle.stream_graph.specs.LookUps.{node_at, no_node}
use Rattle.stream_graph.proofs.CallLemmas.{made_below, makes_cases, were_later}
use Rattle.stream_graph.proofs.NodeLemmas.{IsOf, of_node}
use Rattle.manager_links.specs.Terminals.{Terminal, Input, Output, terminal_by, terminal_of}

-- ---- calls

-- the terminal that a call makes
abbrev made_by : ℕ → Call → Option Terminal
made_by k (C.Input name t control) = Some (Input k name)
made_by k (C.Output name value control t) = Some (Output k name)
made_by k _ = None

shows : (k : ℕ) (so_far : List Call) (n : ℕ) (call : Call) (kind : Kind) (name : List ℕ)
    → IsKind so_far n call kind → name ≡ name_by call → terminal_by k kind name ≡ made_by k call
shows k so_far n (C.Input m t control) kind name i e = ap (λ x. terminal_by k x name) i ∙ ap (λ x. Some (Input k x)) e
shows k so_far n (C.Output m value control t) kind name i e = ap (λ x. terminal_by k x name) i ∙ ap (λ x. Some (Output k x)) e
shows k so_far n (C.Scalar m t) kind name i e = ap (λ x. terminal_by k x name) i
shows k so_far n (C.Constant bits t) kind name i e = ap (λ x. terminal_by k x name) i.1
shows k so_far n (C.Operation op mode amount args t) kind name i e = ap (λ x. terminal_by k x name) i
shows k so_far n (C.Offset value by t) kind name i e = ap (λ x. terminal_by k x name) i
shows k so_far n (C.Feed t) kind name i e = ap (λ x. terminal_by k x name) i
shows k so_far n (C.Connect feed value) kind name i e = absurd i
shows k so_far n (C.Hold value store t) kind name i e = ap (λ x. terminal_by k x name) i
shows k so_far n (C.Counter d) kind name i e = ap (λ x. terminal_by k x name) i
shows k so_far n C.Chain kind name i e = ap (λ x. terminal_by k x name) i
shows k so_far n (C.ChainDigit chain d) kind name i e = ap (λ x. terminal_by k x name) i

-- ---- no call makes the terminal of an earlier one

other_name : (a b : List ℕ) → bytes_eq a b ≡ false → b ≡ a → ⊥
other_name a b e same = let yes = (bytes_decides a b).1 (sym same) in absurd (cc)

again_newest : (k : ℕ) (newest : Call) (older : List Call) (call : Call) (t : Terminal)
    → is_again (newest ∷ older) call ≡ false → made_by k newest ≡ Some t → made_by k call ≡ Some t → ⊥
again_newest k (C.Input a s c) older (C.Input b u d) t h e f = other_name b a (or_first _ _ h) (cc (e, f))
again_newest k (C.Output a v c s) older (C.Output b w d u) t h e f = other_name b a (or_first _ _ h) (cc (e, f))
again_newest k newest older call t h e f = cc

again_older : (newest : Call) (older : List Call) (call : Call) → is_again (newest ∷ older) call ≡ false → is_again older call ≡ false
again_older (C.Input a s c) older (C.Input b t d) h = or_second _ _ h
again_older (C.Output a v c s) older (C.Output b w d t) h = or_second _ _ h
again_older (C.Scalar a s) older (C.Scalar b t) h = or_second _ _ h
again_older newest older call h = h

differs_from : (k : ℕ) (so_far : List Call) (call : Call) (n : ℕ) (old : Call) (t : Terminal) → is_again so_far call ≡ false
    → Makes so_far n old → made_by k old ≡ Some t → made_by k call ≡ Some t → ⊥
differs_from k [] call n old t h m e f = m
differs_from k (newest ∷ older) call n old t h m e f = by_newest (makes_cases newest older n old m)
    (λ g. differs_from k older call n old t (again_older newest older call h) g e f)
  where
    by_newest : ((nodes_of newest ≡ 1) × (n ≡ count_of older) × (old ≡ newest)) ⊎ Makes older n old
        → (Makes older n old → ⊥) → ⊥
    by_newest (inl p) rest = again_newest k newest older call t h (ap (made_by k) (sym p.2) ∙ e) f
    by_newest (inr g) rest = rest g

calls_differ : (k : ℕ) (so_far : List Call) → DidDiffer so_far → (n m : ℕ) (a b : Call) (t : Terminal) → Makes so_far n a
    → Makes so_far m b → n < m → made_by k a ≡ Some t → made_by k b ≡ Some t → ⊥
calls_differ k [] w n m a b t h g lt e f = h
calls_differ k (newest ∷ older) w n m a b t h g lt e f = by_newest (makes_cases newest older n a h) (makes_cases newest older m b g)
    (λ p q. calls_differ k older w.1 n m a b t p q lt e f)
  where
    by_newest : ((nodes_of newest ≡ 1) × (n ≡ count_of older) × (a ≡ newest)) ⊎ Makes older n a
        → ((nodes_of newest ≡ 1) × (m ≡ count_of older) × (b ≡ newest)) ⊎ Makes older m b
        → (Makes older n a → Makes older m b → ⊥) → ⊥
    by_newest (inl p) (inl q) rest = let x = p.1 in let y = q.1 in absurd (omega arith)
    by_newest (inl p) (inr q) rest = let x = p.1 in let y = made_below older m b q in absurd (omega arith)
    by_newest (inr p) (inl q) rest =
        differs_from k older b n a t (ap (is_again older) q.2 ∙ w.0) p e f
    by_newest (inr p) (inr q) rest = rest p q

-- the name of a port is a letter, and then letters, digits and `_`
call_named : (k : ℕ) (so_far : List Call) (call : Call) (t : Terminal) → IsLawful so_far call
    → made_by k call ≡ Some t → is_port_name (name_by call) ≡ true
call_named k so_far (C.Input name u control) t l e = l.0.0
call_named k so_far (C.Output name value control u) t l e = l.0.0
call_named k so_far _ t l e = absurd (cc)

-- ---- nodes

-- no two nodes are one terminal, and terminals have names of ports
pub record HasPorts (nodes : List Node) : Type 0 where
  pub differ : (k n m : ℕ) (a b : Node) (t : Terminal) → slice_get nodes n ≡ Some a
      → slice_get nodes m ≡ Some b → terminal_of k a ≡ Some t → terminal_of k b ≡ Some t → n ≡ m
  pub plain : (k n : ℕ) (a : Node) (t : Terminal) → slice_get nodes n ≡ Some a
      → terminal_of k a ≡ Some t → is_port_name a.name ≡ true

-- the call of a node that is there
record IsMade (so_far : List Call) (nodes : List Node) (n : ℕ) (node : Node) : Type 0 where
  of : IsOf so_far nodes n
  kind : IsKind so_far n of.call node.view.kind
  name : node.name ≡ name_by of.call

made_node : (so_far : List Call) (nodes : List Node) (n : ℕ) (node : Node) → WereLawful so_far
    → AreNodes so_far nodes → slice_get nodes n ≡ Some node → IsMade so_far nodes n node
made_node so_far nodes n node w a at =
    let o = of_node so_far nodes n w a (slice_get_within nodes n node at) in
    let same : node_at nodes n ≡ node = get_or_from_slice_get nodes n node no_node at in
    record {
      of = o;
      kind = subst (λ (x : Node). IsKind so_far n o.call x.view.kind) same o.is.kind;
      name = subst (λ (x : Node). x.name ≡ name_by o.call) same o.is.name;
    }

ports_so_far : (so_far : List Call) (nodes : List Node) → WereLawful so_far → DidDiffer so_far → AreNodes so_far nodes → HasPorts nodes
ports_so_far so_far nodes w d are = record {
  differ = λ k n m a b t one other first second.
      let x = made_node so_far nodes n a w are one in
      let y = made_node so_far nodes m b w are other in
      let e = sym (shows k so_far n x.of.call a.view.kind a.name x.kind x.name) ∙ first in
      let f = sym (shows k so_far m y.of.call b.view.kind b.name y.kind y.name) ∙ second in
      by_order n m (cases_order n m)
      (λ lt. calls_differ k so_far d n m x.of.call y.of.call t x.of.makes y.of.makes lt e f)
      (λ lt. calls_differ k so_far d m n y.of.call x.of.call t y.of.makes x.of.makes lt f e);
  plain = λ k n a t at is.
      let x = made_node so_far nodes n a w are at in
      ap is_port_name x.name
      ∙ call_named k x.of.was.older x.of.call t x.of.was.lawful
      (sym (shows k so_far n x.of.call a.view.kind a.name x.kind x.name) ∙ is);
}
  where
    by_order : (n m : ℕ) → (n ≡ m) ⊎ ((n < m) ⊎ (m < n)) → (n < m → ⊥) → (m < n → ⊥) → n ≡ m
    by_order n m (inl e) less more = e
    by_order n m (inr (inl lt)) less more = absurd (less lt)
    by_order n m (inr (inr lt)) less more = absurd (more lt)

pub has_ports : (kernel : Kernel) → HasPorts kernel.nodes
has_ports kernel =
    ∥∥₁_elim {P = HasPorts kernel.nodes} kernel.made (hlevel props)
    (λ k. ports_so_far (later [] k.0) kernel.nodes (were_later [] k.0 tt k.1) (did_later [] k.0 tt k.2.names) k.3)
