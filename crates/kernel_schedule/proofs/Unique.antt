-- Calls have one list of nodes.
use Rattle.std.proofs.Common.{◌≡◌, ◌∙◌, ℕ, ◌≤◌, ◌<◌, ◌^◌, List, sym, ap, subst, arith}
use Rattle.std.proofs.Math.Bridge.{le_prop}
use Rattle.std.proofs.lemmas.List.{ext_get_or}
use Rattle.std.proofs.lemmas.Option.{get_or_from_slice_get}
use Rattle.mx_bits.specs.declared.word.Word.{Word}
use Rattle.kernel_calls.specs.declared.call.Call.{Call}
use Rattle.kernel_calls.specs.declared.call.Call.TheVariants as C
use Rattle.stream_graph.specs.declared.node.Kind.{Kind}
use Rattle.stream_graph.specs.declared.node.Kind.TheVariants as K
use Rattle.stream_graph.specs.declared.node.Node.{Node}
use Rattle.stream_graph.specs.Nodes.{IsKind, IsNode, AreNodes}
use Rattle.stream_graph.specs.LookUps.{no_node}
use Rattle.stream_graph.proofs.CallLemmas.{made}

-- ---- words

same_word_by :
    (b c w v : ℕ) (p : b ≡ c) (q : w ≡ v) (s : 1 ≤ w) (s' : 1 ≤ v) (a : w ≤ 128) (a' : v ≤ 128)
    (f : b < 2 ^ w) (f' : c < 2 ^ v)
    → ◌≡◌ {A = Word}
    (record { bits = b; width = w; some = s; at_most = a; fits = f })
    (record { bits = c; width = v; some = s'; at_most = a'; fits = f' })
same_word_by b c w v p q s s' a a' f f' =
    subst (λ n. (g : 1 ≤ n) (h : n ≤ 128) (k : c < 2 ^ n) → ◌≡◌ {A = Word}
    (record { bits = b; width = w; some = s; at_most = a; fits = f })
    (record { bits = c; width = n; some = g; at_most = h; fits = k })) q
    (λ g h k. subst (λ n. (k : n < 2 ^ w) → ◌≡◌ {A = Word}
    (record { bits = b; width = w; some = s; at_most = a; fits = f })
    (record { bits = n; width = w; some = g; at_most = h; fits = k })) p
    (λ k. λ i. record {
      bits = b;
      width = w;
      some = le_prop s g i;
      at_most = le_prop a h i;
      fits = le_prop f k i;
    }) k) s' a' f'

same_word : (x y : Word) → x.bits ≡ y.bits → x.width ≡ y.width → x ≡ y
same_word x y p q =
    same_word_by x.bits y.bits x.width y.width p q x.some y.some x.at_most y.at_most x.fits y.fits

-- ---- nodes

one_kind : (so_far : List Call) (n : ℕ) (call : Call) (a b : Kind) → IsKind so_far n call a
    → IsKind so_far n call b → a ≡ b
one_kind so_far n (C.Input name t control) a b p q = p ∙ sym q
one_kind so_far n (C.Output name value control t) a b p q = p ∙ sym q
one_kind so_far n (C.Scalar name t) a b p q = p ∙ sym q
one_kind so_far n (C.Constant bits t) a b p q =
    p.1 ∙ ap (λ w. K.Constant w) (same_word p.0 q.0 (p.2 ∙ sym q.2) (p.3 ∙ sym q.3)) ∙ sym q.1
one_kind so_far n (C.Operation op mode amount args t) a b p q = p ∙ sym q
one_kind so_far n (C.Offset value k t) a b p q = p ∙ sym q
one_kind so_far n (C.Feed t) a b p q = p ∙ sym q
one_kind so_far n (C.Connect feed value) a b p q = absurd p
one_kind so_far n (C.Hold value store t) a b p q = p ∙ sym q
one_kind so_far n (C.Counter d) a b p q = p ∙ sym q
one_kind so_far n C.Chain a b p q = p ∙ sym q
one_kind so_far n (C.ChainDigit chain d) a b p q = p ∙ sym q

one_node : (so_far : List Call) (n : ℕ) (call : Call) (a b : Node) → IsNode so_far n call a
    → IsNode so_far n call b → a ≡ b
one_node so_far n call a b p q =
    let kind = one_kind so_far n call a.view.kind b.view.kind p.kind q.kind in
    let t = p.t ∙ sym q.t in
    let controlled = p.controlled ∙ sym q.controlled in
    let operands = p.operands ∙ sym q.operands in
    let name = p.name ∙ sym q.name in
    let digits = p.digits ∙ sym q.digits in
    λ i. record {
      view = record { kind = kind i; t = t i; controlled = controlled i };
      operands = operands i;
      name = name i;
      digits = digits i;
    }

-- the nodes of calls are one list
pub one_list : (so_far : List Call) (a b : List Node) → AreNodes so_far a → AreNodes so_far b
    → a ≡ b
one_list so_far a b p q =
    ext_get_or no_node a b (p.count ∙ sym q.count)
    (λ n h.
    let e = p.count in
    let m = made so_far n (omega arith) in
    let x = p.each n m.0 m.1 in
    let y = q.each n m.0 m.1 in
    get_or_from_slice_get a n x.0 no_node x.1 ∙ one_node so_far n m.0 x.0 y.0 x.2 y.2
    ∙ sym (get_or_from_slice_get b n y.0 no_node y.1))
