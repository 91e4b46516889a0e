-- Linking one residual arc more.
use Rattle.std.proofs.Common.{◌≡◌, ◌≢◌, ⊎_elim, ℕ, ◌+◌, ◌-◌, ◌<◌, List, length, get_or, set, refl, sym, ap, ◌∙◌, subst, arith}
use Rattle.std.proofs.lemmas.Bool.{cases_eq}
use Rattle.std.proofs.lemmas.List.{get_or-set_same, get_or-set_other, length-set}
use Rattle.cycle_find.specs.declared.arcs.Arc.{Arc}
use Rattle.schedule_flow.specs.Network.{tail_of}
use Rattle.schedule_flow.specs.Adjacency.{IsLastBelow, IsLinkedBelow}

pub nothing_linked : (arcs : List Arc) (first before : List ℕ) → ((v : ℕ) → get_or first v 0 ≡ 0) → IsLinkedBelow arcs 0 first before
nothing_linked arcs first before zero = record {
  firsts = λ v l. record {
    low = omega (arith, zero v);
    here = λ up. absurd (omega (arith, up, zero v));
    none = λ r g m. absurd (omega (arith, m));
  };
  befores = λ r l. absurd (omega (arith, l));
}

last_same : (arcs : List Arc) (v w b k l : ℕ) → v ≡ w → k ≡ l → IsLastBelow arcs v b k → IsLastBelow arcs w b l
last_same arcs v w b k l e q h =
    let P : ℕ → Type 0 = λ u. IsLastBelow arcs u b k in
    let Q : ℕ → Type 0 = λ m. IsLastBelow arcs w b m in
    subst Q q (subst P e h)

pub linked_more : (arcs : List Arc) (n node : ℕ) (first before : List ℕ)
    → IsLinkedBelow arcs n first before → node ≡ tail_of arcs n → node < length first
    → n < length before → IsLinkedBelow arcs (n + 1) (set first node (n + 1))
    (set before n (get_or first node 0))
linked_more arcs n node first before h at l m =
    let first' = set first node (n + 1) in
    let before' = set before n (get_or first node 0) in
    record {
      firsts = λ v lv.
          let lv' : v < length first = omega (arith, lv, length-set first node (n + 1)) in
          ⊎_elim
          (λ (q : v ≡ node).
          let e : get_or first' v 0 ≡ n + 1 = ap (λ u. get_or first' u 0) q ∙ get_or-set_same first node (n + 1) 0 l in
          record {
            low = omega (arith, e);
            here = λ up. let z : get_or first' v 0 - 1 ≡ n = omega (arith, e) in ap (tail_of arcs) z ∙ sym at ∙ sym q;
            none = λ r g b. absurd (omega (arith, e, g, b));
          })
          (λ (d : v ≢ node).
          let e : get_or first' v 0 ≡ get_or first v 0 = get_or-set_other first node v (n + 1) 0 d in
          let o = h.firsts v lv' in
          record {
            low = omega (arith, e, o.low);
            here = λ up. ap (λ k. tail_of arcs (k - 1)) e ∙ o.here (omega (arith, e, up));
            none = λ r g b. ⊎_elim
                (λ (s : r ≡ n). λ t. d (sym t ∙ ap (tail_of arcs) s ∙ sym at))
                (λ (s : r ≢ n). o.none r (omega (arith, e, g)) (omega (arith, b, s)))
                (cases_eq r n);
          })
          (cases_eq v node);
      befores = λ r b. ⊎_elim
          (λ (s : r ≡ n).
          let e : get_or before' r 0 ≡ get_or first node 0 = ap (λ u. get_or before' u 0) s ∙ get_or-set_same before n (get_or first node 0) 0 m in
          let P : ℕ → Type 0 = λ u. IsLastBelow arcs (tail_of arcs u) u (get_or before' r 0) in
          subst P (sym s) (last_same arcs node (tail_of arcs n) n (get_or first node 0) (get_or before' r 0) at (sym e) (h.firsts node l)))
          (λ (s : r ≢ n).
          let e : get_or before' r 0 ≡ get_or before r 0 = get_or-set_other before n r (get_or first node 0) 0 s in
          last_same arcs (tail_of arcs r) (tail_of arcs r) r (get_or before r 0) (get_or before' r 0) refl (sym e) (h.befores r (omega (arith, b, s))))
          (cases_eq r n);
    }
