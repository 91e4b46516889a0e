-- Edges by the operands that they are over.
use Rattle.std.proofs.Common.{◌≡◌, ◌∙◌, ℕ, zero, suc, ◌+◌, ◌<◌, Bool, true, false, cond, eqb, List, [], ◌∷◌, ◌++◌, length, get_or, refl, sym, ap, subst, arith}
use Rattle.std.specs.Prelude.{pos, ◌≤ℤ◌, slice_get, Some}
use Rattle.std.specs.List.{flat_map}
use Rattle.cycle_find.specs.Constraints.{Numbers}
use Rattle.stream_graph.specs.declared.node.Node.{Node}
use Rattle.offset_edges.specs.declared.edge.Edge.{Edge}
use Rattle.offset_edges.specs.declared.source.Source.{Source}
use Rattle.stream_graph.specs.LookUps.{kind_at, operands_at, operand_at}
use Rattle.offset_edges.specs.Edges.{source_of, new_source, edge_of, edges_into, edges_below, edges_of, AreSources}
use Rattle.stream_graph.specs.Kinds.{is_steady, is_offset}
use Rattle.kernel_layout.specs.Reads.{behind_of, AreTimes, IsLater}

-- the source that was read
pub read_it : (nodes : List Node) (sources : List Source) (index operand : ℕ) → AreSources nodes (length nodes) sources
    → operand < length nodes → index ≡ operand → get_or sources index (new_source 0 (pos 0)) ≡ source_of nodes operand
read_it nodes sources index operand a h e =
    ap (λ i. get_or sources i (new_source 0 (pos 0))) e ∙ a.each operand (new_source 0 (pos 0)) h

-- an item and its place in a list
abbrev pub IsAmong : {X : Type 0} → X → List X → Type 0
IsAmong x xs = (j : ℕ) × (slice_get xs j ≡ Some x)

at_left : {X : Type 0} (xs ys : List X) (j : ℕ) (x : X) → slice_get xs j ≡ Some x → slice_get (xs ++ ys) j ≡ Some x
at_left [] ys j x h = absurd (cc)
at_left (y ∷ xs) ys zero x h = h
at_left (y ∷ xs) ys (suc j) x h = at_left xs ys j x h

at_right : {X : Type 0} (xs ys : List X) (j : ℕ) (x : X) → slice_get ys j ≡ Some x → slice_get (xs ++ ys) (length xs + j) ≡ Some x
at_right [] ys j x h = let e : 0 + j ≡ j = omega arith in ap (slice_get ys) e ∙ h
at_right (y ∷ xs) ys j x h =
    let e : length (y ∷ xs) + j ≡ suc (length xs + j) = omega arith in
    ap (slice_get (y ∷ (xs ++ ys))) e ∙ at_right xs ys j x h

in_flat : {X Y : Type 0} (f : X → List Y) (xs : List X) (i : ℕ) (d : X) (y : Y) → i < length xs → f (get_or xs i d) ≡ y ∷ [] → IsAmong y (flat_map f xs)
in_flat f [] i d y h e = absurd (omega arith)
in_flat f (x ∷ xs) zero d y h e = (0, ap (λ l. slice_get (l ++ flat_map f xs) 0) e)
in_flat f (x ∷ xs) (suc i) d y h e =
    let r = in_flat f xs i d y (omega arith) e in
    (length (f x) + r.0, at_right (f x) (flat_map f xs) r.0 y r.1)

more_below : (nodes : List Node) (n reader : ℕ) (e : Edge) (b : Bool) → eqb reader n ≡ b → reader < suc n → (reader < n → IsAmong e (edges_below nodes n))
    → IsAmong e (edges_into nodes reader) → IsAmong e (edges_below nodes n ++ edges_into nodes n)
more_below nodes n reader e true q h rest a =
    let same : reader ≡ n = grind (arith, q) in
    let s : IsAmong e (edges_into nodes n) = subst (λ k. IsAmong e (edges_into nodes k)) same a in
    (length (edges_below nodes n) + s.0, at_right (edges_below nodes n) (edges_into nodes n) s.0 e s.1)
more_below nodes n reader e false q h rest a =
    let l : reader < n = grind (arith, q, h) in
    let r = rest l in
    (r.0, at_left (edges_below nodes n) (edges_into nodes n) r.0 e r.1)

in_below : (nodes : List Node) (n reader : ℕ) (e : Edge) → reader < n → IsAmong e (edges_into nodes reader) → IsAmong e (edges_below nodes n)
in_below nodes zero reader e h a = absurd (omega arith)
in_below nodes (suc n) reader e h a = more_below nodes n reader e (eqb reader n) refl h (λ l. in_below nodes n reader e l a) a

-- an operand that isn't one word in all ticks is read over an edge
pub edge_among : (nodes : List Node) (reader i : ℕ) → reader < length nodes → is_offset (kind_at nodes reader) ≡ false
    → i < length (operands_at nodes reader) → is_steady (kind_at nodes (source_of nodes (operand_at nodes reader i)).node) ≡ false
    → IsAmong (record { from = (source_of nodes (operand_at nodes reader i)).node; to = reader; offset = (source_of nodes (operand_at nodes reader i)).offset })
    (edges_of nodes)
edge_among nodes reader i h f l s =
    let o = operand_at nodes reader i in
    let edge : Edge = record { from = (source_of nodes o).node; to = reader; offset = (source_of nodes o).offset } in
    let one : edge_of nodes reader o ≡ edge ∷ [] = ap (λ b. cond b [] (edge ∷ [])) s in
    let flat : IsAmong edge (flat_map (edge_of nodes reader) (operands_at nodes reader)) = in_flat (edge_of nodes reader) (operands_at nodes reader) i 0 edge l one in
    let into : IsAmong edge (edges_into nodes reader) =
    subst (λ es. IsAmong edge es) (sym (ap (λ b. cond b [] (flat_map (edge_of nodes reader) (operands_at nodes reader))) f)) flat in
    in_below nodes (length nodes) reader edge h into

pub among_within : {X : Type 0} (xs : List X) (j : ℕ) (x : X) → slice_get xs j ≡ Some x → j < length xs
among_within [] j x h = absurd (cc)
among_within (y ∷ xs) zero x h = omega arith
among_within (y ∷ xs) (suc j) x h = let r = among_within xs j x h in omega (arith, r)

pub among_is : {X : Type 0} (xs : List X) (j : ℕ) (x d : X) → slice_get xs j ≡ Some x → get_or xs j d ≡ x
among_is [] j x d h = absurd (cc)
among_is (y ∷ xs) zero x d h = cc
among_is (y ∷ xs) (suc j) x d h = among_is xs j x d h

-- so it isn't read before it was computed
pub is_later : (nodes : List Node) (s : Numbers) (reader i : ℕ) → AreTimes nodes s → reader < length nodes → is_offset (kind_at nodes reader) ≡ false
    → i < length (operands_at nodes reader) → IsLater nodes s reader (operand_at nodes reader i)
is_later nodes s reader i t h f l steady =
    let a = edge_among nodes reader i h f l steady in
    let within = among_within (edges_of nodes) a.0 _ a.1 in
    let at = among_is (edges_of nodes) a.0 _ (record { from = 0; to = 0; offset = pos 0 }) a.1 in
    subst (λ (e : Edge). pos 0 ≤ℤ behind_of s e) at (t.behind a.0 within)
