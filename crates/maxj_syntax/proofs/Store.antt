-- Nodes whose children stand in one list: one more of them, and the one with a number.
use Rattle.std.proofs.Common.{◌≡◌, ◌∙◌, ℕ, zero, suc, ◌+◌, ◌-◌, ◌<◌, ◌≤◌, List, [], ◌∷◌, ◌++◌, Some, None, refl, ap, arith, length, take, drop, slice_get, slice_index_or}
use Rattle.std.proofs.lemmas.List.{drop-append-le, take-append-le, length-drop}
use Rattle.std.proofs.Math.Seq.{drop-append_seam, take-length}
use Rattle.maxj_syntax.specs.declared.draft.Draft.{Draft}
use Rattle.maxj_syntax.specs.declared.draft.Packed.{Packed}
use Rattle.maxj_syntax.specs.Store.{drafts, AreEnds, start_at}

-- a node with these children
abbrev pub draft_of : Packed → List ℕ → Draft
draft_of p children = record { kind = p.kind; word = p.word; span = p.span; children = children }

pub within : (from : ℕ) (ps : List Packed) (size : ℕ) → AreEnds from ps size → from ≤ size
within from [] size h = omega (arith, h)
within from (p ∷ ps) size h = let m = within p.end ps size h.1 in omega (arith, h.0, m)

part : (from to : ℕ) (children more : List ℕ) → from ≤ to → to ≤ length children → take (to - from) (drop from (children ++ more)) ≡ take (to - from) (drop from children)
part from to children more h k =
    ap (take (to - from)) (drop-append-le from children more (omega (arith, h, k))) ∙ take-append-le (to - from) (drop from children) more (omega (arith, h, k, length-drop from children))

-- further children change no node
pub same_drafts : (from : ℕ) (ps : List Packed) (children more : List ℕ) → AreEnds from ps (length children) → drafts from ps (children ++ more) ≡ drafts from ps children
same_drafts from [] children more h = refl
same_drafts from (p ∷ ps) children more h =
    let k = part from p.end children more h.0 (within p.end ps (length children) h.1) in
    ap (λ l. draft_of p l ∷ drafts p.end ps (children ++ more)) k ∙ ap (λ l. draft_of p (take (p.end - from) (drop from children)) ∷ l) (same_drafts p.end ps children more h.1)

last_part : (from to : ℕ) (children more : List ℕ) → from ≡ length children → to ≡ length children + length more → take (to - from) (drop from (children ++ more)) ≡ more
last_part from to children more e f =
    let n : to - from ≡ length more = omega (arith, e, f) in
    ap (λ m. take m (drop from (children ++ more))) n ∙ ap (λ m. take (length more) (drop m (children ++ more))) e ∙ ap (take (length more)) (drop-append_seam children more) ∙ take-length more

-- one more node, with the further children
pub one_more : (from : ℕ) (ps : List Packed) (children more : List ℕ) (q : Packed)
    → AreEnds from ps (length children) → q.end ≡ length children + length more
    → drafts from (ps ++ q ∷ []) (children ++ more) ≡ drafts from ps children ++ draft_of q more
    ∷ []
one_more from [] children more q h e = ap (λ l. draft_of q l ∷ []) (last_part from q.end children more h e)
one_more from (p ∷ ps) children more q h e =
    let k = part from p.end children more h.0 (within p.end ps (length children) h.1) in
    ap (λ l. draft_of p l ∷ drafts p.end (ps ++ q ∷ []) (children ++ more)) k ∙ ap (λ l. draft_of p (take (p.end - from) (drop from children)) ∷ l) (one_more p.end ps children more q h.1 e)

pub ends_more : (from : ℕ) (ps : List Packed) (size now : ℕ) (q : Packed) → AreEnds from ps size → size ≤ q.end → q.end ≡ now → AreEnds from (ps ++ q ∷ []) now
ends_more from [] size now q h k e = (omega (arith, h, k), e)
ends_more from (p ∷ ps) size now q h k e = (h.0, ends_more p.end ps size now q h.1 k e)

-- there are as many
pub as_many : (from : ℕ) (ps : List Packed) (children : List ℕ) → length (drafts from ps children) ≡ length ps
as_many from [] children = refl
as_many from (p ∷ ps) children = ap suc (as_many p.end ps children)

-- where the children of a node begin and end
pub start_within : (from : ℕ) (ps : List Packed) (size n : ℕ) (p : Packed) → AreEnds from ps size → slice_get ps n ≡ Some p → (start_at from ps n ≤ p.end) × (p.end ≤ size)
start_within from [] size n p h e = absurd (cc)
start_within from (q ∷ ps) size zero p h e =
    let same : q ≡ p = cc in
    let k = within q.end ps size h.1 in
    let f = ap (λ (x : Packed). x.end) same in
    (omega (arith, h.0, f), omega (arith, k, f))
start_within from (q ∷ ps) size (suc n) p h e = start_within q.end ps size n p h.1 e

-- the node with a number
pub draft_at : (from : ℕ) (ps : List Packed) (children : List ℕ) (n : ℕ) (p : Packed)
    → slice_get ps n ≡ Some p → slice_get (drafts from ps children) n ≡ Some
    (draft_of p (take (p.end - start_at from ps n) (drop (start_at from ps n) children)))
draft_at from [] children n p e = absurd (cc)
draft_at from (q ∷ ps) children zero p e = let same : q ≡ p = cc in ap (λ x. Some (draft_of x (take (x.end - from) (drop from children)))) same
draft_at from (q ∷ ps) children (suc n) p e = draft_at q.end ps children n p e

-- the children of a node begin where those of the node before it end
pub start_behind : (from : ℕ) (ps : List Packed) (n m : ℕ) (d : Packed) → n ≡ suc m → n < length ps → start_at from ps n ≡ (slice_index_or ps m d).end
start_behind from [] n m d e h = absurd (omega (arith, h))
start_behind from (q ∷ ps) zero m d e h = absurd (omega (arith, e))
start_behind from (q ∷ []) (suc n) m d e h = absurd (omega (arith, h))
start_behind from (q ∷ r ∷ ps) (suc zero) zero d e h = refl
start_behind from (q ∷ r ∷ ps) (suc zero) (suc m) d e h = absurd (omega (arith, e))
start_behind from (q ∷ r ∷ ps) (suc (suc n)) zero d e h = absurd (omega (arith, e))
start_behind from (q ∷ r ∷ ps) (suc (suc n)) (suc m) d e h = start_behind q.end (r ∷ ps) (suc n) m d (omega (arith, e)) (omega (arith, h))

pub start_first : (from : ℕ) (ps : List Packed) (n : ℕ) → n ≡ 0 → start_at from ps n ≡ from
start_first from [] n e = refl
start_first from (p ∷ ps) zero e = refl
start_first from (p ∷ ps) (suc n) e = absurd (omega (arith, e))

pub none_at : (from : ℕ) (ps : List Packed) (children : List ℕ) (n : ℕ) → slice_get ps n ≡ None → slice_get (drafts from ps children) n ≡ None
none_at from [] children n e = refl
none_at from (p ∷ ps) children zero e = absurd (cc)
none_at from (p ∷ ps) children (suc n) e = none_at p.end ps children n e
