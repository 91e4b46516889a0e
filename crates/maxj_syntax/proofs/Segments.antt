-- Derivations from a place in the tokens up to another.
use Rattle.std.proofs.Common.{◌≡◌, List, [], ◌∷◌, ◌++◌, sym, subst}
use Rattle.maxj_tokens.specs.Scanning.{PlacedToken}
use Rattle.maxj_syntax.specs.Productions.{Part, Is, Choice}
use Rattle.maxj_syntax.specs.Steps.{between}

pub data Seg : List Part → List PlacedToken → List PlacedToken → Type 0 where
  none : {xs : List PlacedToken} → Seg [] xs xs
  token : {p : Part} {t : PlacedToken} {ps : List Part} {xs ys : List PlacedToken} → Is p t → Seg ps xs ys → Seg (p ∷ ps) (t ∷ xs) ys
  choice : {p : Part} {qs ps : List Part} {xs ms ys : List PlacedToken} → Choice (between xs ms) p qs → Seg qs xs ms → Seg ps ms ys → Seg (p ∷ ps) xs ys

pub then : {ps qs : List Part} {xs ms ys : List PlacedToken} → Seg ps xs ms → Seg qs ms ys → Seg (ps ++ qs) xs ys
then Seg.none e = e
then (Seg.token i d) e = Seg.token i (then d e)
then (Seg.choice c d d') e = Seg.choice c d (then d' e)

pub made : {p : Part} {qs : List Part} {xs ys : List PlacedToken} → Choice (between xs ys) p qs → Seg qs xs ys → Seg (p ∷ []) xs ys
made c d = Seg.choice c d Seg.none

pub tok : {p : Part} {ps : List Part} {t : PlacedToken} {xs ms ys : List PlacedToken} → xs ≡ t ∷ ms → Is p t → Seg ps ms ys → Seg (p ∷ ps) xs ys
tok {p = p} {ps = ps} {ys = ys} e i d = subst (λ l. Seg (p ∷ ps) l ys) (sym e) (Seg.token i d)

pub link : {p : Part} {ps : List Part} {xs ms ys : List PlacedToken} → Seg (p ∷ []) xs ms → Seg ps ms ys → Seg (p ∷ ps) xs ys
link (Seg.token i Seg.none) e = Seg.token i e
link (Seg.choice c d Seg.none) e = Seg.choice c d e

-- the first part, and the others
pub parted : {p : Part} {ps : List Part} {xs ys : List PlacedToken} → Seg (p ∷ ps) xs ys → (ms : List PlacedToken) × Seg (p ∷ []) xs ms × Seg ps ms ys
parted (Seg.token i d) = (_, Seg.token i Seg.none, d)
parted (Seg.choice c d e) = (_, Seg.choice c d Seg.none, e)
