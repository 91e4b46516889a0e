-- From what the parser reads to the productions: the classes, and the first bad token.
use Rattle.std.proofs.Common.{◌≡◌, ◌+◌, ◌<◌, ◌-◌, List, [], ◌∷◌, ◌++◌, refl, sym, ap, subst, ◌∙◌, append_assoc, arith, length, length-append, take}
use Rattle.std.proofs.lemmas.List.{append-nil}
use Rattle.grammar.specs.Stack.{Runs, Starts, Refused}
use Rattle.grammar.proofs.Leftmost.{starts_from_runs, starts_front}
use Rattle.maxj_syntax.specs.declared.build.Builder.{Builder}
use Rattle.maxj_syntax.specs.declared.symbol.Rule.{Rule}
use Rattle.maxj_tokens.specs.Scanning.{PlacedToken, span_of}
use Rattle.maxj_syntax.specs.Tree.{ClassTree}
use Rattle.maxj_syntax.specs.Productions.{Part, IsFile}
use Rattle.maxj_syntax.specs.Productions as S
use Rattle.maxj_syntax.specs.Derivation.{Derives}
use Rattle.maxj_syntax.specs.Faults.{BeginsSource, IsFirstMisplaced}
use Rattle.maxj_syntax.specs.Symbols.{Symbol, Mark, Name, Sub, Call, Act}
use Rattle.maxj_syntax.specs.Choosing.{Is, Choice}
use Rattle.maxj_syntax.specs.Steps.{Entry, Below, Ground, Goes, between}
use Rattle.maxj_syntax.specs.Building.{Reached, bottom}
use Rattle.maxj_syntax.proofs.Predict.{refused_after}
use Rattle.maxj_syntax.proofs.Segments.{Seg}
use Rattle.maxj_syntax.proofs.Sound.{sound}
use Rattle.maxj_syntax.proofs.Runs.{expand, expand_named}
use Rattle.maxj_syntax.proofs.Complete.{complete}
use Rattle.maxj_syntax.proofs.MoveLemmas.{to_move}
use Rattle.maxj_syntax.proofs.NamedMoves.{to_named}
use Rattle.maxj_syntax.proofs.Productive.{ended_somehow}
use Rattle.maxj_syntax.proofs.Machine.{goes_runs}

take_front : (a ys : List PlacedToken) → take (length a) (a ++ ys) ≡ a
take_front [] ys = refl
take_front (x ∷ a) ys = ap (λ l. x ∷ l) (take_front a ys)

between_front : (front ys : List PlacedToken) → between (front ++ ys) ys ≡ span_of front
between_front front ys =
    let n : length (front ++ ys) - length ys ≡ length front = omega (arith, length-append front ys) in
    ap (λ m. span_of (take m (front ++ ys))) n ∙ ap span_of (take_front front ys)

segment : {ps : List Part} {front : List PlacedToken} → Derives span_of S.Is S.Choice ps front → (ys : List PlacedToken) → Seg ps (front ++ ys) ys
segment Derives.none ys = Seg.none
segment (Derives.token i d) ys = Seg.token i (segment d ys)
segment (Derives.choice {p = p} {qs = qs} {ps = ps} {front = f} {back = b} c d e) ys =
    rw append_assoc (Seg.choice (subst (λ s. S.Choice s p qs) (sym (between_front f (b ++ ys))) c) (segment d (b ++ ys)) (segment e ys))

derived : {ps : List Part} {xs ys : List PlacedToken} → Seg ps xs ys → (front : List PlacedToken) × (xs ≡ front ++ ys) × Derives span_of S.Is S.Choice ps front
derived Seg.none = ([], refl, Derives.none)
derived (Seg.token {t = t} i d) = let r = derived d in (t ∷ r.0, ap (λ l. t ∷ l) r.1, Derives.token i r.2)
derived (Seg.choice {p = p} {qs = qs} {xs = xs} {ms = ms} {ys = ys} c d e) =
    let r = derived d in
    let q = derived e in
    let f : S.Choice (span_of r.0) p qs = subst (λ s. S.Choice s p qs) (ap (λ l. between l ms) r.1 ∙ between_front r.0 ms) c in
    (r.0 ++ q.0, r.1 ∙ ap (λ l. r.0 ++ l) q.1 ∙ sym (append_assoc r.0 q.0 ys), Derives.choice f r.2 q.2)

runs_goes : {ps : List Symbol} {xs : List PlacedToken} → Runs Is Choice ps xs → (b : Entry) (s : Below) → (c : Entry) × (q : Below) × Goes ps b s xs c q []
runs_goes Runs.end b s = (b, s, Goes.none)
runs_goes (Runs.eat {p = p} {t = t} {ps = ps} {ts = ts} i r) b s = eaten p i r b s (λ b s. runs_goes r b s)
  where
    eaten : (p : Symbol) → Is p t → Runs Is Choice ps ts → (b : Entry) (s : Below)
        → ((b : Entry) (s : Below) → (c : Entry) × (q : Below) × Goes ps b s ts c q [])
        → (c : Entry) × (q : Below) × Goes (p ∷ ps) b s (t ∷ ts) c q []
    eaten (Mark k e) i r b s h = let g = h _ _ in (g.0, g.1, Goes.mark i g.2)
    eaten (Name w e) i r b s h = let g = h _ _ in (g.0, g.1, Goes.name i g.2)
    eaten (Sub k) i r b s h = absurd i
    eaten (Call k) i r b s h = absurd i
    eaten (Act k) i r b s h = absurd i
runs_goes (Runs.pick {p = p} qs {ps = ps} {ts = ts} c r) b s = picked p qs c b s (λ b s. runs_goes r b s)
  where
    picked : (p : Symbol) (qs : List Symbol) → Choice p qs → (b : Entry) (s : Below)
        → ((b : Entry) (s : Below) → (c : Entry) × (q : Below) × Goes (qs ++ ps) b s ts c q [])
        → (c : Entry) × (q : Below) × Goes (p ∷ ps) b s ts c q []
    picked (Mark k e) qs c b s h = absurd c
    picked (Name w e) qs c b s h = absurd c
    picked (Call n) qs c b s h = let g = h b s in (g.0, g.1, expand_named (to_named n qs c) g.2)
    picked (Sub r) qs c b s h = let g = h b s in (g.0, g.1, expand (to_move r qs c) g.2)
    picked (Act a) qs c b s h = let g = (subst (λ l. (b : Entry) (s : Below) → (c : Entry) × (q : Below) × Goes (l ++ ps) b s ts c q []) (sym c) h) _ _ in (g.0, g.1, Goes.act g.2)

from_runs : (xs : List PlacedToken) → Runs Is Choice (Sub Rule.File ∷ []) xs → (classes : List ClassTree) × IsFile xs classes
from_runs xs r =
    let g = runs_goes r bottom (Ground []) in
    let v = sound g.2 in
    let d = derived v.3 in
    (v.0, subst (λ l. IsFile l v.0) (sym (d.1 ∙ append-nil d.0)) d.2)

pub to_goes : (xs : List PlacedToken) (classes : List ClassTree) → IsFile xs classes → Goes (Sub Rule.File ∷ []) bottom (Ground []) xs bottom (Ground classes) []
to_goes xs classes d = complete classes bottom (Ground []) xs [] (subst (λ l. Seg (Part.File classes ∷ []) l []) (append-nil xs) (segment d []))

to_runs : (xs : List PlacedToken) (classes : List ClassTree) → IsFile xs classes → Runs Is Choice (Sub Rule.File ∷ []) xs
to_runs xs classes d = goes_runs [] (to_goes xs classes d) Runs.end

-- the first bad token
pub bad_place : (tokens ys : List PlacedToken) (symbols : List Symbol) (builder : Builder)
    → Reached tokens ys symbols builder → Refused Is Choice symbols ys ys
    → IsFirstMisplaced tokens (length tokens - length ys)
bad_place tokens ys symbols builder h f =
    let r = refused_after Is Choice h.0 f in
    let n : length tokens - length ys ≡ length r.read = omega (arith, ap length r.split, length-append r.read ys) in
    let front : take (length r.read) tokens ≡ r.read = ap (λ l. take (length r.read) l) r.split ∙ take_front r.read ys in
    record {
      within = omega arith;
      begun = let e = ended_somehow r.begun (tt, tt) in let x = from_runs (r.read ++ e.0) e.1 in (e.0, x.0, subst (λ l. IsFile (l ++ e.0) x.0) (sym (ap (λ m. take m tokens) n ∙ front)) x.1);
      bad = λ k b. at ys refl (rw n at k) (rw n at b);
      none = λ tree d. over ys refl (to_runs tokens tree d);
    }
  where
    at : (zs : List PlacedToken) → ys ≡ zs → length (refused_after Is Choice h.0 f).read < length tokens → BeginsSource (take (length (refused_after Is Choice h.0 f).read + 1) tokens) → ⊥
    at [] e k b = let r = refused_after Is Choice h.0 f in let g = ap length r.split in let i = ap length e in absurd (omega (arith, k, g, i, length-append r.read ys))
    at (t ∷ rest) e k b =
        let r = refused_after Is Choice h.0 f in
        let g : tokens ≡ (r.read ++ t ∷ []) ++ rest = r.split ∙ ap (λ l. r.read ++ l) e ∙ sym (append_assoc r.read (t ∷ []) rest) in
        let m : length r.read + 1 ≡ length (r.read ++ t ∷ []) = sym (length-append r.read (t ∷ [])) in
        let i : take (length r.read + 1) tokens ≡ r.read ++ t ∷ [] = ap (λ n. take n tokens) m ∙ ap (λ l. take (length (r.read ++ t ∷ [])) l) g ∙ take_front (r.read ++ t ∷ []) rest in
        r.bad t rest e (starts_front Is Choice (r.read ++ t ∷ []) b.0 (starts_from_runs Is Choice (subst (λ l. Runs Is Choice (Sub Rule.File ∷ []) (l ++ b.0)) i (to_runs _ b.1 b.2))))

    over : (zs : List PlacedToken) → ys ≡ zs → Runs Is Choice (Sub Rule.File ∷ []) tokens → ⊥
    over [] e s = (refused_after Is Choice h.0 f).short e s
    over (t ∷ rest) e s =
        let r = refused_after Is Choice h.0 f in
        let g : tokens ≡ (r.read ++ t ∷ []) ++ rest = r.split ∙ ap (λ l. r.read ++ l) e ∙ sym (append_assoc r.read (t ∷ []) rest) in
        r.bad t rest e (starts_front Is Choice (r.read ++ t ∷ []) rest (subst (λ l. Starts Is Choice (Sub Rule.File ∷ []) l) g (starts_from_runs Is Choice s)))

-- all is read
pub whole_file : (tokens : List PlacedToken) (builder : Builder)
    (h : Reached tokens [] [] builder) → (classes : List ClassTree) × (h.2 ≡ bottom)
    × (h.3 ≡ Ground classes) × IsFile tokens classes × ((others : List ClassTree)
    → IsFile tokens others → others ≡ classes)
whole_file tokens builder h =
    let v = sound (h.5 h.2 h.3 Goes.none) in
    let d = derived v.3 in (
      v.0,
      v.1,
      v.2,
      subst (λ l. IsFile l v.0) (sym (d.1 ∙ append-nil d.0)) d.2,
      λ others k. classes_same (nothing (h.6 bottom (Ground others) (to_goes tokens others k)) ∙ v.2),
    )
  where
    nothing : {b c : Entry} {s q : Below} → Goes [] b s [] c q [] → q ≡ s
    nothing Goes.none = refl

    classes_same : {cs ds : List ClassTree} → Ground cs ≡ Ground ds → cs ≡ ds
    classes_same e = cc
