-- The tokens have at most one list of classes.
use Rattle.std.proofs.Common.{◌≡◌, List, [], ◌∷◌, ◌++◌, Option, Some, refl, sym, subst}
use Rattle.grammar.specs.Stack.{Runs, Ends, head_of}
use Rattle.grammar.proofs.Stack.{AllFollow}
use Rattle.grammar.proofs.Leftmost.{starts_from_runs}
use Rattle.maxj_tokens.specs.Scanning.{PlacedToken}
use Rattle.maxj_syntax.specs.Tree.{ClassTree}
use Rattle.maxj_syntax.specs.Productions.{IsFile}
use Rattle.maxj_syntax.specs.Symbols.{Symbol, Sub, Call}
use Rattle.maxj_syntax.specs.Choosing.{Is, Choice, may, empties, peeks, choose}
use Rattle.maxj_syntax.specs.Steps.{Entry, Below, Ground, Goes}
use Rattle.maxj_syntax.specs.Building.{AllEnds}
use Rattle.maxj_syntax.proofs.Predict.{unique, unique_end, ends_before}
use Rattle.maxj_syntax.proofs.Fits.{predicts}
use Rattle.maxj_syntax.proofs.MoveLemmas.{from_move}
use Rattle.maxj_syntax.proofs.NamedMoves.{from_named}
use Rattle.maxj_syntax.proofs.Machine.{goes_runs}
use Rattle.maxj_syntax.proofs.Judge.{to_goes}

some_same : {a b : List Symbol} (o : Option (List Symbol)) → o ≡ Some a → o ≡ Some b → a ≡ b
some_same o e f = cc

taken : (p : Symbol) (qs ps : List Symbol) (ys : List PlacedToken) → Choice p qs → Ends may empties peeks p ps → Runs Is Choice (qs ++ ps) ys → choose p (head_of ys) ≡ Some qs
taken p qs ps [] c e z = unique_end Is Choice may empties peeks choose predicts {p = p} ps c z
taken p qs ps (t ∷ ts) c e z = unique Is Choice may empties peeks choose predicts {p = p} ps e c (starts_from_runs Is Choice z)

-- a rule's choice, where the tokens are read to their end
one_choice : (p : Symbol) (qs ws ps : List Symbol) (ys : List PlacedToken) → Choice p qs
    → Choice p ws → Ends may empties peeks p ps → Runs Is Choice (qs ++ ps) ys
    → Runs Is Choice (ws ++ ps) ys → ws ≡ qs
one_choice p qs ws ps ys c d e y z = some_same _ (taken p ws ps ys d e z) (taken p qs ps ys c e y)

ends_all : (p : Symbol) (qs ps : List Symbol) → AllFollow may empties peeks p qs → Ends may empties peeks p ps → AllEnds ps → AllEnds (qs ++ ps)
ends_all p [] ps f e h = h
ends_all p (q ∷ rest) ps f e h = (ends_before Is Choice may empties peeks choose predicts p q rest ps f.0 e, ends_all p rest ps f.1 e h)

moved : {ps : List Symbol} {m n d : Entry} {r t u : Below} {ms ns zs : List PlacedToken} → (m ≡ n) × (r ≡ t) × (ms ≡ ns) → Goes ps n t ns d u zs → Goes ps m r ms d u zs
moved {ps = ps} {m = m} {n = n} {d = d} {r = r} {t = t} {u = u} {ms = ms} {ns = ns} {zs = zs} e g =
    subst (λ x. Goes ps x r ms d u zs) (sym e.0) (subst (λ x. Goes ps n x ms d u zs) (sym e.1) (subst (λ x. Goes ps n t x d u zs) (sym e.2) g))

other : {ps qs : List Symbol} {b c : Entry} {s q : Below} {xs ys : List PlacedToken} → ps ≡ qs → Goes ps b s xs c q ys → Goes qs b s xs c q ys
other {b = b} {c = c} {s = s} {q = q} {xs = xs} {ys = ys} f g = subst (λ l. Goes l b s xs c q ys) f g

-- what is read to the end is read in one way
same_goes : {ps : List Symbol} {b c d : Entry} {s q r : Below} {xs ys zs : List PlacedToken}
    (rest : List Symbol) → AllEnds (ps ++ rest) → Goes ps b s xs c q ys → Goes ps b s xs d r zs
    → Runs Is Choice rest ys → Runs Is Choice rest zs
    → (c ≡ d) × (q ≡ r) × (ys ≡ zs)
same_goes rest h Goes.none Goes.none x y = (refl, refl, refl)
same_goes rest h (Goes.mark i g) (Goes.mark j k) x y = same_goes rest h.1 g k x y
same_goes rest h (Goes.name i g) (Goes.name j k) x y = same_goes rest h.1 g k x y
same_goes rest h (Goes.act g) (Goes.act k) x y = same_goes rest h.1 g k x y
same_goes {xs = xs} rest h (Goes.rule {p = p} {qs = qs} {ps = ps} v d g) (Goes.rule {qs = ws} w e k) x y =
    let i = goes_runs rest g x in
    let j = goes_runs rest k y in
    let f : ws ≡ qs = one_choice (Sub p) qs ws (ps ++ rest) xs (from_move v) (from_move w) h.0 (goes_runs (ps ++ rest) d i) (goes_runs (ps ++ rest) e j) in
    let o = same_goes (ps ++ rest) (ends_all (Sub p) qs (ps ++ rest) (predicts.follow (Sub p) qs (from_move v)) h.0 h.1) d (other f e) i j in
    same_goes rest h.1 g (moved o k) x y
same_goes {xs = xs} rest h (Goes.call {n = n} {qs = qs} {ps = ps} v d g) (Goes.call {qs = ws} w e k) x y =
    let i = goes_runs rest g x in
    let j = goes_runs rest k y in
    let f : ws ≡ qs = one_choice (Call n) qs ws (ps ++ rest) xs (from_named v) (from_named w) h.0 (goes_runs (ps ++ rest) d i) (goes_runs (ps ++ rest) e j) in
    let o = same_goes (ps ++ rest) (ends_all (Call n) qs (ps ++ rest) (predicts.follow (Call n) qs (from_named v)) h.0 h.1) d (other f e) i j in
    same_goes rest h.1 g (moved o k) x y

same_ground : {cs ds : List ClassTree} → Ground cs ≡ Ground ds → cs ≡ ds
same_ground e = cc

pub one_file : (tokens : List PlacedToken) (cs ds : List ClassTree) → IsFile tokens cs → IsFile tokens ds → cs ≡ ds
one_file tokens cs ds h g = same_ground (same_goes [] (λ t p. refl, tt) (to_goes tokens cs h) (to_goes tokens ds g) Runs.end Runs.end).1
