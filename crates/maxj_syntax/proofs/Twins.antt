-- Classes of one name.
use Rattle.std.proofs.Common.{Bor, ◌≡◌, ◌∙◌, ℕ, zero, suc, ◌+◌, ◌<◌, Bool, true, false, ◌||◌, cond, not, nat_eq, inl, inr, List, [], ◌∷◌, ◌++◌, length, get_or, map, take, drop, refl, sym, ap, arith}
use Rattle.std.specs.Prelude.{if◌then◌else◌}
use Rattle.std.specs.List.{list_any}
use Rattle.std.specs.Str.{bytes_eq}
use Rattle.std.specs.Cmp.Lexicographic.{pointwise}
use Rattle.std.proofs.lemmas.List.Folds.{list_any-append}
use Rattle.std.proofs.lemmas.Slice.Eq.{bytes_eq-Decides}
use Rattle.maxj_syntax.specs.Tree.{ClassTree, ClassesAre}
use Rattle.maxj_syntax.specs.Faults.{has_class, has_twins}
use Rattle.maxj_syntax.specs.Cells.{Cell}
use Rattle.maxj_syntax.specs.declared.tree.Class.{Class}
use Rattle.text_scan.proofs.ByteTests.{clash, not_true, true_or_false, bytes_same}

abbrev pub names : List Class → List (List ℕ)
names cs = map (λ (c : Class). c.name) cs

-- a name stands twice
abbrev pub twice : List (List ℕ) → Bool
twice [] = false
twice (n ∷ ns) = if list_any (bytes_eq n) ns then true else twice ns

or_is : (a b : Bool) → cond a true b ≡ (a || b)
or_is true b = refl
or_is false b = refl

has_class_is : (nodes : List Cell) (cs : List Class) (ts : List ClassTree) (n : List ℕ) → ClassesAre nodes cs ts → has_class n ts ≡ list_any (bytes_eq n) (names cs)
has_class_is nodes [] [] n a = refl
has_class_is nodes [] (t ∷ ts) n a = absurd a
has_class_is nodes (c ∷ cs) [] n a = absurd a
has_class_is nodes (c ∷ cs) (t ∷ ts) n a =
    let head = a.0.name in
    rw (head, has_class_is nodes cs ts n a.1) (or_is (bytes_eq n t.name) (list_any (bytes_eq n) (names cs)))

pub has_twins_is : (nodes : List Cell) (cs : List Class) (ts : List ClassTree) → ClassesAre nodes cs ts → has_twins ts ≡ twice (names cs)
has_twins_is nodes [] [] a = refl
has_twins_is nodes [] (t ∷ ts) a = absurd a
has_twins_is nodes (c ∷ cs) [] a = absurd a
has_twins_is nodes (c ∷ cs) (t ∷ ts) a =
    let head = a.0.name in
    rw (head, has_class_is nodes cs ts t.name a.1, has_twins_is nodes cs ts a.1) refl

turned : (xs ys : List ℕ) → bytes_eq xs ys ≡ bytes_eq ys xs
turned xs ys = elim (true_or_false (bytes_eq xs ys)) [
  | inl e ↦ e ∙ sym ((bytes_eq-Decides ys xs).1 (sym (bytes_same xs ys e)))
  | inr e ↦ e ∙ sym (not_true _ (λ t. clash ((bytes_eq-Decides xs ys).1 (sym (bytes_same ys xs t))) e))
]

-- the names seen, and one more
seen_more : (ns : List (List ℕ)) (n q : List ℕ) → cond (bytes_eq n q) true (list_any (bytes_eq q) ns) ≡ list_any (bytes_eq q) (ns ++ n ∷ [])
seen_more ns n q = ap (λ b. cond b true (list_any (bytes_eq q) ns)) (turned n q) ∙ either (bytes_eq q n) (list_any (bytes_eq q) ns) ∙ sym (list_any-append (bytes_eq q) ns (n ∷ []))
  where
    either : (a b : Bool) → cond a true b ≡ (b || (a || false))
    either true true = refl
    either true false = refl
    either false true = refl
    either false false = refl

-- a name stands twice with one more where it does without it, or the one more stands before
twice_more : (ns : List (List ℕ)) (n : List ℕ) → twice (ns ++ n ∷ []) ≡ (list_any (bytes_eq n) ns || twice ns)
twice_more [] n = refl
twice_more (x ∷ ns) n =
    rw (list_any-append (bytes_eq x) ns (n ∷ []), twice_more ns n, turned x n) (regrouped (list_any (bytes_eq x) ns) (bytes_eq n x) (list_any (bytes_eq n) ns) (twice ns))
  where
    regrouped : (a b c d : Bool) → cond (a || (b || false)) true (c || d) ≡ ((b || c) || cond a true d)
    regrouped true true c d = refl
    regrouped true false true d = refl
    regrouped true false false d = refl
    regrouped false true c d = refl
    regrouped false false true d = refl
    regrouped false false false d = refl

twice_kept : (ns ms : List (List ℕ)) → twice ns ≡ true → twice (ns ++ ms) ≡ true
twice_kept [] ms e = cc
twice_kept (n ∷ ns) ms e = elim (true_or_false (list_any (bytes_eq n) ns)) [
  | inl h ↦ rw (list_any-append (bytes_eq n) ns ms, h) refl
  | inr h ↦ (let more : twice ns ≡ true = rw h at e in kept (list_any (bytes_eq n) (ns ++ ms)) (twice_kept ns ms more))
]
  where
    kept : {b : Bool} (a : Bool) → b ≡ true → cond a true b ≡ true
    kept true e = refl
    kept false e = e

names_more : (cs : List Class) (i : ℕ) (d : Class) → i < length cs → names (take (i + 1) cs) ≡ names (take i cs) ++ (get_or cs i d).name ∷ []
names_more [] i d h = absurd (omega arith)
names_more (c ∷ cs) zero d h = refl
names_more (c ∷ cs) (suc i) d h = let e : suc i + 1 ≡ suc (i + 1) = omega arith in rw e (ap (λ l. c.name ∷ l) (names_more cs i d (omega arith)))

names_split : (cs : List Class) (i : ℕ) → names cs ≡ names (take i cs) ++ names (drop i cs)
names_split [] zero = refl
names_split [] (suc i) = refl
names_split (c ∷ cs) zero = refl
names_split (c ∷ cs) (suc i) = ap (λ l. c.name ∷ l) (names_split cs i)

-- at a loop over the classes

abbrev pub is : Bor (List ℕ) → Bor (List ℕ) → Bool
is q name = pointwise nat_eq q.now name.now

-- the set after the name of one more class
pub seen_at : (cs : List Class) (i : ℕ) (d : Class) (name q : Bor (List ℕ)) → i < length cs
    → name.now ≡ (get_or cs i d).name
    → cond (is name q) true (list_any (bytes_eq q.now) (names (take i cs))) ≡ list_any
    (bytes_eq q.now) (names (take (i + 1) cs))
seen_at cs i d name q lt e = seen_more (names (take i cs)) name.now q.now ∙ ap
    (λ n. list_any (bytes_eq q.now) (names (take i cs) ++ n
    ∷ [])) e ∙ ap (list_any (bytes_eq q.now)) (sym (names_more cs i d lt))

negated : (b c : Bool) → c ≡ not b → b ≡ not c
negated true c e = rw e refl
negated false c e = rw e refl

twice_at : (cs : List Class) (i : ℕ) (d : Class) (name : List ℕ) (has fresh : Bool)
    → i < length cs → name ≡ (get_or cs i d).name → fresh ≡ not has
    → has ≡ list_any (bytes_eq name) (names (take i cs))
    → twice (names (take (i + 1) cs)) ≡ (not fresh || twice (names (take i cs)))
twice_at cs i d name has fresh lt e f g =
    ap twice (names_more cs i d lt) ∙ twice_more (names (take i cs)) ((get_or cs i d).name)
    ∙ ap (λ b. b || twice (names (take i cs))) (ap (λ n. list_any (bytes_eq n) (names (take i cs))) (sym e) ∙ sym g ∙ negated has fresh f)

-- the name of one more class stood before
pub found : (cs : List Class) (i : ℕ) (d : Class) (name : List ℕ) (has fresh : Bool)
    → i < length cs → name ≡ (get_or cs i d).name → fresh ≡ not has
    → has ≡ list_any (bytes_eq name) (names (take i cs)) → fresh ≡ false → twice (names cs) ≡ true
found cs i d name has fresh lt e f g h =
    ap twice (names_split cs (i + 1)) ∙ twice_kept (names (take (i + 1) cs)) (names (drop (i + 1) cs)) (twice_at cs i d name has fresh lt e f g ∙ ap (λ b. not b || twice (names (take i cs))) h)

pub none_more : (cs : List Class) (i : ℕ) (d : Class) (name : List ℕ) (has fresh : Bool)
    → i < length cs → name ≡ (get_or cs i d).name → fresh ≡ not has
    → has ≡ list_any (bytes_eq name) (names (take i cs)) → fresh ≡ true
    → twice (names (take i cs)) ≡ false → twice (names (take (i + 1) cs)) ≡ false
none_more cs i d name has fresh lt e f g h none = twice_at cs i d name has fresh lt e f g ∙ ap (λ b. not b || twice (names (take i cs))) h ∙ none
