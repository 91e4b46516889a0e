-- The table passes the test of a grammar whose choice the next token tells.
use Rattle.std.proofs.Common.{◌≡◌, ℕ, List, [], ◌∷◌, Bool, true, false, ◌&&◌, ◌||◌, if◌then◌else◌, Option, Some, None, refl, sym, ap, subst, ◌∙◌, bit_or, ◌⊎◌, inl, inr}
use Rattle.std.specs.Str.{bytes_eq}
use Rattle.grammar.specs.Stack.{all_empty, may_all}
use Rattle.grammar.proofs.Stack.{Predicts, AllFollow}
use Rattle.maxj_syntax.specs.declared.level.Level.{Level}
use Rattle.maxj_syntax.specs.declared.kind.Kind.{Kind}
use Rattle.maxj_syntax.specs.declared.symbol.TokenClass.{TokenClass}
use Rattle.maxj_syntax.specs.declared.symbol.TokenClass.TheVariants as C
use Rattle.maxj_syntax.specs.declared.symbol.Effect.{Effect}
use Rattle.maxj_syntax.specs.declared.symbol.Form.{Form}
use Rattle.maxj_syntax.specs.declared.symbol.Site.{Site}
use Rattle.maxj_syntax.specs.declared.symbol.Rule.{Rule}
use Rattle.maxj_syntax.specs.declared.symbol.Rule.TheVariants as R
use Rattle.maxj_tokens.specs.Tokens.{Token, written}
use Rattle.maxj_tokens.specs.Scanning.{PlacedToken}
use Rattle.maxj_syntax.specs.Kinds.{kind_of}
use Rattle.maxj_syntax.specs.TokenClasses.{number, class_has, Accepts}
use Rattle.maxj_syntax.specs.Productions.{is_name}
use Rattle.maxj_syntax.specs.Symbols.{Inside, Symbol, Mark, Name, Sub, Call, Act}
use Rattle.maxj_syntax.specs.Symbols as Y
use Rattle.maxj_syntax.specs.Table.{choices, guards}
use Rattle.maxj_syntax.specs.Lookahead.{first, nullable, peek, weight}
use Rattle.maxj_syntax.specs.Choosing.{has, within, apart, implies, set_of, Among, Is, Choice}
use Rattle.maxj_syntax.specs.Choosing.{begins, empties, goes_on, all_begin, may, peeks, admits}
use Rattle.maxj_syntax.specs.Choosing.{pick, kind_at, name_next, choose, is_otherwise, is_last}
use Rattle.maxj_syntax.specs.Choosing.{covers, ordered, follows}
use Rattle.maxj_syntax.proofs.ChoicesFit.{choice_fits, choices_fit, nameless}
use Rattle.maxj_syntax.specs.Choosing.{named_choices, named_guards, named_first}
use Rattle.maxj_syntax.proofs.ChoicesFit.{lighter}
use Rattle.maxj_syntax.specs.Choosing.{named_nullable, named_peek, named_weight, binds, bound}
use Rattle.maxj_syntax.specs.Choosing.{begins_member, member_choices, member_guards}
use Rattle.text_scan.proofs.ByteTests.{or_true, clash, not_true, bytes_same, bytes_refl}
use Rattle.maxj_syntax.proofs.Sets.{within_has, apart_has, or_has_left, or_has_right, classes_have, have_classes}
use Rattle.maxj_syntax.proofs.ClassLemmas.{accepted, accepts}
use Rattle.maxj_syntax.specs.declared.symbol.ClassKind.{ClassKind}

pub and_left : (a b : Bool) → (a && b) ≡ true → a ≡ true
and_left true b e = refl
and_left false b e = absurd (cc)

pub and_right : (a b : Bool) → (a && b) ≡ true → b ≡ true
and_right true b e = e
and_right false b e = absurd (cc)

implied : (a b : Bool) → implies a b ≡ true → a ≡ true → b ≡ true
implied true b e f = e
implied false b e f = absurd (cc)

-- the set of a list has the kinds that may begin it
grown : (b : Bool) (s r k : ℕ) (more : Bool) → (has s k || (b && more)) ≡ true → (more ≡ true → has r k ≡ true) → has (if b then bit_or s r else s) k ≡ true
grown true s r k more e h = elim (or_true (has s k) more e) [
  | inl f ↦ or_has_left s r k f
  | inr f ↦ or_has_right s r k (h f)
]
grown false s r k more e h = elim (or_true (has s k) false e) [
  | inl f ↦ f
  | inr f ↦ absurd (cc)
]

may_begins : (q : Symbol) (t : PlacedToken) → may q t ≡ true → has (begins q) (number (kind_of t.token)) ≡ true
may_begins (Mark c e) t m = m
may_begins (Name w e) t m = and_left (has (set_of (C.Name ∷ [])) (number (kind_of t.token))) _ m
may_begins (Sub r) t m = m
may_begins (Call n) t m = m
may_begins (Act a) t m = m

weaker : (a c d : Bool) → (a ≡ true → c ≡ true) → (a || d) ≡ true → (c || d) ≡ true
weaker true c d f e = let g = f refl in rw g refl
weaker false true d f e = refl
weaker false false d f e = e

pub all_may : (qs : List Symbol) (t : PlacedToken) → may_all may empties qs t ≡ true → has (all_begin qs) (number (kind_of t.token)) ≡ true
all_may [] t e = absurd (cc)
all_may (q ∷ qs) t e = grown (empties q) (begins q) (all_begin qs) (number (kind_of t.token)) _ (weaker (may q t) _ _ (may_begins q t) e) (all_may qs t)

not_may : (qs : List Symbol) (t : PlacedToken) → (has (all_begin qs) (number (kind_of t.token)) ≡ true → ⊥) → may_all may empties qs t ≡ false
not_may qs t h = not_true _ (λ e. h (all_may qs t e))

choice_at : (b : ℕ) (e : Bool) (on : ℕ) (cs : List (List Symbol)) (qs : List Symbol) → choices_fit b e on cs ≡ true → Among qs cs → choice_fits b e on qs ≡ true
choice_at b e on [] qs f a = absurd a
choice_at b e on (c ∷ cs) qs f a = elim a [
  | inl g ↦ subst (λ x. choice_fits b e on x ≡ true) g (and_left (choice_fits b e on c) _ f)
  | inr i ↦ choice_at b e on cs qs (and_right (choice_fits b e on c) _ f) i
]

-- the parts of the test of choices in order
pub record Parts (before on : ℕ) (g : List TokenClass) (c : List Symbol) (gs : List (List TokenClass)) (cs : List (List Symbol)) : Type 0 where
  pub begin : apart (all_begin c) before ≡ true
  pub cover : covers g (all_begin c) ≡ true
  pub empty : implies (all_empty empties c) (is_otherwise g && within before on) ≡ true
  pub last : implies (is_otherwise g) (is_last cs) ≡ true
  pub rest : ordered (bit_or before (set_of g)) on gs cs ≡ true

parts : (before on : ℕ) (g : List TokenClass) (c : List Symbol) (gs : List (List TokenClass)) (cs : List (List Symbol)) → ordered before on (g ∷ gs) (c ∷ cs) ≡ true → Parts before on g c gs cs
parts before on g c gs cs e =
    let e1 = and_right (apart (all_begin c) before) _ e in
    let e2 = and_right (covers g (all_begin c)) _ e1 in
    let e3 = and_right (implies (all_empty empties c) (is_otherwise g && within before on)) _ e2 in
    record {
      begin = and_left (apart (all_begin c) before) _ e;
      cover = and_left (covers g (all_begin c)) _ e1;
      empty = and_left (implies (all_empty empties c) (is_otherwise g && within before on)) _ e2;
      last = and_left (implies (is_otherwise g) (is_last cs)) _ e3;
      rest = and_right (implies (is_otherwise g) (is_last cs)) _ e3;
    }

no_choices : (before on : ℕ) (cs : List (List Symbol)) (qs : List Symbol) → ordered before on [] cs ≡ true → Among qs cs → ⊥
no_choices before on [] qs e a = a
no_choices before on (c ∷ cs) qs e a = absurd (cc)

later : (before on k : ℕ) (gs : List (List TokenClass)) (cs : List (List Symbol))
    (qs : List Symbol) → ordered before on gs cs ≡ true → Among qs cs
    → has (all_begin qs) k ≡ true → has before k ≡ true → ⊥
later before on k [] cs qs e a h b = no_choices before on cs qs e a
later before on k (g ∷ gs) [] qs e a h b = a
later before on k (g ∷ gs) (c ∷ cs) qs e a h b = let p = parts before on g c gs cs e in elim a [
  | inl f ↦ apart_has (all_begin c) before k p.begin (subst (λ x. has (all_begin x) k ≡ true) (sym f) h) b
  | inr i ↦ later (bit_or before (set_of g)) on k gs cs qs p.rest i h (or_has_left before (set_of g) k b)
]

later_empty : (before on k : ℕ) (gs : List (List TokenClass)) (cs : List (List Symbol))
    (qs : List Symbol) → ordered before on gs cs ≡ true → Among qs cs
    → all_empty empties qs ≡ true → has before k ≡ true → has on k ≡ true
later_empty before on k [] cs qs e a h b = absurd (no_choices before on cs qs e a)
later_empty before on k (g ∷ gs) [] qs e a h b = absurd a
later_empty before on k (g ∷ gs) (c ∷ cs) qs e a h b = let p = parts before on g c gs cs e in elim a [
  | inl f ↦ within_has before on k (and_right (is_otherwise g) _ (implied (all_empty empties c) _ p.empty (subst (λ x. all_empty empties x ≡ true) (sym f) h))) b
  | inr i ↦ later_empty (bit_or before (set_of g)) on k gs cs qs p.rest i h (or_has_left before (set_of g) k b)
]

covered : (g : List TokenClass) (set : ℕ) (k : Kind) → covers g set ≡ true → has set (number k) ≡ true → admits g (Some k) ≡ true
covered [] set k e h = refl
covered (c ∷ cs) set k e h = have_classes k (c ∷ cs) (within_has set (set_of (c ∷ cs)) (number k) e h)

admitted : (g : List TokenClass) (k : Kind) → is_otherwise g ≡ false → admits g (Some k) ≡ true → has (set_of g) (number k) ≡ true
admitted [] k e h = absurd (cc)
admitted (c ∷ cs) k e h = classes_have k (c ∷ cs) h

last_none : (cs : List (List Symbol)) (qs : List Symbol) → is_last cs ≡ true → Among qs cs → ⊥
last_none [] qs e a = a
last_none (c ∷ cs) qs e a = absurd (cc)

picked_here : (g : List TokenClass) (gs : List (List TokenClass)) (c : List Symbol) (cs : List (List Symbol)) (k : Option Kind) → admits g k ≡ true → pick (g ∷ gs) (c ∷ cs) k ≡ Some c
picked_here g gs c cs k e = rw e refl

picked_later : (g : List TokenClass) (gs : List (List TokenClass)) (c : List Symbol) (cs : List (List Symbol)) (k : Option Kind) → admits g k ≡ false → pick (g ∷ gs) (c ∷ cs) k ≡ pick gs cs k
picked_later g gs c cs k e = rw e refl

-- a choice that a kind begins is the one that is taken
pick_it : (before on : ℕ) (k : Kind) (gs : List (List TokenClass)) (cs : List (List Symbol))
    (qs : List Symbol) → ordered before on gs cs ≡ true → Among qs cs
    → has (all_begin qs) (number k) ≡ true → pick gs cs (Some k) ≡ Some qs
pick_it before on k [] cs qs e a h = absurd (no_choices before on cs qs e a)
pick_it before on k (g ∷ gs) [] qs e a h = absurd a
pick_it before on k (g ∷ gs) (c ∷ cs) qs e a h = let p = parts before on g c gs cs e in elim a [
  | inl f ↦ picked_here g gs c cs (Some k) (covered g (all_begin c) k p.cover (subst (λ x. has (all_begin x) (number k) ≡ true) (sym f) h)) ∙ ap Some f
  | inr i ↦ step (is_otherwise g) refl p i (pick_it (bit_or before (set_of g)) on k gs cs qs p.rest i h)
]
  where
    step : (b : Bool) → is_otherwise g ≡ b → Parts before on g c gs cs → Among qs cs → pick gs cs (Some k) ≡ Some qs → pick (g ∷ gs) (c ∷ cs) (Some k) ≡ Some qs
    step true o p i r = absurd (last_none cs qs (implied (is_otherwise g) _ p.last o) i)
    step false o p i r =
        let no : admits g (Some k) ≡ false = not_true _ (λ m. later (bit_or before (set_of g)) on (number k) gs cs qs p.rest i h (or_has_right before (set_of g) (number k) (admitted g k o m))) in
        picked_later g gs c cs (Some k) no ∙ r

-- the empty one is taken where the parser doesn't go on
empty_pick : (before on : ℕ) (k : Kind) (gs : List (List TokenClass)) (cs : List (List Symbol))
    (qs : List Symbol) → ordered before on gs cs ≡ true → Among qs cs
    → all_empty empties qs ≡ true → has on (number k) ≡ false → pick gs cs (Some k) ≡ Some qs
empty_pick before on k [] cs qs e a h n = absurd (no_choices before on cs qs e a)
empty_pick before on k (g ∷ gs) [] qs e a h n = absurd a
empty_pick before on k (g ∷ gs) (c ∷ cs) qs e a h n = let p = parts before on g c gs cs e in elim a [
  | inl f ↦ picked_here g gs c cs (Some k) (otherwise g (and_left (is_otherwise g) _ (implied (all_empty empties c) _ p.empty (subst (λ x. all_empty empties x ≡ true) (sym f) h)))) ∙ ap Some f
  | inr i ↦ step (is_otherwise g) refl p i (empty_pick (bit_or before (set_of g)) on k gs cs qs p.rest i h n)
]
  where
    otherwise : (g : List TokenClass) → is_otherwise g ≡ true → admits g (Some k) ≡ true
    otherwise [] o = refl
    otherwise (d ∷ ds) o = absurd (cc)

    step : (b : Bool) → is_otherwise g ≡ b → Parts before on g c gs cs → Among qs cs → pick gs cs (Some k) ≡ Some qs → pick (g ∷ gs) (c ∷ cs) (Some k) ≡ Some qs
    step true o p i r = absurd (last_none cs qs (implied (is_otherwise g) _ p.last o) i)
    step false o p i r =
        let no : admits g (Some k) ≡ false = not_true _
        (λ m. clash (later_empty (bit_or before (set_of g)) on
        (number k) gs cs qs p.rest i h (or_has_right before (set_of g) (number k)
        (admitted g k o m))) n) in
        picked_later g gs c cs (Some k) no ∙ r

-- and at the end
end_pick : (before on : ℕ) (gs : List (List TokenClass)) (cs : List (List Symbol))
    (qs : List Symbol) → ordered before on gs cs ≡ true → Among qs cs
    → all_empty empties qs ≡ true → pick gs cs None ≡ Some qs
end_pick before on [] cs qs e a h = absurd (no_choices before on cs qs e a)
end_pick before on (g ∷ gs) [] qs e a h = absurd a
end_pick before on (g ∷ gs) (c ∷ cs) qs e a h = let p = parts before on g c gs cs e in elim a [
  | inl f ↦ picked_here g gs c cs None (otherwise g (and_left (is_otherwise g) _ (implied (all_empty empties c) _ p.empty (subst (λ x. all_empty empties x ≡ true) (sym f) h)))) ∙ ap Some f
  | inr i ↦ step (is_otherwise g) refl p i (end_pick (bit_or before (set_of g)) on gs cs qs p.rest i h)
]
  where
    otherwise : (g : List TokenClass) → is_otherwise g ≡ true → admits g None ≡ true
    otherwise [] o = refl
    otherwise (d ∷ ds) o = absurd (cc)

    none : (g : List TokenClass) → is_otherwise g ≡ false → admits g None ≡ false
    none [] o = absurd (cc)
    none (d ∷ ds) o = refl

    step : (b : Bool) → is_otherwise g ≡ b → Parts before on g c gs cs → Among qs cs → pick gs cs None ≡ Some qs → pick (g ∷ gs) (c ∷ cs) None ≡ Some qs
    step true o p i r = absurd (last_none cs qs (implied (is_otherwise g) _ p.last o) i)
    step false o p i r = picked_later g gs c cs None (none g o) ∙ r

from_pick : (gs : List (List TokenClass)) (cs : List (List Symbol)) (k : Option Kind) (qs : List Symbol) → pick gs cs k ≡ Some qs → Among qs cs
from_pick [] cs k qs e = absurd (cc)
from_pick (g ∷ gs) [] k qs e = absurd (cc)
from_pick (g ∷ gs) (c ∷ cs) k qs e = step (admits g k) refl (from_pick gs cs k qs)
  where
    step : (x : Bool) → admits g k ≡ x → (pick gs cs k ≡ Some qs → Among qs cs) → (c ≡ qs) ⊎ Among qs cs
    step true f i = let h = rw f at e in inl (cc)
    step false f i = inr (i (rw f at e))

-- behind the symbols of a choice
follows_from : (on : ℕ) (p : Symbol) → goes_on p ≡ on → (qs : List Symbol) → follows on qs ≡ true → AllFollow may empties peeks p qs
follows_from on p o [] e = tt
follows_from on p o (q ∷ rest) e =
    let a = and_left (apart (goes_on q) (all_begin rest)) _ e in
    let f = and_right (apart (goes_on q) (all_begin rest)) _ e in
    let b = and_left (implies (all_empty empties rest) (within (goes_on q) on)) _ f in
    let d = and_right (implies (all_empty empties rest) (within (goes_on q) on)) _ f in (
      (λ t h. (
        not_may rest t (λ i. apart_has (goes_on q) (all_begin rest) (number (kind_of t.token)) a h i),
        λ i. rw o (within_has (goes_on q) on (number (kind_of t.token)) (implied (all_empty empties rest) _ b i) h),
      )),
      follows_from on p o rest d,
    )

-- each rule passes the test
abbrev Fits : Rule → Type 0
Fits r = (choices_fit (set_of (first r)) (nullable r) (set_of (peek r)) (choices r) ≡ true) × (ordered 0 (set_of (peek r)) (guards r) (choices r) ≡ true) × (lighter (weight r) (choices r) ≡ true)

-- Made by tools/source_grammar.py from tools/source_grammar.txt: each rule passes the test.
pub rule_fits : (r : Rule) → Fits r
rule_fits R.File = (refl, refl, refl)
rule_fits (R.Opening ClassKind.Kernel) = (refl, refl, refl)
rule_fits (R.Opening _) = (refl, refl, refl)
rule_fits (R.Opened ClassKind.Kernel) = (refl, refl, refl)
rule_fits (R.Opened _) = (refl, refl, refl)
rule_fits (R.Operand Level.Prefixes) = (refl, refl, refl)
rule_fits (R.Operand _) = (refl, refl, refl)
rule_fits (R.Tail Level.Prefixes) = (refl, refl, refl)
rule_fits (R.Tail _) = (refl, refl, refl)
rule_fits (R.Rest Form.Place) = (refl, refl, refl)
rule_fits (R.Rest _) = (refl, refl, refl)
rule_fits (R.NameThen Site.Alone) = (refl, refl, refl)
rule_fits (R.NameThen _) = (refl, refl, refl)
rule_fits (R.BracketThen Site.Alone) = (refl, refl, refl)
rule_fits (R.BracketThen _) = (refl, refl, refl)
rule_fits (R.Declared Site.Alone) = (refl, refl, refl)
rule_fits (R.Declared _) = (refl, refl, refl)
rule_fits (R.MemoryThen Site.Alone) = (refl, refl, refl)
rule_fits (R.MemoryThen _) = (refl, refl, refl)
rule_fits (R.LessThen Site.Alone) = (refl, refl, refl)
rule_fits (R.LessThen _) = (refl, refl, refl)
rule_fits (R.DFEVarThen Site.Alone) = (refl, refl, refl)
rule_fits (R.DFEVarThen _) = (refl, refl, refl)
rule_fits (R.GreaterThen Site.Alone) = (refl, refl, refl)
rule_fits (R.GreaterThen _) = (refl, refl, refl)
rule_fits (R.MemoryName Site.Alone) = (refl, refl, refl)
rule_fits (R.MemoryName _) = (refl, refl, refl)
rule_fits _ = (refl, refl, refl)

-- By hand again.

-- and each rule that speaks of names
abbrev NamedFits : Y.Named → Type 0
NamedFits n =
    (choices_fit (set_of (named_first n)) (named_nullable n) (set_of (named_peek n)) (named_choices n) ≡ true) × (ordered 0 (set_of (named_peek n)) (named_guards n) (named_choices n) ≡ true)
    × (lighter (named_weight n) (named_choices n) ≡ true) × (implies (binds n) (nameless (named_choices n)) ≡ true)

pub named_fits : (n : Y.Named) → NamedFits n
named_fits Y.ClassName = (refl, refl, refl, refl)
named_fits (Y.Parent w) = (refl, refl, refl, refl)
named_fits (Y.Members i) = part i.unmade
  where
    part : (b : Bool) → (choices_fit (set_of begins_member) true (set_of begins_member)
        (member_choices b i) ≡ true) × (ordered 0 (set_of begins_member) (member_guards b)
        (member_choices b i) ≡ true) × (lighter 5 (member_choices b i) ≡ true) × (true ≡ true)
    part true = (refl, refl, refl, refl)
    part false = (refl, refl, refl, refl)
named_fits (Y.Head i) = (refl, refl, refl, refl)
named_fits (Y.After i own memory) = part i.kind i.class i.unmade own memory
  where
    part : (b : ClassKind) (w : List ℕ) (u o m : Bool) → NamedFits (Y.After (record { kind = b; class = w; unmade = u }) o m)
    part ClassKind.Manager w u true true = (refl, refl, refl, refl)
    part ClassKind.Manager w u true false = (refl, refl, refl, refl)
    part ClassKind.Manager w u false true = (refl, refl, refl, refl)
    part ClassKind.Manager w u false false = (refl, refl, refl, refl)
    part ClassKind.Kernel w u true true = (refl, refl, refl, refl)
    part ClassKind.Kernel w u true false = (refl, refl, refl, refl)
    part ClassKind.Kernel w u false true = (refl, refl, refl, refl)
    part ClassKind.Kernel w u false false = (refl, refl, refl, refl)
named_fits (Y.FirstParam m) = (refl, refl, refl, refl)

-- the list that begins with a name
bound_fits : (n : Y.Named) (w : List ℕ) → binds n ≡ true → choice_fits (set_of (named_first n)) (named_nullable n) (set_of (named_peek n)) (bound n w) ≡ true
bound_fits Y.ClassName w e = refl
bound_fits (Y.Head i) w e = refl
bound_fits (Y.FirstParam ClassKind.Manager) w e = refl
bound_fits (Y.FirstParam ClassKind.Kernel) w e = refl
bound_fits (Y.Parent v) w e = absurd (cc)
bound_fits (Y.Members i) w e = absurd (cc)
bound_fits (Y.After i a b) w e = absurd (cc)

bound_head : (n : Y.Named) (w : List ℕ) → binds n ≡ true → (e : Effect) × (rest : List Symbol) × (bound n w ≡ Name w e ∷ rest)
bound_head Y.ClassName w e = (_, _, refl)
bound_head (Y.Head i) w e = (_, _, refl)
bound_head (Y.FirstParam m) w e = (_, _, refl)
bound_head (Y.Parent v) w e = absurd (cc)
bound_head (Y.Members i) w e = absurd (cc)
bound_head (Y.After i a b) w e = absurd (cc)

choice_fit : (r : Rule) (qs : List Symbol) → Among qs (choices r) → choice_fits (set_of (first r)) (nullable r) (set_of (peek r)) qs ≡ true
choice_fit r qs a = choice_at (set_of (first r)) (nullable r) (set_of (peek r)) (choices r) qs (rule_fits r).0 a

named_fit : (n : Y.Named) (qs : List Symbol) → Choice (Call n) qs → choice_fits (set_of (named_first n)) (named_nullable n) (set_of (named_peek n)) qs ≡ true
named_fit n qs a = elim a [
  | inl i ↦ choice_at (set_of (named_first n)) (named_nullable n) (set_of (named_peek n)) (named_choices n) qs (named_fits n).0 i
  | inr i ↦ subst (λ x. choice_fits (set_of (named_first n)) (named_nullable n) (set_of (named_peek n)) x ≡ true) i.3 (bound_fits n i.0 i.2)
]

abbrev Tells : Symbol → List Symbol → PlacedToken → Type 0
Tells p qs t = (may_all may empties qs t ≡ true) ⊎ ((all_empty empties qs ≡ true) × (peeks p t ≡ false))

exact_rule : (r : Rule) (qs : List Symbol) (t : PlacedToken) → Among qs (choices r) → Tells (Sub r) qs t → choose (Sub r) (Some t) ≡ Some qs
exact_rule r qs t a h = elim h [
  | inl m ↦ pick_it 0 (set_of (peek r)) (kind_of t.token) (guards r) (choices r) qs (rule_fits r).1 a (all_may qs t m)
  | inr e ↦ empty_pick 0 (set_of (peek r)) (kind_of t.token) (guards r) (choices r) qs (rule_fits r).1 a e.0 e.1
]

nameless_choice : (cs : List (List Symbol)) (qs : List Symbol) → nameless cs ≡ true → Among qs cs → (apart (all_begin qs) (set_of (C.Name ∷ [])) ≡ true) × (all_empty empties qs ≡ true → ⊥)
nameless_choice [] qs e a = absurd a
nameless_choice (c ∷ cs) qs e a = elim a [
  | inl f ↦ subst (λ x. (apart (all_begin x) (set_of (C.Name ∷ [])) ≡ true) × (all_empty empties x ≡ true → ⊥)) f (
    and_left (apart (all_begin c) (set_of (C.Name ∷ []))) _ e,
    λ h. clash (implied (all_empty empties c) false (and_left (implies (all_empty empties c) false) _ (and_right (apart (all_begin c) (set_of (C.Name ∷ []))) _ e)) h) refl,
  )
  | inr i ↦ nameless_choice cs qs (and_right (implies (all_empty empties c) false) _ (and_right (apart (all_begin c) (set_of (C.Name ∷ []))) _ e)) i
]

or_false : (a : Bool) → a ≡ true → (a || false) ≡ true
or_false true e = refl
or_false false e = absurd (cc)

false_or : (a : Bool) → (a || false) ≡ true → a ≡ true
false_or true e = refl
false_or false e = absurd (cc)

chosen_plain : (n : Y.Named) (t : PlacedToken) → name_next n (Some t) ≡ false → choose (Call n) (Some t) ≡ pick (named_guards n) (named_choices n) (Some (kind_of t.token))
chosen_plain n t e = rw e refl

chosen_name : (n : Y.Named) (t : PlacedToken) → name_next n (Some t) ≡ true → choose (Call n) (Some t) ≡ Some (bound n (written t.token))
chosen_name n t e = rw e refl

-- a choice that begins with no name is not hidden by one
no_name : (n : Y.Named) (qs : List Symbol) (t : PlacedToken) → Among qs (named_choices n) → Tells (Call n) qs t → name_next n (Some t) ≡ false
no_name n qs t a h = step (binds n) refl
  where
    step : (b : Bool) → binds n ≡ b → name_next n (Some t) ≡ false
    step false e = rw e refl
    step true e =
        let x = nameless_choice (named_choices n) qs (implied (binds n) _ (named_fits n).3 e) a in
        not_true _ (λ m. elim h [
          | inl i ↦ apart_has (all_begin qs) (set_of (C.Name ∷ [])) (number (kind_of t.token)) x.0 (all_may qs t i)
              (classes_have (kind_of t.token) (C.Name ∷ []) (or_false (class_has C.Name (kind_of t.token)) (and_right (binds n) _ m)))
          | inr i ↦ x.1 i.0
        ])

exact_named : (n : Y.Named) (qs : List Symbol) (t : PlacedToken) → Choice (Call n) qs → Tells (Call n) qs t → choose (Call n) (Some t) ≡ Some qs
exact_named n qs t (inl a) h = chosen_plain n t (no_name n qs t a h) ∙ plain h
  where
    plain : Tells (Call n) qs t → pick (named_guards n) (named_choices n) (Some (kind_of t.token)) ≡ Some qs
    plain (inl m) = pick_it 0 (set_of (named_peek n)) (kind_of t.token) (named_guards n) (named_choices n) qs (named_fits n).1 a (all_may qs t m)
    plain (inr e) = empty_pick 0 (set_of (named_peek n)) (kind_of t.token) (named_guards n) (named_choices n) qs (named_fits n).1 a e.0 e.1
exact_named n qs t (inr a) h = by_head (bound_head n a.0 a.2)
  where
    by_head : (e : Effect) × (rest : List Symbol) × (bound n a.0 ≡ Name a.0 e ∷ rest) → choose (Call n) (Some t) ≡ Some qs
    by_head x = named h
      where
        is : qs ≡ Name a.0 x.0 ∷ x.1
        is = sym a.3 ∙ x.2

        named : Tells (Call n) qs t → choose (Call n) (Some t) ≡ Some qs
        named (inl m) =
            let f : may_all may empties (Name a.0 x.0 ∷ x.1) t ≡ true = subst (λ l. may_all may empties l t ≡ true) is m in
            let g = false_or (may (Name a.0 x.0) t) f in
            let i = and_left (has (set_of (C.Name ∷ [])) (number (kind_of t.token))) _ g in
            let j = bytes_same (written t.token) a.0 (and_right (has (set_of (C.Name ∷ [])) (number (kind_of t.token))) _ g) in
            let k : class_has C.Name (kind_of t.token) ≡ true = false_or (class_has C.Name (kind_of t.token)) (have_classes (kind_of t.token) (C.Name ∷ []) i) in
            chosen_name n t (rw (a.2, k) refl) ∙ ap (λ w. Some (bound n w)) j ∙ ap Some a.3
        named (inr e) = let f : all_empty empties (Name a.0 x.0 ∷ x.1) ≡ true = subst (λ l. all_empty empties l ≡ true) is e.0 in absurd (cc)

exact_at : (p : Symbol) (qs : List Symbol) (t : PlacedToken) → Choice p qs → Tells p qs t → choose p (Some t) ≡ Some qs
exact_at (Mark c e) qs t a h = absurd a
exact_at (Name w e) qs t a h = absurd a
exact_at (Sub r) qs t a h = exact_rule r qs t a h
exact_at (Call n) qs t a h = exact_named n qs t a h
exact_at (Act x) qs t a h = ap Some a

exact_end_named : (n : Y.Named) (qs : List Symbol) → Choice (Call n) qs → all_empty empties qs ≡ true → choose (Call n) None ≡ Some qs
exact_end_named n qs (inl a) h = end_pick 0 (set_of (named_peek n)) (named_guards n) (named_choices n) qs (named_fits n).1 a h
exact_end_named n qs (inr a) h =
    let x = bound_head n a.0 a.2 in
    let f : all_empty empties (Name a.0 x.0 ∷ x.1) ≡ true = subst (λ l. all_empty empties l ≡ true) (sym a.3 ∙ x.2) h in
    absurd (cc)

exact_end_at : (p : Symbol) (qs : List Symbol) → Choice p qs → all_empty empties qs ≡ true → choose p None ≡ Some qs
exact_end_at (Mark c e) qs a h = absurd a
exact_end_at (Name w e) qs a h = absurd a
exact_end_at (Sub r) qs a h = end_pick 0 (set_of (peek r)) (guards r) (choices r) qs (rule_fits r).1 a h
exact_end_at (Call n) qs a h = exact_end_named n qs a h
exact_end_at (Act x) qs a h = ap Some a

class_begins : (c : TokenClass) (t : PlacedToken) → Accepts c t.token → has (set_of (c ∷ [])) (number (kind_of t.token)) ≡ true
class_begins c t i = classes_have (kind_of t.token) (c ∷ []) (or_false (class_has c (kind_of t.token)) (accepted c t.token i))

is_may_at : (p : Symbol) (t : PlacedToken) → Is p t → may p t ≡ true
is_may_at (Mark c e) t i = class_begins c t i
is_may_at (Name w e) t i =
    let f : written t.token ≡ w = ap written i.0 in
    let g : Accepts C.Name t.token = (i.0 ∙ ap (λ v. Token.Word v) (sym f), subst (λ v. is_name v ≡ true) (sym f) i.1) in
    let h : bytes_eq (written t.token) w ≡ true = subst (λ v. bytes_eq v w ≡ true) (sym f) (bytes_refl w) in
    rw (class_begins C.Name t g) h
is_may_at (Sub r) t i = absurd i
is_may_at (Call n) t i = absurd i
is_may_at (Act a) t i = absurd i

choice_may_at : (p : Symbol) (qs : List Symbol) (t : PlacedToken) → Choice p qs → may_all may empties qs t ≡ true → may p t ≡ true
choice_may_at (Mark c e) qs t a h = absurd a
choice_may_at (Name w e) qs t a h = absurd a
choice_may_at (Sub r) qs t a h = within_has (all_begin qs) (set_of (first r)) (number (kind_of t.token)) (and_left (within (all_begin qs) (set_of (first r))) _ (choice_fit r qs a)) (all_may qs t h)
choice_may_at (Call n) qs t a h = within_has (all_begin qs) (set_of (named_first n))
    (number (kind_of t.token)) (and_left (within (all_begin qs) (set_of (named_first n))) _
    (named_fit n qs a)) (all_may qs t h)
choice_may_at (Act x) qs t a h = let f : may_all may empties [] t ≡ true = subst (λ l. may_all may empties l t ≡ true) (sym a) h in absurd (cc)

choice_empty_at : (p : Symbol) (qs : List Symbol) → Choice p qs → all_empty empties qs ≡ true → empties p ≡ true
choice_empty_at (Mark c e) qs a h = absurd a
choice_empty_at (Name w e) qs a h = absurd a
choice_empty_at (Sub r) qs a h = implied (all_empty empties qs) _ (and_left (implies (all_empty empties qs) _) _ (and_right (within (all_begin qs) (set_of (first r))) _ (choice_fit r qs a))) h
choice_empty_at (Call n) qs a h = implied (all_empty empties qs) _ (and_left (implies (all_empty empties qs) _) _ (and_right (within (all_begin qs) (set_of (named_first n))) _ (named_fit n qs a))) h
choice_empty_at (Act x) qs a h = refl

follow_at : (p : Symbol) (qs : List Symbol) → Choice p qs → AllFollow may empties peeks p qs
follow_at (Mark c e) qs a = absurd a
follow_at (Name w e) qs a = absurd a
follow_at (Sub r) qs a = follows_from (set_of (peek r)) (Sub r) refl qs (and_right (implies (all_empty empties qs) _) _ (and_right (within (all_begin qs) (set_of (first r))) _ (choice_fit r qs a)))
follow_at (Call n) qs a = follows_from (set_of (named_peek n)) (Call n) refl qs
    (and_right (implies (all_empty empties qs) _) _ (and_right
    (within (all_begin qs) (set_of (named_first n))) _ (named_fit n qs a)))
follow_at (Act x) qs a = subst (λ l. AllFollow may empties peeks (Act x) l) a tt

sound_named : (n : Y.Named) (t : Option PlacedToken) (qs : List Symbol) → choose (Call n) t ≡ Some qs → Choice (Call n) qs
sound_named n None qs e = inl (from_pick (named_guards n) (named_choices n) None qs e)
sound_named n (Some t) qs e = step (name_next n (Some t)) refl
  where
    step : (b : Bool) → name_next n (Some t) ≡ b → Choice (Call n) qs
    step true f =
        let g : Some (bound n (written t.token)) ≡ Some qs = sym (chosen_name n t f) ∙ e in
        let h : bound n (written t.token) ≡ qs = cc in
        inr (written t.token, (accepts C.Name t.token (and_right (binds n) _ f)).1, and_left (binds n) _ f, h)
    step false f = inl (from_pick (named_guards n) (named_choices n) (Some (kind_of t.token)) qs (sym (chosen_plain n t f) ∙ e))

sound_at : (p : Symbol) (t : Option PlacedToken) (qs : List Symbol) → choose p t ≡ Some qs → Choice p qs
sound_at (Mark c e) t qs f = absurd (cc)
sound_at (Name w e) t qs f = absurd (cc)
sound_at (Sub r) t qs e = from_pick (guards r) (choices r) (kind_at t) qs e
sound_at (Call n) t qs e = sound_named n t qs e
sound_at (Act x) t qs e = cc

one_kind_at : (p : Symbol) (qs : List Symbol) (t : PlacedToken) → Choice p qs → Is p t → ⊥
one_kind_at (Mark c e) qs t a i = a
one_kind_at (Name w e) qs t a i = a
one_kind_at (Sub r) qs t a i = i
one_kind_at (Call n) qs t a i = i
one_kind_at (Act x) qs t a i = i

pub predicts : Predicts Is Choice may empties peeks choose
predicts = record {
  is_may = is_may_at;
  choice_may = choice_may_at;
  choice_empty = choice_empty_at;
  exact = exact_at;
  exact_end = exact_end_at;
  sound = sound_at;
  follow = follow_at;
  one_kind = one_kind_at;
}
