-- The exits of the parser.
use Rattle.std.proofs.Common.{◌≡◌, ℕ, zero, suc, ◌+◌, ◌<◌, ◌≤◌, ◌-◌, List, [], ◌∷◌, Bool, true}
use Rattle.std.proofs.Common.{false, Option, Some, None, refl, sym, ap, subst, ◌∙◌, length, arith}
use Rattle.std.proofs.Common.{reverse, drop, get_or, drop-cons, add-one, ◌==◌, slice_get}
use Rattle.std.proofs.lemmas.List.{length-drop}
use Rattle.std.proofs.Math.Seq.{drop-length}
use Rattle.std.proofs.lemmas.Option.{get_or_from_slice_get, slice_get_within}
use Rattle.grammar.specs.Stack.{head_of}
use Rattle.maxj_syntax.specs.Cells.{Cell, cells_of, word_in}
use Rattle.maxj_syntax.specs.declared.tree.Class.{Class}
use Rattle.maxj_syntax.specs.declared.build.Unfinished.{Unfinished}
use Rattle.maxj_syntax.specs.declared.build.Builder.{Builder}
use Rattle.maxj_syntax.specs.declared.kind.Kind.{Kind}
use Rattle.maxj_syntax.specs.declared.symbol.TokenClass.{TokenClass}
use Rattle.maxj_syntax.specs.declared.symbol.Effect.{Effect}
use Rattle.maxj_syntax.specs.declared.symbol.Rule.{Rule}
use Rattle.maxj_syntax.specs.declared.symbol.Symbol.{Symbol as SymbolOf}
use Rattle.maxj_syntax.specs.declared.symbol.Fixed.{Fixed}
use Rattle.maxj_syntax.specs.declared.symbol.Fixed.TheVariants as F
use Rattle.maxj_syntax.specs.declared.symbol.Action.{Action}
use Rattle.std.specs.List.{list_any}
use Rattle.maxj_syntax.specs.declared.symbol.TokenClass.TheVariants as C
use Rattle.maxj_tokens.specs.Tokens.{written, Token}
use Rattle.maxj_syntax.specs.Kinds.{kind_of}
use Rattle.maxj_syntax.specs.TokenClasses.{class_has}
use Rattle.maxj_syntax.specs.Choosing.{admits, kind_at}
use Rattle.text_scan.proofs.ByteTests.{clash}
use Rattle.maxj_syntax.proofs.ClassLemmas.{accepts, accepted}
use Rattle.maxj_syntax.specs.declared.parser.Settled.{Settled}
use Rattle.maxj_syntax.specs.declared.parser.Settled.TheVariants as T
use Rattle.maxj_tokens.specs.Scanning.{PlacedToken}
use Rattle.maxj_syntax.specs.Tree.{ClassTree, ClassesAre}
use Rattle.maxj_syntax.specs.TokenClasses.{Accepts}
use Rattle.maxj_syntax.specs.Productions.{is_name}
use Rattle.maxj_syntax.specs.Faults.{IsFirstMisplaced, IsMisplaced, place_of}
use Rattle.maxj_syntax.specs.Symbols.{Symbol, Mark, Name, Sub, fixed_view}
use Rattle.maxj_syntax.specs.Choosing.{Is, Choice, choose, chain}
use Rattle.maxj_syntax.specs.Steps.{Entry, Ground}
use Rattle.maxj_syntax.specs.Building.{IsBottom, AreBottom, Holds, Takes, Reached, bottom, todo, Settles, IsTheFileOf, AreOpen, IsTaken, IsRefused, IsRule, IsExpanded}
use Rattle.maxj_syntax.proofs.Predict.{leads_stay}
use Rattle.maxj_syntax.proofs.Machine.{step_rule, stuck_rule, rule_less, stuck_mark, stuck_name, stuck_end, step_mark, step_name}
use Rattle.maxj_syntax.proofs.Judge.{bad_place, whole_file}

pub bottom_open : (tokens : List PlacedToken) (nodes : List Cell) (classes : List Class)
    (os : List Unfinished) → AreBottom (length tokens) os → classes ≡ []
    → AreOpen nodes classes tokens (reverse os) bottom (Ground [])
bottom_open tokens nodes classes [] a e = absurd a
bottom_open tokens nodes classes (o ∷ []) a e = ((sym (ap (λ n. drop n tokens) a.0 ∙ drop-length tokens), a.1, ap (word_in tokens) a.2, a.3, a.4), subst (λ l. ClassesAre nodes l []) (sym e) tt)
bottom_open tokens nodes classes (o ∷ p ∷ os) a e = absurd a

pub start_reached : (tokens : List PlacedToken) (stack : List SymbolOf) (builder : Builder)
    → todo stack ≡ Sub Rule.File ∷ [] → IsBottom (length tokens) builder
    → Reached tokens tokens (todo stack) builder
start_reached tokens stack builder e f = subst (λ l. Reached tokens tokens l builder) (sym e) (
  leads_stay Is Choice (Sub Rule.File ∷ []) tokens,
  (λ t p. refl, tt),
  bottom,
  Ground [],
  bottom_open tokens (cells_of tokens builder.nodes) builder.classes builder.unfinished.items f.0 f.1,
  λ c q x. x,
  λ c q x. x,
)

at_place : (tokens : List PlacedToken) (at : ℕ) → at ≤ length tokens → length tokens - length (drop at tokens) ≡ at
at_place tokens at h = omega (arith, h, length-drop at tokens)

next_token : (tokens : List PlacedToken) (at : ℕ) (d : PlacedToken) → at < length tokens → drop at tokens ≡ get_or tokens at d ∷ drop (at + 1) tokens
next_token tokens at d h = rw add-one (drop-cons tokens at d h)

same_head : {t u : PlacedToken} {ts us : List PlacedToken} → t ∷ ts ≡ u ∷ us → t ≡ u
same_head e = cc

-- another token than the one that the stack begins with
pub bad_taken : (tokens : List PlacedToken) (at : ℕ) (d : PlacedToken) (s : Settled)
    (after : List Symbol) (builder : Builder) → at < length tokens
    → IsRefused s (get_or tokens at d).token → Settles s tokens (drop at tokens) after builder
    → IsFirstMisplaced tokens at
bad_taken tokens at d (T.Token k e) after builder h never r =
    subst (λ n. IsFirstMisplaced tokens n) (at_place tokens at (omega (arith, h))) (bad_place tokens (drop at tokens) _ builder r
    (stuck_mark (drop at tokens) k e after (λ t zs f i. never (subst (λ x. Accepts k x.token) (sym (same_head (sym (next_token tokens at d h) ∙ f))) i))))
bad_taken tokens at d (T.Name w e) after builder h never r =
    subst (λ n. IsFirstMisplaced tokens n) (at_place tokens at (omega (arith, h))) (bad_place tokens (drop at tokens) _ builder r
    (stuck_name (drop at tokens) w.now e after (λ t zs f i. never (subst (λ x. (x.token ≡ Token.Word w.now) × (is_name w.now ≡ true)) (sym (same_head (sym (next_token tokens at d h) ∙ f))) i))))
bad_taken tokens at d T.Empty after builder h never r =
    subst (λ n. IsFirstMisplaced tokens n) (at_place tokens at (omega (
      arith,
      h,
    ))) (bad_place tokens (drop at tokens) [] builder r
    (rw (next_token tokens at d h) (stuck_end (get_or tokens at d) (drop (at + 1) tokens))))
bad_taken tokens at d T.Stuck after builder h never r = subst (λ n. IsFirstMisplaced tokens n) (at_place tokens at (omega (arith, h))) r

-- the end of the tokens
pub bad_end : (tokens ys : List PlacedToken) (s : Settled) (after : List Symbol)
    (builder : Builder) → ys ≡ [] → (s ≡ T.Empty → ⊥) → Settles s tokens ys after builder
    → IsFirstMisplaced tokens (length tokens)
bad_end tokens ys T.Empty after builder z never r = absurd (never refl)
bad_end tokens ys (T.Token k e) after builder z never r =
    let n : length tokens - length ys ≡ length tokens = rw z (omega arith) in
    subst (λ n. IsFirstMisplaced tokens n) n (bad_place tokens ys _ builder r (stuck_mark ys k e after (λ t zs f i. none t zs (sym z ∙ f))))
  where
    none : (t : PlacedToken) (zs : List PlacedToken) → [] ≡ t ∷ zs → ⊥
    none t zs f = absurd (cc)
bad_end tokens ys (T.Name w e) after builder z never r =
    let n : length tokens - length ys ≡ length tokens = rw z (omega arith) in
    subst (λ n. IsFirstMisplaced tokens n) n (bad_place tokens ys _ builder r (stuck_name ys w.now e after (λ t zs f i. none t zs (sym z ∙ f))))
  where
    none : (t : PlacedToken) (zs : List PlacedToken) → [] ≡ t ∷ zs → ⊥
    none t zs f = absurd (cc)
bad_end tokens ys T.Stuck after builder z never r = let n : length tokens - length ys ≡ length tokens = rw z (omega arith) in subst (λ n. IsFirstMisplaced tokens n) n r

-- the token that the stack begins with
pub read_on : (tokens : List PlacedToken) (at : ℕ) (d : PlacedToken) (s : Settled) (f : Effect)
    (after : List Symbol) (old new : Builder) → at < length tokens
    → IsTaken s (get_or tokens at d).token f
    → Takes tokens f (get_or tokens at d).token (drop at tokens) (drop (at + 1) tokens) old new
    → Settles s tokens (drop at tokens) after old → Reached tokens (drop (at + 1) tokens) after new
read_on tokens at d (T.Token k e) f after old new h i t r =
    let g = next_token tokens at d h in
    let u : Takes tokens e (get_or tokens at d).token (drop at tokens)
    (drop (at + 1) tokens) old new = subst (λ x. Takes tokens x (get_or tokens at d).token
    (drop at tokens) (drop (at + 1) tokens) old new) (sym i.1) t in
    step_mark tokens (get_or tokens at d) (drop (at + 1) tokens) k e after old new i.0
    (subst (λ l. Takes tokens e (get_or tokens at d).token l
    (drop (at + 1) tokens) old new) g u) (subst (λ l. Reached tokens l (Mark k e
    ∷ after) old) g r)
read_on tokens at d (T.Name w e) f after old new h i t r =
    let g = next_token tokens at d h in
    let u : Takes tokens e (get_or tokens at d).token (drop at tokens)
    (drop (at + 1) tokens) old new = subst (λ x. Takes tokens x (get_or tokens at d).token
    (drop at tokens) (drop (at + 1) tokens) old new) (sym i.1) t in
    step_name tokens (get_or tokens at d) (drop (at + 1) tokens) w.now e after old new i.0
    (subst (λ l. Takes tokens e (get_or tokens at d).token l
    (drop (at + 1) tokens) old new) g u) (subst (λ l. Reached tokens l (Name w.now e
    ∷ after) old) g r)
read_on tokens at d T.Empty f after old new h i t r = absurd i
read_on tokens at d T.Stuck f after old new h i t r = absurd i

grounded : (nodes : List Cell) (classes : List Class) (tokens : List PlacedToken)
    (os : List Unfinished) (b : Entry) (cs : List ClassTree)
    → AreOpen nodes classes tokens os b (Ground cs) → ClassesAre nodes classes cs
grounded nodes classes tokens [] b cs a = absurd a
grounded nodes classes tokens (o ∷ []) b cs a = a.1
grounded nodes classes tokens (o ∷ p ∷ os) b cs a = absurd a.1

pub finished : (tokens ys : List PlacedToken) (builder : Builder) → ys ≡ [] → Reached tokens ys [] builder → IsTheFileOf tokens (cells_of tokens builder.nodes) builder.classes
finished tokens ys builder z r =
    let q : Reached tokens [] [] builder = subst (λ l. Reached tokens l [] builder) z r in
    let w = whole_file tokens builder q in
    let h : Holds tokens builder q.2 (Ground w.0) = subst (λ s. Holds tokens builder q.2 s) w.2 q.4 in
    let a = grounded (cells_of tokens builder.nodes) builder.classes tokens (reverse builder.unfinished.items) q.2 w.0 h in
    record {
      classes = w.0;
      file = w.3;
      only = w.4;
      program = a;
    }

-- the place of a token, or the size
token_place : (ts : List PlacedToken) (size n : ℕ) (t : PlacedToken) → slice_get ts n ≡ Some t → t.place ≡ place_of ts size n
token_place [] size n t e = absurd (cc)
token_place (u ∷ ts) size zero t e = let same : u ≡ t = cc in ap (λ x. x.place) (sym same)
token_place (u ∷ ts) size (suc n) t e = token_place ts size n t e

end_place : (ts : List PlacedToken) (size n : ℕ) → n ≡ length ts → size ≡ place_of ts size n
end_place [] size n h = refl
end_place (t ∷ ts) size zero h = absurd (omega (arith, h))
end_place (t ∷ ts) size (suc n) h = end_place ts size n (omega (arith, h))

pub is_rule : (f : Fixed) → ((k : TokenClass) (e : Effect) → f ≡ F.Mark k e → ⊥) → ((a : Action) → f ≡ F.Act a → ⊥) → IsRule (fixed_view f)
is_rule (F.Mark k e) g h = absurd (g k e refl)
is_rule (F.Sub r) g h = tt
is_rule F.ClassName g h = tt
is_rule (F.FirstParam m) g h = tt
is_rule (F.Act a) g h = absurd (h a refl)

-- what the code asks of a token
pub admits_some : (g : List TokenClass) (n : Option Kind) (k : Kind) (e b : Bool) → e ≡ (length g == 0) → e ≡ false → n ≡ Some k → b ≡ list_any (λ d. class_has d k) g → b ≡ admits g n
admits_some [] n k e b f h i j = absurd (cc)
admits_some (c ∷ cs) n k e b f h i j = j ∙ sym (ap (λ x. admits (c ∷ cs) x) i)

pub name_yes : (t : Token) (w : List ℕ) (b : Bool) → t ≡ Token.Word w → b ≡ class_has C.Name (kind_of t) → b ≡ true → (t ≡ Token.Word w) × (is_name w ≡ true)
name_yes t w b e f g = (e, subst (λ v. is_name v ≡ true) (ap written e) (accepts C.Name t (sym f ∙ g)).1)

pub name_no : (t : Token) (w : List ℕ) (b : Bool) → b ≡ class_has C.Name (kind_of t) → b ≡ false → (t ≡ Token.Word w) × (is_name w ≡ true) → ⊥
name_no t w b f g h =
    let i : w ≡ written t = sym (ap written h.0) in
    clash (accepted C.Name t (h.0 ∙ ap (λ v. Token.Word v) i, subst (λ v. is_name v ≡ true) i h.1)) (sym f ∙ g)

pub taken_token : (s : Settled) (k : TokenClass) (e : Effect) (t : Token) (j : Kind) (b : Bool) → s ≡ T.Token k e → b ≡ class_has k j → j ≡ kind_of t → b ≡ true → IsTaken s t e
taken_token s k e t j b f g h i = subst (λ x. IsTaken x t e) (sym f) (accepts k t (ap (λ x. class_has k x) (sym h) ∙ sym g ∙ i), refl)

pub refused_token : (s : Settled) (k : TokenClass) (e : Effect) (t : Token) (j : Kind) (b : Bool) → s ≡ T.Token k e → b ≡ class_has k j → j ≡ kind_of t → b ≡ false → IsRefused s t
refused_token s k e t j b f g h i = subst (λ x. IsRefused x t) (sym f) (λ a. clash (accepted k t a) (ap (λ x. class_has k x) (sym h) ∙ sym g ∙ i))

-- the same of tokens by their numbers
pub start_file : (ts : List PlacedToken) (stack : List SymbolOf) (builder : Builder) (n : ℕ) → todo stack ≡ Sub Rule.File ∷ [] → n ≡ length ts → IsBottom n builder → Reached ts ts (todo stack) builder
start_file ts stack builder n e f g = start_reached ts stack builder e (subst (λ m. IsBottom m builder) f g)

pub misplaced_token : (ts : List PlacedToken) (size at : ℕ) (t : PlacedToken) (s : Settled)
    (after : List Symbol) (builder : Builder) → slice_get ts at ≡ Some t → IsRefused s t.token
    → Settles s ts (drop at ts) after builder → IsMisplaced ts size t.place
misplaced_token ts size at t s after builder e never r = record {
  number = at;
  bad = bad_taken ts at t s after builder (slice_get_within ts at t e) (subst (λ u. IsRefused s u.token) (sym (get_or_from_slice_get ts at t t e)) never) r;
  at = token_place ts size at t e;
}

pub misplaced_end : (ts : List PlacedToken) (size n : ℕ) (s : Settled) (after : List Symbol)
    (builder : Builder) → n ≡ length ts → (s ≡ T.Empty → ⊥)
    → Settles s ts (drop n ts) after builder → IsMisplaced ts size size
misplaced_end ts size n s after builder h never r =
    let z : drop n ts ≡ [] = ap (λ m. drop m ts) h ∙ drop-length ts in
    record { number = length ts; bad = bad_end ts (drop n ts) s after builder z never r; at = end_place ts size (length ts) refl }

-- the next token
pub head_at : (ts : List PlacedToken) (n : ℕ) → head_of (drop n ts) ≡ slice_get ts n
head_at [] zero = refl
head_at [] (suc n) = refl
head_at (t ∷ ts) zero = refl
head_at (t ∷ ts) (suc n) = head_at ts n

-- its kind, where there is one, and none at the end
pub kind_here : (ts : List PlacedToken) (n : ℕ) (t : PlacedToken) → slice_get ts n ≡ Some t → Some (kind_of t.token) ≡ kind_at (head_of (drop n ts))
kind_here ts n t e = ap kind_at (sym (head_at ts n ∙ e))

pub kind_at_end : (ts : List PlacedToken) (n : ℕ) → n ≡ length ts → None ≡ kind_at (head_of (drop n ts))
kind_at_end ts n h = ap (λ l. kind_at (head_of l)) (sym (ap (λ m. drop m ts) h ∙ drop-length ts))

pub read_token : (ts : List PlacedToken) (at : ℕ) (t : PlacedToken) (s : Settled) (f : Effect)
    (after : List Symbol) (old new : Builder) → slice_get ts at ≡ Some t → IsTaken s t.token f
    → Takes ts f t.token (drop at ts) (drop (at + 1) ts) old new
    → Settles s ts (drop at ts) after old → Reached ts (drop (at + 1) ts) after new
read_token ts at t s f after old new e i u r =
    let same = sym (get_or_from_slice_get ts at t t e) in
    read_on ts at t s f after old new (slice_get_within ts at t e) (subst (λ x. IsTaken s x.token f) same i) (subst (λ x. Takes ts f x.token (drop at ts) (drop (at + 1) ts) old new) same u) r

pub finished_file : (ts : List PlacedToken) (n : ℕ) (builder : Builder) → n ≡ length ts → Reached ts (drop n ts) [] builder → IsTheFileOf ts (cells_of ts builder.nodes) builder.classes
finished_file ts n builder h r =
    let z : drop n ts ≡ [] = ap (λ m. drop m ts) h ∙ drop-length ts in
    finished ts (drop n ts) builder z r

-- a rule on top of the stack
pub expanded_on : (tokens ys : List PlacedToken) (next : Option PlacedToken) (p : Symbol)
    (old rest new : List Symbol) (builder : Builder) (b : Bool) → head_of ys ≡ next → IsRule p
    → (IsRule p → IsExpanded p next rest new b) → b ≡ true → old ≡ p ∷ rest
    → Reached tokens ys old builder
    → Reached tokens ys new builder
expanded_on tokens ys next p old rest new builder b e i x t f r =
    let y : IsExpanded p (head_of ys) rest new true = subst (λ n. IsExpanded p n rest new true) (sym e) (subst (λ c. IsExpanded p next rest new c) t (x i)) in
    step_rule tokens ys p rest new builder i y (subst (λ l. Reached tokens ys l builder) f r)

pub expanded_less : (next : Option PlacedToken) (p : Symbol) (old rest new : List Symbol)
    (b : Bool) → IsRule p → (IsRule p → IsExpanded p next rest new b) → b ≡ true → old ≡ p
    ∷ rest → chain new < chain old
expanded_less next p old rest new b i x t f = rule_less p next rest old new i (subst (λ c. IsExpanded p next rest new c) t (x i)) f

pub stuck_on : (tokens ys : List PlacedToken) (next : Option PlacedToken) (p : Symbol)
    (old rest new : List Symbol) (builder : Builder) (b : Bool) → head_of ys ≡ next → IsRule p
    → (IsRule p → IsExpanded p next rest new b) → b ≡ false → old ≡ p ∷ rest
    → Reached tokens ys old builder
    → IsFirstMisplaced tokens (length tokens - length ys)
stuck_on tokens ys next p old rest new builder b e i x t f r =
    let y : IsExpanded p next rest new false = subst (λ c. IsExpanded p next rest new c) t (x i) in
    let q : Reached tokens ys (p ∷ rest) builder = subst (λ l. Reached tokens ys l builder) f r in
    bad_place tokens ys (p ∷ rest) builder q (stuck_rule tokens ys builder p rest i (ap (λ n. choose p n) e ∙ y) q)
