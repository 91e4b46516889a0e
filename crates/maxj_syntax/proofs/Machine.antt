-- The steps of the parser.
use Rattle.std.proofs.Common.{◌≡◌, ℕ, ◌+◌, ◌<◌, ◌≤◌, List, [], ◌∷◌, ◌++◌, Bool, true, false, ◌&&◌, if◌then◌else◌, nat_lt, Option, Some, None, refl, sym, ap, subst, ◌∙◌, arith, inl, inr, map, reverse}
use Rattle.std.proofs.lemmas.Bool.{ltb-true}
use Rattle.std.proofs.lemmas.List.{reverse-append}
use Rattle.grammar.specs.Stack.{Runs, Refused, Ends, head_of, all_empty}
use Rattle.grammar.proofs.Stack.{AllFollow}
use Rattle.grammar.proofs.Leftmost.{starts_from_runs}
use Rattle.maxj_syntax.specs.declared.build.Builder.{Builder}
use Rattle.maxj_syntax.specs.declared.symbol.TokenClass.{TokenClass}
use Rattle.maxj_syntax.specs.declared.symbol.Effect.{Effect}
use Rattle.maxj_syntax.specs.declared.symbol.Action.{Action}
use Rattle.maxj_syntax.specs.declared.symbol.Rule.{Rule}
use Rattle.maxj_syntax.specs.declared.symbol.Symbol.{Symbol as SymbolOf}
use Rattle.maxj_tokens.specs.Tokens.{Token}
use Rattle.maxj_tokens.specs.Scanning.{PlacedToken}
use Rattle.maxj_syntax.specs.Productions.{is_name}
use Rattle.maxj_syntax.specs.TokenClasses.{Accepts}
use Rattle.maxj_syntax.specs.Symbols.{Symbol, Mark, Name, Sub, Call, Act, symbol_view}
use Rattle.maxj_syntax.specs.Symbols as Y
use Rattle.maxj_syntax.specs.Choosing.{Among, Is, Choice, may, empties, peeks, choose, weigh, chain, named_choices, named_weight, bound, binds}
use Rattle.maxj_syntax.proofs.ChoicesFit.{lighter}
use Rattle.maxj_syntax.specs.Table.{choices}
use Rattle.maxj_syntax.specs.Lookahead.{weight}
use Rattle.maxj_syntax.specs.Steps.{Entry, Below, Goes, read_top, read_below, act_top, act_below}
use Rattle.maxj_syntax.specs.Building.{Acts, Takes, AllEnds, Reached, todo, IsExpanded, IsRule}
use Rattle.maxj_syntax.proofs.Predict.{leads_on, leads_pick, leads_eat, refused_pick, refused_eat, refused_rest, unique, unique_end, ends_before}
use Rattle.maxj_syntax.proofs.Runs.{append, expand, expand_named}
use Rattle.maxj_syntax.proofs.MoveLemmas.{from_move, to_move}
use Rattle.maxj_syntax.proofs.NamedMoves.{from_named, to_named}
use Rattle.maxj_syntax.proofs.Fits.{predicts, rule_fits, named_fits, and_left, and_right}

-- what is read is a whole list of the symbols
pub goes_runs : {ps : List Symbol} {b c : Entry} {s q : Below} {xs ys : List PlacedToken} (rest : List Symbol) → Goes ps b s xs c q ys → Runs Is Choice rest ys → Runs Is Choice (ps ++ rest) xs
goes_runs rest Goes.none r = r
goes_runs rest (Goes.mark i g) r = Runs.eat i (goes_runs rest g r)
goes_runs rest (Goes.name i g) r = Runs.eat i (goes_runs rest g r)
goes_runs rest (Goes.act g) r = Runs.pick [] refl (goes_runs rest g r)
goes_runs rest (Goes.rule {qs = qs} {ps = ps} v d g) r = Runs.pick qs (from_move v) (goes_runs (ps ++ rest) d (goes_runs rest g r))
goes_runs rest (Goes.call {qs = qs} {ps = ps} v d g) r = Runs.pick qs (from_named v) (goes_runs (ps ++ rest) d (goes_runs rest g r))

some_same : {A : Type 0} {a b : A} (o : Option A) → o ≡ Some a → o ≡ Some b → a ≡ b
some_same o e f = cc

append_none : (l : List Symbol) → l ++ [] ≡ l
append_none [] = refl
append_none (x ∷ l) = ap (λ m. x ∷ m) (append_none l)

-- a rule can only be read by the choice that is taken
same_choice : (p : Symbol) (qs ws ps : List Symbol) (ys : List PlacedToken) → Choice p ws → Ends may empties peeks p ps → choose p (head_of ys) ≡ Some qs → Runs Is Choice (ws ++ ps) ys → ws ≡ qs
same_choice p qs ws ps [] c ends e z = some_same _ (unique_end Is Choice may empties peeks choose predicts {p = p} ps c z) e
same_choice p qs ws ps (t ∷ ts) c ends e z = some_same _ (unique Is Choice may empties peeks choose predicts {p = p} ps ends c (starts_from_runs Is Choice z)) e

only_rule : {r : Rule} {qs ps : List Symbol} {b c : Entry} {s q : Below} (ys : List PlacedToken)
    → Ends may empties peeks (Sub r) ps → choose (Sub r) (head_of ys) ≡ Some qs
    → Goes (Sub r ∷ ps) b s ys c q [] → Goes (qs ++ ps) b s ys c q []
only_rule {r = r} {qs = qs} {ps = ps} {b = b} {c = c} {s = s} {q = q} ys ends e (Goes.rule {qs = ws} v d g) =
    let f : ws ≡ qs = same_choice (Sub r) qs ws ps ys (from_move v) ends e (subst (λ l. Runs Is Choice l ys) (append_none (ws ++ ps)) (goes_runs [] (append d g) Runs.end)) in
    subst (λ l. Goes (l ++ ps) b s ys c q []) f (append d g)

only_named : {n : Y.Named} {qs ps : List Symbol} {b c : Entry} {s q : Below}
    (ys : List PlacedToken) → Ends may empties peeks (Call n) ps
    → choose (Call n) (head_of ys) ≡ Some qs → Goes (Call n ∷ ps) b s ys c q []
    → Goes (qs ++ ps) b s ys c q []
only_named {n = n} {qs = qs} {ps = ps} {b = b} {c = c} {s = s} {q = q} ys ends e (Goes.call {qs = ws} v d g) =
    let f : ws ≡ qs = same_choice (Call n) qs ws ps ys (from_named v) ends e (subst (λ l. Runs Is Choice l ys) (append_none (ws ++ ps)) (goes_runs [] (append d g) Runs.end)) in
    subst (λ l. Goes (l ++ ps) b s ys c q []) f (append d g)

ends_behind : (p : Symbol) (qs ps : List Symbol) → AllFollow may empties peeks p qs → Ends may empties peeks p ps → AllEnds ps → AllEnds (qs ++ ps)
ends_behind p [] ps f e h = h
ends_behind p (q ∷ rest) ps f e h = (ends_before Is Choice may empties peeks choose predicts p q rest ps f.0 e, ends_behind p rest ps f.1 e h)

-- a rule is replaced by the choice that the next token takes
step_sub : (tokens ys : List PlacedToken) (r : Rule) (qs ps : List Symbol) (builder : Builder)
    → choose (Sub r) (head_of ys) ≡ Some qs → Reached tokens ys (Sub r ∷ ps) builder
    → Reached tokens ys (qs ++ ps) builder
step_sub tokens ys r qs ps builder e h =
    let k = predicts.sound (Sub r) (head_of ys) qs e in (
      leads_on Is Choice h.0 (leads_pick Is Choice may empties peeks choose predicts (Sub r) qs ps ys h.1.0 e),
      ends_behind (Sub r) qs ps (predicts.follow (Sub r) qs k) h.1.0 h.1.1,
      h.2,
      h.3,
      h.4,
      λ c q g. h.5 c q (expand (to_move r qs k) g),
      λ c q g. only_rule ys h.1.0 e (h.6 c q g),
    )

step_call : (tokens ys : List PlacedToken) (n : Y.Named) (qs ps : List Symbol)
    (builder : Builder) → choose (Call n) (head_of ys) ≡ Some qs
    → Reached tokens ys (Call n ∷ ps) builder → Reached tokens ys (qs ++ ps) builder
step_call tokens ys n qs ps builder e h =
    let k = predicts.sound (Call n) (head_of ys) qs e in (
      leads_on Is Choice h.0 (leads_pick Is Choice may empties peeks choose predicts (Call n) qs ps ys h.1.0 e),
      ends_behind (Call n) qs ps (predicts.follow (Call n) qs k) h.1.0 h.1.1,
      h.2,
      h.3,
      h.4,
      λ c q g. h.5 c q (expand_named (to_named n qs k) g),
      λ c q g. only_named ys h.1.0 e (h.6 c q g),
    )

un_act : {a : Action} {ps : List Symbol} {b c : Entry} {s q : Below} {xs ys : List PlacedToken} → Goes (Act a ∷ ps) b s xs c q ys → Goes ps (act_top a xs b s) (act_below a b s) xs c q ys
un_act (Goes.act g) = g

un_mark : {k : TokenClass} {e : Effect} {ps : List Symbol} {b c : Entry} {s q : Below}
    {t : PlacedToken} {xs ys : List PlacedToken} → Goes (Mark k e ∷ ps) b s (t ∷ xs) c q ys
    → Goes ps (read_top e t.token (t ∷ xs) xs b) (read_below e b s) xs c q ys
un_mark (Goes.mark i g) = g

un_name : {w : List ℕ} {e : Effect} {ps : List Symbol} {b c : Entry} {s q : Below}
    {t : PlacedToken} {xs ys : List PlacedToken} → Goes (Name w e ∷ ps) b s (t ∷ xs) c q ys
    → Goes ps (read_top e t.token (t ∷ xs) xs b) (read_below e b s) xs c q ys
un_name (Goes.name i g) = g

pub step_act : (tokens ys : List PlacedToken) (a : Action) (ps : List Symbol) (old new : Builder) → Acts tokens a ys old new → Reached tokens ys (Act a ∷ ps) old → Reached tokens ys ps new
step_act tokens ys a ps old new d h = (
  leads_on Is Choice h.0 (leads_pick Is Choice may empties peeks choose predicts (Act a) [] ps ys h.1.0 refl),
  h.1.1,
  act_top a ys h.2 h.3,
  act_below a h.2 h.3,
  d h.2 h.3 h.4,
  λ c q g. h.5 c q (Goes.act g),
  λ c q g. un_act (h.6 c q g),
)

pub step_mark : (tokens : List PlacedToken) (t : PlacedToken) (ys : List PlacedToken)
    (k : TokenClass) (e : Effect) (ps : List Symbol) (old new : Builder) → Accepts k t.token
    → Takes tokens e t.token (t ∷ ys) ys old new → Reached tokens (t ∷ ys) (Mark k e ∷ ps) old
    → Reached tokens ys ps new
step_mark tokens t ys k e ps old new i d h = (
  leads_on Is Choice h.0 (leads_eat Is Choice (Mark k e) ps t ys (λ qs a. a) i),
  h.1.1,
  read_top e t.token (t ∷ ys) ys h.2,
  read_below e h.2 h.3,
  d h.2 h.3 h.4,
  λ c q g. h.5 c q (Goes.mark i g),
  λ c q g. un_mark (h.6 c q g),
)

pub step_name : (tokens : List PlacedToken) (t : PlacedToken) (ys : List PlacedToken)
    (w : List ℕ) (e : Effect) (ps : List Symbol) (old new : Builder) → (t.token ≡ Token.Word w)
    × (is_name w ≡ true) → Takes tokens e t.token (t ∷ ys) ys old new
    → Reached tokens (t ∷ ys) (Name w e ∷ ps) old → Reached tokens ys ps new
step_name tokens t ys w e ps old new i d h = (
  leads_on Is Choice h.0 (leads_eat Is Choice (Name w e) ps t ys (λ qs a. a) i),
  h.1.1,
  read_top e t.token (t ∷ ys) ys h.2,
  read_below e h.2 h.3,
  d h.2 h.3 h.4,
  λ c q g. h.5 c q (Goes.name i g),
  λ c q g. un_name (h.6 c q g),
)

-- what stops the parser
stuck_sub : (ys : List PlacedToken) (r : Rule) (ps : List Symbol) → Ends may empties peeks (Sub r) ps → choose (Sub r) (head_of ys) ≡ None → Refused Is Choice (Sub r ∷ ps) ys ys
stuck_sub ys r ps ends e = refused_pick Is Choice may empties peeks choose predicts (Sub r) ps ys ends e (λ t i. i)

stuck_call : (ys : List PlacedToken) (n : Y.Named) (ps : List Symbol) → Ends may empties peeks (Call n) ps → choose (Call n) (head_of ys) ≡ None → Refused Is Choice (Call n ∷ ps) ys ys
stuck_call ys n ps ends e = refused_pick Is Choice may empties peeks choose predicts (Call n) ps ys ends e (λ t i. i)

pub stuck_mark : (ys : List PlacedToken) (k : TokenClass) (e : Effect) (ps : List Symbol)
    → ((t : PlacedToken) (zs : List PlacedToken) → ys ≡ t ∷ zs → Accepts k t.token → ⊥)
    → Refused Is Choice (Mark k e ∷ ps) ys ys
stuck_mark ys k e ps other = refused_eat Is Choice (Mark k e) ps ys (λ qs a. a) other

pub stuck_name : (ys : List PlacedToken) (w : List ℕ) (e : Effect) (ps : List Symbol)
    → ((t : PlacedToken) (zs : List PlacedToken) → ys ≡ t ∷ zs → (t.token ≡ Token.Word w)
    × (is_name w ≡ true) → ⊥) → Refused Is Choice (Name w e ∷ ps) ys ys
stuck_name ys w e ps other = refused_eat Is Choice (Name w e) ps ys (λ qs a. a) other

pub stuck_end : (t : PlacedToken) (ys : List PlacedToken) → Refused Is Choice [] (t ∷ ys) (t ∷ ys)
stuck_end t ys = refused_rest Is Choice t ys

pub step_rule : (tokens ys : List PlacedToken) (p : Symbol) (ps new : List Symbol)
    (builder : Builder) → IsRule p → IsExpanded p (head_of ys) ps new true
    → Reached tokens ys (p ∷ ps) builder → Reached tokens ys new builder
step_rule tokens ys (Sub r) ps new builder i x h = subst (λ l. Reached tokens ys l builder) (sym x.2) (step_sub tokens ys r x.0 ps builder x.1 h)
step_rule tokens ys (Call n) ps new builder i x h = subst (λ l. Reached tokens ys l builder) (sym x.2) (step_call tokens ys n x.0 ps builder x.1 h)
step_rule tokens ys (Mark k e) ps new builder i x h = absurd i
step_rule tokens ys (Name w e) ps new builder i x h = absurd i
step_rule tokens ys (Act a) ps new builder i x h = absurd i

pub stuck_rule : (tokens ys : List PlacedToken) (builder : Builder) (p : Symbol)
    (ps : List Symbol) → IsRule p → choose p (head_of ys) ≡ None
    → Reached tokens ys (p ∷ ps) builder → Refused Is Choice (p ∷ ps) ys ys
stuck_rule tokens ys builder (Sub r) ps i e h = stuck_sub ys r ps h.1.0 e
stuck_rule tokens ys builder (Call n) ps i e h = stuck_call ys n ps h.1.0 e
stuck_rule tokens ys builder (Mark k e2) ps i e h = absurd i
stuck_rule tokens ys builder (Name w e2) ps i e h = absurd i
stuck_rule tokens ys builder (Act a) ps i e h = absurd i

pub popped : (old new : List SymbolOf) (top : SymbolOf) (s : Symbol) → old ≡ new ++ top ∷ [] → symbol_view top ≡ s → todo old ≡ s ∷ todo new
popped old new top s e f = ap (λ l. map symbol_view (reverse l)) e ∙ ap (λ l. map symbol_view l) (reverse-append new (top ∷ [])) ∙ ap (λ x. x ∷ todo new) f

-- the measure
light_choice : (n : ℕ) (cs : List (List Symbol)) (qs : List Symbol) → lighter n cs ≡ true → Among qs cs → chain qs < n
light_choice n [] qs e a = absurd a
light_choice n (c ∷ cs) qs e a = elim a [
  | inl f ↦ subst (λ x. chain x < n) f (ltb-true (chain c) n (and_left (nat_lt (chain c) n) _ e))
  | inr b ↦ light_choice n cs qs (and_right (nat_lt (chain c) n) _ e) b
]

light_bound : (n : Y.Named) (w : List ℕ) → binds n ≡ true → chain (bound n w) < named_weight n
light_bound Y.ClassName w e = omega arith
light_bound (Y.Head i) w e = omega arith
light_bound (Y.FirstParam m) w e = omega arith
light_bound (Y.Parent v) w e = absurd (cc)
light_bound (Y.Members i) w e = absurd (cc)
light_bound (Y.After i o m) w e = absurd (cc)

light : (p : Symbol) (qs : List Symbol) → IsRule p → Choice p qs → chain qs < weigh p
light (Sub r) qs i c = light_choice (weight r) (choices r) qs (rule_fits r).2 c
light (Call n) qs i c = elim c [
  | inl a ↦ light_choice (named_weight n) (named_choices n) qs (named_fits n).2 a
  | inr b ↦ subst (λ x. chain x < named_weight n) b.3 (light_bound n b.0 b.2)
]
light (Mark k e) qs i c = absurd i
light (Name w e) qs i c = absurd i
light (Act a) qs i c = absurd i

chain_append : (qs ps : List Symbol) → chain (qs ++ ps) ≤ chain qs + (if all_empty empties qs then chain ps else 0)
chain_append [] ps = omega arith
chain_append (q ∷ qs) ps = step (empties q) (all_empty empties qs) (chain_append qs ps)
  where
    step : (b d : Bool) → chain (qs ++ ps) ≤ chain qs + (if d then chain ps else 0)
        → (if b then weigh q + chain (qs
        ++ ps) else weigh q) ≤ (if b then weigh q + chain qs else weigh q) + (if b
        && d then chain ps else 0)
    step true true h = omega arith
    step true false h = omega arith
    step false d h = omega arith

chain_less : (p : Symbol) (qs ps : List Symbol) → chain qs < weigh p → (all_empty empties qs ≡ true → empties p ≡ true) → chain (qs ++ ps) < chain (p ∷ ps)
chain_less p qs ps h k = step (all_empty empties qs) refl (chain_append qs ps)
  where
    last : (b : Bool) → weigh p ≤ (if b then weigh p + chain ps else weigh p)
    last true = omega arith
    last false = omega arith

    step : (d : Bool) → all_empty empties qs ≡ d → chain (qs ++ ps) ≤ chain qs + (if all_empty empties qs then chain ps else 0) → chain (qs ++ ps) < chain (p ∷ ps)
    step true e m =
        let n : chain (qs ++ ps) ≤ chain qs + chain ps = rw e at m in
        rw (k e) (omega (arith, n, h))
    step false e m =
        let n : chain (qs ++ ps) ≤ chain qs + 0 = rw e at m in
        let o = last (empties p) in
        omega (arith, n, h, o)

pub step_less : (a : Action) (old new : List Symbol) → old ≡ Act a ∷ new → chain new < chain old
step_less a old new e = rw e (add_less (chain new))
  where
    add_less : (n : ℕ) → n < 1 + n
    add_less n = omega arith

pub rule_less : (p : Symbol) (next : Option PlacedToken) (ps old new : List Symbol) → IsRule p → IsExpanded p next ps new true → old ≡ p ∷ ps → chain new < chain old
rule_less p next ps old new i x f =
    let k = predicts.sound p next x.0 x.1 in
    rw (f, x.2) (chain_less p x.0 ps (light p x.0 i k) (predicts.choice_empty p x.0 k))
