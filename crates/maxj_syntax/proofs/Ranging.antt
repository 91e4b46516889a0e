-- The numbers of the nodes are in range at each state of the parser.
use Rattle.std.proofs.Common.{◌≡◌, ◌∙◌, ℕ, zero, suc, Bool, true, false, List, [], ◌∷◌, ◌++◌, length, reverse, Option, Some, None, refl, sym, ap, subst, slice_get}
use Rattle.std.specs.Prelude.{IfSome}
use Rattle.maxj_tokens.specs.Faults.{HasNone, IsOutside}
use Rattle.maxj_tokens.specs.Scanning.{PlacedToken}
use Rattle.maxj_syntax.specs.declared.build.Builder.{Builder}
use Rattle.maxj_syntax.specs.declared.build.Unfinished.{Unfinished}
use Rattle.maxj_syntax.specs.declared.parser.Settled.{Settled}
use Rattle.maxj_syntax.specs.declared.parser.Settled.TheVariants as T
use Rattle.maxj_syntax.specs.declared.symbol.Action.{Action}
use Rattle.maxj_syntax.specs.declared.symbol.Effect.{Effect}
use Rattle.maxj_syntax.specs.declared.symbol.Rule.{Rule}
use Rattle.maxj_syntax.specs.declared.symbol.Symbol.{Symbol as SymbolOf}
use Rattle.maxj_syntax.specs.declared.tree.Class.{Class}
use Rattle.maxj_syntax.specs.Cells.{Cell, cell_in, cells_of}
use Rattle.maxj_syntax.specs.Symbols.{Symbol, Mark, Name, Sub, Call, Act}
use Rattle.maxj_syntax.specs.Tree.{Node}
use Rattle.maxj_syntax.specs.Ranges.{IsInRange, AreInRange}
use Rattle.maxj_syntax.specs.Steps.{
  Entry,
  At,
  Below,
  Ground,
  On,
  tree_of,
  read_top,
  read_below,
  act_top,
  act_below,
}
use Rattle.maxj_syntax.specs.Building.{
  Acts,
  Takes,
  IsOpen,
  AreOpen,
  Holds,
  bottom,
  todo,
  IsBottom,
  IsExpanded,
  IsRule,
  IsTaken,
}
use Rattle.maxj_syntax.specs.Plain.{
  knows,
  past,
  wants,
  gives,
  named_wants,
  named_gives,
  where_known,
  after_token,
  after_step,
  after_known,
  after_all,
  IsKnown,
  IsKept,
  AreKept,
  Ranged,
  SettlesRanged,
  StaysInRange,
}
use Rattle.maxj_syntax.proofs.Exits.{bottom_open}
use Rattle.maxj_syntax.proofs.Fits.{predicts}
use Rattle.maxj_syntax.proofs.MoveLemmas.{to_move}
use Rattle.maxj_syntax.proofs.NamedMoves.{to_named}
use Rattle.maxj_syntax.proofs.PlainMoves.{moved, named_moved}
use Rattle.maxj_syntax.proofs.Keeping.{
  unknown_kept,
  wanted_kept,
  step_kept,
  token_kept,
  not_foreign,
}
use Rattle.maxj_syntax.proofs.Trees.{top_of_list}

after_none : (ps : List Symbol) → after_all ps None ≡ None
after_none [] = refl
after_none (p ∷ ps) = after_none ps

after_append : (qs ps : List Symbol) (o : Option (List Bool))
    → after_all (qs ++ ps) o ≡ after_all ps (after_all qs o)
after_append [] ps o = refl
after_append (q ∷ qs) ps o = after_append qs ps (after_known q o)

-- where all is known at the end, it is on the way
some_known : (ps : List Symbol) (o : Option (List Bool)) → IsKnown (after_all ps o)
    → (fs : List Bool) × (o ≡ Some fs)
some_known ps None h = absurd (subst IsKnown (after_none ps) h)
some_known ps (Some fs) h = (fs, refl)

where_is : (b : Bool) (xs ys : List Bool) → where_known b xs ≡ Some ys
    → (b ≡ true) × (Some xs ≡ Some ys)
where_is true xs ys e = (refl, e)
where_is false xs ys e = absurd (cc)

-- a rule is replaced by a choice that gives what the rule does
replaced : (tokens : List PlacedToken) (ws us : List Bool) (qs ps : List Symbol)
    (builder : Builder)
    → ((fs : List Bool) → after_all qs (Some (ws ++ fs)) ≡ Some (us ++ fs))
    → (HasNone IsOutside tokens → (b : Entry) × (s : Below) × (fs : List Bool)
    × Holds tokens builder b s
    × IsKnown (after_all ps (where_known (knows ws fs) (us ++ past ws fs)))
    × AreKept fs (On b s) × AreInRange (cells_of tokens builder.nodes))
    → Ranged tokens (qs ++ ps) builder
replaced tokens ws us qs ps builder gives h none =
    let r = h none in
    let some = some_known ps (where_known (knows ws r.2) (us ++ past ws r.2)) r.4 in
    let known = where_is (knows ws r.2) (us ++ past ws r.2) some.0 some.1 in
    let behind : after_all (qs ++ ps) (Some (ws ++ past ws r.2)) ≡ after_all ps (Some some.0) =
    after_append qs ps (Some (ws ++ past ws r.2))
    ∙ ap (after_all ps) (gives (past ws r.2) ∙ known.1) in
    let goes : IsKnown (after_all ps (Some some.0)) =
    subst (λ o. IsKnown (after_all ps o)) some.1 r.4 in (
      r.0,
      r.1,
      ws ++ past ws r.2,
      r.3,
      subst IsKnown (sym behind) goes,
      wanted_kept ws r.2 (On r.0 r.1) known.0 r.5,
      r.6,
    )

pub rule_ranged : (tokens : List PlacedToken) (next : Option PlacedToken) (p : Symbol)
    (ps new : List Symbol) (builder : Builder) → IsRule p → IsExpanded p next ps new true
    → Ranged tokens (p ∷ ps) builder → Ranged tokens new builder
rule_ranged tokens next (Sub r) ps new builder i x h =
    let move = to_move r x.0 (predicts.sound (Sub r) next x.0 x.1) in
    subst (λ l. Ranged tokens l builder) (sym x.2)
    (replaced tokens (wants r) (gives r) x.0 ps builder (moved move) h)
rule_ranged tokens next (Call n) ps new builder i x h =
    let move = to_named n x.0 (predicts.sound (Call n) next x.0 x.1) in
    subst (λ l. Ranged tokens l builder) (sym x.2)
    (replaced tokens (named_wants n) (named_gives n) x.0 ps builder (named_moved move) h)
rule_ranged tokens next (Mark k e) ps new builder i x h = absurd i
rule_ranged tokens next (Name w e) ps new builder i x h = absurd i
rule_ranged tokens next (Act a) ps new builder i x h = absurd i

-- the same of a rule on top of the stack
pub expanded_ranged : (tokens : List PlacedToken) (next : Option PlacedToken) (p : Symbol)
    (old ps new : List Symbol) (builder : Builder) (taken : Bool) → IsRule p
    → (IsRule p → IsExpanded p next ps new taken) → taken ≡ true → old ≡ p ∷ ps
    → Ranged tokens old builder → Ranged tokens new builder
expanded_ranged tokens next p old ps new builder taken i x t f r =
    rule_ranged tokens next p ps new builder i
    (subst (λ c. IsExpanded p next ps new c) t (x i))
    (subst (λ l. Ranged tokens l builder) f r)

pub none_left : (stack : List SymbolOf) → length stack ≡ 0 → todo stack ≡ []
none_left [] e = refl
none_left (x ∷ stack) e = absurd (cc)

pub step_ranged : (tokens ys : List PlacedToken) (a : Action) (ps : List Symbol)
    (old new : Builder) → Acts tokens a ys old new → StaysInRange old new
    → Ranged tokens (Act a ∷ ps) old → Ranged tokens ps new
step_ranged tokens ys a ps old new acts stays h none =
    let r = h none in
    let some = some_known ps (after_step a r.2) r.4 in (
      act_top a ys r.0 r.1,
      act_below a r.0 r.1,
      some.0,
      acts r.0 r.1 r.3,
      subst (λ o. IsKnown (after_all ps o)) some.1 r.4,
      subst (λ o. IfSome o (λ gs. AreKept gs (On (act_top a ys r.0 r.1) (act_below a r.0 r.1))))
          some.1 (step_kept a ys r.0 r.1 r.2 r.5),
      stays tokens r.0 r.1 r.3 (unknown_kept _ (tree_of r.0) r.5.0) r.6,
    )

-- the token that the symbols begin with
taken : (tokens xs ys : List PlacedToken) (n : ℕ) (t : PlacedToken) (e f : Effect)
    (ps : List Symbol) (old new : Builder) → slice_get tokens n ≡ Some t → e ≡ f
    → Takes tokens f t.token xs ys old new → StaysInRange old new
    → (HasNone IsOutside tokens → (b : Entry) × (s : Below) × (fs : List Bool)
    × Holds tokens old b s × IsKnown (after_all ps (after_token e fs))
    × AreKept fs (On b s) × AreInRange (cells_of tokens old.nodes))
    → Ranged tokens ps new
taken tokens xs ys n t e f ps old new at same takes stays h none =
    let r = h none in
    let known : IsKnown (after_all ps (after_token f r.2)) =
    subst (λ x. IsKnown (after_all ps (after_token x r.2))) same r.4 in
    let some = some_known ps (after_token f r.2) known in
    let b = read_top f t.token xs ys r.0 in
    let s = read_below f r.0 r.1 in (
      b,
      s,
      some.0,
      takes r.0 r.1 r.3,
      subst (λ o. IsKnown (after_all ps o)) some.1 known,
      subst (λ o. IfSome o (λ gs. AreKept gs (On b s))) some.1
          (token_kept f t.token xs ys r.0 r.1 r.2 (not_foreign tokens n t at none) r.5),
      stays tokens r.0 r.1 r.3 (unknown_kept _ (tree_of r.0) r.5.0) r.6,
    )

pub token_ranged : (tokens xs ys : List PlacedToken) (n : ℕ) (t : PlacedToken) (s : Settled)
    (f : Effect) (after : List Symbol) (old new : Builder) → slice_get tokens n ≡ Some t
    → IsTaken s t.token f → Takes tokens f t.token xs ys old new → StaysInRange old new
    → SettlesRanged s tokens after old → Ranged tokens after new
token_ranged tokens xs ys n t (T.Token k e) f after old new at i takes stays h =
    taken tokens xs ys n t e f after old new at i.1 takes stays h
token_ranged tokens xs ys n t (T.Name w e) f after old new at i takes stays h =
    taken tokens xs ys n t e f after old new at i.1 takes stays h
token_ranged tokens xs ys n t T.Empty f after old new at i takes stays h = absurd i
token_ranged tokens xs ys n t T.Stuck f after old new at i takes stays h = absurd i

-- before the first token
pub start_ranged : (tokens : List PlacedToken) (symbols : List Symbol) (builder : Builder)
    (n : ℕ) → symbols ≡ Sub Rule.File ∷ [] → n ≡ length tokens → IsBottom n builder
    → Ranged tokens symbols builder
start_ranged tokens symbols builder n e f g none =
    let is : IsBottom (length tokens) builder = subst (λ m. IsBottom m builder) f g in
    let cells : cells_of tokens builder.nodes ≡ [] = ap (cells_of tokens) is.2 in (
      bottom,
      Ground [],
      [],
      bottom_open tokens (cells_of tokens builder.nodes) builder.classes builder.unfinished.items
          is.0 is.1,
      subst (λ l. IsKnown (after_all l (Some []))) (sym e) tt,
      ((tt, λ x. refl), tt),
      subst AreInRange (sym cells) (λ n cell x. absurd (cc)),
    )

-- one node more
one_more : (cells : List Cell) (cell : Cell) → AreInRange cells → IsInRange cell.kind cell.word
    → AreInRange (cells ++ cell ∷ [])
one_more [] cell h i zero c e =
    let same : cell ≡ c = cc in subst (λ x. IsInRange x.kind x.word) same i
one_more [] cell h i (suc n) c e = absurd (cc)
one_more (x ∷ xs) cell h i zero c e = h zero c e
one_more (x ∷ xs) cell h i (suc n) c e = one_more xs cell (λ m d f. h (suc m) d f) i n c e

pub with_node : (nodes more : List Cell) (cell : Cell)
    → more ≡ nodes ++ cell ∷ [] → IsInRange cell.kind cell.word → AreInRange nodes
    → AreInRange more
with_node nodes more cell e i h = subst AreInRange (sym e) (one_more nodes cell h i)

in_open : (nodes : List Cell) (tokens : List PlacedToken) (o : Unfinished) (b : Entry)
    → IsOpen nodes tokens o b → IsKept false (tree_of b)
    → IsInRange o.node.kind (cell_in tokens o.node).word
in_open nodes tokens o (At x (Node k w s ts)) a h =
    subst (λ j. IsInRange j (cell_in tokens o.node).word) (sym a.1)
    (subst (λ v. IsInRange k v) (sym a.2) h.0)

-- the tree on top becomes a node
pub with_top : (tokens : List PlacedToken) (nodes more : List Cell) (classes : List Class)
    (old os : List Unfinished) (o : Unfinished) (b : Entry) (s : Below) → old ≡ os ++ o ∷ []
    → more ≡ nodes ++ cell_in tokens o.node ∷ [] → AreOpen nodes classes tokens (reverse old) b s
    → IsKept false (tree_of b) → AreInRange nodes → AreInRange more
with_top tokens nodes more classes old os o b s e f h i j =
    let a = top_of_list tokens nodes classes old os o b s e h in
    with_node nodes more (cell_in tokens o.node) f (in_open nodes tokens o b a.0 i) j
