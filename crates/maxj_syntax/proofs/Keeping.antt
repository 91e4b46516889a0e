-- The steps of the parser keep the numbers in range.
use Rattle.std.proofs.Common.{◌≡◌, ◌∙◌, ◌<◌, ◌≤◌, ◌+◌, ◌^◌, ◌&&◌, ℕ, zero, suc, Bool, true, false, List, [], ◌∷◌, ◌++◌, length, Some, refl, sym, ap, subst, arith, inl, inr, slice_get}
use Rattle.std.specs.Prelude.{◌⊎◌, IfSome}
use Rattle.std.proofs.Math.Dec.{leb}
use Rattle.std.proofs.lemmas.Bool.Decides.{leb_tells}
use Rattle.maxj_tokens.specs.Faults.{HasNone, IsOutside, IsForeign}
use Rattle.maxj_tokens.specs.Tokens.{Token, written}
use Rattle.maxj_tokens.specs.Scanning.{PlacedToken}
use Rattle.maxj_syntax.specs.declared.symbol.Action.{Action}
use Rattle.maxj_syntax.specs.declared.symbol.Action.TheVariants as A
use Rattle.maxj_syntax.specs.declared.symbol.Effect.{Effect}
use Rattle.maxj_syntax.specs.declared.symbol.Effect.TheVariants as E
use Rattle.maxj_syntax.specs.declared.tree.NodeKind.{NodeKind}
use Rattle.maxj_syntax.specs.declared.tree.NodeKind.TheVariants as N
use Rattle.maxj_syntax.specs.Tree.{Tree, Node, ClassTree}
use Rattle.maxj_syntax.specs.TokenClasses.{leaf_kind}
use Rattle.maxj_syntax.specs.Ranges.{IsInRange}
use Rattle.maxj_syntax.specs.Steps.{
  Entry,
  At,
  Below,
  Ground,
  On,
  tree_of,
  add_classes,
  read_top,
  read_below,
  act_top,
  act_below,
}
use Rattle.maxj_syntax.specs.Plain.{
  is_plain,
  top,
  rest,
  knows,
  past,
  where_known,
  after_token,
  after_step,
  IsKept,
  KnowNone,
  AreKept,
}

plain_range : (k : NodeKind) (w : List ℕ) → is_plain k ≡ true → IsInRange k w
plain_range N.Whole w e = absurd (cc)
plain_range N.Decimal w e = absurd (cc)
plain_range N.Class w e = tt
plain_range N.Field w e = tt
plain_range N.Local w e = tt
plain_range N.Method w e = tt
plain_range N.Ctor w e = tt
plain_range N.Param w e = tt
plain_range N.Plain w e = tt
plain_range N.ArrayOf w e = tt
plain_range N.Block w e = tt
plain_range N.Set w e = tt
plain_range N.Connect w e = tt
plain_range N.Run w e = tt
plain_range N.Return w e = tt
plain_range N.If w e = tt
plain_range N.While w e = tt
plain_range N.For w e = tt
plain_range N.Empty w e = tt
plain_range N.Braces w e = tt
plain_range N.Cond w e = tt
plain_range N.Binary w e = tt
plain_range N.Prefix w e = tt
plain_range N.Dot w e = tt
plain_range N.DotCall w e = tt
plain_range N.Call w e = tt
plain_range N.Index w e = tt
plain_range N.New w e = tt
plain_range N.NewArray w e = tt
plain_range N.Str w e = tt
plain_range N.Name w e = tt

plain_kept : (f : Bool) (k : NodeKind) (w : List ℕ) → is_plain k ≡ true
    → IsInRange k w × (f ≡ true → is_plain k ≡ true)
plain_kept f k w e = (plain_range k w e, λ _. e)

-- less may be known
pub less_kept : (f g : Bool) (t : Tree) → (g ≡ true → f ≡ true) → IsKept f t → IsKept g t
less_kept f g (Node k w s ts) h a = (a.0, λ e. a.1 (h e))

pub unknown_kept : (f : Bool) (t : Tree) → IsKept f t → IsKept false t
unknown_kept f t a = less_kept f false t (λ e. absurd (cc)) a

none_top : (fs : List Bool) → KnowNone fs → top fs ≡ false
none_top [] h = refl
none_top (f ∷ fs) h = h.0

none_rest : (fs : List Bool) → KnowNone fs → KnowNone (rest fs)
none_rest [] h = tt
none_rest (f ∷ fs) h = h.1

-- nothing is known of a tree that stands alone below the end of what is known
last_kept : (f : Bool) (fs : List Bool) (t : Tree) → KnowNone fs → IsKept f t → IsKept (top fs) t
last_kept f fs t h a =
    let e = none_top fs h in subst (λ g. IsKept g t) (sym e) (unknown_kept f t a)

both_true : (a b : Bool) → (a && b) ≡ true → (a ≡ true) × (b ≡ true)
both_true true true e = (refl, refl)
both_true true false e = absurd (cc)
both_true false b e = absurd (cc)

-- what a rule wants is known, whatever else is
pub wanted_kept : (ws fs : List Bool) (s : Below) → knows ws fs ≡ true → AreKept fs s
    → AreKept (ws ++ past ws fs) s
wanted_kept [] fs s e h = h
wanted_kept (true ∷ ws) fs (Ground cs) e h =
    let both = both_true (top fs) (knows ws (rest fs)) e in
    let none = none_top fs h in
    absurd (let f : true ≡ false = sym both.0 ∙ none in cc)
wanted_kept (true ∷ ws) fs (On c s) e h =
    let both = both_true (top fs) (knows ws (rest fs)) e in
    (less_kept (top fs) true (tree_of c) (λ _. both.0) h.0, wanted_kept ws (rest fs) s both.1 h.1)
wanted_kept (false ∷ ws) fs (Ground cs) e h =
    (refl, wanted_kept ws (rest fs) (Ground cs) e (none_rest fs h))
wanted_kept (false ∷ ws) fs (On c s) e h =
    (unknown_kept (top fs) (tree_of c) h.0, wanted_kept ws (rest fs) s e h.1)

where_so : (b : Bool) (fs : List Bool) (P : List Bool → Type 0) → (b ≡ true → P fs)
    → IfSome (where_known b fs) P
where_so true fs P h = h refl
where_so false fs P h = tt

classes_kept : (fs : List Bool) (s : Below) (cs : List ClassTree) → AreKept fs s
    → AreKept fs (add_classes s cs)
classes_kept fs (Ground ds) cs h = h
classes_kept fs (On e s) cs h = (h.0, classes_kept (rest fs) s cs h.1)

pub step_kept : (a : Action) (ys : List PlacedToken) (b : Entry) (s : Below) (fs : List Bool)
    → AreKept fs (On b s)
    → IfSome (after_step a fs) (λ gs. AreKept gs (On (act_top a ys b s) (act_below a b s)))
step_kept (A.Begin k) ys b s fs h =
    where_so (is_plain k) (true ∷ fs) _ (λ e. (plain_kept true k _ e, h))
step_kept (A.Wrap k) ys b s fs h =
    where_so (is_plain k) (false ∷ rest fs) _ (λ e. (plain_kept false k _ e, h.1))
step_kept (A.Turn k) ys (At x (Node j w r ts)) s fs h =
    where_so (is_plain k) (false ∷ rest fs) _ (λ e. (plain_kept false k w e, h.1))
step_kept A.Into ys b (Ground cs) fs h =
    (last_kept (top fs) (rest fs) (tree_of b) h.1 h.0, none_rest (rest fs) h.1)
step_kept A.Into ys (At x t) (On (At y (Node k w r ts)) q) fs h = h.1
step_kept A.End ys (At x (Node k w r ts)) s fs h =
    (unknown_kept (top fs) (Node k w r ts) h.0, h.1)
step_kept A.Inner ys b (Ground cs) fs h =
    (unknown_kept (top fs) (tree_of b) h.0, none_rest (rest fs) h.1)
step_kept A.Inner ys b (On c q) fs h = (unknown_kept (top fs) (tree_of b) h.0, h.1.1)
step_kept A.Named ys b (Ground cs) fs h = where_so (top (rest fs)) (rest fs) _ (λ e.
    (last_kept (top fs) (rest fs) (tree_of b) h.1 h.0, none_rest (rest fs) h.1))
step_kept A.Named ys (At x (Node j v p us)) (On (At y (Node k w r ts)) q) fs h =
    where_so (top (rest fs)) (rest fs) _ (λ e. (plain_kept _ k v (h.1.0.1 e), h.1.1))
step_kept A.Hole ys b s fs h = ((tt, λ e. refl), h)
step_kept A.Memory ys b s fs h = ((tt, λ e. refl), h.1)
step_kept A.Declare ys b (Ground cs) fs h =
    (unknown_kept (top fs) (tree_of b) h.0, none_rest (rest fs) h.1)
step_kept A.Declare ys b (On c q) fs h = ((tt, λ e. refl), h.1.1)
step_kept (A.Keep m) ys b (Ground cs) fs h =
    (last_kept (top fs) (rest fs) (tree_of b) h.1 h.0, none_rest (rest fs) h.1)
step_kept (A.Keep m) ys b (On c q) fs h = (h.1.0, classes_kept (rest (rest fs)) q _ h.1.1)

below : (n m : ℕ) → (m ≤ n → ⊥) → n < m
below n m h = by (leb_tells m n)
  where
    by : ((leb m n ≡ true) × (m ≤ n)) ⊎ ((leb m n ≡ false) × (n < m)) → n < m
    by (inl large) = absurd (h large.1)
    by (inr small) = small.1

leaf_range : (t : Token) → (IsForeign t → ⊥) → IsInRange (leaf_kind t) (written t)
leaf_range (Token.Whole w) never = below _ (2 ^ 128) never
leaf_range (Token.Decimal w) never =
    let short = below (length w) (30 + 1 + 1) (λ long. never (omega (arith, long))) in
    omega (arith, short)
leaf_range (Token.Word w) never = tt
leaf_range (Token.Str w) never = tt
leaf_range (Token.Sign w) never = tt

pub token_kept : (e : Effect) (t : Token) (xs ys : List PlacedToken) (b : Entry) (s : Below)
    (fs : List Bool) → (IsForeign t → ⊥) → AreKept fs (On b s)
    → IfSome (after_token e fs) (λ gs. AreKept gs (On (read_top e t xs ys b) (read_below e b s)))
token_kept E.Skip t xs ys b s fs never h = h
token_kept E.Leaf t xs ys b s fs never h = ((leaf_range t never, λ e. absurd (cc)), h)
token_kept (E.Push k) t xs ys b s fs never h =
    where_so (is_plain k) (false ∷ fs) _ (λ e. (plain_kept false k _ e, h))
token_kept (E.Over k) t xs ys b s fs never h =
    where_so (is_plain k) (false ∷ rest fs) _ (λ e. (plain_kept false k _ e, h.1))
token_kept E.Text t xs ys (At x (Node k w r ts)) s fs never h =
    where_so (top fs) fs _ (λ e. (plain_kept _ k (written t) (h.0.1 e), h.1))

-- a token of a list in which none is out of profile
split_at : (ts : List PlacedToken) (n : ℕ) (t : PlacedToken) → slice_get ts n ≡ Some t
    → (before : List PlacedToken) × (behind : List PlacedToken) × (ts ≡ before ++ t ∷ behind)
split_at [] n t e = absurd (cc)
split_at (u ∷ ts) zero t e = let same : u ≡ t = cc in ([], ts, ap (λ x. x ∷ ts) same)
split_at (u ∷ ts) (suc n) t e =
    let r = split_at ts n t e in (u ∷ r.0, r.1, ap (λ l. u ∷ l) r.2)

pub not_foreign : (ts : List PlacedToken) (n : ℕ) (t : PlacedToken) → slice_get ts n ≡ Some t
    → HasNone IsOutside ts → IsForeign t.token → ⊥
not_foreign ts n t e none foreign = let r = split_at ts n t e in none r.0 t r.1 r.2 foreign
