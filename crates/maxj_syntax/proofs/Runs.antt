-- Symbols read one after the other, and what begins or ends a statement.
use Rattle.std.proofs.Common.{◌≡◌, ℕ, Bool, true, false, List, [], ◌∷◌, ◌++◌, refl, sym, ap, subst, ◌∙◌, ◌⊎◌, inl, inr}
use Rattle.std.specs.Str.{bytes_eq}
use Rattle.mx_base.specs.declared.span.Span.{Span}
use Rattle.maxj_syntax.specs.declared.level.Level.{Level}
use Rattle.maxj_tokens.specs.declared.sign.Sign.{Sign}
use Rattle.maxj_tokens.specs.declared.sign.Sign.TheVariants as S
use Rattle.maxj_syntax.specs.declared.kind.Word.{Word}
use Rattle.maxj_syntax.specs.declared.kind.Word.TheVariants as W
use Rattle.maxj_syntax.specs.declared.tree.NodeKind.{NodeKind}
use Rattle.maxj_syntax.specs.declared.tree.NodeKind.TheVariants as N
use Rattle.maxj_syntax.specs.declared.symbol.TokenClass.{TokenClass}
use Rattle.maxj_syntax.specs.declared.symbol.TokenClass.TheVariants as C
use Rattle.maxj_syntax.specs.declared.symbol.Effect.{Effect}
use Rattle.maxj_syntax.specs.declared.symbol.Effect.TheVariants.{Skip, Over}
use Rattle.maxj_syntax.specs.declared.symbol.Action.TheVariants.{Begin, Wrap, Into, End}
use Rattle.maxj_syntax.specs.declared.symbol.Form.{Form}
use Rattle.maxj_syntax.specs.declared.symbol.Site.{Site}
use Rattle.maxj_syntax.specs.declared.symbol.Rule.{Rule}
use Rattle.maxj_tokens.specs.Tokens.{Token, written, is_among}
use Rattle.maxj_tokens.specs.Scanning.{PlacedToken}
use Rattle.maxj_syntax.specs.Tree.{Tree, Node, Trees, Nil, join}
use Rattle.maxj_syntax.specs.TokenClasses.{Accepts, IsWordOf, IsSignOf, IsNameToken, leaf_kind}
use Rattle.maxj_tokens.specs.Reading.{sign_bytes}
use Rattle.maxj_syntax.specs.Kinds.{word_bytes}
use Rattle.maxj_syntax.specs.Productions.{Above, IsLiteral, is_name, signs_of}
use Rattle.maxj_syntax.specs.Symbols.{Inside, Symbol, Mark, Name, Sub, Call, Act}
use Rattle.maxj_syntax.specs.Symbols as Y
use Rattle.maxj_syntax.specs.Moves.{Move, NamedMove, sign, word}
use Rattle.maxj_syntax.specs.Steps.{Entry, Below, Goes, between, spanned, read_top, read_below}
use Rattle.text_scan.proofs.ByteTests.{bytes_same, true_or_false}
use Rattle.maxj_syntax.proofs.Meanings.{adds}
use Rattle.maxj_syntax.proofs.Sound.{adds_is}
use Rattle.maxj_syntax.specs.declared.symbol.ClassKind.{ClassKind}

-- the symbols of two lists, one list after the other
pub append : {ps qs : List Symbol} {b m c : Entry} {s r q : Below} {xs ms ys : List PlacedToken} → Goes ps b s xs m r ms → Goes qs m r ms c q ys → Goes (ps ++ qs) b s xs c q ys
append Goes.none e = e
append (Goes.mark i g) e = Goes.mark i (append g e)
append (Goes.name i g) e = Goes.name i (append g e)
append (Goes.act g) e = Goes.act (append g e)
append (Goes.rule v d g) e = Goes.rule v d (append g e)
append (Goes.call v d g) e = Goes.call v d (append g e)

pub cut : (ps : List Symbol) {qs : List Symbol} {b c : Entry} {s q : Below}
    {xs ys : List PlacedToken} → Goes (ps ++ qs) b s xs c q ys → (m : Entry) × (r : Below)
    × (ms : List PlacedToken) × Goes ps b s xs m r ms × Goes qs m r ms c q ys
cut [] g = (_, _, _, Goes.none, g)
cut (Mark k e ∷ ps) (Goes.mark i g) = let r = cut ps g in (r.0, r.1, r.2, Goes.mark i r.3, r.4)
cut (Name w e ∷ ps) (Goes.name i g) = let r = cut ps g in (r.0, r.1, r.2, Goes.name i r.3, r.4)
cut (Call n ∷ ps) (Goes.call v d g) = let r = cut ps g in (r.0, r.1, r.2, Goes.call v d r.3, r.4)
cut (Act a ∷ ps) (Goes.act g) = let r = cut ps g in (r.0, r.1, r.2, Goes.act r.3, r.4)
cut (Sub p ∷ ps) (Goes.rule v d g) = let r = cut ps g in (r.0, r.1, r.2, Goes.rule v d r.3, r.4)

pub expand : {p : Rule} {qs ps : List Symbol} {b c : Entry} {s q : Below} {xs ys : List PlacedToken} → Move p qs → Goes (qs ++ ps) b s xs c q ys → Goes (Sub p ∷ ps) b s xs c q ys
expand {qs = qs} v g = let r = cut qs g in Goes.rule v r.3 r.4

pub expand_named : {n : Y.Named} {qs ps : List Symbol} {b c : Entry} {s q : Below} {xs ys : List PlacedToken} → NamedMove n qs → Goes (qs ++ ps) b s xs c q ys → Goes (Call n ∷ ps) b s xs c q ys
expand_named {qs = qs} v g = let r = cut qs g in Goes.call v r.3 r.4

pub eat : {k : TokenClass} {e : Effect} {ps : List Symbol} {t : PlacedToken} {b c : Entry}
    {s q : Below} {xs ms ys : List PlacedToken} → xs ≡ t ∷ ms → Accepts k t.token
    → Goes ps (read_top e t.token xs ms b) (read_below e b s) ms c q ys
    → Goes (Mark k e ∷ ps) b s xs c q ys
eat {k = k} {e = e} {ps = ps} {t = t} {b = b} {c = c} {s = s} {q = q} {ms = ms} {ys = ys} f i g =
    subst (λ l. Goes (Mark k e ∷ ps) b s l c q ys) (sym f) (Goes.mark i (subst (λ l. Goes ps (read_top e t.token l ms b) (read_below e b s) ms c q ys) f g))

pub eat_name : {w : List ℕ} {e : Effect} {ps : List Symbol} {t : PlacedToken} {b c : Entry}
    {s q : Below} {xs ms ys : List PlacedToken} → xs ≡ t ∷ ms → (t.token ≡ Token.Word w)
    × (is_name w ≡ true) → Goes ps (read_top e t.token xs ms b) (read_below e b s) ms c q ys
    → Goes (Name w e ∷ ps) b s xs c q ys
eat_name {w = w} {e = e} {ps = ps} {t = t} {b = b} {c = c} {s = s} {q = q} {ms = ms} {ys = ys} f i g =
    subst (λ l. Goes (Name w e ∷ ps) b s l c q ys) (sym f) (Goes.name i (subst (λ l. Goes ps (read_top e t.token l ms b) (read_below e b s) ms c q ys) f g))

pub put : {A : Type 0} {a b : A} (F : A → Type 0) → a ≡ b → F b → F a
put F e x = subst F (sym e) x

-- what a postfix form may go on with, a place may go on with too
abbrev pub soft : List Symbol → List Symbol
soft (Sub (Rule.Rest Form.Free) ∷ ps) = Sub (Rule.Rest Form.Place) ∷ soft ps
soft (Mark k e ∷ ps) = Mark k e ∷ soft ps
soft (Act a ∷ ps) = Act a ∷ soft ps
soft (Sub p ∷ ps) = Sub p ∷ soft ps
soft (Name w e ∷ ps) = Name w e ∷ soft ps
soft (Call n ∷ ps) = Call n ∷ soft ps
soft [] = []

pub soften : {ps : List Symbol} {b c : Entry} {s q : Below} {xs ys : List PlacedToken} → Goes ps b s xs c q ys → Goes (soft ps) b s xs c q ys
soften Goes.none = Goes.none
soften (Goes.mark i g) = Goes.mark i (soften g)
soften (Goes.act g) = Goes.act (soften g)
soften (Goes.name i g) = Goes.name i (soften g)
soften (Goes.call v d g) = Goes.call v d (soften g)
soften (Goes.rule {ps = ps} v d g) = soft_rule ps v d (soften d) (soften g)
  where
    soft_rule : {p : Rule} {qs : List Symbol} (ps : List Symbol) {b m c : Entry} {s r q : Below}
        {xs ms ys : List PlacedToken} → Move p qs → Goes qs b s xs m r ms
        → Goes (soft qs) b s xs m r ms → Goes (soft ps) m r ms c q ys
        → Goes (soft (Sub p ∷ ps)) b s xs c q ys
    soft_rule ps Move.free_index d e g = Goes.rule Move.place_index e g
    soft_rule ps Move.free_dot d e g = Goes.rule Move.place_bare (Goes.rule Move.bare_dot d Goes.none) g
    soft_rule ps Move.free_onward d e g = Goes.rule Move.place_bare (Goes.rule Move.bare_onward d Goes.none) g
    soft_rule ps v d e g = Goes.rule v d g

-- in what a simple statement stands
pub data Where : Type 0 where
  InSimple : Where
  InStmt : Where
  InFirst : Where

abbrev pub start : Where → List Symbol → List Symbol
start InSimple ps = Sub Rule.Simple ∷ ps
start InStmt ps = Sub Rule.Stmt ∷ ps
start InFirst ps = Sub Rule.First ∷ ps

abbrev pub rest : Where → List Symbol → List Symbol
rest InSimple ps = ps
rest InStmt ps = sign S.Semicolon ∷ ps
rest InFirst ps = ps

abbrev pub start_at : Site → List Symbol → List Symbol
start_at Site.Alone ps = Sub Rule.Stmt ∷ ps
start_at Site.Loop ps = Sub Rule.First ∷ ps

-- the tail of a level is open yet
abbrev pub open_ : Level → List Symbol → List Symbol
open_ Level.Prefixes ps = ps
open_ Level.Products ps = Sub (Rule.Tail Level.Products) ∷ ps
open_ Level.Sums ps = Sub (Rule.Tail Level.Sums) ∷ ps
open_ Level.Shifts ps = Sub (Rule.Tail Level.Shifts) ∷ ps
open_ Level.Orders ps = Sub (Rule.Tail Level.Orders) ∷ ps
open_ Level.Equalities ps = Sub (Rule.Tail Level.Equalities) ∷ ps
open_ Level.BitAnds ps = Sub (Rule.Tail Level.BitAnds) ∷ ps
open_ Level.BitXors ps = Sub (Rule.Tail Level.BitXors) ∷ ps
open_ Level.BitOrs ps = Sub (Rule.Tail Level.BitOrs) ∷ ps
open_ Level.Ands ps = Sub (Rule.Tail Level.Ands) ∷ ps
open_ Level.Ors ps = Sub (Rule.Tail Level.Ors) ∷ ps

-- the tails below a level come first
abbrev pub below : Level → List Symbol → List Symbol
below Level.Prefixes ps = ps
below Level.Products ps = Sub (Rule.Tail Level.Products) ∷ ps
below Level.Sums ps = Sub (Rule.Tail Level.Products) ∷ Sub (Rule.Tail Level.Sums) ∷ ps
below Level.Shifts ps = Sub (Rule.Tail Level.Products) ∷ Sub (Rule.Tail Level.Sums) ∷ Sub (Rule.Tail Level.Shifts) ∷ ps
below Level.Orders ps = Sub (Rule.Tail Level.Products) ∷ Sub (Rule.Tail Level.Sums) ∷ Sub (Rule.Tail Level.Shifts) ∷ Sub (Rule.Tail Level.Orders) ∷ ps
below Level.Equalities ps = Sub (Rule.Tail Level.Products) ∷ Sub (Rule.Tail Level.Sums) ∷ Sub (Rule.Tail Level.Shifts) ∷ Sub (Rule.Tail Level.Orders) ∷ Sub (Rule.Tail Level.Equalities) ∷ ps
below Level.BitAnds ps = Sub (Rule.Tail Level.Products) ∷ Sub (Rule.Tail Level.Sums)
    ∷ Sub (Rule.Tail Level.Shifts) ∷ Sub (Rule.Tail Level.Orders)
    ∷ Sub (Rule.Tail Level.Equalities) ∷ Sub (Rule.Tail Level.BitAnds) ∷ ps
below Level.BitXors ps = Sub (Rule.Tail Level.Products) ∷ Sub (Rule.Tail Level.Sums)
    ∷ Sub (Rule.Tail Level.Shifts) ∷ Sub (Rule.Tail Level.Orders)
    ∷ Sub (Rule.Tail Level.Equalities) ∷ Sub (Rule.Tail Level.BitAnds)
    ∷ Sub (Rule.Tail Level.BitXors) ∷ ps
below Level.BitOrs ps = Sub (Rule.Tail Level.Products) ∷ Sub (Rule.Tail Level.Sums)
    ∷ Sub (Rule.Tail Level.Shifts) ∷ Sub (Rule.Tail Level.Orders)
    ∷ Sub (Rule.Tail Level.Equalities) ∷ Sub (Rule.Tail Level.BitAnds)
    ∷ Sub (Rule.Tail Level.BitXors) ∷ Sub (Rule.Tail Level.BitOrs) ∷ ps
below Level.Ands ps = Sub (Rule.Tail Level.Products) ∷ Sub (Rule.Tail Level.Sums)
    ∷ Sub (Rule.Tail Level.Shifts) ∷ Sub (Rule.Tail Level.Orders)
    ∷ Sub (Rule.Tail Level.Equalities) ∷ Sub (Rule.Tail Level.BitAnds)
    ∷ Sub (Rule.Tail Level.BitXors) ∷ Sub (Rule.Tail Level.BitOrs) ∷ Sub (Rule.Tail Level.Ands) ∷ ps
below Level.Ors ps = Sub (Rule.Tail Level.Products) ∷ Sub (Rule.Tail Level.Sums)
    ∷ Sub (Rule.Tail Level.Shifts) ∷ Sub (Rule.Tail Level.Orders)
    ∷ Sub (Rule.Tail Level.Equalities) ∷ Sub (Rule.Tail Level.BitAnds)
    ∷ Sub (Rule.Tail Level.BitXors) ∷ Sub (Rule.Tail Level.BitOrs) ∷ Sub (Rule.Tail Level.Ands)
    ∷ Sub (Rule.Tail Level.Ors) ∷ ps

pub below_above : {l k : Level} → Above l k → (ps : List Symbol) → below k ps ≡ below l (Sub (Rule.Tail k) ∷ ps)
below_above Above.products ps = refl
below_above _ ps = refl

pub open_above : {l k : Level} → Above l k → (ps : List Symbol) → open_ k ps ≡ Sub (Rule.Tail k) ∷ ps
open_above Above.products ps = refl
open_above _ ps = refl

abbrev pub connecting : List Symbol
connecting = Act (Wrap N.Connect) ∷ sign S.Connect ∷ Sub Rule.Expr ∷ Act Into ∷ Act End ∷ []

abbrev pub dotting : List Symbol
dotting = sign S.Dot ∷ Mark C.Name (Over N.Dot) ∷ []

abbrev pub leaf : NodeKind → List ℕ → List PlacedToken → List PlacedToken → Tree
leaf k w xs ys = Node k w (between xs ys) Nil

pub shut : (k : NodeKind) (w : List ℕ) (r p : Span) (cs ts : Trees) → spanned p (adds (Node k w r cs) ts) ≡ Node k w p (join cs ts)
shut k w r p cs ts = ap (λ t. spanned p t) (adds_is k w r cs ts)

-- a name is this word, or another
pub split_word : (x : Word) (t : Token) → IsNameToken t → Accepts (C.NameBut x) t ⊎ Accepts (C.Word x) t
split_word x t i = elim (true_or_false (bytes_eq (written t) (word_bytes x))) [
  | inl e ↦ inr (i.0 ∙ ap (λ w. Token.Word w) (bytes_same (written t) (word_bytes x) e))
  | inr e ↦ inl (i, e)
]

pub split_order : (x : Sign) (t : Token) → IsSignOf (signs_of Level.Orders) t → Accepts (C.OrderBut x) t ⊎ Accepts (C.Sign x) t
split_order x t i = elim (true_or_false (bytes_eq (written t) (sign_bytes x))) [
  | inl e ↦ inr (i.0 ∙ ap (λ w. Token.Sign w) (bytes_same (written t) (sign_bytes x) e))
  | inr e ↦ inl (i, e)
]

-- what is written in a name, a word, a sign or a literal
pub id_token : {w : List ℕ} (t : Token) → (t ≡ Token.Word w) × (is_name w ≡ true) → IsNameToken t × (w ≡ written t)
id_token {w = w} t i =
    let f : w ≡ written t = sym (ap written i.0) in
    ((i.0 ∙ ap (λ v. Token.Word v) f, subst (λ v. is_name v ≡ true) f i.1), f)

pub word_token : {w : List ℕ} (ws : List (List ℕ)) (t : Token) → (t ≡ Token.Word w) × (is_among w ws ≡ true) → IsWordOf ws t × (w ≡ written t)
word_token {w = w} ws t i =
    let f : w ≡ written t = sym (ap written i.0) in
    ((i.0 ∙ ap (λ v. Token.Word v) f, subst (λ v. is_among v ws ≡ true) f i.1), f)

pub sign_token : {w : List ℕ} (ws : List (List ℕ)) (t : Token) → (t ≡ Token.Sign w) × (is_among w ws ≡ true) → IsSignOf ws t × (w ≡ written t)
sign_token {w = w} ws t i =
    let f : w ≡ written t = sym (ap written i.0) in
    ((i.0 ∙ ap (λ v. Token.Sign v) f, subst (λ v. is_among v ws ≡ true) f i.1), f)

pub literal_token : (k : NodeKind) (w : List ℕ) (t : Token) → IsLiteral k w t → Accepts C.Literal t × (k ≡ leaf_kind t) × (w ≡ written t)
literal_token N.Whole w t i = (subst (λ u. Accepts C.Literal u) (sym i) refl, ap leaf_kind (sym i), ap written (sym i))
literal_token N.Decimal w t i = (subst (λ u. Accepts C.Literal u) (sym i) refl, ap leaf_kind (sym i), ap written (sym i))
literal_token N.Str w t i = (subst (λ u. Accepts C.Literal u) (sym i) refl, ap leaf_kind (sym i), ap written (sym i))
literal_token _ w t i = absurd i

-- what stands behind the parameters of a constructor
abbrev pub constructing : List ℕ → List Symbol
constructing p = Act (Begin N.Block) ∷ sign S.OpenBrace ∷ word W.Super ∷ sign S.Open ∷ Name p Skip ∷ Sub Rule.SuperRest ∷ []

abbrev pub more_of : ClassKind → List Symbol
more_of ClassKind.Kernel = Sub Rule.MoreParams ∷ []
more_of ClassKind.Manager = []

abbrev pub inside : ClassKind → List ℕ → Bool → Inside
inside m w u = record { kind = m; class = w; unmade = u }
