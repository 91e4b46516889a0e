-- Each list of symbols that speak of names alone has a list of tokens.
use Rattle.std.proofs.Common.{◌≡◌, ℕ, List, [], ◌∷◌, ◌++◌, Bool, true, false, ◌&&◌, refl, sym, subst, inl, inr, codes}
use Rattle.std.specs.Str.{bytes_eq}
use Rattle.grammar.specs.Stack.{Runs, Starts}
use Rattle.maxj_syntax.specs.declared.level.Level.{Level}
use Rattle.maxj_tokens.specs.declared.sign.Sign.TheVariants as S
use Rattle.maxj_syntax.specs.declared.tree.NodeKind.TheVariants as N
use Rattle.maxj_syntax.specs.declared.symbol.TokenClass.TheVariants as C
use Rattle.maxj_syntax.specs.declared.symbol.Effect.TheVariants.{Skip, Text}
use Rattle.maxj_syntax.specs.declared.symbol.Action.TheVariants.{Turn, Into, Named}
use Rattle.maxj_syntax.specs.declared.symbol.Form.{Form}
use Rattle.maxj_syntax.specs.declared.symbol.Site.{Site}
use Rattle.maxj_syntax.specs.declared.symbol.Rule.{Rule}
use Rattle.maxj_syntax.specs.declared.symbol.Rule.TheVariants as R
use Rattle.maxj_syntax.specs.Symbols.{Inside, Symbol, Mark, Name, Sub, Call, Act}
use Rattle.maxj_syntax.specs.Symbols as Y
use Rattle.maxj_tokens.specs.Scanning.{PlacedToken}
use Rattle.maxj_syntax.specs.Productions.{is_name}
use Rattle.maxj_syntax.specs.Table.{choices}
use Rattle.maxj_syntax.specs.Choosing.{Among, Is, Choice, named_choices, bound, member_choices, after_choices}
use Rattle.maxj_syntax.proofs.Fits.{and_left, and_right}
use Rattle.maxj_syntax.proofs.Ranks.{Listed, mark_list, name_list, act_list, before, pick_list, ranked}
use Rattle.text_scan.proofs.ByteTests.{bytes_refl}
use Rattle.maxj_syntax.specs.declared.symbol.ClassKind.{ClassKind}

-- the symbols speak of names alone
abbrev FineCall : Y.Named → Type 0
FineCall Y.ClassName = Unit {0}
FineCall (Y.Parent w) = is_name w ≡ true
FineCall (Y.Members i) = is_name i.class ≡ true
FineCall (Y.Head i) = is_name i.class ≡ true
FineCall (Y.After i o m) = is_name i.class ≡ true
FineCall (Y.FirstParam m) = Unit {0}

abbrev pub Fine : Symbol → Type 0
Fine (Name w e) = is_name w ≡ true
Fine (Call n) = FineCall n
Fine _ = Unit {0}

abbrev pub AllFine : List Symbol → Type 0
AllFine [] = Unit {0}
AllFine (p ∷ ps) = Fine p × AllFine ps

rest_of : (p : Symbol) (ps : List Symbol) → Listed ps → Listed (p ∷ []) → Listed (p ∷ ps)
rest_of p ps b a = before p ps a b

first_param_list : (m : ClassKind) → Listed (Call (Y.FirstParam m) ∷ [])
first_param_list m = pick_list (Call (Y.FirstParam m)) (bound (Y.FirstParam m) (codes "a")) (inr (codes "a", refl, refl, refl))
    (name_list _ _ _ refl (before _ _ (opened m) (mark_list _ _ _ (act_list _ _ (mark_list _ _ _ (mark_list _ _ _ (mark_list _ _ _ (name_list _ _ _ refl (ranked R.SuperRest refl)))))))))
  where
    opened : (m : ClassKind) → Listed (Sub (R.Opened m) ∷ [])
    opened ClassKind.Manager = ranked (R.Opened ClassKind.Manager) refl
    opened ClassKind.Kernel = ranked (R.Opened ClassKind.Kernel) refl

opening_list : (m : ClassKind) → Listed (Sub (R.Opening m) ∷ [])
opening_list ClassKind.Kernel =
    pick_list (Sub (R.Opening ClassKind.Kernel)) _ (inl refl) (act_list _ _ (before _ _
    (ranked R.MaybeFinal refl) (mark_list _ _ _ (act_list _ _
    (first_param_list ClassKind.Kernel)))))
opening_list ClassKind.Manager =
    pick_list (Sub (R.Opening ClassKind.Manager)) _ (inl refl) (act_list _ _ (before _ _
    (ranked R.MaybeFinal refl) (mark_list _ _ _ (act_list _ _
    (first_param_list ClassKind.Manager)))))

made_members : (m : ClassKind) (w : List ℕ) → Listed (Call (Y.Members (record { kind = m; class = w; unmade = false })) ∷ [])
made_members m w = pick_list (Call (Y.Members (record { kind = m; class = w; unmade = false }))) [] (inl (inr (inl refl))) ([], Runs.end)

-- a constructor behind its name
ctor_list : (m : ClassKind) (w : List ℕ) (k : Bool) → Listed (Call (Y.After (record { kind = m; class = w; unmade = true }) true k) ∷ [])
ctor_list m w k = pick_list (Call (Y.After (record
    { kind = m; class = w; unmade = true }) true k)) _ (inl (here k))
    (act_list _ _ (act_list _ _ (mark_list _ _ _ (before _ _ (opening_list m)
    (act_list _ _ (made_members m w))))))
  where
    here : (k : Bool) → Among (Act Named ∷ Act (Turn N.Ctor) ∷ Mark (C.Sign S.Open) Skip
        ∷ Sub (R.Opening m) ∷ Act Into ∷ Call (Y.Members
        (record { kind = m; class = w; unmade = false }))
        ∷ []) (after_choices (record { kind = m; class = w; unmade = true }) true k)
    here true = inl refl
    here false = inl refl

head_list : (m : ClassKind) (w : List ℕ) (u : Bool) → is_name w ≡ true → Listed (Call (Y.Head (record { kind = m; class = w; unmade = u })) ∷ [])
head_list m w true n =
    let i : Inside = record { kind = m; class = w; unmade = true } in
    let k = bytes_eq w (codes "Memory") in
    pick_list (Call (Y.Head i)) (bound (Y.Head i) w) (inr (w, n, refl, refl)) (name_list _ _ _ n (subst (λ o. Listed (Call (Y.After i o k) ∷ [])) (sym (bytes_refl w)) (ctor_list m w k)))
head_list m w false n =
    let i : Inside = record { kind = m; class = w; unmade = false } in
    pick_list (Call (Y.Head i)) _ (inl (inl refl)) (mark_list _ _ _ (act_list _ _ (mark_list _ _ _ (act_list _ _ (before _ _ (ranked R.MethodRest refl) (act_list _ _ (made_members m w)))))))

members_list : (m : ClassKind) (w : List ℕ) (u : Bool) → is_name w ≡ true → Listed (Call (Y.Members (record { kind = m; class = w; unmade = u })) ∷ [])
members_list m w true n = pick_list (Call (Y.Members (record { kind = m; class = w; unmade = true }))) _ (inl (inl refl)) (act_list _ _ (before _ _ (ranked R.Mods refl) (head_list m w true n)))
members_list m w false n = made_members m w

after_list : (i : Inside) (o k : Bool) → is_name i.class ≡ true → Listed (Call (Y.After i o k) ∷ [])
after_list i o k n = pick_list (Call (Y.After i o k)) _ (inl (last o k))
    (before _ _ (ranked R.Dims refl) (act_list _ _ (mark_list _ _ _
    (before _ _ (ranked R.Declares refl) (act_list _ _
    (members_list i.kind i.class i.unmade n))))))
  where
    last : (o k : Bool) → Among (Sub R.Dims ∷ Act Into ∷ Mark C.Name Text ∷ Sub R.Declares ∷ Act Into ∷ Call (Y.Members i) ∷ []) (after_choices i o k)
    last true true = inr (inr (inl refl))
    last true false = inr (inl refl)
    last false true = inr (inl refl)
    last false false = inl refl

parent_list : (w : List ℕ) → is_name w ≡ true → Listed (Call (Y.Parent w) ∷ [])
parent_list w n = pick_list (Call (Y.Parent w)) _ (inl (inl refl))
    (mark_list _ _ _ (mark_list _ _ _ (before _ _ (members_list ClassKind.Kernel w true n)
    (mark_list _ _ _ (act_list _ _ (act_list _ _ ([], Runs.end)))))))

class_name_list : Listed (Call Y.ClassName ∷ [])
class_name_list = pick_list (Call Y.ClassName) (bound Y.ClassName (codes "a")) (inr (codes "a", refl, refl, refl)) (name_list _ _ _ refl (mark_list _ _ _ (parent_list (codes "a") refl)))

class_list : Listed (Sub R.Class ∷ [])
class_list = pick_list (Sub R.Class) _ (inl refl) (act_list _ _ (before _ _ (ranked R.Mods refl) (mark_list _ _ _ class_name_list)))

file_list : Listed (Sub R.File ∷ [])
file_list = pick_list (Sub R.File) _ (inl refl) (before _ _ (ranked R.Package refl) (before _ _ (ranked R.Imports refl) (before _ _ class_list (ranked R.Classes refl))))

sub_list : (r : Rule) → Listed (Sub r ∷ [])
sub_list R.File = file_list
sub_list R.Class = class_list
sub_list (R.Opening m) = opening_list m
-- Made by tools/source_grammar.py from tools/source_grammar.txt: the rules that have a rank.
sub_list R.Package = ranked R.Package refl
sub_list R.Path = ranked R.Path refl
sub_list R.MorePath = ranked R.MorePath refl
sub_list R.Imports = ranked R.Imports refl
sub_list R.MaybeStatic = ranked R.MaybeStatic refl
sub_list R.ImportMore = ranked R.ImportMore refl
sub_list R.ImportDot = ranked R.ImportDot refl
sub_list R.Classes = ranked R.Classes refl
sub_list R.Mods = ranked R.Mods refl
sub_list R.Declares = ranked R.Declares refl
sub_list R.MethodRest = ranked R.MethodRest refl
sub_list R.Params = ranked R.Params refl
sub_list R.MoreParams = ranked R.MoreParams refl
sub_list R.Param = ranked R.Param refl
sub_list R.MaybeFinal = ranked R.MaybeFinal refl
sub_list (R.Opened ClassKind.Kernel) = ranked (R.Opened ClassKind.Kernel) refl
sub_list (R.Opened ClassKind.Manager) = ranked (R.Opened ClassKind.Manager) refl
sub_list R.SuperRest = ranked R.SuperRest refl
sub_list R.TypeName = ranked R.TypeName refl
sub_list R.MemoryType = ranked R.MemoryType refl
sub_list R.Dims = ranked R.Dims refl
sub_list R.Expr = ranked R.Expr refl
sub_list R.CondTail = ranked R.CondTail refl
sub_list (R.Operand Level.Prefixes) = ranked (R.Operand Level.Prefixes) refl
sub_list (R.Operand Level.Products) = ranked (R.Operand Level.Products) refl
sub_list (R.Operand Level.Sums) = ranked (R.Operand Level.Sums) refl
sub_list (R.Operand Level.Shifts) = ranked (R.Operand Level.Shifts) refl
sub_list (R.Operand Level.Orders) = ranked (R.Operand Level.Orders) refl
sub_list (R.Operand Level.Equalities) = ranked (R.Operand Level.Equalities) refl
sub_list (R.Operand Level.BitAnds) = ranked (R.Operand Level.BitAnds) refl
sub_list (R.Operand Level.BitXors) = ranked (R.Operand Level.BitXors) refl
sub_list (R.Operand Level.BitOrs) = ranked (R.Operand Level.BitOrs) refl
sub_list (R.Operand Level.Ands) = ranked (R.Operand Level.Ands) refl
sub_list (R.Operand Level.Ors) = ranked (R.Operand Level.Ors) refl
sub_list (R.Tail Level.Prefixes) = ranked (R.Tail Level.Prefixes) refl
sub_list (R.Tail Level.Products) = ranked (R.Tail Level.Products) refl
sub_list (R.Tail Level.Sums) = ranked (R.Tail Level.Sums) refl
sub_list (R.Tail Level.Shifts) = ranked (R.Tail Level.Shifts) refl
sub_list (R.Tail Level.Orders) = ranked (R.Tail Level.Orders) refl
sub_list (R.Tail Level.Equalities) = ranked (R.Tail Level.Equalities) refl
sub_list (R.Tail Level.BitAnds) = ranked (R.Tail Level.BitAnds) refl
sub_list (R.Tail Level.BitXors) = ranked (R.Tail Level.BitXors) refl
sub_list (R.Tail Level.BitOrs) = ranked (R.Tail Level.BitOrs) refl
sub_list (R.Tail Level.Ands) = ranked (R.Tail Level.Ands) refl
sub_list (R.Tail Level.Ors) = ranked (R.Tail Level.Ors) refl
sub_list R.Postfix = ranked R.Postfix refl
sub_list R.Called = ranked R.Called refl
sub_list R.Args = ranked R.Args refl
sub_list R.MoreArgs = ranked R.MoreArgs refl
sub_list R.Post = ranked R.Post refl
sub_list R.Dotted = ranked R.Dotted refl
sub_list R.NewBase = ranked R.NewBase refl
sub_list R.NewMemory = ranked R.NewMemory refl
sub_list R.NewRest = ranked R.NewRest refl
sub_list R.FreshTail = ranked R.FreshTail refl
sub_list R.Sizes = ranked R.Sizes refl
sub_list R.MoreSizes = ranked R.MoreSizes refl
sub_list R.Simple = ranked R.Simple refl
sub_list R.NameRest = ranked R.NameRest refl
sub_list R.Other = ranked R.Other refl
sub_list R.NewStmt = ranked R.NewStmt refl
sub_list R.NewStmtMemory = ranked R.NewStmtMemory refl
sub_list R.NewStmtRest = ranked R.NewStmtRest refl
sub_list (R.Rest Form.Place) = ranked (R.Rest Form.Place) refl
sub_list (R.Rest Form.Call) = ranked (R.Rest Form.Call) refl
sub_list (R.Rest Form.Free) = ranked (R.Rest Form.Free) refl
sub_list (R.Rest Form.Fresh) = ranked (R.Rest Form.Fresh) refl
sub_list R.Bare = ranked R.Bare refl
sub_list R.DottedRest = ranked R.DottedRest refl
sub_list R.Init = ranked R.Init refl
sub_list R.Inits = ranked R.Inits refl
sub_list R.MoreInits = ranked R.MoreInits refl
sub_list R.Block = ranked R.Block refl
sub_list R.Stmts = ranked R.Stmts refl
sub_list R.Stmt = ranked R.Stmt refl
sub_list (R.NameThen Site.Alone) = ranked (R.NameThen Site.Alone) refl
sub_list (R.NameThen Site.Loop) = ranked (R.NameThen Site.Loop) refl
sub_list (R.BracketThen Site.Alone) = ranked (R.BracketThen Site.Alone) refl
sub_list (R.BracketThen Site.Loop) = ranked (R.BracketThen Site.Loop) refl
sub_list (R.Declared Site.Alone) = ranked (R.Declared Site.Alone) refl
sub_list (R.Declared Site.Loop) = ranked (R.Declared Site.Loop) refl
sub_list R.ReturnRest = ranked R.ReturnRest refl
sub_list R.ElseTail = ranked R.ElseTail refl
sub_list R.ElseRest = ranked R.ElseRest refl
sub_list R.Body = ranked R.Body refl
sub_list R.First = ranked R.First refl
sub_list R.Test = ranked R.Test refl
sub_list R.Step = ranked R.Step refl
sub_list (R.MemoryThen Site.Alone) = ranked (R.MemoryThen Site.Alone) refl
sub_list (R.MemoryThen Site.Loop) = ranked (R.MemoryThen Site.Loop) refl
sub_list (R.LessThen Site.Alone) = ranked (R.LessThen Site.Alone) refl
sub_list (R.LessThen Site.Loop) = ranked (R.LessThen Site.Loop) refl
sub_list (R.DFEVarThen Site.Alone) = ranked (R.DFEVarThen Site.Alone) refl
sub_list (R.DFEVarThen Site.Loop) = ranked (R.DFEVarThen Site.Loop) refl
sub_list (R.GreaterThen Site.Alone) = ranked (R.GreaterThen Site.Alone) refl
sub_list (R.GreaterThen Site.Loop) = ranked (R.GreaterThen Site.Loop) refl
sub_list (R.MemoryName Site.Alone) = ranked (R.MemoryName Site.Alone) refl
sub_list (R.MemoryName Site.Loop) = ranked (R.MemoryName Site.Loop) refl
sub_list R.MemoryBare = ranked R.MemoryBare refl
sub_list R.OtherOperand = ranked R.OtherOperand refl
sub_list R.NamelessOperand = ranked R.NamelessOperand refl
sub_list R.Further = ranked R.Further refl
sub_list R.Tighter = ranked R.Tighter refl

-- By hand again.

call_list : (n : Y.Named) → FineCall n → Listed (Call n ∷ [])
call_list Y.ClassName f = class_name_list
call_list (Y.Parent w) f = parent_list w f
call_list (Y.Members i) f = members_list i.kind i.class i.unmade f
call_list (Y.Head i) f = head_list i.kind i.class i.unmade f
call_list (Y.After i o m) f = after_list i o m f
call_list (Y.FirstParam m) f = first_param_list m

any_list : (ps : List Symbol) → AllFine ps → Listed ps
any_list [] f = ([], Runs.end)
any_list (Mark k e ∷ ps) f = mark_list k e ps (any_list ps f.1)
any_list (Name w e ∷ ps) f = name_list w e ps f.0 (any_list ps f.1)
any_list (Act a ∷ ps) f = act_list a ps (any_list ps f.1)
any_list (Sub r ∷ ps) f = before (Sub r) ps (sub_list r) (any_list ps f.1)
any_list (Call n ∷ ps) f = before (Call n) ps (call_list n f.0) (any_list ps f.1)

-- and so do the choices of such a symbol
abbrev plain : List Symbol → Bool
plain [] = true
plain (Name w e ∷ ps) = false
plain (Call Y.ClassName ∷ ps) = plain ps
plain (Call (Y.FirstParam m) ∷ ps) = plain ps
plain (Call n ∷ ps) = false
plain (p ∷ ps) = plain ps

plain_fine : (ps : List Symbol) → plain ps ≡ true → AllFine ps
plain_fine [] e = tt
plain_fine (Mark k x ∷ ps) e = (tt, plain_fine ps e)
plain_fine (Sub r ∷ ps) e = (tt, plain_fine ps e)
plain_fine (Act a ∷ ps) e = (tt, plain_fine ps e)
plain_fine (Name w x ∷ ps) e = absurd (cc)
plain_fine (Call Y.ClassName ∷ ps) e = (tt, plain_fine ps e)
plain_fine (Call (Y.FirstParam m) ∷ ps) e = (tt, plain_fine ps e)
plain_fine (Call (Y.Parent w) ∷ ps) e = absurd (cc)
plain_fine (Call (Y.Members i) ∷ ps) e = absurd (cc)
plain_fine (Call (Y.Head i) ∷ ps) e = absurd (cc)
plain_fine (Call (Y.After i o m) ∷ ps) e = absurd (cc)

abbrev all_plain : List (List Symbol) → Bool
all_plain [] = true
all_plain (c ∷ cs) = plain c && all_plain cs

-- Made by tools/source_grammar.py from tools/source_grammar.txt: the choices speak of no name.
rules_plain : (r : Rule) → all_plain (choices r) ≡ true
rules_plain R.File = refl
rules_plain (R.Opening ClassKind.Kernel) = refl
rules_plain (R.Opening _) = refl
rules_plain (R.Opened ClassKind.Kernel) = refl
rules_plain (R.Opened _) = refl
rules_plain (R.Operand Level.Prefixes) = refl
rules_plain (R.Operand _) = refl
rules_plain (R.Tail Level.Prefixes) = refl
rules_plain (R.Tail _) = refl
rules_plain (R.Rest Form.Place) = refl
rules_plain (R.Rest _) = refl
rules_plain (R.NameThen Site.Alone) = refl
rules_plain (R.NameThen _) = refl
rules_plain (R.BracketThen Site.Alone) = refl
rules_plain (R.BracketThen _) = refl
rules_plain (R.Declared Site.Alone) = refl
rules_plain (R.Declared _) = refl
rules_plain (R.MemoryThen Site.Alone) = refl
rules_plain (R.MemoryThen _) = refl
rules_plain (R.LessThen Site.Alone) = refl
rules_plain (R.LessThen _) = refl
rules_plain (R.DFEVarThen Site.Alone) = refl
rules_plain (R.DFEVarThen _) = refl
rules_plain (R.GreaterThen Site.Alone) = refl
rules_plain (R.GreaterThen _) = refl
rules_plain (R.MemoryName Site.Alone) = refl
rules_plain (R.MemoryName _) = refl
rules_plain _ = refl

-- By hand again.

among_plain : (cs : List (List Symbol)) (qs : List Symbol) → all_plain cs ≡ true → Among qs cs → AllFine qs
among_plain [] qs e a = absurd a
among_plain (c ∷ cs) qs e a = elim a [
  | inl f ↦ subst AllFine f (plain_fine c (and_left (plain c) _ e))
  | inr b ↦ among_plain cs qs (and_right (plain c) _ e) b
]

abbrev AllFineIn : List (List Symbol) → Type 0
AllFineIn [] = Unit {0}
AllFineIn (c ∷ cs) = AllFine c × AllFineIn cs

among_fine : (cs : List (List Symbol)) (qs : List Symbol) → AllFineIn cs → Among qs cs → AllFine qs
among_fine [] qs f a = absurd a
among_fine (c ∷ cs) qs f a = elim a [
  | inl e ↦ subst AllFine e f.0
  | inr b ↦ among_fine cs qs f.1 b
]

members_fine : (i : Inside) (u : Bool) → is_name i.class ≡ true → AllFineIn (member_choices u i)
members_fine i true n = ((tt, (tt, (n, tt))), tt)
members_fine i false n = ((tt, (tt, (n, tt))), (tt, tt))

after_fine : (i : Inside) (o m : Bool) → is_name i.class ≡ true → AllFineIn (after_choices i o m)
after_fine i true true n = ((tt, (tt, (tt, (tt, (tt, (n, tt)))))), ((tt, (tt, (tt, (tt, (tt, (tt, (tt, (tt, (tt, (n, tt)))))))))), ((tt, (tt, (tt, (tt, (tt, (n, tt)))))), tt)))
after_fine i true false n = ((tt, (tt, (tt, (tt, (tt, (n, tt)))))), ((tt, (tt, (tt, (tt, (tt, (n, tt)))))), tt))
after_fine i false true n = ((tt, (tt, (tt, (tt, (tt, (tt, (tt, (tt, (tt, (n, tt)))))))))), ((tt, (tt, (tt, (tt, (tt, (n, tt)))))), tt))
after_fine i false false n = ((tt, (tt, (tt, (tt, (tt, (n, tt)))))), tt)

calls_fine : (n : Y.Named) → FineCall n → AllFineIn (named_choices n)
calls_fine Y.ClassName f = tt
calls_fine (Y.Parent w) f = ((tt, (tt, (f, (tt, (tt, (tt, tt)))))), ((tt, (tt, (f, (tt, (tt, (tt, tt)))))), tt))
calls_fine (Y.Members i) f = members_fine i i.unmade f
calls_fine (Y.Head i) f = ((tt, (tt, (tt, (tt, (tt, (tt, (f, tt))))))), ((tt, (tt, (tt, (tt, (tt, (tt, (f, tt))))))), tt))
calls_fine (Y.After i o m) f = after_fine i o m f
calls_fine (Y.FirstParam m) f = tt

bound_fine : (n : Y.Named) (w : List ℕ) → FineCall n → is_name w ≡ true → AllFine (bound n w)
bound_fine Y.ClassName w f e = (e, (tt, (e, tt)))
bound_fine (Y.Head i) w f e = (e, (f, tt))
bound_fine (Y.FirstParam m) w f e = (e, (tt, (tt, (tt, (tt, (tt, (tt, (e, (tt, tt)))))))))
bound_fine (Y.Parent v) w f e = tt
bound_fine (Y.Members i) w f e = tt
bound_fine (Y.After i o m) w f e = tt

choice_fine : (p : Symbol) (qs : List Symbol) → Choice p qs → Fine p → AllFine qs
choice_fine (Mark k e) qs c f = absurd c
choice_fine (Name w e) qs c f = absurd c
choice_fine (Sub r) qs c f = among_plain (choices r) qs (rules_plain r) c
choice_fine (Call n) qs c f = elim c [
  | inl a ↦ among_fine (named_choices n) qs (calls_fine n f) a
  | inr b ↦ subst AllFine b.3 (bound_fine n b.0 f b.1)
]
choice_fine (Act a) qs c f = subst AllFine c tt

fine_both : (ps qs : List Symbol) → AllFine ps → AllFine qs → AllFine (ps ++ qs)
fine_both [] qs f g = g
fine_both (p ∷ ps) qs f g = (f.0, fine_both ps qs f.1 g)

-- what begins can be ended
pub ended_somehow : {ps : List Symbol} {u : List PlacedToken} → Starts Is Choice ps u → AllFine ps → (v : List PlacedToken) × Runs Is Choice ps (u ++ v)
ended_somehow (Starts.end {ps = ps}) f = any_list ps f
ended_somehow (Starts.eat i s) f = let r = ended_somehow s f.1 in (r.0, Runs.eat i r.1)
ended_somehow (Starts.pick {p = p} qs {ps = ps} c s) f = let r = ended_somehow s (fine_both qs ps (choice_fine p qs c f.0) f.1) in (r.0, Runs.pick qs c r.1)
