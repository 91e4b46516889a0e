-- The choice that the parser takes at the next token, and what it must know of the rules to take the right one.
use Rattle.std.specs.Prelude.{◌≡◌, ◌⊎◌, ◌+◌, ◌^◌, ℕ, List, [], ◌∷◌, Bool, true, false, ◌&&◌, Option}
use Rattle.std.specs.Prelude.{Some, None, if◌then◌else◌, nat_eq, bit_or, bit_and, codes}
use Rattle.std.specs.List.{list_any}
use Rattle.std.specs.Int.{bit_at}
use Rattle.std.specs.Str.{bytes_eq}
use Rattle.grammar.specs.Stack.{all_empty}
use Rattle.maxj_tokens.specs.declared.sign.Sign.TheVariants as S
use Rattle.maxj_syntax.specs.declared.kind.Kind.{Kind}
use Rattle.maxj_syntax.specs.declared.kind.Word.TheVariants as W
use Rattle.maxj_syntax.specs.declared.tree.NodeKind.TheVariants as N
use Rattle.maxj_syntax.specs.declared.symbol.TokenClass.{TokenClass}
use Rattle.maxj_syntax.specs.declared.symbol.TokenClass.TheVariants as C
use Rattle.maxj_syntax.specs.declared.symbol.Effect.TheVariants.{Skip, Push, Text}
use Rattle.maxj_syntax.specs.declared.symbol.Action.TheVariants.{Begin, Turn, Into, End, Named, Keep}
use Rattle.maxj_syntax.specs.declared.symbol.Rule.TheVariants as R
use Rattle.maxj_tokens.specs.Tokens.{Token, written}
use Rattle.maxj_tokens.specs.Scanning.{PlacedToken}
use Rattle.maxj_syntax.specs.Kinds.{kind_of}
use Rattle.maxj_syntax.specs.TokenClasses.{number, kinds_in, class_has, Accepts}
use Rattle.maxj_syntax.specs.Productions.{is_name}
use Rattle.maxj_syntax.specs.Symbols.{Inside, Symbol, Mark, Name, Sub, Call, Act}
use Rattle.maxj_syntax.specs.Symbols as Y
use Rattle.maxj_syntax.specs.Moves.{sign, word, is_own, made, and_members}
use Rattle.maxj_syntax.specs.Table.{choices, guards}
use Rattle.maxj_syntax.specs.Lookahead.{first, nullable, peek, weight}
use Rattle.maxj_syntax.specs.declared.symbol.ClassKind.{ClassKind}

-- sets of kinds as numbers: the kind with the number k is in the set where the bit k is 1

abbrev pub has : ℕ → ℕ → Bool
has set k = nat_eq (bit_at set k) 1

abbrev pub within : ℕ → ℕ → Bool
within a b = nat_eq (bit_or a b) b

abbrev pub apart : ℕ → ℕ → Bool
apart a b = nat_eq (bit_and a b) 0

abbrev pub implies : Bool → Bool → Bool
implies true b = b
implies false b = true

abbrev pub set_of_kinds : List Kind → ℕ
set_of_kinds [] = 0
set_of_kinds (k ∷ ks) = bit_or (2 ^ number k) (set_of_kinds ks)

abbrev pub set_of : List TokenClass → ℕ
set_of [] = 0
set_of (c ∷ cs) = bit_or (set_of_kinds (kinds_in c)) (set_of cs)

-- rules that speak of names: the choices that don't begin with a name, and the one that does

abbrev pub member_choice : Inside → List Symbol
member_choice i = Act (Begin N.Field) ∷ Sub R.Mods ∷ Call (Y.Head i) ∷ []

abbrev pub body : Inside → List Symbol
body i = sign S.OpenBrace ∷ Call (Y.Members i) ∷ sign S.CloseBrace ∷ Act End ∷ Act (Keep i.kind) ∷ []

abbrev pub ctor_choice : Inside → List Symbol
ctor_choice i = Act Named ∷ Act (Turn N.Ctor) ∷ sign S.Open ∷ Sub (R.Opening i.kind) ∷ Act Into ∷ Call (Y.Members (made i)) ∷ []

abbrev pub memory_choice : Inside → List Symbol
memory_choice i = sign S.Less ∷ word W.DFEVar ∷ sign S.Greater ∷ Act End ∷ Sub R.Dims ∷ and_members i

abbrev pub type_choice : Inside → List Symbol
type_choice i = Sub R.Dims ∷ and_members i

abbrev pub begins_member : List TokenClass
begins_member = C.Modifier ∷ C.Word W.Void ∷ C.TypeWord ∷ C.Name ∷ []

abbrev pub void_choice : Inside → List Symbol
void_choice i = Mark (C.Word W.Void) (Push N.Plain) ∷ Act Into ∷ Mark C.Name Text ∷ Act (Turn N.Method) ∷ Sub R.MethodRest ∷ Act Into ∷ Call (Y.Members i) ∷ []

abbrev pub word_choice : Inside → List Symbol
word_choice i = Mark C.TypeWord (Push N.Plain) ∷ Sub R.Dims ∷ and_members i

abbrev pub name_choice : Inside → List ℕ → Bool → Bool → List Symbol
name_choice i w own memory = Name w (Push N.Plain) ∷ Call (Y.After i own memory) ∷ []

abbrev pub after_choices : Inside → Bool → Bool → List (List Symbol)
after_choices i true true = ctor_choice i ∷ memory_choice i ∷ type_choice i ∷ []
after_choices i true false = ctor_choice i ∷ type_choice i ∷ []
after_choices i false true = memory_choice i ∷ type_choice i ∷ []
after_choices i false false = type_choice i ∷ []

abbrev pub after_guards : Bool → Bool → List (List TokenClass)
after_guards true true = (C.Sign S.Open ∷ []) ∷ (C.Sign S.Less ∷ []) ∷ [] ∷ []
after_guards true false = (C.Sign S.Open ∷ []) ∷ [] ∷ []
after_guards false true = (C.Sign S.Less ∷ []) ∷ [] ∷ []
after_guards false false = [] ∷ []

abbrev pub member_choices : Bool → Inside → List (List Symbol)
member_choices true i = member_choice i ∷ []
member_choices false i = member_choice i ∷ [] ∷ []

abbrev pub member_guards : Bool → List (List TokenClass)
member_guards true = begins_member ∷ []
member_guards false = begins_member ∷ [] ∷ []

abbrev pub named_choices : Y.Named → List (List Symbol)
named_choices Y.ClassName = []
named_choices (Y.Parent w) = (word W.Kernel
    ∷ body (record { kind = ClassKind.Kernel; class = w; unmade = true }))
    ∷ (word W.CustomManager ∷ body (record { kind = ClassKind.Manager; class = w; unmade = true })) ∷ []
named_choices (Y.Members i) = member_choices i.unmade i
named_choices (Y.Head i) =
    void_choice i ∷ word_choice i ∷ []
named_choices (Y.After i own memory) = after_choices i own memory
named_choices (Y.FirstParam m) = []

abbrev pub named_guards : Y.Named → List (List TokenClass)
named_guards Y.ClassName = []
named_guards (Y.Parent w) = (C.Word W.Kernel ∷ []) ∷ (C.Word W.CustomManager ∷ []) ∷ []
named_guards (Y.Members i) = member_guards i.unmade
named_guards (Y.Head i) = (C.Word W.Void ∷ []) ∷ (C.TypeWord ∷ []) ∷ []
named_guards (Y.After i own memory) = after_guards own memory
named_guards (Y.FirstParam m) = []

-- whether a choice begins with a name that what follows speaks of
abbrev pub binds : Y.Named → Bool
binds Y.ClassName = true
binds (Y.Head i) = true
binds (Y.FirstParam m) = true
binds _ = false

abbrev pub bound : Y.Named → List ℕ → List Symbol
bound Y.ClassName w = Name w Text ∷ word W.Extends ∷ Call (Y.Parent w) ∷ []
bound (Y.Head i) w = name_choice i w (is_own i w) (bytes_eq w (codes "Memory"))
bound (Y.FirstParam m) w = Name w Text ∷ Sub (R.Opened m) ∷ sign S.Close ∷ Act (Begin N.Block)
    ∷ sign S.OpenBrace ∷ word W.Super ∷ sign S.Open ∷ Name w Skip ∷ Sub R.SuperRest ∷ []
bound _ w = []

abbrev pub named_first : Y.Named → List TokenClass
named_first Y.ClassName = C.Name ∷ []
named_first (Y.Parent w) = C.Word W.Kernel ∷ C.Word W.CustomManager ∷ []
named_first (Y.Members i) = begins_member
named_first (Y.Head i) = C.Word W.Void ∷ C.TypeWord ∷ C.Name ∷ []
named_first (Y.After i own memory) = C.Sign S.OpenBracket ∷ C.Name ∷ C.Sign S.Less ∷ C.Sign S.Open ∷ []
named_first (Y.FirstParam m) = C.Name ∷ []

-- a list of members may be empty
abbrev pub named_nullable : Y.Named → Bool
named_nullable (Y.Members i) = true
named_nullable _ = false

abbrev pub named_peek : Y.Named → List TokenClass
named_peek (Y.Members i) = begins_member
named_peek (Y.Head i) = begins_member
named_peek (Y.After i own memory) = begins_member
named_peek _ = []

abbrev pub named_weight : Y.Named → ℕ
named_weight (Y.Members i) = 5
named_weight (Y.After i own memory) = 4
named_weight _ = 1

-- the grammar of symbols

abbrev pub Among : List Symbol → List (List Symbol) → Type 0
Among qs [] = ⊥
Among qs (c ∷ cs) = (c ≡ qs) ⊎ Among qs cs

abbrev pub Is : Symbol → PlacedToken → Type 0
Is (Mark c e) t = Accepts c t.token
Is (Name w e) t = (t.token ≡ Token.Word w) × (is_name w ≡ true)
Is _ t = ⊥

abbrev pub IsBound : Y.Named → List Symbol → Type 0
IsBound n qs = (w : List ℕ) × (is_name w ≡ true) × (binds n ≡ true) × (bound n w ≡ qs)

-- a step between tokens is a production that is empty
abbrev pub Choice : Symbol → List Symbol → Type 0
Choice (Sub r) qs = Among qs (choices r)
Choice (Call n) qs = Among qs (named_choices n) ⊎ IsBound n qs
Choice (Act a) qs = [] ≡ qs
Choice _ qs = ⊥

abbrev pub begins : Symbol → ℕ
begins (Mark c e) = set_of (c ∷ [])
begins (Name w e) = set_of (C.Name ∷ [])
begins (Sub r) = set_of (first r)
begins (Call n) = set_of (named_first n)
begins (Act a) = 0

abbrev pub empties : Symbol → Bool
empties (Sub r) = nullable r
empties (Call n) = named_nullable n
empties (Act a) = true
empties _ = false

abbrev pub goes_on : Symbol → ℕ
goes_on (Sub r) = set_of (peek r)
goes_on (Call n) = set_of (named_peek n)
goes_on _ = 0

abbrev pub all_begin : List Symbol → ℕ
all_begin [] = 0
all_begin (q ∷ qs) = if empties q then bit_or (begins q) (all_begin qs) else begins q

abbrev pub may : Symbol → PlacedToken → Bool
may (Name w e) t = has (set_of (C.Name ∷ [])) (number (kind_of t.token)) && bytes_eq (written t.token) w
may q t = has (begins q) (number (kind_of t.token))

abbrev pub peeks : Symbol → PlacedToken → Bool
peeks q t = has (goes_on q) (number (kind_of t.token))

abbrev pub admits : List TokenClass → Option Kind → Bool
admits [] k = true
admits (c ∷ cs) None = false
admits (c ∷ cs) (Some k) = list_any (λ (d : TokenClass). class_has d k) (c ∷ cs)

-- the first choice that is taken at a token of the kind, or at the end
abbrev pub pick : List (List TokenClass) → List (List Symbol) → Option Kind → Option (List Symbol)
pick [] cs k = None
pick (g ∷ gs) [] k = None
pick (g ∷ gs) (c ∷ cs) k = if admits g k then Some c else pick gs cs k

abbrev pub kind_at : Option PlacedToken → Option Kind
kind_at None = None
kind_at (Some t) = Some (kind_of t.token)

abbrev pub name_next : Y.Named → Option PlacedToken → Bool
name_next n None = false
name_next n (Some t) = binds n && class_has C.Name (kind_of t.token)

abbrev pub text_next : Option PlacedToken → List ℕ
text_next None = []
text_next (Some t) = written t.token

abbrev pub choose : Symbol → Option PlacedToken → Option (List Symbol)
choose (Sub r) t = pick (guards r) (choices r) (kind_at t)
choose (Call n) t = if name_next n t then Some (bound n (text_next t)) else pick (named_guards n) (named_choices n) (kind_at t)
choose (Act a) t = Some []
choose _ t = None

-- the test of the table

abbrev pub is_otherwise : List TokenClass → Bool
is_otherwise [] = true
is_otherwise (c ∷ cs) = false

abbrev pub is_last : List (List Symbol) → Bool
is_last [] = true
is_last (c ∷ cs) = false

abbrev pub covers : List TokenClass → ℕ → Bool
covers [] set = true
covers (c ∷ cs) set = within set (set_of (c ∷ cs))

-- each choice begins with no token with which one before it is taken, and the empty one is taken otherwise
abbrev pub ordered : ℕ → ℕ → List (List TokenClass) → List (List Symbol) → Bool
ordered before on [] [] = true
ordered before on (g ∷ gs) (c ∷ cs) =
    apart (all_begin c) before && (covers g (all_begin c)
    && (implies (all_empty empties c) (is_otherwise g && within before on)
    && (implies (is_otherwise g) (is_last cs) && ordered (bit_or before (set_of g)) on gs cs)))
ordered before on _ _ = false

abbrev pub follows : ℕ → List Symbol → Bool
follows on [] = true
follows on (q ∷ rest) = apart (goes_on q) (all_begin rest) && (implies (all_empty empties rest) (within (goes_on q) on) && follows on rest)

abbrev pub weigh : Symbol → ℕ
weigh (Sub r) = weight r
weigh (Call n) = named_weight n
weigh (Act a) = 1
weigh _ = 0

abbrev pub chain : List Symbol → ℕ
chain [] = 0
chain (q ∷ qs) = if empties q then weigh q + chain qs else weigh q
