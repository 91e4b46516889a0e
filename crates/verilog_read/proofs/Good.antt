-- What the grammar says of names, widths and numbers in trees.
use Rattle.std.proofs.Common.{◌≡◌, ℕ, zero, suc, ◌<◌, ◌≤◌, Bool, true, false, ◌&&◌, not, cond, List, [], ◌∷◌, ◌++◌, length, Some, None, refl, subst, arith}
use Rattle.std.specs.Prelude.{slice_get}
use Rattle.std.specs.List.{list_all}
use Rattle.grammar.specs.Grammar.{Derives}
use Rattle.grammar.specs.Tokens.{Reads, Gaps}
use Rattle.grammar.specs.Bytes.{decimal_value, hexadecimal}
use Rattle.std.specs.List.{before_first, after_first}
use Rattle.rtl_ir.specs.Names.{is_name, is_reserved, begins_name, continues_name}
use Rattle.rtl_text.specs.Tokens.{Token, token_of, is_word, is_number, is_literal, is_sign, is_quote, hex_digits, Apart}
use Rattle.rtl_text.specs.Tree.{Name, PortTree, InputPort, OutputPort, ExprTree, RepeatTree, PartTree, ItemTree, WireItem, RegisterItem, MemoryItem, AssignItem, AlwaysItem, InstanceItem, ModuleTree}
use Rattle.rtl_text.specs.Productions.{Part, Sign_, Reserved, Clock, Id, Number, Literal, File, Modules, Module, Ports, MorePorts, Port, Range, Items, Item, Expr, Is, Choice, IsWidth, IsDepth}

-- all items of a list, by place
abbrev pub AllAt : {A : Type 0} → (A → Type 0) → List A → Type 0
AllAt {A} P xs = (k : ℕ) (x : A) → slice_get xs k ≡ Some x → P x

pub none_at : {A : Type 0} (P : A → Type 0) → AllAt P []
none_at P k x e = absurd (cc)

pub more_at : {A : Type 0} (P : A → Type 0) (x : A) (xs : List A) → P x → AllAt P xs → AllAt P (x ∷ xs)
more_at P x xs p h zero y e = let same : x ≡ y = some_is e in subst P same p
  where
    some_is : {A : Type 0} {x y : A} → Some x ≡ Some y → x ≡ y
    some_is e = cc
more_at P x xs p h (suc k) y e = h k y e

abbrev pub IsId : Name → Type 0
IsId name = is_name name ≡ true

abbrev pub GoodPort : PortTree → Type 0
GoodPort (InputPort w name) = IsWidth w × IsId name
GoodPort (OutputPort w name) = IsWidth w × IsId name

abbrev pub GoodExpr : ExprTree → Type 0
GoodExpr (RepeatTree n a) = n ≤ 128
GoodExpr (PartTree a hi lo) = (hi ≤ 128) × (lo ≤ 128)
GoodExpr _ = Unit {0}

abbrev pub GoodItem : ItemTree → Type 0
GoodItem (WireItem w name) = IsWidth w × IsId name
GoodItem (RegisterItem w name) = IsWidth w × IsId name
GoodItem (MemoryItem w name n) = IsWidth w × IsId name × IsDepth n
GoodItem (AssignItem name e) = GoodExpr e
GoodItem (AlwaysItem us) = Unit {0}
GoodItem (InstanceItem of name cs) = IsId name

pub record GoodModule (m : ModuleTree) : Type 0 where
  pub name : IsId m.name
  pub ports : AllAt GoodPort m.ports
  pub items : AllAt GoodItem m.items

pub record GoodFile (ms : List ModuleTree) : Type 0 where
  pub some : 0 < length ms
  pub modules : AllAt GoodModule ms

abbrev GoodPart : Part → Type 0
GoodPart (Id name) = IsId name
GoodPart (File ms) = GoodFile ms
GoodPart (Modules ms) = AllAt GoodModule ms
GoodPart (Module m) = GoodModule m
GoodPart (Ports ps) = AllAt GoodPort ps
GoodPart (MorePorts ps) = AllAt GoodPort ps
GoodPart (Port p) = GoodPort p
GoodPart (Range w) = IsWidth w
GoodPart (Items is) = AllAt GoodItem is
GoodPart (Item i) = GoodItem i
GoodPart (Expr e) = GoodExpr e
GoodPart _ = Unit {0}

abbrev GoodParts : List Part → Type 0
GoodParts [] = Unit {0}
GoodParts (p ∷ ps) = GoodPart p × GoodParts ps

choice_good : {p : Part} {qs : List Part} → Choice p qs → GoodParts qs → GoodPart p
choice_good (Choice.file {m = m} {ms = ms}) g = record { some = omega arith; modules = more_at GoodModule m ms g.0 g.1.0 }
choice_good Choice.no_modules g = none_at GoodModule
choice_good (Choice.more_modules {m = m} {ms = ms}) g = more_at GoodModule m ms g.0 g.1.0
choice_good Choice.module' g = record { name = g.1.0; ports = g.1.1.1.0; items = g.1.1.1.1.1.1.0 }
choice_good (Choice.ports {p = p} {ps = ps}) g = more_at GoodPort p ps g.0 g.1.0
choice_good Choice.no_more_ports g = none_at GoodPort
choice_good (Choice.more_ports {p = p} {ps = ps}) g = more_at GoodPort p ps g.1.0 g.1.1.0
choice_good Choice.input g = (g.1.1.0, g.1.1.1.0)
choice_good Choice.output g = (g.1.1.0, g.1.1.1.0)
choice_good (Choice.range w) g = w
choice_good Choice.no_items g = none_at GoodItem
choice_good (Choice.more_items {i = i} {is = is}) g = more_at GoodItem i is g.0 g.1.0
choice_good Choice.wire g = (g.1.0, g.1.1.0)
choice_good Choice.register g = (g.1.0, g.1.1.0)
choice_good (Choice.memory d) g = (g.1.0, g.1.1.0, d)
choice_good Choice.assign g = g.1.1.1.0
choice_good Choice.always g = tt
choice_good Choice.instance g = g.1.0
choice_good Choice.connections g = tt
choice_good Choice.no_more_connections g = tt
choice_good Choice.more_connections g = tt
choice_good Choice.connected g = tt
choice_good Choice.no_updates g = tt
choice_good Choice.more_updates g = tt
choice_good Choice.update_register g = tt
choice_good Choice.update_cell g = tt
choice_good Choice.plain g = tt
choice_good (Choice.literal h w) g = tt
choice_good Choice.not' g = tt
choice_good Choice.binary g = tt
choice_good Choice.concat g = tt
choice_good (Choice.repeat h) g = h
choice_good (Choice.part h l) g = (h, l)
choice_good Choice.choose g = tt
choice_good Choice.cell g = tt

-- tokens

abbrev GoodToken : Token → Type 0
GoodToken (Token.Word w) = is_word w ≡ true
GoodToken _ = Unit {0}

abbrev GoodTokens : List Token → Type 0
GoodTokens [] = Unit {0}
GoodTokens (t ∷ ts) = GoodToken t × GoodTokens ts

and_all : (a b c : Bool) → (a && b) ≡ true → c ≡ false → (a && b && not c) ≡ true
and_all true true c e f = rw f refl
and_all true false c e f = absurd (cc)
and_all false b c e f = absurd (cc)

name_good : (n : Name) → is_word n ≡ true → is_reserved n ≡ false → IsId n
name_good [] w r = absurd (cc)
name_good (b ∷ bs) w r = and_all (begins_name b) (list_all continues_name bs) (is_reserved (b ∷ bs)) w r

token_good : (p : Part) (t : Token) → Is p t → GoodToken t → GoodPart p
token_good (Id name) t i g = name_good name (subst GoodToken i.0 g) i.1
token_good (Sign_ s) t i g = tt
token_good (Reserved s) t i g = tt
token_good Clock t i g = tt
token_good (Number n) t i g = tt
token_good (Literal w n) t i g = tt
token_good _ t i g = absurd i

front_good : (ts us : List Token) → GoodTokens (ts ++ us) → GoodTokens ts
front_good [] us g = tt
front_good (t ∷ ts) us g = (g.0, front_good ts us g.1)

back_good : (ts us : List Token) → GoodTokens (ts ++ us) → GoodTokens us
back_good [] us g = g
back_good (t ∷ ts) us g = back_good ts us g.1

derived_good : {ps : List Part} {ts : List Token} → Derives Is Choice ps ts → GoodTokens ts → GoodParts ps
derived_good Derives.none g = tt
derived_good (Derives.token {p = p} {t = t} i d) g = (token_good p t i g.0, derived_good d g.1)
derived_good (Derives.choice {front = front} {back = back} c d e) g = (choice_good c (derived_good d (front_good front back g)), derived_good e (back_good front back g))

word_good : (word : List ℕ) (t : Token) → token_of word ≡ Some t → GoodToken t
word_good word t e = by_word (is_word word) refl (is_number word) (is_literal word) (is_sign word) e
  where
    some_is : {x y : Token} → Some x ≡ Some y → x ≡ y
    some_is e = cc

    by_word : (a : Bool) → is_word word ≡ a → (b c d : Bool)
        → cond a (Some (Token.Word word)) (cond b (Some (Token.Number (decimal_value word)))
        (cond c (Some (Token.Literal (decimal_value (before_first is_quote word))
        (hexadecimal (hex_digits (after_first is_quote word)))))
        (cond d (Some (Token.Sign word)) None))) ≡ Some t → GoodToken t
    by_word true h b c d e = subst GoodToken (some_is e) h
    by_word false h true c d e = subst GoodToken (some_is e) tt
    by_word false h false true d e = subst GoodToken (some_is e) tt
    by_word false h false false true e = subst GoodToken (some_is e) tt
    by_word false h false false false e = absurd (cc)

tokens_good : {bytes left : List ℕ} {ts : List Token} → Reads Gaps token_of Apart bytes ts left → GoodTokens ts
tokens_good Reads.end = tt
tokens_good (Reads.skip gap s r) = tokens_good r
tokens_good (Reads.token {t = t} word n r) = (word_good word t n.is, tokens_good r)

-- the modules of a text
pub file_good : {bytes left : List ℕ} {ts : List Token} {ms : List ModuleTree} → Reads Gaps token_of Apart bytes ts left → Derives Is Choice (File ms ∷ []) ts → GoodFile ms
file_good r d = (derived_good d (tokens_good r)).0
