-- Lists looked up by names, and what a run file that fits the ports says of the plan that is made of it.
use Rattle.std.proofs.Common.{◌≡◌, ℕ, zero, suc, ◌+◌, ◌<◌, Bool, true, false, ◌||◌, cond, List, []}
use Rattle.std.proofs.Common.{◌∷◌, ◌++◌, length, map, take, get_or, bytes_eq, Option, Some, None}
use Rattle.std.proofs.Common.{IsSome, option_map, Bor, BTreeMap, nat_cmp, refl, sym, ap, ◌∙◌, subst}
use Rattle.std.proofs.Common.{rules}
use Rattle.std.specs.Prelude.{slice_get}
use Rattle.std.specs.BTreeMap as tree
use Rattle.std.specs.Cmp.Lexicographic.{slice_cmp, nat_list_eq_equiv}
use Rattle.std.specs.List.{list_any}
use Rattle.std.specs.Option.{option_copied, option_or}
use Rattle.std.proofs.lemmas.Bool.{false≢true}
use Rattle.std.proofs.lemmas.List.{map-append}
use Rattle.std.proofs.lemmas.Map.Text.{btree_map_updates_str}
use Rattle.std.proofs.lemmas.Option.{slice_get-map, slice_get_read}
use Rattle.mx_base.specs.Files.{Name}
use Rattle.word_files.specs.RunFiles.{SameNames, names}
use Rattle.word_files.proofs.KeyLemmas.{mapped_taken}
use Rattle.simulation.specs.Plans.{look_up}

-- ---- the map of a list

first_or : {T : Type 0} (b : Bool) (x : T) (o p : Option T) → cond b (Some x) (option_or o p) ≡ option_or (cond b (Some x) o) p
first_or true x o p = refl
first_or false x o p = refl

-- one more pair at the end
look_up_last : {T : Type 0} (xs : List (Name × T)) (x : Name × T) (name : Name) → look_up (xs ++ x ∷ []) name ≡ option_or (look_up xs name) (cond (bytes_eq x.0 name) (Some x.1) None)
look_up_last [] x name = refl
look_up_last (y ∷ xs) x name =
    ap (cond (bytes_eq y.0 name) (Some y.1)) (look_up_last xs x name)
    ∙ first_or (bytes_eq y.0 name) y.1 (look_up xs name) (cond (bytes_eq x.0 name) (Some x.1) None)

or_put : {T : Type 0} (b : Bool) (o : Option T) (value : Bor T) (old : Option (Bor T))
    → option_or (option_or o (cond b (Some value.now) None)) (option_copied old) ≡ option_or o
    (option_copied (cond b (Some value) old))
or_put true None value old = refl
or_put true (Some x) value old = refl
or_put false None value old = refl
or_put false (Some x) value old = refl

-- a pair that is put into the map is no longer left
pub one_put : {T : Type 0} (found : Option T) (old new : BTreeMap (Bor Name) (Bor T)) (rest all : List (Name × T)) (item : Name × T) (key : Bor Name) (value : Bor T) (name : Name)
    → all ≡ rest ++ item ∷ []
    → key.now ≡ item.0
    → value.now ≡ item.1
    → tree.Updates (λ x y. slice_cmp nat_cmp x.now y.now) old new key (Some value)
    → found ≡ option_or (look_up all name) (option_copied (tree.get_by (λ k. slice_cmp nat_cmp name k.now) old))
    → found ≡ option_or (look_up rest name) (option_copied (tree.get_by (λ k. slice_cmp nat_cmp name k.now) new))
one_put {T = T} found old new rest all item key value name is key_is value_is updates before =
    before
    ∙ ap (λ xs. option_or (look_up xs name) (option_copied was)) is
    ∙ ap (λ o. option_or o (option_copied was)) (look_up_last rest item name)
    ∙ ap (λ q. option_or (option_or (look_up rest name) (cond (bytes_eq q name) (Some item.1) None)) (option_copied was)) (sym key_is)
    ∙ ap (λ v. option_or (option_or (look_up rest name) (cond (bytes_eq key.now name) (Some v) None)) (option_copied was)) (sym value_is)
    ∙ or_put (bytes_eq key.now name) (look_up rest name) value was
    ∙ ap (λ o. option_or (look_up rest name) (option_copied o)) (sym (btree_map_updates_str key.now old new (Some value) updates name))
  where
    was : Option (Bor T)
    was = tree.get_by (λ k. slice_cmp nat_cmp name k.now) old

-- what the map has at a name is what the list has
pub found_value : {T : Type 0} (named : BTreeMap (Bor Name) (Bor T)) (list : List (Name × T)) (key name : Name) (value : Bor T)
    → key ≡ name
    → ((q : Name) → option_copied (tree.get_by (λ k. slice_cmp nat_cmp q k.now) named) ≡ look_up list q)
    → tree.get_by (λ k. slice_cmp nat_cmp key k.now) named ≡ Some value
    → look_up list name ≡ Some value.now
found_value named list key name value same has at = sym (ap (look_up list) same) ∙ sym (has key) ∙ ap option_copied at

-- ---- names that are there

pub any_at : {A : Type 0} (test : A → Bool) (xs : List A) (i : ℕ) (x : A) → slice_get xs i ≡ Some x → test x ≡ true → list_any test xs ≡ true
any_at test [] i x at holds = absurd (cc)
any_at test (y ∷ xs) zero x at holds = let same : y ≡ x = cc in ap (λ z. test z || list_any test xs) same ∙ ap (λ b. b || list_any test xs) holds
any_at test (y ∷ xs) (suc i) x at holds = ap (λ b. test y || b) (any_at test xs i x at holds) ∙ or_true (test y)
  where
    or_true : (b : Bool) → (b || true) ≡ true
    or_true true = refl
    or_true false = refl

-- here, or among those behind
here_or_behind : {T : Type 0} (b c d : Bool) (x : T) (o : Option T) → b ≡ c → (d ≡ true → IsSome o) → (c || d) ≡ true → IsSome (cond b (Some x) o)
here_or_behind true c d x o e f h = search rules
here_or_behind false true d x o e f h = absurd (false≢true e)
here_or_behind false false d x o e f h = f h

named_there : {T : Type 0} (xs : List (Name × T)) (name : Name) → list_any (bytes_eq name) (names xs) ≡ true → IsSome (look_up xs name)
named_there [] name h = absurd (false≢true h)
named_there (x ∷ xs) name h = here_or_behind (bytes_eq x.0 name) (bytes_eq name x.0)
    (list_any (bytes_eq name) (names xs)) x.1 (look_up xs name)
    (nat_list_eq_equiv.symm x.0 name) (named_there xs name) h

-- ---- items taken one after another

-- one more item, of which this is what the next port asks for
pub one_mapped : {A B C : Type 0} (h : A → C) (f : B → C) (done : List A) (a : A) (ports : List B) (i : ℕ) (port : B)
    → i < length ports
    → port ≡ get_or ports i port
    → h a ≡ f port
    → map h done ≡ map f (take i ports)
    → map h (done ++ a ∷ []) ≡ map f (take (i + 1) ports)
one_mapped h f done a ports i port within at same before =
    map-append h done (a ∷ [])
    ∙ ap (λ xs. xs ++ h a ∷ []) before
    ∙ ap (λ x. map f (take i ports) ++ x ∷ []) same
    ∙ sym (mapped_taken f ports i port within at)

-- the name of a port is there
pub port_there : {T P : Type 0} (xs : List (Name × T)) (name_of : P → Name) (ports items : List P) (i : ℕ) (port : P)
    → SameNames (names xs) (map name_of ports)
    → items ≡ ports
    → i < length items
    → port ≡ get_or items i port
    → IsSome (look_up xs (name_of port))
port_there xs name_of ports items i port same are within at =
    named_there xs (name_of port)
    (same (name_of port)
    ∙ ap (λ ps. list_any (bytes_eq (name_of port)) (map name_of ps)) (sym are)
    ∙ any_at (bytes_eq (name_of port)) (map name_of items) i (name_of port)
    (slice_get-map name_of items i ∙ ap (option_map name_of) (slice_get_read items (length items) i port refl within at))
    (nat_list_eq_equiv.refl (name_of port)))

some_copied : {T : Type 0} (o : Option (Bor T)) → IsSome (option_copied o) → IsSome o
some_copied None h = h
some_copied (Some x) h = search rules

-- so the map has it
pub has_name : {T : Type 0} (named : BTreeMap (Bor Name) (Bor T)) (list : List (Name × T)) (key name : Name)
    → key ≡ name
    → ((q : Name) → option_copied (tree.get_by (λ k. slice_cmp nat_cmp q k.now) named) ≡ look_up list q)
    → IsSome (look_up list name)
    → IsSome (tree.get_by (λ k. slice_cmp nat_cmp key k.now) named)
has_name named list key name same has there =
    some_copied (tree.get_by (λ k. slice_cmp nat_cmp key k.now) named) (subst IsSome (sym (has key ∙ ap (look_up list) same)) there)
