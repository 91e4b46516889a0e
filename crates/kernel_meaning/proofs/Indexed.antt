-- Bindings that are added, taken off or set, and found by their names as before.
use Rattle.std.proofs.Common.{◌≡◌, ◌∙◌, ◌<◌, ◌++◌, ℕ, zero, suc, List, [], ◌∷◌, length, Some, None, IsSome, Bool, true, false, cond, refl, ap, sym, subst, arith}
use Rattle.std.specs.Prelude.{Option, reverse, nat_eq, slice_get, slice_index_or, slice_set, if◌then◌else◌}
use Rattle.std.specs.Option.{option_map}
use Rattle.std.specs.Str.{bytes_eq}
use Rattle.std.specs.Global.{Vec}
use Rattle.std.specs.HashMap.{HashMap}
use Rattle.std.proofs.lemmas.Bool.Decides.{nat_tests}
use Rattle.std.proofs.lemmas.List.{length-map, length-reverse, reverse-append, reverse-reverse}
use Rattle.std.proofs.Math.ListN.{get_or-append}
use Rattle.std.proofs.Math.Seq.{get_or-append_seam}
use Rattle.text_scan.proofs.ByteTests.{bytes_refl, bytes_same}
use Rattle.kernel_meaning.specs.declared.bindings.Entry.{Entry}
use Rattle.kernel_meaning.specs.declared.value.Value.{Value}
use Rattle.kernel_meaning.specs.Names.{bound_in}
use Rattle.kernel_meaning.specs.declared.state.Binding.{Binding}
use Rattle.kernel_meaning.specs.Places.{place_in, bound_at, assigned_at}
use Rattle.kernel_meaning.specs.Index.{plain, bindings_of, found_in, HaveHidden, IsIndex}
use Rattle.kernel_meaning.proofs.PlaceLaws.{nat-same, nat-other, place-below}
use Rattle.kernel_meaning.proofs.Reversed.{reverse-set}

pub how-many : (items : List Entry) → length (bindings_of items) ≡ length items
how-many items = length-map (reverse items) (λ e. e.binding) ∙ length-reverse items

pub newest-first : (items : List Entry) (e : Entry) → reverse (items ++ e ∷ []) ≡ e ∷ reverse items
newest-first items e = reverse-append items (e ∷ [])

-- a binding more
pub indexed-more : {S : Type 0} (items : List Entry) (e : Entry)
    (old new : HashMap (Vec ℕ) ℕ S) (place : ℕ) → IsIndex items old → place ≡ length items
    → e.hidden ≡ found_in old e.binding.name
    → ((other : List ℕ) → found_in new other
    ≡ cond (bytes_eq e.binding.name other) (Some place) (found_in old other))
    → IsIndex (items ++ e ∷ []) new
indexed-more items e old new place h at hid found = record {
  newest = λ name.
      found name
      ∙ ap (λ n. cond (bytes_eq e.binding.name name) (Some n) (found_in old name))
      (at ∙ sym (how-many items))
      ∙ ap (cond (bytes_eq e.binding.name name) (Some (length (bindings_of items))))
      (h.newest name)
      ∙ ap (λ l. place_in name (plain l)) (sym (newest-first items e));
  hidden =
      subst HaveHidden (sym (newest-first items e)) (hid ∙ h.newest e.binding.name, h.hidden);
}

-- the newest binding has a place
pub newest-has : {S : Type 0} (items : List Entry) (e : Entry) (places : HashMap (Vec ℕ) ℕ S)
    → IsIndex (items ++ e ∷ []) places → IsSome (found_in places e.binding.name)
newest-has items e places h =
    let found : found_in places e.binding.name ≡ Some (length (bindings_of items)) =
    h.newest e.binding.name
    ∙ ap (λ l. place_in e.binding.name (plain l)) (newest-first items e)
    ∙ ap (λ t. if t then Some (length (bindings_of items))
    else place_in e.binding.name (bindings_of items)) (bytes_refl e.binding.name) in
    subst IsSome (sym found) refl

-- a binding less
pub indexed-less : {S : Type 0} (items : List Entry) (e : Entry)
    (old new : HashMap (Vec ℕ) ℕ S) → IsIndex (items ++ e ∷ []) old
    → ((other : List ℕ) → found_in new other
    ≡ cond (bytes_eq e.binding.name other) e.hidden (found_in old other))
    → IsIndex items new
indexed-less items e old new h found = record {
  newest = λ name. by name (bytes_eq e.binding.name name) refl;
  hidden = known.1;
}
  where
    known : HaveHidden (e ∷ reverse items)
    known = subst HaveHidden (newest-first items e) h.hidden

    by : (name : List ℕ) (t : Bool) → bytes_eq e.binding.name name ≡ t
        → found_in new name ≡ place_in name (bindings_of items)
    by name true s =
        found name ∙ ap (λ t. cond t e.hidden (found_in old name)) s ∙ known.0
        ∙ ap (λ n. place_in n (bindings_of items)) (bytes_same e.binding.name name s)
    by name false s =
        found name ∙ ap (λ t. cond t e.hidden (found_in old name)) s ∙ h.newest name
        ∙ ap (λ l. place_in name (plain l)) (newest-first items e)
        ∙ ap (λ t. if t then Some (length (bindings_of items))
        else place_in name (bindings_of items)) s

some-is : {n m : ℕ} → Some n ≡ Some m → n ≡ m
some-is e = cc

-- the binding at the place of a name is the newest one
newest-in : (name : List ℕ) (es : List Entry) (place : ℕ) (found : Entry)
    → place_in name (plain es) ≡ Some place → found ≡ slice_index_or (reverse es) place found
    → Some found.binding ≡ bound_in name (plain es)
newest-in name [] place found at is = absurd (cc)
newest-in name (e ∷ es) place found at is =
    by (bytes_eq e.binding.name name) (newest-in name es place found) at
  where
    last : found ≡ slice_index_or (reverse es ++ e ∷ []) place found
    last = is ∙ ap (λ l. slice_index_or l place found) (reverse-append (e ∷ []) es)

    long : length (plain es) ≡ length (reverse es)
    long = length-map es (λ e. e.binding) ∙ sym (length-reverse es)

    by : (t : Bool)
        → (place_in name (plain es) ≡ Some place → found ≡ slice_index_or (reverse es) place found
        → Some found.binding ≡ bound_in name (plain es))
        → (if t then Some (length (plain es)) else place_in name (plain es)) ≡ Some place
        → Some found.binding ≡ (if t then Some e.binding else bound_in name (plain es))
    by true older f =
        let here : place ≡ length (reverse es) = sym (some-is f) ∙ long in
        ap (λ x. Some x.binding) (last
        ∙ ap (λ n. slice_index_or (reverse es ++ e ∷ []) n found) here
        ∙ get_or-append_seam (reverse es) e [] found)
    by false older f =
        let below : place < length (reverse es) =
        subst (λ n. place < n) long (place-below name (plain es) place f) in
        older f
        (last ∙ get_or-append (reverse es) (e ∷ []) found place below)

pub newest-at : (name : List ℕ) (items : List Entry) (place : ℕ) (found : Entry)
    → place_in name (bindings_of items) ≡ Some place → found ≡ slice_index_or items place found
    → Some found.binding ≡ bound_in name (bindings_of items)
newest-at name items place found at is =
    newest-in name (reverse items) place found at
    (is ∙ ap (λ l. slice_index_or l place found) (sym (reverse-reverse items)))

-- an entry whose binding has another value
abbrev pub with_value : Entry → Value → Entry
with_value e value = record {
  binding = record { name = e.binding.name; of = e.binding.of; value = value };
  hidden = e.hidden;
}

module _ (older : List Entry) (e : Entry) (value : Value) where
  seam-length : (newer : List Entry)
      → length (plain (newer ++ with_value e value ∷ older)) ≡ length (plain (newer ++ e ∷ older))
  seam-length [] = refl
  seam-length (a ∷ newer) = ap suc (seam-length newer)

  seam-place : (newer : List Entry) (name : List ℕ)
      → place_in name (plain (newer ++ with_value e value ∷ older))
      ≡ place_in name (plain (newer ++ e ∷ older))
  seam-place [] name = refl
  seam-place (a ∷ newer) name =
      ap (λ n. if bytes_eq a.binding.name name then Some n
      else place_in name (plain (newer ++ with_value e value ∷ older))) (seam-length newer)
      ∙ ap (λ o. if bytes_eq a.binding.name name then Some (length (plain (newer ++ e ∷ older)))
      else o) (seam-place newer name)

  seam-hidden : (newer : List Entry) → HaveHidden (newer ++ e ∷ older)
      → HaveHidden (newer ++ with_value e value ∷ older)
  seam-hidden [] h = h
  seam-hidden (a ∷ newer) h =
      (h.0 ∙ sym (seam-place newer a.binding.name), seam-hidden newer h.1)

  older-than : (newer : List Entry) → length older < length (plain (newer ++ e ∷ older))
  older-than [] = let many = length-map older (λ e. e.binding) in omega (arith, many)
  older-than (a ∷ newer) = let more = older-than newer in omega (arith, more)

  seam-set : (newer : List Entry) → plain (newer ++ with_value e value ∷ older)
      ≡ assigned_at (length older) value (plain (newer ++ e ∷ older))
  seam-set [] =
      let here : nat_eq (length (plain older)) (length older) ≡ true =
      ap (λ n. nat_eq n (length older)) (length-map older (λ e. e.binding))
      ∙ nat-same (length older) in
      sym (ap (λ t. if t then (with_value e value).binding ∷ plain older
      else e.binding ∷ assigned_at (length older) value (plain older)) here)
  seam-set (a ∷ newer) =
      let after = plain (newer ++ e ∷ older) in
      let there : nat_eq (length after) (length older) ≡ false =
      nat-other (length after) (length older) (older-than newer) in
      ap (λ l. a.binding ∷ l) (seam-set newer)
      ∙ sym (ap (λ t. if t
      then record { name = a.binding.name; of = a.binding.of; value = value } ∷ after
      else a.binding ∷ assigned_at (length older) value after) there)

-- what stands before and behind an entry, the newest first
record Splits (items : List Entry) (place : ℕ) (e : Entry) : Type 0 where
  pub newer : List Entry
  pub older : List Entry
  pub whole : reverse items ≡ newer ++ e ∷ older
  pub at : length older ≡ place

front-of : (items : List Entry) (place : ℕ) (e : Entry) → place < length items
    → e ≡ slice_index_or items place e
    → (front : List Entry) × (back : List Entry) × (items ≡ front ++ e ∷ back)
    × (length front ≡ place)
front-of [] place e h is = absurd (omega arith)
front-of (a ∷ items) zero e h is = ([], items, ap (λ x. x ∷ items) (sym is), refl)
front-of (a ∷ items) (suc place) e h is =
    let (front, back, whole, at) = front-of items place e (omega arith) is in
    (a ∷ front, back, ap (λ l. a ∷ l) whole, ap suc at)

splits : (items : List Entry) (place : ℕ) (e : Entry) → place < length items
    → e ≡ slice_index_or items place e → Splits items place e
splits items place e h is =
    let (front, back, whole, at) = front-of items place e h is in
    record {
      newer = reverse back;
      older = reverse front;
      whole = ap reverse whole ∙ reverse-append front (e ∷ back)
          ∙ ap (λ l. l ++ reverse front) (reverse-append (e ∷ []) back)
          ∙ again (reverse back) (reverse front);
      at = length-reverse front ∙ at;
    }
  where
    again : (xs ys : List Entry) → (xs ++ e ∷ []) ++ ys ≡ xs ++ e ∷ ys
    again [] ys = refl
    again (x ∷ xs) ys = ap (λ l. x ∷ l) (again xs ys)

-- the entries after a value is set
after-set : (items : List Entry) (place : ℕ) (e : Entry) (value : Value) (h : Splits items place e)
    → reverse (slice_set items place (with_value e value))
    ≡ h.newer ++ with_value e value ∷ h.older
after-set items place e value h =
    reverse-set items h.newer h.older e (with_value e value) place h.whole h.at

pub bindings-set : (items : List Entry) (place : ℕ) (e : Entry) (value : Value)
    → place < length items → e ≡ slice_index_or items place e
    → bindings_of (slice_set items place (with_value e value))
    ≡ assigned_at place value (bindings_of items)
bindings-set items place e value below is =
    let h = splits items place e below is in
    ap plain (after-set items place e value h) ∙ seam-set h.older e value h.newer
    ∙ ap (λ n. assigned_at n value (plain (h.newer ++ e ∷ h.older))) h.at
    ∙ ap (λ l. assigned_at place value (plain l)) (sym h.whole)

pub indexed-set : {S : Type 0} (items : List Entry) (place : ℕ) (e : Entry) (value : Value)
    (places : HashMap (Vec ℕ) ℕ S) → place < length items → e ≡ slice_index_or items place e
    → IsIndex items places → IsIndex (slice_set items place (with_value e value)) places
indexed-set items place e value places below is index =
    let h = splits items place e below is in
    let after = after-set items place e value h in
    record {
      newest = λ name.
          index.newest name ∙ ap (λ l. place_in name (plain l)) h.whole
          ∙ sym (seam-place h.older e value h.newer name)
          ∙ ap (λ l. place_in name (plain l)) (sym after);
      hidden =
          subst HaveHidden (sym after) (seam-hidden h.older e value h.newer
          (subst HaveHidden h.whole index.hidden));
    }

-- the binding of the entry at a place
abbrev pub binding_at : Option Entry → Option Binding
binding_at found = option_map (λ e. e.binding) found

last-at : (es : List Entry) (e : Entry) (place : ℕ) → binding_at (slice_get (es ++ e ∷ []) place)
    ≡ (if nat_eq (length es) place then Some e.binding else binding_at (slice_get es place))
last-at [] e zero = refl
last-at [] e (suc place) =
    let other : nat_eq 0 (suc place) ≡ false = grind (arith, nat_tests) in
    sym (ap (λ t. if t then Some e.binding else None) other)
last-at (a ∷ es) e zero =
    let other : nat_eq (suc (length es)) 0 ≡ false = nat-other (suc (length es)) 0 (omega arith) in
    sym (ap (λ t. if t then Some e.binding else Some a.binding) other)
last-at (a ∷ es) e (suc place) =
    let same : nat_eq (suc (length es)) (suc place) ≡ nat_eq (length es) place =
    grind (arith, nat_tests) in
    last-at es e place
    ∙ sym (ap (λ t. if t then Some e.binding else binding_at (slice_get es place)) same)

at-newest : (es : List Entry) (place : ℕ)
    → binding_at (slice_get (reverse es) place) ≡ bound_at place (plain es)
at-newest [] place = refl
at-newest (e ∷ es) place =
    let long : length (reverse es) ≡ length (plain es) =
    length-reverse es ∙ sym (length-map es (λ e. e.binding)) in
    ap (λ l. binding_at (slice_get l place)) (reverse-append (e ∷ []) es)
    ∙ last-at (reverse es) e place
    ∙ ap (λ n. if nat_eq n place then Some e.binding else binding_at (slice_get (reverse es) place))
    long
    ∙ ap (λ b. if nat_eq (length (plain es)) place then Some e.binding else b) (at-newest es place)

pub at-place : (items : List Entry) (place : ℕ) (bs : List Binding) → bindings_of items ≡ bs
    → binding_at (slice_get items place) ≡ bound_at place bs
at-place items place bs is =
    ap (λ l. binding_at (slice_get l place)) (sym (reverse-reverse items))
    ∙ at-newest (reverse items) place ∙ ap (bound_at place) is
