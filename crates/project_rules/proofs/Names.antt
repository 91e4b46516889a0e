-- Names that differ: by their first bytes, by what stands behind these, or by what stands before the last `$`.
use Rattle.std.proofs.Common.{◌≡◌, ◌∙◌, ℕ, zero, suc, ◌+◌, ◌-◌, ◌*◌, ◌<◌, ◌≤◌, ◌||◌, ◌&&◌, Bool, true, false, cond, eqb, inl, inr, List, [], ◌∷◌, ◌++◌, drop, take, Some}
use Rattle.std.proofs.Common.{length, refl, sym, ap, arith}
use Rattle.std.specs.Prelude.{slice_get, nat_eq, ◌⊎◌, sum_by}
use Rattle.std.specs.List.{list_all, list_any}
use Rattle.std.proofs.lemmas.Bool.{false≢true}
use Rattle.std.proofs.lemmas.Bool.Decides.{nat_tests}
use Rattle.std.proofs.lemmas.List.Sums.{sum_by-cons}
use Rattle.std.proofs.lemmas.Option.{get_or_from_slice_get}
use Rattle.maxj_tokens.specs.Tokens.{is_name_byte}
use Rattle.rtl_ir.specs.Names.{is_letter, is_name}
use Rattle.rtl_ir.specs.Rules.{AllDiffer}
use Rattle.kernel_calls.specs.Laws.{is_port_name}
use Rattle.manager_links.specs.Lists as links
use Rattle.project_rules.proofs.Lists.{within, get_left, get_behind, below_or, thrice, joined}

-- ---- items that differ

-- an item stands once in a list whose items differ
pub one_place : {A : Type 0} (xs : List A) → links.AllDiffer xs → (i j : ℕ) (x : A) → slice_get xs i ≡ Some x → slice_get xs j ≡ Some x → i ≡ j
one_place xs differ i j x e f = by_order (below_or i j) (below_or j i)
  where
    apart : (a b : ℕ) → slice_get xs a ≡ Some x → slice_get xs b ≡ Some x → a < b → ⊥
    apart a b g h lt = differ a b x lt (within xs b x h) (get_or_from_slice_get xs a x x g ∙ sym (get_or_from_slice_get xs b x x h))

    by_order : (i < j) ⊎ (j ≤ i) → (j < i) ⊎ (i ≤ j) → i ≡ j
    by_order (inl lt) p = absurd (apart i j e f lt)
    by_order (inr ge) (inl lt) = absurd (apart j i f e lt)
    by_order (inr ge) (inr le) = omega (arith, ge, le)

-- ---- first bytes

abbrev pub first_byte : List ℕ → ℕ
first_byte [] = 0
first_byte (b ∷ bs) = b

-- names of different first bytes differ
pub other_byte : {A : Type 0} (x a b : List ℕ) → x ≡ a → x ≡ b → (first_byte a ≡ first_byte b → ⊥) → A
other_byte x a b e f h = absurd (h (ap first_byte (sym e ∙ f)))

-- ---- classes of names

-- the class of a name that begins with `fifo$`, by the byte behind
abbrev fifo_class : List ℕ → ℕ
fifo_class [] = 10
fifo_class (b ∷ bs) = cond (eqb b 105) 8 (cond (eqb b 111) 9 10)

-- by the first byte: clk, reset, hold or ticks, scalar, in, out, done, a wire, a FIFO and a kernel
abbrev pub class_of : List ℕ → ℕ
class_of [] = 12
class_of (b ∷ bs) =
    cond (eqb b 99) 0 (cond (eqb b 114) 1 (cond (eqb b 104) 2 (cond (eqb b 116) 2 (cond (eqb b 115) 3 (cond (eqb b 105) 4 (cond (eqb b 111) 5 (cond (eqb b 100) 6
    (cond (eqb b 119) 7 (cond (eqb b 102) (fifo_class (drop 4 bs)) 11)))))))))

-- names that differ, none of which is of a lower class
pub record AreApart (c : ℕ) (xs : List (List ℕ)) : Type 0 where
  pub differ : AllDiffer xs
  pub spelled : (i : ℕ) (x : List ℕ) → slice_get xs i ≡ Some x → is_name x ≡ true
  pub least : (i : ℕ) (x : List ℕ) → slice_get xs i ≡ Some x → c ≤ class_of x

pub none_apart : (c : ℕ) → AreApart c []
none_apart c = record { differ = λ i j x e f. absurd (cc); spelled = λ i x e. absurd (cc); least = λ i x e. absurd (cc) }

-- what is asked of one of them
pub record IsGood (c : ℕ) (x : List ℕ) : Type 0 where
  pub own : class_of x ≡ c
  pub spelled : is_name x ≡ true

pub more_apart : (c : ℕ) (xs ys : List (List ℕ)) → AllDiffer xs → ((i : ℕ) (x : List ℕ) → slice_get xs i ≡ Some x → IsGood c x)
    → AreApart (c + 1) ys → AreApart c (xs ++ ys)
more_apart c xs ys differ good rest = record {
  differ = λ i j x e f. by_places i j x e f (below_or i (length xs)) (below_or j (length xs));
  spelled = λ i x e. names i x e (below_or i (length xs));
  least = λ i x e. by_place i x e (below_or i (length xs));
}
  where
    left : (i : ℕ) (x : List ℕ) → slice_get (xs ++ ys) i ≡ Some x → i < length xs → slice_get xs i ≡ Some x
    left i x e lt = sym (get_left xs ys i lt) ∙ e

    right : (i : ℕ) (x : List ℕ) → slice_get (xs ++ ys) i ≡ Some x → length xs ≤ i → slice_get ys (i - length xs) ≡ Some x
    right i x e ge =
        let z : length xs + (i - length xs) ≡ i = omega (arith, ge) in
        sym (get_behind xs ys (length xs) (i - length xs) refl) ∙ ap (λ k. slice_get (xs ++ ys) k) z ∙ e

    own : (i : ℕ) (x : List ℕ) → slice_get xs i ≡ Some x → class_of x ≡ c
    own i x e = (good i x e).own

    names : (i : ℕ) (x : List ℕ) → slice_get (xs ++ ys) i ≡ Some x → (i < length xs) ⊎ (length xs ≤ i) → is_name x ≡ true
    names i x e (inl lt) = (good i x (left i x e lt)).spelled
    names i x e (inr ge) = rest.spelled (i - length xs) x (right i x e ge)

    by_place : (i : ℕ) (x : List ℕ) → slice_get (xs ++ ys) i ≡ Some x → (i < length xs) ⊎ (length xs ≤ i) → c ≤ class_of x
    by_place i x e (inl lt) = let h = own i x (left i x e lt) in omega (arith, h)
    by_place i x e (inr ge) = let h = rest.least (i - length xs) x (right i x e ge) in omega (arith, h)

    by_places : (i j : ℕ) (x : List ℕ) → slice_get (xs ++ ys) i ≡ Some x → slice_get (xs ++ ys) j ≡ Some x
        → (i < length xs) ⊎ (length xs ≤ i) → (j < length xs) ⊎ (length xs ≤ j) → i ≡ j
    by_places i j x e f (inl p) (inl q) = differ i j x (left i x e p) (left j x f q)
    by_places i j x e f (inl p) (inr q) =
        let h = own i x (left i x e p) in
        let g = rest.least (j - length xs) x (right j x f q) in
        absurd (omega (arith, h, g))
    by_places i j x e f (inr p) (inl q) =
        let h = own j x (left j x f q) in
        let g = rest.least (i - length xs) x (right i x e p) in
        absurd (omega (arith, h, g))
    by_places i j x e f (inr p) (inr q) =
        let h = rest.differ (i - length xs) (j - length xs) x (right i x e p) (right j x f q) in
        omega (arith, h, p, q)

pub one_differs : (name : List ℕ) → AllDiffer (name ∷ [])
one_differs name zero zero x e f = refl
one_differs name (suc i) j x e f = absurd (cc)
one_differs name zero (suc j) x e f = absurd (cc)

-- ---- the last `$`

abbrev pub HasNoDollar : List ℕ → Type 0
HasNoDollar bs = list_any (nat_eq 36) bs ≡ false

dollar_in : (ys b : List ℕ) → list_any (nat_eq 36) (ys ++ 36 ∷ b) ≡ true
dollar_in [] b = refl
dollar_in (y ∷ ys) b = ap (λ t. nat_eq 36 y || t) (dollar_in ys b) ∙ either (nat_eq 36 y)
  where
    either : (t : Bool) → (t || true) ≡ true
    either true = refl
    either false = refl

pub last_dollar : (a c b d : List ℕ) → HasNoDollar b → HasNoDollar d → a ++ 36 ∷ b ≡ c ++ 36 ∷ d → (a ≡ c) × (b ≡ d)
last_dollar [] [] b d h k e = (refl, ap (drop 1) e)
last_dollar [] (y ∷ c) b d h k e =
    let f : b ≡ c ++ 36 ∷ d = ap (drop 1) e in
    absurd (false≢true (sym h ∙ ap (λ l. list_any (nat_eq 36) l) f ∙ dollar_in c d))
last_dollar (x ∷ a) [] b d h k e =
    let f : a ++ 36 ∷ b ≡ d = ap (drop 1) e in
    absurd (false≢true (sym k ∙ ap (λ l. list_any (nat_eq 36) l) (sym f) ∙ dollar_in a b))
last_dollar (x ∷ a) (y ∷ c) b d h k e =
    let r = last_dollar a c b d h k (ap (drop 1) e) in
    let s : x ≡ y = ap first_byte e in
    (ap (λ z. z ∷ a) s ∙ ap (λ l. y ∷ l) r.0, r.1)

pub drop_front : (front xs : List ℕ) → drop (length front) (front ++ xs) ≡ xs
drop_front [] xs = refl
drop_front (b ∷ front) xs = drop_front front xs

pub same_behind : (front xs ys : List ℕ) → front ++ xs ≡ front ++ ys → xs ≡ ys
same_behind front xs ys e = sym (drop_front front xs) ∙ ap (drop (length front)) e ∙ drop_front front ys

both_true : (a b : Bool) → (a && b) ≡ true → (a ≡ true) × (b ≡ true)
both_true true b h = (refl, h)
both_true false b h = absurd (false≢true h)

name_bytes : (bs : List ℕ) → list_all is_name_byte bs ≡ true → HasNoDollar bs
name_bytes [] h = refl
name_bytes (b ∷ bs) h =
    let parts = both_true (is_name_byte b) (list_all is_name_byte bs) h in
    let own = parts.0 in
    let no : nat_eq 36 b ≡ false = grind (arith, nat_tests) in
    ap (λ t. t || list_any (nat_eq 36) bs) no ∙ name_bytes bs parts.1

pub port_no_dollar : (name : List ℕ) → is_port_name name ≡ true → HasNoDollar name
port_no_dollar [] h = refl
port_no_dollar (b ∷ bs) h =
    let parts = both_true (is_letter b) (list_all is_name_byte bs) h in
    let own = parts.0 in
    let no : nat_eq 36 b ≡ false = grind (arith, nat_tests) in
    ap (λ t. t || list_any (nat_eq 36) bs) no ∙ name_bytes bs parts.1

-- ---- items of lists that are made of others

-- one of three items for each item of a list
pub data IsOfThrice {A B : Type 0} (f g h : ℕ → B → A) (from : ℕ) (ns : List B) (i : ℕ) (a : A) : Type 0 where
  at_first : (j : ℕ) (n : B) → slice_get ns j ≡ Some n → i ≡ 3 * j → a ≡ f (from + j) n → IsOfThrice f g h from ns i a
  at_second : (j : ℕ) (n : B) → slice_get ns j ≡ Some n → i ≡ 3 * j + 1 → a ≡ g (from + j) n → IsOfThrice f g h from ns i a
  at_third : (j : ℕ) (n : B) → slice_get ns j ≡ Some n → i ≡ 3 * j + 2 → a ≡ h (from + j) n → IsOfThrice f g h from ns i a

later : {A B : Type 0} (f g h : ℕ → B → A) (from : ℕ) (n : B) (ns : List B) (i : ℕ) (a : A) → IsOfThrice f g h (from + 1) ns i a
    → IsOfThrice f g h from (n ∷ ns) (suc (suc (suc i))) a
later f g h from n ns i a (at_first j m e s r) =
    let z : from + 1 + j ≡ from + suc j = omega arith in at_first (suc j) m e (omega (arith, s)) (r ∙ ap (λ k. f k m) z)
later f g h from n ns i a (at_second j m e s r) =
    let z : from + 1 + j ≡ from + suc j = omega arith in at_second (suc j) m e (omega (arith, s)) (r ∙ ap (λ k. g k m) z)
later f g h from n ns i a (at_third j m e s r) =
    let z : from + 1 + j ≡ from + suc j = omega arith in at_third (suc j) m e (omega (arith, s)) (r ∙ ap (λ k. h k m) z)

pub of_thrice : {A B : Type 0} (f g h : ℕ → B → A) (from : ℕ) (ns : List B) (i : ℕ) (a : A) → slice_get (thrice f g h from ns) i ≡ Some a → IsOfThrice f g h from ns i a
of_thrice f g h from [] i a e = absurd (cc)
of_thrice f g h from (n ∷ ns) zero a e =
    let s : f from n ≡ a = cc in
    let z : from ≡ from + 0 = omega arith in
    at_first 0 n refl (omega arith) (sym s ∙ ap (λ k. f k n) z)
of_thrice f g h from (n ∷ ns) (suc zero) a e =
    let s : g from n ≡ a = cc in
    let z : from ≡ from + 0 = omega arith in
    at_second 0 n refl (omega arith) (sym s ∙ ap (λ k. g k n) z)
of_thrice f g h from (n ∷ ns) (suc (suc zero)) a e =
    let s : h from n ≡ a = cc in
    let z : from ≡ from + 0 = omega arith in
    at_third 0 n refl (omega arith) (sym s ∙ ap (λ k. h k n) z)
of_thrice f g h from (n ∷ ns) (suc (suc (suc i))) a e = later f g h from n ns i a (of_thrice f g h (from + 1) ns i a e)

-- one of a list for each item of a list
pub record IsOfJoined {A B : Type 0} (f : ℕ → B → List A) (size : B → ℕ) (k : ℕ) (xs : List B) (i : ℕ) (a : A) : Type 0 where
  pub place : ℕ
  pub item : B
  pub known : slice_get xs place ≡ Some item
  pub own : ℕ
  pub is : slice_get (f (k + place) item) own ≡ Some a
  pub index : i ≡ sum_by size (take place xs) + own

pub of_joined : {A B : Type 0} (f : ℕ → B → List A) (size : B → ℕ) → ((k : ℕ) (x : B) → length (f k x) ≡ size x) → (k : ℕ) (xs : List B) (i : ℕ) (a : A)
    → slice_get (joined f k xs) i ≡ Some a → IsOfJoined f size k xs i a
of_joined f size sized k [] i a e = absurd (cc)
of_joined {A} f size sized k (x ∷ xs) i a e = by_case (below_or i (length (f k x))) (λ j g. of_joined f size sized (k + 1) xs j a g)
  where
    by_case : (i < length (f k x)) ⊎ (length (f k x) ≤ i) → ((j : ℕ) → slice_get (joined f (k + 1) xs) j ≡ Some a → IsOfJoined f size (k + 1) xs j a)
        → IsOfJoined f size k (x ∷ xs) i a
    by_case (inl lt) far =
        let z : k ≡ k + 0 = omega arith in
        record {
          place = 0;
          item = x;
          known = refl;
          own = i;
          is = ap (λ j. slice_get (f j x) i) (sym z) ∙ sym (get_left (f k x) (joined f (k + 1) xs) i lt) ∙ e;
          index = omega arith;
        }
    by_case (inr ge) far =
        let n = length (f k x) in
        let y : n + (i - n) ≡ i = omega (arith, ge) in
        let r = far (i - n) (sym (get_behind (f k x) (joined f (k + 1) xs) n (i - n) refl) ∙ ap (λ j. slice_get (joined f k (x ∷ xs)) j) y ∙ e) in
        let z : k + 1 + r.place ≡ k + suc r.place = omega arith in
        let s = sum_by-cons size x (take r.place xs) in
        let w = sized k x in
        let index = r.index in
        record {
          place = suc r.place;
          item = r.item;
          known = r.known;
          own = r.own;
          is = ap (λ j. slice_get (f j r.item) r.own) (sym z) ∙ r.is;
          index = omega (arith, s, w, index, ge);
        }
