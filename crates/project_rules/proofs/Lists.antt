-- Items of lists by their numbers.
use Rattle.std.proofs.Common.{◌≡◌, ◌∙◌, ℕ, zero, suc, ◌+◌, ◌*◌, ◌<◌, ◌≤◌, inl, inr, List, [], ◌∷◌, ◌++◌, map, take, Some, length, refl, sym, ap, subst, arith, length-append}
use Rattle.std.specs.Prelude.{◌⊎◌, All, slice_get, sum_by}
use Rattle.std.specs.List.{AllZip}
use Rattle.std.proofs.lemmas.List.Sums.{sum_by-cons}
use Rattle.std.proofs.lemmas.Option.{get_or_from_slice_get}
use Rattle.project_rtl.specs.Tops.{range}

-- ---- one item

pub within : {A : Type 0} (xs : List A) (k : ℕ) (x : A) → slice_get xs k ≡ Some x → k < length xs
within [] k x e = absurd (cc)
within (y ∷ xs) zero x e = omega arith
within (y ∷ xs) (suc k) x e = let h = within xs k x e in omega arith

pub there : {A : Type 0} (xs : List A) (k : ℕ) → k < length xs → (x : A) × (slice_get xs k ≡ Some x)
there [] k h = absurd (omega arith)
there (x ∷ xs) zero h = (x, refl)
there (x ∷ xs) (suc k) h = there xs k (omega arith)

pub get_left : {A : Type 0} (xs ys : List A) (k : ℕ) → k < length xs → slice_get (xs ++ ys) k ≡ slice_get xs k
get_left [] ys k h = absurd (omega arith)
get_left (x ∷ xs) ys zero h = refl
get_left (x ∷ xs) ys (suc k) h = get_left xs ys k (omega arith)

get_right : {A : Type 0} (xs ys : List A) (k : ℕ) → slice_get (xs ++ ys) (length xs + k) ≡ slice_get ys k
get_right [] ys k = let e : 0 + k ≡ k = omega arith in ap (λ j. slice_get ys j) e
get_right (x ∷ xs) ys k =
    let e : suc (length xs) + k ≡ suc (length xs + k) = omega arith in
    ap (λ j. slice_get (x ∷ xs ++ ys) j) e ∙ get_right xs ys k

pub get_behind : {A : Type 0} (xs ys : List A) (n k : ℕ) → n ≡ length xs → slice_get (xs ++ ys) (n + k) ≡ slice_get ys k
get_behind xs ys n k e = ap (λ j. slice_get (xs ++ ys) (j + k)) e ∙ get_right xs ys k

-- what a list has at a number a longer one has
pub at_left : {A : Type 0} (xs ys : List A) (k : ℕ) (x : A) → slice_get xs k ≡ Some x → slice_get (xs ++ ys) k ≡ Some x
at_left xs ys k x e = get_left xs ys k (within xs k x e) ∙ e

pub at_behind : {A : Type 0} (xs ys : List A) (n k : ℕ) (y : A) → n ≡ length xs → slice_get ys k ≡ Some y → slice_get (xs ++ ys) (n + k) ≡ Some y
at_behind xs ys n k y e h = get_behind xs ys n k e ∙ h

-- the same where the number is written otherwise
pub at : {A : Type 0} (xs : List A) (k j : ℕ) (x : A) → slice_get xs k ≡ Some x → k ≡ j → slice_get xs j ≡ Some x
at xs k j x e same = ap (λ i. slice_get xs i) (sym same) ∙ e

pub map_at : {A B : Type 0} (f : A → B) (xs : List A) (k : ℕ) (x : A) → slice_get xs k ≡ Some x → slice_get (map f xs) k ≡ Some (f x)
map_at f [] k x e = absurd (cc)
map_at f (y ∷ xs) zero x e = let same : y ≡ x = cc in ap (λ z. Some (f z)) same
map_at f (y ∷ xs) (suc k) x e = map_at f xs k x e

pub map_back : {A B : Type 0} (f : A → B) (xs : List A) (k : ℕ) (y : B) → slice_get (map f xs) k ≡ Some y → (x : A) × (slice_get xs k ≡ Some x) × (f x ≡ y)
map_back f [] k y e = absurd (cc)
map_back f (x ∷ xs) zero y e = (x, refl, (let same : f x ≡ y = cc in same))
map_back f (x ∷ xs) (suc k) y e = map_back f xs k y e

-- two lists that are the same under functions
pub both_at : {A B C : Type 0} (f : A → C) (g : B → C) (xs : List A) (ys : List B) (k : ℕ) (y : B) → map f xs ≡ map g ys → slice_get ys k ≡ Some y
    → (x : A) × (slice_get xs k ≡ Some x) × (f x ≡ g y)
both_at f g xs ys k y e h = map_back f xs k (g y) (ap (λ l. slice_get l k) e ∙ map_at g ys k y h)

pub map_join : {A B : Type 0} (f : A → B) (xs ys : List A) → map f (xs ++ ys) ≡ map f xs ++ map f ys
map_join f [] ys = refl
map_join f (x ∷ xs) ys = ap (λ l. f x ∷ l) (map_join f xs ys)

pub length_map : {A B : Type 0} (f : A → B) (xs : List A) → length (map f xs) ≡ length xs
length_map f [] = refl
length_map f (x ∷ xs) = ap suc (length_map f xs)

pub same_item : {A : Type 0} (xs : List A) (k : ℕ) (x y : A) → slice_get xs k ≡ Some x → slice_get xs k ≡ Some y → x ≡ y
same_item xs k x y e f = let s = sym e ∙ f in cc

pub below_or : (a b : ℕ) → (a < b) ⊎ (b ≤ a)
below_or a zero = inr (omega arith)
below_or zero (suc b) = inl (omega arith)
below_or (suc a) (suc b) = further (below_or a b)
  where
    further : (a < b) ⊎ (b ≤ a) → (suc a < suc b) ⊎ (suc b ≤ suc a)
    further (inl h) = inl (omega arith)
    further (inr h) = inr (omega arith)

-- the items of two lists, each with the one at its place
pub zip_at : {A B : Type 0} (R : A → B → Type 0) (xs : List A) (ys : List B) (k : ℕ) (x : A) (y : B) → AllZip R xs ys
    → slice_get xs k ≡ Some x → slice_get ys k ≡ Some y → R x y
zip_at R [] ys k x y h e f = absurd (cc)
zip_at R (a ∷ xs) [] k x y h e f = absurd h
zip_at R (a ∷ xs) (b ∷ ys) zero x y h e f = let s : a ≡ x = cc in let t : b ≡ y = cc in subst (λ z. R z y) s (subst (λ z. R a z) t h.0)
zip_at R (a ∷ xs) (b ∷ ys) (suc k) x y h e f = zip_at R xs ys k x y h.1 e f

-- what holds of all items holds of the one with this number
pub one_of : {A : Type 0} (P : A → Type 0) (xs : List A) → All P xs → (k : ℕ) (x : A) → slice_get xs k ≡ Some x → P x
one_of P xs all k x e = subst P (get_or_from_slice_get xs k x x e) (all k x (within xs k x e))

-- ---- what holds of each item with its number

abbrev pub Each : {A : Type 0} → (ℕ → A → Type 0) → ℕ → List A → Type 0
Each P k [] = Unit {0}
Each P k (x ∷ xs) = P k x × Each P (k + 1) xs

pub each_at : {A : Type 0} (P : ℕ → A → Type 0) (k : ℕ) (xs : List A) → Each P k xs → (j : ℕ) (x : A) → slice_get xs j ≡ Some x → P (k + j) x
each_at P k [] h j x e = absurd (cc)
each_at P k (y ∷ ys) h zero x e =
    let same : y ≡ x = cc in
    let n : k ≡ k + 0 = omega arith in
    subst (λ i. P i x) n (subst (P k) same h.0)
each_at P k (y ∷ ys) h (suc j) x e =
    let n : k + 1 + j ≡ k + suc j = omega arith in
    subst (λ i. P i x) n (each_at P (k + 1) ys h.1 j x e)

pub each_join : {A : Type 0} (P : ℕ → A → Type 0) (k n : ℕ) (xs ys : List A) → n ≡ length xs → Each P k xs → Each P (k + n) ys → Each P k (xs ++ ys)
each_join P k n [] ys e a b = let z : k + n ≡ k = omega arith in subst (λ i. Each P i ys) z b
each_join P k n (x ∷ xs) ys e a b =
    let z : k + n ≡ k + 1 + length xs = omega arith in
    (a.0, each_join P (k + 1) (length xs) xs ys refl a.1 (subst (λ i. Each P i ys) z b))

-- so it is with each item by its number
pub each_from : {A : Type 0} (P : ℕ → A → Type 0) (k : ℕ) (xs : List A) → ((j : ℕ) (x : A) → slice_get xs j ≡ Some x → P (k + j) x) → Each P k xs
each_from P k [] h = tt
each_from P k (x ∷ xs) h =
    let z : k + 0 ≡ k = omega arith in
    (subst (λ i. P i x) z (h 0 x refl), each_from P (k + 1) xs (λ j y e. let n : k + suc j ≡ k + 1 + j = omega arith in subst (λ i. P i y) n (h (suc j) y e)))

-- ---- three items for each item of a list, by its place

abbrev pub thrice : {A B : Type 0} → (ℕ → B → A) → (ℕ → B → A) → (ℕ → B → A) → ℕ → List B → List A
thrice f g h i [] = []
thrice f g h i (n ∷ ns) = f i n ∷ g i n ∷ h i n ∷ thrice f g h (i + 1) ns

pub length_thrice : {A B : Type 0} (f g h : ℕ → B → A) (i : ℕ) (ns : List B) → length (thrice f g h i ns) ≡ 3 * length ns
length_thrice f g h i [] = refl
length_thrice f g h i (n ∷ ns) = let e = length_thrice f g h (i + 1) ns in omega arith

-- three items in a row
pub record AreThere {A : Type 0} (xs : List A) (k : ℕ) (a b c : A) : Type 0 where
  pub first : slice_get xs k ≡ Some a
  pub second : slice_get xs (k + 1) ≡ Some b
  pub third : slice_get xs (k + 2) ≡ Some c

pub thrice_at : {A B : Type 0} (f g h : ℕ → B → A) (from : ℕ) (ns : List B) (i : ℕ) (n : B) → slice_get ns i ≡ Some n
    → AreThere (thrice f g h from ns) (3 * i) (f (from + i) n) (g (from + i) n) (h (from + i) n)
thrice_at f g h from [] i n e = absurd (cc)
thrice_at {A} {B} f g h from (x ∷ ns) zero n e =
    let same : x ≡ n = cc in
    let z : from ≡ from + 0 = omega arith in
    let o : 3 * 0 ≡ 0 = omega arith in
    let l : List A = thrice f g h from (x ∷ ns) in
    let P : ℕ → ℕ → B → Type 0 = λ k j y. AreThere l k (f j y) (g j y) (h j y) in
    let here : P 0 from x = record { first = refl; second = refl; third = refl } in
    subst (λ k. P k (from + 0) n) (sym o) (subst (λ j. P 0 j n) z (subst (λ y. P 0 from y) same here))
thrice_at {A} {B} f g h from (x ∷ ns) (suc i) n e =
    let r = thrice_at f g h (from + 1) ns i n e in
    let z : from + 1 + i ≡ from + suc i = omega arith in
    let l : List A = thrice f g h from (x ∷ ns) in
    let P : ℕ → Type 0 = λ j. AreThere l (3 * suc i) (f j n) (g j n) (h j n) in
    let a : 3 * suc i ≡ suc (suc (suc (3 * i))) = omega arith in
    let b : 3 * suc i + 1 ≡ suc (suc (suc (3 * i + 1))) = omega arith in
    let c : 3 * suc i + 2 ≡ suc (suc (suc (3 * i + 2))) = omega arith in
    subst P z (record {
      first = ap (λ k. slice_get l k) a ∙ r.first;
      second = ap (λ k. slice_get l k) b ∙ r.second;
      third = ap (λ k. slice_get l k) c ∙ r.third;
    })

pub there_left : {A : Type 0} (xs ys : List A) (k : ℕ) (a b c : A) → AreThere xs k a b c → AreThere (xs ++ ys) k a b c
there_left xs ys k a b c t = record {
  first = at_left xs ys k a t.first;
  second = at_left xs ys (k + 1) b t.second;
  third = at_left xs ys (k + 2) c t.third;
}

pub there_behind : {A : Type 0} (xs ys : List A) (n k : ℕ) (a b c : A) → n ≡ length xs → AreThere ys k a b c → AreThere (xs ++ ys) (n + k) a b c
there_behind xs ys n k a b c e t =
    let f : n + k + 1 ≡ n + (k + 1) = omega arith in
    let g : n + k + 2 ≡ n + (k + 2) = omega arith in
    record {
      first = get_behind xs ys n k e ∙ t.first;
      second = ap (λ j. slice_get (xs ++ ys) j) f ∙ get_behind xs ys n (k + 1) e ∙ t.second;
      third = ap (λ j. slice_get (xs ++ ys) j) g ∙ get_behind xs ys n (k + 2) e ∙ t.third;
    }

-- the same where the number is written otherwise
pub three_at : {A : Type 0} (xs : List A) (k j : ℕ) (a b c : A) → AreThere xs k a b c → k ≡ j → AreThere xs j a b c
three_at xs k j a b c t same = subst (λ i. AreThere xs i a b c) same t

pub each_thrice : {A B : Type 0} (P : ℕ → A → Type 0) (f g h : ℕ → B → A) (k from : ℕ) (ns : List B)
    → ((i : ℕ) (n : B) → slice_get ns i ≡ Some n → P (k + 3 * i) (f (from + i) n) × P (k + 3 * i + 1) (g (from + i) n) × P (k + 3 * i + 2) (h (from + i) n))
    → Each P k (thrice f g h from ns)
each_thrice P f g h k from [] all = tt
each_thrice P f g h k from (n ∷ ns) all =
    let x = all 0 n refl in
    let z : from + 0 ≡ from = omega arith in
    let a : k + 3 * 0 ≡ k = omega arith in
    let b : k + 3 * 0 + 1 ≡ k + 1 = omega arith in
    let c : k + 3 * 0 + 2 ≡ k + 1 + 1 = omega arith in (
      subst (λ j. P k (f j n)) z (subst (λ i. P i (f (from + 0) n)) a x.0),
      (
        subst (λ j. P (k + 1) (g j n)) z (subst (λ i. P i (g (from + 0) n)) b x.1),
        (
          subst (λ j. P (k + 1 + 1) (h j n)) z (subst (λ i. P i (h (from + 0) n)) c x.2),
          each_thrice P f g h (k + 1 + 1 + 1) (from + 1) ns (λ i y e.
              let w = all (suc i) y e in
              let s : from + suc i ≡ from + 1 + i = omega arith in
              let p : k + 3 * suc i ≡ k + 1 + 1 + 1 + 3 * i = omega arith in
              let q : k + 3 * suc i + 1 ≡ k + 1 + 1 + 1 + 3 * i + 1 = omega arith in
              let r : k + 3 * suc i + 2 ≡ k + 1 + 1 + 1 + 3 * i + 2 = omega arith in (
                subst (λ j. P (k + 1 + 1 + 1 + 3 * i) (f j y)) s (subst (λ j. P j (f (from + suc i) y)) p w.0),
                subst (λ j. P (k + 1 + 1 + 1 + 3 * i + 1) (g j y)) s (subst (λ j. P j (g (from + suc i) y)) q w.1),
                subst (λ j. P (k + 1 + 1 + 1 + 3 * i + 2) (h j y)) s (subst (λ j. P j (h (from + suc i) y)) r w.2),
              )),
        ),
      ),
    )

-- ---- lists for each item of a list, by its place

abbrev pub joined : {A B : Type 0} → (ℕ → B → List A) → ℕ → List B → List A
joined f k [] = []
joined f k (x ∷ xs) = f k x ++ joined f (k + 1) xs

module _ {A B : Type 0} (f : ℕ → B → List A) (size : B → ℕ) (sized : (k : ℕ) (x : B) → length (f k x) ≡ size x) where
  pub length_joined : (k : ℕ) (xs : List B) → length (joined f k xs) ≡ sum_by size xs
  length_joined k [] = refl
  length_joined k (x ∷ xs) =
      let a = length-append (f k x) (joined f (k + 1) xs) in
      let b = sized k x in
      let c = length_joined (k + 1) xs in
      let d = sum_by-cons size x xs in
      omega (arith, a, b, c, d)

  pub joined_at : (k : ℕ) (xs : List B) (i : ℕ) (x : B) (q : ℕ) (a : A) → slice_get xs i ≡ Some x → slice_get (f (k + i) x) q ≡ Some a
      → slice_get (joined f k xs) (sum_by size (take i xs) + q) ≡ Some a
  joined_at k [] i x q a e h = absurd (cc)
  joined_at k (y ∷ ys) zero x q a e h =
      let same : y ≡ x = cc in
      let z : k + 0 ≡ k = omega arith in
      let n : q ≡ 0 + q = omega arith in
      let here : slice_get (f k y) q ≡ Some a = ap (λ b. slice_get (f k b) q) same ∙ ap (λ j. slice_get (f j x) q) (sym z) ∙ h in
      at (f k y ++ joined f (k + 1) ys) q (0 + q) a (at_left (f k y) (joined f (k + 1) ys) q a here) n
  joined_at k (y ∷ ys) (suc i) x q a e h =
      let z : k + suc i ≡ k + 1 + i = omega arith in
      let s = sum_by-cons size y (take i ys) in
      let rest = joined_at (k + 1) ys i x q a e (ap (λ j. slice_get (f j x) q) (sym z) ∙ h) in
      let n : size y + (sum_by size (take i ys) + q) ≡ sum_by size (y ∷ take i ys) + q = omega (arith, s) in
      at (f k y ++ joined f (k + 1) ys) (size y + (sum_by size (take i ys) + q)) _ a
      (at_behind (f k y) (joined f (k + 1) ys) (size y) (sum_by size (take i ys) + q) a (sym (sized k y)) rest) n

  pub each_joined : (P : ℕ → A → Type 0) (base k : ℕ) (xs : List B)
      → ((i : ℕ) (x : B) → slice_get xs i ≡ Some x → Each P (base + sum_by size (take i xs)) (f (k + i) x))
      → Each P base (joined f k xs)
  each_joined P base k [] h = tt
  each_joined P base k (x ∷ xs) h =
      let z : k + 0 ≡ k = omega arith in
      let o : base + 0 ≡ base = omega arith in
      each_join P base (size x) (f k x) (joined f (k + 1) xs) (sym (sized k x))
      (subst (λ j. Each P base (f j x)) z (subst (λ b. Each P b (f (k + 0) x)) o (h 0 x refl)))
      (each_joined P (base + size x) (k + 1) xs (λ i y e.
      let s = sum_by-cons size x (take i xs) in
      let n : base + sum_by size (x ∷ take i xs) ≡ base + size x + sum_by size (take i xs) = omega (arith, s) in
      let w : k + suc i ≡ k + 1 + i = omega arith in
      subst (λ j. Each P (base + size x + sum_by size (take i xs)) (f j y)) w (subst (λ b. Each P b (f (k + suc i) y)) n (h (suc i) y e))))

-- ---- items that are read at numbers

-- a list has these items at these numbers
abbrev pub Reads : {A : Type 0} → List A → List ℕ → List A → Type 0
Reads all [] [] = Unit {0}
Reads all (n ∷ ns) (s ∷ ss) = (slice_get all n ≡ Some s) × Reads all ns ss
Reads all [] (s ∷ ss) = ⊥
Reads all (n ∷ ns) [] = ⊥

pub reads_join : {A : Type 0} (all : List A) (ns ms : List ℕ) (ss ts : List A) → Reads all ns ss → Reads all ms ts → Reads all (ns ++ ms) (ss ++ ts)
reads_join all [] ms [] ts h k = k
reads_join all [] ms (s ∷ ss) ts h k = absurd h
reads_join all (n ∷ ns) ms [] ts h k = absurd h
reads_join all (n ∷ ns) ms (s ∷ ss) ts h k = (h.0, reads_join all ns ms ss ts h.1 k)

pub reads_range : {A : Type 0} (all : List A) (from : ℕ) (ss : List A) → ((q : ℕ) (s : A) → slice_get ss q ≡ Some s → slice_get all (from + q) ≡ Some s)
    → Reads all (range from (length ss)) ss
reads_range all from [] h = tt
reads_range all from (s ∷ ss) h =
    let z : from + 0 ≡ from = omega arith in (
      at all (from + 0) from s (h 0 s refl) z,
      reads_range all (from + 1) ss (λ q t e. let n : from + suc q ≡ from + 1 + q = omega arith in at all
          (from + suc q) (from + 1 + q) t (h (suc q) t e) n),
    )

-- an item that is read, by its place
pub record IsRead {A : Type 0} (all ss : List A) (j n : ℕ) : Type 0 where
  pub item : A
  pub own : slice_get ss j ≡ Some item
  pub is : slice_get all n ≡ Some item

pub reads_at : {A : Type 0} (all : List A) (ns : List ℕ) (ss : List A) (j n : ℕ) → Reads all ns ss → slice_get ns j ≡ Some n → IsRead all ss j n
reads_at all [] ss j n h e = absurd (cc)
reads_at all (m ∷ ns) [] j n h e = absurd h
reads_at all (m ∷ ns) (s ∷ ss) zero n h e = let same : m ≡ n = cc in record { item = s; own = refl; is = at all m n s h.0 same }
reads_at all (m ∷ ns) (s ∷ ss) (suc j) n h e = let r = reads_at all ns ss j n h.1 e in record { item = r.item; own = r.own; is = r.is }

pub length_range : (from count : ℕ) → length (range from count) ≡ count
length_range from zero = refl
length_range from (suc count) = ap suc (length_range (from + 1) count)

pub range_at : (from count k : ℕ) → k < count → slice_get (range from count) k ≡ Some (from + k)
range_at from zero k h = absurd (omega arith)
range_at from (suc count) zero h = let e : from ≡ from + 0 = omega arith in ap (λ (n : ℕ). Some n) e
range_at from (suc count) (suc k) h =
    let e : from + 1 + k ≡ from + suc k = omega arith in
    range_at (from + 1) count k (omega arith) ∙ ap (λ (n : ℕ). Some n) e
