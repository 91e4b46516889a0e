-- Assignments sorted by level are in an order in which they can be evaluated.
use Rattle.std.proofs.Common.{◌≡◌, ◌≢◌, ℕ, zero, suc, ◌+◌, ◌<◌, ◌≤◌, Bool, true, false, cond, eqb}
use Rattle.std.proofs.Common.{List, [], ◌∷◌, ◌++◌, map, length, get_or, set, Some, refl, sym, ap}
use Rattle.std.proofs.Common.{◌∙◌, subst, ⊎_elim, arith, get_or-set_other, get_or-set_same}
use Rattle.std.specs.Prelude.{slice_get, IsPermutation}
use Rattle.std.specs.List.{sum_by, Contains}
use Rattle.std.specs.List.Sorted.{IsNonDecreasingBy}
use Rattle.std.proofs.lemmas.Bool.{eq-eqb, eqb-true, cases_eq, cases_lt}
use Rattle.std.proofs.lemmas.Option.{slice_get_within, slice_get-get_or, get_or_from_slice_get}
use Rattle.std.proofs.lemmas.List.{map-append}
use Rattle.std.proofs.lemmas.List.Sums.{sum_by-cons, get_or-le-sum_by}
use Rattle.std.proofs.lemmas.List.Sorted.{IsPermutation-sym, Contains-permutation, sum_by-IsPermutation}
use Rattle.rtl_ir.specs.declared.design.Module.{Module}
use Rattle.rtl_ir.specs.declared.design.Assign.{Assign}
use Rattle.rtl_ir.specs.Operands.{IsRead}
use Rattle.verilog_sim.specs.declared.level.Ranked.{Ranked}
use Rattle.verilog_sim.specs.Runnable.{IsOrderOf}
use Rattle.verilog_sim.specs.Settled.{IsInOrder}
use Rattle.verilog_sim.specs.Levels.{AreLevels, AreRanked, assign_of}
use Rattle.verilog_sim.proofs.Gathering.{PushedAt, before, last, pushed_at}
use Rattle.verilog_sim.proofs.Batching.{mapped_at}

pub ranked_more : (levels : List ℕ) (xs : List Assign) (items : List Ranked) (r : Ranked)
    → r.level ≡ get_or levels r.assign.target 0 → AreRanked levels xs items
    → AreRanked levels (xs ++ r.assign ∷ []) (items ++ r ∷ [])
ranked_more levels xs items r is are =
    record { assigns = map-append assign_of items (r ∷ []) ∙ ap (λ l. l ++ r.assign ∷ []) are.assigns; levels_are = λ i s e. each i s (pushed_at items r i s e) }
  where
    each : (i : ℕ) (s : Ranked) → PushedAt items r i s → s.level ≡ get_or levels s.assign.target 0
    each i s (before lt e) = are.levels_are i s e
    each i s (last q e) = subst (λ (x : Ranked). x.level ≡ get_or levels x.assign.target 0) e is

-- one level more that is read
pub above_more :
    (nets levels : List ℕ) (level more i n : ℕ) → slice_get nets i ≡ Some n → level ≤ more → get_or levels n 0 ≤ more
    → ((j k : ℕ) → j < i → slice_get nets j ≡ Some k → get_or levels k 0 ≤ level)
    → (j k : ℕ) → j < i + 1 → slice_get nets j ≡ Some k → get_or levels k 0 ≤ more
above_more nets levels level more i n at le here old j k lt e = ⊎_elim (λ less. (let q = old j k less e in omega (arith, q, le))) (λ ge. same (omega arith)) (cases_lt j i)
  where
    same : j ≡ i → get_or levels k 0 ≤ more
    same q =
        let e' : slice_get nets i ≡ Some k = subst (λ (x : ℕ). slice_get nets x ≡ Some k) q e in
        let r : n ≡ k = cc in
        subst (λ (x : ℕ). get_or levels x 0 ≤ more) r here

-- the level of one target more
pub bound_set : (levels : List ℕ) (t x i : ℕ) → t < length levels → x ≤ i + 1 → ((n : ℕ) → get_or levels n 0 ≤ i) → (n : ℕ) → get_or (set levels t x) n 0 ≤ i + 1
bound_set levels t x i lt le old n = ⊎_elim here other (cases_eq n t)
  where
    here : n ≡ t → get_or (set levels t x) n 0 ≤ i + 1
    here e = subst (λ (k : ℕ). get_or (set levels t x) k 0 ≤ i + 1) (sym e) (subst (λ (y : ℕ). y ≤ i + 1) (sym (get_or-set_same levels t x 0 lt)) le)

    other : n ≢ t → get_or (set levels t x) n 0 ≤ i + 1
    other ne = let q = get_or-set_other levels t n x 0 ne in let b = old n in omega (arith, q, b)

pub rising_set :
    (m : Module) (order : List Assign) (levels : List ℕ) (i x : ℕ) (a : Assign) → IsInOrder m order → slice_get order i ≡ Some a → a.target < length levels
    → ((n : ℕ) → IsRead a.expr n → get_or levels n 0 < x)
    → ((j n : ℕ) (b : Assign) → j < i → slice_get order j ≡ Some b → IsRead b.expr n → get_or levels n 0 < get_or levels b.target 0)
    → (j n : ℕ) (b : Assign) → j < i + 1 → slice_get order j ≡ Some b → IsRead b.expr n → get_or (set levels a.target x) n 0 < get_or (set levels a.target x) b.target 0
rising_set m order levels i x a o at lt above old j n b less e read = ⊎_elim earlier (λ ge. here (omega arith)) (cases_lt j i)
  where
    unread : j ≤ i → n ≢ a.target
    unread le q = o.unread j i b a le e at (subst (IsRead b.expr) q read)

    earlier : j < i → get_or (set levels a.target x) n 0 < get_or (set levels a.target x) b.target 0
    earlier q =
        let left = get_or-set_other levels a.target n x 0 (unread (omega arith)) in
        let right = get_or-set_other levels a.target b.target x 0 (o.once j i b a q e at) in
        let rises = old j n b q e read in
        omega (arith, left, right, rises)

    here : j ≡ i → get_or (set levels a.target x) n 0 < get_or (set levels a.target x) b.target 0
    here q =
        let e' : slice_get order i ≡ Some b = subst (λ (k : ℕ). slice_get order k ≡ Some b) q e in
        let r : a ≡ b = cc in
        let left = get_or-set_other levels a.target n x 0 (unread (omega arith)) in
        let right = get_or-set_same levels a.target x 0 lt in
        let rises = above n (subst (λ (z : Assign). IsRead z.expr n) (sym r) read) in
        let same = ap (λ (z : Assign). get_or (set levels a.target x) z.target 0) r in
        omega (arith, left, right, rises, same)

-- how often a net is the target
abbrev hit : ℕ → Ranked → ℕ
hit t r = cond (eqb r.assign.target t) 1 0

hit_one : (t : ℕ) (r : Ranked) → r.assign.target ≡ t → hit t r ≡ 1
hit_one t r e = ap (λ b. cond b 1 0) (eq-eqb r.assign.target t e)

at_least_one : (t : ℕ) (xs : List Ranked) (i : ℕ) (a : Ranked) → slice_get xs i ≡ Some a → a.assign.target ≡ t → 1 ≤ sum_by (hit t) xs
at_least_one t xs i a e h =
    let le = get_or-le-sum_by (hit t) xs i a (slice_get_within xs i a e) in
    let one : hit t (get_or xs i a) ≡ 1 = ap (hit t) (get_or_from_slice_get xs i a a e) ∙ hit_one t a h in
    omega (arith, le, one)

at_least_two : (t : ℕ) (xs : List Ranked) (i j : ℕ) (a b : Ranked) → i < j → slice_get xs i ≡ Some a → slice_get xs j ≡ Some b → a.assign.target ≡ t → b.assign.target ≡ t → 2 ≤ sum_by (hit t) xs
at_least_two t [] i j a b lt e f h g = absurd (cc)
at_least_two t (x ∷ xs) i zero a b lt e f h g = absurd (omega arith)
at_least_two t (x ∷ xs) zero (suc j) a b lt e f h g =
    let same : x ≡ a = cc in
    let one = hit_one t x (ap (λ (r : Ranked). r.assign.target) same ∙ h) in
    let more = at_least_one t xs j b f g in
    let all = sum_by-cons (hit t) x xs in
    omega (arith, one, more, all)
at_least_two t (x ∷ xs) (suc i) (suc j) a b lt e f h g =
    let more = at_least_two t xs i j a b (omega arith) e f h g in
    let all = sum_by-cons (hit t) x xs in
    omega (arith, more, all)

none_hit : (t : ℕ) (xs : List Ranked) → ((i : ℕ) (b : Ranked) → slice_get xs i ≡ Some b → b.assign.target ≢ t) → sum_by (hit t) xs ≡ 0
none_hit t [] f = refl
none_hit t (x ∷ xs) f =
    let rest = none_hit t xs (λ i b e. f (suc i) b e) in
    let zero_hit : hit t x ≡ 0 = missed (eqb x.assign.target t) refl in
    let all = sum_by-cons (hit t) x xs in
    omega (arith, rest, zero_hit, all)
  where
    missed : (b : Bool) → eqb x.assign.target t ≡ b → hit t x ≡ 0
    missed true e = absurd (f 0 x refl (eqb-true x.assign.target t e))
    missed false e = ap (λ b. cond b 1 0) e

-- no two have the same target
abbrev Apart : List Ranked → Type 0
Apart xs = (i j : ℕ) (a b : Ranked) → i < j → slice_get xs i ≡ Some a → slice_get xs j ≡ Some b → a.assign.target ≢ b.assign.target

at_most_one : (t : ℕ) (xs : List Ranked) → Apart xs → sum_by (hit t) xs ≤ 1
at_most_one t [] f = omega arith
at_most_one t (x ∷ xs) f = by_test (at_most_one t xs (λ i j a b lt at bt. f (suc i) (suc j) a b (omega arith) at bt)) (eqb x.assign.target t) refl
  where
    by_test : sum_by (hit t) xs ≤ 1 → (b : Bool) → eqb x.assign.target t ≡ b → sum_by (hit t) (x ∷ xs) ≤ 1
    by_test few true e =
        let here = eqb-true x.assign.target t e in
        let rest = none_hit t xs (λ i b at same. f 0 (suc i) x b (omega arith) refl at (here ∙ sym same)) in
        let one = hit_one t x here in
        let all = sum_by-cons (hit t) x xs in
        omega (arith, rest, one, all)
    by_test few false e =
        let none : hit t x ≡ 0 = ap (λ b. cond b 1 0) e in
        let all = sum_by-cons (hit t) x xs in
        omega (arith, few, none, all)

apart_moved : (xs ys : List Ranked) → IsPermutation xs ys → Apart xs → Apart ys
apart_moved xs ys p f i j a b lt at bt e =
    let two = at_least_two b.assign.target ys i j a b lt at bt e refl in
    let one = at_most_one b.assign.target xs f in
    let same = sum_by-IsPermutation (hit b.assign.target) xs ys p in
    omega (arith, two, one, same)

-- what stands in one of two lists stands in the other
moved_at : {A : Type 0} (xs ys : List A) (i : ℕ) (x : A) → IsPermutation xs ys → slice_get xs i ≡ Some x → (k : ℕ) × (slice_get ys k ≡ Some x)
moved_at xs ys i x p e =
    let has : Contains ys x = Contains-permutation xs ys x p (i, slice_get_within xs i x e, get_or_from_slice_get xs i x x e) in
    (has.0, slice_get-get_or ys has.0 x has.1 ∙ ap (λ y. Some y) has.2)

-- the item of a mapped one
from_map : {A B : Type 0} (f : A → B) (xs : List A) (i : ℕ) (y : B) → slice_get (map f xs) i ≡ Some y → (x : A) × (slice_get xs i ≡ Some x) × (f x ≡ y)
from_map f [] i y e = absurd (cc)
from_map f (x ∷ xs) zero y e = (x, refl, cc)
from_map f (x ∷ xs) (suc i) y e = from_map f xs i y e

module _
    (m : Module) (order : List Assign) (levels : List ℕ) (items sorted : List Ranked) (o : IsOrderOf m order) (l : AreLevels order levels) (r : AreRanked levels order items)
    (p : IsPermutation items sorted) (s : IsNonDecreasingBy (λ (x : Ranked). x.level) sorted) where
  item_of : (i : ℕ) (a : Assign) → slice_get order i ≡ Some a → (x : Ranked) × (slice_get items i ≡ Some x) × (x.assign ≡ a)
  item_of i a e = from_map assign_of items i a (subst (λ (l : List Assign). slice_get l i ≡ Some a) (sym r.assigns) e)

  assign_at : (i : ℕ) (x : Ranked) → slice_get items i ≡ Some x → slice_get order i ≡ Some x.assign
  assign_at i x e = subst (λ (l : List Assign). slice_get l i ≡ Some x.assign) r.assigns (mapped_at assign_of items i x e)

  apart : Apart items
  apart i j a b lt at bt = o.in_order.once i j a.assign b.assign lt (assign_at i a at) (assign_at j b bt)

  back : (i : ℕ) (x : Ranked) → slice_get sorted i ≡ Some x → (k : ℕ) × (slice_get items k ≡ Some x)
  back i x e = moved_at sorted items i x (IsPermutation-sym items sorted p) e

  level_is : (i : ℕ) (x : Ranked) → slice_get sorted i ≡ Some x → x.level ≡ get_or levels x.assign.target 0
  level_is i x e = let k = back i x e in r.levels_are k.0 x k.1

  origin : (i : ℕ) (a : Assign) → slice_get (map assign_of sorted) i ≡ Some a → (k : ℕ) × (slice_get order k ≡ Some a)
  origin i a e =
      let x = from_map assign_of sorted i a e in
      let k = back i x.0 x.1 in
      (k.0, assign_at k.0 x.0 k.1 ∙ ap (λ y. Some y) x.2)

  unread : (i j : ℕ) (a b : Assign) → i ≤ j → slice_get (map assign_of sorted) i ≡ Some a → slice_get (map assign_of sorted) j ≡ Some b → IsRead a.expr b.target → ⊥
  unread i j a b le at bt read =
      let x = from_map assign_of sorted i a at in
      let y = from_map assign_of sorted j b bt in
      let k = origin i a at in
      let rises = l k.0 b.target a k.1 read in
      let lx : x.0.level ≡ get_or levels a.target 0 = level_is i x.0 x.1 ∙ ap (λ (z : Assign). get_or levels z.target 0) x.2 in
      let ly : y.0.level ≡ get_or levels b.target 0 = level_is j y.0 y.1 ∙ ap (λ (z : Assign). get_or levels z.target 0) y.2 in
      let up = s i j x.0 le (slice_get_within sorted j y.0 y.1) in
      let ex = ap (λ (z : Ranked). z.level) (get_or_from_slice_get sorted i x.0 x.0 x.1) in
      let ey = ap (λ (z : Ranked). z.level) (get_or_from_slice_get sorted j y.0 x.0 y.1) in
      omega (arith, rises, lx, ly, up, ex, ey)

  once : (i j : ℕ) (a b : Assign) → i < j → slice_get (map assign_of sorted) i ≡ Some a → slice_get (map assign_of sorted) j ≡ Some b → a.target ≢ b.target
  once i j a b lt at bt e =
      let x = from_map assign_of sorted i a at in
      let y = from_map assign_of sorted j b bt in
      apart_moved items sorted p apart i j x.0 y.0 lt x.1 y.1 (ap (λ (z : Assign). z.target) x.2 ∙ e ∙ ap (λ (z : Assign). z.target) (sym y.2))

  pub sorted_order : IsOrderOf m (map assign_of sorted)
  sorted_order = record {
    in_order = record {
      typed = λ i a e. (let k = origin i a e in o.in_order.typed k.0 a k.1);
      unread = unread;
      once = once;
    };
    all = λ k a e. (
        let q = o.all k a e in
        let x = item_of q.0 a q.1 in
        let j = moved_at items sorted q.0 x.0 p x.1 in
        (j.0, mapped_at assign_of sorted j.0 x.0 j.1 ∙ ap (λ y. Some y) x.2));
    from = λ i a e. (let k = origin i a e in o.from k.0 a k.1);
  }
