-- Assignments gathered in the order of nets.
use Rattle.std.proofs.Common.{◌≡◌, ◌≢◌, ℕ, zero, suc, ◌+◌, ◌<◌, ◌⊎◌, inl, inr, cond, eqb, true}
use Rattle.std.proofs.Common.{false, Bool, List, [], ◌∷◌, ◌++◌, length, get_or, Option, Some, None}
use Rattle.std.proofs.Common.{refl, sym, ap, ◌∙◌, subst, ⊎_elim, arith}
use Rattle.std.specs.Prelude.{slice_get}
use Rattle.std.proofs.lemmas.Bool.{cases_lt, eq-eqb, eqb-true}
use Rattle.std.proofs.lemmas.Option.{slice_get_within}
use Rattle.std.proofs.lemmas.List.{length_push}
use Rattle.rtl_ir.specs.declared.design.Assign.{Assign}
use Rattle.verilog_sim.specs.Drivers.{AreGathered}

-- an item of a list with one more at its end
pub data PushedAt {A : Type 0} (xs : List A) (x : A) (p : ℕ) (y : A) : Type 0 where
  before : p < length xs → slice_get xs p ≡ Some y → PushedAt xs x p y
  last : p ≡ length xs → x ≡ y → PushedAt xs x p y

pub get_left : {A : Type 0} (xs : List A) (x : A) (p : ℕ) → p < length xs → slice_get (xs ++ x ∷ []) p ≡ slice_get xs p
get_left [] x p lt = absurd (omega arith)
get_left (z ∷ xs) x zero lt = refl
get_left (z ∷ xs) x (suc p) lt = get_left xs x p (omega arith)

pub get_last : {A : Type 0} (xs : List A) (x : A) → slice_get (xs ++ x ∷ []) (length xs) ≡ Some x
get_last [] x = refl
get_last (z ∷ xs) x = get_last xs x

pub pushed_at : {A : Type 0} (xs : List A) (x : A) (p : ℕ) (y : A) → slice_get (xs ++ x ∷ []) p ≡ Some y → PushedAt xs x p y
pushed_at xs x p y e = ⊎_elim (λ lt. before lt (sym (get_left xs x p lt) ∙ e)) (λ ge. at_end (omega (arith, slice_get_within (xs ++ x ∷ []) p y e, length_push xs x, ge))) (cases_lt p (length xs))
  where
    at_end : p ≡ length xs → PushedAt xs x p y
    at_end q = last q (let e' : slice_get (xs ++ x ∷ []) (length xs) ≡ Some y = subst (λ (i : ℕ). slice_get (xs ++ x ∷ []) i ≡ Some y) q e in let f = get_last xs x in cc)

abbrev placed : (ℕ → ℕ) → ℕ → ℕ → ℕ → ℕ
placed place end i = λ p. cond (eqb p end) i (place p)

placed_other : (place : ℕ → ℕ) (end i p : ℕ) → p ≢ end → placed place end i p ≡ place p
placed_other place end i p ne = by_test (eqb p end) refl
  where
    by_test : (b : Bool) → eqb p end ≡ b → cond b i (place p) ≡ place p
    by_test true e = absurd (ne (eqb-true p end e))
    by_test false e = refl

placed_end : (place : ℕ → ℕ) (end i p : ℕ) → p ≡ end → placed place end i p ≡ i
placed_end place end i p e = ap (λ b. cond b i (place p)) (eq-eqb p end e)

pub none_gathered : (assigns : List Assign) (drivers : List (Option ℕ)) (nodes : List ℕ) → AreGathered assigns drivers nodes [] 0
none_gathered assigns drivers nodes =
    record {
      place = λ p. 0;
      rising = λ p q lt less. absurd (omega arith);
      within = λ p lt. absurd (omega arith);
      from = λ p a e. absurd (cc);
      all = λ i k lt e. absurd (omega arith);
    }

split : (j i : ℕ) → j < i + 1 → (j < i) ⊎ (j ≡ i)
split j i less = ⊎_elim (λ q. inl q) (λ q. inr (omega arith)) (cases_lt j i)

-- a net without a driver is passed over
pub passed_over : (assigns : List Assign) (drivers : List (Option ℕ)) (nodes : List ℕ)
    (order : List Assign) (i : ℕ) → get_or drivers (get_or nodes i 0) None ≡ None
    → AreGathered assigns drivers nodes order i → AreGathered assigns drivers nodes order (i + 1)
passed_over assigns drivers nodes order i none g =
    record {
      place = g.place;
      rising = g.rising;
      within = λ p lt. omega (arith, g.within p lt);
      from = g.from;
      all = λ j k lt e. ⊎_elim (λ q. g.all j k q e) (λ q. absurd
          (let e' : get_or drivers (get_or nodes i 0) None ≡ Some k = subst
          (λ (x : ℕ). get_or drivers (get_or nodes x 0) None ≡ Some k) q e in cc)) (split j i lt);
    }

pub one_gathered : (assigns : List Assign) (drivers : List (Option ℕ)) (nodes : List ℕ)
    (order : List Assign) (i k : ℕ) (a : Assign)
    → get_or drivers (get_or nodes i 0) None ≡ Some k → slice_get assigns k ≡ Some a
    → AreGathered assigns drivers nodes order i → AreGathered assigns drivers nodes (order ++ a
    ∷ []) (i + 1)
one_gathered assigns drivers nodes order i k a is at g =
    record {
      place = placed g.place (length order) i;
      rising = λ p q lt less. ⊎_elim (λ f. old_pair p q lt f) (λ f. new_pair p q lt f) (split q (length order) (omega (arith, length_push order a, less)));
      within = λ p lt. ⊎_elim (λ f. old_in p f) (λ f. new_in p f) (split p (length order) (omega (arith, length_push order a, lt)));
      from = λ p b e. from p b (pushed_at order a p b e);
      all = λ j n lt e. ⊎_elim (λ q. old_all j n q e) (λ q. (length order, omega (arith, length_push order a), placed_end g.place (length order) i (length order) refl ∙ sym q)) (split j i lt);
    }
  where
    old_pair : (p q : ℕ) → p < q → q < length order → placed g.place (length order) i p < placed g.place (length order) i q
    old_pair p q lt f =
        let ep : placed g.place (length order) i p ≡ g.place p = placed_other g.place (length order) i p (omega arith) in
        let eq : placed g.place (length order) i q ≡ g.place q = placed_other g.place (length order) i q (omega arith) in
        omega (arith, g.rising p q lt f, ep, eq)

    new_pair : (p q : ℕ) → p < q → q ≡ length order → placed g.place (length order) i p < placed g.place (length order) i q
    new_pair p q lt f =
        let ep : placed g.place (length order) i p ≡ g.place p = placed_other g.place (length order) i p (omega arith) in
        let eq : placed g.place (length order) i q ≡ i = placed_end g.place (length order) i q f in
        omega (arith, g.within p (omega arith), ep, eq)

    old_in : (p : ℕ) → p < length order → placed g.place (length order) i p < i + 1
    old_in p f =
        let ep : placed g.place (length order) i p ≡ g.place p = placed_other g.place (length order) i p (omega arith) in
        omega (arith, g.within p f, ep)

    new_in : (p : ℕ) → p ≡ length order → placed g.place (length order) i p < i + 1
    new_in p f = let ep : placed g.place (length order) i p ≡ i = placed_end g.place (length order) i p f in omega (arith, ep)

    from : (p : ℕ) (b : Assign) → PushedAt order a p b → (n : ℕ) × (get_or drivers (get_or nodes (placed g.place (length order) i p) 0) None ≡ Some n) × (slice_get assigns n ≡ Some b)
    from p b (before lt e) =
        let ep : placed g.place (length order) i p ≡ g.place p = placed_other g.place (length order) i p (omega arith) in
        subst (λ (x : ℕ). (n : ℕ) × (get_or drivers (get_or nodes x 0) None ≡ Some n) × (slice_get assigns n ≡ Some b)) (sym ep) (g.from p b e)
    from p b (last q e) =
        let ep : placed g.place (length order) i p ≡ i = placed_end g.place (length order) i p q in
        subst (λ (x : ℕ). (n : ℕ) × (get_or drivers (get_or nodes x 0) None ≡ Some n) × (slice_get assigns n ≡ Some b)) (sym ep) (k, is, at ∙ ap (λ z. Some z) e)

    old_all : (j n : ℕ) → j < i → get_or drivers (get_or nodes j 0) None ≡ Some n → (p : ℕ) × (p < length (order ++ a ∷ [])) × (placed g.place (length order) i p ≡ j)
    old_all j n lt e =
        let r = g.all j n lt e in
        (r.0, omega (arith, length_push order a, r.1), placed_other g.place (length order) i r.0 (omega (arith, r.1)) ∙ r.2)
