-- What updates write, in modules that grow.
use Rattle.std.proofs.Common.{◌≡◌, ℕ, ◌<◌, ◌≤◌, false, ◌||◌, List, [], ◌∷◌, ◌++◌, refl, sym, ap, ◌∙◌, arith}
use Rattle.rtl_ir.specs.declared.design.Update.{Update}
use Rattle.rtl_ir.specs.declared.design.Target.{Target}
use Rattle.rtl_ir.specs.declared.design.Target.TheVariants.{Reg, Cell}
use Rattle.rtl_delays.specs.Steps.{is_target, is_mem_target, writes_reg, writes_mem, IsFree, Apart, IsTargetIn, UpdatesIn}
use Rattle.rtl_delays.proofs.Lists.{or_first, or_second, or_both}

target_more : (a b j k : ℕ) (t : Target) → a ≤ b → j ≤ k → IsTargetIn a j t → IsTargetIn b k t
target_more a b j k (Reg n) h l i = omega arith
target_more a b j k (Cell x n) h l i = (omega (arith, i.0), omega (arith, i.1))

pub updates_more : (a b j k : ℕ) (us : List Update) → a ≤ b → j ≤ k → UpdatesIn a j us → UpdatesIn b k us
updates_more a b j k [] h l i = tt
updates_more a b j k (u ∷ us) h l i = (target_more a b j k u.target h l i.0, updates_more a b j k us h l i.1)

pub updates_last : (a k : ℕ) (us : List Update) (u : Update) → UpdatesIn a k us → IsTargetIn a k u.target → UpdatesIn a k (us ++ u ∷ [])
updates_last a k [] u h i = (i, tt)
updates_last a k (w ∷ us) u h i = (h.0, updates_last a k us u h.1 i)

-- a register past those that are written is free
pub free_reg : (a k n : ℕ) (us : List Update) → UpdatesIn a k us → a ≤ n → writes_reg n us ≡ false
free_reg a k n [] h le = refl
free_reg a k n (u ∷ us) h le = ap (λ b. b || writes_reg n us) (other u.target h.0) ∙ free_reg a k n us h.1 le
  where
    other : (t : Target) → IsTargetIn a k t → is_target n t ≡ false
    other (Reg j) i = let lt : j < a = i in grind (arith, lt, le)
    other (Cell j x) i = refl

pub free_mem : (a k n : ℕ) (us : List Update) → UpdatesIn a k us → k ≤ n → writes_mem n us ≡ false
free_mem a k n [] h le = refl
free_mem a k n (u ∷ us) h le = ap (λ b. b || writes_mem n us) (other u.target h.0) ∙ free_mem a k n us h.1 le
  where
    other : (t : Target) → IsTargetIn a k t → is_mem_target n t ≡ false
    other (Reg j) i = refl
    other (Cell j x) i = let lt : j < k = i.0 in grind (arith, lt, le)

-- one update more leaves what it doesn't write
pub last_reg : (n : ℕ) (us : List Update) (u : Update) → writes_reg n us ≡ false → is_target n u.target ≡ false → writes_reg n (us ++ u ∷ []) ≡ false
last_reg n [] u h k = or_both (is_target n u.target) false k refl
last_reg n (w ∷ us) u h k = or_both (is_target n w.target) (writes_reg n (us ++ u
    ∷ [])) (or_first (is_target n w.target) (writes_reg n us) h)
    (last_reg n us u (or_second (is_target n w.target) (writes_reg n us) h) k)

pub last_mem : (n : ℕ) (us : List Update) (u : Update) → writes_mem n us ≡ false → is_mem_target n u.target ≡ false → writes_mem n (us ++ u ∷ []) ≡ false
last_mem n [] u h k = or_both (is_mem_target n u.target) false k refl
last_mem n (w ∷ us) u h k = or_both (is_mem_target n w.target) (writes_mem n (us ++ u
    ∷ [])) (or_first (is_mem_target n w.target) (writes_mem n us) h)
    (last_mem n us u (or_second (is_mem_target n w.target) (writes_mem n us) h) k)

-- an update of what is free
pub apart_last : (us : List Update) (u : Update) → Apart us → IsFree us u.target → Apart (us ++ u ∷ [])
apart_last [] u h f = (none u.target, tt)
  where
    none : (t : Target) → IsFree [] t
    none (Reg n) = refl
    none (Cell k a) = refl
apart_last (w ∷ us) u h f = (more w.target h.0 (λ n e. by_reg n u.target f e) (λ k e. by_mem k u.target f e), apart_last us u h.1 (rest u.target f))
  where
    by_reg : (n : ℕ) (t : Target) → IsFree (w ∷ us) t → w.target ≡ Reg n → is_target n t ≡ false
    by_reg n (Reg j) f e = let q : is_target j (Reg n) ≡ false = ap (is_target j) (sym e) ∙ or_first (is_target j w.target) (writes_reg j us) f in grind (arith, q)
    by_reg n (Cell j a) f e = refl

    by_mem : (k : ℕ) (t : Target) → IsFree (w ∷ us) t → ((a : ℕ) → w.target ≡ Cell k a → is_mem_target k t ≡ false)
    by_mem k (Reg j) f a e = refl
    by_mem k (Cell j b) f a e = let q : is_mem_target j (Cell k a) ≡ false = ap (is_mem_target j) (sym e) ∙ or_first (is_mem_target j w.target) (writes_mem j us) f in grind (arith, q)

    rest : (t : Target) → IsFree (w ∷ us) t → IsFree us t
    rest (Reg n) f = or_second (is_target n w.target) (writes_reg n us) f
    rest (Cell k a) f = or_second (is_mem_target k w.target) (writes_mem k us) f

    with_target : (t : Target) → w.target ≡ t → IsFree us t
        → ((n : ℕ) → t ≡ Reg n → is_target n u.target ≡ false)
        → ((k : ℕ) (a : ℕ) → t ≡ Cell k a → is_mem_target k u.target ≡ false)
        → IsFree (us ++ u ∷ []) t
    with_target (Reg n) e g r s = last_reg n us u g (r n refl)
    with_target (Cell k a) e g r s = last_mem k us u g (s k a refl)

    more : (t : Target) → IsFree us t → ((n : ℕ) → w.target ≡ Reg n
        → is_target n u.target ≡ false) → ((k : ℕ) → ((a : ℕ) → w.target ≡ Cell k a
        → is_mem_target k u.target ≡ false)) → IsFree (us ++ u ∷ []) w.target
    more t g r s = with_target w.target refl h.0 (λ n e. r n e) (λ k a e. s k a e)
