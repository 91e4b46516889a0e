-- Registers of states that nothing writes yet.
use Rattle.std.proofs.Common.{◌≡◌, ◌+◌, ◌≤◌, ◌<◌, ◌||◌, ◌∷◌, ◌++◌, ◌∙◌}
use Rattle.std.proofs.Common.{ℕ, zero, suc, Bool, true, false, cond, eqb, List, [], length, get_or, Option, Some, None, refl, sym, ap, subst, arith}
use Rattle.std.proofs.lemmas.Bool.{eqb-true}
use Rattle.rtl_ir.specs.declared.design.Module.{Module}
use Rattle.rtl_build.specs.declared.signal.Signal.{Signal}
use Rattle.rtl_delays.specs.Steps.{writes_reg}
use Rattle.rtl_delays.specs.Extends.{Extends}
use Rattle.rtl_delays.proofs.Lists.{or_first, or_second}
use Rattle.stream_graph.specs.declared.node.Node.{Node}
use Rattle.kernel_states.specs.States.{IsState, AreFree, is_state_of}
use Rattle.kernel_states.specs.Starting.{AddsRegistersOf}

pub state_kept : {m n : Module} → Extends m n → (nodes : List Node) (k : ℕ) (s : Option Signal) → IsState m nodes k s → IsState n nodes k s
state_kept x nodes k None h = h
state_kept x nodes k (Some s) h =
    (h.0, record { signal = x.keeps s h.1.signal; register = x.registers s h.1.register; width = h.1.width })

-- ---- numbers that rise

pub frees_on : (m n : Module) → n.updates ≡ m.updates → (k : ℕ) (states : List (Option Signal)) (nets : ℕ) → AreFree m k states nets
    → AreFree n k states nets
frees_on m n e k [] nets h = h
frees_on m n e k (None ∷ states) nets h = frees_on m n e k states nets h
frees_on m n e k (Some s ∷ states) nets h = (h.0, ap (writes_reg s.net) e ∙ h.1, frees_on m n e (s.net + 1) states nets h.2)

pub frees_lower : (m : Module) (a k : ℕ) (states : List (Option Signal)) (nets : ℕ) → a ≤ k → AreFree m k states nets → AreFree m a states nets
frees_lower m a k [] nets le h = omega arith
frees_lower m a k (None ∷ states) nets le h = frees_lower m a k states nets le h
frees_lower m a k (Some s ∷ states) nets le h = (let x = h.0 in omega (arith, x, le), h.1, h.2)

pub frees_both :
    (m : Module) (a : ℕ) (xs ys : List (Option Signal)) (mid nets : ℕ) → AreFree m a xs mid → AreFree m mid ys nets → AreFree m a (xs ++ ys) nets
frees_both m a [] ys mid nets h g = frees_lower m a mid ys nets h g
frees_both m a (None ∷ xs) ys mid nets h g = frees_both m a xs ys mid nets h g
frees_both m a (Some s ∷ xs) ys mid nets h g = (h.0, h.1, frees_both m (s.net + 1) xs ys mid nets h.2 g)

-- ---- which net is one of them

or_assoc : (a b c : Bool) → a || (b || c) ≡ (a || b) || c
or_assoc true b c = refl
or_assoc false b c = refl

pub state_joined : (xs ys : List (Option Signal)) (n : ℕ) → is_state_of (xs ++ ys) n ≡ is_state_of xs n || is_state_of ys n
state_joined [] ys n = refl
state_joined (None ∷ xs) ys n = state_joined xs ys n
state_joined (Some s ∷ xs) ys n =
    ap (λ b. eqb s.net n || b) (state_joined xs ys n) ∙ or_assoc (eqb s.net n) (is_state_of xs n) (is_state_of ys n)

pub registers_both :
    (l m n : Module) (xs ys : List (Option Signal)) → AddsRegistersOf l m xs → AddsRegistersOf m n ys → AddsRegistersOf l n (xs ++ ys)
registers_both l m n xs ys f g k h o =
    let both = sym (state_joined xs ys k) ∙ o in
    f k (g k h (or_second (is_state_of xs k) (is_state_of ys k) both)) (or_first (is_state_of xs k) (is_state_of ys k) both)

-- ---- the states so far

item_before : {A : Type 0} (xs ys : List A) (j : ℕ) (d : A) → j < length xs → get_or (xs ++ ys) j d ≡ get_or xs j d
item_before [] ys j d h = absurd (omega arith)
item_before (x ∷ xs) ys zero d h = refl
item_before (x ∷ xs) ys (suc j) d h = item_before xs ys j d (omega arith)

item_last : {A : Type 0} (xs : List A) (y d : A) → get_or (xs ++ y ∷ []) (length xs) d ≡ y
item_last [] y d = refl
item_last (x ∷ xs) y d = item_last xs y d

-- one state more
pub states_more :
    (m n : Module) (nodes : List Node) (states : List (Option Signal)) (k : ℕ) (s : Option Signal) → length states ≡ k → Extends m n
    → ((j : ℕ) → j < k → IsState m nodes j (get_or states j None)) → IsState n nodes k s → (j : ℕ) → j < k + 1
    → IsState n nodes j (get_or (states ++ s ∷ []) j None)
states_more m n nodes states k s size x each is j lt = by_test (eqb j k) refl
  where
    by_test : (b : Bool) → eqb j k ≡ b → IsState n nodes j (get_or (states ++ s ∷ []) j None)
    by_test true e =
        let same : j ≡ k = eqb-true j k e in
        let last : length states ≡ j = size ∙ sym same in
        subst (IsState n nodes j) (sym (ap (λ i. get_or (states ++ s ∷ []) i None) (sym last) ∙ item_last states s None))
        (subst (λ i. IsState n nodes i s) (sym same) is)
    by_test false e =
        let below : j < k = grind (arith, lt, e) in
        subst (IsState n nodes j) (sym (item_before states (s ∷ []) j None (omega (arith, below, size))))
        (state_kept x nodes j (get_or states j None) (each j below))

-- ---- what there is of a node that keeps a state, and of another one

pub none_of : (b : Bool) (x : ℕ) → b ≡ false → cond b x 0 ≡ 0
none_of b x e = ap (λ t. cond t x 0) e

pub one_of : (b : Bool) (x : ℕ) → b ≡ true → cond b x 0 ≡ x
one_of b x e = ap (λ t. cond t x 0) e

-- one number more
pub each_more : (P : ℕ → Type 0) (i : ℕ) → ((j : ℕ) → j < i → P j) → P i → (j : ℕ) → j < i + 1 → P j
each_more P i h x j lt = by_test (eqb j i) refl
  where
    by_test : (b : Bool) → eqb j i ≡ b → P j
    by_test true e = subst P (sym (eqb-true j i e)) x
    by_test false e = h j (grind (arith, lt, e))
