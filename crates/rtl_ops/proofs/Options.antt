-- The options of a multiplexer.
use Rattle.std.proofs.Common.{◌≡◌, ◌≢◌, ℕ, zero, suc, ◌+◌, ◌-◌, ◌<◌, ◌≤◌, Bool, true, false, ◌==◌}
use Rattle.std.proofs.Common.{if◌then◌else◌, List, [], ◌∷◌, Some, IfSome, All, map, take, drop}
use Rattle.std.proofs.Common.{length, get_or, refl, sym, ap, ◌∙◌, subst, arith, ⊎_elim}
use Rattle.std.specs.Prelude.{slice_get}
use Rattle.std.proofs.lemmas.Option.{slice_get-get_or, get_or_from_slice_get}
use Rattle.std.proofs.lemmas.List.{take_all}
use Rattle.std.proofs.lemmas.Bool.{cases_eq}
use Rattle.std.proofs.lemmas.Bool.Decides.{nat_tests}
use Rattle.rtl_ir.specs.declared.design.Module.{Module}
use Rattle.rtl_ir.specs.Value.{Family, Contents, bit}
use Rattle.rtl_ir.specs.Grow.{Holds}
use Rattle.rtl_build.specs.declared.signal.Signal.{Signal}
use Rattle.rtl_build.specs.Signals.{HasSignal, Makes}
use Rattle.rtl_build.proofs.Growing.{signal}

-- a signal has the value of the option that the selector numbers, where that is one of the first so many
abbrev pub Prefers : Module → List ℕ → Signal → ℕ → Signal → Type 0
Prefers m options selector j r = (c : Contents) (v : Family) → Holds m c v → (i n : ℕ) → slice_get options i ≡ Some n → i < j → v selector.net ≡ i → v r.net ≡ v n

pub prefers_first : (m : Module) (options : List ℕ) (selector : Signal) (w : ℕ) → Prefers m options selector 1 (record { net = get_or options 0 0; width = w })
prefers_first m [] selector w c v h i n at lt e = absurd (cc)
prefers_first m (o ∷ options) selector w c v h zero n at lt e = let same : o ≡ n = cc in ap v same
prefers_first m (o ∷ options) selector w c v h (suc i) n at lt e = absurd (omega arith)

pub prefers_more : (m n : Module) (options : List ℕ) (selector r s : Signal) (j o k w : ℕ) → Prefers m options selector j r
    → Makes m n k w (λ v. if v selector.net == j then v o else v r.net) s → slice_get options j ≡ Some o → Prefers n options selector (j + 1) s
prefers_more m n options selector r s j o k w before made at c v h i x found lt e =
    made.value c v h
    ∙ ⊎_elim
    (λ (here : i ≡ j).
    let test : (v selector.net == j) ≡ true = grind (arith, nat_tests) in
    let there : slice_get options j ≡ Some x = subst (λ y. slice_get options y ≡ Some x) here found in
    let same : o ≡ x = cc in
    ap (λ b. if b then v o else v r.net) test ∙ ap v same)
    (λ (apart : i ≢ j).
    let test : (v selector.net == j) ≡ false = grind (arith, nat_tests) in
    ap (λ b. if b then v o else v r.net) test ∙ before c v (made.before c v h) i x found (omega arith) e)
    (cases_eq i j)

mapped : (v : Family) (options : List ℕ) (i x : ℕ) → ((n : ℕ) → slice_get options i ≡ Some n → x ≡ v n) → IfSome (slice_get (map v options) i) (λ y. x ≡ y)
mapped v [] i x h = tt
mapped v (o ∷ options) zero x h = h o refl
mapped v (o ∷ options) (suc i) x h = mapped v options i x h

found_within : (options : List ℕ) (i n : ℕ) → slice_get options i ≡ Some n → i < length options
found_within [] i n e = absurd (cc)
found_within (o ∷ options) zero n e = omega arith
found_within (o ∷ options) (suc i) n e = let lt = found_within options i n e in omega arith

pub prefers_all : (m : Module) (options : List ℕ) (selector r : Signal) (j : ℕ)
    → Prefers m options selector j r → length options ≤ j → (c : Contents) (v : Family)
    → Holds m c v → IfSome (slice_get (map v options) (v selector.net)) (λ y. v r.net ≡ y)
prefers_all m options selector r j p le c v h = mapped v options (v selector.net) (v r.net)
    (λ n at. p c v h (v selector.net) n at (let lt = found_within options
    (v selector.net) n at in omega arith) refl)

-- a choice by one bit of a test
pub by_bit : (k : ℕ) (b : Bool) (x y : ℕ) → k ≡ bit b → (if k == 1 then x else y) ≡ (if b then x else y)
by_bit k true x y e = rw e refl
by_bit k false x y e = rw e refl

-- the options after the first, as a loop goes over them
abbrev pub rest_of : List ℕ → List ℕ
rest_of options = take (length options - 1) (drop 1 options)

pub rest_is : (o : ℕ) (options : List ℕ) → rest_of (o ∷ options) ≡ options
rest_is o options = take_all (suc (length options) - 1) options (omega arith)

pub length-rest : (options : List ℕ) → length (rest_of options) ≡ length options - 1
length-rest [] = refl
length-rest (o ∷ options) = ap length (rest_is o options) ∙ omega arith

pub option_at : (options : List ℕ) (k : ℕ) → k < length (rest_of options) → slice_get options (k + 1) ≡ Some (get_or (rest_of options) k 0)
option_at [] k h = absurd (omega (arith, length-rest []))
option_at (o ∷ options) k h =
    let e = rest_is o options in
    let lt : k < length options = subst (λ l. k < length l) e h in
    let next : k + 1 ≡ suc k = omega arith in
    ap (slice_get (o ∷ options)) next ∙ slice_get-get_or options k 0 lt ∙ ap (λ (l : List ℕ). Some (get_or l k 0)) (sym e)

pub signal_at : (m : Module) (options : List ℕ) (w i n : ℕ)
    → All (λ x. HasSignal m (record { net = x; width = w })) options
    → slice_get options i ≡ Some n → HasSignal m (record { net = n; width = w })
signal_at m options w i n all at =
    let lt = found_within options i n at in
    subst (λ x. HasSignal m (record { net = x; width = w })) (get_or_from_slice_get options i n 0 at) (all i 0 lt)

-- an item's number in a list, whatever stands for what lies past it
pub default_free : (xs : List ℕ) (i d e : ℕ) → i < length xs → get_or xs i d ≡ get_or xs i e
default_free [] i d e h = absurd (omega arith)
default_free (x ∷ xs) zero d e h = refl
default_free (x ∷ xs) (suc i) d e h = default_free xs i d e (omega arith)

-- a signal made of a net of a list
pub signal_is : (nets : List ℕ) (i n w : ℕ) (s : Signal) → i < length nets → n ≡ get_or nets i n → s ≡ signal n w → s ≡ signal (get_or nets i 0) w
signal_is nets i n w s h at e = e ∙ ap (λ k. signal k w) (at ∙ default_free nets i n 0 h)
