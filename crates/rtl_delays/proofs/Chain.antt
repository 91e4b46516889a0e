-- Delays in larger modules, and one after another.
use Rattle.std.proofs.Common.{◌≡◌, ℕ, zero, suc, ◌+◌, ◌-◌, ◌≤◌, Bool, true, false, cond, leb, eqb, List, [], ◌∷◌, Option, None, refl, sym, subst, arith}
use Rattle.std.proofs.lemmas.Bool.{leb-true, le-leb}
use Rattle.rtl_ir.specs.declared.design.Module.{Module}
use Rattle.rtl_ir.specs.Value.{Family, Contents}
use Rattle.rtl_ir.specs.Grow.{Grows}
use Rattle.rtl_ir.proofs.Grow.{holds_before}
use Rattle.rtl_delays.specs.Delays.{IsWord}
use Rattle.rtl_delays.specs.Steps.{IsSound, Steps}
use Rattle.rtl_delays.specs.Delays.{Delays, IsDelay, IsTap, Shows, of_net}
use Rattle.rtl_delays.proofs.Moves.{steps_before}

-- a delay stays one
pub delay_kept : (m n : Module) (run reset : ℕ) (from : Family → ℕ) (to d : ℕ) → Grows m n → IsSound m → IsDelay m run reset from to d → IsDelay n run reset from to d
delay_kept m n run reset from to d g s h f c v vs e = h f c v vs (steps_before m n g s c (v ∷ vs) e)

-- so does a net that shows a value, as it stands or later
pub tap_kept : (m n : Module) (run reset : ℕ) (from : Family → ℕ) (to d : ℕ) → Grows m n → IsSound m → IsTap m run reset from to d → IsTap n run reset from to d
tap_kept m n run reset from to zero g s h = λ c v k. h c v (holds_before m n g s.range c v k)
tap_kept m n run reset from to (suc d) g s h = delay_kept m n run reset from to (suc d) g s h

-- the words of a net that is d behind
abbrev pub behind : (ℕ → Option ℕ) → ℕ → ℕ → Option ℕ
behind f d p = cond (leb d p) (f (p - d)) None

shown_behind : (f : ℕ → Option ℕ) (d p x : ℕ) → (d ≤ p → IsWord (f (p - d)) x) → IsWord (behind f d p) x
shown_behind f d p x h = by_test (leb d p) refl
  where
    by_test : (b : Bool) → leb d p ≡ b → IsWord (cond b (f (p - d)) None) x
    by_test true e = h (leb-true d p e)
    by_test false e = tt

from_behind : (f : ℕ → Option ℕ) (d e p x : ℕ) → (e ≤ p → IsWord (behind f d (p - e)) x) → d + e ≤ p → IsWord (f (p - (d + e))) x
from_behind f d e p x h le =
    let P : Bool → Type 0 = λ b. IsWord (cond b (f ((p - e) - d)) None) x in
    let Q : ℕ → Type 0 = λ n. IsWord (f n) x in
    subst Q (omega arith) (subst P (le-leb d (p - e) (omega arith)) (h (omega arith)))

both : (run : ℕ) (a : Family → ℕ) (b c : ℕ) (f : ℕ → Option ℕ) (d e p : ℕ) (vs : List Family) → Delays run a b f d p vs → Delays run (of_net b) c (behind f d) e p vs → Delays run a c f (d + e) p vs
both run a b c f d e p [] h k = tt
both run a b c f d e p (v ∷ vs) h k = (
  from_behind f d e p (v c) k.0,
  λ known. both run a b c f d e (cond (eqb (v run) 1) (suc p) p) vs (h.1 known) (k.1 (λ on. shown_behind f d p (v b) h.0)),
)

-- a delay after a delay
pub delay_on : (m : Module) (run reset : ℕ) (a : Family → ℕ) (b c d e : ℕ) → IsDelay m run reset a b d → IsDelay m run reset (of_net b) c e → IsDelay m run reset a c (d + e)
delay_on m run reset a b c d e h k f w v vs s r n = both run a b c f d e 0 vs (h f w v vs s r n) (k (behind f d) w v vs s r n)

shown_runs : (m : Module) (run : ℕ) (a : Family → ℕ) (b c : ℕ) (f : ℕ → Option ℕ) (d p : ℕ) (w : Contents) (vs : List Family) → Shows m a b → Steps m w vs
    → Delays run (of_net b) c f d p vs → Delays run a c f d p vs
shown_runs m run a b c f d p w [] s t h = tt
shown_runs m run a b c f d p w (v ∷ vs) s t h = (
  h.0,
  λ known. shown_runs m run a b c f d (cond (eqb (v run) 1) (suc p) p) t.0 vs s t.1.1 (h.1 (λ on. subst (IsWord (f p)) (sym (s w v t.1.0.holds)) (known on))),
)

-- a delay of a net is one of the value that the net shows
pub delay_shown : (m : Module) (run reset : ℕ) (a : Family → ℕ) (b c d : ℕ) → Shows m a b → IsDelay m run reset (of_net b) c d → IsDelay m run reset a c d
delay_shown m run reset a b c d s h f w v vs t e none = shown_runs m run a b c f d 0 t.0 vs s t.1.1 (h f w v vs t e none)

-- a delay after a net that shows a value, as it stands or later
pub tap_on : (m : Module) (run reset : ℕ) (a : Family → ℕ) (b c d e : ℕ) → IsTap m run reset a b d → IsDelay m run reset (of_net b) c e
    → IsDelay m run reset a c (d + e)
tap_on m run reset a b c zero e t h = let q : e ≡ 0 + e = omega arith in subst (IsDelay m run reset a c) q (delay_shown m run reset a b c e t h)
tap_on m run reset a b c (suc d) e t h = delay_on m run reset a b c (suc d) e t h
