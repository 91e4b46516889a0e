-- The words of holds, offsets and parts, step by step.
use Rattle.std.proofs.Common.{◌≡◌, ◌∙◌, ℕ, zero, suc, ◌-◌, true, false, cond, List, Some, None, refl, ap, sym, arith}
use Rattle.std.specs.Prelude.{ℤ, pos, negsuc, ◌<ℤ◌}
use Rattle.std.proofs.lemmas.Int.{ints}
use Rattle.stream_graph.specs.declared.node.Node.{Node}
use Rattle.stream_equations.specs.Equations.{Values, enabled, first_word}
use Rattle.kernel_words.specs.declared.streams.Streams.{Streams}
use Rattle.kernel_words.specs.Streams.{values_of}
use Rattle.kernel_words.specs.Sides.{hold_at}

pub hold_on : (nodes : List Node) (val : Values) (n t : ℕ) → enabled nodes val n t ≡ true → first_word nodes val n (pos t) ≡ hold_at nodes val n t
hold_on nodes val n zero e = sym (ap (λ b. cond b (first_word nodes val n (pos 0)) (Some 0)) e)
hold_on nodes val n (suc t) e = sym (ap (λ b. cond b (first_word nodes val n (pos (suc t))) (hold_at nodes val n t)) e)

pub hold_first : (nodes : List Node) (val : Values) (n t : ℕ) → t ≡ 0 → enabled nodes val n t ≡ false → Some 0 ≡ hold_at nodes val n t
hold_first nodes val n zero z e = sym (ap (λ b. cond b (first_word nodes val n (pos 0)) (Some 0)) e)
hold_first nodes val n (suc t) z e = absurd (omega (arith, z))

pub hold_kept : (nodes : List Node) (val : Values) (n t : ℕ) → (t ≡ 0 → ⊥) → enabled nodes val n t ≡ false
    → hold_at nodes val n (t - 1) ≡ hold_at nodes val n t
hold_kept nodes val n zero z e = absurd (z refl)
hold_kept nodes val n (suc t) z e =
    let back : suc t - 1 ≡ t = omega arith in
    ap (hold_at nodes val n) back ∙ sym (ap (λ b. cond b (first_word nodes val n (pos (suc t))) (hold_at nodes val n t)) e)

pub before_run : (streams : Streams) (n : ℕ) (t : ℤ) → t <ℤ pos 0 → None ≡ values_of streams n t
before_run streams n (pos t) h = absurd (omega (arith, ints, h))
before_run streams n (negsuc t) h = refl

pub one_back : (t : ℕ) → (t ≡ 0 → ⊥) → t ≡ suc (t - 1)
one_back zero z = absurd (z refl)
one_back (suc t) z = omega arith
