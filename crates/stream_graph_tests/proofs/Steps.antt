-- The calls of the kernel, one after another.
use Rattle.std.proofs.Common.{◌≡◌, ℕ, [], ◌∷◌, refl, sym, subst}
use Rattle.std.specs.Prelude.{None, negsuc, pos}
use Rattle.fix_arith.specs.declared.types.StreamType.TheVariants.{UInt}
use Rattle.fix_arith.specs.declared.types.RoundMode.TheVariants.{ToNearEven}
use Rattle.mx_bits.specs.declared.op.Op.TheVariants.{Add}
use Rattle.kernel_calls.specs.declared.call.Call.{Call}
use Rattle.kernel_calls.specs.declared.call.Call.TheVariants as C
use Rattle.kernel_calls.specs.Laws.{Received, HasRoom}
use Rattle.stream_graph_tests.specs.Sum3.{sum3}

abbrev pub sum : ℕ → ℕ → Call
sum a b = C.Operation Add ToNearEven 0 (a ∷ b ∷ []) (UInt 32)

module _ {S : Type 0} (has_room : S → Call → Type 0) (receives : S → Call → S → Type 0) where
  -- what was received before the last call
  pub record Calls (s0 s1 s2 s3 s4 s5 : S) (x before two after three : ℕ) : Type 0 where
    pub x_is : x ≡ 0
    pub before_is : before ≡ 1
    pub two_is : two ≡ 2
    pub after_is : after ≡ 3
    pub three_is : three ≡ 4
    pub first : receives s0 (C.Input (120 ∷ []) (UInt 32) None) s1
    pub second : receives s1 (C.Offset x (negsuc 0) (UInt 32)) s2
    pub third : receives s2 (sum before x) s3
    pub fourth : receives s3 (C.Offset x (pos 1) (UInt 32)) s4
    pub fifth : receives s4 (sum two after) s5

  pub received : (s0 s1 s2 s3 s4 s5 s6 : S) (x before two after three : ℕ) → Calls s0 s1 s2 s3 s4 s5 x before two after three →
      receives s5 (C.Output (121 ∷ []) three None (UInt 32)) s6 → Received receives s0 sum3 s6
  received s0 s1 s2 s3 s4 s5 s6 x before two after three c last = (
    s1,
    c.first,
    (
      s2,
      subst (λ n. receives s1 (C.Offset n (negsuc 0) (UInt 32)) s2) c.x_is c.second,
      (
        s3,
        subst (λ n. receives s2 (sum 1 n) s3) c.x_is (subst (λ n. receives s2 (sum n x) s3) c.before_is c.third),
        (
          s4,
          subst (λ n. receives s3 (C.Offset n (pos 1) (UInt 32)) s4) c.x_is c.fourth,
          (
            s5,
            subst (λ n. receives s4 (sum 2 n) s5) c.after_is (subst (λ n. receives s4 (sum n after) s5) c.two_is c.fifth),
            (s6, subst (λ n. receives s5 (C.Output (121 ∷ []) n None (UInt 32)) s6) c.three_is last, refl),
          ),
        ),
      ),
    ),
  )

  pub room : (s0 s1 s2 s3 s4 s5 : S) (x before two after three : ℕ) → Calls s0 s1 s2 s3 s4 s5 x before two after three →
      HasRoom has_room receives s0 sum3 → has_room s5 (C.Output (121 ∷ []) three None (UInt 32))
  room s0 s1 s2 s3 s4 s5 x before two after three c r =
      let r1 = r.1 s1 c.first in
      let r2 = r1.1 s2 (subst (λ n. receives s1 (C.Offset n (negsuc 0) (UInt 32)) s2) c.x_is c.second) in
      let r3 = r2.1 s3 (subst (λ n. receives s2 (sum 1 n) s3) c.x_is (subst (λ n. receives s2 (sum n x) s3) c.before_is c.third)) in
      let r4 = r3.1 s4 (subst (λ n. receives s3 (C.Offset n (pos 1) (UInt 32)) s4) c.x_is c.fourth) in
      let r5 = r4.1 s5 (subst (λ n. receives s4 (sum 2 n) s5) c.after_is (subst (λ n. receives s4 (sum n after) s5) c.two_is c.fifth)) in
      subst (λ n. has_room s5 (C.Output (121 ∷ []) n None (UInt 32))) (sym c.three_is) r5.0
