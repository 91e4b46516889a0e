-- The nets of what is given are those of input ports, one port after another.
use Rattle.std.proofs.Common.{◌≡◌, ◌≢◌, ℕ, suc, ◌+◌, ◌*◌, ◌<◌, ◌≤◌, Bool, true, false, List, [], ◌∷◌, ◌++◌, length, Some, refl, sym, ◌∙◌, subst, arith}
use Rattle.std.specs.Prelude.{slice_get}
use Rattle.rtl_ir.specs.declared.design.Port.{Port}
use Rattle.rtl_ir.specs.declared.interface.KernelPorts.{KernelPorts}
use Rattle.rtl_ir.specs.declared.interface.ScalarPort.{ScalarPort}
use Rattle.rtl_ir.specs.declared.interface.StreamPorts.{StreamPorts}
use Rattle.rtl_ir.specs.Typed.{is_input}
use Rattle.verilog_sim.specs.declared.offer.Offer.{Offer}
use Rattle.verilog_sim.specs.Gifts.{Every, AreApart, kernel_gifts, scalar_gifts, input_gifts, output_gifts}
use Rattle.verilog_sim.proofs.Evaluated.{input_of}
use Rattle.verilog_sim.proofs.Written.{Apart}

-- the port of this number is an input of this net
pub record InputAt (ports : List Port) (i n : ℕ) : Type 0 where
  pub port : Port
  pub at : slice_get ports i ≡ Some port
  pub input : port.output ≡ false
  pub net : port.net ≡ n

-- from port a on, and before port b
pub data Rising (ports : List Port) : ℕ → List (ℕ × ℕ) → ℕ → Type 0 where
  none : {a b : ℕ} → a ≤ b → Rising ports a [] b
  next : {a b : ℕ} {g : ℕ × ℕ} {gs : List (ℕ × ℕ)} (i : ℕ) → a ≤ i → InputAt ports i g.0 → Rising ports (i + 1) gs b → Rising ports a (g ∷ gs) b

module _ (ports : List Port) where
  earlier : {a b c : ℕ} {gs : List (ℕ × ℕ)} → a ≤ b → Rising ports b gs c → Rising ports a gs c
  earlier le (none e) = none (omega (arith, le, e))
  earlier le (next i e at r) = next i (omega (arith, le, e)) at r

  sooner : {a b c : ℕ} {gs : List (ℕ × ℕ)} → b ≤ c → Rising ports a gs b → Rising ports a gs c
  sooner le (none e) = none (omega (arith, le, e))
  sooner le (next i e at r) = next i e at (sooner le r)

  pub rising_append : {a b c : ℕ} {gs hs : List (ℕ × ℕ)} → Rising ports a gs b → Rising ports b hs c → Rising ports a (gs ++ hs) c
  rising_append (none e) s = earlier e s
  rising_append (next i e at r) s = next i e at (rising_append r s)

  -- another port has another net
  others : (apart : AreApart ports) (k : ℕ) (p : Port) → slice_get ports k ≡ Some p → {a b : ℕ} {gs : List (ℕ × ℕ)}
      → k < a → Rising ports a gs b → Every (λ (h : ℕ × ℕ). h.0 ≢ p.net) gs
  others apart k p at lt (none e) = tt
  others apart k p at lt (next i e q r) = (
    (λ same. (let z : k ≡ i = apart k i p q.port at q.at (sym same ∙ sym q.net) in absurd (omega (arith, z, lt, e)))),
    others apart k p at (omega (arith, lt, e)) r,
  )

  pub rising_apart : AreApart ports → {a b : ℕ} {gs : List (ℕ × ℕ)} → Rising ports a gs b → Apart gs
  rising_apart apart (none e) = tt
  rising_apart apart (next {gs = gs} i e q r) = (
    subst (λ (n : ℕ). Every (λ (h : ℕ × ℕ). h.0 ≢ n) gs) q.net
        (others apart i q.port q.at (omega arith) r),
    rising_apart apart r,
  )

  pub rising_inputs : {a b : ℕ} {gs : List (ℕ × ℕ)} → Rising ports a gs b → Every (λ (g : ℕ × ℕ). is_input ports g.0 ≡ true) gs
  rising_inputs (none e) = tt
  rising_inputs (next i e q r) = (subst (λ (n : ℕ). is_input ports n ≡ true) q.net (input_of ports i q.port q.at q.input), rising_inputs r)

  pub rising_within : (n : ℕ) → ((i : ℕ) (p : Port) → slice_get ports i ≡ Some p → p.net < n)
      → {a b : ℕ} {gs : List (ℕ × ℕ)} → Rising ports a gs b → Every (λ (g : ℕ × ℕ). g.0 < n) gs
  rising_within n below (none e) = tt
  rising_within n below (next i e q r) = (subst (λ (k : ℕ). k < n) q.net (below i q.port q.at), rising_within n below r)

  pub rising_kernels :
      (steady : List ℕ) (holds : List Bool) (j a : ℕ) (xs : List KernelPorts)
      → ((k : ℕ) (x : KernelPorts) → slice_get xs k ≡ Some x → InputAt ports (a + 2 * k) x.hold × InputAt ports (a + 2 * k + 1) x.ticks)
      → Rising ports a (kernel_gifts steady holds j xs) (a + 2 * length xs)
  rising_kernels steady holds j a [] f = none (omega arith)
  rising_kernels steady holds j a (x ∷ xs) f =
      let here = f 0 x refl in
      let first : a + 2 * 0 ≡ a = omega arith in
      next a (omega arith) (subst (λ (i : ℕ). InputAt ports i x.hold) first here.0)
      (next (a + 1) (omega arith) (subst (λ (i : ℕ). InputAt ports (i + 1) x.ticks) first here.1)
      (earlier (omega arith) (sooner (omega arith) (rising_kernels steady holds (j + 1) (a + 2) xs rest))))
    where
      rest : (k : ℕ) (y : KernelPorts) → slice_get xs k ≡ Some y → InputAt ports (a + 2 + 2 * k) y.hold × InputAt ports (a + 2 + 2 * k + 1) y.ticks
      rest k y at =
          let e : a + 2 * suc k ≡ a + 2 + 2 * k = omega arith in
          subst (λ (i : ℕ). InputAt ports i y.hold × InputAt ports (i + 1) y.ticks) e (f (suc k) y at)

  pub rising_scalars :
      (steady : List ℕ) (j a : ℕ) (xs : List ScalarPort)
      → ((k : ℕ) (x : ScalarPort) → slice_get xs k ≡ Some x → InputAt ports (a + k) x.net)
      → Rising ports a (scalar_gifts steady j xs) (a + length xs)
  rising_scalars steady j a [] f = none (omega arith)
  rising_scalars steady j a (x ∷ xs) f =
      let first : a + 0 ≡ a = omega arith in
      next a (omega arith) (subst (λ (i : ℕ). InputAt ports i x.net) first (f 0 x refl))
      (sooner (omega arith) (rising_scalars steady (j + 1) (a + 1) xs rest))
    where
      rest : (k : ℕ) (y : ScalarPort) → slice_get xs k ≡ Some y → InputAt ports (a + 1 + k) y.net
      rest k y at = let e : a + suc k ≡ a + 1 + k = omega arith in subst (λ (i : ℕ). InputAt ports i y.net) e (f (suc k) y at)

  pub rising_inputs_of :
      (offers : List Offer) (j a : ℕ) (xs : List StreamPorts)
      → ((k : ℕ) (x : StreamPorts) → slice_get xs k ≡ Some x → InputAt ports (a + 3 * k) x.word × InputAt ports (a + 3 * k + 1) x.valid)
      → Rising ports a (input_gifts offers j xs) (a + 3 * length xs)
  rising_inputs_of offers j a [] f = none (omega arith)
  rising_inputs_of offers j a (x ∷ xs) f =
      let here = f 0 x refl in
      let first : a + 3 * 0 ≡ a = omega arith in
      next a (omega arith) (subst (λ (i : ℕ). InputAt ports i x.word) first here.0)
      (next (a + 1) (omega arith) (subst (λ (i : ℕ). InputAt ports (i + 1) x.valid) first here.1)
      (earlier (omega arith) (sooner (omega arith) (rising_inputs_of offers (j + 1) (a + 3) xs rest))))
    where
      rest : (k : ℕ) (y : StreamPorts) → slice_get xs k ≡ Some y → InputAt ports (a + 3 + 3 * k) y.word × InputAt ports (a + 3 + 3 * k + 1) y.valid
      rest k y at =
          let e : a + 3 * suc k ≡ a + 3 + 3 * k = omega arith in
          subst (λ (i : ℕ). InputAt ports i y.word × InputAt ports (i + 1) y.valid) e (f (suc k) y at)

  pub rising_outputs_of :
      (accepts : List Bool) (j a : ℕ) (ys : List StreamPorts)
      → ((k : ℕ) (y : StreamPorts) → slice_get ys k ≡ Some y → InputAt ports (a + 3 * k + 2) y.ready)
      → Rising ports a (output_gifts accepts j ys) (a + 3 * length ys)
  rising_outputs_of accepts j a [] f = none (omega arith)
  rising_outputs_of accepts j a (y ∷ ys) f =
      let first : a + 3 * 0 + 2 ≡ a + 2 = omega arith in
      next (a + 2) (omega arith) (subst (λ (i : ℕ). InputAt ports i y.ready) first (f 0 y refl))
      (earlier (omega arith) (sooner (omega arith) (rising_outputs_of accepts (j + 1) (a + 3) ys rest)))
    where
      rest : (k : ℕ) (z : StreamPorts) → slice_get ys k ≡ Some z → InputAt ports (a + 3 + 3 * k + 2) z.ready
      rest k z at = let e : a + 3 * suc k + 2 ≡ a + 3 + 3 * k + 2 = omega arith in subst (λ (i : ℕ). InputAt ports i z.ready) e (f (suc k) z at)
