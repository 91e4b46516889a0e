-- One port more is given its value.
use Rattle.std.proofs.Common.{◌≡◌, ℕ, zero, suc, ◌+◌, ◌<◌, Bool, false, List, [], ◌∷◌, ◌++◌, take, get_or, set, Some, refl, sym, ap, ◌∙◌, subst, arith}
use Rattle.std.specs.Prelude.{slice_get}
use Rattle.rtl_ir.specs.declared.interface.KernelPorts.{KernelPorts}
use Rattle.rtl_ir.specs.declared.interface.ScalarPort.{ScalarPort}
use Rattle.rtl_ir.specs.declared.interface.StreamPorts.{StreamPorts}
use Rattle.rtl_ir.specs.Value.{bit}
use Rattle.verilog_sim.specs.declared.offer.Offer.{Offer}
use Rattle.verilog_sim.specs.Calls.{nothing}
use Rattle.verilog_sim.specs.Gifts.{Every, kernel_gifts, scalar_gifts, input_gifts, output_gifts, written}
use Rattle.verilog_sim.proofs.Written.{written_append}

-- what is given to one port more, behind the others
module _ {A : Type 0} (gifts_of : ℕ → List A → List (ℕ × ℕ)) (gift : ℕ → A → List (ℕ × ℕ))
    (none : (j : ℕ) → gifts_of j [] ≡ []) (more : (j : ℕ) (x : A) (xs : List A) → gifts_of j (x ∷ xs) ≡ gift j x ++ gifts_of (j + 1) xs) where
  after_all : (gs : List (ℕ × ℕ)) → gs ++ [] ≡ gs
  after_all [] = refl
  after_all (g ∷ gs) = ap (λ (l : List (ℕ × ℕ)). g ∷ l) (after_all gs)

  joined : (xs ys zs : List (ℕ × ℕ)) → xs ++ (ys ++ zs) ≡ (xs ++ ys) ++ zs
  joined [] ys zs = refl
  joined (x ∷ xs) ys zs = ap (λ (l : List (ℕ × ℕ)). x ∷ l) (joined xs ys zs)

  one_more : (j k : ℕ) (xs : List A) (x : A) → slice_get xs k ≡ Some x → gifts_of j (take (suc k) xs) ≡ gifts_of j (take k xs) ++ gift (j + k) x
  one_more j k [] x at = absurd (cc)
  one_more j zero (y ∷ ys) x at =
      let same : y ≡ x = cc in
      let e : j ≡ j + 0 = omega arith in
      more j y [] ∙ ap (λ (l : List (ℕ × ℕ)). gift j y
      ++ l) (none (j + 1)) ∙ after_all (gift j y) ∙ ap (gift j) same ∙ ap
      (λ n. gift n x) e ∙ ap (λ (l : List (ℕ × ℕ)). l ++ gift (j + 0) x) (sym (none j))
  one_more j (suc k) (y ∷ ys) x at =
      let e : j + 1 + k ≡ j + suc k = omega arith in
      more j y (take (suc k) ys) ∙ ap (λ (l : List (ℕ × ℕ)). gift j y ++ l) (one_more (j + 1) k ys x at)
      ∙ joined (gift j y) (gifts_of (j + 1) (take k ys)) (gift (j + 1 + k) x)
      ∙ ap (λ (l : List (ℕ × ℕ)). l ++ gift (j + 1 + k) x) (sym (more j y (take k ys)))
      ∙ ap (λ n. gifts_of j (y ∷ take k ys) ++ gift n x) e

  pub written_more : (old values : List ℕ) (j k : ℕ) (xs : List A) (x : A)
      → slice_get xs k ≡ Some x → values ≡ written old (gifts_of j (take k xs))
      → written values (gift (j + k) x) ≡ written old (gifts_of j (take (k + 1) xs))
  written_more old values j k xs x at is =
      let e : suc k ≡ k + 1 = omega arith in
      ap (λ (l : List ℕ). written l (gift (j + k) x)) is
      ∙ sym (written_append old (gifts_of j (take k xs)) (gift (j + k) x))
      ∙ ap (written old) (sym (one_more j k xs x at))
      ∙ ap (λ n. written old (gifts_of j (take n xs))) e

pub kernel_written :
    (steady : List ℕ) (holds : List Bool) (old values : List ℕ) (k : ℕ) (xs : List KernelPorts) (x : KernelPorts)
    → slice_get xs k ≡ Some x → values ≡ written old (kernel_gifts steady holds 0 (take k xs))
    → set (set values x.hold (bit (get_or holds k false))) x.ticks (get_or steady k 0) ≡ written old (kernel_gifts steady holds 0 (take (k + 1) xs))
kernel_written steady holds old values k xs x at is =
    let e : k ≡ 0 + k = omega arith in
    ap (λ n. set (set values x.hold (bit (get_or holds n false))) x.ticks (get_or steady n 0)) e
    ∙ written_more (kernel_gifts steady holds) (λ n y. (y.hold, bit (get_or holds n false)) ∷ (y.ticks, get_or steady n 0) ∷ []) (λ j. refl) (λ j y ys. refl) old values 0 k xs x at is

pub scalar_written :
    (steady : List ℕ) (old values : List ℕ) (j k : ℕ) (xs : List ScalarPort) (x : ScalarPort)
    → slice_get xs k ≡ Some x → values ≡ written old (scalar_gifts steady j (take k xs))
    → set values x.net (get_or steady (j + k) 0) ≡ written old (scalar_gifts steady j (take (k + 1) xs))
scalar_written steady old values j k xs x at is =
    written_more (scalar_gifts steady) (λ n y. (y.net, get_or steady n 0) ∷ []) (λ j. refl) (λ j y ys. refl) old values j k xs x at is

pub input_written :
    (offers : List Offer) (old values : List ℕ) (k : ℕ) (xs : List StreamPorts) (x : StreamPorts)
    → slice_get xs k ≡ Some x → values ≡ written old (input_gifts offers 0 (take k xs))
    → set (set values x.word (get_or offers k nothing).word) x.valid (bit (get_or offers k nothing).valid) ≡ written old (input_gifts offers 0 (take (k + 1) xs))
input_written offers old values k xs x at is =
    let e : k ≡ 0 + k = omega arith in
    ap (λ n. set (set values x.word (get_or offers n nothing).word) x.valid (bit (get_or offers n nothing).valid)) e
    ∙ written_more (input_gifts offers) (λ n y. (y.word, (get_or offers n nothing).word) ∷ (y.valid, bit (get_or offers n nothing).valid) ∷ []) (λ j. refl) (λ j y ys. refl) old values 0 k xs x at is

pub output_written :
    (accepts : List Bool) (old values : List ℕ) (k : ℕ) (xs : List StreamPorts) (x : StreamPorts)
    → slice_get xs k ≡ Some x → values ≡ written old (output_gifts accepts 0 (take k xs))
    → set values x.ready (bit (get_or accepts k false)) ≡ written old (output_gifts accepts 0 (take (k + 1) xs))
output_written accepts old values k xs x at is =
    let e : k ≡ 0 + k = omega arith in
    ap (λ n. set values x.ready (bit (get_or accepts n false))) e
    ∙ written_more (output_gifts accepts) (λ n y. (y.ready, bit (get_or accepts n false)) ∷ []) (λ j. refl) (λ j y ys. refl) old values 0 k xs x at is

-- the nets of what is given are in range
pub kernels_within : (n : ℕ) (steady : List ℕ) (holds : List Bool) (j : ℕ)
    (xs : List KernelPorts) → Every (λ (g : ℕ × ℕ). g.0 < n) (kernel_gifts steady holds j xs)
    → (k : ℕ) (x : KernelPorts) → slice_get xs k ≡ Some x → (x.hold < n) × (x.ticks < n)
kernels_within n steady holds j [] e k x at = absurd (cc)
kernels_within n steady holds j (y ∷ ys) e zero x at = let same : y ≡ x = cc in subst (λ (z : KernelPorts). (z.hold < n) × (z.ticks < n)) same (e.0, e.1.0)
kernels_within n steady holds j (y ∷ ys) e (suc k) x at = kernels_within n steady holds (j + 1) ys e.1.1 k x at

pub scalars_within : (n : ℕ) (steady : List ℕ) (j : ℕ) (xs : List ScalarPort)
    → Every (λ (g : ℕ × ℕ). g.0 < n) (scalar_gifts steady j xs) → (k : ℕ) (x : ScalarPort)
    → slice_get xs k ≡ Some x → x.net < n
scalars_within n steady j [] e k x at = absurd (cc)
scalars_within n steady j (y ∷ ys) e zero x at = let same : y ≡ x = cc in subst (λ (z : ScalarPort). z.net < n) same e.0
scalars_within n steady j (y ∷ ys) e (suc k) x at = scalars_within n steady (j + 1) ys e.1 k x at

pub inputs_within : (n : ℕ) (offers : List Offer) (j : ℕ) (xs : List StreamPorts)
    → Every (λ (g : ℕ × ℕ). g.0 < n) (input_gifts offers j xs) → (k : ℕ) (x : StreamPorts)
    → slice_get xs k ≡ Some x → (x.word < n) × (x.valid < n)
inputs_within n offers j [] e k x at = absurd (cc)
inputs_within n offers j (y ∷ ys) e zero x at = let same : y ≡ x = cc in subst (λ (z : StreamPorts). (z.word < n) × (z.valid < n)) same (e.0, e.1.0)
inputs_within n offers j (y ∷ ys) e (suc k) x at = inputs_within n offers (j + 1) ys e.1.1 k x at

pub outputs_within : (n : ℕ) (accepts : List Bool) (j : ℕ) (xs : List StreamPorts)
    → Every (λ (g : ℕ × ℕ). g.0 < n) (output_gifts accepts j xs) → (k : ℕ) (x : StreamPorts)
    → slice_get xs k ≡ Some x → x.ready < n
outputs_within n accepts j [] e k x at = absurd (cc)
outputs_within n accepts j (y ∷ ys) e zero x at = let same : y ≡ x = cc in subst (λ (z : StreamPorts). z.ready < n) same e.0
outputs_within n accepts j (y ∷ ys) e (suc k) x at = outputs_within n accepts (j + 1) ys e.1 k x at

-- the four kinds of ports, one after another
pub all_written :
    (old a b c d : List ℕ) (ks ss xs ys : List (ℕ × ℕ))
    → a ≡ written old ks → b ≡ written a ss → c ≡ written b xs → d ≡ written c ys → d ≡ written old (ks ++ ss ++ xs ++ ys)
all_written old a b c d ks ss xs ys ea eb ec ed =
    ed
    ∙ ap (λ (v : List ℕ). written v ys) (ec ∙ ap (λ (v : List ℕ). written v xs) (eb ∙ ap (λ (v : List ℕ). written v ss) ea ∙ sym (written_append old ks ss)) ∙ sym (written_append old (ks ++ ss) xs))
    ∙ sym (written_append old (ks ++ ss ++ xs) ys)
