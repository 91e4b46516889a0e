-- What is given to the ports of an interface, in the words of the calls.
use Rattle.std.proofs.Common.{◌≡◌, ℕ, zero, suc, ◌+◌, ◌-◌, ◌≤◌, Bool, false, List, [], ◌∷◌, ◌++◌, length, map, get_or, refl, ap, ◌∙◌, arith}
use Rattle.std.specs.Prelude.{drop}
use Rattle.rtl_ir.specs.declared.interface.Interface.{Interface}
use Rattle.rtl_ir.specs.declared.interface.KernelPorts.{KernelPorts}
use Rattle.rtl_ir.specs.declared.interface.ScalarPort.{ScalarPort}
use Rattle.rtl_ir.specs.declared.interface.StreamPorts.{StreamPorts}
use Rattle.rtl_ir.specs.Interfaces.{nets_of, stream_channel}
use Rattle.rtl_ir.specs.Run.{Channel, Same}
use Rattle.rtl_ir.specs.Value.{Family, bit}
use Rattle.verilog_sim.specs.declared.offer.Offer.{Offer}
use Rattle.verilog_sim.specs.Calls.{nothing, Given}
use Rattle.verilog_sim.specs.Gifts.{Every, gifts, kernel_gifts, scalar_gifts, input_gifts, output_gifts}
use Rattle.verilog_sim.proofs.Outer.{SaysSame}

pub all_left : {A : Type 0} (P : A → Type 0) (xs ys : List A) → Every P (xs ++ ys) → Every P xs
all_left P [] ys a = tt
all_left P (x ∷ xs) ys a = (a.0, all_left P xs ys a.1)

pub all_right : {A : Type 0} (P : A → Type 0) (xs ys : List A) → Every P (xs ++ ys) → Every P ys
all_right P [] ys a = a
all_right P (x ∷ xs) ys a = all_right P xs ys a.1

-- two lists say the same, the one from a number on
abbrev Along : {A : Type 0} → A → List A → ℕ → List A → Type 0
Along d xs j ys = (k : ℕ) → get_or xs (j + k) d ≡ get_or ys k d

first : {A : Type 0} (d : A) (xs : List A) (j : ℕ) (y : A) (ys : List A) → Along d xs j (y ∷ ys) → get_or xs j d ≡ y
first d xs j y ys a = let e : j ≡ j + 0 = omega arith in ap (λ n. get_or xs n d) e ∙ a 0

onward : {A : Type 0} (d : A) (xs : List A) (j : ℕ) (y : A) (ys : List A) → Along d xs j (y ∷ ys) → Along d xs (j + 1) ys
onward d xs j y ys a = λ k. (let e : j + 1 + k ≡ j + suc k = omega arith in ap (λ n. get_or xs n d) e ∙ a (suc k))

along_drop : {A : Type 0} (d : A) (ys : List A) (n : ℕ) → Along d ys n (drop n ys)
along_drop d [] zero k = refl
along_drop d [] (suc n) k = refl
along_drop d (y ∷ ys) zero k = let e : 0 + k ≡ k = omega arith in ap (λ n. get_or (y ∷ ys) n d) e
along_drop d (y ∷ ys) (suc n) k = let e : suc n + k ≡ suc (n + k) = omega arith in ap (λ j. get_or (y ∷ ys) j d) e ∙ along_drop d ys n k

length_dropped : {A : Type 0} (ys : List A) (n : ℕ) → length (drop n ys) ≡ length ys - n
length_dropped [] zero = let e : 0 ≡ 0 - 0 = omega arith in e
length_dropped [] (suc n) = let e : 0 ≡ 0 - suc n = omega arith in e
length_dropped (y ∷ ys) zero = let e : suc (length ys) ≡ suc (length ys) - 0 = omega arith in e
length_dropped (y ∷ ys) (suc n) = let r = length_dropped ys n in let e : length (drop n ys) ≡ suc (length ys) - suc n = omega (arith, r) in e

module _ (v : Family) where
  abbrev pub Told : List (ℕ × ℕ) → Type 0
  Told gs = Every (λ (g : ℕ × ℕ). v g.0 ≡ g.1) gs

  holds_same : (steady : List ℕ) (holds : List Bool) (j : ℕ) (xs : List KernelPorts)
      (ys : List Bool) → length ys ≡ length xs → Along false holds j ys
      → Told (kernel_gifts steady holds j xs)
      → Same (map (λ (k : KernelPorts). k.hold) xs) (map bit ys) v
  holds_same steady holds j [] [] e a t = tt
  holds_same steady holds j [] (y ∷ ys) e a t = absurd (omega arith)
  holds_same steady holds j (x ∷ xs) [] e a t = absurd (omega arith)
  holds_same steady holds j (x ∷ xs) (y ∷ ys) e a t = (t.0 ∙ ap bit (first false holds j y ys a), holds_same steady holds (j + 1) xs ys (omega (arith, e)) (onward false holds j y ys a) t.1.1)

  ticks_same : (steady : List ℕ) (holds : List Bool) (j : ℕ) (xs : List KernelPorts)
      (ns ys : List ℕ) → length xs ≤ length ys → Along 0 steady j ys
      → Told (kernel_gifts steady holds j xs) → Same ns (drop (length xs) ys) v
      → Same (map (λ (k : KernelPorts). k.ticks) xs ++ ns) ys v
  ticks_same steady holds j [] ns ys e a t s = s
  ticks_same steady holds j (x ∷ xs) ns [] e a t s = absurd (omega arith)
  ticks_same steady holds j (x ∷ xs) ns (y ∷ ys) e a t s = (t.1.0 ∙ first 0 steady j y ys a, ticks_same steady holds (j + 1) xs ns ys (omega (arith, e)) (onward 0 steady j y ys a) t.1.1 s)

  scalars_same : (steady : List ℕ) (j : ℕ) (xs : List ScalarPort) (ys : List ℕ)
      → length ys ≡ length xs → Along 0 steady j ys → Told (scalar_gifts steady j xs)
      → Same (map (λ (s : ScalarPort). s.net) xs) ys v
  scalars_same steady j [] [] e a t = tt
  scalars_same steady j [] (y ∷ ys) e a t = absurd (omega arith)
  scalars_same steady j (x ∷ xs) [] e a t = absurd (omega arith)
  scalars_same steady j (x ∷ xs) (y ∷ ys) e a t = (t.0 ∙ first 0 steady j y ys a, scalars_same steady (j + 1) xs ys (omega (arith, e)) (onward 0 steady j y ys a) t.1)

  words_same : (offers : List Offer) (j : ℕ) (xs : List StreamPorts) (ys : List Offer)
      → length ys ≡ length xs → Along nothing offers j ys → Told (input_gifts offers j xs)
      → Same (map (λ (c : Channel). c.word) (map stream_channel xs))
      (map (λ (x : Offer). x.word) ys) v
  words_same offers j [] [] e a t = tt
  words_same offers j [] (y ∷ ys) e a t = absurd (omega arith)
  words_same offers j (x ∷ xs) [] e a t = absurd (omega arith)
  words_same offers j (x ∷ xs) (y
      ∷ ys) e a t = (
        t.0 ∙ ap (λ (o : Offer). o.word) (first nothing offers j y ys a),
        words_same offers (j + 1) xs ys (omega (arith, e)) (onward nothing offers j y ys a) t.1.1,
      )

  valid_same : (offers : List Offer) (j : ℕ) (xs : List StreamPorts) (ys : List Offer)
      → length ys ≡ length xs → Along nothing offers j ys → Told (input_gifts offers j xs)
      → Same (map (λ (c : Channel). c.valid) (map stream_channel xs))
      (map (λ (x : Offer). bit x.valid) ys) v
  valid_same offers j [] [] e a t = tt
  valid_same offers j [] (y ∷ ys) e a t = absurd (omega arith)
  valid_same offers j (x ∷ xs) [] e a t = absurd (omega arith)
  valid_same offers j (x ∷ xs) (y
      ∷ ys) e a t = (
        t.1.0 ∙ ap (λ (o : Offer). bit o.valid) (first nothing offers j y ys a),
        valid_same offers (j + 1) xs ys (omega (arith, e)) (onward nothing offers j y ys a) t.1.1,
      )

  ready_same : (accepts : List Bool) (j : ℕ) (xs : List StreamPorts) (ys : List Bool)
      → length ys ≡ length xs → Along false accepts j ys → Told (output_gifts accepts j xs)
      → Same (map (λ (c : Channel). c.ready) (map stream_channel xs)) (map bit ys) v
  ready_same accepts j [] [] e a t = tt
  ready_same accepts j [] (y ∷ ys) e a t = absurd (omega arith)
  ready_same accepts j (x ∷ xs) [] e a t = absurd (omega arith)
  ready_same accepts j (x ∷ xs) (y ∷ ys) e a t = (t.0 ∙ ap bit (first false accepts j y ys a), ready_same accepts (j + 1) xs ys (omega (arith, e)) (onward false accepts j y ys a) t.1)

  from_start : {A : Type 0} (d : A) (xs ys : List A) → ((k : ℕ) → get_or xs k d ≡ get_or ys k d) → Along d xs 0 ys
  from_start d xs ys h = λ k. (let e : 0 + k ≡ k = omega arith in ap (λ n. get_or xs n d) e ∙ h k)

  -- all that is given
  pub given_told :
      (i : Interface) (reset : Bool) (steady : List ℕ) (offers offers' : List Offer) (accepts accepts' holds holds' : List Bool)
      → length steady ≡ length i.kernels + length i.scalars → length offers' ≡ length i.inputs → length accepts' ≡ length i.outputs → length holds' ≡ length i.kernels
      → SaysSame offers offers' accepts accepts' holds holds'
      → Told (gifts i reset steady offers accepts holds) → Given (nets_of i) reset steady offers' accepts' holds' v
  given_told i reset steady offers offers' accepts accepts' holds holds' ls lo la lh same t =
      record {
        clock = t.0;
        restarts = t.1.0;
        steadily = ticks_same steady holds 0 i.kernels (map (λ (s : ScalarPort). s.net) i.scalars) steady (omega (arith, ls)) (from_start 0 steady steady (λ k. refl)) kernels
            (scalars_same steady (length i.kernels) i.scalars (drop (length i.kernels) steady)
            (omega (
              arith,
              length_dropped steady (length i.kernels),
              ls,
            )) (along_drop 0 steady (length i.kernels)) scalars);
        held = holds_same steady holds 0 i.kernels holds' lh (from_start false holds holds' same.holds_same) kernels;
        words = words_same offers 0 i.inputs offers' lo (from_start nothing offers offers' same.offers_same) inputs;
        valid = valid_same offers 0 i.inputs offers' lo (from_start nothing offers offers' same.offers_same) inputs;
        accepted = ready_same accepts 0 i.outputs accepts' la (from_start false accepts accepts' same.accepts_same) outputs;
      }
    where
      P : ℕ × ℕ → Type 0
      P g = v g.0 ≡ g.1

      ks : List (ℕ × ℕ)
      ks = kernel_gifts steady holds 0 i.kernels

      ss : List (ℕ × ℕ)
      ss = scalar_gifts steady (length i.kernels) i.scalars

      xs : List (ℕ × ℕ)
      xs = input_gifts offers 0 i.inputs

      ys : List (ℕ × ℕ)
      ys = output_gifts accepts 0 i.outputs

      kernels : Told ks
      kernels = all_left P ks ss (all_left P (ks ++ ss) xs (all_left P (ks ++ ss ++ xs) ys t.1.1))

      scalars : Told ss
      scalars = all_right P ks ss (all_left P (ks ++ ss) xs (all_left P (ks ++ ss ++ xs) ys t.1.1))

      inputs : Told xs
      inputs = all_right P (ks ++ ss) xs (all_left P (ks ++ ss ++ xs) ys t.1.1)

      outputs : Told ys
      outputs = all_right P (ks ++ ss ++ xs) ys t.1.1
