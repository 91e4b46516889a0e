-- What holds of calls each of which was lawful after those before it.
use Rattle.std.proofs.Common.{
  ◌≡◌,
  ℕ,
  zero,
  suc,
  ◌+◌,
  ◌≤◌,
  ◌<◌,
  ◌*◌,
  ◌/◌,
  ◌^◌,
  Bool,
  true,
  false,
  List,
  [],
  ◌∷◌,
  ◌++◌,
  length,
  refl,
  ap,
  sym,
  subst,
  arith,
  inl,
  inr,
  ◌⊎◌,
  ⊎_elim,
  length-append,
}
use Rattle.std.specs.Prelude.{◌==◌, if◌then◌else◌, ℤ, pos, negsuc, Option, Some, None, Ok, Err}
use Rattle.std.specs.Prelude.{All, nat_lt, Result}
use Rattle.std.proofs.lemmas.List.Elements.{All-nil, All-cons, All-append}
use Rattle.std.proofs.lemmas.Bool.{cases_eq, eqb-true}
use Rattle.counter_chains.specs.declared.digits.CounterDigit.{CounterDigit}
use Rattle.counter_chains.specs.declared.digits.CounterError.{CounterError}
use Rattle.counter_chains.specs.declared.digits.CounterError.TheVariants.{CounterRange}
use Rattle.counter_chains.specs.Digits.{IsDigit, digit_of, simple_of, bits_up_to, least_bits}
use Rattle.fix_arith.specs.declared.types.StreamType.{StreamType}
use Rattle.fix_arith.specs.declared.types.StreamType.TheVariants.{UInt}
use Rattle.fix_arith.specs.Types.{HasWidth}
use Rattle.kernel_calls.specs.declared.call.Call.{Call}
use Rattle.kernel_calls.specs.declared.call.Call.TheVariants as C
use Rattle.kernel_calls.specs.Calls.{count_of, nodes_of, bits_in, Makes}
use Rattle.kernel_calls.specs.Laws.{IsLawful, AreLawful, IsStream}
use Rattle.stream_graph.proofs.Facts.{makes_older}
pub use Rattle.stream_graph.proofs.Facts.{makes_cases, made_below}
use Rattle.stream_graph.specs.Nodes.{later, connected_to, digits_to, name_by}
use Rattle.stream_graph.specs.Steps.{WereLawful}

-- ---- which calls make nodes

-- a call makes the next node, or it connects a feed
pub makes_next : (newest : Call) (older : List Call) →
    (Makes (newest ∷ older) (count_of older) newest × (nodes_of newest ≡ 1)) ⊎ (nodes_of newest ≡ 0)
makes_next (C.Connect feed value) older = inr refl
makes_next _ older = inl (inl (refl, refl), refl)

-- each node is made
pub made : (so_far : List Call) (n : ℕ) → n < count_of so_far → (call : Call) × Makes so_far n call
made [] n h = absurd (omega arith)
made (newest ∷ older) n h = ⊎_elim
    (λ (e : n ≡ count_of older). ⊎_elim
    (λ (p : Makes (newest ∷ older) (count_of older) newest × (nodes_of newest ≡ 1)).
    (newest, subst (λ k. Makes (newest ∷ older) k newest) (sym e) p.0))
    (λ (z : nodes_of newest ≡ 0). absurd (omega arith))
    (makes_next newest older))
    (λ (d : n ≡ count_of older → ⊥).
    let below : n < count_of older = below_older n (count_of older) (nodes_of newest) (few newest
    older) h d in
    let m = made older n below in
    (m.0, makes_older newest older n m.0 m.1))
    (cases_eq n (count_of older))
  where
    few : (newest : Call) (older : List Call) → nodes_of newest ≤ 1
    few newest older = ⊎_elim
        (λ (p : Makes (newest ∷ older) (count_of older) newest × (nodes_of newest ≡ 1)). let e = p.1
        in omega arith)
        (λ (z : nodes_of newest ≡ 0). omega arith)
        (makes_next newest older)

    below_older : (n k m : ℕ) → m ≤ 1 → n < k + m → (n ≡ k → ⊥) → n < k
    below_older n k m l h d = omega arith

-- ---- each call was lawful after those before it

pub were_later : (so_far calls : List Call) → WereLawful so_far → AreLawful so_far calls
    → WereLawful (later so_far calls)
were_later so_far [] w a = w
were_later so_far (call ∷ calls) w a = were_later (call ∷ so_far) calls (a.0, w) a.1

-- the calls before the one that makes a node
pub record WasLawful (n : ℕ) (call : Call) : Type 0 where
  pub older : List Call
  pub lawful : IsLawful older call
  pub count : count_of older ≡ n

pub was_lawful : (so_far : List Call) (n : ℕ) (call : Call) → WereLawful so_far
    → Makes so_far n call → WasLawful n call
was_lawful [] n call w h = absurd h
was_lawful (newest ∷ older) n call w h = by_newest (makes_cases newest older n call h)
    (λ g. was_lawful older n call w.1 g) w.0
  where
    by_newest : ((nodes_of newest ≡ 1) × (n ≡ count_of older) × (call ≡ newest)) ⊎ Makes older n
        call →
        (Makes older n call → WasLawful n call) → IsLawful older newest → WasLawful n call
    by_newest (inl p) rest l =
        record {
          older = older;
          lawful = subst (λ c. IsLawful older c) (sym p.2) l;
          count = sym p.1;
        }
    by_newest (inr g) rest l = rest g

-- the name that a call gives has at most 64 bytes
pub short_name : (so_far : List Call) (call : Call) → IsLawful so_far call
    → length (name_by call) ≤ 64
short_name so_far (C.Input name t control) l = l.0.1
short_name so_far (C.Output name value control t) l = l.0.1
short_name so_far (C.Scalar name t) l = l.0.1
short_name so_far _ l = omega arith

pub stream_below : (so_far : List Call) (n : ℕ) (t : StreamType) → IsStream so_far n t
    → n < count_of so_far
stream_below so_far n t s = made_below so_far n s.0 s.1

-- ---- the bits of counters

picked : (b : Bool) (x y : ℕ) (P : ℕ → Type 0) → P x → P y → P (if b then x else y)
picked true x y P p q = p
picked false x y P p q = q

bits_bounds : (more n : ℕ) → (1 ≤ bits_up_to more n) × (bits_up_to more n ≤ suc more)
unfolding bits_up_to
bits_bounds zero n = (omega arith, omega arith)
bits_bounds (suc more) n =
    let r = bits_bounds more n in
    picked (nat_lt n (2 ^ suc more)) (bits_up_to more n) (suc (suc more)) (λ k. (1 ≤ k) × (k ≤ suc
    (suc more)))
    (r.0, omega arith) (omega arith, omega arith)

bits_or : ℕ → Result CounterDigit CounterError → ℕ
bits_or n (Ok d) = d.bits
bits_or n (Err e) = n

digit_bounds : (max inc : ℤ) (d : CounterDigit) → digit_of max inc ≡ Ok d
    → (1 ≤ d.bits) × (d.bits ≤ 128)
unfolding bits_or bits_up_to
digit_bounds (pos (suc greatest)) (pos (suc less)) d e = by_test (nat_lt greatest (2 ^ 31)) e
  where
    by_test : (b : Bool) → (if b then Ok (record
        { last = greatest / suc less * suc less; inc = suc less; bits = least_bits greatest }) else
        Err (CounterRange (pos (suc greatest)) 31)) ≡ Ok d → (1 ≤ d.bits) × (d.bits ≤ 128)
    by_test true e =
        let b = bits_bounds 127 greatest in
        let same : least_bits greatest ≡ d.bits = ap (bits_or 0) e in
        (omega arith, omega arith)
    by_test false e = absurd (cc)
digit_bounds (pos (suc greatest)) (pos zero) d e = absurd (cc)
digit_bounds (pos (suc greatest)) (negsuc n) d e = absurd (cc)
digit_bounds (pos zero) inc d e = absurd (cc)
digit_bounds (negsuc n) inc d e = absurd (cc)

simple_bounds : (bits : ℕ) (max : Option ℤ) (d : CounterDigit) → 1 ≤ bits → bits ≤ 128
    → simple_of bits max ≡ Ok d →
    (1 ≤ d.bits) × (d.bits ≤ 128)
unfolding bits_or
simple_bounds bits None d low high e =
    let same : bits ≡ d.bits = ap (bits_or bits) e in (omega arith, omega arith)
simple_bounds bits (Some (pos (suc greatest))) d low high e = by_test (nat_lt greatest (2 ^ bits)) e
  where
    by_test : (b : Bool) → (if b then Ok (record { last = greatest; inc = 1; bits = bits }) else
        Err (CounterRange (pos (suc greatest)) bits)) ≡ Ok d → (1 ≤ d.bits) × (d.bits ≤ 128)
    by_test true e = let same : bits ≡ d.bits = ap (bits_or bits) e in (omega arith, omega arith)
    by_test false e = absurd (cc)
simple_bounds bits (Some (pos zero)) d low high e = absurd (cc)
simple_bounds bits (Some (negsuc n)) d low high e = absurd (cc)

pub digit_width : (d : CounterDigit) → IsDigit d → HasWidth (UInt d.bits)
digit_width d (inl p) = digit_bounds p.0 p.1 d p.2
digit_width d (inr p) = simple_bounds p.0 p.1 d p.2 p.3 p.4

-- ---- chains

pub chain_bits_most : (so_far : List Call) (n : ℕ) → WereLawful so_far → bits_in so_far n ≤ 128
chain_bits_most [] n w = omega arith
chain_bits_most (C.ChainDigit chain d ∷ older) n w =
    by_test (chain == n) (λ e. eqb-true chain n e) w.0.2 (chain_bits_most older n w.1)
  where
    by_test : (b : Bool) → (b ≡ true → chain ≡ n) → bits_in older chain + d.bits ≤ 128
        → bits_in older n ≤ 128 →
        bits_in older n + (elim b [ true ↦ d.bits | false ↦ 0 ]) ≤ 128
    by_test true same own others = subst (λ k. bits_in older k + d.bits ≤ 128) (same refl) own
    by_test false same own others = omega arith
chain_bits_most (_ ∷ older) n w = let r = chain_bits_most older n w.1 in omega arith

-- a chain has at least as many bits as digits
pub chain_bits_least : (so_far : List Call) (n : ℕ) → WereLawful so_far
    → length (digits_to so_far n) ≤ bits_in so_far n
chain_bits_least [] n w = omega arith
chain_bits_least (C.ChainDigit chain d ∷ older) n w =
    by_test (chain == n) (digit_width d w.0.1).0 (chain_bits_least older n w.1)
  where
    by_test : (b : Bool) → 1 ≤ d.bits → length (digits_to older n) ≤ bits_in older n →
        length (digits_to older n ++ (if b then d ∷ [] else [])) ≤ bits_in older n + (elim b
        [ true ↦ d.bits | false ↦ 0 ])
    by_test true some r = omega (arith, length-append (digits_to older n) (d ∷ []))
    by_test false some r = omega (arith, length-append {A = CounterDigit} (digits_to older n) [])
chain_bits_least (_ ∷ older) n w = let r = chain_bits_least older n w.1 in omega arith

-- ---- what is connected to feeds

one_more : (older : List Call) (n : ℕ) → All (λ v. v < count_of older) (connected_to older n) →
    All (λ v. v < count_of older + 1) (connected_to older n)
one_more older n r = λ k d h. let b = r k d h in omega arith

pub connected_below : (so_far : List Call) (n : ℕ) → WereLawful so_far
    → All (λ v. v < count_of so_far) (connected_to so_far n)
connected_below [] n w = All-nil (λ v. v < 0)
connected_below (C.Connect feed value ∷ older) n w =
    by_test (feed == n) (stream_below older value _ w.0.2) (connected_below older n w.1)
  where
    by_test : (b : Bool) → value < count_of older → All (λ v. v < count_of older) (connected_to
        older n) →
        All (λ v. v < count_of older + 0) (connected_to older n ++ (if b then value ∷ [] else []))
    by_test true lt r = All-append (λ v. v < count_of older + 0) (connected_to older n) (value ∷ [])
        (λ k d h. let b = r k d h in omega arith)
        (All-cons (λ v. v < count_of older + 0) value [] (omega arith) (All-nil (λ v. v < count_of
        older + 0)))
    by_test false lt r = All-append (λ v. v < count_of older + 0) (connected_to older n) []
        (λ k d h. let b = r k d h in omega arith) (All-nil (λ v. v < count_of older + 0))
connected_below (_ ∷ older) n w = one_more older n (connected_below older n w.1)
