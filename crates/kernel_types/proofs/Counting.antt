-- What every kernel keeps of its counters.
use Rattle.std.proofs.Common.{◌≡◌, ℕ, zero, suc, ◌≤◌, ◌<◌, true, List, [], ◌∷◌, length, get_or, Some, refl, sym, ap, ◌∙◌, subst, arith}
use Rattle.std.proofs.Props.{props}
use Rattle.std.proofs.Math.Logic.{∥∥₁_elim}
use Rattle.std.specs.Prelude.{All, slice_get}
use Rattle.std.proofs.lemmas.List.Elements.{All-nil, All-cons}
use Rattle.counter_chains.specs.declared.digits.CounterDigit.{CounterDigit}
use Rattle.counter_chains.specs.Digits.{IsDigit}
use Rattle.counter_chains.specs.Chains.{bits_of}
use Rattle.fix_arith.specs.Types.{width_of}
use Rattle.kernel_calls.specs.declared.call.Call.{Call}
use Rattle.kernel_calls.specs.declared.call.Call.TheVariants as C
use Rattle.kernel_calls.specs.Calls.{Makes}
use Rattle.stream_graph.specs.declared.node.Kind.{Kind}
use Rattle.stream_graph.specs.declared.node.Kind.TheVariants as K
use Rattle.stream_graph.specs.declared.node.Node.{Node}
use Rattle.stream_graph.specs.Nodes.{later, digits_to, place_of, IsKind, type_of, operands_by, digits_by, AreNodes}
use Rattle.stream_graph.specs.Steps.{WereLawful}
use Rattle.stream_graph.specs.Kinds.{is_chain, counts}
use Rattle.stream_graph.specs.Kernels.{AreKernel}
use Rattle.stream_graph.specs.LookUps.{
  kind_at,
  operands_at,
  operand_at,
  width_at,
  no_node,
  digits_at,
}
use Rattle.stream_graph.proofs.Facts.{made_below}
use Rattle.stream_graph.proofs.CallLemmas.{were_later, WasLawful, chain_bits_most, chain_bits_least}
use Rattle.stream_graph.proofs.NodeLemmas.{of_node}
use Rattle.kernel_types.specs.Types.{IsCounting, IsPartOf, AreCounting}
use Rattle.kernel_types.proofs.Digital.{is_digit, passes_digit, passed_digit}
use Rattle.kernel_types.proofs.Called.{digits_lawful, chain_bits, digit_at_place, chain_made}

-- ---- by the call of a node

record IsCounted (ds : List CounterDigit) (w : ℕ) : Type 0 where
  digits : All IsDigit ds
  few : length ds ≤ 128
  bits : w ≡ bits_of ds

counting_call : (so_far : List Call) (n : ℕ) (call : Call) (kind : Kind) → WereLawful so_far → WasLawful n call → IsKind so_far n call kind
    → counts kind ≡ true → IsCounted (digits_by so_far n call) (width_of (type_of so_far n call))
counting_call so_far n (C.Counter d) kind w l i e = record {
  digits = All-cons IsDigit d [] l.lawful (All-nil IsDigit);
  few = omega arith;
  bits = omega arith;
}
counting_call so_far n C.Chain kind w l i e =
    let most = chain_bits_most so_far n w in
    let least = chain_bits_least so_far n w in
    record { digits = digits_lawful so_far n w; few = omega (arith, most, least); bits = chain_bits so_far n }
counting_call so_far n (C.Constant bits t) kind w l i e = let q = i.1 in absurd (cc)
counting_call so_far n (C.Connect feed value) kind w l i e = absurd i
counting_call so_far n call kind w l i e = absurd (cc)

alone_call : (so_far : List Call) (n : ℕ) (call : Call) (kind : Kind) → IsKind so_far n call kind → kind ≡ K.Counter
    → length (digits_by so_far n call) ≡ 1
alone_call so_far n (C.Counter d) kind i e = refl
alone_call so_far n (C.Constant bits t) kind i e = let q = i.1 in absurd (cc)
alone_call so_far n (C.Connect feed value) kind i e = absurd i
alone_call so_far n call kind i e = absurd (cc)

record IsPartCall (so_far : List Call) (n place : ℕ) (call : Call) : Type 0 where
  chain : ℕ
  digit : CounterDigit
  is : call ≡ C.ChainDigit chain digit
  at : place ≡ place_of so_far chain n

part_call : (so_far : List Call) (n place : ℕ) (call : Call) (kind : Kind) → IsKind so_far n call kind → kind ≡ K.Part place
    → IsPartCall so_far n place call
part_call so_far n place (C.ChainDigit chain d) kind i e = record { chain = chain; digit = d; is = refl; at = cc }
part_call so_far n place (C.Constant bits t) kind i e = let q = i.1 in absurd (cc)
part_call so_far n place (C.Connect feed value) kind i e = absurd i
part_call so_far n place call kind i e = absurd (cc)

-- ---- what stands in the nodes

-- a part of this chain, and its digit
record IsPartIn (nodes : List Node) (n place : ℕ) (none : CounterDigit) (chain : ℕ) : Type 0 where
  one : length (operands_at nodes n) ≡ 1
  inside : chain < length nodes
  kind : is_chain (kind_at nodes chain) ≡ true
  within : place < length (digits_at nodes chain)
  bits : width_at nodes n ≡ (get_or (digits_at nodes chain) place none).bits

record AreCounted (nodes : List Node) : Type 0 where
  digits : (n k : ℕ) (d : CounterDigit) → n < length nodes → counts (kind_at nodes n) ≡ true → k < length (digits_at nodes n)
      → is_digit (get_or (digits_at nodes n) k d) ≡ true
  few : (n : ℕ) → n < length nodes → counts (kind_at nodes n) ≡ true → length (digits_at nodes n) ≤ 128
  bits : (n : ℕ) → n < length nodes → counts (kind_at nodes n) ≡ true → width_at nodes n ≡ bits_of (digits_at nodes n)
  alone : (n : ℕ) → n < length nodes → kind_at nodes n ≡ K.Counter → length (digits_at nodes n) ≡ 1
  parts : (n place : ℕ) (none : CounterDigit) → n < length nodes → kind_at nodes n ≡ K.Part place
      → IsPartIn nodes n place none (operand_at nodes n 0)

got : {X : Type 0} (xs : List X) (n : ℕ) (x d : X) → slice_get xs n ≡ Some x → x ≡ get_or xs n d
got [] n x d e = absurd (cc)
got (y ∷ ys) zero x d e = cc
got (y ∷ ys) (suc n) x d e = got ys n x d e

within_got : {X : Type 0} (xs : List X) (i : ℕ) (x : X) → slice_get xs i ≡ Some x → i < length xs
within_got [] i x e = absurd (cc)
within_got (y ∷ ys) zero x e = omega arith
within_got (y ∷ ys) (suc i) x e = let q = within_got ys i x e in omega (arith, q)

part_in : (so_far : List Call) (nodes : List Node) (n place : ℕ) (none : CounterDigit) → WereLawful so_far → AreNodes so_far nodes
    → n < length nodes → kind_at nodes n ≡ K.Part place → IsPartIn nodes n place none (operand_at nodes n 0)
part_in so_far nodes n place none w a h e =
    let o = of_node so_far nodes n w a h in
    let p = part_call so_far n place o.call (kind_at nodes n) o.is.kind e in
    let makes : Makes so_far n (C.ChainDigit p.chain p.digit) = subst (Makes so_far n) p.is o.makes in
    let made = chain_made so_far n p.chain p.digit w makes in
    let q = a.each p.chain C.Chain made in
    let node : q.0 ≡ get_or nodes p.chain no_node = got nodes p.chain q.0 no_node q.1 in
    let digits : digits_to so_far p.chain ≡ digits_at nodes p.chain = sym q.2.digits ∙ ap (λ (x : Node). x.digits) node in
    let operands : operands_at nodes n ≡ p.chain ∷ [] = o.is.operands ∙ ap (operands_by so_far n) p.is in
    let digit : slice_get (digits_at nodes p.chain) place ≡ Some p.digit =
    subst (λ k. slice_get (digits_at nodes p.chain) k ≡ Some p.digit) (sym p.at)
    (subst (λ ds. slice_get ds (place_of so_far p.chain n) ≡ Some p.digit) digits (digit_at_place so_far p.chain n p.digit makes)) in
    let first : p.chain ≡ operand_at nodes n 0 = sym (ap (λ xs. get_or xs 0 0) operands) in
    let below = made_below so_far p.chain C.Chain made in
    let count = a.count in
    subst (IsPartIn nodes n place none) first (record {
      one = ap (λ (xs : List ℕ). length xs) operands;
      inside = omega (arith, below, count);
      kind = ap is_chain (sym (ap (λ (x : Node). x.view.kind) node) ∙ q.2.kind);
      within = within_got (digits_at nodes p.chain) place p.digit digit;
      bits = ap width_of (o.is.t ∙ ap (type_of so_far n) p.is)
          ∙ ap (λ (d : CounterDigit). d.bits) (got (digits_at nodes p.chain) place p.digit none digit);
    })

counted_so_far : (so_far : List Call) (nodes : List Node) → WereLawful so_far → AreNodes so_far nodes → AreCounted nodes
counted_so_far so_far nodes w a = record {
  digits = λ n k d h e lt.
      passes_digit (get_or (digits_at nodes n) k d) (subst (All IsDigit) (sym (of_node so_far nodes n w a h).is.digits) (call n h e).digits k d lt);
  few = λ n h e. let f = (call n h e).few in let s = ap (λ (ds : List CounterDigit). length ds) (of_node so_far nodes n w a h).is.digits in omega (arith, f, s);
  bits = λ n h e. let o = of_node so_far nodes n w a h in ap width_of o.is.t ∙ (call n h e).bits ∙ ap bits_of (sym o.is.digits);
  alone = λ n h e.
      let o = of_node so_far nodes n w a h in
      ap (λ (ds : List CounterDigit). length ds) o.is.digits ∙ alone_call so_far n o.call (kind_at nodes n) o.is.kind e;
  parts = λ n place none h e. part_in so_far nodes n place none w a h e;
}
  where
    call : (n : ℕ) (h : n < length nodes) → counts (kind_at nodes n) ≡ true
        → IsCounted (digits_by so_far n (of_node so_far nodes n w a h).call) (width_of (type_of so_far n (of_node so_far nodes n w a h).call))
    call n h e = let o = of_node so_far nodes n w a h in counting_call so_far n o.call (kind_at nodes n) w o.was o.is.kind e

counted : (nodes : List Node) → ∥ AreKernel nodes ∥₁ → AreCounted nodes
counted nodes kernel =
    ∥∥₁_elim {P = AreCounted nodes} kernel (hlevel props)
    (λ k. counted_so_far (later [] k.0) nodes (were_later [] k.0 tt k.1) k.3)

-- ---- so it is in every kernel

module _ (nodes : List Node) (kernel : ∥ AreKernel nodes ∥₁) where
  counting : (n : ℕ) → n < length nodes → counts (kind_at nodes n) ≡ true → IsCounting nodes n
  counting n h e = record {
    digits = λ k d lt. passed_digit (get_or (digits_at nodes n) k d) ((counted nodes kernel).digits n k d h e lt);
    few = (counted nodes kernel).few n h e;
    bits = (counted nodes kernel).bits n h e;
  }

  alone : (n : ℕ) → n < length nodes → kind_at nodes n ≡ K.Counter → length (digits_at nodes n) ≡ 1
  alone n h e = (counted nodes kernel).alone n h e

  part : (n place : ℕ) → n < length nodes → kind_at nodes n ≡ K.Part place → IsPartOf nodes n place
  part n place h e =
      let p = (counted nodes kernel).parts n place none h e in
      let chain = operand_at nodes n 0 in
      record {
        one = p.one;
        inside = p.inside;
        chain = by_kind (kind_at nodes chain) p.kind;
        digit = get_or (digits_at nodes chain) place none;
        at = there (digits_at nodes chain) place none p.within;
        bits = p.bits;
      }
    where
      none : CounterDigit
      none = record { last = 0; inc = 0; bits = 0 }

      by_kind : (kind : Kind) → is_chain kind ≡ true → kind ≡ K.Chain
      by_kind K.Chain e = refl
      by_kind kind e = absurd (cc)

      there : (ds : List CounterDigit) (k : ℕ) (d : CounterDigit) → k < length ds → slice_get ds k ≡ Some (get_or ds k d)
      there [] k d lt = absurd (omega arith)
      there (x ∷ xs) zero d lt = refl
      there (x ∷ xs) (suc k) d lt = there xs k d (omega arith)

  pub counters : AreCounting nodes
  counters = record { counting = counting; alone = alone; parts = part }
