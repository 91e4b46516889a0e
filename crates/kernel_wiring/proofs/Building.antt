-- The wires of one node: what they are made of.
use Rattle.std.proofs.Common.{
  ◌≡◌,
  ◌∙◌,
  ℕ,
  suc,
  ◌/◌,
  ◌%◌,
  ◌^◌,
  ◌<◌,
  Bool,
  true,
  false,
  List,
  [],
  ◌∷◌,
  map,
  length,
  get_or,
  Some,
  None,
  refl,
  ap,
  sym,
  subst,
  arith,
}
use Rattle.std.specs.Prelude.{All, slice_get}
use Rattle.std.proofs.lemmas.List.Elements.{All-nil, All-cons}
use Rattle.std.proofs.lemmas.Option.{get_or_from_slice_get}
use Rattle.mx_bits.specs.declared.op.Op.{Op}
use Rattle.mx_bits.specs.declared.word.Word.{Word}
use Rattle.counter_chains.specs.declared.digits.CounterDigit.{CounterDigit}
use Rattle.counter_chains.specs.Chains.{bits_below}
use Rattle.fix_arith.specs.declared.types.StreamType.{StreamType}
use Rattle.fix_arith.specs.declared.types.RoundMode.{RoundMode}
use Rattle.fix_arith.specs.Types.{HasWidth, width_of as type_width}
use Rattle.rtl_ir.specs.declared.design.Module.{Module}
use Rattle.rtl_ir.specs.Value.{Family, Contents, width_of}
use Rattle.rtl_ir.specs.Grow.{Holds}
use Rattle.rtl_build.specs.declared.signal.Signal.{Signal}
use Rattle.rtl_build.specs.Signals.{Makes}
use Rattle.rtl_build.proofs.Growing.{adds_more, adds_none}
use Rattle.rtl_ops.specs.Operands.{HasNets}
use Rattle.rtl_ops.specs.Fragments.{IsFragment}
use Rattle.stream_graph.specs.declared.node.Kind.{Kind}
use Rattle.stream_graph.specs.declared.node.Kind.TheVariants as K
use Rattle.stream_graph.specs.declared.node.Node.{Node}
use Rattle.stream_graph.specs.LookUps.{
  kind_at,
  operands_at,
  operand_at,
  width_at,
  type_at,
  digits_at,
}
use Rattle.kernel_types.specs.Types.{IsPartOf}
use Rattle.stream_graph.proofs.NodeLemmas.{IsOrderly}
use Rattle.kernel_layout.specs.declared.layout.Layout.{Layout}
use Rattle.kernel_layout.specs.declared.reads.Read.{Read}
use Rattle.kernel_layout.specs.Reads.{no_read, read_at}
use Rattle.kernel_wiring.specs.declared.timing.Timing.{Timing}
use Rattle.kernel_wiring.specs.Timing.{time_at}
use Rattle.kernel_wiring.specs.States.{MakesHeld}
use Rattle.kernel_wiring.specs.Words.{is_wired, signal_at, read_signal, read_net, reads_at, taps_at, IsWordOf}
use Rattle.kernel_wiring.specs.Costs.{word_wires}
use Rattle.kernel_wiring.specs.OneNode.{IsWired, takes, IsReadable, AddsWord}
use Rattle.kernel_wiring.proofs.Mapped.{slice_map}
use Rattle.kernel_types.specs.Types.{is_like, AreTyped}

-- the kinds whose word is their first operand's
abbrev pub is_copy : Kind → Bool
is_copy K.Output = true
is_copy K.Feed = true
is_copy _ = false

-- the reads of a node, as they were lent
pub same_reads : (layout : Layout) (n i : ℕ) (rs : List Read) → i ≡ n → slice_get layout.reads i ≡ Some rs → rs ≡ reads_at layout n
same_reads layout n i rs e h = sym (get_or_from_slice_get layout.reads i rs [] h) ∙ ap (λ k. get_or layout.reads k []) e

pub all_below : (nodes : List Node) (o : IsOrderly nodes) (n : ℕ) → n < length nodes → (operands : List ℕ) → operands ≡ operands_at nodes n → All
    (λ operand. operand < length nodes) operands
all_below nodes o n h operands e =
    subst (λ xs. All (λ operand. operand < length nodes) xs) (sym e) (below (operands_at nodes n) (λ i l. o.operands n i h l))
  where
    below : (xs : List ℕ) → ((i : ℕ) → i < length xs → get_or xs i 0 < length nodes) → All (λ operand. operand < length nodes) xs
    below [] a = All-nil (λ operand. operand < length nodes)
    below (x ∷ xs) a = All-cons (λ operand. operand < length nodes) x xs (a 0 (omega arith)) (below xs (λ i l. a (suc i) (omega (arith, l))))

types_wide : (nodes : List Node) (operands : List ℕ) → All (λ o. HasWidth (type_at nodes o)) operands → All HasWidth (map (type_at nodes) operands)
types_wide nodes [] a = All-nil HasWidth
types_wide nodes (o ∷ operands) a =
    All-cons HasWidth (type_at nodes o) (map (type_at nodes) operands) (a 0 0 (omega arith))
    (types_wide nodes operands (λ k d h. a (suc k) d (omega (arith, h))))

pub all_wide : (nodes : List Node) (o : IsOrderly nodes) (n : ℕ) → n < length nodes → (types : List StreamType) (operands : List ℕ)
    → operands ≡ operands_at nodes n
    → types ≡ map (type_at nodes) operands → All HasWidth types
all_wide nodes o n h types operands e t =
    let below = all_below nodes o n h operands e in
    subst (λ ts. All HasWidth ts) (sym t) (types_wide nodes operands (λ k d l. o.widths (get_or operands k d) (below k d l)))

-- the nets that are read have the types of the operands
nets_of : (m : Module) (nodes : List Node) (layout : Layout) (late : List (List Signal)) (words : List Signal) (operands : List ℕ)
    (reads : List Read) → length reads ≡ length operands
    → ((i : ℕ) → i < length operands → IsWordOf m nodes (get_or operands i 0) (read_signal layout late words (get_or reads i no_read)))
    → HasNets m (map (type_at nodes) operands) (map (read_net layout late words) reads)
nets_of m nodes layout late words [] [] e a = record { widths = refl; inner = tt }
nets_of m nodes layout late words [] (r ∷ reads) e a = absurd (omega (arith, e))
nets_of m nodes layout late words (o ∷ operands) [] e a = absurd (omega (arith, e))
nets_of m nodes layout late words (o ∷ operands) (r ∷ reads) e a =
    let one : IsWordOf m nodes o (read_signal layout late words r) = a 0 (omega arith) in
    let rest = nets_of m nodes layout late words operands reads (omega (arith, e)) (λ i l. a (suc i) (omega (arith, l))) in
    record {
      widths = ap (λ n. n ∷ map (width_of m) (map (read_net layout late words) reads)) (one.signal.width ∙ one.bits) ∙ ap
          (λ ns. width_at nodes o ∷ ns) rest.widths;
      inner = (one.signal.inner, rest.inner);
    }

takes_all : (k : Kind) (op : Op) (mode : RoundMode) (amount : ℕ) → k ≡ K.Operation op mode amount → (place : ℕ) → takes k place ≡ true
takes_all k op mode amount e place = ap (λ x. takes x place) e

wired_operation : (k : Kind) (op : Op) (mode : RoundMode) (amount : ℕ) → k ≡ K.Operation op mode amount → is_wired k ≡ true
wired_operation k op mode amount e = ap is_wired e

module _ (nodes : List Node) (layout : Layout) (late : List (List Signal)) (words : List Signal) (timing : Timing) (n : ℕ) where
  -- the most wires of the node's word
  abbrev own_wires : ℕ
  own_wires = word_wires nodes (kind_at nodes n) (operands_at nodes n)

  -- those of a node of this kind
  wires_of : (k : Kind) → kind_at nodes n ≡ k → own_wires ≡ word_wires nodes k (operands_at nodes n)
  wires_of k e = ap (λ kind. word_wires nodes kind (operands_at nodes n)) e

  pub operation_nets : (m : Module) → IsReadable m nodes layout late words n → (op : Op) (mode : RoundMode) (amount : ℕ)
      → kind_at nodes n ≡ K.Operation op mode amount
      → (types : List StreamType) (nets : List ℕ) → types ≡ map (type_at nodes) (operands_at nodes n) → nets ≡ taps_at layout late words n
      → HasNets m types nets
  operation_nets m r op mode amount e types nets t a =
      subst (λ ts. HasNets m ts nets) (sym t) (subst (λ ns. HasNets m (map (type_at nodes) (operands_at nodes n)) ns) (sym a)
      (nets_of m nodes layout late words (operands_at nodes n) (reads_at layout n) (r.counted (wired_operation (kind_at nodes n) op mode amount e))
      (λ i l. r.typed i l (takes_all (kind_at nodes n) op mode amount e i))))

  pub operation_added : (old new : Module) → IsReadable old nodes layout late words n
      → (op : Op) (mode : RoundMode) (amount : ℕ) → kind_at nodes n ≡ K.Operation op mode amount
      → (types : List StreamType) (nets : List ℕ) (out : StreamType) → types ≡ map (type_at nodes) (operands_at nodes n) → nets
      ≡ taps_at layout late words n → out ≡ type_at nodes n
      → (s : Signal) → IsFragment old new op mode types nets amount out s → AddsWord old new nodes layout late words timing n (Some s)
  operation_added old new r op mode amount e types nets out t a u s f =
      let taps = taps_at layout late words n in
      let own = map (type_at nodes) (operands_at nodes n) in
      let g : IsFragment old new op mode own taps amount (type_at nodes n) s =
      subst (λ x. IsFragment old new op mode own taps amount x s) u
      (subst (λ x. IsFragment old new op mode own x amount out s) a (subst (λ x. IsFragment old new op mode x nets amount out s) t f)) in
      let wired : IsWired new nodes timing taps (signal_at words n).net s.net n (K.Operation op mode amount) = g.value in
      record {
        adds = adds_more own_wires g.adds (omega (arith, wires_of (K.Operation op mode amount) e));
        some = sym (wired_operation (kind_at nodes n) op mode amount e);
        shows = (record { signal = g.signal; bits = g.width }, subst (λ k. IsWired new nodes timing taps (signal_at words n).net s.net n k) (sym e) wired);
      }

  pub constant_added : (old new : Module) → AreTyped nodes → n < length nodes → (word : Word) → kind_at nodes n ≡ K.Constant word
      → (s : Signal) → Makes old new 1 word.width (λ v. word.bits) s → AddsWord old new nodes layout late words timing n (Some s)
  constant_added old new t h word e s made =
      let wired : IsWired new nodes timing (taps_at layout late words n) (signal_at words n).net s.net n (K.Constant word) = made.value in
      record {
        adds = adds_more own_wires made.adds (omega (arith, wires_of (K.Constant word) e));
        some = sym (ap is_wired e);
        shows = (
          record { signal = made.signal; bits = made.width ∙ t.constants n word h e },
          subst
              (λ k. IsWired new nodes timing (taps_at layout late words n) (signal_at words n).net s.net n k) (sym e) wired,
        );
      }

  -- the net of a signal that was read is that of its tap
  tap_of : (i : ℕ) (s : Signal) → i < length (reads_at layout n) → s ≡ read_signal layout late words (read_at (reads_at layout n) i)
      → slice_get (taps_at layout late words n) i ≡ Some s.net
  tap_of i s h is = slice_map (read_net layout late words) (reads_at layout n) i no_read h ∙ ap (λ (x : Signal). Some x.net) (sym is)

  -- a node that gets wires reads each operand
  pub reads_some : (m : Module) → IsReadable m nodes layout late words n → is_wired (kind_at nodes n) ≡ true → (i : ℕ)
      → i < length (operands_at nodes n) → i < length (reads_at layout n)
  reads_some m r e i h = let same = r.counted e in omega (arith, same, h)

  copy_takes : (k : Kind) → is_copy k ≡ true → takes k 0 ≡ true
  copy_takes K.Output e = refl
  copy_takes K.Feed e = refl
  copy_takes _ e = absurd (cc)

  copy_wired : (k : Kind) → is_copy k ≡ true → is_wired k ≡ true
  copy_wired K.Output e = refl
  copy_wired K.Feed e = refl
  copy_wired _ e = absurd (cc)

  copy_is : (m : Module) (taps : List ℕ) (kept net : ℕ) (k : Kind) → is_copy k ≡ true → slice_get taps 0 ≡ Some net
      → IsWired m nodes timing taps kept net n k
  copy_is m taps kept net K.Output e q = q
  copy_is m taps kept net K.Feed e q = q
  copy_is m taps kept net _ e q = absurd (cc)

  copy_like : (k : Kind) → is_copy k ≡ true → is_like k ≡ true
  copy_like K.Output e = refl
  copy_like K.Feed e = refl
  copy_like _ e = absurd (cc)

  -- a node whose word is its first operand's has one
  pub copy_reads : (m : Module) → AreTyped nodes → n < length nodes → IsReadable m nodes layout late words n → is_copy (kind_at nodes n) ≡ true
      → 0 < length (reads_at layout n)
  copy_reads m t h r e = reads_some m r (copy_wired (kind_at nodes n) e) 0 (t.firsts n h (copy_like (kind_at nodes n) e)).some

  pub copy_added : (m : Module) → AreTyped nodes → n < length nodes → IsReadable m nodes layout late words n → is_copy (kind_at nodes n) ≡ true
      → (s : Signal) → s ≡ read_signal layout late words (read_at (reads_at layout n) 0) → AddsWord m m nodes layout late words timing n (Some s)
  copy_added m t h r e s is =
      let first = t.firsts n h (copy_like (kind_at nodes n) e) in
      let one = r.typed 0 first.some (copy_takes (kind_at nodes n) e) in
      record {
        adds = adds_none m own_wires;
        some = sym (copy_wired (kind_at nodes n) e);
        shows = (
          subst (λ x. IsWordOf m nodes n x) (sym is) (record { signal = one.signal; bits = one.bits ∙ ap type_width first.same }),
          copy_is m (taps_at layout late words n) (signal_at words n).net s.net (kind_at nodes n) e (tap_of 0 s (copy_reads m t h r e) is),
        );
      }

  pub part_added : (old new : Module) → IsReadable old nodes layout late words n → (place bits : ℕ) → kind_at nodes n ≡ K.Part place
      → IsPartOf nodes n place → bits ≡ width_at nodes n → (digits : List CounterDigit) → digits ≡ digits_at nodes (operand_at nodes n 0)
      → (chain s : Signal) → chain ≡ read_signal layout late words (read_at (reads_at layout n) 0)
      → Makes old new 1 bits (λ v. v chain.net / 2 ^ bits_below digits place % 2 ^ bits) s
      → AddsWord old new nodes layout late words timing n (Some s)
  part_added old new r place bits e p b digits d chain s is made =
      let taps = taps_at layout late words n in
      let one = p.one in
      let own : Makes old new 1 (width_at nodes n) (λ v. v chain.net / 2 ^ bits_below digits place % 2 ^ width_at nodes n) s =
      subst (λ w. Makes old new 1 w (λ v. v chain.net / 2 ^ bits_below digits place % 2 ^ w) s) b made in
      let shows : (c : Contents) (f : Family) → Holds new c f
      → f s.net ≡ f chain.net / 2 ^ bits_below (digits_at nodes (operand_at nodes n 0)) place % 2 ^ width_at nodes n =
      subst (λ (xs : List CounterDigit). (c : Contents) (f : Family) → Holds new c f → f s.net ≡ f chain.net / 2 ^ bits_below xs place
      % 2 ^ width_at nodes n) d own.value in
      let wired : IsWired new nodes timing taps (signal_at words n).net s.net n (K.Part place) =
      record { chain = chain.net; first = tap_of 0 chain (reads_some old r (ap is_wired e) 0 (omega (arith, one))) is; shows = shows } in
      record {
        adds = adds_more own_wires made.adds (omega (arith, wires_of (K.Part place) e));
        some = sym (ap is_wired e);
        shows = (
          record { signal = own.signal; bits = own.width },
          subst (λ k. IsWired new nodes timing taps (signal_at words n).net s.net n k) (sym e) wired,
        );
      }

  -- the signals that a hold reads
  pub record IsHoldRead (from store : Signal) : Type 0 where
    pub first : from ≡ read_signal layout late words (read_at (reads_at layout n) 0)
    pub second : store ≡ read_signal layout late words (read_at (reads_at layout n) 1)

  pub hold_added : (old new : Module) → AreTyped nodes → n < length nodes → IsReadable old nodes layout late words n → kind_at nodes n ≡ K.Hold
      → (time : ℕ) (from store kept s : Signal) → time ≡ time_at timing n → kept ≡ signal_at words n → IsHoldRead from store
      → MakesHeld old new timing.position.net timing.ticks.net time store.net from kept.net s
      → AddsWord old new nodes layout late words timing n (Some s)
  hold_added old new t h r e time from store kept s at k reads made =
      let taps = taps_at layout late words n in
      let count = t.holds n h e in
      let wires = ap is_wired e in
      let first = t.firsts n h (ap is_like e) in
      let one = r.typed 0 first.some (ap (λ x. takes x 0) e) in
      let own : MakesHeld old new timing.position.net timing.ticks.net (time_at timing n) store.net from (signal_at words n).net s =
      subst (λ (x : Signal). MakesHeld old new timing.position.net timing.ticks.net (time_at timing n) store.net from x.net s) k
      (subst (λ x. MakesHeld old new timing.position.net timing.ticks.net x store.net from kept.net s) at made) in
      let wired : IsWired new nodes timing taps (signal_at words n).net s.net n K.Hold = record {
        from = from.net;
        first = tap_of 0 from (reads_some old r wires 0 first.some) reads.first;
        store = store.net;
        second = tap_of 1 store (reads_some old r wires 1 (omega (arith, count))) reads.second;
        on = own.on;
        stores = own.stores;
        shows = own.shows;
      } in
      record {
        adds = adds_more own_wires own.adds (omega (arith, wires_of K.Hold e));
        some = sym wires;
        shows = (
          record {
            signal = own.wide.signal;
            bits = own.wide.width ∙ ap (λ (x : Signal). x.width) reads.first ∙ one.bits ∙ ap type_width first.same;
          },
          subst (λ k. IsWired new nodes timing taps (signal_at words n).net s.net n k) (sym e) wired,
        );
      }

  pub none_added : (m : Module) → is_wired (kind_at nodes n) ≡ false → AddsWord m m nodes layout late words timing n None
  none_added m e = record { adds = adds_none m own_wires; some = sym e; shows = tt }

pub not_wired : (k : Kind) → (k ≡ K.Output → ⊥) → ((word : Word) → k ≡ K.Constant word → ⊥)
    → ((op : Op) (mode : RoundMode) (amount : ℕ) → k ≡ K.Operation op mode amount → ⊥) → (k ≡ K.Feed → ⊥)
    → ((place : ℕ) → k ≡ K.Part place → ⊥) → (k ≡ K.Hold → ⊥) → is_wired k ≡ false
not_wired K.Output a b c d p h = absurd (a refl)
not_wired (K.Constant word) a b c d p h = absurd (b word refl)
not_wired (K.Operation op mode amount) a b c d p h = absurd (c op mode amount refl)
not_wired K.Feed a b c d p h = absurd (d refl)
not_wired K.Hold a b c d p h = absurd (h refl)
not_wired (K.Part place) a b c d p h = absurd (p place refl)
not_wired _ a b c d p h = refl
