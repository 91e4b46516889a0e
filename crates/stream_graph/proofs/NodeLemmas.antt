-- What holds of the nodes of every kernel.
use Rattle.std.proofs.Common.{
  ◌≡◌,
  ℕ,
  zero,
  suc,
  ◌≤◌,
  ◌<◌,
  List,
  [],
  ◌∷◌,
  length,
  true,
  get_or,
  refl,
  ap,
  sym,
  ◌∙◌,
  subst,
  arith,
  inl,
  inr,
  ⊎_elim,
}
use Rattle.std.proofs.Props.{props}
use Rattle.std.proofs.Math.Logic.{∥∥₁_elim}
use Rattle.std.specs.Prelude.{All, ℤ, unsigned_abs, Option, Some, None, slice_get}
use Rattle.std.proofs.lemmas.List.Elements.{All-nil, All-cons}
use Rattle.std.proofs.lemmas.List.{get_or_past}
use Rattle.std.proofs.lemmas.Bool.{cases_lt}
use Rattle.mx_bits.specs.declared.op.Op.{Op}
use Rattle.mx_bits.specs.declared.op.Op.TheVariants.{Mux}
use Rattle.fix_arith.specs.declared.types.StreamType.{StreamType}
use Rattle.fix_arith.specs.declared.types.RoundMode.{RoundMode}
use Rattle.fix_arith.specs.Types.{HasWidth}
use Rattle.fix_arith.specs.Table.{GivesType}
use Rattle.kernel_calls.specs.declared.call.Call.{Call}
use Rattle.kernel_calls.specs.declared.call.Call.TheVariants as C
use Rattle.kernel_calls.specs.Calls.{count_of, Makes}
use Rattle.kernel_calls.specs.Laws.{IsLawful, AreStreams, MayControl, IsControl}
use Rattle.stream_graph.specs.declared.node.Kind.{Kind}
use Rattle.stream_graph.specs.declared.node.Kind.TheVariants as K
use Rattle.stream_graph.specs.declared.node.Node.{Node}
use Rattle.stream_graph.specs.Kernels.{AreKernel}
use Rattle.stream_graph.specs.Nodes.{
  later,
  connected_to,
  digits_to,
  IsKind,
  type_of,
  operands_by,
  one_or_none,
  IsNode,
  AreNodes,
}
use Rattle.stream_graph.specs.Steps.{WereLawful}
use Rattle.stream_graph.specs.LookUps.{node_at, kind_at, operands_at, operand_at, no_node}
use Rattle.stream_graph.specs.Kinds.{is_steady, fixed_operands, IsCallOf}
use Rattle.stream_graph.proofs.KindLemmas.{made_by, steady_fixed}
use Rattle.stream_graph.proofs.Facts.{made_below}
use Rattle.stream_graph.proofs.CallLemmas.{
  made,
  stream_below,
  WasLawful,
  was_lawful,
  were_later,
  digit_width,
  chain_bits_most,
  chain_bits_least,
  connected_below,
  short_name,
}

-- ---- operations

-- an operation has at least so many operands
abbrev pub least_args : Op → ℕ
least_args Mux = 2
least_args _ = 1

pub record HasArgs (op : Op) (count : ℕ) : Type 0 where
  pub least : least_args op ≤ count
  pub few : count ≤ 65

args_of : (op : Op) (types : List StreamType) (k : ℕ) (out : StreamType)
    → GivesType op types k out → HasArgs op (length types)
args_of Mux types k out g =
    let o = g.1.options refl in record { least = omega arith; few = omega arith }
args_of _ types k out g = let e = g.0 in record { least = omega arith; few = omega arith }

streams_below : (so_far : List Call) (args : List ℕ) (types : List StreamType)
    → AreStreams so_far args types →
    All (λ o. o < count_of so_far) args × (length args ≡ length types)
streams_below so_far [] [] s = (All-nil (λ o. o < count_of so_far), refl)
streams_below so_far (n ∷ ns) (t ∷ ts) s =
    let r = streams_below so_far ns ts s.1 in
    (All-cons (λ o. o < count_of so_far) n ns (stream_below so_far n t s.0) r.0, ap suc r.1)
streams_below so_far [] (t ∷ ts) s = absurd s
streams_below so_far (n ∷ ns) [] s = absurd s

-- ---- the operands of calls

control_below : (so_far : List Call) (n : ℕ) → IsControl so_far n → n < count_of so_far
control_below so_far n (inl s) = stream_below so_far n _ s
control_below so_far n (inr s) = stream_below so_far n _ s

one_below : (so_far : List Call) (control : Option ℕ) → MayControl so_far control →
    All (λ o. o < count_of so_far) (one_or_none control) × (length (one_or_none control) ≤ 1)
one_below so_far None m = (All-nil (λ o. o < count_of so_far), omega arith)
one_below so_far (Some n) m = (
  All-cons (λ o. o < count_of so_far) n [] (control_below so_far n m) (All-nil (λ o. o < count_of
      so_far)),
  omega arith,
)

further : (m n : ℕ) (xs : List ℕ) → m ≤ n → All (λ o. o < m) xs → All (λ o. o < n) xs
further m n xs h a = λ k d l. let b = a k d l in omega arith

two_at_most : (n : ℕ) → (2 ≤ n → ⊥) → n ≤ 1
two_at_most n never = ⊎_elim (λ (l : n < 2). omega arith) (λ (g : 2 ≤ n). absurd (never g))
    (cases_lt n 2)

some_of : {A : Type 0} (xs : List A) → (xs ≡ [] → ⊥) → 1 ≤ length xs
some_of [] never = absurd (never refl)
some_of (x ∷ xs) never = omega arith

some_eq : {A : Type 0} {x y : A} → Some x ≡ Some y → x ≡ y
some_eq e = cc

none_some : {A : Type 0} {x : A} → None ≡ Some x → ⊥
none_some e = cc

-- each feed is connected once at most
abbrev OnceConnected : List Call → Type 0
OnceConnected so_far = (n : ℕ) → ((t : StreamType) × Makes so_far n (C.Feed t) × (2 ≤ length
    (connected_to so_far n))) → ⊥

-- each chain has a digit
abbrev SomeDigits : List Call → Type 0
SomeDigits so_far = (n : ℕ) → (Makes so_far n C.Chain × (digits_to so_far n ≡ [])) → ⊥

-- each feed is connected
abbrev SomeConnected : List Call → Type 0
SomeConnected so_far = (n : ℕ) → ((t : StreamType) × Makes so_far n (C.Feed t) ×
    (connected_to so_far n ≡ [])) → ⊥

pub record HasOperandsBelow (so_far : List Call) (operands : List ℕ) : Type 0 where
  pub below : All (λ o. o < count_of so_far) operands
  pub few : length operands ≤ 65

operands_below : (so_far : List Call) (n : ℕ) (call : Call) → WereLawful so_far
    → OnceConnected so_far →
    Makes so_far n call → WasLawful n call → HasOperandsBelow so_far (operands_by so_far n call)
operands_below so_far n (C.Input name t control) w once m l =
    let b = made_below so_far n _ m in
    let o = one_below l.older control l.lawful.2 in
    let e = l.count in
    record {
      below = further (count_of l.older) (count_of so_far) (one_or_none control) (omega
          arith) o.0;
      few = (let f = o.1 in omega arith);
    }
operands_below so_far n (C.Output name value control t) w once m l =
    let b = made_below so_far n _ m in
    let o = one_below l.older control l.lawful.2 in
    let e = l.count in
    record {
      below = further (count_of l.older) (count_of so_far) (value ∷ one_or_none control) (omega
          arith)
          (All-cons (λ o. o < count_of l.older) value (one_or_none control) (stream_below l.older
          value t l.lawful.1) o.0);
      few = (let f = o.1 in omega arith);
    }
operands_below so_far n (C.Operation op mode amount args t) w once m l =
    let b = made_below so_far n _ m in
    let s = streams_below l.older args l.lawful.0 l.lawful.1 in
    let a = args_of op l.lawful.0 amount t l.lawful.2 in
    let e = l.count in
    let f = a.few in
    let q = s.1 in
    record {
      below = further (count_of l.older) (count_of so_far) args (omega arith) s.0;
      few =
          omega arith;
    }
operands_below so_far n (C.Offset value k t) w once m l =
    let b = made_below so_far n _ m in
    let e = l.count in
    let v = stream_below l.older value t l.lawful.0 in
    record {
      below = All-cons (λ o. o < count_of so_far) value [] (omega arith) (All-nil (λ o. o <
          count_of so_far));
      few = omega arith;
    }
operands_below so_far n (C.Feed t) w once m l =
    let f = two_at_most (length (connected_to so_far n)) (λ h. once n (t, m, h)) in
    record { below = connected_below so_far n w; few = omega arith }
operands_below so_far n (C.Hold value store t) w once m l =
    let b = made_below so_far n _ m in
    let e = l.count in
    let v = stream_below l.older value t l.lawful.0 in
    let c = control_below l.older store l.lawful.1 in
    record {
      below = All-cons (λ o. o < count_of so_far) value (store ∷ []) (omega arith)
          (All-cons (λ o. o < count_of so_far) store [] (omega arith) (All-nil (λ o. o < count_of
          so_far)));
      few = omega arith;
    }
operands_below so_far n (C.ChainDigit chain d) w once m l =
    let b = made_below so_far n _ m in
    let e = l.count in
    let v = made_below l.older chain _ l.lawful.0 in
    record {
      below = All-cons (λ o. o < count_of so_far) chain [] (omega arith) (All-nil (λ o. o <
          count_of so_far));
      few = omega arith;
    }
operands_below so_far n _ w once m l =
    record { below = All-nil (λ o. o < count_of so_far); few = omega arith }

-- ---- the types of nodes

node_width : (so_far : List Call) (n : ℕ) (call : Call) (kind : Kind) → WereLawful so_far →
    SomeDigits so_far → Makes so_far n call → WasLawful n call → IsKind so_far n call kind →
    HasWidth (type_of so_far n call)
node_width so_far n (C.Input name t control) kind w some m l i = l.lawful.1
node_width so_far n (C.Output name value control t) kind w some m l i = l.lawful.3
node_width so_far n (C.Scalar name t) kind w some m l i = l.lawful.1
node_width so_far n (C.Constant bits t) kind w some m l i = l.lawful.0
node_width so_far n (C.Operation op mode amount args t) kind w some m l i = l.lawful.3
node_width so_far n (C.Offset value k t) kind w some m l i = l.lawful.2
node_width so_far n (C.Feed t) kind w some m l i = l.lawful
node_width so_far n (C.Connect feed value) kind w some m l i = absurd i
node_width so_far n (C.Hold value store t) kind w some m l i = l.lawful.2
node_width so_far n (C.Counter d) kind w some m l i = digit_width d l.lawful
node_width so_far n C.Chain kind w some m l i =
    let least = chain_bits_least so_far n w in
    let most = chain_bits_most so_far n w in
    let one = some_of (digits_to so_far n) (λ e. some n (m, e)) in
    (omega arith, omega arith)
node_width so_far n (C.ChainDigit chain d) kind w some m l i = digit_width d l.lawful.1

-- ---- offsets and operations

pub record IsOffset (n : ℕ) (ticks : ℤ) (operands : List ℕ) : Type 0 where
  pub value : ℕ
  pub operand : operands ≡ value ∷ []
  pub earlier : value < n
  pub few : unsigned_abs ticks ≤ 1048576

offset_call : (so_far : List Call) (n : ℕ) (call : Call) (ticks : ℤ) → WasLawful n call →
    IsCallOf (K.Offset ticks) call → IsOffset n ticks (operands_by so_far n call)
offset_call so_far n call ticks l (value, t, e) =
    let lawful = subst (λ c. IsLawful l.older c) e l.lawful in
    let v = stream_below l.older value t lawful.0 in
    let q = l.count in
    record {
      value = value;
      operand = ap (λ c. operands_by so_far n c) e;
      earlier = omega arith;
      few = lawful.1;
    }

operation_call : (so_far : List Call) (n : ℕ) (call : Call) (op : Op) (mode : RoundMode) (amount : ℕ) →
    WasLawful n call → IsCallOf (K.Operation op mode amount) call →
    least_args op ≤ length (operands_by so_far n call)
operation_call so_far n call op mode amount l (args, t, e) =
    let lawful = subst (λ c. IsLawful l.older c) e l.lawful in
    let s = (streams_below l.older args lawful.0 lawful.1).1 in
    let a = (args_of op lawful.0 amount t lawful.2).least in
    let same = ap (λ c. length (operands_by so_far n c)) e in
    omega arith

-- the operands of a node whose kind says how many it has
fixed_call : (so_far : List Call) (n count : ℕ) (call : Call) (kind : Kind) → OnceConnected so_far →
    SomeConnected so_far → Makes so_far n call → IsKind so_far n call kind →
    fixed_operands kind ≡ Some count → length (operands_by so_far n call) ≡ count
fixed_call so_far n count (C.Feed t) kind once some m i e =
    let most = two_at_most (length (connected_to so_far n)) (λ h. once n (t, m, h)) in
    let least = some_of (connected_to so_far n) (λ h. some n (t, m, h)) in
    let one : 1 ≡ count = some_eq (sym (ap fixed_operands i) ∙ e) in
    omega arith
fixed_call so_far n count (C.Connect feed value) kind once some m i e = absurd i
fixed_call so_far n count (C.Constant bits t) kind once some m i e =
    some_eq (sym (ap fixed_operands i.1) ∙ e)
fixed_call so_far n count (C.Input name t control) kind once some m i e =
    absurd (none_some (sym (ap fixed_operands i) ∙ e))
fixed_call so_far n count (C.Output name value control t) kind once some m i e =
    absurd (none_some (sym (ap fixed_operands i) ∙ e))
fixed_call so_far n count (C.Operation op mode amount args t) kind once some m i e =
    absurd (none_some (sym (ap fixed_operands i) ∙ e))
fixed_call so_far n count _ kind once some m i e = some_eq (sym (ap fixed_operands i) ∙ e)

-- ---- nodes

-- the call of a node
pub record IsOf (so_far : List Call) (nodes : List Node) (n : ℕ) : Type 0 where
  pub call : Call
  pub makes : Makes so_far n call
  pub was : WasLawful n call
  pub is : IsNode so_far n call (node_at nodes n)

got : {X : Type 0} (xs : List X) (n : ℕ) (x d : X) → slice_get xs n ≡ Some x → x ≡ get_or xs n d
got [] n x d e = absurd (cc)
got (y ∷ ys) zero x d e = cc
got (y ∷ ys) (suc n) x d e = got ys n x d e

pub of_node : (so_far : List Call) (nodes : List Node) (n : ℕ) → WereLawful so_far
    → AreNodes so_far nodes →
    n < length nodes → IsOf so_far nodes n
of_node so_far nodes n w a h =
    let e = a.count in
    let m = made so_far n (omega arith) in
    let p = a.each n m.0 m.1 in
    record {
      call = m.0;
      makes = m.1;
      was = was_lawful so_far n m.0 w m.1;
      is = subst (λ q. IsNode so_far n m.0 q) (got nodes n p.0 no_node p.1) p.2;
    }

-- what the crate uses of a kernel's nodes
pub record IsOrderly (nodes : List Node) : Type 0 where
  pub operands : (n i : ℕ) → n < length nodes → i < length (operands_at nodes n)
      → operand_at nodes n i < length nodes
  pub few : (n : ℕ) → n < length nodes → length (operands_at nodes n) ≤ 65
  pub widths : (n : ℕ) → n < length nodes → HasWidth (node_at nodes n).view.t
  pub offsets : (n : ℕ) (ticks : ℤ) → n < length nodes → kind_at nodes n ≡ K.Offset ticks →
      (0 < length (operands_at nodes n)) × (operand_at nodes n 0 < n) × (unsigned_abs ticks ≤
      1048576)
  pub operations : (n : ℕ) (op : Op) (mode : RoundMode) (amount : ℕ) → n < length nodes →
      kind_at nodes n ≡ K.Operation op mode amount → least_args op ≤ length (operands_at nodes n)
  pub steady : (n : ℕ) → n < length nodes → is_steady (kind_at nodes n) ≡ true
      → length (operands_at nodes n) ≤ 0
  pub fixed : (n count : ℕ) → n < length nodes → fixed_operands (kind_at nodes n) ≡ Some count
      → length (operands_at nodes n) ≡ count

orderly_so_far : (so_far : List Call) (nodes : List Node) → WereLawful so_far → SomeDigits so_far →
    OnceConnected so_far → SomeConnected so_far → AreNodes so_far nodes → IsOrderly nodes
orderly_so_far so_far nodes w some once connected a =
    record {
      operands = λ n i h l.
          let o = of_node so_far nodes n w a h in
          let b = operands_below so_far n o.call w once o.makes o.was in
          let c = a.count in
          let q : All (λ v. v < count_of so_far) (operands_at nodes n) =
          subst (λ xs. All (λ v. v < count_of so_far) xs) (sym o.is.operands) b.below in
          let r = q i 0 l in
          omega arith;
      few = λ n h.
          let o = of_node so_far nodes n w a h in
          let b = (operands_below so_far n o.call w once o.makes o.was).few in
          let q = ap length o.is.operands in
          omega arith;
      widths = λ n h.
          let o = of_node so_far nodes n w a h in
          subst (λ t. HasWidth t) (sym o.is.t) (node_width so_far n o.call (kind_at nodes n) w some
          o.makes o.was o.is.kind);
      offsets = λ n ticks h e.
          let o = of_node so_far nodes n w a h in
          let f = offset_call so_far n o.call ticks o.was (made_by so_far n o.call (K.Offset ticks)
          (subst (λ k. IsKind so_far n o.call k) e o.is.kind)) in
          let q : operands_at nodes n ≡ f.value ∷ [] = o.is.operands ∙ f.operand in
          let one = ap length q in
          let first : operand_at nodes n 0 ≡ f.value = ap (λ xs. get_or xs 0 0) q in
          let earlier = f.earlier in
          (omega arith, omega arith, f.few);
      operations = λ n op mode amount h e.
          let o = of_node so_far nodes n w a h in
          let f = operation_call so_far n o.call op mode amount o.was (made_by so_far n o.call
          (K.Operation op mode amount) (subst (λ k. IsKind so_far n o.call k) e o.is.kind)) in
          let q = ap length o.is.operands in
          omega arith;
      steady = λ n h e.
          let o = of_node so_far nodes n w a h in
          let none = fixed_call so_far n 0 o.call (kind_at nodes n) once connected o.makes o.is.kind
          (steady_fixed (kind_at nodes n) e) in
          let q = ap length o.is.operands in
          omega arith;
      fixed = λ n count h e.
          let o = of_node so_far nodes n w a h in
          ap length o.is.operands ∙ fixed_call so_far n count o.call (kind_at nodes n) once connected
          o.makes o.is.kind e;
    }

pub orderly : (nodes : List Node) → ∥ AreKernel nodes ∥₁ → IsOrderly nodes
orderly nodes kernel =
    ∥∥₁_elim {P = IsOrderly nodes} kernel (hlevel props)
    (λ k. orderly_so_far (later [] k.0) nodes (were_later [] k.0 tt k.1) k.2.chains k.2.once k.2.connected k.3)

-- ---- the names of nodes

short_so_far : (so_far : List Call) (nodes : List Node) → WereLawful so_far
    → AreNodes so_far nodes → (n : ℕ) → length (node_at nodes n).name ≤ 64
short_so_far so_far nodes w a n = ⊎_elim
    (λ (h : n < length nodes).
    let o = of_node so_far nodes n w a h in
    let short = short_name o.was.older o.call o.was.lawful in
    let same = ap length o.is.name in
    omega arith)
    (λ (h : length nodes ≤ n).
    let none : length (node_at nodes n).name ≡ 0 =
    ap (λ (node : Node). length node.name) (get_or_past nodes n no_node h) in
    omega arith)
    (cases_lt n (length nodes))

-- the name of a node has at most 64 bytes; one that is no port has none
pub short_names : (nodes : List Node) → ∥ AreKernel nodes ∥₁ → (n : ℕ)
    → length (node_at nodes n).name ≤ 64
short_names nodes kernel =
    ∥∥₁_elim {P = (n : ℕ) → length (node_at nodes n).name ≤ 64} kernel (hlevel props)
    (λ k. short_so_far (later [] k.0) nodes (were_later [] k.0 tt k.1) k.3)
