-- The types of a kernel's nodes and of their operands.
use Rattle.std.proofs.Common.{
  ◌≡◌,
  ◌∙◌,
  ℕ,
  zero,
  suc,
  ◌<◌,
  Bool,
  true,
  false,
  cond,
  eqb,
  List,
  [],
  ◌∷◌,
  ◌++◌,
  map,
  length,
  get_or,
  Option,
  Some,
  None,
  refl,
  ap,
  sym,
  subst,
  arith,
  inl,
  inr,
  ◌⊎◌,
  ⊎_elim,
}
use Rattle.std.proofs.Props.{props}
use Rattle.std.proofs.Math.Logic.{∥∥₁_elim}
use Rattle.std.specs.Prelude.{All, ℤ, slice_get}
use Rattle.std.proofs.lemmas.Bool.{false≢true}
use Rattle.std.proofs.lemmas.List.Elements.{All-nil, All-cons, All-append}
use Rattle.mx_bits.specs.declared.op.Op.{Op}
use Rattle.mx_bits.specs.declared.op.Op.TheVariants.{Add, Sub, Mul, Div, Neg, And, Or, Xor, Not, Shl, Shr, Eq, Ne, Lt, Le, Gt, Ge, Mux, Cast, Round}
use Rattle.mx_bits.specs.declared.word.Word.{Word}
use Rattle.fix_arith.specs.declared.types.StreamType.{StreamType}
use Rattle.fix_arith.specs.declared.types.RoundMode.{RoundMode}
use Rattle.fix_arith.specs.Types.{width_of}
use Rattle.fix_arith.specs.Table.{GivesType}
use Rattle.kernel_calls.specs.declared.call.Call.{Call}
use Rattle.kernel_calls.specs.declared.call.Call.TheVariants as C
use Rattle.kernel_calls.specs.Calls.{count_of, nodes_of, stream_of, Makes}
use Rattle.kernel_calls.specs.Laws.{IsStream, AreStreams, IsControl, MayControl, IsLawful}
use Rattle.stream_graph.specs.declared.node.Kind.{Kind}
use Rattle.stream_graph.specs.declared.node.Kind.TheVariants as K
use Rattle.stream_graph.specs.declared.node.Node.{Node}
use Rattle.stream_graph.specs.Kernels.{AreKernel}
use Rattle.stream_graph.specs.Nodes.{later, connected_to, one_or_none, IsKind, type_of, operands_by, IsNode, AreNodes}
use Rattle.stream_graph.specs.Steps.{WereLawful}
use Rattle.stream_graph.specs.LookUps.{node_at, kind_at, operands_at, width_at, no_node, type_at}
use Rattle.stream_graph.specs.Kinds.{is_like_first, takes_bit, fixed_operands}
use Rattle.stream_graph.proofs.Facts.{makes_cases, makes_older}
use Rattle.stream_graph.proofs.KindLemmas.{made_by, takes_at, control_call, like_call}
use Rattle.stream_graph.proofs.CallLemmas.{made, were_later}
use Rattle.stream_graph.proofs.NodeLemmas.{IsOrderly, orderly}
use Rattle.kernel_types.specs.Types.{HasFirst, AreTyped}

-- ---- streams

stream_type : (so_far : List Call) (n : ℕ) (call : Call) (t : StreamType) → stream_of call ≡ Some t → type_of so_far n call ≡ t
stream_type so_far n (C.Output name value control u) t e = absurd (cc)
stream_type so_far n (C.Connect feed value) t e = absurd (cc)
stream_type so_far n C.Chain t e = absurd (cc)
stream_type so_far n _ t e = cc

got : {X : Type 0} (xs : List X) (n : ℕ) (x d : X) → slice_get xs n ≡ Some x → x ≡ get_or xs n d
got [] n x d e = absurd (cc)
got (y ∷ ys) zero x d e = cc
got (y ∷ ys) (suc n) x d e = got ys n x d e

node_of : (so_far : List Call) (nodes : List Node) (n : ℕ) (call : Call) → AreNodes so_far nodes → Makes so_far n call
    → IsNode so_far n call (node_at nodes n)
node_of so_far nodes n call a m =
    let p = a.each n call m in
    subst (λ q. IsNode so_far n call q) (got nodes n p.0 no_node p.1) p.2

-- ---- the calls before the one that made a node

record WasCalled (so_far : List Call) (n : ℕ) (call : Call) : Type 0 where
  older : List Call
  lawful : IsLawful older call
  lifted : (k : ℕ) (c : Call) → Makes older k c → Makes so_far k c

was_called : (so_far : List Call) (n : ℕ) (call : Call) → WereLawful so_far → Makes so_far n call → WasCalled so_far n call
was_called [] n call w h = absurd h
was_called (newest ∷ older) n call w h = by_newest (makes_cases newest older n call h) (λ g. was_called older n call w.1 g) w.0
  where
    by_newest : ((nodes_of newest ≡ 1) × (n ≡ count_of older) × (call ≡ newest)) ⊎ Makes older n call
        → (Makes older n call → WasCalled older n call) → IsLawful older newest → WasCalled (newest ∷ older) n call
    by_newest (inl p) rest l = record {
      older = older;
      lawful = subst (λ c. IsLawful older c) (sym p.2) l;
      lifted = λ k c m. makes_older newest older k c m;
    }
    by_newest (inr g) rest l =
        let r = rest g in
        record { older = r.older; lawful = r.lawful; lifted = λ k c m. makes_older newest older k c (r.lifted k c m) }

-- what streams among some calls are
abbrev AreKnown : List Node → List Call → Type 0
AreKnown nodes calls = (n : ℕ) (t : StreamType) → IsStream calls n t → type_at nodes n ≡ t

all_known : (so_far : List Call) (nodes : List Node) → AreNodes so_far nodes → AreKnown nodes so_far
all_known so_far nodes a n t s = (node_of so_far nodes n s.0 a s.1).t ∙ stream_type so_far n s.0 t s.2

older_known : (nodes : List Node) {so_far : List Call} {n : ℕ} {call : Call} → AreKnown nodes so_far → (w : WasCalled so_far n call)
    → AreKnown nodes w.older
older_known nodes known w n t s = known n t (s.0, w.lifted n s.0 s.1, s.2)

control_known : (nodes : List Node) (calls : List Call) (n : ℕ) → AreKnown nodes calls → IsControl calls n → width_at nodes n ≡ 1
control_known nodes calls n known (inl s) = ap width_of (known n _ s)
control_known nodes calls n known (inr s) = ap width_of (known n _ s)

-- ---- feeds

-- two nodes have words of one type
abbrev IsLike : List Node → ℕ → ℕ → Type 0
IsLike nodes n v = type_at nodes v ≡ type_at nodes n

connected_known : (nodes : List Node) (so_far : List Call) (n : ℕ) → AreKnown nodes so_far
    → ((k : ℕ) (t : StreamType) → Makes so_far k (C.Feed t) → type_at nodes k ≡ t) → WereLawful so_far
    → All (IsLike nodes n) (connected_to so_far n)
connected_known nodes [] n known fed w = All-nil (IsLike nodes n)
connected_known nodes (newest ∷ older) n known fed w = by_call newest refl
    (connected_known nodes older n (λ k t s. known k t (s.0, makes_older newest older k s.0 s.1, s.2))
    (λ k t m. fed k t (makes_older newest older k (C.Feed t) m)) w.1)
  where
    by_test : (feed value : ℕ) (t : StreamType) (b : Bool) → eqb feed n ≡ b → Makes (newest ∷ older) feed (C.Feed t)
        → IsStream (newest ∷ older) value t → All (IsLike nodes n) (connected_to older n)
        → All (IsLike nodes n) (connected_to older n ++ cond b (value ∷ []) [])
    by_test feed value t true e m s r =
        let same : feed ≡ n = grind (arith, e) in
        All-append (IsLike nodes n) (connected_to older n) (value ∷ []) r
        (All-cons (IsLike nodes n) value [] (known value t s ∙ sym (fed feed t m) ∙ ap (type_at nodes) same) (All-nil (IsLike nodes n)))
    by_test feed value t false e m s r = All-append (IsLike nodes n) (connected_to older n) [] r (All-nil (IsLike nodes n))

    by_call : (call : Call) → newest ≡ call → All (IsLike nodes n) (connected_to older n) → All (IsLike nodes n) (connected_to (call ∷ older) n)
    by_call (C.Connect feed value) e r =
        let l : IsLawful older (C.Connect feed value) = subst (λ c. IsLawful older c) e w.0 in
        by_test feed value l.0 (eqb feed n) refl (makes_older newest older feed (C.Feed l.0) l.1)
        (l.2.0, makes_older newest older value l.2.0 l.2.1, l.2.2) r
    by_call _ e r = r

-- ---- calls by the kinds of their nodes

constant_call : (so_far : List Call) (n : ℕ) (call : Call) (kind : Kind) (word : Word) → IsKind so_far n call kind → kind ≡ K.Constant word
    → word.width ≡ width_of (type_of so_far n call)
constant_call so_far n (C.Constant bits t) kind word i e =
    let same : word ≡ i.0 = let q = i.1 in cc in
    ap (λ (x : Word). x.width) same ∙ i.3
constant_call so_far n (C.Connect feed value) kind word i e = absurd i
constant_call so_far n _ kind word i e = absurd (cc)

types_of : (nodes : List Node) (calls : List Call) (args : List ℕ) (types : List StreamType) → AreKnown nodes calls → AreStreams calls args types
    → map (type_at nodes) args ≡ types
types_of nodes calls [] [] known s = refl
types_of nodes calls [] (t ∷ types) known s = absurd s
types_of nodes calls (n ∷ args) [] known s = absurd s
types_of nodes calls (n ∷ args) (t ∷ types) known s =
    ap (λ u. u ∷ map (type_at nodes) args) (known n t s.0) ∙ ap (λ us. t ∷ us) (types_of nodes calls args types known s.1)

module _ (so_far : List Call) (nodes : List Node) (known : AreKnown nodes so_far) where
  operation_call : (n : ℕ) (call : Call) (kind : Kind) (op : Op) (mode : RoundMode) (amount : ℕ) → WasCalled so_far n call
      → IsKind so_far n call kind → kind ≡ K.Operation op mode amount
      → GivesType op (map (type_at nodes) (operands_by so_far n call)) amount (type_of so_far n call)
  operation_call n call kind op mode amount w i e =
      let m = made_by so_far n call (K.Operation op mode amount) (subst (λ k. IsKind so_far n call k) e i) in
      let l : IsLawful w.older (C.Operation op mode amount m.0 m.1) = subst (λ c. IsLawful w.older c) m.2 w.lawful in
      let are = types_of nodes w.older m.0 l.0 (older_known nodes known w) l.1 in
      subst (λ c. GivesType op (map (type_at nodes) (operands_by so_far n c)) amount (type_of so_far n c)) (sym m.2)
      (subst (λ ts. GivesType op ts amount m.1) (sym are) l.2)

  record IsFirstOf (n : ℕ) (operands : List ℕ) : Type 0 where
    some : 0 < length operands
    like : IsLike nodes n (get_or operands 0 0)

  first_of_all : (n : ℕ) (xs : List ℕ) → All (IsLike nodes n) xs → (xs ≡ [] → ⊥) → IsFirstOf n xs
  first_of_all n [] a none = absurd (none refl)
  first_of_all n (x ∷ xs) a none = record { some = omega arith; like = a 0 0 (omega arith) }

  first_call : (n : ℕ) (call : Call) (kind : Kind) → WereLawful so_far → ((k : ℕ) (t : StreamType) → Makes so_far k (C.Feed t) → type_at nodes k ≡ t)
      → ((k : ℕ) → ((t : StreamType) × Makes so_far k (C.Feed t) × (connected_to so_far k ≡ [])) → ⊥) → Makes so_far n call
      → WasCalled so_far n call → IsKind so_far n call kind → type_at nodes n ≡ type_of so_far n call → is_like_first kind ≡ true → IsFirstOf n
      (operands_by so_far n call)
  first_call n call kind l fed connected m w i u e = ⊎_elim
      (λ (p : (t : StreamType) × (call ≡ C.Feed t)).
      subst (λ c. IsFirstOf n (operands_by so_far n c)) (sym p.1)
      (first_of_all n (connected_to so_far n) (connected_known nodes so_far n known fed l)
      (λ q. connected n (p.0, subst (λ c. Makes so_far n c) p.1 m, q))))
      (λ (p : (0 < length (operands_by so_far n call)) × IsStream w.older (get_or (operands_by so_far n call) 0 0) (type_of so_far n call)).
      record { some = p.0; like = older_known nodes known w (get_or (operands_by so_far n call) 0 0) (type_of so_far n call) p.1 ∙ sym u })
      (like_call so_far w.older n call kind i e w.lawful)

  bit_call : (n : ℕ) (call : Call) (kind : Kind) (place : ℕ) → WasCalled so_far n call → IsKind so_far n call kind
      → takes_bit kind place ≡ true → place < length (operands_by so_far n call) → width_at nodes (get_or (operands_by so_far n call) place 0) ≡ 1
  bit_call n call kind place w i e h =
      control_known nodes w.older (get_or (operands_by so_far n call) place 0) (older_known nodes known w)
      (control_call so_far w.older n place call kind i (takes_at kind place e) w.lawful h)

-- ---- what the crate uses of a kernel's types

has_first : (nodes : List Node) (so_far : List Call) (known : AreKnown nodes so_far) (n : ℕ) (operands : List ℕ) → operands_at nodes n ≡ operands
    → IsFirstOf so_far nodes known n operands → HasFirst nodes n
has_first nodes so_far known n operands e f =
    let g : IsFirstOf so_far nodes known n (operands_at nodes n) = subst (λ xs. IsFirstOf so_far nodes known n xs) (sym e) f in
    record { some = g.some; same = g.like }

-- the call that made a node, and what the node is
record HasCall (so_far : List Call) (nodes : List Node) (n : ℕ) : Type 0 where
  call : Call
  makes : Makes so_far n call
  was : WasCalled so_far n call
  is : IsNode so_far n call (node_at nodes n)

call_of : (so_far : List Call) (nodes : List Node) → WereLawful so_far → AreNodes so_far nodes → (n : ℕ) → n < length nodes → HasCall so_far nodes n
call_of so_far nodes l a n h =
    let e = a.count in
    let m = made so_far n (omega (arith, h, e)) in
    record { call = m.0; makes = m.1; was = was_called so_far n m.0 l m.1; is = node_of so_far nodes n m.0 a m.1 }

typed_so_far : (so_far : List Call) (nodes : List Node) → IsOrderly nodes → WereLawful so_far
    → ((k : ℕ) → ((t : StreamType) × Makes so_far k (C.Feed t) × (connected_to so_far k ≡ [])) → ⊥) → AreNodes so_far nodes → AreTyped nodes
typed_so_far so_far nodes o l connected a =
    let known = all_known so_far nodes a in
    let fed : (k : ℕ) (t : StreamType) → Makes so_far k (C.Feed t) → type_at nodes k ≡ t = λ k t m. (node_of so_far nodes k (C.Feed t) a m).t in
    record {
      widths = o.widths;
      inside = o.operands;
      constants = λ n word h e.
          let c = call_of so_far nodes l a n h in
          constant_call so_far n c.call (kind_at nodes n) word c.is.kind e ∙ sym (ap width_of c.is.t);
      operations = λ n op mode amount h e.
          let c = call_of so_far nodes l a n h in
          let r = operation_call so_far nodes known n c.call (kind_at nodes n) op mode amount c.was c.is.kind e in
          subst (λ xs. GivesType op (map (type_at nodes) xs) amount (type_at nodes n)) (sym c.is.operands)
          (subst (λ t. GivesType op (map (type_at nodes) (operands_by so_far n c.call)) amount t) (sym c.is.t) r);
      firsts = λ n h e.
          let c = call_of so_far nodes l a n h in
          has_first nodes so_far known n (operands_by so_far n c.call) c.is.operands
          (first_call so_far nodes known n c.call (kind_at nodes n) l fed connected c.makes c.was c.is.kind c.is.t e);
      bits = λ n place h e lt.
          let c = call_of so_far nodes l a n h in
          let same = c.is.operands in
          subst (λ xs. width_at nodes (get_or xs place 0) ≡ 1) (sym same)
          (bit_call so_far nodes known n c.call (kind_at nodes n) place c.was c.is.kind e (subst (λ (xs : List ℕ). place < length xs) same lt));
      holds = λ n h e. o.fixed n 2 h (ap fixed_operands e);
      offsets = λ n ticks h e. o.fixed n 1 h (ap fixed_operands e);
      fixed = o.fixed;
    }

gives_prop : (op : Op) (types : List StreamType) (amount : ℕ) (out : StreamType) → IsProp (GivesType op types amount out)
gives_prop Add types amount out = hlevel props
gives_prop Sub types amount out = hlevel props
gives_prop Mul types amount out = hlevel props
gives_prop Div types amount out = hlevel props
gives_prop Neg types amount out = hlevel props
gives_prop And types amount out = hlevel props
gives_prop Or types amount out = hlevel props
gives_prop Xor types amount out = hlevel props
gives_prop Not types amount out = hlevel props
gives_prop Shl types amount out = hlevel props
gives_prop Shr types amount out = hlevel props
gives_prop Eq types amount out = hlevel props
gives_prop Ne types amount out = hlevel props
gives_prop Lt types amount out = hlevel props
gives_prop Le types amount out = hlevel props
gives_prop Gt types amount out = hlevel props
gives_prop Ge types amount out = hlevel props
gives_prop Mux types amount out = hlevel props
gives_prop Cast types amount out = hlevel props
gives_prop Round types amount out = hlevel props

pub typed : (nodes : List Node) → ∥ AreKernel nodes ∥₁ → AreTyped nodes
typed nodes kernel =
    ∥∥₁_elim {P = AreTyped nodes} kernel (hlevel (gives_prop, props))
    (λ k. typed_so_far (later [] k.0) nodes (orderly nodes kernel) (were_later [] k.0 tt k.1) k.2.connected k.3)
