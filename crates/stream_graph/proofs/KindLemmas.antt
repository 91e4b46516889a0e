-- What a fact of a kind says of it, and which call makes a node of a kind.
use Rattle.std.proofs.Common.{◌≡◌, ℕ, ◌<◌, true, false, List, [], ◌∷◌, length, get_or, refl, ap, sym, ◌∙◌, subst, arith, inl, inr, ◌⊎◌}
use Rattle.std.specs.Prelude.{ℤ, Option, Some, None}
use Rattle.std.proofs.lemmas.Bool.{false≢true}
use Rattle.fix_arith.specs.declared.types.StreamType.{StreamType}
use Rattle.kernel_calls.specs.Laws.{IsLawful, IsStream, IsControl, MayControl}
use Rattle.mx_bits.specs.declared.word.Word.{Word}
use Rattle.kernel_calls.specs.declared.call.Call.{Call}
use Rattle.kernel_calls.specs.declared.call.Call.TheVariants as C
use Rattle.stream_graph.specs.declared.node.Kind.{Kind}
use Rattle.stream_graph.specs.declared.node.Kind.TheVariants as K
use Rattle.stream_graph.specs.declared.role.Role.TheVariants as R
use Rattle.stream_graph.specs.declared.role.PortSide.{PortSide}
use Rattle.stream_graph.specs.declared.role.PortSide.TheVariants as S
use Rattle.stream_graph.specs.Nodes.{IsKind, type_of, operands_by, one_or_none}
use Rattle.stream_graph.specs.Kinds.{
  role_of,
  IsOfRole,
  is_steady,
  is_offset,
  keeps_state,
  counts,
  is_like_first,
  is_feed,
  is_chain,
  side_of,
  is_input,
  is_output,
  is_scalar,
  is_on,
  call_side,
  control_place,
  is_place,
  takes_bit,
  fixed_operands,
  IsCallOf,
}

-- ---- roles

-- the role of a kind says which kind it is
pub of_role : (kind : Kind) → IsOfRole (role_of kind) kind
of_role K.Input = inl refl
of_role K.Output = inl refl
of_role K.Scalar = inr refl
of_role (K.Constant word) = (word, refl)
of_role (K.Operation op mode amount) = (op, mode, amount, refl)
of_role (K.Offset ticks) = (ticks, refl)
of_role K.Feed = inr (inl refl)
of_role K.Hold = inl refl
of_role K.Counter = inr (inl refl)
of_role K.Chain = inr (inr refl)
of_role (K.Part place) = inr (inr (place, refl))

pub state_role : (kind : Kind) → keeps_state kind ≡ true → role_of kind ≡ R.KeepsState
state_role K.Hold e = refl
state_role K.Counter e = refl
state_role K.Chain e = refl
state_role _ e = absurd (cc)

-- ---- what a test of a kind says

pub steady_is : (kind : Kind) → is_steady kind ≡ true
    → (kind ≡ K.Scalar) ⊎ ((word : Word) × (kind ≡ K.Constant word))
steady_is K.Scalar e = inl refl
steady_is (K.Constant word) e = inr (word, refl)
steady_is _ e = absurd (cc)

pub offset_is : (kind : Kind) → is_offset kind ≡ true → (ticks : ℤ) × (kind ≡ K.Offset ticks)
offset_is (K.Offset ticks) e = (ticks, refl)
offset_is _ e = absurd (cc)

pub state_is : (kind : Kind) → keeps_state kind ≡ true
    → (kind ≡ K.Hold) ⊎ ((kind ≡ K.Counter) ⊎ (kind ≡ K.Chain))
state_is K.Hold e = inl refl
state_is K.Counter e = inr (inl refl)
state_is K.Chain e = inr (inr refl)
state_is _ e = absurd (cc)

-- a node that keeps a state has a word of its own in each tick
pub state_moves : (kind : Kind) → keeps_state kind ≡ true → (is_offset kind ≡ false) × (is_steady kind ≡ false)
state_moves K.Hold e = (refl, refl)
state_moves K.Counter e = (refl, refl)
state_moves K.Chain e = (refl, refl)
state_moves _ e = absurd (cc)

pub counts_is : (kind : Kind) → counts kind ≡ true → (kind ≡ K.Counter) ⊎ (kind ≡ K.Chain)
counts_is K.Counter e = inl refl
counts_is K.Chain e = inr refl
counts_is _ e = absurd (cc)

pub feed_is : (kind : Kind) → is_feed kind ≡ true → kind ≡ K.Feed
feed_is K.Feed e = refl
feed_is _ e = absurd (cc)

pub chain_is : (kind : Kind) → is_chain kind ≡ true → kind ≡ K.Chain
chain_is K.Chain e = refl
chain_is _ e = absurd (cc)

pub input_is : (kind : Kind) → is_input kind ≡ true → kind ≡ K.Input
input_is K.Input e = refl
input_is _ e = absurd (cc)

pub output_is : (kind : Kind) → is_output kind ≡ true → kind ≡ K.Output
output_is K.Output e = refl
output_is _ e = absurd (cc)

pub scalar_is : (kind : Kind) → is_scalar kind ≡ true → kind ≡ K.Scalar
scalar_is K.Scalar e = refl
scalar_is _ e = absurd (cc)

-- a kind that is a port of a side is so by its own side
pub on_is : (side : PortSide) (kind : Kind) → is_on side kind ≡ true → side_of kind ≡ Some side
on_is S.Input kind e = ap side_of (input_is kind e)
on_is S.Output kind e = ap side_of (output_is kind e)
on_is S.Scalar kind e = ap side_of (scalar_is kind e)

-- ---- operands

-- a kind with a control or a store, and the place of it
pub control_is : (kind : Kind) (place : ℕ) → control_place kind ≡ Some place
    → ((kind ≡ K.Input) × (place ≡ 0)) ⊎ (((kind ≡ K.Output) × (place ≡ 1)) ⊎ ((kind ≡ K.Hold) × (place ≡ 1)))
control_is K.Input place e = inl (refl, cc)
control_is K.Output place e = inr (inl (refl, cc))
control_is K.Hold place e = inr (inr (refl, cc))
control_is _ place e = absurd (cc)

at_place : (own : Option ℕ) (place : ℕ) → is_place own place ≡ true → own ≡ Some place
at_place None place e = absurd (cc)
at_place (Some own) place e = let same : place ≡ own = grind (arith, e) in cc

-- a place of a bit is that of the control or the store
pub takes_at : (kind : Kind) (place : ℕ) → takes_bit kind place ≡ true → control_place kind ≡ Some place
takes_at kind place e = at_place (control_place kind) place e

-- one word in all ticks has no operands
pub steady_fixed : (kind : Kind) → is_steady kind ≡ true → fixed_operands kind ≡ Some 0
steady_fixed K.Scalar e = refl
steady_fixed (K.Constant word) e = refl
steady_fixed _ e = absurd (cc)

-- ---- calls

-- what made a node of a kind
pub made_by : (so_far : List Call) (n : ℕ) (call : Call) (kind : Kind) → IsKind so_far n call kind
    → IsCallOf kind call
made_by so_far n call kind i = by_call call i
  where
    of_kind : (call : Call) (own : Kind) → kind ≡ own → IsCallOf own call → IsCallOf kind call
    of_kind call own e c = subst (λ k. IsCallOf k call) (sym e) c

    by_call : (call : Call) → IsKind so_far n call kind → IsCallOf kind call
    by_call (C.Input name t control) i = of_kind _ _ i (name, t, control, refl)
    by_call (C.Output name value control t) i = of_kind _ _ i (name, value, control, t, refl)
    by_call (C.Scalar name t) i = of_kind _ _ i (name, t, refl)
    by_call (C.Constant bits t) (word, e, same, width) =
        of_kind _ _ e (t, ap (λ b. C.Constant b t) (sym same))
    by_call (C.Operation op mode amount args t) i = of_kind _ _ i (args, t, refl)
    by_call (C.Offset value k t) i = of_kind _ _ i (value, t, refl)
    by_call (C.Feed t) i = of_kind _ _ i (t, refl)
    by_call (C.Connect feed value) i = absurd i
    by_call (C.Hold value store t) i = of_kind _ _ i (value, store, t, refl)
    by_call (C.Counter d) i = of_kind _ _ i (d, refl)
    by_call C.Chain i = of_kind _ _ i refl
    by_call (C.ChainDigit chain d) i = of_kind _ _ i (chain, d, refl)

-- a node is a port of the side of its call
pub side_kept : (so_far : List Call) (n : ℕ) (call : Call) (kind : Kind) → IsKind so_far n call kind
    → side_of kind ≡ call_side call
side_kept so_far n (C.Constant bits t) kind i = ap side_of i.1
side_kept so_far n (C.Connect feed value) kind i = absurd i
side_kept so_far n _ kind i = ap side_of i

some_eq : {A : Type 0} {x y : A} → Some x ≡ Some y → x ≡ y
some_eq e = cc

none_some : {A : Type 0} {x : A} → None ≡ Some x → ⊥
none_some e = cc

one_control : (older : List Call) (control : Option ℕ) → MayControl older control → 0 < length (one_or_none control)
    → IsControl older (get_or (one_or_none control) 0 0)
one_control older None m h = absurd (omega (arith, h))
one_control older (Some n) m h = m

-- the control of a lawful port, and the store of a lawful hold
pub control_call : (so_far older : List Call) (n place : ℕ) (call : Call) (kind : Kind) → IsKind so_far n call kind
    → control_place kind ≡ Some place → IsLawful older call → place < length (operands_by so_far n call)
    → IsControl older (get_or (operands_by so_far n call) place 0)
control_call so_far older n place (C.Input name t control) kind i e l =
    subst (λ p. p < length (one_or_none control) → IsControl older (get_or (one_or_none control) p 0))
    (some_eq (sym (ap control_place i) ∙ e)) (one_control older control l.2)
control_call so_far older n place (C.Output name value control t) kind i e l =
    subst (λ p. p < length (value ∷ one_or_none control) → IsControl older (get_or (value ∷ one_or_none control) p 0))
    (some_eq (sym (ap control_place i) ∙ e)) (λ h. one_control older control l.2 (omega (arith, h)))
control_call so_far older n place (C.Hold value store t) kind i e l =
    subst (λ p. p < length (value ∷ store ∷ []) → IsControl older (get_or (value ∷ store ∷ []) p 0))
    (some_eq (sym (ap control_place i) ∙ e)) (λ h. l.1)
control_call so_far older n place (C.Constant bits t) kind i e l =
    absurd (none_some (sym (ap control_place i.1) ∙ e))
control_call so_far older n place (C.Connect feed value) kind i e l = absurd i
control_call so_far older n place _ kind i e l = absurd (none_some (sym (ap control_place i) ∙ e))

-- what a lawful call of such a kind takes first has the node's type; or it makes a feed
pub like_call : (so_far older : List Call) (n : ℕ) (call : Call) (kind : Kind) → IsKind so_far n call kind
    → is_like_first kind ≡ true → IsLawful older call
    → ((t : StreamType) × (call ≡ C.Feed t))
    ⊎ ((0 < length (operands_by so_far n call)) × IsStream older (get_or (operands_by so_far n call) 0 0) (type_of so_far n call))
like_call so_far older n (C.Output name value control t) kind i e l = inr (omega arith, l.1)
like_call so_far older n (C.Offset value k t) kind i e l = inr (omega arith, l.0)
like_call so_far older n (C.Feed t) kind i e l = inl (t, refl)
like_call so_far older n (C.Hold value store t) kind i e l = inr (omega arith, l.0)
like_call so_far older n (C.Constant bits t) kind i e l = absurd (false≢true (sym (ap is_like_first i.1) ∙ e))
like_call so_far older n (C.Connect feed value) kind i e l = absurd i
like_call so_far older n _ kind i e l = absurd (false≢true (sym (ap is_like_first i) ∙ e))
