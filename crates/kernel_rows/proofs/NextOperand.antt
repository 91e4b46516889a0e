-- The operands of an operation, one after another.
use Rattle.std.proofs.Common.{◌≡◌, ℕ, ◌+◌, ◌<◌, List, [], ◌∷◌, ◌++◌, Ok, Err, arith, refl, ap, sym}
use Rattle.std.proofs.Common.{◌∙◌, suc, drop, length, length-append, get_or, add-one, subst}
use Rattle.std.specs.Prelude.{Result, All, ℤ, pos, negsuc, unsigned_abs, ◌≤ℤ◌, ◌≤◌}
use Rattle.std.proofs.lemmas.List.Elements.{All-nil, All-cons, All-append}
use Rattle.mx_bits.specs.declared.op.Op.{Op}
use Rattle.mx_bits.specs.declared.op.Op.TheVariants as O
use Rattle.fix_arith.specs.Types.{HasWidth}
use Rattle.fix_arith.specs.Typing.{HasOperands}
use Rattle.kernel_meaning.specs.Typing.{typing, literal_bits}
use Rattle.kernel_meaning.proofs.TypingLaws.{typing_sound}
use Rattle.std.specs.Int.{is_negative}
use Rattle.std.specs.Result.{IsErr, IsErrAnd}
use Rattle.std.proofs.Math.Seq.{drop-cons}
use Rattle.std.proofs.lemmas.List.{append-nil, append_assoc}
use Rattle.fix_arith.specs.declared.types.RoundMode.{RoundMode}
use Rattle.fix_arith.specs.declared.types.StreamType.{StreamType}
use Rattle.fix_arith.specs.declared.types.TypeError.{TypeError}
use Rattle.kernel_calls.specs.declared.call.Call.TheVariants as C
use Rattle.kernel_meaning.specs.declared.value.Value.{Value}
use Rattle.kernel_meaning.specs.declared.value.Value.TheVariants as V
use Rattle.kernel_meaning.specs.StreamRows as Rows
use Rattle.kernel_rows.specs.declared.operands.Operands.{Operands}
use Rattle.kernel_meaning.specs.declared.error.EvalError.{EvalError}
use Rattle.kernel_meaning.specs.declared.error.EvalError.TheVariants as E
use Rattle.kernel_rows.specs.Fit.{IsFit, AreFit}
use Rattle.kernel_rows.specs.Operation.{meant, before, operand_before, IsFault, AreOperands, HasCount, HasAmount}

-- a node more
pub node_before : (o o' : Operands) (n : ℕ) (u : StreamType) (r : Result Rows.Operands TypeError)
    → o'.calls ≡ o.calls → o'.args ≡ o.args ++ n ∷ [] → o'.types ≡ o.types ++ u ∷ []
    → before o (Rows.with_node n u r) ≡ before o' r
node_before o o' n u (Err e) c a t = refl
node_before o o' n u (Ok r) c a t =
    let aa : o'.args ++ r.args ≡ o.args ++ n ∷ r.args =
    ap (λ l. l ++ r.args) a ∙ append_assoc o.args (n ∷ []) r.args in
    let tt' : o'.types ++ r.types ≡ o.types ++ u ∷ r.types =
    ap (λ l. l ++ r.types) t ∙ append_assoc o.types (u ∷ []) r.types in
    cc

-- a constant more
pub constant_before : (o o' : Operands) (bits n : ℕ) (u : StreamType)
    (r : Result Rows.Operands TypeError)
    → o'.calls ≡ o.calls ++ C.Constant bits u ∷ [] → o'.args ≡ o.args ++ n ∷ []
    → o'.types ≡ o.types ++ u ∷ []
    → before o (Rows.with_constant bits n u r) ≡ before o' r
constant_before o o' bits n u (Err e) c a t = refl
constant_before o o' bits n u (Ok r) c a t =
    let cl : o'.calls ++ r.calls ≡ o.calls ++ C.Constant bits u ∷ r.calls =
    ap (λ l. l ++ r.calls) c ∙ append_assoc o.calls (C.Constant bits u ∷ []) r.calls in
    let aa : o'.args ++ r.args ≡ o.args ++ n ∷ r.args =
    ap (λ l. l ++ r.args) a ∙ append_assoc o.args (n ∷ []) r.args in
    let tt' : o'.types ++ r.types ≡ o.types ++ u ∷ r.types =
    ap (λ l. l ++ r.types) t ∙ append_assoc o.types (u ∷ []) r.types in
    cc

-- the first of the values is the next operand
pub operand_first : (mode : RoundMode) (t : StreamType) (made : ℕ) (value : Value)
    (values : List Value)
    → Rows.operands_of mode t made (value ∷ values)
    ≡ operand_before mode t made value (λ made. Rows.operands_of mode t made values)
operand_first mode t made (V.Stream n u feed) values = refl
operand_first mode t made (V.Int n) values = refl
operand_first mode t made (V.Literal negative digits tens) values = refl
operand_first mode t made _ values = refl

-- the operands from a place on begin with the one there
pub operand_at : (mode : RoundMode) (t : StreamType) (made : ℕ) (values : List Value) (i : ℕ)
    (v : Value) → i < length values → get_or values i v ≡ v
    → Rows.operands_of mode t made (drop i values)
    ≡ operand_before mode t made v (λ made. Rows.operands_of mode t made (drop (i + 1) values))
operand_at mode t made values i v h e =
    ap (Rows.operands_of mode t made) (drop-cons values i v h)
    ∙ (operand_first mode t made (get_or values i v) (drop (suc i) values)
    ∙ (ap (λ x. operand_before mode t made x
    (λ made. Rows.operands_of mode t made (drop (suc i) values))) e
    ∙ ap (λ j. operand_before mode t made v
    (λ made. Rows.operands_of mode t made (drop j values))) (sym (add-one i))))

-- the value at a place and those behind it are fit
pub fit_at : (values : List Value) (i : ℕ) (d : Value) → i < length values → AreFit (drop i values)
    → IsFit (get_or values i d) × AreFit (drop (i + 1) values)
fit_at values i d h f =
    let both = subst AreFit (drop-cons values i d h) f in
    (both.0, subst (λ j. AreFit (drop j values)) (sym (add-one i)) both.1)

-- where the rest has no operands, the whole has none
pub fault_before : (at : ℕ) (o : Operands) (rest whole : Result Rows.Operands TypeError)
    (e : EvalError) → before o rest ≡ whole → IsFault at rest e → IsFault at whole e
fault_before at o rest whole E.NoMemory b f = tt
fault_before at o rest whole (E.Typing place e) b f = (f.0, sym b ∙ ap (before o) f.1)
fault_before at o rest whole _ b f = absurd f

-- nothing is left
pub none_after : (o : Operands) (mode : RoundMode) (t : StreamType)
    → before o (Rows.operands_of mode t o.made []) ≡ Ok (meant o)
none_after o mode t =
    let c = append-nil o.calls in
    let a = append-nil o.args in
    let u = append-nil o.types in
    cc

-- the fault is handed on
pub handed_on : (at : ℕ) (whole : Result Rows.Operands TypeError) (r : Result Operands EvalError)
    (e : EvalError) → IsErr r → IsErrAnd r (λ x. x ≡ e) → IsFault at whole e
    → AreOperands at whole r
handed_on at whole (Ok o) e n h f = absurd (cc)
handed_on at whole (Err x) e n h f = subst (IsFault at whole) (sym h) f

-- Operands have widths, and each value is one.

abbrev pub OkWide : List Value → ℕ → Result Rows.Operands TypeError → Type 0
OkWide values made (Err e) = Unit {0}
OkWide values made (Ok o) =
    All HasWidth o.types × (length o.types ≡ length values) × (o.made ≤ made + length values)

wide_node : (value : Value) (values : List Value) (made n : ℕ) (u : StreamType)
    (r : Result Rows.Operands TypeError) → HasWidth u → OkWide values made r
    → OkWide (value ∷ values) made (Rows.with_node n u r)
wide_node value values made n u (Err e) w h = tt
wide_node value values made n u (Ok o) w h =
    (All-cons HasWidth u o.types w h.0, omega (arith, h.1), omega (arith, h.2))

wide_constant : (value : Value) (values : List Value) (made bits n : ℕ) (u : StreamType)
    (r : Result Rows.Operands TypeError) → HasWidth u → OkWide values (made + 1) r
    → OkWide (value ∷ values) made (Rows.with_constant bits n u r)
wide_constant value values made bits n u (Err e) w h = tt
wide_constant value values made bits n u (Ok o) w h =
    (All-cons HasWidth u o.types w h.0, omega (arith, h.1), omega (arith, h.2))

wide_literal : (value : Value) (values : List Value) (bits : Result ℕ TypeError) (made : ℕ)
    (t : StreamType) (others : ℕ → Result Rows.Operands TypeError) → HasWidth t
    → OkWide values (made + 1) (others (made + 1))
    → OkWide (value ∷ values) made (Rows.literal_before bits made t others)
wide_literal value values (Err e) made t others w h = tt
wide_literal value values (Ok bits) made t others w h =
    wide_constant value values made bits made t (others (made + 1)) w h

pub operands_wide : (mode : RoundMode) (t : StreamType) (values : List Value) (made : ℕ)
    → HasWidth t → AreFit values → OkWide values made (Rows.operands_of mode t made values)
operands_wide mode t [] made w f = (All-nil HasWidth, refl, omega arith)
operands_wide mode t (V.Stream n u feed ∷ values) made w f =
    wide_node (V.Stream n u feed) values made n u _ f.0 (operands_wide mode t values made w f.1)
operands_wide mode t (V.Int n ∷ values) made w f =
    wide_literal (V.Int n) values (literal_bits mode (is_negative n) (unsigned_abs n) 0 t) made t
    (λ made. Rows.operands_of mode t made values) w (operands_wide mode t values (made + 1) w f.1)
operands_wide mode t (V.Literal negative digits tens ∷ values) made w f =
    wide_literal (V.Literal negative digits tens) values (literal_bits mode negative digits tens t)
    made t (λ made. Rows.operands_of mode t made values) w
    (operands_wide mode t values (made + 1) w f.1)
operands_wide mode t (_ ∷ values) made w f = tt

-- what the tests of an operation need of its types
pub count_operands : (op : Op) (types : List StreamType) → HasCount op (length types)
    → HasOperands op types
count_operands O.Neg types h = h
count_operands O.Not types h = h
count_operands O.Shl types h = h
count_operands O.Shr types h = h
count_operands O.Mux types h = h
count_operands _ types h = h

small : (k : ℤ) → (pos 0 ≤ℤ k) × (k ≤ℤ pos 127) → unsigned_abs k < 256
small (pos n) h = let l : pos n ≤ℤ pos 127 = h.1 in grind (arith, l)
small (negsuc n) h = let l : pos 0 ≤ℤ negsuc n = h.0 in absurd (grind (arith, l))

-- an amount has 8 bits
pub amount_small : (op : Op) (types : List StreamType) (k : ℤ) (t : StreamType) → HasAmount op k
    → typing op types k ≡ Ok t → unsigned_abs k < 256
amount_small O.Shl types k t h e = small k ((typing_sound O.Shl types k t e).in_range refl)
amount_small O.Shr types k t h e = small k ((typing_sound O.Shr types k t e).in_range refl)
amount_small _ types k t h e = subst (λ z. unsigned_abs z < 256) (sym h) (omega arith)

-- the types of an operation that was made, with those that are given
pub types_of_operation : (mode : RoundMode) (t : StreamType) (values : List Value) (made : ℕ)
    (o : Operands) (given types : List StreamType) (op : Op) → HasWidth t → AreFit values
    → Rows.operands_of mode t made values ≡ Ok (meant o) → types ≡ o.types ++ given
    → All HasWidth given → HasCount op (length values + length given)
    → All HasWidth types × HasCount op (length types) × (o.made ≤ made + length values)
types_of_operation mode t values made o given types op w f e l g h =
    let wide : OkWide values made (Ok (meant o)) =
    subst (OkWide values made) e (operands_wide mode t values made w f) in
    let many : length types ≡ length values + length given =
    ap length l ∙ (length-append o.types given ∙ ap (λ n. n + length given) wide.1) in (
      subst (All HasWidth) (sym l) (All-append HasWidth o.types given wide.0 g),
      subst (HasCount op) (sym many) h,
      wide.2,
    )
