-- What a row makes is lawful, and what it gives is sound.
use Rattle.std.proofs.Common.{
  ◌≡◌,
  ℕ,
  ℤ,
  suc,
  ◌+◌,
  ◌<◌,
  ◌^◌,
  List,
  [],
  ◌∷◌,
  ◌++◌,
  refl,
  ap,
  sym,
  ◌∙◌,
  arith,
  true,
  false,
  Ok,
  Err,
  Some,
  subst,
  length,
}
use Rattle.std.specs.Prelude.{Bool, Result, unsigned_abs}
use Rattle.mx_bits.specs.declared.op.Op.{Op}
use Rattle.fix_arith.specs.declared.types.RoundMode.{RoundMode}
use Rattle.fix_arith.specs.declared.types.StreamType.{StreamType}
use Rattle.fix_arith.specs.declared.types.TypeError.{TypeError}
use Rattle.fix_arith.specs.Types.{width_of, HasWidth}
use Rattle.fix_arith.specs.Table.{GivesType}
use Rattle.kernel_calls.specs.declared.call.Call.{Call}
use Rattle.kernel_calls.specs.declared.call.Call.TheVariants as C
use Rattle.kernel_calls.specs.Calls.{Makes, count_of, bits_in, nodes_of, bits_given, stream_of}
use Rattle.kernel_calls.specs.Laws.{IsStream, AreStreams, IsLawful, AreLawful}
use Rattle.kernel_meaning.specs.declared.value.Value.{Value}
use Rattle.kernel_meaning.specs.declared.value.Value.TheVariants as V
use Rattle.kernel_meaning.specs.declared.state.State.{State}
use Rattle.kernel_meaning.specs.declared.error.EvalError.{EvalError}
use Rattle.kernel_meaning.specs.Answer.{Outcome, Does}
use Rattle.kernel_meaning.specs.Typing.{typing}
use Rattle.kernel_meaning.specs.Outcomes
use Rattle.kernel_meaning.specs.StreamRows
use Rattle.kernel_meaning.specs.Plans.{Library}
use Rattle.kernel_meaning.proofs.Kept.{History, with_call, onto, IsHeld, AreHeld, IsTold, Sound}
use Rattle.kernel_meaning.proofs.Later.{
  Later,
  at_once,
  one_later,
  and_later,
  newest,
  stream_later,
  all_later,
  bound_later,
  filled_later,
}
use Rattle.kernel_meaning.proofs.Going.{GoodOutcome, all_hold}
use Rattle.kernel_meaning.proofs.TypingLaws.{literal_fits, LiteralFits, AllWidths, MayHave}

-- a call that makes a node, and no digit of a chain
pub record MakesOne (call : Call) : Type 0 where
  pub one : nodes_of call ≡ 1
  pub no_bits : (chain : ℕ) → bits_given chain call ≡ 0

pub sound_made : (call : Call) {library : Library} (so_far : History library) (state : State)
    → MakesOne call
    → Sound so_far state → Sound (with_call call so_far) (record state { made = state.made + 1 })
sound_made call so_far state m s = record {
  made = ap (λ n. n + 1) s.made ∙ ap (λ n. count_of so_far.calls + n) (sym m.one);
  variables = bound_later so_far (with_call call so_far) state.variables (one_later call so_far)
      s.variables;
  fields = bound_later so_far (with_call call so_far) state.fields (one_later call so_far) s.fields;
  arrays = filled_later so_far (with_call call so_far) state.arrays (one_later call so_far) s.arrays;
  digits = λ chain. let d = s.digits chain in let z = m.no_bits chain in omega arith;
  plan = s.plan;
}

pub stream_made : (call : Call) (t : StreamType) {library : Library} (so_far : History library)
    (state : State)
    → MakesOne call → stream_of call ≡ Some t → Sound so_far state
    → IsStream (call ∷ so_far.calls) state.made t
stream_made call t so_far state m e s =
    (call, subst (λ n. Makes (call ∷ so_far.calls) n call) (sym s.made) (newest call so_far.calls m.one), e)

pub good_makes : (call : Call) (t : StreamType) {library : Library} (so_far : History library)
    (state : State) → MakesOne call
    → stream_of call ≡ Some t → HasWidth t → IsLawful so_far.calls call → Sound so_far state
    → GoodOutcome so_far (Outcomes.makes call t false state)
good_makes call t so_far state m e w l s =
    all_hold so_far (call ∷ []) (V.Stream state.made t false)
    (record state { made = state.made + 1 }) (l, tt)
    (w, stream_made call t so_far state m e s, λ x. absurd (cc)) (sound_made call so_far state m s)

pub good_if : (test : Bool) (e : EvalError) {library : Library} (so_far : History library)
    (o : Outcome)
    → IsTold e → (test ≡ true → GoodOutcome so_far o)
    → GoodOutcome so_far (Outcomes.where_so test e o)
good_if true e so_far o t h = h refl
good_if false e so_far o t h = record { holds = t }

-- Operations on streams and numbers.

pub onto_later : (calls : List Call) {library : Library} (so_far : History library) → Later so_far
    (onto calls so_far)
onto_later [] so_far = at_once so_far
onto_later (c ∷ cs) so_far = and_later so_far (with_call c so_far) (onto cs (with_call c so_far))
    (one_later c so_far) (onto_later cs (with_call c so_far))

-- operands that can be handed to an operation
pub record Fit {library : Library} (so_far : History library) (count : ℕ)
    (o : StreamRows.Operands) : Type 0 where
  pub lawful : AreLawful so_far.calls o.calls
  pub streams : AreStreams (onto o.calls so_far).calls o.args o.types
  pub widths : AllWidths o.types
  pub made : o.made ≡ count_of (onto o.calls so_far).calls
  pub bits : (chain : ℕ) → bits_in (onto o.calls so_far).calls chain ≡ bits_in so_far.calls chain
  pub many : length o.types ≡ count

abbrev pub Fits : {library : Library} → History library → ℕ → Result StreamRows.Operands TypeError
    → Type 0
Fits so_far count (Err e) = Unit {0}
Fits so_far count (Ok o) = Fit so_far count o

pub record OkFit {library : Library} (so_far : History library) (count : ℕ)
    (r : Result StreamRows.Operands TypeError) : Type
    0 where
  pub fits : Fits so_far count r

node_good : (n : ℕ) (u : StreamType) {library : Library} (so_far : History library) (count : ℕ)
    (r : Result StreamRows.Operands TypeError) → HasWidth u → IsStream so_far.calls n u
    → OkFit so_far count r → OkFit so_far (suc count) (StreamRows.with_node n u r)
node_good n u so_far count (Err e) w i f = record { fits = tt }
node_good n u so_far count (Ok o) w i f = record {
  fits = record {
    lawful = f.fits.lawful;
    streams = (
      stream_later so_far (onto o.calls so_far) n u (onto_later o.calls so_far) i,
      f.fits.streams,
    );
    widths = (w, f.fits.widths);
    made = f.fits.made;
    bits = f.fits.bits;
    many = ap suc f.fits.many;
  };
}

is_one : (bits : ℕ) (t : StreamType) → MakesOne (C.Constant bits t)
is_one bits t = record { one = refl; no_bits = λ chain. refl }

constant_good : (bits : ℕ) (t : StreamType) {library : Library} (so_far : History library)
    (made count : ℕ)
    (r : Result StreamRows.Operands TypeError) → HasWidth t → bits < 2 ^ width_of t → made
    ≡ count_of so_far.calls →
    OkFit (with_call (C.Constant bits t) so_far) count r
    → OkFit so_far (suc count) (StreamRows.with_constant bits made t r)
constant_good bits t so_far made count (Err e) w b m f = record { fits = tt }
constant_good bits t so_far made count (Ok o) w b m f = record {
  fits = record {
    lawful = ((w, b), f.fits.lawful);
    streams = (
      stream_later (with_call (C.Constant bits t) so_far) (onto o.calls (with_call (C.Constant bits t) so_far)) made t
          (onto_later o.calls (with_call (C.Constant bits t) so_far)) (
            C.Constant bits t,
            subst (λ n. Makes (C.Constant bits t ∷ so_far.calls) n (C.Constant bits t))
                (sym m) (newest (C.Constant bits t) so_far.calls refl),
            refl,
          ),
      f.fits.streams,
    );
    widths = (w, f.fits.widths);
    made = f.fits.made;
    bits = λ chain. let e = f.fits.bits chain in omega arith;
    many = ap suc f.fits.many;
  };
}

literal_good : (r : Result ℕ TypeError) (t : StreamType) {library : Library}
    (so_far : History library) (made count : ℕ)
    (others : ℕ → Result StreamRows.Operands TypeError) → LiteralFits t r → HasWidth t → made
    ≡ count_of so_far.calls →
    ((call : Call) → MakesOne call → OkFit (with_call call so_far) count (others (made + 1)))
    → OkFit so_far (suc count) (StreamRows.literal_before r made t others)
literal_good (Err e) t so_far made count others b w m h = record { fits = tt }
literal_good (Ok bits) t so_far made count others b w m h =
    constant_good bits t so_far made count (others (made + 1)) w b m
    (h (C.Constant bits t) (is_one bits t))

next_made : (call : Call) {library : Library} (so_far : History library) (made : ℕ) → MakesOne call
    → made ≡ count_of so_far.calls
    → made + 1 ≡ count_of (call ∷ so_far.calls)
next_made call so_far made m e = ap (λ n. n + 1) e ∙ ap (λ n. count_of so_far.calls + n) (sym m.one)

pub operands_good : (mode : RoundMode) (t : StreamType) (values : List Value) {library : Library}
    (so_far : History library)
    (made : ℕ) → HasWidth t → made ≡ count_of so_far.calls → AreHeld so_far values
    → OkFit so_far (length values) (StreamRows.operands_of mode t made values)
operands_good mode t [] so_far made w e h =
    record {
      fits = record {
        lawful = tt;
        streams = tt;
        widths = tt;
        made = e;
        bits =
            λ chain. refl;
        many = refl;
      };
    }
operands_good mode t (V.Stream n u feed ∷ values) so_far made w e h =
    node_good n u so_far (length values) _ h.0.0 h.0.1
    (operands_good mode t values so_far made w e h.1)
operands_good mode t (V.Int n ∷ values) so_far made w e h =
    literal_good _ t so_far made (length values) _ (literal_fits mode _ _ 0 t) w e
    (λ call m. operands_good mode t values (with_call call so_far) (made + 1) w
    (next_made call so_far made m e)
    (all_later so_far (with_call call so_far) values (one_later call so_far) h.1))
operands_good mode t (V.Literal negative digits tens ∷ values) so_far made w e h =
    literal_good _ t so_far made (length values) _ (literal_fits mode negative digits tens t) w e
    (λ call m. operands_good mode t values (with_call call so_far) (made + 1) w
    (next_made call so_far made m e)
    (all_later so_far (with_call call so_far) values (one_later call so_far) h.1))
operands_good mode t (_ ∷ values) so_far made w e h = record { fits = tt }

-- calls, and one more at their end
then_one : (calls : List Call) (call : Call) {library : Library} (so_far : History library)
    (value : Value) (state : State)
    → AreLawful so_far.calls calls → IsLawful (onto calls so_far).calls call →
    IsHeld (with_call call (onto calls so_far)) value → Sound
    (with_call call (onto calls so_far)) state
    → GoodOutcome so_far (Does (calls ++ call ∷ []) value state)
then_one [] call so_far value state l m v s =
    all_hold so_far (call ∷ []) value state (m, tt) v s
then_one (c ∷ cs) call so_far value state l m v s = let r =
    (then_one cs call (with_call c so_far) value state l.1 m v s).holds
    in record { holds = ((l.0, r.0), r.1) }

made_of : (at : ℕ) (op : Op) (mode : RoundMode) (amount : ℕ) (o : StreamRows.Operands)
    {library : Library} (so_far : History library) (state : State) (count : ℕ)
    (r : Result StreamType TypeError)
    → Fit so_far count o → Sound so_far state →
    ((t : StreamType) → r ≡ Ok t → GivesType op o.types amount t × HasWidth t)
    → GoodOutcome so_far (StreamRows.operation_of at op mode amount o state r)
made_of at op mode amount o so_far state count (Err e) f s h = record { holds = tt }
made_of at op mode amount o so_far state count (Ok t) f s h =
    let g = h t refl in
    let call = C.Operation op mode amount o.args t in
    let l = and_later so_far (onto o.calls so_far) (with_call call (onto o.calls so_far))
    (onto_later o.calls so_far) (one_later call (onto o.calls so_far)) in
    then_one o.calls call so_far (V.Stream o.made t false) (record state { made = o.made + 1 })
    f.lawful (o.types, f.streams, g.0, g.1) (
      g.1,
      (
        call,
        subst (λ n. Makes (call ∷ (onto o.calls so_far).calls) n call) (sym f.made)
            (newest call (onto o.calls so_far).calls refl),
        refl,
      ),
      λ x. absurd (cc),
    )
    (record {
      made = ap (λ n. n + 1) f.made;
      variables = bound_later so_far (with_call call (onto o.calls so_far)) state.variables l s.variables;
      fields = bound_later so_far (with_call call (onto o.calls so_far)) state.fields l s.fields;
      arrays = filled_later so_far (with_call call (onto o.calls so_far)) state.arrays l s.arrays;
      digits = λ chain. let a = s.digits chain in let b = f.bits chain in omega arith;
      plan = s.plan;
    })

made_by : (at : ℕ) (op : Op) (amount : ℤ) (given : List StreamType) {library : Library}
    (so_far : History library)
    (state : State) (count : ℕ) (r : Result StreamRows.Operands TypeError) → OkFit so_far count r
    → Sound so_far state → MayHave op amount given count →
    GoodOutcome so_far (StreamRows.operation_by at op amount given state r)
made_by at op amount given so_far state count (Err e) f s h = record { holds = tt }
made_by at op amount given so_far state count (Ok o) f s h =
    made_of at op (StreamRows.mode_of state.modes) (unsigned_abs amount) o so_far state count
    (typing op (o.types ++ given) amount) f.fits s
    (λ t e. h o.types t f.fits.many f.fits.widths e)

pub operation_good : (at : ℕ) (op : Op) (amount : ℤ) (t : StreamType) (given : List StreamType)
    (values : List Value) {library : Library} (so_far : History library) (state : State)
    → HasWidth t → AreHeld so_far values
    → Sound so_far state → MayHave op amount given (length values) →
    GoodOutcome so_far (StreamRows.operation at op amount t given values state)
operation_good at op amount t given values so_far state w v s h =
    made_by at op amount given so_far state (length values) _
    (operands_good (StreamRows.mode_of state.modes) t values so_far state.made w s.made v) s h
