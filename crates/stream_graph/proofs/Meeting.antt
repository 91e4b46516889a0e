-- Names of ports that are met one after another.
use Rattle.std.proofs.Common.{◌≡◌, ℕ, zero, suc, ◌+◌, ◌<◌, Bool, true, false, ◌||◌, cond, not, nat_eq, List, [], ◌∷◌, length, take, refl, ap, sym, ◌∙◌, arith, subst, get_or, inl, inr}
use Rattle.std.specs.Prelude.{Result, Ok, Err, OnOk, IfOk, Option, bytes_eq}
use Rattle.std.specs.Cmp.Lexicographic.{pointwise, same_text, other_text}
use Rattle.mx_base.specs.declared.error.NoMemory.{NoMemory}
use Rattle.fix_arith.specs.declared.types.StreamType.{StreamType}
use Rattle.kernel_calls.specs.declared.call.Call.{Call}
use Rattle.stream_graph.specs.declared.row.Row.{Row}
use Rattle.stream_graph.specs.declared.row.Row.TheVariants as R
use Rattle.stream_graph.specs.declared.row.Piece.{Piece}
use Rattle.stream_graph.specs.declared.names.Names.{Names}
use Rattle.stream_graph.specs.declared.names.PortNames.{PortNames}
use Rattle.stream_graph.specs.Graphs.{piece, call_by, calls_by}
use Rattle.stream_graph.specs.Nodes.{later, name_by}
use Rattle.stream_graph.specs.Ports.{is_among, is_again, AllDiffer, FirstAgain}
use Rattle.stream_graph.specs.Met.{HaveMet, AllMet, Meets}
use Rattle.stream_graph.proofs.Taking.{first_calls, later_row}

turned : (p q : List ℕ) → pointwise nat_eq p q ≡ bytes_eq q p
turned p q = by_tests (pointwise nat_eq p q) (bytes_eq q p) refl refl
  where
    by_tests : (a b : Bool) → pointwise nat_eq p q ≡ a → bytes_eq q p ≡ b → pointwise nat_eq p q ≡ bytes_eq q p
    by_tests true true e f = e ∙ sym f
    by_tests false false e f = e ∙ sym f
    by_tests true false e f = absurd (other_text q p (sym f) (sym (same_text p q (sym e))))
    by_tests false true e f = absurd (other_text p q (sym e) (sym (same_text q p (sym f))))

either : (a b c : Bool) → a ≡ b → cond a true c ≡ (b || c)
either true b c e = subst (λ x. true ≡ (x || c)) e refl
either false b c e = subst (λ x. c ≡ (x || c)) e refl

-- a set of names with one more
pub met_more : (name q : List ℕ) (names : List (List ℕ)) (before after : Bool) →
    after ≡ cond (pointwise nat_eq name q) true before → before ≡ is_among q names →
    after ≡ is_among q (name ∷ names)
met_more name q names before after a b = a ∙ either (pointwise nat_eq name q) (bytes_eq q name) before
    (turned name q) ∙ ap (λ x. bytes_eq q name || x) b

-- what a set says of a name
abbrev Knows : Names → List ℕ → Result Bool NoMemory → Type 0
Knows old name r = IfOk r (λ fresh. (names : List (List ℕ)) → HaveMet old names → fresh ≡ not (is_among name names))

abbrev Learns : Names → List ℕ → Names → Result Bool NoMemory → Type 0
Learns old name new r = OnOk r ((names : List (List ℕ)) → HaveMet old names → HaveMet new (name ∷ names))

pub meets_input : (bytes operands : List ℕ) (row : Row) (p : Piece) (t : StreamType) (control : Option ℕ)
    (name : List ℕ) (old : PortNames) (new : Names) (r : Result Bool NoMemory) → row ≡ R.Input p t control →
    name ≡ piece bytes p →
    Knows old.inputs name r → Learns old.inputs name new r →
    IfOk r (λ fresh. Meets old (call_by bytes operands row) (record old { inputs = new }) fresh)
meets_input bytes operands row p t control name old new r e n k l =
    subst (λ q. IfOk r (λ fresh. Meets old (call_by bytes operands q) (record old { inputs = new }) fresh)) (sym e)
    (by_result r (subst (λ x. Knows old.inputs x r) n k) (subst (λ x. Learns old.inputs x new r) n l))
  where
    by_result : (r : Result Bool NoMemory) → Knows old.inputs (piece bytes p) r →
        Learns old.inputs (piece bytes p) new r →
        IfOk r (λ fresh. Meets old (call_by bytes operands (R.Input p t control)) (record old { inputs = new })
        fresh)
    by_result (Ok fresh) k l = λ so_far a. (
      record {
        inputs = l _ a.inputs;
        outputs = a.outputs;
        scalars = a.scalars;
      },
      k _ a.inputs,
    )
    by_result (Err e) k l = k

pub meets_output : (bytes operands : List ℕ) (row : Row) (p : Piece) (value : ℕ) (control : Option ℕ)
    (t : StreamType) (name : List ℕ) (old : PortNames) (new : Names) (r : Result Bool NoMemory) →
    row ≡ R.Output p value control t → name ≡ piece bytes p →
    Knows old.outputs name r → Learns old.outputs name new r →
    IfOk r (λ fresh. Meets old (call_by bytes operands row) (record old { outputs = new }) fresh)
meets_output bytes operands row p value control t name old new r e n k l =
    subst (λ q. IfOk r (λ fresh. Meets old (call_by bytes operands q) (record old { outputs = new }) fresh)) (sym e)
    (by_result r (subst (λ x. Knows old.outputs x r) n k) (subst (λ x. Learns old.outputs x new r) n l))
  where
    by_result : (r : Result Bool NoMemory) → Knows old.outputs (piece bytes p) r →
        Learns old.outputs (piece bytes p) new r →
        IfOk r (λ fresh. Meets old (call_by bytes operands (R.Output p value control t))
        (record old { outputs = new }) fresh)
    by_result (Ok fresh) k l = λ so_far a. (
      record {
        inputs = a.inputs;
        outputs = l _ a.outputs;
        scalars = a.scalars;
      },
      k _ a.outputs,
    )
    by_result (Err e) k l = k

pub meets_scalar : (bytes operands : List ℕ) (row : Row) (p : Piece) (t : StreamType) (name : List ℕ)
    (old : PortNames) (new : Names) (r : Result Bool NoMemory) → row ≡ R.Scalar p t → name ≡ piece bytes p →
    Knows old.scalars name r → Learns old.scalars name new r →
    IfOk r (λ fresh. Meets old (call_by bytes operands row) (record old { scalars = new }) fresh)
meets_scalar bytes operands row p t name old new r e n k l =
    subst (λ q. IfOk r (λ fresh. Meets old (call_by bytes operands q) (record old { scalars = new }) fresh)) (sym e)
    (by_result r (subst (λ x. Knows old.scalars x r) n k) (subst (λ x. Learns old.scalars x new r) n l))
  where
    by_result : (r : Result Bool NoMemory) → Knows old.scalars (piece bytes p) r →
        Learns old.scalars (piece bytes p) new r →
        IfOk r (λ fresh. Meets old (call_by bytes operands (R.Scalar p t)) (record old { scalars = new }) fresh)
    by_result (Ok fresh) k l = λ so_far a. (
      record {
        inputs = a.inputs;
        outputs = a.outputs;
        scalars = l _ a.scalars;
      },
      k _ a.scalars,
    )
    by_result (Err e) k l = k

-- the first rows have ports of different names

differ_row : (bytes operands : List ℕ) (rows : List Row) (i : ℕ) (so_far : List Call) (d : Row) → i < length rows →
    AllDiffer so_far (calls_by bytes operands (take i rows)) →
    is_again (later so_far (calls_by bytes operands (take i rows))) (call_by bytes operands (get_or rows i d)) ≡
    false → AllDiffer so_far (calls_by bytes operands (take (suc i) rows))
differ_row bytes operands [] i so_far d h a e = absurd (omega arith)
differ_row bytes operands (row ∷ rows) zero so_far d h a e = (e, tt)
differ_row bytes operands (row ∷ rows) (suc i) so_far d h a e =
    (a.0, differ_row bytes operands rows i (call_by bytes operands row ∷ so_far) d (omega arith) a.1 e)

again_row : (bytes operands : List ℕ) (rows : List Row) (i : ℕ) (so_far : List Call) (d : Row) → i < length rows →
    AllDiffer so_far (calls_by bytes operands (take i rows)) →
    is_again (later so_far (calls_by bytes operands (take i rows))) (call_by bytes operands (get_or rows i d)) ≡
    true → FirstAgain so_far (calls_by bytes operands rows) (name_by (call_by bytes operands (get_or rows i d)))
again_row bytes operands [] i so_far d h a e = absurd (omega arith)
again_row bytes operands (row ∷ rows) zero so_far d h a e = inl (e, refl)
again_row bytes operands (row ∷ rows) (suc i) so_far d h a e = inr
    (a.0, again_row bytes operands rows i (call_by bytes operands row ∷ so_far) d (omega arith) a.1 e)

opposite : (a : Bool) → true ≡ not a → a ≡ false
opposite false e = refl
opposite true e = absurd (cc)

opposite_true : (a : Bool) → false ≡ not a → a ≡ true
opposite_true true e = refl
opposite_true false e = absurd (cc)

-- the sets and the names after a row that is new
pub record Differ (bytes operands : List ℕ) (rows : List Row) (names : PortNames) (i : ℕ) : Type 0 where
  pub met : AllMet names (first_calls bytes operands rows i)
  pub differ : AllDiffer [] (calls_by bytes operands (take i rows))

pub differ_more : (bytes operands : List ℕ) (rows slice : List Row) (i : ℕ) (row : Row) (old new : PortNames)
    (fresh : Bool) → slice ≡ rows → i < length slice → row ≡ get_or slice i row →
    Meets old (call_by bytes operands row) new fresh → true ≡ fresh → Differ bytes operands rows old i →
    Differ bytes operands rows new (i + 1)
differ_more bytes operands rows slice i row old new fresh e h r m t d =
    let at : row ≡ get_or rows i row = subst (λ l. row ≡ get_or l i row) e r in
    let within : i < length rows = subst (λ l. i < length l) e h in
    let more = m (first_calls bytes operands rows i) d.met in
    let new_name : is_again (first_calls bytes operands rows i) (call_by bytes operands row) ≡ false = opposite _
    (t ∙ more.1) in
    subst (λ k. Differ bytes operands rows new k) (next i) (record {
      met = subst (λ s. AllMet new s) (sym (later_row bytes operands rows i [] row within))
          (subst (λ q. AllMet new (call_by bytes operands q ∷ first_calls bytes operands rows i)) at more.0);
      differ = differ_row bytes operands rows i [] row within d.differ
          (subst (λ q. is_again (first_calls bytes operands rows i) (call_by bytes operands q) ≡ false) at
          new_name);
    })
  where
    next : (i : ℕ) → suc i ≡ i + 1
    next i = omega arith

pub says_again : (bytes operands : List ℕ) (rows slice : List Row) (i : ℕ) (row : Row) (old new : PortNames)
    (fresh : Bool) (name : List ℕ) → slice ≡ rows → i < length slice → row ≡ get_or slice i row →
    Meets old (call_by bytes operands row) new fresh → false ≡ fresh → name ≡ name_by (call_by bytes operands row) →
    Differ bytes operands rows old i → FirstAgain [] (calls_by bytes operands rows) name
says_again bytes operands rows slice i row old new fresh name e h r m t n d =
    let at : row ≡ get_or rows i row = subst (λ l. row ≡ get_or l i row) e r in
    let within : i < length rows = subst (λ l. i < length l) e h in
    let again : is_again (first_calls bytes operands rows i) (call_by bytes operands row) ≡ true = opposite_true _
    (t ∙ (m _ d.met).1) in
    subst (λ x. FirstAgain [] (calls_by bytes operands rows) x)
    (sym (n ∙ ap (λ q. name_by (call_by bytes operands q)) at))
    (again_row bytes operands rows i [] row within d.differ
    (subst (λ q. is_again (first_calls bytes operands rows i) (call_by bytes operands q) ≡ true) at again))
