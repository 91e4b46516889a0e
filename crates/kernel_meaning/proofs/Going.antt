-- How lawfulness goes through the ways of a run.
use Rattle.std.proofs.Common.{ℕ, refl, zero, suc, ◌-◌, List, [], ◌∷◌, true, false, length, drop}
use Rattle.std.specs.Prelude.{Bool}
use Rattle.kernel_calls.specs.declared.call.Call.{Call}
use Rattle.kernel_calls.specs.Laws.{AreLawful}
use Rattle.kernel_meaning.specs.declared.value.Value.{Value}
use Rattle.kernel_meaning.specs.declared.value.Value.TheVariants as V
use Rattle.kernel_meaning.specs.declared.state.Binding.{Binding}
use Rattle.kernel_meaning.specs.declared.state.State.{State}
use Rattle.kernel_meaning.specs.declared.error.EvalError.{EvalError}
use Rattle.kernel_meaning.specs.Answer.{
  Answer,
  Then,
  Next,
  Outcome,
  Fails,
  Does,
  after_calls,
  does,
  counted,
  counted_from,
  used,
  chosen,
  needs,
  decided,
  unless_absent,
  leave,
}
use Rattle.kernel_meaning.specs.declared.plan.Plan.{Plan}
use Rattle.kernel_meaning.specs.Plans.{Library}
use Rattle.kernel_meaning.proofs.Kept.{
  History,
  with_call,
  with_built,
  onto,
  IsHeld,
  AreBound,
  Sound,
  IsTold,
  Good,
}
use Rattle.kernel_meaning.proofs.Later.{
  Later,
  Grows,
  no_growth,
  at_once,
  one_later,
  and_later,
}

-- what comes next is lawful, whatever came in between
abbrev pub GoodNext : {library : Library} → History library → Next → Type 0
GoodNext {library} so_far next = (later : History library) → Later so_far later → (state : State)
    → Sound later state → Good later (next state)

abbrev pub GoodThen : {library : Library} → History library → Then → Type 0
GoodThen {library} so_far next = (later : History library) → Later so_far later → (value : Value)
    (state : State)
    → IsHeld later value → Sound later state → Good later (next value state)

pub next_later : {library : Library} (so_far later : History library) (next : Next)
    → Later so_far later
    → GoodNext so_far next → GoodNext later next
next_later so_far later next l h = λ after m state s.
    h after (and_later so_far later after l m) state s

pub then_later : {library : Library} (so_far later : History library) (next : Then)
    → Later so_far later
    → GoodThen so_far next → GoodThen later next
then_later so_far later next l h = λ after m value state v s.
    h after (and_later so_far later after l m) value state v s

pub with_left : {library : Library} (so_far : History library) (state : State) (left : ℕ)
    → Sound so_far state
    → Sound so_far (record state { left = left })
with_left so_far state left s = record {
  made = s.made;
  variables = s.variables;
  fields =
      s.fields;
  arrays = s.arrays;
  digits = s.digits;
  plan = s.plan;
}

pub with_vars : {library : Library} (so_far : History library) (state : State)
    (variables : List Binding)
    → AreBound so_far variables → Sound so_far state
    → Sound so_far (record state { variables = variables })
with_vars so_far state variables b s =
    record { made = s.made; variables = b; fields = s.fields; arrays = s.arrays; digits = s.digits; plan = s.plan }

fewer : {library : Library} (so_far : History library) (n : ℕ) (bs : List Binding)
    → AreBound so_far bs
    → AreBound so_far (drop n bs)
fewer so_far zero bs h = h
fewer so_far (suc n) [] h = h
fewer so_far (suc n) (b ∷ bs) h = fewer so_far n bs h.1

pub left_block : {library : Library} (so_far : History library) (count : ℕ) (state : State)
    → Sound so_far state
    → Sound so_far (leave count state)
left_block so_far count state s =
    with_vars so_far state _ (fewer so_far (length state.variables - count) state.variables
    s.variables) s

counted_good : (left : ℕ) {library : Library} (so_far : History library) (state : State)
    (next : Next) → Sound so_far state
    → GoodNext so_far next → Good so_far (counted_from left state next)
counted_good zero so_far state next s h = record { lawful = tt {0}; plan = tt {0}; told = tt {0} }
counted_good (suc left) so_far state next s h =
    h so_far (at_once so_far) (record state { left = left }) (with_left so_far state left s)

pub good_counted : {library : Library} (so_far : History library) (state : State) (next : Next)
    → Sound so_far state
    → GoodNext so_far next → Good so_far (counted state next)
good_counted so_far state next s h = counted_good state.left so_far state next s h

pub good_used : (at : ℕ) (value : Value) {library : Library} (so_far : History library)
    (state : State) (next : Then)
    → IsHeld so_far value → Sound so_far state → GoodThen so_far next
    → Good so_far (used at value state next)
good_used at V.Nothing so_far state next v s h = record { lawful = tt {0}; plan = tt {0}; told = tt {0} }
good_used at value so_far state next v s h = h so_far (at_once so_far) value state v s

pub good_decided : (b : Bool) {library : Library} (so_far : History library) (state : State)
    (first_way second_way : Next)
    → Sound so_far state → GoodNext so_far first_way → GoodNext so_far second_way
    → Good so_far (decided b state first_way second_way)
good_decided true so_far state first_way second_way s y n = y so_far (at_once so_far) state s
good_decided false so_far state first_way second_way s y n = n so_far (at_once so_far) state s

pub good_unless : (b : Bool) {library : Library} (so_far : History library) (state : State)
    (run : Next → Answer)
    (next : Next) → Sound so_far state
    → ((next : Next) → GoodNext so_far next → Good so_far (run next)) → GoodNext so_far next
    → Good so_far (unless_absent b state run next)
good_unless true so_far state run next s r h = h so_far (at_once so_far) state s
good_unless false so_far state run next s r h = r next h

pub good_needs : (b : Bool) (e : EvalError) {library : Library} (so_far : History library)
    (state : State) (next : Next) → IsTold e
    → Sound so_far state → GoodNext so_far next → Good so_far (needs b e state next)
good_needs true e so_far state next t s h = h so_far (at_once so_far) state s
good_needs false e so_far state next t s h = record { lawful = tt {0}; plan = tt {0}; told = t }

pub good_chosen : (at : ℕ) (value : Value) {library : Library} (so_far : History library)
    (state : State)
    (first_way second_way : Next) → Sound so_far state → GoodNext so_far first_way
    → GoodNext so_far second_way → Good so_far (chosen at value state first_way second_way)
good_chosen at (V.Flag true) so_far state first_way second_way s y n =
    y so_far (at_once so_far) state s
good_chosen at (V.Flag false) so_far state first_way second_way s y n =
    n so_far (at_once so_far) state s
good_chosen at V.Nothing so_far state first_way second_way s y n =
    record { lawful = tt {0}; plan = tt {0}; told = tt {0} }
good_chosen at _ so_far state first_way second_way s y n = record { lawful = tt {0}; plan = tt {0}; told = tt {0} }

-- what is there after the calls of a row: what was built may have grown, and the value and the state
-- speak of it
pub record AtEnd {library : Library} (so_far : History library) (value : Value) (state : State)
    : Type 0 where
  pub plan : Plan
  pub grows : Grows so_far.plan plan
  pub held : IsHeld (with_built so_far plan) value
  pub sound : Sound (with_built so_far plan) state

abbrev pub Holds : {library : Library} → History library → Outcome → Type 0
Holds so_far (Fails e) = IsTold e
Holds so_far (Does calls value state) =
    AreLawful so_far.calls calls × AtEnd (onto calls so_far) value state

pub record GoodOutcome {library : Library} (so_far : History library) (o : Outcome) : Type 0 where
  pub holds : Holds so_far o

good_calls : (calls : List Call) {library : Library} (so_far : History library) (value : Value)
    (state : State) (next : Then) → AreLawful so_far.calls calls
    → AtEnd (onto calls so_far) value state → GoodThen so_far next
    → Good so_far (after_calls calls value state next)
good_calls [] so_far value state next l e h =
    let rest = h (with_built so_far e.plan) (record { calls = ([], refl); plan = e.grows }) value
    state e.held e.sound in
    record { lawful = rest.lawful; plan = rest.plan; told = rest.told }
good_calls (call ∷ calls) so_far value state next l e h =
    let more = good_calls calls (with_call call so_far) value state next l.1 e
    (then_later so_far (with_call call so_far) next (one_later call so_far) h) in
    record { lawful = (l.0, more.lawful); plan = more.plan; told = more.told }

pub good_does : (o : Outcome) {library : Library} (so_far : History library) (next : Then)
    → GoodOutcome so_far o → GoodThen so_far next → Good so_far (does o next)
good_does (Fails e) so_far next o h =
    record { lawful = tt {0}; plan = tt {0}; told = o.holds }
good_does (Does calls value state) so_far next o h =
    good_calls calls so_far value state next o.holds.0 o.holds.1 h

-- nothing was built
pub at_end : {library : Library} (so_far : History library) (value : Value) (state : State)
    → IsHeld so_far value → Sound so_far state → AtEnd so_far value state
at_end so_far value state v s = record {
  plan = so_far.plan;
  grows = no_growth so_far.plan;
  held = v;
  sound = s;
}

pub all_hold : {library : Library} (so_far : History library) (calls : List Call) (value : Value)
    (state : State) → AreLawful so_far.calls calls → IsHeld (onto calls so_far) value
    → Sound (onto calls so_far) state → GoodOutcome so_far (Does calls value state)
all_hold so_far calls value state l v s =
    record { holds = (l, at_end (onto calls so_far) value state v s) }
