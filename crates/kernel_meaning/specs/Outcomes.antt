-- What is done with the values of operands: the answers of rows.
use Rattle.std.specs.Prelude.{ℕ, ◌+◌, List, [], ◌∷◌, Bool, if◌then◌else◌}
use Rattle.fix_arith.specs.declared.types.StreamType.{StreamType}
use Rattle.kernel_calls.specs.Laws.{is_port_name}
use Rattle.kernel_calls.specs.declared.call.Call.{Call}
use Rattle.kernel_meaning.specs.declared.error.EvalError.{EvalError}
use Rattle.kernel_meaning.specs.declared.value.Value.{Value}
use Rattle.kernel_meaning.specs.declared.state.State.{State}
use Rattle.kernel_meaning.specs.declared.error.EvalError.TheVariants as E
use Rattle.kernel_meaning.specs.declared.value.Value.TheVariants as V
use Rattle.kernel_meaning.specs.Answer.{Outcome, Fails, Does}

-- a value, and nothing is made
abbrev pub gives : Value → State → Outcome
gives value state = Does [] value state

-- the kinds are wrong
abbrev pub wrong : ℕ → Outcome
wrong at = Fails (E.WrongKind at)

-- a node is made, and its stream is the value
abbrev pub makes : Call → StreamType → Bool → State → Outcome
makes call t feed state = Does (call ∷ []) (V.Stream state.made t feed)
    (record state { made = state.made + 1 })

-- the outcome, where the test holds
abbrev pub where_so : Bool → EvalError → Outcome → Outcome
where_so test e outcome = if test then outcome else Fails e

-- a node that is no stream
abbrev pub ends : Call → State → Outcome
ends call state = Does (call ∷ []) V.Nothing (record state { made = state.made + 1 })

-- the outcome, where the name is that of a port, kernel or stream
abbrev pub with_name : ℕ → List ℕ → Outcome → Outcome
with_name at name outcome = where_so (is_port_name name) (E.BadPortName at) outcome
