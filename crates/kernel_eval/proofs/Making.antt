-- The kernel that two runs make, and why there is none.
use Rattle.std.proofs.Common.{◌≡◌, ◌∙◌, ℕ, List, [], ◌++◌, Ok, Err, inl, inr, sym, ap, subst}
use Rattle.std.specs.Prelude.{Result}
use Rattle.kernel_calls.specs.declared.call.Call.{Call}
use Rattle.kernel_calls.specs.Laws.{Received}
use Rattle.kernel_meaning.specs.declared.error.EvalError.{EvalError}
use Rattle.kernel_meaning.specs.declared.error.EvalError.TheVariants as E
use Rattle.kernel_meaning.specs.Answer.{Answer, calls_of, end_of, plan_at_end}
use Rattle.stream_graph.specs.declared.error.GraphError.{GraphError}
use Rattle.stream_graph.specs.declared.error.GraphError.TheVariants as G
use Rattle.stream_graph.specs.declared.graph.Graph.{Graph}
use Rattle.stream_graph.specs.Kernels.{MayRefuse}
use Rattle.stream_graph.specs.Received.{received, Receives}
use Rattle.stream_graph.proofs.CallerLemmas.{all_received}
use Rattle.kernel_meaning.specs.declared.plan.Plan.{Plan}
use Rattle.kernel_eval.specs.Building.{Builds, Plans, IsAnswer}
use Rattle.kernel_eval.specs.Built.{IsBuilt}
use Rattle.kernel_eval.specs.declared.building.BuildError.TheVariants as B

-- a run that is refused
pub run-refused : {S : Type 0} (receives : S → Call → S → Type 0) (old new : S) (run : Answer)
    (name : List ℕ) (error : EvalError) → Builds receives old run (Err error) new
    → IsBuilt run name (Err (B.Eval error))
run-refused receives old new run name E.NoMemory h = tt
run-refused receives old new run name (E.UnknownName at) h = h.0
run-refused receives old new run name (E.WrongKind at) h = h.0
run-refused receives old new run name (E.Typing at fault) h = h.0
run-refused receives old new run name (E.ArrayRange at) h = h.0
run-refused receives old new run name (E.DivByZero at) h = h.0
run-refused receives old new run name (E.Unset at) h = h.0
run-refused receives old new run name E.StepLimit h = h.0
run-refused receives old new run name (E.CallDepth at) h = h.0
run-refused receives old new run name (E.OffsetRange at ticks) h = h.0
run-refused receives old new run name (E.TextTooLong at) h = h.0
run-refused receives old new run name (E.BadPortName at) h = h.0
run-refused receives old new run name (E.PopEmpty at) h = h.0
run-refused receives old new run name (E.Counter at fault) h = h.0
run-refused receives old new run name (E.TypeRange at) h = h.0
run-refused receives old new run name (E.NameTwice at) h = h.0

-- a graph that is refused
pub graph-refused : (run : Answer) (name : List ℕ) (calls : List Call) (error : GraphError)
    → end_of run ≡ Ok tt → calls ≡ calls_of run → MayRefuse calls error
    → IsBuilt run name (Err (B.Graph error))
graph-refused run name calls error ends same (inl memory) =
    subst (λ e. IsBuilt run name (Err (B.Graph e))) (sym memory) tt
graph-refused run name calls (G.Unconnected n) ends same (inr h) = (ends, rw same at h)
graph-refused run name calls (G.ConnectedTwice n) ends same (inr h) = (ends, rw same at h)
graph-refused run name calls (G.SamePort port) ends same (inr h) = (ends, rw same at h)
graph-refused run name calls (G.TooManyNodes n) ends same (inr h) = (ends, rw same at h)
graph-refused run name calls (G.EmptyChain n) ends same (inr h) = (ends, rw same at h)
graph-refused run name calls (G.OffsetRange k) ends same (inr h) = absurd h
graph-refused run name calls G.NoMemory ends same (inr h) = absurd h

-- a graph that had received nothing has received just these calls
pub calls-alone : (calls : List Call) (old new : Graph) → received old ≡ []
    → Received Receives old calls new → received new ≡ calls
calls-alone calls old new none r = all_received calls old new r ∙ ap (λ l. l ++ calls) none

-- a plan at the end of a run is an answer
pub plans-answer : (run : Answer) (r : Result Plan EvalError) → Plans run r
    → IsAnswer (plan_at_end run) r
plans-answer run (Ok plan) h = h
plans-answer run (Err E.NoMemory) h = tt
plans-answer run (Err (E.UnknownName at)) h = h
plans-answer run (Err (E.WrongKind at)) h = h
plans-answer run (Err (E.Typing at fault)) h = h
plans-answer run (Err (E.ArrayRange at)) h = h
plans-answer run (Err (E.DivByZero at)) h = h
plans-answer run (Err (E.Unset at)) h = h
plans-answer run (Err E.StepLimit) h = h
plans-answer run (Err (E.CallDepth at)) h = h
plans-answer run (Err (E.OffsetRange at ticks)) h = h
plans-answer run (Err (E.TextTooLong at)) h = h
plans-answer run (Err (E.BadPortName at)) h = h
plans-answer run (Err (E.PopEmpty at)) h = h
plans-answer run (Err (E.Counter at fault)) h = h
plans-answer run (Err (E.TypeRange at)) h = h
plans-answer run (Err (E.NameTwice at)) h = h
