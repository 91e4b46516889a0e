use Rattle.std.proofs.Common.{◌≡◌, ◌∙◌, ℕ, ◌<◌, List, length, Option, None, Some, sym, subst, length-set}
use Rattle.stream_equations.specs.Equations.{StreamEquations}
use Rattle.kernel_words.specs.Streams as OneKernel
use Rattle.kernel_words.specs.declared.streams.Streams.{Streams}
use Rattle.project_streams.specs.Streams.{nodes_at, run_of}
use Rattle.project_words.specs.Given.{given_of}
use Rattle.project_words.specs.Open.{IsDone, IsLeastOpen, IsNext, AreFed, settled_values}
use Rattle.project_words.proofs.Knowing.{fed_next, one_known, all_fit, all_satisfied, all_timed}
use Rattle.project_words.proofs.settle.project_words.Goals as goal

-- what is next by what was read
least_of : (ranks rs : List ℕ) (settled xs : List (Option Streams)) (next : ℕ) → rs ≡ ranks → xs ≡ settled
    → IsLeastOpen rs xs (length xs) next → IsLeastOpen ranks settled (length settled) next
least_of ranks rs settled xs next same are least =
    subst (λ ys. IsLeastOpen ranks ys (length ys) next) are (subst (λ ns. IsLeastOpen ns xs (length xs) next) same least)

-- and where none is
done_of : (rs : List ℕ) (settled xs : List (Option Streams)) (next : Option ℕ) → next ≡ None → xs ≡ settled
    → IsNext rs xs next → (k : ℕ) → k < length settled → IsDone settled k
done_of rs settled xs next none are is =
    subst (λ ys. (k : ℕ) → k < length ys → IsDone ys k) are (subst (IsNext rs xs) none is)

pub words_of_kernel-requires-clause-fed : goal.words_of_kernel-requires-clause-fed
words_of_kernel-requires-clause-fed c =
    let project = c.args.project.now in
    let items = c.loop-next.settled.items in
    subst (λ xs. AreFed project.joints.links xs c.in-Some.next) (sym c.as_slice-in-Some.ensures.value)
    (fed_next project items c.in-Some.next c.loop-next.invariant.size
    (least_of project.joints.ranks c.ranks.result.now items c.as_slice.result.now c.in-Some.next c.ranks.ensures c.as_slice.ensures.value c.in-Some.ensures))

pub loop-next-preserved : goal.loop-next-preserved
loop-next-preserved c =
    let project = c.args.project.now in
    let given = given_of c.args.run.now in
    let items = c.loop-next.settled.items in
    let next = c.in-Some.next in
    let streams = c.in_ok-streams.streams in
    let least =
    least_of project.joints.ranks c.ranks.result.now items c.as_slice.result.now next c.ranks.ensures c.as_slice.ensures.value c.in-Some.ensures in
    record {
      size = length-set items next (Some streams) ∙ c.loop-next.invariant.size;
      known =
          one_known project given items next streams least.within least.unknown c.loop-next.invariant.known
          (fed_next project items next c.loop-next.invariant.size least) c.in_ok-streams.ensures.ticks
          (subst (λ xs. StreamEquations (nodes_at project.kernels next) (run_of project given (settled_values xs) next) (OneKernel.values_of streams))
          c.as_slice-in-Some.ensures.value c.in_ok-streams.ensures.equations)
          c.in_ok-streams.ensures.words;
    }

pub returns-clause-ticks : goal.returns-clause-ticks
returns-clause-ticks c =
    let items = c.loop-next.settled.items in
    all_timed c.args.project.now (given_of c.args.run.now) items (record { kernels = c.in_ok-all_done.field-0 })
    c.loop-next.invariant.size c.loop-next.invariant.known
    (done_of c.ranks.result.now items c.as_slice.result.now c.next_open.result c.in_default.is c.as_slice.ensures.value c.next_open.ensures)
    c.in_ok-all_done.ensures

pub returns-clause-equations : goal.returns-clause-equations
returns-clause-equations c =
    let items = c.loop-next.settled.items in
    all_satisfied c.args.project.now (given_of c.args.run.now) items (record { kernels = c.in_ok-all_done.field-0 })
    c.loop-next.invariant.size c.loop-next.invariant.known
    (done_of c.ranks.result.now items c.as_slice.result.now c.next_open.result c.in_default.is c.as_slice.ensures.value c.next_open.ensures)
    c.in_ok-all_done.ensures

pub returns-clause-words : goal.returns-clause-words
returns-clause-words c =
    let items = c.loop-next.settled.items in
    all_fit c.args.project.now (given_of c.args.run.now) items (record { kernels = c.in_ok-all_done.field-0 })
    c.loop-next.invariant.size c.loop-next.invariant.known
    (done_of c.ranks.result.now items c.as_slice.result.now c.next_open.result c.in_default.is c.as_slice.ensures.value c.next_open.ensures)
    c.in_ok-all_done.ensures
