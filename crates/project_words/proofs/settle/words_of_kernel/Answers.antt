use Rattle.std.proofs.Common.{◌≡◌, ◌∙◌, ◌*◌, ◌≤◌, length, sym, ap, subst, arith}
use Rattle.std.specs.Prelude.{slice_index}
use Rattle.std.proofs.lemmas.Option.{get_or_from_slice_get}
use Rattle.std.proofs.lemmas.Result.{IfOk-weaker}
use Rattle.stream_equations.specs.Equations.{StreamEquations}
use Rattle.kernel_words.specs.Streams as OneKernel
use Rattle.kernel_words.specs.Streams.{AreWords}
use Rattle.kernel_words.specs.declared.run.KernelRun.{KernelRun}
use Rattle.kernel_words.specs.declared.streams.Streams.{Streams}
use Rattle.project_streams.specs.Streams.{nodes_at, run_of}
use Rattle.project_words.specs.Given.{given_of, word_count}
use Rattle.project_words.specs.Open.{settled_values}
use Rattle.project_words.specs.Sources.{AreFrom}
use Rattle.project_words.proofs.Knowing.{same_own, few_words}
use Rattle.project_words.proofs.Ports.{nodes_read}
use Rattle.project_words.proofs.Runs.{still_satisfied}
use Rattle.project_words.proofs.settle.words_of_kernel.Goals as goal

pub kernel_streams-requires-clause-few : goal.kernel_streams-requires-clause-few
kernel_streams-requires-clause-few c =
    let kernels = c.args.project.now.kernels in
    let all = c.args.run.now.ticks in
    let k = c.args.kernel in
    let nodes = nodes_read kernels c.kernels.result.now k c.index-kernels-kernel.result c.kernels.ensures c.requires.kernel c.index-kernels-kernel.is in
    let ticks : slice_index all k ≡ c.at-2.result.now = get_or_from_slice_get all k c.at-2.result.now 0 c.at-2.ensures in
    let one : length c.index-kernels-kernel.result.nodes * c.at-2.result.now ≤ word_count kernels all =
    subst (λ ns. length ns * c.at-2.result.now ≤ word_count kernels all) nodes
    (subst (λ t. length (nodes_at kernels k) * t ≤ word_count kernels all) ticks (few_words kernels all k)) in
    let few = c.requires.few in
    omega (arith, one, few)

pub returns-clause-ticks : goal.returns-clause-ticks
returns-clause-ticks c =
    IfOk-weaker c.kernel_streams.result (λ (s : Streams). s.ticks ≡ c.at-2.result.now)
    (λ (s : Streams). s.ticks ≡ slice_index c.args.run.now.ticks c.args.kernel)
    (λ s e. e ∙ sym (get_or_from_slice_get c.args.run.now.ticks c.args.kernel c.at-2.result.now 0 c.at-2.ensures))
    c.kernel_streams.ensures.ticks

pub returns-clause-equations : goal.returns-clause-equations
returns-clause-equations c =
    let project = c.args.project.now in
    let run = c.args.run.now in
    let k = c.args.kernel in
    let values = settled_values c.args.settled.now in
    let own : KernelRun = record { ticks = c.at-2.result.now; scalars = c.from_vec.result; sources = c.from_vec-2.result } in
    let nodes = nodes_read project.kernels c.kernels.result.now k c.index-kernels-kernel.result c.kernels.ensures c.requires.kernel c.index-kernels-kernel.is in
    IfOk-weaker c.kernel_streams.result
    (λ (s : Streams). StreamEquations c.index-kernels-kernel.result.nodes (OneKernel.given_of own) (OneKernel.values_of s))
    (λ (s : Streams). StreamEquations (nodes_at project.kernels k) (run_of project (given_of run) values k) (OneKernel.values_of s))
    (λ s equations.
    still_satisfied (nodes_at project.kernels k) (OneKernel.given_of own) (run_of project (given_of run) values k)
    (same_own project run values k own
    (sym (get_or_from_slice_get run.ticks k c.at-2.result.now 0 c.at-2.ensures))
    (c.from_vec.ensures ∙ c.in_ok-scalars.ensures.items_if_clones_equal (λ x y e. e) ∙ c.as_slice.ensures
    ∙ sym (get_or_from_slice_get run.scalars k c.at.result.now _ c.at.ensures))
    (ap length c.from_vec-2.ensures ∙ c.in_ok-sources.ensures.nodes)
    (subst (λ sources. AreFrom project (given_of run) values k 0 sources) (sym c.from_vec-2.ensures) c.in_ok-sources.ensures.from))
    (OneKernel.values_of s)
    (subst (λ ns. StreamEquations ns (OneKernel.given_of own) (OneKernel.values_of s)) (sym nodes) equations))
    c.kernel_streams.ensures.equations

pub returns-clause-words : goal.returns-clause-words
returns-clause-words c =
    let kernels = c.args.project.now.kernels in
    let k = c.args.kernel in
    let nodes = nodes_read kernels c.kernels.result.now k c.index-kernels-kernel.result c.kernels.ensures c.requires.kernel c.index-kernels-kernel.is in
    IfOk-weaker c.kernel_streams.result (λ (s : Streams). AreWords c.index-kernels-kernel.result.nodes (OneKernel.values_of s))
    (λ (s : Streams). AreWords (nodes_at kernels k) (OneKernel.values_of s))
    (λ s words. subst (λ ns. AreWords ns (OneKernel.values_of s)) (sym nodes) words)
    c.kernel_streams.ensures.words
