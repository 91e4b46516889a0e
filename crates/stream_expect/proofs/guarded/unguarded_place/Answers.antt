use Rattle.std.proofs.Common.{◌≡◌, ◌<◌, ◌≤◌, length, ap, sym, subst, arith, ⊎_elim}
use Rattle.std.specs.Prelude.{Some, slice_get}
use Rattle.std.proofs.lemmas.Bool.{cases_lt}
use Rattle.kernel_words.specs.Guarded as One
use Rattle.kernel_words.specs.Streams as OneKernel
use Rattle.project_streams.specs.Streams.{nodes_at}
use Rattle.project_words.proofs.Ports.{nodes_read}
use Rattle.stream_expect.proofs.Guarding.{own_place, in_kernel, in_project}
use Rattle.stream_expect.proofs.guarded.unguarded_place.Goals as goal

pub returns-in-Some : goal.returns-in-Some
returns-in-Some c = λ given have.
    let project = c.args.project.now in
    let words = c.args.words.now in
    let k = c.loop-number.number in
    let kernel = c.index-kernels-number.result in
    let streams = c.of.result.now in
    let size = ap length c.kernels-kernels.ensures in
    let test = c.loop-number-test.true in
    let lt : k < length project.kernels = omega (arith, size, test) in
    let nodes = nodes_read project.kernels c.kernels-kernels.result.now k kernel c.kernels-kernels.ensures lt c.index-kernels-number.is in
    let first = c.in-Some.ensures in
    record {
      here =
          in_project project given words kernel.nodes streams
          (record { kernel = k; node = c.in-Some.place.node; tick = c.in-Some.place.tick })
          have nodes c.of.ensures lt first.here;
      before = λ other earlier unguarded. ⊎_elim
          (λ (less : other.kernel < k). c.loop-number.invariant given other have less unguarded)
          (λ same.
          first.before (own_place other) same.1
          (in_kernel project given words kernel.nodes streams other have
          (subst (λ j. nodes_at project.kernels j ≡ kernel.nodes) (sym same.0) nodes)
          (subst (λ j. slice_get words.kernels j ≡ Some streams) (sym same.0) c.of.ensures) unguarded))
          earlier;
    }

pub loop-number-preserved : goal.loop-number-preserved
loop-number-preserved c = λ given place have within unguarded.
    let project = c.args.project.now in
    let words = c.args.words.now in
    let k = c.loop-number.number in
    let kernel = c.index-kernels-number.result in
    let streams = c.of.result.now in
    let size = ap length c.kernels-kernels.ensures in
    let test = c.loop-number-test.true in
    let nodes = nodes_read project.kernels c.kernels-kernels.result.now k kernel c.kernels-kernels.ensures (omega (arith, size, test)) c.index-kernels-number.is in
    let none = subst (One.IsGuardedBut kernel.nodes streams.ticks (OneKernel.values_of streams)) c.in_default.is c.first_unguarded.ensures in
    ⊎_elim
    (λ (less : place.kernel < k). c.loop-number.invariant given place have less unguarded)
    (λ (le : k ≤ place.kernel).
    let same : k ≡ place.kernel = omega (arith, le, within) in
    none (own_place place)
    (in_kernel project given words kernel.nodes streams place have
    (subst (λ j. nodes_at project.kernels j ≡ kernel.nodes) same nodes)
    (subst (λ j. slice_get words.kernels j ≡ Some streams) same c.of.ensures) unguarded))
    (cases_lt place.kernel k)
