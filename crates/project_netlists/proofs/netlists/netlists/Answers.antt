use Rattle.std.proofs.Common.{◌<◌, ◌+◌, ◌∷◌, ◌++◌, [], take, sym, subst}
use Rattle.std.proofs.lemmas.List.{take_all}
use Rattle.std.proofs.lemmas.Result.{err_from_is_err_and}
use Rattle.kernel_netlist.specs.Netlists.{IsNetlistOf}
use Rattle.manager_links.proofs.Pieces.{zip_length}
use Rattle.project_netlists.specs.Netlists.{AreKernelNetlists}
use Rattle.project_netlists.specs.Scheduled.{IsBestOf, all_times}
use Rattle.project_netlists.proofs.Lists.{zip_read}
use Rattle.project_netlists.proofs.Made.{none_made, made_more, all_fit}
use Rattle.project_netlists.proofs.Refusing.{of_bits}
use Rattle.project_netlists.proofs.Scheduled.{own_is}
use Rattle.project_netlists.proofs.netlists.netlists.Goals as goal

pub loop-number-init : goal.loop-number-init
loop-number-init c =
    let table = c.args.table.now in
    let times = all_times c.args.schedules.now in
    subst (λ inners. AreKernelNetlists table [] times c.new-parts.result inners) (sym c.new-inners.ensures)
    (subst (λ parts. AreKernelNetlists table [] times parts []) (sym c.new-parts.ensures)
    (none_made table times))

pub bounds-schedules-number : goal.bounds-schedules-number
bounds-schedules-number c =
    subst (λ n. c.loop-number.number < n)
    (zip_length (IsBestOf c.args.table.now) c.args.kernels.now c.args.schedules.now c.requires.best)
    c.loop-number-test.true

pub netlist_of-requires-clause-best : goal.netlist_of-requires-clause-best
netlist_of-requires-clause-best c =
    let kernels = c.args.kernels.now in
    let schedules = c.args.schedules.now in
    let i = c.loop-number.number in
    zip_read (IsBestOf c.args.table.now) kernels schedules i c.index-kernels-number.result
    c.index-schedules-number.result c.requires.best c.loop-number-test.true c.index-kernels-number.is
    (subst (λ n. i < n) (zip_length (IsBestOf c.args.table.now) kernels schedules c.requires.best)
    c.loop-number-test.true)
    c.index-schedules-number.is

pub loop-number-preserved : goal.loop-number-preserved
loop-number-preserved c =
    let table = c.args.table.now in
    let kernels = c.args.kernels.now in
    let times = all_times c.args.schedules.now in
    let i = c.loop-number.number in
    let kernel = c.index-kernels-number.result in
    let made = c.in_ok-made.made in
    let within = subst (λ n. i < n) (zip_length (IsBestOf table) kernels c.args.schedules.now c.requires.best) c.loop-number-test.true in
    let own = own_is c.args.schedules.now i c.index-schedules-number.result within c.index-schedules-number.is in
    subst (λ inners. AreKernelNetlists table (take (i + 1) kernels) times c.push.new.self inners)
    (sym c.in_ok-push-2.ensures.ok)
    (subst (λ parts. AreKernelNetlists table (take (i + 1) kernels) times parts (c.loop-number.inners ++ made.inner ∷ []))
    (sym c.in_ok-push.ensures.ok)
    (made_more table kernels times c.loop-number.parts c.loop-number.inners i kernel made.part made.inner
    c.loop-number-test.true c.index-kernels-number.is c.loop-number.invariant
    (subst (λ xs. IsNetlistOf table kernel xs made) (sym own) c.in_ok-made.ensures.made)))

pub returns-in_err-made-clause-refused : goal.returns-in_err-made-clause-refused
returns-in_err-made-clause-refused c =
    let table = c.args.table.now in
    let kernels = c.args.kernels.now in
    let i = c.loop-number.number in
    let error = err_from_is_err_and c.from_residual.result c.from_residual.ensures.1 in
    rw (error.1, error.2)
    (of_bits table kernels i c.index-kernels-number.result c.in_err-made.field-0.0
    c.loop-number-test.true c.index-kernels-number.is
    (all_fit table (take i kernels) (all_times c.args.schedules.now) c.loop-number.parts
    c.loop-number.inners c.loop-number.invariant)
    c.in_err-made.ensures.refused)

pub returns-clause-made : goal.returns-clause-made
returns-clause-made c =
    subst (λ ks. AreKernelNetlists c.args.table.now ks (all_times c.args.schedules.now) c.loop-number.parts c.loop-number.inners)
    (take_all c.loop-number.number c.args.kernels.now c.loop-number-test.false)
    c.loop-number.invariant
