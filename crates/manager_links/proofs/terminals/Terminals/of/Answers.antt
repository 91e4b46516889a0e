use Rattle.std.proofs.Common.{◌∙◌, ◌≤◌, ◌<◌, ◌++◌, length, map, ap, subst, arith, append_assoc}
use Rattle.std.proofs.lemmas.List.{take_all}
use Rattle.manager_links.specs.Numbers.{Knows}
use Rattle.manager_links.specs.Terminals.{FromCpu, ToCpu, ports_from}
use Rattle.manager_links.proofs.PortLemmas.{ports_step}
use Rattle.manager_links.proofs.terminals.Terminals.of.Goals as goal

pub loop-number-init : goal.loop-number-init
loop-number-init c = c.new-known.ensures c.args.plan.now c.args.kernels.now

pub loop-number-preserved : goal.loop-number-preserved
loop-number-preserved c =
    let kernels = c.args.kernels.now in
    let plan = c.args.plan.now in
    let number = c.loop-number.number in
    let lt : number < length kernels = omega (arith, c.loop-number-test.true) in
    subst (λ xs. Knows plan kernels xs c.add_ports.new.self) (ports_step kernels number lt)
    (c.in_ok-add_ports.ensures plan _ c.loop-number.invariant)

pub returns : goal.returns
returns c =
    let kernels = c.args.kernels.now in
    let plan = c.args.plan.now in
    let end : length kernels ≤ c.loop-number.number = omega (arith, c.loop-number-test.false) in
    let all = subst (λ xs. Knows plan kernels (ports_from 0 xs) c.loop-number.known) (take_all _ _ end) c.loop-number.invariant in
    subst (λ xs. Knows plan kernels xs c.add_to_cpu.new.self)
    (ap (λ names. (ports_from 0 kernels ++ map FromCpu plan.from_cpu) ++ map ToCpu names) c.as_slice-2.ensures
    ∙ append_assoc (ports_from 0 kernels) (map FromCpu plan.from_cpu) (map ToCpu plan.to_cpu))
    (c.in_ok-add_to_cpu.ensures plan kernels _ c.as_slice-2.ensures
    (subst (λ names. Knows plan kernels (ports_from 0 kernels ++ map FromCpu names) c.add_from_cpu.new.self) c.as_slice.ensures
    (c.in_ok-add_from_cpu.ensures plan kernels _ c.as_slice.ensures all)))
