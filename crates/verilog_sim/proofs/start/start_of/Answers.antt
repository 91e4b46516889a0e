use Rattle.std.proofs.Common.{rules, ◌≡◌, ◌+◌, ℕ, List, Some, replicate, map, length, ap, sym, subst, ◌∙◌, arith}
use Rattle.std.specs.Prelude.{slice_get}
use Rattle.std.proofs.lemmas.List.{length-append, length-map, length-replicate}
use Rattle.rtl_ir.specs.declared.design.Assign.{Assign}
use Rattle.rtl_ir.specs.declared.interface.KernelPorts.{KernelPorts}
use Rattle.rtl_ir.specs.declared.interface.ScalarPort.{ScalarPort}
use Rattle.rtl_ir.specs.Interfaces.{nets_of}
use Rattle.verilog_sim.specs.First.{AreLiteralsSet}
use Rattle.verilog_sim.proofs.Starting.{start_held, start_kept, start_values, map_zero}
use Rattle.verilog_sim.proofs.start.start_of.Goals as goal

pub registers-requires-clause-sized : goal.registers-requires-clause-sized
registers-requires-clause-sized c = c.requires.runnable.nets

pub memories-requires : goal.memories-requires
memories-requires c = c.requires.runnable.mems

pub set_literals-requires : goal.set_literals-requires
set_literals-requires c = λ k a at.
    let f = c.requires.runnable.assigns k a (subst (λ (l : List Assign). slice_get l k ≡ Some a) c.as_slice.ensures at) in
    omega (arith, f.target, c.in_ok-ahead.ensures.size)

pub set_literals-requires-2 : goal.set_literals-requires-2
set_literals-requires-2 c = λ k a at.
    let f = c.requires.runnable.assigns k a (subst (λ (l : List Assign). slice_get l k ≡ Some a) c.as_slice-2.ensures at) in
    omega (arith, f.target, ap length c.in_ok-values.ensures, length-replicate {A = ℕ} c.len.result 0, c.len.ensures)

pub returns-clause-steady : goal.returns-clause-steady
returns-clause-steady c =
    let i = c.args.interface.now in
    let steady : c.in_ok-steady.steady.items ≡ replicate (length i.kernels + length i.scalars) 0 = search rules in
    let size : length i.kernels + length i.scalars ≡ length (nets_of i).steady =
    omega (
      arith,
      length-append (map (λ (k : KernelPorts). k.ticks) i.kernels)
          (map (λ (s : ScalarPort). s.net) i.scalars),
      length-map i.kernels (λ (k : KernelPorts). k.ticks),
      length-map
          i.scalars (λ (s : ScalarPort). s.net),
    ) in
    steady ∙ ap (λ n. replicate n 0) size ∙ sym (map_zero (nets_of i).steady)

pub returns-clause-held : goal.returns-clause-held
returns-clause-held c =
    let m = c.args.module.now in
    start_held m c.args.fill c.in_ok-ahead.ahead c.set_literals.new.values c.requires.runnable c.in_ok-ahead.ensures.size
    c.in_ok-ahead.ensures.filled
    (subst (λ (l : List Assign). AreLiteralsSet l c.in_ok-ahead.ahead c.set_literals.new.values (length l))
    c.as_slice.ensures c.set_literals.ensures)

pub returns-clause-kept : goal.returns-clause-kept
returns-clause-kept c =
    let i = c.args.interface.now in
    let m = c.args.module.now in
    let steady : c.in_ok-steady.steady.items ≡ replicate (length i.kernels + length i.scalars) 0 = search rules in
    start_kept m c.args.fill c.in_ok-ahead.ahead c.set_literals.new.values c.requires.runnable c.in_ok-ahead.ensures.size
    c.in_ok-ahead.ensures.filled
    (subst (λ (l : List Assign). AreLiteralsSet l c.in_ok-ahead.ahead c.set_literals.new.values (length l))
    c.as_slice.ensures c.set_literals.ensures)
    i c.in_ok-steady.steady.items c.in_ok-memories.memories.items c.in_ok-memories.ensures steady

pub returns-clause-first : goal.returns-clause-first
returns-clause-first c =
    let m = c.args.module.now in
    start_values m c.args.fill c.in_ok-values.values c.set_literals-2.new.values c.in_ok-memories.memories.items c.requires.runnable
    (c.in_ok-values.ensures ∙ ap (λ k. replicate k 0) c.len.ensures)
    (subst (λ (l : List Assign). AreLiteralsSet l c.in_ok-values.values c.set_literals-2.new.values (length l))
    c.as_slice-2.ensures c.set_literals-2.ensures)
    c.in_ok-memories.ensures
