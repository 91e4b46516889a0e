use Rattle.std.proofs.Common.{List, length, ap, arith}
use Rattle.stream_graph.specs.declared.kernel.Kernel.{Kernel}
use Rattle.manager_links.specs.declared.hosts.HostPort.{HostPort}
use Rattle.project_design.proofs.Placing.{counted}
use Rattle.project_design.proofs.places.Places.of.Goals as goal

pub overflow_cast-done : goal.overflow_cast-done
overflow_cast-done c =
    let f = counted c.args.project.now in
    let d = f.done in
    let s = f.small in
    let r = c.requires in
    omega arith

pub overflow_cast-outputs : goal.overflow_cast-outputs
overflow_cast-outputs c =
    let f = counted c.args.project.now in
    let a = f.inputs in
    let b = f.outputs in
    let d = f.done in
    let s = f.small in
    let r = c.requires in
    let o = ap (λ (l : List HostPort). length l) c.outputs.ensures in
    omega arith

pub overflow_mul-outputs : goal.overflow_mul-outputs
overflow_mul-outputs c =
    let f = counted c.args.project.now in
    let a = f.inputs in
    let b = f.outputs in
    let d = f.done in
    let s = f.small in
    let r = c.requires in
    let o = ap (λ (l : List HostPort). length l) c.outputs.ensures in
    omega arith

pub overflow_cast-result-2 : goal.overflow_cast-result-2
overflow_cast-result-2 c =
    let f = counted c.args.project.now in
    let a = f.inputs in
    let b = f.outputs in
    let d = f.done in
    let s = f.small in
    let r = c.requires in
    let o = ap (λ (l : List HostPort). length l) c.outputs.ensures in
    let i = ap (λ (l : List HostPort). length l) c.inputs.ensures in
    omega arith

pub overflow_mul-result-2 : goal.overflow_mul-result-2
overflow_mul-result-2 c =
    let f = counted c.args.project.now in
    let a = f.inputs in
    let b = f.outputs in
    let d = f.done in
    let s = f.small in
    let r = c.requires in
    let o = ap (λ (l : List HostPort). length l) c.outputs.ensures in
    let i = ap (λ (l : List HostPort). length l) c.inputs.ensures in
    omega arith

pub returns : goal.returns
returns c =
    let f = counted c.args.project.now in
    let a = f.inputs in
    let b = f.outputs in
    let d = f.done in
    let s = f.small in
    let r = c.requires in
    let o = ap (λ (l : List HostPort). length l) c.outputs.ensures in
    let i = ap (λ (l : List HostPort). length l) c.inputs.ensures in
    let k = ap (λ (l : List Kernel). length l) c.kernels.ensures in
    let q = f.kernels in
    record { scalars = omega arith; inputs = omega arith; outputs = omega arith; done = omega arith; small = omega arith }
