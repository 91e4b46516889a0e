use Rattle.std.proofs.Common.{◌≡◌, ◌/◌, length, take, ap, ◌∙◌, arith, rules}
use Rattle.offset_edges.specs.Edges.{edges_of}
use Rattle.kernel_report.proofs.Part.{edges_double, few_edges, part_is}
use Rattle.kernel_report.proofs.Written.{part_shown, part_times, part_begins}
use Rattle.kernel_report.proofs.parts.part_of.Goals as goal

pub overflow_cast-result : goal.overflow_cast-result
overflow_cast-result c =
    let kernel = c.args.kernel.now in
    let few = few_edges c.args.table.now kernel c.args.schedule.now c.requires.least in
    let double = edges_double c.args.table.now kernel c.args.schedule.now c.requires.least in
    let len = c.len.ensures in
    omega arith

pub returns : goal.returns
returns c =
    let kernel = c.args.kernel.now in
    let schedule = c.args.schedule.now in
    let double = edges_double c.args.table.now kernel schedule c.requires.least in
    let len = c.len.ensures in
    let name : c.from_vec.result ≡ kernel.name = search rules in
    let edges : c.len.result / 2 ≡ length (edges_of kernel.nodes) = omega arith in
    let flow : c.from_vec-2.result ≡ schedule.answer.flow = search rules in
    let times : c.in_ok-first_times.field-0 ≡ take (length kernel.nodes) schedule.answer.times =
    c.in_ok-first_times.ensures ∙ ap (λ n. take n schedule.answer.times) c.count-nodes.ensures in
    let part = part_is c.args.table.now kernel schedule c.requires.least _ kernel.named
    c.requires.most c.requires.small c.requires.bits name c.count-nodes.ensures edges times flow in
    record {
      part = part;
      shown = part_shown c.args.table.now kernel schedule c.requires.least _ part c.requires.most;
      times = part_times c.args.table.now kernel schedule c.requires.least _ part;
      begins =
          part_begins c.args.table.now kernel schedule c.requires.least _ part c.requires.begins;
    }
