-- From a least schedule of a kernel to its module.
use Rattle.std.proofs.Common.{◌≡◌, ◌∙◌, ℕ, ◌*◌, ◌≤◌, ◌<◌, ◌^◌, List, length, sym, ap, subst, arith}
use Rattle.std.specs.Prelude.{pos, ◌≤ℤ◌, slice_index, Result, Ok, Err, IfErr}
use Rattle.std.proofs.lemmas.Int.{ints}
use Rattle.std.specs.Result.{IsErrAnd}
use Rattle.cycle_find.specs.Constraints.{numbers_of}
use Rattle.schedule_problem.specs.Flow.{cost_of}
use Rattle.stream_graph.specs.declared.kernel.Kernel.{Kernel}
use Rattle.stream_graph.specs.declared.node.Node.{Node}
use Rattle.latency_table.specs.declared.table.Table.{Table}
use Rattle.offset_edges.specs.Edges.{edges_of}
use Rattle.offset_edges.specs.Latencies.{ticks_of}
use Rattle.offset_edges.specs.Schedules.{fifo_bits}
use Rattle.kernel_schedule.specs.declared.schedule.Schedule.{Schedule}
use Rattle.kernel_schedule.specs.Beginning.{BeginsAtZero}
use Rattle.kernel_report.specs.Judging.{IsShown}
use Rattle.kernel_report.specs.Parts.{IsPartOf}
use Rattle.kernel_layout.specs.declared.layout.Layout.{Layout}
use Rattle.kernel_layout.specs.Layouts.{IsLayout}
use Rattle.kernel_stages.specs.Numbers.{register_count, wait_count, ring_count, pipeline_bits, all_word_bits}
use Rattle.kernel_rtl.specs.Planned.{widths_of}
use Rattle.kernel_plan.specs.Planned.{IsScheduled}
use Rattle.kernel_plan.specs.declared.error.PlanError.{PlanError}
use Rattle.kernel_plan.specs.declared.error.PlanError.TheVariants as P
use Rattle.kernel_plan.specs.Refused.{bits_in}
use Rattle.kernel_plan.specs.Refused as Plans
use Rattle.kernel_plan.specs.Stored.{latency_bits}
use Rattle.kernel_plan.proofs.Facts.{same_ticks, times_length}
use Rattle.kernel_wiring.specs.OneNode.{operand_count}
use Rattle.kernel_netlist.specs.declared.error.NetlistError.{NetlistError}
use Rattle.kernel_netlist.specs.declared.error.NetlistError.TheVariants as E
use Rattle.kernel_netlist.specs.declared.making.KernelNetlist.{KernelNetlist}
use Rattle.kernel_netlist.specs.Bits.{NeedsBits, NeedsFewBits}
use Rattle.kernel_netlist.specs.Modules.{IsModuleOf}
use Rattle.kernel_netlist.specs.Netlists.{IsNetlistOf}
use Rattle.kernel_netlist.specs.Refused.{of_plan, IsRefused}
use Rattle.kernel_netlist.specs.Scheduled.{IsBestSchedule}
use Rattle.kernel_netlist.proofs.Names.{names_text}
use Rattle.kernel_netlist.proofs.Sizes.{module_small}

module _ (table : Table) (nodes : List Node) (schedule : Schedule)
    (best : IsBestSchedule table nodes schedule) where
  pub scheduled : IsScheduled nodes schedule
  scheduled = record { table = table; schedulable = best.schedulable; least = best.least }

  -- there is a time for each node
  pub enough_times : length nodes ≤ length schedule.answer.times
  enough_times =
      let e : length schedule.answer.times ≡ 2 * length nodes =
      times_length nodes schedule scheduled in
      omega arith

  same : slice_index schedule.latencies ≡ ticks_of table nodes
  same = same_ticks table nodes schedule.latencies best.least.latencies

  -- the bits of the schedule's FIFOs, by the table's latencies
  by_table : bits_in nodes schedule
      ≡ fifo_bits (ticks_of table nodes) nodes (edges_of nodes) (numbers_of schedule.answer.times)
  by_table = ap (λ t. fifo_bits t nodes (edges_of nodes) (numbers_of schedule.answer.times)) same

  -- they are what its times cost
  pub bits_cost : bits_in nodes schedule ≡ cost_of schedule.problem (numbers_of schedule.answer.times)
  bits_cost = by_table ∙ best.least.bits

  needs : (bits : ℕ) → pos bits ≡ bits_in nodes schedule → NeedsBits table nodes bits
  needs bits are = record {
    times = numbers_of schedule.answer.times;
    least = best.least.times;
    holds = sym by_table ∙ sym are;
  }

  needs_few : bits_in nodes schedule ≤ℤ pos (2 ^ 28) → NeedsFewBits table nodes
  needs_few few = record {
    times = numbers_of schedule.answer.times;
    least = best.least.times;
    few = subst (λ b. b ≤ℤ pos (2 ^ 28)) by_table few;
  }

  -- few bits are needed where those of a plan are few
  pub planned_few : (bits : ℕ) → pos bits ≡ bits_in nodes schedule → bits ≤ 2 ^ 28
      → NeedsFewBits table nodes
  planned_few bits are few =
      needs_few (subst (λ b. b ≤ℤ pos (2 ^ 28)) are (omega (arith, ints, few)))

  -- why a kernel that has no layout has no module
  pub plan_refused : (error : PlanError) → Plans.IsRefused (bits_in nodes schedule) error
      → (r : Result KernelNetlist NetlistError) → IsErrAnd r (λ e. e ≡ of_plan error)
      → IfErr r (IsRefused table nodes)
  plan_refused error h (Ok made) is = absurd is
  plan_refused (P.TooManyBits bits) h (Err e) is =
      subst (IsRefused table nodes) (sym is)
      (record { schedulable = best.schedulable; needs = needs bits h.0; many = h.1 })
  plan_refused P.NoMemory h (Err e) is = subst (IsRefused table nodes) (sym is) (needs_few h)

  -- where memory is wanting behind a plan, few bits are needed
  pub memory_refused : (bits : ℕ) → pos bits ≡ bits_in nodes schedule → bits ≤ 2 ^ 28
      → (r : Result KernelNetlist NetlistError) → IsErrAnd r (λ e. e ≡ E.NoMemory)
      → IfErr r (IsRefused table nodes)
  memory_refused bits are few (Ok made) is = absurd is
  memory_refused bits are few (Err e) is =
      subst (IsRefused table nodes) (sym is) (planned_few bits are few)

-- ---- all of it

module _ (table : Table) (kernel : Kernel) (schedule : Schedule)
    (best : IsBestSchedule table kernel.nodes schedule) where
  abbrev nodes : List Node
  nodes = kernel.nodes

  -- the module, and what a report says of the schedule
  pub netlist_is : (bits : ℕ) (layout : Layout) → pos bits ≡ bits_in nodes schedule → bits ≤ 2 ^ 28
      → IsLayout nodes (slice_index schedule.latencies) (numbers_of schedule.answer.times) layout
      → all_word_bits (widths_of nodes) layout.waits ≡ bits
      → pipeline_bits (widths_of nodes) layout.pipeline
      ≡ latency_bits (slice_index schedule.latencies) nodes
      → register_count layout.pipeline ≤ 64 * length nodes
      → wait_count layout.waits ≤ operand_count nodes
      → ring_count layout.waits ≤ operand_count nodes
      → (made : KernelNetlist)
      → IsModuleOf kernel schedule.answer.times layout made.inner
      → IsPartOf kernel schedule made.part → IsShown table kernel made.part
      → ((v : ℕ) → v < length nodes
      → numbers_of made.part.times v ≡ numbers_of schedule.answer.times v)
      → BeginsAtZero (edges_of nodes) (length nodes) (numbers_of made.part.times)
      → IsNetlistOf table kernel schedule.answer.times made
  unfolding same by_table
  netlist_is bits layout are few laid words piped registers waits rings made is part shown times begins =
      let cost = bits_cost table nodes schedule best in
      let own = part.bits in
      let same_bits : made.part.bits ≡ bits = omega (arith, ints, are, cost, own) in
      let ticks = same table nodes schedule best in
      let latencies = ap (λ t. latency_bits t nodes) ticks in
      let stored = is.stored in
      record {
        schedulable = best.schedulable;
        least = best.least.times;
        each = enough_times table nodes schedule best;
        begin = λ v h. best.least.earliest.non_negative v;
        most = λ v h. best.most v;
        part = record {
          is = part.is;
          shown = shown;
          holds = sym (by_table table nodes schedule best) ∙ sym are ∙ ap pos (sym same_bits);
          few = subst (λ b. b ≤ 2 ^ 28) (sym same_bits) few;
          timed = times;
          begins = begins;
        };
        refines = is.refines;
        ports_first = is.ports_first;
        layout = layout;
        laid = subst (λ t. IsLayout nodes t (numbers_of schedule.answer.times) layout) ticks laid;
        stored = omega (arith, stored, words, piped, latencies, same_bits);
        small = module_small kernel schedule.answer.times layout made.inner is registers waits rings;
        names =
            names_text kernel _ made.inner is.partial is.refines is.few_nets is.few_mems;
      }
