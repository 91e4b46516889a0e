-- How large the design of a project is, by the parts of the project.
use Rattle.std.proofs.Common.{◌≡◌, ℕ, ◌+◌, ◌*◌, ◌≤◌, ◌^◌, List, [], ◌∷◌, length, refl, ap, arith, length-append}
use Rattle.std.specs.Prelude.{ℤ}
use Rattle.std.specs.List.{sum_by}
use Rattle.std.proofs.lemmas.List.Sums.{sum_by-cons}
use Rattle.std.proofs.Math.Nat.{mul-le-mul_right}
use Rattle.rtl_ir.specs.declared.design.Design.{Design}
use Rattle.rtl_ir.specs.declared.design.Instance.{Instance}
use Rattle.rtl_ir.specs.declared.design.Module.{Module}
use Rattle.rtl_reading.specs.Reads.{IsPortsFirst}
use Rattle.stream_graph.specs.declared.kernel.Kernel.{Kernel}
use Rattle.stream_graph.specs.Kinds.{is_input, is_output, is_scalar}
use Rattle.latency_table.specs.declared.table.Table.{Table}
use Rattle.schedule_report.specs.declared.report.ReportKernel.{ReportKernel}
use Rattle.kernel_control.specs.Ports.{inputs_of, outputs_of}
use Rattle.kernel_control.specs.Refines.{Refines}
use Rattle.kernel_wiring.specs.Costs.{port_name, own_name, nets_a_part, bytes_a_part}
use Rattle.kernel_wiring.specs.OneNode.{operand_count}
use Rattle.kernel_wiring.proofs.Costs.{numbers_counted, few_ports, all_bytes_parted}
use Rattle.kernel_wiring.proofs.Costs as Costs
use Rattle.kernel_netlist.specs.Netlists.{IsSmall}
use Rattle.manager_links.specs.declared.links.Links.{Links}
use Rattle.manager_links.specs.declared.project.Project.{Project}
use Rattle.project_netlists.specs.Netlists.{AreKernelNetlists}
use Rattle.project_rtl.specs.Designs.{IsDesignOf, kernel_weight, kernel_bytes}
use Rattle.project_rtl.specs.Storage.{all_nets, net_count}
use Rattle.verilog_size.specs.Names.{HasOwnNames, inner_names}
use Rattle.verilog_size.specs.Sizes.{instance_size, size_of}
use Rattle.verilog_size.proofs.OwnNames.{own_names_few}
use Rattle.verilog_size.proofs.Slices.{sum_few}
use Rattle.verilog_size.proofs.Whole.{texts_small}
use Rattle.project_verilog.specs.Parts.{kernel_parts, part_count}
use Rattle.project_verilog.specs.Texts.{IsPrinted}
use Rattle.project_verilog.proofs.Modules.{of_kernel}
use Rattle.project_verilog.proofs.Sums.{sums_few, as_many}

-- ---- one kernel

-- the most bytes of the text of its module, beside its name
abbrev module_bytes : Kernel → ℕ
module_bytes kernel =
    8362 + bytes_a_part * (length kernel.nodes + operand_count kernel.nodes)

module _ (kernel : Kernel) (times : ℕ → ℕ) (m : Module) (refines : Refines m kernel times)
    (first : IsPortsFirst m) (small : IsSmall kernel.nodes m) where
  own_nets : net_count m ≤ nets_a_part * kernel_parts kernel
  own_nets =
      let nets = small.nets in
      let few = Costs.nets_few kernel.nodes kernel.made in
      omega (arith, nets, few)

  -- the parts of the module, and the names in it
  own_bytes : 100 * size_of m + inner_names m ≤ 1 * module_bytes kernel
  own_bytes =
      let alone : Design = record { modules = m ∷ [] } in
      let accepted = refines.accepted alone refl in
      let own : HasOwnNames port_name own_name m = record {
        fewer = omega arith;
        nets = small.net_names;
        inner = small.own_names;
        mems = small.mem_names;
      } in
      let names =
      own_names_few alone [] m port_name own_name (accepted.formed.each 0 m refl)
      (accepted.sound 0 m refl) first own in
      let ports = small.ports in
      let nets = small.nets in
      let mems = small.mems in
      let none = ap (λ (l : List Instance). sum_by instance_size l) refines.instances in
      let parted = all_bytes_parted kernel.nodes in
      let few = Costs.bytes_few kernel.nodes kernel.made in
      omega (arith, names, ports, nets, mems, none, parted, few)

-- a kernel's scalars, inputs and outputs
weight_few : (kernel : Kernel) → kernel_weight kernel ≤ 1 + length kernel.nodes
weight_few kernel =
    let scalars = numbers_counted is_scalar 0 kernel.nodes in
    let inputs = numbers_counted is_input 0 kernel.nodes in
    let outputs = numbers_counted is_output 0 kernel.nodes in
    let few = few_ports kernel.nodes in
    let streams = length-append (inputs_of kernel.nodes) (outputs_of kernel.nodes) in
    omega (arith, scalars, inputs, outputs, few, streams)

-- so few nodes are scalars that their names and the kernel's have few bytes together
bytes_by_name : (kernel : Kernel) → kernel_bytes kernel ≤ 16400 * length kernel.name
bytes_by_name kernel =
    let weight = weight_few kernel in
    let all = kernel.few in
    mul-le-mul_right (length kernel.name) (omega (arith, weight, all))

-- all bytes of a text that a kernel has part in, and those of the project that go to the first one
all_bytes_few : (kernels : List Kernel)
    → sum_by module_bytes kernels + sum_by kernel_bytes kernels
    + 29184 * sum_by kernel_weight kernels + 19584 * length kernels
    ≤ 2 ^ 18 * sum_by kernel_parts kernels
all_bytes_few [] = omega arith
all_bytes_few (kernel ∷ kernels) =
    let rest = all_bytes_few kernels in
    let own = sum_by-cons module_bytes kernel kernels in
    let by_name = sum_by-cons kernel_bytes kernel kernels in
    let weights = sum_by-cons kernel_weight kernel kernels in
    let parts = sum_by-cons kernel_parts kernel kernels in
    let names = bytes_by_name kernel in
    let weight = weight_few kernel in
    omega (arith, rest, own, by_name, weights, parts, names, weight)

-- ---- all kernels

module _ (table : Table) (project : Project) (times : List (List ℤ)) (parts : List ReportKernel)
    (inners : List Module) (are : AreKernelNetlists table project.kernels times parts inners) where
  -- what is few of each module is few of all
  of_all : (f : Module → ℕ) (g : Kernel → ℕ) (n : ℕ)
      → ((kernel : Kernel) (own : ℕ → ℕ) (m : Module) → Refines m kernel own → IsPortsFirst m
      → IsSmall kernel.nodes m → f m ≤ n * g kernel)
      → sum_by f inners ≤ n * sum_by g project.kernels
  of_all f g n each =
      sums_few f g n inners project.kernels are.one_module
      (λ k m kernel at here.
      let own = (of_kernel table project.kernels times parts inners are k kernel m here at).1 in
      each kernel _ m own.refines own.ports_first own.small)

  -- the bytes of all modules are those of their parts and names
  both : (ms : List Module)
      → sum_by (λ m. 100 * size_of m + inner_names m) ms
      ≡ 100 * sum_by size_of ms + sum_by inner_names ms
  both [] = refl
  both (m ∷ ms) =
      let rest = both ms in
      let all = sum_by-cons (λ m. 100 * size_of m + inner_names m) m ms in
      let sizes = sum_by-cons size_of m ms in
      let names = sum_by-cons inner_names m ms in
      omega (arith, rest, all, sizes, names)

  -- there is a kernel, and so a part
  some_part : 1 ≤ sum_by kernel_parts project.kernels
  some_part =
      let some = project.whole.few.some in
      let many = as_many kernel_parts project.kernels (λ kernel. omega arith) in
      omega (arith, some, many)

  weights : sum_by kernel_weight project.kernels ≤ 1 * sum_by kernel_parts project.kernels
  weights =
      sum_few kernel_weight kernel_parts 1 project.kernels
      (λ k kernel here. let few = weight_few kernel in omega (arith, few))

  module _ (made : Links) (d : Design) (is : IsDesignOf project made inners times d) where
    -- the wires of a design
    pub wires_few : all_nets d ≤ 2048 * part_count project
    wires_few =
        let own = of_all net_count kernel_parts nets_a_part own_nets in
        let weight = weights in
        let some = some_part in
        let top = is.nets in
        let all = is.wires in
        omega (arith, own, weight, some, top, all)

    -- the bytes of its text
    pub bytes_few : (text : List ℕ) → IsPrinted d text → length text ≤ 2 ^ 18 * part_count project
    bytes_few text printed =
        let own = of_all (λ m. 100 * size_of m + inner_names m) module_bytes 1 own_bytes in
        let parted = both inners in
        let all = all_bytes_few project.kernels in
        let some = project.whole.few.some in
        let size = is.size in
        let names = is.names in
        let small = texts_small d is.accepted in
        let lines = ap (λ (t : List ℕ). length t) printed.lines in
        omega (arith, own, parted, all, some, size, names, small, lines)
