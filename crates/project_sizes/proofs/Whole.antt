-- All that is said of the size of the design.
use Rattle.std.proofs.Common.{List, arith}
use Rattle.std.specs.Prelude.{ℤ}
use Rattle.std.specs.List.{All}
use Rattle.std.proofs.lemmas.Option.{slice_get-get_or, slice_get_within}
use Rattle.rtl_ir.specs.declared.design.Module.{Module}
use Rattle.stream_graph.specs.declared.kernel.Kernel.{Kernel}
use Rattle.manager_links.specs.declared.project.Project.{Project}
use Rattle.project_rtl.specs.Tops.{top_module}
use Rattle.project_rtl.specs.Kept.{AllRefine}
use Rattle.project_rtl.specs.Designs.{StoresParts}
use Rattle.verilog_size.proofs.Slices.{found}
use Rattle.project_sizes.specs.Sized.{ProjectIsSized}
use Rattle.project_sizes.proofs.Counts.{few_nets, count_queues}
use Rattle.project_sizes.proofs.Facts.{has_shape, ports_first, is_top, stores_parts}
use Rattle.project_sizes.proofs.Stored.{IsLeaf, bits, wires}
use Rattle.project_sizes.proofs.Sizes.{size}
use Rattle.project_sizes.proofs.Names.{AreInner, names}
use Rattle.project_sizes.proofs.TextNames.{text_names}

-- modules that refine the kernels have their names and ports, and no instances
are_inner : (project : Project) (times : List (List ℤ)) (inners : List Module) → AllRefine project times inners → AreInner project.kernels inners
are_inner project times inners refines k m at =
    let lt = slice_get_within inners k m at in
    let count = refines.count in
    let one = found project.kernels k (omega (arith, lt, count)) in
    let own = refines.each k one.0 m one.1 at in
    (one.0, one.1, record { named = own.name; ports = own.ports; leaf = own.instances })

leaves : (kernels : List Kernel) (inners : List Module) → AreInner kernels inners → All IsLeaf inners
leaves kernels inners are k d lt = (are k _ (slice_get-get_or inners k d lt)).2.leaf

pub whole : ProjectIsSized
whole project times made inners d refines first is =
    let parts : StoresParts project made inners d (top_module project) = stores_parts project made inners d is in
    let are = are_inner project times inners refines in
    let leaf = leaves project.kernels inners are in
    record {
      is_top = is_top project made inners d is;
      shape = has_shape project;
      ports_first = ports_first project made inners d is first;
      stored = parts;
      bits = bits project made inners d (top_module project) parts leaf;
      nets = few_nets project;
      wires = wires project made inners d (top_module project) parts leaf (count_queues project made is.links);
      size = size project made inners d is;
      names = names project made inners d is are;
      text_names = text_names project made inners d is;
    }
