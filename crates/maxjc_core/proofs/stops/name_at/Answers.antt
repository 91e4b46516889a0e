-- The name of a kernel by its number.
use Rattle.std.proofs.Common.{◌∙◌, Some, ap, refl, sym}
use Rattle.std.specs.Option.{option_map}
use Rattle.std.proofs.lemmas.Result.{IfOk-weaker}
use Rattle.std.proofs.lemmas.Option.{slice_get_read}
use Rattle.std.specs.Prelude.{◌≡◌, length, slice_get}
use Rattle.mx_base.specs.Files.{Name}
use Rattle.stream_graph.specs.declared.kernel.Kernel.{Kernel}
use Rattle.maxjc_core.proofs.stops.name_at.Goals as goal

pub returns : goal.returns
returns c =
    let kernels = c.args.kernels.now in
    let kernel = c.index-kernels-number.result in
    let at = slice_get_read kernels (length kernels) c.args.number kernel refl c.requires
    c.index-kernels-number.is in
    IfOk-weaker c.name_of.result (λ (name : Name). name ≡ kernel.name)
    (λ (name : Name). option_map (λ (k : Kernel). k.name) (slice_get kernels c.args.number) ≡ Some name)
    (λ name same. ap (option_map (λ (k : Kernel). k.name)) at ∙ ap Some (sym same))
    c.name_of.ensures
