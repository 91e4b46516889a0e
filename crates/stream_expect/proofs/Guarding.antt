-- Where a run of a project isn't guarded, by its kernels.
use Rattle.std.proofs.Common.{◌≡◌, ℕ, ◌<◌, List, length, None, Some, sym, ap, subst}
use Rattle.std.specs.Prelude.{slice_get}
use Rattle.std.specs.Option.{option_map_or}
use Rattle.stream_graph.specs.declared.node.Node.{Node}
use Rattle.stream_equations.specs.Equations.{Values}
use Rattle.kernel_family.specs.declared.place.Place.{Place as OwnPlace}
use Rattle.kernel_words.specs.Guarded as One
use Rattle.kernel_words.specs.Streams as OneKernel
use Rattle.kernel_words.specs.declared.streams.Streams.{Streams}
use Rattle.manager_links.specs.declared.project.Project.{Project}
use Rattle.project_streams.specs.Guarded.{Place, IsUnguarded}
use Rattle.project_streams.specs.Streams.{GivenProject, nodes_at}
use Rattle.project_words.specs.declared.words.ProjectWords.{ProjectWords}
use Rattle.project_words.specs.Words.{values_of, HaveTicks}

-- a place without its kernel
abbrev pub own_place : Place → OwnPlace
own_place place = record { node = place.node; tick = place.tick }

moved : (nodes others : List Node) (ticks other_ticks : ℕ) (val other_val : Values) (place : OwnPlace)
    → nodes ≡ others → ticks ≡ other_ticks → val ≡ other_val
    → One.IsUnguarded nodes ticks val place → One.IsUnguarded others other_ticks other_val place
moved nodes others ticks other_ticks val other_val place same same_ticks same_val unguarded =
    subst (λ v. One.IsUnguarded others other_ticks v place) same_val
    (subst (λ n. One.IsUnguarded others n val place) same_ticks
    (subst (λ ns. One.IsUnguarded ns ticks val place) same unguarded))

-- the words of one kernel
pub same_values : (words : ProjectWords) (k : ℕ) (streams : Streams)
    → slice_get words.kernels k ≡ Some streams → values_of words k ≡ OneKernel.values_of streams
same_values words k streams at = ap (λ o. option_map_or OneKernel.values_of o (λ n t. None)) at

module _ (project : Project) (given : GivenProject) (words : ProjectWords) (nodes : List Node)
    (streams : Streams) (place : Place) (have : HaveTicks given words)
    (same : nodes_at project.kernels place.kernel ≡ nodes)
    (at : slice_get words.kernels place.kernel ≡ Some streams) where
  -- a place of the project that isn't guarded isn't guarded in its kernel
  pub in_kernel : IsUnguarded project given (values_of words) place
      → One.IsUnguarded nodes streams.ticks (OneKernel.values_of streams) (own_place place)
  in_kernel unguarded =
      moved (nodes_at project.kernels place.kernel) nodes (given.ticks place.kernel) streams.ticks
      (values_of words place.kernel) (OneKernel.values_of streams) (own_place place) same
      (sym (have place.kernel streams at)) (same_values words place.kernel streams at)
      (record {
        node = unguarded.node;
        tick = unguarded.tick;
        control = unguarded.control;
        is = unguarded.is;
        undefined = unguarded.undefined;
      })

  pub in_project : place.kernel < length project.kernels
      → One.IsUnguarded nodes streams.ticks (OneKernel.values_of streams) (own_place place)
      → IsUnguarded project given (values_of words) place
  in_project lt unguarded =
      let own = moved nodes (nodes_at project.kernels place.kernel) streams.ticks (given.ticks place.kernel)
      (OneKernel.values_of streams) (values_of words place.kernel) (own_place place) (sym same)
      (have place.kernel streams at) (sym (same_values words place.kernel streams at)) unguarded in
      record {
        kernel = lt;
        node = own.node;
        tick = own.tick;
        control = own.control;
        is = own.is;
        undefined = own.undefined;
      }
