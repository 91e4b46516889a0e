-- The links between the kernels of a project: which joins of its plan they are.
use Rattle.std.specs.Prelude.{Bool, true, false, ◌&&◌, List, filter}
use Rattle.std.specs.List.{AllZip}
use Rattle.kernel_meaning.specs.declared.plan.End.{End}
use Rattle.kernel_meaning.specs.declared.plan.End.TheVariants as E
use Rattle.kernel_meaning.specs.declared.plan.Join.{Join}
use Rattle.stream_graph.specs.declared.kernel.Kernel.{Kernel}
use Rattle.stream_graph.specs.Kinds.{is_input, is_output}
use Rattle.manager_links.specs.declared.links.Link.{Link}
use Rattle.manager_links.specs.declared.links.LinkEnds.{LinkEnds}
use Rattle.manager_links.specs.Ports.{IsPortAt}

abbrev pub is_of_kernel : End → Bool
is_of_kernel (E.Kernel number name) = true
is_of_kernel (E.Cpu name) = false

-- the join is between two kernels
abbrev pub is_link : Join → Bool
is_link join = is_of_kernel join.left && is_of_kernel join.right

-- the link goes from the output at the right end to the input at the left end
pub record IsLinkOf (kernels : List Kernel) (join : Join) (link : LinkEnds) : Type 0 where
  pub from : IsPortAt kernels is_output join.right link.from
  pub to : IsPortAt kernels is_input join.left link.to

-- there is a link for each join of two kernels, in the order of the joins
abbrev pub AreJoined : List Kernel → List Join → List LinkEnds → Type 0
AreJoined kernels joins links = AllZip (IsLinkOf kernels) (filter is_link joins) links

-- where a link goes from and to
abbrev pub ends_of_link : Link → LinkEnds
ends_of_link link = record { from = link.from; to = link.to }
