-- What the steps of joining say, as refusals of a manager's plan.
use Rattle.std.proofs.Common.{◌≡◌, true, List, length, sym, ap, subst, inl, inr}
use Rattle.std.specs.Prelude.{All}
use Rattle.std.specs.List.{Contains}
use Rattle.kernel_meaning.specs.declared.plan.Plan.{Plan}
use Rattle.stream_graph.specs.declared.kernel.Kernel.{Kernel}
use Rattle.manager_links.specs.declared.error.LinkError.{LinkError}
use Rattle.manager_links.specs.declared.error.LinkError.TheVariants as L
use Rattle.manager_links.specs.declared.links.LinkEnds.{LinkEnds}
use Rattle.manager_links.specs.Joined.{AreJoined}
use Rattle.manager_links.specs.Lists.{AllDiffer}
use Rattle.manager_links.specs.Loops.{IsLinked}
use Rattle.manager_links.specs.Naming.{SaysNameAgain}
use Rattle.manager_links.specs.Ordering.{GoesFrom, SaysLoop}
use Rattle.manager_links.specs.Placed.{SaysTwice, SaysUnlinked}
use Rattle.manager_links.specs.Rules.{AreFew, HasTwoTypes, IsHostToHost, MayRefuse, NamesDiffer, Refuses}
use Rattle.manager_links.specs.Rules as R
use Rattle.manager_links.specs.Steps.{SaysUnknown, SaysHostToHost, SaysTypeDiffers}
use Rattle.manager_links.specs.Terminals.{left_terminal, ends_of, said_as, terminals}
use Rattle.manager_links.proofs.Managing.{goes_link, loop_along}

-- what is known before each step: names differ and kernels are few, then all ends are known, then
-- none stands twice, then no join is between streams, then the types of links agree
pub record HasNames (plan : Plan) (kernels : List Kernel) : Type 0 where
  pub manager : plan.manager ≡ true
  pub names : NamesDiffer plan kernels
  pub few : AreFew kernels

pub record HasEnds (plan : Plan) (kernels : List Kernel) : Type 0 where
  pub base : HasNames plan kernels
  pub known : All (Contains (terminals plan kernels)) (ends_of plan.joins)
  pub once : AllDiffer (ends_of plan.joins)

pub record HasTypes (plan : Plan) (kernels : List Kernel) : Type 0 where
  pub ends : HasEnds plan kernels
  pub hosts : All (λ join. IsHostToHost join → ⊥) plan.joins
  pub types : All (λ join. HasTwoTypes kernels join → ⊥) plan.joins

pub by_name : (plan : Plan) (kernels : List Kernel) (error : LinkError) → plan.manager ≡ true
    → SaysNameAgain plan kernels error → MayRefuse plan kernels error
by_name plan kernels (L.SameName name) manager is = inr (manager, R.same_name is)
by_name plan kernels _ manager is = inl is

pub by_count : (plan : Plan) (kernels : List Kernel) → plan.manager ≡ true → NamesDiffer plan kernels
    → (AreFew kernels → ⊥) → MayRefuse plan kernels (L.KernelCount (length kernels))
by_count plan kernels manager names many = inr (manager, R.kernel_count names many)

pub by_unknown : (plan : Plan) (kernels : List Kernel) (error : LinkError) → HasNames plan kernels
    → SaysUnknown plan kernels error → MayRefuse plan kernels error
by_unknown plan kernels (L.UnknownPort kernel name) so_far is =
    inr (so_far.manager, R.unknown_port so_far.names so_far.few is.first is.said)
by_unknown plan kernels _ so_far is = inl is

pub by_twice : (plan : Plan) (kernels : List Kernel) (error : LinkError) → HasNames plan kernels
    → All (Contains (terminals plan kernels)) (ends_of plan.joins) → SaysTwice plan kernels error
    → MayRefuse plan kernels error
by_twice plan kernels (L.LinkedTwice said) so_far known is =
    inr (
      so_far.manager,
      subst (λ end. Refuses plan kernels (L.LinkedTwice end)) (sym is.is)
          (R.linked_twice so_far.names so_far.few known is.first),
    )
by_twice plan kernels _ so_far known is = inl is

pub by_hosts : (plan : Plan) (kernels : List Kernel) (error : LinkError) → HasEnds plan kernels
    → SaysHostToHost plan.joins error → MayRefuse plan kernels error
by_hosts plan kernels (L.HostToHost name) so_far is =
    inr (
      so_far.base.manager,
      R.host_to_host so_far.base.names so_far.base.few so_far.known so_far.once is.first
          (ap (λ end. said_as kernels (left_terminal end)) is.said),
    )
by_hosts plan kernels _ so_far is = inl is

pub by_types : (plan : Plan) (kernels : List Kernel) (error : LinkError) → HasEnds plan kernels
    → All (λ join. IsHostToHost join → ⊥) plan.joins → SaysTypeDiffers plan kernels error
    → MayRefuse plan kernels error
by_types plan kernels (L.TypeDiffers said) so_far hosts is =
    inr (
      so_far.base.manager,
      subst (λ end. Refuses plan kernels (L.TypeDiffers end)) (sym is.is)
          (R.type_differs so_far.base.names so_far.base.few so_far.known so_far.once hosts is.first),
    )
by_types plan kernels _ so_far hosts is = inl is

pub by_unlinked : (plan : Plan) (kernels : List Kernel) (error : LinkError) → HasTypes plan kernels
    → SaysUnlinked plan kernels error → MayRefuse plan kernels error
by_unlinked plan kernels (L.Unlinked said) so_far is =
    let ends = so_far.ends in
    inr (
      ends.base.manager,
      subst (λ end. Refuses plan kernels (L.Unlinked end)) (sym is.is)
          (R.unlinked ends.base.names ends.base.few ends.known ends.once so_far.hosts so_far.types is.first),
    )
by_unlinked plan kernels _ so_far is = inl is

pub by_loop : (plan : Plan) (kernels : List Kernel) (links : List LinkEnds) (error : LinkError)
    → HasTypes plan kernels → All (Contains (ends_of plan.joins)) (terminals plan kernels)
    → AreJoined kernels plan.joins links → SaysLoop kernels links error → MayRefuse plan kernels error
by_loop plan kernels links (L.KernelLoop said) so_far linked joined is =
    let ends = so_far.ends in
    inr (
      ends.base.manager,
      subst (λ names. Refuses plan kernels (L.KernelLoop names)) (sym is.said)
          (R.kernel_loop ends.base.names ends.base.few ends.known ends.once so_far.hosts so_far.types linked
          (loop_along (GoesFrom links) (IsLinked plan.joins) is.walk
          (λ from to goes. goes_link kernels plan.joins links from to joined goes) is.loop)),
    )
by_loop plan kernels links _ so_far linked joined is = inl is
