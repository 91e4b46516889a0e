-- Loops of kernels, and orders of kernels that show that there is none.
use Rattle.std.specs.Prelude.{
  ◌≡◌,
  ℕ,
  ◌+◌,
  ◌-◌,
  ◌<◌,
  List,
  length,
  All,
  slice_index,
}
use Rattle.std.specs.List.{Any}
use Rattle.digraph.specs.Graph.{IsLeastFirst, IsSimple}
use Rattle.kernel_meaning.specs.declared.plan.End.TheVariants as E
use Rattle.kernel_meaning.specs.declared.plan.Join.{Join}
use Rattle.manager_links.specs.declared.links.LinkEnds.{LinkEnds}

-- the join is a link from one kernel to another
pub record GoesBetween (from to : ℕ) (join : Join) : Type 0 where
  pub output : List ℕ
  pub input : List ℕ
  pub right : join.right ≡ E.Kernel from output
  pub left : join.left ≡ E.Kernel to input

abbrev pub IsLinked : List Join → ℕ → ℕ → Type 0
IsLinked joins from to = Any (GoesBetween from to) joins

-- a closed walk of kernels, from each of which one goes to the next one, and from the last one to
-- the first, which is the one of the least number; none stands twice in it
pub record IsLoopBy (Goes : ℕ → ℕ → Type 0) (walk : List ℕ) : Type 0 where
  pub some : 0 < length walk
  pub each :
      (i : ℕ) → i + 1 < length walk → Goes (slice_index walk i) (slice_index walk (i + 1))
  pub last : Goes (slice_index walk (length walk - 1)) (slice_index walk 0)
  pub least : IsLeastFirst walk
  pub simple : IsSimple walk

abbrev pub IsKernelLoop : List Join → List ℕ → Type 0
IsKernelLoop joins walk = IsLoopBy (IsLinked joins) walk

-- so many kernels in an order in which each stands behind those that it is linked from, and the
-- place of each in it, from 1
pub record AreOrdered (kernels : ℕ) (links : List LinkEnds) (order ranks : List ℕ) : Type 0 where
  pub size : length ranks ≡ kernels
  pub rising :
      All (λ link. slice_index ranks link.from.kernel < slice_index ranks link.to.kernel) links
  pub placed : (k : ℕ) → k < kernels → 0 < slice_index ranks k
  pub back : (k : ℕ) → k < kernels → slice_index order (slice_index ranks k - 1) ≡ k
  pub each : (i : ℕ) → i < length order → slice_index order i < kernels
  pub ranked : (i : ℕ) → i < length order → slice_index ranks (slice_index order i) ≡ i + 1
