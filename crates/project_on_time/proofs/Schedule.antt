-- How a network keeps up with the edges in which nothing waits. Before an edge `N` counts those before it. Each kernel has
-- a start, and the position at which it has ended; each FIFO has so many words at least that were given to it by then, and
-- so many that were taken from it.
use Rattle.std.proofs.Common.{◌≡◌, ℕ, ◌+◌, ◌-◌, ◌<◌, ◌≤◌, true, false}
use Rattle.std.proofs.Common.{List, [], ◌∷◌, Some, length}
use Rattle.std.specs.Prelude.{slice_get, min}
use Rattle.rtl_ir.specs.Value.{Family}
use Rattle.rtl_ir.specs.Flat.{Families}
use Rattle.rtl_ir.specs.Parts.{own_of}
use Rattle.rtl_ir.specs.Run.{Channel, Outer, moved}
use Rattle.stream_equations.specs.Equations.{count_before}
use Rattle.kernel_control.specs.Ports.{PortChannel}
use Rattle.project_runs.proofs.Network.{Kernels, Giver, Words, Output, Taker, Leaves, Input, Fifo, family_in, HasGiven}

-- The starts and ends of the kernels, the nets by which they are held, how many words at least were given to each FIFO and
-- taken from it, how many the run reads of a stream from the host, and after how many edges all is done.
pub record Timing (I : Type 0) : Type 0 where
  pub start : ℕ → ℕ
  pub last : ℕ → ℕ
  pub hold : ℕ → ℕ
  pub given : I → ℕ → ℕ
  pub taken : I → ℕ → ℕ
  pub total : I → ℕ
  pub most : ℕ

-- the counts of a port of a kernel
pub record IsPortTime (ks : Kernels) (start last : ℕ → ℕ) (k : ℕ) (y : PortChannel) (count : ℕ → ℕ) : Type 0 where
  pub is : (N : ℕ) → count N ≡ count_before ((ks.timed k).due y.node) (N - start k)
  pub most : (i : ℕ) → count_before ((ks.timed k).due y.node) i ≤ count_before ((ks.timed k).due y.node) (last k)

-- the host gives one word an edge, one edge before it is read, up to the last one that the run reads
pub record HostGives (total : ℕ) (G T : ℕ → ℕ) (depth : ℕ) : Type 0 where
  pub depth_is : depth ≡ 2
  pub most : (N : ℕ) → G N ≤ total
  pub near : (N : ℕ) → G N ≤ T N + 1
  pub slow : (N : ℕ) → G (N + 1) ≤ G N + 1

-- it takes one word an edge, one edge after it was given
pub record HostTakes (ks : Kernels) (o : Outer) (f : Fifo) (most : ℕ) (G T : ℕ → ℕ) (x : Channel) : Type 0 where
  pub place : ℕ
  pub at : slice_get o.outputs place ≡ Some x
  pub behind : (N : ℕ) → T (N + 1) ≤ G N
  pub slow : (N : ℕ) → T (N + 1) ≤ T N + 1
  pub spent : (N w : ℕ) (at : ℕ → ℕ) (left : List (List ℕ)) → most ≤ N → HasGiven ks at left f.giver w → w ≤ T N

-- a kernel has room where it gives a word in time
abbrev pub GivesInTime : Kernels → (ℕ → ℕ) → (ℕ → ℕ) → ℕ → (ℕ → ℕ) → (ℕ → ℕ) → ℕ → Giver → Type 0
GivesInTime ks start last total G T depth (Words i x ws) = HostGives total G T depth
GivesInTime ks start last total G T depth (Output k y) =
    IsPortTime ks start last k y G
    × ((N : ℕ) → start k ≤ N → (ks.timed k).due y.node (N - start k) ≡ true → G N < depth + T N)

-- and a word where it takes one in time
abbrev pub TakesInTime : Kernels → Outer → (ℕ → ℕ) → (ℕ → ℕ) → Fifo → ℕ → (ℕ → ℕ) → (ℕ → ℕ) → Taker → Type 0
TakesInTime ks o start last f most G T (Leaves x) = HostTakes ks o f most G T x
TakesInTime ks o start last f most G T (Input k y) =
    IsPortTime ks start last k y T
    × ((N : ℕ) → start k ≤ N → (ks.timed k).due y.node (N - start k) ≡ true → T N < G N)

-- an output of a kernel has a FIFO, among some, that takes its words
pub record IsDrained {I : Type 0} (ks : Kernels) (fifo : I → Fifo) (k : ℕ) (y : PortChannel) : Type 0 where
  pub to : I
  pub giver : (fifo to).giver ≡ Output k y

-- all of them keep these times
pub record IsScheduled {I : Type 0} (ks : Kernels) (o : Outer) (fifo : I → Fifo) (b : Timing I) : Type 0 where
  pub running : (k p : ℕ) → p < b.last k → (ks.timed k).ends p ≡ false
  pub ended : (k p : ℕ) → b.last k ≤ p → (ks.timed k).ends p ≡ true
  pub gives : (x : I) → GivesInTime ks b.start b.last (b.total x) (b.given x) (b.taken x) (fifo x).depth (fifo x).giver
  pub takes : (x : I) → TakesInTime ks o b.start b.last (fifo x) b.most (b.given x) (b.taken x) (fifo x).taker
  pub drained : (k i : ℕ) (y : PortChannel) → k < ks.count → slice_get (ks.nets k).outputs i ≡ Some y → IsDrained ks fifo k y
  pub holds : (k : ℕ) → k < ks.count → slice_get o.holds k ≡ Some (b.hold k)
  pub after : (N k : ℕ) → b.most ≤ N → k < ks.count → b.start k + b.last k ≤ N

-- ---- an edge

-- no word is at the host's side
abbrev pub NotValid : Taker → Family → Type 0
NotValid (Leaves x) v = v x.valid ≡ 0
NotValid (Input k y) v = Unit {0}

-- kernels are held over their nets, and the design is done where all have ended and no word is at the host's side
pub record IsAround {I : Type 0} (ks : Kernels) (o : Outer) (fifo : I → Fifo) (hold : ℕ → ℕ) (V : Families) : Type 0 where
  pub held : (k : ℕ) → k < ks.count → family_in ks k V (ks.nets k).hold ≡ V [] (hold k)
  pub done :
      ((k : ℕ) → k < ks.count → family_in ks k V (ks.nets k).ended ≡ 1)
      → ((x : I) → NotValid (fifo x).taker (V []))
      → V [] o.done ≡ 1

abbrev pub AreAround : {I : Type 0} → Kernels → Outer → (I → Fifo) → (ℕ → ℕ) → List Families → Type 0
AreAround ks o fifo hold [] = Unit {0}
AreAround ks o fifo hold (V ∷ Vs) = IsAround ks o fifo hold V × AreAround ks o fifo hold Vs

-- ---- the state before an edge

-- how many words of a stream from the host are to be given yet
abbrev pub IsStill : List ℕ → ℕ → ℕ → Giver → Type 0
IsStill still total w (Words i x ws) = slice_get still i ≡ Some (total - w)
IsStill still total w (Output k y) = Unit {0}

-- a FIFO to which so many words were given and from which so many were taken is in time
pub record IsInTime (total : ℕ) (G T : ℕ → ℕ) (still : List ℕ) (g : Giver) (N n w : ℕ) : Type 0 where
  pub given : G N ≤ w
  pub taken : T N ≤ n
  pub still_is : IsStill still total w g

-- each kernel is as far as it has to be
abbrev pub AreReached : Kernels → (ℕ → ℕ) → (ℕ → ℕ) → (ℕ → ℕ) → ℕ → Type 0
AreReached ks start last at N = (k : ℕ) → k < ks.count → min (N - start k) (last k) ≤ at k

-- so many words at least have left by then, beside so many before
abbrev pub LeftInTime : (ℕ → ℕ) → ℕ → ℕ → Taker → List Families → Type 0
LeftInTime T N n (Leaves x) Vs = T N ≤ n + length (moved x (own_of Vs))
LeftInTime T N n (Input k y) Vs = Unit {0}
