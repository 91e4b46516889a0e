-- Kernels that FIFOs join with each other and with the host. The state of a run is the position of
-- each kernel, and of each FIFO how many words were taken from it and which words are in it.
use Rattle.std.proofs.Common.{◌≡◌, ℕ, suc, ◌+◌, ◌<◌, Bool, cond, List, [], ◌∷◌, Option, Some, length, drop}
use Rattle.std.specs.Prelude.{slice_get}
use Rattle.rtl_ir.specs.declared.design.Module.{Module}
use Rattle.rtl_ir.specs.Value.{Family, Contents}
use Rattle.rtl_ir.specs.Flat.{Families}
use Rattle.rtl_ir.specs.Parts.{own_of, below_all}
use Rattle.rtl_ir.specs.Run.{Channel, Outer, moves, moved}
use Rattle.stream_equations.specs.Equations.{count_before}
use Rattle.kernel_control.specs.Ports.{PortChannel, ModuleNets}
use Rattle.kernel_control.specs.Refines.{TimedRun, advances, IsShown, next_position, KernelRuns}
use Rattle.link_fifo.specs.Queue.{queue_after, IsQueue}
use Rattle.link_fifo.specs.Netlist.{input, output}
use Rattle.project_runs.proofs.Steps.{AgreeFrom, known, word_of}

-- ---- what there is

-- the kernels, by number: of each its instance, its module, its run and the nets of its ports
pub record Kernels : Type 0 where
  pub count : ℕ
  pub number : ℕ → ℕ
  pub body : ℕ → Module
  pub timed : ℕ → TimedRun
  pub nets : ℕ → ModuleNets

-- what gives words to a FIFO: the host, by the number of its stream, its channel and its words; or an output of a kernel
pub data Giver : Type 0 where
  Words : ℕ → Channel → List ℕ → Giver
  Output : ℕ → PortChannel → Giver

-- what takes them: the host, over this channel; or an input of a kernel
pub data Taker : Type 0 where
  Leaves : Channel → Taker
  Input : ℕ → PortChannel → Taker

-- a FIFO: its instance, its depth, its sides, and the words that pass over it, by number
pub record Fifo : Type 0 where
  pub number : ℕ
  pub depth : ℕ
  pub giver : Giver
  pub taker : Taker
  pub word : ℕ → Option (Option ℕ)

-- a port is among these
pub record IsAmong (ys : List PortChannel) (y : PortChannel) : Type 0 where
  pub place : ℕ
  pub at : slice_get ys place ≡ Some y

-- the words of the FIFO are those of its giver
abbrev pub IsGiver : Kernels → Outer → (ℕ → Option (Option ℕ)) → Giver → Type 0
IsGiver ks o word (Words i x ws) = (slice_get o.inputs i ≡ Some x) × ((n : ℕ) → word n ≡ known (slice_get ws n))
IsGiver ks o word (Output k y) =
    (k < ks.count) × IsAmong (ks.nets k).outputs y × ((n : ℕ) → word n ≡ (ks.timed k).out_word y.node n)

abbrev pub IsTaker : Kernels → Taker → Type 0
IsTaker ks (Leaves x) = Unit {0}
IsTaker ks (Input k y) = (k < ks.count) × IsAmong (ks.nets k).inputs y

pub record IsBetween (ks : Kernels) (o : Outer) (f : Fifo) : Type 0 where
  pub giver : IsGiver ks o f.word f.giver
  pub taker : IsTaker ks f.taker

-- ---- an edge

-- the families of the instance of a kernel
abbrev pub family_in : Kernels → ℕ → Families → Family
family_in ks k V = V (ks.number k ∷ [])

abbrev pub goes : Kernels → (ℕ → ℕ) → Families → ℕ → Bool
goes ks at V k = advances (ks.timed k) (ks.nets k) (at k) (family_in ks k V)

-- the positions behind the edge
abbrev pub next_at : Kernels → (ℕ → ℕ) → Families → ℕ → ℕ
next_at ks at V k = next_position (goes ks at V k) (at k)

abbrev pub giver_channel : Giver → Channel
giver_channel (Words i x ws) = x
giver_channel (Output k y) = y.channel

abbrev pub giver_family : Kernels → Giver → Families → Family
giver_family ks (Words i x ws) V = V []
giver_family ks (Output k y) V = family_in ks k V

abbrev pub taker_channel : Taker → Channel
taker_channel (Leaves x) = x
taker_channel (Input k y) = y.channel

abbrev pub taker_family : Kernels → Taker → Families → Family
taker_family ks (Leaves x) V = V []
taker_family ks (Input k y) V = family_in ks k V

-- the nets of one channel are joined to those of another
pub record IsJoined (x y : Channel) (v w : Family) : Type 0 where
  pub word : v x.word ≡ w y.word
  pub valid : v x.valid ≡ w y.valid
  pub ready : v x.ready ≡ w y.ready

-- a FIFO is joined to its sides
pub record IsWired (ks : Kernels) (f : Fifo) (V : Families) : Type 0 where
  pub giver : IsJoined input (giver_channel f.giver) (V (f.number ∷ [])) (giver_family ks f.giver V)
  pub taker : IsJoined output (taker_channel f.taker) (V (f.number ∷ [])) (taker_family ks f.taker V)

-- in each edge
abbrev pub AreWired : Kernels → Fifo → List Families → Type 0
AreWired ks f [] = Unit {0}
AreWired ks f (V ∷ Vs) = IsWired ks f V × AreWired ks f Vs

-- what the kernels show in an edge
abbrev pub AreShown : Kernels → (ℕ → ℕ) → (ℕ → Contents) → Families → Type 0
AreShown ks at c V =
    (k : ℕ) → k < ks.count → IsShown (ks.body k) (ks.timed k) (ks.nets k) (at k) (goes ks at V k) (c k) (family_in ks k V)

-- ---- the state before an edge

-- the giver has given so many words
abbrev pub HasGiven : Kernels → (ℕ → ℕ) → List (List ℕ) → Giver → ℕ → Type 0
HasGiven ks at left (Words i x ws) n = slice_get left i ≡ Some (drop n ws)
HasGiven ks at left (Output k y) n = count_before ((ks.timed k).due y.node) (at k) ≡ n

-- the taker has taken so many words
abbrev pub HasTaken : Kernels → (ℕ → ℕ) → Taker → ℕ → Type 0
HasTaken ks at (Leaves x) n = Unit {0}
HasTaken ks at (Input k y) n = count_before ((ks.timed k).due y.node) (at k) ≡ n

-- a FIFO before these edges, from which so many words were taken and which has these
pub record IsRunning (ks : Kernels) (at : ℕ → ℕ) (left : List (List ℕ)) (f : Fifo) (n : ℕ) (queue : List ℕ) (Vs : List Families) : Type 0 where
  pub wired : AreWired ks f Vs
  pub shows : IsQueue f.depth input output queue (own_of (below_all f.number Vs))
  pub agree : AgreeFrom f.word n queue
  pub given : HasGiven ks at left f.giver (n + length queue)
  pub taken : HasTaken ks at f.taker n

-- how many were taken behind the edge
abbrev pub next_taken : Kernels → Fifo → Families → ℕ → ℕ
next_taken ks f V n = cond (moves (taker_channel f.taker) (taker_family ks f.taker V)) (suc n) n

-- which words are in it then
abbrev pub next_queue : Fifo → Families → List ℕ → List ℕ
next_queue f V queue = queue_after input output (V (f.number ∷ [])) queue

-- all kernels run from these positions and contents
abbrev pub AllRun : Kernels → (ℕ → ℕ) → (ℕ → Contents) → List Families → Type 0
AllRun ks at c Vs =
    (k : ℕ) → k < ks.count
    → KernelRuns (ks.body k) (ks.timed k) (ks.nets k) (at k) (c k) (own_of (below_all (ks.number k) Vs))

-- an input of a kernel has a FIFO, among some, over which its words pass
pub record IsFed {I : Type 0} (ks : Kernels) (fifo : I → Fifo) (k : ℕ) (y : PortChannel) : Type 0 where
  pub from : I
  pub taker : (fifo from).taker ≡ Input k y
  pub words : (n : ℕ) → (ks.timed k).in_word y.node n ≡ word_of ((fifo from).word n)

-- ---- what is shown

-- the words that leave over a FIFO to the host, after so many, are the stream's
abbrev pub HasLeft : (ℕ → Option (Option ℕ)) → ℕ → Taker → List Families → Type 0
HasLeft word n (Leaves x) Vs = AgreeFrom word n (moved x (own_of Vs))
HasLeft word n (Input k y) Vs = Unit {0}
