-- Edge after edge the words that leave a network are those of its streams.
use Rattle.std.proofs.Common.{◌≡◌, ℕ, ◌<◌, List, [], ◌∷◌, Some}
use Rattle.std.specs.Prelude.{slice_get}
use Rattle.rtl_ir.specs.Value.{Contents}
use Rattle.rtl_ir.specs.Edge.{after_edge}
use Rattle.rtl_ir.specs.Flat.{Families}
use Rattle.rtl_ir.specs.Parts.{own_of}
use Rattle.rtl_ir.specs.Run.{Outer, Event, Driven, left_of}
use Rattle.kernel_control.specs.Ports.{PortChannel}
use Rattle.kernel_control.specs.Refines.{StandsAgree}
use Rattle.project_runs.proofs.Network.{Kernels, Fifo, IsBetween, family_in, next_at, AreShown, IsRunning, next_taken, next_queue, AllRun, IsFed, HasLeft}
use Rattle.project_runs.proofs.Edges.{next_running, none_yet, left_next, stands}

-- all inputs of the kernels are fed by FIFOs, each of which is between its giver and its taker
pub record IsNetwork {I : Type 0} (ks : Kernels) (o : Outer) (fifo : I → Fifo) : Type 0 where
  pub between : (x : I) → IsBetween ks o (fifo x)
  pub fed : (k i : ℕ) (y : PortChannel) → k < ks.count → slice_get (ks.nets k).inputs i ≡ Some y → IsFed ks fifo k y

pub words_leave : {I : Type 0} (ks : Kernels) (o : Outer) (fifo : I → Fifo) (steady : List ℕ) (es : List Event) (Vs : List Families)
    (at : ℕ → ℕ) (c : ℕ → Contents) (left : List (List ℕ)) (n : I → ℕ) (q : I → List ℕ)
    → IsNetwork ks o fifo
    → Driven o steady left es (own_of Vs)
    → ((x : I) → IsRunning ks at left (fifo x) (n x) (q x) Vs)
    → AllRun ks at c Vs
    → (x : I) → HasLeft (fifo x).word (n x) (fifo x).taker Vs
words_leave ks o fifo steady es [] at c left n q net driven running runs x = none_yet (fifo x).word (n x) (fifo x).taker
words_leave ks o fifo steady [] (V ∷ Vs) at c left n q net driven running runs x = absurd driven
words_leave ks o fifo steady (e ∷ es) (V ∷ Vs) at c left n q net driven running runs x =
    let agree : (k : ℕ) → k < ks.count → StandsAgree (ks.timed k) (at k) (ks.nets k).inputs (family_in ks k V) = λ k lt.
    stands ks fifo at left n q k (ks.nets k).inputs V Vs (λ i y e. net.fed k i y lt e) running in
    let shown : AreShown ks at c V = λ k lt. (runs k lt (agree k lt)).0 in
    let later : AllRun ks (next_at ks at V) (λ k. after_edge (ks.body k) (c k) (family_in ks k V)) Vs = λ k lt. (runs k lt (agree k lt)).1 in
    left_next ks at left (fifo x) (n x) (q x) V Vs (running x)
    (words_leave ks o fifo steady es Vs (next_at ks at V) (λ k. after_edge (ks.body k) (c k) (family_in ks k V)) (left_of o.inputs left (V []))
    (λ y. next_taken ks (fifo y) V (n y)) (λ y. next_queue (fifo y) V (q y))
    net driven.1 (λ y. next_running ks o at c left e V Vs (fifo y) (n y) (q y) shown driven.0.offered (net.between y) (running y)) later x)
