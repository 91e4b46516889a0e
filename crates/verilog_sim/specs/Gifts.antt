-- What is given to the outer inputs in an edge, net by net, in the order of the ports.
use Rattle.std.specs.Prelude.{◌≡◌, ℕ, ◌+◌, ◌<◌, List, [], ◌∷◌, ◌++◌, length, slice_index, slice_index_or, slice_set, slice_get, Some, Bool, false}
use Rattle.rtl_ir.specs.declared.interface.Interface.{Interface}
use Rattle.rtl_ir.specs.declared.interface.KernelPorts.{KernelPorts}
use Rattle.rtl_ir.specs.declared.interface.ScalarPort.{ScalarPort}
use Rattle.rtl_ir.specs.declared.interface.StreamPorts.{StreamPorts}
use Rattle.rtl_ir.specs.declared.design.Port.{Port}
use Rattle.rtl_ir.specs.Value.{bit}
use Rattle.verilog_sim.specs.declared.offer.Offer.{Offer}
use Rattle.verilog_sim.specs.Calls.{nothing}

-- of the kernels from number k on: whether each is held, and its ticks
abbrev pub kernel_gifts : List ℕ → List Bool → ℕ → List KernelPorts → List (ℕ × ℕ)
kernel_gifts steady holds k [] = []
kernel_gifts steady holds k (x ∷ xs) =
    (x.hold, bit (slice_index_or holds k false))
    ∷ (x.ticks, slice_index steady k)
    ∷ kernel_gifts steady holds (k + 1) xs

-- of the scalars, whose first one is the steady port number k
abbrev pub scalar_gifts : List ℕ → ℕ → List ScalarPort → List (ℕ × ℕ)
scalar_gifts steady k [] = []
scalar_gifts steady k (x ∷ xs) = (x.net, slice_index steady k) ∷ scalar_gifts steady (k + 1) xs

-- of the host inputs from number k on
abbrev pub input_gifts : List Offer → ℕ → List StreamPorts → List (ℕ × ℕ)
input_gifts offers k [] = []
input_gifts offers k (x ∷ xs) =
    (x.word, (slice_index_or offers k nothing).word)
    ∷ (x.valid, bit (slice_index_or offers k nothing).valid)
    ∷ input_gifts offers (k + 1) xs

-- of the host outputs from number k on
abbrev pub output_gifts : List Bool → ℕ → List StreamPorts → List (ℕ × ℕ)
output_gifts accepts k [] = []
output_gifts accepts k (y ∷ ys) =
    (y.ready, bit (slice_index_or accepts k false))
    ∷ output_gifts accepts (k + 1) ys

-- of all ports: the clock reads as 0
abbrev pub gifts : Interface → Bool → List ℕ → List Offer → List Bool → List Bool → List (ℕ × ℕ)
gifts i reset steady offers accepts holds =
    (i.clock, 0)
    ∷ (i.reset, bit reset)
    ∷ (kernel_gifts steady holds 0 i.kernels
    ++ scalar_gifts steady (length i.kernels) i.scalars
    ++ input_gifts offers 0 i.inputs
    ++ output_gifts accepts 0 i.outputs)

-- the values after these were written one after another
abbrev pub written : List ℕ → List (ℕ × ℕ) → List ℕ
written values [] = values
written values (g ∷ gs) = written (slice_set values g.0 g.1) gs

-- of each of a list
abbrev pub Every : {A : Type 0} → (A → Type 0) → List A → Type 0
Every P [] = Unit {0}
Every P (x ∷ xs) = P x × Every P xs

-- what is given to the outer inputs stands at their nets
abbrev pub AreGiven :
    Interface → Bool → List ℕ → List Offer → List Bool → List Bool → List ℕ → Type 0
AreGiven i reset steady offers accepts holds values =
    Every (λ (g : ℕ × ℕ). slice_index values g.0 ≡ g.1) (gifts i reset steady offers accepts holds)

-- the nets of a stream are among so many
abbrev pub AreNetsOf : ℕ → StreamPorts → Type 0
AreNetsOf nets x = (x.word < nets) × (x.valid < nets) × (x.ready < nets)

-- no two ports are the same net
abbrev pub AreApart : List Port → Type 0
AreApart ports =
    (i j : ℕ) (p q : Port)
    → slice_get ports i ≡ Some p
    → slice_get ports j ≡ Some q
    → p.net ≡ q.net
    → i ≡ j
