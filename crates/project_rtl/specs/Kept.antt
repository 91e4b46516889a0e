-- What a design of a project needs of the modules of its kernels.
use Rattle.std.specs.Prelude.{◌≡◌, ℕ, ℤ, List, ◌++◌, Some, length, slice_get, codes}
use Rattle.std.specs.List.{AllZip}
use Rattle.rtl_ir.specs.declared.design.Design.{Design}
use Rattle.rtl_ir.specs.declared.design.Module.{Module}
use Rattle.rtl_ir.specs.Formed.{IsFormedModule}
use Rattle.rtl_ir.specs.Rules.{IsSound}
use Rattle.rtl_ir.specs.Ports.{ports_of}
use Rattle.stream_graph.specs.declared.kernel.Kernel.{Kernel}
use Rattle.kernel_control.specs.Ports.{module_ports}
use Rattle.kernel_control.specs.Refines.{Refines}
use Rattle.manager_links.specs.declared.project.Project.{Project}
use Rattle.manager_links.specs.Starts.{time_of}

-- ---- the rules of designs

-- The module has the kernel's name and ports, and it keeps all rules in every design and after any
-- modules. Nothing is needed of how its outputs hang on its inputs within an edge: no output of a
-- FIFO hangs on an input of it, so no way leads from an output of the module back to an input.
pub record KeepsRules (kernel : Kernel) (m : Module) : Type 0 where
  pub name : m.name ≡ codes "kernel$" ++ kernel.name
  pub ports : ports_of m ≡ module_ports kernel.nodes
  pub sound : (d : Design) → IsSound d m
  pub formed : (earlier : List Module) → IsFormedModule earlier m

-- the module of each kernel does
abbrev pub AllKeepRules : Project → List Module → Type 0
AllKeepRules project inners = AllZip KeepsRules project.kernels inners

-- ---- what the kernels compute

-- the time of each node of a kernel, by the kernel's number
abbrev pub times_of : List (List ℤ) → ℕ → ℕ → ℕ
times_of times k n = time_of times (record { kernel = k; node = n })

-- the module of each kernel refines it at its times
pub record AllRefine (project : Project) (times : List (List ℤ)) (inners : List Module) : Type 0
  where
    pub count : length inners ≡ length project.kernels
    pub each :
        (k : ℕ) (kernel : Kernel) (m : Module)
        → slice_get project.kernels k ≡ Some kernel
        → slice_get inners k ≡ Some m
        → Refines m kernel (times_of times k)
