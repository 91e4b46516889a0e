-- The line that a refusal of a project's modules or links says.
use Rattle.std.specs.Prelude.{ℕ, ◌<◌, List, length, Option, None, slice_get}
use Rattle.std.specs.Option.{option_and_then}
use Rattle.stream_graph.specs.declared.kernel.Kernel.{Kernel}
use Rattle.kernel_schedule.specs.Refused as Schedules
use Rattle.kernel_netlist.specs.declared.error.NetlistError.TheVariants as one_kernel
use Rattle.kernel_netlist.specs.Refused as Netlists
use Rattle.manager_links.specs.declared.error.LinkError.TheVariants as links
use Rattle.manager_links.specs.Refused as Links
use Rattle.project_netlists.specs.declared.error.NetlistsError.{NetlistsError}
use Rattle.project_netlists.specs.declared.error.NetlistsError.TheVariants as E

-- the kernel that is told of is one of these
abbrev pub IsOfThese : List Kernel → NetlistsError → Type 0
IsOfThese kernels (E.Schedule number error) = number < length kernels
IsOfThese kernels (E.TooManyBits number bits) = number < length kernels
IsOfThese kernels error = Unit {0}

-- The line of the refusal of these kernels: the kernel by its name, with why it has no schedule or
-- how many bits its FIFOs need; or the link by its number. Want of memory says none.
abbrev pub said : List Kernel → NetlistsError → Option (List ℕ)
said kernels (E.Schedule number error) =
    option_and_then (λ (kernel : Kernel). Schedules.said kernel.name error)
    (slice_get kernels number)
said kernels (E.TooManyBits number bits) =
    option_and_then (λ (kernel : Kernel). Netlists.said kernel.name (one_kernel.TooManyBits bits))
    (slice_get kernels number)
said kernels (E.LinkTooDeep number words) = Links.said (links.LinkTooDeep number words)
said kernels E.NoMemory = None
