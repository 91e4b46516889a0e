-- What a value says of a run of a project.
use Rattle.std.specs.Prelude.{◌≡◌, ℤ, List, map}
use Rattle.std.specs.Option.{option_map}
use Rattle.manager_links.specs.declared.hosts.HostPort.{HostPort}
use Rattle.manager_links.specs.declared.links.Links.{Links}
use Rattle.manager_links.specs.declared.project.Project.{Project}
use Rattle.project_streams.specs.Balanced.{Fault, IsBalancedBut}
use Rattle.project_streams.specs.Guarded.{Place, IsGuardedBut}
use Rattle.project_streams.specs.Streams.{GivenProject, ProjectValues, ProjectEquations, words_of}
use Rattle.stream_expect.specs.declared.expected.Expected.{Expected}
use Rattle.stream_expect.specs.declared.expected.UnbalancedLink.{UnbalancedLink}
use Rattle.stream_expect.specs.declared.expected.UnguardedPlace.{UnguardedPlace}

-- the place that a value of the code stands for
abbrev pub place_of : UnguardedPlace → Place
place_of place = record { kernel = place.kernel; node = place.node; tick = place.tick }

-- the fault that a value of the code stands for
abbrev pub fault_of : UnbalancedLink → Fault
fault_of fault = record { link = fault.link; side = fault.side; tick = fault.tick }

-- There are words that satisfy the equations of the project in this run. Its streams to the CPU
-- have those of their outputs, and by them the run is guarded and, at these times and with these
-- links and starts, balanced, but for the first place and the first fault, where there is one.
pub record IsExpectedOf (project : Project) (times : List (List ℤ)) (made : Links)
    (given : GivenProject) (expected : Expected) : Type 0
  where
    pub values : ProjectValues
    pub equations : ProjectEquations project given values
    pub outputs :
        expected.outputs
        ≡ map (λ (host : HostPort). words_of project.kernels given values host.port)
        project.joints.outputs
    pub guarded : IsGuardedBut project given values (option_map place_of expected.unguarded)
    pub balanced :
        IsBalancedBut project times made given values (option_map fault_of expected.unbalanced)
