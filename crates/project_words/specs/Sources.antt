-- The lists of words that come to the nodes of a kernel.
use Rattle.std.specs.Prelude.{ℕ, ◌≡◌, ◌<◌, ◌^◌, List, [], map, drop, length, Option, Some, None, slice_index_or}
use Rattle.manager_links.specs.declared.hosts.HostPort.{HostPort}
use Rattle.manager_links.specs.declared.links.PortAt.{PortAt}
use Rattle.manager_links.specs.declared.project.Project.{Project}
use Rattle.stream_graph.specs.LookUps.{width_at}
use Rattle.project_streams.specs.Streams.{GivenProject, ProjectValues, link_to, host_to, words_of}
use Rattle.stream_equations.specs.Equations.{chosen}
use Rattle.stream_graph.specs.declared.kernel.Kernel.{Kernel}
use Rattle.stream_graph.specs.declared.node.Node.{Node}

-- the port of a node
abbrev pub port_at : ℕ → ℕ → PortAt
port_at k n = record { kernel = k; node = n }

-- the words of a stream from the CPU by its number, each of them defined
abbrev pub host_list : List (List ℕ) → Option ℕ → List (Option ℕ)
host_list words None = []
host_list words (Some number) = map Some (slice_index_or words number [])

-- the list of a node by the streams from the CPU from this number on
abbrev pub AreFromHosts : List HostPort → List (List ℕ) → ℕ → ℕ → List (List (Option ℕ)) → Type 0
AreFromHosts hosts words k number sources =
    (n : ℕ)
    → n < length sources
    → slice_index_or sources n []
    ≡ host_list words (host_to number (drop number hosts) (port_at k n))

-- the words of the output that a node is linked from, else of the stream from the CPU
abbrev pub fed_list :
    List Kernel → GivenProject → ProjectValues → Option PortAt → Option ℕ → List (Option ℕ)
fed_list kernels given values (Some output) host = words_of kernels given values output
fed_list kernels given values None host = host_list given.words host

-- the list of a node by the links from this number on, and the streams from the CPU
abbrev pub AreFrom :
    Project → GivenProject → ProjectValues → ℕ → ℕ → List (List (Option ℕ)) → Type 0
AreFrom project given values k number sources =
    (n : ℕ)
    → n < length sources
    → slice_index_or sources n []
    ≡ fed_list project.kernels given values
    (link_to (drop number project.joints.links) (port_at k n))
    (host_to 0 project.joints.inputs (port_at k n))

-- each word has the width of its node
abbrev pub FitNodes : List Node → List (List (Option ℕ)) → Type 0
FitNodes nodes sources =
    (n j x : ℕ)
    → n < length nodes
    → chosen (slice_index_or sources n []) j ≡ Some x
    → x < 2 ^ width_at nodes n
