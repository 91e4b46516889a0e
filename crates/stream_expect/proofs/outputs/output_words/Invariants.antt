use Rattle.std.proofs.Common.{◌≡◌, map, take}
use Rattle.manager_links.specs.declared.hosts.HostPort.{HostPort}
use Rattle.project_streams.specs.Streams.{GivenProject, words_of}
use Rattle.project_words.specs.Words.{values_of, HaveTicks}
use Rattle.stream_expect.proofs.outputs.output_words.Given as goal

-- the words of the streams so far
abbrev pub invariant-loop-host : goal.invariant-loop-host
invariant-loop-host l =
    (given : GivenProject)
    → HaveTicks given l.words
    → l.outputs
    ≡ map (λ (host : HostPort). words_of l.fn.project.kernels given (values_of l.words) host.port)
    (take l.host-index l.fn.project.joints.outputs)
