use Rattle.std.proofs.Common.{◌≡◌, ◌≤◌, length}
use Rattle.project_streams.specs.Streams.{nodes_at}
use Rattle.project_words.specs.Given.{given_of}
use Rattle.project_words.specs.Open.{settled_values}
use Rattle.project_words.specs.Sources.{AreFrom}
use Rattle.project_words.proofs.sources.sources_of.Given as goal

-- by the links from this one on
abbrev pub invariant-loop-number : goal.invariant-loop-number
invariant-loop-number l = record {
  nodes : length l.sources.items ≡ length (nodes_at l.project.kernels l.kernel);
  within : l.number ≤ length l.links;
  from : AreFrom l.project (given_of l.run) (settled_values l.settled) l.kernel l.number l.sources.items;
}

abbrev pub decreases-loop-number : goal.decreases-loop-number
decreases-loop-number l = l.number
