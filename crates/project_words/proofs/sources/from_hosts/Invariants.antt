use Rattle.std.proofs.Common.{◌≡◌, ◌≤◌, [], length, replicate}
use Rattle.project_words.specs.Sources.{AreFromHosts}
use Rattle.project_words.proofs.sources.from_hosts.Given as goal

abbrev pub invariant-loop : goal.invariant-loop
invariant-loop l = l.sources.items ≡ replicate l.counter []

-- by the streams from this one on
abbrev pub invariant-loop-number : goal.invariant-loop-number
invariant-loop-number l = record {
  nodes : length l.sources.items ≡ l.nodes;
  within : l.number ≤ length l.hosts;
  from : AreFromHosts l.hosts l.words l.kernel l.number l.sources.items;
}

abbrev pub decreases-loop-number : goal.decreases-loop-number
decreases-loop-number l = l.number
