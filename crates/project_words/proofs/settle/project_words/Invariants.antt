use Rattle.std.proofs.Common.{◌≡◌, length}
use Rattle.project_words.specs.Given.{given_of}
use Rattle.project_words.specs.Open.{AreKnown}
use Rattle.project_words.proofs.Knowing.{open_count}
use Rattle.project_words.proofs.settle.project_words.Given as goal

abbrev pub invariant-loop-next : goal.invariant-loop-next
invariant-loop-next l = record {
  size : length l.settled.items ≡ length l.project.kernels;
  known : AreKnown l.project (given_of l.run) l.settled.items;
}

-- how many kernels' words aren't known
abbrev pub decreases-loop-next : goal.decreases-loop-next
decreases-loop-next l = open_count l.settled.items
