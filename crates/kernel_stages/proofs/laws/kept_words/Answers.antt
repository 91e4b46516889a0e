use Rattle.rtl_delays.specs.Elements.{shown}
use Rattle.rtl_delays.proofs.Chain.{tap_on}
use Rattle.kernel_stages.specs.Numbers.{waits_at}
use Rattle.kernel_stages.specs.Chains.{delays_at, element_at, end_at}
use Rattle.std.proofs.Common.{get_or}
use Rattle.kernel_stages.proofs.laws.kept_words.Goals as goal

pub returns : goal.returns
returns c = record {
  word = λ m run reset words delays h latencies waits are u lu. (h latencies waits are u lu).pipeline;
  waits = λ m run reset words delays h latencies waits are u i lu li from behind tap.
      tap_on m run reset from (end_at words delays u).net (shown (element_at (delays_at delays u).waits i)).net behind
      (get_or (waits_at waits u) i 0) tap ((h latencies waits are u lu).behind i li);
}
