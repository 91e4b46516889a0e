-- How the netlist of the sum of all words so far stands to its kernel.
use Rattle.std.specs.Prelude.{ℕ, if◌then◌else◌, nat_eq, List, [], ◌∷◌}
use Rattle.rtl_delays.specs.Delays.{of_net}
use Rattle.kernel_refinement.specs.Built.{Layout}
use Rattle.kernel_refinement.specs.Sum.{net}

-- the latency of the sum is 1
abbrev pub sum_ticks : ℕ → ℕ
sum_ticks n = if nat_eq n 3 then 1 else 0

-- the sum reads the input and the sum one advance ago; the feed and the output read the latter
abbrev pub sum_taps : ℕ → List ℕ
sum_taps n =
    if nat_eq n 3 then 4 ∷ 12 ∷ []
    else if nat_eq n 1 then 12 ∷ []
    else if nat_eq n 4 then 12 ∷ []
    else []

-- the sum comes after the input and the feed
abbrev pub sum_layout : Layout
sum_layout = record {
  word = λ n. of_net (if nat_eq n 0 then 4 else if nat_eq n 3 then 13 else 12);
  taps = sum_taps;
  rank = λ n. if nat_eq n 3 then 1 else 0;
}
