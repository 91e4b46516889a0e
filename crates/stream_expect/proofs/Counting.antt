-- How many words kernels have.
use Rattle.std.proofs.Common.{◌≡◌, ℕ, zero, suc, ◌*◌, ◌≤◌, ◌^◌, List, [], ◌∷◌, length, sym, ◌∙◌, subst, arith}
use Rattle.std.specs.Prelude.{slice_index}
use Rattle.project_streams.specs.Streams.{GivenProject, nodes_at}
use Rattle.project_words.specs.declared.words.ProjectWords.{ProjectWords}
use Rattle.project_words.specs.Given.{word_count}
use Rattle.project_words.specs.Words.{HaveTicks}
use Rattle.stream_expect.specs.Ports.{AreFew}
use Rattle.stream_graph.specs.declared.kernel.Kernel.{Kernel}

-- the words of one kernel
count_one : (kernels : List Kernel) (ticks : List ℕ) (k : ℕ)
    → length (nodes_at kernels k) * slice_index ticks k ≤ word_count kernels ticks
count_one [] ticks k = omega arith
count_one (kernel ∷ kernels) [] k = omega arith
count_one (kernel ∷ kernels) (t ∷ ticks) zero = omega arith
count_one (kernel ∷ kernels) (t ∷ ticks) (suc k) = let rest = count_one kernels ticks k in omega (arith, rest)

-- where all kernels together have few words, each of them has
pub are_few : (kernels : List Kernel) (given : GivenProject) (words : ProjectWords) (ticks : List ℕ)
    → ((k : ℕ) → given.ticks k ≡ slice_index ticks k) → HaveTicks given words
    → word_count kernels ticks ≤ 2 ^ 24 → AreFew kernels words
are_few kernels given words ticks same have few k streams at =
    let one = count_one kernels ticks k in
    subst (λ t. length (nodes_at kernels k) * t ≤ 2 ^ 24) (sym (have k streams at ∙ same k)) (omega (arith, one, few))
