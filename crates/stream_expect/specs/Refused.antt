-- Which runs are refused, and what is said of them.
use Rattle.std.specs.Prelude.{◌≡◌, ℕ, ◌<◌, ◌≤◌, ◌^◌, List, [], ◌∷◌, Option, Some, None, codes}
use Rattle.std.specs.Fmt.{decimal}
use Rattle.project_words.specs.Given.{word_count}
use Rattle.refusal_line.specs.Lines.{refused}
use Rattle.stream_expect.specs.declared.error.ExpectError.{ExpectError}
use Rattle.stream_expect.specs.declared.error.ExpectError.TheVariants as E
use Rattle.stream_graph.specs.declared.kernel.Kernel.{Kernel}

-- kernels have this number of words in so many ticks each, which is above 2^24
pub record IsTooLarge (kernels : List Kernel) (ticks : List ℕ) (words : ℕ) : Type 0 where
  pub count : words ≡ word_count kernels ticks
  pub many : 2 ^ 24 < words

-- the cause of each error. Where memory is wanting, there are few words
abbrev pub IsRefused : List Kernel → List ℕ → ExpectError → Type 0
IsRefused kernels ticks (E.TooLarge words) = IsTooLarge kernels ticks words
IsRefused kernels ticks E.NoMemory = word_count kernels ticks ≤ 2 ^ 24

-- the line that is said of a refusal. Want of memory says none
abbrev pub said : ExpectError → Option (List ℕ)
said (E.TooLarge words) = Some (refused (codes "X1") (decimal words ∷ []))
said E.NoMemory = None
