-- The lines that `expect` says.
use Rattle.std.specs.Prelude.{ℕ, List, [], ◌++◌, Option, Some, None, codes, slice_get}
use Rattle.std.specs.Fmt.{decimal}
use Rattle.std.specs.Option.{option_map_or}
use Rattle.project_streams.specs.declared.side.Side.{Side}
use Rattle.project_streams.specs.declared.side.Side.TheVariants.{Dry, Full}
use Rattle.stream_expect.specs.declared.expected.Expected.{Expected}
use Rattle.stream_expect.specs.declared.expected.UnbalancedLink.{UnbalancedLink}
use Rattle.stream_expect.specs.declared.expected.UnguardedPlace.{UnguardedPlace}
use Rattle.stream_graph.specs.declared.kernel.Kernel.{Kernel}

-- the name of the kernel of this number
abbrev pub name_at : List Kernel → ℕ → List ℕ
name_at kernels k = option_map_or (λ (kernel : Kernel). kernel.name) (slice_get kernels k) []

-- `guarded`, or `unguarded kernel NAME node N tick T`
abbrev pub guarded_line : List Kernel → Option UnguardedPlace → List ℕ
guarded_line kernels None = codes "guarded\n"
guarded_line kernels (Some place) =
    codes "unguarded kernel " ++ name_at kernels place.kernel ++ codes " node " ++ decimal place.node
    ++ codes " tick " ++ decimal place.tick ++ codes "\n"

abbrev pub side_word : Side → List ℕ
side_word Dry = codes " dry "
side_word Full = codes " full "

-- `balanced`, `unbalanced link I dry T`, or `unbalanced link I full T`
abbrev pub balanced_line : Option UnbalancedLink → List ℕ
balanced_line None = codes "balanced\n"
balanced_line (Some fault) =
    codes "unbalanced link " ++ decimal fault.link ++ side_word fault.side ++ decimal fault.tick
    ++ codes "\n"

-- both
abbrev pub expected_lines : List Kernel → Expected → List ℕ
expected_lines kernels expected =
    guarded_line kernels expected.unguarded ++ balanced_line expected.unbalanced
