-- The arguments of a kernel that is added, against those of the meaning.
use Rattle.std.specs.Prelude.{◌++◌, List, Option, Some, None}
use Rattle.kernel_meaning.specs.declared.plan.Arg.{Arg}
use Rattle.kernel_meaning.specs.declared.plan.Arg.TheVariants as A

-- these arguments stand before those of the rest
abbrev pub args_before : List Arg → Option (List Arg) → Option (List Arg)
args_before args None = None
args_before args (Some rest) = Some (args ++ rest)
