-- The signs of operators.
use Rattle.std.specs.Prelude.{ℕ, List, Option, Some, None, codes, if◌then◌else◌}
use Rattle.std.specs.Str.{bytes_eq}
use Rattle.kernel_meaning.specs.declared.row.Sign.{Sign}
use Rattle.kernel_meaning.specs.declared.row.Sign.TheVariants as S

abbrev pub sign_of : List ℕ → Option Sign
sign_of word =
    if bytes_eq word (codes "+") then Some S.Add else
    (if bytes_eq word (codes "-") then Some S.Subtract else
    (if bytes_eq word (codes "*") then Some S.Multiply else
    (if bytes_eq word (codes "/") then Some S.Divide else
    (if bytes_eq word (codes "%") then Some S.Remainder else
    (if bytes_eq word (codes "&") then Some S.And else
    (if bytes_eq word (codes "|") then Some S.Or else
    (if bytes_eq word (codes "^") then Some S.Xor else
    (if bytes_eq word (codes "<<") then Some S.ShiftLeft else
    (if bytes_eq word (codes ">>") then Some S.ShiftRight else
    (if bytes_eq word (codes "<") then Some S.Less else
    (if bytes_eq word (codes "<=") then Some S.LessEqual else
    (if bytes_eq word (codes ">") then Some S.Greater else
    (if bytes_eq word (codes ">=") then Some S.GreaterEqual else
    (if bytes_eq word (codes "==") then Some S.Equal else
    (if bytes_eq word (codes "!=") then Some S.NotEqual else
    (if bytes_eq word (codes "===") then Some S.StreamEqual else
    (if bytes_eq word (codes "!==") then Some S.StreamNotEqual else None)))))))))))))))))
