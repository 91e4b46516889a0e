-- Names and the numbers of what they are first declared as.
use Rattle.std.specs.Prelude.{◌≡◌, ℕ, ◌+◌, Bool, false, List, [], ◌∷◌, Option, Some, None, nat_eq, bytes_eq, if◌then◌else◌}
use Rattle.std.specs.Borrow.{Bor}
use Rattle.std.specs.Cmp.Lexicographic.{pointwise}
use Rattle.std.specs.HashMap.{get}
use Rattle.rtl_text.specs.Tree.{Name}
use Rattle.verilog_read.specs.declared.table.Table.{Table}

-- whether a thing has this name, if it has one
abbrev pub stands : Option Name → Name → Bool
stands None name = false
stands (Some other) name = bytes_eq name other

-- the number of the first thing of this name, where they are numbered from this number on
abbrev pub number_from : ℕ → List (Option Name) → Name → Option ℕ
number_from k [] name = None
number_from k (n ∷ ns) name = if stands n name then Some k else number_from (k + 1) ns name

abbrev pub number_of : List (Option Name) → Name → Option ℕ
number_of names name = number_from 0 names name

-- the table has the number of each name
abbrev pub IsTable : Table → List (Option Name) → Type 0
IsTable t names = (q : Bor (List ℕ)) → get (λ x y. pointwise nat_eq x.now y.now) t.numbers q ≡ number_of names q.now
