-- The words of a command.
use Rattle.std.specs.Prelude.{ℕ, List, [], ◌∷◌, Option, Some, None, ◌&&◌, not, if◌then◌else◌, codes, ◌++◌}
use Rattle.std.specs.Str.{bytes_eq}
use Rattle.std.specs.Option.{option_map}

abbrev pub Name : Type 0
Name = List ℕ

-- the names of the files of `compile`
pub record Names : Type 0 where
  pub source : Name
  pub table : Name
  pub output : Name
  pub report : Name

-- the names of the files of `simulate`
pub record RunNames : Type 0 where
  pub text : Name
  pub run : Name

-- the names of the files of `check`
pub record CheckNames : Type 0 where
  pub source : Name
  pub table : Name
  pub report : Name

-- the names of the files of `expect`: those of `check`, and that of a run file
pub record ExpectNames : Type 0 where
  pub check : CheckNames
  pub run : Name

pub data Command : Type 0 where
  Compile : Names → Command
  Simulate : RunNames → Command
  Expect : ExpectNames → Command
  Check : CheckNames → Command

-- the names of a source, of a table and of a report, and of a run file
abbrev pub expect_names : Name → Name → Name → Name → ExpectNames
expect_names source table report run = record {
  check = record { source = source; table = table; report = report };
  run = run;
}

-- `compile SRC TABLE OUT REPORT`, where OUT and REPORT are different texts, `simulate TEXT RUN`,
-- `expect SRC TABLE REPORT RUN`, and `check SRC TABLE REPORT`. Every other list of words is no
-- command.
abbrev pub command_of : List Name → Option Command
command_of (word ∷ source ∷ table ∷ third ∷ fourth ∷ []) =
    if bytes_eq word (codes "compile") && not (bytes_eq third fourth)
    then Some (Compile (record { source = source; table = table; output = third; report = fourth }))
    else if bytes_eq word (codes "expect")
    then Some (Expect (expect_names source table third fourth))
    else None
command_of (word ∷ text ∷ run ∷ []) =
    if bytes_eq word (codes "simulate")
    then Some (Simulate (record { text = text; run = run }))
    else None
command_of (word ∷ source ∷ table ∷ report ∷ []) =
    if bytes_eq word (codes "check")
    then Some (Check (record { source = source; table = table; report = report }))
    else None
command_of _ = None

abbrev pub usage_line : List ℕ
usage_line = codes "usage: compile SRC TABLE OUT REPORT | simulate TEXT RUN | expect SRC TABLE REPORT RUN | check SRC TABLE REPORT | generate N\n"

-- the bytes said, with more
abbrev pub said_more : Option (List ℕ) → List ℕ → Option (List ℕ)
said_more said line = option_map (λ bytes. bytes ++ line) said
