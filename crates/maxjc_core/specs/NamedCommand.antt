-- The command that the code has, with the names of its files.
use Rattle.std.specs.Prelude.{◌≢◌}
use Rattle.maxjc_core.specs.Command.{Names, RunNames, ExpectNames, CheckNames, Command, Compile, Simulate, Expect, Check}
use Rattle.maxjc_core.specs.declared.command.Compile.{Compile as Compiling}
use Rattle.maxjc_core.specs.declared.command.Simulate.{Simulate as Simulating}
use Rattle.maxjc_core.specs.declared.command.Expect.{Expect as Expecting}
use Rattle.maxjc_core.specs.declared.command.Check.{Check as Checking}
use Rattle.maxjc_core.specs.declared.command.Command.{Command as Commanded}
use Rattle.maxjc_core.specs.declared.command.Command.TheVariants as commands

abbrev pub names_told : Compiling → Names
names_told c = record { source = c.source.now; table = c.table.now; output = c.output.now; report = c.report.now }

abbrev pub run_told : Simulating → RunNames
run_told c = record { text = c.text.now; run = c.run.now }

abbrev pub check_told : Checking → CheckNames
check_told c = record { source = c.source.now; table = c.table.now; report = c.report.now }

abbrev pub expect_told : Expecting → ExpectNames
expect_told c = record { check = check_told c.check; run = c.run.now }

abbrev pub command_told : Commanded → Command
command_told (commands.Compile c) = Compile (names_told c)
command_told (commands.Simulate c) = Simulate (run_told c)
command_told (commands.Expect c) = Expect (expect_told c)
command_told (commands.Check c) = Check (check_told c)

-- the files that a command writes have different names
abbrev pub IsApart : Commanded → Type 0
IsApart (commands.Compile c) = c.output.now ≢ c.report.now
IsApart _ = Unit {0}
