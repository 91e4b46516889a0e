-- Words are one command.
use Rattle.std.proofs.Common.{◌≡◌, List, Some}
use Rattle.maxjc_core.specs.Command.{Name, Names, RunNames, ExpectNames, CheckNames, Command, Compile, Simulate, Expect, Check, command_of}

same_command : (words : List Name) (a b : Command) → command_of words ≡ Some a → command_of words ≡ Some b → a ≡ b
same_command words a b x y = cc

compiled_once : (a b : Names) → Compile a ≡ Compile b → a ≡ b
compiled_once a b e = cc

simulated_once : (a b : RunNames) → Simulate a ≡ Simulate b → a ≡ b
simulated_once a b e = cc

expected_once : (a b : ExpectNames) → Expect a ≡ Expect b → a ≡ b
expected_once a b e = cc

checked_once : (a b : CheckNames) → Check a ≡ Check b → a ≡ b
checked_once a b e = cc

pub same_names : (words : List Name) (a b : Names) → command_of words ≡ Some (Compile a) → command_of words ≡ Some (Compile b) → a ≡ b
same_names words a b x y = compiled_once a b (same_command words (Compile a) (Compile b) x y)

pub same_run_names : (words : List Name) (a b : RunNames) → command_of words ≡ Some (Simulate a) → command_of words ≡ Some (Simulate b) → a ≡ b
same_run_names words a b x y = simulated_once a b (same_command words (Simulate a) (Simulate b) x y)

pub same_expect_names : (words : List Name) (a b : ExpectNames) → command_of words ≡ Some (Expect a) → command_of words ≡ Some (Expect b) → a ≡ b
same_expect_names words a b x y = expected_once a b (same_command words (Expect a) (Expect b) x y)

pub same_check_names : (words : List Name) (a b : CheckNames) → command_of words ≡ Some (Check a) → command_of words ≡ Some (Check b) → a ≡ b
same_check_names words a b x y = checked_once a b (same_command words (Check a) (Check b) x y)
