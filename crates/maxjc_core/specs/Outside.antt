-- The outside of a command: its files, and where it says its lines.
use Rattle.std.specs.Prelude.{ℕ, List, Option}
use Rattle.mx_base.specs.Files.{Held}

-- what the outside is at one moment: what the files hold and what was said, where they are told, and how often calls have failed
pub record Outside : Type 0 where
  pub held : Held
  pub read_faults : ℕ
  pub write_faults : ℕ
  pub said : Option (List ℕ)
  pub say_faults : ℕ

abbrev pub outside : Held → ℕ → ℕ → Option (List ℕ) → ℕ → Outside
outside held read_faults write_faults said say_faults = record {
  held = held;
  read_faults = read_faults;
  write_faults = write_faults;
  said = said;
  say_faults = say_faults;
}
