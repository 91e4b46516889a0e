-- Nets that show a state: the words of counters, and words that are kept.
use Rattle.std.specs.Prelude.{
  ◌≡◌,
  ℕ,
  zero,
  suc,
  ◌+◌,
  ◌-◌,
  ◌%◌,
  ◌^◌,
  ◌≤◌,
  Bool,
  true,
  ◌&&◌,
  if◌then◌else◌,
  nat_eq,
  nat_le,
  List,
  [],
  ◌∷◌,
  Option,
  Some,
}
use Rattle.rtl_ir.specs.declared.design.Module.{Module}
use Rattle.rtl_ir.specs.Value.{Family, Contents, is_reg, bit}
use Rattle.rtl_delays.specs.Steps.{Step, Steps}
use Rattle.rtl_delays.specs.Delays.{IsWord, NoReset}

-- After p advances: the net `to` has, once `time` of them are past, the word of the tick whose
-- number is that of the advances since. It advances where the net `run` is 1. Past 2^47 advances
-- nothing is said.
abbrev pub Counts : ℕ → ℕ → ℕ → (ℕ → ℕ) → ℕ → List Family → Type 0
Counts run to time word p [] = Unit {0}
Counts run to time word p (v ∷ vs) =
    (time ≤ p → p ≤ 2 ^ 47 → v to ≡ word (p - time))
    × Counts run to time word (if nat_eq (v run) 1 then suc p else p) vs

-- so it is from any contents, after a reset edge
abbrev pub IsCounter : Module → ℕ → ℕ → ℕ → ℕ → (ℕ → ℕ) → Type 0
IsCounter m run reset to time word =
    (c : Contents) (v : Family) (vs : List Family)
    → Steps m c (v ∷ vs)
    → v reset ≡ 1
    → NoReset reset vs
    → Counts run to time word 0 vs

-- the word at the last advance before this one that passes a test, and 0 where none does
abbrev pub kept : (ℕ → Bool) → (ℕ → Option ℕ) → ℕ → Option ℕ
kept test word zero = Some 0
kept test word (suc p) = if test p then word p else kept test word p

-- After p advances: the net `to` has the word that the net `from` had at the last advance at which
-- the net `on` was 1, and 0 where it never was. `test` and `word` are what these two have by the
-- number of advances before; they are asked for only where it advances.
abbrev pub Keeps : ℕ → ℕ → ℕ → ℕ → (ℕ → Bool) → (ℕ → Option ℕ) → ℕ → List Family → Type 0
Keeps run on from to test word p [] = Unit {0}
Keeps run on from to test word p (v ∷ vs) =
    IsWord (kept test word p) (v to)
    × ((v run ≡ 1 → (v on ≡ bit (test p)) × (test p ≡ true → IsWord (word p) (v from)))
    → Keeps run on from to test word (if nat_eq (v run) 1 then suc p else p) vs)

-- so it is from any contents, after a reset edge
abbrev pub IsKeeper : Module → ℕ → ℕ → ℕ → ℕ → ℕ → Type 0
IsKeeper m run reset on from to =
    (test : ℕ → Bool) (word : ℕ → Option ℕ) (c : Contents) (v : Family) (vs : List Family)
    → Steps m c (v ∷ vs)
    → v reset ≡ 1
    → NoReset reset vs
    → Keeps run on from to test word 0 vs

-- ---- registers that are such nets

-- a register that a reset edge clears, and that takes the word of the net `from` at each advance at
-- which the net `on` is 1
pub record IsStore (m : Module) (run reset on from to : ℕ) : Type 0 where
  pub register : is_reg m to ≡ true
  pub cleared :
      (c : Contents) (f : Family) (d : Contents) → Step m c f d → f reset ≡ 1 → d.regs to ≡ 0
  pub takes :
      (c : Contents) (f : Family) (d : Contents)
      → Step m c f d
      → f reset ≡ 0
      → d.regs to ≡ if nat_eq (f run) 1 && nat_eq (f on) 1 then f from else c.regs to

-- a register that a reset edge clears and each advance counts up
pub record IsPosition (m : Module) (run reset position : ℕ) : Type 0 where
  pub register : is_reg m position ≡ true
  pub cleared :
      (c : Contents) (f : Family) (d : Contents)
      → Step m c f d
      → f reset ≡ 1
      → d.regs position ≡ 0
  pub steps :
      (c : Contents) (f : Family) (d : Contents)
      → Step m c f d
      → f reset ≡ 0
      → d.regs position
      ≡ if nat_eq (f run) 1 then (f position + 1) % 2 ^ 48 else c.regs position

-- a register that a reset edge clears, and that goes on to its next word at each advance from a
-- position on
pub record IsStepping (m : Module) (run reset position time : ℕ) (next : ℕ → ℕ) (to : ℕ) : Type 0
  where
    pub register : is_reg m to ≡ true
    pub cleared :
        (c : Contents) (f : Family) (d : Contents) → Step m c f d → f reset ≡ 1 → d.regs to ≡ 0
    pub steps :
        (c : Contents) (f : Family) (d : Contents)
        → Step m c f d
        → f reset ≡ 0
        → d.regs to
        ≡ if nat_eq (f run) 1 && nat_le time (f position) then next (f to) else c.regs to
