-- Which ports stall, by the pattern number, the edge and the port.
use Rattle.std.specs.Prelude.{ℕ, ◌≡◌, ◌<◌, ◌+◌, ◌*◌, ◌/◌, ◌%◌, ◌^◌, ◌==◌, ◌&&◌, not, Bool, false, bit_xor}

-- a test of three numbers, as the relation between them and its answers
abbrev pub Answers : Type 1
Answers = ℕ → ℕ → ℕ → Bool → Type 0

-- the arguments decide the answer: no call may answer both true and false
abbrev pub IsDecided : Answers → Type 0
IsDecided answers = (pick edge port : ℕ) → pick < 2 ^ 64 → edge < 2 ^ 64 → port < 2 ^ 32
    → (a b : Bool) → answers pick edge port a → answers pick edge port b → a ≡ b

-- at pattern number 0 no port stalls
abbrev pub IsFreeAtZero : Answers → Type 0
IsFreeAtZero answers = (edge port : ℕ) → edge < 2 ^ 64 → port < 2 ^ 32 → (a : Bool) → answers 0 edge port a → a ≡ false

-- the pattern of the program: two rounds of a mix of 64 bits, of which the two highest bits decide
abbrev pub first_mix : ℕ → ℕ → ℕ → ℕ
first_mix pick edge port = (pick + edge * 0x9E3779B97F4A7C15 + port * 0xBF58476D1CE4E5B9) % 2 ^ 64

abbrev pub last_mix : ℕ → ℕ
last_mix z = (bit_xor z (z / 2 ^ 31) * 0x94D049BB133111EB) % 2 ^ 64

abbrev pub does_stall : ℕ → ℕ → ℕ → Bool
does_stall pick edge port = not (pick == 0) && (last_mix (first_mix pick edge port) / 2 ^ 62 == 0)
