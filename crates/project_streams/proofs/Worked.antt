-- Links of worked projects.
use Rattle.std.proofs.Common.{◌≡◌, ℕ, ◌+◌, ◌-◌, ◌<◌, true, refl, arith, lit≤}
use Rattle.std.specs.Prelude.{min}
use Rattle.project_streams.specs.declared.side.Side.{Side}
use Rattle.project_streams.specs.declared.side.Side.TheVariants.{Dry, Full}
use Rattle.project_streams.specs.Ideal.{Port, IsFirstFault, IsEven, IsFaulty, IsFormer, edge_of}
use Rattle.project_streams.proofs.Even.{count_all, even}

-- a port without a control
abbrev port : ℕ → ℕ → Port
port begin ticks = record { begin = begin; ticks = ticks; due = λ _. true }

-- the second of two kernels of one time has a tick more than the first one: in this tick its link is
-- dry, and nothing was amiss before
late_reader : IsFirstFault (port 1 4) (port 2 5) 2 Dry 4
late_reader = record {
  here = record { due = record { within = omega arith; due = refl }; dry = lit≤ tt };
  before = earlier;
  former = λ other u same none dry. never other none;
}
  where
    earlier : (other : Side) (u : ℕ)
        → edge_of (port 1 4) (port 2 5) other u < 6
        → IsFaulty (port 1 4) (port 2 5) 2 other u → ⊥
    earlier Dry u before dry =
        let missing = dry.dry in
        let written = count_all (λ _. true) (λ t. refl) (min 4 (2 + u - 1)) in
        let read = count_all (λ _. true) (λ t. refl) u in
        omega arith
    earlier Full u before full =
        let within = full.due.within in
        let held = full.full in
        let written = count_all (λ _. true) (λ t. refl) u in
        let read = count_all (λ _. true) (λ t. refl) (min 5 (1 + u - 2)) in
        omega arith

    never : (other : Side) → IsFormer other Dry → ⊥
    never Dry none = none
    never Full none = none

-- the second has two ticks less than the first: once two words more than it reads were written, the
-- link is full
early_reader : IsFirstFault (port 1 9) (port 2 4) 2 Full 6
early_reader = record {
  here = record { due = record { within = omega arith; due = refl }; full = lit≤ tt };
  before = earlier;
  former = now;
}
  where
    earlier : (other : Side) (u : ℕ)
        → edge_of (port 1 9) (port 2 4) other u < 7
        → IsFaulty (port 1 9) (port 2 4) 2 other u → ⊥
    earlier Dry u before dry =
        let within = dry.due.within in
        let missing = dry.dry in
        let written = count_all (λ _. true) (λ t. refl) (min 9 (2 + u - 1)) in
        let read = count_all (λ _. true) (λ t. refl) u in
        omega arith
    earlier Full u before full =
        let held = full.full in
        let written = count_all (λ _. true) (λ t. refl) u in
        let read = count_all (λ _. true) (λ t. refl) (min 4 (1 + u - 2)) in
        omega arith

    now : (other : Side) (u : ℕ)
        → edge_of (port 1 9) (port 2 4) other u ≡ 7 → IsFormer other Full
        → IsFaulty (port 1 9) (port 2 4) 2 other u → ⊥
    now Dry u same former dry = let within = dry.due.within in absurd (omega arith)
    now Full u same former full = former

-- links whose words are read 96 edges and 1 edge after they are written, 97 and 2 words deep
long_link : IsEven (port 6 200) (port 102 200) 97
long_link = even (port 6 200) (port 102 200) 97 (λ t. refl) (λ t. refl) refl (omega arith) refl

short_link : IsEven (port 101 200) (port 102 200) 2
short_link = even (port 101 200) (port 102 200) 2 (λ t. refl) (λ t. refl) refl (omega arith) refl
