-- A link of plain numbers: without controls, over equally many ticks, and as deep as it has to be.
use Rattle.std.proofs.Common.{◌≡◌, ℕ, zero, suc, ◌+◌, ◌-◌, ◌≤◌, Bool, true, refl, ap, ◌∙◌, arith}
use Rattle.std.specs.Prelude.{min, if◌then◌else◌}
use Rattle.stream_equations.specs.Equations.{count_before}
use Rattle.project_streams.specs.declared.side.Side.TheVariants.{Dry, Full}
use Rattle.project_streams.specs.Ideal.{Port, IsEven}

-- a test that each tick passes is passed by all ticks before one
pub count_all : (test : ℕ → Bool) → ((t : ℕ) → test t ≡ true) → (n : ℕ) → count_before test n ≡ n
count_all test all zero = refl
count_all test all (suc n) =
    ap (λ b. if b then suc (count_before test n) else count_before test n) (all n)
    ∙ ap suc (count_all test all n)

-- a port at which a word is due in each tick
abbrev pub IsSteady : Port → Type 0
IsSteady port = (t : ℕ) → port.due t ≡ true

pub even : (producer consumer : Port) (depth : ℕ) → IsSteady producer → IsSteady consumer
    → producer.ticks ≡ consumer.ticks → producer.begin + 1 ≤ consumer.begin
    → depth ≡ consumer.begin - producer.begin + 1 → IsEven producer consumer depth
even producer consumer depth p c ticks behind deep Dry t dry =
    let within = dry.due.within in
    let missing = dry.dry in
    let written = count_all producer.due p (min producer.ticks (consumer.begin + t - producer.begin)) in
    let read = count_all consumer.due c t in
    omega arith
even producer consumer depth p c ticks behind deep Full t full =
    let within = full.due.within in
    let held = full.full in
    let written = count_all producer.due p t in
    let read = count_all consumer.due c (min consumer.ticks (producer.begin + t - consumer.begin)) in
    omega arith
