-- A word that is read is shown as late as it is read.
use Rattle.std.proofs.Common.{arith, ◌≡◌, ⊎_elim, ◌<◌, ◌≤◌, ◌+◌, ◌-◌, ℕ, zero, suc, List, [], ◌∷◌, map, length, get_or, refl, ap, ◌∙◌, subst}
use Rattle.std.specs.Prelude.{Contains}
use Rattle.std.proofs.lemmas.Bool.{cases_lt}
use Rattle.cycle_find.specs.Constraints.{Numbers}
use Rattle.stream_graph.specs.declared.node.Node.{Node}
use Rattle.kernel_layout.specs.Waits.{IsReadBehind, AreWaits, stages_by}

map_length : (f : ℕ → ℕ) (xs : List ℕ) → length (map f xs) ≡ length xs
map_length f [] = refl
map_length f (x ∷ xs) = ap suc (map_length f xs)

map_at : (f : ℕ → ℕ) (xs : List ℕ) (k d e : ℕ) → k < length xs → get_or (map f xs) k d ≡ f (get_or xs k e)
map_at f [] k d e h = absurd (omega (arith, h))
map_at f (x ∷ xs) zero d e h = refl
map_at f (x ∷ xs) (suc k) d e h = map_at f xs k d e (omega (arith, h))

pub stages_length : (latency : ℕ) (waits : List ℕ) → length waits ≤ length (stages_by latency waits)
stages_length zero waits = omega arith
stages_length (suc l) waits = let size = map_length (λ wait. suc l + wait) waits in omega (arith, size)

-- a wait behind a latency
pub stage_of_wait : (latency : ℕ) (waits : List ℕ) (wait : ℕ) → Contains waits wait → Contains (stages_by latency waits) (latency + wait)
stage_of_wait zero waits wait c = let e : wait ≡ 0 + wait = omega arith in subst (Contains waits) e c
stage_of_wait (suc l) waits wait c =
    let f : ℕ → ℕ = λ w. suc l + w in
    let size = map_length f waits in
    let lt = c.1 in
    (suc c.0, omega (arith, size, lt), map_at f waits c.0 (suc l + wait) wait c.1 ∙ ap f c.2)

-- a latency
pub stage_of_latency : (latency : ℕ) (waits : List ℕ) → 0 < latency → Contains (stages_by latency waits) latency
stage_of_latency zero waits some = absurd (omega (arith, some))
stage_of_latency (suc l) waits some = (0, omega arith, refl)

-- the word of a node is shown as late as it is read
pub read_shown : (nodes : List Node) (ticks : ℕ → ℕ) (s : Numbers) (u latency : ℕ) (waits : List ℕ) → AreWaits nodes ticks s u waits → latency ≡ ticks u
    → (behind : ℕ) → 0 < behind → IsReadBehind nodes s u behind → Contains (stages_by latency waits) behind
read_shown nodes ticks s u latency waits a same behind some r =
    let least = a.late behind r in
    ⊎_elim
    (λ (later : latency < behind).
    let wait = behind - latency in
    let sum : latency + wait ≡ behind = omega (arith, later) in
    let at : behind ≡ ticks u + wait = omega (arith, later, same) in
    subst (Contains (stages_by latency waits)) sum
    (stage_of_wait latency waits wait ((a.each wait).1 (omega (arith, later), subst (IsReadBehind nodes s u) at r))))
    (λ (last : behind ≤ latency).
    let at : latency ≡ behind = omega (arith, last, least, same) in
    subst (Contains (stages_by latency waits)) at (stage_of_latency latency waits (omega (arith, some, at))))
    (cases_lt latency behind)
