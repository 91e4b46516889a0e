-- The starts of a project's kernels are small.
use Rattle.std.proofs.Common.{ℕ, zero, suc, ◌+◌, ◌-◌, ◌*◌, ◌<◌, ◌≤◌, ◌^◌, ◌⊎◌, inl, inr, min, List, [], ◌∷◌, length, get_or, sym, subst, arith}
use Rattle.std.specs.Prelude.{ℤ, pos, ◌≤ℤ◌, unsigned_abs, slice_index}
use Rattle.std.proofs.lemmas.Bool.{cases_lt}
use Rattle.std.proofs.lemmas.Int.{ints}
use Rattle.std.proofs.lemmas.List.{get_or_past}
use Rattle.manager_links.specs.declared.links.Links.{Links}
use Rattle.manager_links.specs.declared.links.PortAt.{PortAt}
use Rattle.manager_links.specs.declared.project.Project.{Project}
use Rattle.manager_links.specs.Links.{AreLinksOf}
use Rattle.manager_links.specs.Starts.{Starts, AreTimes, AreLegal, time_of}
use Rattle.manager_links.specs.Waiting.{IsTimedPort, AreSmall, number_at}
use Rattle.manager_links.proofs.Started.{known_links}
use Rattle.project_words.proofs.Ports.{all_links}

-- ---- ranks

-- how many of these ranks are below one
abbrev lower : List ℕ → ℕ → ℕ
lower [] rank = 0
lower (r ∷ ranks) rank = min 1 (rank - r) + lower ranks rank

lower_most : (ranks : List ℕ) (rank : ℕ) → lower ranks rank ≤ length ranks
lower_most [] rank = omega arith
lower_most (r ∷ ranks) rank = let rest = lower_most ranks rank in omega (arith, rest)

lower_more : (ranks : List ℕ) (one other : ℕ) → one ≤ other → lower ranks one ≤ lower ranks other
lower_more [] one other le = omega arith
lower_more (r ∷ ranks) one other le = let rest = lower_more ranks one other le in omega (arith, rest, le)

-- more are below a higher rank, where the lower one is among them
lower_less : (ranks : List ℕ) (i other : ℕ) → i < length ranks → slice_index ranks i < other
    → lower ranks (slice_index ranks i) < lower ranks other
lower_less [] i other lt less = absurd (omega (arith, lt))
lower_less (r ∷ ranks) zero other lt less =
    let rest = lower_more ranks r other (omega (arith, less)) in omega (arith, rest, less)
lower_less (r ∷ ranks) (suc i) other lt less =
    let rest = lower_less ranks i other (omega (arith, lt)) less in omega (arith, rest, less)

-- ---- starts that are legal and small

time_small : (x : ℤ) → pos 0 ≤ℤ x → x ≤ℤ pos (2 ^ 46) → unsigned_abs x ≤ 2 ^ 46
time_small x begin most = omega (arith, ints, begin, most)

port_time : (times : List (List ℤ)) (port : PortAt) → IsTimedPort times port → time_of times port ≤ 2 ^ 46
port_time times port timed = time_small (number_at times port) timed.begin timed.most

-- kernels that start as far apart as all times ask, by how many have lower ranks
abbrev by_ranks : List ℕ → Starts
by_ranks ranks k = (lower ranks (slice_index ranks k) + 1) * (2 ^ 46 + 1)

apart : (one other time later : ℕ) → one < other → time ≤ 2 ^ 46
    → (one + 1) * (2 ^ 46 + 1) + time + 1 ≤ (other + 1) * (2 ^ 46 + 1) + later
apart one other time later less small = omega (arith, less, small)

legal : (project : Project) (times : List (List ℤ)) → AreTimes project.kernels times
    → AreLegal times (length project.kernels) project.joints.links (by_ranks project.joints.ranks)
legal project times all = record {
  one = λ k lt. omega arith;
  behind = λ i d lt.
      let link = get_or project.joints.links i d in
      let ranks = project.joints.ranks in
      let timed = (known_links project.plan project.kernels project.joints times project.whole all).timed i d lt in
      let is = all_links project i d lt in
      let from = is.from.kernel in
      let size = project.whole.ordered.size in
      apart (lower ranks (slice_index ranks link.from.kernel)) (lower ranks (slice_index ranks link.to.kernel))
      (time_of times link.from) (time_of times link.to)
      (lower_less ranks link.from.kernel (slice_index ranks link.to.kernel) (omega (arith, from, size)) is.rising)
      (port_time times link.from timed.from);
}

rank_small : (n : ℕ) → n ≤ 64 → (n + 1) * (2 ^ 46 + 1) ≤ 2 ^ 60
rank_small n few = omega (arith, few)

pub starts_small : (project : Project) (times : List (List ℤ)) (made : Links)
    → AreTimes project.kernels times → AreLinksOf project times made → AreSmall made.starts
starts_small project times made all are k = by_place (cases_lt k (length project.kernels))
  where
    by_place : (k < length project.kernels) ⊎ (length project.kernels ≤ k)
        → slice_index made.starts k ≤ 2 ^ 60
    by_place (inl lt) =
        let ranks = project.joints.ranks in
        let least = are.starts.least (by_ranks ranks)
        (subst (λ links. AreLegal times (length project.kernels) links (by_ranks ranks)) (sym are.ends) (legal project times all)) k lt in
        let most = lower_most ranks (slice_index ranks k) in
        let size = project.whole.ordered.size in
        let few = project.whole.few.most in
        let small = rank_small (lower ranks (slice_index ranks k)) (omega (arith, most, size, few)) in
        omega (arith, least, small)
    by_place (inr past) =
        let each = are.starts.each in
        let none = get_or_past made.starts k 0 (omega (arith, past, each)) in
        omega (arith, none)
