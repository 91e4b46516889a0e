-- Least schedules have one list of times, and times have one list of links.
use Rattle.std.proofs.Common.{◌≡◌, ◌∙◌, ℕ, ◌<◌, List, [], ◌∷◌, length, map, refl, sym, ap, subst, arith}
use Rattle.std.specs.Prelude.{ℤ, pos, ◌≤ℤ◌, All, slice_index}
use Rattle.std.proofs.lemmas.Int.{ints}
use Rattle.std.proofs.lemmas.List.{ext_get_or}
use Rattle.std.proofs.lemmas.List.Elements.{All-head, All-tail}
use Rattle.cycle_find.specs.Constraints.{numbers_of, Solves}
use Rattle.schedule_problem.specs.declared.problem.Problem.{Problem}
use Rattle.schedule_problem.specs.Flow.{cost_of}
use Rattle.stream_graph.specs.declared.kernel.Kernel.{Kernel}
use Rattle.stream_graph.specs.declared.node.Node.{Node}
use Rattle.latency_table.specs.declared.table.Table.{Table}
use Rattle.kernel_schedule.specs.declared.schedule.Schedule.{Schedule}
use Rattle.kernel_netlist.specs.Scheduled.{IsBestSchedule}
use Rattle.manager_links.specs.declared.links.Link.{Link}
use Rattle.manager_links.specs.declared.links.LinkEnds.{LinkEnds}
use Rattle.manager_links.specs.declared.links.Links.{Links}
use Rattle.manager_links.specs.declared.project.Project.{Project}
use Rattle.manager_links.specs.Joined.{ends_of_link}
use Rattle.manager_links.specs.Links.{AreLinksOf}
use Rattle.manager_links.specs.Starts.{AreStarts, depth_of}
use Rattle.manager_links.specs.Waiting.{deep_link}
use Rattle.project_netlists.specs.Scheduled.{AreBestSchedules, all_times}

-- ---- times

module _ (table : Table) (nodes : List Node) (one other : Schedule)
    (p : IsBestSchedule table nodes one) (q : IsBestSchedule table nodes other) where
  same_problem : one.problem ≡ other.problem
  same_problem = p.least.problem ∙ sym q.least.problem

  -- the times of both cost the same
  same_cost : cost_of one.problem (numbers_of other.answer.times)
      ≡ cost_of one.problem (numbers_of one.answer.times)
  same_cost =
      let most = p.least.times.least (numbers_of other.answer.times) q.least.times.legal in
      let least = q.least.times.least (numbers_of one.answer.times) p.least.times.legal in
      let own = p.least.bits in
      let bits = q.least.bits in
      let along = ap (λ (r : Problem). cost_of r (numbers_of other.answer.times)) same_problem in
      omega (arith, ints, most, least, own, bits, along)

  -- none of one is above that of the other
  not_above : (v : ℕ) → numbers_of one.answer.times v ≤ℤ numbers_of other.answer.times v
  not_above =
      p.least.earliest.least (numbers_of other.answer.times)
      (subst (λ (r : Problem). Solves (numbers_of other.answer.times) r.arcs.list) (sym same_problem)
      q.least.best.legal)
      q.least.earliest.non_negative same_cost

-- the times of a least schedule
one_times : (table : Table) (nodes : List Node) (one other : Schedule)
    → IsBestSchedule table nodes one → IsBestSchedule table nodes other
    → one.answer.times ≡ other.answer.times
one_times table nodes one other p q =
    ext_get_or (pos 0) one.answer.times other.answer.times
    (p.least.best.nodes ∙ ap (λ (r : Problem). r.arcs.nodes) (p.least.problem ∙ sym q.least.problem)
    ∙ sym q.least.best.nodes)
    (λ v lt.
    let below = not_above table nodes one other p q v in
    let above = not_above table nodes other one q p v in
    omega (arith, ints, below, above))

-- the times of the least schedules of kernels
pub one_list : (table : Table) (kernels : List Kernel) (one other : List Schedule)
    → AreBestSchedules table kernels one → AreBestSchedules table kernels other
    → all_times one ≡ all_times other
one_list table [] [] [] p q = refl
one_list table [] [] (s ∷ others) p q = absurd q
one_list table [] (s ∷ one) other p q = absurd p
one_list table (kernel ∷ kernels) [] other p q = absurd p
one_list table (kernel ∷ kernels) (s ∷ one) [] p q = absurd q
one_list table (kernel ∷ kernels) (s ∷ one) (r ∷ others) p q =
    ap (λ own. own ∷ all_times one) (one_times table kernel.nodes s r p.0 q.0)
    ∙ ap (λ rest. r.answer.times ∷ rest) (one_list table kernels one others p.1 q.1)

-- ---- links

-- the least starts
one_starts : (times : List (List ℤ)) (kernels : ℕ) (links : List LinkEnds) (one other : List ℕ)
    → AreStarts times kernels links one → AreStarts times kernels links other → one ≡ other
one_starts times kernels links one other p q =
    ext_get_or 0 one other (p.each ∙ sym q.each)
    (λ k lt.
    let within : k < kernels = subst (λ n. k < n) p.each lt in
    let below = p.least (slice_index other) q.legal k within in
    let above = q.least (slice_index one) p.legal k within in
    omega (arith, below, above))

-- links that have their depths, by where they go from and to
deep_links : (kernels : List Kernel) (times : List (List ℤ)) (starts : List ℕ) (links : List Link)
    → All (λ (link : Link). link.depth ≡ depth_of kernels times (slice_index starts) (ends_of_link link)) links
    → links ≡ map (deep_link kernels times starts) (map ends_of_link links)
deep_links kernels times starts [] all = refl
deep_links kernels times starts (link ∷ links) all =
    let deep = λ (l : Link). l.depth ≡ depth_of kernels times (slice_index starts) (ends_of_link l) in
    let with_depth : ℕ → Link = λ depth. record { from = link.from; to = link.to; depth = depth } in
    ap (λ depth. with_depth depth ∷ links)
    (All-head deep link links all)
    ∙ ap (λ rest. deep_link kernels times starts (ends_of_link link) ∷ rest)
    (deep_links kernels times starts links (All-tail deep link links all))

-- the links of a project at these times
pub one_links : (project : Project) (times : List (List ℤ)) (one other : Links)
    → AreLinksOf project times one → AreLinksOf project times other → one.links ≡ other.links
one_links project times one other p q =
    let kernels = project.kernels in
    let starts = one_starts times (length kernels) project.joints.links one.starts other.starts
    (subst (λ xs. AreStarts times (length kernels) xs one.starts) p.ends p.starts)
    (subst (λ xs. AreStarts times (length kernels) xs other.starts) q.ends q.starts) in
    deep_links kernels times one.starts one.links p.deep
    ∙ ap (λ xs. map (deep_link kernels times one.starts) xs) (p.ends ∙ sym q.ends)
    ∙ ap (λ xs. map (deep_link kernels times xs) (map ends_of_link other.links)) starts
    ∙ sym (deep_links kernels times other.starts other.links q.deep)
