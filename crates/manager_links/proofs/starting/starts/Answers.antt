use Rattle.std.proofs.Common.{◌≡◌, ◌∙◌, ℕ, List, length, map, ap, sym, subst}
use Rattle.std.specs.Prelude.{ℤ, All}
use Rattle.std.proofs.lemmas.Result.{err_from_is_err_and}
use Rattle.stream_graph.specs.declared.kernel.Kernel.{Kernel}
use Rattle.manager_links.specs.declared.links.LinkEnds.{LinkEnds}
use Rattle.manager_links.specs.declared.project.Project.{Project}
use Rattle.manager_links.specs.declared.links.Links.{Links}
use Rattle.manager_links.specs.declared.error.LinkError.{LinkError}
use Rattle.manager_links.specs.declared.error.LinkError.TheVariants as L
use Rattle.manager_links.specs.Links.{AreLinksOf, SaysTooDeep, MayBeTooDeep}
use Rattle.manager_links.specs.Starts.{IsTimed, AreStarts}
use Rattle.manager_links.specs.Waiting.{IsTimedLink, AreRising, AreKnownLinks, deep_link}
use Rattle.manager_links.proofs.Pieces.{zip_length}
use Rattle.manager_links.proofs.Started.{known_links, rising_links, are_links}
use Rattle.manager_links.proofs.starting.starts.Goals as goal

pub least_starts-requires-clause-timed : goal.least_starts-requires-clause-timed
least_starts-requires-clause-timed c =
    let project = c.args.project.now in
    subst (λ xs. All (IsTimedLink c.args.times.now) xs) (sym c.links-ends.ensures)
    (known_links project.plan project.kernels project.joints c.args.times.now project.whole c.requires).timed

pub least_starts-requires-clause-lists : goal.least_starts-requires-clause-lists
least_starts-requires-clause-lists c =
    sym (zip_length IsTimed c.args.project.now.kernels c.args.times.now c.requires)
    ∙ ap length (sym c.kernels-kernels.ensures)

pub least_starts-requires-clause-rising : goal.least_starts-requires-clause-rising
least_starts-requires-clause-rising c =
    let project = c.args.project.now in
    subst AreRising (sym c.links-ends.ensures)
    (rising_links (length project.kernels) project.joints project.whole.ordered)

pub deep_links-requires-clause-known : goal.deep_links-requires-clause-known
deep_links-requires-clause-known c =
    let project = c.args.project.now in
    subst (λ ks. AreKnownLinks ks c.args.times.now c.links-ends.result.now) (sym c.kernels-kernels.ensures)
    (subst (λ xs. AreKnownLinks project.kernels c.args.times.now xs) (sym c.links-ends.ensures)
    (known_links project.plan project.kernels project.joints c.args.times.now project.whole c.requires))

pub deep_links-requires-clause-kernels : goal.deep_links-requires-clause-kernels
deep_links-requires-clause-kernels c =
    ap length c.as_slice.ensures ∙ c.in_ok-starts.ensures.starts.each
    ∙ ap length c.kernels-kernels.ensures
    ∙ zip_length IsTimed c.args.project.now.kernels c.args.times.now c.requires

-- the links, where the slices are those of the project
made : (project : Project) (times : List (List ℤ)) (kernels : List Kernel) (links : List LinkEnds)
    (starts own : List ℕ) → kernels ≡ project.kernels → links ≡ project.joints.links → own ≡ starts
    → AreStarts times (length kernels) links starts
    → AreLinksOf project times
    (record { starts = starts; links = map (deep_link kernels times own) links })
made project times kernels links starts own ks ls same started =
    let here = subst (λ xs. AreStarts times (length project.kernels) xs starts) ls
    (subst (λ k. AreStarts times (length k) links starts) ks started) in
    subst (λ o. AreLinksOf project times (record { starts = starts; links = map (deep_link kernels times o) links })) (sym same)
    (subst (λ xs. AreLinksOf project times (record { starts = starts; links = map (deep_link kernels times starts) xs })) (sym ls)
    (subst (λ k. AreLinksOf project times (record { starts = starts; links = map (deep_link k times starts) project.joints.links })) (sym ks)
    (are_links project.kernels project.plan.joins times project.joints.links starts project.whole.links here)))

may_be : (project : Project) (times : List (List ℤ)) (links : Links) (error : LinkError)
    → AreLinksOf project times links → SaysTooDeep links.links error → MayBeTooDeep project times error
may_be project times links (L.LinkTooDeep number words) are first =
    record { made = links; are = are; first = first }
may_be project times links _ are none = none

pub returns-in_err-links-clause-err : goal.returns-in_err-links-clause-err
returns-in_err-links-clause-err c =
    let p = err_from_is_err_and c.from_residual-in_err-links.result c.from_residual-in_err-links.ensures.1 in
    rw (p.1, p.2)
    (may_be c.args.project.now c.args.times.now _ c.in_err-links.field-0.0
    (made c.args.project.now c.args.times.now c.kernels-kernels.result.now c.links-ends.result.now
    c.in_ok-starts.starts c.as_slice.result.now c.kernels-kernels.ensures c.links-ends.ensures
    c.as_slice.ensures c.in_ok-starts.ensures.starts)
    c.in_err-links.ensures.err)

pub returns-clause-links : goal.returns-clause-links
returns-clause-links c =
    subst (λ xs. AreLinksOf c.args.project.now c.args.times.now (record { starts = c.in_ok-starts.starts; links = xs })) (sym c.in_ok-links.ensures.links)
    (made c.args.project.now c.args.times.now c.kernels-kernels.result.now c.links-ends.result.now
    c.in_ok-starts.starts c.as_slice.result.now c.kernels-kernels.ensures c.links-ends.ensures
    c.as_slice.ensures c.in_ok-starts.ensures.starts)
