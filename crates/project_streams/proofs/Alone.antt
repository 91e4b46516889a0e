-- A project of one kernel has no link.
use Rattle.std.proofs.Common.{◌≡◌, ℕ, ◌<◌, List, [], ◌∷◌, length, map, refl, ap, ◌∙◌, sym, arith}
use Rattle.std.specs.Prelude.{All, filter, slice_index, ℤ}
use Rattle.std.specs.List.{AllZip}
use Rattle.std.proofs.lemmas.List.{length-map}
use Rattle.std.proofs.lemmas.Option.{slice_get_within}
use Rattle.kernel_meaning.specs.declared.plan.Join.{Join}
use Rattle.stream_graph.specs.declared.kernel.Kernel.{Kernel}
use Rattle.stream_graph.specs.Kinds.{is_input, is_output}
use Rattle.manager_links.specs.declared.links.LinkEnds.{LinkEnds}
use Rattle.manager_links.specs.declared.links.Links.{Links}
use Rattle.manager_links.specs.declared.project.Project.{Project}
use Rattle.manager_links.specs.Joined.{IsLinkOf, is_link, ends_of_link}
use Rattle.manager_links.specs.Links.{AreLinksOf}
use Rattle.project_streams.proofs.Ports.{node_is}

same_length : (kernels : List Kernel) (joins : List Join) (links : List LinkEnds)
    → AllZip (IsLinkOf kernels) joins links → length joins ≡ length links
same_length kernels [] [] joined = refl
same_length kernels [] (link ∷ links) joined = absurd joined
same_length kernels (join ∷ joins) [] joined = absurd joined
same_length kernels (join ∷ joins) (link ∷ links) joined =
    let rest = same_length kernels joins links joined.1 in omega arith

-- links that rise through the places of one kernel are none
no_links : (kernels : List Kernel) (ranks : List ℕ) (joins : List Join) (links : List LinkEnds)
    → length kernels ≡ 1 → AllZip (IsLinkOf kernels) joins links
    → All (λ (link : LinkEnds). slice_index ranks link.from.kernel < slice_index ranks link.to.kernel) links
    → length links ≡ 0
no_links kernels ranks joins [] one joined rising = refl
no_links kernels ranks [] (link ∷ links) one joined rising = absurd joined
no_links kernels ranks (join ∷ joins) (link ∷ links) one joined rising =
    let from = node_is kernels is_output join.right link.from joined.0.from in
    let to = node_is kernels is_input join.left link.to joined.0.to in
    let a = slice_get_within kernels link.from.kernel from.kernel from.at in
    let b = slice_get_within kernels link.to.kernel to.kernel to.at in
    let rises : slice_index ranks link.from.kernel < slice_index ranks link.to.kernel =
    rising 0 link (omega arith) in
    let first : link.from.kernel ≡ 0 = omega arith in
    let second : link.to.kernel ≡ 0 = omega arith in
    let here = ap (λ k. slice_index ranks k) (first ∙ sym second) in
    absurd (omega arith)

pub none_alone : (project : Project) (made : Links) (times : List (List ℤ))
    → AreLinksOf project times made → length project.kernels ≡ 1 → length made.links ≡ 0
none_alone project made times are one =
    let own = no_links project.kernels project.joints.ranks (filter is_link project.plan.joins)
    project.joints.links one project.whole.links project.whole.ordered.rising in
    let same = same_length project.kernels (filter is_link project.plan.joins)
    project.joints.links project.whole.links in
    let other = same_length project.kernels (filter is_link project.plan.joins)
    (map ends_of_link made.links) are.joined in
    let counted = length-map made.links ends_of_link in
    omega arith
