-- The lists of the nodes of a kernel, where a link is read after those behind it.
use Rattle.std.proofs.Common.{◌≡◌, ℕ, ◌+◌, ◌<◌, Bool, true, false, cond, eqb, List, [], drop, length, get_or, Option, Some, refl, sym, ap, ◌∙◌, subst, arith, ⊎_elim, length-set}
use Rattle.std.specs.Prelude.{slice_set}
use Rattle.std.proofs.lemmas.Bool.{eq-eqb, ne_eqb, and_right, and_from, cases_eq, cond-true, cond-false}
use Rattle.std.proofs.lemmas.List.{get_or-set_same, get_or-set_other, drop_more, drop_all}
use Rattle.kernel_words.specs.declared.streams.Streams.{Streams}
use Rattle.manager_links.specs.declared.links.LinkEnds.{LinkEnds}
use Rattle.manager_links.specs.declared.project.Project.{Project}
use Rattle.manager_links.specs.Ports.{is_same_port}
use Rattle.project_streams.specs.Streams.{GivenProject, ProjectValues, link_to, host_to, words_of}
use Rattle.project_words.specs.Open.{AreFed, AreKnown, known_ticks, settled_values}
use Rattle.project_words.specs.Sources.{port_at, fed_list, AreFromHosts, AreFrom}
use Rattle.project_words.proofs.Ports.{all_links}

module _ (project : Project) (given : GivenProject) (values : ProjectValues) (k : ℕ) where
  -- the list of a node by these links
  abbrev list_by : List LinkEnds → ℕ → List (Option ℕ)
  list_by links n =
      fed_list project.kernels given values (link_to links (port_at k n)) (host_to 0 project.joints.inputs (port_at k n))

  -- past the last link there are only the streams from the CPU
  pub no_link : (number : ℕ) (sources : List (List (Option ℕ))) → number ≡ length project.joints.links
      → AreFromHosts project.joints.inputs given.words k 0 sources → AreFrom project given values k number sources
  no_link number sources e have n h =
      have n h ∙ sym (ap (λ links. list_by links n) (drop_all number project.joints.links (omega arith)))

  module _ (i : ℕ) (d : LinkEnds) (within : i < length project.joints.links) (sources : List (List (Option ℕ)))
      (have : AreFrom project given values k (i + 1) sources) where
    abbrev link : LinkEnds
    link = get_or project.joints.links i d

    abbrev output_list : List (Option ℕ)
    output_list = words_of project.kernels given values link.from

    -- the list of a node by this link and those behind it
    by_first : (n : ℕ)
        → list_by (drop i project.joints.links) n
        ≡ cond (is_same_port link.to (port_at k n)) output_list (list_by (drop (i + 1) project.joints.links) n)
    by_first n =
        ap (λ links. list_by links n) (drop_more project.joints.links i d within)
        ∙ by_test (is_same_port link.to (port_at k n))
      where
        by_test : (b : Bool)
            → fed_list project.kernels given values
            (cond b (Some link.from) (link_to (drop (i + 1) project.joints.links) (port_at k n)))
            (host_to 0 project.joints.inputs (port_at k n))
            ≡ cond b output_list (list_by (drop (i + 1) project.joints.links) n)
        by_test true = refl
        by_test false = refl

    pub link_placed : link.to.kernel ≡ k → AreFrom project given values k i (slice_set sources link.to.node output_list)
    link_placed own n h = ⊎_elim
        (λ (e : n ≡ link.to.node).
        ap (λ m. get_or (slice_set sources link.to.node output_list) m []) e
        ∙ get_or-set_same sources link.to.node output_list [] (omega (arith, h, e, len))
        ∙ sym (cond-true (is_same_port link.to (port_at k n)) output_list (list_by (drop (i + 1) project.joints.links) n)
        (and_from (eqb link.to.kernel k) (eqb link.to.node n) (eq-eqb link.to.kernel k own) (eq-eqb link.to.node n (sym e))))
        ∙ sym (by_first n))
        (λ (differ : n ≡ link.to.node → ⊥).
        get_or-set_other sources link.to.node n output_list [] differ
        ∙ have n (omega (arith, h, len))
        ∙ sym (cond-false (is_same_port link.to (port_at k n)) output_list (list_by (drop (i + 1) project.joints.links) n)
        (and_right (eqb link.to.kernel k) (eqb link.to.node n) (ne_eqb link.to.node n (λ e. differ (sym e)))))
        ∙ sym (by_first n))
        (cases_eq n link.to.node)
      where
        len : length (slice_set sources link.to.node output_list) ≡ length sources
        len = length-set sources link.to.node output_list

-- the list that comes by a link is placed, where the words of its output are known
pub known_placed : (project : Project) (given : GivenProject) (settled : List (Option Streams)) (k : ℕ)
    → AreKnown project given settled → AreFed project.joints.links settled k
    → (links : List LinkEnds) → links ≡ project.joints.links
    → (i : ℕ) (d : LinkEnds) (sources : List (List (Option ℕ))) (words : List (Option ℕ))
    → i < length links → (get_or links i d).to.kernel ≡ k
    → ((g : GivenProject)
    → g.ticks (get_or links i d).from.kernel ≡ known_ticks settled (get_or links i d).from.kernel
    → words ≡ words_of project.kernels g (settled_values settled) (get_or links i d).from)
    → AreFrom project given (settled_values settled) k (i + 1) sources
    → AreFrom project given (settled_values settled) k i (slice_set sources (get_or links i d).to.node words)
known_placed project given settled k known fed links same =
    subst (λ (ls : List LinkEnds). (i : ℕ) (d : LinkEnds) (sources : List (List (Option ℕ))) (words : List (Option ℕ))
    → i < length ls → (get_or ls i d).to.kernel ≡ k
    → ((g : GivenProject)
    → g.ticks (get_or ls i d).from.kernel ≡ known_ticks settled (get_or ls i d).from.kernel
    → words ≡ words_of project.kernels g (settled_values settled) (get_or ls i d).from)
    → AreFrom project given (settled_values settled) k (i + 1) sources
    → AreFrom project given (settled_values settled) k i (slice_set sources (get_or ls i d).to.node words)) (sym same)
    (λ i d sources words within own are have.
    let from = (all_links project i d within).from in
    let is = known (get_or project.joints.links i d).from.kernel from.kernel (fed i d within own) in
    subst (λ ws. AreFrom project given (settled_values settled) k i (slice_set sources (get_or project.joints.links i d).to.node ws))
    (sym (are given (sym is.ticks)))
    (link_placed project given (settled_values settled) k i d within sources have own))
