-- The words that come to a kernel have the widths of its nodes.
use Rattle.std.proofs.Common.{◌≡◌, ℕ, zero, suc, ◌<◌, ◌^◌, Bool, true, false, cond, List, [], ◌∷◌, ◌++◌, map, length, get_or, Option, Some, None, refl, sym, ap, ◌∙◌, subst, arith}
use Rattle.std.specs.Prelude.{pos, slice_get}
use Rattle.std.proofs.lemmas.Option.{same_Some}
use Rattle.fix_arith.specs.declared.types.StreamType.{StreamType}
use Rattle.fix_arith.specs.Types.{width_of}
use Rattle.stream_graph.specs.LookUps.{width_at}
use Rattle.stream_graph.specs.declared.kernel.Kernel.{Kernel}
use Rattle.stream_equations.specs.Equations.{chosen, enabled}
use Rattle.stream_equations.specs.Words.{words_before}
use Rattle.kernel_words.specs.declared.streams.Streams.{Streams}
use Rattle.manager_links.specs.declared.hosts.HostPort.{HostPort}
use Rattle.manager_links.specs.declared.links.LinkEnds.{LinkEnds}
use Rattle.manager_links.specs.declared.links.PortAt.{PortAt}
use Rattle.manager_links.specs.declared.project.Project.{Project}
use Rattle.manager_links.specs.Hosts.{HasType}
use Rattle.manager_links.specs.Ports.{type_of}
use Rattle.project_streams.specs.Streams.{ProjectValues, nodes_at, link_to, host_to, words_of}
use Rattle.project_words.specs.declared.given.ProjectRun.{ProjectRun}
use Rattle.project_words.specs.Given.{given_of, IsGiven}
use Rattle.project_words.specs.Open.{IsDone, AreFed, AreKnown, settled_values}
use Rattle.project_words.specs.Sources.{port_at, host_list, fed_list, AreFrom, FitNodes}
use Rattle.project_words.proofs.Feeding.{of_link, hosted}
use Rattle.project_words.proofs.Ports.{IsThere, IsLink, all_at, all_links, host_there}

-- ---- lists of words

pub chosen_some : (xs : List ℕ) (j : ℕ) → chosen (map Some xs) j ≡ slice_get xs j
chosen_some [] j = refl
chosen_some (x ∷ xs) zero = refl
chosen_some (x ∷ xs) (suc j) = chosen_some xs j

-- each word that is defined is below a number
abbrev AreBelow : ℕ → List (Option ℕ) → Type 0
AreBelow most words = (j x : ℕ) → chosen words j ≡ Some x → x < most

one_more : (most : ℕ) (words : List (Option ℕ)) (word : Option ℕ) → AreBelow most words
    → ((x : ℕ) → word ≡ Some x → x < most) → AreBelow most (words ++ word ∷ [])
one_more most [] word below last zero x e = last x e
one_more most [] word below last (suc j) x e = absurd (cc)
one_more most (first ∷ words) word below last zero x e = below 0 x e
one_more most (first ∷ words) word below last (suc j) x e =
    one_more most words word (λ i y f. below (suc i) y f) last j x e

below_before : (most : ℕ) (test : ℕ → Bool) (word : ℕ → Option ℕ) → ((t x : ℕ) → word t ≡ Some x → x < most)
    → (t : ℕ) → AreBelow most (words_before test word t)
below_before most test word below zero = λ j x e. absurd (cc)
below_before most test word below (suc t) = by_test (test t) (below_before most test word below t)
  where
    by_test : (b : Bool) → AreBelow most (words_before test word t)
        → AreBelow most (cond b (words_before test word t ++ word t ∷ []) (words_before test word t))
    by_test true rest = one_more most (words_before test word t) (word t) rest (below t)
    by_test false rest = rest

-- ---- the lists of a kernel

same_width : (s t : StreamType) → Some s ≡ Some t → width_of s ≡ width_of t
same_width s t e = ap width_of (same_Some s t e)

module _ (project : Project) (run : ProjectRun) (settled : List (Option Streams)) (k : ℕ) (given : IsGiven project run)
    (known : AreKnown project (given_of run) settled) (fed : AreFed project.joints.links settled k) where
  abbrev values : ProjectValues
  values = settled_values settled

  abbrev kernels : List Kernel
  kernels = project.kernels

  abbrev links : List LinkEnds
  links = project.joints.links

  -- the words of an output that is linked to a node
  by_link : (n j x : ℕ) (output : PortAt) → link_to project.joints.links (port_at k n) ≡ Some output
      → chosen (words_of project.kernels (given_of run) values output) j ≡ Some x
      → x < 2 ^ width_at (nodes_at project.kernels k) n
  by_link n j x output e word =
      let link = of_link (IsLink project) links (port_at k n) output (all_links project) e in
      let done : IsDone settled output.kernel =
      of_link (λ (l : LinkEnds). l.to.kernel ≡ k → IsDone settled l.from.kernel) links
      (port_at k n) output fed e refl in
      let is = known output.kernel link.from.kernel done in
      let width : width_at (nodes_at kernels output.kernel) output.node ≡ width_at (nodes_at kernels k) n =
      same_width _ _ (sym link.from.typed ∙ link.types ∙ link.to.typed) in
      subst (λ w. x < 2 ^ w) width
      (below_before (2 ^ width_at (nodes_at kernels output.kernel) output.node)
      (enabled (nodes_at kernels output.kernel) (values output.kernel) output.node)
      (λ t. values output.kernel output.node (pos t))
      (λ t y f. is.words output.node (pos t) y link.from.node f)
      ((given_of run).ticks output.kernel) j x word)

  -- those of a stream from the CPU
  by_host : (n j x : ℕ) (o : Option ℕ) → host_to 0 project.joints.inputs (port_at k n) ≡ o
      → chosen (host_list run.words o) j ≡ Some x → x < 2 ^ width_at (nodes_at project.kernels k) n
  by_host n j x None e word = absurd (cc)
  by_host n j x (Some number) e word =
      let h = hosted 0 project.joints.inputs (port_at k n) number e in
      let to = all_at (λ (host : HostPort). IsThere kernels host.port) project.joints.inputs h.place
      h.host (host_there project) h.at in
      let type : type_of project.kernels h.host.port ≡ Some h.host.t =
      all_at (HasType project.kernels) project.joints.inputs h.place h.host project.whole.inputs.typed h.at in
      let width : width_of h.host.t ≡ width_at (nodes_at project.kernels k) n =
      same_width _ _ (sym type ∙ to.typed)
      ∙ ap (λ (p : PortAt). width_at (nodes_at project.kernels p.kernel) p.node) h.to in
      let numbered = h.numbered in
      let place : h.place ≡ number = omega (arith, numbered) in
      let at : slice_get project.joints.inputs number ≡ Some h.host =
      subst (λ m. slice_get project.joints.inputs m ≡ Some h.host) place h.at in
      subst (λ w. x < 2 ^ w) width
      (given.word number j x h.host at (sym (chosen_some (get_or run.words number []) j) ∙ word))

  pub fit_nodes : (sources : List (List (Option ℕ))) → length sources ≡ length (nodes_at project.kernels k)
      → AreFrom project (given_of run) values k 0 sources → FitNodes (nodes_at project.kernels k) sources
  fit_nodes sources size from n j x h e =
      by_source (link_to project.joints.links (port_at k n)) refl
      (sym (ap (λ list. chosen list j) (from n (omega (arith, h, size)))) ∙ e)
    where
      by_source : (o : Option PortAt) → link_to project.joints.links (port_at k n) ≡ o
          → chosen (fed_list project.kernels (given_of run) values o (host_to 0 project.joints.inputs (port_at k n))) j ≡ Some x
          → x < 2 ^ width_at (nodes_at project.kernels k) n
      by_source (Some output) l word = by_link n j x output l word
      by_source None l word = by_host n j x (host_to 0 project.joints.inputs (port_at k n)) refl word
