-- The words of one kernel more are known, and in the end those of all.
use Rattle.std.proofs.Common.{◌≡◌, ℕ, zero, suc, ◌*◌, ◌≤◌, ◌<◌, true, List, [], ◌∷◌, map, length, get_or, Option, Some, None, refl, sym, ap, ◌∙◌, subst, arith, ⊎_elim}
use Rattle.std.specs.Prelude.{sum_by, slice_get, slice_index, slice_set, if◌then◌else◌}
use Rattle.std.specs.Option.{is_some, option_map_or}
use Rattle.std.proofs.lemmas.Bool.{false≢true, cases_eq}
use Rattle.std.proofs.lemmas.List.{get_or-set_same, get_or-set_other}
use Rattle.stream_graph.specs.declared.kernel.Kernel.{Kernel}
use Rattle.stream_equations.specs.Equations.{Values, StreamEquations, chosen}
use Rattle.kernel_words.specs.Streams as OneKernel
use Rattle.kernel_words.specs.Streams.{AreWords}
use Rattle.kernel_words.specs.declared.run.KernelRun.{KernelRun}
use Rattle.kernel_words.specs.declared.streams.Streams.{Streams}
use Rattle.manager_links.specs.declared.links.LinkEnds.{LinkEnds}
use Rattle.manager_links.specs.declared.links.PortAt.{PortAt}
use Rattle.manager_links.specs.declared.project.Project.{Project}
use Rattle.project_streams.specs.Streams.{GivenProject, ProjectValues, ProjectEquations, nodes_at, link_to, host_to, words_of, word_from, run_of}
use Rattle.project_words.specs.declared.given.ProjectRun.{ProjectRun}
use Rattle.project_words.specs.declared.words.ProjectWords.{ProjectWords}
use Rattle.project_words.specs.Given.{given_of, word_count}
use Rattle.project_words.specs.Open.{IsDone, AreFed, AreKnown, IsKnown, IsLeastOpen, settled_values}
use Rattle.project_words.specs.Sources.{port_at, fed_list, AreFrom}
use Rattle.project_words.specs.Words.{values_of, HaveTicks, HaveWidths}
use Rattle.project_words.proofs.Feeding.{of_link}
use Rattle.project_words.proofs.Ports.{IsLink, all_links}
use Rattle.project_words.proofs.Runs.{GiveSame, still_satisfied}
use Rattle.project_words.proofs.Widths.{chosen_some}

-- ---- what comes to a kernel

-- it is the same where the words of all outputs that are linked to it are
pub same_fed : (project : Project) (given : GivenProject) (one other : ProjectValues) (k : ℕ)
    → ((n : ℕ) (output : PortAt) → link_to project.joints.links (port_at k n) ≡ Some output
    → words_of project.kernels given one output ≡ words_of project.kernels given other output)
    → GiveSame (nodes_at project.kernels k) (run_of project given one k)
    (run_of project given other k)
same_fed project given one other k same = record {
  ticks = refl;
  scalar = λ n h. refl;
  source = λ n i h.
      by_link (host_to 0 project.joints.inputs (port_at k n)) i
      (link_to project.joints.links (port_at k n)) (same n);
}
  where
    by_link : (host : Option ℕ) (i : ℕ) (o : Option PortAt)
        → ((output : PortAt) → o ≡ Some output
        → words_of project.kernels given one output ≡ words_of project.kernels given other output)
        → word_from project.kernels given one o host i
        ≡ word_from project.kernels given other o host i
    by_link host i None h = refl
    by_link host i (Some output) h = ap (λ words. chosen words i) (h output refl)

-- the run of one kernel by the lists of words that come to its nodes
pub same_own : (project : Project) (run : ProjectRun) (values : ProjectValues) (k : ℕ)
    (own : KernelRun) → own.ticks ≡ slice_index run.ticks k
    → own.scalars ≡ get_or run.scalars k []
    → length own.sources ≡ length (nodes_at project.kernels k)
    → AreFrom project (given_of run) values k 0 own.sources
    → GiveSame (nodes_at project.kernels k) (OneKernel.given_of own)
    (run_of project (given_of run) values k)
same_own project run values k own ticks scalars size from = record {
  ticks = ticks;
  scalar = λ n h. ap (λ words. slice_index words n) scalars;
  source = λ n i h.
      ap (λ list. chosen list i) (from n (omega (arith, h, size)))
      ∙ by_source (link_to project.joints.links (port_at k n))
      (host_to 0 project.joints.inputs (port_at k n)) i;
}
  where
    by_source : (o : Option PortAt) (host : Option ℕ) (i : ℕ)
        → chosen (fed_list project.kernels (given_of run) values o host) i
        ≡ word_from project.kernels (given_of run) values o host i
    by_source (Some output) host i = refl
    by_source None None i = refl
    by_source None (Some number) i = chosen_some (get_or run.words number []) i

-- ---- one kernel more

not_done : (o : Option Streams) → is_some o ≡ true → o ≡ None → ⊥
not_done o done none = false≢true (sym (ap is_some none) ∙ done)

-- what is known of a kernel's words
abbrev values_by : Option Streams → Values
values_by o = option_map_or OneKernel.values_of o (λ n t. None)

abbrev ticks_by : Option Streams → ℕ
ticks_by o = option_map_or (λ (streams : Streams). streams.ticks) o 0

known_by : (project : Project) (given : GivenProject) (settled : List (Option Streams)) (k : ℕ)
    (o : Option Streams) → get_or settled k None ≡ o → AreFed project.joints.links settled k
    → StreamEquations (nodes_at project.kernels k)
    (run_of project given (settled_values settled) k) (values_by o)
    → ticks_by o ≡ given.ticks k → AreWords (nodes_at project.kernels k) (values_by o)
    → IsKnown project given settled k
known_by project given settled k o e fed equations ticks words = record {
  fed = fed;
  equations =
      subst (λ p. StreamEquations (nodes_at project.kernels k)
      (run_of project given (settled_values settled) k) (values_by p)) (sym e) equations;
  ticks = ap ticks_by e ∙ ticks;
  words = subst (λ p. AreWords (nodes_at project.kernels k) (values_by p)) (sym e) words;
}

module _ (project : Project) (given : GivenProject) (settled : List (Option Streams)) (next : ℕ)
    (streams : Streams) (within : next < length settled) (unknown : get_or settled next None ≡ None)
  where
    abbrev new : List (Option Streams)
    new = slice_set settled next (Some streams)

    abbrev links : List LinkEnds
    links = project.joints.links

    other : (k : ℕ) → (k ≡ next → ⊥) → get_or new k None ≡ get_or settled k None
    other k differ = get_or-set_other settled next k (Some streams) None differ

    -- the words of a kernel that are known stay as they are
    stay : (k : ℕ) → IsDone settled k → get_or new k None ≡ get_or settled k None
    stay k done =
        other k (λ e. not_done (get_or settled k None) done (ap (λ j. get_or settled j None) e ∙ unknown))

    still_fed : (k : ℕ) → AreFed links settled k → AreFed links new k
    still_fed k fed i d l to =
        let done = fed i d l to in
        ap is_some (stay (get_or links i d).from.kernel done) ∙ done

    -- so does what comes to a kernel
    still_solves : (k : ℕ) (val : Values) → AreFed links settled k
        → StreamEquations (nodes_at project.kernels k)
        (run_of project given (settled_values settled) k) val
        → StreamEquations (nodes_at project.kernels k)
        (run_of project given (settled_values new) k) val
    still_solves k val fed =
        still_satisfied (nodes_at project.kernels k) (run_of project given (settled_values settled) k)
        (run_of project given (settled_values new) k)
        (same_fed project given (settled_values settled) (settled_values new) k same_output) val
      where
        same_output : (n : ℕ) (output : PortAt) → link_to links (port_at k n) ≡ Some output
            → words_of project.kernels given (settled_values settled) output
            ≡ words_of project.kernels given (settled_values new) output
        same_output n output e =
            let done : IsDone settled output.kernel =
            of_link (λ (l : LinkEnds). l.to.kernel ≡ k → IsDone settled l.from.kernel) links
            (port_at k n) output fed e refl in
            ap (λ o. words_of project.kernels given (λ j. values_by o) output)
            (sym (stay output.kernel done))

    pub one_known : AreKnown project given settled → AreFed links settled next
        → streams.ticks ≡ given.ticks next
        → StreamEquations (nodes_at project.kernels next)
        (run_of project given (settled_values settled) next) (OneKernel.values_of streams)
        → AreWords (nodes_at project.kernels next) (OneKernel.values_of streams)
        → AreKnown project given new
    one_known known fed ticks equations words k h done = ⊎_elim
        (λ (e : k ≡ next).
        subst (IsKnown project given new) (sym e)
        (known_by project given new next (Some streams)
        (get_or-set_same settled next (Some streams) None within) (still_fed next fed)
        (still_solves next (OneKernel.values_of streams) fed equations) ticks words))
        (λ (differ : k ≡ next → ⊥).
        let is = known k h (sym (ap is_some (other k differ)) ∙ done) in
        known_by project given new k (get_or settled k None) (other k differ) (still_fed k is.fed)
        (still_solves k (settled_values settled k) is.fed is.equations) is.ticks is.words)
        (cases_eq k next)

-- the kernels that one of the lowest rank is linked from are done
pub fed_next : (project : Project) (settled : List (Option Streams)) (next : ℕ)
    → length settled ≡ length project.kernels
    → IsLeastOpen project.joints.ranks settled (length settled) next
    → AreFed project.joints.links settled next
fed_next project settled next size least i d l to =
    by_from (get_or project.joints.links i d) (all_links project i d l) to _ refl
  where
    by_from : (link : LinkEnds) → IsLink project link → link.to.kernel ≡ next
        → (o : Option Streams) → get_or settled link.from.kernel None ≡ o
        → IsDone settled link.from.kernel
    by_from link is to (Some streams) e = ap is_some e
    by_from link is to None e =
        let from = is.from.kernel in
        let rising = is.rising in
        let lower = least.least link.from.kernel (omega (arith, from, size)) e in
        let same = ap (slice_index project.joints.ranks) to in
        absurd (omega (arith, lower, rising, same))

-- how many kernels' words aren't known
abbrev pub open_count : List (Option Streams) → ℕ
open_count settled = sum_by (λ (o : Option Streams). if is_some o then 0 else 1) settled

-- ---- how many words

pub few_words : (kernels : List Kernel) (ticks : List ℕ) (k : ℕ)
    → length (nodes_at kernels k) * slice_index ticks k ≤ word_count kernels ticks
few_words [] ticks k = omega arith
few_words (kernel ∷ kernels) [] k = omega arith
few_words (kernel ∷ kernels) (t ∷ ticks) zero = omega arith
few_words (kernel ∷ kernels) (t ∷ ticks) (suc k) =
    let rest = few_words kernels ticks k in
    omega (arith, rest)

-- ---- all kernels

all_some : (done : List Streams) (k : ℕ) → get_or (map Some done) k None ≡ slice_get done k
all_some [] k = refl
all_some (streams ∷ done) zero = refl
all_some (streams ∷ done) (suc k) = all_some done k

some_within : (xs : List (Option Streams)) (k : ℕ) (streams : Streams)
    → get_or xs k None ≡ Some streams → k < length xs
some_within [] k streams e = absurd (cc)
some_within (x ∷ xs) zero streams e = omega arith
some_within (x ∷ xs) (suc k) streams e =
    let r = some_within xs k streams e in
    omega (arith, r)

module _ (project : Project) (given : GivenProject) (settled : List (Option Streams))
    (words : ProjectWords) (size : length settled ≡ length project.kernels)
    (known : AreKnown project given settled) (all : (k : ℕ) → k < length settled → IsDone settled k)
    (are : map Some words.kernels ≡ settled)
  where
    at : (k : ℕ) → get_or settled k None ≡ slice_get words.kernels k
    at k = ap (λ xs. get_or xs k None) (sym are) ∙ all_some words.kernels k

    same_values : settled_values settled ≡ values_of words
    same_values = λ i k. values_by (at k i)

    is_known : (k : ℕ) → k < length project.kernels → IsKnown project given settled k
    is_known k h = known k h (all k (omega (arith, h, size)))

    pub all_satisfied : ProjectEquations project given (values_of words)
    all_satisfied =
        subst (ProjectEquations project given) same_values (λ k h. (is_known k h).equations)

    pub all_fit : HaveWidths project.kernels words
    all_fit =
        subst (λ (values : ProjectValues). (k : ℕ) → k < length project.kernels
        → AreWords (nodes_at project.kernels k) (values k)) same_values (λ k h. (is_known k h).words)

    pub all_timed : HaveTicks given words
    all_timed k streams e =
        let is : get_or settled k None ≡ Some streams = at k ∙ e in
        let within = some_within settled k streams is in
        sym (ap ticks_by is) ∙ (is_known k (omega (arith, within, size))).ticks
