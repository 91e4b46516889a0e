-- Families that satisfy the equations of a project of causal kernels are one.
use Rattle.std.proofs.Common.{◌≡◌, ℕ, zero, suc, ◌+◌, ◌≤◌, ◌<◌, Bool, List, [], ◌∷◌, length, get_or, Option, Some, None, refl, sym, ap, ◌∙◌, subst, arith, ⊎_elim}
use Rattle.std.specs.Prelude.{All, ℤ, pos, slice_get, slice_index}
use Rattle.std.specs.Option.{option_map_or}
use Rattle.std.proofs.lemmas.Bool.{cases_lt}
use Rattle.std.proofs.lemmas.Option.{same_Some, slice_get_read}
use Rattle.std.proofs.lemmas.List.Elements.{All-from_get_or}
use Rattle.stream_graph.specs.declared.kernel.Kernel.{Kernel}
use Rattle.stream_graph.specs.declared.node.Node.{Node}
use Rattle.stream_graph.specs.LookUps.{kind_at, operands_at, control_of}
use Rattle.offset_edges.specs.Edges.{edges_of}
use Rattle.offset_edges.specs.Walks.{IsCausal}
use Rattle.stream_graph.proofs.NodeLemmas.{IsOrderly, orderly}
use Rattle.stream_equations.specs.Equations.{Values, enabled, enabled_by, is_one}
use Rattle.stream_graph.specs.Kinds.{control_place, operand_in}
use Rattle.stream_equations.specs.Words.{words_before}
use Rattle.kernel_family.specs.Laws as OneKernel
use Rattle.manager_links.specs.declared.links.PortAt.{PortAt}
use Rattle.manager_links.specs.declared.project.Project.{Project}
use Rattle.project_streams.specs.Streams.{GivenProject, ProjectValues, ProjectEquations, nodes_at, link_to, words_of, run_of}
use Rattle.project_words.specs.Family.{HasOneFamily}
use Rattle.project_words.specs.Given.{AreCausal}
use Rattle.project_words.specs.Sources.{port_at}
use Rattle.project_words.proofs.Feeding.{of_link}
use Rattle.project_words.proofs.Knowing.{same_fed}
use Rattle.project_words.proofs.Ports.{IsThere, IsLink, all_at, all_links}
use Rattle.project_words.proofs.Runs.{still_satisfied}

-- ---- controls

-- a control is among the operands
control_within : (place : Option ℕ) (operands : List ℕ) (c count : ℕ) → All (λ u. u < count) operands
    → operand_in place operands ≡ Some c → c < count
control_within None operands c count all e = absurd (cc)
control_within (Some place) operands c count all e = all_at (λ u. u < count) operands place c all e

-- nodes have the same words in two families
abbrev AreSame : List Node → Values → Values → Type 0
AreSame nodes one other = (n : ℕ) (t : ℤ) → n < length nodes → one n t ≡ other n t

enabled_same : (nodes : List Node) → IsOrderly nodes → (one other : Values) → AreSame nodes one other
    → (n t : ℕ) → n < length nodes → enabled nodes one n t ≡ enabled nodes other n t
enabled_same nodes o one other same n t h = by_control (control_of nodes n) refl
  where
    by_control : (control : Option ℕ) → control_of nodes n ≡ control → enabled_by one control t ≡ enabled_by other control t
    by_control None e = refl
    by_control (Some c) e =
        let within =
        control_within (control_place (kind_at nodes n)) (operands_at nodes n) c (length nodes)
        (All-from_get_or (λ u. u < length nodes) (operands_at nodes n) 0 (λ i l. o.operands n i h l)) e in
        ap is_one (same c (pos t) within)

before_same : (f g : ℕ → Bool) (v w : ℕ → Option ℕ) (t : ℕ) → ((s : ℕ) → f s ≡ g s) → ((s : ℕ) → v s ≡ w s)
    → words_before f v t ≡ words_before g w t
before_same f g v w t h k = λ i. words_before (λ s. h s i) (λ s. k s i) t

-- ---- kernels

-- the kernel of a number
record IsKernelAt (kernels : List Kernel) (k : ℕ) : Type 0 where
  kernel : Kernel
  at : slice_get kernels k ≡ Some kernel

kernel_at : (kernels : List Kernel) (k : ℕ) → k < length kernels → IsKernelAt kernels k
kernel_at [] k h = absurd (omega (arith, h))
kernel_at (kernel ∷ kernels) zero h = record { kernel = kernel; at = refl }
kernel_at (kernel ∷ kernels) (suc k) h =
    let r = kernel_at kernels k (omega (arith, h)) in
    record { kernel = r.kernel; at = r.at }

nodes_are : (kernels : List Kernel) (k : ℕ) (kernel : Kernel) → slice_get kernels k ≡ Some kernel → nodes_at kernels k ≡ kernel.nodes
nodes_are kernels k kernel at = ap (λ o. option_map_or (λ (kernel : Kernel). kernel.nodes) o []) at

-- each kernel has one family
abbrev pub EachHasOne : List Kernel → Type 0
EachHasOne kernels = (k : ℕ) (kernel : Kernel) → slice_get kernels k ≡ Some kernel → OneKernel.HasOneFamily kernel.nodes

-- one more kernel, which was read at its number, has one
pub one_more : (kernels xs : List Kernel) (i : ℕ) (item : Kernel) → xs ≡ kernels → i < length xs
    → item ≡ get_or xs i item → OneKernel.HasOneFamily item.nodes
    → ((k : ℕ) (kernel : Kernel) → k < i → slice_get kernels k ≡ Some kernel → OneKernel.HasOneFamily kernel.nodes)
    → (k : ℕ) (kernel : Kernel) → k < i + 1 → slice_get kernels k ≡ Some kernel → OneKernel.HasOneFamily kernel.nodes
one_more kernels xs i item same h is has before k kernel b at = ⊎_elim
    (λ (l : k < i). before k kernel l at)
    (λ (g : i ≤ k).
    let e : k ≡ i = omega (arith, g, b) in
    let got : slice_get kernels i ≡ Some item =
    ap (λ ys. slice_get ys i) (sym same) ∙ slice_get_read xs (length xs) i item refl h is in
    let item_is : item ≡ kernel = same_Some item kernel (sym got ∙ ap (slice_get kernels) (sym e) ∙ at) in
    subst (λ (x : Kernel). OneKernel.HasOneFamily x.nodes) item_is has)
    (cases_lt k i)

module _ (project : Project) (each : EachHasOne project.kernels) (given : GivenProject) (one other : ProjectValues)
    (causal : AreCausal project.kernels) (first : ProjectEquations project given one) (second : ProjectEquations project given other)
  where
    abbrev Same : ℕ → Type 0
    Same k = AreSame (nodes_at project.kernels k) (one k) (other k)

    -- the words of a port whose kernel has the same words
    same_words : (port : PortAt) → IsThere project.kernels port → Same port.kernel
        → words_of project.kernels given other port ≡ words_of project.kernels given one port
    same_words port h same =
        let x = kernel_at project.kernels port.kernel h.kernel in
        let o : IsOrderly (nodes_at project.kernels port.kernel) =
        subst IsOrderly (sym (nodes_are project.kernels port.kernel x.kernel x.at)) (orderly x.kernel.nodes x.kernel.made) in
        before_same (enabled (nodes_at project.kernels port.kernel) (other port.kernel) port.node)
        (enabled (nodes_at project.kernels port.kernel) (one port.kernel) port.node)
        (λ t. other port.kernel port.node (pos t)) (λ t. one port.kernel port.node (pos t)) (given.ticks port.kernel)
        (λ t. sym (enabled_same (nodes_at project.kernels port.kernel) o (one port.kernel) (other port.kernel) same port.node t h.node))
        (λ t. sym (same port.node (pos t) h.node))

    -- a kernel has the same words where those do that it is linked from
    one_kernel : (k : ℕ) → k < length project.kernels
        → ((j : ℕ) → j < length project.kernels → slice_index project.joints.ranks j < slice_index project.joints.ranks k → Same j)
        → Same k
    one_kernel k h below n t l =
        let x = kernel_at project.kernels k h in
        let nodes = nodes_are project.kernels k x.kernel x.at in
        let has : OneKernel.HasOneFamily (nodes_at project.kernels k) =
        subst OneKernel.HasOneFamily (sym nodes) (each k x.kernel x.at) in
        let is_causal : IsCausal (edges_of (nodes_at project.kernels k)) =
        subst (λ ns. IsCausal (edges_of ns)) (sym nodes) (causal k x.kernel x.at) in
        has (run_of project given one k) (one k) (other k) is_causal (first k h)
        (still_satisfied (nodes_at project.kernels k) (run_of project given other k) (run_of project given one k)
        (same_fed project given other one k same_output) (other k) (second k h)) n t l
      where
        same_output : (n : ℕ) (output : PortAt) → link_to project.joints.links (port_at k n) ≡ Some output
            → words_of project.kernels given other output ≡ words_of project.kernels given one output
        same_output n output e =
            let link = of_link (IsLink project) project.joints.links (port_at k n) output (all_links project) e in
            same_words output link.from (below output.kernel link.from.kernel link.rising)

    by_rank : (m k : ℕ) → k < length project.kernels → slice_index project.joints.ranks k < m → Same k
    by_rank zero k h l = absurd (omega (arith, l))
    by_rank (suc m) k h l = one_kernel k h (λ j within lower. by_rank m j within (omega (arith, l, lower)))

    all_same : (k n : ℕ) (t : ℤ) → k < length project.kernels → n < length (nodes_at project.kernels k) → one k n t ≡ other k n t
    all_same k n t h = by_rank (suc (slice_index project.joints.ranks k)) k h (omega arith) n t

pub one_family : (project : Project) → EachHasOne project.kernels → HasOneFamily project
one_family project each given one other causal first second = all_same project each given one other causal first second
