-- The classes of a source build one project: its plan, its kernels and its links.
use Rattle.std.proofs.Common.{◌≡◌, ◌∙◌, ◌≤◌, ℕ, List, [], Ok, length, sym, subst}
use Rattle.std.specs.Prelude.{ℤ, Result, IsTrue, filter}
use mathlib.Core.Bool.{Bool-set}
use Rattle.std.proofs.Math.Bridge.{le_prop}
use Rattle.std.proofs.Math.Logic.{∥∥₁_prop}
use Rattle.std.proofs.lemmas.Option.{same_Some}
use Rattle.kernel_calls.specs.Laws.{is_port_name}
use Rattle.kernel_meaning.specs.declared.error.EvalError.{EvalError}
use Rattle.kernel_meaning.specs.declared.plan.Join.{Join}
use Rattle.kernel_meaning.specs.declared.plan.Made.{Made}
use Rattle.kernel_meaning.specs.declared.plan.Plan.{Plan}
use Rattle.kernel_meaning.specs.Answer.{calls_of}
use Rattle.kernel_schedule.proofs.Unique.{one_list}
use Rattle.manager_links.specs.declared.links.LinkEnds.{LinkEnds}
use Rattle.manager_links.specs.declared.links.Links.{Links}
use Rattle.manager_links.specs.declared.project.Project.{Project}
use Rattle.manager_links.specs.Joined.{is_link, IsLinkOf, AreJoined}
use Rattle.manager_links.specs.Links.{AreLinks, AreLinksOf}
use Rattle.manager_links.proofs.OnlyPort.{only_input, only_output}
use Rattle.maxj_syntax.specs.Tree.{ClassTree}
use Rattle.project_build.specs.Building.{run_for, IsKernelFor, AreKernelsFor, IsProjectOf}
use Rattle.stream_graph.specs.declared.kernel.Kernel.{Kernel}
use Rattle.stream_graph.specs.declared.node.Node.{Node}
use Rattle.stream_graph.specs.Kernels.{AreKernel}
use Rattle.stream_graph.specs.Nodes.{later, AreNodes}
use Rattle.maxjc_core.proofs.Lists.{zip_only}

-- ---- kernels

kernel_by : (a b : List ℕ) (xs ys : List Node) (p : a ≡ b) (q : xs ≡ ys)
    (m : IsTrue (is_port_name a)) (n : IsTrue (is_port_name b)) (f : length xs ≤ 4096)
    (g : length ys ≤ 4096) (h : ∥ AreKernel xs ∥₁) (k : ∥ AreKernel ys ∥₁)
    → ◌≡◌ {A = Kernel} (record { name = a; nodes = xs; named = m; few = f; made = h })
    (record { name = b; nodes = ys; named = n; few = g; made = k })
kernel_by a b xs ys p q m n f g h k =
    subst (λ c. (n : IsTrue (is_port_name c))
    → ◌≡◌ {A = Kernel} (record { name = a; nodes = xs; named = m; few = f; made = h })
    (record { name = c; nodes = ys; named = n; few = g; made = k })) p
    (λ n. subst (λ zs. (g : length zs ≤ 4096) (k : ∥ AreKernel zs ∥₁)
    → ◌≡◌ {A = Kernel} (record { name = a; nodes = xs; named = m; few = f; made = h })
    (record { name = a; nodes = zs; named = n; few = g; made = k })) q
    (λ g k. λ i. record { name = a; nodes = xs; named = Bool-set _ _ m n i; few = le_prop f g i; made = ∥∥₁_prop h k i }) g k) n

same_kernel : (x y : Kernel) → x.name ≡ y.name → x.nodes ≡ y.nodes → x ≡ y
same_kernel x y p q = kernel_by x.name y.name x.nodes y.nodes p q x.named y.named x.few y.few x.made y.made

one_kernel : (classes : List ClassTree) (made : Made) (x y : Kernel) → IsKernelFor classes made x
    → IsKernelFor classes made y → x ≡ y
one_kernel classes made x y p q =
    let class : p.class ≡ q.class = same_Some p.class q.class (sym p.found ∙ q.found) in
    same_kernel x y (p.built.named ∙ sym q.built.named)
    (one_list (later [] (calls_of (run_for q.class made))) x.nodes y.nodes
    (subst (λ c. AreNodes (later [] (calls_of (run_for c made))) x.nodes) class p.built.nodes)
    q.built.nodes)

pub one_kernels : (classes : List ClassTree) (mades : List Made) (xs ys : List Kernel)
    → AreKernelsFor classes mades xs → AreKernelsFor classes mades ys → xs ≡ ys
one_kernels classes mades xs ys p q =
    zip_only (IsKernelFor classes) mades xs ys (one_kernel classes) p q

-- ---- links

only_link : (kernels : List Kernel) (join : Join) (a b : LinkEnds) → IsLinkOf kernels join a
    → IsLinkOf kernels join b → a ≡ b
only_link kernels join a b p q = λ i. record {
  from = only_output kernels join.right a.from b.from p.from q.from i;
  to = only_input kernels join.left a.to b.to p.to q.to i;
}

only_links : (kernels : List Kernel) (joins : List Join) (xs ys : List LinkEnds)
    → AreJoined kernels joins xs → AreJoined kernels joins ys → xs ≡ ys
only_links kernels joins xs ys p q =
    zip_only (IsLinkOf kernels) (filter is_link joins) xs ys (only_link kernels) p q

-- ---- projects

-- two projects with the same plan, kernels and links
pub record AreSame (p q : Project) : Type 0 where
  pub plan : p.plan ≡ q.plan
  pub kernels : p.kernels ≡ q.kernels
  pub links : p.joints.links ≡ q.joints.links

-- answers that are plans are one plan
pub ok_same : {a b : Plan} → ◌≡◌ {A = Result Plan EvalError} (Ok a) (Ok b) → a ≡ b
ok_same e = cc

pub one_project : (classes : List ClassTree) (p q : Project) → IsProjectOf classes p
    → IsProjectOf classes q → AreSame p q
one_project classes p q is too =
    let plan : p.plan ≡ q.plan = ok_same (sym is.planned ∙ too.planned) in
    let kernels : p.kernels ≡ q.kernels =
    one_kernels classes q.plan.kernels p.kernels q.kernels
    (subst (λ (r : Plan). AreKernelsFor classes r.kernels p.kernels) plan is.kernels) too.kernels in
    let joined : AreJoined q.kernels q.plan.joins p.joints.links =
    subst (λ ks. AreJoined ks q.plan.joins p.joints.links) kernels
    (subst (λ (r : Plan). AreJoined p.kernels r.joins p.joints.links) plan p.whole.links) in
    record {
      plan = plan;
      kernels = kernels;
      links = only_links q.kernels q.plan.joins p.joints.links q.joints.links joined q.whole.links;
    }

-- what the links of one are the links of the other are
pub links_along : (p q : Project) (times : List (List ℤ)) (made : Links) → AreSame p q
    → AreLinksOf p times made → AreLinksOf q times made
links_along p q times made same are =
    subst (λ ks. AreLinks ks q.plan.joins q.joints.links times made) same.kernels
    (subst (λ (r : Plan). AreLinks p.kernels r.joins q.joints.links times made) same.plan
    (subst (λ links. AreLinks p.kernels p.plan.joins links times made) same.links are))
