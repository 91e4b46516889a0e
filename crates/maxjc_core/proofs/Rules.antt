-- A source that builds a project breaks no rule for which it would build none.
use Rattle.std.proofs.Common.{◌≡◌, ◌∙◌, ℕ, List, [], ◌∷◌, Err, true, false, inl, inr, sym, subst, arith}
use Rattle.std.specs.Prelude.{All}
use Rattle.std.specs.List.{Contains}
use Rattle.std.proofs.lemmas.List.Elements.{All-weaker}
use Rattle.std.proofs.lemmas.Option.{same_Some}
use Rattle.kernel_calls.specs.declared.call.Call.{Call}
use Rattle.kernel_meaning.specs.declared.plan.Made.{Made}
use Rattle.kernel_meaning.specs.declared.plan.Plan.{Plan}
use Rattle.kernel_meaning.specs.Answer.{calls_of, end_of}
use Rattle.manager_links.specs.declared.error.LinkError.{LinkError}
use Rattle.manager_links.specs.declared.project.Project.{Project}
use Rattle.manager_links.specs.Rules.{
  Refuses,
  MeetsRules,
  NamesDiffer,
  IsNameAgain,
  IsUnknown,
  IsUnlinked,
  IsHostToHost,
  HasTwoTypes,
  kernel_names,
}
use Rattle.manager_links.specs.Terminals.{ends_of, terminals}
use Rattle.manager_links.proofs.Pieces.{zip_get}
use Rattle.maxj_syntax.specs.Tree.{ClassTree}
use Rattle.project_build.specs.Building.{run_for, IsKernelFor, AreKernelsFor, IsProjectOf}
use Rattle.project_build.specs.Causes.{LacksKernel, LacksOne, LacksProject}
use Rattle.project_build.specs.declared.error.ProjectError.{ProjectError}
use Rattle.stream_graph.specs.declared.error.GraphError.{GraphError}
use Rattle.stream_graph.specs.declared.error.GraphError.TheVariants as E
use Rattle.stream_graph.specs.declared.kernel.Kernel.{Kernel}
use Rattle.stream_graph.specs.Kernels.{IsSound, Refuses as RefusesCalls}
use Rattle.stream_graph.specs.Ports.{AllDiffer, FirstAgain}
use Rattle.maxjc_core.proofs.Lists.{none_first, none_again}
use Rattle.maxjc_core.proofs.OneProject.{ok_same, one_kernels}

-- ---- the rules of kernels

never-again : (so_far calls : List Call) (name : List ℕ) → AllDiffer so_far calls
    → FirstAgain so_far calls name → ⊥
never-again so_far [] name differ again = again
never-again so_far (call ∷ calls) name differ (inl a) =
    let both : true ≡ false = sym a.0 ∙ differ.0 in
    absurd (cc)
never-again so_far (call ∷ calls) name differ (inr b) =
    never-again (call ∷ so_far) calls name differ.1 b.1

not-refused : (calls : List Call) (error : GraphError) → IsSound calls → RefusesCalls calls error → ⊥
not-refused calls (E.TooManyNodes n) s r = let few = s.few in let many = r.1 in omega arith
not-refused calls (E.SamePort name) s r = never-again [] calls name s.names r.1
not-refused calls (E.EmptyChain n) s r = s.chains n r.2.holds
not-refused calls (E.ConnectedTwice n) s r = s.once n r.3.holds
not-refused calls (E.Unconnected n) s r = s.connected n r.4.holds
not-refused calls (E.OffsetRange ticks) s r = r
not-refused calls E.NoMemory s r = r

-- ---- the rules of joins

names-kept : (plan : Plan) (kernels : List Kernel) (name : List ℕ) → NamesDiffer plan kernels
    → IsNameAgain plan kernels name → ⊥
names-kept plan kernels name differ (IsNameAgain.of_kernel again) =
    none_again (kernel_names kernels) name differ.of_kernels again
names-kept plan kernels name differ (IsNameAgain.of_stream_from kernels_differ again) =
    none_again plan.from_cpu name differ.from_cpu again
names-kept plan kernels name differ (IsNameAgain.of_stream_to kernels_differ from_differ again) =
    none_again plan.to_cpu name differ.to_cpu again

-- what is named isn't unknown
all-known : {A : Type 0} (named items : List A) → All (Contains named) items
    → All (λ item. (Contains named item → ⊥) → ⊥) items
all-known named items all =
    All-weaker (Contains named) (λ item. (Contains named item → ⊥) → ⊥) (λ item is none. none is) items
    all

joins-kept : (plan : Plan) (kernels : List Kernel) (error : LinkError) → MeetsRules plan kernels
    → Refuses plan kernels error → ⊥
joins-kept plan kernels _ m (Refuses.same_name again) = names-kept plan kernels _ m.names again
joins-kept plan kernels _ m (Refuses.kernel_count names many) = many m.few
joins-kept plan kernels _ m (Refuses.unknown_port names few first said) =
    none_first (IsUnknown plan kernels) (ends_of plan.joins) _
    (all-known (terminals plan kernels) (ends_of plan.joins) m.known) first
joins-kept plan kernels _ m (Refuses.linked_twice names few known again) =
    none_again (ends_of plan.joins) _ m.once again
joins-kept plan kernels _ m (Refuses.host_to_host names few known once first said) =
    none_first IsHostToHost plan.joins _ m.hosts first
joins-kept plan kernels _ m (Refuses.type_differs names few known once hosts first) =
    none_first (HasTwoTypes kernels) plan.joins _ m.types first
joins-kept plan kernels _ m (Refuses.unlinked names few known once hosts types first) =
    none_first (IsUnlinked plan) (terminals plan kernels) _
    (all-known (ends_of plan.joins) (terminals plan kernels) m.linked) first
joins-kept plan kernels _ m (Refuses.kernel_loop names few known once hosts types linked loop) =
    m.no_loop _ loop

-- ---- what a source builds

-- a kernel that is built isn't lacking
kernel-kept : (classes : List ClassTree) (made : Made) (kernel : Kernel) (error : ProjectError)
    → IsKernelFor classes made kernel → LacksKernel classes made error → ⊥
kernel-kept classes made kernel _ is (LacksKernel.run class error found ends) =
    let same : class ≡ is.class = same_Some class is.class (sym found ∙ is.found) in
    let both = sym (subst (λ c. end_of (run_for c made) ≡ Err error) same ends) ∙ is.built.ends in
    absurd (cc)
kernel-kept classes made kernel _ is (LacksKernel.rule class error found ends refuses) =
    let same : class ≡ is.class = same_Some class is.class (sym found ∙ is.found) in
    not-refused (calls_of (run_for is.class made)) error is.built.sound
    (subst (λ c. RefusesCalls (calls_of (run_for c made)) error) same refuses)

-- nor is one of kernels that are all built
kernels-kept : (classes : List ClassTree) (mades : List Made) (kernels : List Kernel)
    (error : ProjectError) → AreKernelsFor classes mades kernels → LacksOne classes mades error → ⊥
kernels-kept classes mades kernels error are one =
    let there = zip_get (IsKernelFor classes) mades kernels one.number one.made are one.here in
    kernel-kept classes one.made there.0 error there.2 one.lacks

pub not-lacking : (classes : List ClassTree) (project : Project) (error : ProjectError)
    → IsProjectOf classes project → LacksProject classes error → ⊥
not-lacking classes project _ is (LacksProject.plan error refused) =
    let both = sym refused ∙ is.planned in
    absurd (cc)
not-lacking classes project error is (LacksProject.kernel plan planned one) =
    let same : plan ≡ project.plan = ok_same (sym planned ∙ is.planned) in
    kernels-kept classes project.plan.kernels project.kernels error is.kernels
    (subst (λ (p : Plan). LacksOne classes p.kernels error) same one)
not-lacking classes project _ is (LacksProject.links plan kernels error planned are manager refuses) =
    let same : plan ≡ project.plan = ok_same (sym planned ∙ is.planned) in
    let own : AreKernelsFor classes project.plan.kernels kernels =
    subst (λ (p : Plan). AreKernelsFor classes p.kernels kernels) same are in
    let kernels_same = one_kernels classes project.plan.kernels kernels project.kernels own is.kernels in
    joins-kept project.plan project.kernels error
    (is.rules (subst (λ (p : Plan). p.manager ≡ true) same manager))
    (subst (λ ks. Refuses project.plan ks error) kernels_same
    (subst (λ (p : Plan). Refuses p kernels error) same refuses))
