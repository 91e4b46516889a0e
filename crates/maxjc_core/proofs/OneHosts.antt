-- The streams of the CPU that a plan joins to kernels are one list.
use Rattle.std.proofs.Common.{◌≡◌, ◌∙◌, ℕ, zero, suc, Bool, true, false, List, [], ◌∷◌, arith, refl, ap, sym, subst}
use Rattle.std.specs.Prelude.{All}
use Rattle.std.specs.List.{AllZip, Contains}
use Rattle.std.proofs.lemmas.List.Elements.{All-head, All-tail}
use Rattle.std.proofs.lemmas.Option.{same_Some}
use Rattle.kernel_meaning.specs.declared.plan.End.TheVariants as E
use Rattle.kernel_meaning.specs.declared.plan.Join.{Join}
use Rattle.kernel_meaning.specs.declared.plan.Plan.{Plan}
use Rattle.manager_links.specs.Hosts.{HasType, IsHostInput, IsHostOutput, AreInputsBy, AreOutputsBy}
use Rattle.manager_links.specs.Lists.{AllDiffer}
use Rattle.manager_links.specs.Ports.{IsPortAt, type_of}
use Rattle.manager_links.specs.Rules.{MeetsRules}
use Rattle.manager_links.specs.Terminals.{ends_of, left_terminal, right_terminal}
use Rattle.manager_links.specs.declared.hosts.HostPort.{HostPort}
use Rattle.manager_links.specs.declared.project.Project.{Project}
use Rattle.manager_links.proofs.OnlyPort.{only_input, only_output}
use Rattle.manager_links.proofs.Pieces.{differ_head, differ_tail, in_more}
use Rattle.manager_links.proofs.Sides.{of_any}
use Rattle.stream_graph.specs.declared.kernel.Kernel.{Kernel}
use Rattle.stream_graph.specs.Kinds.{is_input, is_output}
use Rattle.maxjc_core.proofs.Lists.{zip_only}
use Rattle.maxjc_core.proofs.OneProject.{AreSame}

-- ---- joins

-- the terminals of a join are among those of all joins
rights-in : (joins : List Join) (join : Join) → Contains joins join
    → Contains (ends_of joins) (right_terminal join.right)
rights-in [] join (k, lt, is) = absurd (omega arith)
rights-in (x ∷ xs) join (zero, lt, is) =
    subst (λ (j : Join). Contains (ends_of (x ∷ xs)) (right_terminal j.right)) is
    (1, omega arith, refl)
rights-in (x ∷ xs) join (suc k, lt, is) =
    let t = right_terminal join.right in
    in_more t (left_terminal x.left) (right_terminal x.right ∷ ends_of xs)
    (in_more t (right_terminal x.right) (ends_of xs) (rights-in xs join (k, omega arith, is)))

lefts-in : (joins : List Join) (join : Join) → Contains joins join
    → Contains (ends_of joins) (left_terminal join.left)
lefts-in [] join (k, lt, is) = absurd (omega arith)
lefts-in (x ∷ xs) join (zero, lt, is) =
    subst (λ (j : Join). Contains (ends_of (x ∷ xs)) (left_terminal j.left)) is
    (0, omega arith, refl)
lefts-in (x ∷ xs) join (suc k, lt, is) =
    let t = left_terminal join.left in
    in_more t (left_terminal x.left) (right_terminal x.right ∷ ends_of xs)
    (in_more t (right_terminal x.right) (ends_of xs) (lefts-in xs join (k, omega arith, is)))

-- where all terminals differ, joins with one right end are one
right-once : (joins : List Join) (j k : Join) → AllDiffer (ends_of joins) → Contains joins j
    → Contains joins k → j.right ≡ k.right → j ≡ k
right-once [] j k differ (n, lt, is) other e = absurd (omega arith)
right-once (x ∷ xs) j k differ (zero, lt, is) (zero, gt, too) e = sym is ∙ too
right-once (x ∷ xs) j k differ (zero, lt, is) (suc n, gt, too) e =
    absurd (differ_head (right_terminal x.right) (ends_of xs)
    (differ_tail (left_terminal x.left) (right_terminal x.right ∷ ends_of xs) differ)
    (subst (Contains (ends_of xs)) (ap right_terminal (sym e ∙ ap (λ (j : Join). j.right) (sym is)))
    (rights-in xs k (n, omega arith, too))))
right-once (x ∷ xs) j k differ (suc n, lt, is) (zero, gt, too) e =
    absurd (differ_head (right_terminal x.right) (ends_of xs)
    (differ_tail (left_terminal x.left) (right_terminal x.right ∷ ends_of xs) differ)
    (subst (Contains (ends_of xs)) (ap right_terminal (e ∙ ap (λ (j : Join). j.right) (sym too)))
    (rights-in xs j (n, omega arith, is))))
right-once (x ∷ xs) j k differ (suc n, lt, is) (suc m, gt, too) e =
    right-once xs j k
    (differ_tail (right_terminal x.right) (ends_of xs)
    (differ_tail (left_terminal x.left) (right_terminal x.right ∷ ends_of xs) differ))
    (n, omega arith, is) (m, omega arith, too) e

left-once : (joins : List Join) (j k : Join) → AllDiffer (ends_of joins) → Contains joins j
    → Contains joins k → j.left ≡ k.left → j ≡ k
left-once [] j k differ (n, lt, is) other e = absurd (omega arith)
left-once (x ∷ xs) j k differ (zero, lt, is) (zero, gt, too) e = sym is ∙ too
left-once (x ∷ xs) j k differ (zero, lt, is) (suc n, gt, too) e =
    absurd (differ_head (left_terminal x.left) (right_terminal x.right ∷ ends_of xs) differ
    (in_more (left_terminal x.left) (right_terminal x.right) (ends_of xs)
    (subst (Contains (ends_of xs)) (ap left_terminal (sym e ∙ ap (λ (j : Join). j.left) (sym is)))
    (lefts-in xs k (n, omega arith, too)))))
left-once (x ∷ xs) j k differ (suc n, lt, is) (zero, gt, too) e =
    absurd (differ_head (left_terminal x.left) (right_terminal x.right ∷ ends_of xs) differ
    (in_more (left_terminal x.left) (right_terminal x.right) (ends_of xs)
    (subst (Contains (ends_of xs)) (ap left_terminal (e ∙ ap (λ (j : Join). j.left) (sym too)))
    (lefts-in xs j (n, omega arith, is)))))
left-once (x ∷ xs) j k differ (suc n, lt, is) (suc m, gt, too) e =
    left-once xs j k
    (differ_tail (right_terminal x.right) (ends_of xs)
    (differ_tail (left_terminal x.left) (right_terminal x.right ∷ ends_of xs) differ))
    (n, omega arith, is) (m, omega arith, too) e

-- ---- streams

-- streams of one name, port and type are one
same-host : (kernels : List Kernel) (a b : HostPort) → HasType kernels a → HasType kernels b
    → a.name ≡ b.name → a.port ≡ b.port → a ≡ b
same-host kernels a b of other name port =
    let t : a.t ≡ b.t =
    same_Some a.t b.t (sym of ∙ ap (type_of kernels) port ∙ other) in
    λ i. record { name = name i; port = port i; t = t i }

-- a stream of a name with its type
abbrev IsInput : List Kernel → List Join → List ℕ → HostPort → Type 0
IsInput kernels joins name host = IsHostInput kernels joins name host × HasType kernels host

abbrev IsOutput : List Kernel → List Join → List ℕ → HostPort → Type 0
IsOutput kernels joins name host = IsHostOutput kernels joins name host × HasType kernels host

one-input : (kernels : List Kernel) (joins : List Join) → AllDiffer (ends_of joins)
    → (name : List ℕ) (a b : HostPort) → IsInput kernels joins name a
    → IsInput kernels joins name b → a ≡ b
one-input kernels joins differ name a b p q =
    let x = of_any (λ join. (join.right ≡ E.Cpu name) × IsPortAt kernels is_input join.left a.port) joins p.0.joined in
    let y = of_any (λ join. (join.right ≡ E.Cpu name) × IsPortAt kernels is_input join.left b.port) joins q.0.joined in
    let join = right-once joins x.0 y.0 differ x.1 y.1 (x.2.0 ∙ sym y.2.0) in
    same-host kernels a b p.1 q.1 (p.0.named ∙ sym q.0.named)
    (only_input kernels y.0.left a.port b.port
    (subst (λ (j : Join). IsPortAt kernels is_input j.left a.port) join x.2.1) y.2.1)

one-output : (kernels : List Kernel) (joins : List Join) → AllDiffer (ends_of joins)
    → (name : List ℕ) (a b : HostPort) → IsOutput kernels joins name a
    → IsOutput kernels joins name b → a ≡ b
one-output kernels joins differ name a b p q =
    let x = of_any (λ join. (join.left ≡ E.Cpu name) × IsPortAt kernels is_output join.right a.port) joins p.0.joined in
    let y = of_any (λ join. (join.left ≡ E.Cpu name) × IsPortAt kernels is_output join.right b.port) joins q.0.joined in
    let join = left-once joins x.0 y.0 differ x.1 y.1 (x.2.0 ∙ sym y.2.0) in
    same-host kernels a b p.1 q.1 (p.0.named ∙ sym q.0.named)
    (only_output kernels y.0.right a.port b.port
    (subst (λ (j : Join). IsPortAt kernels is_output j.right a.port) join x.2.1) y.2.1)

-- what belongs to names, with what holds of each
zip-with : {A B : Type 0} (R : A → B → Type 0) (P : B → Type 0) (xs : List A) (ys : List B)
    → AllZip R xs ys → All P ys → AllZip (λ x y. R x y × P y) xs ys
zip-with R P [] [] zip each = tt
zip-with R P [] (y ∷ ys) zip each = absurd zip
zip-with R P (x ∷ xs) [] zip each = absurd zip
zip-with R P (x ∷ xs) (y ∷ ys) zip each =
    ((zip.0, All-head P y ys each), zip-with R P xs ys zip.1 (All-tail P y ys each))

inputs-by : (managed : Bool) (plan : Plan) (kernels : List Kernel) (xs ys : List HostPort)
    → (managed ≡ true → AllDiffer (ends_of plan.joins)) → AreInputsBy managed plan kernels xs
    → AreInputsBy managed plan kernels ys → All (HasType kernels) xs → All (HasType kernels) ys
    → xs ≡ ys
inputs-by true plan kernels xs ys differ p q typed too =
    zip_only (IsInput kernels plan.joins) plan.from_cpu xs ys
    (one-input kernels plan.joins (differ refl))
    (zip-with (IsHostInput kernels plan.joins) (HasType kernels) plan.from_cpu xs p typed)
    (zip-with (IsHostInput kernels plan.joins) (HasType kernels) plan.from_cpu ys q too)
inputs-by false plan kernels xs ys differ p q typed too = p ∙ sym q

outputs-by : (managed : Bool) (plan : Plan) (kernels : List Kernel) (xs ys : List HostPort)
    → (managed ≡ true → AllDiffer (ends_of plan.joins)) → AreOutputsBy managed plan kernels xs
    → AreOutputsBy managed plan kernels ys → All (HasType kernels) xs → All (HasType kernels) ys
    → xs ≡ ys
outputs-by true plan kernels xs ys differ p q typed too =
    zip_only (IsOutput kernels plan.joins) plan.to_cpu xs ys
    (one-output kernels plan.joins (differ refl))
    (zip-with (IsHostOutput kernels plan.joins) (HasType kernels) plan.to_cpu xs p typed)
    (zip-with (IsHostOutput kernels plan.joins) (HasType kernels) plan.to_cpu ys q too)
outputs-by false plan kernels xs ys differ p q typed too = p ∙ sym q

-- the streams of a project that is built by another one's plan, from its kernels, are its own
pub one-inputs : (p q : Project) → AreSame p q
    → AreInputsBy p.plan.manager p.plan p.kernels p.joints.inputs
    → AreInputsBy q.plan.manager q.plan q.kernels q.joints.inputs
    → (q.plan.manager ≡ true → MeetsRules q.plan q.kernels) → p.joints.inputs ≡ q.joints.inputs
one-inputs p q same is too rules =
    inputs-by q.plan.manager q.plan q.kernels p.joints.inputs q.joints.inputs
    (λ managed. (rules managed).once)
    (subst (λ ks. AreInputsBy q.plan.manager q.plan ks p.joints.inputs) same.kernels
    (subst (λ (r : Plan). AreInputsBy r.manager r p.kernels p.joints.inputs) same.plan is))
    too
    (subst (λ ks. All (HasType ks) p.joints.inputs) same.kernels p.whole.inputs.typed)
    q.whole.inputs.typed

pub one-outputs : (p q : Project) → AreSame p q
    → AreOutputsBy p.plan.manager p.plan p.kernels p.joints.outputs
    → AreOutputsBy q.plan.manager q.plan q.kernels q.joints.outputs
    → (q.plan.manager ≡ true → MeetsRules q.plan q.kernels) → p.joints.outputs ≡ q.joints.outputs
one-outputs p q same is too rules =
    outputs-by q.plan.manager q.plan q.kernels p.joints.outputs q.joints.outputs
    (λ managed. (rules managed).once)
    (subst (λ ks. AreOutputsBy q.plan.manager q.plan ks p.joints.outputs) same.kernels
    (subst (λ (r : Plan). AreOutputsBy r.manager r p.kernels p.joints.outputs) same.plan is))
    too
    (subst (λ ks. All (HasType ks) p.joints.outputs) same.kernels p.whole.outputs.typed)
    q.whole.outputs.typed
