-- The ends of joins among the terminals.
use Rattle.std.proofs.Common.{◌≡◌, ℕ, ◌+◌, ◌<◌, true, List, [], ◌∷◌, ◌++◌, length, map, take, drop, get_or, append_assoc, refl, sym, ap, ◌∙◌, subst}
use Rattle.std.specs.Prelude.{All}
use Rattle.std.specs.List.{AllZip, Contains}
use Rattle.std.proofs.lemmas.List.{length-map, get_or-map}
use Rattle.std.proofs.lemmas.List.Elements.{All-nil, All-cons, All-weaker, Contains-append_left, Contains-append_right, All-push}
use Rattle.kernel_meaning.specs.declared.plan.End.{End}
use Rattle.kernel_meaning.specs.declared.plan.End.TheVariants as E
use Rattle.kernel_meaning.specs.declared.plan.Join.{Join}
use Rattle.kernel_meaning.specs.declared.plan.Made.{Made}
use Rattle.kernel_meaning.specs.declared.plan.Plan.{Plan}
use Rattle.stream_graph.specs.declared.kernel.Kernel.{Kernel}
use Rattle.manager_links.specs.declared.ends.Ends.{Ends}
use Rattle.manager_links.specs.declared.error.LinkError.{LinkError}
use Rattle.manager_links.specs.declared.error.LinkError.TheVariants as L
use Rattle.manager_links.specs.Joined.{is_of_kernel}
use Rattle.manager_links.specs.Lists.{IsFirst}
use Rattle.manager_links.specs.Numbers.{AreEnds}
use Rattle.manager_links.specs.Plans.{IsKnown, IsManaged, AreKernelsOf}
use Rattle.manager_links.specs.Rules.{IsUnknown}
use Rattle.manager_links.specs.Steps.{IsReady, IsOfThese, IsPortOfKernel, SaysUnknown}
use Rattle.manager_links.specs.Terminals.{Terminal, FromCpu, ToCpu, left_terminal, right_terminal, ends_of, ports_from, terminals}
use Rattle.manager_links.proofs.Pieces.{split_read, take_read, stands_in}

-- ---- lists of ends

pub ends-append : (one other : List Join) → ends_of (one ++ other) ≡ ends_of one ++ ends_of other
ends-append [] other = refl
ends-append (join ∷ one) other =
    ap (λ rest. left_terminal join.left ∷ right_terminal join.right ∷ rest) (ends-append one other)

-- the ends before a join, its own, and those behind it
pub ends_split : (joins : List Join) (i : ℕ) (join : Join) → i < length joins → join ≡ get_or joins i join
    → ends_of joins ≡ ends_of (take i joins)
    ++ (left_terminal join.left ∷ right_terminal join.right ∷ ends_of (drop (i + 1) joins))
ends_split joins i join lt is =
    ap ends_of (split_read joins i join lt is) ∙ ends-append (take i joins) (join ∷ drop (i + 1) joins)

pub ends_take : (joins : List Join) (i : ℕ) (join : Join) → i < length joins → join ≡ get_or joins i join
    → ends_of (take (i + 1) joins)
    ≡ (ends_of (take i joins) ++ left_terminal join.left ∷ []) ++ right_terminal join.right ∷ []
ends_take joins i join lt is =
    ap ends_of (take_read joins i join lt is) ∙ ends-append (take i joins) (join ∷ [])
    ∙ sym (append_assoc (ends_of (take i joins)) (left_terminal join.left ∷ []) (right_terminal join.right ∷ []))

-- the left end of a join is the first of which a fact holds, or else its right one
pub first_left : (P : Terminal → Type 0) (joins : List Join) (i : ℕ) (join : Join) → i < length joins
    → join ≡ get_or joins i join → All (λ end. P end → ⊥) (ends_of (take i joins))
    → P (left_terminal join.left) → IsFirst P (ends_of joins) (left_terminal join.left)
first_left P joins i join lt is none holds = record {
  before = ends_of (take i joins);
  after = right_terminal join.right ∷ ends_of (drop (i + 1) joins);
  split = ends_split joins i join lt is;
  none = none;
  holds = holds;
}

pub first_right : (P : Terminal → Type 0) (joins : List Join) (i : ℕ) (join : Join) → i < length joins
    → join ≡ get_or joins i join → All (λ end. P end → ⊥) (ends_of (take i joins))
    → (P (left_terminal join.left) → ⊥) → P (right_terminal join.right)
    → IsFirst P (ends_of joins) (right_terminal join.right)
first_right P joins i join lt is none not_left holds = record {
  before = ends_of (take i joins) ++ left_terminal join.left ∷ [];
  after = ends_of (drop (i + 1) joins);
  split = ends_split joins i join lt is
      ∙ sym (append_assoc (ends_of (take i joins)) (left_terminal join.left ∷ [])
      (right_terminal join.right ∷ ends_of (drop (i + 1) joins)));
  none = All-push (λ end. P end → ⊥) (ends_of (take i joins)) (left_terminal join.left) none not_left;
  holds = holds;
}

-- ---- ends by numbers

pub ends_known : (ends : List Terminal) (joins : List Join) (numbers : List Ends)
    → AllZip (AreEnds ends) joins numbers → All (Contains ends) (ends_of joins)
ends_known ends [] [] all = All-nil (Contains ends)
ends_known ends [] (n ∷ numbers) all = absurd all
ends_known ends (join ∷ joins) [] all = absurd all
ends_known ends (join ∷ joins) (n ∷ numbers) all =
    All-cons (Contains ends) (left_terminal join.left) (right_terminal join.right ∷ ends_of joins)
    (stands_in ends n.left (left_terminal join.left) all.0.left)
    (All-cons (Contains ends) (right_terminal join.right) (ends_of joins)
    (stands_in ends n.right (right_terminal join.right) all.0.right)
    (ends_known ends joins numbers all.1))

pub none_unknown : (plan : Plan) (kernels : List Kernel) (joins : List Join) (numbers : List Ends)
    → AllZip (AreEnds (terminals plan kernels)) joins numbers
    → All (λ end. IsUnknown plan kernels end → ⊥) (ends_of joins)
none_unknown plan kernels joins numbers all =
    All-weaker (Contains (terminals plan kernels)) (λ end. IsUnknown plan kernels end → ⊥)
    (λ end known unknown. unknown known) (ends_of joins)
    (ends_known (terminals plan kernels) joins numbers all)

-- ---- ends of a manager's plan

pub in_map : {A B : Type 0} (f : A → B) (xs : List A) (x : A) → Contains xs x → Contains (map f xs) (f x)
in_map f xs x (k, lt, is) =
    (k, subst (λ n. k < n) (sym (length-map xs f)) lt, get_or-map f xs k x (f x) lt ∙ ap f is)

pub from_known : (plan : Plan) (kernels : List Kernel) (name : List ℕ) → Contains plan.from_cpu name
    → Contains (terminals plan kernels) (FromCpu name)
from_known plan kernels name there =
    Contains-append_right (ports_from 0 kernels) (map FromCpu plan.from_cpu ++ map ToCpu plan.to_cpu) (FromCpu name)
    (Contains-append_left (map FromCpu plan.from_cpu) (map ToCpu plan.to_cpu) (FromCpu name)
    (in_map FromCpu plan.from_cpu name there))

pub to_known : (plan : Plan) (kernels : List Kernel) (name : List ℕ) → Contains plan.to_cpu name
    → Contains (terminals plan kernels) (ToCpu name)
to_known plan kernels name there =
    Contains-append_right (ports_from 0 kernels) (map FromCpu plan.from_cpu ++ map ToCpu plan.to_cpu) (ToCpu name)
    (Contains-append_right (map FromCpu plan.from_cpu) (map ToCpu plan.to_cpu) (ToCpu name)
    (in_map ToCpu plan.to_cpu name there))

-- an end of a manager's plan that names nothing is a kernel's
pub left_kernel : (plan : Plan) (kernels : List Kernel) (n : ℕ) (end : End) → IsKnown n plan.to_cpu end
    → IsUnknown plan kernels (left_terminal end) → is_of_kernel end ≡ true
left_kernel plan kernels n (E.Kernel number name) known unknown = refl
left_kernel plan kernels n (E.Cpu name) known unknown = absurd (unknown (to_known plan kernels name known))

pub right_kernel : (plan : Plan) (kernels : List Kernel) (n : ℕ) (end : End) → IsKnown n plan.from_cpu end
    → IsUnknown plan kernels (right_terminal end) → is_of_kernel end ≡ true
right_kernel plan kernels n (E.Kernel number name) known unknown = refl
right_kernel plan kernels n (E.Cpu name) known unknown = absurd (unknown (from_known plan kernels name known))

-- there are as many kernels as in the plan
pub same_count : (plan : Plan) (kernels : List Kernel) → AreKernelsOf plan kernels
    → length plan.kernels ≡ length kernels
same_count plan kernels named =
    sym (length-map plan.kernels (λ (made : Made). made.name))
    ∙ sym (ap length named) ∙ length-map kernels (λ (kernel : Kernel). kernel.name)

pub of_these : (n : ℕ) (streams : List (List ℕ)) (kernels : List Kernel) (end : End) → n ≡ length kernels
    → IsKnown n streams end → IsOfThese kernels end
of_these n streams kernels (E.Kernel number name) same known = subst (λ k. number < k) same known
of_these n streams kernels (E.Cpu name) same known = tt

pub left_known : (plan : Plan) (i : ℕ) (join : Join) → IsManaged plan → i < length plan.joins
    → join ≡ get_or plan.joins i join → IsKnown (length plan.kernels) plan.to_cpu join.left
left_known plan i join managed lt is =
    subst (λ (j : Join). IsKnown (length plan.kernels) plan.to_cpu j.left) (sym is) (managed.lefts i join lt)

pub right_known : (plan : Plan) (i : ℕ) (join : Join) → IsManaged plan → i < length plan.joins
    → join ≡ get_or plan.joins i join → IsKnown (length plan.kernels) plan.from_cpu join.right
right_known plan i join managed lt is =
    subst (λ (j : Join). IsKnown (length plan.kernels) plan.from_cpu j.right) (sym is) (managed.rights i join lt)

pub left_of_these : (plan : Plan) (kernels : List Kernel) (i : ℕ) (join : Join) → IsReady plan kernels
    → i < length plan.joins → join ≡ get_or plan.joins i join → IsOfThese kernels join.left
left_of_these plan kernels i join ready lt is =
    of_these (length plan.kernels) plan.to_cpu kernels join.left (same_count plan kernels ready.named)
    (left_known plan i join ready.managed lt is)

pub right_of_these : (plan : Plan) (kernels : List Kernel) (i : ℕ) (join : Join) → IsReady plan kernels
    → i < length plan.joins → join ≡ get_or plan.joins i join → IsOfThese kernels join.right
right_of_these plan kernels i join ready lt is =
    of_these (length plan.kernels) plan.from_cpu kernels join.right (same_count plan kernels ready.named)
    (right_known plan i join ready.managed lt is)

-- ---- what is said of the first end that names nothing

pub says_left : (plan : Plan) (kernels : List Kernel) (end : End) (error : LinkError)
    → IsFirst (IsUnknown plan kernels) (ends_of plan.joins) (left_terminal end)
    → IsPortOfKernel kernels end error → SaysUnknown plan kernels error
says_left plan kernels end (L.UnknownPort kernel name) first is =
    record { end = left_terminal end; first = first; said = sym is.left }
says_left plan kernels end _ first is = absurd is

pub says_right : (plan : Plan) (kernels : List Kernel) (end : End) (error : LinkError)
    → IsFirst (IsUnknown plan kernels) (ends_of plan.joins) (right_terminal end)
    → IsPortOfKernel kernels end error → SaysUnknown plan kernels error
says_right plan kernels end (L.UnknownPort kernel name) first is =
    record { end = right_terminal end; first = first; said = sym is.right }
says_right plan kernels end _ first is = absurd is
