-- The classes of a program, their runs, and arguments.
use Rattle.std.proofs.Common.{◌≡◌, ◌∙◌, ◌<◌, ◌+◌, ◌^◌, ℕ, zero, suc, List, [], ◌∷◌, length, map, Some, refl, sym, ap, subst, arith, inl, inr}
use Rattle.std.specs.Prelude.{◌⊎◌, All, slice_get}
use Rattle.std.proofs.lemmas.List.Elements.{All-head, All-tail}
use Rattle.maxj_syntax.specs.Cells.{Cell}
use Rattle.maxj_syntax.specs.Tree.{ClassTree, ClassIs, ClassesAre}
use Rattle.maxj_syntax.specs.declared.tree.Class.{Class}
use Rattle.maxj_syntax.specs.declared.tree.Program.{Program}
use Rattle.kernel_calls.specs.declared.call.Call.{Call}
use Rattle.kernel_calls.specs.declared.call.Call.TheVariants as C
use Rattle.kernel_calls.specs.Calls.{nodes_of}
use Rattle.kernel_meaning.specs.declared.plan.Arg.{Arg}
use Rattle.kernel_meaning.specs.declared.plan.Arg.TheVariants as A
use Rattle.kernel_meaning.specs.declared.value.Value.{Value}
use Rattle.kernel_meaning.specs.Constructors.{
  building_run,
  run_of,
  members_of,
  ctor_of,
  step_limit,
  value_of_arg,
}
use Rattle.kernel_meaning.specs.Plans.{OfKernel}
use Rattle.kernel_meaning.specs.Sound.{AreSound}
use Rattle.kernel_meaning.proofs.NodeTrees.{read_tree}
use Rattle.kernel_plans.specs.Classes.{ClassView}
use Rattle.kernel_plans.specs.declared.class.Library.TheVariants as L
use Rattle.kernel_rows.specs.Fit.{AreFit}
use Rattle.stream_graph.specs.declared.tally.Tally.{Tally}
use Rattle.stream_graph.specs.Counts.{Counted, HasPlace}
use Rattle.kernel_eval.specs.Runs.{run_in, IsKernelAt, IsTyped}
use Rattle.kernel_eval.specs.Sending.{HasRoomBelow}

tree-same : {a b : ClassTree} → Some a ≡ Some b → a ≡ b
tree-same e = cc

-- the class of a number
pub class-at : (nodes : List Cell) (cs : List Class) (ts : List ClassTree) (n : ℕ) (t : ClassTree)
    → ClassesAre nodes cs ts → slice_get ts n ≡ Some t
    → (c : Class) × (slice_get cs n ≡ Some c) × ClassIs nodes c t
class-at nodes [] [] n t h e = absurd (cc)
class-at nodes [] (u ∷ ts) n t h e = absurd h
class-at nodes (c ∷ cs) [] n t h e = absurd h
class-at nodes (c ∷ cs) (u ∷ ts) zero t h e =
    (c, refl, subst (ClassIs nodes c) (tree-same e) h.0)
class-at nodes (c ∷ cs) (u ∷ ts) (suc n) t h e = class-at nodes cs ts n t h.1 e

in-range : (cs : List Class) (n : ℕ) (c : Class) → slice_get cs n ≡ Some c → n < length cs
in-range [] n c e = absurd (cc)
in-range (c ∷ cs) zero d e = omega arith
in-range (c ∷ cs) (suc n) d e = let below = in-range cs n d e in omega arith

pub number-in-range : (program : Program) (number : ℕ) (kernel : ClassTree)
    → IsKernelAt program number kernel → number < length program.classes
number-in-range program number kernel at =
    let class = class-at program.tree program.classes at.classes number kernel at.is at.at in
    in-range program.classes number class.0 class.1

class-same : {a b : Class} → Some a ≡ Some b → a ≡ b
class-same e = cc

-- the run of a kernel's class is that of its tree
pub kernel-run : (program : Program) (number : ℕ) (kernel : ClassTree) (class : Class)
    (args : List Value) → IsKernelAt program number kernel
    → slice_get program.classes number ≡ Some class
    → run_in (record { cells = program.tree; node = class.node; library = L.OfKernel }) args
    ≡ building_run kernel args
kernel-run program number kernel class args at found =
    let own = class-at program.tree program.classes at.classes number kernel at.is at.at in
    let same : own.0 ≡ class = class-same (sym own.1 ∙ found) in
    let is : ClassIs program.tree class kernel = subst (λ c. ClassIs program.tree c kernel) same own.2 in
    ap (λ t. run_of OfKernel (members_of t) args step_limit (ctor_of (members_of t)))
    (read_tree program.tree class.node kernel.tree is.node)

-- arguments are values that fit and are sound
pub fit-args : (args : List Arg) → All IsTyped args → AreFit (map value_of_arg args)
fit-args [] typed = tt
fit-args (A.Int n ∷ args) typed = (tt, fit-args args (All-tail IsTyped _ args typed))
fit-args (A.Flag b ∷ args) typed = (tt, fit-args args (All-tail IsTyped _ args typed))
fit-args (A.Stream t ∷ args) typed =
    (All-head IsTyped _ args typed, fit-args args (All-tail IsTyped _ args typed))

pub sound-args : (args : List Arg) → All IsTyped args → AreSound [] (map value_of_arg args)
sound-args [] typed = tt
sound-args (A.Int n ∷ args) typed = (tt, sound-args args (All-tail IsTyped _ args typed))
sound-args (A.Flag b ∷ args) typed = (tt, sound-args args (All-tail IsTyped _ args typed))
sound-args (A.Stream t ∷ args) typed =
    (All-head IsTyped _ args typed, sound-args args (All-tail IsTyped _ args typed))

-- a tally has room below any number of nodes
one-node : (call : Call) → (nodes_of call ≡ 0) ⊎ (nodes_of call ≡ 1)
one-node (C.Connect feed value) = inl refl
one-node (C.Input name t control) = inr refl
one-node (C.Output name value control t) = inr refl
one-node (C.Scalar name t) = inr refl
one-node (C.Constant bits t) = inr refl
one-node (C.Operation op mode amount args t) = inr refl
one-node (C.Offset value k t) = inr refl
one-node (C.Feed t) = inr refl
one-node (C.Hold value store t) = inr refl
one-node (C.Counter d) = inr refl
one-node C.Chain = inr refl
one-node (C.ChainDigit chain d) = inr refl

has-place : (t : Tally) (call : Call) → (nodes_of call ≡ 0) ⊎ (nodes_of call ≡ 1)
    → t.nodes + 1 < 2 ^ 32 → HasPlace t call
has-place t call (inl none) few = omega (arith, none, few)
has-place t call (inr one) few = omega (arith, one, few)

pub tally-room : (calls : List Call) (t : Tally)
    → HasRoomBelow (λ (tally : Tally). tally.nodes) HasPlace Counted t calls
tally-room [] t = tt
tally-room (call ∷ calls) t = (has-place t call (one-node call), λ mid c. tally-room calls mid)

-- the run of a class that was made of a program's node
pub run-by : (program : Program) (number : ℕ) (kernel : ClassTree) (class : Class)
    (view : ClassView) (args : List Arg) (values : List Value) → IsKernelAt program number kernel
    → slice_get program.classes number ≡ Some class
    → view ≡ record { cells = program.tree; node = class.node; library = L.OfKernel }
    → values ≡ map value_of_arg args
    → run_in view values ≡ building_run kernel (map value_of_arg args)
run-by program number kernel class view args values at found is same =
    rw (is, same) (kernel-run program number kernel class (map value_of_arg args) at found)
