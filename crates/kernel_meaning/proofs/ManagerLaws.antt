-- What a manager builds can be carried out, and changes nothing that lawfulness speaks of.
use Rattle.std.proofs.Common.{◌≡◌, ℕ, ◌+◌, List, [], ◌∷◌, ◌++◌, true, false, Some, None, refl, sym, subst, arith, length}
use Rattle.std.specs.Prelude.{Option, Bool, All, IsTrue, map}
use Rattle.std.proofs.lemmas.List.{length-append}
use Rattle.std.proofs.lemmas.List.Elements.{
  All-same,
  All-push,
  All-weaker,
  Contains-append_left,
  Contains-push,
}
use Rattle.kernel_calls.specs.Laws.{is_port_name, IsPortName}
use Rattle.kernel_meaning.specs.declared.plan.Arg.{Arg}
use Rattle.kernel_meaning.specs.declared.plan.Arg.TheVariants as A
use Rattle.kernel_meaning.specs.declared.plan.End.{End}
use Rattle.kernel_meaning.specs.declared.plan.End.TheVariants as P
use Rattle.kernel_meaning.specs.declared.plan.Join.{Join}
use Rattle.kernel_meaning.specs.declared.plan.Made.{Made}
use Rattle.kernel_meaning.specs.declared.plan.Plan.{Plan}
use Rattle.kernel_meaning.specs.declared.plan.Side.{Side}
use Rattle.kernel_meaning.specs.declared.plan.Side.TheVariants as W
use Rattle.kernel_meaning.specs.declared.value.Value.{Value}
use Rattle.kernel_meaning.specs.declared.value.Value.TheVariants as V
use Rattle.kernel_meaning.specs.declared.state.State.{State}
use Rattle.kernel_meaning.specs.declared.error.EvalError.TheVariants as E
use Rattle.kernel_meaning.specs.Answer.{Next, Does, needs}
use Rattle.kernel_meaning.specs.Constructors.{value_of_arg}
use Rattle.kernel_meaning.specs.ManagerRows.{
  with_plan,
  joined,
  stream_from_cpu,
  stream_to_cpu,
  kernel_input,
  kernel_output,
  with_arg,
  args_of,
  kernel_by,
  kernel_added,
}
use Rattle.kernel_meaning.specs.Plans.{Library, OfKernel, OfManager}
use Rattle.kernel_meaning.specs.Run.{class_by, classed, named}
use Rattle.kernel_meaning.specs.Sound.{IsSound, AreSound}
use Rattle.kernel_meaning.specs.SoundPlans.{IsEndOf, IsAdded, IsJoined}
use Rattle.kernel_meaning.proofs.Kept.{
  History,
  with_built,
  IsBlock,
  IsLink,
  IsClassOf,
  IsManaged,
  IsHeld,
  AreHeld,
  Sound,
  Good,
}
use Rattle.kernel_meaning.proofs.Later.{
  Later,
  Grows,
  at_once,
  end_later,
  bound_later,
  filled_later,
}
use Rattle.kernel_meaning.proofs.Going.{GoodOutcome, GoodNext, all_hold}
use Rattle.kernel_meaning.proofs.RowLaws.{good_if}

-- the end of a join may stand on its side
abbrev Stands : Plan → Side → (Join → End) → Join → Type 0
Stands plan side end join = IsEndOf plan side (end join)

stand_later : (old new : Plan) (side : Side) (end : Join → End) (joins : List Join)
    → Grows old new → All (Stands old side end) joins → All (Stands new side end) joins
stand_later old new side end joins g h =
    All-weaker (Stands old side end) (Stands new side end)
    (λ join. end_later old new side (end join) g) joins h

lefts_later : (old new : Plan) (joins : List Join) → Grows old new
    → All (λ (join : Join). IsEndOf old W.Left join.left) joins
    → All (λ (join : Join). IsEndOf new W.Left join.left) joins
lefts_later old new joins g h = stand_later old new W.Left (λ join. join.left) joins g h

rights_later : (old new : Plan) (joins : List Join) → Grows old new
    → All (λ (join : Join). IsEndOf old W.Right join.right) joins
    → All (λ (join : Join). IsEndOf new W.Right join.right) joins
rights_later old new joins g h = stand_later old new W.Right (λ join. join.right) joins g h

-- what a manager builds, where what was built is kept
module _ (kernels : List ℕ → Option ℕ) (so_far : History (OfManager kernels)) (state : State)
    (s : Sound so_far state) where
  grown : (plan : Plan) (value : Value) → Grows state.plan plan
      → (IsManaged (OfManager kernels) state.plan → IsManaged (OfManager kernels) plan)
      → IsHeld (with_built so_far plan) value
      → GoodOutcome so_far (Does [] value (with_plan state plan))
  grown plan value g m v =
      let grows : Grows so_far.plan plan = subst (λ p. Grows p plan) s.plan.same g in
      let l : Later so_far (with_built so_far plan) =
      record { calls = ([], refl); plan = grows } in
      record {
        holds = (
          tt,
          record {
            plan = plan;
            grows = grows;
            held = v;
            sound = record {
              made = s.made;
              variables = bound_later so_far (with_built so_far plan) state.variables l s.variables;
              fields = bound_later so_far (with_built so_far plan) state.fields l s.fields;
              arrays = filled_later so_far (with_built so_far plan) state.arrays l s.arrays;
              digits = s.digits;
              plan = record { same = refl; managed = m s.plan.managed };
            };
          },
        );
      }

  -- what is joined stays joined
  ends_later : (plan : Plan) → Grows state.plan plan → IsJoined state.plan
      → All IsPortName plan.from_cpu → All IsPortName plan.to_cpu → plan.joins ≡ state.plan.joins
      → IsJoined plan
  ends_later plan g j f t e = record {
    lefts = All-same (Stands plan W.Left (λ join. join.left)) plan.joins state.plan.joins e (lefts_later state.plan plan
        state.plan.joins g j.lefts);
    rights = All-same (Stands plan W.Right (λ join. join.right)) plan.joins state.plan.joins e (rights_later state.plan plan
        state.plan.joins g j.rights);
    from_cpu = f;
    to_cpu = t;
  }

  join_grown : (left right : End) → IsEndOf so_far.plan W.Left left
      → IsEndOf so_far.plan W.Right right → GoodOutcome so_far (joined left right state)
  join_grown left right v w =
      let join : Join = record { left = left; right = right } in
      let plan : Plan = record state.plan { joins = state.plan.joins ++ join ∷ [] } in
      let g : Grows state.plan plan = record {
        kernels = omega arith;
        from_cpu = λ name c. c;
        to_cpu = λ name c. c;
      } in
      let e = sym s.plan.same in
      grown plan V.Nothing g
      (λ m. record {
        manager = m.manager;
        kernels = m.kernels;
        joined = record {
          lefts = All-push (Stands plan W.Left (λ join. join.left)) state.plan.joins join
              (lefts_later state.plan plan state.plan.joins g m.joined.lefts)
              (end_later state.plan plan W.Left left g (subst (λ p. IsEndOf p W.Left left) e v));
          rights = All-push (Stands plan W.Right (λ join. join.right)) state.plan.joins join
              (rights_later state.plan plan state.plan.joins g m.joined.rights)
              (end_later state.plan plan W.Right right g (subst (λ p. IsEndOf p W.Right right) e w));
          from_cpu = m.joined.from_cpu;
          to_cpu = m.joined.to_cpu;
        };
      })
      tt

  from_grown : (name : List ℕ) → IsPortName name
      → GoodOutcome so_far (Does [] (V.Link (P.Cpu name) W.Right) (with_plan state
      (record state.plan { from_cpu = state.plan.from_cpu ++ name ∷ [] })))
  from_grown name n =
      let plan : Plan = record state.plan { from_cpu = state.plan.from_cpu ++ name ∷ [] } in
      let g : Grows state.plan plan = record {
        kernels = omega arith;
        from_cpu = λ other c. Contains-append_left state.plan.from_cpu (name ∷ []) other c;
        to_cpu = λ other c. c;
      } in
      grown plan (V.Link (P.Cpu name) W.Right) g
      (λ m. record {
        manager = m.manager;
        kernels = m.kernels;
        joined = ends_later plan g m.joined
            (All-push IsPortName state.plan.from_cpu name m.joined.from_cpu n) m.joined.to_cpu refl;
      })
      (Contains-push state.plan.from_cpu name)

  to_grown : (name : List ℕ) → IsPortName name
      → GoodOutcome so_far (Does [] (V.Link (P.Cpu name) W.Left) (with_plan state
      (record state.plan { to_cpu = state.plan.to_cpu ++ name ∷ [] })))
  to_grown name n =
      let plan : Plan = record state.plan { to_cpu = state.plan.to_cpu ++ name ∷ [] } in
      let g : Grows state.plan plan = record {
        kernels = omega arith;
        from_cpu = λ other c. c;
        to_cpu = λ other c. Contains-append_left state.plan.to_cpu (name ∷ []) other c;
      } in
      grown plan (V.Link (P.Cpu name) W.Left) g
      (λ m. record {
        manager = m.manager;
        kernels = m.kernels;
        joined = ends_later plan g m.joined m.joined.from_cpu
            (All-push IsPortName state.plan.to_cpu name m.joined.to_cpu n) refl;
      })
      (Contains-push state.plan.to_cpu name)

  kernel_grown : (made : Made) → IsAdded (IsClassOf (OfManager kernels)) made
      → GoodOutcome so_far (Does [] (V.Block (length state.plan.kernels)) (with_plan state
      (record state.plan { kernels = state.plan.kernels ++ made ∷ [] })))
  kernel_grown made a =
      let plan : Plan = record state.plan { kernels = state.plan.kernels ++ made ∷ [] } in
      let more : length (state.plan.kernels ++ made ∷ []) ≡ length state.plan.kernels + 1 =
      length-append state.plan.kernels (made ∷ []) in
      let g : Grows state.plan plan = record {
        kernels = omega arith;
        from_cpu = λ other c. c;
        to_cpu = λ other c. c;
      } in
      grown plan (V.Block (length state.plan.kernels)) g
      (λ m. record {
        manager = m.manager;
        kernels = All-push (IsAdded (IsClassOf (OfManager kernels))) state.plan.kernels made m.kernels a;
        joined = ends_later plan g m.joined m.joined.from_cpu m.joined.to_cpu refl;
      })
      (omega arith)

-- a kernel's run builds nothing that is asked for
unwatched : (so_far : History OfKernel) (state : State) (plan : Plan) (value : Value)
    → IsHeld so_far value → Sound so_far state
    → GoodOutcome so_far (Does [] value (with_plan state plan))
unwatched so_far state plan value v s = all_hold so_far [] value (with_plan state plan) tt v
    (record {
      made = s.made;
      variables = s.variables;
      fields = s.fields;
      arrays = s.arrays;
      digits = s.digits;
      plan = tt;
    })

pub joined_good : {library : Library} (so_far : History library) (state : State) (left right : End)
    → IsLink library so_far.plan W.Left left → IsLink library so_far.plan W.Right right
    → Sound so_far state → GoodOutcome so_far (joined left right state)
joined_good {library = OfKernel} so_far state left right v w s =
    unwatched so_far state _ V.Nothing tt s
joined_good {library = OfManager kernels} so_far state left right v w s =
    join_grown kernels so_far state s left right v w

from_by : {library : Library} (so_far : History library) (state : State) (name : List ℕ)
    → IsPortName name → Sound so_far state
    → GoodOutcome so_far (Does [] (V.Link (P.Cpu name) W.Right) (with_plan state
    (record state.plan { from_cpu = state.plan.from_cpu ++ name ∷ [] })))
from_by {library = OfKernel} so_far state name n s = unwatched so_far state _ _ tt s
from_by {library = OfManager kernels} so_far state name n s =
    from_grown kernels so_far state s name n

pub from_good : {library : Library} (so_far : History library) (state : State) (at : ℕ)
    (values : List Value) → AreHeld so_far values → Sound so_far state
    → GoodOutcome so_far (stream_from_cpu at values state)
from_good so_far state at (V.Str name ∷ []) v s =
    good_if (is_port_name name) (E.BadPortName at) so_far _ tt
    (λ e. from_by so_far state name (e, v.0) s)
from_good so_far state at _ v s = record { holds = tt }

to_by : {library : Library} (so_far : History library) (state : State) (name : List ℕ)
    → IsPortName name → Sound so_far state
    → GoodOutcome so_far (Does [] (V.Link (P.Cpu name) W.Left) (with_plan state
    (record state.plan { to_cpu = state.plan.to_cpu ++ name ∷ [] })))
to_by {library = OfKernel} so_far state name n s = unwatched so_far state _ _ tt s
to_by {library = OfManager kernels} so_far state name n s =
    to_grown kernels so_far state s name n

pub to_good : {library : Library} (so_far : History library) (state : State) (at : ℕ)
    (values : List Value) → AreHeld so_far values → Sound so_far state
    → GoodOutcome so_far (stream_to_cpu at values state)
to_good so_far state at (V.Str name ∷ []) v s =
    good_if (is_port_name name) (E.BadPortName at) so_far _ tt
    (λ e. to_by so_far state name (e, v.0) s)
to_good so_far state at _ v s = record { holds = tt }

port_held : (library : Library) (plan : Plan) (side : Side) (number : ℕ) (name : List ℕ)
    → IsBlock library plan number → IsLink library plan side (P.Kernel number name)
port_held OfKernel plan side number name b = tt
port_held (OfManager kernels) plan side number name b = b

pub input_of_good : {library : Library} (so_far : History library) (state : State) (at : ℕ)
    (values : List Value) → AreHeld so_far values → Sound so_far state
    → GoodOutcome so_far (kernel_input at values state)
input_of_good {library = library} so_far state at (V.Block kernel ∷ V.Str name ∷ []) v s =
    good_if (is_port_name name) (E.BadPortName at) so_far _ tt
    (λ e. all_hold so_far [] (V.Link (P.Kernel kernel name) W.Left) state tt
    (port_held library so_far.plan W.Left kernel name v.0) s)
input_of_good so_far state at _ v s = record { holds = tt }

pub output_of_good : {library : Library} (so_far : History library) (state : State) (at : ℕ)
    (values : List Value) → AreHeld so_far values → Sound so_far state
    → GoodOutcome so_far (kernel_output at values state)
output_of_good {library = library} so_far state at (V.Block kernel ∷ V.Str name ∷ []) v s =
    good_if (is_port_name name) (E.BadPortName at) so_far _ tt
    (λ e. all_hold so_far [] (V.Link (P.Kernel kernel name) W.Right) state tt
    (port_held library so_far.plan W.Right kernel name v.0) s)
output_of_good so_far state at _ v s = record { holds = tt }

-- The arguments of a kernel.

abbrev ArgsSound : Option (List Arg) → Type 0
ArgsSound None = Unit {0}
ArgsSound (Some args) = AreSound [] (map value_of_arg args)

with_arg_sound : (arg : Arg) (args : Option (List Arg)) → IsSound [] (value_of_arg arg)
    → ArgsSound args → ArgsSound (with_arg arg args)
with_arg_sound arg None a h = tt
with_arg_sound arg (Some args) a h = (a, h)

args_sound : {library : Library} (so_far : History library) (values : List Value)
    → AreHeld so_far values → ArgsSound (args_of values)
args_sound so_far [] v = tt
args_sound so_far (V.Int n ∷ values) v =
    with_arg_sound (A.Int n) (args_of values) tt (args_sound so_far values v.1)
args_sound so_far (V.Flag b ∷ values) v =
    with_arg_sound (A.Flag b) (args_of values) tt (args_sound so_far values v.1)
args_sound so_far (V.«Type» t ∷ values) v =
    with_arg_sound (A.Stream t) (args_of values) v.0 (args_sound so_far values v.1)
args_sound so_far (_ ∷ values) v = tt

by_good : {library : Library} (so_far : History library) (state : State) (at : ℕ) (name : List ℕ)
    (class : ℕ) (args : Option (List Arg)) → IsTrue (is_port_name name) → IsClassOf library class
    → ArgsSound args → Sound so_far state
    → GoodOutcome so_far (kernel_by at name class args state)
by_good so_far state at name class None n c a s = record { holds = tt }
by_good {library = OfKernel} so_far state at name class (Some args) n c a s =
    unwatched so_far state _ _ tt s
by_good {library = OfManager kernels} so_far state at name class (Some args) n c a s =
    kernel_grown kernels so_far state s (record { name = name; class = class; args = args })
    (record { name = n; class = c; args = a })

pub kernel_good : {library : Library} (so_far : History library) (state : State) (at : ℕ)
    (name : List ℕ) (class : ℕ) (values : List Value) → IsTrue (is_port_name name)
    → IsClassOf library class → AreHeld so_far values → Sound so_far state
    → GoodOutcome so_far (kernel_added at name class values state)
kernel_good so_far state at name class values n c v s =
    by_good so_far state at name class (args_of values) n c (args_sound so_far values v) s

class_good : (kernels : List ℕ → Option ℕ) (at : ℕ) (name : List ℕ) (class : Option ℕ)
    (so_far : History (OfManager kernels)) (state : State) (next : ℕ → Next)
    → kernels name ≡ class → Sound so_far state
    → ((n : ℕ) → IsClassOf (OfManager kernels) n → GoodNext so_far (next n))
    → Good so_far (class_by at class state next)
class_good kernels at name None so_far state next e s h =
    record { lawful = tt {0}; plan = tt {0}; told = tt {0} }
class_good kernels at name (Some n) so_far state next e s h =
    h n (name, e) so_far (at_once so_far) state s

pub good_classed : (library : Library) (at : ℕ) (class : List ℕ) (so_far : History library)
    (state : State) (next : ℕ → Next) → Sound so_far state
    → ((n : ℕ) → IsClassOf library n → GoodNext so_far (next n))
    → Good so_far (classed library at class state next)
good_classed OfKernel at class so_far state next s h = record { lawful = tt {0}; plan = tt {0}; told = tt {0} }
good_classed (OfManager kernels) at class so_far state next s h =
    class_good kernels at class (kernels class) so_far state next refl s h

name_good : (plain : Bool) (at : ℕ) (name : List ℕ) {library : Library} (so_far : History library)
    (state : State) (next : Next) → Sound so_far state → (IsTrue plain → GoodNext so_far next)
    → Good so_far (needs plain (E.BadPortName at) state next)
name_good true at name so_far state next s h = h refl so_far (at_once so_far) state s
name_good false at name so_far state next s h = record { lawful = tt {0}; plan = tt {0}; told = tt {0} }

pub good_named : (at : ℕ) (values : List Value) {library : Library} (so_far : History library)
    (state : State) (next : List ℕ → Next) → Sound so_far state
    → ((name : List ℕ) → IsTrue (is_port_name name) → GoodNext so_far (next name))
    → Good so_far (named at values state next)
good_named at (V.Str name ∷ []) so_far state next s h =
    name_good (is_port_name name) at name so_far state (next name) s (h name)
good_named at _ so_far state next s h = record { lawful = tt {0}; plan = tt {0}; told = tt {0} }
