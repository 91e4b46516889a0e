-- A builder on its way through a run.
use Rattle.std.proofs.Common.{
  ◌≡◌,
  ◌+◌,
  ℕ,
  List,
  [],
  ◌∷◌,
  ◌++◌,
  length,
  refl,
  sym,
  ◌∙◌,
  ap,
  false,
  Ok,
  Err,
  subst,
  arith,
}
use Rattle.std.specs.Prelude.{Result, IsErr, IsErrAnd}
use Rattle.kernel_calls.specs.declared.call.Call.{Call}
use Rattle.kernel_calls.specs.Calls.{count_of}
use Rattle.kernel_calls.specs.Laws.{Received, HasRoom, AreLawful}
use Rattle.kernel_meaning.specs.declared.error.EvalError.{EvalError}
use Rattle.kernel_meaning.specs.declared.error.EvalError.TheVariants as E
use Rattle.kernel_meaning.specs.declared.plan.Plan.{Plan}
use Rattle.kernel_meaning.specs.declared.state.State.{State}
use Rattle.kernel_meaning.specs.declared.value.Value.{Value}
use Rattle.kernel_meaning.specs.Answer.{Answer, Finished, Refused, calls_of, end_of, plan_at_end}
use Rattle.kernel_meaning.specs.Constructors.{run_of, ctor_of, step_limit}
use Rattle.kernel_meaning.specs.Nodes.{tree_at}
use Rattle.kernel_meaning.specs.Plans.{OfKernel}
use Rattle.kernel_meaning.specs.Sound.{AreSound}
use Rattle.kernel_meaning.proofs.WholeRun.{all_lawful}
use Rattle.kernel_plans.specs.Classes.{ClassView, members, library_of}
use Rattle.kernel_machine.specs.declared.machine.Machine.{Machine}
use Rattle.kernel_machine.specs.Going.{Leads, Starts, answer_of, with_calls}
use Rattle.kernel_eval.specs.Runs.{run_in}
use Rattle.kernel_eval.specs.Sending.{AreNumbered, HasRoomBelow, AreSendable, AreSent}
use Rattle.kernel_eval.specs.Building.{Builds, Plans}
use Rattle.kernel_eval.proofs.Sendable.{all_sendable}
use Rattle.kernel_eval.proofs.Sent.{received_on}

calls_with : (calls : List Call) (answer : Answer)
    → calls_of (with_calls calls answer) ≡ calls ++ calls_of answer
calls_with [] answer = refl
calls_with (call ∷ calls) answer = ap (λ cs. call ∷ cs) (calls_with calls answer)

end_with : (calls : List Call) (answer : Answer)
    → end_of (with_calls calls answer) ≡ end_of answer
end_with [] answer = refl
end_with (call ∷ calls) answer = end_with calls answer

pub plan_with : (calls : List Call) (answer : Answer)
    → plan_at_end (with_calls calls answer) ≡ plan_at_end answer
plan_with [] answer = refl
plan_with (call ∷ calls) answer = plan_with calls answer

-- the calls so far once these came too
abbrev onto : List Call → List Call → List Call
onto [] so_far = so_far
onto (call ∷ calls) so_far = onto calls (call ∷ so_far)

lawful_on : (so_far calls more : List Call) → AreLawful so_far (calls ++ more)
    → AreLawful (onto calls so_far) more
lawful_on so_far [] more h = h
lawful_on so_far (call ∷ calls) more h = lawful_on (call ∷ so_far) calls more h.1

count_on : (calls so_far : List Call)
    → count_of (onto calls so_far) ≡ count_of so_far + count_of calls
count_on [] so_far = omega arith
count_on (call ∷ calls) so_far = let e = count_on calls (call ∷ so_far) in omega arith

-- where there is room for all calls, there is room below any number of nodes
pub room_below : {S : Type 0} (made : S → ℕ) (has_room : S → Call → Type 0)
    (receives : S → Call → S → Type 0) (calls : List Call) (old : S)
    → HasRoom has_room receives old calls → HasRoomBelow made has_room receives old calls
room_below made has_room receives [] old h = tt
room_below made has_room receives (call ∷ calls) old h =
    (λ few. h.0, λ mid r. room_below made has_room receives calls mid (h.1 mid r))

module _ {S : Type 0} (receives : S → Call → S → Type 0) where
  module _ (made : S → ℕ) (has_room : S → Call → Type 0) where
    room_before : (calls more : List Call) (old : S)
        → HasRoomBelow made has_room receives old (calls ++ more) → HasRoomBelow made has_room receives old calls
    room_before [] more old h = tt
    room_before (call ∷ calls) more old h =
        (h.0, λ mid r. room_before calls more mid (h.1 mid r))

    room_after : (calls more : List Call) (old new : S)
        → HasRoomBelow made has_room receives old (calls ++ more) → Received receives old calls new
        → HasRoomBelow made has_room receives new more
    room_after [] more old new h r = subst (λ s. HasRoomBelow made has_room receives s more) r h
    room_after (call ∷ calls) more old new h r =
        room_after calls more r.0 new (h.1 r.0 r.1) r.2

pub record IsOnWay {S V : Type 0} (has_room : S → Call → Type 0)
    (receives : S → Call → S → Type 0) (made : S → ℕ) (number : V → ℕ) (first : S)
    (run : Answer) (now : S) (vars : List V) (rest : Answer) : Type 0 where
  pub so_far : List Call
  pub numbered : AreNumbered number vars
  pub count : length vars ≡ count_of so_far
  pub nodes : made now ≡ length vars
  pub room : HasRoomBelow made has_room receives now (calls_of rest)
  pub lawful : AreLawful so_far (calls_of rest)
  pub received : (last : S) → Received receives now (calls_of rest) last
      → Received receives first (calls_of run) last
  pub ending : end_of rest ≡ end_of run

nothing_numbered : {V : Type 0} (number : V → ℕ) → AreNumbered number []
nothing_numbered number n var h = absurd (cc)

module _ {S V : Type 0} (has_room : S → Call → Type 0) (receives : S → Call → S → Type 0)
    (made : S → ℕ) (number : V → ℕ) (first : S) (run : Answer) where
  pub on_way : (now : S) (vars : List V) (rest other : Answer)
      → IsOnWay has_room receives made number first run now vars rest → rest ≡ other
      → IsOnWay has_room receives made number first run now vars other
  on_way now vars rest other h e =
      subst (λ r. IsOnWay has_room receives made number first run now vars r) e h

  pub way_room : (now : S) (vars : List V) (calls : List Call) (rest : Answer)
      → IsOnWay has_room receives made number first run now vars (with_calls calls rest)
      → HasRoomBelow made has_room receives now calls
  way_room now vars calls rest h =
      room_before receives made has_room calls (calls_of rest) now
      (subst (λ cs. HasRoomBelow made has_room receives now cs) (calls_with calls rest) h.room)

  pub way_sendable : (now : S) (vars : List V) (calls : List Call) (rest : Answer)
      → IsOnWay has_room receives made number first run now vars (with_calls calls rest)
      → AreSendable (length vars) calls
  way_sendable now vars calls rest h =
      subst (λ n. AreSendable n calls) (sym h.count)
      (all_sendable h.so_far calls (calls_of rest)
      (subst (λ cs. AreLawful h.so_far cs) (calls_with calls rest) h.lawful))

  pub way_sent : (now new : S) (vars after : List V) (calls : List Call) (rest : Answer)
      → IsOnWay has_room receives made number first run now vars (with_calls calls rest)
      → AreSent receives made number now calls new vars after
      → IsOnWay has_room receives made number first run new after rest
  way_sent now new vars after calls rest h s =
      let c = calls_with calls rest in
      let count : length after ≡ count_of (onto calls h.so_far) =
      s.more ∙ ap (λ n. n + count_of calls) h.count ∙ sym (count_on calls h.so_far) in
      record {
        so_far = onto calls h.so_far;
        numbered = s.numbered;
        count = count;
        nodes = s.nodes;
        room =
            room_after receives made has_room calls (calls_of rest) now new
            (subst (λ cs. HasRoomBelow made has_room receives now cs) c h.room) s.received;
        lawful =
            lawful_on h.so_far calls (calls_of rest)
            (subst (λ cs. AreLawful h.so_far cs) c h.lawful);
        received = λ last r.
            h.received last (subst (λ cs. Received receives now cs last) (sym c)
            (received_on receives calls (calls_of rest) now new last s.received r));
        ending = sym (end_with calls rest) ∙ h.ending;
      }

  pub way_ends : (now : S) (vars : List V) (rest : Answer) (state : State)
      → IsOnWay has_room receives made number first run now vars rest → rest ≡ Finished state
      → Builds receives first run (Ok tt) now
  way_ends now vars rest state h e =
      let k = on_way now vars rest (Finished state) h e in
      (sym k.ending, k.received now refl)

  pub way_refused : (now : S) (vars : List V) (rest : Answer) (e : EvalError)
      → IsOnWay has_room receives made number first run now vars rest
      → (new : Machine) (class : ClassView) → Leads class rest (Err e) new
      → Builds receives first run (Err e) now
  way_refused now vars rest E.NoMemory h new class l = tt
  way_refused now vars rest e h new class l =
      let k = on_way now vars rest (Refused e) h l in
      (sym k.ending, k.received now refl)

  -- the refusal of a step that is handed on
  pub way_handed : (now : S) (vars : List V) (rest : Answer) (r : Result (Unit {0}) EvalError)
      (e : EvalError) → IsOnWay has_room receives made number first run now vars rest
      → (new : Machine) (class : ClassView) → Leads class rest (Err e) new → IsErr r
      → IsErrAnd r (λ x. x ≡ e) → Builds receives first run r now
  way_handed now vars rest (Ok done) e h new class l is same = absurd (cc)
  way_handed now vars rest (Err x) e h new class l is same =
      subst (λ y. Builds receives first run (Err y) now) (sym same)
      (way_refused now vars rest e h new class l)

-- want of memory says nothing
pub no_memory : {S : Type 0} (receives : S → Call → S → Type 0) (first now : S) (run : Answer)
    (r : Result (Unit {0}) EvalError) → IsErr r → IsErrAnd r (λ x. x ≡ E.NoMemory)
    → Builds receives first run r now
no_memory receives first now run (Ok done) is same = absurd (cc)
no_memory receives first now run (Err x) is same =
    subst (λ y. Builds receives first run (Err y) now) (sym same) tt

plan_refused : (class : ClassView) (answer run : Answer) (e : EvalError) (new : Machine)
    → plan_at_end answer ≡ plan_at_end run → Leads class answer (Err e) new → Plans run (Err e)
plan_refused class answer run E.NoMemory new p l = tt
plan_refused class answer run e new p l = sym p ∙ ap plan_at_end l

-- the refusal of a step of a manager's run that is handed on
pub plan_handed : (class : ClassView) (answer run : Answer) (r : Result Plan EvalError)
    (e : EvalError) (new : Machine) → plan_at_end answer ≡ plan_at_end run
    → Leads class answer (Err e) new → IsErr r → IsErrAnd r (λ x. x ≡ e) → Plans run r
plan_handed class answer run (Ok plan) e new p l is same = absurd (cc)
plan_handed class answer run (Err x) e new p l is same =
    subst (λ y. Plans run (Err y)) (sym same) (plan_refused class answer run e new p l)

-- before the first step
pub way_begins : {S V : Type 0} (has_room : S → Call → Type 0)
    (receives : S → Call → S → Type 0) (made : S → ℕ) (number : V → ℕ) (first : S)
    (class : ClassView) (args : List Value) (machine : Machine) → made first ≡ 0
    → library_of class.library ≡ OfKernel → AreSound [] args → HasRoomBelow made has_room receives first (calls_of (run_in class args))
    → run_in class args ≡ answer_of class machine
    → IsOnWay has_room receives made number first (run_in class args) first []
    (answer_of class machine)
way_begins has_room receives made number first class args machine m kernel sound room e =
    subst (λ r. IsOnWay has_room receives made number first (run_in class args) first [] r) e
    (record {
      so_far = [];
      numbered = nothing_numbered number;
      count = refl;
      nodes = m;
      room = room;
      lawful =
          subst
          (λ library. AreLawful []
          (calls_of
          (run_of library (members class) args step_limit (ctor_of (members class)))))
          (sym kernel)
          (all_lawful
          (record { name = []; manager = false; tree = tree_at class.cells class.node })
          args sound);
      received = λ last r. r;
      ending = refl;
    })

-- a run that is refused before its first step
pub refused_at_once : {S : Type 0} (receives : S → Call → S → Type 0) (first : S) (run : Answer)
    (class : ClassView) (e : EvalError) → Starts class run (Err e)
    → Builds receives first run (Err e) first
refused_at_once receives first run class E.NoMemory h = tt
refused_at_once receives first run class e h =
    subst (λ r. Builds receives first r (Err e) first) (sym h) (refl, refl)
