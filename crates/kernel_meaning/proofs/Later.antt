-- What holds of nodes holds after further calls.
use Rattle.std.proofs.Common.{
  ◌≡◌,
  ℕ,
  List,
  [],
  ◌∷◌,
  ◌++◌,
  refl,
  ap,
  sym,
  ◌∙◌,
  ◌≤◌,
  length,
  arith,
  inl,
  inr,
  subst,
}
use Rattle.std.specs.List.{Contains}
use Rattle.std.proofs.lemmas.List.{append_assoc}
use Rattle.fix_arith.specs.declared.types.StreamType.{StreamType}
use Rattle.kernel_calls.specs.declared.call.Call.{Call}
use Rattle.kernel_calls.specs.declared.call.Call.TheVariants as C
use Rattle.kernel_calls.specs.Calls.{Makes, count_of, nodes_of}
use Rattle.kernel_calls.specs.Laws.{IsStream}
use Rattle.kernel_meaning.specs.declared.value.Value.{Value}
use Rattle.kernel_meaning.specs.declared.value.Value.TheVariants as V
use Rattle.kernel_meaning.specs.declared.state.Binding.{Binding}
use Rattle.kernel_meaning.specs.declared.plan.End.{End}
use Rattle.kernel_meaning.specs.declared.plan.End.TheVariants as P
use Rattle.kernel_meaning.specs.declared.plan.Plan.{Plan}
use Rattle.kernel_meaning.specs.declared.plan.Side.{Side}
use Rattle.kernel_meaning.specs.declared.plan.Side.TheVariants as W
use Rattle.kernel_meaning.specs.Plans.{Library, OfKernel, OfManager}
use Rattle.kernel_meaning.specs.SoundPlans.{IsEndOf}
use Rattle.kernel_meaning.proofs.Kept.{
  History,
  with_call,
  IsBlock,
  IsLink,
  IsHeld,
  AreHeld,
  AreBound,
  AreFilled,
}

-- a plan that was built on: it has no fewer kernels, and the streams that were there
pub record Grows (old new : Plan) : Type 0 where
  pub kernels : length old.kernels ≤ length new.kernels
  pub from_cpu : (name : List ℕ) → Contains old.from_cpu name → Contains new.from_cpu name
  pub to_cpu : (name : List ℕ) → Contains old.to_cpu name → Contains new.to_cpu name

pub no_growth : (plan : Plan) → Grows plan plan
no_growth plan = record { kernels = omega arith; from_cpu = λ name c. c; to_cpu = λ name c. c }

and_grows : (a b c : Plan) → Grows a b → Grows b c → Grows a c
and_grows a b c g h = record {
  kernels = let k = g.kernels in let l = h.kernels in omega arith;
  from_cpu = λ name i. h.from_cpu name (g.from_cpu name i);
  to_cpu = λ name i. h.to_cpu name (g.to_cpu name i);
}

-- the calls come after others
abbrev pub After : List Call → List Call → Type 0
After so_far later = (news : List Call) × (later ≡ news ++ so_far)

-- a run has gone on
pub record Later {library : Library} (so_far later : History library) : Type 0 where
  pub calls : After so_far.calls later.calls
  pub plan : Grows so_far.plan later.plan

pub at_once : {library : Library} (so_far : History library) → Later so_far so_far
at_once so_far = record { calls = ([], refl); plan = no_growth so_far.plan }

pub one_later : (call : Call) {library : Library} (so_far : History library)
    → Later so_far (with_call call so_far)
one_later call so_far = record { calls = (call ∷ [], refl); plan = no_growth so_far.plan }

pub and_later : {library : Library} (a b c : History library) → Later a b → Later b c → Later a c
and_later a b c l m = record {
  calls = (
    m.calls.0 ++ l.calls.0,
    m.calls.1 ∙ ap (λ x. m.calls.0 ++ x) l.calls.1
        ∙ sym (append_assoc m.calls.0 l.calls.0 a.calls),
  );
  plan = and_grows a.plan b.plan c.plan l.plan m.plan;
}

makes_on : (news so_far : List Call) (n : ℕ) (call : Call) → Makes so_far n call
    → Makes (news ++ so_far) n call
makes_on [] so_far n call h = h
makes_on (C.Connect feed value ∷ news) so_far n call h = makes_on news so_far n call h
makes_on (_ ∷ news) so_far n call h = inr (makes_on news so_far n call h)

pub makes_later : {library : Library} (so_far later : History library) (n : ℕ) (call : Call)
    → Later so_far later → Makes so_far.calls n call → Makes later.calls n call
makes_later so_far later n call l h = subst (λ c. Makes c n call) (sym l.calls.1)
    (makes_on l.calls.0 so_far.calls n call h)

pub stream_later : {library : Library} (so_far later : History library) (n : ℕ) (t : StreamType)
    → Later so_far later
    → IsStream so_far.calls n t → IsStream later.calls n t
stream_later so_far later n t l h = (h.0, makes_later so_far later n h.0 l h.1, h.2)

pub end_later : (old new : Plan) (side : Side) (end : End) → Grows old new → IsEndOf old side end
    → IsEndOf new side end
end_later old new side (P.Kernel number name) g h = let k = g.kernels in omega arith
end_later old new W.Left (P.Cpu name) g h = g.to_cpu name h
end_later old new W.Right (P.Cpu name) g h = g.from_cpu name h

link_later : (library : Library) (old new : Plan) (side : Side) (end : End) → Grows old new
    → IsLink library old side end → IsLink library new side end
link_later OfKernel old new side end g h = tt
link_later (OfManager kernels) old new side end g h = end_later old new side end g h

block_later : (library : Library) (old new : Plan) (number : ℕ) → Grows old new
    → IsBlock library old number → IsBlock library new number
block_later OfKernel old new number g h = tt
block_later (OfManager kernels) old new number g h = let k = g.kernels in omega arith

pub sound_later : {library : Library} (so_far later : History library) (value : Value)
    → Later so_far later
    → IsHeld so_far value → IsHeld later value
sound_later so_far later (V.Stream n t feed) l h =
    (h.0, stream_later so_far later n t l h.1, λ e. makes_later so_far later n (C.Feed t) l (h.2 e))
sound_later so_far later (V.«Type» t) l h = h
sound_later so_far later (V.Chain n) l h = makes_later so_far later n C.Chain l h
sound_later so_far later (V.Str text) l h = h
sound_later {library = library} so_far later (V.Block number) l h =
    block_later library so_far.plan later.plan number l.plan h
sound_later {library = library} so_far later (V.Link end side) l h =
    link_later library so_far.plan later.plan side end l.plan h
sound_later so_far later _ l h = tt

pub all_later : {library : Library} (so_far later : History library) (values : List Value)
    → Later so_far later
    → AreHeld so_far values → AreHeld later values
all_later so_far later [] l h = tt
all_later so_far later (v ∷ vs) l h =
    (sound_later so_far later v l h.0, all_later so_far later vs l h.1)

pub bound_later : {library : Library} (so_far later : History library) (bs : List Binding)
    → Later so_far later
    → AreBound so_far bs → AreBound later bs
bound_later so_far later [] l h = tt
bound_later so_far later (b ∷ bs) l h =
    (sound_later so_far later b.value l h.0, bound_later so_far later bs l h.1)

pub filled_later : {library : Library} (so_far later : History library) (arrays : List (List Value))
    → Later so_far later
    → AreFilled so_far arrays → AreFilled later arrays
filled_later so_far later [] l h = tt
filled_later so_far later (vs ∷ arrays) l h =
    (all_later so_far later vs l h.0, filled_later so_far later arrays l h.1)

-- a call that makes a node makes the next one
pub newest : (call : Call) (so_far : List Call) → nodes_of call ≡ 1
    → Makes (call ∷ so_far) (count_of so_far) call
newest (C.Connect feed value) so_far e = absurd (omega arith)
newest _ so_far e = inl (refl, refl)
