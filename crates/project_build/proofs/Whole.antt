-- What a source builds is a plan such as joins ask for.
use Rattle.std.proofs.Common.{◌≡◌, ℕ, List, Ok, length}
use Rattle.std.specs.Prelude.{All}
use Rattle.std.proofs.lemmas.List.Elements.{All-weaker}
use Rattle.std.proofs.lemmas.Result.{IfOk-at_ok}
use Rattle.kernel_calls.specs.Laws.{IsPortName}
use Rattle.kernel_meaning.specs.declared.plan.End.{End}
use Rattle.kernel_meaning.specs.declared.plan.End.TheVariants as E
use Rattle.kernel_meaning.specs.declared.plan.Join.{Join}
use Rattle.kernel_meaning.specs.declared.plan.Plan.{Plan}
use Rattle.kernel_meaning.specs.declared.plan.Side.TheVariants as W
use Rattle.kernel_meaning.specs.Managers.{source_plan}
use Rattle.kernel_meaning.specs.SoundPlans.{IsEndOf, IsJoined, IsSoundPlan}
use Rattle.kernel_meaning.proofs.SourcePlans.{source_sound}
use Rattle.manager_links.specs.Plans.{IsKnown, IsStreamName, IsManaged, IsWholePlan}
use Rattle.maxj_syntax.specs.Tree.{ClassTree}

left_known : (plan : Plan) (end : End) → IsEndOf plan W.Left end
    → IsKnown (length plan.kernels) plan.to_cpu end
left_known plan (E.Kernel number name) h = h
left_known plan (E.Cpu name) h = h

right_known : (plan : Plan) (end : End) → IsEndOf plan W.Right end
    → IsKnown (length plan.kernels) plan.from_cpu end
right_known plan (E.Kernel number name) h = h
right_known plan (E.Cpu name) h = h

stream_names : (names : List (List ℕ)) → All IsPortName names → All IsStreamName names
stream_names names h =
    All-weaker IsPortName IsStreamName (λ name n. record { plain = n.0; short = n.1 }) names h

joined_managed : (plan : Plan) → IsJoined plan → IsManaged plan
joined_managed plan j = record {
  lefts = All-weaker (λ (join : Join). IsEndOf plan W.Left join.left)
      (λ (join : Join). IsKnown (length plan.kernels) plan.to_cpu join.left)
      (λ join. left_known plan join.left) plan.joins j.lefts;
  rights = All-weaker (λ (join : Join). IsEndOf plan W.Right join.right)
      (λ (join : Join). IsKnown (length plan.kernels) plan.from_cpu join.right)
      (λ join. right_known plan join.right) plan.joins j.rights;
  from_cpu = stream_names plan.from_cpu j.from_cpu;
  to_cpu = stream_names plan.to_cpu j.to_cpu;
}

pub sound_whole : (classes : List ClassTree) (plan : Plan) → IsSoundPlan classes plan
    → IsWholePlan plan
sound_whole classes plan s = record {
  managed = λ e. joined_managed plan (s.managed e);
  alone = λ e. let a = s.alone e in record {
    no_manager = e;
    one_kernel = a.one_kernel;
    none_from_cpu = a.none_from_cpu;
    none_to_cpu = a.none_to_cpu;
    no_joins = a.no_joins;
  };
}

-- the plan of a source
pub plan_sound : (classes : List ClassTree) (plan : Plan) → source_plan classes ≡ Ok plan
    → IsSoundPlan classes plan
plan_sound classes plan e = IfOk-at_ok (IsSoundPlan classes) e (source_sound classes)
