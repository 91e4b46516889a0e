-- The tally counts the calls, the graph takes them, and they are lawful.
use Rattle.std.proofs.Common.{[], map, sym, subst}
use Rattle.kernel_calls.specs.Laws.{Received, AreLawful}
use Rattle.kernel_meaning.specs.Answer.{calls_of}
use Rattle.kernel_meaning.specs.Constructors.{building_run, value_of_arg}
use Rattle.kernel_meaning.proofs.WholeRun.{all_lawful}
use Rattle.stream_graph.specs.Counts.{Counted}
use Rattle.stream_graph.specs.Kernels.{IsSound}
use Rattle.stream_graph.specs.Nodes.{later, AreNodes}
use Rattle.kernel_eval.proofs.Making.{run-refused, graph-refused, calls-alone}
use Rattle.kernel_eval.proofs.Programs.{tally-room, sound-args}
use Rattle.kernel_eval.proofs.Way.{room_below}
use Rattle.kernel_eval.proofs.building.build_kernel.Goals as goal

pub eval-requires-clause-room : goal.eval-requires-clause-room
eval-requires-clause-room c kernel at =
    tally-room (calls_of (building_run kernel (map value_of_arg c.args.args.now)))
    c.new-tally.result

pub eval-requires-2-clause-room : goal.eval-requires-2-clause-room
eval-requires-2-clause-room c kernel at =
    let calls = calls_of (building_run kernel (map value_of_arg c.args.args.now)) in
    let counted = c.in_default.ensures kernel at in
    room_below _ _ _ calls c.in-Ok.graph
    (c.in-Ok.ensures.room calls
    (subst (λ tally. Received Counted tally calls c.eval.new.builder) c.new-tally.ensures.empty
    counted.1))

pub finish-requires-clause-lawful : goal.finish-requires-clause-lawful
finish-requires-clause-lawful c =
    let kernel = c.requires.kernel in
    let args = map value_of_arg c.args.args.now in
    let calls = calls_of (building_run kernel.0 args) in
    subst (AreLawful [])
    (sym (calls-alone calls c.in-Ok.graph c.eval-2.new.builder c.in-Ok.ensures.empty
    (c.in_default-eval.ensures kernel.0 kernel.1).1))
    (all_lawful kernel.0 args (sound-args c.args.args.now c.requires.typed))

pub returns-in-Err : goal.returns-in-Err
returns-in-Err c kernel at =
    run-refused _ _ _ (building_run kernel (map value_of_arg c.args.args.now)) c.args.name
    c.in-Err.error (c.in-Err.ensures kernel at)

pub returns-in-Ok-finish : goal.returns-in-Ok-finish
returns-in-Ok-finish c kernel at =
    let run = building_run kernel (map value_of_arg c.args.args.now) in
    let made = c.in_default-eval.ensures kernel at in
    let same = calls-alone (calls_of run) c.in-Ok.graph c.eval-2.new.builder
    c.in-Ok.ensures.empty made.1 in
    record {
      ends = made.0;
      sound = subst IsSound same c.in-Ok-finish.ensures.sound;
      nodes =
          subst (λ calls. AreNodes (later [] calls) c.in-Ok-finish.kernel.nodes) same
          c.in-Ok-finish.ensures.nodes;
      named = c.in-Ok-finish.ensures.name;
    }

pub returns-in-Err-finish : goal.returns-in-Err-finish
returns-in-Err-finish c kernel at =
    let run = building_run kernel (map value_of_arg c.args.args.now) in
    let made = c.in_default-eval.ensures kernel at in
    let same = calls-alone (calls_of run) c.in-Ok.graph c.eval-2.new.builder
    c.in-Ok.ensures.empty made.1 in
    graph-refused run c.args.name _ c.in-Err-finish.error made.0 same c.in-Err-finish.ensures.err
