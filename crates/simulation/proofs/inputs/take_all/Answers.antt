use Rattle.std.proofs.Common.{◌≡◌, ◌≢◌, None, get_or, ap, ◌∙◌, arith}
use Rattle.std.proofs.lemmas.Option.{slice_get-get_or}
use Rattle.word_files.specs.declared.reader.WordReader.{WordReader}
use Rattle.simulation.specs.Inward.{input_of}
use Rattle.simulation.specs.declared.input.Input.{Input}
use Rattle.simulation.proofs.Lists.{map_set_same, get_set_other, each_set}
use Rattle.simulation.proofs.Looking.{taken_more}
use Rattle.simulation.proofs.inputs.take_all.Goals as goal

pub loop-k-preserved : goal.loop-k-preserved
loop-k-preserved c =
    let l = c.loop-k in
    let x = get_or l.inputs l.k c.index-inputs-k.result in
    let at = slice_get-get_or l.inputs l.k c.index-inputs-k.result (omega (arith, l.auto.inputs)) in
    record {
      named = map_set_same input_of l.inputs l.k x c.take.new.self at (ap (λ r. (r.name, r.width)) c.take.ensures.reader) ∙ l.invariant.named;
      unrefused = λ u. each_set (λ j (i : Input). i.reader.refusal
          ≡ None) l.inputs l.k c.take.new.self (l.invariant.unrefused u)
          (ap (λ (r : WordReader). r.refusal) c.take.ensures.reader ∙ l.invariant.unrefused u
          l.k x at);
      taken = taken_more c.args.events.now c.args.inputs.now l.inputs l.k x c.take.new.self at (l.invariant.others l.k (omega arith)) c.take.ensures l.invariant.taken;
      others = λ j le. (let n : j ≢ l.k = omega arith in get_set_other l.inputs l.k j c.take.new.self n ∙ l.invariant.others j (omega arith));
    }

pub returns-clause-taken : goal.returns-clause-taken
returns-clause-taken c = λ k i j lt e f. c.loop-k.invariant.taken k i j (omega arith) e f
