use Rattle.std.proofs.Common.{◌≤◌, ◌^◌, refl, sym, ap, ◌∙◌, subst}
use Rattle.project_words.specs.Given.{given_of, word_count}
use Rattle.project_words.specs.Words.{values_of}
use Rattle.stream_expect.specs.Widths.{HaveHostWidths}
use Rattle.stream_expect.proofs.Counting.{are_few}
use Rattle.stream_expect.proofs.Widths.{host_widths}
use Rattle.stream_expect.proofs.expecting.expect.Goals as goal

pub unbalanced_link-requires-clause-few : goal.unbalanced_link-requires-clause-few
unbalanced_link-requires-clause-few c =
    let kernels = c.args.project.now.kernels in
    let run = c.args.run.now in
    are_few kernels (given_of run) c.in_ok-words.words run.ticks (λ k. refl) c.in_ok-words.ensures.ticks
    (subst (λ n. n ≤ 2 ^ 24)
    (c.word_count-count.ensures
    ∙ ap (λ ks. word_count ks c.as_slice.result.now) c.kernels.ensures
    ∙ ap (word_count kernels) c.as_slice.ensures)
    c.if-count-gt-MOST_WORDS.false)

pub returns-clause-is : goal.returns-clause-is
returns-clause-is c =
    let given = given_of c.args.run.now in
    let have = c.in_ok-words.ensures.ticks in
    record {
      values = values_of c.in_ok-words.words;
      equations = c.in_ok-words.ensures.equations;
      outputs = c.in_ok-outputs.ensures given have;
      guarded = c.unguarded_place.ensures given have;
      balanced = c.in_ok-unbalanced.ensures given have;
    }

pub returns-clause-widths : goal.returns-clause-widths
returns-clause-widths c =
    let project = c.args.project.now in
    let given = given_of c.args.run.now in
    subst (HaveHostWidths project.joints.outputs) (sym (c.in_ok-outputs.ensures given c.in_ok-words.ensures.ticks))
    (host_widths project given c.in_ok-words.words c.in_ok-words.ensures.words)
