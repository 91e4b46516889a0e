use Rattle.std.proofs.Common.{◌+◌, ap, ◌∙◌}
use Rattle.stream_graph_tests.proofs.Steps.{room, received}
use Rattle.stream_graph_tests.proofs.sum3.make.Goals as goal

pub output-y-requires : goal.output-y-requires
output-y-requires g c =
    let m1 = c.input-x.ensures.count ∙ ap (λ n. n + 1) c.requires.first in
    let m2 = c.offset-before.ensures.count ∙ ap (λ n. n + 1) m1 in
    let m3 = c.in_ok-two.ensures.count ∙ ap (λ n. n + 1) m2 in
    let m4 = c.offset-after.ensures.count ∙ ap (λ n. n + 1) m3 in
    room g.B.Builder.has_room g.B.Builder.receives
    c.args.builder.now c.input-x.new.self c.offset-before.new.self c.add.new.builder c.offset-after.new.self c.add-2.new.builder _ _ _ _ _
    (record {
      x_is = c.input-x.ensures.number ∙ c.requires.first;
      before_is = c.offset-before.ensures.number ∙ m1;
      two_is = c.in_ok-two.ensures.number ∙ m2;
      after_is = c.offset-after.ensures.number ∙ m3;
      three_is = c.in_ok-three.ensures.number ∙ m4;
      first = c.input-x.ensures.call;
      second = c.offset-before.ensures.call;
      third = c.in_ok-two.ensures.call;
      fourth = c.offset-after.ensures.call;
      fifth = c.in_ok-three.ensures.call;
    }) c.requires.room

pub returns : goal.returns
returns g c =
    let m1 = c.input-x.ensures.count ∙ ap (λ n. n + 1) c.requires.first in
    let m2 = c.offset-before.ensures.count ∙ ap (λ n. n + 1) m1 in
    let m3 = c.in_ok-two.ensures.count ∙ ap (λ n. n + 1) m2 in
    let m4 = c.offset-after.ensures.count ∙ ap (λ n. n + 1) m3 in
    received g.B.Builder.has_room g.B.Builder.receives
    c.args.builder.now c.input-x.new.self c.offset-before.new.self c.add.new.builder c.offset-after.new.self c.add-2.new.builder c.output-y.new.self _ _ _ _ _
    (record {
      x_is = c.input-x.ensures.number ∙ c.requires.first;
      before_is = c.offset-before.ensures.number ∙ m1;
      two_is = c.in_ok-two.ensures.number ∙ m2;
      after_is = c.offset-after.ensures.number ∙ m3;
      three_is = c.in_ok-three.ensures.number ∙ m4;
      first = c.input-x.ensures.call;
      second = c.offset-before.ensures.call;
      third = c.in_ok-two.ensures.call;
      fourth = c.offset-after.ensures.call;
      fifth = c.in_ok-three.ensures.call;
    }) c.output-y.ensures.call
