use Rattle.std.proofs.Common.{◌≡◌, ◌∙◌, ◌-◌, false, refl, sym, ap, subst, arith}
use Rattle.std.proofs.lemmas.Bool.{false≢true}
use Rattle.stream_graph.specs.LookUps.{kind_at}
use Rattle.kernel_family.specs.Steps.{keeps}
use Rattle.kernel_words.specs.Streams.{cell_at}
use Rattle.kernel_words.specs.Filling.{is_open}
use Rattle.kernel_words.proofs.Holding.{one_back}
use Rattle.kernel_words.proofs.settle.open_before.Goals as goal

pub returns-then-not-keeps-clause-none : goal.returns-then-not-keeps-clause-none
returns-then-not-keeps-clause-none c = λ s k e.
    absurd (false≢true (sym (sym (c.keeps.ensures ∙ ap keeps (c.kind_of.ensures ∙ ap (kind_at c.args.kernel.now.nodes) c.new.ensures)) ∙ c.if-not-keeps.true) ∙ k))

pub returns-then-place-eq0-clause-none : goal.returns-then-place-eq0-clause-none
returns-then-place-eq0-clause-none c = λ s k e.
    let zeroth = c.if-place-eq0.true in
    absurd (omega (arith, e, zeroth))

pub returns-then-is_open-clause-some : goal.returns-then-is_open-clause-some
returns-then-is_open-clause-some c =
    let tick = c.requires.place.tick in
    record {
      keeper = sym (c.keeps.ensures ∙ ap keeps (c.kind_of.ensures ∙ ap (kind_at c.args.kernel.now.nodes) c.new.ensures)) ∙ c.if-not-keeps.false;
      node = refl;
      tick = one_back c.args.place.tick c.if-place-eq0.false;
      inside = record { node = c.requires.place.node; tick = omega (arith, tick) };
      unknown = sym c.is_open.ensures ∙ c.if-is_open.true;
    }

pub returns-clause-none : goal.returns-clause-none
returns-clause-none c = λ s k e.
    let back : c.args.place.tick - 1 ≡ s = omega (arith, e) in
    subst (λ t. is_open (cell_at c.args.streams.now c.args.place.node t) ≡ false) back (sym c.is_open.ensures ∙ c.if-is_open.false)
