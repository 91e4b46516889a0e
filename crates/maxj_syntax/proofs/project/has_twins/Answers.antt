use Rattle.std.proofs.Common.{◌∙◌, true, cond, sym, ap, arith}
use Rattle.std.proofs.lemmas.List.{take_all}
use Rattle.maxj_syntax.specs.declared.tree.Class.{Class}
use Rattle.maxj_syntax.proofs.Twins.{is, names, twice, has_twins_is, seen_at, found, none_more}
use Rattle.maxj_syntax.proofs.project.has_twins.Goals as goal

pub returns-then-not-branch : goal.returns-then-not-branch
returns-then-not-branch c =
    let l = c.loop-class in
    let name = c.as_bytes.result in
    let new = c.in_ok-insert in
    λ nodes trees a. sym (has_twins_is nodes c.args.classes.now trees a ∙ found
    c.args.classes.now l.class-index c.class-item.result name.now _ new.field-0
    (omega arith) (c.as_bytes.ensures ∙ ap (λ
    (x : Class). x.name) c.class-item.is) new.ensures.added
    (l.invariant.seen name) c.if-not-branch.true)

pub loop-class-preserved : goal.loop-class-preserved
loop-class-preserved c =
    let l = c.loop-class in
    let name = c.as_bytes.result in
    let new = c.in_ok-insert in
    let same = c.as_bytes.ensures ∙ ap (λ (x : Class). x.name) c.class-item.is in
    record {
      seen = λ q. new.ensures.updates.0 q ∙ ap (cond (is name q) true) (l.invariant.seen q) ∙ seen_at c.args.classes.now l.class-index c.class-item.result name q (omega arith) same;
      none = none_more c.args.classes.now l.class-index c.class-item.result name.now _ new.field-0 (omega arith) same new.ensures.added (l.invariant.seen name) c.if-not-branch.false l.invariant.none;
    }

pub returns : goal.returns
returns c = λ nodes trees a.
    let all = take_all c.loop-class.class-index c.args.classes.now (omega arith) in
    sym (has_twins_is nodes c.args.classes.now trees a ∙ ap (λ l. twice (names l)) (sym all) ∙ c.loop-class.invariant.none)
