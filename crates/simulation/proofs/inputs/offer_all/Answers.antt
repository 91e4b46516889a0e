use Rattle.std.proofs.Common.{◌≡◌, ◌<◌, ℕ, List, Some, None, false, map, length, get_or, ap, sym, ◌∙◌, subst, arith}
use Rattle.std.specs.Prelude.{slice_get}
use Rattle.std.proofs.lemmas.List.{length-map}
use Rattle.std.proofs.lemmas.Option.{slice_get-get_or, slice_get_within}
use Rattle.std.proofs.lemmas.Result.{err_from_is_err_and}
use Rattle.mx_base.specs.Counts.{Rose}
use Rattle.mx_base.specs.Files.{Name, Held}
use Rattle.simulation.specs.declared.input.Input.{Input}
use Rattle.simulation.specs.Inward.{input_of, IsAt, IsReady, Stops}
use Rattle.simulation.proofs.Lists.{each_set, map_set_same, map_at, same_some}
use Rattle.simulation.proofs.Looking.{at_more, ready_more, words_more, first_stop}
use Rattle.simulation.proofs.inputs.offer_all.Goals as goal

pub look-requires : goal.look-requires
look-requires g c =
    let l = c.loop-k in
    record { unrefused = l.invariant.unrefused l.k _ (slice_get-get_or l.inputs l.k c.index-inputs-k.result (omega (arith, l.auto.inputs))) }

pub loop-k-preserved : goal.loop-k-preserved
loop-k-preserved g c =
    let l = c.loop-k in
    let held = g.F.Files.held c.args.files.now in
    let x = get_or l.inputs l.k c.index-inputs-k.result in
    let at = slice_get-get_or l.inputs l.k c.index-inputs-k.result (omega (arith, l.auto.inputs)) in
    let lt : l.k < length l.offers = omega (arith, l.auto.offers, c.requires.offers) in
    let e = c.in_ok-offers.ensures in
    let here : slice_get (map input_of c.args.inputs.now) l.k ≡ Some (input_of x) = ap (λ (is : List (Name × ℕ)). slice_get is l.k) (sym l.invariant.named) ∙ map_at input_of l.inputs l.k x at in
    record {
      same = e.same ∙ l.invariant.same;
      quiet = e.quiet (λ q. cc) ∙ l.invariant.quiet;
      write_quiet = e.write_quiet ∙ l.invariant.write_quiet;
      named = map_set_same input_of l.inputs l.k x c.look.new.self at e.named ∙ l.invariant.named;
      unrefused = each_set (λ j (i : Input). i.reader.refusal ≡ None) l.inputs l.k c.look.new.self l.invariant.unrefused e.unrefused;
      words = words_more (map input_of c.args.inputs.now) l.offers l.k c.in_ok-offers.field-0
          x.reader.width lt (λ i q. ap (λ (n : Name
          × ℕ). n.1) (same_some (slice_get (map input_of c.args.inputs.now) l.k) i
          (input_of x) q here)) e.word l.invariant.words;
      stand = λ fs lefts are.
          at_more held fs lefts l.inputs l.k x c.look.new.self at
          (λ f left h. subst (λ (o : Held). IsAt o f left c.look.new.self) l.invariant.same (e.stands f left (subst (λ (o : Held). IsAt o f left x) (sym l.invariant.same) h)))
          (l.invariant.stand fs lefts are);
      ready = λ fs lefts are.
          ready_more held c.args.stalled.now fs lefts l.inputs l.offers l.k x c.look.new.self c.in_ok-offers.field-0 lt at
          (λ f left h. subst (λ (o : Held). IsReady o
          (get_or c.args.stalled.now l.k false) f left c.look.new.self
          c.in_ok-offers.field-0) l.invariant.same (e.ready f left
          (subst (λ (o : Held). IsAt o f left x) (sym l.invariant.same) h)))
          (l.invariant.stand fs lefts are) (l.invariant.ready fs lefts are);
    }

pub returns-in_err-offers-clause-named : goal.returns-in_err-offers-clause-named
returns-in_err-offers-clause-named g c =
    let l = c.loop-k in
    let at = slice_get-get_or l.inputs l.k c.index-inputs-k.result (omega (arith, l.auto.inputs)) in
    map_set_same input_of l.inputs l.k (get_or l.inputs l.k c.index-inputs-k.result) c.look.new.self at c.in_err-offers.ensures.named ∙ l.invariant.named

pub returns-in_err-offers-clause-stopped : goal.returns-in_err-offers-clause-stopped
returns-in_err-offers-clause-stopped g c = λ fs lefts are.
    let l = c.loop-k in
    let held = g.F.Files.held c.args.files.now in
    let x = get_or l.inputs l.k c.index-inputs-k.result in
    let at = slice_get-get_or l.inputs l.k c.index-inputs-k.result (omega (arith, l.auto.inputs)) in
    let e = c.in_err-offers.ensures in
    let p = err_from_is_err_and c.from_residual.result c.from_residual.ensures.1 in
    rw (p.1, p.2)
    (first_stop held _ c.args.stalled.now fs lefts l.inputs l.offers l.k x c.in_err-offers.field-0.0 at e.free
    (λ f left h.
    subst (λ (n : ℕ). Stops held (Rose n (g.F.Files.read_faults c.look.new.files)) f left c.in_err-offers.field-0.0) l.invariant.quiet
    (subst (λ (o : Held). Stops o (Rose (g.F.Files.read_faults l.files) (g.F.Files.read_faults c.look.new.files)) f left c.in_err-offers.field-0.0) l.invariant.same
    (e.stopped f left (subst (λ (o : Held). IsAt o f left x) (sym l.invariant.same) h))))
    (l.invariant.stand fs lefts are) (l.invariant.ready fs lefts are))

pub returns-clause-words : goal.returns-clause-words
returns-clause-words g c = λ j i e.
    c.loop-k.invariant.words j i (let w = slice_get_within (map input_of c.args.inputs.now) j i e in omega (arith, length-map c.args.inputs.now input_of)) e

pub returns-clause-ready : goal.returns-clause-ready
returns-clause-ready g c = λ fs lefts are j f left i lt. c.loop-k.invariant.ready fs lefts are j f left i (omega arith)
