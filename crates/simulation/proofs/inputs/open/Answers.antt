use Rattle.std.proofs.Common.{ℕ, List, ◌∷◌, [], ◌++◌, map, length, refl, ap, sym, ◌∙◌}
use Rattle.std.specs.Prelude.{slice_get}
use Rattle.std.proofs.lemmas.Iterator.Adapters.{YieldsList-from_vec}
use Rattle.std.proofs.lemmas.Iterator.Consumers.{YieldsList-turn, YieldsList-end}
use Rattle.std.proofs.lemmas.List.{map_push, map-id}
use Rattle.std.proofs.lemmas.Option.{slice_get_read}
use Rattle.mx_base.specs.Files.{Name}
use Rattle.simulation.specs.Inward.{input_of, IsBegun}
use Rattle.simulation.specs.declared.input.Input.{Input}
use Rattle.simulation.proofs.Lists.{each_push}
use Rattle.simulation.proofs.inputs.open.Goals as goal

pub loop-name-init : goal.loop-name-init
loop-name-init c =
    record {
      named = ap (map input_of) c.new-inputs.ensures.items;
      begun = λ k i e. absurd (let q = ap (λ (is : List Input). slice_get is k) (sym c.new-inputs.ensures.items) ∙ e in cc);
    }

pub new-requires-clause-some : goal.new-requires-clause-some
new-requires-clause-some c =
    let gives = c.into_iter-name-iterator.ensures.into_iter_gives in
    let t = YieldsList-turn (YieldsList-from_vec
    {s = c.into_iter-name-iterator.result} c.args.named
    (gives.0 ∙ c.into_vec-name-items.ensures)
    (gives.1 ∙ c.into_vec-name-items.result.ok.0 ∙ ap length c.into_vec-name-items.ensures))
    c.loop-name.yielded c.loop-name.name-iterator c.loop-name.yielded_by c.next.result
    c.next.new.self (c.in-Some.name, c.in-Some.width) c.in-Some.is c.next.ensures.steps in
    (c.requires.widths (length c.loop-name.yielded) (
      c.in-Some.name,
      c.in-Some.width,
    ) (slice_get_read c.args.named (length c.args.named)
    (length c.loop-name.yielded) (c.in-Some.name, c.in-Some.width) refl t.0 t.1)).0

pub new-requires-clause-at_most : goal.new-requires-clause-at_most
new-requires-clause-at_most c =
    let gives = c.into_iter-name-iterator.ensures.into_iter_gives in
    let t = YieldsList-turn (YieldsList-from_vec
    {s = c.into_iter-name-iterator.result} c.args.named
    (gives.0 ∙ c.into_vec-name-items.ensures)
    (gives.1 ∙ c.into_vec-name-items.result.ok.0 ∙ ap length c.into_vec-name-items.ensures))
    c.loop-name.yielded c.loop-name.name-iterator c.loop-name.yielded_by c.next.result
    c.next.new.self (c.in-Some.name, c.in-Some.width) c.in-Some.is c.next.ensures.steps in
    (c.requires.widths (length c.loop-name.yielded) (
      c.in-Some.name,
      c.in-Some.width,
    ) (slice_get_read c.args.named (length c.args.named)
    (length c.loop-name.yielded) (c.in-Some.name, c.in-Some.width) refl t.0 t.1)).1

pub loop-name-preserved : goal.loop-name-preserved
loop-name-preserved c =
    let is = c.in_ok-push.ensures.items in
    record {
      named = ap (map input_of) is ∙ map_push input_of c.loop-name.inputs.items
          c.in_ok-new.field-0 ∙ ap (λ (l : List (Name × ℕ)). l ++ input_of c.in_ok-new.field-0
          ∷ []) c.loop-name.invariant.named ∙ ap (λ (i : Name × ℕ). c.loop-name.yielded ++ i
          ∷ []) c.in_ok-new.ensures.named;
      begun = λ k i e. each_push
          (λ k i. IsBegun i) c.loop-name.inputs.items c.in_ok-new.field-0
          c.loop-name.invariant.begun c.in_ok-new.ensures.begins k i
          (ap (λ (l : List Input). slice_get l k) (sym is) ∙ e);
    }

pub returns-clause-named : goal.returns-clause-named
returns-clause-named c =
    let gives = c.into_iter-name-iterator.ensures.into_iter_gives in
    let t = YieldsList-end (YieldsList-from_vec
    {s = c.into_iter-name-iterator.result} c.args.named
    (gives.0 ∙ c.into_vec-name-items.ensures)
    (gives.1 ∙ c.into_vec-name-items.result.ok.0 ∙ ap length c.into_vec-name-items.ensures))
    c.loop-name.yielded c.loop-name.name-iterator c.loop-name.yielded_by c.next.result
    c.next.new.self c.in-None.is c.next.ensures.steps in
    c.loop-name.invariant.named ∙ sym (map-id c.loop-name.yielded) ∙ t.0

pub returns-clause-begin : goal.returns-clause-begin
returns-clause-begin c = c.loop-name.invariant.begun
