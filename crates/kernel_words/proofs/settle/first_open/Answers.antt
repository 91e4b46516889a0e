use Rattle.std.proofs.Common.{◌≡◌, ◌∙◌, true, Option, Some, None, sym, ap, subst, arith}
use Rattle.std.specs.Prelude.{ℤ, pos, ◌+ℤ◌, ◌<ℤ◌, IfSome, IfNone}
use Rattle.std.proofs.lemmas.Int.{to_z-of_z}
use mir.Val.{to_z, of_z, SFits}
use mir.Syntax.{w32}
use Rattle.stream_graph.specs.LookUps.{kind_at}
use Rattle.kernel_family.specs.declared.place.Place.{Place}
use Rattle.kernel_family.specs.Steps.{ahead, IsStep}
use Rattle.kernel_words.specs.Streams.{cell_at}
use Rattle.kernel_words.specs.Filling.{is_open, IsPlace, AreKnown, IsOpenOperand}
use Rattle.kernel_words.proofs.Taking.{tick_small}
use Rattle.kernel_words.proofs.Stepping.{operand_step, all_known, early_known}
use Rattle.kernel_words.proofs.settle.first_open.Goals as goal

if_some : {X : Type 0} (P Q : X → Type 0) (w : Option X) → ((x : X) → P x → Q x) → IfSome w P → IfSome w Q
if_some P Q None f h = h
if_some P Q (Some x) f h = f x h

if_none : {X : Type 0} (P Q : Type 0) (w : Option X) → (P → Q) → IfNone w P → IfNone w Q
if_none P Q None f h = f h
if_none P Q (Some x) f h = h

pub tick_ahead-requires : goal.tick_ahead-requires
tick_ahead-requires c =
    let nodes = c.requires.nodes in
    let node = c.requires.place.node in
    tick_small c.args.streams.now.nodes c.args.streams.now.ticks c.args.place.tick 16777216 (omega (arith, nodes, node)) c.requires.place.tick c.args.streams.now.few

pub returns-in_err-tick-clause-known : goal.returns-in_err-tick-clause-known
returns-in_err-tick-clause-known c =
    let fits : SFits w32 c.ahead.result = record { sfits = c.ahead.type_inv } in
    let kind : c.ahead.result ≡ ahead (kind_at c.args.kernel.now.nodes c.args.place.node) =
    c.ahead.ensures ∙ ap ahead (c.kind_of.ensures ∙ ap (kind_at c.args.kernel.now.nodes) c.new-node.ensures) in
    let same : to_z w32 (of_z w32 c.ahead.result) ≡ ahead (kind_at c.args.kernel.now.nodes c.args.place.node) = to_z-of_z w32 c.ahead.result fits ∙ kind in
    subst (λ (r : Option Place). IfNone r (AreKnown c.args.kernel.now.nodes c.args.streams.now c.args.place)) (sym c.from_residual.ensures)
    (early_known c.args.kernel.now.nodes c.args.streams.now c.args.place
    (subst (λ (k : ℤ). (pos c.args.place.tick +ℤ k) <ℤ pos 0) same c.in_err-tick.ensures.before) c.in_default.ensures.none)

pub returns-clause-step : goal.returns-clause-step
returns-clause-step c =
    let fits : SFits w32 c.ahead.result = record { sfits = c.ahead.type_inv } in
    let kind : c.ahead.result ≡ ahead (kind_at c.args.kernel.now.nodes c.args.place.node) =
    c.ahead.ensures ∙ ap ahead (c.kind_of.ensures ∙ ap (kind_at c.args.kernel.now.nodes) c.new-node.ensures) in
    let same : to_z w32 (of_z w32 c.ahead.result) ≡ ahead (kind_at c.args.kernel.now.nodes c.args.place.node) = to_z-of_z w32 c.ahead.result fits ∙ kind in
    if_some (IsOpenOperand c.args.kernel.now.nodes c.args.streams.now c.new-node.result c.in_ok-tick.tick) (λ next. IsStep c.args.kernel.now.nodes c.args.place next)
    c.open_operand.result
    (λ b o. operand_step c.args.kernel.now.nodes c.args.streams.now c.args.place b c.new-node.result c.in_ok-tick.tick c.new-node.ensures
    (c.in_ok-tick.ensures.ahead ∙ ap (λ (k : ℤ). pos c.args.place.tick +ℤ k) same) o) c.open_operand.ensures.some

pub returns-clause-place : goal.returns-clause-place
returns-clause-place c =
    if_some (IsOpenOperand c.args.kernel.now.nodes c.args.streams.now c.new-node.result c.in_ok-tick.tick) (λ next. IsPlace c.args.kernel.now.nodes c.args.streams.now.ticks next)
    c.open_operand.result (λ b o. o.inside) c.open_operand.ensures.some

pub returns-clause-unknown : goal.returns-clause-unknown
returns-clause-unknown c =
    if_some (IsOpenOperand c.args.kernel.now.nodes c.args.streams.now c.new-node.result c.in_ok-tick.tick)
    (λ (next : Place). is_open (cell_at c.args.streams.now next.node next.tick) ≡ true) c.open_operand.result (λ b o. o.unknown) c.open_operand.ensures.some

pub returns-clause-known : goal.returns-clause-known
returns-clause-known c =
    let fits : SFits w32 c.ahead.result = record { sfits = c.ahead.type_inv } in
    let kind : c.ahead.result ≡ ahead (kind_at c.args.kernel.now.nodes c.args.place.node) =
    c.ahead.ensures ∙ ap ahead (c.kind_of.ensures ∙ ap (kind_at c.args.kernel.now.nodes) c.new-node.ensures) in
    let same : to_z w32 (of_z w32 c.ahead.result) ≡ ahead (kind_at c.args.kernel.now.nodes c.args.place.node) = to_z-of_z w32 c.ahead.result fits ∙ kind in
    if_none _ _ c.open_operand.result
    (all_known c.args.kernel.now.nodes c.args.streams.now c.args.place c.new-node.result c.in_ok-tick.tick c.new-node.ensures
    (c.in_ok-tick.ensures.ahead ∙ ap (λ (k : ℤ). pos c.args.place.tick +ℤ k) same) c.in_default.ensures.none) c.open_operand.ensures.none
