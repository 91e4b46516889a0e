use Rattle.std.proofs.Common.{◌≡◌, ◌∙◌, ℕ, ◌<◌, ◌^◌, [], cond, get_or, Option, Some, None, refl, ap, sym}
use Rattle.std.specs.Prelude.{IfSome, slice_get}
use Rattle.stream_graph.specs.LookUps.{width_at}
use Rattle.stream_equations.specs.Equations.{chosen, enabled, count_before}
use Rattle.kernel_words.specs.Streams.{values_of}
use Rattle.kernel_words.proofs.Taking.{got, chosen_some, chosen_none}
use Rattle.kernel_words.proofs.evaluate.input_word.Goals as goal

if_some : (w : Option ℕ) (m : ℕ) → ((x : ℕ) → w ≡ Some x → x < m) → IfSome w (λ x. x < m)
if_some None m h = tt
if_some (Some x) m h = h x refl

pub returns-then-not-is_enabled-clause-right : goal.returns-then-not-is_enabled-clause-right
returns-then-not-is_enabled-clause-right c =
    sym (ap (λ b. cond b (chosen (get_or c.args.run.now.sources c.args.node [])
    (count_before (enabled c.args.kernel.now.nodes (values_of c.args.streams.now) c.args.node) c.args.tick)) None)
    (sym c.is_enabled.ensures ∙ c.if-not-is_enabled.true))

pub returns-in-Some-clause-right : goal.returns-in-Some-clause-right
returns-in-Some-clause-right c =
    let words : get_or c.args.run.now.sources c.args.node [] ≡ c.at-words.result.now =
    ap (λ n. get_or c.args.run.now.sources n []) (sym c.index.ensures.number) ∙ got c.args.run.now.sources c.index.result c.at-words.result.now [] c.at-words.ensures in
    let found : Some c.in-Some.word.now ≡ slice_get c.at-words.result.now c.args.taken = c.in-Some.ensures in
    chosen_some c.at-words.result.now c.args.taken c.in-Some.word.now (sym found)
    ∙ ap (λ ws. chosen ws c.args.taken) (sym words) ∙ ap (chosen (get_or c.args.run.now.sources c.args.node [])) c.requires.taken
    ∙ sym (ap (λ b. cond b (chosen (get_or c.args.run.now.sources c.args.node [])
    (count_before (enabled c.args.kernel.now.nodes (values_of c.args.streams.now) c.args.node) c.args.tick)) None)
    (sym c.is_enabled.ensures ∙ c.if-not-is_enabled.false))

pub returns-in-Some-clause-small : goal.returns-in-Some-clause-small
returns-in-Some-clause-small c =
    let words : get_or c.args.run.now.sources c.args.node [] ≡ c.at-words.result.now =
    ap (λ n. get_or c.args.run.now.sources n []) (sym c.index.ensures.number) ∙ got c.args.run.now.sources c.index.result c.at-words.result.now [] c.at-words.ensures in
    let found : Some c.in-Some.word.now ≡ slice_get c.at-words.result.now c.args.taken = c.in-Some.ensures in
    if_some c.in-Some.word.now (2 ^ width_at c.args.kernel.now.nodes c.args.node)
    (λ x e. c.requires.given.word c.args.node c.args.taken x c.requires.node
    (ap (λ ws. chosen ws c.args.taken) words ∙ sym (chosen_some c.at-words.result.now c.args.taken c.in-Some.word.now (sym found)) ∙ e))

pub returns-in-None-clause-right : goal.returns-in-None-clause-right
returns-in-None-clause-right c =
    let words : get_or c.args.run.now.sources c.args.node [] ≡ c.at-words.result.now =
    ap (λ n. get_or c.args.run.now.sources n []) (sym c.index.ensures.number) ∙ got c.args.run.now.sources c.index.result c.at-words.result.now [] c.at-words.ensures in
    let found : None ≡ slice_get c.at-words.result.now c.args.taken = c.in-None.ensures in
    chosen_none c.at-words.result.now c.args.taken (sym found)
    ∙ ap (λ ws. chosen ws c.args.taken) (sym words) ∙ ap (chosen (get_or c.args.run.now.sources c.args.node [])) c.requires.taken
    ∙ sym (ap (λ b. cond b (chosen (get_or c.args.run.now.sources c.args.node [])
    (count_before (enabled c.args.kernel.now.nodes (values_of c.args.streams.now) c.args.node) c.args.tick)) None)
    (sym c.is_enabled.ensures ∙ c.if-not-is_enabled.false))
