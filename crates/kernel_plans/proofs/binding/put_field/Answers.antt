use Rattle.std.proofs.Common.{rules, ◌≡◌, ◌∷◌, ap, sym, ◌∙◌}
use Rattle.maxj_syntax.specs.declared.tree.NodeKind.TheVariants as N
use Rattle.kernel_meaning.specs.declared.value.Value.TheVariants as V
use Rattle.kernel_meaning.specs.Constructors.{ahead}
use Rattle.kernel_plans.proofs.Parameters.{ahead_field}
use Rattle.kernel_plans.proofs.binding.put_field.Goals as goal

pub returns : goal.returns
returns c =
    let cells = c.args.tree.now in
    let b = c.branch_at-field.result in
    let k : b.kind ≡ N.Field = search rules in
    let name : c.from_vec-name.result ≡ b.word.now = search rules in
    let of = c.type_ahead-of.result in
    c.in_ok-push.ensures.ok
    ∙ (ap (λ w. record { name = w; of = of; value = V.Nothing } ∷ c.args.fields.now) name
    ∙ sym (ap (λ t. ahead t c.args.fields.now) c.branch_at-field.ensures.tree
    ∙ (ahead_field cells b.kind b.word.now b.span b.id b.children.now c.part.result c.args.fields.now
    k c.if-parts-eq0.false c.part.ensures.before c.part.ensures.missing
    ∙ c.type_ahead-of.ensures b.word.now c.args.fields.now)))
