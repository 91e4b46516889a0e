use Rattle.std.proofs.Common.{rules, ◌≡◌, ◌∷◌, true, false, Ok, ap, sym, ◌∙◌}
use Rattle.std.specs.Prelude.{is_some}
use Rattle.kernel_meaning.specs.declared.error.EvalError.TheVariants as E
use Rattle.kernel_meaning.specs.Methods.{body_by, bound_by}
use Rattle.kernel_meaning.specs.Names.{bound_in}
use Rattle.kernel_meaning.specs.Values.{has_kind}
use Rattle.kernel_plans.proofs.Parameters.{step, no_step, failed, twice, wrong, right}
use Rattle.kernel_plans.proofs.binding.bind.Goals as goal

pub returns-then-parts-ne1-clause-bound : goal.returns-then-parts-ne1-clause-bound
returns-then-parts-ne1-clause-bound c = λ wanted trees values.
    let b = c.args.parameter.now in
    no_step c.args.tree.now b.kind b.word.now b.span b.id b.children.now wanted c.args.user trees
    c.args.value values c.args.variables.now c.if-parts-ne1.true

pub returns-in-Err-clause-bound : goal.returns-in-Err-clause-bound
returns-in-Err-clause-bound c = λ wanted trees values.
    let b = c.args.parameter.now in
    let a = c.args in
    step a.tree.now b.kind b.word.now b.span b.id b.children.now c.part.result wanted a.user trees
    a.value values a.variables.now c.if-parts-ne1.false c.part.ensures.before c.part.ensures.missing
    ∙ (ap (λ d. body_by wanted a.user trees values
    (bound_by a.user b.span.from b.word.now a.value a.variables.now d))
    (sym c.declared_by.ensures ∙ c.in-Err.is)
    ∙ failed wanted a.user trees values (E.UnknownName c.in-Err.place))

pub returns-then-is_bound-clause-bound : goal.returns-then-is_bound-clause-bound
returns-then-is_bound-clause-bound c = λ wanted trees values.
    let b = c.args.parameter.now in
    let a = c.args in
    let bound : is_some (bound_in b.word.now a.variables.now) ≡ true = search rules in
    step a.tree.now b.kind b.word.now b.span b.id b.children.now c.part.result wanted a.user trees
    a.value values a.variables.now c.if-parts-ne1.false c.part.ensures.before c.part.ensures.missing
    ∙ (ap (λ d. body_by wanted a.user trees values
    (bound_by a.user b.span.from b.word.now a.value a.variables.now d))
    (sym c.declared_by.ensures ∙ c.in-Ok.is)
    ∙ (ap (body_by wanted a.user trees values)
    (twice a.user b.span.from b.word.now a.value a.variables.now c.in-Ok.of bound)
    ∙ failed wanted a.user trees values (E.NameTwice b.span.from)))

pub returns-then-not-has_kind-clause-bound : goal.returns-then-not-has_kind-clause-bound
returns-then-not-has_kind-clause-bound c = λ wanted trees values.
    let b = c.args.parameter.now in
    let a = c.args in
    let free : is_some (bound_in b.word.now a.variables.now) ≡ false = search rules in
    let kind : has_kind c.in-Ok.of a.value ≡ false = search rules in
    step a.tree.now b.kind b.word.now b.span b.id b.children.now c.part.result wanted a.user trees
    a.value values a.variables.now c.if-parts-ne1.false c.part.ensures.before c.part.ensures.missing
    ∙ (ap (λ d. body_by wanted a.user trees values
    (bound_by a.user b.span.from b.word.now a.value a.variables.now d))
    (sym c.declared_by.ensures ∙ c.in-Ok.is)
    ∙ (ap (body_by wanted a.user trees values)
    (wrong a.user b.span.from b.word.now a.value a.variables.now c.in-Ok.of free kind)
    ∙ failed wanted a.user trees values (E.WrongKind a.user)))

pub returns-clause-bound : goal.returns-clause-bound
returns-clause-bound c = λ wanted trees values.
    let b = c.args.parameter.now in
    let a = c.args in
    let free : is_some (bound_in b.word.now a.variables.now) ≡ false = search rules in
    let kind : has_kind c.in-Ok.of a.value ≡ true = search rules in
    let name : c.from_vec-name.result ≡ b.word.now = search rules in
    step a.tree.now b.kind b.word.now b.span b.id b.children.now c.part.result wanted a.user trees
    a.value values a.variables.now c.if-parts-ne1.false c.part.ensures.before c.part.ensures.missing
    ∙ (ap (λ d. body_by wanted a.user trees values
    (bound_by a.user b.span.from b.word.now a.value a.variables.now d))
    (sym c.declared_by.ensures ∙ c.in-Ok.is)
    ∙ ap (body_by wanted a.user trees values)
    (right a.user b.span.from b.word.now a.value a.variables.now c.in-Ok.of free kind
    ∙ ap Ok (ap (λ w. record { name = w; of = c.in-Ok.of; value = a.value } ∷ a.variables.now)
    (sym name) ∙ sym c.in_ok-push.ensures.ok)))
