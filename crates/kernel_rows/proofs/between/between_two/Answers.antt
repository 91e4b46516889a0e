-- A sign between streams, or one between the two values.
use Rattle.std.proofs.Common.{◌≡◌, ◌∙◌, ◌∷◌, [], ap, sym, subst, true, false}
use Rattle.std.specs.Option.{is_some}
use Rattle.kernel_meaning.specs.Answer.{Does}
use Rattle.kernel_meaning.specs.StreamRows as Rows
use Rattle.kernel_meaning.specs.SignRows as Signs
use Rattle.kernel_rows.specs.Given.{IsDone}
use Rattle.kernel_rows.proofs.HostPairs.{pair_of_stream, pair_of_host, refused_on}
use Rattle.kernel_rows.proofs.SignPairs.{two_items}
use Rattle.kernel_rows.proofs.between.between_two.Goals as goal

pub returns-then-is_some-clause-done : goal.returns-then-is_some-clause-done
returns-then-is_some-clause-done c =
    let a = c.args in
    let some : is_some (Rows.first_stream a.values.now) ≡ true =
    sym (ap is_some c.first_stream.ensures.first)
    ∙ (sym c.is_some.ensures ∙ c.if-is_some.true) in
    subst (λ o. IsDone c.stream_between.new.state o c.stream_between.result)
    (sym (pair_of_stream a.sign a.at a.values.now a.state.now some)) c.stream_between.ensures.done

pub returns-in_err-value-clause-done : goal.returns-in_err-value-clause-done
returns-in_err-value-clause-done c =
    let a = c.args in
    let x = c.first-item.result in
    let y = c.second-item.result in
    let values = two_items a.values.now x y c.in-len2.len_at_least c.in-len2.len_below
    c.first-item.is c.second-item.is in
    let none : is_some (Rows.first_stream (x ∷ y ∷ [])) ≡ false =
    ap (λ l. is_some (Rows.first_stream l)) (sym values)
    ∙ (sym (ap is_some c.first_stream.ensures.first)
    ∙ (sym c.is_some.ensures ∙ c.if-is_some.false)) in
    refused_on a.state.now _ _ c.from_residual.result c.in_err-value.field-0.0
    c.from_residual.ensures.0 c.from_residual.ensures.1
    (ap (λ l. Signs.between_two a.sign a.at l a.state.now) values
    ∙ pair_of_host a.sign a.at x y a.state.now none) (c.in_err-value.ensures a.state.now)

pub returns-clause-done : goal.returns-clause-done
returns-clause-done c =
    let a = c.args in
    let x = c.first-item.result in
    let y = c.second-item.result in
    let values = two_items a.values.now x y c.in-len2.len_at_least c.in-len2.len_below
    c.first-item.is c.second-item.is in
    let none : is_some (Rows.first_stream (x ∷ y ∷ [])) ≡ false =
    ap (λ l. is_some (Rows.first_stream l)) (sym values)
    ∙ (sym (ap is_some c.first_stream.ensures.first)
    ∙ (sym c.is_some.ensures ∙ c.if-is_some.false)) in
    ap (λ l. Signs.between_two a.sign a.at l a.state.now) values
    ∙ (pair_of_host a.sign a.at x y a.state.now none
    ∙ (c.in_ok-value.ensures a.state.now
    ∙ (ap (λ l. Does l c.in_ok-value.value a.state.now) (sym c.value.ensures.calls)
    ∙ ap (λ v. Does c.value.result.calls v a.state.now) (sym c.value.ensures.value))))
