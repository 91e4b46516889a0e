use Rattle.std.proofs.Common.{◌≡◌, suc, ◌+◌, ◌-◌, ◌<◌, ◌∷◌, length, drop, ap, sym, ◌∙◌, arith}
use Rattle.std.specs.Prelude.{bytes_eq, cond, Some}
use Rattle.std.specs.Map.{lookup}
use Rattle.kernel_plans.specs.Tables.{named_in}
use Rattle.kernel_plans.proofs.Parts.{past_end, split_or}
use Rattle.kernel_plans.proofs.KernelNumbers.{number_from, put_kernel, skip_manager, all_numbers, plain_names}
use Rattle.kernel_plans.proofs.kernels.KernelClasses.new.Goals as goal

pub loop-place-init : goal.loop-place-init
loop-place-init c = λ name.
    ap (lookup (λ key. bytes_eq name key.now)) c.new-numbers.ensures.empty
    ∙ ap (λ l. number_from (length c.args.classes.now) l name) (sym (past_end c.args.classes.now))

pub loop-place-preserved-in_ok-insert : goal.loop-place-preserved-in_ok-insert
loop-place-preserved-in_ok-insert c = λ name.
    let classes = c.args.classes.now in
    let place = c.loop-place.place in
    let class = c.index-classes-place.result in
    let within : place - 1 < length classes =
    omega (arith, c.loop-place-test.true, c.loop-place.auto.place) in
    let next : place ≡ suc (place - 1) = omega (arith, c.loop-place-test.true) in
    let after : place ≡ place - 1 + 1 = omega (arith, c.loop-place-test.true) in
    let key = c.as_bytes.result in
    let split : drop (place - 1) classes ≡ class ∷ drop place classes =
    split_or classes (place - 1) class within
    ∙ (ap (λ x. x ∷ drop (suc (place - 1)) classes) (sym c.index-classes-place.is)
    ∙ ap (λ p. class ∷ drop p classes) (sym next)) in
    put_kernel (place - 1) class (drop place classes) name
    (named_in c.insert.new.self name) (named_in c.loop-place.numbers name) c.if-not-class.true
    (c.in_ok-insert.ensures.updates.0 (record { ref_ptr = key.ref_ptr; now = name })
    ∙ ap (λ w. cond (bytes_eq w name) (Some (place - 1)) (named_in c.loop-place.numbers name))
    c.as_bytes.ensures)
    (c.loop-place.invariant name ∙ ap (λ p. number_from p (drop place classes) name) after)
    ∙ ap (λ l. number_from (place - 1) l name) (sym split)

pub loop-place-preserved : goal.loop-place-preserved
loop-place-preserved c = λ name.
    let classes = c.args.classes.now in
    let place = c.loop-place.place in
    let class = c.index-classes-place.result in
    let within : place - 1 < length classes =
    omega (arith, c.loop-place-test.true, c.loop-place.auto.place) in
    let next : place ≡ suc (place - 1) = omega (arith, c.loop-place-test.true) in
    let after : place ≡ place - 1 + 1 = omega (arith, c.loop-place-test.true) in
    let split : drop (place - 1) classes ≡ class ∷ drop place classes =
    split_or classes (place - 1) class within
    ∙ (ap (λ x. x ∷ drop (suc (place - 1)) classes) (sym c.index-classes-place.is)
    ∙ ap (λ p. class ∷ drop p classes) (sym next)) in
    skip_manager (place - 1) class (drop place classes) name (named_in c.loop-place.numbers name)
    c.if-not-class.false
    (c.loop-place.invariant name ∙ ap (λ p. number_from p (drop place classes) name) after)
    ∙ ap (λ l. number_from (place - 1) l name) (sym split)

pub returns : goal.returns
returns c = λ cells trees are i name.
    let classes = c.args.classes.now in
    let none : c.loop-place.place ≡ 0 = omega (arith, c.loop-place-test.false) in
    let all = plain_names c.loop-place.numbers.entries name
    ∙ (c.loop-place.invariant name
    ∙ (ap (λ p. number_from p (drop p classes) name) none
    ∙ all_numbers cells classes trees name are)) in
    all i
