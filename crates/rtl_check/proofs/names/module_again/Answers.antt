use Rattle.std.proofs.Common.{Bor, ◌≡◌, ℕ, List, map, length, sym, ◌∙◌, ap, subst, arith}
use Rattle.std.proofs.lemmas.List.{take_all}
use Rattle.rtl_ir.specs.declared.design.Module.{Module}
use Rattle.rtl_ir.specs.Faults.{IsAgain}
use Rattle.rtl_check.proofs.names.module_again.Goals as goal

pub returns-in-Some-clause-earlier : goal.returns-in-Some-clause-earlier
returns-in-Some-clause-earlier c = λ k lt a.
    let modules = c.args.design.now.modules in
    let all = take_all c.loop-module.module-index modules (omega (arith, ap length c.as_slice-module-items.ensures)) in
    let items : map (λ (name : Bor (List ℕ)). name.now) c.as_slice.result.now ≡ map
    (λ (m : Module). m.name) modules = ap (map (λ (name : Bor
    (List ℕ)). name.now)) c.as_slice.ensures.value ∙ c.loop-module.invariant ∙ ap
    (map (λ (m : Module). m.name)) all in
    let first = rw c.in-Some.is at c.in_ok-number.ensures.found in
    first.earlier k lt (subst (λ (l : List (List ℕ)). IsAgain l k) (sym items) a)
