use Rattle.std.proofs.Common.{◌≡◌, ℕ, List, Some, inr, refl, sym, ◌∙◌, ap, subst}
use Rattle.std.specs.Prelude.{slice_get}
use Rattle.rtl_check.specs.declared.drivers.Fed.{Fed}
use Rattle.rtl_check.specs.declared.drivers.Fed.TheVariants.{Never, Wrongly}
use Rattle.rtl_ir.specs.Formed.{net_name, name_of}
use Rattle.rtl_ir.specs.Faults.{IsFirst}
use Rattle.rtl_check.specs.FirstFault.{IsNoDriver, of_net}
use Rattle.rtl_check.proofs.Marked.{first_lack, AllDriven, has_drivers, has_updates}
use Rattle.rtl_check.proofs.drivers.no_driver.Goals as goal

pub returns-in_ok-name-in-Some-clause-err : goal.returns-in_ok-name-in-Some-clause-err
returns-in_ok-name-in-Some-clause-err c =
    let m = c.args.module.now in let x = c.args.drivers.now in let n = c.in-Some.net in
    let is : c.in_ok-name-in-Some.name ≡ name_of m n = c.in_ok-name-in-Some.ensures ∙ sym (ap net_name c.at.ensures) in
    let first = subst (λ (l : List Fed). IsFirst (λ k. slice_get l k ≡ Some Never) n) c.as_slice.ensures.value c.in-Some.ensures.some in
    inr (c.in_ok-name-in-Some.name, refl, λ d marks. subst (IsNoDriver d m) (sym is) (of_net n (first_lack d m x marks.1 n first)))

pub returns-in-None-clause-ok : goal.returns-in-None-clause-ok
returns-in-None-clause-ok c = λ d marks two.
    let m = c.args.module.now in let x = c.args.drivers.now in
    let never = subst (λ (l : List Fed). (n : ℕ) → slice_get l n ≡ Some Never → ⊥) c.as_slice.ensures.value c.in-None.ensures.none in
    let all : AllDriven d m x = record {
      formed = marks.0;
      marked = marks.1;
      none_two = λ k at. two.0 k (marks.1.nets k Wrongly at);
      none_twice = λ k at. two.1 k (marks.1.mems k Wrongly at);
      none_never = never;
    } in
    (has_drivers d m x all, has_updates d m x all)
