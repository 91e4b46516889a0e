use Rattle.std.proofs.Common.{◌≡◌, ℕ, List, Some, inr, refl, sym, ◌∙◌, ap, subst}
use Rattle.std.specs.Prelude.{slice_get}
use Rattle.rtl_check.specs.declared.drivers.Fed.{Fed}
use Rattle.rtl_check.specs.declared.drivers.Fed.TheVariants.{Wrongly}
use Rattle.rtl_ir.specs.Formed.{net_name, name_of}
use Rattle.rtl_ir.specs.Faults.{IsFirst}
use Rattle.rtl_check.specs.FirstFault.{IsTwoDrivers, of_net, of_mem, mem_name, name_of_mem}
use Rattle.rtl_check.proofs.Marked.{first_two, none_two, first_twice, none_twice}
use Rattle.rtl_check.proofs.drivers.two_drivers.Goals as goal

pub returns-in-Some-clause-err : goal.returns-in-Some-clause-err
returns-in-Some-clause-err c =
    let m = c.args.module.now in let x = c.args.drivers.now in let n = c.in-Some.net in
    let is : c.in_ok-name.name ≡ name_of m n = c.in_ok-name.ensures ∙ sym (ap net_name c.at.ensures) in
    let first = subst (λ (l : List Fed). IsFirst (λ k. slice_get l k ≡ Some Wrongly) n) c.as_slice.ensures.value c.in-Some.ensures.some in
    inr (c.in_ok-name.name, refl, λ d marks. subst (IsTwoDrivers d m) (sym is) (of_net n (first_two d m x marks.1 n first)))

pub returns-in-Some-first_marked-clause-err : goal.returns-in-Some-first_marked-clause-err
returns-in-Some-first_marked-clause-err c =
    let m = c.args.module.now in let x = c.args.drivers.now in let k = c.in-Some-first_marked.mem in
    let is : c.in_ok-name-2.name ≡ name_of_mem m k = c.in_ok-name-2.ensures ∙ sym (ap mem_name c.at-in-Some-first_marked.ensures) in
    let none = subst (λ (l : List Fed). (n : ℕ) → slice_get l n ≡ Some Wrongly → ⊥) c.as_slice.ensures.value c.in_default.ensures.none in
    let first = subst (λ (l : List Fed). IsFirst (λ n. slice_get l n ≡ Some Wrongly) k) c.as_slice-2.ensures.value c.in-Some-first_marked.ensures.some in
    inr (c.in_ok-name-2.name, refl, λ d marks. subst (IsTwoDrivers d m) (sym is) (of_mem k (none_two d m x marks.0 marks.1 none) (first_twice d m x marks.1 k first)))

pub returns-clause-ok : goal.returns-clause-ok
returns-clause-ok c = λ d marks.
    let m = c.args.module.now in let x = c.args.drivers.now in
    let nets = subst (λ (l : List Fed). (n : ℕ) → slice_get l n ≡ Some Wrongly → ⊥) c.as_slice.ensures.value c.in_default.ensures.none in
    let mems = subst (λ (l : List Fed). (n : ℕ) → slice_get l n ≡ Some Wrongly → ⊥) c.as_slice-2.ensures.value c.in_default-first_marked.ensures.none in
    (none_two d m x marks.0 marks.1 nets, none_twice d m x marks.0 marks.1 mems)
