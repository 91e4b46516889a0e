use Rattle.std.proofs.lemmas.Result.{err_from_is_err_and}
use Rattle.rtl_ir.specs.declared.error.RtlError.TheVariants.{NoDriver, Width}
use Rattle.rtl_check.specs.FirstFault.{IsWidth}
use Rattle.rtl_check.specs.Checked.{IsPartFault, Marks}
use Rattle.rtl_check.proofs.OfKind.{of_kind}
use Rattle.rtl_check.proofs.module.test_parts.Goals as goal

pub returns-in_err-no_driver-clause-err : goal.returns-in_err-no_driver-clause-err
returns-in_err-no_driver-clause-err c =
    let d = c.args.design.now in let m = c.args.module.now in
    let marks : Marks m c.in_ok-drivers.drivers d = (c.requires, c.in_ok-drivers.ensures) in
    let p = err_from_is_err_and c.from_residual-in_err-no_driver.result c.from_residual-in_err-no_driver.ensures.1 in
    rw (p.1, p.2) (of_kind NoDriver _ (IsPartFault d m) _ (λ name is. (c.in_ok-same_name.ensures.ok, c.in_ok-two_drivers.ensures.ok d marks, is d marks)) c.in_err-no_driver.ensures.err)

pub returns-in_err-widths_fit-clause-err : goal.returns-in_err-widths_fit-clause-err
returns-in_err-widths_fit-clause-err c =
    let d = c.args.design.now in let m = c.args.module.now in
    let marks : Marks m c.in_ok-drivers.drivers d = (c.requires, c.in_ok-drivers.ensures) in
    let both = c.in_ok-no_driver.ensures.ok d marks (c.in_ok-two_drivers.ensures.ok d marks) in
    let p = err_from_is_err_and c.from_residual-in_err-widths_fit.result c.from_residual-in_err-widths_fit.ensures.1 in
    rw (p.1, p.2) (of_kind Width (IsWidth d m) (IsPartFault d m) _ (λ name is. (c.in_ok-same_name.ensures.ok, both.0, both.1, is)) c.in_err-widths_fit.ensures.err)

pub returns-clause-ok : goal.returns-clause-ok
returns-clause-ok c =
    let d = c.args.design.now in let m = c.args.module.now in
    let marks : Marks m c.in_ok-drivers.drivers d = (c.requires, c.in_ok-drivers.ensures) in
    let both = c.in_ok-no_driver.ensures.ok d marks (c.in_ok-two_drivers.ensures.ok d marks) in
    record { names = c.in_ok-same_name.ensures.ok; driven = both.0; updated = both.1; widths = c.in_ok-widths_fit.ensures.ok }
