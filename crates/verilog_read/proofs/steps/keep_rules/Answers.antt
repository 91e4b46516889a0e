use Rattle.std.proofs.Common.{◌≡◌, ◌⊎◌, inl, inr, sym, subst}
use Rattle.rtl_ir.specs.declared.design.Design.{Design}
use Rattle.rtl_ir.specs.declared.error.RtlError.{RtlError}
use Rattle.rtl_ir.specs.declared.error.RtlError.TheVariants as rules
use Rattle.rtl_check.specs.FirstFault.{IsFirstFault}
use Rattle.verilog_read.specs.Answers.{BreaksRule, SaysBroken}
use Rattle.verilog_read.specs.declared.error.VerilogError.{VerilogError}
use Rattle.verilog_read.specs.declared.error.VerilogError.TheVariants.{Rtl}
use Rattle.verilog_read.proofs.steps.keep_rules.Goals as goal

said : (d : Design) (e : RtlError) (x : VerilogError) → IsFirstFault d e → x ≡ Rtl e → BreaksRule d x
said d e x f is = subst (BreaksRule d) (sym is) (BreaksRule.rule e f)

breaks : (d : Design) (e : RtlError) (x : VerilogError) → (e ≡ rules.NoMemory) ⊎ IsFirstFault d e → SaysBroken e x → BreaksRule d x
breaks d rules.NoMemory x h s = subst (BreaksRule d) (sym s) BreaksRule.memory
breaks d e x (inl m) s = absurd (cc)
breaks d (rules.Unknown name) x (inr f) s = said d (rules.Unknown name) x f s
breaks d (rules.Width name) x (inr f) s = said d (rules.Width name) x f s
breaks d (rules.TwoDrivers name) x (inr f) s = said d (rules.TwoDrivers name) x f s
breaks d (rules.CombLoop names) x (inr f) s = said d (rules.CombLoop names) x f s
breaks d (rules.NoDriver name) x (inr f) s = said d (rules.NoDriver name) x f s
breaks d (rules.SameName name) x (inr f) s = said d (rules.SameName name) x f s

pub returns-in-Err-clause-err : goal.returns-in-Err-clause-err
returns-in-Err-clause-err c = breaks c.args.design.now c.in-Err.error c.broken.result c.in-Err.ensures.err c.broken.ensures
