use Rattle.std.proofs.Common.{◌≡◌, [], ◌∷◌, Result, Err, refl, sym, subst}
use Rattle.std.proofs.lemmas.Result.{err_from_is_err_and}
use Rattle.rtl_ir.specs.declared.design.Module.{Module}
use Rattle.rtl_ir.specs.declared.design.Expr.{Expr}
use Rattle.rtl_text.specs.Text.{ExprIs}
use Rattle.verilog_syntax.specs.Trees.{expr_view}
use Rattle.verilog_syntax.specs.declared.tree.ExprTree.{ExprTree}
use Rattle.rtl_reading.specs.Uses.{Scope, expr_uses, net, memory}
use Rattle.verilog_read.specs.Walk.{IsFault, AllDeclared, Gives}
use Rattle.verilog_read.specs.declared.fault.Fault.{Fault}
use Rattle.verilog_read.proofs.FirstUse.{err_is, both, fault_later, fault_sooner}
use Rattle.verilog_read.proofs.declared.Declared.expr.Goals as goal

module _ (sc : Scope) (m : Module) {tree is : ExprTree} (e : tree ≡ is) where
  refused : {r : Result Expr Fault} {f : Fault} → r ≡ Err f → IsFault (expr_uses sc (expr_view is)) f → Gives r (expr_uses sc (expr_view tree)) (ExprIs m (expr_view tree))
  refused {f = f} g h = rw g (subst (λ t. IsFault (expr_uses sc (expr_view t)) f) (sym e) h)

  given : (x : Expr) → AllDeclared (expr_uses sc (expr_view is)) (ExprIs m (expr_view is) x) → AllDeclared (expr_uses sc (expr_view tree)) (ExprIs m (expr_view tree) x)
  given x h = subst (λ t. AllDeclared (expr_uses sc (expr_view t)) (ExprIs m (expr_view t) x)) (sym e) h

pub returns-in_ok-n-in-Plain : goal.returns-in_ok-n-in-Plain
returns-in_ok-n-in-Plain c = λ sc m h t.
    given sc m c.in-Plain.is _ (record { known = (c.in_ok-n-in-Plain.ensures sc m h t).known; holds = (c.in_ok-n-in-Plain.ensures sc m h t).holds })

pub returns-in_ok-n-in-Not : goal.returns-in_ok-n-in-Not
returns-in_ok-n-in-Not c = λ sc m h t.
    given sc m c.in-Not.is _ (record { known = (c.in_ok-n-in-Not.ensures sc m h t).known; holds = (c.in_ok-n-in-Not.ensures sc m h t).holds })

pub returns-in_err-right-in-Binary : goal.returns-in_err-right-in-Binary
returns-in_err-right-in-Binary c = λ sc m h t.
    refused sc m c.in-Binary.is (err_is
    (err_from_is_err_and c.from_residual-in_err-right-in-Binary.result
    c.from_residual-in_err-right-in-Binary.ensures.1))
    (fault_later (net sc c.in-Binary.a.now ∷ []) (net sc c.in-Binary.b.now
    ∷ []) _ (c.in_ok-left-in-Binary.ensures sc m h t).known
    (c.in_err-right-in-Binary.ensures sc m h t))

pub returns-in_ok-right-in-Binary : goal.returns-in_ok-right-in-Binary
returns-in_ok-right-in-Binary c = λ sc m h t.
    given sc m c.in-Binary.is _ (record {
      known = (both (net sc c.in-Binary.a.now ∷ []) (net sc c.in-Binary.b.now ∷ []) (c.in_ok-left-in-Binary.ensures sc m h t).known (c.in_ok-right-in-Binary.ensures sc m h t).known);
      holds = (refl, (c.in_ok-left-in-Binary.ensures sc m h t).holds, (c.in_ok-right-in-Binary.ensures sc m h t).holds);
    })

pub returns-in_err-low-in-Concat : goal.returns-in_err-low-in-Concat
returns-in_err-low-in-Concat c = λ sc m h t.
    refused sc m c.in-Concat.is (err_is
    (err_from_is_err_and c.from_residual-in_err-low-in-Concat.result
    c.from_residual-in_err-low-in-Concat.ensures.1)) (fault_later (net sc c.in-Concat.a.now
    ∷ []) (net sc c.in-Concat.b.now
    ∷ []) _ (c.in_ok-high-in-Concat.ensures sc m h t).known
    (c.in_err-low-in-Concat.ensures sc m h t))

pub returns-in_ok-low-in-Concat : goal.returns-in_ok-low-in-Concat
returns-in_ok-low-in-Concat c = λ sc m h t.
    given sc m c.in-Concat.is _ (record {
      known = (both (net sc c.in-Concat.a.now ∷ []) (net sc c.in-Concat.b.now ∷ []) (c.in_ok-high-in-Concat.ensures sc m h t).known (c.in_ok-low-in-Concat.ensures sc m h t).known);
      holds = ((c.in_ok-high-in-Concat.ensures sc m h t).holds, (c.in_ok-low-in-Concat.ensures sc m h t).holds);
    })

pub returns-in_ok-n-in-Repeat : goal.returns-in_ok-n-in-Repeat
returns-in_ok-n-in-Repeat c = λ sc m h t.
    given sc m c.in-Repeat.is _ (record { known = (c.in_ok-n-in-Repeat.ensures sc m h t).known; holds = (refl, (c.in_ok-n-in-Repeat.ensures sc m h t).holds) })

pub returns-in_ok-n-in-Part : goal.returns-in_ok-n-in-Part
returns-in_ok-n-in-Part c = λ sc m h t.
    given sc m c.in-Part.is _ (record { known = (c.in_ok-n-in-Part.ensures sc m h t).known; holds = (refl, refl, (c.in_ok-n-in-Part.ensures sc m h t).holds) })

pub returns-in_err-yes-in-Choose : goal.returns-in_err-yes-in-Choose
returns-in_err-yes-in-Choose c = λ sc m h t.
    refused sc m c.in-Choose.is (err_is
    (err_from_is_err_and c.from_residual-in_err-yes-in-Choose.result
    c.from_residual-in_err-yes-in-Choose.ensures.1)) (fault_later (net sc c.in-Choose.c.now
    ∷ []) (net sc c.in-Choose.a.now ∷ net sc c.in-Choose.b.now
    ∷ []) _ (c.in_ok-condition-in-Choose.ensures sc m h t).known
    (fault_sooner (net sc c.in-Choose.a.now ∷ []) (net sc c.in-Choose.b.now
    ∷ []) _ (c.in_err-yes-in-Choose.ensures sc m h t)))

pub returns-in_err-no-in-Choose : goal.returns-in_err-no-in-Choose
returns-in_err-no-in-Choose c = λ sc m h t.
    refused sc m c.in-Choose.is (err_is
    (err_from_is_err_and c.from_residual-in_err-no-in-Choose.result
    c.from_residual-in_err-no-in-Choose.ensures.1)) (fault_later (net sc c.in-Choose.c.now
    ∷ net sc c.in-Choose.a.now ∷ []) (net sc c.in-Choose.b.now
    ∷ []) _ (both (net sc c.in-Choose.c.now ∷ []) (net sc c.in-Choose.a.now
    ∷ []) (c.in_ok-condition-in-Choose.ensures sc m h t).known
    (c.in_ok-yes-in-Choose.ensures sc m h t).known) (c.in_err-no-in-Choose.ensures sc m h t))

pub returns-in_ok-no-in-Choose : goal.returns-in_ok-no-in-Choose
returns-in_ok-no-in-Choose c = λ sc m h t.
    given sc m c.in-Choose.is _ (record {
      known = (both (net sc c.in-Choose.c.now ∷ []) (net sc c.in-Choose.a.now
          ∷ net sc c.in-Choose.b.now ∷ []) (c.in_ok-condition-in-Choose.ensures sc m h t).known
          (both (net sc c.in-Choose.a.now ∷ []) (net sc c.in-Choose.b.now
          ∷ []) (c.in_ok-yes-in-Choose.ensures sc m h t).known
          (c.in_ok-no-in-Choose.ensures sc m h t).known));
      holds = ((c.in_ok-condition-in-Choose.ensures sc m h t).holds, (c.in_ok-yes-in-Choose.ensures sc m h t).holds, (c.in_ok-no-in-Choose.ensures sc m h t).holds);
    })

pub returns-in_err-address-in-Cell : goal.returns-in_err-address-in-Cell
returns-in_err-address-in-Cell c = λ sc m h t.
    refused sc m c.in-Cell.is (err_is
    (err_from_is_err_and c.from_residual-in_err-address-in-Cell.result
    c.from_residual-in_err-address-in-Cell.ensures.1))
    (fault_later (memory sc c.in-Cell.k.now ∷ []) (net sc c.in-Cell.a.now
    ∷ []) _ (c.in_ok-memory-in-Cell.ensures sc m h t).known
    (c.in_err-address-in-Cell.ensures sc m h t))

pub returns-in_ok-address-in-Cell : goal.returns-in_ok-address-in-Cell
returns-in_ok-address-in-Cell c = λ sc m h t.
    given sc m c.in-Cell.is _ (record {
      known = (both (memory sc c.in-Cell.k.now ∷ []) (net sc c.in-Cell.a.now ∷ []) (c.in_ok-memory-in-Cell.ensures sc m h t).known (c.in_ok-address-in-Cell.ensures sc m h t).known);
      holds = ((c.in_ok-memory-in-Cell.ensures sc m h t).holds, (c.in_ok-address-in-Cell.ensures sc m h t).holds);
    })
