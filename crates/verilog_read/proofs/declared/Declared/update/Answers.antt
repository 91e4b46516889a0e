use Rattle.std.proofs.Common.{◌≡◌, [], ◌∷◌, Result, Err, refl, sym, subst}
use Rattle.std.proofs.lemmas.Result.{err_from_is_err_and}
use Rattle.rtl_ir.specs.declared.design.Module.{Module}
use Rattle.rtl_ir.specs.declared.design.Update.{Update}
use Rattle.rtl_text.specs.Text.{UpdateIs}
use Rattle.verilog_syntax.specs.Trees.{update_view}
use Rattle.verilog_syntax.specs.declared.tree.UpdateTree.{UpdateTree}
use Rattle.rtl_reading.specs.Uses.{Scope, update_uses, net, register, memory}
use Rattle.verilog_read.specs.Walk.{IsFault, AllDeclared, Gives}
use Rattle.verilog_read.specs.declared.fault.Fault.{Fault}
use Rattle.verilog_read.proofs.FirstUse.{err_is, both, fault_later, fault_sooner}
use Rattle.verilog_read.proofs.declared.Declared.update.Goals as goal

module _ (sc : Scope) (m : Module) {tree is : UpdateTree} (e : tree ≡ is) where
  refused : {r : Result Update Fault} {f : Fault} → r ≡ Err f → IsFault (update_uses sc (update_view is)) f → Gives r (update_uses sc (update_view tree)) (UpdateIs m (update_view tree))
  refused {f = f} g h = rw g (subst (λ t. IsFault (update_uses sc (update_view t)) f) (sym e) h)

  given : (x : Update) → AllDeclared (update_uses sc (update_view is)) (UpdateIs m (update_view is) x) → AllDeclared (update_uses sc (update_view tree)) (UpdateIs m (update_view tree) x)
  given x h = subst (λ t. AllDeclared (update_uses sc (update_view t)) (UpdateIs m (update_view t) x)) (sym e) h

pub returns-in_err-register-in-Register : goal.returns-in_err-register-in-Register
returns-in_err-register-in-Register c = λ sc m h t.
    refused sc m c.in-Register.is (err_is
    (err_from_is_err_and c.from_residual-in_err-register-in-Register.result
    c.from_residual-in_err-register-in-Register.ensures.1))
    (fault_later (net sc c.in-Register.e.now ∷ []) (register sc c.in-Register.r.now
    ∷ net sc c.in-Register.v.now ∷ []) _ (c.in_ok-enable-in-Register.ensures sc m h t).known
    (fault_sooner (register sc c.in-Register.r.now ∷ []) (net sc c.in-Register.v.now
    ∷ []) _ (c.in_err-register-in-Register.ensures sc m h t)))

pub returns-in_err-value-in-Register : goal.returns-in_err-value-in-Register
returns-in_err-value-in-Register c = λ sc m h t.
    refused sc m c.in-Register.is (err_is
    (err_from_is_err_and c.from_residual-in_err-value-in-Register.result
    c.from_residual-in_err-value-in-Register.ensures.1))
    (fault_later (net sc c.in-Register.e.now ∷ register sc c.in-Register.r.now
    ∷ []) (net sc c.in-Register.v.now ∷ []) _ (both (net sc c.in-Register.e.now
    ∷ []) (register sc c.in-Register.r.now
    ∷ []) (c.in_ok-enable-in-Register.ensures sc m h t).known
    (c.in_ok-register-in-Register.ensures sc m h t).known)
    (c.in_err-value-in-Register.ensures sc m h t))

pub returns-in_ok-value-in-Register : goal.returns-in_ok-value-in-Register
returns-in_ok-value-in-Register c = λ sc m h t.
    given sc m c.in-Register.is _ (record {
      known = (both (net sc c.in-Register.e.now ∷ []) (register sc c.in-Register.r.now
          ∷ net sc c.in-Register.v.now ∷ []) (c.in_ok-enable-in-Register.ensures sc m h t).known
          (both (register sc c.in-Register.r.now ∷ []) (net sc c.in-Register.v.now
          ∷ []) (c.in_ok-register-in-Register.ensures sc m h t).known
          (c.in_ok-value-in-Register.ensures sc m h t).known));
      holds = record {
        register = c.in_ok-register-in-Register.register;
        target = refl;
        named = (c.in_ok-register-in-Register.ensures sc m h t).holds;
        enabled = (c.in_ok-enable-in-Register.ensures sc m h t).holds;
        writes = (c.in_ok-value-in-Register.ensures sc m h t).holds;
      };
    })

pub returns-in_err-memory-in-Cell : goal.returns-in_err-memory-in-Cell
returns-in_err-memory-in-Cell c = λ sc m h t.
    refused sc m c.in-Cell.is (err_is
    (err_from_is_err_and c.from_residual-in_err-memory-in-Cell.result
    c.from_residual-in_err-memory-in-Cell.ensures.1)) (fault_later (net sc c.in-Cell.e.now
    ∷ []) (memory sc c.in-Cell.k.now ∷ net sc c.in-Cell.a.now ∷ net sc c.in-Cell.v.now
    ∷ []) _ (c.in_ok-enable-in-Cell.ensures sc m h t).known
    (fault_sooner (memory sc c.in-Cell.k.now ∷ []) (net sc c.in-Cell.a.now
    ∷ net sc c.in-Cell.v.now ∷ []) _ (c.in_err-memory-in-Cell.ensures sc m h t)))

pub returns-in_err-address-in-Cell : goal.returns-in_err-address-in-Cell
returns-in_err-address-in-Cell c = λ sc m h t.
    refused sc m c.in-Cell.is (err_is
    (err_from_is_err_and c.from_residual-in_err-address-in-Cell.result
    c.from_residual-in_err-address-in-Cell.ensures.1)) (fault_later (net sc c.in-Cell.e.now
    ∷ memory sc c.in-Cell.k.now ∷ []) (net sc c.in-Cell.a.now ∷ net sc c.in-Cell.v.now
    ∷ []) _ (both (net sc c.in-Cell.e.now ∷ []) (memory sc c.in-Cell.k.now
    ∷ []) (c.in_ok-enable-in-Cell.ensures sc m h t).known
    (c.in_ok-memory-in-Cell.ensures sc m h t).known) (fault_sooner (net sc c.in-Cell.a.now
    ∷ []) (net sc c.in-Cell.v.now ∷ []) _ (c.in_err-address-in-Cell.ensures sc m h t)))

pub returns-in_err-value-in-Cell : goal.returns-in_err-value-in-Cell
returns-in_err-value-in-Cell c = λ sc m h t.
    refused sc m c.in-Cell.is (err_is
    (err_from_is_err_and c.from_residual-in_err-value-in-Cell.result
    c.from_residual-in_err-value-in-Cell.ensures.1)) (fault_later (net sc c.in-Cell.e.now
    ∷ memory sc c.in-Cell.k.now ∷ net sc c.in-Cell.a.now ∷ []) (net sc c.in-Cell.v.now
    ∷ []) _ (both (net sc c.in-Cell.e.now ∷ []) (memory sc c.in-Cell.k.now
    ∷ net sc c.in-Cell.a.now ∷ []) (c.in_ok-enable-in-Cell.ensures sc m h t).known
    (both (memory sc c.in-Cell.k.now ∷ []) (net sc c.in-Cell.a.now
    ∷ []) (c.in_ok-memory-in-Cell.ensures sc m h t).known
    (c.in_ok-address-in-Cell.ensures sc m h t).known))
    (c.in_err-value-in-Cell.ensures sc m h t))

pub returns-in_ok-value-in-Cell : goal.returns-in_ok-value-in-Cell
returns-in_ok-value-in-Cell c = λ sc m h t.
    given sc m c.in-Cell.is _ (record {
      known = (both (net sc c.in-Cell.e.now ∷ []) (memory sc c.in-Cell.k.now
          ∷ net sc c.in-Cell.a.now ∷ net sc c.in-Cell.v.now
          ∷ []) (c.in_ok-enable-in-Cell.ensures sc m h t).known (both (memory sc c.in-Cell.k.now
          ∷ []) (net sc c.in-Cell.a.now ∷ net sc c.in-Cell.v.now
          ∷ []) (c.in_ok-memory-in-Cell.ensures sc m h t).known (both (net sc c.in-Cell.a.now
          ∷ []) (net sc c.in-Cell.v.now ∷ []) (c.in_ok-address-in-Cell.ensures sc m h t).known
          (c.in_ok-value-in-Cell.ensures sc m h t).known)));
      holds = record {
        memory = c.in_ok-memory-in-Cell.memory;
        at = c.in_ok-address-in-Cell.address;
        target = refl;
        named = (c.in_ok-memory-in-Cell.ensures sc m h t).holds;
        addressed = (c.in_ok-address-in-Cell.ensures sc m h t).holds;
        enabled = (c.in_ok-enable-in-Cell.ensures sc m h t).holds;
        writes = (c.in_ok-value-in-Cell.ensures sc m h t).holds;
      };
    })
