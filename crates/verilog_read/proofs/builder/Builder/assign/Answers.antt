use Rattle.std.proofs.Common.{[], ◌∷◌, refl, sym}
use Rattle.std.proofs.lemmas.List.{append-nil}
use Rattle.std.proofs.lemmas.Result.{err_from_is_err_and}
use Rattle.rtl_text.specs.Tree.{AssignItem}
use Rattle.verilog_syntax.specs.Trees.{expr_view}
use Rattle.rtl_reading.specs.Uses.{net, expr_uses}
use Rattle.verilog_read.proofs.FirstUse.{err_is, both, fault_later}
use Rattle.verilog_read.proofs.Grow.{said_more}
use Rattle.verilog_read.proofs.builder.Builder.assign.Goals as goal

pub returns-in_err-expr : goal.returns-in_err-expr
returns-in_err-expr c = λ named sc b.
    let m = c.args.self.now.module in
    rw (err_is (err_from_is_err_and c.from_residual-in_err-expr.result c.from_residual-in_err-expr.ensures.1))
    (fault_later (net sc c.args.name.now
    ∷ []) (expr_uses sc (expr_view c.args.tree)) _
    (c.in_ok-target.ensures sc m b.said.declared b.tables).known
    (c.in_err-expr.ensures sc m b.said.declared b.tables))

pub returns : goal.returns
returns c = λ named sc b.
    let m = c.args.self.now.module in
    let target = c.in_ok-target.ensures sc m b.said.declared b.tables in
    let expr = c.in_ok-expr.ensures sc m b.said.declared b.tables in
    record {
      known = both (net sc c.args.name.now ∷ []) (expr_uses sc (expr_view c.args.tree)) target.known expr.known;
      holds = record {
        said = said_more named sc (AssignItem c.args.name.now (expr_view c.args.tree)) m _ b.said (record {
          named = refl;
          ports = refl;
          nets = sym (append-nil m.nets);
          mems = [];
          mems_added = sym (append-nil m.mems);
          mems_are = refl;
          assigns = record { target = c.in_ok-target.target; expr = c.in_ok-expr.expr } ∷ [];
          assigns_added = c.in_ok-push.ensures.ok;
          assigns_are = ((target.holds, expr.holds), tt);
          updates = [];
          updates_added = sym (append-nil m.updates);
          updates_are = tt;
          instances = [];
          instances_added = sym (append-nil m.instances);
          instances_are = tt;
        });
        tables = record { nets = b.tables.nets; registers = b.tables.registers; memories = b.tables.memories };
      };
    }
