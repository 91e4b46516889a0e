use Rattle.std.proofs.Common.{[], map, refl, sym, subst}
use Rattle.std.proofs.lemmas.List.{append-nil}
use Rattle.rtl_ir.specs.declared.design.Module.{Module}
use Rattle.rtl_text.specs.Tree.{AlwaysItem}
use Rattle.rtl_text.specs.Text.{Pairwise, UpdateIs}
use Rattle.verilog_syntax.specs.Trees.{update_view}
use Rattle.verilog_read.proofs.FirstUse.{gives_map}
use Rattle.verilog_read.proofs.Grow.{said_more, pairwise_map, update_grows, grows_same}
use Rattle.verilog_read.proofs.builder.Builder.always.Goals as goal

pub returns : goal.returns
returns c = λ named sc b.
    let m = c.args.self.now.module in
    let trees = map update_view c.args.trees.now in
    let n : Module = record m { updates = c.add_updates.new.updates } in
    gives_map c.add_updates.result _ _ _ (λ x u. record {
      said = said_more named sc (AlwaysItem trees) m _ b.said (record {
        named = refl;
        ports = refl;
        nets = sym (append-nil m.nets);
        mems = [];
        mems_added = sym (append-nil m.mems);
        mems_are = refl;
        assigns = [];
        assigns_added = sym (append-nil m.assigns);
        assigns_are = tt;
        updates = u.more;
        updates_added = u.added;
        updates_are = subst (λ l. Pairwise (UpdateIs n) l u.more) (sym (append-nil trees)) (pairwise_map (update_grows (grows_same m n refl refl)) trees u.more u.are);
        instances = [];
        instances_added = sym (append-nil m.instances);
        instances_are = tt;
      });
      tables = record { nets = b.tables.nets; registers = b.tables.registers; memories = b.tables.memories };
    }) (c.add_updates.ensures sc m b.said.declared b.tables)
