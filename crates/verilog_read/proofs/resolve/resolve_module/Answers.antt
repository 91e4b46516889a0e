use Rattle.std.proofs.Common.{◌≡◌, [], List, map, None, refl, subst}
use Rattle.std.proofs.lemmas.Result.{err_from_is_err_and}
use Rattle.rtl_text.specs.Tree.{PortTree, ModuleTree}
use Rattle.verilog_syntax.specs.Trees.{port_view, item_view}
use Rattle.verilog_syntax.specs.declared.tree.PortTree.{PortTree as Port}
use Rattle.verilog_syntax.specs.declared.tree.ItemTree.{ItemTree as Item}
use Rattle.rtl_reading.specs.Uses.{port_uses, items_uses, first_undeclared}
use Rattle.verilog_read.specs.Built.{IsSaid}
use Rattle.verilog_read.specs.Walk.{IsBuilt, IsFault, item_scope, port_scope}
use Rattle.verilog_read.specs.declared.fault.Fault.{Fault}
use Rattle.verilog_read.proofs.FirstUse.{err_is, both, fault_later, fault_sooner}
use Rattle.verilog_read.proofs.resolve.resolve_module.Goals as goal

ports_fault : {xs ys : List Port} (f : Fault) → xs ≡ ys → IsFault (port_uses (map port_view xs)) f → IsFault (port_uses (map port_view ys)) f
ports_fault f e h = subst (λ l. IsFault (port_uses (map port_view l)) f) e h

items_fault : {xs ys : List Item} (modules : List ModuleTree) (ports : List PortTree)
    (f : Fault) → xs ≡ ys → IsFault (items_uses modules ports [] (map item_view xs)) f
    → IsFault (items_uses modules ports [] (map item_view ys)) f
items_fault modules ports f e h = subst (λ l. IsFault (items_uses modules ports [] (map item_view l)) f) e h

pub returns-in_err-has_clock : goal.returns-in_err-has_clock
returns-in_err-has_clock c = λ modules e.
    let ports = map port_view c.args.tree.now.ports in
    let items = map item_view c.args.tree.now.items in
    rw (err_is (err_from_is_err_and c.from_residual-in_err-has_clock.result c.from_residual-in_err-has_clock.ensures.1))
    (fault_sooner (port_uses ports) (items_uses modules ports [] items) _ (ports_fault _ c.as_slice-2.ensures c.in_err-has_clock.ensures))

pub returns-in_err-items : goal.returns-in_err-items
returns-in_err-items c = λ modules e.
    let ports = map port_view c.args.tree.now.ports in
    let items = map item_view c.args.tree.now.items in
    let named = c.args.tree.now.name.now in
    let built = subst (λ (l : List Port). IsBuilt named
    (port_scope modules (map port_view l)) c.ports.new.self) c.as_slice.ensures
    (c.in_ok-ports.ensures named modules (c.in_ok-builder.ensures modules)) in
    let clock = subst (λ (l : List Port). first_undeclared (port_uses (map port_view l)) ≡ None) c.as_slice-2.ensures c.in_ok-has_clock.ensures.known in
    rw (err_is (err_from_is_err_and c.from_residual-in_err-items.result c.from_residual-in_err-items.ensures.1))
    (fault_later (port_uses ports) (items_uses modules ports [] items) _ clock
    (items_fault modules ports _ c.as_slice-3.ensures
    (c.in_err-items.ensures named (port_scope modules ports) refl e built)))

pub returns : goal.returns
returns c = λ modules e.
    let ports = map port_view c.args.tree.now.ports in
    let items = map item_view c.args.tree.now.items in
    let named = c.args.tree.now.name.now in
    let built = subst (λ (l : List Port). IsBuilt named
    (port_scope modules (map port_view l)) c.ports.new.self) c.as_slice.ensures
    (c.in_ok-ports.ensures named modules (c.in_ok-builder.ensures modules)) in
    let clock = subst (λ (l : List Port). first_undeclared (port_uses (map port_view l)) ≡ None) c.as_slice-2.ensures c.in_ok-has_clock.ensures.known in
    let all = c.in_ok-items.ensures named (port_scope modules ports) refl e built in
    let known = subst (λ (l : List Item). first_undeclared (items_uses modules ports [] (map item_view l)) ≡ None) c.as_slice-3.ensures all.known in
    record {
      known = both (port_uses ports) (items_uses modules ports [] items) clock known;
      holds = subst (λ (l : List Item). IsSaid named (item_scope (port_scope modules ports) (map item_view l)) c.items.new.self.module) c.as_slice-3.ensures all.holds.said;
    }
