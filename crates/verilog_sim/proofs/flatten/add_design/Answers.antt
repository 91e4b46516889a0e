use Rattle.std.specs.Prelude.{slice_get}
use Rattle.std.proofs.Common.{◌≡◌, ◌<◌, ◌-◌, ℕ, Some, List, length, refl, sym, ap, ◌∙◌, subst, arith, append-nil}
use Rattle.rtl_ir.specs.declared.design.Module.{Module}
use Rattle.rtl_ir.specs.Flat.{top_of}
use Rattle.verilog_sim.specs.declared.scope.Scope.{Scope}
use Rattle.rtl_ir.specs.declared.design.Instance.{Instance}
use Rattle.verilog_sim.specs.Flattened.{IsAdded, Joins, module_of}
use Rattle.verilog_sim.proofs.Flattened.{AreFlattened}
use Rattle.verilog_sim.proofs.Placed.{placed_of}
use Rattle.verilog_sim.proofs.Flattening.{ranged_of, top_room, start_flat, place_is, part_within, part_ranged, part_ports, part_size, part_room, step_flat, step_smaller}
use Rattle.verilog_sim.proofs.flatten.add_design.Goals as goal

pub add-requires-clause-ranged : goal.add-requires-clause-ranged
add-requires-clause-ranged c = ranged_of (placed_of c.args.design.now c.requires.accepted (length c.args.design.now.modules - 1) c.top.result.now c.top.ensures)

pub add-requires-clause-nets : goal.add-requires-clause-nets
add-requires-clause-nets c = omega (arith, (top_room c.args.design.now c.requires.accepted c.requires.small c.top.result.now c.top.ensures).nets_fit, ap length c.requires.nets)

pub add-requires-clause-mems : goal.add-requires-clause-mems
add-requires-clause-mems c = omega (arith, (top_room c.args.design.now c.requires.accepted c.requires.small c.top.result.now c.top.ensures).mems_fit, ap length c.requires.mems)

pub loop-instance-init : goal.loop-instance-init
loop-instance-init c = λ top e.
    let r = c.requires in
    let same : c.top.result.now ≡ top = (let is = c.top.ensures in cc) in
    subst (λ (l : List Scope). AreFlattened c.args.design.now top c.add.new.self l) (sym c.new-scopes.ensures.items)
    (start_flat c.args.design.now top c.args.parts.now c.add.new.self r.nets r.mems r.assigns r.updates r.instances
    (subst (λ (m : Module). IsAdded c.args.parts.now c.add.new.self m) same c.in_ok-add.ensures))

pub at-part-requires : goal.at-part-requires
at-part-requires c =
    subst (λ (n : ℕ). n < length c.args.design.now.modules) (sym c.index.ensures.number)
    (part_within c.args.design.now c.requires.accepted c.requires.small c.top.result.now
    c.top.ensures c.loop-instance.parts c.loop-instance.scopes.items
    (c.loop-instance.invariant c.top.result.now c.top.ensures) c.pop.new.self.items c.in-Some.instance c.in-Some.ensures.items)

pub join-requires-clause-ranged : goal.join-requires-clause-ranged
join-requires-clause-ranged c =
    part_ranged c.args.design.now c.requires.accepted c.requires.small c.top.result.now
    c.top.ensures c.loop-instance.parts c.loop-instance.scopes.items
    (c.loop-instance.invariant c.top.result.now c.top.ensures) c.pop.new.self.items c.in-Some.instance
    c.in-Some.ensures.items c.at-part.result.now (subst
    (λ (n : ℕ). slice_get c.args.design.now.modules n
    ≡ Some c.at-part.result.now) c.index.ensures.number c.at-part.ensures)

pub join-requires-clause-nets : goal.join-requires-clause-nets
join-requires-clause-nets c =
    (part_room c.args.design.now c.requires.accepted c.requires.small c.top.result.now
    c.top.ensures c.loop-instance.parts c.loop-instance.scopes.items
    (c.loop-instance.invariant c.top.result.now c.top.ensures) c.pop.new.self.items c.in-Some.instance
    c.in-Some.ensures.items c.at-part.result.now (subst
    (λ (n : ℕ). slice_get c.args.design.now.modules n
    ≡ Some c.at-part.result.now) c.index.ensures.number c.at-part.ensures)).nets_fit

pub join-requires-clause-mems : goal.join-requires-clause-mems
join-requires-clause-mems c =
    (part_room c.args.design.now c.requires.accepted c.requires.small c.top.result.now
    c.top.ensures c.loop-instance.parts c.loop-instance.scopes.items
    (c.loop-instance.invariant c.top.result.now c.top.ensures) c.pop.new.self.items c.in-Some.instance
    c.in-Some.ensures.items c.at-part.result.now (subst
    (λ (n : ℕ). slice_get c.args.design.now.modules n
    ≡ Some c.at-part.result.now) c.index.ensures.number c.at-part.ensures)).mems_fit

pub join-requires-clause-ports : goal.join-requires-clause-ports
join-requires-clause-ports c =
    part_ports c.args.design.now c.requires.accepted c.requires.small c.top.result.now
    c.top.ensures c.loop-instance.parts c.loop-instance.scopes.items
    (c.loop-instance.invariant c.top.result.now c.top.ensures) c.pop.new.self.items c.in-Some.instance
    c.in-Some.ensures.items c.at-part.result.now (subst
    (λ (n : ℕ). slice_get c.args.design.now.modules n
    ≡ Some c.at-part.result.now) c.index.ensures.number c.at-part.ensures)

pub join-requires-clause-joined : goal.join-requires-clause-joined
join-requires-clause-joined c =
    ap length c.as_slice.ensures
    ∙ part_size c.args.design.now c.requires.accepted c.requires.small c.top.result.now
    c.top.ensures c.loop-instance.parts c.loop-instance.scopes.items
    (c.loop-instance.invariant c.top.result.now c.top.ensures) c.pop.new.self.items c.in-Some.instance
    c.in-Some.ensures.items c.at-part.result.now (subst
    (λ (n : ℕ). slice_get c.args.design.now.modules n
    ≡ Some c.at-part.result.now) c.index.ensures.number c.at-part.ensures)

pub loop-instance-smaller : goal.loop-instance-smaller
loop-instance-smaller c =
    step_smaller c.args.design.now c.requires.accepted c.requires.small c.top.result.now
    c.top.ensures c.loop-instance.parts c.loop-instance.scopes.items
    (c.loop-instance.invariant c.top.result.now c.top.ensures) c.pop.new.self.items c.in-Some.instance
    c.in-Some.ensures.items c.at-part.result.now (subst
    (λ (n : ℕ). slice_get c.args.design.now.modules n
    ≡ Some c.at-part.result.now) c.index.ensures.number c.at-part.ensures) c.join.new.self
    c.place_of.result
    (place_is c.place_of.result (length c.pop.new.self.items)
    (length c.loop-instance.parts.nets.items) (length c.at-part.result.now.nets)
    (length c.loop-instance.parts.mems.items)
    (length c.at-part.result.now.mems) c.place_of.ensures.instance
    c.place_of.ensures.first_net c.place_of.ensures.nets c.place_of.ensures.first_mem
    c.place_of.ensures.mems)
    _ c.as_slice.result.now c.as_slice.ensures c.in_ok-join.ensures refl refl refl refl refl

pub loop-instance-preserved : goal.loop-instance-preserved
loop-instance-preserved c = λ top e.
    let is : top_of c.args.design.now ≡ Some top = e in
    subst (λ (l : List Scope). AreFlattened c.args.design.now top c.join.new.self l) (sym c.in_ok-push.ensures.items)
    (step_flat c.args.design.now c.requires.accepted c.requires.small top
    is c.loop-instance.parts c.loop-instance.scopes.items
    (c.loop-instance.invariant top is) c.pop.new.self.items c.in-Some.instance
    c.in-Some.ensures.items c.at-part.result.now (subst
    (λ (n : ℕ). slice_get c.args.design.now.modules n
    ≡ Some c.at-part.result.now) c.index.ensures.number c.at-part.ensures) c.join.new.self
    c.place_of.result
    (place_is c.place_of.result (length c.pop.new.self.items)
    (length c.loop-instance.parts.nets.items) (length c.at-part.result.now.nets)
    (length c.loop-instance.parts.mems.items)
    (length c.at-part.result.now.mems) c.place_of.ensures.instance
    c.place_of.ensures.first_net c.place_of.ensures.nets c.place_of.ensures.first_mem
    c.place_of.ensures.mems)
    _ c.as_slice.result.now c.as_slice.ensures c.in_ok-join.ensures refl refl refl refl refl)

pub returns : goal.returns
returns c = λ top e.
    let done = c.loop-instance.invariant top e in
    let left : c.loop-instance.parts.instances.items ≡ c.pop.new.self.items = c.in_default.ensures.items ∙ append-nil c.pop.new.self.items in
    let none : length c.pop.new.self.items ≡ 0 = omega (arith, c.in_default.ensures.cases.1, c.pop.new.self.ok) in
    record {
      top = top;
      is_top = e;
      copy = done.copy;
      copied = done.copied;
      joins = subst (λ (l : List Instance). Joins c.args.design.now done.copy c.loop-instance.scopes.items
          (record (module_of top.ports c.loop-instance.parts) { instances = l })) left done.joins;
      whole = none;
    }
