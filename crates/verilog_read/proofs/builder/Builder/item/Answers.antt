use Rattle.std.proofs.Common.{List, map, refl, sym, ap, subst}
use Rattle.rtl_ir.specs.declared.design.Module.{Module}
use Rattle.rtl_text.specs.Tree.{WireItem, RegisterItem, MemoryItem, InstanceItem, Connection}
use Rattle.verilog_syntax.specs.Trees.{connection_view}
use Rattle.rtl_reading.specs.Uses.{item_uses}
use Rattle.verilog_read.specs.Built.{IsSaid}
use Rattle.verilog_read.specs.Walk.{AllDeclared, IsBuilt, with_item}
use Rattle.verilog_read.proofs.ItemLemmas.{wire_said, register_said, memory_said, instance_said, given_item}
use Rattle.verilog_read.proofs.builder.Builder.item.Goals as goal

pub returns-in_ok-add_net-in-Wire : goal.returns-in_ok-add_net-in-Wire
returns-in_ok-add_net-in-Wire c = λ named sc e b.
    let w = c.in-Wire.width in let name = c.in-Wire.name.now in
    given_item named sc _ c.in-Wire.is (record {
      known = refl;
      holds = record {
        said = subst (IsSaid named (with_item sc (WireItem w name))) (sym c.in_ok-add_net-in-Wire.ensures.module) (wire_said named sc c.args.self.now.module b.said name w);
        tables = c.in_ok-add_net-in-Wire.ensures.tables b.tables;
      };
    })

pub returns-in_ok-add_net-in-Register : goal.returns-in_ok-add_net-in-Register
returns-in_ok-add_net-in-Register c = λ named sc e b.
    let w = c.in-Register.width in let name = c.in-Register.name.now in
    given_item named sc _ c.in-Register.is (record {
      known = refl;
      holds = record {
        said = subst (IsSaid named (with_item sc (RegisterItem w name))) (sym c.in_ok-add_net-in-Register.ensures.module) (register_said named sc c.args.self.now.module b.said name w);
        tables = c.in_ok-add_net-in-Register.ensures.tables b.tables;
      };
    })

pub returns-in_ok-add_memory-in-Memory : goal.returns-in_ok-add_memory-in-Memory
returns-in_ok-add_memory-in-Memory c = λ named sc e b.
    let w = c.in-Memory.width in let name = c.in-Memory.name.now in
    given_item named sc _ c.in-Memory.is (record {
      known = refl;
      holds = record {
        said = subst (IsSaid named (with_item sc (MemoryItem w name c.in-Memory.depth)))
            (sym c.in_ok-add_memory-in-Memory.ensures.module)
            (memory_said named sc c.args.self.now.module b.said name w c.in-Memory.depth);
        tables = c.in_ok-add_memory-in-Memory.ensures.tables b.tables;
      };
    })

pub returns-in_ok-push-in-Instance : goal.returns-in_ok-push-in-Instance
returns-in_ok-push-in-Instance c = λ named sc e b.
    let m = c.args.self.now.module in
    let of = c.in-Instance.of.now in let name = c.in-Instance.name.now in
    let found = c.in_ok-instance-in-Instance.ensures sc m e b.said.declared b.tables in
    let next : Module = record m { instances = c.push.new.self } in
    given_item named sc _ c.in-Instance.is (subst (λ (cs : List Connection). AllDeclared
    (item_uses sc (InstanceItem of name cs)) (IsBuilt named
    (with_item sc (InstanceItem of name cs)) (record
    { declared = c.args.self.now.declared; «module» = next })))
    (ap (map connection_view) c.as_slice-in-Instance.ensures) (record {
      known = found.known;
      holds = record {
        said = instance_said named sc m b.said of name
            (map connection_view c.as_slice-in-Instance.result.now)
            c.in_ok-instance-in-Instance.instance c.push.new.self
            c.in_ok-push-in-Instance.ensures.ok found.holds;
        tables = record { nets = b.tables.nets; registers = b.tables.registers; memories = b.tables.memories };
      };
    }))
