use Rattle.std.proofs.Common.{◌∙◌, [], ◌∷◌, ◌++◌, map, Some, refl, sym, subst}
use Rattle.std.proofs.lemmas.List.{length-map}
use Rattle.verilog_read.specs.Tables.{IsTable}
use Rattle.verilog_read.specs.Walk.{net_name, register_name}
use Rattle.verilog_read.proofs.Tables.{push_named, skip_named}
use Rattle.verilog_read.proofs.declared.Declared.add_net.Goals as goal

pub returns-else-reg : goal.returns-else-reg
returns-else-reg c = λ m n named kind is t. record {
  nets = push_named net_name m.nets n c.declare.new.self
      (subst (λ x. IsTable c.declare.new.self (map net_name m.nets ++ Some x
      ∷ [])) (sym named) (c.in_ok-declare.ensures (map net_name m.nets) t.nets
      (is ∙ sym (length-map m.nets net_name))));
  registers = skip_named register_name m.nets n c.args.self.now.registers (rw (kind ∙ c.if-reg.false) refl) t.registers;
  memories = t.memories;
}
