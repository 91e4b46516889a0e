use Rattle.std.proofs.Common.{refl}
use Rattle.verilog_read.proofs.builder.Builder.new.Goals as goal

pub returns : goal.returns
returns c = λ modules. record {
  said = record {
    named = c.in_ok-text.ensures;
    ports = c.new.ensures;
    declared = record { nets = c.new-2.ensures; mems = rw c.new-3.ensures refl };
    assigns = rw c.new-4.ensures tt;
    updates = rw c.new-5.ensures tt;
    instances = rw c.new-6.ensures tt;
  };
  tables = c.new-7.ensures _ c.new-2.ensures c.new-3.ensures;
}
