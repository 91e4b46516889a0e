-- The lines of a small design, and the order in which they declare its nets.
use Rattle.std.proofs.Common.{◌≡◌, true, false, [], ◌∷◌, refl}
use Rattle.std.specs.Prelude.{codes}
use Rattle.rtl_ir.specs.declared.design.Expr.TheVariants as exprs
use Rattle.rtl_ir.specs.declared.design.Target.TheVariants as targets
use Rattle.rtl_ir.specs.declared.design.Module.{Module}
use Rattle.rtl_ir.specs.declared.design.Design.{Design}
use Rattle.verilog_print.specs.Printed.{digits}
use Rattle.verilog_print.specs.Lines.{design_lines}
use Rattle.verilog_print.proofs.Order.{order}

-- a register of 8 bits that shows its value, with its ports behind the other net
abbrev keep : Module
keep = record {
  name = codes "keep";
  ports = record { net = 3; output = false } ∷ record { net = 2; output = false } ∷ record { net = 1; output = true } ∷ [];
  nets = record { name = codes "r"; width = 8; reg = true }
      ∷ record { name = codes "b"; width = 8; reg = false }
      ∷ record { name = codes "reset"; width = 1; reg = false }
      ∷ record { name = codes "clk"; width = 1; reg = false } ∷ [];
  mems = [];
  assigns = record { target = 1; expr = exprs.Net 0 } ∷ [];
  updates = record { enable = 2; target = targets.Reg 0; value = 1 } ∷ [];
  instances = [];
}

abbrev alone : Design
alone = record { modules = keep ∷ [] }

lines_of_keep :
    design_lines alone
    ≡ codes "module keep (" ∷ codes "input wire [0:0] clk," ∷ codes "input wire [0:0] reset,"
    ∷ codes "output wire [7:0] b);" ∷ codes "reg [7:0] r;" ∷ codes "assign b = r;"
    ∷ codes "always @(posedge clk) begin"
    ∷ codes "if (reset) r <= b;" ∷ codes "end" ∷ codes "endmodule" ∷ []
unfolding digits
lines_of_keep = refl

order_of_keep : order keep ≡ 3 ∷ 2 ∷ 1 ∷ 0 ∷ []
order_of_keep = refl
