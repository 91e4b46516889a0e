-- The meaning on small numbers, computed by hand, and the ports of a top module with one kernel.
use Rattle.std.proofs.Common.{◌≡◌, ℕ, ◌+◌, List, [], ◌∷◌, Bool, true, false, refl, lit<, lit≤}
use Rattle.std.specs.Prelude.{codes, slice_index}
use Rattle.rtl_ir.specs.declared.design.Net.{Net}
use Rattle.rtl_ir.specs.declared.design.Port.{Port}
use Rattle.rtl_ir.specs.declared.design.Module.{Module}
use Rattle.rtl_ir.specs.declared.design.Expr.{Expr}
use Rattle.rtl_ir.specs.declared.design.Expr.TheVariants.{Net as Plain, Literal, Not, Binary, Concat, Repeat, Part, Choose, Cell}
use Rattle.rtl_ir.specs.declared.design.Sign.TheVariants.{Add, Sub, Mul, Div, And, Or, Xor, Eq, Lt}
use Rattle.rtl_ir.specs.declared.design.Target.TheVariants.{Reg, Cell as Place}
use Rattle.rtl_ir.specs.Value.{Family, Contents, value}
use Rattle.rtl_ir.specs.Edge.{after_edge}
use Rattle.rtl_ir.specs.Names.{is_name}
use Rattle.rtl_ir.specs.Ports.{Shape, HasShape, outer_of}

-- two registers that change places, a wire of 1 bit, a wire that is 0, and a memory of two words
abbrev sample : Module
sample = record {
  name = codes "sample";
  ports = [];
  nets = record { name = codes "a"; width = 8; reg = true }
      ∷ record { name = codes "b"; width = 8; reg = true }
      ∷ record { name = codes "t"; width = 1; reg = false }
      ∷ record { name = codes "z"; width = 8; reg = false } ∷ [];
  mems = record { name = codes "m"; width = 8; depth = 2 } ∷ [];
  assigns = [];
  updates = record { enable = 2; target = Reg 0; value = 1 }
      ∷ record { enable = 2; target = Reg 1; value = 0 }
      ∷ record { enable = 2; target = Place 0 2; value = 0 }
      ∷ record { enable = 2; target = Place 0 1; value = 0 }
      ∷ record { enable = 3; target = Reg 0; value = 3 } ∷ [];
  instances = [];
}

abbrev wires : Family
wires n = slice_index (200 ∷ 100 ∷ 1 ∷ 0 ∷ []) n

abbrev contents : Contents
contents = record { regs = wires; cells = λ k a. 7 + a }

abbrev at : ℕ → Expr → ℕ
at w e = value sample contents wires w e

plain : at 8 (Plain 0) ≡ 200
plain = refl

literal : at 8 (Literal (record { bits = 10; width = 8; some = lit≤ tt; at_most = lit≤ tt; fits = lit< tt })) ≡ 10
literal = refl

turned : at 8 (Not 0) ≡ 55
turned = refl

sum : at 8 (Binary Add 0 1) ≡ 44
sum = refl

difference : at 8 (Binary Sub 1 0) ≡ 156
difference = refl

product : at 8 (Binary Mul 0 1) ≡ 32
product = refl

quotient : at 8 (Binary Div 0 1) ≡ 2
quotient = refl

quotient_by_zero : at 8 (Binary Div 0 3) ≡ 0
quotient_by_zero = refl

both : at 8 (Binary And 0 1) ≡ 64
both = refl

either : at 8 (Binary Or 0 1) ≡ 236
either = refl

one_alone : at 8 (Binary Xor 0 1) ≡ 172
one_alone = refl

equal : at 1 (Binary Eq 0 1) ≡ 0
equal = refl

below : at 1 (Binary Lt 1 0) ≡ 1
below = refl

joined : at 16 (Concat 0 1) ≡ 51300
joined = refl

twice : at 16 (Repeat 2 1) ≡ 25700
twice = refl

bits_five_to_two : at 4 (Part 0 5 2) ≡ 2
bits_five_to_two = refl

chosen : at 8 (Choose 2 0 1) ≡ 200
chosen = refl

not_chosen : at 8 (Choose 3 0 1) ≡ 100
not_chosen = refl

word_at_one : at 8 (Cell 0 2) ≡ 8
word_at_one = refl

word_past_depth : at 8 (Cell 0 1) ≡ 0
word_past_depth = refl

-- the registers change places, and an update that isn't enabled does nothing
first_after : (after_edge sample contents wires).regs 0 ≡ 100
first_after = refl

second_after : (after_edge sample contents wires).regs 1 ≡ 200
second_after = refl

-- the word at address 1 is written, and none past the depth
word_after : (after_edge sample contents wires).cells 0 1 ≡ 200
word_after = refl

word_past_after : (after_edge sample contents wires).cells 0 100 ≡ 107
word_past_after = refl

a_name : is_name (codes "in$x_1$data") ≡ true
a_name = refl

a_reserved_word : is_name (codes "endmodule") ≡ false
a_reserved_word = refl

a_clock : is_name (codes "clk") ≡ true
a_clock = refl

a_number : is_name (codes "1x") ≡ false
a_number = refl

-- one kernel Double with an input x and an output y of 8 bits
abbrev double_shape : Shape
double_shape = record {
  kernels = codes "Double" ∷ [];
  scalars = [];
  inputs = (codes "x", 8) ∷ [];
  outputs = (codes "y", 8) ∷ [];
}

abbrev wire : List ℕ → ℕ → Net
wire name width = record { name = name; width = width; reg = false }

abbrev port : ℕ → Bool → Port
port n output = record { net = n; output = output }

-- its nets stand in the reverse order of its ports, so that a port's number is not its net's
abbrev double_top : Module
double_top = record {
  name = codes "top$project";
  ports = port 10 false ∷ port 9 false ∷ port 8 false ∷ port 7 false ∷ port 6 false ∷ port 5 false ∷ port 4 true ∷ port 3 true ∷ port 2 true ∷ port 1 false ∷ port 0 true ∷ [];
  nets = wire (codes "done") 1 ∷ wire (codes "out$y$ready") 1 ∷ wire (codes "out$y$valid") 1
      ∷ wire (codes "out$y$data") 8 ∷ wire (codes "in$x$ready") 1 ∷ wire (codes "in$x$valid") 1
      ∷ wire (codes "in$x$data") 8 ∷ wire (codes "ticks$Double") 48
      ∷ wire (codes "hold$Double") 1 ∷ wire (codes "reset") 1 ∷ wire (codes "clk") 1 ∷ [];
  mems = [];
  assigns = [];
  updates = [];
  instances = [];
}

has_shape : HasShape double_top double_shape
has_shape = refl

outer : outer_of double_shape double_top ≡ record {
  clock = 10;
  reset = 9;
  holds = 8 ∷ [];
  steady = 7 ∷ [];
  inputs = record { word = 6; valid = 5; ready = 4 } ∷ [];
  outputs = record { word = 3; valid = 2; ready = 1 } ∷ [];
  done = 0;
}
outer = refl
