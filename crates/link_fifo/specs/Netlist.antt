-- The module of a FIFO, net by net: w is the width of its words, p the bits of its places, and q
-- those of its counts.
use Rattle.std.specs.Prelude.{ℕ, ◌+◌, ◌-◌, List, [], ◌∷◌, ◌++◌, Bool, true, false, codes}
use Rattle.rtl_ir.specs.declared.design.Net.{Net}
use Rattle.rtl_ir.specs.declared.design.Port.{Port}
use Rattle.rtl_ir.specs.declared.design.Mem.{Mem}
use Rattle.rtl_ir.specs.declared.design.Module.{Module}
use Rattle.rtl_ir.specs.declared.design.Assign.{Assign}
use Rattle.rtl_ir.specs.declared.design.Update.{Update}
use Rattle.rtl_ir.specs.declared.design.Target.{Target}
use Rattle.rtl_ir.specs.declared.design.Target.TheVariants.{Reg, Cell as Place}
use Rattle.rtl_ir.specs.declared.design.Expr.{Expr}
use Rattle.rtl_ir.specs.declared.design.Expr.TheVariants.{Literal, Not, Binary, Concat, Choose}
use Rattle.rtl_ir.specs.declared.design.Expr.TheVariants.{Cell, Part}
use Rattle.rtl_ir.specs.declared.design.Sign.TheVariants.{Add, Sub, And, Eq, Lt}
use Rattle.rtl_ir.specs.Run.{Channel}
use Rattle.rtl_build.specs.Wires.{wire_name}
use Rattle.rtl_build.specs.Ports.{with_port}
use Rattle.link_fifo.specs.declared.numbers.Numbers.{Numbers}

-- a wire of a name and a width
abbrev pub wire : List ℕ → ℕ → Net
wire name w = record { name = name; width = w; reg = false }

-- a register of a name and a width
abbrev pub register : List ℕ → ℕ → Net
register name w = record { name = name; width = w; reg = true }

-- a port of a net
abbrev pub port : ℕ → Bool → Port
port n output = record { net = n; output = output }

-- an assignment of an expression to a net
abbrev pub gets : ℕ → Expr → Assign
gets n e = record { target = n; expr = e }

-- an update that writes a net where another one is 1
abbrev pub write : ℕ → Target → ℕ → Update
write on t x = record { enable = on; target = t; value = x }

-- a module with the three ports of the side that takes words, after its own
abbrev pub with_input : Module → ℕ → Module
with_input m w =
    with_port
    (with_port (with_port m (codes "in$data") w false) (codes "in$valid") 1 false)
    (codes "in$ready")
    1
    true

-- a module with the three ports of the side that gives words, after its own
abbrev pub with_output : Module → ℕ → Module
with_output m w =
    with_port
    (with_port (with_port m (codes "out$data") w true) (codes "out$valid") 1 true)
    (codes "out$ready")
    1
    false

-- the ports: clk, reset, the data, valid and ready of the one side, and those of the other
abbrev pub the_ports : List Port
the_ports =
    port 0 false ∷ port 1 false
    ∷ port 2 false ∷ port 3 false ∷ port 4 true
    ∷ port 5 true ∷ port 6 true ∷ port 7 false
    ∷ []

-- the nets of the ports, and the registers of the place and of the count, nets 8 and 9
abbrev pub frame_nets : ℕ → ℕ → ℕ → List Net
frame_nets w p q =
    wire (codes "clk") 1 ∷ wire (codes "reset") 1
    ∷ wire (codes "in$data") w ∷ wire (codes "in$valid") 1 ∷ wire (codes "in$ready") 1
    ∷ wire (codes "out$data") w ∷ wire (codes "out$valid") 1 ∷ wire (codes "out$ready") 1
    ∷ register (codes "r8") p ∷ register (codes "r9") q
    ∷ []

-- the memory of the words
abbrev pub the_mems : ℕ → ℕ → List Mem
the_mems w depth = record { name = codes "m0"; width = w; depth = depth } ∷ []

-- the module that has the ports, the registers and the memory alone
abbrev pub frame_of : List ℕ → ℕ → ℕ → ℕ → ℕ → Module
frame_of name w depth p q = record {
  name = name;
  ports = the_ports;
  nets = frame_nets w p q;
  mems = the_mems w depth;
  assigns = [];
  updates = [];
  instances = [];
}

-- wires of these widths, named by their numbers from n on
abbrev pub wires_from : ℕ → List ℕ → List Net
wires_from n [] = []
wires_from n (w ∷ ws) = wire (wire_name n) w ∷ wires_from (n + 1) ws

-- The widths of the wires, from net 10 on: those that say whether it is full and whether it is
-- empty, what moves, the next place, the next count, and where a word is written.
abbrev pub wire_widths : ℕ → ℕ → List ℕ
wire_widths p q =
    q ∷ 1 ∷ q ∷ 1
    ∷ 1 ∷ 1
    ∷ p ∷ 1 ∷ p ∷ p ∷ p ∷ p ∷ p ∷ p
    ∷ q ∷ q ∷ q ∷ q ∷ q ∷ q ∷ q
    ∷ 1 ∷ (q + 1 - p) ∷ 1 ∷ (q + 1) ∷ (q + 1) ∷ (q + 1) ∷ (q + 1) ∷ 1
    ∷ p ∷ p ∷ p ∷ p
    ∷ []

-- all nets
abbrev pub the_nets : ℕ → ℕ → ℕ → List Net
the_nets w p q = frame_nets w p q ++ wires_from 10 (wire_widths p q)

-- It is ready where the count isn't the depth, and valid where the count isn't 0, and it shows the
-- word at the place. 10 is the depth, 11 whether it is full, 12 is 0, 13 whether it is empty.
abbrev pub state_assigns : Numbers → List Assign
state_assigns n =
    gets 10 (Literal n.count.last) ∷ gets 11 (Binary Eq 9 10) ∷ gets 4 (Not 11)
    ∷ gets 12 (Literal n.count.zero) ∷ gets 13 (Binary Eq 9 12) ∷ gets 6 (Not 13)
    ∷ gets 5 (Cell 0 8)
    ∷ []

-- a word is taken (14), and one is given (15), where valid and ready are 1
abbrev pub move_assigns : List Assign
move_assigns = gets 14 (Binary And 3 4) ∷ gets 15 (Binary And 6 7) ∷ []

-- The place steps round where a word is given. 16 is the last place, 17 whether the first word
-- stands there, 18 is 1, 19 the place and 1, 20 the first place, 21 the next place round the depth,
-- 22 the place after the edge without a reset, and 23 the place after the edge.
abbrev pub place_assigns : Numbers → List Assign
place_assigns n =
    gets 16 (Literal n.place.last) ∷ gets 17 (Binary Eq 8 16)
    ∷ gets 18 (Literal n.place.one) ∷ gets 19 (Binary Add 8 18)
    ∷ gets 20 (Literal n.place.zero)
    ∷ gets 21 (Choose 17 20 19) ∷ gets 22 (Choose 15 21 8) ∷ gets 23 (Choose 1 20 22)
    ∷ []

-- The count goes up where a word is taken and none is given, and down the other way round. 24 is 1,
-- 25 a word more, 26 a word less, 27 the count where a word is taken, 28 where none is, 29 either,
-- and 30 the count after the edge, 0 in a reset.
abbrev pub count_assigns : Numbers → List Assign
count_assigns n =
    gets 24 (Literal n.count.one) ∷ gets 25 (Binary Add 9 24) ∷ gets 26 (Binary Sub 9 24)
    ∷ gets 27 (Choose 15 9 25) ∷ gets 28 (Choose 15 26 9)
    ∷ gets 29 (Choose 14 27 28) ∷ gets 30 (Choose 1 12 29)
    ∷ []

-- A word is written at the place and the count together, round the depth. 31 is always 1, 32 and
-- 33 are zeros, 34 is the place and 35 the count, wider, 36 their sum, 37 the depth, 38 whether the
-- sum is below it, 39 and 40 the low bits of the sum and of the depth, as many as a place has, 41
-- those of the sum less the depth, and 42 where a word is written.
abbrev pub address_assigns : ℕ → Numbers → List Assign
address_assigns p n =
    gets 31 (Literal n.high)
    ∷ gets 32 (Literal n.before_place) ∷ gets 33 (Literal n.before_count)
    ∷ gets 34 (Concat 32 8) ∷ gets 35 (Concat 33 9) ∷ gets 36 (Binary Add 34 35)
    ∷ gets 37 (Literal n.wide_depth)
    ∷ gets 38 (Binary Lt 36 37)
    ∷ gets 39 (Part 36 (p - 1) 0) ∷ gets 40 (Literal n.low_depth) ∷ gets 41 (Binary Sub 39 40)
    ∷ gets 42 (Choose 38 39 41)
    ∷ []

-- all assignments
abbrev pub the_assigns : ℕ → Numbers → List Assign
the_assigns p n =
    state_assigns n ++ move_assigns ++ place_assigns n ++ count_assigns n ++ address_assigns p n

-- the place and the count are written in each edge, and a word where one is taken
abbrev pub the_updates : List Update
the_updates = write 31 (Reg 8) 23 ∷ write 31 (Reg 9) 30 ∷ write 14 (Place 0 42) 2 ∷ []

-- the module of a FIFO with p bits for its places and q bits for its counts
abbrev pub fifo_of : List ℕ → ℕ → ℕ → ℕ → ℕ → Numbers → Module
fifo_of name w depth p q n = record {
  name = name;
  ports = the_ports;
  nets = the_nets w p q;
  mems = the_mems w depth;
  assigns = the_assigns p n;
  updates = the_updates;
  instances = [];
}

-- the side that takes words
abbrev pub input : Channel
input = record { word = 2; valid = 3; ready = 4 }

-- the side that gives words
abbrev pub output : Channel
output = record { word = 5; valid = 6; ready = 7 }
