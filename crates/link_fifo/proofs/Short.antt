-- The names of nets and memories are short.
use Rattle.std.proofs.Common.{◌≡◌, ℕ, ◌+◌, ◌≤◌, ◌∷◌, [], List, length, leb, true, refl, arith}
use Rattle.std.specs.Prelude.{codes}
use Rattle.std.specs.List.{All}
use Rattle.std.specs.Fmt.{decimal}
use Rattle.std.proofs.lemmas.Fmt.{length-decimal-le}
use Rattle.std.proofs.lemmas.List.Elements.{All-nil, All-cons, All-append, All-weaker}
use Rattle.std.proofs.lemmas.List.Sums.{AllPass-from_list_all}
use Rattle.std.proofs.lemmas.Bool.{leb-true}
use Rattle.rtl_ir.specs.declared.design.Mem.{Mem}
use Rattle.rtl_ir.specs.declared.design.Net.{Net}
use Rattle.rtl_build.specs.Wires.{wire_name}
use Rattle.link_fifo.specs.Netlist.{wire, frame_nets, wires_from, wire_widths, the_nets, the_mems}

-- a net with a short name
abbrev IsShort : Net → Type 0
IsShort n = length n.name ≤ 16

wires_short : (n : ℕ) (ws : List ℕ) → n + length ws ≤ 100 → All IsShort (wires_from n ws)
wires_short n [] few = All-nil IsShort
wires_short n (w ∷ ws) few =
    let digits : length (decimal n) ≤ 2 = length-decimal-le 2 n (omega arith) (omega arith) (omega arith) in
    All-cons IsShort (wire (wire_name n) w) (wires_from (n + 1) ws) (omega (arith, digits)) (wires_short (n + 1) ws (omega arith))

frame_short : (w p q : ℕ) → All IsShort (frame_nets w p q)
frame_short w p q =
    All-weaker (λ (n : Net). leb (length n.name) 16 ≡ true) IsShort (λ n h. leb-true (length n.name) 16 h) (frame_nets w p q)
    (AllPass-from_list_all (λ (n : Net). leb (length n.name) 16) (frame_nets w p q) refl)

pub nets_short : (w p q : ℕ) → All IsShort (the_nets w p q)
nets_short w p q = All-append IsShort (frame_nets w p q) (wires_from 10 (wire_widths p q)) (frame_short w p q) (wires_short 10 (wire_widths p q) (omega arith))

pub mems_short : (w depth : ℕ) → All (λ (k : Mem). length k.name ≤ 16) (the_mems w depth)
mems_short w depth =
    let P : Mem → Type 0 = λ k. length k.name ≤ 16 in
    All-cons P (record { name = codes "m0"; width = w; depth = depth }) [] (omega arith) (All-nil P)
