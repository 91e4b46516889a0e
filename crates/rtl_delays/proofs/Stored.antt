-- The bits that a module stores, as it grows.
use Rattle.std.proofs.Common.{◌≡◌, ℕ, ◌+◌, ◌*◌, true, false, cond, List, [], ◌∷◌, ◌++◌, length, refl, ap, ◌∙◌, arith}
use Rattle.rtl_ir.specs.declared.design.Net.{Net}
use Rattle.rtl_ir.specs.declared.design.Mem.{Mem}
use Rattle.rtl_ir.specs.declared.design.Assign.{Assign}
use Rattle.rtl_ir.specs.declared.design.Update.{Update}
use Rattle.rtl_ir.specs.declared.design.Module.{Module}
use Rattle.rtl_ir.specs.Typed.{word_width}
use Rattle.rtl_build.specs.declared.signal.Signal.{Signal}
use Rattle.rtl_build.specs.Wires.{AreWires, AddsWires, wire_name}
use Rattle.rtl_build.specs.Ports.{AddsPort, Drives}
use Rattle.rtl_build.specs.Storage.{AddsRegister, AddsMemory, AddsUpdate, ReadsCell}
use Rattle.rtl_delays.specs.Stored.{net_bits, mem_bits, stored_bits}

net_both : (xs ys : List Net) → net_bits (xs ++ ys) ≡ net_bits xs + net_bits ys
net_both [] ys = omega arith
net_both (x ∷ xs) ys = let e = net_both xs ys in omega (arith, e)

mem_both : (xs ys : List Mem) → mem_bits (xs ++ ys) ≡ mem_bits xs + mem_bits ys
mem_both [] ys = omega arith
mem_both (x ∷ xs) ys = let e = mem_both xs ys in omega (arith, e)

wires_none : (m : Module) (n : ℕ) (nets : List Net) (assigns : List Assign) → AreWires m n nets assigns → net_bits nets ≡ 0
wires_none m n [] [] w = refl
wires_none m n [] (a ∷ assigns) w = absurd w
wires_none m n (x ∷ nets) [] w = absurd w
wires_none m n (x ∷ nets) (a ∷ assigns) w =
    let e : cond x.reg x.width 0 ≡ 0 = ap (λ b. cond b x.width 0) w.0.wire in
    let f = wires_none m (n + 1) nets assigns w.1 in
    omega (arith, e, f)

-- wires store nothing
pub wires_stored : {m n : Module} {most : ℕ} → AddsWires m n most → stored_bits n ≡ stored_bits m
wires_stored {m} {n} adds =
    let a = ap net_bits adds.grows.nets ∙ net_both m.nets adds.grows.more_nets in
    let b = wires_none n (length m.nets) adds.grows.more_nets adds.grows.more_assigns adds.wires in
    let c = ap mem_bits adds.mems in
    omega (arith, a, b, c)

pub register_stored : {m n : Module} {name : List ℕ} {w : ℕ} {s : Signal} → AddsRegister m n name w s → stored_bits n ≡ stored_bits m + w
register_stored {m} {n} {name} {w} adds =
    let a = ap stored_bits adds.is in
    let b = net_both m.nets (record { name = name; width = w; reg = true } ∷ []) in
    omega (arith, a, b)

pub memory_stored : {m n : Module} {name : List ℕ} {w depth k : ℕ} → AddsMemory m n name w depth k → stored_bits n ≡ stored_bits m + w * depth
memory_stored {m} {n} {name} {w} {depth} adds =
    let a = ap stored_bits adds.is in
    let b = mem_both m.mems (record { name = name; width = w; depth = depth } ∷ []) in
    omega (arith, a, b)

pub cell_stored : {m n : Module} {k : ℕ} {address s : Signal} → ReadsCell m n k address s → stored_bits n ≡ stored_bits m
cell_stored {m} {n} {k} adds =
    let a = ap stored_bits adds.is in
    let b = net_both m.nets (record { name = wire_name (length m.nets); width = word_width m k; reg = false } ∷ []) in
    omega (arith, a, b)

pub update_stored : {m n : Module} {u : Update} → AddsUpdate m n u → stored_bits n ≡ stored_bits m
update_stored adds = ap stored_bits adds.is

pub drive_stored : {m n : Module} {output source : Signal} → Drives m n output source → stored_bits n ≡ stored_bits m
drive_stored adds = ap stored_bits adds.is

pub port_stored : {m n : Module} {name : List ℕ} {w : ℕ} {output : _} {s : Signal} → AddsPort m n name w output s → stored_bits n ≡ stored_bits m
port_stored {m} {n} {name} {w} adds =
    let a = ap stored_bits adds.is in
    let b = net_both m.nets (record { name = name; width = w; reg = false } ∷ []) in
    omega (arith, a, b)
