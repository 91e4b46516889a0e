-- Nets that have no assignment yet, in modules that grow.
use Rattle.std.proofs.Common.{◌≡◌, ℕ, ◌+◌, ◌<◌, false, eqb, List, [], ◌∷◌, ◌++◌, length, refl, ap, ◌∙◌, arith}
use Rattle.rtl_ir.specs.declared.design.Net.{Net}
use Rattle.rtl_ir.specs.declared.design.Module.{Module}
use Rattle.rtl_ir.specs.declared.design.Assign.{Assign}
use Rattle.rtl_ir.specs.declared.design.Update.{Update}
use Rattle.rtl_ir.specs.Grow.{Grows}
use Rattle.rtl_build.specs.declared.signal.Signal.{Signal}
use Rattle.rtl_build.specs.Wires.{AreWires, AddsWires}
use Rattle.rtl_build.specs.Ports.{Drives}
use Rattle.rtl_build.specs.Storage.{AddsRegister, AddsMemory, AddsUpdate, ReadsCell}
use Rattle.rtl_delays.specs.Driven.{is_driven, KeepsUndriven, LeavesUndriven}
use Rattle.rtl_delays.proofs.Lists.{or_first, or_second, or_both}
use Rattle.rtl_delays.proofs.Extends.{more_nets}

-- assignments of two lists
pub driven_both : (n : ℕ) (xs ys : List Assign) → is_driven n xs ≡ false → is_driven n ys ≡ false → is_driven n (xs ++ ys) ≡ false
driven_both n [] ys h k = k
driven_both n (x ∷ xs) ys h k =
    or_both (eqb x.target n) (is_driven n (xs ++ ys)) (or_first (eqb x.target n) (is_driven n xs) h) (driven_both n xs ys (or_second (eqb x.target n) (is_driven n xs) h) k)

other : (n k : ℕ) → n < k → eqb k n ≡ false
other n k h = grind (arith, h)

wires_past : (m : Module) (n k : ℕ) (nets : List Net) (assigns : List Assign) → n < k → AreWires m k nets assigns → is_driven n assigns ≡ false
wires_past m n k [] [] lt w = refl
wires_past m n k [] (a ∷ assigns) lt w = absurd w
wires_past m n k (x ∷ nets) [] lt w = absurd w
wires_past m n k (x ∷ nets) (a ∷ assigns) lt w =
    or_both (eqb a.target n) (is_driven n assigns) (ap (λ t. eqb t n) w.0.target ∙ other n k lt) (wires_past m n (k + 1) nets assigns (omega (arith, lt)) w.1)

-- a module whose assignments are the same
pub same_undriven : (m n : Module) → n.assigns ≡ m.assigns → KeepsUndriven m n
same_undriven m n e k lt h = ap (is_driven k) e ∙ h

pub wires_undriven : {m n : Module} {most : ℕ} → AddsWires m n most → KeepsUndriven m n
wires_undriven {m} {n} adds k lt h =
    ap (is_driven k) adds.grows.assigns ∙ driven_both k m.assigns adds.grows.more_assigns h (wires_past n k (length m.nets) adds.grows.more_nets adds.grows.more_assigns lt adds.wires)

pub register_undriven : {m n : Module} {name : List ℕ} {w : ℕ} {s : Signal} → AddsRegister m n name w s → KeepsUndriven m n
register_undriven {m} {n} adds = same_undriven m n (ap (λ (k : Module). k.assigns) adds.is)

pub memory_undriven : {m n : Module} {name : List ℕ} {w depth j : ℕ} → AddsMemory m n name w depth j → KeepsUndriven m n
memory_undriven {m} {n} adds = same_undriven m n (ap (λ (k : Module). k.assigns) adds.is)

pub update_undriven : {m n : Module} {u : Update} → AddsUpdate m n u → KeepsUndriven m n
update_undriven {m} {n} adds = same_undriven m n (ap (λ (k : Module). k.assigns) adds.is)

pub cell_undriven : {m n : Module} {j : ℕ} {address s : Signal} → ReadsCell m n j address s → KeepsUndriven m n
cell_undriven {m} {n} adds k lt h =
    ap (λ (x : Module). is_driven k x.assigns) adds.is ∙ driven_both k m.assigns _ h (or_both (eqb (length m.nets) k) false (other k (length m.nets) lt) refl)

pub drive_undriven : {m n : Module} {output source : Signal} → Drives m n output source → LeavesUndriven m n output.net
drive_undriven {m} {n} {output} adds k lt h apart =
    ap (λ (x : Module). is_driven k x.assigns) adds.is ∙ driven_both k m.assigns _ h (or_both (eqb output.net k) false apart refl)

pub undriven_on : (l m n : Module) → Grows l m → KeepsUndriven l m → KeepsUndriven m n → KeepsUndriven l n
undriven_on l m n g a b k lt h = b k (let q = more_nets g in omega (arith, q, lt)) (a k lt h)
