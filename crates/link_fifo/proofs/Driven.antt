-- Each net but the inputs and the registers has one assignment, and each register one update.
use Rattle.std.proofs.Common.{◌≡◌, ℕ, ◌<◌, Bool, true, false, ◌&&◌, ◌||◌, not, cond, eqb, ltb, List, [], ◌∷◌, length, refl, sym, ap, subst, ◌∙◌}
use Rattle.std.specs.Prelude.{Option, Some, None, slice_get}
use Rattle.std.proofs.lemmas.Bool.{eqb-true, ltb-true}
use Rattle.rtl_ir.specs.declared.design.Net.{Net}
use Rattle.rtl_ir.specs.declared.design.Module.{Module}
use Rattle.rtl_ir.specs.declared.design.Design.{Design}
use Rattle.rtl_ir.specs.declared.design.Assign.{Assign}
use Rattle.rtl_ir.specs.declared.design.Update.{Update}
use Rattle.rtl_ir.specs.declared.design.Target.{Target}
use Rattle.rtl_ir.specs.declared.design.Target.TheVariants.{Reg, Cell as Place}
use Rattle.rtl_ir.specs.Value.{is_reg, net_kept}
use Rattle.rtl_ir.specs.Typed.{is_given}
use Rattle.rtl_ir.specs.Rules.{Connection, Driver, ByAssign, ByPort, Drives, HasDrivers, HasUpdates}
use Rattle.link_fifo.specs.declared.numbers.Numbers.{Numbers}
use Rattle.link_fifo.specs.Netlist.{the_assigns, the_nets, the_updates, fifo_of}
use Rattle.link_fifo.proofs.Items.{Each, each_at, and_true, or_second, not_true, holds_all, holds_at, item_at, in_table}

pub no_instance : (d : Design) (name : List ℕ) (w e p q : ℕ) (n : Numbers) (k j : ℕ) → Connection d (fifo_of name w e p q n) k j → ⊥
no_instance d name w e p q n k j c = let h : slice_get [] k ≡ Some c.part = c.of in absurd (cc)

-- the assignment of each net
abbrev assign_of : ℕ → ℕ
assign_of =
    in_table
    (0 ∷ 0 ∷ 0 ∷ 0 ∷ 2 ∷ 6 ∷ 5 ∷ 0 ∷ 0 ∷ 0 ∷ 0 ∷ 1 ∷ 3 ∷ 4 ∷ 7 ∷ 8 ∷ 9 ∷ 10 ∷ 11 ∷ 12 ∷ 13 ∷ 14 ∷ 15 ∷ 16 ∷ 17
    ∷ 18 ∷ 19 ∷ 20 ∷ 21 ∷ 22 ∷ 23 ∷ 24 ∷ 25 ∷ 26 ∷ 27 ∷ 28 ∷ 29 ∷ 30 ∷ 31 ∷ 32 ∷ 33 ∷ 34 ∷ 35 ∷ [])

-- whether an assignment is the one of its net, which has no other source
abbrev alone : Module → ℕ → Assign → Bool
alone m j a = ltb a.target 43 && (not (is_given m a.target) && eqb j (assign_of a.target))

all_alone : (name : List ℕ) (w e p q : ℕ) (n : Numbers) → holds_all (alone (fifo_of name w e p q n)) 0 (the_assigns p n) ≡ true
all_alone name w e p q n = refl

-- whether an assignment that there is has this net
abbrev gives_to : ℕ → Option Assign → Bool
gives_to n None = false
gives_to n (Some a) = eqb a.target n

given_to : (n : ℕ) (a : Option Assign) → gives_to n a ≡ true → (b : Assign) × (a ≡ Some b) × (b.target ≡ n)
given_to n None h = absurd (cc)
given_to n (Some a) h = (a, refl, eqb-true a.target n h)

abbrev has_driver : Module → List Assign → ℕ → Net → Bool
has_driver m assigns n x = is_given m n || gives_to n (slice_get assigns (assign_of n))

all_have : (name : List ℕ) (w e p q : ℕ) (n : Numbers) → holds_all (has_driver (fifo_of name w e p q n) (the_assigns p n)) 0 (the_nets w p q) ≡ true
all_have name w e p q n = refl

pub driven : (d : Design) (name : List ℕ) (w e p q : ℕ) (n : Numbers) → HasDrivers d (fifo_of name w e p q n)
driven d name w e p q n = record { driver = λ k. ByAssign (assign_of k); some = some; only = only }
  where
    some : (k : ℕ) → k < length (the_nets w p q) → is_given (fifo_of name w e p q n) k ≡ false → Drives d (fifo_of name w e p q n) (ByAssign (assign_of k)) k
    some k h free =
        let m = fifo_of name w e p q n in
        let x = item_at (the_nets w p q) k h in
        let test = holds_at (has_driver m (the_assigns p n)) (the_nets w p q) (all_have name w e p q n) k x.0 x.1 in
        given_to k (slice_get (the_assigns p n) (assign_of k)) (or_second (is_given m k) (gives_to k (slice_get (the_assigns p n) (assign_of k))) test free)

    only :
        (k : ℕ) (y : Driver)
        → Drives d (fifo_of name w e p q n) y k
        → (k < length (the_nets w p q)) × (is_given (fifo_of name w e p q n) k ≡ false) × (y ≡ ByAssign (assign_of k))
    only k (ByAssign j) h =
        let m = fifo_of name w e p q n in
        let a = h.0 in
        let test = holds_at (alone m) (the_assigns p n) (all_alone name w e p q n) j a h.1 in
        let first = and_true (ltb a.target 43) (not (is_given m a.target) && eqb j (assign_of a.target)) test in
        let second = and_true (not (is_given m a.target)) (eqb j (assign_of a.target)) first.1 in
        let P : ℕ → Type 0 = λ k. (k < 43) × (is_given m k ≡ false) × (ByAssign j ≡ ByAssign (assign_of k)) in
        subst P h.2 (ltb-true a.target 43 first.0, not_true (is_given m a.target) second.0, ap ByAssign (eqb-true j (assign_of a.target) second.1))
    only k (ByPort i j) h = absurd (no_instance d name w e p q n i j h.0)

-- the update of a register
abbrev update_of : ℕ → ℕ
update_of n = cond (eqb n 8) 0 1

abbrev is_of : ℕ → Target → Bool
is_of n (Reg k) = eqb k n
is_of n (Place k a) = false

is_reg_of : (n : ℕ) (t : Target) → is_of n t ≡ true → t ≡ Reg n
is_reg_of n (Reg k) h = ap Reg (eqb-true k n h)
is_reg_of n (Place k a) h = absurd (cc)

abbrev writes_to : ℕ → Option Update → Bool
writes_to n None = false
writes_to n (Some u) = is_of n u.target

written_to : (n : ℕ) (u : Option Update) → writes_to n u ≡ true → (x : Update) × (u ≡ Some x) × (x.target ≡ Reg n)
written_to n None h = absurd (cc)
written_to n (Some u) h = (u, refl, is_reg_of n u.target h)

abbrev is_written : ℕ → Net → Bool
is_written n x = not x.reg || writes_to n (slice_get the_updates (update_of n))

all_written : (w p q : ℕ) → holds_all is_written 0 (the_nets w p q) ≡ true
all_written w p q = refl

kept_item : (x : Option Net) → net_kept x ≡ true → (y : Net) × (x ≡ Some y) × (y.reg ≡ true)
kept_item None h = absurd (cc)
kept_item (Some y) h = (y, refl, h)

-- an update of a register is the one of that register
abbrev OfReg : Module → ℕ → Update → Type 0
OfReg m j u = (n : ℕ) → u.target ≡ Reg n → (is_reg m n ≡ true) × (j ≡ update_of n)

-- the memory is written by the last update alone
abbrev OfMem : ℕ → Update → Type 0
OfMem j u = (k a : ℕ) → u.target ≡ Place k a → j ≡ 2

of_regs : (name : List ℕ) (w e p q : ℕ) (n : Numbers) → Each (OfReg (fifo_of name w e p q n)) 0 the_updates
of_regs name w e p q n =
    let m = fifo_of name w e p q n in (
      λ k h. let same : 8 ≡ k = cc in subst (λ x. (is_reg m x ≡ true) × (0 ≡ update_of x)) same (refl, refl),
      (
        λ k h. let same : 9 ≡ k = cc in subst (λ x. (is_reg m x ≡ true) × (1 ≡ update_of x)) same (refl, refl),
        (λ k h. absurd (cc), tt),
      ),
    )

of_mems : Each OfMem 0 the_updates
of_mems = (λ k a h. absurd (cc), (λ k a h. absurd (cc), (λ k a h. refl, tt)))

not_false : (a : Bool) → a ≡ true → not a ≡ false
not_false a h = ap not h

pub updated : (name : List ℕ) (w e p q : ℕ) (n : Numbers) → HasUpdates (fifo_of name w e p q n)
updated name w e p q n = record {
  update = update_of;
  some = λ k h.
      let x = kept_item (slice_get (the_nets w p q) k) h in
      let test = holds_at is_written (the_nets w p q) (all_written w p q) k x.0 x.1 in
      written_to k (slice_get the_updates (update_of k))
      (or_second (not x.0.reg) (writes_to k (slice_get the_updates (update_of k))) test (not_false x.0.reg x.2));
  only = λ k j u h t. each_at (OfReg (fifo_of name w e p q n)) the_updates (of_regs name w e p q n) j u h k t;
  of_mems = λ k i j a b u v h g s t. each_at OfMem the_updates of_mems i u h k a s ∙ sym (each_at OfMem the_updates of_mems j v g k b t);
}
