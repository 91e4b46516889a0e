-- How many assignments and updates a module has: no more than nets and memories. Each assignment has a net of its own, each
-- register one update, and each memory at most one.
use Rattle.std.proofs.Common.{◌≡◌, ◌∙◌, ◌⊎◌, inl, inr, ⊎_elim, ℕ, ◌+◌, ◌-◌, ◌<◌, ◌≤◌, Bool, true, false, ◌||◌, List, ◌++◌, length, get_or, Some, eqb, refl, sym, ap, subst, arith, length-append}
use Rattle.std.specs.Prelude.{map, slice_get}
use Rattle.std.specs.List.{IsDistinct}
use Rattle.std.proofs.lemmas.Bool.{cases_lt, ne_eqb, eqb-true, true≢false}
use Rattle.std.proofs.lemmas.List.{length-map, get_or_append_left, get_or-append_right}
use Rattle.std.proofs.lemmas.Map.Keys.{IsDistinct-from_apart}
use Rattle.std.proofs.lemmas.Map.Steps.{length-le_from_distinct_below}
use Rattle.std.proofs.lemmas.Map.Views.{Contains-from_any}
use Rattle.rtl_ir.specs.declared.design.Assign.{Assign}
use Rattle.rtl_ir.specs.declared.design.Target.{Target}
use Rattle.rtl_ir.specs.declared.design.Target.TheVariants.{Reg, Cell as Word}
use Rattle.rtl_ir.specs.declared.design.Update.{Update}
use Rattle.rtl_ir.specs.declared.design.Module.{Module}
use Rattle.rtl_ir.specs.declared.design.Design.{Design}
use Rattle.rtl_ir.specs.Value.{is_reg}
use Rattle.rtl_ir.specs.Typed.{is_input}
use Rattle.rtl_ir.specs.Operands.{target_net, target_mem}
use Rattle.rtl_ir.specs.Formed.{IsFormedModule}
use Rattle.rtl_ir.specs.Rules.{Driver, ByAssign, ByPort, IsSound}
use Rattle.verilog_size.proofs.Slices.{found, mapped}

-- the number of what an update writes: a net's own number, and a memory's behind those of all nets
abbrev slot : ℕ → Target → ℕ
slot nets (Reg n) = n
slot nets (Word k a) = nets + k

-- the net of each assignment, and the number of what each update writes
abbrev pub assigned : Module → List ℕ
assigned m = map (λ (a : Assign). a.target) m.assigns

abbrev written : Module → List ℕ
written m = map (λ (u : Update). slot (length m.nets) u.target) m.updates

-- assignment number i gives net v its value
pub record IsAssigned (m : Module) (i v : ℕ) : Type 0 where
  pub assign : Assign
  pub at : slice_get m.assigns i ≡ Some assign
  pub gives : assign.target ≡ v

-- update number i, counted behind the assignments, writes what has number v
pub record IsWritten (m : Module) (i v : ℕ) : Type 0 where
  pub number : ℕ
  pub behind : i ≡ length m.assigns + number
  pub update : Update
  pub at : slice_get m.updates number ≡ Some update
  pub writes : slot (length m.nets) update.target ≡ v

-- place i of these two lists, one behind the other, has number v
abbrev Has : Module → ℕ → ℕ → Type 0
Has m i v = IsAssigned m i v ⊎ IsWritten m i v

-- assignments have different numbers
same_number : (i j : ℕ) → ◌≡◌ {A = Driver} (ByAssign i) (ByAssign j) → i ≡ j
same_number i j e = ap number e
  where
    number : Driver → ℕ
    number (ByAssign k) = k
    number (ByPort k l) = 0

module _ {d : Design} {earlier : List Module} (m : Module) (f : IsFormedModule earlier m) (s : IsSound d m) where
  -- each place of the joined list is that of an assignment or of an update
  has : (i x : ℕ) → i < length (assigned m ++ written m) → Has m i (get_or (assigned m ++ written m) i x)
  has i x within = ⊎_elim
      (λ (low : i < length m.assigns).
      let a = found m.assigns i low in
      let first = get_or_append_left (assigned m) (written m) x i (omega (arith, low, length-map m.assigns (λ (a : Assign). a.target))) in
      inl (record {
        assign = a.0;
        at = a.1;
        gives = sym (first ∙ mapped (λ (a : Assign). a.target) m.assigns i x a.0 a.1);
      }))
      (λ (high : length m.assigns ≤ i).
      let both = length-append (assigned m) (written m) in
      let assigns = length-map m.assigns (λ (a : Assign). a.target) in
      let updates = length-map m.updates (λ (u : Update). slot (length m.nets) u.target) in
      let u = found m.updates (i - length m.assigns) (omega (arith, within, both, assigns, updates, high)) in
      let second = get_or-append_right (assigned m) (written m) (length m.assigns) i x assigns high in
      inr (record {
        number = i - length m.assigns;
        behind = omega (arith, high);
        update = u.0;
        at = u.1;
        writes = sym (second ∙ mapped (λ (u : Update). slot (length m.nets) u.target) m.updates (i - length m.assigns) x u.0 u.1);
      }))
      (cases_lt i (length m.assigns))

  -- a net that an assignment gives its value is no register
  no_register : (i v : ℕ) → IsAssigned m i v → is_reg m v ≡ false
  no_register i v a = plain (is_reg m v) (is_input m.ports v) (s.driven.only v (ByAssign i) (a.assign, a.at, a.gives)).1
    where
      plain : (r p : Bool) → (r || p) ≡ false → r ≡ false
      plain true p e = e
      plain false p e = refl

  -- what is assigned is not written
  apart : (i j v : ℕ) → IsAssigned m i v → IsWritten m j v → ⊥
  apart i j v a w = go w.update.target refl w.writes
    where
      go : (t : Target) → w.update.target ≡ t → slot (length m.nets) t ≡ v → ⊥
      go (Reg n) is e =
          let reg : is_reg m n ≡ true = (s.updated.only n w.number w.update w.at is).0 in
          true≢false (sym reg ∙ ap (is_reg m) e ∙ no_register i v a)
      go (Word k b) is e = let low = (s.driven.only v (ByAssign i) (a.assign, a.at, a.gives)).0 in absurd (omega (arith, low, e))

  -- two updates of the same are one
  one_update : (i j v : ℕ) → IsWritten m i v → IsWritten m j v → i ≡ j
  one_update i j v w x = let same = go w.update.target x.update.target refl refl w.writes x.writes in omega (arith, same, w.behind, x.behind)
    where
      low : (y : ℕ) (z : IsWritten m y v) (n : ℕ) → z.update.target ≡ Reg n → n < length m.nets
      low y z n is = subst (λ t. target_net t < length m.nets) is (f.updates z.number z.update z.at).net

      go : (t r : Target) → w.update.target ≡ t → x.update.target ≡ r → slot (length m.nets) t ≡ v → slot (length m.nets) r ≡ v → w.number ≡ x.number
      go (Reg n) (Reg o) p q e g =
          (s.updated.only n w.number w.update w.at p).1
          ∙ sym ((s.updated.only n x.number x.update x.at (q ∙ ap Reg (g ∙ sym e))).1)
      go (Reg n) (Word k a) p q e g = absurd (omega (arith, low i w n p, e, g))
      go (Word k a) (Reg n) p q e g = absurd (omega (arith, low j x n q, e, g))
      go (Word k a) (Word l b) p q e g =
          let same : l ≡ k = omega (arith, e, g) in
          s.updated.of_mems k w.number x.number a b w.update x.update w.at x.at p (q ∙ ap (λ n. Word n b) same)

  -- each number stands at one place
  same_place : (i j v : ℕ) → Has m i v → Has m j v → i ≡ j
  same_place i j v (inl a) (inl b) =
      same_number i j
      ((s.driven.only v (ByAssign i) (a.assign, a.at, a.gives)).2 ∙ sym ((s.driven.only v (ByAssign j) (b.assign, b.at, b.gives)).2))
  same_place i j v (inl a) (inr w) = absurd (apart i j v a w)
  same_place i j v (inr w) (inl a) = absurd (apart j i v a w)
  same_place i j v (inr w) (inr x) = one_update i j v w x

  -- the numbers are those of nets and memories
  below : (i v : ℕ) → Has m i v → v < length m.nets + length m.mems
  below i v (inl a) = let low = (s.driven.only v (ByAssign i) (a.assign, a.at, a.gives)).0 in omega (arith, low)
  below i v (inr w) = go w.update.target refl w.writes
    where
      go : (t : Target) → w.update.target ≡ t → slot (length m.nets) t ≡ v → v < length m.nets + length m.mems
      go (Reg n) is e =
          let low : n < length m.nets = subst (λ t. target_net t < length m.nets) is (f.updates w.number w.update w.at).net in
          omega (arith, low, e)
      go (Word k a) is e = let low = (f.updates w.number w.update w.at).mem k (ap target_mem is) in omega (arith, low, e)

  -- assignments have different nets
  pub targets_differ : IsDistinct eqb (assigned m)
  targets_differ = IsDistinct-from_apart eqb (assigned m) differ
    where
      gives : (i x : ℕ) → i < length (assigned m) → IsAssigned m i (get_or (assigned m) i x)
      gives i x within =
          let size = length-map m.assigns (λ (a : Assign). a.target) in
          let a = found m.assigns i (omega (arith, within, size)) in
          record {
            assign = a.0;
            at = a.1;
            gives = sym (mapped (λ (a : Assign). a.target) m.assigns i x a.0 a.1);
          }

      differ : (i j x : ℕ) → i < j → j < length (assigned m) → eqb (get_or (assigned m) i x) (get_or (assigned m) j x) ≡ false
      differ i j x less within =
          ne_eqb (get_or (assigned m) i x) (get_or (assigned m) j x)
          (λ e.
          let same = same_place i j (get_or (assigned m) j x)
          (inl (subst (IsAssigned m i) e (gives i x (omega (arith, less, within))))) (inl (gives j x within)) in
          omega (arith, same, less))

  -- so there are at most as many as nets and memories
  pub few_slots : length m.assigns + length m.updates ≤ length m.nets + length m.mems
  few_slots =
      let both = length-append (assigned m) (written m) in
      let assigns = length-map m.assigns (λ (a : Assign). a.target) in
      let updates = length-map m.updates (λ (u : Update). slot (length m.nets) u.target) in
      let few = length-le_from_distinct_below (assigned m ++ written m) (length m.nets + length m.mems)
      (IsDistinct-from_apart eqb (assigned m ++ written m) differ)
      (λ q in_list.
      let c = Contains-from_any {eq = eqb} eqb-true q (assigned m ++ written m) in_list in
      below c.0 q (subst (Has m c.0) c.2 (has c.0 q c.1))) in
      omega (arith, both, assigns, updates, few)
    where
      differ : (i j x : ℕ) → i < j → j < length (assigned m ++ written m)
          → eqb (get_or (assigned m ++ written m) i x) (get_or (assigned m ++ written m) j x) ≡ false
      differ i j x less within =
          ne_eqb (get_or (assigned m ++ written m) i x) (get_or (assigned m ++ written m) j x)
          (λ e.
          let same = same_place i j (get_or (assigned m ++ written m) j x)
          (subst (Has m i) e (has i x (omega (arith, less, within)))) (has j x within) in
          omega (arith, same, less))
