-- The widths of the module agree, and no net of it hangs on itself.
use Rattle.std.proofs.Common.{◌≡◌, ℕ, ◌<◌, ◌≤◌, Bool, true, ltb, List, [], ◌∷◌, refl, sym, ap, ◌∙◌, arith}
use Rattle.std.specs.Prelude.{Some, slice_get}
use Rattle.std.proofs.lemmas.Bool.{ltb-true}
use Rattle.rtl_ir.specs.declared.design.Module.{Module}
use Rattle.rtl_ir.specs.declared.design.Design.{Design}
use Rattle.rtl_ir.specs.declared.design.Assign.{Assign}
use Rattle.rtl_ir.specs.Value.{width_of}
use Rattle.rtl_ir.specs.Operands.{reads}
use Rattle.rtl_ir.specs.Typed.{IsTyped, IsUpdateTyped}
use Rattle.rtl_ir.specs.Rules.{Feeds, by_assign, by_part, HasWidths, IsLevelled}
use Rattle.link_fifo.specs.declared.numbers.Numbers.{Numbers}
use Rattle.link_fifo.specs.Numbers.{AreNumbers}
use Rattle.link_fifo.specs.Netlist.{the_assigns, the_updates, fifo_of}
use Rattle.link_fifo.proofs.Items.{Each, each_at, holds_all, holds_at, all_of, all_at, in_table}
use Rattle.link_fifo.proofs.Driven.{no_instance}

-- an assignment whose expression has the target's width
abbrev Typed : Module → ℕ → Assign → Type 0
Typed m k a = IsTyped m (width_of m a.target) a.expr

assigns_typed : (name : List ℕ) (w e p q : ℕ) (n : Numbers) → 1 ≤ p → p ≤ q → AreNumbers e p q n → Each (Typed (fifo_of name w e p q n)) 0 (the_assigns p n)
assigns_typed name w e p q n some order is = (
  is.count_is.last_is.width,
  (
    (refl, refl),
    (
      refl,
      (
        is.count_is.zero_is.width,
        (
          (refl, refl),
          (
            refl,
            (
              refl,
              (
                (refl, refl),
                (
                  (refl, refl),
                  (
                    is.place_is.last_is.width,
                    (
                      (refl, refl),
                      (
                        is.place_is.one_is.width,
                        (
                          (refl, refl),
                          (
                            is.place_is.zero_is.width,
                            (
                              (refl, refl, refl),
                              (
                                (refl, refl, refl),
                                (
                                  (refl, refl, refl),
                                  (
                                    is.count_is.one_is.width,
                                    (
                                      (refl, refl),
                                      (
                                        (refl, refl),
                                        (
                                          (refl, refl, refl),
                                          (
                                            (refl, refl, refl),
                                            (
                                              (refl, refl, refl),
                                              (
                                                (refl, refl, refl),
                                                (
                                                  is.high_is.width,
                                                  (
                                                    is.before_place_is.width,
                                                    (
                                                      is.before_count_is.width,
                                                      (
                                                        omega arith,
                                                        (
                                                          omega arith,
                                                          (
                                                            (refl, refl),
                                                            (
                                                              is.wide_depth_is.width,
                                                              (
                                                                (refl, refl),
                                                                (
                                                                  (omega arith, omega arith, omega arith),
                                                                  (
                                                                    is.low_depth_is.width,
                                                                    (
                                                                      (refl, refl),
                                                                      (
                                                                        (refl, refl, refl),
                                                                        tt,
                                                                      ),
                                                                    ),
                                                                  ),
                                                                ),
                                                              ),
                                                            ),
                                                          ),
                                                        ),
                                                      ),
                                                    ),
                                                  ),
                                                ),
                                              ),
                                            ),
                                          ),
                                        ),
                                      ),
                                    ),
                                  ),
                                ),
                              ),
                            ),
                          ),
                        ),
                      ),
                    ),
                  ),
                ),
              ),
            ),
          ),
        ),
      ),
    ),
  ),
)

updates_typed : (name : List ℕ) (w e p q : ℕ) (n : Numbers) → Each (λ k. IsUpdateTyped (fifo_of name w e p q n)) 0 the_updates
updates_typed name w e p q n = (record { enable = refl; value = refl }, (record { enable = refl; value = refl }, (record { enable = refl; value = refl }, tt)))

pub widths : (d : Design) (name : List ℕ) (w e p q : ℕ) (n : Numbers) → 1 ≤ p → p ≤ q → AreNumbers e p q n → HasWidths d (fifo_of name w e p q n)
widths d name w e p q n some order is = record {
  typed = each_at (Typed (fifo_of name w e p q n)) (the_assigns p n) (assigns_typed name w e p q n some order is);
  updates = each_at (λ k. IsUpdateTyped (fifo_of name w e p q n)) the_updates (updates_typed name w e p q n);
  joined = λ k j c. absurd (no_instance d name w e p q n k j c);
}

-- the rank of each net: its number, but for the outputs, which stand above what they are given
abbrev rank : ℕ → ℕ
rank =
    in_table
    (0 ∷ 1 ∷ 2 ∷ 3 ∷ 12 ∷ 9 ∷ 14 ∷ 7 ∷ 8 ∷ 9 ∷ 10 ∷ 11 ∷ 12 ∷ 13 ∷ 14 ∷ 15 ∷ 16 ∷ 17 ∷ 18
    ∷ 19 ∷ 20 ∷ 21 ∷ 22 ∷ 23 ∷ 24 ∷ 25 ∷ 26 ∷ 27 ∷ 28 ∷ 29 ∷ 30 ∷ 31 ∷ 32 ∷ 33 ∷ 34 ∷ 35 ∷ 36 ∷ 37 ∷ 38 ∷ 39 ∷ 40 ∷ 41 ∷ 42 ∷ [])

abbrev rises : ℕ → Assign → Bool
rises k a = all_of (λ x. ltb (rank x) (rank a.target)) (reads a.expr)

all_rise : (p : ℕ) (n : Numbers) → holds_all rises 0 (the_assigns p n) ≡ true
all_rise p n = refl

pub levelled : (d : Design) (name : List ℕ) (w e p q : ℕ) (n : Numbers) → IsLevelled d (fifo_of name w e p q n)
levelled d name w e p q n = record { rank = rank; rising = λ a b f. rising f refl }
  where
    rising : {m : Module} {a b : ℕ} → Feeds d m a b → m ≡ fifo_of name w e p q n → rank a < rank b
    rising (by_assign j a x e r) same =
        let test = holds_at rises (the_assigns p n) (all_rise p n) j x (ap (λ (m : Module). slice_get m.assigns j) (sym same) ∙ e) in
        ltb-true (rank a) (rank x.target) (all_at (λ y. ltb (rank y) (rank x.target)) (reads x.expr) test r.0 a r.1)
    rising (by_part k j l c e i o way) same =
        absurd (let h : slice_get [] k ≡ Some c.part = ap (λ (m : Module). slice_get m.instances k) (sym same) ∙ c.of in cc)
