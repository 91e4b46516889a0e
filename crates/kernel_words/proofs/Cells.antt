-- The cells of streams, of which one is written.
use Rattle.std.proofs.Common.{◌≡◌, ◌∙◌, ℕ, ◌+◌, ◌*◌, ◌<◌, cond, length, get_or, Option, Some, None, refl, sym, ap, arith}
use Rattle.std.specs.Prelude.{sum_by}
use Rattle.std.proofs.Math.ListN.{set}
use Rattle.std.proofs.lemmas.List.{get_or-set_same, get_or-set_other}
use Rattle.std.proofs.lemmas.List.Sums.{sum_by-set}
use Rattle.kernel_words.specs.declared.cell.Cell.{Cell}
use Rattle.kernel_words.specs.declared.cell.Cell.TheVariants.{Open}
use Rattle.kernel_family.specs.declared.place.Place.{Place}
use Rattle.kernel_words.specs.declared.streams.Streams.{Streams}
use Rattle.kernel_words.specs.Streams.{cell_at}
use Rattle.kernel_words.specs.Filling.{is_open, cell_of, IsPut}
use Rattle.kernel_family.proofs.Paths.{same_number}

abbrev weight : Cell → ℕ
weight c = cond (is_open c) 1 0

closed_cell : (word : Option ℕ) → weight (cell_of word) ≡ 0
closed_cell None = refl
closed_cell (Some bits) = refl

pub written : (old new : Streams) (a : Place) (word : Option ℕ) (i : ℕ) (c : Cell) → i ≡ a.node * old.ticks + a.tick
    → i < length old.cells.items → a.tick < old.ticks → new.nodes ≡ old.nodes → new.ticks ≡ old.ticks
    → new.cells.items ≡ set old.cells.items i c → c ≡ cell_of word → IsPut old new a word
written old new a word i c at within tick nodes ticks cells is = record {
  nodes = nodes;
  ticks = ticks;
  here = place a.node a.tick ∙ ap (λ k. get_or (set old.cells.items i c) k Open) (sym at)
      ∙ get_or-set_same old.cells.items i c Open within ∙ is;
  others = λ n t l other. place n t
      ∙ get_or-set_other old.cells.items i (n * old.ticks + t) c Open (λ e. differ n t l other e);
  fewer = λ free_cell.
      let s = sum_by-set weight old.cells.items i c Open within in
      let one : weight (get_or old.cells.items i Open) ≡ 1 =
      ap (λ k. weight (get_or old.cells.items k Open)) at ∙ ap (λ b. cond b 1 0) free_cell in
      let none : weight c ≡ 0 = ap weight is ∙ closed_cell word in
      let same : sum_by weight new.cells.items ≡ sum_by weight (set old.cells.items i c) = ap (sum_by weight) cells in
      omega (arith, s, one, none, same);
}
  where
    place : (n t : ℕ) → cell_at new n t ≡ get_or (set old.cells.items i c) (n * old.ticks + t) Open
    place n t = ap (λ xs. get_or xs (n * new.ticks + t) Open) cells
        ∙ ap (λ k. get_or (set old.cells.items i c) (n * k + t) Open) ticks

    differ : (n t : ℕ) → t < old.ticks → (n ≡ a.node → t ≡ a.tick → ⊥) → n * old.ticks + t ≡ i → ⊥
    differ n t l other e =
        let both : n * old.ticks + t ≡ a.node * old.ticks + a.tick = e ∙ at in
        let m : n ≡ a.node = same_number n a.node t a.tick old.ticks l tick both in
        let same : n * old.ticks ≡ a.node * old.ticks = ap (λ k. k * old.ticks) m in
        other m (omega (arith, both, same))
