-- Values written one after another.
use Rattle.std.proofs.Common.{◌≡◌, ◌≢◌, ℕ, ◌^◌, ◌<◌, List, [], ◌∷◌, ◌++◌, length, get_or, set, refl, sym, ◌∙◌, subst, ⊎_elim, get_or-set_other, get_or-set_same}
use Rattle.std.proofs.lemmas.Bool.{cases_eq}
use Rattle.std.proofs.lemmas.List.{length-set}
use Rattle.verilog_sim.specs.Gifts.{written, Every}

pub written_append : (values : List ℕ) (gs hs : List (ℕ × ℕ)) → written values (gs ++ hs) ≡ written (written values gs) hs
written_append values [] hs = refl
written_append values (g ∷ gs) hs = written_append (set values g.0 g.1) gs hs

pub length_written : (values : List ℕ) (gs : List (ℕ × ℕ)) → length (written values gs) ≡ length values
length_written values [] = refl
length_written values (g ∷ gs) = length_written (set values g.0 g.1) gs ∙ length-set values g.0 g.1

-- the nets of no other gift
abbrev pub Apart : List (ℕ × ℕ) → Type 0
Apart [] = Unit {0}
Apart (g ∷ gs) = Every (λ (h : ℕ × ℕ). h.0 ≢ g.0) gs × Apart gs

pub written_other : (values : List ℕ) (n : ℕ) (gs : List (ℕ × ℕ)) → Every (λ (g : ℕ × ℕ). g.0 ≢ n) gs → get_or (written values gs) n 0 ≡ get_or values n 0
written_other values n [] a = refl
written_other values n (g ∷ gs) a = written_other (set values g.0 g.1) n gs a.1 ∙ get_or-set_other values g.0 n g.1 0 (λ e. a.0 (sym e))

pub written_all : (values : List ℕ) (gs : List (ℕ × ℕ)) → Every (λ (g : ℕ × ℕ). g.0 < length values) gs → Apart gs → Every (λ (g : ℕ × ℕ). get_or (written values gs) g.0 0 ≡ g.1) gs
written_all values [] lt apart = tt
written_all values (g ∷ gs) lt apart = (
  written_other (set values g.0 g.1) g.0 gs apart.0 ∙ get_or-set_same values g.0 g.1 0 lt.0,
  written_all (set values g.0 g.1) gs (subst (λ (k : ℕ). Every (λ (h : ℕ × ℕ). h.0 < k) gs) (sym (length-set values g.0 g.1)) lt.1) apart.1,
)

pub written_fits : (w : ℕ → ℕ) (values : List ℕ) (gs : List (ℕ × ℕ))
    → ((n : ℕ) → get_or values n 0 < 2 ^ w n) → Every (λ (g : ℕ × ℕ). g.0 < length values) gs
    → Every (λ (g : ℕ × ℕ). g.1 < 2 ^ w g.0) gs → (n : ℕ) → get_or (written values gs) n 0 < 2 ^ w n
written_fits w values [] old lt fit n = old n
written_fits w values (g ∷ gs) old lt fit n =
    written_fits w (set values g.0 g.1) gs now (subst (λ (k : ℕ). Every (λ (h : ℕ × ℕ). h.0 < k) gs) (sym (length-set values g.0 g.1)) lt.1) fit.1 n
  where
    now : (k : ℕ) → get_or (set values g.0 g.1) k 0 < 2 ^ w k
    now k =
        ⊎_elim
        (λ e. subst (λ (i : ℕ). get_or (set values g.0 g.1) i 0 < 2 ^ w i) (sym e) (subst (λ (y : ℕ). y < 2 ^ w g.0) (sym (get_or-set_same values g.0 g.1 0 lt.0)) fit.0))
        (λ ne. subst (λ (y : ℕ). y < 2 ^ w k) (sym (get_or-set_other values g.0 k g.1 0 ne)) (old k))
        (cases_eq k g.0)
