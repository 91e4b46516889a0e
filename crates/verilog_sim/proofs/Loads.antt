-- One register after another is given the value that it holds.
use Rattle.std.proofs.Common.{◌≡◌, ◌≢◌, ℕ, ◌+◌, ◌<◌, ◌≤◌, ◌⊎◌, inl, inr, List, length, get_or, set, Some, refl, sym, ap, ◌∙◌, subst, ⊎_elim, arith, get_or-set_other, get_or-set_same}
use Rattle.std.specs.Prelude.{slice_get}
use Rattle.std.proofs.lemmas.Bool.{cases_eq, cases_lt}
use Rattle.std.proofs.lemmas.Option.{slice_get_within}
use Rattle.std.proofs.lemmas.List.{length-set}
use Rattle.rtl_ir.specs.declared.design.Update.{Update}
use Rattle.rtl_ir.specs.declared.design.Target.TheVariants.{Reg}
use Rattle.verilog_sim.specs.Updates.{IsLoaded}

-- the first so many updates were seen
pub record Loaded (updates : List Update) (held old new : List ℕ) (i : ℕ) : Type 0 where
  pub size : length new ≡ length old
  pub regs : (j n : ℕ) (u : Update) → j < i → slice_get updates j ≡ Some u → u.target ≡ Reg n → get_or new n 0 ≡ get_or held n 0
  pub others : (n : ℕ) → ((j : ℕ) (u : Update) → j < i → slice_get updates j ≡ Some u → u.target ≢ Reg n) → get_or new n 0 ≡ get_or old n 0
  pub either : (n : ℕ) → (get_or new n 0 ≡ get_or old n 0) ⊎ (get_or new n 0 ≡ get_or held n 0)

pub none_loaded : (updates : List Update) (held old : List ℕ) → Loaded updates held old old 0
none_loaded updates held old = record { size = refl; regs = λ j n u lt. absurd (omega arith); others = λ n f. refl; either = λ n. inl refl }

split : (j i : ℕ) → j < i + 1 → (j < i) ⊎ (j ≡ i)
split j i less = ⊎_elim (λ q. inl q) (λ q. inr (omega arith)) (cases_lt j i)

-- a net that is not updated as a register
pub passed : (updates : List Update) (held old new : List ℕ) (i : ℕ) (u : Update)
    → slice_get updates i ≡ Some u → ((n : ℕ) → u.target ≢ Reg n)
    → Loaded updates held old new i → Loaded updates held old new (i + 1)
passed updates held old new i u at free p =
    record {
      size = p.size;
      regs = λ j n w less e t. ⊎_elim (λ q. p.regs j n w q e t)
          (λ q. absurd (let e' : slice_get updates i ≡ Some w = subst
          (λ (k : ℕ). slice_get updates k ≡ Some w) q e in let r : u ≡ w = cc in free n
          (ap (λ (x : Update). x.target) r ∙ t))) (split j i less);
      others = λ n f. p.others n (λ j w less e. f j w (omega arith) e);
      either = p.either;
    }

pub one_loaded : (updates : List Update) (held old new : List ℕ) (i r : ℕ) (u : Update)
    → slice_get updates i ≡ Some u → u.target ≡ Reg r → r < length new
    → Loaded updates held old new i → Loaded updates held old (set new r (get_or held r 0)) (i + 1)
one_loaded updates held old new i r u at is lt p =
    record {
      size = length-set new r (get_or held r 0) ∙ p.size;
      regs = λ j n w less e t. ⊎_elim (λ q. at_same n q)
          (λ q. get_or-set_other new r n (get_or held r 0) 0 q ∙ ⊎_elim
          (λ k. p.regs j n w k e t) (λ k. absurd (q (again j n w k e t))) (split j i less))
          (cases_eq n r);
      others = λ n f. get_or-set_other new r n (get_or held r 0) 0 (λ q. f i u (omega arith) at (is ∙ ap (λ k. Reg k) (sym q))) ∙ p.others n (λ j w less e. f j w (omega arith) e);
      either = λ n. ⊎_elim (λ q. inr (at_same n q)) (λ q. let same : get_or
          (set new r (get_or held r 0)) n 0 ≡ get_or new n 0 = get_or-set_other new r n
          (get_or held r 0) 0 q in ⊎_elim (λ f. inl (same ∙ f)) (λ f. inr (same ∙ f))
          (p.either n)) (cases_eq n r);
    }
  where
    at_same : (n : ℕ) → n ≡ r → get_or (set new r (get_or held r 0)) n 0 ≡ get_or held n 0
    at_same n q = ap (λ k. get_or (set new r (get_or held r 0)) k 0) q ∙ get_or-set_same new r (get_or held r 0) 0 lt ∙ ap (λ k. get_or held k 0) (sym q)

    again : (j n : ℕ) (w : Update) → j ≡ i → slice_get updates j ≡ Some w → w.target ≡ Reg n → n ≡ r
    again j n w k e t =
        let e' : slice_get updates i ≡ Some w = subst (λ (x : ℕ). slice_get updates x ≡ Some w) k e in
        let q : u ≡ w = cc in
        let t' : u.target ≡ Reg n = ap (λ (x : Update). x.target) q ∙ t in
        cc

pub all_loaded : (updates : List Update) (held old new : List ℕ) (i : ℕ) → length updates ≤ i → Loaded updates held old new i → IsLoaded updates held old new
all_loaded updates held old new i past p =
    record { size = p.size; regs = λ j n u e t. p.regs j n u (omega (arith, slice_get_within updates j u e)) e t; others = λ n f. p.others n (λ j u less e. f j u e) }
