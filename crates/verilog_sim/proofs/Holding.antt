-- What registers hold, by the values ahead.
use Rattle.std.proofs.Common.{◌≡◌, ◌≢◌, ℕ, zero, suc, ◌<◌, ◌≤◌, Bool, true, false, cond, eqb, List}
use Rattle.std.proofs.Common.{[], ◌∷◌, length, replicate, get_or, set, Some, refl, sym, ap, ◌∙◌, subst}
use Rattle.std.proofs.Common.{⊎_elim, arith, get_or-set_other, get_or-set_same}
use Rattle.std.specs.Prelude.{slice_get}
use mathlib.Core.Path.{fun_ext}
use Rattle.std.proofs.lemmas.Bool.{cases_eq, cases_lt, false≢true, eqb-true, eq-eqb}
use Rattle.std.proofs.lemmas.List.{length-set, length-replicate, set_past}
use Rattle.rtl_ir.specs.declared.design.Module.{Module}
use Rattle.rtl_ir.specs.declared.design.Update.{Update}
use Rattle.rtl_ir.specs.declared.design.Target.{Target}
use Rattle.rtl_ir.specs.declared.design.Target.TheVariants.{Reg, Cell}
use Rattle.rtl_ir.specs.Edge.{with_reg}
use Rattle.rtl_ir.specs.Operands.{target_net}
use Rattle.rtl_ir.specs.Value.{Contents, is_reg}
use Rattle.verilog_sim.specs.Contents.{contents_of}
use Rattle.verilog_sim.specs.Runnable.{IsRunnable}
use Rattle.verilog_sim.specs.Updates.{with_held, with_all_held, held_by}
use Rattle.verilog_sim.proofs.Driving.{same_all}

-- ---- one target
size_with : (t : Target) (v h : List ℕ) → length (with_held t v h) ≡ length h
size_with (Reg n) v h = length-set h n (get_or v n 0)
size_with (Cell k a) v h = refl

other_with : (t : Target) (v h : List ℕ) (n : ℕ) → t ≢ Reg n → get_or (with_held t v h) n 0 ≡ get_or h n 0
other_with (Reg k) v h n ne = get_or-set_other h k n (get_or v k 0) 0 (λ e. ne (ap (λ x. Reg x) (sym e)))
other_with (Cell k a) v h n ne = refl

-- a place by another list of values and another one before, which agree there
at_with :
    (t : Target) (v w h g : List ℕ) (n : ℕ) → length h ≡ length g
    → get_or v n 0 ≡ get_or w n 0 → get_or h n 0 ≡ get_or g n 0
    → get_or (with_held t v h) n 0 ≡ get_or (with_held t w g) n 0
at_with (Reg k) v w h g n size values held = ⊎_elim here other (cases_eq n k)
  where
    other : n ≢ k → get_or (set h k (get_or v k 0)) n 0 ≡ get_or (set g k (get_or w k 0)) n 0
    other ne = get_or-set_other h k n (get_or v k 0) 0 ne ∙ held ∙ sym (get_or-set_other g k n (get_or w k 0) 0 ne)

    here : n ≡ k → get_or (set h k (get_or v k 0)) n 0 ≡ get_or (set g k (get_or w k 0)) n 0
    here e = subst (λ (i : ℕ). get_or (set h i (get_or v i 0)) n 0 ≡ get_or (set g i (get_or w i 0)) n 0) e
        (⊎_elim within past (cases_lt n (length h)))
      where
        within : n < length h → get_or (set h n (get_or v n 0)) n 0 ≡ get_or (set g n (get_or w n 0)) n 0
        within lt =
            get_or-set_same h n (get_or v n 0) 0 lt
            ∙ values
            ∙ sym (get_or-set_same g n (get_or w n 0) 0 (omega (arith, lt, size)))

        past : length h ≤ n → get_or (set h n (get_or v n 0)) n 0 ≡ get_or (set g n (get_or w n 0)) n 0
        past ge =
            ap (λ (l : List ℕ). get_or l n 0) (set_past h n (get_or v n 0) ge)
            ∙ held
            ∙ sym (ap (λ (l : List ℕ). get_or l n 0) (set_past g n (get_or w n 0) (omega (arith, ge, size))))
at_with (Cell k a) v w h g n size values held = held

-- a place that has its value already keeps it
kept_with : (t : Target) (v h : List ℕ) (n : ℕ) → get_or h n 0 ≡ get_or v n 0 → get_or (with_held t v h) n 0 ≡ get_or v n 0
kept_with (Reg k) v h n held = ⊎_elim here (λ ne. get_or-set_other h k n (get_or v k 0) 0 ne ∙ held) (cases_eq n k)
  where
    here : n ≡ k → get_or (set h k (get_or v k 0)) n 0 ≡ get_or v n 0
    here e = subst (λ (i : ℕ). get_or (set h i (get_or v i 0)) n 0 ≡ get_or v n 0) e
        (⊎_elim (λ lt. get_or-set_same h n (get_or v n 0) 0 lt)
        (λ ge. ap (λ (l : List ℕ). get_or l n 0) (set_past h n (get_or v n 0) ge) ∙ held)
        (cases_lt n (length h)))
kept_with (Cell k a) v h n held = held

-- ---- all targets
size_all : (us : List Update) (v h : List ℕ) → length (with_all_held us v h) ≡ length h
size_all [] v h = refl
size_all (u ∷ us) v h = size_all us v (with_held u.target v h) ∙ size_with u.target v h

other_all : (us : List Update) (v h : List ℕ) (n : ℕ)
    → ((j : ℕ) (u : Update) → slice_get us j ≡ Some u → u.target ≢ Reg n)
    → get_or (with_all_held us v h) n 0 ≡ get_or h n 0
other_all [] v h n f = refl
other_all (u ∷ us) v h n f =
    other_all us v (with_held u.target v h) n (λ j w at. f (suc j) w at) ∙ other_with u.target v h n (f zero u refl)

at_all :
    (us : List Update) (v w h g : List ℕ) (n : ℕ) → length h ≡ length g
    → get_or v n 0 ≡ get_or w n 0 → get_or h n 0 ≡ get_or g n 0
    → get_or (with_all_held us v h) n 0 ≡ get_or (with_all_held us w g) n 0
at_all [] v w h g n size values held = held
at_all (u ∷ us) v w h g n size values held =
    at_all us v w (with_held u.target v h) (with_held u.target w g) n
    (size_with u.target v h ∙ size ∙ sym (size_with u.target w g)) values (at_with u.target v w h g n size values held)

kept_all : (us : List Update) (v h : List ℕ) (n : ℕ) → get_or h n 0 ≡ get_or v n 0 → get_or (with_all_held us v h) n 0 ≡ get_or v n 0
kept_all [] v h n held = held
kept_all (u ∷ us) v h n held = kept_all us v (with_held u.target v h) n (kept_with u.target v h n held)

reg_all : (us : List Update) (v h : List ℕ) (j n : ℕ) (u : Update) → slice_get us j ≡ Some u → u.target ≡ Reg n
    → n < length h → get_or (with_all_held us v h) n 0 ≡ get_or v n 0
reg_all [] v h j n u at is lt = absurd (cc)
reg_all (w ∷ us) v h zero n u at is lt =
    let same : w ≡ u = cc in
    let target : w.target ≡ Reg n = ap (λ (x : Update). x.target) same ∙ is in
    kept_all us v (with_held w.target v h) n
    (subst (λ (t : Target). get_or (with_held t v h) n 0 ≡ get_or v n 0) (sym target) (get_or-set_same h n (get_or v n 0) 0 lt))
reg_all (w ∷ us) v h (suc j) n u at is lt = reg_all us v (with_held w.target v h) j n u at is (omega (arith, lt, size_with w.target v h))

-- ---- what registers hold
pub held_size : (us : List Update) (v : List ℕ) → length (held_by us v) ≡ length v
held_size us v = size_all us v (replicate (length v) 0) ∙ length-replicate (length v) 0

-- values that agree at a net agree in what it holds
held_at : (us : List Update) (v w : List ℕ) (n : ℕ) → length v ≡ length w → get_or v n 0 ≡ get_or w n 0
    → get_or (held_by us v) n 0 ≡ get_or (held_by us w) n 0
held_at us v w n size values =
    at_all us v w (replicate (length v) 0) (replicate (length w) 0) n
    (length-replicate (length v) 0 ∙ size ∙ sym (length-replicate (length w) 0)) values
    (same_all (length v) n 0 ∙ sym (same_all (length w) n 0))

-- a register that is updated holds its value
held_target : (us : List Update) (v : List ℕ) (j n : ℕ) (u : Update) → slice_get us j ≡ Some u → u.target ≡ Reg n
    → n < length v → get_or (held_by us v) n 0 ≡ get_or v n 0
held_target us v j n u at is lt = reg_all us v (replicate (length v) 0) j n u at is (omega (arith, lt, length-replicate {A = ℕ} (length v) 0))

-- one of them is written
pub held_written : (us : List Update) (v : List ℕ) (memories : List (List ℕ)) (j n x : ℕ) (u : Update)
    → slice_get us j ≡ Some u → u.target ≡ Reg n → n < length v
    → contents_of (held_by us (set v n x)) memories ≡ with_reg n x (contents_of (held_by us v) memories)
held_written us v memories j n x u at is lt =
    let f : (ℕ → ℕ) → Contents = λ g. record { regs = g; cells = λ k a. get_or (get_or memories k []) a 0 } in
    ap f (fun_ext (λ i. by_test i (eqb i n) refl))
  where
    by_test : (i : ℕ) (b : Bool) → eqb i n ≡ b → get_or (held_by us (set v n x)) i 0 ≡ cond b x (get_or (held_by us v) i 0)
    by_test i true e =
        let q : i ≡ n = eqb-true i n e in
        ap (λ (k : ℕ). get_or (held_by us (set v n x)) k 0) q
        ∙ held_target us (set v n x) j n u at is (omega (arith, lt, length-set v n x))
        ∙ get_or-set_same v n x 0 lt
    by_test i false e =
        let q : i ≢ n = λ g. false≢true (sym e ∙ eq-eqb i n g) in
        held_at us (set v n x) v i (length-set v n x) (get_or-set_other v n i x 0 q)

-- ---- in a module that can be simulated
module _ (m : Module) (us : List Update) (v : List ℕ) (r : IsRunnable m) (same : us ≡ m.updates) (size : length v ≡ length m.nets) where
  pub held_reg : (n : ℕ) → is_reg m n ≡ true → get_or (held_by us v) n 0 ≡ get_or v n 0
  held_reg n e =
      let u = r.updated n e in
      let at : slice_get us u.0 ≡ Some u.1 = subst (λ (l : List Update). slice_get l u.0 ≡ Some u.1) (sym same) u.2 in
      let net : target_net u.1.target ≡ n = ap target_net u.3 in
      let lt = (r.updates u.0 u.1 u.2).net in
      held_target us v u.0 n u.1 at u.3 (omega (arith, lt, net, size))

  pub held_other : (n : ℕ) → is_reg m n ≡ false → get_or (held_by us v) n 0 ≡ 0
  held_other n e =
      other_all us v (replicate (length v) 0) n
      (λ j u at t. false≢true (sym e ∙ r.regs j n u (subst (λ (l : List Update). slice_get l j ≡ Some u) same at) t))
      ∙ same_all (length v) n 0

  -- they hold the same by other values that agree at registers
  pub held_same : (w : List ℕ) → length w ≡ length v → ((n : ℕ) → is_reg m n ≡ true → get_or w n 0 ≡ get_or v n 0)
      → held_by us w ≡ held_by us v
  held_same w e agree = all_same us (replicate (length w) 0) targets ∙ ap (λ k. with_all_held us v (replicate k 0)) e
    where
      targets : (j n : ℕ) (u : Update) → slice_get us j ≡ Some u → u.target ≡ Reg n → get_or w n 0 ≡ get_or v n 0
      targets j n u at is = agree n (r.regs j n u (subst (λ (l : List Update). slice_get l j ≡ Some u) same at) is)

      one_same : (t : Target) (h : List ℕ) → ((n : ℕ) → t ≡ Reg n → get_or w n 0 ≡ get_or v n 0) → with_held t w h ≡ with_held t v h
      one_same (Reg n) h f = ap (set h n) (f n refl)
      one_same (Cell k a) h f = refl

      all_same : (xs : List Update) (h : List ℕ) → ((j n : ℕ) (u : Update) → slice_get xs j ≡ Some u → u.target ≡ Reg n → get_or w n 0 ≡ get_or v n 0)
          → with_all_held xs w h ≡ with_all_held xs v h
      all_same [] h f = refl
      all_same (u ∷ xs) h f =
          ap (with_all_held xs w) (one_same u.target h (λ n e. f zero n u refl e))
          ∙ all_same xs (with_held u.target v h) (λ j n z at is. f (suc j) n z at is)
