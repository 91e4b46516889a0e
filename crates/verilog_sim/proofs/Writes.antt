-- Writes to the registers and the memories.
use Rattle.std.proofs.Common.{◌≡◌, ◌≢◌, ℕ, ◌<◌, ◌≤◌, Bool, true, false, cond, ◌&&◌, ⊎_elim, eqb}
use Rattle.std.proofs.Common.{ltb, List, [], length, get_or, set, drop, ◌+◌, refl, sym, ap, ◌∙◌}
use Rattle.std.proofs.Common.{arith, subst, get_or-set_other, get_or-set_same}
use mathlib.Core.Path.{fun_ext}
use Rattle.std.proofs.lemmas.Bool.{false≢true, eqb-true, eq-eqb, ltb-true, ltb-false, cases_eq}
use Rattle.std.proofs.lemmas.List.{length-set, set-get_or, set_past, get_or_read, at_drop_more}
use Rattle.rtl_ir.specs.declared.design.Module.{Module}
use Rattle.rtl_ir.specs.declared.design.Update.{Update}
use Rattle.rtl_ir.specs.Value.{Family, Contents, depth_of}
use Rattle.rtl_ir.specs.Edge.{with_reg, with_cell, updated, updated_all}
use Rattle.verilog_sim.specs.Contents.{contents_of, HasDepths}

set_at : (values : List ℕ) (t x n : ℕ) → t < length values → (b : Bool) → eqb n t ≡ b → get_or (set values t x) n 0 ≡ cond b x (get_or values n 0)
set_at values t x n h true e =
    let q : n ≡ t = eqb-true n t e in
    ap (λ i. get_or (set values t x) i 0) q ∙ get_or-set_same values t x 0 h
set_at values t x n h false e =
    let q : n ≢ t = λ g. false≢true (sym e ∙ eq-eqb n t g) in
    get_or-set_other values t n x 0 q

pub reg_written : (held : List ℕ) (memories : List (List ℕ)) (n x : ℕ) → n < length held → contents_of (set held n x) memories ≡ with_reg n x (contents_of held memories)
reg_written held memories n x lt =
    let f : (ℕ → ℕ) → Contents = λ g. record { regs = g; cells = λ k a. get_or (get_or memories k []) a 0 } in
    ap f (fun_ext (λ i. set_at held n x i lt (eqb i n) refl))

-- one word of one memory
cell_at : (mems : List (List ℕ)) (k a x j b : ℕ) → k < length mems
    → a < length (get_or mems k []) → (e : Bool) → eqb j k ≡ e
    → get_or (get_or (set mems k (set (get_or mems k []) a x)) j []) b 0 ≡ cond (e
    && eqb b a) x (get_or (get_or mems j []) b 0)
cell_at mems k a x j b hk ha true e =
    let q : j ≡ k = eqb-true j k e in
    ap (λ i. get_or (get_or (set mems k (set (get_or mems k []) a x)) i []) b 0) q
    ∙ ap (λ (l : List ℕ). get_or l b 0) (get_or-set_same mems k (set (get_or mems k []) a x) [] hk)
    ∙ set_at (get_or mems k []) a x b ha (eqb b a) refl
    ∙ ap (λ i. cond (eqb b a) x (get_or (get_or mems i []) b 0)) (sym q)
cell_at mems k a x j b hk ha false e =
    let q : j ≢ k = λ g. false≢true (sym e ∙ eq-eqb j k g) in
    ap (λ (l : List ℕ). get_or l b 0) (get_or-set_other mems k j (set (get_or mems k []) a x) [] q)

within : (held : List ℕ) (mems : List (List ℕ)) (k a x : ℕ) → k < length mems
    → a < length (get_or mems k [])
    → contents_of held (set mems k (set (get_or mems k []) a x)) ≡ with_cell k a x
    (contents_of held mems)
within held mems k a x hk ha =
    let f : (ℕ → ℕ → ℕ) → Contents = λ g. record { regs = λ n. get_or held n 0; cells = g } in
    ap f (fun_ext (λ j. fun_ext (λ b. cell_at mems k a x j b hk ha (eqb j k) refl)))

pub cell_written : (m : Module) (held : List ℕ) (mems : List (List ℕ)) (k a x : ℕ)
    → k < length mems → HasDepths m mems
    → contents_of held (set mems k (set (get_or mems k []) a x)) ≡ cond (ltb a (depth_of m k))
    (with_cell k a x (contents_of held mems)) (contents_of held mems)
cell_written m held mems k a x hk depths = by_test (ltb a (depth_of m k)) refl
  where
    by_test : (b : Bool) → ltb a (depth_of m k) ≡ b → contents_of held (set mems k (set (get_or mems k []) a x)) ≡ cond b (with_cell k a x (contents_of held mems)) (contents_of held mems)
    by_test true e = within held mems k a x hk (let lt : a < depth_of m k = ltb-true a (depth_of m k) e in omega (arith, depths k))
    by_test false e =
        let ge : depth_of m k ≤ a = ltb-false a (depth_of m k) e in
        let past : set (get_or mems k []) a x ≡ get_or mems k [] = set_past (get_or mems k []) a x (omega (arith, depths k)) in
        ap (λ (l : List ℕ). contents_of held (set mems k l)) past ∙ ap (contents_of held) (set-get_or mems k [])

pub depths_kept : (m : Module) (mems : List (List ℕ)) (k a x : ℕ) → k < length mems → HasDepths m mems → HasDepths m (set mems k (set (get_or mems k []) a x))
depths_kept m mems k a x hk depths j = ⊎_elim here other (cases_eq j k)
  where
    here : j ≡ k → length (get_or (set mems k (set (get_or mems k []) a x)) j []) ≡ depth_of m j
    here e =
        subst (λ (i : ℕ). length (get_or (set mems k (set (get_or mems k []) a x)) i []) ≡ depth_of m i) (sym e)
        (ap length (get_or-set_same mems k (set (get_or mems k []) a x) [] hk) ∙ length-set (get_or mems k []) a x ∙ depths k)

    other : j ≢ k → length (get_or (set mems k (set (get_or mems k []) a x)) j []) ≡ depth_of m j
    other ne = ap length (get_or-set_other mems k j (set (get_or mems k []) a x) [] ne) ∙ depths j

pub memory_written :
    (m : Module) (v : Family) (held : List ℕ) (mems : List (List ℕ)) (k a x : ℕ) (old cells : List ℕ)
    → k < length mems → old ≡ get_or mems k old → cells ≡ set old a x → HasDepths m mems
    → HasDepths m (set mems k cells) × (contents_of held (set mems k cells) ≡ cond (ltb a (depth_of m k)) (with_cell k a x (contents_of held mems)) (contents_of held mems))
memory_written m v held mems k a x old cells hk is new depths =
    let here : cells ≡ set (get_or mems k []) a x = new ∙ ap (λ (l : List ℕ). set l a x) (get_or_read mems k old hk is []) in
    subst (λ (l : List ℕ). HasDepths m (set mems k l) × (contents_of held (set mems k l) ≡ cond (ltb a (depth_of m k)) (with_cell k a x (contents_of held mems)) (contents_of held mems))) (sym here)
    (depths_kept m mems k a x hk depths, cell_written m held mems k a x hk depths)

pub one_update :
    (m : Module) (v : Family) (updates : List Update) (i : ℕ) (d : Update) (start c c' : Contents)
    → i < length updates → c' ≡ updated m v (get_or updates i d) c
    → updated_all m v (drop i updates) c ≡ updated_all m v updates start
    → updated_all m v (drop (i + 1) updates) c' ≡ updated_all m v updates start
one_update m v updates i d start c c' lt is so_far =
    ap (updated_all m v (drop (i + 1) updates)) is ∙ sym (at_drop_more (λ (us : List Update). updated_all m v us c) updates i d lt) ∙ so_far
