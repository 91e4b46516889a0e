-- The flat module of a design says what the design says.
use Rattle.std.proofs.Common.{◌≡◌, ℕ, ◌-◌, ◌<◌, ◌≤◌, List, [], ◌∷◌, ◌++◌, map, length, Some, refl, sym, ap, ◌∙◌, subst, arith, length-append}
use mathlib.Core.Path.{fun_ext}
use Rattle.std.proofs.lemmas.List.{length-map}
use Rattle.rtl_ir.specs.declared.design.Design.{Design}
use Rattle.rtl_ir.specs.declared.design.Module.{Module}
use Rattle.rtl_ir.specs.Value.{Family, Contents}
use Rattle.rtl_ir.specs.Edge.{Fits, after_edge}
use Rattle.rtl_ir.specs.Flat.{Path, AllContents, Families, FitsFlat, after_flat}
use Rattle.rtl_ir.specs.Rules.{IsAccepted}
use Rattle.verilog_sim.specs.declared.scope.Scope.{Scope}
use Rattle.verilog_sim.specs.Relocation.{bare_net}
use Rattle.verilog_sim.proofs.ByPath.{cut_contents, within_part, families_before, contents_before, families_first, contents_first, alone, alone_contents, families_of, contents_by_path}
use Rattle.verilog_sim.specs.Flattened.{IsJoined, Joins, start, join, IsFlat}
use Rattle.verilog_sim.specs.Start.{filled_part, filled}
use Rattle.verilog_sim.proofs.Cutting.{cut_at}
use Rattle.verilog_sim.proofs.Sitting.{none, sits_copied}
use Rattle.verilog_sim.proofs.Parting.{fits_within, after_within, filled_within, fits_before, after_before, filled_before}
use Rattle.verilog_sim.proofs.Placed.{IsPlaced, placed_of}
use Rattle.verilog_sim.proofs.JoinRules.{placed_joined}
use Rattle.verilog_sim.proofs.Copying.{inst_copied, placed_copied}
use Rattle.verilog_sim.proofs.Alone.{no_part, fits_alone, after_alone}

contents_last : (ss : List Scope) (s : Scope) (x : AllContents) → contents_first (ss ++ s ∷ []) x ≡ contents_first ss (contents_before s x)
contents_last [] s x = refl
contents_last (t ∷ ss) s x = ap (contents_before t) (contents_last ss s x)

families_last : (ss : List Scope) (s : Scope) (v : Families) → families_first (ss ++ s ∷ []) v ≡ families_first ss (families_before s v)
families_last [] s v = refl
families_last (t ∷ ss) s v = ap (families_before t) (families_last ss s v)

module _ (d : Design) (h : IsAccepted d) where
  inner_placed : {m n : Module} {s : Scope} (j : IsJoined d m s n) → IsPlaced d j.inner
  inner_placed j = placed_of d h j.part.«module» j.inner j.is

  pub placed_joins : {m n : Module} {ss : List Scope} → Joins d m ss n → IsPlaced d m → IsPlaced d n
  placed_joins start g = g
  placed_joins (join js j) g = placed_joined j (placed_joins js g) (inner_placed j)

  fits_joins : {m n : Module} {ss : List Scope} → Joins d m ss n → IsPlaced d m → (x : AllContents) (v : Families) → FitsFlat d n x v → FitsFlat d m (contents_first ss x) (families_first ss v)
  fits_joins start g x v f = f
  fits_joins {m = m} (join {ss = ss} {s = s} js j) g x v f =
      let i = inner_placed j in
      subst (λ (u : AllContents). FitsFlat d m u (families_first (ss ++ s ∷ []) v)) (sym (contents_last ss s x))
      (subst (λ (u : Families). FitsFlat d m (contents_first ss (contents_before s x)) u) (sym (families_last ss s v))
      (fits_joins js g (contents_before s x) (families_before s v) (fits_before j (placed_joins js g).standing i.standing (λ k p at. (i.ports k p at).net) x v f)))

  after_joins : {m n : Module} {ss : List Scope} → Joins d m ss n → IsPlaced d m
      → (x : AllContents) (v : Families)
      → contents_first ss (after_flat d n x v) ≡ after_flat d m (contents_first ss x)
      (families_first ss v)
  after_joins start g x v = refl
  after_joins {m = m} {n = n} (join {ss = ss} {s = s} js j) g x v =
      let i = inner_placed j in
      contents_last ss s (after_flat d n x v)
      ∙ ap (contents_first ss) (after_before j (placed_joins js g).standing i.standing (λ k p at. (i.ports k p at).net) x v)
      ∙ after_joins js g (contents_before s x) (families_before s v)
      ∙ ap (λ u. after_flat d m u (families_first ss (families_before s v))) (sym (contents_last ss s x))
      ∙ ap (λ u. after_flat d m (contents_first (ss ++ s ∷ []) x) u) (sym (families_last ss s v))

  filled_joins : {m n : Module} {ss : List Scope} → Joins d m ss n → IsPlaced d m → (fill : ℕ) → contents_first ss (filled d n fill) ≡ filled d m fill
  filled_joins start g fill = refl
  filled_joins {n = n} (join {ss = ss} {s = s} js j) g fill =
      let i = inner_placed j in
      contents_last ss s (filled d n fill)
      ∙ ap (contents_first ss) (filled_before j (placed_joins js g).standing i.standing (λ k p at. (i.ports k p at).net) fill)
      ∙ filled_joins js g fill

  pub nets_joins : {m n : Module} {ss : List Scope} → Joins d m ss n → length m.nets ≤ length n.nets
  nets_joins start = omega arith
  nets_joins (join {n = n} js j) = omega (arith, nets_joins js, ap length j.nets, length-append n.nets (map bare_net j.inner.nets))

  own_joins : {m n : Module} {ss : List Scope} → Joins d m ss n → (v : Families) (k : ℕ) → k < length m.nets → families_first ss v [] k ≡ v [] k
  own_joins start v k lt = refl
  own_joins (join {n = n} {ss = ss} {s = s} js j) v k lt =
      let first : s.first_net ≡ length n.nets = ap (λ (t : Scope). t.first_net) j.place in
      ap (λ (u : Families). u [] k) (families_last ss s v)
      ∙ own_joins js (families_before s v) k lt
      ∙ cut_at 0 s.first_net (v []) k (omega (arith, lt, first, nets_joins js))
      ∙ ap (v []) (none k)

  module _ {ss : List Scope} {n : Module} (f : IsFlat d ss n) where
    top_placed : IsPlaced d f.top
    top_placed = placed_of d h (length d.modules - 1) f.top f.is_top

    pub placed_flat : IsPlaced d n
    placed_flat = placed_joins f.joins (placed_copied d f.copied top_placed)

    pub whole_fits : (x : Contents) (v : Family) → Fits n x v → FitsFlat d f.top (contents_by_path (Some f.top) ss x) (families_of f.top ss v)
    whole_fits x v g =
        fits_within d 0 0 0 f.top f.copy (sits_copied f.copied) top_placed.standing (inst_copied d f.copied) (contents_first ss (alone_contents x)) (families_first ss (alone v))
        (fits_joins f.joins (placed_copied d f.copied top_placed) (alone_contents x) (alone v) (fits_alone d n (alone_contents x) v f.whole g))

    pub whole_after : (x : Contents) (v : Family) → contents_by_path (Some f.top) ss (after_edge n x v) ≡ after_flat d f.top (contents_by_path (Some f.top) ss x) (families_of f.top ss v)
    whole_after x v =
        ap (λ (u : AllContents). within_part 0 (cut_contents 0 (length f.top.nets) 0
        (length f.top.mems)) (contents_first ss u))
        (after_alone d n (alone_contents x) (alone_contents
        (after_edge n x v)) v f.whole refl (λ k p. refl))
        ∙ ap (within_part 0 (cut_contents 0 (length f.top.nets) 0 (length f.top.mems))) (after_joins f.joins (placed_copied d f.copied top_placed) (alone_contents x) (alone v))
        ∙ fun_ext (after_within d 0 0 0 f.top f.copy (sits_copied f.copied) top_placed.standing (inst_copied d f.copied) (contents_first ss (alone_contents x)) (families_first ss (alone v)))

    alone_filled : (fill : ℕ) → alone_contents (filled_part (Some n) fill) ≡ filled d n fill
    alone_filled fill = fun_ext at
      where
        at : (p : Path) → alone_contents (filled_part (Some n) fill) p ≡ filled d n fill p
        at [] = refl
        at (k ∷ p) = sym (ap (λ o. filled_part o fill) (no_part d n k p f.whole))

    pub whole_filled : (fill : ℕ) → contents_by_path (Some f.top) ss (filled_part (Some n) fill) ≡ filled d f.top fill
    whole_filled fill =
        ap (λ (u : AllContents). within_part 0 (cut_contents 0 (length f.top.nets) 0 (length f.top.mems)) (contents_first ss u)) (alone_filled fill)
        ∙ ap (within_part 0 (cut_contents 0 (length f.top.nets) 0 (length f.top.mems))) (filled_joins f.joins (placed_copied d f.copied top_placed) fill)
        ∙ fun_ext (filled_within d 0 0 0 f.top f.copy (sits_copied f.copied) top_placed.standing (inst_copied d f.copied) fill)

    copy_nets : length f.copy.nets ≡ length f.top.nets
    copy_nets = ap length f.copied.nets ∙ length-map f.top.nets bare_net

    -- the nets of the top module are the first ones
    pub whole_own : (v : Family) (k : ℕ) → k < length f.top.nets → families_of f.top ss v [] k ≡ v k
    whole_own v k lt =
        cut_at 0 (length f.top.nets) (families_first ss (alone v) []) k lt
        ∙ ap (families_first ss (alone v) []) (none k)
        ∙ own_joins f.joins (alone v) k (omega (arith, lt, copy_nets))
