-- What registers and memories hold after the updates of an edge, and that it has few enough bits.
use Rattle.std.proofs.Common.{◌≡◌, ℕ, ◌<◌, ◌≤◌, ◌^◌, Bool, true, false, List, length, get_or, Some, sym, subst, ap, ◌∙◌, arith}
use Rattle.std.specs.Prelude.{slice_get}
use Rattle.std.specs.List.{All}
use Rattle.std.proofs.Math.Pow.{pow_mono}
use Rattle.std.proofs.lemmas.Option.{slice_get-get_or}
use Rattle.rtl_ir.specs.declared.design.Module.{Module}
use Rattle.rtl_ir.specs.declared.design.Assign.{Assign}
use Rattle.rtl_ir.specs.declared.design.Update.{Update}
use Rattle.rtl_ir.specs.declared.design.Target.{Target}
use Rattle.rtl_ir.specs.declared.design.Target.TheVariants.{Reg, Cell}
use Rattle.rtl_ir.specs.Value.{width_of, is_reg}
use Rattle.rtl_ir.specs.Edge.{after_edge, updated_all}
use Rattle.rtl_ir.specs.Rules.{HoldsWords}
use Rattle.verilog_sim.specs.declared.offer.Offer.{Offer}
use Rattle.rtl_ir.specs.declared.interface.Interface.{Interface}
use Rattle.rtl_ir.specs.Typed.{is_input, target_width}
use Rattle.verilog_sim.specs.Gifts.{Every, gifts}
use Rattle.verilog_sim.specs.Contents.{family_of, contents_of}
use Rattle.verilog_sim.specs.Runnable.{IsRunnable, IsOrderOf}
use Rattle.verilog_sim.specs.Feeding.{IsFeeding, IsSeen}
use Rattle.verilog_sim.specs.Feeding.IsSeen.{by_enable, by_value, by_target}
use Rattle.verilog_sim.specs.Updates.{IsUpdateSmall, IsRegSmall, IsLoadSmall, AreNarrow}
use Rattle.verilog_sim.specs.Simulates.{AreKept, IsEvaluatedBy}
use Rattle.verilog_sim.proofs.Updating.{updates_agree}
use Rattle.verilog_sim.proofs.Accepting.{words_after}
use Rattle.verilog_sim.proofs.Answering.{Completed, completed}

-- ---- words of at most 64 bits
fits : (w x : ℕ) → w ≤ 64 → x < 2 ^ w → x < 2 ^ 64
fits w x le lt = let most : 2 ^ w ≤ 2 ^ 64 = pow_mono le in omega (arith, lt, most)

module _ (m : Module) (narrow : Bool) (updates : List Update) (r : IsRunnable m) (same : updates ≡ m.updates) (tells : narrow ≡ true → AreNarrow m) where
  update_at : (k : ℕ) (d : Update) → k < length updates → slice_get m.updates k ≡ Some (get_or updates k d)
  update_at k d lt = subst (λ (l : List Update). slice_get l k ≡ Some (get_or updates k d)) same (slice_get-get_or updates k d lt)

  pub update_small : (values : List ℕ) → ((n : ℕ) → get_or values n 0 < 2 ^ width_of m n) → All (IsUpdateSmall narrow values) updates
  update_small values w k d lt =
      let u = get_or updates k d in
      let at = update_at k d lt in
      record {
        enable = fits (width_of m u.enable) (get_or values u.enable 0) (omega (arith, (r.update_widths k u at).enable)) (w u.enable);
        value = λ on. fits (width_of m u.value) (get_or values u.value 0) (tells on k u at) (w u.value);
      }

  reg_small :
      (held values : List ℕ) (t : Target) → ((n : ℕ) → t ≡ Reg n → get_or held n 0 < 2 ^ width_of m n) → ((n : ℕ) → get_or values n 0 < 2 ^ width_of m n)
      → (narrow ≡ true → target_width m t ≤ 64) → IsRegSmall narrow held values t
  reg_small held values (Reg n) h w le = λ on. (
    fits (width_of m n) (get_or held n 0) (le on)
        (h n Rattle.std.proofs.Common.refl),
    fits (width_of m n) (get_or values n 0) (le on) (w n),
  )
  reg_small held values (Cell k a) h w le = tt

  pub load_small :
      (held values : List ℕ) → ((n : ℕ) → is_reg m n ≡ true → get_or held n 0 < 2 ^ width_of m n) → ((n : ℕ) → get_or values n 0 < 2 ^ width_of m n)
      → All (IsLoadSmall narrow held values) updates
  load_small held values h w k d lt =
      let u = get_or updates k d in
      let at = update_at k d lt in
      reg_small held values u.target (λ n e. h n (r.regs k n u at e)) w (λ on. subst (λ (x : ℕ). x ≤ 64) ((r.update_widths k u at).value) (tells on k u at))

-- ---- after the updates
pub record Clocked
    (m : Module) (os : List ℕ) (c : Interface) (reset : Bool) (steady : List ℕ) (offers : List Offer) (accepts holds : List Bool)
    (held values held' : List ℕ) (memories memories' : List (List ℕ)) : Type 0 where
  pub all : Completed m (IsSeen m os) c reset steady offers accepts holds held memories values
  pub after : contents_of held' memories' ≡ after_edge m (contents_of held memories) (family_of all.values)
  pub words : HoldsWords m (contents_of held' memories')

pub clocked :
    (m : Module) (os : List ℕ) (order edge : List Assign) (updates : List Update) (c : Interface) (reset : Bool) (steady : List ℕ)
    (offers : List Offer) (accepts holds : List Bool)
    (held old values held' : List ℕ) (memories memories' : List (List ℕ))
    → IsRunnable m → IsOrderOf m order → IsFeeding order edge (IsSeen m os)
    → Every (λ (g : ℕ × ℕ). is_input m.ports g.0 ≡ true) (gifts c reset steady offers accepts holds)
    → AreKept m c steady held old memories → IsEvaluatedBy m edge c reset steady offers accepts holds held memories values → updates ≡ m.updates
    → contents_of held' memories' ≡ updated_all m (family_of values) updates (contents_of held memories)
    → Clocked m os c reset steady offers accepts holds held values held' memories memories'
clocked m os order edge updates c reset steady offers accepts holds held old values held' memories memories' r o sees inputs k by us is =
    let all : Completed m (IsSeen m os) c reset steady offers accepts holds held memories values = completed m order edge
    (IsSeen m os) c reset steady offers accepts holds held values memories r o sees inputs by in
    let start = contents_of held memories in
    let seen : updated_all m (family_of values) m.updates start ≡ after_edge m start (family_of all.values) =
    updates_agree m (family_of values) (family_of all.values) m.updates start
    (λ j u at. (
      all.same u.enable (by_enable j u at),
      all.same u.value (by_value j u at),
      all.same _
          (by_target j u at),
    )) in
    let after : contents_of held' memories' ≡ after_edge m start (family_of all.values) = is
    ∙ ap (λ (l : List Update). updated_all m (family_of values) l start) us ∙ seen in
    let before : HoldsWords m start = record { regs = k.held_words; cells = k.words.cells } in
    record { all = all; after = after; words = subst (HoldsWords m) (sym after) (words_after m r start (family_of all.values) before all.evaluated.fits) }
