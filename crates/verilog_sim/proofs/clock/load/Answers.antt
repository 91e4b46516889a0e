use Rattle.std.proofs.Common.{◌≡◌, ◌⊎◌, ◌∙◌, ◌<◌, ◌^◌, ◌+◌, Bool, true, ℕ, List, length, get_or, Some, refl, sym, subst, ⊎_elim, arith}
use Rattle.std.specs.Prelude.{slice_get}
use Rattle.std.proofs.lemmas.Option.{slice_get_read}
use Rattle.rtl_ir.specs.declared.design.Target.{Target}
use Rattle.rtl_ir.specs.declared.design.Target.TheVariants.{Reg}
use Rattle.verilog_sim.specs.Updates.{IsRegSafe, IsLoadSafe, IsRegSmall, IsLoadSmall}
use Rattle.verilog_sim.proofs.Loads.{Loaded, none_loaded, passed, one_loaded, all_loaded}
use Rattle.verilog_sim.proofs.clock.load.Goals.{in-Reg, in_default}
use Rattle.verilog_sim.proofs.clock.load.Goals as goal

pub loop-update-init : goal.loop-update-init
loop-update-init c = none_loaded c.args.updates.now c.args.ahead.now c.args.values.now

pub write-requires-clause-net : goal.write-requires-clause-net
write-requires-clause-net c =
    let i = c.loop-update.update-index in
    let u = c.update-item.result in
    let safe = subst (IsLoadSafe (length c.args.values.now)) (sym c.update-item.is) (c.requires.safe i u c.loop-update-test.true) in
    let lt = subst (IsRegSafe (length c.args.values.now)) c.in-Reg.is safe in
    omega (arith, lt, c.loop-update.invariant.size)

-- where registers are narrow, what one holds and has
small_at :
    (narrow : Bool) (held old new : List ℕ) (t : Target) (n : ℕ) → t ≡ Reg n → IsRegSmall narrow held old t → (get_or new n 0 ≡ get_or old n 0) ⊎ (get_or new n 0 ≡ get_or held n 0) → narrow ≡ true
    → (get_or held n 0 < 2 ^ 64) × (get_or new n 0 < 2 ^ 64)
small_at narrow held old new t n is small either on =
    let both = subst (IsRegSmall narrow held old) is small on in
    let h = both.0 in
    let v = both.1 in
    (both.0, ⊎_elim (λ e. subst (λ (x : ℕ). x < 2 ^ 64) (sym e) v) (λ e. subst (λ (x : ℕ). x < 2 ^ 64) (sym e) h) either)

pub write-requires-clause-before : goal.write-requires-clause-before
write-requires-clause-before c = λ on.
    let i = c.loop-update.update-index in
    let u = c.update-item.result in
    let small = subst (IsLoadSmall c.args.narrow c.args.ahead.now c.args.values.now) (sym c.update-item.is) (c.requires.small i u c.loop-update-test.true) in
    (small_at c.args.narrow c.args.ahead.now c.args.values.now c.loop-update.values u.target c.in-Reg.net c.in-Reg.is small (c.loop-update.invariant.either c.in-Reg.net) on).1

pub read-requires-clause-net : goal.read-requires-clause-net
read-requires-clause-net c =
    let i = c.loop-update.update-index in
    let u = c.update-item.result in
    let safe = subst (IsLoadSafe (length c.args.values.now)) (sym c.update-item.is) (c.requires.safe i u c.loop-update-test.true) in
    let lt = subst (IsRegSafe (length c.args.values.now)) c.in-Reg.is safe in
    omega (arith, lt, c.requires.nets)

pub read-requires-clause-narrow : goal.read-requires-clause-narrow
read-requires-clause-narrow c = λ on.
    let i = c.loop-update.update-index in
    let u = c.update-item.result in
    let small = subst (IsLoadSmall c.args.narrow c.args.ahead.now c.args.values.now) (sym c.update-item.is) (c.requires.small i u c.loop-update-test.true) in
    (small_at c.args.narrow c.args.ahead.now c.args.values.now c.loop-update.values u.target c.in-Reg.net c.in-Reg.is small
    (c.loop-update.invariant.either c.in-Reg.net) on).0

pub write-requires-clause-word : goal.write-requires-clause-word
write-requires-clause-word c = λ on.
    let i = c.loop-update.update-index in
    let u = c.update-item.result in
    let small = subst (IsLoadSmall c.args.narrow c.args.ahead.now c.args.values.now) (sym c.update-item.is) (c.requires.small i u c.loop-update-test.true) in
    rw c.read.ensures
    ((small_at c.args.narrow c.args.ahead.now c.args.values.now c.loop-update.values u.target
    c.in-Reg.net c.in-Reg.is small (c.loop-update.invariant.either c.in-Reg.net) on).0)

pub loop-update-preserved : goal.loop-update-preserved
loop-update-preserved c =
    let i = c.loop-update.update-index in
    let u = c.update-item.result in
    let at : slice_get c.args.updates.now i ≡ Some u = slice_get_read c.args.updates.now (length c.args.updates.now) i u refl c.loop-update-test.true c.update-item.is in
    let safe = subst (IsLoadSafe (length c.args.values.now)) (sym c.update-item.is) (c.requires.safe i u c.loop-update-test.true) in
    elim c.match-update.branch [
      | in-Reg w ↦ (
          let lt = subst (IsRegSafe (length c.args.values.now)) w.in-Reg.is safe in
          let more = one_loaded c.args.updates.now c.args.ahead.now c.args.values.now
          c.loop-update.values i w.in-Reg.net u at w.in-Reg.is (omega (
            arith,
            lt,
            c.loop-update.invariant.size,
          )) c.loop-update.invariant in
          subst (λ (l : List ℕ). Loaded c.args.updates.now c.args.ahead.now c.args.values.now l (i + 1)) (sym (w.values-is ∙ w.write.ensures)) (rw w.read.ensures more))
      | in_default w ↦ (
          let more = passed c.args.updates.now c.args.ahead.now c.args.values.now c.loop-update.values i u at w.in_default.not-Reg c.loop-update.invariant in
          subst (λ (l : List ℕ). Loaded c.args.updates.now c.args.ahead.now c.args.values.now l (i + 1)) (sym w.values-is) more)
    ]

pub returns : goal.returns
returns c = all_loaded c.args.updates.now c.args.ahead.now c.args.values.now c.loop-update.values c.loop-update.update-index (omega arith) c.loop-update.invariant
