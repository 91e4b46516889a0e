use Rattle.std.proofs.Common.{◌≡◌, ◌==◌, ◌+◌, ◌%◌, ◌^◌, ◌∙◌, ap, sym, refl, arith}
use Rattle.std.proofs.lemmas.Result.{IfOk-weaker}
use Rattle.fix_arith.specs.declared.types.StreamType.TheVariants.{Bool as OneBit}
use Rattle.fix_arith.specs.declared.types.RoundMode.TheVariants.{Truncate}
use Rattle.fix_arith.specs.Values.{value_of, reduced}
use Rattle.fix_arith.specs.Rounding.{rounded, rounds_up}
use Rattle.fix_arith.specs.Table.{bit_of}
use Rattle.rtl_build.proofs.Growing.{same_value, goes_on}
use Rattle.rtl_ops.proofs.Carries.{no_rounding, truncated, carried, bit_value}
use Rattle.rtl_ops.proofs.rounding.rounded.Goals as goal
use Rattle.rtl_ops.proofs.rounding.rounded.Goals.{in-Truncate, in_default}

pub returns-then-bits-eq0 : goal.returns-then-bits-eq0
returns-then-bits-eq0 c = IfOk-weaker _ _ _ (λ r made. same_value 15 c.args.width _ made
    (omega arith) refl (λ d v h. no_rounding c.args.mode c.args.width c.args.bits _
    c.if-bits-eq0.true)) c.resized.ensures

pub returns-then-matches : goal.returns-then-matches
returns-then-matches c =
    let a = c.args.a in
    let w = c.args.width in
    let d = 2 ^ c.args.bits in
    let is : c.args.mode ≡ Truncate = elim c.match-matches.branch [ in-Truncate w ↦ w.in-Truncate.is | in_default w ↦ absurd (cc) ] in
    same_value 15 w _ c.in_ok-floor.ensures (omega arith) refl (λ k v h. ap (reduced w) (truncated (value_of c.args.t (v a.net)) d ∙ ap (λ m. rounded m (value_of c.args.t (v a.net)) d) (sym is)))

pub returns : goal.returns
returns c =
    let t = c.args.t in
    let a = c.args.a in
    let w = c.args.width in
    let k = c.args.bits in
    let mode = c.args.mode in
    let q = c.requires in
    let floor = c.in_ok-floor.floor in
    let up = c.in_ok-up.up in
    IfOk-weaker _ _ _ (λ r made.
    goes_on 15 w _ c.in_ok-floor.ensures (
    goes_on 11 w (λ v. (v floor.net + reduced w (value_of OneBit (bit_of (rounds_up mode (v floor.net % 2 == 1) (v a.net % 2 ^ k) (2 ^ k))))) % 2 ^ w) c.in_ok-up.ensures (
    goes_on 4 w (λ v. (v floor.net + reduced w (value_of OneBit (v up.net))) % 2 ^ w) c.in_ok-more.ensures made (omega arith) c.in_ok-floor.ensures.width
    (λ d v h e. ap (λ j. (v floor.net + v c.in_ok-more.more.net) % 2 ^ j) c.in_ok-floor.ensures.width ∙ ap (λ n. (v floor.net + n) % 2 ^ w) e))
    (omega arith) refl (λ d v h e. ap (λ n. (v floor.net + reduced w (value_of OneBit n)) % 2 ^ w) e))
    (omega arith) refl (λ d v h e.
    carried mode t (v a.net) k w (v floor.net) _ _ (omega (arith, q.within, q.a_type)) q.some e refl (bit_value w _))) c.binary.ensures
