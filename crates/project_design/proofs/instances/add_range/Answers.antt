use Rattle.std.proofs.Common.{◌≡◌, ℕ, suc, ◌+◌, ◌-◌, ◌<◌, ◌∷◌, [], ◌++◌, ap, sym, ◌∙◌, arith, append_assoc}
use Rattle.project_rtl.specs.Tops.{range}
use Rattle.project_design.proofs.instances.add_range.Goals as goal

next : (from count place : ℕ) → place < count → range (from + place) (count - place) ≡ (from + place) ∷ range (from + (place + 1)) (count - (place + 1))
next from count place h =
    let e : count - place ≡ suc (count - (place + 1)) = omega arith in
    let f : from + place + 1 ≡ from + (place + 1) = omega arith in
    ap (λ k. range (from + place) k) e ∙ ap (λ k. (from + place) ∷ range k (count - (place + 1))) f

pub loop-place-preserved : goal.loop-place-preserved
loop-place-preserved c =
    let from = c.args.from in
    let count = c.args.count in
    let k = c.loop-place.place in
    let old = c.loop-place.nets in
    let rest = range (from + (k + 1)) (count - (k + 1)) in
    let lt = c.loop-place-test.true in
    ap (λ l. l ++ rest) c.in_ok-push.ensures.ok ∙ append_assoc old (c.new.result
    ∷ []) rest ∙ ap (λ z. old ++ z ∷ rest) c.new.ensures ∙ ap (λ l. old
    ++ l) (sym (next from count k (omega arith))) ∙ c.loop-place.invariant
