use Rattle.std.proofs.Common.{◌≡◌, ℕ, ◌+◌, ◌++◌, [], ◌∷◌, List, length, refl, sym, subst, ap, ◌∙◌, arith}
use Rattle.std.specs.Vec.{with_items}
use Rattle.std.proofs.lemmas.Option.{slice_get_read}
use Rattle.rtl_ir.specs.declared.design.Assign.{Assign}
use Rattle.verilog_sim.specs.Origins.{assign_at, with_origin, AreAtOrigins}
use Rattle.verilog_sim.proofs.Edges.{back}
use Rattle.verilog_sim.proofs.Gathering.{get_last}
use Rattle.verilog_sim.proofs.Origins.{own_at_first, one_more_direct, source_own, origin_noted}
use Rattle.verilog_sim.proofs.origin.trace.Goals as goal

pub assign_at-direct-requires : goal.assign_at-direct-requires
assign_at-direct-requires c = λ n read.
    let i = c.loop-assign.assign-index in
    let a = c.assign-item.result in
    let at = slice_get_read c.args.order.now (length c.args.order.now) i a refl c.loop-assign-test.true c.assign-item.is in
    let from = c.requires.order.from i a at in
    let lt = (c.requires.runnable.assigns from.0 a from.1).expr.nets n read in
    omega (arith, lt, ap length c.as_slice.ensures.value, c.loop-assign.invariant.nets)

pub note_origin-requires : goal.note_origin-requires
note_origin-requires c =
    let i = c.loop-assign.assign-index in
    let a = c.assign-item.result in
    let at = slice_get_read c.args.order.now (length c.args.order.now) i a refl c.loop-assign-test.true c.assign-item.is in
    let from = c.requires.order.from i a at in
    let lt = (c.requires.runnable.assigns from.0 a from.1).target in
    let target : c.assign_at-direct.result.target ≡ a.target = ap (λ (x : Assign). x.target) c.assign_at-direct.ensures in
    omega (arith, lt, target, ap length c.as_mut_slice.ensures.value, c.loop-assign.invariant.nets)

pub loop-assign-init : goal.loop-assign-init
loop-assign-init c =
    let m = c.args.module.now in
    subst (λ (l : List Assign). AreAtOrigins m c.args.order.now c.in_ok-origins.origins.items l 0) (sym c.new-assigns.ensures.items)
    (own_at_first m c.args.order.now c.in_ok-origins.origins.items (c.in_ok-origins.ensures.size ∙ c.len.ensures) (λ n lt. c.in_ok-origins.ensures.own n (omega (arith, lt, c.len.ensures))))

pub loop-assign-preserved : goal.loop-assign-preserved
loop-assign-preserved c =
    let m = c.args.module.now in
    let order = c.args.order.now in
    let o = c.requires.order.in_order in
    let i = c.loop-assign.assign-index in
    let a = c.assign-item.result in
    let os = c.loop-assign.origins.items in
    let old = c.loop-assign.assigns.items in
    let at = slice_get_read order (length order) i a refl c.loop-assign-test.true c.assign-item.is in
    let from = c.requires.order.from i a at in
    let f = c.requires.runnable.assigns from.0 a from.1 in
    let one = one_more_direct m order o os old i c.loop-assign.invariant a at f in
    let noted = origin_noted m order o os (old ++ assign_at os a ∷ []) (i + 1) (length old) (assign_at os a)
    (get_last old (assign_at os a)) (source_own m order os old i c.loop-assign.invariant a f)
    (λ n lt e. c.loop-assign.invariant.free n i a lt (omega arith) at e) one in
    let direct : c.assign_at-direct.result ≡ assign_at os a = c.assign_at-direct.ensures ∙ ap (λ (l : List ℕ). assign_at l a) c.as_slice.ensures.value in
    let origins : c.note_origin.new.origins ≡ with_origin (assign_at os a).expr (assign_at os a).target os =
    c.note_origin.ensures ∙ ap
    (with_origin c.assign_at-direct.result.expr c.assign_at-direct.result.target)
    c.as_mut_slice.ensures.value ∙ ap (λ (x : Assign). with_origin x.expr x.target os) direct in
    let items : (with_items c.loop-assign.origins c.note_origin.new.origins).items
    ≡ c.note_origin.new.origins = back c.loop-assign.origins c.note_origin.new.origins
    c.as_mut_slice.result.now c.note_origin.auto.origins c.as_mut_slice.ensures.value in
    let pushed : c.push.new.self.items ≡ old ++ assign_at os a ∷ [] = c.in_ok-push.ensures.items ∙ ap (λ (x : Assign). old ++ x ∷ []) direct in
    subst (λ (l : List Assign). AreAtOrigins m order (with_items c.loop-assign.origins c.note_origin.new.origins).items l (i + 1)) (sym pushed)
    (subst (λ (l : List ℕ). AreAtOrigins m order l (old ++ assign_at os a ∷ []) (i + 1)) (sym (items ∙ origins)) noted)

pub returns : goal.returns
returns c =
    let p = c.loop-assign.invariant in
    let le = c.loop-assign.auto.assign-index-end in
    let past = c.loop-assign-test.false in
    let same : c.loop-assign.assign-index ≡ length c.args.order.now = omega (arith, le, past) in
    subst (AreAtOrigins c.args.module.now c.args.order.now c.loop-assign.origins.items c.loop-assign.assigns.items) same p
