use Rattle.std.proofs.lemmas.Option.{slice_get_read}
use Rattle.std.proofs.lemmas.List.{take_all}
use Rattle.std.proofs.Common.{◌≡◌, ℕ, zero, suc, ◌+◌, ◌<◌, ◌++◌, List, [], ◌∷◌, take, length, get_or, append_assoc, refl, sym, ap, ◌∙◌, arith}
use Rattle.rtl_ir.specs.declared.design.Port.{Port}
use Rattle.rtl_ir.specs.declared.design.Assign.{Assign}
use Rattle.rtl_ir.specs.declared.design.Expr.TheVariants.{Net as Plain}
use Rattle.verilog_sim.specs.Relocation.{join_of, joins_of}
use Rattle.verilog_sim.proofs.inlining.add_joins.Goals as goal

joins_suc : (b k : ℕ) (ps : List Port) (ns : List ℕ) (p : Port) (n : ℕ) → k < length ps
    → k < length ns → joins_of b (take (suc k) ps) (take (suc k) ns) ≡ joins_of b (take k ps)
    (take k ns) ++ join_of b (get_or ps k p) (get_or ns k n) ∷ []
joins_suc b k [] ns p n lt less = absurd (omega arith)
joins_suc b k (q ∷ ps) [] p n lt less = absurd (omega arith)
joins_suc b zero (q ∷ ps) (o ∷ ns) p n lt less = refl
joins_suc b (suc k) (q ∷ ps) (o ∷ ns) p n lt less = ap (λ l. join_of b q o ∷ l) (joins_suc b k ps ns p n (omega arith) (omega arith))

pub loop-k-preserved : goal.loop-k-preserved
loop-k-preserved c =
    let k = c.loop-k.k in
    let ports = c.args.ports.now in
    let nets = c.args.nets.now in
    let old = c.args.assigns.now.items in
    let before = joins_of c.args.first_net (take k ports) (take k nets) in
    let lt : k < length ports = c.loop-k-test.true in
    let next : suc k ≡ k + 1 = omega arith in
    let more = joins_suc c.args.first_net k ports nets c.index-ports-k.result c.index-nets-k.result lt (omega (arith, lt, c.requires.nets)) in
    let pick : join_of c.args.first_net c.index-ports-k.result c.index-nets-k.result
    ≡ join_of c.args.first_net (get_or ports k c.index-ports-k.result)
    (get_or nets k c.index-nets-k.result) = ap (λ
    (p : Port). join_of c.args.first_net p c.index-nets-k.result) c.index-ports-k.is ∙ ap
    (λ (n : ℕ). join_of c.args.first_net
    (get_or ports k c.index-ports-k.result) n) c.index-nets-k.is in
    let one : Assign = record { target = c.joined-join.result.target; expr = Plain c.joined-join.result.source } in
    c.in_ok-push.ensures.items
    ∙ ap (λ l. l ++ one ∷ []) c.loop-k.invariant
    ∙ append_assoc old before (one ∷ [])
    ∙ ap (λ l. old ++ l) (ap (λ x. before ++ x ∷ []) (sym c.joined-join.ensures ∙ pick) ∙ sym more ∙ ap (λ i. joins_of c.args.first_net (take i ports) (take i nets)) next)

pub joined-join-requires : goal.joined-join-requires
joined-join-requires c =
    let ports = c.args.ports.now in
    let p = c.index-ports-k.result in
    c.requires.ports c.loop-k.k p (slice_get_read ports (length ports) c.loop-k.k p refl c.loop-k-test.true c.index-ports-k.is)

pub returns : goal.returns
returns c =
    let ports = c.args.ports.now in
    let nets = c.args.nets.now in
    let old = c.args.assigns.now.items in
    let b = c.args.first_net in
    let k = c.loop-k.k in
    c.loop-k.invariant
    ∙ ap (λ l. old ++ joins_of b l (take k nets)) (take_all k ports c.loop-k-test.false)
    ∙ ap (λ l. old ++ joins_of b ports l) (take_all k nets (omega (arith, c.loop-k-test.false, c.requires.nets)))
