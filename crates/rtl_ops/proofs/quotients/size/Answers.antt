use Rattle.std.proofs.Common.{◌==◌, ◌+◌, ◌-◌, ◌%◌, ◌^◌, if◌then◌else◌, ap, refl, arith}
use Rattle.std.proofs.lemmas.Result.{IfOk-weaker}
use Rattle.rtl_build.proofs.Growing.{goes_on}
use Rattle.rtl_ops.proofs.Typed.{type_fits}
use Rattle.rtl_ops.proofs.Signs.{size_test}
use Rattle.rtl_ops.proofs.quotients.size.Goals as goal

pub returns : goal.returns
returns c =
    let t = c.args.t in
    let a = c.args.a in
    let q = c.requires in
    let negative = c.in_ok-negative.negative in
    let first = c.in_ok-negative.ensures in
    let second = c.in_ok-opposite.ensures in
    IfOk-weaker _ _ _ (λ r made.
    goes_on 4 a.width _ first (
    goes_on 3 a.width (λ v. if v negative.net == 1 then (0 + (2 ^ a.width - v a.net)) % 2 ^ a.width else v a.net) second made (omega arith) second.width
    (λ d v h e. ap (λ n. if v negative.net == 1 then n else v a.net) e))
    (omega arith) refl (λ d v h e. size_test t (v a.net) a.width (v negative.net) q.signed q.a_type (type_fits t a (made.keeps a (second.keeps a (first.keeps a q.a))) q.a_type h) e)) c.choose.ensures
