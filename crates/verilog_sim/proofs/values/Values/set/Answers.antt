use Rattle.std.proofs.Common.{◌≡◌, ◌∙◌, ◌+◌, ◌*◌, ◌/◌, ℕ, List, length, set, ap, arith}
use Rattle.verilog_sim.proofs.HalfLists.{length_words, set_words}
use Rattle.verilog_sim.proofs.values.Values.set.Goals as goal

pub index_mut-requires : goal.index_mut-requires
index_mut-requires c =
    let s = c.self.inside in
    let size = length_words s.low.items s.high.items c.self.invariant in
    let is = ap length c.self.view_is in
    omega (arith, size, is, s.low.ok)

pub index_mut-requires-2 : goal.index_mut-requires-2
index_mut-requires-2 c =
    let s = c.self.inside in
    let size = length_words s.low.items s.high.items c.self.invariant in
    let is = ap length c.self.view_is in
    omega (arith, size, is, s.high.ok, c.self.invariant)

pub returns : goal.returns
returns c =
    let s = c.self.inside in
    let word : c.low_half.result + c.args.word / 18446744073709551616 * 18446744073709551616 ≡ c.args.word = omega (arith, c.low_half.ensures) in
    set_words s.low.items s.high.items c.index-k.result c.low_half.result (c.args.word / 18446744073709551616) c.args.word c.self.invariant word
    ∙ ap (λ (l : List ℕ). set l c.index-k.result c.args.word) c.self.view_is
    ∙ ap (λ (n : ℕ). set c.args.self.now n c.args.word) c.index-k.ensures.number
