use Rattle.std.proofs.Common.{◌≡◌, ◌∙◌, ◌+◌, ◌*◌, ◌<◌, ℕ, List, length, get_or, set, sym, ap, arith}
use Rattle.verilog_sim.proofs.HalfLists.{length_words, get_words, set_low}
use Rattle.verilog_sim.proofs.values.Values.write.Goals as goal

pub index_mut-requires : goal.index_mut-requires
index_mut-requires c =
    let s = c.self.inside in
    let size = length_words s.low.items s.high.items c.self.invariant in
    let is = ap length c.self.view_is in
    omega (arith, size, is, s.low.ok)

pub returns-then-narrow : goal.returns-then-narrow
returns-then-narrow c =
    let s = c.self.inside in
    let k = c.index.result in
    let before : get_or c.args.self.now c.args.net 0 < 18446744073709551616 = c.requires.before c.if-narrow.true in
    let is : get_or c.args.self.now c.args.net 0 ≡ get_or s.low.items k 0 + get_or s.high.items k 0 * 18446744073709551616 =
    ap (λ (n : ℕ). get_or c.args.self.now n 0) (sym c.index.ensures.number)
    ∙ ap (λ (l : List ℕ). get_or l k 0) (sym c.self.view_is)
    ∙ get_words s.low.items s.high.items k c.self.invariant in
    let none : get_or s.high.items k 0 ≡ 0 = omega (arith, before, is) in
    let word : c.low_half.result ≡ c.args.word = omega (arith, c.low_half.ensures, c.requires.word c.if-narrow.true) in
    set_low s.low.items s.high.items k c.low_half.result c.self.invariant none
    ∙ ap (λ (l : List ℕ). set l k c.low_half.result) c.self.view_is
    ∙ ap (λ (n : ℕ). set c.args.self.now n c.low_half.result) c.index.ensures.number
    ∙ ap (set c.args.self.now c.args.net) word
