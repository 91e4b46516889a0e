use Rattle.std.proofs.Common.{◌≡◌, ◌∙◌, ◌+◌, ◌*◌, ◌<◌, ℕ, List, length, get_or, sym, ap, arith}
use Rattle.std.proofs.lemmas.List.{get_or_read}
use Rattle.verilog_sim.proofs.HalfLists.{length_words, get_words}
use Rattle.verilog_sim.proofs.values.Values.read.Goals as goal

pub index-requires-then-narrow : goal.index-requires-then-narrow
index-requires-then-narrow c =
    let s = c.self.inside in
    let size = length_words s.low.items s.high.items c.self.invariant in
    let is = ap length c.self.view_is in
    omega (arith, size, is, s.low.ok)

pub returns-then-narrow : goal.returns-then-narrow
returns-then-narrow c =
    let s = c.self.inside in
    let k = c.index.result in
    let size = length_words s.low.items s.high.items c.self.invariant in
    let same = ap length c.self.view_is in
    let low : c.index-then-narrow.result.now ≡ get_or s.low.items k 0 = get_or_read s.low.items _ _ (omega (arith, size, same)) c.index-then-narrow.ensures 0 in
    let before : get_or c.args.self.now c.args.net 0 < 18446744073709551616 = c.requires.narrow c.if-narrow.true in
    let is : get_or c.args.self.now c.args.net 0 ≡ get_or s.low.items k 0 + get_or s.high.items k 0 * 18446744073709551616 =
    ap (λ (n : ℕ). get_or c.args.self.now n 0) (sym c.index.ensures.number) ∙ ap (λ (l : List ℕ). get_or l k 0) (sym c.self.view_is) ∙ get_words s.low.items s.high.items k c.self.invariant in
    omega (arith, low, before, is)
