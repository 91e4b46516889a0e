use Rattle.std.proofs.Common.{◌≡◌, ◌∙◌, ◌+◌, ◌*◌, ℕ, List, length, get_or, sym, ap, arith}
use Rattle.std.proofs.lemmas.List.{get_or_read}
use Rattle.verilog_sim.proofs.HalfLists.{length_words, get_words}
use Rattle.verilog_sim.proofs.values.Values.get.Goals as goal

pub index-requires : goal.index-requires
index-requires c =
    let s = c.self.inside in
    let size = length_words s.low.items s.high.items c.self.invariant in
    let is = ap length c.self.view_is in
    omega (arith, size, is, s.low.ok)

pub index-requires-2 : goal.index-requires-2
index-requires-2 c =
    let s = c.self.inside in
    let size = length_words s.low.items s.high.items c.self.invariant in
    let is = ap length c.self.view_is in
    omega (arith, size, is, s.high.ok, c.self.invariant)

pub returns : goal.returns
returns c =
    let s = c.self.inside in
    let size = length_words s.low.items s.high.items c.self.invariant in
    let is = ap length c.self.view_is in
    let all : length s.low.items ≡ length s.high.items = c.self.invariant in
    let low : c.index.result.now ≡ get_or s.low.items c.index-k.result 0 = get_or_read s.low.items _ _ (omega (arith, size, is)) c.index.ensures 0 in
    let high : c.index-2.result.now ≡ get_or s.high.items c.index-k.result 0 = get_or_read s.high.items _ _ (omega (arith, size, is, all)) c.index-2.ensures 0 in
    let both = get_words s.low.items s.high.items c.index-k.result c.self.invariant in
    let value : get_or c.args.self.now c.args.net 0 ≡ c.index.result.now + c.index-2.result.now * 18446744073709551616 =
    ap (λ (n : ℕ). get_or c.args.self.now n 0) (sym c.index-k.ensures.number) ∙ ap
    (λ (l : List ℕ). get_or l c.index-k.result 0) (sym c.self.view_is) ∙ both ∙ ap
    (λ x. x + get_or s.high.items c.index-k.result 0 * 18446744073709551616) (sym low) ∙ ap
    (λ x. c.index.result.now + x * 18446744073709551616) (sym high) in
    omega (arith, value, c.index.type_inv, c.index-2.type_inv)
