use Rattle.std.proofs.Common.{rules, ◌≡◌, ◌∙◌, ℕ, List, ap, replicate}
use Rattle.verilog_sim.specs.Halves.{words}
use Rattle.verilog_sim.proofs.HalfLists.{words_zeros}
use Rattle.verilog_sim.proofs.values.Values.zeros.Goals as goal

pub returns : goal.returns
returns c =
    let low : c.in_ok-vec.field-0.items ≡ replicate c.args.nets 0 = search rules in
    let high : c.in_ok-vec-2.field-0.items ≡ replicate c.args.nets 0 = search rules in
    ap (λ (l : List ℕ). words l c.in_ok-vec-2.field-0.items) low ∙ ap (λ (l : List ℕ). words (replicate c.args.nets 0) l) high ∙ words_zeros c.args.nets
