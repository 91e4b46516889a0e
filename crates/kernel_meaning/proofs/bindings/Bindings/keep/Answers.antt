-- One less.
use Rattle.std.proofs.Common.{rules, ◌∙◌, ◌-◌, ◌<◌, length, drop, ap}
use Rattle.kernel_meaning.proofs.Dropped.{drop-one}
use Rattle.kernel_meaning.proofs.bindings.Bindings.keep.Goals as goal

pub loop-self-preserved : goal.loop-self-preserved
loop-self-preserved c =
    let more : c.args.count < length c.loop-self.self = search rules in
    ap (λ l. drop (length l - c.args.count) l) c.take_newest.ensures
    ∙ drop-one c.args.count c.loop-self.self more ∙ c.loop-self.invariant
