use Rattle.std.proofs.lemmas.List.{length-reverse}
use Rattle.kernel_meaning.proofs.Reversed.{reverse-take}
use Rattle.kernel_meaning.proofs.stack.Stack.keep.Goals as goal

pub returns : goal.returns
returns g c = rw (← c.self.view_is, length-reverse, c.truncate.ensures.items) (reverse-take c.args.count c.self.inside.items.items)
