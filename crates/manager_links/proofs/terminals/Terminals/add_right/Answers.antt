use Rattle.std.proofs.Common.{◌≡◌, length, refl, rules}
use Rattle.manager_links.specs.declared.terminals.Terminals.{Terminals}
use Rattle.manager_links.proofs.Knowing.{knows_right}
use Rattle.manager_links.proofs.terminals.Terminals.add_right.Goals as goal

pub returns : goal.returns
returns c = λ plan kernels ends is known.
    let new : Terminals = record {
      slots = c.push.new.self;
      rights = c.add.new.self;
      lefts = c.args.self.now.lefts;
    } in
    let number : c.len.result ≡ length c.args.self.now.slots.items = search rules in
    knows_right plan kernels ends c.args.self.now new c.args.kernel c.args.name.now c.args.slot
    c.len.result known is number c.in_ok-push.ensures.items refl c.in_ok-add.ensures
