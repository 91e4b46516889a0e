use Rattle.std.proofs.Common.{◌∙◌, ap}
use Rattle.project_design.proofs.Making.{in_order}
use Rattle.project_design.proofs.building.design.Goals as goal

pub returns : goal.returns
returns c = record {
  links = c.requires.links.links.ends;
  kernels = c.requires.kernels;
  fifos = c.in_ok-modules.modules.items;
  are_fifos = c.in_ok-modules.ensures;
  modules =
      c.from_vec.ensures
      ∙ in_order c.in_ok-modules.modules.items c.args.inners.items c.append.new.self.items
      c.push.new.self.items c.in_ok-top.field-0 _ c.in_ok-append.ensures.items
      c.in_ok-push.ensures.items c.in_ok-top.ensures;
}
