use Rattle.std.proofs.Common.{◌≡◌, ◌+◌, ◌∷◌, [], ◌++◌, List, length, get_or, sym, ap, ◌∙◌, arith, append-nil, length-append}
use Rattle.rtl_ir.specs.declared.design.Instance.{Instance}
use Rattle.project_rtl.specs.Tops.{instance, link_instances}
use Rattle.project_design.proofs.Ending.{none_more}
use Rattle.project_design.proofs.Linking.{no_ends}
use Rattle.project_design.proofs.Making.{same_item}
use Rattle.project_design.proofs.Instancing.{link_step}
use Rattle.project_design.proofs.instances.add_links.Goals as goal

pub stream_net-taken-requires-clause-blocks : goal.stream_net-taken-requires-clause-blocks
stream_net-taken-requires-clause-blocks c = c.requires.blocks

pub stream_net-taken-requires-clause-known : goal.stream_net-taken-requires-clause-known
stream_net-taken-requires-clause-known c = c.requires.from c.loop-number.number no_ends (omega (arith, c.loop-number-test.true))

pub stream_net-given-requires-clause-blocks : goal.stream_net-given-requires-clause-blocks
stream_net-given-requires-clause-blocks c = c.requires.blocks

pub stream_net-given-requires-clause-known : goal.stream_net-given-requires-clause-known
stream_net-given-requires-clause-known c = c.requires.to c.loop-number.number no_ends (omega (arith, c.loop-number-test.true))

pub fifo_nets-requires-clause-taken : goal.fifo_nets-requires-clause-taken
fifo_nets-requires-clause-taken c = c.stream_net-taken.ensures.small

pub fifo_nets-requires-clause-given : goal.fifo_nets-requires-clause-given
fifo_nets-requires-clause-given c = c.stream_net-given.ensures.small

pub add_instance-requires : goal.add_instance-requires
add_instance-requires c =
    let n = c.loop-number.invariant.count in
    let r = c.requires.few in
    omega (arith, c.loop-number-test.true)

pub loop-number-preserved : goal.loop-number-preserved
loop-number-preserved c =
    let l = c.loop-number in
    let links = c.args.links.now in
    let new = c.add_instance.new.instances in
    let len : length new ≡ length l.instances + 1 =
    ap (λ (a : List Instance). length a) c.in_ok-add_instance.ensures ∙ length-append l.instances (instance (length l.instances) c.in_ok-name.name c.in_ok-fifo_nets.field-0 ∷ []) in
    let q = l.invariant.count in
    record {
      told = link_step c.args.blocks.now.project.now l.number c.stream_net-taken.result
          c.stream_net-given.result links
          (get_or links l.number no_ends) c.in_ok-name.name c.in_ok-fifo_nets.field-0
          l.instances new _
          (omega (arith, c.loop-number-test.true)) (same_item links l.number no_ends (omega (arith, c.loop-number-test.true))) c.in_ok-name.ensures
          c.stream_net-taken.ensures.is c.stream_net-given.ensures.is c.in_ok-fifo_nets.ensures c.in_ok-add_instance.ensures l.invariant.told;
      count = omega arith;
    }

pub returns : goal.returns
returns c =
    let l = c.loop-number in
    sym (append-nil l.instances)
    ∙ ap (λ xs. l.instances ++ link_instances c.args.blocks.now.project.now (length l.instances) l.number xs) (sym (none_more c.args.links.now l.number (omega (arith, c.loop-number-test.false))))
    ∙ l.invariant.told
