use Rattle.std.proofs.Common.{◌≡◌, ◌+◌, ◌++◌, List, length, sym, subst, ap, ◌∙◌, arith}
use Rattle.std.specs.Prelude.{All}
use Rattle.rtl_ir.specs.declared.design.Instance.{Instance}
use Rattle.manager_links.specs.declared.hosts.HostPort.{HostPort}
use Rattle.manager_links.specs.declared.links.LinkEnds.{LinkEnds}
use Rattle.project_rtl.specs.Tops.{input_instances, output_instances, link_instances}
use Rattle.project_design.specs.Building.{IsKnown}
use Rattle.project_design.proofs.Linking.{hosts_known, from_known, to_known}
use Rattle.project_design.proofs.Placing.{counted}
use Rattle.project_design.proofs.Instancing.{after_inputs, after_outputs, after_links, all_instances}
use Rattle.project_design.proofs.instances.instances_of.Goals as goal

pub add_inputs-requires-clause-known : goal.add_inputs-requires-clause-known
add_inputs-requires-clause-known c =
    let project = c.args.blocks.now.project.now in
    subst (All (λ (host : HostPort). IsKnown project host.port)) (sym c.inputs.ensures) (hosts_known project project.joints.inputs project.whole.inputs.typed)

pub add_inputs-requires-clause-few : goal.add_inputs-requires-clause-few
add_inputs-requires-clause-few c =
    let f = counted c.args.blocks.now.project.now in
    let fi = f.few_inputs in
    let n = ap (λ (l : List HostPort). length l) c.inputs.ensures in
    let e = ap (λ (l : List Instance). length l) c.new-all.ensures in
    omega arith

pub add_inputs-requires-clause-small : goal.add_inputs-requires-clause-small
add_inputs-requires-clause-small c =
    let f = counted c.args.blocks.now.project.now in
    let a = f.inputs in
    let b = f.outputs in
    let s = f.small in
    let p = c.requires.places.inputs in
    let n = ap (λ (l : List HostPort). length l) c.inputs.ensures in
    omega arith

pub add_outputs-requires-clause-known : goal.add_outputs-requires-clause-known
add_outputs-requires-clause-known c =
    let project = c.args.blocks.now.project.now in
    subst (All (λ (host : HostPort). IsKnown project host.port)) (sym c.outputs.ensures) (hosts_known project project.joints.outputs project.whole.outputs.typed)

-- how many there are behind those of the streams from the host
pub add_outputs-requires-clause-few : goal.add_outputs-requires-clause-few
add_outputs-requires-clause-few c =
    let project = c.args.blocks.now.project.now in
    let f = counted project in
    let fi = f.few_inputs in
    let fo = f.few_outputs in
    let n = ap (λ (l : List HostPort). length l) c.outputs.ensures in
    let a = after_inputs project c.args.places.inputs c.new-all.result c.add_inputs.new.instances c.new-all.ensures
    (c.in_ok-add_inputs.ensures ∙ ap (λ hs. c.new-all.result ++ input_instances project (length c.new-all.result) c.args.places.inputs hs) c.inputs.ensures) in
    omega arith

pub add_outputs-requires-clause-small : goal.add_outputs-requires-clause-small
add_outputs-requires-clause-small c =
    let f = counted c.args.blocks.now.project.now in
    let b = f.outputs in
    let s = f.small in
    let p = c.requires.places.outputs in
    let n = ap (λ (l : List HostPort). length l) c.outputs.ensures in
    omega arith

pub add_links-requires-clause-from : goal.add_links-requires-clause-from
add_links-requires-clause-from c =
    let project = c.args.blocks.now.project.now in
    subst (All (λ (link : LinkEnds). IsKnown project link.from)) (sym c.links.ensures) (from_known project)

pub add_links-requires-clause-to : goal.add_links-requires-clause-to
add_links-requires-clause-to c =
    let project = c.args.blocks.now.project.now in
    subst (All (λ (link : LinkEnds). IsKnown project link.to)) (sym c.links.ensures) (to_known project)

pub add_links-requires-clause-few : goal.add_links-requires-clause-few
add_links-requires-clause-few c =
    let project = c.args.blocks.now.project.now in
    let f = counted project in
    let fi = f.few_inputs in
    let fo = f.few_outputs in
    let n = ap (λ (l : List LinkEnds). length l) c.links.ensures in
    let a = after_inputs project c.args.places.inputs c.new-all.result c.add_inputs.new.instances c.new-all.ensures
    (c.in_ok-add_inputs.ensures ∙ ap (λ hs. c.new-all.result ++ input_instances project (length c.new-all.result) c.args.places.inputs hs) c.inputs.ensures) in
    let b = after_outputs project c.args.places.outputs (length project.joints.inputs) c.add_inputs.new.instances c.add_outputs.new.instances a
    (c.in_ok-add_outputs.ensures ∙ ap (λ hs. c.add_inputs.new.instances ++ output_instances project (length c.add_inputs.new.instances) c.args.places.outputs hs) c.outputs.ensures) in
    omega arith

pub add_kernels-requires-clause-few : goal.add_kernels-requires-clause-few
add_kernels-requires-clause-few c =
    let project = c.args.blocks.now.project.now in
    let f = counted project in
    let fi = f.few_inputs in
    let fo = f.few_outputs in
    let a = after_inputs project c.args.places.inputs c.new-all.result c.add_inputs.new.instances c.new-all.ensures
    (c.in_ok-add_inputs.ensures ∙ ap (λ hs. c.new-all.result ++ input_instances project (length c.new-all.result) c.args.places.inputs hs) c.inputs.ensures) in
    let b = after_outputs project c.args.places.outputs (length project.joints.inputs) c.add_inputs.new.instances c.add_outputs.new.instances a
    (c.in_ok-add_outputs.ensures ∙ ap (λ hs. c.add_inputs.new.instances ++ output_instances project (length c.add_inputs.new.instances) c.args.places.outputs hs) c.outputs.ensures) in
    let d = after_links project (length project.joints.inputs + length project.joints.outputs) c.add_outputs.new.instances c.add_links.new.instances b
    (c.in_ok-add_links.ensures ∙ ap (λ ls. c.add_outputs.new.instances ++ link_instances project (length c.add_outputs.new.instances) 0 ls) c.links.ensures) in
    omega arith

pub returns : goal.returns
returns c =
    let project = c.args.blocks.now.project.now in
    all_instances project c.args.places.inputs c.args.places.outputs c.new-all.result c.add_inputs.new.instances c.add_outputs.new.instances c.add_links.new.instances c.add_kernels.new.instances
    (record {
      none = c.new-all.ensures;
      inputs = c.in_ok-add_inputs.ensures ∙ ap (λ hs. c.new-all.result ++ input_instances project (length c.new-all.result) c.args.places.inputs hs) c.inputs.ensures;
      outputs = c.in_ok-add_outputs.ensures ∙ ap (λ hs. c.add_inputs.new.instances ++ output_instances project (length c.add_inputs.new.instances) c.args.places.outputs hs) c.outputs.ensures;
      links = c.in_ok-add_links.ensures ∙ ap (λ ls. c.add_outputs.new.instances ++ link_instances project (length c.add_outputs.new.instances) 0 ls) c.links.ensures;
      kernels = c.in_ok-add_kernels.ensures;
    })
    c.requires.places.inputs c.requires.places.outputs
