use Rattle.std.proofs.Common.{◌≡◌, ◌+◌, length, true, false, refl, sym, ap, ◌∙◌, arith, length-append}
use Rattle.fix_arith.specs.Types.{width_of}
use Rattle.stream_graph.specs.declared.node.NodeView.{NodeView}
use Rattle.rtl_ir.specs.declared.design.Module.{Module}
use Rattle.rtl_delays.specs.Steps.{writes_reg}
use Rattle.rtl_delays.proofs.Extends.{extends_same}
use Rattle.rtl_delays.proofs.Lists.{or_first}
use Rattle.rtl_delays.proofs.Targets.{free_reg}
use Rattle.rtl_delays.proofs.Undriven.{same_undriven, register_undriven}
use Rattle.rtl_delays.proofs.Kept.{register_one}
use Rattle.stream_graph.specs.LookUps.{node_at, kind_at, width_at}
use Rattle.stream_graph.proofs.Reading.{view_read}
use Rattle.kernel_states.proofs.Kernels.{has_width}
use Rattle.kernel_states.proofs.Freeing.{none_of, one_of}
use Rattle.kernel_states.specs.States.{has_state}
use Rattle.kernel_states.proofs.starting.start_state.Goals as goal

pub width-requires : goal.width-requires
width-requires c = has_width c.args.kernel.now.nodes c.args.kernel.now.made c.args.node c.node-view.result c.requires.node c.node-view.ensures

pub start_register-requires-clause-some : goal.start_register-requires-clause-some
start_register-requires-clause-some c =
    let kernel = c.args.kernel.now in
    let w = c.width.ensures in
    let h = (has_width kernel.nodes kernel.made c.args.node c.node-view.result c.requires.node c.node-view.ensures).0 in
    omega (arith, w, h)

pub start_register-requires-clause-at_most : goal.start_register-requires-clause-at_most
start_register-requires-clause-at_most c =
    let kernel = c.args.kernel.now in
    let w = c.width.ensures in
    let h = (has_width kernel.nodes kernel.made c.args.node c.node-view.result c.requires.node c.node-view.ensures).1 in
    omega (arith, w, h)

pub returns-then-not-has_state : goal.returns-then-not-has_state
returns-then-not-has_state c =
    let m = c.args.netlist.now in
    let nodes = c.args.kernel.now.nodes in
    let n = c.args.node in
    let read : c.node-view.result ≡ (node_at nodes n).view = view_read nodes n n c.node-view.result refl c.node-view.ensures in
    let none : has_state (kind_at nodes n) ≡ false = sym (c.if-not-has_state.ensures ∙ ap (λ (v : NodeView). has_state v.kind) read) in
    record {
      extends = extends_same c.requires.sound;
      is = none;
      free = omega arith;
      updates = refl;
      only = λ k h o. h;
      undriven = same_undriven m m refl;
      stored = let z = none_of (has_state (kind_at nodes n)) (width_at nodes n) none in omega (arith, z);
      nets = let z = none_of (has_state (kind_at nodes n)) 1 none in omega (arith, z);
      mems = refl;
    }

pub returns : goal.returns
returns c =
    let m = c.args.netlist.now in
    let new = c.start_register.new.netlist in
    let nodes = c.args.kernel.now.nodes in
    let n = c.args.node in
    let s = c.in_ok-register.register in
    let x = c.in_ok-register.ensures in
    let read : c.node-view.result ≡ (node_at nodes n).view = view_read nodes n n c.node-view.result refl c.node-view.ensures in
    let some : has_state (kind_at nodes n) ≡ true = sym (c.if-not-has_state.ensures ∙ ap (λ (v : NodeView). has_state v.kind) read) in
    let wide : c.width.result ≡ width_at nodes n = c.width.ensures ∙ ap (λ (v : NodeView). width_of v.t) read in
    let grown : length new.nets ≡ length m.nets + 1 = ap (λ (k : Module). length k.nets) x.register.is ∙ length-append m.nets _ in
    let at = x.register.net in
    let updates : new.updates ≡ m.updates = ap (λ (k : Module). k.updates) x.register.is in
    record {
      extends = x.extends;
      is = (some, record { signal = x.register.signal; register = x.register.register; width = x.register.width ∙ wide });
      free = (
        omega (arith, at),
        ap (writes_reg s.net) updates
            ∙ free_reg (length m.nets) (length m.mems) s.net m.updates c.requires.sound.updates (omega (arith, at)),
        omega (arith, at, grown),
      );
      updates = updates;
      only = λ k h o. register_one x.register k h (or_first _ false o);
      undriven = register_undriven x.register;
      stored = let e = x.stored in let z = one_of (has_state (kind_at nodes n)) (width_at nodes n) some in omega (arith, e, z, wide);
      nets = let z = one_of (has_state (kind_at nodes n)) 1 some in omega (arith, z, grown);
      mems = ap (λ (k : Module). k.mems) x.register.is;
    }
