use Rattle.std.proofs.Common.{◌≡◌, ◌+◌, ◌-◌, ◌*◌, ◌++◌, ◌∷◌, [], List, length, drop, get_or, refl, sym, ap, ◌∙◌, subst, arith}
use Rattle.std.specs.Prelude.{All, sum_by}
use Rattle.rtl_delays.specs.declared.elements.Element.{Element}
use Rattle.rtl_delays.specs.Stored.{stored_bits}
use Rattle.rtl_delays.specs.Elements.{shown, advances_of, starting_mems, AreFree}
use Rattle.rtl_delays.proofs.Extends.{extends_same, extends_on}
use Rattle.rtl_delays.proofs.Undriven.{same_undriven, undriven_on}
use Rattle.rtl_delays.proofs.Started.{frees_kept, frees_more, new_past, reg_within, mem_within}
use Rattle.rtl_delays.proofs.Extends.{more_mems}
use Rattle.kernel_stages.specs.Numbers.{differences, last_from, rings_from, place_bits, pointer_bits}
use Rattle.kernel_stages.specs.Chains.{IsChain, AddsRegistersOf}
use Rattle.kernel_stages.proofs.Lists.{drop_front, drop_all, all_more}
use Rattle.kernel_stages.proofs.Climbing.{Climbs, climbs, lean_bits, left_from, bits_left, none_left, element_mems, element_nets, nets_left, mems_left, no_nets_left, no_mems_left}
use Rattle.kernel_stages.proofs.Chaining.{chain_end, chain_next}
use Rattle.kernel_stages.proofs.Freeing.{registers_more}
use Rattle.kernel_stages.proofs.starting.start_chain.Goals as goal

pub loop-stage-init : goal.loop-stage-init
loop-stage-init c =
    let m = c.args.netlist.now in
    let stages = c.args.stages.now in
    let none = c.new-chain.ensures in
    record {
      extends = extends_same c.requires.sound;
      climbs = climbs stages c.requires.stages;
      late = λ es h. subst (λ (xs : List Element). IsChain 0 stages (xs ++ es)) (sym none) h;
      wide = subst (λ (xs : List Element). All (λ e. (shown e).width ≡ c.args.width) xs) (sym none) (λ k d lt. absurd (omega arith));
      free = subst (λ (xs : List Element). AreFree m (length m.nets) (length m.mems) xs (length m.nets) (length m.mems)) (sym none) (omega arith, omega arith);
      updates = refl;
      only = λ n h o. h;
      undriven = same_undriven m m refl;
      stored = omega arith;
      nets = refl;
      mems = refl;
    }

pub loop-stage-preserved : goal.loop-stage-preserved
loop-stage-preserved c =
    let l = c.args.netlist.now in
    let m = c.loop-stage.netlist in
    let n = c.start_element.new.netlist in
    let i = c.loop-stage.invariant in
    let k = c.loop-stage.stage-index in
    let stages = c.args.stages.now in
    let chain = c.loop-stage.chain in
    let prior = c.loop-stage.prior in
    let s = get_or stages k 0 in
    let rest = drop (k + 1) stages in
    let e = c.in_ok-start_element.field-0 in
    let x = c.in_ok-start_element.ensures in
    let pushed = c.in_ok-push.ensures.ok in
    let front : drop k stages ≡ s ∷ rest = drop_front stages k 0 c.loop-stage-test.true in
    let up : Climbs prior (s ∷ rest) = subst (Climbs prior) front i.climbs in
    let above = up.0 in
    let near = up.1 in
    let late = x.late in
    let gap : prior + advances_of e ≡ s = omega (arith, above, late) in
    let ring = element_mems n e prior s x.has gap in
    let left = left_from (stored_bits m) (stored_bits l) c.args.width prior stages (drop k stages) s rest front i.stored in
    let bits : stored_bits n ≡ stored_bits m + c.args.width * (s - prior) + place_bits (s - prior) =
    x.stored ∙ ap (λ p. stored_bits m + c.args.width * (s - prior) + p) (lean_bits n e x.has x.lean (omega (arith, near, late)) ∙ ap place_bits late) in
    record {
      extends = extends_on i.extends x.extends;
      climbs = up.2;
      late = λ es h.
          subst (λ (xs : List Element). IsChain 0 stages (xs ++ es)) (sym pushed)
          (chain_next stages chain prior s rest e gap (λ es q. i.late es (subst (λ ss. IsChain prior ss es) (sym front) q)) es h);
      wide =
          subst (λ (xs : List Element). All (λ e. (shown e).width ≡ c.args.width) xs) (sym pushed)
          (all_more (λ e. (shown e).width ≡ c.args.width) chain e i.wide x.wide);
      free =
          subst (λ (xs : List Element). AreFree n (length l.nets) (length l.mems) xs (length n.nets) (length n.mems)) (sym pushed)
          (frees_more n (length l.nets) (length l.mems) chain (length m.nets) (length m.mems) e
          (frees_kept m n x.extends x.updates (length l.nets) (length l.mems) chain (length m.nets) (length m.mems) i.free)
          (let q = x.reg in omega (arith, q)) (new_past (length m.mems) _ x.mem) x.has x.free (length n.nets) (length n.mems)
          (reg_within n e x.has) (mem_within n e (length m.mems) x.has (more_mems x.extends.grows)));
      updates = x.updates ∙ i.updates;
      only = subst (AddsRegistersOf l n) (sym pushed) (registers_more l m n chain e i.only x.only);
      undriven = undriven_on l m n i.extends.grows i.undriven x.undriven;
      stored = bits_left (stored_bits m) (stored_bits n) (stored_bits l) c.args.width prior (s - prior) s (place_bits (s - prior)) (last_from s rest)
          (c.args.width * last_from 0 stages + pointer_bits stages) (sum_by place_bits (differences s rest)) (omega (arith, above)) bits left;
      nets = nets_left (length m.nets) (length n.nets) (length l.nets + (length stages + rings_from 0 stages)) prior s (starting_mems e) (drop k stages)
          rest front ring (let grown = x.nets in let size = element_nets e in omega (arith, grown, size)) i.nets;
      mems = mems_left (length m.mems) (length n.mems) (length l.mems + rings_from 0 stages) prior s (starting_mems e) (drop k stages)
          rest front ring x.mems i.mems;
    }

pub returns : goal.returns
returns c =
    let i = c.loop-stage.invariant in
    let stages = c.args.stages.now in
    let prior = c.loop-stage.prior in
    let rest = drop c.loop-stage.stage-index stages in
    let end : rest ≡ [] = drop_all stages c.loop-stage.stage-index c.loop-stage-test.false in
    record {
      extends = i.extends;
      late = chain_end stages c.loop-stage.chain prior rest end i.late;
      wide = i.wide;
      free = i.free;
      updates = i.updates;
      only = i.only;
      undriven = i.undriven;
      stored = none_left (stored_bits c.loop-stage.netlist) (stored_bits c.args.netlist.now) c.args.width prior stages rest end i.stored;
      nets =
          let total = length c.args.netlist.now.nets + (length stages + rings_from 0 stages) in
          let left = no_nets_left (length c.loop-stage.netlist.nets) total prior rest end i.nets in
          omega (arith, left);
      mems = no_mems_left (length c.loop-stage.netlist.mems) (length c.args.netlist.now.mems + rings_from 0 stages) prior rest end i.mems;
    }
