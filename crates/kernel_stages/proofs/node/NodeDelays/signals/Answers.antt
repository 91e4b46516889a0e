use Rattle.std.proofs.Common.{◌≡◌, ◌++◌, ◌-◌, List, [], ◌∷◌, map, length, Some, sym, ap, ◌∙◌}
use Rattle.std.specs.Prelude.{slice_get}
use Rattle.std.specs.Option.{option_copied}
use Rattle.rtl_build.specs.declared.signal.Signal.{Signal}
use Rattle.rtl_delays.specs.declared.elements.Element.{Element}
use Rattle.rtl_delays.specs.Elements.{shown}
use Rattle.kernel_stages.specs.Chains.{end_of}
use Rattle.kernel_stages.proofs.Ends.{end_is, no_end}
use Rattle.kernel_stages.proofs.node.NodeDelays.signals.Goals as goal
use Rattle.kernel_stages.proofs.node.NodeDelays.signals.Goals.{in-Some+in_ok-push, in_default}

pub loop-wait-init : goal.loop-wait-init
loop-wait-init c =
    let pipeline = c.args.self.now.pipeline in
    let at : slice_get pipeline (length pipeline - 1) ≡ option_copied c.last.result =
    ap (λ (es : List Element). slice_get es (length es - 1)) (sym c.as_slice.ensures) ∙ sym c.last.ensures.value in
    let signals : c.match-last.signals ≡ end_of pipeline = elim c.match-last.branch [
      | in-Some+in_ok-push w ↦ (
          let last = w.in-Some.last.now in
          let is : slice_get pipeline (length pipeline - 1) ≡ Some last = at ∙ ap option_copied w.in-Some.is in
          w.signals-is ∙ w.in_ok-push.ensures.ok
          ∙ ap (λ (l : List Signal). l ++ w.shown.result ∷ []) c.new-signals.ensures
          ∙ ap (λ (s : Signal). s ∷ []) w.shown.ensures ∙ sym (end_is pipeline last is))
      | in_default w ↦ (w.signals-is ∙ c.new-signals.ensures ∙ sym (no_end pipeline (at ∙ ap option_copied w.in_default.is)))
    ] in
    record { told = ap (λ l. l ++ map shown c.as_slice-wait-items.result.now) signals }
