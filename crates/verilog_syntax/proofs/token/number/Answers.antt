use Rattle.std.proofs.Common.{◌-◌, ◌++◌, length, take, sym, ap, ◌∙◌, append_assoc, ◌∷◌}
use Rattle.text_scan.proofs.Fronts.{front_is}
use Rattle.verilog_syntax.proofs.Signs.{number_taken, literal_taken}
use Rattle.verilog_syntax.proofs.token.number.Goals as goal

pub returns-in-None : goal.returns-in-None
returns-in-None c =
    let d = c.split_front-digits in
    number_taken c.args.text.now d.result.front.now d.result.rest.now c.requires.gap c.requires.number d.ensures.joined d.ensures.front d.ensures.rest c.in-None.ensures.none

pub returns-in-Some : goal.returns-in-Some
returns-in-Some c =
    let d = c.split_front-digits in
    let (hs, e, h, o) = c.in-Some.ensures.some in
    let whole = d.ensures.joined ∙ ap (λ l. d.result.front.now ++ l) e ∙ sym (append_assoc d.result.front.now (39 ∷ hs) c.in-Some.rest.now) in
    literal_taken c.args.text.now d.result.front.now d.result.rest.now hs c.in-Some.rest.now c.requires.gap c.requires.number d.ensures.joined d.ensures.front d.ensures.rest e h o
    (take (length c.args.text.now - length c.in-Some.rest.now) c.args.text.now)
    (whole ∙ ap (λ l. l ++ c.in-Some.rest.now) (sym (front_is c.args.text.now (d.result.front.now ++ 39 ∷ hs) c.in-Some.rest.now whole)))
