use Rattle.maxj_tokens.proofs.Numbers.{hex_taken, zero_taken, digits_taken}
use Rattle.maxj_tokens.proofs.number.after_plain.Goals as goal

pub returns-in-Some : goal.returns-in-Some
returns-in-Some c = let (w, e, h, o) = c.in-Some.ensures.some in hex_taken c.args.text.now w c.in-Some.rest.now e h o

pub returns-in-Some-after : goal.returns-in-Some-after
returns-in-Some-after c = zero_taken c.args.text.now c.in-Some-after.rest.now c.in-Some-after.ensures.some c.in_default.ensures.none

pub returns-in-None : goal.returns-in-None
returns-in-None c =
    let s = c.split_front in
    digits_taken c.args.text.now s.result.front.now s.result.rest.now c.requires c.in-None.ensures.none s.ensures.joined s.ensures.front s.ensures.rest c.in_default.ensures.none
