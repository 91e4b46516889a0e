use Rattle.maxj_tokens.proofs.Fronts.{word_taken}
use Rattle.maxj_tokens.proofs.token.word.Goals as goal

pub returns : goal.returns
returns c =
    let s = c.split_front-split in
    word_taken c.args.text.now s.result.front.now s.result.rest.now c.requires.gap c.requires.name s.ensures.joined s.ensures.front s.ensures.rest
