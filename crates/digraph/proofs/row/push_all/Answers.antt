use Rattle.std.proofs.Common.{◌≡◌, ◌+◌, ◌∷◌, ◌++◌, ◌∙◌, [], take, sym, ap}
use Rattle.std.proofs.lemmas.List.{append_assoc, take_more}
use Rattle.std.proofs.lemmas.Option.{slice_get_within, get_or_from_slice_get}
use Rattle.digraph.proofs.row.push_all.Goals as goal

pub loop-place-preserved : goal.loop-place-preserved
loop-place-preserved g c =
    let row = c.args.row.now in let place = c.loop-place.place in let x = c.at.result in let before = c.args.list.now in
    let more : take (place + 1) row ≡ take place row ++ x ∷ [] =
    take_more row place x (slice_get_within row place x c.at.ensures) ∙ ap (λ y. take place row ++ y ∷ []) (get_or_from_slice_get row place x x c.at.ensures) in
    c.in_ok-push.ensures.ok ∙ ap (λ l. l ++ x ∷ []) c.loop-place.invariant ∙ append_assoc before (take place row) (x ∷ []) ∙ ap (λ l. before ++ l) (sym more)
