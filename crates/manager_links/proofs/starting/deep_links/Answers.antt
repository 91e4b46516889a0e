use Rattle.std.proofs.Common.{◌∙◌, ◌<◌, ◌≤◌, [], ◌∷◌, ◌++◌, length, map, take, get_or, ap, sym, subst, arith}
use Rattle.std.specs.Prelude.{All, Some}
use Rattle.std.specs.Option.{option_map}
use Rattle.std.proofs.lemmas.List.{map_more, take-map}
use Rattle.std.proofs.lemmas.List.Elements.{All-push}
use Rattle.std.proofs.lemmas.Option.{slice_get-map, slice_get-get_or}
use Rattle.manager_links.specs.declared.links.Link.{Link}
use Rattle.manager_links.specs.Links.{IsWithinLimit}
use Rattle.manager_links.specs.Waiting.{deep_link}
use Rattle.manager_links.proofs.Waiting.{no_link}
use Rattle.manager_links.proofs.starting.deep_links.Goals as goal

pub loop-number-preserved : goal.loop-number-preserved
loop-number-preserved c =
    let links = c.args.links.now in
    let n = c.loop-number.number in
    let link = get_or links n no_link in
    let deep = deep_link c.args.kernels.now c.args.times.now c.args.starts.now in
    let lt : n < length links = omega (arith, c.loop-number-test.true) in
    let made : Link = record { from = link.from; to = link.to; depth = c.depth_of-words.result } in
    let small : made.depth ≤ 65536 = omega (arith, c.if-words-gt-MOST_WORDS.false) in
    let ok = c.in_ok-push.ensures.ok in
    record {
      links = ok ∙ ap (λ xs. xs ++ made ∷ []) c.loop-number.invariant.links
          ∙ ap (λ words. map deep (take n links) ++ record { from = link.from; to = link.to; depth = words } ∷ []) c.depth_of-words.ensures
          ∙ sym (map_more deep links n no_link lt);
      within = subst (All IsWithinLimit) (sym ok)
          (All-push IsWithinLimit c.loop-number.made made c.loop-number.invariant.within small);
    }

pub returns-then-words-gt-MOST_WORDS-clause-err : goal.returns-then-words-gt-MOST_WORDS-clause-err
returns-then-words-gt-MOST_WORDS-clause-err c =
    let links = c.args.links.now in
    let n = c.loop-number.number in
    let deep = deep_link c.args.kernels.now c.args.times.now c.args.starts.now in
    let lt : n < length links = omega (arith, c.loop-number-test.true) in
    record {
      here = ap (option_map (λ (link : Link). link.depth))
          (slice_get-map deep links n ∙ ap (option_map deep) (slice_get-get_or links n no_link lt))
          ∙ ap Some (sym c.depth_of-words.ensures);
      over = omega (arith, c.if-words-gt-MOST_WORDS.true);
      before = subst (All IsWithinLimit) (c.loop-number.invariant.links ∙ sym (take-map deep n links))
          c.loop-number.invariant.within;
    }
