use Rattle.std.proofs.Common.{◌≡◌, ◌∙◌, ◌≤◌, ◌<◌, ◌++◌, ◌∷◌, [], length, map, take, ap, sym, subst, arith}
use Rattle.std.specs.Prelude.{Some, slice_get}
use Rattle.std.proofs.lemmas.List.{take_all}
use Rattle.manager_links.specs.Numbers.{Knows}
use Rattle.manager_links.specs.Terminals.{ToCpu}
use Rattle.manager_links.proofs.Pieces.{get_read, map_step}
use Rattle.manager_links.proofs.terminals.Terminals.add_to_cpu.Goals as goal

pub loop-place-preserved : goal.loop-place-preserved
loop-place-preserved c = λ plan kernels ends same known.
    let names = c.args.names.now in
    let place = c.loop-place.place in
    let name = c.index-names-place.result in
    let lt : place < length names = omega (arith, c.loop-place-test.true) in
    let now = c.loop-place.invariant plan kernels ends same known in
    let is : slice_get plan.to_cpu place ≡ Some c.as_bytes.result.now =
    subst (λ xs. slice_get xs place ≡ Some c.as_bytes.result.now) same
    (get_read names place name lt c.index-names-place.is ∙ ap Some (sym c.as_bytes.ensures)) in
    subst (λ xs. Knows plan kernels xs c.add_left.new.self)
    (ap (λ n. (ends ++ map ToCpu (take place names)) ++ ToCpu n ∷ []) c.as_bytes.ensures
    ∙ map_step ToCpu ends names place name lt c.index-names-place.is)
    (c.in_ok-add_left.ensures plan kernels _ is now)

pub returns : goal.returns
returns c = λ plan kernels ends same known.
    let end : length c.args.names.now ≤ c.loop-place.place = omega (arith, c.loop-place-test.false) in
    subst (λ xs. Knows plan kernels (ends ++ map ToCpu xs) c.loop-place.self) (take_all _ _ end)
    (c.loop-place.invariant plan kernels ends same known)
