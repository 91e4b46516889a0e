use Rattle.std.proofs.Common.{◌≡◌, ◌∙◌, ◌<◌, ◌++◌, [], ℕ, List, Option, length, append_assoc, ap, sym}
use Rattle.std.specs.Fmt.{decimal}
use Rattle.std.specs.Option.{option_map_or}
use Rattle.std.specs.Prelude.{codes}
use Rattle.std.specs.String.{string_bytes}
use Rattle.manager_links.proofs.Pieces.{get_read}
use Rattle.stream_graph.specs.declared.kernel.Kernel.{Kernel}
use Rattle.maxjc_core.specs.ExpectLines.{guarded_line, name_at}
use Rattle.maxjc_core.proofs.SaidLines.{three_more}
use Rattle.maxjc_core.proofs.expect_lines.add_guarded.Goals as goal

five_flat : (x a b c d e : List ℕ) → x ++ (a ++ (b ++ (c ++ (d ++ e)))) ≡ x ++ a ++ b ++ c ++ d ++ e
five_flat x a b c d e =
    sym (append_assoc x a (b ++ (c ++ (d ++ e)))) ∙ sym (append_assoc (x ++ a) b (c ++ (d ++ e)))
    ∙ sym (append_assoc (x ++ a ++ b) c (d ++ e)) ∙ sym (append_assoc (x ++ a ++ b ++ c) d e)

pub returns : goal.returns
returns c =
    let lines = c.args.lines.now.items in
    let kernels = c.args.kernels.now in
    let place = c.in-Some.place in
    let within : place.kernel < length kernels = rw c.in-Some.is at c.requires in
    let kernel = c.index-kernels-place.result in
    let front = codes "unguarded kernel " in
    let name_is : c.name.result.now ≡ name_at kernels place.kernel =
    c.name.ensures
    ∙ ap (λ (o : Option Kernel). option_map_or (λ (k : Kernel). k.name) o [])
    (sym (get_read kernels place.kernel kernel within c.index-kernels-place.is)) in
    let rest_is : string_bytes c.in_ok-format.field-0
    ≡ codes " node " ++ (decimal place.node ++ (codes " tick " ++ (decimal place.tick ++ codes "\n"))) =
    c.in_ok-format.ensures.ok in
    three_more lines front c.name.result.now c.as_bytes.result.now _ _ _
    c.in_ok-extend_from_slice-2.ensures.items c.in_ok-extend_from_slice-3.ensures.items
    c.in_ok-extend_from_slice-4.ensures.items
    ∙ ap (λ n. lines ++ (front ++ n ++ c.as_bytes.result.now)) name_is
    ∙ ap (λ t. lines ++ (front ++ name_at kernels place.kernel ++ t))
    (c.as_bytes.ensures.value ∙ rest_is)
    ∙ ap (λ line. lines ++ line)
    (five_flat (front ++ name_at kernels place.kernel) (codes " node ") (decimal place.node)
    (codes " tick ") (decimal place.tick) (codes "\n")
    ∙ ap (guarded_line kernels) (sym c.in-Some.is))
