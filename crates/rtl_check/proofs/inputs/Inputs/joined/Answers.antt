use Rattle.std.proofs.Common.{◌≡◌, ◌∙◌, ◌<◌, ℕ, List, length, get_or, Some, sym, ap, subst, arith}
use Rattle.std.specs.Prelude.{slice_get}
use Rattle.std.proofs.lemmas.Option.{slice_get-get_or}
use Rattle.rtl_check.specs.Picked.{picked_places}
use Rattle.rtl_check.specs.Inputs.{inputs_of}
use Rattle.rtl_check.specs.Paths.{AreJoined}
use Rattle.rtl_check.proofs.Picked.{marked_place, picked_joined}
use Rattle.rtl_check.proofs.inputs.Inputs.joined.Goals as goal

pub joined-requires : goal.joined-requires
joined-requires c =
    let inputs = c.in-Many.inputs in let i = c.args.instance.now in let words = inputs.marks.value in
    let are : picked_places words inputs.one inputs.end ≡ c.args.self.now = ap inputs_of (sym c.in-Many.is) ∙ c.self.view_is in
    let port = marked_place words inputs.one inputs.end inputs.one inputs.within inputs.is_marked in
    let lt = c.requires.within inputs.one inputs.one (ap (λ (l : List ℕ). slice_get l inputs.one) (sym are) ∙ port) in
    omega (arith, lt, ap length c.requires.nets)

pub returns-in_ok-joined-in-Many : goal.returns-in_ok-joined-in-Many
returns-in_ok-joined-in-Many c =
    let inputs = c.in-Many.inputs in let i = c.args.instance.now in let words = inputs.marks.value in let nets = c.args.nets.now.value in
    let are : picked_places words inputs.one inputs.end ≡ c.args.self.now = ap inputs_of (sym c.in-Many.is) ∙ c.self.view_is in
    let within : (n p : ℕ) → slice_get (picked_places words inputs.one inputs.end) n ≡ Some p
    → p < length i.nets = λ n p is. c.requires.within n p
    (ap (λ (l : List ℕ). slice_get l n) (sym are) ∙ is) in
    let port = marked_place words inputs.one inputs.end inputs.one inputs.within inputs.is_marked in
    let one = get_or nets inputs.one 0 in
    let at : slice_get nets inputs.one ≡ Some one = slice_get-get_or nets inputs.one 0 (omega (arith, within inputs.one inputs.one port, ap length c.requires.nets)) in
    let joined = picked_joined i words nets inputs.one one inputs.end c.requires.nets c.requires.small within at in
    subst (λ (l : List ℕ). AreJoined i l (length l) c.in_ok-joined-in-Many.field-0) are
    (subst (AreJoined i (picked_places words inputs.one inputs.end)
    (length (picked_places words inputs.one inputs.end)))
    (sym (c.in_ok-joined-in-Many.ensures one at)) joined)
