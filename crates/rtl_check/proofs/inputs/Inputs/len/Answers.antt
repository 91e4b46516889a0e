use Rattle.std.proofs.Common.{◌∙◌, length, sym, ap}
use Rattle.rtl_check.specs.Inputs.{inputs_of}
use Rattle.rtl_check.proofs.Picked.{places_length}
use Rattle.rtl_check.proofs.inputs.Inputs.len.Goals as goal

pub returns-in-Many : goal.returns-in-Many
returns-in-Many c =
    let inputs = c.in-Many.inputs in
    c.end.ensures ∙ sym (places_length inputs.marks.value inputs.one inputs.end) ∙ ap (λ kept. length (inputs_of kept)) (sym c.in-Many.is) ∙ ap length c.self.view_is
