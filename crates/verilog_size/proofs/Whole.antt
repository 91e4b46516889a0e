-- The text of an accepted design is small.
use Rattle.std.proofs.Common.{◌*◌, arith}
use Rattle.verilog_print.specs.Lines.{module_lines}
use Rattle.verilog_size.specs.Names.{module_names}
use Rattle.verilog_size.specs.Sizes.{HasNamesUpTo, size_of, TextsAreSmall, TextsAreSmallByNames}
use Rattle.verilog_size.proofs.Slices.{one_of, sum_few}
use Rattle.verilog_size.proofs.Slots.{few_slots}
use Rattle.verilog_size.proofs.Bytes.{bytes_flat, module_bytes}
use Rattle.verilog_size.proofs.Names.{module_up_to}

-- each module's lines are small, and so are those of all modules
pub texts_small : TextsAreSmall
texts_small d accepted =
    bytes_flat (module_lines d.modules) size_of (module_names d.modules) d.modules 100
    (λ k m e.
    let formed = accepted.formed.each k m e in
    module_bytes m formed d.modules (few_slots {d = d} m formed (accepted.sound k m e)))

-- each module's names are few, and so are those of all modules
pub texts_small_by_names : TextsAreSmallByNames
texts_small_by_names d most accepted all =
    let names = sum_few (module_names d.modules) size_of (5 * most) d.modules
    (λ k m e.
    let formed = accepted.formed.each k m e in
    module_up_to d.modules k most m formed (few_slots {d = d} m formed (accepted.sound k m e)) all
    (one_of (HasNamesUpTo most) d.modules all k m e)) in
    let text = texts_small d accepted in
    omega (arith, names, text)
