-- Values that were given, of each row that makes nothing.
use Rattle.std.proofs.Common.{◌≡◌, ◌∷◌, refl}
use Rattle.fix_arith.specs.declared.types.StreamType.TheVariants as T
use Rattle.kernel_meaning.specs.declared.row.Row.TheVariants as R
use Rattle.kernel_meaning.specs.declared.value.Value.TheVariants as V
use Rattle.kernel_meaning.specs.ArrayRows
use Rattle.kernel_meaning.specs.LibraryRows
use Rattle.kernel_meaning.specs.ManagerRows
use Rattle.kernel_meaning.specs.Outcomes
use Rattle.kernel_meaning.specs.Rows
use Rattle.kernel_meaning.specs.SignRows
use Rattle.kernel_meaning.specs.TypeRows
use Rattle.kernel_rows.proofs.RowsDone.{row_done, row_err}
use Rattle.kernel_rows.proofs.rows.row_with_room.Goals as goal

pub returns-in-Not-clause-done : goal.returns-in-Not-clause-done
unfolding Rows.row_of
returns-in-Not-clause-done c =
    row_done c.args.row R.Not c.args.at c.args.values.now c.args.state.now c.args.state.now
    (SignRows.negated c.args.at c.args.values.now c.args.state.now)
    c.negated.result c.done.result c.in-Not.is refl c.done.ensures (c.negated.ensures c.args.state.now)

pub returns-in-Element-clause-done : goal.returns-in-Element-clause-done
unfolding Rows.row_of
returns-in-Element-clause-done c =
    row_done c.args.row R.Element c.args.at c.args.values.now c.args.state.now c.args.state.now
    (ArrayRows.indexed c.args.at c.args.values.now c.args.state.now)
    c.element.result c.done-in-Element.result c.in-Element.is refl c.done-in-Element.ensures c.element.ensures

pub returns-in-Length-clause-done : goal.returns-in-Length-clause-done
unfolding Rows.row_of
returns-in-Length-clause-done c =
    row_done c.args.row R.Length c.args.at c.args.values.now c.args.state.now c.args.state.now
    (ArrayRows.long c.args.at c.args.values.now c.args.state.now)
    c.array_length.result c.done-in-Length.result c.in-Length.is refl c.done-in-Length.ensures c.array_length.ensures

pub returns-in-NewArray-clause-done : goal.returns-in-NewArray-clause-done
unfolding Rows.row_of
returns-in-NewArray-clause-done c =
    row_done c.args.row (R.NewArray c.in-NewArray.of) c.args.at c.args.values.now c.args.state.now c.new_arrays.new.state
    (ArrayRows.arrays_by c.args.at c.in-NewArray.of (ArrayRows.sizes_of c.args.values.now) c.args.state.now)
    c.new_arrays.result c.done-in-NewArray.result c.in-NewArray.is refl c.done-in-NewArray.ensures c.new_arrays.ensures.done

pub returns-in-NewArray-clause-err : goal.returns-in-NewArray-clause-err
returns-in-NewArray-clause-err c =
    row_err (c.new_arrays.new.state ≡ c.args.state.now) c.new_arrays.result c.done-in-NewArray.result c.done-in-NewArray.ensures
    c.new_arrays.ensures.err

pub returns-in-UIntType-clause-done : goal.returns-in-UIntType-clause-done
unfolding Rows.row_of
returns-in-UIntType-clause-done c =
    row_done c.args.row R.UIntType c.args.at c.args.values.now c.args.state.now c.args.state.now
    (TypeRows.width_type c.args.at T.UInt c.args.values.now c.args.state.now)
    c.uint_type.result c.done-in-UIntType.result c.in-UIntType.is refl c.done-in-UIntType.ensures (c.uint_type.ensures c.args.state.now)

pub returns-in-IntType-clause-done : goal.returns-in-IntType-clause-done
unfolding Rows.row_of
returns-in-IntType-clause-done c =
    row_done c.args.row R.IntType c.args.at c.args.values.now c.args.state.now c.args.state.now
    (TypeRows.width_type c.args.at T.Int c.args.values.now c.args.state.now)
    c.int_type.result c.done-in-IntType.result c.in-IntType.is refl c.done-in-IntType.ensures (c.int_type.ensures c.args.state.now)

pub returns-in-FixType-clause-done : goal.returns-in-FixType-clause-done
unfolding Rows.row_of
returns-in-FixType-clause-done c =
    row_done c.args.row (R.FixType c.in-FixType.signed) c.args.at c.args.values.now c.args.state.now c.args.state.now
    (TypeRows.fix_type c.args.at c.in-FixType.signed c.args.values.now c.args.state.now)
    c.fix_type.result c.done-in-FixType.result c.in-FixType.is refl c.done-in-FixType.ensures (c.fix_type.ensures c.args.state.now)

pub returns-in-PushRounding-clause-done : goal.returns-in-PushRounding-clause-done
unfolding Rows.row_of
returns-in-PushRounding-clause-done c =
    row_done c.args.row (R.PushRounding c.in-PushRounding.mode) c.args.at c.args.values.now c.args.state.now c.push_rounding.new.state
    (Outcomes.gives V.Nothing (record c.args.state.now { modes = c.in-PushRounding.mode ∷ c.args.state.now.modes }))
    c.push_rounding.result c.done-in-PushRounding.result c.in-PushRounding.is refl c.done-in-PushRounding.ensures c.push_rounding.ensures.done

pub returns-in-PushRounding-clause-err : goal.returns-in-PushRounding-clause-err
returns-in-PushRounding-clause-err c =
    row_err (c.push_rounding.new.state ≡ c.args.state.now) c.push_rounding.result c.done-in-PushRounding.result c.done-in-PushRounding.ensures
    c.push_rounding.ensures.err

pub returns-in-PopRounding-clause-done : goal.returns-in-PopRounding-clause-done
unfolding Rows.row_of
returns-in-PopRounding-clause-done c =
    row_done c.args.row R.PopRounding c.args.at c.args.values.now c.args.state.now c.pop_rounding.new.state
    (LibraryRows.pop c.args.at c.args.state.now.modes c.args.state.now)
    c.pop_rounding.result c.done-in-PopRounding.result c.in-PopRounding.is refl c.done-in-PopRounding.ensures c.pop_rounding.ensures.done

pub returns-in-PopRounding-clause-err : goal.returns-in-PopRounding-clause-err
returns-in-PopRounding-clause-err c =
    row_err (c.pop_rounding.new.state ≡ c.args.state.now) c.pop_rounding.result c.done-in-PopRounding.result c.done-in-PopRounding.ensures
    c.pop_rounding.ensures.err

pub returns-in-StreamFromCpu-clause-done : goal.returns-in-StreamFromCpu-clause-done
unfolding Rows.row_of
returns-in-StreamFromCpu-clause-done c =
    row_done c.args.row R.StreamFromCpu c.args.at c.args.values.now c.args.state.now c.stream_from_cpu.new.state
    (ManagerRows.stream_from_cpu c.args.at c.args.values.now c.args.state.now)
    c.stream_from_cpu.result c.done-in-StreamFromCpu.result c.in-StreamFromCpu.is refl c.done-in-StreamFromCpu.ensures c.stream_from_cpu.ensures.done

pub returns-in-StreamFromCpu-clause-err : goal.returns-in-StreamFromCpu-clause-err
returns-in-StreamFromCpu-clause-err c =
    row_err (c.stream_from_cpu.new.state ≡ c.args.state.now) c.stream_from_cpu.result c.done-in-StreamFromCpu.result c.done-in-StreamFromCpu.ensures
    c.stream_from_cpu.ensures.err

pub returns-in-StreamToCpu-clause-done : goal.returns-in-StreamToCpu-clause-done
unfolding Rows.row_of
returns-in-StreamToCpu-clause-done c =
    row_done c.args.row R.StreamToCpu c.args.at c.args.values.now c.args.state.now c.stream_to_cpu.new.state
    (ManagerRows.stream_to_cpu c.args.at c.args.values.now c.args.state.now)
    c.stream_to_cpu.result c.done-in-StreamToCpu.result c.in-StreamToCpu.is refl c.done-in-StreamToCpu.ensures c.stream_to_cpu.ensures.done

pub returns-in-StreamToCpu-clause-err : goal.returns-in-StreamToCpu-clause-err
returns-in-StreamToCpu-clause-err c =
    row_err (c.stream_to_cpu.new.state ≡ c.args.state.now) c.stream_to_cpu.result c.done-in-StreamToCpu.result c.done-in-StreamToCpu.ensures
    c.stream_to_cpu.ensures.err

pub returns-in-KernelInput-clause-done : goal.returns-in-KernelInput-clause-done
unfolding Rows.row_of
returns-in-KernelInput-clause-done c =
    row_done c.args.row R.KernelInput c.args.at c.args.values.now c.args.state.now c.args.state.now
    (ManagerRows.kernel_input c.args.at c.args.values.now c.args.state.now)
    c.kernel_input.result c.done-in-KernelInput.result c.in-KernelInput.is refl c.done-in-KernelInput.ensures (c.kernel_input.ensures c.args.state.now)

pub returns-clause-done : goal.returns-clause-done
unfolding Rows.row_of
returns-clause-done c =
    row_done c.args.row R.KernelOutput c.args.at c.args.values.now c.args.state.now c.args.state.now
    (ManagerRows.kernel_output c.args.at c.args.values.now c.args.state.now)
    c.kernel_output.result c.done-in-KernelOutput.result c.in-KernelOutput.is refl c.done-in-KernelOutput.ensures (c.kernel_output.ensures c.args.state.now)
