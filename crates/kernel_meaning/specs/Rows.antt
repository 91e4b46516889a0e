-- What is done with the values of operands, for each row.
use Rattle.std.specs.Prelude.{ℕ, List, ◌∷◌, negsuc}
use Rattle.fix_arith.specs.declared.types.StreamType.TheVariants as T
use Rattle.kernel_meaning.specs.declared.row.Row.{Row}
use Rattle.kernel_meaning.specs.declared.value.Value.{Value}
use Rattle.kernel_meaning.specs.declared.state.State.{State}
use Rattle.kernel_meaning.specs.declared.row.Row.TheVariants as R
use Rattle.kernel_meaning.specs.declared.value.Value.TheVariants as V
use Rattle.kernel_meaning.specs.LibraryRows.{
  new_instance,
  input,
  output,
  scalar,
  constant,
  offset,
  counter,
  make_chain,
  add_counter,
  hold,
  pop,
  connect,
}
use Rattle.kernel_meaning.specs.TypeRows.{width_type, fix_type}
use Rattle.kernel_meaning.specs.Answer.{Outcome}
use Rattle.kernel_meaning.specs.Outcomes.{gives, wrong}
use Rattle.kernel_meaning.specs.SignRows.{minus, complemented, negated, between_two}
use Rattle.kernel_meaning.specs.ArrayRows.{indexed, long, sizes_of, arrays_by}
use Rattle.kernel_meaning.specs.StreamRows.{mux, choose, cast}
use Rattle.kernel_meaning.specs.ManagerRows.{
  stream_from_cpu,
  stream_to_cpu,
  kernel_input,
  kernel_output,
}

-- what is done with the values of operands, for an expression at a place
unfoldable pub row_of : Row → ℕ → List Value → State → Outcome
row_of (R.Gives value) at values state = gives value state
row_of (R.OwnMethod name) at values state = wrong at
row_of (R.Binary sign) at values state = between_two sign at values state
row_of R.Negate at values state = minus at values state
row_of R.Complement at values state = complemented at values state
row_of R.Not at values state = negated at values state
row_of R.LeastInt at values state = gives (V.Int (negsuc 2147483647)) state
row_of R.Element at values state = indexed at values state
row_of R.Length at values state = long at values state
row_of (R.NewArray of) at values state = arrays_by at of (sizes_of values) state
row_of R.UIntType at values state = width_type at T.UInt values state
row_of R.IntType at values state = width_type at T.Int values state
row_of (R.FixType signed) at values state = fix_type at signed values state
row_of R.WrongArguments at values state = wrong at
row_of R.NewInstance at values state = new_instance at values state
row_of R.Cast at values state = cast at values state
row_of R.AddCounter at values state = add_counter at values state
row_of R.Input at values state = input at values state
row_of R.Output at values state = output at values state
row_of R.ScalarInput at values state = scalar at values state
row_of R.ConstantVar at values state = constant at values state
row_of R.Offset at values state = offset at values state
row_of R.Mux at values state = mux at values state
row_of R.Choose at values state = choose at values state
row_of R.SimpleCounter at values state = counter at values state
row_of R.MakeCounterChain at values state = make_chain state
row_of R.StreamHold at values state = hold at values state
row_of (R.PushRounding mode) at values state =
    gives V.Nothing (record state { modes = mode ∷ state.modes })
row_of R.PopRounding at values state = pop at state.modes state
row_of R.Connect at values state = connect at values state
row_of R.StreamFromCpu at values state = stream_from_cpu at values state
row_of R.StreamToCpu at values state = stream_to_cpu at values state
row_of R.KernelInput at values state = kernel_input at values state
row_of R.KernelOutput at values state = kernel_output at values state
