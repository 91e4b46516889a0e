-- What a plan gives without operands is sound.
use Rattle.std.proofs.Common.{
  ◌≡◌,
  ◌≤◌,
  refl,
  ℕ,
  ◌==◌,
  ◌++◌,
  List,
  true,
  false,
  Ok,
  Err,
  Some,
  None,
  arith,
  pos,
  length,
}
use Rattle.std.specs.Prelude.{Option, Bool, Result, codes, if◌then◌else◌, nat_le, nat_lt, ◌||◌}
use Rattle.std.specs.Str.{bytes_eq}
use Rattle.std.specs.List.{list_any}
use Rattle.std.proofs.lemmas.Bool.Decides.{nat_tests}
use Rattle.maxj_tokens.specs.Tokens.{is_suffix}
use Rattle.maxj_tokens.specs.Faults.{integer_value}
use Rattle.fix_arith.specs.declared.types.StreamType.TheVariants as T
use Rattle.maxj_syntax.specs.declared.tree.NodeKind.{NodeKind}
use Rattle.maxj_syntax.specs.declared.tree.NodeKind.TheVariants as N
use Rattle.maxj_syntax.specs.Tree.{Tree, Trees, Nil, Cons}
use Rattle.kernel_meaning.specs.declared.value.Declared.{Declared}
use Rattle.kernel_meaning.specs.declared.value.Value.{Value}
use Rattle.kernel_meaning.specs.declared.value.Value.TheVariants as V
use Rattle.kernel_meaning.specs.declared.value.Spot.TheVariants.{Variable}
use Rattle.kernel_meaning.specs.declared.state.Binding.{Binding}
use Rattle.kernel_meaning.specs.declared.state.State.{State}
use Rattle.kernel_meaning.specs.declared.error.EvalError.TheVariants as E
use Rattle.kernel_meaning.specs.declared.row.Row.{Row}
use Rattle.kernel_meaning.specs.declared.row.Row.TheVariants as R
use Rattle.kernel_meaning.specs.declared.row.Sign.{Sign}
use Rattle.kernel_meaning.specs.Values.{declared_by, whole_of, quoted}
use Rattle.kernel_meaning.specs.Names.{variable, path_of, root_word, root_place, is_root}
use Rattle.kernel_meaning.specs.Arrays.{value_of}
use Rattle.kernel_meaning.specs.Plans.{
  Library,
  OfKernel,
  OfManager,
  Scope,
  is_new,
  is_this_part,
  AddsKernel,
  added_plan,
  manager_plan,
  named_plan,
  stream_method_plan,
  block_method_plan,
  path_plan,
  OperandPlan,
  Fault,
  Reads,
  takes,
  unknown,
  plan_of,
  number_of_trees,
  binary_plan,
  prefix_row,
  is_least,
  value_plan,
  read_plan,
  array_plan,
  text_plan,
  part,
  path_at,
  fix_plan,
  push_plan,
  type_plan,
  call_plan,
  library_plan,
  feed_plan,
  method_plan,
  dotted_plan,
}
use Rattle.kernel_meaning.specs.Signs.{sign_of}
use Rattle.kernel_meaning.proofs.Kept.{History, IsHeld, IsTold, Sound}
use Rattle.kernel_meaning.proofs.Later.{Later, sound_later}
use Rattle.kernel_meaning.proofs.Ways.{content_sound}

abbrev pub RowSound : {library : Library} → History library → Row → Type 0
RowSound so_far (R.Gives value) = IsHeld so_far value
RowSound so_far _ = Unit {0}

abbrev pub PlanSound : {library : Library} → History library → OperandPlan → Type 0
PlanSound so_far (Fault e) = IsTold e
PlanSound so_far (Reads row from count) = RowSound so_far row
PlanSound so_far AddsKernel = Unit {0}

pub record PlanOk {library : Library} (so_far : History library) (plan : OperandPlan) : Type 0 where
  pub sound : PlanSound so_far plan

pub row_later : {library : Library} (so_far later : History library) (row : Row)
    → Later so_far later → RowSound so_far row
    → RowSound later row
row_later so_far later (R.Gives value) l h = sound_later so_far later value l h
row_later so_far later _ l h = tt

module _ {own : Library} (so_far : History own) where
  either : (b : Bool) (x y : OperandPlan) → PlanOk so_far x → PlanOk so_far y
      → PlanOk so_far (if b then x else y)
  either true x y p q = p
  either false x y p q = q

  either_row : (b : Bool) (x y : Row) → RowSound so_far x → RowSound so_far y
      → RowSound so_far (if b then x else y)
  either_row true x y p q = p
  either_row false x y p q = q

  either_value : (b : Bool) (x y : Value) → IsHeld so_far x → IsHeld so_far y
      → IsHeld so_far (if b then x else y)
  either_value true x y p q = p
  either_value false x y p q = q

  prefix_sound : (word : List ℕ) → RowSound so_far (prefix_row word)
  prefix_sound word = either_row (bytes_eq word (codes "-")) R.Negate
      (if bytes_eq word (codes "~") then R.Complement else R.Not) tt
      (either_row (bytes_eq word (codes "~")) R.Complement R.Not tt tt)

  whole_sound : (word : List ℕ) → IsHeld so_far (whole_of word)
  whole_sound word =
      either_value (list_any is_suffix word) (V.Literal false (integer_value word) 0)
      (if nat_lt (integer_value word) 2147483648 then V.Int (pos (integer_value word))
      else V.Literal false (integer_value word) 0) tt
      (either_value (nat_lt (integer_value word) 2147483648) (V.Int (pos (integer_value word)))
      (V.Literal false (integer_value word) 0) tt tt)

  taken : (b : Bool) (at : ℕ) (plan : OperandPlan) → PlanOk so_far plan
      → PlanOk so_far (takes b at plan)
  taken true at plan p = p
  taken false at plan p = (record { sound = tt {0} })

  binary_good : (at : ℕ) (sign : Option Sign) → PlanOk so_far (binary_plan at sign)
  binary_good at None = (record { sound = tt {0} })
  binary_good at (Some sign) = (record { sound = tt {0} })

  value_good : (at : ℕ) (value : Value) → IsHeld so_far value → PlanOk so_far (value_plan at value)
  value_good at V.Nothing v = (record { sound = tt {0} })
  value_good at value v = record { sound = v }

  read_good : (at : ℕ) (b : Option Binding) → IsHeld so_far (value_of b)
      → PlanOk so_far (read_plan at b)
  read_good at None v = (record { sound = tt {0} })
  read_good at (Some b) v = value_good at b.value v

  array_good : (of : Result Declared ℕ) (count : ℕ) → PlanOk so_far (array_plan of count)
  array_good (Err at) count = (record { sound = tt {0} })
  array_good (Ok of) count = (record { sound = tt {0} })

  -- strings have at most 64 bytes
  text_good : (text : List ℕ) (at : ℕ) → PlanOk so_far (text_plan text at)
  text_good text at = by_length (nat_le (length text) 64) (λ e. grind (arith, nat_tests))
    where
      by_length : (few : Bool) → (few ≡ true → length text ≤ 64)
          → PlanOk so_far (if few then Reads (R.Gives (V.Str text)) 0 0
          else Fault (E.TextTooLong at))
      by_length true bound = record { sound = bound refl }
      by_length false bound = record { sound = tt {0} }

  fix_good : (path : List ℕ) → PlanOk so_far (fix_plan path)
  fix_good path = either (bytes_eq path (codes "SignMode.TWOSCOMPLEMENT")) _ _
      (record { sound = tt {0} }) (either (bytes_eq path (codes "SignMode.UNSIGNED")) _ _
      (record { sound = tt {0} }) (record { sound = tt {0} }))

  push_good : (path : List ℕ) → PlanOk so_far (push_plan path)
  push_good path = either (bytes_eq path (codes "RoundingMode.TRUNCATE")) _ _
      (record { sound = tt {0} }) (either (bytes_eq path (codes "RoundingMode.TONEAR")) _ _
      (record { sound = tt {0} }) (either (bytes_eq path (codes "RoundingMode.TONEAREVEN")) _ _
      (record { sound = tt {0} }) (record { sound = tt {0} })))

  type_good : (word : List ℕ) (at count : ℕ) (sign : List ℕ)
      → PlanOk so_far (type_plan word at count sign)
  type_good word at count sign =
      either (bytes_eq word (codes "dfeUInt")) _ _
      (taken (count == 1) at (Reads R.UIntType 0 1) (record { sound = tt {0} }))
      (either (bytes_eq word (codes "dfeInt")) _ _
      (taken (count == 1) at (Reads R.IntType 0 1) (record { sound = tt {0} }))
      (either (bytes_eq word (codes "dfeBool")) _ _
      (taken (count == 0) at (Reads (R.Gives (V.«Type» T.Bool)) 0 0)
      (record { sound = (omega arith, omega arith) }))
      (either (bytes_eq word (codes "dfeFix")) _ _
      (taken (count == 3) at (fix_plan sign) (fix_good sign)) (record { sound = tt {0} }))))

  added_good : (adds : Bool) → PlanOk so_far (added_plan adds)
  added_good true = record { sound = tt {0} }
  added_good false = record { sound = tt {0} }

  manager_good : (word : List ℕ) (at count : ℕ) (sign : List ℕ) (adds : Bool)
      → PlanOk so_far (manager_plan word at count sign adds)
  manager_good word at count sign adds =
      either (bytes_eq word (codes "addKernel")) _ _
      (taken (count == 1) at (added_plan adds) (added_good adds))
      (either (bytes_eq word (codes "addStreamFromCPU")) _ _
      (taken (count == 1) at (Reads R.StreamFromCpu 0 1) (record { sound = tt {0} }))
      (either (bytes_eq word (codes "addStreamToCPU")) _ _
      (taken (count == 1) at (Reads R.StreamToCpu 0 1) (record { sound = tt {0} }))
      (type_good word at count sign)))

  named_good : (library : Library) (state : State) (word : List ℕ) (at count : ℕ) (trees : Trees)
      → PlanOk so_far (named_plan library state word at count trees)
  named_good OfKernel state word at count trees =
      type_good word at count (path_at state (part trees 2))
  named_good (OfManager kernels) state word at count trees =
      manager_good word at count (path_at state (part trees 2)) (is_new (part trees 0))

  call_good : (library : Library) (state : State) (word : List ℕ) (at count : ℕ) (trees : Trees)
      (params : Option ℕ) → PlanOk so_far (call_plan library state word at count trees params)
  call_good library state word at count trees (Some params) =
      taken (params == count) at (Reads (R.OwnMethod word) 0 count) (record { sound = tt {0} })
  call_good library state word at count trees None = named_good library state word at count trees

  library_good : (path : List ℕ) (at count : ℕ) (mode : List ℕ)
      → PlanOk so_far (library_plan path at count mode)
  library_good path at count mode =
      either (bytes_eq path (codes "io.input")) _ _
      (taken (count == 2 || count == 3) at (Reads R.Input 1 count) (record { sound = tt {0} }))
      (either (bytes_eq path (codes "io.output")) _ _
      (taken (count == 3 || count == 4) at (Reads R.Output 1 count) (record { sound = tt {0} }))
      (either (bytes_eq path (codes "io.scalarInput")) _ _
      (taken (count == 2) at (Reads R.ScalarInput 1 2) (record { sound = tt {0} }))
      (either (bytes_eq path (codes "constant.var")) _ _
      (taken (count == 2) at (Reads R.ConstantVar 1 2) (record { sound = tt {0} }))
      (either (bytes_eq path (codes "stream.offset")) _ _
      (taken (count == 2) at (Reads R.Offset 1 2) (record { sound = tt {0} }))
      (either (bytes_eq path (codes "control.mux")) _ _
      (taken (nat_lt 0 count) at (Reads R.Mux 1 count) (record { sound = tt {0} }))
      (either (bytes_eq path (codes "control.count.simpleCounter")) _ _
      (taken (count == 1 || count == 2) at (Reads R.SimpleCounter 1 count)
      (record { sound = tt {0} }))
      (either (bytes_eq path (codes "control.count.makeCounterChain")) _ _
      (taken (count == 0) at (Reads R.MakeCounterChain 1 0) (record { sound = tt {0} }))
      (either (bytes_eq path (codes "Reductions.streamHold")) _ _
      (taken (count == 2) at (Reads R.StreamHold 1 2) (record { sound = tt {0} }))
      (either (bytes_eq path (codes "optimization.pushRoundingMode")) _ _
      (taken (count == 1) at (push_plan mode) (push_good mode))
      (either (bytes_eq path (codes "optimization.popRoundingMode")) _ _
      (taken (count == 0) at (Reads R.PopRounding 1 0) (record { sound = tt {0} }))
      (record { sound = tt {0} })))))))))))

  feed_good : (own : Bool) → PlanOk so_far (feed_plan own)
  feed_good true = record { sound = tt {0} }
  feed_good false = record { sound = tt {0} }

  stream_method_good : (word : List ℕ) (at count : ℕ) (own : Bool)
      → PlanOk so_far (stream_method_plan word at count own)
  stream_method_good word at count own = either (bytes_eq word (codes "newInstance")) _ _
      (taken (count == 1) at (feed_plan own) (feed_good own))
      (either (bytes_eq word (codes "cast")) _ _
      (taken (count == 1) at (Reads R.Cast 0 2) (record { sound = tt {0} }))
      (either (bytes_eq word (codes "addCounter")) _ _
      (taken (count == 2) at (Reads R.AddCounter 0 3) (record { sound = tt {0} }))
      (record { sound = tt {0} })))

  block_method_good : (word : List ℕ) (at count : ℕ)
      → PlanOk so_far (block_method_plan word at count)
  block_method_good word at count = either (bytes_eq word (codes "getInput")) _ _
      (taken (count == 1) at (Reads R.KernelInput 0 2) (record { sound = tt {0} }))
      (either (bytes_eq word (codes "getOutput")) _ _
      (taken (count == 1) at (Reads R.KernelOutput 0 2) (record { sound = tt {0} }))
      (record { sound = tt {0} }))

  method_good : (library : Library) (word : List ℕ) (at count : ℕ) (trees : Trees)
      → PlanOk so_far (method_plan library word at count trees)
  method_good OfKernel word at count trees =
      stream_method_good word at count (is_this_part (part trees 1))
  method_good (OfManager kernels) word at count trees = block_method_good word at count

  path_good : (library : Library) (state : State) (path : List ℕ) (at count : ℕ) (trees : Trees)
      → PlanOk so_far (path_plan library state path at count trees)
  path_good OfKernel state path at count trees =
      library_good path at count (path_at state (part trees 1))
  path_good (OfManager kernels) state path at count trees = record { sound = tt {0} }

  dotted_good : (library : Library) (state : State) (word : List ℕ) (at count : ℕ) (base : Tree)
      (trees : Trees) (path : Option (List ℕ))
      → PlanOk so_far (dotted_plan library state word at count base trees path)
  dotted_good library state word at count base trees None =
      method_good library word at count trees
  dotted_good library state word at count base trees (Some path) =
      either (is_root (root_word base))
      (path_plan library state (path ++ codes "." ++ word) at count trees)
      (unknown (root_place base))
      (path_good library state (path ++ codes "." ++ word) at count trees)
      (record { sound = tt {0} })

pub plan_good : (scope : Scope) (state : State) (kind : NodeKind) (word : List ℕ)
    (at : ℕ) (trees : Trees) {own : Library} (so_far : History own) → Sound so_far state
    → PlanOk so_far (plan_of scope state kind word at trees)
unfolding plan_of
plan_good scope state N.Whole word at trees so_far s = record { sound = whole_sound so_far word }
plan_good scope state N.Decimal word at trees so_far s = (record { sound = tt {0} })
plan_good scope state N.Str word at trees so_far s =
    text_good so_far (quoted word) at
plan_good scope state N.Name word at trees so_far s =
    either so_far (bytes_eq word (codes "true")) _ _ (record { sound = tt {0} })
    (either so_far (bytes_eq word (codes "false")) _ _ (record { sound = tt {0} })
    (read_good so_far at (variable word state) (content_sound so_far (Variable word) state s)))
plan_good scope state N.Binary word at trees so_far s = binary_good so_far at (sign_of word)
plan_good scope state N.Prefix word at trees so_far s =
    either so_far (is_least word trees) _ _ (record { sound = tt {0} })
    (record { sound = prefix_sound so_far word })
plan_good scope state N.Dot word at trees so_far s =
    either so_far (bytes_eq word (codes "length")) _ _ (record { sound = tt {0} })
    (record { sound = tt {0} })
plan_good scope state N.DotCall word at (Cons base trees) so_far s =
    dotted_good so_far scope.library state word at (number_of_trees trees) base (Cons base trees)
    (path_of state base)
plan_good scope state N.DotCall word at Nil so_far s = (record { sound = tt {0} })
plan_good scope state N.Call word at trees so_far s =
    call_good so_far scope.library state word at (number_of_trees trees) trees
    (scope.methods word)
plan_good scope state N.Index word at trees so_far s = (record { sound = tt {0} })
plan_good scope state N.New word at trees so_far s = (record { sound = tt {0} })
plan_good scope state N.NewArray word at (Cons of trees) so_far s =
    array_good so_far (declared_by of) (number_of_trees trees)
plan_good scope state N.NewArray word at Nil so_far s = (record { sound = tt {0} })
plan_good scope state N.Connect word at trees so_far s = (record { sound = tt {0} })
plan_good scope state _ word at trees so_far s = (record { sound = tt {0} })
