-- The values that plans give are fit.
use Rattle.std.proofs.Common.{◌≤◌, ◌+◌, ℕ, List, [], ◌∷◌, length, Some, None, true, false, subst, arith}
use Rattle.std.specs.Prelude.{
  Option,
  Bool,
  Result,
  Ok,
  Err,
  if◌then◌else◌,
  ◌||◌,
  ◌==◌,
  ◌++◌,
  codes,
  nat_lt,
  nat_le,
}
use Rattle.std.specs.List.{list_any, after_first, position_or_len}
use Rattle.std.specs.Str.{bytes_eq}
use Rattle.std.proofs.lemmas.List.{length-drop}
use Rattle.maxj_tokens.specs.Tokens.{is_dot, is_suffix}
use Rattle.maxj_tokens.specs.Faults.{integer_value}
use Rattle.maxj_syntax.specs.Tree.{Tree, Trees, Nil, Cons}
use Rattle.maxj_syntax.specs.declared.tree.NodeKind.{NodeKind}
use Rattle.maxj_syntax.specs.declared.tree.NodeKind.TheVariants as N
use Rattle.maxj_syntax.specs.Ranges.{IsInRange}
use Rattle.kernel_meaning.specs.Names.{bound_in, or_else, variable, path_of, is_root, root_word}
use Rattle.kernel_meaning.specs.Plans as Plans
use Rattle.kernel_meaning.specs.Signs.{sign_of}
use Rattle.kernel_meaning.specs.Values.{whole_of, declared_by, quoted}
use Rattle.kernel_meaning.specs.declared.row.Row.{Row}
use Rattle.kernel_meaning.specs.declared.row.Row.TheVariants as R
use Rattle.kernel_meaning.specs.declared.row.Sign.{Sign}
use Rattle.kernel_meaning.specs.declared.state.Binding.{Binding}
use Rattle.kernel_meaning.specs.declared.state.State.{State}
use Rattle.kernel_meaning.specs.declared.value.Declared.{Declared}
use Rattle.kernel_meaning.specs.declared.value.Value.{Value}
use Rattle.kernel_meaning.specs.declared.value.Value.TheVariants as V
use Rattle.kernel_rows.specs.Fit.{IsFit}
use Rattle.kernel_rows.specs.Planned.{IsPlan}
use Rattle.kernel_rows.specs.declared.plan.OperandPlan.{OperandPlan}
use Rattle.kernel_rows.specs.declared.plan.OperandPlan.TheVariants as P
use Rattle.kernel_rows.specs.Kept.{AreBoundFit}
use Rattle.kernel_plans.specs.Forms.{IsFitPlan}

-- a value that is known before is fit
abbrev pub IsFitMeant : Plans.OperandPlan → Type 0
IsFitMeant (Plans.Reads (R.Gives value) from count) = IsFit value
IsFitMeant _ = Unit {0}

fit_row : (row : Row) (from count : ℕ) → IsFitMeant (Plans.Reads row from count)
    → IsFitPlan (P.Reads row from count)
fit_row (R.Gives value) from count h = h
fit_row _ from count h = tt

pub fit_alike : (p : Plans.OperandPlan) (r : OperandPlan) → IsPlan p r → IsFitMeant p → IsFitPlan r
fit_alike p (P.Fault e) e' h = tt
fit_alike p (P.Reads row from count) e h =
    fit_row row from count (subst (λ (x : Plans.OperandPlan). IsFitMeant x) e h)
fit_alike p P.AddsKernel e h = tt

-- the plan gives no value that isn't fit
pub record Fit (plan : Plans.OperandPlan) : Type 0 where
  pub fits : IsFitMeant plan

fit_if : (b : Bool) (p q : Plans.OperandPlan) → Fit p → Fit q → Fit (if b then p else q)
fit_if true p q h k = h
fit_if false p q h k = k

fit_takes : (b : Bool) (at : ℕ) (p : Plans.OperandPlan) → Fit p → Fit (Plans.takes b at p)
fit_takes true at p h = h
fit_takes false at p h = record { fits = tt }

-- the plan is fit, where the number of arguments is right and the name is this one, else by the rest
one_of : (b right : Bool) (at : ℕ) (p q : Plans.OperandPlan) → Fit p → Fit q
    → Fit (if b then Plans.takes right at p else q)
one_of b right at p q h k = fit_if b (Plans.takes right at p) q (fit_takes right at p h) k

fit_value_if : (b : Bool) (v w : Value) → IsFit v → IsFit w → IsFit (if b then v else w)
fit_value_if true v w h k = h
fit_value_if false v w h k = k

fit_whole : (word : List ℕ) → IsFit (whole_of word)
fit_whole word =
    let few : 0 ≤ 30 = omega arith in
    fit_value_if (list_any is_suffix word) _ _ few
    (fit_value_if (nat_lt (integer_value word) 2147483648) _ _ tt few)

few_behind : (word : List ℕ) → length word ≤ 31 → length (after_first is_dot word) ≤ 30
few_behind word h = omega (arith, h, length-drop (position_or_len is_dot word + 1) word)

-- the binding that was found is fit
abbrev pub IsFitFound : Option Binding → Type 0
IsFitFound None = Unit {0}
IsFitFound (Some b) = IsFit b.value

found_if : (test : Bool) (b : Binding) (o : Option Binding) → IsFit b.value → IsFitFound o
    → IsFitFound (if test then Some b else o)
found_if true b o h k = h
found_if false b o h k = k

fit_bound : (name : List ℕ) (bs : List Binding) → AreBoundFit bs → IsFitFound (bound_in name bs)
fit_bound name [] h = tt
fit_bound name (b ∷ bs) h =
    found_if (bytes_eq b.name name) b (bound_in name bs) h.0 (fit_bound name bs h.1)

fit_or_else : (o other : Option Binding) → IsFitFound o → IsFitFound other
    → IsFitFound (or_else o other)
fit_or_else None other h k = k
fit_or_else (Some b) other h k = h

fit_value : (at : ℕ) (value : Value) → IsFit value → Fit (Plans.value_plan at value)
fit_value at V.Nothing h = record { fits = tt }
fit_value at value h = record { fits = h }

fit_read : (at : ℕ) (o : Option Binding) → IsFitFound o → Fit (Plans.read_plan at o)
fit_read at None h = record { fits = tt }
fit_read at (Some b) h = fit_value at b.value h

fit_binary : (at : ℕ) (o : Option Sign) → Fit (Plans.binary_plan at o)
fit_binary at None = record { fits = tt }
fit_binary at (Some sign) = record { fits = tt }

prefix_by : (a b : Bool) → Fit (Plans.Reads (if a then R.Negate else (if b then R.Complement else R.Not)) 0 1)
prefix_by true b = record { fits = tt }
prefix_by false true = record { fits = tt }
prefix_by false false = record { fits = tt }

fit_array : (of : Result Declared ℕ) (count : ℕ) → Fit (Plans.array_plan of count)
fit_array (Err at) count = record { fits = tt }
fit_array (Ok of) count = record { fits = tt }

fit_fix : (path : List ℕ) → Fit (Plans.fix_plan path)
fit_fix path =
    fit_if (bytes_eq path (codes "SignMode.TWOSCOMPLEMENT")) _ _ (record { fits = tt })
    (fit_if (bytes_eq path (codes "SignMode.UNSIGNED")) _ _ (record { fits = tt }) (record { fits = tt }))

fit_push : (path : List ℕ) → Fit (Plans.push_plan path)
fit_push path =
    fit_if (bytes_eq path (codes "RoundingMode.TRUNCATE")) _ _ (record { fits = tt })
    (fit_if (bytes_eq path (codes "RoundingMode.TONEAR")) _ _ (record { fits = tt })
    (fit_if (bytes_eq path (codes "RoundingMode.TONEAREVEN")) _ _ (record { fits = tt }) (record { fits = tt })))

fit_type : (word : List ℕ) (at count : ℕ) (sign : List ℕ) → Fit (Plans.type_plan word at count sign)
fit_type word at count sign =
    one_of (bytes_eq word (codes "dfeUInt")) (count == 1) at _ _ (record { fits = tt })
    (one_of (bytes_eq word (codes "dfeInt")) (count == 1) at _ _ (record { fits = tt })
    (one_of (bytes_eq word (codes "dfeBool")) (count == 0) at _ _ (record { fits = (omega arith, omega arith) })
    (one_of (bytes_eq word (codes "dfeFix")) (count == 3) at _ _ (fit_fix sign)
    (record { fits = tt }))))

fit_added : (adds : Bool) → Fit (Plans.added_plan adds)
fit_added true = record { fits = tt }
fit_added false = record { fits = tt }

fit_manager : (word : List ℕ) (at count : ℕ) (sign : List ℕ) (adds : Bool)
    → Fit (Plans.manager_plan word at count sign adds)
fit_manager word at count sign adds =
    one_of (bytes_eq word (codes "addKernel")) (count == 1) at _ _ (fit_added adds)
    (one_of (bytes_eq word (codes "addStreamFromCPU")) (count == 1) at _ _ (record { fits = tt })
    (one_of (bytes_eq word (codes "addStreamToCPU")) (count == 1) at _ _ (record { fits = tt })
    (fit_type word at count sign)))

fit_named : (library : Plans.Library) (s : State) (word : List ℕ) (at count : ℕ) (trees : Trees)
    → Fit (Plans.named_plan library s word at count trees)
fit_named Plans.OfKernel s word at count trees =
    fit_type word at count (Plans.path_at s (Plans.part trees 2))
fit_named (Plans.OfManager kernels) s word at count trees =
    fit_manager word at count (Plans.path_at s (Plans.part trees 2))
    (Plans.is_new (Plans.part trees 0))

fit_call : (library : Plans.Library) (s : State) (word : List ℕ) (at count : ℕ) (trees : Trees)
    (params : Option ℕ) → Fit (Plans.call_plan library s word at count trees params)
fit_call library s word at count trees (Some params) =
    fit_takes (params == count) at _ (record { fits = tt })
fit_call library s word at count trees None = fit_named library s word at count trees

fit_library : (path : List ℕ) (at count : ℕ) (mode : List ℕ)
    → Fit (Plans.library_plan path at count mode)
fit_library path at count mode =
    one_of (bytes_eq path (codes "io.input")) (count == 2 || count == 3) at _ _ (record { fits = tt })
    (one_of (bytes_eq path (codes "io.output")) (count == 3 || count == 4) at _ _ (record { fits = tt })
    (one_of (bytes_eq path (codes "io.scalarInput")) (count == 2) at _ _ (record { fits = tt })
    (one_of (bytes_eq path (codes "constant.var")) (count == 2) at _ _ (record { fits = tt })
    (one_of (bytes_eq path (codes "stream.offset")) (count == 2) at _ _ (record { fits = tt })
    (one_of (bytes_eq path (codes "control.mux")) (nat_lt 0 count) at _ _ (record { fits = tt })
    (one_of (bytes_eq path (codes "control.count.simpleCounter")) (count == 1 || count == 2) at _ _ (record { fits = tt })
    (one_of (bytes_eq path (codes "control.count.makeCounterChain")) (count == 0) at _ _ (record { fits = tt })
    (one_of (bytes_eq path (codes "Reductions.streamHold")) (count == 2) at _ _ (record { fits = tt })
    (one_of (bytes_eq path (codes "optimization.pushRoundingMode")) (count == 1) at _ _ (fit_push mode)
    (one_of (bytes_eq path (codes "optimization.popRoundingMode")) (count == 0) at _ _ (record { fits = tt })
    (record { fits = tt })))))))))))

fit_feed : (own : Bool) → Fit (Plans.feed_plan own)
fit_feed true = record { fits = tt }
fit_feed false = record { fits = tt }

fit_method : (library : Plans.Library) (word : List ℕ) (at count : ℕ) (trees : Trees)
    → Fit (Plans.method_plan library word at count trees)
fit_method Plans.OfKernel word at count trees =
    one_of (bytes_eq word (codes "newInstance")) (count == 1) at _ _ (fit_feed (Plans.is_this_part (Plans.part trees 1)))
    (one_of (bytes_eq word (codes "cast")) (count == 1) at _ _ (record { fits = tt })
    (one_of (bytes_eq word (codes "addCounter")) (count == 2) at _ _ (record { fits = tt })
    (record { fits = tt })))
fit_method (Plans.OfManager kernels) word at count trees =
    one_of (bytes_eq word (codes "getInput")) (count == 1) at _ _ (record { fits = tt })
    (one_of (bytes_eq word (codes "getOutput")) (count == 1) at _ _ (record { fits = tt })
    (record { fits = tt }))

fit_path : (library : Plans.Library) (s : State) (path : List ℕ) (at count : ℕ) (trees : Trees)
    → Fit (Plans.path_plan library s path at count trees)
fit_path Plans.OfKernel s path at count trees =
    fit_library path at count (Plans.path_at s (Plans.part trees 1))
fit_path (Plans.OfManager kernels) s path at count trees = record { fits = tt }

fit_dotted : (library : Plans.Library) (s : State) (word : List ℕ) (at count : ℕ) (base : Tree)
    (trees : Trees) (path : Option (List ℕ))
    → Fit (Plans.dotted_plan library s word at count base trees path)
fit_dotted library s word at count base trees None = fit_method library word at count trees
fit_dotted library s word at count base trees (Some path) =
    fit_if (is_root (root_word base)) _ _ (fit_path library s (path ++ codes "." ++ word) at count trees)
    (record { fits = tt })

-- each plan is fit, where the variables are and a literal is in range
pub fit_plan : (scope : Plans.Scope) (s : State) (kind : NodeKind) (word : List ℕ) (at : ℕ)
    (trees : Trees) → IsInRange kind word → AreBoundFit s.variables → AreBoundFit s.fields
    → Fit (Plans.plan_of scope s kind word at trees)
unfolding Plans.plan_of
fit_plan scope s N.Whole word at trees w v f = record { fits = fit_whole word }
fit_plan scope s N.Decimal word at trees w v f = record { fits = few_behind word w }
fit_plan scope s N.Str word at trees w v f =
    fit_if (nat_le (length (quoted word)) 64) _ _ (record { fits = tt }) (record { fits = tt })
fit_plan scope s N.Name word at trees w v f =
    fit_if (bytes_eq word (codes "true")) _ _ (record { fits = tt })
    (fit_if (bytes_eq word (codes "false")) _ _ (record { fits = tt })
    (fit_read at (variable word s)
    (fit_or_else (bound_in word s.variables) (bound_in word s.fields)
    (fit_bound word s.variables v) (fit_bound word s.fields f))))
fit_plan scope s N.Binary word at trees w v f = fit_binary at (sign_of word)
fit_plan scope s N.Prefix word at trees w v f =
    fit_if (Plans.is_least word trees) _ _ (record { fits = tt })
    (prefix_by (bytes_eq word (codes "-")) (bytes_eq word (codes "~")))
fit_plan scope s N.Dot word at trees w v f =
    fit_if (bytes_eq word (codes "length")) _ _ (record { fits = tt }) (record { fits = tt })
fit_plan scope s N.DotCall word at Nil w v f = record { fits = tt }
fit_plan scope s N.DotCall word at (Cons base trees) w v f =
    fit_dotted scope.library s word at (Plans.number_of_trees trees) base (Cons base trees) (path_of s base)
fit_plan scope s N.Call word at trees w v f =
    fit_call scope.library s word at (Plans.number_of_trees trees) trees (scope.methods word)
fit_plan scope s N.Index word at trees w v f = record { fits = tt }
fit_plan scope s N.New word at trees w v f = record { fits = tt }
fit_plan scope s N.NewArray word at Nil w v f = record { fits = tt }
fit_plan scope s N.NewArray word at (Cons of trees) w v f = fit_array (declared_by of) (Plans.number_of_trees trees)
fit_plan scope s N.Connect word at trees w v f = record { fits = tt }
fit_plan scope s _ word at trees w v f = record { fits = tt }
