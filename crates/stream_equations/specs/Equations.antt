-- The stream equations: for each node of a kernel and each tick of a run a word, or none where it
-- is undefined. They say nothing of hardware.
use Rattle.std.specs.Prelude.{
  ◌≡◌,
  ℕ,
  zero,
  suc,
  ◌<◌,
  Bool,
  true,
  false,
  if◌then◌else◌,
  nat_eq,
  ℤ,
  pos,
  ◌+ℤ◌,
  ◌≤ℤ◌,
  ◌<ℤ◌,
  List,
  [],
  ◌∷◌,
  drop,
  map,
  length,
  slice_get,
  slice_index_or,
  Option,
  Some,
  None,
  option_and_then,
}
use Rattle.mx_bits.specs.declared.op.Op.{Op}
use Rattle.mx_bits.specs.declared.op.Op.TheVariants.{Mux}
use Rattle.fix_arith.specs.declared.types.StreamType.{StreamType}
use Rattle.fix_arith.specs.declared.types.RoundMode.{RoundMode}
use Rattle.fix_arith.specs.Table.{applied}
use Rattle.stream_graph.specs.declared.node.Kind.{Kind}
use Rattle.stream_graph.specs.declared.node.Kind.TheVariants as K
use Rattle.stream_graph.specs.declared.node.Node.{Node}
use Rattle.stream_graph.specs.LookUps.{
  kind_at,
  type_at,
  operands_at,
  operand_at,
  digits_at,
  control_of,
}
use Rattle.counter_chains.specs.Chains.{digit_at, part_at, chain_at}

-- What is given to a run: its ticks, 0 up to below their number; the word of each scalar, by its
-- node; and the words of the source of each input, by its node and from number 0 on, none past
-- their end.
pub record GivenRun : Type 0 where
  pub ticks : ℕ
  pub scalar : ℕ → ℕ
  pub source : ℕ → ℕ → Option ℕ

-- by node and tick
abbrev pub Values : Type 0
Values = ℕ → ℤ → Option ℕ

-- ---- operations

-- all words, where each is defined
abbrev pub all_defined : List (Option ℕ) → Option (List ℕ)
all_defined [] = Some []
all_defined (word ∷ words) =
    option_and_then (λ x. option_and_then (λ xs. Some (x ∷ xs)) (all_defined words)) word

-- the option that a selector numbers, where it is defined
abbrev pub chosen : List (Option ℕ) → ℕ → Option ℕ
chosen options n = option_and_then (λ word. word) (slice_get options n)

-- a multiplexer needs its selector and the chosen option alone, every other operation all operands
abbrev pub operated : Op → RoundMode → List StreamType → List (Option ℕ) → ℕ → StreamType → Option ℕ
operated Mux mode types words amount out =
    option_and_then (chosen (drop 1 words)) (slice_index_or words 0 None)
operated op mode types words amount out =
    option_and_then (λ xs. applied op mode types xs amount out) (all_defined words)

-- ---- controls and stores

-- a word that is 1; an undefined one counts as 0
abbrev pub is_one : Option ℕ → Bool
is_one None = false
is_one (Some x) = nat_eq x 1

abbrev pub enabled_by : Values → Option ℕ → ℕ → Bool
enabled_by val None t = true
enabled_by val (Some control) t = is_one (val control (pos t))

-- a node is enabled in the ticks in which it has no control, or its control is 1
abbrev pub enabled : List Node → Values → ℕ → ℕ → Bool
enabled nodes val n t = enabled_by val (control_of nodes n) t

-- how many ticks before this one pass a test
abbrev pub count_before : (ℕ → Bool) → ℕ → ℕ
count_before test zero = 0
count_before test (suc t) =
    if test t then suc (count_before test t) else count_before test t

-- the word at the last tick up to this one that passes a test, and 0 where none does
abbrev pub held : (ℕ → Bool) → (ℕ → Option ℕ) → ℕ → Option ℕ
held test word zero = if test 0 then word 0 else Some 0
held test word (suc t) = if test (suc t) then word (suc t) else held test word t

-- ---- the equations

-- the first operand's word
abbrev pub first_word : List Node → Values → ℕ → ℤ → Option ℕ
first_word nodes val n t = val (operand_at nodes n 0) t

-- what a node of this kind has at a tick
abbrev pub right_side : List Node → GivenRun → Values → ℕ → ℕ → Kind → Option ℕ
right_side nodes run val n t K.Input =
    if enabled nodes val n t then run.source n (count_before (enabled nodes val n) t) else None
right_side nodes run val n t K.Output = first_word nodes val n (pos t)
right_side nodes run val n t K.Scalar = Some (run.scalar n)
right_side nodes run val n t (K.Constant word) = Some word.bits
right_side nodes run val n t (K.Operation op mode amount) =
    operated op mode (map (type_at nodes) (operands_at nodes n))
    (map (λ operand. val operand (pos t)) (operands_at nodes n)) amount (type_at nodes n)
right_side nodes run val n t (K.Offset ahead) = first_word nodes val n (pos t +ℤ ahead)
right_side nodes run val n t K.Feed = first_word nodes val n (pos t)
right_side nodes run val n t K.Hold =
    held (enabled nodes val n) (λ tick. first_word nodes val n (pos tick)) t
right_side nodes run val n t K.Counter =
    Some (part_at (digits_at nodes n) 0 t)
right_side nodes run val n t K.Chain = Some (chain_at (digits_at nodes n) t)
right_side nodes run val n t (K.Part place) =
    Some (part_at (digits_at nodes (operand_at nodes n 0)) place t)

-- a tick is one of the run
abbrev pub IsInRun : ℕ → ℤ → Type 0
IsInRun ticks t = (pos 0 ≤ℤ t) × (t <ℤ pos ticks)

-- the words of all nodes in a run; outside its ticks they are undefined
pub record StreamEquations (nodes : List Node) (run : GivenRun) (val : Values) : Type 0 where
  pub inside :
      (n t : ℕ)
      → n < length nodes
      → t < run.ticks
      → val n (pos t) ≡ right_side nodes run val n t (kind_at nodes n)
  pub outside : (n : ℕ) (t : ℤ) → (IsInRun run.ticks t → ⊥) → val n t ≡ None
