-- What the equations give single kinds of nodes, without the run.
use Rattle.std.specs.Prelude.{◌≡◌, ℕ, suc, Bool, true, false, pos, List, drop, map, Option, None, option_and_then, slice_index_or}
use Rattle.mx_bits.specs.declared.op.Op.{Op}
use Rattle.mx_bits.specs.declared.op.Op.TheVariants.{Mux}
use Rattle.fix_arith.specs.declared.types.RoundMode.{RoundMode}
use Rattle.fix_arith.specs.Table.{applied}
use Rattle.stream_graph.specs.declared.node.Kind.{Kind}
use Rattle.stream_graph.specs.declared.node.Kind.TheVariants as K
use Rattle.stream_graph.specs.declared.node.Node.{Node}
use Rattle.stream_graph.specs.LookUps.{kind_at, operands_at, operand_at, type_at}
use Rattle.stream_equations.specs.Equations.{GivenRun, Values, count_before, right_side, all_defined, chosen, operated, enabled, held, first_word}
use Rattle.kernel_family.specs.Steps.{keeps}

-- a hold's word
abbrev pub hold_at : List Node → Values → ℕ → ℕ → Option ℕ
hold_at nodes val n t = held (enabled nodes val n) (λ s. first_word nodes val n (pos s)) t

-- the words of the operands of a node
abbrev pub words_at : List Node → Values → ℕ → ℕ → List (Option ℕ)
words_at nodes val n t = map (λ u. val u (pos t)) (operands_at nodes n)

-- the kind is that of a multiplexer
pub record IsMux (kind : Kind) : Type 0 where
  pub mode : RoundMode
  pub amount : ℕ
  pub is : kind ≡ K.Operation Mux mode amount

-- a multiplexer's word
abbrev pub mux_at : List Node → Values → ℕ → ℕ → Option ℕ
mux_at nodes val n t =
    option_and_then (chosen (drop 1 (words_at nodes val n t)))
    (slice_index_or (words_at nodes val n t) 0 None)

-- the word of an operation that needs all operands
abbrev pub applied_at : List Node → Values → ℕ → ℕ → Op → RoundMode → ℕ → Option ℕ
applied_at nodes val n t op mode amount =
    option_and_then
    (λ xs. applied op mode (map (type_at nodes) (operands_at nodes n)) xs amount (type_at nodes n))
    (all_defined (words_at nodes val n t))

-- an operation's word
abbrev pub operated_at : List Node → Values → ℕ → ℕ → Op → RoundMode → ℕ → Option ℕ
operated_at nodes val n t op mode amount =
    operated op mode (map (type_at nodes) (operands_at nodes n)) (words_at nodes val n t) amount
    (type_at nodes n)

-- a part of a chain
abbrev pub is_part : Kind → Bool
is_part (K.Part place) = true
is_part _ = false

-- What a node's word in a tick hangs on is known: of an input how many words were taken before, of a
-- node that keeps something its word in the tick before, and of a part that of its chain.
pub record IsReady (nodes : List Node) (run : GivenRun) (val : Values) (n t taken : ℕ) : Type 0 where
  pub count : kind_at nodes n ≡ K.Input → taken ≡ count_before (enabled nodes val n) t
  pub before :
      (s : ℕ)
      → t ≡ suc s
      → keeps (kind_at nodes n) ≡ true
      → val n (pos s) ≡ right_side nodes run val n s (kind_at nodes n)
  pub chain :
      is_part (kind_at nodes n) ≡ true
      → val (operand_at nodes n 0) (pos t)
      ≡ right_side nodes run val (operand_at nodes n 0) t (kind_at nodes (operand_at nodes n 0))
