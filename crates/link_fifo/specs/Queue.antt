-- A queue of a depth, as the ports of a module show it.
use Rattle.std.specs.Prelude.{◌≡◌, ℕ, ◌<◌, List, [], ◌∷◌, ◌++◌, length, drop, slice_index, nat_lt}
use Rattle.std.specs.Prelude.{if◌then◌else◌}
use Rattle.rtl_ir.specs.declared.design.Module.{Module}
use Rattle.rtl_ir.specs.Value.{Family, Contents, bit}
use Rattle.rtl_ir.specs.Edge.{Edges}
use Rattle.rtl_ir.specs.Run.{Channel, moves}
use Rattle.rtl_delays.specs.Delays.{NoReset}

-- the queue after an edge: the first word has left where one moved out, and a word stands at the
-- end where one moved in
abbrev pub queue_after : Channel → Channel → Family → List ℕ → List ℕ
queue_after i o v q =
    (if moves o v then drop 1 q else q) ++ (if moves i v then v i.word ∷ [] else [])

-- one edge of a queue that holds these words: it is ready where there is room, valid where there is
-- a word, and shows the first one
pub record Shown (depth : ℕ) (i o : Channel) (q : List ℕ) (v : Family) : Type 0 where
  pub ready : v i.ready ≡ bit (nat_lt (length q) depth)
  pub valid : v o.valid ≡ bit (nat_lt 0 (length q))
  pub first : 0 < length q → v o.word ≡ slice_index q 0

-- these are the edges, one after another, of a queue that holds these words before them
abbrev pub IsQueue : ℕ → Channel → Channel → List ℕ → List Family → Type 0
IsQueue depth i o q [] = Unit {0}
IsQueue depth i o q (v ∷ vs) = Shown depth i o q v × IsQueue depth i o (queue_after i o v q) vs

-- from any contents, after a reset edge, the module is a queue that begins with no words
abbrev pub IsFifo : Module → ℕ → ℕ → Channel → Channel → Type 0
IsFifo m depth reset i o =
    (c : Contents) (v : Family) (vs : List Family)
    → Edges m c (v ∷ vs)
    → v reset ≡ 1
    → NoReset reset vs
    → IsQueue depth i o [] vs
