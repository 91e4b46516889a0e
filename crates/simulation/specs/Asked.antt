-- What a pattern of stalls says of an edge. The ports are numbered: inputs first, then outputs, then kernels.
use Rattle.std.specs.Prelude.{ℕ, ◌+◌, ◌<◌, not, List, [], ◌∷◌, length}
use Rattle.rtl_ir.specs.Run.{Outer, Event}
use Rattle.stall_source.specs.Stalls.{Answers}

-- in the edge after so many others an input offers and an output accepts exactly where it doesn't stall, and a kernel is
-- held exactly where it stalls
pub record IsAsked (stalls : Answers) (pick edge : ℕ) (o : Outer) (e : Event) : Type 0 where
  pub offers : (k : ℕ) → k < length o.inputs → stalls pick edge k (not (e.offers k))
  pub accepts : (k : ℕ) → k < length o.outputs → stalls pick edge (length o.inputs + k) (not (e.accepts k))
  pub held : (k : ℕ) → k < length o.holds → stalls pick edge (length o.inputs + length o.outputs + k) (e.held k)

-- edge after edge, from the one after so many others on
abbrev pub AreAsked : Answers → ℕ → ℕ → Outer → List Event → Type 0
AreAsked stalls pick edge o [] = Unit {0}
AreAsked stalls pick edge o (e ∷ es) = IsAsked stalls pick edge o e × AreAsked stalls pick (edge + 1) o es
