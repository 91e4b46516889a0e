-- What a run is driven by, from the outside.
use Rattle.std.specs.Prelude.{◌≡◌, ℕ, ◌<◌, ◌^◌, List, Some, slice_get}
use Rattle.std.specs.List.{All, AllZip}
use Rattle.rtl_ir.specs.Run.{Event}
use Rattle.rtl_ir.specs.Ports.{Shape}

-- the values of the ports that keep one in a run, which are the ticks of each kernel and the scalars; the words that each
-- input has to offer; the events, of one edge each after the reset edge; and the word of an input, by edge and by number, in
-- an edge in which it isn't valid. The reset edge is edge 0
pub record Stimulus : Type 0 where
  pub ticks : List ℕ
  pub scalars : List ℕ
  pub words : List (List ℕ)
  pub events : List Event
  pub idle : ℕ → ℕ → ℕ

-- a module of this shape can be driven so: there is a value for each port, of the port's width
pub record IsFor (s : Shape) (x : Stimulus) : Type 0 where
  pub ticks : AllZip (λ (kernel : List ℕ) (n : ℕ). n < 2 ^ 48) s.kernels x.ticks
  pub scalars : AllZip (λ (scalar : List ℕ × List ℕ × ℕ) (n : ℕ). n < 2 ^ scalar.2) s.scalars x.scalars
  pub words : AllZip (λ (input : List ℕ × ℕ) (words : List ℕ). All (λ w. w < 2 ^ input.1) words) s.inputs x.words
  pub idle : (edge k : ℕ) (input : List ℕ × ℕ) → slice_get s.inputs k ≡ Some input → x.idle edge k < 2 ^ input.1
