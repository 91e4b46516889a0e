-- When a simulator can go on: what its parts have to do with the design.
use Rattle.std.specs.Prelude.{◌≡◌, ℕ, ◌+◌, ◌^◌, ◌<◌, true, Bool, nat_eq, List, length, Some, slice_get, slice_index, slice_index_or}
use Rattle.rtl_ir.specs.declared.design.Design.{Design}
use Rattle.rtl_ir.specs.declared.design.Module.{Module}
use Rattle.rtl_ir.specs.declared.design.Assign.{Assign}
use Rattle.rtl_ir.specs.declared.design.Expr.TheVariants.{Literal}
use Rattle.mx_bits.specs.declared.word.Word.{Word}
use Rattle.rtl_ir.specs.declared.design.Port.{Port}
use Rattle.rtl_ir.specs.declared.design.Update.{Update}
use Rattle.rtl_ir.specs.Value.{width_of, is_reg}
use Rattle.rtl_ir.specs.Edge.{Fits, after_edge}
use Rattle.rtl_ir.specs.Interfaces.{IsInterface, nets_of}
use Rattle.rtl_ir.specs.declared.interface.Interface.{Interface}
use Rattle.rtl_ir.specs.Rules.{IsAccepted}
use Rattle.rtl_ir.specs.Formed.{IsFormedPort}
use Rattle.rtl_ir.specs.Run.{Outer, Channel}
use Rattle.verilog_sim.specs.declared.offer.Offer.{Offer}
use Rattle.verilog_sim.specs.declared.compile.Program.{Program}
use Rattle.verilog_sim.specs.Contents.{family_of, contents_of}
use Rattle.verilog_sim.specs.Compiled.{AreInstructionsOf}
use Rattle.verilog_sim.specs.Batches.{instructions_of_all}
use Rattle.verilog_sim.specs.Runnable.{IsRunnable, IsOrderOf}
use Rattle.verilog_sim.specs.Feeding.{IsFeeding, IsSeen}
use Rattle.verilog_sim.specs.Settled.{AreWords, Settles}
use Rattle.verilog_sim.specs.Updates.{AreNarrow, held_by}
use Rattle.verilog_sim.specs.Gifts.{AreGiven, AreApart}
use Rattle.verilog_sim.specs.Origins.{with_lists, StandFor}
use Rattle.verilog_sim.specs.Flattened.{IsFlat}
use Rattle.verilog_sim.specs.declared.scope.Scope.{Scope}
use Rattle.verilog_sim.specs.Calls.{nothing}

-- a module without instances that can be simulated with the ports of a top module. Its nets need no names
pub record IsSimulable (m : Module) (i : Interface) : Type 0 where
  pub runnable : IsRunnable m
  pub top : Module
  pub is : IsInterface top i
  pub ports : m.ports ≡ top.ports
  pub apart : AreApart m.ports
  pub formed : (k : ℕ) (p : Port) → slice_get m.ports k ≡ Some p → IsFormedPort m p

-- in an order in which the assignments of a module can be evaluated, the instructions of those that feed the nets seen in an edge,
-- and of those that feed one net; and no update writes more than 64 bits where that is told
pub record IsProgramOf (m : Module) (os : List ℕ) (net : ℕ) (p : Program) : Type 0 where
  pub order : List Assign
  pub ordered : IsOrderOf m order
  pub edge : List Assign
  pub sees : IsFeeding order edge (IsSeen m os)
  pub edge_are : AreInstructionsOf m edge (instructions_of_all p.edge.items)
  pub feeding : List Assign
  pub feeds : IsFeeding order feeding (λ n. n ≡ net)
  pub feeding_are : AreInstructionsOf m feeding (instructions_of_all p.feeding.items)
  pub narrow : p.narrow ≡ true → AreNarrow m

-- each net that is assigned a literal has its word
abbrev pub AreConstant : Module → List ℕ → Type 0
AreConstant m values =
    (k : ℕ) (a : Assign) (x : Word)
    → slice_get m.assigns k ≡ Some a
    → a.expr ≡ Literal x
    → slice_index values a.target ≡ x.bits

-- values of their widths at all nets, of literals their words
pub record AreValues (m : Module) (values : List ℕ) (memories : List (List ℕ)) : Type 0 where
  pub words : AreWords m values memories
  pub constant : AreConstant m values

-- words of their widths stand in all registers, memories and nets, and at the ports that keep one value, and the nets of
-- registers and of literals have their words
pub record AreKept
    (m : Module) (i : Interface) (steady held values : List ℕ)
    (memories : List (List ℕ)) : Type 0 where
  pub blocks : length memories ≡ length m.mems
  pub words : AreWords m values memories
  pub held_nets : length held ≡ length m.nets
  pub held_words : (n : ℕ) → is_reg m n ≡ true → slice_index held n < 2 ^ width_of m n
  pub loaded : (n : ℕ) → is_reg m n ≡ true → slice_index values n ≡ slice_index held n
  pub constant : AreConstant m values
  pub steady_ports : length steady ≡ length i.kernels + length i.scalars
  pub steady_words : (k : ℕ) → k < length steady
      → slice_index steady k < 2 ^ width_of m (slice_index (nets_of i).steady k)

-- the values of all nets in an edge: the assignments hold, registers have the values that they hold, and the inputs those
-- that are given
pub record IsEvaluated
    (m : Module) (i : Interface) (reset : Bool) (steady : List ℕ) (offers : List Offer)
    (accepts holds : List Bool)
    (held : List ℕ) (memories : List (List ℕ)) (new : List ℕ) : Type 0 where
  pub words : AreWords m new memories
  pub fits : Fits m (contents_of held memories) (family_of new)
  pub given : AreGiven i reset steady offers accepts holds new

-- the same as far as these assignments give values: the nets had others before, at registers those that they hold, at
-- literals their words and at inputs those that are given
pub record IsEvaluatedBy
    (m : Module) (assigns : List Assign) (i : Interface) (reset : Bool) (steady : List ℕ)
    (offers : List Offer) (accepts holds : List Bool)
    (held : List ℕ) (memories : List (List ℕ)) (new : List ℕ) : Type 0 where
  pub driven : List ℕ
  pub words : AreWords m driven memories
  pub kept : (n : ℕ) → is_reg m n ≡ true → slice_index driven n ≡ slice_index held n
  pub constant : AreConstant m driven
  pub given : AreGiven i reset steady offers accepts holds driven
  pub settles : Settles m assigns memories driven new

-- whether a net is 1 where all nets have their values, of which only some are new. Nothing is held that wasn't before
pub record IsAnswered
    (m : Module) (net : ℕ) (i : Interface) (reset : Bool) (steady : List ℕ) (offers : List Offer)
    (accepts holds : List Bool)
    (held : List ℕ) (memories : List (List ℕ)) (new : List ℕ) (answer : Bool) : Type 0 where
  pub kept : AreKept m i steady held new memories
  pub values : List ℕ
  pub evaluated : IsEvaluated m i reset steady offers accepts holds held memories values
  pub answer_is : answer ≡ nat_eq (slice_index values net) 1

-- the words that are offered have the widths of their ports
abbrev pub AreOffered : Module → Outer → List Offer → Type 0
AreOffered m o offers =
    (k : ℕ) (c : Channel)
    → slice_get o.inputs k ≡ Some c
    → (slice_index_or offers k nothing).word < 2 ^ width_of m c.word

-- all is there for an edge of a module with these updates
pub record IsReady
    (m : Module) (updates : List Update) (i : Interface) (steady : List ℕ) (offers : List Offer)
    (held values : List ℕ) (memories : List (List ℕ)) : Type 0 where
  pub simulable : IsSimulable m i
  pub updates_are : updates ≡ m.updates
  pub kept : AreKept m i steady held values memories
  pub offered : AreOffered m (nets_of i) offers

-- the updates and the program of a module that does the same as this one, the origins of its nets, and what stands before the
-- first call of its simulator
pub record IsPrepared
    (m : Module) (i : Interface) (p : Program) (updates : List Update) (os : List ℕ)
    (steady ahead values : List ℕ) (memories : List (List ℕ)) : Type 0 where
  pub assigns : List Assign
  pub stand : StandFor m os assigns updates
  pub program : IsProgramOf (with_lists m assigns updates) os i.done p
  pub kept : AreKept (with_lists m assigns updates) i steady (held_by updates ahead) ahead memories
  pub first : AreValues (with_lists m assigns updates) values memories

-- a simulator between two calls: it has the updates, and the instructions of the assignments, of a module that does the same as the
-- flat module of an accepted design, and the origins of its nets. What registers hold stands ahead, and the values of the last
-- edge apart
pub record Simulates
    (d : Design) (i : Interface) (p : Program) (updates : List Update) (scopes : List Scope)
    (os steady ahead values : List ℕ) (memories : List (List ℕ)) : Type 0 where
  pub accepted : IsAccepted d
  pub flat : Module
  pub is_flat : IsFlat d scopes flat
  pub assigns : List Assign
  pub stand : StandFor flat os assigns updates
  pub simulable : IsSimulable (with_lists flat assigns updates) i
  pub program : IsProgramOf (with_lists flat assigns updates) os i.done p
  pub has : IsInterface is_flat.top i
  pub kept : AreKept (with_lists flat assigns updates) i steady (held_by updates ahead) ahead memories
  pub last : AreValues (with_lists flat assigns updates) values memories

-- one edge: the values of all nets in it, which those that are seen still have, and what registers and memories hold after it
pub record IsStepped
    (m : Module) (os : List ℕ) (i : Interface) (reset : Bool) (steady : List ℕ) (offers : List Offer)
    (accepts holds : List Bool)
    (held : List ℕ) (memories : List (List ℕ)) (new later : List ℕ)
    (words : List (List ℕ)) : Type 0 where
  pub values : List ℕ
  pub evaluated : IsEvaluated m i reset steady offers accepts holds held memories values
  pub seen : (n : ℕ) → IsSeen m os n → slice_index new n ≡ slice_index values n
  pub after : contents_of later words ≡ after_edge m (contents_of held memories) (family_of values)
