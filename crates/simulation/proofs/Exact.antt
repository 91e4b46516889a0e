-- Where a run ends, there is no other answer.
use Rattle.std.proofs.Common.{◌≡◌, ◌-◌, ◌^◌, ◌<◌, ◌≤◌, ℕ, Result, Ok, Err, Some, List, ◌++◌, length, take, refl, ap, subst, arith}
use Rattle.std.specs.Prelude.{IfErr}
use Rattle.mx_base.specs.Files.{Name, Held}
use Rattle.rtl_ir.specs.declared.design.Design.{Design}
use Rattle.rtl_ir.specs.declared.design.Module.{Module}
use Rattle.rtl_ir.specs.Flat.{Families, top_of}
use Rattle.rtl_ir.specs.Ports.{Shape, HasShape, outer_of}
use Rattle.rtl_ir.specs.Rules.{IsAccepted}
use Rattle.rtl_ir.specs.Run.{Outer}
use Rattle.stall_source.specs.Stalls.{Answers, IsDecided}
use Rattle.verilog_sim.specs.Start.{all_cells, filled}
use Rattle.simulation.specs.Inputs.{input_files}
use Rattle.simulation.specs.Runs.{Setup}
use Rattle.simulation.specs.Ends.{End, Ends}
use Rattle.simulation.specs.Errors.{IsEdgeStop}
use Rattle.simulation.specs.Plans.{FitsShape, setup_of}
use Rattle.simulation.specs.Answers.{Tells, IsOrFails}
use Rattle.simulation.specs.declared.plan.Plan.{Plan}
use Rattle.simulation.specs.declared.stop.Outcome.{Outcome}
use Rattle.simulation.specs.declared.stop.Stop.{Stop}
use Rattle.simulation.specs.declared.stop.Stop.TheVariants.{TooManyCells, BadLine, WordRange, ReadFault, WriteFault, NoMemory}
use Rattle.simulation.proofs.Making.{own_cells, formed_top}
use Rattle.simulation.proofs.Once.{one_end}
use Rattle.simulation.proofs.Shaping.{few_ports}

-- an answer that tells of a run, where all runs end in one way
pub exact :
    (stalls : Answers) (s : Setup) (named : List (Name × ℕ)) (now : Held) (r : Result Outcome Stop)
    → ((n : ℕ) → r ≡ Err (TooManyCells n) → ⊥)
    → Tells stalls s named now r
    → (restart : Families) (vs : List Families) (end : End) → Ends stalls s restart vs end
    → ((q : Families) (ws : List Families) (a : End) → Ends stalls s q ws a → end ≡ a)
    → IsOrFails end r
exact stalls s named now (Ok o) few tells restart vs end ends one = one tells.restart tells.vs _ tells.ends
exact stalls s named now (Err (TooManyCells n)) few tells restart vs end ends one = few n refl
exact stalls s named now (Err (BadLine file line)) few tells restart vs end ends one = one tells.restart tells.vs _ tells.ends
exact stalls s named now (Err (WordRange file line)) few tells restart vs end ends one = one tells.restart tells.vs _ tells.ends
exact stalls s named now (Err ReadFault) few tells restart vs end ends one = tt
exact stalls s named now (Err WriteFault) few tells restart vs end ends one = tt
exact stalls s named now (Err NoMemory) few tells restart vs end ends one = tt

-- an edge doesn't stop so
pub not_cells : (r : Result Outcome Stop) → IfErr r IsEdgeStop → (n : ℕ) → r ≡ Err (TooManyCells n) → ⊥
not_cells (Ok o) stops n e = absurd (cc)
not_cells (Err (TooManyCells k)) stops n e = stops
not_cells (Err (BadLine file line)) stops n e = absurd (cc)
not_cells (Err (WordRange file line)) stops n e = absurd (cc)
not_cells (Err ReadFault) stops n e = absurd (cc)
not_cells (Err WriteFault) stops n e = absurd (cc)
not_cells (Err NoMemory) stops n e = absurd (cc)

-- the names of a shape don't matter for a run
pub same_setup : (d : Design) (m : Module) (s t : Shape) (p : Plan) (held : Held) → outer_of s m ≡ outer_of t m → setup_of d m s p held ≡ setup_of d m t p held
same_setup d m s t p held e = ap (λ (o : Outer). record {
  design = d;
  top = m;
  outer = o;
  steady = p.ticks ++ p.scalars;
  contents = filled d m p.fill;
  inputs = input_files held p.inputs;
  pick = p.pick;
  edges = p.edges;
}) e

-- all runs of a plan end in one way, whichever names its shape has
pub one_way :
    (stalls : Answers) → IsDecided stalls
    → (d : Design) (m : Module) (s t : Shape) (p : Plan) (held : Held)
    → IsAccepted d → top_of d ≡ Some m → HasShape m t → FitsShape p t → all_cells d ≤ 2 ^ 26 → p.pick < 2 ^ 64 → p.edges < 2 ^ 64
    → outer_of s m ≡ outer_of t m
    → (r q : Families) (vs ws : List Families) (a b : End)
    → Ends stalls (setup_of d m s p held) r vs a → Ends stalls (setup_of d m s p held) q ws b → a ≡ b
one_way stalls decided d m s t p held accepted top has fits cells pick edges outer r q vs ws a b x y =
    let same = same_setup d m s t p held outer in
    one_end stalls decided d m t p held accepted top has fits pick edges (omega (
      arith,
      few_ports (take (length d.modules - 1) d.modules) m t (formed_top d m accepted top) has
          (own_cells d m accepted top cells),
    )) r q vs ws a b
    (subst (λ (z : Setup). Ends stalls z r vs a) same x) (subst (λ (z : Setup). Ends stalls z q ws b) same y)
