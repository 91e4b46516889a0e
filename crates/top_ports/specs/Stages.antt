-- Which ports may come next. A stage is what the ports before say of that.
use Rattle.std.specs.Prelude.{◌≡◌, ℕ, List, [], ◌∷◌, ◌++◌, take, map, Option, Some, None, Bool, true, false, ◌&&◌, if◌then◌else◌, bytes_eq}
use Rattle.rtl_ir.specs.declared.design.Module.{Module}
use Rattle.rtl_ir.specs.Ports.{PortView, port_view, ports_of, kernel_ports}
use Rattle.top_ports.specs.Shapes.{Name}
use Rattle.top_ports.specs.Roles.{RoleView, clock, reset, hold, ticks, scalar, stream, done, port_role}
use Rattle.top_ports.specs.declared.role.Side.{Side}
use Rattle.top_ports.specs.declared.role.Side.TheVariants.{Input, Output}
use Rattle.top_ports.specs.declared.role.Part.TheVariants.{Data, Valid, Ready}
use Rattle.top_ports.specs.declared.stage.Stage.{Stage}
use Rattle.top_ports.specs.declared.stage.Stage.TheVariants as Last

-- what stands last. After a hold and ticks, all kernels so far; after a scalar, its kernel and those behind that
pub data StageView : Type 0 where
  start : StageView
  after_clock : StageView
  after_reset : StageView
  after_hold : List Name → Name → StageView
  after_ticks : List Name → StageView
  after_scalar : List Name → StageView
  after_data : Side → Name → StageView
  after_valid : Side → Name → StageView
  after_ready : Side → StageView
  after_done : StageView

abbrev pub same_side : Side → Side → Bool
same_side Input Input = true
same_side Output Output = true
same_side Input Output = false
same_side Output Input = false

abbrev pub from_start : RoleView → Option StageView
from_start clock = Some after_clock
from_start r = None

abbrev pub from_clock : RoleView → Option StageView
from_clock reset = Some after_reset
from_clock r = None

abbrev pub from_reset : RoleView → Option StageView
from_reset (hold k) = Some (after_hold [] k)
from_reset r = None

abbrev pub from_hold : List Name → Name → RoleView → Option StageView
from_hold ks k (ticks other) = if bytes_eq k other then Some (after_ticks (ks ++ k ∷ [])) else None
from_hold ks k r = None

-- host streams that may follow: inputs and outputs, or outputs alone
abbrev pub from_ready : Side → RoleView → Option StageView
from_ready Input (stream Input Data x) = Some (after_data Input x)
from_ready side (stream Output Data x) = Some (after_data Output x)
from_ready side done = Some after_done
from_ready side r = None

-- the first kernel of this name, and those behind it
abbrev pub from_kernel : List Name → Name → Option StageView
from_kernel [] name = None
from_kernel (k ∷ ks) name = if bytes_eq k name then Some (after_scalar (k ∷ ks)) else from_kernel ks name

abbrev pub from_scalar : List Name → RoleView → Option StageView
from_scalar ks (scalar k a) = from_kernel ks k
from_scalar ks r = from_ready Input r

abbrev pub from_ticks : List Name → RoleView → Option StageView
from_ticks ks (hold k) = Some (after_hold ks k)
from_ticks ks r = from_scalar ks r

abbrev pub from_data : Side → Name → RoleView → Option StageView
from_data side x (stream other Valid y) = if same_side side other && bytes_eq x y then Some (after_valid side x) else None
from_data side x r = None

abbrev pub from_valid : Side → Name → RoleView → Option StageView
from_valid side x (stream other Ready y) = if same_side side other && bytes_eq x y then Some (after_ready side) else None
from_valid side x r = None

abbrev pub next : StageView → RoleView → Option StageView
next start r = from_start r
next after_clock r = from_clock r
next after_reset r = from_reset r
next (after_hold ks k) r = from_hold ks k r
next (after_ticks ks) r = from_ticks ks r
next (after_scalar ks) r = from_scalar ks r
next (after_data side x) r = from_data side x r
next (after_valid side x) r = from_valid side x r
next (after_ready side) r = from_ready side r
next after_done r = None

abbrev pub next_of : StageView → Option RoleView → Option StageView
next_of q None = None
next_of q (Some r) = next q r

-- the stage that these ports lead to
abbrev pub run : Option StageView → List PortView → Option StageView
run q [] = q
run None (p ∷ ps) = None
run (Some q) (p ∷ ps) = run (next_of q (port_role p)) ps

-- what the code keeps of a stage
abbrev pub Sees : Module → Stage → StageView → Type 0
Sees m Last.Start q = q ≡ start
Sees m Last.Clock q = q ≡ after_clock
Sees m Last.Reset q = q ≡ after_reset
Sees m (Last.Hold k) q = (ks : List Name) × (q ≡ after_hold ks k.now)
Sees m Last.Ticks q = (ks : List Name) × (q ≡ after_ticks ks)
Sees m (Last.Scalar kernels) q = (ks : List Name) × (q ≡ after_scalar ks) × (map (port_view m) kernels.now ≡ kernel_ports ks)
Sees m (Last.Data side x) q = q ≡ after_data side x.now
Sees m (Last.Valid side x) q = q ≡ after_valid side x.now
Sees m (Last.Ready side) q = q ≡ after_ready side
Sees m Last.Done q = q ≡ after_done

-- the ports before a place lead to this stage
pub record IsAt (m : Module) (place : ℕ) (stage : Stage) (view : StageView) : Type 0 where
  pub reached : run (Some start) (take place (ports_of m)) ≡ Some view
  pub sees : Sees m stage view

abbrev pub Stands : Module → ℕ → Stage → Type 0
Stands m place stage = (view : StageView) × IsAt m place stage view

-- a stage that follows on another one
pub record Follows (m : Module) (follower : Option StageView) (stage : Stage) : Type 0 where
  pub view : StageView
  pub is : follower ≡ Some view
  pub sees : Sees m stage view
