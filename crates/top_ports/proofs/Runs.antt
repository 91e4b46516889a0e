-- Stages that ports lead to, one port after another.
use Rattle.std.proofs.Common.{◌≡◌, ◌∙◌, ℕ, Bool, true, ◌&&◌, List, [], ◌∷◌, ◌++◌, Option, Some, None, refl, sym, ap}
use Rattle.std.specs.Prelude.{codes}
use Rattle.std.specs.Str.{bytes_eq}
use Rattle.std.proofs.lemmas.Bool.{and_from, cond-true}
use Rattle.rtl_ir.specs.Ports.{PortView, output_port, is_plain_name}
use Rattle.top_ports.specs.Shapes.{Name}
use Rattle.top_ports.specs.Roles.{RoleView, clock, reset, hold, ticks, stream, is_output, is_width, port_role}
use Rattle.top_ports.proofs.Roles.{role_name, is_plain_role, HasRole}
use Rattle.top_ports.specs.Stages.{StageView, start, after_clock, after_reset, after_hold, after_ticks, after_scalar, after_data, after_valid, after_ready, after_done, same_side, next, next_of, run}
use Rattle.top_ports.specs.declared.role.Side.{Side}
use Rattle.top_ports.specs.declared.role.Side.TheVariants.{Input, Output}
use Rattle.top_ports.specs.declared.role.Part.TheVariants.{Data, Valid, Ready}
use Rattle.top_ports.proofs.CutLemmas.{bytes_refl}
use Rattle.top_ports.proofs.RoleLemmas.{role_found}

-- the port with a role and a width
abbrev pub port_of : RoleView → ℕ → PortView
port_of r width = record { name = role_name r; width = width; output = is_output r }

pub port_is : (p : PortView) (r : RoleView) → HasRole p r → p ≡ port_of r p.width
port_is p r h =
    let f = λ (n : Name). let v : PortView = record { name = n; width = p.width; output = p.output } in v in
    let g = λ (o : Bool). let v : PortView = record { name = role_name r; width = p.width; output = o } in v in
    ap f h.name ∙ ap g h.output

pub port_wide : (p : PortView) (r : RoleView) (width : ℕ) → HasRole p r → p.width ≡ width → p ≡ port_of r width
port_wide p r width h e = port_is p r h ∙ ap (port_of r) e

pub role_of_port : (r : RoleView) (width : ℕ) → is_plain_role r ≡ true → is_width r width ≡ true → HasRole (port_of r width) r
role_of_port r width h w = record { plain = h; name = refl; width = w; output = refl }

pub run_none : (ps : List PortView) → run None ps ≡ None
run_none [] = refl
run_none (p ∷ ps) = refl

pub run_append : (q : Option StageView) (ps rest : List PortView) → run q (ps ++ rest) ≡ run (run q ps) rest
run_append q [] rest = refl
run_append None (p ∷ ps) rest = sym (run_none rest)
run_append (Some q) (p ∷ ps) rest = run_append (next_of q (port_role p)) ps rest

-- one port
pub step : (q : StageView) (p : PortView) (r : RoleView) (o : Option StageView) (ps : List PortView) → HasRole p r → next q r ≡ o → run (Some q) (p ∷ ps) ≡ run o ps
step q p r o ps h e = ap (λ (x : Option RoleView). run (next_of q x) ps) (role_found p r h) ∙ ap (λ (x : Option StageView). run x ps) e

pub same_side_refl : (side : Side) → same_side side side ≡ true
same_side_refl Input = refl
same_side_refl Output = refl

ticks_follow : (ks : List Name) (k : Name) → next (after_hold ks k) (ticks k) ≡ Some (after_ticks (ks ++ k ∷ []))
ticks_follow ks k = cond-true (bytes_eq k k) (Some (after_ticks (ks ++ k ∷ []))) None (bytes_refl k)

pub same_stream : (side : Side) (x : Name) → same_side side side && bytes_eq x x ≡ true
same_stream side x = and_from (same_side side side) (bytes_eq x x) (same_side_refl side) (bytes_refl x)

-- ticks follow on a hold
pub run_ticks : (ks : List Name) (k : Name) (rest : List PortView) → is_plain_name k ≡ true → run (Some (after_hold ks k)) (port_of (ticks k) 48 ∷ rest) ≡ run (Some (after_ticks (ks ++ k ∷ []))) rest
run_ticks ks k rest h = step (after_hold ks k) (port_of (ticks k) 48) (ticks k) (Some (after_ticks (ks ++ k ∷ []))) rest (role_of_port (ticks k) 48 h refl) (ticks_follow ks k)

-- the other ports of a stream follow on the first
pub run_ready : (side : Side) (x : Name) (rest : List PortView) → is_plain_name x ≡ true → run (Some (after_valid side x)) (port_of (stream side Ready x) 1 ∷ rest) ≡ run (Some (after_ready side)) rest
run_ready side x rest h =
    step (after_valid side x) (port_of (stream side Ready x) 1) (stream side Ready x) (Some (after_ready side)) rest (role_of_port (stream side Ready x) 1 h refl)
    (cond-true (same_side side side && bytes_eq x x) (Some (after_ready side)) None (same_stream side x))

pub run_valid : (side : Side) (x : Name) (rest : List PortView) → is_plain_name x ≡ true
    → run (Some (after_data side x)) (port_of (stream side Valid x) 1
    ∷ port_of (stream side Ready x) 1 ∷ rest) ≡ run (Some (after_ready side)) rest
run_valid side x rest h =
    step (after_data side x) (port_of (stream side Valid x) 1) (stream side Valid x) (Some (after_valid side x)) (port_of (stream side Ready x) 1 ∷ rest) (role_of_port (stream side Valid x) 1 h refl)
    (cond-true (same_side side side && bytes_eq x x) (Some (after_valid side x)) None (same_stream side x))
    ∙ run_ready side x rest h

pub run_stream : (q : StageView) (side : Side) (x : Name) (width : ℕ) (rest : List PortView)
    → is_plain_name x ≡ true → next q (stream side Data x) ≡ Some (after_data side x)
    → run (Some q) (port_of (stream side Data x) width ∷ port_of (stream side Valid x) 1
    ∷ port_of (stream side Ready x) 1 ∷ rest) ≡ run (Some (after_ready side)) rest
run_stream q side x width rest h e =
    step q (port_of (stream side Data x) width) (stream side Data x) (Some (after_data side x))
    (port_of (stream side Valid x) 1 ∷ port_of (stream side Ready x) 1
    ∷ rest) (role_of_port (stream side Data x) width h refl) e
    ∙ run_valid side x rest h

-- the shortest end that ports in some stage may have
abbrev pub IsPlainStage : StageView → Type 0
IsPlainStage (after_hold ks k) = is_plain_name k ≡ true
IsPlainStage (after_data side x) = is_plain_name x ≡ true
IsPlainStage (after_valid side x) = is_plain_name x ≡ true
IsPlainStage q = Unit

-- ports with which a shape ends
pub record Ends (q : StageView) : Type 0 where
  pub ports : List PortView
  pub ends : run (Some q) ports ≡ Some after_done

abbrev pub done_port : PortView
done_port = output_port (codes "done") 1

pub ending : (q : StageView) → IsPlainStage q → Ends q
ending start h = record { ports = port_of clock 1 ∷ port_of reset 1 ∷ port_of (hold (codes "k")) 1 ∷ port_of (ticks (codes "k")) 48 ∷ done_port ∷ []; ends = refl }
ending after_clock h = record { ports = port_of reset 1 ∷ port_of (hold (codes "k")) 1 ∷ port_of (ticks (codes "k")) 48 ∷ done_port ∷ []; ends = refl }
ending after_reset h = record { ports = port_of (hold (codes "k")) 1 ∷ port_of (ticks (codes "k")) 48 ∷ done_port ∷ []; ends = refl }
ending (after_hold ks k) h = record { ports = port_of (ticks k) 48 ∷ done_port ∷ []; ends = run_ticks ks k (done_port ∷ []) h }
ending (after_ticks ks) h = record { ports = done_port ∷ []; ends = refl }
ending (after_scalar ks) h = record { ports = done_port ∷ []; ends = refl }
ending (after_data Input x) h = record { ports = port_of (stream Input Valid x) 1 ∷ port_of (stream Input Ready x) 1 ∷ done_port ∷ []; ends = run_valid Input x (done_port ∷ []) h }
ending (after_data Output x) h = record { ports = port_of (stream Output Valid x) 1 ∷ port_of (stream Output Ready x) 1 ∷ done_port ∷ []; ends = run_valid Output x (done_port ∷ []) h }
ending (after_valid Input x) h = record { ports = port_of (stream Input Ready x) 1 ∷ done_port ∷ []; ends = run_ready Input x (done_port ∷ []) h }
ending (after_valid Output x) h = record { ports = port_of (stream Output Ready x) 1 ∷ done_port ∷ []; ends = run_ready Output x (done_port ∷ []) h }
ending (after_ready Input) h = record { ports = done_port ∷ []; ends = refl }
ending (after_ready Output) h = record { ports = done_port ∷ []; ends = refl }
ending after_done h = record { ports = []; ends = refl }
