-- The ports before a place, and the stage there.
use Rattle.std.proofs.Common.{◌≡◌, ◌∙◌, ℕ, zero, suc, ◌+◌, ◌-◌, ◌≤◌, ◌<◌, Bool, true, false, cond}
use Rattle.std.proofs.Common.{List, [], ◌∷◌, ◌++◌, take, drop, map, length, get_or, Option, Some}
use Rattle.std.proofs.Common.{None, IfSome, IfNone, Bor, refl, sym, ap, subst, arith}
use Rattle.std.specs.Prelude.{slice_get, option_map}
use Rattle.std.specs.Str.{bytes_eq}
use Rattle.std.proofs.lemmas.List.{take-map, take_all, take_rest}
use Rattle.std.proofs.lemmas.Option.{slice_get-map}
use Rattle.rtl_ir.specs.declared.design.Module.{Module}
use Rattle.rtl_ir.specs.declared.design.Port.{Port}
use Rattle.rtl_ir.specs.Ports.{port_view, ports_of, kernel_ports}
use Rattle.top_ports.specs.Shapes.{Name}
use Rattle.top_ports.specs.Roles.{RoleView, clock, reset, hold, role_view, port_role}
use Rattle.top_ports.specs.Stages.{StageView, start, after_scalar, after_done, from_ticks, from_scalar, from_kernel, next, next_of, run, Sees, IsAt, Stands, Follows}
use Rattle.top_ports.specs.declared.role.Role.{Role}
use Rattle.top_ports.specs.declared.stage.Stage.{Stage}
use Rattle.top_ports.specs.declared.stage.Stage.TheVariants as Last
use Rattle.top_ports.proofs.Runs.{port_of, run_append}
use Rattle.top_ports.proofs.KernelPorts.{ticks_led}

abbrev pub some : StageView → Option StageView
some q = Some q

-- one port more

take_more_at : {A : Type 0} (xs : List A) (i : ℕ) (x : A) → slice_get xs i ≡ Some x → take (i + 1) xs ≡ take i xs ++ x ∷ []
take_more_at [] i x e = absurd (cc)
take_more_at (z ∷ xs) zero x e = let p : z ≡ x = cc in rw p refl
take_more_at (z ∷ xs) (suc i) x e = let q : suc i + 1 ≡ suc (i + 1) = omega arith in rw q (ap (λ l. z ∷ l) (take_more_at xs i x e))

pub port_at : (m : Module) (place : ℕ) (p : Port) → slice_get m.ports place ≡ Some p → slice_get (ports_of m) place ≡ Some (port_view m p)
port_at m place p e = slice_get-map (port_view m) m.ports place ∙ ap (option_map (port_view m)) e

pub ports_more : (m : Module) (place : ℕ) (p : Port) → slice_get m.ports place ≡ Some p → take (place + 1) (ports_of m) ≡ take place (ports_of m) ++ port_view m p ∷ []
ports_more m place p e = take_more_at (ports_of m) place (port_view m p) (port_at m place p e)

pub run_more : (m : Module) (place : ℕ) (p : Port) (q : StageView)
    → slice_get m.ports place ≡ Some p → run (Some start) (take place (ports_of m)) ≡ Some q
    → run (Some start) (take (place + 1) (ports_of m)) ≡ next_of q (port_role (port_view m p))
run_more m place p q e h =
    ap (run (Some start)) (ports_more m place p e)
    ∙ run_append (Some start) (take place (ports_of m)) (port_view m p ∷ [])
    ∙ ap (λ (o : Option StageView). run o (port_view m p ∷ [])) h

pub none_more : (m : Module) (place : ℕ) (stage : Stage) (p : Port)
    → slice_get m.ports place ≡ Some p → Stands m place stage → port_role (port_view m p) ≡ None
    → run (Some start) (take (place + 1) (ports_of m)) ≡ None
none_more m place stage p e h f = run_more m place p h.0 e h.1.reached ∙ ap (next_of h.0) f

some_stage : (m : Module) (place : ℕ) (p : Port) (q : StageView) (r : RoleView) (s : Stage)
    → slice_get m.ports place ≡ Some p → run (Some start) (take place (ports_of m)) ≡ Some q
    → port_role (port_view m p) ≡ Some r → Follows m (next q r) s → Stands m (place + 1) s
some_stage m place p q r s e h f g = (g.view, record { reached = run_more m place p q e h ∙ ap (next_of q) f ∙ g.is; sees = g.sees })

pub some_more : (m : Module) (place : ℕ) (p : Port) (q : StageView) (r : RoleView)
    (o : Option Stage) → slice_get m.ports place ≡ Some p
    → run (Some start) (take place (ports_of m)) ≡ Some q → port_role (port_view m p) ≡ Some r
    → IfSome o (Follows m (next q r)) → IfSome o (Stands m (place + 1))
some_more m place p q r None e h f g = tt
some_more m place p q r (Some s) e h f g = some_stage m place p q r s e h f g

pub stop_more : (m : Module) (place : ℕ) (p : Port) (q : StageView) (r : RoleView)
    (o : Option Stage) → slice_get m.ports place ≡ Some p
    → run (Some start) (take place (ports_of m)) ≡ Some q → port_role (port_view m p) ≡ Some r
    → IfNone o (next q r ≡ None) → IfNone o (run (Some start) (take (place + 1) (ports_of m))
    ≡ None)
stop_more m place p q r None e h f g = run_more m place p q e h ∙ ap (next_of q) f ∙ g
stop_more m place p q r (Some s) e h f g = tt

-- all ports

pub all_run : (m : Module) (place : ℕ) (q : StageView) → length m.ports ≤ place → run (Some start) (take place (ports_of m)) ≡ Some q → run (Some start) (ports_of m) ≡ Some q
all_run m place q ge h =
    let e : take place (ports_of m) ≡ ports_of m = take-map (port_view m) place m.ports ∙ ap (map (port_view m)) (take_all place m.ports ge) in
    ap (run (Some start)) (sym e) ∙ h

pub done_seen : (m : Module) (stage : Stage) → Sees m stage after_done → stage ≡ Last.Done
done_seen m Last.Done h = refl
done_seen m Last.Start h = absurd (cc)
done_seen m Last.Clock h = absurd (cc)
done_seen m Last.Reset h = absurd (cc)
done_seen m (Last.Hold k) h = let e = h.1 in absurd (cc)
done_seen m Last.Ticks h = let e = h.1 in absurd (cc)
done_seen m (Last.Scalar ports) h = let e = h.1 in absurd (cc)
done_seen m (Last.Data side x) h = absurd (cc)
done_seen m (Last.Valid side x) h = absurd (cc)
done_seen m (Last.Ready side) h = absurd (cc)

pub seen_done : (m : Module) (stage : Stage) (q : StageView) → stage ≡ Last.Done → Sees m stage q → q ≡ after_done
seen_done m stage q e h = subst (λ (s : Stage). Sees m s q) e h

-- the ports of the kernels

-- the first kernel among the ports of some
pub record First (m : Module) (ports : List Port) (ks : List Name) (d : Port) : Type 0 where
  pub kernel : Name
  pub behind : List Name
  pub is : ks ≡ kernel ∷ behind
  pub hold : port_view m (get_or ports 0 d) ≡ port_of (hold kernel) 1
  pub rest : map (port_view m) (take (length ports - 2) (drop 2 ports)) ≡ kernel_ports behind

pub first : (m : Module) (ports : List Port) (ks : List Name) (d : Port) → map (port_view m) ports ≡ kernel_ports ks → 2 ≤ length ports → First m ports ks d
first m [] ks d e lt = absurd (omega arith)
first m (p ∷ []) ks d e lt = absurd (omega arith)
first m (p ∷ o ∷ ports) [] d e lt = absurd (cc)
first m (p ∷ o ∷ ports) (k ∷ ks) d e lt = record { kernel = k; behind = ks; is = refl; hold = cc; rest = ap (map (port_view m)) (take_rest (p ∷ o ∷ ports) 2) ∙ cc }

pub no_first : (m : Module) (ports : List Port) (ks : List Name) → map (port_view m) ports ≡ kernel_ports ks → length ports < 2 → ks ≡ []
no_first m [] [] e lt = refl
no_first m (p ∷ ports) [] e lt = refl
no_first m [] (k ∷ ks) e lt = absurd (cc)
no_first m (p ∷ []) (k ∷ ks) e lt = absurd (cc)
no_first m (p ∷ o ∷ ports) (k ∷ ks) e lt = absurd (omega arith)

from_first : (k : Name) (ks : List Name) (name : Name) (t : Bool) → bytes_eq k name ≡ t → from_kernel (k ∷ ks) name ≡ cond t (Some (after_scalar (k ∷ ks))) (from_kernel ks name)
from_first k ks name t e = ap (λ (x : Bool). cond x (Some (after_scalar (k ∷ ks))) (from_kernel ks name)) e

-- the kernels from one on, before which none has the name
abbrev pub IsFrom : Module → List Name → Name → List Port → Type 0
IsFrom m ks name ports = (js : List Name) × (map (port_view m) ports ≡ kernel_ports js) × (from_kernel ks name ≡ from_kernel js name)

pub from_found : (m : Module) (ks : List Name) (name : Name) (ports : List Port) (d : Port)
    (t : Bool) → IsFrom m ks name ports → 2 ≤ length ports
    → ((k : Name) → port_view m (get_or ports 0 d) ≡ port_of (hold k) 1 → t ≡ bytes_eq k name)
    → t ≡ true → (js : List Name) × (from_kernel ks name ≡ Some (after_scalar js))
    × (map (port_view m) ports ≡ kernel_ports js)
from_found m ks name ports d t h lt test is =
    let w = first m ports h.0 d h.1 lt in
    let e : from_kernel h.0 name ≡ Some (after_scalar h.0) =
    ap (λ (l : List Name). from_kernel l name) w.is ∙ from_first w.kernel w.behind name true (sym (test w.kernel w.hold) ∙ is) ∙ ap (λ (l : List Name). some (after_scalar l)) (sym w.is) in
    (h.0, h.2 ∙ e, h.1)

pub from_behind : (m : Module) (ks : List Name) (name : Name) (ports : List Port) (d : Port)
    (t : Bool) → IsFrom m ks name ports → 2 ≤ length ports
    → ((k : Name) → port_view m (get_or ports 0 d) ≡ port_of (hold k) 1 → t ≡ bytes_eq k name)
    → t ≡ false → IsFrom m ks name (take (length ports - 2) (drop 2 ports))
from_behind m ks name ports d t h lt test is =
    let w = first m ports h.0 d h.1 lt in
    (w.behind, w.rest, h.2 ∙ ap (λ (l : List Name). from_kernel l name) w.is ∙ from_first w.kernel w.behind name false (sym (test w.kernel w.hold) ∙ is))

pub from_none : (m : Module) (ks : List Name) (name : Name) (ports : List Port) → IsFrom m ks name ports → length ports < 2 → from_kernel ks name ≡ None
from_none m ks name ports h lt = h.2 ∙ ap (λ (l : List Name). from_kernel l name) (no_first m ports h.0 h.1 lt)

-- the stage after ticks

behind_two : (m : Module) (ports : List Port) (place : ℕ) (ks : List Name)
    → take place (map (port_view m) ports) ≡ port_of clock 1 ∷ port_of reset 1 ∷ kernel_ports ks
    → map (port_view m) (take (place - 2) (drop 2 ports)) ≡ kernel_ports ks
behind_two m ports zero ks e = absurd (cc)
behind_two m [] (suc place) ks e = absurd (cc)
behind_two m (p ∷ ports) (suc zero) ks e = absurd (cc)
behind_two m (p ∷ []) (suc (suc place)) ks e = absurd (cc)
behind_two m (p ∷ o ∷ ports) (suc (suc place)) ks e =
    let f : suc (suc place) - 2 ≡ place = omega arith in
    ap (λ (n : ℕ). map (port_view m) (take n ports)) f ∙ sym (take-map (port_view m) place ports) ∙ cc

not_hold : (ks : List Name) (role : Role) → ((x : Bor (List ℕ)) → role ≡ Role.Hold x → ⊥) → from_ticks ks (role_view role) ≡ from_scalar ks (role_view role)
not_hold ks (Role.Hold k) h = absurd (h k refl)
not_hold ks Role.Clock h = refl
not_hold ks Role.Reset h = refl
not_hold ks (Role.Ticks k) h = refl
not_hold ks (Role.Scalar k a) h = refl
not_hold ks (Role.Stream side part x) h = refl
not_hold ks Role.Done h = refl

-- after ticks another port than a hold stands as after the kernels' first scalar
pub record TicksNext (m : Module) (place : ℕ) (items : List Port) (role : Role) (q : StageView) : Type 0 where
  pub kernels : List Name
  pub ports : map (port_view m) (take (place - 2) (drop 2 items)) ≡ kernel_ports kernels
  pub next_is : next q (role_view role) ≡ from_scalar kernels (role_view role)

pub ticks_next : (m : Module) (place : ℕ) (stage : Stage) (items : List Port) (role : Role)
    (q : StageView) → items ≡ m.ports → stage ≡ Last.Ticks
    → ((x : Bor (List ℕ)) → role ≡ Role.Hold x → ⊥) → IsAt m place stage q
    → TicksNext m place items role q
ticks_next m place stage items role q same is apart h =
    let sees = subst (λ (s : Stage). Sees m s q) is h.sees in
    let e = ticks_led (take place (ports_of m)) sees.0 (h.reached ∙ ap some sees.1) in
    record {
      kernels = sees.0;
      ports = ap (λ (l : List Port). map (port_view m) (take (place - 2) (drop 2 l))) same ∙ behind_two m m.ports place sees.0 e;
      next_is = ap (λ (s : StageView). next s (role_view role)) sees.1 ∙ not_hold sees.0 role apart;
    }

pub if_follows : (m : Module) (o : Option Stage) (a b : Option StageView) → a ≡ b → IfSome o (Follows m b) → IfSome o (Follows m a)
if_follows m o a b e h = subst (λ (x : Option StageView). IfSome o (Follows m x)) (sym e) h

pub if_none : (o : Option Stage) (a b : Option StageView) → a ≡ b → IfNone o (b ≡ None) → IfNone o (a ≡ None)
if_none o a b e h = subst (λ (x : Option StageView). IfNone o (x ≡ None)) (sym e) h

pub if_none_is : {P : Type 0} (o : Option Stage) → P → IfNone o P
if_none_is None p = p
if_none_is (Some s) p = tt
