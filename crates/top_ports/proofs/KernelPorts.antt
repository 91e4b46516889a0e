-- The ports before a stage in which kernels may stand.
use Rattle.std.proofs.Common.{◌≡◌, ◌∙◌, ◌&&◌, List, [], ◌∷◌, ◌++◌, Option, Some, None, refl, sym, ap, subst}
use Rattle.std.specs.Str.{bytes_eq}
use Rattle.std.proofs.lemmas.Bool.{eqb-true}
use Rattle.std.proofs.lemmas.List.{append_assoc, append-nil}
use Rattle.rtl_ir.specs.Ports.{PortView, kernel_ports}
use Rattle.top_ports.specs.Shapes.{Name}
use Rattle.top_ports.specs.Roles.{RoleView, clock, reset, hold, ticks, scalar, stream, done, port_role}
use Rattle.top_ports.proofs.Roles.{HasRole}
use Rattle.top_ports.specs.Stages.{StageView, start, after_clock, after_reset, after_hold}
use Rattle.top_ports.specs.Stages.{after_ticks, after_scalar, after_data, after_valid, after_ready}
use Rattle.top_ports.specs.Stages.{after_done, from_start, from_clock, from_reset, from_hold}
use Rattle.top_ports.specs.Stages.{from_ticks, from_scalar, from_ready, from_data, from_valid}
use Rattle.top_ports.specs.Stages.{same_side, next, next_of, run}
use Rattle.top_ports.specs.declared.role.Side.{Side}
use Rattle.top_ports.specs.declared.role.Side.TheVariants.{Input, Output}
use Rattle.top_ports.specs.declared.role.Part.TheVariants.{Data, Valid, Ready}
use Rattle.top_ports.proofs.CutLemmas.{bytes_same}
use Rattle.top_ports.proofs.RoleLemmas.{role_is}
use Rattle.top_ports.proofs.Runs.{port_of, port_wide, run_none}
use Rattle.top_ports.proofs.RunShapes.{found, if_same}

-- the ports that lead to a stage, as far as its kernels
abbrev pub Leads : StageView → List PortView → Type 0
Leads start ps = ps ≡ []
Leads after_clock ps = ps ≡ port_of clock 1 ∷ []
Leads after_reset ps = ps ≡ port_of clock 1 ∷ port_of reset 1 ∷ []
Leads (after_hold ks k) ps = ps ≡ port_of clock 1 ∷ port_of reset 1 ∷ (kernel_ports ks ++ port_of (hold k) 1 ∷ [])
Leads (after_ticks ks) ps = ps ≡ port_of clock 1 ∷ port_of reset 1 ∷ kernel_ports ks
Leads q ps = Unit

kernels_more : (ks : List Name) (k : Name) → kernel_ports (ks ++ k ∷ []) ≡ (kernel_ports ks ++ port_of (hold k) 1 ∷ []) ++ port_of (ticks k) 48 ∷ []
kernels_more [] k = refl
kernels_more (j ∷ ks) k = ap (λ (l : List PortView). port_of (hold j) 1 ∷ port_of (ticks j) 48 ∷ l) (kernels_more ks k)

more : (ps qs : List PortView) (p o : PortView) → ps ≡ qs → p ≡ o → ps ++ p ∷ [] ≡ qs ++ o ∷ []
more ps qs p o e f = ap (λ (l : List PortView). l ++ p ∷ []) e ∙ ap (λ (x : PortView). qs ++ x ∷ []) f

leads_ready : (side : Side) (r : RoleView) (q : StageView) (ps : List PortView) → from_ready side r ≡ Some q → Leads q ps
leads_ready Input (stream Input Data x) q ps e = let f : after_data Input x ≡ q = cc in subst (λ (s : StageView). Leads s ps) f tt
leads_ready Input (stream Output Data x) q ps e = let f : after_data Output x ≡ q = cc in subst (λ (s : StageView). Leads s ps) f tt
leads_ready Output (stream Output Data x) q ps e = let f : after_data Output x ≡ q = cc in subst (λ (s : StageView). Leads s ps) f tt
leads_ready Input done q ps e = let f : after_done ≡ q = cc in subst (λ (s : StageView). Leads s ps) f tt
leads_ready Output done q ps e = let f : after_done ≡ q = cc in subst (λ (s : StageView). Leads s ps) f tt
leads_ready side r q ps e = absurd (cc)

leads_scalar : (ks : List Name) (r : RoleView) (q : StageView) (ps : List PortView) → from_scalar ks r ≡ Some q → Leads q ps
leads_scalar ks (scalar k a) q ps e = subst (λ (s : StageView). Leads s ps) (found ks k q e).is tt
leads_scalar ks r q ps e = leads_ready Input r q ps e

leads_ticks : (ks : List Name) (p : PortView) (r : RoleView) (q : StageView) (ps : List PortView) → HasRole p r → Leads (after_ticks ks) ps → from_ticks ks r ≡ Some q → Leads q (ps ++ p ∷ [])
leads_ticks ks p (hold k) q ps w h e =
    let f : after_hold ks k ≡ q = cc in
    let g = more ps (port_of clock 1 ∷ port_of reset 1 ∷ kernel_ports ks) p (port_of (hold k) 1) h (port_wide p (hold k) 1 w (eqb-true p.width 1 w.width)) in
    subst (λ (s : StageView). Leads s (ps ++ p ∷ [])) f g
leads_ticks ks p r q ps w h e = leads_scalar ks r q (ps ++ p ∷ []) e

leads_hold : (ks : List Name) (k : Name) (p : PortView) (r : RoleView) (q : StageView)
    (ps : List PortView) → HasRole p r → Leads (after_hold ks k) ps → from_hold ks k r ≡ Some q
    → Leads q (ps ++ p ∷ [])
leads_hold ks k p (ticks j) q ps w h e =
    let v = if_same (bytes_eq k j) (after_ticks (ks ++ k ∷ [])) q e in
    let f : p ≡ port_of (ticks k) 48 = port_wide p (ticks j) 48 w (eqb-true p.width 48 w.width) ∙ ap (λ (n : Name). port_of (ticks n) 48) (sym (bytes_same k j v.0)) in
    let g = more ps (port_of clock 1 ∷ port_of reset 1 ∷ (kernel_ports ks ++ port_of (hold k) 1 ∷ [])) p (port_of (ticks k) 48) h f
    ∙ ap (λ (l : List PortView). port_of clock 1 ∷ port_of reset 1 ∷ l) (sym (kernels_more ks k)) in
    subst (λ (s : StageView). Leads s (ps ++ p ∷ [])) v.1 g
leads_hold ks k p r q ps w h e = absurd (cc)

leads_reset : (p : PortView) (r : RoleView) (q : StageView) (ps : List PortView) → HasRole p r → Leads after_reset ps → from_reset r ≡ Some q → Leads q (ps ++ p ∷ [])
leads_reset p (hold k) q ps w h e =
    let f : after_hold [] k ≡ q = cc in
    let g = more ps (port_of clock 1 ∷ port_of reset 1 ∷ []) p (port_of (hold k) 1) h (port_wide p (hold k) 1 w (eqb-true p.width 1 w.width)) in
    subst (λ (s : StageView). Leads s (ps ++ p ∷ [])) f g
leads_reset p r q ps w h e = absurd (cc)

leads_clock : (p : PortView) (r : RoleView) (q : StageView) (ps : List PortView) → HasRole p r → Leads after_clock ps → from_clock r ≡ Some q → Leads q (ps ++ p ∷ [])
leads_clock p reset q ps w h e =
    let f : after_reset ≡ q = cc in
    let g = more ps (port_of clock 1 ∷ []) p (port_of reset 1) h (port_wide p reset 1 w (eqb-true p.width 1 w.width)) in
    subst (λ (s : StageView). Leads s (ps ++ p ∷ [])) f g
leads_clock p r q ps w h e = absurd (cc)

leads_start : (p : PortView) (r : RoleView) (q : StageView) (ps : List PortView) → HasRole p r → Leads start ps → from_start r ≡ Some q → Leads q (ps ++ p ∷ [])
leads_start p clock q ps w h e =
    let f : after_clock ≡ q = cc in
    let g = more ps [] p (port_of clock 1) h (port_wide p clock 1 w (eqb-true p.width 1 w.width)) in
    subst (λ (s : StageView). Leads s (ps ++ p ∷ [])) f g
leads_start p r q ps w h e = absurd (cc)

leads_data : (side : Side) (x : Name) (r : RoleView) (q : StageView) (ps : List PortView) → from_data side x r ≡ Some q → Leads q ps
leads_data side x (stream other Valid y) q ps e = subst (λ (s : StageView). Leads s ps) (if_same (same_side side other && bytes_eq x y) (after_valid side x) q e).1 tt
leads_data side x r q ps e = absurd (cc)

leads_valid : (side : Side) (x : Name) (r : RoleView) (q : StageView) (ps : List PortView) → from_valid side x r ≡ Some q → Leads q ps
leads_valid side x (stream other Ready y) q ps e = subst (λ (s : StageView). Leads s ps) (if_same (same_side side other && bytes_eq x y) (after_ready side) q e).1 tt
leads_valid side x r q ps e = absurd (cc)

leads_next : (s : StageView) (p : PortView) (r : RoleView) (q : StageView) (ps : List PortView) → HasRole p r → Leads s ps → next s r ≡ Some q → Leads q (ps ++ p ∷ [])
leads_next start p r q ps w h e = leads_start p r q ps w h e
leads_next after_clock p r q ps w h e = leads_clock p r q ps w h e
leads_next after_reset p r q ps w h e = leads_reset p r q ps w h e
leads_next (after_hold ks k) p r q ps w h e = leads_hold ks k p r q ps w h e
leads_next (after_ticks ks) p r q ps w h e = leads_ticks ks p r q ps w h e
leads_next (after_scalar ks) p r q ps w h e = leads_scalar ks r q (ps ++ p ∷ []) e
leads_next (after_data side x) p r q ps w h e = leads_data side x r q (ps ++ p ∷ []) e
leads_next (after_valid side x) p r q ps w h e = leads_valid side x r q (ps ++ p ∷ []) e
leads_next (after_ready side) p r q ps w h e = leads_ready side r q (ps ++ p ∷ []) e
leads_next after_done p r q ps w h e = absurd (cc)

leads_run : (s : StageView) (ps rest : List PortView) (q : StageView) → Leads s ps → run (Some s) rest ≡ Some q → Leads q (ps ++ rest)
leads_run s ps [] q h e = let f : s ≡ q = cc in subst (λ (t : StageView). Leads t (ps ++ [])) f (subst (Leads s) (sym (append-nil ps)) h)
leads_run s ps (p ∷ rest) q h e =
    subst (Leads q) (append_assoc ps (p ∷ []) rest) (by_role (λ t g f. leads_run t (ps ++ p ∷ []) rest q g f) (port_role p) refl e)
  where
    by_stage : ((t : StageView) → Leads t (ps ++ p ∷ []) → run (Some t) rest ≡ Some q
        → Leads q ((ps ++ p ∷ []) ++ rest)) → (r : RoleView) (o : Option StageView)
        → HasRole p r → next s r ≡ o → run o rest ≡ Some q → Leads q ((ps ++ p ∷ []) ++ rest)
    by_stage more r None w f g = let none = run_none rest in absurd (cc)
    by_stage more r (Some t) w f g = more t (leads_next s p r t ps w h f) g

    by_role : ((t : StageView) → Leads t (ps ++ p ∷ []) → run (Some t) rest ≡ Some q
        → Leads q ((ps ++ p ∷ []) ++ rest)) → (o : Option RoleView) → port_role p ≡ o
        → run (next_of s o) rest ≡ Some q → Leads q ((ps ++ p ∷ []) ++ rest)
    by_role more None f g = let none = run_none rest in absurd (cc)
    by_role more (Some r) f g = by_stage more r (next s r) (role_is p r f) refl g

pub ticks_led : (ps : List PortView) (ks : List Name) → run (Some start) ps ≡ Some (after_ticks ks) → ps ≡ port_of clock 1 ∷ port_of reset 1 ∷ kernel_ports ks
ticks_led ps ks e = leads_run start [] ps (after_ticks ks) refl e
