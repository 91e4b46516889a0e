-- Ports that lead to a stage are the first ones of a shape, and others aren't.
use Rattle.std.proofs.Common.{◌≡◌, ◌∙◌, ℕ, ◌+◌, true, ◌&&◌, List, [], ◌∷◌, ◌++◌, take, drop, Option, Some, None, refl, sym, ap, subst}
use Rattle.std.specs.Prelude.{codes, slice_get}
use Rattle.std.specs.Str.{bytes_eq}
use Rattle.std.proofs.lemmas.List.{take-append-drop}
use Rattle.rtl_ir.specs.declared.design.Module.{Module}
use Rattle.rtl_ir.specs.Ports.{Shape, PortView, ports_of, is_plain_name}
use Rattle.top_ports.specs.Shapes.{Name, IsTop, BeginsTop, IsFirstWrong, at_port, too_few}
use Rattle.top_ports.specs.Roles.{RoleView, clock, reset, hold, ticks, scalar, stream, done, port_role}
use Rattle.top_ports.proofs.Roles.{is_plain_role}
use Rattle.top_ports.specs.Stages.{StageView, start, after_clock, after_reset, after_hold}
use Rattle.top_ports.specs.Stages.{after_ticks, after_scalar, after_data, after_valid, after_ready}
use Rattle.top_ports.specs.Stages.{after_done, from_start, from_clock, from_reset, from_hold}
use Rattle.top_ports.specs.Stages.{from_ticks, from_scalar, from_ready, from_data, from_valid}
use Rattle.top_ports.specs.Stages.{same_side, next, next_of, run}
use Rattle.top_ports.specs.declared.role.Side.{Side}
use Rattle.top_ports.specs.declared.role.Side.TheVariants.{Input, Output}
use Rattle.top_ports.specs.declared.role.Part.TheVariants.{Data, Valid, Ready}
use Rattle.top_ports.proofs.RoleLemmas.{role_is}
use Rattle.top_ports.proofs.Runs.{IsPlainStage, ending, run_none, run_append}
use Rattle.top_ports.proofs.ShapeRuns.{shape_run}
use Rattle.top_ports.proofs.RunShapes.{found, if_same, run_shape}

-- names in stages are plain

plain_ready : (side : Side) (r : RoleView) (q : StageView) → is_plain_role r ≡ true → from_ready side r ≡ Some q → IsPlainStage q
plain_ready Input (stream Input Data x) q h e = let f : after_data Input x ≡ q = cc in subst IsPlainStage f h
plain_ready Input (stream Output Data x) q h e = let f : after_data Output x ≡ q = cc in subst IsPlainStage f h
plain_ready Output (stream Output Data x) q h e = let f : after_data Output x ≡ q = cc in subst IsPlainStage f h
plain_ready Input done q h e = let f : after_done ≡ q = cc in subst IsPlainStage f tt
plain_ready Output done q h e = let f : after_done ≡ q = cc in subst IsPlainStage f tt
plain_ready side r q h e = absurd (cc)

plain_scalar : (ks : List Name) (r : RoleView) (q : StageView) → is_plain_role r ≡ true → from_scalar ks r ≡ Some q → IsPlainStage q
plain_scalar ks (scalar k a) q h e = subst IsPlainStage (found ks k q e).is tt
plain_scalar ks r q h e = plain_ready Input r q h e

plain_ticks : (ks : List Name) (r : RoleView) (q : StageView) → is_plain_role r ≡ true → from_ticks ks r ≡ Some q → IsPlainStage q
plain_ticks ks (hold k) q h e = let f : after_hold ks k ≡ q = cc in subst IsPlainStage f h
plain_ticks ks r q h e = plain_scalar ks r q h e

plain_start : (r : RoleView) (q : StageView) → from_start r ≡ Some q → IsPlainStage q
plain_start clock q e = let f : after_clock ≡ q = cc in subst IsPlainStage f tt
plain_start r q e = absurd (cc)

plain_clock : (r : RoleView) (q : StageView) → from_clock r ≡ Some q → IsPlainStage q
plain_clock reset q e = let f : after_reset ≡ q = cc in subst IsPlainStage f tt
plain_clock r q e = absurd (cc)

plain_reset : (r : RoleView) (q : StageView) → is_plain_role r ≡ true → from_reset r ≡ Some q → IsPlainStage q
plain_reset (hold k) q h e = let f : after_hold [] k ≡ q = cc in subst IsPlainStage f h
plain_reset r q h e = absurd (cc)

plain_hold : (ks : List Name) (k : Name) (r : RoleView) (q : StageView) → from_hold ks k r ≡ Some q → IsPlainStage q
plain_hold ks k (ticks j) q e = subst IsPlainStage (if_same (bytes_eq k j) (after_ticks (ks ++ k ∷ [])) q e).1 tt
plain_hold ks k r q e = absurd (cc)

plain_data : (side : Side) (x : Name) (r : RoleView) (q : StageView) → is_plain_name x ≡ true → from_data side x r ≡ Some q → IsPlainStage q
plain_data side x (stream other Valid y) q h e = subst IsPlainStage (if_same (same_side side other && bytes_eq x y) (after_valid side x) q e).1 h
plain_data side x r q h e = absurd (cc)

plain_valid : (side : Side) (x : Name) (r : RoleView) (q : StageView) → from_valid side x r ≡ Some q → IsPlainStage q
plain_valid side x (stream other Ready y) q e = subst IsPlainStage (if_same (same_side side other && bytes_eq x y) (after_ready side) q e).1 tt
plain_valid side x r q e = absurd (cc)

plain_next : (s : StageView) (r : RoleView) (q : StageView) → IsPlainStage s → is_plain_role r ≡ true → next s r ≡ Some q → IsPlainStage q
plain_next start r q s h e = plain_start r q e
plain_next after_clock r q s h e = plain_clock r q e
plain_next after_reset r q s h e = plain_reset r q h e
plain_next (after_hold ks k) r q s h e = plain_hold ks k r q e
plain_next (after_ticks ks) r q s h e = plain_ticks ks r q h e
plain_next (after_scalar ks) r q s h e = plain_scalar ks r q h e
plain_next (after_data side x) r q s h e = plain_data side x r q s e
plain_next (after_valid side x) r q s h e = plain_valid side x r q e
plain_next (after_ready side) r q s h e = plain_ready side r q h e
plain_next after_done r q s h e = absurd (cc)

plain_run : (s : StageView) (ps : List PortView) (q : StageView) → IsPlainStage s → run (Some s) ps ≡ Some q → IsPlainStage q
plain_run s [] q h e = let f : s ≡ q = cc in subst IsPlainStage f h
plain_run s (p ∷ ps) q h e = by_role (λ t g f. plain_run t ps q g f) (port_role p) refl e
  where
    by_stage : ((t : StageView) → IsPlainStage t → run (Some t) ps ≡ Some q → IsPlainStage q)
        → (r : RoleView) (o : Option StageView) → is_plain_role r ≡ true → next s r ≡ o
        → run o ps ≡ Some q → IsPlainStage q
    by_stage more r None w f g = let none = run_none ps in absurd (cc)
    by_stage more r (Some t) w f g = more t (plain_next s r t h w f) g

    by_role : ((t : StageView) → IsPlainStage t → run (Some t) ps ≡ Some q → IsPlainStage q) → (o : Option RoleView) → port_role p ≡ o → run (next_of s o) ps ≡ Some q → IsPlainStage q
    by_role more None f g = let none = run_none ps in absurd (cc)
    by_role more (Some r) f g = by_stage more r (next s r) (role_is p r f).plain refl g

-- ports that lead to a stage, and ports that don't

pub begins : (ps : List PortView) (q : StageView) → run (Some start) ps ≡ Some q → BeginsTop ps
begins ps q e =
    let more = ending q (plain_run start ps q tt e) in
    let f : run (Some start) (ps ++ more.ports) ≡ Some after_done =
    run_append (Some start) ps more.ports ∙ ap (λ (o : Option StageView). run o more.ports) e ∙ more.ends in
    let w = run_shape (ps ++ more.ports) f in
    record { shape = w.shape; is = w.is; more = more.ports; goes_on = sym w.ports }

pub begins_none : (ps : List PortView) → run (Some start) ps ≡ None → BeginsTop ps → ⊥
begins_none ps e b =
    let f : run (Some start) (ps ++ b.more) ≡ Some after_done = ap (run (Some start)) (sym b.goes_on) ∙ shape_run b.shape b.is in
    let g : run (Some start) (ps ++ b.more) ≡ None = run_append (Some start) ps b.more ∙ ap (λ (o : Option StageView). run o b.more) e ∙ run_none b.more in
    cc

pub wrong_port : (m : Module) (k : ℕ) (p : PortView) (q : StageView)
    → slice_get (ports_of m) k ≡ Some p → run (Some start) (take k (ports_of m)) ≡ Some q
    → run (Some start) (take (k + 1) (ports_of m)) ≡ None → IsFirstWrong (ports_of m) p.name
wrong_port m k p q at e f = at_port k p at (begins (take k (ports_of m)) q e) (begins_none (take (k + 1) (ports_of m)) f)

pub wrong_end : (m : Module) (q : StageView) → run (Some start) (ports_of m) ≡ Some q → (q ≡ after_done → ⊥) → IsFirstWrong (ports_of m) (codes "done")
wrong_end m q e apart =
    too_few (begins (ports_of m) q e)
    (λ s h f. let g : run (Some start) (ports_of m) ≡ Some after_done = ap (run (Some start)) (sym f) ∙ shape_run s h in apart (cc))

pub right_end : (m : Module) → run (Some start) (ports_of m) ≡ Some after_done → (s : Shape) × IsTop m s
right_end m e = let w = run_shape (ports_of m) e in (w.shape, record { is = w.is; has = w.ports })

-- a module of a shape has no wrong port

begins_all : (m : Module) (s : Shape) → IsTop m s → (k : ℕ) → BeginsTop (take k (ports_of m))
begins_all m s h k = record { shape = s; is = h.is; more = drop k (ports_of m); goes_on = sym h.has ∙ sym (take-append-drop k (ports_of m)) }

none_wrong : (m : Module) (s : Shape) → IsTop m s → (ps : List PortView) → ps ≡ ports_of m → (name : Name) → IsFirstWrong ps name → ⊥
none_wrong m s h ps e name (at_port k p at before after) = after (subst (λ (l : List PortView). BeginsTop (take (k + 1) l)) (sym e) (begins_all m s h (k + 1)))
none_wrong m s h ps e name (too_few before none) = none s h.is (sym h.has ∙ sym e)

pub no_wrong : (m : Module) (s : Shape) → IsTop m s → (name : Name) → IsFirstWrong (ports_of m) name → ⊥
no_wrong m s h name w = none_wrong m s h (ports_of m) refl name w
