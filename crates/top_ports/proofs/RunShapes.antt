-- Ports that lead to the end are those of a shape.
use Rattle.std.proofs.Common.{◌≡◌, ◌∙◌, ◌<◌, Bool, true, false, cond, ◌&&◌, List, [], ◌∷◌, ◌++◌, length, Option, Some, None, refl, sym, ap, subst, arith}
use Rattle.std.specs.List.{list_all}
use Rattle.std.specs.Str.{bytes_eq}
use Rattle.std.proofs.lemmas.Bool.{and_parts, and_from, eqb-true}
use Rattle.std.proofs.lemmas.List.{append_assoc, append-nil}
use Rattle.rtl_ir.specs.Ports.{Shape, PortView, kernel_ports, shape_ports, is_plain_name}
use Rattle.top_ports.specs.Shapes.{Name, IsTopShape}
use Rattle.top_ports.specs.Roles.{RoleView, clock, reset, hold, ticks, scalar, stream, done, port_role}
use Rattle.top_ports.proofs.Roles.{HasRole}
use Rattle.top_ports.specs.Stages.{StageView, start, after_clock, after_reset, after_hold}
use Rattle.top_ports.specs.Stages.{after_ticks, after_scalar, after_data, after_valid, after_ready}
use Rattle.top_ports.specs.Stages.{after_done, from_start, from_clock, from_reset, from_hold}
use Rattle.top_ports.specs.Stages.{from_ticks, from_scalar, from_ready, from_data, from_valid}
use Rattle.top_ports.specs.Stages.{from_kernel, same_side, next, next_of, run}
use Rattle.top_ports.specs.declared.role.Side.{Side}
use Rattle.top_ports.specs.declared.role.Side.TheVariants.{Input, Output}
use Rattle.top_ports.specs.declared.role.Part.{Part}
use Rattle.top_ports.specs.declared.role.Part.TheVariants.{Data, Valid, Ready}
use Rattle.top_ports.proofs.CutLemmas.{bytes_same}
use Rattle.top_ports.proofs.RoleLemmas.{role_is}
use Rattle.top_ports.proofs.Runs.{port_of, port_is, port_wide, run_none, done_port}
use Rattle.top_ports.proofs.ByKernel.{Scalar, AreFound, is_plain_scalar, all_among, by_kernel}
use Rattle.top_ports.proofs.ShapeRuns.{Stream, is_plain_stream, from_outputs, from_inputs, from_scalars, grouped}

-- the ports that may follow, up to the last one

pub record Outputs (rest : List PortView) : Type 0 where
  pub outputs : List Stream
  pub plain : list_all is_plain_stream outputs ≡ true
  pub is : rest ≡ from_outputs outputs

pub record Inputs (rest : List PortView) : Type 0 where
  pub inputs : List Stream
  pub outputs : List Stream
  pub plain_inputs : list_all is_plain_stream inputs ≡ true
  pub plain_outputs : list_all is_plain_stream outputs ≡ true
  pub is : rest ≡ from_inputs inputs outputs

pub record Scalars (ks : List Name) (rest : List PortView) : Type 0 where
  pub scalars : List Scalar
  pub inputs : List Stream
  pub outputs : List Stream
  pub found : AreFound ks scalars
  pub plain_scalars : list_all is_plain_scalar scalars ≡ true
  pub plain_inputs : list_all is_plain_stream inputs ≡ true
  pub plain_outputs : list_all is_plain_stream outputs ≡ true
  pub is : rest ≡ from_scalars scalars inputs outputs

pub record Kernels (ks : List Name) (rest : List PortView) : Type 0 where
  pub kernels : List Name
  pub plain : list_all is_plain_name kernels ≡ true
  pub tail : List PortView
  pub scalars : Scalars (ks ++ kernels) tail
  pub is : rest ≡ kernel_ports kernels ++ tail

pub record FirstKernel (rest : List PortView) : Type 0 where
  pub kernel : Name
  pub plain : is_plain_name kernel ≡ true
  pub tail : List PortView
  pub kernels : Kernels (kernel ∷ []) tail
  pub is : rest ≡ port_of (hold kernel) 1 ∷ port_of (ticks kernel) 48 ∷ tail

abbrev pub Streams : Side → List PortView → Type 0
Streams Input rest = Inputs rest
Streams Output rest = Outputs rest

abbrev pub Follow : StageView → List PortView → Type 0
Follow start rest = (tail : List PortView) × FirstKernel tail × (rest ≡ port_of clock 1 ∷ port_of reset 1 ∷ tail)
Follow after_clock rest = (tail : List PortView) × FirstKernel tail × (rest ≡ port_of reset 1 ∷ tail)
Follow after_reset rest = FirstKernel rest
Follow (after_hold ks k) rest = (tail : List PortView) × Kernels (ks ++ k ∷ []) tail × (rest ≡ port_of (ticks k) 48 ∷ tail)
Follow (after_ticks ks) rest = Kernels ks rest
Follow (after_scalar ks) rest = Scalars ks rest
Follow (after_data side x) rest = (tail : List PortView) × Streams side tail × (rest ≡ port_of (stream side Valid x) 1 ∷ port_of (stream side Ready x) 1 ∷ tail)
Follow (after_valid side x) rest = (tail : List PortView) × Streams side tail × (rest ≡ port_of (stream side Ready x) 1 ∷ tail)
Follow (after_ready side) rest = Streams side rest
Follow after_done rest = rest ≡ []

-- one port before

two : (p o : PortView) (rest tail : List PortView) → p ≡ o → rest ≡ tail → p ∷ rest ≡ o ∷ tail
two p o rest tail e f = ap (λ (x : PortView). x ∷ rest) e ∙ ap (λ (l : List PortView). o ∷ l) f

moved : (q t : StageView) (rest : List PortView) → Some t ≡ Some q → Follow q rest → Follow t rest
moved q t rest e h = let same : q ≡ t = cc in subst (λ (s : StageView). Follow s rest) same h

before_output : (p : PortView) (x : Name) (rest : List PortView) → HasRole p (stream Output Data x) → Follow (after_data Output x) rest → Outputs (p ∷ rest)
before_output p x rest r h =
    let o = h.1 in
    record {
      outputs = (x, p.width) ∷ o.outputs;
      plain = and_from (is_plain_name x) (list_all is_plain_stream o.outputs) r.plain o.plain;
      is = two p (port_of (stream Output Data x) p.width) rest _ (port_is p (stream Output Data x) r)
          (h.2 ∙ ap (λ (l : List PortView). port_of (stream Output Valid x) 1 ∷ port_of (stream Output Ready x) 1 ∷ l) o.is);
    }

before_input : (p : PortView) (x : Name) (rest : List PortView) → HasRole p (stream Input Data x) → Follow (after_data Input x) rest → Inputs (p ∷ rest)
before_input p x rest r h =
    let i = h.1 in
    record {
      inputs = (x, p.width) ∷ i.inputs;
      outputs = i.outputs;
      plain_inputs = and_from (is_plain_name x) (list_all is_plain_stream i.inputs) r.plain i.plain_inputs;
      plain_outputs = i.plain_outputs;
      is = two p (port_of (stream Input Data x) p.width) rest _ (port_is p (stream Input Data x) r)
          (h.2 ∙ ap (λ (l : List PortView). port_of (stream Input Valid x) 1 ∷ port_of (stream Input Ready x) 1 ∷ l) i.is);
    }

before_done : (p : PortView) (rest : List PortView) → HasRole p done → Follow after_done rest → Outputs (p ∷ rest)
before_done p rest r h = record { outputs = []; plain = refl; is = two p done_port rest [] (port_wide p done 1 r (eqb-true p.width 1 r.width)) h }

no_inputs : (rest : List PortView) → Outputs rest → Inputs rest
no_inputs rest o = record { inputs = []; outputs = o.outputs; plain_inputs = refl; plain_outputs = o.plain; is = o.is }

no_scalars : (ks : List Name) (rest : List PortView) → Inputs rest → Scalars ks rest
no_scalars ks rest i = record { scalars = []; inputs = i.inputs; outputs = i.outputs; found = tt; plain_scalars = refl; plain_inputs = i.plain_inputs; plain_outputs = i.plain_outputs; is = i.is }

no_kernels : (ks : List Name) (rest : List PortView) → Scalars ks rest → Kernels ks rest
no_kernels ks rest s = record { kernels = []; plain = refl; tail = rest; scalars = subst (λ (l : List Name). Scalars l rest) (sym (append-nil ks)) s; is = refl }

before_stream : (side : Side) (p : PortView) (r : RoleView) (q : StageView) (rest : List PortView) → HasRole p r → from_ready side r ≡ Some q → Follow q rest → Streams side (p ∷ rest)
before_stream Input p (stream Input Data x) q rest r e h = before_input p x rest r (moved q (after_data Input x) rest e h)
before_stream Input p (stream Output Data x) q rest r e h = no_inputs (p ∷ rest) (before_output p x rest r (moved q (after_data Output x) rest e h))
before_stream Output p (stream Output Data x) q rest r e h = before_output p x rest r (moved q (after_data Output x) rest e h)
before_stream Input p done q rest r e h = no_inputs (p ∷ rest) (before_done p rest r (moved q after_done rest e h))
before_stream Output p done q rest r e h = before_done p rest r (moved q after_done rest e h)
before_stream side p r q rest w e h = absurd (cc)

-- the kernel of a scalar is found
pub record Found (ks : List Name) (name : Name) (q : StageView) : Type 0 where
  pub kernels : List Name
  pub from : from_kernel ks name ≡ Some (after_scalar kernels)
  pub is : after_scalar kernels ≡ q

pub found : (ks : List Name) (name : Name) (q : StageView) → from_kernel ks name ≡ Some q → Found ks name q
found [] name q e = absurd (cc)
found (k ∷ ks) name q e = by_test (λ f. found ks name q f) (bytes_eq k name) refl e
  where
    by_test : (from_kernel ks name ≡ Some q → Found ks name q) → (t : Bool) → bytes_eq k name ≡ t → cond t (Some (after_scalar (k ∷ ks))) (from_kernel ks name) ≡ Some q → Found (k ∷ ks) name q
    by_test more true f g = record { kernels = k ∷ ks; from = ap (λ (x : Bool). cond x (Some (after_scalar (k ∷ ks))) (from_kernel ks name)) f; is = cc }
    by_test more false f g =
        let w = more g in
        record { kernels = w.kernels; from = ap (λ (x : Bool). cond x (Some (after_scalar (k ∷ ks))) (from_kernel ks name)) f ∙ w.from; is = w.is }

before_named : (ks js : List Name) (k a : Name) (p : PortView) (rest : List PortView) → HasRole p (scalar k a) → from_kernel ks k ≡ Some (after_scalar js) → Scalars js rest → Scalars ks (p ∷ rest)
before_named ks js k a p rest r e s =
    record {
      scalars = (k, a, p.width) ∷ s.scalars;
      inputs = s.inputs;
      outputs = s.outputs;
      found = (js, e, s.found);
      plain_scalars = and_from (is_plain_name k && is_plain_name a) (list_all is_plain_scalar s.scalars) r.plain s.plain_scalars;
      plain_inputs = s.plain_inputs;
      plain_outputs = s.plain_outputs;
      is = two p (port_of (scalar k a) p.width) rest _ (port_is p (scalar k a) r) s.is;
    }

before_scalar : (ks : List Name) (p : PortView) (r : RoleView) (q : StageView) (rest : List PortView) → HasRole p r → from_scalar ks r ≡ Some q → Follow q rest → Scalars ks (p ∷ rest)
before_scalar ks p (scalar k a) q rest r e h =
    let w = found ks k q e in
    before_named ks w.kernels k a p rest r w.from (subst (λ (s : StageView). Follow s rest) (sym w.is) h)
before_scalar ks p clock q rest r e h = absurd (cc)
before_scalar ks p reset q rest r e h = absurd (cc)
before_scalar ks p (hold k) q rest r e h = absurd (cc)
before_scalar ks p (ticks k) q rest r e h = absurd (cc)
before_scalar ks p (stream side part x) q rest r e h = no_scalars ks (p ∷ rest) (before_stream Input p (stream side part x) q rest r e h)
before_scalar ks p done q rest r e h = no_scalars ks (p ∷ rest) (before_stream Input p done q rest r e h)

before_hold : (ks : List Name) (k : Name) (p : PortView) (rest : List PortView) → HasRole p (hold k) → Follow (after_hold ks k) rest → Kernels ks (p ∷ rest)
before_hold ks k p rest r h =
    let w = h.1 in
    record {
      kernels = k ∷ w.kernels;
      plain = and_from (is_plain_name k) (list_all is_plain_name w.kernels) r.plain w.plain;
      tail = w.tail;
      scalars = subst (λ (l : List Name). Scalars l w.tail) (append_assoc ks (k ∷ []) w.kernels) w.scalars;
      is = two p (port_of (hold k) 1) rest _ (port_wide p (hold k) 1 r (eqb-true p.width 1 r.width))
          (h.2 ∙ ap (λ (l : List PortView). port_of (ticks k) 48 ∷ l) w.is);
    }

before_kernel : (ks : List Name) (p : PortView) (r : RoleView) (q : StageView) (rest : List PortView) → HasRole p r → from_ticks ks r ≡ Some q → Follow q rest → Kernels ks (p ∷ rest)
before_kernel ks p (hold k) q rest r e h = before_hold ks k p rest r (moved q (after_hold ks k) rest e h)
before_kernel ks p clock q rest r e h = absurd (cc)
before_kernel ks p reset q rest r e h = absurd (cc)
before_kernel ks p (ticks k) q rest r e h = absurd (cc)
before_kernel ks p (scalar k a) q rest r e h = no_kernels ks (p ∷ rest) (before_scalar ks p (scalar k a) q rest r e h)
before_kernel ks p (stream side part x) q rest r e h = no_kernels ks (p ∷ rest) (before_scalar ks p (stream side part x) q rest r e h)
before_kernel ks p done q rest r e h = no_kernels ks (p ∷ rest) (before_scalar ks p done q rest r e h)

before_first : (p : PortView) (r : RoleView) (q : StageView) (rest : List PortView) → HasRole p r → from_reset r ≡ Some q → Follow q rest → FirstKernel (p ∷ rest)
before_first p (hold k) q rest r e h =
    let w = moved q (after_hold [] k) rest e h in
    record {
      kernel = k;
      plain = r.plain;
      tail = w.0;
      kernels = w.1;
      is = two p (port_of (hold k) 1) rest _ (port_wide p (hold k) 1 r (eqb-true p.width 1 r.width)) w.2;
    }
before_first p r q rest w e h = absurd (cc)

pub if_same : (t : Bool) (s q : StageView) → cond t (Some s) None ≡ Some q → (t ≡ true) × (s ≡ q)
if_same true s q e = (refl, cc)
if_same false s q e = absurd (cc)

sides_same : (a b : Side) → same_side a b ≡ true → a ≡ b
sides_same Input Input e = refl
sides_same Output Output e = refl
sides_same Input Output e = absurd (cc)
sides_same Output Input e = absurd (cc)

before_ticks : (ks : List Name) (k : Name) (p : PortView) (r : RoleView) (q : StageView)
    (rest : List PortView) → HasRole p r → from_hold ks k r ≡ Some q → Follow q rest
    → Follow (after_hold ks k) (p ∷ rest)
before_ticks ks k p (ticks j) q rest r e h =
    let w = if_same (bytes_eq k j) (after_ticks (ks ++ k ∷ [])) q e in
    let f : p ≡ port_of (ticks k) 48 = port_wide p (ticks j) 48 r (eqb-true p.width 48 r.width) ∙ ap (λ (n : Name). port_of (ticks n) 48) (sym (bytes_same k j w.0)) in
    (rest, subst (λ (s : StageView). Follow s rest) (sym w.1) h, ap (λ (x : PortView). x ∷ rest) f)
before_ticks ks k p r q rest w e h = absurd (cc)

same_stream : (side other : Side) (part : Part) (x y : Name) → same_side side other && bytes_eq x y ≡ true → port_of (stream other part y) 1 ≡ port_of (stream side part x) 1
same_stream side other part x y e =
    let w = and_parts (same_side side other) (bytes_eq x y) e in
    ap (λ (s : Side). port_of (stream s part y) 1) (sym (sides_same side other w.0)) ∙ ap (λ (n : Name). port_of (stream side part n) 1) (sym (bytes_same x y w.1))

before_ready : (side : Side) (x : Name) (p : PortView) (r : RoleView) (q : StageView)
    (rest : List PortView) → HasRole p r → from_valid side x r ≡ Some q → Follow q rest
    → Follow (after_valid side x) (p ∷ rest)
before_ready side x p (stream other Ready y) q rest r e h =
    let w = if_same (same_side side other && bytes_eq x y) (after_ready side) q e in
    let f = port_wide p (stream other Ready y) 1 r (eqb-true p.width 1 r.width) ∙ same_stream side other Ready x y w.0 in
    (rest, subst (λ (s : StageView). Follow s rest) (sym w.1) h, ap (λ (z : PortView). z ∷ rest) f)
before_ready side x p r q rest w e h = absurd (cc)

before_valid : (side : Side) (x : Name) (p : PortView) (r : RoleView) (q : StageView)
    (rest : List PortView) → HasRole p r → from_data side x r ≡ Some q → Follow q rest
    → Follow (after_data side x) (p ∷ rest)
before_valid side x p (stream other Valid y) q rest r e h =
    let w = if_same (same_side side other && bytes_eq x y) (after_valid side x) q e in
    let f = port_wide p (stream other Valid y) 1 r (eqb-true p.width 1 r.width) ∙ same_stream side other Valid x y w.0 in
    let v = subst (λ (s : StageView). Follow s rest) (sym w.1) h in
    (v.0, v.1, two p (port_of (stream side Valid x) 1) rest _ f v.2)
before_valid side x p r q rest w e h = absurd (cc)

before_start : (p : PortView) (r : RoleView) (q : StageView) (rest : List PortView) → HasRole p r → from_start r ≡ Some q → Follow q rest → Follow start (p ∷ rest)
before_start p clock q rest r e h =
    let w = moved q after_clock rest e h in
    (w.0, w.1, two p (port_of clock 1) rest _ (port_wide p clock 1 r (eqb-true p.width 1 r.width)) w.2)
before_start p r q rest w e h = absurd (cc)

before_reset : (p : PortView) (r : RoleView) (q : StageView) (rest : List PortView) → HasRole p r → from_clock r ≡ Some q → Follow q rest → Follow after_clock (p ∷ rest)
before_reset p reset q rest r e h =
    (rest, moved q after_reset rest e h, ap (λ (z : PortView). z ∷ rest) (port_wide p reset 1 r (eqb-true p.width 1 r.width)))
before_reset p r q rest w e h = absurd (cc)

before : (s : StageView) (p : PortView) (r : RoleView) (q : StageView) (rest : List PortView) → HasRole p r → next s r ≡ Some q → Follow q rest → Follow s (p ∷ rest)
before start p r q rest w e h = before_start p r q rest w e h
before after_clock p r q rest w e h = before_reset p r q rest w e h
before after_reset p r q rest w e h = before_first p r q rest w e h
before (after_hold ks k) p r q rest w e h = before_ticks ks k p r q rest w e h
before (after_ticks ks) p r q rest w e h = before_kernel ks p r q rest w e h
before (after_scalar ks) p r q rest w e h = before_scalar ks p r q rest w e h
before (after_data side x) p r q rest w e h = before_valid side x p r q rest w e h
before (after_valid side x) p r q rest w e h = before_ready side x p r q rest w e h
before (after_ready side) p r q rest w e h = before_stream side p r q rest w e h
before after_done p r q rest w e h = absurd (cc)

run_follows : (s : StageView) (ps : List PortView) → run (Some s) ps ≡ Some after_done → Follow s ps
run_follows s [] e = let same : after_done ≡ s = cc in subst (λ (q : StageView). Follow q []) same refl
run_follows s (p ∷ ps) e = by_role (λ q f. run_follows q ps f) (port_role p) refl e
  where
    by_stage : ((q : StageView) → run (Some q) ps ≡ Some after_done → Follow q ps) → (r : RoleView) (o : Option StageView) → HasRole p r → next s r ≡ o → run o ps ≡ Some after_done → Follow s (p ∷ ps)
    by_stage more r None w f g = let none = run_none ps in absurd (cc)
    by_stage more r (Some q) w f g = before s p r q ps w f (more q g)

    by_role : ((q : StageView) → run (Some q) ps ≡ Some after_done → Follow q ps) → (o : Option RoleView) → port_role p ≡ o → run (next_of s o) ps ≡ Some after_done → Follow s (p ∷ ps)
    by_role more None f g = let none = run_none ps in absurd (cc)
    by_role more (Some r) f g = by_stage more r (next s r) (role_is p r f) refl g

-- the shape of the ports

pub record OfShape (ps : List PortView) : Type 0 where
  pub shape : Shape
  pub is : IsTopShape shape
  pub ports : ps ≡ shape_ports shape

some_kernels : (k : Name) (ks : List Name) → 0 < length (k ∷ ks)
some_kernels k ks = omega arith

pub run_shape : (ps : List PortView) → run (Some start) ps ≡ Some after_done → OfShape ps
run_shape ps e =
    let f = run_follows start ps e in
    let first = f.1 in
    let more = first.kernels in
    let s = more.scalars in
    let ks = first.kernel ∷ more.kernels in
    let plain = and_from (is_plain_name first.kernel) (list_all is_plain_name more.kernels) first.plain more.plain in
    let by = by_kernel ks s.scalars s.found in
    let shape : Shape = record { kernels = ks; scalars = s.scalars; inputs = s.inputs; outputs = s.outputs } in
    record {
      shape = shape;
      is = record {
        shape = record {
          some = some_kernels first.kernel more.kernels;
          kernels = plain;
          scalars = all_among ks s.scalars by s.plain_scalars;
          inputs = s.plain_inputs;
          outputs = s.plain_outputs;
        };
        by_kernel = by;
      };
      ports =
          f.2
          ∙ ap (λ (l : List PortView). port_of clock 1 ∷ port_of reset 1 ∷ l)
          (first.is ∙ ap (λ (l : List PortView). port_of (hold first.kernel) 1 ∷ port_of (ticks first.kernel) 48 ∷ l)
          (more.is ∙ ap (λ (l : List PortView). kernel_ports more.kernels ++ l) s.is))
          ∙ sym (grouped shape);
    }
