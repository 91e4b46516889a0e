-- The ports of a shape tell the shape.
use Rattle.std.proofs.Common.{◌≡◌, ◌∙◌, ℕ, true, List, [], ◌∷◌, ◌++◌, Option, Some, refl, sym, ap}
use Rattle.std.specs.List.{list_all, flat_map}
use Rattle.std.proofs.lemmas.Bool.{and_parts}
use Rattle.std.proofs.lemmas.List.{append-nil}
use Rattle.std.proofs.lemmas.List.Concat.{flat_map-append}
use Rattle.rtl_ir.specs.declared.design.Module.{Module}
use Rattle.rtl_ir.specs.Ports.{Shape, PortView, kernel_ports, scalar_ports, host_input_ports, host_output_ports, shape_ports, is_plain_name}
use Rattle.top_ports.specs.Shapes.{Name, IsTopShape, IsTop}
use Rattle.top_ports.specs.Roles.{RoleView, clock, reset, hold, ticks, scalar, stream, done, is_width, port_role}
use Rattle.top_ports.proofs.Roles.{is_plain_role}
use Rattle.top_ports.proofs.Listed.{kernel_in, scalar_in, input_in, output_in, gathered}
use Rattle.top_ports.specs.declared.role.Side.{Side}
use Rattle.top_ports.specs.declared.role.Side.TheVariants.{Input, Output}
use Rattle.top_ports.specs.declared.role.Part.TheVariants.{Data, Valid, Ready}
use Rattle.top_ports.proofs.RoleLemmas.{role_found}
use Rattle.top_ports.proofs.Runs.{port_of, role_of_port, done_port}
use Rattle.top_ports.proofs.ByKernel.{Scalar, is_plain_scalar, all_plain}
use Rattle.top_ports.proofs.ShapeRuns.{Stream, is_plain_stream, from_outputs, from_inputs, from_scalars, grouped}

-- what the ports of a stream tell
abbrev three : {B : Type 0} → (Option RoleView → ℕ → List B) → Side → Stream → List B → List B
three f side x rest = f (Some (stream side Data x.0)) x.1 ++ (f (Some (stream side Valid x.0)) 1 ++ (f (Some (stream side Ready x.0)) 1 ++ rest))

-- what each part of a shape tells
record Tells {B : Type 0} (f : Option RoleView → ℕ → List B) (of_kernel : Name → List B) (of_scalar : Scalar → List B) (of_input of_output : Stream → List B) : Type 0 where
  first : (rest : List B) → f (Some clock) 1 ++ (f (Some reset) 1 ++ rest) ≡ rest
  kernel : (k : Name) (rest : List B) → f (Some (hold k)) 1 ++ (f (Some (ticks k)) 48 ++ rest) ≡ of_kernel k ++ rest
  scalar : (s : Scalar) → f (Some (scalar s.0 s.1)) s.2 ≡ of_scalar s
  input : (x : Stream) (rest : List B) → three f Input x rest ≡ of_input x ++ rest
  output : (x : Stream) (rest : List B) → three f Output x rest ≡ of_output x ++ rest
  last : f (Some done) 1 ++ [] ≡ []

tells : {B : Type 0} (f : Option RoleView → ℕ
    → List B) (r : RoleView) (width : ℕ) (rest : List B) → is_plain_role r ≡ true
    → is_width r width ≡ true → f (port_role (port_of r width)) width ++ rest ≡ f (Some r) width
    ++ rest
tells f r width rest h w = ap (λ (o : Option RoleView). f o width ++ rest) (role_found (port_of r width) r (role_of_port r width h w))

told : {B : Type 0} (f : Option RoleView → ℕ
    → List B) (r : RoleView) (width : ℕ) (ps : List PortView) (rest : List B)
    → is_plain_role r ≡ true → is_width r width ≡ true → gathered f ps ≡ rest
    → gathered f (port_of r width ∷ ps) ≡ f (Some r) width ++ rest
told f r width ps rest h w e = tells f r width (gathered f ps) h w ∙ ap (λ (l : List _). f (Some r) width ++ l) e

kernels_tell : {B : Type 0} (f : Option RoleView → ℕ → List B) (g : Name
    → List B) (ks : List Name) → list_all is_plain_name ks ≡ true
    → ((k : Name) (rest : List B) → f (Some (hold k)) 1 ++ (f (Some (ticks k)) 48 ++ rest) ≡ g k
    ++ rest) → gathered f (kernel_ports ks) ≡ flat_map g ks
kernels_tell f g [] h t = refl
kernels_tell f g (k ∷ ks) h t =
    let w = and_parts (is_plain_name k) (list_all is_plain_name ks) h in
    told f (hold k) 1 (port_of (ticks k) 48 ∷ kernel_ports ks) (f (Some (ticks k)) 48 ++ flat_map g ks) w.0 refl
    (told f (ticks k) 48 (kernel_ports ks) (flat_map g ks) w.0 refl (kernels_tell f g ks w.1 t))
    ∙ t k (flat_map g ks)

scalars_tell : {B : Type 0} (f : Option RoleView → ℕ → List B) (g : Scalar
    → List B) (ss : List Scalar) → list_all is_plain_scalar ss ≡ true
    → ((s : Scalar) → f (Some (scalar s.0 s.1)) s.2 ≡ g s)
    → gathered f (scalar_ports ss) ≡ flat_map g ss
scalars_tell f g [] h t = refl
scalars_tell f g (s ∷ ss) h t =
    let w = and_parts (is_plain_scalar s) (list_all is_plain_scalar ss) h in
    told f (scalar s.0 s.1) s.2 (scalar_ports ss) (flat_map g ss) w.0 refl (scalars_tell f g ss w.1 t)
    ∙ ap (λ l. l ++ flat_map g ss) (t s)

stream_tells : {B : Type 0} (f : Option RoleView → ℕ
    → List B) (side : Side) (x : Stream) (ps : List PortView) (rest : List B)
    → is_plain_stream x ≡ true → gathered f ps ≡ rest
    → gathered f (port_of (stream side Data x.0) x.1 ∷ port_of (stream side Valid x.0) 1
    ∷ port_of (stream side Ready x.0) 1 ∷ ps) ≡ three f side x rest
stream_tells f side x ps rest h e =
    told f (stream side Data x.0) x.1 (port_of (stream side Valid x.0) 1
    ∷ port_of (stream side Ready x.0) 1 ∷ ps) (f (Some (stream side Valid x.0)) 1
    ++ (f (Some (stream side Ready x.0)) 1 ++ rest)) h refl
    (told f (stream side Valid x.0) 1 (port_of (stream side Ready x.0) 1 ∷ ps) (f (Some (stream side Ready x.0)) 1 ++ rest) h refl
    (told f (stream side Ready x.0) 1 ps rest h refl e))

inputs_tell : {B : Type 0} (f : Option RoleView → ℕ → List B) (g : Stream
    → List B) (xs : List Stream) → list_all is_plain_stream xs ≡ true
    → ((x : Stream) (rest : List B) → three f Input x rest ≡ g x ++ rest)
    → gathered f (host_input_ports xs) ≡ flat_map g xs
inputs_tell f g [] h t = refl
inputs_tell f g (x ∷ xs) h t =
    let w = and_parts (is_plain_stream x) (list_all is_plain_stream xs) h in
    stream_tells f Input x (host_input_ports xs) (flat_map g xs) w.0 (inputs_tell f g xs w.1 t) ∙ t x (flat_map g xs)

outputs_tell : {B : Type 0} (f : Option RoleView → ℕ → List B) (g : Stream
    → List B) (xs : List Stream) → list_all is_plain_stream xs ≡ true
    → ((x : Stream) (rest : List B) → three f Output x rest ≡ g x ++ rest)
    → gathered f (host_output_ports xs) ≡ flat_map g xs
outputs_tell f g [] h t = refl
outputs_tell f g (x ∷ xs) h t =
    let w = and_parts (is_plain_stream x) (list_all is_plain_stream xs) h in
    stream_tells f Output x (host_output_ports xs) (flat_map g xs) w.0 (outputs_tell f g xs w.1 t) ∙ t x (flat_map g xs)

joined : {B : Type 0} (f : Option RoleView → ℕ → List B) (ps qs : List PortView) (a b : List B) → gathered f ps ≡ a → gathered f qs ≡ b → gathered f (ps ++ qs) ≡ a ++ b
joined f ps qs a b d e =
    flat_map-append (λ (p : PortView). f (port_role p) p.width) ps qs ∙ ap (λ l. l ++ gathered f qs) d ∙ ap (λ l. a ++ l) e

shape_tells : {B : Type 0} (f : Option RoleView → ℕ → List B) (gk : Name → List B) (gs : Scalar
    → List B) (gi go : Stream → List B) → Tells f gk gs gi go → (s : Shape) → IsTopShape s
    → gathered f (shape_ports s) ≡ flat_map gk s.kernels
    ++ (flat_map gs s.scalars ++ (flat_map gi s.inputs ++ (flat_map go s.outputs ++ [])))
shape_tells f gk gs gi go t s h =
    let plain = all_plain s.kernels s.scalars h.shape.kernels h.shape.scalars in
    let last : gathered f (done_port ∷ []) ≡ [] = tells f done 1 [] refl refl ∙ t.last in
    let outputs = joined f (host_output_ports s.outputs) (done_port ∷ []) (flat_map go s.outputs) [] (outputs_tell f go s.outputs h.shape.outputs t.output) last in
    let inputs = joined f (host_input_ports s.inputs) (from_outputs s.outputs) (flat_map gi s.inputs) (flat_map go s.outputs ++ []) (inputs_tell f gi s.inputs h.shape.inputs t.input) outputs in
    let scalars = joined f (scalar_ports s.scalars) (from_inputs s.inputs s.outputs)
    (flat_map gs s.scalars) (flat_map gi s.inputs ++ (flat_map go s.outputs
    ++ [])) (scalars_tell f gs s.scalars plain t.scalar) inputs in
    let rest = flat_map gk s.kernels ++ (flat_map gs s.scalars ++ (flat_map gi s.inputs ++ (flat_map go s.outputs ++ []))) in
    let kernels : gathered f (kernel_ports s.kernels ++ from_scalars s.scalars s.inputs s.outputs) ≡ rest =
    joined f (kernel_ports s.kernels) (from_scalars s.scalars s.inputs s.outputs)
    (flat_map gk s.kernels) (flat_map gs s.scalars ++ (flat_map gi s.inputs
    ++ (flat_map go s.outputs ++ [])))
    (kernels_tell f gk s.kernels h.shape.kernels t.kernel) scalars in
    ap (gathered f) (grouped s)
    ∙ told f clock 1 (port_of reset 1 ∷ (kernel_ports s.kernels ++ from_scalars s.scalars s.inputs s.outputs)) (f (Some reset) 1 ++ rest) refl refl
    (told f reset 1 (kernel_ports s.kernels ++ from_scalars s.scalars s.inputs s.outputs) rest refl refl kernels)
    ∙ t.first rest

all_nothing : {A B : Type 0} (f : A → List B) (xs : List A) → ((x : A) → f x ≡ []) → flat_map f xs ≡ []
all_nothing f [] e = refl
all_nothing f (x ∷ xs) e = ap (λ l. l ++ flat_map f xs) (e x) ∙ all_nothing f xs e

all_one : {A : Type 0} (f : A → List A) (xs : List A) → ((x : A) → f x ≡ x ∷ []) → flat_map f xs ≡ xs
all_one f [] e = refl
all_one f (x ∷ xs) e = ap (λ l. l ++ flat_map f xs) (e x) ∙ ap (λ (l : List _). x ∷ l) (all_one f xs e)

four : {B : Type 0} (a b c d x y z w : List B) → a ≡ x → b ≡ y → c ≡ z → d ≡ w → a ++ (b ++ (c ++ (d ++ []))) ≡ x ++ (y ++ (z ++ (w ++ [])))
four a b c d x y z w e f g h =
    ap (λ l. l ++ (b ++ (c ++ (d ++ [])))) e ∙ ap (λ l. x ++ (l ++ (c ++ (d ++ [])))) f ∙ ap (λ l. x ++ (y ++ (l ++ (d ++ [])))) g ∙ ap (λ l. x ++ (y ++ (z ++ (l ++ [])))) h

pub kernels_told : (s : Shape) → IsTopShape s → gathered kernel_in (shape_ports s) ≡ s.kernels
kernels_told s h =
    let gk = λ (k : Name). k ∷ [] in
    let gs : Scalar → List Name = λ a. [] in
    let gx : Stream → List Name = λ x. [] in
    shape_tells kernel_in gk gs gx gx (record { first = λ r. refl; kernel = λ k r. refl; scalar = λ a. refl; input = λ x r. refl; output = λ x r. refl; last = refl }) s h
    ∙ four (flat_map gk s.kernels) (flat_map gs s.scalars) (flat_map gx s.inputs)
    (flat_map gx s.outputs) s.kernels [] [] [] (all_one gk s.kernels (λ x. refl))
    (all_nothing gs s.scalars (λ x. refl)) (all_nothing gx s.inputs (λ x. refl))
    (all_nothing gx s.outputs (λ x. refl))
    ∙ append-nil s.kernels

pub scalars_told : (s : Shape) → IsTopShape s → gathered scalar_in (shape_ports s) ≡ s.scalars
scalars_told s h =
    let gk : Name → List Scalar = λ k. [] in
    let gs = λ (a : Scalar). a ∷ [] in
    let gx : Stream → List Scalar = λ x. [] in
    shape_tells scalar_in gk gs gx gx (record { first = λ r. refl; kernel = λ k r. refl; scalar = λ a. refl; input = λ x r. refl; output = λ x r. refl; last = refl }) s h
    ∙ four (flat_map gk s.kernels) (flat_map gs s.scalars) (flat_map gx s.inputs)
    (flat_map gx s.outputs) [] s.scalars [] [] (all_nothing gk s.kernels (λ x. refl))
    (all_one gs s.scalars (λ x. refl)) (all_nothing gx s.inputs (λ x. refl))
    (all_nothing gx s.outputs (λ x. refl))
    ∙ append-nil s.scalars

pub inputs_told : (s : Shape) → IsTopShape s → gathered input_in (shape_ports s) ≡ s.inputs
inputs_told s h =
    let gk : Name → List Stream = λ k. [] in
    let gs : Scalar → List Stream = λ a. [] in
    let gi = λ (x : Stream). x ∷ [] in
    let go : Stream → List Stream = λ x. [] in
    shape_tells input_in gk gs gi go (record { first = λ r. refl; kernel = λ k r. refl; scalar = λ a. refl; input = λ x r. refl; output = λ x r. refl; last = refl }) s h
    ∙ four (flat_map gk s.kernels) (flat_map gs s.scalars) (flat_map gi s.inputs)
    (flat_map go s.outputs) [] [] s.inputs [] (all_nothing gk s.kernels (λ x. refl))
    (all_nothing gs s.scalars (λ x. refl)) (all_one gi s.inputs (λ x. refl))
    (all_nothing go s.outputs (λ x. refl))
    ∙ append-nil s.inputs

pub outputs_told : (s : Shape) → IsTopShape s → gathered output_in (shape_ports s) ≡ s.outputs
outputs_told s h =
    let gk : Name → List Stream = λ k. [] in
    let gs : Scalar → List Stream = λ a. [] in
    let gi : Stream → List Stream = λ x. [] in
    let go = λ (x : Stream). x ∷ [] in
    shape_tells output_in gk gs gi go (record { first = λ r. refl; kernel = λ k r. refl; scalar = λ a. refl; input = λ x r. refl; output = λ x r. refl; last = refl }) s h
    ∙ four (flat_map gk s.kernels) (flat_map gs s.scalars) (flat_map gi s.inputs)
    (flat_map go s.outputs) [] [] [] s.outputs (all_nothing gk s.kernels (λ x. refl))
    (all_nothing gs s.scalars (λ x. refl)) (all_nothing gi s.inputs (λ x. refl))
    (all_one go s.outputs (λ x. refl))
    ∙ append-nil s.outputs

-- a module has the ports of one shape alone

shape_of : List PortView → Shape
shape_of ps = record { kernels = gathered kernel_in ps; scalars = gathered scalar_in ps; inputs = gathered input_in ps; outputs = gathered output_in ps }

shape_told : (s : Shape) → IsTopShape s → shape_of (shape_ports s) ≡ s
unfolding shape_of
shape_told s h =
    let p = shape_ports s in
    let a = λ (l : List Name). let t : Shape = record { kernels = l; scalars = gathered scalar_in p; inputs = gathered input_in p; outputs = gathered output_in p } in t in
    let b = λ (l : List Scalar). let t : Shape = record { kernels = s.kernels; scalars = l; inputs = gathered input_in p; outputs = gathered output_in p } in t in
    let c = λ (l : List Stream). let t : Shape = record { kernels = s.kernels; scalars = s.scalars; inputs = l; outputs = gathered output_in p } in t in
    let d = λ (l : List Stream). let t : Shape = record { kernels = s.kernels; scalars = s.scalars; inputs = s.inputs; outputs = l } in t in
    ap a (kernels_told s h) ∙ ap b (scalars_told s h) ∙ ap c (inputs_told s h) ∙ ap d (outputs_told s h)

pub one_alone : (m : Module) (s t : Shape) → IsTop m s → IsTop m t → s ≡ t
one_alone m s t h g = sym (shape_told s h.is) ∙ ap shape_of (sym h.has ∙ g.has) ∙ shape_told t g.is
