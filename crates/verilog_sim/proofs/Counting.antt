-- All shapes of a module have the same counts, which the first bytes of the names of its ports tell.
use Rattle.std.proofs.Common.{◌≡◌, ℕ, suc, cond, ◌+◌, List, [], ◌∷◌, ◌++◌, Bool, true, false, length, map, refl, sym, ap, ◌∙◌, arith}
use Rattle.std.proofs.lemmas.List.Sums.{sum_by-append}
use Rattle.std.specs.Prelude.{count_by, codes, nat_eq, not, ◌&&◌}
use Rattle.rtl_ir.specs.declared.design.Module.{Module}
use Rattle.rtl_ir.specs.Ports.{Shape, PortView, HasShape, port_view, kernel_ports, scalar_ports, host_input_ports, host_output_ports, shape_ports, outer_of}
use Rattle.verilog_sim.proofs.Shapes.{same_outer}

-- whether a name begins with a byte
abbrev starts : ℕ → List ℕ → Bool
starts b [] = false
starts b (x ∷ xs) = nat_eq x b

-- whether a port has this direction and a name that begins with a byte
abbrev begins : ℕ → Bool → PortView → Bool
begins b true p = p.output && starts b p.name
begins b false p = not p.output && starts b p.name

abbrev done_port : PortView
done_port = record { name = codes "done"; width = 1; output = true }

-- how many items pass a test, by a recursion
abbrev tally : {A : Type 0} → (A → Bool) → List A → ℕ
tally f [] = 0
tally f (x ∷ xs) = cond (f x) 1 0 + tally f xs

tally_is : {A : Type 0} (f : A → Bool) (xs : List A) → count_by f xs ≡ tally f xs
tally_is f [] = refl
tally_is f (x ∷ xs) = let e = sum_by-append (λ p. cond (f p) 1 0) (x ∷ []) xs in let q = tally_is f xs in omega (arith, e, q)

tally_append : (f : PortView → Bool) (xs ys : List PortView) → tally f (xs ++ ys) ≡ tally f xs + tally f ys
tally_append f [] ys = let e : tally f ys ≡ 0 + tally f ys = omega arith in e
tally_append f (x ∷ xs) ys =
    let e = tally_append f xs ys in
    let more : cond (f x) 1 0 + tally f (xs ++ ys) ≡ cond (f x) 1 0 + tally f xs + tally f ys = omega (arith, e) in
    more

tally_map : {A B : Type 0} (f : B → Bool) (g : A → B) (xs : List A) → tally f (map g xs) ≡ tally (λ x. f (g x)) xs
tally_map f g [] = refl
tally_map f g (x ∷ xs) = ap (λ n. cond (f (g x)) 1 0 + n) (tally_map f g xs)

h_in_kernels : (xs : List (List ℕ)) → tally (begins 104 false) (kernel_ports xs) ≡ length xs
h_in_kernels [] = refl
h_in_kernels (x ∷ xs) = let e = h_in_kernels xs in let one : 1 + (0 + tally (begins 104 false) (kernel_ports xs)) ≡ suc (length xs) = omega (arith, e) in one

h_in_scalars : (xs : List (List ℕ × List ℕ × ℕ)) → tally (begins 104 false) (scalar_ports xs) ≡ 0
h_in_scalars [] = refl
h_in_scalars (x ∷ xs) = let e = h_in_scalars xs in omega (arith, e)

h_in_inputs : (xs : List (List ℕ × ℕ)) → tally (begins 104 false) (host_input_ports xs) ≡ 0
h_in_inputs [] = refl
h_in_inputs (x ∷ xs) = let e = h_in_inputs xs in omega (arith, e)

h_in_outputs : (xs : List (List ℕ × ℕ)) → tally (begins 104 false) (host_output_ports xs) ≡ 0
h_in_outputs [] = refl
h_in_outputs (x ∷ xs) = let e = h_in_outputs xs in omega (arith, e)

h_in_shape : (s : Shape) → tally (begins 104 false) (shape_ports s) ≡ length s.kernels
h_in_shape s =
    omega (
      arith,
      tally_append (begins 104 false) (kernel_ports s.kernels ++ scalar_ports s.scalars ++ host_input_ports
          s.inputs ++ host_output_ports s.outputs) (done_port ∷ []),
      tally_append (begins 104 false)
          (kernel_ports s.kernels ++ scalar_ports s.scalars ++ host_input_ports s.inputs) (host_output_ports s.outputs),
      tally_append (begins 104 false) (kernel_ports s.kernels ++ scalar_ports s.scalars) (host_input_ports s.inputs),
      tally_append (begins 104 false) (kernel_ports s.kernels) (scalar_ports s.scalars),
      h_in_kernels s.kernels,
      h_in_scalars s.scalars,
      h_in_inputs s.inputs,
      h_in_outputs s.outputs,
    )

kernels_counted : (m : Module) (s : Shape) → HasShape m s → count_by (λ p. begins 104 false (port_view m p)) m.ports ≡ length s.kernels
kernels_counted m s h = tally_is (λ p. begins 104 false (port_view m p)) m.ports
    ∙ sym (tally_map (begins 104 false) (port_view m) m.ports) ∙ ap (tally (begins 104 false)) h ∙ h_in_shape s

s_in_kernels : (xs : List (List ℕ)) → tally (begins 115 false) (kernel_ports xs) ≡ 0
s_in_kernels [] = refl
s_in_kernels (x ∷ xs) = let e = s_in_kernels xs in omega (arith, e)

s_in_scalars : (xs : List (List ℕ × List ℕ × ℕ)) → tally (begins 115 false) (scalar_ports xs) ≡ length xs
s_in_scalars [] = refl
s_in_scalars (x ∷ xs) = let e = s_in_scalars xs in let one : 1 + tally (begins 115 false) (scalar_ports xs) ≡ suc (length xs) = omega (arith, e) in one

s_in_inputs : (xs : List (List ℕ × ℕ)) → tally (begins 115 false) (host_input_ports xs) ≡ 0
s_in_inputs [] = refl
s_in_inputs (x ∷ xs) = let e = s_in_inputs xs in omega (arith, e)

s_in_outputs : (xs : List (List ℕ × ℕ)) → tally (begins 115 false) (host_output_ports xs) ≡ 0
s_in_outputs [] = refl
s_in_outputs (x ∷ xs) = let e = s_in_outputs xs in omega (arith, e)

s_in_shape : (s : Shape) → tally (begins 115 false) (shape_ports s) ≡ length s.scalars
s_in_shape s =
    omega (
      arith,
      tally_append (begins 115 false) (kernel_ports s.kernels ++ scalar_ports s.scalars ++ host_input_ports
          s.inputs ++ host_output_ports s.outputs) (done_port ∷ []),
      tally_append (begins 115 false)
          (kernel_ports s.kernels ++ scalar_ports s.scalars ++ host_input_ports s.inputs) (host_output_ports s.outputs),
      tally_append (begins 115 false) (kernel_ports s.kernels ++ scalar_ports s.scalars) (host_input_ports s.inputs),
      tally_append (begins 115 false) (kernel_ports s.kernels) (scalar_ports s.scalars),
      s_in_kernels s.kernels,
      s_in_scalars s.scalars,
      s_in_inputs s.inputs,
      s_in_outputs s.outputs,
    )

scalars_counted : (m : Module) (s : Shape) → HasShape m s → count_by (λ p. begins 115 false (port_view m p)) m.ports ≡ length s.scalars
scalars_counted m s h = tally_is (λ p. begins 115 false (port_view m p)) m.ports
    ∙ sym (tally_map (begins 115 false) (port_view m) m.ports) ∙ ap (tally (begins 115 false)) h ∙ s_in_shape s

i_in_kernels : (xs : List (List ℕ)) → tally (begins 105 true) (kernel_ports xs) ≡ 0
i_in_kernels [] = refl
i_in_kernels (x ∷ xs) = let e = i_in_kernels xs in omega (arith, e)

i_in_scalars : (xs : List (List ℕ × List ℕ × ℕ)) → tally (begins 105 true) (scalar_ports xs) ≡ 0
i_in_scalars [] = refl
i_in_scalars (x ∷ xs) = let e = i_in_scalars xs in omega (arith, e)

i_in_inputs : (xs : List (List ℕ × ℕ)) → tally (begins 105 true) (host_input_ports xs) ≡ length xs
i_in_inputs [] = refl
i_in_inputs (x ∷ xs) = let e = i_in_inputs xs in let one :
    0 + (0 + (1 + tally (begins 105 true) (host_input_ports xs))) ≡ suc (length xs) = omega (arith, e) in one

i_in_outputs : (xs : List (List ℕ × ℕ)) → tally (begins 105 true) (host_output_ports xs) ≡ 0
i_in_outputs [] = refl
i_in_outputs (x ∷ xs) = let e = i_in_outputs xs in omega (arith, e)

i_in_shape : (s : Shape) → tally (begins 105 true) (shape_ports s) ≡ length s.inputs
i_in_shape s =
    omega (
      arith,
      tally_append (begins 105 true) (kernel_ports s.kernels ++ scalar_ports s.scalars ++ host_input_ports
          s.inputs ++ host_output_ports s.outputs) (done_port ∷ []),
      tally_append (begins 105 true)
          (kernel_ports s.kernels ++ scalar_ports s.scalars ++ host_input_ports s.inputs) (host_output_ports s.outputs),
      tally_append (begins 105 true) (kernel_ports s.kernels ++ scalar_ports s.scalars) (host_input_ports s.inputs),
      tally_append (begins 105 true) (kernel_ports s.kernels) (scalar_ports s.scalars),
      i_in_kernels s.kernels,
      i_in_scalars s.scalars,
      i_in_inputs s.inputs,
      i_in_outputs s.outputs,
    )

inputs_counted : (m : Module) (s : Shape) → HasShape m s → count_by (λ p. begins 105 true (port_view m p)) m.ports ≡ length s.inputs
inputs_counted m s h = tally_is (λ p. begins 105 true (port_view m p)) m.ports
    ∙ sym (tally_map (begins 105 true) (port_view m) m.ports) ∙ ap (tally (begins 105 true)) h ∙ i_in_shape s

o_in_kernels : (xs : List (List ℕ)) → tally (begins 111 false) (kernel_ports xs) ≡ 0
o_in_kernels [] = refl
o_in_kernels (x ∷ xs) = let e = o_in_kernels xs in omega (arith, e)

o_in_scalars : (xs : List (List ℕ × List ℕ × ℕ)) → tally (begins 111 false) (scalar_ports xs) ≡ 0
o_in_scalars [] = refl
o_in_scalars (x ∷ xs) = let e = o_in_scalars xs in omega (arith, e)

o_in_inputs : (xs : List (List ℕ × ℕ)) → tally (begins 111 false) (host_input_ports xs) ≡ 0
o_in_inputs [] = refl
o_in_inputs (x ∷ xs) = let e = o_in_inputs xs in omega (arith, e)

o_in_outputs : (xs : List (List ℕ × ℕ)) → tally (begins 111 false) (host_output_ports xs) ≡ length xs
o_in_outputs [] = refl
o_in_outputs (x ∷ xs) = let e = o_in_outputs xs in let one :
    0 + (0 + (1 + tally (begins 111 false) (host_output_ports xs))) ≡ suc (length xs) = omega (arith, e) in one

o_in_shape : (s : Shape) → tally (begins 111 false) (shape_ports s) ≡ length s.outputs
o_in_shape s =
    omega (
      arith,
      tally_append (begins 111 false) (kernel_ports s.kernels ++ scalar_ports s.scalars ++ host_input_ports
          s.inputs ++ host_output_ports s.outputs) (done_port ∷ []),
      tally_append (begins 111 false)
          (kernel_ports s.kernels ++ scalar_ports s.scalars ++ host_input_ports s.inputs) (host_output_ports s.outputs),
      tally_append (begins 111 false) (kernel_ports s.kernels ++ scalar_ports s.scalars) (host_input_ports s.inputs),
      tally_append (begins 111 false) (kernel_ports s.kernels) (scalar_ports s.scalars),
      o_in_kernels s.kernels,
      o_in_scalars s.scalars,
      o_in_inputs s.inputs,
      o_in_outputs s.outputs,
    )

outputs_counted : (m : Module) (s : Shape) → HasShape m s → count_by (λ p. begins 111 false (port_view m p)) m.ports ≡ length s.outputs
outputs_counted m s h = tally_is (λ p. begins 111 false (port_view m p)) m.ports
    ∙ sym (tally_map (begins 111 false) (port_view m) m.ports) ∙ ap (tally (begins 111 false)) h ∙ o_in_shape s

-- the nets of the outer ports are the same by all shapes that a module has
pub outer_once : (m : Module) (s t : Shape) → HasShape m s → HasShape m t → outer_of s m ≡ outer_of t m
outer_once m s t h g =
    same_outer m s t (sym (kernels_counted m s h) ∙ kernels_counted m t g)
    (sym (scalars_counted m s h) ∙ scalars_counted m t g) (sym (inputs_counted m s h) ∙ inputs_counted m t g)
    (sym (outputs_counted m s h) ∙ outputs_counted m t g)
