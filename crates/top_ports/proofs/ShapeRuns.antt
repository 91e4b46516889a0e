-- The ports of a shape lead to its end.
use Rattle.std.proofs.Common.{◌≡◌, ◌∙◌, ℕ, ◌<◌, Bool, true, List, [], ◌∷◌, ◌++◌, length, Some, refl, sym, ap, arith}
use Rattle.std.specs.List.{list_all}
use Rattle.std.proofs.lemmas.Bool.{and_parts}
use Rattle.std.proofs.lemmas.List.{append_assoc, append-nil}
use Rattle.rtl_ir.specs.Ports.{Shape, PortView, kernel_ports, scalar_ports, host_input_ports, host_output_ports, shape_ports, is_plain_name}
use Rattle.top_ports.specs.Shapes.{Name, IsTopShape}
use Rattle.top_ports.specs.Roles.{clock, reset, hold, ticks, scalar, stream, done}
use Rattle.top_ports.specs.Stages.{StageView, start, after_clock, after_reset, after_hold, after_ticks, after_scalar, after_data, after_ready, after_done, from_kernel, next, run}
use Rattle.top_ports.specs.declared.role.Side.TheVariants.{Input, Output}
use Rattle.top_ports.specs.declared.role.Part.TheVariants.{Data}
use Rattle.top_ports.proofs.Runs.{port_of, role_of_port, step, run_ticks, run_stream, done_port}
use Rattle.top_ports.proofs.ByKernel.{Scalar, AreFound, is_plain_scalar, all_plain, are_found}

abbrev pub Stream : Type 0
Stream = Name × ℕ

abbrev pub is_plain_stream : Stream → Bool
is_plain_stream x = is_plain_name x.0

-- the ports of a shape, grouped to the right
abbrev pub from_outputs : List Stream → List PortView
from_outputs ys = host_output_ports ys ++ done_port ∷ []

abbrev pub from_inputs : List Stream → List Stream → List PortView
from_inputs xs ys = host_input_ports xs ++ from_outputs ys

abbrev pub from_scalars : List Scalar → List Stream → List Stream → List PortView
from_scalars ss xs ys = scalar_ports ss ++ from_inputs xs ys

pub grouped : (s : Shape) → shape_ports s ≡ port_of clock 1 ∷ port_of reset 1 ∷ (kernel_ports s.kernels ++ from_scalars s.scalars s.inputs s.outputs)
grouped s =
    let k = kernel_ports s.kernels in
    let a = scalar_ports s.scalars in
    let x = host_input_ports s.inputs in
    let y = host_output_ports s.outputs in
    let d = done_port ∷ [] in
    let e : (k ++ a ++ x ++ y ++ d) ≡ k ++ (a ++ (x ++ (y ++ d))) =
    append_assoc (k ++ a ++ x) y d ∙ append_assoc (k ++ a) x (y ++ d) ∙ append_assoc k a (x ++ (y ++ d)) in
    ap (λ (l : List PortView). port_of clock 1 ∷ port_of reset 1 ∷ l) e

-- streams may follow in this stage
pub record TakesStreams (q : StageView) : Type 0 where
  pub input : (x : Name) → next q (stream Input Data x) ≡ Some (after_data Input x)
  pub output : (x : Name) → next q (stream Output Data x) ≡ Some (after_data Output x)
  pub ends : next q done ≡ Some after_done

pub outputs_run : (q : StageView) (ys : List Stream) → list_all is_plain_stream ys ≡ true
    → ((x : Name) → next q (stream Output Data x) ≡ Some (after_data Output x))
    → next q done ≡ Some after_done → run (Some q) (from_outputs ys) ≡ Some after_done
outputs_run q [] h o d = step q done_port done (Some after_done) [] (role_of_port done 1 refl refl) d
outputs_run q (y ∷ ys) h o d =
    let w = and_parts (is_plain_stream y) (list_all is_plain_stream ys) h in
    run_stream q Output y.0 y.1 (from_outputs ys) w.0 (o y.0) ∙ outputs_run (after_ready Output) ys w.1 (λ x. refl) refl

pub inputs_run : (q : StageView) (xs ys : List Stream) → list_all is_plain_stream xs ≡ true → list_all is_plain_stream ys ≡ true → TakesStreams q → run (Some q) (from_inputs xs ys) ≡ Some after_done
inputs_run q [] ys h g t = outputs_run q ys g t.output t.ends
inputs_run q (x ∷ xs) ys h g t =
    let w = and_parts (is_plain_stream x) (list_all is_plain_stream xs) h in
    run_stream q Input x.0 x.1 (from_inputs xs ys) w.0 (t.input x.0) ∙ inputs_run (after_ready Input) xs ys w.1 g (record { input = λ n. refl; output = λ n. refl; ends = refl })

-- scalars of these kernels may follow, and streams
pub record TakesScalars (q : StageView) (ks : List Name) : Type 0 where
  pub scalars : (k a : Name) → next q (scalar k a) ≡ from_kernel ks k
  pub streams : TakesStreams q

pub scalars_run : (q : StageView) (ks : List Name) (ss : List Scalar) (xs ys : List Stream)
    → list_all is_plain_scalar ss ≡ true → AreFound ks ss → list_all is_plain_stream xs ≡ true
    → list_all is_plain_stream ys ≡ true → TakesScalars q ks
    → run (Some q) (from_scalars ss xs ys) ≡ Some after_done
scalars_run q ks [] xs ys h f i o t = inputs_run q xs ys i o t.streams
scalars_run q ks (s ∷ ss) xs ys h f i o t =
    let w = and_parts (is_plain_scalar s) (list_all is_plain_scalar ss) h in
    step q (port_of (scalar s.0 s.1) s.2) (scalar s.0 s.1) (Some (after_scalar f.0)) (from_scalars ss xs ys) (role_of_port (scalar s.0 s.1) s.2 w.0 refl) (t.scalars s.0 s.1 ∙ f.1)
    ∙ scalars_run (after_scalar f.0) f.0 ss xs ys w.1 f.2 i o (record { scalars = λ k a. refl; streams = record { input = λ n. refl; output = λ n. refl; ends = refl } })

kernel_run : (q : StageView) (ks : List Name) (k : Name) (rest : List PortView)
    → is_plain_name k ≡ true → next q (hold k) ≡ Some (after_hold ks k)
    → run (Some q) (port_of (hold k) 1 ∷ port_of (ticks k) 48
    ∷ rest) ≡ run (Some (after_ticks (ks ++ k ∷ []))) rest
kernel_run q ks k rest h e =
    step q (port_of (hold k) 1) (hold k) (Some (after_hold ks k)) (port_of (ticks k) 48 ∷ rest) (role_of_port (hold k) 1 h refl) e
    ∙ run_ticks ks k rest h

pub kernels_run : (ks ls : List Name) (rest : List PortView) → list_all is_plain_name ls ≡ true → run (Some (after_ticks ks)) (kernel_ports ls ++ rest) ≡ run (Some (after_ticks (ks ++ ls))) rest
kernels_run ks [] rest h = ap (λ (l : List Name). run (Some (after_ticks l)) rest) (sym (append-nil ks))
kernels_run ks (l ∷ ls) rest h =
    let w = and_parts (is_plain_name l) (list_all is_plain_name ls) h in
    kernel_run (after_ticks ks) ks l (kernel_ports ls ++ rest) w.0 refl
    ∙ kernels_run (ks ++ l ∷ []) ls rest w.1
    ∙ ap (λ (m : List Name). run (Some (after_ticks m)) rest) (append_assoc ks (l ∷ []) ls)

parts_run : (ks : List Name) (ss : List Scalar) (xs ys : List Stream) → 0 < length ks
    → list_all is_plain_name ks ≡ true → list_all is_plain_scalar ss ≡ true → AreFound ks ss
    → list_all is_plain_stream xs ≡ true → list_all is_plain_stream ys ≡ true
    → run (Some start) (port_of clock 1 ∷ port_of reset 1
    ∷ (kernel_ports ks ++ from_scalars ss xs ys)) ≡ Some after_done
parts_run [] ss xs ys some h g f i o = absurd (omega (arith, some))
parts_run (k ∷ ks) ss xs ys some h g f i o =
    let w = and_parts (is_plain_name k) (list_all is_plain_name ks) h in
    let rest = kernel_ports ks ++ from_scalars ss xs ys in
    step start (port_of clock 1) clock (Some after_clock) (port_of reset 1 ∷ port_of (hold k) 1 ∷ port_of (ticks k) 48 ∷ rest) (role_of_port clock 1 refl refl) refl
    ∙ step after_clock (port_of reset 1) reset (Some after_reset) (port_of (hold k) 1 ∷ port_of (ticks k) 48 ∷ rest) (role_of_port reset 1 refl refl) refl
    ∙ kernel_run after_reset [] k rest w.0 refl
    ∙ kernels_run (k ∷ []) ks (from_scalars ss xs ys) w.1
    ∙ scalars_run (after_ticks (k ∷ ks)) (k ∷ ks) ss xs ys g f i o (record { scalars = λ n a. refl; streams = record { input = λ n. refl; output = λ n. refl; ends = refl } })

pub shape_run : (s : Shape) → IsTopShape s → run (Some start) (shape_ports s) ≡ Some after_done
shape_run s h =
    ap (run (Some start)) (grouped s)
    ∙ parts_run s.kernels s.scalars s.inputs s.outputs h.shape.some h.shape.kernels
    (all_plain s.kernels s.scalars h.shape.kernels h.shape.scalars)
    (are_found s.kernels s.scalars h.by_kernel) h.shape.inputs h.shape.outputs
