-- The top module grows port by port.
use Rattle.std.proofs.Common.{◌≡◌, ℕ, zero, suc, ◌+◌, ◌<◌, ◌≤◌, Bool, true, false, List, [], ◌∷◌, ◌++◌, map, drop, get_or, length, refl, sym, ap, ◌∙◌, arith, append-nil, append_assoc, length-append}
use Rattle.std.specs.Prelude.{codes}
use Rattle.std.specs.List.{flat_map}
use Rattle.fix_arith.specs.Types.{width_of}
use Rattle.rtl_ir.specs.declared.design.Net.{Net}
use Rattle.rtl_ir.specs.declared.design.Port.{Port}
use Rattle.rtl_ir.specs.declared.design.Module.{Module}
use Rattle.rtl_ir.specs.Ports.{PortView, input_port, output_port, kernel_ports, scalar_ports, host_input_ports, host_output_ports, shape_ports}
use Rattle.rtl_build.specs.Ports.{with_port}
use Rattle.rtl_build.specs.Wires.{empty}
use Rattle.stream_graph.specs.declared.kernel.Kernel.{Kernel}
use Rattle.manager_links.specs.declared.hosts.HostPort.{HostPort}
use Rattle.manager_links.specs.declared.project.Project.{Project}
use Rattle.manager_links.specs.Rules.{kernel_names}
use Rattle.project_rtl.specs.Shapes.{scalar_shapes, host_shape, shape_of}
use Rattle.project_rtl.specs.Tops.{port_net, ports_from}
use Rattle.project_design.specs.Building.{with_ports}
use Rattle.project_design.proofs.Instancing.{next_item}

-- ---- one port, and more

pub ported : (m n : Module) (x y : List ℕ) (w : ℕ) (o : Bool) → n ≡ with_port m x w o → x ≡ y → n ≡ with_port m y w o
ported m n x y w o is name = is ∙ ap (λ k. with_port m k w o) name

pub along : (m n : Module) (ps rest : List PortView) → n ≡ with_ports m ps → with_ports m (ps ++ rest) ≡ with_ports n rest
along m n ps rest e = append ps m ∙ ap (λ k. with_ports k rest) (sym e)
  where
    append : (ps : List PortView) (m : Module) → with_ports m (ps ++ rest) ≡ with_ports (with_ports m ps) rest
    append [] m = refl
    append (p ∷ ps) m = append ps (with_port m p.name p.width p.output)

-- ---- the module that they make

abbrev with_parts : Module → List Net → List Port → Module
with_parts m nets ports = record { name = m.name; ports = ports; nets = nets; mems = m.mems; assigns = m.assigns; updates = m.updates; instances = m.instances }

pub parts_of : (m : Module) (ps : List PortView) → with_ports m ps ≡ with_parts m (m.nets ++ map port_net ps) (m.ports ++ ports_from (length m.nets) ps)
parts_of m [] = ap (λ l. with_parts m l m.ports) (sym (append-nil m.nets)) ∙ ap (λ l. with_parts m (m.nets ++ []) l) (sym (append-nil m.ports))
parts_of m (p ∷ ps) =
    let one = with_port m p.name p.width p.output in
    let nets : one.nets ++ map port_net ps ≡ m.nets ++ map port_net (p ∷ ps) = append_assoc m.nets (port_net p ∷ []) (map port_net ps) in
    let len : length one.nets ≡ length m.nets + 1 = length-append m.nets (port_net p ∷ []) in
    let ports : one.ports ++ ports_from (length one.nets) ps ≡ m.ports ++ ports_from (length m.nets) (p ∷ ps) =
    ap (λ k. one.ports ++ ports_from k ps) len ∙ append_assoc m.ports (record { net = length m.nets; output = p.output } ∷ []) (ports_from (length m.nets + 1) ps) in
    parts_of one ps ∙ ap (λ l. with_parts m l (one.ports ++ ports_from (length one.nets) ps)) nets ∙ ap (λ l. with_parts m (m.nets ++ map port_net (p ∷ ps)) l) ports

-- ---- loops

-- the ports of one more item, where those of a list are those of its first item and then of the rest
step : {A : Type 0} (f : List A → List PortView) (one : List PortView) (xs : List A) (i : ℕ) (x : A) (m n s : Module) → i < length xs → x ≡ get_or xs i x
    → f (x ∷ drop (i + 1) xs) ≡ one ++ f (drop (i + 1) xs)
    → n ≡ with_ports m one → with_ports m (f (drop i xs)) ≡ s → with_ports n (f (drop (i + 1) xs)) ≡ s
step f one xs i x m n s lt at split e h =
    sym (along m n one (f (drop (i + 1) xs)) e) ∙ ap (with_ports m) (sym split)
    ∙ ap (λ l. with_ports m (f l)) (sym (next_item xs i x lt at)) ∙ h

pub kernel_step : (kernels : List Kernel) (i : ℕ) (x : Kernel) (m n s : Module) → i < length kernels → x ≡ get_or kernels i x
    → n ≡ with_ports m (kernel_ports (x.name ∷ []))
    → with_ports m (kernel_ports (kernel_names (drop i kernels))) ≡ s → with_ports n (kernel_ports (kernel_names (drop (i + 1) kernels))) ≡ s
kernel_step kernels i x m n s lt at = step (λ ks. kernel_ports (kernel_names ks)) (kernel_ports (x.name ∷ [])) kernels i x m n s lt at refl

pub input_step : (hosts : List HostPort) (i : ℕ) (x : HostPort) (m n s : Module) → i < length hosts → x ≡ get_or hosts i x
    → n ≡ with_ports m (host_input_ports (host_shape x ∷ []))
    → with_ports m (host_input_ports (map host_shape (drop i hosts))) ≡ s → with_ports n (host_input_ports (map host_shape (drop (i + 1) hosts))) ≡ s
input_step hosts i x m n s lt at = step (λ hs. host_input_ports (map host_shape hs)) (host_input_ports (host_shape x ∷ [])) hosts i x m n s lt at refl

pub output_step : (hosts : List HostPort) (i : ℕ) (x : HostPort) (m n s : Module) → i < length hosts → x ≡ get_or hosts i x
    → n ≡ with_ports m (host_output_ports (host_shape x ∷ []))
    → with_ports m (host_output_ports (map host_shape (drop i hosts))) ≡ s → with_ports n (host_output_ports (map host_shape (drop (i + 1) hosts))) ≡ s
output_step hosts i x m n s lt at = step (λ hs. host_output_ports (map host_shape hs)) (host_output_ports (host_shape x ∷ [])) hosts i x m n s lt at refl

scalars_append : (xs ys : List (List ℕ × List ℕ × ℕ)) → scalar_ports (xs ++ ys) ≡ scalar_ports xs ++ scalar_ports ys
scalars_append [] ys = refl
scalars_append (x ∷ xs) ys = ap (λ l. input_port (codes "scalar$" ++ x.0 ++ codes "$" ++ x.1) x.2 ∷ l) (scalars_append xs ys)

pub scalars_step : (kernels : List Kernel) (i : ℕ) (x : Kernel) (m n s : Module) → i < length kernels → x ≡ get_or kernels i x
    → n ≡ with_ports m (scalar_ports (scalar_shapes x))
    → with_ports m (scalar_ports (flat_map scalar_shapes (drop i kernels))) ≡ s → with_ports n (scalar_ports (flat_map scalar_shapes (drop (i + 1) kernels))) ≡ s
scalars_step kernels i x m n s lt at = step (λ ks. scalar_ports (flat_map scalar_shapes ks)) (scalar_ports (scalar_shapes x)) kernels i x m n s lt at
    (scalars_append (scalar_shapes x) (flat_map scalar_shapes (drop (i + 1) kernels)))

-- ---- a stream of the host

pub three_ports : (front : List ℕ) (host : HostPort) (out ready : Bool) (bits : ℕ) (n1 n2 n3 : List ℕ) (m0 m1 m2 m3 : Module)
    → bits ≡ width_of host.t → n1 ≡ front ++ host.name ++ codes "$data" → n2 ≡ front ++ host.name ++ codes "$valid" → n3 ≡ front ++ host.name ++ codes "$ready"
    → m1 ≡ with_port m0 n1 bits out → m2 ≡ with_port m1 n2 1 out → m3 ≡ with_port m2 n3 1 ready
    → m3 ≡ with_port (with_port (with_port m0 (front ++ host.name ++ codes "$data") (width_of host.t) out) (front ++ host.name ++ codes "$valid") 1 out) (front ++ host.name ++ codes "$ready") 1 ready
three_ports front host out ready bits n1 n2 n3 m0 m1 m2 m3 b h1 h2 h3 e1 e2 e3 =
    let d = front ++ host.name ++ codes "$data" in
    let v = front ++ host.name ++ codes "$valid" in
    let all : List ℕ → List ℕ → List ℕ → ℕ → Module = λ x y z w. with_port (with_port (with_port m0 x w out) y 1 out) z 1 ready in
    e3 ∙ ap (λ m. with_port m n3 1 ready) e2 ∙ ap (λ m. with_port (with_port m n2 1 out) n3 1 ready) e1
    ∙ ap (λ x. all x n2 n3 bits) h1 ∙ ap (λ y. all d y n3 bits) h2 ∙ ap (λ z. all d v z bits) h3 ∙ ap (λ w. all d v (front ++ host.name ++ codes "$ready") w) b

-- ---- all ports

pub further : (s m n : Module) (qs ps : List PortView) → m ≡ with_ports s qs → n ≡ with_ports m ps → n ≡ with_ports s (qs ++ ps)
further s m n qs ps e f = f ∙ sym (along s m qs ps e)

-- the ports of the kernels, and those of the streams of the host
abbrev pub own_ports : Project → List PortView
own_ports project = kernel_ports (kernel_names project.kernels) ++ scalar_ports (flat_map scalar_shapes project.kernels)

abbrev pub stream_ports : Project → List PortView
stream_ports project = host_input_ports (map host_shape project.joints.inputs) ++ host_output_ports (map host_shape project.joints.outputs)

pub clock_made : (m0 m1 m2 : Module) → m1 ≡ with_port m0 (codes "clk") 1 false → m2 ≡ with_port m1 (codes "reset") 1 false
    → m2 ≡ with_ports m0 (input_port (codes "clk") 1 ∷ input_port (codes "reset") 1 ∷ [])
clock_made m0 m1 m2 e1 e2 = e2 ∙ ap (λ m. with_port m (codes "reset") 1 false) e1

pub ports_together : (project : Project) (s m2 m4 m6 m7 : Module)
    → m2 ≡ with_ports s (input_port (codes "clk") 1 ∷ input_port (codes "reset") 1 ∷ [])
    → m4 ≡ with_ports m2 (own_ports project) → m6 ≡ with_ports m4 (stream_ports project)
    → m7 ≡ with_port m6 (codes "done") 1 true
    → m7 ≡ with_ports s (shape_ports (shape_of project))
ports_together project s m2 m4 m6 m7 e2 e4 e6 e7 =
    let a : List PortView = input_port (codes "clk") 1 ∷ input_port (codes "reset") 1 ∷ [] in
    let b = kernel_ports (kernel_names project.kernels) in
    let c = scalar_ports (flat_map scalar_shapes project.kernels) in
    let d = host_input_ports (map host_shape project.joints.inputs) in
    let f = host_output_ports (map host_shape project.joints.outputs) in
    let last : List PortView = output_port (codes "done") 1 ∷ [] in
    let h4 = further s m2 m4 a (b ++ c) e2 e4 in
    let h6 = further s m4 m6 (a ++ (b ++ c)) (d ++ f) h4 e6 in
    let h7 : m7 ≡ with_ports s (a ++ (b ++ c) ++ (d ++ f) ++ last) = further s m6 m7 (a ++ (b ++ c) ++ (d ++ f)) last h6 e7 in
    h7 ∙ ap (λ l. with_ports s (a ++ (l ++ last))) (sym (append_assoc (b ++ c) d f))
