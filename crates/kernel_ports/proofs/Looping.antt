-- Loops over nodes that have ports.
use Rattle.std.proofs.Common.{◌≡◌, ℕ, zero, suc, ◌+◌, ◌<◌, ◌≤◌, Bool, true, false, List, [], ◌∷◌, ◌++◌, map, drop, length, get_or, refl, sym, ap, ◌∙◌, subst, arith, add-one, append_assoc}
use Rattle.std.specs.Prelude.{Some, slice_get, if◌then◌else◌}
use Rattle.std.specs.Option.{option_map}
use Rattle.std.proofs.Math.Seq.{drop-cons}
use Rattle.fix_arith.specs.Types.{width_of}
use Rattle.stream_graph.specs.declared.kernel.Kernel.{Kernel}
use Rattle.stream_graph.specs.declared.node.Kind.{Kind}
use Rattle.stream_graph.specs.declared.node.Node.{Node}
use Rattle.stream_graph.specs.declared.node.NodeView.{NodeView}
use Rattle.rtl_ir.specs.declared.design.Module.{Module}
use Rattle.rtl_ir.specs.Ports.{PortView, host_input_ports, host_output_ports}
use Rattle.stream_graph.specs.LookUps.{node_at, kind_at, width_at, no_node}
use Rattle.stream_graph.proofs.NodeLemmas.{orderly}
pub use Rattle.stream_graph.proofs.Numbers.{drop_front}
use Rattle.kernel_control.specs.Ports.{port_shape, scalar_ports}
use Rattle.kernel_ports.specs.declared.signals.NodeSignal.{NodeSignal}
use Rattle.kernel_ports.specs.declared.signals.StreamSignals.{StreamSignals}
use Rattle.kernel_ports.specs.Added.{AddsPorts, scalar_at, stream_at, scalars_at, streams_at}
use Rattle.kernel_ports.proofs.Adding.{AreLeft, fewer_left}

pub none_after : {A : Type 0} (xs : List A) (i : ℕ) → length xs ≤ i → drop i xs ≡ []
none_after [] zero h = refl
none_after [] (suc i) h = refl
none_after (x ∷ xs) zero h = absurd (omega arith)
none_after (x ∷ xs) (suc i) h = none_after xs i (omega (arith, h))

pub field_at : {B : Type 0} (f : Node → B) (nodes : List Node) (n : ℕ) (b : B) → option_map f (slice_get nodes n) ≡ Some b → f (node_at nodes n) ≡ b
field_at f [] n b e = absurd (cc)
field_at f (node ∷ nodes) zero b e = cc
field_at f (node ∷ nodes) (suc n) b e = field_at f nodes n b e

-- what the code reads of a node is its port's shape
pub shape_is : (nodes : List Node) (n w : ℕ) (name : List ℕ) (view : NodeView) → option_map (λ (x : Node). x.view) (slice_get nodes n) ≡ Some view
    → w ≡ width_of view.t → option_map (λ (x : Node). x.name) (slice_get nodes n) ≡ Some name → port_shape nodes n ≡ (name, w)
shape_is nodes n w name view e f g =
    let v : (node_at nodes n).view ≡ view = field_at (λ (x : Node). x.view) nodes n view e in
    let a : (node_at nodes n).name ≡ name = field_at (λ (x : Node). x.name) nodes n name g in
    let b : width_at nodes n ≡ w = ap (λ (x : NodeView). width_of x.t) v ∙ sym f in
    ap (λ x. shape x (width_at nodes n)) a ∙ ap (shape name) b
  where
    shape : List ℕ → ℕ → List ℕ × ℕ
    shape x k = (x, k)

-- the words of a node have 1 to 128 bits
pub wide : (kernel : Kernel) (n : ℕ) → n < length kernel.nodes → (1 ≤ width_at kernel.nodes n) × (width_at kernel.nodes n ≤ 128)
wide kernel n lt = (orderly kernel.nodes kernel.made).widths n lt

pub view_wide : (kernel : Kernel) (n : ℕ) (view : NodeView) → n < length kernel.nodes
    → option_map (λ (x : Node). x.view) (slice_get kernel.nodes n) ≡ Some view → (1 ≤ width_of view.t) × (width_of view.t ≤ 128)
view_wide kernel n view lt e =
    subst (λ (x : NodeView). (1 ≤ width_of x.t) × (width_of x.t ≤ 128)) (field_at (λ (x : Node). x.view) kernel.nodes n view e) (wide kernel n lt)

-- ---- ports

module _ (nodes : List Node) (ns : List ℕ) (i : ℕ) (lt : i < length ns) where
  pub scalar_left : {old now new : Module} {all : List PortView} (name : List ℕ) (w : ℕ)
      → AreLeft old now (scalar_ports (map (port_shape nodes) (drop i ns))) all → port_shape nodes (get_or ns i 0) ≡ (name, w)
      → AddsPorts now new (scalar_ports ((name, w) ∷ [])) → AreLeft old new (scalar_ports (map (port_shape nodes) (drop (i + 1) ns))) all
  scalar_left {old} {now} {new} {all} name w h e p =
      fewer_left {some = scalar_ports (port_shape nodes (get_or ns i 0) ∷ [])}
      (subst (λ l. AreLeft old now (scalar_ports (map (port_shape nodes) l)) all) (drop_front ns i 0 lt) h)
      (subst (λ a. AddsPorts now new (scalar_ports (a ∷ []))) (sym e) p)

  pub input_left : {old now new : Module} {all : List PortView} (name : List ℕ) (w : ℕ)
      → AreLeft old now (host_input_ports (map (port_shape nodes) (drop i ns))) all → port_shape nodes (get_or ns i 0) ≡ (name, w)
      → AddsPorts now new (host_input_ports ((name, w) ∷ [])) → AreLeft old new (host_input_ports (map (port_shape nodes) (drop (i + 1) ns))) all
  input_left {old} {now} {new} {all} name w h e p =
      fewer_left {some = host_input_ports (port_shape nodes (get_or ns i 0) ∷ [])}
      (subst (λ l. AreLeft old now (host_input_ports (map (port_shape nodes) l)) all) (drop_front ns i 0 lt) h)
      (subst (λ a. AddsPorts now new (host_input_ports (a ∷ []))) (sym e) p)

  pub output_left : {old now new : Module} {all : List PortView} (name : List ℕ) (w : ℕ)
      → AreLeft old now (host_output_ports (map (port_shape nodes) (drop i ns))) all → port_shape nodes (get_or ns i 0) ≡ (name, w)
      → AddsPorts now new (host_output_ports ((name, w) ∷ [])) → AreLeft old new (host_output_ports (map (port_shape nodes) (drop (i + 1) ns))) all
  output_left {old} {now} {new} {all} name w h e p =
      fewer_left {some = host_output_ports (port_shape nodes (get_or ns i 0) ∷ [])}
      (subst (λ l. AreLeft old now (host_output_ports (map (port_shape nodes) l)) all) (drop_front ns i 0 lt) h)
      (subst (λ a. AddsPorts now new (host_output_ports (a ∷ []))) (sym e) p)

  -- ---- signals

  pub scalar_made : (k j w : ℕ) (made more all : List NodeSignal) (x : NodeSignal) → made ++ scalars_at nodes k (drop i ns) ≡ all
      → x ≡ scalar_at (get_or ns i 0) k w → width_at nodes (get_or ns i 0) ≡ w → j ≡ k + 1 → more ≡ made ++ x ∷ []
      → more ++ scalars_at nodes j (drop (i + 1) ns) ≡ all
  scalar_made k j w made more all x e f g a b =
      ap (λ l. l ++ scalars_at nodes j (drop (i + 1) ns)) b
      ∙ append_assoc made (x ∷ []) (scalars_at nodes j (drop (i + 1) ns))
      ∙ ap (λ y. made ++ y ∷ scalars_at nodes j (drop (i + 1) ns)) (f ∙ ap (scalar_at (get_or ns i 0) k) (sym g))
      ∙ ap (λ n. made ++ scalar_at (get_or ns i 0) k (width_at nodes (get_or ns i 0)) ∷ scalars_at nodes n (drop (i + 1) ns)) a
      ∙ ap (λ l. made ++ scalars_at nodes k l) (sym (drop_front ns i 0 lt))
      ∙ e

  pub stream_made : (k j w : ℕ) (made more all : List StreamSignals) (x : StreamSignals) → made ++ streams_at nodes k (drop i ns) ≡ all
      → x ≡ stream_at (get_or ns i 0) k w → width_at nodes (get_or ns i 0) ≡ w → j ≡ k + 3 → more ≡ made ++ x ∷ []
      → more ++ streams_at nodes j (drop (i + 1) ns) ≡ all
  stream_made k j w made more all x e f g a b =
      ap (λ l. l ++ streams_at nodes j (drop (i + 1) ns)) b
      ∙ append_assoc made (x ∷ []) (streams_at nodes j (drop (i + 1) ns))
      ∙ ap (λ y. made ++ y ∷ streams_at nodes j (drop (i + 1) ns)) (f ∙ ap (stream_at (get_or ns i 0) k) (sym g))
      ∙ ap (λ n. made ++ stream_at (get_or ns i 0) k (width_at nodes (get_or ns i 0)) ∷ streams_at nodes n (drop (i + 1) ns)) a
      ∙ ap (λ l. made ++ streams_at nodes k l) (sym (drop_front ns i 0 lt))
      ∙ e
