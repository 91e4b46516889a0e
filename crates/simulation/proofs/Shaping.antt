-- The widths of the ports of a shape, and how many ports there are.
use Rattle.std.proofs.Common.{◌≡◌, ◌≢◌, ℕ, zero, suc, ◌+◌, ◌*◌, ◌^◌, ◌<◌, ◌≤◌, Bool, true, false, eqb, ◌||◌, List, [], ◌∷◌, ◌++◌, length, map, get_or, Option, Some, refl, sym, ap, ◌∙◌, subst, arith}
use Rattle.std.specs.Prelude.{slice_get, codes}
use Rattle.std.specs.List.{list_any, IsDistinct}
use Rattle.std.proofs.lemmas.Bool.{false≢true, eqb-true}
use Rattle.std.proofs.lemmas.Bool.Decides.{nat_tests}
use Rattle.std.proofs.lemmas.List.{length-append, length-map}
use Rattle.std.proofs.lemmas.Map.Keys.{IsDistinct-from_apart}
use Rattle.std.proofs.lemmas.Map.Steps.{length-le_from_distinct_below}
use Rattle.std.proofs.lemmas.Option.{slice_get_within, get_or_from_slice_get}
use Rattle.mx_base.specs.Files.{Name}
use Rattle.rtl_ir.specs.declared.design.Port.{Port}
use Rattle.rtl_ir.specs.declared.design.Module.{Module}
use Rattle.rtl_ir.specs.Formed.{IsFormedModule}
use Rattle.rtl_ir.specs.Value.{width_of, net_width}
use Rattle.rtl_ir.specs.Run.{Channel}
use Rattle.rtl_ir.specs.Ports.{Shape, PortView, input_port, output_port, kernel_ports, scalar_ports}
use Rattle.rtl_ir.specs.Ports.{host_input_ports, host_output_ports, shape_ports, port_view}
use Rattle.rtl_ir.specs.Ports.{HasShape, port_net, net_at, channels_from, first_input, first_output}
use Rattle.rtl_ir.specs.Ports.{outer_of}
use Rattle.verilog_sim.specs.Start.{cells_of}
use Rattle.verilog_sim.proofs.Shapes.{channels_get, length_channels, length_shape, port_at, net_is, ticks_at}
use Rattle.verilog_sim.proofs.Outer.{steady_net}
use Rattle.simulation.specs.Plans.{FitsShape}
use Rattle.simulation.specs.Inward.{HaveWidths}
use Rattle.simulation.specs.declared.plan.Plan.{Plan}
use Rattle.simulation.proofs.Lists.{item_in, map_at, map_from, get_left, get_right, get_either, same_map_at}

-- ---- the ports of a kind
of_input : (xs : List (List ℕ × ℕ)) (k i : ℕ) (x : List ℕ × ℕ) → i ≡ 3 * k → slice_get xs k ≡ Some x → slice_get (host_input_ports xs) i ≡ Some (input_port (codes "in$" ++ x.0 ++ codes "$data") x.1)
of_input [] k i x e at = absurd (cc)
of_input (y ∷ xs) zero i x e at =
    let q : y ≡ x = cc in
    ap (slice_get (host_input_ports (y ∷ xs))) e ∙ ap (λ (z : List ℕ × ℕ). Some (input_port (codes "in$" ++ z.0 ++ codes "$data") z.1)) q
of_input (y ∷ xs) (suc k) i x e at =
    let e' : i ≡ suc (suc (suc (3 * k))) = omega (arith, e) in
    ap (slice_get (host_input_ports (y ∷ xs))) e' ∙ of_input xs k (3 * k) x refl at

of_output : (ys : List (List ℕ × ℕ)) (k i : ℕ) (y : List ℕ × ℕ) → i ≡ 3 * k
    → slice_get ys k ≡ Some y → slice_get (host_output_ports ys) i ≡ Some
    (output_port (codes "out$" ++ y.0 ++ codes "$data") y.1)
of_output [] k i x e at = absurd (cc)
of_output (y ∷ xs) zero i x e at =
    let q : y ≡ x = cc in
    ap (slice_get (host_output_ports (y ∷ xs))) e ∙ ap (λ (z : List ℕ × ℕ). Some (output_port (codes "out$" ++ z.0 ++ codes "$data") z.1)) q
of_output (y ∷ xs) (suc k) i x e at =
    let e' : i ≡ suc (suc (suc (3 * k))) = omega (arith, e) in
    ap (slice_get (host_output_ports (y ∷ xs))) e' ∙ of_output xs k (3 * k) x refl at

of_scalar : (ss : List (List ℕ × List ℕ × ℕ)) (k : ℕ) (s : List ℕ × List ℕ × ℕ)
    → slice_get ss k ≡ Some s → slice_get (scalar_ports ss) k ≡ Some
    (input_port (codes "scalar$" ++ s.0 ++ codes "$" ++ s.1) s.2)
of_scalar [] k s at = absurd (cc)
of_scalar (t ∷ ss) zero s at = let q : t ≡ s = cc in ap (λ (z : List ℕ × List ℕ × ℕ). Some (input_port (codes "scalar$" ++ z.0 ++ codes "$" ++ z.1) z.2)) q
of_scalar (t ∷ ss) (suc k) s at = of_scalar ss k s at

kernels_length : (ks : List (List ℕ)) → length (kernel_ports ks) ≡ 2 * length ks
kernels_length [] = refl
kernels_length (k ∷ ks) = let e = kernels_length ks in omega (arith, e)

scalars_length : (ss : List (List ℕ × List ℕ × ℕ)) → length (scalar_ports ss) ≡ length ss
scalars_length [] = refl
scalars_length (s ∷ ss) = let e = scalars_length ss in omega (arith, e)

inputs_length : (xs : List (List ℕ × ℕ)) → length (host_input_ports xs) ≡ 3 * length xs
inputs_length [] = refl
inputs_length (x ∷ xs) = let e = inputs_length xs in omega (arith, e)

-- ---- their widths
behind_two : (x y w : PortView) (l : List PortView) (i j : ℕ) → i ≡ 2 + j → slice_get l j ≡ Some w → slice_get (x ∷ y ∷ l) i ≡ Some w
behind_two x y w l i j e at = let q : i ≡ suc (suc j) = omega (arith, e) in ap (slice_get (x ∷ y ∷ l)) q ∙ at

width_at : (m : Module) (s : Shape) (i : ℕ) (view : PortView) → HasShape m s → slice_get (shape_ports s) i ≡ Some view → width_of m (net_at m i) ≡ view.width
width_at m s i view has at =
    let p = map_from (port_view m) m.ports i view (ap (λ (l : List PortView). slice_get l i) has ∙ at) in
    ap (λ (o : Option Port). width_of m (port_net o)) p.1 ∙ ap (λ (v : PortView). v.width) p.2

word_net : (m : Module) (n k : ℕ) {A : Type 0} (xs : List A) (ch : Channel) → slice_get (channels_from m n xs) k ≡ Some ch → ch.word ≡ net_at m (n + 3 * k)
word_net m n k xs ch at =
    let lt = slice_get_within (channels_from m n xs) k ch at in
    ap (λ (c : Channel). c.word) (sym (get_or_from_slice_get (channels_from m n xs) k ch ch at) ∙ channels_get m n k xs ch (omega (arith, length_channels m n xs)))

pub input_width : (m : Module) (s : Shape) (k : ℕ) (x : List ℕ × ℕ) (ch : Channel)
    → HasShape m s → slice_get s.inputs k ≡ Some x → slice_get (outer_of s m).inputs k ≡ Some ch
    → x.1 ≡ width_of m ch.word
input_width m s k x ch has at ch_at =
    let place = behind_two (input_port (codes "clk") 1) (input_port (codes "reset") 1)
    (input_port (codes "in$" ++ x.0
    ++ codes "$data") x.1) _ (first_input s + 3 * k)
    (2 * length s.kernels + length s.scalars + 3 * k) (omega arith)
    (get_left (kernel_ports s.kernels ++ scalar_ports s.scalars ++ host_input_ports s.inputs ++ host_output_ports s.outputs) (output_port (codes "done") 1 ∷ []) _ _
    (get_left (kernel_ports s.kernels ++ scalar_ports s.scalars ++ host_input_ports s.inputs) (host_output_ports s.outputs) _ _
    (get_right (kernel_ports s.kernels
    ++ scalar_ports s.scalars) (host_input_ports s.inputs) _ (3 * k) _ (omega (
      arith,
      length-append (kernel_ports s.kernels) (scalar_ports s.scalars),
      kernels_length s.kernels,
      scalars_length s.scalars,
    ))
    (of_input s.inputs k (3 * k) x refl at)))) in
    sym (ap (width_of m) (word_net m (first_input s) k s.inputs ch ch_at) ∙ width_at m s (first_input s + 3 * k) _ has place)

pub output_width : (m : Module) (s : Shape) (k : ℕ) (y : List ℕ × ℕ) (ch : Channel)
    → HasShape m s → slice_get s.outputs k ≡ Some y
    → slice_get (outer_of s m).outputs k ≡ Some ch → y.1 ≡ width_of m ch.word
output_width m s k y ch has at ch_at =
    let place = behind_two (input_port (codes "clk") 1) (input_port (codes "reset") 1)
    (output_port (codes "out$" ++ y.0
    ++ codes "$data") y.1) _ (first_output s + 3 * k)
    (2 * length s.kernels + length s.scalars + 3 * length s.inputs + 3 * k) (omega arith)
    (get_left (kernel_ports s.kernels ++ scalar_ports s.scalars ++ host_input_ports s.inputs ++ host_output_ports s.outputs) (output_port (codes "done") 1 ∷ []) _ _
    (get_right (kernel_ports s.kernels ++ scalar_ports s.scalars
    ++ host_input_ports s.inputs) (host_output_ports s.outputs) _ (3 * k) _ (omega (
      arith,
      length-append (kernel_ports s.kernels
          ++ scalar_ports s.scalars) (host_input_ports s.inputs),
      length-append (kernel_ports s.kernels) (scalar_ports s.scalars),
      kernels_length s.kernels,
      scalars_length s.scalars,
      inputs_length s.inputs,
    )) (of_output s.outputs k (3 * k) y refl at))) in
    sym (ap (width_of m) (word_net m (first_output s) k s.outputs ch ch_at) ∙ width_at m s (first_output s + 3 * k) _ has place)

ticks_width : (m : Module) (s : Shape) (k : ℕ) → HasShape m s → k < length s.kernels → width_of m (get_or (outer_of s m).steady k 0) ≡ 48
ticks_width m s k has lt =
    let p = port_at m s (3 + 2 * k) 48 false has (ticks_at s k (3 + 2 * k) lt refl) in
    ap (width_of m) (steady_net m s k (3 + 2 * k) (omega arith) (λ _. refl) (λ le. absurd (omega arith)) ∙ net_is m (3 + 2 * k) 48 false p) ∙ p.width

scalar_width : (m : Module) (s : Shape) (k j : ℕ) (a : List ℕ × List ℕ × ℕ) → HasShape m s
    → k ≡ length s.kernels + j → slice_get s.scalars j ≡ Some a
    → width_of m (get_or (outer_of s m).steady k 0) ≡ a.2
scalar_width m s k j a has e at =
    let lt = slice_get_within s.scalars j a at in
    let place = behind_two (input_port (codes "clk") 1) (input_port (codes "reset") 1)
    (input_port (codes "scalar$" ++ a.0 ++ codes "$"
    ++ a.1) a.2) _ (2 + length s.kernels + k) (2 * length s.kernels + j) (omega (arith, e))
    (get_left (kernel_ports s.kernels ++ scalar_ports s.scalars ++ host_input_ports s.inputs ++ host_output_ports s.outputs) (output_port (codes "done") 1 ∷ []) _ _
    (get_left (kernel_ports s.kernels ++ scalar_ports s.scalars ++ host_input_ports s.inputs) (host_output_ports s.outputs) _ _
    (get_left (kernel_ports s.kernels ++ scalar_ports s.scalars) (host_input_ports s.inputs) _ _
    (get_right (kernel_ports s.kernels) (scalar_ports s.scalars) _ j _ (omega (arith, kernels_length s.kernels)) (of_scalar s.scalars j a at))))) in
    ap (width_of m) (steady_net m s k (2 + length s.kernels + k) (omega (arith, e, lt)) (λ less. absurd (omega (arith, e))) (λ _. refl)) ∙ width_at m s (2 + length s.kernels + k) _ has place

-- ---- the values of a plan
pub steady_fit : (m : Module) (s : Shape) (p : Plan) → HasShape m s → FitsShape p s
    → (k value : ℕ) → slice_get (p.ticks ++ p.scalars) k ≡ Some value
    → value < 2 ^ width_of m (get_or (outer_of s m).steady k 0)
steady_fit m s p has fits k value at = get_either p.ticks p.scalars k value at
    (λ e.
    let lt = slice_get_within p.ticks k value e in
    subst (λ w. value < 2 ^ w) (sym (ticks_width m s k has (let q = fits.kernels in omega arith))) (fits.ticks k value e))
    (λ j q e.
    let lt = slice_get_within p.scalars j value e in
    let a = item_in s.scalars j (let z = fits.scalars in omega arith) in
    let below = fits.values j value a.0.2 e (map_at (λ (x : Name × Name × ℕ). x.2) s.scalars j a.0 a.1) in
    subst (λ w. value < 2 ^ w) (sym (scalar_width m s k j a.0 has (let z = fits.kernels in omega (arith, q)) a.1)) below)

pub plan_length : {A B : Type 0} (f : A → ℕ) (g : B → ℕ) (xs : List A) (ys : List B) → map f xs ≡ map g ys → length xs ≡ length ys
plan_length f g xs ys e = sym (length-map xs f) ∙ ap length e ∙ length-map ys g

-- the widths of nets
width_range : (earlier : List Module) (m : Module) (n : ℕ) → IsFormedModule earlier m → n < length m.nets → (1 ≤ width_of m n) × (width_of m n ≤ 128)
width_range earlier m n formed lt =
    let x = item_in m.nets n lt in
    let f = formed.nets n x.0 x.1 in
    let e : width_of m n ≡ x.0.width = ap net_width x.1 in
    (subst (λ w. 1 ≤ w) (sym e) f.some, subst (λ w. w ≤ 128) (sym e) f.at_most)

port_range : (earlier : List Module) (m : Module) (i : ℕ) → IsFormedModule earlier m → i < length m.ports → (1 ≤ width_of m (net_at m i)) × (width_of m (net_at m i) ≤ 128)
port_range earlier m i formed lt =
    let p = item_in m.ports i lt in
    subst (λ n. (1 ≤ width_of m n) × (width_of m n ≤ 128)) (sym (ap port_net p.1)) (width_range earlier m p.0.net formed (formed.ports i p.0 p.1).net)

ports_length : (m : Module) (s : Shape) → HasShape m s → length m.ports ≡ 2 + 2 * length s.kernels + length s.scalars + 3 * length s.inputs + 3 * length s.outputs + 1
ports_length m s has = sym (length-map m.ports (port_view m)) ∙ ap length has ∙ length_shape s

pub input_widths : (earlier : List Module) (m : Module) (s : Shape) (p : Plan) → IsFormedModule earlier m → HasShape m s → FitsShape p s → HaveWidths p.inputs
input_widths earlier m s p formed has fits = λ k i at.
    let x = same_map_at (λ (i : Name × ℕ). i.1) (λ (x : Name × ℕ). x.1) p.inputs s.inputs k i fits.inputs at in
    let lt = slice_get_within s.inputs k x.0 x.1 in
    let ch = item_in (outer_of s m).inputs k (omega (arith, length_channels m (first_input s) s.inputs)) in
    let e : width_of m (net_at m (first_input s + 3 * k)) ≡ i.1 = ap (width_of m) (sym (word_net m (first_input s) k s.inputs ch.0 ch.1)) ∙ sym (input_width m s k x.0 ch.0 has x.1 ch.1) ∙ x.2 in
    subst (λ w. (1 ≤ w) × (w ≤ 128)) e (port_range earlier m (first_input s + 3 * k) formed (omega (arith, ports_length m s has)))

pub output_widths : (earlier : List Module) (m : Module) (s : Shape) (p : Plan) → IsFormedModule earlier m → HasShape m s → FitsShape p s → HaveWidths p.outputs
output_widths earlier m s p formed has fits = λ k i at.
    let x = same_map_at (λ (i : Name × ℕ). i.1) (λ (x : Name × ℕ). x.1) p.outputs s.outputs k i fits.outputs at in
    let lt = slice_get_within s.outputs k x.0 x.1 in
    let ch = item_in (outer_of s m).outputs k (omega (arith, length_channels m (first_output s) s.outputs)) in
    let e : width_of m (net_at m (first_output s + 3 * k)) ≡ i.1 = ap (width_of m) (sym (word_net m (first_output s) k s.outputs ch.0 ch.1)) ∙ sym (output_width m s k x.0 ch.0 has x.1 ch.1) ∙ x.2 in
    subst (λ w. (1 ≤ w) × (w ≤ 128)) e (port_range earlier m (first_output s + 3 * k) formed (omega (arith, ports_length m s has)))

-- ---- ports have different nets, so there are no more of them than nets

below_nets : (ps : List Port) (n q : ℕ) → ((i : ℕ) (p : Port) → slice_get ps i ≡ Some p → p.net < n) → list_any (eqb q) (map (λ (p : Port). p.net) ps) ≡ true → q < n
below_nets [] n q all e = absurd (false≢true e)
below_nets (p ∷ ps) n q all e = first (eqb q p.net) refl (λ later. below_nets ps n q (λ i x at. all (suc i) x at) later)
  where
    first : (b : Bool) → eqb q p.net ≡ b → (list_any (eqb q) (map (λ (p : Port). p.net) ps) ≡ true → q < n) → q < n
    first true same later = let z = eqb-true q p.net same in let h = all 0 p refl in omega arith
    first false other later = later (sym (ap (λ b. b || list_any (eqb q) (map (λ (p : Port). p.net) ps)) other) ∙ e)

ports_few : (earlier : List Module) (m : Module) → IsFormedModule earlier m → length m.ports ≤ length m.nets
ports_few earlier m formed =
    let nets = map (λ (p : Port). p.net) m.ports in
    let distinct : IsDistinct eqb nets = IsDistinct-from_apart eqb nets (λ i j d lt less. (
    let size = length-map m.ports (λ (p : Port). p.net) in
    let p = item_in m.ports i (omega (arith, size)) in
    let q = item_in m.ports j (omega (arith, size)) in
    let ep : get_or nets i d ≡ p.0.net = get_or_from_slice_get nets i p.0.net d (map_at (λ (p : Port). p.net) m.ports i p.0 p.1) in
    let eq : get_or nets j d ≡ q.0.net = get_or_from_slice_get nets j q.0.net d (map_at (λ (p : Port). p.net) m.ports j q.0 q.1) in
    let other : get_or nets i d ≢ get_or nets j d = λ same. (let z = formed.apart i j p.0 q.0 p.1 q.1 (sym ep ∙ same ∙ eq) in omega arith) in
    grind (arith, nat_tests, other))) in
    omega (
      arith,
      length-map m.ports (λ (p : Port). p.net),
      length-le_from_distinct_below nets (length m.nets) distinct
          (λ q e. below_nets m.ports (length m.nets) q (λ i p at. (formed.ports i p at).net) e),
    )

-- a design that is simulated has few ports
pub few_ports : (earlier : List Module) (m : Module) (s : Shape) → IsFormedModule earlier m
    → HasShape m s → cells_of m ≤ 2 ^ 26
    → 2 * length s.kernels + length s.scalars + 3 * length s.inputs + 3 * length s.outputs ≤ 2 ^ 26
few_ports earlier m s formed has cells = omega (arith, ports_few earlier m formed, ports_length m s has, cells)
