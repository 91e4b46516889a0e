-- The flat module of a design has the ports of the top module, and its nets are the first ones.
use Rattle.std.proofs.Common.{◌≡◌, ℕ, zero, suc, ◌+◌, ◌-◌, ◌^◌, ◌<◌, ◌≤◌, List, [], ◌∷◌, ◌++◌, length, get_or, Option, Some, None, refl, sym, ap, ◌∙◌, subst, arith}
use Rattle.std.specs.Prelude.{slice_get}
use Rattle.rtl_ir.specs.declared.design.Design.{Design}
use Rattle.rtl_ir.specs.declared.design.Module.{Module}
use Rattle.rtl_ir.specs.declared.design.Port.{Port}
use Rattle.rtl_ir.specs.Value.{width_of}
use Rattle.rtl_ir.specs.Rules.{IsAccepted}
use Rattle.rtl_ir.specs.Run.{Outer, Channel}
use Rattle.rtl_ir.specs.Ports.{Shape, port_net, net_at, nets_from, second_nets_from, channels_from, first_scalar, first_input, first_output, done_port, outer_of}
use Rattle.verilog_sim.specs.declared.scope.Scope.{Scope}
use Rattle.verilog_sim.specs.declared.offer.Offer.{Offer}
use Rattle.verilog_sim.specs.Calls.{nothing}
use Rattle.verilog_sim.specs.Flattened.{IsFlat, Joins, start, join}
use Rattle.verilog_sim.specs.Simulates.{AreOffered}
use Rattle.verilog_sim.specs.Start.{cells_with, cells_after, all_cells}
use Rattle.verilog_sim.proofs.Sitting.{none, sits_outer, sits_copied}
use Rattle.verilog_sim.proofs.Placed.{IsPlaced, placed_of}
use Rattle.verilog_sim.proofs.Whole.{nets_joins}
use Rattle.verilog_sim.proofs.Flattening.{some_net}
use Rattle.verilog_sim.proofs.CellTotals.{total_copied, total_joins, total_top}
use Rattle.std.proofs.lemmas.List.{length-map}
use Rattle.verilog_sim.specs.Relocation.{bare_net}

ports_joins : {d : Design} {m n : Module} {ss : List Scope} → Joins d m ss n → n.ports ≡ m.ports
ports_joins start = refl
ports_joins (join js j) = j.ports ∙ ports_joins js

-- outer nets of modules with the same ports are the same
nets_same : {A : Type 0} (m n : Module) → n.ports ≡ m.ports → (k : ℕ) (xs : List A) → nets_from n k xs ≡ nets_from m k xs
nets_same m n e k [] = refl
nets_same m n e k (x ∷ xs) = ap (λ (ps : List Port). port_net (slice_get ps k) ∷ nets_from n (k + 1) xs) e ∙ ap (λ l. net_at m k ∷ l) (nets_same m n e (k + 1) xs)

seconds_same : {A : Type 0} (m n : Module) → n.ports ≡ m.ports → (k : ℕ) (xs : List A) → second_nets_from n k xs ≡ second_nets_from m k xs
seconds_same m n e k [] = refl
seconds_same m n e k (x ∷ xs) = ap (λ (ps : List Port). port_net (slice_get ps k) ∷ second_nets_from n (k + 2) xs) e ∙ ap (λ l. net_at m k ∷ l) (seconds_same m n e (k + 2) xs)

abbrev channel_in : List Port → ℕ → Channel
channel_in ps k = record { word = port_net (slice_get ps k); valid = port_net (slice_get ps (k + 1)); ready = port_net (slice_get ps (k + 2)) }

channels_same : {A : Type 0} (m n : Module) → n.ports ≡ m.ports → (k : ℕ) (xs : List A) → channels_from n k xs ≡ channels_from m k xs
channels_same m n e k [] = refl
channels_same m n e k (x ∷ xs) = ap (λ (ps : List Port). channel_in ps k ∷ channels_from n (k + 3) xs) e ∙ ap (λ l. channel_in m.ports k ∷ l) (channels_same m n e (k + 3) xs)

abbrev outer_made : ℕ → ℕ → List ℕ → List ℕ → List ℕ → List Channel → List Channel → ℕ → Outer
outer_made c r h s t i o d = record { clock = c; reset = r; holds = h; steady = s ++ t; inputs = i; outputs = o; done = d }

pub outer_same_ports : (m n : Module) (s : Shape) → n.ports ≡ m.ports → outer_of s n ≡ outer_of s m
outer_same_ports m n s e =
    let at : (k : ℕ) → net_at n k ≡ net_at m k = λ k. ap (λ (ps : List Port). port_net (slice_get ps k)) e in
    ap (λ x. outer_made x (net_at n 1) (second_nets_from n 2 s.kernels)
    (second_nets_from n 3 s.kernels) (nets_from n (first_scalar s) s.scalars)
    (channels_from n (first_input s) s.inputs) (channels_from n (first_output s) s.outputs)
    (net_at n (done_port s))) (at 0)
    ∙ ap (λ x. outer_made (net_at m 0) x (second_nets_from n 2 s.kernels)
    (second_nets_from n 3 s.kernels) (nets_from n (first_scalar s) s.scalars)
    (channels_from n (first_input s) s.inputs) (channels_from n (first_output s) s.outputs)
    (net_at n (done_port s))) (at 1)
    ∙ ap (λ x. outer_made (net_at m 0) (net_at m 1) x (second_nets_from n 3 s.kernels)
    (nets_from n (first_scalar s) s.scalars) (channels_from n (first_input s) s.inputs)
    (channels_from n (first_output s) s.outputs) (net_at n (done_port s)))
    (seconds_same m n e 2 s.kernels)
    ∙ ap (λ x. outer_made (net_at m 0) (net_at m 1) (second_nets_from m 2 s.kernels) x
    (nets_from n (first_scalar s) s.scalars) (channels_from n (first_input s) s.inputs)
    (channels_from n (first_output s) s.outputs) (net_at n (done_port s)))
    (seconds_same m n e 3 s.kernels)
    ∙ ap (λ x. outer_made (net_at m 0) (net_at m 1) (second_nets_from m 2 s.kernels)
    (second_nets_from m 3 s.kernels) x (channels_from n (first_input s) s.inputs)
    (channels_from n (first_output s) s.outputs) (net_at n (done_port s)))
    (nets_same m n e (first_scalar s) s.scalars)
    ∙ ap (λ x. outer_made (net_at m 0) (net_at m 1) (second_nets_from m 2 s.kernels)
    (second_nets_from m 3 s.kernels) (nets_from m (first_scalar s) s.scalars) x
    (channels_from n (first_output s) s.outputs) (net_at n (done_port s)))
    (channels_same m n e (first_input s) s.inputs)
    ∙ ap (λ x. outer_made (net_at m 0) (net_at m 1) (second_nets_from m 2 s.kernels)
    (second_nets_from m 3 s.kernels) (nets_from m (first_scalar s) s.scalars)
    (channels_from m (first_input s) s.inputs) x (net_at n (done_port s)))
    (channels_same m n e (first_output s) s.outputs)
    ∙ ap (λ x. outer_made (net_at m 0) (net_at m 1) (second_nets_from m 2 s.kernels)
    (second_nets_from m 3 s.kernels) (nets_from m (first_scalar s) s.scalars)
    (channels_from m (first_input s) s.inputs) (channels_from m
    (first_output s) s.outputs) x) (at (done_port s))

-- a bound of all numbers of ports bounds what lists of them have
nets_below : {A : Type 0} (m : Module) (b : ℕ) → ((k : ℕ) → net_at m k < b) → (k : ℕ) (xs : List A) (i : ℕ) → 0 < b → get_or (nets_from m k xs) i 0 < b
nets_below m b h k [] i some = some
nets_below m b h k (x ∷ xs) zero some = h k
nets_below m b h k (x ∷ xs) (suc i) some = nets_below m b h (k + 1) xs i some

seconds_below : {A : Type 0} (m : Module) (b : ℕ) → ((k : ℕ) → net_at m k < b) → (k : ℕ) (xs : List A) (i : ℕ) → 0 < b → get_or (second_nets_from m k xs) i 0 < b
seconds_below m b h k [] i some = some
seconds_below m b h k (x ∷ xs) zero some = h k
seconds_below m b h k (x ∷ xs) (suc i) some = seconds_below m b h (k + 2) xs i some

append_below : (xs ys : List ℕ) (b : ℕ) → ((i : ℕ) → get_or xs i 0 < b) → ((i : ℕ) → get_or ys i 0 < b) → (i : ℕ) → get_or (xs ++ ys) i 0 < b
append_below [] ys b f g i = g i
append_below (x ∷ xs) ys b f g zero = f 0
append_below (x ∷ xs) ys b f g (suc i) = append_below xs ys b (λ j. f (suc j)) g i

words_below : {A : Type 0} (m : Module) (b : ℕ) → ((k : ℕ) → net_at m k < b) → (k : ℕ) (xs : List A) (i : ℕ) (c : Channel) → slice_get (channels_from m k xs) i ≡ Some c → c.word < b
words_below m b h k [] i c e = absurd (cc)
words_below m b h k (x ∷ xs) zero c e = let q : channel_in m.ports k ≡ c = cc in subst (λ (n : ℕ). n < b) (ap (λ (y : Channel). y.word) q) (h k)
words_below m b h k (x ∷ xs) (suc i) c e = words_below m b h (k + 3) xs i c e

module _ (d : Design) (h : IsAccepted d) {ss : List Scope} {n : Module} (f : IsFlat d ss n) where
  placed_top : IsPlaced d f.top
  placed_top = placed_of d h (length d.modules - 1) f.top f.is_top

  pub ports_flat : n.ports ≡ f.top.ports
  ports_flat = ports_joins f.joins ∙ f.copied.ports

  width_joins : {m o : Module} {rs : List Scope} → Joins d m rs o → (k : ℕ) → k < length m.nets → width_of o k ≡ width_of m k
  width_joins start k lt = refl
  width_joins (join {n = p} {o = o} js j) k lt = ap (width_of o) (sym (none k)) ∙ (sits_outer j).widths k (omega (arith, lt, nets_joins d h js)) ∙ width_joins js k lt

  copy_nets : length f.copy.nets ≡ length f.top.nets
  copy_nets = ap length f.copied.nets ∙ length-map f.top.nets bare_net

  pub width_flat : (k : ℕ) → k < length f.top.nets → width_of n k ≡ width_of f.top k
  width_flat k lt = width_joins f.joins k (omega (arith, lt, copy_nets)) ∙ ap (width_of f.copy) (sym (none k)) ∙ (sits_copied f.copied).widths k lt

  top_net : 0 < length f.top.nets
  top_net = some_net _ f.top (h.formed.each (length d.modules - 1) f.top f.is_top)

  pub net_in : (k : ℕ) → net_at f.top k < length f.top.nets
  net_in k = by_port (slice_get f.top.ports k) refl
    where
      by_port : (o : Option Port) → slice_get f.top.ports k ≡ o → port_net o < length f.top.nets
      by_port None e = top_net
      by_port (Some p) e = (placed_top.ports k p e).net

  pub steady_flat : (s : Shape) (k : ℕ) → width_of n (get_or (outer_of s n).steady k 0) ≡ width_of f.top (get_or (outer_of s f.top).steady k 0)
  steady_flat s k =
      ap (λ (o : Outer). width_of n (get_or o.steady k 0)) (outer_same_ports f.top n s ports_flat)
      ∙ width_flat (get_or (outer_of s f.top).steady k 0) (append_below (second_nets_from f.top 3 s.kernels) (nets_from f.top (first_scalar s) s.scalars) (length f.top.nets)
      (λ i. seconds_below f.top (length f.top.nets) net_in 3 s.kernels i top_net) (λ i. nets_below f.top (length f.top.nets) net_in (first_scalar s) s.scalars i top_net) k)

  pub offered_flat : (s : Shape) (offers : List Offer) → AreOffered f.top (outer_of s f.top) offers → AreOffered n (outer_of s n) offers
  offered_flat s offers g =
      subst (λ (o : Outer). AreOffered n o offers) (sym (outer_same_ports f.top n s ports_flat))
      (λ k c at. subst (λ (w : ℕ). (get_or offers k nothing).word < 2 ^ w) (sym (width_flat c.word (words_below f.top (length f.top.nets) net_in (first_input s) s.inputs k c at))) (g k c at))

  pub flat_cells : all_cells d ≤ 2 ^ 26 → length n.nets ≤ 2 ^ 26
  flat_cells small =
      let whole : cells_with (cells_after [] d.modules) n ≡ all_cells d = total_joins d h.formed f.joins ∙ total_copied (cells_after [] d.modules) f.copied ∙ total_top d h.formed f.top f.is_top in
      omega (arith, small, whole)
