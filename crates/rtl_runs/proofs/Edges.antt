-- An edge under an event, by the values of the ports of a shape in their order.
use Rattle.std.proofs.Common.{◌≡◌, ℕ, suc, ◌+◌, ◌*◌, ◌^◌, ◌<◌, Bool, true, false, List, [], ◌∷◌, ◌++◌, length, Some, refl, sym, ap, ◌∙◌, subst, arith, append_assoc, lit<}
use Rattle.std.specs.Prelude.{slice_get, codes}
use Rattle.std.specs.List.{All, AllZip}
use Rattle.std.proofs.lemmas.Bool.{true≢false}
use Rattle.std.proofs.lemmas.Nat.{pow_pos}
use Rattle.rtl_ir.specs.declared.design.Module.{Module}
use Rattle.rtl_ir.specs.Value.{Family, bit}
use Rattle.rtl_ir.specs.Run.{Channel, Outer, Event, Same, Offered, OfferedAll, AcceptedAll, HeldAll, AllZero, NoneOffered, NoneAccepted, Under, IsReset}
use Rattle.rtl_ir.specs.Ports.{Shape, PortView, output_port, kernel_ports, scalar_ports}
use Rattle.rtl_ir.specs.Ports.{host_input_ports, host_output_ports, shape_ports, net_at, nets_from}
use Rattle.rtl_ir.specs.Ports.{second_nets_from, channels_from, first_scalar, first_input}
use Rattle.rtl_ir.specs.Ports.{first_output, outer_of}
use Rattle.rtl_runs.specs.Stimuli.{Stimulus, IsFor}
use Rattle.rtl_runs.specs.DrivenRun.{HasIdleWords}
use Rattle.rtl_runs.proofs.PortValues.{FitPorts, Has, renumbered}

abbrev pub Scalar : Type 0
Scalar = List ℕ × List ℕ × ℕ

abbrev pub Host : Type 0
Host = List ℕ × ℕ

-- what an input has that is free to offer, or isn't, with these words left
abbrev pub word_of : Bool → List ℕ → ℕ → ℕ
word_of true (w ∷ ws) idle = w
word_of true [] idle = idle
word_of false ws idle = idle

abbrev pub valid_of : Bool → List ℕ → ℕ
valid_of true (w ∷ ws) = 1
valid_of true [] = 0
valid_of false ws = 0

-- the values of ports in their order. Those of outputs are not used
abbrev pub kernel_values : Event → ℕ → List (List ℕ) → List ℕ → List ℕ
kernel_values e k [] ticks = []
kernel_values e k (x ∷ xs) [] = []
kernel_values e k (x ∷ xs) (t ∷ ticks) = bit (e.held k) ∷ t ∷ kernel_values e (k + 1) xs ticks

abbrev pub input_values : Event → (ℕ → ℕ) → ℕ → List Host → List (List ℕ) → List ℕ
input_values e idle k [] left = []
input_values e idle k (x ∷ xs) [] = []
input_values e idle k (x ∷ xs) (ws ∷ left) = word_of (e.offers k) ws (idle k) ∷ valid_of (e.offers k) ws ∷ 0 ∷ input_values e idle (k + 1) xs left

abbrev pub output_values : Event → ℕ → List Host → List ℕ
output_values e k [] = []
output_values e k (y ∷ ys) = 0 ∷ 0 ∷ bit (e.accepts k) ∷ output_values e (k + 1) ys

-- an edge, with reset or without: the words that are left, the event, and the words of inputs that aren't valid
pub record Drive : Type 0 where
  pub reset : ℕ
  pub left : List (List ℕ)
  pub event : Event
  pub idle : ℕ → ℕ

abbrev pub inner_values : Shape → Stimulus → Drive → List ℕ
inner_values s x g =
    kernel_values g.event 0 s.kernels x.ticks
    ++ (x.scalars
    ++ (input_values g.event g.idle 0 s.inputs g.left
    ++ (output_values g.event 0 s.outputs
    ++ 0 ∷ [])))

abbrev pub port_values : Shape → Stimulus → Drive → List ℕ
port_values s x g = 0 ∷ g.reset ∷ inner_values s x g

-- the edge that it drives
pub record IsPut (o : Outer) (x : Stimulus) (g : Drive) (v : Family) : Type 0 where
  pub clock : v o.clock ≡ 0
  pub reset : v o.reset ≡ g.reset
  pub steadily : Same o.steady (x.ticks ++ x.scalars) v
  pub held : HeldAll g.event 0 o.holds v
  pub offered : OfferedAll g.event 0 o.inputs g.left v
  pub accepted : AcceptedAll g.event 0 o.outputs v
  pub idle : HasIdleWords g.idle 0 o.inputs v

abbrev pub LeftFit : List Host → List (List ℕ) → Type 0
LeftFit = AllZip (λ i words. All (λ w. w < 2 ^ i.1) words)

abbrev pub IdleFit : ℕ → List Host → (ℕ → ℕ) → Type 0
IdleFit b inputs idle = (k : ℕ) (i : Host) → slice_get inputs k ≡ Some i → idle (b + k) < 2 ^ i.1

abbrev done_ports : List PortView
done_ports = output_port (codes "done") 1 ∷ []

-- the ports behind the reset, as the shape has them and kind after kind
abbrev inner_ports : Shape → List PortView
inner_ports s = kernel_ports s.kernels ++ scalar_ports s.scalars ++ host_input_ports s.inputs ++ host_output_ports s.outputs ++ done_ports

abbrev by_kind : Shape → List PortView
by_kind s = kernel_ports s.kernels ++ (scalar_ports s.scalars ++ (host_input_ports s.inputs ++ (host_output_ports s.outputs ++ done_ports)))

grouped : (s : Shape) → inner_ports s ≡ by_kind s
grouped s =
    append_assoc (kernel_ports s.kernels ++ scalar_ports s.scalars ++ host_input_ports s.inputs) (host_output_ports s.outputs) done_ports
    ∙ append_assoc (kernel_ports s.kernels ++ scalar_ports s.scalars) (host_input_ports s.inputs) (host_output_ports s.outputs ++ done_ports)
    ∙ append_assoc (kernel_ports s.kernels) (scalar_ports s.scalars) (host_input_ports s.inputs ++ (host_output_ports s.outputs ++ done_ports))

-- ---- the values are words of the ports' widths
bit_fits : (b : Bool) → bit b < 2 ^ 1
bit_fits true = lit< tt
bit_fits false = lit< tt

valid_fits : (b : Bool) (ws : List ℕ) → valid_of b ws < 2 ^ 1
valid_fits true (w ∷ ws) = lit< tt
valid_fits true [] = lit< tt
valid_fits false ws = lit< tt

word_fits : (b : Bool) (ws : List ℕ) (idle n : ℕ) → All (λ w. w < 2 ^ n) ws → idle < 2 ^ n → word_of b ws idle < 2 ^ n
word_fits true (w ∷ ws) idle n h i = h 0 0 (omega arith)
word_fits true [] idle n h i = i
word_fits false ws idle n h i = i

kernels_fit : (e : Event) (b : ℕ) (ks : List (List ℕ)) (ts : List ℕ) (rest : List PortView)
    (more : List ℕ) → AllZip (λ k n. n < 2 ^ 48) ks ts → FitPorts rest more
    → FitPorts (kernel_ports ks ++ rest) (kernel_values e b ks ts ++ more)
kernels_fit e b [] [] rest more h r = r
kernels_fit e b [] (t ∷ ts) rest more h r = absurd h
kernels_fit e b (k ∷ ks) [] rest more h r = absurd h
kernels_fit e b (k ∷ ks) (t ∷ ts) rest more h r = (bit_fits (e.held b), (h.0, kernels_fit e (b + 1) ks ts rest more h.1 r))

scalars_fit : (ss : List Scalar) (xs : List ℕ) (rest : List PortView) (more : List ℕ) → AllZip (λ a n. n < 2 ^ a.2) ss xs → FitPorts rest more → FitPorts (scalar_ports ss ++ rest) (xs ++ more)
scalars_fit [] [] rest more h r = r
scalars_fit [] (x ∷ xs) rest more h r = absurd h
scalars_fit (s ∷ ss) [] rest more h r = absurd h
scalars_fit (s ∷ ss) (x ∷ xs) rest more h r = (h.0, scalars_fit ss xs rest more h.1 r)

next_idle : (b : ℕ) (x : Host) (xs : List Host) (idle : ℕ → ℕ) → IdleFit b (x ∷ xs) idle → IdleFit (b + 1) xs idle
next_idle b x xs idle h k i at =
    let e : b + suc k ≡ b + 1 + k = omega arith in
    subst (λ (j : ℕ). idle j < 2 ^ i.1) e (h (suc k) i at)

first_idle : (b : ℕ) (x : Host) (xs : List Host) (idle : ℕ → ℕ) → IdleFit b (x ∷ xs) idle → idle b < 2 ^ x.1
first_idle b x xs idle h =
    let e : b + 0 ≡ b = omega arith in
    subst (λ (j : ℕ). idle j < 2 ^ x.1) e (h 0 x refl)

hosts_fit : (e : Event) (idle : ℕ
    → ℕ) (b : ℕ) (xs : List Host) (left : List (List ℕ)) (rest : List PortView) (more : List ℕ)
    → LeftFit xs left → IdleFit b xs idle → FitPorts rest more
    → FitPorts (host_input_ports xs ++ rest) (input_values e idle b xs left ++ more)
hosts_fit e idle b [] [] rest more h i r = r
hosts_fit e idle b [] (ws ∷ left) rest more h i r = absurd h
hosts_fit e idle b (x ∷ xs) [] rest more h i r = absurd h
hosts_fit e idle b (x ∷ xs) (ws ∷ left) rest more h i r = (
  word_fits (e.offers b) ws (idle b) x.1 h.0 (first_idle b x xs idle i),
  (valid_fits (e.offers b) ws, (lit< tt, hosts_fit e idle (b + 1) xs left rest more h.1 (next_idle b x xs idle i) r)),
)

outputs_fit : (e : Event) (b : ℕ) (ys : List Host) (rest : List PortView) (more : List ℕ) → FitPorts rest more → FitPorts (host_output_ports ys ++ rest) (output_values e b ys ++ more)
outputs_fit e b [] rest more r = r
outputs_fit e b (y ∷ ys) rest more r = (pow_pos y.1, (lit< tt, (bit_fits (e.accepts b), outputs_fit e (b + 1) ys rest more r)))

pub values_fit : (s : Shape) (x : Stimulus) (g : Drive) → IsFor s x → g.reset < 2 ^ 1 → LeftFit s.inputs g.left → IdleFit 0 s.inputs g.idle → FitPorts (shape_ports s) (port_values s x g)
values_fit s x g for reset left idle =
    let kinds : FitPorts (by_kind s) (inner_values s x g) = kernels_fit g.event 0 s.kernels x.ticks _ _ for.ticks
    (scalars_fit s.scalars x.scalars _ _ for.scalars
    (hosts_fit g.event g.idle 0 s.inputs g.left _ _ left idle
    (outputs_fit g.event 0 s.outputs _ _ (lit< tt, tt)))) in
    let inner : FitPorts (inner_ports s) (inner_values s x g) = subst (λ (l : List PortView). FitPorts l (inner_values s x g)) (sym (grouped s)) kinds in
    (lit< tt, (reset, inner))

module _ (m : Module) (v : Family) where
  outwards : {A : Type 0} → true ≡ false → A
  outwards e = absurd (true≢false e)

  -- ---- from the values to the edge
  kernels_put : (e : Event) (b k j n : ℕ) (ks : List (List ℕ)) (ts : List ℕ)
      (rest : List PortView) (more : List ℕ) → j ≡ k + 1 → n ≡ k + 2 * length ks
      → AllZip (λ x t. t < 2 ^ 48) ks ts → Has m v k (kernel_ports ks
      ++ rest) (kernel_values e b ks ts ++ more) → HeldAll e b (second_nets_from m k ks) v
      × Same (second_nets_from m j ks) ts v × Has m v n rest more
  kernels_put e b k j n [] [] rest more f g fit h = (tt, tt, renumbered m v k n rest more (omega (arith, g)) h)
  kernels_put e b k j n [] (t ∷ ts) rest more f g fit h = absurd fit
  kernels_put e b k j n (x ∷ ks) [] rest more f g fit h = absurd fit
  kernels_put e b k j n (x ∷ ks) (t ∷ ts) rest more f g fit h =
      let r = kernels_put e (b + 1) (k + 2) (j + 2) n ks ts rest more (omega (arith, f)) (omega (arith, g)) fit.1 (renumbered m v (k + 1 + 1) (k + 2) _ _ (omega arith) h.1.1) in
      ((h.0 refl, r.0), (ap (λ i. v (net_at m i)) f ∙ h.1.0 refl, r.1), r.2)

  scalars_put : (k n : ℕ) (ss : List Scalar) (xs : List ℕ) (rest : List PortView)
      (more : List ℕ) → n ≡ k + length ss → AllZip (λ a t. t < 2 ^ a.2) ss xs
      → Has m v k (scalar_ports ss ++ rest) (xs ++ more) → Same (nets_from m k ss) xs v
      × Has m v n rest more
  scalars_put k n [] [] rest more g fit h = (tt, renumbered m v k n rest more (omega (arith, g)) h)
  scalars_put k n [] (x ∷ xs) rest more g fit h = absurd fit
  scalars_put k n (s ∷ ss) [] rest more g fit h = absurd fit
  scalars_put k n (s ∷ ss) (x ∷ xs) rest more g fit h =
      let r = scalars_put (k + 1) n ss xs rest more (omega (arith, g)) fit.1 h.1 in
      ((h.0 refl, r.0), r.1)

  one_put : (b : Bool) (ws : List ℕ) (idle : ℕ) (ch : Channel) → v ch.word ≡ word_of b ws idle → v ch.valid ≡ valid_of b ws → Offered b ch ws v × (v ch.valid ≡ 0 → v ch.word ≡ idle)
  one_put true (w ∷ ws) idle ch word valid = ((valid, word), λ z. absurd (omega (arith, sym valid ∙ z)))
  one_put true [] idle ch word valid = (valid, λ z. word)
  one_put false ws idle ch word valid = (valid, λ z. word)

  hosts_put : (e : Event) (idle : ℕ
      → ℕ) (b k n : ℕ) (xs : List Host) (left : List (List ℕ)) (rest : List PortView)
      (more : List ℕ) → n ≡ k + 3 * length xs → LeftFit xs left
      → Has m v k (host_input_ports xs ++ rest) (input_values e idle b xs left ++ more)
      → OfferedAll e b (channels_from m k xs) left v
      × HasIdleWords idle b (channels_from m k xs) v × Has m v n rest more
  hosts_put e idle b k n [] [] rest more g fit h = (tt, tt, renumbered m v k n rest more (omega (arith, g)) h)
  hosts_put e idle b k n [] (ws ∷ left) rest more g fit h = absurd fit
  hosts_put e idle b k n (x ∷ xs) [] rest more g fit h = absurd fit
  hosts_put e idle b k n (x ∷ xs) (ws ∷ left) rest more g fit h =
      let r = hosts_put e idle (b + 1) (k + 3) n xs left rest more (omega (arith, g)) fit.1 (renumbered m v (k + 1 + 1 + 1) (k + 3) _ _ (omega arith) h.1.1.1) in
      let o = one_put (e.offers b) ws (idle b) (record { word = net_at m k; valid = net_at m (k + 1); ready = net_at m (k + 2) }) (h.0 refl) (h.1.0 refl) in
      ((o.0, r.0), (o.1, r.1), r.2)

  outputs_put : (e : Event) (b k n : ℕ) (ys : List Host) (rest : List PortView) (more : List ℕ)
      → n ≡ k + 3 * length ys → Has m v k (host_output_ports ys ++ rest) (output_values e b ys
      ++ more) → AcceptedAll e b (channels_from m k ys) v
  outputs_put e b k n [] rest more g h = tt
  outputs_put e b k n (y ∷ ys) rest more g h =
      let third : k + 2 ≡ k + 1 + 1 = omega arith in
      (ap (λ i. v (net_at m i)) third ∙ h.1.1.0 refl, outputs_put e (b + 1) (k + 3) n ys rest more (omega (arith, g)) (renumbered m v (k + 1 + 1 + 1) (k + 3) _ _ (omega arith) h.1.1.1))

  joined : (ms ns xs ys : List ℕ) → Same ms xs v → Same ns ys v → Same (ms ++ ns) (xs ++ ys) v
  joined [] ns [] ys h g = g
  joined [] ns (x ∷ xs) ys h g = absurd h
  joined (n ∷ ms) ns [] ys h g = absurd h
  joined (n ∷ ms) ns (x ∷ xs) ys h g = (h.0, joined ms ns xs ys h.1 g)

  pub put_from : (s : Shape) (x : Stimulus) (g : Drive) → IsFor s x → LeftFit s.inputs g.left → Has m v 0 (shape_ports s) (port_values s x g) → IsPut (outer_of s m) x g v
  put_from s x g for left h =
      let behind : Has m v 2 (inner_ports s) (inner_values s x g) = renumbered m v (0 + 1 + 1) 2 (inner_ports s) (inner_values s x g) (omega arith) h.1.1 in
      let all : Has m v 2 (by_kind s) (inner_values s x g) = subst (λ (l : List PortView). Has m v 2 l (inner_values s x g)) (grouped s) behind in
      let k = kernels_put g.event 0 2 3 (first_scalar s) s.kernels x.ticks _ _ (omega arith) refl for.ticks all in
      let a = scalars_put (first_scalar s) (first_input s) s.scalars x.scalars _ _ refl for.scalars k.2 in
      let i = hosts_put g.event g.idle 0 (first_input s) (first_output s) s.inputs g.left _ _ refl left a.1 in
      record {
        clock = h.0 refl;
        reset = h.1.0 refl;
        steadily = joined (second_nets_from m 3 s.kernels) (nets_from m (first_scalar s) s.scalars) x.ticks x.scalars k.1 a.0;
        held = k.0;
        offered = i.0;
        accepted = outputs_put g.event 0 (first_output s) (first_output s + 3 * length s.outputs) s.outputs _ _ refl i.2;
        idle = i.1;
      }

  -- ---- from the edge to the values
  kernels_of : (e : Event) (b k j n : ℕ) (ks : List (List ℕ)) (ts : List ℕ)
      (rest : List PortView) (more : List ℕ) → j ≡ k + 1 → n ≡ k + 2 * length ks
      → HeldAll e b (second_nets_from m k ks) v → Same (second_nets_from m j ks) ts v
      → Has m v n rest more → Has m v k (kernel_ports ks ++ rest) (kernel_values e b ks ts ++ more)
  kernels_of e b k j n [] ts rest more f g h t r = renumbered m v n k rest more (omega (arith, g)) r
  kernels_of e b k j n (x ∷ ks) [] rest more f g h t r = absurd t
  kernels_of e b k j n (x ∷ ks) (y ∷ ts) rest more f g h t r = (
    λ _. h.0,
    (
      λ _. ap (λ i. v (net_at m i)) (sym f) ∙ t.0,
      renumbered m v (k + 2) (k + 1 + 1) _ _ (omega arith) (kernels_of e (b + 1) (k + 2) (j + 2) n ks ts rest more (omega (arith, f)) (omega (arith, g)) h.1 t.1 r),
    ),
  )

  scalars_of : (k n : ℕ) (ss : List Scalar) (xs : List ℕ) (rest : List PortView) (more : List ℕ)
      → n ≡ k + length ss → Same (nets_from m k ss) xs v → Has m v n rest more
      → Has m v k (scalar_ports ss ++ rest) (xs ++ more)
  scalars_of k n [] [] rest more g h r = renumbered m v n k rest more (omega (arith, g)) r
  scalars_of k n [] (x ∷ xs) rest more g h r = absurd h
  scalars_of k n (s ∷ ss) [] rest more g h r = absurd h
  scalars_of k n (s ∷ ss) (x ∷ xs) rest more g h r = (λ _. h.0, scalars_of (k + 1) n ss xs rest more (omega (arith, g)) h.1 r)

  one_of : (b : Bool) (ws : List ℕ) (idle : ℕ) (ch : Channel) → Offered b ch ws v → (v ch.valid ≡ 0 → v ch.word ≡ idle) → (v ch.word ≡ word_of b ws idle) × (v ch.valid ≡ valid_of b ws)
  one_of true (w ∷ ws) idle ch o i = (o.1, o.0)
  one_of true [] idle ch o i = (i o, o)
  one_of false ws idle ch o i = (i o, o)

  hosts_of : (e : Event) (idle : ℕ
      → ℕ) (b k n : ℕ) (xs : List Host) (left : List (List ℕ)) (rest : List PortView)
      (more : List ℕ) → n ≡ k + 3 * length xs → OfferedAll e b (channels_from m k xs) left v
      → HasIdleWords idle b (channels_from m k xs) v → Has m v n rest more
      → Has m v k (host_input_ports xs ++ rest) (input_values e idle b xs left ++ more)
  hosts_of e idle b k n [] left rest more g h i r = renumbered m v n k rest more (omega (arith, g)) r
  hosts_of e idle b k n (x ∷ xs) [] rest more g h i r = absurd h
  hosts_of e idle b k n (x ∷ xs) (ws ∷ left) rest more g h i r =
      let o = one_of (e.offers b) ws (idle b) (record { word = net_at m k; valid = net_at m (k + 1); ready = net_at m (k + 2) }) h.0 i.0 in (
        λ _. o.0,
        (
          λ _. o.1,
          (
            λ z. outwards z,
            renumbered m v (k + 3) (k + 1 + 1 + 1) _ _ (omega arith) (hosts_of e idle (b + 1) (k + 3) n xs left rest more (omega (arith, g)) h.1 i.1 r),
          ),
        ),
      )

  outputs_of : (e : Event) (b k n : ℕ) (ys : List Host) (rest : List PortView) (more : List ℕ)
      → n ≡ k + 3 * length ys → AcceptedAll e b (channels_from m k ys) v → Has m v n rest more
      → Has m v k (host_output_ports ys ++ rest) (output_values e b ys ++ more)
  outputs_of e b k n [] rest more g h r = renumbered m v n k rest more (omega (arith, g)) r
  outputs_of e b k n (y ∷ ys) rest more g h r =
      let third : k + 1 + 1 ≡ k + 2 = omega arith in (
        λ z. outwards z,
        (
          λ z. outwards z,
          (
            λ _. ap (λ i. v (net_at m i)) third ∙ h.0,
            renumbered m v (k + 3) (k + 1 + 1 + 1) _ _ (omega arith) (outputs_of e (b + 1) (k + 3) n ys rest more (omega (arith, g)) h.1 r),
          ),
        ),
      )

  parted : (ms ns xs ys : List ℕ) → length ms ≡ length xs → Same (ms ++ ns) (xs ++ ys) v → Same ms xs v × Same ns ys v
  parted [] ns [] ys e h = (tt, h)
  parted [] ns (x ∷ xs) ys e h = absurd (omega (arith, e))
  parted (n ∷ ms) ns [] ys e h = absurd (omega (arith, e))
  parted (n ∷ ms) ns (x ∷ xs) ys e h = let r = parted ms ns xs ys (omega (arith, e)) h.1 in ((h.0, r.0), r.1)

  seconds_length : (k : ℕ) (ks : List (List ℕ)) (ts : List ℕ) → AllZip (λ x t. t < 2 ^ 48) ks ts → length (second_nets_from m k ks) ≡ length ts
  seconds_length k [] [] h = refl
  seconds_length k [] (t ∷ ts) h = absurd h
  seconds_length k (x ∷ ks) [] h = absurd h
  seconds_length k (x ∷ ks) (t ∷ ts) h = let r = seconds_length (k + 2) ks ts h.1 in omega (arith, r)

  pub has_from : (s : Shape) (x : Stimulus) (g : Drive) → IsFor s x → IsPut (outer_of s m) x g v → Has m v 0 (shape_ports s) (port_values s x g)
  has_from s x g for p =
      let steady = parted (second_nets_from m 3 s.kernels) (nets_from m (first_scalar s) s.scalars) x.ticks x.scalars (seconds_length 3 s.kernels x.ticks for.ticks) p.steadily in
      let kinds : Has m v 2 (by_kind s) (inner_values s x g) = kernels_of g.event 0 2 3 (first_scalar s) s.kernels x.ticks _ _ (omega arith) refl p.held steady.0
      (scalars_of (first_scalar s) (first_input s) s.scalars x.scalars _ _ refl steady.1
      (hosts_of g.event g.idle 0 (first_input s) (first_output s) s.inputs g.left _ _ refl p.offered p.idle
      (outputs_of g.event 0 (first_output s) (first_output s + 3 * length s.outputs) s.outputs _ _ refl p.accepted
      (λ z. outwards z, tt)))) in
      let inner : Has m v 2 (inner_ports s) (inner_values s x g) = subst (λ (l : List PortView). Has m v 2 l (inner_values s x g)) (sym (grouped s)) kinds in
      (λ _. p.clock, (λ _. p.reset, renumbered m v 2 (0 + 1 + 1) (inner_ports s) (inner_values s x g) (omega arith) inner))

-- ---- the edges of a run
abbrev pub none : Event
none = record { offers = λ k. false; accepts = λ k. false; held = λ k. false }

held_none : (k : ℕ) (ns : List ℕ) (v : Family) → HeldAll none k ns v → AllZero ns v
held_none k [] v h = tt
held_none k (n ∷ ns) v h = (h.0, held_none (k + 1) ns v h.1)

none_held : (k : ℕ) (ns : List ℕ) (v : Family) → AllZero ns v → HeldAll none k ns v
none_held k [] v h = tt
none_held k (n ∷ ns) v h = (h.0, none_held (k + 1) ns v h.1)

accepted_none : (k : ℕ) (chs : List Channel) (v : Family) → AcceptedAll none k chs v → NoneAccepted chs v
accepted_none k [] v h = tt
accepted_none k (ch ∷ chs) v h = (h.0, accepted_none (k + 1) chs v h.1)

none_accepted : (k : ℕ) (chs : List Channel) (v : Family) → NoneAccepted chs v → AcceptedAll none k chs v
none_accepted k [] v h = tt
none_accepted k (ch ∷ chs) v h = (h.0, none_accepted (k + 1) chs v h.1)

offered_none : (k : ℕ) (chs : List Channel) (left : List (List ℕ)) (v : Family) → OfferedAll none k chs left v → NoneOffered chs v
offered_none k [] left v h = tt
offered_none k (ch ∷ chs) [] v h = absurd h
offered_none k (ch ∷ chs) (ws ∷ left) v h = (h.0, offered_none (k + 1) chs left v h.1)

none_offered : (m : Module) (k b : ℕ) (xs : List Host) (left : List (List ℕ)) (v : Family) → LeftFit xs left → NoneOffered (channels_from m k xs) v → OfferedAll none b (channels_from m k xs) left v
none_offered m k b [] [] v fit h = tt
none_offered m k b [] (ws ∷ left) v fit h = absurd fit
none_offered m k b (x ∷ xs) [] v fit h = absurd fit
none_offered m k b (x ∷ xs) (ws ∷ left) v fit h = (h.0, none_offered m (k + 3) (b + 1) xs left v fit.1 h.1)

abbrev pub restart : Stimulus → Drive
restart x = record { reset = 1; left = x.words; event = none; idle = x.idle 0 }

abbrev pub going : Stimulus → ℕ → List (List ℕ) → Event → Drive
going x edge left e = record { reset = 0; left = left; event = e; idle = x.idle edge }

pub reset_from : (o : Outer) (x : Stimulus) (v : Family) → IsPut o x (restart x) v → IsReset o (x.ticks ++ x.scalars) v
reset_from o x v p = record {
  clock = p.clock;
  reset = p.reset;
  steadily = p.steadily;
  not_held = held_none 0 o.holds v p.held;
  none_offered = offered_none 0 o.inputs x.words v p.offered;
  none_accepted = accepted_none 0 o.outputs v p.accepted;
}

pub put_reset : (m : Module) (s : Shape) (x : Stimulus) (v : Family) → LeftFit s.inputs x.words
    → IsReset (outer_of s m) (x.ticks ++ x.scalars) v
    → HasIdleWords (x.idle 0) 0 (outer_of s m).inputs v → IsPut (outer_of s m) x (restart x) v
put_reset m s x v fit r idle = record {
  clock = r.clock;
  reset = r.reset;
  steadily = r.steadily;
  held = none_held 0 (outer_of s m).holds v r.not_held;
  offered = none_offered m (first_input s) 0 s.inputs x.words v fit r.none_offered;
  accepted = none_accepted 0 (outer_of s m).outputs v r.none_accepted;
  idle = idle;
}

pub under_from : (o : Outer) (x : Stimulus) (edge : ℕ) (left : List (List ℕ)) (e : Event) (v : Family) → IsPut o x (going x edge left e) v → Under o (x.ticks ++ x.scalars) left e v
under_from o x edge left e v p = record { clock = p.clock; reset = p.reset; steadily = p.steadily; held = p.held; offered = p.offered; accepted = p.accepted }

pub put_under : (o : Outer) (x : Stimulus) (edge : ℕ) (left : List (List ℕ)) (e : Event)
    (v : Family) → Under o (x.ticks ++ x.scalars) left e v
    → HasIdleWords (x.idle edge) 0 o.inputs v → IsPut o x (going x edge left e) v
put_under o x edge left e v u idle = record { clock = u.clock; reset = u.reset; steadily = u.steadily; held = u.held; offered = u.offered; accepted = u.accepted; idle = idle }
