-- The ports of a shape by their numbers, and the nets by which a run sees them.
use Rattle.std.proofs.Common.{◌≡◌, ℕ, zero, suc, ◌+◌, ◌*◌, ◌<◌, Bool, true, false, List, [], ◌∷◌, ◌++◌, length, get_or, Option, Some, None, refl, sym, ap, ◌∙◌, arith}
use Rattle.std.specs.Prelude.{slice_get}
use Rattle.std.specs.Option.{option_map}
use Rattle.std.proofs.lemmas.Option.{slice_get-map}
use Rattle.std.proofs.lemmas.List.{length-append}
use Rattle.rtl_ir.specs.declared.design.Port.{Port}
use Rattle.rtl_ir.specs.declared.design.Module.{Module}
use Rattle.rtl_ir.specs.Value.{width_of}
use Rattle.rtl_ir.specs.Run.{Channel}
use Rattle.rtl_ir.specs.Ports.{Shape, PortView, kernel_ports, scalar_ports, host_input_ports}
use Rattle.rtl_ir.specs.Ports.{host_output_ports, shape_ports, port_view, HasShape, port_net}
use Rattle.rtl_ir.specs.Ports.{net_at, nets_from, second_nets_from, channels_from, first_scalar}
use Rattle.rtl_ir.specs.Ports.{first_input, first_output, done_port, outer_of}

-- a port of this width and direction at a place of a list
pub record ViewAt (l : List PortView) (i w : ℕ) (out : Bool) : Type 0 where
  pub view : PortView
  pub at : slice_get l i ≡ Some view
  pub width : view.width ≡ w
  pub output : view.output ≡ out

in_left : (xs ys : List PortView) (i w : ℕ) (out : Bool) → ViewAt xs i w out → ViewAt (xs ++ ys) i w out
in_left xs ys i w out v = record { view = v.view; at = get_left xs ys i v.view v.at; width = v.width; output = v.output }
  where
    get_left : (xs ys : List PortView) (i : ℕ) (x : PortView) → slice_get xs i ≡ Some x → slice_get (xs ++ ys) i ≡ Some x
    get_left [] ys i x e = absurd (cc)
    get_left (z ∷ xs) ys zero x e = e
    get_left (z ∷ xs) ys (suc i) x e = get_left xs ys i x e

get_right : (xs ys : List PortView) (i : ℕ) → slice_get (xs ++ ys) (length xs + i) ≡ slice_get ys i
get_right [] ys i = let e : 0 + i ≡ i = omega arith in ap (slice_get ys) e
get_right (z ∷ xs) ys i = let e : suc (length xs) + i ≡ suc (length xs + i) = omega arith in ap (slice_get (z ∷ (xs ++ ys))) e ∙ get_right xs ys i

in_right : (xs ys : List PortView) (i j w : ℕ) (out : Bool) → i ≡ length xs + j → ViewAt ys j w out → ViewAt (xs ++ ys) i w out
in_right xs ys i j w out e v = record { view = v.view; at = ap (slice_get (xs ++ ys)) e ∙ get_right xs ys j ∙ v.at; width = v.width; output = v.output }

later : (x : PortView) (l : List PortView) (i j w : ℕ) (out : Bool) → i ≡ suc j → ViewAt l j w out → ViewAt (x ∷ l) i w out
later x l i j w out e v = record { view = v.view; at = ap (slice_get (x ∷ l)) e ∙ v.at; width = v.width; output = v.output }

length_kernels : (ks : List (List ℕ)) → length (kernel_ports ks) ≡ 2 * length ks
length_kernels [] = refl
length_kernels (k ∷ ks) = let e = length_kernels ks in omega (arith, e)

length_scalars : (ss : List (List ℕ × List ℕ × ℕ)) → length (scalar_ports ss) ≡ length ss
length_scalars [] = refl
length_scalars (s ∷ ss) = let e = length_scalars ss in omega (arith, e)

length_inputs : (xs : List (List ℕ × ℕ)) → length (host_input_ports xs) ≡ 3 * length xs
length_inputs [] = refl
length_inputs (x ∷ xs) = let e = length_inputs xs in omega (arith, e)

length_outputs : (ys : List (List ℕ × ℕ)) → length (host_output_ports ys) ≡ 3 * length ys
length_outputs [] = refl
length_outputs (y ∷ ys) = let e = length_outputs ys in omega (arith, e)

hold_in : (ks : List (List ℕ)) (k i : ℕ) → k < length ks → i ≡ 2 * k → ViewAt (kernel_ports ks) i 1 false
hold_in [] k i lt e = absurd (omega arith)
hold_in (x ∷ ks) zero i lt e = record { view = _; at = ap (slice_get (kernel_ports (x ∷ ks))) e; width = refl; output = refl }
hold_in (x ∷ ks) (suc k) i lt e =
    let r = hold_in ks k (2 * k) (omega arith) refl in
    let e' : i ≡ suc (suc (2 * k)) = omega arith in
    record { view = r.view; at = ap (slice_get (kernel_ports (x ∷ ks))) e' ∙ r.at; width = r.width; output = r.output }

ticks_in : (ks : List (List ℕ)) (k i : ℕ) → k < length ks → i ≡ 1 + 2 * k → ViewAt (kernel_ports ks) i 48 false
ticks_in [] k i lt e = absurd (omega arith)
ticks_in (x ∷ ks) zero i lt e = record { view = _; at = ap (slice_get (kernel_ports (x ∷ ks))) e; width = refl; output = refl }
ticks_in (x ∷ ks) (suc k) i lt e =
    let r = ticks_in ks k (1 + 2 * k) (omega arith) refl in
    let e' : i ≡ suc (suc (1 + 2 * k)) = omega arith in
    record { view = r.view; at = ap (slice_get (kernel_ports (x ∷ ks))) e' ∙ r.at; width = r.width; output = r.output }

scalar_in : (ss : List (List ℕ × List ℕ × ℕ)) (k : ℕ) → k < length ss → (w : ℕ) × ViewAt (scalar_ports ss) k w false
scalar_in [] k lt = absurd (omega arith)
scalar_in (s ∷ ss) zero lt = (s.2, record { view = _; at = refl; width = refl; output = refl })
scalar_in (s ∷ ss) (suc k) lt = let r = scalar_in ss k (omega arith) in (r.0, record { view = r.1.view; at = r.1.at; width = r.1.width; output = r.1.output })

word_in : (xs : List (List ℕ × ℕ)) (k i : ℕ) → k < length xs → i ≡ 3 * k → (w : ℕ) × ViewAt (host_input_ports xs) i w false
word_in [] k i lt e = absurd (omega arith)
word_in (x ∷ xs) zero i lt e = (x.1, record { view = _; at = ap (slice_get (host_input_ports (x ∷ xs))) e; width = refl; output = refl })
word_in (x ∷ xs) (suc k) i lt e =
    let r = word_in xs k (3 * k) (omega arith) refl in
    let e' : i ≡ suc (suc (suc (3 * k))) = omega arith in
    (r.0, record { view = r.1.view; at = ap (slice_get (host_input_ports (x ∷ xs))) e' ∙ r.1.at; width = r.1.width; output = r.1.output })

valid_in : (xs : List (List ℕ × ℕ)) (k i : ℕ) → k < length xs → i ≡ 1 + 3 * k → ViewAt (host_input_ports xs) i 1 false
valid_in [] k i lt e = absurd (omega arith)
valid_in (x ∷ xs) zero i lt e = record { view = _; at = ap (slice_get (host_input_ports (x ∷ xs))) e; width = refl; output = refl }
valid_in (x ∷ xs) (suc k) i lt e =
    let r = valid_in xs k (1 + 3 * k) (omega arith) refl in
    let e' : i ≡ suc (suc (suc (1 + 3 * k))) = omega arith in
    record { view = r.view; at = ap (slice_get (host_input_ports (x ∷ xs))) e' ∙ r.at; width = r.width; output = r.output }

accept_in : (ys : List (List ℕ × ℕ)) (k i : ℕ) → k < length ys → i ≡ 2 + 3 * k → ViewAt (host_output_ports ys) i 1 false
accept_in [] k i lt e = absurd (omega arith)
accept_in (y ∷ ys) zero i lt e = record { view = _; at = ap (slice_get (host_output_ports (y ∷ ys))) e; width = refl; output = refl }
accept_in (y ∷ ys) (suc k) i lt e =
    let r = accept_in ys k (2 + 3 * k) (omega arith) refl in
    let e' : i ≡ suc (suc (suc (2 + 3 * k))) = omega arith in
    record { view = r.view; at = ap (slice_get (host_output_ports (y ∷ ys))) e' ∙ r.at; width = r.width; output = r.output }

-- the four kinds of ports one after another
abbrev middle : Shape → List PortView
middle s = kernel_ports s.kernels ++ scalar_ports s.scalars ++ host_input_ports s.inputs ++ host_output_ports s.outputs

abbrev done_view : PortView
done_view = record { name = Rattle.std.specs.Prelude.codes "done"; width = 1; output = true }

in_middle : (s : Shape) (i j w : ℕ) (out : Bool) → i ≡ 2 + j → ViewAt (middle s) j w out → ViewAt (shape_ports s) i w out
in_middle s i j w out e v = later _ _ i (1 + j) w out (omega arith) (later _ _ (1 + j) j w out (omega arith) (in_left (middle s) _ j w out v))

pub clock_at : (s : Shape) → ViewAt (shape_ports s) 0 1 false
clock_at s = record { view = _; at = refl; width = refl; output = refl }

pub reset_at : (s : Shape) → ViewAt (shape_ports s) 1 1 false
reset_at s = record { view = _; at = refl; width = refl; output = refl }

in_kernels : (s : Shape) (j w : ℕ) (out : Bool) → ViewAt (kernel_ports s.kernels) j w out → ViewAt (middle s) j w out
in_kernels s j w out v = in_left _ (host_output_ports s.outputs) j w out (in_left _ (host_input_ports s.inputs) j w out (in_left _ (scalar_ports s.scalars) j w out v))

pub hold_at : (s : Shape) (k i : ℕ) → k < length s.kernels → i ≡ 2 + 2 * k → ViewAt (shape_ports s) i 1 false
hold_at s k i lt e = in_middle s i (2 * k) 1 false (omega arith) (in_kernels s (2 * k) 1 false (hold_in s.kernels k (2 * k) lt refl))

pub ticks_at : (s : Shape) (k i : ℕ) → k < length s.kernels → i ≡ 3 + 2 * k → ViewAt (shape_ports s) i 48 false
ticks_at s k i lt e = in_middle s i (1 + 2 * k) 48 false (omega arith) (in_kernels s (1 + 2 * k) 48 false (ticks_in s.kernels k (1 + 2 * k) lt refl))

pub scalar_at : (s : Shape) (k i : ℕ) → k < length s.scalars → i ≡ first_scalar s + k → (w : ℕ) × ViewAt (shape_ports s) i w false
scalar_at s k i lt e =
    let r = scalar_in s.scalars k lt in
    let n = length_kernels s.kernels in (
      r.0,
      in_middle s i (2 * length s.kernels + k) r.0 false (omega arith)
          (in_left _ (host_output_ports s.outputs) _ r.0 false
          (in_left _ (host_input_ports s.inputs) _ r.0 false
          (in_right (kernel_ports s.kernels) (scalar_ports s.scalars)
          (2 * length s.kernels + k) k r.0 false (omega (arith, n)) r.1))),
    )

length_front : (s : Shape) → length (kernel_ports s.kernels ++ scalar_ports s.scalars) ≡ 2 * length s.kernels + length s.scalars
length_front s = omega (arith, length-append (kernel_ports s.kernels) (scalar_ports s.scalars), length_kernels s.kernels, length_scalars s.scalars)

in_inputs : (s : Shape) (i j w : ℕ) (out : Bool) → i ≡ first_input s + j → ViewAt (host_input_ports s.inputs) j w out → ViewAt (shape_ports s) i w out
in_inputs s i j w out e v =
    in_middle s i (2 * length s.kernels + length s.scalars + j) w out (omega arith)
    (in_left _ (host_output_ports s.outputs) _ w out (in_right (kernel_ports s.kernels ++ scalar_ports s.scalars) (host_input_ports s.inputs) _ j w out (omega (arith, length_front s)) v))

pub word_at : (s : Shape) (k i : ℕ) → k < length s.inputs → i ≡ first_input s + 3 * k → (w : ℕ) × ViewAt (shape_ports s) i w false
word_at s k i lt e = let r = word_in s.inputs k (3 * k) lt refl in (r.0, in_inputs s i (3 * k) r.0 false e r.1)

pub valid_at : (s : Shape) (k i : ℕ) → k < length s.inputs → i ≡ first_input s + 1 + 3 * k → ViewAt (shape_ports s) i 1 false
valid_at s k i lt e = in_inputs s i (1 + 3 * k) 1 false (omega arith) (valid_in s.inputs k (1 + 3 * k) lt refl)

length_three : (s : Shape) → length (kernel_ports s.kernels ++ scalar_ports s.scalars ++ host_input_ports s.inputs) ≡ 2 * length s.kernels + length s.scalars + 3 * length s.inputs
length_three s = omega (arith, length-append (kernel_ports s.kernels ++ scalar_ports s.scalars) (host_input_ports s.inputs), length_front s, length_inputs s.inputs)

pub accept_at : (s : Shape) (k i : ℕ) → k < length s.outputs → i ≡ first_output s + 2 + 3 * k → ViewAt (shape_ports s) i 1 false
accept_at s k i lt e =
    in_middle s i (2 * length s.kernels + length s.scalars + 3 * length s.inputs + (2 + 3 * k)) 1 false (omega arith)
    (in_right (kernel_ports s.kernels ++ scalar_ports s.scalars
    ++ host_input_ports s.inputs) (host_output_ports s.outputs) _ (2 + 3 * k) 1 false
    (omega (arith, length_three s)) (accept_in s.outputs k (2 + 3 * k) lt refl))

pub length_shape : (s : Shape) → length (shape_ports s) ≡ 2 + 2 * length s.kernels + length s.scalars + 3 * length s.inputs + 3 * length s.outputs + 1
length_shape s =
    omega (
      arith,
      length-append (middle s) (done_view ∷ []),
      length-append (kernel_ports s.kernels ++ scalar_ports s.scalars
          ++ host_input_ports s.inputs) (host_output_ports s.outputs),
      length_three s,
      length_outputs s.outputs,
    )

-- a port of a module with this width and direction
pub record PortAt (m : Module) (i w : ℕ) (out : Bool) : Type 0 where
  pub port : Port
  pub at : slice_get m.ports i ≡ Some port
  pub width : width_of m port.net ≡ w
  pub output : port.output ≡ out

pub port_at : (m : Module) (s : Shape) (i w : ℕ) (out : Bool) → HasShape m s → ViewAt (shape_ports s) i w out → PortAt m i w out
port_at m s i w out h v = by_port (slice_get m.ports i) refl (sym (slice_get-map (port_view m) m.ports i) ∙ ap (λ (l : List PortView). slice_get l i) h ∙ v.at)
  where
    by_port : (o : Option Port) → slice_get m.ports i ≡ o → option_map (port_view m) o ≡ Some v.view → PortAt m i w out
    by_port None e f = absurd (cc)
    by_port (Some p) e f =
        let same : port_view m p ≡ v.view = cc in
        record { port = p; at = e; width = ap (λ (x : PortView). x.width) same ∙ v.width; output = ap (λ (x : PortView). x.output) same ∙ v.output }

pub net_is : (m : Module) (i w : ℕ) (out : Bool) → (p : PortAt m i w out) → net_at m i ≡ p.port.net
net_is m i w out p = ap port_net p.at

-- the nets of a list of ports, by place
pub nets_get : {A : Type 0} (m : Module) (k i : ℕ) (xs : List A) → i < length xs → get_or (nets_from m k xs) i 0 ≡ net_at m (k + i)
nets_get m k i [] lt = absurd (omega arith)
nets_get m k zero (x ∷ xs) lt = let e : k ≡ k + 0 = omega arith in ap (net_at m) e
nets_get m k (suc i) (x ∷ xs) lt = let e : k + 1 + i ≡ k + suc i = omega arith in nets_get m (k + 1) i xs (omega arith) ∙ ap (net_at m) e

pub seconds_get : {A : Type 0} (m : Module) (k i : ℕ) (xs : List A) → i < length xs → get_or (second_nets_from m k xs) i 0 ≡ net_at m (k + 2 * i)
seconds_get m k i [] lt = absurd (omega arith)
seconds_get m k zero (x ∷ xs) lt = let e : k ≡ k + 2 * 0 = omega arith in ap (net_at m) e
seconds_get m k (suc i) (x ∷ xs) lt = let e : k + 2 + 2 * i ≡ k + 2 * suc i = omega arith in seconds_get m (k + 2) i xs (omega arith) ∙ ap (net_at m) e

abbrev pub channel_at : Module → ℕ → Channel
channel_at m k = record { word = net_at m k; valid = net_at m (k + 1); ready = net_at m (k + 2) }

pub channels_get : {A : Type 0} (m : Module) (k i : ℕ) (xs : List A) (d : Channel) → i < length xs → get_or (channels_from m k xs) i d ≡ channel_at m (k + 3 * i)
channels_get m k i [] d lt = absurd (omega arith)
channels_get m k zero (x ∷ xs) d lt = let e : k ≡ k + 3 * 0 = omega arith in ap (channel_at m) e
channels_get m k (suc i) (x ∷ xs) d lt = let e : k + 3 + 3 * i ≡ k + 3 * suc i = omega arith in channels_get m (k + 3) i xs d (omega arith) ∙ ap (channel_at m) e

pub length_nets : {A : Type 0} (m : Module) (k : ℕ) (xs : List A) → length (nets_from m k xs) ≡ length xs
length_nets m k [] = refl
length_nets m k (x ∷ xs) = ap suc (length_nets m (k + 1) xs)

pub length_seconds : {A : Type 0} (m : Module) (k : ℕ) (xs : List A) → length (second_nets_from m k xs) ≡ length xs
length_seconds m k [] = refl
length_seconds m k (x ∷ xs) = ap suc (length_seconds m (k + 2) xs)

pub length_channels : {A : Type 0} (m : Module) (k : ℕ) (xs : List A) → length (channels_from m k xs) ≡ length xs
length_channels m k [] = refl
length_channels m k (x ∷ xs) = ap suc (length_channels m (k + 3) xs)

-- the names of a shape do not matter for the nets
same_nets : {A B : Type 0} (m : Module) (k : ℕ) (xs : List A) (ys : List B) → length xs ≡ length ys → nets_from m k xs ≡ nets_from m k ys
same_nets m k [] [] e = refl
same_nets m k [] (y ∷ ys) e = absurd (omega arith)
same_nets m k (x ∷ xs) [] e = absurd (omega arith)
same_nets m k (x ∷ xs) (y ∷ ys) e = ap (λ (l : List ℕ). net_at m k ∷ l) (same_nets m (k + 1) xs ys (omega arith))

same_seconds : {A B : Type 0} (m : Module) (k : ℕ) (xs : List A) (ys : List B) → length xs ≡ length ys → second_nets_from m k xs ≡ second_nets_from m k ys
same_seconds m k [] [] e = refl
same_seconds m k [] (y ∷ ys) e = absurd (omega arith)
same_seconds m k (x ∷ xs) [] e = absurd (omega arith)
same_seconds m k (x ∷ xs) (y ∷ ys) e = ap (λ (l : List ℕ). net_at m k ∷ l) (same_seconds m (k + 2) xs ys (omega arith))

same_channels : {A B : Type 0} (m : Module) (k : ℕ) (xs : List A) (ys : List B) → length xs ≡ length ys → channels_from m k xs ≡ channels_from m k ys
same_channels m k [] [] e = refl
same_channels m k [] (y ∷ ys) e = absurd (omega arith)
same_channels m k (x ∷ xs) [] e = absurd (omega arith)
same_channels m k (x ∷ xs) (y ∷ ys) e = ap (λ (l : List Channel). channel_at m k ∷ l) (same_channels m (k + 3) xs ys (omega arith))

pub same_outer : (m : Module) (s t : Shape) → length s.kernels ≡ length t.kernels
    → length s.scalars ≡ length t.scalars → length s.inputs ≡ length t.inputs
    → length s.outputs ≡ length t.outputs → outer_of s m ≡ outer_of t m
same_outer m s t ek es ei eo =
    let es' : first_scalar s ≡ first_scalar t = omega (arith, ek) in
    let ei' : first_input s ≡ first_input t = omega (arith, es, ek) in
    let eo' : first_output s ≡ first_output t = omega (arith, ei, es, ek) in
    let ed : done_port s ≡ done_port t = omega (arith, eo, ei, es, ek) in
    let holds = same_seconds m 2 s.kernels t.kernels ek in
    let ticks = same_seconds m 3 s.kernels t.kernels ek in
    let scalars : nets_from m (first_scalar s) s.scalars ≡ nets_from m (first_scalar t) t.scalars = ap (λ k. nets_from m k s.scalars) es' ∙ same_nets m (first_scalar t) s.scalars t.scalars es in
    let inputs : channels_from m (first_input s) s.inputs ≡ channels_from m
    (first_input t) t.inputs = ap (λ k. channels_from m k s.inputs) ei' ∙ same_channels m
    (first_input t) s.inputs t.inputs ei in
    let outputs : channels_from m (first_output s) s.outputs ≡ channels_from m
    (first_output t) t.outputs = ap (λ k. channels_from m k s.outputs) eo' ∙ same_channels m
    (first_output t) s.outputs t.outputs eo in
    let done : net_at m (done_port s) ≡ net_at m (done_port t) = ap (net_at m) ed in
    let steady : second_nets_from m 3 s.kernels
    ++ nets_from m (first_scalar s) s.scalars ≡ second_nets_from m 3 t.kernels
    ++ nets_from m (first_scalar t) t.scalars = ap (λ (l : List ℕ). l
    ++ nets_from m (first_scalar s) s.scalars) ticks ∙ ap
    (λ (l : List ℕ). second_nets_from m 3 t.kernels ++ l) scalars in
    ap (λ (l : List ℕ). record {
      clock = net_at m 0;
      reset = net_at m 1;
      holds = l;
      steady = second_nets_from m 3 s.kernels ++ nets_from m (first_scalar s) s.scalars;
      inputs = channels_from m (first_input s) s.inputs;
      outputs = channels_from m (first_output s) s.outputs;
      done = net_at m (done_port s);
    }) holds
    ∙ ap (λ (l : List ℕ). record {
      clock = net_at m 0;
      reset = net_at m 1;
      holds = second_nets_from m 2 t.kernels;
      steady = l;
      inputs = channels_from m (first_input s) s.inputs;
      outputs = channels_from m (first_output s) s.outputs;
      done = net_at m (done_port s);
    }) steady
    ∙ ap (λ (l : List Channel). record {
      clock = net_at m 0;
      reset = net_at m 1;
      holds = second_nets_from m 2 t.kernels;
      steady = second_nets_from m 3 t.kernels ++ nets_from m (first_scalar t) t.scalars;
      inputs = l;
      outputs = channels_from m (first_output s) s.outputs;
      done = net_at m (done_port s);
    }) inputs
    ∙ ap (λ (l : List Channel). record {
      clock = net_at m 0;
      reset = net_at m 1;
      holds = second_nets_from m 2 t.kernels;
      steady = second_nets_from m 3 t.kernels ++ nets_from m (first_scalar t) t.scalars;
      inputs = channels_from m (first_input t) t.inputs;
      outputs = l;
      done = net_at m (done_port s);
    }) outputs
    ∙ ap (λ n. record {
      clock = net_at m 0;
      reset = net_at m 1;
      holds = second_nets_from m 2 t.kernels;
      steady = second_nets_from m 3 t.kernels ++ nets_from m (first_scalar t) t.scalars;
      inputs = channels_from m (first_input t) t.inputs;
      outputs = channels_from m (first_output t) t.outputs;
      done = n;
    }) done
