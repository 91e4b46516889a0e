-- What is read of the ports of a top module is its interface.
use Rattle.std.proofs.Common.{◌≡◌, ◌∙◌, ℕ, zero, suc, ◌+◌, ◌*◌, Bool, true, List, [], ◌∷◌, ◌++◌, length, map, drop, Option, Some, None, option_map, option_and_then, refl, sym, ap, subst, arith}
use Rattle.std.specs.Prelude.{slice_get}
use Rattle.std.specs.List.{list_all}
use Rattle.std.proofs.lemmas.Bool.{and_parts}
use Rattle.std.proofs.lemmas.List.{append_assoc, append-nil, drop-drop}
use Rattle.std.proofs.lemmas.Option.{slice_get-map}
use Rattle.rtl_ir.specs.declared.design.Module.{Module}
use Rattle.rtl_ir.specs.declared.design.Port.{Port}
use Rattle.rtl_ir.specs.declared.interface.Interface.{Interface}
use Rattle.rtl_ir.specs.declared.interface.KernelPorts.{KernelPorts}
use Rattle.rtl_ir.specs.declared.interface.ScalarPort.{ScalarPort}
use Rattle.rtl_ir.specs.declared.interface.StreamPorts.{StreamPorts}
use Rattle.rtl_ir.specs.Interfaces.{IsInterface, shape_of, scalar_shape, stream_shape, stream_channel, nets_of}
use Rattle.rtl_ir.specs.Ports.{Shape, PortView, kernel_ports, scalar_ports, host_input_ports}
use Rattle.rtl_ir.specs.Ports.{host_output_ports, port_view, ports_of, port_net, net_at, nets_from}
use Rattle.rtl_ir.specs.Ports.{second_nets_from, channels_from, first_scalar, first_input}
use Rattle.rtl_ir.specs.Ports.{first_output, done_port as done_place, outer_of, HasShape}
use Rattle.rtl_ir.specs.Ports.{is_plain_name}
use Rattle.rtl_ir.specs.Run.{Channel, Outer}
use Rattle.rtl_ir.specs.Value.{width_of}
use Rattle.top_ports.specs.Shapes.{Name, IsTop}
use Rattle.top_ports.specs.Roles.{RoleView, hold, ticks, scalar, stream, done, is_width, port_role}
use Rattle.top_ports.proofs.Roles.{is_plain_role}
use Rattle.top_ports.specs.Reading.{role_at, kernel_with, scalar_with, stream_with, kernel_at, scalar_at, stream_at, AreRead}
use Rattle.top_ports.specs.declared.role.Side.{Side}
use Rattle.top_ports.specs.declared.role.Side.TheVariants.{Input, Output}
use Rattle.top_ports.specs.declared.role.Part.TheVariants.{Data, Valid, Ready}
use Rattle.top_ports.proofs.ByKernel.{Scalar, is_plain_scalar, all_plain}
use Rattle.top_ports.proofs.RoleLemmas.{role_found}
use Rattle.top_ports.proofs.Runs.{port_of, role_of_port, done_port}
use Rattle.top_ports.proofs.ShapeRuns.{Stream, is_plain_stream, from_outputs, from_inputs, from_scalars, grouped}

-- ---- one more that is read

-- what is read from a place on comes behind what is read before it
abbrev pub Leads : {B : Type 0} → (ℕ → Option B) → ℕ → ℕ → List B → ℕ → Type 0
Leads {B = B} at count first before k = (bs : List B) (last : ℕ) → AreRead at count k bs last → AreRead at count first (before ++ bs) last

pub leads_first : {B : Type 0} (at : ℕ → Option B) (count first : ℕ) → Leads at count first [] first
leads_first at count first bs last h = h

pub leads_more : {B : Type 0} (at : ℕ
    → Option B) (count first : ℕ) (before : List B) (k : ℕ) (b : B) → at k ≡ Some b
    → Leads at count first before k → Leads at count first (before ++ b ∷ []) (k + count)
leads_more at count first before k b is h bs last g =
    subst (λ l. AreRead at count first l last) (sym (append_assoc before (b ∷ []) bs)) (h (b ∷ bs) last (is, g))

pub leads_all : {B : Type 0} (at : ℕ → Option B) (count first : ℕ) (before : List B) (k : ℕ) → at k ≡ None → Leads at count first before k → AreRead at count first before k
leads_all at count first before k none h =
    subst (λ l. AreRead at count first l k) (append-nil before) (h [] k (none, refl))

-- ---- the ports at a place

first_at : {A : Type 0} (xs : List A) (k : ℕ) (x : A) (rest : List A) → drop k xs ≡ x ∷ rest → slice_get xs k ≡ Some x
first_at [] zero x rest e = absurd (cc)
first_at [] (suc k) x rest e = absurd (cc)
first_at (y ∷ xs) zero x rest e = let same : y ≡ x = cc in ap (λ z. Some z) same
first_at (y ∷ xs) (suc k) x rest e = first_at xs k x rest e

-- the role of the first of these ports
abbrev pub first_role : List PortView → Option RoleView
first_role [] = None
first_role (p ∷ ps) = port_role p

none_at : {A : Type 0} (xs : List A) (k : ℕ) → drop k xs ≡ [] → slice_get xs k ≡ None
none_at [] k e = refl
none_at (y ∷ xs) zero e = absurd (cc)
none_at (y ∷ xs) (suc k) e = none_at xs k e

role_there : (m : Module) (k : ℕ) (ps : List PortView) → drop k (ports_of m) ≡ ps → role_at m k ≡ first_role ps
role_there m k [] e = ap (option_and_then port_role) (none_at (ports_of m) k e)
role_there m k (p ∷ ps) e = ap (option_and_then port_role) (first_at (ports_of m) k p ps e)

behind : {A : Type 0} (xs ys : List A) (k n : ℕ) → drop k xs ≡ ys → drop (k + n) xs ≡ drop n ys
behind xs ys k n e = sym (drop-drop n k xs) ∙ ap (drop n) e

view_width : (m : Module) (o : Option Port) (p : PortView) → option_map (port_view m) o ≡ Some p → width_of m (port_net o) ≡ p.width
view_width m None p e = absurd (cc)
view_width m (Some q) p e = let same : port_view m q ≡ p = cc in ap (λ (v : PortView). v.width) same

width_there : (m : Module) (k : ℕ) (p : PortView) (ps : List PortView) → drop k (ports_of m) ≡ p ∷ ps → width_of m (net_at m k) ≡ p.width
width_there m k p ps e = view_width m (slice_get m.ports k) p (sym (slice_get-map (port_view m) m.ports k) ∙ first_at (ports_of m) k p ps e)

role_is_of : (m : Module) (k : ℕ) (r : RoleView) (width : ℕ) (ps : List PortView) → is_plain_role r ≡ true → is_width r width ≡ true → drop k (ports_of m) ≡ port_of r width ∷ ps → role_at m k ≡ Some r
role_is_of m k r width ps plain wide e = role_there m k (port_of r width ∷ ps) e ∙ role_found (port_of r width) r (role_of_port r width plain wide)

-- ---- items one after another

abbrev pub each_from : {A B : Type 0} → (ℕ → A → B) → ℕ → ℕ → List A → List B
each_from make count k [] = []
each_from make count k (x ∷ xs) = make k x ∷ each_from make count (k + count) xs

-- what is read where these items stand, before these ports
record IsReadAll {A B : Type 0} (m : Module) (make : ℕ → A → B) (count k : ℕ) (xs : List A) (rest : List PortView) (list : List B) (last : ℕ) : Type 0 where
  is : list ≡ each_from make count k xs
  place : last ≡ k + count * length xs
  left : drop last (ports_of m) ≡ rest

module _ {A B : Type 0} (m : Module) (with : ℕ → Option RoleView → Option B) (make : ℕ → A → B) (count : ℕ) (ports : List A → List PortView) (good : A → Bool) where
  -- the first of these items stands at a place
  record Stands (k : ℕ) (x : A) (xs : List A) (rest : List PortView) : Type 0 where
    is : with k (role_at m k) ≡ Some (make k x)
    left : drop (k + count) (ports_of m) ≡ ports xs ++ rest

  all_read : ports [] ≡ [] → ((k : ℕ) (x : A) (xs : List A) (rest : List PortView) → good x ≡ true → drop k (ports_of m) ≡ ports (x ∷ xs) ++ rest → Stands k x xs rest)
      → (rest : List PortView) → ((k : ℕ) → with k (first_role rest) ≡ None)
      → (xs : List A) (k : ℕ) (list : List B) (last : ℕ) → list_all good xs ≡ true
      → drop k (ports_of m) ≡ ports xs ++ rest
      → AreRead (λ n. with n (role_at m n)) count k list last
      → IsReadAll m make count k xs rest list last
  all_read nil stands rest ends [] k [] last h e r =
      let left : drop k (ports_of m) ≡ rest = e ∙ ap (λ l. l ++ rest) nil in
      record { is = refl; place = omega (arith, r.1); left = ap (λ n. drop n (ports_of m)) r.1 ∙ left }
  all_read nil stands rest ends [] k (b ∷ bs) last h e r =
      let left : drop k (ports_of m) ≡ rest = e ∙ ap (λ l. l ++ rest) nil in
      let none : with k (role_at m k) ≡ None = ap (with k) (role_there m k rest left) ∙ ends k in
      absurd (let some = r.0 in cc)
  all_read nil stands rest ends (x ∷ xs) k [] last h e r =
      let w = and_parts (good x) (list_all good xs) h in
      let some = (stands k x xs rest w.0 e).is in
      absurd (let none = r.0 in cc)
  all_read nil stands rest ends (x ∷ xs) k (b ∷ bs) last h e r =
      let w = and_parts (good x) (list_all good xs) h in
      let here = stands k x xs rest w.0 e in
      let is = here.is in
      let at = r.0 in
      let same : b ≡ make k x = cc in
      let more = all_read nil stands rest ends xs (k + count) bs last w.1 here.left r.1 in
      let place : k + count + count * length xs ≡ k + count * suc (length xs) = omega arith in
      record {
        is = ap (λ y. y ∷ bs) same ∙ ap (λ l. make k x ∷ l) more.is;
        place = more.place ∙ place;
        left = more.left;
      }

-- ---- kernels, scalars and streams

make_kernel : Module → ℕ → Name → KernelPorts
make_kernel m k x = record { name = x; hold = net_at m k; ticks = net_at m (k + 1) }

make_scalar : Module → ℕ → Scalar → ScalarPort
make_scalar m k s = record { kernel = s.0; name = s.1; width = s.2; net = net_at m k }

make_stream : Module → ℕ → Stream → StreamPorts
make_stream m k x = record { name = x.0; width = x.1; word = net_at m k; valid = net_at m (k + 1); ready = net_at m (k + 2) }

kernel_stands : (m : Module) (k : ℕ) (x : Name) (xs : List Name) (rest : List PortView)
    → is_plain_name x ≡ true → drop k (ports_of m) ≡ kernel_ports (x ∷ xs) ++ rest
    → Stands m (kernel_with m) (make_kernel m) 2 kernel_ports is_plain_name k x xs rest
unfolding make_kernel
kernel_stands m k x xs rest h e =
    record {
      is = ap (kernel_with m k) (role_is_of m k (hold x) 1 (port_of (ticks x) 48 ∷ (kernel_ports xs ++ rest)) h refl e);
      left = behind (ports_of m) (kernel_ports (x ∷ xs) ++ rest) k 2 e;
    }

scalar_stands : (m : Module) (k : ℕ) (x : Scalar) (xs : List Scalar) (rest : List PortView)
    → is_plain_scalar x ≡ true → drop k (ports_of m) ≡ scalar_ports (x ∷ xs) ++ rest
    → Stands m (scalar_with m) (make_scalar m) 1 scalar_ports is_plain_scalar k x xs rest
unfolding make_scalar
scalar_stands m k x xs rest h e =
    record {
      is =
          ap (scalar_with m k) (role_is_of m k (scalar x.0 x.1) x.2 (scalar_ports xs ++ rest) h refl e)
          ∙ ap (λ (w : ℕ). let s : ScalarPort = record
          { kernel = x.0; name = x.1; width = w; net = net_at m k } in Some s)
          (width_there m k (port_of (scalar x.0 x.1) x.2) (scalar_ports xs ++ rest) e);
      left = behind (ports_of m) (scalar_ports (x ∷ xs) ++ rest) k 1 e;
    }

stream_is : (m : Module) (side : Side) (k : ℕ) (x : Stream) (ps : List PortView)
    → is_plain_stream x ≡ true → drop k (ports_of m) ≡ port_of (stream side Data x.0) x.1 ∷ ps
    → stream_with m side k (Some (stream side Data x.0)) ≡ Some (make_stream m k x)
unfolding make_stream
stream_is m Input k x ps h e = ap (λ (w : ℕ). let s : StreamPorts = record {
  name = x.0;
  width = w;
  word = net_at m k;
  valid = net_at m (k + 1);
  ready = net_at m (k + 2);
} in Some s) (width_there m k (port_of (stream Input Data x.0) x.1) ps e)
stream_is m Output k x ps h e = ap (λ (w : ℕ). let s : StreamPorts = record {
  name = x.0;
  width = w;
  word = net_at m k;
  valid = net_at m (k + 1);
  ready = net_at m (k + 2);
} in Some s) (width_there m k (port_of (stream Output Data x.0) x.1) ps e)

input_stands : (m : Module) (k : ℕ) (x : Stream) (xs : List Stream) (rest : List PortView)
    → is_plain_stream x ≡ true → drop k (ports_of m) ≡ host_input_ports (x ∷ xs) ++ rest
    → Stands m (stream_with m Input) (make_stream m) 3 host_input_ports is_plain_stream k x xs rest
input_stands m k x xs rest h e =
    let ps = port_of (stream Input Valid x.0) 1 ∷ port_of (stream Input Ready x.0) 1 ∷ (host_input_ports xs ++ rest) in
    record {
      is = ap (stream_with m Input k) (role_is_of m k (stream Input Data x.0) x.1 ps h refl e) ∙ stream_is m Input k x ps h e;
      left = behind (ports_of m) (host_input_ports (x ∷ xs) ++ rest) k 3 e;
    }

output_stands : (m : Module) (k : ℕ) (x : Stream) (xs : List Stream) (rest : List PortView)
    → is_plain_stream x ≡ true → drop k (ports_of m) ≡ host_output_ports (x ∷ xs) ++ rest
    → Stands m (stream_with m Output)
    (make_stream m) 3 host_output_ports is_plain_stream k x xs rest
output_stands m k x xs rest h e =
    let ps = port_of (stream Output Valid x.0) 1 ∷ port_of (stream Output Ready x.0) 1 ∷ (host_output_ports xs ++ rest) in
    record {
      is = ap (stream_with m Output k) (role_is_of m k (stream Output Data x.0) x.1 ps h refl e) ∙ stream_is m Output k x ps h e;
      left = behind (ports_of m) (host_output_ports (x ∷ xs) ++ rest) k 3 e;
    }

-- ---- what comes behind them

role_first : (r : RoleView) (width : ℕ) → is_plain_role r ≡ true → is_width r width ≡ true → port_role (port_of r width) ≡ Some r
role_first r width plain wide = role_found (port_of r width) r (role_of_port r width plain wide)

no_more_outputs : (m : Module) (k : ℕ) → stream_with m Output k (first_role (done_port ∷ [])) ≡ None
no_more_outputs m k = ap (stream_with m Output k) (role_first done 1 refl refl)

no_more_inputs : (m : Module) (ys : List Stream) → list_all is_plain_stream ys ≡ true → (k : ℕ) → stream_with m Input k (first_role (from_outputs ys)) ≡ None
no_more_inputs m [] h k = ap (stream_with m Input k) (role_first done 1 refl refl)
no_more_inputs m (y ∷ ys) h k = ap (stream_with m Input k) (role_first (stream Output Data y.0) y.1 (and_parts (is_plain_stream y) (list_all is_plain_stream ys) h).0 refl)

no_more_scalars : (m : Module) (xs ys : List Stream) → list_all is_plain_stream xs ≡ true → list_all is_plain_stream ys ≡ true → (k : ℕ) → scalar_with m k (first_role (from_inputs xs ys)) ≡ None
no_more_scalars m [] [] h g k = ap (scalar_with m k) (role_first done 1 refl refl)
no_more_scalars m [] (y ∷ ys) h g k = ap (scalar_with m k) (role_first (stream Output Data y.0) y.1 (and_parts (is_plain_stream y) (list_all is_plain_stream ys) g).0 refl)
no_more_scalars m (x ∷ xs) ys h g k = ap (scalar_with m k) (role_first (stream Input Data x.0) x.1 (and_parts (is_plain_stream x) (list_all is_plain_stream xs) h).0 refl)

no_more_kernels : (m : Module) (ss : List Scalar) (xs ys : List Stream)
    → list_all is_plain_scalar ss ≡ true → list_all is_plain_stream xs ≡ true
    → list_all is_plain_stream ys ≡ true → (k : ℕ)
    → kernel_with m k (first_role (from_scalars ss xs ys)) ≡ None
no_more_kernels m [] [] [] f h g k = ap (kernel_with m k) (role_first done 1 refl refl)
no_more_kernels m [] [] (y ∷ ys) f h g k = ap (kernel_with m k) (role_first (stream Output Data y.0) y.1 (and_parts (is_plain_stream y) (list_all is_plain_stream ys) g).0 refl)
no_more_kernels m [] (x ∷ xs) ys f h g k = ap (kernel_with m k) (role_first (stream Input Data x.0) x.1 (and_parts (is_plain_stream x) (list_all is_plain_stream xs) h).0 refl)
no_more_kernels m (s ∷ ss) xs ys f h g k = ap (kernel_with m k) (role_first (scalar s.0 s.1) s.2 (and_parts (is_plain_scalar s) (list_all is_plain_scalar ss) f).0 refl)

-- ---- the shape and the nets of what is read

same_each : {A B : Type 0} (make : ℕ → A → B) (back : B → A) (count k : ℕ) (xs : List A) → ((n : ℕ) (x : A) → back (make n x) ≡ x) → map back (each_from make count k xs) ≡ xs
same_each make back count k [] h = refl
same_each make back count k (x ∷ xs) h = ap (λ y. y ∷ map back (each_from make count (k + count) xs)) (h k x) ∙ ap (λ l. x ∷ l) (same_each make back count (k + count) xs h)

holds_of : (m : Module) (k : ℕ) (ks : List Name) → map (λ (x : KernelPorts). x.hold) (each_from (make_kernel m) 2 k ks) ≡ second_nets_from m k ks
unfolding make_kernel
holds_of m k [] = refl
holds_of m k (x ∷ xs) = ap (λ l. net_at m k ∷ l) (holds_of m (k + 2) xs)

ticks_of : (m : Module) (k : ℕ) (ks : List Name) → map (λ (x : KernelPorts). x.ticks) (each_from (make_kernel m) 2 k ks) ≡ second_nets_from m (k + 1) ks
unfolding make_kernel
ticks_of m k [] = refl
ticks_of m k (x ∷ xs) =
    let place : k + 2 + 1 ≡ k + 1 + 2 = omega arith in
    ap (λ l. net_at m (k + 1) ∷ l) (ticks_of m (k + 2) xs ∙ ap (λ n. second_nets_from m n xs) place)

scalars_of : (m : Module) (k : ℕ) (ss : List Scalar) → map (λ (x : ScalarPort). x.net) (each_from (make_scalar m) 1 k ss) ≡ nets_from m k ss
unfolding make_scalar
scalars_of m k [] = refl
scalars_of m k (x ∷ xs) = ap (λ l. net_at m k ∷ l) (scalars_of m (k + 1) xs)

channels_of : (m : Module) (k : ℕ) (xs : List Stream) → map stream_channel (each_from (make_stream m) 3 k xs) ≡ channels_from m k xs
unfolding make_stream
channels_of m k [] = refl
channels_of m k (x ∷ xs) = ap (λ l. stream_channel (make_stream m k x) ∷ l) (channels_of m (k + 3) xs)

-- ---- the whole

shape_is : (m : Module) (s : Shape) (i : Interface) (k1 k2 k3 : ℕ)
    → i.kernels ≡ each_from (make_kernel m) 2 2 s.kernels
    → i.scalars ≡ each_from (make_scalar m) 1 k1 s.scalars
    → i.inputs ≡ each_from (make_stream m) 3 k2 s.inputs
    → i.outputs ≡ each_from (make_stream m) 3 k3 s.outputs
    → shape_of i ≡ s
unfolding make_kernel make_scalar make_stream
shape_is m s i k1 k2 k3 a b c d =
    let e1 : map (λ (k : KernelPorts). k.name) i.kernels ≡ s.kernels = ap (map (λ (k : KernelPorts). k.name)) a ∙ same_each (make_kernel m) (λ (k : KernelPorts). k.name) 2 2 s.kernels (λ n x. refl) in
    let e2 : map scalar_shape i.scalars ≡ s.scalars = ap (map scalar_shape) b ∙ same_each (make_scalar m) scalar_shape 1 k1 s.scalars (λ n x. refl) in
    let e3 : map stream_shape i.inputs ≡ s.inputs = ap (map stream_shape) c ∙ same_each (make_stream m) stream_shape 3 k2 s.inputs (λ n x. refl) in
    let e4 : map stream_shape i.outputs ≡ s.outputs = ap (map stream_shape) d ∙ same_each (make_stream m) stream_shape 3 k3 s.outputs (λ n x. refl) in
    let f = λ (l : List Name). let t : Shape = record { kernels = l; scalars = map scalar_shape i.scalars; inputs = map stream_shape i.inputs; outputs = map stream_shape i.outputs } in t in
    let g = λ (l : List Scalar). let t : Shape = record { kernels = s.kernels; scalars = l; inputs = map stream_shape i.inputs; outputs = map stream_shape i.outputs } in t in
    let h = λ (l : List Stream). let t : Shape = record { kernels = s.kernels; scalars = s.scalars; inputs = l; outputs = map stream_shape i.outputs } in t in
    let j = λ (l : List Stream). let t : Shape = record { kernels = s.kernels; scalars = s.scalars; inputs = s.inputs; outputs = l } in t in
    ap f e1 ∙ ap g e2 ∙ ap h e3 ∙ ap j e4

nets_are : (m : Module) (s : Shape) (i : Interface) (k1 k2 k3 k4 : ℕ)
    → i.clock ≡ net_at m 0 → i.reset ≡ net_at m 1
    → i.kernels ≡ each_from (make_kernel m) 2 2 s.kernels
    → i.scalars ≡ each_from (make_scalar m) 1 k1 s.scalars
    → i.inputs ≡ each_from (make_stream m) 3 k2 s.inputs
    → i.outputs ≡ each_from (make_stream m) 3 k3 s.outputs
    → i.done ≡ net_at m k4
    → k1 ≡ first_scalar s → k2 ≡ first_input s → k3 ≡ first_output s → k4 ≡ done_place s
    → nets_of i ≡ outer_of s m
nets_are m s i k1 k2 k3 k4 clock reset a b c d last at1 at2 at3 at4 =
    let o = λ (ck rs : ℕ) (hs st : List ℕ) (xs ys : List Channel) (dn : ℕ). let t : Outer = record { clock = ck; reset = rs; holds = hs; steady = st; inputs = xs; outputs = ys; done = dn } in t in
    let hs0 = map (λ (k : KernelPorts). k.hold) i.kernels in
    let ts0 = map (λ (k : KernelPorts). k.ticks) i.kernels in
    let ss0 = map (λ (x : ScalarPort). x.net) i.scalars in
    let xs0 = map stream_channel i.inputs in
    let ys0 = map stream_channel i.outputs in
    let hs1 = second_nets_from m 2 s.kernels in
    let ts1 = second_nets_from m 3 s.kernels in
    let ss1 = nets_from m (first_scalar s) s.scalars in
    let xs1 = channels_from m (first_input s) s.inputs in
    let ys1 = channels_from m (first_output s) s.outputs in
    let e1 : hs0 ≡ hs1 = ap (map (λ (k : KernelPorts). k.hold)) a ∙ holds_of m 2 s.kernels in
    let e2 : ts0 ≡ ts1 = ap (map (λ (k : KernelPorts). k.ticks)) a ∙ ticks_of m 2 s.kernels in
    let e3 : ss0 ≡ ss1 = ap (map (λ (x : ScalarPort). x.net)) b ∙ scalars_of m k1 s.scalars ∙ ap (λ n. nets_from m n s.scalars) at1 in
    let e4 : xs0 ≡ xs1 = ap (map stream_channel) c ∙ channels_of m k2 s.inputs ∙ ap (λ n. channels_from m n s.inputs) at2 in
    let e5 : ys0 ≡ ys1 = ap (map stream_channel) d ∙ channels_of m k3 s.outputs ∙ ap (λ n. channels_from m n s.outputs) at3 in
    let e6 : i.done ≡ net_at m (done_place s) = last ∙ ap (net_at m) at4 in
    ap (λ n. o n i.reset hs0 (ts0 ++ ss0) xs0 ys0 i.done) clock
    ∙ ap (λ n. o (net_at m 0) n hs0 (ts0 ++ ss0) xs0 ys0 i.done) reset
    ∙ ap (λ l. o (net_at m 0) (net_at m 1) l (ts0 ++ ss0) xs0 ys0 i.done) e1
    ∙ ap (λ l. o (net_at m 0) (net_at m 1) hs1 (l ++ ss0) xs0 ys0 i.done) e2
    ∙ ap (λ l. o (net_at m 0) (net_at m 1) hs1 (ts1 ++ l) xs0 ys0 i.done) e3
    ∙ ap (λ l. o (net_at m 0) (net_at m 1) hs1 (ts1 ++ ss1) l ys0 i.done) e4
    ∙ ap (λ l. o (net_at m 0) (net_at m 1) hs1 (ts1 ++ ss1) xs1 l i.done) e5
    ∙ ap (λ n. o (net_at m 0) (net_at m 1) hs1 (ts1 ++ ss1) xs1 ys1 n) e6

pub is_interface : (m : Module) (s : Shape) (i : Interface) (k1 k2 k3 k4 : ℕ) → IsTop m s → i.clock ≡ net_at m 0 → i.reset ≡ net_at m 1
    → AreRead (kernel_at m) 2 2 i.kernels k1 → AreRead (scalar_at m) 1 k1 i.scalars k2 → AreRead (stream_at m Input) 3 k2 i.inputs k3 → AreRead (stream_at m Output) 3 k3 i.outputs k4
    → i.done ≡ net_at m k4 → (shape_of i ≡ s) × IsInterface m i
is_interface m s i k1 k2 k3 k4 top clock reset r1 r2 r3 r4 last =
    let pk : list_all is_plain_name s.kernels ≡ true = top.is.shape.kernels in
    let ps = all_plain s.kernels s.scalars top.is.shape.kernels top.is.shape.scalars in
    let pi : list_all is_plain_stream s.inputs ≡ true = top.is.shape.inputs in
    let po : list_all is_plain_stream s.outputs ≡ true = top.is.shape.outputs in
    let start : drop 2 (ports_of m) ≡ kernel_ports s.kernels ++ from_scalars s.scalars s.inputs s.outputs = ap (drop 2) (top.has ∙ grouped s) in
    let a = all_read m (kernel_with m) (make_kernel m) 2 kernel_ports is_plain_name refl
    (kernel_stands m) (from_scalars s.scalars s.inputs s.outputs)
    (no_more_kernels m s.scalars s.inputs s.outputs ps pi po) s.kernels 2 i.kernels k1 pk
    start r1 in
    let b = all_read m (scalar_with m) (make_scalar m) 1 scalar_ports is_plain_scalar refl
    (scalar_stands m) (from_inputs s.inputs s.outputs)
    (no_more_scalars m s.inputs s.outputs pi po) s.scalars k1 i.scalars k2 ps a.left r2 in
    let c = all_read m (stream_with m Input)
    (make_stream m) 3 host_input_ports is_plain_stream refl (input_stands m)
    (from_outputs s.outputs)
    (no_more_inputs m s.outputs po) s.inputs k2 i.inputs k3 pi b.left r3 in
    let d = all_read m (stream_with m Output) (make_stream m) 3 host_output_ports is_plain_stream refl (output_stands m) (done_port ∷ []) (no_more_outputs m) s.outputs k3 i.outputs k4 po c.left r4 in
    let at1 : k1 ≡ first_scalar s = a.place in
    let at2 : k2 ≡ first_input s = omega (arith, at1, b.place) in
    let at3 : k3 ≡ first_output s = omega (arith, at2, c.place) in
    let at4 : k4 ≡ done_place s = omega (arith, at3, d.place) in
    let shape = shape_is m s i k1 k2 k3 a.is b.is c.is d.is in
    let nets = nets_are m s i k1 k2 k3 k4 clock reset a.is b.is c.is d.is last at1 at2 at3 at4 in
    (shape, record { shape = subst (HasShape m) (sym shape) top.has; nets = nets ∙ ap (λ (t : Shape). outer_of t m) (sym shape) })
