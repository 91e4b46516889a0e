-- The plan of a run file that fits the ports has values and files for them, in range.
use Rattle.std.proofs.Common.{◌≡◌, ℕ, zero, suc, ◌^◌, ◌<◌, ◌≤◌, Bool, true, false, not, ◌&&◌, cond}
use Rattle.std.proofs.Common.{nat_le, nat_lt, List, [], ◌∷◌, map, bytes_eq, codes, Option, Some}
use Rattle.std.proofs.Common.{None, option_map, option_and_then, refl, sym, ap, ◌∙◌, subst, arith}
use Rattle.std.specs.Prelude.{slice_get}
use Rattle.std.specs.List.{list_all}
use Rattle.std.proofs.lemmas.Bool.{false≢true, leb-true, ltb-true}
use Rattle.std.proofs.lemmas.List.{length-map}
use Rattle.std.proofs.lemmas.Option.{slice_get-map}
use Rattle.std.proofs.lemmas.Simd.{map-map}
use Rattle.serde_json.specs.Data.{Data}
use Rattle.serde_json.specs.Find.{get, as_number, as_u64, as_object}
use Rattle.mx_base.specs.Files.{Name}
use Rattle.rtl_ir.specs.declared.interface.Interface.{Interface}
use Rattle.rtl_ir.specs.declared.interface.KernelPorts.{KernelPorts}
use Rattle.rtl_ir.specs.Interfaces.{shape_of, scalar_shape, stream_shape}
use Rattle.word_files.specs.declared.run_file.RunFile.{RunFile}
use Rattle.word_files.specs.RunFiles.{IsRunFile, most_count, up_to, pairs, all_read, object_of, all_below, in_range, scalar_entry, scalar_entries}
use Rattle.simulation.specs.declared.plan.Plan.{Plan}
use Rattle.simulation.specs.Plans.{look_up, AreBelow, IsPlanOf, FitsShape}
use Rattle.simulation.proofs.Places.{beside, same_lengths}

-- ---- what is read

-- the value from which the next was read
record Then {A B : Type 0} (f : A → Option B) (o : Option A) (b : B) : Type 0 where
  value : A
  was : o ≡ Some value
  gives : f value ≡ Some b

first_of : {A B : Type 0} (f : A → Option B) (o : Option A) (b : B) → option_and_then f o ≡ Some b → Then f o b
first_of f None b e = absurd (cc)
first_of f (Some a) b e = record { value = a; was = refl; gives = e }

within : (limit n a : ℕ) (b : Bool) → nat_le n limit ≡ b → cond b (Some n) None ≡ Some a → a ≤ limit
within limit n a true le e = let same : n ≡ a = cc in subst (λ x. x ≤ limit) same (leb-true n limit le)
within limit n a false le e = absurd (cc)

-- a count that is read is within the limit
count_within : (limit : ℕ) (x : Data) (a : ℕ) → up_to limit x ≡ Some a → a ≤ limit
count_within limit x a e =
    let r = first_of (λ n. cond (nat_le n limit) (Some n) None) (option_and_then as_u64 (as_number x)) a e in
    within limit r.value a (nat_le r.value limit) refl r.gives

-- the first member and those behind it
record FirstRead {A : Type 0} (key : Name) (first : Option A) (more : Option (List (Name × A))) (xs : List (Name × A)) : Type 0 where
  value : A
  rest : List (Name × A)
  reads : first ≡ Some value
  goes_on : more ≡ Some rest
  is : (key, value) ∷ rest ≡ xs

first_read : {A : Type 0} (key : Name) (first : Option A) (more : Option (List (Name
    × A))) (xs : List (Name × A)) → option_and_then (λ a. option_map (λ rest. (key, a)
    ∷ rest) more) first ≡ Some xs → FirstRead key first more xs
first_read key None more xs e = absurd (cc)
first_read key (Some a) None xs e = absurd (cc)
first_read key (Some a) (Some rest) xs e = record { value = a; rest = rest; reads = refl; goes_on = refl; is = cc }

module _ {A : Type 0} (P : A → Type 0) (reads : Data → Option A) (each : (x : Data) (a : A) → reads x ≡ Some a → P a) where
  here_or_behind : (b : Bool) (x : A) (o : Option A) (v : A) → P x → (o ≡ Some v → P v) → cond b (Some x) o ≡ Some v → P v
  here_or_behind true x o v here more e = let same : x ≡ v = cc in subst P same here
  here_or_behind false x o v here more e = more e

  -- what holds of each value that is read holds of one that is looked up
  looked_up : (ms : List (Name × Data)) (xs : List (Name × A)) (name : Name) (v : A) → all_read reads ms ≡ Some xs → look_up xs name ≡ Some v → P v
  looked_up [] xs name v e at =
      let empty : [] ≡ xs = cc in
      let none : None ≡ Some v = ap (λ l. look_up l name) empty ∙ at in
      absurd (cc)
  looked_up (m ∷ ms) xs name v e at =
      let r = first_read m.0 (reads m.1) (all_read reads ms) xs e in
      here_or_behind (bytes_eq m.0 name) r.value (look_up r.rest name) v (each m.1 r.value r.reads) (looked_up ms r.rest name v r.goes_on) (ap (λ l. look_up l name) r.is ∙ at)

  of_object : (x : Option Data) (xs : List (Name × A)) (name : Name) (v : A) → option_and_then (object_of reads) x ≡ Some xs → look_up xs name ≡ Some v → P v
  of_object x xs name v e at =
      let object = first_of (object_of reads) x xs e in
      let members = first_of (λ ms. all_read reads (pairs ms)) (as_object object.value) xs object.gives in
      looked_up (pairs members.value) xs name v members.gives at

tick_within : (d : Data) (run : RunFile) (name : Name) (value : ℕ) → IsRunFile d run → look_up run.ticks name ≡ Some value → value ≤ 2 ^ 40
tick_within d run name value is at = of_object (λ n. n ≤ 2 ^ 40) (up_to most_count) (count_within most_count) (get (codes "ticks") d) run.ticks name value is.ticks at

-- ---- words within their widths

both : (a b : Bool) → (a && b) ≡ true → (a ≡ true) × (b ≡ true)
both true b e = (refl, e)
both false b e = absurd (false≢true e)

below : (b c : Bool) (x value limit : ℕ) (o : Option ℕ) → nat_lt x limit ≡ c → not (b && not c) ≡ true → (o ≡ Some value → value < limit) → cond b (Some x) o ≡ Some value → value < limit
below true true x value limit o lt e more at = let same : x ≡ value = cc in subst (λ n. n < limit) same (ltb-true x limit lt)
below true false x value limit o lt e more at = absurd (false≢true e)
below false c x value limit o lt e more at = more at

word_below : (scalars : List (Name × ℕ)) (name : Name) (width value : ℕ) → all_below scalars name width ≡ true → look_up scalars name ≡ Some value → value < 2 ^ width
word_below [] name width value all at = absurd (cc)
word_below (x ∷ xs) name width value all at =
    let r = both (not (bytes_eq x.0 name && not (nat_lt x.1 (2 ^ width)))) (all_below xs name width) all in
    below (bytes_eq x.0 name) (nat_lt x.1 (2 ^ width)) x.1 value (2 ^ width) (look_up xs name) refl r.0 (word_below xs name width value r.1) at

all_at : {A : Type 0} (test : A → Bool) (xs : List A) (k : ℕ) (x : A) → list_all test xs ≡ true → slice_get xs k ≡ Some x → test x ≡ true
all_at test [] k x all at = absurd (cc)
all_at test (y ∷ xs) zero x all at = let same : y ≡ x = cc in ap test (sym same) ∙ (both (test y) (list_all test xs) all).0
all_at test (y ∷ xs) (suc k) x all at = all_at test xs k x (both (test y) (list_all test xs) all).1 at

-- ---- the plan

module _ (run : RunFile) (ports : Interface) (plan : Plan) (d : Data) (is : IsPlanOf run ports plan) (read : IsRunFile d run) where
  tick_below : (k value : ℕ) → slice_get plan.ticks k ≡ Some value → value < 2 ^ 48
  tick_below k value at =
      let kernel = beside (λ t. Some t) (λ (x : KernelPorts). look_up run.ticks x.name) plan.ticks ports.kernels k value is.ticks at in
      let most : value ≤ 2 ^ 40 = tick_within d run kernel.item.name value read kernel.is in
      omega (arith, most)

  widths_are : map (λ (a : Name × ℕ). a.1) (scalar_entries ports) ≡ map (λ (a : Name × Name × ℕ). a.2) (shape_of ports).scalars
  widths_are =
      map-map (λ (a : Name × ℕ). a.1) scalar_entry ports.scalars
      ∙ sym (map-map (λ (a : Name × Name × ℕ). a.2) scalar_shape ports.scalars)

  scalars_below : in_range run.scalars (scalar_entries ports) ≡ true → AreBelow plan.scalars (map (λ (a : Name × Name × ℕ). a.2) (shape_of ports).scalars)
  scalars_below all k value width at at_width =
      let port = beside (λ x. Some x) (λ (a : Name × ℕ). look_up run.scalars a.0) plan.scalars (scalar_entries ports) k value is.scalars at in
      let its : Some port.item.1 ≡ Some width =
      sym (slice_get-map (λ (a : Name × ℕ). a.1) (scalar_entries ports) k ∙ ap (option_map (λ (a : Name × ℕ). a.1)) port.at)
      ∙ ap (λ ws. slice_get ws k) widths_are
      ∙ at_width
      in
      let same : port.item.1 ≡ width = cc in
      subst (λ w. value < 2 ^ w) same
      (word_below run.scalars port.item.0 port.item.1 value (all_at (λ (p : Name × ℕ). all_below run.scalars p.0 p.1) (scalar_entries ports) k port.item all port.at) port.is)

  pub fits : in_range run.scalars (scalar_entries ports) ≡ true → FitsShape plan (shape_of ports)
  fits all = record {
    kernels =
        same_lengths (λ t. Some t) (λ (x : KernelPorts). look_up run.ticks x.name) plan.ticks ports.kernels is.ticks
        ∙ sym (length-map ports.kernels (λ (k : KernelPorts). k.name));
    ticks = tick_below;
    scalars =
        same_lengths (λ x. Some x) (λ (a : Name × ℕ). look_up run.scalars a.0) plan.scalars (scalar_entries ports) is.scalars
        ∙ length-map ports.scalars scalar_entry
        ∙ sym (length-map ports.scalars scalar_shape);
    values = scalars_below all;
    inputs = is.input_widths ∙ sym (map-map (λ (x : Name × ℕ). x.1) stream_shape ports.inputs);
    outputs = is.output_widths ∙ sym (map-map (λ (y : Name × ℕ). y.1) stream_shape ports.outputs);
  }
