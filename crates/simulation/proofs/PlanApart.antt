-- In the plan of a run file no file is an output's and another stream's.
use Rattle.std.proofs.Common.{◌≡◌, ◌≢◌, ℕ, zero, suc, Bool, true, false, not, ◌||◌, cond, List, [], ◌∷◌, map, bytes_eq, Option, Some, None, option_map, unwrap_or, refl, sym, ap, subst, ◌∙◌}
use Rattle.std.specs.Prelude.{slice_get}
use Rattle.std.specs.List.{list_any}
use Rattle.std.specs.Option.{option_or}
use Rattle.std.proofs.lemmas.Bool.{true≢false}
use Rattle.std.proofs.lemmas.Option.{slice_get-map}
use Rattle.std.proofs.lemmas.Simd.{map-map}
use Rattle.std.proofs.lemmas.Slice.Eq.{bytes_eq-Decides}
use Rattle.serde_json.specs.Data.{Data}
use Rattle.mx_base.specs.Files.{Name}
use Rattle.rtl_ir.specs.declared.interface.Interface.{Interface}
use Rattle.rtl_ir.specs.declared.interface.StreamPorts.{StreamPorts}
use Rattle.rtl_ir.specs.Interfaces.{shape_of, stream_shape}
use Rattle.rtl_ir.specs.Rules.{AllDiffer}
use Rattle.word_files.specs.declared.run_file.RunFile.{RunFile}
use Rattle.word_files.specs.RunFiles.{IsRunFile, inputs_of, outputs_of, is_shared, is_apart, files, tests, first_failed, further_key}
use Rattle.simulation.specs.declared.plan.Plan.{Plan}
use Rattle.simulation.specs.Plans.{look_up, IsPlanOf, AreApart}
use Rattle.simulation.proofs.LookUps.{any_at}
use Rattle.simulation.proofs.Places.{beside}

-- ---- no test of a run file fails

none_of_or : (o p : Option Name) → option_or o p ≡ None → o ≡ None
none_of_or None p e = refl
none_of_or (Some x) p e = absurd (cc)

passed : (b : Bool) (name : Name) (o : Option Name) → cond b o (Some name) ≡ None → (b ≡ true) × (o ≡ None)
passed true name o e = (refl, e)
passed false name o e = absurd (cc)

all_pass : (ts : List (Name × Bool)) (k : ℕ) (t : Name × Bool) → first_failed ts ≡ None → slice_get ts k ≡ Some t → t.1 ≡ true
all_pass [] k t e at = absurd (cc)
all_pass (x ∷ ts) zero t e at = let same : x ≡ t = cc in ap (λ (y : Name × Bool). y.1) (sym same) ∙ (passed x.1 x.0 (first_failed ts) e).0
all_pass (x ∷ ts) (suc k) t e at = all_pass ts k t (passed x.1 x.0 (first_failed ts) e).1 at

was_false : (b : Bool) → not b ≡ true → b ≡ false
was_false true e = sym e
was_false false e = refl

not_shared : (d : Data) (run : RunFile) → IsRunFile d run → is_shared (files run.inputs) (files run.outputs) ≡ false
not_shared d run is =
    let apart : is_apart d ≡ true = all_pass (tests d) 5 _ (none_of_or (first_failed (tests d)) (further_key d) is.sound) refl in
    ap (λ i. is_shared (files (unwrap_or i [])) (files run.outputs)) (sym is.inputs)
    ∙ ap (λ o. is_shared (files (unwrap_or (inputs_of d) [])) (files (unwrap_or o []))) (sym is.outputs)
    ∙ was_false (is_shared (files (unwrap_or (inputs_of d) [])) (files (unwrap_or (outputs_of d) []))) apart

-- ---- files that aren't shared

neither : (a b : Bool) → (a || b) ≡ false → (a ≡ false) × (b ≡ false)
neither true b e = absurd (true≢false e)
neither false b e = (refl, e)

-- a file of these is none of those that are taken
pub not_taken : (taken fs : List Name) (i j : ℕ) (f : Name) → is_shared taken fs ≡ false → slice_get fs i ≡ Some f → slice_get taken j ≡ Some f → ⊥
not_taken taken [] i j f e at at_taken = absurd (cc)
not_taken taken (g ∷ fs) zero j f e at at_taken =
    let same : g ≡ f = cc in
    let free = (neither (list_any (bytes_eq g) taken) (is_shared (g ∷ taken) fs) e).0 in
    true≢false (sym (any_at (bytes_eq g) taken j f at_taken ((bytes_eq-Decides g f).1 same)) ∙ free)
not_taken taken (g ∷ fs) (suc i) j f e at at_taken =
    not_taken (g ∷ taken) fs i (suc j) f (neither (list_any (bytes_eq g) taken) (is_shared (g ∷ taken) fs) e).1 at at_taken

-- and stands at one place alone
pub one_place : (taken fs : List Name) (i j : ℕ) (f : Name) → is_shared taken fs ≡ false → slice_get fs i ≡ Some f → slice_get fs j ≡ Some f → i ≡ j
one_place taken [] i j f e at_i at_j = absurd (cc)
one_place taken (g ∷ fs) zero zero f e at_i at_j = refl
one_place taken (g ∷ fs) zero (suc j) f e at_i at_j =
    absurd (not_taken (g ∷ taken) fs j 0 f (neither (list_any (bytes_eq g) taken) (is_shared (g ∷ taken) fs) e).1 at_j at_i)
one_place taken (g ∷ fs) (suc i) zero f e at_i at_j =
    absurd (not_taken (g ∷ taken) fs i 0 f (neither (list_any (bytes_eq g) taken) (is_shared (g ∷ taken) fs) e).1 at_i at_j)
one_place taken (g ∷ fs) (suc i) (suc j) f e at_i at_j =
    ap suc (one_place (g ∷ taken) fs i j f (neither (list_any (bytes_eq g) taken) (is_shared (g ∷ taken) fs) e).1 at_i at_j)

-- ---- the places of what is looked up

record FoundAt {T : Type 0} (xs : List (Name × T)) (name : Name) (value : T) : Type 0 where
  place : ℕ
  at : slice_get xs place ≡ Some (name, value)

found_here : {T : Type 0} (x : Name × T) (xs : List (Name
    × T)) (name : Name) (value : T) (b : Bool) → bytes_eq x.0 name ≡ b
    → (look_up xs name ≡ Some value → FoundAt xs name value)
    → cond b (Some x.1) (look_up xs name) ≡ Some value → FoundAt (x ∷ xs) name value
found_here x xs name value true e more at =
    let named : x.0 ≡ name = (bytes_eq-Decides x.0 name).0 e in
    let same : x.1 ≡ value = cc in
    record { place = 0; at = ap (λ n. Some (n, x.1)) named ∙ ap (λ v. Some (name, v)) same }
found_here x xs name value false e more at = let r = more at in record { place = suc r.place; at = r.at }

found_at : {T : Type 0} (xs : List (Name × T)) (name : Name) (value : T) → look_up xs name ≡ Some value → FoundAt xs name value
found_at [] name value at = absurd (cc)
found_at (x ∷ xs) name value at = found_here x xs name value (bytes_eq x.0 name) refl (found_at xs name value) at

file_at : (xs : List (Name × Name)) (k : ℕ) (x : Name × Name) → slice_get xs k ≡ Some x → slice_get (files xs) k ≡ Some x.1
file_at xs k x at = slice_get-map (λ (s : Name × Name). s.1) xs k ∙ ap (option_map (λ (s : Name × Name). s.1)) at

one_pair : (xs : List (Name × Name)) (i j : ℕ) (x y : Name × Name) → i ≡ j → slice_get xs i ≡ Some x → slice_get xs j ≡ Some y → x ≡ y
one_pair xs i j x y place at_i at_j = let both : Some x ≡ Some y = sym at_i ∙ ap (slice_get xs) place ∙ at_j in cc

-- ---- the plan

module _ (run : RunFile) (ports : Interface) (plan : Plan) (d : Data) (is : IsPlanOf run ports plan) (read : IsRunFile d run) where
  apart : is_shared (files run.inputs) (files run.outputs) ≡ false
  apart = not_shared d run read

  outputs_apart : AllDiffer (map (λ (y : StreamPorts). y.name) ports.outputs) → (j k : ℕ) (a b : Name × ℕ) → slice_get plan.outputs j ≡ Some a → slice_get plan.outputs k ≡ Some b → a.0 ≡ b.0 → j ≡ k
  outputs_apart differ j k a b at_a at_b same =
      let y = beside (λ (o : Name × ℕ). Some o.0) (λ (p : StreamPorts). look_up run.outputs p.name) plan.outputs ports.outputs j a is.output_files at_a in
      let z = beside (λ (o : Name × ℕ). Some o.0) (λ (p : StreamPorts). look_up run.outputs p.name) plan.outputs ports.outputs k b is.output_files at_b in
      let f = found_at run.outputs y.item.name a.0 y.is in
      let g = found_at run.outputs z.item.name b.0 z.is in
      let place : f.place ≡ g.place =
      one_place (files run.inputs) (files run.outputs) f.place g.place a.0 apart
      (file_at run.outputs f.place (y.item.name, a.0) f.at)
      (file_at run.outputs g.place (z.item.name, b.0) g.at ∙ ap Some (sym same))
      in
      let names : y.item.name ≡ z.item.name = ap (λ (x : Name × Name). x.0) (one_pair run.outputs f.place g.place (y.item.name, a.0) (z.item.name, b.0) place f.at g.at) in
      differ j k y.item.name
      (slice_get-map (λ (p : StreamPorts). p.name) ports.outputs j ∙ ap (option_map (λ (p : StreamPorts). p.name)) y.at)
      (slice_get-map (λ (p : StreamPorts). p.name) ports.outputs k ∙ ap (option_map (λ (p : StreamPorts). p.name)) z.at ∙ ap Some (sym names))

  inputs_apart : (j k : ℕ) (a b : Name × ℕ) → slice_get plan.inputs j ≡ Some a → slice_get plan.outputs k ≡ Some b → a.0 ≢ b.0
  inputs_apart j k a b at_a at_b same =
      let x = beside (λ (i : Name × ℕ). Some i.0) (λ (p : StreamPorts). look_up run.inputs p.name) plan.inputs ports.inputs j a is.input_files at_a in
      let y = beside (λ (o : Name × ℕ). Some o.0) (λ (p : StreamPorts). look_up run.outputs p.name) plan.outputs ports.outputs k b is.output_files at_b in
      let f = found_at run.inputs x.item.name a.0 x.is in
      let g = found_at run.outputs y.item.name b.0 y.is in
      not_taken (files run.inputs) (files run.outputs) g.place f.place a.0 apart
      (file_at run.outputs g.place (y.item.name, b.0) g.at ∙ ap Some (sym same))
      (file_at run.inputs f.place (x.item.name, a.0) f.at)

  pub are_apart : AllDiffer (map (λ (y : Name × ℕ). y.0) (shape_of ports).outputs) → AreApart plan
  are_apart differ = record { outputs = outputs_apart (subst AllDiffer (map-map (λ (y : Name × ℕ). y.0) stream_shape ports.outputs) differ); inputs = inputs_apart }
