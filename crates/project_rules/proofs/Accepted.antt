-- The design of a project keeps all rules of designs.
use Rattle.std.proofs.Common.{◌≡◌, ◌∙◌, ℕ, zero, suc, ◌+◌, ◌-◌, ◌<◌, ◌≤◌, inl, inr, List, [], ◌∷◌, ◌++◌, map, Some, length, take, refl, sym, ap, subst, arith}
use Rattle.std.specs.Prelude.{slice_get, ◌⊎◌, codes}
use Rattle.std.specs.Fmt.{decimal}
use Rattle.std.proofs.lemmas.Fmt.{decimal_injective}
use Rattle.rtl_ir.specs.declared.design.Module.{Module}
use Rattle.rtl_ir.specs.declared.design.Design.{Design}
use Rattle.rtl_ir.specs.Formed.{IsFormedModule}
use Rattle.rtl_ir.specs.Rules.{AllDiffer, IsSound, IsAccepted}
use Rattle.stream_graph.specs.declared.kernel.Kernel.{Kernel}
use Rattle.manager_links.specs.declared.links.Links.{Links}
use Rattle.manager_links.specs.declared.project.Project.{Project}
use Rattle.manager_links.specs.Rules.{kernel_names}
use Rattle.project_rtl.specs.Tops.{fifo_count, top_module}
use Rattle.project_rtl.specs.Projects.{queues_of, fifo_name, IsProjectOf}
use Rattle.project_rtl.specs.Kept.{AllKeepRules}
use Rattle.project_rules.proofs.Lists.{within, there, get_left, get_behind, map_at, map_back, below_or}
use Rattle.project_sizes.proofs.Limits.{few_fifos}
use Rattle.project_rules.proofs.Parts.{fifo_for, length_fifos, many}
use Rattle.project_rules.proofs.Queues.{module_of}
use Rattle.project_rules.proofs.Driven.{driven}
use Rattle.project_rules.proofs.Levels.{levelled, has_widths, no_updates}
use Rattle.project_rules.proofs.Names.{other_byte, one_place, same_behind}
use Rattle.project_rules.proofs.Differ.{names_differ}
use Rattle.project_rules.proofs.Formed.{formed, count_modules}

module _ (project : Project) (made : Links) (inners : List Module) (d : Design) (whole : IsProjectOf project made inners d) (keeps : AllKeepRules project inners) where
  abbrev top : Module
  top = top_module project

  top_sound : IsSound d top
  top_sound = record {
    names = names_differ project made inners d whole keeps;
    driven = driven project made inners d whole keeps;
    updated = no_updates project;
    widths = has_widths project made inners d whole keeps;
    levelled = levelled project made inners d whole keeps;
  }

  -- ---- the modules

  -- the name of the module of this number
  data IsNamed (k : ℕ) (name : List ℕ) : Type 0 where
    of_fifo : k < fifo_count project → name ≡ fifo_name k → IsNamed k name
    of_kernel : (j : ℕ) (kernel : Kernel) → slice_get project.kernels j ≡ Some kernel → k ≡ fifo_count project + j
        → name ≡ codes "kernel$" ++ kernel.name → IsNamed k name
    of_top : k ≡ fifo_count project + length project.kernels → name ≡ codes "top$project" → IsNamed k name

  record IsModule (k : ℕ) (x : Module) : Type 0 where
    named : IsNamed k x.name
    sound : IsSound d x
    formed_there : IsFormedModule (take k d.modules) x

  fifo_is : (k : ℕ) (x : Module) → k < fifo_count project → slice_get whole.fifos k ≡ Some x → IsModule k x
  fifo_is k x lt e =
      let l = length_fifos 0 (queues_of project made) whole.fifos whole.are_fifos in
      let m = many project made inners d whole in
      let queue = there (queues_of project made) k (omega (arith, l, m, lt)) in
      let f = fifo_for 0 (queues_of project made) whole.fifos k queue.0 whole.are_fifos queue.1 in
      let z : 0 + k ≡ k = omega arith in
      let q = sym f.at ∙ e in
      let same : f.fifo ≡ x = cc in
      subst (IsModule k) same (record {
        named = of_fifo lt (f.is.named ∙ ap fifo_name z);
        sound = f.is.sound d;
        formed_there = f.is.formed (take k d.modules);
      })

  kernel_is : (k j : ℕ) (x : Module) → k ≡ fifo_count project + j → slice_get inners j ≡ Some x → IsModule k x
  kernel_is k j x same e =
      let lt = within inners j x e in
      let c = whole.kernels in
      let kernel = there project.kernels j (omega (arith, lt, c)) in
      let m = module_of project made inners d whole keeps j kernel.0 kernel.1 in
      let q = sym m.is ∙ e in
      let one : m.inner ≡ x = cc in
      subst (IsModule k) one (record {
        named = of_kernel j kernel.0 kernel.1 same m.keeps_rules.name;
        sound = m.keeps_rules.sound d;
        formed_there = m.keeps_rules.formed (take k d.modules);
      })

  top_is : (k : ℕ) (x : Module) → k ≡ fifo_count project + length project.kernels → top ≡ x → IsModule k x
  top_is k x same one =
      subst (IsModule k) one (record {
        named = of_top same refl;
        sound = top_sound;
        formed_there = subst (λ n. IsFormedModule (take n d.modules) top) (sym same) (formed project made inners d whole keeps);
      })

  module_is : (k : ℕ) (x : Module) → slice_get d.modules k ≡ Some x → IsModule k x
  module_is k x e = first (below_or k (fifo_count project))
    where
      found : slice_get (whole.fifos ++ (inners ++ top ∷ [])) k ≡ Some x
      found = ap (λ (l : List Module). slice_get l k) (sym whole.modules) ∙ e

      third : (j : ℕ) → k ≡ fifo_count project + (length inners + j) → slice_get (top ∷ []) j ≡ Some x → IsModule k x
      third zero same f =
          let c = whole.kernels in
          let one : top ≡ x = cc in
          top_is k x (omega (arith, same, c)) one
      third (suc j) same f = absurd (cc)

      second : (j : ℕ) → k ≡ fifo_count project + j → slice_get (inners ++ top ∷ []) j ≡ Some x → (j < length inners) ⊎ (length inners ≤ j) → IsModule k x
      second j same f (inl lt) = kernel_is k j x same (sym (get_left inners (top ∷ []) j lt) ∙ f)
      second j same f (inr ge) =
          let z : length inners + (j - length inners) ≡ j = omega (arith, ge) in
          third (j - length inners) (omega (arith, same, z))
          (sym (get_behind inners (top ∷ []) (length inners) (j - length inners) refl) ∙ ap (λ i. slice_get (inners ++ top ∷ []) i) z ∙ f)

      first : (k < fifo_count project) ⊎ (fifo_count project ≤ k) → IsModule k x
      first (inl lt) =
          let m = many project made inners d whole in
          fifo_is k x lt (sym (get_left whole.fifos (inners ++ top ∷ []) k (omega (arith, lt, m))) ∙ found)
      first (inr ge) =
          let m = many project made inners d whole in
          let z : fifo_count project + (k - fifo_count project) ≡ k = omega (arith, ge) in
          second (k - fifo_count project) (sym z)
          (sym (get_behind whole.fifos (inners ++ top ∷ []) (fifo_count project) (k - fifo_count project) (sym m))
          ∙ ap (λ i. slice_get (whole.fifos ++ (inners ++ top ∷ [])) i) z ∙ found)
          (below_or (k - fifo_count project) (length inners))

  -- ---- their names

  one_number : (i j : ℕ) (x : List ℕ) → IsNamed i x → IsNamed j x → i ≡ j
  one_number i j x (of_fifo p e) (of_fifo q f) =
      let few = few_fifos project in
      decimal_injective i j (omega (arith, p, few)) (omega (arith, q, few)) (same_behind (codes "fifo$") (decimal i) (decimal j) (sym e ∙ f))
  one_number i j x (of_fifo p e) (of_kernel b kb q t f) = other_byte x (fifo_name i) (codes "kernel$" ++ kb.name) e f (λ h. omega (arith, h))
  one_number i j x (of_fifo p e) (of_top t f) = other_byte x (fifo_name i) (codes "top$project") e f (λ h. omega (arith, h))
  one_number i j x (of_kernel a ka p s e) (of_fifo q f) = other_byte x (codes "kernel$" ++ ka.name) (fifo_name j) e f (λ h. omega (arith, h))
  one_number i j x (of_kernel a ka p s e) (of_kernel b kb q t f) =
      let name : Kernel → List ℕ = λ k. k.name in
      let own = same_behind (codes "kernel$") ka.name kb.name (sym e ∙ f) in
      let places = one_place (kernel_names project.kernels) project.whole.differ a b ka.name (map_at name project.kernels a ka p)
      (map_at name project.kernels b kb q ∙ ap (λ y. Some y) (sym own)) in
      omega (arith, places, s, t)
  one_number i j x (of_kernel a ka p s e) (of_top t f) = other_byte x (codes "kernel$" ++ ka.name) (codes "top$project") e f (λ h. omega (arith, h))
  one_number i j x (of_top s e) (of_fifo q f) = other_byte x (codes "top$project") (fifo_name j) e f (λ h. omega (arith, h))
  one_number i j x (of_top s e) (of_kernel b kb q t f) = other_byte x (codes "top$project") (codes "kernel$" ++ kb.name) e f (λ h. omega (arith, h))
  one_number i j x (of_top s e) (of_top t f) = s ∙ sym t

  modules_differ : AllDiffer (map (λ (m : Module). m.name) d.modules)
  modules_differ i j text e f =
      let x = map_back (λ (m : Module). m.name) d.modules i text e in
      let y = map_back (λ (m : Module). m.name) d.modules j text f in
      one_number i j text (subst (IsNamed i) x.2 (module_is i x.0 x.1).named) (subst (IsNamed j) y.2 (module_is j y.0 y.1).named)

  -- ---- all rules

  pub accepted : IsAccepted d
  accepted =
      let l = count_modules project made inners d whole keeps in
      record {
        formed = record { some = omega (arith, l); each = λ k m e. (module_is k m e).formed_there };
        names = modules_differ;
        sound = λ k m e. (module_is k m e).sound;
      }
