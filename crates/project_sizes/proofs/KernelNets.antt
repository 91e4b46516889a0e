-- The bytes in the names of the nets that kernels are joined to. Each net but clk and reset is joined
-- to one kernel at most, so these are few by all names of the top module.
use Rattle.std.proofs.Common.{◌≡◌, ◌∙◌, ℕ, suc, ◌+◌, ◌-◌, ◌*◌, ◌≤◌, List, [], ◌∷◌, ◌++◌, Some, length, refl, sym, ap, arith, length-append, append_assoc}
use Rattle.std.specs.Prelude.{slice_get, sum_by, codes}
use Rattle.std.proofs.lemmas.List.Sums.{sum_by-cons, sum_by-append, sum_by_more}
use Rattle.std.proofs.lemmas.Option.{slice_get_within, get_or_from_slice_get}
use Rattle.rtl_ir.specs.declared.design.Net.{Net}
use Rattle.rtl_ir.specs.declared.design.Instance.{Instance}
use Rattle.rtl_ir.specs.Formed.{net_name}
use Rattle.stream_graph.specs.declared.kernel.Kernel.{Kernel}
use Rattle.manager_links.specs.declared.project.Project.{Project}
use Rattle.project_rtl.specs.Blocks.{scalar_count, block_size, first_net, first_scalar_port}
use Rattle.project_rtl.specs.Tops.{range, instance, kernel_nets, kernel_instances, top_module}
use Rattle.project_sizes.proofs.Counts.{has_ports, count_nets, count_ports, count_wires}
use Rattle.project_sizes.proofs.Lists.{range_append}
use Rattle.verilog_size.specs.Names.{net_bytes}

-- the names of the nets of a list that stand behind others, by their numbers
names_range : (before nets : List Net)
    → sum_by (λ n. length (net_name (slice_get (before ++ nets) n))) (range (length before) (length nets)) ≡ sum_by (λ (x : Net). length x.name) nets
names_range before [] = refl
names_range before (x ∷ nets) =
    let at : ℕ → ℕ = λ n. length (net_name (slice_get (before ++ x ∷ nets) n)) in
    let n = length before in
    let here : at n ≡ length x.name = ap (λ o. length (net_name o)) (first before) in
    let joined : (before ++ x ∷ []) ++ nets ≡ before ++ x ∷ nets = append_assoc before (x ∷ []) nets in
    let size : n + 1 ≡ length (before ++ x ∷ []) = sym (length-append before (x ∷ [])) in
    let rest : sum_by at (range (n + 1) (length nets)) ≡ sum_by (λ (y : Net). length y.name) nets =
    ap (λ k. sum_by at (range k (length nets))) size
    ∙ ap (λ (l : List Net). sum_by (λ k. length (net_name (slice_get l k))) (range (length (before ++ x ∷ [])) (length nets))) (sym joined)
    ∙ names_range (before ++ x ∷ []) nets in
    let a = sum_by-cons at n (range (n + 1) (length nets)) in
    let b = sum_by-cons (λ (y : Net). length y.name) x nets in
    omega (arith, here, rest, a, b)
  where
    first : (xs : List Net) → slice_get (xs ++ x ∷ nets) (length xs) ≡ Some x
    first [] = refl
    first (y ∷ xs) = first xs

-- ---- sums over ranges

module _ (g : ℕ → ℕ) where
  -- those of so many numbers from one on
  abbrev pub from_on : ℕ → ℕ → ℕ
  from_on from count = sum_by g (range from count)

  in_two : (from a b : ℕ) → from_on from (a + b) ≡ from_on from a + from_on (from + a) b
  in_two from a b = ap (λ l. sum_by g l) (range_append from a b) ∙ sum_by-append g (range from a) (range (from + a) b)

  -- the same with the second part by its first number, and all by its count
  parted : (from a next b all : ℕ) → next ≡ from + a → all ≡ a + b → from_on from all ≡ from_on from a + from_on next b
  parted from a next b all e f = ap (λ k. from_on from k) f ∙ in_two from a b ∙ ap (λ n. from_on from a + from_on n b) (sym e)

  -- two parts one behind the other
  two_parts : (a i b j all : ℕ) → a + i ≤ b → b + j ≤ all → from_on a i + from_on b j ≤ from_on 0 all
  two_parts a i b j all h k =
      let p = parted 0 a a (all - a) all (omega arith) (omega (arith, h, k)) in
      let q = parted a i (a + i) (all - (a + i)) (all - a) refl (omega (arith, h, k)) in
      let r = parted (a + i) (b - (a + i)) b (all - b) (all - (a + i)) (omega (arith, h)) (omega (arith, h, k)) in
      let s = parted b j (b + j) (all - (b + j)) (all - b) refl (omega (arith, k)) in
      omega (arith, p, q, r, s)

-- ---- the nets of kernels

module _ (project : Project) where
  -- the next kernel's nets stand behind those of the one before
  next_net : (k : ℕ) (kernel : Kernel) → slice_get project.kernels k ≡ Some kernel → first_net project (k + 1) ≡ first_net project k + block_size kernel
  next_net k kernel at =
      let more = sum_by_more block_size project.kernels k kernel (slice_get_within project.kernels k kernel at) in
      let own = ap block_size (get_or_from_slice_get project.kernels k kernel kernel at) in
      omega (arith, more, own)

  next_scalar : (k : ℕ) (kernel : Kernel) → slice_get project.kernels k ≡ Some kernel → first_scalar_port project (k + 1) ≡ first_scalar_port project k + scalar_count kernel
  next_scalar k kernel at =
      let more = sum_by_more scalar_count project.kernels k kernel (slice_get_within project.kernels k kernel at) in
      let own = ap scalar_count (get_or_from_slice_get project.kernels k kernel kernel at) in
      omega (arith, more, own)

  module _ (g : ℕ → ℕ) where
    -- those of one
    one_kernel : (k : ℕ) (kernel : Kernel) → sum_by g (kernel_nets project k kernel)
        ≡ from_on g 0 2 + from_on g (2 + 2 * k) 2 + from_on g (first_scalar_port project k) (scalar_count kernel) + from_on g (first_net project k) (block_size kernel)
    one_kernel k kernel =
        let a = range 0 2 in
        let b = range (2 + 2 * k) 2 in
        let c = range (first_scalar_port project k) (scalar_count kernel) in
        let d = range (first_net project k) (block_size kernel) in
        let p = sum_by-append g a b in
        let q = sum_by-append g (a ++ b) c in
        let r = sum_by-append g (a ++ b ++ c) d in
        omega (arith, p, q, r)

    -- those of kernels from this number on
    pub all_kernels : (of k : ℕ) (kernels : List Kernel)
        → ((j : ℕ) (kernel : Kernel) → slice_get kernels j ≡ Some kernel → slice_get project.kernels (k + j) ≡ Some kernel)
        → sum_by (λ (i : Instance). sum_by g i.nets) (kernel_instances project of k kernels)
        ≡ length kernels * from_on g 0 2 + from_on g (2 + 2 * k) (2 * length kernels)
        + from_on g (first_scalar_port project k) (sum_by scalar_count kernels) + from_on g (first_net project k) (sum_by block_size kernels)
    all_kernels of k [] h = omega arith
    all_kernels of k (kernel ∷ kernels) h =
        let at : slice_get project.kernels k ≡ Some kernel = ap (λ j. slice_get project.kernels j) (let z : k ≡ k + 0 = omega arith in z) ∙ h 0 kernel refl in
        let rest = all_kernels (of + 1) (k + 1) kernels (λ j x e. ap (λ n. slice_get project.kernels n) (let z : k + 1 + j ≡ k + suc j = omega arith in z) ∙ h (suc j) x e) in
        let here = one_kernel k kernel in
        let sum = sum_by-cons (λ (i : Instance). sum_by g i.nets) (instance of (codes "kernel$" ++ kernel.name) (kernel_nets project k kernel)) (kernel_instances project (of + 1) (k + 1) kernels) in
        let own = parted g (2 + 2 * k) 2 (2 + 2 * (k + 1)) (2 * length kernels) (2 * suc (length kernels)) (omega arith) (omega arith) in
        let scalars =
        parted g (first_scalar_port project k) (scalar_count kernel) (first_scalar_port project (k + 1)) (sum_by scalar_count kernels) (sum_by scalar_count (kernel ∷ kernels))
        (next_scalar k kernel at) (sum_by-cons scalar_count kernel kernels) in
        let blocks =
        parted g (first_net project k) (block_size kernel) (first_net project (k + 1)) (sum_by block_size kernels) (sum_by block_size (kernel ∷ kernels))
        (next_net k kernel at) (sum_by-cons block_size kernel kernels) in
        omega (arith, rest, here, sum, own, scalars, blocks)

  -- all of them
  pub kernel_net_names : (of : ℕ) → sum_by (λ (i : Instance). sum_by (net_bytes (top_module project)) i.nets) (kernel_instances project of 0 project.kernels)
      ≤ 8 * length project.kernels + sum_by (λ (x : Net). length x.name) (top_module project).nets
  kernel_net_names of =
      let g = net_bytes (top_module project) in
      let ports = has_ports project in
      let ks = ports.kernels in
      let ss = ports.scalars in
      let all = all_kernels g of 0 project.kernels (λ j x e. ap (λ n. slice_get project.kernels n) (let z : 0 + j ≡ j = omega arith in z) ∙ e) in
      let two : from_on g 0 2 ≡ 8 = refl in
      let counted = ap (λ n. length project.kernels * n) two in
      let front =
      parted g (2 + 2 * 0) (2 * length project.kernels) (first_scalar_port project 0) (sum_by scalar_count project.kernels)
      (2 * length project.kernels + sum_by scalar_count project.kernels) (omega (arith, ks)) refl in
      let nets = count_nets project in
      let count = count_ports project in
      let wires = count_wires project in
      let parts =
      two_parts g (2 + 2 * 0) (2 * length project.kernels + sum_by scalar_count project.kernels) (first_net project 0) (sum_by block_size project.kernels)
      (length (top_module project).nets) (omega (arith, count)) (omega (arith, nets, wires)) in
      let names : from_on g 0 (length (top_module project).nets) ≡ sum_by (λ (x : Net). length x.name) (top_module project).nets = names_range [] (top_module project).nets in
      omega (arith, all, counted, front, parts, names)
