-- Kernels that have their modules, one more each time.
use Rattle.std.proofs.Common.{◌≡◌, ℕ, ◌+◌, ◌<◌, ◌^◌, List, [], ◌∷◌, ◌++◌, length, take, get_or, refl, sym, subst, ⊎_elim, arith}
use Rattle.std.specs.Prelude.{ℤ, pos, ◌≤ℤ◌, Some, All, slice_get}
use Rattle.std.proofs.lemmas.Int.{ints}
use Rattle.std.proofs.lemmas.List.{length-append, length-take-le}
use Rattle.std.proofs.lemmas.Option.{slice_get-get_or, slice_get_within}
use Rattle.rtl_ir.specs.declared.design.Module.{Module}
use Rattle.cycle_find.specs.Constraints.{numbers_of}
use Rattle.stream_graph.specs.declared.kernel.Kernel.{Kernel}
use Rattle.latency_table.specs.declared.table.Table.{Table}
use Rattle.schedule_report.specs.declared.report.ReportKernel.{ReportKernel}
use Rattle.kernel_netlist.specs.declared.making.KernelNetlist.{KernelNetlist}
use Rattle.kernel_netlist.specs.Netlists.{IsNetlistOf}
use Rattle.manager_links.specs.Starts.{own_times}
use Rattle.manager_links.proofs.Pieces.{get_push, take_read}
use Rattle.project_netlists.specs.Netlists.{AreKernelNetlists}
use Rattle.project_netlists.specs.Refused.{FitsBits}
use Rattle.project_netlists.proofs.Lists.{item_at}

-- ---- one more

pub none_made : (table : Table) (times : List (List ℤ)) → AreKernelNetlists table [] times [] []
none_made table times = record {
  one_part = refl;
  one_module = refl;
  each = λ k kernel part inner here at_part at_inner. absurd (cc);
}

module _ (table : Table) (kernels : List Kernel) (times : List (List ℤ)) (parts : List ReportKernel)
    (inners : List Module) (kernel : Kernel) (part : ReportKernel) (inner : Module)
    (made : AreKernelNetlists table kernels times parts inners)
    (one : IsNetlistOf table kernel (own_times times (length kernels)) (record { part = part; inner = inner }))
  where
    -- the last one
    last : (k : ℕ) (kn : Kernel) (p : ReportKernel) (m : Module) → k ≡ length kernels → kernel ≡ kn
        → part ≡ p → inner ≡ m
        → IsNetlistOf table kn (own_times times k) (record { part = p; inner = m })
    last k kn p m at kernel_is part_is inner_is =
        subst (λ x. IsNetlistOf table kn (own_times times k) (record { part = p; inner = x })) inner_is
        (subst (λ x. IsNetlistOf table kn (own_times times k) (record { part = x; inner = inner })) part_is
        (subst (λ x. IsNetlistOf table x (own_times times k) (record { part = part; inner = inner })) kernel_is
        (subst (λ x. IsNetlistOf table kernel (own_times times x) (record { part = part; inner = inner })) (sym at) one)))

    each : (k : ℕ) (kn : Kernel) (p : ReportKernel) (m : Module)
        → slice_get (kernels ++ kernel ∷ []) k ≡ Some kn → slice_get (parts ++ part ∷ []) k ≡ Some p
        → slice_get (inners ++ inner ∷ []) k ≡ Some m
        → IsNetlistOf table kn (own_times times k) (record { part = p; inner = m })
    each k kn p m here at_part at_inner =
        let parts_long = made.one_part in
        let inners_long = made.one_module in
        ⊎_elim
        (λ kernel_in.
        let lt = slice_get_within kernels k kn kernel_in in
        ⊎_elim
        (λ part_in.
        ⊎_elim (λ inner_in. made.each k kn p m kernel_in part_in inner_in)
        (λ inner_last. let at = inner_last.0 in absurd (omega (arith, lt, at, inners_long)))
        (get_push inners inner m k at_inner))
        (λ part_last. let at = part_last.0 in absurd (omega (arith, lt, at, parts_long)))
        (get_push parts part p k at_part))
        (λ kernel_last.
        let at = kernel_last.0 in
        ⊎_elim
        (λ part_in. let lt = slice_get_within parts k p part_in in absurd (omega (arith, lt, at, parts_long)))
        (λ part_last.
        ⊎_elim
        (λ inner_in. let lt = slice_get_within inners k m inner_in in absurd (omega (arith, lt, at, inners_long)))
        (λ inner_last. last k kn p m at kernel_last.1 part_last.1 inner_last.1)
        (get_push inners inner m k at_inner))
        (get_push parts part p k at_part))
        (get_push kernels kernel kn k here)

    push : AreKernelNetlists table (kernels ++ kernel ∷ []) times (parts ++ part ∷ []) (inners ++ inner ∷ [])
    push =
        let ks = length-append kernels (kernel ∷ []) in
        let ps = length-append parts (part ∷ []) in
        let ms = length-append inners (inner ∷ []) in
        let parts_long = made.one_part in
        let inners_long = made.one_module in
        record {
          one_part = omega (arith, ks, ps, parts_long);
          one_module = omega (arith, ks, ms, inners_long);
          each = each;
        }

-- the kernels up to a place, and the one at it
pub made_more : (table : Table) (kernels : List Kernel) (times : List (List ℤ))
    (parts : List ReportKernel) (inners : List Module) (i : ℕ) (kernel : Kernel) (part : ReportKernel)
    (inner : Module) → i < length kernels → kernel ≡ get_or kernels i kernel
    → AreKernelNetlists table (take i kernels) times parts inners
    → IsNetlistOf table kernel (own_times times i) (record { part = part; inner = inner })
    → AreKernelNetlists table (take (i + 1) kernels) times (parts ++ part ∷ []) (inners ++ inner ∷ [])
made_more table kernels times parts inners i kernel part inner lt is made one =
    let long : length (take i kernels) ≡ i = length-take-le i kernels (omega (arith, lt)) in
    subst (λ ks. AreKernelNetlists table ks times (parts ++ part ∷ []) (inners ++ inner ∷ []))
    (sym (take_read kernels i kernel lt is))
    (push table (take i kernels) times parts inners kernel part inner made
    (subst (λ n. IsNetlistOf table kernel (own_times times n) (record { part = part; inner = inner }))
    (sym long) one))

-- ---- what they give

fits : (table : Table) (kernel : Kernel) (times : List ℤ) (made : KernelNetlist)
    → IsNetlistOf table kernel times made → FitsBits table kernel
fits table kernel times made is =
    let few = is.part.few in
    let small : pos made.part.bits ≤ℤ pos (2 ^ 28) = omega (arith, ints, few) in
    record {
      times = numbers_of times;
      least = is.least;
      few = subst (λ b. b ≤ℤ pos (2 ^ 28)) (sym is.part.holds) small;
    }

-- the FIFOs of each kernel need few bits
pub all_fit : (table : Table) (kernels : List Kernel) (times : List (List ℤ))
    (parts : List ReportKernel) (inners : List Module)
    → AreKernelNetlists table kernels times parts inners → All (FitsBits table) kernels
all_fit table kernels times parts inners made k d lt =
    let part = item_at parts k (subst (λ n. k < n) (sym made.one_part) lt) in
    let inner = item_at inners k (subst (λ n. k < n) (sym made.one_module) lt) in
    fits table (get_or kernels k d) (own_times times k) (record { part = part.0; inner = inner.0 })
    (made.each k (get_or kernels k d) part.0 inner.0 (slice_get-get_or kernels k d lt) part.1 inner.1)
