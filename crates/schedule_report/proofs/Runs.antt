-- Lines lead to one stage, and those of a report lead to its end.
use Rattle.std.proofs.Common.{
  ◌≡◌,
  ◌∙◌,
  ℕ,
  ℤ,
  pos,
  negsuc,
  ◌+◌,
  ◌*◌,
  ◌<◌,
  ◌≤◌,
  ◌^◌,
  ◌==◌,
  ◌&&◌,
  true,
  false,
  List,
  [],
  ◌∷◌,
  ◌++◌,
  map,
  length,
  refl,
  sym,
  ap,
  subst,
  inl,
  inr,
  arith,
  append_assoc,
  length-append,
}
use Rattle.std.specs.Prelude.{codes, All, unsigned_abs}
use Rattle.std.specs.List.{flat_map}
use Rattle.std.specs.Fmt.{decimal}
use Rattle.std.proofs.lemmas.Bool.Decides.{nat_tests}
use Rattle.std.specs.Int.Signed.{mag}
use Rattle.std.proofs.lemmas.Fmt.{decimal_injective, signed_decimal_injective}
use Rattle.std.proofs.lemmas.List.{append-nil}
use Rattle.std.proofs.lemmas.List.Elements.{All-head, All-tail}
use Rattle.text_scan.proofs.ByteTests.{and_true, eq_same, not_true}
use Rattle.schedule_report.specs.declared.report.Report.{Report}
use Rattle.schedule_report.specs.declared.report.ReportKernel.{ReportKernel}
use Rattle.schedule_report.specs.declared.stage.Stage.{Stage}
use Rattle.schedule_report.specs.declared.stage.Stage.TheVariants.{Start, Between, Within, Done}
use Rattle.schedule_report.specs.Fields.{IsTime, IsHeadLine}
use Rattle.schedule_report.specs.Reports.{IsKernelPart, IsReport, kernel_line, kernel_lines, time_line, flow_line, report_lines}
use Rattle.schedule_report.specs.Stages.{IsHead, settled, with_time, with_flow, Next, Runs}
use Rattle.schedule_report.proofs.Fronts.{behind_same}
use Rattle.schedule_report.proofs.FieldLemmas.{from_nodes, from_edges, from_bits, parts_are, name_word, head_name, nodes_field, edges_field, field_same}

-- a line says one time
time_same : (line : List ℕ) (s t : ℤ) → IsTime line s → IsTime line t → s ≡ t
time_same line s t a b = signed_decimal_injective s t (small s a.small) (small t b.small) (behind_same (codes "time ") _ _ (sym a.line_is ∙ b.line_is))
  where
    small : (z : ℤ) → unsigned_abs z ≤ 2 ^ 60 → mag z < 2 ^ 63
    small (pos n) h = omega arith
    small (negsuc n) h = omega arith

-- and one flow
flow_same : (f g : ℕ) → f < 2 ^ 63 → g < 2 ^ 63 → flow_line f ≡ flow_line g → f ≡ g
flow_same f g a b e = decimal_injective f g (omega arith) (omega arith) (behind_same (codes "flow ") (decimal f) (decimal g) e)

-- the kernel of these parts
abbrev made : List ℕ → ℕ → ℕ → ℕ → List ℤ → List ℕ → ReportKernel
made name nodes edges bits times flow = record { name = name; nodes = nodes; edges = edges; bits = bits; times = times; flow = flow }

-- and one kernel
head_same : (k j : ReportKernel) → IsHead k → IsHead j → kernel_line k ≡ kernel_line j → k ≡ j
head_same k j a b e =
    let line : IsHeadLine (kernel_line k) j.name j.nodes j.edges j.bits =
    record { line_is = e; named = b.named; nodes_small = b.nodes; edges_small = b.edges; bits_small = b.bits } in
    let fits : 2 ^ 32 < 2 ^ 64 = omega arith in
    let (name, rest) =
    head_name (kernel_line k) (k.name ++ from_nodes k.nodes k.edges k.bits) k.name (from_nodes k.nodes k.edges k.bits) j.name j.nodes j.edges j.bits
    (parts_are k.name k.nodes k.edges k.bits) refl (name_word k.name a.named) refl line in
    let (nodes, rest2) =
    field_same (from_nodes k.nodes k.edges k.bits) (codes " nodes ") (2 ^ 32) (2 ^ 32) k.nodes j.nodes (from_edges k.edges k.bits)
    (from_edges j.edges j.bits) fits fits
    (nodes_field (from_nodes k.nodes k.edges k.bits) k.nodes k.edges k.bits refl a.nodes)
    (nodes_field (from_nodes k.nodes k.edges k.bits) j.nodes j.edges j.bits rest b.nodes) in
    let (edges, rest3) =
    field_same (from_edges k.edges k.bits) (codes " edges ") (2 ^ 32) (2 ^ 32) k.edges j.edges (from_bits k.bits) (from_bits j.bits) fits fits
    (edges_field (from_edges k.edges k.bits) k.edges k.bits refl a.edges) (edges_field (from_edges k.edges k.bits) j.edges j.bits rest2 b.edges) in
    let x = a.bits in
    let y = b.bits in
    let bits : k.bits ≡ j.bits =
    decimal_injective k.bits j.bits (omega arith) (omega arith) (behind_same (codes " bits ") (decimal k.bits) (decimal j.bits) rest3) in
    parts_same k j name nodes edges bits (a.timeless ∙ sym b.timeless) (a.flowless ∙ sym b.flowless)
  where
    parts_same : (k j : ReportKernel) → k.name ≡ j.name → k.nodes ≡ j.nodes → k.edges ≡ j.edges → k.bits ≡ j.bits → k.times ≡ j.times → k.flow ≡ j.flow → k ≡ j
    parts_same k j a b c d e f =
        ap (λ n. made n k.nodes k.edges k.bits k.times k.flow) a ∙ ap (λ n. made j.name n k.edges k.bits k.times k.flow) b
        ∙ ap (λ n. made j.name j.nodes n k.bits k.times k.flow) c
        ∙ ap (λ n. made j.name j.nodes j.edges n k.times k.flow) d ∙ ap (λ ts. made j.name j.nodes j.edges j.bits ts k.flow) e
        ∙ ap (λ fs. made j.name j.nodes j.edges j.bits j.times fs) f

-- the last line is no kernel's
no_end : (k : ReportKernel) → codes "end" ≡ kernel_line k → ⊥
no_end k e = cc

-- a line leads to one stage
pub next_same : (s : Stage) (line : List ℕ) (a b : Stage) → Next s line a → Next s line b → a ≡ b
next_same Start line a b p q = p.1 ∙ sym q.1
next_same (Between ks) line a b (inl p) (inl q) = p.1 ∙ sym q.1
next_same (Between ks) line a b (inl p) (inr q) = absurd (no_end q.kernel (sym p.0 ∙ q.line_is))
next_same (Between ks) line a b (inr p) (inl q) = absurd (no_end p.kernel (sym q.0 ∙ p.line_is))
next_same (Between ks) line a b (inr p) (inr q) =
    p.new_is ∙ ap (settled ks) (head_same p.kernel q.kernel p.head q.head (sym p.line_is ∙ q.line_is)) ∙ sym q.new_is
next_same (Within ks k) line a b (inl p) (inl q) = p.new_is ∙ ap (λ s. settled ks (with_time k s)) (time_same line p.time q.time p.says q.says) ∙ sym q.new_is
next_same (Within ks k) line a b (inl p) (inr q) = let m = p.missing in let n = q.timed in absurd (omega arith)
next_same (Within ks k) line a b (inr p) (inl q) = let m = q.missing in let n = p.timed in absurd (omega arith)
next_same (Within ks k) line a b (inr p) (inr q) =
    p.new_is ∙ ap (λ f. settled ks (with_flow k f)) (flow_same p.flow q.flow p.small q.small (sym p.line_is ∙ q.line_is)) ∙ sym q.new_is
next_same (Done ks) line a b p q = absurd p

-- lines lead to one stage
pub runs_same : (s : Stage) (lines : List (List ℕ)) (a b : Stage) → Runs s lines a → Runs s lines b → a ≡ b
runs_same s [] a b p q = sym p ∙ q
runs_same s (l ∷ lines) a b p q =
    let m : p.0 ≡ q.0 = next_same s l p.0 q.0 p.1 q.1 in
    runs_same q.0 lines a b (subst (λ t. Runs t lines a) m p.2) q.2

-- lines lead to where their front leads, and on from there
pub runs_split : (s : Stage) (front lines : List (List ℕ)) (a : Stage) → Runs s (front ++ lines) a → (m : Stage) × Runs s front m × Runs m lines a
runs_split s [] lines a p = (s, refl, p)
runs_split s (l ∷ front) lines a p =
    let (m, q, r) = runs_split p.0 front lines a p.2 in
    (m, (p.0, p.1, q), r)

-- lines behind lines lead on from where those lead
pub runs_append : (s : Stage) (front lines : List (List ℕ)) (m a : Stage) → Runs s front m → Runs m lines a → Runs s (front ++ lines) a
runs_append s [] lines m a p q = subst (λ t. Runs t lines a) (sym p) q
runs_append s (l ∷ front) lines m a p q = (p.0, p.1, runs_append p.0 front lines m a p.2 q)

-- a kernel that is whole
settled_whole : (ks : List ReportKernel) (k : ReportKernel) → length k.times ≡ k.nodes → length k.flow ≡ 2 * k.edges
    → settled ks k ≡ Between (ks ++ k ∷ [])
settled_whole ks k a b = let t : (length k.times == k.nodes && length k.flow == 2 * k.edges) ≡ true = grind (arith, nat_tests) in rw t refl

-- a kernel that is not
settled_open : (ks : List ReportKernel) (k : ReportKernel) → (length k.times ≡ k.nodes → length k.flow ≡ 2 * k.edges → ⊥) → settled ks k ≡ Within ks k
settled_open ks k h =
    let no : (length k.times == k.nodes && length k.flow == 2 * k.edges) ≡ true → ⊥ =
    λ e. (let (a, b) = and_true (length k.times == k.nodes) _ e in h (eq_same _ _ a) (eq_same _ _ b)) in
    let t : (length k.times == k.nodes && length k.flow == 2 * k.edges) ≡ false = not_true _ no in
    rw t refl

-- the same kernel with these times and flows
abbrev with_both : ReportKernel → List ℤ → List ℕ → ReportKernel
with_both k ts fs = record k { times = ts; flow = fs }

-- the flows that are left lead from a kernel with all of its times to the whole kernel
flow_runs : (ks : List ReportKernel) (k : ReportKernel) (ts : List ℤ) (fs gs : List ℕ) → length ts ≡ k.nodes → length fs + length gs ≡ 2 * k.edges
    → All (λ f. f < 2 ^ 63) gs → Runs (settled ks (with_both k ts fs)) (map flow_line gs) (Between (ks ++ with_both k ts (fs ++ gs) ∷ []))
flow_runs ks k ts fs [] a b all =
    settled_whole ks (with_both k ts fs) a (omega arith) ∙ ap (λ l. Between (ks ++ with_both k ts l ∷ [])) (sym (append-nil fs))
flow_runs ks k ts fs (g ∷ gs) a b all =
    let mid = settled ks (with_both k ts (fs ++ g ∷ [])) in
    let here : settled ks (with_both k ts fs) ≡ Within ks (with_both k ts fs) = settled_open ks (with_both k ts fs) (λ p q. omega arith) in
    let next : Next (Within ks (with_both k ts fs)) (flow_line g) mid =
    inr (record { timed = omega arith; flow = g; small = All-head (λ f. f < 2 ^ 63) g gs all; line_is = refl; new_is = refl }) in
    let rest = flow_runs ks k ts (fs ++ g ∷ []) gs a (simp length-append (omega arith)) (All-tail (λ f. f < 2 ^ 63) g gs all) in
    let same = append_assoc fs (g ∷ []) gs in
    rw here (mid, next, subst (λ l. Runs mid (map flow_line gs) (Between (ks ++ with_both k ts l ∷ []))) same rest)

-- the times that are left lead from a kernel without flows to the kernel with all of its times
time_runs : (ks : List ReportKernel) (k : ReportKernel) (ts ss : List ℤ) → length ts + length ss ≡ k.nodes → All (λ s. unsigned_abs s ≤ 2 ^ 60) ss
    → Runs (settled ks (with_both k ts [])) (map time_line ss) (settled ks (with_both k (ts ++ ss) []))
time_runs ks k ts [] a all = ap (λ l. settled ks (with_both k l [])) (sym (append-nil ts))
time_runs ks k ts (s ∷ ss) a all =
    let mid = settled ks (with_both k (ts ++ s ∷ []) []) in
    let here : settled ks (with_both k ts []) ≡ Within ks (with_both k ts []) = settled_open ks (with_both k ts []) (λ p q. omega arith) in
    let says : IsTime (time_line s) s = record { line_is = refl; small = All-head (λ s. unsigned_abs s ≤ 2 ^ 60) s ss all } in
    let next : Next (Within ks (with_both k ts [])) (time_line s) mid = inl (record { missing = omega arith; time = s; says = says; new_is = refl }) in
    let rest = time_runs ks k (ts ++ s ∷ []) ss (simp length-append (omega arith)) (All-tail (λ s. unsigned_abs s ≤ 2 ^ 60) s ss all) in
    let same = append_assoc ts (s ∷ []) ss in
    rw here (mid, next, subst (λ l. Runs mid (map time_line ss) (settled ks (with_both k l []))) same rest)

-- the lines of a kernel lead to the whole kernel
kernel_runs : (ks : List ReportKernel) (k : ReportKernel) → IsKernelPart k → Runs (Between ks) (kernel_lines k) (Between (ks ++ k ∷ []))
kernel_runs ks k is =
    let counted = is.counted in
    let carried = is.carried in
    let head : IsHead (with_both k [] []) = record { named = is.named; nodes = is.nodes; edges = is.edges; bits = is.bits; timeless = refl; flowless = refl } in
    let next : Next (Between ks) (kernel_line k) (settled ks (with_both k [] [])) =
    inr (record { kernel = with_both k [] []; head = head; line_is = refl; new_is = refl }) in (
      settled ks (with_both k [] []),
      next,
      runs_append (settled ks (with_both k [] [])) (map time_line k.times) (map flow_line k.flow) (settled ks (with_both k k.times [])) (Between (ks ++ k ∷ []))
          (time_runs ks k [] k.times (omega arith) is.times) (flow_runs ks k k.times [] k.flow counted (omega arith) is.flow),
    )

-- and those of kernels to whole kernels
kernels_run : (before ks : List ReportKernel) → All IsKernelPart ks → Runs (Between before) (flat_map kernel_lines ks) (Between (before ++ ks))
kernels_run before [] all = ap Between (sym (append-nil before))
kernels_run before (k ∷ ks) all =
    runs_append (Between before) (kernel_lines k) (flat_map kernel_lines ks) (Between (before ++ k ∷ [])) (Between (before ++ k ∷ ks))
    (kernel_runs before k (All-head IsKernelPart k ks all))
    (subst (λ l. Runs (Between (before ++ k ∷ [])) (flat_map kernel_lines ks) (Between l)) (append_assoc before (k ∷ []) ks)
    (kernels_run (before ++ k ∷ []) ks (All-tail IsKernelPart k ks all)))

-- the lines of a report lead to its end
pub report_runs : (r : Report) → IsReport r → Runs Start (report_lines r) (Done r.kernels)
report_runs r is = (
  Between [],
  (refl, refl),
  runs_append (Between []) (flat_map kernel_lines r.kernels) (codes "end" ∷ []) (Between r.kernels) (Done r.kernels) (kernels_run [] r.kernels is)
      (Done r.kernels, inl (refl, refl), refl),
)
