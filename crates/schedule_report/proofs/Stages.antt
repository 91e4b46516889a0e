-- What a line adds to the lines so far.
use Rattle.std.proofs.Common.{
  ◌≡◌,
  ◌∙◌,
  ℕ,
  ℤ,
  ◌+◌,
  ◌*◌,
  ◌<◌,
  ◌≤◌,
  ◌^◌,
  ◌==◌,
  ◌&&◌,
  Bool,
  true,
  false,
  List,
  [],
  ◌∷◌,
  ◌++◌,
  map,
  length,
  refl,
  sym,
  ap,
  subst,
  inl,
  inr,
  arith,
  append_assoc,
  length-append,
}
use Rattle.std.specs.Prelude.{All, unsigned_abs}
use Rattle.std.specs.List.{flat_map}
use Rattle.std.proofs.lemmas.Bool.Decides.{nat_tests}
use Rattle.std.proofs.lemmas.List.{append-nil, map-append}
use Rattle.std.proofs.lemmas.List.Concat.{flat_map-append}
use Rattle.std.proofs.lemmas.List.Elements.{All-nil, All-push, All-same}
use Rattle.text_scan.proofs.ByteTests.{and_true, eq_same, true_or_false}
use Rattle.schedule_report.specs.declared.report.ReportKernel.{ReportKernel}
use Rattle.schedule_report.specs.declared.stage.Stage.{Stage}
use Rattle.schedule_report.specs.declared.stage.Stage.TheVariants.{Start, Between, Within, Done}
use Rattle.schedule_report.specs.Reports.{IsKernelPart, kernel_line, kernel_lines, time_line, flow_line}
use Rattle.schedule_report.specs.Stages.{first_line, IsHead, IsPartial, IsOpen, IsStage, lines_of, settled, with_time, with_flow, Next}

-- whether the kernel is whole
abbrev is_whole : ReportKernel → Bool
is_whole k = length k.times == k.nodes && length k.flow == 2 * k.edges

-- the stage behind a whole kernel
settled_if : (ks : List ReportKernel) (k : ReportKernel) → is_whole k ≡ true → settled ks k ≡ Between (ks ++ k ∷ [])
settled_if ks k e = rw e refl

-- and behind one that is not whole
settled_else : (ks : List ReportKernel) (k : ReportKernel) → is_whole k ≡ false → settled ks k ≡ Within ks k
settled_else ks k e = rw e refl

-- what a whole kernel has
whole : (k : ReportKernel) → is_whole k ≡ true → (length k.times ≡ k.nodes) × (length k.flow ≡ 2 * k.edges)
whole k e =
    let (a, b) = and_true (length k.times == k.nodes) (length k.flow == 2 * k.edges) e in
    (eq_same (length k.times) k.nodes a, eq_same (length k.flow) (2 * k.edges) b)

-- the first lines of a kernel, where they are all of them
part_whole : (k : ReportKernel) → IsPartial k → is_whole k ≡ true → IsKernelPart k
part_whole k p e =
    let (a, b) = whole k e in
    record { named = p.named; nodes = p.nodes; edges = p.edges; bits = p.bits; counted = a; carried = b; times = p.times; flow = p.flow }

-- and where some are left
part_open : (k : ReportKernel) → IsPartial k → is_whole k ≡ false → IsOpen k
part_open k p e =
    let a = p.times_within in
    let b = p.flow_within in
    record { part = p; left = left (length k.times) k.nodes (length k.flow) (2 * k.edges) a b e }
  where
    left : (t n f e : ℕ) → t ≤ n → f ≤ e → (t == n && f == e) ≡ false → t + f < n + e
    left t n f e a b h = grind (arith, nat_tests)

-- behind legal kernels and the first lines of one stands a legal stage
settled_stage : (ks : List ReportKernel) (k : ReportKernel) → All IsKernelPart ks → IsPartial k → IsStage (settled ks k)
settled_stage ks k all p =
    elim (true_or_false (is_whole k)) [
      | inl e ↦ subst IsStage (sym (settled_if ks k e)) (All-push IsKernelPart ks k all (part_whole k p e))
      | inr e ↦ subst IsStage (sym (settled_else ks k e)) (all, part_open k p e)
    ]

-- whether or not it is whole, the lines are those of the kernels and of this one
settled_lines : (ks : List ReportKernel) (k : ReportKernel) → lines_of (settled ks k) ≡ first_line ∷ (flat_map kernel_lines ks ++ kernel_lines k)
settled_lines ks k =
    elim (true_or_false (is_whole k)) [
      | inl e ↦ ap lines_of (settled_if ks k e) ∙ ap (λ l. first_line ∷ l)
          (flat_map-append kernel_lines ks (k ∷ []) ∙ ap (λ l. flat_map kernel_lines ks ++ l) (append-nil (kernel_lines k)))
      | inr e ↦ ap lines_of (settled_else ks k e)
    ]

-- a stage that is legal, and has one line more
pub record Grows (old : Stage) (line : List ℕ) (new : Stage) : Type 0 where
  pub legal : IsStage new
  pub lines : lines_of new ≡ lines_of old ++ line ∷ []

-- a kernel's line is the first lines of its part
head_partial : (k : ReportKernel) → IsHead k → IsPartial k
head_partial k h =
    let a = ap length h.timeless in
    let b = ap length h.flowless in
    record {
      named = h.named;
      nodes = h.nodes;
      edges = h.edges;
      bits = h.bits;
      times_within = omega arith;
      flow_within = omega arith;
      order = λ c. absurd (omega arith);
      times = All-same (λ s. unsigned_abs s ≤ 2 ^ 60) k.times [] h.timeless (All-nil (λ s. unsigned_abs s ≤ 2 ^ 60));
      flow = All-same (λ f. f < 2 ^ 63) k.flow [] h.flowless (All-nil (λ f. f < 2 ^ 63));
    }

-- and its only one
head_lines : (k : ReportKernel) → IsHead k → kernel_lines k ≡ kernel_line k ∷ []
head_lines k h = ap (λ l. kernel_line k ∷ (map time_line l ++ map flow_line k.flow)) h.timeless ∙ ap (λ l. kernel_line k ∷ map flow_line l) h.flowless

-- one more time
time_partial : (k : ReportKernel) (s : ℤ) → IsPartial k → length k.times < k.nodes → unsigned_abs s ≤ 2 ^ 60 → IsPartial (with_time k s)
time_partial k s p h small =
    let o = p.order in
    let n : length (k.times ++ s ∷ []) ≡ length k.times + 1 = simp length-append in
    record {
      named = p.named;
      nodes = p.nodes;
      edges = p.edges;
      bits = p.bits;
      times_within = omega arith;
      flow_within = p.flow_within;
      order = λ c. absurd (let e = o c in omega arith);
      times = All-push (λ s. unsigned_abs s ≤ 2 ^ 60) k.times s p.times small;
      flow = p.flow;
    }

-- before the last time there is no flow
no_flow : (k : ReportKernel) (fs : List ℕ) → IsPartial k → length k.times < k.nodes → k.flow ≡ fs → k.flow ≡ []
no_flow k [] p h e = e
no_flow k (f ∷ fs) p h e =
    let n = ap length e in
    let full : length k.times ≡ k.nodes = p.order (omega arith) in
    absurd (omega arith)

-- one more time adds its line
time_lines : (k : ReportKernel) (s : ℤ) → IsPartial k → length k.times < k.nodes → kernel_lines (with_time k s) ≡ kernel_lines k ++ time_line s ∷ []
time_lines k s p h =
    let none = no_flow k k.flow p h refl in
    let a : map time_line (k.times ++ s ∷ []) ++ map flow_line k.flow ≡ map time_line k.times ++ time_line s ∷ [] =
    ap (λ l. map time_line (k.times ++ s ∷ []) ++ map flow_line l) none ∙ append-nil (map time_line (k.times ++ s ∷ []))
    ∙ map-append time_line k.times (s ∷ []) in
    let b : map time_line k.times ++ map flow_line k.flow ≡ map time_line k.times =
    ap (λ l. map time_line k.times ++ map flow_line l) none ∙ append-nil (map time_line k.times) in
    ap (λ l. kernel_line k ∷ l) (a ∙ ap (λ l. l ++ time_line s ∷ []) (sym b))

-- one more flow
flow_partial : (k : ReportKernel) (f : ℕ) → IsOpen k → k.nodes ≤ length k.times → f < 2 ^ 63 → IsPartial (with_flow k f)
flow_partial k f o h small =
    let p = o.part in
    let left = o.left in
    let a = p.times_within in
    let n : length (k.flow ++ f ∷ []) ≡ length k.flow + 1 = simp length-append in
    record {
      named = p.named;
      nodes = p.nodes;
      edges = p.edges;
      bits = p.bits;
      times_within = p.times_within;
      flow_within = omega arith;
      order = λ c. omega arith;
      times = p.times;
      flow = All-push (λ f. f < 2 ^ 63) k.flow f p.flow small;
    }

-- one more flow adds its line
flow_lines : (k : ReportKernel) (f : ℕ) → kernel_lines (with_flow k f) ≡ kernel_lines k ++ flow_line f ∷ []
flow_lines k f =
    ap (λ l. kernel_line k ∷ l) (ap (λ l. map time_line k.times ++ l) (map-append flow_line k.flow (f ∷ []))
    ∙ sym (append_assoc (map time_line k.times) (map flow_line k.flow) (flow_line f ∷ [])))

-- each line that leads on adds itself to the lines so far
pub next_grows : (s : Stage) (line : List ℕ) (t : Stage) → IsStage s → Next s line t → Grows s line t
next_grows Start line t is n =
    subst (λ u. Grows Start line u) (sym n.1) (record { legal = All-nil IsKernelPart; lines = ap (λ l. l ∷ []) (sym n.0) })
next_grows (Between ks) line t is (inl n) =
    subst (λ u. Grows (Between ks) line u) (sym n.1) (record { legal = is; lines = ap (λ l. first_line ∷ (flat_map kernel_lines ks ++ l ∷ [])) (sym n.0) })
next_grows (Between ks) line t is (inr n) =
    let k = n.kernel in
    subst (λ u. Grows (Between ks) line u) (sym n.new_is) (record {
      legal = settled_stage ks k is (head_partial k n.head);
      lines =
          settled_lines ks k ∙ ap (λ l. first_line ∷ (flat_map kernel_lines ks ++ l)) (head_lines k n.head)
          ∙ ap (λ l. first_line ∷ (flat_map kernel_lines ks ++ l ∷ [])) (sym n.line_is);
    })
next_grows (Within ks k) line t is (inl n) =
    let s = n.time in
    subst (λ u. Grows (Within ks k) line u) (sym n.new_is) (record {
      legal = settled_stage ks (with_time k s) is.0 (time_partial k s is.1.part n.missing n.says.small);
      lines = settled_lines ks (with_time k s) ∙ ap (λ l. first_line ∷ (flat_map kernel_lines ks ++ l)) (time_lines k s is.1.part n.missing)
          ∙ ap (λ l. first_line ∷ l) (sym (append_assoc (flat_map kernel_lines ks) (kernel_lines k) (time_line s ∷ [])))
          ∙ ap (λ l. (first_line ∷ (flat_map kernel_lines ks ++ kernel_lines k)) ++ l ∷ []) (sym n.says.line_is);
    })
next_grows (Within ks k) line t is (inr n) =
    let f = n.flow in
    subst (λ u. Grows (Within ks k) line u) (sym n.new_is) (record {
      legal = settled_stage ks (with_flow k f) is.0 (flow_partial k f is.1 n.timed n.small);
      lines = settled_lines ks (with_flow k f) ∙ ap (λ l. first_line ∷ (flat_map kernel_lines ks ++ l)) (flow_lines k f)
          ∙ ap (λ l. first_line ∷ l) (sym (append_assoc (flat_map kernel_lines ks) (kernel_lines k) (flow_line f ∷ [])))
          ∙ ap (λ l. (first_line ∷ (flat_map kernel_lines ks ++ kernel_lines k)) ++ l ∷ []) (sym n.line_is);
    })
next_grows (Done ks) line t is n = absurd n
