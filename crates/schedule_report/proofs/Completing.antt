-- Some report goes on with the lines of each stage: the times and flows that are left are zeros.
use Rattle.std.proofs.Common.{
  ◌≡◌,
  ◌∙◌,
  ◌⊎◌,
  ℕ,
  ℤ,
  pos,
  ◌-◌,
  ◌*◌,
  ◌<◌,
  ◌≤◌,
  ◌^◌,
  List,
  [],
  ◌∷◌,
  ◌++◌,
  map,
  length,
  refl,
  sym,
  ap,
  inl,
  inr,
  arith,
  append_assoc,
  length-append,
}
use Rattle.std.specs.Prelude.{codes, unsigned_abs}
use Rattle.std.specs.List.{flat_map}
use Rattle.std.proofs.Math.ListN.{replicate}
use Rattle.std.proofs.lemmas.List.{append-nil, map-append, length-replicate}
use Rattle.std.proofs.lemmas.List.Concat.{flat_map-append}
use Rattle.std.proofs.lemmas.List.Elements.{All-nil, All-push, All-append, All-replicate}
use Rattle.schedule_report.specs.declared.report.ReportKernel.{ReportKernel}
use Rattle.schedule_report.specs.declared.stage.Stage.{Stage}
use Rattle.schedule_report.specs.declared.stage.Stage.TheVariants.{Start, Between, Within, Done}
use Rattle.schedule_report.specs.Reading.{Begins}
use Rattle.schedule_report.specs.Reports.{IsKernelPart, kernel_line, kernel_lines, time_line, flow_line, report_lines}
use Rattle.schedule_report.specs.Stages.{first_line, IsPartial, IsStage, lines_of}

-- a zero for each time that is left
abbrev times_left : ReportKernel → List ℤ
times_left k = replicate (k.nodes - length k.times) (pos 0)

-- and for each flow
abbrev flow_left : ReportKernel → List ℕ
flow_left k = replicate (2 * k.edges - length k.flow) 0

-- the kernel with zeros for what is left
abbrev filled : ReportKernel → ReportKernel
filled k = record k { times = k.times ++ times_left k; flow = k.flow ++ flow_left k }

-- the filled kernel is whole
filled_part : (k : ReportKernel) → IsPartial k → IsKernelPart (filled k)
filled_part k p =
    let a = p.times_within in
    let b = p.flow_within in
    record {
      named = p.named;
      nodes = p.nodes;
      edges = p.edges;
      bits = p.bits;
      counted =
          length-append k.times (times_left k) ∙ (let n : length (times_left k) ≡ k.nodes - length k.times =
          length-replicate (k.nodes - length k.times) (pos 0) in omega arith);
      carried =
          length-append k.flow (flow_left k) ∙ (let n : length (flow_left k) ≡ 2 * k.edges - length k.flow =
          length-replicate (2 * k.edges - length k.flow) 0 in omega arith);
      times =
          All-append (λ s. unsigned_abs s ≤ 2 ^ 60) k.times (times_left k) p.times
          (All-replicate (λ s. unsigned_abs s ≤ 2 ^ 60) (k.nodes - length k.times) (pos 0) (omega arith));
      flow = All-append (λ f. f < 2 ^ 63) k.flow (flow_left k) p.flow (All-replicate (λ f. f < 2 ^ 63) (2 * k.edges - length k.flow) 0 (omega arith));
    }

-- what the zeros add to lists of lines: they come last, since flows come behind all of the times
joined : {A B L : Type 0} (f : A → L) (g : B → L) (xs ys : List A) (us vs : List B) → (ys ≡ []) ⊎ (us ≡ [])
    → map f (xs ++ ys) ++ map g (us ++ vs) ≡ (map f xs ++ map g us) ++ (map f ys ++ map g vs)
joined f g xs ys us vs (inl e) =
    ap (λ l. map f (xs ++ l) ++ map g (us ++ vs)) e ∙ ap (λ l. map f l ++ map g (us ++ vs)) (append-nil xs) ∙ ap (λ l. map f xs ++ l) (map-append g us vs)
    ∙ sym (append_assoc (map f xs) (map g us) (map g vs))
    ∙ ap (λ l. (map f xs ++ map g us) ++ (map f l ++ map g vs)) (sym e)
joined f g xs ys us vs (inr e) =
    ap (λ l. map f (xs ++ ys) ++ map g (l ++ vs)) e ∙ ap (λ l. l ++ map g vs) (map-append f xs ys) ∙ append_assoc (map f xs) (map f ys) (map g vs)
    ∙ ap (λ l. l ++ (map f ys ++ map g vs)) (sym (append-nil (map f xs))) ∙ ap (λ l. (map f xs ++ map g l) ++ (map f ys ++ map g vs)) (sym e)

-- its lines begin with those so far
filled_lines : (k : ReportKernel) → IsPartial k → kernel_lines (filled k) ≡ kernel_lines k ++ (map time_line (times_left k) ++ map flow_line (flow_left k))
filled_lines k p = ap (λ l. kernel_line k ∷ l) (joined time_line flow_line k.times (times_left k) k.flow (flow_left k) (ordered k.flow refl))
  where
    ordered : (fs : List ℕ) → k.flow ≡ fs → (times_left k ≡ []) ⊎ (k.flow ≡ [])
    ordered [] e = inr e
    ordered (f ∷ fs) e =
        let n = ap length e in
        let o = p.order in
        let full : length k.times ≡ k.nodes = o (omega arith) in
        let z : k.nodes - length k.times ≡ 0 = omega arith in
        inl (ap (λ m. replicate m (pos 0)) z)

-- some report has the lines of a legal stage first
pub completed : (s : Stage) → IsStage s → Begins (lines_of s)
completed Start is = record { report = record { kernels = [] }; is = All-nil IsKernelPart; rest = report_lines (record { kernels = [] }); lines_are = refl }
completed (Between ks) is = record { report = record { kernels = ks }; is = is; rest = codes "end" ∷ []; lines_are = refl }
completed (Within ks k) is =
    let p = is.1.part in
    let left = map time_line (times_left k) ++ map flow_line (flow_left k) in
    let e : flat_map kernel_lines (ks ++ filled k ∷ []) ≡ (flat_map kernel_lines ks ++ kernel_lines k) ++ left =
    flat_map-append kernel_lines ks (filled k ∷ []) ∙ ap (λ l. flat_map kernel_lines ks ++ l) (append-nil (kernel_lines (filled k)) ∙ filled_lines k p)
    ∙ sym (append_assoc (flat_map kernel_lines ks) (kernel_lines k) left) in
    record {
      report = record { kernels = ks ++ filled k ∷ [] };
      is = All-push IsKernelPart ks (filled k) is.0 (filled_part k p);
      rest = left ++ codes "end" ∷ [];
      lines_are =
          ap (λ l. first_line ∷ (l ++ codes "end" ∷ [])) e ∙ ap (λ l. first_line ∷ l)
          (append_assoc (flat_map kernel_lines ks ++ kernel_lines k) left (codes "end" ∷ []));
    }
completed (Done ks) is = record { report = record { kernels = ks }; is = is; rest = []; lines_are = sym (append-nil (lines_of (Done ks))) }
