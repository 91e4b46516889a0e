-- The pieces of a printed text are the report's text.
use Rattle.std.proofs.Common.{◌≡◌, ◌∙◌, ℕ, List, [], ◌∷◌, ◌++◌, refl, sym, ap, map}
use Rattle.std.specs.Prelude.{codes}
use Rattle.std.specs.List.{flat_map}
use Rattle.std.proofs.lemmas.List.Concat.{flat_map-append}
use Rattle.schedule_report.specs.declared.report.Report.{Report}
use Rattle.schedule_report.specs.declared.report.ReportKernel.{ReportKernel}
use Rattle.schedule_report.specs.Reports.{kernel_line, kernel_lines, time_line, flow_line, text_of, report_text}
use Rattle.schedule_report.specs.Printed.{ended, time_text, flow_text, kernel_text}

-- the text of one line for each item
text_each : {X : Type 0} (f g : X → List ℕ) → ((x : X) → g x ≡ ended (f x)) → (xs : List X) → text_of (map f xs) ≡ flat_map g xs
text_each f g same [] = refl
text_each f g same (x ∷ xs) = ap (λ l. ended (f x) ++ l) (text_each f g same xs) ∙ ap (λ l. l ++ flat_map g xs) (sym (same x))

-- the text of the lines of a kernel
text_kernel : (k : ReportKernel) → text_of (kernel_lines k) ≡ kernel_text k
text_kernel k =
    let a : text_of (map time_line k.times) ≡ flat_map time_text k.times = text_each time_line time_text (λ x. refl) k.times in
    let b : text_of (map flow_line k.flow) ≡ flat_map flow_text k.flow = text_each flow_line flow_text (λ x. refl) k.flow in
    let c : text_of (map time_line k.times ++ map flow_line k.flow) ≡ flat_map time_text k.times ++ flat_map flow_text k.flow =
    flat_map-append ended (map time_line k.times) (map flow_line k.flow) ∙ ap (λ l. l ++ text_of (map flow_line k.flow)) a
    ∙ ap (λ l. flat_map time_text k.times ++ l) b in
    ap (λ l. ended (kernel_line k) ++ l) c

-- and of those of kernels
text_kernels : (ks : List ReportKernel) → text_of (flat_map kernel_lines ks) ≡ flat_map kernel_text ks
text_kernels [] = refl
text_kernels (k ∷ ks) =
    flat_map-append ended (kernel_lines k) (flat_map kernel_lines ks) ∙ ap (λ l. l ++ text_of (flat_map kernel_lines ks)) (text_kernel k)
    ∙ ap (λ l. kernel_text k ++ l) (text_kernels ks)

-- the first line, the kernels' pieces and the last line are the report's text
pub printed_whole : (r : Report) → report_text r ≡ codes "maxjc-report 1\n" ++ flat_map kernel_text r.kernels ++ codes "end\n"
printed_whole r =
    ap (λ l. codes "maxjc-report 1\n" ++ l)
    (flat_map-append ended (flat_map kernel_lines r.kernels) (codes "end" ∷ []) ∙ ap (λ l. l ++ codes "end\n") (text_kernels r.kernels))
