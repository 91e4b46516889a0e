-- Reports on schedules, and the one text of each: format 1.
use Rattle.std.specs.Prelude.{
  ◌≡◌,
  ℕ,
  ◌*◌,
  ◌^◌,
  ◌<◌,
  ◌≤◌,
  List,
  [],
  ◌∷◌,
  ◌++◌,
  map,
  length,
  codes,
  unsigned_abs,
  ℤ,
  All,
  IsTrue,
}
use Rattle.std.specs.List.{flat_map}
use Rattle.std.specs.Fmt.{decimal, signed_decimal}
use Rattle.kernel_calls.specs.Laws.{is_port_name}
use Rattle.schedule_report.specs.declared.report.Report.{Report}
use Rattle.schedule_report.specs.declared.report.ReportKernel.{ReportKernel}

-- the part of a kernel has a time for each of its nodes, a flow for each of the two arcs of each of
-- its edges, a name of letters, digits and `_` that begins with a letter, and numbers in range
pub record IsKernelPart (k : ReportKernel) : Type 0 where
  pub named : IsTrue (is_port_name k.name)
  pub nodes : k.nodes < 2 ^ 32
  pub edges : k.edges < 2 ^ 32
  pub bits : k.bits < 2 ^ 63
  pub counted : length k.times ≡ k.nodes
  pub carried : length k.flow ≡ 2 * k.edges
  pub times : All (λ s. unsigned_abs s ≤ 2 ^ 60) k.times
  pub flow : All (λ f. f < 2 ^ 63) k.flow

-- the parts of a report's kernels are such
abbrev pub IsReport : Report → Type 0
IsReport r = All IsKernelPart r.kernels

-- ---- the text, line by line, each line without its end

-- `kernel NAME nodes N edges E bits B`
abbrev pub kernel_line : ReportKernel → List ℕ
kernel_line k =
    codes "kernel " ++ k.name
    ++ codes " nodes " ++ decimal k.nodes
    ++ codes " edges " ++ decimal k.edges
    ++ codes " bits " ++ decimal k.bits

-- `time S`
abbrev pub time_line : ℤ → List ℕ
time_line s = codes "time " ++ signed_decimal s

-- `flow F`
abbrev pub flow_line : ℕ → List ℕ
flow_line f = codes "flow " ++ decimal f

-- a kernel's line, its times in node order, and its flows in arc order
abbrev pub kernel_lines : ReportKernel → List (List ℕ)
kernel_lines k = kernel_line k ∷ (map time_line k.times ++ map flow_line k.flow)

-- the first line, those of all kernels in project order, and the last line
abbrev pub report_lines : Report → List (List ℕ)
report_lines r = codes "maxjc-report 1" ∷ (flat_map kernel_lines r.kernels ++ codes "end" ∷ [])

-- each line is ended by a line feed
abbrev pub text_of : List (List ℕ) → List ℕ
text_of lines = flat_map (λ (line : List ℕ). line ++ 10 ∷ []) lines

abbrev pub report_text : Report → List ℕ
report_text r = text_of (report_lines r)
