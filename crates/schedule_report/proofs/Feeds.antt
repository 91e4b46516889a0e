-- Lines have no line feed, so a text has one list of lines.
use Rattle.std.proofs.Common.{
  ◌≡◌,
  ◌∙◌,
  ℕ,
  ℤ,
  pos,
  negsuc,
  ◌<◌,
  ◌≤◌,
  ◌^◌,
  ◌==◌,
  not,
  Bool,
  true,
  false,
  List,
  [],
  ◌∷◌,
  ◌++◌,
  map,
  suc,
  refl,
  sym,
  ap,
  inl,
  inr,
  arith,
  append_assoc,
}
use Rattle.std.specs.Prelude.{codes, All, Contains, unsigned_abs}
use Rattle.std.specs.List.{list_all, flat_map}
use Rattle.std.specs.Fmt.{decimal}
use Rattle.std.proofs.lemmas.List.{append-nil}
use Rattle.std.proofs.lemmas.List.Concat.{flat_map-append}
use Rattle.std.proofs.lemmas.List.Elements.{All-head, All-tail}
use Rattle.std.proofs.lemmas.List.Folds.{list_all-append}
use Rattle.text_scan.specs.Classes.{is_in}
use Rattle.text_scan.specs.declared.bytes.ByteClass.TheVariants.{Digit, Word, NotLineFeed}
use Rattle.text_scan.proofs.ByteTests.{and_true, both_true, clash, eq_same, not_all, true_or_false}
use Rattle.schedule_report.specs.declared.report.Report.{Report}
use Rattle.schedule_report.specs.declared.report.ReportKernel.{ReportKernel}
use Rattle.schedule_report.specs.Reports.{IsKernelPart, IsReport, kernel_line, kernel_lines, time_line, flow_line, report_lines, text_of}
use Rattle.schedule_report.specs.Printed.{ended}
use Rattle.schedule_report.proofs.FieldLemmas.{name_word}
use Rattle.schedule_report.proofs.Fronts.{front_same, decimal_digits}

-- no byte of the line is a line feed
abbrev pub IsPlain : List ℕ → Type 0
IsPlain line = list_all (is_in NotLineFeed) line ≡ true

abbrev pub ArePlain : List (List ℕ) → Type 0
ArePlain [] = Unit {0}
ArePlain (line ∷ lines) = IsPlain line × ArePlain lines

-- two plain pieces are one
pub plain_append : (a b : List ℕ) → IsPlain a → IsPlain b → IsPlain (a ++ b)
plain_append a b p q = list_all-append (is_in NotLineFeed) a b ∙ both_true _ _ p q

-- and so are lists of plain lines
pub plain_lines : (a b : List (List ℕ)) → ArePlain a → ArePlain b → ArePlain (a ++ b)
plain_lines [] b p q = q
plain_lines (x ∷ a) b p q = (p.0, plain_lines a b p.1 q)

-- a class without the line feed
plain_in : (p : ℕ → Bool) → p 10 ≡ false → (xs : List ℕ) → list_all p xs ≡ true → IsPlain xs
plain_in p none [] e = refl
plain_in p none (x ∷ xs) e =
    let (a, b) = and_true (p x) _ e in
    both_true (is_in NotLineFeed x) _ (elim (true_or_false (x == 10)) [
      | inl same ↦ absurd (clash a (ap p (eq_same x 10 same) ∙ none))
      | inr other ↦ ap not other
    ]) (plain_in p none xs b)

-- a number is plain
plain_decimal : (n : ℕ) → n < 2 ^ 64 → IsPlain (decimal n)
plain_decimal n h = plain_in (is_in Digit) refl (decimal n) (decimal_digits n h)

-- a kernel's line is plain
plain_kernel_line : (k : ReportKernel) → IsKernelPart k → IsPlain (kernel_line k)
plain_kernel_line k is =
    let nodes = is.nodes in
    let edges = is.edges in
    let bits = is.bits in
    let name : IsPlain k.name = plain_in (is_in Word) refl k.name (name_word k.name is.named) in
    let a : IsPlain (codes "kernel " ++ k.name) = name in
    let b : IsPlain (codes "kernel " ++ k.name ++ codes " nodes ") = plain_append (codes "kernel " ++ k.name) (codes " nodes ") a refl in
    let c : IsPlain (codes "kernel " ++ k.name ++ codes " nodes " ++ decimal k.nodes) =
    plain_append (codes "kernel " ++ k.name ++ codes " nodes ") (decimal k.nodes) b (plain_decimal k.nodes (omega arith)) in
    let d : IsPlain (codes "kernel " ++ k.name ++ codes " nodes " ++ decimal k.nodes ++ codes " edges ") =
    plain_append (codes "kernel " ++ k.name ++ codes " nodes " ++ decimal k.nodes) (codes " edges ") c refl in
    let e : IsPlain (codes "kernel " ++ k.name ++ codes " nodes " ++ decimal k.nodes ++ codes " edges " ++ decimal k.edges) =
    plain_append (codes "kernel " ++ k.name ++ codes " nodes " ++ decimal k.nodes ++ codes " edges ") (decimal k.edges) d
    (plain_decimal k.edges (omega arith)) in
    let f : IsPlain (codes "kernel " ++ k.name ++ codes " nodes " ++ decimal k.nodes ++ codes " edges " ++ decimal k.edges ++ codes " bits ") =
    plain_append (codes "kernel " ++ k.name ++ codes " nodes " ++ decimal k.nodes ++ codes " edges " ++ decimal k.edges) (codes " bits ") e refl in
    plain_append (codes "kernel " ++ k.name ++ codes " nodes " ++ decimal k.nodes ++ codes " edges " ++ decimal k.edges ++ codes " bits ") (decimal k.bits) f
    (plain_decimal k.bits (omega arith))

-- and that of a time
plain_time : (s : ℤ) → unsigned_abs s ≤ 2 ^ 60 → IsPlain (time_line s)
plain_time (pos n) h = plain_decimal n (omega arith)
plain_time (negsuc n) h = plain_decimal (suc n) (omega arith)

-- and that of a flow
plain_flow : (f : ℕ) → f < 2 ^ 63 → IsPlain (flow_line f)
plain_flow f h = plain_decimal f (omega arith)

-- a line for each item, each plain
plain_map : {X : Type 0} (P : X → Type 0) (f : X → List ℕ) → ((x : X) → P x → IsPlain (f x)) → (xs : List X) → All P xs → ArePlain (map f xs)
plain_map P f each [] all = tt
plain_map P f each (x ∷ xs) all = (each x (All-head P x xs all), plain_map P f each xs (All-tail P x xs all))

-- all lines of a kernel are plain
plain_kernel : (k : ReportKernel) → IsKernelPart k → ArePlain (kernel_lines k)
plain_kernel k is = (
  plain_kernel_line k is,
  plain_lines (map time_line k.times) (map flow_line k.flow) (plain_map (λ s. unsigned_abs s ≤ 2 ^ 60) time_line plain_time k.times is.times)
      (plain_map (λ f. f < 2 ^ 63) flow_line plain_flow k.flow is.flow),
)

-- and those of kernels
plain_kernels : (ks : List ReportKernel) → All IsKernelPart ks → ArePlain (flat_map kernel_lines ks)
plain_kernels [] all = tt
plain_kernels (k ∷ ks) all =
    plain_lines (kernel_lines k) (flat_map kernel_lines ks) (plain_kernel k (All-head IsKernelPart k ks all))
    (plain_kernels ks (All-tail IsKernelPart k ks all))

-- no line of a report has a line feed
pub plain_report : (r : Report) → IsReport r → ArePlain (report_lines r)
plain_report r is = (refl, plain_lines (flat_map kernel_lines r.kernels) (codes "end" ∷ []) (plain_kernels r.kernels is) (refl, tt))

-- a line without a line feed is plain
pub plain_from : (line : List ℕ) → (Contains line 10 → ⊥) → IsPlain line
plain_from [] h = refl
plain_from (b ∷ bs) h =
    both_true (is_in NotLineFeed b) _ (elim (true_or_false (b == 10)) [
      | inl same ↦ absurd (h (0, omega arith, eq_same b 10 same))
      | inr other ↦ ap not other
    ]) (plain_from bs (λ c. h (suc c.0, (let l = c.1 in omega arith), c.2)))

-- a plain text has no first line
pub plain_no_line : (text line back : List ℕ) → IsPlain text → text ≡ line ++ 10 ∷ back → ⊥
plain_no_line text line back p e = clash (sym (ap (λ t. list_all (is_in NotLineFeed) t) e) ∙ p) (not_all (is_in NotLineFeed) line 10 back refl)

-- a text has one first line
pub line_same : (a b c d : List ℕ) → IsPlain a → IsPlain b → a ++ 10 ∷ c ≡ b ++ 10 ∷ d → (a ≡ b) × (c ≡ d)
line_same a b c d p q e =
    let (f, g) = front_same NotLineFeed a b (10 ∷ c) (10 ∷ d) p q refl refl e in
    (f, (let h = g in cc))

-- one more line
pub text_more : (before : List (List ℕ)) (line back : List ℕ) → text_of (before ++ line ∷ []) ++ back ≡ text_of before ++ (line ++ 10 ∷ back)
text_more before line back =
    let e : text_of (before ++ line ∷ []) ≡ text_of before ++ (line ++ 10 ∷ []) =
    flat_map-append ended before (line ∷ []) ∙ ap (λ l. text_of before ++ l) (append-nil (line ++ 10 ∷ [])) in
    ap (λ l. l ++ back) e ∙ append_assoc (text_of before) (line ++ 10 ∷ []) back ∙ ap (λ l. text_of before ++ l) (append_assoc line (10 ∷ []) back)

-- a line with its end is no empty text
no_text : (b t : List ℕ) → [] ≡ b ++ 10 ∷ t → ⊥
no_text [] t e = cc
no_text (x ∷ b) t e = cc

-- the lines of a text begin with the lines that its front is
pub text_splits : (before lines : List (List ℕ)) (here : List ℕ) → ArePlain before → ArePlain lines → text_of lines ≡ text_of before ++ here
    → (more : List (List ℕ)) × (lines ≡ before ++ more) × (text_of more ≡ here)
text_splits [] lines here p q e = (lines, refl, e)
text_splits (b ∷ before) [] here p q e =
    absurd (no_text b (text_of before ++ here) (e ∙ append_assoc (b ++ 10 ∷ []) (text_of before) here ∙ append_assoc b (10 ∷ []) (text_of before ++ here)))
text_splits (b ∷ before) (l ∷ lines) here p q e =
    let whole : l ++ 10 ∷ text_of lines ≡ b ++ 10 ∷ (text_of before ++ here) =
    sym (append_assoc l (10 ∷ []) (text_of lines)) ∙ e ∙ append_assoc (b ++ 10 ∷ []) (text_of before) here
    ∙ append_assoc b (10 ∷ []) (text_of before ++ here) in
    let (same, tail) = line_same l b (text_of lines) (text_of before ++ here) q.0 p.0 whole in
    let (more, f, g) = text_splits before lines here p.1 q.1 tail in
    (more, ap (λ x. x ∷ lines) same ∙ ap (λ ls. b ∷ ls) f, g)
