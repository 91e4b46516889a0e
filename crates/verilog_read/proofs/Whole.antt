-- From the steps of a reader to what it answers.
use Rattle.std.proofs.Common.{◌≡◌, ◌∙◌, ℕ, List, [], ◌∷◌, length, map, Some, None, refl, sym, ap, subst, ◌⊎◌, inl, inr}
use Rattle.std.specs.Prelude.{slice_index_or}
use Rattle.grammar.specs.Grammar.{Derives, FirstBad}
use Rattle.rtl_ir.specs.declared.design.Module.{Module}
use Rattle.rtl_ir.specs.declared.design.Design.{Design}
use Rattle.rtl_ir.specs.declared.error.RtlError.{RtlError}
use Rattle.rtl_ir.specs.declared.error.RtlError.TheVariants as rules
use Rattle.rtl_ir.specs.Formed.{IsFormed}
use Rattle.rtl_ir.specs.Flat.{top_of}
use Rattle.rtl_ir.specs.Ports.{Shape, ports_of}
use Rattle.rtl_ir.specs.Rules.{IsAccepted}
use Rattle.rtl_text.specs.Tokens.{IsTokens}
use Rattle.rtl_text.specs.Tree.{ModuleTree}
use Rattle.rtl_text.specs.Productions.{Is, Choice, File}
use Rattle.rtl_check.proofs.Sound.{accepted_free}
use Rattle.top_ports.specs.Shapes.{IsTop, IsFirstWrong}
use Rattle.verilog_syntax.specs.Scanning.{PlacedToken, placed_view}
use Rattle.verilog_syntax.specs.Parsed.{IsFile, tokens_of}
use Rattle.verilog_syntax.specs.declared.token.Placed.{Placed}
use Rattle.rtl_reading.specs.Uses.{unknown_in}
use Rattle.rtl_text.specs.Text.{Pairwise, ModuleIs, TextOf}
use Rattle.rtl_reading.specs.Reads.{IsText, IsNumbered, ReadsAs}
use Rattle.verilog_read.specs.Refused.{IsRuleFault, Refuses, IsReadAs}
use Rattle.verilog_read.specs.Answers.{AreTokens, IsScanFault, AreTrees, IsDesign, IsTreeFault, BreaksRule, CanRun, HasWrongPort}
use Rattle.verilog_read.specs.declared.error.VerilogError.{VerilogError}
use Rattle.verilog_read.specs.declared.error.VerilogError.TheVariants.{NoToken, Syntax, Rtl, PortShape, NoMemory}
use Rattle.text_scan.proofs.Places.{plain}
use Rattle.verilog_read.proofs.Readings.{one_reading, not_read}
use Rattle.verilog_read.proofs.Good.{file_good}
use Rattle.verilog_read.proofs.Said.{modules_are, are_numbered}
use Rattle.verilog_read.proofs.Forms
use Rattle.rtl_reading.specs.Renumbered.{AreRenumbered}
use Rattle.verilog_read.proofs.Unique.{one_design}
use Rattle.verilog_read.proofs.OneText.{same_up_to_numbers}

some_is : {x y : Module} → Some x ≡ Some y → x ≡ y
some_is e = cc

views : (ts : List Placed) → map (λ (t : PlacedToken). t.token) (map placed_view ts) ≡ tokens_of ts
views [] = refl
views (t ∷ ts) = ap (λ l. (placed_view t).token ∷ l) (views ts)

places : (ts : List Placed) → map (λ (t : PlacedToken). t.place) (map placed_view ts) ≡ map (λ (t : Placed). t.at) ts
places [] = refl
places (t ∷ ts) = ap (λ l. t.at ∷ l) (places ts)

pub scan_refused : {bytes : List ℕ} {e : VerilogError} → IsScanFault bytes e → (e ≡ NoMemory) ⊎ Refuses bytes e
scan_refused IsScanFault.memory = inl refl
scan_refused (IsScanFault.stuck place h) = inr h

pub scan_excluded : {bytes : List ℕ} {e : VerilogError} (d : Design) → IsReadAs bytes d → IsScanFault bytes e → e ≡ NoMemory
scan_excluded d r IsScanFault.memory = refl
scan_excluded d r (IsScanFault.stuck place h) = absurd (not_read r.reads.is.read h)

-- the text has these tokens
module _ (bytes : List ℕ) (tokens : List Placed) (at : AreTokens bytes tokens) where
  are : IsTokens bytes (tokens_of tokens)
  are = subst (IsTokens bytes) (views tokens) (plain at)

  text_of : (trees : List ModuleTree) → AreTrees tokens trees → IsText bytes trees
  text_of trees a = record { tokens = tokens_of tokens; read = are; derived = a.derived }

  one_tree : (trees others : List ModuleTree) → AreTrees tokens trees → IsText bytes others → others ≡ trees
  one_tree trees others a t = a.only others (subst (λ l. Derives Is Choice (File others ∷ []) l) (one_reading are t.read) t.derived)

  pub reads : (d : Design) → IsDesign tokens d → ReadsAs bytes d
  reads d h = record { trees = h.trees; is = text_of h.trees h.are; known = h.known; modules = modules_are h.trees d h.said; numbered = are_numbered h.trees d h.said }

  pub formed : (d : Design) → IsDesign tokens d → IsFormed d.modules
  formed d h = Forms.formed h.trees d.modules h.said (file_good are h.are.derived) h.known

  pub tree_refused : {size : ℕ} {e : VerilogError} → size ≡ length bytes → IsTreeFault tokens size e → (e ≡ NoMemory) ⊎ Refuses bytes e
  tree_refused is IsTreeFault.memory = inl refl
  tree_refused {size = size} is (IsTreeFault.syntax_at place b) = inr (record {
    tokens = map placed_view tokens;
    read = at;
    token = b.token;
    bad = subst (λ l. FirstBad Is Choice IsFile l b.token) (sym (views tokens)) b.bad;
    at = b.place ∙ ap (λ l. slice_index_or l b.token size) (sym (places tokens)) ∙ ap (λ n. slice_index_or (map (λ (t : PlacedToken). t.place) (map placed_view tokens)) b.token n) is;
  })
  tree_refused is (IsTreeFault.unknown name trees a u) = inr (record { trees = trees; is = text_of trees a; unknown = u })

  pub tree_excluded : {size : ℕ} {e : VerilogError} (d : Design) → IsReadAs bytes d → IsTreeFault tokens size e → e ≡ NoMemory
  tree_excluded d r IsTreeFault.memory = refl
  tree_excluded d r (IsTreeFault.syntax_at place b) =
      let t = r.reads.is in
      absurd (b.bad.none (File r.reads.trees) (r.reads.trees, refl) (subst (λ l. Derives Is Choice (File r.reads.trees ∷ []) l) (one_reading are t.read) t.derived))
  tree_excluded d r (IsTreeFault.unknown name trees a u) =
      let same : r.reads.trees ≡ trees = one_tree trees r.reads.trees a r.reads.is in
      let none : unknown_in trees ≡ None = ap unknown_in (sym same) ∙ r.reads.known in
      let f : Some name ≡ None = sym u ∙ none in absurd (cc)

  pub rule_refused : {e : VerilogError} (d : Design) → IsDesign tokens d → BreaksRule d e → (e ≡ NoMemory) ⊎ Refuses bytes e
  rule_refused d h BreaksRule.memory = inl refl
  rule_refused d h (BreaksRule.rule (rules.SameName name) f) = inr (record { design = d; reads = reads d h; fault = f })
  rule_refused d h (BreaksRule.rule (rules.TwoDrivers name) f) = inr (record { design = d; reads = reads d h; fault = f })
  rule_refused d h (BreaksRule.rule (rules.NoDriver name) f) = inr (record { design = d; reads = reads d h; fault = f })
  rule_refused d h (BreaksRule.rule (rules.Width name) f) = inr (record { design = d; reads = reads d h; fault = f })
  rule_refused d h (BreaksRule.rule (rules.CombLoop names) f) = inr (record { design = d; reads = reads d h; fault = f })
  rule_refused d h (BreaksRule.rule (rules.Unknown name) f) = absurd f.fault
  rule_refused d h (BreaksRule.rule rules.NoMemory f) = absurd f.fault

  pub port_refused : {e : VerilogError} (d : Design) → IsDesign tokens d → IsAccepted d → HasWrongPort d e → (e ≡ NoMemory) ⊎ Refuses bytes e
  port_refused d h a HasWrongPort.memory = inl refl
  port_refused d h a (HasWrongPort.port top name is w) = inr (record { design = d; reads = reads d h; accepted = a; top = top; is_top = is; wrong = w })

  pub read_as : (d : Design) → IsDesign tokens d → IsAccepted d → CanRun d → IsReadAs bytes d
  read_as d h a r = record { reads = reads d h; accepted = a; top = r.top; is_top = r.is_top; shape = r.shape; is_run = r.is_run }

  -- one text has one design that is accepted
  same_design : (trees : List ModuleTree) → AreTrees tokens trees → (d other : Design) → ReadsAs bytes d → ReadsAs bytes other → IsAccepted d → other ≡ d
  same_design trees a d other r s accepted =
      let p = one_tree trees r.trees a r.is in
      let q = one_tree trees s.trees a s.is in
      one_design trees d other (subst (λ l. Pairwise (ModuleIs d) l d.modules) p r.modules) (subst (λ l. Pairwise IsNumbered l d.modules) p r.numbered)
      (subst (λ l. Pairwise (ModuleIs other) l other.modules) q s.modules) (subst (λ l. Pairwise IsNumbered l other.modules) q s.numbered) (ap unknown_in (sym p) ∙ r.known) accepted

  -- and so the design that is read is the only one
  pub only_design : (d : Design) → IsDesign tokens d → IsAccepted d → (other : Design) → ReadsAs bytes other → other ≡ d
  only_design d h a other r = same_design h.trees h.are d other (reads d h) r a

  -- an accepted design of which this is a text is the one that is read, up to the numbers of its nets
  pub up_to_numbers : (r : Design) → IsDesign tokens r → IsAccepted r → (d : Design) → IsAccepted d → TextOf bytes d → AreRenumbered d r
  up_to_numbers r h b d a t =
      let p = one_tree h.trees t.trees h.are (record { tokens = t.tokens; read = t.read; derived = t.derived }) in
      same_up_to_numbers h.trees d r (subst (λ l. Pairwise (ModuleIs d) l d.modules) p t.modules) (modules_are h.trees r h.said) (are_numbered h.trees r h.said) a b h.known

  pub rule_excluded : {e : VerilogError} (d : Design) → IsDesign tokens d → (other : Design) → IsReadAs bytes other → BreaksRule d e → e ≡ NoMemory
  rule_excluded d h other r BreaksRule.memory = refl
  rule_excluded d h other r (BreaksRule.rule x f) =
      let same = same_design h.trees h.are other d r.reads (reads d h) r.accepted in
      absurd (accepted_free d (subst IsAccepted (sym same) r.accepted) x f)

  module _ (right : (m : Module) (s : Shape) → IsTop m s → (name : List ℕ) → IsFirstWrong (ports_of m) name → ⊥) where
    pub port_excluded : {e : VerilogError} (d : Design) → IsDesign tokens d → (other : Design) → IsReadAs bytes other → HasWrongPort d e → e ≡ NoMemory
    port_excluded d h other r HasWrongPort.memory = refl
    port_excluded d h other r (HasWrongPort.port top name is w) =
        let same = same_design h.trees h.are other d r.reads (reads d h) r.accepted in
        let top_is : top ≡ r.top = some_is (sym is ∙ ap top_of same ∙ r.is_top) in
        absurd (right r.top r.shape r.is_run name (subst (λ m. IsFirstWrong (ports_of m) name) top_is w))

    rule_absurd : (d : Design) → IsDesign tokens d → IsReadAs bytes d → (e : RtlError) → IsRuleFault bytes e → ⊥
    rule_absurd d h r e f =
        let same = same_design h.trees h.are d f.design r.reads f.reads r.accepted in
        accepted_free f.design (subst IsAccepted (sym same) r.accepted) e f.fault

    pub excluded : (d : Design) → IsDesign tokens d → IsReadAs bytes d → (e : VerilogError) → Refuses bytes e → ⊥
    excluded d h r (NoToken place) f = not_read r.reads.is.read f
    excluded d h r (Syntax place) f =
        let t = r.reads.is in
        let trees = r.reads.trees in
        f.bad.none (File trees) (trees, refl) (subst (λ l. Derives Is Choice (File trees ∷ []) l) (one_reading (plain f.read) t.read) t.derived)
    excluded d h r (Rtl (rules.Unknown name)) f =
        let same : f.trees ≡ r.reads.trees = one_tree h.trees f.trees h.are f.is ∙ sym (one_tree h.trees r.reads.trees h.are r.reads.is) in
        let g : Some name ≡ None = sym f.unknown ∙ ap unknown_in same ∙ r.reads.known in absurd (cc)
    excluded d h r (Rtl (rules.SameName name)) f = rule_absurd d h r (rules.SameName name) f
    excluded d h r (Rtl (rules.TwoDrivers name)) f = rule_absurd d h r (rules.TwoDrivers name) f
    excluded d h r (Rtl (rules.NoDriver name)) f = rule_absurd d h r (rules.NoDriver name) f
    excluded d h r (Rtl (rules.Width name)) f = rule_absurd d h r (rules.Width name) f
    excluded d h r (Rtl (rules.CombLoop names)) f = rule_absurd d h r (rules.CombLoop names) f
    excluded d h r (Rtl rules.NoMemory) f = f
    excluded d h r (PortShape name) f =
        let same = same_design h.trees h.are d f.design r.reads f.reads r.accepted in
        let top_is : f.top ≡ r.top = some_is (sym f.is_top ∙ ap top_of same ∙ r.is_top) in
        right r.top r.shape r.is_run name (subst (λ m. IsFirstWrong (ports_of m) name) top_is f.wrong)
    excluded d h r NoMemory f = f
