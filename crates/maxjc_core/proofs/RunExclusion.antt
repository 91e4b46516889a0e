-- What is loaded is loaded once, and has no cause of a refusal.
use Rattle.std.proofs.Common.{◌≡◌, ◌<◌, ℕ, List, [], ◌∷◌, map, Option, Some, Ok, Err, inl, inr, length, arith, refl, sym, subst, ◌∙◌}
use Rattle.mx_base.specs.Files.{Held, Name}
use Rattle.serde_json.specs.Data.{Data}
use Rattle.rtl_ir.specs.declared.design.Design.{Design}
use Rattle.rtl_ir.specs.declared.design.Module.{Module}
use Rattle.word_files.specs.declared.run_file.RunFile.{RunFile}
use Rattle.rtl_ir.specs.declared.interface.Interface.{Interface}
use Rattle.rtl_ir.specs.Interfaces.{shape_of}
use Rattle.word_files.specs.declared.error.RunFileError.TheVariants as run_errors
use Rattle.word_files.specs.RunFiles.{Reads, IsRunFile, Fits}
use Rattle.top_ports.specs.Shapes.{IsTop}
use Rattle.verilog_read.specs.Refused.{IsReadAs}
use Rattle.simulation.specs.declared.plan.Plan.{Plan}
use Rattle.simulation.specs.Plans.{IsPlanOf}
use Rattle.maxjc_core.specs.Command.{RunNames}
use Rattle.maxjc_core.specs.CauseLines.{Cause}
use Rattle.maxjc_core.specs.CompileCauses.{file_limit, IsWithin, IsPast}
use Rattle.maxjc_core.specs.Loading.{text_limit, FitTogether, AreRead, IsLoaded}
use Rattle.maxjc_core.specs.SimulateCauses.{BreaksForm, IsFaulty}
use Rattle.maxjc_core.proofs.Exclusion.{same_bytes}
use Rattle.maxjc_core.proofs.OneShape.{ticks_along, scalars_along, inputs_along, outputs_along, plan_along}
use Rattle.top_ports.proofs.ShapeLists.{one_alone}
use Rattle.maxjc_core.specs.LoadStops.{IsOnlyDesign}
use Rattle.maxjc_core.specs.RunFiles.{IsUnfitFor, IsRunFault, HasNoPlan}
use Rattle.verilog_read.specs.Refused.{Refuses}
use Rattle.verilog_read.specs.declared.error.VerilogError.{VerilogError}
use Rattle.maxjc_core.proofs.RunReading.{refused_so}
use Rattle.maxjc_core.specs.CompileStops.{IfRefused}
use Rattle.maxjc_core.specs.declared.stop.Stop.{Stop}

-- two readings of a run file are one
same_data : (run : List ℕ) (a b : RunFile) (x : Reads run (Ok a)) (y : Reads run (Ok b)) → x.0 ≡ y.0
same_data run a b x y = let e = x.1.1 in let f = y.1.1 in cc

abbrev run_file : List (Name × ℕ) → List (Name × ℕ) → List (Name × Name) → List (Name × Name) → ℕ → ℕ → ℕ → RunFile
run_file t s i o e p f = record { ticks = t; scalars = s; inputs = i; outputs = o; edges = e; pick = p; fill = f }

made_run : (a b : RunFile) → a.ticks ≡ b.ticks → a.scalars ≡ b.scalars → a.inputs ≡ b.inputs → a.outputs ≡ b.outputs → a.edges ≡ b.edges → a.pick ≡ b.pick → a.fill ≡ b.fill → a ≡ b
made_run a b t s i o e p f =
    let same : run_file a.ticks a.scalars a.inputs a.outputs a.edges a.pick a.fill ≡ run_file b.ticks b.scalars b.inputs b.outputs b.edges b.pick b.fill = rw (t, s, i, o, e, p, f) refl in
    same

pub run_once : (run : List ℕ) (a b : RunFile) → Reads run (Ok a) → Reads run (Ok b) → a ≡ b
run_once run a b x y =
    let d = same_data run a b x y in
    let p = x.2 in
    let q = subst (λ (z : Data). IsRunFile z b) (sym d) y.2 in
    made_run a b
    (let e = p.ticks in let f = q.ticks in cc)
    (let e = p.scalars in let f = q.scalars in cc)
    (let e = p.inputs in let f = q.inputs in cc)
    (let e = p.outputs in let f = q.outputs in cc)
    (let e = p.edges in let f = q.edges in cc)
    (let e = p.pick in let f = q.pick in cc)
    (let e = p.fill in let f = q.fill in cc)

cons_once : {A : Type 0} (x y : A) (xs ys : List A) → x ∷ xs ≡ y ∷ ys → xs ≡ ys
cons_once x y xs ys e = cc

head_once : {A : Type 0} (x y : A) (xs ys : List A) → x ∷ xs ≡ y ∷ ys → x ≡ y
head_once x y xs ys e = cc

-- a list of values is told by the values as options
somes_once : (xs ys : List ℕ) → map {B = Option ℕ} (λ x. Some x) xs ≡ map (λ x. Some x) ys → xs ≡ ys
somes_once [] [] e = refl
somes_once [] (y ∷ ys) e = absurd (cc)
somes_once (x ∷ xs) [] e = absurd (cc)
somes_once (x ∷ xs) (y ∷ ys) e =
    let t = somes_once xs ys (cons_once _ _ _ _ e) in
    let h : Some x ≡ Some y = head_once _ _ _ _ e in
    let g : x ≡ y = cc in
    cc

-- pairs are told by their parts
pairs_once : (xs ys : List (Name × ℕ)) → map {B = Option Name} (λ (x : Name
    × ℕ). Some x.0) xs ≡ map (λ (y : Name × ℕ). Some y.0) ys
    → map {B = ℕ} (λ (x : Name × ℕ). x.1) xs ≡ map (λ (y : Name × ℕ). y.1) ys → xs ≡ ys
pairs_once [] [] e f = refl
pairs_once [] (y ∷ ys) e f = absurd (cc)
pairs_once (x ∷ xs) [] e f = absurd (cc)
pairs_once (x ∷ xs) (y ∷ ys) e f =
    let t = pairs_once xs ys (cons_once _ _ _ _ e) (cons_once _ _ _ _ f) in
    let h : Some x.0 ≡ Some y.0 = head_once _ _ _ _ e in
    let g : x.0 ≡ y.0 = cc in
    let k : x.1 ≡ y.1 = head_once _ _ _ _ f in
    let z : x ∷ xs ≡ y ∷ ys = (let same : (x.0, x.1) ∷ xs ≡ (y.0, y.1) ∷ ys = rw (g, k, t) refl in same) in
    z

abbrev plan : List ℕ → List ℕ → List (Name × ℕ) → List (Name × ℕ) → ℕ → ℕ → ℕ → Plan
plan t s i o e k f = record { ticks = t; scalars = s; inputs = i; outputs = o; edges = e; pick = k; fill = f }

pub plan_once : (r : RunFile) (ports others : Interface) → shape_of ports ≡ shape_of others → (p q : Plan) → IsPlanOf r ports p → IsPlanOf r others q → p ≡ q
plan_once r ports others same p q a' b =
    let a = plan_along r ports others same p a' in
    let t : p.ticks ≡ q.ticks = somes_once _ _ (a.ticks ∙ sym b.ticks) in
    let s : p.scalars ≡ q.scalars = somes_once _ _ (a.scalars ∙ sym b.scalars) in
    let i : p.inputs ≡ q.inputs = pairs_once _ _ (a.input_files ∙ sym b.input_files) (a.input_widths ∙ sym b.input_widths) in
    let o : p.outputs ≡ q.outputs = pairs_once _ _ (a.output_files ∙ sym b.output_files) (a.output_widths ∙ sym b.output_widths) in
    let e : p.edges ≡ q.edges = a.edges ∙ sym b.edges in
    let k : p.pick ≡ q.pick = a.pick ∙ sym b.pick in
    let f : p.fill ≡ q.fill = a.fill ∙ sym b.fill in
    let whole : plan p.ticks p.scalars p.inputs p.outputs p.edges p.pick p.fill ≡ plan q.ticks q.scalars q.inputs q.outputs q.edges q.pick q.fill = rw (t, s, i, o, e, k, f) refl in
    whole

-- two designs and runs of texts and run files that are the same are the same
pub record SameFit {text other run file : List ℕ} (a : FitTogether text run) (b : FitTogether other file) : Type 0 where
  pub designs : a.design ≡ b.design
  pub tops : a.is.top ≡ b.is.top
  pub shapes : a.is.shape ≡ b.is.shape
  pub plans : a.plan ≡ b.plan

pub top_once : (text other : List ℕ) (d e : Design) (x : IsReadAs text d) (y : IsReadAs other e) → d ≡ e → x.top ≡ y.top
top_once text other d e x y same =
    let p = x.is_top in
    let q = y.is_top in
    cc

fit_once : (text other run file : List ℕ) → text ≡ other → run ≡ file → (d : Design) → IsOnlyDesign other d → (a : FitTogether text run) (b : FitTogether other file) → SameFit a b
fit_once text other run file same_text same_run d only a b =
    let read = subst (λ (t : List ℕ). IsReadAs t a.design) same_text a.is in
    let designs : a.design ≡ b.design = only a.design read.reads ∙ sym (only b.design b.is.reads) in
    let tops = top_once text other a.design b.design a.is b.is designs in
    let shapes = one_alone b.is.top a.is.shape b.is.shape (subst (λ (m : Module). IsTop m a.is.shape) tops a.is.is_run) b.is.is_run in
    let runs = run_once file a.run_file b.run_file (subst (λ (r : List ℕ). Reads r (Ok a.run_file)) same_run a.says) b.says in
    let ports = a.are ∙ shapes ∙ sym b.are in
    record {
      designs = designs;
      tops = tops;
      shapes = shapes;
      plans = plan_once b.run_file a.ports b.ports ports a.plan b.plan (subst (λ (r : RunFile). IsPlanOf r a.ports a.plan) runs a.planned) b.planned;
    }

no_error : (run : List ℕ) (a : RunFile) (key : List ℕ) → Reads run (Ok a) → Reads run (Err (run_errors.Shape key)) → ⊥
no_error run a key x y =
    let d : x.0 ≡ y.0 = (let e = x.1.1 in let f = y.1.1 in cc) in
    let s = x.2.sound in
    let t = y.2 in
    absurd (cc)

no_text : (run : List ℕ) (a : RunFile) → Reads run (Ok a) → Reads run (Err run_errors.NotJson) → ⊥
no_text run a x y = let e = x.1.1 in let f = y x.1.0 in absurd (cc)

fits_not : (text run : List ℕ) (f : FitTogether text run) (ports : Interface) → shape_of f.ports ≡ shape_of ports → (key : List ℕ) → Fits f.run_file ports (Err (run_errors.Shape key)) → ⊥
fits_not text run f ports same key (inl x) = x.1 (ticks_along f.run_file f.ports ports same f.ticks)
fits_not text run f ports same key (inr (inl x)) = x.2 (scalars_along f.run_file f.ports ports same f.scalars)
fits_not text run f ports same key (inr (inr (inl x))) = x.3 (inputs_along f.run_file f.ports ports same f.inputs)
fits_not text run f ports same key (inr (inr (inr x))) = x.4 (outputs_along f.run_file f.ports ports same f.outputs)

-- a run file that is of its form has no fault
pub run_fits : (run : List ℕ) (a : RunFile) (cause : Cause) → Reads run (Ok a) → IsRunFault run cause → ⊥
run_fits run a cause x (IsRunFault.not_json h) = no_text run a x h
run_fits run a cause x (IsRunFault.shape key h) = no_error run a key x h

-- and one that fits the ports of the text's one design has none there
unfit_apart : (text run : List ℕ) (f : FitTogether text run) (d : Design) → IsOnlyDesign text d
    → (e : Design) (is : IsReadAs text e) (r : RunFile) (ports : Interface) (key : List ℕ)
    → Reads run (Ok r) → shape_of ports ≡ is.shape → Fits r ports (Err (run_errors.Shape key)) → ⊥
unfit_apart text run f d only e is r ports key says are fits =
    let designs : e ≡ f.design = only e is.reads ∙ sym (only f.design f.is.reads) in
    let tops = top_once text text e f.design is f.is designs in
    let shapes = one_alone f.is.top is.shape f.is.shape (subst (λ (m : Module). IsTop m is.shape) tops is.is_run) f.is.is_run in
    let runs = run_once run r f.run_file says f.says in
    fits_not text run f ports (f.are ∙ sym shapes ∙ sym are) key (subst (λ (x : RunFile). Fits x ports (Err (run_errors.Shape key))) runs fits)

-- bytes that fit together break no form, where the text has one design and isn't refused
pub fit_apart : (text run : List ℕ) (cause : Cause) (d : Design) → IsOnlyDesign text d → ((e : VerilogError) → Refuses text e → ⊥) → FitTogether text run → BreaksForm text run cause → ⊥
fit_apart text run cause d only exact f (BreaksForm.of_text e c r is) = exact e r
fit_apart text run cause d only exact f (BreaksForm.no_json e is h) = no_text run f.run_file f.says h
fit_apart text run cause d only exact f (BreaksForm.of_run e key is h) = no_error run f.run_file key f.says h
fit_apart text run cause d only exact f (BreaksForm.unfit e is r ports key says are fits) = unfit_apart text run f d only e is r ports key says are fits

unfit_for : (text run : List ℕ) (f : FitTogether text run) (d : Design) → IsOnlyDesign text d
    → (is : IsReadAs text d) (r : RunFile) → Reads run (Ok r) → (ports : Interface)
    → shape_of ports ≡ is.shape → (cause : Cause) → IsUnfitFor r ports cause → ⊥
unfit_for text run f d only is r says ports are cause (IsUnfitFor.at_key key fits) = unfit_apart text run f d only d is r ports key says are fits

plan_fits : (text run : List ℕ) (f : FitTogether text run) (d : Design) → IsOnlyDesign text d
    → (is : IsReadAs text d) (cause : Cause) → HasNoPlan run is.shape cause → ⊥
plan_fits text run f d only is cause (HasNoPlan.of_form c fault) =
    run_fits run f.run_file cause f.says fault
plan_fits text run f d only is cause (HasNoPlan.unfit r c says u) =
    unfit_for text run f d only is r says u.ports u.are cause u.unfit

-- so the run file is not refused
pub plan_not_refused : (text run : List ℕ) (f : FitTogether text run) (d : Design)
    → IsOnlyDesign text d → (is : IsReadAs text d) (stop : Stop)
    → IfRefused stop (HasNoPlan run is.shape) → IfRefused stop (λ _. ⊥)
plan_not_refused text run f d only is stop h =
    refused_so stop (HasNoPlan run is.shape) (λ _. ⊥) (plan_fits text run f d only is) h

-- the files that are read are read once
pub same_file : {limit : ℕ} (held : Held) (name : Name) (a b : List ℕ) → IsWithin limit held name a → IsWithin limit held name b → a ≡ b
same_file held name a b x y = same_bytes held name a b x.holds y.holds

not_past : (limit : ℕ) (held : Held) (name : Name) (bytes : List ℕ) → IsPast limit held name → IsWithin limit held name bytes → ⊥
not_past limit held name bytes past within =
    let same = same_bytes held name past.bytes bytes past.holds within.holds in
    let large : limit < length bytes = subst (λ (b : List ℕ). limit < length b) same past.past in
    let small = within.within in
    omega arith

pub moved : (names : RunNames) (held : Held) (a b : AreRead names held) → FitTogether a.text a.run → FitTogether b.text b.run
moved names held a b f =
    subst (λ (r : List ℕ). FitTogether b.text r) (same_file held names.run a.run b.run a.run_is b.run_is)
    (subst (λ (t : List ℕ). FitTogether t a.run) (same_file held names.text a.text b.text a.text_is b.text_is) f)

breaks_moved : (names : RunNames) (held : Held) (cause : Cause) (a b : AreRead names held) → BreaksForm a.text a.run cause → BreaksForm b.text b.run cause
breaks_moved names held cause a b f =
    subst (λ (r : List ℕ). BreaksForm b.text r cause) (same_file held names.run a.run b.run a.run_is b.run_is)
    (subst (λ (t : List ℕ). BreaksForm t a.run cause) (same_file held names.text a.text b.text a.text_is b.text_is) f)

-- a cause of files that are read is one of their bytes
pub read_faulty : (names : RunNames) (held : Held) (cause : Cause) (files : AreRead names held) → IsFaulty names held cause → BreaksForm files.text files.run cause
read_faulty names held cause files (IsFaulty.text_too_large past) = absurd (not_past text_limit held names.text _ past files.text_is)
read_faulty names held cause files (IsFaulty.run_too_large after) = absurd (not_past file_limit held names.run _ after.then_run files.run_is)
read_faulty names held cause files (IsFaulty.of_form others c breaks) = breaks_moved names held c others files breaks

-- files that are loaded are loaded once
pub loaded_once : (names : RunNames) (held : Held) (a b : IsLoaded names held) (d : Design) → IsOnlyDesign b.files.text d → SameFit a.fit b.fit
loaded_once names held a b d only =
    fit_once a.files.text b.files.text a.files.run b.files.run (same_file held names.text _ _ a.files.text_is b.files.text_is)
    (same_file held names.run _ _ a.files.run_is b.files.run_is) d only a.fit b.fit
