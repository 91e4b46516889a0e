-- Refusals of a run file that doesn't fit.
use Rattle.std.proofs.Common.{◌≡◌, ◌⊎◌, Err, inl, inr, sym, subst, ◌∙◌, Bool, true, false}
use Rattle.std.proofs.lemmas.Bool.{false≢true}
use Rattle.word_files.specs.RunFiles.{Name, Fits}
use Rattle.word_files.specs.declared.run_file.RunFile.{RunFile}
use Rattle.rtl_ir.specs.declared.interface.Interface.{Interface}
use Rattle.word_files.specs.declared.error.RunFileError.{RunFileError}
use Rattle.word_files.specs.declared.error.RunFileError.TheVariants.{Shape, NoMemory}

-- the refusal of this key is the answer, or want of memory is
pub unfit : (run : RunFile) (ports : Interface) (key : Name) (e : RunFileError) → (e ≡ Shape key) ⊎ (e ≡ NoMemory) → Fits run ports (Err (Shape key)) → Fits run ports (Err e)
unfit run ports key e (inl h) f = subst (λ x. Fits run ports (Err x)) (sym h) f
unfit run ports key e (inr h) f = subst (λ x. Fits run ports (Err x)) (sym h) tt

-- a test that answered false
pub not_so : {P : Type 0} (b : Bool) → (P → b ≡ true) → b ≡ false → P → ⊥
not_so b f e p = false≢true (sym e ∙ f p)
