use Rattle.std.proofs.Common.{◌≡◌, ℕ, List, true, inl, inr, refl, codes, subst}
use Rattle.word_files.specs.RunFiles.{Name, SameNames, names, in_range}
use Rattle.word_files.specs.declared.run_file.RunFile.{RunFile}
use Rattle.word_files.proofs.RefusalLemmas.{unfit, not_so}
use Rattle.word_files.proofs.run_file.RunFile.fit.Goals as goal

-- the scalars fit the ports where they fit the list of these
ScalarsFitList : RunFile → List (Name × ℕ) → Type 0
ScalarsFitList run l = SameNames (names run.scalars) (names l) × (in_range run.scalars l ≡ true)

pub returns-then-not-branch-2 : goal.returns-then-not-branch-2
unfolding ScalarsFitList
returns-then-not-branch-2 c =
    unfit c.args.self.now c.args.ports.now (codes "scalars") _ c.shape-then-not-branch-2.ensures
    (inr (inl (
      refl,
      c.in_ok-same_names.ensures.0 c.if-not-branch.false,
      subst (λ (l : List (Name × ℕ)). ScalarsFitList c.args.self.now l → ⊥) c.in_ok-scalars.ensures (not_so _ c.in_ok-scalars_fit.ensures.1 c.if-not-branch-2.true),
    )))

pub returns-then-not-branch-3 : goal.returns-then-not-branch-3
unfolding ScalarsFitList
returns-then-not-branch-3 c =
    unfit c.args.self.now c.args.ports.now (codes "inputs") _ c.shape-then-not-branch-3.ensures
    (inr (inr (inl (
      refl,
      c.in_ok-same_names.ensures.0 c.if-not-branch.false,
      subst (ScalarsFitList c.args.self.now) c.in_ok-scalars.ensures (c.in_ok-scalars_fit.ensures.0 c.if-not-branch-2.false),
      not_so _ c.in_ok-same_names-2.ensures.1 c.if-not-branch-3.true,
    ))))

pub returns-then-not-branch-4 : goal.returns-then-not-branch-4
unfolding ScalarsFitList
returns-then-not-branch-4 c =
    unfit c.args.self.now c.args.ports.now (codes "outputs") _ c.shape-then-not-branch-4.ensures
    (inr (inr (inr (
      refl,
      c.in_ok-same_names.ensures.0 c.if-not-branch.false,
      subst (ScalarsFitList c.args.self.now) c.in_ok-scalars.ensures (c.in_ok-scalars_fit.ensures.0 c.if-not-branch-2.false),
      c.in_ok-same_names-2.ensures.0 c.if-not-branch-3.false,
      not_so _ c.in_ok-same_names-3.ensures.1 c.if-not-branch-4.true,
    ))))
