-- What writing output files one after another leaves of them.
use Rattle.std.proofs.Common.{
  ◌≡◌,
  ◌≢◌,
  ◌∙◌,
  ◌+◌,
  ◌<◌,
  ℕ,
  List,
  [],
  ◌∷◌,
  ◌++◌,
  length,
  map,
  take,
  get_or,
  Option,
  Some,
  zero,
  suc,
  refl,
  arith,
  ap,
  sym,
  subst,
}
use Rattle.std.specs.Prelude.{slice_get}
use Rattle.std.specs.List.{AllZip}
use Rattle.std.specs.Option.{option_map}
use Rattle.std.proofs.lemmas.Option.{slice_get-map, slice_get-get_or}
use Rattle.manager_links.proofs.Pieces.{take_read, zip_push}
use Rattle.mx_base.specs.Files.{Name, Held, Holds, ChangesOnly}
use Rattle.rtl_ir.specs.Rules.{AllDiffer}
use Rattle.simulation.specs.Outputs.{ChangesOnlyOutputs}
use Rattle.word_lists.specs.Written.{word_lines}
use Rattle.maxjc_core.specs.ExpectEnds.{HoldsLines}

-- files of other names hold what they held
pub still-lines : (name : Name) (old new : Held) (files : List (Name × ℕ))
    (lists : List (List (Option ℕ))) → ChangesOnly name old new
    → ((k : ℕ) (file : Name × ℕ) → slice_get files k ≡ Some file → file.0 ≢ name)
    → AllZip (HoldsLines old) files lists → AllZip (HoldsLines new) files lists
still-lines name old new [] [] only other holds = tt
still-lines name old new [] (l ∷ lists) only other holds = absurd holds
still-lines name old new (f ∷ files) [] only other holds = absurd holds
still-lines name old new (f ∷ files) (l ∷ lists) only other holds = (
  only.others f.0 (other 0 f refl) ∙ holds.0,
  still-lines name old new files lists only (λ k file at. other (k + 1) file (next k file at)) holds.1,
)
  where
    next : (k : ℕ) (file : Name × ℕ) → slice_get files k ≡ Some file
        → slice_get (f ∷ files) (k + 1) ≡ Some file
    next k file at = ap (slice_get (f ∷ files)) (let e : k + 1 ≡ suc k = omega arith in e) ∙ at

-- of files of different names those before one have other names
pub others-before : (files : List (Name × ℕ)) (n : ℕ) (file : Name × ℕ)
    → AllDiffer (map (λ (f : Name × ℕ). f.0) files) → slice_get files n ≡ Some file
    → (k : ℕ) (other : Name × ℕ) → slice_get (take n files) k ≡ Some other → other.0 ≢ file.0
others-before files n file differ at k other there same =
    let before = get_take files n k other there in
    let one = differ k n file.0
    (slice_get-map (λ (f : Name × ℕ). f.0) files k ∙ ap (option_map (λ (f : Name × ℕ). f.0)) before.1
    ∙ ap Some same)
    (slice_get-map (λ (f : Name × ℕ). f.0) files n ∙ ap (option_map (λ (f : Name × ℕ). f.0)) at) in
    let lt = before.0 in
    omega (arith, one, lt)
  where
    get_take : (files : List (Name × ℕ)) (n k : ℕ) (x : Name × ℕ)
        → slice_get (take n files) k ≡ Some x → (k < n) × (slice_get files k ≡ Some x)
    get_take files zero k x e = absurd (cc)
    get_take [] (suc n) k x e = absurd (cc)
    get_take (f ∷ files) (suc n) zero x e = (omega arith, e)
    get_take (f ∷ files) (suc n) (suc k) x e =
        let rest = get_take files n k x e in
        let lt = rest.0 in
        (omega (arith, lt), rest.1)

-- one file more was written
pub one-more-written : (old new : Held) (files : List (Name × ℕ)) (lists : List (List (Option ℕ)))
    (n : ℕ) (file : Name × ℕ) (words : List (Option ℕ)) → n < length files → n < length lists
    → file ≡ get_or files n file → words ≡ get_or lists n words
    → AllDiffer (map (λ (f : Name × ℕ). f.0) files) → ChangesOnly file.0 old new
    → Holds new file.0 (word_lines file.1 words)
    → AllZip (HoldsLines old) (take n files) (take n lists)
    → AllZip (HoldsLines new) (take (n + 1) files) (take (n + 1) lists)
one-more-written old new files lists n file words lt gt is at differ only holds before =
    let there : slice_get files n ≡ Some file =
    slice_get-get_or files n file lt ∙ ap Some (sym is) in
    let still = still-lines file.0 old new (take n files) (take n lists) only
    (others-before files n file differ there) before in
    subst (λ fs. AllZip (HoldsLines new) fs (take (n + 1) lists)) (sym (take_read files n file lt is))
    (subst (λ ls. AllZip (HoldsLines new) (take n files ++ file ∷ []) ls)
    (sym (take_read lists n words gt at))
    (zip_push (HoldsLines new) (take n files) (take n lists) file words still holds))

-- and no file but the outputs has changed
pub one-more-changed : (old before now : Held) (files : List (Name × ℕ)) (n : ℕ) (file : Name × ℕ)
    → slice_get files n ≡ Some file → ChangesOnlyOutputs files old before
    → ChangesOnly file.0 before now → ChangesOnlyOutputs files old now
one-more-changed old before now files n file at changes only = record {
  told = only.told ∙ changes.told;
  others = λ q other. only.others q (other n file at) ∙ changes.others q other;
}
