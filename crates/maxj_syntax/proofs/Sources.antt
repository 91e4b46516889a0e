-- Bytes are a source with one list of classes, or have one first fault.
use Rattle.std.proofs.Common.{◌≡◌, ◌∙◌, ℕ, zero, suc, ◌+◌, ◌<◌, ◌≤◌, Bool, true, false, nat_lt, List, [], ◌∷◌, ◌++◌, length, take, refl, sym, ap, subst, append_assoc, arith, inl, inr}
use Rattle.std.proofs.lemmas.Bool.{ltb-true, ltb-false}
use Rattle.std.specs.Prelude.{IsTrue, ◌↔◌}
use Rattle.grammar.proofs.Reading.{two_fronts}
use Rattle.maxj_tokens.specs.Scanning.{PlacedToken, AreTokens, begins_stray}
use Rattle.maxj_syntax.specs.Tree.{ClassTree, ProgramIs}
use Rattle.maxj_syntax.specs.Productions.{IsFile}
use Rattle.maxj_tokens.specs.Faults.{IsFirst, HasNone, IsOutside, IsExcess}
use Rattle.maxj_syntax.specs.Faults.{BeginsSource, IsFirstMisplaced, IsMisplaced, place_of, IsNoProject}
use Rattle.maxj_syntax.specs.Source.{AreWithin, IsSourceOf, Fault, HasFirst}
use Rattle.maxj_syntax.specs.declared.tree.Program.{Program}
use Rattle.maxj_tokens.specs.declared.scanner.ScanError.{ScanError}
use Rattle.maxj_tokens.specs.declared.scanner.ScanError.TheVariants as ScanErrors
use Rattle.maxj_syntax.specs.declared.parser.ParseError.{ParseError}
use Rattle.maxj_syntax.specs.declared.parser.ParseError.TheVariants as ParseErrors
use Rattle.maxj_tokens.specs.Reading.{Fails}
use Rattle.maxj_syntax.specs.Building.{IsTheFile, FailsToParse}
use Rattle.maxj_syntax.specs.Outcomes.{IsTheSource, IsTheFault, FailsToRead, of_scan, of_parse}
use Rattle.maxj_tokens.proofs.Readings.{one_reading, not_read, one_left, one_place}
use Rattle.maxj_syntax.proofs.Once.{one_file}

pub one_source : (bytes : List ℕ) (cs ds : List ClassTree) → IsSourceOf bytes cs → IsSourceOf bytes ds → cs ≡ ds
one_source bytes cs ds s t = one_file s.tokens cs ds s.file (subst (λ l. IsFile l ds) (one_reading s.within.inside.read t.within.inside.read) t.file)

no_first : (F : List PlacedToken → PlacedToken → Type 0) (ts us : List PlacedToken) (place : ℕ) → us ≡ ts → HasNone F ts → IsFirst F us place → ⊥
no_first F ts us place e none f = none f.before f.token f.behind (sym e ∙ f.split) f.faulty

pub no_fault : (bytes : List ℕ) (cs : List ClassTree) (f : Fault) → IsSourceOf bytes cs → HasFirst bytes f → ⊥
no_fault bytes cs (Fault.StrayByte p) s h = not_read s.within.inside.read h.1
no_fault bytes cs (Fault.NoToken p) s h = not_read s.within.inside.read h.1
no_fault bytes cs (Fault.Outside p) s h = no_first IsOutside s.tokens h.0 p (one_reading s.within.inside.read h.1) s.within.inside.inside h.2
no_fault bytes cs (Fault.Excess p) s h = no_first IsExcess s.tokens h.0 p (one_reading s.within.inside.read h.1.read) s.within.within h.2
no_fault bytes cs (Fault.Misplaced p) s h = h.2.bad.none cs (subst (λ l. IsFile l cs) (one_reading h.1.inside.read s.within.inside.read) s.file)
no_fault bytes cs Fault.NoProject s h = s.project (subst IsNoProject (one_file s.tokens h.1 cs (subst (λ l. IsFile l h.1) (one_reading s.within.inside.read h.2.inside.read) h.3) s.file) h.4)

-- a fault has one place

token_same : {t u : PlacedToken} {ts us : List PlacedToken} → t ∷ ts ≡ u ∷ us → t ≡ u
token_same e = cc

module _ (F : List PlacedToken → PlacedToken → Type 0) where
  longer : (before : List PlacedToken) (t : PlacedToken) (behind : List PlacedToken)
      {us : List PlacedToken} {q : ℕ} (b : IsFirst F us q) (m : List PlacedToken) → F before t
      → b.before ≡ before ++ m → t ∷ behind ≡ m ++ b.token ∷ b.behind → b.token ≡ t
  longer before t behind b [] f e g = sym (token_same g)
  longer before t behind b (x ∷ m) f e g = absurd (b.first before t m (subst (λ y. b.before ≡ before ++ y ∷ m) (sym (token_same g)) e) f)

  one_first : (ts us : List PlacedToken) (p q : ℕ) → us ≡ ts → IsFirst F ts p → IsFirst F us q → q ≡ p
  one_first ts us p q e a b =
      let t : b.token ≡ a.token =
      elim (two_fronts a.before (a.token ∷ a.behind) b.before (b.token ∷ b.behind) (sym a.split ∙ sym e ∙ b.split)) [
        | inl w ↦ longer a.before a.token a.behind b w.0 a.faulty w.1 w.2
        | inr w ↦ sym (longer b.before b.token b.behind a w.0 b.faulty w.1 w.2)
      ] in
      b.at ∙ ap (λ (x : PlacedToken). x.place) t ∙ sym a.at

take_split : (k m : ℕ) (ts : List PlacedToken) → k ≤ m → (r : List PlacedToken) × (take m ts ≡ take k ts ++ r)
take_split zero m ts h = (take m ts, refl)
take_split (suc k) zero ts h = absurd (omega (arith, h))
take_split (suc k) (suc m) [] h = ([], refl)
take_split (suc k) (suc m) (t ∷ ts) h = let r = take_split k m ts (omega (arith, h)) in (r.0, ap (λ l. t ∷ l) r.1)

begins_less : (k m : ℕ) (ts : List PlacedToken) → k ≤ m → BeginsSource (take m ts) → BeginsSource (take k ts)
begins_less k m ts h b =
    let r = take_split k m ts h in
    (r.0 ++ b.0, b.1, subst (λ l. IsFile l b.1) (ap (λ l. l ++ b.0) r.1 ∙ append_assoc (take k ts) r.0 b.0) b.2)

none_before : (ts : List PlacedToken) (n m : ℕ) → IsFirstMisplaced ts n → IsFirstMisplaced ts m → n < m → ⊥
none_before ts n m a b h = let w = b.within in a.bad (omega (arith, h, w)) (begins_less (n + 1) m ts (omega (arith, h)) b.begun)

one_bad : (ts : List PlacedToken) (n m : ℕ) → IsFirstMisplaced ts n → IsFirstMisplaced ts m → m ≡ n
one_bad ts n m a b = by_cases (nat_lt n m) refl (nat_lt m n) refl
  where
    by_cases : (x : Bool) → nat_lt n m ≡ x → (y : Bool) → nat_lt m n ≡ y → m ≡ n
    by_cases true e y f = absurd (none_before ts n m a b (omega (arith, ltb-true n m e)))
    by_cases false e true f = absurd (none_before ts m n b a (omega (arith, ltb-true m n f)))
    by_cases false e false f = omega (arith, ltb-false n m e, ltb-false m n f)

one_misplaced : (ts us : List PlacedToken) (size p q : ℕ) → us ≡ ts → IsMisplaced ts size p → IsMisplaced us size q → q ≡ p
one_misplaced ts us size p q e a b =
    let c = subst (λ l. IsMisplaced l size q) e b in
    c.at ∙ ap (λ n. place_of ts size n) (one_bad ts a.number c.number a.bad c.bad) ∙ sym a.at

stray_or_not : {l m : List ℕ} → begins_stray l ≡ true → begins_stray m ≡ false → m ≡ l → ⊥
stray_or_not h g e = let f : true ≡ false = sym h ∙ ap begins_stray (sym e) ∙ g in absurd (cc)

pub one_fault : (bytes : List ℕ) (f g : Fault) → HasFirst bytes f → HasFirst bytes g → g ≡ f
one_fault bytes (Fault.StrayByte p) (Fault.StrayByte q) h g = ap (λ n. Fault.StrayByte n) (one_place h.1 g.1)
one_fault bytes (Fault.StrayByte p) (Fault.NoToken q) h g = absurd (stray_or_not h.2 g.2 (one_left h.1 g.1))
one_fault bytes (Fault.NoToken p) (Fault.StrayByte q) h g = absurd (stray_or_not g.2 h.2 (one_left g.1 h.1))
one_fault bytes (Fault.NoToken p) (Fault.NoToken q) h g = ap (λ n. Fault.NoToken n) (one_place h.1 g.1)
one_fault bytes (Fault.StrayByte p) (Fault.Outside q) h g = absurd (not_read g.1 h.1)
one_fault bytes (Fault.StrayByte p) (Fault.Excess q) h g = absurd (not_read g.1.read h.1)
one_fault bytes (Fault.StrayByte p) (Fault.Misplaced q) h g = absurd (not_read g.1.inside.read h.1)
one_fault bytes (Fault.StrayByte p) Fault.NoProject h g = absurd (not_read g.2.inside.read h.1)
one_fault bytes (Fault.NoToken p) (Fault.Outside q) h g = absurd (not_read g.1 h.1)
one_fault bytes (Fault.NoToken p) (Fault.Excess q) h g = absurd (not_read g.1.read h.1)
one_fault bytes (Fault.NoToken p) (Fault.Misplaced q) h g = absurd (not_read g.1.inside.read h.1)
one_fault bytes (Fault.NoToken p) Fault.NoProject h g = absurd (not_read g.2.inside.read h.1)
one_fault bytes (Fault.Outside p) (Fault.StrayByte q) h g = absurd (not_read h.1 g.1)
one_fault bytes (Fault.Excess p) (Fault.StrayByte q) h g = absurd (not_read h.1.read g.1)
one_fault bytes (Fault.Misplaced p) (Fault.StrayByte q) h g = absurd (not_read h.1.inside.read g.1)
one_fault bytes Fault.NoProject (Fault.StrayByte q) h g = absurd (not_read h.2.inside.read g.1)
one_fault bytes (Fault.Outside p) (Fault.NoToken q) h g = absurd (not_read h.1 g.1)
one_fault bytes (Fault.Excess p) (Fault.NoToken q) h g = absurd (not_read h.1.read g.1)
one_fault bytes (Fault.Misplaced p) (Fault.NoToken q) h g = absurd (not_read h.1.inside.read g.1)
one_fault bytes Fault.NoProject (Fault.NoToken q) h g = absurd (not_read h.2.inside.read g.1)
one_fault bytes (Fault.Outside p) (Fault.Outside q) h g = ap (λ n. Fault.Outside n) (one_first IsOutside h.0 g.0 p q (one_reading h.1 g.1) h.2 g.2)
one_fault bytes (Fault.Outside p) (Fault.Excess q) h g = absurd (no_first IsOutside g.0 h.0 p (one_reading g.1.read h.1) g.1.inside h.2)
one_fault bytes (Fault.Outside p) (Fault.Misplaced q) h g = absurd (no_first IsOutside g.0 h.0 p (one_reading g.1.inside.read h.1) g.1.inside.inside h.2)
one_fault bytes (Fault.Outside p) Fault.NoProject h g = absurd (no_first IsOutside g.0 h.0 p (one_reading g.2.inside.read h.1) g.2.inside.inside h.2)
one_fault bytes (Fault.Excess p) (Fault.Outside q) h g = absurd (no_first IsOutside h.0 g.0 q (one_reading h.1.read g.1) h.1.inside g.2)
one_fault bytes (Fault.Misplaced p) (Fault.Outside q) h g = absurd (no_first IsOutside h.0 g.0 q (one_reading h.1.inside.read g.1) h.1.inside.inside g.2)
one_fault bytes Fault.NoProject (Fault.Outside q) h g = absurd (no_first IsOutside h.0 g.0 q (one_reading h.2.inside.read g.1) h.2.inside.inside g.2)
one_fault bytes (Fault.Excess p) (Fault.Excess q) h g = ap (λ n. Fault.Excess n) (one_first IsExcess h.0 g.0 p q (one_reading h.1.read g.1.read) h.2 g.2)
one_fault bytes (Fault.Excess p) (Fault.Misplaced q) h g = absurd (no_first IsExcess g.0 h.0 p (one_reading g.1.inside.read h.1.read) g.1.within h.2)
one_fault bytes (Fault.Excess p) Fault.NoProject h g = absurd (no_first IsExcess g.0 h.0 p (one_reading g.2.inside.read h.1.read) g.2.within h.2)
one_fault bytes (Fault.Misplaced p) (Fault.Excess q) h g = absurd (no_first IsExcess h.0 g.0 q (one_reading h.1.inside.read g.1.read) h.1.within g.2)
one_fault bytes Fault.NoProject (Fault.Excess q) h g = absurd (no_first IsExcess h.0 g.0 q (one_reading h.2.inside.read g.1.read) h.2.within g.2)
one_fault bytes (Fault.Misplaced p) (Fault.Misplaced q) h g = ap (λ n. Fault.Misplaced n) (one_misplaced h.0 g.0 (length bytes) p q (one_reading h.1.inside.read g.1.inside.read) h.2 g.2)
one_fault bytes (Fault.Misplaced p) Fault.NoProject h g = absurd (h.2.bad.none g.1 (subst (λ l. IsFile l g.1) (one_reading h.1.inside.read g.2.inside.read) g.3))
one_fault bytes Fault.NoProject (Fault.Misplaced q) h g = absurd (g.2.bad.none h.1 (subst (λ l. IsFile l h.1) (one_reading g.1.inside.read h.2.inside.read) h.3))
one_fault bytes Fault.NoProject Fault.NoProject h g = refl

-- what the reader tells

told_fault : (bytes : List ℕ) (f : Fault) → HasFirst bytes f → IsTheFault bytes f
told_fault bytes f h = record { first = h; only = λ g k. one_fault bytes f g h k; none = λ cs s. no_fault bytes cs f s h }

pub scan_fails : (bytes : List ℕ) (e : ScanError) → Fails bytes e → FailsToRead bytes (of_scan e)
scan_fails bytes ScanErrors.NoMemory h = tt
scan_fails bytes (ScanErrors.StrayByte p) h = told_fault bytes (Fault.StrayByte p) h
scan_fails bytes (ScanErrors.NoToken p) h = told_fault bytes (Fault.NoToken p) h

module _ (bytes : List ℕ) (ts : List PlacedToken) (read : AreTokens bytes ts) where
  pub outside_fails : (place : ℕ) → IsFirst IsOutside ts place → IsTheFault bytes (Fault.Outside place)
  outside_fails place h = told_fault bytes (Fault.Outside place) (ts, read, h)

  module _ (inside : HasNone IsOutside ts) where
    pub excess_fails : (place : ℕ) → IsFirst IsExcess ts place → IsTheFault bytes (Fault.Excess place)
    excess_fails place h = told_fault bytes (Fault.Excess place) (ts, record { read = read; inside = inside }, h)

    module _ (within : HasNone IsExcess ts) where
      all_within : AreWithin bytes ts
      all_within = record { inside = record { read = read; inside = inside }; within = within }

      pub parse_fails : (size : ℕ) (e : ParseError) → size ≡ length bytes → FailsToParse ts size e → FailsToRead bytes (of_parse e)
      parse_fails size ParseErrors.NoMemory f h = tt
      parse_fails size (ParseErrors.Misplaced p) f h = told_fault bytes (Fault.Misplaced p) (ts, all_within, subst (λ n. IsMisplaced ts n p) f h)

      module _ (p : Program) (file : IsTheFile ts p) (no : Bool) (told : (classes : List ClassTree) → ProgramIs p classes → (IsTrue no ↔ IsNoProject classes)) where
        pub project_fails : no ≡ true → IsTheFault bytes Fault.NoProject
        project_fails e = told_fault bytes Fault.NoProject (ts, file.classes, all_within, file.file, (told file.classes file.program).0 e)

        pub read_all : no ≡ false → IsTheSource bytes p
        read_all e =
            let sound : IsNoProject file.classes → ⊥ = λ h. (let f : true ≡ false = sym ((told file.classes file.program).1 h) ∙ e in absurd (cc)) in
            let s : IsSourceOf bytes file.classes = record { tokens = ts; within = all_within; file = file.file; project = sound } in
            record { classes = file.classes; source = s; program = file.program; only = λ ds t. one_source bytes ds file.classes t s; sound = λ f h. no_fault bytes file.classes f s h }
