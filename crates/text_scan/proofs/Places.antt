-- Texts that are read token by token, with their places.
use Rattle.std.proofs.Common.{◌≡◌, ◌∙◌, ◌+◌, ◌-◌, ◌≤◌, ℕ, List, [], ◌∷◌, ◌++◌, Option, length, map, refl, sym, ap, subst, append_assoc, length-append, arith}
use Rattle.std.proofs.lemmas.List.{append-nil}
use Rattle.grammar.specs.Tokens.{IsNext, Reads, Gaps}
use Rattle.text_scan.specs.Gaps.{Skips}
use Rattle.text_scan.specs.Places.{PlacedToken, ReadsAt}

module _ {T : Type 0} {token_of : List ℕ → Option T} {Apart : T → List ℕ → Type 0} where
  -- what is read, and then what is read of the rest
  reads_then : {n m : ℕ} {text rest left : List ℕ} {ts us : List (PlacedToken T)}
      → ReadsAt token_of Apart n text ts rest → m + length rest ≡ n + length text
      → ReadsAt token_of Apart m rest us left → ReadsAt token_of Apart n text (ts ++ us) left
  reads_then {n = n} {m = m} {rest = rest} {left = left} {us = us} ReadsAt.end e r = let same : m ≡ n = omega arith in subst (λ k. ReadsAt token_of Apart k rest us left) same r
  reads_then {n = n} {m = m} {rest = rest} (ReadsAt.skip {rest = behind} gap g a) e r =
      ReadsAt.skip gap g (reads_then a (omega (arith, e, length-append gap behind)) r)
  reads_then {n = n} {m = m} {rest = rest} (ReadsAt.token {rest = behind} word w a) e r =
      ReadsAt.token word w (reads_then a (omega (arith, e, length-append word behind)) r)

  pub skipped : {text rest behind : List ℕ} {ts : List (PlacedToken T)}
      → ReadsAt token_of Apart 0 text ts rest → length rest ≤ length text → Skips rest behind
      → ReadsAt token_of Apart 0 text ts behind
  skipped {text = text} {rest = rest} {behind = behind} {ts = ts} read within (gap, e, g) =
      let place : (length text - length rest) + length rest ≡ 0 + length text = omega arith in
      subst (λ l. ReadsAt token_of Apart 0 text l behind) (append-nil ts)
      (reads_then read place (subst (λ l. ReadsAt token_of Apart (length text - length rest) l [] behind) (sym e) (ReadsAt.skip gap g ReadsAt.end)))

  pub took : {text rest behind : List ℕ} {ts : List (PlacedToken T)} {t : T}
      → ReadsAt token_of Apart 0 text ts rest → length rest ≤ length text → (word : List ℕ)
      → rest ≡ word ++ behind → IsNext Gaps token_of Apart word behind t
      → ReadsAt token_of Apart 0 text (ts
      ++ record { token = t; place = length text - length rest } ∷ []) behind
  took {text = text} {rest = rest} {behind = behind} {t = t} read within word e w =
      let place : (length text - length rest) + length rest ≡ 0 + length text = omega arith in
      reads_then read place (subst (λ l. ReadsAt token_of Apart (length text - length rest) l
      (record { token = t; place = length text - length rest }
      ∷ []) behind) (sym e) (ReadsAt.token word w ReadsAt.end))

  -- without the places
  pub plain : {n : ℕ} {text rest : List ℕ} {ts : List (PlacedToken T)} → ReadsAt token_of Apart n text ts rest → Reads Gaps token_of Apart text (map (λ (p : PlacedToken T). p.token) ts) rest
  plain ReadsAt.end = Reads.end
  plain (ReadsAt.skip gap g a) = Reads.skip gap g (plain a)
  plain (ReadsAt.token word w a) = Reads.token word w (plain a)

  -- every reading has places
  pub placed : {text rest : List ℕ} {ts : List T} (n : ℕ)
      → Reads Gaps token_of Apart text ts rest → (ps : List (PlacedToken T))
      × (map (λ (p : PlacedToken T). p.token) ps ≡ ts) × ReadsAt token_of Apart n text ps rest
  placed n Reads.end = ([], refl, ReadsAt.end)
  placed n (Reads.skip gap g a) = let (ps, e, r) = placed (n + length gap) a in (ps, e, ReadsAt.skip gap g r)
  placed n (Reads.token {t = t} word w a) = let (ps, e, r) = placed (n + length word) a in (record { token = t; place = n } ∷ ps, ap (λ l. t ∷ l) e, ReadsAt.token word w r)

  pub front : {n : ℕ} {text rest : List ℕ} {ts : List (PlacedToken T)} → ReadsAt token_of Apart n text ts rest → (f : List ℕ) × (text ≡ f ++ rest)
  front ReadsAt.end = ([], refl)
  front (ReadsAt.skip gap g a) = let (f, e) = front a in (gap ++ f, ap (λ l. gap ++ l) e ∙ sym (append_assoc gap f _))
  front (ReadsAt.token word w a) = let (f, e) = front a in (word ++ f, ap (λ l. word ++ l) e ∙ sym (append_assoc word f _))
