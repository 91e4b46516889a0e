-- The next token of a text, and what is left behind it.
use Rattle.std.proofs.Common.{◌≡◌, ◌∙◌, ℕ, List, [], ◌∷◌, ◌++◌, Option, Some, None, IsSome, refl, sym, ap, subst, ◌⊎◌, inl, inr}
use Rattle.std.proofs.lemmas.List.{append-nil}
use Rattle.grammar.specs.Tokens.{IsNext, Reads}

-- two fronts of one list: the one goes on as the other
pub two_fronts : {A : Type 0} (a b c d : List A) → a ++ b ≡ c ++ d
    → ((more : List A) × (c ≡ a ++ more) × (b ≡ more ++ d)) ⊎ ((more : List A) × (a ≡ c ++ more) × (d ≡ more ++ b))
two_fronts [] b c d e = inl (c, refl, e)
two_fronts (x ∷ a) b [] d e = inr (x ∷ a, refl, sym e)
two_fronts (x ∷ a) b (y ∷ c) d e =
    let h : x ≡ y = cc in
    let t : a ++ b ≡ c ++ d = cc in
    elim (two_fronts a b c d t) [
      | inl w ↦ inl (w.0, (let p = w.1 in cc), w.2)
      | inr w ↦ inr (w.0, (let p = w.1 in cc), w.2)
    ]

some_is : {T : Type 0} (o : Option T) {t : T} → o ≡ Some t → IsSome o
some_is None e = cc
some_is (Some x) e = refl

module _ {T : Type 0} (Skips : List ℕ → List ℕ → Type 0) (token_of : List ℕ → Option T) (Apart : T → List ℕ → Type 0) where
  -- of two words that are next in one text, one is the other
  pub same_next : {word rest other back : List ℕ} {t u : T}
      → IsNext Skips token_of Apart word rest t → IsNext Skips token_of Apart other back u
      → word ++ rest ≡ other ++ back → (word ≡ other) × (rest ≡ back)
  same_next {word = word} {rest = rest} {other = other} {back = back} n m e =
      elim (two_fronts word rest other back e) [
        | inl w ↦
            let none : w.0 ≡ [] = n.longest w.0 back w.2 (subst (λ l. IsSome (token_of l)) w.1 (some_is (token_of other) m.is)) in
            let nil = append-nil word in
            let (_, p, q) = w in
            (sym (p ∙ ap (λ l. word ++ l) none ∙ nil), q ∙ ap (λ l. l ++ back) none)
        | inr w ↦
            let none : w.0 ≡ [] = m.longest w.0 rest w.2 (subst (λ l. IsSome (token_of l)) w.1 (some_is (token_of word) n.is)) in
            let nil = append-nil other in
            let (_, p, q) = w in
            (p ∙ ap (λ l. other ++ l) none ∙ nil, sym (q ∙ ap (λ l. l ++ rest) none))
      ]

  -- a text at whose begin nothing may be passed over begins with its first token
  pub first_token : {bytes left : List ℕ} {t : T} {ts : List T} → ((gap back : List ℕ) → bytes ≡ gap ++ back → Skips gap back → ⊥) → Reads Skips token_of Apart bytes (t ∷ ts) left
      → (word rest : List ℕ) × (bytes ≡ word ++ rest) × IsNext Skips token_of Apart word rest t × Reads Skips token_of Apart rest ts left
  first_token begins (Reads.skip {rest = rest} gap s r) = absurd (begins gap rest refl s)
  first_token begins (Reads.token {rest = rest} word n r) = (word, rest, refl, n, r)

  -- what is read of a text whose next word is known
  pub reads_next : {bytes word rest : List ℕ} {t : T} {ts : List T} → (token_of [] ≡ None) → IsNext Skips token_of Apart word rest t → bytes ≡ word ++ rest → Reads Skips token_of Apart bytes ts []
      → (us : List T) × (ts ≡ t ∷ us) × Reads Skips token_of Apart rest us []
  reads_next {word = []} empty n e r = let is = n.is in absurd (cc)
  reads_next {word = b ∷ bs} empty n e Reads.end = absurd (cc)
  reads_next {word = word} empty n e (Reads.skip {rest = back} gap s r) = absurd (n.begins gap back (sym e) s)
  reads_next {word = word} {rest = rest} {t = t} empty n e (Reads.token {rest = back} {t = u} {ts = us} other m r) =
      let (p, q) = same_next n m (sym e) in
      let a = n.is in
      let b = m.is in
      let f : token_of word ≡ token_of other = ap token_of p in
      let same : u ≡ t = cc in
      (us, ap (λ x. x ∷ us) same, subst (λ l. Reads Skips token_of Apart l us []) (sym q) r)
