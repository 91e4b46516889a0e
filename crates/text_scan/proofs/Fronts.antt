-- The token at the front of a text, and what stands before a rest.
use Rattle.std.proofs.Common.{◌≡◌, ◌∙◌, ◌-◌, ℕ, List, [], ◌∷◌, ◌++◌, Option, Some, IsSome, length, take, refl, ap, length-append, arith}
use Rattle.std.proofs.Math.Seq.{take-append_seam}
use Rattle.grammar.specs.Tokens.{IsNext, Gaps}
use Rattle.text_scan.specs.Gaps.{BeginsNoGap}

-- what stands before a rest
pub front_is : (text front rest : List ℕ) → text ≡ front ++ rest → take (length text - length rest) text ≡ front
front_is text front rest e =
    let n : length text - length rest ≡ length front = omega (arith, ap length e, length-append front rest) in
    rw (n, e) (take-append_seam front rest)

module _ {T : Type 0} {token_of : List ℕ → Option T} {Apart : T → List ℕ → Type 0} where
  -- a word that is a token and that no longer one of the text begins with
  pub taken : {text : List ℕ} (word rest : List ℕ) {t : T} → text ≡ word ++ rest
      → BeginsNoGap text → token_of word ≡ Some t → ((c : ℕ) (cs back : List ℕ) → rest ≡ c ∷ cs
      ++ back → IsSome (token_of (word ++ c ∷ cs)) → ⊥) → Apart t rest
      → (front : List ℕ) × (text ≡ front ++ rest) × IsNext Gaps token_of Apart front rest t
  taken {text = text} word rest {t = t} e gap is longer apart = (
    word,
    e,
    record {
      is = is;
      longest = longest;
      begins = λ g back f k. gap g back (e ∙ f) k;
      apart = apart;
    },
  )
    where
      longest : (more back : List ℕ) → rest ≡ more ++ back → IsSome (token_of (word ++ more)) → more ≡ []
      longest [] back f s = refl
      longest (c ∷ cs) back f s = absurd (longer c cs back f s)
