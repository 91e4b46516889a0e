use Rattle.std.proofs.Common.{◌≡◌, ◌∷◌, [], List, ℕ, Bor, Option, Some, None, IfSome, IfNone, is_some, true, false, subst}
use Rattle.maxj_tokens.specs.Tokens.{is_sign}
use Rattle.maxj_tokens.specs.Scanning.{BeginsNoToken}
use Rattle.text_scan.proofs.ByteTests.{if_none}
use Rattle.maxj_tokens.proofs.Fronts.{open_taken, one_taken, none_taken}
use Rattle.maxj_tokens.proofs.token.one.Goals as goal

stripped : (text : List ℕ) (r : Option (Bor (List ℕ))) → IfSome r (λ rest. text ≡ 47 ∷ 42 ∷ rest.now) → is_some r ≡ true → BeginsNoToken text
stripped text None h e = cc
stripped text (Some rest) h e = open_taken text rest.now h

not_stripped : (text : List ℕ) (r : Option (Bor (List ℕ))) → IfNone r ((rest : List ℕ) → text ≡ 47 ∷ 42 ∷ rest → ⊥) → is_some r ≡ false → (rest : List ℕ) → text ≡ 47 ∷ 42 ∷ rest → ⊥
not_stripped text None h e = h
not_stripped text (Some rest) h e = cc

pub returns-then-is_some-clause-none : goal.returns-then-is_some-clause-none
returns-then-is_some-clause-none c =
    let e : is_some c.after.result ≡ true = cc in
    stripped c.args.text.now c.after.result c.after.ensures.some e

pub returns-in_err-sign-clause-none : goal.returns-in_err-sign-clause-none
returns-in_err-sign-clause-none c = if_none c.from_residual-in_err-sign.result
    (BeginsNoToken c.args.text.now)
    (none_taken c.args.text.now c.requires.name c.requires.number c.requires.quote (λ b rest e.
    let f = c.in_ok-first.ensures.cases.0 in
    let same : c.in_ok-first.first.now ≡ b = cc in
    subst (λ x. is_sign (x ∷ []) ≡ false) same c.in_err-sign.ensures))

pub returns-clause-some : goal.returns-clause-some
returns-clause-some c =
    let e : is_some c.after.result ≡ false = cc in
    one_taken c.args.text.now c.in_ok-first.rest.now c.in_ok-first.first.now c.in_ok-sign.sign
    c.requires.gap c.requires.three c.requires.two
    (not_stripped c.args.text.now c.after.result c.after.ensures.none e)
    c.in_ok-first.ensures.cases.0 c.in_ok-sign.ensures
