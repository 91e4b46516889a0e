use Rattle.std.proofs.Common.{◌≡◌, ◌∷◌, ◌∙◌, [], List, ℕ, Bor, Option, Some, None, IfSome, IfNone, is_some, true, false, sym, ap, subst}
use Rattle.rtl_text.specs.Tokens.{Token, is_sign}
use Rattle.verilog_syntax.specs.Scanning.{BeginsNoToken, Takes, mark_bytes}
use Rattle.verilog_syntax.proofs.Signs.{open_taken, single_taken, none_taken, mark_is_sign}
use Rattle.verilog_syntax.proofs.token.sign.Goals as goal

stripped : (text : List ℕ) (r : Option (Bor (List ℕ))) → IfSome r (λ rest. text ≡ 47 ∷ 42 ∷ rest.now) → is_some r ≡ true → BeginsNoToken text
stripped text None h e = cc
stripped text (Some rest) h e = open_taken text rest.now h

not_stripped : (text : List ℕ) (r : Option (Bor (List ℕ))) → IfNone r ((rest : List ℕ) → text ≡ 47 ∷ 42 ∷ rest → ⊥) → is_some r ≡ false → (rest : List ℕ) → text ≡ 47 ∷ 42 ∷ rest → ⊥
not_stripped text None h e = h
not_stripped text (Some rest) h e = cc

pub returns-then-is_some-clause-none : goal.returns-then-is_some-clause-none
returns-then-is_some-clause-none c =
    let e : is_some c.after.result ≡ true = cc in
    stripped c.args.text.now c.after.result c.after.ensures.some e

pub returns-in-Some-single-clause-some : goal.returns-in-Some-single-clause-some
returns-in-Some-single-clause-some c =
    let e : is_some c.after.result ≡ false = cc in
    let b : mark_bytes c.in-Some-single.mark ≡ c.in-Some.byte.now ∷ [] = c.in-Some-single.ensures in
    subst (λ l. Takes c.args.text.now (Token.Sign l) c.in-Some.rest.now) (sym b)
    (single_taken c.args.text.now c.in-Some.rest.now c.in-Some.byte.now c.requires.gap c.requires.name c.requires.number c.requires.one
    (not_stripped c.args.text.now c.after.result c.after.ensures.none e) c.in-Some.ensures.cases.0 (sym (ap is_sign b) ∙ mark_is_sign c.in-Some-single.mark))

pub returns-in-None-clause-none : goal.returns-in-None-clause-none
returns-in-None-clause-none c =
    none_taken c.args.text.now c.requires.name c.requires.number (λ b rest e.
    let f = c.in-Some.ensures.cases.0 in
    let same : c.in-Some.byte.now ≡ b = cc in
    subst (λ x. is_sign (x ∷ []) ≡ false) same c.in-None.ensures)
