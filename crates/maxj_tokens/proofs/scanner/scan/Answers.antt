use Rattle.std.proofs.Common.{◌≡◌, ◌∙◌, ◌∷◌, ◌++◌, [], ◌==◌, ◌-◌, length, map, true, false, subst, sym, ap, arith, length-append}
use Rattle.std.proofs.lemmas.List.{map-append}
use Rattle.maxj_tokens.specs.Tokens.{is_followed}
use Rattle.maxj_tokens.specs.Scanning.{ReadsAt}
use Rattle.maxj_tokens.specs.Reading.{token_view}
use Rattle.maxj_tokens.specs.Lexemes.{placed_in}
use Rattle.maxj_tokens.specs.declared.lexeme.Lexeme.{Lexeme}
use Rattle.text_scan.specs.Places as places
use Rattle.text_scan.proofs.Places.{skipped}
use Rattle.maxj_tokens.proofs.Places.{took, no_token, followed}
use Rattle.maxj_tokens.proofs.Lexemes.{lexeme_at}
use Rattle.maxj_tokens.proofs.scanner.scan.Goals as goal

pub loop-rest-init : goal.loop-rest-init
loop-rest-init c = record {
  read = subst (λ l. ReadsAt 0 c.args.text.now (map (placed_in c.args.text.now) l) c.args.text.now) (sym c.in_ok-lexemes.ensures) places.ReadsAt.end;
  within = omega arith;
  few = (let e = ap length c.in_ok-lexemes.ensures in omega (arith, e));
}

pub loop-rest-preserved-in-Some : goal.loop-rest-preserved-in-Some
loop-rest-preserved-in-Some c = record {
  read = skipped c.loop-rest.invariant.read c.loop-rest.invariant.within c.in-Some.ensures.some;
  within = (let a = c.loop-rest.invariant.within in let b = c.in-Some.ensures.shorter in omega arith);
  few = (let a = c.loop-rest.invariant.few in let b = c.in-Some.ensures.shorter in omega arith);
}

pub fault-requires-clause-fault : goal.fault-requires-clause-fault
fault-requires-clause-fault c =
    let some : (length c.loop-rest.rest.now == 0) ≡ false = cc in
    no_token c.loop-rest.invariant.read (λ e. let f : (length c.loop-rest.rest.now == 0) ≡
    (0 == 0) = ap (λ l. length l == 0) e in absurd
    (cc)) c.in_default.ensures.none c.in_default-next_token.ensures.none

pub fault-requires-then-is_followed-clause-fault : goal.fault-requires-then-is_followed-clause-fault
fault-requires-then-is_followed-clause-fault c =
    let f : is_followed (token_view c.in-Some-next_token.found.token) c.in-Some-next_token.found.rest.now ≡ true = cc in
    followed c.loop-rest.invariant.read c.in-Some-next_token.ensures.some f

pub loop-rest-preserved : goal.loop-rest-preserved
loop-rest-preserved c =
    let item : Lexeme = record {
      kind = c.kind_of.result;
      at = length c.args.text.now - length c.loop-rest.rest.now;
      length = length c.loop-rest.rest.now - length c.in-Some-next_token.found.rest.now;
    } in record {
      read = (
          let view = placed_in c.args.text.now in
          let new = c.in_ok-push.ensures.ok in
          let f : is_followed (token_view c.in-Some-next_token.found.token) c.in-Some-next_token.found.rest.now ≡ false = cc in
          let is = lexeme_at c.loop-rest.invariant.read c.in-Some-next_token.ensures.some c.kind_of.result c.kind_of.ensures in
          subst (λ l. ReadsAt 0 c.args.text.now l c.in-Some-next_token.found.rest.now)
          (sym (ap (map view) new ∙ map-append view c.loop-rest.lexemes (item ∷ []) ∙ ap (λ p. map view c.loop-rest.lexemes ++ p ∷ []) is))
          (took c.loop-rest.invariant.read c.loop-rest.invariant.within c.in-Some-next_token.ensures.some f));
      within = (let a = c.loop-rest.invariant.within in let b = c.in-Some-next_token.ensures.shorter in omega arith);
      few = (let a = c.loop-rest.invariant.few in let b = c.in-Some-next_token.ensures.shorter
          in let n = ap length c.in_ok-push.ensures.ok in omega (
            arith,
            n,
            length-append c.loop-rest.lexemes (item ∷ []),
          ));
    }
