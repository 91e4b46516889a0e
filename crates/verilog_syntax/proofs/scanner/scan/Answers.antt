use Rattle.std.proofs.Common.{◌≡◌, ◌∙◌, ◌∷◌, [], ◌==◌, ◌-◌, length, map, false, subst, sym, ap, arith}
use Rattle.std.proofs.lemmas.List.{map-append}
use Rattle.verilog_syntax.specs.Scanning.{ReadsAt, placed_view}
use Rattle.verilog_syntax.specs.declared.token.Placed.{Placed}
use Rattle.text_scan.specs.Places as places
use Rattle.text_scan.proofs.Places.{skipped, took}
use Rattle.verilog_syntax.proofs.Places.{no_token}
use Rattle.verilog_syntax.proofs.scanner.scan.Goals as goal

pub loop-rest-init : goal.loop-rest-init
loop-rest-init c = record {
  read = subst (λ l. ReadsAt 0 c.args.text.now (map placed_view l) c.args.text.now) (sym c.in_ok-tokens.ensures) places.ReadsAt.end;
  within = omega arith;
}

pub loop-rest-preserved-in-Some : goal.loop-rest-preserved-in-Some
loop-rest-preserved-in-Some c = record {
  read = skipped c.loop-rest.invariant.read c.loop-rest.invariant.within c.in-Some.ensures.some;
  within = (let a = c.loop-rest.invariant.within in let b = c.in-Some.ensures.shorter in omega arith);
}

pub returns-in_default-next_token-clause-stuck : goal.returns-in_default-next_token-clause-stuck
returns-in_default-next_token-clause-stuck c =
    let some : (length c.loop-rest.rest.now == 0) ≡ false = cc in
    no_token c.loop-rest.invariant.read (λ e. let f : (length c.loop-rest.rest.now == 0) ≡
    (0 == 0) = ap (λ l. length l == 0) e in absurd
    (cc)) c.in_default.ensures.none c.in_default-next_token.ensures.none

pub loop-rest-preserved : goal.loop-rest-preserved
loop-rest-preserved c = record {
  read = (
      let item : Placed = record { token = c.in-Some-next_token.found.token; at = length c.args.text.now - length c.loop-rest.rest.now } in
      let new = c.in_ok-push.ensures.ok in
      let (word, e, w) = c.in-Some-next_token.ensures.some in
      subst (λ l. ReadsAt 0 c.args.text.now l c.in-Some-next_token.found.rest.now) (sym (ap (map placed_view) new ∙ map-append placed_view c.loop-rest.tokens (item ∷ [])))
      (took c.loop-rest.invariant.read c.loop-rest.invariant.within word e w));
  within = (let a = c.loop-rest.invariant.within in let b = c.in-Some-next_token.ensures.shorter in omega arith);
}
