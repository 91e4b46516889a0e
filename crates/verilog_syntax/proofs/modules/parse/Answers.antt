use Rattle.std.proofs.Common.{◌≡◌, ◌∙◌, ◌-◌, ◌==◌, List, [], ◌∷◌, length, false, true, sym, ap, subst}
use Rattle.std.proofs.lemmas.List.{nil_from_length, length-map}
use Rattle.grammar.specs.Grammar.{FirstBad}
use Rattle.rtl_text.specs.Productions.{Is, Choice}
use Rattle.verilog_syntax.specs.Parsed.{IsFile, tokens_of}
use Rattle.verilog_syntax.specs.Scanning.{token_view}
use Rattle.verilog_syntax.specs.declared.token.Placed.{Placed}
use Rattle.text_scan.proofs.ByteTests.{eq_same}
use Rattle.verilog_syntax.proofs.Whole.{whole, whole_only, stop_is_bad, more_is_bad}
use Rattle.verilog_syntax.proofs.modules.parse.Goals as goal

-- as many tokens as the parser has
counted : (xs ys : List Placed) → FirstBad Is Choice IsFile (tokens_of xs) (length (tokens_of xs) - length (tokens_of ys)) → FirstBad Is Choice IsFile (tokens_of xs) (length xs - length ys)
counted xs ys f =
    let a = length-map xs (λ (t : Placed). token_view t.token) in
    let b = length-map ys (λ (t : Placed). token_view t.token) in
    let same : length (tokens_of xs) - length (tokens_of ys) ≡ length xs - length ys = cc in
    subst (λ n. FirstBad Is Choice IsFile (tokens_of xs) n) same f

none : (xs : List Placed) → (length xs == 0) ≡ true → tokens_of xs ≡ []
none xs e = ap tokens_of (nil_from_length xs (eq_same (length xs) 0 e))

some : (xs : List Placed) → (length xs == 0) ≡ false → tokens_of xs ≡ [] → ⊥
some [] e f = cc
some (x ∷ xs) e f = cc

pub returns-then-is_empty-clause-derived : goal.returns-then-is_empty-clause-derived
returns-then-is_empty-clause-derived c = whole c.in-Ok.ensures (none c.file-outcome.new.self.rest.now (sym c.is_empty.ensures ∙ c.if-is_empty.true))

pub returns-then-is_empty-clause-only : goal.returns-then-is_empty-clause-only
returns-then-is_empty-clause-only c = whole_only c.in-Ok.ensures (none c.file-outcome.new.self.rest.now (sym c.is_empty.ensures ∙ c.if-is_empty.true))

pub returns-in-Ok-clause-refused : goal.returns-in-Ok-clause-refused
returns-in-Ok-clause-refused c = record {
  token = length c.args.tokens.now - length c.file-outcome.new.self.rest.now;
  bad = counted c.args.tokens.now c.file-outcome.new.self.rest.now (more_is_bad c.in-Ok.ensures (some c.file-outcome.new.self.rest.now (sym c.is_empty.ensures ∙ c.if-is_empty.false)));
  place = c.place_at.ensures;
}

pub returns-clause-refused : goal.returns-clause-refused
returns-clause-refused c = record {
  token = length c.args.tokens.now - length c.file-outcome.new.self.rest.now;
  bad = counted c.args.tokens.now c.file-outcome.new.self.rest.now (stop_is_bad (c.in-Err.ensures.stops c.in-Syntax.is));
  place = c.place_at-in-Syntax.ensures;
}
