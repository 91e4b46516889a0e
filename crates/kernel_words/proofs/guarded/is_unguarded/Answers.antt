use Rattle.std.proofs.Common.{◌≡◌, ◌∙◌, ℕ, Some, None, sym, ap}
use Rattle.std.specs.Prelude.{pos}
use Rattle.std.proofs.lemmas.Bool.{false≢true}
use Rattle.stream_graph.specs.LookUps.{control_of}
use Rattle.kernel_words.specs.Streams.{values_of}
use Rattle.kernel_words.proofs.guarded.is_unguarded.Goals as goal

not_none : (x : ℕ) → None ≡ Some x → ⊥
not_none x e = cc

not_some : (x : ℕ) → Some x ≡ None → ⊥
not_some x e = cc

some_same : (x y : ℕ) → Some x ≡ Some y → x ≡ y
some_same x y e = cc

pub returns-in_default-clause-yes : goal.returns-in_default-clause-yes
returns-in_default-clause-yes c = λ e. absurd (false≢true e)

pub returns-in_default-clause-no : goal.returns-in_default-clause-no
returns-in_default-clause-no c = λ e u.
    not_none u.control (c.in_default.ensures ∙ ap (control_of c.args.kernel.now.nodes) c.new.ensures ∙ u.is)

pub returns-in-Some-word-clause-yes : goal.returns-in-Some-word-clause-yes
returns-in-Some-word-clause-yes c = λ e. absurd (false≢true e)

pub returns-in-Some-word-clause-no : goal.returns-in-Some-word-clause-no
returns-in-Some-word-clause-no c = λ e u.
    let same : c.in-Some.port ≡ u.control =
    some_same _ _ (c.in-Some.ensures ∙ ap (control_of c.args.kernel.now.nodes) c.new.ensures ∙ u.is) in
    not_some _ (c.in-Some-word.ensures ∙ ap (λ n. values_of c.args.streams.now n (pos c.args.place.tick)) same ∙ u.undefined)

pub returns-in-None-clause-yes : goal.returns-in-None-clause-yes
returns-in-None-clause-yes c = λ e. record {
  node = c.requires.node;
  tick = c.requires.tick;
  control = c.in-Some.port;
  is = sym (c.in-Some.ensures ∙ ap (control_of c.args.kernel.now.nodes) c.new.ensures);
  undefined = sym c.in-None.ensures;
}

pub returns-in-None-clause-no : goal.returns-in-None-clause-no
returns-in-None-clause-no c = λ e u. false≢true (sym e)
