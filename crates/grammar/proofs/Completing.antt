-- What begins a part is what some further tokens complete.
use Rattle.std.proofs.Common.{◌≡◌, List, [], ◌∷◌, ◌++◌, refl, sym, subst, append_assoc}
use Rattle.std.proofs.lemmas.List.{append-nil}
use Rattle.grammar.specs.Grammar.{Derives, Begins}
use Rattle.grammar.specs.Completing.{IsProductive, IsCompleted}
use Rattle.grammar.proofs.Leftmost.{joined, one, runs_from_derives, starts_from_runs, starts_front, begins_from_starts}

module _ {P T : Type 0} (Is : P → T → Type 0) (Choice : P → List P → Type 0) where
  all_lists : IsProductive Is Choice → (ps : List P) → (ts : List T) × Derives Is Choice ps ts
  all_lists lists [] = ([], Derives.none)
  all_lists lists (p ∷ ps) =
      let a = lists p in
      let b = all_lists lists ps in
      (a.0 ++ b.0, joined Is Choice a.1 b.1)

  pub completed : IsProductive Is Choice → {p : P} {ts : List T} → Begins Is Choice p ts → IsCompleted Is Choice p ts
  completed lists (Begins.none {p = p}) = lists p
  completed lists (Begins.token i) = ([], Derives.token i Derives.none)
  completed lists (Begins.choice {p = p} {q = q} {first = first} rest {front = f} {back = b} c d e) =
      let inner = completed lists e in
      let behind = all_lists lists rest in
      let whole = one Is Choice c (joined Is Choice d (joined Is Choice inner.1 behind.1)) in
      (inner.0 ++ behind.0, subst (λ l. Derives Is Choice (p ∷ []) l) (rw (append_assoc, append_assoc) refl) whole)

  pub begun : {p : P} {ts : List T} → IsCompleted Is Choice p ts → Begins Is Choice p ts
  begun {ts = ts} c = begins_from_starts Is Choice (starts_front Is Choice ts c.0 (starts_from_runs Is Choice (runs_from_derives Is Choice c.1)))
