use Rattle.std.proofs.Common.{◌≡◌, ◌∙◌, ℕ, ◌+◌, ◌<◌, ◌≤◌, List, [], ◌∷◌, ◌++◌, length, take, get_or, sym, subst, arith}
use Rattle.std.specs.Borrow.{Bor}
use Rattle.std.specs.List.{Contains}
use Rattle.std.proofs.lemmas.List.{map_more, take_all, get_or-map, length-map, take-map}
use Rattle.manager_links.specs.Lists.{AllDiffer}
use Rattle.manager_links.specs.Naming.{texts_of}
use Rattle.manager_links.proofs.Pieces.{differ_push, again_read}
use Rattle.manager_links.proofs.Naming.{HaveMet, met_more, is_there, is_new, was_new, was_there}
use Rattle.manager_links.proofs.names.all_differ.Goals as goal

abbrev none : Bor (List ℕ)
none = record { ref_ptr = (0, 0); now = [] }

-- the texts with one more
more : (names : List (Bor (List ℕ))) (i : ℕ) → i < length names
    → texts_of (take i names) ++ (get_or names i none).now ∷ [] ≡ texts_of (take (i + 1) names)
more names i lt = sym (map_more (λ (b : Bor (List ℕ)). b.now) names i none lt)

pub loop-name-preserved : goal.loop-name-preserved
loop-name-preserved c =
    let names = c.args.names.now in
    let i = c.loop-name.name-index in
    let seen = texts_of (take i names) in
    let name = get_or names i none in
    let lt : i < length names = omega (arith, c.loop-name-test.true) in
    let new = was_new _ _ _ c.in_ok-insert.ensures.added (c.loop-name.invariant.met name) c.if-not-branch.false in
    record {
      met = subst (HaveMet c.insert.new.self) (more names i lt)
          (λ q. met_more name.now q.now seen _ _ (c.in_ok-insert.ensures.updates.0 q) (c.loop-name.invariant.met q));
      differ = subst (λ xs. AllDiffer xs) (more names i lt)
          (differ_push seen name.now c.loop-name.invariant.differ (is_new seen name.now new));
    }

pub returns-then-not-branch-clause-err : goal.returns-then-not-branch-clause-err
returns-then-not-branch-clause-err c =
    let names = c.args.names.now in
    let i = c.loop-name.name-index in
    let name = get_or names i none in
    let lt : i < length names = omega (arith, c.loop-name-test.true) in
    let there = was_there _ _ _ c.in_ok-insert.ensures.added (c.loop-name.invariant.met name) c.if-not-branch.true in
    let within : i < length (texts_of names) = rw length-map lt in
    let before = take-map (λ (b : Bor (List ℕ)). b.now) i names in
    again_read (texts_of names) i _ within
    (c.in_ok-text_of.ensures ∙ sym (get_or-map (λ (b : Bor (List ℕ)). b.now) names i none _ lt))
    (subst (λ xs. AllDiffer xs) (sym before) c.loop-name.invariant.differ)
    (subst (λ xs. Contains xs c.in_ok-text_of.field-0) (sym before)
    (subst (Contains (texts_of (take i names))) (sym c.in_ok-text_of.ensures)
    (is_there (texts_of (take i names)) name.now there)))

pub returns-clause-ok : goal.returns-clause-ok
returns-clause-ok c =
    let end : length c.args.names.now ≤ c.loop-name.name-index = omega (arith, c.loop-name-test.false) in
    subst (λ xs. AllDiffer (texts_of xs)) (take_all _ _ end) c.loop-name.invariant.differ
