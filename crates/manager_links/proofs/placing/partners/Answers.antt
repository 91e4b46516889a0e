use Rattle.std.proofs.Common.{◌≡◌, ℕ, ◌+◌, ◌<◌, List, ◌∷◌, [], length, take, get_or, length-append, ap, refl, sym, subst, ⊎_elim, ◌∙◌, arith, rules}
use Rattle.std.specs.Prelude.{All, Option, Some, None, slice_get}
use Rattle.std.specs.List.{Any, Contains}
use Rattle.std.proofs.lemmas.List.{take_all}
use Rattle.std.proofs.lemmas.List.Elements.{All-push, All-weaker}
use Rattle.std.proofs.lemmas.Option.{slice_get-get_or, get_or_from_slice_get, slice_get_within}
use Rattle.manager_links.specs.declared.terminals.Slot.TheVariants as S
use Rattle.manager_links.specs.Numbers.{IsSlot}
use Rattle.manager_links.specs.Placed.{Joins}
use Rattle.manager_links.specs.Rules.{IsUnlinked}
use Rattle.manager_links.specs.Terminals.{terminals, ends_of}
use Rattle.manager_links.proofs.Pieces.{zip_length, zip_back, take_read, get_push, first_read}
use Rattle.manager_links.proofs.Places.{partner_is, join_within}
use Rattle.manager_links.proofs.placing.partners.Goals as goal

pub bounds : goal.bounds
bounds c =
    let a = zip_length (IsSlot c.args.plan.now c.args.kernels.now) (terminals c.args.plan.now c.args.kernels.now)
    c.args.slots.now c.requires.slots in
    let b = c.requires.placed.size in
    omega (arith, c.loop-number-test.true)

pub slot_name-requires : goal.slot_name-requires
slot_name-requires c =
    let slots = c.args.slots.now in
    let n = c.loop-number.number in
    let none = S.Port (record { kernel = 0; node = 0 }) in
    let at = zip_back (IsSlot c.args.plan.now c.args.kernels.now) (terminals c.args.plan.now c.args.kernels.now)
    slots n (get_or slots n none) c.requires.slots (slice_get-get_or slots n none (omega (arith, c.loop-number-test.true))) in
    (at.0, at.2)

-- which join stands at a number
stands : (places : List (Option ℕ)) (n join : ℕ) → n < length places → get_or places n None ≡ Some join
    → slice_get places n ≡ Some (Some join)
stands places n join lt is = slice_get-get_or places n None lt ∙ ap Some is

unplaced : (place : Option ℕ) → ((join : ℕ) → place ≡ Some join → ⊥) → place ≡ None
unplaced None not = refl
unplaced (Some join) not = absurd (not join refl)

pub bounds-ends-join : goal.bounds-ends-join
bounds-ends-join c =
    join_within c.args.ends.now c.loop-number.number c.in-Some.join
    (c.requires.placed.by c.loop-number.number c.in-Some.join
    (stands c.args.places.now c.loop-number.number c.in-Some.join
    (let a = zip_length (IsSlot c.args.plan.now c.args.kernels.now) (terminals c.args.plan.now c.args.kernels.now)
    c.args.slots.now c.requires.slots in
    let b = c.requires.placed.size in omega (arith, c.loop-number-test.true)) c.in-Some.is))

pub offset_bounds-ends-join : goal.offset_bounds-ends-join
offset_bounds-ends-join c =
    let lt : c.in-Some.join < length c.args.ends.now =
    join_within c.args.ends.now c.loop-number.number c.in-Some.join
    (c.requires.placed.by c.loop-number.number c.in-Some.join
    (stands c.args.places.now c.loop-number.number c.in-Some.join
    (let a = zip_length (IsSlot c.args.plan.now c.args.kernels.now) (terminals c.args.plan.now c.args.kernels.now)
    c.args.slots.now c.requires.slots in
    let b = c.requires.placed.size in omega (arith, c.loop-number-test.true)) c.in-Some.is)) in
    search rules

pub returns-in_default-clause-err : goal.returns-in_default-clause-err
returns-in_default-clause-err c =
    let plan = c.args.plan.now in
    let ends = terminals plan c.args.kernels.now in
    let slots = c.args.slots.now in
    let n = c.loop-number.number in
    let none = S.Port (record { kernel = 0; node = 0 }) in
    let at = zip_back (IsSlot plan c.args.kernels.now) ends slots n (get_or slots n none) c.requires.slots
    (slice_get-get_or slots n none (omega (arith, c.loop-number-test.true))) in
    let size = zip_length (IsSlot plan c.args.kernels.now) ends slots c.requires.slots in
    let lt : n < length c.args.places.now =
    let b = c.requires.placed.size in omega (arith, c.loop-number-test.true) in
    let free = unplaced (get_or c.args.places.now n None) (λ join. c.in_default.not-Some join) in
    record {
      end = at.0;
      first = first_read (IsUnlinked plan) ends n at.0 (slice_get_within ends n at.0 at.1)
          (sym (get_or_from_slice_get ends n at.0 at.0 at.1))
          (All-weaker (Contains (ends_of plan.joins)) (λ end. IsUnlinked plan end → ⊥)
          (λ end there unlinked. unlinked there) (take n ends) c.loop-number.invariant.linked)
          (c.requires.placed.free n at.0 at.1
          (slice_get-get_or c.args.places.now n None lt ∙ ap Some free));
      is = c.in_ok-end.ensures at.0 at.2;
    }

pub loop-number-preserved : goal.loop-number-preserved
loop-number-preserved c =
    let plan = c.args.plan.now in
    let ends = terminals plan c.args.kernels.now in
    let slots = c.args.slots.now in
    let n = c.loop-number.number in
    let none = S.Port (record { kernel = 0; node = 0 }) in
    let at = zip_back (IsSlot plan c.args.kernels.now) ends slots n (get_or slots n none) c.requires.slots
    (slice_get-get_or slots n none (omega (arith, c.loop-number-test.true))) in
    let size = zip_length (IsSlot plan c.args.kernels.now) ends slots c.requires.slots in
    let lt : n < length c.args.places.now =
    let b = c.requires.placed.size in omega (arith, c.loop-number-test.true) in
    let here = stands c.args.places.now n c.in-Some.join lt c.in-Some.is in
    let old = c.loop-number.partners.items in
    let items = c.in_ok-push.ensures.items in
    let count = c.loop-number.invariant.size in
    let own = subst (λ o. Any (Joins ends n o) plan.joins) (sym c.other.ensures)
    (partner_is ends plan.joins c.args.ends.now n c.in-Some.join c.requires.ends
    (c.requires.placed.by n c.in-Some.join here)) in
    record {
      size = ap length items ∙ length-append old (c.other.result ∷ []) ∙ ap (λ k. k + 1) count;
      each = λ number other is.
          ⊎_elim
          (c.loop-number.invariant.each number other)
          (λ last. subst (λ k. Any (Joins ends k other) plan.joins) (sym (last.0 ∙ count))
          (subst (λ o. Any (Joins ends n o) plan.joins) last.1 own))
          (get_push old c.other.result other number
          (subst (λ xs. slice_get xs number ≡ Some other) items is));
      linked = subst (All (Contains (ends_of plan.joins)))
          (sym (take_read ends n at.0 (slice_get_within ends n at.0 at.1)
          (sym (get_or_from_slice_get ends n at.0 at.0 at.1))))
          (All-push (Contains (ends_of plan.joins)) (take n ends) at.0 c.loop-number.invariant.linked
          (c.requires.placed.taken n c.in-Some.join at.0 at.1 here));
    }

pub returns-clause-ok : goal.returns-clause-ok
returns-clause-ok c =
    let size = zip_length (IsSlot c.args.plan.now c.args.kernels.now) (terminals c.args.plan.now c.args.kernels.now)
    c.args.slots.now c.requires.slots in
    let count = c.loop-number.invariant.size in
    let end = c.loop-number.auto.number-end in
    record {
      size = omega (arith, c.loop-number-test.false);
      each = c.loop-number.invariant.each;
    }

pub returns-clause-linked : goal.returns-clause-linked
returns-clause-linked c =
    let plan = c.args.plan.now in
    let ends = terminals plan c.args.kernels.now in
    let size = zip_length (IsSlot plan c.args.kernels.now) ends c.args.slots.now c.requires.slots in
    subst (All (Contains (ends_of plan.joins)))
    (take_all c.loop-number.number ends (omega (arith, c.loop-number-test.false)))
    c.loop-number.invariant.linked
