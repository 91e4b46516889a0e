-- Terminals that are known one after another.
use Rattle.std.proofs.Common.{◌≡◌, ℕ, Bool, true, false, ◌&&◌, nat_eq, List, [], ◌∷◌, ◌++◌, length, refl, sym, ap, ◌∙◌, subst, ⊎_elim}
use Rattle.std.specs.Prelude.{Option, Some, None, if◌then◌else◌, slice_get, MatchOption}
use Rattle.std.specs.Cmp.Lexicographic.{pointwise, bytes_decides}
use Rattle.std.specs.List.{AllZip, Contains}
use Rattle.std.specs.Option.{option_eq}
use Rattle.std.proofs.lemmas.Bool.Decides.{eqb_tells}
use Rattle.std.proofs.lemmas.List.Elements.{Contains-push_cases}
use Rattle.std.proofs.lemmas.Option.{same_Some}
use Rattle.kernel_meaning.specs.declared.plan.Plan.{Plan}
use Rattle.stream_graph.specs.declared.kernel.Kernel.{Kernel}
use Rattle.manager_links.specs.declared.names.Names.{Names}
use Rattle.manager_links.specs.declared.terminals.Slot.{Slot}
use Rattle.manager_links.specs.declared.terminals.Terminals.{Terminals}
use Rattle.manager_links.specs.Numbers.{number_in, is_same, left_of, right_of, Number, IsSlot, Knows}
use Rattle.manager_links.specs.Terminals.{Terminal}
use Rattle.manager_links.proofs.Pieces.{get_left, get_end, zip_push, zip_length}

-- ---- names

same_kernel : (one other : Option ℕ) → option_eq nat_eq one other ≡ true → one ≡ other
same_kernel None None e = refl
same_kernel None (Some b) e = absurd (cc)
same_kernel (Some a) None e = absurd (cc)
same_kernel (Some a) (Some b) e = ap Some (⊎_elim (λ p. p.1) (λ p. absurd (cc p.0)) (eqb_tells a b))

kernel_same : (one : Option ℕ) → option_eq nat_eq one one ≡ true
kernel_same None = refl
kernel_same (Some a) = ⊎_elim (λ p. p.0) (λ p. absurd (p.1 refl)) (eqb_tells a a)

both : (a b : Bool) → a && b ≡ true → (a ≡ true) × (b ≡ true)
both true true e = (refl, refl)
both true false e = absurd (cc)
both false b e = absurd (cc)

same_names : (kernel : Option ℕ) (name : List ℕ) (other : Option ℕ) (other_name : List ℕ)
    → is_same kernel name other other_name ≡ true → (kernel ≡ other) × (name ≡ other_name)
same_names kernel name other other_name e =
    let parts = both _ _ e in
    (same_kernel kernel other parts.0, (bytes_decides name other_name).0 parts.1)

names_same : (kernel : Option ℕ) (name : List ℕ) → is_same kernel name kernel name ≡ true
names_same kernel name =
    ap (λ b. b && pointwise nat_eq name name) (kernel_same kernel)
    ∙ (bytes_decides name name).1 refl

-- ---- their numbers

-- the names of terminals tell them apart
abbrev TellsApart : (Option ℕ → List ℕ → Terminal) → Type 0
TellsApart end =
    (kernel : Option ℕ) (name : List ℕ) (other : Option ℕ) (other_name : List ℕ)
    → end kernel name ≡ end other other_name → (kernel ≡ other) × (name ≡ other_name)

lefts_apart : TellsApart left_of
lefts_apart None name None other_name e = (refl, cc)
lefts_apart None name (Some k) other_name e = absurd (cc)
lefts_apart (Some k) name None other_name e = absurd (cc)
lefts_apart (Some k) name (Some l) other_name e = (cc, cc)

rights_apart : TellsApart right_of
rights_apart None name None other_name e = (refl, cc)
rights_apart None name (Some k) other_name e = absurd (cc)
rights_apart (Some k) name None other_name e = absurd (cc)
rights_apart (Some k) name (Some l) other_name e = (cc, cc)

left_no_right : (kernel : Option ℕ) (name : List ℕ) (other : Option ℕ) (other_name : List ℕ)
    → left_of kernel name ≡ right_of other other_name → ⊥
left_no_right None name None other_name e = cc
left_no_right None name (Some k) other_name e = cc
left_no_right (Some k) name None other_name e = cc
left_no_right (Some k) name (Some l) other_name e = cc

-- one more name has the next number
number_more : (end : Option ℕ → List ℕ → Terminal) → TellsApart end → (old new : Names)
    (ends : List Terminal) (kernel : Option ℕ) (name : List ℕ) → Number end old ends
    → ((other : Option ℕ) (other_name : List ℕ) → number_in new other other_name
    ≡ (if is_same kernel name other other_name then Some (length ends)
    else number_in old other other_name))
    → Number end new (ends ++ end kernel name ∷ [])
number_more end apart old new ends kernel name known adds = record {
  found = λ other other_name number e.
      found other other_name number (is_same kernel name other other_name) refl
      (sym (adds other other_name) ∙ e);
  absent = λ other other_name e.
      absent other other_name (is_same kernel name other other_name) refl
      (sym (adds other other_name) ∙ e);
}
  where
    found : (other : Option ℕ) (other_name : List ℕ) (number : ℕ) (same : Bool)
        → is_same kernel name other other_name ≡ same
        → (if is_same kernel name other other_name then Some (length ends)
        else number_in old other other_name) ≡ Some number
        → slice_get (ends ++ end kernel name ∷ []) number ≡ Some (end other other_name)
    found other other_name number true is e =
        let parts = same_names kernel name other other_name is in
        let here : length ends ≡ number =
        same_Some _ _ (sym (ap (λ b. if b then Some (length ends) else number_in old other other_name) is) ∙ e) in
        subst (λ n. slice_get (ends ++ end kernel name ∷ []) n ≡ Some (end other other_name)) here
        (get_end ends [] (end kernel name) ∙ ap Some (ap (λ k. end k name) parts.0 ∙ ap (end other) parts.1))
    found other other_name number false is e =
        get_left ends (end kernel name ∷ []) number (end other other_name)
        (known.found other other_name number
        (sym (ap (λ b. if b then Some (length ends) else number_in old other other_name) is) ∙ e))

    absent : (other : Option ℕ) (other_name : List ℕ) (same : Bool)
        → is_same kernel name other other_name ≡ same
        → (if is_same kernel name other other_name then Some (length ends)
        else number_in old other other_name) ≡ None
        → Contains (ends ++ end kernel name ∷ []) (end other other_name) → ⊥
    absent other other_name true is e there =
        let none = sym (ap (λ b. if b then Some (length ends) else number_in old other other_name) is) ∙ e in cc
    absent other other_name false is e there =
        ⊎_elim
        (λ earlier. known.absent other other_name
        (sym (ap (λ b. if b then Some (length ends) else number_in old other other_name) is) ∙ e) earlier)
        (λ here. differ (apart kernel name other other_name here))
        (Contains-push_cases ends (end kernel name) (end other other_name) there)
      where
        differ : (kernel ≡ other) × (name ≡ other_name) → ⊥
        differ parts =
            let same = subst (λ k. is_same kernel name k other_name ≡ true) parts.0
            (subst (λ n. is_same kernel name kernel n ≡ true) parts.1 (names_same kernel name)) in cc

-- a terminal without a name of this kind changes no number
number_kept : (end : Option ℕ → List ℕ → Terminal) (names : Names) (ends : List Terminal)
    (more : Terminal) → ((kernel : Option ℕ) (name : List ℕ) → more ≡ end kernel name → ⊥)
    → Number end names ends → Number end names (ends ++ more ∷ [])
number_kept end names ends more other known = record {
  found = λ kernel name number e.
      get_left ends (more ∷ []) number (end kernel name) (known.found kernel name number e);
  absent = λ kernel name e there.
      ⊎_elim (known.absent kernel name e) (other kernel name)
      (Contains-push_cases ends more (end kernel name) there);
}

-- ---- terminals

pub knows_left : (plan : Plan) (kernels : List Kernel) (ends : List Terminal) (old new : Terminals)
    (kernel : Option ℕ) (name : List ℕ) (slot : Slot) (number : ℕ) → Knows plan kernels ends old
    → IsSlot plan kernels (left_of kernel name) slot → number ≡ length old.slots.items
    → new.slots.items ≡ old.slots.items ++ slot ∷ [] → new.rights ≡ old.rights
    → ((other : Option ℕ) (other_name : List ℕ) → number_in new.lefts other other_name
    ≡ (if is_same kernel name other other_name then Some number
    else number_in old.lefts other other_name))
    → Knows plan kernels (ends ++ left_of kernel name ∷ []) new
knows_left plan kernels ends old new kernel name slot number known is at slots rights adds =
    let len = zip_length (IsSlot plan kernels) ends old.slots.items known.slots in
    record {
      slots = subst (λ xs. AllZip (IsSlot plan kernels) (ends ++ left_of kernel name ∷ []) xs) (sym slots)
          (zip_push (IsSlot plan kernels) ends old.slots.items (left_of kernel name) slot known.slots is);
      lefts = number_more left_of lefts_apart old.lefts new.lefts ends kernel name known.lefts
          (λ other other_name. adds other other_name
          ∙ ap (λ n. if is_same kernel name other other_name then Some n else number_in old.lefts other other_name) (at ∙ sym len));
      rights = subst (λ r. Number right_of r (ends ++ left_of kernel name ∷ [])) (sym rights)
          (number_kept right_of old.rights ends (left_of kernel name) (left_no_right kernel name) known.rights);
    }

pub knows_right : (plan : Plan) (kernels : List Kernel) (ends : List Terminal) (old new : Terminals)
    (kernel : Option ℕ) (name : List ℕ) (slot : Slot) (number : ℕ) → Knows plan kernels ends old
    → IsSlot plan kernels (right_of kernel name) slot → number ≡ length old.slots.items
    → new.slots.items ≡ old.slots.items ++ slot ∷ [] → new.lefts ≡ old.lefts
    → ((other : Option ℕ) (other_name : List ℕ) → number_in new.rights other other_name
    ≡ (if is_same kernel name other other_name then Some number
    else number_in old.rights other other_name))
    → Knows plan kernels (ends ++ right_of kernel name ∷ []) new
knows_right plan kernels ends old new kernel name slot number known is at slots lefts adds =
    let len = zip_length (IsSlot plan kernels) ends old.slots.items known.slots in
    record {
      slots = subst (λ xs. AllZip (IsSlot plan kernels) (ends ++ right_of kernel name ∷ []) xs) (sym slots)
          (zip_push (IsSlot plan kernels) ends old.slots.items (right_of kernel name) slot known.slots is);
      lefts = subst (λ l. Number left_of l (ends ++ right_of kernel name ∷ [])) (sym lefts)
          (number_kept left_of old.lefts ends (right_of kernel name)
          (λ other other_name e. left_no_right other other_name kernel name (sym e)) known.lefts);
      rights = number_more right_of rights_apart old.rights new.rights ends kernel name known.rights
          (λ other other_name. adds other other_name
          ∙ ap (λ n. if is_same kernel name other other_name then Some n else number_in old.rights other other_name) (at ∙ sym len));
    }

-- what is found by a name
pub finds : (end : Option ℕ → List ℕ → Terminal) (names : Names) (ends : List Terminal)
    (kernel : Option ℕ) (name : List ℕ) (sought : Terminal) (found : Option ℕ)
    → Number end names ends → sought ≡ end kernel name → found ≡ number_in names kernel name
    → MatchOption found (Contains ends sought → ⊥) (λ number. slice_get ends number ≡ Some sought)
finds end names ends kernel name sought None known is e = λ there.
    known.absent kernel name (sym e) (subst (Contains ends) is there)
finds end names ends kernel name sought (Some number) known is e =
    known.found kernel name number (sym e) ∙ ap Some (sym is)
