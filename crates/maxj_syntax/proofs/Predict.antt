-- What each step of a parser that looks at one token does to the stack.
use Rattle.std.proofs.Common.{◌≡◌, List, [], ◌∷◌, ◌++◌, Bool, true, false, ◌&&◌, ◌||◌, Option, Some, None, refl, ap, subst, ◌∙◌, append_assoc, ◌⊎◌, inl, inr}
use Rattle.grammar.specs.Stack.{Runs, Starts, Leads, Refused, all_empty, may_all, head_of, Follow, Ends}
use Rattle.grammar.proofs.Stack.{Predicts}
use Rattle.grammar.proofs.Leftmost.{starts_from_runs}

or_true : (a b : Bool) → (a || b) ≡ true → (a ≡ true) ⊎ (b ≡ true)
or_true true b e = inl refl
or_true false b e = inr e

and_true : (a b : Bool) → (a && b) ≡ true → (a ≡ true) × (b ≡ true)
and_true true b e = (refl, e)
and_true false b e = absurd (cc)

or_left : (a b : Bool) → a ≡ true → (a || b) ≡ true
or_left a b e = rw e refl

or_right : (a b : Bool) → b ≡ true → (a || b) ≡ true
or_right true b e = refl
or_right false b e = e

and_both : (a b : Bool) → a ≡ true → b ≡ true → (a && b) ≡ true
and_both a b e f = rw e f

module _ {P T : Type 0} (Is : P → T → Type 0) (Choice : P → List P → Type 0) where
  pub leads_stay : (ps : List P) (xs : List T) → Leads Is Choice ps xs ps xs
  leads_stay ps xs = record { read = []; split = refl; starts = λ u v e s. s; starts_back = λ u s. s; runs = λ r. r; runs_back = λ r. r }

  pub leads_on : {ps qs rs : List P} {xs ys zs : List T} → Leads Is Choice ps xs qs ys → Leads Is Choice qs ys rs zs → Leads Is Choice ps xs rs zs
  leads_on {zs = zs} a b = record {
    read = a.read ++ b.read;
    split = rw append_assoc (a.split ∙ ap (λ l. a.read ++ l) b.split);
    starts = λ u v e s. b.starts u v e (a.starts (b.read ++ u) v (rw append_assoc (b.split ∙ ap (λ l. b.read ++ l) e)) (rw append_assoc at s));
    starts_back = λ u s. rw append_assoc (a.starts_back (b.read ++ u) (b.starts_back u s));
    runs = λ r. b.runs (a.runs r);
    runs_back = λ r. a.runs_back (b.runs_back r);
  }

  pub refused_after : {ps qs : List P} {xs ys zs : List T} → Leads Is Choice ps xs qs ys → Refused Is Choice qs ys zs → Refused Is Choice ps xs zs
  refused_after a b = record {
    read = a.read ++ b.read;
    split = rw append_assoc (a.split ∙ ap (λ l. a.read ++ l) b.split);
    begun = a.starts_back b.read b.begun;
    bad = λ t rest e s. b.bad t rest e (a.starts (b.read ++ t ∷ []) rest (rw append_assoc (b.split ∙ ap (λ l. b.read ++ l) e)) (rw append_assoc at s));
    short = λ e r. b.short e (a.runs r);
  }

  eaten : {p : P} {ps : List P} {t : T} {u : List T} → ((qs : List P) → Choice p qs → ⊥) → Starts Is Choice (p ∷ ps) (t ∷ u) → Starts Is Choice ps u
  eaten only (Starts.eat i s) = s
  eaten only (Starts.pick qs c s) = absurd (only qs c)

  eaten_whole : {p : P} {ps : List P} {t : T} {u : List T} → ((qs : List P) → Choice p qs → ⊥) → Runs Is Choice (p ∷ ps) (t ∷ u) → Runs Is Choice ps u
  eaten_whole only (Runs.eat i s) = s
  eaten_whole only (Runs.pick qs c s) = absurd (only qs c)

  -- a token
  pub leads_eat : (p : P) (ps : List P) (t : T) (ys : List T) → ((qs : List P) → Choice p qs → ⊥) → Is p t → Leads Is Choice (p ∷ ps) (t ∷ ys) ps ys
  leads_eat p ps t ys only i = record {
    read = t ∷ [];
    split = refl;
    starts = λ u v e s. eaten only s;
    starts_back = λ u s. Starts.eat i s;
    runs = λ r. eaten_whole only r;
    runs_back = λ r. Runs.eat i r;
  }

  is_it : {p : P} {ps : List P} {t : T} {u : List T} → ((qs : List P) → Choice p qs → ⊥) → Starts Is Choice (p ∷ ps) (t ∷ u) → Is p t
  is_it only (Starts.eat i s) = i
  is_it only (Starts.pick qs c s) = absurd (only qs c)

  not_short : {p : P} {ps : List P} → ((qs : List P) → Choice p qs → ⊥) → Runs Is Choice (p ∷ ps) [] → ⊥
  not_short only (Runs.pick qs c s) = only qs c

  -- another token, or none
  pub refused_eat : (p : P) (ps : List P) (xs : List T) → ((qs : List P) → Choice p qs → ⊥) → ((t : T) (ys : List T) → xs ≡ t ∷ ys → Is p t → ⊥) → Refused Is Choice (p ∷ ps) xs xs
  refused_eat p ps xs only other = record {
    read = [];
    split = refl;
    begun = Starts.end;
    bad = λ t rest e s. other t rest e (is_it only s);
    short = λ e r. not_short only (subst (λ l. Runs Is Choice (p ∷ ps) l) e r);
  }

  -- tokens behind the end
  pub refused_rest : (t : T) (ys : List T) → Refused Is Choice [] (t ∷ ys) (t ∷ ys)
  refused_rest t ys = record {
    read = [];
    split = refl;
    begun = Starts.end;
    bad = λ u rest e s. nothing s;
    short = λ e r. absurd (cc);
  }
    where
      nothing : {u : T} {us : List T} → Starts Is Choice [] (u ∷ us) → ⊥
      nothing s = elim s [ ]

module _ {P T : Type 0} (Is : P → T → Type 0) (Choice : P → List P → Type 0) (may : P → T
    → Bool) (empties : P → Bool) (peeks : P → T → Bool) (choose : P → Option T
    → Option (List P)) (g : Predicts Is Choice may empties peeks choose) where
  pub may_append : (qs ps : List P) (t : T) → may_all may empties (qs ++ ps) t ≡ true → (may_all may empties qs t ≡ true) ⊎ ((all_empty empties qs ≡ true) × (may_all may empties ps t ≡ true))
  may_append [] ps t e = inr (refl, e)
  may_append (q ∷ qs) ps t e = elim (or_true (may q t) _ e) [
    | inl m ↦ inl (or_left _ _ m)
    | inr h ↦ let b = and_true (empties q) _ h in elim (may_append qs ps t b.1) [
      | inl m ↦ inl (or_right (may q t) _ (and_both _ _ b.0 m))
      | inr x ↦ inr (and_both _ _ b.0 x.0, x.1)
    ]
  ]

  empty_append : (qs ps : List P) → all_empty empties (qs ++ ps) ≡ true → (all_empty empties qs ≡ true) × (all_empty empties ps ≡ true)
  empty_append [] ps e = (refl, e)
  empty_append (q ∷ qs) ps e = let b = and_true (empties q) _ e in let x = empty_append qs ps b.1 in (and_both _ _ b.0 x.0, x.1)

  pub starts_may : {ps : List P} {t : T} {u : List T} → Starts Is Choice ps (t ∷ u) → may_all may empties ps t ≡ true
  starts_may (Starts.eat {p = p} {t = t} i s) = or_left _ _ (g.is_may p t i)
  starts_may {t = t} (Starts.pick {p = p} qs {ps = ps} c s) = elim (may_append qs ps t (starts_may s)) [
    | inl m ↦ or_left _ _ (g.choice_may p qs t c m)
    | inr x ↦ or_right (may p t) _ (and_both _ _ (g.choice_empty p qs c x.0) x.1)
  ]

  pub runs_empty : {ps : List P} → Runs Is Choice ps [] → all_empty empties ps ≡ true
  runs_empty Runs.end = refl
  runs_empty (Runs.pick {p = p} qs {ps = ps} c s) = let b = empty_append qs ps (runs_empty s) in and_both _ _ (g.choice_empty p qs c b.0) b.1

  -- the choice with which the tokens go on is the one that is taken
  pub unique : {p : P} {qs : List P} (ps : List P) {t : T} {u : List T} → Ends may empties peeks p ps → Choice p qs → Starts Is Choice (qs ++ ps) (t ∷ u) → choose p (Some t) ≡ Some qs
  unique {p = p} {qs = qs} ps {t = t} ends c s = elim (may_append qs ps t (starts_may s)) [
    | inl m ↦ g.exact p qs t c (inl m)
    | inr x ↦ g.exact p qs t c (inr (x.0, ended (peeks p t) refl x.1))
  ]
    where
      ended : (b : Bool) → peeks p t ≡ b → may_all may empties ps t ≡ true → peeks p t ≡ false
      ended false e m = e
      ended true e m = let f = ends t e in absurd (cc)

  pub unique_end : {p : P} {qs : List P} (ps : List P) → Choice p qs → Runs Is Choice (qs ++ ps) [] → choose p None ≡ Some qs
  unique_end {p = p} {qs = qs} ps c r = g.exact_end p qs c (empty_append qs ps (runs_empty r)).0

  picked : {p : P} {qs ps : List P} {t : T} {u : List T} → Ends may empties peeks p ps → choose p (Some t) ≡ Some qs → Starts Is Choice (p ∷ ps) (t ∷ u) → Starts Is Choice (qs ++ ps) (t ∷ u)
  picked {p = p} {t = t} ends e (Starts.eat i s) = absurd (g.one_kind p _ t (g.sound p (Some t) _ e) i)
  picked {p = p} {qs = qs} {ps = ps} {t = t} {u = u} ends e (Starts.pick rs c s) =
      let same : rs ≡ qs = (let f = unique ps ends c s in cc) in subst (λ x. Starts Is Choice (x ++ ps) (t ∷ u)) same s

  picked_whole : {p : P} {qs ps : List P} {t : T} {u : List T} → Ends may empties peeks p ps → choose p (Some t) ≡ Some qs → Runs Is Choice (p ∷ ps) (t ∷ u) → Runs Is Choice (qs ++ ps) (t ∷ u)
  picked_whole {p = p} {t = t} ends e (Runs.eat i s) = absurd (g.one_kind p _ t (g.sound p (Some t) _ e) i)
  picked_whole {p = p} {qs = qs} {ps = ps} {t = t} {u = u} ends e (Runs.pick rs c s) =
      let same : rs ≡ qs = (let f = unique ps ends c (starts_from_runs Is Choice s) in cc) in subst (λ x. Runs Is Choice (x ++ ps) (t ∷ u)) same s

  picked_end : {p : P} {qs ps : List P} → choose p None ≡ Some qs → Runs Is Choice (p ∷ ps) [] → Runs Is Choice (qs ++ ps) []
  picked_end {p = p} {qs = qs} {ps = ps} e (Runs.pick rs c s) =
      let same : rs ≡ qs = (let f = unique_end ps c s in cc) in subst (λ x. Runs Is Choice (x ++ ps) []) same s

  -- a production
  pub leads_pick : (p : P) (qs ps : List P) (xs : List T) → Ends may empties peeks p ps → choose p (head_of xs) ≡ Some qs → Leads Is Choice (p ∷ ps) xs (qs ++ ps) xs
  leads_pick p qs ps [] ends e = record {
    read = [];
    split = refl;
    starts = λ u v f s. none u v f;
    starts_back = λ u s. Starts.pick qs (g.sound p None qs e) s;
    runs = λ r. picked_end e r;
    runs_back = λ r. Runs.pick qs (g.sound p None qs e) r;
  }
    where
      none : (u v : List T) → [] ≡ u ++ v → Starts Is Choice (qs ++ ps) u
      none [] v f = Starts.end
      none (x ∷ u) v f = absurd (cc)
  leads_pick p qs ps (t ∷ ys) ends e = record {
    read = [];
    split = refl;
    starts = λ u v f s. from u v f s;
    starts_back = λ u s. Starts.pick qs (g.sound p (Some t) qs e) s;
    runs = λ r. picked_whole ends e r;
    runs_back = λ r. Runs.pick qs (g.sound p (Some t) qs e) r;
  }
    where
      from : (u v : List T) → t ∷ ys ≡ u ++ v → Starts Is Choice (p ∷ ps) u → Starts Is Choice (qs ++ ps) u
      from [] v f s = Starts.end
      from (x ∷ u) v f s = let same : t ≡ x = cc in picked ends (rw (← same) e) s

  no_choice : {p : P} (ps : List P) {t : T} {u : List T} → Ends may empties peeks p ps → choose p (Some t) ≡ None → (Is p t → ⊥) → Starts Is Choice (p ∷ ps) (t ∷ u) → ⊥
  no_choice {p = p} ps {t = t} ends e other (Starts.eat i s) = other i
  no_choice {p = p} ps {t = t} ends e other (Starts.pick rs c s) = let f = unique ps ends c s in absurd (cc)

  no_choice_end : {p : P} {ps : List P} → choose p None ≡ None → Runs Is Choice (p ∷ ps) [] → ⊥
  no_choice_end {ps = ps} e (Runs.pick rs c s) = let f = unique_end ps c s in absurd (cc)

  -- a production that no choice goes on with
  pub refused_pick : (p : P) (ps : List P) (xs : List T) → Ends may empties peeks p ps → choose p (head_of xs) ≡ None → ((t : T) → Is p t → ⊥) → Refused Is Choice (p ∷ ps) xs xs
  refused_pick p ps xs ends e production = record {
    read = [];
    split = refl;
    begun = Starts.end;
    bad = λ t ys f s. no_more xs t ys f e s;
    short = λ f r. no_end xs f e r;
  }
    where
      no_more : (xs : List T) (t : T) (ys : List T) → xs ≡ t ∷ ys → choose p (head_of xs) ≡ None → Starts Is Choice (p ∷ ps) (t ∷ []) → ⊥
      no_more xs t ys f e s = no_choice ps ends (subst (λ l. choose p (head_of l) ≡ None) f e) (production t) s

      no_end : (xs : List T) → xs ≡ [] → choose p (head_of xs) ≡ None → Runs Is Choice (p ∷ ps) xs → ⊥
      no_end [] f e r = no_choice_end e r
      no_end (x ∷ xs) f e r = absurd (cc)

  -- behind q stand the rest of the choice and what stands below p
  pub ends_before : (p q : P) (rest ps : List P) → Follow may empties peeks p q rest → Ends may empties peeks p ps → Ends may empties peeks q (rest ++ ps)
  ends_before p q rest ps f e t h = no (may_all may empties (rest ++ ps) t) refl
    where
      no : (b : Bool) → may_all may empties (rest ++ ps) t ≡ b → may_all may empties (rest ++ ps) t ≡ false
      no false m = m
      no true m = elim (may_append rest ps t m) [
        | inl x ↦ let y = (f t h).0 in absurd (cc)
        | inr x ↦ let y = e t ((f t h).1 x.0) in let z = x.1 in absurd (cc)
      ]
