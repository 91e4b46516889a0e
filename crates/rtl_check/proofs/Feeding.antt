-- The marks of nets and memories after one more source.
use Rattle.std.proofs.Common.{◌≡◌, ℕ, ◌+◌, ◌<◌, ◌≤◌, Bool, true, false, ◌||◌, ◌&&◌, not, nat_eq, cond, List, [], ◌∷◌, ◌++◌, length, set, Some, refl, sym, ◌∙◌, ap, subst, arith, ◌⊎◌, inl, inr, ⊎_elim}
use Rattle.std.specs.Prelude.{slice_get}
use Rattle.std.proofs.lemmas.Bool.{false≢true, cases_lt, cases_eq, eq-eqb, ne_eqb}
use Rattle.std.proofs.Math.Bool.{or-false, or_assoc}
use Rattle.std.proofs.lemmas.Option.{slice_get_within}
use Rattle.rtl_ir.specs.declared.design.Design.{Design}
use Rattle.rtl_ir.specs.declared.design.Module.{Module}
use Rattle.rtl_ir.specs.declared.design.Assign.{Assign}
use Rattle.rtl_ir.specs.declared.design.Port.{Port}
use Rattle.rtl_check.specs.declared.drivers.Fed.{Fed}
use Rattle.rtl_check.specs.declared.drivers.Fed.TheVariants.{Never, Input, Once, Wrongly}
use Rattle.rtl_ir.specs.Value.{is_reg}
use Rattle.rtl_ir.specs.Typed.{is_input, is_given}
use Rattle.rtl_ir.specs.Rules.{ByAssign, ByPort}
use Rattle.rtl_ir.specs.Faults.{Source, Wired, Updated, Gives, May}
use Rattle.rtl_check.specs.Fed.{after, IsSeen, IsFed, AreFed}
use Rattle.rtl_check.proofs.Places.{at_set, beside_set, some_is}

-- the sources seen grow by none that gives a net its value
pub record Stays (d : Design) (m : Module) (S T : Source → Type 0) : Type 0 where
  pub kept : (s : Source) → S s → T s
  pub fresh : (s : Source) (n : ℕ) → T s → Gives d m s n → S s

fed_stays : (d : Design) (m : Module) (S T : Source → Type 0) (n : ℕ) (mark : Fed) → Stays d m S T → IsFed d m S n mark → IsFed d m T n mark
fed_stays d m S T n Never g h = (h.0, λ s seen gives. h.1 s (g.fresh s n seen gives) gives)
fed_stays d m S T n Input g h = (h.0, λ s seen gives. h.1 s (g.fresh s n seen gives) gives)
fed_stays d m S T n Once g h = (
  h.0,
  record {
    source = h.1.source;
    seen = g.kept h.1.source h.1.seen;
    gives = h.1.gives;
    may = h.1.may;
    only = λ s seen gives. h.1.only s (g.fresh s n seen gives) gives;
  },
)
fed_stays d m S T n Wrongly g h = h

pub all_stay : (d : Design) (m : Module) (S T : Source → Type 0) (marks : List Fed) → Stays d m S T → AreFed d m S marks → AreFed d m T marks
all_stay d m S T marks g h n mark at = fed_stays d m S T n mark g (h n mark at)

-- the sources seen grow by one, which gives one net its value
pub record Sees (d : Design) (m : Module) (S T : Source → Type 0) (source : Source) (net : ℕ) (may : Bool) : Type 0 where
  pub kept : (s : Source) → S s → T s
  pub new : S source → ⊥
  pub seen : T source
  pub fresh : (s : Source) (n : ℕ) → T s → Gives d m s n → S s ⊎ (s ≡ source)
  pub gives : Gives d m source net
  pub alone : (n : ℕ) → Gives d m source n → n ≡ net
  pub yes : is_input m.ports net ≡ false → may ≡ true → May m source net
  pub no : may ≡ false → May m source net → ⊥
  pub input : is_input m.ports net ≡ true → May m source net → ⊥

beside : (d : Design) (m : Module) (S T : Source → Type 0) (source : Source) (net : ℕ) (may : Bool) (n : ℕ) → Sees d m S T source net may → (n ≡ net → ⊥) → (s : Source) → T s → Gives d m s n → S s
beside d m S T source net may n g ne s seen gives = by_source (g.fresh s n seen gives)
  where
    by_source : S s ⊎ (s ≡ source) → S s
    by_source (inl h) = h
    by_source (inr e) = absurd (ne (g.alone n (subst (λ (x : Source). Gives d m x n) e gives)))

fed_beside : (d : Design) (m : Module) (S T : Source
    → Type 0) (source : Source) (net : ℕ) (may : Bool) (n : ℕ) (mark : Fed)
    → Sees d m S T source net may → (n ≡ net → ⊥) → IsFed d m S n mark → IsFed d m T n mark
fed_beside d m S T source net may n Never g ne h = (h.0, λ s seen gives. h.1 s (beside d m S T source net may n g ne s seen gives) gives)
fed_beside d m S T source net may n Input g ne h = (h.0, λ s seen gives. h.1 s (beside d m S T source net may n g ne s seen gives) gives)
fed_beside d m S T source net may n Once g ne h = (
  h.0,
  record {
    source = h.1.source;
    seen = g.kept h.1.source h.1.seen;
    gives = h.1.gives;
    may = h.1.may;
    only = λ s seen gives. h.1.only s (beside d m S T source net may n g ne s seen gives) gives;
  },
)
fed_beside d m S T source net may n Wrongly g ne h = h

-- the mark of the net that has one source more
fed_here : (d : Design) (m : Module) (S T : Source
    → Type 0) (source : Source) (net : ℕ) (may : Bool) (mark : Fed)
    → Sees d m S T source net may → IsFed d m S net mark → IsFed d m T net (after mark may)
fed_here d m S T source net true Never g h = (
  h.0,
  record {
    source = source;
    seen = g.seen;
    gives = g.gives;
    may = g.yes h.0 refl;
    only = λ s seen gives. ⊎_elim (λ old. absurd (h.1 s old gives)) (λ e. e) (g.fresh s net seen gives);
  },
)
fed_here d m S T source net false Never g h = inl (source, g.gives, g.no refl)
fed_here d m S T source net may Input g h = inl (source, g.gives, g.input h.0)
fed_here d m S T source net may Once g h =
    let other = h.1 in
    inr (source, other.source, g.gives, other.gives, λ e. g.new (subst S (sym e) other.seen))
fed_here d m S T source net may Wrongly g h = h

pub all_grow : (d : Design) (m : Module) (S T : Source
    → Type 0) (source : Source) (net : ℕ) (may : Bool) (marks : List Fed) (mark : Fed)
    → Sees d m S T source net may → slice_get marks net ≡ Some mark → AreFed d m S marks
    → AreFed d m T (set marks net (after mark may))
all_grow d m S T source net may marks mark g at h n x is = by_net (cases_eq n net)
  where
    by_net : (n ≡ net) ⊎ (n ≡ net → ⊥) → IsFed d m T n x
    by_net (inl e) =
        let p : slice_get (set marks net (after mark may)) net ≡ Some x = subst (λ (k : ℕ). slice_get (set marks net (after mark may)) k ≡ Some x) e is in
        let q : after mark may ≡ x = some_is (sym (at_set marks net (after mark may) (slice_get_within marks net mark at)) ∙ p) in
        let here = fed_here d m S T source net may mark g (h net mark at) in
        subst (λ (k : ℕ). IsFed d m T k x) (sym e) (subst (IsFed d m T net) q here)
    by_net (inr ne) = fed_beside d m S T source net may n x g ne (h n x (sym (beside_set marks net n (after mark may) ne) ∙ is))

-- a wire that is no input may have a driver
given_by : (m : Module) (n : ℕ) (a b : Bool) → is_reg m n ≡ a → is_input m.ports n ≡ b → is_given m n ≡ (a || b)
given_by m n a b p q = rw (p, q) refl

pub wired_yes : (m : Module) (n : ℕ) → is_input m.ports n ≡ false → not (is_reg m n) ≡ true → is_given m n ≡ false
wired_yes m n q p = by_reg (is_reg m n) refl p
  where
    by_reg : (a : Bool) → is_reg m n ≡ a → not a ≡ true → is_given m n ≡ false
    by_reg true e f = absurd (false≢true f)
    by_reg false e f = given_by m n false false e q

pub wired_no : (m : Module) (n : ℕ) → not (is_reg m n) ≡ false → is_given m n ≡ false → ⊥
wired_no m n p = by_reg (is_reg m n) refl p
  where
    by_reg : (a : Bool) → is_reg m n ≡ a → not a ≡ false → is_given m n ≡ false → ⊥
    by_reg true e f g = false≢true (sym g ∙ ap (λ b. b || is_input m.ports n) e)
    by_reg false e f g = false≢true (sym f)

or_true : (a : Bool) → (a || true) ≡ true
or_true true = refl
or_true false = refl

pub wired_input : (m : Module) (n : ℕ) → is_input m.ports n ≡ true → is_given m n ≡ false → ⊥
wired_input m n p g = false≢true (sym g ∙ ap (λ b. is_reg m n || b) p ∙ or_true (is_reg m n))

-- one more assignment is seen
pub sees_assign : (d : Design) (m : Module) (j : ℕ) (a : Assign)
    → slice_get m.assigns j ≡ Some a
    → Sees d m (IsSeen j 0 0 0) (IsSeen (j + 1) 0 0 0) (Wired (ByAssign j)) a.target
    (not (is_reg m a.target))
sees_assign d m j a at =
    record {
      kept = kept;
      new = λ lt. omega arith;
      seen = omega arith;
      fresh = λ s n seen gives. fresh s seen;
      gives = (a, at, refl);
      alone = λ n g. sym g.2 ∙ ap (λ (x : Assign). x.target) (some_is (sym g.1 ∙ at));
      yes = wired_yes m a.target;
      no = wired_no m a.target;
      input = wired_input m a.target;
    }
  where
    kept : (s : Source) → IsSeen j 0 0 0 s → IsSeen (j + 1) 0 0 0 s
    kept (Wired (ByAssign i)) lt = omega arith
    kept (Wired (ByPort k i)) h = h
    kept (Updated i) h = h

    fresh : (s : Source) → IsSeen (j + 1) 0 0 0 s → IsSeen j 0 0 0 s ⊎ (s ≡ Wired (ByAssign j))
    fresh (Wired (ByAssign i)) lt = by_place (cases_lt i j)
      where
        by_place : (i < j) ⊎ (j ≤ i) → (i < j) ⊎ (Wired (ByAssign i) ≡ Wired (ByAssign j))
        by_place (inl h) = inl h
        by_place (inr h) = let e : i ≡ j = omega arith in inr (ap (λ x. Wired (ByAssign x)) e)
    fresh (Wired (ByPort k i)) h = inl h
    fresh (Updated i) h = inl h

pub assign_fed : (d : Design) (m : Module) (marks : List Fed) (j : ℕ) (a : Assign) (reg : Bool)
    (old new : Fed) → slice_get m.assigns j ≡ Some a → reg ≡ is_reg m a.target
    → slice_get marks a.target ≡ Some old → new ≡ after old (not reg)
    → AreFed d m (IsSeen j 0 0 0) marks → AreFed d m (IsSeen (j + 1) 0 0 0) (set marks a.target new)
assign_fed d m marks j a reg old new at r was now h =
    rw (now, r) (all_grow d m (IsSeen j 0 0 0) (IsSeen (j + 1) 0 0 0) (Wired (ByAssign j)) a.target (not (is_reg m a.target)) marks old (sees_assign d m j a at) was h)

-- inputs among one port more
pub input_more : (ports : List Port) (p : Port) (n : ℕ) → is_input (ports ++ p ∷ []) n ≡ (is_input ports n || (nat_eq p.net n && not p.output))
input_more [] p n = or-false (nat_eq p.net n && not p.output)
input_more (q ∷ ports) p n = ap (λ b. (nat_eq q.net n
    && not q.output) || b) (input_more ports p n) ∙ sym (or_assoc (nat_eq q.net n
    && not q.output) (is_input ports n) (nat_eq p.net n && not p.output))

pub output_marked : (ports : List Port) (p : Port) (n : ℕ) (mark : Fed) → p.output ≡ true → mark ≡ cond (is_input ports n) Input Never → mark ≡ cond (is_input (ports ++ p ∷ []) n) Input Never
output_marked ports p n mark o e = e ∙ ap (λ b. cond b Input Never) (sym (input_more ports p n ∙ none (nat_eq p.net n) (is_input ports n) p.output o))
  where
    none : (a b c : Bool) → c ≡ true → (b || (a && not c)) ≡ b
    none a true true e = refl
    none true false true e = refl
    none false false true e = refl
    none a b false e = absurd (false≢true e)

pub input_marked : (marks : List Fed) (ports : List Port) (p : Port) → p.output ≡ false
    → p.net < length marks → ((n : ℕ) (mark : Fed) → slice_get marks n ≡ Some mark
    → mark ≡ cond (is_input ports n) Input Never) → (n : ℕ) (mark : Fed)
    → slice_get (set marks p.net Input) n ≡ Some mark → mark ≡ cond (is_input (ports ++ p
    ∷ []) n) Input Never
input_marked marks ports p o lt h n mark at = by_net (cases_eq n p.net)
  where
    here : (a b c : Bool) → a ≡ true → c ≡ false → cond (b || (a && not c)) Input Never ≡ Input
    here true true false e f = refl
    here true false false e f = refl
    here false b c e f = absurd (false≢true e)
    here true b true e f = absurd (false≢true (sym f))

    other : (a b c : Bool) → a ≡ false → (b || (a && not c)) ≡ b
    other false true c e = refl
    other false false c e = refl
    other true b c e = absurd (false≢true (sym e))

    by_net : (n ≡ p.net) ⊎ (n ≡ p.net → ⊥) → mark ≡ cond (is_input (ports ++ p ∷ []) n) Input Never
    by_net (inl e) =
        let q : slice_get (set marks p.net Input) p.net ≡ Some mark = subst (λ (k : ℕ). slice_get (set marks p.net Input) k ≡ Some mark) e at in
        let r : Input ≡ mark = some_is (sym (at_set marks p.net Input lt) ∙ q) in
        sym r ∙ sym (ap (λ b. cond b Input Never) (input_more ports p n) ∙ here (nat_eq p.net n) (is_input ports n) p.output (eq-eqb p.net n (sym e)) o)
    by_net (inr ne) =
        h n mark (sym (beside_set marks p.net n Input ne) ∙ at) ∙ ap (λ b. cond b Input Never)
        (sym (input_more ports p n ∙ other (nat_eq p.net n) (is_input ports n) p.output
        (ne_eqb p.net n (λ e. ne (sym e)))))

-- the marks with no source seen
pub none_seen : (d : Design) (m : Module) (marks : List Fed) → ((n : ℕ) (mark : Fed) → slice_get marks n ≡ Some mark → mark ≡ cond (is_input m.ports n) Input Never) → AreFed d m (IsSeen 0 0 0 0) marks
none_seen d m marks h n mark at = by_input (is_input m.ports n) refl (h n mark at)
  where
    none : (s : Source) → IsSeen 0 0 0 0 s → ⊥
    none (Wired (ByAssign j)) lt = omega arith
    none (Wired (ByPort k j)) (inl lt) = omega arith
    none (Wired (ByPort k j)) (inr lt) = omega (arith, lt.1)
    none (Updated j) lt = omega arith

    by_input : (b : Bool) → is_input m.ports n ≡ b → mark ≡ cond (is_input m.ports n) Input Never → IsFed d m (IsSeen 0 0 0 0) n mark
    by_input true e f = let q : mark ≡ Input = f ∙ ap (λ b. cond b Input Never) e in subst (IsFed d m (IsSeen 0 0 0 0) n) (sym q) (e, λ s seen gives. none s seen)
    by_input false e f = let q : mark ≡ Never = f ∙ ap (λ b. cond b Input Never) e in subst (IsFed d m (IsSeen 0 0 0 0) n) (sym q) (e, λ s seen gives. none s seen)
