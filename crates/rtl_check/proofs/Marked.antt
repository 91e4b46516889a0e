-- What the marks of all nets and memories say of the rules on drivers and updates.
use Rattle.std.proofs.Common.{◌≡◌, ℕ, zero, suc, ◌<◌, ◌≤◌, true, false, List, [], ◌∷◌, length, Some, refl, sym, ◌∙◌, ap, subst, arith, ◌⊎◌, inl, inr, ⊎_elim}
use Rattle.std.specs.Prelude.{slice_get}
use Rattle.std.proofs.lemmas.Bool.{false≢true, cases_lt, cases_Bool, or_parts}
use Rattle.std.proofs.lemmas.Option.{slice_get_within, slice_get_past}
use Rattle.rtl_ir.specs.declared.design.Design.{Design}
use Rattle.rtl_ir.specs.declared.design.Module.{Module}
use Rattle.rtl_ir.specs.declared.design.Update.{Update}
use Rattle.rtl_ir.specs.declared.design.Target.TheVariants.{Reg, Cell}
use Rattle.rtl_check.specs.declared.drivers.Drivers.{Drivers}
use Rattle.rtl_check.specs.declared.drivers.Fed.{Fed}
use Rattle.rtl_check.specs.declared.drivers.Fed.TheVariants.{Never, Input, Once, Wrongly}
use Rattle.rtl_ir.specs.Value.{is_reg, net_kept}
use Rattle.rtl_ir.specs.Operands.{target_net, target_mem}
use Rattle.rtl_ir.specs.Typed.{is_input, is_given}
use Rattle.rtl_ir.specs.Formed.{IsFormedModule}
use Rattle.rtl_ir.specs.Rules.{Driver, ByAssign, ByPort, Drives, HasDrivers, HasUpdates}
use Rattle.rtl_ir.specs.Faults.{Source, Wired, Updated, Gives, May, HasTwo, HasNone, IsWrittenTwice, IsFirst}
use Rattle.rtl_check.specs.FirstFault.{Lacks}
use Rattle.rtl_check.specs.Fed.{HasOne, IsFed, Writes, IsWritten, AreMarked}
use Rattle.rtl_check.proofs.Parted.{input_port}

abbrev pub Any : Source → Type 0
Any s = Unit {0}

-- an item of a list within its length
pub item_of : {A : Type 0} (xs : List A) (n : ℕ) → n < length xs → (x : A) × (slice_get xs n ≡ Some x)
item_of [] n lt = absurd (omega arith)
item_of (x ∷ xs) zero lt = (x, refl)
item_of (x ∷ xs) (suc n) lt = item_of xs n (omega arith)

-- what a source gives is a net of the module
pub gives_within : (d : Design) (m : Module) → IsFormedModule d.modules m → (s : Source) (n : ℕ) → Gives d m s n → n < length m.nets
gives_within d m f (Wired (ByAssign j)) n g = let lt = (f.assigns j g.0 g.1).target in omega (arith, g.2)
gives_within d m f (Wired (ByPort k j)) n g = let lt = (f.instances k g.0.part g.0.of).nets j g.0.net g.0.joins in omega (arith, g.2)
gives_within d m f (Updated j) n g = let lt = (f.updates j g.0 g.1).net in omega (arith, ap target_net g.2)

two_give : (d : Design) (m : Module) (n : ℕ) → HasTwo d m n → (s : Source) × Gives d m s n
two_give d m n (inl h) = (h.0, h.1)
two_give d m n (inr h) = (h.0, h.2)

-- a mark other than the last says that the net has no source too many
only_one : (d : Design) (m : Module) (n : ℕ) → HasOne d m Any n → HasTwo d m n → ⊥
only_one d m n h (inl two) = two.2 (subst (λ (s : Source). May m s n) (sym (h.only two.0 tt two.1)) h.may)
only_one d m n h (inr two) = two.4 (h.only two.0 tt two.2 ∙ sym (h.only two.1 tt two.3))

no_two : (d : Design) (m : Module) (n : ℕ) (mark : Fed) → IsFed d m Any n mark → (mark ≡ Wrongly → ⊥) → HasTwo d m n → ⊥
no_two d m n Never h ne two = let g = two_give d m n two in h.1 g.0 tt g.1
no_two d m n Input h ne two = let g = two_give d m n two in h.1 g.0 tt g.1
no_two d m n Once h ne two = only_one d m n h.1 two
no_two d m n Wrongly h ne two = ne refl

pub first_two : (d : Design) (m : Module) (x : Drivers) → AreMarked d m x → (n : ℕ) → IsFirst (λ k. slice_get x.nets.items k ≡ Some Wrongly) n → IsFirst (HasTwo d m) n
first_two d m x h n f =
    record {
      holds = h.nets n Wrongly f.holds;
      earlier = λ k lt two.
          let w = item_of x.nets.items k (omega (arith, slice_get_within x.nets.items n Wrongly f.holds)) in
          no_two d m k w.0 (h.nets k w.0 w.1) (λ e. f.earlier k lt (w.1 ∙ ap (λ (y : Fed). Some y) e)) two;
    }

pub none_two : (d : Design) (m : Module) (x : Drivers) → IsFormedModule d.modules m → AreMarked d m x → ((k : ℕ) → slice_get x.nets.items k ≡ Some Wrongly → ⊥) → (n : ℕ) → HasTwo d m n → ⊥
none_two d m x f h none n two =
    let g = two_give d m n two in
    let w = item_of x.nets.items n (omega (arith, gives_within d m f g.0 n g.1, h.nets_size)) in
    no_two d m n w.0 (h.nets n w.0 w.1) (λ e. none n (w.1 ∙ ap (λ (y : Fed). Some y) e)) two

-- memories
not_twice : (m : Module) (k : ℕ) (mark : Fed) → IsWritten m (length m.updates) k mark → (mark ≡ Wrongly → ⊥) → IsWrittenTwice m k → ⊥
not_twice m k Never h ne two = h two.first (slice_get_within m.updates two.first two.update two.at_first) (two.update, two.address, two.at_first, two.writes)
not_twice m k Input h ne two = h
not_twice m k Once h ne two =
    let a = h.only two.first (slice_get_within m.updates two.first two.update two.at_first) (two.update, two.address, two.at_first, two.writes) in
    let b = h.only two.later (slice_get_within m.updates two.later two.later_update two.at_later) (two.later_update, two.later_address, two.at_later, two.later_writes) in
    omega (arith, two.apart, a, b)
not_twice m k Wrongly h ne two = ne refl

pub first_twice : (d : Design) (m : Module) (x : Drivers) → AreMarked d m x → (k : ℕ) → IsFirst (λ i. slice_get x.mems.items i ≡ Some Wrongly) k → IsFirst (IsWrittenTwice m) k
first_twice d m x h k f =
    record {
      holds = h.mems k Wrongly f.holds;
      earlier = λ i lt two.
          let w = item_of x.mems.items i (omega (arith, slice_get_within x.mems.items k Wrongly f.holds)) in
          not_twice m i w.0 (h.mems i w.0 w.1) (λ e. f.earlier i lt (w.1 ∙ ap (λ (y : Fed). Some y) e)) two;
    }

written_within : (d : Design) (m : Module) → IsFormedModule d.modules m → (j k : ℕ) → Writes m j k → k < length m.mems
written_within d m f j k w = (f.updates j w.0 w.2).mem k (ap target_mem w.3)

pub none_twice : (d : Design) (m : Module) (x : Drivers) → IsFormedModule d.modules m → AreMarked d m x → ((k : ℕ) → slice_get x.mems.items k ≡ Some Wrongly → ⊥) → (k : ℕ) → IsWrittenTwice m k → ⊥
none_twice d m x f h none k two =
    let w = item_of x.mems.items k (omega (arith, written_within d m f two.first k (two.update, two.address, two.at_first, two.writes), h.mems_size)) in
    not_twice m k w.0 (h.mems k w.0 w.1) (λ e. none k (w.1 ∙ ap (λ (y : Fed). Some y) e)) two

-- nets with no source
no_lack : (d : Design) (m : Module) (n : ℕ) (mark : Fed) → IsFed d m Any n mark → (mark ≡ Never → ⊥) → HasNone d m n → ⊥
no_lack d m n Never h ne lack = ne refl
no_lack d m n Input h ne lack = false≢true (sym lack.0 ∙ h.0)
no_lack d m n Once h ne lack = lack.1 h.1.source h.1.gives
no_lack d m n Wrongly h ne lack = let g = two_give d m n h in lack.1 g.0 g.1

pub first_lack : (d : Design) (m : Module) (x : Drivers) → AreMarked d m x → (n : ℕ) → IsFirst (λ k. slice_get x.nets.items k ≡ Some Never) n → IsFirst (Lacks d m) n
first_lack d m x h n f =
    let lt = slice_get_within x.nets.items n Never f.holds in
    let none = h.nets n Never f.holds in
    record {
      holds = (omega (arith, h.nets_size), (none.0, λ s g. none.1 s tt g));
      earlier = λ k less lack.
          let w = item_of x.nets.items k (omega arith) in
          no_lack d m k w.0 (h.nets k w.0 w.1) (λ e. f.earlier k less (w.1 ∙ ap (λ (y : Fed). Some y) e)) lack.1;
    }

-- all nets are marked as they should be
pub record AllDriven (d : Design) (m : Module) (x : Drivers) : Type 0 where
  pub formed : IsFormedModule d.modules m
  pub marked : AreMarked d m x
  pub none_two : (k : ℕ) → slice_get x.nets.items k ≡ Some Wrongly → ⊥
  pub none_twice : (k : ℕ) → slice_get x.mems.items k ≡ Some Wrongly → ⊥
  pub none_never : (k : ℕ) → slice_get x.nets.items k ≡ Some Never → ⊥

one_at : (d : Design) (m : Module) (x : Drivers) → AllDriven d m x → (n : ℕ) → n < length m.nets → is_input m.ports n ≡ false → HasOne d m Any n
one_at d m x h n lt dry = let w = item_of x.nets.items n (omega (arith, h.marked.nets_size)) in by_mark w.0 (h.marked.nets n w.0 w.1) w.1
  where
    by_mark : (mark : Fed) → IsFed d m Any n mark → slice_get x.nets.items n ≡ Some mark → HasOne d m Any n
    by_mark Never f at = absurd (h.none_never n at)
    by_mark Input f at = absurd (false≢true (sym dry ∙ f.0))
    by_mark Once f at = f.1
    by_mark Wrongly f at = absurd (h.none_two n at)

-- a net with a source is no input
not_input : (d : Design) (m : Module) (x : Drivers) → AllDriven d m x → (s : Source) (n : ℕ) → Gives d m s n → is_input m.ports n ≡ false
not_input d m x h s n g = let w = item_of x.nets.items n (omega (arith, h.marked.nets_size, gives_within d m h.formed s n g)) in by_mark w.0 (h.marked.nets n w.0 w.1) w.1
  where
    by_mark : (mark : Fed) → IsFed d m Any n mark → slice_get x.nets.items n ≡ Some mark → is_input m.ports n ≡ false
    by_mark Never f at = f.0
    by_mark Input f at = absurd (f.1 s tt g)
    by_mark Once f at = f.0
    by_mark Wrongly f at = absurd (h.none_two n at)

-- the source of a net
abbrev pick : (d : Design) (m : Module) (x : Drivers) → AllDriven d m x → (n : ℕ) → (n < length m.nets) ⊎ (length m.nets ≤ n) → (is_input m.ports n ≡ true) ⊎ (is_input m.ports n ≡ false) → Source
pick d m x h n (inl lt) (inr dry) = (one_at d m x h n lt dry).source
pick d m x h n (inl lt) (inl wet) = Wired (ByAssign 0)
pick d m x h n (inr ge) b = Wired (ByAssign 0)

record IsSource (d : Design) (m : Module) (n : ℕ) (s : Source) : Type 0 where
  gives : Gives d m s n
  may : May m s n
  only : (other : Source) → Gives d m other n → other ≡ s

picked : (d : Design) (m : Module) (x : Drivers) (h : AllDriven d m x) (n : ℕ)
    (c : (n < length m.nets) ⊎ (length m.nets ≤ n)) (b : (is_input m.ports n ≡ true)
    ⊎ (is_input m.ports n ≡ false)) → n < length m.nets → is_input m.ports n ≡ false
    → IsSource d m n (pick d m x h n c b)
picked d m x h n (inl lt) (inr dry) less out = let one = one_at d m x h n lt dry in record { gives = one.gives; may = one.may; only = λ s g. one.only s tt g }
picked d m x h n (inl lt) (inl wet) less out = absurd (false≢true (sym out ∙ wet))
picked d m x h n (inr ge) b less out = absurd (omega arith)

abbrev source_of : (d : Design) (m : Module) (x : Drivers) → AllDriven d m x → ℕ → Source
source_of d m x h n = pick d m x h n (cases_lt n (length m.nets)) (cases_Bool (is_input m.ports n))

source_is : (d : Design) (m : Module) (x : Drivers) (h : AllDriven d m x) (n : ℕ) → n < length m.nets → is_input m.ports n ≡ false → IsSource d m n (source_of d m x h n)
source_is d m x h n lt dry = picked d m x h n (cases_lt n (length m.nets)) (cases_Bool (is_input m.ports n)) lt dry

abbrev wire_of : Source → Driver
wire_of (Wired x) = x
wire_of (Updated j) = ByAssign 0

abbrev number_of : Source → ℕ
number_of (Wired x) = 0
number_of (Updated j) = j

kept_within : (m : Module) (n : ℕ) → is_reg m n ≡ true → n < length m.nets
kept_within m n e = ⊎_elim (λ lt. lt) (λ ge. absurd (false≢true (sym (ap net_kept (slice_get_past m.nets n ge)) ∙ e))) (cases_lt n (length m.nets))

pub has_drivers : (d : Design) (m : Module) (x : Drivers) → AllDriven d m x → HasDrivers d m
has_drivers d m x h =
    record {
      driver = λ n. wire_of (source_of d m x h n);
      some = λ n lt free. let p = or_parts (is_reg m n) (is_input m.ports n) free in some n free (source_of d m x h n) (source_is d m x h n lt p.1);
      only = λ n w g. only n w g;
    }
  where
    some : (n : ℕ) → is_given m n ≡ false → (s : Source) → IsSource d m n s → Drives d m (wire_of s) n
    some n free (Wired w) i = i.gives
    some n free (Updated j) i = absurd (false≢true (sym ((or_parts (is_reg m n) (is_input m.ports n) free).0) ∙ i.may))

    only : (n : ℕ) (w : Driver) → Drives d m w n → (n < length m.nets) × (is_given m n ≡ false) × (w ≡ wire_of (source_of d m x h n))
    only n w g =
        let lt = gives_within d m h.formed (Wired w) n g in
        let i = source_is d m x h n lt (not_input d m x h (Wired w) n g) in
        let e = i.only (Wired w) g in
        (lt, subst (λ (s : Source). May m s n) (sym e) i.may, ap wire_of e)

pub has_updates : (d : Design) (m : Module) (x : Drivers) → AllDriven d m x → HasUpdates m
has_updates d m x h =
    record {
      update = λ n. number_of (source_of d m x h n);
      some = λ n reg. some n reg (source_of d m x h n) (source_is d m x h n (kept_within m n reg) (no_input n reg));
      only = λ n j u at to. only n j u at to;
      of_mems = of_mems;
    }
  where
    no_input : (n : ℕ) → is_reg m n ≡ true → is_input m.ports n ≡ false
    no_input n reg = ⊎_elim (λ wet. let p = input_port m.ports n wet in absurd
        (false≢true (sym (subst (λ (k : ℕ). is_reg m k ≡ false) p.3
        ((h.formed.ports p.0 p.1 p.2).wire)) ∙ reg))) (λ dry. dry) (cases_Bool (is_input m.ports n))

    some : (n : ℕ) → is_reg m n ≡ true → (s : Source) → IsSource d m n s → (u : Update) × (slice_get m.updates (number_of s) ≡ Some u) × (u.target ≡ Reg n)
    some n reg (Wired w) i = absurd (false≢true (sym ((or_parts (is_reg m n) (is_input m.ports n) i.may).0) ∙ reg))
    some n reg (Updated j) i = i.gives

    only : (n j : ℕ) (u : Update) → slice_get m.updates j ≡ Some u → u.target ≡ Reg n → (is_reg m n ≡ true) × (j ≡ number_of (source_of d m x h n))
    only n j u at to =
        let g : Gives d m (Updated j) n = (u, at, to) in
        let i = source_is d m x h n (gives_within d m h.formed (Updated j) n g) (not_input d m x h (Updated j) n g) in
        let e = i.only (Updated j) g in
        (subst (λ (s : Source). May m s n) (sym e) i.may, ap number_of e)

    of_mems : (k i j a b : ℕ) (u v : Update) → slice_get m.updates i ≡ Some u → slice_get m.updates j ≡ Some v → u.target ≡ Cell k a → v.target ≡ Cell k b → i ≡ j
    of_mems k i j a b u v at_i at_j to_i to_j =
        let p : Writes m i k = (u, a, at_i, to_i) in
        let q : Writes m j k = (v, b, at_j, to_j) in
        let w = item_of x.mems.items k (omega (arith, written_within d m h.formed i k p, h.marked.mems_size)) in
        by_mark w.0 (h.marked.mems k w.0 w.1) w.1 p q (slice_get_within m.updates i u at_i) (slice_get_within m.updates j v at_j)
      where
        by_mark : (mark : Fed) → IsWritten m (length m.updates) k mark → slice_get x.mems.items k ≡ Some mark → Writes m i k → Writes m j k → i < length m.updates → j < length m.updates → i ≡ j
        by_mark Never f at p q lt less = absurd (f i lt p)
        by_mark Input f at p q lt less = absurd f
        by_mark Once f at p q lt less = f.only i lt p ∙ sym (f.only j less q)
        by_mark Wrongly f at p q lt less = absurd (h.none_twice k at)
