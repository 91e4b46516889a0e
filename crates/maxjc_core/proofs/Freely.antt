-- Edges in which no port stalls and all words that are to be read yet are there: in none of them
-- anything waits.
use Rattle.std.proofs.Common.{
  ◌≡◌,
  ℕ,
  ◌+◌,
  ◌-◌,
  ◌<◌,
  ◌≤◌,
  Bool,
  true,
  false,
  ◌&&◌,
  ◌||◌,
  if◌then◌else◌,
  nat_eq,
  List,
  [],
  ◌∷◌,
  ◌++◌,
  length,
  drop,
  refl,
  subst,
  arith,
}
use Rattle.std.proofs.lemmas.Bool.Decides.{nat_tests}
use Rattle.rtl_ir.specs.Value.{Family}
use Rattle.rtl_ir.specs.Run.{Channel, Outer, Event, moves, left_of}
use Rattle.project_rtl.specs.Times.{
  none_held,
  all_accept,
  has_one,
  all_offer,
  is_unstalled,
  still_of,
  next_count,
  IsDoneBy,
}

-- no port stalls in an edge
pub record IsFree (o : Outer) (e : Event) : Type 0 where
  pub offers : (k : ℕ) → k < length o.inputs → e.offers k ≡ true
  pub accepts : (k : ℕ) → k < length o.outputs → e.accepts k ≡ true
  pub held : (k : ℕ) → k < length o.holds → e.held k ≡ false

abbrev pub AllFree : Outer → List Event → Type 0
AllFree o [] = Unit {0}
AllFree o (e ∷ es) = IsFree o e × AllFree o es

-- of each input so many words are left as are to be read yet
abbrev pub AllWait : List ℕ → List (List ℕ) → Type 0
AllWait [] left = Unit {0}
AllWait (n ∷ ns) [] = ⊥
AllWait (n ∷ ns) (ws ∷ left) = (n ≤ length ws) × AllWait ns left

one-less : (b : Bool) (n : ℕ) (ws : List ℕ) → n ≤ length ws
    → (if b then n - 1 else n) ≤ length (if b then drop 1 ws else ws)
one-less true n [] h = omega (arith, h)
one-less true n (w ∷ ws) h = omega (arith, h)
one-less false n ws h = h

pub wait-on : (chs : List Channel) (still : List ℕ) (left : List (List ℕ)) (v : Family)
    → AllWait still left → AllWait (still_of chs still v) (left_of chs left v)
wait-on [] still left v h = h
wait-on (ch ∷ chs) [] left v h = tt
wait-on (ch ∷ chs) (n ∷ still) [] v h = absurd h
wait-on (ch ∷ chs) (n ∷ still) (ws ∷ left) v h =
    (one-less (moves ch v) n ws h.0, wait-on chs still left v h.1)

still-length : (chs : List Channel) (still : List ℕ) (v : Family)
    → length (still_of chs still v) ≤ length still
still-length [] still v = omega arith
still-length (ch ∷ chs) [] v = omega arith
still-length (ch ∷ chs) (n ∷ still) v = let r = still-length chs still v in omega (arith, r)

accepted : (e : Event) (k : ℕ) (chs : List Channel)
    → ((i : ℕ) → i < k + length chs → e.accepts i ≡ true) → all_accept e k chs ≡ true
accepted e k [] free = refl
accepted e k (ch ∷ chs) free =
    rw (free k (omega arith), accepted e (k + 1) chs (λ i lt. free i (omega arith))) refl

not-held : (e : Event) (k : ℕ) (holds : List ℕ)
    → ((i : ℕ) → i < k + length holds → e.held i ≡ false) → none_held e k holds ≡ true
not-held e k [] free = refl
not-held e k (hold ∷ holds) free =
    rw (free k (omega arith), not-held e (k + 1) holds (λ i lt. free i (omega arith))) refl

one-offered : (b : Bool) (n : ℕ) (ws : List ℕ) → b ≡ true → n ≤ length ws
    → nat_eq n 0 || (b && has_one ws) ≡ true
one-offered b n [] e h = let z : n ≡ 0 = omega (arith, h) in rw z refl
one-offered b n (w ∷ ws) e h = rw e (grind (arith, nat_tests))

offered : (e : Event) (k : ℕ) (still : List ℕ) (left : List (List ℕ))
    → ((i : ℕ) → i < k + length still → e.offers i ≡ true) → AllWait still left
    → all_offer e k still left ≡ true
offered e k [] left free h = refl
offered e k (n ∷ still) [] free h = absurd h
offered e k (n ∷ still) (ws ∷ left) free h =
    rw (
      one-offered (e.offers k) n ws (free k (omega arith)) h.0,
      offered e (k + 1) still left (λ i lt. free i (omega arith)) h.1,
    ) refl

-- in such an edge nothing waits
pub unstalled : (o : Outer) (e : Event) (still : List ℕ) (left : List (List ℕ)) → IsFree o e
    → length still ≤ length o.inputs → AllWait still left
    → is_unstalled o e still left ≡ true
unstalled o e still left free few wait =
    rw (
      not-held e 0 o.holds (λ i lt. free.held i (omega arith)),
      accepted e 0 o.outputs (λ i lt. free.accepts i (omega arith)),
      offered e 0 still left (λ i lt. free.offers i (omega (arith, lt, few))) wait,
    ) refl

-- so the design is done in each edge behind so many of them
pub done-last : (o : Outer) (most : ℕ) (still : List ℕ) (left : List (List ℕ)) (count : ℕ)
    (es : List Event) (vs : List Family) (e : Event) (v : Family)
    → AllFree o es → length es ≡ length vs → length still ≤ length o.inputs → AllWait still left
    → most ≤ count + length vs
    → IsDoneBy o most still left count (es ++ e ∷ []) (vs ++ v ∷ []) → v o.done ≡ 1
done-last o most still left count [] [] e v free same few wait enough by = by.0 (omega (arith, enough))
done-last o most still left count [] (w ∷ vs) e v free same few wait enough by = absurd (omega (arith, same))
done-last o most still left count (f ∷ es) [] e v free same few wait enough by = absurd (omega (arith, same))
done-last o most still left count (f ∷ es) (w ∷ vs) e v free same few wait enough by =
    done-last o most (still_of o.inputs still w) (left_of o.inputs left w) (count + 1) es vs e v free.1
    (omega (arith, same)) (omega (arith, still-length o.inputs still w, few))
    (wait-on o.inputs still left w wait) (omega (arith, enough))
    (subst (λ (b : Bool). IsDoneBy o most (still_of o.inputs still w) (left_of o.inputs left w)
    (next_count b count) (es ++ e ∷ []) (vs ++ v ∷ [])) (unstalled o f still left free.0 few wait) by.1)
