-- Edges that are driven in one way agree on the outer nets.
use Rattle.std.proofs.Common.{◌≡◌, ℕ, ◌+◌, ◌<◌, Bool, true, false, List, [], ◌∷◌, length, sym, ap, ◌∙◌, subst, arith}
use Rattle.rtl_ir.specs.Value.{Family, bit}
use Rattle.rtl_ir.specs.Run.{Channel, Outer, Event, Same, AllZero, NoneOffered, NoneAccepted, Offered, OfferedAll, AcceptedAll, HeldAll, Under, IsReset}
use Rattle.simulation.specs.Runs.{IdleAtZero, IsIdle}
use Rattle.simulation.proofs.OnceInputs.{SameNets, SameOffers, SameAccepts, SameOutside}

-- two events say the same of all ports that there are
pub record SameEvents (o : Outer) (e f : Event) : Type 0 where
  pub offers : (k : ℕ) → k < length o.inputs → e.offers k ≡ f.offers k
  pub accepts : (k : ℕ) → k < length o.outputs → e.accepts k ≡ f.accepts k
  pub held : (k : ℕ) → k < length o.holds → e.held k ≡ f.held k

same_steady : (ns xs : List ℕ) (v w : Family) → Same ns xs v → Same ns xs w → SameNets ns v w
same_steady [] xs v w h g = tt
same_steady (n ∷ ns) [] v w h g = absurd h
same_steady (n ∷ ns) (x ∷ xs) v w h g = (h.0 ∙ sym g.0, same_steady ns xs v w h.1 g.1)

both_zero : (ns : List ℕ) (v w : Family) → AllZero ns v → AllZero ns w → SameNets ns v w
both_zero [] v w h g = tt
both_zero (n ∷ ns) v w h g = (h.0 ∙ sym g.0, both_zero ns v w h.1 g.1)

none_offered : (chs : List Channel) (v w : Family) → NoneOffered chs v → NoneOffered chs w → IdleAtZero chs v → IdleAtZero chs w → SameOffers chs v w
none_offered [] v w h g y z = tt
none_offered (ch ∷ chs) v w h g y z = (h.0 ∙ sym g.0, y.0 h.0 ∙ sym (z.0 g.0), none_offered chs v w h.1 g.1 y.1 z.1)

none_accepted : (chs : List Channel) (v w : Family) → NoneAccepted chs v → NoneAccepted chs w → SameAccepts chs v w
none_accepted [] v w h g = tt
none_accepted (ch ∷ chs) v w h g = (h.0 ∙ sym g.0, none_accepted chs v w h.1 g.1)

pub same_idle : (o : Outer) (steady : List ℕ) (v w : Family) → IsIdle o steady v → IsIdle o steady w → SameOutside o v w
same_idle o steady v w h g = record {
  clock = h.clock ∙ sym g.clock;
  reset = h.reset ∙ sym g.reset;
  holds = both_zero o.holds v w h.not_held g.not_held;
  steady = same_steady o.steady steady v w h.steadily g.steadily;
  offers = none_offered o.inputs v w h.none_offered g.none_offered h.words g.words;
  accepts = none_accepted o.outputs v w h.none_accepted g.none_accepted;
}

pub same_reset : (o : Outer) (steady : List ℕ) (v w : Family) → IsReset o steady v → IsReset o steady w → IdleAtZero o.inputs v → IdleAtZero o.inputs w → SameOutside o v w
same_reset o steady v w h g y z = record {
  clock = h.clock ∙ sym g.clock;
  reset = h.reset ∙ sym g.reset;
  holds = both_zero o.holds v w h.not_held g.not_held;
  steady = same_steady o.steady steady v w h.steadily g.steadily;
  offers = none_offered o.inputs v w h.none_offered g.none_offered y z;
  accepts = none_accepted o.outputs v w h.none_accepted g.none_accepted;
}

one_offered : (b : Bool) (ch : Channel) (words : List ℕ) (v w : Family) → Offered b ch words v
    → Offered b ch words w → (v ch.valid ≡ 0 → v ch.word ≡ 0) → (w ch.valid ≡ 0 → w ch.word ≡ 0)
    → (v ch.valid ≡ w ch.valid) × (v ch.word ≡ w ch.word)
one_offered true ch (x ∷ words) v w h g y z = (h.0 ∙ sym g.0, h.1 ∙ sym g.1)
one_offered true ch [] v w h g y z = (h ∙ sym g, y h ∙ sym (z g))
one_offered false ch words v w h g y z = (h ∙ sym g, y h ∙ sym (z g))

all_offered : (e f : Event) (k : ℕ) (chs : List Channel) (left : List (List ℕ)) (v w : Family)
    → ((i : ℕ) → i < k + length chs → e.offers i ≡ f.offers i) → OfferedAll e k chs left v
    → OfferedAll f k chs left w → IdleAtZero chs v → IdleAtZero chs w → SameOffers chs v w
all_offered e f k [] left v w same h g y z = tt
all_offered e f k (ch ∷ chs) [] v w same h g y z = absurd h
all_offered e f k (ch ∷ chs) (words ∷ left) v w same h g y z =
    let r = one_offered (e.offers k) ch words v w h.0 (subst (λ (b : Bool). Offered b ch words w) (sym (same k (omega arith))) g.0) y.0 z.0 in
    (r.0, r.1, all_offered e f (k + 1) chs left v w (λ i lt. same i (omega arith)) h.1 g.1 y.1 z.1)

all_accepted : (e f : Event) (k : ℕ) (chs : List Channel) (v w : Family)
    → ((i : ℕ) → i < k + length chs → e.accepts i ≡ f.accepts i) → AcceptedAll e k chs v
    → AcceptedAll f k chs w → SameAccepts chs v w
all_accepted e f k [] v w same h g = tt
all_accepted e f k (ch ∷ chs) v w same h g = (h.0 ∙ ap bit (same k (omega arith)) ∙ sym g.0, all_accepted e f (k + 1) chs v w (λ i lt. same i (omega arith)) h.1 g.1)

all_held : (e f : Event) (k : ℕ) (ns : List ℕ) (v w : Family) → ((i : ℕ) → i < k + length ns → e.held i ≡ f.held i) → HeldAll e k ns v → HeldAll f k ns w → SameNets ns v w
all_held e f k [] v w same h g = tt
all_held e f k (n ∷ ns) v w same h g = (h.0 ∙ ap bit (same k (omega arith)) ∙ sym g.0, all_held e f (k + 1) ns v w (λ i lt. same i (omega arith)) h.1 g.1)

pub same_edge : (o : Outer) (steady : List ℕ) (left : List (List ℕ)) (e f : Event)
    (v w : Family) → SameEvents o e f → Under o steady left e v → Under o steady left f w
    → IdleAtZero o.inputs v → IdleAtZero o.inputs w → SameOutside o v w
same_edge o steady left e f v w same h g y z = record {
  clock = h.clock ∙ sym g.clock;
  reset = h.reset ∙ sym g.reset;
  holds = all_held e f 0 o.holds v w (λ i lt. same.held i (omega arith)) h.held g.held;
  steady = same_steady o.steady steady v w h.steadily g.steadily;
  offers = all_offered e f 0 o.inputs left v w (λ i lt. same.offers i (omega arith)) h.offered g.offered y z;
  accepts = all_accepted e f 0 o.outputs v w (λ i lt. same.accepts i (omega arith)) h.accepted g.accepted;
}
