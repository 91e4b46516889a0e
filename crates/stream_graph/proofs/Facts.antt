-- Facts of calls, and of the nodes that they make.
use Rattle.std.proofs.Common.{◌≡◌, ℕ, ◌+◌, ◌≤◌, ◌<◌, ◌&&◌, Bool, true, false, List, [], ◌∷◌, ◌++◌, length, refl, ap, sym, ◌∙◌, arith, inl, inr, ◌⊎◌, length-append}
use Rattle.std.specs.Prelude.{◌==◌, nat_lt, if◌then◌else◌}
use Rattle.std.proofs.lemmas.List.{append-nil}
use Rattle.std.proofs.lemmas.Bool.Decides.{nat_tests}
use Rattle.counter_chains.specs.declared.digits.CounterDigit.{CounterDigit}
use Rattle.fix_arith.specs.declared.types.StreamType.TheVariants.{UInt}
use Rattle.kernel_calls.specs.declared.call.Call.{Call}
use Rattle.kernel_calls.specs.declared.call.Call.TheVariants as C
use Rattle.kernel_calls.specs.Calls.{count_of, nodes_of, bits_in, Makes}
use Rattle.kernel_calls.specs.Laws.{IsLawful}
use Rattle.stream_graph.specs.declared.node.Kind.{Kind}
use Rattle.stream_graph.specs.declared.node.Kind.TheVariants as K
use Rattle.stream_graph.specs.declared.node.Node.{Node}
use Rattle.stream_graph.specs.Nodes.{connected_to, digits_to, place_of, IsKind, type_of, operands_by, digits_by, IsNode}
use Rattle.stream_graph.specs.Steps.{WereLawful}
use Rattle.stream_graph.proofs.Steps.{is_plain_call}

-- a call of three sorts

pub by_sort : (P : Call → Type 0) → ((feed value : ℕ) → P (C.Connect feed value)) →
    ((chain : ℕ) (d : CounterDigit) → P (C.ChainDigit chain d)) →
    ((call : Call) → is_plain_call call ≡ true → P call) → (call : Call) → P call
by_sort P connect digit plain (C.Connect feed value) = connect feed value
by_sort P connect digit plain (C.ChainDigit chain d) = digit chain d
by_sort P connect digit plain _ = plain _ refl

-- plain calls

pub plain_nodes : (call : Call) → is_plain_call call ≡ true → nodes_of call ≡ 1
plain_nodes (C.Connect feed value) h = absurd (cc)
plain_nodes _ h = refl

pub plain_connected : (call : Call) (older : List Call) (n : ℕ) → is_plain_call call ≡ true →
    connected_to (call ∷ older) n ≡ connected_to older n
plain_connected (C.Connect feed value) older n h = absurd (cc)
plain_connected (C.ChainDigit chain d) older n h = absurd (cc)
plain_connected _ older n h = refl

pub plain_digits : (call : Call) (older : List Call) (n : ℕ) → is_plain_call call ≡ true →
    digits_to (call ∷ older) n ≡ digits_to older n
plain_digits (C.Connect feed value) older n h = absurd (cc)
plain_digits (C.ChainDigit chain d) older n h = absurd (cc)
plain_digits _ older n h = refl

pub plain_bits : (call : Call) (older : List Call) (n : ℕ) → is_plain_call call ≡ true →
    bits_in (call ∷ older) n ≡ bits_in older n
plain_bits (C.Connect feed value) older n h = absurd (cc)
plain_bits (C.ChainDigit chain d) older n h = absurd (cc)
plain_bits _ older n h = omega arith

pub plain_place : (call : Call) (older : List Call) (chain n : ℕ) → is_plain_call call ≡ true →
    place_of (call ∷ older) chain n ≡ place_of older chain n
plain_place (C.Connect feed value) older ch n h = absurd (cc)
plain_place (C.ChainDigit chain d) older ch n h = absurd (cc)
plain_place _ older ch n h = refl

-- which calls make nodes

pub makes_cases : (newest : Call) (older : List Call) (n : ℕ) (call : Call) → Makes (newest ∷ older) n call →
    ((nodes_of newest ≡ 1) × (n ≡ count_of older) × (call ≡ newest)) ⊎ Makes older n call
makes_cases (C.Connect feed value) older n call h = inr h
makes_cases _ older n call (inl p) = inl (refl, p.0, p.1)
makes_cases _ older n call (inr h) = inr h

pub makes_newest : (newest : Call) (older : List Call) → nodes_of newest ≡ 1 →
    Makes (newest ∷ older) (count_of older) newest
makes_newest (C.Connect feed value) older h = absurd (cc)
makes_newest _ older h = inl (refl, refl)

pub makes_older : (newest : Call) (older : List Call) (n : ℕ) (call : Call) → Makes older n call →
    Makes (newest ∷ older) n call
makes_older (C.Connect feed value) older n call h = h
makes_older _ older n call h = inr h

pub made_below : (so_far : List Call) (n : ℕ) (call : Call) → Makes so_far n call → n < count_of so_far
made_below [] n call h = absurd h
made_below (newest ∷ older) n call h = by_newest (makes_cases newest older n call h)
    (λ g. made_below older n call g)
  where
    by_newest : ((nodes_of newest ≡ 1) × (n ≡ count_of older) × (call ≡ newest)) ⊎ Makes older n call →
        (Makes older n call → n < count_of older) → n < count_of older + nodes_of newest
    by_newest (inl p) below = let a = p.0 in let b = p.1 in omega arith
    by_newest (inr g) below = let b = below g in omega arith

pub made_once : (so_far : List Call) (n : ℕ) (a b : Call) → Makes so_far n a → Makes so_far n b → a ≡ b
made_once [] n a b f g = absurd f
made_once (newest ∷ older) n a b f g = by_newest (makes_cases newest older n a f) (makes_cases newest older n b g)
    (λ h k. made_once older n a b h k)
  where
    by_newest : ((nodes_of newest ≡ 1) × (n ≡ count_of older) × (a ≡ newest)) ⊎ Makes older n a →
        ((nodes_of newest ≡ 1) × (n ≡ count_of older) × (b ≡ newest)) ⊎ Makes older n b →
        (Makes older n a → Makes older n b → a ≡ b) → a ≡ b
    by_newest (inl p) (inl q) same = p.2 ∙ sym q.2
    by_newest (inl p) (inr h) same = let l = made_below older n b h in let e = p.1 in absurd (omega arith)
    by_newest (inr h) (inl q) same = let l = made_below older n a h in let e = q.1 in absurd (omega arith)
    by_newest (inr h) (inr k) same = same h k

apart : (a b : ℕ) → a < b → (a == b) ≡ false
apart a b h = grind (arith, nat_tests)

-- what is left out where two numbers differ
pub left_out : {A : Type 0} (xs ys : List A) (a b : ℕ) → (a == b) ≡ false → xs ++ (if a == b then ys else []) ≡ xs
left_out xs ys a b e = rw e (append-nil xs)

no_bits : (b : Bool) (bits more : ℕ) → b ≡ false → bits ≡ 0 → bits + (elim b [ true ↦ more | false ↦ 0 ]) ≡ 0
no_bits false bits more e z = omega arith
no_bits true bits more e z = absurd (cc)

-- nothing speaks of nodes that are not made yet
pub record IsUnspoken (so_far : List Call) (n : ℕ) : Type 0 where
  pub connected : connected_to so_far n ≡ []
  pub digits : digits_to so_far n ≡ []
  pub bits : bits_in so_far n ≡ 0

pub unspoken : (so_far : List Call) (n : ℕ) → WereLawful so_far → count_of so_far ≤ n → IsUnspoken so_far n
unspoken [] n w h = record { connected = refl; digits = refl; bits = refl }
unspoken (newest ∷ older) n w h =
    by_sort (λ c. IsLawful older c → count_of older + nodes_of c ≤ n → IsUnspoken older n →
    IsUnspoken (c ∷ older) n)
    (λ feed value l k u.
    let e = apart feed n (let m = made_below older feed _ l.1 in omega arith) in
    record {
      connected = left_out (connected_to older n) (value ∷ []) feed n e ∙ u.connected;
      digits = u.digits;
      bits = (let b = u.bits in omega arith);
    })
    (λ chain d l k u.
    let e = apart chain n (let m = made_below older chain _ l.0 in omega arith) in
    record {
      connected = u.connected;
      digits = left_out (digits_to older n) (d ∷ []) chain n e ∙ u.digits;
      bits =
          no_bits (chain == n) (bits_in older n) d.bits e u.bits;
    })
    (λ c p l k u. record {
      connected = plain_connected c older n p ∙ u.connected;
      digits = plain_digits c older n p
          ∙ u.digits;
      bits = plain_bits c older n p ∙ u.bits;
    })
    newest w.0 h (unspoken older n w.1 (omega arith))

-- every digit has a place
pub place_all : (so_far : List Call) (chain n : ℕ) → count_of so_far ≤ n →
    place_of so_far chain n ≡ length (digits_to so_far chain)
place_all [] chain n h = refl
place_all (newest ∷ older) chain n h =
    by_sort (λ c. count_of older + nodes_of c ≤ n → place_of older chain n ≡ length (digits_to older chain) →
    place_of (c ∷ older) chain n ≡ length (digits_to (c ∷ older) chain))
    (λ feed value k e. e)
    (λ other d k e. by_test d (place_of older chain n) (digits_to older chain) e (nat_lt (count_of older) n)
    (grind (arith, nat_tests)) (other == chain))
    (λ c p k e. plain_place c older chain n p ∙ e ∙ ap length (sym (plain_digits c older chain p)))
    newest h (place_all older chain n (omega arith))
  where
    by_test : (d : CounterDigit) (place : ℕ) (ds : List CounterDigit) → place ≡ length ds → (l : Bool) → l ≡ true →
        (b : Bool) → place + (if b && l then 1 else 0) ≡ length (ds ++ (if b then d ∷ [] else []))
    by_test d place ds e true l true = let q = length-append ds (d ∷ []) in omega arith
    by_test d place ds e true l false = let q : place ≡ length (ds ++ []) = e ∙ sym (ap length (append-nil ds)) in
        omega arith
    by_test d place ds e false l b = absurd (cc)

-- a chain has fewer digits than there are nodes
pub few_digits : (so_far : List Call) (chain : ℕ) → length (digits_to so_far chain) ≤ count_of so_far
few_digits [] chain = omega arith
few_digits (newest ∷ older) chain =
    by_sort (λ c. length (digits_to older chain) ≤ count_of older →
    length (digits_to (c ∷ older) chain) ≤ count_of older + nodes_of c)
    (λ feed value h. omega arith)
    (λ other d h. by_test d (digits_to older chain) (count_of older) h (other == chain))
    (λ c p h. rw (plain_digits c older chain p) (omega arith))
    newest (few_digits older chain)
  where
    by_test : (d : CounterDigit) (ds : List CounterDigit) (n : ℕ) → length ds ≤ n → (b : Bool) →
        length (ds ++ (if b then d ∷ [] else [])) ≤ n + 1
    by_test d ds n h true = omega (arith, length-append ds (d ∷ []))
    by_test d ds n h false = omega (arith, length-append {A = CounterDigit} ds [])

-- a call's node is the same by two lists of calls
pub record SameAt (s : List Call) (n : ℕ) (r : List Call) (m : ℕ) (call : Call) : Type 0 where
  pub connected : connected_to s n ≡ connected_to r m
  pub digits : digits_to s n ≡ digits_to r m
  pub bits : bits_in s n ≡ bits_in r m
  pub places : (chain : ℕ) (d : CounterDigit) → call ≡ C.ChainDigit chain d →
      place_of s chain n ≡ place_of r chain m

same_type : (s : List Call) (n : ℕ) (r : List Call) (m : ℕ) (call : Call) → SameAt s n r m call →
    type_of s n call ≡ type_of r m call
same_type s n r m C.Chain e = ap UInt e.bits
same_type s n r m _ e = refl

same_operands : (s : List Call) (n : ℕ) (r : List Call) (m : ℕ) (call : Call) → SameAt s n r m call →
    operands_by s n call ≡ operands_by r m call
same_operands s n r m (C.Feed t) e = e.connected
same_operands s n r m _ e = refl

same_digits : (s : List Call) (n : ℕ) (r : List Call) (m : ℕ) (call : Call) → SameAt s n r m call →
    digits_by s n call ≡ digits_by r m call
same_digits s n r m C.Chain e = e.digits
same_digits s n r m _ e = refl

same_kind : (s : List Call) (n : ℕ) (r : List Call) (m : ℕ) (call : Call) → SameAt s n r m call → (kind : Kind) →
    IsKind s n call kind → IsKind r m call kind
same_kind s n r m (C.ChainDigit chain d) e kind h = h ∙ ap K.Part (e.places chain d refl)
same_kind s n r m _ e kind h = h

pub same_node : (s : List Call) (n : ℕ) (r : List Call) (m : ℕ) (call : Call) (node : Node) → SameAt s n r m call →
    IsNode s n call node → IsNode r m call node
same_node s n r m call node e h =
    record {
      kind = same_kind s n r m call e node.view.kind h.kind;
      t = h.t ∙ same_type s n r m call e;
      controlled = h.controlled;
      operands = h.operands ∙ same_operands s n r m call e;
      name = h.name;
      digits = h.digits ∙ same_digits s n r m call e;
    }
