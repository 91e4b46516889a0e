-- The nodes once one more call is made.
use Rattle.std.proofs.Common.{◌≡◌, ℕ, zero, suc, ◌+◌, ◌<◌, ◌&&◌, Bool, true, false, List, [], ◌∷◌, ◌++◌, length, refl, ap, sym, ◌∙◌, arith, subst, inl, inr, ◌⊎◌, length-append}
use Rattle.std.specs.Prelude.{Some, ◌==◌, nat_lt, if◌then◌else◌, slice_get, slice_set}
use Rattle.std.proofs.lemmas.Bool.Decides.{nat_tests}
use Rattle.counter_chains.specs.declared.digits.CounterDigit.{CounterDigit}
use Rattle.fix_arith.specs.declared.types.StreamType.{StreamType}
use Rattle.fix_arith.specs.declared.types.StreamType.TheVariants.{UInt}
use Rattle.kernel_calls.specs.declared.call.Call.{Call}
use Rattle.kernel_calls.specs.declared.call.Call.TheVariants as C
use Rattle.kernel_calls.specs.Calls.{count_of, nodes_of, bits_in, Makes}
use Rattle.kernel_calls.specs.Laws.{IsLawful}
use Rattle.stream_graph.specs.declared.node.Kind.TheVariants as K
use Rattle.stream_graph.specs.declared.node.Node.{Node}
use Rattle.stream_graph.specs.Parts.{bits_of}
use Rattle.stream_graph.specs.Nodes.{connected_to, digits_to, place_of, IsNode, AreNodes}
use Rattle.stream_graph.specs.Steps.{WereLawful, Adds}
use Rattle.stream_graph.proofs.Steps.{is_plain_call}
use Rattle.stream_graph.proofs.Facts.{plain_nodes, plain_connected, plain_digits, plain_bits, plain_place, makes_cases, made_below, made_once, unspoken, SameAt, same_node, left_out, place_all}

-- the items of a list with one more

got_before : {A : Type 0} (xs : List A) (y z : A) (n : ℕ) → slice_get xs n ≡ Some z →
    slice_get (xs ++ y ∷ []) n ≡ Some z
got_before [] y z n e = absurd (cc)
got_before (x ∷ xs) y z zero e = e
got_before (x ∷ xs) y z (suc n) e = got_before xs y z n e

got_last : {A : Type 0} (xs : List A) (y : A) → slice_get (xs ++ y ∷ []) (length xs) ≡ Some y
got_last [] y = refl
got_last (x ∷ xs) y = got_last xs y

got_set : {A : Type 0} (xs : List A) (n : ℕ) (y z : A) → slice_get xs n ≡ Some z →
    slice_get (slice_set xs n y) n ≡ Some y
got_set [] n y z e = absurd (cc)
got_set (x ∷ xs) zero y z e = refl
got_set (x ∷ xs) (suc n) y z e = got_set xs n y z e

got_other : {A : Type 0} (xs : List A) (n m : ℕ) (y : A) → (n == m) ≡ false →
    slice_get (slice_set xs n y) m ≡ slice_get xs m
got_other [] n m y e = refl
got_other (x ∷ xs) zero zero y e = absurd (cc)
got_other (x ∷ xs) zero (suc m) y e = refl
got_other (x ∷ xs) (suc n) zero y e = refl
got_other (x ∷ xs) (suc n) (suc m) y e = got_other xs n m y (grind (arith, nat_tests))

-- a call that changes no other node

plain_same : (newest : Call) (older : List Call) (n : ℕ) (call : Call) → is_plain_call newest ≡ true →
    SameAt older n (newest ∷ older) n call
plain_same newest older n call p =
    record {
      connected = sym (plain_connected newest older n p);
      digits = sym (plain_digits newest older n p);
      bits
          = sym (plain_bits newest older n p);
      places = λ chain d q. sym (plain_place newest older chain n p);
    }

no_digit : (call : Call) (chain : ℕ) (d : CounterDigit) → is_plain_call call ≡ true → call ≡ C.ChainDigit chain d →
    ⊥
no_digit call chain d p q = let e = ap is_plain_call q in absurd (cc)

first_same : (newest : Call) (older : List Call) → is_plain_call newest ≡ true → WereLawful older →
    SameAt [] 0 (newest ∷ older) (count_of older) newest
first_same newest older p w =
    let u = unspoken older (count_of older) w (omega arith) in
    record {
      connected = sym (plain_connected newest older (count_of older) p ∙ u.connected);
      digits = sym (plain_digits newest older (count_of older) p ∙ u.digits);
      bits = sym (plain_bits newest older (count_of older) p ∙ u.bits);
      places = λ chain d q. absurd (no_digit newest chain d p q);
    }

-- the nodes of the calls so far, once more

abbrev NodeAt : List Node → List Call → ℕ → Call → Type 0
NodeAt nodes so_far n call = (node : Node) × (slice_get nodes n ≡ Some node) × IsNode so_far n call node

abbrev Kept : Call → List Call → List Node → List Node → Type 0
Kept newest older old new = (n : ℕ) (call : Call) (node : Node) → Makes older n call → slice_get old n ≡ Some node →
    IsNode older n call node → NodeAt new (newest ∷ older) n call

keep : (newest : Call) (older : List Call) (old new : List Node) → AreNodes older old → Kept newest older old new →
    length new ≡ count_of older + nodes_of newest →
    (nodes_of newest ≡ 1 → NodeAt new (newest ∷ older) (count_of older) newest) → AreNodes (newest ∷ older) new
keep newest older old new a kept count made =
    record {
      count = count;
      each = λ n call h. by_newest n call (makes_cases newest older n call h);
    }
  where
    by_newest : (n : ℕ) (call : Call) →
        ((nodes_of newest ≡ 1) × (n ≡ count_of older) × (call ≡ newest)) ⊎ Makes older n call →
        NodeAt new (newest ∷ older) n call
    by_newest n call (inl p) = subst (λ m. NodeAt new (newest ∷ older) m call) (sym p.1)
        (subst (λ c. NodeAt new (newest ∷ older) (count_of older) c) (sym p.2) (made p.0))
    by_newest n call (inr h) = let e = a.each n call h in kept n call e.0 h e.1 e.2

pub adds_plain : (newest : Call) (old : List Node) (node : Node) → is_plain_call newest ≡ true →
    IsNode [] 0 newest node → Adds old newest (old ++ node ∷ [])
adds_plain newest old node p i older w l a =
    keep newest older old (old ++ node ∷ []) a
    (λ n call x h e k. (
      x,
      got_before old node x n e,
      same_node older n (newest ∷ older) n call x
          (plain_same newest older n call p) k,
    ))
    (let c = a.count in let d = length-append old (node ∷ []) in let m = plain_nodes newest p in omega arith)
    (λ m. (
      node,
      subst (λ k. slice_get (old ++ node ∷ []) k ≡ Some node) a.count (got_last old node),
      same_node [] 0
          (newest ∷ older) (count_of older) newest node (first_same newest older p w) i,
    ))

-- a feed is connected

connected_here : (older : List Call) (feed value : ℕ) (b : Bool) → b ≡ true →
    connected_to older feed ++ (if b then value ∷ [] else []) ≡ connected_to older feed ++ value ∷ []
connected_here older feed value true e = refl
connected_here older feed value false e = absurd (cc)

self : (n : ℕ) → (n == n) ≡ true
self n = grind (arith, nat_tests)

by_number : {A : Type 0} (n m : ℕ) → ((n ≡ m) → A) → ((n == m) ≡ false → A) → A
by_number {A} n m same other = by_test (n == m) refl
  where
    by_test : (b : Bool) → (n == m) ≡ b → A
    by_test true e = same (grind (arith, nat_tests))
    by_test false e = other e

connect_same : (older : List Call) (feed value n : ℕ) (call : Call) → (feed == n) ≡ false →
    SameAt older n (C.Connect feed value ∷ older) n call
connect_same older feed value n call e =
    record {
      connected = sym (left_out (connected_to older n) (value ∷ []) feed n e);
      digits = refl;
      bits = omega
          arith;
      places = λ chain d q. refl;
    }

connects : (older : List Call) (feed value : ℕ) (t : StreamType) (x : Node) → IsNode older feed (C.Feed t) x →
    IsNode (C.Connect feed value ∷ older) feed (C.Feed t) (record x { operands = x.operands ++ value ∷ [] })
connects older feed value t x i =
    record {
      kind = i.kind;
      t = i.t;
      controlled = i.controlled;
      operands = ap (λ l. l ++ value ∷ []) i.operands ∙
          sym (connected_here older feed value (feed == feed) (self feed));
      name = i.name;
      digits = i.digits;
    }

length-slice_set : {A : Type 0} (xs : List A) (n : ℕ) (y : A) → length (slice_set xs n y) ≡ length xs
length-slice_set [] n y = refl
length-slice_set (x ∷ xs) zero y = refl
length-slice_set (x ∷ xs) (suc n) y = ap suc (length-slice_set xs n y)

abbrev pub with_operand : Node → ℕ → Node
with_operand x value = record x { operands = x.operands ++ value ∷ [] }

pub one_of : (old : List Node) (n m : ℕ) (x node : Node) → n ≡ m → slice_get old n ≡ Some x →
    slice_get old m ≡ Some node → node ≡ x
one_of old n m x node same at e = let f = subst (λ k. slice_get old k ≡ Some node) (sym same) e in cc

connected_node : (older : List Call) (feed value n : ℕ) (old : List Node) (x : Node) (call : Call) (node : Node)
    (l : IsLawful older (C.Connect feed value)) → slice_get old feed ≡ Some x → feed ≡ n → Makes older n call →
    slice_get old n ≡ Some node → IsNode older n call node →
    NodeAt (slice_set old feed (with_operand x value)) (C.Connect feed value ∷ older) feed call
connected_node older feed value n old x call node l at same h e k =
    let feeds : call ≡ C.Feed l.0 = made_once older feed call (C.Feed l.0)
    (subst (λ m. Makes older m call) (sym same) h) l.1 in
    let is_x : node ≡ x = one_of old feed n x node same at e in
    let fed : IsNode older feed (C.Feed l.0) x = subst (λ c. IsNode older feed c x) feeds
    (subst (λ m. IsNode older m call x) (sym same) (subst (λ z. IsNode older n call z) is_x k)) in (
      with_operand x value,
      got_set old feed (with_operand x value) x at,
      subst
          (λ c. IsNode (C.Connect feed value ∷ older) feed c (with_operand x value)) (sym feeds)
          (connects older feed value l.0 x fed),
    )

pub adds_connection : (feed value : ℕ) (old : List Node) (x : Node) → slice_get old feed ≡ Some x →
    Adds old (C.Connect feed value) (slice_set old feed (with_operand x value))
adds_connection feed value old x at older w l a =
    keep (C.Connect feed value) older old (slice_set old feed (with_operand x value)) a
    (λ n call node h e k. by_number feed n
    (λ same. subst (λ m. NodeAt (slice_set old feed (with_operand x value)) (C.Connect feed value ∷ older) m call)
    same (connected_node older feed value n old x call node l at same h e k))
    (λ other. (
      node,
      got_other old feed n (with_operand x value) other ∙ e,
      same_node older n
          (C.Connect feed value ∷ older) n call node (connect_same older feed value n call other) k,
    )))
    (let c = a.count in let s = length-slice_set old feed (with_operand x value) in omega arith)
    (λ m. absurd (cc))

-- a chain gets a digit

abbrev pub with_digit : Node → CounterDigit → Node
with_digit x d = record x {
  view = record x.view { t = UInt (bits_of x.view.t + d.bits) };
  digits = x.digits ++ d ∷
      [];
}

more_bits : (b : Bool) (bits more : ℕ) → b ≡ false → bits ≡ bits + (elim b [ true ↦ more | false ↦ 0 ])
more_bits false bits more e = omega arith
more_bits true bits more e = absurd (cc)

all_bits : (b : Bool) (bits more : ℕ) → b ≡ true → bits + more ≡ bits + (elim b [ true ↦ more | false ↦ 0 ])
all_bits true bits more e = refl
all_bits false bits more e = absurd (cc)

same_place : (b l : Bool) (place : ℕ) → l ≡ false → place ≡ place + (if b && l then 1 else 0)
same_place true false place e = omega arith
same_place false false place e = omega arith
same_place b true place e = absurd (cc)

digits_here : (ds : List CounterDigit) (d : CounterDigit) (b : Bool) → b ≡ true →
    ds ++ d ∷ [] ≡ ds ++ (if b then d ∷ [] else [])
digits_here ds d true e = refl
digits_here ds d false e = absurd (cc)

digit_same : (older : List Call) (chain : ℕ) (d : CounterDigit) (n : ℕ) (call : Call) → n < count_of older →
    (chain == n) ≡ false → SameAt older n (C.ChainDigit chain d ∷ older) n call
digit_same older chain d n call h e =
    record {
      connected = refl;
      digits = sym (left_out (digits_to older n) (d ∷ []) chain n e);
      bits = more_bits (chain == n) (bits_in older n) d.bits e;
      places = λ ch x q. same_place (chain == ch) (nat_lt (count_of older) n) (place_of older ch n)
          (grind (arith, nat_tests));
    }

gains : (older : List Call) (chain : ℕ) (d : CounterDigit) (x : Node) → IsNode older chain C.Chain x →
    IsNode (C.ChainDigit chain d ∷ older) chain C.Chain (with_digit x d)
gains older chain d x i =
    record {
      kind = i.kind;
      t = ap (λ t. UInt (bits_of t + d.bits)) i.t ∙ ap UInt
          (all_bits (chain == chain) (bits_in older chain) d.bits (self chain));
      controlled = i.controlled;
      operands = i.operands;
      name = i.name;
      digits = ap (λ l. l ++ d ∷ []) i.digits ∙ digits_here (digits_to older chain) d (chain == chain) (self chain);
    }

gained_node : (older : List Call) (chain : ℕ) (d : CounterDigit) (n : ℕ) (old : List Node) (x part : Node)
    (call : Call) (node : Node) → Makes older chain C.Chain → slice_get old chain ≡ Some x → chain ≡ n →
    Makes older n call → slice_get old n ≡ Some node → IsNode older n call node →
    NodeAt (slice_set old chain (with_digit x d) ++ part ∷ []) (C.ChainDigit chain d ∷ older) chain call
gained_node older chain d n old x part call node l at same h e k =
    let chains : call ≡ C.Chain = made_once older chain call C.Chain (subst (λ m. Makes older m call) (sym same) h)
    l in
    let is_x : node ≡ x = one_of old chain n x node same at e in
    let was : IsNode older chain C.Chain x = subst (λ c. IsNode older chain c x) chains
    (subst (λ m. IsNode older m call x) (sym same) (subst (λ z. IsNode older n call z) is_x k)) in (
      with_digit x d,
      got_before (slice_set old chain (with_digit x d)) part (with_digit x d) chain
          (got_set old chain (with_digit x d) x at),
      subst
          (λ c. IsNode (C.ChainDigit chain d ∷ older) chain c (with_digit x d)) (sym chains)
          (gains older chain d x was),
    )

-- this is the part of a chain's node, for its next digit
pub record IsPart (x : Node) (chain : ℕ) (d : CounterDigit) (part : Node) : Type 0 where
  pub kind : part.view.kind ≡ K.Part (length x.digits)
  pub t : part.view.t ≡ UInt d.bits
  pub controlled : part.view.controlled ≡ false
  pub operands : part.operands ≡ chain ∷ []
  pub named : part.name ≡ []
  pub digits : part.digits ≡ d ∷ []

part_node : (older : List Call) (chain : ℕ) (d : CounterDigit) (x part : Node) → IsNode older chain C.Chain x →
    IsPart x chain d part → IsNode (C.ChainDigit chain d ∷ older) (count_of older) (C.ChainDigit chain d) part
part_node older chain d x part i p =
    let place : place_of older chain (count_of older) ≡ length (digits_to older chain) = place_all older chain
    (count_of older) (omega arith) in
    let here = same_place (chain == chain) (nat_lt (count_of older) (count_of older))
    (place_of older chain (count_of older)) (grind (arith, nat_tests)) in
    record {
      kind = p.kind ∙ ap (λ l. K.Part (length l)) i.digits ∙ ap K.Part (sym place ∙ here);
      t = p.t;
      controlled = p.controlled;
      operands = p.operands;
      name = p.named;
      digits = p.digits;
    }

pub adds_digit : (chain : ℕ) (d : CounterDigit) (old : List Node) (x part : Node) → slice_get old chain ≡ Some x →
    IsPart x chain d part → Adds old (C.ChainDigit chain d) (slice_set old chain (with_digit x d) ++ part ∷ [])
adds_digit chain d old x part at p older w l a =
    let was = a.each chain C.Chain l.0 in
    let is_x : was.0 ≡ x = one_of old chain chain x was.0 refl at was.1 in
    let i : IsNode older chain C.Chain x = subst (λ z. IsNode older chain C.Chain z) is_x was.2 in
    let s = length-slice_set old chain (with_digit x d) in
    keep (C.ChainDigit chain d) older old (slice_set old chain (with_digit x d) ++ part ∷ []) a
    (λ n call node h e k. by_number chain n
    (λ same. subst (λ m. NodeAt (slice_set old chain (with_digit x d) ++ part ∷ []) (C.ChainDigit chain d ∷ older)
    m call) same (gained_node older chain d n old x part call node l.0 at same h e k))
    (λ other. (
      node,
      got_before (slice_set old chain (with_digit x d)) part node n
          (got_other old chain n (with_digit x d) other ∙ e),
      same_node older n (C.ChainDigit chain d ∷ older) n
          call node (digit_same older chain d n call (made_below older n call h) other) k,
    )))
    (let c = a.count in let e = length-append (slice_set old chain (with_digit x d)) (part ∷ []) in omega arith)
    (λ m. (
      part,
      subst (λ k. slice_get (slice_set old chain (with_digit x d) ++ part ∷ []) k ≡ Some part)
          (s ∙ a.count) (got_last (slice_set old chain (with_digit x d)) part),
      part_node older chain d x part i p,
    ))
