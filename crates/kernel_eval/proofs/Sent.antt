-- What was received, call by call.
use Rattle.std.proofs.Common.{
  ◌≡◌,
  ◌+◌,
  ℕ,
  suc,
  zero,
  List,
  [],
  ◌∷◌,
  ◌++◌,
  length,
  take,
  drop,
  refl,
  sym,
  ◌∙◌,
  ap,
  Some,
  subst,
  arith,
}
use Rattle.std.specs.Prelude.{slice_get}
use Rattle.kernel_calls.specs.declared.call.Call.{Call}
use Rattle.kernel_calls.specs.Calls.{count_of, nodes_of}
use Rattle.kernel_calls.specs.Laws.{Received}
use Rattle.kernel_eval.specs.Sending.{AreNumbered, HasRoomBelow, AreSendable, IsSent}

some_same : {X : Type 0} (x y : X) → Some x ≡ Some y → x ≡ y
some_same x y e = cc

from_on : {V : Type 0} (number : V → ℕ) (k : ℕ) (before : List V) (var : V)
    → ((n : ℕ) (v : V) → slice_get before n ≡ Some v → number v ≡ k + n)
    → number var ≡ k + length before → (n : ℕ) (v : V)
    → slice_get (before ++ var ∷ []) n ≡ Some v → number v ≡ k + n
from_on number k [] var h e zero v s = let q = some_same var v s in rw (← q, e) refl
from_on number k [] var h e (suc n) v s = absurd (cc)
from_on number k (x ∷ before) var h e zero v s = h zero v s
from_on number k (x ∷ before) var h e (suc n) v s =
    let long : number var ≡ suc k + length before = e ∙ omega arith in
    let r = from_on number (suc k) before var
    (λ m w t. h (suc m) w t ∙ omega arith) long n v s in
    r ∙ omega arith

pub numbered_on : {V : Type 0} (number : V → ℕ) (before : List V) (var : V)
    → AreNumbered number before → number var ≡ length before
    → AreNumbered number (before ++ var ∷ [])
numbered_on number before var h e n v s =
    let long : number var ≡ 0 + length before = e ∙ omega arith in
    from_on number 0 before var (λ m w t. h m w t ∙ omega arith) long n v s ∙ omega arith

count_on_one : (calls : List Call) (call : Call)
    → count_of (calls ++ call ∷ []) ≡ count_of calls + nodes_of call
count_on_one [] call = refl
count_on_one (c ∷ calls) call = let e = count_on_one calls call in omega arith

pub received_on : {S : Type 0} (receives : S → Call → S → Type 0) (calls more : List Call)
    (old mid new : S) → Received receives old calls mid → Received receives mid more new
    → Received receives old (calls ++ more) new
received_on receives [] more old mid new h k =
    subst (λ s. Received receives s more new) (sym h) k
received_on receives (call ∷ calls) more old mid new h k =
    (h.0, h.1, received_on receives calls more h.0 mid new h.2 k)

next_taken : (calls : List Call) (call : Call) (n : ℕ) → slice_get calls n ≡ Some call
    → take (suc n) calls ≡ take n calls ++ call ∷ []
next_taken [] call n e = absurd (cc)
next_taken (c ∷ calls) call zero e = ap (λ x. x ∷ []) (some_same c call e)
next_taken (c ∷ calls) call (suc n) e = ap (λ l. c ∷ l) (next_taken calls call n e)

next_left : (calls : List Call) (call : Call) (n : ℕ) → slice_get calls n ≡ Some call
    → drop n calls ≡ call ∷ drop (suc n) calls
next_left [] call n e = absurd (cc)
next_left (c ∷ calls) call zero e = ap (λ x. x ∷ calls) (some_same c call e)
next_left (c ∷ calls) call (suc n) e = next_left calls call n e

one_more : (n : ℕ) → n + 1 ≡ suc n
one_more n = omega arith

next_of_taken : (calls : List Call) (call : Call) (n : ℕ) → slice_get calls n ≡ Some call
    → take (n + 1) calls ≡ take n calls ++ call ∷ []
next_of_taken calls call n e =
    ap (λ k. take k calls) (one_more n) ∙ next_taken calls call n e

next_of_left : (calls : List Call) (call : Call) (n : ℕ) → slice_get calls n ≡ Some call
    → drop n calls ≡ call ∷ drop (n + 1) calls
next_of_left calls call n e =
    next_left calls call n e ∙ ap (λ k. call ∷ drop k calls) (sym (one_more n))

module _ {S V : Type 0} (receives : S → Call → S → Type 0) (made : S → ℕ) (number : V → ℕ)
    (calls : List Call) (call : Call) (n : ℕ) (found : slice_get calls n ≡ Some call)
    (old mid new : S) (first before after : List V)
    (sent : IsSent receives made number mid call new before after) where
  pub received_next : Received receives old (take n calls) mid
      → Received receives old (take (n + 1) calls) new
  received_next h =
      subst (λ l. Received receives old l new) (sym (next_of_taken calls call n found))
      (received_on receives (take n calls) (call ∷ []) old mid new h (new, sent.received, refl))

  pub room_next : (has_room : S → Call → Type 0) → HasRoomBelow made has_room receives mid (drop n calls)
      → HasRoomBelow made has_room receives new (drop (n + 1) calls)
  room_next has_room h =
      (subst (λ l. HasRoomBelow made has_room receives mid l) (next_of_left calls call n found) h).1 new
      sent.received

  pub sendable_next : AreSendable (length before) (drop n calls)
      → AreSendable (length after) (drop (n + 1) calls)
  sendable_next h =
      subst (λ k. AreSendable k (drop (n + 1) calls)) (sym sent.more)
      (subst (λ l. AreSendable (length before) l) (next_of_left calls call n found) h).1

  pub more_next : length before ≡ length first + count_of (take n calls)
      → length after ≡ length first + count_of (take (n + 1) calls)
  more_next h =
      let c = ap count_of (next_of_taken calls call n found) ∙ count_on_one (take n calls) call in
      let m = sent.more in
      omega arith
