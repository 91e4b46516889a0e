-- Chains of delays.
use Rattle.std.proofs.Common.{◌≡◌, ℕ, zero, suc, ◌+◌, ◌<◌, List, [], ◌∷◌, ◌++◌, length, get_or, refl, sym, ap, subst, arith, length-append}
use Rattle.std.specs.Prelude.{All}
use Rattle.rtl_ir.specs.declared.design.Module.{Module}
use Rattle.rtl_ir.specs.Value.{Family}
use Rattle.rtl_ir.specs.Grow.{Grows}
use Rattle.rtl_build.specs.declared.signal.Signal.{Signal}
use Rattle.rtl_delays.specs.declared.elements.Element.{Element}
use Rattle.rtl_delays.specs.Steps.{IsSound}
use Rattle.rtl_delays.specs.Delays.{IsDelay, IsTap, of_net}
use Rattle.rtl_delays.specs.Elements.{shown, advances_of, HasElement}
use Rattle.rtl_delays.proofs.Chain.{delay_kept, tap_on}
use Rattle.kernel_stages.specs.declared.node.NodeDelays.{NodeDelays}
use Rattle.kernel_stages.specs.Numbers.{up_to, last_from, register_count, wait_count, rings_from, ring_count}
use Rattle.kernel_stages.specs.Chains.{no_element, elements_of, joined, last_shown, ring_delays, IsChain, IsDelayedBy, AreChains}
use Rattle.kernel_stages.specs.Closing.{Follows, IsFollowed, IsDelayed}
use Rattle.kernel_stages.proofs.Pipelines.{registers_length, registers_last, registers_rings}
use Rattle.kernel_stages.proofs.Climbing.{element_mems, element_rings, rings_both}

-- ---- as many as stages

pub chain_length : (prior : ℕ) (stages : List ℕ) (chain : List Element) → IsChain prior stages chain → length chain ≡ length stages
chain_length prior [] [] h = refl
chain_length prior [] (e ∷ es) h = absurd h
chain_length prior (s ∷ ss) [] h = absurd h
chain_length prior (s ∷ ss) (e ∷ es) h = ap suc (chain_length s ss es h.1)

-- ---- all nodes, one after another

-- of the nodes after the first one
rest_of : (l : ℕ) (ls : List ℕ) (w : List ℕ) (ws : List (List ℕ)) (d : NodeDelays) (ds : List NodeDelays) → AreChains (l ∷ ls) (w ∷ ws) (d ∷ ds)
    → AreChains ls ws ds
rest_of l ls w ws d ds h = record {
  counted = let e = h.counted in omega (arith, e);
  numbered = let e = h.numbered in omega (arith, e);
  each = λ u lt. h.each (suc u) (omega (arith, lt));
}

-- a delay for each advance of a latency and for each wait
pub node_length : (l : ℕ) (w : List ℕ) (d : NodeDelays) → IsDelayedBy l w d → length (elements_of d) ≡ l + length w
node_length l w d h =
    let both = length-append d.pipeline d.waits in
    let a = chain_length 0 (up_to l) d.pipeline h.pipeline in
    let b = chain_length 0 w d.waits h.behind in
    let size = registers_length l in
    omega (arith, both, a, b, size)

pub joined_length : (latencies : List ℕ) (waits : List (List ℕ)) (delays : List NodeDelays) → AreChains latencies waits delays
    → length (joined delays) ≡ register_count latencies + wait_count waits
joined_length [] [] [] h = refl
joined_length [] [] (d ∷ ds) h = let e = h.counted in absurd (omega (arith, e))
joined_length [] (w ∷ ws) ds h = let e = h.numbered in absurd (omega (arith, e))
joined_length (l ∷ ls) [] ds h = let e = h.numbered in absurd (omega (arith, e))
joined_length (l ∷ ls) (w ∷ ws) [] h = let e = h.counted in absurd (omega (arith, e))
joined_length (l ∷ ls) (w ∷ ws) (d ∷ ds) h =
    let both = length-append (elements_of d) (joined ds) in
    let here = node_length l w d (h.each 0 (omega arith)) in
    let more = joined_length ls ws ds (rest_of l ls w ws d ds h) in
    omega (arith, both, here, more)

-- of a chain whose delays stand in a module the rings are those of the stages that come more than
-- one advance after the one before
chain_rings :
    (m : Module) (prior : ℕ) (stages : List ℕ) (chain : List Element) → IsChain prior stages chain → All (HasElement m) chain
    → ring_delays chain ≡ rings_from prior stages
chain_rings m prior [] [] h a = refl
chain_rings m prior [] (e ∷ es) h a = absurd h
chain_rings m prior (s ∷ ss) [] h a = absurd h
chain_rings m prior (s ∷ ss) (e ∷ es) h a =
    let all = element_rings e es in
    let first = element_mems m e prior s (a 0 e (omega arith)) h.0 in
    let rest = chain_rings m s ss es h.1 (λ k d l. a (suc k) d (omega (arith, l))) in
    omega (arith, all, first, rest)

-- what holds of two lists of delays holds of each
pub all_first : (P : Element → Type 0) (xs ys : List Element) → All P (xs ++ ys) → All P xs
all_first P [] ys a k d lt = absurd (omega arith)
all_first P (x ∷ xs) ys a zero d lt = a zero d (omega arith)
all_first P (x ∷ xs) ys a (suc k) d lt = all_first P xs ys (λ j e l. a (suc j) e (omega (arith, l))) k d (omega arith)

pub all_last : (P : Element → Type 0) (xs ys : List Element) → All P (xs ++ ys) → All P ys
all_last P [] ys a = a
all_last P (x ∷ xs) ys a = all_last P xs ys (λ j e l. a (suc j) e (omega (arith, l)))

node_rings : (m : Module) (l : ℕ) (w : List ℕ) (d : NodeDelays) → IsDelayedBy l w d → All (HasElement m) (elements_of d)
    → ring_delays (elements_of d) ≡ rings_from 0 w
node_rings m l w d h a =
    let both = rings_both d.pipeline d.waits in
    let first = chain_rings m 0 (up_to l) d.pipeline h.pipeline (all_first (HasElement m) d.pipeline d.waits a) in
    let last = chain_rings m 0 w d.waits h.behind (all_last (HasElement m) d.pipeline d.waits a) in
    let none = registers_rings l in
    omega (arith, both, first, last, none)

-- all nodes together have a ring for each of those waits
pub joined_rings : (m : Module) (latencies : List ℕ) (waits : List (List ℕ)) (delays : List NodeDelays) → AreChains latencies waits delays
    → All (HasElement m) (joined delays) → ring_delays (joined delays) ≡ ring_count waits
joined_rings m [] [] [] h a = refl
joined_rings m [] [] (d ∷ ds) h a = let e = h.counted in absurd (omega (arith, e))
joined_rings m [] (w ∷ ws) ds h a = let e = h.numbered in absurd (omega (arith, e))
joined_rings m (l ∷ ls) [] ds h a = let e = h.numbered in absurd (omega (arith, e))
joined_rings m (l ∷ ls) (w ∷ ws) [] h a = let e = h.counted in absurd (omega (arith, e))
joined_rings m (l ∷ ls) (w ∷ ws) (d ∷ ds) h a =
    let both = rings_both (elements_of d) (joined ds) in
    let here = node_rings m l w d (h.each 0 (omega arith)) (all_first (HasElement m) (elements_of d) (joined ds) a) in
    let more = joined_rings m ls ws ds (rest_of l ls w ws d ds h) (all_last (HasElement m) (elements_of d) (joined ds) a) in
    omega (arith, both, here, more)

-- ---- one delay more

append_one : {A : Type 0} (xs : List A) (e : A) (es : List A) → (xs ++ e ∷ []) ++ es ≡ xs ++ e ∷ es
append_one [] e es = refl
append_one (x ∷ xs) e es = ap (λ l. x ∷ l) (append_one xs e es)

append_none : {A : Type 0} (xs : List A) → xs ++ [] ≡ xs
append_none [] = refl
append_none (x ∷ xs) = ap (λ l. x ∷ l) (append_none xs)

pub chain_next :
    (all : List ℕ) (made : List Element) (prior s : ℕ) (rest : List ℕ) (e : Element) → prior + advances_of e ≡ s
    → ((es : List Element) → IsChain prior (s ∷ rest) es → IsChain 0 all (made ++ es))
    → (es : List Element) → IsChain s rest es → IsChain 0 all ((made ++ e ∷ []) ++ es)
chain_next all made prior s rest e q h es k = subst (IsChain 0 all) (sym (append_one made e es)) (h (e ∷ es) (q, k))

pub chain_end :
    (all : List ℕ) (made : List Element) (prior : ℕ) (rest : List ℕ) → rest ≡ []
    → ((es : List Element) → IsChain prior rest es → IsChain 0 all (made ++ es)) → IsChain 0 all made
chain_end all made prior rest e h = subst (IsChain 0 all) (append_none made) (h [] (subst (λ ss. IsChain prior ss []) (sym e) tt))

-- ---- one delay after another

delay_tap : (m : Module) (run reset : ℕ) (word : Family → ℕ) (to d : ℕ) → 0 < d → IsDelay m run reset word to d → IsTap m run reset word to d
delay_tap m run reset word to zero lt h = absurd (omega arith)
delay_tap m run reset word to (suc d) lt h = h

pub delays_behind :
    (m : Module) (run reset : ℕ) (word : Family → ℕ) (from prior : ℕ) (stages : List ℕ) (chain : List Element) → IsTap m run reset word from prior
    → Follows m run reset from chain → IsChain prior stages chain
    → All (λ e. 0 < advances_of e) chain
    → (i : ℕ) → i < length chain → IsDelay m run reset word (shown (get_or chain i no_element)).net (get_or stages i 0)
delays_behind m run reset word from prior [] [] t f c some i lt = absurd (omega arith)
delays_behind m run reset word from prior [] (e ∷ es) t f c some i lt = absurd c
delays_behind m run reset word from prior (s ∷ ss) [] t f c some i lt = absurd c
delays_behind m run reset word from prior (s ∷ ss) (e ∷ es) t f c some zero lt =
    let P : ℕ → Type 0 = λ d. IsDelay m run reset word (shown e).net d in
    subst P c.0 (tap_on m run reset word from (shown e).net prior (advances_of e) t f.0)
delays_behind m run reset word from prior (s ∷ ss) (e ∷ es) t f c some (suc i) lt =
    let P : ℕ → Type 0 = λ d. IsDelay m run reset word (shown e).net d in
    let here : IsDelay m run reset word (shown e).net s = subst P c.0 (tap_on m run reset word from (shown e).net prior (advances_of e) t f.0) in
    let q = c.0 in
    let p = some 0 e (omega arith) in
    let tap = delay_tap m run reset word (shown e).net s (omega (arith, q, p)) here in
    delays_behind m run reset word (shown e).net s ss es tap f.1 c.1 (λ k d l. some (suc k) d (omega (arith, l))) i (omega arith)

pub follows_kept :
    (m n : Module) (run reset from : ℕ) (chain : List Element) → Grows m n → IsSound m → Follows m run reset from chain
    → Follows n run reset from chain
follows_kept m n run reset from [] g s h = tt
follows_kept m n run reset from (e ∷ es) g s h = (
  delay_kept m n run reset (of_net from) (shown e).net (advances_of e) g s h.0,
  follows_kept m n run reset (shown e).net es g s h.1,
)

-- the end of a chain shows what the net showed that it follows
pub chain_tap :
    (m : Module) (run reset : ℕ) (word : Family → ℕ) (s : Signal) (prior : ℕ) (stages : List ℕ) (chain : List Element)
    → IsTap m run reset word s.net prior → Follows m run reset s.net chain → IsChain prior stages chain → All (λ e. 0 < advances_of e) chain
    → IsTap m run reset word (last_shown s chain).net (last_from prior stages)
chain_tap m run reset word s prior [] [] t f c some = t
chain_tap m run reset word s prior [] (e ∷ es) t f c some = absurd c
chain_tap m run reset word s prior (x ∷ xs) [] t f c some = absurd c
chain_tap m run reset word s prior (x ∷ xs) (e ∷ es) t f c some =
    let P : ℕ → Type 0 = λ d. IsDelay m run reset word (shown e).net d in
    let here : IsDelay m run reset word (shown e).net x = subst P c.0 (tap_on m run reset word s.net (shown e).net prior (advances_of e) t f.0) in
    let q = c.0 in
    let p = some 0 e (omega arith) in
    let tap = delay_tap m run reset word (shown e).net x (omega (arith, q, p)) here in
    chain_tap m run reset word (shown e) x xs es tap f.1 c.1 (λ k d l. some (suc k) d (omega (arith, l)))

-- a node's delays that follow its word, by delays of one advance or more
pub record Linked (m : Module) (run reset : ℕ) (word : Signal) (d : NodeDelays) : Type 0 where
  pub follows : IsFollowed m run reset word d
  pub some : All (λ e. 0 < advances_of e) (elements_of d)

pub followed_kept :
    (m n : Module) (run reset : ℕ) (word : Signal) (d : NodeDelays) → Grows m n → IsSound m → IsFollowed m run reset word d
    → IsFollowed n run reset word d
followed_kept m n run reset word d g s h = record {
  pipeline = follows_kept m n run reset word.net d.pipeline g s h.pipeline;
  waits = follows_kept m n run reset (last_shown word d.pipeline).net d.waits g s h.waits;
}

pub linked_kept :
    (m n : Module) (run reset : ℕ) (word : Signal) (d : NodeDelays) → Grows m n → IsSound m → Linked m run reset word d
    → Linked n run reset word d
linked_kept m n run reset word d g s h = record { follows = followed_kept m n run reset word d g s h.follows; some = h.some }

-- so they are what the latency and the waits say
pub linked_delays :
    (m : Module) (run reset : ℕ) (word : Signal) (latency : ℕ) (waits : List ℕ) (d : NodeDelays) → Linked m run reset word d
    → IsDelayedBy latency waits d → IsDelayed m run reset word latency waits d
linked_delays m run reset word latency waits d h c = record {
  pipeline = subst (IsTap m run reset (of_net word.net) end.net) (registers_last latency)
      (chain_tap m run reset (of_net word.net) word 0 (up_to latency) d.pipeline (λ k v q. refl) h.follows.pipeline c.pipeline
      (all_first (λ e. 0 < advances_of e) d.pipeline d.waits h.some));
  behind = λ i lt.
      delays_behind m run reset (of_net end.net) end.net 0 waits d.waits (λ k v q. refl) h.follows.waits c.behind
      (all_last (λ e. 0 < advances_of e) d.pipeline d.waits h.some) i lt;
}
  where
    end : Signal
    end = last_shown word d.pipeline
