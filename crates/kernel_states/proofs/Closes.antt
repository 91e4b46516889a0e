-- Registers of states that are closed.
use Rattle.std.proofs.Common.{◌≡◌, ◌+◌, ◌*◌, ◌≤◌, ◌<◌, ◌||◌, ◌∷◌, ◌++◌, ◌∙◌}
use Rattle.std.proofs.Common.{ℕ, Bool, true, false, eqb, List, [], length, drop, get_or, Option, Some, None, refl, sym, ap, subst, arith, add-one, drop-cons}
use Rattle.std.proofs.lemmas.Bool.{false≢true, eqb-true}
use Rattle.counter_chains.specs.declared.digits.CounterDigit.{CounterDigit}
use Rattle.counter_chains.specs.Chains.{bits_of}
use Rattle.rtl_ir.specs.declared.design.Module.{Module}
use Rattle.rtl_build.specs.declared.signal.Signal.{Signal}
use Rattle.rtl_delays.specs.Steps.{IsSound, writes_reg}
use Rattle.rtl_delays.specs.Extends.{Extends}
use Rattle.rtl_delays.proofs.Kept.{written_kept}
use Rattle.rtl_delays.proofs.Extends.{extends_same, still_same}
use Rattle.rtl_delays.proofs.Lists.{or_first, or_second, or_both}
use Rattle.rtl_delays.proofs.Undriven.{same_undriven}
use Rattle.stream_graph.specs.declared.node.Kind.{Kind}
use Rattle.stream_graph.specs.declared.node.Kind.TheVariants as K
use Rattle.stream_graph.specs.declared.node.Node.{Node}
use Rattle.stream_graph.specs.LookUps.{kind_at, digits_at}
use Rattle.kernel_refinement.specs.States.{IsStepping}
use Rattle.kernel_states.specs.declared.registers.AdvanceNets.{AdvanceNets}
use Rattle.kernel_types.specs.Types.{counts}
use Rattle.kernel_states.specs.Stepping.{state_after}
use Rattle.kernel_states.specs.States.{has_state, is_state_of, AreFree, IsUnwritten}
use Rattle.kernel_states.specs.Closing.{AreAdvanceNets, HaveWords, IsClearable, ClosesRegister, LeavesOthers, ClosesState}
use Rattle.kernel_states.proofs.Freeing.{state_joined, one_of}

-- a node that keeps a state and is no hold counts
pub counts_then : (kind : Kind) → has_state kind ≡ true → (kind ≡ K.Hold → ⊥) → counts kind ≡ true
counts_then K.Counter h other = refl
counts_then K.Chain h other = refl
counts_then K.Hold h other = absurd (other refl)
counts_then kind h other = absurd (cc)

pub holds_not_count : (kind : Kind) → kind ≡ K.Hold → counts kind ≡ true → ⊥
holds_not_count kind e f = false≢true (sym (ap counts e) ∙ f)

-- a state of some bits is that of some counter
pub some_counter : (ds : List CounterDigit) (w : ℕ) → 1 ≤ w → w ≡ bits_of ds → 1 ≤ length ds
some_counter [] w some e = absurd (omega arith)
some_counter (d ∷ ds) w some e = omega arith

-- ---- one state

pub no_state : (m : Module) (nodes : List Node) (n time : ℕ) (word : Signal) (by : AdvanceNets) (state : Option Signal) → IsSound m → state ≡ None
    → ClosesState m m nodes n time word by state
no_state m nodes n time word by state sound e = subst (ClosesState m m nodes n time word by) (sym e) (record {
  extends = extends_same sound;
  still = still_same m m by.run.net by.reset.net refl;
  others = record { regs = λ k w o. w; mems = λ k w. w };
  written = λ k o. absurd (false≢true o);
  registers = λ k h. h;
  undriven = same_undriven m m refl;
  stored = refl;
  nets = omega arith;
  mems = refl;
  steps = λ s f. absurd (cc);
  takes = λ s f. absurd (cc);
})

pub one_state : {m n : Module} {most : ℕ} (nodes : List Node) (k time : ℕ) (word : Signal) (by : AdvanceNets) (state : Option Signal) (s : Signal)
    → ClosesRegister m n by.run.net by.reset.net s.net most → has_state (kind_at nodes k) ≡ true → most ≤ 10 * length (digits_at nodes k) + 8
    → state ≡ Some s
    → (counts (kind_at nodes k) ≡ true → IsStepping n by.run.net by.reset.net by.position.net time (state_after (digits_at nodes k)) s.net)
    → (kind_at nodes k ≡ K.Hold → IsClearable n by.run.net by.reset.net word.net s.net) → ClosesState m n nodes k time word by state
one_state {m} {n} nodes k time word by state s closes keeps le e steps takes = subst (ClosesState m n nodes k time word by) (sym e) (record {
  extends = closes.extends;
  still = closes.still;
  others = record {
    regs = λ j w o. closes.others.regs j w (or_first (eqb s.net j) false o);
    mems = λ j w. closes.others.mems j w refl;
  };
  written = λ j o. subst (λ r. writes_reg r n.updates ≡ true) (eqb-true s.net j (alone (eqb s.net j) o)) closes.written;
  registers = closes.registers;
  undriven = closes.undriven;
  stored = closes.stored;
  nets =
      let few = closes.nets in
      let room = one_of (has_state (kind_at nodes k)) (10 * length (digits_at nodes k) + 8) keeps in
      omega (arith, few, room, le);
  mems = closes.mems;
  steps = λ t f c. let same : s ≡ t = cc in
      subst (λ (x : Signal). IsStepping n by.run.net by.reset.net by.position.net time (state_after (digits_at nodes k)) x.net) same (steps c);
  takes = λ t f c. let same : s ≡ t = cc in subst (λ (x : Signal). IsClearable n by.run.net by.reset.net word.net x.net) same (takes c);
})
  where
    alone : (b : Bool) → b || false ≡ true → b ≡ true
    alone true o = refl
    alone false o = o

-- ---- in later modules

-- how the register of a node's state steps, if the node keeps one
pub record IsClosed (m : Module) (nodes : List Node) (n time : ℕ) (word : Signal) (by : AdvanceNets) (state : Option Signal) : Type 0 where
  pub steps : (s : Signal) → state ≡ Some s → counts (kind_at nodes n) ≡ true
      → IsStepping m by.run.net by.reset.net by.position.net time (state_after (digits_at nodes n)) s.net
  pub takes : (s : Signal) → state ≡ Some s → kind_at nodes n ≡ K.Hold → IsClearable m by.run.net by.reset.net word.net s.net

pub closed_on : {m n : Module} {nodes : List Node} {k time : ℕ} {word : Signal} {by : AdvanceNets} {state : Option Signal} → Extends m n
    → IsClosed m nodes k time word by state → IsClosed n nodes k time word by state
closed_on x h = record {
  steps = λ s e c. let q = h.steps s e c in record {
    register = x.regs s.net q.register;
    cleared = λ k f d t r. q.cleared k f d (x.steps k f d t) r;
    steps = λ k f d t r. q.steps k f d (x.steps k f d t) r;
  };
  takes = λ s e c. let q = h.takes s e c in record {
    cleared = λ k f d t r. q.cleared k f d (x.steps k f d t) r;
    takes = λ k f d t r. q.takes k f d (x.steps k f d t) r;
  };
}

pub words_on : {m n : Module} (nodes : List Node) (words : List Signal) → Extends m n → HaveWords m nodes words → HaveWords n nodes words
words_on nodes words x h k lt e = let q = h k lt e in (q.0, record { signal = x.keeps _ q.1.signal; width = q.1.width })

pub nets_on : {m n : Module} {by : AdvanceNets} → Extends m n → AreAdvanceNets m by → AreAdvanceNets n by
nets_on x h = record {
  run = record { signal = x.keeps _ h.run.signal; width = h.run.width };
  reset = record { signal = x.keeps _ h.reset.signal; width = h.reset.width };
  position = record { signal = x.keeps _ h.position.signal; width = h.position.width };
}

-- ---- one after another

pub leaves_both : (l m n : Module) (xs ys : List (Option Signal)) → LeavesOthers l m xs → LeavesOthers m n ys → LeavesOthers l n (xs ++ ys)
leaves_both l m n xs ys f g = record {
  regs = λ k w o.
      let both = sym (state_joined xs ys k) ∙ o in
      g.regs k (f.regs k w (or_first (is_state_of xs k) (is_state_of ys k) both)) (or_second (is_state_of xs k) (is_state_of ys k) both);
  mems = λ k w. g.mems k (f.mems k w);
}

pub written_both : (m n : Module) (xs ys : List (Option Signal)) → Extends m n
    → ((k : ℕ) → is_state_of xs k ≡ true → writes_reg k m.updates ≡ true) → ((k : ℕ) → is_state_of ys k ≡ true → writes_reg k n.updates ≡ true)
    → (k : ℕ) → is_state_of (xs ++ ys) k ≡ true → writes_reg k n.updates ≡ true
written_both m n xs ys x f g k o = by_test (is_state_of xs k) refl
  where
    by_test : (b : Bool) → is_state_of xs k ≡ b → writes_reg k n.updates ≡ true
    by_test true q = written_kept m n k x.grows (f k q)
    by_test false q = g k (sym (ap (λ b. b || is_state_of ys k) q) ∙ sym (state_joined xs ys k) ∙ o)

-- ---- what is still free

pub record AreFreeFrom (m : Module) (states : List (Option Signal)) : Type 0 where
  pub from : ℕ
  pub to : ℕ
  pub free : AreFree m from states to

frees_after : (m n : Module) (k : ℕ) (states : List (Option Signal)) (nets : ℕ)
    → ((j : ℕ) → k ≤ j → writes_reg j m.updates ≡ false → writes_reg j n.updates ≡ false) → AreFree m k states nets → AreFree n k states nets
frees_after m n k [] nets left h = h
frees_after m n k (None ∷ states) nets left h = frees_after m n k states nets left h
frees_after m n k (Some s ∷ states) nets left h = (
  h.0,
  left s.net h.0 h.1,
  frees_after m n (s.net + 1) states nets (λ j le. left j (let q = h.0 in omega (arith, le, q))) h.2,
)

pub free_first : (m : Module) (state : Option Signal) (states : List (Option Signal)) → AreFreeFrom m (state ∷ states) → IsUnwritten m state
free_first m None states h = tt
free_first m (Some s) states h = h.free.1

pub free_rest : (m n : Module) (state : Option Signal) (states : List (Option Signal)) → LeavesOthers m n (state ∷ []) → AreFreeFrom m (state ∷ states)
    → AreFreeFrom n states
free_rest m n None states left h = record {
  from = h.from;
  to = h.to;
  free = frees_after m n h.from states h.to (λ j le w. left.regs j w refl) h.free;
}
free_rest m n (Some s) states left h = record {
  from = s.net + 1;
  to = h.to;
  free = frees_after m n (s.net + 1) states h.to (λ j le w. left.regs j w (or_both (eqb s.net j) false (above s.net j le) refl)) h.free.2;
}
  where
    above : (r j : ℕ) → r + 1 ≤ j → eqb r j ≡ false
    above r j h = grind (arith, h)

pub drop_next : {A : Type 0} (xs : List A) (i : ℕ) (d : A) → i < length xs → drop i xs ≡ get_or xs i d ∷ drop (i + 1) xs
drop_next xs i d h = rw (add-one, drop-cons xs i d) refl
