-- Delays that nothing writes yet, of several chains.
use Rattle.std.proofs.Common.{◌≡◌, ℕ, zero, suc, ◌+◌, ◌<◌, ◌≤◌, Bool, true, false, ◌||◌, eqb, List, [], ◌∷◌, ◌++◌, length, get_or, Option, Some, None, refl, sym, ap, ◌∙◌, subst, arith}
use Rattle.std.specs.Prelude.{All}
use Rattle.std.proofs.lemmas.Bool.{false≢true, eqb-true}
use Rattle.rtl_ir.specs.declared.design.Module.{Module}
use Rattle.rtl_ir.specs.Grow.{Grows}
use Rattle.rtl_build.specs.declared.signal.Signal.{Signal}
use Rattle.rtl_delays.specs.declared.elements.Element.{Element}
use Rattle.rtl_delays.specs.declared.elements.Element.TheVariants.{Register, Ring}
use Rattle.rtl_delays.specs.Steps.{writes_reg}
use Rattle.rtl_delays.specs.Extends.{Extends, is_number, LeavesFree, AddsOneRegister}
use Rattle.rtl_delays.specs.Elements.{shown, advances_of, reg_of, mem_of, HasElement, IsFreeElement, IsPast, past, AreFree}
use Rattle.rtl_delays.proofs.Lists.{or_first, or_second, or_both}
use Rattle.rtl_delays.proofs.Started.{element_kept, shown_signal}
use Rattle.rtl_delays.proofs.Kept.{written_kept}
use Rattle.kernel_stages.specs.declared.node.NodeDelays.{NodeDelays}
use Rattle.kernel_stages.specs.Chains.{elements_of, delays_at, joined, last_shown, is_register_of, is_memory_of, AddsRegistersOf}
use Rattle.kernel_stages.specs.Closing.{MayFollow, LeavesOthers, AreWritten}

-- ---- chains joined

or_assoc : (a b c : Bool) → a || (b || c) ≡ (a || b) || c
or_assoc true b c = refl
or_assoc false b c = refl

pub register_joined : (xs ys : List Element) (n : ℕ) → is_register_of (xs ++ ys) n ≡ is_register_of xs n || is_register_of ys n
register_joined [] ys n = refl
register_joined (e ∷ xs) ys n =
    ap (λ b. eqb (reg_of e) n || b) (register_joined xs ys n) ∙ or_assoc (eqb (reg_of e) n) (is_register_of xs n) (is_register_of ys n)

pub memory_joined : (xs ys : List Element) (k : ℕ) → is_memory_of (xs ++ ys) k ≡ is_memory_of xs k || is_memory_of ys k
memory_joined [] ys k = refl
memory_joined (e ∷ xs) ys k =
    ap (λ b. is_number (mem_of e) k || b) (memory_joined xs ys k) ∙ or_assoc (is_number (mem_of e) k) (is_memory_of xs k) (is_memory_of ys k)

append_joined : (xs ys zs : List Element) → (xs ++ ys) ++ zs ≡ xs ++ (ys ++ zs)
append_joined [] ys zs = refl
append_joined (x ∷ xs) ys zs = ap (λ l. x ∷ l) (append_joined xs ys zs)

append_none : (xs : List Element) → xs ++ [] ≡ xs
append_none [] = refl
append_none (x ∷ xs) = ap (λ l. x ∷ l) (append_none xs)

pub joined_more : (ds : List NodeDelays) (d : NodeDelays) → joined (ds ++ d ∷ []) ≡ joined ds ++ elements_of d
joined_more [] d = append_none (elements_of d)
joined_more (x ∷ ds) d = ap (λ l. elements_of x ++ l) (joined_more ds d) ∙ sym (append_joined (elements_of x) (joined ds) (elements_of d))

-- registers of these delays and then of those
pub registers_both :
    (l m n : Module) (xs ys : List Element) → AddsRegistersOf l m xs → AddsRegistersOf m n ys → AddsRegistersOf l n (xs ++ ys)
registers_both l m n xs ys f g k h o =
    let both = sym (register_joined xs ys k) ∙ o in
    f k (g k h (or_second (is_register_of xs k) (is_register_of ys k) both)) (or_first (is_register_of xs k) (is_register_of ys k) both)

pub registers_more :
    (l m n : Module) (xs : List Element) (e : Element) → AddsRegistersOf l m xs → AddsOneRegister m n (reg_of e)
    → AddsRegistersOf l n (xs ++ e ∷ [])
registers_more l m n xs e f g = registers_both l m n xs (e ∷ []) f (λ k h o. g k h (or_first (eqb (reg_of e) k) false o))

-- ---- numbers that rise over chains

past_less : (k j : ℕ) (o : Option ℕ) → k ≤ j → past k o ≤ past j o
past_less k j None h = h
past_less k j (Some i) h = omega arith

is_past_less : (k j : ℕ) (o : Option ℕ) → k ≤ j → IsPast j o → IsPast k o
is_past_less k j None h p = tt
is_past_less k j (Some i) h p = omega (arith, h, p)

past_more : (b : ℕ) (o : Option ℕ) → IsPast b o → b ≤ past b o
past_more b None h = omega arith
past_more b (Some i) h = omega (arith, h)

-- they may rise from lower numbers
pub frees_lower : (m : Module) (a b c d : ℕ) (es : List Element) (nets mems : ℕ) → a ≤ c → b ≤ d → AreFree m c d es nets mems → AreFree m a b es nets mems
frees_lower m a b c d [] nets mems le ke h = (let x = h.0 in omega (arith, x, le), let x = h.1 in omega (arith, x, ke))
frees_lower m a b c d (e ∷ es) nets mems le ke h = (
  let x = h.0 in omega (arith, x, le),
  is_past_less b d (mem_of e) ke h.1,
  h.2,
  h.3,
  frees_lower m (reg_of e + 1) (past b (mem_of e)) (reg_of e + 1) (past d (mem_of e)) es nets mems (omega arith) (past_less b d (mem_of e) ke) h.4,
)

-- those of one chain after those of another
pub frees_both :
    (m : Module) (a b : ℕ) (xs ys : List Element) (nets mems n k : ℕ) → AreFree m a b xs nets mems → AreFree m nets mems ys n k
    → AreFree m a b (xs ++ ys) n k
frees_both m a b [] ys nets mems n k h g = frees_lower m a b nets mems ys n k h.0 h.1 g
frees_both m a b (e ∷ xs) ys nets mems n k h g = (h.0, h.1, h.2, h.3, frees_both m (reg_of e + 1) (past b (mem_of e)) xs ys nets mems n k h.4 g)

-- where the registers and memories of a chain end
abbrev pub reg_end : ℕ → List Element → ℕ
reg_end a [] = a
reg_end a (e ∷ es) = reg_end (reg_of e + 1) es

abbrev pub mem_end : ℕ → List Element → ℕ
mem_end b [] = b
mem_end b (e ∷ es) = mem_end (past b (mem_of e)) es

pub frees_first :
    (m : Module) (a b : ℕ) (xs ys : List Element) (nets mems : ℕ) → AreFree m a b (xs ++ ys) nets mems
    → AreFree m a b xs (reg_end a xs) (mem_end b xs)
frees_first m a b [] ys nets mems h = (omega arith, omega arith)
frees_first m a b (e ∷ xs) ys nets mems h = (h.0, h.1, h.2, h.3, frees_first m (reg_of e + 1) (past b (mem_of e)) xs ys nets mems h.4)

pub frees_last :
    (m : Module) (a b : ℕ) (xs ys : List Element) (nets mems : ℕ) → AreFree m a b (xs ++ ys) nets mems
    → AreFree m (reg_end a xs) (mem_end b xs) ys nets mems
frees_last m a b [] ys nets mems h = h
frees_last m a b (e ∷ xs) ys nets mems h = frees_last m (reg_of e + 1) (past b (mem_of e)) xs ys nets mems h.4

-- what lies past the end is none of the chain
end_more : (m : Module) (a b : ℕ) (xs : List Element) (nets mems : ℕ) → AreFree m a b xs nets mems → a ≤ reg_end a xs
end_more m a b [] nets mems h = omega arith
end_more m a b (e ∷ xs) nets mems h =
    let q = end_more m (reg_of e + 1) (past b (mem_of e)) xs nets mems h.4 in
    let r = h.0 in
    omega (arith, q, r)

mem_end_more : (m : Module) (a b : ℕ) (xs : List Element) (nets mems : ℕ) → AreFree m a b xs nets mems → b ≤ mem_end b xs
mem_end_more m a b [] nets mems h = omega arith
mem_end_more m a b (e ∷ xs) nets mems h =
    let q = mem_end_more m (reg_of e + 1) (past b (mem_of e)) xs nets mems h.4 in
    let r = past_more b (mem_of e) h.1 in
    omega (arith, q, r)

above : (r j : ℕ) → r + 1 ≤ j → eqb r j ≡ false
above r j h = grind (arith, h)

no_number : (b j : ℕ) (o : Option ℕ) → past b o ≤ j → is_number o j ≡ false
no_number b j None h = refl
no_number b j (Some i) h = above i j (omega (arith, h))

pub no_register :
    (m : Module) (a b : ℕ) (xs : List Element) (nets mems : ℕ) → AreFree m a b xs nets mems → (j : ℕ) → reg_end a xs ≤ j
    → is_register_of xs j ≡ false
no_register m a b [] nets mems h j le = refl
no_register m a b (e ∷ xs) nets mems h j le =
    let q = end_more m (reg_of e + 1) (past b (mem_of e)) xs nets mems h.4 in
    or_both (eqb (reg_of e) j) (is_register_of xs j) (above (reg_of e) j (omega (arith, q, le)))
    (no_register m (reg_of e + 1) (past b (mem_of e)) xs nets mems h.4 j le)

pub no_memory : (m : Module) (a b : ℕ) (xs : List Element) (nets mems : ℕ) → AreFree m a b xs nets mems → (j : ℕ) → mem_end b xs ≤ j → is_memory_of xs j ≡ false
no_memory m a b [] nets mems h j le = refl
no_memory m a b (e ∷ xs) nets mems h j le =
    let q = mem_end_more m (reg_of e + 1) (past b (mem_of e)) xs nets mems h.4 in
    or_both (is_number (mem_of e) j) (is_memory_of xs j) (no_number b j (mem_of e) (omega (arith, q, le)))
    (no_memory m (reg_of e + 1) (past b (mem_of e)) xs nets mems h.4 j le)

-- ---- what is free after a chain was closed

free_after :
    (m n : Module) (xs : List Element) (a b : ℕ) → LeavesOthers m n xs → ((j : ℕ) → a ≤ j → is_register_of xs j ≡ false)
    → ((j : ℕ) → b ≤ j → is_memory_of xs j ≡ false)
    → (e : Element) → a ≤ reg_of e → IsPast b (mem_of e) → IsFreeElement m e → IsFreeElement n e
free_after m n xs a b l regs mems (Register s) x y h = l.regs s.net h (regs s.net x)
free_after m n xs a b l regs mems (Ring q) x y h = record {
  pointer = l.regs q.pointer.net h.pointer (regs q.pointer.net x);
  memory = l.mems q.memory h.memory (mems q.memory y);
}

pub frees_after :
    (m n : Module) (xs : List Element) (a b : ℕ) → Extends m n → LeavesOthers m n xs → ((j : ℕ) → a ≤ j → is_register_of xs j ≡ false)
    → ((j : ℕ) → b ≤ j → is_memory_of xs j ≡ false)
    → (es : List Element) (nets mems : ℕ) → AreFree m a b es nets mems → AreFree n a b es nets mems
frees_after m n xs a b x l regs mem [] nets mems h = h
frees_after m n xs a b x l regs mem (e ∷ es) nets mems h = (
  h.0,
  h.1,
  element_kept m n x e h.2,
  free_after m n xs a b l regs mem e h.0 h.1 h.3,
  frees_after m n xs (reg_of e + 1) (past b (mem_of e)) x l (λ j q. regs j (let w = h.0 in omega (arith, w, q)))
      (λ j q. mem j (let w = past_more b (mem_of e) h.1 in omega (arith, w, q))) es nets mems h.4,
)

-- ---- one of them

advances_some : (m : Module) (e : Element) → HasElement m e → 0 < advances_of e
advances_some m (Register s) h = omega arith
advances_some m (Ring r) h = let q = h.some in omega (arith, q)

pub frees_some : (m : Module) (a b : ℕ) (es : List Element) (nets mems : ℕ) → AreFree m a b es nets mems → All (λ e. 0 < advances_of e) es
frees_some m a b [] nets mems h k d lt = absurd (omega arith)
frees_some m a b (e ∷ es) nets mems h zero d lt = advances_some m e h.2
frees_some m a b (e ∷ es) nets mems h (suc k) d lt = frees_some m (reg_of e + 1) (past b (mem_of e)) es nets mems h.4 k d (omega arith)

-- ---- what is written and left

register_among : (es : List Element) (i n : ℕ) (d : Element) → i < length es → is_register_of es n ≡ false → eqb (reg_of (get_or es i d)) n ≡ false
register_among [] i n d lt h = absurd (omega arith)
register_among (e ∷ es) zero n d lt h = or_first (eqb (reg_of e) n) (is_register_of es n) h
register_among (e ∷ es) (suc i) n d lt h = register_among es i n d (omega arith) (or_second (eqb (reg_of e) n) (is_register_of es n) h)

memory_among : (es : List Element) (i n : ℕ) (d : Element) → i < length es → is_memory_of es n ≡ false → is_number (mem_of (get_or es i d)) n ≡ false
memory_among [] i n d lt h = absurd (omega arith)
memory_among (e ∷ es) zero n d lt h = or_first (is_number (mem_of e) n) (is_memory_of es n) h
memory_among (e ∷ es) (suc i) n d lt h = memory_among es i n d (omega arith) (or_second (is_number (mem_of e) n) (is_memory_of es n) h)

pub leaves_same : (m : Module) (es : List Element) → LeavesOthers m m es
leaves_same m es = record { regs = λ n h k. h; mems = λ n h k. h }

-- delay number i of a chain was closed
pub leaves_element :
    (l m n : Module) (es : List Element) (i : ℕ) (e : Element) → i < length es → e ≡ get_or es i e → LeavesOthers l m es
    → LeavesFree m n (reg_of e) (mem_of e) → LeavesOthers l n es
leaves_element l m n es i e lt is f g = record {
  regs = λ k h o. g.regs k (f.regs k h o) (ap (λ x. eqb (reg_of x) k) is ∙ register_among es i k e lt o);
  mems = λ k h o. g.mems k (f.mems k h o) (ap (λ x. is_number (mem_of x) k) is ∙ memory_among es i k e lt o);
}

-- those of both lists were closed
pub leaves_both :
    (l m n : Module) (xs ys : List Element) → LeavesOthers l m xs → LeavesOthers m n ys → LeavesOthers l n (xs ++ ys)
leaves_both l m n xs ys f g = record {
  regs = λ k h o.
      let both = sym (register_joined xs ys k) ∙ o in
      g.regs k (f.regs k h (or_first (is_register_of xs k) (is_register_of ys k) both)) (or_second (is_register_of xs k) (is_register_of ys k) both);
  mems = λ k h o.
      let both = sym (memory_joined xs ys k) ∙ o in
      g.mems k (f.mems k h (or_first (is_memory_of xs k) (is_memory_of ys k) both)) (or_second (is_memory_of xs k) (is_memory_of ys k) both);
}

node_registers : (ds : List NodeDelays) (u n : ℕ) → is_register_of (joined ds) n ≡ false → is_register_of (elements_of (delays_at ds u)) n ≡ false
node_registers [] u n h = refl
node_registers (d ∷ ds) zero n h =
    or_first (is_register_of (elements_of d) n) (is_register_of (joined ds) n) (sym (register_joined (elements_of d) (joined ds) n) ∙ h)
node_registers (d ∷ ds) (suc u) n h =
    node_registers ds u n
    (or_second (is_register_of (elements_of d) n) (is_register_of (joined ds) n) (sym (register_joined (elements_of d) (joined ds) n) ∙ h))

node_memories : (ds : List NodeDelays) (u n : ℕ) → is_memory_of (joined ds) n ≡ false → is_memory_of (elements_of (delays_at ds u)) n ≡ false
node_memories [] u n h = refl
node_memories (d ∷ ds) zero n h =
    or_first (is_memory_of (elements_of d) n) (is_memory_of (joined ds) n) (sym (memory_joined (elements_of d) (joined ds) n) ∙ h)
node_memories (d ∷ ds) (suc u) n h =
    node_memories ds u n
    (or_second (is_memory_of (elements_of d) n) (is_memory_of (joined ds) n) (sym (memory_joined (elements_of d) (joined ds) n) ∙ h))

-- the delays of node u were closed
pub leaves_node :
    (l m n : Module) (ds : List NodeDelays) (u : ℕ) → LeavesOthers l m (joined ds) → LeavesOthers m n (elements_of (delays_at ds u))
    → LeavesOthers l n (joined ds)
leaves_node l m n ds u f g = record {
  regs = λ k h o. g.regs k (f.regs k h o) (node_registers ds u k o);
  mems = λ k h o. g.mems k (f.mems k h o) (node_memories ds u k o);
}

pub none_written : (m : Module) → AreWritten m []
none_written m n h = absurd (false≢true h)

pub written_more : (m : Module) (e : Element) (es : List Element) → writes_reg (reg_of e) m.updates ≡ true → AreWritten m es → AreWritten m (e ∷ es)
written_more m e es w h n o = by_test (eqb (reg_of e) n) refl
  where
    by_test : (b : Bool) → eqb (reg_of e) n ≡ b → writes_reg n m.updates ≡ true
    by_test true q = subst (λ r. writes_reg r m.updates ≡ true) (eqb-true (reg_of e) n q) w
    by_test false q = h n (sym (ap (λ b. b || is_register_of es n) q) ∙ o)

pub written_both : (m : Module) (xs ys : List Element) → AreWritten m xs → AreWritten m ys → AreWritten m (xs ++ ys)
written_both m xs ys f g n o = by_test (is_register_of xs n) refl
  where
    both : is_register_of xs n || is_register_of ys n ≡ true
    both = sym (register_joined xs ys n) ∙ o

    by_test : (b : Bool) → is_register_of xs n ≡ b → writes_reg n m.updates ≡ true
    by_test true q = f n q
    by_test false q = g n (sym (ap (λ b. b || is_register_of ys n) q) ∙ both)

pub written_on : (m n : Module) (es : List Element) → Grows m n → AreWritten m es → AreWritten n es
written_on m n es g h k o = written_kept m n k g (h k o)

-- ---- what follows

pub may_kept : (m n : Module) (s : Signal) (e : Element) → Extends m n → MayFollow m s e → MayFollow n s e
may_kept m n s e x h = record { signal = x.keeps s h.signal; width = h.width }

-- free delays stand in the module
pub frees_stand : (m : Module) (a b : ℕ) (es : List Element) (nets mems : ℕ) → AreFree m a b es nets mems → All (HasElement m) es
frees_stand m a b [] nets mems h k d lt = absurd (omega (arith, lt))
frees_stand m a b (e ∷ es) nets mems h zero d lt = h.2
frees_stand m a b (e ∷ es) nets mems h (suc k) d lt = frees_stand m (reg_of e + 1) (past b (mem_of e)) es nets mems h.4 k d (omega (arith, lt))

-- what may follow a signal may follow the end of a chain that may follow it
pub end_may_be :
    (m : Module) (s : Signal) (es ws : List Element) → All (HasElement m) es → All (MayFollow m s) es → All (MayFollow m s) ws
    → All (MayFollow m (last_shown s es)) ws
end_may_be m s [] ws stand may all = all
end_may_be m s (e ∷ es) ws stand may all =
    let here = may 0 e (omega arith) in
    let signal = shown_signal m e (stand 0 e (omega arith)) in
    let next : (x : Element) → MayFollow m s x → MayFollow m (shown e) x = λ x h. record { signal = signal; width = sym here.width ∙ h.width } in
    end_may_be m (shown e) es ws (λ k d lt. stand (suc k) d (omega (arith, lt))) (λ k d lt. next (get_or es k d) (may (suc k) d (omega (arith, lt))))
    (λ k d lt. next (get_or ws k d) (all k d lt))
