-- Delays that nothing writes yet, in modules that grow.
use Rattle.std.proofs.Common.{◌≡◌, ℕ, ◌+◌, ◌<◌, ◌≤◌, false, eqb, List, [], ◌∷◌, ◌++◌, length, Option, Some, None, refl, ap, ◌∙◌, arith}
use Rattle.rtl_ir.specs.declared.design.Module.{Module}
use Rattle.rtl_delays.specs.declared.elements.Element.{Element}
use Rattle.rtl_delays.specs.declared.elements.Element.TheVariants.{Register, Ring}
use Rattle.rtl_delays.specs.Steps.{writes_reg, writes_mem}
use Rattle.rtl_delays.specs.Extends.{Extends, is_number, LeavesFree}
use Rattle.rtl_build.specs.Signals.{HasSignal}
use Rattle.rtl_delays.proofs.Extends.{more_mems}
use Rattle.rtl_delays.specs.Elements.{shown, reg_of, mem_of, HasElement, IsFreeElement, IsNewMemory, IsPast, past, AreFree}

pub element_kept : (m n : Module) → Extends m n → (e : Element) → HasElement m e → HasElement n e
element_kept m n x (Register s) h = (x.keeps s h.0, x.registers s h.1)
element_kept m n x (Ring r) h = record {
  pointer = x.keeps r.pointer h.pointer;
  register = x.registers r.pointer h.register;
  memory = let a = more_mems x.grows in let b = h.memory in omega (arith, a, b);
  depth = x.depths r.memory h.memory ∙ h.depth;
  width = x.widths r.memory h.memory ∙ h.width;
  word = x.keeps r.word h.word;
  some = h.some;
  fits = h.fits;
  shows = λ c v q lt. h.shows c v (x.before c v q) lt;
}

free_kept : (m n : Module) → n.updates ≡ m.updates → (e : Element) → IsFreeElement m e → IsFreeElement n e
free_kept m n u (Register s) h = ap (writes_reg s.net) u ∙ h
free_kept m n u (Ring r) h = record { pointer = ap (writes_reg r.pointer.net) u ∙ h.pointer; memory = ap (writes_mem r.memory) u ∙ h.memory }

-- a module that grows without updates
pub frees_kept : (m n : Module) → Extends m n → n.updates ≡ m.updates → (a b : ℕ) (es : List Element) (nets mems : ℕ) → AreFree m a b es nets mems → AreFree n a b es nets mems
frees_kept m n x u a b [] nets mems h = h
frees_kept m n x u a b (e ∷ es) nets mems h = (h.0, h.1, element_kept m n x e h.2, free_kept m n u e h.3, frees_kept m n x u (reg_of e + 1) (past b (mem_of e)) es nets mems h.4)

past_less : (k j : ℕ) (o : Option ℕ) → k ≤ j → past k o ≤ past j o
past_less k j None h = h
past_less k j (Some i) h = omega arith

is_past_less : (k j : ℕ) (o : Option ℕ) → k ≤ j → IsPast j o → IsPast k o
is_past_less k j None h p = tt
is_past_less k j (Some i) h p = omega (arith, h, p)

-- one more
pub frees_more : (m : Module) (a b : ℕ) (es : List Element) (nets mems : ℕ) (e : Element) → AreFree m a b es nets mems → nets ≤ reg_of e → IsPast mems (mem_of e) → HasElement m e → IsFreeElement m e
    → (n k : ℕ) → reg_of e + 1 ≤ n → past mems (mem_of e) ≤ k → AreFree m a b (es ++ e ∷ []) n k
frees_more m a b [] nets mems e h r p has free n k le ke = (
  let x = h.0 in omega (arith, x, r),
  is_past_less b mems (mem_of e) h.1 p,
  has,
  free,
  (le, let x = past_less b mems (mem_of e) h.1 in omega (arith, x, ke)),
)
frees_more m a b (d ∷ es) nets mems e h r p has free n k le ke = (h.0, h.1, h.2, h.3, frees_more m (reg_of d + 1) (past b (mem_of d)) es nets mems e h.4 r p has free n k le ke)

-- what lies behind one that is written is still free
other_reg : (r a s : ℕ) → r < a → a ≤ s → eqb r s ≡ false
other_reg r a s h k = grind (arith, h, k)

free_left : (m n : Module) (r : ℕ) (k : Option ℕ) (a b : ℕ) → LeavesFree m n r k → r < a
    → ((j : ℕ) → b ≤ j → is_number k j ≡ false) → (e : Element) → a ≤ reg_of e
    → IsPast b (mem_of e) → IsFreeElement m e → IsFreeElement n e
free_left m n r k a b l lt mem (Register s) x y h = l.regs s.net h (other_reg r a s.net lt x)
free_left m n r k a b l lt mem (Ring q) x y h = record { pointer = l.regs q.pointer.net h.pointer (other_reg r a q.pointer.net lt x); memory = l.mems q.memory h.memory (mem q.memory y) }

past_more : (b : ℕ) (o : Option ℕ) → IsPast b o → b ≤ past b o
past_more b None h = omega arith
past_more b (Some j) h = omega (arith, h)

pub frees_left : (m n : Module) (r : ℕ) (k : Option ℕ) → Extends m n → LeavesFree m n r k
    → (a b : ℕ) → r < a → ((j : ℕ) → b ≤ j → is_number k j ≡ false)
    → (es : List Element) (nets mems : ℕ) → AreFree m a b es nets mems → AreFree n a b es nets mems
frees_left m n r k x l a b lt mem [] nets mems h = h
frees_left m n r k x l a b lt mem (e ∷ es) nets mems h = (
  h.0,
  h.1,
  element_kept m n x e h.2,
  free_left m n r k a b l lt mem e h.0 h.1 h.3,
  frees_left m n r k x l (reg_of e + 1) (past b (mem_of e)) (let q = h.0 in omega (arith, q, lt)) (λ j q. mem j (let w = past_more b (mem_of e) h.1 in omega (arith, w, q))) es nets mems h.4,
)

-- the memories behind that of an element are others
pub others : (b : ℕ) (o : Option ℕ) (j : ℕ) → past b o ≤ j → is_number o j ≡ false
others b None j h = refl
others b (Some i) j h = grind (arith, h)

pub new_past : (n : ℕ) (o : Option ℕ) → IsNewMemory n o → IsPast n o
new_past n None h = tt
new_past n (Some k) h = omega (arith, h)

pub reg_within : (m : Module) (e : Element) → HasElement m e → reg_of e + 1 ≤ length m.nets
reg_within m (Register s) h = let a = h.0.net in omega (arith, a)
reg_within m (Ring r) h = let a = h.pointer.net in omega (arith, a)

pub mem_within : (m : Module) (e : Element) (k : ℕ) → HasElement m e → k ≤ length m.mems → past k (mem_of e) ≤ length m.mems
mem_within m (Register s) k h le = le
mem_within m (Ring r) k h le = let a = h.memory in omega (arith, a)

pub shown_signal : (m : Module) (e : Element) → HasElement m e → HasSignal m (shown e)
shown_signal m (Register s) h = h.0
shown_signal m (Ring r) h = h.word
