-- A module that keeps the rules of designs so far, and what is added to it.
use Rattle.std.proofs.Common.{◌≡◌, ℕ, zero, suc, ◌+◌, ◌*◌, ◌<◌, ◌≤◌, Bool, true, false, ◌||◌, eqb, inl, inr, List, [], ◌∷◌, ◌++◌, length, Some, refl, sym, ap, ◌∙◌, subst, arith, length-append}
use Rattle.std.proofs.lemmas.Bool.{false≢true}
use Rattle.std.specs.Prelude.{slice_get, codes, ◌⊎◌}
use Rattle.rtl_ir.specs.declared.design.Net.{Net}
use Rattle.rtl_ir.specs.declared.design.Mem.{Mem}
use Rattle.rtl_ir.specs.declared.design.Module.{Module}
use Rattle.rtl_ir.specs.declared.design.Assign.{Assign}
use Rattle.rtl_ir.specs.declared.design.Update.{Update}
use Rattle.rtl_ir.specs.declared.design.Sign.{Sign}
use Rattle.rtl_ir.specs.declared.design.Expr.{Expr}
use Rattle.rtl_ir.specs.declared.design.Expr.TheVariants.{Net as Plain, Literal, Not, Binary, Concat, Repeat, Part, Choose, Cell}
use Rattle.rtl_ir.specs.declared.design.Target.{Target}
use Rattle.rtl_ir.specs.declared.design.Target.TheVariants as targets
use Rattle.rtl_ir.specs.Value.{net_kept, is_reg, width_of}
use Rattle.rtl_ir.specs.Typed.{mem_width, word_width, IsTyped, IsSignTyped, target_width, is_input, is_given}
use Rattle.rtl_ir.specs.Formed.{net_name, name_of}
use Rattle.rtl_ir.specs.Grow.{IsIn, AllIn, Grows}
use Rattle.rtl_ir.proofs.Grow.{width_kept}
use Rattle.rtl_delays.specs.Steps.{IsTargetIn, UpdatesIn, IsKept, IsSound}
use Rattle.rtl_delays.specs.Names.{HasNoPosition}
use Rattle.rtl_delays.specs.Ordered.{IsOrdered}
use Rattle.rtl_delays.specs.Driven.{is_driven}
use Rattle.rtl_delays.specs.Partial.{IsOwnName, IsPartialMem, IsPartialAssign, IsPartialUpdate, IsPartial}
use Rattle.rtl_delays.proofs.Lists.{get_within}

pub reg_within : (l : List Net) (k : ℕ) → net_kept (slice_get l k) ≡ true → k < length l
reg_within [] k h = absurd (false≢true h)
reg_within (x ∷ l) zero h = omega arith
reg_within (x ∷ l) (suc k) h = let q = reg_within l k h in omega arith

-- an item of two lists is one of the first or one of the second
pub parted : {A : Type 0} (xs ys : List A) (j : ℕ) (a : A) → slice_get (xs ++ ys) j ≡ Some a
    → ((slice_get xs j ≡ Some a) × (j < length xs)) ⊎ ((i : ℕ) × (j ≡ length xs + i)
    × (slice_get ys i ≡ Some a))
parted [] ys j a e = inr (j, omega arith, e)
parted (x ∷ xs) ys zero a e = inl (e, omega arith)
parted (x ∷ xs) ys (suc j) a e = elim (parted xs ys j a e) [ inl h ↦ inl (h.0, let l = h.1 in omega (arith, l)) | inr h ↦ inr (h.0, (let l = h.1 in omega (arith, l)), h.2) ]

-- the last item alone
pub one_item : {A : Type 0} (x : A) (i : ℕ) (a : A) → slice_get (x ∷ []) i ≡ Some a → (i ≡ 0) × (x ≡ a)
one_item x zero a e = (refl, let f : x ≡ a = cc in f)
one_item x (suc i) a e = cc

pub in_at : (nets mems : ℕ) (l : List Assign) → AllIn nets mems l → (j : ℕ) (a : Assign) → slice_get l j ≡ Some a → (a.target < nets) × IsIn nets mems a.expr
in_at nets mems [] h j a e = cc
in_at nets mems (x ∷ l) h zero a e = let f : x ≡ a = cc in subst (λ (y : Assign). (y.target < nets) × IsIn nets mems y.expr) f (h.0, h.1)
in_at nets mems (x ∷ l) h (suc j) a e = in_at nets mems l h.2 j a e

pub target_at : (nets mems : ℕ) (l : List Update) → UpdatesIn nets mems l → (j : ℕ) (u : Update) → slice_get l j ≡ Some u → IsTargetIn nets mems u.target
target_at nets mems [] h j u e = cc
target_at nets mems (x ∷ l) h zero u e = let f : x ≡ u = cc in subst (λ (y : Update). IsTargetIn nets mems y.target) f h.0
target_at nets mems (x ∷ l) h (suc j) u e = target_at nets mems l h.1 j u e

-- a net that an assignment is to is driven
pub driven_at : (l : List Assign) (j : ℕ) (a : Assign) → slice_get l j ≡ Some a → is_driven a.target l ≡ true
driven_at [] j a e = cc
driven_at (x ∷ l) zero a e =
    let f : x ≡ a = cc in
    let same : eqb a.target a.target ≡ true = grind arith in
    ap (λ (y : Assign). eqb y.target a.target || is_driven a.target l) f ∙ ap (λ b. b || is_driven a.target l) same
driven_at (x ∷ l) (suc j) a e = ap (λ b. eqb x.target a.target || b) (driven_at l j a e) ∙ either (eqb x.target a.target)
  where
    either : (b : Bool) → b || true ≡ true
    either true = refl
    either false = refl

pub driven_more : (n : ℕ) (xs ys : List Assign) → is_driven n xs ≡ true → is_driven n (xs ++ ys) ≡ true
driven_more n [] ys h = absurd (false≢true h)
driven_more n (x ∷ xs) ys h = step (eqb x.target n) h (λ q. driven_more n xs ys q)
  where
    step : (b : Bool) → b || is_driven n xs ≡ true → (is_driven n xs ≡ true → is_driven n (xs ++ ys) ≡ true) → b || is_driven n (xs ++ ys) ≡ true
    step true h k = refl
    step false h k = k h

-- ---- what doesn't change of what stood

pub same_reg : (m n : Module) → Grows m n → (k : ℕ) → k < length m.nets → is_reg n k ≡ is_reg m k
same_reg m n g k h = ap (λ (l : List Net). net_kept (slice_get l k)) g.nets ∙ ap net_kept (get_within m.nets g.more_nets k h)

pub same_name : (m n : Module) → Grows m n → (k : ℕ) → k < length m.nets → name_of n k ≡ name_of m k
same_name m n g k h = ap (λ (l : List Net). net_name (slice_get l k)) g.nets ∙ ap net_name (get_within m.nets g.more_nets k h)

same_given : (m n : Module) → Grows m n → (k : ℕ) → k < length m.nets → is_given n k ≡ is_given m k
same_given m n g k h = ap (λ b. b || is_input n.ports k) (same_reg m n g k h) ∙ ap (λ ps. is_reg m k || is_input ps k) g.ports

pub same_words : (m n : Module) → Grows m n → (k : ℕ) → k < length m.mems → word_width n k ≡ word_width m k
same_words m n g k h = ap (λ (l : List Mem). mem_width (slice_get l k)) g.mems ∙ ap mem_width (get_within m.mems g.more_mems k h)

sign_typed : (s : Sign) (w a b a' b' : ℕ) → a' ≡ a → b' ≡ b → IsSignTyped s w a b → IsSignTyped s w a' b'
sign_typed s w a b a' b' e f h = let P : ℕ → ℕ → Type 0 = λ x y. IsSignTyped s w x y in subst (λ x. P x b') (sym e) (subst (P a) (sym f) h)

-- what is typed in the module is typed in the larger one
typed_on : (m n : Module) → Grows m n → (e : Expr) (w : ℕ) → IsIn (length m.nets) (length m.mems) e → IsTyped m w e → IsTyped n w e
typed_on m n g (Plain a) w i t = width_kept m n g a i ∙ t
typed_on m n g (Literal x) w i t = t
typed_on m n g (Not a) w i t = width_kept m n g a i ∙ t
typed_on m n g (Binary s a b) w i t = sign_typed s w (width_of m a) (width_of m b) _ _ (width_kept m n g a i.0) (width_kept m n g b i.1) t
typed_on m n g (Concat a b) w i t = let x = width_kept m n g a i.0 in let y = width_kept m n g b i.1 in omega (arith, x, y, t)
typed_on m n g (Repeat x a) w i t = ap (λ y. x * y) (width_kept m n g a i) ∙ t
typed_on m n g (Part a hi lo) w i t = let x = width_kept m n g a i in let q = t.1 in (t.0, omega (arith, x, q), t.2)
typed_on m n g (Choose c a b) w i t = (width_kept m n g c i.0 ∙ t.0, width_kept m n g a i.1 ∙ t.1, width_kept m n g b i.2 ∙ t.2)
typed_on m n g (Cell j a) w i t = same_words m n g j i.0 ∙ t

assign_on : (m n : Module) → Grows m n → (a : Assign) → a.target < length m.nets → IsIn (length m.nets) (length m.mems) a.expr → IsPartialAssign m a → IsPartialAssign n a
assign_on m n g a t i h = record {
  free = same_given m n g a.target t ∙ h.free;
  typed = subst (λ w. IsTyped n w a.expr) (sym (width_kept m n g a.target t)) (typed_on m n g a.expr (width_of m a.target) i h.typed);
  numbers = h.numbers;
}

width_on : (m n : Module) → Grows m n → (t : Target) → IsTargetIn (length m.nets) (length m.mems) t → target_width n t ≡ target_width m t
width_on m n g (targets.Reg k) i = width_kept m n g k i
width_on m n g (targets.Cell k a) i = same_words m n g k i.0

kept_on : (m n : Module) → Grows m n → length m.mems ≤ length n.mems → (t : Target) → IsTargetIn (length m.nets) (length m.mems) t → IsKept m t → IsKept n t
kept_on m n g le (targets.Reg k) i h = same_reg m n g k i ∙ h
kept_on m n g le (targets.Cell k a) i h = let lt = i.0 in omega (arith, lt, le)

update_on : (m n : Module) → Grows m n → length m.nets ≤ length n.nets
    → length m.mems ≤ length n.mems → (u : Update)
    → IsTargetIn (length m.nets) (length m.mems) u.target → IsPartialUpdate m u
    → IsPartialUpdate n u
update_on m n g le few u i h = record {
  enable = let e = h.enable in omega (arith, e, le);
  value = let e = h.value in omega (arith, e, le);
  kept = kept_on m n g few u.target i h.kept;
  typed = record {
    enable = width_kept m n g u.enable h.enable ∙ h.typed.enable;
    value = width_kept m n g u.value h.value ∙ h.typed.value ∙ sym (width_on m n g u.target i);
  };
}

-- ---- what is new

-- a net that was added as number k
pub record IsNewNet (n : Module) (k : ℕ) (x : Net) : Type 0 where
  pub some : 1 ≤ x.width
  pub at_most : x.width ≤ 128
  pub name : IsOwnName k x.name
  pub wired : x.reg ≡ false → is_driven k n.assigns ≡ true

pub record More (m n : Module) (g : Grows m n) : Type 0 where
  pub sound : IsSound n
  pub ordered : IsOrdered m → IsOrdered n
  pub nets : (i : ℕ) (x : Net) → slice_get g.more_nets i ≡ Some x → IsNewNet n (length m.nets + i) x
  pub position : ((k : ℕ) → length m.nets ≤ k → name_of n k ≡ codes "position" → ⊥) ⊎ (HasNoPosition m × (length n.nets ≡ length m.nets + 1))
  pub mems : (i : ℕ) (x : Mem) → slice_get g.more_mems i ≡ Some x → IsPartialMem (length m.mems + i) x
  pub assigns : (i : ℕ) (a : Assign) → slice_get g.more_assigns i ≡ Some a → IsPartialAssign n a
  pub fresh : (i : ℕ) (a : Assign) → slice_get g.more_assigns i ≡ Some a → is_driven a.target m.assigns ≡ false
  pub single : (i j : ℕ) (a b : Assign) → slice_get g.more_assigns i ≡ Some a → slice_get g.more_assigns j ≡ Some b → a.target ≡ b.target → i ≡ j
  pub updates : (i : ℕ) (u : Update) → slice_get g.more_updates i ≡ Some u → IsPartialUpdate n u

two_drivers : (m : Module) (i j : ℕ) (a b : Assign) → slice_get m.assigns i ≡ Some a → is_driven b.target m.assigns ≡ false → a.target ≡ b.target → i ≡ j
two_drivers m i j a b e h same = absurd (false≢true (sym h ∙ ap (λ t. is_driven t m.assigns) (sym same) ∙ driven_at m.assigns i a e))

pub within_name : (n : Module) (k : ℕ) → name_of n k ≡ codes "position" → k < length n.nets
within_name n k e = among n.nets k e
  where
    among : (l : List Net) (k : ℕ) → net_name (slice_get l k) ≡ codes "position" → k < length l
    among [] k e = cc
    among (x ∷ l) zero e = omega arith
    among (x ∷ l) (suc k) e = let q = among l k e in omega (arith, q)

pub below_or : (a b : ℕ) → (a < b) ⊎ (b ≤ a)
below_or a zero = inr (omega arith)
below_or zero (suc b) = inl (omega arith)
below_or (suc a) (suc b) = elim (below_or a b) [ inl h ↦ inl (omega (arith, h)) | inr h ↦ inr (omega (arith, h)) ]

-- the rules so far, in the module with what was added
pub grown : (m n : Module) (g : Grows m n) → IsPartial m → More m n g → IsPartial n
grown m n g p more = record {
  sound = more.sound;
  ordered = more.ordered p.ordered;
  front = let f = p.front in omega (arith, f, ports, len);
  ports = λ k x e. p.ports k x (sym (ap (λ l. slice_get l k) g.ports) ∙ e);
  port_wires = λ k lt. let f = p.front in let small : k < length m.ports = omega (arith, lt, ports) in same_reg m n g k (omega (arith, small, f)) ∙ p.port_wires k small;
  widths = λ k x e. elim (at_net k x e) [ inl h ↦ p.widths k x h.0 | inr h ↦ (let q = more.nets h.0 x h.2 in (q.some, q.at_most)) ];
  names = λ k x le e. elim (at_net k x e) [ inl h ↦ p.names k x (omega (arith, le, ports)) h.0 | inr h ↦ subst (λ i. IsOwnName i x.name) (sym h.1) (more.nets h.0 x h.2).name ];
  position = λ j k a b e f. one_position j k (omega (arith, a, ports)) (omega (arith, b, ports)) e f (below_or j (length m.nets)) (below_or k (length m.nets)) more.position;
  wired = λ k x le e r. elim (at_net k x e) [
    | inl h ↦ ap (is_driven k) g.assigns ∙ driven_more k m.assigns g.more_assigns (p.wired k x (omega (arith, le, ports)) h.0 r)
    | inr h ↦ subst (λ i. is_driven i n.assigns ≡ true) (sym h.1) ((more.nets h.0 x h.2).wired r)
  ];
  mems = λ k x e. elim (parted m.mems g.more_mems k x (sym (ap (λ l. slice_get l k) g.mems) ∙ e)) [ inl h ↦ p.mems k x h.0 | inr h ↦ subst (λ i. IsPartialMem i x) (sym h.1) (more.mems h.0 x h.2) ];
  assigns = λ j a e. elim (at_assign j a e)
      [ inl h ↦ (let r = in_at (length m.nets) (length m.mems) m.assigns p.sound.range j a h.0 in assign_on m n g a r.0 r.1 (p.assigns j a h.0)) | inr h ↦ more.assigns h.0 a h.2 ];
  single = λ i j a b e f same. one_driver i j a b same (at_assign i a e) (at_assign j b f);
  updates = λ j u e. elim (parted m.updates g.more_updates j u (sym (ap (λ l. slice_get l j) g.updates) ∙ e)) [
    | inl h ↦ update_on m n g (omega (arith, len)) (omega (arith, mems)) u (target_at (length m.nets) (length m.mems) m.updates p.sound.updates j u h.0) (p.updates j u h.0)
    | inr h ↦ more.updates h.0 u h.2
  ];
}
  where
    ports : length n.ports ≡ length m.ports
    ports = ap length g.ports

    len : length n.nets ≡ length m.nets + length g.more_nets
    len = ap length g.nets ∙ length-append m.nets g.more_nets

    mems : length n.mems ≡ length m.mems + length g.more_mems
    mems = ap length g.mems ∙ length-append m.mems g.more_mems

    at_net : (k : ℕ) (x : Net) → slice_get n.nets k ≡ Some x → ((slice_get m.nets k ≡ Some x) × (k < length m.nets)) ⊎ ((i : ℕ) × (k ≡ length m.nets + i) × (slice_get g.more_nets i ≡ Some x))
    at_net k x e = parted m.nets g.more_nets k x (sym (ap (λ l. slice_get l k) g.nets) ∙ e)

    at_assign : (k : ℕ) (x : Assign) → slice_get n.assigns k ≡ Some x
        → ((slice_get m.assigns k ≡ Some x) × (k < length m.assigns))
        ⊎ ((i : ℕ) × (k ≡ length m.assigns + i) × (slice_get g.more_assigns i ≡ Some x))
    at_assign k x e = parted m.assigns g.more_assigns k x (sym (ap (λ l. slice_get l k) g.assigns) ∙ e)

    one_driver : (i j : ℕ) (a b : Assign) → a.target ≡ b.target
        → ((slice_get m.assigns i ≡ Some a) × (i < length m.assigns))
        ⊎ ((k : ℕ) × (i ≡ length m.assigns + k) × (slice_get g.more_assigns k ≡ Some a))
        → ((slice_get m.assigns j ≡ Some b) × (j < length m.assigns)) ⊎ ((k : ℕ) × (j ≡ length m.assigns + k) × (slice_get g.more_assigns k ≡ Some b)) → i ≡ j
    one_driver i j a b same (inl h) (inl k) = p.single i j a b h.0 k.0 same
    one_driver i j a b same (inl h) (inr k) = two_drivers m i j a b h.0 (more.fresh k.0 b k.2) same
    one_driver i j a b same (inr h) (inl k) = sym (two_drivers m j i b a k.0 (more.fresh h.0 a h.2) (sym same))
    one_driver i j a b same (inr h) (inr k) = let q = more.single h.0 k.0 a b h.2 k.2 same in h.1 ∙ ap (λ x. length m.assigns + x) q ∙ sym k.1

    one_position : (j k : ℕ) → length m.ports ≤ j → length m.ports ≤ k → name_of n j ≡ codes "position" → name_of n k ≡ codes "position"
        → (j < length m.nets) ⊎ (length m.nets ≤ j) → (k < length m.nets) ⊎ (length m.nets ≤ k)
        → ((k : ℕ) → length m.nets ≤ k → name_of n k ≡ codes "position" → ⊥) ⊎ (HasNoPosition m × (length n.nets ≡ length m.nets + 1)) → j ≡ k
    one_position j k a b e f (inl x) (inl y) q = p.position j k a b (sym (same_name m n g j x) ∙ e) (sym (same_name m n g k y) ∙ f)
    one_position j k a b e f (inl x) (inr y) (inl q) = absurd (q k y f)
    one_position j k a b e f (inl x) (inr y) (inr q) = absurd (q.0 j a (sym (same_name m n g j x) ∙ e))
    one_position j k a b e f (inr x) y (inl q) = absurd (q j x e)
    one_position j k a b e f (inr x) (inl y) (inr q) = absurd (q.0 k b (sym (same_name m n g k y) ∙ f))
    one_position j k a b e f (inr x) (inr y) (inr q) = let s = within_name n j e in let t = within_name n k f in let l = q.1 in omega (arith, x, y, s, t, l)
