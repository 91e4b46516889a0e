-- An accepted design has no closed way, also not through its instances.
use Rattle.std.proofs.Common.{◌≡◌, ℕ, zero, suc, ◌+◌, ◌-◌, ◌<◌, ◌≤◌, true, List, [], ◌∷◌, ◌⊎◌, inl, inr, Some, length, get_or, add-one, refl, sym, ap, ◌∙◌, subst, arith}
use Rattle.std.specs.Prelude.{slice_get}
use Rattle.rtl_ir.specs.declared.design.Design.{Design}
use Rattle.rtl_ir.specs.declared.design.Module.{Module}
use Rattle.rtl_ir.specs.declared.design.Instance.{Instance}
use Rattle.rtl_ir.specs.Flat.{Path}
use Rattle.rtl_ir.specs.Rules.{Connection, Feeds, by_assign, by_part, Way, stay, step, IsLevelled, IsAccepted}
use Rattle.rtl_ir.specs.Walks.{FlatFeeds, own, enter, leave, inside, FlatWay, done, then'}
use Rattle.std.proofs.lemmas.Option.{slice_get_within, slice_get-get_or}
use Rattle.rtl_ir.specs.Faults.{IsCombLoop}
use Rattle.rtl_ir.proofs.Accepted.{Sound, sound_at}
use Rattle.rtl_ir.proofs.Only.{joins}
use Rattle.rtl_ir.proofs.Ports.{by_lesser}

-- ranks rise along a way
pub way_rises : {d : Design} {m : Module} {a b : ℕ} (l : IsLevelled d m) → Way d m a b → l.rank a ≤ l.rank b
way_rises l stay = omega arith
way_rises l (step {a = a} {b = b} f w) = omega (arith, l.rising a b f, way_rises l w)

pub no_return : {d : Design} {m : Module} {a b : ℕ} (l : IsLevelled d m) → Feeds d m a b → Way d m b a → ⊥
no_return {a = a} {b = b} l f w = omega (arith, l.rising a b f, way_rises l w)

-- where a way to a net of the module itself stands: on the way in the module, or in an instance on the way to one of its outputs
abbrev Stands : Design → Module → Path → ℕ → ℕ → Type 0
Stands d m [] a b = Way d m a b
Stands d m (k ∷ p) a b = (j : ℕ) × (e : Connection d m k j) × (e.port.output ≡ true) × FlatWay d e.inner p a [] e.port.net × Way d m e.net b

-- the module of an instance is one
same_inner : (d : Design) (m : Module) (k j : ℕ) (i : Instance) (inner : Module)
    (e : Connection d m k j) → slice_get m.instances k ≡ Some i
    → slice_get d.modules i.module ≡ Some inner → inner ≡ e.inner
same_inner d m k j i inner e of is =
    let f = e.of in
    let g = e.is in
    let q : i ≡ e.part = cc in
    let r : slice_get d.modules i.module ≡ Some e.inner = ap (λ (z : Instance). slice_get d.modules z.module) q ∙ g in
    cc

stands_here : (d : Design) (m : Module) (p : Path) (a : ℕ) → p ≡ [] → Stands d m p a a
stands_here d m [] a e = stay
stands_here d m (k ∷ p) a e = absurd (cc)

abbrev pub AllCut : Design → ℕ → Type 0
AllCut d number = (m : Module) → slice_get d.modules number ≡ Some m → (a b : ℕ) → FlatWay d m [] a [] b → Way d m a b

cut : {d : Design} (number : ℕ) {m : Module} {p r : Path} {a b : ℕ} → Sound d number m → ((i : ℕ) → i < number → AllCut d i) → FlatWay d m p a r b → r ≡ [] → Stands d m p a b
cut {d = d} number {m = m} {p = p} {a = a} s ih done e = stands_here d m p a e
cut number s ih (then' (own j n a at h) w) e = step (by_assign j n a at h) (cut number s ih w e)
cut number s ih (then' (enter k j c out) w) e =
    let t = cut number s ih w e in
    step (by_part k j t.0 c t.1 out t.2 (ih t.1.part.module (s.earlier k t.1.part t.1.of) t.1.inner t.1.is c.port.net t.1.port.net t.3)) t.4
cut number s ih (then' (leave k j c out) w) e = (j, c, out, done, cut number s ih w e)
cut {d = d} number {m = m} s ih (then' (inside k i inner p q a b of is f) w) e =
    let t = cut number s ih w e in
    let z = same_inner d m k t.0 i inner t.1 of is in
    (t.0, t.1, t.2, then' (subst (λ (n : Module). FlatFeeds d n p a q b) z f) t.3, t.4)

pub all_cut : (d : Design) → IsAccepted d → (number : ℕ) → AllCut d number
all_cut d h = by_lesser (AllCut d) (λ number ih m e a b w. cut number (sound_at h number m e) ih w refl)

after : {d : Design} {m : Module} {p q r : Path} {a b c : ℕ} → FlatWay d m p a q b → FlatWay d m q b r c → FlatWay d m p a r c
after done w = w
after (then' f v) w = then' f (after v w)

-- a way between nets of one instance stays in it, or goes by a net of the module itself
record ByTop (d : Design) (m : Module) (p : Path) (a : ℕ) (r : Path) (c : ℕ) : Type 0 where
  net : ℕ
  before : FlatWay d m p a [] net
  behind : FlatWay d m [] net r c

no_loop_at_top : (d : Design) → IsAccepted d → (number : ℕ) (m : Module) → slice_get d.modules number ≡ Some m → (a : ℕ) (q : Path) (b : ℕ) → FlatFeeds d m [] a q b → FlatWay d m q b [] a → ⊥
no_loop_at_top d h number m at a q b f w = at_first f w refl
  where
    s : Sound d number m
    s = sound_at h number m at

    at_first : {p q : Path} {x y : ℕ} → FlatFeeds d m p x q y → FlatWay d m q y [] x → p ≡ [] → ⊥
    at_first (own j n z e i) w r = no_return s.levelled (by_assign j n z e i) (all_cut d h number m at _ _ w)
    at_first (enter k j c out) w r =
        let t = cut number s (λ i l. all_cut d h i) w refl in
        no_return s.levelled (by_part k j t.0 c t.1 out t.2 (all_cut d h t.1.part.module t.1.inner t.1.is c.port.net t.1.port.net t.3)) t.4
    at_first (leave k j c out) w r = absurd (cc)
    at_first (inside k i inner p q x y of is g) w r = absurd (cc)

-- a way between nets of one instance stays in it, or goes by a net of the module itself
visits : {d : Design} {m : Module} {x y : Path} {b a : ℕ} (k : ℕ) (i : Instance)
    (inner : Module) → slice_get m.instances k ≡ Some i
    → slice_get d.modules i.module ≡ Some inner → FlatWay d m x b y a → (q p : Path) → x ≡ k ∷ q
    → y ≡ k ∷ p → FlatWay d inner q b p a ⊎ ByTop d m x b y a
visits {d = d} {a = a} k i inner of is done q p e f =
    let r : q ≡ p = cc in
    inl (subst (λ (z : Path). FlatWay d inner q a z a) r done)
visits k i inner of is (then' (own j n z g h) w) q p e f = absurd (cc)
visits k i inner of is (then' (enter l j c out) w) q p e f = absurd (cc)
visits k i inner of is (then' (leave l j c out) w) q p e f = inr (record { net = c.net; before = then' (leave l j c out) done; behind = w })
visits {d = d} {m = m} {y = y} {a = a} k i inner of is (then' (inside l i' inner' p' q' a' b' of' is' g) w) q p e f =
    let kl : l ≡ k = cc in
    let pq : p' ≡ q = cc in
    on kl pq (visits k i inner of is w q' p (ap (λ z. z ∷ q') kl) f)
  where
    on : l ≡ k → p' ≡ q → FlatWay d inner q' b' p a ⊎ ByTop d m (l ∷ q') b' y a → FlatWay d inner q a' p a ⊎ ByTop d m (l ∷ p') a' y a
    on kl pq (inl v) =
        let oi : slice_get m.instances k ≡ Some i' = ap (slice_get m.instances) (sym kl) ∙ of' in
        let ii : i' ≡ i = cc in
        let mi : slice_get d.modules i.module ≡ Some inner' = ap (λ (z : Instance). slice_get d.modules z.module) (sym ii) ∙ is' in
        let mm : inner' ≡ inner = cc in
        let P : Path → Type 0 = λ z. FlatFeeds d inner z a' q' b' in
        let Q : Module → Type 0 = λ z. FlatFeeds d z p' a' q' b' in
        inl (then' (subst P pq (subst Q mm g)) v)
    on kl pq (inr t) = inr (record { net = t.net; before = then' (inside l i' inner' p' q' a' b' of' is' g) t.before; behind = t.behind })

-- a way from a net of the module into an instance and back
close : {d : Design} {m : Module} {p r : Path} {c a : ℕ} → IsAccepted d → (number : ℕ) → slice_get d.modules number ≡ Some m → FlatWay d m p c r a → p ≡ [] → (r ≡ [] → ⊥) → FlatWay d m r a [] c → ⊥
close h number at done e ne v = ne e
close {d = d} {m = m} {c = c} h number at (then' {q = q} {b = b} g w) e ne v =
    no_loop_at_top d h number m at c q b (subst (λ (z : Path). FlatFeeds d m z c q b) e g) (after w v)

abbrev pub HasNoLoop : Design → ℕ → Type 0
HasNoLoop d number = (m : Module) → slice_get d.modules number ≡ Some m → (p : Path) (a : ℕ) (q : Path) (b : ℕ) → FlatFeeds d m p a q b → FlatWay d m q b p a → ⊥

loop : {d : Design} {m : Module} {p q : Path} {a b : ℕ} → IsAccepted d → (number : ℕ)
    → slice_get d.modules number ≡ Some m → ((i : ℕ) → i < number → HasNoLoop d i)
    → FlatFeeds d m p a q b → FlatWay d m q b p a → ⊥
loop {d = d} {m = m} h number at ih (own j n z g i) w = no_loop_at_top d h number m at n [] z.target (own j n z g i) w
loop {d = d} {m = m} h number at ih (enter k j c out) w = no_loop_at_top d h number m at c.net (k ∷ []) c.port.net (enter k j c out) w
loop h number at ih (leave k j c out) w = close h number at w refl (λ e. cc) (then' (leave k j c out) done)
loop {d = d} {m = m} h number at ih (inside k i inner p q a b of is f) w = by_side (visits k i inner of is w q p refl refl)
  where
    by_side : FlatWay d inner q b p a ⊎ ByTop d m (k ∷ q) b (k ∷ p) a → ⊥
    by_side (inl v) = ih i.module ((sound_at h number m at).earlier k i of) inner is p a q b f v
    by_side (inr t) = close h number at t.behind refl (λ e. cc) (then' (inside k i inner p q a b of is f) t.before)

pub no_loop : (d : Design) → IsAccepted d → (number : ℕ) → HasNoLoop d number
no_loop d h = by_lesser (HasNoLoop d) (λ number ih m at p a q b f w. loop h number at ih f w)

-- from the first net of a walk to a later one there is a way
walk_way : (d : Design) (m : Module) (walk : List ℕ) → ((i a b : ℕ) → slice_get walk i ≡ Some a
    → slice_get walk (i + 1) ≡ Some b → Feeds d m a b) → (i a b : ℕ) → slice_get walk 0 ≡ Some a
    → slice_get walk i ≡ Some b → Way d m a b
walk_way d m walk each zero a b e f = let q : a ≡ b = cc in subst (λ (n : ℕ). Way d m a n) q stay
walk_way d m walk each (suc i) a b e f =
    let lt = slice_get_within walk (suc i) b f in
    let at : slice_get walk i ≡ Some (get_or walk i 0) = slice_get-get_or walk i 0 (omega arith) in
    joins (walk_way d m walk each i a (get_or walk i 0) e at) (each i (get_or walk i 0) b at (rw add-one f))

-- a module whose nets are ranked has no loop
pub levelled_free : (d : Design) (m : Module) (walk : List ℕ) → IsLevelled d m → IsCombLoop d m walk → ⊥
levelled_free d m walk l h =
    let p = h.some in
    let first : slice_get walk 0 ≡ Some (get_or walk 0 0) = slice_get-get_or walk 0 0 p in
    let last : slice_get walk (length walk - 1) ≡ Some (get_or walk (length walk - 1) 0) = slice_get-get_or walk (length walk - 1) 0 (omega arith) in
    no_return l (h.last _ _ first last) (walk_way d m walk h.each (length walk - 1) _ _ first last)
