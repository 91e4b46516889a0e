-- A net's value hangs on the inputs alone from which there is a way to it; so there is at most one family.
use Rattle.std.proofs.Common.{◌≡◌, ℕ, zero, suc, ◌<◌, ◌≤◌, ◌^◌, Bool, true, false, ◌||◌, List, [], ◌∷◌, ◌⊎◌, inl, inr, length, Some, refl, sym, ap, ◌∙◌, subst, arith}
use mathlib.Core.Path.{fun_ext}
use Rattle.std.specs.Prelude.{slice_get}
use Rattle.std.proofs.lemmas.Bool.{cases_lt}
use Rattle.std.proofs.lemmas.Option.{slice_get_past}
use Rattle.rtl_ir.specs.declared.design.Design.{Design}
use Rattle.rtl_ir.specs.declared.design.Module.{Module}
use Rattle.rtl_ir.specs.declared.design.Instance.{Instance}
use Rattle.rtl_ir.specs.Value.{Family, width_of, net_width, is_reg}
use Rattle.rtl_ir.specs.Flat.{Path, AllContents, Families, Joined, FitsFlat, below, module_at, part_of}
use Rattle.rtl_ir.specs.declared.design.Port.{Port}
use Rattle.rtl_ir.specs.Parts.{ByParts}
use Rattle.rtl_ir.specs.Typed.{is_input, is_given}
use Rattle.rtl_ir.specs.Rules.{Connection, Driver, ByAssign, ByPort, Drives, Feeds, by_assign, by_part, Way, stay, step, IsAccepted}
use Rattle.rtl_ir.proofs.Accepted.{Sound, sound_at}
use Rattle.rtl_ir.proofs.Parts.{apart, From, from_some}
use Rattle.rtl_ir.proofs.Ports.{by_lesser, value_agrees, joined_at, net_at, InputAt, input_at, assigned_at}

abbrev pub Independent : Design → Module → Type 0
Independent d m = (c : AllContents) (v v' : Families) → FitsFlat d m c v → FitsFlat d m c v' → (n : ℕ) → ((a : ℕ) → is_input m.ports a ≡ true → Way d m a n → v [] a ≡ v' [] a) → v [] n ≡ v' [] n

abbrev pub AllIndependent : Design → ℕ → Type 0
AllIndependent d number = (m : Module) → slice_get d.modules number ≡ Some m → Independent d m

-- a number of no net has the value 0
pub zero_past : (m : Module) (v : Family) (n : ℕ) → ((k : ℕ) → v k < 2 ^ width_of m k) → length m.nets ≤ n → v n ≡ 0
zero_past m v n h past =
    let e : width_of m n ≡ 0 = ap net_width (slice_get_past m.nets n past) in
    let q : v n < 2 ^ 0 = subst (λ (w : ℕ). v n < 2 ^ w) e (h n) in
    omega arith

-- a way that goes on by one net
pub joins : {d : Design} {m : Module} {a b z : ℕ} → Way d m a b → Feeds d m b z → Way d m a z
joins stay f = step f stay
joins (step g w) f = step g (joins w f)

module _ (d : Design) (number : ℕ) (m : Module) (s : Sound d number m) (ih : (i : ℕ)
    → i < number → AllIndependent d i) (c : AllContents) (v v' : Families) (b : ByParts d m c v)
    (b' : ByParts d m c v') where
  at_input : (n k j : ℕ) (e : Connection d m k j) → e.port.output ≡ true → e.net ≡ n
      → ((a : ℕ) → Feeds d m a n → v [] a ≡ v' [] a) → (a : ℕ) → InputAt e.inner.ports a
      → Way d e.inner a e.port.net → v (k ∷ []) a ≡ v' (k ∷ []) a
  at_input n k j e out is fed a i way =
      let size = s.ports k e.part e.inner e.of e.is in
      let o = net_at e.inner.ports e.part.nets i.place i.port size i.at in
      let c' : Connection d m k i.place = record { part = e.part; of = e.of; inner = e.inner; is = e.is; port = i.port; at = i.at; net = o.0; joins = o.1 } in
      let feeds : Feeds d m o.0 e.net = by_part k i.place j c' e i.input out (subst (λ (t : ℕ). Way d e.inner t e.port.net) (sym i.net) way) in
      let same : v [] o.0 ≡ v' [] o.0 = fed o.0 (subst (λ (t : ℕ). Feeds d m o.0 t) is feeds) in
      let g : v (k ∷ []) i.port.net ≡ v [] o.0 = joined_at (v []) (v (k ∷ [])) e.inner.ports e.part.nets i.place i.port o.0 (b.parts k e.part e.inner e.of e.is).0 i.at o.1 in
      let g' : v' (k ∷ []) i.port.net ≡ v' [] o.0 = joined_at (v' []) (v' (k ∷ [])) e.inner.ports e.part.nets i.place i.port o.0 (b'.parts k e.part e.inner e.of e.is).0 i.at o.1 in
      let P : ℕ → Type 0 = λ t. v (k ∷ []) t ≡ v' (k ∷ []) t in
      subst P i.net (g ∙ same ∙ sym g')

  by_driver : (n : ℕ) → ((a : ℕ) → Feeds d m a n → v [] a ≡ v' [] a) → (x : Driver) → Drives d m x n → v [] n ≡ v' [] n
  by_driver n fed (ByAssign j) h =
      let a = h.0 in
      let P : ℕ → Type 0 = λ i. v [] i ≡ v' [] i in
      let w = width_of m a.target in
      subst P h.2 (assigned_at m (c []) (v []) m.assigns j a b.own.assigned h.1 ∙ value_agrees m
      (c []) (v []) (v' []) w a.expr (λ i q. fed i (subst (λ (t : ℕ). Feeds d m i t) h.2
      (by_assign j i a h.1 q))) ∙ sym (assigned_at m (c [])
      (v' []) m.assigns j a b'.own.assigned h.1))
  by_driver n fed (ByPort k j) h =
      let e = h.0 in
      let g = b.parts k e.part e.inner e.of e.is in
      let g' = b'.parts k e.part e.inner e.of e.is in
      let lt = s.earlier k e.part e.of in
      let out : v [] e.net ≡ v (k ∷ []) e.port.net = sym (joined_at (v []) (v (k ∷ [])) e.inner.ports e.part.nets j e.port e.net g.0 e.at e.joins) in
      let out' : v' [] e.net ≡ v' (k ∷ []) e.port.net = sym (joined_at (v' []) (v' (k ∷ [])) e.inner.ports e.part.nets j e.port e.net g'.0 e.at e.joins) in
      let inside : v (k ∷ []) e.port.net ≡ v' (k
      ∷ []) e.port.net = ih e.part.module lt e.inner e.is (below k c) (below k v)
      (below k v') g.1 g'.1 e.port.net (λ a i way. at_input n k j e h.1 h.2 fed a
      (input_at e.inner.ports a i) way) in
      let P : ℕ → Type 0 = λ i. v [] i ≡ v' [] i in
      subst P h.2 (out ∙ inside ∙ sym out')

  at_net : (n : ℕ) → ((a : ℕ) → Feeds d m a n → v [] a ≡ v' [] a)
      → ((a : ℕ) → is_input m.ports a ≡ true → Way d m a n → v [] a ≡ v' [] a) → (r i : Bool)
      → is_reg m n ≡ r → is_input m.ports n ≡ i → (n < length m.nets) ⊎ (length m.nets ≤ n)
      → v [] n ≡ v' [] n
  at_net n fed hangs true i er ei q = b.own.kept n er ∙ sym (b'.own.kept n er)
  at_net n fed hangs false true er ei q = hangs n ei stay
  at_net n fed hangs false false er ei (inl lt) =
      let given : is_given m n ≡ false = ap (λ x. x || is_input m.ports n) er ∙ ei in
      by_driver n fed (s.driven.driver n) (s.driven.some n lt given)
  at_net n fed hangs false false er ei (inr ge) = zero_past m (v []) n b.own.words ge ∙ sym (zero_past m (v' []) n b'.own.words ge)

  by_rank : (r n : ℕ) → s.levelled.rank n < r → ((a : ℕ) → is_input m.ports a ≡ true → Way d m a n → v [] a ≡ v' [] a) → v [] n ≡ v' [] n
  by_rank zero n lt hangs = absurd (omega arith)
  by_rank (suc r) n lt hangs =
      at_net n (λ a f. by_rank r a (omega (arith, s.levelled.rising a n f)) (λ i h way. hangs i h (joins way f))) hangs (is_reg m n) (is_input m.ports n) refl refl (cases_lt n (length m.nets))

pub independent : (d : Design) → IsAccepted d → (number : ℕ) → AllIndependent d number
independent d h =
    by_lesser (AllIndependent d) (λ number ih m e c v v' f f' n hangs.
    let s = sound_at h number m e in
    by_rank d number m s ih c v v' (apart d m c v f) (apart d m c v' f') (suc (s.levelled.rank n)) n (omega arith) hangs)

-- families that agree on the inputs are one on all parts
abbrev pub Agrees : Design → Module → Type 0
Agrees d m = (c : AllContents) (v v' : Families) → FitsFlat d m c v → FitsFlat d m c v'
    → ((n : ℕ) → is_input m.ports n ≡ true → v [] n ≡ v' [] n) → (p : Path) (part : Module)
    → module_at d m p ≡ Some part → v p ≡ v' p

agree : (d : Design) → IsAccepted d → (m : Module) (number : ℕ)
    → slice_get d.modules number ≡ Some m → (p : Path) → (c : AllContents) (v v' : Families)
    → FitsFlat d m c v → FitsFlat d m c v' → ((n : ℕ) → is_input m.ports n ≡ true
    → v [] n ≡ v' [] n) → (part : Module) → module_at d m p ≡ Some part → v p ≡ v' p
agree d h m number e [] c v v' f f' same part at = fun_ext (λ n. independent d h number m e c v v' f f' n (λ a i way. same a i))
agree d h m number e (k ∷ p) c v v' f f' same part at =
    let a : From (λ (inner : Module). module_at d inner p) (part_of d m k) part = from_some (λ inner. module_at d inner p) (part_of d m k) part at in
    let b : From (λ (i : Instance). slice_get d.modules i.module) (slice_get m.instances k) a.item = from_some (λ i. slice_get d.modules i.module) (slice_get m.instances k) a.item a.was in
    let g = (apart d m c v f).parts k b.item a.item b.was b.gives in
    let g' = (apart d m c v' f').parts k b.item a.item b.was b.gives in
    let size = (sound_at h number m e).ports k b.item a.item b.was b.gives in
    agree d h a.item b.item.module b.gives p (below k c) (below k v) (below k v') g.1 g'.1 (λ n i. input n b.item.nets a.item.ports size g.0 g'.0 (input_at a.item.ports n i)) part a.gives
  where
    input : (n : ℕ) (nets : List ℕ) (ports : List Port) → length nets ≡ length ports
        → Joined (v []) (v (k ∷ [])) ports nets → Joined (v' []) (v' (k ∷ [])) ports nets
        → InputAt ports n → v (k ∷ []) n ≡ v' (k ∷ []) n
    input n nets ports size g g' i =
        let o = net_at ports nets i.place i.port size i.at in
        let same' : v [] o.0 ≡ v' [] o.0 = independent d h number m e c v v' f f' o.0 (λ a q way. same a q) in
        let P : ℕ → Type 0 = λ t. v (k ∷ []) t ≡ v' (k ∷ []) t in
        subst P i.net (joined_at (v []) (v (k ∷ [])) ports nets i.place i.port o.0 g i.at o.1 ∙ same' ∙ sym (joined_at (v' []) (v' (k ∷ [])) ports nets i.place i.port o.0 g' i.at o.1))

pub at_most_one : (d : Design) → IsAccepted d → (number : ℕ) (m : Module) → slice_get d.modules number ≡ Some m → Agrees d m
at_most_one d h number m e c v v' f f' same p part at = agree d h m number e p c v v' f f' same part at
