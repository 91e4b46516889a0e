-- Modules one by one.
use Rattle.std.proofs.Common.{◌≡◌, ◌∙◌, ℕ, zero, suc, ◌≤◌, ◌⊎◌, inl, inr, List, [], ◌∷◌, ◌++◌, length, take, None, Some, refl, sym, ap, subst, append_assoc, arith}
use Rattle.std.specs.Prelude.{slice_get}
use Rattle.std.proofs.lemmas.List.{append-nil, length-append}
use Rattle.std.proofs.lemmas.Option.{slice_get_within}
use Rattle.rtl_ir.specs.declared.design.Module.{Module}
use Rattle.rtl_text.specs.Tree.{ModuleTree}
use Rattle.rtl_reading.specs.Uses.{module_uses, text_uses, first_undeclared}
use Rattle.verilog_read.specs.Built.{IsSaid}
use Rattle.verilog_read.specs.Walk.{AllDeclared, IsFault, AreSaid, module_scope}
use Rattle.verilog_read.specs.declared.fault.Fault.{Fault}
use Rattle.verilog_read.proofs.FirstUse.{both, fault_later, fault_sooner}

uses_joined : (earlier ts us : List ModuleTree) → text_uses earlier (ts ++ us) ≡ text_uses earlier ts ++ text_uses (earlier ++ ts) us
uses_joined earlier [] us = ap (λ l. text_uses l us) (sym (append-nil earlier))
uses_joined earlier (t ∷ ts) us =
    let here = module_uses earlier t in
    ap (λ l. here ++ l) (uses_joined (earlier ++ t ∷ []) ts us ∙ ap (λ l. text_uses (earlier ++ t ∷ []) ts ++ text_uses l us) (append_assoc earlier (t ∷ []) ts))
    ∙ sym (append_assoc here (text_uses (earlier ++ t ∷ []) ts) (text_uses (earlier ++ t ∷ ts) us))

front_at : {A : Type 0} (xs : List A) (y : A) (k : ℕ) (x : A) → slice_get (xs ++ y ∷ []) k ≡ Some x → (slice_get xs k ≡ Some x) ⊎ ((k ≡ length xs) × (y ≡ x))
front_at [] y zero x e = inr (refl, (cc))
front_at [] y (suc k) x e = absurd (cc)
front_at (z ∷ xs) y zero x e = inl e
front_at (z ∷ xs) y (suc k) x e = elim (front_at xs y k x e) [ inl h ↦ inl h | inr w ↦ (let (n, p) = w in inr (ap suc n, p)) ]

take_front : {A : Type 0} (xs ys : List A) (k : ℕ) → k ≤ length xs → take k (xs ++ ys) ≡ take k xs
take_front xs ys zero lt = refl
take_front [] ys (suc k) lt = absurd (omega arith)
take_front (x ∷ xs) ys (suc k) lt = ap (λ l. x ∷ l) (take_front xs ys k (omega arith))

take_whole : {A : Type 0} (xs ys : List A) → take (length xs) (xs ++ ys) ≡ xs
take_whole [] ys = refl
take_whole (x ∷ xs) ys = ap (λ l. x ∷ l) (take_whole xs ys)

-- one module more
module _ (front : List ModuleTree) (t : ModuleTree) where
  pub said_modules : (old : List Module) (m : Module) → AllDeclared (text_uses [] front) (AreSaid front old) → AllDeclared (module_uses front t) (IsSaid t.name (module_scope front t) m)
      → AllDeclared (text_uses [] (front ++ t ∷ [])) (AreSaid (front ++ t ∷ []) (old ++ m ∷ []))
  said_modules old m before this = record {
    known = ap first_undeclared (uses_joined [] front (t ∷ []) ∙ ap (λ l. text_uses [] front
        ++ l) (append-nil (module_uses front t))) ∙ both (text_uses [] front)
        (module_uses front t) before.known this.known;
    holds = record {
      count = omega (arith, before.holds.count, length-append old (m ∷ []), length-append front (t ∷ []));
      each = each;
    };
  }
    where
      each : (k : ℕ) (u : ModuleTree) (n : Module) → slice_get (front ++ t ∷ []) k ≡ Some u → slice_get (old ++ m ∷ []) k ≡ Some n → IsSaid u.name (module_scope (take k (front ++ t ∷ [])) u) n
      each k u n at_t at_m = by_place (front_at front t k u at_t) (front_at old m k n at_m)
        where
          by_place : (slice_get front k ≡ Some u) ⊎ ((k ≡ length front) × (t ≡ u))
              → (slice_get old k ≡ Some n) ⊎ ((k ≡ length old) × (m ≡ n))
              → IsSaid u.name (module_scope (take k (front ++ t ∷ [])) u) n
          by_place (inl a) (inl b) = subst (λ l. IsSaid u.name (module_scope l u) n) (sym (take_front front (t ∷ []) k (omega (arith, slice_get_within front k u a)))) (before.holds.each k u n a b)
          by_place (inr (p, a)) (inr (q, b)) =
              let e : take k (front ++ t ∷ []) ≡ front = ap (λ j. take j (front ++ t ∷ [])) p ∙ take_whole front (t ∷ []) in
              subst (λ l. IsSaid u.name (module_scope l u) n) (sym e) (subst (λ x. IsSaid u.name (module_scope front u) x) b (subst (λ x. IsSaid x.name (module_scope front x) m) a this.holds))
          by_place (inl a) (inr (q, b)) = absurd (omega (arith, slice_get_within front k u a, before.holds.count))
          by_place (inr (p, a)) (inl b) = absurd (omega (arith, slice_get_within old k n b, before.holds.count))

  pub modules_fault : (whole rest : List ModuleTree) (f : Fault) → whole ≡ front ++ t ∷ rest
      → first_undeclared (text_uses [] front) ≡ None → IsFault (module_uses front t) f
      → IsFault (text_uses [] whole) f
  modules_fault whole rest f e known h =
      let here = module_uses front t in
      let back = text_uses (front ++ t ∷ []) rest in
      subst (λ l. IsFault l f) (sym (ap (text_uses []) e ∙ uses_joined [] front (t ∷ rest))) (fault_later (text_uses [] front) (here ++ back) f known (fault_sooner here back f h))
