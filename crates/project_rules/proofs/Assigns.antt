-- The assignments of `done`.
use Rattle.std.proofs.Common.{◌≡◌, ◌∙◌, ℕ, zero, suc, ◌+◌, ◌*◌, ◌<◌, ◌≤◌, List, [], ◌∷◌, Some, length, refl, sym, ap, subst, arith}
use Rattle.std.specs.Prelude.{slice_get}
use Rattle.rtl_ir.specs.declared.design.Assign.{Assign}
use Rattle.rtl_ir.specs.declared.design.Module.{Module}
use Rattle.rtl_ir.specs.declared.design.Sign.TheVariants.{And}
use Rattle.rtl_ir.specs.declared.design.Expr.TheVariants as exprs
use Rattle.rtl_ir.specs.Value.{width_of}
use Rattle.rtl_ir.specs.Operands.{IsRead}
use Rattle.rtl_ir.specs.Typed.{IsTyped}
use Rattle.rtl_ir.specs.Formed.{IsFormedAssign}
use Rattle.link_fifo.specs.Netlist.{gets}
use Rattle.project_rtl.specs.Tops.{empty_assigns, ended_assigns}

module _ (m : Module) (rank : ℕ → ℕ) where
  -- a net of one bit of this rank
  pub record IsWire (n r : ℕ) : Type 0 where
    pub width : width_of m n ≡ 1
    pub in_range : n < length m.nets
    pub ranked : rank n ≡ r

  -- one of a lower rank
  pub record IsLow (n r : ℕ) : Type 0 where
    pub width : width_of m n ≡ 1
    pub in_range : n < length m.nets
    pub low : rank n < r

  -- one of no lower rank
  pub record IsHigh (n r : ℕ) : Type 0 where
    pub width : width_of m n ≡ 1
    pub in_range : n < length m.nets
    pub high : r ≤ rank n

  abbrev pub AreLow : ℕ → List ℕ → Type 0
  AreLow r [] = Unit {0}
  AreLow r (n ∷ ns) = IsLow n r × AreLow r ns

  -- what is asked of an assignment
  pub record IsFine (a : Assign) : Type 0 where
    pub typed : IsTyped m (width_of m a.target) a.expr
    pub formed : IsFormedAssign m a
    pub rises : (n : ℕ) → IsRead a.expr n → rank n < rank a.target

  low_wire : (n r s : ℕ) → IsWire n r → r < s → IsLow n s
  low_wire n r s w lt = let e = w.ranked in record { width = w.width; in_range = w.in_range; low = omega (arith, e, lt) }

  lower : (n r s : ℕ) → IsLow n r → r ≤ s → IsLow n s
  lower n r s w le = let e = w.low in record { width = w.width; in_range = w.in_range; low = omega (arith, e, le) }

  all_lower : (r s : ℕ) (ns : List ℕ) → r ≤ s → AreLow r ns → AreLow s ns
  all_lower r s [] le h = tt
  all_lower r s (n ∷ ns) le h = (lower n r s h.0 le, all_lower r s ns le h.1)

  not_fine : (t v r : ℕ) → IsWire t r → IsLow v r → IsFine (gets t (exprs.Not v))
  not_fine t v r w l =
      let a = w.ranked in
      let b = l.low in
      record {
        typed = l.width ∙ sym w.width;
        formed = record {
          target = w.in_range;
          expr = record { nets = λ n q. read n q l.in_range; mem = λ k q. absurd (cc); numbers = λ i x q. absurd (cc) };
        };
        rises = λ n q. low n q (omega (arith, a, b));
      }
    where
      read : (n : ℕ) → IsRead (exprs.Not v) n → v < length m.nets → n < length m.nets
      read n (zero, f) h = let s : v ≡ n = cc in subst (λ x. x < length m.nets) s h
      read n (suc i, f) h = absurd (cc)

      low : (n : ℕ) → IsRead (exprs.Not v) n → rank v < rank t → rank n < rank t
      low n (zero, f) h = let s : v ≡ n = cc in subst (λ x. rank x < rank t) s h
      low n (suc i, f) h = absurd (cc)

  and_fine : (t u v r : ℕ) → IsWire t r → IsLow u r → IsLow v r → IsFine (gets t (exprs.Binary And u v))
  and_fine t u v r w k l =
      let a = w.ranked in
      let b = k.low in
      let c = l.low in
      record {
        typed = (k.width ∙ sym w.width, l.width ∙ sym w.width);
        formed = record {
          target = w.in_range;
          expr = record { nets = λ n q. read n q k.in_range l.in_range; mem = λ k q. absurd (cc); numbers = λ i x q. absurd (cc) };
        };
        rises = λ n q. low n q (omega (arith, a, b)) (omega (arith, a, c));
      }
    where
      read : (n : ℕ) → IsRead (exprs.Binary And u v) n → u < length m.nets → v < length m.nets → n < length m.nets
      read n (zero, f) h g = let s : u ≡ n = cc in subst (λ x. x < length m.nets) s h
      read n (suc zero, f) h g = let s : v ≡ n = cc in subst (λ x. x < length m.nets) s g
      read n (suc (suc i), f) h g = absurd (cc)

      low : (n : ℕ) → IsRead (exprs.Binary And u v) n → rank u < rank t → rank v < rank t → rank n < rank t
      low n (zero, f) h g = let s : u ≡ n = cc in subst (λ x. rank x < rank t) s h
      low n (suc zero, f) h g = let s : v ≡ n = cc in subst (λ x. rank x < rank t) s g
      low n (suc (suc i), f) h g = absurd (cc)

  net_fine : (t v r : ℕ) → IsHigh t r → IsLow v r → IsFine (gets t (exprs.Net v))
  net_fine t v r w l =
      let a = w.high in
      let b = l.low in
      record {
        typed = l.width ∙ sym w.width;
        formed = record {
          target = w.in_range;
          expr = record { nets = λ n q. read n q l.in_range; mem = λ k q. absurd (cc); numbers = λ i x q. absurd (cc) };
        };
        rises = λ n q. low n q (omega (arith, a, b));
      }
    where
      read : (n : ℕ) → IsRead (exprs.Net v) n → v < length m.nets → n < length m.nets
      read n (zero, f) h = let s : v ≡ n = cc in subst (λ x. x < length m.nets) s h
      read n (suc i, f) h = absurd (cc)

      low : (n : ℕ) → IsRead (exprs.Net v) n → rank v < rank t → rank n < rank t
      low n (zero, f) h = let s : v ≡ n = cc in subst (λ x. rank x < rank t) s h
      low n (suc i, f) h = absurd (cc)

  empty_fine : (done next last r : ℕ) (vs : List ℕ) → ((t : ℕ) → t < 2 * length vs → IsWire (next + t) (r + t)) → IsLow last r → AreLow r vs
      → IsHigh done (r + 2 * length vs) → (t : ℕ) (a : Assign) → slice_get (empty_assigns done next last vs) t ≡ Some a → IsFine a
  empty_fine done next last r [] w l p h zero a e =
      let s : gets done (exprs.Net last) ≡ a = cc in
      let high = h.high in
      subst IsFine s (net_fine done last r (record { width = h.width; in_range = h.in_range; high = omega (arith, high) }) l)
  empty_fine done next last r [] w l p h (suc t) a e = absurd (cc)
  empty_fine done next last r (v ∷ vs) w l p h zero a e =
      let s : gets next (exprs.Not v) ≡ a = cc in
      let z : next + 0 ≡ next = omega arith in
      let y : r + 0 ≡ r = omega arith in
      subst IsFine s (not_fine next v r (subst (λ j. IsWire next j) y (subst (λ j. IsWire j (r + 0)) z (w 0 (omega arith)))) p.0)
  empty_fine done next last r (v ∷ vs) w l p h (suc zero) a e =
      let s : gets (next + 1) (exprs.Binary And last next) ≡ a = cc in
      let z : next + 0 ≡ next = omega arith in
      subst IsFine s
      (and_fine (next + 1) last next (r + 1) (w 1 (omega arith)) (lower last r (r + 1) l (omega arith))
      (low_wire next (r + 0) (r + 1) (subst (λ j. IsWire j (r + 0)) z (w 0 (omega arith))) (omega arith)))
  empty_fine done next last r (v ∷ vs) w l p h (suc (suc t)) a e =
      let high = h.high in
      empty_fine done (next + 2) (next + 1) (r + 2) vs
      (λ t lt.
      let z : next + suc (suc t) ≡ next + 2 + t = omega arith in
      let y : r + suc (suc t) ≡ r + 2 + t = omega arith in
      subst (λ j. IsWire (next + 2 + t) j) y (subst (λ j. IsWire j (r + suc (suc t))) z (w (suc (suc t)) (omega (arith, lt)))))
      (low_wire (next + 1) (r + 1) (r + 2) (w 1 (omega arith)) (omega arith))
      (all_lower r (r + 2) vs (omega arith) p.1)
      (record { width = h.width; in_range = h.in_range; high = omega (arith, high) }) t a e

  pub ended_fine : (done next last r : ℕ) (es vs : List ℕ) → ((t : ℕ) → t < length es + 2 * length vs → IsWire (next + t) (r + t)) → IsLow last r
      → AreLow r es → AreLow r vs
      → IsHigh done (r + (length es + 2 * length vs)) → (t : ℕ) (a : Assign) → slice_get (ended_assigns done next last es vs) t ≡ Some a → IsFine a
  ended_fine done next last r [] vs w l k p h t a e =
      let high = h.high in
      empty_fine done next last r vs (λ t lt. w t (omega (arith, lt))) l p (record { width = h.width; in_range = h.in_range; high = omega (arith, high) }) t a e
  ended_fine done next last r (x ∷ es) vs w l k p h zero a e =
      let s : gets next (exprs.Binary And last x) ≡ a = cc in
      let z : next + 0 ≡ next = omega arith in
      let y : r + 0 ≡ r = omega arith in
      subst IsFine s (and_fine next last x r (subst (λ j. IsWire next j) y (subst (λ j. IsWire j (r + 0)) z (w 0 (omega arith)))) l k.0)
  ended_fine done next last r (x ∷ es) vs w l k p h (suc t) a e =
      let high = h.high in
      let z : next + 0 ≡ next = omega arith in
      ended_fine done (next + 1) next (r + 1) es vs
      (λ t lt.
      let z : next + suc t ≡ next + 1 + t = omega arith in
      let y : r + suc t ≡ r + 1 + t = omega arith in
      subst (λ j. IsWire (next + 1 + t) j) y (subst (λ j. IsWire j (r + suc t)) z (w (suc t) (omega (arith, lt)))))
      (low_wire next (r + 0) (r + 1) (subst (λ j. IsWire j (r + 0)) z (w 0 (omega arith))) (omega arith))
      (all_lower r (r + 1) es (omega arith) k.1)
      (all_lower r (r + 1) vs (omega arith) p)
      (record { width = h.width; in_range = h.in_range; high = omega (arith, high) }) t a e

-- ---- their targets

-- an assignment of a wire, or the last one
pub data IsWireOrDone (done next count t : ℕ) (a : Assign) : Type 0 where
  is_wire : t < count → a.target ≡ next + t → IsWireOrDone done next count t a
  is_done : t ≡ count → a.target ≡ done → IsWireOrDone done next count t a

one_more : (done next count t : ℕ) (a : Assign) → IsWireOrDone done (next + 1) count t a → IsWireOrDone done next (suc count) (suc t) a
one_more done next count t a (is_wire lt e) = is_wire (omega (arith, lt)) (omega (arith, e))
one_more done next count t a (is_done same e) = is_done (ap suc same) e

two_more : (done next count t : ℕ) (a : Assign) → IsWireOrDone done (next + 2) count t a → IsWireOrDone done next (suc (suc count)) (suc (suc t)) a
two_more done next count t a (is_wire lt e) = is_wire (omega (arith, lt)) (omega (arith, e))
two_more done next count t a (is_done same e) = is_done (ap (λ n. suc (suc n)) same) e

empty_targets : (done next last : ℕ) (vs : List ℕ) (t : ℕ) (a : Assign) → slice_get (empty_assigns done next last vs) t ≡ Some a
    → IsWireOrDone done next (2 * length vs) t a
empty_targets done next last [] zero a e = let s : gets done (exprs.Net last) ≡ a = cc in is_done (omega arith) (ap (λ (x : Assign). x.target) (sym s))
empty_targets done next last [] (suc t) a e = absurd (cc)
empty_targets done next last (v ∷ vs) zero a e =
    let s : gets next (exprs.Not v) ≡ a = cc in
    let f = ap (λ (x : Assign). x.target) (sym s) in
    is_wire (omega arith) (omega (arith, f))
empty_targets done next last (v ∷ vs) (suc zero) a e =
    let s : gets (next + 1) (exprs.Binary And last next) ≡ a = cc in
    let f = ap (λ (x : Assign). x.target) (sym s) in
    is_wire (omega arith) (omega (arith, f))
empty_targets done next last (v ∷ vs) (suc (suc t)) a e =
    let z : suc (suc (2 * length vs)) ≡ 2 * suc (length vs) = omega arith in
    subst (λ c. IsWireOrDone done next c (suc (suc t)) a) z
    (two_more done next (2 * length vs) t a (empty_targets done (next + 2) (next + 1) vs t a e))

pub targets : (done next last : ℕ) (es vs : List ℕ) (t : ℕ) (a : Assign) → slice_get (ended_assigns done next last es vs) t ≡ Some a
    → IsWireOrDone done next (length es + 2 * length vs) t a
targets done next last [] vs t a e =
    let z : 2 * length vs ≡ 0 + 2 * length vs = omega arith in
    subst (λ c. IsWireOrDone done next c t a) z (empty_targets done next last vs t a e)
targets done next last (x ∷ es) vs zero a e =
    let s : gets next (exprs.Binary And last x) ≡ a = cc in
    let f = ap (λ (x : Assign). x.target) (sym s) in
    is_wire (omega arith) (omega (arith, f))
targets done next last (x ∷ es) vs (suc t) a e =
    let z : suc (length es + 2 * length vs) ≡ suc (length es) + 2 * length vs = omega arith in
    subst (λ c. IsWireOrDone done next c (suc t) a) z (one_more done next (length es + 2 * length vs) t a (targets done (next + 1) next es vs t a e))

-- an assignment to this net
pub record Gives (all : List Assign) (t n : ℕ) : Type 0 where
  pub assign : Assign
  pub is : slice_get all t ≡ Some assign
  pub target : assign.target ≡ n

empty_at : (done next last : ℕ) (vs : List ℕ) (t : ℕ) → t < 2 * length vs → Gives (empty_assigns done next last vs) t (next + t)
empty_at done next last [] t h = absurd (omega (arith, h))
empty_at done next last (v ∷ vs) zero h = record { assign = gets next (exprs.Not v); is = refl; target = omega arith }
empty_at done next last (v ∷ vs) (suc zero) h = record { assign = gets (next + 1) (exprs.Binary And last next); is = refl; target = refl }
empty_at done next last (v ∷ vs) (suc (suc t)) h =
    let r = empty_at done (next + 2) (next + 1) vs t (omega (arith, h)) in
    let f = r.target in
    record { assign = r.assign; is = r.is; target = omega (arith, f) }

empty_last : (done next last : ℕ) (vs : List ℕ) → Gives (empty_assigns done next last vs) (2 * length vs) done
empty_last done next last [] = record { assign = gets done (exprs.Net last); is = refl; target = refl }
empty_last done next last (v ∷ vs) =
    let r = empty_last done (next + 2) (next + 1) vs in
    let z : suc (suc (2 * length vs)) ≡ 2 * suc (length vs) = omega arith in
    let all : List Assign = empty_assigns done next last (v ∷ vs) in
    subst (λ k. Gives all k done) z (record { assign = r.assign; is = r.is; target = r.target })

pub target_at : (done next last : ℕ) (es vs : List ℕ) (t : ℕ) → t < length es + 2 * length vs → Gives (ended_assigns done next last es vs) t (next + t)
target_at done next last [] vs t h = empty_at done next last vs t (omega (arith, h))
target_at done next last (x ∷ es) vs zero h = record { assign = gets next (exprs.Binary And last x); is = refl; target = omega arith }
target_at done next last (x ∷ es) vs (suc t) h =
    let r = target_at done (next + 1) next es vs t (omega (arith, h)) in
    let f = r.target in
    record { assign = r.assign; is = r.is; target = omega (arith, f) }

pub last_at : (done next last : ℕ) (es vs : List ℕ) → Gives (ended_assigns done next last es vs) (length es + 2 * length vs) done
last_at done next last [] vs =
    let z : 2 * length vs ≡ 0 + 2 * length vs = omega arith in
    subst (λ k. Gives (empty_assigns done next last vs) k done) z (empty_last done next last vs)
last_at done next last (x ∷ es) vs =
    let r = last_at done (next + 1) next es vs in
    let z : suc (length es + 2 * length vs) ≡ suc (length es) + 2 * length vs = omega arith in
    let all : List Assign = ended_assigns done next last (x ∷ es) vs in
    subst (λ k. Gives all k done) z (record { assign = r.assign; is = r.is; target = r.target })
