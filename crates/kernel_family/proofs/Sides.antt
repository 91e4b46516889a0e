-- What a node has by the equations, where its operands have the same words in two families.
use Rattle.std.proofs.Common.{◌≡◌, ◌∙◌, ℕ, zero, suc, ◌≤◌, ◌<◌, Bool, true, cond, List, [], ◌∷◌, map, length, get_or, Option, Some, None, refl, ap, subst, arith}
use Rattle.std.specs.Prelude.{ℤ, pos, ◌+ℤ◌, slice_get}
use Rattle.std.proofs.lemmas.Int.{ints}
use Rattle.stream_graph.specs.declared.node.Kind.{Kind}
use Rattle.stream_graph.specs.declared.node.Kind.TheVariants as K
use Rattle.stream_graph.specs.declared.node.Node.{Node}
use Rattle.stream_graph.specs.LookUps.{kind_at, operands_at, operand_at, type_at, control_of}
use Rattle.stream_equations.specs.Equations.{
  GivenRun,
  Values,
  operated,
  enabled_by,
  enabled,
  is_one,
  count_before,
  held,
  right_side,
}
use Rattle.stream_graph.specs.Kinds.{control_place, operand_in}
use Rattle.kernel_types.specs.Types.{is_like, AreTyped}
use Rattle.kernel_family.specs.Steps.{keeps, ahead}

-- ---- lists and counts

pub got_place : (xs : List ℕ) (i c : ℕ) → slice_get xs i ≡ Some c
    → (i < length xs) × (get_or xs i 0 ≡ c)
got_place [] i c e = absurd (cc)
got_place (x ∷ xs) zero c e = (omega arith, cc)
got_place (x ∷ xs) (suc i) c e = let q = got_place xs i c e in (let l = q.0 in omega (arith, l), q.1)

-- where a node's control stands among its operands
pub record IsControlAt (xs : List ℕ) (c : ℕ) : Type 0 where
  pub place : ℕ
  pub within : place < length xs
  pub same : get_or xs place 0 ≡ c

pub control_there : (place : Option ℕ) (xs : List ℕ) (c : ℕ) → operand_in place xs ≡ Some c → IsControlAt xs c
control_there None xs c e = absurd (cc)
control_there (Some place) xs c e =
    let q = got_place xs place c e in record { place = place; within = q.0; same = q.1 }

pub map_same : {Y : Type 0} (f g : ℕ → Y) (xs : List ℕ)
    → ((i : ℕ) → i < length xs → f (get_or xs i 0) ≡ g (get_or xs i 0)) → map f xs ≡ map g xs
map_same f g [] h = refl
map_same {Y} f g (x ∷ xs) h =
    let e : f x ≡ g x = h 0 (omega arith) in
    let r : map f xs ≡ map g xs = map_same f g xs (λ i l. h (suc i) (omega (arith, l))) in
    ap (λ (y : Y). y ∷ map f xs) e ∙ ap (λ ys. g x ∷ ys) r

pub count_same : (f g : ℕ → Bool) (t : ℕ) → ((s : ℕ) → s < t → f s ≡ g s)
    → count_before f t ≡ count_before g t
count_same f g zero h = refl
count_same f g (suc t) h =
    let e : f t ≡ g t = h t (omega arith) in
    let r = count_same f g t (λ s l. h s (omega (arith, l))) in
    ap (λ b. cond b (suc (count_before f t)) (count_before f t)) e
    ∙ ap (λ n. cond (g t) (suc n) n) r

pub held_same : (f g : ℕ → Bool) (v w : ℕ → Option ℕ) (t : ℕ) → ((s : ℕ) → s ≤ t → f s ≡ g s)
    → ((s : ℕ) → s ≤ t → v s ≡ w s) → held f v t ≡ held g w t
held_same f g v w zero h k =
    ap (λ b. cond b (v 0) (Some 0)) (h 0 (omega arith)) ∙ ap (λ x. cond (g 0) x (Some 0)) (k 0 (omega arith))
held_same f g v w (suc t) h k =
    let r = held_same f g v w t (λ s l. h s (omega (arith, l))) (λ s l. k s (omega (arith, l))) in
    ap (λ b. cond b (v (suc t)) (held f v t)) (h (suc t) (omega arith))
    ∙ ap (λ x. cond (g (suc t)) x (held f v t)) (k (suc t) (omega arith))
    ∙ ap (λ x. cond (g (suc t)) (w (suc t)) x) r

-- ---- what a node has

module _ (nodes : List Node) (one other : Values) where
  -- the operands of a node have the same words where it reads them
  pub record ReadSame (n t : ℕ) : Type 0 where
    pub now :
        (i : ℕ)
        → i < length (operands_at nodes n)
        → one (operand_at nodes n i) (pos t +ℤ ahead (kind_at nodes n))
        ≡ other (operand_at nodes n i) (pos t +ℤ ahead (kind_at nodes n))
    pub before :
        keeps (kind_at nodes n) ≡ true
        → (i s : ℕ)
        → i < length (operands_at nodes n)
        → s ≤ t
        → one (operand_at nodes n i) (pos s) ≡ other (operand_at nodes n i) (pos s)

  pub enabled_same : (n s : ℕ)
      → ((i : ℕ) → i < length (operands_at nodes n)
      → one (operand_at nodes n i) (pos s) ≡ other (operand_at nodes n i) (pos s))
      → enabled nodes one n s ≡ enabled nodes other n s
  enabled_same n s h = by_control (control_of nodes n) refl
    where
      by_control : (control : Option ℕ) → control_of nodes n ≡ control
          → enabled_by one control s ≡ enabled_by other control s
      by_control None e = refl
      by_control (Some c) e =
          let p = control_there (control_place (kind_at nodes n)) (operands_at nodes n) c e in
          let q : one c (pos s) ≡ other c (pos s) =
          subst (λ u. one u (pos s) ≡ other u (pos s)) p.same (h p.place p.within) in
          ap is_one q

  pub same_side : (typed : AreTyped nodes) (run : GivenRun) (n t : ℕ) → n < length nodes → ReadSame n t
      → right_side nodes run one n t (kind_at nodes n) ≡ right_side nodes run other n t (kind_at nodes n)
  same_side typed run n t h r = by_kind (kind_at nodes n) refl
    where
      still : (x : ℤ) → x ≡ pos 0 → pos t +ℤ x ≡ pos t
      still x e = omega (arith, ints, e)

      first : (x : ℤ) → is_like (kind_at nodes n) ≡ true → ahead (kind_at nodes n) ≡ x
          → one (operand_at nodes n 0) (pos t +ℤ x) ≡ other (operand_at nodes n 0) (pos t +ℤ x)
      first x like e =
          let some = (typed.firsts n h like).some in
          subst (λ (y : ℤ). one (operand_at nodes n 0) (pos t +ℤ y) ≡ other (operand_at nodes n 0) (pos t +ℤ y)) e
          (r.now 0 some)

      first_now : is_like (kind_at nodes n) ≡ true → ahead (kind_at nodes n) ≡ pos 0
          → one (operand_at nodes n 0) (pos t) ≡ other (operand_at nodes n 0) (pos t)
      first_now like e =
          subst (λ (y : ℤ). one (operand_at nodes n 0) y ≡ other (operand_at nodes n 0) y) (still (pos 0) refl)
          (first (pos 0) like e)

      ticks : keeps (kind_at nodes n) ≡ true → (s : ℕ) → s ≤ t
          → enabled nodes one n s ≡ enabled nodes other n s
      ticks k s l = enabled_same n s (λ i b. r.before k i s b l)

      by_kind : (k : Kind) → kind_at nodes n ≡ k
          → right_side nodes run one n t k ≡ right_side nodes run other n t k
      by_kind K.Input e =
          let k : keeps (kind_at nodes n) ≡ true = ap keeps e in
          let c = count_same (enabled nodes one n) (enabled nodes other n) t (λ s l. ticks k s (omega (arith, l))) in
          ap (λ b. cond b (run.source n (count_before (enabled nodes one n) t)) None) (ticks k t (omega arith))
          ∙ ap (λ m. cond (enabled nodes other n t) (run.source n m) None) c
      by_kind K.Output e = first_now (ap is_like e) (ap ahead e)
      by_kind (K.Operation op mode amount) e =
          let m : map (λ u. one u (pos t)) (operands_at nodes n) ≡ map (λ u. other u (pos t)) (operands_at nodes n) =
          map_same (λ u. one u (pos t)) (λ u. other u (pos t)) (operands_at nodes n)
          (λ i l. subst (λ (y : ℤ). one (operand_at nodes n i) y ≡ other (operand_at nodes n i) y)
          (still (ahead (kind_at nodes n)) (ap ahead e)) (r.now i l)) in
          ap (λ ws. operated op mode (map (type_at nodes) (operands_at nodes n)) ws amount (type_at nodes n)) m
      by_kind (K.Offset k) e = first k (ap is_like e) (ap ahead e)
      by_kind K.Feed e = first_now (ap is_like e) (ap ahead e)
      by_kind K.Hold e =
          let k : keeps (kind_at nodes n) ≡ true = ap keeps e in
          let some = (typed.firsts n h (ap is_like e)).some in
          held_same (enabled nodes one n) (enabled nodes other n) (λ s. one (operand_at nodes n 0) (pos s))
          (λ s. other (operand_at nodes n 0) (pos s)) t (λ s l. ticks k s l) (λ s l. r.before k 0 s some l)
      by_kind _ e = refl
