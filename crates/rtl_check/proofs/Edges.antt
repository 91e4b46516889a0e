-- Edges that are added to a graph.
use Rattle.std.proofs.Common.{◌≡◌, ℕ, zero, suc, ◌+◌, ◌<◌, ◌≤◌, ◌^◌, List, [], ◌∷◌, ◌++◌, length, set, get_or, Some, refl, sym, ◌∙◌, ap, subst, arith, ◌⊎◌, inl, inr, ⊎_elim}
use Rattle.std.specs.Prelude.{slice_get}
use Rattle.std.proofs.lemmas.Bool.{cases_lt, cases_eq}
use Rattle.std.proofs.lemmas.List.{length-set, length_push}
use Rattle.std.proofs.lemmas.Option.{slice_get_within, slice_get-get_or, get_or_from_slice_get}
use Rattle.std.proofs.Math.ListN.{get_or-eq_default}
use Rattle.rtl_ir.specs.declared.design.Module.{Module}
use Rattle.rtl_ir.specs.declared.design.Assign.{Assign}
use Rattle.rtl_ir.specs.declared.design.Instance.{Instance}
use Rattle.rtl_ir.specs.Operands.{reads}
use Rattle.rtl_check.specs.Paths.{AreJoined, Adds, IsSmall, IsAssigned, IsPassed, IsParted}
use Rattle.rtl_check.proofs.Places.{at_set, beside_set, in_front, in_back, at_seam, pushed_at, joined_at, some_is}
use Rattle.digraph.specs.Graph.{Reads}

-- an edge, by the items of the lists
pub record Edge (g : List (List ℕ)) (b a : ℕ) : Type 0 where
  pub list : List ℕ
  pub at : slice_get g b ≡ Some list
  pub place : ℕ
  pub is : slice_get list place ≡ Some a

pub edge_from : (g : List (List ℕ)) (b a : ℕ) → Reads g b a → Edge g b a
edge_from g b a r = by_node (cases_lt b (length g))
  where
    by_node : (b < length g) ⊎ (length g ≤ b) → Edge g b a
    by_node (inl lt) =
        record {
          list = get_or g b [];
          at = slice_get-get_or g b [] lt;
          place = r.0;
          is = slice_get-get_or (get_or g b []) r.0 0 r.1 ∙ ap (λ (x : ℕ). Some x) r.2;
        }
    by_node (inr ge) = absurd (omega (arith, r.1, ap length (get_or-eq_default g [] {n = b} ge)))

pub edge_to : (g : List (List ℕ)) (b a : ℕ) → Edge g b a → Reads g b a
edge_to g b a e =
    let p : get_or g b [] ≡ e.list = get_or_from_slice_get g b e.list [] e.at in
    (e.place, rw p (slice_get_within e.list e.place a e.is), rw p (get_or_from_slice_get e.list e.place a 0 e.is))

grown : (g : List (List ℕ)) (t : ℕ) (old xs : List ℕ) → slice_get g t ≡ Some old → (b a : ℕ) → Reads g b a → Reads (set g t (old ++ xs)) b a
grown g t old xs at b a r = let e = edge_from g b a r in by_node e (cases_eq b t)
  where
    by_node : Edge g b a → (b ≡ t) ⊎ (b ≡ t → ⊥) → Reads (set g t (old ++ xs)) b a
    by_node e (inl q) =
        let p : e.list ≡ old = some_is (sym e.at ∙ ap (slice_get g) q ∙ at) in
        edge_to (set g t (old ++ xs)) b a (record {
          list = old ++ xs;
          at = ap (slice_get (set g t (old ++ xs))) q ∙ at_set g t (old ++ xs) (slice_get_within g t old at);
          place = e.place;
          is = in_front old xs e.place a (ap (λ (l : List ℕ). slice_get l e.place) (sym p) ∙ e.is);
        })
    by_node e (inr ne) =
        edge_to (set g t (old ++ xs)) b a (record {
          list = e.list;
          at = beside_set g t b (old ++ xs) ne ∙ e.at;
          place = e.place;
          is = e.is;
        })

new_edge : (g : List (List ℕ)) (t : ℕ) (old xs : List ℕ) → slice_get g t ≡ Some old → (i a : ℕ) → slice_get xs i ≡ Some a → Reads (set g t (old ++ xs)) t a
new_edge g t old xs at i a is =
    edge_to (set g t (old ++ xs)) t a (record {
      list = old ++ xs;
      at = at_set g t (old ++ xs) (slice_get_within g t old at);
      place = length old + i;
      is = in_back old xs i a is;
    })

-- an edge of the graph with more edges
only_these : (g : List (List ℕ)) (t : ℕ) (old xs : List ℕ) → slice_get g t ≡ Some old → (b a : ℕ) → Reads (set g t (old ++ xs)) b a → Reads g b a ⊎ ((b ≡ t) × ((i : ℕ) × (slice_get xs i ≡ Some a)))
only_these g t old xs at b a r = let e = edge_from (set g t (old ++ xs)) b a r in by_node e (cases_eq b t)
  where
    by_list : (b ≡ t) → (i : ℕ) → (slice_get old i ≡ Some a) ⊎ ((j : ℕ) × (slice_get xs j ≡ Some a)) → Reads g b a ⊎ ((b ≡ t) × ((j : ℕ) × (slice_get xs j ≡ Some a)))
    by_list q i (inl h) = inl (edge_to g b a (record { list = old; at = ap (slice_get g) q ∙ at; place = i; is = h }))
    by_list q i (inr h) = inr (q, h)

    by_node : Edge (set g t (old ++ xs)) b a → (b ≡ t) ⊎ (b ≡ t → ⊥) → Reads g b a ⊎ ((b ≡ t) × ((i : ℕ) × (slice_get xs i ≡ Some a)))
    by_node e (inl q) =
        let p : e.list ≡ old ++ xs = some_is (sym e.at ∙ ap (slice_get (set g t (old ++ xs))) q ∙ at_set g t (old ++ xs) (slice_get_within g t old at)) in
        by_list q e.place (joined_at old xs e.place a (ap (λ (l : List ℕ). slice_get l e.place) (sym p) ∙ e.is))
    by_node e (inr ne) =
        inl (edge_to g b a (record { list = e.list; at = sym (beside_set g t b (old ++ xs) ne) ∙ e.at; place = e.place; is = e.is }))

-- the new edges of one step
pub record Steps (E F : ℕ → ℕ → Type 0) (t : ℕ) (xs : List ℕ) : Type 0 where
  pub kept : (a b : ℕ) → E a b → F a b
  pub new : (i a : ℕ) → slice_get xs i ≡ Some a → F a t
  pub only : (a b : ℕ) → F a b → E a b ⊎ ((b ≡ t) × ((i : ℕ) × (slice_get xs i ≡ Some a)))

pub adds_more : (E F : ℕ → ℕ → Type 0) (start g : List (List ℕ)) (t : ℕ) (old xs : List ℕ) → slice_get g t ≡ Some old → Steps E F t xs → Adds E start g → Adds F start (set g t (old ++ xs))
adds_more E F start g t old xs at s h =
    record {
      size = length-set g t (old ++ xs) ∙ h.size;
      kept = λ a b r. grown g t old xs at b a (h.kept a b r);
      added = λ a b f. ⊎_elim (λ e. grown g t old xs at b a (h.added a b e)) (λ q. subst (λ (n : ℕ). Reads (set g t (old ++ xs)) n a) (sym q.0) (new_edge g t old xs at q.1.0 a q.1.1)) (s.only a b f);
      only = λ a b r. ⊎_elim (λ o. ⊎_elim (λ w. inl w) (λ e. inr (s.kept a b e)) (h.only a b o)) (λ q. inr (subst (λ (n : ℕ). F a n) (sym q.0) (s.new q.1.0 a q.1.1))) (only_these g t old xs at b a r);
    }

-- the same for the list that is known to stand there now
pub adds_now : (E F : ℕ → ℕ → Type 0) (start g : List (List ℕ)) (t : ℕ) (old xs now : List ℕ)
    → slice_get g t ≡ Some old → now ≡ old ++ xs → Steps E F t xs → Adds E start g
    → Adds F start (set g t now)
adds_now E F start g t old xs now at is s h = subst (λ (l : List ℕ). Adds F start (set g t l)) (sym is) (adds_more E F start g t old xs at s h)

pub adds_none : (E : ℕ → ℕ → Type 0) (g : List (List ℕ)) → ((a b : ℕ) → E a b → ⊥) → Adds E g g
adds_none E g none = record { size = refl; kept = λ a b r. r; added = λ a b e. absurd (none a b e); only = λ a b r. inl r }

pub small_more : (g : List (List ℕ)) (t : ℕ) (old xs : List ℕ) → slice_get g t ≡ Some old → ((i a : ℕ) → slice_get xs i ≡ Some a → a < 2 ^ 32) → IsSmall g → IsSmall (set g t (old ++ xs))
small_more g t old xs at small h a b r = ⊎_elim (λ o. h a b o) (λ q. small q.1.0 a q.1.1) (only_these g t old xs at b a r)

pub small_now : (g : List (List ℕ)) (t : ℕ) (old xs now : List ℕ) → slice_get g t ≡ Some old → now ≡ old ++ xs → ((i a : ℕ) → slice_get xs i ≡ Some a → a < 2 ^ 32) → IsSmall g → IsSmall (set g t now)
small_now g t old xs now at is small h = subst (λ (l : List ℕ). IsSmall (set g t l)) (sym is) (small_more g t old xs at small h)

-- the same edges, said in another way
pub adds_same : (E F : ℕ → ℕ → Type 0) (start g : List (List ℕ)) → ((a b : ℕ) → E a b → F a b) → ((a b : ℕ) → F a b → E a b) → Adds E start g → Adds F start g
adds_same E F start g to from h =
    record { size = h.size; kept = h.kept; added = λ a b f. h.added a b (from a b f); only = λ a b r. ⊎_elim (λ o. inl o) (λ e. inr (to a b e)) (h.only a b r) }

pub adds_both : (E F G : ℕ → ℕ → Type 0) (start mid new : List (List ℕ))
    → ((a b : ℕ) → E a b → G a b) → ((a b : ℕ) → F a b → G a b)
    → ((a b : ℕ) → G a b → E a b ⊎ F a b) → Adds E start mid → Adds F mid new → Adds G start new
adds_both E F G start mid new left right either h k =
    record {
      size = k.size ∙ h.size;
      kept = λ a b r. k.kept a b (h.kept a b r);
      added = λ a b g. ⊎_elim (λ e. k.kept a b (h.added a b e)) (λ f. k.added a b f) (either a b g);
      only = λ a b r. ⊎_elim (λ m. ⊎_elim (λ o. inl o) (λ e. inr (left a b e)) (h.only a b m)) (λ f. inr (right a b f)) (k.only a b r);
    }

-- one more assignment
pub steps_assign : (m : Module) (j : ℕ) (x : Assign) → slice_get m.assigns j ≡ Some x → Steps (IsAssigned m j) (IsAssigned m (j + 1)) x.target (reads x.expr)
steps_assign m j x at =
    record {
      kept = λ a b e. (e.0, e.1, omega (arith, e.2), e.3, e.4, e.5);
      new = λ i a is. (j, x, omega arith, at, (i, is), refl);
      only = λ a b f. by_place a b f (cases_lt f.0 j);
    }
  where
    by_place : (a b : ℕ) → (f : IsAssigned m (j + 1) a b) → (f.0 < j) ⊎ (j ≤ f.0) → IsAssigned m j a b ⊎ ((b ≡ x.target) × ((i : ℕ) × (slice_get (reads x.expr) i ≡ Some a)))
    by_place a b f (inl lt) = inl (f.0, f.1, lt, f.3, f.4, f.5)
    by_place a b f (inr ge) =
        let q : f.0 ≡ j = omega (arith, f.2) in
        let p : f.1 ≡ x = some_is (sym f.3 ∙ ap (slice_get m.assigns) q ∙ at) in
        inr (sym f.5 ∙ ap (λ (y : Assign). y.target) p, (f.4.0, ap (λ (y : Assign). slice_get (reads y.expr) f.4.0) (sym p) ∙ f.4.1))

pub none_assigned : (m : Module) (a b : ℕ) → IsAssigned m 0 a b → ⊥
none_assigned m a b e = omega (arith, e.2)

-- the nets of one port more
pub joined_more : (i : Instance) (ports nets : List ℕ) (count p x : ℕ)
    → slice_get ports count ≡ Some p → slice_get i.nets p ≡ Some x → x < 2 ^ 32
    → AreJoined i ports count nets → AreJoined i ports (count + 1) (nets ++ x ∷ [])
joined_more i ports nets count p x at joins small h =
    record {
      size = length_push nets x ∙ ap (λ (k : ℕ). k + 1) h.size;
      small = λ n a is. ⊎_elim (λ old. h.small n a old) (λ new. last n a (λ (y : ℕ). y < 2 ^ 32) small new) (pushed_at nets n x a is);
      sound = λ n a is. ⊎_elim (λ old. h.sound n a old) (λ new. (p, ap (slice_get ports) (new.0 ∙ h.size) ∙ at, joins ∙ ap (λ (y : ℕ). Some y) new.1)) (pushed_at nets n x a is);
      whole = λ n q a lt q_at is. by_place n q a q_at is lt (cases_lt n count);
    }
  where
    last : (n a : ℕ) → (P : ℕ → Type 0) → P x → (n ≡ length nets) × (x ≡ a) → P a
    last n a P px e = subst P e.1 px

    by_place : (n q a : ℕ) → slice_get ports n ≡ Some q → slice_get i.nets q ≡ Some a → n < count + 1 → (n < count) ⊎ (count ≤ n) → slice_get (nets ++ x ∷ []) n ≡ Some a
    by_place n q a q_at is lt (inl less) = in_front nets (x ∷ []) n a (h.whole n q a less q_at is)
    by_place n q a q_at is lt (inr ge) =
        let e : n ≡ count = omega arith in
        let same : q ≡ p = some_is (sym q_at ∙ ap (slice_get ports) e ∙ at) in
        let value : x ≡ a = some_is (sym joins ∙ ap (slice_get i.nets) (sym same) ∙ is) in
        ap (slice_get (nets ++ x ∷ [])) (e ∙ sym h.size) ∙ at_seam nets x [] ∙ ap (λ (y : ℕ). Some y) value

pub none_joined : (i : Instance) (ports : List ℕ) → AreJoined i ports 0 []
none_joined i ports = record { size = refl; small = λ n a is. absurd (cc); sound = λ n a is. absurd (cc); whole = λ n p a lt at is. absurd (omega (arith, lt)) }

-- one more port, with all paths to it
pub steps_row : (i : Instance) (table : List (List ℕ)) (n to : ℕ) (row nets : List ℕ)
    → slice_get table n ≡ Some row → slice_get i.nets n ≡ Some to
    → AreJoined i row (length row) nets
    → Steps (IsPassed i table n) (IsPassed i table (n + 1)) to nets
steps_row i table n to row nets at out_at h =
    record {
      kept = λ a b e. (e.0, omega (arith, e.1), e.2, e.3, e.4);
      new = λ k a is. let w = h.sound k a is in (record { input = w.0; output = n }, omega arith, (row, k, at, w.1), w.2, out_at);
      only = λ a b f. by_place a b f (cases_lt f.0.output n);
    }
  where
    by_place : (a b : ℕ) → (f : IsPassed i table (n + 1) a b) → (f.0.output < n) ⊎ (n ≤ f.0.output) → IsPassed i table n a b ⊎ ((b ≡ to) × ((k : ℕ) × (slice_get nets k ≡ Some a)))
    by_place a b f (inl lt) = inl (f.0, lt, f.2, f.3, f.4)
    by_place a b f (inr ge) =
        let q : f.0.output ≡ n = omega (arith, f.1) in
        let p : f.2.0 ≡ row = some_is (sym f.2.2 ∙ ap (slice_get table) q ∙ at) in
        let r : slice_get row f.2.1 ≡ Some f.0.input = ap (λ (l : List ℕ). slice_get l f.2.1) (sym p) ∙ f.2.3 in
        inr (some_is (sym f.4 ∙ ap (slice_get i.nets) q ∙ out_at), (f.2.1, h.whole f.2.1 f.0.input a (slice_get_within row f.2.1 f.0.input r) r f.3))

pub none_passed : (i : Instance) (table : List (List ℕ)) (a b : ℕ) → IsPassed i table 0 a b → ⊥
none_passed i table a b e = omega (arith, e.1)

-- a port without a path to it
pub passed_same : (i : Instance) (table : List (List ℕ)) (n : ℕ) (row : List ℕ)
    (start g : List (List ℕ)) → slice_get table n ≡ Some row → length row ≡ 0
    → Adds (IsPassed i table n) start g → Adds (IsPassed i table (n + 1)) start g
passed_same i table n row start g at none h =
    adds_same (IsPassed i table n) (IsPassed i table (n + 1)) start g (λ a b e. (e.0, omega (arith, e.1), e.2, e.3, e.4)) (λ a b f. (f.0, by_place a b f (cases_lt f.0.output n), f.2, f.3, f.4)) h
  where
    by_place : (a b : ℕ) → (f : IsPassed i table (n + 1) a b) → (f.0.output < n) ⊎ (n ≤ f.0.output) → f.0.output < n
    by_place a b f (inl lt) = lt
    by_place a b f (inr ge) =
        let q : f.0.output ≡ n = omega (arith, f.1) in
        let p : f.2.0 ≡ row = some_is (sym f.2.2 ∙ ap (slice_get table) q ∙ at) in
        absurd (omega (arith, slice_get_within f.2.0 f.2.1 f.0.input f.2.3, ap length p, none))

-- one more instance
pub parted_more : (m : Module) (tables : List (List (List ℕ))) (k : ℕ) (i : Instance)
    (paths : List (List ℕ)) (start mid new : List (List ℕ)) → slice_get m.instances k ≡ Some i
    → slice_get tables i.module ≡ Some paths → Adds (IsParted m tables k) start mid
    → Adds (IsPassed i paths (length paths)) mid new → Adds (IsParted m tables (k + 1)) start new
parted_more m tables k i paths start mid new at table h g =
    adds_both (IsParted m tables k) (IsPassed i paths (length paths)) (IsParted m tables (k + 1)) start mid new
    (λ a b e. (e.0, e.1, e.2, omega (arith, e.3), e.4, e.5, e.6))
    (λ a b f. (k, i, paths, omega arith, at, table, f))
    (λ a b p. by_place a b p (cases_lt p.0 k))
    h g
  where
    by_place : (a b : ℕ) → (p : IsParted m tables (k + 1) a b) → (p.0 < k) ⊎ (k ≤ p.0) → IsParted m tables k a b ⊎ IsPassed i paths (length paths) a b
    by_place a b p (inl lt) = inl (p.0, p.1, p.2, lt, p.4, p.5, p.6)
    by_place a b p (inr ge) =
        let q : p.0 ≡ k = omega (arith, p.3) in
        let r : p.1 ≡ i = some_is (sym p.4 ∙ ap (slice_get m.instances) q ∙ at) in
        let t : p.2 ≡ paths = some_is (sym p.5 ∙ ap (λ (y : Instance). slice_get tables y.module) r ∙ table) in
        inr (subst (λ (y : Instance). IsPassed y paths (length paths) a b) r (subst (λ (ys : List (List ℕ)). IsPassed p.1 ys (length ys) a b) t p.6))

pub none_parted : (m : Module) (tables : List (List (List ℕ))) (a b : ℕ) → IsParted m tables 0 a b → ⊥
none_parted m tables a b e = omega (arith, e.3)

-- a graph of empty lists
pub no_edges_more : (g : List (List ℕ)) → ((a b : ℕ) → Reads g b a → ⊥) → (a b : ℕ) → Reads (g ++ [] ∷ []) b a → ⊥
no_edges_more g none a b r = let e = edge_from (g ++ [] ∷ []) b a r in by_list e (joined_at g ([] ∷ []) b e.list e.at)
  where
    empty : (e : Edge (g ++ [] ∷ []) b a) (j : ℕ) → slice_get ([] ∷ []) j ≡ Some e.list → ⊥
    empty e zero is = let p : e.list ≡ [] = sym (some_is is) in let q : slice_get [] e.place ≡ Some a = ap (λ (l : List ℕ). slice_get l e.place) (sym p) ∙ e.is in cc
    empty e (suc j) is = cc

    by_list : (e : Edge (g ++ [] ∷ []) b a) → (slice_get g b ≡ Some e.list) ⊎ ((j : ℕ) × (slice_get ([] ∷ []) j ≡ Some e.list)) → ⊥
    by_list e (inl h) = none a b (edge_to g b a (record { list = e.list; at = h; place = e.place; is = e.is }))
    by_list e (inr h) = empty e h.0 h.1
