-- The steps of a search against the direction of the reads.
use Rattle.std.proofs.Common.{◌≡◌, ◌≢◌, ℕ, ◌+◌, ◌<◌, ◌≤◌, List, [], ◌∷◌, ◌++◌, length, get_or, set, refl, sym, ap, ◌∙◌, subst, arith, ◌⊎◌, inl, inr}
use Rattle.std.proofs.lemmas.Bool.{cases_lt, cases_eq, eq-eqb, ne_eqb}
use Rattle.std.proofs.lemmas.List.{get_or-set_same, get_or-set_other, length-set}
use Rattle.std.proofs.lemmas.List.Sums.{sum_by-set}
use Rattle.std.proofs.Math.Seq.{get_or-append_seam}
use Rattle.digraph.specs.Graph.{reads_of, IsGraph, Reads, Reaches, begin, on}
use Rattle.digraph.specs.Search.{IsOn}
use Rattle.digraph.specs.FanIn.{IsFanIn, IsMet, Collects, unseen, all_left}
use Rattle.digraph.proofs.Steps.{old, longer}

-- a way with one more node in front
pub sooner : (g : List (List ℕ)) (a b : ℕ) {end : ℕ} → Reads g b a → Reaches g b end → Reaches g a end
sooner g a b r begin = on b begin r
sooner g a b r (on c w s) = on c (sooner g a b r w) s

-- the search at a node, with the first of its reads met
pub record Meets (g : List (List ℕ)) (end number : ℕ) (seen nodes : List ℕ) (done node met : ℕ) : Type 0 where
  pub collects : Collects g end number seen nodes done
  pub here : get_or nodes done 0 ≡ node
  pub some : done < length nodes
  pub reads : (k : ℕ) → k < met → get_or seen (get_or (reads_of g node) k 0) 0 ≡ number

pub meets_begin : (g : List (List ℕ)) (end number : ℕ) (seen nodes : List ℕ) (done : ℕ)
    → done < length nodes → Collects g end number seen nodes done
    → Meets g end number seen nodes done (get_or nodes done 0) 0
meets_begin g end number seen nodes done lt c = record { collects = c; here = refl; some = lt; reads = λ k h. absurd (omega arith) }

pub meets_end : (g : List (List ℕ)) (end number : ℕ) (seen nodes : List ℕ) (done node met : ℕ)
    → length (reads_of g node) ≤ met → Meets g end number seen nodes done node met
    → Collects g end number seen nodes (done + 1)
meets_end g end number seen nodes done node met past m =
    let c = m.collects in
    record {
      size = c.size;
      earlier = c.earlier;
      marked = c.marked;
      listed = c.listed;
      within = c.within;
      sound = c.sound;
      ended = c.ended;
      closed = λ j i lt h. by_place j i lt h (cases_lt j done);
      behind = omega (arith, m.some);
    }
  where
    by_place : (j i : ℕ) → j < done + 1 → i < length (reads_of g (get_or nodes j 0)) → (j < done) ⊎ (done ≤ j) → get_or seen (get_or (reads_of g (get_or nodes j 0)) i 0) 0 ≡ number
    by_place j i lt h (inl less) = m.collects.closed j i less h
    by_place j i lt h (inr ge) =
        let q : j ≡ done = omega arith in
        let p : get_or nodes j 0 ≡ node = ap (λ n. get_or nodes n 0) q ∙ m.here in
        let within : i < length (reads_of g node) = subst (λ n. i < length (reads_of g n)) p h in
        subst (λ n. get_or seen (get_or (reads_of g n) i 0) 0 ≡ number) (sym p) (m.reads i (omega (arith, past, within)))

module _ (number node : ℕ) (seen nodes : List ℕ) (ne : get_or seen node 0 ≢ number) (lt : node < length seen) where
  now : get_or (set seen node number) node 0 ≡ number
  now = get_or-set_same seen node number 0 lt

  other : (x : ℕ) → x ≢ node → get_or (set seen node number) x 0 ≡ get_or seen x 0
  other x d = get_or-set_other seen node x number 0 d

  still : (x : ℕ) → get_or seen x 0 ≡ number → get_or (set seen node number) x 0 ≡ number
  still x h = by_node (cases_eq x node)
    where
      by_node : (x ≡ node) ⊎ (x ≡ node → ⊥) → get_or (set seen node number) x 0 ≡ number
      by_node (inl e) = ap (λ n. get_or (set seen node number) n 0) e ∙ now
      by_node (inr d) = other x d ∙ h

-- what the listed nodes and one more have
more : (P : ℕ → Type 0) (nodes : List ℕ) (node j : ℕ) → ((i : ℕ) → i < length nodes → P (get_or nodes i 0)) → P node → j < length (nodes ++ node ∷ []) → P (get_or (nodes ++ node ∷ []) j 0)
more P nodes node j all here h = by_place (cases_lt j (length nodes))
  where
    by_place : (j < length nodes) ⊎ (length nodes ≤ j) → P (get_or (nodes ++ node ∷ []) j 0)
    by_place (inl lt) = subst P (sym (old nodes node j lt)) (all j lt)
    by_place (inr ge) =
        let q : j ≡ length nodes = omega (arith, longer nodes node) in
        subst P (sym (ap (λ k. get_or (nodes ++ node ∷ []) k 0) q ∙ get_or-append_seam nodes node [] 0)) here

-- one more node is met for the first time
collects_more : (g : List (List ℕ)) (end number : ℕ) (seen nodes : List ℕ) (done node : ℕ)
    → Collects g end number seen nodes done → get_or seen node 0 ≢ number → node < length g
    → Reaches g node end → Collects g end number (set seen node number) (nodes ++ node ∷ []) done
collects_more g end number seen nodes done node c ne lt way =
    record {
      size = length-set seen node number ∙ c.size;
      earlier = λ x. earlier x (cases_eq x node);
      marked = λ j h. more (λ y. get_or (set seen node number) y 0 ≡ number) nodes node j (λ i l. kept (get_or nodes i 0) (c.marked i l)) first h;
      listed = λ x h. listed x h (cases_eq x node);
      within = λ j h. more (λ y. y < length g) nodes node j c.within lt h;
      sound = λ j h. more (λ y. Reaches g y end) nodes node j c.sound way h;
      ended = kept end c.ended;
      closed = λ j i less h. closed j i less h;
      behind = omega (arith, c.behind, longer nodes node);
    }
  where
    room : node < length seen
    room = omega (arith, c.size, lt)

    first : get_or (set seen node number) node 0 ≡ number
    first = now number node seen nodes ne room

    kept : (x : ℕ) → get_or seen x 0 ≡ number → get_or (set seen node number) x 0 ≡ number
    kept = still number node seen nodes ne room

    earlier : (x : ℕ) → (x ≡ node) ⊎ (x ≡ node → ⊥) → get_or (set seen node number) x 0 ≤ number
    earlier x (inl e) = omega (arith, ap (λ n. get_or (set seen node number) n 0) e, first)
    earlier x (inr d) = omega (arith, other number node seen nodes ne room x d, c.earlier x)

    listed : (x : ℕ) → get_or (set seen node number) x 0 ≡ number → (x ≡ node) ⊎ (x ≡ node → ⊥) → IsOn (nodes ++ node ∷ []) x
    listed x h (inl e) = (length nodes, omega (arith, longer nodes node), get_or-append_seam nodes node [] 0 ∙ sym e)
    listed x h (inr d) =
        let p = c.listed x (sym (other number node seen nodes ne room x d) ∙ h) in
        (p.0, omega (arith, p.1, longer nodes node), old nodes node p.0 p.1 ∙ p.2)

    closed : (j i : ℕ) → j < done → i < length (reads_of g (get_or (nodes ++ node ∷ []) j 0)) → get_or (set seen node number) (get_or (reads_of g (get_or (nodes ++ node ∷ []) j 0)) i 0) 0 ≡ number
    closed j i less h =
        let p : get_or (nodes ++ node ∷ []) j 0 ≡ get_or nodes j 0 = old nodes node j (omega (arith, less, c.behind)) in
        let w : i < length (reads_of g (get_or nodes j 0)) = subst (λ n. i < length (reads_of g n)) p h in
        subst (λ n. get_or (set seen node number) (get_or (reads_of g n) i 0) 0 ≡ number) (sym p) (kept (get_or (reads_of g (get_or nodes j 0)) i 0) (c.closed j i less w))

pub meets_next : (g : List (List ℕ)) (end number : ℕ) (seen nodes marked listed : List ℕ)
    (done node met read : ℕ) → IsGraph g → met < length (reads_of g node)
    → get_or (reads_of g node) met 0 ≡ read → IsMet number read seen nodes marked listed
    → Meets g end number seen nodes done node met
    → Meets g end number marked listed done node (met + 1)
meets_next g end number seen nodes marked listed done node met read graph lt is (inl (was, ms, ls)) m =
    rw (ms, ls) (record { collects = m.collects; here = m.here; some = m.some; reads = λ k h. reads k h (cases_lt k met) })
  where
    reads : (k : ℕ) → k < met + 1 → (k < met) ⊎ (met ≤ k) → get_or seen (get_or (reads_of g node) k 0) 0 ≡ number
    reads k h (inl less) = m.reads k less
    reads k h (inr ge) = let q : k ≡ met = omega arith in ap (λ n. get_or seen (get_or (reads_of g node) n 0) 0) q ∙ ap (λ n. get_or seen n 0) is ∙ was
meets_next g end number seen nodes marked listed done node met read graph lt is (inr (ne, ms, ls)) m =
    rw (ms, ls) (record {
      collects = collects_more g end number seen nodes done read m.collects ne within (sooner g read node (met, lt, is) way);
      here = old nodes read done m.some ∙ m.here;
      some = omega (arith, m.some, longer nodes read);
      reads = λ k h. reads k h (cases_lt k met);
    })
  where
    within : read < length g
    within = subst (λ n. n < length g) is (graph node met lt)

    way : Reaches g node end
    way = subst (λ n. Reaches g n end) m.here (m.collects.sound done m.some)

    room : read < length seen
    room = omega (arith, m.collects.size, within)

    reads : (k : ℕ) → k < met + 1 → (k < met) ⊎ (met ≤ k) → get_or (set seen read number) (get_or (reads_of g node) k 0) 0 ≡ number
    reads k h (inl less) = still number read seen nodes ne room (get_or (reads_of g node) k 0) (m.reads k less)
    reads k h (inr ge) = let q : k ≡ met = omega arith in ap
        (λ n. get_or (set seen read number) (get_or (reads_of g node) n 0) 0) q ∙ ap
        (λ n. get_or (set seen read number) n 0) is ∙ now number read seen nodes ne room

-- what is left and what was met stay as many
pub left_same : (number node : ℕ) (seen nodes marked listed : List ℕ) → node < length seen → IsMet number node seen nodes marked listed → all_left number marked listed ≡ all_left number seen nodes
left_same number node seen nodes marked listed lt (inl (was, ms, ls)) = rw (ms, ls) refl
left_same number node seen nodes marked listed lt (inr (ne, ms, ls)) =
    rw (ms, ls) (omega (arith, sum_by-set (unseen number) seen node number 0 lt, gone, counted, longer nodes node))
  where
    gone : unseen number number ≡ 0
    gone = rw (eq-eqb number number refl) refl

    counted : unseen number (get_or seen node 0) ≡ 1
    counted = rw (ne_eqb (get_or seen node 0) number ne) refl

pub met_size : (number node : ℕ) (seen nodes marked listed : List ℕ) → IsMet number node seen nodes marked listed → length marked ≡ length seen
met_size number node seen nodes marked listed (inl (was, ms, ls)) = ap length ms
met_size number node seen nodes marked listed (inr (ne, ms, ls)) = ap length ms ∙ length-set seen node number

-- the search with its first node alone
pub collects_begin : (g : List (List ℕ)) (end number : ℕ) (seen marked listed : List ℕ)
    → length seen ≡ length g → end < length g → ((x : ℕ) → get_or seen x 0 < number)
    → IsMet number end seen [] marked listed → Collects g end number marked listed 0
collects_begin g end number seen marked listed size lt before (inl (was, ms, ls)) = absurd (omega (arith, was, before end))
collects_begin g end number seen marked listed size lt before (inr (ne, ms, ls)) =
    rw (ms, ls) (record {
      size = length-set seen end number ∙ size;
      earlier = λ x. earlier x (cases_eq x end);
      marked = λ j h. one (λ y. get_or (set seen end number) y 0 ≡ number) j h first;
      listed = λ x h. listed_is x h (cases_eq x end);
      within = λ j h. one (λ y. y < length g) j h lt;
      sound = λ j h. one (λ y. Reaches g y end) j h begin;
      ended = first;
      closed = λ j i less h. absurd (omega arith);
      behind = omega arith;
    })
  where
    room : end < length seen
    room = omega (arith, size, lt)

    first : get_or (set seen end number) end 0 ≡ number
    first = now number end seen [] ne room

    one : (P : ℕ → Type 0) (j : ℕ) → j < length (end ∷ []) → P end → P (get_or (end ∷ []) j 0)
    one P j h here = let q : j ≡ 0 = omega arith in subst (λ n. P (get_or (end ∷ []) n 0)) (sym q) here

    earlier : (x : ℕ) → (x ≡ end) ⊎ (x ≡ end → ⊥) → get_or (set seen end number) x 0 ≤ number
    earlier x (inl e) = omega (arith, ap (λ n. get_or (set seen end number) n 0) e, first)
    earlier x (inr d) = omega (arith, other number end seen [] ne room x d, before x)

    listed_is : (x : ℕ) → get_or (set seen end number) x 0 ≡ number → (x ≡ end) ⊎ (x ≡ end → ⊥) → IsOn (end ∷ []) x
    listed_is x h (inl e) = (0, omega arith, sym e)
    listed_is x h (inr d) = absurd (omega (arith, other number end seen [] ne room x d, h, before x))

-- a search that met all that its nodes read has listed each node from which there is a way
pub collected : (g : List (List ℕ)) (end number : ℕ) (seen nodes : List ℕ) (done : ℕ) → length nodes ≤ done → Collects g end number seen nodes done → IsFanIn g end nodes
collected g end number seen nodes done past c =
    record { within = c.within; sound = c.sound; whole = λ x way. c.listed x (back x way c.ended) }
  where
    back : (x : ℕ) {y : ℕ} → Reaches g x y → get_or seen y 0 ≡ number → get_or seen x 0 ≡ number
    back x begin h = h
    back x (on {a = a} b way r) h =
        let p = c.listed b h in
        let size : r.0 < length (reads_of g (get_or nodes p.0 0)) = subst (λ n. r.0 < length (reads_of g n)) (sym p.2) r.1 in
        let is : get_or (reads_of g (get_or nodes p.0 0)) r.0 0 ≡ a = subst (λ n. get_or (reads_of g n) r.0 0 ≡ a) (sym p.2) r.2 in
        back x way (subst (λ n. get_or seen n 0 ≡ number) is (c.closed p.0 r.0 (omega (arith, p.1, past)) size))
