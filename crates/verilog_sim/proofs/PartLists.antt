-- What the lists of parts say by paths is what the flat module says.
use Rattle.std.proofs.Common.{◌≡◌, ℕ, ◌+◌, ◌-◌, ◌<◌, ◌≤◌, Bool, true, false, cond, ◌&&◌, eqb, ltb}
use Rattle.std.proofs.Common.{List, [], ◌∷◌, ◌++◌, length, map, take, drop, get_or, Option, Some, None}
use Rattle.std.proofs.Common.{refl, sym, ap, ◌∙◌, arith, ⊎_elim}
use mathlib.Core.Path.{fun_ext}
use Rattle.std.proofs.lemmas.Bool.{cases_eq, cases_lt, lt-ltb, le-ltb, ltb-true, ltb-false, eq-eqb, ne_eqb}
use Rattle.std.proofs.lemmas.List.{get_or-take, get_or-drop, get_or_past, length-take}
use Rattle.rtl_ir.specs.declared.design.Module.{Module}
use Rattle.rtl_ir.specs.Value.{Family, Contents}
use Rattle.rtl_ir.specs.Flat.{Path, AllContents, Families}
use Rattle.verilog_sim.specs.declared.scope.Scope.{Scope}
use Rattle.verilog_sim.specs.Contents.{family_of, contents_of}
use Rattle.verilog_sim.proofs.ByPath.{cut_family, cut_contents, no_family, no_contents, within_part, families_before, contents_before}
use Rattle.verilog_sim.proofs.ByPath.{families_first, contents_first, alone, alone_contents, families_of, contents_by_path}
use Rattle.verilog_sim.specs.State.{PartContents, PartValues, is_path, held_at, values_at}
use Rattle.verilog_sim.specs.PartLists.{cut_list, path_before, split_at, parts_before, parts_first, top_at, tops_at, parts_of}
use Rattle.verilog_sim.specs.PartLists.{as_values, values_of}

-- ---- contents of so many nets and memories
get_cut : {X : Type 0} (first count : ℕ) (xs : List X) (i : ℕ) (d : X) → get_or (cut_list first count xs) i d ≡ cond (ltb i count) (get_or xs (first + i) d) d
get_cut first count xs i d = by_test (ltb i count) refl
  where
    by_test : (b : Bool) → ltb i count ≡ b → get_or (take count (drop first xs)) i d ≡ cond b (get_or xs (first + i) d) d
    by_test true e = get_or-take count (drop first xs) i d (ltb-true i count e) ∙ get_or-drop first xs i d
    by_test false e = get_or_past (take count (drop first xs)) i d (omega (arith, length-take count (drop first xs), ltb-false i count e))

abbrev made : (ℕ → ℕ) → (ℕ → ℕ → ℕ) → Contents
made regs cells = record { regs = regs; cells = cells }

contents_cut : (f n g m : ℕ) (regs : List ℕ) (cells : List (List ℕ))
    → contents_of (cut_list f n regs) (cut_list g m cells) ≡ cut_contents f n g m (contents_of regs cells)
contents_cut f n g m regs cells =
    ap (λ r. made r (λ k a. get_or (get_or (cut_list g m cells) k []) a 0)) (fun_ext (λ i. get_cut f n regs i 0))
    ∙ ap (made (λ i. cond (ltb i n) (get_or regs (f + i) 0) 0))
    (fun_ext (λ k. fun_ext (λ a. ap (λ (l : List ℕ). get_or l a 0) (get_cut g m cells k [])
    ∙ inside k a (ltb k m))))
  where
    inside : (k a : ℕ) (b : Bool) → get_or (cond b (get_or cells (g + k) []) []) a 0 ≡ cond b (get_or (get_or cells (g + k) []) a 0) 0
    inside k a true = refl
    inside k a false = refl

either : (b : Bool) (x : ℕ) → cond b x x ≡ x
either true x = refl
either false x = refl

cut_none : (f n g m : ℕ) → cut_contents f n g m no_contents ≡ no_contents
cut_none f n g m =
    ap (λ r. made r (λ k a. cond (ltb k m) 0 0)) (fun_ext (λ i. either (ltb i n) 0))
    ∙ ap (made (λ i. 0)) (fun_ext (λ k. fun_ext (λ a. either (ltb k m) 0)))

-- ---- paths before an instance became a part
and_false : (b : Bool) → b && false ≡ false
and_false true = refl
and_false false = refl

moved_eqb : (last k j : ℕ) → last ≤ k → eqb (k - last) j ≡ eqb k (last + j)
moved_eqb last k j le =
    ⊎_elim (λ e. eq-eqb (k - last) j (omega (arith, e)) ∙ sym (eq-eqb k (last + j) e))
    (λ ne. ne_eqb (k - last) j (λ q. ne (omega (arith, q, le))) ∙ sym (ne_eqb k (last + j) ne)) (cases_eq k (last + j))

module _ (last : ℕ) where
  path_front : (k : ℕ) (p : Path) → is_path (path_before last k p) [] ≡ false
  path_front k p = by_test (ltb k last)
    where
      by_test : (b : Bool) → is_path (cond b (k ∷ p) (last ∷ (k - last) ∷ p)) [] ≡ false
      by_test true = refl
      by_test false = refl

  path_below : (k : ℕ) (p : Path) (j : ℕ) (q : Path) → j < last → is_path (path_before last k p) (j ∷ q) ≡ is_path (k ∷ p) (j ∷ q)
  path_below k p j q lt = by_test (ltb k last) refl
    where
      by_test : (b : Bool) → ltb k last ≡ b → is_path (cond b (k ∷ p) (last ∷ (k - last) ∷ p)) (j ∷ q) ≡ is_path (k ∷ p) (j ∷ q)
      by_test true e = refl
      by_test false e =
          ap (λ b. b && is_path ((k - last) ∷ p) q) (ne_eqb last j (λ g. omega (arith, g, lt)))
          ∙ sym (ap (λ b. b && is_path p q) (ne_eqb k j (λ g. omega (arith, g, lt, ltb-false k last e))))

  path_part : (k : ℕ) (p : Path) → is_path (path_before last k p) (last ∷ []) ≡ false
  path_part k p = by_test (ltb k last) refl
    where
      by_test : (b : Bool) → ltb k last ≡ b → is_path (cond b (k ∷ p) (last ∷ (k - last) ∷ p)) (last ∷ []) ≡ false
      by_test true e = ap (λ b. b && is_path p []) (ne_eqb k last (λ g. omega (arith, g, ltb-true k last e)))
      by_test false e = and_false (eqb last last)

  path_within : (k : ℕ) (p : Path) (j : ℕ) (r : Path) → is_path (path_before last k p) (last ∷ j ∷ r) ≡ is_path (k ∷ p) ((last + j) ∷ r)
  path_within k p j r = by_test (ltb k last) refl
    where
      by_test : (b : Bool) → ltb k last ≡ b → is_path (cond b (k ∷ p) (last ∷ (k - last) ∷ p)) (last ∷ j ∷ r) ≡ is_path (k ∷ p) ((last + j) ∷ r)
      by_test true e =
          ap (λ b. b && is_path p (j ∷ r)) (ne_eqb k last (λ g. omega (arith, g, ltb-true k last e)))
          ∙ sym (ap (λ b. b && is_path p r) (ne_eqb k (last + j) (λ g. omega (arith, g, ltb-true k last e))))
      by_test false e =
          ap (λ b. b && is_path ((k - last) ∷ p) (j ∷ r)) (eq-eqb last last refl)
          ∙ ap (λ b. b && is_path p r) (moved_eqb last k j (ltb-false k last e))

  path_above : (k : ℕ) (p : Path) (j : ℕ) (q : Path) → last < j → is_path (path_before last k p) (j ∷ q) ≡ false
  path_above k p j q lt = by_test (ltb k last) refl
    where
      by_test : (b : Bool) → ltb k last ≡ b → is_path (cond b (k ∷ p) (last ∷ (k - last) ∷ p)) (j ∷ q) ≡ false
      by_test true e = ap (λ b. b && is_path p q) (ne_eqb k j (λ g. omega (arith, g, lt, ltb-true k last e)))
      by_test false e = ap (λ b. b && is_path ((k - last) ∷ p) q) (ne_eqb last j (λ g. omega (arith, g, lt)))

-- ---- what is held at a path, before an instance became a part
chosen : (b d : Bool) (c x y : Contents) → b ≡ d → x ≡ y → cond b c x ≡ cond d c y
chosen b d c x y e f = ap (λ t. cond t c x) e ∙ ap (cond d c) f

module _ (s : Scope) where
  abbrev front_cut : Contents → Contents
  front_cut = cut_contents 0 s.first_net 0 s.first_mem

  abbrev part_cut : Contents → Contents
  part_cut = cut_contents s.first_net s.nets s.first_mem s.mems

  front_one :
      (path : Path) (regs : List ℕ) (cells : List (List ℕ)) (rest xs : List PartContents) → held_at rest [] ≡ front_cut (held_at xs [])
      → held_at (split_at s path regs cells ++ rest) [] ≡ front_cut (cond (is_path path []) (contents_of regs cells) (held_at xs []))
  front_one [] regs cells rest xs e = contents_cut 0 s.first_net 0 s.first_mem regs cells
  front_one (k ∷ p) regs cells rest xs e = ap (λ b. cond b (contents_of regs cells) (held_at rest [])) (path_front s.instance k p) ∙ e

  front_at : (xs : List PartContents) → held_at (parts_before s xs) [] ≡ front_cut (held_at xs [])
  front_at [] = sym (cut_none 0 s.first_net 0 s.first_mem)
  front_at (x ∷ xs) = front_one x.path x.regs x.cells (parts_before s xs) xs (front_at xs)

  below_one :
      (j : ℕ) (q : Path) → j < s.instance → (path : Path) (regs : List ℕ) (cells : List (List ℕ))
      (rest xs : List PartContents) → held_at rest (j ∷ q) ≡ held_at xs (j ∷ q)
      → held_at (split_at s path regs cells ++ rest) (j ∷ q) ≡ cond (is_path path (j ∷ q)) (contents_of regs cells) (held_at xs (j ∷ q))
  below_one j q lt [] regs cells rest xs e =
      ap (λ b. cond (b && is_path [] q) (contents_of (cut_list s.first_net s.nets regs)
      (cut_list s.first_mem s.mems cells)) (held_at rest (j ∷ q)))
      (ne_eqb s.instance j (λ g. omega (arith, g, lt))) ∙ e
  below_one j q lt (k ∷ p) regs cells rest xs e = chosen _ _ (contents_of regs cells) (held_at rest (j ∷ q))
      (held_at xs (j ∷ q)) (path_below s.instance k p j q lt) e

  below_at : (j : ℕ) (q : Path) → j < s.instance → (xs : List PartContents) → held_at (parts_before s xs) (j ∷ q) ≡ held_at xs (j ∷ q)
  below_at j q lt [] = refl
  below_at j q lt (x ∷ xs) = below_one j q lt x.path x.regs x.cells (parts_before s xs) xs (below_at j q lt xs)

  part_one :
      (path : Path) (regs : List ℕ) (cells : List (List ℕ)) (rest xs : List PartContents) → held_at rest (s.instance ∷ []) ≡ part_cut (held_at xs [])
      → held_at (split_at s path regs cells ++ rest) (s.instance ∷ []) ≡ part_cut (cond (is_path path []) (contents_of regs cells) (held_at xs []))
  part_one [] regs cells rest xs e =
      ap (λ b. cond (b && true) (contents_of (cut_list s.first_net s.nets regs) (cut_list s.first_mem s.mems cells))
      (held_at rest (s.instance ∷ []))) (eq-eqb s.instance s.instance refl)
      ∙ contents_cut s.first_net s.nets s.first_mem s.mems regs cells
  part_one (k ∷ p) regs cells rest xs e = ap (λ b. cond b (contents_of regs cells) (held_at rest (s.instance ∷ []))) (path_part s.instance k p) ∙ e

  part_at : (xs : List PartContents) → held_at (parts_before s xs) (s.instance ∷ []) ≡ part_cut (held_at xs [])
  part_at [] = sym (cut_none s.first_net s.nets s.first_mem s.mems)
  part_at (x ∷ xs) = part_one x.path x.regs x.cells (parts_before s xs) xs (part_at xs)

  within_one :
      (j : ℕ) (r : Path) (path : Path) (regs : List ℕ) (cells : List (List ℕ)) (rest xs : List PartContents)
      → held_at rest (s.instance ∷ j ∷ r) ≡ held_at xs ((s.instance + j) ∷ r)
      → held_at (split_at s path regs cells ++ rest) (s.instance ∷ j ∷ r) ≡ cond (is_path path ((s.instance + j) ∷ r))
      (contents_of regs cells) (held_at xs ((s.instance + j) ∷ r))
  within_one j r [] regs cells rest xs e =
      ap (λ b. cond b (contents_of (cut_list s.first_net s.nets regs) (cut_list s.first_mem s.mems cells))
      (held_at rest (s.instance ∷ j ∷ r))) (and_false (eqb s.instance s.instance)) ∙ e
  within_one j r (k ∷ p) regs cells rest xs e = chosen _ _ (contents_of regs cells) (held_at rest (s.instance ∷ j ∷ r))
      (held_at xs ((s.instance + j) ∷ r)) (path_within s.instance k p j r) e

  within_at : (j : ℕ) (r : Path) (xs : List PartContents) → held_at (parts_before s xs) (s.instance ∷ j ∷ r) ≡ held_at xs ((s.instance + j) ∷ r)
  within_at j r [] = refl
  within_at j r (x ∷ xs) = within_one j r x.path x.regs x.cells (parts_before s xs) xs (within_at j r xs)

  above_one :
      (j : ℕ) (q : Path) → s.instance < j → (path : Path) (regs : List ℕ) (cells : List (List ℕ))
      (rest : List PartContents) → held_at rest (j ∷ q) ≡ no_contents
      → held_at (split_at s path regs cells ++ rest) (j ∷ q) ≡ no_contents
  above_one j q lt [] regs cells rest e =
      ap (λ b. cond (b && is_path [] q) (contents_of (cut_list s.first_net s.nets regs)
      (cut_list s.first_mem s.mems cells)) (held_at rest (j ∷ q)))
      (ne_eqb s.instance j (λ g. omega (arith, g, lt))) ∙ e
  above_one j q lt (k ∷ p) regs cells rest e = ap (λ b. cond b (contents_of regs cells) (held_at rest (j ∷ q))) (path_above s.instance k p j q lt) ∙ e

  above_at : (j : ℕ) (q : Path) → s.instance < j → (xs : List PartContents) → held_at (parts_before s xs) (j ∷ q) ≡ no_contents
  above_at j q lt [] = refl
  above_at j q lt (x ∷ xs) = above_one j q lt x.path x.regs x.cells (parts_before s xs) (above_at j q lt xs)

  -- what there is before it, of it and behind it
  chosen_below : (k : ℕ) (a b c : Contents) → k < s.instance → a ≡ cond (ltb k s.instance) a (cond (eqb k s.instance) b c)
  chosen_below k a b c lt = sym (ap (λ t. cond t a (cond (eqb k s.instance) b c)) (lt-ltb k s.instance lt))

  chosen_past : (k : ℕ) (a b c : Contents) → s.instance ≤ k → (t : Bool) → eqb k s.instance ≡ t
      → cond t b c ≡ cond (ltb k s.instance) a (cond (eqb k s.instance) b c)
  chosen_past k a b c ge t e = sym (ap (λ u. cond u a (cond (eqb k s.instance) b c)) (le-ltb k s.instance ge) ∙ ap (λ u. cond u b c) e)

  last_at : (xs : List PartContents) (r : Path) → held_at (parts_before s xs) (s.instance ∷ r) ≡ within_part s.instance part_cut (λ p. held_at xs p) r
  last_at xs [] = part_at xs
  last_at xs (j ∷ r) = within_at j r xs

  before_at : (xs : List PartContents) (p : Path) → held_at (parts_before s xs) p ≡ contents_before s (λ q. held_at xs q) p
  before_at xs [] = front_at xs
  before_at xs (k ∷ q) =
      let inner : Contents = within_part s.instance part_cut (λ p. held_at xs p) q in
      ⊎_elim (λ lt. below_at k q lt xs ∙ chosen_below k (held_at xs (k ∷ q)) inner no_contents lt)
      (λ ge. ⊎_elim
      (λ e. ap (λ i. held_at (parts_before s xs) (i ∷ q)) e ∙ last_at xs q
      ∙ chosen_past k (held_at xs (k ∷ q)) inner no_contents ge true (eq-eqb k s.instance e))
      (λ ne. above_at k q (omega (arith, ge, ne)) xs ∙ chosen_past k (held_at xs (k ∷ q)) inner no_contents ge false (ne_eqb k s.instance ne))
      (cases_eq k s.instance))
      (cases_lt k s.instance)

-- ---- what is held at a path of the design
abbrev by_path : List PartContents → AllContents
by_path xs = λ p. held_at xs p

first_at : (ss : List Scope) (xs : List PartContents) → by_path (parts_first ss xs) ≡ contents_first ss (by_path xs)
first_at [] xs = refl
first_at (s ∷ ss) xs = fun_ext (before_at s (parts_first ss xs)) ∙ ap (contents_before s) (first_at ss xs)

alone_at : (held : List ℕ) (memories : List (List ℕ)) → by_path
    (record { path = []; regs = held; cells = memories } ∷ []) ≡ alone_contents (contents_of held memories)
alone_at held memories = fun_ext at
  where
    at : (p : Path) → held_at (record { path = []; regs = held; cells = memories } ∷ []) p ≡ alone_contents (contents_of held memories) p
    at [] = refl
    at (k ∷ p) = refl

module _ (nets mems : ℕ) where
  top_one :
      (path : Path) (regs : List ℕ) (cells : List (List ℕ)) (rest xs : List PartContents) → held_at rest [] ≡ cut_contents 0 nets 0 mems (held_at xs [])
      → held_at (top_at nets mems path regs cells ∷ rest) [] ≡ cut_contents 0 nets 0 mems (cond (is_path path []) (contents_of regs cells) (held_at xs []))
  top_one [] regs cells rest xs e = contents_cut 0 nets 0 mems regs cells
  top_one (k ∷ p) regs cells rest xs e = e

  top_is : (xs : List PartContents) → held_at (tops_at nets mems xs) [] ≡ cut_contents 0 nets 0 mems (held_at xs [])
  top_is [] = sym (cut_none 0 nets 0 mems)
  top_is (x ∷ xs) = top_one x.path x.regs x.cells (tops_at nets mems xs) xs (top_is xs)

  inner_one :
      (j : ℕ) (q : Path) (path : Path) (regs : List ℕ) (cells : List (List ℕ)) (rest xs : List PartContents) → held_at rest (j ∷ q) ≡ held_at xs (j ∷ q)
      → held_at (top_at nets mems path regs cells ∷ rest) (j ∷ q) ≡ cond (is_path path (j ∷ q)) (contents_of regs cells) (held_at xs (j ∷ q))
  inner_one j q [] regs cells rest xs e = e
  inner_one j q (k ∷ p) regs cells rest xs e = ap (cond (is_path (k ∷ p) (j ∷ q)) (contents_of regs cells)) e

  inner_is : (j : ℕ) (q : Path) (xs : List PartContents) → held_at (tops_at nets mems xs) (j ∷ q) ≡ held_at xs (j ∷ q)
  inner_is j q [] = refl
  inner_is j q (x ∷ xs) = inner_one j q x.path x.regs x.cells (tops_at nets mems xs) xs (inner_is j q xs)

  tops_say : (xs : List PartContents) (p : Path) → held_at (tops_at nets mems xs) p ≡ within_part 0 (cut_contents 0 nets 0 mems) (by_path xs) p
  tops_say xs [] = top_is xs
  tops_say xs (k ∷ q) = inner_is k q xs ∙ ap (λ i. held_at xs (i ∷ q)) (let e : k ≡ 0 + k = omega arith in e)

-- the parts of a design say what its flat module says of them
pub parts_say : (m : Option Module) (ss : List Scope) (held : List ℕ) (memories : List (List ℕ))
    → by_path (parts_of m ss held memories) ≡ contents_by_path m ss (contents_of held memories)
parts_say None ss held memories = refl
parts_say (Some m) ss held memories =
    let flat : List PartContents = record { path = []; regs = held; cells = memories } ∷ [] in
    fun_ext (tops_say (length m.nets) (length m.mems) (parts_first ss flat))
    ∙ ap (within_part 0 (cut_contents 0 (length m.nets) 0 (length m.mems))) (first_at ss flat ∙ ap (contents_first ss) (alone_at held memories))

-- ---- the values of nets, which stand in the place of registers
values_regs : (xs : List PartContents) (p : Path) → values_at (map as_values xs) p ≡ (held_at xs p).regs
values_regs [] p = refl
values_regs (x ∷ xs) p = by_test (values_regs xs p) (is_path x.path p)
  where
    by_test : values_at (map as_values xs) p ≡ (held_at xs p).regs → (b : Bool)
        → cond b (family_of x.regs) (values_at (map as_values xs) p) ≡ (cond b (contents_of x.regs x.cells) (held_at xs p)).regs
    by_test rest true = refl
    by_test rest false = rest

within_regs :
    (last : ℕ) (f : Contents → Contents) (g : Family → Family) (x : AllContents) (v : Families)
    → ((c : Contents) → (f c).regs ≡ g c.regs) → ((p : Path) → (x p).regs ≡ v p)
    → (p : Path) → (within_part last f x p).regs ≡ within_part last g v p
within_regs last f g x v e h [] = e (x []) ∙ ap g (h [])
within_regs last f g x v e h (k ∷ p) = h ((last + k) ∷ p)

before_regs : (s : Scope) (x : AllContents) (v : Families) → ((p : Path) → (x p).regs ≡ v p) → (p : Path) → (contents_before s x p).regs ≡ families_before s v p
before_regs s x v h [] = ap (cut_family 0 s.first_net) (h [])
before_regs s x v h (k ∷ p) = by_test (ltb k s.instance) (eqb k s.instance)
  where
    by_test : (b d : Bool)
        → (cond b (x (k ∷ p)) (cond d (within_part s.instance (cut_contents s.first_net s.nets s.first_mem s.mems) x p) no_contents)).regs
        ≡ cond b (v (k ∷ p)) (cond d (within_part s.instance (cut_family s.first_net s.nets) v p) no_family)
    by_test true d = h (k ∷ p)
    by_test false true = within_regs s.instance (cut_contents s.first_net s.nets s.first_mem s.mems) (cut_family s.first_net s.nets) x v (λ c. refl) h p
    by_test false false = refl

first_regs : (ss : List Scope) (c : Contents) (p : Path) → (contents_first ss (alone_contents c) p).regs ≡ families_first ss (alone c.regs) p
first_regs [] c [] = refl
first_regs [] c (k ∷ p) = refl
first_regs (s ∷ ss) c p = before_regs s (contents_first ss (alone_contents c)) (families_first ss (alone c.regs)) (first_regs ss c) p

abbrev by_values : List PartValues → Families
by_values xs = λ p. values_at xs p

-- the values of the parts are the families that the flat module says
pub values_say : (m : Module) (ss : List Scope) (values : List ℕ)
    → by_values (values_of (Some m) ss values) ≡ families_of m ss (family_of values)
values_say m ss values =
    fun_ext (λ p. values_regs (parts_of (Some m) ss values []) p
    ∙ ap (λ (u : AllContents). (u p).regs) (parts_say (Some m) ss values [])
    ∙ within_regs 0 (cut_contents 0 (length m.nets) 0 (length m.mems)) (cut_family 0 (length m.nets))
    (contents_first ss (alone_contents (contents_of values []))) (families_first ss (alone (family_of values)))
    (λ c. refl) (first_regs ss (contents_of values [])) p)
