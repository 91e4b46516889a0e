-- Where the streams of a kernel stand among its nodes, and its nodes among its streams.
use Rattle.std.proofs.Common.{◌≡◌, ◌∙◌, ℕ, zero, suc, ◌+◌, ◌<◌, Bool, true, false, cond, not, ltb, List, [], ◌∷◌, ◌++◌, length, Some, refl, sym, ap, subst, arith, lt-ltb}
use Rattle.std.specs.Prelude.{slice_get, nat_eq, None, unwrap_or}
use Rattle.std.specs.List.{position_or_len}
use Rattle.std.proofs.lemmas.Bool.{false≢true}
use Rattle.std.proofs.lemmas.Bool.Decides.{nat_tests}
use Rattle.stream_graph.specs.declared.node.Kind.{Kind}
use Rattle.stream_graph.specs.declared.node.Kind.TheVariants as K
use Rattle.stream_graph.specs.declared.node.Node.{Node}
use Rattle.stream_graph.specs.Kinds.{is_input, is_output}
use Rattle.kernel_control.specs.Ports.{numbers_from, inputs_of, outputs_of}
use Rattle.project_rtl.specs.Blocks.{streams_of, place_of}
use Rattle.project_rules.proofs.Lists.{within, at_left, at_behind, same_item}

-- ---- the numbers of nodes of a kind

-- a node of a kind, by its number
pub record IsOfKind (is_kind : Kind → Bool) (nodes : List Node) (n : ℕ) : Type 0 where
  pub node : Node
  pub is : slice_get nodes n ≡ Some node
  pub kind : is_kind node.view.kind ≡ true

-- a number among them is that of such a node
pub record IsNumber (is_kind : Kind → Bool) (k : ℕ) (nodes : List Node) (m : ℕ) : Type 0 where
  pub own : ℕ
  pub is : m ≡ k + own
  pub of : IsOfKind is_kind nodes own

pub number_is : (is_kind : Kind → Bool) (k : ℕ) (nodes : List Node) (i m : ℕ) → slice_get (numbers_from is_kind k nodes) i ≡ Some m
    → IsNumber is_kind k nodes m
number_is is_kind k [] i m e = absurd (cc)
number_is is_kind k (x ∷ nodes) i m e = by_test (is_kind x.view.kind) refl i e (λ j f. number_is is_kind (k + 1) nodes j m f)
  where
    later : IsNumber is_kind (k + 1) nodes m → IsNumber is_kind k (x ∷ nodes) m
    later r =
        let own = r.is in
        record { own = suc r.own; is = omega (arith, own); of = record { node = r.of.node; is = r.of.is; kind = r.of.kind } }

    by_test : (b : Bool) → is_kind x.view.kind ≡ b → (i : ℕ)
        → slice_get (cond (is_kind x.view.kind) (k ∷ numbers_from is_kind (k + 1) nodes) (numbers_from is_kind (k + 1) nodes)) i ≡ Some m
        → ((j : ℕ) → slice_get (numbers_from is_kind (k + 1) nodes) j ≡ Some m → IsNumber is_kind (k + 1) nodes m)
        → IsNumber is_kind k (x ∷ nodes) m
    by_test true h zero e far =
        let f = ap (λ b. slice_get (cond b (k ∷ numbers_from is_kind (k + 1) nodes) (numbers_from is_kind (k + 1) nodes)) 0) (sym h) ∙ e in
        let same : k ≡ m = cc in
        record { own = 0; is = omega (arith, same); of = record { node = x; is = refl; kind = h } }
    by_test true h (suc i) e far =
        later (far i (ap (λ b. slice_get (cond b (k ∷ numbers_from is_kind (k + 1) nodes) (numbers_from is_kind (k + 1) nodes)) (suc i)) (sym h) ∙ e))
    by_test false h i e far =
        later (far i (ap (λ b. slice_get (cond b (k ∷ numbers_from is_kind (k + 1) nodes) (numbers_from is_kind (k + 1) nodes)) i) (sym h) ∙ e))

-- such a node has a place among them
pub record HasPlace (numbers : List ℕ) (n : ℕ) : Type 0 where
  pub place : ℕ
  pub is : slice_get numbers place ≡ Some n

pub place_in : (is_kind : Kind → Bool) (k : ℕ) (nodes : List Node) (n : ℕ) → IsOfKind is_kind nodes n → HasPlace (numbers_from is_kind k nodes) (k + n)
place_in is_kind k [] n of = let e = of.is in absurd (cc)
place_in is_kind k (x ∷ nodes) zero of =
    let e = of.is in
    let same : x ≡ of.node = cc in
    let h : is_kind x.view.kind ≡ true = ap (λ (y : Node). is_kind y.view.kind) same ∙ of.kind in
    let z : k ≡ k + 0 = omega arith in
    record {
      place = 0;
      is = ap (λ b. slice_get (cond b (k ∷ numbers_from is_kind (k + 1) nodes) (numbers_from is_kind (k + 1) nodes)) 0) h ∙ ap (λ j. Some j) z;
    }
place_in is_kind k (x ∷ nodes) (suc n) of =
    let r = place_in is_kind (k + 1) nodes n (record { node = of.node; is = of.is; kind = of.kind }) in
    by_test (is_kind x.view.kind) refl r
  where
    z : k + 1 + n ≡ k + suc n
    z = omega arith

    by_test : (b : Bool) → is_kind x.view.kind ≡ b → HasPlace (numbers_from is_kind (k + 1) nodes) (k + 1 + n)
        → HasPlace (cond (is_kind x.view.kind) (k ∷ numbers_from is_kind (k + 1) nodes) (numbers_from is_kind (k + 1) nodes)) (k + suc n)
    by_test true h r = record {
      place = suc r.place;
      is =
          ap (λ b. slice_get (cond b (k ∷ numbers_from is_kind (k + 1) nodes) (numbers_from is_kind (k + 1) nodes)) (suc r.place)) h
          ∙ r.is ∙ ap (λ j. Some j) z;
    }
    by_test false h r = record {
      place = r.place;
      is =
          ap (λ b. slice_get (cond b (k ∷ numbers_from is_kind (k + 1) nodes) (numbers_from is_kind (k + 1) nodes)) r.place) h
          ∙ r.is ∙ ap (λ j. Some j) z;
    }

-- ---- the place of a number in a list

-- the first place of a number that stands first
first_is : (m x : ℕ) (xs : List ℕ) → nat_eq m x ≡ true → position_or_len (nat_eq m) (x ∷ xs) ≡ 0
first_is m x xs h = ap (λ b. cond (not b) (1 + position_or_len (nat_eq m) xs) 0) h

first_not : (m x : ℕ) (xs : List ℕ) → nat_eq m x ≡ false → position_or_len (nat_eq m) (x ∷ xs) ≡ 1 + position_or_len (nat_eq m) xs
first_not m x xs h = ap (λ b. cond (not b) (1 + position_or_len (nat_eq m) xs) 0) h

-- numbers rise
pub first_place : (is_kind : Kind → Bool) (k : ℕ) (nodes : List Node) (i m : ℕ) (more : List ℕ) → slice_get (numbers_from is_kind k nodes) i ≡ Some m
    → position_or_len (nat_eq m) (numbers_from is_kind k nodes ++ more) ≡ i
first_place is_kind k [] i m more e = absurd (cc)
first_place is_kind k (x ∷ nodes) i m more e =
    by_test (numbers_from is_kind (k + 1) nodes) (is_kind x.view.kind) refl i e
    (λ j f. first_place is_kind (k + 1) nodes j m more f)
    (λ j f. let n = number_is is_kind (k + 1) nodes j m f in let far = n.is in omega (arith, far))
  where
    by_test : (rest : List ℕ) (b : Bool) → is_kind x.view.kind ≡ b → (i : ℕ) → slice_get (cond (is_kind x.view.kind) (k ∷ rest) rest) i ≡ Some m
        → ((j : ℕ) → slice_get rest j ≡ Some m → position_or_len (nat_eq m) (rest ++ more) ≡ j)
        → ((j : ℕ) → slice_get rest j ≡ Some m → k < m)
        → position_or_len (nat_eq m) (cond (is_kind x.view.kind) (k ∷ rest) rest ++ more) ≡ i
    by_test rest true h zero e far low =
        let f = ap (λ b. slice_get (cond b (k ∷ rest) rest) 0) (sym h) ∙ e in
        let same : k ≡ m = cc in
        let yes : nat_eq m k ≡ true = grind (arith, nat_tests, same) in
        ap (λ b. position_or_len (nat_eq m) (cond b (k ∷ rest) rest ++ more)) h ∙ first_is m k (rest ++ more) yes
    by_test rest true h (suc i) e far low =
        let f : slice_get rest i ≡ Some m = ap (λ b. slice_get (cond b (k ∷ rest) rest) (suc i)) (sym h) ∙ e in
        let lt = low i f in
        let no : nat_eq m k ≡ false = grind (arith, nat_tests, lt) in
        let r = far i f in
        ap (λ b. position_or_len (nat_eq m) (cond b (k ∷ rest) rest ++ more)) h ∙ first_not m k (rest ++ more) no ∙ (omega (arith, r))
    by_test rest false h i e far low =
        ap (λ b. position_or_len (nat_eq m) (cond b (k ∷ rest) rest ++ more)) h
        ∙ far i (ap (λ b. slice_get (cond b (k ∷ rest) rest) i) (sym h) ∙ e)

-- a number that isn't among the first ones
behind_others : (m : ℕ) (xs ys : List ℕ) → ((i x : ℕ) → slice_get xs i ≡ Some x → nat_eq m x ≡ false)
    → position_or_len (nat_eq m) (xs ++ ys) ≡ length xs + position_or_len (nat_eq m) ys
behind_others m [] ys h = omega arith
behind_others m (x ∷ xs) ys h =
    let r = behind_others m xs ys (λ i y e. h (suc i) y e) in
    first_not m x (xs ++ ys) (h 0 x refl) ∙ (omega (arith, r))

place_is : (m : ℕ) (xs : List ℕ) (i : ℕ) → position_or_len (nat_eq m) xs ≡ i → i < length xs → place_of m xs ≡ i
place_is m xs i e lt =
    let p = position_or_len (nat_eq m) xs in
    let yes : ltb p (length xs) ≡ true = lt-ltb p (length xs) (subst (λ j. j < length xs) (sym e) lt) in
    ap (λ b. unwrap_or (cond b (Some p) None) 0) yes ∙ e

not_both : (kind : Kind) → is_input kind ≡ true → is_output kind ≡ true → ⊥
not_both K.Input h k = false≢true k
not_both K.Output h k = false≢true h
not_both _ h k = false≢true h

pub input_place : (nodes : List Node) (i n : ℕ) → slice_get (inputs_of nodes) i ≡ Some n → place_of n (streams_of nodes) ≡ i
input_place nodes i n e =
    place_is n (streams_of nodes) i (first_place is_input 0 nodes i n (outputs_of nodes) e)
    (within (streams_of nodes) i n (at_left (inputs_of nodes) (outputs_of nodes) i n e))

pub output_place : (nodes : List Node) (i n : ℕ) → slice_get (outputs_of nodes) i ≡ Some n → place_of n (streams_of nodes) ≡ length (inputs_of nodes) + i
output_place nodes i n e =
    let out = number_is is_output 0 nodes i n e in
    let far : n ≡ out.own = (let x = out.is in omega (arith, x)) in
    let others = behind_others n (inputs_of nodes) (outputs_of nodes) (λ j x f.
    let inn = number_is is_input 0 nodes j x f in
    let near : x ≡ inn.own = (let y = inn.is in omega (arith, y)) in
    apart x inn.of.node inn.of.kind (ap (λ k. slice_get nodes k) near ∙ inn.of.is) out.of.node out.of.kind (ap (λ k. slice_get nodes k) far ∙ out.of.is)) in
    let own : position_or_len (nat_eq n) (outputs_of nodes) ≡ i = no_more (first_place is_output 0 nodes i n [] e) in
    place_is n (streams_of nodes) (length (inputs_of nodes) + i) (others ∙ (omega (arith, own)))
    (within (streams_of nodes) (length (inputs_of nodes) + i) n (at_behind (inputs_of nodes) (outputs_of nodes) (length (inputs_of nodes)) i n refl e))
  where
    apart : (x : ℕ) (a : Node) → is_input a.view.kind ≡ true → slice_get nodes x ≡ Some a → (b : Node) → is_output b.view.kind ≡ true → slice_get nodes n ≡ Some b
        → nat_eq n x ≡ false
    apart x a ka ea b kb eb = by_test (nat_eq n x) refl
      where
        by_test : (t : Bool) → nat_eq n x ≡ t → nat_eq n x ≡ false
        by_test true h =
            let same : n ≡ x = grind (arith, nat_tests, h) in
            let one : a ≡ b = same_item nodes n a b (ap (λ k. slice_get nodes k) same ∙ ea) eb in
            absurd (not_both b.view.kind (ap (λ (y : Node). is_input y.view.kind) (sym one) ∙ ka) kb)
        by_test false h = h

    no_more : position_or_len (nat_eq n) (outputs_of nodes ++ []) ≡ i → position_or_len (nat_eq n) (outputs_of nodes) ≡ i
    no_more h = ap (λ l. position_or_len (nat_eq n) l) (none_behind (outputs_of nodes)) ∙ h
      where
        none_behind : (xs : List ℕ) → xs ≡ xs ++ []
        none_behind [] = refl
        none_behind (x ∷ xs) = ap (λ l. x ∷ l) (none_behind xs)
