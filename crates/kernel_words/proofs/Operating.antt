-- The words of operations, from those of their operands.
use Rattle.std.proofs.Common.{◌≡◌, ◌∙◌, ℕ, zero, suc, ◌+◌, ◌-◌, ◌≤◌, ◌<◌, List, [], ◌∷◌, map, length, get_or, drop, Option, Some, None, refl, ap, sym, arith, inl, inr, ◌⊎◌}
use Rattle.std.specs.Prelude.{option_and_then}
use Rattle.mx_bits.specs.declared.op.Op.{Op}
use Rattle.mx_bits.specs.declared.op.Op.TheVariants.{Add, Sub, Mul, Div, Neg, And, Or, Xor, Not, Shl, Shr, Eq, Ne, Lt, Le, Gt, Ge, Mux, Cast, Round}
use Rattle.fix_arith.specs.declared.types.StreamType.{StreamType}
use Rattle.fix_arith.specs.declared.types.RoundMode.{RoundMode}
use Rattle.fix_arith.specs.Table.{applied, GivesType}
use Rattle.stream_equations.specs.Equations.{all_defined, chosen, operated}

module _ (mode : RoundMode) (types : List StreamType) (ws : List (Option ℕ)) (amount : ℕ) (out : StreamType) where
  pub other_op : (op : Op) → (op ≡ Mux → ⊥)
      → option_and_then (λ xs. applied op mode types xs amount out) (all_defined ws) ≡ operated op mode types ws amount out
  other_op Add h = refl
  other_op Sub h = refl
  other_op Mul h = refl
  other_op Div h = refl
  other_op Neg h = refl
  other_op And h = refl
  other_op Or h = refl
  other_op Xor h = refl
  other_op Not h = refl
  other_op Shl h = refl
  other_op Shr h = refl
  other_op Eq h = refl
  other_op Ne h = refl
  other_op Lt h = refl
  other_op Le h = refl
  other_op Gt h = refl
  other_op Ge h = refl
  other_op Mux h = absurd (h refl)
  other_op Cast h = refl
  other_op Round h = refl

-- one operand or two
pub arity : (op : Op) (types : List StreamType) (amount : ℕ) (out : StreamType) → (op ≡ Mux → ⊥) → GivesType op types amount out
    → (length types ≡ 1) ⊎ (length types ≡ 2)
arity Add types amount out h g = inr g.0
arity Sub types amount out h g = inr g.0
arity Mul types amount out h g = inr g.0
arity Div types amount out h g = inr g.0
arity Neg types amount out h g = inl g.0
arity And types amount out h g = inr g.0
arity Or types amount out h g = inr g.0
arity Xor types amount out h g = inr g.0
arity Not types amount out h g = inl g.0
arity Shl types amount out h g = inl g.0
arity Shr types amount out h g = inl g.0
arity Eq types amount out h g = inr g.0
arity Ne types amount out h g = inr g.0
arity Lt types amount out h g = inr g.0
arity Le types amount out h g = inr g.0
arity Gt types amount out h g = inr g.0
arity Ge types amount out h g = inr g.0
arity Mux types amount out h g = absurd (h refl)
arity Cast types amount out h g = inl g.0
arity Round types amount out h g = inl g.0

pub one_item : {X : Type 0} (xs : List X) (d : X) → length xs ≡ 1 → xs ≡ get_or xs 0 d ∷ []
one_item [] d e = absurd (omega (arith, e))
one_item (x ∷ []) d e = refl
one_item (x ∷ y ∷ xs) d e = absurd (omega (arith, e))

pub two_items : {X : Type 0} (xs : List X) (d : X) → length xs ≡ 2 → xs ≡ get_or xs 0 d ∷ get_or xs 1 d ∷ []
two_items [] d e = absurd (omega (arith, e))
two_items (x ∷ []) d e = absurd (omega (arith, e))
two_items (x ∷ y ∷ []) d e = refl
two_items (x ∷ y ∷ z ∷ xs) d e = absurd (omega (arith, e))

-- ---- by the words of operands

module _ (val : ℕ → Option ℕ) (f : List ℕ → Option ℕ) where
  all : List ℕ → Option ℕ
  all xs = option_and_then f (all_defined (map val xs))

  pub first_none : (xs : List ℕ) → 0 < length xs → val (get_or xs 0 0) ≡ None → option_and_then f (all_defined (map val xs)) ≡ None
  first_none [] h e = absurd (omega (arith, h))
  first_none (x ∷ xs) h e = by_word (val x) e
    where
      by_word : (w : Option ℕ) → w ≡ None → option_and_then f (all_defined (w ∷ map val xs)) ≡ None
      by_word None q = refl
      by_word (Some y) q = absurd (cc)

  pub one_word : (xs : List ℕ) (x : ℕ) → length xs ≡ 1 → val (get_or xs 0 0) ≡ Some x
      → option_and_then f (all_defined (map val xs)) ≡ f (x ∷ [])
  one_word xs x h e =
      ap (λ ys. option_and_then f (all_defined (map val ys))) (one_item xs 0 h)
      ∙ ap (λ w. option_and_then f (all_defined (w ∷ []))) e

  pub second_none : (xs : List ℕ) (x : ℕ) → length xs ≡ 2 → val (get_or xs 0 0) ≡ Some x → val (get_or xs 1 0) ≡ None
      → option_and_then f (all_defined (map val xs)) ≡ None
  second_none xs x h e g =
      ap (λ ys. option_and_then f (all_defined (map val ys))) (two_items xs 0 h)
      ∙ ap (λ w. option_and_then f (all_defined (w ∷ val (get_or xs 1 0) ∷ []))) e
      ∙ ap (λ w. option_and_then f (all_defined (Some x ∷ w ∷ []))) g

  pub two_words : (xs : List ℕ) (x y : ℕ) → length xs ≡ 2 → val (get_or xs 0 0) ≡ Some x → val (get_or xs 1 0) ≡ Some y
      → option_and_then f (all_defined (map val xs)) ≡ f (x ∷ y ∷ [])
  two_words xs x y h e g =
      ap (λ ys. option_and_then f (all_defined (map val ys))) (two_items xs 0 h)
      ∙ ap (λ w. option_and_then f (all_defined (w ∷ val (get_or xs 1 0) ∷ []))) e
      ∙ ap (λ w. option_and_then f (all_defined (Some x ∷ w ∷ []))) g

-- ---- multiplexers

abbrev mux_of : (ℕ → Option ℕ) → List ℕ → Option ℕ
mux_of val xs = option_and_then (chosen (drop 1 (map val xs))) (get_or (map val xs) 0 None)

module _ (val : ℕ → Option ℕ) where
  pub no_selector : (xs : List ℕ) → 0 < length xs → val (get_or xs 0 0) ≡ None → mux_of val xs ≡ None
  no_selector [] h e = absurd (omega (arith, h))
  no_selector (x ∷ xs) h e = ap (option_and_then (chosen (map val xs))) e

  past : (xs : List ℕ) (s : ℕ) → length xs ≤ s → chosen (map val xs) s ≡ None
  past [] s h = refl
  past (x ∷ xs) zero h = absurd (omega (arith, h))
  past (x ∷ xs) (suc s) h = past xs s (omega (arith, h))

  option : (xs : List ℕ) (s : ℕ) → s < length xs → chosen (map val xs) s ≡ val (get_or xs s 0)
  option [] s h = absurd (omega (arith, h))
  option (x ∷ xs) zero h = refl
  option (x ∷ xs) (suc s) h = option xs s (omega (arith, h))

  pub no_option : (xs : List ℕ) (s : ℕ) → 0 < length xs → val (get_or xs 0 0) ≡ Some s → length xs - 1 ≤ s → mux_of val xs ≡ None
  no_option [] s h e l = absurd (omega (arith, h))
  no_option (x ∷ xs) s h e l = ap (option_and_then (chosen (map val xs))) e ∙ past xs s (omega (arith, l))

  pub an_option : (xs : List ℕ) (s i : ℕ) → val (get_or xs 0 0) ≡ Some s → s < length xs - 1 → i ≡ s + 1
      → mux_of val xs ≡ val (get_or xs i 0)
  an_option [] s i e l q = absurd (omega (arith, l))
  an_option (x ∷ xs) s i e l q =
      let r : suc s ≡ i = omega (arith, q) in
      ap (option_and_then (chosen (map val xs))) e ∙ option xs s (omega (arith, l)) ∙ ap (λ k. val (get_or (x ∷ xs) k 0)) r

mapped : {X : Type 0} (f : ℕ → X) (xs : List ℕ) → length (map f xs) ≡ length xs
mapped f [] = refl
mapped f (x ∷ xs) = let r = mapped f xs in omega (arith, r)

module _ (op : Op) (type_at : ℕ → StreamType) (xs : List ℕ) (amount : ℕ) (out : StreamType) where
  pub mux_some : GivesType Mux (map type_at xs) amount out → 0 < length xs
  mux_some g = let h = g.0 in let m = mapped type_at xs in omega (arith, h, m)

  module _ (other : op ≡ Mux → ⊥) (g : GivesType op (map type_at xs) amount out) where
    few_operands : (length xs ≡ 1) ⊎ (length xs ≡ 2)
    few_operands = by_count (arity op (map type_at xs) amount out other g)
      where
        by_count : (length (map type_at xs) ≡ 1) ⊎ (length (map type_at xs) ≡ 2) → (length xs ≡ 1) ⊎ (length xs ≡ 2)
        by_count (inl e) = inl (sym (mapped type_at xs) ∙ e)
        by_count (inr e) = inr (sym (mapped type_at xs) ∙ e)

    pub is_one : length xs < 2 → length xs ≡ 1
    is_one l = by_count few_operands
      where
        by_count : (length xs ≡ 1) ⊎ (length xs ≡ 2) → length xs ≡ 1
        by_count (inl e) = e
        by_count (inr e) = absurd (omega (arith, l, e))

    pub is_two : 2 ≤ length xs → length xs ≡ 2
    is_two l = by_count few_operands
      where
        by_count : (length xs ≡ 1) ⊎ (length xs ≡ 2) → length xs ≡ 2
        by_count (inl e) = absurd (omega (arith, l, e))
        by_count (inr e) = e
