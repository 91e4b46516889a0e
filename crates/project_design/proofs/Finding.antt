-- The place of a node is found.
use Rattle.std.proofs.Common.{◌≡◌, ℕ, ◌<◌, ◌≤◌, Bool, true, false, cond, List, length, get_or, refl, sym, ap, ◌∙◌, arith}
use Rattle.std.specs.Prelude.{Option, Some, None, nat_eq, nat_lt, unwrap_or}
use Rattle.std.specs.List.{position_or_len}
use Rattle.std.proofs.lemmas.Bool.Decides.{nat_tests}
use Rattle.std.proofs.lemmas.Grind.{get_or_default_zero}
use Rattle.std.proofs.lemmas.List.Sums.{position_or_len_is}
use Rattle.project_rtl.specs.Blocks.{place_of}

abbrev read : List ℕ → ℕ → ℕ
read ns j = unwrap_or (cond (nat_lt j (length ns)) (Some j) None) 0

pub found_at : (ns : List ℕ) (n i : ℕ) → i < length ns → ((k d : ℕ) → k < i → nat_eq n (get_or ns k d) ≡ false)
    → nat_eq n (get_or ns i 0) ≡ true → place_of n ns ≡ i
found_at ns n i lt before here =
    let is = position_or_len_is (nat_eq n) ns i 0 (omega arith) (λ k lt. before k 0 lt) (λ lt. here) in
    let inside : nat_lt i (length ns) ≡ true = grind (arith, nat_tests) in
    ap (read ns) is ∙ ap (λ b. unwrap_or (cond b (Some i) None) 0) inside

pub not_found : (ns : List ℕ) (n i : ℕ) → length ns ≤ i → ((k d : ℕ) → k < i → nat_eq n (get_or ns k d) ≡ false)
    → place_of n ns ≡ 0
not_found ns n i le none =
    let is = position_or_len_is (nat_eq n) ns (length ns) 0 (omega arith) (λ k lt. none k 0 (omega arith)) (λ lt. absurd (omega arith)) in
    let outside : nat_lt (length ns) (length ns) ≡ false = grind (arith, nat_tests) in
    ap (read ns) is ∙ ap (λ b. unwrap_or (cond b (Some (length ns)) None) 0) outside

-- the place at which it is read
pub found_here : (ns : List ℕ) (n i x : ℕ) → i < length ns → x ≡ get_or ns i x → x ≡ n
    → ((k d : ℕ) → k < i → nat_eq n (get_or ns k d) ≡ false) → i ≡ place_of n ns
found_here ns n i x lt is same before =
    let e : get_or ns i 0 ≡ n = sym (get_or_default_zero ns i x lt) ∙ sym is ∙ same in
    let self : nat_eq n n ≡ true = grind (arith, nat_tests) in
    sym (found_at ns n i lt before (ap (nat_eq n) e ∙ self))

-- it is within the list
pub place_within : (ns : List ℕ) (n : ℕ) → place_of n ns ≤ length ns
place_within ns n = by (nat_lt (position_or_len (nat_eq n) ns) (length ns)) refl
  where
    by : (b : Bool) → nat_lt (position_or_len (nat_eq n) ns) (length ns) ≡ b
        → unwrap_or (cond b (Some (position_or_len (nat_eq n) ns)) None) 0 ≤ length ns
    by true e = grind (arith, nat_tests, e)
    by false e = omega arith
