-- Rows say the same calls when names and operands are added.
use Rattle.std.proofs.Common.{◌≡◌, ℕ, zero, suc, ◌+◌, ◌≤◌, List, [], ◌∷◌, ◌++◌, refl, ap, sym, arith, take, drop, length, subst, length-append}
use Rattle.std.specs.Prelude.{Bool, true, false, nat_le, ◌&&◌}
use Rattle.std.proofs.lemmas.Bool.Decides.{nat_tests}
use Rattle.kernel_calls.specs.declared.call.Call.TheVariants as C
use Rattle.kernel_calls.specs.Calls.{nodes_of, count_of}
use Rattle.stream_graph.specs.declared.row.Piece.{Piece}
use Rattle.stream_graph.specs.declared.row.Row.{Row}
use Rattle.stream_graph.specs.declared.row.Row.TheVariants as R
use Rattle.stream_graph.specs.Graphs.{call_by, calls_by, ends_by, is_within, IsWithin, AreWithin, nodes_by, nodes_in}

at_most : (n m : ℕ) → nat_le n m ≡ true → n ≤ m
at_most n m e = grind (arith, nat_tests)

left_of : (a b : Bool) → (a && b) ≡ true → a ≡ true
left_of true b e = refl
left_of false b e = e

right_of : (a b : Bool) → (a && b) ≡ true → b ≡ true
right_of true b e = e
right_of false b e = absurd (cc)

both : (a b : Bool) → a ≡ true → b ≡ true → (a && b) ≡ true
both true b p q = q
both false b p q = absurd (cc)

taken_front : (n : ℕ) (xs ys : List ℕ) → n ≤ length xs → take n (xs ++ ys) ≡ take n xs
taken_front zero xs ys h = refl
taken_front (suc n) [] ys h = absurd (omega arith)
taken_front (suc n) (x ∷ xs) ys h = ap (λ l. x ∷ l) (taken_front n xs ys (omega arith))

pub piece_kept : (from len : ℕ) (xs ys : List ℕ) → from + len ≤ length xs →
    take len (drop from (xs ++ ys)) ≡ take len (drop from xs)
piece_kept zero len xs ys h = taken_front len xs ys (omega arith)
piece_kept (suc from) len [] ys h = absurd (omega arith)
piece_kept (suc from) len (x ∷ xs) ys h = piece_kept from len xs ys (omega arith)

whole : (ys : List ℕ) → take (length ys) ys ≡ ys
whole [] = refl
whole (y ∷ ys) = ap (λ l. y ∷ l) (whole ys)

pub piece_new : (xs ys : List ℕ) → take (length ys) (drop (length xs) (xs ++ ys)) ≡ ys
piece_new [] ys = whole ys
piece_new (x ∷ xs) ys = piece_new xs ys

call_kept : (bytes more operands others : List ℕ) (row : Row) → IsWithin (length bytes) (length operands) row →
    call_by (bytes ++ more) (operands ++ others) row ≡ call_by bytes operands row
call_kept bytes more operands others (R.Input name t control) h = ap (λ n. C.Input n t control)
    (piece_kept name.from name.len bytes more (at_most _ _ h))
call_kept bytes more operands others (R.Output name value control t) h = ap (λ n. C.Output n value control t)
    (piece_kept name.from name.len bytes more (at_most _ _ h))
call_kept bytes more operands others (R.Scalar name t) h = ap (λ n. C.Scalar n t)
    (piece_kept name.from name.len bytes more (at_most _ _ h))
call_kept bytes more operands others (R.Operation op mode amount args t) h = ap
    (λ n. C.Operation op mode amount n t) (piece_kept args.from args.len operands others (at_most _ _ h))
call_kept bytes more operands others _ h = refl

-- the calls so far stay, and the new row's call stands behind them
pub calls_more : (bytes more operands others : List ℕ) (rows : List Row) (row : Row) →
    AreWithin (length bytes) (length operands) rows →
    calls_by (bytes ++ more) (operands ++ others) (rows ++ row ∷ []) ≡ calls_by bytes operands rows ++ call_by
    (bytes ++ more) (operands ++ others) row ∷ []
calls_more bytes more operands others [] row h = refl
calls_more bytes more operands others (r ∷ rs) row h =
    let a = call_kept bytes more operands others r (left_of (is_within (length bytes) (length operands) r) _ h) in
    let b = calls_more bytes more operands others rs row
    (right_of (is_within (length bytes) (length operands) r) _ h) in
    cc

ends_more : (a b : ℕ) (p : Piece) → ends_by a p ≡ true → a ≤ b → ends_by b p ≡ true
ends_more a b p h l = let m = at_most (p.from + p.len) a h in grind (arith, nat_tests)

pub within_more : (a b c d : ℕ) (row : Row) → a ≤ b → c ≤ d → IsWithin a c row → IsWithin b d row
within_more a b c d (R.Input name t control) l m h = ends_more a b name h l
within_more a b c d (R.Output name value control t) l m h = ends_more a b name h l
within_more a b c d (R.Scalar name t) l m h = ends_more a b name h l
within_more a b c d (R.Operation op mode amount args t) l m h = ends_more c d args h m
within_more a b c d _ l m h = refl

pub all_within : (a b c d : ℕ) (rows : List Row) → a ≤ b → c ≤ d → AreWithin a c rows → AreWithin b d rows
all_within a b c d [] l m h = refl
all_within a b c d (row ∷ rows) l m h =
    both (is_within b d row) _ (within_more a b c d row l m (left_of (is_within a c row) _ h))
    (all_within a b c d rows l m (right_of (is_within a c row) _ h))

pub and_one : (a c : ℕ) (rows : List Row) (row : Row) → AreWithin a c rows → IsWithin a c row →
    AreWithin a c (rows ++ row ∷ [])
and_one a c [] row h r = both (is_within a c row) true r refl
and_one a c (x ∷ xs) row h r = both (is_within a c x) _ (left_of (is_within a c x) _ h)
    (and_one a c xs row (right_of (is_within a c x) _ h) r)

pub grown : (xs ys zs : List ℕ) → zs ≡ xs ++ ys → length xs ≤ length zs
grown xs ys zs e = subst (λ l. length xs ≤ length l) (sym e) (let n = length-append xs ys in omega arith)

pub nodes_more : (rows : List Row) (row : Row) → nodes_in (rows ++ row ∷ []) ≡ nodes_in rows + nodes_by row
nodes_more [] row = refl
nodes_more (r ∷ rs) row = let e = nodes_more rs row in omega arith

nodes_same : (bytes operands : List ℕ) (row : Row) → nodes_of (call_by bytes operands row) ≡ nodes_by row
nodes_same bytes operands (R.Feed t) = refl
nodes_same bytes operands _ = refl

-- rows make as many nodes as their calls
pub count_same : (bytes operands : List ℕ) (rows : List Row) →
    count_of (calls_by bytes operands rows) ≡ nodes_in rows
count_same bytes operands [] = refl
count_same bytes operands (row ∷ rows) = let e = count_same bytes operands rows in let n = nodes_same bytes operands
    row in omega arith
