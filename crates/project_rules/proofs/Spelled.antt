-- The names of the top module are names.
use Rattle.std.proofs.Common.{◌≡◌, ℕ, zero, suc, ◌+◌, ◌<◌, ◌^◌, Bool, true, false, not, ◌&&◌, ◌||◌, List, [], ◌∷◌, ◌++◌, drop, refl, ap, ◌∙◌, arith}
use Rattle.std.specs.Prelude.{codes, nat_eq, bytes_eq}
use Rattle.std.specs.List.{list_all}
use Rattle.std.specs.Fmt.{decimal}
use Rattle.std.proofs.lemmas.List.Folds.{list_all-append}
use Rattle.std.proofs.lemmas.Bool.Decides.{nat_tests}
use Rattle.std.proofs.lemmas.Bool.{false≢true}
use Rattle.rtl_ir.specs.Names.{is_digit, begins_name, continues_name, is_name, is_reserved}
use Rattle.rtl_build.specs.Wires.{wire_name}
use Rattle.rtl_delays.proofs.Spelled.{digits_are, digits_continue}
use Rattle.kernel_calls.specs.Laws.{is_port_name}
use Rattle.kernel_ports.proofs.Spelled.{plain_from, kernel_named}

pub and_true : (a b : Bool) → a && b ≡ true → (a ≡ true) × (b ≡ true)
and_true true b h = (refl, h)
and_true false b h = absurd (false≢true h)

-- digits are no letters
no_ire : (ds : List ℕ) → list_all is_digit ds ≡ true → bytes_eq ds (codes "ire") ≡ false
no_ire [] h = refl
no_ire (d ∷ ds) h =
    let digit = (and_true (is_digit d) (list_all is_digit ds) h).0 in
    let other : nat_eq d 105 ≡ false = grind (arith, nat_tests) in
    rw other refl

pub wire_spelled : (n : ℕ) → n < 2 ^ 64 → is_name (wire_name n) ≡ true
wire_spelled n h =
    let digits = digits_are n h in
    rw (digits_continue (decimal n) digits, no_ire (decimal n) digits) refl

-- ---- parts of names

abbrev pub Continues : List ℕ → Type 0
Continues x = list_all continues_name x ≡ true

pub both_continue : (x y : List ℕ) → Continues x → Continues y → Continues (x ++ y)
both_continue x y a b = list_all-append continues_name x y ∙ ap (λ c. c && list_all continues_name y) a ∙ b

pub drop_continues : (n : ℕ) (x : List ℕ) → Continues x → Continues (drop n x)
drop_continues zero x h = h
drop_continues (suc n) [] h = refl
drop_continues (suc n) (b ∷ x) h = drop_continues n x (and_true (continues_name b) (list_all continues_name x) h).1

pub name_continues : (x : List ℕ) → is_name x ≡ true → Continues x
name_continues [] h = refl
name_continues (b ∷ bs) h =
    let first = and_true (begins_name b && list_all continues_name bs) (not (is_reserved (b ∷ bs))) h in
    let second = and_true (begins_name b) (list_all continues_name bs) first.0 in
    any_begin (begins_name b) (is_digit b) (nat_eq b 36) second.0 (list_all continues_name bs) second.1
  where
    any_begin : (a c e : Bool) → a ≡ true → (r : Bool) → r ≡ true → (a || c || e) && r ≡ true
    any_begin true c e h r k = k
    any_begin false c e h r k = absurd (false≢true h)

pub hold_spelled : (x : List ℕ) → Continues x → is_name (codes "hold$" ++ x) ≡ true
hold_spelled x h = ap (λ b. b && true) h

pub ticks_spelled : (x : List ℕ) → Continues x → is_name (codes "ticks$" ++ x) ≡ true
ticks_spelled x h = ap (λ b. b && true) h

pub scalar_spelled : (x y : List ℕ) → Continues x → Continues y → is_name (codes "scalar$" ++ x ++ codes "$" ++ y) ≡ true
scalar_spelled x y h k = ap (λ b. b && true) (both_continue (x ++ codes "$") y (both_continue x (codes "$") h refl) k)

pub fifo_in_spelled : (x : List ℕ) → Continues x → is_name (codes "fifo$in$" ++ x) ≡ true
fifo_in_spelled x h = ap (λ b. b && true) h

pub fifo_out_spelled : (x : List ℕ) → Continues x → is_name (codes "fifo$out$" ++ x) ≡ true
fifo_out_spelled x h = ap (λ b. b && true) h

pub fifo_link_spelled : (x : List ℕ) → Continues x → is_name (codes "fifo$link$" ++ x) ≡ true
fifo_link_spelled x h = ap (λ b. b && true) h

pub kernel_spelled : (x : List ℕ) → Continues x → is_name (codes "kernel$" ++ x) ≡ true
kernel_spelled x h = ap (λ b. b && true) h

pub in_spelled : (x y : List ℕ) → Continues x → Continues y → is_name (codes "in$" ++ x ++ y) ≡ true
in_spelled x y h k = ap (λ b. b && true) (both_continue x y h k)

pub out_spelled : (x y : List ℕ) → Continues x → Continues y → is_name (codes "out$" ++ x ++ y) ≡ true
out_spelled x y h k = ap (λ b. b && true) (both_continue x y h k)

-- the name of a port of a kernel, or of a stream of the host
pub port_continues : (x : List ℕ) → is_port_name x ≡ true → Continues x
port_continues x h = drop_continues 7 (codes "kernel$" ++ x) (name_continues (codes "kernel$" ++ x) (kernel_named x (plain_from x h)))
