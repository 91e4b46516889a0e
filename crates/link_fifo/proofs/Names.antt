-- The names of the nets are names, and no two of them are the same.
use Rattle.std.proofs.Common.{◌≡◌, ℕ, ◌+◌, ◌%◌, ◌<◌, ◌≤◌, ◌^◌, ◌++◌, ◌∷◌, [], List, length, map, cond, eqb, refl, sym, ap, subst, ◌∙◌, arith}
use Rattle.std.specs.Prelude.{codes, Bool, true, false, ◌&&◌, ◌||◌, nat_eq, bytes_eq, Some, slice_get}
use Rattle.std.specs.List.{list_all}
use Rattle.std.specs.Fmt.{decimal}
use Rattle.std.specs.Str.Parse.{digits_value}
use Rattle.std.proofs.lemmas.Fmt.{decimal_by_steps, decimal_is_IsNumeral}
use Rattle.std.proofs.lemmas.List.Folds.{list_all-append}
use Rattle.std.proofs.lemmas.Bool.Decides.{nat_tests}
use Rattle.rtl_ir.specs.declared.design.Net.{Net}
use Rattle.rtl_ir.specs.Names.{is_digit, begins_name, continues_name, is_name}
use Rattle.rtl_ir.specs.Rules.{AllDiffer, names_of}
use Rattle.rtl_build.specs.Wires.{wire_name}
use Rattle.rtl_delays.proofs.Spelled.{digits_are, digits_continue}
use Rattle.link_fifo.specs.declared.numbers.Numbers.{Numbers}
use Rattle.link_fifo.specs.Netlist.{wires_from, wire_widths, fifo_of}
use Rattle.link_fifo.proofs.Items.{Each, each_at, and_true}

-- digits are no letters
no_ire : (ds : List ℕ) → list_all is_digit ds ≡ true → bytes_eq ds (codes "ire") ≡ false
no_ire [] h = refl
no_ire (d ∷ ds) h =
    let digit = (and_true (is_digit d) (list_all is_digit ds) h).0 in
    let other : nat_eq d 105 ≡ false = grind (arith, nat_tests) in
    rw other refl

pub wire_named : (n : ℕ) → n < 2 ^ 64 → is_name (wire_name n) ≡ true
wire_named n h =
    let digits = digits_are n h in
    rw (digits_continue (decimal n) digits, no_ire (decimal n) digits) refl

-- the last byte of a text that begins with this byte
abbrev last_byte : ℕ → List ℕ → ℕ
last_byte b [] = b
last_byte b (c ∷ cs) = last_byte c cs

-- the nets of a side are named by what they carry: `$data`, `$valid` and `$ready` have different last bytes
abbrev carried : ℕ → List ℕ → ℕ
carried b bs = cond (eqb (last_byte b bs) 97) 0 (cond (eqb (last_byte b bs) 100) 1 2)

-- reset, and the registers
abbrev of_r : List ℕ → ℕ
of_r [] = 1
of_r (b ∷ bs) = cond (eqb b 56) 8 (cond (eqb b 57) 9 1)

-- the net that a name is of, by the first byte, which is one of c, r, i, o, m and w; the name of a wire has its number
abbrev net_of : List ℕ → ℕ
net_of [] = 0
net_of (b ∷ bs) =
    cond (eqb b 99) 0
    (cond (eqb b 114) (of_r bs)
    (cond (eqb b 105) (2 + carried b bs)
    (cond (eqb b 111) (5 + carried b bs)
    (cond (eqb b 109) 43
    (digits_value 10 bs)))))

-- the name tells the number
abbrev Tells : ℕ → List ℕ → Type 0
Tells k name = net_of name ≡ k

wires_told :
    (n : ℕ) (ws : List ℕ) (rest : List (List ℕ))
    → n + length ws ≤ 2 ^ 32
    → Each Tells (n + length ws) rest
    → Each Tells n (map (λ (x : Net). x.name) (wires_from n ws) ++ rest)
wires_told n [] rest few h = let e : n + 0 ≡ n = omega arith in subst (λ k. Each Tells k rest) e h
wires_told n (w ∷ ws) rest few h =
    let value : digits_value 10 (decimal n) ≡ n = (decimal_is_IsNumeral n (omega arith)).1 in
    let e : n + length (w ∷ ws) ≡ n + 1 + length ws = omega arith in
    (value, wires_told (n + 1) ws rest (omega arith) (subst (λ k. Each Tells k rest) e h))

names_told : (name : List ℕ) (w d p q : ℕ) (k : Numbers) → Each Tells 0 (names_of (fifo_of name w d p q k))
names_told name w d p q k = (
  refl,
  (
    refl,
    (
      refl,
      (
        refl,
        (
          refl,
          (
            refl,
            (
              refl,
              (
                refl,
                (
                  refl,
                  (
                    refl,
                    wires_told 10 (wire_widths p q) (codes "m0" ∷ []) (omega arith) (refl, tt),
                  ),
                ),
              ),
            ),
          ),
        ),
      ),
    ),
  ),
)

pub names_differ : (name : List ℕ) (w d p q : ℕ) (k : Numbers) → AllDiffer (names_of (fifo_of name w d p q k))
names_differ name w d p q k i j text e f = sym (at i text e) ∙ at j text f
  where
    at : (n : ℕ) (text : List ℕ) → slice_get (names_of (fifo_of name w d p q k)) n ≡ Some text → net_of text ≡ n
    at = each_at Tells (names_of (fifo_of name w d p q k)) (names_told name w d p q k)
