-- The module is formed: its names are names, and its numbers are in range.
use Rattle.std.proofs.Common.{◌≡◌, ℕ, ◌+◌, ◌-◌, ◌<◌, ◌≤◌, ◌^◌, ◌∷◌, [], List, length, Bool, true, false, ◌&&◌, ltb, refl, sym, ap, subst, ◌∙◌, arith}
use Rattle.std.specs.Prelude.{codes, Option, Some, None, slice_get}
use Rattle.std.proofs.lemmas.Bool.{ltb-true, lt-ltb}
use Rattle.rtl_ir.specs.declared.design.Port.{Port}
use Rattle.rtl_ir.specs.declared.design.Module.{Module}
use Rattle.rtl_ir.specs.declared.design.Assign.{Assign}
use Rattle.rtl_ir.specs.Names.{is_name}
use Rattle.rtl_ir.specs.Operands.{reads, mem_read, bit_numbers}
use Rattle.rtl_ir.specs.Formed.{IsFormedNet, IsFormedMem, IsFormedPort, IsFormedAssign, IsFormedUpdate, IsFormedModule}
use Rattle.link_fifo.specs.declared.numbers.Numbers.{Numbers}
use Rattle.link_fifo.specs.Netlist.{wires_from, wire_widths, the_ports, the_nets, the_mems, the_assigns, the_updates, fifo_of}
use Rattle.link_fifo.proofs.Items.{Each, each_at, and_true, holds_all, holds_at, all_of, all_at}
use Rattle.link_fifo.proofs.Names.{wire_named}

-- a width that a net may have
abbrev IsWide : ℕ → ℕ → Type 0
IsWide k w = (1 ≤ w) × (w ≤ 128)

net : (name : List ℕ) (w : ℕ) (kept : Bool) → is_name name ≡ true → IsWide 0 w → IsFormedNet (record { name = name; width = w; reg = kept })
net name w kept named wide = record { name = named; some = wide.0; at_most = wide.1 }

wires_formed : (n j : ℕ) (ws : List ℕ) → n + length ws ≤ 2 ^ 32 → Each IsWide j ws → Each (λ k. IsFormedNet) n (wires_from n ws)
wires_formed n j [] few h = tt
wires_formed n j (w ∷ ws) few h = (
  record { name = wire_named n (omega arith); some = h.0.0; at_most = h.0.1 },
  wires_formed (n + 1) (j + 1) ws (omega arith) h.1,
)

widths_wide : (p q : ℕ) → 1 ≤ p → p ≤ q → q ≤ 17 → Each IsWide 0 (wire_widths p q)
widths_wide p q some order few =
    let bit : IsWide 0 1 = (omega arith, omega arith) in
    let places : IsWide 0 p = (some, omega arith) in
    let counts : IsWide 0 q = (omega arith, omega arith) in
    let before : IsWide 0 (q + 1 - p) = (omega arith, omega arith) in
    let sums : IsWide 0 (q + 1) = (omega arith, omega arith) in (
      counts,
      (
        bit,
        (
          counts,
          (
            bit,
            (
              bit,
              (
                bit,
                (
                  places,
                  (
                    bit,
                    (
                      places,
                      (
                        places,
                        (
                          places,
                          (
                            places,
                            (
                              places,
                              (
                                places,
                                (
                                  counts,
                                  (
                                    counts,
                                    (
                                      counts,
                                      (
                                        counts,
                                        (
                                          counts,
                                          (
                                            counts,
                                            (
                                              counts,
                                              (
                                                bit,
                                                (
                                                  before,
                                                  (
                                                    bit,
                                                    (
                                                      sums,
                                                      (
                                                        sums,
                                                        (
                                                          sums,
                                                          (
                                                            sums,
                                                            (
                                                              bit,
                                                              (
                                                                places,
                                                                (
                                                                  places,
                                                                  (
                                                                    places,
                                                                    (
                                                                      places,
                                                                      tt,
                                                                    ),
                                                                  ),
                                                                ),
                                                              ),
                                                            ),
                                                          ),
                                                        ),
                                                      ),
                                                    ),
                                                  ),
                                                ),
                                              ),
                                            ),
                                          ),
                                        ),
                                      ),
                                    ),
                                  ),
                                ),
                              ),
                            ),
                          ),
                        ),
                      ),
                    ),
                  ),
                ),
              ),
            ),
          ),
        ),
      ),
    )

nets_formed : (w p q : ℕ) → 1 ≤ w → w ≤ 128 → 1 ≤ p → p ≤ q → q ≤ 17 → Each (λ k. IsFormedNet) 0 (the_nets w p q)
nets_formed w p q some narrow some_places order few =
    let bit : IsWide 0 1 = (omega arith, omega arith) in
    let word : IsWide 0 w = (some, narrow) in (
      net (codes "clk") 1 false refl bit,
      (
        net (codes "reset") 1 false refl bit,
        (
          net (codes "in$data") w false refl word,
          (
            net (codes "in$valid") 1 false refl bit,
            (
              net (codes "in$ready") 1 false refl bit,
              (
                net (codes "out$data") w false refl word,
                (
                  net (codes "out$valid") 1 false refl bit,
                  (
                    net (codes "out$ready") 1 false refl bit,
                    (
                      net (codes "r8") p true refl (some_places, omega arith),
                      (
                        net (codes "r9") q true refl (omega arith, omega arith),
                        wires_formed 10 0 (wire_widths p q) (omega arith) (widths_wide p q some_places order few),
                      ),
                    ),
                  ),
                ),
              ),
            ),
          ),
        ),
      ),
    )

-- the ports' nets are their numbers
pub ports_numbered : Each (λ k (p : Port). p.net ≡ k) 0 the_ports
ports_numbered = (refl, (refl, (refl, (refl, (refl, (refl, (refl, (refl, tt))))))))

ports_formed : (name : List ℕ) (w e p q : ℕ) (n : Numbers) → Each (λ k. IsFormedPort (fifo_of name w e p q n)) 0 the_ports
ports_formed name w e p q n = (
  record { net = omega arith; wire = refl },
  (
    record { net = omega arith; wire = refl },
    (
      record { net = omega arith; wire = refl },
      (
        record { net = omega arith; wire = refl },
        (
          record { net = omega arith; wire = refl },
          (
            record { net = omega arith; wire = refl },
            (
              record { net = omega arith; wire = refl },
              (record { net = omega arith; wire = refl }, tt),
            ),
          ),
        ),
      ),
    ),
  ),
)

abbrev first_mem : Option ℕ → Bool
first_mem None = true
first_mem (Some k) = ltb k 1

first_is : (k : Option ℕ) → first_mem k ≡ true → (j : ℕ) → k ≡ Some j → j < 1
first_is None h j e = absurd (cc)
first_is (Some k) h j e = let same : k ≡ j = cc in subst (λ x. x < 1) same (ltb-true k 1 h)

abbrev in_range : ℕ → Assign → Bool
in_range k a =
    ltb a.target 43
    && (all_of (λ x. ltb x 43) (reads a.expr) && (first_mem (mem_read a.expr) && all_of (λ x. ltb x 129) (bit_numbers a.expr)))

all_in_range : (p : ℕ) (n : Numbers) → p ≤ 128 → holds_all in_range 0 (the_assigns p n) ≡ true
all_in_range p n small = ap (λ b. (b && true) && true) (lt-ltb (p - 1) 129 (omega arith))

assign_formed : (name : List ℕ) (w e p q : ℕ) (n : Numbers) (k : ℕ) (a : Assign) → in_range k a ≡ true → IsFormedAssign (fifo_of name w e p q n) a
assign_formed name w e p q n k a h =
    let numbers = all_of (λ x. ltb x 129) (bit_numbers a.expr) in
    let first = and_true (ltb a.target 43) (all_of (λ x. ltb x 43) (reads a.expr) && (first_mem (mem_read a.expr) && numbers)) h in
    let second = and_true (all_of (λ x. ltb x 43) (reads a.expr)) (first_mem (mem_read a.expr) && numbers) first.1 in
    let third = and_true (first_mem (mem_read a.expr)) numbers second.1 in
    record {
      target = ltb-true a.target 43 first.0;
      expr = record {
        nets = λ x r. ltb-true x 43 (all_at (λ y. ltb y 43) (reads a.expr) second.0 r.0 x r.1);
        mem = λ x same. first_is (mem_read a.expr) third.0 x same;
        numbers = λ i x same.
            let below : x < 129 = ltb-true x 129 (all_at (λ y. ltb y 129) (bit_numbers a.expr) third.1 i x same) in
            omega arith;
      };
    }

updates_formed : (name : List ℕ) (w e p q : ℕ) (n : Numbers) → Each (λ k. IsFormedUpdate (fifo_of name w e p q n)) 0 the_updates
updates_formed name w e p q n = (
  record { enable = omega arith; value = omega arith; net = omega arith; mem = λ k h. absurd (cc) },
  (
    record { enable = omega arith; value = omega arith; net = omega arith; mem = λ k h. absurd (cc) },
    (record { enable = omega arith; value = omega arith; net = omega arith; mem = first_is (Some 0) refl }, tt),
  ),
)

pub formed :
    (earlier : List Module) (name : List ℕ) (w e p q : ℕ) (n : Numbers)
    → is_name name ≡ true
    → 1 ≤ w
    → w ≤ 128
    → 2 ≤ e
    → e ≤ 65536
    → 1 ≤ p
    → p ≤ q
    → q ≤ 17
    → IsFormedModule earlier (fifo_of name w e p q n)
formed earlier name w e p q n named some narrow least most some_places order few = record {
  name = named;
  nets = each_at (λ k. IsFormedNet) (the_nets w p q) (nets_formed w p q some narrow some_places order few);
  mems =
      each_at (λ k. IsFormedMem) (the_mems w e)
      (record { name = refl; some = some; at_most = narrow; words = omega arith; words_at_most = omega arith }, tt);
  ports = each_at (λ k. IsFormedPort (fifo_of name w e p q n)) the_ports (ports_formed name w e p q n);
  apart = λ j k x y ex ey same. sym (number j x ex) ∙ same ∙ number k y ey;
  assigns = λ k a h. assign_formed name w e p q n k a (holds_at in_range (the_assigns p n) (all_in_range p n (omega arith)) k a h);
  updates = each_at (λ k. IsFormedUpdate (fifo_of name w e p q n)) the_updates (updates_formed name w e p q n);
  instances = λ k x h. absurd (cc);
  clock = refl;
  reset = refl;
}
  where
    number : (j : ℕ) (x : Port) → slice_get the_ports j ≡ Some x → x.net ≡ j
    number = each_at (λ k (x : Port). x.net ≡ k) the_ports ports_numbered
