-- All that is said of the module.
use Rattle.std.proofs.Common.{◌≡◌, ℕ, ◌-◌, ◌<◌, ◌≤◌, ◌^◌, List, length, ⊎_elim, refl, arith}
use Rattle.std.specs.Prelude.{true}
use Rattle.std.proofs.lemmas.Bool.{cases_lt}
use Rattle.std.proofs.Math.Nat.{pow-le-pow_right}
use Rattle.rtl_ir.specs.declared.design.Port.{Port}
use Rattle.rtl_ir.specs.declared.design.Design.{Design}
use Rattle.rtl_ir.specs.Names.{is_name}
use Rattle.rtl_ir.specs.Rules.{IsSound}
use Rattle.link_fifo.specs.declared.numbers.Numbers.{Numbers}
use Rattle.link_fifo.specs.Numbers.{AreNumbers, IsLeast}
use Rattle.link_fifo.specs.Netlist.{the_ports, fifo_of}
use Rattle.link_fifo.specs.Storage.{StoresQueue}
use Rattle.link_fifo.specs.Fifo.{IsFifoModule}
use Rattle.link_fifo.proofs.Items.{each_at}
use Rattle.link_fifo.proofs.Runs.{is_fifo}
use Rattle.link_fifo.proofs.Names.{names_differ}
use Rattle.link_fifo.proofs.Driven.{driven, updated}
use Rattle.link_fifo.proofs.Levels.{widths, levelled}
use Rattle.link_fifo.proofs.Apart.{apart}
use Rattle.link_fifo.proofs.Formed.{ports_numbered, formed}
use Rattle.link_fifo.proofs.Short.{nets_short, mems_short}
use Rattle.link_fifo.proofs.TextNames.{nets_text, mems_text}

-- a number below another has no more bits
pub no_more : (p q a b : ℕ) → 2 ^ (p - 1) ≤ a → a < b → b < 2 ^ q → 1 ≤ p → p ≤ q
no_more p q a b h k l some =
    ⊎_elim
    (λ (lt : p - 1 < q). omega arith)
    (λ (ge : q ≤ p - 1). let e : 2 ^ q ≤ 2 ^ (p - 1) = pow-le-pow_right (omega arith) ge in absurd (omega arith))
    (cases_lt (p - 1) q)

sound : (d : Design) (name : List ℕ) (w e p q : ℕ) (n : Numbers) → 1 ≤ p → p ≤ q → AreNumbers e p q n → IsSound d (fifo_of name w e p q n)
sound d name w e p q n some order is = record {
  names = names_differ name w e p q n;
  driven = driven d name w e p q n;
  updated = updated name w e p q n;
  widths = widths d name w e p q n some order is;
  levelled = levelled d name w e p q n;
}

stored : (name : List ℕ) (w e p q : ℕ) (n : Numbers) → IsLeast p (e - 1) → IsLeast q e → StoresQueue (fifo_of name w e p q n) w e
stored name w e p q n place count = record { place_bits = p; place_least = place; count_bits = q; count_least = count; all = omega arith }

pub whole :
    (name : List ℕ) (w e p q : ℕ) (n : Numbers)
    → is_name name ≡ true → 1 ≤ w → w ≤ 128 → 2 ≤ e → e ≤ 65536 → 1 ≤ p → p ≤ q → q ≤ 17
    → IsLeast p (e - 1) → IsLeast q e → AreNumbers e p q n → IsFifoModule name w e (fifo_of name w e p q n)
whole name w e p q n named some narrow least most some_places order few place count is = record {
  named = refl;
  ports = refl;
  numbered = each_at (λ k (x : Port). x.net ≡ k) the_ports ports_numbered;
  no_instances = refl;
  runs = is_fifo name w e p q n is (record { positive = omega arith; some = some_places; places = omega (arith, place.holds); counts = count.holds });
  apart = λ d a b. apart d name w e p q n a b;
  stored = stored name w e p q n place count;
  sound = λ d. sound d name w e p q n some_places order is;
  formed = λ earlier. formed earlier name w e p q n named some narrow least most some_places order few;
  few = let l : length (fifo_of name w e p q n).nets ≡ 43 = refl in omega arith;
  few_mems = omega arith;
  short_nets = nets_short w p q;
  short_mems = mems_short w e;
  text_nets = nets_text w p q;
  text_mems = mems_text w e;
}
