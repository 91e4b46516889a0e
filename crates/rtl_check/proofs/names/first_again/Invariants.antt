use Rattle.std.proofs.Common.{Bor, ◌≡◌, ◌<◌, ℕ, List, map, take, nat_eq}
use Rattle.std.specs.List.{list_any}
use Rattle.std.specs.Cmp.Lexicographic.{pointwise}
use Rattle.std.specs.HashSet as bag
use Rattle.rtl_ir.specs.Faults.{IsAgain}
use Rattle.rtl_check.proofs.names.first_again.Given as goal

abbrev pub invariant-loop-place : goal.invariant-loop-place
invariant-loop-place l = record {
  seen : (q : Bor (List ℕ)) → bag.contains (λ x y. pointwise nat_eq x.now y.now) l.seen q ≡ list_any (λ x. pointwise nat_eq q.now x.now) (take l.place l.names);
  none : (k : ℕ) → k < l.place → IsAgain (map (λ name. name.now) l.names) k → ⊥;
}
