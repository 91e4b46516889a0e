-- Nets are marked, from the last assignment to the first.
use Rattle.std.proofs.Common.{◌≡◌, ℕ, ◌+◌, ◌<◌, ◌⊎◌, inr, Bool, true, false, List, length, get_or, set, Some, sym, ap, ◌∙◌, subst, ⊎_elim, arith, get_or-set_other, get_or-set_same}
use Rattle.std.specs.Prelude.{slice_get}
use Rattle.std.proofs.lemmas.Bool.{cases_eq, cases_lt, false≢true}
use Rattle.std.proofs.lemmas.List.{length-set}
use Rattle.rtl_ir.specs.declared.design.Module.{Module}
use Rattle.rtl_ir.specs.declared.design.Assign.{Assign}
use Rattle.rtl_ir.specs.declared.design.Port.{Port}
use Rattle.rtl_ir.specs.declared.design.Update.{Update}
use Rattle.rtl_ir.specs.Operands.{IsRead, target_net}
use Rattle.verilog_sim.specs.Settled.{IsInOrder}
use Rattle.verilog_sim.specs.Feeding.{is_marked, AreMarkedFrom, AreReadsMarked, AreNetsMarked, IsSeen, IsFeeding}
use Rattle.verilog_sim.specs.Feeding.IsSeen.{at_port, by_enable, by_value, by_target, as_origin}

-- the first so many nets of a list are marked
pub record Marked (nets : List ℕ) (old new : List Bool) (count : ℕ) : Type 0 where
  pub size : length new ≡ length old
  pub kept : (n : ℕ) → is_marked old n ≡ true → is_marked new n ≡ true
  pub those : (j n : ℕ) → j < count → slice_get nets j ≡ Some n → is_marked new n ≡ true
  pub only : (n : ℕ) → is_marked new n ≡ true → (is_marked old n ≡ true) ⊎ ((j : ℕ) × (slice_get nets j ≡ Some n))

-- one more net is marked
pub keeps_marked : (marks : List Bool) (k n : ℕ) → k < length marks → is_marked marks n ≡ true → is_marked (set marks k true) n ≡ true
keeps_marked marks k n lt h = ⊎_elim (λ e. subst (λ (x : ℕ). get_or (set marks k true) x false
    ≡ true) (sym e) (get_or-set_same marks k true false lt))
    (λ ne. get_or-set_other marks k n true false ne ∙ h) (cases_eq n k)

pub now_marked : (marks : List Bool) (k : ℕ) → k < length marks → is_marked (set marks k true) k ≡ true
now_marked marks k lt = get_or-set_same marks k true false lt

pub one_marked : (nets : List ℕ) (old new : List Bool) (i k : ℕ) → slice_get nets i ≡ Some k → k < length new → Marked nets old new i → Marked nets old (set new k true) (i + 1)
one_marked nets old new i k at lt p =
    record {
      size = length-set new k true ∙ p.size;
      kept = λ n h. keeps n (p.kept n h);
      those = λ j n less e. ⊎_elim (λ q. keeps n (p.those j n q e)) (λ q. here j n (omega arith) e) (cases_lt j i);
      only = λ n h. ⊎_elim (λ e. inr (i, at ∙ ap (λ x. Some x) (sym e))) (λ ne. p.only n (sym (get_or-set_other new k n true false ne) ∙ h)) (cases_eq n k);
    }
  where
    keeps : (n : ℕ) → get_or new n false ≡ true → get_or (set new k true) n false ≡ true
    keeps n h = ⊎_elim (λ e. subst (λ (x : ℕ). get_or (set new k true) x false ≡ true) (sym e) (get_or-set_same new k true false lt)) (λ ne. get_or-set_other new k n true false ne ∙ h) (cases_eq n k)

    here : (j n : ℕ) → j ≡ i → slice_get nets j ≡ Some n → get_or (set new k true) n false ≡ true
    here j n q e =
        let e' : slice_get nets i ≡ Some n = subst (λ (x : ℕ). slice_get nets x ≡ Some n) q e in
        let r : k ≡ n = cc in
        subst (λ (x : ℕ). get_or (set new k true) x false ≡ true) r (get_or-set_same new k true false lt)

module _ (order : List Assign) (i : ℕ) (a : Assign) (at : slice_get order i ≡ Some a) where
  same_at : (j : ℕ) (b : Assign) → j ≡ i → slice_get order j ≡ Some b → a ≡ b
  same_at j b q e = let e' : slice_get order i ≡ Some b = subst (λ (x : ℕ). slice_get order x ≡ Some b) q e in cc

  -- an assignment to a net that isn't marked
  pub unmarked_passed : (marks : List Bool) → is_marked marks a.target ≡ false → AreMarkedFrom order marks (i + 1) → AreMarkedFrom order marks i
  unmarked_passed marks off p =
      record {
        closed = λ j n b le e mark read. ⊎_elim (λ lt. p.closed j n b (omega arith) e mark read)
            (λ ge. absurd (false≢true (sym off ∙ ap (λ (x : Assign). is_marked marks x.target)
            (same_at j b (omega arith) e) ∙ mark))) (cases_lt i j);
      }

  -- an assignment to a marked net
  pub marked_on : (m : Module) (old new : List Bool) → IsInOrder m order → AreReadsMarked a.expr old new → AreMarkedFrom order old (i + 1) → AreMarkedFrom order new i
  marked_on m old new o r p =
      record {
        closed = λ j n b le e mark read. ⊎_elim (λ lt. later j n b lt e mark read) (λ ge. r.reads n (subst (λ (x : Assign). IsRead x.expr n) (sym (same_at j b (omega arith) e)) read)) (cases_lt i j);
      }
    where
      later : (j n : ℕ) (b : Assign) → i < j → slice_get order j ≡ Some b → is_marked new b.target ≡ true → IsRead b.expr n → is_marked new n ≡ true
      later j n b lt e mark read =
          ⊎_elim (λ before. r.kept n (p.closed j n b (omega arith) e before read)) (λ now. absurd (o.unread i j a b (omega arith) at e now)) (r.only b.target mark)

-- the nets of one more update are marked
pub one_update_marked :
    (updates : List Update) (old new : List Bool) (i : ℕ) (u : Update) → slice_get updates i ≡ Some u
    → ((n : ℕ) → is_marked old n ≡ true → is_marked new n ≡ true) → AreNetsMarked new u
    → ((j : ℕ) (w : Update) → j < i → slice_get updates j ≡ Some w → AreNetsMarked old w)
    → (j : ℕ) (w : Update) → j < i + 1 → slice_get updates j ≡ Some w → AreNetsMarked new w
one_update_marked updates old new i u at kept now before j w less e = ⊎_elim earlier (λ ge. here (omega arith)) (cases_lt j i)
  where
    earlier : j < i → AreNetsMarked new w
    earlier lt =
        let p = before j w lt e in
        record { enable = kept w.enable p.enable; value = kept w.value p.value; net = kept (target_net w.target) p.net }

    here : j ≡ i → AreNetsMarked new w
    here q =
        let e' : slice_get updates i ≡ Some w = subst (λ (x : ℕ). slice_get updates x ≡ Some w) q e in
        let r : u ≡ w = cc in
        subst (AreNetsMarked new) r now

-- what is seen in an edge is marked where origins and the nets of ports and updates are
pub seen_marked :
    (m : Module) (os : List ℕ) (marks : List Bool)
    → ((n : ℕ) → n < length os → get_or os n 0 ≡ n → is_marked marks n ≡ true)
    → ((i : ℕ) (p : Port) → slice_get m.ports i ≡ Some p → is_marked marks p.net ≡ true)
    → ((j : ℕ) (u : Update) → slice_get m.updates j ≡ Some u → AreNetsMarked marks u)
    → (n : ℕ) → IsSeen m os n → is_marked marks n ≡ true
seen_marked m os marks own ports updates n (at_port i p at) = ports i p at
seen_marked m os marks own ports updates n (by_enable j u at) = (updates j u at).enable
seen_marked m os marks own ports updates n (by_value j u at) = (updates j u at).value
seen_marked m os marks own ports updates n (by_target j u at) = (updates j u at).net
seen_marked m os marks own ports updates n (as_origin k lt e) = own k lt e

-- what feeds some nets feeds fewer
pub feeding_fewer : (order feeding : List Assign) (IsWanted IsWantedToo : ℕ → Type 0) → ((n : ℕ) → IsWantedToo n → IsWanted n) → IsFeeding order feeding IsWanted → IsFeeding order feeding IsWantedToo
feeding_fewer order feeding IsWanted IsWantedToo h f = record { marks = f.marks; wanted = λ n w. f.wanted n (h n w); marked = f.marked; are = f.are }
