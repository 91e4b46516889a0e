-- One assignment more in the table of drivers.
use Rattle.std.proofs.Common.{◌≡◌, ◌≢◌, ℕ, ◌+◌, ◌<◌, ◌⊎◌, inl, inr, List, [], length, get_or, set, replicate, Option, Some, None, sym, ap, ◌∙◌, subst, ⊎_elim, arith, get_or-set_other, get_or-set_same}
use Rattle.std.specs.Prelude.{slice_get}
use Rattle.std.proofs.lemmas.Bool.{cases_eq, cases_lt}
use Rattle.std.proofs.lemmas.List.{length-set, length-replicate, get_or-replicate, get_or_past}
use Rattle.rtl_ir.specs.declared.design.Module.{Module}
use Rattle.rtl_ir.specs.declared.design.Assign.{Assign}
use Rattle.rtl_ir.specs.Operands.{reads}
use Rattle.verilog_sim.specs.Runnable.{IsRunnable}
use Rattle.verilog_sim.specs.Drivers.{IsDriver, AreDrivers}

pub same_all : {A : Type 0} (n i : ℕ) (x : A) → get_or (replicate n x) i x ≡ x
same_all n i x = ⊎_elim (λ lt. get_or-replicate n i x x lt) (λ ge. get_or_past (replicate n x) i x (omega (arith, length-replicate n x))) (cases_lt i n)

abbrev none_of : Option ℕ
none_of = None

pub no_drivers : (m : Module) → AreDrivers m (replicate (length m.nets) []) (replicate (length m.nets) None) 0
no_drivers m =
    record {
      nodes = length-replicate (length m.nets) [];
      nets = length-replicate (length m.nets) None;
      sound = λ n k e. absurd (let f : get_or (replicate (length m.nets) (none_of)) n none_of ≡ none_of = same_all (length m.nets) n none_of in cc);
      below = λ n k e. absurd (let f : get_or (replicate (length m.nets) (none_of)) n none_of ≡ none_of = same_all (length m.nets) n none_of in cc);
      whole = λ k a lt e. absurd (omega arith);
      none = λ n e. same_all (length m.nets) n [];
    }

pub one_driver :
    (m : Module) (graph : List (List ℕ)) (drivers : List (Option ℕ)) (k : ℕ) (a : Assign)
    → IsRunnable m → slice_get m.assigns k ≡ Some a → AreDrivers m graph drivers k
    → AreDrivers m (set graph a.target (reads a.expr)) (set drivers a.target (Some k)) (k + 1)
one_driver m graph drivers k a h at d =
    record {
      nodes = length-set graph a.target (reads a.expr) ∙ d.nodes;
      nets = length-set drivers a.target (Some k) ∙ d.nets;
      sound = λ n q e. ⊎_elim (λ f. sound_here n q f e) (λ f. sound_other n q f e) (cases_eq n a.target);
      below = λ n q e. ⊎_elim (λ f. let g : Some k ≡ Some q = sym (here n f) ∙ e in let r : k
          ≡ q = cc in omega (arith, r)) (λ f. let r = d.below n q (sym (other n f) ∙ e) in omega
          (arith, r)) (cases_eq n a.target);
      whole = λ j b lt e. ⊎_elim (λ f. whole_before j b f e) (λ f. whole_here j b f e) (split j lt);
      none = λ n e. ⊎_elim (λ f. absurd (let g : Some k ≡ None = sym (here n f) ∙ e in cc))
          (λ f. get_or-set_other graph a.target n (reads a.expr) [] f ∙ d.none n
          (sym (other n f) ∙ e)) (cases_eq n a.target);
    }
  where
    target : a.target < length m.nets
    target = (h.assigns k a at).target

    split : (j : ℕ) → j < k + 1 → (j < k) ⊎ (j ≡ k)
    split j less = ⊎_elim (λ q. inl q) (λ q. inr (omega arith)) (cases_lt j k)

    here : (n : ℕ) → n ≡ a.target → get_or (set drivers a.target (Some k)) n None ≡ Some k
    here n e = ap (λ i. get_or (set drivers a.target (Some k)) i None) e ∙ get_or-set_same drivers a.target (Some k) None (omega (arith, d.nets, target))

    other : (n : ℕ) → n ≢ a.target → get_or (set drivers a.target (Some k)) n None ≡ get_or drivers n None
    other n ne = get_or-set_other drivers a.target n (Some k) None ne

    sound_here : (n q : ℕ) → n ≡ a.target → get_or (set drivers a.target (Some k)) n None ≡ Some q → IsDriver m (set graph a.target (reads a.expr)) n q
    sound_here n q f e =
        let g : Some k ≡ Some q = sym (here n f) ∙ e in
        let r : k ≡ q = cc in
        record {
          assign = a;
          at = subst (λ (i : ℕ). slice_get m.assigns i ≡ Some a) r at;
          target = sym f;
          reads = ap (λ i. get_or (set graph a.target (reads a.expr)) i []) f ∙ get_or-set_same graph a.target (reads a.expr) [] (omega (arith, d.nodes, target));
        }

    sound_other : (n q : ℕ) → n ≢ a.target → get_or (set drivers a.target (Some k)) n None ≡ Some q → IsDriver m (set graph a.target (reads a.expr)) n q
    sound_other n q f e =
        let s = d.sound n q (sym (other n f) ∙ e) in
        record { assign = s.assign; at = s.at; target = s.target; reads = get_or-set_other graph a.target n (reads a.expr) [] f ∙ s.reads }

    whole_before : (j : ℕ) (b : Assign) → j < k → slice_get m.assigns j ≡ Some b → get_or (set drivers a.target (Some k)) b.target None ≡ Some j
    whole_before j b lt e = other b.target (λ f. let q = h.one j k b a e at f in omega (arith, q, lt)) ∙ d.whole j b lt e

    whole_here : (j : ℕ) (b : Assign) → j ≡ k → slice_get m.assigns j ≡ Some b → get_or (set drivers a.target (Some k)) b.target None ≡ Some j
    whole_here j b q e =
        let e' : slice_get m.assigns k ≡ Some b = subst (λ (i : ℕ). slice_get m.assigns i ≡ Some b) q e in
        let r : a ≡ b = cc in
        here b.target (ap (λ (x : Assign). x.target) (sym r)) ∙ ap (λ i. Some i) (sym q)
