-- Updates one by one.
use Rattle.std.proofs.Common.{◌≡◌, ◌∙◌, ℕ, ◌+◌, List, [], ◌∷◌, ◌++◌, map, take, None, refl, sym, ap, subst, append_assoc}
use Rattle.rtl_ir.specs.declared.design.Update.{Update}
use Rattle.rtl_ir.specs.declared.design.Module.{Module}
use Rattle.rtl_text.specs.Tree as tree
use Rattle.rtl_text.specs.Text.{UpdateIs}
use Rattle.verilog_syntax.specs.Trees.{update_view}
use Rattle.verilog_syntax.specs.declared.tree.UpdateTree.{UpdateTree}
use Rattle.rtl_reading.specs.Uses.{Scope, Use, update_uses, updates_uses, first_undeclared}
use Rattle.verilog_read.specs.Walk.{AllDeclared, IsUpdated, IsFault}
use Rattle.verilog_read.specs.declared.fault.Fault.{Fault}
use Rattle.verilog_read.proofs.FirstUse.{both, fault_later, fault_sooner}
use Rattle.verilog_read.proofs.Grow.{pairwise_joined}
use Rattle.verilog_read.proofs.Seq.{Split, map_more, map_whole}

uses_joined : (sc : Scope) (us vs : List tree.UpdateTree) → updates_uses sc (us ++ vs) ≡ updates_uses sc us ++ updates_uses sc vs
uses_joined sc [] vs = refl
uses_joined sc (u ∷ us) vs = ap (λ l. update_uses sc u ++ l) (uses_joined sc us vs) ∙ sym (append_assoc (update_uses sc u) (updates_uses sc us) (updates_uses sc vs))

nothing : (us : List Use) → us ++ [] ≡ us
nothing [] = refl
nothing (u ∷ us) = ap (λ l. u ∷ l) (nothing us)

module _ (sc : Scope) (m : Module) {trees : List UpdateTree} {i : ℕ} {x : UpdateTree} (s : Split trees i x) where
  pub updated_more : (old now new : List Update) (u : Update) → AllDeclared (updates_uses sc (map update_view (take i trees))) (IsUpdated m (map update_view (take i trees)) old now)
      → AllDeclared (update_uses sc (update_view x)) (UpdateIs m (update_view x) u) → new ≡ now ++ u ∷ []
      → AllDeclared (updates_uses sc (map update_view (take (i + 1) trees))) (IsUpdated m (map update_view (take (i + 1) trees)) old new)
  updated_more old now new u before this e =
      let front = map update_view (take i trees) in
      subst (λ l. AllDeclared (updates_uses sc l) (IsUpdated m l old new)) (sym (map_more update_view s)) (record {
        known = ap first_undeclared (uses_joined sc front (update_view x
            ∷ []) ∙ ap (λ l. updates_uses sc front
            ++ l) (nothing (update_uses sc (update_view x)))) ∙ both (updates_uses sc front)
            (update_uses sc (update_view x)) before.known this.known;
        holds = record {
          more = before.holds.more ++ u ∷ [];
          added = e ∙ ap (λ l. l ++ u ∷ []) before.holds.added ∙ append_assoc old before.holds.more (u ∷ []);
          are = pairwise_joined (UpdateIs m) front (update_view x ∷ []) before.holds.more (u ∷ []) before.holds.are (this.holds, tt);
        };
      })

  pub updated_fault : (f : Fault)
      → first_undeclared (updates_uses sc (map update_view (take i trees))) ≡ None
      → IsFault (update_uses sc (update_view x)) f
      → IsFault (updates_uses sc (map update_view trees)) f
  updated_fault f known h =
      let front = map update_view (take i trees) in
      let back = updates_uses sc (map update_view s.rest) in
      subst (λ l. IsFault l f) (sym (ap (updates_uses sc) (map_whole update_view s) ∙ uses_joined sc front (update_view x ∷ map update_view s.rest)))
      (fault_later (updates_uses sc front) (update_uses sc (update_view x) ++ back) f known (fault_sooner (update_uses sc (update_view x)) back f h))
