-- What stands ahead and at nets when registers were loaded, after an edge, and after a look at one net.
use Rattle.std.proofs.Common.{◌≡◌, ◌≢◌, ℕ, ◌^◌, ◌<◌, Bool, true, false, List, length, get_or, Some, refl, sym, ◌∙◌, subst}
use Rattle.std.specs.Prelude.{slice_get}
use Rattle.std.proofs.lemmas.Bool.{false≢true}
use Rattle.rtl_ir.specs.declared.design.Module.{Module}
use Rattle.rtl_ir.specs.declared.design.Update.{Update}
use Rattle.rtl_ir.specs.declared.design.Target.TheVariants.{Reg}
use Rattle.rtl_ir.specs.declared.interface.Interface.{Interface}
use Rattle.rtl_ir.specs.Rules.{HoldsWords}
use Rattle.rtl_ir.specs.Value.{is_reg, width_of}
use Rattle.verilog_sim.specs.Contents.{contents_of, HasDepths}
use Rattle.verilog_sim.specs.Runnable.{IsRunnable}
use Rattle.verilog_sim.specs.declared.offer.Offer.{Offer}
use Rattle.verilog_sim.specs.Simulates.{AreKept, AreValues, IsReady}
use Rattle.verilog_sim.specs.Updates.{IsLoaded, held_by}
use Rattle.verilog_sim.proofs.Evaluated.{given_reg, loaded_words, loaded_regs, loaded_constants}
use Rattle.verilog_sim.proofs.Holding.{held_size, held_reg, held_same}

-- values to which registers were loaded
pub loaded_kept :
    (m : Module) (c : Interface) (steady held ahead old new : List ℕ) (memories : List (List ℕ)) → IsRunnable m
    → AreKept m c steady held ahead memories → AreValues m old memories → IsLoaded m.updates ahead old new
    → AreKept m c steady held new memories
loaded_kept m c steady held ahead old new memories r k v l =
    record {
      blocks = k.blocks;
      words = loaded_words m ahead old new memories r (λ n e. k.words.words n) v.words l;
      held_nets = k.held_nets;
      held_words = k.held_words;
      loaded = λ n e. loaded_regs m ahead old new r l n e ∙ k.loaded n e;
      constant = loaded_constants m ahead old new r l v.constant;
      steady_ports = k.steady_ports;
      steady_words = k.steady_words;
    }

-- all is there for an edge then
pub loaded_ready :
    (m : Module) (us : List Update) (c : Interface) (steady : List ℕ) (offers : List Offer) (held ahead old new : List ℕ)
    (memories : List (List ℕ)) → IsReady m us c steady offers held ahead memories → AreValues m old memories
    → IsLoaded us ahead old new → IsReady m us c steady offers held new memories
loaded_ready m us c steady offers held ahead old new memories r v l =
    record {
      simulable = r.simulable;
      updates_are = r.updates_are;
      kept = loaded_kept m c steady held ahead old new memories r.simulable.runnable r.kept v
          (subst (λ (xs : List Update). IsLoaded xs ahead old new) r.updates_are l);
      offered = r.offered;
    }

module _ (m : Module) (c : Interface) (us : List Update) (steady ahead new : List ℕ) (memories : List (List ℕ)) (r : IsRunnable m)
    (same : us ≡ m.updates) (k : AreKept m c steady (held_by us ahead) ahead memories) where
  -- after an edge that wrote registers ahead
  pub ahead_kept :
      (later : List (List ℕ)) → length new ≡ length ahead
      → ((n : ℕ) → ((j : ℕ) (u : Update) → slice_get us j ≡ Some u → u.target ≢ Reg n) → get_or new n 0 ≡ get_or ahead n 0)
      → length later ≡ length memories → HasDepths m later → HoldsWords m (contents_of (held_by us new) later)
      → AreKept m c steady (held_by us new) new later
  ahead_kept later size others blocks depths words =
      record {
        blocks = blocks ∙ k.blocks;
        words = record { nets = nets; words = λ n. by_kind n (is_reg m n) refl; depths = depths; cells = words.cells };
        held_nets = held_size us new ∙ nets;
        held_words = words.regs;
        loaded = λ n e. sym (held_reg m us new r same nets n e);
        constant = λ j a x at lit. other a.target (λ e. false≢true (sym (r.given j a at) ∙ given_reg m a.target e)) ∙ k.constant j a x at lit;
        steady_ports = k.steady_ports;
        steady_words = k.steady_words;
      }
    where
      nets : length new ≡ length m.nets
      nets = size ∙ k.words.nets

      other : (n : ℕ) → is_reg m n ≢ true → get_or new n 0 ≡ get_or ahead n 0
      other n off = others n (λ j u at t. off (r.regs j n u (subst (λ (l : List Update). slice_get l j ≡ Some u) same at) t))

      by_kind : (n : ℕ) (b : Bool) → is_reg m n ≡ b → get_or new n 0 < 2 ^ width_of m n
      by_kind n true e = subst (λ (x : ℕ). x < 2 ^ width_of m n) (held_reg m us new r same nets n e) (words.regs n e)
      by_kind n false e = subst (λ (x : ℕ). x < 2 ^ width_of m n) (sym (other n (λ t. false≢true (sym e ∙ t)))) (k.words.words n)

  -- registers hold the same where only nets besides were given other values
  pub looked_same : AreKept m c steady (held_by us ahead) new memories → held_by us new ≡ held_by us ahead
  looked_same l = held_same m us ahead r same k.words.nets new (l.words.nets ∙ sym k.words.nets) (λ n e. l.loaded n e ∙ sym (k.loaded n e))
