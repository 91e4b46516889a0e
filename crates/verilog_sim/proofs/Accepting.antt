-- A module that keeps the rules of a flat module can be simulated.
use Rattle.std.proofs.Common.{◌≡◌, ℕ, [], refl}
use Rattle.rtl_ir.specs.declared.design.Design.{Design}
use Rattle.rtl_ir.specs.declared.design.Module.{Module}
use Rattle.rtl_ir.specs.Value.{Family, Contents}
use Rattle.rtl_ir.specs.Edge.{Fits, after_edge}
use Rattle.rtl_ir.specs.Flat.{Path}
use Rattle.rtl_ir.specs.Walks.{FlatFeeds, own, FlatWay, done, then'}
use Rattle.rtl_ir.specs.Rules.{HoldsWords, ByAssign}
use Rattle.rtl_ir.proofs.Kept.{updated_words}
use Rattle.verilog_sim.specs.Runnable.{Follows, Chain, IsRunnable}
use Rattle.verilog_sim.specs.Runnable.Follows.{by}
use Rattle.verilog_sim.specs.Runnable.Chain.{stay, on}
use Rattle.verilog_sim.proofs.Placed.{IsPlaced}

follows_feeds : {d : Design} {m : Module} {a b : ℕ} → Follows m a b → FlatFeeds d m [] a [] b
follows_feeds (by k n x at r) = own k n x at r

chain_way : {d : Design} {m : Module} {a b c : ℕ} {p : Path} → Chain m a b → FlatWay d m [] b p c → FlatWay d m [] a p c
chain_way stay w = w
chain_way (on ch f) w = chain_way ch (then' (follows_feeds f) w)

same_assign : (j k : ℕ) → ByAssign j ≡ ByAssign k → j ≡ k
same_assign j k e = cc

pub runnable_of : (d : Design) (m : Module) → IsPlaced d m → IsRunnable m
runnable_of d m h =
    record {
      nets = h.nets;
      mems = h.mems;
      assigns = h.standing.ranged.assigns;
      typed = h.typed;
      given = λ k a at. h.given a.target (ByAssign k) (a, at, refl);
      one = λ j k a b at bt t. same_assign j k (h.one b.target (ByAssign j) (ByAssign k) (a, at, t) (b, bt, refl));
      free = λ a b way back. h.free [] b [] a (follows_feeds back) (chain_way way done);
      updates = h.standing.ranged.updates;
      update_widths = h.update_widths;
      regs = h.regs;
      updated = h.updated;
    }

-- words stay words over an edge
pub words_after : (m : Module) → IsRunnable m → (c : Contents) (v : Family) → HoldsWords m c → Fits m c v → HoldsWords m (after_edge m c v)
words_after m r c v held f = updated_words m v f.words m.updates r.update_widths c held
