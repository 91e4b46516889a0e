-- The rules that a module keeps while instances of it become parts of it.
use Rattle.std.proofs.Common.{◌≡◌, ℕ, ◌<◌, true, false, get_or, Some, sym, ◌∙◌, arith}
use Rattle.std.specs.Prelude.{slice_get}
use Rattle.std.proofs.lemmas.Option.{slice_get-get_or, slice_get_within}
use Rattle.rtl_ir.specs.declared.design.Design.{Design}
use Rattle.rtl_ir.specs.declared.design.Module.{Module}
use Rattle.rtl_ir.specs.declared.design.Net.{Net}
use Rattle.rtl_ir.specs.declared.design.Mem.{Mem}
use Rattle.rtl_ir.specs.declared.design.Port.{Port}
use Rattle.rtl_ir.specs.declared.design.Assign.{Assign}
use Rattle.rtl_ir.specs.declared.design.Update.{Update}
use Rattle.rtl_ir.specs.declared.design.Instance.{Instance}
use Rattle.rtl_ir.specs.declared.design.Target.TheVariants.{Reg}
use Rattle.rtl_ir.specs.Value.{width_of, is_reg}
use Rattle.rtl_ir.specs.Formed.{IsFormedPort}
use Rattle.rtl_ir.specs.Flat.{Path}
use Rattle.rtl_ir.specs.Walks.{FlatFeeds, FlatWay}
use Rattle.rtl_ir.specs.Rules.{Connection, Driver, Drives, IsAccepted}
use Rattle.rtl_ir.specs.Typed.{is_given, IsTyped, IsUpdateTyped}
use Rattle.rtl_ir.proofs.Accepted.{sound_at}
use Rattle.rtl_ir.proofs.Loops.{no_loop}
use Rattle.verilog_sim.specs.Runnable.{IsSizedNet, IsSizedMem}
use Rattle.verilog_sim.proofs.Parting.{Standing}

pub record IsPlaced (d : Design) (m : Module) : Type 0 where
  pub standing : Standing d m
  pub modules : (k : ℕ) (i : Instance) → slice_get m.instances k ≡ Some i → (inner : Module) × (slice_get d.modules i.«module» ≡ Some inner)
  pub nets : (k : ℕ) (n : Net) → slice_get m.nets k ≡ Some n → IsSizedNet n
  pub mems : (k : ℕ) (x : Mem) → slice_get m.mems k ≡ Some x → IsSizedMem x
  pub ports : (k : ℕ) (p : Port) → slice_get m.ports k ≡ Some p → IsFormedPort m p
  pub apart : (j k : ℕ) (p q : Port) → slice_get m.ports j ≡ Some p → slice_get m.ports k ≡ Some q → p.net ≡ q.net → j ≡ k
  pub typed : (k : ℕ) (a : Assign) → slice_get m.assigns k ≡ Some a → IsTyped m (width_of m a.target) a.expr
  pub given : (n : ℕ) (x : Driver) → Drives d m x n → is_given m n ≡ false
  pub one : (n : ℕ) (x y : Driver) → Drives d m x n → Drives d m y n → x ≡ y
  pub free : (p : Path) (a : ℕ) (q : Path) (b : ℕ) → FlatFeeds d m p a q b → FlatWay d m q b p a → ⊥
  pub update_widths : (k : ℕ) (u : Update) → slice_get m.updates k ≡ Some u → IsUpdateTyped m u
  pub regs : (k n : ℕ) (u : Update) → slice_get m.updates k ≡ Some u → u.target ≡ Reg n → is_reg m n ≡ true
  pub updated : (n : ℕ) → is_reg m n ≡ true → (k : ℕ) × (u : Update) × (slice_get m.updates k ≡ Some u) × (u.target ≡ Reg n)
  pub joined : (k j : ℕ) (e : Connection d m k j) → width_of e.inner e.port.net ≡ width_of m e.net

-- a module of an accepted design keeps them
pub placed_of : (d : Design) → IsAccepted d → (number : ℕ) (m : Module) → slice_get d.modules number ≡ Some m → IsPlaced d m
placed_of d h number m e =
    let f = h.formed.each number m e in
    let s = h.sound number m e in
    let t = sound_at h number m e in
    record {
      standing = record {
        ranged = record { assigns = f.assigns; updates = f.updates };
        nets = λ k i j o at is. (f.instances k i at).nets j o is;
        sizes = t.ports;
      };
      modules = λ k i at. at_number i (omega (arith, t.earlier k i at));
      nets = λ k n at. (let g = f.nets k n at in record { some = g.some; at_most = g.at_most });
      mems = λ k x at. (let g = f.mems k x at in record { some = g.some; at_most = g.at_most; words = g.words });
      ports = f.ports;
      apart = f.apart;
      typed = s.widths.typed;
      given = λ n x by. (s.driven.only n x by).1;
      one = λ n x y by by'. (s.driven.only n x by).2 ∙ sym ((s.driven.only n y by').2);
      free = no_loop d h number m e;
      update_widths = s.widths.updates;
      regs = λ k n u at is. (s.updated.only n k u at is).0;
      updated = λ n reg. (s.updated.update n, (s.updated.some n reg).0, (s.updated.some n reg).1, (s.updated.some n reg).2);
      joined = s.widths.joined;
    }
  where
    at_number : (i : Instance) → i.«module» < number → (inner : Module) × (slice_get d.modules i.«module» ≡ Some inner)
    at_number i lt = (get_or d.modules i.«module» m, slice_get-get_or d.modules i.«module» m (omega (arith, slice_get_within d.modules number m e)))
