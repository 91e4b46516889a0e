-- A module without instances that keeps the rules alone keeps them in every design, and so do the
-- modules of a project that refine its kernels.
use Rattle.std.proofs.Common.{◌≡◌, ℕ, suc, List, [], ◌∷◌, Some, length, arith, refl, sym, ap, ◌∙◌}
use Rattle.std.specs.Prelude.{slice_get, ℤ}
use Rattle.rtl_ir.specs.declared.design.Instance.{Instance}
use Rattle.rtl_ir.specs.declared.design.Module.{Module}
use Rattle.rtl_ir.specs.declared.design.Design.{Design}
use Rattle.rtl_ir.specs.Formed.{IsFormedModule}
use Rattle.rtl_ir.specs.Rules.{Connection, Driver, ByAssign, ByPort, Drives, Feeds, by_assign, by_part, IsSound}
use Rattle.stream_graph.specs.declared.kernel.Kernel.{Kernel}
use Rattle.kernel_control.specs.Refines.{Refines}
use Rattle.std.specs.List.{AllZip}
use Rattle.manager_links.specs.declared.project.Project.{Project}
use Rattle.project_rtl.specs.Kept.{KeepsRules, AllKeepRules, AllRefine}

none : {d : Design} {m : Module} {k j : ℕ} → m.instances ≡ [] → Connection d m k j → ⊥
none {k = k} e c = let h : slice_get [] k ≡ Some c.part = ap (λ (l : List Instance). slice_get l k) (sym e) ∙ c.of in absurd (cc)

drives : (d e : Design) (m : Module) → m.instances ≡ [] → (x : Driver) (n : ℕ) → Drives d m x n → Drives e m x n
drives d e m no' (ByAssign j) n h = h
drives d e m no' (ByPort k j) n h = absurd (none no' h.0)

feeds : {d : Design} {m : Module} {a b : ℕ} (e : Design) → Feeds d m a b → m.instances ≡ [] → Feeds e m a b
feeds e (by_assign j n a at r) h = by_assign j n a at r
feeds e (by_part k j l c f i o way) h = absurd (none h c)

pub alone : (kernel : Kernel) (m : Module) (times : ℕ → ℕ) → Refines m kernel times → KeepsRules kernel m
alone kernel m times r =
    let d : Design = record { modules = m ∷ [] } in
    let accepted = r.accepted d refl in
    let s : IsSound d m = accepted.sound 0 m refl in
    let f : IsFormedModule [] m = accepted.formed.each 0 m refl in
    record {
      name = r.name;
      ports = r.ports;
      sound = λ e. record {
        names = s.names;
        driven = record {
          driver = s.driven.driver;
          some = λ n lt free. drives d e m r.instances (s.driven.driver n) n (s.driven.some n lt free);
          only = λ n x h. s.driven.only n x (drives e d m r.instances x n h);
        };
        updated = s.updated;
        widths = record { typed = s.widths.typed; updates = s.widths.updates; joined = λ k j c. absurd (none r.instances c) };
        levelled = record { rank = s.levelled.rank; rising = λ a b h. s.levelled.rising a b (feeds d h r.instances) };
      };
      formed = λ earlier. record {
        name = f.name;
        nets = f.nets;
        mems = f.mems;
        ports = f.ports;
        apart = f.apart;
        assigns = f.assigns;
        updates = f.updates;
        instances = λ k i e. absurd (let h : slice_get [] k ≡ Some i = ap (λ (l : List Instance). slice_get l k) (sym r.instances) ∙ e in cc);
        clock = f.clock;
        reset = f.reset;
      };
    }

all_from : {A B : Type 0} (R : A → B → Type 0) (xs : List A) (ys : List B) → length ys ≡ length xs
    → ((k : ℕ) (x : A) (y : B) → slice_get xs k ≡ Some x → slice_get ys k ≡ Some y → R x y) → AllZip R xs ys
all_from R [] [] e h = tt
all_from R [] (y ∷ ys) e h = absurd (omega (arith, e))
all_from R (x ∷ xs) [] e h = absurd (omega (arith, e))
all_from R (x ∷ xs) (y ∷ ys) e h = (h 0 x y refl refl, all_from R xs ys (omega (arith, e)) (λ k a b p q. h (suc k) a b p q))

pub all_alone : (project : Project) (times : List (List ℤ)) (inners : List Module) → AllRefine project times inners → AllKeepRules project inners
all_alone project times inners refine =
    all_from KeepsRules project.kernels inners refine.count (λ k kernel m e f. alone kernel m _ (refine.each k kernel m e f))
