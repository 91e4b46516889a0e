-- A design that is accepted: one module, whose output is its reset turned.
use Rattle.std.proofs.Common.{◌≡◌, ℕ, zero, suc, ◌<◌, ◌≤◌, List, [], ◌∷◌, Bool, true, false, cond, eqb, take, Some, refl, sym, ◌∙◌, ap, subst, arith, lit<, lit≤}
use Rattle.std.specs.Prelude.{codes, slice_get, bytes_eq}
use Rattle.std.proofs.lemmas.Bool.{false≢true}
use Rattle.rtl_ir.specs.declared.design.Net.{Net}
use Rattle.rtl_ir.specs.declared.design.Port.{Port}
use Rattle.rtl_ir.specs.declared.design.Assign.{Assign}
use Rattle.rtl_ir.specs.declared.design.Module.{Module}
use Rattle.rtl_ir.specs.declared.design.Design.{Design}
use Rattle.rtl_ir.specs.declared.design.Expr.TheVariants.{Not}
use Rattle.rtl_ir.specs.Value.{is_reg, width_of}
use Rattle.rtl_ir.specs.Operands.{IsRead}
use Rattle.rtl_ir.specs.Formed.{IsFormedModule, IsFormedNet, IsFormedMem, IsFormedPort, IsFormedExpr, IsFormedAssign, IsFormedUpdate, IsFormedInstance}
use Rattle.rtl_ir.specs.Typed.{is_given, IsTyped, IsUpdateTyped}
use Rattle.rtl_ir.specs.Rules.{AllDiffer, names_of, Connection, Driver, ByAssign, ByPort, Drives, HasDrivers, HasUpdates, Feeds, by_assign, by_part, HasWidths, IsLevelled, IsSound, IsAccepted}
use Rattle.rtl_ir.proofs.Each.{none_has, each_has}

abbrev wire : List ℕ → Net
wire name = record { name = name; width = 1; reg = false }

abbrev port : ℕ → Bool → Port
port n output = record { net = n; output = output }

abbrev the_assign : Assign
the_assign = record { target = 2; expr = Not 1 }

abbrev turned : Module
turned = record {
  name = codes "turned";
  ports = port 0 false ∷ port 1 false ∷ port 2 true ∷ [];
  nets = wire (codes "clk") ∷ wire (codes "reset") ∷ wire (codes "y") ∷ [];
  mems = [];
  assigns = the_assign ∷ [];
  updates = [];
  instances = [];
}

abbrev design : Design
design = record { modules = turned ∷ [] }

-- of a list of one, two or three
one : {A : Type 0} (P : ℕ → A → Type 0) (x : A) → P 0 x → (k : ℕ) (z : A) → slice_get (x ∷ []) k ≡ Some z → P k z
one P x p = each_has P x [] p (none_has (λ k. P (suc k)))

three : {A : Type 0} (P : ℕ → A → Type 0) (x y w : A) → P 0 x → P 1 y → P 2 w → (k : ℕ) (z : A) → slice_get (x ∷ y ∷ w ∷ []) k ≡ Some z → P k z
three P x y w p q r = each_has P x (y ∷ w ∷ []) p (each_has (λ k. P (suc k)) y (w ∷ []) q (one (λ k. P (suc (suc k))) w r))

formed_expr : IsFormedExpr turned (Not 1)
formed_expr = record {
  nets = λ n r. one (λ k n. n < 3) 1 (lit< tt) r.0 n r.1;
  mem = λ k e. absurd (cc);
  numbers = λ i x e. none_has (λ k n. n ≤ 128) i x e;
}

formed : IsFormedModule [] turned
formed = record {
  name = refl;
  nets = three (λ k. IsFormedNet) (wire (codes "clk")) (wire (codes "reset")) (wire (codes "y"))
      (record { name = refl; some = lit≤ tt; at_most = lit≤ tt })
      (record { name = refl; some = lit≤ tt; at_most = lit≤ tt })
      (record { name = refl; some = lit≤ tt; at_most = lit≤ tt });
  mems = none_has (λ k. IsFormedMem);
  ports = three (λ k. IsFormedPort turned) (port 0 false) (port 1 false) (port 2 true)
      (record { net = lit< tt; wire = refl }) (record { net = lit< tt; wire = refl })
      (record { net = lit< tt; wire = refl });
  apart = λ j k p q e f g. sym (place j p e) ∙ g ∙ place k q f;
  assigns = one (λ k. IsFormedAssign turned) the_assign (record { target = lit< tt; expr = formed_expr });
  updates = none_has (λ k. IsFormedUpdate turned);
  instances = none_has (λ k. IsFormedInstance [] turned);
  clock = refl;
  reset = refl;
}
  where
    place : (k : ℕ) (p : Port) → slice_get turned.ports k ≡ Some p → p.net ≡ k
    place = three (λ k p. p.net ≡ k) (port 0 false) (port 1 false) (port 2 true) refl refl refl

abbrev number : List ℕ → ℕ
number name = cond (bytes_eq name (codes "clk")) 0 (cond (bytes_eq name (codes "reset")) 1 2)

names_differ : AllDiffer (names_of turned)
names_differ i j name e f = sym (place i name e) ∙ place j name f
  where
    place : (k : ℕ) (name : List ℕ) → slice_get (names_of turned) k ≡ Some name → number name ≡ k
    place = three (λ k name. number name ≡ k) (codes "clk") (codes "reset") (codes "y") refl refl refl

no_instance : (k j : ℕ) → Connection design turned k j → ⊥
no_instance k j c = none_has (λ k i. ⊥) k c.part c.of

drivers : HasDrivers design turned
drivers = record { driver = λ n. ByAssign 0; some = some; only = only }
  where
    some : (n : ℕ) → n < 3 → is_given turned n ≡ false → Drives design turned (ByAssign 0) n
    some zero lt e = absurd (false≢true (sym e))
    some (suc zero) lt e = absurd (false≢true (sym e))
    some (suc (suc zero)) lt e = (the_assign, refl, refl)
    some (suc (suc (suc n))) lt e = absurd (omega arith)

    only : (n : ℕ) (x : Driver) → Drives design turned x n → (n < 3) × (is_given turned n ≡ false) × (x ≡ ByAssign 0)
    only n (ByAssign j) h =
        let P : ℕ → Type 0 = λ n. (n < 3) × (is_given turned n ≡ false) × (ByAssign j ≡ ByAssign 0) in
        subst P h.2 (one (λ k a. (a.target < 3) × (is_given turned a.target ≡ false) × (ByAssign k ≡ ByAssign 0)) the_assign (lit< tt, refl, refl) j h.0 h.1)
    only n (ByPort k j) h = absurd (no_instance k j h.0)

no_register : (n : ℕ) → is_reg turned n ≡ true → ⊥
no_register zero e = false≢true e
no_register (suc zero) e = false≢true e
no_register (suc (suc zero)) e = false≢true e
no_register (suc (suc (suc n))) e = false≢true e

updates : HasUpdates turned
updates = record {
  update = λ n. 0;
  some = λ n e. absurd (no_register n e);
  only = λ n j u e f. absurd (none_has (λ k u. ⊥) j u e);
  of_mems = λ k i j a b u v e f g h. absurd (none_has (λ k u. ⊥) i u e);
}

widths : HasWidths design turned
widths = record {
  typed = one (λ k a. IsTyped turned (width_of turned a.target) a.expr) the_assign refl;
  updates = none_has (λ k. IsUpdateTyped turned);
  joined = λ k j c. absurd (no_instance k j c);
}

abbrev rank : ℕ → ℕ
rank n = cond (eqb n 2) 1 0

levelled : IsLevelled design turned
levelled = record { rank = rank; rising = λ a b f. rising f refl }
  where
    rising : {m : Module} {a b : ℕ} → Feeds design m a b → m ≡ turned → rank a < rank b
    rising (by_assign j n a e r) q =
        one (λ k a. (n : ℕ) → IsRead a.expr n
        → rank n < rank a.target) the_assign (λ n r. one (λ k n. rank n < 1) 1
        (lit< tt) r.0 n r.1) j a (ap (λ (m : Module). slice_get m.assigns j) (sym q) ∙ e) n r
    rising (by_part k j l c e o i w) q =
        none_has (λ k i. rank c.net < rank e.net) k c.part (ap (λ (m : Module). slice_get m.instances k) (sym q) ∙ c.of)

accepted : IsAccepted design
accepted = record {
  formed = record { some = lit< tt; each = one (λ k m. IsFormedModule (take k (turned ∷ [])) m) turned formed };
  names = λ i j name e f. sym (first i name e) ∙ first j name f;
  sound = one (λ k m. IsSound design m) turned (record { names = names_differ; driven = drivers; updated = updates; widths = widths; levelled = levelled });
}
  where
    first : (k : ℕ) (name : List ℕ) → slice_get (codes "turned" ∷ []) k ≡ Some name → 0 ≡ k
    first = one (λ k name. 0 ≡ k) (codes "turned") refl
