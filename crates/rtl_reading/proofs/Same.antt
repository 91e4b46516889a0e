-- A module with its nets under other numbers is formed where it was.
use Rattle.std.proofs.Common.{◌≡◌, ◌∙◌, ℕ, zero, suc, ◌+◌, ◌<◌, Bool, true, false, ◌||◌, ◌&&◌, not, List, [], ◌∷◌, ◌++◌, length, take, refl, sym, ap, subst, arith, Option, Some, None, nat_eq}
use Rattle.std.specs.Prelude.{map, slice_get, bytes_eq, codes, IsTrue}
use Rattle.std.specs.List.{list_any}
use Rattle.std.specs.Option.{option_map}
use Rattle.std.proofs.lemmas.Option.{slice_get-map, slice_get_within}
use Rattle.std.proofs.lemmas.List.{length-map}
use Rattle.rtl_ir.specs.declared.design.Net.{Net}
use Rattle.rtl_ir.specs.declared.design.Mem.{Mem}
use Rattle.rtl_ir.specs.declared.design.Port.{Port}
use Rattle.rtl_ir.specs.declared.design.Expr.{Expr}
use Rattle.rtl_ir.specs.declared.design.Expr.TheVariants.{Net as Plain, Literal, Not, Binary, Concat, Repeat, Part, Choose, Cell}
use Rattle.rtl_ir.specs.declared.design.Assign.{Assign}
use Rattle.rtl_ir.specs.declared.design.Target.{Target}
use Rattle.rtl_ir.specs.declared.design.Target.TheVariants.{Reg, Cell as Place}
use Rattle.rtl_ir.specs.declared.design.Update.{Update}
use Rattle.rtl_ir.specs.declared.design.Instance.{Instance}
use Rattle.rtl_ir.specs.declared.design.Module.{Module}
use Rattle.rtl_ir.specs.declared.design.Design.{Design}
use Rattle.rtl_ir.specs.Value.{net_width, net_kept, width_of, is_reg}
use Rattle.rtl_ir.specs.Operands.{reads, IsRead, mem_read, bit_numbers, target_net, target_mem}
use Rattle.rtl_ir.specs.Names.{is_name}
use Rattle.rtl_ir.specs.Formed.{net_name, name_of, is_bit_input, has_bit_input, IsFormedNet}
use Rattle.rtl_ir.specs.Formed.{IsFormedMem, IsFormedPort, IsFormedExpr, IsFormedAssign}
use Rattle.rtl_ir.specs.Formed.{IsFormedUpdate, IsFormedInstance, IsFormedModule, IsFormed}
use Rattle.rtl_text.specs.Text.{Pairwise}
use Rattle.rtl_reading.specs.Renumbered.{port_as, expr_as, assign_as, target_as, update_as, instance_as, IsRenumbered, AreRenumbered}

mapped_step : {A B : Type 0} (g : A → B) (o : Option A) (y : B) → option_map g o ≡ Some y → (x : A) × (o ≡ Some x) × (g x ≡ y)
mapped_step g None y h = absurd (cc)
mapped_step g (Some x) y h = (x, refl, cc)

pub mapped : {A B : Type 0} (g : A → B) (xs : List A) (ys : List B) (k : ℕ) (y : B) → ys ≡ map g xs → slice_get ys k ≡ Some y → (x : A) × (slice_get xs k ≡ Some x) × (g x ≡ y)
mapped g xs ys k y e h = mapped_step g (slice_get xs k) y (sym (slice_get-map g xs k) ∙ ap (λ l. slice_get l k) (sym e) ∙ h)

pub mapped_to : {A B : Type 0} (g : A → B) (xs : List A) (ys : List B) (k : ℕ) (x : A) → ys ≡ map g xs → slice_get xs k ≡ Some x → slice_get ys k ≡ Some (g x)
mapped_to g xs ys k x e h = ap (λ l. slice_get l k) e ∙ slice_get-map g xs k ∙ ap (option_map g) h

pub reads_as : (f : ℕ → ℕ) (e : Expr) → reads (expr_as f e) ≡ map f (reads e)
reads_as f (Plain n) = refl
reads_as f (Literal w) = refl
reads_as f (Not n) = refl
reads_as f (Binary s a b) = refl
reads_as f (Concat a b) = refl
reads_as f (Repeat k n) = refl
reads_as f (Part n hi lo) = refl
reads_as f (Choose c a b) = refl
reads_as f (Cell k n) = refl

mem_as : (f : ℕ → ℕ) (e : Expr) → mem_read (expr_as f e) ≡ mem_read e
mem_as f (Plain n) = refl
mem_as f (Literal w) = refl
mem_as f (Not n) = refl
mem_as f (Binary s a b) = refl
mem_as f (Concat a b) = refl
mem_as f (Repeat k n) = refl
mem_as f (Part n hi lo) = refl
mem_as f (Choose c a b) = refl
mem_as f (Cell k n) = refl

numbers_as : (f : ℕ → ℕ) (e : Expr) → bit_numbers (expr_as f e) ≡ bit_numbers e
numbers_as f (Plain n) = refl
numbers_as f (Literal w) = refl
numbers_as f (Not n) = refl
numbers_as f (Binary s a b) = refl
numbers_as f (Concat a b) = refl
numbers_as f (Repeat k n) = refl
numbers_as f (Part n hi lo) = refl
numbers_as f (Choose c a b) = refl
numbers_as f (Cell k n) = refl

net_as : (f : ℕ → ℕ) (t : Target) → target_net (target_as f t) ≡ f (target_net t)
net_as f (Reg n) = refl
net_as f (Place k n) = refl

mem_kept : (f : ℕ → ℕ) (t : Target) → target_mem (target_as f t) ≡ target_mem t
mem_kept f (Reg n) = refl
mem_kept f (Place k n) = refl

-- modules in pairs
pub record Paired (ds es : List Module) : Type 0 where
  pub count : length es ≡ length ds
  pub at : (k : ℕ) (y : Module) → slice_get es k ≡ Some y → (z : Module) × (slice_get ds k ≡ Some z) × IsRenumbered z y
  pub to : (k : ℕ) (z : Module) → slice_get ds k ≡ Some z → (y : Module) × (slice_get es k ≡ Some y) × IsRenumbered z y

pub paired : (ds es : List Module) → Pairwise IsRenumbered ds es → Paired ds es
paired [] [] p = record { count = refl; at = λ k y e. absurd (cc); to = λ k z e. absurd (cc) }
paired [] (y ∷ es) p = absurd p
paired (z ∷ ds) [] p = absurd p
paired (z ∷ ds) (y ∷ es) p = let q = paired ds es p.1 in record { count = ap suc q.count; at = go q; to = on q }
  where
    go : Paired ds es → (k : ℕ) (w : Module) → slice_get (y ∷ es) k ≡ Some w → (v : Module) × (slice_get (z ∷ ds) k ≡ Some v) × IsRenumbered v w
    go q zero w e = (z, refl, subst (λ (u : Module). IsRenumbered z u) (let same : y ≡ w = cc in same) p.0)
    go q (suc k) w e = q.at k w e

    on : Paired ds es → (k : ℕ) (w : Module) → slice_get (z ∷ ds) k ≡ Some w → (v : Module) × (slice_get (y ∷ es) k ≡ Some v) × IsRenumbered w v
    on q zero w e = (y, refl, subst (λ (u : Module). IsRenumbered u y) (let same : z ≡ w = cc in same) p.0)
    on q (suc k) w e = q.to k w e

pub taken : (n : ℕ) (ds es : List Module) → Pairwise IsRenumbered ds es → Pairwise IsRenumbered (take n ds) (take n es)
taken zero ds es p = tt
taken (suc n) [] [] p = tt
taken (suc n) [] (y ∷ es) p = absurd p
taken (suc n) (z ∷ ds) [] p = absurd p
taken (suc n) (z ∷ ds) (y ∷ es) p = (p.0, taken n ds es p.1)

module _ {m x : Module} (r : IsRenumbered m x) where
  pub same_width : (n : ℕ) → n < length m.nets → width_of x (r.number n) ≡ width_of m n
  same_width n h = ap net_width (r.nets n h)

  pub same_reg : (n : ℕ) → n < length m.nets → is_reg x (r.number n) ≡ is_reg m n
  same_reg n h = ap net_kept (r.nets n h)

  pub same_name : (n : ℕ) → n < length m.nets → name_of x (r.number n) ≡ name_of m n
  same_name n h = ap net_name (r.nets n h)

  pub same_number : (i j : ℕ) → i < length m.nets → j < length m.nets → r.number i ≡ r.number j → i ≡ j
  same_number i j h k e = sym (r.there i h).1 ∙ ap r.back e ∙ (r.there j k).1

  pub net_back : (k : ℕ) → k < length x.nets → slice_get m.nets (r.back k) ≡ slice_get x.nets k
  net_back k h = sym (r.nets (r.back k) (r.again k h).0) ∙ ap (slice_get x.nets) (r.again k h).1

  pub mem_count : length x.mems ≡ length m.mems
  mem_count = ap (λ (l : List Mem). length l) r.mems

  formed_net : ((k : ℕ) (n : Net) → slice_get m.nets k ≡ Some n → IsFormedNet n) → (k : ℕ) (n : Net) → slice_get x.nets k ≡ Some n → IsFormedNet n
  formed_net f k n e = f (r.back k) n (net_back k (slice_get_within x.nets k n e) ∙ e)

  formed_port : (p : Port) → IsFormedPort m p → IsFormedPort x (port_as r.number p)
  formed_port p f = record { net = (r.there p.net f.net).0; wire = same_reg p.net f.net ∙ f.wire }

  formed_expr : (e : Expr) → IsFormedExpr m e → IsFormedExpr x (expr_as r.number e)
  formed_expr e f = record {
    nets = λ n (i, at). let (
      k,
      is,
      same,
    ) = mapped r.number (reads e) (reads (expr_as r.number e)) i n
        (reads_as r.number e) at in subst (λ (v : ℕ). v < length x.nets) same
        (r.there k (f.nets k (i, is))).0;
    mem = λ k e'. subst (λ (v : ℕ). k < v) (sym mem_count) (f.mem k (sym (mem_as r.number e) ∙ e'));
    numbers = λ i v at. f.numbers i v (ap (λ (l : List ℕ). slice_get l i) (sym (numbers_as r.number e)) ∙ at);
  }

  formed_update : (u : Update) → IsFormedUpdate m u → IsFormedUpdate x (update_as r.number u)
  formed_update u f = record {
    enable = (r.there u.enable f.enable).0;
    value = (r.there u.value f.value).0;
    net = subst (λ (v : ℕ). v < length x.nets) (sym (net_as r.number u.target)) (r.there (target_net u.target) f.net).0;
    mem = λ k e. subst (λ (v : ℕ). k < v) (sym mem_count) (f.mem k (sym (mem_kept r.number u.target) ∙ e));
  }

  formed_instance : {ds es : List Module} → Paired ds es → (i : Instance) → IsFormedInstance ds m i → IsFormedInstance es x (instance_as r.number i)
  formed_instance p i f = record {
    name = f.name;
    is_earlier = (let c = p.count in let h = f.is_earlier in omega arith);
    nets = λ j n e. let (k, at, same) = mapped r.number i.nets (map r.number i.nets) j n refl e in subst (λ (v : ℕ). v < length x.nets) same (r.there k (f.nets j k at)).0;
    ports = λ y e. let (z, at, s) = p.at i.«module» y e in length-map i.nets r.number ∙ f.ports z at ∙ sym (ap (λ (l : List Port). length l) s.ports ∙ length-map z.ports (port_as s.number));
  }

  bit_inputs : (name : List ℕ) (ports : List Port) → ((k : ℕ) (p : Port)
      → slice_get ports k ≡ Some p → IsFormedPort m p)
      → list_any (is_bit_input x name) (map (port_as r.number) ports) ≡ list_any
      (is_bit_input m name) ports
  bit_inputs name [] f = refl
  bit_inputs name (p ∷ ports) f = let h = (f zero p refl).net in rw (same_width p.net h, same_name p.net h, bit_inputs name ports (λ k q e. f (suc k) q e)) refl

  pub formed_module : {ds es : List Module} → Paired ds es → IsFormedModule ds m → IsFormedModule es x
  formed_module {es = es} p f = record {
    name = subst (λ (l : List ℕ). IsTrue (is_name l)) (sym r.name) f.name;
    nets = formed_net f.nets;
    mems = λ k y e. f.mems k y (ap (λ (l : List Mem). slice_get l k) (sym r.mems) ∙ e);
    ports = λ k q e. let (o, at, same) = mapped (port_as r.number) m.ports x.ports k q r.ports e in subst (IsFormedPort x) same (formed_port o (f.ports k o at));
    apart = λ j k q s e h same.
        let (a, at, is) = mapped (port_as r.number) m.ports x.ports j q r.ports e in
        let (b, bt, js) = mapped (port_as r.number) m.ports x.ports k s r.ports h in
        f.apart j k a b at bt (same_number a.net b.net (f.ports j a at).net (f.ports k b bt).net (ap (λ (v : Port). v.net) is ∙ same ∙ sym (ap (λ (v : Port). v.net) js)));
    assigns = λ k q e.
        let (a, at, same) = mapped (assign_as r.number) m.assigns x.assigns k q r.assigns e in
        let g = f.assigns k a at in
        subst (IsFormedAssign x) same (record { target = (r.there a.target g.target).0; expr = formed_expr a.expr g.expr });
    updates = λ k q e. let (u, at, same) = mapped (update_as r.number) m.updates x.updates k q r.updates e in subst (IsFormedUpdate x) same (formed_update u (f.updates k u at));
    instances = λ k q e. let (i, at, same) = mapped (instance_as r.number) m.instances x.instances k q r.instances e in subst (IsFormedInstance es x) same (formed_instance p i (f.instances k i at));
    clock = subst (λ b. IsTrue b) (sym (ap (λ (l : List Port). list_any (is_bit_input x (codes "clk")) l) r.ports ∙ bit_inputs (codes "clk") m.ports f.ports)) f.clock;
    reset = subst (λ b. IsTrue b) (sym (ap (λ (l : List Port). list_any (is_bit_input x (codes "reset")) l) r.ports ∙ bit_inputs (codes "reset") m.ports f.ports)) f.reset;
  }

pub formed_again : (d e : Design) → AreRenumbered d e → IsFormed d.modules → IsFormed e.modules
formed_again d e p f =
    let q = paired d.modules e.modules p in
    record {
      some = (let c = q.count in let h = f.some in omega arith);
      each = λ k y at. let (z, is, r) = q.at k y at in formed_module r (paired (take k d.modules) (take k e.modules) (taken k d.modules e.modules p)) (f.each k z is);
    }
