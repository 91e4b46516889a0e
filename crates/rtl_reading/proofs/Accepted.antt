-- A design with its nets under other numbers is accepted where it was.
use Rattle.std.proofs.Common.{◌≡◌, ◌∙◌, ◌⊎◌, inl, inr, ℕ, zero, suc, ◌+◌, ◌<◌, Bool, true, false, List, [], ◌∷◌, ◌++◌, length, take, refl, sym, ap, subst, arith, Option, Some, None, append_assoc}
use Rattle.std.specs.Prelude.{map, slice_get}
use Rattle.std.specs.Option.{option_map}
use Rattle.std.proofs.lemmas.Option.{slice_get_within, slice_get-map}
use Rattle.std.proofs.lemmas.List.{length-map}
use Rattle.rtl_ir.specs.declared.design.Net.{Net}
use Rattle.rtl_ir.specs.declared.design.Mem.{Mem}
use Rattle.rtl_ir.specs.declared.design.Port.{Port}
use Rattle.rtl_ir.specs.declared.design.Assign.{Assign}
use Rattle.rtl_ir.specs.declared.design.Instance.{Instance}
use Rattle.rtl_ir.specs.declared.design.Module.{Module}
use Rattle.rtl_ir.specs.declared.design.Design.{Design}
use Rattle.rtl_ir.specs.Operands.{reads, IsRead}
use Rattle.rtl_ir.specs.Formed.{IsFormedModule, IsFormed}
use Rattle.rtl_ir.specs.Rules.{names_of, AllDiffer, Connection, Feeds, Way, IsLevelled, IsSound, IsAccepted}
use Rattle.rtl_text.specs.Text.{Pairwise}
use Rattle.rtl_reading.specs.Renumbered.{port_as, expr_as, assign_as, instance_as, IsRenumbered, AreRenumbered}
use Rattle.rtl_reading.proofs.Same.{mapped, reads_as, Paired, paired, net_back, formed_again}
use Rattle.rtl_reading.proofs.Sound.{JoinsAt, joins_at, driven_again, updated_again, widths_again}

some_is : {A : Type 0} {x y : A} → Some x ≡ Some y → x ≡ y
some_is e = cc

-- names
abbrev Name : Type 0
Name = List ℕ

abbrev Front : List Name → List Name → ℕ → Name → Type 0
Front xs ys i name = (slice_get xs i ≡ Some name) ⊎ ((d : ℕ) × (slice_get ys d ≡ Some name) × (i ≡ length xs + d))

one_more : (x : Name) (xs ys : List Name) (i : ℕ) (name : Name) → Front xs ys i name → Front (x ∷ xs) ys (suc i) name
one_more x xs ys i name (inl h) = inl h
one_more x xs ys i name (inr (d, h, e)) = inr (d, h, omega arith)

front_or : (xs ys : List Name) (i : ℕ) (name : Name) → slice_get (xs ++ ys) i ≡ Some name → Front xs ys i name
front_or [] ys i name h = inr (i, h, omega arith)
front_or (x ∷ xs) ys zero name h = inl h
front_or (x ∷ xs) ys (suc i) name h = one_more x xs ys i name (front_or xs ys i name h)

in_front : (xs ys : List Name) (i : ℕ) (name : Name) → slice_get xs i ≡ Some name → slice_get (xs ++ ys) i ≡ Some name
in_front [] ys i name h = absurd (cc)
in_front (x ∷ xs) ys zero name h = h
in_front (x ∷ xs) ys (suc i) name h = in_front xs ys i name h

in_back : (xs ys : List Name) (d : ℕ) (name : Name) → slice_get ys d ≡ Some name → slice_get (xs ++ ys) (length xs + d) ≡ Some name
in_back [] ys d name h = let same : 0 + d ≡ d = omega arith in ap (slice_get ys) same ∙ h
in_back (x ∷ xs) ys d name h = let same : suc (length xs) + d ≡ suc (length xs + d) = omega arith in ap (slice_get (x ∷ (xs ++ ys))) same ∙ in_back xs ys d name h

differ_moved : (xs zs ys : List Name) (back : ℕ → ℕ) → ((k : ℕ) (name : Name)
    → slice_get zs k ≡ Some name → slice_get xs (back k) ≡ Some name)
    → ((j k : ℕ) → j < length zs → k < length zs → back j ≡ back k → j ≡ k)
    → AllDiffer (xs ++ ys) → AllDiffer (zs ++ ys)
differ_moved xs zs ys back there apart differ i j name h k = go (front_or zs ys i name h) (front_or zs ys j name k)
  where
    go : Front zs ys i name → Front zs ys j name → i ≡ j
    go (inl a) (inl b) = apart i j (slice_get_within zs i name a) (slice_get_within zs j name b)
        (differ (back i) (back j) name (in_front xs ys (back i) name (there i name a))
        (in_front xs ys (back j) name (there j name b)))
    go (inl a) (inr (d, b, e)) =
        let same = differ (back i) (length xs + d) name (in_front xs ys (back i) name (there i name a)) (in_back xs ys d name b) in
        let within = slice_get_within xs (back i) name (there i name a) in
        absurd (omega arith)
    go (inr (d, a, e)) (inl b) =
        let same = differ (back j) (length xs + d) name (in_front xs ys (back j) name (there j name b)) (in_back xs ys d name a) in
        let within = slice_get_within xs (back j) name (there j name b) in
        absurd (omega arith)
    go (inr (c, a, e)) (inr (d, b, f)) = let same = differ (length xs + c) (length xs + d) name (in_back xs ys c name a) (in_back xs ys d name b) in omega arith

instance_names : (f : ℕ → ℕ) (instances : List Instance) → map (λ (i : Instance). i.name) (map (instance_as f) instances) ≡ map (λ (i : Instance). i.name) instances
instance_names f [] = refl
instance_names f (i ∷ instances) = ap (λ (l : List Name). i.name ∷ l) (instance_names f instances)

abbrev other_names : Module → List Name
other_names m = map (λ (k : Mem). k.name) m.mems ++ map (λ (i : Instance). i.name) m.instances

abbrev net_names : Module → List Name
net_names m = map (λ (n : Net). n.name) m.nets

split_names : (m : Module) → names_of m ≡ net_names m ++ other_names m
split_names m = append_assoc (net_names m) (map (λ (k : Mem). k.name) m.mems) (map (λ (i : Instance). i.name) m.instances)

names_again : {m x : Module} → IsRenumbered m x → AllDiffer (names_of m) → AllDiffer (names_of x)
names_again {m = m} {x = x} r h =
    let others : other_names x ≡ other_names m =
    ap (λ (l : List Mem). map (λ (k : Mem). k.name) l ++ map (λ (i : Instance). i.name) x.instances) r.mems
    ∙ ap (λ (l : List Name). map (λ (k : Mem). k.name) m.mems ++ l) (ap (λ (l : List Instance). map (λ (i : Instance). i.name) l) r.instances ∙ instance_names r.number m.instances) in
    let there : (k : ℕ) (name : Name) → slice_get (net_names x) k ≡ Some name → slice_get (net_names m) (r.back k) ≡ Some name =
    λ k name e.
    let (n, at, same) = mapped (λ (n : Net). n.name) x.nets (net_names x) k name refl e in
    slice_get-map (λ (n : Net). n.name) m.nets (r.back k) ∙ ap
    (option_map (λ (n : Net). n.name)) (net_back r k (slice_get_within x.nets k n at)) ∙ sym
    (slice_get-map (λ (n : Net). n.name) x.nets k) ∙ e in
    let apart : (j k : ℕ) → j < length (net_names x) → k < length (net_names x) → r.back j ≡ r.back k → j ≡ k =
    λ j k a b e.
    let count : length (net_names x) ≡ length x.nets = length-map x.nets (λ (n : Net). n.name) in
    sym (r.again j (omega arith)).1 ∙ ap r.number e ∙ (r.again k (omega arith)).1 in
    subst AllDiffer (sym (split_names x ∙ ap (λ (l : List Name). net_names x
    ++ l) others)) (differ_moved (net_names m) (net_names x)
    (other_names m) r.back there apart (subst AllDiffer (split_names m) h))

-- the same connection, with the module of another one of the instance
abbrev beside : {e : Design} {x : Module} {k j l : ℕ} → Connection e x k j → Connection e x k l → Connection e x k j
beside {e = e} {x = x} {k = k} {j = j} c o =
    let part : c.part ≡ o.part = some_is (sym c.of ∙ o.of) in
    let inner : c.inner ≡ o.inner = some_is (sym c.is ∙ ap (λ (v : Instance). slice_get e.modules v.«module») part ∙ o.is) in
    record {
      part = o.part;
      of = o.of;
      inner = o.inner;
      is = o.is;
      port = c.port;
      at = subst (λ (v : Module). slice_get v.ports j ≡ Some c.port) inner c.at;
      net = c.net;
      joins = subst (λ (v : Instance). slice_get v.nets j ≡ Some c.net) part c.joins;
    }

-- ways
module _ {d e : Design} (q : Paired d.modules e.modules) (all : IsFormed d.modules) where
  mutual
    feeds_back : {x : Module} {a b : ℕ} → Feeds e x a b → {m : Module} {earlier : List Module} (r : IsRenumbered m x) → IsFormedModule earlier m → Feeds d m (r.back a) (r.back b)
    feeds_back {x = x} (Feeds.by_assign j n a at read) {m = m} r f =
        let (c, ct, is) = mapped (assign_as r.number) m.assigns x.assigns j a r.assigns at in
        let g = f.assigns j c ct in
        let (i, h) = read in
        let here : slice_get (reads (expr_as r.number c.expr)) i ≡ Some n = ap (λ (v : Assign). slice_get (reads v.expr) i) is ∙ h in
        let (k, kt, same) = mapped r.number (reads c.expr) (reads (expr_as r.number c.expr)) i n (reads_as r.number c.expr) here in
        let from : r.back n ≡ k = ap r.back (sym same) ∙ (r.there k (g.expr.nets k (i, kt))).1 in
        let into : r.back a.target ≡ c.target = ap (λ (v : Assign). r.back v.target) (sym is) ∙ (r.there c.target g.target).1 in
        subst (λ (v : ℕ). Feeds d m v (r.back a.target)) (sym from) (subst (λ (v : ℕ). Feeds d m k v) (sym into) (Feeds.by_assign j k c ct (i, kt)))
    feeds_back {x = x} (Feeds.by_part k j l c o into out way) {m = m} r f =
        let (z, zt, s) = q.at o.part.«module» o.inner o.is in
        let g : JoinsAt d r k l o z s = joins_at q r k l o z zt s in
        let moved : Connection e x k j = beside c o in
        let b : JoinsAt d r k j moved z s = joins_at q r k j moved z zt s in
        let inside : IsFormedModule (take o.part.«module» d.modules) z = all.each o.part.«module» z zt in
        let first : Connection d m k j = record { part = b.part; of = b.of; inner = z; is = b.is; port = b.port; at = b.at; net = b.net; joins = b.joins } in
        let last : Connection d m k l = record { part = g.part; of = g.of; inner = z; is = g.is; port = g.port; at = g.at; net = g.net; joins = g.joins } in
        let from : s.back c.port.net ≡ b.port.net = ap (λ (v : Port). s.back v.net) (sym b.same_port) ∙ (s.there b.port.net (inside.ports j b.port b.at).net).1 in
        let to : s.back o.port.net ≡ g.port.net = ap (λ (v : Port). s.back v.net) (sym g.same_port) ∙ (s.there g.port.net (inside.ports l g.port g.at).net).1 in
        let w : Way d z (s.back c.port.net) (s.back o.port.net) = way_back way s inside in
        let w' : Way d z b.port.net g.port.net = subst (λ (v : ℕ). Way d z v g.port.net) from (subst (λ (v : ℕ). Way d z (s.back c.port.net) v) to w) in
        let near : r.back c.net ≡ b.net = ap r.back (sym b.same_net) ∙ (r.there b.net ((f.instances k b.part b.of).nets j b.net b.joins)).1 in
        let far : r.back o.net ≡ g.net = ap r.back (sym g.same_net) ∙ (r.there g.net ((f.instances k g.part g.of).nets l g.net g.joins)).1 in
        subst (λ (v : ℕ). Feeds d m v (r.back o.net)) (sym near)
        (subst (λ (v : ℕ). Feeds d m b.net v) (sym far) (Feeds.by_part k j l first last (ap (λ (v : Port). v.output) b.same_port ∙ into) (ap (λ (v : Port). v.output) g.same_port ∙ out) w'))

    way_back : {x : Module} {a z : ℕ} → Way e x a z → {m : Module} {earlier : List Module} (r : IsRenumbered m x) → IsFormedModule earlier m → Way d m (r.back a) (r.back z)
    way_back Way.stay r f = Way.stay
    way_back (Way.step s w) r f = Way.step (feeds_back s r f) (way_back w r f)

  sound_again : {m x : Module} {earlier : List Module} → IsRenumbered m x → IsFormedModule earlier m → IsSound d m → IsSound e x
  sound_again r f h = record {
    names = names_again r h.names;
    driven = driven_again q r f h.driven;
    updated = updated_again q r h.updated;
    widths = widths_again q r f all h.widths;
    levelled = record { rank = λ n. h.levelled.rank (r.back n); rising = λ a b w. h.levelled.rising (r.back a) (r.back b) (feeds_back w r f) };
  }

module_names : (ds es : List Module) → Pairwise IsRenumbered ds es → map (λ (m : Module). m.name) es ≡ map (λ (m : Module). m.name) ds
module_names [] [] p = refl
module_names [] (y ∷ es) p = absurd p
module_names (z ∷ ds) [] p = absurd p
module_names (z ∷ ds) (y ∷ es) p = let a = p.0.name in let b = module_names ds es p.1 in λ i. a i ∷ b i

pub accepted_again : (d e : Design) → AreRenumbered d e → IsAccepted d → IsAccepted e
accepted_again d e p h =
    let q : Paired d.modules e.modules = paired d.modules e.modules p in
    record {
      formed = formed_again d e p h.formed;
      names = subst AllDiffer (sym (module_names d.modules e.modules p)) h.names;
      sound = λ k y at. let (z, is, r) = q.at k y at in sound_again {d = d} {e = e} q h.formed r (h.formed.each k z is) (h.sound k z is);
    }
