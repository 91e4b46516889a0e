-- The bytes of the names in a module, by how long the names of its ports are and those that it gives.
use Rattle.std.proofs.Common.{◌≡◌, ◌∙◌, ◌⊎◌, inl, inr, ⊎_elim, ℕ, zero, suc, ◌+◌, ◌*◌, ◌<◌, ◌≤◌, Bool, true, false}
use Rattle.std.proofs.Common.{◌||◌, if◌then◌else◌, List, [], ◌∷◌, length, Option, Some, None, get_or, eqb, refl, sym, ap, subst, arith}
use Rattle.std.specs.Prelude.{map, slice_get, nat_lt}
use Rattle.std.specs.List.{All, AllByRecursion, IsDistinct, list_any, sum_by}
use Rattle.std.proofs.lemmas.Bool.{cases_lt, eqb-true, true≢false}
use Rattle.std.proofs.lemmas.Bool.Decides.{nat_tests}
use Rattle.std.proofs.lemmas.List.Elements.{All-weaker}
use Rattle.std.proofs.lemmas.List.Sums.{sum_by-cons, sum_by-le}
use Rattle.std.proofs.lemmas.Map.Steps.{length-le_from_distinct_below}
use Rattle.std.proofs.lemmas.Option.{slice_get-get_or}
use Rattle.std.proofs.Math.Nat.{mul-le-mul_right}
use Rattle.rtl_ir.specs.declared.design.Net.{Net}
use Rattle.rtl_ir.specs.declared.design.Mem.{Mem}
use Rattle.rtl_ir.specs.declared.design.Port.{Port}
use Rattle.rtl_ir.specs.declared.design.Assign.{Assign}
use Rattle.rtl_ir.specs.declared.design.Target.{Target}
use Rattle.rtl_ir.specs.declared.design.Target.TheVariants.{Reg, Cell as Word}
use Rattle.rtl_ir.specs.declared.design.Update.{Update}
use Rattle.rtl_ir.specs.declared.design.Module.{Module}
use Rattle.rtl_ir.specs.declared.design.Design.{Design}
use Rattle.rtl_ir.specs.Value.{is_reg}
use Rattle.rtl_ir.specs.Operands.{target_net, target_mem}
use Rattle.rtl_ir.specs.Formed.{IsFormedModule, net_name}
use Rattle.rtl_ir.specs.Rules.{IsSound}
use Rattle.rtl_reading.specs.Reads.{IsPortsFirst, numbers_from}
use Rattle.verilog_print.specs.Printed.{mem_name}
use Rattle.verilog_size.specs.Names.{HasShortNames, HasOwnNames, net_bytes, mem_bytes, assign_names, update_names, inner_names}
use Rattle.verilog_size.specs.Sizes.{OwnNamesAreFew}
use Rattle.verilog_size.proofs.Names.{net_up_to, expr_up_to, ports_up_to}
use Rattle.verilog_size.proofs.Slices.{found, mapped, one_of}
use Rattle.verilog_size.proofs.Slots.{assigned, targets_differ, few_slots}

-- ---- ports are the first nets

number_at : {A : Type 0} (xs : List A) (j k d : ℕ) → k < length xs → get_or (numbers_from j xs) k d ≡ j + k
number_at [] j k d lt = absurd (omega (arith, lt))
number_at (x ∷ xs) j zero d lt = omega arith
number_at (x ∷ xs) j (suc k) d lt =
    let rest = number_at xs (j + 1) k d (omega (arith, lt)) in
    omega (arith, rest)

-- the port that has a net before those of no ports
port_of : (m : Module) → IsPortsFirst m → (n : ℕ) → n < length m.ports
    → (p : Port) × (slice_get m.ports n ≡ Some p) × (p.net ≡ n)
port_of m first n lt =
    let p = found m.ports n lt in
    let own = mapped (λ (p : Port). p.net) m.ports n 0 p.0 p.1 in
    let same = ap (λ (ns : List ℕ). get_or ns n 0) first in
    let number = number_at m.ports 0 n 0 lt in
    (p.0, p.1, omega (arith, own, same, number))

-- ---- assignments to ports

-- the nets below this number to which these assign
abbrev firsts : ℕ → List Assign → List ℕ
firsts n [] = []
firsts n (a ∷ xs) = if nat_lt a.target n then a.target ∷ firsts n xs else firsts n xs

is_below : (a b : ℕ) → nat_lt a b ≡ true → a < b
is_below a b e = grind (arith, nat_tests)

is_behind : (a b : ℕ) → nat_lt a b ≡ false → b ≤ a
is_behind a b e = grind (arith, nat_tests)

-- what holds of all nets holds of the first
first_all : (P : ℕ → Type 0) (n : ℕ) (xs : List Assign)
    → AllByRecursion P (map (λ (a : Assign). a.target) xs) → AllByRecursion P (firsts n xs)
first_all P n [] all = tt
first_all P n (a ∷ xs) all = by_test (nat_lt a.target n) (first_all P n xs all.1)
  where
    by_test : (b : Bool) → AllByRecursion P (firsts n xs)
        → AllByRecursion P (if b then a.target ∷ firsts n xs else firsts n xs)
    by_test true rest = (all.0, rest)
    by_test false rest = rest

-- they differ where all do
first_differ : (n : ℕ) (xs : List Assign)
    → IsDistinct eqb (map (λ (a : Assign). a.target) xs) → IsDistinct eqb (firsts n xs)
unfolding IsDistinct
first_differ n [] differ = tt
first_differ n (a ∷ xs) differ =
    by_test (nat_lt a.target n) (first_differ n xs differ.1)
    (first_all (λ x. eqb a.target x ≡ false) n xs differ.0)
  where
    by_test : (b : Bool) → IsDistinct eqb (firsts n xs)
        → AllByRecursion (λ x. eqb a.target x ≡ false) (firsts n xs)
        → IsDistinct eqb (if b then a.target ∷ firsts n xs else firsts n xs)
    by_test true rest apart = (apart, rest)
    by_test false rest apart = rest

-- and are below the number
first_below : (n q : ℕ) (xs : List Assign) → list_any (eqb q) (firsts n xs) ≡ true → q < n
first_below n q [] h = absurd (true≢false (sym h))
first_below n q (a ∷ xs) h = by_test (nat_lt a.target n) refl (first_below n q xs) h
  where
    by_head : (b : Bool) → eqb q a.target ≡ b → a.target < n
        → (list_any (eqb q) (firsts n xs) ≡ true → q < n)
        → (b || list_any (eqb q) (firsts n xs)) ≡ true → q < n
    by_head true e lt rest t = let same = eqb-true q a.target e in omega (arith, same, lt)
    by_head false e lt rest t = rest t

    by_test : (b : Bool) → nat_lt a.target n ≡ b → (list_any (eqb q) (firsts n xs) ≡ true → q < n)
        → list_any (eqb q) (if b then a.target ∷ firsts n xs else firsts n xs) ≡ true → q < n
    by_test true e rest t = by_head (eqb q a.target) refl (is_below a.target n e) rest t
    by_test false e rest t = rest t

-- ---- names of ports, and others

module _ (m : Module) (most own : ℕ) (h : HasOwnNames most own m) where
  short : HasShortNames most m
  short = record {
    nets = h.nets;
    mems =
        let fewer = h.fewer in
        All-weaker (λ (k : Mem). length k.name ≤ own) (λ (k : Mem). length k.name ≤ most)
        (λ k few. omega (arith, few, fewer)) m.mems h.mems;
  }

  -- the declarations of these nets, of which so many at first may have long names
  declared_up_to : (nets : List Net) (p : ℕ) → All (λ (n : Net). length n.name ≤ most) nets
      → ((k : ℕ) (n : Net) → p ≤ k → slice_get nets k ≡ Some n → length n.name ≤ own)
      → sum_by (λ (n : Net). length n.name) nets ≤ own * length nets + most * p
  declared_up_to [] p long few = omega arith
  declared_up_to (n ∷ ns) zero long few =
      let sum = sum_by-cons (λ (n : Net). length n.name) n ns in
      let first = few 0 n (omega arith) refl in
      let rest = declared_up_to ns zero (λ k d lt. long (suc k) d (omega (arith, lt)))
      (λ k x le at. few (suc k) x (omega arith) at) in
      omega (arith, sum, first, rest)
  declared_up_to (n ∷ ns) (suc p) long few =
      let sum = sum_by-cons (λ (n : Net). length n.name) n ns in
      let first : length n.name ≤ most = long 0 n (omega arith) in
      let rest = declared_up_to ns p (λ k d lt. long (suc k) d (omega (arith, lt)))
      (λ k x le at. few (suc k) x (omega (arith, le)) at) in
      omega (arith, sum, first, rest)

  nets_up_to : sum_by (λ (n : Net). length n.name) m.nets ≤ own * length m.nets + most * length m.ports
  nets_up_to =
      declared_up_to m.nets (length m.ports) h.nets
      (λ k n le at. subst (λ o. length (net_name o) ≤ own) at (h.inner k le))

  -- the names of the nets to which these assign
  targets_up_to : (xs : List Assign)
      → sum_by (λ (a : Assign). net_bytes m a.target) xs
      ≤ own * length xs + most * length (firsts (length m.ports) xs)
  targets_up_to [] = omega arith
  targets_up_to (a ∷ xs) =
      let sum = sum_by-cons (λ (a : Assign). net_bytes m a.target) a xs in
      let rest = targets_up_to xs in
      let first = by_test (nat_lt a.target (length m.ports)) refl in
      omega (arith, sum, rest, first)
    where
      by_test : (b : Bool) → nat_lt a.target (length m.ports) ≡ b
          → net_bytes m a.target + most * length (firsts (length m.ports) xs)
          ≤ own + most * length (if b then a.target ∷ firsts (length m.ports) xs else firsts (length m.ports) xs)
      by_test true e = let long = net_up_to m most short a.target in omega (arith, long)
      by_test false e = let few = h.inner a.target (is_behind a.target (length m.ports) e) in omega (arith, few)

  -- their assignments have the names of three nets more
  assigns_up_to : (xs : List Assign)
      → sum_by (assign_names m) xs
      ≤ sum_by (λ (a : Assign). net_bytes m a.target) xs + 3 * most * length xs
  assigns_up_to [] = omega arith
  assigns_up_to (a ∷ xs) =
      let sum = sum_by-cons (assign_names m) a xs in
      let targets = sum_by-cons (λ (a : Assign). net_bytes m a.target) a xs in
      let rest = assigns_up_to xs in
      let first = expr_up_to m most short a.expr in
      omega (arith, sum, targets, rest, first)

  -- the name of a memory, or of none
  own_mem : (k : ℕ) → mem_bytes m (Some k) ≤ own
  own_mem k = go (slice_get m.mems k) refl
    where
      go : (o : Option Mem) → slice_get m.mems k ≡ o → length (mem_name o) ≤ own
      go None e = omega arith
      go (Some x) e = one_of (λ (y : Mem). length y.name ≤ own) m.mems h.mems k x e

  module _ {d : Design} {earlier : List Module} (f : IsFormedModule earlier m) (s : IsSound d m)
      (first : IsPortsFirst m) where
    -- there are at most as many as ports
    few_firsts : length (firsts (length m.ports) m.assigns) ≤ length m.ports
    few_firsts =
        length-le_from_distinct_below (firsts (length m.ports) m.assigns) (length m.ports)
        (first_differ (length m.ports) m.assigns (targets_differ {d = d} m f s))
        (λ q t. first_below (length m.ports) q m.assigns t)

    -- a register is no port
    register_up_to : (n : ℕ) → is_reg m n ≡ true → net_bytes m n ≤ own
    register_up_to n reg = ⊎_elim
        (λ (lt : n < length m.ports).
        let p = port_of m first n lt in
        let wire = (f.ports n p.0 p.1).wire in
        absurd (true≢false (sym reg ∙ ap (is_reg m) (sym p.2) ∙ wire)))
        (λ (le : length m.ports ≤ n). h.inner n le)
        (cases_lt n (length m.ports))

    update_up_to : (k : ℕ) (u : Update) → slice_get m.updates k ≡ Some u
        → update_names m u ≤ own + 3 * most
    update_up_to k u at = by_target u.target refl
      where
        by_target : (t : Target) → u.target ≡ t → update_names m u ≤ own + 3 * most
        by_target (Reg n) e =
            let few = register_up_to n (s.updated.only n k u at e).0 in
            let net = ap (λ t. net_bytes m (target_net t)) e in
            let none = ap (λ t. mem_bytes m (target_mem t)) e in
            let enable = net_up_to m most short u.enable in
            let value = net_up_to m most short u.value in
            omega (arith, few, net, none, enable, value)
        by_target (Word i a) e =
            let net = ap (λ t. net_bytes m (target_net t)) e in
            let mem = ap (λ t. mem_bytes m (target_mem t)) e in
            let address = net_up_to m most short a in
            let few = own_mem i in
            let enable = net_up_to m most short u.enable in
            let value = net_up_to m most short u.value in
            omega (arith, net, mem, address, few, enable, value)

    pub inner_few : inner_names m
        ≤ 3 * most * length m.ports + (2 * own + 3 * most) * (length m.nets + length m.mems)
    inner_few =
        let ports = ports_up_to m most short in
        let nets = nets_up_to in
        let mems = sum_by-le (λ (k : Mem). length k.name) own m.mems h.mems in
        let targets = targets_up_to m.assigns in
        let assigns = assigns_up_to m.assigns in
        let firsts_few = mul-le-mul_right most few_firsts in
        let updates =
        sum_by-le (update_names m) (own + 3 * most) m.updates
        (λ k d within. update_up_to k (get_or m.updates k d) (slice_get-get_or m.updates k d within)) in
        let slots = mul-le-mul_right (own + 3 * most) (few_slots {d = d} m f s) in
        omega (arith, ports, nets, mems, targets, assigns, firsts_few, updates, slots)

pub own_names_few : OwnNamesAreFew
own_names_few d earlier m most own formed sound first has =
    inner_few m most own has {d = d} formed sound first
