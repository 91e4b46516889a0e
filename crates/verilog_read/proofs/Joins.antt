-- The ports of an instance, joined one by one.
use Rattle.std.proofs.Common.{◌≡◌, ◌≢◌, ◌∙◌, ℕ, zero, suc, ◌+◌, ◌<◌, Bool, true, false, ◌&&◌, ◌||◌}
use Rattle.std.proofs.Common.{not, cond, List, [], ◌∷◌, ◌++◌, length, map, set, replicate, Option}
use Rattle.std.proofs.Common.{Some, None, is_some, refl, sym, ap, subst, append_assoc, arith, ◌⊎◌}
use Rattle.std.proofs.Common.{inl, inr, get_or}
use Rattle.std.specs.Prelude.{slice_get, Contains, bytes_eq}
use Rattle.std.specs.List.{list_any}
use Rattle.std.specs.Option.{option_map}
use Rattle.std.proofs.lemmas.Bool.{cases_eq}
use Rattle.std.proofs.lemmas.List.{append-nil, length-append, length-map, length-replicate}
use Rattle.std.proofs.lemmas.Option.{slice_get_within, slice_get-map, slice_get-get_or}
use Rattle.std.proofs.lemmas.List.Folds.{list_any-append}
use Rattle.rtl_check.proofs.Places.{at_set, beside_set}
use Rattle.rtl_ir.specs.declared.design.Module.{Module}
use Rattle.rtl_text.specs.Tree.{Name, Connection, ModuleTree}
use Rattle.rtl_text.specs.Text.{Pairwise, IsNet}
use Rattle.rtl_reading.specs.Uses.{Use, Scope, is_in, net, connection_uses, joined_uses, module_named, first_undeclared}
use Rattle.verilog_read.specs.Tables.{stands, number_from}
use Rattle.verilog_read.specs.Built.{IsJoinedTo}
use Rattle.verilog_read.specs.Walk.{AllDeclared, module_name}
use Rattle.verilog_read.specs.Joined.{some_name, port_number, named_ports, IsSlot, count_joined, AreJoined, IsFree, IsTaken, IsFirstFree}
use Rattle.verilog_read.proofs.Tables.{same_name, is_itself, turned, map_joined, number_place, number_any, lone_known}
use Rattle.verilog_read.proofs.FirstUse.{both, later}

some_is : {A : Type 0} {x y : A} → Some x ≡ Some y → x ≡ y
some_is e = cc

or_parts : (a b : Bool) → (a || b) ≡ false → (a ≡ false) × (b ≡ false)
or_parts false b e = (refl, e)
or_parts true b e = absurd (cc)

-- uses of connections
pub uses_joined : (sc : Scope) (ports : List Name) (before cs ds : List Connection)
    → connection_uses sc ports before (cs ++ ds) ≡ connection_uses sc ports before cs
    ++ connection_uses sc ports (before ++ cs) ds
uses_joined sc ports before [] ds = ap (λ l. connection_uses sc ports l ds) (sym (append-nil before))
uses_joined sc ports before (c ∷ cs) ds =
    let own : Use = record { name = c.port; declared = is_in c.port ports && not (is_in c.port (named_ports before)) } in
    ap (λ l. own ∷ net sc c.net ∷ l) (uses_joined sc ports (before ++ c
    ∷ []) cs ds ∙ ap (λ l. connection_uses sc ports (before ++ c ∷ []) cs
    ++ connection_uses sc ports l ds) (append_assoc before (c ∷ []) cs))

-- tests
and_both : (a b : Bool) → a ≡ true → b ≡ false → (a && not b) ≡ true
and_both true false e f = refl
and_both true true e f = absurd (cc)
and_both false b e f = absurd (cc)

and_first : (a b : Bool) → a ≡ false → (a && not b) ≡ false
and_first true b e = absurd (cc)
and_first false b e = refl

and_second : (a b : Bool) → b ≡ true → (a && not b) ≡ false
and_second true true e = refl
and_second false true e = refl
and_second a false e = absurd (cc)

or_first : (a b : Bool) → a ≡ true → (a || b) ≡ true
or_first true b e = refl
or_first false b e = absurd (cc)

or_second : (a b : Bool) → b ≡ true → (a || b) ≡ true
or_second true b e = refl
or_second false b e = e

or_none : (a b : Bool) → a ≡ false → b ≡ false → (a || b) ≡ false
or_none false b e f = f
or_none true b e f = absurd (cc)

names_any : (names : List Name) (q : Name) → list_any (λ o. stands o q) (map some_name names) ≡ is_in q names
names_any [] q = refl
names_any (n ∷ ns) q = ap (λ b. bytes_eq q n || b) (names_any ns q)

number_known : (ports : List Name) (q : Name) → is_some (port_number ports q) ≡ is_in q ports
number_known ports q = number_any 0 (map some_name ports) q ∙ names_any ports q

name_there : (ports : List Name) (q : Name) (k : ℕ) → port_number ports q ≡ Some k → slice_get ports k ≡ Some q
name_there ports q k e = unmapped (slice_get ports k) (sym (slice_get-map some_name ports k) ∙ number_place (map some_name ports) q k e)
  where
    unmapped : (o : Option Name) → option_map some_name o ≡ Some (Some q) → o ≡ Some q
    unmapped None e = absurd (cc)
    unmapped (Some x) e = cc

contained : (cs : List Connection) (c : Connection) → Contains cs c → is_in c.port (named_ports cs) ≡ true
contained cs c h = found cs h.0 (slice_get-get_or cs h.0 c h.1 ∙ ap Some h.2)
  where
    found : (cs : List Connection) (k : ℕ) → slice_get cs k ≡ Some c → is_in c.port (named_ports cs) ≡ true
    found [] k e = absurd (cc)
    found (x ∷ cs) zero e = let same : x ≡ c = some_is e in or_first (bytes_eq c.port x.port) (is_in c.port (named_ports cs)) (ap (λ (y : Connection). bytes_eq c.port y.port) same ∙ is_itself c.port)
    found (x ∷ cs) (suc k) e = or_second (bytes_eq c.port x.port) (is_in c.port (named_ports cs)) (found cs k e)

contains_more : (cs : List Connection) (x c : Connection) → Contains cs c → Contains (cs ++ x ∷ []) c
contains_more cs x c h = (h.0, omega (arith, h.1, length-append cs (x ∷ [])), front cs h.0 h.1 ∙ h.2)
  where
    front : (cs : List Connection) (k : ℕ) → k < length cs → get_or (cs ++ x ∷ []) k c ≡ get_or cs k c
    front [] k lt = absurd (omega arith)
    front (y ∷ cs) zero lt = refl
    front (y ∷ cs) (suc k) lt = front cs k (omega arith)

contains_last : (cs : List Connection) (x : Connection) → Contains (cs ++ x ∷ []) x
contains_last cs x = (length cs, omega (arith, length-append cs (x ∷ [])), last cs)
  where
    last : (cs : List Connection) → get_or (cs ++ x ∷ []) (length cs) x ≡ x
    last [] = refl
    last (y ∷ cs) = last cs

joined_later : {m : Module} (cs : List Connection) (x : Connection) (name : Name) (n : ℕ) → IsJoinedTo m cs name n → IsJoinedTo m (cs ++ x ∷ []) name n
joined_later cs x name n h = record { net = h.net; listed = contains_more cs x _ h.listed; joined = h.joined }

count_set : (slots : List (Option ℕ)) (k n : ℕ) → slice_get slots k ≡ Some None → count_joined (set slots k (Some n)) ≡ suc (count_joined slots)
count_set [] k n e = absurd (cc)
count_set (Some a ∷ slots) zero n e = let f : Some a ≡ None = some_is e in absurd (cc)
count_set (None ∷ slots) zero n e = refl
count_set (Some a ∷ slots) (suc k) n e = ap suc (count_set slots k n e)
count_set (None ∷ slots) (suc k) n e = count_set slots k n e

length_set : {A : Type 0} (xs : List A) (k : ℕ) (y : A) → length (set xs k y) ≡ length xs
length_set [] k y = refl
length_set (x ∷ xs) zero y = refl
length_set (x ∷ xs) (suc k) y = ap suc (length_set xs k y)

-- one connection more
module _ (sc : Scope) (m : Module) (ports : List Name) (front : List Connection) (c : Connection) (slots : List (Option ℕ)) (h : AreJoined m ports front slots) where
  own : Use
  own = record { name = c.port; declared = is_in c.port ports && not (is_in c.port (named_ports front)) }

  pub own_known : (k : ℕ) → IsFree ports slots c.port k → (is_in c.port ports && not (is_in c.port (named_ports front))) ≡ true
  own_known k f = and_both (is_in c.port ports) (is_in c.port (named_ports front))
      (sym (number_known ports c.port) ∙ ap is_some f.number)
      (h.each k c.port None (name_there ports c.port k f.number) f.free f.number)

  pub own_unknown : IsTaken ports slots c.port → (is_in c.port ports && not (is_in c.port (named_ports front))) ≡ false
  own_unknown t = by_number (port_number ports c.port) refl
    where
      by_slot : (k : ℕ) → port_number ports c.port ≡ Some k → (o : Option ℕ) → slice_get slots k ≡ Some o → (is_in c.port ports && not (is_in c.port (named_ports front))) ≡ false
      by_slot k e None f = absurd (t k e f)
      by_slot k e (Some n) f =
          let s = h.each k c.port (Some n) (name_there ports c.port k e) f in
          and_second (is_in c.port ports) (is_in c.port (named_ports front)) (contained front (record { port = c.port; net = s.0.net }) s.0.listed)

      by_number : (o : Option ℕ) → port_number ports c.port ≡ o → (is_in c.port ports && not (is_in c.port (named_ports front))) ≡ false
      by_number None e = and_first (is_in c.port ports) (is_in c.port (named_ports front)) (sym (number_known ports c.port) ∙ ap is_some e)
      by_number (Some k) e =
          let lt = slice_get_within ports k c.port (name_there ports c.port k e) in
          by_slot k e (get_or slots k None) (slice_get-get_or slots k None (omega (arith, lt, h.size)))

  pub joined_more : (k n : ℕ) → IsFree ports slots c.port k → IsNet m c.net n → AreJoined m ports (front ++ c ∷ []) (set slots k (Some n))
  joined_more k n f is = record {
    size = length_set slots k (Some n) ∙ h.size;
    each = λ j name slot a b. each j name slot a b (cases_eq j k);
    count = count_set slots k n f.free ∙ ap suc h.count ∙ omega (arith, length-append front (c ∷ []));
  }
    where
      other : (j : ℕ) (name : Name) (slot : Option ℕ) → j ≢ k → slice_get ports j ≡ Some name → IsSlot m ports front j name slot → IsSlot m ports (front ++ c ∷ []) j name slot
      other j name (Some x) ne a s = (joined_later front c name x s.0, s.1)
      other j name None ne a s = λ e.
          let apart : bytes_eq name c.port ≡ false = differs (bytes_eq name c.port) refl (λ same. ne (some_is (sym e ∙ ap (port_number ports) same ∙ f.number))) in
          ap (is_in name) (map_joined (λ (y : Connection). y.port) front (c ∷ [])) ∙ list_any-append (bytes_eq name) (named_ports front) (c.port ∷ [])
          ∙ or_none (is_in name (named_ports front)) (bytes_eq name c.port || false) (s e) (or_none (bytes_eq name c.port) false apart refl)
        where
          differs : (b : Bool) → bytes_eq name c.port ≡ b → (name ≡ c.port → ⊥) → bytes_eq name c.port ≡ false
          differs false g not_same = g
          differs true g not_same = absurd (not_same (same_name name c.port g))

      this : (name : Name) (slot : Option ℕ) → slice_get ports k ≡ Some name → Some n ≡ slot → IsSlot m ports (front ++ c ∷ []) k name slot
      this name slot a b =
          let same : c.port ≡ name = some_is (sym (name_there ports c.port k f.number) ∙ a) in
          subst (λ s. IsSlot m ports (front ++ c ∷ []) k name s) b (subst (λ (p : Name). IsJoinedTo m (front ++ c ∷ []) p n × (port_number ports p ≡ Some k)) same
          (record { net = c.net; listed = contains_last front c; joined = is }, f.number))

      each : (j : ℕ) (name : Name) (slot : Option ℕ) → slice_get ports j ≡ Some name → slice_get (set slots k (Some n)) j ≡ Some slot → (j ≡ k) ⊎ (j ≢ k) → IsSlot m ports (front ++ c ∷ []) j name slot
      each j name slot a b (inl e) =
          let lt = slice_get_within slots k None f.free in
          let here : Some n ≡ slot = some_is (sym (at_set slots k (Some n) lt) ∙ ap (slice_get (set slots k (Some n))) (sym e) ∙ b) in
          subst (λ i. IsSlot m ports (front ++ c ∷ []) i name slot) (sym e) (this name slot (ap (slice_get ports) (sym e) ∙ a) here)
      each j name slot a b (inr ne) = other j name slot ne a (h.each j name slot a (sym (beside_set slots k j (Some n) ne) ∙ b))

-- no connection yet
nothing_at : (n k : ℕ) (s : Option ℕ) → slice_get (replicate n None) k ≡ Some s → None ≡ s
nothing_at zero k s e = absurd (cc)
nothing_at (suc n) zero s e = some_is e
nothing_at (suc n) (suc k) s e = nothing_at n k s e

count_none : (n : ℕ) → count_joined (replicate n None) ≡ 0
count_none zero = refl
count_none (suc n) = count_none n

pub none_joined : (m : Module) (ports : List Name) (slots : List (Option ℕ)) → slots ≡ replicate (length ports) None → AreJoined m ports [] slots
none_joined m ports slots e = record {
  size = ap length e ∙ length-replicate (length ports) None;
  each = λ k name slot a b. subst (λ s. IsSlot m ports [] k name s) (nothing_at (length ports) k slot (ap (λ l. slice_get l k) (sym e) ∙ b)) (λ g. refl);
  count = ap count_joined e ∙ count_none (length ports);
}

-- the first place of a name
first_place : (k : ℕ) (before rest : List Name) (p : Name) → is_in p before ≡ false → number_from k (map some_name (before ++ p ∷ rest)) p ≡ Some (k + length before)
first_place k [] rest p e = let t = is_itself p in let n : k ≡ k + 0 = omega arith in rw t (ap Some n)
first_place k (x ∷ before) rest p e =
    let parts = or_parts (bytes_eq p x) (is_in p before) e in
    let n : k + 1 + length before ≡ k + suc (length before) = omega arith in
    let f = parts.0 in
    rw f (first_place (k + 1) before rest p parts.1 ∙ ap Some n)

not_first : (k : ℕ) (before rest : List Name) (p : Name) (n : ℕ) → is_in p before ≡ true → number_from k (map some_name (before ++ rest)) p ≡ Some n → n < k + length before
not_first k [] rest p n e f = absurd (cc)
not_first k (x ∷ before) rest p n e f = by_head (bytes_eq p x) refl e f (λ g h. not_first (k + 1) before rest p n g h)
  where
    by_head : (b : Bool) → bytes_eq p x ≡ b → (b || is_in p before) ≡ true → cond b (Some k) (number_from (k + 1) (map some_name (before ++ rest)) p) ≡ Some n
        → (is_in p before ≡ true → number_from (k + 1) (map some_name (before ++ rest)) p ≡ Some n → n < k + 1 + length before) → n < k + suc (length before)
    by_head true t g h more = let same : k ≡ n = some_is h in omega arith
    by_head false t g h more = let r = more g h in omega arith

-- at the end of an instance
module _ (m : Module) (cs : List Connection) (full : List Name) where
  abbrev Facts : List Name → List Name → List (Option ℕ) → Type 0
  Facts before rest slots = (j : ℕ) (name : Name) (slot : Option ℕ) → slice_get rest j ≡ Some name → slice_get slots j ≡ Some slot → IsSlot m full cs (length before + j) name slot

  tail_facts : (before rest : List Name) (p : Name) (slot : Option ℕ) (slots : List (Option ℕ)) → Facts before (p ∷ rest) (slot ∷ slots) → Facts (before ++ p ∷ []) rest slots
  tail_facts before rest p slot slots f j name s a b =
      let n : length before + suc j ≡ length (before ++ p ∷ []) + j = omega (arith, length-append before (p ∷ [])) in
      subst (λ k. IsSlot m full cs k name s) n (f (suc j) name s a b)

  declared : (before rest : List Name) (p : Name) (n : ℕ) → full ≡ before ++ p ∷ rest → IsSlot m full cs (length before + 0) p (Some n) → (is_in p (named_ports cs) && not (is_in p before)) ≡ true
  declared before rest p n e s =
      and_both (is_in p (named_ports cs)) (is_in p before) (contained cs (record { port = p; net = s.0.net }) s.0.listed) (apart (is_in p before) refl)
    where
      apart : (b : Bool) → is_in p before ≡ b → is_in p before ≡ false
      apart false t = t
      apart true t = absurd (omega (arith, not_first 0 before (p ∷ rest) p (length before + 0) t (ap (λ l. port_number l p) (sym e) ∙ s.1)))

  undeclared : (before rest : List Name) (p : Name) → full ≡ before ++ p ∷ rest → IsSlot m full cs (length before + 0) p None → (is_in p (named_ports cs) && not (is_in p before)) ≡ false
  undeclared before rest p e s = by_before (is_in p before) refl
    where
      by_before : (b : Bool) → is_in p before ≡ b → (is_in p (named_ports cs) && not (is_in p before)) ≡ false
      by_before true t = and_second (is_in p (named_ports cs)) (is_in p before) t
      by_before false t =
          let n : 0 + length before ≡ length before + 0 = omega arith in
          and_first (is_in p (named_ports cs)) (is_in p before) (s (ap (λ l. port_number l p) e ∙ first_place 0 before rest p t ∙ ap Some n))

  step : (before rest : List Name) (p : Name) → full ≡ before ++ p ∷ rest → full ≡ (before ++ p ∷ []) ++ rest
  step before rest p e = e ∙ sym (append_assoc before (p ∷ []) rest)

  pub all_known : (before rest : List Name) (nets : List ℕ) → length nets ≡ length rest
      → full ≡ before ++ rest → Facts before rest (map (λ n. Some n) nets)
      → AllDeclared (joined_uses before rest cs) (Pairwise (IsJoinedTo m cs) rest nets)
  all_known before [] [] l e f = record { known = refl; holds = tt }
  all_known before [] (n ∷ nets) l e f = absurd (omega arith)
  all_known before (p ∷ rest) [] l e f = absurd (omega arith)
  all_known before (p ∷ rest) (n ∷ nets) l e f =
      let s = f 0 p (Some n) refl refl in
      let more = all_known (before ++ p ∷ []) rest nets (omega arith) (step before rest p e) (tail_facts before rest p (Some n) (map (λ x. Some x) nets) f) in
      let own : Use = record { name = p; declared = is_in p (named_ports cs) && not (is_in p before) } in
      record {
        known = both (own ∷ []) (joined_uses (before ++ p ∷ []) rest cs) (lone_known p (is_in p (named_ports cs) && not (is_in p before)) (declared before rest p n e s)) more.known;
        holds = (s.0, more.holds);
      }

  pub first_missing : (before rest : List Name) (nets : List ℕ) (tail : List (Option ℕ))
      (name : Name) → full ≡ before ++ rest → slice_get rest (length nets) ≡ Some name
      → Facts before rest (map (λ n. Some n) nets ++ None ∷ tail)
      → first_undeclared (joined_uses before rest cs) ≡ Some name
  first_missing before [] nets tail name e at f = absurd (cc)
  first_missing before (p ∷ rest) [] tail name e at f = let d = undeclared before rest p e (f 0 p None refl refl) in rw d at
  first_missing before (p ∷ rest) (n ∷ nets) tail name e at f =
      let own : Use = record { name = p; declared = is_in p (named_ports cs) && not (is_in p before) } in
      later (own ∷ []) (joined_uses (before ++ p ∷ []) rest cs) (lone_known p (is_in p (named_ports cs) && not (is_in p before)) (declared before rest p n e (f 0 p (Some n) refl refl)))
      ∙ first_missing (before ++ p ∷ []) rest nets tail name (step before rest p e) at (tail_facts before rest p (Some n) (map (λ x. Some x) nets ++ None ∷ tail) f)

facts : (m : Module) (ports : List Name) (cs : List Connection) (slots : List (Option ℕ)) → AreJoined m ports cs slots → Facts m cs ports [] ports slots
facts m ports cs slots h j name slot a b = let n : j ≡ 0 + j = omega arith in subst (λ k. IsSlot m ports cs k name slot) n (h.each j name slot a b)

count_all : (nets : List ℕ) → count_joined (map (λ n. Some n) nets) ≡ length nets
count_all [] = refl
count_all (n ∷ nets) = ap suc (count_all nets)

-- all ports are joined
pub record Ended (m : Module) (ports : List Name) (cs : List Connection) (nets : List ℕ) : Type 0 where
  pub joined : Pairwise (IsJoinedTo m cs) ports nets
  pub each_once : length cs ≡ length ports

pub ended : (m : Module) (ports : List Name) (cs : List Connection) (slots : List (Option ℕ))
    (nets : List ℕ) → AreJoined m ports cs slots → slots ≡ map (λ n. Some n) nets
    → AllDeclared (joined_uses [] ports cs) (Ended m ports cs nets)
ended m ports cs slots nets h e =
    let h' = subst (AreJoined m ports cs) e h in
    let size : length nets ≡ length ports = sym (length-map nets (λ (n : ℕ). Some n)) ∙ h'.size in
    let r = all_known m cs ports [] ports nets size refl (facts m ports cs (map (λ n. Some n) nets) h') in
    record { known = r.known; holds = record { joined = r.holds; each_once = sym h'.count ∙ count_all nets ∙ size } }

pub missing : (m : Module) (ports : List Name) (cs : List Connection) (slots : List (Option ℕ))
    (name : Name) → AreJoined m ports cs slots → IsFirstFree ports slots name
    → first_undeclared (joined_uses [] ports cs) ≡ Some name
missing m ports cs slots name h f = first_missing m cs ports [] ports f.nets f.rest name refl f.at (facts m ports cs (map (λ n. Some n) f.nets ++ None ∷ f.rest) (subst (AreJoined m ports cs) f.are h))

-- the module of an instance
pub record Found (ms : List ModuleTree) (q : Name) (j : ℕ) : Type 0 where
  pub tree : ModuleTree
  pub at : slice_get ms j ≡ Some tree
  pub found : module_named ms q ≡ Some tree
  pub named : tree.name ≡ q

pub named_module : (k : ℕ) (ms : List ModuleTree) (q : Name) (n : ℕ) → number_from k (map module_name ms) q ≡ Some n → (j : ℕ) × (n ≡ k + j) × Found ms q j
named_module k [] q n e = absurd (cc)
named_module k (t ∷ ms) q n e = by_head (bytes_eq q t.name) refl e (λ h. named_module (k + 1) ms q n h)
  where
    by_head : (b : Bool) → bytes_eq q t.name ≡ b
        → cond b (Some k) (number_from (k + 1) (map module_name ms) q) ≡ Some n
        → (number_from (k + 1) (map module_name ms) q ≡ Some n → (j : ℕ) × (n ≡ k + 1 + j)
        × Found ms q j) → (j : ℕ) × (n ≡ k + j) × Found (t ∷ ms) q j
    by_head true f h more =
        let same : k ≡ n = some_is h in let g : bytes_eq t.name q ≡ true = turned t.name q ∙ f in
        (0, omega arith, record { tree = t; at = refl; found = rw g refl; named = same_name t.name q g })
    by_head false f h more =
        let (j, p, r) = more h in let g : bytes_eq t.name q ≡ false = turned t.name q ∙ f in
        (suc j, omega arith, record { tree = r.tree; at = r.at; found = rw g r.found; named = r.named })

pub unnamed_module : (k : ℕ) (ms : List ModuleTree) (q : Name) → number_from k (map module_name ms) q ≡ None → module_named ms q ≡ None
unnamed_module k [] q e = refl
unnamed_module k (t ∷ ms) q e = by_head (bytes_eq q t.name) refl e (λ h. unnamed_module (k + 1) ms q h)
  where
    by_head : (b : Bool) → bytes_eq q t.name ≡ b
        → cond b (Some k) (number_from (k + 1) (map module_name ms) q) ≡ None
        → (number_from (k + 1) (map module_name ms) q ≡ None → module_named ms q ≡ None)
        → module_named (t ∷ ms) q ≡ None
    by_head true f h more = absurd (cc)
    by_head false f h more = let g : bytes_eq t.name q ≡ false = turned t.name q ∙ f in rw g (more h)
