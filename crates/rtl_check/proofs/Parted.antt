-- The marks after the ports of instances, and after updates.
use Rattle.std.proofs.Common.{◌≡◌, ℕ, zero, suc, replicate, ◌+◌, ◌<◌, ◌≤◌, Bool, true, false, not}
use Rattle.std.proofs.Common.{◌&&◌, nat_eq, List, [], ◌∷◌, length, set, Some, refl, sym, ◌∙◌, ap}
use Rattle.std.proofs.Common.{subst, arith, ◌⊎◌, inl, inr, ⊎_elim}
use Rattle.std.specs.Prelude.{slice_get}
use Rattle.std.proofs.lemmas.Bool.{false≢true, cases_lt, cases_eq, eqb-true, and_parts, or_cases, not-true}
use Rattle.std.proofs.lemmas.Option.{slice_get_within}
use Rattle.rtl_ir.specs.declared.design.Design.{Design}
use Rattle.rtl_ir.specs.declared.design.Module.{Module}
use Rattle.rtl_ir.specs.declared.design.Instance.{Instance}
use Rattle.rtl_ir.specs.declared.design.Port.{Port}
use Rattle.rtl_ir.specs.declared.design.Update.{Update}
use Rattle.rtl_ir.specs.declared.design.Target.{Target}
use Rattle.rtl_ir.specs.declared.design.Target.TheVariants.{Reg, Cell}
use Rattle.rtl_check.specs.declared.drivers.Fed.{Fed}
use Rattle.rtl_check.specs.declared.drivers.Fed.TheVariants.{Never, Input, Once, Wrongly}
use Rattle.rtl_ir.specs.Value.{is_reg}
use Rattle.rtl_ir.specs.Typed.{is_input}
use Rattle.rtl_ir.specs.Rules.{ByAssign, ByPort, Connection}
use Rattle.rtl_ir.specs.Faults.{Source, Wired, Updated, Gives}
use Rattle.rtl_check.specs.Fed.{after, IsSeen, AreFed, Writes, IsWritten, AreWritten}
use Rattle.rtl_check.proofs.Places.{at_set, beside_set, some_is}
use Rattle.rtl_check.proofs.Feeding.{all_stay, Sees, all_grow, wired_yes, wired_no, wired_input}

-- an instance, its module, a port of it and the net that the port is joined to
pub record Joined (d : Design) (m : Module) (k j : ℕ) (i : Instance) (inner : Module) (p : Port) (net : ℕ) : Type 0 where
  pub of : slice_get m.instances k ≡ Some i
  pub is : slice_get d.modules i.module ≡ Some inner
  pub at : slice_get inner.ports j ≡ Some p
  pub joins : slice_get i.nets j ≡ Some net

abbrev pub connection : (d : Design) (m : Module) (k j : ℕ) (i : Instance) (inner : Module) (p : Port) (net : ℕ) → Joined d m k j i inner p net → Connection d m k j
connection d m k j i inner p net h =
    record { part = i; of = h.of; inner = inner; is = h.is; port = p; at = h.at; net = net; joins = h.joins }

-- the parts of a connection are those that stand there
pub inner_is : {d : Design} {m : Module} {k j : ℕ} (i : Instance) (inner : Module)
    → slice_get m.instances k ≡ Some i → slice_get d.modules i.module ≡ Some inner
    → (e : Connection d m k j) → (e.part ≡ i) × (e.inner ≡ inner)
inner_is {d = d} i inner of is e =
    let p : e.part ≡ i = some_is (sym e.of ∙ of) in
    let q : slice_get d.modules e.part.module ≡ slice_get d.modules i.module = ap (λ (x : Instance). slice_get d.modules x.module) p in
    (p, some_is (sym e.is ∙ q ∙ is))

pub port_is : {d : Design} {m : Module} {k j : ℕ} (i : Instance) (inner : Module) (p : Port) (net : ℕ) → Joined d m k j i inner p net → (e : Connection d m k j) → (e.port ≡ p) × (e.net ≡ net)
port_is {j = j} i inner p net h e =
    let w = inner_is i inner h.of h.is e in
    let q : slice_get e.inner.ports j ≡ slice_get inner.ports j = ap (λ (x : Module). slice_get x.ports j) w.1 in
    let r : slice_get e.part.nets j ≡ slice_get i.nets j = ap (λ (x : Instance). slice_get x.nets j) w.0 in
    (some_is (sym e.at ∙ q ∙ h.at), some_is (sym e.joins ∙ r ∙ h.joins))

port_kept : (a k j : ℕ) (s : Source) → IsSeen a k j 0 s → IsSeen a k (j + 1) 0 s
port_kept a k j (Wired (ByAssign i)) lt = lt
port_kept a k j (Wired (ByPort l i)) (inl lt) = inl lt
port_kept a k j (Wired (ByPort l i)) (inr h) = inr (h.0, omega (arith, h.1))
port_kept a k j (Updated i) lt = lt

port_fresh : (a k j : ℕ) (s : Source) → IsSeen a k (j + 1) 0 s → IsSeen a k j 0 s ⊎ (s ≡ Wired (ByPort k j))
port_fresh a k j (Wired (ByAssign i)) lt = inl lt
port_fresh a k j (Wired (ByPort l i)) (inl lt) = inl (inl lt)
port_fresh a k j (Wired (ByPort l i)) (inr h) = by_place (cases_lt i j)
  where
    by_place : (i < j) ⊎ (j ≤ i) → IsSeen a k j 0 (Wired (ByPort l i)) ⊎ (Wired (ByPort l i) ≡ Wired (ByPort k j))
    by_place (inl lt) = inl (inr (h.0, lt))
    by_place (inr ge) = let e : i ≡ j = omega (arith, h.1) in let f : l ≡ k = h.0 in inr (rw (e, f) refl)
port_fresh a k j (Updated i) lt = inl lt

sees_port : (d : Design) (m : Module) (a k j : ℕ) (i : Instance) (inner : Module) (p : Port)
    (net : ℕ) → Joined d m k j i inner p net → p.output ≡ true
    → Sees d m (IsSeen a k j 0) (IsSeen a k (j + 1) 0) (Wired (ByPort k j)) net (not (is_reg m net))
sees_port d m a k j i inner p net h out =
    record {
      kept = port_kept a k j;
      new = λ s. ⊎_elim (λ (lt : k < k). omega arith) (λ (q : (k ≡ k) × (j < j)). omega (arith, q.1)) s;
      seen = inr (refl, omega arith);
      fresh = λ s n seen gives. port_fresh a k j s seen;
      gives = (connection d m k j i inner p net h, out, refl);
      alone = λ n g. sym g.2 ∙ (port_is i inner p net h g.0).1;
      yes = wired_yes m net;
      no = wired_no m net;
      input = wired_input m net;
    }

pub port_fed : (d : Design) (m : Module) (marks : List Fed) (a k j : ℕ) (i : Instance)
    (inner : Module) (p : Port) (net : ℕ) (reg : Bool) (old new : Fed)
    → Joined d m k j i inner p net → p.output ≡ true → reg ≡ is_reg m net
    → slice_get marks net ≡ Some old → new ≡ after old (not reg)
    → AreFed d m (IsSeen a k j 0) marks → AreFed d m (IsSeen a k (j + 1) 0) (set marks net new)
port_fed d m marks a k j i inner p net reg old new at out r was now h =
    rw (now, r) (all_grow d m (IsSeen a k j 0) (IsSeen a k (j + 1) 0) (Wired (ByPort k j)) net (not (is_reg m net)) marks old (sees_port d m a k j i inner p net at out) was h)

-- an input of the inner module drives nothing
pub port_skipped : (d : Design) (m : Module) (marks : List Fed) (a k j : ℕ) (i : Instance)
    (inner : Module) (p : Port) → slice_get m.instances k ≡ Some i
    → slice_get d.modules i.module ≡ Some inner → slice_get inner.ports j ≡ Some p
    → p.output ≡ false → AreFed d m (IsSeen a k j 0) marks → AreFed d m (IsSeen a k (j + 1) 0) marks
port_skipped d m marks a k j i inner p of is at out h =
    all_stay d m (IsSeen a k j 0) (IsSeen a k (j + 1) 0) marks (record { kept = port_kept a k j; fresh = λ s n seen gives. by_source s n gives (port_fresh a k j s seen) }) h
  where
    not_out : (e : Connection d m k j) → e.port.output ≡ true → ⊥
    not_out e t =
        let w = inner_is i inner of is e in
        let q : slice_get e.inner.ports j ≡ slice_get inner.ports j = ap (λ (x : Module). slice_get x.ports j) w.1 in
        let r : e.port ≡ p = some_is (sym e.at ∙ q ∙ at) in
        false≢true (sym out ∙ sym (ap (λ (x : Port). x.output) r) ∙ t)

    by_source : (s : Source) (n : ℕ) → Gives d m s n → IsSeen a k j 0 s ⊎ (s ≡ Wired (ByPort k j)) → IsSeen a k j 0 s
    by_source s n gives (inl seen) = seen
    by_source s n gives (inr e) = let g : Gives d m (Wired (ByPort k j)) n = subst (λ (x : Source). Gives d m x n) e gives in absurd (not_out g.0 g.1)

-- all ports of an instance are seen
pub instance_done : (d : Design) (m : Module) (marks : List Fed) (a k j : ℕ) (i : Instance)
    (inner : Module) → slice_get m.instances k ≡ Some i
    → slice_get d.modules i.module ≡ Some inner → length inner.ports ≤ j
    → AreFed d m (IsSeen a k j 0) marks → AreFed d m (IsSeen a (k + 1) 0 0) marks
instance_done d m marks a k j i inner of is all h =
    all_stay d m (IsSeen a k j 0) (IsSeen a (k + 1) 0 0) marks (record { kept = kept; fresh = fresh }) h
  where
    kept : (s : Source) → IsSeen a k j 0 s → IsSeen a (k + 1) 0 0 s
    kept (Wired (ByAssign x)) lt = lt
    kept (Wired (ByPort l x)) (inl lt) = inl (omega arith)
    kept (Wired (ByPort l x)) (inr q) = inl (omega (arith, q.0))
    kept (Updated x) lt = lt

    within : (l x n : ℕ) → l ≡ k → Gives d m (Wired (ByPort l x)) n → x < j
    within l x n q g =
        let e : Connection d m k x = subst (λ (y : ℕ). Connection d m y x) q g.0 in
        let w = inner_is i inner of is e in
        let r : slice_get inner.ports x ≡ Some e.port = ap (λ (y : Module). slice_get y.ports x) (sym w.1) ∙ e.at in
        omega (arith, slice_get_within inner.ports x e.port r)

    fresh : (s : Source) (n : ℕ) → IsSeen a (k + 1) 0 0 s → Gives d m s n → IsSeen a k j 0 s
    fresh (Wired (ByAssign x)) n lt g = lt
    fresh (Wired (ByPort l x)) n (inl lt) g = by_place (cases_lt l k)
      where
        by_place : (l < k) ⊎ (k ≤ l) → IsSeen a k j 0 (Wired (ByPort l x))
        by_place (inl less) = inl less
        by_place (inr ge) = let q : l ≡ k = omega arith in inr (q, within l x n q g)
    fresh (Wired (ByPort l x)) n (inr q) g = absurd (omega (arith, q.1))
    fresh (Updated x) n lt g = lt

-- an input is one of the ports
pub input_port : (ports : List Port) (n : ℕ) → is_input ports n ≡ true → (j : ℕ) × (p : Port) × (slice_get ports j ≡ Some p) × (p.net ≡ n) × (p.output ≡ false)
input_port [] n e = absurd (false≢true e)
input_port (p ∷ ports) n e = ⊎_elim here (λ t. later (input_port ports n t)) (or_cases (nat_eq p.net n && not p.output) (is_input ports n) e)
  where
    here : (nat_eq p.net n && not p.output) ≡ true → (j : ℕ) × (q : Port) × (slice_get (p ∷ ports) j ≡ Some q) × (q.net ≡ n) × (q.output ≡ false)
    here t = let w = and_parts (nat_eq p.net n) (not p.output) t in (0, p, refl, eqb-true p.net n w.0, not-true p.output w.1)

    later : (j : ℕ) × (q : Port) × (slice_get ports j ≡ Some q) × (q.net ≡ n) × (q.output ≡ false) → (j : ℕ) × (q : Port) × (slice_get (p ∷ ports) j ≡ Some q) × (q.net ≡ n) × (q.output ≡ false)
    later w = (suc w.0, w.1, w.2, w.3, w.4)

update_kept : (a k j : ℕ) (s : Source) → IsSeen a k 0 j s → IsSeen a k 0 (j + 1) s
update_kept a k j (Wired (ByAssign i)) lt = lt
update_kept a k j (Wired (ByPort l i)) h = h
update_kept a k j (Updated i) lt = omega arith

update_fresh : (a k j : ℕ) (s : Source) → IsSeen a k 0 (j + 1) s → IsSeen a k 0 j s ⊎ (s ≡ Updated j)
update_fresh a k j (Wired (ByAssign i)) lt = inl lt
update_fresh a k j (Wired (ByPort l i)) h = inl h
update_fresh a k j (Updated i) lt = by_place (cases_lt i j)
  where
    by_place : (i < j) ⊎ (j ≤ i) → (i < j) ⊎ (Updated i ≡ Updated j)
    by_place (inl less) = inl less
    by_place (inr ge) = let e : i ≡ j = omega arith in inr (ap (λ x. Updated x) e)

sees_update : (d : Design) (m : Module) (a k j : ℕ) (u : Update) (net : ℕ)
    → slice_get m.updates j ≡ Some u → u.target ≡ Reg net
    → (is_input m.ports net ≡ true → is_reg m net ≡ false)
    → Sees d m (IsSeen a k 0 j) (IsSeen a k 0 (j + 1)) (Updated j) net (is_reg m net)
sees_update d m a k j u net at to wire =
    record {
      kept = update_kept a k j;
      new = λ lt. omega arith;
      seen = omega arith;
      fresh = λ s n seen gives. update_fresh a k j s seen;
      gives = (u, at, to);
      alone = alone;
      yes = λ i e. e;
      no = λ e f. false≢true (sym e ∙ f);
      input = λ i f. false≢true (sym (wire i) ∙ f);
    }
  where
    alone : (n : ℕ) → Gives d m (Updated j) n → n ≡ net
    alone n g = let p : g.0 ≡ u = some_is (sym g.1 ∙ at) in let q : Reg n ≡ Reg net = sym g.2 ∙ ap (λ (x : Update). x.target) p ∙ to in cc

pub update_fed : (d : Design) (m : Module) (marks : List Fed) (a k j : ℕ) (u : Update) (net : ℕ)
    (reg : Bool) (old new : Fed) → slice_get m.updates j ≡ Some u → u.target ≡ Reg net
    → ((i : ℕ) (p : Port) → slice_get m.ports i ≡ Some p → is_reg m p.net ≡ false)
    → reg ≡ is_reg m net → slice_get marks net ≡ Some old → new ≡ after old reg
    → AreFed d m (IsSeen a k 0 j) marks → AreFed d m (IsSeen a k 0 (j + 1)) (set marks net new)
update_fed d m marks a k j u net reg old new at to wires r was now h =
    rw (now, r) (all_grow d m (IsSeen a k 0 j) (IsSeen a k 0 (j + 1)) (Updated j) net (is_reg m net) marks old (sees_update d m a k j u net at to wire) was h)
  where
    wire : is_input m.ports net ≡ true → is_reg m net ≡ false
    wire t = let w = input_port m.ports net t in subst (λ (n : ℕ). is_reg m n ≡ false) w.3 (wires w.0 w.1 w.2)

-- an update of a memory gives no net its value
pub update_skipped : (d : Design) (m : Module) (marks : List Fed) (a k j : ℕ) (u : Update)
    (mem address : ℕ) → slice_get m.updates j ≡ Some u → u.target ≡ Cell mem address
    → AreFed d m (IsSeen a k 0 j) marks → AreFed d m (IsSeen a k 0 (j + 1)) marks
update_skipped d m marks a k j u mem address at to h =
    all_stay d m (IsSeen a k 0 j) (IsSeen a k 0 (j + 1)) marks (record { kept = update_kept a k j; fresh = λ s n seen gives. by_source s n gives (update_fresh a k j s seen) }) h
  where
    by_source : (s : Source) (n : ℕ) → Gives d m s n → IsSeen a k 0 j s ⊎ (s ≡ Updated j) → IsSeen a k 0 j s
    by_source s n gives (inl seen) = seen
    by_source s n gives (inr e) =
        let g : Gives d m (Updated j) n = subst (λ (x : Source). Gives d m x n) e gives in
        let p : g.0 ≡ u = some_is (sym g.1 ∙ at) in
        let q : Reg n ≡ Cell mem address = sym g.2 ∙ ap (λ (x : Update). x.target) p ∙ to in
        absurd (cc)

-- one more update, which writes the memory or not
fresh_update : (j i : ℕ) → i < j + 1 → (i < j) ⊎ (i ≡ j)
fresh_update j i lt = by_place (cases_lt i j)
  where
    by_place : (i < j) ⊎ (j ≤ i) → (i < j) ⊎ (i ≡ j)
    by_place (inl less) = inl less
    by_place (inr ge) = inr (omega arith)

written_other : (m : Module) (j k : ℕ) (mark : Fed) → (Writes m j k → ⊥) → IsWritten m j k mark → IsWritten m (j + 1) k mark
written_other m j k Never ne h = λ i lt w. ⊎_elim (λ less. h i less w) (λ e. ne (subst (λ (x : ℕ). Writes m x k) e w)) (fresh_update j i lt)
written_other m j k Input ne h = h
written_other m j k Once ne h =
    record {
      update = h.update;
      seen = omega (arith, h.seen);
      writes = h.writes;
      only = λ i lt w. ⊎_elim (λ less. h.only i less w) (λ e. absurd (ne (subst (λ (x : ℕ). Writes m x k) e w))) (fresh_update j i lt);
    }
written_other m j k Wrongly ne h = h

written_here : (m : Module) (j k : ℕ) (mark : Fed) → Writes m j k → IsWritten m j k mark → IsWritten m (j + 1) k (after mark true)
written_here m j k Never w h =
    record {
      update = j;
      seen = omega arith;
      writes = w;
      only = λ i lt v. ⊎_elim (λ less. absurd (h i less v)) (λ e. e) (fresh_update j i lt);
    }
written_here m j k Input w h = absurd h
written_here m j k Once w h =
    record {
      first = h.update;
      later = j;
      apart = h.seen;
      update = h.writes.0;
      at_first = h.writes.2;
      address = h.writes.1;
      writes = h.writes.3;
      later_update = w.0;
      at_later = w.2;
      later_address = w.1;
      later_writes = w.3;
    }
written_here m j k Wrongly w h = h

writes_one : (m : Module) (j k : ℕ) (u : Update) (t : Target) → slice_get m.updates j ≡ Some u → u.target ≡ t → Writes m j k → (address : ℕ) × (t ≡ Cell k address)
writes_one m j k u t at to w = (w.1, sym to ∙ sym (ap (λ (x : Update). x.target) (some_is (sym w.2 ∙ at))) ∙ w.3)

pub write_seen : (m : Module) (marks : List Fed) (j : ℕ) (u : Update) (mem address : ℕ)
    (old new : Fed) → slice_get m.updates j ≡ Some u → u.target ≡ Cell mem address
    → slice_get marks mem ≡ Some old → new ≡ after old true → AreWritten m j marks
    → AreWritten m (j + 1) (set marks mem new)
write_seen m marks j u mem address old new at to was now h k mark is = by_mem (cases_eq k mem)
  where
    by_mem : (k ≡ mem) ⊎ (k ≡ mem → ⊥) → IsWritten m (j + 1) k mark
    by_mem (inl e) =
        let p : slice_get (set marks mem new) mem ≡ Some mark = subst (λ (x : ℕ). slice_get (set marks mem new) x ≡ Some mark) e is in
        let q : after old true ≡ mark = sym now ∙ some_is (sym (at_set marks mem new (slice_get_within marks mem old was)) ∙ p) in
        let here = written_here m j mem old (u, address, at, to) (h mem old was) in
        subst (λ (x : ℕ). IsWritten m (j + 1) x mark) (sym e) (subst (IsWritten m (j + 1) mem) q here)
    by_mem (inr ne) =
        written_other m j k mark (λ w. let v = writes_one m j k u
        (Cell mem address) at to w in let q : Cell mem address ≡ Cell k v.0 = v.1 in ne
        (cc)) (h k mark (sym (beside_set marks mem k new ne) ∙ is))

-- an update of a register writes no memory
pub write_skipped : (m : Module) (marks : List Fed) (j : ℕ) (u : Update) (net : ℕ) → slice_get m.updates j ≡ Some u → u.target ≡ Reg net → AreWritten m j marks → AreWritten m (j + 1) marks
write_skipped m marks j u net at to h k mark is =
    written_other m j k mark (λ w. let v = writes_one m j k u (Reg net) at to w in let q : Reg net ≡ Cell k v.0 = v.1 in cc) (h k mark is)

-- all sources are seen
pub all_seen : (d : Design) (m : Module) (marks : List Fed) → AreFed d m (IsSeen (length m.assigns) (length m.instances) 0 (length m.updates)) marks → AreFed d m (λ s. Unit {0}) marks
all_seen d m marks h =
    all_stay d m (IsSeen (length m.assigns) (length m.instances) 0 (length m.updates)) (λ s. Unit {0}) marks (record { kept = λ s seen. tt; fresh = λ s n seen g. fresh s n g }) h
  where
    fresh : (s : Source) (n : ℕ) → Gives d m s n → IsSeen (length m.assigns) (length m.instances) 0 (length m.updates) s
    fresh (Wired (ByAssign j)) n g = slice_get_within m.assigns j g.0 g.1
    fresh (Wired (ByPort k j)) n g = inl (slice_get_within m.instances k g.0.part g.0.of)
    fresh (Updated j) n g = slice_get_within m.updates j g.0 g.1

-- the memories before the first update
pub none_written : (m : Module) (marks : List Fed) (n : ℕ) → marks ≡ replicate n Never → AreWritten m 0 marks
none_written m marks n e k mark at = by_mark (replicated n k mark (subst (λ (l : List Fed). slice_get l k ≡ Some mark) e at))
  where
    replicated : (n k : ℕ) (x : Fed) → slice_get (replicate n Never) k ≡ Some x → x ≡ Never
    replicated zero k x e = absurd (cc)
    replicated (suc n) zero x e = sym (some_is e)
    replicated (suc n) (suc k) x e = replicated n k x e

    by_mark : mark ≡ Never → IsWritten m 0 k mark
    by_mark e = subst (IsWritten m 0 k) (sym e) (λ j lt w. omega arith)
