-- The assignments that feed nets give them the values that all assignments give them.
use Rattle.std.proofs.Common.{◌≡◌, ◌≢◌, ℕ, zero, suc, ◌+◌, ◌<◌, ◌≤◌, cond, Bool, true, false, not, ◌&&◌, List, [], ◌∷◌, length, get_or, set, Some, refl, sym, ap, ◌∙◌, subst, ⊎_elim, arith}
use Rattle.std.specs.Prelude.{slice_get}
use Rattle.std.specs.List.{filter}
use Rattle.std.proofs.lemmas.Bool.{cases_eq, cases_lt, false≢true}
use Rattle.std.proofs.lemmas.Option.{slice_get_within, slice_get-get_or}
use Rattle.rtl_ir.specs.declared.design.Module.{Module}
use Rattle.rtl_ir.specs.declared.design.Assign.{Assign}
use Rattle.mx_bits.specs.declared.word.Word.{Word}
use Rattle.rtl_ir.specs.declared.design.Expr.{Expr}
use Rattle.rtl_ir.specs.declared.design.Expr.TheVariants.{Net as Plain, Literal, Not, Binary, Concat, Repeat, Part, Choose, Cell}
use Rattle.rtl_ir.specs.Value.{width_of, value}
use Rattle.rtl_ir.specs.Operands.{IsRead}
use Rattle.rtl_ir.proofs.Ports.{value_agrees}
use Rattle.verilog_sim.specs.declared.offer.Offer.{Offer}
use Rattle.rtl_ir.specs.declared.interface.Interface.{Interface}
use Rattle.rtl_ir.specs.Typed.{is_input}
use Rattle.verilog_sim.specs.Gifts.{Every, gifts}
use Rattle.verilog_sim.specs.Contents.{family_of, contents_of}
use Rattle.verilog_sim.specs.Runnable.{IsRunnable, IsOrderOf, IsPartOf}
use Rattle.verilog_sim.specs.Settled.{AreWords, Settles, Progress}
use Rattle.verilog_sim.specs.Feeding.{is_marked, is_literal, marked_of, AreMarkedFrom, IsFeeding}
use Rattle.verilog_sim.specs.Simulates.{AreConstant, IsEvaluated, IsEvaluatedBy}
use Rattle.verilog_sim.proofs.InOrder.{at_start, one_more}
use Rattle.verilog_sim.proofs.Evaluated.{evaluated}

module _ {A : Type 0} (p : A → Bool) where
  -- what passes a test stands in the whole list
  filtered_at : (xs : List A) (i : ℕ) (x : A) → slice_get (filter p xs) i ≡ Some x → (k : ℕ) × (slice_get xs k ≡ Some x)
  filtered_at [] i x e = absurd (cc)
  filtered_at (y ∷ ys) i x e = by_test (λ j f. filtered_at ys j x f) (p y) i e
    where
      by_test : ((j : ℕ) → slice_get (filter p ys) j ≡ Some x → (k : ℕ) × (slice_get ys k ≡ Some x))
          → (b : Bool) (i : ℕ) → slice_get (cond b (y ∷ filter p ys) (filter p ys)) i ≡ Some x → (k : ℕ)
          × (slice_get (y ∷ ys) k ≡ Some x)
      by_test rest true zero e = (zero, e)
      by_test rest true (suc i) e = let r = rest i e in (suc r.0, r.1)
      by_test rest false i e = let r = rest i e in (suc r.0, r.1)

  -- two of them in the same order
  filtered_pair :
      (xs : List A) (i j : ℕ) (x y : A) → i < j → slice_get (filter p xs) i ≡ Some x → slice_get (filter p xs) j ≡ Some y
      → (k : ℕ) × (l : ℕ) × (k < l) × (slice_get xs k ≡ Some x) × (slice_get xs l ≡ Some y)
  filtered_pair [] i j x y lt e f = absurd (cc)
  filtered_pair (z ∷ zs) i j x y lt e f = by_test (λ i j lt e f. filtered_pair zs i j x y lt e f) (p z) i j lt e f
    where
      by_test :
          ((i j : ℕ) → i < j → slice_get (filter p zs) i ≡ Some x → slice_get (filter p zs) j ≡ Some y → (k : ℕ)
          × (l : ℕ) × (k < l) × (slice_get zs k ≡ Some x) × (slice_get zs l ≡ Some y))
          → (b : Bool) (i j : ℕ) → i < j → slice_get (cond b (z ∷ filter p zs) (filter p zs)) i ≡ Some x
          → slice_get (cond b (z ∷ filter p zs) (filter p zs)) j ≡ Some y
          → (k : ℕ) × (l : ℕ) × (k < l) × (slice_get (z ∷ zs) k ≡ Some x) × (slice_get (z ∷ zs) l ≡ Some y)
      by_test rest true i zero lt e f = absurd (omega arith)
      by_test rest true zero (suc j) lt e f = let r = filtered_at zs j y f in (zero, suc r.0, omega arith, e, r.1)
      by_test rest true (suc i) (suc j) lt e f = let r = rest i j (omega arith) e f in let less = r.2 in (suc r.0, suc r.1, omega (arith, less), r.3, r.4)
      by_test rest false i j lt e f = let r = rest i j lt e f in let less = r.2 in (suc r.0, suc r.1, omega (arith, less), r.3, r.4)

  -- what stands there passes
  filtered_passes : (xs : List A) (i : ℕ) (x : A) → slice_get (filter p xs) i ≡ Some x → p x ≡ true
  filtered_passes [] i x e = absurd (cc)
  filtered_passes (y ∷ ys) i x e = by_test (λ j f. filtered_passes ys j x f) (p y) refl i e
    where
      by_test : ((j : ℕ) → slice_get (filter p ys) j ≡ Some x → p x ≡ true) → (b : Bool) → p y ≡ b → (i : ℕ)
          → slice_get (cond b (y ∷ filter p ys) (filter p ys)) i ≡ Some x → p x ≡ true
      by_test rest true q zero e = (let r : y ≡ x = cc in subst (λ (z : A). p z ≡ true) r q)
      by_test rest true q (suc i) e = rest i e
      by_test rest false q i e = rest i e

  -- an element that passes is among them
  filtered_has : (xs : List A) (k : ℕ) (x : A) → slice_get xs k ≡ Some x → p x ≡ true → (i : ℕ) × (slice_get (filter p xs) i ≡ Some x)
  filtered_has [] k x e h = absurd (cc)
  filtered_has (y ∷ ys) zero x e h =
      let r : y ≡ x = cc in
      subst (λ (b : Bool). (i : ℕ) × (slice_get (cond b (y ∷ filter p ys) (filter p ys)) i ≡ Some x)) (sym (ap p r ∙ h)) (zero, e)
  filtered_has (y ∷ ys) (suc k) x e h = by_test (filtered_has ys k x e h) (p y)
    where
      by_test : (i : ℕ) × (slice_get (filter p ys) i ≡ Some x) → (b : Bool) → (i : ℕ) × (slice_get (cond b (y ∷ filter p ys) (filter p ys)) i ≡ Some x)
      by_test r true = (suc r.0, r.1)
      by_test r false = r

pub part_of_order : (m : Module) (order : List Assign) → IsOrderOf m order → IsPartOf m order
part_of_order m order o = record { in_order = o.in_order; from = o.from }

pub part_of_feeding : (m : Module) (order feeding : List Assign) (IsWanted : ℕ → Type 0) → IsOrderOf m order
    → IsFeeding order feeding IsWanted → IsPartOf m feeding
part_of_feeding m order feeding IsWanted o f = subst (IsPartOf m) (sym f.are)
    (record { in_order = record { typed = typed; unread = unread; once = once }; from = from })
  where
    test : Assign → Bool
    test a = is_marked f.marks a.target && not (is_literal a.expr)

    typed : (i : ℕ) (a : Assign) → slice_get (filter test order) i ≡ Some a → Rattle.rtl_ir.specs.Typed.IsTyped m (width_of m a.target) a.expr
    typed i a e = let k = filtered_at test order i a e in o.in_order.typed k.0 a k.1

    from : (i : ℕ) (a : Assign) → slice_get (filter test order) i ≡ Some a → (k : ℕ) × (slice_get m.assigns k ≡ Some a)
    from i a e = let k = filtered_at test order i a e in o.from k.0 a k.1

    once : (i j : ℕ) (a b : Assign) → i < j → slice_get (filter test order) i ≡ Some a → slice_get (filter test order) j ≡ Some b → a.target ≢ b.target
    once i j a b lt e g = let r = filtered_pair test order i j a b lt e g in o.in_order.once r.0 r.1 a b r.2 r.3 r.4

    unread : (i j : ℕ) (a b : Assign) → i ≤ j → slice_get (filter test order) i ≡ Some a → slice_get (filter test order) j ≡ Some b → IsRead a.expr b.target → ⊥
    unread i j a b le e g read = ⊎_elim (λ lt. (let r = filtered_pair test order i j a b lt e g in let less
        = r.2 in o.in_order.unread r.0 r.1 a b (omega (arith, less)) r.3 r.4 read)) (λ ge. same (omega arith))
        (cases_lt i j)
      where
        same : i ≡ j → ⊥
        same q =
            let g' : slice_get (filter test order) i ≡ Some b = subst (λ (x : ℕ). slice_get (filter test order) x ≡ Some b) (sym q) g in
            let r : b ≡ a = cc in
            let k = filtered_at test order i a e in
            o.in_order.unread k.0 k.0 a a (omega arith) k.1 k.1 (subst (λ (x : Assign). IsRead a.expr x.target) r read)

-- the values that all assignments give
module _ (m : Module) (order : List Assign) (memories : List (List ℕ)) (old : List ℕ) (r : IsRunnable m)
    (o : IsOrderOf m order) (w : AreWords m old memories) where
  values_after : (k : ℕ) → k ≤ length order → (v : List ℕ) × Progress m order memories old v k
  values_after zero le = (old, at_start m order memories old w)
  values_after (suc k) le =
      let before = values_after k (omega arith) in
      let v = before.0 in
      let none : Assign = record { target = 0; expr = Plain 0 } in
      let a = get_or order k none in
      let at : slice_get order k ≡ Some a = slice_get-get_or order k none (omega arith) in
      let from = o.from k a at in
      let lt : a.target < length v = omega (arith, (r.assigns from.0 a from.1).target, before.1.nets) in
      let x = value m (contents_of [] memories) (family_of v) (width_of m a.target) a.expr in
      let next : k + 1 ≡ suc k = omega arith in (
        set v a.target x,
        subst (λ (n : ℕ). Progress m order memories old (set v a.target x) n) next
            (one_more m order memories old v k a x o.in_order w at lt refl before.1),
      )

  pub all_settled : (v : List ℕ) × Settles m order memories old v
  all_settled =
      let last = values_after (length order) (omega arith) in (
        last.0,
        record {
          nets = last.1.nets;
          words = last.1.words;
          assigned = λ i a e. last.1.assigned i a (slice_get_within order i a e) e;
          others = λ n f. last.1.others n (λ j a less e. f j a e);
        },
      )

-- the assignment to a net, if there is one
data TargetIn (order : List Assign) (n : ℕ) : Type 0 where
  found : (i : ℕ) (a : Assign) → slice_get order i ≡ Some a → a.target ≡ n → TargetIn order n
  missing : ((i : ℕ) (a : Assign) → slice_get order i ≡ Some a → a.target ≢ n) → TargetIn order n

target_in : (order : List Assign) (n : ℕ) → TargetIn order n
target_in [] n = missing (λ i a e q. absurd (cc))
target_in (b ∷ bs) n = ⊎_elim (λ q. found zero b refl q) (λ ne. later ne (target_in bs n)) (cases_eq b.target n)
  where
    later : b.target ≢ n → TargetIn bs n → TargetIn (b ∷ bs) n
    later ne (found i a e q) = found (suc i) a e q
    later ne (missing f) = missing by_place
      where
        by_place : (i : ℕ) (a : Assign) → slice_get (b ∷ bs) i ≡ Some a → a.target ≢ n
        by_place zero a e q = ne ((let s : b ≡ a = cc in ap (λ (x : Assign). x.target) s) ∙ q)
        by_place (suc i) a e q = f i a e q

both_true : (a b : Bool) → a && b ≡ true → (a ≡ true) × (b ≡ true)
both_true true true h = (refl, refl)
both_true true false h = absurd (false≢true h)
both_true false b h = absurd (false≢true h)

not_true : (b : Bool) → not b ≡ true → b ≡ false
not_true true h = absurd (false≢true h)
not_true false h = refl

-- no literal is among those that feed nets
pub no_literal : (order feeding : List Assign) (IsWanted : ℕ → Type 0) → IsFeeding order feeding IsWanted
    → (i : ℕ) (a : Assign) → slice_get feeding i ≡ Some a → is_literal a.expr ≡ false
no_literal order feeding IsWanted f i a at =
    let at' : slice_get (marked_of f.marks order) i ≡ Some a = subst (λ (l : List Assign). slice_get l i ≡ Some a) f.are at in
    not_true (is_literal a.expr) (both_true (is_marked f.marks a.target) (not (is_literal a.expr))
    (filtered_passes (λ (x : Assign). is_marked f.marks x.target && not (is_literal x.expr)) order i a at')).1

-- the word of a literal
data LiteralOf (e : Expr) : Type 0 where
  literal : (x : Word) → e ≡ Literal x → LiteralOf e
  other : is_literal e ≡ false → LiteralOf e

literal_of : (e : Expr) → LiteralOf e
literal_of (Plain n) = other refl
literal_of (Literal x) = literal x refl
literal_of (Not n) = other refl
literal_of (Binary s n o) = other refl
literal_of (Concat n o) = other refl
literal_of (Repeat k n) = other refl
literal_of (Part n hi lo) = other refl
literal_of (Choose n o p) = other refl
literal_of (Cell k n) = other refl

-- the target of a literal is not that of an assignment that is no literal
pub literal_free :
    (m : Module) (part : List Assign) → IsRunnable m → IsPartOf m part → ((i : ℕ) (a : Assign) → slice_get part i ≡ Some a → is_literal a.expr ≡ false)
    → (k : ℕ) (a : Assign) (x : Word) → slice_get m.assigns k ≡ Some a → a.expr ≡ Literal x → (i : ℕ) (b : Assign)
    → slice_get part i ≡ Some b → b.target ≢ a.target
literal_free m part r p none k a x at lit i b bt q =
    let from = p.from i b bt in
    let same : from.0 ≡ k = r.one from.0 k b a from.1 at q in
    let at' : slice_get m.assigns k ≡ Some b = subst (λ (j : ℕ). slice_get m.assigns j ≡ Some b) same from.1 in
    let e : b ≡ a = cc in
    false≢true (sym (none i b bt) ∙ ap (λ (y : Assign). is_literal y.expr) e ∙ ap is_literal lit)

module _
    (m : Module) (order : List Assign) (marks : List Bool) (memories : List (List ℕ)) (old all part : List ℕ) (run : IsRunnable m)
    (o : IsOrderOf m order) (p : AreMarkedFrom order marks 0) (constant : AreConstant m old)
    (sa : Settles m order memories old all) (ss : Settles m (marked_of marks order) memories old part) where
  abbrev test : Assign → Bool
  test a = is_marked marks a.target && not (is_literal a.expr)

  untouched : (n : ℕ) → ((i : ℕ) (a : Assign) → slice_get order i ≡ Some a → a.target ≢ n) → get_or part n 0 ≡ get_or all n 0
  untouched n f = ss.others n (λ i a e. (let k = filtered_at test order i a e in f k.0 a k.1)) ∙ sym (sa.others n f)

  -- a literal has its word in both
  literal_agrees : (i : ℕ) (a : Assign) (x : Word) → slice_get order i ≡ Some a → a.expr ≡ Literal x → get_or part a.target 0 ≡ get_or all a.target 0
  literal_agrees i a x at lit =
      let from = o.from i a at in
      let is : value m (contents_of [] memories) (family_of all) (width_of m a.target) a.expr ≡ x.bits = ap
      (value m (contents_of [] memories) (family_of all) (width_of m a.target)) lit in
      ss.others a.target (λ j b e q. free j b e q)
      ∙ constant from.0 a x from.1 lit
      ∙ sym (sa.assigned i a at ∙ is)
    where
      free : (j : ℕ) (b : Assign) → slice_get (marked_of marks order) j ≡ Some b → b.target ≢ a.target
      free j b e q =
          let k = filtered_at test order j b e in
          let off = not_true (is_literal b.expr) (both_true (is_marked marks b.target) (not (is_literal b.expr)) (filtered_passes test order j b e)).1 in
          let fa = o.from i a at in
          let fb = o.from k.0 b k.1 in
          let same : fb.0 ≡ fa.0 = run.one fb.0 fa.0 b a fb.1 fa.1 q in
          let bt : slice_get m.assigns fa.0 ≡ Some b = subst (λ (n : ℕ). slice_get m.assigns n ≡ Some b) same fb.1 in
          let e' : b ≡ a = (let at' = fa.1 in cc) in
          false≢true (sym off ∙ ap (λ (y : Assign). is_literal y.expr) e' ∙ ap is_literal lit)

  -- what an assignment reads agrees where all before it agree
  reads_agree :
      (i : ℕ) (a : Assign) → slice_get order i ≡ Some a → is_marked marks a.target ≡ true
      → ((j : ℕ) (b : Assign) → j < i → slice_get order j ≡ Some b → is_marked marks b.target ≡ true → get_or part b.target 0 ≡ get_or all b.target 0)
      → (n : ℕ) → IsRead a.expr n → get_or part n 0 ≡ get_or all n 0
  reads_agree i a at mark rest n read = by_target (target_in order n)
    where
      marked_read : is_marked marks n ≡ true
      marked_read = p.closed i n a (omega arith) at mark read

      by_target : TargetIn order n → get_or part n 0 ≡ get_or all n 0
      by_target (missing f) = untouched n f
      by_target (found j b e q) =
          ⊎_elim
          (λ less. subst (λ (x : ℕ). get_or part x 0 ≡ get_or all x 0) q (rest j b less e (subst (λ (x : ℕ). is_marked marks x ≡ true) (sym q) marked_read)))
          (λ ge. absurd (o.in_order.unread i j a b (omega arith) at e (subst (IsRead a.expr) (sym q) read)))
          (cases_lt j i)

  target_agrees :
      (i : ℕ) (a : Assign) → slice_get order i ≡ Some a → is_marked marks a.target ≡ true
      → ((n : ℕ) → IsRead a.expr n → get_or part n 0 ≡ get_or all n 0) → LiteralOf a.expr
      → get_or part a.target 0 ≡ get_or all a.target 0
  target_agrees i a at mark reads (literal x lit) = literal_agrees i a x at lit
  target_agrees i a at mark reads (other off) =
      let passes : test a ≡ true = ap (λ b. b && not (is_literal a.expr)) mark ∙ ap not off in
      let f = filtered_has test order i a at passes in
      ss.assigned f.0 a f.1
      ∙ value_agrees m (contents_of [] memories) (family_of part) (family_of all) (width_of m a.target) a.expr reads
      ∙ sym (sa.assigned i a at)

  agrees_before : (k i : ℕ) (a : Assign) → i < k → slice_get order i ≡ Some a → is_marked marks a.target ≡ true → get_or part a.target 0 ≡ get_or all a.target 0
  agrees_before zero i a lt at mark = absurd (omega arith)
  agrees_before (suc k) i a lt at mark = target_agrees i a at mark
      (reads_agree i a at mark (λ j b less e mk. agrees_before k j b (omega arith) e mk)) (literal_of a.expr)

  pub feeding_agrees : (n : ℕ) → is_marked marks n ≡ true → get_or part n 0 ≡ get_or all n 0
  feeding_agrees n mark = agrees (target_in order n)
    where
      agrees : TargetIn order n → get_or part n 0 ≡ get_or all n 0
      agrees (missing f) = untouched n f
      agrees (found i a e q) = subst (λ (x : ℕ). get_or part x 0 ≡ get_or all x 0) q
          (agrees_before (suc i) i a (omega arith) e (subst (λ (x : ℕ). is_marked marks x ≡ true) (sym q) mark))

-- all nets have values, with which those of some nets agree
pub record Completed
    (m : Module) (IsWanted : ℕ → Type 0) (c : Interface) (reset : Bool) (steady : List ℕ) (offers : List Offer) (accepts holds : List Bool)
    (held : List ℕ) (memories : List (List ℕ)) (new : List ℕ) : Type 0 where
  pub values : List ℕ
  pub evaluated : IsEvaluated m c reset steady offers accepts holds held memories values
  pub same : (n : ℕ) → IsWanted n → get_or new n 0 ≡ get_or values n 0

pub completed :
    (m : Module) (order feeding : List Assign) (IsWanted : ℕ → Type 0) (c : Interface) (reset : Bool) (steady : List ℕ)
    (offers : List Offer) (accepts holds : List Bool) (held new : List ℕ) (memories : List (List ℕ))
    → IsRunnable m → IsOrderOf m order → IsFeeding order feeding IsWanted
    → Every (λ (g : ℕ × ℕ). is_input m.ports g.0 ≡ true) (gifts c reset steady offers accepts holds)
    → IsEvaluatedBy m feeding c reset steady offers accepts holds held memories new
    → Completed m IsWanted c reset steady offers accepts holds held memories new
completed m order feeding IsWanted c reset steady offers accepts holds held new memories r o f inputs e =
    let all = all_settled m order memories e.driven r o e.words in
    let part : Settles m (marked_of f.marks order) memories e.driven new = subst (λ (l : List Assign). Settles m l memories e.driven new) f.are e.settles in
    record {
      values = all.0;
      evaluated = evaluated m c reset steady offers accepts holds held all.0 memories order r o inputs
          (record {
            driven = e.driven;
            words = e.words;
            kept = e.kept;
            constant = e.constant;
            given = e.given;
            settles
                = all.1;
          });
      same = λ n w. feeding_agrees m order f.marks memories e.driven all.0 new r o f.marked e.constant all.1 part n (f.wanted n w);
    }
