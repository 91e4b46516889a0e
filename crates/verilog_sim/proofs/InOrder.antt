-- One instruction after another, the assignments come to hold.
use Rattle.std.proofs.Common.{◌≡◌, ◌≢◌, Bool, true, false, ℕ, ◌+◌, ◌^◌, ◌<◌, ◌≤◌, ◌⊎◌, inl, inr}
use Rattle.std.proofs.Common.{List, [], ◌++◌, length, length-append, get_or, set, Some, refl, sym}
use Rattle.std.proofs.Common.{ap, ◌∙◌, subst, ⊎_elim, arith, get_or-set_other, get_or-set_same}
use Rattle.std.specs.Prelude.{slice_get}
use Rattle.std.proofs.lemmas.Bool.{cases_eq, cases_lt}
use Rattle.std.proofs.lemmas.Option.{slice_get_within, slice_get-get_or, get_or_from_slice_get}
use Rattle.std.proofs.lemmas.List.{length-set, get_or_append_left, get_or-append-add}
use Rattle.std.proofs.Math.Pow.{pow_mono}
use Rattle.std.proofs.Math.Nat.{mod-eq_of_lt, mod-le}
use Rattle.rtl_ir.specs.declared.design.Module.{Module}
use Rattle.rtl_ir.specs.declared.design.Assign.{Assign}
use Rattle.rtl_ir.specs.Value.{width_of, value}
use Rattle.rtl_ir.specs.Operands.{IsRead}
use Rattle.rtl_ir.proofs.Ports.{value_agrees}
use Rattle.rtl_ir.proofs.Words.{value_fits}
use Rattle.verilog_sim.specs.declared.instruction.Instruction.{Instruction}
use Rattle.verilog_sim.specs.Instructions.{step_value}
use Rattle.verilog_sim.proofs.Instructions.{read_by}
use Rattle.verilog_sim.specs.Contents.{family_of, contents_of}
use Rattle.verilog_sim.specs.Compiled.{IsInstructionOf, AreInstructionsOf}
use Rattle.verilog_sim.specs.Settled.{IsInOrder, AreWords, Settles, Progress}
use Rattle.verilog_sim.proofs.Step.{step_is}

pub at_start : (m : Module) (assigns : List Assign) (memories : List (List ℕ)) (old : List ℕ) → AreWords m old memories → Progress m assigns memories old old 0
at_start m assigns memories old h =
    record { nets = h.nets; words = h.words; assigned = λ j a lt e. absurd (omega arith); others = λ n f. refl }

-- a list of words with one of them written
pub set_fits : (m : Module) (values : List ℕ) (t x : ℕ) → t < length values
    → x < 2 ^ width_of m t → ((n : ℕ) → get_or values n 0 < 2 ^ width_of m n) → (n : ℕ)
    → get_or (set values t x) n 0 < 2 ^ width_of m n
set_fits m values t x lt fx words n = ⊎_elim here other (cases_eq n t)
  where
    here : n ≡ t → get_or (set values t x) n 0 < 2 ^ width_of m n
    here e =
        subst (λ (i : ℕ). get_or (set values t x) i 0 < 2 ^ width_of m i) (sym e)
        (subst (λ (y : ℕ). y < 2 ^ width_of m t) (sym (get_or-set_same values t x 0 lt)) fx)

    other : n ≢ t → get_or (set values t x) n 0 < 2 ^ width_of m n
    other ne = subst (λ (y : ℕ). y < 2 ^ width_of m n) (sym (get_or-set_other values t n x 0 ne)) (words n)

pub one_more :
    (m : Module) (assigns : List Assign) (memories : List (List ℕ)) (old new : List ℕ) (i : ℕ) (a : Assign) (x : ℕ)
    → IsInOrder m assigns → AreWords m old memories → slice_get assigns i ≡ Some a → a.target < length new
    → x ≡ value m (contents_of [] memories) (family_of new) (width_of m a.target) a.expr
    → Progress m assigns memories old new i → Progress m assigns memories old (set new a.target x) (i + 1)
one_more m assigns memories old new i a x o h at lt is p =
    record {
      nets = length-set new a.target x ∙ p.nets;
      words = set_fits m new a.target x lt fx p.words;
      assigned = λ j b less e. ⊎_elim (λ q. before j b q e) (λ q. here j b q e) (split j less);
      others = λ n f. get_or-set_other new a.target n x 0 (λ q. f i a (omega arith) at (sym q)) ∙ p.others n (λ j b less e. f j b (omega arith) e);
    }
  where
    fx : x < 2 ^ width_of m a.target
    fx = subst (λ (y : ℕ). y < 2 ^ width_of m a.target) (sym is) (value_fits m (contents_of [] memories) (family_of new) (width_of m a.target) a.expr (o.typed i a at) p.words h.cells)

    split : (j : ℕ) → j < i + 1 → (j < i) ⊎ (j ≡ i)
    split j less = ⊎_elim (λ q. inl q) (λ q. inr (omega arith)) (cases_lt j i)

    same : (j : ℕ) (b : Assign) → j ≤ i → slice_get assigns j ≡ Some b
        → value m (contents_of [] memories) (family_of new) (width_of m b.target) b.expr
        ≡ value m (contents_of [] memories) (family_of (set new a.target x))
        (width_of m b.target) b.expr
    same j b le e =
        value_agrees m (contents_of [] memories) (family_of new) (family_of (set new a.target x)) (width_of m b.target) b.expr
        (λ n r. sym (get_or-set_other new a.target n x 0 (λ q. o.unread j i b a le e at (subst (IsRead b.expr) q r))))

    before : (j : ℕ) (b : Assign) → j < i → slice_get assigns j ≡ Some b
        → get_or (set new a.target x) b.target 0 ≡ value m (contents_of [] memories)
        (family_of (set new a.target x)) (width_of m b.target) b.expr
    before j b less e = get_or-set_other new a.target b.target x 0 (o.once j i b a less e at) ∙ p.assigned j b less e ∙ same j b (omega arith) e

    here : (j : ℕ) (b : Assign) → j ≡ i → slice_get assigns j ≡ Some b
        → get_or (set new a.target x) b.target 0 ≡ value m (contents_of [] memories)
        (family_of (set new a.target x)) (width_of m b.target) b.expr
    here j b q e =
        let e' : slice_get assigns i ≡ Some b = subst (λ (k : ℕ). slice_get assigns k ≡ Some b) q e in
        let r : a ≡ b = cc in
        subst (λ (y : Assign). get_or (set new a.target x) y.target 0 ≡ value m (contents_of [] memories) (family_of (set new a.target x)) (width_of m y.target) y.expr) r
        (get_or-set_same new a.target x 0 lt ∙ is ∙ same i a (omega arith) at)

-- the low 64 bits of words fit, and are the words of narrow nets
read_fits : (m : Module) (values : List ℕ) → ((n : ℕ) → get_or values n 0 < 2 ^ width_of m n) → (narrow : Bool) (n : ℕ) → read_by narrow values n < 2 ^ width_of m n
read_fits m values words true n = let lt = words n in let le = mod-le (get_or values n 0) 18446744073709551616 in omega (arith, lt, le)
read_fits m values words false n = words n

read_same : (m : Module) (values : List ℕ) → ((n : ℕ) → get_or values n 0 < 2 ^ width_of m n)
    → (narrow : Bool) (n : ℕ) → (narrow ≡ true → width_of m n ≤ 64)
    → read_by narrow values n ≡ get_or values n 0
read_same m values words true n small =
    let lt = words n in
    let most : 2 ^ width_of m n ≤ 2 ^ 64 = pow_mono (small refl) in
    let less : get_or values n 0 < 18446744073709551616 = omega (arith, lt, most) in
    mod-eq_of_lt less
read_same m values words false n small = refl

-- the value of an instruction is that of its assignment, also from the low 64 bits of narrow nets
instruction_value :
    (m : Module) (assigns : List Assign) (memories : List (List ℕ)) (old new : List ℕ) (i : ℕ) (a : Assign) (l : Instruction) (half : Bool)
    → (half ≡ true → l.narrow ≡ true)
    → IsInOrder m assigns → AreWords m old memories → ((n : ℕ) → get_or new n 0 < 2 ^ width_of m n) → slice_get assigns i ≡ Some a → IsInstructionOf m a l → 1 ≤ l.width → l.width ≤ 128
    → step_value memories (read_by half new) l.width l.step ≡ value m (contents_of [] memories) (family_of new) (width_of m a.target) a.expr
instruction_value m assigns memories old new i a l half by o h words at r some most =
    ap (λ k. step_value memories (read_by half new) k l.step) r.width
    ∙ step_is m memories (read_by half new) (width_of m a.target) a.expr l.step (o.typed i a at) r.step (omega (arith, r.width)) (omega (arith, r.width)) (read_fits m new words half) h.depths
    ∙ value_agrees m (contents_of [] memories) (read_by half new) (family_of new) (width_of m a.target) a.expr (λ n read. read_same m new words half n (λ e. (r.narrow (by e)).reads n read))

pub one_instruction :
    (m : Module) (assigns : List Assign) (memories : List (List ℕ)) (instructions : List Instruction) (old new : List ℕ) (i : ℕ) (l : Instruction) (x : ℕ) (half : Bool)
    → (half ≡ true → l.narrow ≡ true)
    → AreInstructionsOf m assigns instructions → IsInOrder m assigns → AreWords m old memories → slice_get instructions i ≡ Some l
    → l.target < length new → 1 ≤ l.width → l.width ≤ 128
    → ((half ≡ true → step_value memories (read_by half new) l.width l.step < 2 ^ 64) → x ≡ step_value memories (read_by half new) l.width l.step)
    → Progress m assigns memories old new i → Progress m assigns memories old (set new l.target x) (i + 1)
one_instruction m assigns memories instructions old new i l x half by are o h at lt some most is p =
    let within : i < length assigns = omega (arith, slice_get_within instructions i l at, are.size) in
    let none : Assign = record { target = 0; expr = Rattle.rtl_ir.specs.declared.design.Expr.TheVariants.Net 0 } in
    let a = get_or assigns i none in
    let at' : slice_get assigns i ≡ Some a = slice_get-get_or assigns i none within in
    let r : IsInstructionOf m a l = are.each i a l at' at in
    let same = instruction_value m assigns memories old new i a l half by o h p.words at' r some most in
    let lt' : a.target < length new = omega (arith, r.target) in
    subst (λ (t : ℕ). Progress m assigns memories old (set new t x) (i + 1)) (sym r.target) (one_more m assigns memories old new i a x o h at' lt' (is (fits r same at') ∙ same) p)
  where
    fits :
        {a : Assign} → IsInstructionOf m a l → step_value memories (read_by half new) l.width l.step ≡ value m (contents_of [] memories) (family_of new) (width_of m a.target) a.expr
        → slice_get assigns i ≡ Some a → half ≡ true → step_value memories (read_by half new) l.width l.step < 2 ^ 64
    fits {a} r same at' e =
        let below = value_fits m (contents_of [] memories) (family_of new) (width_of m a.target) a.expr (o.typed i a at') p.words h.cells in
        let most : 2 ^ width_of m a.target ≤ 2 ^ 64 = pow_mono ((r.narrow (by e)).target) in
        omega (arith, same, below, most)

-- an item of a list that stands between two others
item_at : {A : Type 0} (before items rest : List A) (i : ℕ) (x : A) → slice_get items i ≡ Some x → slice_get ((before ++ items) ++ rest) (length before + i) ≡ Some x
item_at before items rest i x e =
    let lt = slice_get_within items i x e in
    let within : length before + i < length (before ++ items) = omega (arith, length-append before items) in
    slice_get-get_or ((before ++ items) ++ rest) (length before + i) x (omega (arith, length-append (before ++ items) rest))
    ∙ ap (λ y. Some y) (get_or_append_left (before ++ items) rest x (length before + i) within ∙ get_or-append-add before items i x ∙ get_or_from_slice_get items i x x e)

-- one instruction more of those that stand between others
pub instruction_between :
    (m : Module) (assigns : List Assign) (memories : List (List ℕ)) (before instructions rest : List Instruction) (old new : List ℕ) (i : ℕ) (l : Instruction) (x : ℕ) (half : Bool)
    → (half ≡ true → l.narrow ≡ true)
    → AreInstructionsOf m assigns ((before ++ instructions) ++ rest) → IsInOrder m assigns → AreWords m old memories → slice_get instructions i ≡ Some l
    → l.target < length new → 1 ≤ l.width → l.width ≤ 128
    → ((half ≡ true → step_value memories (read_by half new) l.width l.step < 2 ^ 64) → x ≡ step_value memories (read_by half new) l.width l.step)
    → Progress m assigns memories old new (length before + i) → Progress m assigns memories old (set new l.target x) (length before + (i + 1))
instruction_between m assigns memories before instructions rest old new i l x half by are o h at lt some most is p =
    let next : length before + i + 1 ≡ length before + (i + 1) = omega arith in
    subst (Progress m assigns memories old (set new l.target x)) next
    (one_instruction m assigns memories ((before ++ instructions) ++ rest) old new (length before + i) l x half by are o h (item_at before instructions rest i l at) lt some most is p)

-- the target of a narrow instruction has a value below 2^64
pub target_below :
    (m : Module) (assigns : List Assign) (memories : List (List ℕ)) (before instructions rest : List Instruction) (old new : List ℕ) (i k : ℕ) (l : Instruction)
    → AreInstructionsOf m assigns ((before ++ instructions) ++ rest) → slice_get instructions i ≡ Some l → l.narrow ≡ true → Progress m assigns memories old new k → get_or new l.target 0 < 2 ^ 64
target_below m assigns memories before instructions rest old new i k l are at narrow p =
    let all = item_at before instructions rest i l at in
    let within : length before + i < length assigns = omega (arith, slice_get_within ((before ++ instructions) ++ rest) (length before + i) l all, are.size) in
    let none : Assign = record { target = 0; expr = Rattle.rtl_ir.specs.declared.design.Expr.TheVariants.Net 0 } in
    let a = get_or assigns (length before + i) none in
    let r : IsInstructionOf m a l = are.each (length before + i) a l (slice_get-get_or assigns (length before + i) none within) all in
    let most : 2 ^ width_of m a.target ≤ 2 ^ 64 = pow_mono ((r.narrow narrow).target) in
    let below = p.words a.target in
    subst (λ (t : ℕ). get_or new t 0 < 2 ^ 64) (sym r.target) (omega (arith, below, most))

-- the instructions that stand between others are done
pub instructions_between :
    (m : Module) (assigns : List Assign) (memories : List (List ℕ)) (before instructions : List Instruction) (old new : List ℕ) (i : ℕ)
    → i ≡ length instructions → Progress m assigns memories old new (length before + i) → Progress m assigns memories old new (length (before ++ instructions))
instructions_between m assigns memories before instructions old new i e p =
    let all : length before + i ≡ length (before ++ instructions) = omega (arith, length-append before instructions) in
    subst (Progress m assigns memories old new) all p

pub at_last : (m : Module) (assigns : List Assign) (memories : List (List ℕ))
    (instructions : List Instruction) (old new : List ℕ) (i : ℕ) → AreInstructionsOf m assigns instructions
    → length instructions ≤ i → Progress m assigns memories old new i → Settles m assigns memories old new
at_last m assigns memories instructions old new i are past p =
    record {
      nets = p.nets;
      words = p.words;
      assigned = λ j a e. p.assigned j a (omega (arith, slice_get_within assigns j a e, are.size)) e;
      others = λ n f. p.others n (λ j a less e. f j a e);
    }
