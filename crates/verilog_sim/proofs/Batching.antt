-- One more instruction behind those of a batch.
use Rattle.std.proofs.Common.{◌≡◌, ℕ, zero, suc, true, List, [], ◌∷◌, ◌++◌, map, take, Some, sym, ap, ◌∙◌, subst, append_assoc, append-nil}
use Rattle.std.specs.Prelude.{slice_get}
use Rattle.std.specs.List.{All}
use Rattle.std.proofs.lemmas.Option.{slice_get_within, get_or_from_slice_get}
use Rattle.std.proofs.lemmas.List.{map-append}
use Rattle.verilog_sim.specs.declared.instruction.Step.{Step}
use Rattle.verilog_sim.specs.declared.instruction.Instruction.{Instruction}
use Rattle.verilog_sim.specs.declared.batch.Entry.{Entry}
use Rattle.verilog_sim.specs.declared.batch.Batch.{Batch}
use Rattle.verilog_sim.specs.Batches.{instruction_of, instructions_in, instructions_of_all, Advances}
use Rattle.verilog_sim.specs.Instructions.{IsSafe}

-- an entry of an instruction says what the instruction says
entry_instruction : {R : Type 0} (step : R → Step) (e : Entry R) (r : R) (l : Instruction)
    → e ≡ record { target = l.target; width = l.width; reads = r } → l.narrow ≡ true
    → l.step ≡ step r → instruction_of step e ≡ l
entry_instruction step e r l is narrow same = ap (instruction_of step) is ∙ ap
    (λ b. record { target = l.target; width = l.width; narrow = b; step = step r })
    (sym narrow) ∙ ap (λ s. record
    { target = l.target; width = l.width; narrow = l.narrow; step = s }) (sym same)

pub entry_added :
    {R : Type 0} (step : R → Step) (b : Batch) (entries more : List (Entry R)) (e : Entry R) (r : R) (l : Instruction)
    → instructions_in b ≡ map (instruction_of step) entries → more ≡ entries ++ e ∷ [] → e ≡ record { target = l.target; width = l.width; reads = r } → l.narrow ≡ true → l.step ≡ step r
    → map (instruction_of step) more ≡ instructions_in b ++ l ∷ []
entry_added step b entries more e r l was now is narrow same =
    ap (map (instruction_of step)) now
    ∙ map-append (instruction_of step) entries (e ∷ [])
    ∙ ap (λ x. map (instruction_of step) entries ++ x ∷ []) (entry_instruction step e r l is narrow same)
    ∙ ap (λ x. x ++ l ∷ []) (sym was)

-- the instructions of one more batch
pub instructions_more : (bs : List Batch) (b : Batch) → instructions_of_all (bs ++ b ∷ []) ≡ instructions_of_all bs ++ instructions_in b
instructions_more [] b = append-nil (instructions_in b)
instructions_more (c ∷ bs) b = ap (λ x. instructions_in c ++ x) (instructions_more bs b) ∙ sym (append_assoc (instructions_in c) (instructions_of_all bs) (instructions_in b))

-- all instructions are those of the batches before one, its own and those behind it
pub instructions_around : (bs : List Batch) (i : ℕ) (b : Batch) → slice_get bs i ≡ Some b
    → (rest : List Instruction) × (instructions_of_all bs ≡ (instructions_of_all (take i bs)
    ++ instructions_in b) ++ rest)
instructions_around [] i b e = absurd (cc)
instructions_around (c ∷ bs) zero b e = let same : c ≡ b = cc in (instructions_of_all bs, ap (λ x. instructions_in x ++ instructions_of_all bs) same)
instructions_around (c ∷ bs) (suc i) b e =
    let r = instructions_around bs i b e in (
      r.0,
      ap (λ x. instructions_in c ++ x) r.1 ∙ sym (append_assoc (instructions_in c)
          (instructions_of_all (take i bs) ++ instructions_in b) r.0) ∙ ap (λ x. x
          ++ r.0) (sym (append_assoc (instructions_in c) (instructions_of_all (take i bs)) (instructions_in b))),
    )

-- the instructions of a batch are safe where those of its entries are
pub batch_safe :
    {R : Type 0} (step : R → Step) (n k : ℕ) (b : Batch) (items entries : List (Entry R))
    → instructions_in b ≡ map (instruction_of step) items → entries ≡ items → All (IsSafe n k) (instructions_in b) → All (IsSafe n k) (map (instruction_of step) entries)
batch_safe step n k b items entries is same = subst (All (IsSafe n k)) (is ∙ ap (map (instruction_of step)) (sym same))

pub batch_advances :
    {R : Type 0} (step : R → Step) (memories : List (List ℕ)) (old new : List ℕ) (b : Batch) (items entries : List (Entry R))
    → instructions_in b ≡ map (instruction_of step) items → entries ≡ items → Advances (map (instruction_of step) entries) memories old new → Advances (instructions_in b) memories old new
batch_advances step memories old new b items entries is same = subst (λ (instructions : List Instruction). Advances instructions memories old new) (ap (map (instruction_of step)) same ∙ sym is)

-- what holds of all items holds of one
pub one_of_all : {A : Type 0} (P : A → Type 0) (xs : List A) (i : ℕ) (x : A) → All P xs → slice_get xs i ≡ Some x → P x
one_of_all P xs i x h e = subst P (get_or_from_slice_get xs i x x e) (h i x (slice_get_within xs i x e))

pub mapped_at : {A B : Type 0} (f : A → B) (xs : List A) (i : ℕ) (x : A) → slice_get xs i ≡ Some x → slice_get (map f xs) i ≡ Some (f x)
mapped_at f [] i x e = absurd (cc)
mapped_at f (y ∷ ys) zero x e = let same : y ≡ x = cc in ap (λ z. Some (f z)) same
mapped_at f (y ∷ ys) (suc i) x e = mapped_at f ys i x e
