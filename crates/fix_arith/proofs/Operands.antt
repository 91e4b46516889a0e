-- The operands of an operation, and their widths.
use Rattle.std.proofs.Common.{arith, refl, Option, ⊎_elim, get_or, ◌≡◌, ◌<◌, ◌≤◌, ℕ, ap, sym, ◌∙◌, subst, List, [], ◌∷◌, length, map, drop, IfSome, slice_get}
use Rattle.std.specs.List.{between}
use Rattle.std.proofs.lemmas.Option.{slice_get_cases}
use Rattle.std.proofs.lemmas.List.{get_or-map, length-map}
use Rattle.std.proofs.lemmas.Slice.{between_to_end}
use Rattle.std.proofs.Math.Nat.{le_refl}
use Rattle.mx_bits.specs.declared.word.Word.{Word}
use Rattle.fix_arith.specs.declared.types.StreamType.{StreamType}
use Rattle.fix_arith.specs.Types.{width_of}
use Rattle.fix_arith.specs.Typing.{AllSame, first, second}
use Rattle.fix_arith.specs.declared.types.StreamType.TheVariants.{UInt, Bool as OneBit}
use Rattle.fix_arith.specs.Table.{widths_of, bits_of, operand}

-- one word per type
pub count_is : (ws : List Word) (ts : List StreamType) → widths_of ws ≡ map width_of ts → length ws ≡ length ts
count_is ws ts e = sym (length-map ws (λ w. w.width)) ∙ ap length e ∙ length-map ts width_of

-- the first type, read with another default
pub first_type : (ts : List StreamType) → 1 ≤ length ts → get_or ts 0 (UInt 0) ≡ first ts
first_type [] h = absurd (omega (arith, h))
first_type (t ∷ ts) h = refl

-- the width of each operand is its type's
width_at : (ws : List Word) (ts : List StreamType) (i : ℕ) (w : Word) → widths_of ws ≡ map width_of ts → i < length ws → w ≡ get_or ws i w → w.width ≡ width_of (get_or ts i OneBit)
width_at ws ts i w e h is =
    let within : i < length ts = subst (λ n. i < n) (count_is ws ts e) h in
    ap (λ (x : Word). x.width) is ∙ sym (get_or-map (λ (x : Word). x.width) ws i w 0 h) ∙ ap (λ ns. get_or ns i 0) e ∙ get_or-map width_of ts i OneBit 0 within

-- the first operand
pub first_is : (ws : List Word) (ts : List StreamType) (a : Word)
    → widths_of ws ≡ map width_of ts → 1 ≤ length ts → a ≡ get_or ws 0 a
    → (operand (bits_of ws) 0 ≡ a.bits) × (a.width ≡ width_of (first ts))
first_is ws ts a e h is =
    let within : 0 < length ws = subst (λ n. 0 < n) (sym (count_is ws ts e)) h in
    (get_or-map (λ (x : Word). x.bits) ws 0 a 0 within ∙ sym (ap (λ (x : Word). x.bits) is), width_at ws ts 0 a e within is)

-- words of one type have its width
alike_at : (ws : List Word) (ts : List StreamType) (i : ℕ) (w : Word) → widths_of ws ≡ map width_of ts → AllSame ts → i < length ws → w ≡ get_or ws i w → w.width ≡ width_of (first ts)
alike_at ws ts i w e same h is =
    let within : i < length ts = subst (λ n. i < n) (count_is ws ts e) h in
    width_at ws ts i w e h is ∙ ap width_of (same i OneBit within)

-- the second operand
pub second_is : (ws : List Word) (ts : List StreamType) (b : Word)
    → widths_of ws ≡ map width_of ts → AllSame ts → 2 ≤ length ts → b ≡ get_or ws 1 b
    → (operand (bits_of ws) 1 ≡ b.bits) × (b.width ≡ width_of (first ts))
second_is ws ts b e same h is =
    let within : 1 < length ws = subst (λ n. 1 < n) (sym (count_is ws ts e)) h in
    (get_or-map (λ (x : Word). x.bits) ws 1 b 0 within ∙ sym (ap (λ (x : Word). x.bits) is), alike_at ws ts 1 b e same within is)

-- where there are two types, there is a second operand
pub two_within : (ws : List Word) (ts : List StreamType) → widths_of ws ≡ map width_of ts → length ts ≡ 2 → 1 < length ws
two_within ws ts e h = let count = count_is ws ts e in omega (arith, count, h)

-- what the functions of two words ask for
pub first_width : (ws : List Word) (ts : List StreamType) (a : Word)
    → widths_of ws ≡ map width_of ts → 1 ≤ length ts → a ≡ get_or ws 0 a
    → a.width ≡ width_of (get_or ts 0 (UInt 0))
first_width ws ts a e h is = (first_is ws ts a e h is).1 ∙ ap width_of (sym (first_type ts h))

pub second_width : (ws : List Word) (ts : List StreamType) (b : Word)
    → widths_of ws ≡ map width_of ts → AllSame ts → length ts ≡ 2 → b ≡ get_or ws 1 b
    → b.width ≡ width_of (get_or ts 0 (UInt 0))
second_width ws ts b e same h is = (second_is ws ts b e same (omega (arith, h)) is).1 ∙ ap width_of (sym (first_type ts (omega (arith, h))))

-- a chosen option has the second type's width
chosen_width : (ws : List Word) (ts : List StreamType) (s : ℕ) → widths_of ws ≡ map width_of ts → AllSame ts → IfSome (slice_get ws s) (λ w. w.width ≡ width_of (first ts))
chosen_width ws ts s e same =
    let P : Option Word → Type 0 = λ r. IfSome r (λ w. w.width ≡ width_of (first ts)) in
    ⊎_elim (λ found. subst P (sym found.2) (alike_at ws ts s found.0 e same found.1 (sym found.3))) (λ past. subst P (sym past.1) tt) (slice_get_cases ws s).1

option_at : (ws : List Word) (ts : List StreamType) (s : ℕ) → widths_of ws ≡ map width_of ts → AllSame (drop 1 ts) → IfSome (slice_get (drop 1 ws) s) (λ w. w.width ≡ width_of (second ts))
option_at [] ts s e same = tt
option_at (w ∷ ws) [] s e same = cc
option_at (w ∷ ws) (t ∷ ts) s e same = let tail : widths_of ws ≡ map width_of ts = cc in chosen_width ws ts s tail same

pub option_width : (ws : List Word) (ts : List StreamType) (out : StreamType) (s : ℕ)
    → widths_of ws ≡ map width_of ts → AllSame (drop 1 ts) → out ≡ second ts
    → IfSome (slice_get (between 1 (length ws) ws) s) (λ w. w.width ≡ width_of out)
option_width ws ts out s e same o =
    let P : List Word → StreamType → Type 0 = λ xs t. IfSome (slice_get xs s) (λ w. w.width ≡ width_of t) in
    subst (λ t. P (between 1 (length ws) ws) t) (sym o) (subst (λ xs. P xs (second ts)) (sym (between_to_end ws 1 (length ws) (le_refl (length ws)))) (option_at ws ts s e same))
