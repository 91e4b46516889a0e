-- The rows of the table, and their operands.
use Rattle.std.proofs.Common.{◌≡◌, ℕ, zero, suc, ◌<◌, ◌≤◌, ◌⊎◌, inl, inr, Bool, true, false, List, [], ◌∷◌, Some, All, map, drop, length, get_or, refl, sym, ap, ◌∙◌, subst, arith, ℤ, pos, ◌*ℤ◌}
use Rattle.std.specs.Prelude.{slice_get}
use Rattle.std.proofs.lemmas.List.{get_or-map, length-map}
use Rattle.std.proofs.lemmas.Option.{slice_get_past}
use Rattle.std.proofs.lemmas.Bool.{cases_lt}
use Rattle.mx_bits.specs.declared.op.Op.{Op}
use Rattle.mx_bits.specs.declared.op.Op.TheVariants.{Add, Sub, Mul, Div, Neg, And, Or, Xor, Not, Shl, Shr, Eq, Ne, Lt, Le, Gt, Ge, Mux, Cast, Round}
use Rattle.fix_arith.specs.declared.types.StreamType.{StreamType}
use Rattle.fix_arith.specs.declared.types.StreamType.TheVariants.{UInt, Int, Fix, Bool as OneBit}
use Rattle.fix_arith.specs.declared.types.RoundMode.{RoundMode}
use Rattle.fix_arith.specs.Types.{width_of as type_width, HasWidth}
use Rattle.fix_arith.specs.Typing.{first, second, type_of, AllSame, HasType}
use Rattle.fix_arith.specs.Table.{applied, row_of, operand, cast_of, product_of, GivesType}
use Rattle.rtl_ir.specs.declared.design.Port.{Port}
use Rattle.rtl_ir.specs.declared.design.Module.{Module}
use Rattle.rtl_ir.specs.Value.{Family, width_of, net_width}
use Rattle.rtl_build.specs.Wires.{is_output, AreInner}
use Rattle.rtl_build.specs.Signals.{HasSignal}
use Rattle.rtl_ops.specs.Operands.{takes_two, HasNets}
use Rattle.rtl_ops.proofs.Options.{rest_of, rest_is, length-rest, default_free}

-- ---- operands
pub first_type : (types : List StreamType) (d : StreamType) → 1 ≤ length types → get_or types 0 d ≡ first types
first_type [] d h = absurd (omega arith)
first_type (t ∷ types) d h = refl

-- a net with a width is a net of the module
net_within : (m : Module) (n : ℕ) → 1 ≤ width_of m n → n < length m.nets
net_within m n h = elim (cases_lt n (length m.nets)) as (λ _. n < length m.nets) [
  | inl lt ↦ lt
  | inr ge ↦ let none : width_of m n ≡ 0 = ap net_width (slice_get_past m.nets n ge) in absurd (omega arith)
]

pub length-args : (m : Module) (types : List StreamType) (args : List ℕ) → HasNets m types args → length args ≡ length types
length-args m types args e = sym (length-map args (width_of m)) ∙ ap length e.widths ∙ length-map types type_width

inner_at : (ps : List Port) (ns : List ℕ) (i : ℕ) → AreInner ps ns → i < length ns → is_output ps (get_or ns i 0) ≡ false
inner_at ps [] i h lt = absurd (omega arith)
inner_at ps (n ∷ ns) zero h lt = h.0
inner_at ps (n ∷ ns) (suc i) h lt = inner_at ps ns i h.1 (omega arith)

pub signal_of : (m : Module) (types : List StreamType) (args : List ℕ) (i w n : ℕ)
    (d : StreamType) → HasNets m types args → All HasWidth types → i < length types
    → n ≡ get_or args i 0 → w ≡ type_width (get_or types i d)
    → HasSignal m (record { net = n; width = w })
signal_of m types args i w n d e all h is wide =
    let within : i < length args = subst (λ k. i < k) (sym (length-args m types args e)) h in
    let size : width_of m n ≡ w = ap (width_of m) is ∙ sym (get_or-map (width_of m) args i 0 0 within) ∙ ap (λ ns. get_or ns i 0) e.widths ∙ get_or-map type_width types i d 0 h ∙ sym wide in
    let range = all i d h in
    record {
      net = net_within m n (omega (arith, range.0));
      inner = ap (is_output m.ports) is ∙ inner_at m.ports args i e.inner within;
      width = size;
      some = omega (arith, range.0);
      at_most = omega (arith, range.1);
    }

-- the second operand has the type of the first
pub second_signal : (m : Module) (types : List StreamType) (args : List ℕ) (w : ℕ)
    (d : StreamType) → HasNets m types args → All HasWidth types → AllSame types
    → 2 ≤ length types → w ≡ type_width (get_or types 0 d)
    → HasSignal m (record { net = get_or args 1 0; width = w })
second_signal m types args w d e all same h wide =
    signal_of m types args 1 w (get_or args 1 0) d e all (omega arith) refl (wide ∙ ap type_width (first_type types d (omega arith) ∙ sym (same 1 d (omega arith))))

rest_signals : (m : Module) (types : List StreamType) (args : List ℕ) (w : ℕ)
    → HasNets m types args → All HasWidth types → AllSame types → w ≡ type_width (first types)
    → All (λ n. HasSignal m (record { net = n; width = w })) args
rest_signals m types args w e all same wide k d h =
    let within : k < length types = subst (λ j. k < j) (length-args m types args e) h in
    signal_of m types args k w (get_or args k d) OneBit e all within (default_free args k d 0 h) (wide ∙ ap type_width (sym (same k OneBit within)))

pub option_signals : (m : Module) (types : List StreamType) (args : List ℕ) (w : ℕ)
    → HasNets m types args → All HasWidth types → AllSame (drop 1 types)
    → w ≡ type_width (second types)
    → All (λ n. HasSignal m (record { net = n; width = w })) (rest_of args)
option_signals m types [] w e all same wide = λ k d h. absurd (omega (arith, length-rest []))
option_signals m [] (a ∷ args) w e all same wide = absurd (cc)
option_signals m (t ∷ types) (a ∷ args) w e all same wide =
    let tail : HasNets m types args = record { widths = let w : map (width_of m) (a ∷ args) ≡ map type_width (t ∷ types) = e.widths in cc; inner = e.inner.1 } in
    subst (λ l. All (λ n. HasSignal m (record { net = n; width = w })) l) (sym (rest_is a args)) (rest_signals m types args w tail (λ i d h. all (suc i) d (omega arith)) same wide)

-- the words of operands
pub operand_at : (v : Family) (args : List ℕ) (i : ℕ) → i < length args → operand (map v args) i ≡ v (get_or args i 0)
operand_at v args i h = get_or-map v args i 0 0 h

-- ---- rows
pub mux_row : (v : Family) (args : List ℕ) → 1 ≤ length args → slice_get (map v (rest_of args)) (v (get_or args 0 0)) ≡ slice_get (drop 1 (map v args)) (operand (map v args) 0)
mux_row v [] h = absurd (omega arith)
mux_row v (a ∷ args) h = ap (λ (l : List ℕ). slice_get (map v l) (v a)) (rest_is a args)

pub cast_row : (op : Op) (mode : RoundMode) (types : List StreamType) (words : List ℕ) (k : ℕ)
    (out : StreamType) → (op ≡ Cast) ⊎ (op ≡ Round)
    → applied op mode types words k out ≡ Some (cast_of mode (first types) out (operand words 0))
cast_row op mode types words k out (inl e) = rw e refl
cast_row op mode types words k out (inr e) = rw e refl

pub cast_count : (op : Op) (types : List StreamType) (k : ℕ) (out : StreamType) → (op ≡ Cast) ⊎ (op ≡ Round) → GivesType op types k out → length types ≡ 1
cast_count op types k out (inl e) g = (subst (λ o. GivesType o types k out) e g).0
cast_count op types k out (inr e) g = (subst (λ o. GivesType o types k out) e g).0

pub two_by_rest : (op : Op) → (op ≡ Neg → ⊥) → (op ≡ Not → ⊥) → (op ≡ Shl → ⊥) → (op ≡ Shr → ⊥) → (op ≡ Mux → ⊥) → (op ≡ Cast → ⊥) → (op ≡ Round → ⊥) → takes_two op ≡ true
two_by_rest Add a b c d e f g = refl
two_by_rest Sub a b c d e f g = refl
two_by_rest Mul a b c d e f g = refl
two_by_rest Div a b c d e f g = refl
two_by_rest Neg a b c d e f g = absurd (a refl)
two_by_rest And a b c d e f g = refl
two_by_rest Or a b c d e f g = refl
two_by_rest Xor a b c d e f g = refl
two_by_rest Not a b c d e f g = absurd (b refl)
two_by_rest Shl a b c d e f g = absurd (c refl)
two_by_rest Shr a b c d e f g = absurd (d refl)
two_by_rest Eq a b c d e f g = refl
two_by_rest Ne a b c d e f g = refl
two_by_rest Lt a b c d e f g = refl
two_by_rest Le a b c d e f g = refl
two_by_rest Gt a b c d e f g = refl
two_by_rest Ge a b c d e f g = refl
two_by_rest Mux a b c d e f g = absurd (e refl)
two_by_rest Cast a b c d e f g = absurd (f refl)
two_by_rest Round a b c d e f g = absurd (g refl)

-- what an operation of two operands asks of its types, and gives
pub record OnTwo (op : Op) (mode : RoundMode) (types : List StreamType) (words : List ℕ) (k : ℕ) (out : StreamType) : Type 0 where
  pub row : applied op mode types words k out ≡ row_of op mode (first types) 0 (operand words 0) (operand words 1)
  pub result : (t : StreamType) → t ≡ first types → type_of op (t ∷ []) ≡ type_of op types
  pub gives : GivesType op types k out → (length types ≡ 2) × AllSame types × HasType op types (pos k) out

pub on_two : (op : Op) (mode : RoundMode) (types : List StreamType) (words : List ℕ) (k : ℕ) (out : StreamType) → takes_two op ≡ true → OnTwo op mode types words k out
on_two Add mode types words k out e = record { row = refl; result = λ t f. f; gives = λ g. (g.0, g.1.one_type, g.1) }
on_two Sub mode types words k out e = record { row = refl; result = λ t f. f; gives = λ g. (g.0, g.1.one_type, g.1) }
on_two Mul mode types words k out e = record { row = refl; result = λ t f. f; gives = λ g. (g.0, g.1.one_type, g.1) }
on_two Div mode types words k out e = record { row = refl; result = λ t f. f; gives = λ g. (g.0, g.1.one_type, g.1) }
on_two And mode types words k out e = record { row = refl; result = λ t f. f; gives = λ g. (g.0, g.1.one_type, g.1) }
on_two Or mode types words k out e = record { row = refl; result = λ t f. f; gives = λ g. (g.0, g.1.one_type, g.1) }
on_two Xor mode types words k out e = record { row = refl; result = λ t f. f; gives = λ g. (g.0, g.1.one_type, g.1) }
on_two Eq mode types words k out e = record { row = refl; result = λ t f. refl; gives = λ g. (g.0, g.1.one_type, g.1) }
on_two Ne mode types words k out e = record { row = refl; result = λ t f. refl; gives = λ g. (g.0, g.1.one_type, g.1) }
on_two Lt mode types words k out e = record { row = refl; result = λ t f. refl; gives = λ g. (g.0, g.1.one_type, g.1) }
on_two Le mode types words k out e = record { row = refl; result = λ t f. refl; gives = λ g. (g.0, g.1.one_type, g.1) }
on_two Gt mode types words k out e = record { row = refl; result = λ t f. refl; gives = λ g. (g.0, g.1.one_type, g.1) }
on_two Ge mode types words k out e = record { row = refl; result = λ t f. refl; gives = λ g. (g.0, g.1.one_type, g.1) }
on_two Neg mode types words k out e = absurd (cc)
on_two Not mode types words k out e = absurd (cc)
on_two Shl mode types words k out e = absurd (cc)
on_two Shr mode types words k out e = absurd (cc)
on_two Mux mode types words k out e = absurd (cc)
on_two Cast mode types words k out e = absurd (cc)
on_two Round mode types words k out e = absurd (cc)

-- ---- products
pub whole_product : (mode : RoundMode) (t : StreamType) (x y : ℤ) → ((w f : ℕ) (s : Bool) → t ≡ Fix w f s → ⊥) → x *ℤ y ≡ product_of mode t x y
whole_product mode (UInt bits) x y other = refl
whole_product mode (Int bits) x y other = refl
whole_product mode (Fix whole frac signed) x y other = absurd (other whole frac signed refl)
whole_product mode OneBit x y other = refl
