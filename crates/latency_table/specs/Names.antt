-- The names of operations.
use Rattle.std.specs.Prelude.{ℕ, Bool, true, ◌&&◌, List, [], ◌∷◌, codes, bytes_eq}
use Rattle.std.specs.Cmp.Lexicographic.{slice_cmp}
use Rattle.std.specs.Ordering.{nat_cmp, is_lt}
use Rattle.std.specs.List.{list_any}
use Rattle.mx_bits.specs.declared.op.Op.{Op}
use Rattle.mx_bits.specs.declared.op.Op.TheVariants.{Add, Sub, Mul, Div, Neg, And, Or, Xor, Not, Shl, Shr, Eq, Ne, Lt, Le, Gt, Ge, Mux, Cast, Round}

abbrev pub Name : Type 0
Name = List ℕ

abbrev pub name_of : Op → Name
name_of Add = codes "add"
name_of Sub = codes "sub"
name_of Mul = codes "mul"
name_of Div = codes "div"
name_of Neg = codes "neg"
name_of And = codes "and"
name_of Or = codes "or"
name_of Xor = codes "xor"
name_of Not = codes "not"
name_of Shl = codes "shl"
name_of Shr = codes "shr"
name_of Eq = codes "eq"
name_of Ne = codes "ne"
name_of Lt = codes "lt"
name_of Le = codes "le"
name_of Gt = codes "gt"
name_of Ge = codes "ge"
name_of Mux = codes "mux"
name_of Cast = codes "cast"
name_of Round = codes "round"

-- the operations whose latencies a table says, in the byte order of their names: all but Shl, Shr and Cast
abbrev pub operations : List Op
operations = Add ∷ And ∷ Div ∷ Eq ∷ Ge ∷ Gt ∷ Le ∷ Lt ∷ Mul ∷ Mux ∷ Ne ∷ Neg ∷ Not ∷ Or ∷ Round ∷ Sub ∷ Xor ∷ []

-- the key of a table is the name of one of them
abbrev pub names_operation : Name → Bool
names_operation key = list_any (λ op. bytes_eq (name_of op) key) operations

-- each name stands before the next one in byte order
abbrev pub are_in_byte_order : List Name → Bool
are_in_byte_order [] = true
are_in_byte_order (name ∷ []) = true
are_in_byte_order (name ∷ next ∷ names) = is_lt (slice_cmp nat_cmp name next) && are_in_byte_order (next ∷ names)
