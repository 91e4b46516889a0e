-- The kinds of values, and the values of literals.
use Rattle.std.specs.Prelude.{
  ◌==◌,
  ◌&&◌,
  ℕ,
  ◌+◌,
  ◌-◌,
  List,
  ◌++◌,
  length,
  Bool,
  false,
  Option,
  Some,
  None,
  Result,
  Ok,
  Err,
  codes,
  if◌then◌else◌,
  pos,
  nat_lt,
  take,
  drop,
}
use Rattle.std.specs.Str.{bytes_eq}
use Rattle.std.specs.List.{list_any, before_first, after_first}
use Rattle.grammar.specs.Bytes.{decimal_value}
use Rattle.maxj_tokens.specs.Tokens.{is_suffix, is_dot}
use Rattle.maxj_tokens.specs.Faults.{integer_value}
use Rattle.maxj_syntax.specs.Tree.{Tree, Node, Nil, Cons}
use Rattle.maxj_syntax.specs.declared.tree.NodeKind.TheVariants as N
use Rattle.kernel_meaning.specs.declared.value.Base.{Base}
use Rattle.kernel_meaning.specs.declared.value.Value.{Value}
use Rattle.kernel_meaning.specs.declared.value.Declared.{Declared}
use Rattle.kernel_meaning.specs.declared.value.Base.TheVariants as B
use Rattle.kernel_meaning.specs.declared.value.Value.TheVariants as V

abbrev pub number_of : Base → ℕ
number_of B.Int = 0
number_of B.Boolean = 1
number_of B.Str = 2
number_of B.Stream = 3
number_of B.StreamType = 4
number_of B.Chain = 5
number_of B.Block = 6
number_of B.Link = 7
number_of B.KernelParameters = 8
number_of B.EngineParameters = 9

abbrev pub same_declared : Declared → Declared → Bool
same_declared d e = number_of d.base == number_of e.base && d.rank == e.rank

abbrev pub plain : Base → Option Declared
plain base = Some (record { base = base; rank = 0 })

-- the type of the variables that may have this value
abbrev pub kind_of : Value → Option Declared
kind_of V.Nothing = None
kind_of (V.Int n) = plain B.Int
kind_of (V.Flag b) = plain B.Boolean
kind_of (V.Str text) = plain B.Str
kind_of (V.«Type» t) = plain B.StreamType
kind_of (V.Stream n t feed) = plain B.Stream
kind_of (V.Chain n) = plain B.Chain
kind_of (V.Array n of) = Some (record { base = of.base; rank = of.rank + 1 })
kind_of (V.Literal negative digits tens) = None
kind_of V.Parameters = plain B.KernelParameters
kind_of V.Engine = plain B.EngineParameters
kind_of (V.Block n) = plain B.Block
kind_of (V.Link end side) = plain B.Link

abbrev pub fits : Declared → Option Declared → Bool
fits d None = false
fits d (Some e) = same_declared d e

-- the value is one of a variable of this type
abbrev pub has_kind : Declared → Value → Bool
has_kind d value = fits d (kind_of value)

-- the base that a word is
abbrev pub base_of : List ℕ → Option Base
base_of word =
    if bytes_eq word (codes "int") then Some B.Int else
    (if bytes_eq word (codes "boolean") then Some B.Boolean else
    (if bytes_eq word (codes "String") then Some B.Str else
    (if bytes_eq word (codes "DFEVar") then Some B.Stream else
    (if bytes_eq word (codes "DFEType") then Some B.StreamType else
    (if bytes_eq word (codes "CounterChain") then Some B.Chain else
    (if bytes_eq word (codes "KernelBlock") then Some B.Block else
    (if bytes_eq word (codes "DFELink") then Some B.Link else
    (if bytes_eq word (codes "KernelParameters") then Some B.KernelParameters else
    (if bytes_eq word (codes "EngineParameters") then Some B.EngineParameters else None)))))))))

abbrev pub placed : ℕ → Option Base → Result Declared ℕ
placed at None = Err at
placed at (Some base) = Ok (record { base = base; rank = 0 })

abbrev pub raised : Result Declared ℕ → Result Declared ℕ
raised (Err at) = Err at
raised (Ok d) = Ok (record { base = d.base; rank = d.rank + 1 })

-- the type that a tree says, or the place of a name that is no type
abbrev pub declared_by : Tree → Result Declared ℕ
declared_by (Node N.Plain word span trees) = placed span.from (base_of word)
declared_by (Node N.ArrayOf word span (Cons tree Nil)) = raised (declared_by tree)
declared_by (Node _ word span trees) = Err span.from

-- an integer: wide with a suffix or above 2^31 - 1
abbrev pub whole_of : List ℕ → Value
whole_of word =
    if list_any is_suffix word then V.Literal false (integer_value word) 0
    else (if nat_lt (integer_value word) 2147483648 then V.Int (pos (integer_value word))
    else V.Literal false (integer_value word) 0)

abbrev pub decimal_of : List ℕ → Value
decimal_of word =
    V.Literal false (decimal_value (before_first is_dot word ++ after_first is_dot word))
    (length (after_first is_dot word))

-- what stands between the quotes
abbrev pub quoted : List ℕ → List ℕ
quoted word = take (length word - 2) (drop 1 word)
