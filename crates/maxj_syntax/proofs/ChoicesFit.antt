-- The choice that the parser takes at the next token, and what it must know of the rules to take the right one.
use Rattle.std.specs.Prelude.{ℕ, List, [], ◌∷◌, Bool, true, false, ◌&&◌}
use Rattle.std.specs.Prelude.{nat_lt}
use Rattle.grammar.specs.Stack.{all_empty}
use Rattle.maxj_tokens.specs.declared.sign.Sign.TheVariants as S
use Rattle.maxj_syntax.specs.declared.tree.NodeKind.TheVariants as N
use Rattle.maxj_syntax.specs.declared.symbol.TokenClass.TheVariants as C
use Rattle.maxj_syntax.specs.Symbols.{Symbol, Name}
use Rattle.maxj_syntax.specs.Choosing.{within, apart, implies, set_of, empties, all_begin, follows, chain}

-- the choice keeps what is said of a symbol that begins so, may be empty, and goes on so
abbrev pub choice_fits : ℕ → Bool → ℕ → List Symbol → Bool
choice_fits begin empty on c = within (all_begin c) begin && (implies (all_empty empties c) empty && follows on c)

abbrev pub choices_fit : ℕ → Bool → ℕ → List (List Symbol) → Bool
choices_fit begin empty on [] = true
choices_fit begin empty on (c ∷ cs) = choice_fits begin empty on c && choices_fit begin empty on cs

-- no choice begins with a name
abbrev pub nameless : List (List Symbol) → Bool
nameless [] = true
nameless (c ∷ cs) = apart (all_begin c) (set_of (C.Name ∷ [])) && (implies (all_empty empties c) false && nameless cs)

abbrev pub lighter : ℕ → List (List Symbol) → Bool
lighter n [] = true
lighter n (c ∷ cs) = nat_lt (chain c) n && lighter n cs
