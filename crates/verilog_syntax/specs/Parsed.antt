-- What a whole parse answers.
use Rattle.std.specs.Prelude.{◌≡◌, ℕ, List, map, slice_index_or}
use Rattle.grammar.specs.Grammar.{FirstBad}
use Rattle.rtl_text.specs.Tokens as tokens
use Rattle.rtl_text.specs.Tree.{ModuleTree}
use Rattle.rtl_text.specs.Productions.{Part, File, Is, Choice}
use Rattle.verilog_syntax.specs.Scanning.{token_view}
use Rattle.verilog_syntax.specs.declared.token.Placed.{Placed}
use Rattle.verilog_syntax.specs.declared.modules.ParseError.{ParseError}
use Rattle.verilog_syntax.specs.declared.modules.ParseError.TheVariants.{NoMemory, Syntax}

abbrev pub tokens_of : List Placed → List tokens.Token
tokens_of ts = map (λ (t : Placed). token_view t.token) ts

-- the place of a token in bytes, or the length of the text past the last one
abbrev pub place_of : List Placed → ℕ → ℕ → ℕ
place_of ts size k = slice_index_or (map (λ (t : Placed). t.at) ts) k size

-- a whole text, with any trees
abbrev pub IsFile : Part → Type 0
IsFile p = (trees : List ModuleTree) × (p ≡ File trees)

-- the token at the place is the first that no text has after the tokens before it
pub record IsFirstBad (ts : List Placed) (size at : ℕ) : Type 0 where
  pub token : ℕ
  pub bad : FirstBad Is Choice IsFile (tokens_of ts) token
  pub place : at ≡ place_of ts size token

abbrev pub IsRefused : List Placed → ℕ → ParseError → Type 0
IsRefused ts size NoMemory = Unit {0}
IsRefused ts size (Syntax at) = IsFirstBad ts size at
