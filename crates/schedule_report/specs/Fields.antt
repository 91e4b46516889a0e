-- The parts of a line: numbers behind labels, and a kernel's name, counts and bits.
use Rattle.std.specs.Prelude.{◌≡◌, ℕ, ℤ, ◌^◌, ◌<◌, ◌≤◌, List, ◌++◌, codes, unsigned_abs, IsTrue}
use Rattle.std.specs.Fmt.{decimal}
use Rattle.text_scan.specs.Classes.{BeginsOutside}
use Rattle.text_scan.specs.declared.bytes.ByteClass.TheVariants.{Digit}
use Rattle.kernel_calls.specs.Laws.{is_port_name}
use Rattle.schedule_report.specs.Reports.{time_line}

-- the text is this number below the limit, and then the rest, which no digit begins
pub record IsNumber (text : List ℕ) (limit value : ℕ) (rest : List ℕ) : Type 0 where
  pub text_is : text ≡ decimal value ++ rest
  pub small : value < limit
  pub apart : BeginsOutside Digit rest

-- the same behind a label
pub record IsField (text label : List ℕ) (limit value : ℕ) (rest : List ℕ) : Type 0 where
  pub text_is : text ≡ label ++ (decimal value ++ rest)
  pub small : value < limit
  pub apart : BeginsOutside Digit rest

-- the text is the label and this number below the limit
pub record IsLast (text label : List ℕ) (limit value : ℕ) : Type 0 where
  pub text_is : text ≡ label ++ decimal value
  pub small : value < limit

-- the line says this time
pub record IsTime (line : List ℕ) (time : ℤ) : Type 0 where
  pub line_is : line ≡ time_line time
  pub small : unsigned_abs time ≤ 2 ^ 60

-- the line of a kernel with this name, these counts and these bits
pub record IsHeadLine (line name : List ℕ) (nodes edges bits : ℕ) : Type 0 where
  pub line_is : line ≡ codes "kernel " ++ name ++ codes " nodes " ++ decimal nodes ++ codes " edges " ++ decimal edges ++ codes " bits " ++ decimal bits
  pub named : IsTrue (is_port_name name)
  pub nodes_small : nodes < 2 ^ 32
  pub edges_small : edges < 2 ^ 32
  pub bits_small : bits < 2 ^ 63
