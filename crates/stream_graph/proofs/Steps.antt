-- What the code that makes nodes does for one call.
use Rattle.std.specs.Prelude.{Bool, true, false}
use Rattle.kernel_calls.specs.declared.call.Call.{Call}
use Rattle.kernel_calls.specs.declared.call.Call.TheVariants as C

-- the call makes a node and changes no other one
abbrev pub is_plain_call : Call → Bool
is_plain_call (C.Connect feed value) = false
is_plain_call (C.ChainDigit chain d) = false
is_plain_call _ = true
