-- A file that is written.
use Rattle.std.proofs.Common.{Result, Ok, Err}
use Rattle.std.specs.Prelude.{OnOk}

-- what follows of a call that answers Ok, where something holds
pub on_ok_where : {T E A : Type 0} (B : Type 0) (r : Result T E) → (A → OnOk r B) → OnOk r (A → B)
on_ok_where B (Ok x) f = f
on_ok_where B (Err e) f = tt
