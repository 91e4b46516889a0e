-- A place where a text has no token.
use Rattle.std.proofs.Common.{◌≡◌, ◌-◌, ℕ, List, [], length, map, ap, length-append, arith}
use Rattle.text_scan.specs.Gaps.{BeginsNoGap}
use Rattle.text_scan.proofs.Places.{front, plain}
use Rattle.verilog_syntax.specs.Scanning.{PlacedToken, ReadsAt, BeginsNoToken, HasNoToken}

pub no_token : {text rest : List ℕ} {ts : List PlacedToken} → ReadsAt 0 text ts rest → (rest ≡ [] → ⊥) → BeginsNoGap rest → BeginsNoToken rest → HasNoToken text (length text - length rest)
no_token {text = text} {rest = rest} {ts = ts} r some gap none =
    let (f, e) = front r in
    record {
      front = f;
      rest = rest;
      split = e;
      at = (let m = ap length e in let n = length-append f rest in omega arith);
      tokens = map (λ (p : PlacedToken). p.token) ts;
      read = plain r;
      stuck = record { some = some; no_gap = gap; no_token = none };
    }
