use Rattle.std.proofs.Common.{◌≡◌, ◌≤◌, ℕ, zero, suc, drop, length, List, [], ◌∷◌, refl, ap, arith}
use Rattle.kernel_control.specs.declared.handshakes.Handshake.{Handshake}
use Rattle.kernel_control.specs.Due.{latest_time}
use Rattle.kernel_control.proofs.Listing.{no_handshake, handshakes_front}
use Rattle.kernel_control.proofs.control.latest.Goals as goal

none_latest : (k : ℕ) (hs : List Handshake) → length hs ≤ k → latest_time (drop k hs) ≡ 0
none_latest zero [] h = refl
none_latest (suc k) [] h = refl
none_latest zero (x ∷ hs) h = absurd (omega arith)
none_latest (suc k) (x ∷ hs) h = none_latest k hs (omega arith)

pub loop-port-init : goal.loop-port-init
loop-port-init c = omega arith

pub loop-port-preserved : goal.loop-port-preserved
loop-port-preserved c =
    let i = c.loop-port.invariant in
    let front = ap latest_time (handshakes_front c.args.ports.now c.loop-port.port-index no_handshake c.loop-port-test.true) in
    omega (arith, i, front, c.max-last.ensures)

pub returns : goal.returns
returns c =
    let i = c.loop-port.invariant in
    let e = none_latest c.loop-port.port-index c.args.ports.now c.loop-port-test.false in
    omega (arith, i, e)
