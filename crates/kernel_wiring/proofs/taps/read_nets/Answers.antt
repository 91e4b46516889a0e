use Rattle.std.proofs.Common.{◌∙◌, ◌<◌, ◌++◌, List, map, length, ap, sym, subst, append-nil}
use Rattle.std.proofs.Math.ListN.{drop_of_length-le}
use Rattle.kernel_layout.specs.declared.reads.Read.{Read}
use Rattle.kernel_layout.specs.Reads.{no_read, read_at}
use Rattle.kernel_wiring.specs.Words.{read_net, reads_at, IsReadIn}
use Rattle.kernel_wiring.proofs.Building.{same_reads}
use Rattle.kernel_wiring.proofs.taps.read_nets.Goals as goal

pub read_signal-requires : goal.read_signal-requires
read_signal-requires c =
    let layout = c.args.layout.now in
    let late = c.args.late.now in
    let words = c.args.words.now in
    let i = c.loop-read.read-index in
    let same = c.as_slice-reads.ensures ∙ same_reads layout c.args.node c.index.result c.at.result.now c.index.ensures.number c.at.ensures in
    let inside : i < length (reads_at layout c.args.node) = subst (λ (rs : List Read). i < length rs) same c.loop-read-test.true in
    subst (λ rs. IsReadIn layout late words (read_at rs i)) (sym same) (c.requires.reads i no_read inside)

pub returns : goal.returns
returns c =
    let layout = c.args.layout.now in
    let late = c.args.late.now in
    let words = c.args.words.now in
    let same = c.as_slice-reads.ensures ∙ same_reads layout c.args.node c.index.result c.at.result.now c.index.ensures.number c.at.ensures in
    let f = read_net layout late words in
    let none = drop_of_length-le c.as_slice-reads.result.now c.loop-read-test.false in
    sym (append-nil c.loop-read.nets.items) ∙ ap (λ rs. c.loop-read.nets.items ++ map f rs) (sym none) ∙ c.loop-read.invariant.told ∙ ap (map f) same
