use Rattle.std.proofs.Common.{refl}
use Rattle.link_fifo.proofs.assigns.add_address.Goals as goal

pub returns : goal.returns
returns c =
    rw (
      c.in_ok-extend_from_slice.ensures.items,
      c.gets.ensures,
      c.gets-2.ensures,
      c.gets-3.ensures,
      c.gets-4.ensures,
      c.gets-5.ensures,
      c.gets-6.ensures,
      c.gets-7.ensures,
      c.gets-8.ensures,
      c.gets-9.ensures,
      c.gets-10.ensures,
      c.gets-11.ensures,
      c.gets-12.ensures,
      c.concat.ensures,
      c.concat-2.ensures,
      c.binary.ensures,
      c.binary-2.ensures,
      c.binary-3.ensures,
      c.low_part.ensures,
      c.choose.ensures,
    ) refl
