-- `big_endian::put` meets its contract: the bytes are copied, or nothing where they do not fit. Assumes nothing.
use Rattle.std.proofs.Common.{sym, arith}
use Rattle.big_endian.proofs.Fits.{put-none, part_put}
use Rattle.big_endian.proofs.put.Goals.{else-bytes-out-via-then-bytes-out+else-at-out, else-bytes-out-via-else-bytes-out}
use Rattle.big_endian.proofs.put.Goals as goal

pub returns-then-at-out : goal.returns-then-at-out
returns-then-at-out c = rw c.copy_from_slice.ensures.after (part_put c.args.at _ c.args.out.now (omega (arith, c.if-bytes-out.true, c.if-at-out.true)))

pub returns-else-bytes-out : goal.returns-else-bytes-out
returns-else-bytes-out c = elim c.else-bytes-out.branch [
  | else-bytes-out-via-then-bytes-out+else-at-out w ↦ sym (put-none _ _ _ (omega (arith, w.if-bytes-out.true, w.if-at-out.false)))
  | else-bytes-out-via-else-bytes-out w ↦ sym (put-none _ _ _ (omega (arith, w.if-bytes-out.false)))
]
