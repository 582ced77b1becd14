use Rattle.std.proofs.Common.{◌≡◌, ◌*◌, length, take}
use Rattle.sha256.specs.Message.{digest_of}
use Rattle.sha256.proofs.digest_bytes.Given as goal

abbrev pub invariant-loop-i : goal.invariant-loop-i
invariant-loop-i l = record { long : length l.d ≡ 32; front : take (4 * l.i) l.d ≡ digest_of (take l.i l.fn.h) }
