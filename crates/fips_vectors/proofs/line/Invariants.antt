-- The loop writes the digits of one byte at each turn.
use Rattle.std.proofs.Common.{◌≡◌, length}
use Rattle.fips_vectors.proofs.Text.{Written}
use Rattle.fips_vectors.proofs.line.Given as goal

abbrev pub invariant-loop-i : goal.invariant-loop-i
invariant-loop-i l = record { long : length l.text ≡ 65; written : Written l.fn.digest l.text l.i }
