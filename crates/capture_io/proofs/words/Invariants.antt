use Rattle.std.proofs.Common.{◌≡◌, ◌++◌, take, drop}
use Rattle.capture_io.specs.Unread.{words}
use Rattle.capture_io.proofs.words.Given as goal

abbrev pub invariant-loop-end : goal.invariant-loop-end
invariant-loop-end l = words l.text ≡ take l.end l.text ++ words (drop l.end l.text)
