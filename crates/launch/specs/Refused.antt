-- A refusal by a rule that is tried before the image is hashed: it shows nothing of a digest.
use Rattle.std.specs.Prelude.{replicate}
use Rattle.rules.specs.declared.refusal.Refusal.{Refusal}
use Rattle.launch.specs.declared.Refused.{Refused}

abbrev pub early : Refusal → Refused
early r = record { refusal = r; measurement = replicate 32 0 }
