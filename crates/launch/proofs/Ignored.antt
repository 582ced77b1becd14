-- Reserved ranges past the count change nothing: every rule reads the count and the ranges within it alone.
use mathlib.Core.Path.{refl}
use Rattle.launch.specs.Rules.{reserved_tests, platform_tests, rules}
use Rattle.launch.specs.Answer.{answer_of, places_of, measurement_of}
use Rattle.launch.specs.Ignored.{PastCountIgnored}

pub past_count_ignored : PastCountIgnored
unfolding answer_of places_of measurement_of rules platform_tests reserved_tests
past_count_ignored i r s places same = rw (same.numbers, same.count) (refl, refl, refl)
