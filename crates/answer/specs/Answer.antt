-- The answer of a refusal, and the list number where there is no list.
use Rattle.std.specs.Prelude.{ℕ, replicate}
use Rattle.answer.specs.declared.Answer.{Answer}

-- "Under ANY the list is 255", and so it is where no list permits
abbrev pub no_list : ℕ
no_list = 255

-- "A refusal has page count 0, list 255, digest all zero", and its place
abbrev pub refused : ℕ → ℕ → Answer
refused n p = record { number = n; pages = 0; list = no_list; place = p; digest = replicate 32 0 }
