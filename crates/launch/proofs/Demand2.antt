-- Demand 2: `demand2`. The number is 0 exactly where every rule holds; what a permission then gives; and 29 is given only where no list permits.
use mathlib.Core.Path.{sym, ◌∙◌}
use Rattle.launch.specs.Demand2.{Demand2}
use Rattle.launch.proofs.Demand1.{number_is}
use Rattle.launch.proofs.Meaning.{all_say}
use Rattle.launch.proofs.Permitting.{permitted_means}
use Rattle.launch.proofs.Given.{given}
use Rattle.launch.proofs.Last.{no_list_lem}

pub demand2 : Demand2
demand2 i places b told =
    record {
      exactly = (λ e. (permitted_means i).1 ((all_say i b).0 (sym (number_is i) ∙ e)), λ h. number_is i ∙ (all_say i b).1 ((permitted_means i).0 h));
      gives = λ e. given i places b told (sym (number_is i) ∙ e);
      no_list = λ e. no_list_lem i places b (sym (number_is i) ∙ e);
    }
