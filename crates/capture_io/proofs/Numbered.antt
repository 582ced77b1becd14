-- The system's words of a text, by how much of it has been passed: the number stands at no place before.
use Rattle.std.proofs.Common.{◌≡◌, ℕ, ◌+◌, ◌-◌, ◌<◌, ◌≤◌, Bool, true, false, List, [], ◌∷◌, ◌++◌, length, get_or, take, drop, refl, sym, ap, ◌∙◌, append_assoc, append-nil, add-one, arith, drop-cons, nat_eq, drop_of_length-le, take_all, length-drop}
use Rattle.std.proofs.lemmas.List.{take_more}
use Rattle.std.specs.List.{starts_with}
use Rattle.capture_io.specs.Unread.{numbered, words}

-- the number begins here
pub stopped : (text : List ℕ) → starts_with nat_eq text numbered ≡ true → words text ≡ []
unfolding words
stopped [] e = refl
stopped (b ∷ text) e = rw e

-- it does not begin at i
pub passed : (text : List ℕ) (i : ℕ) → i < length text → starts_with nat_eq (drop i text) numbered ≡ false
    → words (drop i text) ≡ get_or text i 0 ∷ words (drop (i + 1) text)
unfolding words
passed text i h e =
    let front = drop-cons text i 0 h in
    rw (front, add-one, (rw front at e))

pub onward : (text : List ℕ) (i : ℕ) → i < length text → starts_with nat_eq (drop i text) numbered ≡ false
    → words text ≡ take i text ++ words (drop i text) → words text ≡ take (i + 1) text ++ words (drop (i + 1) text)
onward text i h e so_far =
    so_far ∙ ap (λ (l : List ℕ). take i text ++ l) (passed text i h e)
    ∙ sym (append_assoc (take i text) (get_or text i 0 ∷ []) (words (drop (i + 1) text)))
    ∙ sym (ap (λ (l : List ℕ). l ++ words (drop (i + 1) text)) (take_more text i 0 h))

pub ended : (text : List ℕ) (i : ℕ) → words (drop i text) ≡ [] → words text ≡ take i text ++ words (drop i text) → take i text ≡ words text
ended text i e so_far = sym (so_far ∙ rw e (append-nil (take i text)))

pub none_left : (text : List ℕ) (i : ℕ) → length text ≤ i → words (drop i text) ≡ []
unfolding words
none_left text i h = rw (drop_of_length-le text h)

-- what the code asks at i, of all that is left there
pub tested : (text : List ℕ) (i : ℕ) (r b : Bool) → r ≡ starts_with nat_eq (take (length text - i) (drop i text)) numbered → r ≡ b
    → starts_with nat_eq (drop i text) numbered ≡ b
tested text i r b e q =
    let all : take (length text - i) (drop i text) ≡ drop i text = take_all (length text - i) (drop i text) (omega (arith, length-drop i text)) in
    sym (rw all at e) ∙ q
