-- The layout of a policy file: every field in file order, with its width and its rule. It decides which field is at fault: the rules on the bytes that
-- are left change no string that is accepted, but say that "a size, or a 0x10 or 0x14 count, that reaches past what holds it is that field's fault".
use Rattle.std.specs.Prelude.{ℕ, ◌+◌, ◌*◌, ◌-◌, Bool, cond, ◌&&◌, ◌||◌, ◌++◌, take, drop, leb, eqb}
use Rattle.field.specs.Field.{same}
use Rattle.policy_grammar.specs.Grammar.{Digests, Body, Element, digest_length, launch_type, stm_type, Signing, unsigned_algorithm, PolicyList, Reading, mark_characters, four_zeros, three_zeros, most_lists}
use Rattle.policy_grammar.specs.Grammar as Grammar
use Rattle.policy_grammar.specs.Format.{Format, ◌>>=◌, done, number, string, any, any_bytes, rest, inside, times, many}

-- the count answers for the digests; bytes behind the last of them are those of no field
unfoldable pub digests : Format Digests
digests = do
  a ← number 2 (λ left a. leb 1 (digest_length a))
  n ← number 2 (λ left n. leb (n * digest_length a) left)
  ds ← times n (string (digest_length a) any_bytes)
  done (record { hash_alg = a; count = n; digests = ds })

unfoldable pub launch : Format Body
launch = do
  m ← number 1 any
  v ← number 1 any
  ds ← digests
  done (Grammar.launch (record { sinit_min_version = m; reserved = v; digests = ds }))

unfoldable pub stm : Format Body
stm = do
  ds ← digests
  done (Grammar.stm ds)

unfoldable pub other : Format Body
other = do
  b ← rest
  done (Grammar.other b)

unfoldable pub body : ℕ → Format Body
body type = cond (eqb type launch_type) launch (cond (eqb type stm_type) stm other)

-- the size counts itself, which is 4 bytes, and answers for type, control and body
unfoldable pub element : Format Element
element = do
  n ← number 4 (λ left n. leb 12 n && leb n (4 + left))
  t ← number 4 any
  c ← number 4 any
  b ← inside (n - 12) (body t)
  done (record { size = n; type = t; control = c; body = b })

-- "the key size answers for key and signature together"
unfoldable pub signed : Format Signing
signed = do
  c ← number 2 any
  k ← number 2 (λ left k. (eqb k 256 || eqb k 384) && leb (k + k) left)
  key ← string k any_bytes
  signature ← string k any_bytes
  done (Grammar.signed (record { counter = c; key_size = k; key = key; signature = signature }))

unfoldable pub signing : ℕ → Format Signing
signing algorithm = cond (eqb algorithm 0x0014) signed (done Grammar.unsigned)

abbrev pub known_version : ℕ → Bool
known_version v = eqb v 0x0200 || eqb v 0x0201

-- the elements size answers for the elements
unfoldable pub list : Format PolicyList
list = do
  v ← number 2 (λ left v. known_version v)
  a ← number 2 (λ left a. eqb a unsigned_algorithm || eqb a 0x0014)
  n ← number 4 (λ left n. leb n left)
  es ← inside n (many n element)
  g ← signing a
  done (record { version = v; signature_algorithm = a; elements_size = n; elements = es; signing = g })

-- "the 32-byte mark is one field and the 3 zeros another": the 28 characters and 4 zeros are the mark. The list count answers for no list: one that is
-- missing is at fault itself
unfoldable pub file : Format Reading
file = do
  m ← string 32 (λ b. same b (mark_characters ++ four_zeros))
  z ← string 3 (λ b. same b three_zeros)
  n ← number 1 (λ left n. leb 1 n && leb n most_lists)
  ls ← times n list
  done (record { mark = take 28 m; mark_zeros = drop 28 m; reserved = z; list_count = n; lists = ls })

-- "nothing after"; "extra bytes after a part's last field give the offset of the first of them"
unfoldable pub whole : ℕ → Format Reading
whole n = inside n file
