-- The name and the hash of a transaction (Transaction Service 1.4, interface Coordinator: get_transaction_name,
-- hash_transaction and hash_top_level_tran). The standard leaves both to the service: these are our profile.
use Rattle.std.specs.Prelude.{ℕ, ◌+◌, ◌*◌, ◌%◌, ◌^◌, List, [], ◌∷◌, if◌then◌else◌}
use Rattle.std.specs.List.{fold, join_with_byte}
use Rattle.std.specs.Fmt.{decimal, signed_decimal}
use Rattle.hex.specs.Hex.{encode_lower}
use Rattle.otid_names.specs.Otid.{OtidParts}
use Rattle.otid_names.specs.Own.{is_own, numbers_in}
use Rattle.otid_names.specs.declared.otid.OwnNumbers.{OwnNumbers}

-- four numbers in decimal
abbrev pub own_words : OwnNumbers → List (List ℕ)
own_words n = decimal n.service ∷ decimal n.life ∷ decimal n.generation ∷ decimal n.branch ∷ []

-- the formatID in decimal, and the tid in hexadecimal
abbrev pub foreign_words : OtidParts → List (List ℕ)
foreign_words o = signed_decimal o.format ∷ encode_lower o.tid ∷ []

-- words, parted by dots
abbrev pub dotted : List (List ℕ) → List ℕ
dotted words = join_with_byte 46 words

-- the name of a transaction
abbrev pub name : OtidParts → List ℕ
name o = dotted (if is_own o then own_words (numbers_in o.tid) else foreign_words o)

-- a hash, and one more octet
abbrev pub hashed : ℕ → ℕ → ℕ
hashed sum octet = (sum * 31 + octet) % 2 ^ 32

-- the hash of a transaction, from the octets of its tid
abbrev pub hash : OtidParts → ℕ
hash o = fold hashed 0 o.tid
